-- Symbols and texts. A symbol is a byte as a number, a text is a list of symbols.
--     bytes, is        literals: a text in quotes, and the test for one symbol
--     solidus, ..      the marks: spare byte values, which no formula holds
--     blank, ..        classes of symbols
--     and_then          the Rust's `if let Some(..)`, one in another
--     starts, find, .. tests and searches of `str`, on lists. A search gives the text from the place on, and no offset
-- Assumes nothing.
use Rattle.std.specs.Prelude.{Bool, true, false, not, ◌&&◌, ◌||◌, List, [], ◌∷◌, reverse, ℕ, pred, ◌-◌, eqb, leb, length, take}
use Rattle.std.proofs.Math.Option.{Option, none, some}
use Prim.Native.Char.{Char, code}
use Prim.Native.String.{String, [] as []ˢ, ◌∷◌ as ◌∷ˢ◌}

abbrev pub bytes : String → List ℕ
bytes []ˢ = []
bytes (c ∷ˢ s) = code c ∷ bytes s

abbrev pub is : Char → ℕ → Bool
is c x = eqb x (code c)

-- ---- marks
-- document 01's solidus mark: the Rust's U+2044
abbrev pub solidus : ℕ
solidus = 1

-- where a `\text{..}` block is held out
abbrev pub text_mark : ℕ
text_mark = 2

-- where a `\mathrm{..}` block is held out
abbrev pub roman_mark : ℕ
roman_mark = 3

-- ---- classes
abbrev pub between : ℕ → ℕ → ℕ → Bool
between a b x = leb a x && leb x b

abbrev pub digit : ℕ → Bool
digit x = between (code "0") (code "9") x

abbrev pub letter : ℕ → Bool
letter x = between (code "a") (code "z") x || between (code "A") (code "Z") x

abbrev pub alnum : ℕ → Bool
alnum x = letter x || digit x

-- document 01's word character
abbrev pub wordly : ℕ → Bool
wordly x = alnum x || is "_" x

-- document 01's whitespace: space, tab, newline
abbrev pub blank : ℕ → Bool
blank x = is " " x || (is "\t" x || is "\n" x)

-- number 1: a byte that no formula has, nor the LaTeX of a table
abbrev pub foreign : ℕ → Bool
foreign x = not (between (code " ") (code "~") x || (is "\t" x || is "\n" x))

-- `_` or `^`
abbrev pub script_sign : ℕ → Bool
script_sign x = is "_" x || is "^" x

-- ---- options
infixr 10 ◌and_then◌
abbrev pub ◌and_then◌ : {A B : Type 0} → Option A → (A → Option B) → Option B
none and_then f = none
some a and_then f = f a

abbrev pub is_some : {A : Type 0} → Option A → Bool
is_some none = false
is_some (some a) = true

-- ---- lists
-- 0 stands for no symbol: at the start of a text, and behind its end
abbrev pub head : List ℕ → ℕ
head [] = 0
head (x ∷ s) = x

abbrev pub past : List ℕ → List ℕ
past [] = []
past (x ∷ s) = s

abbrev pub all : (ℕ → Bool) → List ℕ → Bool
all f [] = true
all f (x ∷ s) = f x && all f s

abbrev pub any : (ℕ → Bool) → List ℕ → Bool
any f [] = false
any f (x ∷ s) = f x || any f s

abbrev pub same : List ℕ → List ℕ → Bool
same [] [] = true
same [] (y ∷ t) = false
same (x ∷ s) [] = false
same (x ∷ s) (y ∷ t) = eqb x y && same s t

abbrev pub empty : List ℕ → Bool
empty [] = true
empty (x ∷ s) = false

-- the part of s before its end r
abbrev pub until : List ℕ → List ℕ → List ℕ
until s r = take (length s - length r) s

-- the same without its last symbol: what stands before the closer, or the comma, that r stands behind
abbrev pub inside : List ℕ → List ℕ → List ℕ
inside s r = take (pred (length s - length r)) s

-- ---- trimming
abbrev pub drop_while : (ℕ → Bool) → List ℕ → List ℕ
drop_while f [] = []
drop_while f (x ∷ s) = elim (f x) [ true ↦ drop_while f s | false ↦ x ∷ s ]

abbrev pub drop_while_end : (ℕ → Bool) → List ℕ → List ℕ
drop_while_end f s = reverse (drop_while f (reverse s))

abbrev pub trim_start : List ℕ → List ℕ
trim_start s = drop_while blank s

abbrev pub trim : List ℕ → List ℕ
trim s = drop_while_end blank (drop_while blank s)

-- the Rust's `trim_matches('"')`
abbrev pub trim_quotes : List ℕ → List ℕ
trim_quotes s = drop_while_end (is "\"") (drop_while (is "\"") s)

-- ---- searches
-- the text begins with the pattern
abbrev pub starts : List ℕ → List ℕ → Bool
starts [] s = true
starts (k ∷ w) [] = false
starts (k ∷ w) (x ∷ s) = starts w s && eqb x k

abbrev pub ends : List ℕ → List ℕ → Bool
ends w s = starts (reverse w) (reverse s)

abbrev pub contains : List ℕ → List ℕ → Bool
contains w [] = false
contains w (x ∷ s) = starts w (x ∷ s) || contains w s

-- the text from the pattern's first occurrence on
unfoldable pub find : List ℕ → List ℕ → Option (List ℕ)
find w [] = none
find w (x ∷ s) = elim (starts w (x ∷ s)) [ true ↦ some (x ∷ s) | false ↦ find w s ]
