-- The end of convert_syntax and of typst_to_latex: set braces, `lr`, sizing, percent, alignment, thin spaces. Assumes nothing.
use Rattle.std.specs.Prelude.{Bool, true, false, not, cond, ◌&&◌, ◌||◌, ℕ, zero, suc, pred, ◌/◌, ◌%◌, eqb, length, take}
use mathlib.Core.List.{List, [], ◌∷◌, ◌++◌, reverse, reverse_aux}
use Rattle.std.proofs.Math.Option.{Option, none, some}
use Prim.Native.Char.{code}
use Rattle.spec.specs.Symbols.{bytes, is, ◌and_then◌, letter, alnum, script_sign, head, past, same, empty, until, inside, drop_while, trim, starts, ends, contains}
use Rattle.spec.specs.Sweep.{Rule, sweep, reached, replace}
use Rattle.spec.specs.Closing.{close, matching_delimiter}
use Rattle.spec.specs.Calls.{call_at, calling}
use Rattle.spec.specs.Result.{Result, refused, stage}

-- ---- escape_set_braces; the stack says of each open brace whether it groups, the last opened first
abbrev pub groups_behind : ℕ → Bool
groups_behind before = is "_" before || (is "^" before || (is "{" before || (is "}" before || (alnum before || is "\\" before))))

-- an unmatched closer stays bare
abbrev pub top : List Bool → Bool
top [] = true
top (b ∷ bs) = b

abbrev pub popped : List Bool → List Bool
popped [] = []
popped (b ∷ bs) = bs

abbrev pub brace : Bool → ℕ → List ℕ
brace groups x = cond groups (x ∷ []) (code "\\" ∷ x ∷ [])

unfoldable pub escape_braces : List Bool → ℕ → List ℕ → List ℕ
escape_braces stack before [] = []
escape_braces stack before (x ∷ s) =
    elim (is "{" x) [
      | true ↦ brace (groups_behind before) x ++ escape_braces (groups_behind before ∷ stack) x s
      | false ↦ elim (is "}" x) [ true ↦ brace (top stack) x ++ escape_braces (popped stack) x s | false ↦ x ∷ escape_braces stack x s ]
    ]

unfoldable pub escape_set_braces : List ℕ → List ℕ
unfolding escape_braces
escape_set_braces s = escape_braces [] 0 s

-- ---- convert_lr: the first symbol inside decides, and the last is dropped unread
pub record Delimiters : Type 0 where
  pub left : List ℕ
  pub right : List ℕ

abbrev pub delimiters : ℕ → Option Delimiters
delimiters x =
    elim (is "(" x) [
      | true ↦ some (record { left = bytes "\\left("; right = bytes "\\right)" })
      | false ↦ elim (is "|" x) [
        | true ↦ some (record { left = bytes "\\left\\lvert "; right = bytes " \\right\\rvert" })
        | false ↦ elim (is "[" x) [
          | true ↦ some (record { left = bytes "\\left["; right = bytes "\\right]" })
          | false ↦ elim (is "{" x) [ true ↦ some (record { left = bytes "\\left\\{"; right = bytes "\\right\\}" }) | false ↦ none ]
        ]
      ]
    ]

-- with an empty inside, or another first symbol, only `lr(` and `)` are dropped
abbrev pub latex_lr : List ℕ → List ℕ
latex_lr inner =
    elim (delimiters (head inner)) [
      | some d ↦ d.left ++ take (pred (pred (length inner))) (past inner) ++ d.right
      | none ↦ inner
    ]

abbrev pub lr : Rule
lr = calling (λ s. s) (bytes "lr(") latex_lr

-- Number 8: the inside is a delimiter alone, and the Rust panics. Only `[` and `|` can be: a `(` would take the closer of `lr(` for its own, and a `{`
-- behind `lr(` has been escaped.
abbrev pub bare_delimiter : List ℕ → Bool
bare_delimiter s =
    elim (call_at (λ s. s) (bytes "lr(") s) [
      | some inner ↦ eqb (length inner) 1 && elim (delimiters (head inner)) [ some d ↦ true | none ↦ false ]
      | none ↦ false
    ]

unfoldable pub convert_lr : List ℕ → Result (List ℕ)
unfolding sweep reached call_at
convert_lr s = elim (reached bare_delimiter lr 0 0 s) [ true ↦ refused 8 | false ↦ stage (sweep lr 0 0) s ]

-- ---- size_delimiters_to_content; what was written so far, on this level, stands last first
-- The tall field (document 02, A13): each of the five commands that cause sizing has a bit, and counts where it is 1. With all five it is the Rust's.
abbrev pub all_tall : ℕ
all_tall = 31

-- the bit of that value
abbrev pub bit : ℕ → ℕ → Bool
bit value field = eqb ((field / value) % 2) 1

abbrev pub frac_bit : ℕ → Bool
frac_bit field = bit 16 field

abbrev pub tall : ℕ → List ℕ → Bool
tall field s =
    frac_bit field && contains (bytes "\\frac") s
    || (bit 8 field && contains (bytes "\\sqrt") s
    || (bit 4 field && contains (bytes "\\binom") s || (bit 2 field && contains (bytes "\\sum") s || bit 1 field && contains (bytes "\\int") s)))

-- behind the script group that begins with the sign x, if one does
abbrev pub script_group : ℕ → List ℕ → Option (List ℕ)
script_group x s = elim (script_sign x && is "{" (head s)) [ true ↦ matching_delimiter (code "{") (code "}") s | false ↦ none ]

abbrev pub closing : ℕ → Option ℕ
closing x = elim (is "(" x) [ true ↦ some (code ")") | false ↦ elim (is "[" x) [ true ↦ some (code "]") | false ↦ none ] ]

abbrev pub already_sized : List ℕ → Bool
already_sized o = starts (reverse (bytes "\\left")) o || starts (reverse (bytes "\\right")) o

pub record Group : Type 0 where
  pub closer : ℕ
  pub content : List ℕ
  pub behind : List ℕ

-- the tall group that x opens before s
unfoldable pub tall_group : ℕ → List ℕ → ℕ → List ℕ → Option Group
unfolding close
tall_group field o x s =
    elim (already_sized o) [
      | true ↦ none
      | false ↦
          closing x and_then λ c.
          matching_delimiter x c (x ∷ s) and_then λ r.
          cond (tall field (inside s r)) (some (record { closer = c; content = inside s r; behind = r })) none
    ]

abbrev pub left_right : ℕ → ℕ → List ℕ → List ℕ
left_right x c m = bytes "\\left" ++ (x ∷ (m ++ (bytes "\\right" ++ c ∷ [])))

-- one step; `go` sizes what is shorter
unfoldable pub size_step : ℕ → (List ℕ → List ℕ → List ℕ) → List ℕ → List ℕ → List ℕ
unfolding tall_group close
size_step field go o [] = []
size_step field go o (x ∷ s) =
    elim (script_group x s) [
      | some r ↦ let group = until (x ∷ s) r in group ++ go (reverse_aux group o) r
      | none ↦ elim (tall_group field o x s) [
        | some g ↦ let sized = left_right x g.closer (go [] g.content) in sized ++ go (reverse_aux sized o) g.behind
        | none ↦ x ∷ go (x ∷ o) s
      ]
    ]

-- k bounds the steps. Each takes at least one symbol, so a text's length is enough: `enough` in `crates/sizing/specs/Levels`
unfoldable pub size_with : ℕ → ℕ → List ℕ → List ℕ → List ℕ
unfolding size_step
size_with field zero o s = s
size_with field (suc k) o s = size_step field (size_with field k) o s

unfoldable pub size_delimiters_to_content : ℕ → List ℕ → List ℕ
unfolding size_with
size_delimiters_to_content field s = size_with field (length s) [] s

-- ---- percent
abbrev pub escape_percent : List ℕ → List ℕ
escape_percent s = replace (bytes "%") (bytes "\\%") s

-- ---- convert_alignment
abbrev pub has_alignment : List ℕ → Bool
has_alignment s = contains (bytes "&") s

abbrev pub has_line_breaks : List ℕ → Bool
has_line_breaks s = contains (bytes " \\\n") s || ends (bytes " \\") s

-- a backslash at the very end
abbrev pub last_break : List ℕ → List ℕ
last_break s = cond (ends (bytes " \\") s) (take (pred (length s)) s ++ bytes "\\\\") s

abbrev pub line_breaks : List ℕ → List ℕ
line_breaks s = last_break (replace (bytes " \\\n") (bytes " \\\\\n") s)

abbrev pub aligned : List ℕ → List ℕ
aligned s = bytes "\\begin{aligned}\n" ++ trim s ++ bytes "\n\\end{aligned}"

unfoldable pub convert_alignment : List ℕ → List ℕ
unfolding replace
convert_alignment s =
    elim (has_alignment s || has_line_breaks s) [
      | true ↦ elim (has_alignment s) [ true ↦ aligned (line_breaks s) | false ↦ line_breaks s ]
      | false ↦ s
    ]

-- ---- drop_thin_space_after_commands; p holds what stands before the `\;`, since the one before it, last first
abbrev pub atom_commands : List (List ℕ)
atom_commands = bytes "text" ∷ bytes "mathrm" ∷ bytes "operatorname" ∷ bytes "mathbf" ∷ bytes "mathit" ∷ []

abbrev pub one_of : List (List ℕ) → List ℕ → Bool
one_of [] w = false
one_of (v ∷ vs) w = same v w || one_of vs w

-- a control word alone, or with a braced argument, and none that sets an atom
abbrev pub spacing_command : List ℕ → List ℕ → Bool
spacing_command word tail = not (empty word) && ((empty tail || (is "{" (head tail) && is "}" (head (reverse tail)))) && not (one_of atom_commands word))

-- behind the last backslash
abbrev pub spacing : List ℕ → Bool
spacing s = let tail = drop_while letter s in spacing_command (until s tail) tail

-- q is p from its first backslash on
abbrev pub gap_from : List ℕ → List ℕ → List ℕ
gap_from p [] = bytes "\\;"
gap_from p (b ∷ q) = cond (spacing (reverse (until p (b ∷ q)))) [] (bytes "\\;")

abbrev pub gap : List ℕ → List ℕ
gap p = gap_from p (drop_while (λ x. not (is "\\" x)) p)

unfoldable pub thin_spaces : ℕ → List ℕ → List ℕ → List ℕ
thin_spaces skip p [] = []
thin_spaces (suc skip) p (x ∷ s) = thin_spaces skip p s
thin_spaces zero p (x ∷ s) = elim (starts (bytes "\\;") (x ∷ s)) [ true ↦ gap p ++ thin_spaces 1 [] s | false ↦ x ∷ thin_spaces 0 (x ∷ p) s ]

unfoldable pub drop_thin_space_after_commands : List ℕ → List ℕ
unfolding thin_spaces
drop_thin_space_after_commands s = thin_spaces 0 [] s
