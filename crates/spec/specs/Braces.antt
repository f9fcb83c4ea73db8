-- Braces matched by a stack, and what document 02's A10 says of the brace step. Assumes nothing.
--     opener_of         the opener that a closer matches
--     inserted         a text with backslashes inserted
--     EscapesBraces    what the brace step does to a text: `set-braces` in proofs/Braces says that it does
use Rattle.std.specs.Prelude.{◌≡◌, Bool, true, false, not, cond, ◌||◌, List, [], ◌∷◌, ◌++◌, ◌⊎◌, ℕ, suc, eqb, take, get_or}
use Rattle.std.proofs.Math.Option.{Option, none, some}
use Prim.Native.Char.{code}
use Rattle.spec.specs.Symbols.{bytes, is, letter, digit, past, any}

-- ---- the matching: an opener goes on the stack, a closer takes the last one from it. The stack has the places of the openers, the last one first
-- the stack behind the symbol x at place i
abbrev pub symbol_stack : ℕ → ℕ → List ℕ → List ℕ
symbol_stack i x stack = elim (is "{" x) [ true ↦ i ∷ stack | false ↦ elim (is "}" x) [ true ↦ past stack | false ↦ stack ] ]

-- the stack behind a text that begins at place i
unfoldable pub text_stack : ℕ → List ℕ → List ℕ → List ℕ
text_stack i stack [] = stack
text_stack i stack (x ∷ s) = text_stack (suc i) (symbol_stack i x stack) s

abbrev pub last_opened : List ℕ → Option ℕ
last_opened [] = none
last_opened (i ∷ stack) = some i

-- the place of the opener that a closer at place j matches
abbrev pub opener_of : List ℕ → ℕ → Option ℕ
opener_of s j = last_opened (text_stack 0 [] (take j s))

-- ---- the step
-- a backslash before each symbol at a marked place, and nothing else
unfoldable pub inserted : (ℕ → Bool) → List ℕ → List ℕ
inserted marked [] = []
inserted marked (x ∷ s) = cond (marked 0) (bytes "\\") [] ++ (x ∷ inserted (λ i. marked (suc i)) s)

-- an opener behind one of these stays bare
abbrev pub keeps_bare : ℕ → Bool
keeps_bare before = letter before || (digit before || any (eqb before) (bytes "_^{}\\"))

-- t is s with backslashes before some of its braces; each mark is settled by one of the fields
pub record EscapesBraces (s t : List ℕ) : Type 0 where
  pub marked : ℕ → Bool
  pub inserts : t ≡ inserted marked s
  pub only-braces : (i : ℕ) → marked i ≡ true → (get_or s i 0 ≡ code "{") ⊎ (get_or s i 0 ≡ code "}")
  pub first-opener : get_or s 0 0 ≡ code "{" → marked 0 ≡ true
  pub opener : (i : ℕ) → get_or s (suc i) 0 ≡ code "{" → marked (suc i) ≡ not (keeps_bare (get_or s i 0))
  pub pair : (i j : ℕ) → get_or s j 0 ≡ code "}" → opener_of s j ≡ some i → marked i ≡ marked j
  pub unmatched : (j : ℕ) → get_or s j 0 ≡ code "}" → opener_of s j ≡ none → marked j ≡ false
