-- The rule that every three symbols in a row keep in a plain text before sizing, and what may stand before and behind a factor.
use Rattle.std.specs.Prelude.{Bool, not, cond, ◌&&◌, ◌||◌, List, [], ◌∷◌, ℕ, eqb}
use Prim.Native.Char.{code}
use Rattle.spec.specs.Symbols.{bytes, letter, digit, alnum, script_sign}
use Rattle.plain_printing.specs.Classes.{any_of}

-- A sign c behind b: no `(` behind a letter or digit; `{` only behind `_`, `^`, `}` or the c of \frac; no `\` behind `_` or `^`; no sign behind `\`.
abbrev pub sign_rule : ℕ → ℕ → Bool
sign_rule b c =
    any_of (bytes " +-/()_^{}\\") c
    && (not (eqb c (code "(") && alnum b) && (not (eqb c (code "{") && not (any_of (bytes "_^}c") b)) && (not (eqb c (code "\\") && script_sign b) && not (eqb b (code "\\")))))

-- A letter or digit c behind a and b: no second one behind `_` or `^`; no digit behind `\`; and, once Greek names are marked, a second letter only
-- behind a letter or `\`.
abbrev pub word_rule : Bool → ℕ → ℕ → ℕ → Bool
word_rule marked a b c = not (alnum b && script_sign a) && (not (eqb b (code "\\") && digit c) && not (letter b && (letter c && (not (letter a || eqb a (code "\\")) && marked))))

abbrev pub rule : Bool → ℕ → ℕ → ℕ → Bool
rule marked a b c = cond (alnum c) (word_rule marked a b c) (sign_rule b c)

-- before an operand or a factor
pub data Before : ℕ → Type 0 where
  nothing : Before 0
  space : Before (code " ")
  slash : Before (code "/")
  paren : Before (code "(")
  brace : Before (code "{")

-- a factor ends in a letter, a digit or a closing bracket
abbrev pub ends_factor : ℕ → Bool
ends_factor b = alnum b || (eqb b (code ")") || eqb b (code "}"))

abbrev pub last : ℕ → List ℕ → ℕ
last b [] = b
last b (c ∷ s) = last c s

-- the signs of scripts
pub data Marker : ℕ → Type 0 where
  low : Marker (code "_")
  high : Marker (code "^")
