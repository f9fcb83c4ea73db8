-- What an entry matches: a definition, a row of a table, a literal replacement, `sqrt(`, a script's sign. The tests are those of the entry's
-- rule, and so the Rust's; a name that the Rust finds and spares is no match.
--     Match       whether a text holds a match of an entry. Of a literal replacement, `sqrt(`, `_(` and `^(` that is `contains` of the pattern
--     any_match    whether it holds a match of one of several entries
--     somewhere   whether a test holds at a place of a text: it is told, as a rule is, the symbol before the place and the text from there on
-- Assumes nothing.
use Rattle.std.specs.Prelude.{Bool, false, not, cond, ◌&&◌, ◌||◌, List, [], ◌∷◌, ℕ, eqb, ltb, length, drop}
use Prim.Native.Char.{code}
use Rattle.spec.specs.Symbols.{bytes, is, letter, alnum, wordly, head, past, until, drop_while, starts, contains, is_some}
use Rattle.spec.specs.Closing.{find_matching_brace}
use Rattle.spec.specs.Rows.{Row}
use Rattle.spec.specs.Words.{embedded, literal}
use Rattle.spec.specs.Table.{Definition}

abbrev pub Match : Type 0
Match = List ℕ → Bool

abbrev pub any_match : List Match → Match
any_match [] s = false
any_match (m ∷ ms) s = m s || any_match ms s

unfoldable pub somewhere : (ℕ → List ℕ → Bool) → ℕ → List ℕ → Bool
somewhere test before [] = false
somewhere test before (x ∷ s) = test before (x ∷ s) || somewhere test x s

-- ---- entries
-- functions and operators
abbrev pub literal_match : Row → Match
literal_match r s = contains r.typst s

-- Greek names, with no backslash before them and no letter on either side
abbrev pub greek_match : Row → Match
greek_match r s = somewhere (λ before t. starts r.typst t && not (embedded r.typst before t)) 0 s

-- words, with no word character and no backslash before them, and no letter or digit behind them
abbrev pub word_match : Row → Match
word_match r s =
    somewhere
    (λ before t. (starts r.typst t && not (wordly before)) && not (is "\\" before || alnum (head (drop (length r.typst) t))))
    0 s

abbrev pub word_or_literal_match : Row → Match
word_or_literal_match r = cond (literal r.typst) (literal_match r) (word_match r)

-- Phi and Psi, with no word character on either side and no backslash before them
abbrev pub capital_match : Row → Match
capital_match r s =
    somewhere
    (λ before t. (starts r.typst t && (not (wordly before) && not (wordly (head (drop (length r.typst) t))))) && not (is "\\" before))
    0 s

-- names of two bytes or more, with no word character before them and no letter behind them
abbrev pub defined_match : Definition → Match
defined_match d s =
    not (eqb (length d.name) 1)
    && somewhere (λ before t. starts d.name t && (not (wordly before) && not (letter (head (drop (length d.name) t))))) 0 s

-- ---- scripts
-- a sign with a closed `\text{..}` block behind it
abbrev pub wrap_text_match : ℕ → Match
wrap_text_match sign s = somewhere (λ before t. starts (sign ∷ bytes "\\text{") t && is_some (find_matching_brace (drop (length (sign ∷ bytes "\\text{")) t))) 0 s

-- a sign with two or more letters or digits behind it
abbrev pub wrap_multichar_match : ℕ → Match
wrap_multichar_match sign s = somewhere (λ before t. eqb (head t) sign && ltb 1 (length (until (past t) (drop_while alnum (past t))))) 0 s

abbrev pub script_matches : ℕ → List Match
script_matches sign = contains (sign ∷ bytes "(") ∷ (wrap_text_match sign ∷ (wrap_multichar_match sign ∷ []))

abbrev pub subscript_matches : List Match
subscript_matches = script_matches (code "_")

abbrev pub superscript_matches : List Match
superscript_matches = script_matches (code "^")

-- ---- blocks that are held out: no entry matches there, and yet the text is written anew
abbrev pub text_opening : Match
text_opening s = contains (bytes "\\text{") s

abbrev pub roman_opening : Match
roman_opening s = contains (bytes "\\mathrm{") s
