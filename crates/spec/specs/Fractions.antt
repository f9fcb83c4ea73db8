-- convert_fractions and the functions below it. A place in the text is two lists: the symbols before it, last first, and those from it on. A search
-- gives the list that is left over, so searches compose. Assumes nothing.
--     strip_outer_parens, is_inside_subscript_context, find_fraction_part_before, find_fraction_part_after    the Rust's functions
--     convert_regular_fractions     one round; none where number 9 is met
--     convert_fractions            the rounds, with numbers 5, 7 and 9
use Rattle.std.specs.Prelude.{Bool, true, false, not, cond, ◌&&◌, ◌||◌, ℕ, zero, suc, ◌+◌, ◌-◌, eqb, ltb, length, drop}
use mathlib.Core.List.{List, [], ◌∷◌, ◌++◌, reverse, reverse_aux}
use Rattle.std.proofs.Math.Option.{Option, none, some}
use Prim.Native.Char.{code}
use Rattle.spec.specs.Symbols.{bytes, is, solidus, digit, alnum, script_sign, head, past, any, same, until, trim_start, trim, starts, ends}
use Rattle.spec.specs.Closing.{opens, closes, neither, side, depth_after, close, level, or_end}
use Rattle.spec.specs.Result.{Result, passed, refused, most_symbols}

-- ---- strip_outer_parens
abbrev pub inner_or : List ℕ → List ℕ → List ℕ
inner_or s inner = elim (level (code "(") (code ")") 0 inner) [ true ↦ inner | false ↦ s ]

abbrev pub strip_trimmed : List ℕ → List ℕ
strip_trimmed s = elim (is "(" (head s) && is ")" (head (reverse s))) [ true ↦ inner_or s (reverse (past (reverse (past s)))) | false ↦ s ]

unfoldable pub strip_outer_parens : List ℕ → List ℕ
unfolding level
strip_outer_parens s = strip_trimmed (trim s)

-- ---- is_inside_subscript_context, on the symbols before the slash, with d closers to match
-- an opener that is not matched: `_(` or `_((`
abbrev pub script_opener : List ℕ → Bool
script_opener p = script_sign (head p) || (is "(" (head p) && script_sign (head (past p)))

unfoldable pub is_inside_subscript_context : ℕ → List ℕ → Bool
is_inside_subscript_context d [] = false
is_inside_subscript_context d (x ∷ p) =
    elim (side (code ")") (code "(") x) [
      | opens ↦ is_inside_subscript_context (suc d) p
      | closes ↦ elim d [
        | zero ↦ elim (script_opener p) [ true ↦ true | false ↦ is_inside_subscript_context 0 p ]
        | suc e ↦ is_inside_subscript_context e p
      ]
      | neither ↦ is_inside_subscript_context d p
    ]

-- ---- find_fraction_part_before: the symbols before the numerator, last first; the blanks before the slash have been passed
-- what an operand without brackets is made of
abbrev pub operand_symbol : ℕ → Bool
operand_symbol x = alnum x || (is "_" x || is "\\" x)

-- a decimal point counts between two digits
abbrev pub in_operand : ℕ → ℕ → ℕ → Bool
in_operand x y z = operand_symbol y || (is "." y && (digit x && digit z))

abbrev pub name_symbol : ℕ → Bool
name_symbol x = operand_symbol x || (is "^" x || is "}" x)

-- The name before a bracket, with its brace groups; d braces are to match, and one that has no match runs to the start of the text. The Rust's loop
-- behind a group inside the loop takes nothing that the outer loop would not, so the three kinds of brackets have one definition.
unfoldable pub name_before : ℕ → List ℕ → List ℕ
name_before d [] = []
name_before zero (x ∷ p) = elim (name_symbol x) [ true ↦ name_before (depth_after (side (code "}") (code "{") x) 0) p | false ↦ x ∷ p ]
name_before (suc d) (x ∷ p) = name_before (depth_after (side (code "}") (code "{") x) (suc d)) p

abbrev pub with_name : Option (List ℕ) → Option (List ℕ)
with_name none = none
with_name (some p) = some (name_before 0 p)

-- x stands behind
unfoldable pub word_before : ℕ → List ℕ → List ℕ
word_before x [] = []
word_before x (y ∷ p) = elim (in_operand x y (head p)) [ true ↦ word_before y p | false ↦ y ∷ p ]

unfoldable pub find_fraction_part_before : List ℕ → Option (List ℕ)
unfolding close name_before word_before
find_fraction_part_before [] = none
find_fraction_part_before (x ∷ p) =
    elim (is "}" x) [
      | true ↦ with_name (close (code "}") (code "{") 0 p)
      | false ↦ elim (is ")" x) [
        | true ↦ with_name (close (code ")") (code "(") 0 p)
        | false ↦ elim (is "]" x) [ true ↦ with_name (close (code "]") (code "[") 0 p) | false ↦ some (word_before x p) ]
      ]
    ]

-- ---- find_fraction_part_after: the symbols behind the denominator; the blanks behind the slash have been passed
abbrev pub factorials : List ℕ → List ℕ
factorials [] = []
factorials (x ∷ s) = elim (is "!" x) [ true ↦ factorials s | false ↦ x ∷ s ]

abbrev pub exponent : List ℕ → List ℕ
exponent [] = []
exponent (x ∷ s) =
    elim (is "{" x) [
      | true ↦ or_end (close (code "{") (code "}") 0 s)
      | false ↦ elim (alnum x || is "-" x) [ true ↦ s | false ↦ x ∷ s ]
    ]

abbrev pub power : List ℕ → List ℕ
power [] = []
power (x ∷ s) = elim (is "^" x) [ true ↦ exponent s | false ↦ x ∷ s ]

abbrev pub grouped : Option (List ℕ) → Option (List ℕ)
grouped none = none
grouped (some s) = some (power (factorials s))

-- x stands before
unfoldable pub word_after : ℕ → List ℕ → List ℕ
word_after x [] = []
word_after x (y ∷ s) = elim (in_operand x y (head s)) [ true ↦ word_after y s | false ↦ y ∷ s ]

-- behind the first `\rvert`; unchanged if there is none
abbrev pub rvert_from : List ℕ → List ℕ → List ℕ
rvert_from [] whole = whole
rvert_from (x ∷ s) whole = elim (starts (bytes "\\rvert") (x ∷ s)) [ true ↦ drop 6 (x ∷ s) | false ↦ rvert_from s whole ]

abbrev pub after_lvert : List ℕ → List ℕ → List ℕ
after_lvert word s = elim (ends (bytes "\\lvert") word) [ true ↦ rvert_from s s | false ↦ s ]

-- brace groups one after the other; d are open
unfoldable pub braces : ℕ → List ℕ → List ℕ
braces d [] = []
braces zero (x ∷ s) = elim (is "{" x) [ true ↦ braces 1 s | false ↦ x ∷ s ]
braces (suc d) (x ∷ s) = braces (depth_after (side (code "{") (code "}") x) (suc d)) s

abbrev pub bracket : List ℕ → List ℕ
bracket [] = []
bracket (x ∷ s) = elim (is "[" x) [ true ↦ or_end (close (code "[") (code "]") 0 s) | false ↦ x ∷ s ]

-- arguments belong to the denominator behind a power only; without one they mean that there is no fraction
abbrev pub arguments : Bool → List ℕ → Option (List ℕ)
arguments raised [] = some []
arguments raised (x ∷ s) =
    elim (is "(" x) [
      | true ↦ elim raised [ true ↦ some (or_end (close (code "(") (code ")") 0 s)) | false ↦ none ]
      | false ↦ some (x ∷ s)
    ]

abbrev pub shorter_than : ℕ → Option (List ℕ) → Option (List ℕ)
shorter_than n none = none
shorter_than n (some r) = elim (eqb (length r) n) [ true ↦ none | false ↦ some r ]

abbrev pub after_brackets : List ℕ → List ℕ → Option (List ℕ)
after_brackets s b = shorter_than (length s) (arguments (is "^" (head b)) (power b))

abbrev pub after_word : List ℕ → List ℕ → Option (List ℕ)
after_word s w = after_brackets s (bracket (braces 0 (after_lvert (until s w) w)))

unfoldable pub find_fraction_part_after : List ℕ → Option (List ℕ)
unfolding close word_after braces
find_fraction_part_after [] = none
find_fraction_part_after (x ∷ s) = elim (is "(" x) [ true ↦ grouped (close (code "(") (code ")") 0 s) | false ↦ after_word (x ∷ s) (word_after 0 (x ∷ s)) ]

-- number 9: the jump from `\lvert` to `\rvert` passes a solidus mark
abbrev pub passes_solidus : List ℕ → List ℕ → Bool
passes_solidus word w = ends (bytes "\\lvert") word && any (λ x. eqb x solidus) (until w (rvert_from w w))

unfoldable pub barred : List ℕ → Bool
unfolding word_after
barred s = not (is "(" (head s)) && passes_solidus (until s (word_after 0 s)) (word_after 0 s)

-- ---- convert_regular_fractions: one round
abbrev pub frac : List ℕ → List ℕ → List ℕ
frac num den = bytes "\\frac{" ++ (num ++ (bytes "}{" ++ (den ++ bytes "}")))

-- What a round has done so far, each place as the number of symbols before it: the end of the text that it rewrote last, and the slashes that it left
-- for the next round.
pub record Done : Type 0 where
  pub rewritten : ℕ
  pub left : List ℕ

abbrev pub nothing_done : Done
nothing_done = record { rewritten = 0; left = [] }

-- the last symbol is a slash that was left
abbrev pub behind_left : List ℕ → List ℕ → Bool
behind_left left [] = false
behind_left left (x ∷ p) = is "/" x && any (eqb (length p)) left

-- Document 02's A4: a slash is left whose numerator, which begins behind q, begins before the end of the text rewritten last, or right behind a slash that
-- was left, blanks apart.
abbrev pub is_left : Done → List ℕ → Bool
is_left done q = ltb (length q) done.rewritten || behind_left done.left (trim_start q)

-- how many symbols behind this one are passed, what is written then, last first, and what the round has done
pub record Step : Type 0 where
  pub skip : ℕ
  pub written : List ℕ
  pub done : Done

abbrev pub copied : Done → ℕ → List ℕ → Step
copied done x o = record { skip = 0; written = x ∷ o; done = done }

-- the slash behind p
abbrev pub leaving : Done → List ℕ → Done
leaving done p = record { rewritten = done.rewritten; left = length p ∷ done.left }

-- The numerator lies between q and the slash, the denominator between the slash and r. As many symbols as lie from the numerator's start to the slash
-- are dropped from the end of what was written.
abbrev pub fraction_of : Done → List ℕ → List ℕ → List ℕ → List ℕ → List ℕ → Step
fraction_of done p o s q r =
    record {
      skip = length s - length r;
      written = reverse_aux (frac (strip_outer_parens (reverse (until (trim_start p) q))) (strip_outer_parens (until (trim_start s) r))) (drop (length p - length q) o);
      done = record { rewritten = suc (length p) + (length s - length r); left = done.left };
    }

abbrev pub with_denominator : Done → List ℕ → List ℕ → List ℕ → List ℕ → Option (List ℕ) → Step
with_denominator done p o s q none = copied done (code "/") o
with_denominator done p o s q (some r) = fraction_of done p o s q r

abbrev pub with_numerator : Done → List ℕ → List ℕ → List ℕ → Option (List ℕ) → Option Step
with_numerator done p o s none = some (copied done (code "/") o)
with_numerator done p o s (some q) =
    elim (is_left done q) [
      | true ↦ some (copied (leaving done p) (code "/") o)
      | false ↦ elim (barred (trim_start s)) [ true ↦ none | false ↦ some (with_denominator done p o s q (find_fraction_part_after (trim_start s))) ]
    ]

-- the slash between p and s, with o written so far; none where number 9 is met
unfoldable pub slash : Done → List ℕ → List ℕ → List ℕ → Option Step
unfolding is_inside_subscript_context find_fraction_part_before find_fraction_part_after barred strip_outer_parens
slash done p o s =
    elim (is_inside_subscript_context 0 p) [
      | true ↦ some (copied done (code "/") o)
      | false ↦ with_numerator done p o s (find_fraction_part_before (trim_start p))
    ]

unfoldable pub fractions_from : ℕ → Done → List ℕ → List ℕ → List ℕ → Option (List ℕ)
unfolding slash
fractions_from skip done p o [] = some (reverse o)
fractions_from (suc skip) done p o (x ∷ s) = fractions_from skip done (x ∷ p) o s
fractions_from zero done p o (x ∷ s) =
    elim (is "/" x) [
      | true ↦ elim (slash done p o s) [ none ↦ none | some t ↦ fractions_from t.skip t.done (x ∷ p) t.written s ]
      | false ↦ fractions_from 0 done (x ∷ p) (x ∷ o) s
    ]

unfoldable pub convert_regular_fractions : List ℕ → Option (List ℕ)
unfolding fractions_from
convert_regular_fractions s = fractions_from 0 nothing_done [] [] s

-- ---- convert_fractions: rounds until nothing changes
abbrev pub most_rounds : ℕ
most_rounds = 64

-- k rounds may still change the text: 7 where none may and one would, or would meet 9
unfoldable pub settle : ℕ → List ℕ → Result (List ℕ)
unfolding convert_regular_fractions
settle zero s = elim (convert_regular_fractions s) [ none ↦ refused 7 | some t ↦ cond (same t s) (passed s) (refused 7) ]
settle (suc k) s =
    elim (convert_regular_fractions s) [
      | none ↦ refused 9
      | some t ↦ elim (same t s) [
        | true ↦ passed s
        | false ↦ elim (ltb most_symbols (length t)) [ true ↦ refused 5 | false ↦ settle k t ]
      ]
    ]

unfoldable pub convert_fractions : List ℕ → Result (List ℕ)
unfolding settle
convert_fractions s = settle most_rounds s
