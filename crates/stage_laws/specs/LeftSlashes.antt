-- Slashes that a round of fractions leaves. Assumes nothing.
--     leaves               a round leaves some slash of this text
--     leaves_in_rounds     one of its rounds does, and be it the last, which is only asked whether it would change the text
use Rattle.std.specs.Prelude.{Bool, true, false, not, ◌&&◌, ◌||◌, List, [], ◌∷◌, ℕ, zero, suc, ltb, length}
use Rattle.std.proofs.Math.Option.{Option, none, some}
use Rattle.spec.specs.Symbols.{is, same, trim_start}
use Rattle.spec.specs.Result.{most_symbols}
use Rattle.spec.specs.Fractions.{is_inside_subscript_context, find_fraction_part_before, Done, nothing_done, is_left, slash, fractions_from, convert_regular_fractions, settle}

-- ---- slashes that are left
-- with the numerator that is found
abbrev pub left_with : Done → Option (List ℕ) → Bool
left_with done none = false
left_with done (some q) = is_left done q

-- the slash behind p is left
abbrev pub left_at : Done → List ℕ → Bool
left_at done p = not (is_inside_subscript_context 0 p) && left_with done (find_fraction_part_before (trim_start p))

-- the round of `fractions_from` leaves a slash from here on
unfoldable pub leaves_from : ℕ → Done → List ℕ → List ℕ → List ℕ → Bool
unfolding is_inside_subscript_context find_fraction_part_before slash
leaves_from skip done p o [] = false
leaves_from (suc skip) done p o (x ∷ s) = leaves_from skip done (x ∷ p) o s
leaves_from zero done p o (x ∷ s) =
    elim (is "/" x) [
      | true ↦ left_at done p || elim (slash done p o s) [ none ↦ false | some t ↦ leaves_from t.skip t.done (x ∷ p) t.written s ]
      | false ↦ leaves_from 0 done (x ∷ p) (x ∷ o) s
    ]

unfoldable pub leaves : List ℕ → Bool
unfolding leaves_from
leaves s = leaves_from 0 nothing_done [] [] s

-- the rounds of `settle`
unfoldable pub leaves_in_rounds : ℕ → List ℕ → Bool
unfolding leaves convert_regular_fractions
leaves_in_rounds zero s = leaves s
leaves_in_rounds (suc k) s =
    leaves s || elim (convert_regular_fractions s) [ none ↦ false | some t ↦ elim (same t s || ltb most_symbols (length t)) [ true ↦ false | false ↦ leaves_in_rounds k t ] ]
