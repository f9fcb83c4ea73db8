-- What std's tests of slices say, by the definitions on lists. Assumes nothing.
--     pointwise-same     two slices are equal
--     ends-slice         a slice ends with another
use Rattle.std.specs.Prelude.{◌≡◌, refl, ◌&&◌, List, [], ◌∷◌, ℕ, ◌-◌, ◌≤◌, eqb, length, drop}
use Rattle.std.proofs.Common.{sym, ap, ◌∙◌, arith, length-drop}
use Rattle.std.proofs.Math.Bool.{and_comm}
use Rattle.std.specs.List.{ends_with}
use lib.Pointwise.{pointwise}
use Rattle.spec.specs.Symbols.{same, starts, ends}
use Rattle.spec.specs.Laws.Names.{eqb-sym}
use Rattle.spec.specs.Laws.Ends.{ends-front}

pub pointwise-same : (a b : List ℕ) → pointwise eqb a b ≡ same a b
pointwise-same [] [] = refl
pointwise-same [] (y ∷ b) = refl
pointwise-same (x ∷ a) [] = refl
pointwise-same (x ∷ a) (y ∷ b) = ap (λ t. eqb x y && t) (pointwise-same a b)

pointwise-starts : (w t : List ℕ) → length t ≤ length w → pointwise eqb w t ≡ starts w t
pointwise-starts [] [] h = refl
pointwise-starts [] (x ∷ t) h = absurd (omega arith)
pointwise-starts (k ∷ w) [] h = refl
pointwise-starts (k ∷ w) (x ∷ t) h =
    ap (λ b. eqb k x && b) (pointwise-starts w t (omega arith)) ∙ and_comm (eqb k x) (starts w t) ∙ ap (λ b. starts w t && b) (eqb-sym k x)

pub ends-slice : (w s : List ℕ) → ends_with eqb s w ≡ ends w s
ends-slice w s =
    let l = length-drop (length s - length w) s in
    pointwise-starts w (drop (length s - length w) s) (omega arith) ∙ sym (ends-front w s)
