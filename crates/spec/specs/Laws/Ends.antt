-- Laws of how a text ends: the definition compares from the end, code compares the last symbols from the front. Assumes nothing.
--     starts-front      what stands past the pattern's length does not matter
--     starts-reverse    texts of one length, each from its end
use Rattle.std.specs.Prelude.{◌≡◌, refl, Bool, ◌&&◌, ℕ, ◌-◌, ◌≤◌, eqb, length, take, drop}
use Rattle.std.proofs.Common.{sym, ap, ap₂, ◌∙◌, arith, take-append-drop, length-drop}
use Rattle.std.proofs.Math.Bool.{and_assoc, and_comm}
use mathlib.Core.List.{List, [], ◌∷◌, ◌++◌, reverse, reverse-cons, reverse-append}
use Rattle.std.proofs.Math.Decide.{dec_le}
use Rattle.std.proofs.lemmas.List.{length-reverse}
use Rattle.spec.specs.Symbols.{starts, ends}
use Rattle.spec.specs.Laws.Symbols.{starts-short}

pub starts-front : (w s t : List ℕ) → length w ≤ length s → starts w (s ++ t) ≡ starts w s
starts-front [] s t h = refl
starts-front (k ∷ w) [] t h = absurd (omega arith)
starts-front (k ∷ w) (x ∷ s) t h = ap (λ b. b && eqb x k) (starts-front w s t (omega arith))

and-order : (a b d : Bool) → (a && b) && d ≡ (a && d) && b
and-order a b d = and_assoc a b d ∙ ap (λ e. a && e) (and_comm b d) ∙ sym (and_assoc a d b)

starts-last : (w s : List ℕ) (k x : ℕ) → length w ≡ length s → starts (w ++ k ∷ []) (s ++ x ∷ []) ≡ starts w s && eqb x k
starts-last [] [] k x h = refl
starts-last [] (y ∷ s) k x h = absurd (omega arith)
starts-last (j ∷ w) [] k x h = absurd (omega arith)
starts-last (j ∷ w) (y ∷ s) k x h = ap (λ b. b && eqb y j) (starts-last w s k x (omega arith)) ∙ and-order (starts w s) (eqb x k) (eqb y j)

pub starts-reverse : (w s : List ℕ) → length w ≡ length s → starts (reverse w) (reverse s) ≡ starts w s
starts-reverse [] [] h = refl
starts-reverse [] (x ∷ s) h = absurd (omega arith)
starts-reverse (k ∷ w) [] h = absurd (omega arith)
starts-reverse (k ∷ w) (x ∷ s) h =
    let m = length-reverse w in let n = length-reverse s in
    ap₂ starts (reverse-cons k w) (reverse-cons x s)
    ∙ starts-last (reverse w) (reverse s) k x (omega arith)
    ∙ ap (λ b. b && eqb x k) (starts-reverse w s (omega arith))

pub ends-front : (w s : List ℕ) → ends w s ≡ starts w (drop (length s - length w) s)
ends-front w s = go (dec_le (length w) (length s)) (length-drop (length s - length w) s)
  where
    go : Dec (length w ≤ length s) → length (drop (length s - length w) s) ≡ length s - (length s - length w) → ends w s ≡ starts w (drop (length s - length w) s)
    go (yes h) n =
        let t = drop (length s - length w) s in
        let a = length-reverse w in let b = length-reverse t in
        ap (λ l. starts (reverse w) (reverse l)) (sym (take-append-drop (length s - length w) s))
        ∙ ap (starts (reverse w)) (reverse-append (take (length s - length w) s) t)
        ∙ starts-front (reverse w) (reverse t) (reverse (take (length s - length w) s)) (omega arith)
        ∙ starts-reverse w t (omega arith)
    go (no h) n =
        let a = length-reverse w in let b = length-reverse s in
        starts-short (reverse w) (reverse s) (omega arith) ∙ sym (starts-short w (drop (length s - length w) s) (omega arith))
