-- The turns of the loop that writes a subscript, with `\;` for each `\,`, and how many symbols it writes. Assumes nothing.
use Rattle.std.specs.Prelude.{◌≡◌, Bool, true, false, cond, List, [], ◌∷◌, ℕ, ◌+◌, ◌*◌, ◌≤◌, ◌<◌, length, get_or, drop}
use Rattle.std.proofs.Common.{sym, ap, ◌∙◌, subst, arith, length-take}
use Rattle.spec.specs.Symbols.{bytes, starts}
use Rattle.spec.specs.Sweep.{kept, taken, replace}
use Rattle.text_symbols.specs.Parts.{part, length_part}
use Rattle.text.specs.declared.writer.Writer.{Writer}
use Rattle.text.specs.Writer.{Appended}
use Rattle.text.specs.Sweep.{Sweeping, rest_from, rest_read, sweeping-more, sweeping-kept}
use Rattle.attach.specs.Weight.{commas, weight-long, weight-short, replace-light}

module _
    {w₀ w : List ℕ} {from n : ℕ} {o₀ o : Writer} {i : ℕ} (sweeping : Sweeping commas w₀ w from n o₀ o i)
    (more : i < n) {b : Bool} (met : b ≡ starts (bytes "\\,") (rest_from from n i w))
  where
    turn : {t : Bool} → b ≡ t → commas (get_or (0 ∷ part from n w₀) i 0) (drop i (part from n w₀)) ≡ cond t (taken (length (bytes "\\,")) (bytes "\\;")) (kept (drop i (part from n w₀)))
    turn e =
        ap (λ t. cond t (taken (length (bytes "\\,")) (bytes "\\;")) (kept (drop i (part from n w₀))))
        (ap (starts (bytes "\\,")) (sym (rest_read sweeping)) ∙ sym met ∙ e)

    pub comma-replaced : {w' : List ℕ} {o' : Writer} → b ≡ true → Appended w w' o o' (bytes "\\;") → Sweeping commas w₀ w' from n o₀ o' (i + 2)
    comma-replaced {w'} {o'} e a =
        let next : i + 1 + 1 ≡ i + 2 = omega arith in
        subst (λ j. Sweeping commas w₀ w' from n o₀ o' j) next
        (sweeping-more sweeping more (taken (length (bytes "\\,")) (bytes "\\;")) (turn e) a (omega arith))

    pub symbol-kept : {w' : List ℕ} {o' : Writer} → b ≡ false → Appended w w' o o' (get_or w (from + i) 0 ∷ []) → Sweeping commas w₀ w' from n o₀ o' (i + 1)
    symbol-kept e a = sweeping-kept sweeping more (turn e) a

-- a subscript is at most twice as long as what it is made of
pub subscript-short :
    {w w' : List ℕ} {o o' : Writer} (from n : ℕ) → Appended w w' o o' (replace (bytes "\\,") (bytes "\\;") (part from n w))
    → o'.count ≤ o.count + 2 * n
subscript-short {w} from n a =
    let c = a.counted in let s = part from n w in
    let l = weight-long (replace (bytes "\\,") (bytes "\\;") s) in let r = replace-light s in let m = weight-short s in let t = length-take n (drop from w) in
    omega arith

-- a copy is as long as what is copied
pub copied-long : {w w' : List ℕ} {o o' : Writer} (from n : ℕ) → from + n ≤ length w → Appended w w' o o' (part from n w) → o'.count ≡ o.count + n
copied-long {w} from n h a = let c = a.counted in let l = length_part from n w h in omega arith
