-- Binomials: what is written for one, and the turns of the loop that rewrites. Assumes nothing.
--     parted     what is written for what stands inside, which a comma parts
--     BinomAt    whether a text begins with one: the length of what stands inside, and the place of its comma
use Rattle.std.specs.Prelude.{◌≡◌, false, List, [], ◌∷◌, ◌++◌, ℕ, suc, ◌+◌, ◌-◌, ◌≤◌, ◌<◌, length, get_or, take, drop}
use Rattle.std.specs.Prelude.{Option as Maybe, Some, None}
use Rattle.std.proofs.Common.{sym, ap, ap₂, ◌∙◌, subst, arith, length-take, length-drop, length-append, drop-drop, take-take, length-take-le}
use Rattle.std.proofs.Math.Option.{none, some, get_or as or_else}
use Rattle.spec.specs.Symbols.{bytes, trim}
use Rattle.spec.specs.Sweep.{taken, kept}
use Rattle.spec.specs.Closing.{find_comma_in_args, over_quotes}
use Rattle.spec.specs.Calls.{call_at, call_length, binom_at, binom}
use Rattle.spec.specs.Laws.Closing.{length_seen}
use Rattle.text_symbols.specs.Parts.{part, whole_part, length_part, rest_part, sub_part}
use Rattle.text_symbols.specs.Trim.{Narrowed, spanned}
use Rattle.text_symbols.specs.declared.Span.{Span}
use Rattle.text_search.specs.Search.{Found, Closes, closes-at, closes-within, closes-nothing, inside-alike}
use Rattle.text.specs.declared.writer.Writer.{Writer}
use Rattle.text.specs.Writer.{Appended}
use Rattle.text.specs.Sweep.{Sweeping, rest_from, rest_read, symbols-read, sweeping-more, sweeping-kept}
use Rattle.call_rewriting.specs.Delimiters.{Called, inner_at, spent}
use Rattle.binom.specs.declared.Inside.{Inside}

abbrev pub name : List ℕ
name = bytes "binom("

abbrev pub latex_binom : List ℕ → List ℕ → List ℕ
latex_binom a b = bytes "\\binom{" ++ a ++ bytes "}{" ++ b ++ bytes "}"

abbrev pub parted : List ℕ → ℕ → List ℕ
parted inner comma = latex_binom (trim (take comma inner)) (trim (drop (comma + 1) inner))

-- the arguments, trimmed where they stand
module _
    (w : List ℕ) (inside k comma : ℕ) (within : comma < k) {a b : Span}
    (first : Narrowed w (record { start = inside; end = inside + comma }) a (trim (part inside (inside + comma - inside) w)))
    (second : Narrowed w (record { start = inside + comma + 1; end = inside + k }) b (trim (part (inside + comma + 1) (inside + k - (inside + comma + 1)) w)))
  where
    pub arguments-parted : latex_binom (spanned a w) (spanned b w) ≡ parted (part inside k w) comma
    arguments-parted =
        let next : inside + (comma + 1) ≡ inside + comma + 1 = omega arith in
        let before : part inside (inside + comma - inside) w ≡ take comma (part inside k w) =
        whole_part inside comma w ∙ sym (take-take comma k (drop inside w) (omega arith)) in
        let behind : part (inside + comma + 1) (inside + k - (inside + comma + 1)) w ≡ drop (comma + 1) (part inside k w) =
        ap (λ j. part j (inside + k - j) w) (sym next) ∙ rest_part inside k (comma + 1) w in
        ap₂ latex_binom (first.text ∙ ap trim before) (second.text ∙ ap trim behind)

    pub arguments-few : length (latex_binom (spanned a w) (spanned b w)) ≤ k + 64
    arguments-few =
        let la = length-take (a.end - a.start) (drop a.start w) in let lb = length-take (b.end - b.start) (drop b.start w) in
        let ao = first.order in let at = first.to in let af = first.from in let bf = second.from in let bo = second.order in let bt = second.to in
        simp length-append (omega arith)

-- ---- the binomial that a text begins with
pub record Stands (s : List ℕ) (p : Inside) : Type 0 where
  pub within : 6 + p.k + 1 ≤ length s
  pub comma-within : p.comma < p.k
  pub turn : binom_at s ≡ some (taken (call_length name (part 6 p.k s)) (parted (part 6 p.k s) p.comma))

abbrev pub BinomAt : List ℕ → Maybe Inside → Type 0
BinomAt s (Some p) = Stands s p
BinomAt s None = binom_at s ≡ none

module _ (s : List ℕ) {r : Found} (called : Called over_quotes name s r) where
  pub binom-uncalled : r ≡ None → BinomAt s None
  binom-uncalled e = rw (sym called.inner ∙ ap (inner_at name s) e)

  module _ {k : ℕ} (e : r ≡ Some k) where
    inner : List ℕ
    inner = part 6 k s

    pub call-fits : 6 + k + 1 ≤ length s
    call-fits = let w = called.within in let l = ap (spent name) e in omega arith

    call-here : call_at over_quotes name s ≡ some (part 6 k s)
    call-here = sym called.inner ∙ ap (inner_at name s) e

    inner-long : length (part 6 k s) ≡ k
    inner-long = let f = call-fits in length_part 6 k s (omega arith)

    -- where a comma parts the arguments, as the search sees them
    abbrev Parts : List ℕ → Found → Type 0
    Parts t q = Closes (over_quotes t) q (find_comma_in_args (over_quotes t))

    module _ {q : Found} (answer : Parts (part 6 (6 + k - 6) s) q) where
      comma : Parts (part 6 k s) q
      comma = subst (λ t. Parts t q) (whole_part 6 k s) answer

      pub binom-unparted : q ≡ None → BinomAt s None
      binom-unparted f = rw (call-here, closes-nothing comma f)

      pub binom-stands : {j : ℕ} → q ≡ Some j → BinomAt s (Some (record { k = k; comma = j }))
      binom-stands {j} f =
          let seen = length_seen false (part 6 k s) in
          let l = closes-within comma f in let m = inner-long in
          let first : length (take j (part 6 k s)) ≡ j = length-take-le j (part 6 k s) (omega arith) in
          let second : suc (length (take j (part 6 k s))) ≡ j + 1 = omega arith in
          record {
            within = call-fits;
            comma-within = omega arith;
            turn = rw (call-here, closes-at comma f, inside-alike (part 6 k s) (over_quotes (part 6 k s)) seen j (omega arith), second);
          }

-- ---- a turn of the loop: the searches have looked at the rest of the text
-- the loop takes what stands inside the call from the buffer
module _
    (from n i : ℕ) (w : List ℕ) {r : Found} (called : Called over_quotes name (rest_from from n i w) r) {k : ℕ} (e : r ≡ Some k) {q : Found}
    (answer : Closes (over_quotes (part (from + i + 6) (from + i + 6 + k - (from + i + 6)) w)) q (find_comma_in_args (over_quotes (part (from + i + 6) (from + i + 6 + k - (from + i + 6)) w))))
  where
    same-inner : part (from + i + 6) (from + i + 6 + k - (from + i + 6)) w ≡ part 6 (6 + k - 6) (rest_from from n i w)
    same-inner =
        let f = call-fits (rest_from from n i w) called e in let l = length-take (from + n - (from + i)) (drop (from + i) w) in
        whole_part (from + i + 6) k w ∙ sub_part (from + i) (from + n - (from + i)) 6 k w (omega arith) ∙ sym (whole_part 6 k (rest_from from n i w))

    inner-answer : Closes (over_quotes (part 6 (6 + k - 6) (rest_from from n i w))) q (find_comma_in_args (over_quotes (part 6 (6 + k - 6) (rest_from from n i w))))
    inner-answer = subst (λ t. Closes (over_quotes t) q (find_comma_in_args (over_quotes t))) same-inner answer

    pub call-unparted : q ≡ None → BinomAt (rest_from from n i w) None
    call-unparted = binom-unparted (rest_from from n i w) called e inner-answer

    pub call-parted : {j : ℕ} → q ≡ Some j → BinomAt (rest_from from n i w) (Some (record { k = k; comma = j }))
    call-parted = binom-stands (rest_from from n i w) called e inner-answer

module _
    {w₀ w : List ℕ} {from n : ℕ} {o₀ o : Writer} {i : ℕ} (sweeping : Sweeping binom w₀ w from n o₀ o i)
    (more : i < n) {r : Maybe Inside} (met : BinomAt (rest_from from n i w) r)
  where
    pub binom-copied : {w' : List ℕ} {o' : Writer} → r ≡ None → Appended w w' o o' (get_or w (from + i) 0 ∷ []) → Sweeping binom w₀ w' from n o₀ o' (i + 1)
    binom-copied e a = sweeping-kept sweeping more (ap (λ t. or_else t (kept (drop i (part from n w₀)))) (subst (BinomAt (drop i (part from n w₀))) e (subst (λ s. BinomAt s r) (rest_read sweeping) met))) a

    module _ {p : Inside} (e : r ≡ Some p) where
      stands : Stands (drop i (part from n w₀)) p
      stands = subst (BinomAt (drop i (part from n w₀))) e (subst (λ s. BinomAt s r) (rest_read sweeping) met)

      pub binom-fits : i + 6 + p.k + 1 ≤ n
      binom-fits =
          let f = stands.within in let l = length_part from n w₀ sweeping.regions.source in let d = length-drop i (part from n w₀) in
          omega arith

      inner-read : part (from + i + 6) p.k w ≡ part 6 p.k (drop i (part from n w₀))
      inner-read =
          let f = binom-fits in let m : from + (i + 6) ≡ from + i + 6 = omega arith in
          ap (λ j. part j p.k w) (sym m) ∙ symbols-read sweeping (i + 6) p.k (omega arith) ∙ ap (take p.k) (sym (drop-drop 6 i (part from n w₀)))

      pub binom-written :
          {w' : List ℕ} {o' : Writer} → Appended w w' o o' (parted (part (from + i + 6) p.k w) p.comma) → o'.count ≤ o.count + (p.k + 64)
          → Sweeping binom w₀ w' from n o₀ o' (i + (6 + p.k + 1))
      binom-written {w'} {o'} a few =
          let c = a.counted in let f = stands.within in let l = length_part 6 p.k (drop i (part from n w₀)) (omega arith) in
          let same = ap (λ s. length (parted s p.comma)) inner-read in
          let next : i + 1 + (6 + length (part 6 p.k (drop i (part from n w₀)))) ≡ i + (6 + p.k + 1) = omega arith in
          subst (λ j. Sweeping binom w₀ w' from n o₀ o' j) next
          (sweeping-more sweeping more (taken (call_length name (part 6 p.k (drop i (part from n w₀)))) (parted (part 6 p.k (drop i (part from n w₀))) p.comma)) (ap (λ t. or_else t (kept (drop i (part from n w₀)))) stands.turn) (rw inner-read at a) (omega arith))
