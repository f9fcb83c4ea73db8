-- The turns of the sizing loop: what a piece says has been written. Assumes nothing.
--     DelimitersSized     what the function ensures
use Rattle.std.specs.Prelude.{◌≡◌, List, [], ◌∷◌, ◌++◌, ℕ, ◌+◌, ◌-◌, ◌*◌, ◌≤◌, length, get_or, take, drop}
use Rattle.std.proofs.Common.{add_assoc, sym, ap, ap₂, ◌∙◌, subst, arith, drop_of_length-le}
use Rattle.spec.specs.Symbols.{bytes}
use Rattle.spec.specs.Finish.{left_right, size_delimiters_to_content}
use Rattle.text_symbols.specs.Parts.{part, length_part, sub_part}
use Rattle.text.specs.declared.writer.Writer.{Writer}
use Rattle.text.specs.declared.writer.Writer.{Writer}
use Rattle.text.specs.declared.TextPlace.{TextPlace}
use Rattle.text.specs.Writer.{Regions, Appended, Apart, apart-part, apart-kept, appended-more, appended-part}
use Rattle.text_symbols.specs.Places.{before}
use Rattle.text.specs.Filling.{Filling, filling-more, filling-source, filling-symbol}
use Rattle.sizing.specs.Levels.{sizes, sizes-first, sizes-end}
use Rattle.sizing.specs.Pieces.{sized_at, closer_of, PieceFor, PieceKept, Grown}
use Rattle.sizing.specs.declared.Piece.{Piece}
use Rattle.sizing.specs.declared.Piece.TheVariants.{Keep, Tall}

pub record DelimitersSized (field : ℕ) (w w' : List ℕ) (source : TextPlace) (o r : Writer) : Type 0 where
  pub appended : Appended w w' o r (size_delimiters_to_content field (part source.at source.n w))
  pub few : r.count ≤ o.count + 7 * source.n

pub sized-first : (field : ℕ) (s : List ℕ) → sized_at field s 0 ≡ size_delimiters_to_content field s
unfolding sized_at
sized-first field s = sizes-first field s

pub sized-end : (field : ℕ) (s : List ℕ) (i : ℕ) → length s ≤ i → sized_at field s i ≡ []
unfolding sized_at
sized-end field s i h = ap (sizes field (before s i)) (drop_of_length-le s h) ∙ sizes-end field (before s i)

module _
    {w₀ w : List ℕ} {from n : ℕ} {o₀ o : Writer} (field i : ℕ) {whole : List ℕ}
    (regions : Regions w₀ from n o₀) (filling : Filling w₀ w o₀ o (sized_at field (part from n w₀) i) whole)
    (r : Piece) (piece : PieceFor field (part from (from + n - from) w) i r)
  where
    source : PieceFor field (part from n w₀) i r
    source = subst (λ s. PieceFor field s i r) (filling-source filling from n regions.apart) piece

    symbols : (j m : ℕ) → j + m ≤ n → part (from + j) m w ≡ take m (drop j (part from n w₀))
    symbols j m h = sub_part from n j m w h ∙ ap (λ s. take m (drop j s)) (appended-part filling.appended from n regions.apart)

    module _ {k : ℕ} (e : r ≡ Keep k) where
      pub kept_piece : PieceKept field (part from n w₀) i k
      kept_piece = subst (PieceFor field (part from n w₀) i) e source

      pub kept-fits : i + k ≤ n
      kept-fits = let l = length_part from n w₀ regions.source in let f = kept_piece.fits in omega arith

      pub kept_more : {w' : List ℕ} {o' : Writer} → Appended w w' o o' (part (from + i) k w) → Filling w₀ w' o₀ o' (sized_at field (part from n w₀) (i + k)) whole
      kept_more a = filling-more filling a (kept_piece.step ∙ ap (λ t. t ++ sized_at field (part from n w₀) (i + k)) (sym (symbols i k kept-fits)))

    module _ {k : ℕ} (e : r ≡ Tall k) where
      grown-piece : Grown field (part from n w₀) i k
      grown-piece = subst (PieceFor field (part from n w₀) i) e source

      pub grown-fits : i + (k + 2) ≤ n
      grown-fits = let l = length_part from n w₀ regions.source in let f = grown-piece.fits in omega arith

      pub inner-apart : Apart (from + (i + 1)) k o
      inner-apart = apart-part from n o (i + 1) k (apart-kept from n filling.appended regions.apart) (let f = grown-fits in omega arith)

      pub grown-more :
          {w₁ w₂ w₃ : List ℕ} {o₁ o₂ o₃ : Writer} {c : ℕ}
          → Appended w w₁ o o₁ (bytes "\\left" ++ get_or w (from + i) 0 ∷ [])
          → DelimitersSized field w₁ w₂ (record { at = from + (i + 1); n = k }) o₁ o₂
          → c ≡ closer_of (get_or w (from + i) 0)
          → Appended w₂ w₃ o₂ o₃ (bytes "\\right" ++ c ∷ [])
          → Filling w₀ w₃ o₀ o₃ (sized_at field (part from n w₀) (i + (k + 2))) whole
      grown-more {w₃ = w₃} {o₃ = o₃} {c = c} left inner closer right =
          let f = grown-fits in
          let x = get_or (part from n w₀) i 0 in
          let s : get_or w (from + i) 0 ≡ x = filling-symbol filling from n regions.apart i (omega arith) in
          let t : part (from + (i + 1)) k _ ≡ take k (drop (i + 1) (part from n w₀)) = appended-part left (from + (i + 1)) k inner-apart ∙ symbols (i + 1) k (omega arith) in
          subst (λ j. Filling w₀ w₃ o₀ o₃ (sized_at field (part from n w₀) j) whole) (add_assoc i k 2)
          (filling-more filling (appended-more (appended-more left inner.appended) right)
          (grown-piece.step
          ∙ sym (ap (λ m. left_right (get_or w (from + i) 0) c (size_delimiters_to_content field m) ++ sized_at field (part from n w₀) (i + k + 2)) t
          ∙ ap₂ (λ y d. left_right y d (size_delimiters_to_content field (take k (drop (i + 1) (part from n w₀)))) ++ sized_at field (part from n w₀) (i + k + 2)) s (closer ∙ ap closer_of s))))
