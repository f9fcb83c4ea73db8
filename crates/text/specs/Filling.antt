-- A text while it is written by a stage that is no sweep: what has been written, and what is still to be written. Assumes nothing.
--     Filling        the two together are the whole
use Rattle.std.specs.Prelude.{◌≡◌, refl, List, [], ◌++◌, ℕ, ◌+◌, ◌-◌, ◌<◌, get_or}
use Rattle.std.proofs.Common.{sym, ap, ◌∙◌, subst, append_assoc, append-nil}
use Rattle.text_symbols.specs.Parts.{part, get_d_part, whole_part}
use Rattle.text.specs.declared.writer.Writer.{Writer}
use Rattle.text.specs.Writer.{Appended, Apart, appended-none, appended-more, appended-part}

-- it began with the buffer w₀ and the writer o₀
pub record Filling (w₀ w : List ℕ) (o₀ o : Writer) (rest whole : List ℕ) : Type 0 where
  pub out : List ℕ
  pub appended : Appended w₀ w o₀ o out
  pub same-as-whole : out ++ rest ≡ whole

pub filling-none : (w : List ℕ) (o : Writer) (whole : List ℕ) → Filling w w o o whole whole
filling-none w o whole = record { out = []; appended = appended-none w o; same-as-whole = refl }

module _ {w₀ w : List ℕ} {o₀ o : Writer} {rest whole : List ℕ} (f : Filling w₀ w o₀ o rest whole) where
  pub filling-more : {w' : List ℕ} {o' : Writer} {bs rest' : List ℕ} → Appended w w' o o' bs → rest ≡ bs ++ rest' → Filling w₀ w' o₀ o' rest' whole
  filling-more {bs = bs} {rest'} a e =
      record {
        out = f.out ++ bs;
        appended = appended-more f.appended a;
        same-as-whole = append_assoc f.out bs rest' ∙ ap (λ r. f.out ++ r) (sym e) ∙ f.same-as-whole;
      }

  pub filling-all : rest ≡ [] → Appended w₀ w o₀ o whole
  filling-all e = subst (Appended w₀ w o₀ o) (sym (append-nil f.out) ∙ ap (λ r. f.out ++ r) (sym e) ∙ f.same-as-whole) f.appended

  -- the source is read as it was: all of it, and a symbol
  module _ (from n : ℕ) (apart : Apart from n o₀) where
    pub filling-source : part from (from + n - from) w ≡ part from n w₀
    filling-source = whole_part from n w ∙ appended-part f.appended from n apart

    pub filling-symbol : (i : ℕ) → i < n → get_or w (from + i) 0 ≡ get_or (part from n w₀) i 0
    filling-symbol i h = sym (get_d_part from n w i h) ∙ ap (λ s. get_or s i 0) (appended-part f.appended from n apart)
