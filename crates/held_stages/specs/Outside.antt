-- A text whose blocks have been held out.
--     Passed       what one pass answers
--     Holdable     what holding out asks of a text
--     HeldFrom     what it ensures: text and blocks are those of the definitions, and their lengths are counted
--     full-long    the length with held blocks in full
-- Assumes nothing.
use Rattle.std.specs.Prelude.{◌≡◌, true, false, ◌⊎◌, ℕ, ◌+◌, ◌-◌, ◌*◌, ◌/◌, ◌≤◌, length, Ok, Err, Option as Maybe, Some, None}
use Rattle.std.proofs.Math.Path.{refl, subst}
use Rattle.std.proofs.Common.{sym, ap, ◌∙◌, inl, inr, ⊎_elim}
use mathlib.Core.List.{List, [], ◌∷◌}
use native.Mathlib.Omega.{arith}
use Rattle.std.proofs.Math.ListN.{length-append}
use Rattle.spec.specs.Result.{most_symbols}
use Rattle.text_search.specs.Half.{half_work}
use Rattle.spec.specs.Symbols.{bytes, contains, text_mark, roman_mark}
use Rattle.spec.specs.Held.{Held, hold_texts, hold_both, in_full, filled}
use Rattle.spec.specs.Laws.Held.{hold-texts-none}
use Rattle.text_symbols.specs.Parts.{part, length_part}
use Rattle.text.specs.Writer.{appended-long}
use Rattle.text.specs.Stage.{Ready, Placed, placed-text, placed-fits, placed-regions, Progress, Text}
use Rattle.text.specs.declared.TextPlace.{TextPlace}
use Rattle.held_blocks.specs.declared.Blocks.{Blocks}
use Rattle.held_blocks.specs.declared.Marked.{Marked}
use Rattle.held_laws.specs.Marks.{has_mark, concat}
use Rattle.held_laws.specs.WellMade.{Every, MarkFreeBlock, Enclosing, symbols_of, texts_of, WellMade, concat-append}
use Rattle.held_laws.specs.InFull.{in-full-order, in-full-length, text-marks-left, filled-length}
use Rattle.held_laws.specs.Holding.{hold-texts-made, hold-both-made, same-texts, hold-both-texts}
use Rattle.held_blocks.specs.Keeping.{keeps-none}
use Rattle.held_laws.specs.Limits.{hold-texts-full, hold-both-full}
use Rattle.held_blocks.specs.Filing.{HeldOut}
use Rattle.held_blocks.specs.HoldOut.{Hold, taken_from}
use Rattle.held_blocks.specs.Holds.{Holds, holds_texts, holds-both}
use Rattle.held_stages.specs.declared.OutsideText.{OutsideText}

-- one pass: the name is nowhere, or its blocks have been held out to the other region
abbrev pub Told : List ℕ → List ℕ → TextPlace → List ℕ → ℕ → Blocks → Maybe Marked → Type 0
Told w w' t name mark blocks None = (w' ≡ w) × (contains name (part t.at t.n w) ≡ false)
Told w w' t name mark blocks (Some m) =
    (contains name (part t.at t.n w) ≡ true)
    × HeldOut w w' (most_symbols - t.at) blocks.used blocks.filed m.len m.blocks.used m.blocks.filed (taken_from name mark (part t.at t.n w)).left (taken_from name mark (part t.at t.n w)).blocks

pub record Passed (w w' : List ℕ) (t : TextPlace) (name : List ℕ) (mark : ℕ) (blocks : Blocks) (r : Maybe Marked) : Type 0 where
  pub told : Told w w' t name mark blocks r

module _ {w w' : List ℕ} {t : TextPlace} {name : List ℕ} {mark : ℕ} {blocks : Blocks} {r : Maybe Marked} (passed : Passed w w' t name mark blocks r) where
  pub passed-none : r ≡ None → Told w w' t name mark blocks None
  passed-none e = subst (Told w w' t name mark blocks) e passed.told

  pub passed-some : {m : Marked} → r ≡ Some m → Told w w' t name mark blocks (Some m)
  passed-some e = subst (Told w w' t name mark blocks) e passed.told

pub record Holdable (w : List ℕ) (from n : ℕ) : Type 0 where
  pub ready : Ready w (Text from n)
  pub mark-free : has_mark (part from n w) ≡ false

-- no text that a stage is given has a mark
abbrev pub UnmarkedProgress : List ℕ → Progress → Type 0
UnmarkedProgress w (Ok t) = has_mark (part t.at t.n w) ≡ false
UnmarkedProgress w (Err k) = Unit {0}

pub holdable : {w : List ℕ} {p : Progress} {from n : ℕ} → Ready w p → UnmarkedProgress w p → p ≡ Text from n → Holdable w from n
holdable {w} ready free e = record { ready = record { long = ready.long; placed = subst Placed e ready.placed }; mark-free = subst (UnmarkedProgress w) e free }

-- as many symbols as its blocks have beyond their marks
abbrev pub Extra : Held → ℕ → Type 0
Extra h extra = extra + (length (texts_of h) + length h.romans) ≡ length (concat (texts_of h)) + length (concat h.romans)

pub record HeldFrom (w w' : List ℕ) (r : OutsideText) (h : Held) : Type 0 where
  pub filed : ℕ
  pub holds : Holds w' r.text.at (record { len = r.text.n; blocks = record { used = r.used; filed = filed } }) h
  pub well-made : WellMade h
  pub placed : (r.text.at ≡ 0) ⊎ (r.text.at ≡ most_symbols)
  pub texts : r.texts ≡ length (texts_of h)
  pub extra : Extra h r.extra
  pub within : r.text.n + r.extra ≤ most_symbols
  pub long : length w' ≡ length w

-- ---- blocks have symbols
module _ (P : List ℕ → Type 0) (begun : (b : List ℕ) → P b → 1 ≤ length b) where
  joined-long : (bs : List (List ℕ)) → Every P bs → length bs ≤ length (concat bs)
  unfolding Every concat
  joined-long [] all = omega arith
  joined-long (b ∷ bs) all = let l = length-append b (concat bs) in let m = joined-long bs all.1 in let n = begun b all.0 in omega arith

plain-long : (b : List ℕ) → MarkFreeBlock b → 1 ≤ length b
plain-long b p = let e = ap length p.begins in omega arith

enclosing-long : (b : List ℕ) → Enclosing b → 1 ≤ length b
enclosing-long b p = let e = ap length p.begins in omega arith

module _ {h : Held} (made : WellMade h) where
  texts-long : length (texts_of h) ≤ length (concat (texts_of h))
  texts-long = joined-long MarkFreeBlock plain-long (texts_of h) made.texts

  romans-long : length h.romans ≤ length (concat h.romans)
  romans-long = joined-long Enclosing enclosing-long h.romans made.romans

  -- without a symbol there is no block
  pub none-held : length (concat (texts_of h)) + length (concat h.romans) ≡ 0 → (texts_of h ≡ []) × (h.romans ≡ [])
  none-held e = let t = texts-long in let r = romans-long in (empty (texts_of h) (omega arith), empty h.romans (omega arith))
    where
      empty : (bs : List (List ℕ)) → length bs ≡ 0 → bs ≡ []
      empty [] z = refl
      empty (b ∷ bs) z = absurd (omega arith)

  -- the length with held blocks in full
  pub full-long : (extra : ℕ) → Extra h extra → length (in_full h) ≡ length h.text + extra
  full-long extra e = let l = in-full-length made in omega arith

  -- with `\mathrm` blocks put back, the text is no longer than in full
  pub half-short : length (filled roman_mark h.romans h.text) ≤ length (in_full h)
  half-short =
      let l = filled-length text_mark (filled roman_mark h.romans h.text) (texts_of h) (text-marks-left made) in
      let t = texts-long in let e = ap length (in-full-order made) in
      omega arith

-- ---- what has been held out, counted
module _ {w' : List ℕ} {at : ℕ} {m : Marked} {h : Held} (holds : Holds w' at m h) (made : WellMade h) where
  blocks : m.blocks.filed / 4 ≡ length (texts_of h) + length h.romans
  blocks = let f = holds.filed in let l = length-append (texts_of h) h.romans in omega arith

  pub used-symbols : m.blocks.used ≡ length (concat (texts_of h)) + length (concat h.romans)
  used-symbols = holds.used ∙ ap length (concat-append (texts_of h) h.romans) ∙ length-append (concat (texts_of h)) (concat h.romans)

  -- places are fewer than bytes
  pub extra-fits : m.blocks.filed / 4 ≤ m.blocks.used
  extra-fits = let b = blocks in let s = used-symbols in let t = texts-long made in let r = romans-long made in omega arith

  pub held-counted :
      {w : List ℕ} {texts : ℕ} → (at ≡ 0) ⊎ (at ≡ most_symbols) → texts ≡ length (texts_of h) → length (in_full h) ≤ most_symbols → length w' ≡ length w
      → HeldFrom w w' (record { text = record { at = at; n = m.len }; texts = texts; used = m.blocks.used; extra = m.blocks.used - m.blocks.filed / 4 }) h
  held-counted placed texts short long =
      let b = blocks in let s = used-symbols in let f = extra-fits in
      let extra : Extra h (m.blocks.used - m.blocks.filed / 4) = omega arith in
      let full = full-long made (m.blocks.used - m.blocks.filed / 4) extra in
      let l = holds.keeps.long in
      let region : at + most_symbols ≤ half_work = ⊎_elim (λ z. omega arith) (λ z. omega arith) placed in
      let size = holds.short in
      let n = length_part at m.len w' (omega arith) in
      let t = ap length holds.text in
      record {
        filed = m.blocks.filed;
        holds = holds;
        well-made = made;
        placed = placed;
        texts = texts;
        extra = extra;
        within = omega arith;
        long = long;
      }

held-long :
    {w w' : List ℕ} {to used filed len used' filed' : ℕ} {out : List ℕ} {bs : List (List ℕ)} → HeldOut w w' to used filed len used' filed' out bs → length w' ≡ length w
held-long h = appended-long h.filing ∙ appended-long h.block ∙ appended-long h.text

-- ---- the two hold-outs
module _ {w : List ℕ} {from n : ℕ} (able : Holdable w from n) where
  placed : ((from ≡ 0) ⊎ (from ≡ most_symbols)) × (n ≤ most_symbols)
  placed = placed-text able.ready refl

  pub source-long : length (part from n w) ≡ n
  source-long = let l = able.ready.long in let f = placed-fits able.ready refl in length_part from n w (omega arith)

  pub hold-first : Hold w from n (most_symbols - from) 0 0
  hold-first =
      let r = placed-regions able.ready refl in
      let p = placed.1 in
      record {
        long = able.ready.long;
        source = placed-fits able.ready refl;
        region = ⊎_elim (λ z. omega arith) (λ z. omega arith) placed.0;
        apart = r.apart;
        short = p;
        few = omega arith;
        small = omega arith;
      }

  short : length (part from n w) ≤ most_symbols
  short = let l = source-long in let p = placed.1 in omega arith

  -- there is no `\text` block
  pub texts-none : contains (bytes "\\text{") (part from n w) ≡ false → HeldFrom w w (record { text = record { at = from; n = n }; texts = 0; used = 0; extra = 0 }) (hold_texts (part from n w))
  unfolding concat symbols_of
  texts-none e =
      let none = hold-texts-none (part from n w) e in
      let size = placed.1 in
      subst (HeldFrom w w (record { text = record { at = from; n = n }; texts = 0; used = 0; extra = 0 })) (sym none)
      (record {
        filed = 0;
        holds = record { text = refl; short = size; keeps = keeps-none w able.ready.long; used = refl; filed = refl };
        well-made = subst WellMade none (hold-texts-made (part from n w) able.mark-free);
        placed = placed.0;
        texts = refl;
        extra = refl;
        within = omega arith;
        long = refl;
      })

  module _
      {w' : List ℕ} {m : Marked}
      (h : HeldOut w w' (most_symbols - from) 0 0 m.len m.blocks.used m.blocks.filed (taken_from (bytes "\\text{") text_mark (part from n w)).left (taken_from (bytes "\\text{") text_mark (part from n w)).blocks)
    where
      first_holds : Holds w' (most_symbols - from) m (hold_texts (part from n w))
      first_holds = holds_texts hold-first able.mark-free short h

      first_made : WellMade (hold_texts (part from n w))
      first_made = hold-texts-made (part from n w) able.mark-free

      pub first-extra : m.blocks.filed / 4 ≤ m.blocks.used
      first-extra = extra-fits first_holds first_made

      first-long : length w' ≡ length w
      first-long = held-long h

      -- all blocks are `\text` blocks
      first-texts : m.blocks.filed / 4 ≡ length (texts_of (hold_texts (part from n w)))
      unfolding hold_texts
      first-texts = let b = blocks first_holds first_made in omega arith

      pub texts-counted : HeldFrom w w' (record { text = record { at = most_symbols - from; n = m.len }; texts = m.blocks.filed / 4; used = m.blocks.used; extra = m.blocks.used - m.blocks.filed / 4 }) (hold_texts (part from n w))
      texts-counted =
          let full = ap length (hold-texts-full (part from n w) able.mark-free) in
          let s = short in
          held-counted first_holds first_made (⊎_elim (λ z. inr (omega arith)) (λ z. inl (omega arith)) placed.0) first-texts (omega arith) first-long

  -- ---- the second, of what the first has left
  module _ {w' : List ℕ} {t : OutsideText} (first : HeldFrom w w' t (hold_texts (part from n w))) where
    pub second_fits : t.text.at + t.text.n ≤ half_work
    second_fits = let s = first.holds.short in ⊎_elim (λ z. omega arith) (λ z. omega arith) first.placed

    -- there is no `\mathrm` block
    pub both-none : contains (bytes "\\mathrm{") (part t.text.at t.text.n w') ≡ false → HeldFrom w w' t (hold_both (part from n w))
    both-none e =
        subst (HeldFrom w w' t) (sym (hold-both-texts (part from n w) able.mark-free (sym (ap (contains (bytes "\\mathrm{")) first.holds.text) ∙ e))) first

    -- only `\text` blocks have been filed
    four : first.filed ≡ 4 * t.texts
    unfolding hold_texts
    four =
        let f = first.holds.filed in let t = first.texts in let l = length-append (texts_of (hold_texts (part from n w))) [] in
        omega arith

    abbrev filed_texts : Marked
    filed_texts = record { len = t.text.n; blocks = record { used = t.used; filed = 4 * t.texts } }

    first-held : Holds w' t.text.at filed_texts (hold_texts (part from n w))
    first-held = subst (λ f. Holds w' t.text.at (record { len = t.text.n; blocks = record { used = t.used; filed = f } }) (hold_texts (part from n w))) four first.holds

    pub hold-second : Hold w' t.text.at t.text.n (most_symbols - t.text.at) t.used (4 * t.texts)
    hold-second =
        let s = first-held.short in
        let u = first-held.used in let few = first-held.keeps.few in
        let f = first-held.filed in let small = first-held.keeps.short in
        record {
          long = first-held.keeps.long;
          source = second_fits;
          region = ⊎_elim (λ z. omega arith) (λ z. omega arith) first.placed;
          apart = ⊎_elim (λ z. inl (omega arith)) (λ z. inr (omega arith)) first.placed;
          short = s;
          few = omega arith;
          small = omega arith;
        }

    module _
        {w'' : List ℕ} {m : Marked}
        (g : HeldOut w' w'' (most_symbols - t.text.at) t.used (4 * t.texts) m.len m.blocks.used m.blocks.filed (taken_from (bytes "\\mathrm{") roman_mark (part t.text.at t.text.n w')).left (taken_from (bytes "\\mathrm{") roman_mark (part t.text.at t.text.n w')).blocks)
      where
        second_holds : Holds w'' (most_symbols - t.text.at) m (hold_both (part from n w))
        second_holds = holds-both (part from n w) able.mark-free short first-held hold-second g

        second-made : WellMade (hold_both (part from n w))
        second-made = hold-both-made (part from n w) able.mark-free

        pub second-extra : m.blocks.filed / 4 ≤ m.blocks.used
        second-extra = extra-fits second_holds second-made

        second-texts : t.texts ≡ length (texts_of (hold_both (part from n w)))
        second-texts = first.texts ∙ ap length (sym (same-texts (part from n w)))

        pub both-counted : HeldFrom w w'' (record { text = record { at = most_symbols - t.text.at; n = m.len }; texts = t.texts; used = m.blocks.used; extra = m.blocks.used - m.blocks.filed / 4 }) (hold_both (part from n w))
        both-counted =
            let full = ap length (hold-both-full (part from n w) able.mark-free) in
            let s = short in
            held-counted second_holds second-made (⊎_elim (λ z. inr (omega arith)) (λ z. inl (omega arith)) first.placed) second-texts (omega arith) (held-long g ∙ first.long)
