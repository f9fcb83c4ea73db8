-- What the buffer holds after `hold_out`, as callers need it. Assumes nothing.
--     Holds            a text with marks lies at `at`, and its blocks where they belong
--     holds_texts, holds-both    after one `hold_out`, and after two
--     holds-rewritten  after a stage that rewrites the text between the marks
--     back-romans, back-texts    `put_back` may be called, and what it gives
use Rattle.std.specs.Prelude.{◌≡◌, false, ℕ, ◌+◌, ◌*◌, ◌≤◌, drop}
use Rattle.std.proofs.Math.Path.{refl}
use Rattle.std.proofs.Common.{sym, ap, ap₂, ◌∙◌, subst, inl, length-append}
use mathlib.Core.List.{List, [], ◌++◌, append-nil}
use native.Mathlib.Omega.{arith}
use Rattle.std.proofs.Math.ListN.{length}
use Rattle.spec.specs.Result.{most_symbols}
use Rattle.spec.specs.Pipeline.{least_work}
use Rattle.spec.specs.Symbols.{bytes, text_mark, roman_mark}
use Rattle.spec.specs.Held.{Held, with_text, hold_texts, hold_both, filled, in_full}
use Rattle.text_symbols.specs.Parts.{part}
use Rattle.text.specs.Writer.{Appended, Apart, appended-long, appended-part}
use Rattle.text.specs.Written.{appended-text, appended-written, wrote-beyond}
use Rattle.held_blocks.specs.declared.Marked.{Marked}
use Rattle.held_laws.specs.Marks.{has_mark, count, concat}
use Rattle.held_laws.specs.WellMade.{texts_of, symbols-of, WellMade}
use Rattle.held_laws.specs.InFull.{in-full-order, text-marks-left}
use Rattle.held_laws.specs.Limits.{texts-few, texts-short, both-few, both-short}
use Rattle.held_blocks.specs.Filing.{text_from, blocks_at, HeldOut}
use Rattle.held_blocks.specs.HoldOut.{Hold, taken_from}
use Rattle.held_blocks.specs.Back.{Back, stored_from}
use Rattle.held_blocks.specs.Keeping.{KeepsBlocks, keeps-none, keeps-filed, keeps-stored, used-more, filed-more, keeps-more, keeps-beyond}

pub record Holds (w : List ℕ) (at : ℕ) (m : Marked) (h : Held) : Type 0 where
  pub text : part at m.len w ≡ h.text
  pub short : m.len ≤ most_symbols
  pub keeps : KeepsBlocks w (texts_of h ++ h.romans)
  pub used : m.blocks.used ≡ length (concat (texts_of h ++ h.romans))
  pub filed : m.blocks.filed ≡ 4 * length (texts_of h ++ h.romans)

-- ---- holding out
-- the text that was written stands in its region
held-text-read :
    {w w' : List ℕ} {to used filed len used' filed' : ℕ} {out : List ℕ} {bs : List (List ℕ)} → least_work ≤ length w → to + most_symbols ≤ blocks_at
    → HeldOut w w' to used filed len used' filed' out bs → len ≤ most_symbols → part to len w' ≡ out
held-text-read {to = to} {len = len} long region h short =
    appended-part h.filing to len (inl (omega arith))
    ∙ appended-part h.block to len (inl (omega arith))
    ∙ appended-text h.text refl (omega arith) short

module _ {w : List ℕ} {from n to : ℕ} (hold : Hold w from n to 0 0) (free : has_mark (part from n w) ≡ false) (source : length (part from n w) ≤ most_symbols) where
  abbrev s : List ℕ
  s = part from n w

  abbrev texts : List (List ℕ)
  texts = (taken_from (bytes "\\text{") text_mark s).blocks

  module _
      {w' : List ℕ} {m : Marked}
      (h : HeldOut w w' to 0 0 m.len m.blocks.used m.blocks.filed (taken_from (bytes "\\text{") text_mark s).left texts)
    where
      pub holds_texts : Holds w' to m (hold_texts s)
      unfolding hold_texts concat
      holds_texts =
          let few = texts-few s free source in
          let bytes-few = few.0 in
          let places-few = few.1 in
          let short = texts-short s free source in
          let c = h.text.counted in
          let len : m.len ≤ most_symbols = omega arith in
          let kept : KeepsBlocks w' texts = keeps-more [] texts hold.region refl refl h (keeps-none w hold.long) (omega arith) (omega arith) in
          let used : m.blocks.used ≡ length (concat texts) = used-more [] texts hold.region refl refl h in
          let filed : m.blocks.filed ≡ 4 * length texts = filed-more [] texts hold.region refl refl h in
          record {
            text = held-text-read hold.long hold.region h len;
            short = len;
            keeps = rw (symbols-of [] texts, append-nil texts) kept;
            used = rw (symbols-of [] texts, append-nil texts) used;
            filed = rw (symbols-of [] texts, append-nil texts) filed;
          }

-- a second `hold_out`, of what the first has left
pub holds-both :
    (s : List ℕ) → has_mark s ≡ false → length s ≤ most_symbols
    → {w w' : List ℕ} {at to : ℕ} {m m' : Marked} → Holds w at m (hold_texts s) → Hold w at m.len to m.blocks.used m.blocks.filed
    → HeldOut w w' to m.blocks.used m.blocks.filed m'.len m'.blocks.used m'.blocks.filed (taken_from (bytes "\\mathrm{") roman_mark (part at m.len w)).left (taken_from (bytes "\\mathrm{") roman_mark (part at m.len w)).blocks
    → Holds w' to m' (hold_both s)
unfolding hold_both hold_texts concat
holds-both s free source {w} {w'} {at} {to} {m} {m'} held hold h =
    let texts = (taken_from (bytes "\\text{") text_mark s).blocks in
    let romans = (taken_from (bytes "\\mathrm{") roman_mark (taken_from (bytes "\\text{") text_mark s).left).blocks in
    let g = subst (λ l. HeldOut w w' to m.blocks.used m.blocks.filed m'.len m'.blocks.used m'.blocks.filed (taken_from (bytes "\\mathrm{") roman_mark l).left (taken_from (bytes "\\mathrm{") roman_mark l).blocks) held.text h in
    let few = both-few s free source in
    let bytes-few = few.0 in
    let places-few = few.1 in
    let short = both-short s free source in
    let c = g.text.counted in
    let len : m'.len ≤ most_symbols = omega arith in
    let first : texts_of (hold_texts s) ++ [] ≡ texts = append-nil (texts_of (hold_texts s)) ∙ symbols-of [] texts in
    let used : m.blocks.used ≡ length (concat texts) = held.used ∙ ap (λ bs. length (concat bs)) first in
    let filed : m.blocks.filed ≡ 4 * length texts = held.filed ∙ ap (λ (bs : List (List ℕ)). 4 * length bs) first in
    let kept : KeepsBlocks w texts = subst (KeepsBlocks w) first held.keeps in
    let all : texts_of (hold_both s) ++ romans ≡ texts ++ romans = ap (λ (bs : List (List ℕ)). bs ++ romans) (symbols-of _ texts) in
    record {
      text = held-text-read hold.long hold.region g len;
      short = len;
      keeps = subst (KeepsBlocks w') (sym all) (keeps-more texts romans hold.region used filed g kept (omega arith) (omega arith));
      used = used-more texts romans hold.region used filed g ∙ ap (λ bs. length (concat bs)) (sym all);
      filed = filed-more texts romans hold.region used filed g ∙ ap (λ (bs : List (List ℕ)). 4 * length bs) (sym all);
    }

-- ---- with what is held
module _ {w : List ℕ} {at : ℕ} {m : Marked} {h : Held} (holds : Holds w at m h) where
  pub holds-rewritten :
      {w' : List ℕ} {to n : ℕ} {s : List ℕ} → length w' ≡ length w → drop blocks_at w' ≡ drop blocks_at w → part to n w' ≡ s → n ≤ most_symbols
      → Holds w' to (record { len = n; blocks = m.blocks }) (with_text h s)
  holds-rewritten l beyond text short =
      record { text = text; short = short; keeps = keeps-beyond l beyond holds.keeps; used = holds.used; filed = holds.filed }

  module _ (made : WellMade h) where
    -- ---- putting back
    module _ {to : ℕ} (source : at + most_symbols ≤ blocks_at) (region : to + most_symbols ≤ blocks_at) (apart : Apart at m.len (text_from to 0)) where
      roman-count : count roman_mark (part at m.len w) ≡ length h.romans
      roman-count = ap (count roman_mark) holds.text ∙ made.roman-marks

      pub back-romans : Back w at m.len to roman_mark (length (texts_of h))
      back-romans =
          let s = holds.short in
          let few = holds.keeps.short in
          let l = length-append (texts_of h) h.romans in
          let c = roman-count in
          record {
            long = holds.keeps.long;
            source = omega arith;
            region = region;
            apart = apart;
            short = s;
            few = omega arith;
            filed = λ k less. keeps-filed holds.keeps k (omega arith);
          }

      module _
          {w' : List ℕ} {n : ℕ}
          (a : Appended w w' (text_from to 0) (text_from to n) (filled roman_mark (stored_from w (length (texts_of h)) (count roman_mark (part at m.len w))) (part at m.len w)))
        where
          pub romans-back : Appended w w' (text_from to 0) (text_from to n) (filled roman_mark h.romans h.text)
          romans-back =
              subst (λ l. Appended w w' (text_from to 0) (text_from to n) l)
              (ap₂ (filled roman_mark)
              (ap (stored_from w (length (texts_of h))) roman-count
              ∙ keeps-stored (texts_of h) h.romans [] (subst (λ bs. KeepsBlocks w (texts_of h ++ bs)) (sym (append-nil h.romans)) holds.keeps))
              holds.text)
              a

          -- what stands at `to` then, if it isn't too long, and the blocks as they were
          module _ (short : n ≤ most_symbols) where
            texts-read : part to n w' ≡ filled roman_mark h.romans h.text
            texts-read = let l = holds.keeps.long in appended-text romans-back refl (omega arith) short

            kept_on : KeepsBlocks w' (texts_of h ++ h.romans)
            kept_on =
                let l = holds.keeps.long in
                keeps-beyond (appended-long a) (wrote-beyond {k = blocks_at} (appended-written a refl (omega arith)).wrote region) holds.keeps

            text-count : count text_mark (part to n w') ≡ length (texts_of h)
            text-count = ap (count text_mark) texts-read ∙ text-marks-left made

            pub back-texts : {to' : ℕ} → to' + most_symbols ≤ blocks_at → Apart to n (text_from to' 0) → Back w' to n to' text_mark 0
            back-texts region' apart' =
                let few = kept_on.short in
                let l = length-append (texts_of h) h.romans in
                let c = text-count in
                record {
                  long = kept_on.long;
                  source = omega arith;
                  region = region';
                  apart = apart';
                  short = short;
                  few = omega arith;
                  filed = λ k less. keeps-filed kept_on k (omega arith);
                }

            pub all_back :
                {w'' : List ℕ} {to' n' : ℕ} → Appended w' w'' (text_from to' 0) (text_from to' n') (filled text_mark (stored_from w' 0 (count text_mark (part to n w'))) (part to n w'))
                → Appended w' w'' (text_from to' 0) (text_from to' n') (in_full h)
            all_back {w''} {to'} {n'} b =
                subst (λ l. Appended w' w'' (text_from to' 0) (text_from to' n') l)
                (ap₂ (filled text_mark) (ap (stored_from w' 0) text-count ∙ keeps-stored [] (texts_of h) h.romans kept_on) texts-read ∙ sym (in-full-order made))
                b
