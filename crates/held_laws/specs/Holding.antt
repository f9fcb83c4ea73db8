-- What is held out of a text without marks is well made. Assumes nothing.
--     hold-texts-made, hold-both-made    in definitions, and in words
--     hold-both-texts                    in words, where no `\mathrm` block is
use Rattle.std.specs.Prelude.{◌≡◌, Bool, ℕ, suc, ◌+◌, ◌≤◌, eqb, drop}
use Rattle.std.proofs.Math.Path.{refl, sym, ap, subst}
use Rattle.std.proofs.Common.{◌∙◌, eq-eqb, eqb-true}
use Rattle.std.proofs.Math.Bool.{true, false, cond}
use mathlib.Core.List.{List, [], ◌∷◌, ◌++◌}
use Rattle.std.proofs.Math.Option.{Option, none}
use native.Mathlib.Omega.{arith}
use Rattle.std.proofs.Math.ListN.{length}
use Rattle.spec.specs.Symbols.{bytes, starts, contains, text_mark, roman_mark}
use Rattle.spec.specs.Held.{TextBlock, Held, Taken, take_out, enclosers_of, text_blocks, hold_texts, hold_both}
use Rattle.spec.specs.Laws.Booleans.{or-neither, and_parts}
use Rattle.spec.specs.Laws.Held.{hold-both-left}
use Rattle.held_laws.specs.Marks.{backslash, has_mark, count, concat, has-mark-append}
use Rattle.held_laws.specs.WellMade.{Every, MarkFreeBlock, Enclosing, texts_of, symbols-of, WellMade, count-append, unmarked-count, count-unmarked}
use Rattle.held_laws.specs.TakeOut.{Turns, ended, unclosed, passing, holding, turns}

-- a symbol more on both sides
more_left : (t : Bool) (a b c : ℕ) → a + b ≡ c → cond t (suc a) a + b ≡ cond t (suc c) c
more_left true a b c e = omega arith
more_left false a b c e = e

more-most : (t : Bool) (a c : ℕ) → a ≤ c → a ≤ cond t (suc c) c
more-most true a c e = omega arith
more-most false a c e = e

module _ (name : List ℕ) (mark : ℕ) where
  -- another symbol is as often in what is left and in the blocks, taken together, as in the text
  pub taken-other :
      (c : ℕ) → eqb mark c ≡ false → {s : List ℕ} {t : Taken} → Turns name mark s t → count c t.left + count c (concat t.blocks) ≡ count c s
  unfolding count concat
  taken-other c other ended = refl
  taken-other c other (unclosed s e f) = omega arith
  taken-other c other (passing x s t e next) = more_left (eqb x c) _ _ _ (taken-other c other next)
  taken-other c other (holding x block behind t e f next) =
      let more = taken-other c other next in
      let l = count-append c (x ∷ block) behind in
      let m = count-append c (x ∷ block) (concat t.blocks) in
      rw other (omega arith)

  -- the mark stands in what is left once more for each block
  pub taken_own : {s : List ℕ} {t : Taken} → Turns name mark s t → count mark t.left + count mark (concat t.blocks) ≡ count mark s + length t.blocks
  unfolding count concat
  taken_own ended = refl
  taken_own (unclosed s e f) = refl
  taken_own (passing x s t e next) = go (eqb x mark) (taken_own next)
    where
      go : (u : Bool) → count mark t.left + count mark (concat t.blocks) ≡ count mark s + length t.blocks
          → cond u (suc (count mark t.left)) (count mark t.left) + count mark (concat t.blocks) ≡ cond u (suc (count mark s)) (count mark s) + length t.blocks
      go true e = omega arith
      go false e = e
  taken_own (holding x block behind t e f next) =
      let more = taken_own next in
      let l = count-append mark (x ∷ block) behind in
      let m = count-append mark (x ∷ block) (concat t.blocks) in
      rw (eq-eqb mark mark refl) (omega arith)

  -- blocks hold what the text holds
  pub blocks-count-within : (c : ℕ) → {s : List ℕ} {t : Taken} → Turns name mark s t → count c (concat t.blocks) ≤ count c s
  unfolding count concat
  blocks-count-within c ended = omega arith
  blocks-count-within c (unclosed s e f) = omega arith
  blocks-count-within c (passing x s t e next) = more-most (eqb x c) _ _ (blocks-count-within c next)
  blocks-count-within c (holding x block behind t e f next) =
      let more = blocks-count-within c next in
      let l = count-append c (x ∷ block) behind in
      let m = count-append c (x ∷ block) (concat t.blocks) in
      omega arith

-- ---- blocks
abbrev Begins : List ℕ → Type 0
Begins b = b ≡ backslash ∷ drop 1 b

taken-begins : (name : List ℕ) (mark : ℕ) → {s : List ℕ} {t : Taken} → Turns (backslash ∷ name) mark s t → Every Begins t.blocks
unfolding Every
taken-begins name mark ended = tt
taken-begins name mark (unclosed s e f) = tt
taken-begins name mark (passing x s t e next) = taken-begins name mark next
taken-begins name mark (holding x block behind t e f next) =
    (ap (λ y. y ∷ block) (eqb-true x backslash (and_parts (starts name (block ++ behind)) (eqb x backslash) e).1), taken-begins name mark next)

every-plain : (bs : List (List ℕ)) → Every Begins bs → has_mark (concat bs) ≡ false → Every MarkFreeBlock bs
unfolding Every concat
every-plain [] h e = tt
every-plain (b ∷ bs) h e =
    let both = or-neither (has_mark b) (has_mark (concat bs)) (sym (has-mark-append b (concat bs)) ∙ e) in
    (record { begins = h.0; mark-free = both.0 }, every-plain bs h.1 both.1)

every-enclosing : (bs : List (List ℕ)) → Every Begins bs → count roman_mark (concat bs) ≡ 0 → Every Enclosing bs
unfolding Every concat
every-enclosing [] h e = tt
every-enclosing (b ∷ bs) h e =
    let l = count-append roman_mark b (concat bs) in
    (record { begins = h.0; no-roman = omega arith }, every-enclosing bs h.1 (omega arith))

-- ---- the two hold-outs
abbrev pub texts_taken : List ℕ → Taken
texts_taken s = take_out (bytes "\\text{") text_mark 0 s

abbrev pub text_turns : (s : List ℕ) → Turns (bytes "\\text{") text_mark s (texts_taken s)
text_turns s = turns (bytes "\\text{") text_mark s

abbrev pub romans_taken : List ℕ → Taken
romans_taken s = take_out (bytes "\\mathrm{") roman_mark 0 (texts_taken s).left

abbrev pub roman_turns : (s : List ℕ) → Turns (bytes "\\mathrm{") roman_mark (texts_taken s).left (romans_taken s)
roman_turns s = turns (bytes "\\mathrm{") roman_mark (texts_taken s).left

-- the same `\text` blocks are held out in definitions and in words
pub same-texts : (s : List ℕ) → texts_of (hold_both s) ≡ texts_of (hold_texts s)
unfolding hold_both hold_texts
same-texts s = symbols-of _ (texts_taken s).blocks ∙ sym (symbols-of [] (texts_taken s).blocks)

-- where no `\mathrm` block is, nothing encloses a block
blocks-free : (r : ℕ) (s : List ℕ) (bs : List (List ℕ)) → count roman_mark s ≡ 0 → text_blocks (enclosers_of r [] s) bs ≡ text_blocks [] bs
unfolding count enclosers_of text_blocks
blocks-free r [] bs e = refl
blocks-free r (x ∷ s) bs e = go (eqb x text_mark) (eqb x roman_mark) bs e (blocks-free r s)
  where
    go : (t o : Bool) (bs : List (List ℕ)) → cond o (suc (count roman_mark s)) (count roman_mark s) ≡ 0
        → ((bs : List (List ℕ)) → count roman_mark s ≡ 0 → text_blocks (enclosers_of r [] s) bs ≡ text_blocks [] bs)
        → text_blocks (elim t as (λ _. List (Option ℕ)) [ true ↦ none ∷ enclosers_of r [] s | false ↦ elim o as (λ _. List (Option ℕ)) [ true ↦ enclosers_of (suc r) [] s | false ↦ enclosers_of r [] s ] ]) bs
        ≡ text_blocks [] bs
    go t true bs e more = absurd (omega arith)
    go true false [] e more = refl
    go true false (b ∷ bs) e more = ap {B = List TextBlock} (λ l. record { symbols = b; encloser = none } ∷ l) (more bs e)
    go false false bs e more = more bs e

module _ (s : List ℕ) (free : has_mark s ≡ false) where
  text-left : count text_mark (texts_taken s).left ≡ length (texts_taken s).blocks
  text-left =
      let none = (unmarked-count s free).0 in
      let own = taken_own (bytes "\\text{") text_mark (text_turns s) in
      let most = blocks-count-within (bytes "\\text{") text_mark text_mark (text_turns s) in
      omega arith

  pub roman-left : count roman_mark (texts_taken s).left ≡ 0
  roman-left = let none = (unmarked-count s free).1 in let other = taken-other (bytes "\\text{") text_mark roman_mark refl (text_turns s) in omega arith

  texts-plain : Every MarkFreeBlock (texts_taken s).blocks
  texts-plain =
      let none = unmarked-count s free in
      let no_text = none.0 in
      let no-roman = none.1 in
      let text = blocks-count-within (bytes "\\text{") text_mark text_mark (text_turns s) in
      let roman = blocks-count-within (bytes "\\text{") text_mark roman_mark (text_turns s) in
      every-plain (texts_taken s).blocks (taken-begins (bytes "text{") text_mark (text_turns s)) (count-unmarked (concat (texts_taken s).blocks) (omega arith) (omega arith))

  pub hold-texts-made : WellMade (hold_texts s)
  unfolding hold_texts Every concat count
  hold-texts-made =
      let e = text-left in
      let listed = symbols-of [] (texts_taken s).blocks in
      let same = ap length listed in
      record {
        texts = subst (Every MarkFreeBlock) (sym listed) texts-plain;
        romans = tt;
        text-marks = omega arith;
        roman-marks = roman-left;
        enclosers = ap (text_blocks []) (sym listed) ∙ sym (blocks-free 0 (texts_taken s).left (texts_of (hold_texts s)) roman-left);
      }

  pub hold-both-made : WellMade (hold_both s)
  unfolding hold_both
  hold-both-made =
      let none = roman-left in
      let all = text-left in
      let own = taken_own (bytes "\\mathrm{") roman_mark (roman_turns s) in
      let most = blocks-count-within (bytes "\\mathrm{") roman_mark roman_mark (roman_turns s) in
      let other = taken-other (bytes "\\mathrm{") roman_mark text_mark refl (roman_turns s) in
      let enclosers = enclosers_of 0 (romans_taken s).blocks (romans_taken s).left in
      let listed = symbols-of enclosers (texts_taken s).blocks in
      let same = ap length listed in
      record {
        texts = subst (Every MarkFreeBlock) (sym listed) texts-plain;
        romans = every-enclosing (romans_taken s).blocks (taken-begins (bytes "mathrm{") roman_mark (roman_turns s)) (omega arith);
        text-marks = omega arith;
        roman-marks = omega arith;
        enclosers = ap (text_blocks enclosers) (sym listed);
      }

  -- in a text with no `\mathrm` block, words hold out what definitions do
  pub hold-both-texts : contains (bytes "\\mathrm{") (hold_texts s).text ≡ false → hold_both s ≡ hold_texts s
  unfolding hold_texts
  hold-both-texts e = hold-both-left s (texts_taken s) refl e ∙ ap with-texts (blocks-free 0 (texts_taken s).left (texts_taken s).blocks roman-left)
    where
      with-texts : List TextBlock → Held
      with-texts bs = record { text = (texts_taken s).left; texts = bs; romans = [] }
