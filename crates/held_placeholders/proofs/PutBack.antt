-- The Rust's put-back by number, where it leaves no mark, is every block at its own mark. Assumes nothing.
--     rust-own    so it is, of what is well made
use Rattle.std.specs.Prelude.{◌≡◌, true, false, ◌||◌, List, ◌++◌, ℕ, ◌+◌, length}
use Rattle.std.proofs.Common.{sym, ap, ◌∙◌, subst, zero-add, arith, length-append}
use Rattle.std.proofs.Math.Path.{ap₂}
use Rattle.spec.specs.Held.{Held, in_full}
use Rattle.spec.specs.Laws.Booleans.{or-neither}
use Rattle.held_laws.specs.Marks.{has_mark, block_at, concat, has-mark-append}
use Rattle.held_laws.specs.WellMade.{texts_of, WellMade, concat-append, concat-mark-free}
use Rattle.held_laws.specs.InFull.{in-full-order}
use Rattle.held_placeholders.specs.Numbered.{placeholder, numbered, numbered_romans, rust_put_back}
use Rattle.held_placeholders.specs.Fill.{fill, numbers_below, occurs}
use Rattle.held_placeholders.specs.Broken.{marked}
use Rattle.held_placeholders.specs.Losing.{lost_below, nested_below}
use Rattle.held_placeholders.specs.Agree.{after, restored-after}
use Rattle.held_placeholders.specs.Stored.{StoredAs, put-back-agrees}
use Rattle.held_placeholders.specs.Numbering.{numbers, numbered-fill, numbers-below, roman-occurs, numbers-plain, AllStoredAs, stored-as-length, stored-as-at, stored-as-texts, stored-as-romans}
use Rattle.held_placeholders.specs.ByNumber.{order-fill, nested-concat, marked-range}

module _ {h : Held} (made : WellMade h) where
  abbrev first : ℕ
  first = length (texts_of h)

  abbrev blocks : List (List ℕ)
  blocks = texts_of h ++ h.romans

  abbrev rust_blocks : List (List ℕ)
  rust_blocks = texts_of h ++ numbered_romans h.romans 0 h.text

  abbrev ks : List ℕ
  ks = numbers h.romans 0 first h.text

  all_fair : AllStoredAs 0 blocks rust_blocks
  all_fair =
      let c = made.text-marks in
      stored-as-texts 0 (texts_of h) h.romans (numbered_romans h.romans 0 h.text) made.texts
      (stored-as-romans h.text h.romans (0 + first) 0 made.romans made.roman-marks (omega arith))

  fair : (k : ℕ) → StoredAs k (block_at blocks k) (block_at rust_blocks k)
  fair k = subst (λ n. StoredAs n (block_at blocks k) (block_at rust_blocks k)) (zero-add k) (stored-as-at 0 blocks rust_blocks all_fair k)

  below : numbers_below (length blocks) ks h.text ≡ true
  below =
      let l = length-append (texts_of h) h.romans in let c = made.text-marks in let d = made.roman-marks in
      numbers-below (length blocks) h.text h.romans 0 first (omega arith) (omega arith)

  outer : (k : ℕ) → has_mark (block_at blocks k) ≡ true → occurs k ks h.text ≡ true
  outer k e =
      let range = marked-range (texts_of h) h.romans made.texts k e in
      let low = range.0 in let high = range.1 in let d = made.roman-marks in
      roman-occurs k h.text h.romans 0 first low (omega arith)

  -- ---- the rounds
  rust : rust_put_back h ≡ after (block_at rust_blocks) (length blocks) (fill placeholder ks h.text)
  unfolding rust_put_back
  rust =
      restored-after rust_blocks (numbered h.romans 0 first h.text)
      ∙ ap₂ (λ n s. after (block_at rust_blocks) n s) (stored-as-length 0 blocks rust_blocks all_fair) (numbered-fill h.text h.romans 0 first)

  nested_same : nested_below (block_at blocks) (length blocks) ≡ has_mark (concat h.romans)
  nested_same =
      nested-concat blocks
      ∙ ap has_mark (concat-append (texts_of h) h.romans)
      ∙ has-mark-append (concat (texts_of h)) (concat h.romans)
      ∙ ap (λ t. t || has_mark (concat h.romans)) (concat-mark-free (texts_of h) made.texts)

  -- where no mark is left, the Rust has put every block to its own mark
  pub rust-own : marked (rust_put_back h) ≡ false → rust_put_back h ≡ in_full h
  rust-own e =
      let a = put-back-agrees (block_at blocks) (block_at rust_blocks) fair (length blocks) ks h.text outer below in
      let kept : nested_below (block_at blocks) (length blocks) || lost_below (length blocks) ks h.text ≡ false = sym a.remains ∙ sym (ap marked rust) ∙ e in
      let none = sym nested_same ∙ (or-neither (nested_below (block_at blocks) (length blocks)) (lost_below (length blocks) ks h.text) kept).0 in
      rust
      ∙ a.same kept
      ∙ ap (λ l. fill (block_at blocks) l h.text) (numbers-plain h.text h.romans 0 first none)
      ∙ sym (in-full-order made ∙ order-fill made none)
