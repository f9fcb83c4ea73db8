use Rattle.std.proofs.Common.{◌≡◌, ℕ, ◌++◌, false, List, nat_eq, not, take, drop, refl, sym, ap, ◌∙◌, take-append-drop}
use Rattle.std.proofs.lemmas.Bool.Decides.{Decides-eqb}
use Rattle.std.proofs.lemmas.Slice.Eq.{slice_eq-Decides}
use borrow.Author.Tests.{not-false}
use lib.Pointwise.{pointwise}
use Rattle.text_symbols.specs.Parts.{rest_of}
use Rattle.std.specs.Prelude.{Option as Maybe, Some, None, is_some}
use Rattle.std.proofs.lemmas.Bool.{false≢true}
use Rattle.replay.proofs.calls.compare_done.Goals as goal

-- two texts are the same where `!=` does not hold of them
same : (xs ys : List ℕ) → not (pointwise nat_eq xs ys) ≡ false → xs ≡ ys
same xs ys e = (slice_eq-Decides Decides-eqb xs ys _ refl).0 (not-false _ e)

absent : (r : Maybe ℕ) → is_some r ≡ false → r ≡ None
absent None e = refl
absent (Some k) e = absurd (false≢true (sym e))

-- the output is its beginning and the rest
pub returns : goal.returns
returns c =
    let n = c.args.n in
    let output = c.args.output.now in
    let front : take n output ≡ c.args.latex.now = same _ _ (sym c.ne.ensures ∙ c.if-ne.false) in
    let back = same _ _ (sym c.ne-2.ensures ∙ c.if-ne-2.false) in (
      absent c.args.refusal (sym c.is_some.ensures ∙ c.if-is_some.false),
      c.if-n-latex.false,
      sym (take-append-drop n output)
          ∙ ap (λ (l : List ℕ). l ++ drop n output) front
          ∙ ap (λ (l : List ℕ). c.args.latex.now ++ l) (sym (rest_of n output) ∙ back ∙ rest_of n c.args.old.now),
    )
