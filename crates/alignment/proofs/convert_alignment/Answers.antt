-- `alignment::convert_alignment` meets its contract, by what the text has. Assumes nothing.
use Rattle.alignment.specs.Aligned.{lined_to, whole-test, align-some, align-breaks, align-none, lined-whole}
use Rattle.spec.specs.Finish.{has_alignment, has_line_breaks, convert_alignment}
use Rattle.text_symbols.specs.Parts.{part, length_part}
use Rattle.text.specs.Stage.{Staged, placed-regions, staged-same, staged-written}
use Rattle.text.specs.Written.{appended-written}
use Rattle.spec.specs.Result.{stage}
use mathlib.Core.Path.{refl, sym, ◌∙◌, subst}
use Rattle.alignment.proofs.convert_alignment.Goals as goal

pub returns-then-has_alignment-clause-staged : goal.returns-then-has_alignment-clause-staged
returns-then-has_alignment-clause-staged c =
    let place = c.in_ok-source.source in
    let has = whole-test has_alignment place.at place.n c.args.work.now c.has_alignment.ensures c.if-has_alignment.true in
    staged-written c.requires c.in_ok-source.was convert_alignment (appended-written (rw c.new-out.ensures at c.put_aligned.ensures.appended) refl (placed-regions c.requires c.in_ok-source.was).region)
    (align-some (part place.at place.n c.args.work.now) has) c.finished.ensures

pub returns-then-has_line_breaks-clause-staged : goal.returns-then-has_line_breaks-clause-staged
returns-then-has_line_breaks-clause-staged c =
    let place = c.in_ok-source.source in
    let s = part place.at place.n c.args.work.now in
    let regions = placed-regions c.requires c.in_ok-source.was in
    let plain = whole-test has_alignment place.at place.n c.args.work.now c.has_alignment.ensures c.if-has_alignment.false in
    let breaks = whole-test has_line_breaks place.at place.n c.args.work.now c.has_line_breaks.ensures c.if-has_line_breaks.true in
    let whole = lined_to s place.n 0 in
    staged-written c.requires c.in_ok-source.was {t = whole} convert_alignment (appended-written {out = whole} (rw c.new-out.ensures at c.put_lines.ensures.appended) refl regions.region)
    (align-breaks s plain breaks ∙ sym (lined-whole s place.n (length_part place.at place.n c.args.work.now regions.source))) c.finished-then-has_line_breaks.ensures

pub returns-clause-staged : goal.returns-clause-staged
returns-clause-staged c =
    let place = c.in_ok-source.source in
    let plain = whole-test has_alignment place.at place.n c.args.work.now c.has_alignment.ensures c.if-has_alignment.false in
    let smooth = whole-test has_line_breaks place.at place.n c.args.work.now c.has_line_breaks.ensures c.if-has_line_breaks.false in
    subst (λ p. Staged c.args.work.now c.args.work.now c.args.text p (stage convert_alignment)) (sym c.in_ok-source.was)
    (staged-same c.requires c.in_ok-source.was convert_alignment (align-none (part place.at place.n c.args.work.now) plain smooth))
