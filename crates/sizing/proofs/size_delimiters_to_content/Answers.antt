-- `sizing::size_delimiters_to_content` meets its contract: with no opening delimiter the text stays, and else the rewritten text is judged. Assumes nothing.
use Rattle.sizing.specs.Levels.{openerless-of, size-openerless}
use Rattle.spec.specs.Symbols.{bytes, contains}
use Rattle.spec.specs.Finish.{size_delimiters_to_content}
use Rattle.spec.specs.Result.{stage}
use Rattle.text_symbols.specs.Parts.{part, whole_part}
use Rattle.text.specs.Stage.{Staged, placed-regions, staged-same, staged-written}
use Rattle.text.specs.Written.{appended-written}
use mathlib.Core.Bool.{◌||◌}
use mathlib.Core.Path.{refl, sym, ap, ◌∙◌, subst}
use Rattle.sizing.proofs.size_delimiters_to_content.Goals as goal

pub returns-then-not-has_delimiter : goal.returns-then-not-has_delimiter
returns-then-not-has_delimiter c =
    let place = c.in_ok-source.source in
    let text = part place.at place.n c.args.work.now in
    let none =
    ap (λ u. contains (bytes "(") u || contains (bytes "[") u) (sym (whole_part place.at place.n c.args.work.now))
    ∙ sym c.has_delimiter.ensures ∙ c.if-not-has_delimiter.true
    in
    subst (λ p. Staged c.args.work.now c.args.work.now c.args.text p (stage (size_delimiters_to_content c.args.field))) (sym c.in_ok-source.was)
    (staged-same c.requires c.in_ok-source.was (size_delimiters_to_content c.args.field) (size-openerless c.args.field text (openerless-of text none)))

pub returns : goal.returns
returns c =
    staged-written c.requires c.in_ok-source.was (size_delimiters_to_content c.args.field)
    (appended-written (rw c.new-out.ensures at c.size.ensures.appended) refl (placed-regions c.requires c.in_ok-source.was).region) refl c.finished.ensures
