-- `pattern_rewriting::put_edit` meets its contract: three appends in a row are one. Assumes nothing.
use Rattle.text.specs.Writer.{appended-more, appended-part}
use Prim.Native.Nat.{◌+◌, ◌-◌}
use mathlib.Core.Path.{◌≡◌}
use Rattle.pattern_rewriting.specs.Edits.{ending}
use Rattle.pattern_rewriting.proofs.put_edit.Goals as goal
use Rattle.pattern_rewriting.proofs.put_edit.Goals.{then-edit, else-edit}

pub returns : goal.returns
returns c =
    let kept = c.args.edit.kept in
    let inside = appended-part c.put_all-opened.ensures (c.args.at + kept.start) (kept.end - kept.start) c.requires.apart in
    let closing : c.if-edit.ending.now ≡ ending c.args.edit.closed =
    elim c.if-edit.branch [ then-edit w ↦ rw (w.ending-is, w.if-edit.true) | else-edit w ↦ rw (w.ending-is, w.if-edit.false) ] in
    appended-more (appended-more c.put_all-opened.ensures (rw inside at c.copy-filled.ensures)) (rw closing at c.put_all.ensures)
