-- `text::writer::Writer::put` meets its contract: below the capacity the byte is stored, past it nothing is. Assumes nothing.
use mathlib.Core.Path.{refl, sym, ◌∙◌}
use Rattle.text.specs.Writer.{put-below, put-past}
use Rattle.text.proofs.writer.Writer.put.Goals as goal
use Rattle.text.proofs.writer.Writer.put.Goals.{then-self, else-self}

pub returns : goal.returns
returns c =
    record {
      same-place = refl;
      same-cap = refl;
      counted = refl;
      work =
          elim c.if-self.branch [
            | then-self w ↦ w.work-is ∙ sym (put-below _ _ _ _ _ w.if-self.true)
            | else-self w ↦ w.work-is ∙ sym (put-past _ _ _ _ _ w.if-self.false)
          ];
    }
