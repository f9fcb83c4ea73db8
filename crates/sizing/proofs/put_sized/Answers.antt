-- `sizing::put_sized` meets its contract: two appends in a row are one. Assumes nothing.
use Rattle.text.specs.Writer.{appended-more}
use Rattle.sizing.proofs.put_sized.Goals as goal

pub returns : goal.returns
returns c = appended-more c.put_all-end.ensures c.put.ensures
