-- `text_symbols::spans::skip_end` meets its contract, by where the run begins. Assumes nothing.
use Rattle.text_symbols.specs.Runs.{member}
use Rattle.text_symbols.specs.Trim.{skipped-end}
use Rattle.text_symbols.proofs.spans.skip_end.Goals as goal

pub returns : goal.returns
returns c =
    skipped-end (member c.args.class) c.requires c.run_start.ensures
