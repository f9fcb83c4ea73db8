-- `text_symbols::spans::skip` meets its contract, by where the run ends. Assumes nothing.
use Rattle.text_symbols.specs.Runs.{member}
use Rattle.text_symbols.specs.Trim.{skipped-span}
use Rattle.text_symbols.proofs.spans.skip.Goals as goal

pub returns : goal.returns
returns c =
    skipped-span (member c.args.class) c.requires c.run_end.ensures
