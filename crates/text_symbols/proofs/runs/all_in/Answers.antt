-- `text_symbols::runs::all_in` meets its contract, by where the run ends. Assumes nothing.
use Rattle.text_symbols.specs.Runs.{member, ahead-all}
use Rattle.text_symbols.proofs.runs.all_in.Goals as goal

pub returns : goal.returns
returns c = ahead-all (member c.args.class) c.run_end.ensures
