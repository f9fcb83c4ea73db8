-- A search that begins a text outside quotes sees all of it.
use Rattle.call_quotes.specs.Quotes.{sees-all}
use Rattle.stage_lines.proofs.first_part.Goals as goal

pub split_top_level_commas-part-requires-clause-sees :
    goal.split_top_level_commas-part-requires-clause-sees
split_top_level_commas-part-requires-clause-sees c = rw c.new.ensures (sees-all _ _)
