-- `name_words::convert_functions` meets its contract: its rows are those of the table. Assumes nothing.
use Rattle.spec.specs.Rows.{function_mappings}
use Rattle.spec.specs.Words.{replace_rows}
use Rattle.name_entry.specs.Sized.{staged-alike}
use Rattle.name_tables.specs.Kinds.{rows_replaced}
use Rattle.name_words.proofs.convert_functions.Goals as goal

pub returns-clause-staged : goal.returns-clause-staged
returns-clause-staged c = staged-alike (replace_rows function_mappings) (λ s. rows_replaced function_mappings s) c.apply_rows.ensures.staged_within.staged
