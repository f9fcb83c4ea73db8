-- `name_words::convert_greek_capitals` meets its contract: its rows are those of the table. Assumes nothing.
use Rattle.spec.specs.Rows.{greek_capitals}
use Rattle.spec.specs.Words.{convert_greek_capitals}
use Rattle.name_entry.specs.Sized.{staged-alike}
use Rattle.name_tables.specs.Kinds.{rows-capital}
use Rattle.name_words.proofs.convert_greek_capitals.Goals as goal

pub returns-clause-staged : goal.returns-clause-staged
returns-clause-staged c = staged-alike convert_greek_capitals (λ s. rows-capital greek_capitals s) c.apply_rows.ensures.staged_within.staged
