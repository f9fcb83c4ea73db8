-- Which cases the program can replay. Assumes nothing.
--     CaseFits    the buffers, and formula, table and LaTeX together, are no longer than the room for them
use Rattle.std.specs.Prelude.{◌+◌, ◌≤◌}
use Rattle.spec.specs.Result.{most_symbols}
use Rattle.replay.specs.declared.case_file.Case.{Case}

pub record CaseFits (c : Case) : Type 0 where
  pub work : c.setting.work ≤ 40960
  pub output : c.setting.output ≤ most_symbols
  pub latex : c.latex ≤ most_symbols
  pub body : c.formula + c.table ≤ 57344
