-- `formula_text::convert` meets its contract: the answer of the call is what was written. Assumes nothing.
use mathlib.Core.Path.{ap}
use native.Mathlib.Omega.{arith}
use lib.ListN.{length-take}
use Rattle.entry_ends.specs.Answer.{meaning}
use Rattle.math_conv.specs.Fits.{call-count-fits}
use Rattle.formula_text.specs.Runs.{converts-done, converts-refused}
use borrow.Author.Rules.{rules}
use Rattle.formula_text.proofs.convert.Goals as goal

pub slice_bounds-put_latex-end : goal.slice_bounds-put_latex-end
slice_bounds-put_latex-end c =
    let f = call-count-fits c.typst_to_latex.ensures c.in-Ok.is in omega arith

pub slice_bounds-put_latex-end-in-Ok : goal.slice_bounds-put_latex-end-in-Ok
slice_bounds-put_latex-end-in-Ok c =
    let f = call-count-fits c.typst_to_latex.ensures c.in-Ok.is in simp length-take (omega arith)

pub put_latex-requires : goal.put_latex-requires
put_latex-requires c =
    let f = call-count-fits c.typst_to_latex.ensures c.in-Ok.is in record { most_text_in_bounds = search rules; latex_len_bound = simp length-take (omega arith) }

pub returns-in-Ok : goal.returns-in-Ok
returns-in-Ok c =
    converts-done c.requires.work_len c.requires.output_len c.typst_to_latex.ensures (ap meaning c.in-Ok.is) c.put_latex.ensures

pub returns-in-Err : goal.returns-in-Err
returns-in-Err c =
    converts-refused c.requires.work_len c.requires.output_len c.typst_to_latex.ensures (ap meaning c.in-Err.is) c.put_refusal.ensures
