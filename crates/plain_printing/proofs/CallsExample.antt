-- An accepting call: `a/(b/c)` with either table of no records, any tall field and any buffers that are large enough.
use Rattle.std.specs.Prelude.{◌≡◌, refl, true, List, ◌++◌, ℕ, ◌≤◌, length, drop, replicate}
use Prim.Native.Char.{code}
use Rattle.std.proofs.Common.{arith}
use Rattle.spec.specs.Symbols.{bytes}
use Rattle.spec.specs.Result.{passed}
use Rattle.spec.specs.Finish.{all_tall}
use Rattle.spec.specs.Pipeline.{least_work, Call}
use Rattle.spec.specs.Grammar.{variable, Sum, product, factor, fraction, atom, enclosed, Plain, text, latex, height}
use Rattle.plain_printing.specs.Calls.{NoRecords, WithinLimits}
use Rattle.plain_printing.proofs.Calls.{accepting-call}

abbrev nested : Sum
nested = product (factor (fraction (atom (variable (code "a") refl)) (enclosed (product (factor (fraction (atom (variable (code "b") refl)) (atom (variable (code "c") refl))))))))

nested-text : text nested ≡ bytes "a/(b/c)"
unfolding text
nested-text = refl

nested-latex : (field : ℕ) → latex field nested ≡ bytes "\\frac{a}{\\frac{b}{c}}"
unfolding latex
nested-latex field = refl

nested-height : height nested ≡ 2
unfolding height
nested-height = refl

nested-plain : Plain (bytes "a/(b/c)")
nested-plain = record { sum = nested; is-proper = refl; reads = nested-text; short = omega arith }

module _ (table : List ℕ) (empty : NoRecords table) (field : ℕ) (small : field ≤ all_tall) (work output : List ℕ) (wide : least_work ≤ length work) (long : 21 ≤ length output) where
  within : WithinLimits field nested-plain work output
  unfolding nested-plain
  within = record { work-wide = wide; field-small = small; shallow = rw nested-height (omega arith); latex-short = rw (nested-latex field) (omega arith); output-long = rw (nested-latex field) long }

  pub nested-call : Call (bytes "a/(b/c)") table true field work output (passed 21) (replicate (length work) 0) (bytes "\\frac{a}{\\frac{b}{c}}" ++ drop 21 output)
  unfolding nested-plain latex
  nested-call = accepting-call nested-plain table empty field work output within
