-- `fraction_operands::strip::strip_trimmed` meets its contract, by the text's ends. Assumes nothing.
use borrow.Author.Tests.{eq-eqb}
use lib.ListN.{length, get_or}
use mathlib.Core.Path.{sym, ◌∙◌, ◌≡◌}
use Prim.Native.Nat.{◌-◌}
use Rattle.std.proofs.Common.{rules}
use Rattle.fraction_operands.specs.Strip.{strip-inner, strip-apart}
use Rattle.fraction_operands.proofs.strip.strip_trimmed.Goals as goal

pub returns-then-is_level : goal.returns-then-is_level
returns-then-is_level c =
    let s = c.args.s.now in
    let opened : get_or s 0 0 ≡ 40 = search rules in
    let shut : get_or s (length s - 1) 0 ≡ 41 = search rules in
    sym (strip-inner s c.in-40.len_at_least (eq-eqb _ _ opened) (eq-eqb _ _ shut) (sym c.is_level.ensures ∙ c.if-is_level.true))

pub returns : goal.returns
returns c =
    let s = c.args.s.now in
    let opened : get_or s 0 0 ≡ 40 = search rules in
    let shut : get_or s (length s - 1) 0 ≡ 41 = search rules in
    sym (strip-apart s c.in-40.len_at_least (eq-eqb _ _ opened) (eq-eqb _ _ shut) (sym c.is_level.ensures ∙ c.if-is_level.false))
