-- `cases::rewrite_cases` meets its contract: three appends in a row are one. Assumes nothing.
use Rattle.spec.specs.Result.{most_symbols}
use Rattle.text.specs.declared.writer.Writer.{Writer}
use Rattle.text.specs.Writer.{Apart, apart-kept, appended-more, appended-part}
use Prim.Native.Nat.{ℕ, ◌+◌, ◌-◌, ◌≤◌}
use mathlib.Core.Logic.{inl, inr, ⊎_elim}
use native.Mathlib.Omega.{arith}
use Rattle.cases.proofs.rewrite_cases.Goals as goal

-- what lies within the text lies apart from the region that is written
apart : (from n : ℕ) (o : Writer) (at m : ℕ) → Apart from n o → from ≤ at → at + m ≤ from + n → Apart at m o
apart from n o at m r low high = ⊎_elim (λ l. inl (omega arith)) (λ l. inr (omega arith)) r

pub returns : goal.returns
returns c =
    let a = c.copy-before.ensures in
    let b = c.put_cases-written.ensures in
    let inside = c.args.source.at + c.args.i + 6 in
    let behind = inside + c.args.k + 1 in
    let rest = c.args.source.at + c.args.source.n - behind in
    let away : (at m : ℕ) → c.args.source.at ≤ at → at + m ≤ c.args.source.at + c.args.source.n → Apart at m c.args.out = λ at m. apart c.args.source.at c.args.source.n c.args.out at m c.requires.regions.0.apart in
    let inner = appended-part a inside c.args.k (away inside c.args.k (omega arith) (omega arith)) in
    let rest-b = appended-part b.0 behind rest (apart-kept behind rest a (away behind rest (omega arith) (omega arith))) in
    let rest-a = appended-part a behind rest (away behind rest (omega arith) (omega arith)) in
    appended-more (appended-more a (rw inner at b.0)) (rw rest-a at (rw rest-b at c.copy.ensures))
