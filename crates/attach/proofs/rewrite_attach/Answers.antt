-- `attach::rewrite_attach` meets its contract: three appends in a row are one. Assumes nothing.
use Rattle.text_search.specs.Half.{half_work}
use Rattle.text.specs.declared.writer.Writer.{Writer}
use Rattle.text.specs.Writer.{Apart, apart-kept, appended-more, appended-part}
use Prim.Native.Nat.{ℕ, ◌+◌, ◌-◌, ◌≤◌}
use mathlib.Core.Logic.{inl, inr, ⊎_elim}
use native.Mathlib.Omega.{arith}
use Rattle.attach.proofs.rewrite_attach.Goals as goal

-- what lies within the text lies apart from the region that is written
apart : (from n : ℕ) (o : Writer) (at m : ℕ) → Apart from n o → from ≤ at → at + m ≤ from + n → Apart at m o
apart from n o at m r low high = ⊎_elim (λ l. inl (omega arith)) (λ l. inr (omega arith)) r

pub returns : goal.returns
returns c =
    let a = c.copy-before.ensures in
    let b = c.put_underset-written.ensures in
    let below = c.args.arguments.below in
    let base = c.args.arguments.base in
    let behind = c.args.source.at + (c.args.i + 7 + c.args.k + 1) in
    let rest = c.args.source.at + c.args.source.n - behind in
    let away : (at m : ℕ) → c.args.source.at ≤ at → at + m ≤ c.args.source.at + c.args.source.n → Apart at m c.args.out = λ at m. apart c.args.source.at c.args.source.n c.args.out at m c.requires.regions.apart in
    let of-below = appended-part a (c.args.source.at + below.start) (below.end - below.start) (away (c.args.source.at + below.start) (below.end - below.start) (omega arith) (omega arith)) in
    let of-base = appended-part a (c.args.source.at + base.start) (base.end - base.start) (away (c.args.source.at + base.start) (base.end - base.start) (omega arith) (omega arith)) in
    let rest-b = appended-part b.0 behind rest (apart-kept behind rest a (away behind rest (omega arith) (omega arith))) in
    let rest-a = appended-part a behind rest (away behind rest (omega arith) (omega arith)) in
    appended-more (appended-more a (rw of-base at (rw of-below at b.0))) (rw rest-a at (rw rest-b at c.copy.ensures))
