-- `alignment::put_aligned` meets its contract: the environment around the trimmed text. Assumes nothing.
use Rattle.alignment.specs.Aligned.{aligned-by}
use native.Mathlib.Omega.{arith}
use Rattle.text.specs.Writer.{appended-part, appended-long, apart-kept}
use Rattle.alignment.proofs.put_aligned.Goals as goal

pub returns : goal.returns
returns c =
    aligned-by c.trimmed-span.ensures (appended-part c.put_all-opened.ensures c.args.source.at c.args.source.n c.requires.regions.apart)
    c.put_all-opened.ensures c.put_lines-filled.ensures.appended c.put_all.ensures

pub put_lines-filled-requires-clause-regions : goal.put_lines-filled-requires-clause-regions
put_lines-filled-requires-clause-regions c =
    let a = c.put_all-opened.ensures in let r = c.requires.regions in
    let l = appended-long a in let n = a.counted in let p = a.same-place in let q = a.same-cap in
    let s = r.source in let g = r.region in let h = r.short in
    record { source = omega arith; region = omega arith; apart = apart-kept c.args.source.at c.args.source.n a r.apart; short = h; small = omega arith }
