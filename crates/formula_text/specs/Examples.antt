-- Document 01's example and the two other kinds of text, by computation. Assumes nothing.
use Rattle.std.specs.Prelude.{◌≡◌, refl, []}
use Rattle.spec.specs.Symbols.{bytes}
use Rattle.spec.specs.Pipeline.{converted}
use Rattle.spec.specs.Program.{up, counted, printed}

pub fraction-printed : printed (bytes "d\n(a + 1)/b") [] ≡ bytes "ok 15\n\\frac{a + 1}{b}\n"
unfolding converted counted up
fraction-printed = refl

pub refusal-printed : printed (bytes "d\nlr(|)") [] ≡ bytes "refused 8\n"
unfolding converted counted up
refusal-printed = refl

pub neither-printed : printed (bytes "dd") [] ≡ bytes "first line: d or i\n"
neither-printed = refl
