-- Document 01's starred cases, with display on, a table of no records and the Rust's sizing: one table, checked by computation. The answer for the chain `a/b/c` is
-- document 02's, which replaces document 01's. Assumes nothing.
use Rattle.std.specs.Prelude.{◌≡◌, refl, true, List, [], ◌∷◌, map}
use Rattle.spec.specs.Result.{passed}
use Rattle.spec.specs.Rows.{Row, row}
use Rattle.spec.specs.Finish.{all_tall}
use Rattle.spec.specs.Pipeline.{typst_to_latex}

abbrev pub starred : List Row
starred =
    row "" ""
    ∷ row "a/(b/c)" "\\frac{a}{\\frac{b}{c}}"
    ∷ row "(a/b)" "\\left(\\frac{a}{b}\\right)"
    ∷ row "a/b/c" "\\frac{\\frac{a}{b}}{c}"
    ∷ row "x^2/y" "x^\\frac{2}{y}"
    ∷ row "x_max" "x_{max}"
    ∷ row "x_alpha" "x_\\alpha"
    ∷ row "lr([0, 1))" "\\left[0, \\right])"
    ∷ row "attach(x, b: f(y))" "\\underset{f(y}{x}"
    ∷ row "alpha \"dB\"" "\\alpha\\text{dB}"
    ∷ row "{1, 2}" "\\{1, 2\\}"
    ∷ []

pub starred-hold : map (λ (r : Row). typst_to_latex [] true all_tall r.typst) starred ≡ map (λ (r : Row). passed r.latex) starred
unfolding typst_to_latex
starred-hold = refl
