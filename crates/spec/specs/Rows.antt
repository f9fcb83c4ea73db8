-- The tables of the Rust, row by row in its order: what is typed, and its LaTeX. Assumes nothing.
use Rattle.std.specs.Prelude.{List, [], ◌∷◌, ℕ}
use Prim.Native.String.{String}
use Rattle.spec.specs.Symbols.{bytes}

pub record Row : Type 0 where
  pub typst : List ℕ
  pub latex : List ℕ

abbrev pub row : String → String → Row
row typst latex = record { typst = bytes typst; latex = bytes latex }

-- 13 functions, which keep their parenthesis
abbrev pub function_mappings : List Row
function_mappings =
    row "sin(" "\\sin("
    ∷ row "cos(" "\\cos("
    ∷ row "tan(" "\\tan("
    ∷ row "log(" "\\log("
    ∷ row "ln(" "\\ln("
    ∷ row "exp(" "\\exp("
    ∷ row "lim(" "\\lim("
    ∷ row "max(" "\\max("
    ∷ row "min(" "\\min("
    ∷ row "sup(" "\\sup("
    ∷ row "inf(" "\\inf("
    ∷ row "Pr(" "\\Pr("
    ∷ row "Phi(" "\\Phi("
    ∷ []

-- 7 operators
abbrev pub operator_replacements : List Row
operator_replacements =
    row ">=" "\\geq"
    ∷ row "<=" "\\leq"
    ∷ row "<-" "\\leftarrow"
    ∷ row "->" "\\to"
    ∷ row "!=" "\\neq"
    ∷ row ">>" "\\gg"
    ∷ row "<<" "\\ll"
    ∷ []

-- thirty Greek names
abbrev pub greek_letters : List Row
greek_letters =
    row "epsilon" "\\epsilon"
    ∷ row "Lambda" "\\Lambda"
    ∷ row "lambda" "\\lambda"
    ∷ row "Omega" "\\Omega"
    ∷ row "omega" "\\omega"
    ∷ row "Sigma" "\\Sigma"
    ∷ row "sigma" "\\sigma"
    ∷ row "Theta" "\\Theta"
    ∷ row "theta" "\\theta"
    ∷ row "Gamma" "\\Gamma"
    ∷ row "gamma" "\\gamma"
    ∷ row "Delta" "\\Delta"
    ∷ row "delta" "\\delta"
    ∷ row "kappa" "\\kappa"
    ∷ row "alpha" "\\alpha"
    ∷ row "beta" "\\beta"
    ∷ row "zeta" "\\zeta"
    ∷ row "iota" "\\iota"
    ∷ row "eta" "\\eta"
    ∷ row "phi" "\\phi"
    ∷ row "chi" "\\chi"
    ∷ row "psi" "\\psi"
    ∷ row "rho" "\\rho"
    ∷ row "tau" "\\tau"
    ∷ row "Xi" "\\Xi"
    ∷ row "Pi" "\\Pi"
    ∷ row "xi" "\\xi"
    ∷ row "pi" "\\pi"
    ∷ row "nu" "\\nu"
    ∷ row "mu" "\\mu"
    ∷ []

-- 56 words
abbrev pub word_mappings : List Row
word_mappings =
    row "arrow.r.double" "\\Rightarrow"
    ∷ row "arrow.l.double" "\\Leftarrow"
    ∷ row "arrow.lr.double" "\\Leftrightarrow"
    ∷ row "infinity" "\\infty"
    ∷ row "oo" "\\infty"
    ∷ row "arrow.r" "\\rightarrow"
    ∷ row "arrow.l" "\\leftarrow"
    ∷ row "forall" "\\forall"
    ∷ row "exists" "\\exists"
    ∷ row "approx" "\\approx"
    ∷ row "dots.c" "\\cdots"
    ∷ row "dots.v" "\\vdots"
    ∷ row "dots.h" "\\ldots"
    ∷ row "dots" "\\dots"
    ∷ row "times" "\\times"
    ∷ row "tilde" "\\sim"
    ∷ row "star" "\\star"
    ∷ row "quad" "\\quad"
    ∷ row "qquad" "\\qquad"
    ∷ row "xor" "\\operatorname{xor}"
    ∷ row "log" "\\log"
    ∷ row "sin" "\\sin"
    ∷ row "cos" "\\cos"
    ∷ row "tan" "\\tan"
    ∷ row "exp" "\\exp"
    ∷ row "max" "\\max"
    ∷ row "min" "\\min"
    ∷ row "sup" "\\sup"
    ∷ row "inf" "\\inf"
    ∷ row "lim" "\\lim"
    ∷ row "det" "\\det"
    ∷ row "dim" "\\dim"
    ∷ row "ker" "\\ker"
    ∷ row "arg" "\\arg"
    ∷ row "gcd" "\\gcd"
    ∷ row "lcm" "\\operatorname{lcm}"
    ∷ row "mod" "\\mod"
    ∷ row "ln" "\\ln"
    ∷ row "..." "\\ldots"
    ∷ row "in" "\\in"
    ∷ row "sum" "\\sum"
    ∷ row "prod" "\\prod"
    ∷ row "integral" "\\int"
    ∷ row "and" "\\land"
    ∷ row "or" "\\lor"
    ∷ row "not" "\\lnot"
    ∷ row "cup" "\\cup"
    ∷ row "cap" "\\cap"
    ∷ row "hat" "\\hat"
    ∷ row "bar" "\\bar"
    ∷ row "vec" "\\vec"
    ∷ row "dot" "\\cdot"
    ∷ row "plus.minus" "\\pm"
    ∷ row "minus.plus" "\\mp"
    ∷ row "pm" "\\pm"
    ∷ row "mp" "\\mp"
    ∷ []

-- Phi and Psi
abbrev pub greek_capitals : List Row
greek_capitals = row "Phi" "\\Phi" ∷ row "Psi" "\\Psi" ∷ []
