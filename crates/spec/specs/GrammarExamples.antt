-- Plain formulas with their LaTeX under a tall field and their atom counts, and what the rules leave out: two tables, checked by computation. Assumes nothing.
use Rattle.std.specs.Prelude.{◌≡◌, refl, true, false, List, [], ◌∷◌, map, ℕ}
use Prim.Native.Char.{code}
use Rattle.spec.specs.Symbols.{bytes}
use Rattle.spec.specs.Finish.{all_tall}
use Rattle.spec.specs.Grammar.{Atom, variable, greek, number, Sum, product, plus, minus, factor, beside, Factor, scripted, fraction, group, atom, enclosed, bare, symbol, inner, greek_name, proper, text, latex, atoms}

-- ---- parts
abbrev a : Atom
a = variable (code "a") refl

abbrev b : Atom
b = variable (code "b") refl

abbrev c : Atom
c = variable (code "c") refl

abbrev alpha : Atom
alpha = greek 14 refl

abbrev one : Atom
one = number (bytes "1") refl refl

abbrev unscripted : Atom → Factor
unscripted x = scripted x bare bare

abbrev alone : Factor → Sum
alone f = product (factor f)

abbrev over : Atom → Atom → Factor
over n d = fraction (atom n) (atom d)

-- ---- plain formulas
record Example : Type 0 where
  sum : Sum
  typed : List ℕ
  field : ℕ
  printed : List ℕ
  count : ℕ

abbrev examples : List Example
examples =
    record { sum = alone (unscripted alpha); typed = bytes "alpha"; field = all_tall; printed = bytes "\\alpha"; count = 1 }
    ∷ record {
      sum = plus (beside (unscripted a) (factor (unscripted alpha))) (minus (factor (unscripted one)) (alone (unscripted b)));
      typed = bytes "a alpha + 1 - b";
      field = all_tall;
      printed = bytes "a \\alpha + 1 - b";
      count = 4;
    }
    ∷ record {
      sum = alone (fraction (enclosed (plus (factor (unscripted a)) (alone (unscripted one)))) (atom b));
      typed = bytes "(a + 1)/b";
      field = all_tall;
      printed = bytes "\\frac{a + 1}{b}";
      count = 3;
    }
    ∷ record {
      sum = alone (fraction (atom a) (enclosed (alone (over b c))));
      typed = bytes "a/(b/c)";
      field = all_tall;
      printed = bytes "\\frac{a}{\\frac{b}{c}}";
      count = 3;
    }
    ∷ record {
      sum = alone (fraction (enclosed (alone (over a b))) (atom c));
      typed = bytes "(a/b)/c";
      field = all_tall;
      printed = bytes "\\frac{\\frac{a}{b}}{c}";
      count = 3;
    }
    ∷ record { sum = alone (group (alone (over a b))); typed = bytes "(a/b)"; field = all_tall; printed = bytes "\\left(\\frac{a}{b}\\right)"; count = 2 }
    ∷ record { sum = alone (group (alone (over a b))); typed = bytes "(a/b)"; field = 16; printed = bytes "\\left(\\frac{a}{b}\\right)"; count = 2 }
    ∷ record { sum = alone (group (alone (over a b))); typed = bytes "(a/b)"; field = 15; printed = bytes "(\\frac{a}{b})"; count = 2 }
    ∷ record { sum = alone (group (alone (unscripted a))); typed = bytes "(a)"; field = all_tall; printed = bytes "(a)"; count = 1 }
    ∷ record {
      sum = alone (scripted a (symbol (code "1") refl) (inner (alone (group (alone (over b c))))));
      typed = bytes "a_1^((b/c))";
      field = all_tall;
      printed = bytes "a_1^{(\\frac{b}{c})}";
      count = 3;
    }
    ∷ []

examples-proper : map (λ (e : Example). proper e.sum) examples ≡ map (λ (e : Example). true) examples
examples-proper = refl

examples-typed : map (λ (e : Example). text e.sum) examples ≡ map (λ (e : Example). e.typed) examples
unfolding text greek_name
examples-typed = refl

examples-printed : map (λ (e : Example). latex e.field e.sum) examples ≡ map (λ (e : Example). e.printed) examples
unfolding latex greek_name
examples-printed = refl

examples-counted : map (λ (e : Example). atoms e.sum) examples ≡ map (λ (e : Example). e.count) examples
unfolding atoms
examples-counted = refl

-- ---- left out: a lone atom in operand parentheses, a script in a script
abbrev improper : List Sum
improper =
    alone (fraction (atom a) (enclosed (alone (unscripted b))))
    ∷ alone (scripted a (inner (alone (scripted b (symbol (code "1") refl) bare))) bare)
    ∷ []

left_out : map proper improper ≡ false ∷ false ∷ []
left_out = refl

left-out-typed : map text improper ≡ bytes "a/(b)" ∷ bytes "a_(b_1)" ∷ []
unfolding text
left-out-typed = refl
