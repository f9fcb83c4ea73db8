-- Texts with their atom counts, and texts that are not plain: one table, checked by computation. Assumes nothing.
use Rattle.std.specs.Prelude.{◌≡◌, refl, List, [], ◌∷◌, map, ℕ}
use Rattle.std.proofs.Math.Option.{Option, none, some}
use Prim.Native.String.{String}
use Rattle.spec.specs.Symbols.{bytes}
use Rattle.plain_check.specs.Readers.{read_sum}
use Rattle.plain_check.specs.Check.{plain_count}

record Example : Type 0 where
  typed : List ℕ
  answer : Option ℕ

abbrev plain : String → ℕ → Example
plain s n = record { typed = bytes s; answer = some n }

abbrev other : String → Example
other s = record { typed = bytes s; answer = none }

abbrev examples : List Example
examples =
    plain "a/(b/c)" 3
    ∷ plain "(a/b)" 2
    ∷ plain "(a/b)/c" 3
    ∷ plain "((a/b)/c + d)/(e/f)" 6
    ∷ plain "(a + 1)/b" 3
    ∷ plain "x_1^2 + (y - z)/2" 4
    ∷ plain "x_(a + b)^(c/d) - ((a))/b" 7
    ∷ plain "123456789 alpha/Omega" 3
    ∷ other ""
    ∷ other "a "
    ∷ other "a +b"
    ∷ other "2x"
    ∷ other "1234567890"
    ∷ other "a/b/c"
    ∷ other "x^2/y"
    ∷ other "(a/b/c)/d"
    ∷ other "(alpha)/b"
    ∷ other "x^2_1"
    ∷ other "x_(y_1)"
    ∷ []

examples-counted : map (λ (e : Example). plain_count e.typed) examples ≡ map (λ (e : Example). e.answer) examples
unfolding plain_count read_sum
examples-counted = refl
