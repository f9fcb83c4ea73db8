-- What the brace step writes, and which opener each closer matches: document 02's A10 by example, one table, checked by computation. Assumes nothing.
use Rattle.std.specs.Prelude.{◌≡◌, refl, List, [], ◌∷◌, map, ℕ}
use Rattle.std.proofs.Math.Option.{Option, none, some}
use Rattle.spec.specs.Symbols.{bytes}
use Rattle.spec.specs.Finish.{escape_set_braces}
use Rattle.spec.specs.Braces.{text_stack, opener_of}

record Example : Type 0 where
  typed : List ℕ
  closers : List ℕ
  openers : List (Option ℕ)
  printed : List ℕ

abbrev examples : List Example
examples =
    record { typed = bytes "{a}"; closers = 2 ∷ []; openers = some 0 ∷ []; printed = bytes "\\{a\\}" }
    ∷ record { typed = bytes "{{a}}"; closers = 3 ∷ 4 ∷ []; openers = some 1 ∷ some 0 ∷ []; printed = bytes "\\{{a}\\}" }
    ∷ record { typed = bytes "{a}{b}"; closers = 2 ∷ 5 ∷ []; openers = some 0 ∷ some 3 ∷ []; printed = bytes "\\{a\\}{b}" }
    ∷ record { typed = bytes "x{a}"; closers = 3 ∷ []; openers = some 1 ∷ []; printed = bytes "x{a}" }
    ∷ record { typed = bytes "}{"; closers = 0 ∷ []; openers = none ∷ []; printed = bytes "}{" }
    ∷ record { typed = bytes " {"; closers = []; openers = []; printed = bytes " \\{" }
    ∷ record { typed = bytes "({a})"; closers = 3 ∷ []; openers = some 1 ∷ []; printed = bytes "(\\{a\\})" }
    ∷ []

examples-matched : map (λ (e : Example). map (opener_of e.typed) e.closers) examples ≡ map (λ (e : Example). e.openers) examples
unfolding text_stack
examples-matched = refl

examples-printed : map (λ (e : Example). escape_set_braces e.typed) examples ≡ map (λ (e : Example). e.printed) examples
unfolding escape_set_braces
examples-printed = refl
