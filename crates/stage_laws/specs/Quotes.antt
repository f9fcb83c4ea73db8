-- Quotes bring no mark into a text. Assumes nothing.
use Rattle.std.specs.Prelude.{Bool, true, false, refl, List, ◌∷◌, ℕ, zero, suc}
use Rattle.spec.specs.Symbols.{bytes, is, blank, trim_start}
use Rattle.spec.specs.Quotes.{gap_before, open_quote, gap_behind, close_quote, skipped, quotes, convert_text_quotes}
use Rattle.stage_laws.specs.Each.{Each, done, more, each_of, each-reverse, each-reverse-onto, each-drop-while, each-either}
use Rattle.stage_laws.specs.Calls.{unmarked}

open-unmarked : {o : List ℕ} → Each unmarked o → Each unmarked (open_quote o)
open-unmarked {o} a =
    each-reverse-onto (each_of (bytes "\\text{") refl)
    (each-either (gap_before (trim_start o)) (each-reverse-onto (each_of (bytes "\\;") refl) (each-drop-while blank a)) a)

close-unmarked : {o : List ℕ} (s : List ℕ) → Each unmarked o → Each unmarked (close_quote o s)
close-unmarked s a = each-reverse-onto (each-either (gap_behind s) (each_of (bytes "\\;") refl) done) (more refl a)

run-unmarked : (quoted : Bool) (skip : ℕ) {o s : List ℕ} → Each unmarked o → Each unmarked s → Each unmarked (quotes quoted skip o s)
unfolding quotes
run-unmarked quoted skip a done = each-either quoted (more refl a) a
run-unmarked quoted (suc skip) a (more e b) = run-unmarked quoted skip a b
run-unmarked quoted zero {o} a (more {x} {s} e b) = go (is "\"" x) quoted (λ q k p c. run-unmarked q k c b)
  where
    go : (t q : Bool) → ((q : Bool) (k : ℕ) (p : List ℕ) → Each unmarked p → Each unmarked (quotes q k p s))
        → Each unmarked (elim t as (λ t. List ℕ) [
          | false ↦ quotes q 0 (x ∷ o) s
          | true ↦ elim q as (λ q. List ℕ) [ false ↦ quotes true 0 (open_quote o) s | true ↦ quotes false (skipped s) (close_quote o s) s ]
        ])
    go false q next = next q 0 (x ∷ o) (more e a)
    go true false next = next true 0 (open_quote o) (open-unmarked a)
    go true true next = next false (skipped s) (close_quote o s) (close-unmarked s a)

pub quotes-unmarked : {s : List ℕ} → Each unmarked s → Each unmarked (convert_text_quotes s)
unfolding convert_text_quotes
quotes-unmarked a = each-reverse (run-unmarked false 0 done a)
