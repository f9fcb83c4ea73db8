-- The first call of a name in a text: `cases` and `attach` rewrite that one alone. Assumes nothing.
--     Firstly    it begins at place i and holds k symbols
use Rattle.std.specs.Prelude.{◌≡◌, List, ℕ, ◌+◌, ◌-◌, ◌≤◌, ◌<◌, length, take, drop}
use Rattle.std.proofs.Common.{sym, ap, ◌∙◌, subst, arith, length-drop, drop-drop}
use Rattle.std.proofs.Math.Option.{none, some}
use Rattle.spec.specs.Symbols.{find}
use Rattle.spec.specs.Closing.{over_quotes}
use Rattle.spec.specs.Calls.{call_at}
use Rattle.text_symbols.specs.Parts.{part, whole_part, rest_part, length_part}
use Rattle.text_search.specs.Search.{Finds}
use Rattle.text.specs.declared.writer.Writer.{Writer}
use Rattle.text.specs.Due.{Occurs}
use Rattle.text.specs.Stage.{Progress}
use Rattle.text_search.specs.Search.{Found}
use Rattle.std.specs.Prelude.{Some, None}
use Rattle.call_rewriting.specs.Delimiters.{Called, inner_at, spent}

pub record Firstly (name s : List ℕ) (i k : ℕ) : Type 0 where
  pub within : i + length name + k + 1 ≤ length s
  pub found : find name s ≡ some (drop i s)
  pub inner : call_at over_quotes name (drop i s) ≡ some (part (i + length name) k s)

-- the name has been found, and `call_at` has looked at the text from there on
module _ {name : List ℕ} (s : List ℕ) (i : ℕ) {q : Found} (found : find name s ≡ some (drop i s)) (within : i < length s) (called : Called over_quotes name (drop i s) q) where
  pub first-unclosed : q ≡ None → call_at over_quotes name (drop i s) ≡ none
  first-unclosed f = sym called.inner ∙ ap (inner_at name (drop i s)) f

  pub first-at : {k : ℕ} → q ≡ Some k → Firstly name s i k
  first-at {k} f =
      let w = called.within in let l = ap (spent name) f in let d = length-drop i s in
      record {
        within = omega arith;
        found = found;
        inner = sym called.inner ∙ ap (inner_at name (drop i s)) f ∙ ap (λ l. some (take k l)) (drop-drop (length name) i s);
      }

-- the same in the n symbols at `from` of the buffer
module _ (name w : List ℕ) (from n : ℕ) {r : Found} (finds : Finds (part from (from + n - from) w) r (find name (part from (from + n - from) w))) where
  pub text-finds : Finds (part from n w) r (find name (part from n w))
  text-finds = subst (λ s. Finds s r (find name s)) (whole_part from n w) finds

pub call_from : {name : List ℕ} (w : List ℕ) (from n i : ℕ) {q : Found} → Called over_quotes name (part (from + i) (from + n - (from + i)) w) q → Called over_quotes name (drop i (part from n w)) q
call_from {name} w from n i {q} called = subst (λ s. Called over_quotes name s q) (rest_part from n i w) called

-- the same where `due_for` has found the name
module _
    {name w : List ℕ} {p : Progress} {from n : ℕ} {out : Writer} {i : ℕ} {q : Found} (o : Occurs w p name from n out i)
    (called : Called over_quotes name (part (from + i) (from + n - (from + i)) w) q)
  where
    within_text : i < length (part from n w)
    within_text = let l = length_part from n w o.regions.source in let h = o.within in omega arith

    pub due-unclosed : q ≡ None → call_at over_quotes name (drop i (part from n w)) ≡ none
    due-unclosed = first-unclosed (part from n w) i o.found within_text (call_from w from n i called)

    pub due-first : {k : ℕ} → q ≡ Some k → Firstly name (part from n w) i k
    due-first = first-at (part from n w) i o.found within_text (call_from w from n i called)
