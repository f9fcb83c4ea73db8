-- Patterns that no plain text holds: each is settled by a computed test.
--     strange           a symbol of the pattern stands in no text of a tree
--     breaks_pair_rule    two symbols of the pattern stand side by side in no text before sizing
--     stopped           one of the two
use Rattle.std.specs.Prelude.{◌≡◌, refl, Bool, true, false, not, ◌||◌, cond, List, [], ◌∷◌, ℕ}
use Rattle.std.proofs.Common.{sym, true≢false}
use Rattle.std.proofs.lemmas.Bool.{not-true}
use Rattle.std.proofs.Math.Option.{none}
use Rattle.spec.specs.Symbols.{alnum, head, past, all, find}
use Rattle.spec.specs.Laws.Booleans.{or_split}
use Rattle.plain_printing.specs.Tree.{Tree, typst_style, marked_style, final_style, write, text}
use Rattle.plain_printing.specs.Local.{every_pair, chain-pairs, pairs-absent}
use Rattle.plain_printing.specs.Rule.{sign_rule, word_rule, rule}
use Rattle.plain_printing.proofs.LocalTree.{typed-rule, marked-rule}
use Rattle.plain_printing.proofs.Alphabet.{plain_symbol, absent-foreign}

-- ---- the rule, two symbols at a time
abbrev pub pair_rule : ℕ → ℕ → Bool
pair_rule b c = cond (alnum c) true (sign_rule b c)

rule-pair : (marked : Bool) (a b c : ℕ) → rule marked a b c ≡ true → pair_rule b c ≡ true
rule-pair marked a b c h = go (alnum c) h
  where
    go : (k : Bool) → cond k (word_rule marked a b c) (sign_rule b c) ≡ true → cond k true (sign_rule b c) ≡ true
    go true h = refl
    go false h = h

-- ---- the tests
abbrev pub breaks_pair_rule : List ℕ → Bool
breaks_pair_rule w = not (every_pair pair_rule (head w) (past w))

abbrev pub strange : List ℕ → Bool
strange w = not (all plain_symbol w)

abbrev pub stopped : List ℕ → Bool
stopped w = strange w || breaks_pair_rule w

absent-if : (w : List ℕ) → breaks_pair_rule w ≡ true → (b : ℕ) (s : List ℕ) → every_pair pair_rule b s ≡ true → find w s ≡ none
absent-if [] h b s k = absurd (true≢false (sym h))
absent-if (x ∷ w) h b s k = pairs-absent pair_rule x w (not-true (every_pair pair_rule x w) h) b s k

-- ---- the formula as typed, any text between the Greek names and the sizing, and the end
pub absent-typed : (w : List ℕ) → stopped w ≡ true → (t : Tree) → find w (text t) ≡ none
absent-typed w h t =
    or_split (strange w) (breaks_pair_rule w) h (λ p. absent-foreign w (not-true (all plain_symbol w) p) typst_style 0 t)
    (λ p. absent-if w p 0 (text t) (chain-pairs (rule false) pair_rule (rule-pair false) 0 0 (text t) (typed-rule t)))

pub absent-marked : (w : List ℕ) → stopped w ≡ true → (below above : Bool) (n : ℕ) (t : Tree) → find w (write (marked_style below above) n t) ≡ none
absent-marked w h below above n t =
    let s : List ℕ = write (marked_style below above) n t in
    or_split (strange w) (breaks_pair_rule w) h (λ p. absent-foreign w (not-true (all plain_symbol w) p) (marked_style below above) n t)
    (λ p. absent-if w p 0 s (chain-pairs (rule true) pair_rule (rule-pair true) 0 0 s (marked-rule below above n t)))

pub absent-final : (w : List ℕ) → strange w ≡ true → (sized : Bool) (n : ℕ) (t : Tree) → find w (write (final_style sized) n t) ≡ none
absent-final w h sized n t = absent-foreign w (not-true (all plain_symbol w) h) (final_style sized) n t
