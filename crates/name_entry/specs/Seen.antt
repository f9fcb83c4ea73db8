-- The neighbours in a text, and patterns that are nowhere since two of their neighbours are none in the text.
--     paired, pair_numbers   the number of two neighbours, which some pairs share; those of a text
--     Seen, SeenIn          a table with 1 at the number of each pair in a text, or in a formula on its way
--     PairsMarked           a table in which those have been set to 1, and nothing else. `Marking`: of a text, this rest is left
--     missing               whether a pair of the pattern has no 1
--     nowhere               whether a pattern does not occur in a formula on its way
-- Assumes nothing.
use Rattle.std.specs.Prelude.{◌≡◌, refl, Bool, true, false, not, cond, ◌&&◌, ◌||◌, List, [], ◌∷◌, ℕ, ◌+◌, ◌*◌, ◌<◌, eqb, length, get_or, Ok, Err}
use Rattle.std.proofs.Common.{sym, ap, ◌∙◌, subst, arith, eqb-true, eq-eqb}
use Rattle.std.proofs.Math.Bool.{and-false}
use Rattle.std.proofs.lemmas.Bool.{false≢true, not-true}
use Rattle.std.proofs.Math.Option.{none}
use Rattle.spec.specs.Symbols.{is_some, any, starts, find, contains}
use Rattle.spec.specs.Matches.{somewhere}
use Rattle.spec.specs.Laws.Symbols.{find_past, contains-find, find_absent}
use Rattle.spec.specs.Laws.Matches.{AtPattern}
use Rattle.text_symbols.specs.Parts.{part}
use Rattle.text.specs.Stage.{Progress, Text}
use Rattle.text.specs.Due.{Absent}
use Rattle.text.specs.Untouched.{Unmatched, absent-unmatched}

abbrev pub paired : ℕ → ℕ → ℕ
paired a b = 2 * a + b

-- the numbers of a text's neighbours, in order
abbrev pub pair_numbers : List ℕ → List ℕ
pair_numbers [] = []
pair_numbers (x ∷ []) = []
pair_numbers (x ∷ y ∷ s) = paired x y ∷ pair_numbers (y ∷ s)

abbrev pub pair_occurs : ℕ → List ℕ → Bool
pair_occurs k s = any (eqb k) (pair_numbers s)

pub record Seen (table s : List ℕ) : Type 0 where
  pub marked : (k : ℕ) → pair_occurs k s ≡ true → get_or table k 0 ≡ 1

-- what `mark_pairs` ensures, and `mark` of the text of a formula on its way
pub record PairsMarked (table table' s : List ℕ) : Type 0 where
  pub entry : (k : ℕ) → get_or table' k 0 ≡ cond (pair_occurs k s) 1 (get_or table k 0)

-- a refused formula has none
abbrev pub text_of : Progress → List ℕ → List ℕ
text_of (Ok t) w = part t.at t.n w
text_of (Err k) w = []

abbrev pub SeenIn : List ℕ → List ℕ → Progress → Type 0
SeenIn table w p = Seen table (text_of p w)

pub marked-seen : {table table' s : List ℕ} → PairsMarked table table' s → Seen table' s
marked-seen {table} m = record { marked = λ k e. m.entry k ∙ ap (λ t. cond t 1 (get_or table k 0)) e }

abbrev pub missing : List ℕ → List ℕ → Bool
missing table pattern = any (λ k. eqb (get_or table k 0) 0) (pair_numbers pattern)

-- ---- going through a text
pub pair-numbers-end : (s : List ℕ) → length s < 2 → pair_numbers s ≡ []
pair-numbers-end [] h = refl
pair-numbers-end (x ∷ []) h = refl
pair-numbers-end (x ∷ y ∷ s) h = absurd (omega arith)

-- marking the pairs of the rest would give the table that is asked
pub record Marking (table table' s rest : List ℕ) : Type 0 where
  pub entry : (k : ℕ) → cond (pair_occurs k rest) 1 (get_or table' k 0) ≡ cond (pair_occurs k s) 1 (get_or table k 0)

pub marking-all : {table table' s rest : List ℕ} → Marking table table' s rest → length rest < 2 → PairsMarked table table' s
marking-all {table' = table'} {rest = rest} m h =
    record { entry = λ k. sym (ap (λ ks. cond (any (eqb k) ks) 1 (get_or table' k 0)) (pair-numbers-end rest h)) ∙ m.entry k }

-- ---- a pattern with a pair that does not occur
later : {table s : List ℕ} {x : ℕ} → Seen table (x ∷ s) → Seen table s
later {s = []} r = record { marked = λ k e. absurd (false≢true e) }
later {s = y ∷ s} {x} r = record { marked = λ k e. r.marked k (go (eqb k (paired x y)) e) }
  where
    go : (t : Bool) {u : Bool} → u ≡ true → (t || u) ≡ true
    go true e = refl
    go false e = e

starts-missing : (table pattern s : List ℕ) → Seen table s → missing table pattern ≡ true → starts pattern s ≡ false
starts-missing table [] s r e = absurd (false≢true e)
starts-missing table (k ∷ []) s r e = absurd (false≢true e)
starts-missing table (k ∷ l ∷ w) [] r e = refl
starts-missing table (k ∷ l ∷ w) (x ∷ []) r e = refl
starts-missing table (k ∷ l ∷ w) (x ∷ y ∷ s) r e = go (starts-missing table (l ∷ w) (y ∷ s) (later r)) (eqb x k) refl (eqb y l) refl
  where
    here : eqb x k ≡ true → eqb y l ≡ true → get_or table (paired k l) 0 ≡ 1
    here same next =
        r.marked (paired k l)
        (ap (λ t. t || pair_occurs (paired k l) (y ∷ s)) (eq-eqb (paired k l) (paired x y) (sym (ap (λ z. paired z y) (eqb-true x k same) ∙ ap (paired k) (eqb-true y l next)))))

    go :
        (missing table (l ∷ w) ≡ true → starts (l ∷ w) (y ∷ s) ≡ false)
        → (t : Bool) → eqb x k ≡ t → (u : Bool) → eqb y l ≡ u
        → (starts (l ∷ w) (y ∷ s) && eqb x k) ≡ false
    go further true same true next = ap (λ t. t && eqb x k) (further (sym (ap (λ m. eqb m 0 || missing table (l ∷ w)) (here same next)) ∙ e))
    go further true same false other = ap (λ t. (starts w s && t) && eqb x k) other ∙ ap (λ t. t && eqb x k) (and-false (starts w s))
    go further false same u next = ap (λ t. starts (l ∷ w) (y ∷ s) && t) same ∙ and-false (starts (l ∷ w) (y ∷ s))

pub find-missing : (table pattern s : List ℕ) → Seen table s → missing table pattern ≡ true → find pattern s ≡ none
unfolding find
find-missing table pattern [] r e = refl
find-missing table pattern (x ∷ s) r e = find_past pattern x s (starts-missing table pattern (x ∷ s) r e) ∙ find-missing table pattern s (later r) e

-- ---- a pattern that is nowhere
abbrev pub nowhere : Progress → List ℕ → List ℕ → Bool
nowhere (Ok t) w pattern = not (contains pattern (part t.at t.n w))
nowhere (Err k) w pattern = true

module _ (w pattern : List ℕ) {p : Progress} {from n : ℕ} (e : p ≡ Text from n) where
  pub nowhere-missing : {table : List ℕ} → SeenIn table w p → missing table pattern ≡ true → true ≡ nowhere p w pattern
  nowhere-missing {table} seen f =
      ap (λ o. not (is_some o)) (sym (find-missing table pattern (part from n w) (subst (λ q. SeenIn table w q) e seen) f))
      ∙ ap not (contains-find pattern (part from n w))
      ∙ ap (λ q. nowhere q w pattern) (sym e)

-- so there is no match of an entry with this pattern
pub nowhere-unmatched : (w : List ℕ) (p : Progress) {pattern : List ℕ} {test : ℕ → List ℕ → Bool} → AtPattern pattern test → nowhere p w pattern ≡ true → Unmatched w p (somewhere test 0 ∷ [])
nowhere-unmatched w p {pattern} at e = absent-unmatched at w p (absent p e)
  where
    absent : (p : Progress) → nowhere p w pattern ≡ true → Absent w pattern p
    absent (Ok t) e = find_absent pattern (part t.at t.n w) (not-true (contains pattern (part t.at t.n w)) e)
    absent (Err k) e = tt
