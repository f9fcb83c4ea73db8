-- The order of the definitions, gone through by picking the first of those that are left. Assumes nothing.
--     first_of, sooner     the first of a list, and the sooner of two
--     later               the records behind a name
--     picked_next         the first of what is left, and behind it the order of what is later
use Rattle.std.specs.Prelude.{◌≡◌, refl, Bool, true, false, cond, List, [], ◌∷◌, ◌⊎◌, ℕ}
use Rattle.std.proofs.Common.{sym, ap, ◌∙◌, subst, inl, inr}
use Rattle.std.proofs.lemmas.Bool.{false≢true}
use Rattle.std.proofs.Math.Option.{Option, none, some, none-ne-some, some-injective}
use Rattle.spec.specs.Symbols.{same}
use Rattle.spec.specs.Table.{Definition, named, precedes, inserted, in_order}
use Rattle.spec.specs.Laws.Booleans.{or_left, or_right, or-neither}
use Rattle.spec.specs.Laws.Names.{same_refl}
use Rattle.spec.specs.Laws.Order.{name_precedes, precedes-self, precedes-then, precedes-other, precedes-between, inserted-before, inserted-behind, Distinct}

abbrev pub first_of : List Definition → Option Definition
first_of [] = none
first_of (d ∷ ds) = some d

abbrev pub sooner : Option Definition → Option Definition → Option Definition
sooner none o = o
sooner (some d) none = some d
sooner (some d) (some e) = cond (name_precedes d e) (some d) (some e)

-- ---- the first of the order
first-inserted : (d : Definition) (l : List Definition) → first_of (inserted d l) ≡ sooner (some d) (first_of l)
first-inserted d [] = refl
first-inserted d (e ∷ l) = go (name_precedes d e) refl
  where
    go : (t : Bool) → name_precedes d e ≡ t → first_of (inserted d (e ∷ l)) ≡ sooner (some d) (some e)
    go true h = ap first_of (inserted-before d e l h) ∙ sym (ap (λ t. cond t (some d) (some e)) h)
    go false h = ap first_of (inserted-behind d e l h) ∙ sym (ap (λ t. cond t (some d) (some e)) h)

pub first-in-order : (d : Definition) (l : List Definition) → first_of (in_order (d ∷ l)) ≡ sooner (some d) (first_of (in_order l))
unfolding in_order
first-in-order d l = first-inserted d (in_order l)

pub sooner-none : (o : Option Definition) → sooner o none ≡ o
sooner-none none = refl
sooner-none (some d) = refl

pub sooner-assoc : (a : Option Definition) (d : Definition) (o : Option Definition) → sooner (sooner a (some d)) o ≡ sooner a (sooner (some d) o)
sooner-assoc none d o = refl
sooner-assoc (some b) d none = sooner-none (sooner (some b) (some d))
sooner-assoc (some b) d (some e) = go (name_precedes b d) refl (name_precedes d e) refl
  where
    go : (t : Bool) → name_precedes b d ≡ t → (u : Bool) → name_precedes d e ≡ u → sooner (sooner (some b) (some d)) (some e) ≡ sooner (some b) (sooner (some d) (some e))
    go true h true g = rw (h, g) (rw (precedes-then b.name d.name e.name h g, h))
    go true h false g = rw (h, g)
    go false h true g = rw (h, g) (rw h)
    go false h false g = rw (h, g) (sym (last (name_precedes b e) refl))
      where
        last : (t : Bool) → name_precedes b e ≡ t → cond t (some b) (some e) ≡ some e
        last true k = absurd (false≢true (sym g ∙ precedes-between b.name d.name e.name k h))
        last false k = refl

-- ---- what is left behind a name
abbrev pub later : List ℕ → List Definition → List Definition
later x [] = []
later x (d ∷ ds) = elim (precedes x d.name) [ true ↦ d ∷ later x ds | false ↦ later x ds ]

pub later-with : (x : List ℕ) (d : Definition) (l : List Definition) → precedes x d.name ≡ true → later x (d ∷ l) ≡ d ∷ later x l
later-with x d l h = rw (h, later)

pub later-without : (x : List ℕ) (d : Definition) (l : List Definition) → precedes x d.name ≡ false → later x (d ∷ l) ≡ later x l
later-without x d l h = rw (h, later)

-- whatever holds of a list with the record and without it, by its place
module _ (x : List ℕ) (d : Definition) (l : List Definition) (P : List Definition → Type 0) where
  later-either : (precedes x d.name ≡ true → P (d ∷ later x l)) → (precedes x d.name ≡ false → P (later x l)) → P (later x (d ∷ l))
  later-either with' without' = go (precedes x d.name) refl
    where
      go : (t : Bool) → precedes x d.name ≡ t → P (later x (d ∷ l))
      go true h = rw (later-with x d l h) (with' h)
      go false h = rw (later-without x d l h) (without' h)

-- behind y, of those behind x
pub later-later : (x y : List ℕ) (l : List Definition) → precedes x y ≡ true → later y (later x l) ≡ later y l
later-later x y [] h = refl
later-later x y (d ∷ l) h = go (precedes y d.name) refl (later-later x y l h)
  where
    go : (t : Bool) → precedes y d.name ≡ t → later y (later x l) ≡ later y l → later y (later x (d ∷ l)) ≡ later y (d ∷ l)
    go true k rest =
        ap (later y) (later-with x d l (precedes-then x y d.name h k)) ∙ later-with y d (later x l) k ∙ ap (λ m. d ∷ m) rest ∙ sym (later-with y d l k)
    go false k rest =
        later-either x d l (λ m. later y m ≡ later y (d ∷ l)) (λ g. later-without y d (later x l) k ∙ rest ∙ sym (later-without y d l k)) (λ g. rest ∙ sym (later-without y d l k))

named-later : (name x : List ℕ) (l : List Definition) → named name l ≡ false → named name (later x l) ≡ false
named-later name x [] h = refl
named-later name x (d ∷ l) h =
    let rest = named-later name x l (or-neither (same name d.name) (named name l) h).1 in
    later-either x d l (λ m. named name m ≡ false) (λ g. rw (or-neither (same name d.name) (named name l) h).0 rest) (λ g. rest)

pub later-distinct : (x : List ℕ) (l : List Definition) → Distinct l → Distinct (later x l)
later-distinct x [] u = tt
later-distinct x (d ∷ l) u =
    let rest = later-distinct x l u.1 in
    later-either x d l Distinct (λ g. (named-later d.name x l u.0, rest)) (λ g. rest)

-- no name of the list comes before x
abbrev Least : List ℕ → List Definition → Type 0
Least x [] = Unit {0}
Least x (d ∷ l) = ((x ≡ d.name) ⊎ (precedes x d.name ≡ true)) × Least x l

least-behind : (x y : List ℕ) (l : List Definition) → precedes x y ≡ true → Least y l → (later x l ≡ l) × Least x l
least-behind x y [] h g = (refl, tt)
least-behind x y (d ∷ l) h g =
    let rest = least-behind x y l h g.1 in let comes = here g.0 in
    (later-with x d l comes ∙ ap (λ m. d ∷ m) rest.0, (inr comes, rest.1))
  where
    here : (y ≡ d.name) ⊎ (precedes y d.name ≡ true) → precedes x d.name ≡ true
    here (inl e) = ap (precedes x) (sym e) ∙ h
    here (inr k) = precedes-then x y d.name h k

-- the order begins with m
record Begins (m : Definition) (l : List Definition) : Type 0 where
  order : in_order l ≡ m ∷ in_order (later m.name l)
  least : Least m.name l
  known : named m.name l ≡ true

begins-cons : (d : Definition) (l : List Definition) → named d.name l ≡ false → (m : Definition) → Begins m l → (n : Definition) × Begins n (d ∷ l)
unfolding in_order
begins-cons d l new m b = go (name_precedes d m) refl
  where
    differ : d.name ≡ m.name → ⊥
    differ e = false≢true (sym new ∙ ap (λ x. named x l) e ∙ b.known)

    go : (t : Bool) → name_precedes d m ≡ t → (n : Definition) × Begins n (d ∷ l)
    go true h =
        let behind = least-behind d.name m.name l h b.least in (
          d,
          record {
            order =
                ap (inserted d) b.order ∙ inserted-before d m (in_order (later m.name l)) h ∙ ap (λ k. d ∷ k) (sym b.order)
                ∙ ap (λ k. d ∷ in_order k) (sym (later-without d.name d l (precedes-self d.name) ∙ behind.0));
            least = (inl refl, behind.1);
            known = or_left (named d.name l) (same_refl d.name);
          },
        )
    go false h =
        let comes = precedes-other d.name m.name differ h in (
          m,
          record {
            order =
                ap (inserted d) b.order ∙ inserted-behind d m (in_order (later m.name l)) h
                ∙ ap (λ k. m ∷ in_order k) (sym (later-with m.name d l comes));
            least = (inr comes, b.least);
            known = or_right (same m.name d.name) (named m.name l) b.known;
          },
        )

begins-some : (d : Definition) (l : List Definition) → Distinct (d ∷ l) → (m : Definition) × Begins m (d ∷ l)
unfolding in_order
begins-some d [] u = (
  d,
  record {
    order = ap (λ k. d ∷ in_order k) (sym (later-without d.name d [] (precedes-self d.name)));
    least = (inl refl, tt);
    known = or_left false (same_refl d.name);
  },
)
begins-some d (e ∷ l) u = let b = begins-some e l u.1 in begins-cons d (e ∷ l) u.0 b.0 b.1

-- the first of the order, and behind it the order of what is later
pub picked_next : (l : List Definition) (m : Definition) → Distinct l → first_of (in_order l) ≡ some m → in_order l ≡ m ∷ in_order (later m.name l)
unfolding in_order
picked_next [] m u e = absurd (none-ne-some m e)
picked_next (d ∷ l) m u e =
    let b = begins-some d l u in
    let q : b.0 ≡ m = some-injective b.0 m (sym (ap first_of b.1.order) ∙ e) in
    subst (λ n. in_order (d ∷ l) ≡ n ∷ in_order (later n.name (d ∷ l))) q b.1.order

-- what comes first of those behind x comes behind x
pub first-later : (x : List ℕ) (l : List Definition) (m : Definition) → first_of (in_order (later x l)) ≡ some m → precedes x m.name ≡ true
unfolding in_order
first-later x [] m e = absurd (none-ne-some m e)
first-later x (d ∷ l) m e = by (precedes x d.name) refl (first-later x l m) e
  where
    here : precedes x d.name ≡ true → (o : Option Definition) → (o ≡ some m → precedes x m.name ≡ true) → sooner (some d) o ≡ some m → precedes x m.name ≡ true
    here h none rest e = subst (λ n. precedes x n.name ≡ true) (some-injective d m e) h
    here h (some f) rest e = go (name_precedes d f) e
      where
        go : (t : Bool) → cond t (some d) (some f) ≡ some m → precedes x m.name ≡ true
        go true e = subst (λ n. precedes x n.name ≡ true) (some-injective d m e) h
        go false e = rest e

    by : (t : Bool) → precedes x d.name ≡ t → (first_of (in_order (later x l)) ≡ some m → precedes x m.name ≡ true) → first_of (in_order (later x (d ∷ l))) ≡ some m → precedes x m.name ≡ true
    by true h rest e = here h (first_of (in_order (later x l))) rest (sym (ap (λ k. first_of (in_order k)) (later-with x d l h) ∙ first-in-order d (later x l)) ∙ e)
    by false h rest e = rest (sym (ap (λ k. first_of (in_order k)) (later-without x d l h)) ∙ e)

pub picked_none : (l : List Definition) → first_of (in_order l) ≡ none → in_order l ≡ []
picked_none l e = go (in_order l) e
  where
    go : (k : List Definition) → first_of k ≡ none → k ≡ []
    go [] e = refl
    go (d ∷ k) e = absurd (none-ne-some d (sym e))
