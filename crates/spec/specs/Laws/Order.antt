-- The order of the definitions. Assumes nothing.
--     precedes-self, ..      names are in a strict order, and of two that differ one comes first
--     rearranged-in-order    `in_order` has the records of the list, each once
--     in-order-same          it is the same for the same records in whatever order, where no name occurs twice
use Rattle.std.specs.Prelude.{◌≡◌, refl, Bool, true, false, ◌&&◌, ◌||◌, List, [], ◌∷◌, ◌++◌, ◌⊎◌, ℕ, ◌<◌, eqb, ltb, length}
use Rattle.std.proofs.Common.{sym, ap, ◌∙◌, subst, inl, inr, ⊎_elim, arith, ltb-true, eqb-true, lt-ltb, le-ltb, eq-eqb, ne_eqb}
use Rattle.std.proofs.lemmas.Bool.{false≢true}
use Rattle.std.proofs.Math.Decide.{dec_lt}
use Rattle.spec.specs.Symbols.{same}
use Rattle.spec.specs.Table.{Definition, named, lower, precedes, inserted, in_order, Rearranged, nothing, put}
use Rattle.spec.specs.Laws.Names.{same_refl}
use Rattle.spec.specs.Laws.Booleans.{and_left, and_right, or_split, or-neither}

-- ---- byte order
lower-parts : (x y : ℕ) (s t : List ℕ) → lower (x ∷ s) (y ∷ t) ≡ true → (x < y) ⊎ ((x ≡ y) × (lower s t ≡ true))
lower-parts x y s t e =
    or_split (ltb x y) (eqb x y && lower s t) e
    (λ h. inl (ltb-true x y h))
    (λ h. inr (eqb-true x y (and_left (eqb x y) (lower s t) h), and_right (eqb x y) (lower s t) h))

pub lower-less : (x y : ℕ) (s t : List ℕ) → x < y → lower (x ∷ s) (y ∷ t) ≡ true
lower-less x y s t h = rw (lt-ltb x y h)

pub lower-alike : (x y : ℕ) (s t : List ℕ) → x ≡ y → lower (x ∷ s) (y ∷ t) ≡ lower s t
lower-alike x y s t h = rw (eq-eqb x y h, le-ltb x y (omega arith))

pub lower-more : (x y : ℕ) (s t : List ℕ) → y < x → lower (x ∷ s) (y ∷ t) ≡ false
lower-more x y s t h = rw (le-ltb x y (omega arith), ne_eqb x y (λ e. omega arith))

lower-self : (s : List ℕ) → lower s s ≡ false
lower-self [] = refl
lower-self (x ∷ s) = lower-alike x x s s refl ∙ lower-self s

lower-then : (s t u : List ℕ) → lower s t ≡ true → lower t u ≡ true → lower s u ≡ true
lower-then s t [] p q = absurd (false≢true q)
lower-then s [] (z ∷ u) p q = absurd (false≢true p)
lower-then [] (y ∷ t) (z ∷ u) p q = refl
lower-then (x ∷ s) (y ∷ t) (z ∷ u) p q = go (lower-parts x y s t p) (lower-parts y z t u q) (lower-then s t u)
  where
    go : (x < y) ⊎ ((x ≡ y) × (lower s t ≡ true)) → (y < z) ⊎ ((y ≡ z) × (lower t u ≡ true))
        → (lower s t ≡ true → lower t u ≡ true → lower s u ≡ true)
        → lower (x ∷ s) (z ∷ u) ≡ true
    go (inl h) (inl g) later = lower-less x z s u (omega arith)
    go (inl h) (inr g) later = let e = g.0 in lower-less x z s u (omega arith)
    go (inr h) (inl g) later = let e = h.0 in lower-less x z s u (omega arith)
    go (inr h) (inr g) later = lower-alike x z s u (h.0 ∙ g.0) ∙ later h.1 g.1

lower-other : (s t : List ℕ) → (s ≡ t → ⊥) → lower s t ≡ false → lower t s ≡ true
lower-other [] [] h e = absurd (h refl)
lower-other [] (y ∷ t) h e = absurd (false≢true (sym e))
lower-other (x ∷ s) [] h e = refl
lower-other (x ∷ s) (y ∷ t) h e = go (dec_lt y x) (dec_lt x y) (lower-other s t)
  where
    go : Dec (y < x) → Dec (x < y) → ((s ≡ t → ⊥) → lower s t ≡ false → lower t s ≡ true) → lower (y ∷ t) (x ∷ s) ≡ true
    go (yes l) d later = lower-less y x t s l
    go (no l) (yes g) later = absurd (false≢true (sym e ∙ lower-less x y s t g))
    go (no l) (no g) later =
        let q : x ≡ y = omega arith in
        lower-alike y x t s (sym q) ∙ later (λ r. h (cc)) (sym (lower-alike x y s t q) ∙ e)

-- what comes behind s comes behind all that s does not come before
lower-between : (s t u : List ℕ) → lower s u ≡ true → lower s t ≡ false → lower t u ≡ true
lower-between s t [] p q = absurd (false≢true p)
lower-between s [] (z ∷ u) p q = refl
lower-between [] (y ∷ t) (z ∷ u) p q = absurd (false≢true (sym q))
lower-between (x ∷ s) (y ∷ t) (z ∷ u) p q = go (dec_lt y x) (dec_lt x y) (lower-parts x z s u p) (lower-between s t u)
  where
    go : Dec (y < x) → Dec (x < y) → (x < z) ⊎ ((x ≡ z) × (lower s u ≡ true)) → (lower s u ≡ true → lower s t ≡ false → lower t u ≡ true) → lower (y ∷ t) (z ∷ u) ≡ true
    go d (yes g) h later = absurd (false≢true (sym q ∙ lower-less x y s t g))
    go (yes l) (no g) h later = lower-less y z t u (⊎_elim (λ k. omega arith) (λ k. let e = k.0 in omega arith) h)
    go (no l) (no g) (inl h) later = lower-less y z t u (omega arith)
    go (no l) (no g) (inr h) later =
        let e : x ≡ y = omega arith in
        lower-alike y z t u (sym e ∙ h.0) ∙ later h.1 (sym (lower-alike x y s t e) ∙ q)

-- ---- names
precedes-parts : (a b : List ℕ) → precedes a b ≡ true → (length b < length a) ⊎ ((length a ≡ length b) × (lower a b ≡ true))
precedes-parts a b e =
    or_split (ltb (length b) (length a)) (eqb (length a) (length b) && lower a b) e
    (λ h. inl (ltb-true (length b) (length a) h))
    (λ h. inr (eqb-true (length a) (length b) (and_left (eqb (length a) (length b)) (lower a b) h), and_right (eqb (length a) (length b)) (lower a b) h))

pub precedes-longer : (a b : List ℕ) → length b < length a → precedes a b ≡ true
precedes-longer a b h = rw (lt-ltb (length b) (length a) h)

pub precedes-alike : (a b : List ℕ) → length a ≡ length b → precedes a b ≡ lower a b
precedes-alike a b h = rw (eq-eqb (length a) (length b) h, le-ltb (length b) (length a) (omega arith))

pub precedes-shorter : (a b : List ℕ) → length a < length b → precedes a b ≡ false
precedes-shorter a b h = rw (le-ltb (length b) (length a) (omega arith), ne_eqb (length a) (length b) (λ e. omega arith))

pub precedes-self : (a : List ℕ) → precedes a a ≡ false
precedes-self a = precedes-alike a a refl ∙ lower-self a

pub precedes-then : (a b c : List ℕ) → precedes a b ≡ true → precedes b c ≡ true → precedes a c ≡ true
precedes-then a b c p q = go (precedes-parts a b p) (precedes-parts b c q)
  where
    go : (length b < length a) ⊎ ((length a ≡ length b) × (lower a b ≡ true)) → (length c < length b) ⊎ ((length b ≡ length c) × (lower b c ≡ true))
        → precedes a c ≡ true
    go (inl h) (inl g) = precedes-longer a c (omega arith)
    go (inl h) (inr g) = let e = g.0 in precedes-longer a c (omega arith)
    go (inr h) (inl g) = let e = h.0 in precedes-longer a c (omega arith)
    go (inr h) (inr g) = precedes-alike a c (h.0 ∙ g.0) ∙ lower-then a b c h.1 g.1

pub precedes-other : (a b : List ℕ) → (a ≡ b → ⊥) → precedes a b ≡ false → precedes b a ≡ true
precedes-other a b h e = go (dec_lt (length b) (length a)) (dec_lt (length a) (length b))
  where
    go : Dec (length b < length a) → Dec (length a < length b) → precedes b a ≡ true
    go (yes l) d = absurd (false≢true (sym e ∙ precedes-longer a b l))
    go (no l) (yes g) = precedes-longer b a g
    go (no l) (no g) =
        let q : length a ≡ length b = omega arith in
        precedes-alike b a (sym q) ∙ lower-other a b h (sym (precedes-alike a b q) ∙ e)

pub precedes-once : (a b : List ℕ) → precedes a b ≡ true → precedes b a ≡ false
precedes-once a b p = go (precedes b a) refl
  where
    go : (t : Bool) → precedes b a ≡ t → t ≡ false
    go true q = sym (precedes-then a b a p q) ∙ precedes-self a
    go false q = refl

pub precedes-between : (a b c : List ℕ) → precedes a c ≡ true → precedes a b ≡ false → precedes b c ≡ true
precedes-between a b c p q = go (dec_lt (length b) (length a)) (dec_lt (length a) (length b)) (precedes-parts a c p)
  where
    go : Dec (length b < length a) → Dec (length a < length b) → (length c < length a) ⊎ ((length a ≡ length c) × (lower a c ≡ true)) → precedes b c ≡ true
    go (yes l) d h = absurd (false≢true (sym q ∙ precedes-longer a b l))
    go (no l) (yes g) h = precedes-longer b c (⊎_elim (λ k. omega arith) (λ k. let e = k.0 in omega arith) h)
    go (no l) (no g) (inl h) = precedes-longer b c (omega arith)
    go (no l) (no g) (inr h) =
        let e : length a ≡ length b = omega arith in
        precedes-alike b c (sym e ∙ h.0) ∙ lower-between a b c h.1 (sym (precedes-alike a b e) ∙ q)

-- ---- putting in
abbrev pub name_precedes : Definition → Definition → Bool
name_precedes d e = precedes d.name e.name

pub inserted-before : (d e : Definition) (es : List Definition) → name_precedes d e ≡ true → inserted d (e ∷ es) ≡ d ∷ e ∷ es
inserted-before d e es h = rw (h, inserted)

pub inserted-behind : (d e : Definition) (es : List Definition) → name_precedes d e ≡ false → inserted d (e ∷ es) ≡ e ∷ inserted d es
inserted-behind d e es h = rw (h, inserted)

-- two with different names, in either order
inserted-twice : (d e : Definition) (l : List Definition) → (d.name ≡ e.name → ⊥) → inserted d (inserted e l) ≡ inserted e (inserted d l)
inserted-twice d e l h = by (name_precedes d e) refl
  where
    -- d comes first of the two
    first : (d e : Definition) (l : List Definition) → name_precedes d e ≡ true → inserted d (inserted e l) ≡ inserted e (inserted d l)
    first d e [] p = inserted-before d e [] p ∙ sym (inserted-behind e d [] (precedes-once d.name e.name p))
    first d e (f ∷ l) p = go (name_precedes e f) refl (name_precedes d f) refl (first d e l p)
      where
        back : name_precedes e d ≡ false
        back = precedes-once d.name e.name p

        go : (t : Bool) → name_precedes e f ≡ t → (u : Bool) → name_precedes d f ≡ u → inserted d (inserted e l) ≡ inserted e (inserted d l)
            → inserted d (inserted e (f ∷ l)) ≡ inserted e (inserted d (f ∷ l))
        go true q true r later =
            ap (inserted d) (inserted-before e f l q) ∙ inserted-before d e (f ∷ l) p
            ∙ sym (ap (inserted e) (inserted-before d f l r) ∙ inserted-behind e d (f ∷ l) back ∙ ap (λ k. d ∷ k) (inserted-before e f l q))
        go true q false r later = absurd (false≢true (sym r ∙ precedes-then d.name e.name f.name p q))
        go false q true r later =
            ap (inserted d) (inserted-behind e f l q) ∙ inserted-before d f (inserted e l) r
            ∙ sym (ap (inserted e) (inserted-before d f l r) ∙ inserted-behind e d (f ∷ l) back ∙ ap (λ k. d ∷ k) (inserted-behind e f l q))
        go false q false r later =
            ap (inserted d) (inserted-behind e f l q) ∙ inserted-behind d f (inserted e l) r ∙ ap (λ k. f ∷ k) later
            ∙ sym (ap (inserted e) (inserted-behind d f l r) ∙ inserted-behind e f (inserted d l) q)

    by : (t : Bool) → name_precedes d e ≡ t → inserted d (inserted e l) ≡ inserted e (inserted d l)
    by true p = first d e l p
    by false p = sym (first e d l (precedes-other d.name e.name h p))

-- ---- the records of the list, each once
-- where d is put in
record Split (d : Definition) (ds : List Definition) : Type 0 where
  front : List Definition
  back : List Definition
  whole : front ++ back ≡ ds
  placed : front ++ d ∷ back ≡ inserted d ds

split : (d : Definition) (ds : List Definition) → Split d ds
split d [] = record { front = []; back = []; whole = refl; placed = refl }
split d (e ∷ es) = go (name_precedes d e) refl (split d es)
  where
    go : (t : Bool) → name_precedes d e ≡ t → Split d es → Split d (e ∷ es)
    go true h s = record { front = []; back = e ∷ es; whole = refl; placed = sym (inserted-before d e es h) }
    go false h s = record { front = e ∷ s.front; back = s.back; whole = ap (λ l. e ∷ l) s.whole; placed = ap (λ l. e ∷ l) s.placed ∙ sym (inserted-behind d e es h) }

pub rearranged-in-order : (ds : List Definition) → Rearranged ds (in_order ds)
unfolding in_order
rearranged-in-order [] = nothing
rearranged-in-order (d ∷ ds) =
    let s = split d (in_order ds) in
    subst (Rearranged (d ∷ ds)) s.placed (put d s.front s.back (subst (Rearranged ds) (sym s.whole) (rearranged-in-order ds)))

-- ---- the same records in whatever order
or_swap : (a b c : Bool) → a || (b || c) ≡ b || (a || c)
or_swap true true c = refl
or_swap true false c = refl
or_swap false b c = refl

pub named_put : (name : List ℕ) (d : Definition) (es fs : List Definition) → named name (es ++ d ∷ fs) ≡ named name (d ∷ (es ++ fs))
named_put name d [] fs = refl
named_put name d (e ∷ es) fs =
    ap (λ t. same name e.name || t) (named_put name d es fs) ∙ or_swap (same name e.name) (same name d.name) (named name (es ++ fs))

pub named-same : {ds es : List Definition} → Rearranged ds es → (name : List ℕ) → named name ds ≡ named name es
named-same nothing name = refl
named-same (put d es fs r) name = ap (λ t. same name d.name || t) (named-same r name) ∙ sym (named_put name d es fs)

-- no name occurs twice
abbrev pub Distinct : List Definition → Type 0
Distinct [] = Unit {0}
Distinct (d ∷ ds) = (named d.name ds ≡ false) × Distinct ds

other_name : (d e : Definition) (es : List Definition) → named d.name (e ∷ es) ≡ false → e.name ≡ d.name → ⊥
other_name d e es h q =
    false≢true (sym (or-neither (same d.name e.name) (named d.name es) h).0 ∙ ap (same d.name) q ∙ same_refl d.name)

in-order-put : (d : Definition) (es fs : List Definition) → named d.name (es ++ fs) ≡ false → in_order (es ++ d ∷ fs) ≡ inserted d (in_order (es ++ fs))
unfolding in_order
in-order-put d [] fs h = refl
in-order-put d (e ∷ es) fs h =
    ap (inserted e) (in-order-put d es fs (or-neither (same d.name e.name) (named d.name (es ++ fs)) h).1)
    ∙ inserted-twice e d (in_order (es ++ fs)) (other_name d e (es ++ fs) h)

pub in-order-same : {ds es : List Definition} → Rearranged ds es → Distinct ds → in_order ds ≡ in_order es
unfolding in_order
in-order-same nothing u = refl
in-order-same (put d es fs r) u = ap (inserted d) (in-order-same r u.1) ∙ sym (in-order-put d es fs (sym (named-same r d.name) ∙ u.0))
