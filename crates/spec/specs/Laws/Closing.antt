-- Laws of closing searches, and of what the searches of a call see. Assumes nothing.
--     closed_at      where a closer is found, what stands before it decides, whatever stands behind
--     length_seen    as many symbols are seen as there are
--     seen-inside    what stands before an unquoted closer is seen alike with and without what stands behind: searches inside a call pair the same quotes
use Rattle.std.specs.Prelude.{◌≡◌, refl, Bool, true, false, ◌||◌, List, [], ◌∷◌, ◌++◌, ℕ, zero, suc, eqb, length}
use Rattle.std.proofs.Common.{sym, ap, ap₂, ◌∙◌, true≢false, arith, eqb-true}
use Rattle.std.proofs.lemmas.Bool.{false≢true}
use Rattle.std.proofs.Math.Option.{Option, some}
use Prim.Native.Char.{code}
use Rattle.spec.specs.Symbols.{bytes, is, head, past, contains}
use Rattle.spec.specs.Closing.{Side, opens, closes, neither, side_of, side, close, quoted_after, seen_as, seen_from}
use Rattle.spec.specs.Laws.Booleans.{or-neither}

-- ---- the closer that is found, and the same closer before another text
pub record ClosedAt (o c d : ℕ) (s behind : List ℕ) : Type 0 where
  pub inner : List ℕ
  pub split : s ≡ inner ++ c ∷ behind
  pub anyway : (t : List ℕ) → close o c d (inner ++ c ∷ t) ≡ some t

side-closes : (o c x : ℕ) → side o c x ≡ closes → x ≡ c
side-closes o c x e = go (eqb x o) (eqb x c) refl e
  where
    go : (a b : Bool) → eqb x c ≡ b → side_of a b ≡ closes → x ≡ c
    go true b f e = let z : ◌≡◌ {A = ℕ} 0 1 = cc in absurd (omega arith)
    go false true f e = eqb-true x c f
    go false false f e = let z : ◌≡◌ {A = ℕ} 0 1 = cc in absurd (omega arith)

pub closed_at : (o c d : ℕ) (s behind : List ℕ) → close o c d s ≡ some behind → ClosedAt o c d s behind
unfolding close
closed_at o c d [] behind e = let z : ◌≡◌ {A = ℕ} 0 1 = cc in absurd (omega arith)
closed_at o c d (x ∷ s) behind e = go (side o c x) refl d e (λ k. closed_at o c k s behind)
  where
    further : {d k : ℕ} → ((t : List ℕ) → close o c d (x ∷ t) ≡ close o c k t) → ClosedAt o c k s behind → ClosedAt o c d (x ∷ s) behind
    further step a = record { inner = x ∷ a.inner; split = ap (λ l. x ∷ l) a.split; anyway = λ t. step (a.inner ++ c ∷ t) ∙ a.anyway t }

    go : (m : Side) → side o c x ≡ m → (d : ℕ)
        → ◌≡◌ {A = Option (List ℕ)} (elim m [ opens ↦ close o c (suc d) s | closes ↦ elim d [ zero ↦ some s | suc e ↦ close o c e s ] | neither ↦ close o c d s ]) (some behind)
        → ((k : ℕ) → close o c k s ≡ some behind → ClosedAt o c k s behind)
        → ClosedAt o c d (x ∷ s) behind
    go opens f d e later = further (λ t. rw (f, close)) (later (suc d) e)
    go closes f zero e later =
        let same : s ≡ behind = cc in
        let here = side-closes o c x f in
        record { inner = []; split = ap₂ (λ y l. y ∷ l) here same; anyway = λ t. ap (λ y. close o c 0 (y ∷ t)) (sym here) ∙ rw (f, close) }
    go closes f (suc k) e later = further (λ t. rw (f, close)) (later k e)
    go neither f d e later = further (λ t. rw (f, close)) (later d e)

-- ---- what is seen
pub length_seen : (quoted : Bool) (s : List ℕ) → length (seen_from quoted s) ≡ length s
unfolding seen_from
length_seen quoted [] = refl
length_seen quoted (x ∷ s) = ap suc (length_seen (quoted_after quoted x s) s)

quoted-not : (y : ℕ) → seen_as true y ≡ code ")" → ⊥
quoted-not y e = go (is "(" y) (is ")" y) refl e
  where
    go : (a b : Bool) → is ")" y ≡ b → elim (a || b) as (λ _. ℕ) [ true ↦ code "\"" | false ↦ y ] ≡ code ")" → ⊥
    go true b f e = absurd (omega arith)
    go false true f e = absurd (omega arith)
    go false false f e = true≢false (sym (ap (is ")") e) ∙ f)

-- with no quote left, what is quoted stays so
all-quoted : (s t p b : List ℕ) → length s ≡ length p → contains (bytes "\"") s ≡ false → seen_from true (s ++ t) ≡ p ++ code ")" ∷ b → ⊥
unfolding seen_from
all-quoted [] [] [] b h e f = let z : ◌≡◌ {A = ℕ} 0 1 = cc in absurd (omega arith)
all-quoted [] (y ∷ t) [] b h e f = quoted-not y (ap head f)
all-quoted [] t (z ∷ p) b h e f = absurd (omega arith)
all-quoted (x ∷ s) t [] b h e f = absurd (omega arith)
all-quoted (x ∷ s) t (z ∷ p) b h e f =
    let both = or-neither (is "\"" x) (contains (bytes "\"") s) e in
    all-quoted s t p b (omega arith) both.1 (ap (λ q. seen_from q (s ++ t)) (sym (rw (both.0, quoted_after))) ∙ ap past f)

contains-more : (s t : List ℕ) → contains (bytes "\"") s ≡ true → contains (bytes "\"") (s ++ t) ≡ true
contains-more [] t e = absurd (false≢true e)
contains-more (x ∷ s) t e = go (is "\"" x) e (contains-more s t)
  where
    go : (b : Bool) → b || contains (bytes "\"") s ≡ true → (contains (bytes "\"") s ≡ true → contains (bytes "\"") (s ++ t) ≡ true) → b || contains (bytes "\"") (s ++ t) ≡ true
    go true e later = refl
    go false e later = later e

pub seen-inside : (q : Bool) (s t p b : List ℕ) → length s ≡ length p → seen_from q (s ++ t) ≡ p ++ code ")" ∷ b → seen_from q s ≡ p
unfolding seen_from
seen-inside q [] t [] b h e = refl
seen-inside q [] t (z ∷ p) b h e = absurd (omega arith)
seen-inside q (x ∷ s) t [] b h e = absurd (omega arith)
seen-inside q (x ∷ s) t (z ∷ p) b h e =
    ap₂ (λ y l. y ∷ l) (ap head e) (ap (λ q. seen_from q s) (paired (is "\"" x) refl q (ap past e)) ∙ seen-inside (quoted_after q x (s ++ t)) s t p b (omega arith) (ap past e))
  where
    next : (c d : Bool) → contains (bytes "\"") s ≡ c → contains (bytes "\"") (s ++ t) ≡ d → seen_from d (s ++ t) ≡ p ++ code ")" ∷ b → c ≡ d
    next true d f g e = sym (contains-more s t f) ∙ g
    next false true f g e = absurd (all-quoted s t p b (omega arith) f e)
    next false false f g e = refl

    paired : (a : Bool) → is "\"" x ≡ a → (q : Bool) → seen_from (quoted_after q x (s ++ t)) (s ++ t) ≡ p ++ code ")" ∷ b → quoted_after q x s ≡ quoted_after q x (s ++ t)
    paired false f q e = rw (f, quoted_after)
    paired true f true e = rw (f, quoted_after)
    paired true f false e = rw (f, quoted_after) (next (contains (bytes "\"") s) (contains (bytes "\"") (s ++ t)) refl refl (ap (λ q. seen_from q (s ++ t)) (sym (rw (f, quoted_after))) ∙ e))
