-- Set braces without a stack: whether an open brace groups is found by looking back for it. Assumes nothing.
--     stack_of       the Rust's stack, from the symbols passed, last first
--     bare_at        whether the symbol at a place is written as it is
use Rattle.std.specs.Prelude.{◌≡◌, refl, Bool, true, false, List, [], ◌∷◌, ◌++◌, reverse, ℕ, zero, suc, ◌+◌, ◌-◌, ◌<◌, ◌≤◌, eqb, length, get_or, drop}
use Rattle.std.proofs.Common.{sym, ap₂, ◌∙◌, drop_of_length-le}
use Rattle.std.proofs.Math.Path.{ap}
use Rattle.std.proofs.Math.Option.{Option, none, some}
use Prim.Native.Char.{code}
use native.Mathlib.Omega.{arith}
use Rattle.std.proofs.Math.Seq.{drop-nil}
use borrow.Author.Tests.{eqb-true, ne_eqb}
use Rattle.spec.specs.Symbols.{bytes, is, head, find}
use Rattle.spec.specs.Closing.{close}
use Rattle.spec.specs.Finish.{groups_behind, top, popped, brace, escape_braces, escape_set_braces}
use Rattle.spec.specs.Laws.Symbols.{drop-step, find-nowhere}
use Rattle.spec.specs.Laws.Braces.{bare_behind, stack_behind}
use Rattle.spec.proofs.Braces.{escape-step}
use Rattle.text_symbols.specs.Parts.{part, length_part}
use Rattle.text.specs.declared.writer.Writer.{Writer}
use Rattle.text.specs.Writer.{Regions, Appended}
use Rattle.text.specs.Filling.{Filling, filling-more, filling-source, filling-symbol}
use Rattle.text_symbols.specs.Places.{head-before, before, before-next}
use Rattle.text_closing.specs.Backward.{ClosesBack, back_at, back-within, back-nothing}
use Rattle.text_search.specs.Search.{Found}
use Rattle.std.specs.Prelude.{Some, None, MatchOption}

unfoldable pub stack_of : List ℕ → List Bool
stack_of [] = []
stack_of (x ∷ p) = stack_behind (stack_of p) (head p) x

-- the symbol x, with those before it last first
unfoldable pub bare_after : List ℕ → ℕ → Bool
unfolding stack_of
bare_after p x = bare_behind (stack_of p) (head p) x

abbrev pub bare_at : List ℕ → ℕ → Bool
bare_at s i = bare_after (before s i) (get_or s i 0)

-- what is written from place i on
unfoldable pub escaped_from : List ℕ → ℕ → List ℕ
escaped_from s i = escape_braces (stack_of (before s i)) (head (before s i)) (drop i s)

pub escaped-from-step : (s : List ℕ) (i : ℕ) → i < length s → escaped_from s i ≡ brace (bare_at s i) (get_or s i 0) ++ escaped_from s (i + 1)
unfolding escaped_from bare_after stack_of
escaped-from-step s i h =
    ap (escape_braces (stack_of (before s i)) (head (before s i))) (drop-step s i h)
    ∙ escape-step (stack_of (before s i)) (head (before s i)) (get_or s i 0) (drop (i + 1) s)
    ∙ ap (λ p. brace (bare_at s i) (get_or s i 0) ++ escape_braces (stack_of p) (head p) (drop (i + 1) s)) (sym (before-next s i h))

pub escaped-from-first : (s : List ℕ) → escaped_from s 0 ≡ escape_set_braces s
unfolding escaped_from escape_set_braces stack_of
escaped-from-first s = refl

pub escaped-from-end : (s : List ℕ) (i : ℕ) → length s ≤ i → escaped_from s i ≡ []
unfolding escaped_from escape_braces
escaped-from-end s i h = ap (escape_braces (stack_of (before s i)) (head (before s i))) (drop_of_length-le s h)

-- ---- the last open brace is the one that closes the symbols passed, read backwards
abbrev pub is_grouping : Option (List ℕ) → Bool
is_grouping none = true
is_grouping (some p) = groups_behind (head p)

top-close : (p : List ℕ) (d : ℕ) → top (drop d (stack_of p)) ≡ is_grouping (close (code "}") (code "{") d p)
unfolding stack_of close
top-close [] d = ap top (drop-nil d)
top-close (x ∷ p) d = go (eqb x (code "}")) refl (eqb x (code "{")) refl d (top-close p)
  where
    later : (b : List Bool) (d : ℕ) → drop d (popped b) ≡ drop (suc d) b
    later [] d = drop-nil d
    later (x ∷ b) d = refl

    go : (a : Bool) → eqb x (code "}") ≡ a → (b : Bool) → eqb x (code "{") ≡ b → (d : ℕ) → ((d : ℕ) → top (drop d (stack_of p)) ≡ is_grouping (close (code "}") (code "{") d p))
        → top (drop d (stack_of (x ∷ p))) ≡ is_grouping (close (code "}") (code "{") d (x ∷ p))
    go true e b f d further = let z = eqb-true x (code "}") e in rw z (ap top (later (stack_of p) d) ∙ further (suc d))
    go false e true f zero further = rw (e, f, stack_of, stack_behind, close)
    go false e true f (suc d) further = rw (e, f, stack_of, stack_behind, close) (further d)
    go false e false f d further = rw (f, e, stack_of, stack_behind, close) (further d)

-- the last brace that is open groups by the symbol before it, and with none open its closer stays bare
pub top-found :
    (s : List ℕ) {r : Found} {b : Bool} → ClosesBack s r (close (code "}") (code "{") 0 (reverse s))
    → MatchOption r (b ≡ true) (λ k. b ≡ groups_behind (get_or (0 ∷ s) k 0)) → b ≡ top (stack_of (reverse s))
top-found s {r = Some k} back e =
    let inside = back-within back refl in
    e ∙ sym (top-close (reverse s) 0 ∙ ap is_grouping (back_at back refl) ∙ ap groups_behind (head-before s k (omega arith)))
top-found s {r = None} back e = e ∙ sym (top-close (reverse s) 0 ∙ ap is_grouping (back-nothing back refl))

-- ---- the symbol at a place
module _ (s : List ℕ) (i : ℕ) (within : i ≤ length s) where
  pub bare-opener : get_or s i 0 ≡ code "{" → bare_at s i ≡ groups_behind (get_or (0 ∷ s) i 0)
  unfolding bare_after
  bare-opener e = ap (bare_after (before s i)) e ∙ ap groups_behind (head-before s i within)

  pub bare-closer : get_or s i 0 ≡ code "}" → bare_at s i ≡ top (stack_of (before s i))
  unfolding bare_after
  bare-closer e = ap (bare_after (before s i)) e

  pub bare-other : (get_or s i 0 ≡ code "{" → ⊥) → (get_or s i 0 ≡ code "}" → ⊥) → bare_at s i ≡ true
  unfolding bare_after
  bare-other e f = rw (bare_after, bare_behind, ne_eqb (get_or s i 0) (code "{") e, ne_eqb (get_or s i 0) (code "}") f)

-- ---- without an opening brace nothing is escaped
escape-none : (before : ℕ) (s : List ℕ) → find (bytes "{") s ≡ none → escape_braces [] before s ≡ s
unfolding escape_braces
escape-none before [] e = refl
escape-none before (x ∷ s) e = let here = find-nowhere (bytes "{") x s e in go (is "}" x) refl here.0 (escape-none x s here.1)
  where
    go : (b : Bool) → is "}" x ≡ b → is "{" x ≡ false → escape_braces [] x s ≡ s → escape_braces [] before (x ∷ s) ≡ x ∷ s
    go true f a rest = rw (a, f, escape_braces) (ap (λ l. x ∷ l) rest)
    go false f a rest = rw (a, f, escape_braces) (ap (λ l. x ∷ l) rest)

pub escape-absent : (s : List ℕ) → find (bytes "{") s ≡ none → escape_set_braces s ≡ s
unfolding escape_set_braces
escape-absent s e = escape-none 0 s e

-- ---- a turn of the loop: the symbol at place i has been written
module _
    {w₀ w w' : List ℕ} {from n : ℕ} {o₀ o o' : Writer} {i : ℕ} {whole : List ℕ} {bare : Bool}
    (regions : Regions w₀ from n o₀) (filling : Filling w₀ w o₀ o (escaped_from (part from n w₀) i) whole) (more : i < n)
    (test : bare ≡ bare_at (part from (from + n - from) w) i) (a : Appended w w' o o' (brace bare (get_or w (from + i) 0)))
  where
    pub escaped-from-more : Filling w₀ w' o₀ o' (escaped_from (part from n w₀) (i + 1)) whole
    escaped-from-more =
        let l = length_part from n w₀ regions.source in
        filling-more filling a
        (escaped-from-step (part from n w₀) i (omega arith)
        ∙ ap₂ (λ b x. brace b x ++ escaped_from (part from n w₀) (i + 1))
        (sym (test ∙ ap (λ s. bare_at s i) (filling-source filling from n regions.apart)))
        (sym (filling-symbol filling from n regions.apart i more)))

    pub escaped-from-few : o'.count ≤ o.count + 2
    escaped-from-few = let c = a.counted in let l = short bare (get_or w (from + i) 0) in omega arith
      where
        short : (b : Bool) (x : ℕ) → length (brace b x) ≤ 2
        short true x = omega arith
        short false x = omega arith
