-- Trimming before line breaks are doubled, and after: blanks are written as they are. Assumes nothing.
--     drop_end       `drop_while_end` by recursion on the text
--     Trimmed       the places that trimming leaves
--     Lines         what `put_lines` has appended
use Rattle.std.specs.Prelude.{◌≡◌, refl, Bool, true, false, cond, ◌&&◌, ◌||◌, ℕ, zero, suc, ◌+◌, ◌-◌, ◌≤◌, length, get_or, drop}
use Rattle.std.proofs.Common.{sym, ap, ◌∙◌, not-suc-le-zero, arith, length-take, length-drop, eqb-true}
use Rattle.std.proofs.lemmas.Bool.{false≢true}
use mathlib.Core.List.{List, [], ◌∷◌, ◌++◌, reverse, reverse-cons, reverse-append}
use Prim.Native.Char.{code}
use Rattle.spec.specs.Symbols.{is, blank, head, empty, drop_while, drop_while_end, trim}
use Rattle.text_symbols.specs.Places.{before, AheadTo, BackTo}
use Rattle.text_symbols.specs.Runs.{behind-end}
use Rattle.spec.specs.Laws.Symbols.{drop_while-short}
use Rattle.text_symbols.specs.declared.Span.{Span}
use Rattle.alignment.specs.Breaks.{breaks, piece, with_breaks, lined}

-- ---- dropping from the end
module _ (f : ℕ → Bool) where
  abbrev end_with : ℕ → List ℕ → List ℕ
  end_with x [] = elim (f x) [ true ↦ [] | false ↦ x ∷ [] ]
  end_with x (y ∷ t) = x ∷ y ∷ t

  abbrev pub drop_end : List ℕ → List ℕ
  drop_end [] = []
  drop_end (x ∷ s) = end_with x (drop_end s)

  end-some : (x y : ℕ) (v : List ℕ) → end_with x (v ++ y ∷ []) ≡ x ∷ (v ++ y ∷ [])
  end-some x y [] = refl
  end-some x y (z ∷ v) = refl

  end_kept : (x : ℕ) (r : List ℕ) → f x ≡ false → end_with x r ≡ x ∷ r
  end_kept x [] e = rw (e, end_with)
  end_kept x (y ∷ r) e = refl

  end_none : (x : ℕ) → f x ≡ true → end_with x [] ≡ []
  end_none x e = rw (e, end_with)

  end_snoc : (u : List ℕ) (x : ℕ) → reverse (drop_while f (u ++ x ∷ [])) ≡ end_with x (reverse (drop_while f u))
  end_snoc [] x = go (f x)
    where
      go : (t : Bool) → reverse {A = ℕ} (elim t [ true ↦ [] | false ↦ x ∷ [] ]) ≡ elim t [ true ↦ [] | false ↦ x ∷ [] ]
      go true = refl
      go false = refl
  end_snoc (y ∷ u) x = go (f y) (end_snoc u x)
    where
      go : (t : Bool) → reverse (drop_while f (u ++ x ∷ [])) ≡ end_with x (reverse (drop_while f u))
          → reverse {A = ℕ} (elim t [ true ↦ drop_while f (u ++ x ∷ []) | false ↦ y ∷ (u ++ x ∷ []) ]) ≡ end_with x (reverse {A = ℕ} (elim t [ true ↦ drop_while f u | false ↦ y ∷ u ]))
      go true e = e
      go false e =
          reverse-append (y ∷ u) (x ∷ []) ∙ ap (λ t. x ∷ t) (reverse-cons y u) ∙ sym (end-some x y (reverse u)) ∙ ap (end_with x) (sym (reverse-cons y u))

  drop-end : (s : List ℕ) → drop_while_end f s ≡ drop_end s
  drop-end [] = refl
  drop-end (x ∷ s) = ap (λ t. reverse (drop_while f t)) (reverse-cons x s) ∙ end_snoc (reverse s) x ∙ ap (end_with x) (drop-end s)

  while-stop : (x : ℕ) (s : List ℕ) → f x ≡ false → drop_while f (x ∷ s) ≡ x ∷ s
  while-stop x s e = rw (e, drop_while)

  while-past : (x : ℕ) (s : List ℕ) → f x ≡ true → drop_while f (x ∷ s) ≡ drop_while f s
  while-past x s e = rw (e, drop_while)

-- ---- the places that trimming leaves
pub record Trimmed (s : List ℕ) (r : Span) : Type 0 where
  pub order : r.start ≤ r.end
  pub inside : r.end ≤ length s
  pub leading : drop_while blank s ≡ drop r.start s
  pub many : length (drop_while_end blank (drop r.start s)) ≡ r.end - r.start

pub trimmed-by : {s : List ℕ} {start k : ℕ} → AheadTo s 0 start (drop_while blank s)
    → BackTo (drop start s) (length s - start) k (drop_while blank (before (drop start s) (length s - start)))
    → Trimmed s (record { start = start; end = start + k })
trimmed-by {s} {start} {k} a b =
    let w = a.within in let t = b.to in let d = length-drop start s in let l = length-take k (drop start s) in
    let n = ap length (behind-end blank {s = drop start s} (sym d) b) in
    record { order = omega arith; inside = omega arith; leading = sym a.left; many = omega arith }

-- ---- blanks are written as they are
blank-single : (before x : ℕ) (s : List ℕ) → blank x ≡ true → breaks before x s ≡ false
blank-single before x s e = go (is "\\" x) refl
  where
    go : (t : Bool) → is "\\" x ≡ t → t && (is " " before && (is "\n" (head s) || empty s)) ≡ false
    go true f = absurd (false≢true (ap blank (sym (eqb-true x (code "\\") f)) ∙ e))
    go false f = refl

with-breaks-lead : (before : ℕ) (s : List ℕ) (a : ℕ) → a ≤ length s → drop_while blank s ≡ drop a s → drop_while blank (with_breaks before s) ≡ with_breaks (get_or (before ∷ s) a 0) (drop a s)
unfolding with_breaks
with-breaks-lead before [] zero h e = refl
with-breaks-lead before [] (suc a) h e = absurd (not-suc-le-zero h)
with-breaks-lead before (x ∷ s) a h e = go (blank x) refl a h e (with-breaks-lead x s)
  where
    kept_from : (a : ℕ) → a ≤ suc (length s) → blank x ≡ false → drop_while blank (x ∷ s) ≡ drop a (x ∷ s) → a ≡ 0
    kept_from a h b e =
        let l : suc (length s) ≡ length (drop a (x ∷ s)) = ap length (sym (while-stop blank x s b) ∙ e) in
        let d = length-drop a (x ∷ s) in
        omega arith

    go : (t : Bool) → blank x ≡ t → (a : ℕ) → a ≤ suc (length s) → drop_while blank (x ∷ s) ≡ drop a (x ∷ s)
        → ((a : ℕ) → a ≤ length s → drop_while blank s ≡ drop a s → drop_while blank (with_breaks x s) ≡ with_breaks (get_or (x ∷ s) a 0) (drop a s))
        → drop_while blank (with_breaks before (x ∷ s)) ≡ with_breaks (get_or (before ∷ x ∷ s) a 0) (drop a (x ∷ s))
    go true b zero h e rest =
        let d : drop_while blank s ≡ x ∷ s = sym (while-past blank x s b) ∙ e in
        let l = ap length d in let w = drop_while-short blank s in absurd (omega arith)
    go true b (suc a) h e rest =
        ap (λ t. drop_while blank (piece x t ++ with_breaks x s)) (blank-single before x s b)
        ∙ while-past blank x (with_breaks x s) b
        ∙ rest a (omega arith) (sym (while-past blank x s b) ∙ e)
    go false b a h e rest =
        let z = kept_from a h b e in
        while-stop blank x (cond (breaks before x s) (x ∷ []) [] ++ with_breaks x s) b ∙ ap (λ k. with_breaks (get_or (before ∷ x ∷ s) k 0) (drop k (x ∷ s))) (sym z)

lined-some : (k before x : ℕ) (s : List ℕ) → (r : List ℕ) → lined (suc k) before (x ∷ s) ≡ r → (y : ℕ) → end_with blank y r ≡ y ∷ r
unfolding lined
lined-some k before x s [] e y = let l = ap length e in absurd (omega arith)
lined-some k before x s (z ∷ r) e y = refl

with-breaks-end : (before : ℕ) (s : List ℕ) → drop_end blank (with_breaks before s) ≡ lined (length (drop_end blank s)) before s
unfolding with_breaks lined
with-breaks-end before [] = refl
with-breaks-end before (x ∷ s) = go (blank x) refl (with-breaks-end x s)
  where
    -- a symbol that is not blank, once or twice
    solid : (t : Bool) → blank x ≡ false → drop_end blank (with_breaks x s) ≡ lined (length (drop_end blank s)) x s
        → drop_end blank (piece x t ++ with_breaks x s) ≡ piece x t ++ lined (length (drop_end blank s)) x s
    solid true b rest =
        ap (end_with blank x) (end_kept blank x (drop_end blank (with_breaks x s)) b) ∙ ap (λ l. x ∷ x ∷ l) rest
    solid false b rest = end_kept blank x (drop_end blank (with_breaks x s)) b ∙ ap (λ l. x ∷ l) rest

    -- a blank goes with what stands behind it
    soft : (s : List ℕ) (d : List ℕ) → drop_end blank s ≡ d → blank x ≡ true → drop_end blank (with_breaks x s) ≡ lined (length d) x s
        → end_with blank x (drop_end blank (with_breaks x s)) ≡ lined (length (end_with blank x d)) before (x ∷ s)
    soft s [] e b rest =
        ap (end_with blank x) rest ∙ end_none blank x b ∙ sym (ap (λ (d : List ℕ). lined (length d) before (x ∷ s)) (end_none blank x b))
    soft [] (y ∷ d) e b rest = let l = ap length e in absurd (omega arith)
    soft (z ∷ s) (y ∷ d) e b rest =
        lined-some (length d) x z s (drop_end blank (with_breaks x (z ∷ s))) (sym rest) x
        ∙ ap (λ l. x ∷ l) rest
        ∙ ap (λ t. piece x t ++ lined (suc (length d)) x (z ∷ s)) (sym (blank-single before x (z ∷ s) b))

    go : (t : Bool) → blank x ≡ t → drop_end blank (with_breaks x s) ≡ lined (length (drop_end blank s)) x s
        → drop_end blank (with_breaks before (x ∷ s)) ≡ lined (length (end_with blank x (drop_end blank s))) before (x ∷ s)
    go true b rest = ap (λ t. drop_end blank (piece x t ++ with_breaks x s)) (blank-single before x s b) ∙ soft s (drop_end blank s) refl b rest
    go false b rest =
        solid (breaks before x s) b rest
        ∙ ap (λ (d : List ℕ). lined (length d) before (x ∷ s)) (sym (end_kept blank x (drop_end blank s) b))

-- trimming what is read trims what is written
pub trim-with-breaks : (s : List ℕ) {r : Span} → Trimmed s r → trim (with_breaks 0 s) ≡ lined (r.end - r.start) (get_or (0 ∷ s) r.start 0) (drop r.start s)
trim-with-breaks s {r} t =
    let o = t.order in let i = t.inside in
    let b = get_or (0 ∷ s) r.start 0 in
    let u = drop r.start s in
    ap (drop_while_end blank) (with-breaks-lead 0 s r.start (omega arith) t.leading)
    ∙ drop-end blank (with_breaks b u) ∙ with-breaks-end b u
    ∙ ap (λ k. lined k b u) (sym (ap length (drop-end blank u)) ∙ t.many)
