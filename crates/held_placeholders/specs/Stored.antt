-- A block is stored with marks, and the Rust has it with placeholders. Assumes nothing.
--     StoredAs           what a stored block and the Rust's have to do with each other
--     put-back-agrees    the rounds of the Rust's blocks, in terms of the stored ones
use Rattle.std.specs.Prelude.{◌≡◌, Bool, true, false, cond, ◌&&◌, ◌||◌, ltb, eqb, drop}
use Rattle.std.proofs.Math.Path.{refl, ap, ap₂, subst}
use Rattle.std.proofs.Common.{sym, ◌∙◌, arith, ltb-true}
use Rattle.std.proofs.lemmas.Bool.{false≢true}
use mathlib.Core.List.{List, [], ◌∷◌, ◌++◌, append_assoc}
use Prim.Native.Nat.{ℕ, zero, suc, ◌≤◌, ◌<◌}
use Rattle.spec.specs.Symbols.{text_mark}
use Rattle.spec.specs.Laws.Booleans.{or-neither}
use Rattle.held_placeholders.specs.Numbered.{placeholder}
use Rattle.held_placeholders.specs.Decimal.{decimal, decimal-digits, decimal_injective}
use Rattle.held_laws.specs.Marks.{backslash, is_mark, has_mark, not-text-mark}
use Rattle.held_placeholders.specs.Fill.{first, rest_numbers, fill, numbers_below, occurs, fill-unmarked}
use Rattle.held_placeholders.specs.Replacing.{TextMarkFree, here-too, same_digits}
use Rattle.held_placeholders.specs.Broken.{odd, odd-append, placeholder-even}
use Rattle.held_placeholders.specs.Remains.{Remains}
use Rattle.held_placeholders.specs.Losing.{lost_below, nested_below, none_below}
use Rattle.held_placeholders.specs.Round.{Good}
use Rattle.held_placeholders.specs.Agree.{after, fill-below, Nested, SameUnlessLost, agree}

-- block k: its marks have the numbers js, which are below k
pub record StoredAs (k : ℕ) (stored rust : List ℕ) : Type 0 where
  pub mark-numbers : List ℕ
  pub begins : stored ≡ backslash ∷ drop 1 stored
  pub below : numbers_below k mark-numbers stored ≡ true
  pub same : rust ≡ fill placeholder mark-numbers stored

-- ---- a block with placeholders
fill-even : (js u : List ℕ) → odd (fill placeholder js u) ≡ false
unfolding fill odd
fill-even js [] = refl
fill-even js (b ∷ u) = go (is_mark b) refl (fill-even (rest_numbers js) u) (fill-even js u)
  where
    go : (m : Bool) → is_mark b ≡ m → odd (fill placeholder (rest_numbers js) u) ≡ false → odd (fill placeholder js u) ≡ false
        → odd (cond m (placeholder (first js) ++ fill placeholder (rest_numbers js) u) (b ∷ fill placeholder js u)) ≡ false
    go true e more other = odd-append (placeholder (first js)) (fill placeholder (rest_numbers js) u) ∙ (rw (placeholder-even (first js)) more)
    go false e more other = rw (not-text-mark b e) other

fill-marks : (js u : List ℕ) → has_mark (fill placeholder js u) ≡ has_mark u
unfolding fill placeholder
fill-marks js [] = refl
fill-marks js (b ∷ u) = go (is_mark b) refl (fill-marks js u)
  where
    go : (m : Bool) → is_mark b ≡ m → has_mark (fill placeholder js u) ≡ has_mark u
        → has_mark (cond m (placeholder (first js) ++ fill placeholder (rest_numbers js) u) (b ∷ fill placeholder js u)) ≡ m || has_mark u
    go true e more = refl
    go false e more = rw e more

fill_begins : (f : ℕ → List ℕ) (js u : List ℕ) → u ≡ backslash ∷ drop 1 u → fill f js u ≡ backslash ∷ drop 1 (fill f js u)
unfolding fill
fill_begins f js u e =
    let whole : fill f js u ≡ backslash ∷ fill f js (drop 1 u) = ap (fill f js) e in
    whole ∙ ap (λ l. backslash ∷ l) (sym (ap (drop 1) whole))

-- ---- the first mark of a block is that of an earlier block
unmarked-more : (x : List ℕ) (b : ℕ) → TextMarkFree x → eqb b text_mark ≡ false → TextMarkFree (x ++ (b ∷ []))
unfolding TextMarkFree
unmarked-more [] b h e = (e, tt)
unmarked-more (c ∷ x) b h e = (h.0, unmarked-more x b h.1 e)

first-mark :
    (k : ℕ) (u js x v : List ℕ) → TextMarkFree x → has_mark u ≡ true → numbers_below k js u ≡ true
    → Remains (suc k) (backslash ∷ (x ++ (fill placeholder js u ++ v)))
unfolding fill numbers_below placeholder
first-mark k [] js x v h e below = absurd (false≢true e)
first-mark k (b ∷ u) js x v h e below = go (is_mark b) refl (ltb (first js) k) refl (first-mark k u js (x ++ (b ∷ [])) v) e below
  where
    tail : List ℕ
    tail = fill placeholder (rest_numbers js) u ++ v

    dead : first js < k → (t : ℕ) → suc k ≤ t → here-too t (decimal (first js) ++ (text_mark ∷ tail)) ≡ false
    dead less t h = look (here-too t (decimal (first js) ++ (text_mark ∷ tail))) refl
      where
        look : (o : Bool) → here-too t (decimal (first js) ++ (text_mark ∷ tail)) ≡ o → o ≡ false
        look true e =
            let one = decimal_injective t (first js) (same_digits (decimal t) (decimal (first js)) (decimal-digits t) (decimal-digits (first js)) tail e) in
            absurd (omega arith)
        look false e = refl

    go : (m : Bool) → is_mark b ≡ m → (t : Bool) → ltb (first js) k ≡ t
        → (TextMarkFree (x ++ (b ∷ [])) → has_mark u ≡ true → numbers_below k js u ≡ true → Remains (suc k) (backslash ∷ ((x ++ (b ∷ [])) ++ (fill placeholder js u ++ v))))
        → m || has_mark u ≡ true → cond m (t && numbers_below k (rest_numbers js) u) (numbers_below k js u) ≡ true
        → Remains (suc k) (backslash ∷ (x ++ (cond m (placeholder (first js) ++ fill placeholder (rest_numbers js) u) (b ∷ fill placeholder js u) ++ v)))
    go true q true p more e below =
        record {
          left = [];
          between = x;
          right = decimal (first js) ++ (text_mark ∷ tail);
          split =
              ap (λ l. backslash ∷ (x ++ (text_mark ∷ l)))
              (append_assoc (decimal (first js) ++ (text_mark ∷ [])) (fill placeholder (rest_numbers js) u) v ∙ append_assoc (decimal (first js)) (text_mark ∷ []) tail);
          plain = h;
          later-absent = dead (ltb-true (first js) k p);
        }
    go true q false p more e below = absurd (false≢true below)
    go false q t p more e below =
        subst (λ l. Remains (suc k) (backslash ∷ l)) (append_assoc x (b ∷ []) (fill placeholder js u ++ v)) (more (unmarked-more x b h (not-text-mark b q)) e below)

-- ---- the theorem, block by block
module _ (stored rust : ℕ → List ℕ) (fair : (k : ℕ) → StoredAs k (stored k) (rust k)) where
  same-marks : (k : ℕ) → has_mark (rust k) ≡ has_mark (stored k)
  same-marks k = ap has_mark (fair k).same ∙ fill-marks (fair k).mark-numbers (stored k)

  nested_same : (n : ℕ) → nested_below rust n ≡ nested_below stored n
  unfolding nested_below
  nested_same zero = refl
  nested_same (suc n) = ap₂ (λ x y. x || y) (nested_same n) (same-marks n)

  rust-good : (k : ℕ) → Good (rust k)
  rust-good k =
      let f = fair k in
      subst Good (sym f.same) (record { begins = fill_begins placeholder f.mark-numbers (stored k) f.begins; even = fill-even f.mark-numbers (stored k) })

  earlier : (k : ℕ) → has_mark (stored k) ≡ true → (v : List ℕ) → Remains (suc k) (rust k ++ v)
  unfolding fill numbers_below TextMarkFree
  earlier k e v =
      let f = fair k in
      let b = f.begins in
      subst (λ l. Remains (suc k) (l ++ v)) (sym (f.same ∙ ap (fill placeholder f.mark-numbers) b))
      (first-mark k (drop 1 (stored k)) f.mark-numbers [] v tt (sym (ap has_mark b) ∙ e) (sym (ap (numbers_below k f.mark-numbers) b) ∙ f.below))

  -- a mark remains in the Rust's text just where a block is lost; where none is, every block is at its own place
  pub put-back-agrees :
      (n : ℕ) (ks s : List ℕ) → ((k : ℕ) → has_mark (stored k) ≡ true → occurs k ks s ≡ true) → numbers_below n ks s ≡ true
      → SameUnlessLost (nested_below stored n || lost_below n ks s) (after rust n (fill placeholder ks s)) (fill stored ks s)
  put-back-agrees n ks s outer below =
      let nested : (k : ℕ) → has_mark (rust k) ≡ true → Nested rust ks s k =
      λ k e. (let m = sym (same-marks k) ∙ e in record { earlier = earlier k m; outer = outer k m }) in
      let a = agree rust rust-good ks s nested n below in
      let lost-same = ap (λ t. t || lost_below n ks s) (nested_same n) in
      record {
        remains = a.remains ∙ lost-same;
        same = λ e.
            (let none = (or-neither (nested_below stored n) (lost_below n ks s) e).0 in
            a.same (lost-same ∙ e)
            ∙ fill-below rust stored n (λ k h. (fair k).same ∙ fill-unmarked placeholder (fair k).mark-numbers (stored k) (none_below stored n none k h)) ks s below);
      }
