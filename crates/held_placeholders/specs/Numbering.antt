-- The numbers of the marks, as the Rust gives them: the `\text` marks in a `\mathrm` block have theirs before those behind it. Assumes nothing.
--     numbers            the numbers of a text's marks
--     numbered-fill      the Rust's text is the marked text with placeholders of these numbers
--     numbers-plain      where no `\mathrm` block holds a mark, they are those of `order`
--     AllStoredAs        stored blocks and the Rust's blocks, from number k on
use Rattle.std.specs.Prelude.{◌≡◌, refl, Bool, true, false, cond, ◌&&◌, ◌||◌, List, [], ◌∷◌, ◌++◌, ℕ, zero, suc, ◌+◌, ◌≤◌, ◌<◌, eqb, ltb, length}
use Rattle.std.proofs.Common.{sym, ap, ap₂, ◌∙◌, subst, add-zero, add-suc, suc-add, arith, lt-ltb}
use Rattle.std.proofs.lemmas.Bool.{eqb-false}
use Rattle.spec.specs.Symbols.{text_mark, roman_mark}
use Rattle.spec.specs.Held.{marks}
use Rattle.spec.specs.Laws.Booleans.{or-neither, or_right}
use Rattle.held_laws.specs.Marks.{is_mark, has_mark, count, block_at, concat, not-both, has-mark-append}
use Rattle.held_placeholders.specs.Numbered.{placeholder, numbered, numbered_romans}
use Rattle.held_placeholders.specs.Fill.{first, rest_numbers, order, fill, numbers_below, occurs, fill-unmarked}
use Rattle.held_placeholders.specs.Stored.{StoredAs}
use Rattle.held_laws.specs.WellMade.{Every, MarkFreeBlock, Enclosing, count-append, marks-count, unmarked-count}

unfoldable pub numbers : List (List ℕ) → ℕ → ℕ → List ℕ → List ℕ
numbers romans t r [] = []
numbers romans t r (x ∷ s) =
    cond (eqb x text_mark) (t ∷ numbers romans (suc t) r s)
    (cond (eqb x roman_mark)
    (r ∷ elim romans as (λ _. List ℕ) [ [] ↦ numbers [] t (suc r) s | b ∷ bs ↦ numbers bs (t + marks b) (suc r) s ])
    (numbers romans t r s))

pub numbered-fill : (s : List ℕ) (romans : List (List ℕ)) (t r : ℕ) → numbered romans t r s ≡ fill placeholder (numbers romans t r s) s
unfolding numbered numbers fill
numbered-fill [] romans t r = refl
numbered-fill (x ∷ s) romans t r = go (eqb x text_mark) (eqb x roman_mark) romans (numbered-fill s)
  where
    go : (m n : Bool) (romans : List (List ℕ)) → ((romans : List (List ℕ)) (t r : ℕ) → numbered romans t r s ≡ fill placeholder (numbers romans t r s) s)
        → (let ks =
        cond m (t ∷ numbers romans (suc t) r s)
        (cond n (r ∷ elim romans as (λ _. List ℕ) [ [] ↦ numbers [] t (suc r) s | b ∷ bs ↦ numbers bs (t + marks b) (suc r) s ]) (numbers romans t r s)) in
        elim m as (λ _. List ℕ) [
          | true ↦ placeholder t ++ numbered romans (suc t) r s
          | false ↦ elim n as (λ _. List ℕ) [
            | true ↦ elim romans as (λ _. List ℕ) [ [] ↦ placeholder r ++ numbered [] t (suc r) s | b ∷ bs ↦ placeholder r ++ numbered bs (t + marks b) (suc r) s ]
            | false ↦ x ∷ numbered romans t r s
          ]
        ]
        ≡ cond (m || n) (placeholder (first ks) ++ fill placeholder (rest_numbers ks) s) (x ∷ fill placeholder ks s))
    go true n romans more = ap (λ l. placeholder t ++ l) (more romans (suc t) r)
    go false true [] more = ap (λ l. placeholder r ++ l) (more [] t (suc r))
    go false true (b ∷ bs) more = ap (λ l. placeholder r ++ l) (more bs (t + marks b) (suc r))
    go false false romans more = ap (λ l. x ∷ l) (more romans t r)

-- ---- they are below n
pub numbers-below :
    (n : ℕ) (s : List ℕ) (romans : List (List ℕ)) (t r : ℕ) → t + count text_mark s + count text_mark (concat romans) ≤ n → r + count roman_mark s ≤ n
    → numbers_below n (numbers romans t r s) s ≡ true
unfolding numbers numbers_below count concat
numbers-below n [] romans t r h g = refl
numbers-below n (x ∷ s) romans t r h g = go (eqb x text_mark) refl (eqb x roman_mark) refl romans h g (numbers-below n s)
  where
    go : (m : Bool) → eqb x text_mark ≡ m → (o : Bool) → eqb x roman_mark ≡ o → (romans : List (List ℕ))
        → t + cond m (suc (count text_mark s)) (count text_mark s) + count text_mark (concat romans) ≤ n → r + cond o (suc (count roman_mark s)) (count roman_mark s) ≤ n
        → ((romans : List (List ℕ)) (t r : ℕ) → t + count text_mark s + count text_mark (concat romans) ≤ n → r + count roman_mark s ≤ n → numbers_below n (numbers romans t r s) s ≡ true)
        → (let ks =
        cond m (t ∷ numbers romans (suc t) r s)
        (cond o (r ∷ elim romans as (λ _. List ℕ) [ [] ↦ numbers [] t (suc r) s | b ∷ bs ↦ numbers bs (t + marks b) (suc r) s ]) (numbers romans t r s)) in
        cond (m || o) (ltb (first ks) n && numbers_below n (rest_numbers ks) s) (numbers_below n ks s) ≡ true)
    go true p true q romans h g more = not-both x p q
    go true p false q romans h g more = rw (lt-ltb t n (omega arith)) (more romans (suc t) r (omega arith) g)
    go false p true q [] h g more = rw (lt-ltb r n (omega arith)) (more [] t (suc r) h (omega arith))
    go false p true q (b ∷ bs) h g more =
        let c = count-append text_mark b (concat bs) in let d = marks-count b in
        rw (lt-ltb r n (omega arith)) (more bs (t + marks b) (suc r) (omega arith) (omega arith))
    go false p false q romans h g more = more romans t r h g

-- ---- each `\mathrm` mark has its number
pub roman-occurs : (k : ℕ) (s : List ℕ) (romans : List (List ℕ)) (t r : ℕ) → r ≤ k → k < r + count roman_mark s → occurs k (numbers romans t r s) s ≡ true
unfolding numbers occurs count
roman-occurs k [] romans t r h g = absurd (omega arith)
roman-occurs k (x ∷ s) romans t r h g = go (eqb x text_mark) refl (eqb x roman_mark) refl romans g (roman-occurs k s)
  where
    go : (m : Bool) → eqb x text_mark ≡ m → (o : Bool) → eqb x roman_mark ≡ o → (romans : List (List ℕ)) → k < r + cond o (suc (count roman_mark s)) (count roman_mark s)
        → ((romans : List (List ℕ)) (t r : ℕ) → r ≤ k → k < r + count roman_mark s → occurs k (numbers romans t r s) s ≡ true)
        → (let ks =
        cond m (t ∷ numbers romans (suc t) r s)
        (cond o (r ∷ elim romans as (λ _. List ℕ) [ [] ↦ numbers [] t (suc r) s | b ∷ bs ↦ numbers bs (t + marks b) (suc r) s ]) (numbers romans t r s)) in
        cond (m || o) (eqb (first ks) k || occurs k (rest_numbers ks) s) (occurs k ks s) ≡ true)
    go true p true q romans g more = not-both x p q
    go true p false q romans g more = or_right (eqb t k) _ (more romans (suc t) r h g)
    go false p true q romans g more = met (eqb r k) refl romans
      where
        met : (e : Bool) → eqb r k ≡ e → (romans : List (List ℕ))
            → e || occurs k (elim romans as (λ _. List ℕ) [ [] ↦ numbers [] t (suc r) s | b ∷ bs ↦ numbers bs (t + marks b) (suc r) s ]) s ≡ true
        met true e romans = refl
        met false e [] = let other = eqb-false r k e in more [] t (suc r) (omega arith) (omega arith)
        met false e (b ∷ bs) = let other = eqb-false r k e in more bs (t + marks b) (suc r) (omega arith) (omega arith)
    go false p false q romans g more = more romans t r h g

-- ---- without nesting
pub numbers-plain : (s : List ℕ) (romans : List (List ℕ)) (t r : ℕ) → has_mark (concat romans) ≡ false → numbers romans t r s ≡ order t r s
unfolding numbers order concat
numbers-plain [] romans t r e = refl
numbers-plain (x ∷ s) romans t r e =
    ap₂ (λ y z. cond (eqb x text_mark) y (cond (eqb x roman_mark) (r ∷ z) (numbers romans t r s))) (ap (λ l. t ∷ l) (numbers-plain s romans (suc t) r e)) (behind romans e (numbers-plain s))
    ∙ ap (λ z. cond (eqb x text_mark) (t ∷ order (suc t) r s) (cond (eqb x roman_mark) (r ∷ order t (suc r) s) z)) (numbers-plain s romans t r e)
  where
    behind : (romans : List (List ℕ)) → has_mark (concat romans) ≡ false
        → ((romans : List (List ℕ)) (t r : ℕ) → has_mark (concat romans) ≡ false → numbers romans t r s ≡ order t r s)
        → elim romans as (λ _. List ℕ) [ [] ↦ numbers [] t (suc r) s | b ∷ bs ↦ numbers bs (t + marks b) (suc r) s ] ≡ order t (suc r) s
    behind [] e more = more [] t (suc r) e
    behind (b ∷ bs) e more =
        let both = or-neither (has_mark b) (has_mark (concat bs)) (sym (has-mark-append b (concat bs)) ∙ e) in
        let none : t + marks b ≡ t = ap (λ n. t + n) (marks-count b ∙ (unmarked-count b both.0).0) ∙ add-zero t in
        ap (λ n. numbers bs n (suc r) s) none ∙ more bs t (suc r) both.1

-- ---- stored blocks and the Rust's
unfoldable pub AllStoredAs : ℕ → List (List ℕ) → List (List ℕ) → Type 0
AllStoredAs k [] [] = Unit {0}
AllStoredAs k [] (b ∷ bs) = ⊥
AllStoredAs k (u ∷ us) [] = ⊥
AllStoredAs k (u ∷ us) (b ∷ bs) = StoredAs k u b × AllStoredAs (suc k) us bs

pub stored-as-length : (k : ℕ) (us bs : List (List ℕ)) → AllStoredAs k us bs → length bs ≡ length us
unfolding AllStoredAs
stored-as-length k [] [] h = refl
stored-as-length k [] (b ∷ bs) h = absurd h
stored-as-length k (u ∷ us) [] h = absurd h
stored-as-length k (u ∷ us) (b ∷ bs) h = ap suc (stored-as-length (suc k) us bs h.1)

pub stored-as-at : (k : ℕ) (us bs : List (List ℕ)) → AllStoredAs k us bs → (i : ℕ) → StoredAs (k + i) (block_at us i) (block_at bs i)
unfolding AllStoredAs block_at numbers_below fill
stored-as-at k [] [] h i = record { mark-numbers = []; begins = refl; below = refl; same = refl }
stored-as-at k [] (b ∷ bs) h i = absurd h
stored-as-at k (u ∷ us) [] h i = absurd h
stored-as-at k (u ∷ us) (b ∷ bs) h zero = subst (λ n. StoredAs n u b) (sym (add-zero k)) h.0
stored-as-at k (u ∷ us) (b ∷ bs) h (suc i) = subst (λ n. StoredAs n (block_at us i) (block_at bs i)) (suc-add k i ∙ sym (add-suc k i)) (stored-as-at (suc k) us bs h.1 i)

unmarked-below : (k : ℕ) (s : List ℕ) → has_mark s ≡ false → numbers_below k [] s ≡ true
unfolding numbers_below
unmarked-below k [] e = refl
unmarked-below k (b ∷ s) e = let parts = or-neither (is_mark b) (has_mark s) e in rw parts.0 (unmarked-below k s parts.1)

pub stored-as-texts : (k : ℕ) (texts us bs : List (List ℕ)) → Every MarkFreeBlock texts → AllStoredAs (k + length texts) us bs → AllStoredAs k (texts ++ us) (texts ++ bs)
unfolding AllStoredAs Every
stored-as-texts k [] us bs h f = subst (λ n. AllStoredAs n us bs) (add-zero k) f
stored-as-texts k (b ∷ texts) us bs h f = (
  record { mark-numbers = []; begins = h.0.begins; below = unmarked-below k b h.0.mark-free; same = sym (fill-unmarked placeholder [] b h.0.mark-free) },
  stored-as-texts (suc k) texts us bs h.1 (subst (λ n. AllStoredAs n us bs) (add-suc k (length texts) ∙ sym (suc-add k (length texts))) f),
)

pub stored-as-romans :
    (s : List ℕ) (romans : List (List ℕ)) (k t : ℕ) → Every Enclosing romans → count roman_mark s ≡ length romans → t + count text_mark s + count text_mark (concat romans) ≤ k
    → AllStoredAs k romans (numbered_romans romans t s)
unfolding numbered_romans AllStoredAs Every count concat
stored-as-romans [] [] k t h c l = tt
stored-as-romans [] (b ∷ bs) k t h c l = absurd (omega arith)
stored-as-romans (x ∷ s) [] k t h c l = tt
stored-as-romans (x ∷ s) (b ∷ bs) k t h c l = go (eqb x text_mark) refl (eqb x roman_mark) refl c l (stored-as-romans s)
  where
    go : (m : Bool) → eqb x text_mark ≡ m → (o : Bool) → eqb x roman_mark ≡ o
        → cond o (suc (count roman_mark s)) (count roman_mark s) ≡ suc (length bs) → t + cond m (suc (count text_mark s)) (count text_mark s) + count text_mark (b ++ concat bs) ≤ k
        → ((romans : List (List ℕ)) (k t : ℕ) → Every Enclosing romans → count roman_mark s ≡ length romans → t + count text_mark s + count text_mark (concat romans) ≤ k → AllStoredAs k romans (numbered_romans romans t s))
        → AllStoredAs k (b ∷ bs) (elim m as (λ _. List (List ℕ)) [
          | true ↦ numbered_romans (b ∷ bs) (suc t) s
          | false ↦ elim o as (λ _. List (List ℕ)) [
            | true ↦ numbered [] t 0 b ∷ numbered_romans bs (t + marks b) s
            | false ↦ numbered_romans (b ∷ bs) t s
          ]
        ])
    go true p true q c l more = not-both x p q
    go true p false q c l more = more (b ∷ bs) k (suc t) h c (omega arith)
    go false p true q c l more =
        let a = count-append text_mark b (concat bs) in let d = marks-count b in let z = h.0.no-roman in (
          record {
            mark-numbers = numbers [] t 0 b;
            begins = h.0.begins;
            below = numbers-below k b [] t 0 (omega arith) (omega arith);
            same = numbered-fill b [] t 0;
          },
          more bs (suc k) (t + marks b) h.1 (omega arith) (omega arith),
        )
    go false p false q c l more = more (b ∷ bs) k t h c l
