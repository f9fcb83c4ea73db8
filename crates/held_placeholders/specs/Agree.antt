-- All rounds of the Rust's put-back: a mark remains just where a block is lost, and otherwise every block is at its own place. Assumes nothing.
--     after               the text after n rounds
--     SameUnlessLost      what is said of the Rust's text
--     agree               for blocks as the Rust has them, with placeholders
use Rattle.std.specs.Prelude.{◌≡◌, Bool, true, false, cond, ◌&&◌, ◌||◌, List, [], ◌∷◌, ◌++◌, ltb, eqb, length}
use Rattle.std.proofs.Math.Path.{refl}
use Rattle.std.proofs.Common.{sym, ap, ap₂, ◌∙◌, subst, true≢false, add-zero, add-suc, suc-add, arith, eqb-true, ltb-true, lt-ltb, le-ltb}
use Rattle.std.proofs.lemmas.Bool.{false≢true}
use Prim.Native.Nat.{ℕ, zero, suc, ◌+◌, ◌<◌}
use Rattle.spec.specs.Laws.Booleans.{or_right}
use Rattle.held_laws.specs.Marks.{is_mark, has_mark, block_at, not-text-mark}
use Rattle.held_placeholders.specs.Numbered.{placeholder, restored}
use Rattle.held_placeholders.specs.Fill.{first, rest_numbers, fill, numbers_below, occurs}
use Rattle.held_placeholders.specs.Replacing.{TextMarkFree, put_block}
use Rattle.held_placeholders.specs.Broken.{marked, broken, broken-put, broken-marked}
use Rattle.held_placeholders.specs.Remains.{Remains, remains-put, remains-marked, remains-behind}
use Rattle.held_placeholders.specs.Losing.{lost_at, lost_below, nested_below, free-below}
use Rattle.held_placeholders.specs.Round.{Good, RoundResult, whole, broke, put_back_up_to, round}

unfoldable pub after : (ℕ → List ℕ) → ℕ → List ℕ → List ℕ
after block zero s = s
after block (suc n) s = put_block n (block n) (after block n s)

-- the Rust's rounds go through a list
restored-from :
    (block : ℕ → List ℕ) (bs : List (List ℕ)) (k : ℕ) → ((i : ℕ) → block (k + i) ≡ block_at bs i) → (s : List ℕ)
    → restored k bs (after block k s) ≡ after block (k + length bs) s
unfolding restored after block_at
restored-from block [] k same s = ap (λ n. after block n s) (sym (add-zero k))
restored-from block (b ∷ bs) k same s =
    let here : b ≡ block k = sym (same 0) ∙ ap block (add-zero k) in
    ap (λ b. restored (suc k) bs (put_block k b (after block k s))) here
    ∙ restored-from block bs (suc k) (λ i. ap block (suc-add k i ∙ sym (add-suc k i)) ∙ same (suc i)) s
    ∙ ap (λ n. after block n s) (suc-add k (length bs) ∙ sym (add-suc k (length bs)))

pub restored-after : (bs : List (List ℕ)) (s : List ℕ) → restored 0 bs s ≡ after (block_at bs) (length bs) s
unfolding after
restored-after bs s =
    let e : 0 + length bs ≡ length bs = omega arith in
    restored-from (block_at bs) bs 0 (λ i. (let e : 0 + i ≡ i = omega arith in ap (block_at bs) e)) s ∙ ap (λ n. after (block_at bs) n s) e

-- ---- filling
pub fill-below : (f g : ℕ → List ℕ) (n : ℕ) → ((k : ℕ) → k < n → f k ≡ g k) → (ks s : List ℕ) → numbers_below n ks s ≡ true → fill f ks s ≡ fill g ks s
unfolding fill numbers_below
fill-below f g n same ks [] e = refl
fill-below f g n same ks (b ∷ s) e = go (is_mark b) (ltb (first ks) n) refl (fill-below f g n same (rest_numbers ks) s) (fill-below f g n same ks s) e
  where
    go : (m t : Bool) → ltb (first ks) n ≡ t
        → (numbers_below n (rest_numbers ks) s ≡ true → fill f (rest_numbers ks) s ≡ fill g (rest_numbers ks) s)
        → (numbers_below n ks s ≡ true → fill f ks s ≡ fill g ks s)
        → cond m (t && numbers_below n (rest_numbers ks) s) (numbers_below n ks s) ≡ true
        → cond m (f (first ks) ++ fill f (rest_numbers ks) s) (b ∷ fill f ks s) ≡ cond m (g (first ks) ++ fill g (rest_numbers ks) s) (b ∷ fill g ks s)
    go true true q more other e = ap₂ (λ x y. x ++ y) (same (first ks) (ltb-true (first ks) n q)) (more e)
    go true false q more other e = absurd (false≢true e)
    go false t q more other e = ap (λ l. b ∷ l) (other e)

fill-same : (f g : ℕ → List ℕ) → ((k : ℕ) → f k ≡ g k) → (ks s : List ℕ) → fill f ks s ≡ fill g ks s
unfolding fill
fill-same f g same ks [] = refl
fill-same f g same ks (b ∷ s) =
    ap₂ (λ x y. cond (is_mark b) x y) (ap₂ (λ x y. x ++ y) (same (first ks)) (fill-same f g same (rest_numbers ks) s)) (ap (λ l. b ∷ l) (fill-same f g same ks s))

unmarked-append : (x s : List ℕ) → TextMarkFree x → marked s ≡ false → marked (x ++ s) ≡ false
unfolding TextMarkFree
unmarked-append [] s h e = e
unmarked-append (b ∷ x) s h e = rw h.0 (unmarked-append x s h.1 e)

filled-unmarked : (block : ℕ → List ℕ) (n : ℕ) → ((k : ℕ) → k < n → TextMarkFree (block k)) → (ks s : List ℕ) → numbers_below n ks s ≡ true → marked (fill block ks s) ≡ false
unfolding fill numbers_below
filled-unmarked block n free ks [] e = refl
filled-unmarked block n free ks (b ∷ s) e = go (is_mark b) refl (ltb (first ks) n) refl (filled-unmarked block n free (rest_numbers ks) s) (filled-unmarked block n free ks s) e
  where
    go : (m : Bool) → is_mark b ≡ m → (t : Bool) → ltb (first ks) n ≡ t
        → (numbers_below n (rest_numbers ks) s ≡ true → marked (fill block (rest_numbers ks) s) ≡ false)
        → (numbers_below n ks s ≡ true → marked (fill block ks s) ≡ false)
        → cond m (t && numbers_below n (rest_numbers ks) s) (numbers_below n ks s) ≡ true
        → marked (cond m (block (first ks) ++ fill block (rest_numbers ks) s) (b ∷ fill block ks s)) ≡ false
    go true p true q more other e = unmarked-append (block (first ks)) (fill block (rest_numbers ks) s) (free (first ks) (ltb-true (first ks) n q)) (more e)
    go true p false q more other e = absurd (false≢true e)
    go false p t q more other e = rw (not-text-mark b p) (other e)

remains-filled : (i k : ℕ) (f : ℕ → List ℕ) → ((s : List ℕ) → Remains i (f k ++ s)) → (ks s : List ℕ) → occurs k ks s ≡ true → Remains i (fill f ks s)
unfolding fill occurs
remains-filled i k f r ks [] e = absurd (false≢true e)
remains-filled i k f r ks (b ∷ s) e = go (is_mark b) (eqb (first ks) k) refl (remains-filled i k f r (rest_numbers ks) s) (remains-filled i k f r ks s) e
  where
    go : (m t : Bool) → eqb (first ks) k ≡ t
        → (occurs k (rest_numbers ks) s ≡ true → Remains i (fill f (rest_numbers ks) s)) → (occurs k ks s ≡ true → Remains i (fill f ks s))
        → cond m (t || occurs k (rest_numbers ks) s) (occurs k ks s) ≡ true
        → Remains i (cond m (f (first ks) ++ fill f (rest_numbers ks) s) (b ∷ fill f ks s))
    go true true q more other e = rw (eqb-true (first ks) k q) (r (fill f (rest_numbers ks) s))
    go true false q more other e = remains-behind (f (first ks)) (more e)
    go false t q more other e = remains-behind (b ∷ []) (other e)

-- ---- all rounds
-- what is asked of block k where it holds a mark: the mark is that of an earlier block, and block k has a mark of its own in the text
pub record Nested (block : ℕ → List ℕ) (ks s : List ℕ) (k : ℕ) : Type 0 where
  pub earlier : (u : List ℕ) → Remains (suc k) (block k ++ u)
  pub outer : occurs k ks s ≡ true

-- after n rounds: all is well so far, or the text is broken, or a mark remains
data Rounds (nested lost : Bool) (n : ℕ) (out next : List ℕ) : Type 0 where
  well : nested ≡ false → lost ≡ false → out ≡ next → Rounds nested lost n out next
  broken-off : lost ≡ true → broken false out ≡ true → Rounds nested lost n out next
  stuck : nested ≡ true → Remains n out → Rounds nested lost n out next

pub record SameUnlessLost (lost : Bool) (out own : List ℕ) : Type 0 where
  pub remains : marked out ≡ lost
  pub same : lost ≡ false → out ≡ own

module _ (block : ℕ → List ℕ) (good : (k : ℕ) → Good (block k)) (ks s : List ℕ) (nested : (k : ℕ) → has_mark (block k) ≡ true → Nested block ks s k) where
  abbrev rounded : ℕ → List ℕ
  rounded n = after block n (fill placeholder ks s)

  next-round :
      (n : ℕ) → Rounds (nested_below block n) (lost_below n ks s) n (rounded n) (fill (put_back_up_to block n) ks s)
      → Rounds (nested_below block n || has_mark (block n)) (lost_below n ks s || lost_at n ks s) (suc n) (put_block n (block n) (rounded n)) (fill (put_back_up_to block (suc n)) ks s)
  next-round n (stuck e r) = stuck (ap (λ t. t || has_mark (block n)) e) (remains-put n (block n) (good n).begins r)
  next-round n (broken-off e h) = broken-off (ap (λ t. t || lost_at n ks s) e) (broken-put n (block n) (good n).even (rounded n) false h)
  next-round n (well e l same) =
      rw (same, l, e) (go (has_mark (block n)) refl (round block good n (free-below block n e) s ks))
    where
      go : (m : Bool) → has_mark (block n) ≡ m
          → RoundResult (lost_at n ks s) (put_block n (block n) (fill (put_back_up_to block n) ks s)) (fill (put_back_up_to block (suc n)) ks s)
          → Rounds (has_mark (block n)) (lost_at n ks s) (suc n) (put_block n (block n) (fill (put_back_up_to block n) ks s)) (fill (put_back_up_to block (suc n)) ks s)
      go m p (broke e h) = broken-off e h
      go true p (whole e h) =
          let here = nested n p in
          let e' : put_back_up_to block (suc n) n ≡ block n = rw (lt-ltb n (suc n) (omega arith)) in
          stuck p
          (rw h (remains-filled (suc n) n (put_back_up_to block (suc n)) (λ u. subst (λ x. Remains (suc n) (x ++ u)) (sym e') (here.earlier u)) ks s here.outer))
      go false p (whole e h) = well p e h

  rounds : (n : ℕ) → Rounds (nested_below block n) (lost_below n ks s) n (rounded n) (fill (put_back_up_to block n) ks s)
  unfolding nested_below lost_below after
  rounds zero = well refl refl (fill-same placeholder (put_back_up_to block 0) (λ k. rw (le-ltb k 0 (omega arith))) ks s)
  rounds (suc n) = next-round n (rounds n)

  pub agree : (n : ℕ) → numbers_below n ks s ≡ true → SameUnlessLost (nested_below block n || lost_below n ks s) (after block n (fill placeholder ks s)) (fill block ks s)
  agree n below = go (rounds n)
    where
      go : Rounds (nested_below block n) (lost_below n ks s) n (rounded n) (fill (put_back_up_to block n) ks s)
          → SameUnlessLost (nested_below block n || lost_below n ks s) (after block n (fill placeholder ks s)) (fill block ks s)
      go (well e l h) =
          let own = h ∙ fill-below (put_back_up_to block n) block n (λ k less. rw (lt-ltb k n less)) ks s below in
          record { remains = ap marked own ∙ filled-unmarked block n (free-below block n e) ks s below ∙ (rw (e, l)); same = λ _. own }
      go (broken-off e h) =
          let all = or_right (nested_below block n) (lost_below n ks s) e in
          record { remains = broken-marked _ h ∙ sym all; same = λ q. absurd (true≢false (sym all ∙ q)) }
      go (stuck e r) =
          let all : nested_below block n || lost_below n ks s ≡ true = rw e in
          record { remains = remains-marked r ∙ sym all; same = λ q. absurd (true≢false (sym all ∙ q)) }
