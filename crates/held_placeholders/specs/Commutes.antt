-- A rewriting between marks does to the numbered text what it does to the marked one. A placeholder begins and ends with a mark, so a rule never sees
-- its digits beside a typed symbol; and no name begins with a digit. Assumes nothing.
--     Like             a symbol, or a mark and the mark of a placeholder
--     sweep-fill       with placeholders of any numbers
--     numbered-sweep, romans-sweep    with those of the definitions
use Rattle.std.specs.Prelude.{◌≡◌, Bool, ◌&&◌, ◌||◌, ◌⊎◌, eqb}
use Rattle.std.proofs.Math.Path.{refl, sym, ap}
use Rattle.std.proofs.Common.{ap₂, ◌∙◌, inl, inr, not-suc-le-zero, arith, length-append}
use Rattle.std.proofs.Math.Bool.{true, false, cond, false≢true}
use mathlib.Core.List.{List, [], ◌∷◌, ◌++◌}
use Prim.Native.Nat.{ℕ, zero, suc, pred, ◌≤◌}
use Rattle.std.proofs.Math.ListN.{length, drop}
use Rattle.std.proofs.Math.Seq.{drop-append_seam}
use borrow.Author.Tests.{ne_eqb, eqb-true, eqb-false, le-leb}
use Rattle.spec.specs.Symbols.{digit, head, starts, text_mark, roman_mark}
use Rattle.spec.specs.Sweep.{Turn, Rule, kept, taken, sweep}
use Rattle.spec.specs.Laws.Booleans.{or-neither}
use Rattle.spec.specs.Laws.Symbols.{starts-split, starts-unequal}
use Rattle.held_placeholders.specs.Numbered.{placeholder}
use Rattle.held_placeholders.specs.Decimal.{decimal, Digits, decimal-digits}
use Rattle.held_laws.specs.Marks.{is_mark, has_mark}
use Rattle.held_placeholders.specs.Fill.{first, rest_numbers, fill}
use Rattle.held_laws.specs.Rewriting.{Between}
use Rattle.held_placeholders.specs.Finding.{Lacks}

-- ---- sweeps
-- the symbol before what stands behind u
abbrev last_of : ℕ → List ℕ → ℕ
last_of b [] = b
last_of b (x ∷ u) = last_of x u

last_more : (u : List ℕ) (b c : ℕ) → last_of b (u ++ (c ∷ [])) ≡ c
last_more [] b c = refl
last_more (x ∷ u) b c = last_more u x c

sweep-skip : (rule : Rule) (u z : List ℕ) (b : ℕ) → sweep rule b (length u) (u ++ z) ≡ sweep rule (last_of b u) 0 z
unfolding sweep
sweep-skip rule [] z b = refl
sweep-skip rule (x ∷ u) z b = sweep-skip rule u z x

sweep-turn : (rule : Rule) (b x : ℕ) (s : List ℕ) (turn : Turn) → rule b (x ∷ s) ≡ turn → sweep rule b 0 (x ∷ s) ≡ turn.fresh ++ sweep rule x turn.more s
unfolding sweep
sweep-turn rule b x s turn e = ap (λ t. t.fresh ++ sweep rule x t.more s) e

-- ---- symbols that rules don't tell apart
abbrev pub Like : ℕ → ℕ → Type 0
Like b c = (b ≡ c) ⊎ ((is_mark b ≡ true) × (c ≡ text_mark))

like-same : {A : Type 0} (f : ℕ → A) → f roman_mark ≡ f text_mark → {b c : ℕ} → Like b c → f b ≡ f c
like-same f e (inl q) = ap f q
like-same {A} f e {b} {c} (inr q) = go (eqb b text_mark) refl q.0 ∙ ap f (sym q.1)
  where
    go : (t : Bool) → eqb b text_mark ≡ t → t || eqb b roman_mark ≡ true → f b ≡ f text_mark
    go true p m = ap f (eqb-true b text_mark p)
    go false p m = ap f (eqb-true b roman_mark m) ∙ e

-- ---- texts with placeholders
head-like : (ks s : List ℕ) → Like (head s) (head (fill placeholder ks s))
unfolding fill placeholder
head-like ks [] = inl refl
head-like ks (b ∷ s) = go (is_mark b) refl
  where
    go : (m : Bool) → is_mark b ≡ m → Like b (head (cond m (placeholder (first ks) ++ fill placeholder (rest_numbers ks) s) (b ∷ fill placeholder ks s)))
    go true e = inr (e, refl)
    go false e = inl refl

fill-starts : (w s ks : List ℕ) → has_mark w ≡ false → starts w (fill placeholder ks s) ≡ starts w s
unfolding fill placeholder
fill-starts [] s ks free = refl
fill-starts (q ∷ w) [] ks free = refl
fill-starts (q ∷ w) (b ∷ s) ks free = go (is_mark b) refl (fill-starts w s ks both.1)
  where
    both : (is_mark q ≡ false) × (has_mark w ≡ false)
    both = or-neither (is_mark q) (has_mark w) free

    -- the name's symbol is no mark
    other : (c : ℕ) → is_mark c ≡ true → eqb c q ≡ false
    other c m = ne_eqb c q (λ e. false≢true (sym both.0 ∙ ap is_mark (sym e) ∙ m))

    go : (m : Bool) → is_mark b ≡ m → starts w (fill placeholder ks s) ≡ starts w s
        → starts (q ∷ w) (cond m (placeholder (first ks) ++ fill placeholder (rest_numbers ks) s) (b ∷ fill placeholder ks s)) ≡ starts w s && eqb b q
    go true e more = starts-unequal q text_mark w _ (other text_mark refl) ∙ sym (starts-unequal q b w s (other b e))
    go false e more = ap (λ t. t && eqb b q) more

fill-over : (w s ks : List ℕ) → has_mark w ≡ false → fill placeholder ks (w ++ s) ≡ w ++ fill placeholder ks s
unfolding fill
fill-over [] s ks free = refl
fill-over (b ∷ w) s ks free = let both = or-neither (is_mark b) (has_mark w) free in rw both.0 (ap (λ l. b ∷ l) (fill-over w s ks both.1))

-- a symbol that is neither mark nor digit is in no placeholder
lacks-digits : (c : ℕ) → digit c ≡ false → is_mark c ≡ false → (ds : List ℕ) → Digits ds → Lacks c (ds ++ (text_mark ∷ []))
unfolding Lacks Digits
lacks-digits c d m [] h = ((or-neither (eqb c text_mark) (eqb c roman_mark) m).0, tt)
lacks-digits c d m (x ∷ ds) h = (
  ne_eqb c x (λ e. false≢true (sym d ∙ ap digit e ∙ ap₂ (λ a b. a && b) (le-leb 48 x h.0.low) (le-leb x 57 h.0.high))),
  lacks-digits c d m ds h.1,
)

lacks-placeholder : (c : ℕ) → digit c ≡ false → is_mark c ≡ false → (k : ℕ) → Lacks c (placeholder k)
unfolding Lacks placeholder
lacks-placeholder c d m k = ((or-neither (eqb c text_mark) (eqb c roman_mark) m).0, lacks-digits c d m (decimal k) (decimal-digits k))

last-placeholder : (b k : ℕ) → last_of b (placeholder k) ≡ text_mark
unfolding placeholder
last-placeholder b k = last_more (decimal k) text_mark text_mark

-- ---- one rule
module _ {rule : Rule} (between : Between rule) where
  abbrev name : List ℕ
  name = between.name

  abbrev start : ℕ
  start = between.a-name.start

  abbrev more : List ℕ
  more = between.a-name.more

  start-free : is_mark start ≡ false
  start-free = (or-neither (is_mark start) (has_mark more) (sym (ap has_mark between.a-name.split) ∙ between.a-name.mark-free)).0

  -- the turn where the name stands or doesn't, and is allowed or not
  turn_is : (b : ℕ) (s : List ℕ) (t a : Bool) → starts name s ≡ t → between.allowed b (head (drop (length name) s)) ≡ a
      → rule b s ≡ cond (t && a) (taken (length name) (between.fresh b (head (drop (length name) s)))) (kept s)
  turn_is b s t a e f = between.same b s ∙ ap₂ (λ t a. cond (t && a) (taken (length name) (between.fresh b (head (drop (length name) s)))) (kept s)) e f

  keeps : (b x : ℕ) (s : List ℕ) → starts name (x ∷ s) ≡ false → sweep rule b 0 (x ∷ s) ≡ x ∷ sweep rule x 0 s
  keeps b x s e = sweep-turn rule b x s (kept (x ∷ s)) (turn_is b (x ∷ s) false _ e refl)

  -- symbols with which the name doesn't begin are copied
  keeps-over : (u z : List ℕ) (b : ℕ) → Lacks start u → sweep rule b 0 (u ++ z) ≡ u ++ sweep rule (last_of b u) 0 z
  unfolding Lacks
  keeps-over [] z b h = refl
  keeps-over (x ∷ u) z b h =
      keeps b x (u ++ z) (ap (λ w. starts w (x ∷ (u ++ z))) between.a-name.split ∙ starts-unequal start x more (u ++ z) (ne_eqb x start (λ e. eqb-false start x h.0 (sym e))))
      ∙ ap (λ l. x ∷ l) (keeps-over u z x h.1)

  keeps-placeholder : (k : ℕ) (z : List ℕ) (b : ℕ) → sweep rule b 0 (placeholder k ++ z) ≡ placeholder k ++ sweep rule text_mark 0 z
  keeps-placeholder k z b =
      keeps-over (placeholder k) z b (lacks-placeholder start between.a-name.no_digit start-free k)
      ∙ ap (λ c. placeholder k ++ sweep rule c 0 z) (last-placeholder b k)

  -- the name is taken as a whole
  takes : (z : List ℕ) (b : ℕ) → starts name (name ++ z) ≡ true → between.allowed b (head z) ≡ true
      → sweep rule b 0 (name ++ z) ≡ between.fresh b (head z) ++ sweep rule (last_of start more) 0 z
  takes z b met a =
      let split = between.a-name.split in
      let behind = drop-append_seam name z in
      let long : pred (length name) ≡ length more = (let e = ap length split in omega arith) in
      let turn : rule b (name ++ z) ≡ taken (length name) (between.fresh b (head z)) =
      turn_is b (name ++ z) true true met (ap (λ l. between.allowed b (head l)) behind ∙ a) ∙ ap (λ l. taken (length name) (between.fresh b (head l))) behind in
      ap (λ w. sweep rule b 0 (w ++ z)) split
      ∙ sweep-turn rule b start (more ++ z) (taken (length name) (between.fresh b (head z))) (ap (λ w. rule b (w ++ z)) (sym split) ∙ turn)
      ∙ ap (λ n. between.fresh b (head z) ++ sweep rule start n (more ++ z)) long
      ∙ ap (λ l. between.fresh b (head z) ++ l) (sweep-skip rule more z start)

  refuses : (z : List ℕ) (b : ℕ) → starts name (name ++ z) ≡ true → between.allowed b (head z) ≡ false
      → sweep rule b 0 (name ++ z) ≡ start ∷ sweep rule start 0 (more ++ z)
  refuses z b met a =
      let split = between.a-name.split in
      ap (λ w. sweep rule b 0 (w ++ z)) split
      ∙ sweep-turn rule b start (more ++ z) (kept (start ∷ (more ++ z)))
      (ap (λ w. rule b (w ++ z)) (sym split)
      ∙ turn_is b (name ++ z) true false met (ap (λ l. between.allowed b (head l)) (drop-append_seam name z) ∙ a)
      ∙ ap (λ w. kept (w ++ z)) split)

  -- ---- both texts at once
  abbrev Claim : ℕ → Type 0
  Claim n = (s : List ℕ) → length s ≤ n → (b c : ℕ) (ks : List ℕ) → Like b c → fill placeholder ks (sweep rule b 0 s) ≡ sweep rule c 0 (fill placeholder ks s)

  -- a symbol that is copied in both
  both-keep : (n : ℕ) → Claim n → (x : ℕ) (s : List ℕ) → length s ≤ n → is_mark x ≡ false → (b c : ℕ) (ks : List ℕ)
      → sweep rule b 0 (x ∷ s) ≡ x ∷ sweep rule x 0 s → sweep rule c 0 (x ∷ fill placeholder ks s) ≡ x ∷ sweep rule x 0 (fill placeholder ks s)
      → fill placeholder ks (sweep rule b 0 (x ∷ s)) ≡ sweep rule c 0 (fill placeholder ks (x ∷ s))
  unfolding fill
  both-keep n claim x s h m b c ks e f =
      ap (fill placeholder ks) e
      ∙ ap (λ t. cond t (placeholder (first ks) ++ fill placeholder (rest_numbers ks) (sweep rule x 0 s)) (x ∷ fill placeholder ks (sweep rule x 0 s))) m
      ∙ ap (λ l. x ∷ l) (claim s h x x ks (inl refl))
      ∙ sym f
      ∙ sym (ap (λ t. sweep rule c 0 (cond t (placeholder (first ks) ++ fill placeholder (rest_numbers ks) s) (x ∷ fill placeholder ks s))) m)

  at_mark : (n : ℕ) → Claim n → (x : ℕ) (s : List ℕ) → length s ≤ n → is_mark x ≡ true → (b c : ℕ) (ks : List ℕ) → fill placeholder ks (sweep rule b 0 (x ∷ s)) ≡ sweep rule c 0 (fill placeholder ks (x ∷ s))
  unfolding fill
  at_mark n claim x s h m b c ks =
      let k = first ks in
      ap (fill placeholder ks)
      (keeps b x s (ap (λ w. starts w (x ∷ s)) between.a-name.split ∙ starts-unequal start x more s (ne_eqb x start (λ e. false≢true (sym start-free ∙ ap is_mark (sym e) ∙ m)))))
      ∙ ap (λ t. cond t (placeholder k ++ fill placeholder (rest_numbers ks) (sweep rule x 0 s)) (x ∷ fill placeholder ks (sweep rule x 0 s))) m
      ∙ ap (λ l. placeholder k ++ l) (claim s h x text_mark (rest_numbers ks) (inr (m, refl)))
      ∙ sym (keeps-placeholder k (fill placeholder (rest_numbers ks) s) c)
      ∙ sym (ap (λ t. sweep rule c 0 (cond t (placeholder k ++ fill placeholder (rest_numbers ks) s) (x ∷ fill placeholder ks s))) m)

  at_name : (n : ℕ) → Claim n → (z : List ℕ) → length (more ++ z) ≤ n → starts name (name ++ z) ≡ true → (b c : ℕ) (ks : List ℕ) → Like b c
      → fill placeholder ks (sweep rule b 0 (name ++ z)) ≡ sweep rule c 0 (fill placeholder ks (name ++ z))
  at_name n claim z h met b c ks like = go (between.allowed b (head z)) refl
    where
      over : fill placeholder ks (name ++ z) ≡ name ++ fill placeholder ks z
      over = fill-over name z ks between.a-name.mark-free

      met' : starts name (name ++ fill placeholder ks z) ≡ true
      met' = ap (starts name) (sym over) ∙ fill-starts name (name ++ z) ks between.a-name.mark-free ∙ met

      allowed_same : between.allowed b (head z) ≡ between.allowed c (head (fill placeholder ks z))
      allowed_same = like-same (λ b. between.allowed b (head z)) (between.allowed-before (head z)) like ∙ like-same (between.allowed c) (between.allowed-behind c) (head-like ks z)

      fresh-same : between.fresh b (head z) ≡ between.fresh c (head (fill placeholder ks z))
      fresh-same = like-same (λ b. between.fresh b (head z)) (between.fresh-before (head z)) like ∙ like-same (between.fresh c) (between.fresh-behind c) (head-like ks z)

      go : (a : Bool) → between.allowed b (head z) ≡ a → fill placeholder ks (sweep rule b 0 (name ++ z)) ≡ sweep rule c 0 (fill placeholder ks (name ++ z))
      go true a =
          let l = length-append more z in
          let last = last_of start more in
          ap (fill placeholder ks) (takes z b met a)
          ∙ fill-over (between.fresh b (head z)) (sweep rule last 0 z) ks (between.plain b (head z))
          ∙ ap₂ (λ x y. x ++ y) fresh-same (claim z (omega arith) last last ks (inl refl))
          ∙ sym (takes (fill placeholder ks z) c met' (sym allowed_same ∙ a))
          ∙ sym (ap (sweep rule c 0) over)
      go false a =
          let split = between.a-name.split in
          let more-free = (or-neither (is_mark start) (has_mark more) (sym (ap has_mark split) ∙ between.a-name.mark-free)).1 in
          let under : start ∷ fill placeholder ks (more ++ z) ≡ name ++ fill placeholder ks z =
          ap (λ l. start ∷ l) (fill-over more z ks more-free) ∙ ap (λ w. w ++ fill placeholder ks z) (sym split) in
          ap (λ w. fill placeholder ks (sweep rule b 0 (w ++ z))) split
          ∙ both-keep n claim start (more ++ z) h start-free b c ks
          (ap (λ w. sweep rule b 0 (w ++ z)) (sym split) ∙ refuses z b met a)
          (ap (sweep rule c 0) under ∙ refuses (fill placeholder ks z) c met' (sym allowed_same ∙ a) ∙ ap (λ l. start ∷ sweep rule start 0 l) (sym (fill-over more z ks more-free)))
          ∙ ap (λ w. sweep rule c 0 (fill placeholder ks (w ++ z))) (sym split)

  claim-all : (n : ℕ) → Claim n
  unfolding sweep fill
  claim-all zero [] h b c ks like = refl
  claim-all zero (x ∷ s) h b c ks like = absurd (not-suc-le-zero h)
  claim-all (suc n) [] h b c ks like = refl
  claim-all (suc n) (x ∷ s) h b c ks like = go (is_mark x) refl (starts name (x ∷ s)) refl (λ s h b c ks like. claim-all n s h b c ks like)
    where
      go : (m : Bool) → is_mark x ≡ m → (t : Bool) → starts name (x ∷ s) ≡ t → Claim n → fill placeholder ks (sweep rule b 0 (x ∷ s)) ≡ sweep rule c 0 (fill placeholder ks (x ∷ s))
      go true m t e claim = at_mark n claim x s (omega arith) m b c ks
      go false m false e claim =
          let here : fill placeholder ks (x ∷ s) ≡ x ∷ fill placeholder ks s = ap (λ t. cond t (placeholder (first ks) ++ fill placeholder (rest_numbers ks) s) (x ∷ fill placeholder ks s)) m in
          both-keep n claim x s (omega arith) m b c ks (keeps b x s e)
          (keeps c x (fill placeholder ks s) (ap (starts name) (sym here) ∙ fill-starts name (x ∷ s) ks between.a-name.mark-free ∙ e))
      go false m true e claim =
          let z = drop (length name) (x ∷ s) in
          let split = starts-split name (x ∷ s) e in
          let l = ap length split in
          let l' = ap (λ w. length (w ++ z)) between.a-name.split in
          ap (λ l. fill placeholder ks (sweep rule b 0 l)) split
          ∙ at_name n claim z (omega arith) (ap (starts name) (sym split) ∙ e) b c ks like
          ∙ ap (λ l. sweep rule c 0 (fill placeholder ks l)) (sym split)

  pub sweep-fill : (s ks : List ℕ) → fill placeholder ks (sweep rule 0 0 s) ≡ sweep rule 0 0 (fill placeholder ks s)
  sweep-fill s ks = claim-all (length s) s (omega arith) 0 0 ks (inl refl)
