-- Words: the Rust's turns for `\mathrm` blocks, in a text in which `\text` blocks have given way to placeholders. Assumes nothing.
--     roman-turns    they give the numbered text and the numbered blocks of one pass
use Rattle.std.specs.Prelude.{◌≡◌, Bool, true, false, List, [], ◌∷◌, ◌++◌, eqb, drop}
use Rattle.std.proofs.Math.Path.{refl, ap, ap₂}
use Rattle.std.proofs.Common.{sym, ◌∙◌, subst, append_assoc, append-nil, eqb-true}
use Rattle.std.proofs.Math.Bool.{cond}
use Rattle.std.proofs.Math.Option.{none, some}
use Prim.Native.Nat.{ℕ, suc, ◌+◌, ◌<◌}
use Rattle.std.proofs.Math.Numerals.{add-one}
use native.Mathlib.Omega.{arith}
use Rattle.std.proofs.Math.ListN.{length, length-append}
use Rattle.spec.specs.Symbols.{bytes, starts, find, text_mark, roman_mark}
use Rattle.spec.specs.Closing.{find_matching_brace}
use Rattle.spec.specs.Laws.Symbols.{starts-long, starts-split}
use Rattle.spec.specs.Held.{Taken, leaving, taking, marks}
use Rattle.held_laws.specs.Marks.{count}
use Rattle.held_laws.specs.WellMade.{count-append, marks-count}
use Rattle.held_laws.specs.InFull.{returned}
use Rattle.held_laws.specs.TakeOut.{Turns, ended, unclosed, passing, holding}
use Rattle.held_placeholders.specs.Numbered.{placeholder, numbered, numbered_romans, romans-none}
use Rattle.held_placeholders.specs.Placeholders.{both_names, PlaceholderText, placed, first_block, or_next, first_block_of, held_one}
use Rattle.held_placeholders.specs.Finding.{Lacks, AbsentBefore, absent-before-more, passed-placeholder}
use Rattle.held_placeholders.proofs.OneName.{block-missing, block-unclosed, block-found, Reaches, reaches-now, reaches-one}
use Rattle.held_placeholders.specs.Numbers.{numbered_from, number_append, number-starts, number_behind, number-unclosed, number-closed, numbered-plain, romans-plain, romans-text, numbered-texts}
use Rattle.held_placeholders.proofs.Stuck.{stuck, stuck-none, stuck-over}

abbrev name : List ℕ
name = bytes "\\mathrm{"

lacks : Lacks text_mark name
unfolding Lacks
lacks = (refl, (refl, (refl, (refl, (refl, (refl, (refl, (refl, tt))))))))

-- the Rust's state: x has been passed, and s is still to be looked through
abbrev before : List ℕ → ℕ → List ℕ → List (List ℕ) → PlaceholderText
before x t s bs = placed (x ++ numbered_from t s) bs

abbrev after : List ℕ → ℕ → Taken → List (List ℕ) → PlaceholderText
after x t taken bs = placed (x ++ numbered taken.blocks t (length bs) taken.left) (bs ++ numbered_romans taken.blocks t taken.left)

pub record BothHeldOut (x : List ℕ) (t : ℕ) (s : List ℕ) (bs : List (List ℕ)) (taken : Taken) : Type 0 where
  pub reaches : Reaches both_names (length taken.blocks) (before x t s bs) (after x t taken bs)
  pub none_left : first_block_of both_names (after x t taken bs).text ≡ none

-- neither name has a block that closes
none_both : (text : List ℕ) → stuck text ≡ true → first_block name text ≡ none → first_block_of both_names text ≡ none
none_both text e f = ap₂ (λ a b. or_next a (or_next b none)) (stuck-none text e) f

-- nothing has been held out of s
held-nothing : (x : List ℕ) (t : ℕ) (s : List ℕ) (bs : List (List ℕ)) → count roman_mark s ≡ 0 → stuck (x ++ numbered_from t s) ≡ true → first_block name (x ++ numbered_from t s) ≡ none
    → BothHeldOut x t s bs (record { left = s; blocks = [] })
held-nothing x t s bs free e f =
    let same = numbered-texts s t (length bs) free in
    let text = ap (λ l. x ++ l) (sym same) in
    record {
      reaches =
          subst (Reaches both_names 0 (before x t s bs)) (ap₂ placed text (sym (append-nil bs) ∙ ap (λ l. bs ++ l) (sym (romans-none t s))))
          (reaches-now both_names (before x t s bs));
      none_left = ap (first_block_of both_names) (sym text) ∙ none_both (x ++ numbered_from t s) e f;
    }

-- the same states, written another way
held_same :
    {x x' : List ℕ} {t t' : ℕ} {s s' : List ℕ} {bs : List (List ℕ)} {taken taken' : Taken} → taken'.blocks ≡ taken.blocks
    → x' ++ numbered_from t' s' ≡ x ++ numbered_from t s
    → after x' t' taken' bs ≡ after x t taken bs
    → BothHeldOut x' t' s' bs taken' → BothHeldOut x t s bs taken
held_same {x} {x'} {t} {t'} {s} {s'} {bs} {taken} {taken'} many text same held =
    record {
      reaches =
          subst (λ p. Reaches both_names (length taken.blocks) p (after x t taken bs)) (ap (λ l. placed l bs) text)
          (subst (λ (cs : List (List ℕ)). Reaches both_names (length cs) (before x' t' s' bs) (after x t taken bs)) many
          (subst (Reaches both_names (length taken'.blocks) (before x' t' s' bs)) same held.reaches));
      none_left = ap (λ p. first_block_of both_names p.text) (sym same) ∙ held.none_left;
    }

-- ---- where the name stands
module _ (s : List ℕ) (t : ℕ) (met : starts name s ≡ true) where
  met-numbered : starts name (numbered_from t s) ≡ true
  met-numbered = number-starts name s t lacks ∙ met

  long-numbered : 0 < length (numbered_from t s)
  long-numbered = let l = starts-long name (numbered_from t s) met-numbered in omega arith

  unclosed-numbered : (x : List ℕ) → AbsentBefore name x (numbered_from t s) → find_matching_brace (drop (length name) s) ≡ none → first_block name (x ++ numbered_from t s) ≡ none
  unclosed-numbered x passed f =
      block-unclosed name x (numbered_from t s) passed long-numbered met-numbered (ap find_matching_brace (number_behind name s t lacks met) ∙ number-unclosed (drop (length name) s) t 0 f)

-- a block that closes, in the numbered text
module _ (b behind : List ℕ) (t : ℕ) (met : starts name (b ++ behind) ≡ true) (f : find_matching_brace (drop (length name) (b ++ behind)) ≡ some behind) where
  abbrev next-number : ℕ
  next-number = t + count text_mark b

  found-numbered : find_matching_brace (drop (length name) (numbered_from t (b ++ behind))) ≡ some (numbered_from next-number behind)
  unfolding count
  found-numbered =
      let c = number-closed (drop (length name) (b ++ behind)) t 0 behind f in
      let whole = ap (count text_mark) (starts-split name (b ++ behind) met ∙ ap (λ l. name ++ l) c.split) in
      let x = count-append text_mark b behind in
      let y = count-append text_mark name (c.front ++ behind) in
      let z = count-append text_mark c.front behind in
      let same : t + count text_mark c.front ≡ next-number = omega arith in
      ap find_matching_brace (number_behind name (b ++ behind) t lacks met) ∙ c.found ∙ ap (λ n. some (numbered_from n behind)) same

  split-numbered : numbered_from t (b ++ behind) ≡ numbered_from t b ++ numbered_from next-number behind
  split-numbered = number_append b behind t

  -- one turn holds it out
  one-turn : (x : List ℕ) (bs : List (List ℕ)) → AbsentBefore name x (numbered_from t (b ++ behind)) → stuck (x ++ numbered_from t (b ++ behind)) ≡ true
      → held_one (before x t (b ++ behind) bs) (first_block_of both_names (before x t (b ++ behind) bs).text) ≡ placed ((x ++ placeholder (length bs)) ++ numbered_from next-number behind) (bs ++ (numbered_from t b ∷ []))
  one-turn x bs passed e =
      ap₂ (λ u v. held_one (before x t (b ++ behind) bs) (or_next u (or_next v none))) (stuck-none (x ++ numbered_from t (b ++ behind)) e)
      (block-found name x (numbered_from t (b ++ behind)) passed (long-numbered (b ++ behind) t met) (met-numbered (b ++ behind) t met) (numbered_from t b) (numbered_from next-number behind) split-numbered found-numbered)

  stuck-on : (k : ℕ) (x : List ℕ) → stuck (x ++ numbered_from t (b ++ behind)) ≡ true → stuck ((x ++ placeholder k) ++ numbered_from next-number behind) ≡ true
  stuck-on k x e =
      let v = drop (length name) (numbered_from t (b ++ behind)) in
      ap stuck (append_assoc x (placeholder k) (numbered_from next-number behind))
      ∙ stuck-over k v (numbered_from next-number behind) found-numbered x (ap (λ l. stuck (x ++ l)) (sym (starts-split name (numbered_from t (b ++ behind)) (met-numbered (b ++ behind) t met))) ∙ e)

-- ---- a symbol is passed
module _ (y : ℕ) (s : List ℕ) (taken : Taken) (x : List ℕ) (t : ℕ) (bs : List (List ℕ)) (other : starts name (y ∷ s) ≡ false) where
  pass-mark : eqb y text_mark ≡ true → BothHeldOut (x ++ placeholder t) (suc t) s bs taken → BothHeldOut x t (y ∷ s) bs (leaving y taken)
  unfolding returned numbered
  pass-mark m held =
      held_same refl
      (append_assoc x (placeholder t) (numbered_from (suc t) s) ∙ ap (λ l. x ++ l) (sym (ap (λ u. cond u (placeholder t ++ numbered_from (suc t) s) (y ∷ numbered_from t s)) m)))
      (ap₂ placed
      (append_assoc x (placeholder t) (numbered taken.blocks (suc t) (length bs) taken.left) ∙ ap (λ c. x ++ numbered taken.blocks t (length bs) (c ∷ taken.left)) (sym (eqb-true y text_mark m)))
      (ap (λ l. bs ++ l) (sym (romans-text taken.blocks t taken.left) ∙ ap (λ c. numbered_romans taken.blocks t (c ∷ taken.left)) (sym (eqb-true y text_mark m)))))
      held

  pass-other : eqb y text_mark ≡ false → eqb y roman_mark ≡ false → BothHeldOut (x ++ (y ∷ [])) t s bs taken → BothHeldOut x t (y ∷ s) bs (leaving y taken)
  unfolding returned
  pass-other m n held =
      held_same refl
      (append_assoc x (y ∷ []) (numbered_from t s) ∙ ap (λ l. x ++ l) (sym (ap (λ u. cond u (placeholder t ++ numbered_from (suc t) s) (y ∷ numbered_from t s)) m)))
      (ap₂ placed
      (append_assoc x (y ∷ []) (numbered taken.blocks t (length bs) taken.left) ∙ ap (λ l. x ++ l) (sym (numbered-plain y m n t taken.left taken.blocks (length bs))))
      (ap (λ l. bs ++ l) (sym (romans-plain y m n t taken.left taken.blocks))))
      held

-- ---- a block is held out
module _ (b behind : List ℕ) (taken : Taken) (x : List ℕ) (t : ℕ) (bs : List (List ℕ)) (free : count roman_mark b ≡ 0) where
  pass-block :
      (met : starts name (b ++ behind) ≡ true) → find_matching_brace (drop (length name) (b ++ behind)) ≡ some behind
      → AbsentBefore name x (numbered_from t (b ++ behind)) → stuck (x ++ numbered_from t (b ++ behind)) ≡ true
      → BothHeldOut (x ++ placeholder (length bs)) (t + count text_mark b) behind (bs ++ (numbered_from t b ∷ [])) taken → BothHeldOut x t (b ++ behind) bs (taking roman_mark b taken)
  unfolding numbered numbered_romans
  pass-block met f passed e held =
      let k = length bs in
      let many : length (bs ++ (numbered_from t b ∷ [])) ≡ suc k = length-append bs (numbered_from t b ∷ []) ∙ add-one k in
      let number : t + count text_mark b ≡ t + marks b = ap (λ n. t + n) (sym (marks-count b)) in
      let same : after (x ++ placeholder k) (t + count text_mark b) taken (bs ++ (numbered_from t b ∷ [])) ≡ after x t (taking roman_mark b taken) bs =
      ap₂ placed
      (append_assoc x (placeholder k) _ ∙ ap₂ (λ n j. x ++ (placeholder k ++ numbered taken.blocks n j taken.left)) number many)
      (append_assoc bs (numbered_from t b ∷ []) _ ∙ ap₂ (λ c n. bs ++ (c ∷ numbered_romans taken.blocks n taken.left)) (sym (numbered-texts b t 0 free)) number) in
      record {
        reaches = reaches-one (one-turn b behind t met f x bs passed e) (subst (Reaches both_names (length taken.blocks) (before (x ++ placeholder k) (t + count text_mark b) behind (bs ++ (numbered_from t b ∷ [])))) same held.reaches);
        none_left = ap (λ p. first_block_of both_names p.text) (sym same) ∙ held.none_left;
      }

-- ---- all turns
pub roman-turns :
    {s : List ℕ} {taken : Taken} → Turns name roman_mark s taken → (x : List ℕ) (t : ℕ) (bs : List (List ℕ))
    → AbsentBefore name x (numbered_from t s) → count roman_mark s ≡ 0 → stuck (x ++ numbered_from t s) ≡ true → BothHeldOut x t s bs taken
unfolding returned find count
roman-turns ended x t bs passed free e = held-nothing x t [] bs free e (block-missing name x [] passed refl)
roman-turns (unclosed s met f) x t bs passed free e = held-nothing x t s bs free e (unclosed-numbered s t met x passed f)
roman-turns (passing y s taken other next) x t bs passed free e = go (eqb y text_mark) refl (eqb y roman_mark) refl free (λ x t bs passed free e. roman-turns next x t bs passed free e)
  where
    go : (m : Bool) → eqb y text_mark ≡ m → (n : Bool) → eqb y roman_mark ≡ n → cond n (suc (count roman_mark s)) (count roman_mark s) ≡ 0
        → ((x : List ℕ) (t : ℕ) (bs : List (List ℕ)) → AbsentBefore name x (numbered_from t s) → count roman_mark s ≡ 0 → stuck (x ++ numbered_from t s) ≡ true → BothHeldOut x t s bs taken)
        → BothHeldOut x t (y ∷ s) bs (leaving y taken)
    go m p true q free more = absurd (omega arith)
    go true p false q free more =
        let here : numbered_from t (y ∷ s) ≡ placeholder t ++ numbered_from (suc t) s = ap (λ u. cond u (placeholder t ++ numbered_from (suc t) s) (y ∷ numbered_from t s)) p in
        pass-mark y s taken x t bs other p
        (more (x ++ placeholder t) (suc t) bs (passed-placeholder (bytes "mathrm{") x (numbered_from t (y ∷ s)) (numbered_from (suc t) s) t lacks passed) free
        (ap stuck (append_assoc x (placeholder t) (numbered_from (suc t) s)) ∙ ap (λ l. stuck (x ++ l)) (sym here) ∙ e))
    go false p false q free more =
        let here : numbered_from t (y ∷ s) ≡ y ∷ numbered_from t s = ap (λ u. cond u (placeholder t ++ numbered_from (suc t) s) (y ∷ numbered_from t s)) p in
        pass-other y s taken x t bs other p q
        (more (x ++ (y ∷ [])) t bs
        (absent-before-more name x y (numbered_from t s) (subst (AbsentBefore name x) here passed) (ap (starts name) (sym here) ∙ number-starts name (y ∷ s) t lacks ∙ other))
        free
        (ap stuck (append_assoc x (y ∷ []) (numbered_from t s)) ∙ ap (λ l. stuck (x ++ l)) (sym here) ∙ e))
roman-turns (holding y block behind taken met f next) x t bs passed free e =
    let b = y ∷ block in
    let c = count-append roman_mark b behind in
    let none_here : count roman_mark b ≡ 0 = omega arith in
    let none-behind : count roman_mark behind ≡ 0 = omega arith in
    pass-block b behind taken x t bs none_here met f passed e
    (roman-turns next (x ++ placeholder (length bs)) (t + count text_mark b) (bs ++ (numbered_from t b ∷ []))
    (passed-placeholder (bytes "mathrm{") x (numbered_from t (b ++ behind)) (numbered_from (t + count text_mark b) behind) (length bs) lacks passed)
    none-behind
    (stuck-on b behind t met f (length bs) x e))
