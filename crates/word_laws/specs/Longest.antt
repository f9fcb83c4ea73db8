-- The word under the pointer is the longest run of letters and digits around the place. Assumes nothing.
--     RunAround       letters and digits from a start up to an end, the place among them
--     word-run        the word is such a run, where a letter or a digit stands at the place
--     word-longest    every such run lies within the word
use Rattle.std.specs.Prelude.{◌≡◌, refl, Bool, true, false, List, [], ◌∷◌, ℕ, zero, suc, ◌+◌, ◌-◌, ◌≤◌, ◌<◌, length, get_or, drop}
use Rattle.std.proofs.Common.{sym, ap, ◌∙◌, arith, length-drop, get_or-drop}
use Rattle.std.proofs.Math.Decide.{dec_lt}
use Rattle.spec.specs.Symbols.{alnum, drop_while}
use Rattle.spec.specs.WordAt.{word_start, word_end}
use Rattle.spec.specs.Laws.WordAt.{pointed-inside}
use Rattle.text_symbols.specs.Places.{before, before-step, length_before}
use Rattle.text_symbols.specs.Runs.{drop_while-more, drop_while-stop}

pub record RunAround (formula : List ℕ) (place start end : ℕ) : Type 0 where
  pub from : start ≤ place
  pub past : place < end
  pub within : end ≤ length formula
  pub alike : (i : ℕ) → start ≤ i → i < end → alnum (get_or formula i 0) ≡ true

-- ---- how far a run goes, to either side
module _ (f : ℕ → Bool) where
  left-short : (s : List ℕ) → length (drop_while f s) ≤ length s
  left-short [] = omega arith
  left-short (x ∷ s) = go (f x) (left-short s)
    where
      go : (t : Bool) → length (drop_while f s) ≤ length s → length {A = ℕ} (elim t [ true ↦ drop_while f s | false ↦ x ∷ s ]) ≤ suc (length s)
      go true h = omega arith
      go false h = omega arith

  run-alike : (s : List ℕ) (i : ℕ) → i + length (drop_while f s) < length s → f (get_or s i 0) ≡ true
  run-alike [] i h = absurd (omega arith)
  run-alike (x ∷ s) i h = go (f x) refl i h (run-alike s)
    where
      go : (t : Bool) → f x ≡ t → (i : ℕ) → i + length {A = ℕ} (elim t [ true ↦ drop_while f s | false ↦ x ∷ s ]) < suc (length s)
          → ((j : ℕ) → j + length (drop_while f s) < length s → f (get_or s j 0) ≡ true) → f (get_or (x ∷ s) i 0) ≡ true
      go true e zero h later = e
      go true e (suc j) h later = later j (omega arith)
      go false e i h later = absurd (omega arith)

  run-longest : (s : List ℕ) (k : ℕ) → k ≤ length s → ((i : ℕ) → i < k → f (get_or s i 0) ≡ true) → k + length (drop_while f s) ≤ length s
  run-longest s zero h alike = let l = left-short s in omega arith
  run-longest [] (suc k) h alike = absurd (omega arith)
  run-longest (x ∷ s) (suc k) h alike =
      let more : length (drop_while f (x ∷ s)) ≡ length (drop_while f s) = ap length (drop_while-more f refl (alike 0 (omega arith))) in
      let later = run-longest s k (omega arith) (λ i l. alike (suc i) (omega arith)) in
      omega arith

  module _ (s : List ℕ) where
    before-suc : (n : ℕ) → n < length s → before s (suc n) ≡ get_or s n 0 ∷ before s n
    before-suc n h =
        let e : suc n - 1 ≡ n = omega arith in
        before-step s (suc n) (omega arith) (omega arith) ∙ ap (λ k. get_or s k 0 ∷ before s k) e

    back-alike : (n : ℕ) → n ≤ length s → (i : ℕ) → length (drop_while f (before s n)) ≤ i → i < n → f (get_or s i 0) ≡ true
    back-alike zero within i low high = absurd (omega arith)
    back-alike (suc n) within i low high = go (f (get_or s n 0)) refl (dec_lt i n) (back-alike n)
      where
        step : before s (suc n) ≡ get_or s n 0 ∷ before s n
        step = before-suc n (omega arith)

        go : (t : Bool) → f (get_or s n 0) ≡ t → Dec (i < n)
            → (n ≤ length s → (i : ℕ) → length (drop_while f (before s n)) ≤ i → i < n → f (get_or s i 0) ≡ true) → f (get_or s i 0) ≡ true
        go true e (yes h) later = let more = ap length (drop_while-more f step e) in later (omega arith) i (omega arith) h
        go true e (no h) later = let last : i ≡ n = omega arith in ap (λ k. f (get_or s k 0)) last ∙ e
        go false e d later =
            let all = ap length (drop_while-stop f step e) in let l = length_before s (suc n) within in
            absurd (omega arith)

    back-longest : (n : ℕ) → n ≤ length s → (a : ℕ) → a ≤ n → ((i : ℕ) → a ≤ i → i < n → f (get_or s i 0) ≡ true) → length (drop_while f (before s n)) ≤ a
    back-longest zero within a h alike = let l = left-short (before s 0) in let e = length_before s 0 within in omega arith
    back-longest (suc n) within a h alike = go (dec_lt a (suc n)) (back-longest n)
      where
        go : Dec (a < suc n) → (n ≤ length s → (a : ℕ) → a ≤ n → ((i : ℕ) → a ≤ i → i < n → f (get_or s i 0) ≡ true) → length (drop_while f (before s n)) ≤ a)
            → length (drop_while f (before s (suc n))) ≤ a
        go (yes l) later =
            let more = ap length (drop_while-more f (before-suc n (omega arith)) (alike n (omega arith) (omega arith))) in
            let rest = later (omega arith) a (omega arith) (λ i low high. alike i low (omega arith)) in
            omega arith
        go (no l) later = let short = left-short (before s (suc n)) in let e = length_before s (suc n) within in omega arith

-- ---- the word
module _ (formula : List ℕ) (place : ℕ) where
  ahead : (i : ℕ) → place ≤ i → get_or (drop place formula) (i - place) 0 ≡ get_or formula i 0
  ahead i h = let e : place + (i - place) ≡ i = omega arith in get_or-drop place formula (i - place) 0 ∙ ap (λ k. get_or formula k 0) e

  pub word-longest : {start end : ℕ} → RunAround formula place start end → (word_start formula place ≤ start) × (end ≤ word_end formula place)
  word-longest {start} {end} r =
      let from = r.from in let past = r.past in let within = r.within in let l = length-drop place formula in
      let back = back-longest alnum formula place (omega arith) start from (λ i low high. r.alike i low (omega arith)) in
      let run = run-longest alnum (drop place formula) (end - place) (omega arith) (λ i h. ap alnum (get_or-drop place formula i 0) ∙ r.alike (place + i) (omega arith) (omega arith)) in
      (back, omega arith)

  pub word-run : alnum (get_or formula place 0) ≡ true → RunAround formula place (word_start formula place) (word_end formula place)
  word-run e =
      let inside = pointed-inside formula place e in
      let l = length-drop place formula in
      let back = left-short alnum (before formula place) in let b = length_before formula place (omega arith) in
      let here : RunAround formula place place (place + 1) = record {
        from = omega arith;
        past = omega arith;
        within = omega arith;
        alike = λ i low high. (let same : i ≡ place = omega arith in ap (λ k. alnum (get_or formula k 0)) same ∙ e);
      } in
      let covers = word-longest here in
      record {
        from = omega arith;
        past = omega arith;
        within = omega arith;
        alike = λ i low high. within_word i low high (dec_lt i place);
      }
    where
      within_word : (i : ℕ) → word_start formula place ≤ i → i < word_end formula place → Dec (i < place) → alnum (get_or formula i 0) ≡ true
      within_word i low high (yes h) = let inside = pointed-inside formula place e in back-alike alnum formula place (omega arith) i low h
      within_word i low high (no h) =
          let l = length-drop place formula in
          ap alnum (sym (ahead i (omega arith))) ∙ run-alike alnum (drop place formula) (i - place) (omega arith)
