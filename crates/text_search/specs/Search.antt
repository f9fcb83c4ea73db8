-- What a search answers: an offset, or nothing. The definitions give the text that lies from there on, or behind it.
--     onward, Finds        of a search whose offset is where the found text begins
--     left_over, Closes     of a search whose offset is a closer's or a comma's, and what it leaves over lies behind it
--     Gap                  of the symbols before a pattern
--     Passed, Sought       of a search for one symbol
-- Assumes nothing.
use Rattle.std.specs.Prelude.{◌≡◌, refl, Bool, true, false, ◌||◌, List, [], ◌∷◌, ◌⊎◌, ℕ, zero, suc, ◌+◌, ◌-◌, ◌≤◌, ◌<◌, pred, eqb, length, get_or, take, drop}
use Rattle.std.proofs.Common.{sym, ap, ◌∙◌, subst, ⊎_elim, inl, inr, arith, length-drop, drop-drop}
use Rattle.std.proofs.lemmas.Bool.{false≢true, eqb-false}
use Rattle.std.proofs.Math.Option.{Option, none, some}
use Rattle.std.proofs.Math.Decide.{dec_lt}
use Rattle.spec.specs.Laws.Symbols.{drop-step, any-end, starts_other, contains-find, find-drop, find-nowhere}
use Rattle.spec.specs.Symbols.{is_some, any, inside, until, starts, find, contains}
use Rattle.text_symbols.specs.Parts.{part, rest_of}
use Rattle.std.specs.Prelude.{Option as Maybe, Some, None, unwrap_or, is_some as found_any}

-- the code's own `Option`, which is another type than that of the definitions
abbrev pub Found : Type 0
Found = Maybe ℕ

abbrev pub onward : List ℕ → Found → Option (List ℕ)
onward s (Some k) = some (drop k s)
onward s None = none

abbrev pub left_over : List ℕ → Found → Option (List ℕ)
left_over s (Some k) = some (drop (k + 1) s)
left_over s None = none

-- as many symbols as a text has at the least, of which this is found
abbrev pub reach : Found → ℕ
reach (Some k) = k + 1
reach None = 0

pub record Finds (s : List ℕ) (r : Found) (o : Option (List ℕ)) : Type 0 where
  pub within : reach r ≤ length s
  pub found : onward s r ≡ o

pub record Closes (s : List ℕ) (r : Found) (o : Option (List ℕ)) : Type 0 where
  pub within : reach r ≤ length s
  pub left : left_over s r ≡ o

-- ---- what an answer tells
module _ {s : List ℕ} {r : Found} {o : Option (List ℕ)} where
  pub finds-at : {k : ℕ} → Finds s r o → r ≡ Some k → o ≡ some (drop k s)
  finds-at f e = sym f.found ∙ ap (onward s) e

  pub finds-within : {k : ℕ} → Finds s r o → r ≡ Some k → k < length s
  finds-within f e = let b = ap reach e in let w = f.within in omega arith

  pub finds-nothing : Finds s r o → r ≡ None → o ≡ none
  finds-nothing f e = sym f.found ∙ ap (onward s) e

  pub closes-at : {k : ℕ} → Closes s r o → r ≡ Some k → o ≡ some (drop (k + 1) s)
  closes-at f e = sym f.left ∙ ap (left_over s) e

  pub closes-within : {k : ℕ} → Closes s r o → r ≡ Some k → k < length s
  closes-within f e = let b = ap reach e in let w = f.within in omega arith

  pub closes-nothing : Closes s r o → r ≡ None → o ≡ none
  closes-nothing f e = sym f.left ∙ ap (left_over s) e

-- ---- a loop that looks at every symbol: what was met, or the symbols from i on, decide
module _ (f : ℕ → Bool) (s : List ℕ) (i : ℕ) where
  pub any_met : (t : Bool) → i < length s → (t || f (get_or s i 0) || any f (drop (i + 1) s)) ≡ (t || any f (drop i s))
  any_met true h = refl
  any_met false h = sym (ap (any f) (drop-step s i h))

  pub any-past-end : (t : Bool) → length s ≤ i → (t || any f (drop i s)) ≡ t
  any-past-end true h = refl
  any-past-end false h = any-end f s i h

-- ---- the next place of a symbol
-- the symbol does not stand from i up to r
pub record Passed (s : List ℕ) (i b r : ℕ) : Type 0 where
  pub after : i ≤ r
  pub within : r ≤ length s
  pub absent : (k : ℕ) → i ≤ k → k < r → get_or s k 0 ≡ b → ⊥

-- from i on, it stands at r for the first time, or nowhere, and then r is the end
pub record Sought (s : List ℕ) (i b r : ℕ) : Type 0 where
  pub passed : Passed s i b r
  pub symbol-stands : r < length s → get_or s r 0 ≡ b

pub passed_none : {s : List ℕ} {i b : ℕ} → i ≤ length s → Passed s i b i
passed_none h = record { after = omega arith; within = h; absent = λ k h l. absurd (omega arith) }

pub passed-more : {s : List ℕ} {i b r : ℕ} → Passed s i b r → r < length s → (get_or s r 0 ≡ b → ⊥) → Passed s i b (r + 1)
passed-more {s} {i} {b} {r} q h other =
    let a = q.after in
    record {
      after = omega arith;
      within = omega arith;
      absent = λ k l m e. ⊎_elim (λ (z : k < r). q.absent k l z e) (λ (z : k ≡ r). other (ap (λ j. get_or s j 0) (sym z) ∙ e)) (before k m);
    }
  where
    before : (k : ℕ) → k < r + 1 → (k < r) ⊎ (k ≡ r)
    before k m = elim (dec_lt k r) [ yes z ↦ inl z | no z ↦ inr (omega arith) ]

-- a part that the symbol is not among is passed over as a whole
absent-part : (s : List ℕ) (b n r : ℕ) → r + n ≤ length s → any (λ x. eqb x b) (part r n s) ≡ false → (k : ℕ) → r ≤ k → k < r + n → get_or s k 0 ≡ b → ⊥
absent-part s b zero r h absent k l m e = absurd (omega arith)
absent-part s b (suc n) r h absent k l m e =
    go (eqb (get_or s r 0) b) refl (sym (ap (any (λ x. eqb x b)) (ap (take (suc n)) (drop-step s r (omega arith)))) ∙ absent) (absent-part s b n (r + 1) (omega arith))
  where
    go :
        (t : Bool) → eqb (get_or s r 0) b ≡ t → (t || any (λ x. eqb x b) (part (r + 1) n s)) ≡ false
        → (any (λ x. eqb x b) (part (r + 1) n s) ≡ false → (k : ℕ) → r + 1 ≤ k → k < r + 1 + n → get_or s k 0 ≡ b → ⊥)
        → ⊥
    go true same f further = false≢true (sym f)
    go false other f further =
        elim (dec_lt r k) [
          | yes z ↦ further f k (omega arith) (omega arith) e
          | no z ↦ (let here : k ≡ r = omega arith in eqb-false (get_or s r 0) b other (ap (λ j. get_or s j 0) (sym here) ∙ e))
        ]

pub passed-part :
    {s : List ℕ} {i b k : ℕ} (n r : ℕ) → Passed s i b k → r ≤ k → k ≤ r + n → r + n ≤ length s → any (λ x. eqb x b) (part r n s) ≡ false
    → Passed s i b (r + n)
passed-part {s} {i} {b} {k} n r q l m h absent =
    let a = q.after in
    record {
      after = omega arith;
      within = h;
      absent = λ j u v e. elim (dec_lt j k) [ yes z ↦ q.absent j u z e | no z ↦ absent-part s b n r h absent j (omega arith) v e ];
    }

-- a pattern whose first symbol does not stand on the way is found from there on
pub find-passed : (pattern s : List ℕ) {i first r : ℕ} → first ≡ get_or pattern 0 0 → starts pattern (drop i s) ≡ false → i < length s → Passed s (i + 1) first r → find pattern (drop i s) ≡ find pattern (drop r s)
find-passed [] s f other h q = absurd (false≢true (sym other))
find-passed (k ∷ w) s {i} {first} {r} f other h q =
    let after = q.after in find-drop (k ∷ w) s i h other ∙ go (r - (i + 1)) (i + 1) (omega arith) (omega arith)
  where
    go : (n j : ℕ) → j + n ≡ r → i + 1 ≤ j → find (k ∷ w) (drop j s) ≡ find (k ∷ w) (drop r s)
    go zero j e l = let z : j ≡ r = omega arith in ap (λ m. find (k ∷ w) (drop m s)) z
    go (suc n) j e l =
        let within = q.within in let less : j < r = omega arith in let here : j < length s = omega arith in
        find-drop (k ∷ w) s j here
        (ap (starts (k ∷ w)) (drop-step s j here) ∙ starts_other k (get_or s j 0) w (drop (j + 1) s) (λ same. q.absent j l less (same ∙ sym f)))
        ∙ go n (j + 1) (omega arith) (omega arith)

-- ---- the symbols before a pattern: it begins at none of them
pub record Gap (pattern s : List ℕ) (r : ℕ) : Type 0 where
  pub within : r ≤ length s
  pub free : (j : ℕ) → j < r → starts pattern (drop j s) ≡ false

free-before : (pattern s : List ℕ) (k : ℕ) → k < length s → find pattern s ≡ some (drop k s) → (j : ℕ) → j < k → starts pattern (drop j s) ≡ false
unfolding find
free-before pattern [] k h e j l = absurd (omega arith)
free-before pattern (x ∷ s) zero h e j l = absurd (omega arith)
free-before pattern (x ∷ s) (suc k) h e j l = go (starts pattern (x ∷ s)) refl e (λ f i m. free-before pattern s k (omega arith) f i m) j l
  where
    go :
        (t : Bool) → starts pattern (x ∷ s) ≡ t → ◌≡◌ {A = Option (List ℕ)} (elim t [ true ↦ some (x ∷ s) | false ↦ find pattern s ]) (some (drop k s))
        → (find pattern s ≡ some (drop k s) → (j : ℕ) → j < k → starts pattern (drop j s) ≡ false)
        → (j : ℕ) → j < suc k → starts pattern (drop j (x ∷ s)) ≡ false
    go true here e later j l = let same : x ∷ s ≡ drop k s = cc in let m = ap length same in let d = length-drop k s in absurd (omega arith)
    go false other e later zero l = other
    go false other e later (suc j) l = later e j (omega arith)

free-nowhere : (pattern s : List ℕ) → find pattern s ≡ none → (j : ℕ) → j < length s → starts pattern (drop j s) ≡ false
free-nowhere pattern [] e j l = absurd (omega arith)
free-nowhere pattern (x ∷ s) e zero l = (find-nowhere pattern x s e).0
free-nowhere pattern (x ∷ s) e (suc j) l = free-nowhere pattern s (find-nowhere pattern x s e).1 j (omega arith)

pub gap-found : (pattern s : List ℕ) {r : Found} → Finds s r (find pattern s) → Gap pattern s (unwrap_or r (length s))
gap-found pattern s {r = Some k} f = let h = finds-within f refl in record { within = omega arith; free = free-before pattern s k h (finds-at f refl) }
gap-found pattern s {r = None} f = record { within = omega arith; free = free-nowhere pattern s (finds-nothing f refl) }

-- ---- whether a pattern occurs
pub contains-found : (w s : List ℕ) {r : Found} → Finds s r (find w s) → found_any r ≡ contains w s
contains-found w s {r = Some k} f = sym (sym (contains-find w s) ∙ ap is_some (finds-at f refl))
contains-found w s {r = None} f = sym (sym (contains-find w s) ∙ ap is_some (finds-nothing f refl))

-- ---- the text before a place, and before a closer or comma
pub until-drop : (s : List ℕ) (k : ℕ) → k ≤ length s → until s (drop k s) ≡ take k s
until-drop s k h = let l = length-drop k s in let e : length s - length (drop k s) ≡ k = omega arith in ap (λ m. take m s) e

-- only the length counts of the text that was searched
pub inside-alike : (s v : List ℕ) → length v ≡ length s → (k : ℕ) → k < length s → inside s (drop (k + 1) v) ≡ take k s
inside-alike s v long k h = let l = length-drop (k + 1) v in let e : pred (length s - length (drop (k + 1) v)) ≡ k = omega arith in ap (λ m. take m s) e

pub inside-drop : (s : List ℕ) (k : ℕ) → k < length s → inside s (drop (k + 1) s) ≡ take k s
inside-drop s k h = inside-alike s s refl k h

-- ---- a search in the rest of a slice, as `&s[i..]` takes it
module _ (s : List ℕ) (i : ℕ) (f : List ℕ → Option (List ℕ)) {r : Found} where
  pub closes-rest : Closes (part i (length s - i) s) r (f (part i (length s - i) s)) → Closes (drop i s) r (f (drop i s))
  closes-rest a = subst (λ l. Closes l r (f l)) (rest_of i s) a

  pub finds-rest : Finds (part i (length s - i) s) r (f (part i (length s - i) s)) → Finds (drop i s) r (f (drop i s))
  finds-rest a = subst (λ l. Finds l r (f l)) (rest_of i s) a

-- what is found there stands so much later in the whole
pub finds-later : {s : List ℕ} {r : Found} {o : Option (List ℕ)} {k : ℕ} (i : ℕ) → Finds (drop i s) r o → r ≡ Some k → Finds s (Some (i + k)) o
finds-later {s} {k = k} i a e =
    let w = finds-within a e in let d = length-drop i s in
    record { within = omega arith; found = ap some (sym (drop-drop k i s)) ∙ sym (finds-at a e) }

pub closes-later : {s : List ℕ} {r : Found} {o : Option (List ℕ)} {k : ℕ} (i : ℕ) → i ≤ length s → Closes (drop i s) r o → r ≡ Some k → Closes s (Some (i + k)) o
closes-later {s} {k = k} i h a e =
    let w = closes-within a e in let d = length-drop i s in
    let n : i + (k + 1) ≡ i + k + 1 = omega arith in
    record { within = omega arith; left = sym (closes-at a e ∙ ap some (drop-drop (k + 1) i s ∙ ap (λ m. drop m s) n)) }
