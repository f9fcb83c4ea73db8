-- A stage's text in its region of the buffer, also where the stage drops symbols from the end of what it has written.
--     Wrote             the buffer w is w₀ with the text `out` in the writer's region, as far as its capacity goes
--     Written           a stage's whole text has been written, and counted
--     Writing           the same in the middle of a stage: `finish` says what comes of the text so far
-- Assumes nothing.
use Rattle.std.specs.Prelude.{◌≡◌, refl, List, [], ◌++◌, ℕ, ◌+◌, ◌-◌, ◌≤◌, ◌<◌, length, get_or, take, drop}
use Rattle.std.proofs.Common.{sym, ap, ap₂, ◌∙◌, subst, inl, inr, ⊎_elim, not-suc-le-zero, arith, length-append, length-take, length-drop, get_or-append-add, get_or-take, get_or-drop, ext_get_or}
use Rattle.std.proofs.Math.Decide.{dec_lt}
use Rattle.std.proofs.Math.ListN.{get_or-append}
use Rattle.text_symbols.specs.Parts.{part, length_part, get_d_part}
use Rattle.text.specs.declared.writer.Writer.{Writer}
use Rattle.text.specs.Writer.{Appended, Outside, Apart, Regions, cut_by, puts, puts-outside, puts-other, puts-at, part_apart, appended-long}

pub record Wrote (w₀ w : List ℕ) (o : Writer) (out : List ℕ) : Type 0 where
  pub long : length w ≡ length w₀
  pub written-there : (i : ℕ) → i < o.cap → i < length out → get_or w (o.to + i) 0 ≡ get_or out i 0
  pub elsewhere-same : (j : ℕ) → Outside o.to o.cap j → get_or w j 0 ≡ get_or w₀ j 0

-- what a stage ensures: its whole text has been written, and counted
pub record Written (w₀ w : List ℕ) (o₀ o : Writer) (whole : List ℕ) : Type 0 where
  pub same-place : o.to ≡ o₀.to
  pub counted : o.count ≡ length whole
  pub wrote : Wrote w₀ w o₀ whole

-- in the middle of a stage: `finish` makes of what has been written what the stage comes to, a text or an answer
pub record Writing {A : Type 0} (w₀ w : List ℕ) (o₀ o : Writer) (finish : List ℕ → A) (whole : A) : Type 0 where
  pub out : List ℕ
  pub same-as-whole : finish out ≡ whole
  pub same-place : o.to ≡ o₀.to
  pub same-cap : o.cap ≡ o₀.cap
  pub counted : o.count ≡ length out
  pub wrote : Wrote w₀ w o₀ out

pub wrote-apart : {w₀ w : List ℕ} {o : Writer} {out : List ℕ} → Wrote w₀ w o out → (from n : ℕ) → Apart from n o → part from n w ≡ part from n w₀
wrote-apart {w₀} {w} {o} t = part_apart w₀ w o t.long t.elsewhere-same

-- ---- a text in its region
pub wrote_none : (w : List ℕ) (o : Writer) → Wrote w w o []
wrote_none w o = record { long = refl; written-there = λ i h more. absurd (not-suc-le-zero more); elsewhere-same = λ j h. refl }

pub wrote-more :
    {w₀ w w' : List ℕ} {o₀ o o' : Writer} {out bs : List ℕ}
    → o₀.to + o₀.cap ≤ length w₀ → o.to ≡ o₀.to → o.cap ≡ o₀.cap → o.count ≡ length out
    → Wrote w₀ w o₀ out
    → Appended w w' o o' bs
    → Wrote w₀ w' o₀ (out ++ bs)
wrote-more {w₀} {w} {w'} {o₀} {o} {o'} {out} {bs} fits place cap full t a =
    record {
      long = appended-long a ∙ t.long;
      written-there = λ i below inside. at i below inside (dec_lt i (length out));
      elsewhere-same = λ j h. rw work (puts-outside bs w o₀.to o₀.cap o.count j h) ∙ t.elsewhere-same j h;
    }
  where
    work : w' ≡ puts w o₀.to o₀.cap o.count bs
    work = rw (← place, ← cap) a.work

    past : (k : ℕ) → k < length bs → o.count + k < o₀.cap → get_or w' (o₀.to + (o.count + k)) 0 ≡ get_or (out ++ bs) (o.count + k) 0
    past k inside below =
        let long = t.long in
        ap (λ v. get_or v (o₀.to + (o.count + k)) 0) work
        ∙ puts-at bs w o₀.to o₀.cap o.count k (omega arith) inside below
        ∙ sym (ap (λ n. get_or (out ++ bs) (n + k) 0) full ∙ get_or-append-add out bs k 0)

    at : (i : ℕ) → i < o₀.cap → i < length (out ++ bs) → Dec (i < length out) → get_or w' (o₀.to + i) 0 ≡ get_or (out ++ bs) i 0
    at i below inside (yes h) =
        rw work (puts-other bs w o₀.to o₀.cap o.count (o₀.to + i) (inl (omega arith)))
        ∙ t.written-there i below h ∙ sym (get_or-append out bs 0 i h)
    at i below inside (no h) =
        let e : i ≡ o.count + (i - o.count) = omega arith in
        let n = length-append out bs in
        rw e (past (i - o.count) (omega arith) (omega arith))

-- symbols are dropped from the end of what was written
pub wrote-less : {w₀ w : List ℕ} {o : Writer} {out : List ℕ} (n : ℕ) → Wrote w₀ w o out → Wrote w₀ w o (take n out)
wrote-less {out = out} n t =
    record {
      long = t.long;
      written-there = λ i below inside. (let l = length-take n out in t.written-there i below (omega arith) ∙ sym (get_or-take n out i 0 (omega arith)));
      elsewhere-same = t.elsewhere-same;
    }

-- what lies behind the region is as it was
pub wrote-beyond : {w₀ w : List ℕ} {o : Writer} {out : List ℕ} {k : ℕ} → Wrote w₀ w o out → o.to + o.cap ≤ k → drop k w ≡ drop k w₀
wrote-beyond {w₀} {w} {k = k} t h =
    let long = t.long in
    ext_get_or 0 (drop k w) (drop k w₀) (simp length-drop (omega arith)) (λ i _. get_or-drop k w i 0 ∙ t.elsewhere-same (k + i) (inr (omega arith)) ∙ sym (get_or-drop k w₀ i 0))

-- a symbol of the source is read as it was
pub wrote-read : {w₀ w : List ℕ} {from n : ℕ} {o : Writer} {out : List ℕ} → Wrote w₀ w o out → Regions w₀ from n o → (i : ℕ) → i < n → get_or w (from + i) 0 ≡ get_or (part from n w₀) i 0
wrote-read {w₀} {from = from} {n} t stage i h =
    t.elsewhere-same (from + i) (⊎_elim (λ l. inl (omega arith)) (λ l. inr (omega arith)) stage.apart) ∙ sym (get_d_part from n w₀ i h)

-- a text that is no longer than the capacity stands in its region
pub wrote-text : {w₀ w : List ℕ} {o : Writer} {out : List ℕ} → Wrote w₀ w o out → o.to + o.cap ≤ length w₀ → length out ≤ o.cap → part o.to (length out) w ≡ out
wrote-text {w₀} {w} {o} {out} t fits short =
    let room = t.long in
    let l : length (part o.to (length out) w) ≡ length out = length_part o.to (length out) w (omega arith) in
    ext_get_or 0 (part o.to (length out) w) out l
    (λ i h. get_d_part o.to (length out) w i (omega arith) ∙ t.written-there i (omega arith) (omega arith))

-- a stage's whole text that has been appended to none
pub appended-written : {w w' : List ℕ} {o o' : Writer} {out : List ℕ} → Appended w w' o o' out → o.count ≡ 0 → o.to + o.cap ≤ length w → Written w w' o o' out
appended-written {w} {o = o} {out = out} a none fits =
    record {
      same-place = a.same-place;
      counted = (let c = a.counted in omega arith);
      wrote = wrote-more fits refl refl none (wrote_none w o) a;
    }

-- the same text, read
pub appended-text : {w w' : List ℕ} {o o' : Writer} {out : List ℕ} → Appended w w' o o' out → o.count ≡ 0 → o.to + o.cap ≤ length w → o'.count ≤ o.cap → part o'.to o'.count w' ≡ out
appended-text {w} {w'} {o} {o'} {out} a none fits short =
    let written = appended-written a none fits in
    let c = written.counted in
    ap₂ (λ k n. part k n w') a.same-place c ∙ wrote-text written.wrote fits (omega arith)

-- ---- a stage that drops symbols from the end of what it has written: it begins, appends, drops from the end, and is done
pub writing-none : {A : Type 0} (w : List ℕ) (o : Writer) (finish : List ℕ → A) → o.count ≡ 0 → Writing w w o o finish (finish [])
writing-none w o finish none = record { out = []; same-as-whole = refl; same-place = refl; same-cap = refl; counted = none; wrote = wrote_none w o }

module _ {A : Type 0} {w₀ w : List ℕ} {o₀ o : Writer} {finish : List ℕ → A} {whole : A} (t : Writing w₀ w o₀ o finish whole) where
  pub writing_more :
      {w' : List ℕ} {o' : Writer} {bs : List ℕ} (next : List ℕ → A)
      → o₀.to + o₀.cap ≤ length w₀
      → Appended w w' o o' bs
      → ((out : List ℕ) → finish out ≡ next (out ++ bs))
      → Writing w₀ w' o₀ o' next whole
  writing_more {bs = bs} next fits a step =
      record {
        out = t.out ++ bs;
        same-as-whole = sym (step t.out) ∙ t.same-as-whole;
        same-place = a.same-place ∙ t.same-place;
        same-cap = a.same-cap ∙ t.same-cap;
        counted = (let l = length-append t.out bs in let n = t.counted in let m = a.counted in omega arith);
        wrote = wrote-more fits t.same-place t.same-cap t.counted t.wrote a;
      }

  pub writing-less :
      (n : ℕ) (next : List ℕ → A)
      → ((out : List ℕ) → finish out ≡ next (take (length out - n) out))
      → Writing w₀ w o₀ (cut_by n o) next whole
  writing-less n next step =
      record {
        out = take (length t.out - n) t.out;
        same-as-whole = sym (step t.out) ∙ t.same-as-whole;
        same-place = t.same-place;
        same-cap = t.same-cap;
        counted = (let l = length-take (length t.out - n) t.out in let m = t.counted in omega arith);
        wrote = wrote-less (length t.out - n) t.wrote;
      }

pub writing-all :
    {w₀ w : List ℕ} {o₀ o : Writer} {finish : List ℕ → List ℕ} {whole : List ℕ} → Writing w₀ w o₀ o finish whole
    → ((out : List ℕ) → finish out ≡ out) → Written w₀ w o₀ o whole
writing-all {w₀} {w} {o₀} {whole = whole} t done =
    let e : t.out ≡ whole = sym (done t.out) ∙ t.same-as-whole in
    record { same-place = t.same-place; counted = t.counted ∙ ap length e; wrote = subst (λ l. Wrote w₀ w o₀ l) e t.wrote }
