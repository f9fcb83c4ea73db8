-- A series: parts with a gap between them. The definitions read it from the right, the code by a loop from the left. Assumes nothing.
--     adjoined-assoc               why both give one part
--     Begun, SoFar                 what is known once a part has been read
--     SeriesTurn, Ahead            what is known at the loop's head, where the next part begins
--     first_part                   what is known of the first part
--     read-nothing, read_done      the loop ends: nothing is read, or nothing comes next
--     read-turn, read-less         a turn, and that less is left to read after it
use Rattle.std.specs.Prelude.{◌≡◌, refl, true, false, List, ℕ, suc, ◌+◌, ◌≤◌, ◌<◌, ◌^◌, length, drop}
use Rattle.std.proofs.Common.{sym, ap, ◌∙◌, subst, add_assoc, arith, length-drop, drop-drop}
use Rattle.std.proofs.Math.Bool.{and_assoc}
use Rattle.plain_parts.specs.declared.PlainPart.{PlainPart}
use Rattle.std.specs.Prelude.{Some, None}
use Rattle.plain_parts.specs.Parts.{Read, bytes_of, FitBehind, ReadWithin, join, adjoined, behind}
use Rattle.plain_check.specs.Readers.{Answers}
use Rattle.plain_check.specs.Steps.{Split, fit, adjoined-within, Series, series-nothing, series-done, series-more}

join-assoc : (p q r : PlainPart) (a b : ℕ) → join p a (join q b r) ≡ join (join p a q) b r
join-assoc p q r a b = simp (and_assoc, add_assoc)

adjoined-assoc : (p q : PlainPart) (a b : ℕ) (r : Read) → adjoined p a (adjoined q b r) ≡ adjoined (join p a q) b r
adjoined-assoc p q a b None = refl
adjoined-assoc p q a b (Some r) = ap (λ x. Some x) (join-assoc p q r a b)

module _ (σ : Series) where
  -- xs begins with p, some parts of a series: p is all of it where nothing comes next, and what comes next is joined to p
  pub record Begun (xs : List ℕ) (p : PlainPart) : Type 0 where
    pub within : ReadWithin (Some p) xs
    pub done : {ys : List ℕ} → ys ≡ drop p.used xs → σ.next ys ≡ false → Answers σ.read (suc σ.rank) xs (Some p)
    pub more : {ys zs : List ℕ} {r : Read} → ys ≡ drop p.used xs → σ.next ys ≡ true → zs ≡ drop σ.gap ys → Answers σ.read (suc σ.rank) zs r → Answers σ.read (suc σ.rank) xs (adjoined p σ.gap r)

  abbrev pub SoFar : List ℕ → Read → Type 0
  SoFar xs None = Answers σ.read (suc σ.rank) xs None
  SoFar xs (Some p) = Begun xs p

  -- xs is p, a gap, and zs, where one more part begins
  pub record SeriesTurn (xs : List ℕ) (p : PlainPart) (zs : List ℕ) : Type 0 where
    pub begun : Begun xs p
    pub rest : List ℕ
    pub behind : rest ≡ drop p.used xs
    pub part-next : σ.next rest ≡ true
    pub after : zs ≡ drop σ.gap rest

  -- the next part begins at zs, which is all of xs where nothing has been read
  pub data Ahead (xs : List ℕ) : Read → List ℕ → Type 0 where
    first : Ahead xs None xs
    later : {p : PlainPart} {zs : List ℕ} → SeriesTurn xs p zs → Ahead xs (Some p) zs

pub first_part : (σ : Series) {xs : List ℕ} (r : Read) → Answers σ.part σ.rank xs r → SoFar σ xs r
first_part σ None a = series-nothing σ a
first_part σ (Some p) a =
    record {
      within = a.within;
      done = λ d t. series-done σ (record { answers = a; behind = d }) t;
      more = λ d t f next. series-more σ (record { answers = a; behind = d }) t f next;
    }

module _ {σ : Series} {xs : List ℕ} {p : PlainPart} {zs : List ℕ} (turn : SeriesTurn σ xs p zs) where
  turn-split : Split xs p σ.gap zs
  turn-split =
      let w = turn.begun.within in
      omega (arith, σ.room turn.rest turn.part-next, ap length turn.behind ∙ length-drop p.used xs, ap length turn.after ∙ length-drop σ.gap turn.rest)

  skipped : (n : ℕ) {us : List ℕ} → us ≡ drop (p.used + σ.gap + n) xs → us ≡ drop n zs
  skipped n e = e ∙ sym (rw (turn.after, turn.behind, drop-drop σ.gap p.used xs, drop-drop n (p.used + σ.gap) xs))

  all : {r : Read} → Answers σ.read (suc σ.rank) zs r → Answers σ.read (suc σ.rank) xs (adjoined p σ.gap r)
  all next = turn.begun.more turn.behind turn.part-next turn.after next

  turn_more : (r : Read) → SoFar σ zs r → SoFar σ xs (adjoined p σ.gap r)
  turn_more None a = all a
  turn_more (Some q) a =
      record {
        within = adjoined-within (Some q) turn-split a.within;
        done = λ e t. all (a.done (skipped q.used e) t);
        more = λ {r = r} e t f next. rw (← adjoined-assoc p q σ.gap σ.gap r) (all (a.more (skipped q.used e) t f next));
      }

module _ {σ : Series} {xs : List ℕ} where
  pub ahead-short : {r : Read} {zs : List ℕ} → Ahead σ xs r zs → length zs ≤ length xs
  ahead-short first = omega arith
  ahead-short (later turn) = omega (arith, turn-split turn)

  pub ahead-fit : {r q : Read} {zs : List ℕ} → length xs < 2 ^ 64 → Ahead σ xs r zs → ReadWithin q zs → FitBehind r σ.gap q
  ahead-fit l first w = tt
  ahead-fit l (later turn) w = fit l (turn-split turn) w

  ahead_more : {r : Read} {zs : List ℕ} → Ahead σ xs r zs → (q : Read) → SoFar σ zs q → SoFar σ xs (behind r σ.gap q)
  ahead_more first q a = a
  ahead_more (later turn) q a = turn_more turn q a

  passed : {r : Read} {zs : List ℕ} {p : PlainPart} → Ahead σ xs r zs → (q : Read) → behind r σ.gap q ≡ Some p → length xs ≤ p.used + length zs
  passed first q e = omega arith
  passed (later turn) None e = let z : ◌≡◌ {A = ℕ} 0 1 = cc in absurd (omega arith)
  passed (later turn) (Some q) e = omega (arith, turn-split turn, ap bytes_of e)

  ahead-less : {r : Read} {zs us : List ℕ} {p : PlainPart} → Ahead σ xs r zs → (q : Read) → behind r σ.gap q ≡ Some p → SeriesTurn σ xs p us → length us < length zs
  ahead-less ahead q e turn = omega (arith, passed ahead q e, turn-split turn, σ.positive)

-- ---- one more part q has been read at zs and joined to what was read before
module _ {σ : Series} {xs : List ℕ} {r : Read} {zs : List ℕ} {r' : Read} (ahead : Ahead σ xs r zs) (q : Read) (part : SoFar σ zs q) (joins : r' ≡ behind r σ.gap q) where
  so_far : SoFar σ xs r'
  so_far = subst (SoFar σ xs) (sym joins) (ahead_more ahead q part)

  pub read-nothing : r' ≡ None → Answers σ.read (suc σ.rank) xs None
  read-nothing e = subst (SoFar σ xs) e so_far

  module _ {p : PlainPart} (found : r' ≡ Some p) {us : List ℕ} (rest : us ≡ drop p.used xs) where
    begun : Begun σ xs p
    begun = subst (SoFar σ xs) found so_far

    pub read_done : σ.next us ≡ false → Answers σ.read (suc σ.rank) xs (Some p)
    read_done t = begun.done rest t

    pub read-turn : {ys : List ℕ} → σ.next us ≡ true → ys ≡ drop σ.gap us → SeriesTurn σ xs p ys
    read-turn t after = record { begun = begun; rest = us; behind = rest; part-next = t; after = after }

    pub read-less : {ys : List ℕ} → σ.next us ≡ true → ys ≡ drop σ.gap us → length ys < length zs
    read-less t after = ahead-less ahead q (sym joins ∙ found) (read-turn t after)
