-- Tables of replacements, the 56 words, and Phi and Psi on plain texts: each finds nothing, or finds a name behind its backslash and spares it.
use Rattle.std.specs.Prelude.{◌≡◌, refl, Bool, true, false, not, cond, ◌&&◌, ◌||◌, List, [], ◌∷◌, ℕ, suc, eqb, length, take, drop}
use Rattle.std.proofs.Common.{sym, true≢false, eqb-true}
use Prim.Native.Char.{code}
use Rattle.std.proofs.lemmas.Bool.{not-true}
use Rattle.spec.specs.Symbols.{is, letter, digit, alnum, wordly, script_sign, head, past, starts}
use Rattle.spec.specs.Sweep.{Turn, Rule, kept, taken, sweep, replacing}
use Rattle.spec.specs.Rows.{Row}
use Rattle.spec.specs.Words.{word, capital, literal, word_or_literal}
use Rattle.spec.specs.Laws.Booleans.{and_left, and_right, or-neither}
use Rattle.spec.specs.Laws.Symbols.{starts-take}
use Rattle.spec.specs.Laws.Sweep.{sweep-absent}
use Rattle.spec.specs.Laws.Absent.{replacing-waits}
use Rattle.plain_printing.specs.Tree.{Tree, marked_style, write}
use Rattle.plain_printing.specs.Local.{chain}
use Rattle.plain_printing.specs.Rule.{rule}
use Rattle.plain_printing.proofs.LocalTree.{marked-rule}
use Rattle.plain_printing.specs.Sweeps.{Copies, sweep-chain}
use Rattle.plain_printing.proofs.Absent.{stopped, absent-marked}

double : (q : Bool) → not (not q && true) ≡ true → q ≡ true
double true e = refl
double false e = e

-- two letters in a row stand behind a letter or a backslash
second-letter : (a b c : ℕ) → letter b ≡ true → letter c ≡ true → rule true a b c ≡ true → letter a || eqb a (code "\\") ≡ true
second-letter a b c hb hc h =
    let q : Bool = letter a || eqb a (code "\\") in
    let word : not (alnum b && script_sign a) && (not (eqb b (code "\\") && digit c) && not (letter b && (not q && true))) ≡ true = rw hc at h in
    let last : not (letter b && (not q && true)) ≡ true = and_right (not (eqb b (code "\\") && digit c)) _ (and_right (not (alnum b && script_sign a)) _ word) in
    double q (rw hb at last)

-- ---- a name that is found is spared
-- found, spared
abbrev turn : List ℕ → List ℕ → List ℕ → Bool → Bool → Turn
turn w v s found spared = cond found (taken (length w) (cond spared w v)) (kept s)

spared-copies : (k : ℕ) (w v s : List ℕ) (found spared : Bool) → (found ≡ true → starts (k ∷ w) s ≡ true) → (found ≡ true → spared ≡ true)
    → (turn (k ∷ w) v s found spared).fresh ≡ take (suc (turn (k ∷ w) v s found spared).more) s
spared-copies k w v s true true h e = sym (starts-take (k ∷ w) s (h refl))
spared-copies k w v s true false h e = absurd (true≢false (sym (e refl)))
spared-copies k w v s false spared h e = refl

module _ (k l : ℕ) (w v : List ℕ) (hk : letter k ≡ true) (hl : letter l ≡ true) where
  -- at a word boundary
  abbrev found : ℕ → List ℕ → Bool
  found before s = starts (k ∷ l ∷ w) s && not (wordly before)

  behind-backslash : (a before : ℕ) (s : List ℕ) → chain (rule true) a before s ≡ true → found before s ≡ true → is "\\" before ≡ true
  behind-backslash a before [] h e = absurd (true≢false (sym e))
  behind-backslash a before (x ∷ []) h e = absurd (true≢false (sym e))
  behind-backslash a before (x ∷ y ∷ s) h e =
      let here : starts (k ∷ l ∷ w) (x ∷ y ∷ s) ≡ true = and_left (starts (k ∷ l ∷ w) (x ∷ y ∷ s)) (not (wordly before)) e in
      let first : x ≡ k = eqb-true x k (and_right (starts (l ∷ w) (y ∷ s)) (eqb x k) here) in
      let second : y ≡ l = eqb-true y l (and_right (starts w s) (eqb y l) (and_left (starts (l ∷ w) (y ∷ s)) (eqb x k) here)) in
      let ruled : rule true before x y ≡ true = and_left (rule true before x y) (chain (rule true) x y s) (and_right (rule true a before x) _ h) in
      let open-left : wordly before ≡ false = not-true _ (and_right (starts (k ∷ l ∷ w) (x ∷ y ∷ s)) (not (wordly before)) e) in
      let unlettered : letter before ≡ false = (or-neither (letter before) (digit before) (or-neither (alnum before) (eqb before (code "_")) open-left).0).0 in
      rw unlettered at (second-letter before x y (rw first hk) (rw second hl) ruled)

  abbrev name : Row
  name = record { typst = k ∷ l ∷ w; latex = v }

  word-spared : (a before : ℕ) (s : List ℕ) → chain (rule true) a before s ≡ true → Copies (word name) before s
  word-spared a before s h =
      spared-copies k (l ∷ w) v s (found before s) (is "\\" before || alnum (head (drop (length (k ∷ l ∷ w)) s)))
      (and_left (starts (k ∷ l ∷ w) s) (not (wordly before)))
      (λ e. rw (behind-backslash a before s h e))

  word-copies : (s : List ℕ) → chain (rule true) 0 0 s ≡ true → sweep (word name) 0 0 s ≡ s
  word-copies s h = sweep-chain (rule true) (word name) word-spared s h

  capital-spared : (a before : ℕ) (s : List ℕ) → chain (rule true) a before s ≡ true → Copies (capital name) before s
  capital-spared a before s h = go (starts (k ∷ l ∷ w) s) (not (wordly before)) refl refl
    where
      after : Bool
      after = not (wordly (head (drop (length (k ∷ l ∷ w)) s)))

      go : (p q : Bool) → starts (k ∷ l ∷ w) s ≡ p → not (wordly before) ≡ q
          → (turn (k ∷ l ∷ w) v s (p && (q && after)) (is "\\" before)).fresh ≡ take (suc (turn (k ∷ l ∷ w) v s (p && (q && after)) (is "\\" before)).more) s
      go true true e f = spared-copies k (l ∷ w) v s after (is "\\" before) (λ u. e) (λ u. behind-backslash a before s h (rw (e, f)))
      go true false e f = refl
      go false q e f = refl

  capital-copies : (s : List ℕ) → chain (rule true) 0 0 s ≡ true → sweep (capital name) 0 0 s ≡ s
  capital-copies s h = sweep-chain (rule true) (capital name) capital-spared s h

-- ---- rows: a literal pattern that no marked text holds, or a name that begins with two letters
abbrev pub two_letters : List ℕ → Bool
two_letters w = letter (head w) && letter (head (past w))

abbrev pub word_row : Row → Bool
word_row r = cond (literal r.typst) (stopped r.typst) (two_letters r.typst)

module _ (below above : Bool) (n : ℕ) (t : Tree) where
  abbrev s : List ℕ
  s = write (marked_style below above) n t

  name-copies : (kind : Row → Rule) → ((k l : ℕ) (w v : List ℕ) → letter k ≡ true → letter l ≡ true → sweep (kind (record { typst = k ∷ l ∷ w; latex = v })) 0 0 s ≡ s)
      → (w v : List ℕ) → two_letters w ≡ true → sweep (kind (record { typst = w; latex = v })) 0 0 s ≡ s
  name-copies kind copies [] v h = absurd (true≢false (sym h))
  name-copies kind copies (x ∷ []) v h = absurd (true≢false (sym (and_right (letter x) (letter 0) h)))
  name-copies kind copies (x ∷ y ∷ w) v h = copies x y w v (and_left (letter x) (letter y) h) (and_right (letter x) (letter y) h)

  pub word-row-copies : (r : Row) → word_row r ≡ true → sweep (word_or_literal r) 0 0 s ≡ s
  word-row-copies r h = go (literal r.typst) h
    where
      go : (b : Bool) → cond b (stopped r.typst) (two_letters r.typst) ≡ true → sweep (cond b (replacing r.typst r.latex) (word r)) 0 0 s ≡ s
      go true h = sweep-absent (replacing-waits r.typst r.latex) s 0 (absent-marked r.typst h below above n t)
      go false h = name-copies word (λ k l w v hk hl. word-copies k l w v hk hl s (marked-rule below above n t)) r.typst r.latex h

  pub capital-row-copies : (r : Row) → two_letters r.typst ≡ true → sweep (capital r) 0 0 s ≡ s
  capital-row-copies r h = name-copies capital (λ k l w v hk hl. capital-copies k l w v hk hl s (marked-rule below above n t)) r.typst r.latex h
