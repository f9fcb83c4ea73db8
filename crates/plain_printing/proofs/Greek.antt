-- The thirty passes that put a backslash before Greek names, one for each row of the table.
use Rattle.std.specs.Prelude.{◌≡◌, Bool, not, ◌&&◌, ◌||◌, ltb, drop, get_or}
use Rattle.std.proofs.Math.Path.{refl, sym, ap}
use Rattle.std.proofs.Common.{◌∙◌, true≢false, arith, not-suc-le-zero, zero-add, ltb-true}
use Rattle.std.proofs.Math.Bool.{true, false, cond, and-false}
use mathlib.Core.List.{List, [], ◌∷◌, ◌++◌, append-nil, append_assoc}
use Prim.Native.Nat.{ℕ, zero, suc, ◌+◌, ◌≤◌, ◌<◌}
use Prim.Native.Char.{code}
use Rattle.std.proofs.Math.Nat.{le_of_suc-le-suc, add-zero}
use Rattle.std.proofs.Math.Dec.{eqb}
use Rattle.std.proofs.Math.ListN.{length}
use Rattle.spec.specs.Symbols.{bytes, letter, digit, all, starts, head, same}
use Rattle.spec.specs.Sweep.{sweep}
use Rattle.spec.specs.Rows.{Row, greek_letters}
use Rattle.spec.specs.Words.{embedded, greek as greek_rule}
use Rattle.spec.specs.Grammar.{Atom, variable, greek, number, greek_names, greek_name}
use Rattle.spec.specs.Laws.Booleans.{and_left, and_right}
use Rattle.spec.specs.Laws.Symbols.{starts-long}
use Rattle.spec.specs.Laws.Names.{same-eq}
use Rattle.plain_printing.specs.Tree.{Tree, TreeScript, Join, beside, plus, minus, atom, fraction, group, row, bare, symbol, inner, atom_writing, join_text, operand, lone, slashed, typed_style, write, write_script}
use Rattle.plain_printing.specs.Classes.{apart}
use Rattle.plain_printing.specs.Rule.{Before, nothing, space, slash, paren, brace, last, Marker, low, high}
use Rattle.plain_printing.proofs.LocalTree.{digit-not-letter}

-- ---- rules for the rows of a table, by their places
module _ {A : Type 0} (f : ℕ → A → Bool) where
  abbrev pub all_rows_at : ℕ → List A → Bool
  all_rows_at i [] = true
  all_rows_at i (w ∷ ws) = f i w && all_rows_at (suc i) ws

pub row-rule-at : (f : ℕ → List ℕ → Bool) (i : ℕ) (table : List (List ℕ)) → all_rows_at f i table ≡ true → (j : ℕ) → j < length table → f (j + i) (get_or table j []) ≡ true
row-rule-at f i [] t j h = absurd (not-suc-le-zero h)
row-rule-at f i (w ∷ ws) t zero h = rw (zero-add i) (and_left (f i w) (all_rows_at f (suc i) ws) t)
row-rule-at f i (w ∷ ws) t (suc j) h =
    let shift : suc j + i ≡ j + suc i = omega arith in
    rw shift (row-rule-at f (suc i) ws (and_right (f i w) (all_rows_at f (suc i) ws) t) j (le_of_suc-le-suc h))

-- in the pass for row k, row i is written so before
abbrev lead : ℕ → ℕ → List ℕ
lead k i = cond (ltb i k) (bytes "\\") []

abbrev marks_row : Row → ℕ → ℕ → List ℕ → Bool
marks_row r k i w = same (sweep (greek_rule r) 0 0 (lead k i ++ w)) (lead (suc k) i ++ w)

abbrev pub pass_rule : ℕ → Row → Bool
pass_rule k r = (all letter r.typst && ltb 1 (length r.typst)) && all_rows_at (marks_row r k) 0 greek_names

pub passes-hold : all_rows_at pass_rule 0 greek_letters ≡ true
unfolding sweep
passes-hold = refl

-- ---- one pass for a name of two letters or more
abbrev sign : List ℕ → Type 0
sign r = letter (head r) ≡ false

starts-append : (w : List ℕ) → all letter w ≡ true → (s r : List ℕ) → sign r → starts w (s ++ r) ≡ starts w s
starts-append [] h s r e = refl
starts-append (k ∷ w) h [] [] e = refl
starts-append (k ∷ w) h [] (y ∷ r) e =
    let other : eqb y k ≡ false = apart (λ z. not (letter z)) y k (ap not e) (ap not (and_left (letter k) (all letter w) h)) in
    ap (λ b. starts w r && b) other ∙ and-false (starts w r)
starts-append (k ∷ w) h (x ∷ s) r e = ap (λ b. b && eqb x k) (starts-append w (and_right (letter k) (all letter w) h) s r e)

-- what stands behind a name that was found
behind : (w : List ℕ) (s r : List ℕ) → starts w s ≡ true → sign r → letter (head (drop (length w) (s ++ r))) ≡ letter (head (drop (length w) s))
behind [] [] r h e = e
behind [] (x ∷ s) r h e = refl
behind (k ∷ w) [] r h e = absurd (true≢false (sym h))
behind (k ∷ w) (x ∷ s) r h e = behind w s r (and_left (starts w s) (eqb x k) h) e

marker-sign : {m : ℕ} → Marker m → letter m ≡ false
marker-sign low = refl
marker-sign high = refl

module _ (x₀ x₁ : ℕ) (v command : List ℕ) (letters : all letter (x₀ ∷ x₁ ∷ v) ≡ true) where
  abbrev name : List ℕ
  name = x₀ ∷ x₁ ∷ v

  abbrev entry : Row
  entry = record { typst = name; latex = command }

  -- k symbols of a name that was found are to pass, prev stands before
  abbrev marking : ℕ → ℕ → List ℕ → List ℕ
  marking k prev s = sweep (greek_rule entry) prev k s

  -- nothing is found at a sign, nor at a symbol before a sign
  at_sign : (r : List ℕ) → sign r → starts name r ≡ false
  at_sign r e = starts-append name letters [] r e

  before-sign : (c : ℕ) (r : List ℕ) → sign r → starts name (c ∷ r) ≡ false
  before-sign c r e = starts-append name letters (c ∷ []) r e

  copy-one : (prev x : ℕ) (s : List ℕ) → starts name (x ∷ s) ≡ false → marking 0 prev (x ∷ s) ≡ x ∷ marking 0 x s
  unfolding sweep
  copy-one prev x s h = rw (h, sweep)

  found-step : (prev x : ℕ) (s : List ℕ) → starts name (x ∷ s) ≡ true → marking 0 prev (x ∷ s) ≡ cond (embedded name prev (x ∷ s)) name command ++ marking (suc (length v)) x s
  unfolding sweep
  found-step prev x s h = rw (h, sweep)

  -- before a sign the symbol before does not count
  fresh : (prev : ℕ) (r : List ℕ) → sign r → marking 0 prev r ≡ marking 0 0 r
  unfolding sweep
  fresh prev [] e = refl
  fresh prev (y ∷ r) e = copy-one prev y r (at_sign (y ∷ r) e) ∙ sym (copy-one 0 y r (at_sign (y ∷ r) e))

  -- a text before a sign is marked by itself
  cut : (u : List ℕ) (k prev : ℕ) → k ≤ length u → (r : List ℕ) → sign r → marking k prev (u ++ r) ≡ marking k prev u ++ marking 0 (last prev u) r
  unfolding sweep
  cut [] zero prev h r e = refl
  cut [] (suc k) prev h r e = absurd (omega arith)
  cut (x ∷ u) (suc k) prev h r e = cut u k x (omega arith) r e
  cut (x ∷ u) zero prev h r e = go (starts name (x ∷ u)) refl (cut u (suc (length v)) x) (cut u 0 x)
    where
      go : (b : Bool) → starts name (x ∷ u) ≡ b
          → (suc (length v) ≤ length u → (r : List ℕ) → sign r → marking (suc (length v)) x (u ++ r) ≡ marking (suc (length v)) x u ++ marking 0 (last x u) r)
          → (0 ≤ length u → (r : List ℕ) → sign r → marking 0 x (u ++ r) ≡ marking 0 x u ++ marking 0 (last x u) r)
          → marking 0 prev (x ∷ (u ++ r)) ≡ marking 0 prev (x ∷ u) ++ marking 0 (last x u) r
      go true f ih ih₀ =
          let found : starts name (x ∷ (u ++ r)) ≡ true = starts-append name letters (x ∷ u) r e ∙ f in
          let alike : embedded name prev (x ∷ (u ++ r)) ≡ embedded name prev (x ∷ u) = ap (λ b. eqb prev (code "\\") || (letter prev || b)) (behind name (x ∷ u) r f e) in
          let room : suc (length v) ≤ length u = le_of_suc-le-suc (starts-long name (x ∷ u) f) in
          let written : List ℕ = cond (embedded name prev (x ∷ u)) name command in
          found-step prev x (u ++ r) found
          ∙ rw (alike, ih room r e) (sym (append_assoc written (marking (suc (length v)) x u) (marking 0 (last x u) r)))
          ∙ sym (ap (λ (l : List ℕ). l ++ marking 0 (last x u) r) (found-step prev x u f))
      go false f ih ih₀ =
          copy-one prev x (u ++ r) (starts-append name letters (x ∷ u) r e ∙ f)
          ∙ ap {B = List ℕ} (λ l. x ∷ l) (ih₀ (omega arith) r e)
          ∙ sym (ap (λ (l : List ℕ). l ++ marking 0 (last x u) r) (copy-one prev x u f))

  -- what may stand before a factor is no letter and no backslash
  before-zero : {b : ℕ} → Before b → (u : List ℕ) → marking 0 b u ≡ marking 0 0 u
  unfolding sweep
  before-zero nothing u = refl
  before-zero space [] = refl
  before-zero space (x ∷ u) = refl
  before-zero slash [] = refl
  before-zero slash (x ∷ u) = refl
  before-zero paren [] = refl
  before-zero paren (x ∷ u) = refl
  before-zero brace [] = refl
  before-zero brace (x ∷ u) = refl

  -- ---- texts in their surroundings
  record Factor (s w : List ℕ) : Type 0 where
    marks : (b : ℕ) → Before b → (r : List ℕ) → sign r → marking 0 b (s ++ r) ≡ w ++ marking 0 0 r

  -- a text that is marked by itself
  alone : (u w : List ℕ) → marking 0 0 u ≡ w → Factor u w
  alone u w h =
      record { marks = λ b before r e. cut u 0 b (omega arith) r e ∙ rw (before-zero before u, h, fresh (last b u) r e) }

  one-factor : (c : ℕ) → Factor (c ∷ []) (c ∷ [])
  unfolding sweep
  one-factor c = alone (c ∷ []) (c ∷ []) refl

  digits-alone : (ds : List ℕ) → all digit ds ≡ true → (prev : ℕ) → marking 0 prev ds ≡ ds
  unfolding sweep
  digits-alone [] h prev = refl
  digits-alone (d ∷ ds) h prev =
      copy-one prev d ds (at_sign (d ∷ ds) (digit-not-letter d (and_left (digit d) (all digit ds) h)))
      ∙ ap {B = List ℕ} (λ l. d ∷ l) (digits-alone ds (and_right (digit d) (all digit ds) h) d)

  -- a sign, then a factor or another sign
  sign-step : (prev c : ℕ) (r : List ℕ) → letter c ≡ false → marking 0 prev (c ∷ r) ≡ c ∷ marking 0 c r
  sign-step prev c r h = copy-one prev c r (at_sign (c ∷ r) h)

  group-factor : {s w : List ℕ} → Factor s w → Factor (code "(" ∷ (s ++ code ")" ∷ [])) (code "(" ∷ (w ++ code ")" ∷ []))
  group-factor {s} {w} p = record {
    marks = λ b before r e. simp append_assoc
        (sign-step b (code "(") (s ++ code ")" ∷ r) refl ∙ ap {B = List ℕ} (λ l. code "(" ∷ l) (p.marks (code "(") paren (code ")" ∷ r) refl ∙ ap (λ (l : List ℕ). w ++ l) (closing r e)));
  }
    where
      closing : (r : List ℕ) → sign r → marking 0 0 (code ")" ∷ r) ≡ code ")" ∷ marking 0 0 r
      closing r e = sign-step 0 (code ")") r refl ∙ ap {B = List ℕ} (λ l. code ")" ∷ l) (fresh (code ")") r e)

  operand-factor : (b : Bool) {s w : List ℕ} → Factor s w → Factor (operand b s) (operand b w)
  operand-factor true p = p
  operand-factor false p = group-factor p

  -- a sign between two factors
  slashed-factor : {s w s' w' : List ℕ} → Factor s w → Factor s' w' → Factor (slashed s s') (slashed w w')
  slashed-factor {s} {w} {s'} {w'} p q = record {
    marks = λ b before r e. simp append_assoc
        (p.marks b before (code "/" ∷ (s' ++ r)) refl
        ∙ ap (λ (l : List ℕ). w ++ l) (sign-step 0 (code "/") (s' ++ r) refl ∙ ap {B = List ℕ} (λ l. code "/" ∷ l) (q.marks (code "/") slash r e)));
  }

  join_step : (j : Join) (r : List ℕ) → marking 0 0 (join_text j ++ r) ≡ join_text j ++ marking 0 (code " ") r
  join_step beside r = sign-step 0 (code " ") r refl
  join_step plus r = sign-step 0 (code " ") (code "+" ∷ code " " ∷ r) refl ∙ ap {B = List ℕ} (λ l. code " " ∷ l) (sign-step (code " ") (code "+") (code " " ∷ r) refl ∙ ap {B = List ℕ} (λ l. code "+" ∷ l) (sign-step (code "+") (code " ") r refl))
  join_step minus r = sign-step 0 (code " ") (code "-" ∷ code " " ∷ r) refl ∙ ap {B = List ℕ} (λ l. code " " ∷ l) (sign-step (code " ") (code "-") (code " " ∷ r) refl ∙ ap {B = List ℕ} (λ l. code "-" ∷ l) (sign-step (code "-") (code " ") r refl))

  join-sign : (j : Join) (r : List ℕ) → sign (join_text j ++ r)
  join-sign beside r = refl
  join-sign plus r = refl
  join-sign minus r = refl

  row-factor : {s w : List ℕ} (j : Join) {s' w' : List ℕ} → Factor s w → Factor s' w' → Factor (s ++ (join_text j ++ s')) (w ++ (join_text j ++ w'))
  row-factor {s} {w} j {s'} {w'} p q = record {
    marks = λ b before r e. simp append_assoc
        (p.marks b before (join_text j ++ (s' ++ r)) (join-sign j (s' ++ r))
        ∙ ap (λ (l : List ℕ). w ++ l) (join_step j (s' ++ r) ∙ ap (λ (l : List ℕ). join_text j ++ l) (q.marks (code " ") space r e)));
  }

  -- ---- scripts
  record Trail (s w : List ℕ) : Type 0 where
    begins : (r : List ℕ) → sign r → sign (s ++ r)
    trails : (r : List ℕ) → sign r → marking 0 0 (s ++ r) ≡ w ++ marking 0 0 r

  scripted-factor : {s w l l' h h' : List ℕ} → Factor s w → Trail l l' → Trail h h' → Factor (s ++ (l ++ h)) (w ++ (l' ++ h'))
  scripted-factor {s} {w} {l} {l'} {h} {h'} p q q' = record {
    marks = λ b before r e. simp append_assoc
        (p.marks b before (l ++ (h ++ r)) (q.begins (h ++ r) (q'.begins r e))
        ∙ ap (λ (x : List ℕ). w ++ x) (q.trails (h ++ r) (q'.begins r e) ∙ ap (λ (x : List ℕ). l' ++ x) (q'.trails r e)));
  }

  no-trail : Trail [] []
  no-trail = record { begins = λ r e. e; trails = λ r e. refl }

  symbol-trail : {m : ℕ} → Marker m → (c : ℕ) → Trail (m ∷ c ∷ []) (m ∷ c ∷ [])
  symbol-trail {m} mk c = record {
    begins = λ r e. marker-sign mk;
    trails = λ r e. sign-step 0 m (c ∷ r) (marker-sign mk)
        ∙ ap {B = List ℕ} (λ l. m ∷ l) (copy-one m c r (before-sign c r e) ∙ ap {B = List ℕ} (λ l. c ∷ l) (fresh c r e));
  }

  inner-trail : {m : ℕ} → Marker m → {s w : List ℕ} → Factor s w → Trail (m ∷ (code "(" ∷ (s ++ code ")" ∷ []))) (m ∷ (code "(" ∷ (w ++ code ")" ∷ [])))
  inner-trail {m} mk {s} {w} p = record {
    begins = λ r e. marker-sign mk;
    trails = λ r e. sign-step 0 m ((code "(" ∷ (s ++ code ")" ∷ [])) ++ r) (marker-sign mk)
        ∙ ap {B = List ℕ} (λ l. m ∷ l) (fresh m ((code "(" ∷ (s ++ code ")" ∷ [])) ++ r) refl ∙ (group-factor p).marks 0 nothing r e);
  }

-- ---- trees
module _ (k x₀ x₁ : ℕ) (v command : List ℕ) (letters : all letter (x₀ ∷ x₁ ∷ v) ≡ true)
    (rows : all_rows_at (marks_row (entry x₀ x₁ v command letters) k) 0 greek_names ≡ true) where
  abbrev Marked : List ℕ → List ℕ → Type 0
  Marked s w = Factor x₀ x₁ v command letters s w

  greek-factor : (i : ℕ) → ltb i 30 ≡ true → Marked (lead k i ++ greek_name i) (lead (suc k) i ++ greek_name i)
  unfolding greek_name
  greek-factor i e =
      let tested : marks_row (entry x₀ x₁ v command letters) k i (greek_name i) ≡ true =
      rw add-zero at (row-rule-at (marks_row (entry x₀ x₁ v command letters) k) 0 greek_names rows i (ltb-true i 30 e)) in
      alone x₀ x₁ v command letters (lead k i ++ greek_name i) (lead (suc k) i ++ greek_name i) (same-eq _ _ tested)

  atom-factor : (a : Atom) → Marked (atom_writing k a) (atom_writing (suc k) a)
  atom-factor (variable c e) = one-factor x₀ x₁ v command letters c
  atom-factor (greek i e) = greek-factor i e
  atom-factor (number ds e b) = alone x₀ x₁ v command letters ds ds (digits-alone x₀ x₁ v command letters ds e 0)

  mutual
    unfolding write write_script

    tree-factor : (t : Tree) → Marked (write (typed_style k) 0 t) (write (typed_style (suc k)) 0 t)
    tree-factor (atom a l h) = scripted-factor x₀ x₁ v command letters (atom-factor a) (script-trail low l) (script-trail high h)
    tree-factor (fraction t u) = slashed-factor x₀ x₁ v command letters (operand-factor x₀ x₁ v command letters (lone t) (tree-factor t)) (operand-factor x₀ x₁ v command letters (lone u) (tree-factor u))
    tree-factor (group t) = group-factor x₀ x₁ v command letters (tree-factor t)
    tree-factor (row t j u) = row-factor x₀ x₁ v command letters j (tree-factor t) (tree-factor u)

    script-trail : {m : ℕ} → Marker m → (c : TreeScript) → Trail x₀ x₁ v command letters (write_script (typed_style k) 0 (m ∷ []) false c) (write_script (typed_style (suc k)) 0 (m ∷ []) false c)
    script-trail mk bare = no-trail x₀ x₁ v command letters
    script-trail mk (symbol c e) = symbol-trail x₀ x₁ v command letters mk c
    script-trail mk (inner t) = inner-trail x₀ x₁ v command letters mk (tree-factor t)

-- one pass
pub greek-pass : (k : ℕ) (w command : List ℕ) → pass_rule k (record { typst = w; latex = command }) ≡ true → (t : Tree)
    → sweep (greek_rule (record { typst = w; latex = command })) 0 0 (write (typed_style k) 0 t) ≡ write (typed_style (suc k)) 0 t
unfolding sweep
greek-pass k [] command h t = absurd (true≢false (sym h))
greek-pass k (x₀ ∷ []) command h t = absurd (true≢false (sym (and_right (letter x₀ && true) false (and_left (letter x₀ && true && false) _ h))))
greek-pass k (x₀ ∷ x₁ ∷ v) command h t =
    let w : List ℕ = x₀ ∷ x₁ ∷ v in
    let rows : Bool = all_rows_at (marks_row (record { typst = w; latex = command }) k) 0 greek_names in
    let letters : all letter w ≡ true = and_left (all letter w) (ltb 1 (length w)) (and_left (all letter w && ltb 1 (length w)) rows h) in
    let s : List ℕ = write (typed_style k) 0 t in
    let s' : List ℕ = write (typed_style (suc k)) 0 t in
    ap (sweep (greek_rule (record { typst = w; latex = command })) 0 0) (sym (append-nil s))
    ∙ (tree-factor k x₀ x₁ v command letters (and_right (all letter w && ltb 1 (length w)) rows h) t).marks 0 nothing [] refl
    ∙ append-nil s'
