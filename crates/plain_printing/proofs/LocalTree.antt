-- The rule that every tree's text keeps before sizing.
use Rattle.std.specs.Prelude.{◌≡◌, refl, Bool, true, false, not, ◌&&◌, cond, List, [], ◌∷◌, ◌++◌, ℕ, pred, leb, ltb, length}
use Rattle.std.proofs.Common.{ap, ◌∙◌, append-nil, append_assoc, arith, ltb-true, leb-true, le-ltb}
use Rattle.std.proofs.lemmas.Bool.{false≢true}
use Prim.Native.Char.{code}
use Rattle.spec.specs.Symbols.{bytes, between, letter, digit, alnum, script_sign, all}
use Rattle.spec.specs.Fractions.{frac}
use Rattle.spec.specs.Grammar.{Atom, variable, greek, number, greek_names, greek_name}
use Rattle.spec.specs.Laws.Booleans.{and_left, and_right, and_both, or_right, untrue, or_split}
use Rattle.spec.specs.Laws.Names.{all_rows, row-rule}
use Rattle.spec.specs.Laws.Symbols.{digit-range}
use Rattle.plain_printing.specs.Tree.{Tree, TreeScript, Style, Join, beside, plus, minus, atom, fraction, group, row, bare, symbol, inner, atom_writing, join_text, operand, slashed, lone, typst_style, marked_style, unstacked, unsized, write, write_script, script_brackets, either_way, text}
use Rattle.plain_printing.specs.Classes.{apart}
use Rattle.plain_printing.specs.Local.{chain}
use Rattle.plain_printing.specs.Rule.{rule, Before, nothing, space, slash, paren, brace, ends_factor, last, Marker, low, high}

alnum-closed : (x : ℕ) → alnum x ≡ true → ends_factor x ≡ true
alnum-closed x h = rw h

pub digit-not-letter : (x : ℕ) → digit x ≡ true → letter x ≡ false
digit-not-letter x h =
    let high = (digit-range x h).1 in
    untrue (letter x)
    (λ t. or_split (between (code "a") (code "z") x) (between (code "A") (code "Z") x) t
    (λ e. let low = leb-true (code "a") x (and_left (leb (code "a") x) (leb x (code "z")) e) in omega arith)
    (λ e. let low = leb-true (code "A") x (and_left (leb (code "A") x) (leb x (code "Z")) e) in omega arith))

digit-unmarked : (x : ℕ) → digit x ≡ true → script_sign x ≡ false
digit-unmarked x h = rw (apart digit x (code "_") h refl, apart digit x (code "^") h refl)

-- what may stand behind a factor
abbrev pub Follows : Bool → List ℕ → Type 0
Follows marked r = (a b : ℕ) → ends_factor b ≡ true → chain (rule marked) a b r ≡ true

-- a text that keeps the rule as a factor (a record, so that antt finds the text)
pub record FactorKeepsRule (marked : Bool) (w : List ℕ) : Type 0 where
  pub pass : (a b : ℕ) → Before b → (r : List ℕ) → Follows marked r → chain (rule marked) a b (w ++ r) ≡ true

module _ (marked : Bool) where
  pub follows_nothing : Follows marked []
  follows_nothing a b h = refl

  -- a sign behind a closed factor, and the text behind the sign
  follows-space : (r : List ℕ) → ((a : ℕ) → chain (rule marked) a (code " ") r ≡ true) → Follows marked (code " " ∷ r)
  follows-space r h a b e = and_both (ap not (apart ends_factor b (code "\\") e refl)) (h b)

  follows-slash : (r : List ℕ) → ((a : ℕ) → chain (rule marked) a (code "/") r ≡ true) → Follows marked (code "/" ∷ r)
  follows-slash r h a b e = and_both (ap not (apart ends_factor b (code "\\") e refl)) (h b)

  follows-paren : (r : List ℕ) → Follows marked r → Follows marked (code ")" ∷ r)
  follows-paren r f a b e = and_both (ap not (apart ends_factor b (code "\\") e refl)) (f b (code ")") refl)

  follows-brace : (r : List ℕ) → ((a : ℕ) → chain (rule marked) a (code "}") r ≡ true) → Follows marked (code "}" ∷ r)
  follows-brace r h a b e = and_both (ap not (apart ends_factor b (code "\\") e refl)) (h b)

  follows-marker : {m : ℕ} → Marker m → (r : List ℕ) → ((a : ℕ) → chain (rule marked) a m r ≡ true) → Follows marked (m ∷ r)
  follows-marker low r h a b e = and_both (ap not (apart ends_factor b (code "\\") e refl)) (h b)
  follows-marker high r h a b e = and_both (ap not (apart ends_factor b (code "\\") e refl)) (h b)

  -- ---- words
  word-start : {b : ℕ} → Before b → (a c : ℕ) → alnum c ≡ true → rule marked a b c ≡ true
  word-start nothing a c h = rw h
  word-start space a c h = rw h
  word-start slash a c h = rw h
  word-start paren a c h = rw h
  word-start brace a c h = rw h

  run-follows : (w : List ℕ) (a b : ℕ) → chain (rule marked) a b w ≡ true → ends_factor (last b w) ≡ true → (r : List ℕ) → Follows marked r → chain (rule marked) a b (w ++ r) ≡ true
  run-follows [] a b h e r f = f a b e
  run-follows (c ∷ w) a b h e r f =
      and_both (and_left (rule marked a b c) (chain (rule marked) b c w) h) (run-follows w b c (and_right (rule marked a b c) (chain (rule marked) b c w) h) e r f)

  -- what stands two symbols before a factor does not count
  before-any : {b : ℕ} → Before b → (a : ℕ) (w : List ℕ) → chain (rule marked) a b w ≡ chain (rule marked) 0 b w
  before-any nothing a [] = refl
  before-any nothing a (c ∷ w) = refl
  before-any space a [] = refl
  before-any space a (c ∷ w) = refl
  before-any slash a [] = refl
  before-any slash a (c ∷ w) = refl
  before-any paren a [] = refl
  before-any paren a (c ∷ w) = refl
  before-any brace a [] = refl
  before-any brace a (c ∷ w) = refl

  digits-follow : (ds : List ℕ) → all digit ds ≡ true → (a b : ℕ) → script_sign a ≡ false → digit b ≡ true → (r : List ℕ) → Follows marked r → chain (rule marked) a b (ds ++ r) ≡ true
  digits-follow [] h a b m e r f = f a b (alnum-closed b (or_right (letter b) (digit b) e))
  digits-follow (d ∷ ds) h a b m e r f =
      let hd : digit d ≡ true = and_left (digit d) (all digit ds) h in
      let alnum-d : alnum d ≡ true = or_right (letter d) (digit d) hd in
      let alnum-b : alnum b ≡ true = or_right (letter b) (digit b) e in
      and_both {a = rule marked a b d}
      (rw (alnum-d, alnum-b, m, apart digit b (code "\\") e refl, digit-not-letter b e))
      (digits-follow ds (and_right (digit d) (all digit ds) h) b d (digit-unmarked b e) hd r f)

  before-unmarked : {b : ℕ} → Before b → script_sign b ≡ false
  before-unmarked nothing = refl
  before-unmarked space = refl
  before-unmarked slash = refl
  before-unmarked paren = refl
  before-unmarked brace = refl

  pub variable-passes : (c : ℕ) → letter c ≡ true → FactorKeepsRule marked (c ∷ [])
  variable-passes c e =
      let h : alnum c ≡ true = rw e in
      record { pass = λ a b before r f. and_both (word-start before a c h) (f b c (alnum-closed c h)) }

  pub number-passes : (ds : List ℕ) → all digit ds ≡ true → ltb 0 (length ds) ≡ true → FactorKeepsRule marked ds
  number-passes [] h n = absurd (false≢true n)
  number-passes (d ∷ ds) h n =
      let hd : digit d ≡ true = and_left (digit d) (all digit ds) h in
      record {
        pass = λ a b before r f.
            and_both (word-start before a d (or_right (letter d) (digit d) hd)) (digits-follow ds (and_right (digit d) (all digit ds) h) b d (before-unmarked before) hd r f);
      }

  -- ---- brackets
  opens-paren : {b : ℕ} → Before b → (a : ℕ) → rule marked a b (code "(") ≡ true
  opens-paren nothing a = refl
  opens-paren space a = refl
  opens-paren slash a = refl
  opens-paren paren a = refl
  opens-paren brace a = refl

  paren-passes : {w : List ℕ} → FactorKeepsRule marked w → FactorKeepsRule marked (code "(" ∷ (w ++ code ")" ∷ []))
  paren-passes {w} p =
      record { pass = λ a b before r f. and_both (opens-paren before a) (rw (append_assoc w (code ")" ∷ []) r) (p.pass b (code "(") paren (code ")" ∷ r) (follows-paren r f))) }

  operand-passes : (c : Bool) {w : List ℕ} → FactorKeepsRule marked w → FactorKeepsRule marked (operand c w)
  operand-passes true p = p
  operand-passes false p = paren-passes p

  slashed-passes : {w v : List ℕ} → FactorKeepsRule marked w → FactorKeepsRule marked v → FactorKeepsRule marked (slashed w v)
  slashed-passes {w} {v} p q =
      record { pass = λ a b before r f. rw (append_assoc w (code "/" ∷ v) r) (p.pass a b before (code "/" ∷ (v ++ r)) (follows-slash (v ++ r) (λ a. q.pass a (code "/") slash r f))) }

  frac-lead : {b : ℕ} → Before b → (a : ℕ) (r : List ℕ) → ((a : ℕ) → chain (rule marked) a (code "{") r ≡ true) → chain (rule marked) a b (bytes "\\frac{" ++ r) ≡ true
  frac-lead nothing a r h = h (code "c")
  frac-lead space a r h = h (code "c")
  frac-lead slash a r h = h (code "c")
  frac-lead paren a r h = h (code "c")
  frac-lead brace a r h = h (code "c")

  frac-passes : {w v : List ℕ} → FactorKeepsRule marked w → FactorKeepsRule marked v → FactorKeepsRule marked (frac w v)
  frac-passes {w} {v} p q =
      record {
        pass = λ a b before r f. simp append_assoc
            (frac-lead before a (w ++ code "}" ∷ code "{" ∷ (v ++ code "}" ∷ r))
            (λ a. p.pass a (code "{") brace (code "}" ∷ code "{" ∷ (v ++ code "}" ∷ r))
            (follows-brace (code "{" ∷ (v ++ code "}" ∷ r)) (λ a. q.pass (code "}") (code "{") brace (code "}" ∷ r) (follows-brace r (λ a. f a (code "}") refl))))));
      }

  join-passes : (j : Join) (r : List ℕ) → ((a : ℕ) → chain (rule marked) a (code " ") r ≡ true) → Follows marked (join_text j ++ r)
  join-passes beside r h = follows-space r h
  join-passes plus r h = follows-space (code "+" ∷ code " " ∷ r) (λ a. h (code "+"))
  join-passes minus r h = follows-space (code "-" ∷ code " " ∷ r) (λ a. h (code "-"))

  row-passes : {w : List ℕ} (j : Join) {v : List ℕ} → FactorKeepsRule marked w → FactorKeepsRule marked v → FactorKeepsRule marked (w ++ (join_text j ++ v))
  row-passes {w} j {v} p q =
      record { pass = λ a b before r f. simp append_assoc (p.pass a b before (join_text j ++ (v ++ r)) (join-passes j (v ++ r) (λ a. q.pass a (code " ") space r f))) }

  -- ---- scripts
  symbol-follows : {m : ℕ} → Marker m → (c : ℕ) → alnum c ≡ true → (r : List ℕ) → Follows marked r → (a : ℕ) → chain (rule marked) a m (c ∷ r) ≡ true
  symbol-follows low c h r f a = and_both {a = rule marked a (code "_") c} (rw h) (f (code "_") c (alnum-closed c h))
  symbol-follows high c h r f a = and_both {a = rule marked a (code "^") c} (rw h) (f (code "^") c (alnum-closed c h))

  group-follows : {m : ℕ} → Marker m → (c : Bool) {w : List ℕ} → FactorKeepsRule marked w → (r : List ℕ) → Follows marked r → (a : ℕ) → chain (rule marked) a m (script_brackets c w ++ r) ≡ true
  group-follows low true p r f a = simp append_assoc (p.pass (code "_") (code "{") brace (code "}" ∷ r) (follows-brace r (λ a. f a (code "}") refl)))
  group-follows low false p r f a = simp append_assoc (p.pass (code "_") (code "(") paren (code ")" ∷ r) (follows-paren r f))
  group-follows high true p r f a = simp append_assoc (p.pass (code "^") (code "{") brace (code "}" ∷ r) (follows-brace r (λ a. f a (code "}") refl)))
  group-follows high false p r f a = simp append_assoc (p.pass (code "^") (code "(") paren (code ")" ∷ r) (follows-paren r f))

  -- scripts behind an atom
  pub record Trails (l : List ℕ) : Type 0 where
    pub trail : (r : List ℕ) → Follows marked r → Follows marked (l ++ r)

  inner-trails : {m : ℕ} → Marker m → (c : Bool) {w : List ℕ} → FactorKeepsRule marked w → Trails (m ∷ script_brackets c w)
  inner-trails mk c {w} p = record { trail = λ r f. follows-marker mk (script_brackets c w ++ r) (group-follows mk c p r f) }

  scripted-passes : {w l h : List ℕ} → FactorKeepsRule marked w → Trails l → Trails h → FactorKeepsRule marked (w ++ (l ++ h))
  scripted-passes {w} {l} {h} p q q' =
      record { pass = λ a b before r f. simp append_assoc (p.pass a b before (l ++ (h ++ r)) (q.trail (h ++ r) (q'.trail r f))) }

  -- ---- trees, given the atoms of a style
  module _ (s : Style) (atoms : (a : Atom) → FactorKeepsRule marked (atom_writing s.greeks a)) where
    mutual
      unfolding write write_script

      pub tree-passes : (n : ℕ) (t : Tree) → FactorKeepsRule marked (write (unsized s) n t)
      tree-passes n (atom a l h) = scripted-passes (atoms a) (script-trails n low s.low l) (script-trails n high s.high h)
      tree-passes n (fraction t u) =
          either_way (FactorKeepsRule marked) (unstacked n t) (slashed-passes (operand-passes (lone t) (tree-passes n t)) (operand-passes (lone u) (tree-passes n u)))
          (frac-passes (tree-passes (pred n) t) (tree-passes (pred n) u))
      tree-passes n (group t) = paren-passes (tree-passes n t)
      tree-passes n (row t j u) = row-passes j (tree-passes n t) (tree-passes n u)

      pub script-trails : (n : ℕ) {m : ℕ} → Marker m → (c : Bool) (x : TreeScript) → Trails (write_script (unsized s) n (m ∷ []) c x)
      script-trails n mk c bare = record { trail = λ r f. f }
      script-trails n mk c (symbol y e) = record { trail = λ r f. follows-marker mk (y ∷ r) (symbol-follows mk y e r f) }
      script-trails n mk c (inner t) = inner-trails mk c (tree-passes n t)

-- ---- the formula as typed, and with every Greek name marked
abbrev fine : Bool → ℕ → List ℕ → Bool
fine marked b w = chain (rule marked) 0 b w && ends_factor (last b w)

greek-passes : (marked : Bool) (lead : List ℕ) → ((b : ℕ) → Before b → all_rows (λ w. fine marked b (lead ++ w)) greek_names ≡ true)
    → (i : ℕ) → ltb i 30 ≡ true → FactorKeepsRule marked (lead ++ greek_name i)
unfolding greek_name
greek-passes marked lead tests i e =
    record {
      pass = λ a b before r f.
          let w : List ℕ = lead ++ greek_name i in
          let h : fine marked b w ≡ true = row-rule (λ w. fine marked b (lead ++ w)) greek_names (tests b before) i (ltb-true i 30 e) in
          run-follows marked w a b (before-any marked before a w ∙ and_left (chain (rule marked) 0 b w) (ends_factor (last b w)) h) (and_right (chain (rule marked) 0 b w) (ends_factor (last b w)) h) r f;
    }

typed-rows : (b : ℕ) → Before b → all_rows (λ w. fine false b w) greek_names ≡ true
typed-rows b nothing = refl
typed-rows b space = refl
typed-rows b slash = refl
typed-rows b paren = refl
typed-rows b brace = refl

marked-rows : (b : ℕ) → Before b → all_rows (λ w. fine true b (code "\\" ∷ w)) greek_names ≡ true
marked-rows b nothing = refl
marked-rows b space = refl
marked-rows b slash = refl
marked-rows b paren = refl
marked-rows b brace = refl

typed-atom : (a : Atom) → FactorKeepsRule false (atom_writing 0 a)
typed-atom (variable c e) = variable-passes false c e
typed-atom (greek i e) = rw (le-ltb i 0 (omega arith), cond) (greek-passes false [] typed-rows i e)
typed-atom (number ds e n) = number-passes false ds e (and_left (ltb 0 (length ds)) (ltb (length ds) 10) n)

marked-atom : (a : Atom) → FactorKeepsRule true (atom_writing 30 a)
marked-atom (variable c e) = variable-passes true c e
marked-atom (greek i e) = rw (e, cond) (greek-passes true (bytes "\\") marked-rows i e)
marked-atom (number ds e n) = number-passes true ds e (and_left (ltb 0 (length ds)) (ltb (length ds) 10) n)

-- a typed formula
pub typed-rule : (t : Tree) → chain (rule false) 0 0 (text t) ≡ true
typed-rule t = rw (← append-nil (text t)) ((tree-passes false typst_style typed-atom 0 t).pass 0 0 nothing [] (follows_nothing false))

-- any text between the Greek names and the sizing
pub marked-rule : (below above : Bool) (n : ℕ) (t : Tree) → chain (rule true) 0 0 (write (marked_style below above) n t) ≡ true
marked-rule below above n t =
    rw (← append-nil (write (marked_style below above) n t)) ((tree-passes true (marked_style below above) marked-atom n t).pass 0 0 nothing [] (follows_nothing true))
