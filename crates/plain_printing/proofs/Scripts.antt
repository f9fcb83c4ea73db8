-- Script groups get braces: `_(`..`)` becomes `_{`..`}`, then the same for `^`.
use Rattle.std.specs.Prelude.{◌≡◌, refl, Bool, true, false, not, ◌&&◌, ℕ, pred, ◌+◌, ◌-◌, eqb, length}
use Rattle.std.proofs.Common.{sym, ◌∙◌, true≢false, arith, length-append, eq-eqb}
use Rattle.std.proofs.Math.Path.{ap}
use Rattle.std.proofs.Math.Bool.{and-false}
use mathlib.Core.List.{List, [], ◌∷◌, ◌++◌, append-nil, append_assoc}
use Rattle.std.proofs.Math.Option.{some}
use Prim.Native.Char.{code}
use Rattle.std.proofs.Math.Seq.{take-append_seam}
use Rattle.spec.specs.Symbols.{bytes, alnum, script_sign, all, inside, starts}
use Rattle.spec.specs.Sweep.{Turn, sweep}
use Rattle.spec.specs.Closing.{close}
use Rattle.spec.specs.Words.{braced, paren_to_brace}
use Rattle.spec.specs.Scripts.{convert_paren_to_brace}
use Rattle.spec.specs.Laws.Booleans.{and_left, and_right}
use Rattle.plain_printing.specs.Tree.{Tree, TreeScript, Join, beside, plus, minus, atom, fraction, group, row, bare, symbol, inner, atom_writing, join_text, operand, lone, script_brackets, scriptless, scriptless_script, PlainTree, PlainScript, marked_style, braced_style, write, write_script}
use Rattle.plain_printing.specs.Classes.{apart, all-weaken}
use Rattle.plain_printing.specs.Nest.{Nest}
use Rattle.plain_printing.proofs.Written.{nest}
use Rattle.plain_printing.proofs.Operand.{close-through}
use Rattle.plain_printing.proofs.Unlatex.{bare_symbol, atom-bare}
use Rattle.plain_printing.specs.Sweeps.{sweep-skip}

-- what stands before a place doesn't count
abbrev to_brace : ℕ → List ℕ → List ℕ
to_brace m s = sweep (paren_to_brace (m ∷ bytes "(") (m ∷ bytes "{")) 0 0 s

any-before : (m b : ℕ) (s : List ℕ) → sweep (paren_to_brace (m ∷ bytes "(") (m ∷ bytes "{")) b 0 s ≡ to_brace m s
unfolding sweep
any-before m b [] = refl
any-before m b (x ∷ s) = refl

-- a symbol at which no group opens is copied
copy-one : (m x : ℕ) (s : List ℕ) → starts (m ∷ bytes "(") (x ∷ s) ≡ false → to_brace m (x ∷ s) ≡ x ∷ to_brace m s
unfolding sweep
copy-one m x s h = rw (h, paren_to_brace) (ap {B = List ℕ} (λ l. x ∷ l) (any-before m x s))

abbrev unmarked : ℕ → Bool
unmarked x = not (script_sign x)

-- what a script's brackets do in the pass for the sign m: its own change, the others stay
pub data Changes (m : ℕ) : ℕ → Bool → Bool → Type 0 where
  converts : Changes m m false true
  keeps : {x : ℕ} {b : Bool} → eqb x m ≡ false → Changes m x b b

pub record BecomesBraced (m : ℕ) (s w : List ℕ) : Type 0 where
  pub turns : (r : List ℕ) → to_brace m (s ++ r) ≡ w ++ to_brace m r

module _ (m : ℕ) (hm : script_sign m ≡ true) where
  other-mark : (x : ℕ) → unmarked x ≡ true → eqb x m ≡ false
  other-mark x h = apart unmarked x m h (ap not hm)

  outside-one : (x : ℕ) (s : List ℕ) → eqb x m ≡ false → to_brace m (x ∷ s) ≡ x ∷ to_brace m s
  outside-one x s h = copy-one m x s (ap (λ b. starts (bytes "(") s && b) h ∙ and-false (starts (bytes "(") s))

  copied-run : (w : List ℕ) → all unmarked w ≡ true → (r : List ℕ) → to_brace m (w ++ r) ≡ w ++ to_brace m r
  copied-run [] h r = refl
  copied-run (x ∷ w) h r =
      outside-one x (w ++ r) (other-mark x (and_left (unmarked x) (all unmarked w) h)) ∙ ap {B = List ℕ} (λ l. x ∷ l) (copied-run w (and_right (unmarked x) (all unmarked w) h) r)

  copied : (w : List ℕ) → all unmarked w ≡ true → BecomesBraced m w w
  copied w h = record { turns = copied-run w h }

  infixr 20 ◌then◌
  ◌then◌ : {s w s' w' : List ℕ} → BecomesBraced m s w → BecomesBraced m s' w' → BecomesBraced m (s ++ s') (w ++ w')
  ◌then◌ {s} {w} {s'} {w'} p q =
      record { turns = λ r. rw (append_assoc s s' r, append_assoc w w' (to_brace m r)) (p.turns (s' ++ r) ∙ ap (λ (l : List ℕ). w ++ l) (q.turns r)) }

  operand-turns : (b : Bool) {s w : List ℕ} → BecomesBraced m s w → BecomesBraced m (operand b s) (operand b w)
  operand-turns true p = p
  operand-turns false p = copied (bytes "(") refl then p then copied (bytes ")") refl

  group-turns : (b : Bool) {s w : List ℕ} → BecomesBraced m s w → BecomesBraced m (script_brackets b s) (script_brackets b w)
  group-turns true p = copied (bytes "{") refl then p then copied (bytes "}") refl
  group-turns false p = copied (bytes "(") refl then p then copied (bytes ")") refl

  join-turns : (j : Join) → BecomesBraced m (join_text j) (join_text j)
  join-turns beside = copied (bytes " ") refl
  join-turns plus = copied (bytes " + ") refl
  join-turns minus = copied (bytes " - ") refl

  alnum-unmarked : (x : ℕ) → alnum x ≡ true → unmarked x ≡ true
  alnum-unmarked x h = rw (apart alnum x (code "_") h refl, apart alnum x (code "^") h refl)

  bare-unmarked : (x : ℕ) → bare_symbol x ≡ true → unmarked x ≡ true
  bare-unmarked x h = rw (apart bare_symbol x (code "_") h refl, apart bare_symbol x (code "^") h refl)

  -- the symbol of a script
  symbol-turns : (x c : ℕ) → alnum c ≡ true → BecomesBraced m (x ∷ c ∷ []) (x ∷ c ∷ [])
  symbol-turns x c e =
      record {
        turns = λ r. copy-one m x (c ∷ r) (ap (λ b. b && eqb x m) (apart alnum c (code "(") e refl))
            ∙ ap {B = List ℕ} (λ l. x ∷ l) (copied-run (c ∷ []) (rw (alnum-unmarked c e)) r);
      }

  -- a group that gets braces; nothing changes inside
  module _ {s : List ℕ} (n : Nest s) (r : List ℕ) where
    abbrev rest : List ℕ
    rest = (s ++ bytes ")") ++ r

    closes-group : close (code "(") (code ")") 0 rest ≡ some r
    unfolding close
    closes-group = rw (append_assoc s (bytes ")") r) (close-through n 0 (code ")" ∷ r))

    content : inside rest r ≡ s
    content =
        let count : pred (length (s ++ code ")" ∷ r) - length r) ≡ length s = omega (arith, length-append s (code ")" ∷ r)) in
        rw (append_assoc s (code ")" ∷ []) r, count) (take-append_seam s (code ")" ∷ r))

    turn-of-group : braced (m ∷ bytes "(") (m ∷ bytes "{") rest (some r) ≡ record { more = length (bytes "(" ++ (s ++ bytes ")")); fresh = m ∷ bytes "{" ++ s ++ bytes "}" }
    turn-of-group =
        let count : 2 + length s ≡ length (bytes "(" ++ (s ++ bytes ")")) = omega (arith, length-append s (bytes ")")) in
        rw (content, count)

    opens-group : paren_to_brace (m ∷ bytes "(") (m ∷ bytes "{") 0 (m ∷ code "(" ∷ rest) ≡ record { more = length (bytes "(" ++ (s ++ bytes ")")); fresh = m ∷ bytes "{" ++ s ++ bytes "}" }
    opens-group = rw (eq-eqb m m refl, paren_to_brace) (ap (braced (m ∷ bytes "(") (m ∷ bytes "{") rest) closes-group ∙ turn-of-group)

    converts-group : to_brace m (m ∷ code "(" ∷ rest) ≡ (m ∷ bytes "{" ++ s ++ bytes "}") ++ to_brace m r
    unfolding sweep
    converts-group =
        ap (λ (turn : Turn). turn.fresh ++ sweep (paren_to_brace (m ∷ bytes "(") (m ∷ bytes "{")) m turn.more (code "(" ∷ rest)) opens-group
        ∙ ap (λ (l : List ℕ). (m ∷ bytes "{" ++ s ++ bytes "}") ++ l) (sweep-skip (paren_to_brace (m ∷ bytes "(") (m ∷ bytes "{")) (bytes "(" ++ (s ++ bytes ")")) r m ∙ any-before m _ r)

  group-converts : {s : List ℕ} → Nest s → BecomesBraced m (m ∷ (code "(" ∷ (s ++ code ")" ∷ []))) (m ∷ (code "{" ∷ (s ++ code "}" ∷ [])))
  group-converts {s} n = record { turns = λ r. converts-group n r }

  kept-turns : (x : ℕ) → eqb x m ≡ false → {s w : List ℕ} → BecomesBraced m s w → BecomesBraced m (x ∷ s) (x ∷ w)
  kept-turns x h {s} p = record { turns = λ r. outside-one x (s ++ r) h ∙ ap {B = List ℕ} (λ l. x ∷ l) (p.turns r) }

-- without scripts the brackets of scripts do not show
mutual
  unfolding write write_script

  pub script-free : (b c b' c' : Bool) (n : ℕ) (t : Tree) → scriptless t ≡ true → write (marked_style b c) n t ≡ write (marked_style b' c') n t
  script-free b c b' c' n (atom a l h) e =
      rw (
        script-free-script b c b' c' n (bytes "_") b b' l (and_left (scriptless_script l) (scriptless_script h) e),
        script-free-script b c b' c' n (bytes "^") c c' h (and_right (scriptless_script l) (scriptless_script h) e),
      )
  script-free b c b' c' n (fraction t u) e =
      let left = and_left (scriptless t) (scriptless u) e in
      let right = and_right (scriptless t) (scriptless u) e in
      rw (script-free b c b' c' n t left, script-free b c b' c' n u right, script-free b c b' c' (pred n) t left, script-free b c b' c' (pred n) u right)
  script-free b c b' c' n (group t) e = rw (script-free b c b' c' n t e)
  script-free b c b' c' n (row t j u) e =
      rw (script-free b c b' c' n t (and_left (scriptless t) (scriptless u) e), script-free b c b' c' n u (and_right (scriptless t) (scriptless u) e))

  script-free-script : (b c b' c' : Bool) (n : ℕ) (m : List ℕ) (k k' : Bool) (x : TreeScript) → scriptless_script x ≡ true
      → write_script (marked_style b c) n m k x ≡ write_script (marked_style b' c') n m k' x
  script-free-script b c b' c' n m k k' bare e = refl
  script-free-script b c b' c' n m k k' (symbol x i) e = absurd (true≢false (sym e))
  script-free-script b c b' c' n m k k' (inner t) e = absurd (true≢false (sym e))

module _ (m : ℕ) (hm : script_sign m ≡ true) (b c b' c' : Bool) (below : Changes m (code "_") b b') (above : Changes m (code "^") c c') where
  inner-turns : {x : ℕ} {k k' : Bool} → Changes m x k k' → (t : Tree) → scriptless t ≡ true → BecomesBraced m (write (marked_style b c) 0 t) (write (marked_style b' c') 0 t)
      → BecomesBraced m (x ∷ script_brackets k (write (marked_style b c) 0 t)) (x ∷ script_brackets k' (write (marked_style b' c') 0 t))
  inner-turns converts t e p = rw (script-free b' c' b c 0 t e) (group-converts m hm (nest (marked_style b c) 0 t))
  inner-turns (keeps {x = x} {b = k} h) t e p = kept-turns m hm x h (group-turns m hm k p)

  mutual
    unfolding write write_script

    pub tree-turns : (t : Tree) → PlainTree t → BecomesBraced m (write (marked_style b c) 0 t) (write (marked_style b' c') 0 t)
    tree-turns (atom a l h) k =
        ◌then◌ m hm (copied m hm (atom_writing 30 a) (all-weaken bare_symbol unmarked (bare-unmarked m hm) (atom_writing 30 a) (atom-bare a)))
        (◌then◌ m hm (script-turns below l k.0) (script-turns above h k.1))
    tree-turns (fraction t u) k =
        ◌then◌ m hm (operand-turns m hm (lone t) (tree-turns t k.0)) (◌then◌ m hm (copied m hm (bytes "/") refl) (operand-turns m hm (lone u) (tree-turns u k.1)))
    tree-turns (group t) k = operand-turns m hm false (tree-turns t k)
    tree-turns (row t j u) k = ◌then◌ m hm (tree-turns t k.0) (◌then◌ m hm (join-turns m hm j) (tree-turns u k.1))

    script-turns : {x : ℕ} {k k' : Bool} → Changes m x k k' → (z : TreeScript) → PlainScript z → BecomesBraced m (write_script (marked_style b c) 0 (x ∷ []) k z) (write_script (marked_style b' c') 0 (x ∷ []) k' z)
    script-turns ch bare p = copied m hm [] refl
    script-turns {x} ch (symbol y e) p = symbol-turns m hm x y e
    script-turns ch (inner t) p = inner-turns ch t p.0 (tree-turns t p.1)

-- ---- the two passes
turned : {m : ℕ} {s w : List ℕ} → BecomesBraced m s w → convert_paren_to_brace m s ≡ w
unfolding convert_paren_to_brace
turned {m} {s} {w} p = ap (to_brace m) (sym (append-nil s)) ∙ p.turns [] ∙ append-nil w

pub low-scripts : (t : Tree) → PlainTree t → convert_paren_to_brace (code "_") (write (marked_style false false) 0 t) ≡ write (marked_style true false) 0 t
low-scripts t k = turned (tree-turns (code "_") refl false false true false converts (keeps refl) t k)

pub high-scripts : (t : Tree) → PlainTree t → convert_paren_to_brace (code "^") (write (marked_style true false) 0 t) ≡ write braced_style 0 t
high-scripts t k = turned (tree-turns (code "^") refl true false true true (keeps refl) converts t k)
