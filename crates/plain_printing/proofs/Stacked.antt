-- Trees whose fractions are all stacked: their text holds no slash, so no round changes it.
--     from-height    from its height on a tree's text is the same
--     Copied         a text that a round copies, wherever it stands
use Rattle.std.specs.Prelude.{◌≡◌, refl, Bool, true, false, not, ℕ, zero, suc, ◌≤◌, eqb}
use Rattle.std.proofs.Common.{sym, ap, ap₂, ◌∙◌, arith}
use mathlib.Core.List.{List, [], ◌∷◌, ◌++◌, append_assoc, reverse_aux, reverse_aux-append}
use Prim.Native.Char.{code}
use Rattle.std.proofs.lemmas.Bool.{not-true}
use Rattle.spec.specs.Symbols.{bytes, alnum, all}
use Rattle.spec.specs.Fractions.{operand_symbol, Done, frac, fractions_from}
use Rattle.spec.specs.Grammar.{Atom}
use Rattle.spec.specs.Laws.Booleans.{and_left, and_right}
use Rattle.plain_printing.specs.Tree.{Tree, TreeScript, Style, Join, beside, plus, minus, atom, fraction, group, row, bare, symbol, inner, atom_writing, join_text, operand, height, height_script, braced_style, unsized, write, write_script, stacked}
use Rattle.plain_printing.specs.Classes.{apart, all-weaken}
use Rattle.plain_printing.proofs.Written.{atom-operand_symbols}

-- ---- from its height on a tree's text does not change
mutual
  unfolding write write_script

  pub from-height : (s : Style) (n m : ℕ) (t : Tree) → height t ≤ n → height t ≤ m → write s n t ≡ write s m t
  from-height s n m (atom a l h) p q = rw (from-height-script s n m (bytes "_") s.low l (omega arith) (omega arith), from-height-script s n m (bytes "^") s.high h (omega arith) (omega arith))
  from-height s zero m (fraction t u) p q = absurd (omega arith)
  from-height s (suc n) zero (fraction t u) p q = absurd (omega arith)
  from-height s (suc n) (suc m) (fraction t u) p q =
      stacked s n t u (omega arith) ∙ ap₂ frac (from-height s n m t (omega arith) (omega arith)) (from-height s n m u (omega arith) (omega arith)) ∙ sym (stacked s m t u (omega arith))
  from-height s n m (group t) p q = rw (from-height s n m t p q)
  from-height s n m (row t j u) p q = rw (from-height s n m t (omega arith) (omega arith), from-height s n m u (omega arith) (omega arith))

  from-height-script : (s : Style) (n m : ℕ) (mark : List ℕ) (b : Bool) (c : TreeScript) → height_script c ≤ n → height_script c ≤ m → write_script s n mark b c ≡ write_script s m mark b c
  from-height-script s n m mark b bare p q = refl
  from-height-script s n m mark b (symbol c e) p q = refl
  from-height-script s n m mark b (inner t) p q = rw (from-height (unsized s) n m t p q)

-- ---- a text without a slash is copied, wherever it stands
pub record Copied (s : List ℕ) : Type 0 where
  pub copies : (done : Done) (p o r : List ℕ) → fractions_from 0 done p o (s ++ r) ≡ fractions_from 0 done (reverse_aux s p) (reverse_aux s o) r

abbrev unslashed : ℕ → Bool
unslashed x = not (eqb x (code "/"))

copy_run : (w : List ℕ) → all unslashed w ≡ true → (done : Done) (p o r : List ℕ) → fractions_from 0 done p o (w ++ r) ≡ fractions_from 0 done (reverse_aux w p) (reverse_aux w o) r
unfolding fractions_from
copy_run [] h done p o r = refl
copy_run (x ∷ w) h done p o r =
    rw (not-true (eqb x (code "/")) (and_left (unslashed x) (all unslashed w) h), fractions_from) (copy_run w (and_right (unslashed x) (all unslashed w) h) done (x ∷ p) (x ∷ o) r)

pub run : (w : List ℕ) → all unslashed w ≡ true → Copied w
run w h = record { copies = copy_run w h }

infixr 20 ◌and◌
◌and◌ : {s t : List ℕ} → Copied s → Copied t → Copied (s ++ t)
◌and◌ {s} {t} a b =
    record { copies = λ done p o r. rw (append_assoc s t r, reverse_aux-append s t p, reverse_aux-append s t o) (a.copies done p o (t ++ r) ∙ b.copies done (reverse_aux s p) (reverse_aux s o) r) }

pub atom-copied : (a : Atom) → Copied (atom_writing 30 a)
atom-copied a = run (atom_writing 30 a) (all-weaken operand_symbol unslashed (λ x e. ap not (apart operand_symbol x (code "/") e refl)) (atom_writing 30 a) (atom-operand_symbols 30 a))

pub join-copied : (j : Join) → Copied (join_text j)
join-copied beside = run _ refl
join-copied plus = run _ refl
join-copied minus = run _ refl

pub operand-copied : (b : Bool) {s : List ℕ} → Copied s → Copied (operand b s)
operand-copied true a = a
operand-copied false a = run (bytes "(") refl and a and run (bytes ")") refl

-- a script of one symbol, behind its sign
pub symbol-copied : (m c : ℕ) → eqb m (code "/") ≡ false → alnum c ≡ true → Copied (m ∷ c ∷ [])
symbol-copied m c a e = run (m ∷ c ∷ []) (rw (a, apart alnum c (code "/") e refl))

mutual
  unfolding write write_script

  -- so is a tree whose fractions are all stacked
  pub tree-copied : (n : ℕ) (t : Tree) → height t ≤ n → Copied (write braced_style n t)
  tree-copied n (atom a l h) d =
      atom-copied a and script-copied n (code "_") refl l (omega arith) and script-copied n (code "^") refl h (omega arith)
  tree-copied zero (fraction t u) d = absurd (omega arith)
  tree-copied (suc n) (fraction t u) d =
      rw (stacked braced_style n t u (omega arith))
      (run (bytes "\\frac{") refl and tree-copied n t (omega arith) and run (bytes "}{") refl and tree-copied n u (omega arith) and run (bytes "}") refl)
  tree-copied n (group t) d = operand-copied false (tree-copied n t d)
  tree-copied n (row t j u) d = tree-copied n t (omega arith) and join-copied j and tree-copied n u (omega arith)

  script-copied : (n m : ℕ) → eqb m (code "/") ≡ false → (c : TreeScript) → height_script c ≤ n → Copied (write_script braced_style n (m ∷ []) true c)
  script-copied n m a bare d = run [] refl
  script-copied n m a (symbol c e) d = symbol-copied m c a e
  script-copied n m a (inner t) d = run (m ∷ code "{" ∷ []) (rw a) and tree-copied n t d and run (bytes "}") refl
