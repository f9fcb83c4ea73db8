-- A plain formula's text only grows on the way to its LaTeX.
--     latex-longest    no text on the way is longer than the LaTeX
--     rounds-grow      each round of fractions that is still to come makes it longer
use Rattle.std.specs.Prelude.{◌≡◌, Bool, true, false, not, cond, ◌&&◌, ltb, length}
use mathlib.Core.List.{List, [], ◌++◌}
use Prim.Native.Nat.{ℕ, zero, suc, pred, ◌+◌, ◌-◌, ◌≤◌, max}
use Rattle.std.proofs.Common.{le_refl, arith, length-append}
use Rattle.spec.specs.Symbols.{bytes}
use Rattle.spec.specs.Fractions.{frac}
use Rattle.spec.specs.Grammar.{Atom, variable, greek, number, greek_name}
use Rattle.plain_printing.specs.Tree.{Tree, TreeScript, Style, atom, fraction, group, row, bare, symbol, inner, atom_writing, join_text, operand, slashed, lone, parens, script_brackets, slashless, height, height_script, unstacked, write, write_script, either_way, stacked, braced_style, tree_latex}

-- ---- t is longer than s, by x symbols at least
record Grows (x : ℕ) (s t : List ℕ) : Type 0 where
  by : length s + x ≤ length t

fewer : {x y : ℕ} {s t : List ℕ} → y ≤ x → Grows x s t → Grows y s t
fewer h p = let l = p.by in record { by = omega arith }

same_grows : {s : List ℕ} → Grows 0 s s
same_grows = record { by = omega arith }

append-grows : {x y : ℕ} {s s' t t' : List ℕ} → Grows x s s' → Grows y t t' → Grows (x + y) (s ++ t) (s' ++ t')
append-grows {s = s} {s'} {t} {t'} p q = let l = p.by in let m = q.by in record { by = omega (arith, length-append s t, length-append s' t') }

parens-grow : (c : Bool) {x : ℕ} {s t : List ℕ} → Grows x s t → Grows x (parens false s) (parens c t)
parens-grow true {s = s} {t} p = let l = p.by in record { by = omega (arith, length-append s (bytes ")"), length-append t (bytes "\\right)")) }
parens-grow false {s = s} {t} p = let l = p.by in record { by = omega (arith, length-append s (bytes ")"), length-append t (bytes ")")) }

length-brackets : (b : Bool) (s : List ℕ) → length (script_brackets b s) ≡ length s + 2
length-brackets true s = omega (arith, length-append s (bytes "}"))
length-brackets false s = omega (arith, length-append s (bytes ")"))

brackets-grow : (b b' : Bool) {x : ℕ} {s t : List ℕ} → Grows x s t → Grows x (script_brackets b s) (script_brackets b' t)
brackets-grow b b' {s = s} {t} p = let l = p.by in record { by = omega (arith, length-brackets b s, length-brackets b' t) }

operand-longest : (b : Bool) (s : List ℕ) → length (operand b s) ≤ length s + 2
operand-longest true s = omega arith
operand-longest false s = omega (arith, length-append s (bytes ")"))

length-frac : (s t : List ℕ) → length (frac s t) ≡ length s + length t + 9
length-frac s t = omega (arith, length-append s (bytes "}{" ++ (t ++ bytes "}")), length-append t (bytes "}"))

-- a fraction that has its slash gains a symbol of its own
slash-grows : (b c : Bool) {x y : ℕ} {s s' t t' : List ℕ} → Grows x s s' → Grows y t t' → Grows (suc (x + y)) (slashed (operand b s) (operand c t)) (frac s' t')
slash-grows b c {s = s} {s'} {t} {t'} p q =
    let l = p.by in let m = q.by in
    record { by = omega (arith, operand-longest b s, operand-longest c t, length-append (operand b s) (bytes "/" ++ operand c t), length-frac s' t') }

frac-grows : {x y : ℕ} {s s' t t' : List ℕ} → Grows x s s' → Grows y t t' → Grows (x + y) (frac s t) (frac s' t')
frac-grows {s = s} {s'} {t} {t'} p q = let l = p.by in let m = q.by in record { by = omega (arith, length-frac s t, length-frac s' t') }

-- ---- atoms: in the end every Greek name has its backslash
lead-grows : (b : Bool) → length (cond b (bytes "\\") []) ≤ 1
lead-grows true = omega arith
lead-grows false = omega arith

atom-grows : (k : ℕ) (a : Atom) → Grows 0 (atom_writing k a) (atom_writing 30 a)
atom-grows k (variable c e) = same_grows
atom-grows k (greek i e) = rw e (record { by = omega (arith, lead-grows (ltb i k), length-append (cond (ltb i k) (bytes "\\") []) (greek_name i)) })
atom-grows k (number ds e b) = same_grows

-- ---- trees: any text before sizing, and a later text with every fraction stacked
-- the rounds to come behind n rounds, where two parts have the heights a and b
either-more : (a b n : ℕ) → max a b - n ≤ (a - n) + (b - n)
either-more a b n = omega arith

slash-more : (a b n : ℕ) → suc (max a b) - n ≤ suc ((a - n) + (b - n))
slash-more a b n = omega arith

module _ (k : ℕ) (b c : Bool) (b' c' : Bool) where
  abbrev early : Style
  early = record { greeks = k; low = b; high = c; sized = false }

  abbrev late : Bool → Style
  late z = record { greeks = 30; low = b'; high = c'; sized = z }

  abbrev TreeGrows : Bool → ℕ → ℕ → Tree → Type 0
  TreeGrows z n m t = Grows (height t - n) (write early n t) (write (late z) m t)

  fraction-grows : (z : Bool) (n m : ℕ) (t u : Tree) → height t ≤ m
      → TreeGrows z n m t → TreeGrows z n m u → TreeGrows z (pred n) m t → TreeGrows z (pred n) m u → TreeGrows z n (suc m) (fraction t u)
  unfolding write
  fraction-grows z n m t u h p q p' q' =
      rw (stacked (late z) m t u h) (go n (fewer (slash-more (height t) (height u) n) (slash-grows (lone t) (lone u) p q)) (frac-grows p' q'))
    where
      go : (n : ℕ)
          → Grows (suc (max (height t) (height u)) - n) (slashed (operand (lone t) (write early n t)) (operand (lone u) (write early n u))) (frac (write (late z) m t) (write (late z) m u))
          → Grows ((height t - pred n) + (height u - pred n)) (frac (write early (pred n) t) (write early (pred n) u)) (frac (write (late z) m t) (write (late z) m u))
          → Grows (suc (max (height t) (height u)) - n) (write early n (fraction t u)) (frac (write (late z) m t) (write (late z) m u))
      go zero left done = left
      go (suc n) left done =
          either_way (λ (s : List ℕ). Grows (suc (max (height t) (height u)) - suc n) s (frac (write (late z) m t) (write (late z) m u))) (unstacked (suc n) t) left
          (fewer (omega (arith, either-more (height t) (height u) n)) done)

  mutual
    unfolding write write_script

    tree-grows : (z : Bool) (n m : ℕ) (t : Tree) → height t ≤ m → TreeGrows z n m t
    tree-grows z n m (atom a l h) d =
        fewer (omega (arith, either-more (height_script l) (height_script h) n))
        (append-grows (atom-grows k a) (append-grows (script-grows z n m (bytes "_") b b' l (omega arith)) (script-grows z n m (bytes "^") c c' h (omega arith))))
    tree-grows z n zero (fraction t u) d = absurd (omega arith)
    tree-grows z n (suc m) (fraction t u) d =
        fraction-grows z n m t u (omega arith) (tree-grows z n m t (omega arith)) (tree-grows z n m u (omega arith)) (tree-grows z (pred n) m t (omega arith)) (tree-grows z (pred n) m u (omega arith))
    tree-grows z n m (group t) d = parens-grow (z && not (slashless t)) (tree-grows z n m t d)
    tree-grows z n m (row t j u) d =
        fewer (omega (arith, either-more (height t) (height u) n)) (append-grows (tree-grows z n m t (omega arith)) (append-grows (same_grows {s = join_text j}) (tree-grows z n m u (omega arith))))

    script-grows : (z : Bool) (n m : ℕ) (sign : List ℕ) (x y : Bool) (s : TreeScript) → height_script s ≤ m → Grows (height_script s - n) (write_script early n sign x s) (write_script (late z) m sign y s)
    script-grows z n m sign x y bare d = fewer (omega arith) same_grows
    script-grows z n m sign x y (symbol s e) d = fewer (omega arith) same_grows
    script-grows z n m sign x y (inner t) d = fewer (omega arith) (append-grows (same_grows {s = sign}) (brackets-grow x y (tree-grows false n m t d)))

pub latex-longest : (k : ℕ) (b c z : Bool) (n : ℕ) (t : Tree) → length (write (record { greeks = k; low = b; high = c; sized = false }) n t) ≤ length (tree_latex z t)
latex-longest k b c z n t = let l = (tree-grows k b c true true z n (height t) t (le_refl (height t))).by in omega arith

pub rounds-grow : (n : ℕ) (t : Tree) → length (write braced_style n t) + (height t - n) ≤ length (write braced_style (height t) t)
rounds-grow n t = (tree-grows 30 true true true true false n (height t) t (le_refl (height t))).by
