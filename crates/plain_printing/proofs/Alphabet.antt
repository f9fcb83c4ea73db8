-- The symbols of a tree's text at every stage, and its last one.
use Rattle.std.specs.Prelude.{◌≡◌, refl, Bool, true, false, not, ◌&&◌, ◌||◌, cond, ℕ, pred, ◌≤◌, eqb, ltb, leb, length}
use Rattle.std.proofs.Common.{sym, ap, ◌∙◌, true≢false, arith, eqb-true, ltb-true, leb-true, le-leb}
use Rattle.std.proofs.Math.Bool.{and-false}
use mathlib.Core.List.{List, [], ◌∷◌, ◌++◌, reverse_aux}
use Prim.Native.Char.{code}
use Rattle.spec.specs.Symbols.{bytes, digit, alnum, all, starts, ends, between, letter, foreign, any, find}
use Rattle.spec.specs.Grammar.{Atom, variable, greek, number, greek_names, greek_name}
use Rattle.spec.specs.Laws.Booleans.{and_left, and_right, and_both, or_split, untrue}
use Rattle.spec.specs.Laws.Names.{row-rule}
use Rattle.spec.specs.Laws.Symbols.{find_past}
use Rattle.plain_printing.specs.Tree.{Tree, TreeScript, Style, Join, beside, plus, minus, atom, fraction, group, row, bare, symbol, inner, atom_writing, join_text, operand, lone, slashless, parens, script_brackets, unstacked, unsized, write, write_script, either_way}
use Rattle.plain_printing.specs.Classes.{apart, all-weaken, all_append, any_of, any-all}
use Rattle.plain_printing.specs.Rule.{ends_factor, last}
use Rattle.plain_printing.proofs.Unlatex.{letter-alnum, digit-alnum, greek-alnum}
use Rattle.std.proofs.Math.Option.{none}

abbrev pub plain_symbol : ℕ → Bool
plain_symbol x = alnum x || any_of (bytes " +-/()_^{}\\") x

alnum-plain : (x : ℕ) → alnum x ≡ true → plain_symbol x ≡ true
alnum-plain x h = rw h

-- a text of plain symbols (a record, so that antt finds the text)
record Plainly (s : List ℕ) : Type 0 where
  plainly : all plain_symbol s ≡ true

these : (s : List ℕ) → all plain_symbol s ≡ true → Plainly s
these s h = record { plainly = h }

infixr 20 ◌then◌
◌then◌ : {s t : List ℕ} → Plainly s → Plainly t → Plainly (s ++ t)
◌then◌ {s} {t} p q = record { plainly = all_append plain_symbol s t p.plainly q.plainly }

words-plainly : (s : List ℕ) → all alnum s ≡ true → Plainly s
words-plainly s h = these s (all-weaken alnum plain_symbol alnum-plain s h)

lead-plainly : (b : Bool) → Plainly (cond b (bytes "\\") [])
lead-plainly true = these (bytes "\\") refl
lead-plainly false = these [] refl

atom-plainly : (k : ℕ) (a : Atom) → Plainly (atom_writing k a)
atom-plainly k (variable c e) = words-plainly (c ∷ []) (rw (letter-alnum c e))
atom-plainly k (greek i e) = lead-plainly (ltb i k) then words-plainly (greek_name i) (greek-alnum i e)
atom-plainly k (number ds e b) = words-plainly ds (all-weaken digit alnum digit-alnum ds e)

join-plainly : (j : Join) → Plainly (join_text j)
join-plainly beside = these (bytes " ") refl
join-plainly plus = these (bytes " + ") refl
join-plainly minus = these (bytes " - ") refl

operand-plainly : (b : Bool) {s : List ℕ} → Plainly s → Plainly (operand b s)
operand-plainly true p = p
operand-plainly false p = these (bytes "(") refl then p then these (bytes ")") refl

parens-plainly : (b : Bool) {s : List ℕ} → Plainly s → Plainly (parens b s)
parens-plainly true p = these (bytes "\\left(") refl then p then these (bytes "\\right)") refl
parens-plainly false p = these (bytes "(") refl then p then these (bytes ")") refl

group-plainly : (b : Bool) {s : List ℕ} → Plainly s → Plainly (script_brackets b s)
group-plainly true p = these (bytes "{") refl then p then these (bytes "}") refl
group-plainly false p = these (bytes "(") refl then p then these (bytes ")") refl

mutual
  unfolding write write_script

  tree-plainly : (s : Style) (n : ℕ) (t : Tree) → Plainly (write s n t)
  tree-plainly s n (atom a l h) =
      atom-plainly s.greeks a then script-plainly s n (bytes "_") refl s.low l then script-plainly s n (bytes "^") refl s.high h
  tree-plainly s n (fraction t u) =
      either_way Plainly (unstacked n t) (operand-plainly (lone t) (tree-plainly s n t) then these (bytes "/") refl then operand-plainly (lone u) (tree-plainly s n u))
      (these (bytes "\\frac{") refl then tree-plainly s (pred n) t then these (bytes "}{") refl then tree-plainly s (pred n) u then these (bytes "}") refl)
  tree-plainly s n (group t) = parens-plainly (s.sized && not (slashless t)) (tree-plainly s n t)
  tree-plainly s n (row t j u) = tree-plainly s n t then join-plainly j then tree-plainly s n u

  script-plainly : (s : Style) (n : ℕ) (m : List ℕ) → all plain_symbol m ≡ true → (b : Bool) (c : TreeScript) → Plainly (write_script s n m b c)
  script-plainly s n m h b bare = these [] refl
  script-plainly s n m h b (symbol c e) = these m h then words-plainly (c ∷ []) (rw e)
  script-plainly s n m h b (inner t) = these m h then group-plainly b (tree-plainly (unsized s) n t)

pub all_plain : (s : Style) (n : ℕ) (t : Tree) → all plain_symbol (write s n t) ≡ true
all_plain s n t = (tree-plainly s n t).plainly

-- ---- no symbol of a plain formula is foreign
abbrev printable : ℕ → Bool
printable x = between (code " ") (code "~") x

wider : (a b x : ℕ) → code " " ≤ a → b ≤ code "~" → between a b x ≡ true → printable x ≡ true
wider a b x p q h =
    let low : a ≤ x = leb-true a x (and_left (leb a x) (leb x b) h) in
    let high : x ≤ b = leb-true x b (and_right (leb a x) (leb x b) h) in
    and_both (le-leb (code " ") x (omega arith)) (le-leb x (code "~") (omega arith))

plain-printable : (x : ℕ) → plain_symbol x ≡ true → printable x ≡ true
plain-printable x h =
    or_split (alnum x) (any_of (bytes " +-/()_^{}\\") x) h
    (λ e. or_split (letter x) (digit x) e
    (λ f. or_split (between (code "a") (code "z") x) (between (code "A") (code "Z") x) f (wider (code "a") (code "z") x (omega arith) (omega arith)) (wider (code "A") (code "Z") x (omega arith) (omega arith)))
    (wider (code "0") (code "9") x (omega arith) (omega arith)))
    (any-all printable (bytes " +-/()_^{}\\") x refl)

pub not-foreign : (s : List ℕ) → all plain_symbol s ≡ true → any foreign s ≡ false
not-foreign [] h = refl
not-foreign (x ∷ s) h = rw (plain-printable x (and_left (plain_symbol x) (all plain_symbol s) h)) (not-foreign s (and_right (plain_symbol x) (all plain_symbol s) h))

-- ---- a pattern with a foreign symbol is absent
starts-all : (f : ℕ → Bool) (w s : List ℕ) → all f s ≡ true → starts w s ≡ true → all f w ≡ true
starts-all f [] s h e = refl
starts-all f (k ∷ w) [] h e = absurd (true≢false (sym e))
starts-all f (k ∷ w) (x ∷ s) h e =
    let equal : x ≡ k = eqb-true x k (and_right (starts w s) (eqb x k) e) in
    and_both (rw equal at (and_left (f x) (all f s) h)) (starts-all f w s (and_right (f x) (all f s) h) (and_left (starts w s) (eqb x k) e))

strange-absent : (w : List ℕ) → all plain_symbol w ≡ false → (s : List ℕ) → all plain_symbol s ≡ true → find w s ≡ none
unfolding find
strange-absent w h [] k = refl
strange-absent w h (x ∷ s) k =
    find_past w x s (untrue (starts w (x ∷ s)) (λ t. true≢false (sym (starts-all plain_symbol w (x ∷ s) k t) ∙ h)))
    ∙ strange-absent w h s (and_right (plain_symbol x) (all plain_symbol s) k)

pub absent-foreign : (w : List ℕ) → all plain_symbol w ≡ false → (s : Style) (n : ℕ) (t : Tree) → find w (write s n t) ≡ none
absent-foreign w h s n t = strange-absent w h (write s n t) (all_plain s n t)

-- ---- the last symbol is a letter, a digit or a closing bracket
last-append : (u s : List ℕ) (b : ℕ) → last b (u ++ s) ≡ last (last b u) s
last-append [] s b = refl
last-append (x ∷ u) s b = last-append u s x

pub record Ends (s : List ℕ) : Type 0 where
  pub ends-closed : (b : ℕ) → ends_factor (last b s) ≡ true

record Keeps (s : List ℕ) : Type 0 where
  keeps-closed : (b : ℕ) → ends_factor b ≡ true → ends_factor (last b s) ≡ true

behind : (u : List ℕ) {s : List ℕ} → Ends s → Ends (u ++ s)
behind u {s} p = record { ends-closed = λ b. rw (last-append u s b) (p.ends-closed (last b u)) }

kept : {s t : List ℕ} → Ends s → Keeps t → Ends (s ++ t)
kept {s} {t} p q = record { ends-closed = λ b. rw (last-append s t b) (q.keeps-closed (last b s) (p.ends-closed b)) }

keeps-both : {s t : List ℕ} → Keeps s → Keeps t → Keeps (s ++ t)
keeps-both {s} {t} p q = record { keeps-closed = λ b h. rw (last-append s t b) (q.keeps-closed (last b s) (p.keeps-closed b h)) }

ends-keeps : {s : List ℕ} → Ends s → Keeps s
ends-keeps p = record { keeps-closed = λ b h. p.ends-closed b }

ends-one : (c : ℕ) → ends_factor c ≡ true → Ends (c ∷ [])
ends-one c h = record { ends-closed = λ b. h }

words-end : (s : List ℕ) → all alnum s ≡ true → (b : ℕ) → alnum b ≡ true → ends_factor (last b s) ≡ true
words-end [] h b e = rw e
words-end (x ∷ s) h b e = words-end s (and_right (alnum x) (all alnum s) h) x (and_left (alnum x) (all alnum s) h)

words-ends : (s : List ℕ) → all alnum s ≡ true → ltb 0 (length s) ≡ true → Ends s
words-ends [] h n = absurd (true≢false (sym n))
words-ends (x ∷ s) h n = record { ends-closed = λ b. words-end s (and_right (alnum x) (all alnum s) h) x (and_left (alnum x) (all alnum s) h) }

greek-long : (i : ℕ) → ltb i 30 ≡ true → ltb 0 (length (greek_name i)) ≡ true
unfolding greek_name
greek-long i e = row-rule (λ w. ltb 0 (length w)) greek_names refl i (ltb-true i 30 e)

atom-ends : (k : ℕ) (a : Atom) → Ends (atom_writing k a)
atom-ends k (variable c e) = words-ends (c ∷ []) (rw (letter-alnum c e)) refl
atom-ends k (greek i e) = behind (cond (ltb i k) (bytes "\\") []) (words-ends (greek_name i) (greek-alnum i e) (greek-long i e))
atom-ends k (number ds e b) = words-ends ds (all-weaken digit alnum digit-alnum ds e) (and_left (ltb 0 (length ds)) (ltb (length ds) 10) b)

operand-ends : (b : Bool) {s : List ℕ} → Ends s → Ends (operand b s)
operand-ends true p = p
operand-ends false {s} p = behind (bytes "(") (behind s (ends-one (code ")") refl))

parens-ends : (b : Bool) (s : List ℕ) → Ends (parens b s)
parens-ends true s = behind (bytes "\\left(") (behind s (behind (bytes "\\right") (ends-one (code ")") refl)))
parens-ends false s = behind (bytes "(") (behind s (ends-one (code ")") refl))

group-ends : (b : Bool) (s : List ℕ) → Ends (script_brackets b s)
group-ends true s = behind (bytes "{") (behind s (ends-one (code "}") refl))
group-ends false s = behind (bytes "(") (behind s (ends-one (code ")") refl))

script-keeps : (s : Style) (n : ℕ) (m : List ℕ) (b : Bool) (c : TreeScript) → Keeps (write_script s n m b c)
unfolding write_script
script-keeps s n m b bare = record { keeps-closed = λ b h. h }
script-keeps s n m b (symbol c e) = ends-keeps (behind m (words-ends (c ∷ []) (rw e) refl))
script-keeps s n m b (inner t) = ends-keeps (behind m (group-ends b (write (unsized s) n t)))

pub tree-ends : (s : Style) (n : ℕ) (t : Tree) → Ends (write s n t)
unfolding write
tree-ends s n (atom a l h) = kept (atom-ends s.greeks a) (keeps-both (script-keeps s n (bytes "_") s.low l) (script-keeps s n (bytes "^") s.high h))
tree-ends s n (fraction t u) =
    either_way Ends (unstacked n t) (behind (operand (lone t) (write s n t)) (behind (bytes "/") (operand-ends (lone u) (tree-ends s n u))))
    (behind (bytes "\\frac{") (behind (write s (pred n) t) (behind (bytes "}{") (behind (write s (pred n) u) (ends-one (code "}") refl)))))
tree-ends s n (group t) = parens-ends (s.sized && not (slashless t)) (write s n t)
tree-ends s n (row t j u) = behind (write s n t) (behind (join_text j) (tree-ends s n u))

-- so no stage ends in a line break
first-of-reverse : (s r : List ℕ) (k : ℕ) (w : List ℕ) (b : ℕ) → eqb (last b s) k ≡ false → starts (k ∷ w) (reverse_aux s (b ∷ r)) ≡ false
first-of-reverse [] r k w b h = ap (λ c. starts w r && c) h ∙ and-false (starts w r)
first-of-reverse (x ∷ s) r k w b h = first-of-reverse s (b ∷ r) k w x h

no-break : (s : List ℕ) → Ends s → ends (bytes " \\") s ≡ false
no-break [] p = refl
no-break (x ∷ s) p = first-of-reverse s [] (code "\\") (bytes " ") x (apart ends_factor (last x s) (code "\\") (p.ends-closed 0) refl)

pub ends-plain : (s : Style) (n : ℕ) (t : Tree) → ends (bytes " \\") (write s n t) ≡ false
ends-plain s n t = no-break (write s n t) (tree-ends s n t)
