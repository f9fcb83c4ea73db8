-- Soundness: what a reader has read is the text of a proper tree, and what it counted is what the tree has. Assumes nothing.
use Rattle.std.specs.Prelude.{◌≡◌, Bool, not, ◌&&◌, ◌||◌, ℕ, zero, suc, ◌+◌, ◌<◌, eqb, ltb, take}
use Rattle.std.proofs.Math.Path.{refl, sym, ap, ap₂}
use Rattle.std.proofs.Common.{◌∙◌, true≢false, add-zero, arith, take-append-drop, get_or-drop}
use Rattle.std.proofs.Math.Bool.{true, false, cond}
use Rattle.std.proofs.lemmas.Bool.{false≢true}
use mathlib.Core.List.{List, [], ◌∷◌, ◌++◌, append_assoc}
use Prim.Native.Char.{code}
use Rattle.std.proofs.Math.ListN.{length, drop}
use Rattle.std.proofs.Math.Seq.{drop-drop, length-take-le}
use borrow.Author.Tests.{eqb-true, ltb-true}
use Rattle.spec.specs.Symbols.{is, bytes, alnum}
use Rattle.spec.specs.Grammar.{product, factor, beside, scripted, fraction, group, Operand, atom, enclosed, Script, bare, symbol, inner, proper, proper_product, proper_factor, proper_script, atom_text, text, product_text, factor_text, operand_text, script_text}
use Rattle.spec.specs.Laws.Booleans.{and_left, and_right, and_both, or_split}
use Rattle.plain_parts.specs.declared.PlainPart.{PlainPart}
use Rattle.std.specs.Prelude.{Some, None}
use Rattle.plain_parts.specs.Parts.{Read, at, either, and_then, leaf, join, with_scripts, wrap, as_script, indivisible, adjoined, divided, scripted as scripted_read, closed, enclosed_script}
use Rattle.plain_check.specs.Tokens.{run, is_atom, atom_length, sign_next, factor_next}
use Rattle.plain_check.specs.Readers.{read_sum, read_product, read_factor, read_operand, read_scripts, read_script}
use Rattle.plain_check.specs.Rooms.{run_room}
use Rattle.plain_check.specs.Atoms.{spelled, atom-begins-alnum}
use Rattle.plain_check.specs.Trees.{Sign, plus, minus, signed, sign_text, signed-text, signed-proper, proper_inside, unbarred-proper, sum_part, product_part, factor_part, operand_part, script_part, scripts_part, product-part, signed_part, factor-part, beside-part, atom-part, enclosed-part, group-part, fraction-part, scripted-part, bare-part, symbol-part, inner-part}
use Rattle.plain_check.specs.Complete.{spread}

-- a proper tree at the front of xs, of which p is counted
pub record TreeAt {T : Type 0} (fine : T → Bool) (written : T → List ℕ) (part : T → PlainPart) (xs : List ℕ) (p : PlainPart) : Type 0 where
  pub tree : T
  pub is-fine : fine tree ≡ true
  pub counted : part tree ≡ p
  pub split : written tree ++ drop p.used xs ≡ xs

abbrev pub OfSum : List ℕ → PlainPart → Type 0
OfSum = TreeAt proper text sum_part

abbrev OfProduct : List ℕ → PlainPart → Type 0
OfProduct = TreeAt proper_product product_text product_part

abbrev OfFactor : List ℕ → PlainPart → Type 0
OfFactor = TreeAt proper_factor factor_text factor_part

abbrev OfOperand : List ℕ → PlainPart → Type 0
OfOperand = TreeAt proper_inside operand_text operand_part

abbrev OfScript : ℕ → List ℕ → PlainPart → Type 0
OfScript sign = TreeAt proper_script (script_text (sign ∷ [])) (script_part sign)

-- both scripts of an atom
record Pair : Type 0 where
  low : Script
  high : Script

abbrev OfScripts : List ℕ → PlainPart → Type 0
OfScripts =
    TreeAt (λ (t : Pair). proper_script t.low && proper_script t.high)
    (λ (t : Pair). script_text (bytes "_") t.low ++ script_text (bytes "^") t.high)
    (λ (t : Pair). scripts_part t.low t.high)

-- ---- what was read, if anything was
abbrev pub WhenFound : (PlainPart → Type 0) → Read → Type 0
WhenFound R None = Unit {0}
WhenFound R (Some p) = R p

module _ (R S : PlainPart → Type 0) where
  then : (r : Read) (f : PlainPart → Read) → WhenFound R r → ((p : PlainPart) → R p → WhenFound S (f p)) → WhenFound S (and_then r f)
  then None f s g = tt
  then (Some p) f s g = g p s

module _ (S : PlainPart → Type 0) (a c : Unit {0} → Read) where
  choose : (b : Bool) → (b ≡ true → WhenFound S (a tt)) → (b ≡ false → WhenFound S (c tt)) → WhenFound S (either b a c)
  choose true f g = f refl
  choose false f g = g refl

-- ---- the symbols that tests found
first : (xs : List ℕ) (b : ℕ) → 0 < b → at xs 0 ≡ b → xs ≡ b ∷ drop 1 xs
first [] b h e = absurd (omega arith)
first (x ∷ xs) b h e = ap (λ (y : ℕ). y ∷ xs) e

space-at : (xs : List ℕ) → factor_next xs ≡ true → xs ≡ bytes " " ++ drop 1 xs
space-at xs t =
    let space = is " " (at xs 0) in
    first xs (code " ") (omega arith) (eqb-true (at xs 0) (code " ") (and_left space (not (is "+" (at xs 1))) (and_left (space && not (is "+" (at xs 1))) (not (is "-" (at xs 1))) t)))

record Signed (xs : List ℕ) : Type 0 where
  sign : Sign
  stands : xs ≡ sign_text sign ++ drop 3 xs

three : {a b c x y z : ℕ} (xs : List ℕ) → x ≡ a → y ≡ b → z ≡ c → x ∷ y ∷ z ∷ xs ≡ (a ∷ b ∷ c ∷ []) ++ xs
three xs e f g = rw (e, f, g)

sign_at : (xs : List ℕ) → sign_next xs ≡ true → Signed xs
sign_at [] h = absurd (false≢true h)
sign_at (x ∷ []) h = absurd (false≢true (and_right (is " " x && false) false h))
sign_at (x ∷ y ∷ []) h = absurd (false≢true (and_right (is " " x && (is "+" y || is "-" y)) false h))
sign_at (x ∷ y ∷ z ∷ xs) h =
    let signs = is "+" y || is "-" y in
    let before = and_left (is " " x && signs) (is " " z) h in
    let space = eqb-true x (code " ") (and_left (is " " x) signs before) in
    let behind = eqb-true z (code " ") (and_right (is " " x && signs) (is " " z) h) in
    or_split (is "+" y) (is "-" y) (and_right (is " " x) signs before)
    (λ e. record { sign = plus; stands = three xs space (eqb-true y (code "+") e) behind })
    (λ e. record { sign = minus; stands = three xs space (eqb-true y (code "-") e) behind })

-- ---- three stretches of a text, one behind the other
stretches : (xs us gs vs : List ℕ) (m g n : ℕ) → us ++ drop m xs ≡ xs → drop m xs ≡ gs ++ drop g (drop m xs) → vs ++ drop n (drop g (drop m xs)) ≡ drop g (drop m xs)
    → (us ++ gs ++ vs) ++ drop (m + g + n) xs ≡ xs
stretches xs us gs vs m g n a e b = rw (← drop-drop n (m + g) xs, ← drop-drop g m xs, spread us gs vs (drop n (drop g (drop m xs))), b, ← e, a)

-- ---- one step of a reader, from the trees of its callees
module _ (xs : List ℕ) where
  product-sound : (p : PlainPart) → OfProduct xs p → OfSum xs p
  unfolding text
  product-sound p a = record { tree = product a.tree; is-fine = a.is-fine; counted = product-part a.tree ∙ a.counted; split = a.split }

  signed-sound : (p : PlainPart) (r : Read) → OfProduct xs p → sign_next (drop p.used xs) ≡ true → WhenFound (OfSum (drop 3 (drop p.used xs))) r → WhenFound (OfSum xs) (adjoined p 3 r)
  signed-sound p None a t b = tt
  signed-sound p (Some q) a t b =
      let s = sign_at (drop p.used xs) t in
      record {
        tree = signed s.sign a.tree b.tree;
        is-fine = signed-proper s.sign a.tree b.tree ∙ and_both a.is-fine b.is-fine;
        counted = signed_part s.sign a.tree b.tree ∙ ap₂ (λ u v. join u 3 v) a.counted b.counted;
        split =
            rw (signed-text s.sign a.tree b.tree)
            (stretches xs (product_text a.tree) (sign_text s.sign) (text b.tree) p.used 3 q.used a.split s.stands b.split);
      }

  factor-sound : (p : PlainPart) → OfFactor xs p → OfProduct xs p
  unfolding text
  factor-sound p a = record { tree = factor a.tree; is-fine = a.is-fine; counted = factor-part a.tree ∙ a.counted; split = a.split }

  beside-sound : (p : PlainPart) (r : Read) → OfFactor xs p → factor_next (drop p.used xs) ≡ true → WhenFound (OfProduct (drop 1 (drop p.used xs))) r → WhenFound (OfProduct xs) (adjoined p 1 r)
  unfolding text
  beside-sound p None a t b = tt
  beside-sound p (Some q) a t b =
      record {
        tree = beside a.tree b.tree;
        is-fine = and_both a.is-fine b.is-fine;
        counted = beside-part a.tree b.tree ∙ ap₂ (λ u v. join u 1 v) a.counted b.counted;
        split = stretches xs (factor_text a.tree) (bytes " ") (product_text b.tree) p.used 1 q.used a.split (space-at (drop p.used xs) t) b.split;
      }

  fraction_sound : (p : PlainPart) (r : Read) → OfOperand xs p → at (drop p.used xs) 0 ≡ code "/" → WhenFound (OfOperand (drop 1 (drop p.used xs))) r → WhenFound (OfFactor xs) (divided p r)
  unfolding text
  fraction_sound p None a t b = tt
  fraction_sound p (Some q) a t b = choose (OfFactor xs) (λ _. None) (λ _. Some (join p 1 q)) (indivisible p q) (λ _. tt) λ bar.
      record {
        tree = fraction a.tree b.tree;
        is-fine = unbarred-proper a.tree b.tree (ap₂ indivisible a.counted b.counted ∙ bar) a.is-fine b.is-fine;
        counted = fraction-part a.tree b.tree ∙ ap₂ (λ u v. join u 1 v) a.counted b.counted;
        split = stretches xs (operand_text a.tree) (bytes "/") (operand_text b.tree) p.used 1 q.used a.split (first (drop p.used xs) (code "/") (omega arith) t) b.split;
      }

  scripted-sound : (p : PlainPart) (r : Read) → OfOperand xs p → p.lone ≡ true → WhenFound (OfScripts (drop p.used xs)) r → WhenFound (OfFactor xs) (scripted_read p r)
  unfolding text
  scripted-sound p None a l b = tt
  scripted-sound p (Some q) a l b = by a.tree a.counted a.split
    where
      by : (t : Operand) → operand_part t ≡ p → operand_text t ++ drop p.used xs ≡ xs → OfFactor xs (with_scripts p q)
      by (atom x) k s =
          let low = script_text (bytes "_") b.tree.low in
          let high = script_text (bytes "^") b.tree.high in
          record {
            tree = scripted x b.tree.low b.tree.high;
            is-fine = b.is-fine;
            counted = scripted-part x b.tree.low b.tree.high ∙ ap₂ with_scripts (sym (atom-part x) ∙ k) b.counted;
            split =
                rw (← drop-drop q.used p.used xs, append_assoc (atom_text x) low high, append_assoc (atom_text x) (low ++ high) (drop q.used (drop p.used xs)))
                (ap (λ (l : List ℕ). atom_text x ++ l) b.split ∙ s);
          }
      by (enclosed s) k e = absurd (false≢true (ap (λ (u : PlainPart). u.lone) k ∙ l))

  group-sound : (p : PlainPart) → OfOperand xs p → p.lone ≡ false → OfFactor xs p
  unfolding text
  group-sound p a l = by a.tree a.is-fine a.counted a.split
    where
      by : (t : Operand) → proper_inside t ≡ true → operand_part t ≡ p → operand_text t ++ drop p.used xs ≡ xs → OfFactor xs p
      by (atom x) g k s = absurd (true≢false (ap (λ (u : PlainPart). u.lone) k ∙ l))
      by (enclosed s) g k e = record { tree = group s; is-fine = g; counted = group-part s ∙ k; split = e }

  atom-sound : 0 < atom_length xs → OfOperand xs (leaf (atom_length xs) 1 true)
  unfolding text
  atom-sound h = by (is_atom (take (run xs) xs)) refl h
    where
      by : (b : Bool) → is_atom (take (run xs) xs) ≡ b → 0 < cond b (run xs) 0 → OfOperand xs (leaf (cond b (run xs) 0) 1 true)
      by true e h =
          let a = spelled (take (run xs) xs) e in
          record {
            tree = atom a.atom;
            is-fine = refl;
            counted = atom-part a.atom ∙ ap (λ (n : ℕ). leaf n 1 true) (ap length a.spells ∙ length-take-le (run xs) xs (run_room xs));
            split = rw a.spells (take-append-drop (run xs) xs);
          }
      by false e h = absurd (omega arith)

  behind-one : (n : ℕ) → drop (n + 1) xs ≡ drop n (drop 1 xs)
  behind-one n = let e : n + 1 ≡ 1 + n = omega arith in rw (drop-drop n 1 xs, e)

  between : (n : ℕ) → drop (n + 2) xs ≡ drop 1 (drop n (drop 1 xs))
  between n = let e : n + 2 ≡ 1 + n + 1 = omega arith in rw (drop-drop n 1 xs, drop-drop 1 (1 + n) xs, e)

  enclosed-sound : (r : Read) → at xs 0 ≡ code "(" → WhenFound (OfSum (drop 1 xs)) r → WhenFound (OfOperand xs) (closed (drop 1 xs) r)
  unfolding text
  enclosed-sound None t a = tt
  enclosed-sound (Some p) t a = let ys = drop 1 xs in
      choose (OfOperand xs) (λ _. Some (wrap p)) (λ _. None) (is ")" (at ys p.used)) (λ e.
      record {
        tree = enclosed a.tree;
        is-fine = a.is-fine;
        counted = enclosed-part a.tree ∙ ap wrap a.counted;
        split =
            let close = first (drop p.used ys) (code ")") (omega arith) (get_or-drop p.used ys 0 0 ∙ ap (at ys) (add-zero p.used) ∙ eqb-true (at ys p.used) (code ")") e) in
            rw (between p.used, append_assoc (text a.tree) (bytes ")") (drop 1 (drop p.used ys)))
            (ap (λ (l : List ℕ). code "(" ∷ text a.tree ++ l) (sym close) ∙ ap (λ (l : List ℕ). code "(" ∷ l) a.split ∙ sym (first xs (code "(") (omega arith) t));
      })
      (λ _. tt)

  scripts-sound : (p : PlainPart) (r : Read) → OfScript (code "_") xs p → WhenFound (OfScript (code "^") (drop p.used xs)) r → WhenFound (OfScripts xs) (adjoined p 0 r)
  scripts-sound p None a b = tt
  scripts-sound p (Some q) a b =
      record {
        tree = record { low = a.tree; high = b.tree };
        is-fine = and_both a.is-fine b.is-fine;
        counted = ap₂ (λ u v. join u 0 v) a.counted b.counted;
        split =
            let low = script_text (bytes "_") a.tree in
            rw (← drop-drop q.used (p.used + 0) xs, add-zero p.used, append_assoc low (script_text (bytes "^") b.tree) (drop q.used (drop p.used xs)), b.split, a.split);
      }

module _ (sign : ℕ) (xs : List ℕ) (some : 0 < sign) (stands : at xs 0 ≡ sign) where
  symbol-sound : alnum (at (drop 1 xs) 0) ≡ true → OfScript sign xs (leaf 2 0 false)
  unfolding text
  symbol-sound w = by xs stands w
    where
      by : (xs : List ℕ) → at xs 0 ≡ sign → alnum (at (drop 1 xs) 0) ≡ true → OfScript sign xs (leaf 2 0 false)
      by [] t w = absurd (omega arith)
      by (x ∷ []) t w = absurd (false≢true w)
      by (x ∷ y ∷ xs) t w = record { tree = symbol y w; is-fine = refl; counted = symbol-part sign y w; split = rw t }

  inner-sound : (r : Read) → alnum (at (drop 1 xs) 0) ≡ false → WhenFound (OfOperand (drop 1 xs)) r → WhenFound (OfScript sign xs) (enclosed_script r)
  unfolding text
  inner-sound None w a = tt
  inner-sound (Some p) w a =
      choose (OfScript sign xs) (λ _. Some (as_script p)) (λ _. None) p.scriptless (λ e. by e a.tree a.is-fine a.counted a.split) (λ _. tt)
    where
      by : p.scriptless ≡ true → (t : Operand) → proper_inside t ≡ true → operand_part t ≡ p → operand_text t ++ drop p.used (drop 1 xs) ≡ drop 1 xs → OfScript sign xs (as_script p)
      by e (atom x) g k s = absurd (false≢true (sym w ∙ ap (λ (l : List ℕ). alnum (at l 0)) (sym s) ∙ atom-begins-alnum x (drop p.used (drop 1 xs))))
      by e (enclosed s) g k f =
          record {
            tree = inner s;
            is-fine = and_both (ap (λ (u : PlainPart). u.scriptless) k ∙ e) g;
            counted = inner-part sign s ∙ ap as_script k;
            split = rw (behind-one xs p.used) (ap (λ (l : List ℕ). sign ∷ l) f ∙ sym (first xs sign some stands));
          }

bare-sound : (sign : ℕ) (xs : List ℕ) → OfScript sign xs (leaf 0 0 true)
unfolding text
bare-sound sign xs = record { tree = bare; is-fine = refl; counted = bare-part sign; split = refl }

-- ---- each reader
mutual
  unfolding read_sum

  pub sound-sum : (k : ℕ) (xs : List ℕ) → WhenFound (OfSum xs) (read_sum k xs)
  sound-sum zero xs = tt
  sound-sum (suc k) xs = then (OfProduct xs) (OfSum xs) (read_product k xs) _ (sound-product k xs) λ p a. let ys = drop p.used xs in
      choose (OfSum xs) _ _ (sign_next ys) (λ t. signed-sound xs p (read_sum k (drop 3 ys)) a t (sound-sum k (drop 3 ys))) (λ _. product-sound xs p a)

  sound-product : (k : ℕ) (xs : List ℕ) → WhenFound (OfProduct xs) (read_product k xs)
  sound-product zero xs = tt
  sound-product (suc k) xs = then (OfFactor xs) (OfProduct xs) (read_factor k xs) _ (sound-factor k xs) λ p a. let ys = drop p.used xs in
      choose (OfProduct xs) _ _ (factor_next ys) (λ t. beside-sound xs p (read_product k (drop 1 ys)) a t (sound-product k (drop 1 ys))) (λ _. factor-sound xs p a)

  sound-factor : (k : ℕ) (xs : List ℕ) → WhenFound (OfFactor xs) (read_factor k xs)
  sound-factor zero xs = tt
  sound-factor (suc k) xs = then (OfOperand xs) (OfFactor xs) (read_operand k xs) _ (sound-operand k xs) λ p a. let ys = drop p.used xs in
      choose (OfFactor xs) _ _ (is "/" (at ys 0)) (λ t. fraction_sound xs p (read_operand k (drop 1 ys)) a (eqb-true (at ys 0) (code "/") t) (sound-operand k (drop 1 ys)))
      (λ _. choose (OfFactor xs) _ _ p.lone (λ l. scripted-sound xs p (read_scripts k ys) a l (sound-scripts k ys)) (λ l. group-sound xs p a l))

  sound-operand : (k : ℕ) (xs : List ℕ) → WhenFound (OfOperand xs) (read_operand k xs)
  sound-operand zero xs = tt
  sound-operand (suc k) xs = choose (OfOperand xs) _ _ (ltb 0 (atom_length xs)) (λ t. atom-sound xs (ltb-true 0 (atom_length xs) t))
      (λ _. choose (OfOperand xs) _ _ (is "(" (at xs 0)) (λ t. enclosed-sound xs (read_sum k (drop 1 xs)) (eqb-true (at xs 0) (code "(") t) (sound-sum k (drop 1 xs))) (λ _. tt))

  sound-scripts : (k : ℕ) (xs : List ℕ) → WhenFound (OfScripts xs) (read_scripts k xs)
  sound-scripts zero xs = tt
  sound-scripts (suc k) xs = then (OfScript (code "_") xs) (OfScripts xs) (read_script (code "_") k xs) _ (sound-script (code "_") (omega arith) k xs) λ p a. let ys = drop p.used xs in
      scripts-sound xs p (read_script (code "^") k ys) a (sound-script (code "^") (omega arith) k ys)

  sound-script : (sign : ℕ) → 0 < sign → (k : ℕ) (xs : List ℕ) → WhenFound (OfScript sign xs) (read_script sign k xs)
  sound-script sign h zero xs = tt
  sound-script sign h (suc k) xs = choose (OfScript sign xs) _ _ (eqb (at xs 0) sign)
      (λ t. let m = eqb-true (at xs 0) sign t in let ys = drop 1 xs in choose (OfScript sign xs) _ _ (alnum (at ys 0)) (λ w. symbol-sound sign xs h m w)
      (λ w. inner-sound sign xs h m (read_operand k ys) w (sound-operand k ys)))
      (λ _. bare-sound sign xs)
