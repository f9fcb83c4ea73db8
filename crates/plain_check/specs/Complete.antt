-- Completeness: a reader reads the text of a proper tree whole, whatever comes behind it that does not go on with the tree. Assumes nothing.
use Rattle.std.specs.Prelude.{◌≡◌, refl, true, false, List, [], ◌∷◌, ◌++◌, ℕ, ◌<◌, eqb}
use Rattle.std.proofs.Common.{sym, ap, ◌∙◌, subst₂, append_assoc, arith, drop_at, ne_eqb}
use Rattle.std.proofs.lemmas.Bool.{false≢true, eqb-false}
use Prim.Native.Char.{code}
use lib.ListN.{length}
use Rattle.std.proofs.lemmas.List.{get_or_at}
use Rattle.spec.specs.Symbols.{bytes, alnum}
use Rattle.spec.specs.Grammar.{Atom, Sum, product, Product, factor, beside, Factor, scripted, fraction, group, Operand, atom, enclosed, Script, bare, symbol, inner, scriptless, proper, proper_product, proper_factor, proper_operand, proper_script, atom_text, text, product_text, factor_text, operand_text, script_text}
use Rattle.spec.specs.Grammar
use Rattle.spec.specs.Laws.Booleans.{and_left, and_right}
use Rattle.plain_parts.specs.declared.PlainPart.{PlainPart}
use Rattle.std.specs.Prelude.{Some}
use Rattle.plain_parts.specs.Parts.{Read, at, leaf}
use Rattle.plain_check.specs.Tokens.{sign_next, factor_next}
use Rattle.plain_check.specs.Readers.{Answers, read_sum, read_product, read_factor, read_operand, read_script}
use Rattle.plain_check.specs.Steps.{sums, products, series-done, series-more, Front, factor-fraction, factor-scripted, factor-done, operand-atom, operand-group, scripts-more, script-absent, script-short, script-group}
use Rattle.plain_check.specs.Atoms.{atom-some, atom-begins-alnum, atom-length}
use Rattle.plain_check.specs.Trees.{Sign, plus, minus, signed, sign_text, signed-text, proper_inside, operand-inside, proper-unbarred, sum_part, product_part, factor_part, operand_part, script_part, product-part, signed_part, factor-part, beside-part, atom-part, enclosed-part, group-part, fraction-part, scripted-part, bare-part, symbol-part, inner-part}

-- ---- what may come behind a factor, a product, a sum
record EndsFactor (xs : List ℕ) : Type 0 where
  word : alnum (at xs 0) ≡ false
  slash : at xs 0 ≡ code "/" → ⊥
  lower : at xs 0 ≡ code "_" → ⊥
  upper : at xs 0 ≡ code "^" → ⊥

record EndsProduct (xs : List ℕ) : Type 0 where
  space : factor_next xs ≡ false
  factor : EndsFactor xs

pub record EndsSum (xs : List ℕ) : Type 0 where
  sign : sign_next xs ≡ false
  product : EndsProduct xs

ends_at : (xs : List ℕ) (b : ℕ) → at xs 0 ≡ b → alnum b ≡ false → eqb b (code "/") ≡ false → eqb b (code "_") ≡ false → eqb b (code "^") ≡ false → EndsFactor xs
ends_at xs b e w p q r =
    record {
      word = ap alnum e ∙ w;
      slash = λ f. eqb-false b (code "/") p (sym e ∙ f);
      lower = λ f. eqb-false b (code "_") q (sym e ∙ f);
      upper = λ f. eqb-false b (code "^") r (sym e ∙ f);
    }

pub ends-text : EndsSum []
ends-text = record { sign = refl; product = record { space = refl; factor = ends_at [] 0 refl refl refl refl refl } }

ends-paren : (xs : List ℕ) → EndsSum (bytes ")" ++ xs)
ends-paren xs = record { sign = refl; product = record { space = refl; factor = ends_at (bytes ")" ++ xs) (code ")") refl refl refl refl refl } }

ends-space : (xs : List ℕ) → EndsFactor (bytes " " ++ xs)
ends-space xs = ends_at (bytes " " ++ xs) (code " ") refl refl refl refl refl

ends-sign : (b : Sign) (xs : List ℕ) → EndsProduct (sign_text b ++ xs)
ends-sign plus xs = record { space = refl; factor = ends-space (bytes "+ " ++ xs) }
ends-sign minus xs = record { space = refl; factor = ends-space (bytes "- " ++ xs) }

sign-next : (b : Sign) (xs : List ℕ) → sign_next (sign_text b ++ xs) ≡ true
sign-next plus xs = refl
sign-next minus xs = refl

sign-gone : (b : Sign) (xs : List ℕ) → xs ≡ lib.ListN.drop 3 (sign_text b ++ xs)
sign-gone plus xs = refl
sign-gone minus xs = refl

-- ---- texts behind each other
pub spread : (a b c d : List ℕ) → (a ++ b ++ c) ++ d ≡ a ++ (b ++ (c ++ d))
spread a b c d = simp append_assoc

-- an answer under another name of the text and of the part
renamed : {read : ℕ → List ℕ → Read} {rank : ℕ} {xs ys : List ℕ} {p q : PlainPart} → xs ≡ ys → p ≡ q → Answers read rank ys (Some q) → Answers read rank xs (Some p)
renamed {read} {rank} e f a = subst₂ (λ (zs : List ℕ) (r : PlainPart). Answers read rank zs (Some r)) (sym e) (sym f) a

front : {read : ℕ → List ℕ → Read} {rank : ℕ} (xs ys : List ℕ) {p : PlainPart} → p.used ≡ length xs → Answers read rank (xs ++ ys) (Some p) → Front read rank (xs ++ ys) p ys
front xs ys {p} e a = record { answers = a; behind = sym (drop_at xs ys p.used (sym e)) }

-- ---- a product begins with no sign
abbrev Starts : List ℕ → Type 0
Starts xs = factor_next (bytes " " ++ xs) ≡ true

word-starts : (xs : List ℕ) → alnum (at xs 0) ≡ true → Starts xs
word-starts xs h =
    let not : (n : ℕ) → alnum n ≡ false → at xs 0 ≡ n → ⊥ = λ n w e. false≢true (sym w ∙ ap alnum (sym e) ∙ h) in
    rw (ne_eqb (at xs 0) (code "+") (not (code "+") refl), ne_eqb (at xs 0) (code "-") (not (code "-") refl))

operand-starts : (t : Operand) (xs : List ℕ) → Starts (operand_text t ++ xs)
unfolding text
operand-starts (atom a) xs = word-starts (atom_text a ++ xs) (atom-begins-alnum a xs)
operand-starts (enclosed s) xs = refl

factor-starts : (t : Factor) (xs : List ℕ) → Starts (factor_text t ++ xs)
unfolding text
factor-starts (scripted a l h) xs =
    let ys = script_text (bytes "_") l ++ (script_text (bytes "^") h ++ xs) in
    rw (spread (atom_text a) (script_text (bytes "_") l) (script_text (bytes "^") h) xs) (word-starts (atom_text a ++ ys) (atom-begins-alnum a ys))
factor-starts (fraction n d) xs = rw (spread (operand_text n) (bytes "/") (operand_text d) xs) (operand-starts n (bytes "/" ++ (operand_text d ++ xs)))
factor-starts (group s) xs = refl

product-starts : (t : Product) (xs : List ℕ) → Starts (product_text t ++ xs)
unfolding text
product-starts (factor f) xs = factor-starts f xs
product-starts (beside f p) xs = rw (spread (factor_text f) (bytes " ") (product_text p) xs) (factor-starts f (bytes " " ++ (product_text p ++ xs)))

-- ---- what comes behind an atom: its scripts, or what comes behind these
upper-ends : (u : Script) (xs : List ℕ) → EndsFactor xs → at (script_text (bytes "^") u ++ xs) 0 ≡ code "_" → ⊥
unfolding text
upper-ends bare xs e = e.lower
upper-ends (symbol c w) xs e = eqb-false (code "^") (code "_") refl
upper-ends (inner s) xs e = eqb-false (code "^") (code "_") refl

scripts-word : (l u : Script) (xs : List ℕ) → EndsFactor xs → alnum (at (script_text (bytes "_") l ++ (script_text (bytes "^") u ++ xs)) 0) ≡ false
unfolding text
scripts-word bare bare xs e = e.word
scripts-word bare (symbol c w) xs e = refl
scripts-word bare (inner s) xs e = refl
scripts-word (symbol c w) u xs e = refl
scripts-word (inner s) u xs e = refl

scripts-end : (l u : Script) (xs : List ℕ) → EndsFactor xs → at (script_text (bytes "_") l ++ (script_text (bytes "^") u ++ xs)) 0 ≡ code "/" → ⊥
unfolding text
scripts-end bare bare xs e = e.slash
scripts-end bare (symbol c w) xs e = eqb-false (code "^") (code "/") refl
scripts-end bare (inner s) xs e = eqb-false (code "^") (code "/") refl
scripts-end (symbol c w) u xs e = eqb-false (code "_") (code "/") refl
scripts-end (inner s) u xs e = eqb-false (code "_") (code "/") refl

-- ---- atoms and parentheses
complete-atom : (a : Atom) (xs : List ℕ) → alnum (at xs 0) ≡ false → Answers read_operand 1 (atom_text a ++ xs) (Some (leaf (length (atom_text a)) 1 true))
complete-atom a xs w = operand-atom (atom_text a ++ xs) (atom-length a xs w) (atom-some a)

complete-enclosed : (s : Sum) (xs : List ℕ) → Answers read_sum 4 (text s ++ (bytes ")" ++ xs)) (Some (sum_part s)) → Answers read_operand 1 (operand_text (enclosed s) ++ xs) (Some (operand_part (enclosed s)))
unfolding text
complete-enclosed s xs a =
    let ys = text s ++ (bytes ")" ++ xs) in
    renamed (ap (λ (l : List ℕ). bytes "(" ++ l) (append_assoc (text s) (bytes ")") xs)) (enclosed-part s)
    (rw (get_or_at (text s) (code ")") xs 0 (length (text s)) refl) at (operand-group (bytes "(" ++ ys) refl refl refl a))

-- ---- a product, a sign and a sum
complete-signed : (b : Sign) (p : Product) (s : Sum) (xs : List ℕ)
    → Answers read_product 3 (product_text p ++ (sign_text b ++ (text s ++ xs))) (Some (product_part p))
    → Answers read_sum 4 (text s ++ xs) (Some (sum_part s))
    → Answers read_sum 4 (text (signed b p s) ++ xs) (Some (sum_part (signed b p s)))
complete-signed b p s xs first next =
    let ys = text s ++ xs in
    renamed (ap (λ (l : List ℕ). l ++ xs) (signed-text b p s) ∙ spread (product_text p) (sign_text b) (text s) xs) (signed_part b p s)
    (series-more sums (front (product_text p) (sign_text b ++ ys) refl first) (sign-next b ys) (sign-gone b ys) next)

-- ---- each rule
mutual
  unfolding text

  pub complete-sum : (t : Sum) → proper t ≡ true → (xs : List ℕ) → EndsSum xs → Answers read_sum 4 (text t ++ xs) (Some (sum_part t))
  complete-sum (product p) g xs e = renamed refl (product-part p) (series-done sums (front (product_text p) xs refl (complete-product p g xs e.product)) e.sign)
  complete-sum (Grammar.plus p s) g xs e =
      let ys = sign_text plus ++ (text s ++ xs) in
      complete-signed plus p s xs (complete-product p (and_left (proper_product p) (proper s) g) ys (ends-sign plus (text s ++ xs))) (complete-sum s (and_right (proper_product p) (proper s) g) xs e)
  complete-sum (Grammar.minus p s) g xs e =
      let ys = sign_text minus ++ (text s ++ xs) in
      complete-signed minus p s xs (complete-product p (and_left (proper_product p) (proper s) g) ys (ends-sign minus (text s ++ xs))) (complete-sum s (and_right (proper_product p) (proper s) g) xs e)

  complete-product : (t : Product) → proper_product t ≡ true → (xs : List ℕ) → EndsProduct xs → Answers read_product 3 (product_text t ++ xs) (Some (product_part t))
  complete-product (factor f) g xs e = renamed refl (factor-part f) (series-done products (front (factor_text f) xs refl (complete-factor f g xs e.factor)) e.space)
  complete-product (beside f p) g xs e =
      let ys = product_text p ++ xs in
      let first = complete-factor f (and_left (proper_factor f) (proper_product p) g) (bytes " " ++ ys) (ends-space ys) in
      renamed (spread (factor_text f) (bytes " ") (product_text p) xs) (beside-part f p)
      (series-more products (front (factor_text f) (bytes " " ++ ys) refl first) (product-starts p xs) refl (complete-product p (and_right (proper_factor f) (proper_product p) g) xs e))

  complete-factor : (t : Factor) → proper_factor t ≡ true → (xs : List ℕ) → EndsFactor xs → Answers read_factor 2 (factor_text t ++ xs) (Some (factor_part t))
  complete-factor (scripted a l h) g xs e =
      let ys = script_text (bytes "^") h ++ xs in
      let zs = script_text (bytes "_") l ++ ys in
      let lower = complete-script l (and_left (proper_script l) (proper_script h) g) (code "_") (omega arith) ys (upper-ends h xs e) in
      let upper = complete-script h (and_right (proper_script l) (proper_script h) g) (code "^") (omega arith) xs e.upper in
      renamed (spread (atom_text a) (script_text (bytes "_") l) (script_text (bytes "^") h) xs) (scripted-part a l h)
      (factor-scripted (front (atom_text a) zs refl (complete-atom a zs (scripts-word l h xs e))) (scripts-end l h xs e) refl
      (scripts-more (front (script_text (bytes "_") l) ys refl lower) upper))
  complete-factor (fraction n d) g xs e =
      let ys = bytes "/" ++ (operand_text d ++ xs) in
      let first = complete-operand n (operand-inside n (and_left (proper_operand n) (proper_operand d) g)) ys refl in
      let second = complete-operand d (operand-inside d (and_right (proper_operand n) (proper_operand d) g)) xs e.word in
      renamed (spread (operand_text n) (bytes "/") (operand_text d) xs) (fraction-part n d)
      (rw (proper-unbarred n d g) at (factor-fraction (front (operand_text n) ys refl first) refl refl second))
  complete-factor (group s) g xs e =
      renamed refl (group-part s) (factor-done (front (operand_text (enclosed s)) xs refl (complete-enclosed s xs (complete-sum s g (bytes ")" ++ xs) (ends-paren xs)))) e.slash refl)

  complete-operand : (t : Operand) → proper_inside t ≡ true → (xs : List ℕ) → alnum (at xs 0) ≡ false → Answers read_operand 1 (operand_text t ++ xs) (Some (operand_part t))
  complete-operand (atom a) g xs w = renamed refl (atom-part a) (complete-atom a xs w)
  complete-operand (enclosed s) g xs w = complete-enclosed s xs (complete-sum s g (bytes ")" ++ xs) (ends-paren xs))

  complete-script : (t : Script) → proper_script t ≡ true → (sign : ℕ) → 0 < sign → (xs : List ℕ) → (at xs 0 ≡ sign → ⊥) → Answers (read_script sign) 0 (script_text (sign ∷ []) t ++ xs) (Some (script_part sign t))
  complete-script bare g sign h xs n = renamed refl (bare-part sign) (script-absent sign xs n)
  complete-script (symbol c e) g sign h xs n = renamed refl (symbol-part sign c e) (script-short sign (sign ∷ c ∷ xs) h refl refl e)
  complete-script (inner s) g sign h xs n =
      let group = complete-enclosed s xs (complete-sum s (and_right (scriptless s) (proper s) g) (bytes ")" ++ xs) (ends-paren xs)) in
      renamed refl (inner-part sign s)
      (rw (and_left (scriptless s) (proper s) g) at (script-group sign (sign ∷ operand_text (enclosed s) ++ xs) h refl refl refl group))
