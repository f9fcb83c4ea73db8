-- A fraction's operand, between what may stand before and behind it: both searches stop at its ends, and its parentheses come off.
use Rattle.std.specs.Prelude.{◌≡◌, Bool, true, false, not, cond, ℕ, suc, ◌-◌, eqb, ltb, length, drop}
use Rattle.std.proofs.Math.Path.{refl, ap}
use Rattle.std.proofs.Common.{sym, ◌∙◌, true≢false, arith, length-append, ltb-true, ne_eqb}
use Rattle.std.proofs.Math.Bool.{and-false}
use mathlib.Core.List.{List, [], ◌∷◌, ◌++◌, append-nil, append_assoc, reverse, reverse_aux, reverse_aux-eq, reverse_aux-append, reverse-reverse}
use Rattle.std.proofs.Math.Option.{some}
use Prim.Native.Char.{code}
use Rattle.std.proofs.lemmas.List.{length-reverse}
use Rattle.std.proofs.Math.Seq.{drop-append_seam}
use Rattle.std.proofs.lemmas.Bool.{not-true}
use Rattle.spec.specs.Symbols.{bytes, letter, digit, script_sign, all, drop_while, trim_start, trim, starts, ends, head, past, until}
use Rattle.spec.specs.Closing.{neither, side, close, level}
use Rattle.spec.specs.Fractions.{operand_symbol, inner_or, strip_trimmed, strip_outer_parens, is_inside_subscript_context, with_name, name_before, word_before, find_fraction_part_before, factorials, power, word_after, after_lvert, braces, bracket, arguments, shorter_than, grouped, after_word, after_brackets, find_fraction_part_after, passes_solidus, barred}
use Rattle.spec.specs.Grammar.{Atom, variable, greek, number, greek_names, greek_name}
use Rattle.spec.specs.Laws.Booleans.{and_left, and_right, and_both}
use Rattle.spec.specs.Laws.Names.{row-rule}
use Rattle.spec.specs.Laws.Symbols.{until-append}
use Rattle.plain_printing.specs.Tree.{atom_writing}
use Rattle.plain_printing.specs.Classes.{apart, all-weaken}
use Rattle.plain_printing.specs.Nest.{calm, Nest, through, back}
use Rattle.plain_printing.proofs.Written.{letter-operand_symbol, digit-operand_symbol, greek-letters}

-- the end of what stands before a factor, last symbol first
pub data Edge : List ℕ → Type 0 where
  start : Edge []
  after-space : {p : List ℕ} → Edge (code " " ∷ p)
  after-paren : {p : List ℕ} → script_sign (head p) ≡ false → Edge (code "(" ∷ p)
  after-brace : {p : List ℕ} → Edge (code "{" ∷ p)

-- the beginning of what stands behind a factor
pub data Stop : List ℕ → Type 0 where
  end : Stop []
  at-space : {r : List ℕ} → Stop (code " " ∷ r)
  at-paren : {r : List ℕ} → Stop (code ")" ∷ r)
  at-brace : {r : List ℕ} → Stop (code "}" ∷ r)

-- ---- searches over closed brackets
pub calm-side : (o c x : ℕ) → calm o ≡ false → calm c ≡ false → calm x ≡ true → side o c x ≡ neither
calm-side o c x p q h = rw (apart calm x o h p, apart calm x c h q)

pub close-through : {s : List ℕ} → Nest s → (d : ℕ) (r : List ℕ) → close (code "(") (code ")") d (s ++ r) ≡ close (code "(") (code ")") d r
unfolding close
close-through = through (close (code "(") (code ")")) suc (λ d. d) (λ d x r h. rw (calm-side (code "(") (code ")") x refl refl h, close)) (λ d r. refl) (λ d r. refl) (λ d r. refl) (λ d r. refl)

pub level-through : {s : List ℕ} → Nest s → (d : ℕ) (r : List ℕ) → level (code "(") (code ")") d (s ++ r) ≡ level (code "(") (code ")") d r
unfolding level
level-through = through (level (code "(") (code ")")) suc (λ d. d) (λ d x r h. rw (calm-side (code "(") (code ")") x refl refl h, level)) (λ d r. refl) (λ d r. refl) (λ d r. refl) (λ d r. refl)

pub close-back : {s : List ℕ} → Nest s → (d : ℕ) (p : List ℕ) → close (code ")") (code "(") d (reverse_aux s p) ≡ close (code ")") (code "(") d p
unfolding close
close-back = back (close (code ")") (code "(")) suc (λ d. d) (λ d x r h. rw (calm-side (code ")") (code "(") x refl refl h, close)) (λ d r. refl) (λ d r. refl) (λ d r. refl) (λ d r. refl)

pub script-context-back : {s : List ℕ} → Nest s → (d : ℕ) (p : List ℕ) → is_inside_subscript_context d (reverse_aux s p) ≡ is_inside_subscript_context d p
unfolding is_inside_subscript_context
script-context-back = back is_inside_subscript_context suc (λ d. d) (λ d x r h. rw (calm-side (code ")") (code "(") x refl refl h, is_inside_subscript_context)) (λ d r. refl) (λ d r. refl) (λ d r. refl) (λ d r. refl)

-- ---- parts of texts
pub append-minus : (s r : List ℕ) → length (s ++ r) - length r ≡ length s
append-minus s r = omega (arith, length-append s r)

pub onto-minus : (s p : List ℕ) → length (reverse_aux s p) - length p ≡ length s
onto-minus s p = omega (arith, ap length (reverse_aux-eq s p), length-append (reverse s) p, length-reverse s)

pub until-onto : (s p : List ℕ) → until (reverse_aux s p) p ≡ reverse s
until-onto s p = rw reverse_aux-eq (until-append (reverse s) p)

pub drop-onto : (s o : List ℕ) → drop (length s) (reverse_aux s o) ≡ o
drop-onto s o = rw (reverse_aux-eq s o, ← length-reverse s) (drop-append_seam (reverse s) o)

-- ---- operands: w is written, c is what stands in the fraction
pub record ReadAsOperand (w c : List ℕ) : Type 0 where
  pub before : (p : List ℕ) → Edge p → find_fraction_part_before (reverse_aux w p) ≡ some p
  pub after : (r : List ℕ) → Stop r → find_fraction_part_after (w ++ r) ≡ some r
  pub unbarred : (r : List ℕ) → Stop r → barred (w ++ r) ≡ false
  pub solid-before : (p : List ℕ) → trim_start (reverse_aux w p) ≡ reverse_aux w p
  pub solid-after : (r : List ℕ) → trim_start (w ++ r) ≡ w ++ r
  pub content : strip_outer_parens w ≡ c

-- a group
name-at : {p : List ℕ} → Edge p → name_before 0 p ≡ p
unfolding name_before
name-at start = refl
name-at after-space = refl
name-at (after-paren h) = refl
name-at after-brace = refl

power_at : {r : List ℕ} → Stop r → power (factorials r) ≡ r
power_at end = refl
power_at at-space = refl
power_at at-paren = refl
power_at at-brace = refl

module _ (c : List ℕ) (m : Nest c) where
  abbrev in_parens : List ℕ
  in_parens = bytes "(" ++ (c ++ bytes ")")

  group-back : (p : List ℕ) → reverse_aux in_parens p ≡ code ")" ∷ reverse_aux c (code "(" ∷ p)
  group-back p = reverse_aux-append c (code ")" ∷ []) (code "(" ∷ p)

  group-before : (p : List ℕ) → Edge p → find_fraction_part_before (reverse_aux in_parens p) ≡ some p
  unfolding find_fraction_part_before close
  group-before p e = rw (group-back p) (ap with_name (close-back m 0 (code "(" ∷ p)) ∙ ap some (name-at e))

  group-after : (r : List ℕ) → Stop r → find_fraction_part_after (in_parens ++ r) ≡ some r
  unfolding find_fraction_part_after close
  group-after r e = rw (append_assoc c (code ")" ∷ []) r) (ap grouped (close-through m 0 (code ")" ∷ r)) ∙ ap some (power_at e))

  group-trim : trim in_parens ≡ in_parens
  group-trim = ap (λ (l : List ℕ). reverse (trim_start l)) (group-back []) ∙ ap reverse (sym (group-back [])) ∙ reverse-reverse in_parens

  group-inner : reverse (past (reverse (c ++ code ")" ∷ []))) ≡ c
  group-inner = ap (λ (l : List ℕ). reverse (past l)) (reverse_aux-append c (code ")" ∷ []) []) ∙ reverse-reverse c

  group-level : level (code "(") (code ")") 0 c ≡ true
  unfolding level
  group-level = rw append-nil at (level-through m 0 [])

  group-content : strip_outer_parens in_parens ≡ c
  unfolding strip_outer_parens
  group-content = ap strip_trimmed group-trim ∙ rw (strip_trimmed, group-back [], group-inner, inner_or, group-level) group-inner

  group-unbarred : (r : List ℕ) → barred (in_parens ++ r) ≡ false
  unfolding barred
  group-unbarred r = refl

  pub group-operand : ReadAsOperand in_parens c
  group-operand = record { before = group-before; after = group-after; unbarred = λ r e. group-unbarred r; solid-before = λ p. rw (group-back p); solid-after = λ r. refl; content = group-content }

-- an atom
pub data Word : List ℕ → Type 0 where
  word : (x : ℕ) (w : List ℕ) → operand_symbol x ≡ true → all operand_symbol w ≡ true → ends (bytes "\\lvert") (x ∷ w) ≡ false → Word (x ∷ w)

word_before-at : {p : List ℕ} → Edge p → (z : ℕ) → word_before z p ≡ p
unfolding word_before
word_before-at start z = refl
word_before-at after-space z = refl
word_before-at (after-paren h) z = refl
word_before-at after-brace z = refl

word_before-step : (z x : ℕ) (p : List ℕ) → operand_symbol x ≡ true → word_before z (x ∷ p) ≡ word_before x p
unfolding word_before
word_before-step z x p h = rw (h, word_before)

before-step : (x : ℕ) (p : List ℕ) → operand_symbol x ≡ true → find_fraction_part_before (x ∷ p) ≡ some (word_before x p)
unfolding find_fraction_part_before
before-step x p h = rw (apart operand_symbol x (code "}") h refl, apart operand_symbol x (code ")") h refl, apart operand_symbol x (code "]") h refl, find_fraction_part_before)

before-word : (w : List ℕ) → all operand_symbol w ≡ true → (x : ℕ) → operand_symbol x ≡ true → (q t : List ℕ) → ((z : ℕ) → word_before z q ≡ t)
    → find_fraction_part_before (reverse_aux w (x ∷ q)) ≡ some t
before-word [] h x hx q t e = before-step x q hx ∙ ap some (e x)
before-word (y ∷ w) h x hx q t e =
    before-word w (and_right (operand_symbol y) (all operand_symbol w) h) y (and_left (operand_symbol y) (all operand_symbol w) h) (x ∷ q) t (λ z. word_before-step z x q hx ∙ e x)

solid : (x : ℕ) (s : List ℕ) → operand_symbol x ≡ true → trim_start (x ∷ s) ≡ x ∷ s
solid x s h = rw (apart operand_symbol x (code " ") h refl, apart operand_symbol x (code "\t") h refl, apart operand_symbol x (code "\n") h refl, drop_while)

solid-onto : (w : List ℕ) → all operand_symbol w ≡ true → (x : ℕ) → operand_symbol x ≡ true → (q : List ℕ) → trim_start (reverse_aux w (x ∷ q)) ≡ reverse_aux w (x ∷ q)
solid-onto [] h x hx q = solid x q hx
solid-onto (y ∷ w) h x hx q = solid-onto w (and_right (operand_symbol y) (all operand_symbol w) h) y (and_left (operand_symbol y) (all operand_symbol w) h) (x ∷ q)

word_after-at : {r : List ℕ} → Stop r → (z : ℕ) → word_after z r ≡ r
unfolding word_after
word_after-at end z = refl
word_after-at at-space z = refl
word_after-at at-paren z = refl
word_after-at at-brace z = refl

word_after-step : (z x : ℕ) (s : List ℕ) → operand_symbol x ≡ true → word_after z (x ∷ s) ≡ word_after x s
unfolding word_after
word_after-step z x s h = rw (h, word_after)

after-word : (w : List ℕ) → all operand_symbol w ≡ true → {r : List ℕ} → Stop r → (z : ℕ) → word_after z (w ++ r) ≡ r
after-word [] h e z = word_after-at e z
after-word (x ∷ w) h {r} e z = word_after-step z x (w ++ r) (and_left (operand_symbol x) (all operand_symbol w) h) ∙ after-word w (and_right (operand_symbol x) (all operand_symbol w) h) e x

brackets-at : {r : List ℕ} → Stop r → bracket (braces 0 r) ≡ r
unfolding braces
brackets-at end = refl
brackets-at at-space = refl
brackets-at at-paren = refl
brackets-at at-brace = refl

arguments-at : {r : List ℕ} → Stop r → arguments (eqb (head r) (code "^")) (power r) ≡ some r
arguments-at end = refl
arguments-at at-space = refl
arguments-at at-paren = refl
arguments-at at-brace = refl

shorter : (x : ℕ) (w r : List ℕ) → eqb (length r) (length (x ∷ (w ++ r))) ≡ false
shorter x w r = ne_eqb (length r) (length (x ∷ (w ++ r))) (λ e. omega (arith, length-append w r))

after-atom : (x : ℕ) (w : List ℕ) → operand_symbol x ≡ true → all operand_symbol w ≡ true → ends (bytes "\\lvert") (x ∷ w) ≡ false
    → (r : List ℕ) → Stop r → find_fraction_part_after (x ∷ (w ++ r)) ≡ some r
unfolding find_fraction_part_after
after-atom x w hx h b r e =
    let s : List ℕ = x ∷ (w ++ r) in
    let found : word_after 0 s ≡ r = after-word (x ∷ w) (and_both hx h) e 0 in
    let no-bar : after_lvert (until s r) r ≡ r = rw (until-append (x ∷ w) r, b, after_lvert) in
    let plain : bracket (braces 0 (after_lvert (until s r) r)) ≡ r = rw no-bar (brackets-at e) in
    let some_left : shorter_than (length s) (some r) ≡ some r = rw (shorter x w r, shorter_than) in
    rw (apart operand_symbol x (code "(") hx refl, find_fraction_part_after) (ap (after_word s) found ∙ ap (after_brackets s) plain ∙ ap (shorter_than (length s)) (arguments-at e) ∙ some_left)

-- no word of a formula is a bar, so number 9 is not met
atom-unbarred : (x : ℕ) (w : List ℕ) → operand_symbol x ≡ true → all operand_symbol w ≡ true → ends (bytes "\\lvert") (x ∷ w) ≡ false
    → (r : List ℕ) → Stop r → barred (x ∷ (w ++ r)) ≡ false
unfolding barred
atom-unbarred x w hx h b r e =
    let s : List ℕ = x ∷ (w ++ r) in
    let found : word_after 0 s ≡ r = after-word (x ∷ w) (and_both hx h) e 0 in
    rw (apart operand_symbol x (code "(") hx refl) (ap (λ (q : List ℕ). passes_solidus (until s q) q) found ∙ rw (until-append (x ∷ w) r, b))

atom-content : (x : ℕ) (w : List ℕ) → operand_symbol x ≡ true → all operand_symbol w ≡ true → strip_outer_parens (x ∷ w) ≡ x ∷ w
unfolding strip_outer_parens
atom-content x w hx h =
    let trimmed : trim (x ∷ w) ≡ x ∷ w = rw (solid x w hx, solid-onto w h x hx []) (reverse-reverse (x ∷ w)) in
    rw (trimmed, apart operand_symbol x (code "(") hx refl, strip_trimmed) trimmed

pub atom-operand : {w : List ℕ} → Word w → ReadAsOperand w w
atom-operand (word x w hx h b) =
    record {
      before = λ p e. before-word w h x hx p p (word_before-at e);
      after = after-atom x w hx h b;
      unbarred = atom-unbarred x w hx h b;
      solid-before = solid-onto w h x hx;
      solid-after = λ r. solid x (w ++ r) hx;
      content = atom-content x w hx h;
    }

-- the atoms of a formula are words
all-onto : (f : ℕ → Bool) (s t : List ℕ) → all f s ≡ true → all f t ≡ true → all f (reverse_aux s t) ≡ true
all-onto f [] t p q = q
all-onto f (x ∷ s) t p q = all-onto f s (x ∷ t) (and_right (f x) (all f s) p) (and_both (and_left (f x) (all f s) p) q)

no-bar-end : (s : List ℕ) → all digit s ≡ true → starts (reverse (bytes "\\lvert")) s ≡ false
no-bar-end [] h = refl
no-bar-end (x ∷ s) h = rw (apart digit x (code "t") (and_left (digit x) (all digit s) h) refl) (and-false (starts (bytes "revl\\") s))

greek-word : (i : ℕ) → ltb i 30 ≡ true → Word (code "\\" ∷ greek_name i)
unfolding greek_name
greek-word i e = word (code "\\") (greek_name i) refl (all-weaken letter operand_symbol letter-operand_symbol (greek_name i) (greek-letters i e))
    (not-true (ends (bytes "\\lvert") (code "\\" ∷ greek_name i)) (row-rule (λ w. not (ends (bytes "\\lvert") (code "\\" ∷ w))) greek_names refl i (ltb-true i 30 e)))

number_word : (ds : List ℕ) → all digit ds ≡ true → ltb 0 (length ds) ≡ true → Word ds
number_word [] h e = absurd (true≢false (sym e))
number_word (d ∷ ds) h e =
    word d ds (digit-operand_symbol d (and_left (digit d) (all digit ds) h)) (all-weaken digit operand_symbol digit-operand_symbol ds (and_right (digit d) (all digit ds) h))
    (no-bar-end (reverse (d ∷ ds)) (all-onto digit (d ∷ ds) [] h refl))

pub atom-word : (a : Atom) → Word (atom_writing 30 a)
atom-word (variable c e) = word c [] (letter-operand_symbol c e) refl refl
atom-word (greek i e) = rw (e, cond) (greek-word i e)
atom-word (number ds e b) = number_word ds e (and_left (ltb 0 (length ds)) (ltb (length ds) 10) b)
