-- strip_outer_parens: what it makes of a text by its ends, and where the operand stands. Assumes nothing.
use Rattle.std.specs.Prelude.{◌≡◌, refl, Bool, true, false, ◌&&◌, List, [], ◌∷◌, reverse, ◌⊎◌, ℕ, ◌+◌, ◌-◌, ◌≤◌, ◌<◌, get_or, take, drop}
use Rattle.std.proofs.Math.Path.{sym, ap}
use Rattle.std.proofs.Common.{◌∙◌, inl, inr, ⊎_elim, eqb-true, length-take, length-drop}
use Rattle.std.proofs.Math.Bool.{and-false}
use Rattle.std.proofs.lemmas.List.{reverse-reverse, length-reverse}
use Prim.Native.Char.{code}
use native.Mathlib.Omega.{arith}
use Rattle.std.proofs.Math.Decide.{dec_le}
use Rattle.std.proofs.Math.ListN.{length}
use Rattle.spec.specs.Symbols.{is, head, past, blank, drop_while, trim}
use Rattle.spec.specs.Closing.{level}
use Rattle.spec.specs.Fractions.{inner_or, strip_trimmed, strip_outer_parens}
use Rattle.spec.specs.Laws.Symbols.{head-drop, past-drop, drop_while-short}
use Rattle.text_symbols.specs.Parts.{part, length_part, sub_part}
use Rattle.text_symbols.specs.Trim.{Narrowed}
use Rattle.text_symbols.specs.declared.Span.{Span}
use Rattle.text_symbols.specs.Places.{before, before-step, before-all}

abbrev pub whole_span : List ℕ → Span
whole_span s = record { start = 0; end = length s }

-- ---- no parenthesis at an end
bare : (t : List ℕ) → is "(" (head t) && is ")" (head (reverse t)) ≡ false → strip_trimmed t ≡ t
bare t e = rw (e, strip_trimmed)

pub strip-short : (t : List ℕ) → length t < 2 → strip_trimmed t ≡ t
strip-short [] h = refl
strip-short (x ∷ []) h = bare (x ∷ []) (go (is "(" x) refl)
  where
    go : (b : Bool) → is "(" x ≡ b → b && is ")" x ≡ false
    go false e = refl
    go true e = rw (eqb-true x (code "(") e)
strip-short (x ∷ y ∷ t) h = absurd (omega arith)

pub strip-open : (t : List ℕ) → is "(" (get_or t 0 0) ≡ false → strip_trimmed t ≡ t
strip-open t e = bare t (ap (λ b. b && is ")" (head (reverse t))) (ap (is "(") (head-drop t 0) ∙ e))

last-symbol : (t : List ℕ) → 0 < length t → reverse t ≡ get_or t (length t - 1) 0 ∷ before t (length t - 1)
last-symbol t h = sym (before-all t) ∙ before-step t (length t) h (omega arith)

pub strip-close : (t : List ℕ) → 2 ≤ length t → is ")" (get_or t (length t - 1) 0) ≡ false → strip_trimmed t ≡ t
strip-close t h e = bare t (ap (λ b. is "(" (head t) && b) (ap (λ l. is ")" (head l)) (last-symbol t (omega arith)) ∙ e) ∙ and-false (is "(" (head t)))

-- ---- parentheses at both ends
module _ (t : List ℕ) (long : 2 ≤ length t) where
  inside-part : reverse (past (reverse (past t))) ≡ part 1 (length t - 1 - 1) t
  inside-part =
      let u = drop 1 t in
      let n : length u ≡ length t - 1 = length-drop 1 t in
      ap (λ l. reverse (past (reverse l))) (past-drop t 0)
      ∙ ap (λ l. reverse (past l)) (last-symbol u (omega arith))
      ∙ reverse-reverse (take (length u - 1) u) ∙ ap (λ k. take (k - 1) u) n

  module _ (opened : is "(" (get_or t 0 0) ≡ true) (shut : is ")" (get_or t (length t - 1) 0) ≡ true) where
    stripped : {b : Bool} → level (code "(") (code ")") 0 (part 1 (length t - 1 - 1) t) ≡ b → strip_trimmed t ≡ elim b [ true ↦ part 1 (length t - 1 - 1) t | false ↦ t ]
    stripped {b} e =
        let x : is "(" (head t) ≡ true = ap (is "(") (head-drop t 0) ∙ opened in
        let y : is ")" (head (reverse t)) ≡ true = ap (λ l. is ")" (head l)) (last-symbol t (omega arith)) ∙ shut in
        let z : is "(" (head t) && is ")" (head (reverse t)) ≡ true = rw (x, y) in
        rw (z, strip_trimmed) (ap (inner_or t) inside-part ∙ rw (e, inner_or))

    pub strip-inner : level (code "(") (code ")") 0 (part 1 (length t - 1 - 1) t) ≡ true → strip_trimmed t ≡ part 1 (length t - 1 - 1) t
    strip-inner e = stripped e

    pub strip-apart : level (code "(") (code ")") 0 (part 1 (length t - 1 - 1) t) ≡ false → strip_trimmed t ≡ t
    strip-apart e = stripped e

-- ---- the operand lacks one symbol at each end of the trimmed text, or none
either : (t : List ℕ) → (strip_trimmed t ≡ t) ⊎ ((2 ≤ length t) × (strip_trimmed t ≡ part 1 (length t - 1 - 1) t))
either t = long (dec_le 2 (length t))
  where
    long : Dec (2 ≤ length t) → (strip_trimmed t ≡ t) ⊎ ((2 ≤ length t) × (strip_trimmed t ≡ part 1 (length t - 1 - 1) t))
    long (no h) = inl (strip-short t (omega arith))
    long (yes h) = opened (is "(" (get_or t 0 0)) refl
      where
        opened : (a : Bool) → is "(" (get_or t 0 0) ≡ a → (strip_trimmed t ≡ t) ⊎ ((2 ≤ length t) × (strip_trimmed t ≡ part 1 (length t - 1 - 1) t))
        opened false x = inl (strip-open t x)
        opened true x = shut (is ")" (get_or t (length t - 1) 0)) refl
          where
            shut : (a : Bool) → is ")" (get_or t (length t - 1) 0) ≡ a → (strip_trimmed t ≡ t) ⊎ ((2 ≤ length t) × (strip_trimmed t ≡ part 1 (length t - 1 - 1) t))
            shut false y = inl (strip-close t h y)
            shut true y = by (level (code "(") (code ")") 0 (part 1 (length t - 1 - 1) t)) refl
              where
                by : (a : Bool) → level (code "(") (code ")") 0 (part 1 (length t - 1 - 1) t) ≡ a → (strip_trimmed t ≡ t) ⊎ ((2 ≤ length t) × (strip_trimmed t ≡ part 1 (length t - 1 - 1) t))
                by true z = inr (h, strip-inner t h x y z)
                by false z = inl (strip-apart t h x y z)

pub operand-whole : (t : List ℕ) → length t ≤ length (strip_trimmed t) → strip_trimmed t ≡ t
operand-whole t h = ⊎_elim (λ e. e) (λ e. (let n = ap length e.1 in let m = length-take (length t - 1 - 1) (drop 1 t) in let l = e.0 in absurd (omega arith))) (either t)

pub operand-inner : (t : List ℕ) → length (strip_trimmed t) < length t → (2 ≤ length t) × (strip_trimmed t ≡ part 1 (length t - 1 - 1) t)
operand-inner t h = ⊎_elim (λ e. (let n = ap length e in absurd (omega arith))) (λ e. e) (either t)

-- it is no longer than the text
pub strip-shorter : (t : List ℕ) → length (strip_trimmed t) ≤ length t
strip-shorter t =
    ⊎_elim (λ e. (let n = ap length e in omega arith))
    (λ e. (let n = ap length e.1 in let m = length-take (length t - 1 - 1) (drop 1 t) in let l = e.0 in omega arith))
    (either t)

-- ---- the trimmed text's place
module _ {s : List ℕ} {r : Span} (trimmed : Narrowed s (whole_span s) r (trim s)) where
  trimmed-length : length (trim s) ≡ r.end - r.start
  trimmed-length =
      let o = trimmed.order in let t = trimmed.to in
      sym (ap length trimmed.text) ∙ length_part r.start (r.end - r.start) s (omega arith)

  pub span-whole : r.end - r.start ≤ length (strip_outer_parens s) → Narrowed s (whole_span s) r (strip_outer_parens s)
  unfolding strip_outer_parens
  span-whole h =
      let n = trimmed-length in
      record { from = trimmed.from; order = trimmed.order; to = trimmed.to; text = trimmed.text ∙ sym (operand-whole (trim s) (omega arith)) }

  pub span-inner : length (strip_outer_parens s) < r.end - r.start → Narrowed s (whole_span s) (record { start = r.start + 1; end = r.end - 1 }) (strip_outer_parens s)
  unfolding strip_outer_parens
  span-inner h =
      let n = trimmed-length in
      let inner = operand-inner (trim s) (omega arith) in
      let two = inner.0 in
      let f = trimmed.from in let o = trimmed.order in let t = trimmed.to in
      let m : r.end - 1 - (r.start + 1) ≡ length (trim s) - 1 - 1 = omega arith in
      record {
        from = omega arith;
        order = omega arith;
        to = omega arith;
        text =
            ap (λ k. part (r.start + 1) k s) m
            ∙ sub_part r.start (r.end - r.start) 1 (length (trim s) - 1 - 1) s (omega arith)
            ∙ ap (part 1 (length (trim s) - 1 - 1)) trimmed.text ∙ sym inner.1;
      }

-- ---- an operand is no longer than its text
pub strip-length : (s : List ℕ) → length (strip_outer_parens s) ≤ length s
unfolding strip_outer_parens
strip-length s =
    let t = drop_while blank s in
    let a = drop_while-short blank s in let b = drop_while-short blank (reverse t) in
    let d = length-reverse t in let e = length-reverse (drop_while blank (reverse t)) in
    let f = strip-shorter (trim s) in
    omega arith
