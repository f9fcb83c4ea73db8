-- The stage of line breaks and alignment: its cases, and the turns of the loop that writes lines. Assumes nothing.
--     Lines, Aligned       what the code has appended
use Rattle.std.specs.Prelude.{◌≡◌, refl, Bool, true, false, ◌&&◌, ◌||◌, List, [], ◌∷◌, ◌++◌, ℕ, suc, ◌+◌, ◌-◌, ◌*◌, ◌≤◌, ◌<◌, eqb, length, get_or, drop}
use Rattle.std.proofs.Common.{sym, ap, ap₂, ◌∙◌, subst, add-one, arith, length-drop, eq-eqb, ne_eqb}
use Prim.Native.Char.{code}
use Rattle.spec.specs.Symbols.{bytes, is, empty, trim}
use Rattle.spec.specs.Finish.{has_alignment, has_line_breaks, line_breaks, aligned, convert_alignment}
use Rattle.spec.specs.Laws.Symbols.{drop-step, head-drop}
use Rattle.text_symbols.specs.Parts.{part, length_part, whole_part}
use Rattle.text.specs.declared.writer.Writer.{Writer}
use Rattle.text.specs.Writer.{Regions, Appended, appended-more}
use Rattle.text_symbols.specs.Places.{before}
use Rattle.text.specs.Filling.{Filling, filling-more, filling-source, filling-symbol}
use Rattle.text_symbols.specs.declared.Span.{Span}
use Rattle.alignment.specs.Breaks.{break_at, piece, lined, lined-all, lines-with-breaks}
use Rattle.alignment.specs.Lines.{Trimmed, trim-with-breaks}

-- ---- what is written from place i on
unfoldable pub lined_to : List ℕ → ℕ → ℕ → List ℕ
lined_to s stop i = lined (stop - i) (get_or (0 ∷ s) i 0) (drop i s)

pub lined-step : (s : List ℕ) (stop i : ℕ) → i < stop → stop ≤ length s → lined_to s stop i ≡ piece (get_or s i 0) (break_at s i) ++ lined_to s stop (i + 1)
unfolding lined_to lined
lined-step s stop i h within =
    let n : stop - i ≡ suc (stop - (i + 1)) = omega arith in
    ap₂ (λ k t. lined k (get_or (0 ∷ s) i 0) t) n (drop-step s i (omega arith))
    ∙ ap (λ k. piece (get_or s i 0) (break_at s i) ++ lined (stop - (i + 1)) (get_or (0 ∷ s) k 0) (drop (i + 1) s)) (sym (add-one i))

pub lined-end : (s : List ℕ) (stop i : ℕ) → stop ≤ i → lined_to s stop i ≡ []
unfolding lined_to lined
lined-end s stop i h = let n : stop - i ≡ 0 = omega arith in ap (λ k. lined k (get_or (0 ∷ s) i 0) (drop i s)) n

pub lined-whole : (s : List ℕ) (n : ℕ) → length s ≡ n → lined_to s n 0 ≡ line_breaks s
unfolding lined_to
lined-whole s n l =
    let e : n - 0 ≡ length s = omega arith in
    ap (λ k. lined k 0 s) e ∙ lined-all 0 s ∙ sym (lines-with-breaks s)

-- ---- a line break at a place
pub break-is :
    (s : List ℕ) (i before next : ℕ) → i < length s → before ≡ get_or (0 ∷ s) i 0 → next ≡ get_or s (i + 1) 0
    → eqb (get_or s i 0) (code "\\") && (eqb before (code " ") && (eqb next (code "\n") || eqb (length s) (i + 1))) ≡ break_at s i
break-is s i before next h b n =
    ap₂ (λ x t. is "\\" (get_or s i 0) && (is " " x && t)) b (ap₂ (λ y t. is "\n" y || t) (n ∙ sym (head-drop s (i + 1))) empty-is)
  where
    empty-is : eqb (length s) (i + 1) ≡ empty (drop (i + 1) s)
    empty-is = go (drop (i + 1) s) refl
      where
        go : (t : List ℕ) → drop (i + 1) s ≡ t → eqb (length s) (i + 1) ≡ empty t
        go [] e = let l = length-drop (i + 1) s in let z = ap length e in eq-eqb (length s) (i + 1) (omega arith)
        go (x ∷ t) e = let l = length-drop (i + 1) s in let z = ap length e in ne_eqb (length s) (i + 1) (λ q. omega arith)

-- a test of the whole text, as the code reads it
pub whole-test : (f : List ℕ → Bool) (from n : ℕ) (w : List ℕ) {b t : Bool} → b ≡ f (part from (from + n - from) w) → b ≡ t → f (part from n w) ≡ t
whole-test f from n w e g = ap f (sym (whole_part from n w)) ∙ sym e ∙ g

-- ---- the cases of the stage
pub align-some : (s : List ℕ) → has_alignment s ≡ true → convert_alignment s ≡ aligned (line_breaks s)
unfolding convert_alignment
align-some s e = rw (e, convert_alignment) (rw e)

pub align-breaks : (s : List ℕ) → has_alignment s ≡ false → has_line_breaks s ≡ true → convert_alignment s ≡ line_breaks s
unfolding convert_alignment
align-breaks s e f = rw (e, f, convert_alignment) (rw e)

pub align-none : (s : List ℕ) → has_alignment s ≡ false → has_line_breaks s ≡ false → convert_alignment s ≡ s
unfolding convert_alignment
align-none s e f = rw (e, f, convert_alignment)

-- ---- what has been appended
pub record Lines (w w' : List ℕ) (from n : ℕ) (o o' : Writer) (start stop : ℕ) : Type 0 where
  pub appended : Appended w w' o o' (lined_to (part from n w) stop start)
  pub few : o'.count ≤ o.count + 2 * (stop - start)

pub record Aligned (w w' : List ℕ) (from n : ℕ) (o o' : Writer) : Type 0 where
  pub appended : Appended w w' o o' (aligned (line_breaks (part from n w)))

pub aligned-by :
    {w w₁ w₂ w₃ : List ℕ} {from n : ℕ} {o a b r : Writer} {span : Span}
    → Trimmed (part from (from + n - from) w) span → part from n w₁ ≡ part from n w
    → Appended w w₁ o a (bytes "\\begin{aligned}\n")
    → Appended w₁ w₂ a b (lined_to (part from n w₁) span.end span.start)
    → Appended w₂ w₃ b r (bytes "\n\\end{aligned}")
    → Aligned w w₃ from n o r
unfolding lined_to
aligned-by {w} {w₁} {w₂} {w₃} {from} {n} {a} {b} {r} {span} trimmed same opens lines closes =
    let s = part from n w in
    let t : Trimmed s span = subst (λ u. Trimmed u span) (whole_part from n w) trimmed in
    let e : lined_to (part from n w₁) span.end span.start ≡ trim (line_breaks s) =
    ap (λ u. lined_to u span.end span.start) same ∙ sym (ap trim (lines-with-breaks s) ∙ trim-with-breaks s t)
    in
    record {
      appended = appended-more (appended-more opens (subst (Appended w₁ w₂ a b) e lines)) closes;
    }

-- ---- a turn of the loop: the symbol at place i has been written
module _
    {w₀ w w' : List ℕ} {from n : ℕ} {o₀ o o' : Writer} {stop i : ℕ} {whole : List ℕ} {twice : Bool}
    (regions : Regions w₀ from n o₀) (filling : Filling w₀ w o₀ o (lined_to (part from n w₀) stop i) whole)
    (more : i < stop) (within : stop ≤ n)
    (test : twice ≡ break_at (part from (from + n - from) w) i) (a : Appended w w' o o' (piece (get_or w (from + i) 0) twice))
  where
    pub lines_more : Filling w₀ w' o₀ o' (lined_to (part from n w₀) stop (i + 1)) whole
    lines_more =
        let l = length_part from n w₀ regions.source in
        filling-more filling a
        (lined-step (part from n w₀) stop i more (omega arith)
        ∙ ap₂ (λ x b. piece x b ++ lined_to (part from n w₀) stop (i + 1))
        (sym (filling-symbol filling from n regions.apart i (omega arith)))
        (sym (test ∙ ap (λ s. break_at s i) (filling-source filling from n regions.apart))))

    pub lines-few : o'.count ≤ o.count + 2
    lines-few = let c = a.counted in let l = short twice (get_or w (from + i) 0) in omega arith
      where
        short : (b : Bool) (x : ℕ) → length (piece x b) ≤ 2
        short true x = omega arith
        short false x = omega arith
