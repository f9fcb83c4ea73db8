-- Every block at its own mark, as its encloser says, is each kind of blocks at its marks, in their order. Assumes nothing.
--     enclosers-text, enclosers-roman, enclosers-other    the enclosers, symbol by symbol
--     filled-parts    a text in two parts, each with its own blocks
--     own-marks       the law
use Rattle.std.specs.Prelude.{◌≡◌, Bool, ℕ, zero, suc, ◌+◌, ◌≤◌, take, drop, replicate}
use Rattle.std.proofs.Math.Path.{refl, sym, ap, ap₂}
use Rattle.std.proofs.Common.{◌∙◌, arith, length-drop, length-take, take-append-drop, eq-eqb, ne_eqb}
use Rattle.std.proofs.Math.Bool.{true, false, cond}
use mathlib.Core.List.{List, [], ◌∷◌, ◌++◌, append_assoc, append-nil}
use Rattle.std.proofs.Math.Option.{Option, none, some}
use Rattle.std.proofs.Math.Dec.{eqb}
use Rattle.std.proofs.Math.ListN.{length}
use Rattle.spec.specs.Symbols.{text_mark, roman_mark}
use Rattle.spec.specs.Held.{marks, enclosers_of, text_blocks, filled, in_none, in_block, enclosed, completed}
use Rattle.spec.specs.Laws.Held.{filled_none}
use Rattle.held_laws.specs.Marks.{count, concat, not-both}
use Rattle.held_laws.specs.WellMade.{Every, MarkFreeBlock, count-append, marks-count, unmarked-count}

-- ---- enclosers
module _ (r x : ℕ) (s : List ℕ) where
  pub enclosers-text : (romans : List (List ℕ)) → eqb x text_mark ≡ true → enclosers_of r romans (x ∷ s) ≡ none ∷ enclosers_of r romans s
  unfolding enclosers_of
  enclosers-text romans t = rw (t, enclosers_of)

  pub enclosers-roman : (b : List ℕ) (bs : List (List ℕ)) → eqb x text_mark ≡ false → eqb x roman_mark ≡ true
      → enclosers_of r (b ∷ bs) (x ∷ s) ≡ replicate (marks b) (some r) ++ enclosers_of (suc r) bs s
  unfolding enclosers_of
  enclosers-roman b bs t o = rw (t, enclosers_of, o)

  pub enclosers-other : (romans : List (List ℕ)) → eqb x text_mark ≡ false → eqb x roman_mark ≡ false → enclosers_of r romans (x ∷ s) ≡ enclosers_of r romans s
  unfolding enclosers_of
  enclosers-other romans t o = rw (t, enclosers_of, o)

-- ---- blocks at the marks of a text
module _ (mark : ℕ) where
  filled-met : (x : ℕ) (b : List ℕ) (bs : List (List ℕ)) (s : List ℕ) → eqb x mark ≡ true → filled mark (b ∷ bs) (x ∷ s) ≡ b ++ filled mark bs s
  unfolding filled
  filled-met x b bs s e = rw (e, filled)

  filled-other : (x : ℕ) (bs : List (List ℕ)) (s : List ℕ) → eqb x mark ≡ false → filled mark bs (x ∷ s) ≡ x ∷ filled mark bs s
  unfolding filled
  filled-other x [] s e = ap (λ l. x ∷ l) (sym (filled_none mark s))
  filled-other x (b ∷ bs) s e = rw (e, filled)

  filled-parts : (own bs : List (List ℕ)) (x s : List ℕ) → count mark x ≡ length own → filled mark (own ++ bs) (x ++ s) ≡ filled mark own x ++ filled mark bs s
  unfolding filled count
  filled-parts [] bs [] s e = refl
  filled-parts (a ∷ own) bs [] s e = absurd (omega arith)
  filled-parts own bs (c ∷ x) s e = go (eqb c mark) refl own e (λ own e. filled-parts own bs x s e)
    where
      go : (t : Bool) → eqb c mark ≡ t → (own : List (List ℕ)) → cond t (suc (count mark x)) (count mark x) ≡ length own
          → ((own : List (List ℕ)) → count mark x ≡ length own → filled mark (own ++ bs) (x ++ s) ≡ filled mark own x ++ filled mark bs s)
          → filled mark (own ++ bs) (c ∷ (x ++ s)) ≡ filled mark own (c ∷ x) ++ filled mark bs s
      go true t [] e more = absurd (omega arith)
      go true t (a ∷ own) e more =
          filled-met c a (own ++ bs) (x ++ s) t
          ∙ ap (λ l. a ++ l) (more own (omega arith))
          ∙ sym (append_assoc a (filled mark own x) (filled mark bs s))
          ∙ ap (λ l. l ++ filled mark bs s) (sym (filled-met c a own x t))
      go false t own e more =
          filled-other c (own ++ bs) (x ++ s) t ∙ ap (λ l. c ∷ l) (more own e) ∙ ap (λ l. l ++ filled mark bs s) (sym (filled-other c own x t))

  -- a text without the mark is passed
  filled-over : (bs : List (List ℕ)) (x s : List ℕ) → count mark x ≡ 0 → filled mark bs (x ++ s) ≡ x ++ filled mark bs s
  filled-over bs x s e = filled-parts [] bs x s e ∙ ap (λ l. l ++ filled mark bs s) (filled_none mark x)

  -- blocks for which there is no mark
  filled_more : (own bs : List (List ℕ)) (x : List ℕ) → count mark x ≡ length own → filled mark (own ++ bs) x ≡ filled mark own x
  unfolding filled
  filled_more own bs x e = ap (filled mark (own ++ bs)) (sym (append-nil x)) ∙ filled-parts own bs x [] e ∙ append-nil (filled mark own x)

-- ---- blocks that have one encloser
module _ (e : Option ℕ) (es : List (Option ℕ)) (bs : List (List ℕ)) where
  enclosed-elsewhere : (asked : Option ℕ → Bool) → asked e ≡ false → (own : List (List ℕ)) → enclosed asked (text_blocks (replicate (length own) e ++ es) (own ++ bs)) ≡ enclosed asked (text_blocks es bs)
  unfolding enclosed text_blocks
  enclosed-elsewhere asked q [] = refl
  enclosed-elsewhere asked q (a ∷ own) = rw (q, enclosed) (enclosed-elsewhere asked q own)

  enclosed-here : (asked : Option ℕ → Bool) → asked e ≡ true → (own : List (List ℕ)) → enclosed asked (text_blocks (replicate (length own) e ++ es) (own ++ bs)) ≡ own ++ enclosed asked (text_blocks es bs)
  unfolding enclosed text_blocks
  enclosed-here asked q [] = refl
  enclosed-here asked q (a ∷ own) = rw (q, enclosed) (ap {B = List (List ℕ)} (λ l. a ∷ l) (enclosed-here asked q own))

  completed-elsewhere : (own romans : List (List ℕ)) (r : ℕ) → ((k : ℕ) → r ≤ k → in_block k e ≡ false)
      → completed r (text_blocks (replicate (length own) e ++ es) (own ++ bs)) romans ≡ completed r (text_blocks es bs) romans
  unfolding completed
  completed-elsewhere own [] r other = refl
  completed-elsewhere own (c ∷ cs) r other =
      ap₂ (λ l m. filled text_mark l c ∷ m) (enclosed-elsewhere (in_block r) (other r (omega arith)) own) (completed-elsewhere own cs (suc r) (λ k h. other k (omega arith)))

-- ---- the law
every_drop : (P : List ℕ → Type 0) (n : ℕ) (bs : List (List ℕ)) → Every P bs → Every P (drop n bs)
unfolding Every
every_drop P zero bs all = all
every_drop P (suc n) [] all = tt
every_drop P (suc n) (b ∷ bs) all = every_drop P n bs all.1

abbrev by_enclosers : ℕ → List (Option ℕ) → List (List ℕ) → List (List ℕ) → List ℕ → List ℕ
by_enclosers r es texts romans s = filled roman_mark (completed r (text_blocks es texts) romans) (filled text_mark (enclosed in_none (text_blocks es texts)) s)

-- what the code writes: each kind at its marks, in their order
abbrev pub by_order : List (List ℕ) → List (List ℕ) → List ℕ → List ℕ
by_order texts romans s = filled text_mark texts (filled roman_mark romans s)

-- at the mark of a `\mathrm` block
own-roman :
    (r x : ℕ) (b s : List ℕ) (bs : List (List ℕ)) (es : List (Option ℕ)) (own rest : List (List ℕ)) → eqb x text_mark ≡ false → eqb x roman_mark ≡ true → count text_mark b ≡ length own
    → by_enclosers r (replicate (length own) (some r) ++ es) (own ++ rest) (b ∷ bs) (x ∷ s) ≡ filled text_mark own b ++ by_enclosers (suc r) es rest bs s
unfolding completed
own-roman r x b s bs es own rest t o long =
    let here = enclosed-here (some r) es rest (in_block r) (eq-eqb r r refl) own in
    ap₂ (filled roman_mark)
    (ap₂ (λ l m. l ∷ m)
    (ap (λ l. filled text_mark l b) here ∙ filled_more text_mark own (enclosed (in_block r) (text_blocks es rest)) b long)
    (completed-elsewhere (some r) es rest own bs (suc r) (λ k h. ne_eqb r k (λ e. omega arith))))
    (ap (λ l. filled text_mark l (x ∷ s)) (enclosed-elsewhere (some r) es rest in_none refl own) ∙ filled-other text_mark x (enclosed in_none (text_blocks es rest)) s t)
    ∙ filled-met roman_mark x (filled text_mark own b) (completed (suc r) (text_blocks es rest) bs) (filled text_mark (enclosed in_none (text_blocks es rest)) s) o

pub own-marks :
    (s : List ℕ) (r : ℕ) (texts romans : List (List ℕ)) → Every MarkFreeBlock texts → count roman_mark s ≡ length romans
    → count text_mark s + count text_mark (concat romans) ≡ length texts → by_enclosers r (enclosers_of r romans s) texts romans s ≡ by_order texts romans s
unfolding filled enclosed text_blocks count concat Every
own-marks [] r texts romans free c d = refl
own-marks (x ∷ s) r texts romans free c d = go (eqb x text_mark) refl (eqb x roman_mark) refl texts romans free c d (own-marks s)
  where
    go : (t : Bool) → eqb x text_mark ≡ t → (o : Bool) → eqb x roman_mark ≡ o → (texts romans : List (List ℕ)) → Every MarkFreeBlock texts
        → cond o (suc (count roman_mark s)) (count roman_mark s) ≡ length romans → cond t (suc (count text_mark s)) (count text_mark s) + count text_mark (concat romans) ≡ length texts
        → ((r : ℕ) (texts romans : List (List ℕ)) → Every MarkFreeBlock texts → count roman_mark s ≡ length romans → count text_mark s + count text_mark (concat romans) ≡ length texts
        → by_enclosers r (enclosers_of r romans s) texts romans s ≡ by_order texts romans s)
        → by_enclosers r (enclosers_of r romans (x ∷ s)) texts romans (x ∷ s) ≡ by_order texts romans (x ∷ s)
    go true t true o texts romans free c d more = not-both x t o
    go true t false o [] romans free c d more = absurd (omega arith)
    go true t false o (b ∷ texts) romans free c d more =
        let es = enclosers_of r romans s in
        let plain = (unmarked-count b free.0.mark-free).1 in
        ap (λ es. by_enclosers r es (b ∷ texts) romans (x ∷ s)) (enclosers-text r x s romans t)
        ∙ ap₂ (filled roman_mark) (completed-elsewhere none es texts (b ∷ []) romans r (λ k h. refl)) (filled-met text_mark x b (enclosed in_none (text_blocks es texts)) s t)
        ∙ filled-over roman_mark (completed r (text_blocks es texts) romans) b (filled text_mark (enclosed in_none (text_blocks es texts)) s) plain
        ∙ ap (λ l. b ++ l) (more r texts romans free.1 c (omega arith))
        ∙ sym (ap (filled text_mark (b ∷ texts)) (filled-other roman_mark x romans s o) ∙ filled-met text_mark x b texts (filled roman_mark romans s) t)
    go false t true o texts [] free c d more = absurd (omega arith)
    go false t true o texts (b ∷ bs) free c d more =
        let es = enclosers_of (suc r) bs s in
        let m = marks b in
        let k = marks-count b in
        let j = count-append text_mark b (concat bs) in
        let own = take m texts in
        let rest = drop m texts in
        let long : length own ≡ m = let l = length-take m texts in omega arith in
        let whole = take-append-drop m texts in
        let some_in : replicate m (some r) ≡ replicate (length own) (some r) = ap (λ n. replicate n (some r)) (sym long) in
        ap (λ es. by_enclosers r es texts (b ∷ bs) (x ∷ s)) (enclosers-roman r x s b bs t o ∙ ap (λ l. l ++ es) some_in)
        ∙ ap (λ l. by_enclosers r (replicate (length own) (some r) ++ es) l (b ∷ bs) (x ∷ s)) (sym whole)
        ∙ own-roman r x b s bs es own rest t o (sym k ∙ sym long)
        ∙ ap (λ l. filled text_mark own b ++ l) (more (suc r) rest bs (every_drop MarkFreeBlock m texts free) (omega arith) (let l = length-drop m texts in omega arith))
        ∙ sym
        (ap₂ (filled text_mark) (sym whole) (filled-met roman_mark x b bs s o)
        ∙ filled-parts text_mark own rest b (filled roman_mark bs s) (sym k ∙ sym long))
    go false t false o texts romans free c d more =
        let es = enclosers_of r romans s in
        ap (λ es. by_enclosers r es texts romans (x ∷ s)) (enclosers-other r x s romans t o)
        ∙ ap (filled roman_mark (completed r (text_blocks es texts) romans)) (filled-other text_mark x (enclosed in_none (text_blocks es texts)) s t)
        ∙ filled-other roman_mark x (completed r (text_blocks es texts) romans) (filled text_mark (enclosed in_none (text_blocks es texts)) s) o
        ∙ ap (λ l. x ∷ l) (more r texts romans free c d)
        ∙ sym (ap (filled text_mark texts) (filled-other roman_mark x romans s o) ∙ filled-other text_mark x texts (filled roman_mark romans s) t)
