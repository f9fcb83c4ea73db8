-- Held blocks. While names and words are looked for, each `\text{..}` and `\mathrm{..}` block is out of the text: a mark stands in its place, and
-- the blocks are in lists, in the order of holding out. A `\mathrm` block keeps the marks of the `\text` blocks in it: it encloses them.
--     hold_texts, hold_both    holding out, in definitions and in words
--     in_full                 every block at its own mark: what putting back gives, and the text whose length number 5 counts
--     held_stage              a stage that rewrites the text between the marks
-- The Rust has numbered placeholders instead of marks and puts the blocks back by number, which can lose one. Assumes nothing.
use Rattle.std.specs.Prelude.{Bool, true, false, cond, List, [], ◌∷◌, ◌++◌, ℕ, zero, suc, eqb, length, drop, replicate}
use Rattle.std.proofs.Math.Option.{Option, none, some}
use Rattle.spec.specs.Symbols.{bytes, text_mark, roman_mark, until, starts}
use Rattle.spec.specs.Closing.{close, find_matching_brace}
use Rattle.spec.specs.Result.{Result, passed, grown}

-- a `\text` block, and the number of the `\mathrm` block that encloses it, if one does
pub record TextBlock : Type 0 where
  pub symbols : List ℕ
  pub encloser : Option ℕ

-- nothing encloses a `\mathrm` block
pub record Held : Type 0 where
  pub text : List ℕ
  pub texts : List TextBlock
  pub romans : List (List ℕ)

-- the text is changed between the marks
abbrev pub with_text : Held → List ℕ → Held
with_text h s = record { text = s; texts = h.texts; romans = h.romans }

-- ---- holding out the blocks of one name
pub record Taken : Type 0 where
  pub left : List ℕ
  pub blocks : List (List ℕ)

abbrev pub leaving : ℕ → Taken → Taken
leaving x t = record { left = x ∷ t.left; blocks = t.blocks }

abbrev pub taking : ℕ → List ℕ → Taken → Taken
taking mark block t = record { left = mark ∷ t.left; blocks = block ∷ t.blocks }

-- Where a block doesn't close, it and all that stands behind it is left as it is. `skip` counts the symbols of a block that are still to be passed.
unfoldable pub take_out : List ℕ → ℕ → ℕ → List ℕ → Taken
take_out name mark skip [] = record { left = []; blocks = [] }
take_out name mark (suc skip) (x ∷ s) = take_out name mark skip s
take_out name mark zero (x ∷ s) =
    elim (starts name (x ∷ s)) [
      | true ↦ elim (find_matching_brace (drop (length name) (x ∷ s))) [
        | none ↦ record { left = x ∷ s; blocks = [] }
        | some behind ↦ taking mark (until (x ∷ s) behind) (take_out name mark (length (until s behind)) s)
      ]
      | false ↦ leaving x (take_out name mark 0 s)
    ]

-- ---- the block that encloses another
unfoldable pub marks : List ℕ → ℕ
marks [] = 0
marks (x ∷ s) = elim (eqb x text_mark) [ true ↦ suc (marks s) | false ↦ marks s ]

-- a `\mathrm` block encloses the `\text` blocks whose marks it holds, and nothing encloses one whose mark stands in the text; r is the number of the
-- next `\mathrm` block
unfoldable pub enclosers_of : ℕ → List (List ℕ) → List ℕ → List (Option ℕ)
unfolding marks
enclosers_of r romans [] = []
enclosers_of r romans (x ∷ s) =
    elim (eqb x text_mark) [
      | true ↦ none ∷ enclosers_of r romans s
      | false ↦ elim (eqb x roman_mark) [
        | true ↦ elim romans [ [] ↦ enclosers_of (suc r) [] s | b ∷ bs ↦ replicate (marks b) (some r) ++ enclosers_of (suc r) bs s ]
        | false ↦ enclosers_of r romans s
      ]
    ]

-- where the enclosers end, nothing encloses a block
unfoldable pub text_blocks : List (Option ℕ) → List (List ℕ) → List TextBlock
text_blocks enclosers [] = []
text_blocks [] (b ∷ bs) = record { symbols = b; encloser = none } ∷ text_blocks [] bs
text_blocks (e ∷ es) (b ∷ bs) = record { symbols = b; encloser = e } ∷ text_blocks es bs

-- ---- holding out
unfoldable pub hold_texts : List ℕ → Held
unfolding take_out close text_blocks
hold_texts s =
    let t = take_out (bytes "\\text{") text_mark 0 s in
    record { text = t.left; texts = text_blocks [] t.blocks; romans = [] }

unfoldable pub hold_both : List ℕ → Held
unfolding take_out close enclosers_of text_blocks
hold_both s =
    let t = take_out (bytes "\\text{") text_mark 0 s in
    let r = take_out (bytes "\\mathrm{") roman_mark 0 t.left in
    record { text = r.left; texts = text_blocks (enclosers_of 0 r.blocks r.left) t.blocks; romans = r.blocks }

-- ---- every block at its own mark
-- the first mark stands for the first block, the second for the second
unfoldable pub filled : ℕ → List (List ℕ) → List ℕ → List ℕ
filled mark blocks [] = []
filled mark [] (x ∷ s) = x ∷ s
filled mark (b ∷ bs) (x ∷ s) = elim (eqb x mark) [ true ↦ b ++ filled mark bs s | false ↦ x ∷ filled mark (b ∷ bs) s ]

abbrev pub in_none : Option ℕ → Bool
in_none none = true
in_none (some k) = false

abbrev pub in_block : ℕ → Option ℕ → Bool
in_block r none = false
in_block r (some k) = eqb k r

-- the `\text` blocks whose encloser is as asked
unfoldable pub enclosed : (Option ℕ → Bool) → List TextBlock → List (List ℕ)
enclosed asked [] = []
enclosed asked (b ∷ bs) = cond (asked b.encloser) (b.symbols ∷ enclosed asked bs) (enclosed asked bs)

-- the `\mathrm` blocks from number r on, each with the blocks that it encloses
unfoldable pub completed : ℕ → List TextBlock → List (List ℕ) → List (List ℕ)
unfolding filled enclosed
completed r texts [] = []
completed r texts (b ∷ bs) = filled text_mark (enclosed (in_block r) texts) b ∷ completed (suc r) texts bs

unfoldable pub in_full : Held → List ℕ
unfolding filled enclosed completed
in_full h = filled roman_mark (completed 0 h.texts h.romans) (filled text_mark (enclosed in_none h.texts) h.text)

abbrev pub put_back : Held → Result (List ℕ)
put_back h = passed (in_full h)

abbrev pub held_stage : (List ℕ → List ℕ) → Held → Result Held
held_stage f h = let g = with_text h (f h.text) in grown (in_full g) g
