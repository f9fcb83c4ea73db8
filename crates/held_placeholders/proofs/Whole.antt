-- Definitions and words as the Rust has them: where no stage has grown too long and the Rust's own put-back leaves no mark, the text is the Rust's.
-- Assumes nothing.
--     placed_of               what is held, as the Rust has it
--     definitions-literal, words-literal    the Rust's text, from its own hold-out on
--     definitions-own, words-own            so the answer is the Rust's text, where no mark is left in it
use Rattle.std.specs.Prelude.{◌≡◌, refl, Bool, true, false, cond, ◌||◌, ℕ, suc, ◌+◌, eqb, length}
use Rattle.std.proofs.Math.Path.{sym, ap}
use Rattle.std.proofs.Common.{ap₂, ◌∙◌, eqb-true}
use mathlib.Core.List.{List, [], ◌∷◌, ◌++◌, append-nil}
use Rattle.spec.specs.Symbols.{text_mark, roman_mark}
use Rattle.spec.specs.Sweep.{Rule, sweep}
use Rattle.spec.specs.Result.{Result, passed, ◌then◌}
use Rattle.spec.specs.Held.{Held, with_text, hold_texts, hold_both, held_stage, marks, put_back}
use Rattle.spec.specs.Table.{Definition, in_order}
use Rattle.spec.specs.Definitions.{apply_definition, apply_definitions, apply_definitions_outside_text}
use Rattle.spec.specs.Rows.{Row, greek_letters, word_mappings}
use Rattle.spec.specs.Words.{greek, word_or_literal, held_rows, convert_words}
use Rattle.spec.specs.Laws.Booleans.{and_parts}
use Rattle.held_laws.specs.Marks.{has_mark, not-both}
use Rattle.held_laws.specs.WellMade.{texts_of}
use Rattle.held_placeholders.specs.Numbered.{placeholder, numbered, numbered_romans, restored, rust_put_back, romans-none}
use Rattle.held_placeholders.specs.Fill.{fill}
use Rattle.held_placeholders.specs.Broken.{marked}
use Rattle.held_placeholders.specs.Numbering.{numbers, numbered-fill}
use Rattle.held_placeholders.proofs.PutBack.{rust-own}
use Rattle.held_laws.specs.Rewriting.{Between, marks_of, sweep-marks}
use Rattle.held_laws.specs.Instances.{EverySound, defined-between, fine_row, fine_rows, greek-fine, words-fine, greek-between, word-between, passed-one, stage-made, definitions-made, rows_made}
use Rattle.held_laws.specs.Holding.{hold-texts-made, hold-both-made}
use Rattle.held_placeholders.specs.Placeholders.{text_names, PlaceholderText, placed, hold_out, defined_all, rust_definitions, rewritten_all, rust_words}
use Rattle.held_placeholders.specs.Numbers.{romans-plain, romans-text}
use Rattle.held_placeholders.proofs.Literal.{texts-held, both-held}
use Rattle.held_placeholders.specs.Commutes.{sweep-fill}

abbrev pub placed_of : Held → PlaceholderText
placed_of h = placed (numbered h.romans 0 (length (texts_of h)) h.text) (texts_of h ++ numbered_romans h.romans 0 h.text)

-- ---- the numbers are those of the marks alone
numbers-marks : (s : List ℕ) (romans : List (List ℕ)) (t r : ℕ) → numbers romans t r s ≡ numbers romans t r (marks_of s)
unfolding numbers marks_of
numbers-marks [] romans t r = refl
numbers-marks (x ∷ s) romans t r = go (eqb x text_mark) refl (eqb x roman_mark) refl romans (numbers-marks s)
  where
    behind : List (List ℕ) → List ℕ → List ℕ
    behind romans l = elim romans as (λ _. List ℕ) [ [] ↦ numbers [] t (suc r) l | b ∷ bs ↦ numbers bs (t + marks b) (suc r) l ]

    go : (m : Bool) → eqb x text_mark ≡ m → (n : Bool) → eqb x roman_mark ≡ n → (romans : List (List ℕ))
        → ((romans : List (List ℕ)) (t r : ℕ) → numbers romans t r s ≡ numbers romans t r (marks_of s))
        → cond m (t ∷ numbers romans (suc t) r s) (cond n (r ∷ behind romans s) (numbers romans t r s)) ≡ numbers romans t r (cond (m || n) (x ∷ marks_of s) (marks_of s))
    go true p true q romans more = not-both x p q
    go true p false q romans more =
        ap (λ l. t ∷ l) (more romans (suc t) r)
        ∙ sym (ap (λ m. cond m (t ∷ numbers romans (suc t) r (marks_of s)) (cond (eqb x roman_mark) (r ∷ behind romans (marks_of s)) (numbers romans t r (marks_of s)))) p)
    go false p true q [] more =
        ap (λ l. r ∷ l) (more [] t (suc r))
        ∙ sym (ap₂ (λ m n. cond m (t ∷ numbers [] (suc t) r (marks_of s)) (cond n (r ∷ numbers [] t (suc r) (marks_of s)) (numbers [] t r (marks_of s)))) p q)
    go false p true q (b ∷ bs) more =
        ap (λ l. r ∷ l) (more bs (t + marks b) (suc r))
        ∙ sym (ap₂ (λ m n. cond m (t ∷ numbers (b ∷ bs) (suc t) r (marks_of s)) (cond n (r ∷ numbers bs (t + marks b) (suc r) (marks_of s)) (numbers (b ∷ bs) t r (marks_of s)))) p q)
    go false p false q romans more = more romans t r

romans-marks : (s : List ℕ) (romans : List (List ℕ)) (t : ℕ) → numbered_romans romans t s ≡ numbered_romans romans t (marks_of s)
unfolding marks_of numbered_romans
romans-marks [] romans t = refl
romans-marks (x ∷ s) romans t = go (eqb x text_mark) refl (eqb x roman_mark) refl romans (romans-marks s)
  where
    go : (m : Bool) → eqb x text_mark ≡ m → (n : Bool) → eqb x roman_mark ≡ n → (romans : List (List ℕ))
        → ((romans : List (List ℕ)) (t : ℕ) → numbered_romans romans t s ≡ numbered_romans romans t (marks_of s))
        → numbered_romans romans t (x ∷ s) ≡ numbered_romans romans t (cond (m || n) (x ∷ marks_of s) (marks_of s))
    go true p n q romans more =
        let e = eqb-true x text_mark p in
        ap (λ c. numbered_romans romans t (c ∷ s)) e
        ∙ romans-text romans t s
        ∙ more romans (suc t)
        ∙ sym (ap (λ c. numbered_romans romans t (c ∷ marks_of s)) e ∙ romans-text romans t (marks_of s))
    go false p true q [] more = refl
    go false p true q (b ∷ bs) more =
        let e = eqb-true x roman_mark q in
        ap (λ c. numbered_romans (b ∷ bs) t (c ∷ s)) e
        ∙ ap (λ l. numbered [] t 0 b ∷ l) (more bs (t + marks b))
        ∙ sym (ap (λ c. numbered_romans (b ∷ bs) t (c ∷ marks_of s)) e)
    go false p false q romans more = romans-plain x p q t s romans ∙ more romans t

-- ---- one rule
module _ {rule : Rule} (between : Between rule) where
  pub numbered-sweep : (romans : List (List ℕ)) (t r : ℕ) (s : List ℕ) → numbered romans t r (sweep rule 0 0 s) ≡ sweep rule 0 0 (numbered romans t r s)
  numbered-sweep romans t r s =
      numbered-fill (sweep rule 0 0 s) romans t r
      ∙ ap (λ ks. fill placeholder ks (sweep rule 0 0 s)) (numbers-marks (sweep rule 0 0 s) romans t r ∙ ap (numbers romans t r) (sweep-marks between s) ∙ sym (numbers-marks s romans t r))
      ∙ sweep-fill between s (numbers romans t r s)
      ∙ ap (sweep rule 0 0) (sym (numbered-fill s romans t r))

  pub romans-sweep : (romans : List (List ℕ)) (t : ℕ) (s : List ℕ) → numbered_romans romans t (sweep rule 0 0 s) ≡ numbered_romans romans t s
  romans-sweep romans t s = romans-marks (sweep rule 0 0 s) romans t ∙ ap (numbered_romans romans t) (sweep-marks between s) ∙ sym (romans-marks s romans t)

  placed-sweep : (h : Held) → placed_of (with_text h (sweep rule 0 0 h.text)) ≡ placed (sweep rule 0 0 (placed_of h).text) (placed_of h).blocks
  placed-sweep h =
      ap₂ placed (numbered-sweep h.romans 0 (length (texts_of h)) h.text) (ap (λ l. texts_of h ++ l) (romans-sweep h.romans 0 h.text))

-- ---- definitions
placed-definitions :
    (ds : List Definition) → EverySound ds → (h g : Held) → apply_definitions ds h ≡ passed g → placed_of g ≡ placed (defined_all ds (placed_of h).text) (placed_of h).blocks
unfolding apply_definitions defined_all EverySound apply_definition
placed-definitions [] sound h g e = ap placed_of (sym (passed-one e))
placed-definitions (d ∷ ds) sound h g e = go (eqb (length d.name) 1) e (λ h e. placed-definitions ds sound.1 h g e)
  where
    go : (t : Bool)
        → elim t as (λ _. Result Held) [ true ↦ apply_definitions ds h | false ↦ held_stage (apply_definition d) h then apply_definitions ds ] ≡ passed g
        → ((h : Held) → apply_definitions ds h ≡ passed g → placed_of g ≡ placed (defined_all ds (placed_of h).text) (placed_of h).blocks)
        → placed_of g ≡ placed (elim t as (λ _. List ℕ) [ true ↦ defined_all ds (placed_of h).text | false ↦ defined_all ds (apply_definition d (placed_of h).text) ]) (placed_of h).blocks
    go true e more = more h e
    go false e more =
        more (with_text h (apply_definition d h.text)) (stage-made (apply_definition d) h (apply_definitions ds) e)
        ∙ ap (λ p. placed (defined_all ds p.text) p.blocks) (placed-sweep (defined-between sound.0) h)

module _ (ds : List Definition) (sound : EverySound (in_order ds)) (s : List ℕ) (free : has_mark s ≡ false) {g : Held} (through : apply_definitions (in_order ds) (hold_texts s) ≡ passed g) where
  pub definitions-literal : rust_definitions ds s ≡ rust_put_back g
  unfolding rust_definitions rust_put_back hold_texts
  definitions-literal =
      let start : hold_out text_names s ≡ placed_of (hold_texts s) = texts-held s free (length (texts_of (hold_texts s))) ∙ ap (placed _) (append-romans (texts_of (hold_texts s)) (hold_texts s).text) in
      ap (λ p. restored 0 p.blocks (defined_all (in_order ds) p.text)) start
      ∙ sym (ap (λ p. restored 0 p.blocks p.text) (placed-definitions (in_order ds) sound (hold_texts s) g through))
    where
      append-romans : (bs : List (List ℕ)) (l : List ℕ) → bs ≡ bs ++ numbered_romans [] 0 l
      append-romans bs l = sym (ap (λ r. bs ++ r) (romans-none 0 l) ∙ append-nil bs)

  pub definitions-own : marked (rust_definitions ds s) ≡ false → apply_definitions_outside_text ds s ≡ passed (rust_definitions ds s)
  unfolding apply_definitions_outside_text
  definitions-own none =
      let made = definitions-made (in_order ds) sound (hold-texts-made s free) through in
      ap (λ p. p then put_back) through ∙ ap passed (sym (rust-own made (sym (ap marked definitions-literal) ∙ none)) ∙ sym definitions-literal)

-- ---- words
placed-rows :
    (rule : Row → Rule) → ((r : Row) → fine_row r ≡ true → Between (rule r)) → (rs : List Row) → fine_rows rs ≡ true → (h g : Held) → held_rows rule rs h ≡ passed g
    → placed_of g ≡ placed (rewritten_all rule rs (placed_of h).text) (placed_of h).blocks
unfolding held_rows rewritten_all
placed-rows rule each [] f h g e = ap placed_of (sym (passed-one e))
placed-rows rule each (r ∷ rs) f h g e =
    let both = and_parts (fine_row r) (fine_rows rs) f in
    placed-rows rule each rs both.1 (with_text h (sweep (rule r) 0 0 h.text)) g (stage-made (sweep (rule r) 0 0) h (held_rows rule rs) e)
    ∙ ap (λ p. placed (rewritten_all rule rs p.text) p.blocks) (placed-sweep (each r both.0) h)

-- two runs of rows that both went through
module _ (s : List ℕ) (free : has_mark s ≡ false) {h g : Held} (greeks : held_rows greek greek_letters (hold_both s) ≡ passed h) (words : held_rows word_or_literal word_mappings h ≡ passed g) where
  pub words-literal : rust_words s ≡ rust_put_back g
  unfolding rust_words rust_put_back
  words-literal =
      ap (λ p. restored 0 p.blocks (rewritten_all word_or_literal word_mappings (rewritten_all greek greek_letters p.text))) (both-held s free)
      ∙ sym (ap (λ p. restored 0 p.blocks (rewritten_all word_or_literal word_mappings p.text)) (placed-rows greek greek-between greek_letters greek-fine (hold_both s) h greeks))
      ∙ sym (ap (λ p. restored 0 p.blocks p.text) (placed-rows word_or_literal word-between word_mappings words-fine h g words))

  pub words-own : marked (rust_words s) ≡ false → convert_words s ≡ passed (rust_words s)
  unfolding convert_words
  words-own none =
      let made = rows_made word_or_literal word-between word_mappings words-fine (rows_made greek greek-between greek_letters greek-fine (hold-both-made s free) greeks) words in
      ap (λ p. p then held_rows word_or_literal word_mappings then put_back) greeks
      ∙ ap (λ p. p then put_back) words
      ∙ ap passed (sym (rust-own made (sym (ap marked words-literal) ∙ none)) ∙ sym words-literal)
