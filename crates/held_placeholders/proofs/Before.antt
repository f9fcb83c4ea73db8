-- The conversion with the Rust's put-back, as it was before A2: number 6 refuses a text in which that loses a block, and for number 5 the blocks are
-- put back in the order of their marks. Every call that it accepts has the same answer and bytes by `converted`, which puts every block to its own
-- mark. The other stages are those of `converted`. Assumes nothing.
--     converted_before    what a call comes to with it
--     before-or-six      it comes to 6, or to what it comes to by `converted`
--     accepted-before    so an accepted call is accepted by `converted`, with the same bytes
use Rattle.std.specs.Prelude.{◌≡◌, refl, Bool, true, false, cond, List, [], ◌∷◌, ◌++◌, ◌⊎◌, ℕ, eqb, ltb, length, drop}
use Rattle.std.proofs.Common.{sym, ap, ◌∙◌, inl, inr, ⊎_elim}
use Rattle.spec.specs.Symbols.{foreign, text_mark, roman_mark, any}
use Rattle.spec.specs.Sweep.{Rule, sweep}
use Rattle.spec.specs.Result.{Result, passed, refused, ◌then◌, most_symbols, grown, stage}
use Rattle.spec.specs.Held.{Held, with_text, filled, in_full, held_stage, hold_texts, hold_both, put_back}
use Rattle.spec.specs.Table.{Definition, in_order}
use Rattle.spec.specs.Definitions.{apply_definition, apply_definitions, apply_definitions_outside_text}
use Rattle.spec.specs.Rows.{Row, greek_letters, word_mappings}
use Rattle.spec.specs.Words.{greek, word_or_literal, held_rows, convert_words, convert_greek_capitals}
use Rattle.spec.specs.Scripts.{convert_subscripts, convert_superscripts}
use Rattle.spec.specs.Fractions.{convert_fractions}
use Rattle.spec.specs.Finish.{escape_set_braces, convert_lr, size_delimiters_to_content, escape_percent, convert_alignment, drop_thin_space_after_commands}
use Rattle.spec.specs.Pipeline.{unmark_solidus, on_display, convert_syntax, typst_to_latex, definitions_or, admitted, fitting, converted, answer_of, output_after, Call}
use Rattle.spec.specs.Laws.Admission.{Admission, not-admitted, is-admitted, admission}
use Rattle.spec.specs.Laws.Booleans.{and_parts}
use Rattle.held_laws.specs.Marks.{has_mark}
use Rattle.held_laws.specs.WellMade.{texts_of, WellMade}
use Rattle.held_laws.specs.InFull.{in-full-order}
use Rattle.held_laws.specs.Holding.{hold-texts-made, hold-both-made}
use Rattle.held_laws.specs.Rewriting.{Between, sweep-made}
use Rattle.held_laws.specs.Instances.{any-unmarked, EverySound, defined-between, fine_row, fine_rows, greek-fine, words-fine, greek-between, word-between, refused-not, table-sound, definitions-made, rows_made}
use Rattle.stage_laws.specs.Each.{Each}
use Rattle.stage_laws.specs.Calls.{unmarked}
use Rattle.stage_laws.specs.Stages.{Passes, pass, stop, before_definitions, before_words, before-definitions-passes, before-words-passes}
use Rattle.stage_laws.specs.Outside.{each_bare, bare-each, outside-passes}
use Rattle.held_placeholders.specs.Numbered.{rust_put_back}
use Rattle.held_placeholders.proofs.PutBack.{rust-own}

-- ---- the definitions
-- the length that number 5 counted
abbrev pub held_stage_before : (List ℕ → List ℕ) → Held → Result Held
held_stage_before f h = let g = with_text h (f h.text) in grown (filled text_mark (texts_of g) (filled roman_mark g.romans g.text)) g

-- number 6: a mark remains
unfoldable pub put_back_before : Held → Result (List ℕ)
unfolding rust_put_back
put_back_before h = let t = rust_put_back h in cond (any (λ x. eqb x text_mark) t) (refused 6) (passed t)

unfoldable pub definitions_before : List Definition → Held → Result Held
unfolding apply_definition filled
definitions_before [] h = passed h
definitions_before (d ∷ ds) h = elim (eqb (length d.name) 1) [ true ↦ definitions_before ds h | false ↦ held_stage_before (apply_definition d) h then definitions_before ds ]

abbrev pub outside_text_before : List Definition → List ℕ → Result (List ℕ)
outside_text_before ds s = definitions_before (in_order ds) (hold_texts s) then put_back_before

unfoldable pub held_rows_before : (Row → Rule) → List Row → Held → Result Held
unfolding sweep filled
held_rows_before rule [] h = passed h
held_rows_before rule (r ∷ rs) h = held_stage_before (sweep (rule r) 0 0) h then held_rows_before rule rs

abbrev pub words_before : List ℕ → Result (List ℕ)
words_before s = held_rows_before greek greek_letters (hold_both s) then held_rows_before word_or_literal word_mappings then put_back_before

-- the stages that did not move
abbrev pub behind_words : Bool → ℕ → Result (List ℕ) → Result (List ℕ)
behind_words display field r =
    r
    then convert_greek_capitals
    then convert_subscripts
    then convert_superscripts
    then on_display display convert_fractions
    then stage unmark_solidus
    then stage escape_set_braces
    then convert_lr
    then on_display display (stage (size_delimiters_to_content field))
    then stage escape_percent

abbrev pub convert_syntax_before : Bool → ℕ → List ℕ → Result (List ℕ)
convert_syntax_before display field s = behind_words display field (before_words s then words_before)

abbrev pub typst_to_latex_before : List Definition → Bool → ℕ → List ℕ → Result (List ℕ)
typst_to_latex_before ds display field s =
    before_definitions s then outside_text_before ds then convert_syntax_before display field then stage convert_alignment then stage drop_thin_space_after_commands

abbrev pub converted_before : List ℕ → List ℕ → Bool → ℕ → List ℕ → List ℕ → Result (List ℕ)
converted_before formula table display field work output = admitted formula table field work then typst_to_latex_before (definitions_or table) display field then fitting output

-- ---- 6, or the same
abbrev pub SixOr : Result (List ℕ) → Result (List ℕ) → Type 0
SixOr before now = (before ≡ refused 6) ⊎ (before ≡ now)

then-six-or : (tail : Result (List ℕ) → Result (List ℕ)) → tail (refused 6) ≡ refused 6 → {r r' : Result (List ℕ)} → SixOr r r' → SixOr (tail r) (tail r')
then-six-or tail z e = ⊎_elim (λ six. inl (ap tail six ∙ z)) (λ same. inr (ap tail same)) e

-- ---- stages around held blocks
held_same : (f : List ℕ → List ℕ) (h : Held) → WellMade (with_text h (f h.text)) → held_stage_before f h ≡ held_stage f h
held_same f h made = ap (λ l. grown {A = Held} l (with_text h (f h.text))) (sym (in-full-order made))

-- what comes behind a stage need only be the same of what it gives
stage-same :
    (f : List ℕ → List ℕ) (h : Held) (k k' : Held → Result Held) → WellMade (with_text h (f h.text)) → k (with_text h (f h.text)) ≡ k' (with_text h (f h.text))
    → (held_stage_before f h then k) ≡ (held_stage f h then k')
stage-same f h k k' made same = ap (λ r. r then k) (held_same f h made) ∙ go (ltb most_symbols (length (in_full (with_text h (f h.text)))))
  where
    go : (t : Bool)
        → (cond {A = Result Held} t (refused 5) (passed (with_text h (f h.text))) then k) ≡ (cond {A = Result Held} t (refused 5) (passed (with_text h (f h.text))) then k')
    go true = refl
    go false = same

definitions-same : (ds : List Definition) → EverySound ds → (h : Held) → WellMade h → definitions_before ds h ≡ apply_definitions ds h
unfolding definitions_before apply_definitions EverySound apply_definition
definitions-same [] sound h made = refl
definitions-same (d ∷ ds) sound h made = go (eqb (length d.name) 1) (definitions-same ds sound.1)
  where
    go : (t : Bool) → ((h : Held) → WellMade h → definitions_before ds h ≡ apply_definitions ds h)
        → ◌≡◌ {A = Result Held} (elim t [ true ↦ definitions_before ds h | false ↦ held_stage_before (apply_definition d) h then definitions_before ds ])
        (elim t [ true ↦ apply_definitions ds h | false ↦ held_stage (apply_definition d) h then apply_definitions ds ])
    go true more = more h made
    go false more =
        let next = sweep-made (defined-between sound.0) made in
        stage-same (apply_definition d) h (definitions_before ds) (apply_definitions ds) next (more (with_text h (apply_definition d h.text)) next)

rows_same :
    (rule : Row → Rule) → ((r : Row) → fine_row r ≡ true → Between (rule r)) → (rs : List Row) → fine_rows rs ≡ true → (h : Held) → WellMade h
    → held_rows_before rule rs h ≡ held_rows rule rs h
unfolding held_rows_before held_rows
rows_same rule each [] f h made = refl
rows_same rule each (r ∷ rs) f h made =
    let both = and_parts (fine_row r) (fine_rows rs) f in
    let next = sweep-made (each r both.0) made in
    stage-same (sweep (rule r) 0 0) h (held_rows_before rule rs) (held_rows rule rs) next (rows_same rule each rs both.1 (with_text h (sweep (rule r) 0 0 h.text)) next)

back-six-or : (h : Held) → WellMade h → SixOr (put_back_before h) (put_back h)
unfolding put_back_before
back-six-or h made = go (any (λ x. eqb x text_mark) (rust_put_back h)) refl
  where
    go : (t : Bool) → any (λ x. eqb x text_mark) (rust_put_back h) ≡ t → SixOr (cond t (refused 6) (passed (rust_put_back h))) (put_back h)
    go true e = inl refl
    go false e = inr (ap passed (rust-own made e))

-- ---- definitions and words
outside-six-or : (ds : List Definition) → EverySound (in_order ds) → (s : List ℕ) → has_mark s ≡ false → SixOr (outside_text_before ds s) (apply_definitions_outside_text ds s)
unfolding apply_definitions_outside_text
outside-six-or ds sound s free = rw (definitions-same (in_order ds) sound (hold_texts s) (hold-texts-made s free)) (go (apply_definitions (in_order ds) (hold_texts s)) refl)
  where
    go : (r : Result Held) → apply_definitions (in_order ds) (hold_texts s) ≡ r → SixOr (r then put_back_before) (r then put_back)
    go (passed h) e = back-six-or h (definitions-made (in_order ds) sound (hold-texts-made s free) e)
    go (refused n) e = inr refl

words-six-or : (s : List ℕ) → has_mark s ≡ false → SixOr (words_before s) (convert_words s)
unfolding convert_words
words-six-or s free =
    rw (rows_same greek greek-between greek_letters greek-fine (hold_both s) (hold-both-made s free)) (go (held_rows greek greek_letters (hold_both s)) refl)
  where
    second : (h : Held) → WellMade h → (r : Result Held) → held_rows word_or_literal word_mappings h ≡ r → SixOr (r then put_back_before) (r then put_back)
    second h made (passed g) e = back-six-or g (rows_made word_or_literal word-between word_mappings words-fine made e)
    second h made (refused n) e = inr refl

    go : (r : Result Held) → held_rows greek greek_letters (hold_both s) ≡ r
        → SixOr (r then held_rows_before word_or_literal word_mappings then put_back_before) (r then held_rows word_or_literal word_mappings then put_back)
    go (passed h) e =
        let made = rows_made greek greek-between greek_letters greek-fine (hold-both-made s free) e in
        rw (rows_same word_or_literal word-between word_mappings words-fine h made) (second h made (held_rows word_or_literal word_mappings h) refl)
    go (refused n) e = inr refl

-- ---- the whole
syntax-six-or : (display : Bool) (field : ℕ) (s : List ℕ) → Each unmarked s → SixOr (convert_syntax_before display field s) (convert_syntax display field s)
unfolding convert_syntax
syntax-six-or display field s free = then-six-or (behind_words display field) refl (go (before_words s) (before-words-passes s free))
  where
    go : (r : Result (List ℕ)) → Passes unmarked r → SixOr (r then words_before) (r then convert_words)
    go (passed t) (pass a) = words-six-or t (each_bare a)
    go (refused n) stop = inr refl

latex-six-or : (ds : List Definition) → EverySound (in_order ds) → (display : Bool) (field : ℕ) (s : List ℕ) → Each unmarked s → SixOr (typst_to_latex_before ds display field s) (typst_to_latex ds display field s)
unfolding typst_to_latex
latex-six-or ds sound display field s free = then-six-or behind refl (go (before_definitions s) (before-definitions-passes s free))
  where
    behind : Result (List ℕ) → Result (List ℕ)
    behind r = r then stage convert_alignment then stage drop_thin_space_after_commands

    next : (r : Result (List ℕ)) → Passes unmarked r → SixOr (r then convert_syntax_before display field) (r then convert_syntax display field)
    next (passed t) (pass a) = syntax-six-or display field t a
    next (refused n) stop = inr refl

    go : (r : Result (List ℕ)) → Passes unmarked r
        → SixOr (r then outside_text_before ds then convert_syntax_before display field) (r then apply_definitions_outside_text ds then convert_syntax display field)
    go (passed t) (pass a) =
        ⊎_elim (λ six. inl (ap (λ r. r then convert_syntax_before display field) six))
        (λ same. rw same (next (apply_definitions_outside_text ds t) (outside-passes ds sound t a)))
        (outside-six-or ds sound t (each_bare a))
    go (refused n) stop = inr refl

-- ---- calls
pub before-or-six : (formula table : List ℕ) (display : Bool) (field : ℕ) (work output : List ℕ) → SixOr (converted_before formula table display field work output) (converted formula table display field work output)
unfolding converted
before-or-six formula table display field work output = then-six-or (λ r. r then fitting output) refl (go (admission formula table field work))
  where
    go : {r : Result (List ℕ)} → Admission formula table field work r → SixOr (r then typst_to_latex_before (definitions_or table) display field) (r then typst_to_latex (definitions_or table) display field)
    go (not-admitted n) = inr refl
    go (is-admitted a) = latex-six-or (definitions_or table) (table-sound table) display field formula (bare-each formula (any-unmarked foreign refl refl formula a.no-foreign))

pub accepted-before :
    {formula table work output work' output' s : List ℕ} {display : Bool} {field : ℕ} {answer : Result ℕ} → Call formula table display field work output answer work' output'
    → converted_before formula table display field work output ≡ passed s → (answer ≡ passed (length s)) × (output' ≡ s ++ drop (length s) output)
accepted-before {formula} {table} {work} {output} {s = s} {display} {field} call accepted =
    let now : converted formula table display field work output ≡ passed s =
    ⊎_elim (λ six. refused-not (sym six ∙ accepted)) (λ same. sym same ∙ accepted) (before-or-six formula table display field work output) in
    (call.answers ∙ ap answer_of now, call.writes ∙ ap (λ r. output_after r output) now)
