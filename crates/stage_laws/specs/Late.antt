-- No stage refuses by number 4, so that the work buffer is cleared after every stage's refusal, none by number 6, and none by a number above 10.
-- Assumes nothing.
--     Late             a result that is refused by none of these
--     stages-late      that of all stages, `typst_to_latex`
use Rattle.std.specs.Prelude.{◌≡◌, refl, Bool, true, false, cond, ◌||◌, List, [], ◌∷◌, ℕ, zero, suc, eqb, ltb, length}
use Rattle.std.proofs.Math.Option.{Option, none, some}
use Prim.Native.Char.{code}
use Rattle.spec.specs.Symbols.{same}
use Rattle.spec.specs.Sweep.{Rule, sweep, reached, replace}
use Rattle.spec.specs.Result.{Result, passed, refused, ◌then◌, most_symbols, stage}
use Rattle.spec.specs.Held.{Held, hold_texts, hold_both, in_full, held_stage, put_back, with_text}
use Rattle.spec.specs.Calls.{convert_op, convert_cases, convert_attach, convert_bb, convert_bold, convert_binom, convert_upright, convert_floor, convert_ceil, convert_abs, convert_cal, convert_frak, convert_upright_again, convert_floor_ceil_abs}
use Rattle.spec.specs.Quotes.{convert_text_quotes}
use Rattle.spec.specs.Table.{Definition, in_order}
use Rattle.spec.specs.Definitions.{apply_definition, apply_definitions, apply_definitions_outside_text}
use Rattle.spec.specs.Rows.{Row, function_mappings, operator_replacements, greek_letters, word_mappings, greek_capitals}
use Rattle.spec.specs.Words.{convert_sqrt, replace_rows, greek, word_or_literal, held_rows, convert_words, capital, capitals}
use Rattle.spec.specs.Scripts.{convert_paren_to_brace, wrap_text_subscripts, wrap_multichar_scripts, convert_scripts}
use Rattle.spec.specs.Fractions.{convert_regular_fractions, most_rounds, settle, convert_fractions}
use Rattle.spec.specs.Finish.{escape_set_braces, bare_delimiter, lr, convert_lr, size_delimiters_to_content, escape_percent, convert_alignment, drop_thin_space_after_commands}
use Rattle.spec.specs.Pipeline.{mark_solidus, unmark_solidus, on_display, convert_syntax, typst_to_latex}

-- the numbers of these refusals
abbrev pub early : ℕ → Bool
early n = eqb n 4 || (eqb n 6 || ltb 10 n)

pub data Late {A : Type 0} : Result A → Type 0 where
  passes : {a : A} → Late (passed a)
  refuses : {n : ℕ} → early n ≡ false → Late (refused n)

pub then-late : {A B : Type 0} {r : Result A} (f : A → Result B) → Late r → ((a : A) → Late (f a)) → Late (r then f)
then-late f (passes {a}) next = next a
then-late f (refuses e) next = refuses e

cond-late : {A : Type 0} (b : Bool) (n : ℕ) (a : A) → early n ≡ false → Late (cond b (refused n) (passed a))
cond-late true n a e = refuses e
cond-late false n a e = passes

stage-late : (f : List ℕ → List ℕ) (s : List ℕ) → Late (stage f s)
stage-late f s = cond-late (ltb most_symbols (length (f s))) 5 (f s) refl

-- ---- blocks that are held
held-late : (f : List ℕ → List ℕ) (h : Held) → Late (held_stage f h)
held-late f h = cond-late (ltb most_symbols (length (in_full (with_text h (f h.text))))) 5 _ refl

definitions-late : (ds : List Definition) (h : Held) → Late (apply_definitions ds h)
unfolding apply_definitions
definitions-late [] h = passes
definitions-late (d ∷ ds) h = go (eqb (length d.name) 1) (definitions-late ds)
  where
    go : (b : Bool) → ((g : Held) → Late (apply_definitions ds g)) → Late {A = Held} (elim b as (λ b. Result Held) [ true ↦ apply_definitions ds h | false ↦ held_stage (apply_definition d) h then apply_definitions ds ])
    go true next = next h
    go false next = then-late (apply_definitions ds) (held-late (apply_definition d) h) next

outside-late : (ds : List Definition) (s : List ℕ) → Late (apply_definitions_outside_text ds s)
unfolding apply_definitions_outside_text
outside-late ds s = then-late put_back (definitions-late (in_order ds) (hold_texts s)) (λ h. passes)

held-rows-late : (rule : Row → Rule) (rs : List Row) (h : Held) → Late (held_rows rule rs h)
unfolding held_rows
held-rows-late rule [] h = passes
held-rows-late rule (r ∷ rs) h = then-late (held_rows rule rs) (held-late (sweep (rule r) 0 0) h) (held-rows-late rule rs)

-- ---- rows
rows-late : (rs : List Row) (s : List ℕ) → Late (replace_rows rs s)
unfolding replace_rows
rows-late [] s = passes
rows-late (r ∷ rs) s = then-late (replace_rows rs) (stage-late (replace r.typst r.latex) s) (rows-late rs)

capitals-late : (rs : List Row) (s : List ℕ) → Late (capitals rs s)
unfolding capitals
capitals-late [] s = passes
capitals-late (r ∷ rs) s = then-late (capitals rs) (stage-late (sweep (capital r) 0 0) s) (capitals-late rs)

words-late : (s : List ℕ) → Late (convert_words s)
unfolding convert_words
words-late s = then-late put_back (then-late (held_rows word_or_literal word_mappings) (held-rows-late greek greek_letters (hold_both s)) (held-rows-late word_or_literal word_mappings)) (λ h. passes)

-- ---- fractions, `lr`
settle-late : (k : ℕ) (s : List ℕ) → Late (settle k s)
unfolding settle
settle-late zero s = go (convert_regular_fractions s)
  where
    last : (b : Bool) → Late {A = List ℕ} (cond b (passed s) (refused 7))
    last true = passes
    last false = refuses refl

    go : (o : Option (List ℕ)) → Late {A = List ℕ} (elim o as (λ o. Result (List ℕ)) [ none ↦ refused 7 | some t ↦ cond (same t s) (passed s) (refused 7) ])
    go none = refuses refl
    go (some t) = last (same t s)
settle-late (suc k) s = go (convert_regular_fractions s) (settle-late k)
  where
    go : (o : Option (List ℕ)) → ((t : List ℕ) → Late (settle k t))
        → Late {A = List ℕ} (elim o as (λ o. Result (List ℕ)) [
          | none ↦ refused 9
          | some t ↦ elim (same t s) as (λ b. Result (List ℕ)) [
            | true ↦ passed s
            | false ↦ elim (ltb most_symbols (length t)) as (λ b. Result (List ℕ)) [ true ↦ refused 5 | false ↦ settle k t ]
          ]
        ])
    go none next = refuses refl
    go (some t) next = changed (same t s) (ltb most_symbols (length t))
      where
        changed : (b c : Bool) → Late {A = List ℕ} (elim b as (λ b. Result (List ℕ)) [ true ↦ passed s | false ↦ elim c as (λ b. Result (List ℕ)) [ true ↦ refused 5 | false ↦ settle k t ] ])
        changed true c = passes
        changed false true = refuses refl
        changed false false = next t

lr-late : (s : List ℕ) → Late (convert_lr s)
unfolding convert_lr
lr-late s = go (reached bare_delimiter lr 0 0 s)
  where
    go : (b : Bool) → Late {A = List ℕ} (elim b as (λ b. Result (List ℕ)) [ true ↦ refused 8 | false ↦ stage (sweep lr 0 0) s ])
    go true = refuses refl
    go false = stage-late (sweep lr 0 0) s

display-late : (display : Bool) (f : List ℕ → Result (List ℕ)) → ((s : List ℕ) → Late (f s)) → (s : List ℕ) → Late (on_display display f s)
display-late true f late s = late s
display-late false f late s = passes

scripts-late : (sign : ℕ) (s : List ℕ) → Late (convert_scripts sign s)
scripts-late sign s = then-late _ (then-late _ (stage-late (convert_paren_to_brace sign) s) (stage-late (wrap_text_subscripts sign))) (stage-late (wrap_multichar_scripts sign))

-- ---- all of them
syntax-late : (display : Bool) (field : ℕ) (s : List ℕ) → Late (convert_syntax display field s)
unfolding convert_syntax
syntax-late display field s =
    then-late _ (then-late _ (then-late _ (then-late _ (then-late _ (then-late _ (then-late _ (then-late _ (then-late _ (then-late _ (then-late _ (then-late _
    (stage-late convert_sqrt s)
    (rows-late function_mappings))
    (rows-late operator_replacements))
    words-late)
    (capitals-late greek_capitals))
    (scripts-late (code "_")))
    (scripts-late (code "^")))
    (display-late display convert_fractions (settle-late most_rounds)))
    (stage-late unmark_solidus))
    (stage-late escape_set_braces))
    lr-late)
    (display-late display (stage (size_delimiters_to_content field)) (stage-late (size_delimiters_to_content field))))
    (stage-late escape_percent)

floor-ceil-abs-late : (s : List ℕ) → Late (convert_floor_ceil_abs s)
floor-ceil-abs-late s =
    then-late _ (then-late _ (then-late _ (then-late _ (then-late _
    (stage-late convert_floor s)
    (stage-late convert_ceil))
    (stage-late convert_abs))
    (stage-late convert_cal))
    (stage-late convert_frak))
    (stage-late convert_upright_again)

pub stages-late : (ds : List Definition) (display : Bool) (field : ℕ) (s : List ℕ) → Late (typst_to_latex ds display field s)
unfolding typst_to_latex
stages-late ds display field s =
    then-late _ (then-late _ (then-late _ (then-late _ (then-late _ (then-late _ (then-late _ (then-late _ (then-late _ (then-late _ (then-late _ (then-late _ (then-late _
    (stage-late mark_solidus s)
    (stage-late convert_op))
    (stage-late convert_cases))
    (stage-late convert_attach))
    (stage-late convert_bb))
    (stage-late convert_bold))
    (stage-late convert_binom))
    (stage-late convert_upright))
    floor-ceil-abs-late)
    (stage-late convert_text_quotes))
    (outside-late ds))
    (syntax-late display field))
    (stage-late convert_alignment))
    (stage-late drop_thin_space_after_commands)
