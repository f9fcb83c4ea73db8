-- What a plain tree's text is converted to, with display on, no definitions and any tall field: all stages, none assumed.
--     plain-yields    where no number refuses, the tree's LaTeX; and no number refuses a tree that fits
--     plain_fits      where no number refuses, the tree fits
use Rattle.std.specs.Prelude.{◌≡◌, Bool, false, List, [], ◌∷◌, ℕ, ◌≤◌, length}
use Rattle.std.proofs.Math.Path.{refl, ap}
use Rattle.std.proofs.Common.{◌∙◌, le_refl, arith}
use Rattle.std.proofs.Math.Bool.{true}
use Prim.Native.Char.{code}
use Rattle.spec.specs.Symbols.{bytes, solidus, script_sign}
use Rattle.spec.specs.Sweep.{sweep}
use Rattle.spec.specs.Result.{Result, passed, ◌then◌, most_symbols, stage}
use Rattle.spec.specs.Calls.{convert_calls, convert_op, convert_cases, convert_attach, convert_bb, convert_bold, convert_binom, convert_upright, convert_ceil, convert_abs, convert_cal, convert_frak, convert_upright_again, convert_floor_ceil_abs}
use Rattle.spec.specs.Quotes.{convert_text_quotes}
use Rattle.spec.specs.Held.{put_back}
use Rattle.spec.specs.Definitions.{apply_definitions_outside_text}
use Rattle.spec.specs.Rows.{function_mappings, operator_replacements}
use Rattle.spec.specs.Words.{convert_sqrt, replace_rows, convert_words, convert_greek_capitals}
use Rattle.spec.specs.Scripts.{convert_paren_to_brace, wrap_text_subscripts, wrap_multichar_scripts, convert_scripts, convert_subscripts, convert_superscripts}
use Rattle.spec.specs.Fractions.{most_rounds, convert_fractions}
use Rattle.spec.specs.Finish.{frac_bit, escape_set_braces, lr, convert_lr, size_delimiters_to_content, escape_percent, convert_alignment, drop_thin_space_after_commands}
use Rattle.spec.specs.Pipeline.{mark_solidus, unmark_solidus, convert_syntax, typst_to_latex}
use Rattle.spec.specs.Laws.Result.{first_passes, stage-short}
use Rattle.spec.specs.Laws.Absent.{replace_absent, cases-absent, attach-absent, quotes-absent, thin-spaces-absent}
use Rattle.spec.specs.Laws.Held.{in-full-none}
use Rattle.plain_printing.specs.Tree.{Tree, PlainTree, height, marked_style, final_style, write, text, tree_latex}
use Rattle.plain_printing.proofs.Settle.{settle-ends, settle-does}
use Rattle.plain_printing.proofs.SizingTree.{size-plain}
use Rattle.plain_printing.proofs.Alphabet.{ends-plain}
use Rattle.plain_printing.proofs.Absent.{stopped, absent-typed, absent-marked, absent-final}
use Rattle.plain_printing.specs.CallsCopy.{calls-copy, binom-copies, sqrt-copies, wrap-text-copies, lr-sweep-copies, lr-is-stage, alignment-copies}
use Rattle.plain_printing.proofs.Braces.{set-braces-copy, multichar-scripts-copy}
use Rattle.plain_printing.proofs.Scripts.{low-scripts, high-scripts}
use Rattle.plain_printing.specs.Blocks.{texts-nowhere}
use Rattle.plain_printing.specs.Yields.{Yields, passed-yields, then-yields, then-passes, stage-yields}
use Rattle.plain_printing.proofs.Tables.{TreeFits, early-short, functions-yield, operators-yield, words-yield, capitals-yield}

module _ (field : ℕ) (t : Tree) (plain : PlainTree t) where
  -- whether the field sizes parentheses with a fraction in them
  abbrev sized : Bool
  sized = frac_bit field

  abbrev latex : List ℕ
  latex = tree_latex sized t

  abbrev Goes : Result (List ℕ) → List ℕ → Type 0
  Goes r s = Yields (TreeFits sized t) r s

  -- ---- stages that copy the formula as typed: r stands before
  typed-short : TreeFits sized t → length (text t) ≤ most_symbols
  typed-short = early-short sized t 0 false false 0

  copies : (f : List ℕ → List ℕ) → f (text t) ≡ text t → Goes (stage f (text t)) (text t)
  copies f e = stage-yields f (text t) e typed-short

  call-copies : (name : List ℕ) (write : List ℕ → List ℕ) → stopped name ≡ true → Goes (stage (convert_calls name write) (text t)) (text t)
  call-copies name write h = copies (convert_calls name write) (calls-copy name write (text t) (absent-typed name h t))

  floor-ceil-abs-yield : Goes (convert_floor_ceil_abs (text t)) (text t)
  floor-ceil-abs-yield =
      then-yields _ (stage convert_upright_again)
      (then-yields _ (stage convert_frak)
      (then-yields _ (stage convert_cal)
      (then-yields _ (stage convert_abs)
      (then-yields _ (stage convert_ceil) (call-copies (bytes "floor(") _ refl) (call-copies (bytes "ceil(") _ refl))
      (call-copies (bytes "abs(") _ refl))
      (call-copies (bytes "cal(") _ refl))
      (call-copies (bytes "frak(") _ refl))
      (call-copies (bytes "upright(") _ refl)

  -- ---- up to the definitions, of which there are none
  abbrev typed : Result (List ℕ)
  typed =
      stage mark_solidus (text t)
      then stage convert_op
      then stage convert_cases
      then stage convert_attach
      then stage convert_bb
      then stage convert_bold
      then stage convert_binom
      then stage convert_upright
      then convert_floor_ceil_abs
      then stage convert_text_quotes

  calls-yield : Goes typed (text t)
  calls-yield =
      then-yields _ (stage convert_text_quotes)
      (then-yields _ convert_floor_ceil_abs
      (then-yields _ (stage convert_upright)
      (then-yields _ (stage convert_binom)
      (then-yields _ (stage convert_bold)
      (then-yields _ (stage convert_bb)
      (then-yields _ (stage convert_attach)
      (then-yields _ (stage convert_cases)
      (then-yields _ (stage convert_op) (copies mark_solidus (replace_absent (bytes "\\/") (solidus ∷ []) (text t) (absent-typed (bytes "\\/") refl t)))
      (call-copies (bytes "op(") _ refl))
      (copies convert_cases (cases-absent (text t) (absent-typed (bytes "cases(") refl t))))
      (copies convert_attach (attach-absent (text t) (absent-typed (bytes "attach(") refl t))))
      (call-copies (bytes "bb(") _ refl))
      (call-copies (bytes "bold(") _ refl))
      (copies convert_binom (binom-copies (text t) (absent-typed (bytes "binom(") refl t))))
      (call-copies (bytes "upright(") _ refl))
      floor-ceil-abs-yield)
      (copies convert_text_quotes (quotes-absent (text t) (absent-typed (bytes "\"") refl t)))

  undefined : apply_definitions_outside_text [] (text t) ≡ passed (text t)
  unfolding apply_definitions_outside_text
  undefined = ap put_back (texts-nowhere (text t) (absent-typed (bytes "\\text{") refl t)) ∙ ap passed (in-full-none (text t))

  definitions-yield : Goes (apply_definitions_outside_text [] (text t)) (text t)
  definitions-yield = rw undefined (passed-yields (text t))

  -- ---- scripts
  abbrev marked : Bool → Bool → ℕ → List ℕ
  marked below above n = write (marked_style below above) n t

  marked-short : (below above : Bool) (n : ℕ) → TreeFits sized t → length (marked below above n) ≤ most_symbols
  marked-short = early-short sized t 30

  scripts-yield : (sign : ℕ) → script_sign sign ≡ true → stopped (sign ∷ bytes "\\text{") ≡ true → (b c b' c' : Bool) → convert_paren_to_brace sign (marked b c 0) ≡ marked b' c' 0
      → Goes (convert_scripts sign (marked b c 0)) (marked b' c' 0)
  scripts-yield sign h k b c b' c' e =
      then-yields _ (stage (wrap_multichar_scripts sign))
      (then-yields _ (stage (wrap_text_subscripts sign)) (stage-yields (convert_paren_to_brace sign) (marked b c 0) e (marked-short b' c' 0))
      (stage-yields (wrap_text_subscripts sign) (marked b' c' 0) (wrap-text-copies sign (marked b' c' 0) (absent-marked (sign ∷ bytes "\\text{") k b' c' 0 t)) (marked-short b' c' 0)))
      (stage-yields (wrap_multichar_scripts sign) (marked b' c' 0) (multichar-scripts-copy b' c' 0 t sign h) (marked-short b' c' 0))

  subscripts-yield : Goes (convert_subscripts (marked false false 0)) (marked true false 0)
  subscripts-yield = scripts-yield (code "_") refl refl false false true false (low-scripts t plain)

  superscripts-yield : Goes (convert_superscripts (marked true false 0)) (marked true true 0)
  superscripts-yield = scripts-yield (code "^") refl refl true false true true (high-scripts t plain)

  scripted-yields :
      Goes
      (stage convert_sqrt (text t)
      then replace_rows function_mappings
      then replace_rows operator_replacements
      then convert_words
      then convert_greek_capitals
      then convert_subscripts
      then convert_superscripts)
      (marked true true 0)
  scripted-yields =
      then-yields _ convert_superscripts
      (then-yields _ convert_subscripts
      (then-yields _ convert_greek_capitals
      (then-yields _ convert_words
      (then-yields _ (replace_rows operator_replacements)
      (then-yields _ (replace_rows function_mappings) (copies convert_sqrt (sqrt-copies (text t) (absent-typed (bytes "sqrt(") refl t))) (functions-yield sized t))
      (operators-yield sized t))
      (words-yield sized t))
      (capitals-yield sized t))
      subscripts-yield)
      superscripts-yield

  -- ---- fractions
  fractions-yield : Goes (convert_fractions (marked true true 0)) (marked true true (height t))
  unfolding convert_fractions
  fractions-yield =
      record { passes-only = λ x e. (settle-ends t most_rounds 0 x e).0; passes = λ fits. settle-does t (λ n. marked-short true true n fits) most_rounds 0 (let d = fits.shallow in omega arith) }

  -- ---- the end of convert_syntax
  abbrev stacked : List ℕ
  stacked = marked true true (height t)

  stacked-copies : (f : List ℕ → List ℕ) → f stacked ≡ stacked → Goes (stage f stacked) stacked
  stacked-copies f e = stage-yields f stacked e (marked-short true true (height t))

  final-copies : (f : List ℕ → List ℕ) → f latex ≡ latex → Goes (stage f latex) latex
  final-copies f e = stage-yields f latex e (λ fits. fits.short)

  lr-yields : Goes (convert_lr stacked) stacked
  lr-yields =
      let h = absent-marked (bytes "lr(") refl true true (height t) t in
      rw (lr-is-stage stacked h) (stacked-copies (sweep lr 0 0) (lr-sweep-copies stacked h))

  syntax-yields : Goes (convert_syntax true field (text t)) latex
  unfolding convert_syntax
  syntax-yields =
      then-yields _ (stage escape_percent)
      (then-yields _ (stage (size_delimiters_to_content field))
      (then-yields _ convert_lr
      (then-yields _ (stage escape_set_braces)
      (then-yields _ (stage unmark_solidus)
      (then-yields _ convert_fractions scripted-yields fractions-yield)
      (stacked-copies unmark_solidus (replace_absent (solidus ∷ []) (bytes "/") stacked (absent-marked (solidus ∷ []) refl true true (height t) t))))
      (stacked-copies escape_set_braces (set-braces-copy true true (height t) t)))
      lr-yields)
      (stage-yields (size_delimiters_to_content field) stacked (size-plain field (height t) t (le_refl (height t))) (λ fits. fits.short)))
      (final-copies escape_percent (replace_absent (bytes "%") (bytes "\\%") latex (absent-final (bytes "%") refl sized (height t) t)))

  -- where no number refuses, there were rounds enough
  syntax-shallow : {x : List ℕ} → convert_syntax true field (text t) ≡ passed x → height t ≤ most_rounds
  unfolding convert_syntax convert_fractions
  syntax-shallow e =
      let to-sizing = first_passes _ (stage escape_percent) e in
      let to-lr = first_passes _ (stage (size_delimiters_to_content field)) to-sizing.is-passed in
      let to-braces = first_passes _ convert_lr to-lr.is-passed in
      let to-solidus = first_passes _ (stage escape_set_braces) to-braces.is-passed in
      let to-fractions = first_passes _ (stage unmark_solidus) to-solidus.is-passed in
      (settle-ends t most_rounds 0 _ (then-passes _ convert_fractions scripted-yields to-fractions.is-passed)).1

  -- ---- the whole
  defined-yields : Goes (typed then apply_definitions_outside_text []) (text t)
  defined-yields = then-yields _ (apply_definitions_outside_text []) calls-yield definitions-yield

  thin-spaces-stay : drop_thin_space_after_commands latex ≡ latex
  thin-spaces-stay = thin-spaces-absent latex (absent-final (bytes "\\;") refl sized (height t) t)

  aligned-yields : Goes (typed then apply_definitions_outside_text [] then convert_syntax true field then stage convert_alignment) latex
  aligned-yields =
      then-yields _ (stage convert_alignment) (then-yields _ (convert_syntax true field) defined-yields syntax-yields)
      (final-copies convert_alignment
      (alignment-copies latex (absent-final (bytes "&") refl sized (height t) t) (absent-final (bytes " \\\n") refl sized (height t) t) (ends-plain (final_style sized) (height t) t)))

  pub plain-yields : Goes (typst_to_latex [] true field (text t)) latex
  unfolding typst_to_latex
  plain-yields = then-yields _ (stage drop_thin_space_after_commands) aligned-yields (final-copies drop_thin_space_after_commands thin-spaces-stay)

  pub plain_fits : {x : List ℕ} → typst_to_latex [] true field (text t) ≡ passed x → TreeFits sized t
  unfolding typst_to_latex
  plain_fits e =
      let to-alignment = first_passes _ (stage drop_thin_space_after_commands) e in
      let to-syntax = first_passes _ (stage convert_alignment) to-alignment.is-passed in
      record {
        shallow = syntax-shallow (then-passes _ (convert_syntax true field) defined-yields to-syntax.is-passed);
        short = rw thin-spaces-stay at (stage-short drop_thin_space_after_commands latex (then-passes _ (stage drop_thin_space_after_commands) aligned-yields e));
      }
