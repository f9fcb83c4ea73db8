-- Tests that the symbols of the text pass from stage to stage: it has no mark where definitions and words hold blocks out. Assumes nothing.
--     Passes             what a stage gives, if it gives a text, passes the test
--     before_quotes       the stages from the solidus to the second `upright`: they keep any test that `call_symbols` pass
--     before_definitions  these and the quotes
--     before_words        `sqrt`, functions and operators
use Rattle.std.specs.Prelude.{◌≡◌, refl, Bool, true, false, cond, ◌&&◌, List, [], ◌∷◌, ℕ, ltb, length, drop}
use Rattle.std.proofs.Math.Option.{Option, none, some}
use Rattle.spec.specs.Symbols.{bytes, all, solidus, starts}
use Rattle.spec.specs.Laws.Booleans.{and_left, and_right}
use Rattle.spec.specs.Sweep.{Turn, kept, replace}
use Rattle.spec.specs.Result.{Result, passed, refused, ◌then◌, most_symbols, stage}
use Rattle.spec.specs.Closing.{find_matching_paren}
use Rattle.spec.specs.Calls.{convert_op, convert_cases, convert_attach, convert_bb, convert_bold, convert_binom, convert_upright, convert_floor, convert_ceil, convert_abs, convert_cal, convert_frak, convert_upright_again, convert_floor_ceil_abs}
use Rattle.spec.specs.Quotes.{convert_text_quotes}
use Rattle.spec.specs.Rows.{Row, function_mappings, operator_replacements}
use Rattle.spec.specs.Words.{paren_to_brace, braced, convert_sqrt, replace_rows}
use Rattle.spec.specs.Pipeline.{mark_solidus}
use Rattle.stage_laws.specs.Each.{Each, each_of, each_append, each_take, each-drop, each-sweep, each-replace}
use Rattle.stage_laws.specs.Calls.{unmarked, call_symbols, writes-unmarked, written, inside-each, around, op-each, cases-each, attach-each, bb-each, bold-each, binom-each, upright-each, floor-each, ceil-each, abs-each, cal-each, frak-each, upright-again-each}
use Rattle.stage_laws.specs.Quotes.{quotes-unmarked}

pub data Passes (p : ℕ → Bool) : Result (List ℕ) → Type 0 where
  pass : {s : List ℕ} → Each p s → Passes p (passed s)
  stop : {n : ℕ} → Passes p (refused n)

module _ {p : ℕ → Bool} where
  then-passes : {r : Result (List ℕ)} (f : List ℕ → Result (List ℕ)) → Passes p r → ((s : List ℕ) → Each p s → Passes p (f s)) → Passes p (r then f)
  then-passes f (pass {s} a) next = next s a
  then-passes f stop next = stop

  pub stage-passes : (f : List ℕ → List ℕ) → ((s : List ℕ) → Each p s → Each p (f s)) → (s : List ℕ) → Each p s → Passes p (stage f s)
  stage-passes f keeps s a = go (ltb most_symbols (length (f s)))
    where
      go : (b : Bool) → Passes p (cond b (refused 5) (passed (f s)))
      go true = stop
      go false = pass (keeps s a)

-- ---- up to the second `upright`
abbrev pub before_quotes : List ℕ → Result (List ℕ)
before_quotes s =
    stage mark_solidus s
    then stage convert_op
    then stage convert_cases
    then stage convert_attach
    then stage convert_bb
    then stage convert_bold
    then stage convert_binom
    then stage convert_upright
    then convert_floor_ceil_abs

module _ {p : ℕ → Bool} (writes : all p call_symbols ≡ true) where
  pub solidus-each : {s : List ℕ} → Each p s → Each p (mark_solidus s)
  solidus-each = each-replace (bytes "\\/") (written writes (solidus ∷ []) refl)

  floor-ceil-abs-passes : (s : List ℕ) → Each p s → Passes p (convert_floor_ceil_abs s)
  floor-ceil-abs-passes s a =
      then-passes _ (then-passes _ (then-passes _ (then-passes _ (then-passes _
      (stage-passes convert_floor (λ t. floor-each writes) s a)
      (stage-passes convert_ceil (λ t. ceil-each writes)))
      (stage-passes convert_abs (λ t. abs-each writes)))
      (stage-passes convert_cal (λ t. cal-each writes)))
      (stage-passes convert_frak (λ t. frak-each writes)))
      (stage-passes convert_upright_again (λ t. upright-again-each writes))

  before-quotes-passes : (s : List ℕ) → Each p s → Passes p (before_quotes s)
  before-quotes-passes s a =
      then-passes _ (then-passes _ (then-passes _ (then-passes _ (then-passes _ (then-passes _ (then-passes _ (then-passes _
      (stage-passes mark_solidus (λ t. solidus-each) s a)
      (stage-passes convert_op (λ t. op-each writes)))
      (stage-passes convert_cases (λ t. cases-each writes)))
      (stage-passes convert_attach (λ t. attach-each writes)))
      (stage-passes convert_bb (λ t. bb-each writes)))
      (stage-passes convert_bold (λ t. bold-each writes)))
      (stage-passes convert_binom (λ t. binom-each writes)))
      (stage-passes convert_upright (λ t. upright-each writes)))
      floor-ceil-abs-passes

-- ---- up to the quotes
abbrev pub before_definitions : List ℕ → Result (List ℕ)
before_definitions s = before_quotes s then stage convert_text_quotes

pub before-definitions-passes : (s : List ℕ) → Each unmarked s → Passes unmarked (before_definitions s)
before-definitions-passes s a = then-passes _ (before-quotes-passes writes-unmarked s a) (stage-passes convert_text_quotes (λ t. quotes-unmarked))

-- ---- up to the words
abbrev pub before_words : List ℕ → Result (List ℕ)
before_words s = stage convert_sqrt s then replace_rows function_mappings then replace_rows operator_replacements

sqrt-unmarked : {s : List ℕ} → Each unmarked s → Each unmarked (convert_sqrt s)
unfolding convert_sqrt
sqrt-unmarked a = each-sweep {rule = paren_to_brace (bytes "sqrt(") (bytes "\\sqrt{")} (record { writes = λ before s b. go s b (starts (bytes "sqrt(") s) (find_matching_paren (drop 5 s)) }) 0 0 a
  where
    go : (s : List ℕ) → Each unmarked s → (t : Bool) (o : Option (List ℕ)) → Each unmarked (elim t as (λ t. Turn) [ true ↦ braced (bytes "sqrt(") (bytes "\\sqrt{") (drop 5 s) o | false ↦ kept s ]).fresh
    go s b true none = each_append (each_of (bytes "\\sqrt{") refl) (each-drop 5 b)
    go s b true (some behind) = around (bytes "\\sqrt{") (bytes "}") (each_of (bytes "\\sqrt{") refl) (each_of (bytes "}") refl) (inside-each behind (each-drop 5 b))
    go s b false o = each_take 1 b

-- what the rows write holds no mark
abbrev fine : List Row → Bool
fine [] = true
fine (r ∷ rs) = all unmarked r.latex && fine rs

rows-passes : (rs : List Row) → fine rs ≡ true → (s : List ℕ) → Each unmarked s → Passes unmarked (replace_rows rs s)
unfolding replace_rows
rows-passes [] e s a = pass a
rows-passes (r ∷ rs) e s a =
    then-passes (replace_rows rs)
    (stage-passes (replace r.typst r.latex) (λ t. each-replace r.typst (each_of r.latex (and_left (all unmarked r.latex) (fine rs) e))) s a)
    (rows-passes rs (and_right (all unmarked r.latex) (fine rs) e))

pub before-words-passes : (s : List ℕ) → Each unmarked s → Passes unmarked (before_words s)
before-words-passes s a = then-passes _ (then-passes _ (stage-passes convert_sqrt (λ t. sqrt-unmarked) s a) (rows-passes function_mappings refl)) (rows-passes operator_replacements refl)
