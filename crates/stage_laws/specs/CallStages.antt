-- Where no search of a call passes over a parenthesis, the conversion is the one with the Rust's searches; so it is for every formula without quotes.
-- Assumes nothing.
--     call_stages           the call rewritings in the Rust's order, each as it is and as the Rust has it
--     some_passes           on the way some search passes over a parenthesis
--     converted-as-rust    where none does, a call comes to what it comes to with the Rust's
--     unquoted-as-rust     none does where the formula has no quote
use Rattle.std.specs.Prelude.{◌≡◌, refl, Bool, true, false, not, ◌&&◌, ◌||◌, List, [], ◌∷◌, ◌++◌, ℕ, zero, suc, length, drop}
use Rattle.std.proofs.Common.{sym, ap, ap₂, ◌∙◌}
use Rattle.std.proofs.lemmas.Bool.{false≢true}
use Rattle.std.proofs.Math.Option.{Option, none, some}
use Rattle.spec.specs.Symbols.{bytes, is, any, trim, trim_quotes, same, until, starts, find}
use Rattle.spec.specs.Sweep.{Rule, reached}
use Rattle.spec.specs.Result.{Result, passed, refused, ◌then◌, grown, stage}
use Rattle.spec.specs.Closing.{find_matching_paren, or_end, quoted_after, seen_from, over_quotes}
use Rattle.spec.specs.Calls.{calling, convert_calls, convert_cases, attach_once, convert_attach, binom, convert_binom, convert_floor_ceil_abs}
use Rattle.spec.specs.Quotes.{convert_text_quotes}
use Rattle.spec.specs.Table.{Definition}
use Rattle.spec.specs.Definitions.{apply_definitions_outside_text}
use Rattle.spec.specs.Finish.{convert_alignment, drop_thin_space_after_commands}
use Rattle.spec.specs.Pipeline.{mark_solidus, convert_syntax, typst_to_latex, definitions_or, fitting, converted}
use Rattle.spec.specs.Laws.Admission.{admitted-alike}
use Rattle.spec.specs.Laws.Booleans.{or-neither}
use Rattle.spec.specs.Laws.Names.{same_refl}
use Rattle.stage_laws.specs.Each.{Each, done, more, EachIf, nowhere, there, each-drop, each-find}
use Rattle.stage_laws.specs.Calls.{unquoted, writes-unquoted, op-each, cases-each, attach-once-each, attach-each, bb-each, bold-each, binom-each, upright-each, floor-each, ceil-each, abs-each, cal-each, frak-each, upright-again-each}
use Rattle.stage_laws.specs.Stages.{Passes, pass, stop, stage-passes, solidus-each, before_quotes}
use Rattle.stage_laws.specs.RustCalls.{rust_calls, rust_cases, rust_attach, rust_binom, rust_floor_ceil_abs, rust_before_quotes, latex_with_rust_calls, converted_with_rust_calls}
use Rattle.stage_laws.specs.PassedOver.{passes_over, search_passes, first_passes, attach_passes, calls-as-rust, cases-as-rust, attach-as-rust, binom-as-rust}

-- ---- the stages
-- a rewriting as it is and as the Rust has it, and whether one of its searches in a text passes over a parenthesis
pub record CallStage : Type 0 where
  pub now : List ℕ → List ℕ
  pub rust : List ℕ → List ℕ
  pub passes : List ℕ → Bool

abbrev pub single : List ℕ → (List ℕ → List ℕ) → CallStage
single name write =
    record { now = convert_calls name write; rust = rust_calls name write; passes = λ s. reached (search_passes name) (calling over_quotes name write) 0 0 s }

abbrev pub delimiter : List ℕ → List ℕ → List ℕ → CallStage
delimiter name left right = single name (λ inner. left ++ inner ++ right)

abbrev pub first_stages : List CallStage
first_stages =
    single (bytes "op(") (λ inner. bytes "\\operatorname{" ++ trim_quotes (trim inner) ++ bytes "}")
    ∷ record { now = convert_cases; rust = rust_cases; passes = first_passes (bytes "cases(") }
    ∷ record { now = convert_attach; rust = rust_attach; passes = λ s. attach_passes (length s) s }
    ∷ delimiter (bytes "bb(") (bytes "\\mathbb{") (bytes "}")
    ∷ delimiter (bytes "bold(") (bytes "\\mathbf{") (bytes "}")
    ∷ record { now = convert_binom; rust = rust_binom; passes = λ s. reached (search_passes (bytes "binom(")) binom 0 0 s }
    ∷ single (bytes "upright(") (λ inner. bytes "\\mathrm{" ++ trim_quotes (trim inner) ++ bytes "}")
    ∷ []

-- `convert_floor_ceil_abs`
abbrev pub last_stages : List CallStage
last_stages =
    delimiter (bytes "floor(") (bytes "\\left\\lfloor ") (bytes " \\right\\rfloor")
    ∷ delimiter (bytes "ceil(") (bytes "\\left\\lceil ") (bytes " \\right\\rceil")
    ∷ delimiter (bytes "abs(") (bytes "\\left\\lvert ") (bytes " \\right\\rvert")
    ∷ delimiter (bytes "cal(") (bytes "\\mathcal{") (bytes "}")
    ∷ delimiter (bytes "frak(") (bytes "\\mathfrak{") (bytes "}")
    ∷ delimiter (bytes "upright(") (bytes "\\mathrm{") (bytes "}")
    ∷ []

abbrev pub call_stages : List CallStage
call_stages = first_stages ++ last_stages

-- each search in the text that the stages before have made
abbrev pub some_passes : List CallStage → Result (List ℕ) → Bool
some_passes [] r = false
some_passes (c ∷ cs) (refused n) = false
some_passes (c ∷ cs) (passed s) = c.passes s || some_passes cs (stage c.now s)

abbrev rewrite_by : (CallStage → List ℕ → List ℕ) → List CallStage → Result (List ℕ) → Result (List ℕ)
rewrite_by rewriting [] r = r
rewrite_by rewriting (c ∷ cs) r = rewrite_by rewriting cs (r then stage (rewriting c))

-- ---- no quote, nothing passed over
seen-unquoted : {s : List ℕ} → Each unquoted s → over_quotes s ≡ s
unfolding seen_from
seen-unquoted done = refl
seen-unquoted (more {x} {s} e a) = ap (λ l. x ∷ l) (ap (λ q. seen_from q s) (outside (is "\"" x) refl e) ∙ seen-unquoted a)
  where
    outside : (b : Bool) → is "\"" x ≡ b → not b ≡ true → quoted_after false x s ≡ false
    outside true f e = absurd (false≢true e)
    outside false f e = rw (f, quoted_after)

passes-unquoted : {s : List ℕ} → Each unquoted s → passes_over s ≡ false
passes-unquoted {s} a =
    let behind = or_end (find_matching_paren (over_quotes s)) in
    ap (λ v. not (same (until v behind) (until s behind))) (seen-unquoted a) ∙ ap not (same_refl (until s behind))

search-unquoted : (name : List ℕ) {s : List ℕ} → Each unquoted s → search_passes name s ≡ false
search-unquoted name {s} a = go (starts name s)
  where
    go : (b : Bool) → b && passes_over (drop (length name) s) ≡ false
    go true = passes-unquoted (each-drop (length name) a)
    go false = refl

reached-unquoted : (test : List ℕ → Bool) (rule : Rule) → ((t : List ℕ) → Each unquoted t → test t ≡ false) → {s : List ℕ} (before skip : ℕ) → Each unquoted s → reached test rule before skip s ≡ false
unfolding reached
reached-unquoted test rule spares before skip done = refl
reached-unquoted test rule spares before zero (more {x} {s} e a) =
    ap₂ ◌||◌ (spares (x ∷ s) (more e a)) (reached-unquoted test rule spares x (rule before (x ∷ s)).more a)
reached-unquoted test rule spares before (suc skip) (more {x} e a) = reached-unquoted test rule spares x skip a

first-unquoted : (name : List ℕ) {s : List ℕ} → Each unquoted s → first_passes name s ≡ false
first-unquoted name {s} a = go (find name s) (each-find name a)
  where
    go : (o : Option (List ℕ)) → EachIf unquoted o → elim o as (λ _. Bool) [ none ↦ false | some at ↦ search_passes name at ] ≡ false
    go none nowhere = refl
    go (some at) (there b) = search-unquoted name b

attach-unquoted : (k : ℕ) {s : List ℕ} → Each unquoted s → attach_passes k s ≡ false
unfolding attach_passes
attach-unquoted zero a = refl
attach-unquoted (suc k) {s} a = ap₂ ◌||◌ (first-unquoted (bytes "attach(") a) (go (attach_once s) (attach-once-each writes-unquoted a) (λ t b. attach-unquoted k b))
  where
    go : (o : Option (List ℕ)) → EachIf unquoted o → ((t : List ℕ) → Each unquoted t → attach_passes k t ≡ false) → elim o as (λ _. Bool) [ none ↦ false | some t ↦ attach_passes k t ] ≡ false
    go none nowhere later = refl
    go (some t) (there b) later = later t b

-- ---- what holds of each
record Alike (c : CallStage) : Type 0 where
  alike : (s : List ℕ) → c.passes s ≡ false → c.now s ≡ c.rust s
  spares : (s : List ℕ) → Each unquoted s → c.passes s ≡ false
  keeps : (s : List ℕ) → Each unquoted s → Each unquoted (c.now s)

data AllAlike : List CallStage → Type 0 where
  all_done : AllAlike []
  all_more : {c : CallStage} {cs : List CallStage} → Alike c → AllAlike cs → AllAlike (c ∷ cs)

single-alike : (name : List ℕ) (write : List ℕ → List ℕ) → ((s : List ℕ) → Each unquoted s → Each unquoted (convert_calls name write s)) → Alike (single name write)
single-alike name write keeps =
    record {
      alike = calls-as-rust name write;
      spares = λ s a. reached-unquoted (search_passes name) (calling over_quotes name write) (λ t. search-unquoted name) 0 0 a;
      keeps = keeps;
    }

all_alike : AllAlike call_stages
all_alike =
    all_more (single-alike _ _ (λ s. op-each writes-unquoted))
    (all_more (record { alike = cases-as-rust; spares = λ s. first-unquoted (bytes "cases("); keeps = λ s. cases-each writes-unquoted })
    (all_more (record { alike = attach-as-rust; spares = λ s. attach-unquoted (length s); keeps = λ s. attach-each writes-unquoted })
    (all_more (single-alike _ _ (λ s. bb-each writes-unquoted))
    (all_more (single-alike _ _ (λ s. bold-each writes-unquoted))
    (all_more
    (record {
      alike = binom-as-rust;
      spares = λ s a. reached-unquoted (search_passes (bytes "binom(")) binom (λ t. search-unquoted (bytes "binom(")) 0 0 a;
      keeps = λ s. binom-each writes-unquoted;
    })
    (all_more (single-alike _ _ (λ s. upright-each writes-unquoted))
    (all_more (single-alike _ _ (λ s. floor-each writes-unquoted))
    (all_more (single-alike _ _ (λ s. ceil-each writes-unquoted))
    (all_more (single-alike _ _ (λ s. abs-each writes-unquoted))
    (all_more (single-alike _ _ (λ s. cal-each writes-unquoted))
    (all_more (single-alike _ _ (λ s. frak-each writes-unquoted))
    (all_more (single-alike _ _ (λ s. upright-again-each writes-unquoted)) all_done))))))))))))

-- ---- one after another
refused-stays : (rewriting : CallStage → List ℕ → List ℕ) (cs : List CallStage) (n : ℕ) → rewrite_by rewriting cs (refused n) ≡ refused n
refused-stays rewriting [] n = refl
refused-stays rewriting (c ∷ cs) n = refused-stays rewriting cs n

stages-alike : {cs : List CallStage} → AllAlike cs → (r : Result (List ℕ)) → some_passes cs r ≡ false → rewrite_by (λ c. c.now) cs r ≡ rewrite_by (λ c. c.rust) cs r
stages-alike all_done r e = refl
stages-alike (all_more {c} {cs} a later) (refused n) e = refused-stays (λ c. c.now) cs n ∙ sym (refused-stays (λ c. c.rust) cs n)
stages-alike (all_more {c} {cs} a later) (passed s) e =
    let both = or-neither (c.passes s) (some_passes cs (stage c.now s)) e in
    stages-alike later (stage c.now s) both.1 ∙ ap (λ t. rewrite_by (λ c. c.rust) cs (grown t t)) (a.alike s both.0)

stages-spare : {cs : List CallStage} → AllAlike cs → {r : Result (List ℕ)} → Passes unquoted r → some_passes cs r ≡ false
stages-spare all_done a = refl
stages-spare (all_more b later) stop = refl
stages-spare (all_more {c} b later) (pass {s} a) = ap₂ ◌||◌ (b.spares s a) (stages-spare later (stage-passes c.now b.keeps s a))

-- ---- the whole
last_apart : (r : Result (List ℕ)) → (r then convert_floor_ceil_abs) ≡ rewrite_by (λ c. c.now) last_stages r
last_apart (passed s) = refl
last_apart (refused n) = refl

rust-last-apart : (r : Result (List ℕ)) → (r then rust_floor_ceil_abs) ≡ rewrite_by (λ c. c.rust) last_stages r
rust-last-apart (passed s) = refl
rust-last-apart (refused n) = refl

before-quotes-as-rust : (s : List ℕ) → some_passes call_stages (stage mark_solidus s) ≡ false → before_quotes s ≡ rust_before_quotes s
before-quotes-as-rust s e =
    last_apart (rewrite_by (λ c. c.now) first_stages (stage mark_solidus s))
    ∙ stages-alike all_alike (stage mark_solidus s) e
    ∙ sym (rust-last-apart (rewrite_by (λ c. c.rust) first_stages (stage mark_solidus s)))

latex-as-rust : (ds : List Definition) (display : Bool) (field : ℕ) (s : List ℕ) → some_passes call_stages (stage mark_solidus s) ≡ false → typst_to_latex ds display field s ≡ latex_with_rust_calls ds display field s
unfolding typst_to_latex
latex-as-rust ds display field s e =
    ap (λ r. r then stage convert_text_quotes then apply_definitions_outside_text ds then convert_syntax display field then stage convert_alignment then stage drop_thin_space_after_commands) (before-quotes-as-rust s e)

pub converted-as-rust :
    (formula table : List ℕ) (display : Bool) (field : ℕ) (work output : List ℕ) → some_passes call_stages (stage mark_solidus formula) ≡ false
    → converted formula table display field work output ≡ converted_with_rust_calls formula table display field work output
unfolding converted
converted-as-rust formula table display field work output e =
    ap (λ r. r then fitting output) (admitted-alike formula table field work (typst_to_latex (definitions_or table) display field) (latex_with_rust_calls (definitions_or table) display field) (latex-as-rust (definitions_or table) display field formula e))

each-unquoted : (s : List ℕ) → any (is "\"") s ≡ false → Each unquoted s
each-unquoted [] e = done
each-unquoted (x ∷ s) e = let both = or-neither (is "\"" x) (any (is "\"") s) e in more (ap not both.0) (each-unquoted s both.1)

pub unquoted-as-rust :
    (formula table : List ℕ) (display : Bool) (field : ℕ) (work output : List ℕ) → any (is "\"") formula ≡ false
    → converted formula table display field work output ≡ converted_with_rust_calls formula table display field work output
unquoted-as-rust formula table display field work output e =
    converted-as-rust formula table display field work output
    (stages-spare all_alike (stage-passes mark_solidus (λ t. solidus-each writes-unquoted) formula (each-unquoted formula e)))
