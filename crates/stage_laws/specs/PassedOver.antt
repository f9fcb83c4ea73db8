-- Where no search of a call passes over a parenthesis, the call rewritings are the Rust's, stage by stage. Assumes nothing.
--     passes_over        the search for the closer in this text passes over a parenthesis: it sees otherwise what it reads
--     search_passes      so does the search of the call that the text begins with
--     calls-as-rust, .. a stage that comes to no such call gives the Rust's text
use Rattle.std.specs.Prelude.{◌≡◌, refl, Bool, true, false, not, ◌&&◌, ◌||◌, List, [], ◌∷◌, ◌++◌, map, ℕ, zero, suc, pred, ◌+◌, ◌-◌, ◌<◌, length, take, drop, eqb}
use Rattle.std.proofs.Common.{sym, ap, ap₂, ◌∙◌, append_assoc, arith, length-append, length-drop, take-append-drop, length-take-le}
use Rattle.std.proofs.Math.Option.{Option, none, some, get_or}
use Prim.Native.Char.{code}
use Rattle.std.proofs.Math.Seq.{take-length, take-append_seam, take-append-add}
use Rattle.spec.specs.Symbols.{bytes, is, ◌and_then◌, same, until, inside, trim, starts, find}
use Rattle.spec.specs.Closing.{Side, opens, closes, neither, find_matching_paren, or_end, over_quotes, any_side, comma_behind, find_comma_in_args, pushed, split_from, split_top_level_commas, cut_alike}
use Rattle.spec.specs.Calls.{call_at, call_length, rewritten, calling, convert_calls, nonblank, joined, latex_cases, spliced, cases_once, convert_cases, latex_attach, attach_once, attach_times, convert_attach, binom, convert_binom}
use Rattle.spec.specs.Sweep.{Turn, taken, kept, reached}
use Rattle.spec.specs.Laws.Booleans.{or-neither}
use Rattle.spec.specs.Laws.Names.{same-eq}
use Rattle.spec.specs.Laws.Sweep.{sweep-reached}
use Rattle.spec.specs.Laws.Closing.{ClosedAt, closed_at, length_seen, seen-inside}
use Rattle.stage_laws.specs.RustCalls.{rust_call_at, rust_calls, rust_latex_cases, rust_cases, rust_attach_once, rust_attach_times, rust_attach, rust_binom_turn, rust_binom}

abbrev pub passes_over : List ℕ → Bool
passes_over s = let behind = or_end (find_matching_paren (over_quotes s)) in not (same (until (over_quotes s) behind) (until s behind))

abbrev pub search_passes : List ℕ → List ℕ → Bool
search_passes name s = starts name s && passes_over (drop (length name) s)

-- ---- one search
-- what stands inside, if the closer is found
abbrev inner_by : List ℕ → Option (List ℕ) → Option (List ℕ)
inner_by s o = o and_then λ behind. some (inside s behind)

not_same : (s t : List ℕ) → not (same s t) ≡ false → s ≡ t
not_same s t e = go (same s t) refl e
  where
    go : (b : Bool) → same s t ≡ b → not b ≡ false → s ≡ t
    go true f e = same-eq s t f
    go false f e = let z : ◌≡◌ {A = ℕ} 0 1 = cc in absurd (omega arith)

-- the closer has been found, behind the k symbols that stand inside
module _ (s : List ℕ) {behind : List ℕ} (found : ClosedAt (code "(") (code ")") 0 (over_quotes s) behind) where
  abbrev k : ℕ
  k = length found.inner

  long : length s ≡ suc (k + length behind)
  long =
      let a = length_seen false s in let b = ap length found.split in let c = length-append found.inner (code ")" ∷ behind) in
      omega arith

  inside-closed : inside s behind ≡ take k s
  inside-closed = let l = long in let n : pred (length s - length behind) ≡ k = omega arith in ap (λ m. take m s) n

  inner-seen : over_quotes (inside s behind) ≡ found.inner
  inner-seen =
      let l = long in
      ap over_quotes inside-closed
      ∙ seen-inside false (take k s) (drop k s) found.inner behind (length-take-le k s (omega arith)) (ap over_quotes (take-append-drop k s) ∙ found.split)

  module _ (alike : until (over_quotes s) behind ≡ until s behind) where
    -- what has been read stands as it is seen
    read : take (suc k) s ≡ found.inner ++ code ")" ∷ []
    read =
        let l = long in let a = length_seen false s in
        let n : length s - length behind ≡ suc k = omega arith in
        let m : length (over_quotes s) - length behind ≡ k + 1 = omega arith in
        ap (λ j. take j s) (sym n) ∙ sym alike ∙ ap₂ take m found.split ∙ take-append-add found.inner (code ")" ∷ behind) 1

    same_text : s ≡ found.inner ++ code ")" ∷ drop (suc k) s
    same_text = sym (take-append-drop (suc k) s) ∙ ap (λ l. l ++ drop (suc k) s) read ∙ append_assoc found.inner (code ")" ∷ []) (drop (suc k) s)

    inner-alike : take k s ≡ found.inner
    inner-alike = ap (take k) same_text ∙ take-append_seam found.inner (code ")" ∷ drop (suc k) s)

    same-closer : find_matching_paren s ≡ some (drop (suc k) s)
    same-closer = ap find_matching_paren same_text ∙ found.anyway (drop (suc k) s)

    same-inner : inner_by s (find_matching_paren s) ≡ some (inside s behind)
    same-inner =
        let l = long in let d = length-drop (suc k) s in
        let n : pred (length s - length (drop (suc k) s)) ≡ pred (length s - length behind) = omega arith in
        ap (inner_by s) same-closer ∙ ap (λ m. some (take m s)) n

    inner-as-seen : over_quotes (inside s behind) ≡ inside s behind
    inner-as-seen = inner-seen ∙ sym inner-alike ∙ sym inside-closed

until-all : (s : List ℕ) → until s [] ≡ s
until-all s = let n : length s - 0 ≡ length s = omega arith in ap (λ k. take k s) n ∙ take-length s

closer-as-rust : (s : List ℕ) → passes_over s ≡ false → inner_by s (find_matching_paren (over_quotes s)) ≡ inner_by s (find_matching_paren s)
closer-as-rust s e = go (find_matching_paren (over_quotes s)) refl e
  where
    go : (o : Option (List ℕ)) → find_matching_paren (over_quotes s) ≡ o → not (same (until (over_quotes s) (or_end o)) (until s (or_end o))) ≡ false
        → inner_by s o ≡ inner_by s (find_matching_paren s)
    go none f e =
        let alike : over_quotes s ≡ s = sym (until-all (over_quotes s)) ∙ not_same (until (over_quotes s) []) (until s []) e ∙ until-all s in
        ap (inner_by s) (sym f ∙ ap find_matching_paren alike)
    go (some behind) f e = sym (same-inner s (closed_at (code "(") (code ")") 0 (over_quotes s) behind f) (not_same (until (over_quotes s) behind) (until s behind) e))

-- ---- one call
call-as-rust : (name s : List ℕ) → search_passes name s ≡ false → call_at over_quotes name s ≡ rust_call_at name s
unfolding call_at
call-as-rust name s e = go (starts name s) e
  where
    go : (b : Bool) → b && passes_over (drop (length name) s) ≡ false
        → ◌≡◌ {A = Option (List ℕ)} (elim b [ true ↦ inner_by (drop (length name) s) (find_matching_paren (over_quotes (drop (length name) s))) | false ↦ none ])
        (elim b [ true ↦ inner_by (drop (length name) s) (find_matching_paren (drop (length name) s)) | false ↦ none ])
    go true e = closer-as-rust (drop (length name) s) e
    go false e = refl

-- a comma search inside the call sees all as it is
inner-as-it-is : (name s inner : List ℕ) → search_passes name s ≡ false → call_at over_quotes name s ≡ some inner → over_quotes inner ≡ inner
unfolding call_at
inner-as-it-is name s inner e f = go (starts name s) (find_matching_paren (over_quotes rest)) refl e f
  where
    rest : List ℕ
    rest = drop (length name) s

    go : (b : Bool) (o : Option (List ℕ)) → find_matching_paren (over_quotes rest) ≡ o → b && not (same (until (over_quotes rest) (or_end o)) (until rest (or_end o))) ≡ false
        → ◌≡◌ {A = Option (List ℕ)} (elim b [ true ↦ inner_by rest o | false ↦ none ]) (some inner) → over_quotes inner ≡ inner
    go false o g e f = let z : ◌≡◌ {A = ℕ} 0 1 = cc in absurd (omega arith)
    go true none g e f = let z : ◌≡◌ {A = ℕ} 0 1 = cc in absurd (omega arith)
    go true (some behind) g e f =
        let here : inside rest behind ≡ inner = cc in
        ap over_quotes (sym here)
        ∙ inner-as-seen rest (closed_at (code "(") (code ")") 0 (over_quotes rest) behind g) (not_same (until (over_quotes rest) behind) (until rest behind) e)
        ∙ here

-- ---- sweeps
pub calls-as-rust : (name : List ℕ) (write : List ℕ → List ℕ) (s : List ℕ) → reached (search_passes name) (calling over_quotes name write) 0 0 s ≡ false → convert_calls name write s ≡ rust_calls name write s
unfolding convert_calls rust_calls
calls-as-rust name write s e =
    sweep-reached (search_passes name) (calling over_quotes name write) (calling (λ s. s) name write) (λ before t f. ap (rewritten name write t) (call-as-rust name t f)) s 0 0 e

comma-behind : (o c : ℕ) (s r : List ℕ) → comma_behind o c s ≡ some r → (length r < length s) × (drop (length s - length r) s ≡ r)
unfolding comma_behind
comma-behind o c [] r e = let z : ◌≡◌ {A = ℕ} 0 1 = cc in absurd (omega arith)
comma-behind o c (x ∷ s) r e = go (any_side x) (is "," x && eqb o c) (comma-behind (suc o) c s r) (comma-behind o (suc c) s r) (comma-behind o c s r) e
  where
    more : (length r < length s) × (drop (length s - length r) s ≡ r) → (length r < suc (length s)) × (drop (suc (length s) - length r) (x ∷ s) ≡ r)
    more (l, d) = let n : suc (length s) - length r ≡ suc (length s - length r) = omega arith in (omega arith, ap (λ k. drop k (x ∷ s)) n ∙ d)

    go : (m : Side) (t : Bool) → (comma_behind (suc o) c s ≡ some r → (length r < length s) × (drop (length s - length r) s ≡ r))
        → (comma_behind o (suc c) s ≡ some r → (length r < length s) × (drop (length s - length r) s ≡ r))
        → (comma_behind o c s ≡ some r → (length r < length s) × (drop (length s - length r) s ≡ r))
        → ◌≡◌ {A = Option (List ℕ)} (elim m [ opens ↦ comma_behind (suc o) c s | closes ↦ comma_behind o (suc c) s | neither ↦ elim t [ true ↦ some s | false ↦ comma_behind o c s ] ]) (some r)
        → (length r < suc (length s)) × (drop (suc (length s) - length r) (x ∷ s) ≡ r)
    go opens t a b d e = more (a e)
    go closes t a b d e = more (b e)
    go neither true a b d e =
        let same : s ≡ r = cc in let l = ap length same in let n : suc (length s) - length r ≡ 1 = omega arith in
        (omega arith, ap (λ k. drop k (x ∷ s)) n ∙ same)
    go neither false a b d e = more (d e)

-- what stands behind the comma is what the Rust takes
second-as-rust : (inner behind : List ℕ) → find_comma_in_args inner ≡ some behind → drop (suc (length (inside inner behind))) inner ≡ behind
second-as-rust inner behind e =
    let both = comma-behind 0 0 inner behind e in let h = both.0 in
    let l = length-take-le (pred (length inner - length behind)) inner (omega arith) in
    let n : suc (length (inside inner behind)) ≡ length inner - length behind = omega arith in
    ap (λ k. drop k inner) n ∙ both.1

binom-turn-as-rust : (before : ℕ) (s : List ℕ) → search_passes (bytes "binom(") s ≡ false → binom before s ≡ rust_binom_turn before s
binom-turn-as-rust before s e = rw (← call-as-rust (bytes "binom(") s e) (go (call_at over_quotes (bytes "binom(") s) refl)
  where
    written : List ℕ → List ℕ → List ℕ → Option Turn
    written inner first second = some (taken (call_length (bytes "binom(") inner) (bytes "\\binom{" ++ trim first ++ bytes "}{" ++ trim second ++ bytes "}"))

    parted : (inner : List ℕ) (o : Option (List ℕ)) → find_comma_in_args inner ≡ o
        → (o and_then λ behind. written inner (inside inner behind) (drop (suc (length (inside inner behind))) inner)) ≡ (o and_then λ behind. written inner (inside inner behind) behind)
    parted inner none f = refl
    parted inner (some behind) f = ap (written inner (inside inner behind)) (second-as-rust inner behind f)

    go : (o : Option (List ℕ)) → call_at over_quotes (bytes "binom(") s ≡ o
        → get_or (o and_then λ inner. find_comma_in_args (over_quotes inner) and_then λ behind. written inner (inside inner behind) (drop (suc (length (inside inner behind))) inner)) (kept s)
        ≡ get_or (o and_then λ inner. find_comma_in_args inner and_then λ behind. written inner (inside inner behind) behind) (kept s)
    go none f = refl
    go (some inner) f =
        ap (λ (t : List ℕ). get_or (find_comma_in_args t and_then λ behind. written inner (inside inner behind) (drop (suc (length (inside inner behind))) inner)) (kept s))
        (inner-as-it-is (bytes "binom(") s inner e f)
        ∙ ap (λ (t : Option Turn). get_or t (kept s)) (parted inner (find_comma_in_args inner) refl)

pub binom-as-rust : (s : List ℕ) → reached (search_passes (bytes "binom(")) binom 0 0 s ≡ false → convert_binom s ≡ rust_binom s
unfolding convert_binom rust_binom
binom-as-rust s e = sweep-reached (search_passes (bytes "binom(")) binom rust_binom_turn binom-turn-as-rust s 0 0 e

-- ---- first occurrences
-- the search of the name's first call passes over a parenthesis
abbrev pub first_passes : List ℕ → List ℕ → Bool
first_passes name s = elim (find name s) [ none ↦ false | some at ↦ search_passes name at ]

cut-alike : (o c : ℕ) (s : List ℕ) → cut_alike (split_from o c s) s ≡ split_from o c s
unfolding split_from
cut-alike o c [] = refl
cut-alike o c (x ∷ s) = go (any_side x) (is "," x && eqb o c) (cut-alike (suc o) c s) (cut-alike o (suc c) s) (cut-alike o c s)
  where
    cut-pushed : (parts : List (List ℕ)) → cut_alike parts s ≡ parts → cut_alike (pushed x parts) (x ∷ s) ≡ pushed x parts
    cut-pushed [] e = refl
    cut-pushed (p ∷ ps) e = ap (pushed x) e

    go : (m : Side) (t : Bool) → cut_alike (split_from (suc o) c s) s ≡ split_from (suc o) c s → cut_alike (split_from o (suc c) s) s ≡ split_from o (suc c) s
        → cut_alike (split_from o c s) s ≡ split_from o c s
        → cut_alike (elim m as (λ _. List (List ℕ)) [
          | opens ↦ pushed x (split_from (suc o) c s)
          | closes ↦ pushed x (split_from o (suc c) s)
          | neither ↦ elim t as (λ _. List (List ℕ)) [ true ↦ [] ∷ split_from o c s | false ↦ pushed x (split_from o c s) ]
        ]) (x ∷ s)
        ≡ elim m as (λ _. List (List ℕ)) [
          | opens ↦ pushed x (split_from (suc o) c s)
          | closes ↦ pushed x (split_from o (suc c) s)
          | neither ↦ elim t as (λ _. List (List ℕ)) [ true ↦ [] ∷ split_from o c s | false ↦ pushed x (split_from o c s) ]
        ]
    go opens t a b d = cut-pushed (split_from (suc o) c s) a
    go closes t a b d = cut-pushed (split_from o (suc c) s) b
    go neither true a b d = ap (λ ps. [] ∷ ps) d
    go neither false a b d = cut-pushed (split_from o c s) d

latex-cases-as-rust : (inner : List ℕ) → over_quotes inner ≡ inner → latex_cases inner ≡ rust_latex_cases inner
unfolding latex_cases rust_latex_cases
latex-cases-as-rust inner e =
    ap (λ parts. bytes "\\begin{cases} " ++ joined (bytes " \\\\ ") (nonblank (map trim parts)) ++ bytes " \\end{cases}")
    (ap (λ t. cut_alike (split_top_level_commas t) inner) e ∙ cut-alike 0 0 inner)

pub cases-as-rust : (s : List ℕ) → first_passes (bytes "cases(") s ≡ false → convert_cases s ≡ rust_cases s
unfolding convert_cases cases_once rust_cases
cases-as-rust s e = go (find (bytes "cases(") s) e
  where
    written : List ℕ → (List ℕ → List ℕ) → Option (List ℕ) → List ℕ
    written at latex o = get_or (o and_then λ inner. some (spliced s at (bytes "cases(") inner (latex inner))) s

    called : (at : List ℕ) → search_passes (bytes "cases(") at ≡ false → (o : Option (List ℕ)) → call_at over_quotes (bytes "cases(") at ≡ o → written at latex_cases o ≡ written at rust_latex_cases o
    called at e none f = refl
    called at e (some inner) f = ap (spliced s at (bytes "cases(") inner) (latex-cases-as-rust inner (inner-as-it-is (bytes "cases(") at inner e f))

    go : (o : Option (List ℕ)) → elim o as (λ _. Bool) [ none ↦ false | some at ↦ search_passes (bytes "cases(") at ] ≡ false
        → get_or (o and_then λ at. call_at over_quotes (bytes "cases(") at and_then λ inner. some (spliced s at (bytes "cases(") inner (latex_cases inner))) s
        ≡ get_or (o and_then λ at. rust_call_at (bytes "cases(") at and_then λ inner. some (spliced s at (bytes "cases(") inner (rust_latex_cases inner))) s
    go none e = refl
    go (some at) e = called at e (call_at over_quotes (bytes "cases(") at) refl ∙ ap (written at rust_latex_cases) (call-as-rust (bytes "cases(") at e)

-- a search of the first k rewritings does
unfoldable pub attach_passes : ℕ → List ℕ → Bool
unfolding attach_once
attach_passes zero s = false
attach_passes (suc k) s = first_passes (bytes "attach(") s || elim (attach_once s) [ none ↦ false | some t ↦ attach_passes k t ]

attach-once-as-rust : (s : List ℕ) → first_passes (bytes "attach(") s ≡ false → attach_once s ≡ rust_attach_once s
unfolding attach_once rust_attach_once
attach-once-as-rust s e = go (find (bytes "attach(") s) e
  where
    written : List ℕ → Option (List ℕ) → Option (List ℕ)
    written at o = o and_then λ inner. latex_attach inner and_then λ fresh. some (spliced s at (bytes "attach(") inner fresh)

    go : (o : Option (List ℕ)) → elim o as (λ _. Bool) [ none ↦ false | some at ↦ search_passes (bytes "attach(") at ] ≡ false
        → (o and_then λ at. written at (call_at over_quotes (bytes "attach(") at)) ≡ (o and_then λ at. written at (rust_call_at (bytes "attach(") at))
    go none e = refl
    go (some at) e = ap (written at) (call-as-rust (bytes "attach(") at e)

attach-times-as-rust : (k : ℕ) (s : List ℕ) → attach_passes k s ≡ false → attach_times k s ≡ rust_attach_times k s
unfolding attach_passes attach_times rust_attach_times
attach-times-as-rust zero s e = refl
attach-times-as-rust (suc k) s e =
    let both = or-neither (first_passes (bytes "attach(") s) (elim (attach_once s) as (λ _. Bool) [ none ↦ false | some t ↦ attach_passes k t ]) e in
    rw (← attach-once-as-rust s both.0, rust_attach_times) (go (attach_once s) both.1 (attach-times-as-rust k))
  where
    go : (o : Option (List ℕ)) → elim o as (λ _. Bool) [ none ↦ false | some t ↦ attach_passes k t ] ≡ false → ((t : List ℕ) → attach_passes k t ≡ false → attach_times k t ≡ rust_attach_times k t)
        → ◌≡◌ {A = List ℕ} (elim o [ none ↦ s | some t ↦ attach_times k t ]) (elim o [ none ↦ s | some t ↦ rust_attach_times k t ])
    go none e later = refl
    go (some t) e later = later t e

pub attach-as-rust : (s : List ℕ) → attach_passes (length s) s ≡ false → convert_attach s ≡ rust_attach s
unfolding convert_attach rust_attach
attach-as-rust s e = attach-times-as-rust (length s) s e
