-- The turns of `attach` between the halves of the buffer. Assumes nothing.
--     Halved        a text in a half of the buffer, or where a stage finds it: no heavier than the half is long
--     span_at, SpanRegions    a span of the text, and what the code asks to write it
--     underset_at    one rewriting, as the code writes it
--     Turned        what `attach_once` ensures
--     Turning       the loop: k turns have been made. Rewritten: all have
use Rattle.std.specs.Prelude.{◌≡◌, refl, cond, List, ◌++◌, ◌⊎◌, ℕ, suc, ◌+◌, ◌-◌, ◌≤◌, ◌<◌, ltb, length, take, drop}
use Rattle.std.proofs.Math.Path.{sym}
use Rattle.std.proofs.Common.{ap, ap₂, ◌∙◌, subst, inl, inr, ⊎_elim, drop-drop, take-take, lt-ltb, le-ltb}
use Rattle.std.proofs.Math.Option.{Option, none, some}
use Rattle.std.proofs.Math.Decide.{dec_lt}
use native.Mathlib.Omega.{arith}
use Rattle.spec.specs.Pipeline.{least_work}
use Rattle.text_search.specs.Half.{half_work}
use Rattle.spec.specs.Result.{most_symbols}
use Rattle.spec.specs.Closing.{over_quotes}
use Rattle.spec.specs.Calls.{spliced, latex_underset, attach_once, attach_times, convert_attach}
use Rattle.spec.specs.Symbols.{bytes, ◌and_then◌, find}
use Rattle.spec.specs.Laws.Symbols.{find-starts}
use Rattle.text_search.specs.Search.{Finds, finds-at, finds-within, finds-nothing, until-drop}
use Rattle.spec.specs.Laws.Absent.{times_none}
use Rattle.std.specs.Prelude.{Option as Maybe, Some, None}
use Rattle.text_search.specs.Search.{Found}
use Rattle.call_rewriting.specs.Delimiters.{Called}
use Rattle.call_rewriting.specs.First.{Firstly, first-unclosed, first-at, text-finds, call_from}
use Rattle.text_symbols.specs.Parts.{part, length_part, whole_part, sub_part, rest_part}
use Rattle.text_symbols.specs.Trim.{spanned}
use Rattle.text.specs.declared.writer.Writer.{Writer}
use Rattle.text.specs.Writer.{Regions, Appended, appended-long}
use Rattle.text.specs.Written.{appended-text, appended-written, wrote-beyond}
use Rattle.text.specs.Stage.{Ready, placed-text, placed-fits}
use Rattle.text_symbols.specs.declared.Span.{Span}
use Rattle.text.specs.Stage.{Progress}
use Rattle.text.specs.Stage.{Text}
use Rattle.attach.specs.Weight.{weight, weight-long, weight-short}
use Rattle.attach.specs.Once.{ArgumentsWithin, AttachmentFits, attachment_latex, Attached, underset, underset-light}
use Rattle.attach.specs.declared.Attachment.{Attachment}
use Rattle.text.specs.declared.TextPlace.{TextPlace}

-- ---- the halves of the buffer
abbrev pub Half : ℕ → ℕ → Type 0
Half at n = (((at ≡ 0) ⊎ (at ≡ most_symbols)) × (at + n ≤ half_work)) ⊎ ((at ≡ half_work) × (n ≤ half_work))

pub record Halved (w : List ℕ) (at n : ℕ) : Type 0 where
  pub long : least_work ≤ length w
  pub place : Half at n
  pub weight-bounded : weight (part at n w) ≤ half_work

-- the half that a text at this place does not lie in
abbrev pub other_half : ℕ → ℕ
other_half at = cond (ltb at half_work) half_work 0

other-half-low : (at : ℕ) → at < half_work → other_half at ≡ half_work
other-half-low at h = rw (lt-ltb at half_work h)

other-half-high : (at : ℕ) → half_work ≤ at → other_half at ≡ 0
other-half-high at h = rw (le-ltb at half_work h)

-- a writer that has written nothing to a half
abbrev pub half_writer : ℕ → Writer
half_writer to = record { to = to; cap = half_work; count = 0 }

pub halved-regions : {w : List ℕ} {at n : ℕ} → Halved w at n → Regions w at n (half_writer (other_half at))
halved-regions {w} {at} {n} half = ⊎_elim (λ p. low p.1 (⊎_elim (λ z. omega arith) (λ z. omega arith) p.0)) (λ p. high p.0 p.1) half.place
  where
    low : at + n ≤ half_work → at < half_work → Regions w at n (half_writer (other_half at))
    low fits h =
        let l = half.long in let o = other-half-low at h in
        record { source = omega arith; region = omega arith; apart = inl (omega arith); short = omega arith; small = omega arith }

    high : at ≡ half_work → n ≤ half_work → Regions w at n (half_writer (other_half at))
    high here fits =
        let l = half.long in let o = other-half-high at (omega arith) in
        record { source = omega arith; region = omega arith; apart = inr (omega arith); short = omega arith; small = omega arith }

other-half-place : (at n : ℕ) → n ≤ half_work → Half (other_half at) n
other-half-place at n h = go (dec_lt at half_work)
  where
    go : Dec (at < half_work) → Half (other_half at) n
    go (yes l) = inr (other-half-low at l, h)
    go (no l) = let o = other-half-high at (omega arith) in inl (inl o, omega arith)

-- a stage's text lies in the lower half
pub ready-halved : {w : List ℕ} {p : Progress} {from n : ℕ} → Ready w p → p ≡ Text from n → Halved w from n
ready-halved {w} {p} {from} {n} ready e =
    let long = ready.long in let placed = placed-text ready e in let short = placed.1 in let fits = placed-fits ready e in
    let l = length_part from n w (omega arith) in
    let light = weight-short (part from n w) in
    record { long = long; place = inl (placed.0, fits); weight-bounded = omega arith }

-- what lies behind both halves is as it was
abbrev pub Beyond : List ℕ → List ℕ → Type 0
Beyond w w' = drop least_work w' ≡ drop least_work w

other-half-within : (at : ℕ) → other_half at + half_work ≤ least_work
other-half-within at = go (dec_lt at half_work)
  where
    go : Dec (at < half_work) → other_half at + half_work ≤ least_work
    go (yes l) = let o = other-half-low at l in omega arith
    go (no l) = let o = other-half-high at (omega arith) in omega arith

-- ---- one turn
-- a span of the text at `from`, and what the code asks to write it to the other half
abbrev pub span_at : ℕ → Span → List ℕ → List ℕ
span_at from p w = part (from + p.start) (p.end - p.start) w

pub record SpanRegions (w : List ℕ) (from : ℕ) (p : Span) (o : Writer) : Type 0 where
  pub order : p.start ≤ p.end
  pub regions : Regions w (from + p.start) (p.end - p.start) o

abbrev pub underset_at : List ℕ → ℕ → ℕ → ℕ → ℕ → Span → Span → List ℕ
underset_at w from n i k base below =
    part from i w
    ++ latex_underset (span_at from below w) (span_at from base w)
    ++ part (from + (i + 7 + k + 1)) (from + n - (from + (i + 7 + k + 1))) w

underset-parts :
    (w : List ℕ) (from n i k : ℕ) {base below : Span} → ArgumentsWithin (i + 7) k base below → i + 7 + k + 1 ≤ n
    → underset (part from n w) i k (spanned below (part from n w)) (spanned base (part from n w)) ≡ underset_at w from n i k base below
underset-parts w from n i k {base} {below} args within =
    let s = part from n w in
    let f = args.first in let bo = args.base-order in let bt = args.between in let lo = args.below-order in let la = args.last in
    ap₂ (λ x y. x ++ y ++ drop (i + 7 + k + 1) s)
    (take-take i n (drop from w) (omega arith))
    (ap₂ latex_underset (sym (sub_part from n below.start (below.end - below.start) w (omega arith))) (sym (sub_part from n base.start (base.end - base.start) w (omega arith))))
    ∙ ap (λ x. part from i w ++ latex_underset (span_at from below w) (span_at from base w) ++ x)
    (sym (rest_part from n (i + 7 + k + 1) w))

abbrev pub AfterTurn : List ℕ → List ℕ → ℕ → ℕ → Maybe TextPlace → Type 0
AfterTurn w w' at n (Some t) = Halved w' t.at t.n × (attach_once (part at n w) ≡ some (part t.at t.n w'))
AfterTurn w w' at n None = (w' ≡ w) × (attach_once (part at n w) ≡ none)

pub record Turned (w w' : List ℕ) (at n : ℕ) (r : Maybe TextPlace) : Type 0 where
  pub long : length w' ≡ length w
  pub left : AfterTurn w w' at n r
  pub beyond : Beyond w w'

-- as the searches have found it in the text
module _ {w : List ℕ} {at n : ℕ} (half : Halved w at n) {r : Found} (finds : Finds (part at (at + n - at) w) r (find (bytes "attach(") (part at (at + n - at) w))) where
  abbrev text : List ℕ
  text = part at n w

  found : Finds text r (find (bytes "attach(") text)
  found = text-finds (bytes "attach(") w at n finds

  unturned : attach_once text ≡ none → Turned w w at n None
  unturned e = record { long = refl; left = (refl, e); beyond = refl }

  pub turned-absent : r ≡ None → Turned w w at n None
  unfolding attach_once
  turned-absent e = unturned (rw (finds-nothing found e))

  module _ {i : ℕ} (e : r ≡ Some i) where
    module _ {q : Found} (called : Called over_quotes (bytes "attach(") (part (at + i) (at + n - (at + i)) w) q) where
      pub turned-unclosed : q ≡ None → Turned w w at n None
      unfolding attach_once
      turned-unclosed f = unturned (rw (finds-at found e, first-unclosed (part at n w) i (finds-at found e) (finds-within found e) (call_from w at n i called) f))

      module _ {k : ℕ} (f : q ≡ Some k) where
        first : Firstly (bytes "attach(") text i k
        first = first-at (part at n w) i (finds-at found e) (finds-within found e) (call_from w at n i called) f

        pub call-here : i + 7 + k + 1 ≤ n
        call-here = let l = length_part at n w (halved-regions half).source in let g = first.within in omega arith

        module _ {a : Maybe Attachment} (attached : Attached (part at (at + n - at) w) (i + 7) k a) where
          once : {b : Maybe Attachment} → a ≡ b → attach_once text ≡ (attachment_latex text b and_then λ fresh. some (spliced text (drop i text) (bytes "attach(") (part (i + 7) k text) fresh))
          unfolding attach_once
          once {b} g =
              let latex = (subst (λ s. Attached s (i + 7) k a) (whole_part at n w) attached).latex in
              rw (first.found, first.inner, ← latex, g)

          pub turned-not : a ≡ None → Turned w w at n None
          turned-not g = unturned (once g)

          module _ {base below : Span} (g : a ≡ Some (record { base = base; below = below })) where
            pub arguments-here : ArgumentsWithin (i + 7) k base below × (i + 7 + k + 1 ≤ n)
            arguments-here = (subst (AttachmentFits (i + 7) k) g attached.fits, call-here)

            rewritten : attach_once text ≡ some (underset text i k (spanned below text) (spanned base text))
            rewritten =
                let l = length_part at n w (halved-regions half).source in let within = call-here in
                let long : length (part (i + 7) k text) ≡ k = length_part (i + 7) k text (omega arith) in
                let next : i + suc (7 + k) ≡ i + 7 + k + 1 = omega arith in
                let latex = latex_underset (spanned below text) (spanned base text) in
                once g
                ∙ ap some
                (ap₂ (λ x m. x ++ latex ++ drop (suc (7 + m)) (drop i text)) (until-drop text i (omega arith)) long
                ∙ ap (λ l. take i text ++ latex ++ l) (drop-drop (suc (7 + k)) i text ∙ ap (λ x. drop x text) next))

            pub turned-to : {w' : List ℕ} {o : Writer} → Appended w w' (half_writer (other_half at)) o (underset_at w at n i k base below) → Turned w w' at n (Some (record { at = other_half at; n = o.count }))
            turned-to {w'} {o} a =
                let s = part at n w in
                let t = underset s i k (spanned below s) (spanned base s) in
                let same : t ≡ underset_at w at n i k base below = underset-parts w at n i k arguments-here.0 arguments-here.1 in
                let light : weight t ≤ weight s = underset-light s i k arguments-here.0 (let l = length_part at n w (halved-regions half).source in let within = call-here in omega arith) (find-starts (bytes "attach(") s (drop i s) first.found) in
                let before = half.weight-bounded in let short = weight-long t in let counted = a.counted in let c = ap length same in
                let l = appended-long a in let before-long = half.long in
                let same_text : part (other_half at) o.count w' ≡ t = ap (λ k. part k o.count w') (sym a.same-place) ∙ appended-text a refl (halved-regions half).region (omega arith) ∙ sym same in
                let weighs = ap weight same_text in
                record {
                  long = l;
                  left = (record { long = omega arith; place = other-half-place at o.count (omega arith); weight-bounded = omega arith }, rewritten ∙ ap some (sym same_text));
                  beyond = wrote-beyond {k = least_work} (appended-written a refl (halved-regions half).region).wrote (other-half-within at);
                }

-- ---- the turns
pub record Turning (w₀ w : List ℕ) (from n at m k : ℕ) : Type 0 where
  pub long : length w ≡ length w₀
  pub half : Halved w at m
  pub beyond : Beyond w₀ w
  pub left : attach_times (n - k) (part at m w) ≡ attach_times n (part from n w₀)

pub record Rewritten (w₀ w : List ℕ) (from n : ℕ) (r : TextPlace) : Type 0 where
  pub long : length w ≡ length w₀
  pub half : Halved w r.at r.n
  pub beyond : Beyond w₀ w
  pub text : part r.at r.n w ≡ convert_attach (part from n w₀)

pub turning-none : {w : List ℕ} {from n : ℕ} → Halved w from n → Turning w w from n from n 0
turning-none {w} {from} {n} half = let z : n - 0 ≡ n = omega arith in record { long = refl; half = half; beyond = refl; left = ap (λ j. attach_times j (part from n w)) z }

times-some : (j : ℕ) (s : List ℕ) {t : List ℕ} → attach_once s ≡ some t → attach_times (suc j) s ≡ attach_times j t
unfolding attach_times
times-some j s e = let f : Option (List ℕ) → List ℕ = λ o. elim o [ none ↦ s | some t ↦ attach_times j t ] in ap f e

all-times : {w₀ : List ℕ} {from n : ℕ} → Halved w₀ from n → attach_times n (part from n w₀) ≡ convert_attach (part from n w₀)
unfolding convert_attach
all-times {w₀} {from} {n} half = ap (λ j. attach_times j (part from n w₀)) (sym (length_part from n w₀ (halved-regions half).source))

module _ {w₀ w : List ℕ} {from n at m k : ℕ} (turning : Turning w₀ w from n at m k) where
  pub turning-more : {w' : List ℕ} {r : Maybe TextPlace} {t : TextPlace} → k < n → Turned w w' at m r → r ≡ Some t → Turning w₀ w' from n t.at t.n (k + 1)
  turning-more {w'} more turn e =
      let turned = subst (Turned w w' at m) e turn in
      let less : suc (n - (k + 1)) ≡ n - k = omega arith in
      record {
        long = turned.long ∙ turning.long;
        half = turned.left.0;
        beyond = turned.beyond ∙ turning.beyond;
        left = sym (times-some (n - (k + 1)) (part at m w) turned.left.1) ∙ ap (λ j. attach_times j (part at m w)) less ∙ turning.left;
      }

  pub turning-done : {w' : List ℕ} {r : Maybe TextPlace} → Halved w₀ from n → Turned w w' at m r → r ≡ None → Rewritten w₀ w' from n (record { at = at; n = m })
  turning-done {w'} half turn e =
      let turned = subst (Turned w w' at m) e turn in
      let same = turned.left.0 in
      record {
        long = turned.long ∙ turning.long;
        half = subst (λ v. Halved v at m) (sym same) turning.half;
        beyond = turned.beyond ∙ turning.beyond;
        text = ap (part at m) same ∙ sym (times_none (n - k) (part at m w) turned.left.1) ∙ turning.left ∙ all-times half;
      }

  pub turning-all : Halved w₀ from n → n ≤ k → Rewritten w₀ w from n (record { at = at; n = m })
  unfolding attach_times
  turning-all half end =
      let z : n - k ≡ 0 = omega arith in
      record {
        long = turning.long;
        half = turning.half;
        beyond = turning.beyond;
        text = sym (ap (λ j. attach_times j (part at m w)) z) ∙ turning.left ∙ all-times half;
      }
