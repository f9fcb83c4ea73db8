-- The end of `attach`: the finished text is judged by its length, where it lies or once it has been brought to the first region. Assumes nothing.
--     Settled       what `settle` ensures
use Rattle.std.specs.Prelude.{◌≡◌, refl, List, ◌⊎◌, ℕ, ◌≤◌, ◌<◌, length}
use Rattle.std.proofs.Common.{sym, ap, ◌∙◌, subst, inl, ⊎_elim, arith}
use Rattle.spec.specs.Pipeline.{least_work}
use Rattle.text_search.specs.Half.{half_work}
use Rattle.spec.specs.Result.{◌then◌, most_symbols, grown, stage}
use Rattle.spec.specs.Calls.{convert_attach}
use Rattle.text_symbols.specs.Parts.{part, length_part}
use Rattle.text.specs.declared.writer.Writer.{Writer}
use Rattle.text.specs.Writer.{Appended, started, appended-long}
use Rattle.text.specs.Written.{appended-text, appended-written, wrote-beyond}
use Rattle.text.specs.Stage.{shown, Placed, judged, judged-text, Answered}
use Rattle.text.specs.Stage.{Progress}
use Rattle.text.specs.Stage.{Text}
use Rattle.attach.specs.Turns.{Halved, Beyond, Rewritten, halved-regions}
use Rattle.text.specs.declared.TextPlace.{TextPlace}

pub record Settled (w w' : List ℕ) (place : TextPlace) (r : Progress) : Type 0 where
  pub long : length w' ≡ length w
  pub answer : shown r w' ≡ grown (part place.at place.n w) (part place.at place.n w)
  pub placed : Placed r
  pub beyond : Beyond w w'

settled :
    (w w' : List ℕ) (place : TextPlace) (o : Writer) {r : Progress} → o.count ≡ length (part place.at place.n w) → (o.to ≡ 0) ⊎ (o.to ≡ most_symbols)
    → (o.count ≤ most_symbols → part o.to o.count w' ≡ part place.at place.n w) → length w' ≡ length w → Beyond w w' → r ≡ judged o
    → Settled w w' place r
settled w w' place o counted region held long beyond e =
    let right = judged-text w' (part place.at place.n w) o counted region held in
    record { long = long; answer = ap (λ q. shown q w') e ∙ right.0; placed = subst Placed (sym e) right.1; beyond = beyond }

module _ {w : List ℕ} {place : TextPlace} (half : Halved w place.at place.n) where
  pub settled-low : {o : Writer} {r : Progress} → place.at < half_work → o ≡ record { to = place.at; cap = most_symbols; count = place.n } → r ≡ judged o → Settled w w place r
  settled-low h same e =
      settled w w place (record { to = place.at; cap = most_symbols; count = place.n }) (sym (length_part place.at place.n w (halved-regions half).source))
      (⊎_elim (λ p. p.0) (λ p. (let z = p.0 in absurd (omega arith))) half.place) (λ l. refl) refl refl (e ∙ ap judged same)

  pub settled-high : {w' : List ℕ} {o : Writer} {r : Progress} → Appended w w' (started 0) o (part place.at place.n w) → r ≡ judged o → Settled w w' place r
  settled-high {w'} {o} a e =
      let long = half.long in
      let counted = a.counted in
      settled w w' place o (omega arith) (inl a.same-place) (λ l. appended-text a refl (omega arith) l) (appended-long a)
      (wrote-beyond {k = least_work} (appended-written a refl (omega arith)).wrote (omega arith)) e

pub attach-answered :
    {w w' w'' : List ℕ} {p r : Progress} {from n : ℕ} {place : TextPlace} → p ≡ Text from n → Rewritten w w' from n place → Settled w' w'' place r
    → Answered w w'' p r (stage convert_attach)
attach-answered {w} e rewritten settled =
    record {
      answer = settled.answer ∙ ap (λ t. grown t t) rewritten.text ∙ sym (ap (λ q. shown q w then stage convert_attach) e);
      long = settled.long ∙ rewritten.long;
      placed = settled.placed;
    }

pub attach-beyond : {w w' w'' : List ℕ} {r : Progress} {from n : ℕ} {place : TextPlace} → Rewritten w w' from n place → Settled w' w'' place r → Beyond w w''
attach-beyond rewritten settled = settled.beyond ∙ rewritten.beyond
