-- Operands and fractions as they are copied from the text to the other region. Assumes nothing.
--     Source     a span that lies apart from what is written
use Rattle.std.specs.Prelude.{◌≡◌, List, ◌++◌, ℕ, ◌+◌, ◌-◌, ◌≤◌, length, drop}
use Rattle.std.proofs.Common.{ap, ap₂, ◌∙◌, subst, arith, length-take, length-append}
use Rattle.spec.specs.Result.{most_symbols}
use Rattle.spec.specs.Symbols.{bytes}
use Rattle.spec.specs.Fractions.{frac, strip_outer_parens}
use Rattle.text_symbols.specs.Parts.{part, sub_part}
use Rattle.text_symbols.specs.Trim.{Narrowed, spanned}
use Rattle.text.specs.declared.writer.Writer.{Writer}
use Rattle.text.specs.Writer.{Room, Appended, Apart, Regions, apart-kept, room-left, appended-more, appended-long, appended-part}
use Rattle.text_symbols.specs.declared.Span.{Span}
use Rattle.fraction_operands.specs.Strip.{whole_span, strip-length}
use Rattle.fraction_round.specs.declared.Operands.{Operands}
use Rattle.fraction_round.specs.Slash.{Ordered, fraction}

pub record Source (w : List ℕ) (p : Span) (o : Writer) : Type 0 where
  pub order : p.start ≤ p.end
  pub inside : p.end ≤ length w
  pub short : p.end - p.start ≤ most_symbols
  pub apart : Apart p.start (p.end - p.start) o

-- ---- an operand
-- where it stands in the buffer
module _ (w : List ℕ) (p : Span) {r : Span} (operand : Narrowed (spanned p w) (whole_span (spanned p w)) r (strip_outer_parens (spanned p w))) where
  pub operand-fits : r.end ≤ p.end - p.start
  operand-fits = let t = operand.to in let n = length-take (p.end - p.start) (drop p.start w) in omega arith

  pub operand-part : part (p.start + r.start) (r.end - r.start) w ≡ strip_outer_parens (spanned p w)
  operand-part =
      let f = operand-fits in let ordered = operand.order in
      sub_part p.start (p.end - p.start) r.start (r.end - r.start) w (omega arith) ∙ operand.text

operand_small : (w : List ℕ) (p : Span) → length (strip_outer_parens (spanned p w)) ≤ p.end - p.start
operand_small w p = let a = strip-length (spanned p w) in let b = length-take (p.end - p.start) (drop p.start w) in omega arith

-- ---- room
pub room-less : {w : List ℕ} {o : Writer} {k : ℕ} (j : ℕ) → Room w o k → j ≤ k → Room w o j
room-less j r h = record { region = r.region; small = (let s = r.small in omega arith) }

pub room-operand : {w w' : List ℕ} {o o' : Writer} (v : List ℕ) (p : Span) (k : ℕ) → Appended w w' o o' (strip_outer_parens (spanned p v)) → Room w o (p.end - p.start + k) → Room w' o' k
room-operand v p k a r =
    let l = appended-long a in let c = a.counted in let most = operand_small v p in
    let place = a.same-place in let cap = a.same-cap in let g = r.region in let s = r.small in
    record { region = omega arith; small = omega arith }

-- a span is still a source after an append
pub source-kept : {w w' : List ℕ} {p : Span} {o o' : Writer} {bs : List ℕ} → Appended w w' o o' bs → Source w p o → Source w' p o'
source-kept {p = p} a s =
    let l = appended-long a in let i = s.inside in
    record { order = s.order; inside = omega arith; short = s.short; apart = apart-kept p.start (p.end - p.start) a s.apart }

source-text : {w w' : List ℕ} {p : Span} {o o' : Writer} {bs : List ℕ} → Appended w w' o o' bs → Source w p o → spanned p w' ≡ spanned p w
source-text {p = p} a s = appended-part a p.start (p.end - p.start) s.apart

-- ---- a fraction: the room behind each append but the last
module _
    {w w₁ w₂ : List ℕ} {o o₁ o₂ : Writer} (f : Operands) (room : Room w o (6 + (f.num.end - f.num.start + (2 + (f.den.end - f.den.start + 1)))))
    (a₁ : Appended w w₁ o o₁ (bytes "\\frac{")) (a₂ : Appended w₁ w₂ o₁ o₂ (strip_outer_parens (spanned f.num w₁)))
  where
    room-above : Room w₂ o₂ (2 + (f.den.end - f.den.start + 1))
    room-above = room-operand w₁ f.num (2 + (f.den.end - f.den.start + 1)) a₂ (room-left (f.num.end - f.num.start + (2 + (f.den.end - f.den.start + 1))) a₁ room)

    pub room-halved : Room w₂ o₂ 2
    room-halved = room-less 2 room-above (omega arith)

    module _ {w₃ : List ℕ} {o₃ : Writer} (a₃ : Appended w₂ w₃ o₂ o₃ (bytes "}{")) where
      room-between : Room w₃ o₃ (f.den.end - f.den.start + 1)
      room-between = room-left (f.den.end - f.den.start + 1) a₃ room-above

      pub room-below : Room w₃ o₃ (f.den.end - f.den.start)
      room-below = room-less (f.den.end - f.den.start) room-between (omega arith)

      pub room-closed : {w₄ : List ℕ} {o₄ : Writer} → Appended w₃ w₄ o₃ o₄ (strip_outer_parens (spanned f.den w₃)) → Room w₄ o₄ 1
      room-closed a₄ = room-operand w₃ f.den 1 a₄ room-between

-- its five appends
module _
    {w w₁ w₂ w₃ w₄ w₅ : List ℕ} {o o₁ o₂ o₃ o₄ o₅ : Writer} (f : Operands) (num : Source w f.num o) (den : Source w f.den o)
    (a₁ : Appended w w₁ o o₁ (bytes "\\frac{")) (a₂ : Appended w₁ w₂ o₁ o₂ (strip_outer_parens (spanned f.num w₁)))
    (a₃ : Appended w₂ w₃ o₂ o₃ (bytes "}{")) (a₄ : Appended w₃ w₄ o₃ o₄ (strip_outer_parens (spanned f.den w₃))) (a₅ : Appended w₄ w₅ o₄ o₅ (bytes "}"))
  where
    pub appended-fraction : Appended w w₅ o o₅ (fraction f w)
    appended-fraction =
        let b₂ = subst (λ l. Appended w₁ w₂ o₁ o₂ (strip_outer_parens l)) (source-text a₁ num) a₂ in
        let d₁ = source-kept a₁ den in
        let d₂ = source-kept a₂ d₁ in
        let d = source-text a₃ d₂ ∙ source-text a₂ d₁ ∙ source-text a₁ den in
        let b₄ = subst (λ l. Appended w₃ w₄ o₃ o₄ (strip_outer_parens l)) d a₄ in
        appended-more a₁ (appended-more b₂ (appended-more a₃ (appended-more b₄ a₅)))

frac-length : (n d : List ℕ) → length (frac n d) ≡ 6 + (length n + (2 + (length d + 1)))
frac-length n d =
    let a = length-append n (bytes "}{" ++ (d ++ bytes "}")) in
    let b = length-append d (bytes "}") in
    omega arith

-- ---- the operands of a slash, spans of the text at `from`
module _ {w : List ℕ} {from n : ℕ} {o : Writer} (regions : Regions w from n o) (short : n ≤ most_symbols) {i : ℕ} {f : Operands} (ord : Ordered n i f) where
  shifted-text : (p : Span) → p.start ≤ p.end → p.end ≤ n → spanned (record { start = from + p.start; end = from + p.end }) w ≡ spanned p (part from n w)
  shifted-text p ordered h =
      let e : from + p.end - (from + p.start) ≡ p.end - p.start = omega arith in
      ap (λ k. part (from + p.start) k w) e ∙ sub_part from n p.start (p.end - p.start) w (omega arith)

  abbrev pub num_span : Span
  num_span = record { start = from + f.num.start; end = from + f.num.end }

  abbrev pub den_span : Span
  den_span = record { start = from + f.den.start; end = from + f.den.end }

  pub fraction-shifted : fraction (record { num = num_span; den = den_span }) w ≡ fraction f (part from n w)
  fraction-shifted =
      let a = ord.before-slash in let b = ord.behind-slash in let d = ord.denominator in let e = ord.within in
      ap₂ (λ x y. frac (strip_outer_parens x) (strip_outer_parens y)) (shifted-text f.num ord.numerator (omega arith)) (shifted-text f.den ord.denominator ord.within)

  -- how much a fraction writes
  pub fraction-small : length (fraction f (part from n w)) ≤ 16393
  fraction-small =
      let s = part from n w in
      let p = operand_small s f.num in let q = operand_small s f.den in
      let e = frac-length (strip_outer_parens (spanned f.num s)) (strip_outer_parens (spanned f.den s)) in
      let a = ord.before-slash in let b = ord.behind-slash in let d = ord.denominator in let g = ord.within in
      omega arith
