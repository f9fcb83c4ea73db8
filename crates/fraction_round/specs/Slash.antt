-- What becomes of a slash, from the answers of the searches.
--     Slashed     what the code says of the slash at i is what the definition `slash` says, in a round that has done `done`, whatever has been written so far,
--                 and the marks keep what the round has done then
--     Ordered     the operands lie on either side of it
--     Numerated   it stands in no script, and its numerator lies from q to b
--     Numerator   the numerator's span says so, or nothing where there is none
-- Assumes nothing.
use Rattle.std.specs.Prelude.{◌≡◌, Bool, true, false, ℕ, suc, ◌+◌, ◌-◌, ◌≤◌, ◌<◌, length, take, drop}
use Rattle.std.proofs.Common.{sym, ap, ◌∙◌, subst, arith, length-take, length-drop}
use mathlib.Core.List.{List, reverse, reverse_aux, reverse-reverse}
use Rattle.std.proofs.Math.Option.{Option, none, some}
use Prim.Native.Char.{code}
use Rattle.spec.specs.Symbols.{trim_start, until}
use Rattle.spec.specs.Fractions.{
  Done,
  Step,
  frac,
  is_left,
  copied,
  leaving,
  strip_outer_parens,
  is_inside_subscript_context,
  find_fraction_part_before,
  find_fraction_part_after,
  barred,
  with_denominator,
  with_numerator,
  slash,
}
use Rattle.spec.specs.Laws.Symbols.{reverse-drop}
use Rattle.text_symbols.specs.Parts.{part, drop-take}
use Rattle.text_symbols.specs.Trim.{spanned}
use Rattle.text_symbols.specs.Places.{before, length_before, AheadTo, BackTo}
use Rattle.text_symbols.specs.declared.Span.{Span}
use Rattle.text_search.specs.Search.{Found}
use Rattle.fraction_operands.specs.Places.{FoundBack, behind-nothing, until-ahead}
use Rattle.fraction_left.specs.Left.{Kept, rewritten_to}
use Rattle.fraction_round.specs.declared.Operands.{Operands}
use Rattle.fraction_round.specs.declared.Barred.{Barred}
use Rattle.fraction_left.specs.declared.Marks.{Marks}
use Rattle.std.specs.Prelude.{Option as Maybe, Some, None, Result as Either, Ok, Err}

-- the fraction of two operands of a text
abbrev pub fraction : Operands → List ℕ → List ℕ
fraction f s = frac (strip_outer_parens (spanned f.num s)) (strip_outer_parens (spanned f.den s))

-- what the code says of a slash: its operands, nothing where it stays, or number 9
abbrev pub Slash : Type 0
Slash = Either (Maybe Operands) Barred

-- with o written so far
abbrev pub fraction_step : List ℕ → ℕ → Done → List ℕ → Operands → Step
fraction_step s i done o f =
    record {
      skip = f.den.end - (i + 1);
      written = reverse_aux (fraction f s) (drop (i - f.num.start) o);
      done = rewritten_to done f.den.end;
    }

abbrev pub decided : List ℕ → ℕ → Done → List ℕ → Slash → Option Step
decided s i done o (Ok (Some f)) = some (fraction_step s i done o f)
decided s i done o (Ok None) = some (copied done (code "/") o)
decided s i done o (Err b) = none

pub record Ordered (n i : ℕ) (f : Operands) : Type 0 where
  pub numerator : f.num.start ≤ f.num.end
  pub before-slash : f.num.end ≤ i
  pub behind-slash : i + 1 ≤ f.den.start
  pub denominator : f.den.start ≤ f.den.end
  pub within : f.den.end ≤ n

abbrev pub SlashFits : ℕ → ℕ → Slash → Type 0
SlashFits n i (Ok (Some f)) = Ordered n i f
SlashFits n i (Ok None) = Unit {0}
SlashFits n i (Err b) = Unit {0}

-- `next` is what the round has done then, but for the rewriting of this slash
pub record Slashed (s : List ℕ) (marks : Marks) (i : ℕ) (done : Done) (r : Slash) : Type 0 where
  pub next : Done
  pub kept : Kept marks (length s) next
  pub decides : (o : List ℕ) → slash done (before s i) o (drop (i + 1) s) ≡ decided s i next o r
  pub fits : SlashFits (length s) i r

-- ---- the symbols between two places, seen from behind
until-behind : (s : List ℕ) (b e : ℕ) → b ≤ e → e ≤ length s → reverse (until (before s e) (before s b)) ≡ part b (e - b) s
until-behind s b e h w =
    let n = length_before s e w in let m = length_before s b (omega arith) in let k = length-take e s in
    let f : length (before s e) - length (before s b) ≡ length (take e s) - b = omega arith in
    ap (λ j. reverse (take j (before s e))) f ∙ ap reverse (sym (reverse-drop b (take e s))) ∙ reverse-reverse (drop b (take e s)) ∙ drop-take b e s

abbrev made : List ℕ → List ℕ → ℕ → List ℕ → List ℕ → ℕ → ℕ → Step
made left o k n d m e =
    record { skip = k; written = reverse_aux (frac (strip_outer_parens n) (strip_outer_parens d)) (drop m o); done = record { rewritten = e; left = left } }

made-same : (left o : List ℕ) {k k' m m' e e' : ℕ} {n n' d d' : List ℕ} → k ≡ k' → n ≡ n' → d ≡ d' → m ≡ m' → e ≡ e' → made left o k n d m e ≡ made left o k' n' d' m' e'
made-same left o p q r t u = cc

-- ---- the searches one after the other
pub record Numerated (s : List ℕ) (i b q : ℕ) : Type 0 where
  pub outside : is_inside_subscript_context 0 (before s i) ≡ false
  pub over : BackTo s i b (trim_start (before s i))
  pub start : q ≤ b
  pub found : find_fraction_part_before (before s b) ≡ some (before s q)

-- it stands in a script, or has no numerator
abbrev pub Bare : List ℕ → ℕ → Type 0
Bare s i = (done : Done) (o : List ℕ) → slash done (before s i) o (drop (i + 1) s) ≡ some (copied done (code "/") o)

abbrev pub NumeratorIs : List ℕ → ℕ → Maybe Span → Type 0
NumeratorIs s i (Some p) = Numerated s i p.end p.start
NumeratorIs s i None = Bare s i

pub record Numerator (s : List ℕ) (i : ℕ) (r : Maybe Span) : Type 0 where
  pub told : NumeratorIs s i r

module _ (s : List ℕ) (i : ℕ) {t : Bool} (script : t ≡ is_inside_subscript_context 0 (before s i)) where
  pub numerator-inside : t ≡ true → Numerator s i None
  unfolding slash
  numerator-inside e = let inside = sym script ∙ e in record { told = λ done o. rw (inside, slash) }

  module _ (e : t ≡ false) {b : ℕ} (over : BackTo s i b (trim_start (before s i))) {r : Found} (num : FoundBack s b r (find_fraction_part_before (before s b))) where
    outside : is_inside_subscript_context 0 (before s i) ≡ false
    outside = sym script ∙ e

    pub numerator-nowhere : r ≡ None → Numerator s i None
    unfolding slash
    numerator-nowhere f =
        let nothing : find_fraction_part_before (trim_start (before s i)) ≡ none = ap find_fraction_part_before (sym over.left) ∙ behind-nothing num f in
        record { told = λ done o. rw (outside, nothing, slash) }

pub numerated : {s : List ℕ} {i : ℕ} {r : Maybe Span} {p : Span} → Numerator s i r → r ≡ Some p → Numerated s i p.end p.start
numerated {s} {i} n e = subst (NumeratorIs s i) e n.told

module _ (s : List ℕ) (i : ℕ) {marks : Marks} {done : Done} (kept : Kept marks (length s) done) where
  module _ {b q : ℕ} (num : Numerated s i b q) where
    searched : (o : List ℕ) → slash done (before s i) o (drop (i + 1) s) ≡ with_numerator done (before s i) o (drop (i + 1) s) (some (before s q))
    unfolding slash
    searched o = let outside = num.outside in rw (outside, slash) (ap (with_numerator done (before s i) o (drop (i + 1) s)) (ap find_fraction_part_before (sym num.over.left) ∙ num.found))

    pub slash-left : is_left done (before s q) ≡ true → {marks' : Marks} → Kept marks' (length s) (leaving done (before s i)) → Slashed s marks' i done (Ok None)
    slash-left e marked = record { next = leaving done (before s i); kept = marked; decides = λ o. searched o ∙ rw (e, with_numerator); fits = tt }

    module _ (due : is_left done (before s q) ≡ false) {a : ℕ} (under : AheadTo s (i + 1) a (trim_start (drop (i + 1) s))) where
      free-or : (o : List ℕ) {t : Bool} → barred (drop a s) ≡ t
          → slash done (before s i) o (drop (i + 1) s)
          ≡ elim t [ true ↦ none | false ↦ some (with_denominator done (before s i) o (drop (i + 1) s) (before s q) (find_fraction_part_after (trim_start (drop (i + 1) s)))) ]
      free-or o e =
          searched o
          ∙ rw (due, with_numerator) (ap (λ t. elim t [ true ↦ none | false ↦ some (with_denominator done (before s i) o (drop (i + 1) s) (before s q) (find_fraction_part_after (trim_start (drop (i + 1) s)))) ])
          (ap barred (sym under.left) ∙ e))

      pub slash-barred : barred (drop a s) ≡ true → (b : Barred) → Slashed s marks i done (Err b)
      slash-barred e b = record { next = done; kept = kept; decides = λ o. free-or o e; fits = tt }

      module _ (free : barred (drop a s) ≡ false) where
        divided : (o : List ℕ) {d : Option (List ℕ)} → find_fraction_part_after (drop a s) ≡ d
            → slash done (before s i) o (drop (i + 1) s) ≡ some (with_denominator done (before s i) o (drop (i + 1) s) (before s q) d)
        divided o e = free-or o free ∙ ap (λ d. some (with_denominator done (before s i) o (drop (i + 1) s) (before s q) d)) (ap find_fraction_part_after (sym under.left) ∙ e)

        pub slash-alone : find_fraction_part_after (drop a s) ≡ none → Slashed s marks i done (Ok None)
        slash-alone e = record { next = done; kept = kept; decides = λ o. divided o e; fits = tt }

        pub slash-converts :
            {r : ℕ} → i < length s → a ≤ r → r ≤ length s → find_fraction_part_after (drop a s) ≡ some (drop r s)
            → Slashed s marks i done (Ok (Some (record { num = record { start = q; end = b }; den = record { start = a; end = r } })))
        slash-converts {r} inside end within e =
            record {
              next = done;
              kept = kept;
              decides = λ o. divided o e ∙ ap some (same o);
              fits = record { numerator = num.start; before-slash = num.over.to; behind-slash = under.from; denominator = end; within = within };
            }
          where
            same : (o : List ℕ)
                → made done.left o (length (drop (i + 1) s) - length (drop r s)) (reverse (until (trim_start (before s i)) (before s q))) (until (trim_start (drop (i + 1) s)) (drop r s)) (length (before s i) - length (before s q)) (suc (length (before s i)) + (length (drop (i + 1) s) - length (drop r s)))
                ≡ made done.left o (r - (i + 1)) (part q (b - q) s) (part a (r - a) s) (i - q) r
            same o =
                let f = under.from in let t = num.over.to in let u = num.start in
                let n = length-drop (i + 1) s in let m = length-drop r s in
                let k = length_before s i (omega arith) in let l = length_before s q (omega arith) in
                let skip : length (drop (i + 1) s) - length (drop r s) ≡ r - (i + 1) = omega arith in
                let drops : length (before s i) - length (before s q) ≡ i - q = omega arith in
                let rewritten : suc (length (before s i)) + (length (drop (i + 1) s) - length (drop r s)) ≡ r = omega arith in
                made-same done.left o skip
                (ap (λ x. reverse (until x (before s q))) (sym num.over.left) ∙ until-behind s q b num.start (omega arith))
                (ap (λ x. until x (drop r s)) (sym under.left) ∙ until-ahead s a r end within)
                drops
                rewritten

pub slashed-ordered : {s : List ℕ} {marks : Marks} {i : ℕ} {done : Done} {r : Slash} {f : Operands} → Slashed s marks i done r → r ≡ Ok (Some f) → Ordered (length s) i f
slashed-ordered {s} {i = i} d e = subst (SlashFits (length s) i) e d.fits
