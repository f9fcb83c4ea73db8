-- Where no round leaves a slash, fractions are the Rust's. Assumes nothing.
--     leaves               a round leaves some slash of this text
--     leaves_in_rounds       one of its rounds does, and be it the last, which is only asked whether it would change the text
--     round-as-rust        a round that leaves none is the Rust's
--     fractions-as-rust    so are all rounds of which none does
use Rattle.std.specs.Prelude.{◌≡◌, refl, Bool, true, false, not, ◌&&◌, ◌||◌, List, [], ◌∷◌, ℕ, zero, suc, ltb, length}
use Rattle.std.proofs.Math.Option.{Option, none, some}
use Prim.Native.Char.{code}
use Rattle.spec.specs.Symbols.{is, same, trim_start}
use Rattle.spec.specs.Result.{Result, passed, refused, most_symbols}
use Rattle.spec.specs.Fractions.{is_inside_subscript_context, find_fraction_part_before, find_fraction_part_after, barred, Done, nothing_done, is_left, Step, copied, leaving, with_denominator, with_numerator, slash, fractions_from, convert_regular_fractions, most_rounds, settle, convert_fractions}
use Rattle.spec.specs.Laws.Booleans.{or-neither}
use Rattle.stage_laws.specs.RustFractions.{RustStep, rust_copied, rust_with_denominator, rust_with_numerator, rust_slash, rust_fractions_from, rust_regular_fractions, rust_settle, rust_fractions}
use Rattle.stage_laws.specs.LeftSlashes.{left_with, left_at, leaves_from, leaves, leaves_in_rounds}

-- ---- one round
-- a step without what the round has done
abbrev as_rust : Option Step → Option RustStep
as_rust none = none
as_rust (some t) = some (record { skip = t.skip; written = t.written })

slash-as-rust : (done : Done) (p o s : List ℕ) → left_at done p ≡ false → as_rust (slash done p o s) ≡ rust_slash p o s
unfolding slash rust_slash
slash-as-rust done p o s e = go (is_inside_subscript_context 0 p) (find_fraction_part_before (trim_start p)) e
  where
    divided : (b : Bool) (d : Option (List ℕ)) (q : List ℕ)
        → as_rust (elim b as (λ _. Option Step) [ true ↦ none | false ↦ some (with_denominator done p o s q d) ])
        ≡ elim b as (λ _. Option RustStep) [ true ↦ none | false ↦ some (rust_with_denominator p o s q d) ]
    divided true d q = refl
    divided false none q = refl
    divided false (some r) q = refl

    taken : (b : Bool) (q : List ℕ) → b ≡ false
        → as_rust (elim b as (λ _. Option Step) [
          | true ↦ some (copied (leaving done p) (code "/") o)
          | false ↦ elim (barred (trim_start s)) as (λ _. Option Step) [ true ↦ none | false ↦ some (with_denominator done p o s q (find_fraction_part_after (trim_start s))) ]
        ])
        ≡ rust_with_numerator p o s (some q)
    taken b q e = rw e (divided (barred (trim_start s)) (find_fraction_part_after (trim_start s)) q)

    go : (b : Bool) (o' : Option (List ℕ)) → not b && left_with done o' ≡ false
        → as_rust (elim b as (λ _. Option Step) [ true ↦ some (copied done (code "/") o) | false ↦ with_numerator done p o s o' ])
        ≡ elim b as (λ _. Option RustStep) [ true ↦ some (rust_copied (code "/") o) | false ↦ rust_with_numerator p o s o' ]
    go true n e = refl
    go false none e = refl
    go false (some q) e = taken (is_left done q) q e

from-as-rust : (s : List ℕ) (skip : ℕ) (done : Done) (p o : List ℕ) → leaves_from skip done p o s ≡ false → fractions_from skip done p o s ≡ rust_fractions_from skip p o s
unfolding leaves_from fractions_from rust_fractions_from
from-as-rust [] skip done p o e = refl
from-as-rust (x ∷ s) (suc skip) done p o e = from-as-rust s skip done (x ∷ p) o e
from-as-rust (x ∷ s) zero done p o e = go (is "/" x) refl (λ t. from-as-rust s t.skip t.done (x ∷ p) t.written) (from-as-rust s 0 done (x ∷ p) (x ∷ o))
  where
    rest : (u : Option Step)
        → ((t : Step) → leaves_from t.skip t.done (x ∷ p) t.written s ≡ false → fractions_from t.skip t.done (x ∷ p) t.written s ≡ rust_fractions_from t.skip (x ∷ p) t.written s)
        → elim u as (λ _. Bool) [ none ↦ false | some t ↦ leaves_from t.skip t.done (x ∷ p) t.written s ] ≡ false
        → ◌≡◌ {A = Option (List ℕ)} (elim u [ none ↦ none | some t ↦ fractions_from t.skip t.done (x ∷ p) t.written s ])
        (elim (as_rust u) [ none ↦ none | some t ↦ rust_fractions_from t.skip (x ∷ p) t.written s ])
    rest none later e = refl
    rest (some t) later e = later t e

    go : (b : Bool) → is "/" x ≡ b
        → ((t : Step) → leaves_from t.skip t.done (x ∷ p) t.written s ≡ false → fractions_from t.skip t.done (x ∷ p) t.written s ≡ rust_fractions_from t.skip (x ∷ p) t.written s)
        → (leaves_from 0 done (x ∷ p) (x ∷ o) s ≡ false → fractions_from 0 done (x ∷ p) (x ∷ o) s ≡ rust_fractions_from 0 (x ∷ p) (x ∷ o) s)
        → fractions_from 0 done p o (x ∷ s) ≡ rust_fractions_from 0 p o (x ∷ s)
    go true f later past =
        let both = or-neither (left_at done p) _ (rw (f, leaves_from) at e) in
        rw (f, fractions_from, rust_fractions_from, ← slash-as-rust done p o s both.0) (rest (slash done p o s) later both.1)
    go false f later past = rw (f, fractions_from, rust_fractions_from) (past (rw (f, leaves_from) at e))

pub round-as-rust : (s : List ℕ) → leaves s ≡ false → convert_regular_fractions s ≡ rust_regular_fractions s
unfolding leaves convert_regular_fractions rust_regular_fractions
round-as-rust s e = from-as-rust s 0 nothing_done [] [] e

-- ---- all rounds
settle-as-rust : (k : ℕ) (s : List ℕ) → leaves_in_rounds k s ≡ false → settle k s ≡ rust_settle k s
unfolding leaves_in_rounds settle rust_settle
settle-as-rust zero s e = rw (← round-as-rust s e, rust_settle)
settle-as-rust (suc k) s e =
    let both = or-neither (leaves s) _ e in
    rw (← round-as-rust s both.0, rust_settle) (go (convert_regular_fractions s) both.1 (settle-as-rust k))
  where
    go : (o : Option (List ℕ))
        → elim o as (λ _. Bool) [ none ↦ false | some t ↦ elim (same t s || ltb most_symbols (length t)) as (λ _. Bool) [ true ↦ false | false ↦ leaves_in_rounds k t ] ] ≡ false
        → ((t : List ℕ) → leaves_in_rounds k t ≡ false → settle k t ≡ rust_settle k t)
        → ◌≡◌ {A = Result (List ℕ)}
        (elim o [
          | none ↦ refused 9
          | some t ↦ elim (same t s) [ true ↦ passed s | false ↦ elim (ltb most_symbols (length t)) [ true ↦ refused 5 | false ↦ settle k t ] ]
        ])
        (elim o [
          | none ↦ refused 9
          | some t ↦ elim (same t s) [ true ↦ passed s | false ↦ elim (ltb most_symbols (length t)) [ true ↦ refused 5 | false ↦ rust_settle k t ] ]
        ])
    go none e later = refl
    go (some t) e later = changed (same t s) (ltb most_symbols (length t)) e
      where
        changed : (b c : Bool) → elim (b || c) as (λ _. Bool) [ true ↦ false | false ↦ leaves_in_rounds k t ] ≡ false
            → ◌≡◌ {A = Result (List ℕ)} (elim b [ true ↦ passed s | false ↦ elim c [ true ↦ refused 5 | false ↦ settle k t ] ])
            (elim b [ true ↦ passed s | false ↦ elim c [ true ↦ refused 5 | false ↦ rust_settle k t ] ])
        changed true c e = refl
        changed false true e = refl
        changed false false e = later t e

pub fractions-as-rust : (s : List ℕ) → leaves_in_rounds most_rounds s ≡ false → convert_fractions s ≡ rust_fractions s
unfolding convert_fractions rust_fractions
fractions-as-rust s e = settle-as-rust most_rounds s e
