-- What the rounds of fractions do to the number of slashes: each rewriting takes away one, and nothing adds any. For a rewriting goes only where its
-- numerator begins at or behind the end of the text rewritten last, and what was written since is what was read: so the symbols that are dropped from
-- what was written are the numerator's, and the blanks behind it. Assumes nothing.
--     round-slashes            a round takes away as many slashes as it rewrites
--     round_same               a round that rewrites none gives the text itself; any other has fewer slashes: `round-fewer`
--     leaves-rewrites          a round that leaves a slash has rewritten one, so that it changes the text: `leaves-changes`
--     few-slashes-settle       a text that has no more slashes than there are rounds is not refused by 7
--     one-slash-as-rust        of a text that has at most one slash no round leaves any, so that its rounds are the Rust's
use Rattle.std.specs.Prelude.{◌≡◌, refl, Bool, true, false, cond, ◌||◌, ℕ, zero, suc, ◌+◌, ◌-◌, ◌≤◌, ◌<◌, ltb, length, take, drop}
use Rattle.std.proofs.Common.{sym, ap, ap₂, ◌∙◌, arith, take-take, ltb-true, ltb-false, eqb-true, le-ltb}
use Rattle.std.proofs.lemmas.Bool.{false≢true}
use Rattle.std.proofs.Math.Bool.{and-false}
use mathlib.Core.List.{List, [], ◌∷◌, reverse, reverse_aux}
use Rattle.std.proofs.Math.Option.{Option, none, some}
use Prim.Native.Char.{code}
use Rattle.std.proofs.Math.Seq.{drop-nil}
use Rattle.spec.specs.Symbols.{is, same, until, trim_start}
use Rattle.spec.specs.Result.{Result, passed, refused, most_symbols}
use Rattle.spec.specs.Fractions.{strip_outer_parens, frac, Done, nothing_done, behind_left, is_left, fraction_of, convert_regular_fractions, most_rounds, settle, convert_fractions}
use Rattle.spec.specs.Laws.Booleans.{untrue}
use Rattle.spec.specs.Laws.Names.{same_refl}
use Rattle.stage_laws.specs.RustFractions.{rust_fractions}
use Rattle.stage_laws.specs.LeftSlashes.{leaves, leaves_in_rounds}
use Rattle.stage_laws.proofs.LeftSlashes.{fractions-as-rust}
use Rattle.stage_laws.specs.Slashes.{slashes, slashes-slash, slashes-other, slashes-more, slashes-reverse-onto, slashes-reverse, slashes-cut, slashes-operand, slashes-frac}
use Rattle.stage_laws.proofs.RoundCourse.{rewritings, Course, ends, passes, copies, stops, stays, waits, turns, course}

-- ---- each rewriting takes away one
-- The symbols read behind the end of the text rewritten last are the last that were written. Those that are still passed belong to that text.
record Copied (skip rewritten : ℕ) (p o : List ℕ) : Type 0 where
  passing : skip ≤ rewritten - length p
  alike : take (length p - rewritten) o ≡ take (length p - rewritten) p

one_more : {rewritten : ℕ} {p o : List ℕ} {x y : ℕ} → y ≡ x → Copied 0 rewritten p o → Copied 0 rewritten (x ∷ p) (y ∷ o)
one_more {rewritten} {p} {o} {x} {y} e c = record { passing = omega arith; alike = go (ltb (length p) rewritten) refl }
  where
    go : (b : Bool) → ltb (length p) rewritten ≡ b → take (suc (length p) - rewritten) (y ∷ o) ≡ take (suc (length p) - rewritten) (x ∷ p)
    go true f = let l = ltb-true (length p) rewritten f in let n : suc (length p) - rewritten ≡ 0 = omega arith in rw n
    go false f =
        let l = ltb-false (length p) rewritten f in let n : suc (length p) - rewritten ≡ suc (length p - rewritten) = omega arith in
        rw n (ap₂ (λ z l. z ∷ l) e c.alike)

fraction-slashes : (done : Done) (p o s q r : List ℕ) → done.rewritten ≤ length q → length q ≤ length (trim_start p) → length r ≤ length (trim_start s) → Copied 0 done.rewritten p o
    → slashes (fraction_of done p o s q r).written + slashes (drop (length s - length r) s) ≡ slashes o + slashes s
fraction-slashes done p o s q r h l m c =
    let n = length p - length q in
    let k = length p - done.rewritten in
    let num = reverse (until (trim_start p) q) in let den = until (trim_start s) r in
    let le : n ≤ k = omega arith in
    let same : slashes (take n o) ≡ slashes (take n p) = ap slashes (sym (take-take n k o le) ∙ ap (take n) c.alike ∙ take-take n k p le) in
    let written = slashes-reverse-onto (frac (strip_outer_parens num) (strip_outer_parens den)) (drop n o) in
    let both = slashes-frac num den in
    let turned = slashes-reverse (until (trim_start p) q) in
    let a = slashes-operand p q l in let b = slashes-operand s r m in
    let e = slashes-cut n o in let f = slashes-cut (length s - length r) s in
    omega arith

course-slashes : {skip : ℕ} {done : Done} {p o s : List ℕ} {b : Bool} {n : ℕ} {u : Option (List ℕ)} → Course skip done p o s b n u → Copied skip done.rewritten p o
    → {t : List ℕ} → u ≡ some t → slashes t + n ≡ slashes o + slashes (drop skip s)
course-slashes (ends {skip} {o}) c {t} e =
    let here : reverse o ≡ t = cc in let a = ap slashes here in let b = slashes-reverse o in let d = ap slashes (drop-nil {A = ℕ} skip) in
    omega arith
course-slashes (passes {done} {p} w) c e =
    let z : suc (length p) - done.rewritten ≡ 0 = omega arith in
    course-slashes w (record { passing = omega arith; alike = rw z }) e
course-slashes (copies {x} {o} {s} f w) c e =
    let later = course-slashes w (one_more refl c) e in let a = slashes-other x s f in let b = slashes-other x o f in
    omega arith
course-slashes (stops f) c e = let z : ◌≡◌ {A = ℕ} 0 1 = cc in absurd (omega arith)
course-slashes (stays {x} {s} f w) c e =
    let later = course-slashes w (one_more (sym (eqb-true x (code "/") f)) c) e in let a = slashes-slash x s f in
    omega arith
course-slashes (waits {x} {s} f q g w) c e =
    let later = course-slashes w (one_more (sym (eqb-true x (code "/") f)) c) e in let a = slashes-slash x s f in
    omega arith
course-slashes (turns {done} {x} {p} {o} {s} f q r h l m w) c e =
    let z : suc (length p) - (suc (length p) + (length s - length r)) ≡ 0 = omega arith in
    let later = course-slashes w (record { passing = omega arith; alike = rw z }) e in
    let a = fraction-slashes done p o s q r h l m c in let b = slashes-slash x s f in
    omega arith

pub round-slashes : (s t : List ℕ) → convert_regular_fractions s ≡ some t → slashes t + rewritings s ≡ slashes s
round-slashes s t e = let a = course-slashes (course s) (record { passing = omega arith; alike = refl }) e in omega arith

-- ---- a round that rewrites none
course-same : {skip : ℕ} {done : Done} {p o s : List ℕ} {b : Bool} {n : ℕ} {u : Option (List ℕ)} → Course skip done p o s b n u → skip ≡ 0 → n ≡ 0 → {t : List ℕ} → u ≡ some t → t ≡ reverse_aux o s
course-same ends k e f = cc
course-same (passes w) k e f = absurd (omega arith)
course-same (copies g w) k e f = course-same w refl e f
course-same (stops g) k e f = let z : ◌≡◌ {A = ℕ} 0 1 = cc in absurd (omega arith)
course-same (stays {x} {o} {s} g w) k e f = course-same w refl e f ∙ ap (λ y. reverse_aux o (y ∷ s)) (sym (eqb-true x (code "/") g))
course-same (waits {x} {o} {s} g q h w) k e f = course-same w refl e f ∙ ap (λ y. reverse_aux o (y ∷ s)) (sym (eqb-true x (code "/") g))
course-same (turns g q r h l m w) k e f = absurd (omega arith)

pub round_same : (s t : List ℕ) → convert_regular_fractions s ≡ some t → rewritings s ≡ 0 → t ≡ s
round_same s t e f = course-same (course s) refl f e

-- ---- a round that leaves a slash
nothing_left : (q : List ℕ) → is_left nothing_done q ≡ false
nothing_left q = rw (le-ltb (length q) 0 (omega arith)) (go (trim_start q))
  where
    go : (p : List ℕ) → behind_left [] p ≡ false
    go [] = refl
    go (x ∷ p) = and-false (is "/" x)

course-leaves : {skip : ℕ} {done : Done} {p o s : List ℕ} {b : Bool} {n : ℕ} {u : Option (List ℕ)} → Course skip done p o s b n u → done ≡ nothing_done → b ≡ true → 0 < n
course-leaves ends d e = absurd (false≢true e)
course-leaves (passes w) d e = course-leaves w d e
course-leaves (copies f w) d e = course-leaves w d e
course-leaves (stops f) d e = absurd (false≢true e)
course-leaves (stays f w) d e = course-leaves w d e
course-leaves (waits f q g w) d e = absurd (false≢true (sym (nothing_left q) ∙ ap (λ k. is_left k q) (sym d) ∙ g))
course-leaves (turns f q r h l m w) d e = omega arith

pub leaves-rewrites : (s : List ℕ) → leaves s ≡ true → 0 < rewritings s
leaves-rewrites s e = course-leaves (course s) refl e

pub leaves-changes : (s t : List ℕ) → leaves s ≡ true → convert_regular_fractions s ≡ some t → t ≡ s → ⊥
leaves-changes s t e f same = let a = leaves-rewrites s e in let b = round-slashes s t f in let c = ap slashes same in omega arith

-- ---- few slashes
-- a slash that is left is none of those that are rewritten
course-most : {skip : ℕ} {done : Done} {p o s : List ℕ} {b : Bool} {n : ℕ} {u : Option (List ℕ)} → Course skip done p o s b n u → n + cond b 1 0 ≤ slashes s
course-most ends = omega arith
course-most (passes {x} {s} w) = let later = course-most w in let a = slashes-more x s in omega arith
course-most (copies {x} {s} f w) = let later = course-most w in let a = slashes-other x s f in omega arith
course-most (stops f) = omega arith
course-most (stays {x} {s} f w) = let later = course-most w in let a = slashes-slash x s f in omega arith
course-most (waits {x} {s} f q g w) = let later = course-most w in let a = slashes-slash x s f in omega arith
course-most (turns {x} {s} f q r h l m w) = let later = course-most w in let a = slashes-slash x s f in omega arith

pub leaves-two : (s : List ℕ) → leaves s ≡ true → 2 ≤ slashes s
leaves-two s e = let a = leaves-rewrites s e in let b = course-most (course s) in let c = ap (λ b. cond {A = ℕ} b 1 0) e in omega arith

course-bare : {skip : ℕ} {done : Done} {p o s : List ℕ} {b : Bool} {n : ℕ} {u : Option (List ℕ)} → Course skip done p o s b n u → skip ≡ 0 → slashes s ≡ 0 → u ≡ some (reverse_aux o s)
course-bare ends k e = refl
course-bare (passes w) k e = absurd (omega arith)
course-bare (copies {x} {s} f w) k e = let a = slashes-other x s f in course-bare w refl (omega arith)
course-bare (stops {x} {s} f) k e = let a = slashes-slash x s f in absurd (omega arith)
course-bare (stays {x} {s} f w) k e = let a = slashes-slash x s f in absurd (omega arith)
course-bare (waits {x} {s} f q g w) k e = let a = slashes-slash x s f in absurd (omega arith)
course-bare (turns {x} {s} f q r h l m w) k e = let a = slashes-slash x s f in absurd (omega arith)

pub no-slash-same : (s : List ℕ) → slashes s ≡ 0 → convert_regular_fractions s ≡ some s
no-slash-same s e = course-bare (course s) refl e

-- ---- the rounds
pub round-fewer : (s t : List ℕ) → convert_regular_fractions s ≡ some t → same t s ≡ false → slashes t < slashes s
round-fewer s t e f = go (rewritings s) refl
  where
    go : (n : ℕ) → rewritings s ≡ n → slashes t < slashes s
    go zero g = absurd (false≢true (sym f ∙ ap (λ l. same l s) (round_same s t e g) ∙ same_refl s))
    go (suc n) g = let a = round-slashes s t e in omega arith

pub few-slashes-settle : (k : ℕ) (s : List ℕ) → slashes s ≤ k → settle k s ≡ refused 7 → ⊥
unfolding settle
few-slashes-settle zero s h e =
    let passes : passed s ≡ refused 7 = rw (no-slash-same s (omega arith), settle, same_refl s) at e in
    let z : ◌≡◌ {A = ℕ} 0 1 = cc in omega arith
few-slashes-settle (suc k) s h e = go (convert_regular_fractions s) refl e (few-slashes-settle k)
  where
    go : (o : Option (List ℕ)) → convert_regular_fractions s ≡ o
        → ◌≡◌ {A = Result (List ℕ)}
        (elim o [
          | none ↦ refused 9
          | some t ↦ elim (same t s) [ true ↦ passed s | false ↦ elim (ltb most_symbols (length t)) [ true ↦ refused 5 | false ↦ settle k t ] ]
        ])
        (refused 7)
        → ((t : List ℕ) → slashes t ≤ k → settle k t ≡ refused 7 → ⊥)
        → ⊥
    go none f e later = let z : ◌≡◌ {A = ℕ} 9 7 = cc in omega arith
    go (some t) f e later = changed (same t s) refl (ltb most_symbols (length t)) e
      where
        changed : (b : Bool) → same t s ≡ b → (c : Bool) → ◌≡◌ {A = Result (List ℕ)} (elim b [ true ↦ passed s | false ↦ elim c [ true ↦ refused 5 | false ↦ settle k t ] ]) (refused 7) → ⊥
        changed true g c e = let z : ◌≡◌ {A = ℕ} 0 1 = cc in omega arith
        changed false g true e = let z : ◌≡◌ {A = ℕ} 5 7 = cc in omega arith
        changed false g false e = let l = round-fewer s t f g in later t (omega arith) e

pub few-slashes-fractions : (s : List ℕ) → slashes s ≤ most_rounds → convert_fractions s ≡ refused 7 → ⊥
unfolding convert_fractions
few-slashes-fractions s h e = few-slashes-settle most_rounds s h e

one-slash-stays : (s : List ℕ) → slashes s ≤ 1 → leaves s ≡ false
one-slash-stays s h = untrue (leaves s) (λ e. let l = leaves-two s e in omega arith)

pub one-slash-leaves-none : (k : ℕ) (s : List ℕ) → slashes s ≤ 1 → leaves_in_rounds k s ≡ false
unfolding leaves_in_rounds
one-slash-leaves-none zero s h = one-slash-stays s h
one-slash-leaves-none (suc k) s h = ap₂ ◌||◌ (one-slash-stays s h) (go (convert_regular_fractions s) refl (one-slash-leaves-none k))
  where
    go : (o : Option (List ℕ)) → convert_regular_fractions s ≡ o → ((t : List ℕ) → slashes t ≤ 1 → leaves_in_rounds k t ≡ false)
        → elim o as (λ _. Bool) [ none ↦ false | some t ↦ elim (same t s || ltb most_symbols (length t)) as (λ _. Bool) [ true ↦ false | false ↦ leaves_in_rounds k t ] ] ≡ false
    go none f later = refl
    go (some t) f later = further (same t s || ltb most_symbols (length t))
      where
        further : (b : Bool) → elim b as (λ _. Bool) [ true ↦ false | false ↦ leaves_in_rounds k t ] ≡ false
        further true = refl
        further false = let a = round-slashes s t f in later t (omega arith)

pub one-slash-as-rust : (s : List ℕ) → slashes s ≤ 1 → convert_fractions s ≡ rust_fractions s
one-slash-as-rust s h = fractions-as-rust s (one-slash-leaves-none most_rounds s h)
