-- Laws of results and of stages that pass. Assumes nothing.
--     unrefused       where a test that refuses lets something pass, it is that, and the test fails
--     first_passes    where a stage after another passes, the first one has
--     stage-short     where a stage passes, number 5 has let its text pass
use Rattle.std.specs.Prelude.{◌≡◌, refl, Bool, true, false, cond, List, ℕ, ◌≤◌, ltb, length}
use Rattle.std.proofs.Common.{arith, ltb-false}
use Rattle.spec.specs.Result.{Result, passed, refused, ◌then◌, most_symbols, stage}

pub unpassed : {A : Type 0} {number : ℕ} {x : A} → ◌≡◌ {A = Result A} (refused number) (passed x) → ⊥
unpassed e = let lost : ◌≡◌ {A = ℕ} 0 1 = cc in omega arith

pub unrefused : {A : Type 0} (number : ℕ) (y : A) (b : Bool) {x : A} → cond b (refused number) (passed y) ≡ passed x → (x ≡ y) × (b ≡ false)
unrefused number y true e = absurd (unpassed e)
unrefused number y false e = (cc, refl)

pub record Passing {A : Type 0} (r : Result A) : Type 0 where
  pub value : A
  pub is-passed : r ≡ passed value

pub first_passes : {A B : Type 0} (r : Result A) (f : A → Result B) {x : B} → r then f ≡ passed x → Passing r
first_passes (passed a) f e = record { value = a; is-passed = refl }
first_passes (refused number) f e = absurd (unpassed e)

pub stage-short : (f : List ℕ → List ℕ) (s : List ℕ) {x : List ℕ} → stage f s ≡ passed x → length (f s) ≤ most_symbols
stage-short f s e = ltb-false most_symbols (length (f s)) (unrefused 5 (f s) (ltb most_symbols (length (f s))) e).1
