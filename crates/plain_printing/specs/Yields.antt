-- What a chain of stages yields: where no number refuses it is one thing, and under a condition no number refuses.
--     stage-yields    a stage whose text is known
--     then-yields     one stage after another
--     then-passes     where both pass, the second one does on what the first one yields
use Rattle.std.specs.Prelude.{◌≡◌, refl, cond, List, ℕ, ◌≤◌, ltb, length}
use Rattle.std.proofs.Common.{sym, ap, ◌∙◌, le-ltb}
use Rattle.spec.specs.Result.{Result, passed, refused, ◌then◌, most_symbols, grown, stage}
use Rattle.spec.specs.Held.{held_stage}
use Rattle.spec.specs.Laws.Result.{unpassed, unrefused}
use Rattle.spec.specs.Laws.Held.{unheld, in-full-none}

pub record Yields {A : Type 0} (C : Type 0) (r : Result A) (a : A) : Type 0 where
  pub passes-only : (x : A) → r ≡ passed x → x ≡ a
  pub passes : C → r ≡ passed a

pub passed-yields : {A C : Type 0} (a : A) → Yields C (passed a) a
passed-yields a = record { passes-only = λ x e. cc; passes = λ c. refl }

pub yields-weaken : {A C D : Type 0} {r : Result A} {a : A} → (D → C) → Yields C r a → Yields D r a
yields-weaken f p = record { passes-only = p.passes-only; passes = λ d. p.passes (f d) }

pub then-yields : {A B C : Type 0} (r : Result A) (f : A → Result B) {a : A} {b : B} → Yields C r a → Yields C (f a) b → Yields C (r then f) b
then-yields (passed x) f p q =
    let same : f x ≡ f _ = ap f (p.passes-only x refl) in
    record { passes-only = λ y e. q.passes-only y (sym same ∙ e); passes = λ c. same ∙ q.passes c }
then-yields (refused number) f {a} {b} p q = record { passes-only = λ y e. cc; passes = λ c. lost (p.passes c) }
  where
    lost : ◌≡◌ {A = Result _} (refused number) (passed a) → ◌≡◌ {A = Result _} (refused number) (passed b)
    lost e = cc

pub then-passes : {A B C : Type 0} (r : Result A) (f : A → Result B) {a : A} {x : B} → Yields C r a → r then f ≡ passed x → f a ≡ passed x
then-passes (passed y) f p e = sym (ap f (p.passes-only y refl)) ∙ e
then-passes (refused number) f p e = absurd (unpassed e)

module _ {C : Type 0} where
  grown-yields : {A : Type 0} (s : List ℕ) (a : A) → (C → length s ≤ most_symbols) → Yields C (grown s a) a
  grown-yields s a short =
      record { passes-only = λ x e. (unrefused 5 a (ltb most_symbols (length s)) e).0; passes = λ c. ap (λ b. cond b (refused 5) (passed a)) (le-ltb most_symbols (length s) (short c)) }

  pub stage-yields : (f : List ℕ → List ℕ) (s : List ℕ) {t : List ℕ} → f s ≡ t → (C → length t ≤ most_symbols) → Yields C (stage f s) t
  stage-yields f s {t} e short = rw e (grown-yields t t short)

  pub held-yields : (f : List ℕ → List ℕ) (s : List ℕ) {t : List ℕ} → f s ≡ t → (C → length t ≤ most_symbols) → Yields C (held_stage f (unheld s)) (unheld t)
  held-yields f s {t} e short = rw (e, in-full-none t) (grown-yields t (unheld t) short)
