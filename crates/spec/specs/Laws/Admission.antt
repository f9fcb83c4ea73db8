-- Admission by cases, written here once: what makes each number, and what is known of an admitted formula. Assumes nothing.
--     Refusal           a number, with what makes admission refuse by it
--     Admitted          what holds where it does not refuse
--     admission         every call has one of the two
--     admitted-passed   a formula that is admitted is not changed
--     admitted-alike    calls come to the same if what follows admission does the same with the formula
use Rattle.std.specs.Prelude.{◌≡◌, refl, Bool, true, false, List, [], ℕ, ◌≤◌, ◌<◌, ltb, length}
use Rattle.std.proofs.Common.{sym, ap, ◌∙◌, ltb-true, ltb-false}
use Rattle.std.proofs.Math.Option.{Option, none, some, get_or}
use Rattle.spec.specs.Symbols.{foreign, any}
use Rattle.spec.specs.Result.{Result, passed, refused, ◌then◌}
use Rattle.spec.specs.Table.{Definition, definitions}
use Rattle.spec.specs.Finish.{all_tall}
use Rattle.spec.specs.Pipeline.{most_formula, least_work, definitions_or, readable, admitted}
use Rattle.spec.specs.Laws.Result.{unpassed}

-- each number also has what the tests before its own found
pub data Refusal (formula table : List ℕ) (field : ℕ) (work : List ℕ) : ℕ → Type 0 where
  narrow-work : length work < least_work → Refusal formula table field work 4
  unknown-field : least_work ≤ length work → all_tall < field → Refusal formula table field work 15
  too_long : least_work ≤ length work → field ≤ all_tall → most_formula < length formula → Refusal formula table field work 2
  foreign-byte : least_work ≤ length work → field ≤ all_tall → length formula ≤ most_formula → any foreign formula ≡ true → Refusal formula table field work 1
  unreadable : least_work ≤ length work → field ≤ all_tall → length formula ≤ most_formula → any foreign formula ≡ false → definitions table ≡ none → Refusal formula table field work 3

pub record Admitted (formula table : List ℕ) (field : ℕ) (work : List ℕ) : Type 0 where
  pub work-wide : least_work ≤ length work
  pub field-known : field ≤ all_tall
  pub short : length formula ≤ most_formula
  pub no-foreign : any foreign formula ≡ false
  pub read : definitions table ≡ some (definitions_or table)

pub data Admission (formula table : List ℕ) (field : ℕ) (work : List ℕ) : Result (List ℕ) → Type 0 where
  not-admitted : {number : ℕ} → Refusal formula table field work number → Admission formula table field work (refused number)
  is-admitted : Admitted formula table field work → Admission formula table field work (passed formula)

module _ (formula table : List ℕ) (field : ℕ) (work : List ℕ) where
  pub admission : Admission formula table field work (admitted formula table field work)
  admission = go (ltb (length work) least_work) (ltb all_tall field) (ltb most_formula (length formula)) (any foreign formula) (definitions table) refl refl refl refl refl
    where
      through : Bool → Bool → Bool → Bool → Option (List Definition) → Result (List ℕ)
      through a b c d o =
          elim a [ true ↦ refused 4 | false ↦ elim b [ true ↦ refused 15 | false ↦ elim c [ true ↦ refused 2 | false ↦ elim d [ true ↦ refused 1 | false ↦ readable formula o ] ] ] ]

      go : (a b c d : Bool) (o : Option (List Definition))
          → ltb (length work) least_work ≡ a → ltb all_tall field ≡ b → ltb most_formula (length formula) ≡ c → any foreign formula ≡ d → definitions table ≡ o
          → Admission formula table field work (through a b c d o)
      go true b c d o p q r s t = not-admitted (narrow-work (ltb-true _ _ p))
      go false true c d o p q r s t = not-admitted (unknown-field (ltb-false _ _ p) (ltb-true _ _ q))
      go false false true d o p q r s t = not-admitted (too_long (ltb-false _ _ p) (ltb-false _ _ q) (ltb-true _ _ r))
      go false false false true o p q r s t = not-admitted (foreign-byte (ltb-false _ _ p) (ltb-false _ _ q) (ltb-false _ _ r) s)
      go false false false false none p q r s t = not-admitted (unreadable (ltb-false _ _ p) (ltb-false _ _ q) (ltb-false _ _ r) s t)
      go false false false false (some ds) p q r s t =
          is-admitted (record {
            work-wide = ltb-false _ _ p;
            field-known = ltb-false _ _ q;
            short = ltb-false _ _ r;
            no-foreign = s;
            read = t ∙ ap some (sym (ap (λ (o : Option (List Definition)). get_or o []) t));
          })

  pub admitted-passed : {x : List ℕ} → admitted formula table field work ≡ passed x → (x ≡ formula) × Admitted formula table field work
  admitted-passed {x} = go admission
    where
      go : {r : Result (List ℕ)} → Admission formula table field work r → r ≡ passed x → (x ≡ formula) × Admitted formula table field work
      go (not-admitted n) e = absurd (unpassed e)
      go (is-admitted a) e = (cc, a)

  pub admitted-alike : (f g : List ℕ → Result (List ℕ)) → f formula ≡ g formula → (admitted formula table field work then f) ≡ (admitted formula table field work then g)
  admitted-alike f g alike = go admission
    where
      go : {r : Result (List ℕ)} → Admission formula table field work r → (r then f) ≡ (r then g)
      go (not-admitted n) = refl
      go (is-admitted a) = alike
