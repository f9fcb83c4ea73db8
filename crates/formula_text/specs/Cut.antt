-- Reading stops one byte behind the limits of a formula and of a table, and what is converted is the same as of the whole. Assumes nothing.
--     past_formula, ..    how much is read
--     converted-cut      a call on what was read is converted as a call on all that there is to read
use Rattle.std.specs.Prelude.{◌≡◌, refl, Bool, true, false, List, [], ◌∷◌, ℕ, ◌+◌, ◌<◌, ltb, length, take}
use Rattle.std.proofs.Common.{sym, ap, ap₂, ◌∙◌, arith, length-take, take_all, lt-ltb, ltb-true, ltb-false}
use Rattle.std.proofs.Math.Option.{Option, none, get_or}
use Rattle.spec.specs.Result.{Result, refused, ◌then◌}
use Rattle.spec.specs.Table.{Definition, definitions, most_bytes}
use Rattle.spec.specs.Program.{first_line, formula_of}
use Rattle.spec.specs.Laws.Table.{admitted-same}
use Rattle.spec.specs.Finish.{all_tall}
use Rattle.spec.specs.Pipeline.{most_formula, least_work, readable, checked, admitted, typst_to_latex, fitting, converted}

-- one byte more than a formula, an input (a first line, then the formula) and a table may have
abbrev pub past_formula : ℕ
past_formula = most_formula + 1

abbrev pub past_input : ℕ
past_input = 2 + past_formula

abbrev pub past_table : ℕ
past_table = most_bytes + 1

-- ---- an input
pub first-cut : (s : List ℕ) → first_line (take past_input s) ≡ first_line s
first-cut [] = refl
first-cut (b ∷ []) = refl
first-cut (b ∷ c ∷ s) = refl

pub formula-cut : (s : List ℕ) → formula_of (take past_input s) ≡ take past_formula (formula_of s)
formula-cut [] = refl
formula-cut (b ∷ []) = refl
formula-cut (b ∷ c ∷ s) = refl

-- ---- a formula and a table
-- a text cut behind a limit is whole, or beyond the limit as the whole is
data Cut (most : ℕ) (s t : List ℕ) : Type 0 where
  whole : t ≡ s → Cut most s t
  beyond : most < length s → most < length t → Cut most s t

cut : (most : ℕ) (s : List ℕ) → Cut most s (take (most + 1) s)
cut most s = go (ltb (most + 1) (length s)) refl
  where
    go : (b : Bool) → ltb (most + 1) (length s) ≡ b → Cut most s (take (most + 1) s)
    go true e = let h = ltb-true (most + 1) (length s) e in beyond (omega arith) (simp length-take (omega arith))
    go false e = whole (take_all (most + 1) s (ltb-false (most + 1) (length s) e))

long-faulty : (table : List ℕ) → most_bytes < length table → definitions table ≡ none
unfolding definitions
long-faulty table h = rw (lt-ltb most_bytes (length table) h, definitions)

cut-definitions : {table read : List ℕ} → Cut most_bytes table read → definitions read ≡ definitions table
cut-definitions (whole e) = ap definitions e
cut-definitions {table} {read} (beyond h k) = long-faulty read k ∙ sym (long-faulty table h)

pub definitions-cut : (table : List ℕ) → definitions (take past_table table) ≡ definitions table
definitions-cut table = cut-definitions (cut most_bytes table)

long-refused : (formula table : List ℕ) → most_formula < length formula → checked formula table ≡ refused 2
long-refused formula table h = rw (lt-ltb most_formula (length formula) h, checked)

admitted-cut :
    {formula front : List ℕ} (table read : List ℕ) (field : ℕ) (work : List ℕ) → Cut most_formula formula front → definitions read ≡ definitions table
    → admitted front read field work ≡ admitted formula table field work
admitted-cut {formula} table read field work (whole e) d = ap (λ (s : List ℕ). admitted s read field work) e ∙ admitted-same formula read table field work (ap (readable formula) d)
admitted-cut {formula} {front} table read field work (beyond h k) d =
    ap (λ r. elim (ltb (length work) least_work) as (λ _. Result (List ℕ)) [ true ↦ refused 4 | false ↦ elim (ltb all_tall field) as (λ _. Result (List ℕ)) [ true ↦ refused 15 | false ↦ r ] ])
    (long-refused front read k ∙ sym (long-refused formula table h))

pub converted-cut :
    (formula table : List ℕ) (display : Bool) (field : ℕ) (work output : List ℕ)
    → converted (take past_formula formula) (take past_table table) display field work output ≡ converted formula table display field work output
unfolding converted
converted-cut formula table display field work output =
    ap₂ (λ (r : Result (List ℕ)) (o : Option (List Definition)). r then typst_to_latex (get_or o []) display field then fitting output)
    (admitted-cut table (take past_table table) field work (cut most_formula formula) (definitions-cut table)) (definitions-cut table)
