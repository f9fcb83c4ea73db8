-- What the exported numbers mean. Assumes nothing.
--     result_of         0 and a byte count, or document 01's number of a refusal and 0
--     plain_answer_of    yes and an atom count, or no and 0
--     part_coded        whether a part lies in the table, its place and its length
--     Ordered          what a part needs, so that it has a length
use Rattle.std.specs.Prelude.{◌≡◌, refl, Bool, true, false, List, ℕ, zero, suc, ◌<◌, ◌≤◌}
use Rattle.std.proofs.Common.{sym, ap, ◌∙◌, arith}
use Rattle.spec.specs.Result.{Result, passed, refused}
use Rattle.spec.specs.WordAt.{WordPart, in_formula, in_table}
use Rattle.text.specs.Stage.{number, number-between}
use Rattle.text.specs.declared.Refusal.{Refusal}
use Rattle.std.specs.Prelude.{Option as Maybe, Some, None, Ok, Err}
use Rattle.word_at.specs.Parts.{Found, Inside, FindsWord}
use Rattle.word_at.specs.declared.WordPlace.TheVariants.{InFormula, InTable}

abbrev pub result_of : ℕ → ℕ → Result ℕ
result_of zero count = passed count
result_of (suc k) count = refused (suc k)

abbrev pub plain_answer_of : Bool → ℕ → Maybe ℕ
plain_answer_of true atoms = Some atoms
plain_answer_of false atoms = None

abbrev pub part_coded : Bool → ℕ → ℕ → WordPart
part_coded true start length = in_table start length
part_coded false start length = in_formula start length

-- a part does not end before it begins
abbrev pub Ordered : Found → Type 0
Ordered (Ok (InFormula w)) = w.start ≤ w.end
Ordered (Ok (InTable w)) = w.start ≤ w.end
Ordered (Err why) = Unit {0}

pub found-ordered : {formula table : List ℕ} {part : Result WordPart} {w : Found} → FindsWord formula table part w → Ordered w
found-ordered {formula} {table} {w = w} f = go w f.lies
  where
    go : (w : Found) → Inside formula table w → Ordered w
    go (Ok (InFormula w)) h = h.order
    go (Ok (InTable w)) h = h.order
    go (Err why) h = tt

-- no refusal has the number 0
pub refusal-coded : (why : Refusal) {r : ℕ} (count : ℕ) → r ≡ number why → refused (number why) ≡ result_of r count
refusal-coded why {r} count e = ap refused (sym e) ∙ go r (let some = (number-between why).0 in omega arith)
  where
    go : (r : ℕ) → 0 < r → refused r ≡ result_of r count
    go zero some = absurd (omega arith)
    go (suc k) some = refl
