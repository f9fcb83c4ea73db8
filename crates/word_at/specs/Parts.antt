-- What the functions ensure. Assumes nothing.
--     meaning      where a word was found, by the definition's parts and numbers
--     FindsWord    an equation with the definition, and the part lies in its slice
--     PartOf       one slice is a part of another: it lies there in memory, and holds what stands there
--     HandsBack    the part of the formula, or of the table
use Rattle.std.specs.Prelude.{◌≡◌, List, ℕ, ◌+◌, ◌-◌, take, drop, Result as Either, Ok, Err}
use Rattle.std.specs.Borrow.{Bor}
use Rattle.spec.specs.Result.{Result, passed, refused}
use Rattle.spec.specs.WordAt.{WordPart, in_formula, in_table}
use Rattle.text_symbols.specs.Trim.{Within}
use Rattle.text.specs.Stage.{number}
use Rattle.text.specs.declared.Refusal.{Refusal}
use Rattle.word_at.specs.declared.WordPlace.{WordPlace}
use Rattle.word_at.specs.declared.WordPlace.TheVariants.{InFormula, InTable}

-- where a word was found, or why there is none
abbrev pub Found : Type 0
Found = Either WordPlace Refusal

abbrev pub meaning : Found → Result WordPart
meaning (Ok (InFormula w)) = passed (in_formula w.start (w.end - w.start))
meaning (Ok (InTable w)) = passed (in_table w.start (w.end - w.start))
meaning (Err why) = refused (number why)

abbrev pub Inside : List ℕ → List ℕ → Found → Type 0
Inside formula table (Ok (InFormula w)) = Within formula w
Inside formula table (Ok (InTable w)) = Within table w
Inside formula table (Err why) = Unit {0}

pub record FindsWord (formula table : List ℕ) (part : Result WordPart) (w : Found) : Type 0 where
  pub answers : meaning w ≡ part
  pub lies : Inside formula table w

-- the n bytes of s that begin at a place: no copy is a part, since it lies elsewhere
pub record PartOf (s : Bor (List ℕ)) (at n : ℕ) (r : Bor (List ℕ)) : Type 0 where
  pub place : r.ref_ptr ≡ (s.ref_ptr.0, at + s.ref_ptr.1)
  pub bytes : r.now ≡ take n (drop at s.now)

abbrev pub HandsBack : Bor (List ℕ) → Bor (List ℕ) → WordPart → Bor (List ℕ) → Type 0
HandsBack formula table (in_formula at n) r = PartOf formula at n r
HandsBack formula table (in_table at n) r = PartOf table at n r
