-- Laws of the word under the pointer. Assumes nothing.
--     pointed-inside         a place with a letter or a digit lies in the formula
--     latex-here, -behind    the first record has the name, or those behind it are asked
use Rattle.std.specs.Prelude.{◌≡◌, true, false, List, ◌∷◌, ℕ, ◌+◌, ◌<◌, length, get_or}
use Rattle.std.proofs.Common.{sym, ap, ◌∙◌, arith}
use Rattle.std.proofs.lemmas.Bool.{false≢true}
use Rattle.std.proofs.Math.Option.{some}
use Rattle.std.proofs.Math.Decide.{dec_lt}
use Rattle.std.proofs.Math.ListN.{get_or-eq_default}
use Rattle.spec.specs.Symbols.{alnum, same}
use Rattle.spec.specs.Table.{Definition, Form, width}
use Rattle.spec.specs.WordAt.{in_table, latex_place}

pub pointed-inside : (formula : List ℕ) (place : ℕ) → alnum (get_or formula place 0) ≡ true → place < length formula
pointed-inside formula place e = go (dec_lt place (length formula))
  where
    go : Dec (place < length formula) → place < length formula
    go (yes h) = h
    go (no h) = absurd (false≢true (sym (ap alnum (get_or-eq_default formula 0 (omega arith))) ∙ e))

module _ (form : Form) (name : List ℕ) (at : ℕ) (d : Definition) (ds : List Definition) where
  pub latex-here : same name d.name ≡ true → latex_place form name at (d ∷ ds) ≡ some (in_table (at + width form + length d.name) (length d.latex))
  latex-here e = rw (e, latex_place)

  pub latex-behind : same name d.name ≡ false → latex_place form name at (d ∷ ds) ≡ latex_place form name (at + width form + length d.name + length d.latex) ds
  latex-behind e = rw (e, latex_place)
