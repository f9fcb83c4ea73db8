-- The record of a name.
--     latex_part        the LaTeX of a record that was read, as a part of the table
--     FindsNamed       what `find_named` ensures
--     finds-named      whether there is one
-- Assumes nothing.
use Rattle.std.specs.Prelude.{◌≡◌, refl, Bool, true, false, ◌||◌, eqb, List, [], ◌∷◌, ℕ, ◌+◌, ◌-◌, length}
use Rattle.std.proofs.Common.{sym, ap, ap₂, ◌∙◌, arith}
use Rattle.std.proofs.Math.Option.{Option, none, some}
use Rattle.std.specs.Cmp.Lexicographic.{pointwise}
use Rattle.spec.specs.Symbols.{is_some, same}
use Rattle.spec.specs.Table.{Definition, Form, form_of, width, named}
use Rattle.spec.specs.WordAt.{WordPart, in_table, latex_place}
use Rattle.spec.specs.Laws.WordAt.{latex-here, latex-behind}
use Rattle.std.specs.Prelude.{Option as Maybe, Some, None, is_some as found_any}
use Rattle.slice_laws.specs.Tests.{pointwise-same}
use Rattle.table.specs.Reading.{Stands, definition_at, name_at, length-name, length-latex}
use Rattle.table.specs.Listed.{listed, Heads}
use Rattle.table.specs.declared.Record.{Record}

abbrev pub latex_part : Maybe Record → Option WordPart
latex_part (Some r) = some (in_table r.latex (r.next - r.latex))
latex_part None = none

pub record FindsNamed (s : List ℕ) (from : ℕ) (name : List ℕ) (r : Maybe Record) : Type 0 where
  pub part : latex_part r ≡ latex_place (form_of s) name from (listed s from)
  pub stands : Stands s r

pub name-tested : (name other : List ℕ) {at : List ℕ} {b t : Bool} → b ≡ pointwise eqb name other → other ≡ at → b ≡ t → same name at ≡ t
name-tested name other tested e f = ap (same name) (sym e) ∙ sym (pointwise-same name other) ∙ sym tested ∙ f

-- ---- one step: the record at a place has the name, or those behind it are asked
module _ {s : List ℕ} {at : ℕ} {r : Record} (h : Heads s at r) (name : List ℕ) where
  latex-at : at + width (form_of s) + length (name_at s r) ≡ r.latex
  latex-at = let p = h.headed in let l = h.lies in let n = length-name l in omega arith

  next-at : at + width (form_of s) + length (name_at s r) + length (definition_at s r).latex ≡ r.next
  next-at = let a = latex-at in let l = h.lies in let n = length-latex l in omega arith

  pub named_here : same name (name_at s r) ≡ true → latex_place (form_of s) name at (listed s at) ≡ latex_part (Some r)
  named_here e =
      ap (latex_place (form_of s) name at) h.first
      ∙ latex-here (form_of s) name at (definition_at s r) (listed s r.next) e
      ∙ ap₂ (λ a n. some (in_table a n)) latex-at (length-latex h.lies)

  pub named-behind : same name (name_at s r) ≡ false → latex_place (form_of s) name at (listed s at) ≡ latex_place (form_of s) name r.next (listed s r.next)
  named-behind e =
      ap (latex_place (form_of s) name at) h.first
      ∙ latex-behind (form_of s) name at (definition_at s r) (listed s r.next) e
      ∙ ap (λ k. latex_place (form_of s) name k (listed s r.next)) next-at

-- ---- whether a record has the name
named-found : (form : Form) (name : List ℕ) (at : ℕ) (ds : List Definition) → is_some (latex_place form name at ds) ≡ named name ds
named-found form name at [] = refl
named-found form name at (d ∷ ds) = go (same name d.name) (named-found form name next ds)
  where
    latex : ℕ
    latex = at + width form + length d.name

    next : ℕ
    next = latex + length d.latex

    go : (t : Bool) → is_some (latex_place form name next ds) ≡ named name ds
        → is_some {A = WordPart} (elim t [ true ↦ some (in_table latex (length d.latex)) | false ↦ latex_place form name next ds ]) ≡ (t || named name ds)
    go true e = refl
    go false e = e

found-part : (r : Maybe Record) → found_any r ≡ is_some (latex_part r)
found-part (Some r) = refl
found-part None = refl

pub finds-named : {s name : List ℕ} {from : ℕ} {r : Maybe Record} → FindsNamed s from name r → found_any r ≡ named name (listed s from)
finds-named {s} {name} {from} {r} f = found-part r ∙ ap is_some f.part ∙ named-found (form_of s) name from (listed s from)
