-- How long two tables with the same records are. Assumes nothing.
--     form-limit     of one form, both have more than 32,768 bytes, or neither has
--     wide-limit     so it is where one is narrow and the other wide, if the wide one, which is longer, is not too long
use Rattle.std.specs.Prelude.{◌≡◌, List, ℕ, ◌+◌, ◌≤◌, ltb, length}
use Rattle.std.proofs.Common.{sym, ◌∙◌, arith, le-ltb}
use Rattle.std.proofs.Math.Path.{ap}
use Rattle.spec.specs.Table.{Form, narrow, wide, form_of, start, most_bytes}
use Rattle.spec.specs.Laws.Table.{bytes_of_records, records-long, bytes-wide, bytes_same}
use Rattle.stage_laws.specs.SameRecords.{SameRecords, SameLimit}

module _ {table table' : List ℕ} (t : SameRecords table table') where
  pub form-limit : form_of table ≡ form_of table' → SameLimit table table'
  form-limit e =
      let form = form_of table' in
      ap (ltb most_bytes)
      (records-long table t.first t.read
      ∙ ap (λ (f : Form). start f + bytes_of_records f t.first) e
      ∙ ap (λ n. start form + n) (bytes_same form t.rearranged)
      ∙ sym (records-long table' t.second t.read'))

  -- the wide form takes its own byte and one more for each record
  pub wide-longer : form_of table ≡ narrow → form_of table' ≡ wide → length table' ≡ length table + 1 + length t.second
  wide-longer e f =
      let a = records-long table t.first t.read ∙ ap (λ (form : Form). start form + bytes_of_records form t.first) e in
      let b = records-long table' t.second t.read' ∙ ap (λ (form : Form). start form + bytes_of_records form t.second) f in
      let c = bytes_same narrow t.rearranged in
      let d = bytes-wide t.second in
      omega arith

  pub wide-limit : form_of table ≡ narrow → form_of table' ≡ wide → length table' ≤ most_bytes → SameLimit table table'
  wide-limit e f short =
      let longer = wide-longer e f in
      le-ltb most_bytes (length table) (omega arith) ∙ sym (le-ltb most_bytes (length table') (omega arith))
