-- What holds where a reading is taken apart and has no whole record. Assumes nothing.
use Rattle.std.specs.Prelude.{◌≡◌, List, [], ℕ, Some, None, Ok, Err}
use Rattle.std.proofs.Math.Path.{refl}
use Rattle.std.proofs.Common.{◌∙◌, sym, ap}
use Rattle.table.specs.Listed.{listed, listed_by, listed_at}
use Rattle.table.specs.Reading.{Reading, unreadable, Reads}
use Rattle.table.specs.declared.Record.{Record}

pub unless-whole : {A : Type 0} (f : Reading → A) {a : A} → f (Ok None) ≡ a → f unreadable ≡ a → (x : Reading) → ((r : Record) → x ≡ Ok (Some r) → ⊥) → f x ≡ a
unless-whole f e p (Ok (Some r)) other = absurd (other r refl)
unless-whole f e p (Ok None) other = e
unless-whole f e p (Err u) other = p

pub listed-none : {s : List ℕ} {at : ℕ} {x : Reading} → Reads s at x → ((r : Record) → x ≡ Ok (Some r) → ⊥) → listed s at ≡ []
listed-none {s} {at} {x} reads other = listed_at s at ∙ ap (listed_by s) (sym reads.read) ∙ unless-whole (listed_by s) refl refl x other
