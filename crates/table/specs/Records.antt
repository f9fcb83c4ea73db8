-- Laws of `records_in`: what the first header says of all records behind it. Assumes nothing.
use Rattle.std.specs.Prelude.{◌≡◌, refl, List, [], ◌∷◌, ℕ, zero, suc, ◌+◌, ◌≤◌, ◌<◌, length, drop}
use Rattle.std.proofs.Common.{ap, arith, length-drop}
use Rattle.std.proofs.Math.Option.{Option, none, some}
use Rattle.spec.specs.Table.{Definition, Form, width, Lengths, lengths_of, record-before, records_behind, records_with, records_in}
use Rattle.spec.specs.Laws.Table.{width_some}

-- what follows the first record is shorter
behind-alike :
    (form : Form) (x : ℕ) (s : List ℕ) {f g : List ℕ → Option (List Definition)} → ((t : List ℕ) → length t ≤ length s → f t ≡ g t) → (o : Option Lengths)
    → records_behind form (x ∷ s) f o ≡ records_behind form (x ∷ s) g o
behind-alike form x s alike none = refl
behind-alike form x s alike (some l) =
    let rest = drop (width form) (x ∷ s) in
    let some-header = width_some form in let a = length-drop (width form) (x ∷ s) in let b = length-drop (l.name + l.latex) rest in
    ap (record-before l rest) (alike (drop (l.name + l.latex) rest) (omega arith))

-- two bounds on the number of records that are both high enough
enough : (form : Form) (k m : ℕ) (s : List ℕ) → length s ≤ k → length s ≤ m → records_with form k s ≡ records_with form m s
unfolding records_with
enough form zero zero s h g = refl
enough form zero (suc m) [] h g = refl
enough form zero (suc m) (x ∷ s) h g = absurd (omega arith)
enough form (suc k) zero [] h g = refl
enough form (suc k) zero (x ∷ s) h g = absurd (omega arith)
enough form (suc k) (suc m) [] h g = refl
enough form (suc k) (suc m) (x ∷ s) h g = behind-alike form x s (λ t short. enough form k m t (omega arith) (omega arith)) (lengths_of form (x ∷ s))

pub records-none : (form : Form) → records_in form [] ≡ some []
unfolding records_in records_with
records-none form = refl

pub records-some : (form : Form) (s : List ℕ) → 0 < length s → records_in form s ≡ records_behind form s (records_in form) (lengths_of form s)
unfolding records_in records_with
records-some form [] h = absurd (omega arith)
records-some form (x ∷ s) h = behind-alike form x s (λ t short. enough form (length s) (length t) t short (omega arith)) (lengths_of form (x ∷ s))
