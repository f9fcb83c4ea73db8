-- How parts that were read make a larger one. Assumes nothing.
--     leaf, join, with_scripts, wrap, as_script     of parts
--     found, adjoined, behind, divided, scripted, closed, enclosed_script   the same where there may be nothing, with what the rules forbid
--     JoinFits, FitBehind, ReadWithin                            what keeps counts small
use Rattle.std.specs.Prelude.{Option, Some, None, Bool, true, false, ◌&&◌, ◌||◌, List, ℕ, ◌+◌, ◌≤◌, ◌<◌, ◌^◌, ltb, length, get_or}
use Rattle.spec.specs.Symbols.{is}
use Rattle.plain_parts.specs.declared.PlainPart.{PlainPart}

-- what a reader answers
abbrev pub Read : Type 0
Read = Option PlainPart

-- the symbol at i, and 0 past the end
abbrev pub at : List ℕ → ℕ → ℕ
at xs i = get_or xs i 0

abbrev pub bytes_of : Read → ℕ
bytes_of None = 0
bytes_of (Some p) = p.used

abbrev pub atoms_of : Read → ℕ
atoms_of None = 0
atoms_of (Some p) = p.atoms

-- the bytes and the atoms of two parts with a gap between them are machine numbers
pub record JoinFits (p : PlainPart) (gap : ℕ) (r : Read) : Type 0 where
  pub bytes : p.used + gap + bytes_of r < 2 ^ 64
  pub atoms : p.atoms + atoms_of r < 2 ^ 64

-- the same where there may be nothing in front
abbrev pub FitBehind : Read → ℕ → Read → Type 0
FitBehind None gap r = Unit {0}
FitBehind (Some p) gap r = JoinFits p gap r

-- what was read lies in the text, and its atoms among its bytes
pub record ReadWithin (r : Read) (xs : List ℕ) : Type 0 where
  pub bytes : bytes_of r ≤ length xs
  pub atoms : atoms_of r ≤ bytes_of r

-- one answer or the other; only the one that is chosen is computed
abbrev pub either : Bool → (Unit {0} → Read) → (Unit {0} → Read) → Read
either true a b = a tt
either false a b = b tt

abbrev pub and_then : Read → (PlainPart → Read) → Read
and_then None f = None
and_then (Some p) f = f p

-- ---- parts
-- no more than its bytes: an atom, a script of one symbol, or a script that is not there
abbrev pub leaf : ℕ → ℕ → Bool → PlainPart
leaf n atoms scriptless = record { used = n; atoms = atoms; lone = ltb 0 atoms; wrapped = false; scriptless = scriptless }

abbrev pub join : PlainPart → ℕ → PlainPart → PlainPart
join p gap q =
    record {
      used = p.used + gap + q.used;
      atoms = p.atoms + q.atoms;
      lone = false;
      wrapped = false;
      scriptless = p.scriptless && q.scriptless;
    }

abbrev pub with_scripts : PlainPart → PlainPart → PlainPart
with_scripts p q = record { used = p.used + q.used; atoms = p.atoms + q.atoms; lone = q.scriptless; wrapped = false; scriptless = q.scriptless }

abbrev pub wrap : PlainPart → PlainPart
wrap p = record { used = p.used + 2; atoms = p.atoms; lone = false; wrapped = p.lone; scriptless = p.scriptless }

abbrev pub as_script : PlainPart → PlainPart
as_script p = record { used = p.used + 1; atoms = p.atoms; lone = false; wrapped = false; scriptless = false }

-- ---- what is forbidden, and where there is nothing
abbrev pub found : PlainPart → Read
found p = Some p

abbrev pub adjoined : PlainPart → ℕ → Read → Read
adjoined p gap r = and_then r λ q. Some (join p gap q)

abbrev pub behind : Read → ℕ → Read → Read
behind None gap r = r
behind (Some p) gap r = adjoined p gap r

-- one of the operands is an atom in parentheses
abbrev pub indivisible : PlainPart → PlainPart → Bool
indivisible p q = p.wrapped || q.wrapped

abbrev pub divided : PlainPart → Read → Read
divided p r = and_then r λ q. either (indivisible p q) (λ _. None) (λ _. Some (join p 1 q))

abbrev pub scripted : PlainPart → Read → Read
scripted p r = and_then r λ q. Some (with_scripts p q)

abbrev pub closed : List ℕ → Read → Read
closed xs r = and_then r λ p. either (is ")" (at xs p.used)) (λ _. Some (wrap p)) (λ _. None)

abbrev pub enclosed_script : Read → Read
enclosed_script r = and_then r λ p. either p.scriptless (λ _. Some (as_script p)) (λ _. None)
