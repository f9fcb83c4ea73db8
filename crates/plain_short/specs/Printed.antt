-- What has been printed: texts with a newline at each end, one behind another in a buffer of 65,536 bytes. Assumes nothing.
--     PrintedRoom    what a function on the buffer asks, and ensures: so many bytes of it are in use
--     Added          a text was new and stands behind those before it, which are as they were
--     PrintedKept    it was added if more is in use than before
use Rattle.std.specs.Prelude.{◌≡◌, refl, ℕ, ◌+◌, ◌-◌, ◌<◌, ◌≤◌, false, List, length}
use Rattle.std.proofs.Common.{inl, zero-add, arith}
use Rattle.spec.specs.Symbols.{contains}
use Rattle.text_symbols.specs.Parts.{part}
use Rattle.text.specs.declared.writer.Writer.{Writer}
use Rattle.text.specs.Writer.{Appended, appended-long, appended-part}
use Rattle.text.specs.Written.{appended-text}

pub record PrintedRoom (printed : List ℕ) (used : ℕ) : Type 0 where
  pub long : length printed ≡ 65536
  pub within : used ≤ 65536

pub record Added (printed printed' : List ℕ) (used : ℕ) (s : List ℕ) : Type 0 where
  pub fresh : contains s printed ≡ false
  pub before : part 0 used printed' ≡ part 0 used printed
  pub text-added : part used (length s) printed' ≡ s

pub record PrintedKept (printed printed' : List ℕ) (used used' : ℕ) (s : List ℕ) : Type 0 where
  pub room : PrintedRoom printed' used'
  pub added : used < used' → Added printed printed' used s

pub nothing-kept : {printed : List ℕ} {used : ℕ} {s : List ℕ} → PrintedRoom printed used → PrintedKept printed printed used used s
nothing-kept r = record { room = r; added = λ more. absurd (omega arith) }

pub all-kept :
    {printed printed' : List ℕ} {used : ℕ} {o : Writer} {s : List ℕ} → PrintedRoom printed used → contains s printed ≡ false → length s ≤ 65536 - used
    → Appended printed printed' (record { to = used; cap = length s; count = 0 }) o s → PrintedKept printed printed' used (used + length s) s
all-kept {used = used} {s = s} r fresh h a =
    let l = appended-long a in
    let long = r.long in
    let within = r.within in
    let all : part used (length s) _ ≡ s = rw (a.same-place, a.counted, zero-add) at (appended-text a refl (omega arith) (omega (arith, a.counted))) in
    record {
      room = record { long = omega arith; within = omega arith };
      added = λ more. record { fresh = fresh; before = appended-part a 0 used (inl (omega arith)); text-added = all };
    }
