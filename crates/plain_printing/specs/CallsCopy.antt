-- The call rewritings, `sqrt`, `\text` scripts, `lr` and alignment on a text without their patterns.
use Rattle.std.specs.Prelude.{◌≡◌, false, List, ◌∷◌, ℕ}
use Rattle.std.proofs.Math.Option.{none}
use Rattle.spec.specs.Symbols.{bytes, ends, find}
use Rattle.spec.specs.Sweep.{sweep}
use Rattle.spec.specs.Result.{stage}
use Rattle.spec.specs.Closing.{over_quotes}
use Rattle.spec.specs.Calls.{convert_calls, convert_binom}
use Rattle.spec.specs.Words.{convert_sqrt}
use Rattle.spec.specs.Scripts.{wrap_text_subscripts}
use Rattle.spec.specs.Finish.{latex_lr, lr, bare_delimiter, convert_lr, convert_alignment}
use Rattle.spec.specs.Laws.Symbols.{contains-nowhere}
use Rattle.spec.specs.Laws.Sweep.{sweep-absent, reached-absent}
use Rattle.spec.specs.Laws.Absent.{no_bare, calling-waits, binom-waits, paren-to-brace-waits, wrap-text-waits}

-- ---- calls
pub calls-copy : (name : List ℕ) (write : List ℕ → List ℕ) (s : List ℕ) → find name s ≡ none → convert_calls name write s ≡ s
unfolding convert_calls
calls-copy name write s e = sweep-absent (calling-waits over_quotes name write) s 0 e

pub binom-copies : (s : List ℕ) → find (bytes "binom(") s ≡ none → convert_binom s ≡ s
unfolding convert_binom
binom-copies s e = sweep-absent binom-waits s 0 e

-- ---- openings that get braces, `\text` scripts
pub sqrt-copies : (s : List ℕ) → find (bytes "sqrt(") s ≡ none → convert_sqrt s ≡ s
unfolding convert_sqrt
sqrt-copies s e = sweep-absent (paren-to-brace-waits (bytes "sqrt(") (bytes "\\sqrt{")) s 0 e

pub wrap-text-copies : (sign : ℕ) (s : List ℕ) → find (sign ∷ bytes "\\text{") s ≡ none → wrap_text_subscripts sign s ≡ s
unfolding wrap_text_subscripts
wrap-text-copies sign s e = sweep-absent (wrap-text-waits sign) s 0 e

-- ---- lr
pub lr-sweep-copies : (s : List ℕ) → find (bytes "lr(") s ≡ none → sweep lr 0 0 s ≡ s
lr-sweep-copies s e = sweep-absent (calling-waits (λ s. s) (bytes "lr(") latex_lr) s 0 e

pub lr-is-stage : (s : List ℕ) → find (bytes "lr(") s ≡ none → convert_lr s ≡ stage (sweep lr 0 0) s
unfolding convert_lr
lr-is-stage s e = rw (reached-absent bare_delimiter (calling-waits (λ s. s) (bytes "lr(") latex_lr) no_bare s 0 e, convert_lr)

-- ---- alignment
pub alignment-copies : (s : List ℕ) → find (bytes "&") s ≡ none → find (bytes " \\\n") s ≡ none → ends (bytes " \\") s ≡ false → convert_alignment s ≡ s
unfolding convert_alignment
alignment-copies s h k e = rw (contains-nowhere (bytes "&") s h, contains-nowhere (bytes " \\\n") s k, e, convert_alignment)
