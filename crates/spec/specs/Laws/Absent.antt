-- Stages on a text in which their pattern does not stand: they leave it as it is. Assumes nothing.
--     calling-waits, ..    the rules of the stages that are sweeps wait for a pattern
--     cases-absent, ..     the other stages
use Rattle.std.specs.Prelude.{◌≡◌, refl, false, ℕ, zero, suc, length}
use Rattle.std.proofs.Common.{ap, ◌∙◌}
use mathlib.Core.List.{List, [], ◌∷◌, reverse, reverse_aux, reverse-reverse}
use Rattle.std.proofs.Math.Option.{none}
use Rattle.spec.specs.Symbols.{bytes, starts, find}
use Rattle.spec.specs.Sweep.{replacing, replace}
use Rattle.spec.specs.Closing.{over_quotes}
use Rattle.spec.specs.Calls.{call_at, rewritten, calling, cases_once, convert_cases, attach_once, attach_times, convert_attach, binom}
use Rattle.spec.specs.Quotes.{quotes, convert_text_quotes}
use Rattle.spec.specs.Words.{paren_to_brace}
use Rattle.spec.specs.Scripts.{wrap_text}
use Rattle.spec.specs.Finish.{bare_delimiter, thin_spaces, drop_thin_space_after_commands}
use Rattle.spec.specs.Laws.Symbols.{find-nowhere}
use Rattle.spec.specs.Laws.Sweep.{Waits, sweep-absent}

-- ---- rules
pub replacing-waits : (pattern fresh : List ℕ) → Waits pattern (replacing pattern fresh)
replacing-waits pattern fresh = record { copies = λ before s e. rw e }

pub replace_absent : (pattern fresh s : List ℕ) → find pattern s ≡ none → replace pattern fresh s ≡ s
unfolding replace
replace_absent pattern fresh s e = sweep-absent (replacing-waits pattern fresh) s 0 e

pub no_call : (seen : List ℕ → List ℕ) (name s : List ℕ) → starts name s ≡ false → call_at seen name s ≡ none
unfolding call_at
no_call seen name s e = rw (e, call_at)

pub no_bare : (s : List ℕ) → starts (bytes "lr(") s ≡ false → bare_delimiter s ≡ false
no_bare s e = rw (no_call (λ s. s) (bytes "lr(") s e, bare_delimiter)

pub calling-waits : (seen : List ℕ → List ℕ) (name : List ℕ) (write : List ℕ → List ℕ) → Waits name (calling seen name write)
calling-waits seen name write = record { copies = λ before s e. ap (rewritten name write s) (no_call seen name s e) }

pub binom-waits : Waits (bytes "binom(") binom
binom-waits = record { copies = λ before s e. rw (no_call over_quotes (bytes "binom(") s e) }

pub paren-to-brace-waits : (pattern left : List ℕ) → Waits pattern (paren_to_brace pattern left)
paren-to-brace-waits pattern left = record { copies = λ before s e. rw (e, paren_to_brace) }

pub wrap-text-waits : (sign : ℕ) → Waits (sign ∷ bytes "\\text{") (wrap_text sign)
wrap-text-waits sign = record { copies = λ before s e. rw (e, wrap_text) }

-- ---- first occurrences
pub cases-absent : (s : List ℕ) → find (bytes "cases(") s ≡ none → convert_cases s ≡ s
unfolding convert_cases cases_once
cases-absent s e = rw e

pub times_none : (k : ℕ) (s : List ℕ) → attach_once s ≡ none → attach_times k s ≡ s
unfolding attach_times
times_none zero s e = refl
times_none (suc k) s e = rw (e, attach_times)

pub attach-absent : (s : List ℕ) → find (bytes "attach(") s ≡ none → convert_attach s ≡ s
unfolding convert_attach attach_once
attach-absent s e = times_none (length s) s (rw e)

-- ---- symbol by symbol
no-quote : (o s : List ℕ) → find (bytes "\"") s ≡ none → quotes false 0 o s ≡ reverse_aux s o
unfolding quotes
no-quote o [] e = refl
no-quote o (x ∷ s) e = let here = find-nowhere (bytes "\"") x s e in rw (here.0, quotes) (no-quote (x ∷ o) s here.1)

pub quotes-absent : (s : List ℕ) → find (bytes "\"") s ≡ none → convert_text_quotes s ≡ s
unfolding convert_text_quotes
quotes-absent s e = ap reverse (no-quote [] s e) ∙ reverse-reverse s

no-thin-space : (p s : List ℕ) → find (bytes "\\;") s ≡ none → thin_spaces 0 p s ≡ s
unfolding thin_spaces
no-thin-space p [] e = refl
no-thin-space p (x ∷ s) e = let here = find-nowhere (bytes "\\;") x s e in rw (here.0, thin_spaces) (ap {B = List ℕ} (λ l. x ∷ l) (no-thin-space (x ∷ p) s here.1))

pub thin-spaces-absent : (s : List ℕ) → find (bytes "\\;") s ≡ none → drop_thin_space_after_commands s ≡ s
unfolding drop_thin_space_after_commands
thin-spaces-absent s e = no-thin-space [] s e
