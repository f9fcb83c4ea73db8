-- Held blocks of a plain text: there are none.
use Rattle.std.specs.Prelude.{◌≡◌, List, ℕ}
use Rattle.std.proofs.Math.Option.{none}
use Rattle.spec.specs.Symbols.{bytes, find}
use Rattle.spec.specs.Held.{hold_texts, hold_both}
use Rattle.spec.specs.Laws.Symbols.{contains-nowhere}
use Rattle.spec.specs.Laws.Held.{unheld, hold-texts-none, hold-both-none}

pub texts-nowhere : (s : List ℕ) → find (bytes "\\text{") s ≡ none → hold_texts s ≡ unheld s
texts-nowhere s e = hold-texts-none s (contains-nowhere (bytes "\\text{") s e)

pub both-nowhere : (s : List ℕ) → find (bytes "\\text{") s ≡ none → find (bytes "\\mathrm{") s ≡ none → hold_both s ≡ unheld s
both-nowhere s e f = hold-both-none s (contains-nowhere (bytes "\\text{") s e) (contains-nowhere (bytes "\\mathrm{") s f)
