-- Laws of held blocks where there are none: holding out leaves the text as it is, and so does putting back. Assumes nothing.
--     unheld                             no block is held
--     hold-texts-none, hold-both-none    no name of a block stands in the text
--     in-full-none                       with no block, the text in full is the text
use Rattle.std.specs.Prelude.{◌≡◌, refl, false, List, [], ◌∷◌, ℕ}
use Rattle.std.proofs.Common.{ap, ◌∙◌}
use Rattle.spec.specs.Symbols.{bytes, text_mark, roman_mark, starts, contains}
use Rattle.spec.specs.Held.{Held, Taken, leaving, take_out, enclosers_of, text_blocks, hold_texts, hold_both, filled, enclosed, completed, in_full}
use Rattle.spec.specs.Laws.Booleans.{or-neither}

abbrev pub unheld : List ℕ → Held
unheld s = record { text = s; texts = []; romans = [] }

-- ---- holding out
take_none : (name : List ℕ) (mark : ℕ) (s : List ℕ) → contains name s ≡ false → take_out name mark 0 s ≡ record { left = s; blocks = [] }
unfolding take_out
take_none name mark [] e = refl
take_none name mark (x ∷ s) e =
    let here = or-neither (starts name (x ∷ s)) (contains name s) e in
    rw (here.0, take_out) (ap (leaving x) (take_none name mark s here.1))

pub hold-texts-none : (s : List ℕ) → contains (bytes "\\text{") s ≡ false → hold_texts s ≡ unheld s
unfolding hold_texts text_blocks
hold-texts-none s e = ap (λ (t : Taken). record { text = t.left; texts = text_blocks [] t.blocks; romans = [] }) (take_none (bytes "\\text{") text_mark s e)

-- a text in which no `\mathrm` block is found
pub hold-both-left :
    (s : List ℕ) (t : Taken) → take_out (bytes "\\text{") text_mark 0 s ≡ t → contains (bytes "\\mathrm{") t.left ≡ false
    → hold_both s ≡ record { text = t.left; texts = text_blocks (enclosers_of 0 [] t.left) t.blocks; romans = [] }
unfolding hold_both
hold-both-left s t e none = ap both e ∙ ap (with-romans t) (take_none (bytes "\\mathrm{") roman_mark t.left none)
  where
    with-romans : Taken → Taken → Held
    with-romans t r = record { text = r.left; texts = text_blocks (enclosers_of 0 r.blocks r.left) t.blocks; romans = r.blocks }

    both : Taken → Held
    both t = with-romans t (take_out (bytes "\\mathrm{") roman_mark 0 t.left)

pub hold-both-none : (s : List ℕ) → contains (bytes "\\text{") s ≡ false → contains (bytes "\\mathrm{") s ≡ false → hold_both s ≡ unheld s
unfolding text_blocks
hold-both-none s t r = hold-both-left s (record { left = s; blocks = [] }) (take_none (bytes "\\text{") text_mark s t) r

-- ---- in full
pub filled_none : (mark : ℕ) (s : List ℕ) → filled mark [] s ≡ s
unfolding filled
filled_none mark [] = refl
filled_none mark (x ∷ s) = refl

pub in-full-none : (s : List ℕ) → in_full (unheld s) ≡ s
unfolding in_full enclosed completed
in-full-none s = ap (filled roman_mark []) (filled_none text_mark s) ∙ filled_none roman_mark s
