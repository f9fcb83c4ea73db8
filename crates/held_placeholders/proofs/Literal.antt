-- The Rust's hold-out is the one pass of the definitions: its text is the marked text with placeholders, and its blocks are the held ones with
-- placeholders for the marks in them. Assumes nothing.
--     texts-held    definitions: `\text` blocks
--     both-held     words: `\text` and `\mathrm` blocks
use Rattle.std.specs.Prelude.{◌≡◌, refl, false, ℕ, ◌+◌, ◌-◌}
use Rattle.std.proofs.Common.{sym, ◌∙◌, arith}
use Rattle.std.proofs.Math.Path.{ap, ap₂}
use mathlib.Core.List.{List, [], ◌∷◌, ◌++◌}
use Rattle.std.proofs.Math.Option.{none}
use Rattle.std.proofs.Math.ListN.{length}
use Rattle.spec.specs.Symbols.{bytes, text_mark, roman_mark}
use Rattle.spec.specs.Held.{hold_texts, hold_both}
use Rattle.held_laws.specs.Marks.{has_mark}
use Rattle.held_laws.specs.Holding.{texts_taken, text_turns, romans_taken, roman_turns, roman-left}
use Rattle.held_laws.specs.Limits.{taken-length, taken-long}
use Rattle.held_laws.specs.WellMade.{texts_of, symbols-of}
use Rattle.held_placeholders.specs.Numbered.{numbered, numbered_romans}
use Rattle.held_placeholders.specs.Placeholders.{text_names, both_names, PlaceholderText, placed, or_next, turned, hold_out}
use Rattle.held_placeholders.specs.Finding.{Lacks, AbsentBefore}
use Rattle.held_placeholders.proofs.OneName.{reaches_then, reaches_end, held-turns}
use Rattle.held_placeholders.proofs.OneName as one
use Rattle.held_placeholders.specs.Numbers.{numbered_from, numbered-texts}
use Rattle.held_placeholders.proofs.Stuck.{none_stuck}
use Rattle.held_placeholders.proofs.Romans.{roman-turns}
use Rattle.held_placeholders.proofs.Romans as roman

lacks : Lacks text_mark (bytes "\\text{")
unfolding Lacks
lacks = (refl, (refl, (refl, (refl, (refl, (refl, tt))))))

module _ (s : List ℕ) (free : has_mark s ≡ false) where
  texts-out : (others : List (List ℕ)) → one.NameHeldOut (bytes "text{") lacks others [] s [] (texts_taken s)
  unfolding AbsentBefore
  texts-out others = held-turns (bytes "text{") lacks others (text_turns s) [] [] tt free

  -- a text has more symbols than blocks
  text-fuel : length s - length (texts_taken s).blocks + length (texts_taken s).blocks ≡ length s
  text-fuel =
      let l = taken-length (bytes "\\text{") text_mark (text_turns s) in
      let m = taken-long (bytes "\\text{") text_mark (omega arith) (text_turns s) in
      omega arith

  -- the `\mathrm` marks count from any number, there being none
  pub texts-held : (r : ℕ) → hold_out text_names s ≡ placed (numbered [] 0 r (hold_texts s).text) (texts_of (hold_texts s))
  unfolding hold_out hold_texts
  texts-held r =
      let h = texts-out [] in
      ap (λ n. turned text_names n (placed s [])) (sym text-fuel)
      ∙ reaches_end h.reaches (ap (λ o. or_next o none) h.none_left) (length s - length (texts_taken s).blocks)
      ∙ ap₂ placed (sym (numbered-texts (texts_taken s).left 0 r (roman-left s free))) (sym (symbols-of [] (texts_taken s).blocks))

  -- ---- words
  romans-out : roman.BothHeldOut [] 0 (texts_taken s).left (texts_taken s).blocks (romans_taken s)
  unfolding AbsentBefore
  romans-out = roman-turns (roman_turns s) [] 0 (texts_taken s).blocks tt (roman-left s free) (none_stuck (numbered_from 0 (texts_taken s).left) (texts-out (bytes "\\mathrm{" ∷ [])).none_left)

  both-fuel : length s - (length (romans_taken s).blocks + length (texts_taken s).blocks) + (length (romans_taken s).blocks + length (texts_taken s).blocks) ≡ length s
  both-fuel =
      let l = taken-length (bytes "\\text{") text_mark (text_turns s) in
      let m = taken-long (bytes "\\text{") text_mark (omega arith) (text_turns s) in
      let l' = taken-length (bytes "\\mathrm{") roman_mark (roman_turns s) in
      let m' = taken-long (bytes "\\mathrm{") roman_mark (omega arith) (roman_turns s) in
      omega arith

  pub both-held :
      (let h = hold_both s in
      hold_out both_names s ≡ placed (numbered h.romans 0 (length (texts_of h)) h.text) (texts_of h ++ numbered_romans h.romans 0 h.text))
  unfolding hold_out hold_both
  both-held =
      ap (λ n. turned both_names n (placed s [])) (sym both-fuel)
      ∙ reaches_end (reaches_then (texts-out (bytes "\\mathrm{" ∷ [])).reaches romans-out.reaches) romans-out.none_left
      (length s - (length (romans_taken s).blocks + length (texts_taken s).blocks))
      ∙ ap of-texts (sym (symbols-of _ (texts_taken s).blocks))
    where
      of-texts : List (List ℕ) → PlaceholderText
      of-texts bs = let r = romans_taken s in placed (numbered r.blocks 0 (length bs) r.left) (bs ++ numbered_romans r.blocks 0 r.left)
