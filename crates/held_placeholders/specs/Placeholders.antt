-- The Rust's numbered placeholders, as they are in `apply_definitions_outside_text` and in the block part of `convert_syntax`. Assumes nothing.
--     first_block      the first occurrence of a name, if its block closes
--     hold_out         each turn holds out the first block of the first name that has one; turns go on until there is none
--     rust_definitions, rust_words    holding out, rewriting, putting back
-- Definitions hold out `text_names`; words hold out `both_names`.
use Rattle.std.specs.Prelude.{◌≡◌, refl, true, false, cond, List, [], ◌∷◌, ◌++◌, ℕ, zero, suc, eqb, length, drop}
use Rattle.std.proofs.Math.Option.{Option, none, some}
use Rattle.spec.specs.Symbols.{bytes, until, find, text_mark}
use Rattle.spec.specs.Sweep.{Rule, sweep, replace}
use Rattle.spec.specs.Closing.{close, find_matching_brace}
use Rattle.spec.specs.Program.{up, counted}
use Rattle.spec.specs.Table.{Definition, in_order}
use Rattle.spec.specs.Definitions.{apply_definition}
use Rattle.spec.specs.Rows.{Row, greek_letters, word_mappings}
use Rattle.spec.specs.Words.{greek, word_or_literal}
use Rattle.held_placeholders.specs.Numbered.{placeholder, restored}

abbrev pub text_names : List (List ℕ)
text_names = bytes "\\text{" ∷ []

abbrev pub both_names : List (List ℕ)
both_names = bytes "\\text{" ∷ bytes "\\mathrm{" ∷ []

-- a text with placeholders, and the blocks that have been held out of it
pub record PlaceholderText : Type 0 where
  pub text : List ℕ
  pub blocks : List (List ℕ)

abbrev pub placed : List ℕ → List (List ℕ) → PlaceholderText
placed text blocks = record { text = text; blocks = blocks }

-- what stands before a block, the block, and what stands behind it
pub record Block : Type 0 where
  pub before : List ℕ
  pub block : List ℕ
  pub behind : List ℕ

-- ---- holding out
-- the name stands where `at` begins
abbrev pub closed_block : List ℕ → List ℕ → Option (List ℕ) → Option Block
closed_block s at none = none
closed_block s at (some behind) = some (record { before = until s at; block = until at behind; behind = behind })

abbrev pub found_at : List ℕ → List ℕ → Option (List ℕ) → Option Block
found_at name s none = none
found_at name s (some at) = closed_block s at (find_matching_brace (drop (length name) at))

abbrev pub first_block : List ℕ → List ℕ → Option Block
first_block name s = found_at name s (find name s)

abbrev pub or_next : Option Block → Option Block → Option Block
or_next none next = next
or_next (some b) next = some b

abbrev pub first_block_of : List (List ℕ) → List ℕ → Option Block
first_block_of [] s = none
first_block_of (name ∷ names) s = or_next (first_block name s) (first_block_of names s)

abbrev pub held_one : PlaceholderText → Option Block → PlaceholderText
held_one p none = p
held_one p (some b) = placed (b.before ++ placeholder (length p.blocks) ++ b.behind) (p.blocks ++ (b.block ∷ []))

-- with nothing to hold out a further turn changes nothing, and a text has fewer blocks than symbols
unfoldable pub turned : List (List ℕ) → ℕ → PlaceholderText → PlaceholderText
turned names zero p = p
turned names (suc n) p = turned names n (held_one p (first_block_of names p.text))

unfoldable pub hold_out : List (List ℕ) → List ℕ → PlaceholderText
unfolding turned
hold_out names s = turned names (length s) (placed s [])

-- ---- the whole
-- names of one byte are skipped
unfoldable pub defined_all : List Definition → List ℕ → List ℕ
defined_all [] s = s
defined_all (d ∷ ds) s = elim (eqb (length d.name) 1) [ true ↦ defined_all ds s | false ↦ defined_all ds (apply_definition d s) ]

unfoldable pub rust_definitions : List Definition → List ℕ → List ℕ
unfolding in_order hold_out defined_all restored
rust_definitions ds s = let p = hold_out text_names s in restored 0 p.blocks (defined_all (in_order ds) p.text)

unfoldable pub rewritten_all : (Row → Rule) → List Row → List ℕ → List ℕ
unfolding sweep
rewritten_all rule [] s = s
rewritten_all rule (r ∷ rs) s = rewritten_all rule rs (sweep (rule r) 0 0 s)

unfoldable pub rust_words : List ℕ → List ℕ
unfolding hold_out rewritten_all restored
rust_words s = let p = hold_out both_names s in restored 0 p.blocks (rewritten_all word_or_literal word_mappings (rewritten_all greek greek_letters p.text))

-- ---- document 01's examples, with the mark shown as `#`
abbrev shown : List ℕ → List ℕ
shown [] = []
shown (b ∷ s) = cond (eqb b text_mark) 35 b ∷ shown s

-- the text of `upright(a "b")` in words: the `\mathrm` block holds a mark
nested : shown (rust_words (bytes "\\mathrm{a\\;\\text{b}}")) ≡ bytes "\\mathrm{a\\;#0#}"
unfolding rust_words turned find close placeholder counted up restored replace
nested = refl

-- a typed number between two placeholders
three-texts : shown (rust_definitions [] (bytes "\\text{a}\\text{b}0\\text{c}")) ≡ bytes "\\text{a}#1\\text{a}2#"
unfolding rust_definitions turned find close placeholder counted up restored replace
three-texts = refl

two-kinds : shown (rust_words (bytes "\\mathrm{a}0\\text{b}")) ≡ bytes "#1\\text{b}0#"
unfolding rust_words turned find close placeholder counted up restored replace
two-kinds = refl

two-texts : shown (rust_definitions [] (bytes "\\text{a}0\\text{b}")) ≡ bytes "\\text{a}0\\text{b}"
unfolding rust_definitions turned find close placeholder counted up restored replace
two-texts = refl
