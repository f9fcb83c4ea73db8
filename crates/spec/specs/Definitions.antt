-- apply_definitions_outside_text: `\text{..}` blocks are held out, each definition is a stage of its own, and the blocks go back. Assumes nothing.
use Rattle.std.specs.Prelude.{true, false, not, cond, ◌&&◌, List, [], ◌∷◌, ℕ, eqb, length, drop}
use Rattle.spec.specs.Symbols.{letter, wordly, head, starts}
use Rattle.spec.specs.Sweep.{Rule, taken, kept, sweep}
use Rattle.spec.specs.Result.{Result, passed, ◌then◌}
use Rattle.spec.specs.Held.{Held, hold_texts, in_full, held_stage, put_back}
use Rattle.spec.specs.Table.{Definition, in_order}

-- The Rust's `\bNAME([^a-zA-Z]|$)`: after a word boundary, before a non-letter or the end. Its pattern takes the symbol behind the name along and
-- puts it back. Here that symbol is only looked at: it is no letter and names begin with one, so no match that it begins is hidden by that.
abbrev pub defined : Definition → Rule
defined d before s =
    cond (starts d.name s && (not (wordly before) && not (letter (head (drop (length d.name) s))))) (taken (length d.name) d.latex) (kept s)

unfoldable pub apply_definition : Definition → List ℕ → List ℕ
unfolding sweep
apply_definition d s = sweep (defined d) 0 0 s

-- names of one byte are skipped
unfoldable pub apply_definitions : List Definition → Held → Result Held
unfolding apply_definition in_full
apply_definitions [] h = passed h
apply_definitions (d ∷ ds) h = elim (eqb (length d.name) 1) [ true ↦ apply_definitions ds h | false ↦ held_stage (apply_definition d) h then apply_definitions ds ]

unfoldable pub apply_definitions_outside_text : List Definition → List ℕ → Result (List ℕ)
unfolding in_order hold_texts apply_definitions in_full
apply_definitions_outside_text ds s = apply_definitions (in_order ds) (hold_texts s) then put_back
