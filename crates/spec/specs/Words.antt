-- The first half of convert_syntax: `sqrt`, functions, operators, Greek names and words, then Phi and Psi. Assumes nothing.
--     paren_to_brace     the turn of `sqrt(`, and of `_(` and `^(` later: an opening that is not closed becomes an unclosed brace
--     replace_rows      the rows of a table in order, each a stage
use Rattle.std.specs.Prelude.{Bool, true, false, not, cond, ◌&&◌, ◌||◌, List, [], ◌∷◌, ◌++◌, ℕ, ◌+◌, length, drop}
use Rattle.std.proofs.Math.Option.{Option, none, some}
use Rattle.spec.specs.Symbols.{bytes, is, letter, alnum, wordly, head, any, inside, starts}
use Rattle.spec.specs.Sweep.{Turn, Rule, taken, kept, sweep, replacing, replace}
use Rattle.spec.specs.Closing.{close, find_matching_paren}
use Rattle.spec.specs.Calls.{call_length}
use Rattle.spec.specs.Result.{Result, passed, ◌then◌, stage}
use Rattle.spec.specs.Held.{Held, hold_both, in_full, held_stage, put_back}
use Rattle.spec.specs.Rows.{Row, greek_letters, word_mappings, greek_capitals}

-- ---- convert_sqrt
-- `s` stands behind the pattern
abbrev pub braced : List ℕ → List ℕ → List ℕ → Option (List ℕ) → Turn
braced pattern left s none = taken (length pattern + length s) (left ++ s)
braced pattern left s (some behind) = taken (call_length pattern (inside s behind)) (left ++ inside s behind ++ bytes "}")

abbrev pub paren_to_brace : List ℕ → List ℕ → Rule
paren_to_brace pattern left before s =
    elim (starts pattern s) [ true ↦ braced pattern left (drop (length pattern) s) (find_matching_paren (drop (length pattern) s)) | false ↦ kept s ]

unfoldable pub convert_sqrt : List ℕ → List ℕ
unfolding sweep close
convert_sqrt s = sweep (paren_to_brace (bytes "sqrt(") (bytes "\\sqrt{")) 0 0 s

-- ---- functions and operators: literal, with no boundary and in block text too
unfoldable pub replace_rows : List Row → List ℕ → Result (List ℕ)
unfolding replace
replace_rows [] s = passed s
replace_rows (r ∷ rs) s = stage (replace r.typst r.latex) s then replace_rows rs

-- ---- what may stand around a name; a name that is spared is passed as a whole
-- behind a backslash, or with a letter on either side
abbrev pub embedded : List ℕ → ℕ → List ℕ → Bool
embedded name before s = is "\\" before || (letter before || letter (head (drop (length name) s)))

abbrev pub greek : Row → Rule
greek r before s = cond (starts r.typst s) (taken (length r.typst) (cond (embedded r.typst before s) r.typst r.latex)) (kept s)

-- the Rust's `\bWORD`, spared behind a backslash and before a letter or digit
abbrev pub word : Row → Rule
word r before s =
    cond (starts r.typst s && not (wordly before))
    (taken (length r.typst) (cond (is "\\" before || alnum (head (drop (length r.typst) s))) r.typst r.latex)) (kept s)

-- the Rust's `\bNAME\b`, spared behind a backslash
abbrev pub capital : Row → Rule
capital r before s =
    cond (starts r.typst s && (not (wordly before) && not (wordly (head (drop (length r.typst) s)))))
    (taken (length r.typst) (cond (is "\\" before) r.typst r.latex)) (kept s)

-- a word with `(`, `|` or a point in it is literal
abbrev pub literal : List ℕ → Bool
literal w = any (λ x. is "(" x || (is "|" x || is "." x)) w

abbrev pub word_or_literal : Row → Rule
word_or_literal r = cond (literal r.typst) (replacing r.typst r.latex) (word r)

-- ---- tables of such rules
unfoldable pub held_rows : (Row → Rule) → List Row → Held → Result Held
unfolding sweep in_full
held_rows rule [] h = passed h
held_rows rule (r ∷ rs) h = held_stage (sweep (rule r) 0 0) h then held_rows rule rs

-- blocks are spared by Greek names and words
unfoldable pub convert_words : List ℕ → Result (List ℕ)
unfolding hold_both held_rows in_full
convert_words s = held_rows greek greek_letters (hold_both s) then held_rows word_or_literal word_mappings then put_back

unfoldable pub capitals : List Row → List ℕ → Result (List ℕ)
unfolding sweep
capitals [] s = passed s
capitals (r ∷ rs) s = stage (sweep (capital r) 0 0) s then capitals rs

abbrev pub convert_greek_capitals : List ℕ → Result (List ℕ)
convert_greek_capitals s = capitals greek_capitals s
