-- The call rewritings, `op` to the second `upright`, in the Rust's order. A name holds its own parenthesis, as `bb(`.
--     call_at         what stands inside the call that the text begins with, if its parenthesis is closed
--     rewritten      the turn of a call rewriting: where no closer is found, one symbol is copied
-- `seen` is what a search sees of the text behind a call's parenthesis: `over_quotes` in all calls here, and in `lr` the text as it is.
-- Assumes nothing.
use Rattle.std.specs.Prelude.{true, false, cond, List, [], ◌∷◌, ◌++◌, map, ℕ, zero, suc, ◌+◌, length, drop}
use Rattle.std.proofs.Math.Option.{Option, none, some, get_or}
use Rattle.spec.specs.Symbols.{bytes, is, ◌and_then◌, empty, until, inside, drop_while_end, trim, trim_quotes, starts, find}
use Rattle.spec.specs.Sweep.{Turn, Rule, taken, kept, sweep, replace}
use Rattle.spec.specs.Result.{Result, ◌then◌, stage}
use Rattle.spec.specs.Closing.{find_matching_paren, find_comma_in_args, find_unescaped_comma, split_top_level_commas, close, comma_behind, unescaped_behind, split_from, over_quotes, seen_from, cut_alike}

unfoldable pub call_at : (List ℕ → List ℕ) → List ℕ → List ℕ → Option (List ℕ)
unfolding close
call_at seen name s =
    let rest = drop (length name) s in
    elim (starts name s) [ true ↦ find_matching_paren (seen rest) and_then λ behind. some (inside rest behind) | false ↦ none ]

-- the symbols of a call: its name, what stands inside, and the closer
abbrev pub call_length : List ℕ → List ℕ → ℕ
call_length name inner = suc (length name + length inner)

abbrev pub rewritten : List ℕ → (List ℕ → List ℕ) → List ℕ → Option (List ℕ) → Turn
rewritten name write s none = kept s
rewritten name write s (some inner) = taken (call_length name inner) (write inner)

abbrev pub calling : (List ℕ → List ℕ) → List ℕ → (List ℕ → List ℕ) → Rule
calling seen name write before s = rewritten name write s (call_at seen name s)

unfoldable pub convert_calls : List ℕ → (List ℕ → List ℕ) → List ℕ → List ℕ
unfolding sweep call_at seen_from
convert_calls name write s = sweep (calling over_quotes name write) 0 0 s

-- ---- convert_op
abbrev pub convert_op : List ℕ → List ℕ
convert_op s = convert_calls (bytes "op(") (λ inner. bytes "\\operatorname{" ++ trim_quotes (trim inner) ++ bytes "}") s

-- ---- convert_cases: the first occurrence only
abbrev pub nonblank : List (List ℕ) → List (List ℕ)
nonblank [] = []
nonblank (b ∷ bs) = elim (empty b) [ true ↦ nonblank bs | false ↦ b ∷ nonblank bs ]

abbrev pub joined : List ℕ → List (List ℕ) → List ℕ
joined between [] = []
joined between (b ∷ []) = b
joined between (b ∷ c ∷ bs) = b ++ between ++ joined between (c ∷ bs)

unfoldable pub latex_cases : List ℕ → List ℕ
unfolding split_from seen_from
latex_cases inner =
    let parts = cut_alike (split_top_level_commas (over_quotes inner)) inner in
    bytes "\\begin{cases} " ++ joined (bytes " \\\\ ") (nonblank (map trim parts)) ++ bytes " \\end{cases}"

-- the text s with its call, which begins at `at` and holds `inner`, written as `fresh`
abbrev pub spliced : List ℕ → List ℕ → List ℕ → List ℕ → List ℕ → List ℕ
spliced s at name inner fresh = until s at ++ fresh ++ drop (call_length name inner) at

unfoldable pub cases_once : List ℕ → Option (List ℕ)
unfolding find call_at seen_from latex_cases
cases_once s =
    find (bytes "cases(") s and_then λ at.
    call_at over_quotes (bytes "cases(") at and_then λ inner.
    some (spliced s at (bytes "cases(") inner (latex_cases inner))

unfoldable pub convert_cases : List ℕ → List ℕ
unfolding cases_once
convert_cases s = get_or (cases_once s) s

-- ---- convert_attach: the first occurrence again and again, until it can't be rewritten
-- What stands behind `b:` is the subscript up to the next comma that is not escaped. Without one it goes to the end, and the closing parentheses
-- that end it are cut, its own too: `attach(x, b: f(y))` has the subscript `f(y`.
abbrev pub bottom : List ℕ → List ℕ
bottom after = elim (find_unescaped_comma after) [ some behind ↦ trim (inside after behind) | none ↦ drop_while_end (is ")") after ]

abbrev pub subscript : List ℕ → List ℕ
subscript rest = elim (find (bytes "b:") rest) [ some at ↦ bottom (trim (drop 2 at)) | none ↦ [] ]

abbrev pub latex_underset : List ℕ → List ℕ → List ℕ
latex_underset below base = bytes "\\underset{" ++ replace (bytes "\\,") (bytes "\\;") below ++ bytes "}{" ++ base ++ bytes "}"

-- the base stands before the first comma that is not escaped; with an empty subscript the call stays
unfoldable pub latex_attach : List ℕ → Option (List ℕ)
unfolding unescaped_behind find replace
latex_attach inner =
    find_unescaped_comma inner and_then λ rest.
    let base = trim (inside inner rest) in
    let below = subscript rest in
    cond (empty below) none (some (latex_underset below base))

-- one rewriting, if there is one
unfoldable pub attach_once : List ℕ → Option (List ℕ)
unfolding find call_at seen_from latex_attach
attach_once s =
    find (bytes "attach(") s and_then λ at.
    call_at over_quotes (bytes "attach(") at and_then λ inner.
    latex_attach inner and_then λ fresh.
    some (spliced s at (bytes "attach(") inner fresh)

-- at most k rewritings
unfoldable pub attach_times : ℕ → List ℕ → List ℕ
unfolding attach_once
attach_times zero s = s
attach_times (suc k) s = elim (attach_once s) [ none ↦ s | some t ↦ attach_times k t ]

-- each rewriting takes the parenthesis of its `attach(` away and brings none, so as many as the text has symbols are enough: `attach-ends` in `Laws/Attach`
unfoldable pub convert_attach : List ℕ → List ℕ
unfolding attach_times
convert_attach s = attach_times (length s) s

-- ---- convert_bb, convert_bold
abbrev pub convert_bb : List ℕ → List ℕ
convert_bb s = convert_calls (bytes "bb(") (λ inner. bytes "\\mathbb{" ++ inner ++ bytes "}") s

abbrev pub convert_bold : List ℕ → List ℕ
convert_bold s = convert_calls (bytes "bold(") (λ inner. bytes "\\mathbf{" ++ inner ++ bytes "}") s

-- ---- convert_binom: with no comma at its top level a call is copied as ordinary text
abbrev pub binom_at : List ℕ → Option Turn
binom_at s =
    call_at over_quotes (bytes "binom(") s and_then λ inner.
    find_comma_in_args (over_quotes inner) and_then λ behind.
    let first = inside inner behind in
    let second = drop (suc (length first)) inner in
    some (taken (call_length (bytes "binom(") inner) (bytes "\\binom{" ++ trim first ++ bytes "}{" ++ trim second ++ bytes "}"))

abbrev pub binom : Rule
binom before s = get_or (binom_at s) (kept s)

unfoldable pub convert_binom : List ℕ → List ℕ
unfolding sweep call_at seen_from comma_behind
convert_binom s = sweep binom 0 0 s

-- ---- convert_upright
abbrev pub convert_upright : List ℕ → List ℕ
convert_upright s = convert_calls (bytes "upright(") (λ inner. bytes "\\mathrm{" ++ trim_quotes (trim inner) ++ bytes "}") s

-- ---- convert_delimiter_func and convert_floor_ceil_abs
abbrev pub convert_delimiter_func : List ℕ → List ℕ → List ℕ → List ℕ → List ℕ
convert_delimiter_func name left right s = convert_calls name (λ inner. left ++ inner ++ right) s

abbrev pub convert_floor : List ℕ → List ℕ
convert_floor s = convert_delimiter_func (bytes "floor(") (bytes "\\left\\lfloor ") (bytes " \\right\\rfloor") s

abbrev pub convert_ceil : List ℕ → List ℕ
convert_ceil s = convert_delimiter_func (bytes "ceil(") (bytes "\\left\\lceil ") (bytes " \\right\\rceil") s

abbrev pub convert_abs : List ℕ → List ℕ
convert_abs s = convert_delimiter_func (bytes "abs(") (bytes "\\left\\lvert ") (bytes " \\right\\rvert") s

abbrev pub convert_cal : List ℕ → List ℕ
convert_cal s = convert_delimiter_func (bytes "cal(") (bytes "\\mathcal{") (bytes "}") s

abbrev pub convert_frak : List ℕ → List ℕ
convert_frak s = convert_delimiter_func (bytes "frak(") (bytes "\\mathfrak{") (bytes "}") s

-- the second `upright`, which neither trims nor strips quotes
abbrev pub convert_upright_again : List ℕ → List ℕ
convert_upright_again s = convert_delimiter_func (bytes "upright(") (bytes "\\mathrm{") (bytes "}") s

abbrev pub convert_floor_ceil_abs : List ℕ → Result (List ℕ)
convert_floor_ceil_abs s =
    stage convert_floor s then stage convert_ceil then stage convert_abs then stage convert_cal then stage convert_frak then stage convert_upright_again
