-- Tables of rules: the rule of a row for each kind of table, and the rows one after another.
--     lent_row               a row of lent texts, as the definitions have it
--     row_rule, row_match, bounds_of     the definitions' rule of a row and its match, and the code's
--     fair_rows              no row is empty or too long
--     sized_rows             the rows of a table in order, each a stage, while blocks are held or not
--     RowsLeft               of them, so many have been applied
-- Assumes nothing.
use Rattle.std.specs.Prelude.{◌≡◌, refl, Bool, true, false, cond, ◌&&◌, ◌||◌, List, [], ◌∷◌, ℕ, zero, suc, ◌+◌, ◌≤◌, ◌<◌, leb, map, length, get_or, drop}
use Rattle.std.proofs.Math.Path.{ap}
use Rattle.std.proofs.Common.{◌∙◌, arith, leb-true, add-one, drop-cons}
use Rattle.std.proofs.Math.ListN.{drop_of_length-le}
use Rattle.std.specs.List.{list_any}
use Rattle.spec.specs.Symbols.{is, any}
use Rattle.spec.specs.Sweep.{Rule, sweep, replacing, replace}
use Rattle.spec.specs.Result.{Result, passed, refused, ◌then◌, stage}
use Rattle.spec.specs.Laws.Booleans.{and_left, and_right}
use Rattle.spec.specs.Rows.{Row}
use Rattle.spec.specs.Words.{greek, word, capital, literal, word_or_literal, replace_rows, capitals}
use Rattle.spec.specs.Matches.{Match, literal_match, greek_match, word_match, word_or_literal_match, capital_match}
use Rattle.name_entry.specs.declared.bounds.Bounds.{Bounds}
use Rattle.name_entry.specs.declared.bounds.Bounds.TheVariants.{Literal, Greek, Word, Capital, Defined}
use Rattle.text.specs.Writer.{most_written}
use Rattle.text.specs.Stage.{Ready, Progress}
use Rattle.text.specs.Untouched.{Untouched, untouched-same, untouched-alike, EntriesLeft, entries-more, entries-all}
use Rattle.name_entry.specs.Bounded.{
  EntryTextsFit,
  bounded,
  bounded_match,
  bounded-at-pattern,
  bounded-keeps,
  literal-bounded,
  greek-bounded,
  word-bounded,
  capital-bounded,
  literal-matches,
  greek-matches,
  word-matches,
  capital-matches,
}
use Rattle.name_entry.specs.Sized.{sized, sized-none, FitsWithBlocks, StagedWithin, unmatched-within, within-alike, Remaining, remaining-step, remaining-all}
use Rattle.name_entry.specs.Seen.{nowhere, nowhere-unmatched}
use Rattle.name_tables.specs.declared.LentRow.{LentRow}

-- a row of lent texts
abbrev pub lent_row : LentRow → Row
lent_row r = record { typst = r.0.now; latex = r.1.now }

abbrev pub row_rule : Bounds → Row → Rule
row_rule Literal r = replacing r.typst r.latex
row_rule Greek r = greek r
row_rule Word r = word_or_literal r
row_rule Capital r = capital r
row_rule Defined r = bounded Defined r.typst r.latex

abbrev pub row_match : Bounds → Row → Match
row_match Literal r = literal_match r
row_match Greek r = greek_match r
row_match Word r = word_or_literal_match r
row_match Capital r = capital_match r
row_match Defined r = bounded_match Defined r.typst

abbrev pub bounds_of : Bounds → List ℕ → Bounds
bounds_of Literal typst = Literal
bounds_of Greek typst = Greek
bounds_of Word typst = cond (literal typst) Literal Word
bounds_of Capital typst = Capital
bounds_of Defined typst = Defined

pub rule-bounded : (b : Bounds) (r : Row) (s : List ℕ) → sweep (bounded (bounds_of b r.typst) r.typst r.latex) 0 0 s ≡ sweep (row_rule b r) 0 0 s
rule-bounded Literal r s = literal-bounded r.typst r.latex s
rule-bounded Greek r s = greek-bounded r s
rule-bounded Capital r s = capital-bounded r s
rule-bounded Defined r s = refl
rule-bounded Word r s = go (literal r.typst)
  where
    go : (t : Bool) → sweep (bounded (cond t Literal Word) r.typst r.latex) 0 0 s ≡ sweep (cond t (replacing r.typst r.latex) (word r)) 0 0 s
    go true = literal-bounded r.typst r.latex s
    go false = word-bounded r s

match-bounded : (b : Bounds) (r : Row) (s : List ℕ) → bounded_match (bounds_of b r.typst) r.typst s ≡ row_match b r s
match-bounded Literal r s = literal-matches r.typst s
match-bounded Greek r s = greek-matches r s
match-bounded Capital r s = capital-matches r s
match-bounded Defined r s = refl
match-bounded Word r s = go (literal r.typst)
  where
    go : (t : Bool) → bounded_match (cond t Literal Word) r.typst s ≡ cond {A = Match} t (literal_match r) (word_match r) s
    go true = literal-matches r.typst s
    go false = word-matches r s

-- ---- rows that can be applied: a test, which antt computes for each table
abbrev pub fair_row : Row → Bool
fair_row r = leb 1 (length r.typst) && (leb (length r.typst) most_written && leb (length r.latex) most_written)

abbrev pub fair_rows : List Row → Bool
fair_rows [] = true
fair_rows (r ∷ rs) = fair_row r && fair_rows rs

pub row-fair : (r : Row) → fair_row r ≡ true → EntryTextsFit r.typst r.latex
row-fair r e =
    let widths = and_right (leb 1 (length r.typst)) _ e in record {
      positive = leb-true 1 (length r.typst) (and_left (leb 1 (length r.typst)) _ e);
      short = leb-true (length r.typst) most_written (and_left (leb (length r.typst) most_written) _ widths);
      few = leb-true (length r.latex) most_written (and_right (leb (length r.typst) most_written) _ widths);
    }

-- what is promised of a row
abbrev pub RowApplied : List ℕ → List ℕ → Progress → Progress → ℕ → Bounds → Row → Type 0
RowApplied w w' p p' extra b row = StagedWithin w w' p p' extra (sized extra (sweep (row_rule b row) 0 0)) × Untouched w w' p p' (row_match b row ∷ [])

-- a row, as the code applies it
pub row-applied :
    (b : Bounds) (row : Row) {w w' : List ℕ} {p p' : Progress} {extra : ℕ} {chosen : Bounds} → chosen ≡ bounds_of b row.typst
    → StagedWithin w w' p p' extra (sized extra (sweep (bounded chosen row.typst row.latex) 0 0))
    → Untouched w w' p p' (bounded_match chosen row.typst ∷ [])
    → RowApplied w w' p p' extra b row
row-applied b row e staged untouched = (
  within-alike (sweep (row_rule b row) 0 0) (λ s. ap (λ c. sweep (bounded c row.typst row.latex) 0 0 s) e ∙ rule-bounded b row s) staged,
  untouched-alike (λ s none. ap (λ c. bounded_match c row.typst s || false) e ∙ ap (λ t. t || false) (match-bounded b row s) ∙ none) untouched,
)

-- a row that is passed over, since its name is nowhere
pub row-nowhere :
    (b : Bounds) (row : Row) {w : List ℕ} {p : Progress} (extra : ℕ) → EntryTextsFit row.typst row.latex → Ready w p → FitsWithBlocks extra p
    → nowhere p w row.typst ≡ true
    → RowApplied w w p p extra b row
row-nowhere b row {w} {p} extra fair ready within e =
    let chosen = bounds_of b row.typst in
    row-applied b row refl
    (unmatched-within p extra ready within (bounded-keeps chosen fair) (nowhere-unmatched w p (bounded-at-pattern chosen row.typst) e)) untouched-same

-- ---- the rows of a table
unfoldable pub sized_rows : ℕ → (Row → Rule) → List Row → List ℕ → Result (List ℕ)
sized_rows extra rule [] s = passed s
sized_rows extra rule (r ∷ rs) s = sized extra (sweep (rule r) 0 0) s then sized_rows extra rule rs

-- a row that is left can be applied
pub row-left-fair : {A : Type 0} (row_of : A → Row) (table : List A) (i : ℕ) (d : A) → fair_rows (map row_of table) ≡ true → i < length table → fair_row (row_of (get_or table i d)) ≡ true
row-left-fair row_of [] i d e h = absurd (omega arith)
row-left-fair row_of (r ∷ rs) zero d e h = and_left (fair_row (row_of r)) (fair_rows (map row_of rs)) e
row-left-fair row_of (r ∷ rs) (suc i) d e h = row-left-fair row_of rs i d (and_right (fair_row (row_of r)) (fair_rows (map row_of rs)) e) (omega arith)

-- of a table, i rows have been applied
pub record RowsLeft {A : Type 0} (row_of : A → Row) (w₀ w : List ℕ) (p₀ p : Progress) (extra : ℕ) (b : Bounds) (table : List A) (i : ℕ) : Type 0 where
  pub remaining : Remaining w₀ w p₀ p extra (sized_rows extra (row_rule b) (map row_of table)) (sized_rows extra (row_rule b) (map row_of (drop i table)))
  pub entries : EntriesLeft w₀ w p₀ p (map (row_match b) (map row_of table)) (map (row_match b) (map row_of (drop i table)))

module _
    {A : Type 0} {row_of : A → Row} {w₀ w : List ℕ} {p₀ p : Progress} {extra : ℕ} {b : Bounds} {table : List A} {i : ℕ}
    (left : RowsLeft row_of w₀ w p₀ p extra b table i)
  where
    pub rows-left-more :
        {w' : List ℕ} {p' : Progress} (d : A) → i < length table → RowApplied w w' p p' extra b (row_of (get_or table i d))
        → RowsLeft row_of w₀ w' p₀ p' extra b table (i + 1)
    unfolding sized_rows
    rows-left-more d more applied =
        let next : drop i table ≡ get_or table i d ∷ drop (i + 1) table = rw (add-one, drop-cons table i d) in
        let rest = sized_rows extra (row_rule b) (map row_of (drop (i + 1) table)) in record {
          remaining = remaining-step left.remaining rest applied.0 (λ s. ap (λ rs. sized_rows extra (row_rule b) (map row_of rs) s) next);
          entries = entries-more (row_match b (row_of (get_or table i d)) ∷ []) _ left.entries (ap (λ rs. map (row_match b) (map row_of rs)) next) applied.1;
        }

    pub rows-left-none : length table ≤ i → StagedWithin w₀ w p₀ p extra (sized_rows extra (row_rule b) (map row_of table)) × Untouched w₀ w p₀ p (map (row_match b) (map row_of table))
    unfolding sized_rows
    rows-left-none none =
        let end : drop i table ≡ [] = drop_of_length-le table none in
        (remaining-all left.remaining (λ s. ap (λ rs. sized_rows extra (row_rule b) (map row_of rs) s) end), entries-all left.entries)

-- with nothing held, they are the definitions' stages
then_same : (r r' : Result (List ℕ)) (f g : List ℕ → Result (List ℕ)) → r ≡ r' → ((s : List ℕ) → f s ≡ g s) → (r then f) ≡ (r' then g)
then_same (passed s) r' f g e same = same s ∙ ap (λ r. r then g) e
then_same (refused n) r' f g e same = ap (λ r. r then g) e

pub rows_replaced : (rs : List Row) (s : List ℕ) → sized_rows 0 (row_rule Literal) rs s ≡ replace_rows rs s
unfolding sized_rows replace_rows replace
rows_replaced [] s = refl
rows_replaced (r ∷ rs) s =
    then_same (sized 0 (sweep (replacing r.typst r.latex) 0 0) s) (stage (replace r.typst r.latex) s) (sized_rows 0 (row_rule Literal) rs) (replace_rows rs)
    (sized-none (sweep (replacing r.typst r.latex) 0 0) s) (rows_replaced rs)

pub rows-capital : (rs : List Row) (s : List ℕ) → sized_rows 0 (row_rule Capital) rs s ≡ capitals rs s
unfolding sized_rows capitals
rows-capital [] s = refl
rows-capital (r ∷ rs) s =
    then_same (sized 0 (sweep (capital r) 0 0) s) (stage (sweep (capital r) 0 0) s) (sized_rows 0 (row_rule Capital) rs) (capitals rs)
    (sized-none (sweep (capital r) 0 0) s) (rows-capital rs)

-- ---- the test for words that are replaced wherever they stand
abbrev pub special : ℕ → Bool
special x = is "(" x || (is "|" x || is "." x)

pub any-listed : (f : ℕ → Bool) (s : List ℕ) → list_any f s ≡ any f s
any-listed f [] = refl
any-listed f (x ∷ s) = ap (λ t. f x || t) (any-listed f s)
