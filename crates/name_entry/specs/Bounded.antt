-- The rule of an entry: a pattern between symbols that allow it is taken as a whole, and left as it is or written anew.
--     allowed, left     what stands around the pattern, for each kind of entry
--     bounded           the rule
--     bounded_at, bounded_match    where it writes the entry's text (`bounded-writes`), and elsewhere what it takes (`bounded-keeps`)
--     literal-bounded, greek-bounded, ..    the rules of the definitions are such rules, and their matches such matches
-- Assumes nothing.
use Rattle.std.specs.Prelude.{◌≡◌, refl, Bool, true, false, not, cond, ◌&&◌, ◌||◌, List, ℕ, suc, pred, ◌+◌, ◌≤◌, ◌<◌, eqb, length, get_or, take, drop}
use Rattle.std.proofs.Common.{sym, ap, ◌∙◌, arith, drop-drop}
use Rattle.std.proofs.Math.Bool.{and-true}
use Rattle.std.proofs.lemmas.Bool.{false≢true}
use Rattle.spec.specs.Symbols.{is, letter, alnum, wordly, head, starts, contains}
use Rattle.spec.specs.Sweep.{Rule, kept, taken, sweep, replacing}
use Rattle.spec.specs.Rows.{Row}
use Rattle.spec.specs.Words.{embedded, greek, word, capital}
use Rattle.spec.specs.Table.{Definition}
use Rattle.spec.specs.Definitions.{defined}
use Rattle.spec.specs.Matches.{Match, somewhere, greek_match, word_match, capital_match, defined_match}
use Rattle.spec.specs.Laws.Booleans.{and_left}
use Rattle.spec.specs.Laws.Symbols.{head-drop, starts-take}
use Rattle.spec.specs.Laws.Sweep.{Waits, sweep-same}
use Rattle.spec.specs.Laws.Matches.{Keeps, AtPattern, somewhere-alike, somewhere-contains}
use Rattle.text.specs.Writer.{most_written}
use Rattle.name_entry.specs.declared.bounds.Bounds.{Bounds}
use Rattle.name_entry.specs.declared.bounds.Bounds.TheVariants.{Literal, Greek, Word, Capital, Defined}

abbrev pub allowed : Bounds → ℕ → ℕ → Bool
allowed Literal before behind = true
allowed Greek before behind = true
allowed Word before behind = not (wordly before)
allowed Capital before behind = not (wordly before) && not (wordly behind)
allowed Defined before behind = not (wordly before) && not (letter behind)

abbrev pub left : Bounds → ℕ → ℕ → Bool
left Literal before behind = false
left Greek before behind = is "\\" before || (letter before || letter behind)
left Word before behind = is "\\" before || alnum behind
left Capital before behind = is "\\" before
left Defined before behind = false

abbrev pub stands : Bounds → List ℕ → ℕ → List ℕ → Bool
stands b pattern before s = starts pattern s && allowed b before (head (drop (length pattern) s))

abbrev pub spares : Bounds → List ℕ → ℕ → List ℕ → Bool
spares b pattern before s = left b before (head (drop (length pattern) s))

abbrev pub bounded : Bounds → List ℕ → List ℕ → Rule
bounded b pattern fresh before s = cond (stands b pattern before s) (taken (length pattern) (cond (spares b pattern before s) pattern fresh)) (kept s)

-- a name that is spared is no match
abbrev pub bounded_at : Bounds → List ℕ → ℕ → List ℕ → Bool
bounded_at b pattern before s = stands b pattern before s && not (spares b pattern before s)

abbrev pub bounded_match : Bounds → List ℕ → Match
bounded_match b pattern s = somewhere (bounded_at b pattern) 0 s

-- ---- a place, as the code looks at it
module _ (b : Bounds) (pattern : List ℕ) (before : ℕ) (s : List ℕ) where
  pub stands-met : starts pattern s ≡ true → allowed b before (head (drop (length pattern) s)) ≡ stands b pattern before s
  stands-met e = rw e

pub behind-at : (pattern s : List ℕ) (i : ℕ) → get_or s (i + length pattern) 0 ≡ head (drop (length pattern) (drop i s))
behind-at pattern s i = sym (ap head (drop-drop (length pattern) i s) ∙ head-drop s (i + length pattern))

-- what an entry's texts have to be
pub record EntryTextsFit (pattern fresh : List ℕ) : Type 0 where
  pub positive : 0 < length pattern
  pub short : length pattern ≤ most_written
  pub few : length fresh ≤ most_written

pub bounded-waits : (b : Bounds) (pattern fresh : List ℕ) → Waits pattern (bounded b pattern fresh)
bounded-waits b pattern fresh = record { copies = λ before s e. rw e }

pub bounded-at-pattern : (b : Bounds) (pattern : List ℕ) → AtPattern pattern (bounded_at b pattern)
bounded-at-pattern b pattern = record { fails = λ before s e. rw e }

pub bounded-keeps : (b : Bounds) {pattern fresh : List ℕ} → EntryTextsFit pattern fresh → Keeps (bounded_at b pattern) (bounded b pattern fresh)
bounded-keeps b {pattern} {fresh} fair = record { writes = λ before s e. go before s (stands b pattern before s) (spares b pattern before s) refl e }
  where
    go :
        (before : ℕ) (s : List ℕ) (t u : Bool) → stands b pattern before s ≡ t → t && not u ≡ false
        → (let turn = cond t (taken (length pattern) (cond u pattern fresh)) (kept s) in turn.fresh ≡ take (suc turn.more) s)
    go before s true true e f =
        let positive = fair.positive in
        let n : length pattern ≡ suc (pred (length pattern)) = omega arith in
        sym (starts-take pattern s (and_left (starts pattern s) _ e)) ∙ ap (λ m. take m s) n
    go before s true false e f = absurd (false≢true (sym f))
    go before s false u e f = refl

-- a match is no more than that: there the entry's own text is written
pub bounded-writes : (b : Bounds) (pattern fresh : List ℕ) (before : ℕ) (s : List ℕ) → bounded_at b pattern before s ≡ true → bounded b pattern fresh before s ≡ taken (length pattern) fresh
bounded-writes b pattern fresh before s e = go (stands b pattern before s) (spares b pattern before s) e
  where
    go : (t u : Bool) → t && not u ≡ true → cond t (taken (length pattern) (cond u pattern fresh)) (kept s) ≡ taken (length pattern) fresh
    go true true e = absurd (false≢true e)
    go true false e = refl
    go false u e = absurd (false≢true e)

-- ---- the definitions' rules and matches
-- two rules that are the same at every place sweep alike
sweep-alike : (r r' : Rule) → ((before : ℕ) (s : List ℕ) → r before s ≡ r' before s) → (s : List ℕ) → sweep r 0 0 s ≡ sweep r' 0 0 s
sweep-alike r r' same s = sweep-same r r' (length s) (λ before t h. same before t) s 0 0 (omega arith)

pub literal-bounded : (pattern fresh s : List ℕ) → sweep (bounded Literal pattern fresh) 0 0 s ≡ sweep (replacing pattern fresh) 0 0 s
literal-bounded pattern fresh = sweep-alike (bounded Literal pattern fresh) (replacing pattern fresh) (λ before t. ap (λ b. cond b (taken (length pattern) fresh) (kept t)) (and-true (starts pattern t)))

pub greek-bounded : (r : Row) (s : List ℕ) → sweep (bounded Greek r.typst r.latex) 0 0 s ≡ sweep (greek r) 0 0 s
greek-bounded r =
    sweep-alike (bounded Greek r.typst r.latex) (greek r)
    (λ before t. ap (λ b. cond b (taken (length r.typst) (cond (spares Greek r.typst before t) r.typst r.latex)) (kept t)) (and-true (starts r.typst t)))

pub word-bounded : (r : Row) (s : List ℕ) → sweep (bounded Word r.typst r.latex) 0 0 s ≡ sweep (word r) 0 0 s
word-bounded r s = refl

pub capital-bounded : (r : Row) (s : List ℕ) → sweep (bounded Capital r.typst r.latex) 0 0 s ≡ sweep (capital r) 0 0 s
capital-bounded r s = refl

pub defined-bounded : (d : Definition) (s : List ℕ) → sweep (bounded Defined d.name d.latex) 0 0 s ≡ sweep (defined d) 0 0 s
defined-bounded d s = refl

pub literal-matches : (pattern s : List ℕ) → bounded_match Literal pattern s ≡ contains pattern s
literal-matches pattern s =
    somewhere-alike {test' = λ before t. starts pattern t} (λ before t. and-true (starts pattern t && true) ∙ and-true (starts pattern t)) 0 s
    ∙ somewhere-contains pattern 0 s

pub greek-matches : (r : Row) (s : List ℕ) → bounded_match Greek r.typst s ≡ greek_match r s
greek-matches r s = somewhere-alike (λ before t. ap (λ b. b && not (embedded r.typst before t)) (and-true (starts r.typst t))) 0 s

pub word-matches : (r : Row) (s : List ℕ) → bounded_match Word r.typst s ≡ word_match r s
word-matches r s = refl

pub capital-matches : (r : Row) (s : List ℕ) → bounded_match Capital r.typst s ≡ capital_match r s
capital-matches r s = refl

pub defined-matches : (d : Definition) → eqb (length d.name) 1 ≡ false → (s : List ℕ) → bounded_match Defined d.name s ≡ defined_match d s
defined-matches d e s = somewhere-alike (λ before t. and-true (stands Defined d.name before t)) 0 s ∙ (rw e)
