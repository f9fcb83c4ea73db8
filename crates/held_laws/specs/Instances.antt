-- The rules that rewrite between marks: definitions, Greek names and words. Assumes nothing.
--     defined-between              a definition of a sound table
--     greek-between, word-between  a row whose texts hold no mark
--     fine_rows                     the test of a table's rows, computed for both tables
--     definitions-made, rows_made  so a run of definitions, and of a table, keeps what is held well made
use Rattle.std.specs.Prelude.{◌≡◌, refl, Bool, true, false, not, cond, ◌&&◌, ◌||◌, List, [], ◌∷◌, ◌++◌, ℕ, ◌<◌, eqb, leb, ltb, length}
use Rattle.std.proofs.Common.{sym, ap, ap₂, ◌∙◌, subst, arith, eqb-true, leb-true}
use Rattle.std.proofs.lemmas.Bool.{false≢true, lt-leb, not-true, not-false}
use Rattle.std.proofs.Math.Bool.{and-false, and-true}
use Rattle.std.proofs.Math.Option.{Option, none, some, get_or}
use Rattle.spec.specs.Symbols.{is, digit, letter, alnum, wordly, foreign, head, all, any, empty, text_mark, roman_mark}
use Rattle.spec.specs.Sweep.{Rule, sweep, replacing}
use Rattle.spec.specs.Result.{Result, passed, refused, ◌then◌, most_symbols}
use Rattle.spec.specs.Held.{Held, with_text, in_full, held_stage}
use Rattle.spec.specs.Table.{Definition, faulty_name, faulty_latex, faulty, named as named-twice, definitions, in_order, Rearranged, nothing, put}
use Rattle.spec.specs.Definitions.{defined, apply_definition, apply_definitions}
use Rattle.spec.specs.Rows.{Row, greek_letters, word_mappings}
use Rattle.spec.specs.Words.{greek, word, literal, word_or_literal, held_rows}
use Rattle.spec.specs.Pipeline.{definitions_or}
use Rattle.spec.specs.Laws.Booleans.{or-neither, and_parts}
use Rattle.spec.specs.Laws.Order.{rearranged-in-order}
use Rattle.spec.specs.Laws.Table.{definitions-some}
use Rattle.held_laws.specs.Marks.{is_mark, has_mark}
use Rattle.held_laws.specs.WellMade.{WellMade}
use Rattle.held_laws.specs.Rewriting.{Name, Between, sweep-made}

-- ---- classes of symbols
-- a symbol that is no mark; x is text_mark or roman_mark else
unmarked : (f : ℕ → Bool) → f text_mark ≡ true → f roman_mark ≡ true → (x : ℕ) → f x ≡ false → is_mark x ≡ false
unmarked f t r x e = go (eqb x text_mark) refl (eqb x roman_mark) refl
  where
    go : (p : Bool) → eqb x text_mark ≡ p → (q : Bool) → eqb x roman_mark ≡ q → p || q ≡ false
    go true p q u = absurd (false≢true (sym e ∙ ap f (eqb-true x text_mark p) ∙ t))
    go false p true u = absurd (false≢true (sym e ∙ ap f (eqb-true x roman_mark u) ∙ r))
    go false p false u = refl

pub any-unmarked : (f : ℕ → Bool) → f text_mark ≡ true → f roman_mark ≡ true → (s : List ℕ) → any f s ≡ false → has_mark s ≡ false
any-unmarked f t r [] e = refl
any-unmarked f t r (x ∷ s) e =
    let both = or-neither (f x) (any f s) e in
    ap₂ (λ a b. a || b) (unmarked f t r x both.0) (any-unmarked f t r s both.1)

all-unmarked : (f : ℕ → Bool) → f text_mark ≡ false → f roman_mark ≡ false → (s : List ℕ) → all f s ≡ true → has_mark s ≡ false
all-unmarked f t r [] e = refl
all-unmarked f t r (x ∷ s) e =
    let both = and_parts (f x) (all f s) e in
    ap₂ (λ a b. a || b) (unmarked (λ y. not (f y)) (ap not t) (ap not r) x (ap not both.0)) (all-unmarked f t r s both.1)

letter-no-digit : (x : ℕ) → letter x ≡ true → digit x ≡ false
letter-no-digit x e = go (leb 97 x) refl (leb 65 x) refl e
  where
    large : 57 < x → leb 48 x && leb x 57 ≡ false
    large l = rw (lt-leb x 57 l) (and-false (leb 48 x))

    go : (a : Bool) → leb 97 x ≡ a → (b : Bool) → leb 65 x ≡ b → (a && leb x 122) || (b && leb x 90) ≡ true → digit x ≡ false
    go true p b q e = let l = leb-true 97 x p in large (omega arith)
    go false p true q e = let l = leb-true 65 x q in large (omega arith)
    go false p false q e = absurd (false≢true e)

-- ---- definitions
letter-start : (w : List ℕ) → letter (head w) && all alnum w ≡ true → Name w
letter-start [] e = absurd (false≢true e)
letter-start (x ∷ w) e =
    let both = and_parts (letter x) (all alnum (x ∷ w)) e in
    record { start = x; more = w; split = refl; no_digit = letter-no-digit x both.0; mark-free = all-unmarked alnum refl refl (x ∷ w) both.1 }

-- a definition that number 3 lets pass
pub record SoundDefinition (d : Definition) : Type 0 where
  pub name : faulty_name d.name ≡ false
  pub latex : faulty_latex d.latex ≡ false

pub defined-between : {d : Definition} → SoundDefinition d → Between (defined d)
defined-between {d} sound =
    let free = any-unmarked (λ x. foreign x || is "$" x) refl refl d.latex sound.latex in
    record {
      name = d.name;
      allowed = λ before behind. not (wordly before) && not (letter behind);
      fresh = λ before behind. d.latex;
      a-name = letter-start d.name (not-false _ sound.name);
      same = λ before s. refl;
      plain = λ before behind. free;
      allowed-before = λ behind. refl;
      allowed-behind = λ before. refl;
      fresh-before = λ behind. refl;
      fresh-behind = λ before. refl;
    }

-- ---- rows
abbrev pub fine_row : Row → Bool
fine_row r = not (empty r.typst) && (not (digit (head r.typst)) && (not (has_mark r.typst) && not (has_mark r.latex)))

abbrev pub fine_rows : List Row → Bool
fine_rows [] = true
fine_rows (r ∷ rs) = fine_row r && fine_rows rs

pub greek-fine : fine_rows greek_letters ≡ true
greek-fine = refl

pub words-fine : fine_rows word_mappings ≡ true
words-fine = refl

record Fine (r : Row) : Type 0 where
  pub a-name : Name r.typst
  pub mark-free : has_mark r.latex ≡ false

fine : (r : Row) → fine_row r ≡ true → Fine r
fine r e = go r.typst refl e
  where
    go : (w : List ℕ) → r.typst ≡ w → not (empty w) && (not (digit (head w)) && (not (has_mark w) && not (has_mark r.latex))) ≡ true → Fine r
    go [] p e = absurd (false≢true e)
    go (x ∷ w) p e =
        let one = and_parts (not (digit x)) (not (has_mark (x ∷ w)) && not (has_mark r.latex)) e in
        let two = and_parts (not (has_mark (x ∷ w))) (not (has_mark r.latex)) one.1 in
        record {
          a-name = record { start = x; more = w; split = p; no_digit = not-true (digit x) one.0; mark-free = ap has_mark p ∙ not-true (has_mark (x ∷ w)) two.0 };
          mark-free = not-true (has_mark r.latex) two.1;
        }

either-free : (t : Bool) (x y : List ℕ) → has_mark x ≡ false → has_mark y ≡ false → has_mark (cond t x y) ≡ false
either-free true x y a b = a
either-free false x y a b = b

pub greek-between : (r : Row) → fine_row r ≡ true → Between (greek r)
greek-between r e =
    let f = fine r e in
    record {
      name = r.typst;
      allowed = λ before behind. true;
      fresh = λ before behind. cond (is "\\" before || (letter before || letter behind)) r.typst r.latex;
      a-name = f.a-name;
      same = λ before s. rw and-true;
      plain = λ before behind. either-free (is "\\" before || (letter before || letter behind)) r.typst r.latex f.a-name.mark-free f.mark-free;
      allowed-before = λ behind. refl;
      allowed-behind = λ before. refl;
      fresh-before = λ behind. refl;
      fresh-behind = λ before. refl;
    }

pub word-between : (r : Row) → fine_row r ≡ true → Between (word_or_literal r)
word-between r e = go (literal r.typst) (fine r e)
  where
    go : (t : Bool) → Fine r → Between (cond t (replacing r.typst r.latex) (word r))
    go true f =
        record {
          name = r.typst;
          allowed = λ before behind. true;
          fresh = λ before behind. r.latex;
          a-name = f.a-name;
          same = λ before s. rw and-true;
          plain = λ before behind. f.mark-free;
          allowed-before = λ behind. refl;
          allowed-behind = λ before. refl;
          fresh-before = λ behind. refl;
          fresh-behind = λ before. refl;
        }
    go false f =
        record {
          name = r.typst;
          allowed = λ before behind. not (wordly before);
          fresh = λ before behind. cond (is "\\" before || alnum behind) r.typst r.latex;
          a-name = f.a-name;
          same = λ before s. refl;
          plain = λ before behind. either-free (is "\\" before || alnum behind) r.typst r.latex f.a-name.mark-free f.mark-free;
          allowed-before = λ behind. refl;
          allowed-behind = λ before. refl;
          fresh-before = λ behind. refl;
          fresh-behind = λ before. refl;
        }

-- ---- a run of rules
unfoldable pub EverySound : List Definition → Type 0
EverySound [] = Unit {0}
EverySound (d ∷ ds) = SoundDefinition d × EverySound ds

abbrev is_passed : {A : Type 0} → Result A → Bool
is_passed (passed a) = true
is_passed (refused n) = false

abbrev or_else : {A : Type 0} → A → Result A → A
or_else a (passed b) = b
or_else a (refused n) = a

pub passed-one : {A : Type 0} {a b : A} → passed a ≡ passed b → a ≡ b
passed-one {a = a} e = ap (or_else a) e

pub refused-not : {A B : Type 0} {n : ℕ} {a : A} → refused n ≡ passed a → B
refused-not e = absurd (false≢true (ap is_passed e))

-- a stage that went through, and what came behind it
pub stage-made :
    (f : List ℕ → List ℕ) (h : Held) {g : Held} (k : Held → Result Held) → held_stage f h then k ≡ passed g → k (with_text h (f h.text)) ≡ passed g
stage-made f h {g} k e = go (ltb most_symbols (length (in_full (with_text h (f h.text))))) e
  where
    go : (t : Bool) → cond t (refused 5) (passed (with_text h (f h.text))) then k ≡ passed g → k (with_text h (f h.text)) ≡ passed g
    go true e = refused-not e
    go false e = e

-- the records of a table that number 3 lets pass are sound, in whatever order
sound-table : (ds : List Definition) → faulty ds ≡ false → EverySound ds
unfolding faulty EverySound
sound-table [] e = tt
sound-table (d ∷ ds) e =
    let one = or-neither (faulty_name d.name) (faulty_latex d.latex || (named-twice d.name ds || faulty ds)) e in
    let two = or-neither (faulty_latex d.latex) (named-twice d.name ds || faulty ds) one.1 in
    (record { name = one.0; latex = two.0 }, sound-table ds (or-neither (named-twice d.name ds) (faulty ds) two.1).1)

sound-put : (d : Definition) (es fs : List Definition) → SoundDefinition d → EverySound (es ++ fs) → EverySound (es ++ d ∷ fs)
unfolding EverySound
sound-put d [] fs one all = (one, all)
sound-put d (e ∷ es) fs one all = (all.0, sound-put d es fs one all.1)

sound-order : {ds order : List Definition} → Rearranged ds order → EverySound ds → EverySound order
unfolding EverySound
sound-order nothing all = all
sound-order (put d es fs r) all = sound-put d es fs all.0 (sound-order r all.1)

pub order-sound : (table : List ℕ) (ds : List Definition) → definitions table ≡ some ds → EverySound (in_order ds)
order-sound table ds e = sound-order (rearranged-in-order ds) (sound-table ds (definitions-some table ds e).1)

-- a table that is refused has no definitions
pub table-sound : (table : List ℕ) → EverySound (in_order (definitions_or table))
unfolding EverySound in_order
table-sound table = go (definitions table) refl
  where
    go : (o : Option (List Definition)) → definitions table ≡ o → EverySound (in_order (get_or o []))
    go none e = tt
    go (some ds) e = order-sound table ds e

pub definitions-made : (ds : List Definition) → EverySound ds → {h g : Held} → WellMade h → apply_definitions ds h ≡ passed g → WellMade g
unfolding apply_definitions EverySound apply_definition
definitions-made [] sound {h} made e = subst WellMade (passed-one e) made
definitions-made (d ∷ ds) sound {h} {g} made e = go (eqb (length d.name) 1) e (λ h g made e. definitions-made ds sound.1 {h = h} {g = g} made e)
  where
    go : (t : Bool)
        → elim t as (λ _. Result Held) [ true ↦ apply_definitions ds h | false ↦ held_stage (apply_definition d) h then apply_definitions ds ] ≡ passed g
        → ((h g : Held) → WellMade h → apply_definitions ds h ≡ passed g → WellMade g) → WellMade g
    go true e more = more h g made e
    go false e more = more (with_text h (apply_definition d h.text)) g (sweep-made (defined-between sound.0) made) (stage-made (apply_definition d) h (apply_definitions ds) e)

pub rows_made :
    (rule : Row → Rule) → ((r : Row) → fine_row r ≡ true → Between (rule r)) → (rs : List Row) → fine_rows rs ≡ true
    → {h g : Held} → WellMade h → held_rows rule rs h ≡ passed g → WellMade g
unfolding held_rows
rows_made rule each [] f made e = subst WellMade (passed-one e) made
rows_made rule each (r ∷ rs) f {h} {g} made e =
    let both = and_parts (fine_row r) (fine_rows rs) f in
    rows_made rule each rs both.1 (sweep-made (each r both.0) made) (stage-made (sweep (rule r) 0 0) h (held_rows rule rs) e)
