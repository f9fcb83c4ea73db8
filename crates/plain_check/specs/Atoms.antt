-- An atom's text, read: it is a run of letters and digits, and the test for atoms holds of just these texts. Assumes nothing.
--     atom-tested, AtomSpelled, spelled     the test holds of every atom's text, and where it holds the text is some atom's
--     atom-length                           an atom is read whole where no letter or digit comes behind it
use Rattle.std.specs.Prelude.{◌≡◌, refl, true, false, ◌&&◌, ◌||◌, List, [], ◌∷◌, ◌++◌, ℕ, suc, ◌<◌, eqb, ltb, length}
use Rattle.std.proofs.Common.{sym, ap, ◌∙◌, arith, take_at, ltb-true, lt-ltb, ne_eqb}
use Rattle.std.proofs.lemmas.Bool.{false≢true}
use Rattle.spec.specs.Symbols.{letter, digit, alnum, all}
use Rattle.spec.specs.Finish.{one_of}
use Rattle.spec.specs.Grammar.{Atom, variable, greek, number, greek_name, greek_names, atom_text}
use Rattle.spec.specs.Laws.Booleans.{and_left, and_right, and_both, or_left, or_right, or_split}
use Rattle.spec.specs.Laws.Names.{row_of, row-one-of, row-rule}
use Rattle.plain_parts.specs.Parts.{at}
use Rattle.plain_check.specs.Tokens.{run, is_number, is_variable, is_atom, atom_length}

-- ---- every atom's text is taken
pub atom-tested : (a : Atom) → is_atom (atom_text a) ≡ true
unfolding greek_name
atom-tested (variable c e) = or_right (is_number (c ∷ [])) (is_variable (c ∷ []) || one_of greek_names (c ∷ [])) (or_left (one_of greek_names (c ∷ [])) (and_both e refl))
atom-tested (greek row e) =
    let name = greek_name row in
    or_right (is_number name) (is_variable name || one_of greek_names name)
    (or_right (is_variable name) (one_of greek_names name) (row-one-of greek_names row (ltb-true row 30 e)))
atom-tested (number ds e b) = or_left (is_variable ds || one_of greek_names ds) (and_both e b)

-- ---- and where a text is taken it is some atom's
pub record AtomSpelled (s : List ℕ) : Type 0 where
  pub atom : Atom
  pub spells : atom_text atom ≡ s

pub spelled : (s : List ℕ) → is_atom s ≡ true → AtomSpelled s
unfolding greek_name
spelled s e =
    or_split (is_number s) (is_variable s || one_of greek_names s) e
    (λ n. let sizes = ltb 0 (length s) && ltb (length s) 10 in record { atom = number s (and_left (all digit s) sizes n) (and_right (all digit s) sizes n); spells = refl })
    (λ o. or_split (is_variable s) (one_of greek_names s) o (variable-of s)
    (λ g. let r = row_of greek_names s g in record { atom = greek r.row (lt-ltb r.row 30 r.within); spells = r.holds }))
  where
    variable-of : (s : List ℕ) → is_variable s ≡ true → AtomSpelled s
    variable-of [] e = absurd (false≢true e)
    variable-of (x ∷ []) e = record { atom = variable x (and_left (letter x) true e); spells = refl }
    variable-of (x ∷ y ∷ s) e = absurd (false≢true (sym (ne_eqb (suc (suc (length s))) 1 (omega arith)) ∙ and_right (letter x) (eqb (suc (suc (length s))) 1) e))

-- ---- it is a run
digits-words : (s : List ℕ) → all digit s ≡ true → all alnum s ≡ true
digits-words [] e = refl
digits-words (x ∷ s) e =
    and_both (or_right (letter x) (digit x) (and_left (digit x) (all digit s) e)) (digits-words s (and_right (digit x) (all digit s) e))

pub atom-words : (a : Atom) → all alnum (atom_text a) ≡ true
unfolding greek_name
atom-words (variable c e) = and_both (or_left (digit c) e) refl
atom-words (greek row e) = row-rule (all alnum) greek_names refl row (ltb-true row 30 e)
atom-words (number ds e b) = digits-words ds e

-- no test for atoms holds of the empty text
tested-some : (s : List ℕ) → is_atom s ≡ true → 0 < length s
tested-some [] e = absurd (false≢true e)
tested-some (x ∷ s) e = omega arith

pub atom-some : (a : Atom) → 0 < length (atom_text a)
atom-some a = tested-some (atom_text a) (atom-tested a)

first_word : (s xs : List ℕ) → 0 < length s → all alnum s ≡ true → alnum (at (s ++ xs) 0) ≡ true
first_word [] xs h e = absurd (omega arith)
first_word (x ∷ s) xs h e = and_left (alnum x) (all alnum s) e

pub atom-begins-alnum : (a : Atom) (xs : List ℕ) → alnum (at (atom_text a ++ xs) 0) ≡ true
atom-begins-alnum a xs = first_word (atom_text a) xs (atom-some a) (atom-words a)

run-words : (s xs : List ℕ) → all alnum s ≡ true → alnum (at xs 0) ≡ false → run (s ++ xs) ≡ length s
run-words [] [] e w = refl
run-words [] (x ∷ xs) e w = rw w
run-words (x ∷ s) xs e w = rw (and_left (alnum x) (all alnum s) e) (ap suc (run-words s xs (and_right (alnum x) (all alnum s) e) w))

pub atom-length : (a : Atom) (xs : List ℕ) → alnum (at xs 0) ≡ false → length (atom_text a) ≡ atom_length (atom_text a ++ xs)
atom-length a xs w =
    let s = atom_text a in
    rw (run-words s xs (atom-words a) w, take_at s xs (length s) refl, atom-tested a)
