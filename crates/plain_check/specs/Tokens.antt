-- What comes next in a text: a sign, one more factor, an atom. Assumes nothing.
use Rattle.std.specs.Prelude.{◌≡◌, ◌<◌, Option as Maybe, Some, None, Bool, not, cond, ◌&&◌, ◌||◌, List, [], ◌∷◌, ℕ, suc, eqb, ltb, length, take}
use Rattle.spec.specs.Symbols.{is, letter, digit, alnum, all}
use Rattle.spec.specs.Finish.{one_of}
use Rattle.spec.specs.Grammar.{greek_names}
use Rattle.plain_parts.specs.Parts.{at}

abbrev pub sign_next : List ℕ → Bool
sign_next xs = is " " (at xs 0) && (is "+" (at xs 1) || is "-" (at xs 1)) && is " " (at xs 2)

abbrev pub factor_next : List ℕ → Bool
factor_next xs = is " " (at xs 0) && not (is "+" (at xs 1)) && not (is "-" (at xs 1))

-- how many letters and digits come next
abbrev pub run : List ℕ → ℕ
run [] = 0
run (x ∷ xs) = cond (alnum x) (suc (run xs)) 0

abbrev pub is_number : List ℕ → Bool
is_number xs = all digit xs && (ltb 0 (length xs) && ltb (length xs) 10)

abbrev pub is_variable : List ℕ → Bool
is_variable xs = letter (at xs 0) && eqb (length xs) 1

abbrev pub is_atom : List ℕ → Bool
is_atom xs = is_number xs || (is_variable xs || one_of greek_names xs)

-- the length of the atom that comes next, or 0: it is all of a run of letters and digits
abbrev pub atom_length : List ℕ → ℕ
atom_length xs = cond (is_atom (take (run xs) xs)) (run xs) 0

-- the same as the code answers it, with none in place of 0
abbrev pub Atom : List ℕ → Maybe ℕ → Type 0
Atom xs (Some n) = (0 < n) × (n ≡ atom_length xs)
Atom xs None = 0 ≡ atom_length xs
