-- Laws of what comes next: how much of the text it takes. Assumes nothing.
use Rattle.std.specs.Prelude.{◌≡◌, refl, Bool, true, false, not, cond, ◌&&◌, ◌||◌, List, [], ◌∷◌, ℕ, zero, suc, ◌≤◌, ◌<◌, length, take, drop}
use Rattle.std.proofs.Common.{sym, ap, ◌∙◌, arith, length-drop, eqb-true}
use Rattle.std.proofs.lemmas.Bool.{false≢true}
use Prim.Native.Char.{code}
use Rattle.spec.specs.Symbols.{is, alnum, drop_while}
use Rattle.spec.specs.Laws.Booleans.{and_left, and_right}
use Rattle.text_symbols.specs.Places.{AheadTo}
use Rattle.plain_parts.specs.Parts.{at}
use Rattle.plain_check.specs.Tokens.{sign_next, factor_next, run, is_atom, atom_length}

-- a byte that is not 0 lies in the text
pub in-text : (xs : List ℕ) (i : ℕ) → 0 < at xs i → i < length xs
in-text [] i h = absurd (omega arith)
in-text (x ∷ xs) zero h = omega arith
in-text (x ∷ xs) (suc i) h = let l = in-text xs i h in omega arith

pub sign-room : (xs : List ℕ) → sign_next xs ≡ true → 3 ≤ length xs
sign-room xs e = let f : at xs 2 ≡ code " " = eqb-true (at xs 2) (code " ") (and_right (is " " (at xs 0) && (is "+" (at xs 1) || is "-" (at xs 1))) _ e) in in-text xs 2 (omega arith)

pub factor-room : (xs : List ℕ) → factor_next xs ≡ true → 1 ≤ length xs
factor-room xs e = let f : at xs 0 ≡ code " " = eqb-true (at xs 0) (code " ") (and_left _ (not (is "+" (at xs 1))) (and_left _ (not (is "-" (at xs 1))) e)) in in-text xs 0 (omega arith)

pub byte-room : (xs : List ℕ) (b : ℕ) → 0 < b → at xs 0 ≡ b → 1 ≤ length xs
byte-room xs b h e = in-text xs 0 (omega arith)

-- a letter or a digit is no byte 0
pub word_room : (xs : List ℕ) → alnum (at xs 0) ≡ true → 1 ≤ length xs
word_room [] e = absurd (false≢true e)
word_room (x ∷ xs) e = omega arith

pub run_room : (xs : List ℕ) → run xs ≤ length xs
run_room [] = omega arith
run_room (x ∷ xs) = by (alnum x) (run_room xs)
  where
    by : (b : Bool) → run xs ≤ length xs → cond b (suc (run xs)) 0 ≤ suc (length xs)
    by true h = omega arith
    by false h = omega arith

run_drop : (xs : List ℕ) → drop (run xs) xs ≡ drop_while alnum xs
run_drop [] = refl
run_drop (x ∷ xs) = by (alnum x) (run_drop xs)
  where
    by : (b : Bool) → drop (run xs) xs ≡ drop_while alnum xs → drop (cond b (suc (run xs)) 0) (x ∷ xs) ≡ elim b [ true ↦ drop_while alnum xs | false ↦ x ∷ xs ]
    by true e = e
    by false e = refl

-- where the run ends
pub run_is : {s : List ℕ} {r : ℕ} → AheadTo s 0 r (drop_while alnum s) → r ≡ run s
run_is {s} {r} a =
    let w = a.within in let h = run_room s in
    let d = length-drop r s in let e = length-drop (run s) s in
    let same = ap length (a.left ∙ sym (run_drop s)) in omega arith

pub atom-room : (xs : List ℕ) → atom_length xs ≤ length xs
atom-room xs = by (is_atom (take (run xs) xs))
  where
    by : (b : Bool) → cond b (run xs) 0 ≤ length xs
    by true = run_room xs
    by false = omega arith

-- an atom has some symbol
pub atom-nonempty : (n : ℕ) (s : List ℕ) → is_atom (take n s) ≡ true → 0 < n
atom-nonempty zero [] e = absurd (false≢true e)
atom-nonempty zero (x ∷ s) e = absurd (false≢true e)
atom-nonempty (suc n) s e = omega arith
