-- What the searches for a fraction's operands leave over is no longer than what they were given. Assumes nothing.
--     Within                        a text of at most so many symbols, if there is one
--     before-within, after-within   that of the searches for numerator and denominator
use Rattle.std.specs.Prelude.{Bool, true, false, ◌||◌, List, [], ◌∷◌, ℕ, zero, suc, ◌≤◌, eqb, length}
use Rattle.std.proofs.Math.Option.{Option, none, some}
use Prim.Native.Char.{code}
use Rattle.std.proofs.Common.{arith, length-drop}
use Rattle.spec.specs.Symbols.{bytes, is, alnum, head, until, drop_while, starts, ends}
use Rattle.spec.specs.Closing.{Side, opens, closes, neither, side, depth_after, close, or_end}
use Rattle.spec.specs.Fractions.{in_operand, name_symbol, name_before, with_name, word_before, find_fraction_part_before, factorials, exponent, power, grouped, word_after, rvert_from, after_lvert, braces, bracket, arguments, shorter_than, after_word, find_fraction_part_after}

pub data Within (n : ℕ) : Option (List ℕ) → Type 0 where
  nowhere : Within n none
  found : (r : List ℕ) → length r ≤ n → Within n (some r)

wider : {n m : ℕ} {o : Option (List ℕ)} → n ≤ m → Within n o → Within m o
wider h nowhere = nowhere
wider h (found r l) = found r (omega arith)

either-length : {n : ℕ} (b : Bool) (s t : List ℕ) → length s ≤ n → length t ≤ n → length {A = ℕ} (elim b as (λ _. List ℕ) [ true ↦ s | false ↦ t ]) ≤ n
either-length true s t h l = h
either-length false s t h l = l

pub drop-while-length : (f : ℕ → Bool) (s : List ℕ) → length (drop_while f s) ≤ length s
drop-while-length f [] = omega arith
drop-while-length f (x ∷ s) = let later = drop-while-length f s in either-length (f x) _ _ (omega arith) (omega arith)

-- ---- closers
close-within : (o c : ℕ) (s : List ℕ) (d : ℕ) → Within (length s) (close o c d s)
unfolding close
close-within o c [] d = nowhere
close-within o c (x ∷ s) d = go (side o c x) d (λ k. wider (omega arith) (close-within o c s k))
  where
    go : (m : Side) (d : ℕ) → ((k : ℕ) → Within (suc (length s)) (close o c k s))
        → Within (suc (length s)) (elim m as (λ _. Option (List ℕ)) [ opens ↦ close o c (suc d) s | closes ↦ elim d as (λ _. Option (List ℕ)) [ zero ↦ some s | suc e ↦ close o c e s ] | neither ↦ close o c d s ])
    go opens d later = later (suc d)
    go closes zero later = found s (omega arith)
    go closes (suc e) later = later e
    go neither d later = later d

close-length : (o c : ℕ) (s : List ℕ) → length (or_end (close o c 0 s)) ≤ length s
close-length o c s = go (close-within o c s 0)
  where
    go : {a : Option (List ℕ)} → Within (length s) a → length (or_end a) ≤ length s
    go nowhere = omega arith
    go (found r l) = l

-- ---- the numerator
name-length : (p : List ℕ) (d : ℕ) → length (name_before d p) ≤ length p
unfolding name_before
name-length [] d = omega arith
name-length (x ∷ p) zero = let later = name-length p (depth_after (side (code "}") (code "{") x) 0) in either-length (name_symbol x) _ _ (omega arith) (omega arith)
name-length (x ∷ p) (suc d) = let later = name-length p (depth_after (side (code "}") (code "{") x) (suc d)) in omega arith

word-before-length : (p : List ℕ) (x : ℕ) → length (word_before x p) ≤ length p
unfolding word_before
word-before-length [] x = omega arith
word-before-length (y ∷ p) x = let later = word-before-length p y in either-length (in_operand x y (head p)) _ _ (omega arith) (omega arith)

named-within : {n : ℕ} {o : Option (List ℕ)} → Within n o → Within (suc n) (with_name o)
named-within nowhere = nowhere
named-within (found r l) = let m = name-length r 0 in found (name_before 0 r) (omega arith)

pub before-within : (p : List ℕ) → Within (length p) (find_fraction_part_before p)
unfolding find_fraction_part_before
before-within [] = nowhere
before-within (x ∷ p) = go (is "}" x) (is ")" x) (is "]" x)
  where
    go : (a b c : Bool)
        → Within (suc (length p)) (elim a as (λ _. Option (List ℕ)) [
          | true ↦ with_name (close (code "}") (code "{") 0 p)
          | false ↦ elim b as (λ _. Option (List ℕ)) [
            | true ↦ with_name (close (code ")") (code "(") 0 p)
            | false ↦ elim c as (λ _. Option (List ℕ)) [ true ↦ with_name (close (code "]") (code "[") 0 p) | false ↦ some (word_before x p) ]
          ]
        ])
    go true b c = named-within (close-within (code "}") (code "{") p 0)
    go false true c = named-within (close-within (code ")") (code "(") p 0)
    go false false true = named-within (close-within (code "]") (code "[") p 0)
    go false false false = let l = word-before-length p x in found (word_before x p) (omega arith)

-- ---- the denominator
factorials-length : (s : List ℕ) → length (factorials s) ≤ length s
factorials-length [] = omega arith
factorials-length (x ∷ s) = let later = factorials-length s in either-length (is "!" x) _ _ (omega arith) (omega arith)

exponent-length : (s : List ℕ) → length (exponent s) ≤ length s
exponent-length [] = omega arith
exponent-length (x ∷ s) =
    let l = close-length (code "{") (code "}") s in
    either-length (is "{" x) _ _ (omega arith) (either-length (alnum x || is "-" x) _ _ (omega arith) (omega arith))

power-length : (s : List ℕ) → length (power s) ≤ length s
power-length [] = omega arith
power-length (x ∷ s) = let l = exponent-length s in either-length (is "^" x) _ _ (omega arith) (omega arith)

grouped-within : {n : ℕ} {o : Option (List ℕ)} → Within n o → Within (suc n) (grouped o)
grouped-within nowhere = nowhere
grouped-within (found r l) = let a = factorials-length r in let b = power-length (factorials r) in found (power (factorials r)) (omega arith)

word-after-length : (s : List ℕ) (x : ℕ) → length (word_after x s) ≤ length s
unfolding word_after
word-after-length [] x = omega arith
word-after-length (y ∷ s) x = let later = word-after-length s y in either-length (in_operand x y (head s)) _ _ (omega arith) (omega arith)

rvert-length : (s whole : List ℕ) → length s ≤ length whole → length (rvert_from s whole) ≤ length whole
rvert-length [] whole h = omega arith
rvert-length (x ∷ s) whole h = let l = length-drop 6 (x ∷ s) in either-length (starts (bytes "\\rvert") (x ∷ s)) _ _ (omega arith) (rvert-length s whole (omega arith))

lvert-length : (word s : List ℕ) → length (after_lvert word s) ≤ length s
lvert-length word s = either-length (ends (bytes "\\lvert") word) _ _ (rvert-length s s (omega arith)) (omega arith)

braces-length : (s : List ℕ) (d : ℕ) → length (braces d s) ≤ length s
unfolding braces
braces-length [] d = omega arith
braces-length (x ∷ s) zero = let later = braces-length s 1 in either-length (is "{" x) _ _ (omega arith) (omega arith)
braces-length (x ∷ s) (suc d) = let later = braces-length s (depth_after (side (code "{") (code "}") x) (suc d)) in omega arith

bracket-length : (s : List ℕ) → length (bracket s) ≤ length s
bracket-length [] = omega arith
bracket-length (x ∷ s) = let l = close-length (code "[") (code "]") s in either-length (is "[" x) _ _ (omega arith) (omega arith)

arguments-within : (raised : Bool) (s : List ℕ) → Within (length s) (arguments raised s)
arguments-within raised [] = found [] (omega arith)
arguments-within raised (x ∷ s) = go (is "(" x) raised
  where
    go : (a b : Bool) → Within (suc (length s)) (elim a as (λ _. Option (List ℕ)) [ true ↦ elim b as (λ _. Option (List ℕ)) [ true ↦ some (or_end (close (code "(") (code ")") 0 s)) | false ↦ none ] | false ↦ some (x ∷ s) ])
    go true true = let l = close-length (code "(") (code ")") s in found (or_end (close (code "(") (code ")") 0 s)) (omega arith)
    go true false = nowhere
    go false b = found (x ∷ s) (omega arith)

shorter-within : (k : ℕ) {n : ℕ} {o : Option (List ℕ)} → Within n o → Within n (shorter_than k o)
shorter-within k nowhere = nowhere
shorter-within k {n} (found r l) = go (eqb (length r) k)
  where
    go : (b : Bool) → Within n (elim b as (λ _. Option (List ℕ)) [ true ↦ none | false ↦ some r ])
    go true = nowhere
    go false = found r l

word-within : (s w : List ℕ) → length w ≤ length s → Within (length s) (after_word s w)
word-within s w h =
    let v = after_lvert (until s w) w in
    let a = lvert-length (until s w) w in let b = braces-length v 0 in let c = bracket-length (braces 0 v) in let d = power-length (bracket (braces 0 v)) in
    shorter-within (length s) (wider (omega arith) (arguments-within (is "^" (head (bracket (braces 0 v)))) (power (bracket (braces 0 v)))))

pub after-within : (s : List ℕ) → Within (length s) (find_fraction_part_after s)
unfolding find_fraction_part_after
after-within [] = nowhere
after-within (x ∷ s) = go (is "(" x)
  where
    go : (b : Bool) → Within (suc (length s)) (elim b as (λ _. Option (List ℕ)) [ true ↦ grouped (close (code "(") (code ")") 0 s) | false ↦ after_word (x ∷ s) (word_after 0 (x ∷ s)) ])
    go true = grouped-within (close-within (code "(") (code ")") s 0)
    go false = word-within (x ∷ s) (word_after 0 (x ∷ s)) (word-after-length (x ∷ s) 0)
