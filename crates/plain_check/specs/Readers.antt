-- The readers as definitions, one for each rule. They are handed fuel, and all that is enough gives one answer. Assumes nothing.
use Rattle.std.specs.Prelude.{◌≡◌, true, false, List, ℕ, zero, suc, ◌+◌, ◌*◌, ◌<◌, eqb, ltb, length, drop}
use Prim.Native.Char.{code}
use Rattle.spec.specs.Symbols.{is, alnum}
use Rattle.std.specs.Prelude.{Some, None}
use Rattle.plain_parts.specs.Parts.{Read, at, ReadWithin, either, and_then, leaf, adjoined, divided, scripted, closed, enclosed_script}
use Rattle.plain_check.specs.Tokens.{sign_next, factor_next, atom_length}

unfoldable mutual
  pub read_sum : ℕ → List ℕ → Read
  read_sum zero xs = None
  read_sum (suc k) xs = and_then (read_product k xs) λ p. let ys = drop p.used xs in
      either (sign_next ys) (λ _. adjoined p 3 (read_sum k (drop 3 ys))) (λ _. Some p)

  pub read_product : ℕ → List ℕ → Read
  read_product zero xs = None
  read_product (suc k) xs = and_then (read_factor k xs) λ p. let ys = drop p.used xs in
      either (factor_next ys) (λ _. adjoined p 1 (read_product k (drop 1 ys))) (λ _. Some p)

  pub read_factor : ℕ → List ℕ → Read
  read_factor zero xs = None
  read_factor (suc k) xs = and_then (read_operand k xs) λ p. let ys = drop p.used xs in
      either (is "/" (at ys 0)) (λ _. divided p (read_operand k (drop 1 ys)))
      (λ _. either p.lone (λ _. scripted p (read_scripts k ys)) (λ _. Some p))

  pub read_operand : ℕ → List ℕ → Read
  read_operand zero xs = None
  read_operand (suc k) xs = let ys = drop 1 xs in
      either (ltb 0 (atom_length xs)) (λ _. Some (leaf (atom_length xs) 1 true))
      (λ _. either (is "(" (at xs 0)) (λ _. closed ys (read_sum k ys)) (λ _. None))

  pub read_scripts : ℕ → List ℕ → Read
  read_scripts zero xs = None
  read_scripts (suc k) xs = and_then (read_script (code "_") k xs) λ p. adjoined p 0 (read_script (code "^") k (drop p.used xs))

  pub read_script : ℕ → ℕ → List ℕ → Read
  read_script sign zero xs = None
  read_script sign (suc k) xs = let ys = drop 1 xs in
      either (eqb (at xs 0) sign)
      (λ _. either (alnum (at ys 0)) (λ _. Some (leaf 2 0 false)) (λ _. enclosed_script (read_operand k ys)))
      (λ _. Some (leaf 0 0 true))

-- r is what `read` gives with any fuel that is enough, and lies within xs
pub record Answers (read : ℕ → List ℕ → Read) (rank : ℕ) (xs : List ℕ) (r : Read) : Type 0 where
  pub exact : (k : ℕ) → 5 * length xs + rank < k → r ≡ read k xs
  pub within : ReadWithin r xs
