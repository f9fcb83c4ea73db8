-- What a round has done, as the code keeps it, and the slashes that it leaves.
--     KeptIn      `rewritten` is the end of the text rewritten last, and a mark is 1 where a slash was left
--     Kept        the same of what a round remembers
-- Assumes nothing.
use Rattle.std.specs.Prelude.{◌≡◌, List, ℕ, ◌≤◌, ◌<◌, eqb, length, get_or}
use Rattle.spec.specs.Symbols.{any}
use Rattle.spec.specs.Fractions.{Done}
use Rattle.fraction_left.specs.declared.Marks.{Marks}

-- n is the length of the text
pub record KeptIn (left : List ℕ) (rewritten n : ℕ) (done : Done) : Type 0 where
  pub long : n ≤ length left
  pub same_end : rewritten ≡ done.rewritten
  pub marked : (j : ℕ) → j < n → eqb (get_or left j 0) 1 ≡ any (eqb j) done.left

abbrev pub Kept : Marks → ℕ → Done → Type 0
Kept marks n done = KeptIn marks.left marks.rewritten n done

-- text is rewritten up to `end`
abbrev pub rewritten_to : Done → ℕ → Done
rewritten_to done end = record { rewritten = end; left = done.left }
