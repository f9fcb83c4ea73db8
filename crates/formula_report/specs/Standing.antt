-- A text that was written to the start of a buffer. Assumes nothing.
--     most_text          the longest text of an answer
--     Stands            a text begins the buffer
--     appended-stands   what was appended to none stands there, if it fits
use Rattle.std.specs.Prelude.{◌≡◌, refl, List, [], ◌∷◌, ◌++◌, ℕ, suc, ◌+◌, ◌≤◌, ◌<◌, length, set, drop}
use Rattle.std.proofs.Common.{sym, ap, ◌∙◌, subst, append_assoc, append-nil, zero-add, arith, length-append}
use Rattle.spec.specs.Program.{most_output}
use Rattle.text.specs.declared.writer.Writer.{Writer}
use Rattle.text.specs.Writer.{stored, puts, put-below, Appended, appended-more, appended-long}

-- the longest text: `ok`, a space, four digits, a newline, the LaTeX, a newline
abbrev pub most_text : ℕ
most_text = most_output + 9

-- a text of `count` bytes stands at the start of a buffer, whose other bytes are as they were
pub record Stands (text w : List ℕ) (count : ℕ) (w' : List ℕ) : Type 0 where
  pub counted : count ≡ length text
  pub written : w' ≡ text ++ drop (length text) w

-- the writer that has all of a buffer before it
abbrev pub begun : List ℕ → Writer
begun w = record { to = 0; cap = length w; count = 0 }

-- ---- what was appended to none
set-behind : (out w : List ℕ) (b : ℕ) → length out < length w → set (out ++ drop (length out) w) (length out) b ≡ out ++ (b ∷ []) ++ drop (length (out ++ (b ∷ []))) w
set-behind out [] b h = absurd (omega arith)
set-behind [] (x ∷ w) b h = refl
set-behind (a ∷ out) (x ∷ w) b h = ap (λ (l : List ℕ). a ∷ l) (set-behind out w b (omega arith))

stored-behind : (out w : List ℕ) (b : ℕ) → length out < length w → stored (out ++ drop (length out) w) 0 (length w) (length out) b ≡ out ++ (b ∷ []) ++ drop (length (out ++ (b ∷ []))) w
unfolding puts
stored-behind out w b h =
    put-below (out ++ drop (length out) w) 0 (length w) (length out) b h
    ∙ ap (λ (k : ℕ). set (out ++ drop (length out) w) k b) (zero-add (length out)) ∙ set-behind out w b h

puts-behind : (bs out w : List ℕ) → length out + length bs ≤ length w → puts (out ++ drop (length out) w) 0 (length w) (length out) bs ≡ out ++ bs ++ drop (length (out ++ bs)) w
unfolding puts
puts-behind [] out w h = rw append-nil
puts-behind (b ∷ bs) out w h =
    let one : length (out ++ (b ∷ [])) ≡ suc (length out) = simp length-append (omega arith) in
    ap (λ (v : List ℕ). puts v 0 (length w) (suc (length out)) bs) (stored-behind out w b (omega arith))
    ∙ ap (λ (k : ℕ). puts (out ++ (b ∷ []) ++ drop (length (out ++ (b ∷ []))) w) 0 (length w) k bs) (sym one)
    ∙ puts-behind bs (out ++ (b ∷ [])) w (omega arith)
    ∙ ap (λ (l : List ℕ). l ++ drop (length l) w) (append_assoc out (b ∷ []) bs)

pub appended-stands : {w w' : List ℕ} {o : Writer} {out : List ℕ} → Appended w w' (begun w) o out → length out ≤ length w → Stands out w o.count w'
appended-stands {w} {out = out} a fits = record { counted = a.counted ∙ zero-add (length out); written = a.work ∙ puts-behind out [] w (omega arith) }
