-- Holding out the blocks of one name, turn by turn. Assumes nothing.
--     close-suffix    what stands behind a closer is an end of the text
--     Turns           the four kinds of turns of `take_out`, as a rule on which to go by induction
--     turns           they are what `take_out` does
use Rattle.std.specs.Prelude.{◌≡◌, Bool, drop}
use Rattle.std.proofs.Math.Path.{refl, sym, ap, ap₂, subst}
use Rattle.std.proofs.Common.{◌∙◌, not-suc-le-zero, arith}
use Rattle.std.proofs.Math.Bool.{true, false}
use mathlib.Core.List.{List, [], ◌∷◌, ◌++◌, append_assoc}
use Rattle.std.proofs.Math.Option.{Option, none, some, none-ne-some}
use Prim.Native.Nat.{ℕ, zero, suc, ◌≤◌}
use Prim.Native.Char.{code}
use Rattle.std.proofs.Math.ListN.{length, length-append}
use Rattle.std.proofs.Math.Seq.{drop-append_seam}
use Rattle.spec.specs.Symbols.{until, starts}
use Rattle.spec.specs.Closing.{Side, opens, closes, neither, side, close, find_matching_brace}
use Rattle.spec.specs.Held.{Taken, leaving, taking, take_out}
use Rattle.spec.specs.Laws.Symbols.{starts-split, until-append}

-- ---- what is behind a closer
abbrev pub the_text : Option (List ℕ) → List ℕ
the_text none = []
the_text (some s) = s

-- r is an end of s, and not the whole
pub record ProperSuffix (s r : List ℕ) : Type 0 where
  pub head : ℕ
  pub front : List ℕ
  pub split : s ≡ head ∷ (front ++ r)

behind_more : (x : ℕ) {s r : List ℕ} → ProperSuffix s r → ProperSuffix (x ∷ s) r
behind_more x b = record { head = x; front = b.head ∷ b.front; split = ap (λ l. x ∷ l) b.split }

pub close-suffix : (o c : ℕ) (s : List ℕ) (d : ℕ) (r : List ℕ) → close o c d s ≡ some r → ProperSuffix s r
unfolding close
close-suffix o c [] d r e = absurd (none-ne-some r e)
close-suffix o c (x ∷ s) d r e = go (side o c x) d e (close-suffix o c s)
  where
    go : (z : Side) (d : ℕ)
        → elim z as (λ _. Option (List ℕ)) [ opens ↦ close o c (suc d) s | closes ↦ elim d as (λ _. Option (List ℕ)) [ zero ↦ some s | suc e ↦ close o c e s ] | neither ↦ close o c d s ] ≡ some r
        → ((d : ℕ) (r : List ℕ) → close o c d s ≡ some r → ProperSuffix s r) → ProperSuffix (x ∷ s) r
    go opens d e more = behind_more x (more (suc d) r e)
    go closes zero e more = record { head = x; front = []; split = ap (λ l. x ∷ the_text l) e }
    go closes (suc d) e more = behind_more x (more d r e)
    go neither d e more = behind_more x (more d r e)

-- ---- the turns
module _ (name : List ℕ) (mark : ℕ) where
  pub data Turns : List ℕ → Taken → Type 0 where
    ended : Turns [] (record { left = []; blocks = [] })
    unclosed : (s : List ℕ) → starts name s ≡ true → find_matching_brace (drop (length name) s) ≡ none → Turns s (record { left = s; blocks = [] })
    passing : (x : ℕ) (s : List ℕ) (t : Taken) → starts name (x ∷ s) ≡ false → Turns s t → Turns (x ∷ s) (leaving x t)
    holding :
        (x : ℕ) (block behind : List ℕ) (t : Taken) → starts name (x ∷ (block ++ behind)) ≡ true
        → find_matching_brace (drop (length name) (x ∷ (block ++ behind))) ≡ some behind → Turns behind t → Turns (x ∷ (block ++ behind)) (taking mark (x ∷ block) t)

  pub take-out-skipped : (skip : ℕ) (s : List ℕ) → take_out name mark skip s ≡ take_out name mark 0 (drop skip s)
  unfolding take_out
  take-out-skipped zero s = refl
  take-out-skipped (suc skip) [] = refl
  take-out-skipped (suc skip) (b ∷ s) = take-out-skipped skip s

  pub turn-passing : (x : ℕ) (s : List ℕ) → starts name (x ∷ s) ≡ false → take_out name mark 0 (x ∷ s) ≡ leaving x (take_out name mark 0 s)
  unfolding take_out
  turn-passing x s e =
      ap
      (λ t. elim t as (λ _. Taken) [
        | true ↦ elim (find_matching_brace (drop (length name) (x ∷ s))) as (λ _. Taken) [
          | none ↦ record { left = x ∷ s; blocks = [] }
          | some behind ↦ taking mark (until (x ∷ s) behind) (take_out name mark (length (until s behind)) s)
        ]
        | false ↦ leaving x (take_out name mark 0 s)
      ])
      e

  at_name : (x : ℕ) (s : List ℕ) (f : Option (List ℕ)) → starts name (x ∷ s) ≡ true → find_matching_brace (drop (length name) (x ∷ s)) ≡ f
      → take_out name mark 0 (x ∷ s)
      ≡ elim f as (λ _. Taken) [
        | none ↦ record { left = x ∷ s; blocks = [] }
        | some behind ↦ taking mark (until (x ∷ s) behind) (take_out name mark (length (until s behind)) s)
      ]
  unfolding take_out
  at_name x s f e c =
      ap₂
      (λ (t : Bool) (f : Option (List ℕ)). elim t as (λ _. Taken) [
        | true ↦ elim f as (λ _. Taken) [
          | none ↦ record { left = x ∷ s; blocks = [] }
          | some behind ↦ taking mark (until (x ∷ s) behind) (take_out name mark (length (until s behind)) s)
        ]
        | false ↦ leaving x (take_out name mark 0 s)
      ])
      e c

  pub turn-unclosed : (x : ℕ) (s : List ℕ) → starts name (x ∷ s) ≡ true → find_matching_brace (drop (length name) (x ∷ s)) ≡ none
      → take_out name mark 0 (x ∷ s) ≡ record { left = x ∷ s; blocks = [] }
  turn-unclosed x s e c = at_name x s none e c

  pub turn-holding :
      (x : ℕ) (block behind : List ℕ) → starts name (x ∷ (block ++ behind)) ≡ true → find_matching_brace (drop (length name) (x ∷ (block ++ behind))) ≡ some behind
      → take_out name mark 0 (x ∷ (block ++ behind)) ≡ taking mark (x ∷ block) (take_out name mark 0 behind)
  turn-holding x block behind e c =
      at_name x (block ++ behind) (some behind) e c
      ∙ ap₂ (taking mark) (until-append (x ∷ block) behind)
      (take-out-skipped (length (until (block ++ behind) behind)) (block ++ behind)
      ∙ ap (λ u. take_out name mark 0 (drop (length u) (block ++ behind))) (until-append block behind)
      ∙ ap (take_out name mark 0) (drop-append_seam block behind))

  -- a closed block begins where the name does
  closed_block : (x : ℕ) (s behind : List ℕ) → starts name (x ∷ s) ≡ true → find_matching_brace (drop (length name) (x ∷ s)) ≡ some behind → (front : List ℕ) × (s ≡ front ++ behind)
  closed_block x s behind e c =
      go name (starts-split name (x ∷ s) e ∙ ap (λ l. name ++ l) b.split)
    where
      b : ProperSuffix (drop (length name) (x ∷ s)) behind
      b = close-suffix (code "{") (code "}") (drop (length name) (x ∷ s)) 0 behind c

      go : (p : List ℕ) → x ∷ s ≡ p ++ (b.head ∷ (b.front ++ behind)) → (front : List ℕ) × (s ≡ front ++ behind)
      go [] w = (b.front, ap (drop 1) w)
      go (y ∷ p) w = (p ++ (b.head ∷ b.front), ap (drop 1) w ∙ sym (append_assoc p (b.head ∷ b.front) behind))

  turns-within : (n : ℕ) (s : List ℕ) → length s ≤ n → Turns s (take_out name mark 0 s)
  unfolding take_out
  turns-within zero [] h = ended
  turns-within (suc n) [] h = ended
  turns-within zero (x ∷ s) h = absurd (not-suc-le-zero h)
  turns-within (suc n) (x ∷ s) h = go (starts name (x ∷ s)) refl (find_matching_brace (drop (length name) (x ∷ s))) refl (turns-within n)
    where
      go : (t : Bool) → starts name (x ∷ s) ≡ t → (f : Option (List ℕ)) → find_matching_brace (drop (length name) (x ∷ s)) ≡ f
          → ((s : List ℕ) → length s ≤ n → Turns s (take_out name mark 0 s)) → Turns (x ∷ s) (take_out name mark 0 (x ∷ s))
      go false e f c more = subst (Turns (x ∷ s)) (sym (turn-passing x s e)) (passing x s (take_out name mark 0 s) e (more s (omega arith)))
      go true e none c more = subst (Turns (x ∷ s)) (sym (turn-unclosed x s e c)) (unclosed (x ∷ s) e c)
      go true e (some behind) c more =
          let b = closed_block x s behind e c in
          let l = ap length b.1 in let m = length-append b.0 behind in
          subst (λ s. Turns (x ∷ s) (take_out name mark 0 (x ∷ s))) (sym b.1) (held b.0 b.1 (more behind (omega arith)))
        where
          held : (block : List ℕ) → s ≡ block ++ behind → Turns behind (take_out name mark 0 behind) → Turns (x ∷ (block ++ behind)) (take_out name mark 0 (x ∷ (block ++ behind)))
          held block w next =
              let e' = sym (ap (λ l. starts name (x ∷ l)) w) ∙ e in
              let c' = sym (ap (λ l. find_matching_brace (drop (length name) (x ∷ l))) w) ∙ c in
              subst (Turns (x ∷ (block ++ behind))) (sym (turn-holding x block behind e' c')) (holding x block behind (take_out name mark 0 behind) e' c' next)

  pub turns : (s : List ℕ) → Turns s (take_out name mark 0 s)
  turns s = turns-within (length s) s (omega arith)
