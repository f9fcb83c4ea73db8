-- Calls that get delimiters: what the code's search says of a call, and the turns of the loop that rewrites.
--     argument, delimited   what is written for what stands inside
--     Called                the answer of `call_at`: the length of what stands inside
-- Assumes nothing.
use Rattle.std.specs.Prelude.{◌≡◌, Bool, true, false, cond, List, [], ◌∷◌, ◌++◌, ℕ, ◌+◌, ◌-◌, ◌*◌, ◌≤◌, ◌<◌, length, get_or, take, drop}
use Rattle.std.proofs.Common.{sym, ◌∙◌, subst, arith, length-take, length-append, drop-drop, length-take-le}
use Rattle.std.proofs.Math.Path.{ap}
use Rattle.std.proofs.Math.Option.{Option, none, some}
use Rattle.std.proofs.Math.ListN.{length-drop}
use Rattle.spec.specs.Symbols.{◌and_then◌, inside, starts, trim, trim_quotes}
use Rattle.spec.specs.Sweep.{Rule}
use Rattle.spec.specs.Closing.{find_matching_paren}
use Rattle.spec.specs.Calls.{call_at, rewritten, calling}
use Rattle.spec.specs.Laws.Absent.{no_call}
use Rattle.text_symbols.specs.Parts.{part, length_part}
use Rattle.text_search.specs.Search.{Closes, inside-alike}
use Rattle.text.specs.declared.writer.Writer.{Writer}
use Rattle.text.specs.Writer.{most_written, Appended}
use Rattle.text.specs.Sweep.{Sweeping, rest_from, source-read, rest_read, symbols-read, sweeping-more, sweeping-kept}
use Rattle.text_symbols.specs.Trim.{Narrowed, spanned}
use Rattle.text_symbols.specs.declared.Span.{Span}
use Rattle.text_search.specs.Search.{Found}
use Rattle.std.specs.Prelude.{Some, None}

abbrev pub argument : Bool → List ℕ → List ℕ
argument trims inner = cond trims (trim_quotes (trim inner)) inner

abbrev pub delimited : Bool → List ℕ → List ℕ → List ℕ → List ℕ
delimited trims left right inner = left ++ argument trims inner ++ right

-- what the rows of delimiters have to be
pub record CallTextsFit (name left right : List ℕ) : Type 0 where
  pub name-short : length name ≤ 64
  pub left-short : length left ≤ 64
  pub right-short : length right ≤ 64

-- ---- the call that a text begins with
abbrev pub inner_at : List ℕ → List ℕ → Found → Option (List ℕ)
inner_at name s (Some k) = some (take k (drop (length name) s))
inner_at name s None = none

-- the symbols of the call
abbrev pub spent : List ℕ → Found → ℕ
spent name (Some k) = length name + k + 1
spent name None = 0

pub record Called (seen : List ℕ → List ℕ) (name s : List ℕ) (r : Found) : Type 0 where
  pub within : spent name r ≤ length s
  pub inner : inner_at name s r ≡ call_at seen name s

module _ (seen : List ℕ → List ℕ) (name s : List ℕ) where
  pub called-not : starts name s ≡ false → Called seen name s None
  called-not e = record { within = omega arith; inner = sym (no_call seen name s e) }

  abbrev rest : List ℕ
  rest = drop (length name) s

  pub called-by : (r : Found) → starts name s ≡ true → length (seen rest) ≡ length rest → Closes (seen rest) r (find_matching_paren (seen rest)) → Called seen name s r
  unfolding call_at
  called-by (Some k) e long f =
      let w = f.within in let l = length-drop (length name) s in
      record {
        within = omega arith;
        inner = rw (e, call_at) (ap some (sym (inside-alike rest (seen rest) long k (omega arith))) ∙ ap (λ o. o and_then λ behind. some (inside rest behind)) f.left);
      }
  called-by None e long f = record { within = omega arith; inner = rw (e, call_at) (ap (λ o. o and_then λ behind. some (inside rest behind)) f.left) }

-- ---- a turn of a loop: `call_at` has looked at the rest of the text
module _
    {seen : List ℕ → List ℕ} {name : List ℕ} {rule : Rule} {w₀ w : List ℕ} {from n : ℕ} {o₀ o : Writer} {i : ℕ}
    (sweeping : Sweeping rule w₀ w from n o₀ o i) (more : i < n)
    {r : Found} (called : Called seen name (rest_from from n i w) r)
  where
    pub call-read : call_at seen name (drop i (part from n w₀)) ≡ inner_at name (drop i (part from n w₀)) r
    call-read = ap (call_at seen name) (sym (rest_read sweeping)) ∙ sym called.inner ∙ ap (λ s. inner_at name s r) (rest_read sweeping)

    -- the call ends within the n symbols
    pub call_fits : {k : ℕ} → r ≡ Some k → i + length name + k + 1 ≤ n
    call_fits {k} e =
        let l = called.within in let s = ap (spent name) e in
        let b = length-take (from + n - (from + i)) (drop (from + i) w) in
        omega arith

-- the turn of a loop that rewrites calls
module _
    {seen : List ℕ → List ℕ} {name : List ℕ} (write : List ℕ → List ℕ) {w₀ w : List ℕ} {from n : ℕ} {o₀ o : Writer} {i : ℕ}
    (sweeping : Sweeping (calling seen name write) w₀ w from n o₀ o i) (more : i < n)
    {r : Found} (called : Called seen name (rest_from from n i w) r)
  where
    turn-found : calling seen name write (get_or (0 ∷ part from n w₀) i 0) (drop i (part from n w₀)) ≡ rewritten name write (drop i (part from n w₀)) (inner_at name (drop i (part from n w₀)) r)
    turn-found = ap (rewritten name write (drop i (part from n w₀))) (call-read sweeping more called)

    module _ {w' : List ℕ} {o' : Writer} where
      pub called-here :
          {k : ℕ} {bs : List ℕ} → r ≡ Some k → bs ≡ write (take k (drop (i + length name) (part from n w₀))) → length bs ≤ most_written * (1 + k)
          → Appended w w' o o' bs
          → Sweeping (calling seen name write) w₀ w' from n o₀ o' (i + length name + k + 1)
      called-here {k} {bs} e same few a =
          let s = drop i (part from n w₀) in
          let fits = call_fits sweeping more called e in
          let l = length_part from n w₀ sweeping.regions.source in let d = length-drop i (part from n w₀) in let g = length-drop (length name) s in
          let long : length (take k (drop (length name) s)) ≡ k = length-take-le k (drop (length name) s) (omega arith) in
          let inner : take k (drop (length name) s) ≡ take k (drop (i + length name) (part from n w₀)) = ap (take k) (drop-drop (length name) i (part from n w₀)) in
          let fresh : bs ≡ write (take k (drop (length name) s)) = same ∙ ap write (sym inner) in
          let next : i + 1 + (length name + length (take k (drop (length name) s))) ≡ i + length name + k + 1 = omega arith in
          let count-few = ap length fresh in
          subst (λ j. Sweeping (calling seen name write) w₀ w' from n o₀ o' j) next
          (sweeping-more sweeping more (rewritten name write s (some (take k (drop (length name) s))))
          (turn-found ∙ ap (λ q. rewritten name write s (inner_at name s q)) e) (subst (λ b. Appended w w' o o' b) fresh a) (omega arith))

      pub copied-here : r ≡ None → Appended w w' o o' (get_or w (from + i) 0 ∷ []) → Sweeping (calling seen name write) w₀ w' from n o₀ o' (i + 1)
      copied-here e a = sweeping-kept sweeping more (turn-found ∙ ap (λ q. rewritten name write (drop i (part from n w₀)) (inner_at name (drop i (part from n w₀)) q)) e) a

-- what `argument_of` has found in the text is what the definition writes of the k symbols inside the call
module _
    (trims : Bool) (left right : List ℕ) {rule : Rule} {w₀ w : List ℕ} {from n : ℕ} {o₀ o : Writer} {i : ℕ} (start k : ℕ) {r : Span}
    (sweeping : Sweeping rule w₀ w from n o₀ o i) (within : start + k ≤ n)
    (narrowed : Narrowed (part from (from + n - from) w) (record { start = start; end = start + k }) r (argument trims (part start (start + k - start) (part from (from + n - from) w))))
  where
    pub argument-written : left ++ part (from + r.start) (r.end - r.start) w ++ right ≡ delimited trims left right (take k (drop start (part from n w₀)))
    argument-written =
        let source = source-read sweeping in
        let e : start + k - start ≡ k = omega arith in
        ap (λ s. left ++ s ++ right)
        (symbols-read sweeping r.start (r.end - r.start) (let o = narrowed.order in let t = narrowed.to in omega arith)
        ∙ ap (spanned r) (sym source) ∙ narrowed.text ∙ ap (λ s. argument trims (part start (start + k - start) s)) source
        ∙ ap (λ m. argument trims (take m (drop start (part from n w₀)))) e)

-- a call's delimiters are few beside the symbols of the call
pub written-few : {name left right : List ℕ} → CallTextsFit name left right → (inner : List ℕ) (k : ℕ) → length inner ≤ k → length (left ++ inner ++ right) ≤ most_written * (1 + k)
written-few {left = left} {right} fair inner k h =
    let l = fair.left-short in let r = fair.right-short in
    simp length-append (omega arith)
