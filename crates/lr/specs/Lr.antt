-- The turns of convert_lr, a rewriting of calls whose delimiters hang on the first symbol inside. Assumes nothing.
--     EndedBy         what the loop has come to: the finished text, or number 8
use Rattle.std.specs.Prelude.{◌≡◌, refl, Bool, true, false, ◌&&◌, ◌||◌, List, ◌∷◌, ◌++◌, ℕ, pred, ◌+◌, ◌-◌, ◌*◌, ◌≤◌, ◌<◌, eqb, length, get_or, take, drop}
use Rattle.std.proofs.Common.{sym, ap, ◌∙◌, subst, arith, length-take, length-drop, length-append, drop-drop, length-take-le}
use Rattle.std.proofs.Math.Option.{Option, none, some}
use Rattle.std.proofs.Math.Decide.{dec_lt}
use Rattle.spec.specs.Symbols.{bytes, is, head, past, find}
use Rattle.spec.specs.Sweep.{sweep, reached}
use Rattle.spec.specs.Calls.{call_at, rewritten}
use Rattle.spec.specs.Finish.{Delimiters, delimiters, latex_lr, lr, bare_delimiter, convert_lr}
use Rattle.spec.specs.Result.{passed, refused, most_symbols, grown, stage}
use Rattle.spec.specs.Laws.Symbols.{head-drop, past-drop}
use Rattle.spec.specs.Laws.Sweep.{Waits, sweep-absent, reached-absent}
use Rattle.spec.specs.Laws.Absent.{no_bare, calling-waits}
use Rattle.text_symbols.specs.Parts.{part, length_part, sub_part, whole_part}
use Rattle.text.specs.declared.writer.Writer.{Writer}
use Rattle.text.specs.Stage.{grown-short}
use Rattle.text.specs.Writer.{most_written, Appended}
use Rattle.text.specs.Sweep.{Sweeping, rest_from, symbols-read}
use Rattle.text_search.specs.Search.{Found}
use Rattle.std.specs.Prelude.{Option as Maybe, Some, None, MatchOption, is_some as found_any}
use Rattle.call_rewriting.specs.Delimiters.{Called, inner_at, call-read, call_fits}
use Rattle.lr.specs.Reached.{comes, comes-turn}
use Rattle.std.specs.Prelude.{Result, Ok, Err}
use Rattle.text.specs.declared.Refusal.{Refusal}
use Rattle.text.specs.declared.Refusal.TheVariants.{BareDelimiter}

-- what is written for what stands inside, with the delimiters of a first symbol
abbrev pub sized_by : List ℕ → Option Delimiters → List ℕ
sized_by inner o =
    elim o [
      | some d ↦ d.left ++ take (pred (pred (length inner))) (past inner) ++ d.right
      | none ↦ inner
    ]

abbrev pub lr_name : List ℕ
lr_name = bytes "lr("

-- ---- the delimiters of a first symbol
abbrev pub delimits : ℕ → Bool
delimits x = elim (delimiters x) [ some d ↦ true | none ↦ false ]

pub delimits-met : {A : Type 0} (d : A → Delimiters) (x : ℕ) (r : Maybe A) → MatchOption r (delimiters x ≡ none) (λ p. delimiters x ≡ some (d p)) → found_any r ≡ delimits x
delimits-met d x (Some p) e = ap (λ o. elim o [ some d ↦ true | none ↦ false ]) (sym e)
delimits-met d x None e = ap (λ o. elim o [ some d ↦ true | none ↦ false ]) (sym e)

-- what stands between the first and the last symbol inside
pub middle : (inside k : ℕ) (w : List ℕ) → inside + k ≤ length w → part (inside + 1) (k - 2) w ≡ take (pred (pred (length (part inside k w)))) (past (part inside k w))
middle inside k w h = go (dec_lt 1 k)
  where
    e : k - 2 ≡ pred (pred (length (part inside k w)))
    e = let l = length_part inside k w h in omega arith

    go : Dec (1 < k) → part (inside + 1) (k - 2) w ≡ take (pred (pred (length (part inside k w)))) (past (part inside k w))
    go (yes m) =
        sub_part inside k 1 (k - 2) w (omega arith)
        ∙ ap (take (k - 2)) (sym (past-drop (part inside k w) 0))
        ∙ ap (λ m. take m (past (part inside k w))) e
    go (no m) =
        let z : k - 2 ≡ 0 = omega arith in
        ap (λ m. part (inside + 1) m w) z ∙ ap (λ m. take m (past (part inside k w))) (sym z ∙ e)

-- the delimiters of the first symbol have been written around the middle
pub sized-by-first :
    {w w' : List ℕ} {o o' : Writer} (inside k m first : ℕ) {a b : List ℕ} → inside + k ≤ length w → m ≡ k - 2
    → delimiters first ≡ some (record { left = a; right = b })
    → Appended w w' o o' (a ++ part (inside + 1) m w ++ b)
    → Appended w w' o o' (sized_by (part inside k w) (delimiters first))
sized-by-first {w} {w'} {o} {o'} inside k m first {a} {b} h few is_some appended =
    subst (λ t. Appended w w' o o' t)
    (ap (λ t. a ++ t ++ b) (ap (λ j. part (inside + 1) j w) few ∙ middle inside k w h) ∙ ap (sized_by (part inside k w)) (sym is_some))
    appended

-- what is written is little beside the symbols of the call
pub sized-few : (inner : List ℕ) (x k : ℕ) → length inner ≤ k → length (sized_by inner (delimiters x)) ≤ most_written * (1 + k)
sized-few inner x k bound = go (is "(" x) refl (is "|" x) refl (is "[" x) refl (is "{" x) refl
  where
    m : List ℕ
    m = take (pred (pred (length inner))) (past inner)

    short : length m ≤ k
    short = let l = length-take (pred (pred (length inner))) (past inner) in omega arith

    framed : (a b : List ℕ) → length a ≤ 64 → length b ≤ 64 → length (a ++ m ++ b) ≤ most_written * (1 + k)
    framed a b g l = let t = short in simp length-append (omega arith)

    go : (a : Bool) → is "(" x ≡ a → (b : Bool) → is "|" x ≡ b → (c : Bool) → is "[" x ≡ c → (d : Bool) → is "{" x ≡ d → length (sized_by inner (delimiters x)) ≤ most_written * (1 + k)
    go true e b f c g d h = rw (e, delimiters) (framed (bytes "\\left(") (bytes "\\right)") (omega arith) (omega arith))
    go false e true f c g d h = rw (e, f, delimiters) (framed (bytes "\\left\\lvert ") (bytes " \\right\\rvert") (omega arith) (omega arith))
    go false e false f true g d h = rw (e, f, g, delimiters) (framed (bytes "\\left[") (bytes "\\right]") (omega arith) (omega arith))
    go false e false f false g true h = rw (e, f, g, h, delimiters) (framed (bytes "\\left\\{") (bytes "\\right\\}") (omega arith) (omega arith))
    go false e false f false g false h = rw (e, f, g, h, delimiters) (let l : length inner ≤ k = bound in omega arith)

-- ---- number 8
-- `bare_delimiter` by what stands inside
abbrev bare_in : Option (List ℕ) → Bool
bare_in o = elim o [ some inner ↦ eqb (length inner) 1 && delimits (head inner) | none ↦ false ]

pub lr-waits : Waits lr_name lr
lr-waits = calling-waits (λ s. s) lr_name latex_lr

pub record Bared (w w' : List ℕ) (from n : ℕ) (o : Writer) : Type 0 where
  pub reaches : reached bare_delimiter lr 0 0 (part from n w) ≡ true
  pub out : List ℕ
  pub writer : Writer
  pub appended : Appended w w' o writer out

pub record Finished (w w' : List ℕ) (from n : ℕ) (o o' : Writer) : Type 0 where
  pub reaches : reached bare_delimiter lr 0 0 (part from n w) ≡ false
  pub appended : Appended w w' o o' (sweep lr 0 0 (part from n w))

abbrev pub EndedBy : List ℕ → List ℕ → ℕ → ℕ → Writer → Result Writer Refusal → Type 0
EndedBy w w' from n o (Ok o') = Finished w w' from n o o'
EndedBy w w' from n o (Err why) = (why ≡ BareDelimiter) × Bared w w' from n o

pub convert-lr-bare : (s : List ℕ) → reached bare_delimiter lr 0 0 s ≡ true → convert_lr s ≡ refused 8
unfolding convert_lr
convert-lr-bare s e = rw (e, convert_lr)

pub convert-lr-sized : (s : List ℕ) → reached bare_delimiter lr 0 0 s ≡ false → stage (sweep lr 0 0) s ≡ convert_lr s
unfolding convert_lr
convert-lr-sized s e = rw (e, convert_lr)

-- a text in which the name does not occur
pub lr-absent : (s : List ℕ) → length s ≤ most_symbols → find lr_name s ≡ none → convert_lr s ≡ passed s
lr-absent s short absent =
    sym (convert-lr-sized s (reached-absent bare_delimiter lr-waits no_bare s 0 absent))
    ∙ ap (λ t. grown t t) (sweep-absent lr-waits s 0 absent)
    ∙ grown-short s short

-- ---- a turn of the loop: `call_at` has looked at the rest of the text
module _
    {w₀ w : List ℕ} {from n : ℕ} {o₀ o : Writer} {i : ℕ}
    (sweeping : Sweeping lr w₀ w from n o₀ o i) (more : i < n)
    {r : Found} (called : Called (λ s. s) lr_name (rest_from from n i w) r)
  where
    abbrev source : List ℕ
    source = part from n w₀

    inside-i : i < length source
    inside-i = let l = length_part from n w₀ sweeping.regions.source in omega arith

    pub comes-past-no-call : r ≡ None → comes bare_delimiter lr source i ≡ comes bare_delimiter lr source (i + 1)
    comes-past-no-call e =
        let none_here : call_at (λ s. s) lr_name (drop i source) ≡ none = call-read sweeping more called ∙ ap (inner_at lr_name (drop i source)) e in
        let next : i + 1 + 0 ≡ i + 1 = omega arith in
        comes-turn bare_delimiter lr source i inside-i (ap (rewritten lr_name latex_lr (drop i source)) none_here)
        ∙ ap (λ o. bare_in o || comes bare_delimiter lr source (i + 1 + 0)) none_here
        ∙ ap (comes bare_delimiter lr source) next

    module _ {k : ℕ} (e : r ≡ Some k) where
      fits : i + 3 + k + 1 ≤ n
      fits = call_fits sweeping more called e

      -- what stands inside, as the code takes it
      pub inner-read : part (from + (i + 3)) k w ≡ take k (drop (i + 3) source)
      inner-read = symbols-read sweeping (i + 3) k (let f = fits in omega arith)

      call-here : call_at (λ s. s) lr_name (drop i source) ≡ some (part (from + (i + 3)) k w)
      call-here = call-read sweeping more called ∙ ap (inner_at lr_name (drop i source)) e ∙ ap (λ s. some (take k s)) (drop-drop 3 i source) ∙ ap some (sym inner-read)

      inner-long : length (part (from + (i + 3)) k w) ≡ k
      inner-long =
          let l = length_part from n w₀ sweeping.regions.source in let f = fits in let d = length-drop (i + 3) source in
          ap length inner-read ∙ length-take-le k (drop (i + 3) source) (omega arith)

      -- the test for number 8, as the code makes it
      module _ {first : ℕ} (first_read : first ≡ get_or (part (from + (i + 3)) (from + (i + 3) + k - (from + (i + 3))) w) 0 0) where
        pub first-is : first ≡ head (part (from + (i + 3)) k w)
        first-is = first_read ∙ ap (λ s. get_or s 0 0) (whole_part (from + (i + 3)) k w) ∙ sym (head-drop (part (from + (i + 3)) k w) 0)

        bare-is : bare_delimiter (drop i source) ≡ eqb k 1 && delimits first
        bare-is =
            ap bare_in call-here
            ∙ ap (λ m. eqb m 1 && delimits (head (part (from + (i + 3)) k w))) inner-long
            ∙ ap (λ x. eqb k 1 && delimits x) (sym first-is)

        pub bare-here : eqb k 1 && delimits first ≡ true → comes bare_delimiter lr source i ≡ true
        bare-here t =
            comes-turn bare_delimiter lr source i inside-i refl
            ∙ ap (λ b. b || comes bare_delimiter lr source (i + 1 + (lr (get_or (0 ∷ source) i 0) (drop i source)).more)) (bare-is ∙ t)

        pub sized-here : eqb k 1 && delimits first ≡ false → comes bare_delimiter lr source i ≡ comes bare_delimiter lr source (i + 3 + k + 1)
        sized-here t =
            let l = inner-long in
            let next : i + 1 + (3 + length (part (from + (i + 3)) k w)) ≡ i + 3 + k + 1 = omega arith in
            comes-turn bare_delimiter lr source i inside-i (ap (rewritten lr_name latex_lr (drop i source)) call-here)
            ∙ ap (λ b. b || comes bare_delimiter lr source (i + 1 + (3 + length (part (from + (i + 3)) k w)))) (bare-is ∙ t)
            ∙ ap (comes bare_delimiter lr source) next

        pub sized-written : sized_by (part (from + (i + 3)) k w) (delimiters first) ≡ latex_lr (take k (drop (i + 3) source))
        sized-written = ap (λ x. sized_by (part (from + (i + 3)) k w) (delimiters x)) first-is ∙ ap latex_lr inner-read
