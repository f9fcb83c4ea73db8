-- Sizing without the bound on its steps.
--     sizes         what is written for the rest of a level, with what was written before, last first
--     sizes-step    it is one step, and sizing again
-- Assumes nothing.
use Rattle.std.proofs.Math.Path.{◌≡◌, refl, ap}
use Rattle.std.proofs.Common.{sym, ◌∙◌, not-suc-le-zero, eqb-true}
use Rattle.std.specs.Prelude.{Bool, true, false, cond, ◌&&◌, ◌||◌, eqb}
use Rattle.std.proofs.lemmas.Bool.{false≢true}
use mathlib.Core.List.{List, [], ◌∷◌, ◌++◌, reverse_aux}
use Rattle.std.proofs.Math.Option.{Option, none, some}
use Prim.Native.Nat.{ℕ, zero, suc, pred, ◌-◌, ◌≤◌, ◌<◌}
use Prim.Native.Char.{code}
use native.Mathlib.Omega.{arith}
use Rattle.std.proofs.Math.ListN.{length, get_or, take, length-take}
use Rattle.spec.specs.Symbols.{bytes, is, ◌and_then◌, script_sign, head, past, until, inside, starts, contains}
use Rattle.spec.specs.Closing.{Side, opens, closes, neither, side_of, close, matching_delimiter}
use Rattle.spec.specs.Finish.{script_group, closing, already_sized, Group, tall, tall_group, left_right, size_step, size_with, size_delimiters_to_content}
use Rattle.spec.specs.Laws.Booleans.{or-neither}

-- ---- what stands behind a closer is shorter, and the closer stands before it
pub record BehindCloser (c : ℕ) (s r : List ℕ) : Type 0 where
  pub shorter : length r < length s
  pub closer : get_or s (length s - suc (length r)) 0 ≡ c
  pub suffix : until s r ++ r ≡ s

module _ (o c : ℕ) where
  behind_more : (x : ℕ) (s r : List ℕ) → BehindCloser c s r → BehindCloser c (x ∷ s) r
  behind_more x s r b =
      let h = b.shorter in
      let n : suc (length s) - suc (length r) ≡ suc (length s - suc (length r)) = omega arith in
      let m : suc (length s) - length r ≡ suc (length s - length r) = omega arith in
      record {
        shorter = omega arith;
        closer = ap (λ k. get_or (x ∷ s) k 0) n ∙ b.closer;
        suffix = ap (λ k. take k (x ∷ s) ++ r) m ∙ ap (λ t. x ∷ t) b.suffix;
      }

  side-closes : (x : ℕ) → side_of (eqb x o) (eqb x c) ≡ closes → x ≡ c
  side-closes x e = go (eqb x o) (eqb x c) refl e
    where
      go : (a b : Bool) → eqb x c ≡ b → side_of a b ≡ closes → x ≡ c
      go true b f e = let z : ◌≡◌ {A = ℕ} 0 1 = cc in absurd (omega arith)
      go false true f e = eqb-true x c f
      go false false f e = let z : ◌≡◌ {A = ℕ} 0 1 = cc in absurd (omega arith)

  pub close-behind-closer : (d : ℕ) (s r : List ℕ) → close o c d s ≡ some r → BehindCloser c s r
  unfolding close
  close-behind-closer d [] r e = let z : ◌≡◌ {A = ℕ} 0 1 = cc in absurd (omega arith)
  close-behind-closer d (x ∷ s) r e = go (side_of (eqb x o) (eqb x c)) refl d e (λ k f. close-behind-closer k s r f)
    where
      go : (side : Side) → side_of (eqb x o) (eqb x c) ≡ side → (d : ℕ)
          → ◌≡◌ {A = Option (List ℕ)} (elim side [ opens ↦ close o c (suc d) s | closes ↦ elim d [ zero ↦ some s | suc e ↦ close o c e s ] | neither ↦ close o c d s ]) (some r)
          → ((k : ℕ) → close o c k s ≡ some r → BehindCloser c s r) → BehindCloser c (x ∷ s) r
      go opens f d e rest = behind_more x s r (rest (suc d) e)
      go closes f zero e rest =
          let same : s ≡ r = cc in let l = ap length same in
          let n : suc (length s) - suc (length r) ≡ 0 = omega arith in
          let m : suc (length s) - length r ≡ 1 = omega arith in
          record {
            shorter = omega arith;
            closer = ap (λ k. get_or (x ∷ s) k 0) n ∙ side-closes x f;
            suffix = ap (λ k. take k (x ∷ s) ++ r) m ∙ ap (λ t. x ∷ t) (sym same);
          }
      go closes f (suc d) e rest = behind_more x s r (rest d e)
      go neither f d e rest = behind_more x s r (rest d e)

past-short : (s : List ℕ) → length (past s) ≤ length s
past-short [] = omega arith
past-short (x ∷ s) = omega arith

script-short : (x : ℕ) (s r : List ℕ) → script_group x s ≡ some r → length r ≤ length s
script-short x s r e = go (script_sign x && is "{" (head s)) e
  where
    go : (t : Bool) → ◌≡◌ {A = Option (List ℕ)} (elim t [ true ↦ matching_delimiter (code "{") (code "}") s | false ↦ none ]) (some r) → length r ≤ length s
    go true e = let b = (close-behind-closer (code "{") (code "}") 0 (past s) r e).shorter in let p = past-short s in omega arith
    go false e = let z : ◌≡◌ {A = ℕ} 0 1 = cc in absurd (omega arith)

-- ---- the parts of a step, by what has been found
abbrev Sizer : Type 0
Sizer = List ℕ → List ℕ → List ℕ

abbrev pub if_tall : ℕ → ℕ → List ℕ → List ℕ → Option Group
if_tall field c m r = cond (tall field m) (some (record { closer = c; content = m; behind = r })) none

abbrev pub group_of : ℕ → ℕ → List ℕ → Option (List ℕ) → Option Group
group_of field c s q = q and_then λ r. if_tall field c (inside s r) r

abbrev pub group_with : ℕ → ℕ → List ℕ → Option ℕ → Option Group
group_with field x s q = q and_then λ c. group_of field c s (close x c 0 s)

abbrev pub group_step : Sizer → List ℕ → ℕ → List ℕ → Option Group → List ℕ
group_step go o x s q =
    elim q [
      | some g ↦ let sized = left_right x g.closer (go [] g.content) in sized ++ go (reverse_aux sized o) g.behind
      | none ↦ x ∷ go (x ∷ o) s
    ]

abbrev pub script_step : ℕ → Sizer → List ℕ → ℕ → List ℕ → Option (List ℕ) → List ℕ
script_step field go o x s q =
    elim q [
      | some r ↦ let group = until (x ∷ s) r in group ++ go (reverse_aux group o) r
      | none ↦ group_step go o x s (tall_group field o x s)
    ]

-- a tall group: its parts are no longer than the text, and its closer stands before what is behind
pub record GroupWithin (s : List ℕ) (g : Group) : Type 0 where
  pub content : length g.content ≤ length s
  pub behind : length g.behind ≤ length s

module _ (field x : ℕ) (s : List ℕ) (g : Group) where
  if-tall-parts : (c : ℕ) (m r : List ℕ) → length m ≤ length s → length r ≤ length s → if_tall field c m r ≡ some g → GroupWithin s g
  if-tall-parts c m r hm hr e = go (tall field m) e
    where
      go : (t : Bool) → ◌≡◌ {A = Option Group} (cond t (some (record { closer = c; content = m; behind = r })) none) (some g) → GroupWithin s g
      go true e =
          let f : ◌≡◌ {A = Group} (record { closer = c; content = m; behind = r }) g = cc in
          let a = ap (λ (h : Group). length h.content) f in let b = ap (λ (h : Group). length h.behind) f in
          record { content = omega arith; behind = omega arith }
      go false e = let z : ◌≡◌ {A = ℕ} 0 1 = cc in absurd (omega arith)

  group-parts : (o : List ℕ) → tall_group field o x s ≡ some g → GroupWithin s g
  unfolding tall_group
  group-parts o e = go (already_sized o) e
    where
      found : (c : ℕ) (q : Option (List ℕ)) → close x c 0 s ≡ q → group_of field c s q ≡ some g → GroupWithin s g
      found c none f e = let z : ◌≡◌ {A = ℕ} 0 1 = cc in absurd (omega arith)
      found c (some r) f e =
          let b = (close-behind-closer x c 0 s r f).shorter in
          let l = length-take (pred (length s - length r)) s in
          if-tall-parts c (inside s r) r (omega arith) (omega arith) e

      with-closer : (q : Option ℕ) → group_with field x s q ≡ some g → GroupWithin s g
      with-closer none e = let z : ◌≡◌ {A = ℕ} 0 1 = cc in absurd (omega arith)
      with-closer (some c) e = found c (close x c 0 s) refl e

      go : (t : Bool) → ◌≡◌ {A = Option Group} (elim t [ true ↦ none | false ↦ group_with field x s (closing x) ]) (some g) → GroupWithin s g
      go true e = let z : ◌≡◌ {A = ℕ} 0 1 = cc in absurd (omega arith)
      go false e = with-closer (closing x) e

-- ---- a step looks at shorter texts alone
step_same : (field : ℕ) (f g : Sizer) (o : List ℕ) (x : ℕ) (s : List ℕ) → ((p t : List ℕ) → length t ≤ length s → f p t ≡ g p t) → size_step field f o (x ∷ s) ≡ size_step field g o (x ∷ s)
unfolding size_step
step_same field f g o x s same = script (script_group x s) refl
  where
    group : (q : Option Group) → tall_group field o x s ≡ q → group_step f o x s q ≡ group_step g o x s q
    group none e = ap (λ t. x ∷ t) (same (x ∷ o) s (omega arith))
    group (some h) e =
        let p = group-parts field x s h o e in
        let m : f [] h.content ≡ g [] h.content = same [] h.content p.content in
        ap (λ t. left_right x h.closer t ++ f (reverse_aux (left_right x h.closer t) o) h.behind) m
        ∙ ap (λ t. left_right x h.closer (g [] h.content) ++ t) (same (reverse_aux (left_right x h.closer (g [] h.content)) o) h.behind p.behind)

    script : (q : Option (List ℕ)) → script_group x s ≡ q → script_step field f o x s q ≡ script_step field g o x s q
    script none e = group (tall_group field o x s) refl
    script (some r) e = ap (λ t. until (x ∷ s) r ++ t) (same (reverse_aux (until (x ∷ s) r) o) r (script-short x s r e))

enough : (field j k : ℕ) (o s : List ℕ) → length s ≤ j → length s ≤ k → size_with field j o s ≡ size_with field k o s
unfolding size_with size_step
enough field zero zero o s hj hk = refl
enough field zero (suc k) o [] hj hk = refl
enough field zero (suc k) o (x ∷ s) hj hk = absurd (not-suc-le-zero hj)
enough field (suc j) zero o [] hj hk = refl
enough field (suc j) zero o (x ∷ s) hj hk = absurd (not-suc-le-zero hk)
enough field (suc j) (suc k) o [] hj hk = refl
enough field (suc j) (suc k) o (x ∷ s) hj hk = step_same field (size_with field j) (size_with field k) o x s (λ p t h. enough field j k p t (omega arith) (omega arith))

unfoldable pub sizes : ℕ → Sizer
sizes field o s = size_with field (length s) o s

pub sizes-first : (field : ℕ) (s : List ℕ) → sizes field [] s ≡ size_delimiters_to_content field s
unfolding sizes size_delimiters_to_content
sizes-first field s = refl

pub sizes-end : (field : ℕ) (o : List ℕ) → sizes field o [] ≡ []
unfolding sizes size_with size_step
sizes-end field o = refl

pub sizes-step : (field : ℕ) (o : List ℕ) (x : ℕ) (s : List ℕ) → sizes field o (x ∷ s) ≡ script_step field (sizes field) o x s (script_group x s)
unfolding sizes size_with size_step
sizes-step field o x s = step_same field (size_with field (length s)) (sizes field) o x s (λ p t h. enough field (length s) (length t) p t h (omega arith))

-- ---- without an opening delimiter nothing is sized
contains-suffix : (w u r : List ℕ) → contains w (u ++ r) ≡ false → contains w r ≡ false
contains-suffix w [] r e = e
contains-suffix w (x ∷ u) r e = contains-suffix w u r (go (starts w (x ∷ (u ++ r))) e)
  where
    go : (t : Bool) → t || contains w (u ++ r) ≡ false → contains w (u ++ r) ≡ false
    go true e = absurd (false≢true (sym e))
    go false e = e

script-suffix : (x : ℕ) (s r : List ℕ) → script_group x s ≡ some r → until (x ∷ s) r ++ r ≡ x ∷ s
script-suffix x s r e = go (script_sign x && is "{" (head s)) e s refl
  where
    again : (y : ℕ) (t : List ℕ) → length r ≤ length t → until t r ++ r ≡ t → until (y ∷ t) r ++ r ≡ y ∷ t
    again y t h e = let m : suc (length t) - length r ≡ suc (length t - length r) = omega arith in ap (λ k. take k (y ∷ t) ++ r) m ∙ ap (λ u. y ∷ u) e

    go : (t : Bool) → ◌≡◌ {A = Option (List ℕ)} (elim t [ true ↦ matching_delimiter (code "{") (code "}") s | false ↦ none ]) (some r) → (s' : List ℕ) → s ≡ s' → until (x ∷ s) r ++ r ≡ x ∷ s
    go true e [] q =
        let b = (close-behind-closer (code "{") (code "}") 0 (past s) r e).shorter in let l = ap (λ (t : List ℕ). length (past t)) q in absurd (omega arith)
    go true e (y ∷ t) q =
        let b = close-behind-closer (code "{") (code "}") 0 t r (ap (λ (u : List ℕ). close (code "{") (code "}") 0 (past u)) (sym q) ∙ e) in
        let h = b.shorter in
        ap (λ u. until (x ∷ u) r ++ r) q ∙ again x (y ∷ t) (omega arith) (again y t (omega arith) b.suffix) ∙ ap (λ u. x ∷ u) (sym q)
    go false e s' q = let z : ◌≡◌ {A = ℕ} 0 1 = cc in absurd (omega arith)

pub record Openerless (s : List ℕ) : Type 0 where
  pub round : contains (bytes "(") s ≡ false
  pub square : contains (bytes "[") s ≡ false

abbrev Smaller : ℕ → ℕ → Type 0
Smaller field k = (o s : List ℕ) → Openerless s → size_with field k o s ≡ s

with-openerless : (field k : ℕ) (o s : List ℕ) → Openerless s → size_with field k o s ≡ s
unfolding size_with size_step tall_group
with-openerless field zero o s plain = refl
with-openerless field (suc k) o [] plain = refl
with-openerless field (suc k) o (x ∷ s) plain = script (script_group x s) refl (with-openerless field k)
  where
    round : (eqb x (code "(") ≡ false) × (contains (bytes "(") s ≡ false)
    round = or-neither (eqb x (code "(")) (contains (bytes "(") s) plain.round

    square : (eqb x (code "[") ≡ false) × (contains (bytes "[") s ≡ false)
    square = or-neither (eqb x (code "[")) (contains (bytes "[") s) plain.square

    closing-none : closing x ≡ none
    closing-none = rw (round.0, square.0, closing)

    no-group : (t : Bool) → ◌≡◌ {A = Option Group} (elim t [ true ↦ none | false ↦ group_with field x s (closing x) ]) none
    no-group true = refl
    no-group false = ap (group_with field x s) closing-none

    script : (q : Option (List ℕ)) → script_group x s ≡ q → Smaller field k → script_step field (size_with field k) o x s q ≡ x ∷ s
    script none e again =
        ap (group_step (size_with field k) o x s) (no-group (already_sized o))
        ∙ ap (λ t. x ∷ t) (again (x ∷ o) s (record { round = round.1; square = square.1 }))
    script (some r) e again =
        let suffix = script-suffix x s r e in
        let p : Openerless r = record {
          round = contains-suffix (bytes "(") (until (x ∷ s) r) r (ap (contains (bytes "(")) suffix ∙ plain.round);
          square = contains-suffix (bytes "[") (until (x ∷ s) r) r (ap (contains (bytes "[")) suffix ∙ plain.square);
        } in
        ap (λ t. until (x ∷ s) r ++ t) (again (reverse_aux (until (x ∷ s) r) o) r p) ∙ suffix

pub size-openerless : (field : ℕ) (s : List ℕ) → Openerless s → size_delimiters_to_content field s ≡ s
unfolding size_delimiters_to_content
size-openerless field s plain = with-openerless field (length s) [] s plain

pub openerless-of : (s : List ℕ) → contains (bytes "(") s || contains (bytes "[") s ≡ false → Openerless s
openerless-of s e = let p = or-neither (contains (bytes "(") s) (contains (bytes "[") s) e in record { round = p.0; square = p.1 }
