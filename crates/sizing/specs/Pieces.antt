-- What the code's searches say of a place, and what is written from there on.
--     sized_at                 what is written from place i of a level on
--     TallIn, TallAt          the answers of the searches for a tall group
--     PieceKept, Grown        the pieces: symbols that are copied, and a tall group
-- Assumes nothing.
use Rattle.std.specs.Prelude.{◌≡◌, refl, Bool, true, false, cond, ◌&&◌, ℕ, suc, ◌+◌, ◌-◌, ◌≤◌, ◌<◌, eqb, length}
use Rattle.std.proofs.Math.Path.{sym, ap, ap₂, subst}
use Rattle.std.proofs.Common.{◌∙◌, inl, inr, take-add, get_or-drop}
use mathlib.Core.List.{List, [], ◌∷◌, ◌++◌, reverse, reverse_aux, reverse-append, reverse_aux-eq, reverse_aux-append, append_assoc}
use Rattle.std.proofs.Math.Option.{Option, none, some}
use Prim.Native.Char.{code}
use native.Mathlib.Omega.{arith}
use Rattle.std.proofs.Math.ListN.{get_or, take, drop, length-drop}
use Rattle.std.proofs.Math.Seq.{drop-drop}
use Rattle.spec.specs.Symbols.{bytes, is, script_sign, head, until, starts}
use Rattle.spec.specs.Closing.{close, matching_delimiter}
use Rattle.spec.specs.Finish.{script_group, closing, already_sized, Group, tall, tall_group, left_right, size_delimiters_to_content}
use Rattle.spec.specs.Laws.Symbols.{drop-step, head-drop}
use Rattle.text_search.specs.Search.{Closes, closes-at, closes-within, closes-nothing, reach, inside-drop, until-drop}
use Rattle.slice_laws.specs.Tests.{ends-slice}
use Rattle.text_symbols.specs.Places.{before, before-next}
use Rattle.text_search.specs.Search.{Found}
use Rattle.std.specs.Prelude.{Some, None, MatchOption, not, ◌||◌}
use Rattle.std.specs.Bool.{then_some}
use Rattle.std.specs.List.{ends_with}
use Rattle.std.proofs.lemmas.Bool.{false≢true}
use Rattle.sizing.specs.Levels.{if_tall, group_of, group_with, group_step, script_step, sizes, sizes-first, sizes-step, close-behind-closer}
use Rattle.sizing.specs.Alike.{Closer, group, sizes-alike}
use Rattle.sizing.specs.declared.Piece.{Piece}
use Rattle.sizing.specs.declared.Piece.TheVariants.{Keep, Tall}

abbrev pub closer_of : ℕ → ℕ
closer_of x = cond (is "(" x) (code ")") (code "]")

closer-is : (x : ℕ) → Closer (closer_of x)
closer-is x = go (is "(" x)
  where
    go : (t : Bool) → Closer (cond t (code ")") (code "]"))
    go true = inl refl
    go false = inr refl

unfoldable pub sized_at : ℕ → List ℕ → ℕ → List ℕ
sized_at field s i = sizes field (before s i) (drop i s)

-- ---- a word that stands right before a place
pub before-ends : (w s : List ℕ) (i : ℕ) → ends_with eqb (take i s) w ≡ starts (reverse w) (before s i)
before-ends w s i = ends-slice w (take i s)

-- ---- a script group, by the code's test
module _ (s : List ℕ) (i : ℕ) {a : Bool} {y : ℕ} (sign : a ≡ script_sign (get_or s i 0)) (next : y ≡ get_or s (i + 1) 0) where
  test-is : a && eqb y (code "{") ≡ script_sign (get_or s i 0) && is "{" (head (drop (i + 1) s))
  test-is = ap₂ (λ b z. b && is "{" z) sign (next ∙ sym (head-drop s (i + 1)))

  pub script-yes : a && eqb y (code "{") ≡ true → matching_delimiter (code "{") (code "}") (drop (i + 1) s) ≡ script_group (get_or s i 0) (drop (i + 1) s)
  script-yes t = rw (sym test-is ∙ t, script_group)

  pub script-no : a && eqb y (code "{") ≡ false → none ≡ script_group (get_or s i 0) (drop (i + 1) s)
  script-no t = rw (sym test-is ∙ t, script_group)

-- ---- a tall group behind its opener
abbrev pub closed_group : ℕ → List ℕ → Found → Option Group
closed_group c s (Some k) = some (record { closer = c; content = take k s; behind = drop (k + 1) s })
closed_group c s None = none

abbrev pub closes_at : ℕ → List ℕ → Found → Type 0
closes_at c s (Some k) = get_or s k 0 ≡ c
closes_at c s None = Unit {0}

pub record TallIn (field : ℕ) (s : List ℕ) (o c : ℕ) (r : Found) : Type 0 where
  pub within : reach r ≤ length s
  pub group : group_of field c s (close o c 0 s) ≡ closed_group c s r
  pub closes : closes_at c s r

module _ (field : ℕ) (s : List ℕ) (o c : ℕ) {r : Found} (f : Closes s r (close o c 0 s)) where
  pub tall-none : r ≡ None → TallIn field s o c None
  tall-none e = record { within = omega arith; group = ap (group_of field c s) (closes-nothing f e); closes = tt }

  module _ {k : ℕ} (e : r ≡ Some k) where
    found : group_of field c s (close o c 0 s) ≡ if_tall field c (take k s) (drop (k + 1) s)
    found = ap (group_of field c s) (closes-at f e) ∙ ap (λ m. if_tall field c m (drop (k + 1) s)) (inside-drop s k (closes-within f e))

    tall-low : tall field (take k s) ≡ false → TallIn field s o c None
    tall-low t = record { within = omega arith; group = found ∙ ap (λ b. cond b (some (record { closer = c; content = take k s; behind = drop (k + 1) s })) none) t; closes = tt }

    tall-high : tall field (take k s) ≡ true → TallIn field s o c (Some k)
    tall-high t =
        let w = closes-within f e in
        let b = close-behind-closer o c 0 s (drop (k + 1) s) (closes-at f e) in
        let l = length-drop (k + 1) s in
        let n : length s - suc (length (drop (k + 1) s)) ≡ k = omega arith in
        record {
          within = omega arith;
          group = found ∙ ap (λ b. cond b (some (record { closer = c; content = take k s; behind = drop (k + 1) s })) none) t;
          closes = ap (λ m. get_or s m 0) (sym n) ∙ b.closer;
        }

    pub tall-if : (b : Bool) → b ≡ tall field (take k s) → TallIn field s o c (then_some b k)
    tall-if true t = tall-high (sym t)
    tall-if false t = tall-low (sym t)

-- ---- a tall group at a place
pub record TallAt (field : ℕ) (s : List ℕ) (i : ℕ) (r : Found) : Type 0 where
  pub within : reach r ≤ length (drop (i + 1) s)
  pub group : tall_group field (before s i) (get_or s i 0) (drop (i + 1) s) ≡ closed_group (closer_of (get_or s i 0)) (drop (i + 1) s) r
  pub closes : closes_at (closer_of (get_or s i 0)) (drop (i + 1) s) r

module _ (field : ℕ) (s : List ℕ) (i : ℕ) where
  tall-sized : already_sized (before s i) ≡ true → TallAt field s i None
  unfolding tall_group
  tall-sized e = record { within = omega arith; group = rw (e, tall_group); closes = tt }

  module _ (e : already_sized (before s i) ≡ false) where
    open-group : tall_group field (before s i) (get_or s i 0) (drop (i + 1) s) ≡ group_with field (get_or s i 0) (drop (i + 1) s) (closing (get_or s i 0))
    unfolding tall_group
    open-group = rw (e, tall_group)

    tall-here : {r : Found} → closing (get_or s i 0) ≡ some (closer_of (get_or s i 0)) → TallIn field (drop (i + 1) s) (get_or s i 0) (closer_of (get_or s i 0)) r → TallAt field s i r
    tall-here opens t =
        record { within = t.within; group = open-group ∙ ap (group_with field (get_or s i 0) (drop (i + 1) s)) opens ∙ t.group; closes = t.closes }

    tall-other : closing (get_or s i 0) ≡ none → TallAt field s i None
    tall-other shut =
        record { within = omega arith; group = open-group ∙ ap (group_with field (get_or s i 0) (drop (i + 1) s)) shut; closes = tt }

-- by the code's test: a delimiter that opens, and has no size
abbrev opens : ℕ → Bool
opens x = is "(" x || is "[" x

closing-opens : (x : ℕ) → opens x ≡ true → closing x ≡ some (closer_of x)
closing-opens x e = go (is "(" x) refl (is "[" x) refl e
  where
    go : (a : Bool) → is "(" x ≡ a → (b : Bool) → is "[" x ≡ b → a || b ≡ true → closing x ≡ some (closer_of x)
    go true f b g h = rw (f, closing)
    go false f true g h = rw (f, g, closing)
    go false f false g h = absurd (false≢true h)

closing-other : (x : ℕ) → opens x ≡ false → closing x ≡ none
closing-other x e = go (is "(" x) refl (is "[" x) refl e
  where
    go : (a : Bool) → is "(" x ≡ a → (b : Bool) → is "[" x ≡ b → a || b ≡ false → closing x ≡ none
    go true f b g h = absurd (false≢true (sym h))
    go false f true g h = absurd (false≢true (sym h))
    go false f false g h = rw (f, g, closing)

module _ (field : ℕ) (s : List ℕ) (i : ℕ) {b : Bool} (sized : b ≡ already_sized (before s i)) where
  pub tall-closed : not (opens (get_or s i 0)) || b ≡ true → TallAt field s i None
  tall-closed t = go (opens (get_or s i 0)) refl b (sym sized) t
    where
      go : (a : Bool) → opens (get_or s i 0) ≡ a → (b : Bool) → already_sized (before s i) ≡ b → not a || b ≡ true → TallAt field s i None
      go a f true g h = tall-sized field s i g
      go true f false g h = absurd (false≢true h)
      go false f false g h = tall-other field s i g (closing-other (get_or s i 0) f)

  pub tall-open :
      not (opens (get_or s i 0)) || b ≡ false → {r : Found} → TallIn field (drop (i + 1) s) (get_or s i 0) (closer_of (get_or s i 0)) r → TallAt field s i r
  tall-open t {r} inside = go (opens (get_or s i 0)) refl b (sym sized) t
    where
      go : (a : Bool) → opens (get_or s i 0) ≡ a → (b : Bool) → already_sized (before s i) ≡ b → not a || b ≡ false → TallAt field s i r
      go true f true g h = absurd (false≢true (sym h))
      go false f b g h = absurd (false≢true (sym h))
      go true f false g h = tall-here field s i g (closing-opens (get_or s i 0) f) inside

-- ---- the pieces
pub record PieceKept (field : ℕ) (s : List ℕ) (i k : ℕ) : Type 0 where
  pub positive : 0 < k
  pub fits : i + k ≤ length s
  pub step : sized_at field s i ≡ take k (drop i s) ++ sized_at field s (i + k)

pub record Grown (field : ℕ) (s : List ℕ) (i k : ℕ) : Type 0 where
  pub fits : i + k + 2 ≤ length s
  pub step : sized_at field s i ≡ left_right (get_or s i 0) (closer_of (get_or s i 0)) (size_delimiters_to_content field (take k (drop (i + 1) s))) ++ sized_at field s (i + k + 2)

abbrev pub PieceFor : ℕ → List ℕ → ℕ → Piece → Type 0
PieceFor field s i (Keep k) = PieceKept field s i k
PieceFor field s i (Tall k) = Grown field s i k

passed-many : (s : List ℕ) (i k : ℕ) → reverse_aux (take k (drop i s)) (before s i) ≡ before s (i + k)
passed-many s i k =
    reverse_aux-eq (take k (drop i s)) (before s i) ∙ sym (reverse-append (take i s) (take k (drop i s))) ∙ ap reverse (sym (take-add i k s))

module _ (field : ℕ) (s : List ℕ) (i : ℕ) (inside : i < length s) where
  here : sized_at field s i ≡ script_step field (sizes field) (before s i) (get_or s i 0) (drop (i + 1) s) (script_group (get_or s i 0) (drop (i + 1) s))
  unfolding sized_at
  here = ap (sizes field (before s i)) (drop-step s i inside) ∙ sizes-step field (before s i) (get_or s i 0) (drop (i + 1) s)

  module _ {r : Found} (f : Closes (drop (i + 1) s) r (script_group (get_or s i 0) (drop (i + 1) s))) where
    pub script-piece : {j : ℕ} → r ≡ Some j → PieceFor field s i (Keep (j + 2))
    unfolding sized_at
    script-piece {j} e =
        let w = closes-within f e in let l = length-drop (i + 1) s in let d = length-drop i s in
        let x = get_or s i 0 in let t = drop (i + 1) s in
        let n : 1 + (j + 1) ≡ j + 2 = omega arith in
        let m : i + 1 + (j + 1) ≡ i + (j + 2) = omega arith in
        let behind : drop (j + 1) t ≡ drop (j + 2) (drop i s) =
        drop-drop (j + 1) (i + 1) s ∙ ap (λ k. drop k s) m ∙ sym (drop-drop (j + 2) i s)
        in
        let block : until (x ∷ t) (drop (j + 1) t) ≡ take (j + 2) (drop i s) =
        ap₂ until (sym (drop-step s i inside)) behind ∙ until-drop (drop i s) (j + 2) (omega arith)
        in
        record {
          positive = omega arith;
          fits = omega arith;
          step = here ∙ ap (script_step field (sizes field) (before s i) x t) (closes-at f e)
              ∙ ap (λ u. u ++ sizes field (reverse_aux u (before s i)) (drop (j + 1) t)) block
              ∙ ap₂ (λ p q. take (j + 2) (drop i s) ++ sizes field p q) (passed-many s i (j + 2)) (behind ∙ drop-drop (j + 2) i s);
        }

    module _ (e : r ≡ None) where
      no-script : sized_at field s i ≡ group_step (sizes field) (before s i) (get_or s i 0) (drop (i + 1) s) (tall_group field (before s i) (get_or s i 0) (drop (i + 1) s))
      no-script = here ∙ ap (script_step field (sizes field) (before s i) (get_or s i 0) (drop (i + 1) s)) (closes-nothing f e)

      symbol-piece : {q : Found} → TallAt field s i q → q ≡ None → PieceFor field s i (Keep 1)
      unfolding sized_at
      symbol-piece t n =
          let g = t.group ∙ ap (closed_group (closer_of (get_or s i 0)) (drop (i + 1) s)) n in
          record {
            positive = omega arith;
            fits = omega arith;
            step = no-script ∙ ap (group_step (sizes field) (before s i) (get_or s i 0) (drop (i + 1) s)) g
                ∙ ap (λ p. get_or s i 0 ∷ sizes field p (drop (i + 1) s)) (sym (before-next s i inside))
                ∙ ap (λ u. take 1 u ++ sized_at field s (i + 1)) (sym (drop-step s i inside));
          }

      tall-piece : {q : Found} {k : ℕ} → TallAt field s i q → q ≡ Some k → PieceFor field s i (Tall k)
      unfolding sized_at
      tall-piece {k = k} t n =
          let x = get_or s i 0 in let b = drop (i + 1) s in let c = closer_of x in let o = before s i in
          let w = t.within in let q = ap reach n in let l = length-drop (i + 1) s in
          let g = t.group ∙ ap (closed_group c b) n in
          let closes : get_or b k 0 ≡ c = subst (closes_at c b) n t.closes in
          let m = left_right x c (sizes field [] (take k b)) in
          let e1 : i + 1 + (k + 1) ≡ i + k + 2 = omega arith in
          let e2 : i + k + 1 + 1 ≡ i + k + 2 = omega arith in
          let e3 : i + 1 + k ≡ i + k + 1 = omega arith in
          let behind : drop (k + 1) b ≡ drop (i + k + 2) s = drop-drop (k + 1) (i + 1) s ∙ ap (λ j. drop j s) e1 in
          let last : before s (i + k + 2) ≡ c ∷ before s (i + k + 1) =
          ap (before s) (sym e2) ∙ before-next s (i + k + 1) (omega arith)
          ∙ ap (λ y. y ∷ before s (i + k + 1)) (ap (λ j. get_or s j 0) (sym e3) ∙ sym (get_or-drop (i + 1) s k 0) ∙ closes)
          in
          let m₀ = bytes "\\left" ++ (x ∷ (sizes field [] (take k b) ++ bytes "\\right")) in
          let ends : reverse_aux m o ≡ c ∷ reverse_aux m₀ o =
          ap (λ u. reverse_aux u o) (ap (λ u. bytes "\\left" ++ (x ∷ u)) (sym (append_assoc (sizes field [] (take k b)) (bytes "\\right") (c ∷ []))))
          ∙ reverse_aux-append m₀ (c ∷ []) o
          in
          record {
            fits = omega arith;
            step = no-script ∙ ap (group_step (sizes field) o x b) g
                ∙ ap (λ p. m ++ sizes field p (drop (k + 1) b)) ends
                ∙ ap (λ u. m ++ u) (sizes-alike field (drop (k + 1) b) (group {o = reverse_aux m₀ o} {p = before s (i + k + 1)} c (closer-is x)))
                ∙ ap₂ (λ p u. m ++ sizes field p u) (sym last) behind
                ∙ ap (λ u. left_right x c u ++ sized_at field s (i + k + 2)) (sizes-first field (take k b));
          }

      pub other-piece : {q : Found} (p : Piece) → TallAt field s i q → MatchOption q (p ≡ Keep 1) (λ k. p ≡ Tall k) → PieceFor field s i p
      other-piece {q = None} p t m = subst (PieceFor field s i) (sym m) (symbol-piece t refl)
      other-piece {q = Some k} p t m = subst (PieceFor field s i) (sym m) (tall-piece t refl)
