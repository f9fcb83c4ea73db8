-- Sizing a stacked tree: a group with a fraction in it, outside scripts, gets \left and \right where the tall field has the bit of \frac.
use Rattle.std.specs.Prelude.{◌≡◌, Bool, true, false, cond, ◌&&◌, eqb}
use Rattle.std.proofs.Math.Path.{refl, ap}
use Rattle.std.proofs.Common.{sym, ◌∙◌, arith}
use Rattle.std.proofs.Math.Bool.{not}
use mathlib.Core.List.{List, [], ◌∷◌, ◌++◌, append-nil, append_assoc, reverse_aux, reverse_aux-append}
use Rattle.std.proofs.Math.Option.{Option, none, some}
use Prim.Native.Nat.{ℕ, zero, suc, pred, ◌-◌, ◌≤◌}
use Prim.Native.Char.{code}
use Rattle.std.proofs.Math.ListN.{length, take, length-append}
use Rattle.std.proofs.Math.Seq.{take-append_seam}
use Rattle.spec.specs.Symbols.{bytes, alnum, all, until}
use Rattle.spec.specs.Closing.{close}
use Rattle.spec.specs.Finish.{frac_bit, tall, script_group, closing, already_sized, Group, tall_group, left_right, size_step, size_with, size_delimiters_to_content}
use Rattle.spec.specs.Grammar.{Atom}
use Rattle.spec.specs.Laws.Booleans.{and_left, and_right}
use Rattle.spec.specs.Laws.Symbols.{starts-unequal, until-append}
use Rattle.plain_printing.specs.Tree.{Tree, TreeScript, Join, beside, plus, minus, atom, fraction, group, row, bare, symbol, inner, atom_writing, join_text, parens, slashless, height, braced_style, final_style, write, write_script, stacked}
use Rattle.plain_printing.specs.Classes.{apart, none_of, excludes, all-weaken}
use Rattle.plain_printing.proofs.Unlatex.{bare_symbol, atom-bare}
use Rattle.plain_printing.specs.Nest.{Nest, through}
use Rattle.plain_printing.proofs.Written.{nest}
use Rattle.plain_printing.proofs.Operand.{Edge, start, after-space, after-paren, after-brace, close-through, calm-side}
use Rattle.plain_printing.specs.Rule.{Marker, low, high}
use Rattle.plain_printing.proofs.Tall.{tall-tree}
use Rattle.plain_printing.proofs.Turns.{join-edge, edge-unmarked}

module _ (field : ℕ) where
  -- whether the field sizes parentheses with a fraction in them
  abbrev sized : Bool
  sized = frac_bit field

  -- ---- a part of the text is sized, and enough fuel is left for the rest
  pub record PartSized (f : ℕ) (o s w r : List ℕ) : Type 0 where
    pub left : ℕ
    pub enough : length r ≤ left
    pub sizes : size_with field f o s ≡ w ++ size_with field left (reverse_aux w o) r

  -- a text s that becomes w wherever it stands behind o
  abbrev SizesAt : List ℕ → List ℕ → List ℕ → Type 0
  SizesAt o s w = (f : ℕ) (r : List ℕ) → length (s ++ r) ≤ f → PartSized f o (s ++ r) w r

  both-sized : (o s w s' w' : List ℕ) → SizesAt o s w → SizesAt (reverse_aux w o) s' w' → SizesAt o (s ++ s') (w ++ w')
  both-sized o s w s' w' p q f r h =
      let first : PartSized f o (s ++ (s' ++ r)) w (s' ++ r) = p f (s' ++ r) (rw append_assoc at h) in
      let second : PartSized first.left (reverse_aux w o) (s' ++ r) w' r = q first.left r first.enough in
      record {
        left = second.left;
        enough = second.enough;
        sizes = rw (append_assoc s s' r, append_assoc w w' _, reverse_aux-append w w' o) (first.sizes ∙ ap (λ (l : List ℕ). w ++ l) second.sizes);
      }

  -- ---- symbols that are copied
  abbrev quiet : ℕ → Bool
  quiet x = none_of (bytes "_^([") x

  no-group : (b : Bool) (g : Option Group) → g ≡ none → ◌≡◌ {A = Option Group} (elim b as (λ b. Option Group) [ true ↦ none | false ↦ g ]) none
  no-group true g e = refl
  no-group false g e = e

  quiet-group : (x : ℕ) → quiet x ≡ true → (o s : List ℕ) → tall_group field o x s ≡ none
  unfolding tall_group
  quiet-group x h o s =
      let alone : closing x ≡ none = rw (apart quiet x (code "(") h refl, closing, apart quiet x (code "[") h refl) in
      no-group (already_sized o) _ (rw alone)

  quiet-script : (x : ℕ) → quiet x ≡ true → (s : List ℕ) → script_group x s ≡ none
  quiet-script x h s = rw (apart quiet x (code "_") h refl, script_group, apart quiet x (code "^") h refl)

  step : (f x : ℕ) (o s : List ℕ) → script_group x s ≡ none → tall_group field o x s ≡ none → size_with field (suc f) o (x ∷ s) ≡ x ∷ size_with field f (x ∷ o) s
  unfolding size_with size_step
  step f x o s p q = rw (p, size_with, size_step, q)

  run-sized : (w : List ℕ) → all quiet w ≡ true → (o : List ℕ) → SizesAt o w w
  run-sized [] h o f r e = record { left = f; enough = e; sizes = refl }
  run-sized (x ∷ w) h o zero r e = absurd (omega arith)
  run-sized (x ∷ w) h o (suc f) r e =
      let hx : quiet x ≡ true = and_left (quiet x) (all quiet w) h in
      let later : PartSized f (x ∷ o) (w ++ r) w r = run-sized w (and_right (quiet x) (all quiet w) h) (x ∷ o) f r (omega arith) in
      record {
        left = later.left;
        enough = later.enough;
        sizes = step f x o (w ++ r) (quiet-script x hx (w ++ r)) (quiet-group x hx o (w ++ r)) ∙ ap {B = List ℕ} (λ l. x ∷ l) later.sizes;
      }

  -- ---- groups
  other-end : (x : ℕ) (o : List ℕ) → eqb x (code "t") ≡ false → already_sized (x ∷ o) ≡ false
  other-end x o e = rw (starts-unequal (code "t") x (bytes "fel\\") o e, starts-unequal (code "t") x (bytes "hgir\\") o e)

  not-sized : {o : List ℕ} → Edge o → already_sized o ≡ false
  not-sized start = refl
  not-sized (after-space {p = p}) = other-end (code " ") p refl
  not-sized (after-paren {p = p} h) = other-end (code "(") p refl
  not-sized (after-brace {p = p}) = other-end (code "{") p refl

  pub sized-nothing : (f : ℕ) (o : List ℕ) → size_with field f o [] ≡ []
  unfolding size_with size_step
  sized-nothing zero o = refl
  sized-nothing (suc f) o = refl

  -- the group that a parenthesis opens, tall or not
  paren-group : (c : Bool) (s : List ℕ) → Nest s → tall field s ≡ c → {o : List ℕ} → Edge o → (r : List ℕ)
      → ◌≡◌ {A = Option Group} (tall_group field o (code "(") (s ++ code ")" ∷ r)) (cond c (some (record { closer = (code ")"); content = s; behind = r })) none)
  unfolding tall_group close
  paren-group c s m e {o} edge r =
      let closed : close (code "(") (code ")") 0 (s ++ code ")" ∷ r) ≡ some r = close-through m 0 (code ")" ∷ r) in
      let count : pred (length (s ++ code ")" ∷ r) - length r) ≡ length s = omega (arith, length-append s (code ")" ∷ r)) in
      let within : take (pred (length (s ++ code ")" ∷ r) - length r)) (s ++ code ")" ∷ r) ≡ s = rw count (take-append_seam s (code ")" ∷ r)) in
      rw (not-sized edge, closed, within, e)

  group-step : (f : ℕ) (o u : List ℕ) (g : Group) → tall_group field o (code "(") u ≡ some g
      → let m : List ℕ = left_right (code "(") g.closer (size_with field f [] g.content) in size_with field (suc f) o (code "(" ∷ u) ≡ m ++ size_with field f (reverse_aux m o) g.behind
  unfolding size_with size_step
  group-step f o u g e = rw e

  group-sized : (c : Bool) (s w : List ℕ) → Nest s → tall field s ≡ c → ((o : List ℕ) → Edge o → SizesAt o s w) → (o : List ℕ) → Edge o → SizesAt o (code "(" ∷ (s ++ code ")" ∷ [])) (parens c w)
  group-sized c s w m e sizes o edge zero r h = absurd (omega arith)
  group-sized true s w m e sizes o edge (suc f) r h =
      let inside : PartSized f [] (s ++ []) w [] = sizes [] start f [] (omega (arith, length-append s [], length-append (s ++ code ")" ∷ []) r, length-append s (code ")" ∷ []))) in
      let alone : size_with field f [] s ≡ w =
      ap (size_with field f []) (sym (append-nil s)) ∙ inside.sizes ∙ ap (λ (l : List ℕ). w ++ l) (sized-nothing inside.left (reverse_aux w [])) ∙ append-nil w in
      record {
        left = f;
        enough = omega (arith, length-append (s ++ code ")" ∷ []) r);
        sizes = rw (append_assoc s (code ")" ∷ []) r)
            (group-step f o (s ++ code ")" ∷ r) (record { closer = (code ")"); content = s; behind = r }) (paren-group true s m e edge r)
            ∙ ap (λ (l : List ℕ). left_right (code "(") (code ")") l ++ size_with field f (reverse_aux (left_right (code "(") (code ")") l) o) r) alone);
      }
  group-sized false s w m e sizes o edge (suc f) r h =
      let inside : PartSized f (code "(" ∷ o) ((s ++ code ")" ∷ []) ++ r) (w ++ code ")" ∷ []) r =
      both-sized (code "(" ∷ o) s w (code ")" ∷ []) (code ")" ∷ []) (sizes (code "(" ∷ o) (after-paren (edge-unmarked edge))) (run-sized (code ")" ∷ []) refl (reverse_aux w (code "(" ∷ o))) f r (omega arith) in
      let short : tall_group field o (code "(") ((s ++ code ")" ∷ []) ++ r) ≡ none = rw (append_assoc s (code ")" ∷ []) r) (paren-group false s m e edge r) in
      record { left = inside.left; enough = inside.enough; sizes = step f (code "(") o ((s ++ code ")" ∷ []) ++ r) refl short ∙ ap {B = List ℕ} (λ l. code "(" ∷ l) inside.sizes }

  -- ---- scripts
  brace-through : {s : List ℕ} → Nest s → (d : ℕ) (r : List ℕ) → close (code "{") (code "}") d (s ++ r) ≡ close (code "{") (code "}") d r
  unfolding close
  brace-through = through (close (code "{") (code "}")) (λ d. d) suc (λ d x r h. rw (calm-side (code "{") (code "}") x refl refl h, close)) (λ d r. refl) (λ d r. refl) (λ d r. refl) (λ d r. refl)

  marker-group : {m : ℕ} → Marker m → (o s : List ℕ) → tall_group field o m s ≡ none
  unfolding tall_group
  marker-group low o s = no-group (already_sized o) none refl
  marker-group high o s = no-group (already_sized o) none refl

  marker-alone : {m : ℕ} → Marker m → (c : ℕ) → alnum c ≡ true → (s : List ℕ) → script_group m (c ∷ s) ≡ none
  marker-alone low c h s = rw (apart alnum c (code "{") h refl, script_group)
  marker-alone high c h s = rw (apart alnum c (code "{") h refl, script_group)

  marker-braced : {m : ℕ} → Marker m → {s : List ℕ} → Nest s → (r : List ℕ) → script_group m (code "{" ∷ (s ++ code "}" ∷ r)) ≡ some r
  unfolding close
  marker-braced low n r = brace-through n 0 (code "}" ∷ r)
  marker-braced high n r = brace-through n 0 (code "}" ∷ r)

  symbol-sized : {m : ℕ} → Marker m → (c : ℕ) → alnum c ≡ true → (o : List ℕ) → SizesAt o (m ∷ c ∷ []) (m ∷ c ∷ [])
  symbol-sized mk c e o zero r h = absurd (omega arith)
  symbol-sized {m} mk c e o (suc f) r h =
      let later : PartSized f (m ∷ o) (c ∷ r) (c ∷ []) r = run-sized (c ∷ []) (rw (excludes alnum (bytes "_^([") refl c e)) (m ∷ o) f r (omega arith) in
      record {
        left = later.left;
        enough = later.enough;
        sizes = step f m o (c ∷ r) (marker-alone mk c e r) (marker-group mk o (c ∷ r)) ∙ ap {B = List ℕ} (λ l. m ∷ l) later.sizes;
      }

  script-step : (f x : ℕ) (o s r : List ℕ) → script_group x s ≡ some r → size_with field (suc f) o (x ∷ s) ≡ until (x ∷ s) r ++ size_with field f (reverse_aux (until (x ∷ s) r) o) r
  unfolding size_with size_step
  script-step f x o s r e = rw (e, size_with, size_step)

  inner-sized : {m : ℕ} → Marker m → {s : List ℕ} → Nest s → (o : List ℕ) → SizesAt o (m ∷ code "{" ∷ (s ++ code "}" ∷ [])) (m ∷ code "{" ∷ (s ++ code "}" ∷ []))
  inner-sized mk n o zero r h = absurd (omega arith)
  inner-sized {m} mk {s} n o (suc f) r h =
      let u : List ℕ = m ∷ code "{" ∷ (s ++ code "}" ∷ []) in
      let closed : script_group m (code "{" ∷ ((s ++ code "}" ∷ []) ++ r)) ≡ some r = rw (append_assoc s (code "}" ∷ []) r) (marker-braced mk n r) in
      record {
        left = f;
        enough = omega (arith, length-append (s ++ code "}" ∷ []) r);
        sizes = script-step f m o (code "{" ∷ ((s ++ code "}" ∷ []) ++ r)) r closed ∙ ap (λ (l : List ℕ). l ++ size_with field f (reverse_aux l o) r) (until-append u r);
      }

  script-sized : (n : ℕ) {m : ℕ} → Marker m → (c : TreeScript) (o : List ℕ) → SizesAt o (write_script braced_style n (m ∷ []) true c) (write_script (final_style sized) n (m ∷ []) true c)
  unfolding write_script
  script-sized n mk bare o = run-sized [] refl o
  script-sized n mk (symbol c e) o = symbol-sized mk c e o
  script-sized n mk (inner t) o = inner-sized mk (nest braced_style n t) o

  -- ---- trees
  atom-quiet : (a : Atom) → all quiet (atom_writing 30 a) ≡ true
  atom-quiet a = all-weaken bare_symbol quiet (excludes bare_symbol (bytes "_^([") refl) (atom_writing 30 a) (atom-bare a)

  join-quiet : (j : Join) → all quiet (join_text j) ≡ true
  join-quiet beside = refl
  join-quiet plus = refl
  join-quiet minus = refl

  -- the same as a record, so that antt finds the texts
  record Becomes (o s w : List ℕ) : Type 0 where
    at : SizesAt o s w

  ◌then◌ : {o s w s' w' : List ℕ} → Becomes o s w → Becomes (reverse_aux w o) s' w' → Becomes o (s ++ s') (w ++ w')
  ◌then◌ {o} {s} {w} {s'} {w'} p q = record { at = both-sized o s w s' w' p.at q.at }

  copied : (w : List ℕ) → all quiet w ≡ true → {o : List ℕ} → Becomes o w w
  copied w h {o} = record { at = run-sized w h o }

  script-becomes : (n : ℕ) {m : ℕ} → Marker m → (c : TreeScript) → {o : List ℕ} → Becomes o (write_script braced_style n (m ∷ []) true c) (write_script (final_style sized) n (m ∷ []) true c)
  script-becomes n mk c {o} = record { at = script-sized n mk c o }

  infixr 20 ◌then◌
  tree-sized : (n : ℕ) (t : Tree) → height t ≤ n → (o : List ℕ) → Edge o → Becomes o (write braced_style n t) (write (final_style sized) n t)
  unfolding write
  tree-sized n (atom a l h) d o edge =
      copied (atom_writing 30 a) (atom-quiet a) then script-becomes n low l then script-becomes n high h
  tree-sized zero (fraction t u) d o edge = absurd (omega arith)
  tree-sized (suc n) (fraction t u) d o edge =
      rw (stacked braced_style n t u (omega arith), stacked (final_style sized) n t u (omega arith))
      (copied (bytes "\\frac{") refl then tree-sized n t (omega arith) _ after-brace then copied (bytes "}{") refl
      then tree-sized n u (omega arith) _ after-brace then copied (bytes "}") refl)
  tree-sized n (group t) d o edge =
      record { at = group-sized (sized && not (slashless t)) (write braced_style n t) (write (final_style sized) n t) (nest braced_style n t) (tall-tree field n t d) (λ o e. (tree-sized n t d o e).at) o edge }
  tree-sized n (row t j u) d o edge =
      tree-sized n t (omega arith) o edge then copied (join_text j) (join-quiet j) then tree-sized n u (omega arith) _ (join-edge j _)

  -- sizing a stacked tree
  pub size-plain : (n : ℕ) (t : Tree) → height t ≤ n → size_delimiters_to_content field (write braced_style n t) ≡ write (final_style sized) n t
  unfolding size_delimiters_to_content
  size-plain n t d =
      let s : List ℕ = write braced_style n t in
      let w : List ℕ = write (final_style sized) n t in
      let done : PartSized (length s) [] (s ++ []) w [] = (tree-sized n t d [] start).at (length s) [] (omega (arith, length-append s [])) in
      ap (size_with field (length s) []) (sym (append-nil s)) ∙ done.sizes ∙ ap (λ (l : List ℕ). w ++ l) (sized-nothing done.left (reverse_aux w [])) ∙ append-nil w
