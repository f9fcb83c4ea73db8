-- `attach` comes to an end: after as many rewritings as a text has symbols, none is left to make. Assumes nothing.
--     parens         the opening parentheses of a text
--     attach-ends    the law: a rewriting takes the parenthesis of its `attach(` away and brings none
use Rattle.std.specs.Prelude.{◌≡◌, refl, Bool, true, false, cond, ℕ, zero, suc, pred, ◌+◌, ◌-◌, ◌≤◌, ◌<◌, length, take, drop}
use Rattle.std.proofs.Common.{sym, ap, ◌∙◌, arith, take-append-drop, drop-drop}
use mathlib.Core.List.{List, [], ◌∷◌, ◌++◌, reverse, reverse_aux}
use Rattle.std.proofs.Math.Option.{Option, none, some}
use Rattle.spec.specs.Symbols.{bytes, is, ◌and_then◌, blank, empty, until, inside, drop_while, drop_while_end, trim, starts, find}
use Rattle.spec.specs.Sweep.{kept, taken, sweep, replacing, replace}
use Rattle.spec.specs.Closing.{find_matching_paren, unescaped_behind, find_unescaped_comma, over_quotes}
use Rattle.spec.specs.Calls.{call_at, call_length, spliced, bottom, subscript, latex_underset, latex_attach, attach_once, attach_times, convert_attach}
use Rattle.spec.specs.Laws.Symbols.{starts-take, Tail, tail-here, tail_more, find-tail}

unfoldable parens : List ℕ → ℕ
parens [] = 0
parens (x ∷ s) = cond (is "(" x) 1 0 + parens s

one_at_most : (x : ℕ) → cond (is "(" x) 1 0 ≤ 1
one_at_most x = go (is "(" x)
  where
    go : (b : Bool) → cond b 1 0 ≤ 1
    go true = omega arith
    go false = omega arith

parens-short : (s : List ℕ) → parens s ≤ length s
unfolding parens
parens-short [] = omega arith
parens-short (x ∷ s) = let o = one_at_most x in let l = parens-short s in omega arith

-- ---- parts of a text have no more
parens-append : (s t : List ℕ) → parens (s ++ t) ≡ parens s + parens t
unfolding parens
parens-append [] t = omega arith
parens-append (x ∷ s) t = let l = parens-append s t in omega arith

parens-split : (n : ℕ) (s : List ℕ) → parens s ≡ parens (take n s) + parens (drop n s)
parens-split n s = ap parens (sym (take-append-drop n s)) ∙ parens-append (take n s) (drop n s)

parens-take : (n : ℕ) (s : List ℕ) → parens (take (pred n) s) ≤ parens (take n s)
unfolding parens
parens-take zero s = omega arith
parens-take (suc n) s = go n s
  where
    go : (n : ℕ) (s : List ℕ) → parens (take n s) ≤ parens (take (suc n) s)
    go zero s = omega arith
    go (suc n) [] = omega arith
    go (suc n) (x ∷ s) = let l = go n s in omega arith

-- a part from the start, and what stands behind the symbol that follows it
parens-around : (n : ℕ) (s : List ℕ) → parens (take n s) + parens (drop (suc (length (take n s))) s) ≤ parens s
unfolding parens
parens-around zero [] = omega arith
parens-around zero (x ∷ s) = omega arith
parens-around (suc n) [] = omega arith
parens-around (suc n) (x ∷ s) = let l = parens-around n s in omega arith

parens-reverse : (s t : List ℕ) → parens (reverse_aux s t) ≡ parens s + parens t
unfolding parens
parens-reverse [] t = omega arith
parens-reverse (x ∷ s) t = let l = parens-reverse s (x ∷ t) in omega arith

parens-drop-while : (f : ℕ → Bool) (s : List ℕ) → parens (drop_while f s) ≤ parens s
unfolding parens
parens-drop-while f [] = omega arith
parens-drop-while f (x ∷ s) = go (f x) (parens-drop-while f s)
  where
    go : (b : Bool) → parens (drop_while f s) ≤ parens s → parens (elim b as (λ b. List ℕ) [ true ↦ drop_while f s | false ↦ x ∷ s ]) ≤ cond (is "(" x) 1 0 + parens s
    go true l = omega arith
    go false l = omega arith

parens-drop-while-end : (f : ℕ → Bool) (s : List ℕ) → parens (drop_while_end f s) ≤ parens s
unfolding parens
parens-drop-while-end f s =
    let a = parens-reverse (drop_while f (reverse s)) [] in let b = parens-drop-while f (reverse s) in let c = parens-reverse s [] in omega arith

parens-trim : (s : List ℕ) → parens (trim s) ≤ parens s
parens-trim s = let a = parens-drop-while-end blank (drop_while blank s) in let b = parens-drop-while blank s in omega arith

parens-tail : {s r : List ℕ} → Tail s r → parens (until s r) + parens r ≡ parens s
parens-tail {s} {r} t = sym (parens-append (until s r) r) ∙ ap parens t.joined

parens-inside : {s r : List ℕ} → Tail s r → parens (inside s r) + parens r ≤ parens s
parens-inside {s} {r} t = let a = parens-tail t in let b = parens-take (length s - length r) s in omega arith

-- ---- what is written for a call
parens-replaced : (before skip : ℕ) (s : List ℕ) → parens (sweep (replacing (bytes "\\,") (bytes "\\;")) before skip s) ≤ parens s
unfolding parens sweep
parens-replaced before skip [] = omega arith
parens-replaced before (suc skip) (x ∷ s) = let l = parens-replaced x skip s in omega arith
parens-replaced before zero (x ∷ s) = go (starts (bytes "\\,") (x ∷ s)) (parens-replaced x 1 s) (parens-replaced x 0 s)
  where
    later : ℕ → List ℕ
    later skip = sweep (replacing (bytes "\\,") (bytes "\\;")) x skip s

    go : (b : Bool) → parens (later 1) ≤ parens s → parens (later 0) ≤ parens s
        → parens ((cond b (taken 2 (bytes "\\;")) (kept (x ∷ s))).fresh ++ later (cond b (taken 2 (bytes "\\;")) (kept (x ∷ s))).more) ≤ cond (is "(" x) 1 0 + parens s
    go true l m = omega arith
    go false l m = omega arith

parens-bottom : (after : List ℕ) → parens (bottom after) ≤ parens after
parens-bottom after = go (find_unescaped_comma after)
  where
    go : (o : Option (List ℕ)) → parens (elim o as (λ o. List ℕ) [ some behind ↦ trim (inside after behind) | none ↦ drop_while_end (is ")") after ]) ≤ parens after
    go none = parens-drop-while-end (is ")") after
    go (some behind) =
        let n = pred (length after - length behind) in
        let a = parens-trim (take n after) in let b = parens-split n after in omega arith

parens-subscript : (rest : List ℕ) → parens (subscript rest) ≤ parens rest
unfolding parens
parens-subscript rest = go (find (bytes "b:") rest) refl
  where
    go : (o : Option (List ℕ)) → find (bytes "b:") rest ≡ o → parens (elim o as (λ o. List ℕ) [ some at ↦ bottom (trim (drop 2 at)) | none ↦ [] ]) ≤ parens rest
    go none e = omega arith
    go (some at) e =
        let a = parens-bottom (trim (drop 2 at)) in let b = parens-trim (drop 2 at) in
        let c = parens-split 2 at in let d = parens-tail (find-tail (bytes "b:") rest at e) in
        omega arith

parens-underset : (below base : List ℕ) → parens (latex_underset below base) ≤ parens below + parens base
unfolding parens replace
parens-underset below base = let l = parens-replaced 0 0 below in simp parens-append (omega arith)

comma-tail : (before : ℕ) (s r : List ℕ) → unescaped_behind before s ≡ some r → Tail s r
unfolding unescaped_behind
comma-tail before [] r e = let z : ◌≡◌ {A = ℕ} 0 1 = cc in absurd (omega arith)
comma-tail before (x ∷ s) r e = go (is "," x) (is "\\" before) e (comma-tail x s r)
  where
    go : (b c : Bool)
        → ◌≡◌ {A = Option (List ℕ)} (elim b [ true ↦ elim c [ true ↦ unescaped_behind x s | false ↦ some s ] | false ↦ unescaped_behind x s ]) (some r)
        → (unescaped_behind x s ≡ some r → Tail s r) → Tail (x ∷ s) r
    go true true e later = tail_more x (later e)
    go true false e later = let same : s ≡ r = cc in tail_more x (rw (← same) (tail-here s))
    go false c e later = tail_more x (later e)

parens-latex : (inner fresh : List ℕ) → latex_attach inner ≡ some fresh → parens fresh ≤ parens inner
unfolding latex_attach
parens-latex inner fresh e = go (find_unescaped_comma inner) refl e
  where
    written : (rest : List ℕ) (b : Bool) → Tail inner rest → ◌≡◌ {A = Option (List ℕ)} (cond b none (some (latex_underset (subscript rest) (trim (inside inner rest))))) (some fresh)
        → parens fresh ≤ parens inner
    written rest true t e = let z : ◌≡◌ {A = ℕ} 0 1 = cc in absurd (omega arith)
    written rest false t e =
        let same : latex_underset (subscript rest) (trim (inside inner rest)) ≡ fresh = cc in
        let a = ap parens same in let b = parens-underset (subscript rest) (trim (inside inner rest)) in
        let c = parens-subscript rest in let d = parens-trim (inside inner rest) in let f = parens-inside t in
        omega arith

    go : (o : Option (List ℕ)) → find_unescaped_comma inner ≡ o
        → (o and_then λ rest. cond (empty (subscript rest)) none (some (latex_underset (subscript rest) (trim (inside inner rest))))) ≡ some fresh
        → parens fresh ≤ parens inner
    go none f e = let z : ◌≡◌ {A = ℕ} 0 1 = cc in absurd (omega arith)
    go (some rest) f e = written rest (empty (subscript rest)) (comma-tail 0 inner rest f) e

-- ---- one rewriting
parens-call : (at inner : List ℕ) → call_at over_quotes (bytes "attach(") at ≡ some inner → parens inner + parens (drop (call_length (bytes "attach(") inner) at) < parens at
unfolding call_at parens
parens-call at inner e = go (starts (bytes "attach(") at) refl (find_matching_paren (over_quotes (drop 7 at))) e
  where
    go : (b : Bool) → starts (bytes "attach(") at ≡ b → (o : Option (List ℕ))
        → ◌≡◌ {A = Option (List ℕ)} (elim b [ true ↦ o and_then λ behind. some (inside (drop 7 at) behind) | false ↦ none ]) (some inner)
        → parens inner + parens (drop (call_length (bytes "attach(") inner) at) < parens at
    go false b o e = let z : ◌≡◌ {A = ℕ} 0 1 = cc in absurd (omega arith)
    go true b none e = let z : ◌≡◌ {A = ℕ} 0 1 = cc in absurd (omega arith)
    go true b (some behind) e =
        let rest = drop 7 at in
        let n = pred (length rest - length behind) in
        let same : take n rest ≡ inner = cc in
        let name = ap parens (starts-take (bytes "attach(") at b) in
        let a = parens-split 7 at in let c = parens-around n rest in
        let next : 7 + suc (length inner) ≡ call_length (bytes "attach(") inner = omega arith in
        let d = ap (λ (i : List ℕ). parens i + parens (drop (suc (length i)) rest)) same in
        let f = ap parens (drop-drop (suc (length inner)) 7 at ∙ ap (λ m. drop m at) next) in
        omega arith

parens-once : (s t : List ℕ) → attach_once s ≡ some t → parens t < parens s
unfolding attach_once
parens-once s t e = from (find (bytes "attach(") s) refl e
  where
    written : (at inner : List ℕ) → Tail s at → call_at over_quotes (bytes "attach(") at ≡ some inner → (o : Option (List ℕ)) → latex_attach inner ≡ o
        → (o and_then λ fresh. some (spliced s at (bytes "attach(") inner fresh)) ≡ some t → parens t < parens s
    written at inner tail call none f e = let z : ◌≡◌ {A = ℕ} 0 1 = cc in absurd (omega arith)
    written at inner tail call (some fresh) f e =
        let same : spliced s at (bytes "attach(") inner fresh ≡ t = cc in
        let a = ap parens same in
        let b = parens-append (until s at ++ fresh) (drop (call_length (bytes "attach(") inner) at) in let c = parens-append (until s at) fresh in
        let d = parens-latex inner fresh f in let g = parens-call at inner call in let h = parens-tail tail in
        omega arith

    called : (at : List ℕ) → Tail s at → (o : Option (List ℕ)) → call_at over_quotes (bytes "attach(") at ≡ o
        → (o and_then λ inner. latex_attach inner and_then λ fresh. some (spliced s at (bytes "attach(") inner fresh)) ≡ some t → parens t < parens s
    called at tail none f e = let z : ◌≡◌ {A = ℕ} 0 1 = cc in absurd (omega arith)
    called at tail (some inner) f e = written at inner tail f (latex_attach inner) refl e

    from : (o : Option (List ℕ)) → find (bytes "attach(") s ≡ o
        → (o and_then λ at. call_at over_quotes (bytes "attach(") at and_then λ inner. latex_attach inner and_then λ fresh. some (spliced s at (bytes "attach(") inner fresh)) ≡ some t
        → parens t < parens s
    from none f e = let z : ◌≡◌ {A = ℕ} 0 1 = cc in absurd (omega arith)
    from (some at) f e = called at (find-tail (bytes "attach(") s at f) (call_at over_quotes (bytes "attach(") at) refl e

-- ---- all of them
times-end : (k : ℕ) (s : List ℕ) → parens s ≤ k → attach_once (attach_times k s) ≡ none
unfolding attach_times
times-end zero s h = go (attach_once s) refl
  where
    go : (o : Option (List ℕ)) → attach_once s ≡ o → attach_once s ≡ none
    go none e = e
    go (some t) e = let l = parens-once s t e in absurd (omega arith)
times-end (suc k) s h = go (attach_once s) refl (times-end k)
  where
    go : (o : Option (List ℕ)) → attach_once s ≡ o → ((t : List ℕ) → parens t ≤ k → attach_once (attach_times k t) ≡ none)
        → attach_once (elim o as (λ o. List ℕ) [ none ↦ s | some t ↦ attach_times k t ]) ≡ none
    go none e later = e
    go (some t) e later = let l = parens-once s t e in later t (omega arith)

pub attach-ends : (s : List ℕ) → attach_once (convert_attach s) ≡ none
unfolding convert_attach
attach-ends s = times-end (length s) s (parens-short s)
