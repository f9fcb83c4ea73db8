-- `text_search::starts_with` meets its contract: symbol by symbol the two are compared as the definitions do. Assumes nothing.
use Rattle.std.specs.Prelude.{◌≡◌, refl, Bool, true, false, ◌&&◌, List, [], ◌∷◌, ℕ, ◌≤◌, eqb, length, get_or, take, drop, ◌-◌}
use Rattle.std.specs.List.{zip, list_all}
use Rattle.std.proofs.Common.{sym, ap, ◌∙◌, arith, rules, eq-eqb}
use Rattle.std.proofs.Math.Bool.{and_comm}
use Rattle.std.proofs.lemmas.Bool.{lt-leb}
use Rattle.std.proofs.lemmas.Iterator.{YieldsList-from_slice, YieldsList-from_zip}
use Rattle.std.proofs.lemmas.Iterator.Search.{all_from_yields_List}
use Rattle.spec.specs.Symbols.{starts}
use Rattle.spec.specs.Laws.Names.{eqb-sym}
use Rattle.spec.specs.Laws.Symbols.{starts-short}
use borrow.Author.Tests.{tests}
use Rattle.text_symbols.specs.Parts.{rest_of}
use Rattle.text_search.proofs.starts_with.Goals as goal

zip-starts : (w s : List ℕ) → length w ≤ length s → list_all (λ p. eqb p.0 p.1) (zip w s) ≡ starts w s
zip-starts [] s h = refl
zip-starts (k ∷ w) [] h = absurd (omega arith)
zip-starts (k ∷ w) (x ∷ s) h =
    ap (λ t. eqb k x && t) (zip-starts w s (omega arith)) ∙ and_comm (eqb k x) (starts w s) ∙ ap (λ t. starts w s && t) (eqb-sym k x)

by-first : (w s : List ℕ) → 1 ≤ length w → 1 ≤ length s → starts w s ≡ (starts (drop 1 w) (drop 1 s) && eqb (get_or s 0 0) (get_or w 0 0))
by-first [] s h l = absurd (omega arith)
by-first (k ∷ w) [] h l = absurd (omega arith)
by-first (k ∷ w) (x ∷ s) h l = refl

-- so, where the first symbols are the same, the rests decide
by-rest : (w s : List ℕ) → 1 ≤ length w → 1 ≤ length s → eqb (get_or s 0 0) (get_or w 0 0) ≡ true → starts (take (length w - 1) (drop 1 w)) (take (length s - 1) (drop 1 s)) ≡ starts w s
by-rest w s h l e =
    ap (λ t. starts t (take (length s - 1) (drop 1 s))) (rest_of 1 w)
    ∙ ap (starts (drop 1 w)) (rest_of 1 s)
    ∙ sym (by-first w s h l ∙ ap (λ b. starts (drop 1 w) (drop 1 s) && b) e ∙ go (starts (drop 1 w) (drop 1 s)))
  where
    go : (b : Bool) → (b && true) ≡ b
    go true = refl
    go false = refl

pub returns-then-rest-behind : goal.returns-then-rest-behind
returns-then-rest-behind c =
    let w = c.args.pattern.now in let s = c.args.s.now in
    let rest = take (length w - 1) (drop 1 w) in let behind = take (length s - 1) (drop 1 s) in
    all_from_yields_List (λ p. eqb p.0 p.1) c.all.new.self _ c.all.result c.all.ensures.ran (YieldsList-from_zip (YieldsList-from_slice rest cc) (YieldsList-from_slice behind cc)) (λ x b q k. search (rules, tests))
    ∙ zip-starts rest behind c.if-rest-behind.true
    ∙ by-rest w s (omega arith) (omega arith) (eq-eqb (get_or s 0 0) (get_or w 0 0) c.if-x-k.false)

pub returns-else-rest-behind : goal.returns-else-rest-behind
returns-else-rest-behind c =
    let w = c.args.pattern.now in let s = c.args.s.now in
    let rest = take (length w - 1) (drop 1 w) in let behind = take (length s - 1) (drop 1 s) in
    lt-leb (length rest) (length behind) c.if-rest-behind.false
    ∙ sym (starts-short rest behind c.if-rest-behind.false)
    ∙ by-rest w s (omega arith) (omega arith) (eq-eqb (get_or s 0 0) (get_or w 0 0) c.if-x-k.false)
