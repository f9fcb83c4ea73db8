-- The search for a match of an entry: its pattern is searched for again and again, and where it stands more is looked at. Assumes nothing.
use Rattle.std.specs.Prelude.{◌≡◌, refl, Bool, true, false, List, ◌∷◌, ℕ, ◌+◌, ◌-◌, ◌<◌, length, get_or, drop}
use Rattle.std.proofs.Common.{sym, ap, ◌∙◌, arith, length-drop, drop-drop}
use Rattle.std.proofs.Math.Option.{some}
use Rattle.spec.specs.Symbols.{find}
use Rattle.spec.specs.Laws.Symbols.{find-tail}
use Rattle.spec.specs.Laws.Matches.{AtPattern, somewhere_from, from-here, from_past, from-absent, from_found}
use Rattle.text_search.specs.Search.{Found, Finds, finds-at, finds-within, finds-nothing}
use Rattle.std.specs.Prelude.{Some, None}

-- there is no match from `start` up to place i
pub record Searching (test : ℕ → List ℕ → Bool) (s : List ℕ) (start i : ℕ) : Type 0 where
  pub within : i < length s
  pub same : somewhere_from test s i ≡ somewhere_from test s start

pub searching-none : {test : ℕ → List ℕ → Bool} {s : List ℕ} {start : ℕ} → start < length s → Searching test s start start
searching-none h = record { within = h; same = refl }

module _ {test : ℕ → List ℕ → Bool} {s : List ℕ} {start i : ℕ} (searching : Searching test s start i) where
  pub match-here : test (get_or (0 ∷ s) i 0) (drop i s) ≡ true → true ≡ somewhere_from test s start
  match-here f = sym (from-here test s i searching.within f) ∙ searching.same

  -- there is none at place i, and the pattern has been searched for behind it
  module _
      {pattern : List ℕ} (only : AtPattern pattern test) (none : test (get_or (0 ∷ s) i 0) (drop i s) ≡ false)
      {r : Found} (finds : Finds s r (find pattern (drop (i + 1) s)))
    where
      behind : somewhere_from test s (i + 1) ≡ somewhere_from test s start
      behind = sym (from_past test s i searching.within none) ∙ searching.same

      pub no-match : r ≡ None → false ≡ somewhere_from test s start
      no-match e = sym (from-absent only s (i + 1) (finds-nothing finds e)) ∙ behind

      module _ {k : ℕ} (e : r ≡ Some k) where
        pub place_after : i < k
        place_after =
            let h = finds-within finds e in let t = (find-tail pattern (drop (i + 1) s) (drop k s) (finds-at finds e)).shorter in
            let l = length-drop (i + 1) s in let m = length-drop k s in
            omega arith

        pub searching-more : Searching test s start k
        searching-more =
            let after = place_after in let h = finds-within finds e in let l = length-drop (i + 1) s in
            let n : i + 1 + (k - (i + 1)) ≡ k = omega arith in
            let rest : drop k s ≡ drop (k - (i + 1)) (drop (i + 1) s) = sym (drop-drop (k - (i + 1)) (i + 1) s ∙ ap (λ m. drop m s) n) in
            record { within = h; same = sym (from_found only s (i + 1) (k - (i + 1)) (omega arith) (finds-at finds e ∙ ap some rest) ∙ ap (somewhere_from test s) n) ∙ behind }
