-- The rules of the scripts and their matches are those of the crate `pattern_rewriting`, with the sign in the pattern and in what is written.
-- Assumes nothing.
use Rattle.std.specs.Prelude.{◌≡◌, Bool, ◌&&◌, ℕ, ◌≤◌, eqb, ltb, drop}
use Rattle.std.proofs.Math.Path.{refl, ap}
use Rattle.std.proofs.Common.{sym, arith}
use Rattle.std.proofs.Math.Bool.{true, false, cond, and-false}
use mathlib.Core.List.{List, [], ◌∷◌}
use Rattle.std.proofs.Math.Option.{Option, none, some}
use Rattle.std.proofs.Math.ListN.{length}
use Rattle.spec.specs.Symbols.{bytes, alnum, head, past, until, drop_while, starts}
use Rattle.spec.specs.Sweep.{taken, kept, sweep}
use Rattle.spec.specs.Closing.{find_matching_brace}
use Rattle.spec.specs.Scripts.{wrapped_text, wrap_text, wrap_text_subscripts, wrap_multichar, wrap_multichar_scripts}
use Rattle.spec.specs.Matches.{somewhere, wrap_multichar_match}
use Rattle.spec.specs.Laws.Sweep.{sweep-same}
use Rattle.spec.specs.Laws.Matches.{somewhere-alike}
use Rattle.pattern_rewriting.specs.declared.PatternKind.TheVariants.{WrapMultichar}
use Rattle.pattern_rewriting.specs.Edits.{wrapped_by, wrap_text_by, wrap_multichar_by, pattern_at}

module _ (sign : ℕ) where
  wrapped_same : (s : List ℕ) (o : Option (List ℕ)) → wrapped_by (sign ∷ bytes "{") s o ≡ wrapped_text sign s o
  wrapped_same s none = refl
  wrapped_same s (some behind) = refl

  pub wrap-text-same : (s : List ℕ) → sweep (wrap_text_by (sign ∷ bytes "\\text{") (sign ∷ bytes "{")) 0 0 s ≡ wrap_text_subscripts sign s
  unfolding wrap_text_subscripts
  wrap-text-same s = sweep-same (wrap_text_by (sign ∷ bytes "\\text{") (sign ∷ bytes "{")) (wrap_text sign) (length s) same s 0 0 (omega arith)
    where
      same : (before : ℕ) (t : List ℕ) → length t ≤ length s → wrap_text_by (sign ∷ bytes "\\text{") (sign ∷ bytes "{") before t ≡ wrap_text sign before t
      same before t h = ap (λ u. elim (starts (sign ∷ bytes "\\text{") t) [ true ↦ u | false ↦ kept t ]) (wrapped_same t (find_matching_brace (drop (length (sign ∷ bytes "\\text{")) t)))

  pub wrap-multichar-same : (s : List ℕ) → sweep (wrap_multichar_by (sign ∷ []) (sign ∷ bytes "{")) 0 0 s ≡ wrap_multichar_scripts sign s
  unfolding wrap_multichar_scripts
  wrap-multichar-same s = sweep-same (wrap_multichar_by (sign ∷ []) (sign ∷ bytes "{")) (wrap_multichar sign) (length s) same s 0 0 (omega arith)
    where
      same : (before : ℕ) (t : List ℕ) → length t ≤ length s → wrap_multichar_by (sign ∷ []) (sign ∷ bytes "{") before t ≡ wrap_multichar sign before t
      same before [] h = ap (λ (b : Bool). cond b (taken 1 (sign ∷ bytes "{}")) (kept [])) (sym (and-false (eqb 0 sign)))
      same before (x ∷ t) h = refl

  pub wrap-multichar-matches : (s : List ℕ) → somewhere (pattern_at WrapMultichar (sign ∷ [])) 0 s ≡ wrap_multichar_match sign s
  wrap-multichar-matches s = somewhere-alike same 0 s
    where
      same : (before : ℕ) (t : List ℕ) → pattern_at WrapMultichar (sign ∷ []) before t ≡ (eqb (head t) sign && ltb 1 (length (until (past t) (drop_while alnum (past t)))))
      same before [] = sym (and-false (eqb 0 sign))
      same before (x ∷ t) = refl
