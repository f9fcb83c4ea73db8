-- Spans of a text, and trimming them.
--     Span, spanned    the symbols from a start to an end
-- Assumes nothing.
use Rattle.std.specs.Prelude.{◌≡◌, Bool, List, ℕ, ◌+◌, ◌-◌, ◌≤◌, length, drop}
use Rattle.std.proofs.Common.{sym, ap, ◌∙◌, arith, take-take}
use Rattle.spec.specs.Symbols.{drop_while, drop_while_end}
use Rattle.text_symbols.specs.Parts.{part, length_part, rest_part}
use Rattle.text_symbols.specs.Places.{before, AheadTo, BackTo}
use Rattle.text_symbols.specs.Runs.{behind-end}
use Rattle.text_symbols.specs.declared.Span.{Span}

abbrev pub spanned : Span → List ℕ → List ℕ
spanned p s = part p.start (p.end - p.start) s

-- what a function over a span asks
pub record Within (s : List ℕ) (p : Span) : Type 0 where
  pub order : p.start ≤ p.end
  pub inside : p.end ≤ length s

-- what it ensures: a span within the first, that holds t. Where t is empty its place is left open: no caller asks for it
pub record Narrowed (s : List ℕ) (p r : Span) (t : List ℕ) : Type 0 where
  pub from : p.start ≤ r.start
  pub order : r.start ≤ r.end
  pub to : r.end ≤ p.end
  pub text : spanned r s ≡ t

length-spanned : {s : List ℕ} {p : Span} → Within s p → length (spanned p s) ≡ p.end - p.start
length-spanned {s} {p} h = let o = h.order in let i = h.inside in length_part p.start (p.end - p.start) s (omega arith)

-- ---- a span from where a run ends, and one to where a run begins
module _ (f : ℕ → Bool) {s : List ℕ} {p : Span} (h : Within s p) {k : ℕ} where
  pub skipped-span : AheadTo (spanned p s) 0 k (drop_while f (spanned p s)) → Narrowed s p (record { start = p.start + k; end = p.end }) (drop_while f (spanned p s))
  skipped-span a =
      let w = a.within in let l = length-spanned h in let o = h.order in
      let n : p.end ≡ p.start + (p.end - p.start) = omega arith in
      record {
        from = omega arith;
        order = omega arith;
        to = omega arith;
        text = ap (λ e. part (p.start + k) (e - (p.start + k)) s) n ∙ rest_part p.start (p.end - p.start) k s ∙ a.left;
      }

  pub skipped-end : BackTo (spanned p s) (p.end - p.start) k (drop_while f (before (spanned p s) (p.end - p.start)))
      → Narrowed s p (record { start = p.start; end = p.start + k }) (drop_while_end f (spanned p s))
  skipped-end b =
      let t = b.to in let o = h.order in
      let n : p.start + k - p.start ≡ k = omega arith in
      record {
        from = omega arith;
        order = omega arith;
        to = omega arith;
        text = ap (λ m. part p.start m s) n ∙ sym (take-take k (p.end - p.start) (drop p.start s) t) ∙ behind-end f (sym (length-spanned h)) b;
      }
