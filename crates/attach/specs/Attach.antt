-- The arguments of `attach`. Assumes nothing.
--     SubscriptFound    what `subscript_of` answers
use Rattle.std.specs.Prelude.{◌≡◌, List, [], ℕ, ◌+◌, ◌-◌, ◌≤◌, ◌<◌, take, drop}
use Rattle.std.proofs.Common.{sym, ap, ap₂, ◌∙◌, arith, length-take, length-drop, drop-drop, take-take}
use Rattle.std.proofs.Math.Option.{Option, none, some}
use Rattle.spec.specs.Symbols.{bytes, is, find, inside, trim, drop_while_end}
use Rattle.spec.specs.Closing.{find_unescaped_comma}
use Rattle.spec.specs.Calls.{bottom, subscript}
use Rattle.spec.specs.Laws.Symbols.{starts-long, find-starts}
use Rattle.text_symbols.specs.Parts.{part, drop-take}
use Rattle.text_search.specs.Search.{Finds, finds-at, finds-nothing, Closes, closes-at, closes-within, closes-nothing, inside-drop}
use Rattle.text_symbols.specs.Trim.{Within, Narrowed, spanned}
use Rattle.text_symbols.specs.declared.Span.{Span}
use Rattle.text_search.specs.Search.{Found}
use Rattle.std.specs.Prelude.{Option as Maybe, Some, None}

-- ---- the definitions, by what has been found
abbrev bottom_by : List ℕ → Option (List ℕ) → List ℕ
bottom_by after o = elim o [ some behind ↦ trim (inside after behind) | none ↦ drop_while_end (is ")") after ]

abbrev subscript_by : Option (List ℕ) → List ℕ
subscript_by o = elim o [ some at ↦ bottom (trim (drop 2 at)) | none ↦ [] ]

-- ---- what stands behind `b:`
module _ {s : List ℕ} {p : Span} (within : Within s p) {q : Found} (comma : Closes (spanned p s) q (find_unescaped_comma (spanned p s))) where
  pub bottom-end : {r : Span} → q ≡ None → Narrowed s p r (drop_while_end (is ")") (spanned p s)) → Narrowed s p r (bottom (spanned p s))
  bottom-end e n = record { from = n.from; order = n.order; to = n.to; text = n.text ∙ sym (ap (bottom_by (spanned p s)) (closes-nothing comma e)) }

  module _ {j : ℕ} (e : q ≡ Some j) where
    pub bottom-fits : p.start + j ≤ p.end
    bottom-fits =
        let w = closes-within comma e in let l = length-take (p.end - p.start) (drop p.start s) in let o = within.order in omega arith

    pub bottom-comma :
        {r : Span} → Narrowed s (record { start = p.start; end = p.start + j }) r (trim (part p.start (p.start + j - p.start) s)) → Narrowed s p r (bottom (spanned p s))
    bottom-comma n =
        let f = bottom-fits in let w = closes-within comma e in
        let m : p.start + j - p.start ≡ j = omega arith in
        let t = n.to in
        record {
          from = n.from;
          order = n.order;
          to = omega arith;
          text =
              n.text
              ∙ ap trim (ap (λ k. take k (drop p.start s)) m ∙ sym (inside-drop (spanned p s) j w ∙ take-take j (p.end - p.start) (drop p.start s) (omega arith)))
              ∙ sym (ap (bottom_by (spanned p s)) (closes-at comma e));
        }

-- ---- the subscript
-- what `subscript_of` answers: where the subscript stands, and nothing where it is empty
abbrev pub SubscriptFound : List ℕ → Span → Maybe Span → Type 0
SubscriptFound s p (Some r) = Narrowed s p r (subscript (spanned p s)) × (r.start < r.end)
SubscriptFound s p None = subscript (spanned p s) ≡ []

module _ {s : List ℕ} {p : Span} (within : Within s p) {q : Found} (finds : Finds (spanned p s) q (find (bytes "b:") (spanned p s))) where
  pub subscript-none : q ≡ None → subscript (spanned p s) ≡ []
  subscript-none e = ap subscript_by (finds-nothing finds e)

  module _ {i : ℕ} (e : q ≡ Some i) where
    pub subscript-fits : p.start + i + 2 ≤ p.end
    subscript-fits =
        let o = within.order in
        let met = find-starts (bytes "b:") (spanned p s) (drop i (spanned p s)) (finds-at finds e) in
        let l = starts-long (bytes "b:") (drop i (spanned p s)) met in
        let d = length-drop i (spanned p s) in
        let n = length-take (p.end - p.start) (drop p.start s) in
        omega arith

    behind : drop 2 (drop i (spanned p s)) ≡ part (p.start + i + 2) (p.end - (p.start + i + 2)) s
    behind =
        let f = subscript-fits in
        let m : p.end - p.start - (i + 2) ≡ p.end - (p.start + i + 2) = omega arith in
        let k : p.start + (i + 2) ≡ p.start + i + 2 = omega arith in
        drop-drop 2 i (spanned p s) ∙ drop-take (i + 2) (p.end - p.start) (drop p.start s)
        ∙ ap₂ (λ n l. take n l) m (drop-drop (i + 2) p.start s ∙ ap (λ n. drop n s) k)

    pub subscript-at :
        {a r : Span} → Narrowed s (record { start = p.start + i + 2; end = p.end }) a (trim (part (p.start + i + 2) (p.end - (p.start + i + 2)) s))
        → Narrowed s a r (bottom (spanned a s)) → Narrowed s p r (subscript (spanned p s))
    subscript-at a n =
        let f = subscript-fits in
        let af = a.from in let at = a.to in let nf = n.from in let nt = n.to in
        record {
          from = omega arith;
          order = n.order;
          to = omega arith;
          text = n.text ∙ ap bottom (a.text ∙ ap trim (sym behind)) ∙ sym (ap subscript_by (finds-at finds e));
        }

pub subscript-empty : {s : List ℕ} {p r : Span} → Narrowed s p r (subscript (spanned p s)) → r.start ≡ r.end → subscript (spanned p s) ≡ []
subscript-empty {s} {r = r} n e = let z : r.end - r.start ≡ 0 = omega arith in sym n.text ∙ ap (λ k. take k (drop r.start s)) z
