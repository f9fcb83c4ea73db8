-- One rewriting of `attach`. Assumes nothing.
--     underset     the text that comes of it
--     Attached     the answer of `attachment_of`: base and subscript of a call, and what is written for it
use Rattle.std.specs.Prelude.{◌≡◌, refl, true, List, [], ◌∷◌, ◌++◌, ℕ, ◌+◌, ◌-◌, ◌≤◌, ◌<◌, length}
use Rattle.std.proofs.Math.Path.{sym, ap, ap₂}
use Rattle.std.proofs.Common.{◌∙◌, subst, drop-drop}
use Rattle.std.proofs.Math.Bool.{cond}
use Rattle.std.proofs.Math.Option.{Option, none, some}
use native.Mathlib.Omega.{arith}
use Rattle.std.proofs.Math.ListN.{take, drop}
use Rattle.std.proofs.Math.Seq.{take-take}
use Rattle.spec.specs.Symbols.{bytes, ◌and_then◌, empty, trim, inside, starts}
use Rattle.spec.specs.Closing.{find_unescaped_comma}
use Rattle.spec.specs.Calls.{subscript, latex_underset, latex_attach}
use Rattle.spec.specs.Sweep.{replace}
use Rattle.spec.specs.Laws.Symbols.{starts-take}
use Rattle.attach.specs.Weight.{weight, weight-append, weight-long, weight-split, weight-from, replace-light}
use Rattle.text_symbols.specs.Parts.{part, whole_part, length_part, drop-take}
use Rattle.text_search.specs.Search.{Closes, closes-at, closes-within, closes-nothing, inside-drop}
use Rattle.text_symbols.specs.Trim.{Narrowed, spanned}
use Rattle.text_symbols.specs.declared.Span.{Span}
use Rattle.std.specs.Prelude.{Option as Maybe, Some, None}
use Rattle.text_search.specs.Search.{Found}
use Rattle.attach.specs.declared.Attachment.{Attachment}
use Rattle.attach.specs.Attach.{SubscriptFound}

-- the text with its call at i, which holds k symbols, rewritten
abbrev pub underset : List ℕ → ℕ → ℕ → List ℕ → List ℕ → List ℕ
underset s i k below base = take i s ++ latex_underset below base ++ drop (i + 7 + k + 1) s

-- base and subscript stand in the k symbols at `start`, apart from each other
pub record ArgumentsWithin (start k : ℕ) (base below : Span) : Type 0 where
  pub first : start ≤ base.start
  pub base-order : base.start ≤ base.end
  pub between : base.end < below.start
  pub below-order : below.start < below.end
  pub last : below.end ≤ start + k

abbrev pub AttachmentFits : ℕ → ℕ → Maybe Attachment → Type 0
AttachmentFits start k (Some a) = ArgumentsWithin start k a.base a.below
AttachmentFits start k None = Unit {0}

abbrev pub attachment_latex : List ℕ → Maybe Attachment → Option (List ℕ)
attachment_latex s (Some a) = some (latex_underset (spanned a.below s) (spanned a.base s))
attachment_latex s None = none

pub record Attached (s : List ℕ) (start k : ℕ) (r : Maybe Attachment) : Type 0 where
  pub fits : AttachmentFits start k r
  pub latex : attachment_latex s r ≡ latex_attach (part start k s)

-- the text that a rewriting leaves is no heavier
pub underset-light :
    (s : List ℕ) (i k : ℕ) {base below : Span} → ArgumentsWithin (i + 7) k base below → i + 7 + k + 1 ≤ length s → starts (bytes "attach(") (drop i s) ≡ true
    → weight (underset s i k (spanned below s) (spanned base s)) ≤ weight s
unfolding weight
underset-light s i k {base} {below} args within met =
    let B = replace (bytes "\\,") (bytes "\\;") (spanned below s) in let A = spanned base s in let D = drop (i + 7 + k + 1) s in
    let one = weight-append (take i s ++ latex_underset (spanned below s) A) D in
    let two = weight-append (take i s) (latex_underset (spanned below s) A) in
    let three = weight-append (bytes "\\underset{" ++ B ++ bytes "}{" ++ A) (bytes "}") in
    let four = weight-append (bytes "\\underset{" ++ B ++ bytes "}{") A in
    let five = weight-append (bytes "\\underset{" ++ B) (bytes "}{") in
    let six = weight-append (bytes "\\underset{") B in
    let light = replace-light (spanned below s) in
    let f = args.first in let bo = args.base-order in let bt = args.between in let lo = args.below-order in let la = args.last in
    let start = weight-split i s in
    let name = weight-split 7 (drop i s) in
    let eleven = ap weight (starts-take (bytes "attach(") (drop i s) met) in
    let seven = ap weight (drop-drop 7 i s) in
    let front = weight-from s (i + 7) base.start f in
    let of-base = weight-from s base.start base.end bo in
    let gap = weight-from s base.end below.start (omega arith) in
    let comma = weight-long (part base.end (below.start - base.end) s) in
    let comma-long = length_part base.end (below.start - base.end) s (omega arith) in
    let of-below = weight-from s below.start below.end (omega arith) in
    let back = weight-from s below.end (i + 7 + k + 1) (omega arith) in
    let closer = weight-long (part below.end (i + 7 + k + 1 - below.end) s) in
    let closer-long = length_part below.end (i + 7 + k + 1 - below.end) s (omega arith) in
    omega arith

-- ---- what `attachment_of` answers: the comma search has looked at the k symbols
module _
    (s : List ℕ) (start k : ℕ) (within : start + k ≤ length s) {q : Found}
    (answer : Closes (part start (start + k - start) s) q (find_unescaped_comma (part start (start + k - start) s)))
  where
    comma : Closes (part start k s) q (find_unescaped_comma (part start k s))
    comma = subst (λ l. Closes l q (find_unescaped_comma l)) (whole_part start k s) answer

    pub comma-fits : {j : ℕ} → q ≡ Some j → j < k
    comma-fits e = let w = closes-within comma e in let l = length_part start k s within in omega arith

    pub attached-no-comma : q ≡ None → Attached s start k None
    unfolding latex_attach
    attached-no-comma e = record { fits = tt; latex = rw (closes-nothing comma e) }

    module _ {j : ℕ} (e : q ≡ Some j) where
      -- what stands before the comma, and the span behind it
      abbrev before : List ℕ
      before = part start (start + j - start) s

      abbrev behind : Span
      behind = record { start = start + j + 1; end = start + k }

      abbrev latex_by : List ℕ → List ℕ → Option (List ℕ)
      latex_by below base = cond (empty below) none (some (latex_underset below base))

      written : latex_attach (part start k s) ≡ latex_by (subscript (spanned behind s)) (trim before)
      unfolding latex_attach
      written =
          let inner = part start k s in
          let c = comma-fits e in let w = closes-within comma e in
          let m : start + j - start ≡ j = omega arith in
          let n : k - (j + 1) ≡ start + k - (start + j + 1) = omega arith in
          let o : start + (j + 1) ≡ start + j + 1 = omega arith in
          let front : inside inner (drop (j + 1) inner) ≡ before =
          inside-drop inner j w ∙ take-take j k (drop start s) (omega arith) ∙ ap (λ x. take x (drop start s)) (sym m) in
          let back : drop (j + 1) inner ≡ spanned behind s =
          drop-take (j + 1) k (drop start s) ∙ ap₂ (λ x l. take x l) n (drop-drop (j + 1) start s ∙ ap (λ x. drop x s) o) in
          ap (λ o. o and_then λ rest. latex_by (subscript rest) (trim (inside inner rest))) (closes-at comma e)
          ∙ ap₂ (λ x y. latex_by y x) (ap trim front) (ap subscript back)

      pub attached-empty : subscript (spanned behind s) ≡ [] → Attached s start k None
      attached-empty z = record { fits = tt; latex = sym (written ∙ ap (λ below. latex_by below (trim before)) z) }

      pub attached-at :
          {base below : Span} → Narrowed s (record { start = start; end = start + j }) base (trim before) → SubscriptFound s behind (Some below)
          → Attached s start k (Some (record { base = base; below = below }))
      attached-at {base} {below} trims finds =
          let c = comma-fits e in
          let bf = trims.from in let bo = trims.order in let bt = trims.to in
          let lf = finds.0.from in let lt = finds.0.to in
          let long : length (spanned below s) ≡ below.end - below.start = length_part below.start (below.end - below.start) s (omega arith) in
          record {
            fits = record { first = omega arith; base-order = bo; between = omega arith; below-order = finds.1; last = omega arith };
            latex = sym (written ∙ ap₂ latex_by (sym finds.0.text) (sym trims.text) ∙ some_below (spanned base s) (spanned below s) (omega arith));
          }
        where
          some_below : (base below : List ℕ) → 0 < length below → latex_by below base ≡ some (latex_underset below base)
          some_below base [] h = absurd (omega arith)
          some_below base (x ∷ below) h = refl
