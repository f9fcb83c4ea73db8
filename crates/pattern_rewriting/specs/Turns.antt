-- The turns of the two loops: a rule has looked at the rest of the text. The one searches on where there is no edit, the other writes what the
-- rule said. Assumes nothing.
use Rattle.std.specs.Prelude.{◌≡◌, Bool, true, false, List, [], ◌∷◌, ◌++◌, ℕ, pred, ◌+◌, ◌-◌, ◌*◌, ◌≤◌, ◌<◌, length, get_or, take, drop}
use Rattle.std.proofs.Common.{sym, ap, ◌∙◌, subst, arith, length-take, length-append, drop-drop}
use Rattle.spec.specs.Sweep.{Rule}
use Rattle.text_symbols.specs.Parts.{part}
use Rattle.text.specs.declared.writer.Writer.{Writer}
use Rattle.text.specs.Writer.{most_written, Room, Appended, Apart}
use Rattle.text.specs.Sweep.{Sweeping, rest_from, rest_read, symbols-read, symbols-apart, turn-room, sweeping-more, sweeping-kept}
use Rattle.text_symbols.specs.Trim.{spanned}
use Rattle.pattern_rewriting.specs.declared.PatternKind.{PatternKind}
use Rattle.pattern_rewriting.specs.declared.Edit.{Edit}
use Rattle.std.specs.Prelude.{Option as Maybe, Some, None, is_some as found_any}
use Rattle.spec.specs.Symbols.{find}
use Rattle.spec.specs.Laws.Matches.{somewhere_from}
use Rattle.text_search.specs.Search.{Found, Finds}
use Rattle.text_search.specs.Matched.{Searching, match-here, no-match, place_after, searching-more}
use Rattle.pattern_rewriting.specs.Edits.{ending, edit_turn, EditFits, EditSound, pattern_rule, pattern_at, Edited, rule-at-pattern, edit-matches}

-- what is written is little beside the symbols that are taken
written-few : (left s : List ℕ) (closed : Bool) (taken : ℕ) → length left ≤ 64 → length s ≤ taken → 0 < taken → length (left ++ s ++ ending closed) ≤ most_written * (1 + pred taken)
written-few left s true taken l h some = simp length-append (omega arith)
written-few left s false taken l h some = simp length-append (omega arith)

-- ---- the search for a match
module _
    {kind : PatternKind} {pattern left s : List ℕ} {start i : ℕ} (searching : Searching (pattern_at kind pattern) s start i)
    {r : Maybe Edit} (edited : Edited kind pattern left (part i (length s - i) s) r)
  where
    pub edit-here : found_any r ≡ true → true ≡ somewhere_from (pattern_at kind pattern) s start
    edit-here e = match-here searching (edit-matches s i edited _ ∙ e)

    module _ (e : found_any r ≡ false) {found : Found} (finds : Finds s found (find pattern (drop (i + 1) s))) where
      pub edit-nowhere : found ≡ None → false ≡ somewhere_from (pattern_at kind pattern) s start
      edit-nowhere f = no-match searching (rule-at-pattern kind pattern) (edit-matches s i edited _ ∙ e) finds f

      pub edit-later : {k : ℕ} → found ≡ Some k → (i < k) × Searching (pattern_at kind pattern) s start k
      edit-later f =
          let only = rule-at-pattern kind pattern in let none = edit-matches s i edited _ ∙ e in
          (place_after searching only none finds f, searching-more searching only none finds f)

-- ---- the loop that rewrites
module _
    {kind : PatternKind} {pattern left w₀ w : List ℕ} {from n : ℕ} {o₀ o : Writer} {i : ℕ}
    (sweeping : Sweeping (pattern_rule kind pattern left) w₀ w from n o₀ o i) (more : i < n)
    {r : Maybe Edit} (edited : Edited kind pattern left (rest_from from n i w) r)
  where
    abbrev rule : Rule
    rule = pattern_rule kind pattern left

    turn-found : rule (get_or (0 ∷ part from n w₀) i 0) (drop i (part from n w₀)) ≡ edit_turn left (drop i (part from n w₀)) r
    turn-found = subst (λ s. rule (get_or (0 ∷ part from n w₀) i 0) s ≡ edit_turn left s r) (rest_read sweeping) (edited.turn (get_or (0 ∷ part from n w₀) i 0))

    module _ {edit : Edit} (e : r ≡ Some edit) where
      edit-fits : EditFits (rest_from from n i w) edit
      edit-fits = subst (EditSound (rest_from from n i w)) e edited.sound

      -- the symbols that are taken are among the n
      pub edit-step : (0 < edit.taken) × (i + edit.taken ≤ n)
      edit-step =
          let l = edit-fits.within in let m = edit-fits.positive in
          let b = length-take (from + n - (from + i)) (drop (from + i) w) in
          (m, omega arith)

      -- what `put_edit` asks
      pub edit-room :
          length left ≤ 64
          → Room w o (length left + (edit.kept.end - edit.kept.start + 1))
          × ((edit.kept.start ≤ edit.kept.end) × (from + i + edit.kept.end ≤ length w))
          × Apart (from + i + edit.kept.start) (edit.kept.end - edit.kept.start) o
      edit-room short =
          let ordered = edit-fits.order in let d = edit-fits.inside in let h = edit-step in
          let q = sweeping.regions.short in let l = sweeping.long in let g = sweeping.regions.source in
          let place : from + (i + edit.kept.start) ≡ from + i + edit.kept.start = omega arith in (
            turn-room sweeping more (length left + (edit.kept.end - edit.kept.start + 1)) (omega arith),
            (ordered, omega arith),
            subst (λ j. Apart j (edit.kept.end - edit.kept.start) o) place (symbols-apart sweeping (i + edit.kept.start) (edit.kept.end - edit.kept.start) (omega arith)),
          )

      pub written-here :
          {w' : List ℕ} {o' : Writer} → length left ≤ 64
          → Appended w w' o o' (left ++ part (from + i + edit.kept.start) (edit.kept.end - edit.kept.start) w ++ ending edit.closed)
          → Sweeping rule w₀ w' from n o₀ o' (i + edit.taken)
      written-here {w'} {o'} short a =
          let s = drop i (part from n w₀) in
          let h = edit-step in let ordered = edit-fits.order in let d = edit-fits.inside in
          let k = edit.kept.end - edit.kept.start in
          let place : from + i + edit.kept.start ≡ from + (i + edit.kept.start) = omega arith in
          let kept-symbols : part (from + i + edit.kept.start) k w ≡ spanned edit.kept s =
          ap (λ j. part j k w) place
          ∙ symbols-read sweeping (i + edit.kept.start) k (omega arith)
          ∙ ap (take k) (sym (drop-drop edit.kept.start i (part from n w₀)))
          in
          let l = length-take k (drop edit.kept.start s) in
          let next : i + 1 + pred edit.taken ≡ i + edit.taken = omega arith in
          subst (λ j. Sweeping rule w₀ w' from n o₀ o' j) next
          (sweeping-more sweeping more (edit_turn left s (Some edit)) (turn-found ∙ ap (edit_turn left s) e)
          (subst (λ t. Appended w w' o o' (left ++ t ++ ending edit.closed)) kept-symbols a)
          (written-few left (spanned edit.kept s) edit.closed edit.taken short (omega arith) h.0))

    pub copied-here : {w' : List ℕ} {o' : Writer} → r ≡ None → Appended w w' o o' (get_or w (from + i) 0 ∷ []) → Sweeping rule w₀ w' from n o₀ o' (i + 1)
    copied-here e a = sweeping-kept sweeping more (turn-found ∙ ap (edit_turn left (drop i (part from n w₀))) e) a
