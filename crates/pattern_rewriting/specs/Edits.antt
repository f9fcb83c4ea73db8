-- What a rule says of a place, and that it is what the definitions say.
--     edit_turn            the turn that an edit means
--     pattern_rule         the rule of each kind, over a pattern and the text that is written for it
--     pattern_at           where it matches: elsewhere it copies
--     Edited              what a rule's function ensures
-- Assumes nothing.
use Rattle.std.specs.Prelude.{◌≡◌, refl, Bool, true, false, cond, ◌&&◌, List, [], ◌++◌, ℕ, suc, pred, ◌+◌, ◌-◌, ◌≤◌, ◌<◌, ltb, length, take, drop}
use Rattle.std.proofs.Common.{sym, ap, ap₂, ◌∙◌, append-nil, arith, length-drop, drop-drop, length-take-le, lt-ltb, le-ltb}
use Rattle.std.proofs.lemmas.Bool.{false≢true}
use Rattle.std.proofs.Math.Option.{Option, none, some}
use Rattle.text_search.specs.Half.{half_work}
use Rattle.spec.specs.Symbols.{bytes, alnum, is_some, past, until, inside, drop_while, starts}
use Rattle.spec.specs.Sweep.{Turn, Rule, taken, kept, replacing}
use Rattle.spec.specs.Closing.{find_matching_paren, find_matching_brace}
use Rattle.spec.specs.Words.{braced, paren_to_brace}
use Rattle.spec.specs.Laws.Booleans.{and_both}
use Rattle.spec.specs.Laws.Symbols.{starts-long, past-drop}
use Rattle.spec.specs.Laws.Sweep.{Waits}
use Rattle.spec.specs.Laws.Matches.{Keeps, AtPattern}
use Rattle.spec.specs.Laws.Absent.{replacing-waits, paren-to-brace-waits}
use Rattle.text_symbols.specs.Parts.{part, length_part, rest_of}
use Rattle.text_search.specs.Search.{Closes, closes-at, closes-within, closes-nothing, closes-rest, inside-drop, until-drop}
use Rattle.text_symbols.specs.Places.{AheadTo}
use Rattle.text_symbols.specs.Trim.{spanned}
use Rattle.text_search.specs.Search.{Found}
use Rattle.std.specs.Prelude.{Option as Maybe, Some, None, is_some as found_any}
use Rattle.pattern_rewriting.specs.declared.PatternKind.{PatternKind}
use Rattle.pattern_rewriting.specs.declared.PatternKind.TheVariants.{Literal, ParenToBrace, WrapText, WrapMultichar}
use Rattle.pattern_rewriting.specs.declared.Edit.{Edit}

abbrev pub ending : Bool → List ℕ
ending closed = cond closed (bytes "}") []

-- with no edit the symbol is copied
abbrev pub edit_turn : List ℕ → List ℕ → Maybe Edit → Turn
edit_turn left s None = kept s
edit_turn left s (Some e) = taken e.taken (left ++ spanned e.kept s ++ ending e.closed)

-- the symbols that are kept are among those that are taken, and these are in the text
pub record EditFits (s : List ℕ) (e : Edit) : Type 0 where
  pub order : e.kept.start ≤ e.kept.end
  pub inside : e.kept.end ≤ e.taken
  pub positive : 0 < e.taken
  pub within : e.taken ≤ length s

abbrev pub EditSound : List ℕ → Maybe Edit → Type 0
EditSound s None = Unit {0}
EditSound s (Some e) = EditFits s e

-- ---- the rules of the scripts, with the pattern and the text that is written for it
abbrev pub wrapped_by : List ℕ → List ℕ → Option (List ℕ) → Turn
wrapped_by left s none = kept s
wrapped_by left s (some behind) = let block = until (past s) behind in taken (suc (length block)) (left ++ block ++ bytes "}")

abbrev pub wrap_text_by : List ℕ → List ℕ → Rule
wrap_text_by pattern left before s = elim (starts pattern s) [ true ↦ wrapped_by left s (find_matching_brace (drop (length pattern) s)) | false ↦ kept s ]

abbrev pub wrap_multichar_by : List ℕ → List ℕ → Rule
wrap_multichar_by pattern left before s =
    let ident = until (past s) (drop_while alnum (past s)) in
    cond (starts pattern s && ltb 1 (length ident)) (taken (suc (length ident)) (left ++ ident ++ bytes "}")) (kept s)

abbrev pub pattern_rule : PatternKind → List ℕ → List ℕ → Rule
pattern_rule Literal pattern left = replacing pattern left
pattern_rule ParenToBrace pattern left = paren_to_brace pattern left
pattern_rule WrapText pattern left = wrap_text_by pattern left
pattern_rule WrapMultichar pattern left = wrap_multichar_by pattern left

abbrev pub pattern_at : PatternKind → List ℕ → ℕ → List ℕ → Bool
pattern_at Literal pattern before s = starts pattern s
pattern_at ParenToBrace pattern before s = starts pattern s
pattern_at WrapText pattern before s = starts pattern s && is_some (find_matching_brace (drop (length pattern) s))
pattern_at WrapMultichar pattern before s = starts pattern s && ltb 1 (length (until (past s) (drop_while alnum (past s))))

pub record Edited (kind : PatternKind) (pattern left s : List ℕ) (r : Maybe Edit) : Type 0 where
  pub sound : EditSound s r
  pub turn : (before : ℕ) → pattern_rule kind pattern left before s ≡ edit_turn left s r
  pub writes : (before : ℕ) → found_any r ≡ pattern_at kind pattern before s

-- of the rest of a slice, as `&s[i..]` takes it
pub edit-matches : {kind : PatternKind} {pattern left : List ℕ} (s : List ℕ) (i : ℕ) {r : Maybe Edit} → Edited kind pattern left (part i (length s - i) s) r → (before : ℕ) → pattern_at kind pattern before (drop i s) ≡ found_any r
edit-matches {kind} {pattern} s i edited before = ap (pattern_at kind pattern before) (sym (rest_of i s)) ∙ sym (edited.writes before)

-- what the pattern and the text that is written for it have to be
pub record PatternTextsFit (pattern left : List ℕ) : Type 0 where
  pub positive : 0 < length pattern
  pub short : length left ≤ 64

-- the text begins with the pattern
pub record PatternMet (pattern s : List ℕ) : Type 0 where
  pub starts_with : starts pattern s ≡ true
  pub positive : 0 < length pattern
  pub short : length s ≤ half_work

-- ---- without its pattern each rule copies
pub rule-at-pattern : (kind : PatternKind) (pattern : List ℕ) → AtPattern pattern (pattern_at kind pattern)
rule-at-pattern Literal pattern = record { fails = λ before s e. e }
rule-at-pattern ParenToBrace pattern = record { fails = λ before s e. e }
rule-at-pattern WrapText pattern = record { fails = λ before s e. rw e }
rule-at-pattern WrapMultichar pattern = record { fails = λ before s e. rw e }

pub rule-waits : (kind : PatternKind) (pattern left : List ℕ) → Waits pattern (pattern_rule kind pattern left)
rule-waits Literal pattern left = replacing-waits pattern left
rule-waits ParenToBrace pattern left = paren-to-brace-waits pattern left
rule-waits WrapText pattern left = record { copies = λ before s e. rw (e, wrap_text_by) }
rule-waits WrapMultichar pattern left = record { copies = λ before s e. rw e }

pub edited-not : (kind : PatternKind) (pattern left s : List ℕ) → starts pattern s ≡ false → Edited kind pattern left s None
edited-not kind pattern left s e =
    record { sound = tt; turn = λ before. (rule-waits kind pattern left).copies before s e; writes = λ before. sym ((rule-at-pattern kind pattern).fails before s e) }

-- nor does it write anything of its own where it does not match
pub rule-keeps : (kind : PatternKind) (pattern left : List ℕ) → Keeps (pattern_at kind pattern) (pattern_rule kind pattern left)
rule-keeps Literal pattern left = record { writes = λ before s e. rw e }
rule-keeps ParenToBrace pattern left = record { writes = λ before s e. rw (e, paren_to_brace) }
rule-keeps WrapText pattern left = record { writes = λ before s e. go s (starts pattern s) (find_matching_brace (drop (length pattern) s)) e }
  where
    go :
        (s : List ℕ) (t : Bool) (o : Option (List ℕ)) → t && is_some o ≡ false
        → (let turn : Turn = elim t [ true ↦ wrapped_by left s o | false ↦ kept s ] in turn.fresh ≡ take (suc turn.more) s)
    go s true none e = refl
    go s true (some behind) e = absurd (false≢true (sym e))
    go s false o e = refl
rule-keeps WrapMultichar pattern left = record { writes = λ before s e. rw e }

turn-same : {m m' : ℕ} {f f' : List ℕ} → m ≡ m' → f ≡ f' → ◌≡◌ {A = Turn} (record { more = m; fresh = f }) (record { more = m'; fresh = f' })
turn-same p q = ap₂ (λ m f. record { more = m; fresh = f }) p q

-- the symbols behind the first
until-place : (s : List ℕ) (j : ℕ) → 0 < j → j ≤ length s → until (past s) (drop j s) ≡ take (j - 1) (drop 1 s)
until-place s j positive h =
    let l = length-drop 1 s in
    let n : 1 + (j - 1) ≡ j = omega arith in
    ap (λ t. until t (drop j s)) (past-drop s 0)
    ∙ ap (until (drop 1 s)) (sym (drop-drop (j - 1) 1 s ∙ ap (λ m. drop m s) n))
    ∙ until-drop (drop 1 s) (j - 1) (omega arith)

length-place : (s : List ℕ) (j : ℕ) → 0 < j → j ≤ length s → length (take (j - 1) (drop 1 s)) ≡ j - 1
length-place s j positive h = let l = length-drop 1 s in length-take-le (j - 1) (drop 1 s) (omega arith)

-- ---- where the pattern stands
module _ {pattern s : List ℕ} (met : PatternMet pattern s) where
  pub long : length pattern ≤ length s
  long = starts-long pattern s met.starts_with

  -- a closer behind it is in the text
  pub closer-within : {r : Found} {o : Option (List ℕ)} {k : ℕ} → Closes (part (length pattern) (length s - length pattern) s) r o → r ≡ Some k → length pattern + k < length s
  closer-within a e = let w = closes-within a e in let g = long in let l = length_part (length pattern) (length s - length pattern) s (omega arith) in omega arith

module _ {pattern s : List ℕ} (met : PatternMet pattern s) (left : List ℕ) where
  pub literal-met : Edited Literal pattern left s (Some (record { kept = record { start = 0; end = 0 }; taken = length pattern; closed = false }))
  literal-met =
      record {
        sound = record { order = omega arith; inside = omega arith; positive = met.positive; within = long met };
        turn = λ before. rw met.starts_with (turn-same refl (sym (append-nil (left ++ []) ∙ append-nil left)));
        writes = λ before. sym met.starts_with;
      }

  module _ {r : Found} (a : Closes (part (length pattern) (length s - length pattern) s) r (find_matching_paren (part (length pattern) (length s - length pattern) s))) where
    paren-search : Closes (drop (length pattern) s) r (find_matching_paren (drop (length pattern) s))
    paren-search = closes-rest s (length pattern) find_matching_paren a

    pub paren-closed : {k : ℕ} → r ≡ Some k → Edited ParenToBrace pattern left s (Some (record { kept = record { start = length pattern; end = length pattern + k }; taken = length pattern + k + 1; closed = true }))
    paren-closed {k} e =
        let b = drop (length pattern) s in
        let w = closes-within paren-search e in let l = length-drop (length pattern) s in let g = long met in
        let n : length pattern + k - length pattern ≡ k = omega arith in
        let i = inside-drop b k w in
        let t : length (take k b) ≡ k = length-take-le k b (omega arith) in
        let c : length (inside b (drop (k + 1) b)) ≡ k = ap length i ∙ t in
        let m : length pattern + length (inside b (drop (k + 1) b)) ≡ pred (length pattern + k + 1) = omega arith in
        record {
          sound = record { order = omega arith; inside = omega arith; positive = omega arith; within = omega arith };
          turn = λ before. rw (met.starts_with, paren_to_brace)
              (ap (braced pattern left b) (closes-at paren-search e)
              ∙ turn-same m (ap (λ m. left ++ m ++ bytes "}") (i ∙ ap (λ m. take m b) (sym n))));
          writes = λ before. sym met.starts_with;
        }

    pub paren-open : r ≡ None → Edited ParenToBrace pattern left s (Some (record { kept = record { start = length pattern; end = length s }; taken = length s; closed = false }))
    paren-open e =
        let b = drop (length pattern) s in
        let l = length-drop (length pattern) s in let g = long met in let h = met.positive in
        let m : pred (length pattern + length b) ≡ pred (length s) = omega arith in
        record {
          sound = record { order = omega arith; inside = omega arith; positive = omega arith; within = omega arith };
          turn = λ before. rw (met.starts_with, paren_to_brace)
              (ap (braced pattern left b) (closes-nothing paren-search e)
              ∙ turn-same m (sym (append-nil (left ++ part (length pattern) (length s - length pattern) s) ∙ ap (λ m. left ++ m) (rest_of (length pattern) s))));
          writes = λ before. sym met.starts_with;
        }

  module _ {r : Found} (a : Closes (part (length pattern) (length s - length pattern) s) r (find_matching_brace (part (length pattern) (length s - length pattern) s))) where
    brace-search : Closes (drop (length pattern) s) r (find_matching_brace (drop (length pattern) s))
    brace-search = closes-rest s (length pattern) find_matching_brace a

    pub text-closed : {k : ℕ} → r ≡ Some k → Edited WrapText pattern left s (Some (record { kept = record { start = 1; end = length pattern + k + 1 }; taken = length pattern + k + 1; closed = true }))
    text-closed {k} e =
        let j = length pattern + k + 1 in
        let w = closes-within brace-search e in let l = length-drop (length pattern) s in let g = long met in let h = met.positive in
        let n : length pattern + (k + 1) ≡ j = omega arith in
        let behind : drop (k + 1) (drop (length pattern) s) ≡ drop j s = drop-drop (k + 1) (length pattern) s ∙ ap (λ m. drop m s) n in
        let block : until (past s) (drop (k + 1) (drop (length pattern) s)) ≡ take (j - 1) (drop 1 s) = ap (until (past s)) behind ∙ until-place s j (omega arith) (omega arith) in
        let c : length (until (past s) (drop (k + 1) (drop (length pattern) s))) ≡ j - 1 = ap length block ∙ length-place s j (omega arith) (omega arith) in
        let m : length (until (past s) (drop (k + 1) (drop (length pattern) s))) ≡ pred j = omega arith in
        record {
          sound = record { order = omega arith; inside = omega arith; positive = omega arith; within = omega arith };
          turn = λ before. rw (met.starts_with, wrap_text_by)
              (ap (wrapped_by left s) (closes-at brace-search e)
              ∙ turn-same m (ap (λ m. left ++ m ++ bytes "}") block));
          writes = λ before. sym (ap₂ (λ t o. t && is_some o) met.starts_with (closes-at brace-search e));
        }

    pub text-open : r ≡ None → Edited WrapText pattern left s None
    text-open e =
        record {
          sound = tt;
          turn = λ before. rw (met.starts_with, wrap_text_by) (ap (wrapped_by left s) (closes-nothing brace-search e));
          writes = λ before. sym (ap₂ (λ t o. t && is_some o) met.starts_with (closes-nothing brace-search e));
        }

  module _ {end : ℕ} (run : AheadTo s 1 end (drop_while alnum (drop 1 s))) where
    ident : until (past s) (drop_while alnum (past s)) ≡ take (end - 1) (drop 1 s)
    ident =
        let f = run.from in
        ap (λ t. until (past s) (drop_while alnum t)) (past-drop s 0) ∙ ap (until (past s)) (sym run.left)
        ∙ until-place s end (omega arith) run.within

    ident-long : length (until (past s) (drop_while alnum (past s))) ≡ end - 1
    ident-long = let f = run.from in ap length ident ∙ length-place s end (omega arith) run.within

    pub ident-wrapped : 2 < end → Edited WrapMultichar pattern left s (Some (record { kept = record { start = 1; end = end }; taken = end; closed = true }))
    ident-wrapped h =
        let f = run.from in let t = run.within in let c = ident-long in
        let m : length (until (past s) (drop_while alnum (past s))) ≡ pred end = omega arith in
        record {
          sound = record { order = omega arith; inside = omega arith; positive = omega arith; within = omega arith };
          turn = λ before. rw (met.starts_with, lt-ltb 1 (length (until (past s) (drop_while alnum (past s)))) (omega arith))
              (turn-same m (ap (λ m. left ++ m ++ bytes "}") ident));
          writes = λ before. sym (and_both met.starts_with (lt-ltb 1 (length (until (past s) (drop_while alnum (past s)))) (omega arith)));
        }

    pub ident-short : end ≤ 2 → Edited WrapMultichar pattern left s None
    ident-short h =
        let c = ident-long in
        record {
          sound = tt;
          turn = λ before. rw (met.starts_with, le-ltb 1 (length (until (past s) (drop_while alnum (past s)))) (omega arith));
          writes = λ before. sym (ap₂ ◌&&◌ met.starts_with (le-ltb 1 (length (until (past s) (drop_while alnum (past s)))) (omega arith)));
        }
