-- The branches of `cases`, one after another, and the call in its text. Assumes nothing.
--     branches     what is written of the branches
--     Branched     the answer of `branch_at`
--     Branching    the loop that writes them: it stands before the branch that begins at `start`
use Rattle.std.specs.Prelude.{◌≡◌, refl, Bool, true, false, cond, List, [], ◌∷◌, ◌++◌, map, ℕ, suc, ◌+◌, ◌-◌, ◌*◌, ◌≤◌, ◌<◌, ltb, length, take, drop}
use Rattle.std.proofs.Common.{sym, ap, ap₂, ◌∙◌, subst, append_assoc, append-nil, arith, length-append, drop-drop, take-take, lt-ltb, le-ltb}
use Rattle.std.proofs.Math.Option.{none, some}
use Rattle.std.proofs.Math.Decide.{dec_lt}
use Rattle.spec.specs.Symbols.{bytes, trim, find}
use Rattle.spec.specs.Closing.{split_top_level_commas, over_quotes, cut_alike}
use Rattle.spec.specs.Calls.{nonblank, joined, call_at, latex_cases, cases_once, convert_cases}
use Rattle.text_symbols.specs.Parts.{part, whole_part, sub_part, rest_part, length_part}
use Rattle.text_symbols.specs.Trim.{Narrowed}
use Rattle.text_search.specs.Search.{until-drop}
use Rattle.text.specs.declared.writer.Writer.{Writer}
use Rattle.text.specs.Writer.{Regions, Appended, appended-none, appended-more, appended-part}
use Rattle.text_symbols.specs.declared.Span.{Span}
use Rattle.spec.specs.Laws.Closing.{length_seen}
use Rattle.call_quotes.specs.Quotes.{Sees}
use Rattle.call_quotes.specs.declared.Quotes.{Quotes}
use Rattle.call_commas.specs.Split.{Splits, parts_behind}
use Rattle.call_rewriting.specs.First.{Firstly}
use Rattle.cases.specs.declared.Branch.{Branch}

-- a branch that is not the first stands behind a separator
abbrev pub separator : Bool → List ℕ
separator false = []
separator true = bytes " \\\\ "

abbrev pub branches : List ℕ → List ℕ
branches s = joined (bytes " \\\\ ") (nonblank (map trim (cut_alike (split_top_level_commas (over_quotes s)) s)))

-- the parts of v from `start` on, none where that is past its end
abbrev parts_alike : List ℕ → ℕ → List (List ℕ)
parts_alike v start = cond (ltb (length v) start) [] (split_top_level_commas (drop start v))

-- the same of s, which is cut where it is seen to end
abbrev pub parts_from : List ℕ → ℕ → List (List ℕ)
parts_from s start = cut_alike (parts_alike (over_quotes s) start) (drop start s)

pub record Branched (s : List ℕ) (start : ℕ) (r : Branch) : Type 0 where
  pub low : start ≤ r.span.start
  pub order : r.span.start ≤ r.span.end
  pub high : r.span.end < r.next
  pub within : r.next ≤ length s + 1
  pub parts : map trim (parts_from s start) ≡ part r.span.start (r.span.end - r.span.start) s ∷ map trim (parts_from s r.next)
  pub sees : Sees (over_quotes s) s r.next r.quotes.quoted

parts-behind : (s : List ℕ) (r : ℕ) → parts_behind s r ≡ parts_alike s (r + 1)
parts-behind s r = go (dec_lt r (length s))
  where
    go : Dec (r < length s) → parts_behind s r ≡ parts_alike s (r + 1)
    go (yes h) = rw (lt-ltb r (length s) h, le-ltb (length s) (r + 1) (omega arith))
    go (no h) = let l : length s ≤ r = omega arith in rw (le-ltb r (length s) l, lt-ltb (length s) (r + 1) (omega arith))

-- the part that begins at `start`
parts_first : (s : List ℕ) {start comma : ℕ} → start ≤ length s → Splits (over_quotes s) start comma → parts_from s start ≡ part start (comma - start) s ∷ parts_from s (comma + 1)
parts_first s {start} {comma} h splits =
    let v = over_quotes s in
    let seen = length_seen false s in let w = splits.within in let l = splits.later in
    let long : length (part start (comma - start) v) ≡ comma - start = length_part start (comma - start) v (omega arith) in
    let next : start + suc (comma - start) ≡ comma + 1 = omega arith in
    ap (λ b. cut_alike (cond b [] (split_top_level_commas (drop start v))) (drop start s)) (le-ltb (length v) start (omega arith))
    ∙ ap (λ ps. cut_alike ps (drop start s)) splits.parts
    ∙ ap (λ k. take k (drop start s) ∷ cut_alike (parts_behind v comma) (drop (suc k) (drop start s))) long
    ∙ ap₂ (λ ps t. part start (comma - start) s ∷ cut_alike ps t) (parts-behind v comma) (drop-drop (suc (comma - start)) start s ∙ ap (λ k. drop k s) next)

pub branched :
    {s : List ℕ} {start comma : ℕ} {p : Span} {quotes : Quotes} → start ≤ length s → Splits (over_quotes s) start comma
    → Sees (over_quotes s) s (comma + 1) quotes.quoted
    → Narrowed s (record { start = start; end = comma }) p (trim (part start (comma - start) s))
    → Branched s start (record { span = p; next = comma + 1; quotes = quotes })
branched {s} {start} {comma} {p} {quotes} h splits sees narrowed =
    let seen = length_seen false s in
    let w = splits.within in let f = narrowed.from in let o = narrowed.order in let t = narrowed.to in
    record {
      low = f;
      order = o;
      high = omega arith;
      within = omega arith;
      parts = ap (map trim) (parts_first s h splits) ∙ ap (λ b. b ∷ map trim (parts_from s (comma + 1))) (sym narrowed.text);
      sees = sees;
    }

-- ---- the loop
-- what the branches that are left add to those written
abbrev pub added : Bool → List (List ℕ) → List ℕ
added false bs = joined (bytes " \\\\ ") bs
added true [] = []
added true (b ∷ bs) = bytes " \\\\ " ++ joined (bytes " \\\\ ") (b ∷ bs)

joined-first : (b : List ℕ) (bs : List (List ℕ)) → joined (bytes " \\\\ ") (b ∷ bs) ≡ b ++ added true bs
joined-first b [] = sym (append-nil b)
joined-first b (c ∷ bs) = append_assoc b (bytes " \\\\ ") (joined (bytes " \\\\ ") (c ∷ bs))

added-first : (later : Bool) (b : List ℕ) (bs : List (List ℕ)) → added later (b ∷ bs) ≡ (separator later ++ b) ++ added true bs
added-first false b bs = joined-first b bs
added-first true b bs = ap (λ l. bytes " \\\\ " ++ l) (joined-first b bs) ∙ sym (append_assoc (bytes " \\\\ ") b (added true bs))

nonblank-none : (b : List ℕ) (bs : List (List ℕ)) → length b ≡ 0 → nonblank (b ∷ bs) ≡ nonblank bs
nonblank-none [] bs e = refl
nonblank-none (x ∷ b) bs e = absurd (omega arith)

nonblank-some : (b : List ℕ) (bs : List (List ℕ)) → 0 < length b → nonblank (b ∷ bs) ≡ b ∷ nonblank bs
nonblank-some [] bs h = absurd (omega arith)
nonblank-some (x ∷ b) bs h = refl

pub record Branching (s w₀ w : List ℕ) (o₀ o : Writer) (later : Bool) (start : ℕ) : Type 0 where
  pub out : List ℕ
  pub appended : Appended w₀ w o₀ o out
  pub same-as-whole : out ++ added later (nonblank (map trim (parts_from s start))) ≡ branches s
  pub bounded : o.count ≤ o₀.count + 8 * start

pub branching-none : (s w : List ℕ) (o : Writer) → Branching s w w o o false 0
branching-none s w o =
    record {
      out = [];
      appended = appended-none w o;
      same-as-whole =
          ap (λ b. joined (bytes " \\\\ ") (nonblank (map trim (cut_alike (cond b [] (split_top_level_commas (over_quotes s))) s)))) (le-ltb (length (over_quotes s)) 0 (omega arith));
      bounded = omega arith;
    }

pub branching-all : {s w₀ w : List ℕ} {o₀ o : Writer} {later : Bool} {start : ℕ} → Branching s w₀ w o₀ o later start → length s < start → Appended w₀ w o₀ o (branches s)
branching-all {s} {w₀} {w} {o₀} {o} {later} {start} b h =
    subst (λ out. Appended w₀ w o₀ o out)
    (sym (append-nil b.out) ∙ ap (λ l. b.out ++ l) (sym (nothing later ∙ refl)) ∙ b.same-as-whole) b.appended
  where
    none_left : (later : Bool) → added later (nonblank (map trim [])) ≡ []
    none_left false = refl
    none_left true = refl

    nothing : (later : Bool) → added later (nonblank (map trim (parts_from s start))) ≡ []
    nothing later =
        let seen = length_seen false s in
        ap (λ t. added later (nonblank (map trim (cut_alike (cond t [] (split_top_level_commas (drop start (over_quotes s)))) (drop start s))))) (lt-ltb (length (over_quotes s)) start (omega arith))
        ∙ none_left later

module _
    {s w₀ w : List ℕ} {o₀ o : Writer} {later : Bool} {start : ℕ} (b : Branching s w₀ w o₀ o later start) {r : Branch} (at : Branched s start r)
  where
    pub branching-blank : r.span.end - r.span.start ≡ 0 → Branching s w₀ w o₀ o later r.next
    branching-blank e =
        let n = b.bounded in let l = at.low in let ordered = at.order in let h = at.high in
        record {
          out = b.out;
          appended = b.appended;
          same-as-whole =
              ap (λ bs. b.out ++ added later bs)
              (sym (ap nonblank at.parts ∙ nonblank-none (part r.span.start (r.span.end - r.span.start) s) (map trim (parts_from s r.next)) (ap (λ k. length (take k (drop r.span.start s))) e)))
              ∙ b.same-as-whole;
          bounded = omega arith;
        }

    pub branching-more :
        {w' : List ℕ} {o' : Writer} → 0 < r.span.end - r.span.start → Appended w w' o o' (separator later ++ part r.span.start (r.span.end - r.span.start) s)
        → Branching s w₀ w' o₀ o' true r.next
    branching-more {w'} {o'} e a =
        let n = b.bounded in let l = at.low in let ordered = at.order in let h = at.high in let w = at.within in
        let branch = part r.span.start (r.span.end - r.span.start) s in
        let long : length branch ≡ r.span.end - r.span.start = length_part r.span.start (r.span.end - r.span.start) s (omega arith) in
        let bs = nonblank (map trim (parts_from s r.next)) in
        let c = simp length-append at a.counted in
        let few = separator-short later in
        record {
          out = b.out ++ (separator later ++ branch);
          appended = appended-more b.appended a;
          same-as-whole =
              append_assoc b.out (separator later ++ branch) (added true bs)
              ∙ ap (λ t. b.out ++ t) (sym (ap (added later) (ap nonblank at.parts ∙ nonblank-some branch (map trim (parts_from s r.next)) (omega arith)) ∙ added-first later branch bs))
              ∙ b.same-as-whole;
          bounded = omega arith;
        }
      where
        separator-short : (later : Bool) → length (separator later) ≤ 4
        separator-short false = omega arith
        separator-short true = omega arith

-- what the loop reads: all of the branches, and m symbols of them
module _ {w₀ w out : List ℕ} {o₀ o : Writer} {from n : ℕ} (a : Appended w₀ w o₀ o out) (regions : Regions w₀ from n o₀) where
  pub branches-read : part from (from + n - from) w ≡ part from n w₀
  branches-read = whole_part from n w ∙ appended-part a from n regions.apart

  pub branch_read : (i m : ℕ) → i + m ≤ n → part (from + i) m w ≡ part i m (part from n w₀)
  branch_read i m h = sub_part from n i m w h ∙ ap (λ s. take m (drop i s)) (appended-part a from n regions.apart)

  -- a branch of what is read is one of what is written
  pub branched-read : {start : ℕ} {r : Branch} → Branched (part from (from + n - from) w) start r → Branched (part from n w₀) start r
  branched-read {start} {r} = subst (λ s. Branched s start r) branches-read

-- ---- the call in its text
pub cases-unclosed : (s at : List ℕ) → find (bytes "cases(") s ≡ some at → call_at over_quotes (bytes "cases(") at ≡ none → convert_cases s ≡ s
unfolding convert_cases cases_once
cases-unclosed s at e f = rw (e, f)

-- as the code writes it
pub cases-at : {s : List ℕ} {i k : ℕ} → Firstly (bytes "cases(") s i k → convert_cases s ≡ take i s ++ latex_cases (part (i + 6) k s) ++ drop (i + 6 + k + 1) s
unfolding convert_cases cases_once
cases-at {s} {i} {k} first =
    let w = first.within in
    let long : length (part (i + 6) k s) ≡ k = length_part (i + 6) k s (omega arith) in
    let next : i + suc (6 + k) ≡ i + 6 + k + 1 = omega arith in
    rw (first.found, first.inner)
    (ap₂ (λ l m. l ++ latex_cases (part (i + 6) k s) ++ drop (suc (6 + m)) (drop i s)) (until-drop s i (omega arith)) long
    ∙ ap (λ l. take i s ++ latex_cases (part (i + 6) k s) ++ l) (drop-drop (suc (6 + k)) i s ∙ ap (λ j. drop j s) next))

-- the same in the parts of the buffer that hold the text
pub cases-parts :
    (w : List ℕ) (from n : ℕ) {i k : ℕ} → Firstly (bytes "cases(") (part from n w) i k → from + n ≤ length w
    → convert_cases (part from n w) ≡ part from i w ++ latex_cases (part (from + i + 6) k w) ++ part (from + i + 6 + k + 1) (from + n - (from + i + 6 + k + 1)) w
cases-parts w from n {i} {k} first h =
    let s = part from n w in
    let l = length_part from n w h in let f = first.within in
    let a : from + (i + 6) ≡ from + i + 6 = omega arith in
    let b : from + (i + 6 + k + 1) ≡ from + i + 6 + k + 1 = omega arith in
    cases-at first
    ∙ ap₂ (λ x y. x ++ latex_cases y ++ drop (i + 6 + k + 1) s)
    (take-take i n (drop from w) (omega arith))
    (sym (sub_part from n (i + 6) k w (omega arith)) ∙ ap (λ j. part j k w) a)
    ∙ ap (λ x. part from i w ++ latex_cases (part (from + i + 6) k w) ++ x)
    (sym (rest_part from n (i + 6 + k + 1) w) ∙ ap (λ j. part j (from + n - j) w) b)
