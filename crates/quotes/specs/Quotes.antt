-- The loop over quoted text. The definition keeps what was written last symbol first; the code keeps its end, a `TextEnd`.
--     end_in, grown_by     the end of a text, and after one symbol more
--     Ends               a tail is the end of a text
--     Quoting            the loop stands at place i
-- Assumes nothing.
use Rattle.std.specs.Prelude.{◌≡◌, refl, Bool, true, false, cond, ◌||◌, ℕ, zero, suc, ◌+◌, ◌-◌, ◌*◌, ◌≤◌, ◌<◌, length, get_or, drop}
use Rattle.std.proofs.Common.{eq-eqb, ne_eqb, sym, ap, ap₂, ◌∙◌, subst, add-one, arith, length-drop, drop_of_length-le, drop-drop}
use mathlib.Core.List.{List, [], ◌∷◌, ◌++◌, reverse, reverse_aux, reverse_aux-eq, reverse_aux-reverse_aux-nil}
use Prim.Native.Char.{code}
use Rattle.std.proofs.lemmas.List.{length-reverse}
use Rattle.std.proofs.Math.ListN.{length-reverse_aux}
use Rattle.spec.specs.Symbols.{bytes, is, alnum, blank, head, drop_while, trim_start}
use Rattle.spec.specs.Quotes.{gap_before, open_quote, gap_behind, close_quote, skipped, quotes, convert_text_quotes}
use Rattle.spec.specs.Laws.Symbols.{drop-step, head-drop, reverse-drop}
use Rattle.text_symbols.specs.Places.{AheadTo}
use Rattle.text_symbols.specs.Runs.{ahead-length}
use Rattle.text.specs.declared.writer.Writer.{Writer}
use Rattle.text.specs.Writer.{Appended, Regions, cut_by}
use Rattle.text_symbols.specs.Parts.{part, whole_part, length_part}
use Rattle.std.specs.Bool.{then_some}
use Rattle.text.specs.Written.{Wrote, Written, wrote_none, wrote-more, wrote-less, wrote-read, wrote-apart}
use Rattle.quotes.specs.declared.TextEnd.{TextEnd}
use Rattle.std.specs.Prelude.{Option as Maybe, Some, None, is_some, unwrap_or}

abbrev pub end_in : ℕ → TextEnd
end_in x = record { last = Some x; blanks = 0 }

abbrev pub end_none : TextEnd
end_none = record { last = None; blanks = 0 }

abbrev pub grown_by : TextEnd → ℕ → TextEnd
grown_by t x = cond (blank x) (record { last = t.last; blanks = t.blanks + 1 }) (end_in x)

abbrev pub gap_after : Maybe ℕ → Bool
gap_after None = false
gap_after (Some x) = alnum x || is "}" x

abbrev pub gap_at : TextEnd → Bool
gap_at t = gap_after t.last

-- the symbols that stay before an opening quote, and what is appended
abbrev pub kept : Writer → TextEnd → Writer
kept p t = cond (gap_at t) (cut_by t.blanks p) p

abbrev pub opening_quote : TextEnd → List ℕ
opening_quote t = cond (gap_at t) (bytes "\\;\\text{") (bytes "\\text{")

abbrev pub closing_quote : Bool → List ℕ
closing_quote gap = cond gap (bytes "}\\;") (bytes "}")

-- the last symbol of what is appended when a quote is closed
abbrev pub closing_last : Bool → ℕ
closing_last gap = cond gap (code ";") (code "}")

-- whether a closing quote gets a thin space, and the place where the text goes on behind it
pub record ClosedAt (s : List ℕ) (i : ℕ) (r : Maybe ℕ) : Type 0 where
  pub gap : is_some r ≡ gap_behind (drop i s)
  pub next : unwrap_or r i ≡ i + skipped (drop i s)
  pub within : unwrap_or r i ≤ length s

-- ---- the end of a text, which is kept last symbol first
pub record Ends (o : List ℕ) (t : TextEnd) : Type 0 where
  pub few : t.blanks ≤ length o
  pub trimmed : trim_start o ≡ drop t.blanks o
  pub last : head (drop t.blanks o) ≡ unwrap_or t.last 0

ends-none : Ends [] end_none
ends-none = record { few = omega arith; trimmed = refl; last = refl }

ends-new : (x : ℕ) (o : List ℕ) → blank x ≡ false → Ends (x ∷ o) (end_in x)
ends-new x o e = record { few = omega arith; trimmed = rw (e, drop_while); last = refl }

ends-step : {o : List ℕ} {t : TextEnd} (x : ℕ) → Ends o t → Ends (x ∷ o) (grown_by t x)
ends-step {o} {t} x h = go (blank x) refl
  where
    go : (b : Bool) → blank x ≡ b → Ends (x ∷ o) (cond b (record { last = t.last; blanks = t.blanks + 1 }) (end_in x))
    go true e =
        let n : t.blanks + 1 ≡ suc t.blanks = add-one t.blanks in
        let f = h.few in
        record {
          few = omega arith;
          trimmed = rw (e, drop_while) (h.trimmed ∙ ap (λ k. drop k (x ∷ o)) (sym n));
          last = ap (λ k. head (drop k (x ∷ o))) n ∙ h.last;
        }
    go false e = ends-new x o e

gap-before : {o : List ℕ} {t : TextEnd} → Ends o t → gap_before (trim_start o) ≡ gap_at t
gap-before {t = t} h = ap gap_before h.trimmed ∙ ap (λ x. alnum x || is "}" x) h.last ∙ go t.last
  where
    go : (m : Maybe ℕ) → (alnum (unwrap_or m 0) || is "}" (unwrap_or m 0)) ≡ gap_after m
    go None = refl
    go (Some x) = refl

-- ---- what follows a closing quote
module _ {s : List ℕ} {i r : ℕ} (behind : AheadTo s i r (trim_start (drop i s))) where
  gap-behind : gap_behind (drop i s) ≡ (alnum (get_or s r 0) || is "\"" (get_or s r 0))
  gap-behind = ap (λ x. alnum x || is "\"" x) (ap head (sym behind.left) ∙ head-drop s r)

  pub closed-at : {b : Bool} → b ≡ (alnum (get_or s r 0) || is "\"" (get_or s r 0)) → ClosedAt s i (then_some b r)
  closed-at {b} e = go b (e ∙ sym gap-behind)
    where
      skips : (b : Bool) → b ≡ gap_behind (drop i s) → i + skipped (drop i s) ≡ i + cond b (length (drop i s) - length (trim_start (drop i s))) 0
      skips b g = ap (λ b. i + cond b (length (drop i s) - length (trim_start (drop i s))) 0) (sym g)

      go : (b : Bool) → b ≡ gap_behind (drop i s) → ClosedAt s i (then_some b r)
      go true g = record { gap = g; next = ahead-length behind ∙ sym (skips true g); within = behind.within }
      go false g =
          let f = behind.from in let w = behind.within in let m : i ≡ i + 0 = omega arith in
          record { gap = g; next = m ∙ sym (skips false g); within = omega arith }

-- ---- the turns of the definition
quotes-skip : (q : Bool) (k : ℕ) (o s : List ℕ) → quotes q k o s ≡ quotes q 0 o (drop k s)
unfolding quotes
quotes-skip q zero o s = refl
quotes-skip q (suc k) o [] = refl
quotes-skip q (suc k) o (x ∷ s) = quotes-skip q k o s

quotes-plain : (q : Bool) (o s : List ℕ) (x : ℕ) → is "\"" x ≡ false → quotes q 0 o (x ∷ s) ≡ quotes q 0 (x ∷ o) s
unfolding quotes
quotes-plain q o s x e = rw (e, quotes)

quotes-open : (o s : List ℕ) (x : ℕ) → is "\"" x ≡ true → quotes false 0 o (x ∷ s) ≡ quotes true 0 (open_quote o) s
unfolding quotes
quotes-open o s x e = rw (e, quotes)

quotes-close : (o s : List ℕ) (x : ℕ) → is "\"" x ≡ true → quotes true 0 o (x ∷ s) ≡ quotes false (skipped s) (close_quote o s) s
unfolding quotes
quotes-close o s x e = rw (e, quotes)

quotes-end : (q : Bool) (o : List ℕ) → quotes q 0 o [] ≡ cond q (code "}" ∷ o) o
unfolding quotes
quotes-end q o = refl

-- ---- the loop
pub record Quoting (s w₀ w : List ℕ) (p₀ p : Writer) (quoted : Bool) (t : TextEnd) (i : ℕ) : Type 0 where
  pub out : List ℕ
  pub same-as-whole : reverse (quotes quoted 0 out (drop i s)) ≡ convert_text_quotes s
  pub same-place : p.to ≡ p₀.to
  pub same-cap : p.cap ≡ p₀.cap
  pub counted : p.count ≡ length out
  pub wrote : Wrote w₀ w p₀ (reverse out)
  pub ends : Ends out t
  pub bounded : p.count ≤ 8 * i

pub quoting-none : (s w : List ℕ) (p : Writer) → p.count ≡ 0 → Quoting s w w p p false end_none 0
unfolding convert_text_quotes
quoting-none s w p none =
    record { out = []; same-as-whole = refl; same-place = refl; same-cap = refl; counted = none; wrote = wrote_none w p; ends = ends-none; bounded = omega arith }

reverse-put : (bs o : List ℕ) → reverse (reverse_aux bs o) ≡ reverse o ++ bs
reverse-put bs o = reverse_aux-reverse_aux-nil bs o ∙ reverse_aux-eq o bs

-- bs has been appended to the text o
put-more :
    {s w₀ w w' : List ℕ} {p₀ p p' : Writer} {quoted : Bool} {t : TextEnd} {i : ℕ} (o bs : List ℕ)
    → p₀.to + p₀.cap ≤ length w₀ → Wrote w₀ w p₀ (reverse o) → p.to ≡ p₀.to → p.cap ≡ p₀.cap → p.count ≡ length o → Appended w w' p p' bs
    → reverse (quotes quoted 0 (reverse_aux bs o) (drop i s)) ≡ convert_text_quotes s → Ends (reverse_aux bs o) t → p'.count ≤ 8 * i
    → Quoting s w₀ w' p₀ p' quoted t i
put-more {w₀ = w₀} {w' = w'} {p₀} o bs fits wrote place cap counted a so_far ends slow =
    let n = a.counted in
    record {
      out = reverse_aux bs o;
      same-as-whole = so_far;
      same-place = a.same-place ∙ place;
      same-cap = a.same-cap ∙ cap;
      counted = (let l = length-reverse_aux bs o in omega arith);
      wrote = subst (λ l. Wrote w₀ w' p₀ l) (sym (reverse-put bs o)) (wrote-more fits place cap (counted ∙ sym (length-reverse o)) wrote a);
      ends = ends;
      bounded = slow;
    }

-- the turn at place i, by the definition
here :
    {s w₀ w : List ℕ} {p₀ p : Writer} {i : ℕ} {t : TextEnd} {quoted : Bool} {rest : List ℕ} (q : Quoting s w₀ w p₀ p quoted t i) → i < length s
    → quotes quoted 0 q.out (get_or s i 0 ∷ drop (i + 1) s) ≡ rest → reverse rest ≡ convert_text_quotes s
here {s} {i = i} {quoted = quoted} q more e = ap reverse (sym e ∙ ap (quotes quoted 0 q.out) (sym (drop-step s i more))) ∙ q.same-as-whole

closed-by : (b : Bool) (o : List ℕ) → reverse_aux (cond b (bytes "\\;") []) (code "}" ∷ o) ≡ reverse_aux (closing_quote b) o
closed-by true o = refl
closed-by false o = refl

closing-ends : (b : Bool) (o : List ℕ) → Ends (reverse_aux (closing_quote b) o) (end_in (closing_last b))
closing-ends true o = ends-new (code ";") (code "\\" ∷ code "}" ∷ o) refl
closing-ends false o = ends-new (code "}") o refl

closing-short : (b : Bool) → length (closing_quote b) ≤ 3
closing-short true = omega arith
closing-short false = omega arith

module _ {s w₀ w w' : List ℕ} {p₀ p p' : Writer} {i : ℕ} {t : TextEnd} (fits : p₀.to + p₀.cap ≤ length w₀) (more : i < length s) where
  pub quoting-plain :
      {quoted : Bool} → is "\"" (get_or s i 0) ≡ false → Quoting s w₀ w p₀ p quoted t i → Appended w w' p p' (get_or s i 0 ∷ [])
      → Quoting s w₀ w' p₀ p' quoted (grown_by t (get_or s i 0)) (i + 1)
  quoting-plain {quoted} e q a =
      let n = a.counted in let l = q.bounded in
      put-more q.out (get_or s i 0 ∷ []) fits q.wrote q.same-place q.same-cap q.counted a (here q more (quotes-plain quoted q.out (drop (i + 1) s) (get_or s i 0) e)) (ends-step (get_or s i 0) q.ends) (omega arith)

  module _ (quote : is "\"" (get_or s i 0) ≡ true) where
    pub quoting-open : Quoting s w₀ w p₀ p false t i → Appended w w' (kept p t) p' (opening_quote t) → Quoting s w₀ w' p₀ p' true (end_in (code "{")) (i + 1)
    quoting-open q a = go (gap_at t) refl a
      where
        turn : reverse (quotes true 0 (open_quote q.out) (drop (i + 1) s)) ≡ convert_text_quotes s
        turn = here q more (quotes-open q.out (drop (i + 1) s) (get_or s i 0) quote)

        opened : (b : Bool) → gap_at t ≡ b → open_quote q.out ≡ reverse_aux (bytes "\\text{") (cond b (reverse_aux (bytes "\\;") (drop t.blanks q.out)) q.out)
        opened b e =
            ap₂ (λ b l. reverse_aux (bytes "\\text{") (cond b (reverse_aux (bytes "\\;") l) q.out)) (gap-before q.ends ∙ e) q.ends.trimmed

        go : (b : Bool) → gap_at t ≡ b → Appended w w' (cond b (cut_by t.blanks p) p) p' (cond b (bytes "\\;\\text{") (bytes "\\text{"))
            → Quoting s w₀ w' p₀ p' true (end_in (code "{")) (i + 1)
        go true e a =
            let n = a.counted in let l = q.bounded in let f = q.ends.few in let c = q.counted in
            let o = drop t.blanks q.out in let d = length-drop t.blanks q.out in
            put-more o (bytes "\\;\\text{") fits
            (subst (λ l. Wrote w₀ w p₀ l) (sym (reverse-drop t.blanks q.out)) (wrote-less (length q.out - t.blanks) q.wrote))
            q.same-place q.same-cap (omega arith) a (ap (λ l. reverse (quotes true 0 l (drop (i + 1) s))) (sym (opened true e)) ∙ turn)
            (ends-new (code "{") (reverse_aux (bytes "\\;\\text") o) refl) (omega arith)
        go false e a =
            let n = a.counted in let l = q.bounded in
            put-more q.out (bytes "\\text{") fits q.wrote q.same-place q.same-cap q.counted a
            (ap (λ l. reverse (quotes true 0 l (drop (i + 1) s))) (sym (opened false e)) ∙ turn)
            (ends-new (code "{") (reverse_aux (bytes "\\text") q.out) refl) (omega arith)

    pub quoting-close :
        {r : Maybe ℕ} → Quoting s w₀ w p₀ p true t i → ClosedAt s (i + 1) r → Appended w w' p p' (closing_quote (is_some r))
        → Quoting s w₀ w' p₀ p' false (end_in (closing_last (is_some r))) (unwrap_or r (i + 1))
    quoting-close {r} q at a =
        let behind = drop (i + 1) s in
        let n = a.counted in let l = q.bounded in let x = at.next in let few = closing-short (is_some r) in
        let turn = here q more (quotes-close q.out behind (get_or s i 0) quote ∙ quotes-skip false (skipped behind) (close_quote q.out behind) behind) in
        let rest : drop (skipped behind) behind ≡ drop (unwrap_or r (i + 1)) s = drop-drop (skipped behind) (i + 1) s ∙ ap (λ k. drop k s) (sym x) in
        let written : close_quote q.out behind ≡ reverse_aux (closing_quote (is_some r)) q.out =
        ap (λ b. reverse_aux (cond b (bytes "\\;") []) (code "}" ∷ q.out)) (sym at.gap) ∙ closed-by (is_some r) q.out in
        put-more q.out (closing_quote (is_some r)) fits q.wrote q.same-place q.same-cap q.counted a
        (ap₂ (λ o l. reverse (quotes false 0 o l)) (sym written) (sym rest) ∙ turn)
        (closing-ends (is_some r) q.out) (omega arith)

-- ---- the turns, as the code reads the symbol at place i of the n at `from`
module _
    {w₀ w : List ℕ} {from n : ℕ} {p₀ p : Writer} {i : ℕ} {t : TextEnd} {quoted : Bool}
    (regions : Regions w₀ from n p₀) (q : Quoting (part from n w₀) w₀ w p₀ p quoted t i) (more : i < n)
  where
    long : length (part from n w₀) ≡ n
    long = length_part from n w₀ regions.source

    read : get_or w (from + i) 0 ≡ get_or (part from n w₀) i 0
    read = wrote-read q.wrote regions i more

    pub turn-plain :
        {w' : List ℕ} {p' : Writer} → (get_or w (from + i) 0 ≡ code "\"" → ⊥) → Appended w w' p p' (get_or w (from + i) 0 ∷ [])
        → Quoting (part from n w₀) w₀ w' p₀ p' quoted (grown_by t (get_or w (from + i) 0)) (i + 1)
    turn-plain other a = rw read (quoting-plain regions.region (omega (arith, long)) (ne_eqb _ _ (λ f. other (read ∙ f))) q (rw read at a))

    module _ (quote : get_or w (from + i) 0 ≡ code "\"") where
      here-quote : is "\"" (get_or (part from n w₀) i 0) ≡ true
      here-quote = eq-eqb _ _ (sym read ∙ quote)

      pub turn-open :
          {w' : List ℕ} {p' : Writer} → quoted ≡ false → Appended w w' (kept p t) p' (opening_quote t)
          → Quoting (part from n w₀) w₀ w' p₀ p' true (end_in (code "{")) (i + 1)
      turn-open e a = quoting-open regions.region (omega (arith, long)) here-quote (rw e at q) a

      closed-source : {r : Maybe ℕ} → ClosedAt (part from (from + n - from) w) (i + 1) r → ClosedAt (part from n w₀) (i + 1) r
      closed-source {r} at = subst (λ s. ClosedAt s (i + 1) r) (whole_part from n w ∙ wrote-apart q.wrote from n regions.apart) at

      pub turn-within : {r : Maybe ℕ} → ClosedAt (part from (from + n - from) w) (i + 1) r → unwrap_or r (i + 1) ≤ n
      turn-within at = let l = (closed-source at).within in let k = long in omega arith

      pub turn-close :
          {w' : List ℕ} {p' : Writer} {r : Maybe ℕ} → quoted ≡ true → ClosedAt (part from (from + n - from) w) (i + 1) r → Appended w w' p p' (closing_quote (is_some r))
          → Quoting (part from n w₀) w₀ w' p₀ p' false (end_in (closing_last (is_some r))) (unwrap_or r (i + 1))
      turn-close {r} e at a = quoting-close regions.region (omega (arith, long)) here-quote (rw e at q) (closed-source at) a

-- ---- the end: a quote that is still open is closed
module _ {s w₀ w : List ℕ} {p₀ p : Writer} {i : ℕ} {t : TextEnd} {quoted : Bool} (q : Quoting s w₀ w p₀ p quoted t i) (done : length s ≤ i) where
  last_turn : reverse (cond quoted (code "}" ∷ q.out) q.out) ≡ convert_text_quotes s
  last_turn = ap reverse (sym (ap (quotes quoted 0 q.out) (drop_of_length-le s done) ∙ quotes-end quoted q.out)) ∙ q.same-as-whole

  pub quoting-done : quoted ≡ false → Written w₀ w p₀ p (convert_text_quotes s)
  quoting-done e =
      let whole : reverse q.out ≡ convert_text_quotes s = ap (λ b. reverse (cond b (code "}" ∷ q.out) q.out)) (sym e) ∙ last_turn in
      record { same-place = q.same-place; counted = q.counted ∙ sym (length-reverse q.out) ∙ ap length whole; wrote = subst (λ l. Wrote w₀ w p₀ l) whole q.wrote }

  pub quoting-unclosed : {w' : List ℕ} {p' : Writer} → p₀.to + p₀.cap ≤ length w₀ → quoted ≡ true → Appended w w' p p' (code "}" ∷ []) → Written w₀ w' p₀ p' (convert_text_quotes s)
  quoting-unclosed {w'} {p'} fits e a =
      let whole : reverse (code "}" ∷ q.out) ≡ convert_text_quotes s = ap (λ b. reverse (cond b (code "}" ∷ q.out) q.out)) (sym e) ∙ last_turn in
      let n = a.counted in let c = q.counted in let l = length-reverse (code "}" ∷ q.out) in
      let long : p'.count ≡ length (reverse (code "}" ∷ q.out)) = omega arith in
      record {
        same-place = a.same-place ∙ q.same-place;
        counted = long ∙ ap length whole;
        wrote = subst (λ l. Wrote w₀ w' p₀ l) (sym (reverse-put (code "}" ∷ []) q.out) ∙ whole) (wrote-more fits q.same-place q.same-cap (c ∙ sym (length-reverse q.out)) q.wrote a);
      }
