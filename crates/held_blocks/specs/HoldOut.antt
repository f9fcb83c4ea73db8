-- The loop of `hold_out`. Assumes nothing.
--     taken_from    what is taken out of a text
--     Hold         what `hold_out` asks
--     Holding      the invariant of its loop, at place i
use Rattle.std.specs.Prelude.{◌≡◌, true, false, ℕ, ◌+◌, ◌-◌, ◌*◌, ◌<◌, ◌≤◌, take, Some, None}
use Rattle.std.proofs.Math.Path.{refl, sym, ap}
use Rattle.std.proofs.Common.{◌∙◌, subst, inl, not-suc-le-zero, add-one, length-take, take-append-drop, drop-drop}
use mathlib.Core.List.{List, [], ◌∷◌, ◌++◌, append_assoc, append-nil}
use Rattle.std.proofs.Math.Option.{none, some}
use native.Mathlib.Omega.{arith}
use Rattle.std.proofs.Math.ListN.{length, drop, length-drop, drop_of_length-le}
use Rattle.std.proofs.Math.Seq.{take_all}
use Rattle.spec.specs.Result.{most_symbols}
use Rattle.spec.specs.Pipeline.{least_work}
use Rattle.spec.specs.Symbols.{starts}
use Rattle.spec.specs.Laws.Symbols.{starts-long}
use Rattle.spec.specs.Closing.{find_matching_brace}
use Rattle.spec.specs.Held.{Taken, take_out}
use Rattle.text_symbols.specs.Parts.{part, length_part, rest_part, sub_part}
use Rattle.text.specs.Writer.{Appended, Apart, apart-part, appended-long, appended-part}
use Rattle.text_search.specs.Search.{Closes, closes-at, closes-within, closes-nothing}
use Rattle.text_search.specs.Search.{Found}
use Rattle.std.specs.Prelude.{Some, None}
use Rattle.held_laws.specs.TakeOut.{turn-passing, turn-unclosed, turn-holding}
use Rattle.held_blocks.specs.Filing.{text_from, blocks_at, blocks_room, places_room, HeldOut, BlockFiled, held_none, held-text, held-block}

pub record Hold (w : List ℕ) (from n to used filed : ℕ) : Type 0 where
  pub long : least_work ≤ length w
  pub source : from + n ≤ blocks_at
  pub region : to + most_symbols ≤ blocks_at
  pub apart : Apart from n (text_from to 0)
  pub short : n ≤ most_symbols
  pub few : used ≤ blocks_room
  pub small : filed ≤ places_room

-- ---- the turns
module _ (name : List ℕ) (mark : ℕ) where
  abbrev pub taken_from : List ℕ → Taken
  taken_from s = take_out name mark 0 s

  turn-other : (s : List ℕ) → 0 < length s → starts name s ≡ false → taken_from s ≡ record { left = take 1 s ++ (taken_from (drop 1 s)).left; blocks = (taken_from (drop 1 s)).blocks }
  turn-other [] h e = absurd (not-suc-le-zero h)
  turn-other (b ∷ s) h e = turn-passing name mark b s e

  turn-none : (s : List ℕ) → starts name s ≡ true → find_matching_brace (drop (length name) s) ≡ none → taken_from s ≡ record { left = s; blocks = [] }
  unfolding take_out
  turn-none [] e c = refl
  turn-none (b ∷ s) e c = turn-unclosed name mark b s e c

  turn-held :
      (s : List ℕ) (k : ℕ) → k < length s → starts name s ≡ true → find_matching_brace (drop (length name) s) ≡ some (drop (k + 1) s)
      → taken_from s ≡ record { left = mark ∷ (taken_from (drop (k + 1) s)).left; blocks = take (k + 1) s ∷ (taken_from (drop (k + 1) s)).blocks }
  turn-held [] k h e c = absurd (not-suc-le-zero h)
  turn-held (b ∷ s) k h e c =
      let split = take-append-drop k s in
      subst (λ m. taken_from (b ∷ s) ≡ record { left = mark ∷ (taken_from (drop m (b ∷ s))).left; blocks = take m (b ∷ s) ∷ (taken_from (drop m (b ∷ s))).blocks }) (sym (add-one k))
      (ap (λ l. taken_from (b ∷ l)) (sym split)
      ∙ turn-holding name mark b (take k s) (drop k s) (ap (λ l. starts name (b ∷ l)) split ∙ e)
      (ap (λ l. find_matching_brace (drop (length name) (b ∷ l))) split ∙ c ∙ ap (λ m. some (drop m (b ∷ s))) (add-one k)))

pub record Holding (name : List ℕ) (mark : ℕ) (w₀ w : List ℕ) (from n to used₀ filed₀ len used filed i : ℕ) : Type 0 where
  pub out : List ℕ
  pub blocks-out : List (List ℕ)
  pub regions : HeldOut w₀ w to used₀ filed₀ len used filed out blocks-out
  pub long : length w ≡ length w₀
  pub texts : out ++ (taken_from name mark (drop i (part from n w₀))).left ≡ (taken_from name mark (part from n w₀)).left
  pub held : blocks-out ++ (taken_from name mark (drop i (part from n w₀))).blocks ≡ (taken_from name mark (part from n w₀)).blocks
  pub len-bounded : len ≤ i
  pub used-bounded : used ≤ used₀ + i
  pub filed-bounded : filed ≤ filed₀ + 4 * i

pub holding-none : (name : List ℕ) (mark : ℕ) (w : List ℕ) (from n to used filed : ℕ) → Holding name mark w w from n to used filed 0 used filed 0
holding-none name mark w from n to used filed =
    record {
      out = [];
      blocks-out = [];
      regions = held_none w to used filed;
      long = refl;
      texts = refl;
      held = refl;
      len-bounded = omega arith;
      used-bounded = omega arith;
      filed-bounded = omega arith;
    }

module _
    {name : List ℕ} {mark : ℕ} {w₀ w : List ℕ} {from n to used₀ filed₀ len used filed i : ℕ}
    (hold : Hold w₀ from n to used₀ filed₀) (h : Holding name mark w₀ w from n to used₀ filed₀ len used filed i)
  where
    source-same : part from n w ≡ part from n w₀
    source-same =
        let s = hold.source in
        appended-part h.regions.filing from n (inl (omega arith))
        ∙ appended-part h.regions.block from n (inl s)
        ∙ appended-part h.regions.text from n hold.apart

    source-long : length (part from n w₀) ≡ n
    source-long = let s = hold.source in let l = hold.long in length_part from n w₀ (omega arith)

    -- the rest of the text, as the code takes it from place j on
    abbrev pub ahead : ℕ → List ℕ
    ahead j = part (from + j) (from + n - (from + j)) w

    rest_read : (j : ℕ) → ahead j ≡ drop j (part from n w₀)
    rest_read j = rest_part from n j w ∙ ap (drop j) source-same

    symbols-read : (m : ℕ) → i + m ≤ n → part (from + i) m w ≡ take m (drop i (part from n w₀))
    symbols-read m l = sub_part from n i m w l ∙ ap (λ s. take m (drop i s)) source-same

    pub holding-all : n ≤ i → HeldOut w₀ w to used₀ filed₀ len used filed (taken_from name mark (part from n w₀)).left (taken_from name mark (part from n w₀)).blocks
    unfolding take_out
    holding-all l =
        let e = source-long in
        let short : length (part from n w₀) ≤ i = omega arith in
        let d = drop_of_length-le (part from n w₀) short in
        let t = sym (append-nil h.out) ∙ ap (λ s. h.out ++ (taken_from name mark s).left) (sym d) ∙ h.texts in
        let b = sym (append-nil h.blocks-out) ∙ ap (λ s. h.blocks-out ++ (taken_from name mark s).blocks) (sym d) ∙ h.held in
        rw (← t, ← b) h.regions

    pub name-fits : starts name (ahead i) ≡ true → i ≤ n → i + length name ≤ n
    name-fits met l =
        let e = starts-long name (ahead i) met in
        let t = length-take (from + n - (from + i)) (drop (from + i) w) in
        omega arith

    module _ (more : i < n) where
      inside : 0 < length (drop i (part from n w₀))
      inside = let e = source-long in let d = length-drop i (part from n w₀) in omega arith

      met-here : starts name (ahead i) ≡ true → starts name (drop i (part from n w₀)) ≡ true
      met-here met = sym (ap (starts name) (rest_read i)) ∙ met

      behind-name : drop (length name) (drop i (part from n w₀)) ≡ ahead (i + length name)
      behind-name = drop-drop (length name) i (part from n w₀) ∙ sym (rest_read (i + length name))

      -- a symbol is copied
      pub holding-other :
          {w' : List ℕ} {len' : ℕ} → starts name (ahead i) ≡ false → Appended w w' (text_from to len) (text_from to len') (part (from + i) 1 w)
          → Holding name mark w₀ w' from n to used₀ filed₀ len' used filed (i + 1)
      holding-other other a =
          let s = part from n w₀ in
          let turn = turn-other name mark (drop i s) inside (sym (ap (starts name) (rest_read i)) ∙ other) in
          let one = symbols-read 1 (omega arith) in
          let next = drop-drop 1 i s in
          let c = a.counted in
          let l = length_part (from + i) 1 w (let e = h.long in let f = hold.source in let g = hold.long in omega arith) in
          let x = h.len-bounded in let y = h.used-bounded in let z = h.filed-bounded in
          record {
            out = h.out ++ take 1 (drop i s);
            blocks-out = h.blocks-out;
            regions = held-text hold.region h.regions (rw one at a);
            long = appended-long a ∙ h.long;
            texts = append_assoc h.out (take 1 (drop i s)) _ ∙ ap (λ l. h.out ++ (take 1 (drop i s) ++ (taken_from name mark l).left)) (sym next) ∙ ap (λ x. h.out ++ x.left) (sym turn) ∙ h.texts;
            held = ap (λ l. h.blocks-out ++ (taken_from name mark l).blocks) (sym next) ∙ ap (λ x. h.blocks-out ++ x.blocks) (sym turn) ∙ h.held;
            len-bounded = omega arith;
            used-bounded = omega arith;
            filed-bounded = omega arith;
          }

      module _ {r : Found} (met : starts name (ahead i) ≡ true) (search : Closes (ahead (i + length name)) r (find_matching_brace (ahead (i + length name)))) where
        rest-turn : r ≡ None → taken_from name mark (drop i (part from n w₀)) ≡ record { left = drop i (part from n w₀); blocks = [] }
        rest-turn e = turn-none name mark (drop i (part from n w₀)) (met-here met) (ap find_matching_brace behind-name ∙ closes-nothing search e)

        -- a block that doesn't close: the rest is copied
        pub holding-rest :
            {w' : List ℕ} {len' : ℕ} → r ≡ None → Appended w w' (text_from to len) (text_from to len') (part (from + i) (n - i) w)
            → Holding name mark w₀ w' from n to used₀ filed₀ len' used filed n
        unfolding take_out
        holding-rest e a =
            let s = part from n w₀ in
            let turn = rest-turn e in
            let l = source-long in
            let d = length-drop i s in
            let whole : part (from + i) (n - i) w ≡ drop i s = symbols-read (n - i) (omega arith) ∙ take_all (n - i) (drop i s) (omega arith) in
            let short : length s ≤ n = omega arith in
            let done = drop_of_length-le s short in
            let c = a.counted in let k = ap length whole in
            let x = h.len-bounded in let y = h.used-bounded in let z = h.filed-bounded in
            record {
              out = h.out ++ drop i s;
              blocks-out = h.blocks-out;
              regions = held-text hold.region h.regions (rw whole at a);
              long = appended-long a ∙ h.long;
              texts = ap (λ l. h.out ++ drop i s ++ (taken_from name mark l).left) done ∙ append-nil (h.out ++ drop i s) ∙ ap (λ x. h.out ++ x.left) (sym turn) ∙ h.texts;
              held = ap (λ l. h.blocks-out ++ (taken_from name mark l).blocks) done ∙ ap (λ x. h.blocks-out ++ x.blocks) (sym turn) ∙ h.held;
              len-bounded = omega arith;
              used-bounded = omega arith;
              filed-bounded = omega arith;
            }

        -- a block that closes
        module _ (k : ℕ) (e : r ≡ Some k) where
          block-fits : i + length name + k + 1 ≤ n
          block-fits =
              let inner = closes-within search e in
              let l = length-take (from + n - (from + (i + length name))) (drop (from + (i + length name)) w) in
              omega arith

          held-turn :
              (let s = drop i (part from n w₀) in let long = length name + k + 1 in
              taken_from name mark s ≡ record { left = mark ∷ (taken_from name mark (drop long s)).left; blocks = take long s ∷ (taken_from name mark (drop long s)).blocks })
          held-turn =
              let s = drop i (part from n w₀) in
              let step : length name + (k + 1) ≡ length name + k + 1 = omega arith in
              let closed =
              ap find_matching_brace behind-name
              ∙ closes-at search e
              ∙ ap (λ l. some (drop (k + 1) l)) (sym behind-name)
              ∙ ap some (drop-drop (k + 1) (length name) s ∙ ap (λ m. drop m s) step) in
              let fits = block-fits in let wide = source-long in let d = length-drop i (part from n w₀) in
              turn-held name mark s (length name + k) (omega arith) (met-here met) closed

          pub holding-held :
              {v w' : List ℕ} {len' used' filed' : ℕ}
              → Appended w v (text_from to len) (text_from to len') (mark ∷ [])
              → BlockFiled v w' (from + i) (length name + k + 1) used used' filed filed'
              → Holding name mark w₀ w' from n to used₀ filed₀ len' used' filed' (i + length name + k + 1)
          holding-held {v} a kept =
              let s = part from n w₀ in
              let long = length name + k + 1 in
              let fits = block-fits in
              let wide = source-long in
              let d = length-drop i s in
              let turn = held-turn in
              let block = appended-part a (from + i) long (apart-part from n (text_from to len) i long hold.apart (omega arith)) ∙ symbols-read long (omega arith) in
              let m = length-take long (drop i s) in
              let l : length (take long (drop i s)) ≡ long = omega arith in
              let step : i + long ≡ i + length name + k + 1 = omega arith in
              let next : drop long (drop i s) ≡ drop (i + length name + k + 1) s = drop-drop long i s ∙ ap (λ m. drop m s) step in
              let c = a.counted in let c' = kept.block.counted in let l' = ap length block in let f = kept.filing.counted in
              let x = h.len-bounded in let y = h.used-bounded in let z = h.filed-bounded in
              record {
                out = h.out ++ (mark ∷ []);
                blocks-out = h.blocks-out ++ (take long (drop i s) ∷ []);
                regions = held-block hold.region (held-text hold.region h.regions a) (rw block at kept.block) (rw (← l) at kept.filing);
                long = appended-long kept.filing ∙ appended-long kept.block ∙ appended-long a ∙ h.long;
                texts = append_assoc h.out (mark ∷ []) _ ∙ ap (λ l. h.out ++ (mark ∷ (taken_from name mark l).left)) (sym next) ∙ ap (λ x. h.out ++ x.left) (sym turn) ∙ h.texts;
                held = append_assoc h.blocks-out (take long (drop i s) ∷ []) _ ∙ ap (λ l. h.blocks-out ++ (take long (drop i s) ∷ (taken_from name mark l).blocks)) (sym next) ∙ ap (λ x. h.blocks-out ++ x.blocks) (sym turn) ∙ h.held;
                len-bounded = omega arith;
                used-bounded = omega arith;
                filed-bounded = omega arith;
              }
