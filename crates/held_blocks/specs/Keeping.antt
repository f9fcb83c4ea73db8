-- What has been held out is found again: the blocks bs stand in the region of blocks, and their places in the region of places. Assumes nothing.
--     KeepsBlocks    they stand there
--     keeps-more     after `hold_out`, those that stood there and the new ones
--     keeps-filed    block k may be put back
--     keeps-stored   the blocks by their places are those that were held out
--     keeps-beyond   a stage that writes a text leaves them
use Rattle.std.specs.Prelude.{◌≡◌, refl, List, [], ◌∷◌, ◌++◌, ℕ, zero, suc, ◌+◌, ◌*◌, ◌/◌, ◌%◌, ◌<◌, ◌≤◌, length, get_or, take, drop}
use Rattle.std.proofs.Common.{sym, ap, ap₂, ◌∙◌, inl, inr, add-zero, zero-add, add-suc, suc-add, not-suc-le-zero, arith, length-append, drop-drop, get_or-take, get_or-drop}
use Rattle.std.proofs.Math.Seq.{drop-append-add, take-append_seam}
use Rattle.spec.specs.Result.{most_symbols}
use Rattle.spec.specs.Pipeline.{least_work}
use Rattle.text_symbols.specs.Parts.{part, get_d_part, sub_part}
use Rattle.text.specs.declared.writer.Writer.{Writer}
use Rattle.text.specs.Writer.{Appended, appended-long, appended-part}
use Rattle.text.specs.Written.{Wrote, wrote-more, wrote-text}
use Rattle.held_laws.specs.Marks.{block_at, concat}
use Rattle.held_laws.specs.WellMade.{concat-append, block-append, block-front}
use Rattle.held_blocks.specs.Filing.{blocks_at, blocks_room, places_at, places_room, place, files, HeldOut}
use Rattle.held_blocks.specs.Back.{start_at, long_at, stored_at, stored_from, Filed}

pub record KeepsBlocks (w : List ℕ) (bs : List (List ℕ)) : Type 0 where
  pub long : least_work ≤ length w
  pub block : part blocks_at (length (concat bs)) w ≡ concat bs
  pub filing : part places_at (4 * length bs) w ≡ files 0 bs
  pub few : length (concat bs) ≤ blocks_room
  pub short : 4 * length bs ≤ places_room

pub keeps-none : (w : List ℕ) → least_work ≤ length w → KeepsBlocks w []
unfolding concat files
keeps-none w h = record { long = h; block = refl; filing = refl; few = omega arith; short = omega arith }

-- ---- where block k begins
unfoldable start_of : List (List ℕ) → ℕ → ℕ
start_of [] k = 0
start_of (b ∷ bs) zero = 0
start_of (b ∷ bs) (suc k) = length b + start_of bs k

joined_at : (bs : List (List ℕ)) (k : ℕ) → k < length bs → take (length (block_at bs k)) (drop (start_of bs k) (concat bs)) ≡ block_at bs k
unfolding block_at start_of concat
joined_at [] k h = absurd (not-suc-le-zero h)
joined_at (b ∷ bs) zero h = take-append_seam b (concat bs)
joined_at (b ∷ bs) (suc k) h = ap (take (length (block_at bs k))) (drop-append-add b (concat bs) (start_of bs k)) ∙ joined_at bs k (omega arith)

joined-within : (bs : List (List ℕ)) (k : ℕ) → k < length bs → start_of bs k + length (block_at bs k) ≤ length (concat bs)
unfolding block_at start_of concat
joined-within [] k h = absurd (not-suc-le-zero h)
joined-within (b ∷ bs) zero h = let l = length-append b (concat bs) in omega arith
joined-within (b ∷ bs) (suc k) h = let l = length-append b (concat bs) in let m = joined-within bs k (omega arith) in omega arith

files-at : (bs : List (List ℕ)) (k start : ℕ) → k < length bs → take 4 (drop (4 * k) (files start bs)) ≡ place (start + start_of bs k) (length (block_at bs k))
unfolding block_at start_of files
files-at [] k start h = absurd (not-suc-le-zero h)
files-at (b ∷ bs) zero start h = ap (λ n. place n (length b)) (sym (add-zero start))
files-at (b ∷ bs) (suc k) start h =
    let e : 4 * suc k ≡ length (place start (length b)) + 4 * k = omega arith in
    let f : start + length b + start_of bs k ≡ start + (length b + start_of bs k) = omega arith in
    ap (λ n. take 4 (drop n (place start (length b) ++ files (start + length b) bs))) e
    ∙ ap (take 4) (drop-append-add (place start (length b)) (files (start + length b) bs) (4 * k))
    ∙ files-at bs k (start + length b) (omega arith)
    ∙ ap (λ n. place n (length (block_at bs k))) f

-- ---- block k is read
whole : (n : ℕ) → n / 256 * 256 + n % 256 ≡ n
whole n = omega arith

module _ {w : List ℕ} {bs : List (List ℕ)} (keeps : KeepsBlocks w bs) (k : ℕ) (inside : k < length bs) where
  byte : (m j : ℕ) → m ≡ places_at + (4 * k + j) → j < 4 → get_or w m 0 ≡ get_or (place (start_of bs k) (length (block_at bs k))) j 0
  byte m j e h =
      let short = keeps.short in
      ap (λ m. get_or w m 0) e
      ∙ sym (get_d_part places_at (4 * length bs) w (4 * k + j) (omega arith))
      ∙ ap (λ s. get_or s (4 * k + j) 0) keeps.filing
      ∙ sym (get_or-drop (4 * k) (files 0 bs) j 0)
      ∙ sym (get_or-take 4 (drop (4 * k) (files 0 bs)) j 0 h)
      ∙ ap (λ s. get_or s j 0) (files-at bs k 0 inside ∙ ap (λ n. place n (length (block_at bs k))) (zero-add (start_of bs k)))

  start-read : start_at w k ≡ start_of bs k
  start-read =
      ap₂ (λ x y. x * 256 + y) (byte (places_at + 4 * k) 0 (omega arith) (omega arith)) (byte (places_at + 4 * k + 1) 1 (omega arith) (omega arith))
      ∙ whole (start_of bs k)

  long-read : long_at w k ≡ length (block_at bs k)
  long-read =
      ap₂ (λ x y. x * 256 + y) (byte (places_at + 4 * k + 2) 2 (omega arith) (omega arith)) (byte (places_at + 4 * k + 2 + 1) 3 (omega arith) (omega arith))
      ∙ whole (length (block_at bs k))

  keeps-block : stored_at w k ≡ block_at bs k
  keeps-block =
      let fits = joined-within bs k inside in
      ap₂ (λ x y. part (blocks_at + x) y w) start-read long-read
      ∙ sub_part blocks_at (length (concat bs)) (start_of bs k) (length (block_at bs k)) w fits
      ∙ ap (λ s. take (length (block_at bs k)) (drop (start_of bs k) s)) keeps.block
      ∙ joined_at bs k inside

  pub keeps-filed : Filed w k
  keeps-filed =
      let fits = joined-within bs k inside in let f = keeps.few in let s = keeps.short in
      record { entry = omega arith; inside = rw (start-read, long-read) (omega arith) }

-- the blocks cs behind those of as, before those of ds
stored_same : (w : List ℕ) (cs : List (List ℕ)) (k : ℕ) → ((i : ℕ) → i < length cs → stored_at w (k + i) ≡ block_at cs i) → stored_from w k (length cs) ≡ cs
unfolding stored_from block_at
stored_same w [] k same = refl
stored_same w (c ∷ cs) k same =
    ap₂ (λ b bs. b ∷ bs) (ap (stored_at w) (sym (add-zero k)) ∙ same 0 (omega arith))
    (stored_same w cs (suc k) (λ i h. ap (stored_at w) (suc-add k i ∙ sym (add-suc k i)) ∙ same (suc i) (omega arith)))

pub keeps-stored : {w : List ℕ} (bs cs ds : List (List ℕ)) → KeepsBlocks w (bs ++ (cs ++ ds)) → stored_from w (length bs) (length cs) ≡ cs
keeps-stored {w} bs cs ds keeps =
    stored_same w cs (length bs)
    (λ i h. (let l = length-append bs (cs ++ ds) in let m = length-append cs ds in
    keeps-block keeps (length bs + i) (omega arith) ∙ block-append bs (cs ++ ds) i ∙ block-front cs ds i h))

-- ---- more blocks
-- a text that stands in its region, and what is appended to it
stands-more :
    {w w' : List ℕ} {o o' : Writer} {out more : List ℕ} → part o.to (length out) w ≡ out → o.to + o.cap ≤ length w → o.count ≡ length out
    → Appended w w' o o' more → length (out ++ more) ≤ o.cap → part o.to (length (out ++ more)) w' ≡ out ++ more
stands-more {w} {o = o} {out = out} e fits c a short =
    let there : Wrote w w o out =
    record {
      long = refl;
      written-there = λ i h l. sym (get_d_part o.to (length out) w i l) ∙ ap (λ s. get_or s i 0) e;
      elsewhere-same = λ j h. refl;
    } in
    wrote-text (wrote-more fits refl refl c there a) fits short

files-append : (bs cs : List (List ℕ)) (start : ℕ) → files start (bs ++ cs) ≡ files start bs ++ files (start + length (concat bs)) cs
unfolding files concat
files-append [] cs start = ap (λ n. files n cs) (sym (add-zero start))
files-append (b ∷ bs) cs start =
    let e : start + length b + length (concat bs) ≡ start + length (b ++ concat bs) = rw (length-append b (concat bs)) (omega arith) in
    ap (λ l. place start (length b) ++ l) (files-append bs cs (start + length b) ∙ ap (λ n. files (start + length b) bs ++ files n cs) e)

files-long : (bs : List (List ℕ)) (start : ℕ) → length (files start bs) ≡ 4 * length bs
unfolding files
files-long [] start = refl
files-long (b ∷ bs) start = let l = files-long bs (start + length b) in omega arith

module _
    {w w' : List ℕ} {to used filed len used' filed' : ℕ} {out : List ℕ} (bs cs : List (List ℕ)) (region : to + most_symbols ≤ blocks_at)
    (u : used ≡ length (concat bs)) (f : filed ≡ 4 * length bs) (h : HeldOut w w' to used filed len used' filed' out cs)
  where
    pub used-more : used' ≡ length (concat (bs ++ cs))
    used-more = let c = h.block.counted in let l = ap length (concat-append bs cs) in let m = length-append (concat bs) (concat cs) in omega arith

    pub filed-more : filed' ≡ 4 * length (bs ++ cs)
    filed-more = let c = h.filing.counted in let l = files-long cs used in let m = length-append bs cs in omega arith

    pub keeps-more : KeepsBlocks w bs → length (concat (bs ++ cs)) ≤ blocks_room → 4 * length (bs ++ cs) ≤ places_room → KeepsBlocks w' (bs ++ cs)
    keeps-more keeps few short =
        record {
          long = (let l = whole_long in let k = keeps.long in omega arith);
          block = ap (λ n. part blocks_at n w') (ap length (concat-append bs cs)) ∙ after ∙ sym (concat-append bs cs);
          filing = ap (λ n. part places_at n w') (sym long) ∙ listed ∙ sym all-files;
          few = few;
          short = short;
        }
      where
        whole_long : length w' ≡ length w
        whole_long = appended-long h.filing ∙ appended-long h.block ∙ appended-long h.text

        all-files : files 0 (bs ++ cs) ≡ files 0 bs ++ files used cs
        all-files = files-append bs cs 0 ∙ ap (λ n. files 0 bs ++ files n cs) (zero-add (length (concat bs)) ∙ sym u)

        long : length (files 0 bs ++ files used cs) ≡ 4 * length (bs ++ cs)
        long = ap length (sym all-files) ∙ files-long (bs ++ cs) 0

        -- the blocks
        before : part blocks_at (length (concat bs)) h.w₁ ≡ concat bs
        before = appended-part h.text blocks_at (length (concat bs)) (inr region) ∙ keeps.block

        after : part blocks_at (length (concat bs ++ concat cs)) w' ≡ concat bs ++ concat cs
        after =
            let l = ap length (concat-append bs cs) in let g = keeps.long in let e = appended-long h.text in
            appended-part h.filing blocks_at (length (concat bs ++ concat cs)) (inl (omega arith))
            ∙ stands-more before (omega arith) u h.block (omega arith)

        -- their places
        listed-before : part places_at (length (files 0 bs)) h.w₂ ≡ files 0 bs
        listed-before =
            ap (λ n. part places_at n h.w₂) (files-long bs 0)
            ∙ appended-part h.block places_at (4 * length bs) (inr (omega arith))
            ∙ appended-part h.text places_at (4 * length bs) (inr (omega arith))
            ∙ keeps.filing

        listed : part places_at (length (files 0 bs ++ files used cs)) w' ≡ files 0 bs ++ files used cs
        listed =
            let l = long in let g = keeps.long in let e = appended-long h.text in let e' = appended-long h.block in
            stands-more listed-before (omega arith) (f ∙ sym (files-long bs 0)) h.filing (omega arith)

-- ---- what is written to a region for texts
pub keeps-beyond : {w w' : List ℕ} {bs : List (List ℕ)} → length w' ≡ length w → drop blocks_at w' ≡ drop blocks_at w → KeepsBlocks w bs → KeepsBlocks w' bs
keeps-beyond {w} {w'} {bs} l beyond keeps =
    record {
      long = (let k = keeps.long in omega arith);
      block = ap (take (length (concat bs))) beyond ∙ keeps.block;
      filing =
          ap (take (4 * length bs)) (sym (drop-drop blocks_room blocks_at w') ∙ ap (drop blocks_room) beyond ∙ drop-drop blocks_room blocks_at w)
          ∙ keeps.filing;
      few = keeps.few;
      short = keeps.short;
    }
