-- Definitions one after another, while `\text` blocks are held out.
--     sized_definitions     the stages, on a text with marks
--     definitions-held     they are those of the definitions on what is held
--     DefinitionsLeft      the loop: the definitions from a cursor on are left, and all of them may be applied
-- Assumes nothing.
use Rattle.std.specs.Prelude.{◌≡◌, Bool, ◌||◌, ℕ, ◌+◌, ◌<◌, ltb, length, Option as Maybe, Some, None}
use Rattle.std.proofs.Math.Path.{refl, sym, ap, subst}
use Rattle.std.proofs.Common.{◌∙◌, arith}
use Rattle.std.proofs.Math.Bool.{true, false, cond}
use mathlib.Core.List.{List, [], ◌∷◌, map}
use Rattle.std.proofs.Math.Option.{some}
use Rattle.std.proofs.Math.Dec.{eqb}
use borrow.Author.Tests.{eq-eqb, ne_eqb}
use Rattle.spec.specs.Sweep.{sweep}
use Rattle.spec.specs.Result.{Result, passed, refused, ◌then◌, most_symbols}
use Rattle.spec.specs.Held.{Held, with_text, held_stage, hold_texts, put_back}
use Rattle.spec.specs.Table.{Definition, definitions, in_order}
use Rattle.spec.specs.Definitions.{defined, apply_definition, apply_definitions, apply_definitions_outside_text}
use Rattle.spec.specs.Matches.{defined_match}
use Rattle.spec.specs.Laws.Order.{rearranged-in-order}
use Rattle.spec.specs.Laws.Table.{sound-name-some}
use Rattle.spec.specs.Laws.Matches.{unmatched-rearranged}
use Rattle.text.specs.Stage.{Ready, shown, Progress}
use Rattle.text.specs.Untouched.{Untouched, untouched-alike, EntriesLeft, entries_none, entries-more, entries-all}
use Rattle.held_laws.specs.WellMade.{WellMade}
use Rattle.held_laws.specs.Rewriting.{sweep-made}
use Rattle.held_laws.specs.Instances.{SoundDefinition, EverySound, defined-between, order-sound, definitions-made}
use Rattle.name_entry.specs.declared.bounds.Bounds.TheVariants.{Defined}
use Rattle.name_entry.specs.Bounded.{EntryTextsFit, bounded_match, defined-matches}
use Rattle.name_entry.specs.Sized.{sized, FitsWithBlocks, StagedWithin, Remaining, remaining-none, remaining-step}
use Rattle.table.specs.declared.Record.{Record}
use Rattle.table.specs.Reading.{Lies, Short, definition_at, length-name, length-latex}
use Rattle.table.specs.Sound.{refused as not_passed, not-refused}
use Rattle.table_order.specs.Order.{Cursor, Nexts, remaining, remaining-start, next-remaining, listed-distinct}
use Rattle.held_stages.specs.Outside.{Extra}
use Rattle.held_stages.specs.Carried.{held-sized}

unfoldable pub sized_definition : ℕ → Definition → List ℕ → Result (List ℕ)
sized_definition extra d s = cond (eqb (length d.name) 1) (passed s) (sized extra (apply_definition d) s)

unfoldable pub sized_definitions : ℕ → List Definition → List ℕ → Result (List ℕ)
sized_definitions extra [] s = passed s
sized_definitions extra (d ∷ ds) s = sized_definition extra d s then sized_definitions extra ds

-- ---- a record that may be applied
pub record Usable (table : List ℕ) (r : Record) : Type 0 where
  pub lies : Lies table r
  pub short : Short r
  pub some-name : r.name < r.latex

module _ {table : List ℕ} {r : Record} (usable : Usable table r) where
  pub record-fair : EntryTextsFit (definition_at table r).name (definition_at table r).latex
  record-fair =
      let l = usable.lies in let n = length-name l in let x = length-latex l in let s = usable.short in let m = usable.some-name in
      record { positive = omega arith; short = omega arith; few = omega arith }

  -- a name of one byte is skipped
  pub one-byte-skipped :
      {w : List ℕ} {p : Progress} {extra : ℕ} → length (definition_at table r).name ≡ 1 → Ready w p → FitsWithBlocks extra p
      → StagedWithin w w p p extra (sized_definition extra (definition_at table r))
  unfolding sized_definition
  one-byte-skipped {w} {p} {extra} one ready within =
      let e = eq-eqb (length (definition_at table r).name) 1 one in
      record {
        staged = record {
          answered = record { answer = sym (go e (shown p w)); long = refl; placed = ready.placed };
          beyond = refl;
        };
        within = within;
      }
    where
      go : eqb (length (definition_at table r).name) 1 ≡ true → (q : Result (List ℕ))
          → (q then (λ s. cond (eqb (length (definition_at table r).name) 1) (passed s) (sized extra (apply_definition (definition_at table r)) s))) ≡ q
      go e (passed s) = ap (λ t. cond t (passed s) (sized extra (apply_definition (definition_at table r)) s)) e
      go e (refused k) = refl

  pub applied :
      {w w' : List ℕ} {p p' : Progress} {extra : ℕ} → (length (definition_at table r).name ≡ 1 → ⊥)
      → StagedWithin w w' p p' extra (sized extra (sweep (defined (definition_at table r)) 0 0)) × Untouched w w' p p' (bounded_match Defined (definition_at table r).name ∷ [])
      → StagedWithin w w' p p' extra (sized_definition extra (definition_at table r)) × Untouched w w' p p' (defined_match (definition_at table r) ∷ [])
  unfolding sized_definition apply_definition
  applied {w} {p = p} {extra = extra} more a =
      let e = ne_eqb (length (definition_at table r).name) 1 more in
      let staged = a.0.staged in (
        record {
          staged = record {
            answered = record { answer = staged.answered.answer ∙ sym (go e (shown p w)); long = staged.answered.long; placed = staged.answered.placed };
            beyond = staged.beyond;
          };
          within = a.0.within;
        },
        untouched-alike (λ s none. ap (λ t. t || false) (defined-matches (definition_at table r) e s) ∙ none) a.1,
      )
    where
      go : eqb (length (definition_at table r).name) 1 ≡ false → (q : Result (List ℕ))
          → (q then (λ s. cond (eqb (length (definition_at table r).name) 1) (passed s) (sized extra (apply_definition (definition_at table r)) s)))
          ≡ (q then sized extra (apply_definition (definition_at table r)))
      go e (passed s) = ap (λ t. cond t (passed s) (sized extra (apply_definition (definition_at table r)) s)) e
      go e (refused k) = refl

-- ---- the loop
-- the next record, of a table that number 3 lets pass
module _ {table : List ℕ} {c : Cursor} {x : Maybe Record} (nexts : Nexts table c x) (accepted : not_passed (definitions table) ≡ false) {r : Record} (e : x ≡ Some r) where
  pub next-step : remaining table c ≡ definition_at table r ∷ remaining table (Some r)
  next-step = let known = not-refused (definitions table) accepted in next-remaining nexts (listed-distinct table known.0 known.1) e

  pub next-fewer : length (remaining table (Some r)) < length (remaining table c)
  next-fewer = let fewer = ap length next-step in omega arith

pub record DefinitionsLeft (table : List ℕ) (c : Cursor) (ds : List Definition) (extra : ℕ) (w₀ w : List ℕ) (p₀ p : Progress) : Type 0 where
  pub sound : EverySound (remaining table c)
  pub stages : Remaining w₀ w p₀ p extra (sized_definitions extra (in_order ds)) (sized_definitions extra (remaining table c))
  pub entries : EntriesLeft w₀ w p₀ p (map defined_match (in_order ds)) (map defined_match (remaining table c))

module _ (table : List ℕ) (c : Cursor) (r : Record) (next : remaining table c ≡ definition_at table r ∷ remaining table (Some r)) where
  sound-both : EverySound (remaining table c) → SoundDefinition (definition_at table r) × EverySound (remaining table (Some r))
  unfolding EverySound
  sound-both all = subst EverySound next all

  pub next-usable : EverySound (remaining table c) → Lies table r → Short r → Usable table r
  next-usable all l short = let n = length-name l in let m = sound-name-some (definition_at table r).name (sound-both all).0.name in record { lies = l; short = short; some-name = omega arith }

  pub left-more :
      {ds : List Definition} {extra : ℕ} {w₀ w w' : List ℕ} {p₀ p p' : Progress} → DefinitionsLeft table c ds extra w₀ w p₀ p
      → StagedWithin w w' p p' extra (sized_definition extra (definition_at table r)) × Untouched w w' p p' (defined_match (definition_at table r) ∷ [])
      → DefinitionsLeft table (Some r) ds extra w₀ w' p₀ p'
  unfolding sized_definitions
  left-more {extra = extra} left a =
      record {
        sound = (sound-both left.sound).1;
        stages = remaining-step left.stages (sized_definitions extra (remaining table (Some r))) a.0 (λ s. ap (λ l. sized_definitions extra l s) next);
        entries = entries-more (defined_match (definition_at table r) ∷ []) _ left.entries (ap (map defined_match) next) a.1;
      }

pub left-done : (table : List ℕ) (c : Cursor) (extra : ℕ) → remaining table c ≡ [] → (s : List ℕ) → sized_definitions extra (remaining table c) s ≡ passed s
unfolding sized_definitions
left-done table c extra e s = ap (λ l. sized_definitions extra l s) e

pub left-none :
    (table : List ℕ) (ds : List Definition) (extra : ℕ) {w : List ℕ} {p : Progress} → definitions table ≡ some ds → Ready w p → FitsWithBlocks extra p
    → DefinitionsLeft table None ds extra w w p p
left-none table ds extra {w} {p} e ready within =
    let all = sym (remaining-start table ds e) in
    record {
      sound = subst EverySound all (order-sound table ds e);
      stages = subst (λ l. Remaining w w p p extra (sized_definitions extra (in_order ds)) (sized_definitions extra l)) all (remaining-none (sized_definitions extra (in_order ds)) ready within);
      entries = subst (λ l. EntriesLeft w w p p (map defined_match (in_order ds)) (map defined_match l)) all entries_none;
    }

pub left-untouched : {table : List ℕ} {c : Cursor} {ds : List Definition} {extra : ℕ} {w₀ w : List ℕ} {p₀ p : Progress} → DefinitionsLeft table c ds extra w₀ w p₀ p → Untouched w₀ w p₀ p (map defined_match ds)
left-untouched {ds = ds} left = untouched-alike (λ s none. unmatched-rearranged (rearranged-in-order ds) s none) (entries-all left.entries)

-- ---- what is held
module _ (extra : ℕ) where
  pub definitions-held :
      (ds : List Definition) → EverySound ds → (h : Held) → Extra h extra → WellMade h
      → apply_definitions ds h ≡ (sized_definitions extra ds h.text then (λ t. passed (with_text h t)))
  unfolding apply_definitions sized_definitions sized_definition EverySound apply_definition
  definitions-held [] sound h e made = refl
  definitions-held (d ∷ ds) sound h e made =
      let next = sweep-made (defined-between sound.0) made in
      go (eqb (length d.name) 1) (definitions-held ds sound.1 h e made)
      (ap (λ q. q then apply_definitions ds) (held-sized extra (apply_definition d) h e next)
      ∙ by (ltb most_symbols (length (apply_definition d h.text) + extra)) (definitions-held ds sound.1 (with_text h (apply_definition d h.text)) e next))
    where
      by : (t : Bool)
          → apply_definitions ds (with_text h (apply_definition d h.text)) ≡ (sized_definitions extra ds (apply_definition d h.text) then (λ t. passed (with_text h t)))
          → (cond {A = Result (List ℕ)} t (refused 5) (passed (apply_definition d h.text)) then (λ t. passed (with_text h t)) then apply_definitions ds)
          ≡ (cond {A = Result (List ℕ)} t (refused 5) (passed (apply_definition d h.text)) then sized_definitions extra ds then (λ t. passed (with_text h t)))
      by true later = refl
      by false later = later

      go : (t : Bool) → apply_definitions ds h ≡ (sized_definitions extra ds h.text then (λ t. passed (with_text h t)))
          → (held_stage (apply_definition d) h then apply_definitions ds) ≡ (sized extra (apply_definition d) h.text then sized_definitions extra ds then (λ t. passed (with_text h t)))
          → elim t as (λ _. Result Held) [ true ↦ apply_definitions ds h | false ↦ held_stage (apply_definition d) h then apply_definitions ds ]
          ≡ (cond t (passed h.text) (sized extra (apply_definition d) h.text) then sized_definitions extra ds then (λ t. passed (with_text h t)))
      go true skip apply = skip
      go false skip apply = apply

  pub definitions-kept :
      (ds : List Definition) → EverySound ds → (h : Held) → Extra h extra → WellMade h → (t : List ℕ) → sized_definitions extra ds h.text ≡ passed t
      → WellMade (with_text h t)
  definitions-kept ds sound h e made t same =
      definitions-made ds sound made (definitions-held ds sound h e made ∙ ap (λ q. q then (λ t. passed (with_text h t))) same)

pub outside-by-held : (ds : List Definition) (s : List ℕ) → apply_definitions_outside_text ds s ≡ (apply_definitions (in_order ds) (hold_texts s) then put_back)
unfolding apply_definitions_outside_text
outside-by-held ds s = refl
