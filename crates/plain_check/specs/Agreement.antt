-- The definition of the check and the grammar agree. Assumes nothing.
--     reads-back, one-count     the reader gives back what a proper sum has, so sums with one text have one atom count
--     count-iff, none-iff       it counts the atoms of just the plain texts
--     checked, counts-..        so an equation is all that the code has to show, on each way that it takes
use Rattle.std.specs.Prelude.{◌≡◌, refl, Bool, true, false, cond, ◌↔◌, List, [], ◌++◌, ℕ, ◌≤◌, ◌<◌, eqb, ltb, length}
use Rattle.std.proofs.Common.{sym, ap, ◌∙◌, subst, append-nil, arith}
use Rattle.std.proofs.Math.Option.{Option, none, some}
use Rattle.std.proofs.Math.Seq.{drop-length}
use borrow.Author.Tests.{eqb-true, eq-eqb, ne_eqb, lt-ltb, le-ltb, ltb-false}
use Rattle.spec.specs.Pipeline.{most_formula}
use Rattle.spec.specs.Grammar.{Sum, Plain, proper, text, atoms}
use Rattle.plain_parts.specs.declared.PlainPart.{PlainPart}
use Rattle.plain_parts.specs.Parts.{Read}
use Rattle.std.specs.Prelude.{Option as Maybe, Some, None}
use Rattle.plain_check.specs.Readers.{Answers, read_sum}
use Rattle.plain_check.specs.Trees.{sum_part}
use Rattle.plain_check.specs.Complete.{complete-sum, ends-text}
use Rattle.plain_check.specs.Sound.{WhenFound, OfSum, sound-sum}
use Rattle.plain_check.specs.Check.{answer_count, PlainOf, fuel, wholly, plain_count, Checked}

-- ---- the reader gives back what a proper sum has
pub reads-back : (t : Sum) → proper t ≡ true → read_sum (fuel (text t)) (text t) ≡ Some (sum_part t)
reads-back t h = let read = rw append-nil at (complete-sum t h [] ends-text).exact in sym (read (fuel (text t)) (omega arith))

pub one-count : (s t : Sum) → proper s ≡ true → proper t ≡ true → text s ≡ text t → atoms s ≡ atoms t
one-count s t g h e =
    let same : Some (sum_part s) ≡ Some (sum_part t) = sym (reads-back s g) ∙ ap (λ x. read_sum (fuel x) x) e ∙ reads-back t h in
    ap (λ r. elim r [ None ↦ 0 | Some p ↦ p.atoms ]) same

-- ---- the definition counts the atoms of just the plain texts
complete : (s : List ℕ) (n : ℕ) → PlainOf s n → plain_count s ≡ some n
unfolding plain_count
complete s n h =
    let t = h.plain.sum in
    subst (λ (x : List ℕ). plain_count x ≡ some n) h.plain.reads
    (rw (
      le-ltb most_formula (length (text t)) (rw h.plain.reads h.plain.short),
      reads-back t h.plain.is-proper,
      eq-eqb (length (text t)) (length (text t)) refl,
      h.count,
    ))

none≢some : {n : ℕ} → ◌≡◌ {A = Option ℕ} none (some n) → ⊥
none≢some e = let z : ◌≡◌ {A = ℕ} 0 1 = cc in omega arith

sound : (s : List ℕ) (n : ℕ) → plain_count s ≡ some n → PlainOf s n
unfolding plain_count
sound s n = short (ltb most_formula (length s)) refl
  where
    whole : (p : PlainPart) (b : Bool) → eqb p.used (length s) ≡ b → OfSum s p → length s ≤ most_formula → cond b (some p.atoms) none ≡ some n → PlainOf s n
    whole p false e a l y = absurd (none≢some y)
    whole p true e a l y =
        let all = eqb-true p.used (length s) e in
        let reads = sym (append-nil (text a.tree)) ∙ ap (λ (x : List ℕ). text a.tree ++ x) (sym (rw all (drop-length s))) ∙ a.split in
        record {
          plain = record { sum = a.tree; is-proper = a.is-fine; reads = reads; short = l };
          count = ap (λ (q : PlainPart). q.atoms) a.counted ∙ cc;
        }

    found : (r : Read) → WhenFound (OfSum s) r → length s ≤ most_formula → wholly s r ≡ some n → PlainOf s n
    found None a l y = absurd (none≢some y)
    found (Some p) a l y = whole p (eqb p.used (length s)) refl a l y

    short : (b : Bool) → ltb most_formula (length s) ≡ b → cond b none (wholly s (read_sum (fuel s) s)) ≡ some n → PlainOf s n
    short true e y = absurd (none≢some y)
    short false e y = found (read_sum (fuel s) s) (sound-sum (fuel s) s) (ltb-false most_formula (length s) e) y

pub count-iff : (s : List ℕ) (n : ℕ) → (plain_count s ≡ some n) ↔ PlainOf s n
count-iff s n = (sound s n, complete s n)

pub none-iff : (s : List ℕ) → (plain_count s ≡ none) ↔ (Plain s → ⊥)
none-iff s = (λ e p. none≢some (sym e ∙ complete s (atoms p.sum) (record { plain = p; count = refl })), missing (plain_count s) refl)
  where
    missing : (o : Option ℕ) → plain_count s ≡ o → (Plain s → ⊥) → plain_count s ≡ none
    missing none e h = e
    missing (some n) e h = absurd (h (sound s n e).plain)

-- ---- so an equation is all that the code has to show, on each way that it takes
pub checked : {s : List ℕ} {r : Maybe ℕ} → answer_count r ≡ plain_count s → Checked s r
checked {s} {r} e = record { computed = e; yes = λ n. rw e (count-iff s n); no = rw e (none-iff s) }

pub counts-long : (s : List ℕ) → most_formula < length s → none ≡ plain_count s
unfolding plain_count
counts-long s h = rw (lt-ltb most_formula (length s) h)

pub counts-nothing : {s : List ℕ} → Answers read_sum 4 s None → length s ≤ most_formula → none ≡ plain_count s
unfolding plain_count
counts-nothing {s} a h = rw (le-ltb most_formula (length s) h, ← a.exact (fuel s) (omega arith))

module _ {s : List ℕ} {p : PlainPart} (a : Answers read_sum 4 s (Some p)) (h : length s ≤ most_formula) where
  pub counts_whole : p.used ≡ length s → some p.atoms ≡ plain_count s
  unfolding plain_count
  counts_whole e = rw (le-ltb most_formula (length s) h, ← a.exact (fuel s) (omega arith), eq-eqb p.used (length s) e)

  pub counts-part : (p.used ≡ length s → ⊥) → none ≡ plain_count s
  unfolding plain_count
  counts-part e = rw (le-ltb most_formula (length s) h, ← a.exact (fuel s) (omega arith), ne_eqb p.used (length s) e)
