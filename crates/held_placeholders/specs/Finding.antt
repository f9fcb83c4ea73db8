-- Finding a name in a text in which blocks have given way to placeholders. Assumes nothing.
--     Lacks          no symbol of a text is c
--     starts-stop    a symbol that the pattern lacks ends every occurrence before it
--     AbsentBefore   no occurrence begins in x, with s behind it
use Rattle.std.specs.Prelude.{◌≡◌, refl, Bool, true, false, ◌&&◌, List, [], ◌∷◌, ◌++◌, ℕ, eqb}
use Rattle.std.proofs.Common.{sym, ap, ◌∙◌, append_assoc, arith, ne_eqb}
use Rattle.std.proofs.lemmas.Bool.{false≢true}
use Rattle.spec.specs.Symbols.{starts, find, text_mark}
use Rattle.spec.specs.Laws.Symbols.{find_past, starts-unequal, starts-long}
use Rattle.spec.specs.Laws.Ends.{starts-front}
use Rattle.held_laws.specs.Marks.{backslash}
use Rattle.held_placeholders.specs.Numbered.{placeholder}
use Rattle.held_placeholders.specs.Remains.{Narrow, narrow-placeholder}

unfoldable pub Lacks : ℕ → List ℕ → Type 0
Lacks c [] = Unit {0}
Lacks c (x ∷ s) = (eqb c x ≡ false) × Lacks c s

pub starts-stop : (c : ℕ) (p x z : List ℕ) → Lacks c p → starts p (x ++ (c ∷ z)) ≡ starts p x
unfolding Lacks
starts-stop c [] x z h = refl
starts-stop c (q ∷ p) [] z h = starts-unequal q c p z h.0
starts-stop c (q ∷ p) (b ∷ x) z h = ap (λ t. t && eqb b q) (starts-stop c p x z h.1)

-- every place of x is passed
unfoldable pub AbsentBefore : List ℕ → List ℕ → List ℕ → Type 0
AbsentBefore name [] s = Unit {0}
AbsentBefore name (c ∷ x) s = (starts name (c ∷ (x ++ s)) ≡ false) × AbsentBefore name x s

pub passed-find : (name x s : List ℕ) → AbsentBefore name x s → find name (x ++ s) ≡ find name s
unfolding AbsentBefore
passed-find name [] s h = refl
passed-find name (c ∷ x) s h = find_past name c (x ++ s) h.0 ∙ passed-find name x s h.1

pub absent-before-more : (name x : List ℕ) (b : ℕ) (s : List ℕ) → AbsentBefore name x (b ∷ s) → starts name (b ∷ s) ≡ false → AbsentBefore name (x ++ (b ∷ [])) s
unfolding AbsentBefore
absent-before-more name [] b s h e = (e, tt)
absent-before-more name (c ∷ x) b s h e = (ap (λ l. starts name (c ∷ l)) (append_assoc x (b ∷ []) s) ∙ h.0, absent-before-more name x b s h.1 e)

pub passed-append : (name x y s : List ℕ) → AbsentBefore name x (y ++ s) → AbsentBefore name y s → AbsentBefore name (x ++ y) s
unfolding AbsentBefore
passed-append name [] y s h g = g
passed-append name (c ∷ x) y s h g = (ap (λ l. starts name (c ∷ l)) (append_assoc x y s) ∙ h.0, passed-append name x y s h.1 g)

-- what has been passed stays so when a mark follows
pub passed-mark : (name x s z : List ℕ) → Lacks text_mark name → AbsentBefore name x s → AbsentBefore name x (text_mark ∷ z)
unfolding AbsentBefore
passed-mark name [] s z lacks h = tt
passed-mark name (c ∷ x) s z lacks h = (look (starts name (c ∷ x)) refl, passed-mark name x s z lacks h.1)
  where
    look : (t : Bool) → starts name (c ∷ x) ≡ t → starts name (c ∷ (x ++ (text_mark ∷ z))) ≡ false
    look true e = absurd (false≢true (sym h.0 ∙ starts-front name (c ∷ x) s (starts-long name (c ∷ x) e) ∙ e))
    look false e = starts-stop text_mark name (c ∷ x) z lacks ∙ e

-- no name with a backslash in front begins in a placeholder
pub narrow-passed : (name x s : List ℕ) → Narrow x → AbsentBefore (backslash ∷ name) x s
unfolding AbsentBefore Narrow
narrow-passed name [] s h = tt
narrow-passed name (b ∷ x) s h =
    (starts-unequal backslash b name (x ++ s) (ne_eqb b backslash (λ e. let low = h.0 in omega arith)), narrow-passed name x s h.1)

pub passed-placeholder : (name x s z : List ℕ) (k : ℕ) → Lacks text_mark (backslash ∷ name) → AbsentBefore (backslash ∷ name) x s → AbsentBefore (backslash ∷ name) (x ++ placeholder k) z
unfolding placeholder
passed-placeholder name x s z k lacks h =
    passed-append (backslash ∷ name) x (placeholder k) z (passed-mark (backslash ∷ name) x s _ lacks h) (narrow-passed name (placeholder k) z (narrow-placeholder k))
