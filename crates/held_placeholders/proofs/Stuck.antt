-- Words: once the first `\text{` of the text doesn't close, or there is none, that stays so while `\mathrm` blocks are held out. A `\mathrm` block is
-- balanced, so what stands before it closes as if it weren't there, and a `\text{` within it closes within it. Assumes nothing.
--     stuck         no first `\text{` that closes
--     stuck-over    a `\mathrm` block gives way to a placeholder
use Rattle.std.specs.Prelude.{◌≡◌, refl, Bool, true, false, ◌&&◌, List, [], ◌∷◌, ◌++◌, ℕ, zero, suc, ◌+◌, length, drop}
use Rattle.std.proofs.Common.{sym, ap₂, ◌∙◌, add-zero, add-suc, arith}
use Rattle.std.proofs.Math.Path.{ap}
use Rattle.std.proofs.lemmas.Bool.{false≢true}
use Rattle.std.proofs.Math.Option.{Option, none, some, none-ne-some, some-ne-none}
use Prim.Native.Char.{code}
use Rattle.std.proofs.Math.Dec.{eqb}
use Rattle.std.proofs.lemmas.List.{drop-append-le}
use Rattle.spec.specs.Symbols.{bytes, starts, find, text_mark}
use Rattle.spec.specs.Laws.Symbols.{find-here, find_past, starts-long, starts-split, starts-unequal}
use Rattle.spec.specs.Closing.{Side, opens, closes, neither, side, close, find_matching_brace}
use Rattle.held_laws.specs.Marks.{backslash}
use Rattle.held_placeholders.specs.Numbered.{placeholder}
use Rattle.held_placeholders.specs.Remains.{narrow-placeholder}
use Rattle.held_laws.specs.TakeOut.{the_text}
use Rattle.held_placeholders.specs.Placeholders.{Block, closed_block, found_at, first_block}
use Rattle.held_placeholders.specs.Finding.{Lacks, starts-stop, passed-find, narrow-passed}
use Rattle.held_placeholders.specs.Numbers.{close_brace, step, placeholder-close}

abbrev is_none : Option (List ℕ) → Bool
is_none none = true
is_none (some s) = false

-- the name without its backslash
abbrev tail : List ℕ
tail = bytes "text{"

abbrev text_name : List ℕ
text_name = bytes "\\text{"

abbrev open_at : Option (List ℕ) → Bool
open_at none = true
open_at (some at) = is_none (find_matching_brace (drop (length text_name) at))

unfoldable pub stuck : List ℕ → Bool
stuck s = open_at (find text_name s)

is-none : (o : Option (List ℕ)) → is_none o ≡ true → o ≡ none
is-none none e = refl
is-none (some s) e = absurd (false≢true e)

-- ---- as the turns see it
abbrev no_block : Option Block → Bool
no_block none = true
no_block (some b) = false

pub stuck-none : (s : List ℕ) → stuck s ≡ true → first_block text_name s ≡ none
unfolding stuck
stuck-none s e = go (find text_name s) e
  where
    go : (o : Option (List ℕ)) → open_at o ≡ true → found_at text_name s o ≡ none
    go none e = refl
    go (some at) e = ap (closed_block s at) (is-none (find_matching_brace (drop (length text_name) at)) e)

pub none_stuck : (s : List ℕ) → first_block text_name s ≡ none → stuck s ≡ true
unfolding stuck
none_stuck s e = go (find text_name s) e
  where
    go : (o : Option (List ℕ)) → found_at text_name s o ≡ none → open_at o ≡ true
    go none e = refl
    go (some at) e = look (find_matching_brace (drop (length text_name) at)) e
      where
        look : (c : Option (List ℕ)) → closed_block s at c ≡ none → is_none c ≡ true
        look none e = refl
        look (some behind) e = absurd (false≢true (ap no_block e))

-- ---- one symbol
stuck-here : (y : ℕ) (s : List ℕ) → starts text_name (y ∷ s) ≡ true → stuck (y ∷ s) ≡ is_none (find_matching_brace (drop (length text_name) (y ∷ s)))
unfolding stuck
stuck-here y s e = ap open_at (find-here text_name (y ∷ s) (omega arith) e)

stuck-past : (y : ℕ) (s : List ℕ) → starts text_name (y ∷ s) ≡ false → stuck (y ∷ s) ≡ stuck s
unfolding stuck
stuck-past y s e = ap open_at (find_past text_name y s e)

stuck-other : (y : ℕ) (s : List ℕ) → eqb y backslash ≡ false → stuck (y ∷ s) ≡ stuck s
stuck-other y s e = stuck-past y s (starts-unequal backslash y tail s e)

-- ---- closing searches
-- more open brackets close later, if at all
close-deeper : (s : List ℕ) (d : ℕ) → close_brace d s ≡ none → close_brace (suc d) s ≡ none
unfolding close
close-deeper [] d e = refl
close-deeper (y ∷ s) d e = go (side (code "{") (code "}") y) d e (close-deeper s)
  where
    go : (z : Side) (d : ℕ) → step z d s ≡ none → ((d : ℕ) → close_brace d s ≡ none → close_brace (suc d) s ≡ none) → step z (suc d) s ≡ none
    go opens d e more = more (suc d) e
    go closes zero e more = absurd (some-ne-none _ e)
    go closes (suc d) e more = more d e
    go neither d e more = more d e

close_never : (s : List ℕ) (d : ℕ) → close_brace 0 s ≡ none → close_brace d s ≡ none
close_never s zero e = e
close_never s (suc d) e = close-deeper s d (close_never s d e)

-- e + 1 brackets close at z: with d + 1 more open, the search goes on from there
close-through : (s : List ℕ) (d e : ℕ) (z : List ℕ) → close_brace e s ≡ some z → close_brace (suc (d + e)) s ≡ close_brace d z
unfolding close
close-through [] d e z c = absurd (none-ne-some _ c)
close-through (y ∷ s) d e z c = go (side (code "{") (code "}") y) e c (close-through s d)
  where
    go : (k : Side) (e : ℕ) → step k e s ≡ some z → ((e : ℕ) (z : List ℕ) → close_brace e s ≡ some z → close_brace (suc (d + e)) s ≡ close_brace d z) → step k (suc (d + e)) s ≡ close_brace d z
    go opens e c more = ap (λ n. close_brace (suc n) s) (sym (add-suc d e)) ∙ more (suc e) z c
    go closes zero c more = ap₂ close_brace (add-zero d) (ap the_text c)
    go closes (suc e) c more = ap (λ n. close_brace n s) (add-suc d e) ∙ more e z c
    go neither e c more = more e z c

-- of two texts that close alike, behind the same text
close-alike : (u a b : List ℕ) (d : ℕ) → ((d : ℕ) → is_none (close_brace d a) ≡ is_none (close_brace d b)) → is_none (close_brace d (u ++ a)) ≡ is_none (close_brace d (u ++ b))
unfolding close
close-alike [] a b d alike = alike d
close-alike (y ∷ u) a b d alike = go (side (code "{") (code "}") y) d (λ d. close-alike u a b d alike)
  where
    go : (z : Side) (d : ℕ) → ((d : ℕ) → is_none (close_brace d (u ++ a)) ≡ is_none (close_brace d (u ++ b))) → is_none (step z d (u ++ a)) ≡ is_none (step z d (u ++ b))
    go opens d more = more (suc d)
    go closes zero more = refl
    go closes (suc d) more = more d
    go neither d more = more d

-- ---- within a block
-- the name opens one bracket
text-opens : (v : List ℕ) (d : ℕ) → close_brace d (text_name ++ v) ≡ close_brace (suc d) v
unfolding close
text-opens v d = refl

roman-opens : (v : List ℕ) (d : ℕ) → close_brace d (bytes "\\mathrm{" ++ v) ≡ close_brace (suc d) v
unfolding close
roman-opens v d = refl

-- what is open closes at z, so no `\text{` before z stays open
stuck-inside : (s : List ℕ) (d : ℕ) (z : List ℕ) → close_brace d s ≡ some z → stuck s ≡ true → stuck z ≡ true
unfolding close
stuck-inside [] d z c e = absurd (none-ne-some _ c)
stuck-inside (y ∷ s) d z c e = go (starts text_name (y ∷ s)) refl (stuck-inside s)
  where
    within : starts text_name (y ∷ s) ≡ true → close_brace (suc d) (drop (length text_name) (y ∷ s)) ≡ some z
    within met = sym (text-opens (drop (length text_name) (y ∷ s)) d) ∙ ap (close_brace d) (sym (starts-split text_name (y ∷ s) met)) ∙ c

    go : (t : Bool) → starts text_name (y ∷ s) ≡ t → ((d : ℕ) (z : List ℕ) → close_brace d s ≡ some z → stuck s ≡ true → stuck z ≡ true) → stuck z ≡ true
    go true met more =
        let never = close_never (drop (length text_name) (y ∷ s)) (suc d) (is-none _ (sym (stuck-here y s met) ∙ e)) in
        absurd (none-ne-some _ (sym never ∙ within met))
    go false other more = look (side (code "{") (code "}") y) d c
      where
        on : stuck s ≡ true
        on = sym (stuck-past y s other) ∙ e

        look : (k : Side) (d : ℕ) → step k d s ≡ some z → stuck z ≡ true
        look opens d c = more (suc d) z c on
        look closes zero c = ap stuck (sym (ap the_text c)) ∙ on
        look closes (suc d) c = more d z c on
        look neither d c = more d z c on

-- no `\text{` begins in `\mathrm{`
stuck-roman : (v : List ℕ) → stuck (bytes "\\mathrm{" ++ v) ≡ stuck v
stuck-roman v =
    stuck-past backslash (bytes "mathrm{" ++ v) refl
    ∙ stuck-other (code "m") (bytes "athrm{" ++ v) refl
    ∙ stuck-other (code "a") (bytes "thrm{" ++ v) refl
    ∙ stuck-other (code "t") (bytes "hrm{" ++ v) refl
    ∙ stuck-other (code "h") (bytes "rm{" ++ v) refl
    ∙ stuck-other (code "r") (bytes "m{" ++ v) refl
    ∙ stuck-other (code "m") (bytes "{" ++ v) refl
    ∙ stuck-other (code "{") v refl

stuck-placeholder : (k : ℕ) (s : List ℕ) → stuck (placeholder k ++ s) ≡ stuck s
unfolding stuck
stuck-placeholder k s = ap open_at (passed-find text_name (placeholder k) s (narrow-passed tail (placeholder k) s (narrow-placeholder k)))

-- ---- a block gives way to a placeholder
lacks-backslash : Lacks backslash tail
unfolding Lacks
lacks-backslash = (refl, (refl, (refl, (refl, (refl, tt)))))

lacks-mark : Lacks text_mark tail
unfolding Lacks
lacks-mark = (refl, (refl, (refl, (refl, (refl, tt)))))

module _ (k : ℕ) (v z : List ℕ) (block : close_brace 0 v ≡ some z) where
  abbrev old : List ℕ
  old = bytes "\\mathrm{" ++ v

  abbrev new : List ℕ
  new = placeholder k ++ z

  alike : (d : ℕ) → is_none (close_brace d old) ≡ is_none (close_brace d new)
  alike d = ap is_none (roman-opens v d ∙ ap (λ n. close_brace (suc n) v) (sym (add-zero d)) ∙ close-through v d 0 z block ∙ sym (placeholder-close k z d))

  -- an occurrence before them ends before them
  starts-alike : (y : ℕ) (x : List ℕ) → (starts text_name ((y ∷ x) ++ old) ≡ starts text_name (y ∷ x)) × (starts text_name ((y ∷ x) ++ new) ≡ starts text_name (y ∷ x))
  unfolding placeholder
  starts-alike y x = (
    ap (λ t. t && eqb y backslash) (starts-stop backslash tail x (bytes "mathrm{" ++ v) lacks-backslash),
    ap (λ t. t && eqb y backslash) (starts-stop text_mark tail x _ lacks-mark),
  )

  pub stuck-over : (x : List ℕ) → stuck (x ++ old) ≡ true → stuck (x ++ new) ≡ true
  stuck-over [] e = stuck-placeholder k z ∙ stuck-inside v 0 z block (sym (stuck-roman v) ∙ e)
  stuck-over (y ∷ x) e = go (starts text_name (y ∷ x)) refl (stuck-over x)
    where
      both : (starts text_name ((y ∷ x) ++ old) ≡ starts text_name (y ∷ x)) × (starts text_name ((y ∷ x) ++ new) ≡ starts text_name (y ∷ x))
      both = starts-alike y x

      go : (t : Bool) → starts text_name (y ∷ x) ≡ t → (stuck (x ++ old) ≡ true → stuck (x ++ new) ≡ true) → stuck ((y ∷ x) ++ new) ≡ true
      go true met more =
          let long = starts-long text_name (y ∷ x) met in
          stuck-here y (x ++ new) (both.1 ∙ met)
          ∙ ap (λ l. is_none (find_matching_brace l)) (drop-append-le (length text_name) (y ∷ x) new long)
          ∙ sym (close-alike (drop (length text_name) (y ∷ x)) old new 0 alike)
          ∙ ap (λ l. is_none (find_matching_brace l)) (sym (drop-append-le (length text_name) (y ∷ x) old long))
          ∙ sym (stuck-here y (x ++ old) (both.0 ∙ met))
          ∙ e
      go false other more =
          stuck-past y (x ++ new) (both.1 ∙ other) ∙ more (sym (stuck-past y (x ++ old) (both.0 ∙ other)) ∙ e)
