-- A test that the symbols of a text pass, and those that the call rewritings write, is passed by those of the rewritten text. Assumes nothing.
--     unmarked, unquoted    a symbol that is no mark of a held block, and one that is no quote
--     call_symbols           the symbols that the stages from the solidus to the second `upright` write are among these
--     calls-each            the calls of any name, where what is written for them passes
--     op-each, ..           each stage
use Rattle.std.specs.Prelude.{◌≡◌, refl, Bool, not, cond, ◌||◌, eqb, length, drop}
use Rattle.std.proofs.Math.Bool.{true, false}
use mathlib.Core.List.{List, [], ◌∷◌, ◌++◌, map}
use Rattle.std.proofs.Math.Option.{Option, none, some, get_or}
use Prim.Native.Nat.{ℕ, zero, suc, pred, ◌-◌}
use Rattle.spec.specs.Symbols.{bytes, is, ◌and_then◌, blank, all, drop_while_end, solidus, text_mark, roman_mark, empty, trim, trim_quotes, starts, find, inside}
use Rattle.spec.specs.Sweep.{Turn, taken, kept}
use Rattle.spec.specs.Closing.{find_matching_paren, find_comma_in_args, find_unescaped_comma, unescaped_behind, split_top_level_commas, over_quotes, cut_alike}
use Rattle.spec.specs.Calls.{call_at, call_length, rewritten, calling, convert_calls, convert_op, nonblank, joined, latex_cases, spliced, cases_once, convert_cases, bottom, subscript, latex_underset, latex_attach, attach_once, attach_times, convert_attach, convert_bb, convert_bold, binom, convert_binom, convert_upright, convert_floor, convert_ceil, convert_abs, convert_cal, convert_frak, convert_upright_again}
use Rattle.stage_laws.specs.Each.{Each, done, more, EachIf, nowhere, there, EachPart, none_left, part, within, each_of, each_within, each-then, each-get, each_append, each_take, each-drop, each-drop-while, each-drop-while-end, each-find, each-sweep, each-replace}

abbrev pub unmarked : ℕ → Bool
unmarked x = not (eqb x text_mark || eqb x roman_mark)

abbrev pub unquoted : ℕ → Bool
unquoted x = not (is "\"" x)

abbrev pub call_symbols : List ℕ
call_symbols = solidus ∷ bytes "abcdefghijklmnopqrstuvwxyz\\{} ;"

pub writes-unmarked : all unmarked call_symbols ≡ true
writes-unmarked = refl

pub writes-unquoted : all unquoted call_symbols ≡ true
writes-unquoted = refl

module _ {p : ℕ → Bool} where
  trim-each : {s : List ℕ} → Each p s → Each p (trim s)
  trim-each a = each-drop-while-end blank (each-drop-while blank a)

  trim-quotes-each : {s : List ℕ} → Each p s → Each p (trim_quotes s)
  trim-quotes-each a = each-drop-while-end (is "\"") (each-drop-while (is "\"") a)

  pub inside-each : {s : List ℕ} (r : List ℕ) → Each p s → Each p (inside s r)
  inside-each {s} r a = each_take (pred (length s - length r)) a

  -- ---- calls
  call-each : (name : List ℕ) {s : List ℕ} → Each p s → EachIf p (call_at over_quotes name s)
  unfolding call_at
  call-each name {s} a = go (starts name s) (find_matching_paren (over_quotes (drop (length name) s)))
    where
      go : (b : Bool) (o : Option (List ℕ)) → EachIf p (elim b as (λ b. Option (List ℕ)) [ true ↦ o and_then λ behind. some (inside (drop (length name) s) behind) | false ↦ none ])
      go true none = nowhere
      go true (some behind) = there (inside-each behind (each-drop (length name) a))
      go false o = nowhere

  calls-each : (name : List ℕ) (write : List ℕ → List ℕ) → ((inner : List ℕ) → Each p inner → Each p (write inner)) → {s : List ℕ} → Each p s → Each p (convert_calls name write s)
  unfolding convert_calls
  calls-each name write w a = each-sweep {rule = calling over_quotes name write} (record { writes = λ before s b. go s b (call_at over_quotes name s) (call-each name b) }) 0 0 a
    where
      go : (s : List ℕ) → Each p s → (o : Option (List ℕ)) → EachIf p o → Each p (rewritten name write s o).fresh
      go s b none i = each_take 1 b
      go s b (some inner) (there i) = w inner i

  -- what stands between two constant texts
  pub around : (left right : List ℕ) {s : List ℕ} → Each p left → Each p right → Each p s → Each p (left ++ s ++ right)
  around left right a b c = each_append (each_append a c) b

module _ {p : ℕ → Bool} (writes : all p call_symbols ≡ true) where
  -- a constant text, by a test that computes
  pub written : (s : List ℕ) → within call_symbols s ≡ true → Each p s
  written = each_within (each_of call_symbols writes)

  -- ---- cases
  parts-alike : (parts : List (List ℕ)) {s : List ℕ} → Each p s → EachPart p (cut_alike parts s)
  parts-alike [] a = none_left
  parts-alike (t ∷ ts) a = part (each_take (length t) a) (parts-alike ts (each-drop (suc (length t)) a))

  parts-trim : {ss : List (List ℕ)} → EachPart p ss → EachPart p (map trim ss)
  parts-trim none_left = none_left
  parts-trim (part a b) = part (trim-each a) (parts-trim b)

  parts-nonblank : {ss : List (List ℕ)} → EachPart p ss → EachPart p (nonblank ss)
  parts-nonblank none_left = none_left
  parts-nonblank (part {s} {ss} a b) = go (empty s) (parts-nonblank b)
    where
      go : (t : Bool) → EachPart p (nonblank ss) → EachPart p (elim t as (λ t. List (List ℕ)) [ true ↦ nonblank ss | false ↦ s ∷ nonblank ss ])
      go true later = later
      go false later = part a later

  parts-joined : {between : List ℕ} {ss : List (List ℕ)} → Each p between → EachPart p ss → Each p (joined between ss)
  parts-joined c none_left = done
  parts-joined c (part a none_left) = a
  parts-joined c (part a (part b d)) = each_append (each_append a c) (parts-joined c (part b d))

  latex-cases-each : {inner : List ℕ} → Each p inner → Each p (latex_cases inner)
  unfolding latex_cases
  latex-cases-each {inner} a =
      around (bytes "\\begin{cases} ") (bytes " \\end{cases}") (written _ refl) (written _ refl)
      (parts-joined (written (bytes " \\\\ ") refl) (parts-nonblank (parts-trim (parts-alike (split_top_level_commas (over_quotes inner)) a))))

  spliced-each : {s at fresh : List ℕ} (name inner : List ℕ) → Each p s → Each p at → Each p fresh → Each p (spliced s at name inner fresh)
  spliced-each {s} {at} name inner a b c = each_append (each_append (each_take (length s - length at) a) c) (each-drop (call_length name inner) b)

  pub cases-each : {s : List ℕ} → Each p s → Each p (convert_cases s)
  unfolding convert_cases cases_once
  cases-each {s} a =
      each-get
      (each-then _ (each-find (bytes "cases(") a) (λ at b.
      each-then _ (call-each (bytes "cases(") b) (λ inner c.
      there (spliced-each (bytes "cases(") inner a b (latex-cases-each c)))))
      a

  -- ---- attach
  unescaped-each : {s : List ℕ} (before : ℕ) → Each p s → EachIf p (unescaped_behind before s)
  unfolding unescaped_behind
  unescaped-each before done = nowhere
  unescaped-each before (more {x} {s} e a) = go (is "," x) (is "\\" before) (unescaped-each x a)
    where
      go : (b c : Bool) → EachIf p (unescaped_behind x s)
          → EachIf p (elim b as (λ b. Option (List ℕ)) [
            | true ↦ elim c as (λ c. Option (List ℕ)) [ true ↦ unescaped_behind x s | false ↦ some s ]
            | false ↦ unescaped_behind x s
          ])
      go true true later = later
      go true false later = there a
      go false c later = later

  bottom-each : {after : List ℕ} → Each p after → Each p (bottom after)
  bottom-each {after} a = go (find_unescaped_comma after)
    where
      go : (o : Option (List ℕ)) → Each p (elim o as (λ o. List ℕ) [ some behind ↦ trim (inside after behind) | none ↦ drop_while_end (is ")") after ])
      go none = each-drop-while-end (is ")") a
      go (some behind) = trim-each (inside-each behind a)

  subscript-each : {rest : List ℕ} → Each p rest → Each p (subscript rest)
  subscript-each {rest} a = go (find (bytes "b:") rest) (each-find (bytes "b:") a)
    where
      go : (o : Option (List ℕ)) → EachIf p o → Each p (elim o as (λ o. List ℕ) [ some at ↦ bottom (trim (drop 2 at)) | none ↦ [] ])
      go none i = done
      go (some at) (there b) = bottom-each (trim-each (each-drop 2 b))

  underset-each : {below base : List ℕ} → Each p below → Each p base → Each p (latex_underset below base)
  underset-each a b =
      each_append
      (each_append
      (each_append (each_append (written (bytes "\\underset{") refl) (each-replace (bytes "\\,") (written (bytes "\\;") refl) a)) (written (bytes "}{") refl))
      b)
      (written (bytes "}") refl)

  latex-attach-each : {inner : List ℕ} → Each p inner → EachIf p (latex_attach inner)
  unfolding latex_attach
  latex-attach-each {inner} a =
      each-then _ (unescaped-each 0 a) (λ rest b. some_below (empty (subscript rest)) (trim-each (inside-each rest a)) (subscript-each b))
    where
      some_below : (b : Bool) {base below : List ℕ} → Each p base → Each p below → EachIf p (cond b none (some (latex_underset below base)))
      some_below true c d = nowhere
      some_below false c d = there (underset-each d c)

  pub attach-once-each : {s : List ℕ} → Each p s → EachIf p (attach_once s)
  unfolding attach_once
  attach-once-each {s} a =
      each-then _ (each-find (bytes "attach(") a) (λ at b.
      each-then _ (call-each (bytes "attach(") b) (λ inner c.
      each-then _ (latex-attach-each c) (λ fresh d.
      there (spliced-each (bytes "attach(") inner a b d))))

  attach-times-each : (k : ℕ) {s : List ℕ} → Each p s → Each p (attach_times k s)
  unfolding attach_times
  attach-times-each zero a = a
  attach-times-each (suc k) {s} a = go (attach_once s) (attach-once-each a) (λ t b. attach-times-each k b)
    where
      go : (o : Option (List ℕ)) → EachIf p o → ((t : List ℕ) → Each p t → Each p (attach_times k t)) → Each p (elim o as (λ o. List ℕ) [ none ↦ s | some t ↦ attach_times k t ])
      go none i next = a
      go (some t) (there i) next = next t i

  pub attach-each : {s : List ℕ} → Each p s → Each p (convert_attach s)
  unfolding convert_attach
  attach-each {s} a = attach-times-each (length s) a

  -- ---- binom
  pub binom-each : {s : List ℕ} → Each p s → Each p (convert_binom s)
  unfolding convert_binom
  binom-each a = each-sweep {rule = binom} (record { writes = λ before s b. go s b (call_at over_quotes (bytes "binom(") s) (call-each (bytes "binom(") b) }) 0 0 a
    where
      binom_of : List ℕ → List ℕ → Option Turn
      binom_of inner behind =
          let first = inside inner behind in
          some (taken (call_length (bytes "binom(") inner) (bytes "\\binom{" ++ trim first ++ bytes "}{" ++ trim (drop (suc (length first)) inner) ++ bytes "}"))

      cut : (s inner : List ℕ) → Each p s → Each p inner → (o : Option (List ℕ)) → Each p (get_or (o and_then binom_of inner) (kept s)).fresh
      cut s inner b c none = each_take 1 b
      cut s inner b c (some behind) =
          each_append
          (each_append
          (each_append (each_append (written (bytes "\\binom{") refl) (trim-each (inside-each behind c))) (written (bytes "}{") refl))
          (trim-each (each-drop (suc (length (inside inner behind))) c)))
          (written (bytes "}") refl)

      go : (s : List ℕ) → Each p s → (o : Option (List ℕ)) → EachIf p o → Each p (get_or (o and_then λ inner. find_comma_in_args (over_quotes inner) and_then binom_of inner) (kept s)).fresh
      go s b none i = each_take 1 b
      go s b (some inner) (there i) = cut s inner b i (find_comma_in_args (over_quotes inner))

  -- ---- calls whose inside is written between two constant texts
  between-each : (name left right : List ℕ) → within call_symbols left ≡ true → within call_symbols right ≡ true
      → (write : List ℕ → List ℕ) → ((inner : List ℕ) → Each p inner → Each p (write inner)) → {s : List ℕ} → Each p s → Each p (convert_calls name (λ inner. left ++ write inner ++ right) s)
  between-each name left right l r write w = calls-each name (λ inner. left ++ write inner ++ right) (λ inner a. around left right (written left l) (written right r) (w inner a))

  -- without its outer blanks and quotes
  stripped-each : (name left : List ℕ) → within call_symbols left ≡ true → {s : List ℕ} → Each p s → Each p (convert_calls name (λ inner. left ++ trim_quotes (trim inner) ++ bytes "}") s)
  stripped-each name left l = between-each name left (bytes "}") l refl (λ inner. trim_quotes (trim inner)) (λ inner a. trim-quotes-each (trim-each a))

  -- as it is
  whole_each : (name left right : List ℕ) → within call_symbols left ≡ true → within call_symbols right ≡ true → {s : List ℕ} → Each p s → Each p (convert_calls name (λ inner. left ++ inner ++ right) s)
  whole_each name left right l r = between-each name left right l r (λ inner. inner) (λ inner a. a)

  pub op-each : {s : List ℕ} → Each p s → Each p (convert_op s)
  op-each = stripped-each (bytes "op(") (bytes "\\operatorname{") refl

  pub bb-each : {s : List ℕ} → Each p s → Each p (convert_bb s)
  bb-each = whole_each (bytes "bb(") (bytes "\\mathbb{") (bytes "}") refl refl

  pub bold-each : {s : List ℕ} → Each p s → Each p (convert_bold s)
  bold-each = whole_each (bytes "bold(") (bytes "\\mathbf{") (bytes "}") refl refl

  pub upright-each : {s : List ℕ} → Each p s → Each p (convert_upright s)
  upright-each = stripped-each (bytes "upright(") (bytes "\\mathrm{") refl

  pub floor-each : {s : List ℕ} → Each p s → Each p (convert_floor s)
  floor-each = whole_each (bytes "floor(") (bytes "\\left\\lfloor ") (bytes " \\right\\rfloor") refl refl

  pub ceil-each : {s : List ℕ} → Each p s → Each p (convert_ceil s)
  ceil-each = whole_each (bytes "ceil(") (bytes "\\left\\lceil ") (bytes " \\right\\rceil") refl refl

  pub abs-each : {s : List ℕ} → Each p s → Each p (convert_abs s)
  abs-each = whole_each (bytes "abs(") (bytes "\\left\\lvert ") (bytes " \\right\\rvert") refl refl

  pub cal-each : {s : List ℕ} → Each p s → Each p (convert_cal s)
  cal-each = whole_each (bytes "cal(") (bytes "\\mathcal{") (bytes "}") refl refl

  pub frak-each : {s : List ℕ} → Each p s → Each p (convert_frak s)
  frak-each = whole_each (bytes "frak(") (bytes "\\mathfrak{") (bytes "}") refl refl

  pub upright-again-each : {s : List ℕ} → Each p s → Each p (convert_upright_again s)
  upright-again-each = whole_each (bytes "upright(") (bytes "\\mathrm{") (bytes "}") refl refl
