-- Closing searches and comma searches. The Rust's give the offset of the closer or the comma; here each gives the text behind it, so that
-- searches compose, and the offset is what that text is shorter by. Assumes nothing.
--     close                  what stands behind the closer of d + 1 open brackets: the first place where closers exceed openers
--     level                  do all brackets of the text close, none before it opens?
--     find_matching_paren ..   the Rust's searches, by their names
--     over_quotes             the text as the searches of a call see it, which pass over quoted parentheses: request A8
use Rattle.std.specs.Prelude.{Bool, true, false, not, ◌&&◌, ◌||◌, List, [], ◌∷◌, ℕ, zero, suc, pred, eqb, length, take, drop}
use Rattle.std.proofs.Math.Option.{Option, none, some}
use Prim.Native.Char.{code}
use Rattle.spec.specs.Symbols.{bytes, is, past, contains}

pub data Side : Type 0 where
  opens closes neither : Side

abbrev pub side_of : Bool → Bool → Side
side_of true b = opens
side_of false true = closes
side_of false false = neither

abbrev pub side : ℕ → ℕ → ℕ → Side
side o c x = side_of (eqb x o) (eqb x c)

-- an opener goes one deeper, a closer comes one back
abbrev pub depth_after : Side → ℕ → ℕ
depth_after opens d = suc d
depth_after closes d = pred d
depth_after neither d = d

module _ (o c : ℕ) where
  unfoldable pub close : ℕ → List ℕ → Option (List ℕ)
  close d [] = none
  close d (x ∷ s) =
      elim (side o c x) [
        | opens ↦ close (suc d) s
        | closes ↦ elim d [ zero ↦ some s | suc e ↦ close e s ]
        | neither ↦ close d s
      ]

  -- Every closer in the text has an opener before it and every opener a closer behind it; d openers stand before the text. `strip_outer_parens` asks
  -- this of what stands between the outer parentheses.
  unfoldable pub level : ℕ → List ℕ → Bool
  level zero [] = true
  level (suc d) [] = false
  level d (x ∷ s) =
      elim (side o c x) [
        | opens ↦ level (suc d) s
        | closes ↦ elim d [ zero ↦ false | suc e ↦ level e s ]
        | neither ↦ level d s
      ]

-- the bracket has been passed
abbrev pub find_matching_paren : List ℕ → Option (List ℕ)
find_matching_paren s = close (code "(") (code ")") 0 s

abbrev pub find_matching_brace : List ℕ → Option (List ℕ)
find_matching_brace s = close (code "{") (code "}") 0 s

-- the text begins with the bracket
abbrev pub matching_delimiter : ℕ → ℕ → List ℕ → Option (List ℕ)
matching_delimiter o c s = close o c 0 (past s)

-- a search that runs to the end where no closer is found
abbrev pub or_end : Option (List ℕ) → List ℕ
or_end none = []
or_end (some s) = s

-- ---- quotes
-- Does what follows the symbol x stand between a quote and the next one? A quote with no next one is an ordinary symbol.
abbrev pub quoted_after : Bool → ℕ → List ℕ → Bool
quoted_after quoted x s = elim (is "\"" x) [ true ↦ not quoted && contains (bytes "\"") s | false ↦ quoted ]

-- a quoted parenthesis is seen as a quote, which no search counts
abbrev pub seen_as : Bool → ℕ → ℕ
seen_as quoted x = elim (quoted && (is "(" x || is ")" x)) [ true ↦ code "\"" | false ↦ x ]

unfoldable pub seen_from : Bool → List ℕ → List ℕ
seen_from quoted [] = []
seen_from quoted (x ∷ s) = seen_as quoted x ∷ seen_from (quoted_after quoted x s) s

-- the text with what is passed over, from behind the call's parenthesis on
abbrev pub over_quotes : List ℕ → List ℕ
over_quotes s = seen_from false s

-- ---- commas
-- brackets of any kind
abbrev pub any_side : ℕ → Side
any_side x = side_of (is "(" x || (is "[" x || is "{" x)) (is ")" x || (is "]" x || is "}" x))

-- The Rust's depth is a number that may go below zero: here the brackets opened and those closed so far, and it is zero where they are as many.
unfoldable pub comma_behind : ℕ → ℕ → List ℕ → Option (List ℕ)
comma_behind opened closed [] = none
comma_behind opened closed (x ∷ s) =
    elim (any_side x) [
      | opens ↦ comma_behind (suc opened) closed s
      | closes ↦ comma_behind opened (suc closed) s
      | neither ↦ elim (is "," x && eqb opened closed) [ true ↦ some s | false ↦ comma_behind opened closed s ]
    ]

abbrev pub find_comma_in_args : List ℕ → Option (List ℕ)
find_comma_in_args s = comma_behind 0 0 s

-- a comma with no backslash before it
unfoldable pub unescaped_behind : ℕ → List ℕ → Option (List ℕ)
unescaped_behind before [] = none
unescaped_behind before (x ∷ s) = elim (is "," x) [ true ↦ elim (is "\\" before) [ true ↦ unescaped_behind x s | false ↦ some s ] | false ↦ unescaped_behind x s ]

abbrev pub find_unescaped_comma : List ℕ → Option (List ℕ)
find_unescaped_comma s = unescaped_behind 0 s

-- the symbol stands before the first part
abbrev pub pushed : ℕ → List (List ℕ) → List (List ℕ)
pushed x [] = (x ∷ []) ∷ []
pushed x (part ∷ parts) = (x ∷ part) ∷ parts

unfoldable pub split_from : ℕ → ℕ → List ℕ → List (List ℕ)
split_from opened closed [] = [] ∷ []
split_from opened closed (x ∷ s) =
    elim (any_side x) [
      | opens ↦ pushed x (split_from (suc opened) closed s)
      | closes ↦ pushed x (split_from opened (suc closed) s)
      | neither ↦ elim (is "," x && eqb opened closed) [ true ↦ [] ∷ split_from opened closed s | false ↦ pushed x (split_from opened closed s) ]
    ]

abbrev pub split_top_level_commas : List ℕ → List (List ℕ)
split_top_level_commas s = split_from 0 0 s

-- the text cut into parts as long as those given, a comma behind each
abbrev pub cut_alike : List (List ℕ) → List ℕ → List (List ℕ)
cut_alike [] s = []
cut_alike (part ∷ parts) s = take (length part) s ∷ cut_alike parts (drop (suc (length part)) s)
