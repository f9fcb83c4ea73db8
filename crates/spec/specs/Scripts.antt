-- convert_subscripts and convert_superscripts: three rewritings for `_`, then the same three for `^`. Assumes nothing.
use Rattle.std.specs.Prelude.{true, false, cond, ◌&&◌, List, ◌∷◌, ◌++◌, ℕ, suc, eqb, ltb, length, drop}
use Rattle.std.proofs.Math.Option.{Option, none, some}
use Prim.Native.Char.{code}
use Rattle.spec.specs.Symbols.{bytes, alnum, head, past, until, drop_while, starts}
use Rattle.spec.specs.Sweep.{Turn, Rule, taken, kept, sweep}
use Rattle.spec.specs.Closing.{close, find_matching_brace}
use Rattle.spec.specs.Result.{Result, ◌then◌, stage}
use Rattle.spec.specs.Words.{paren_to_brace}

-- `_(`..`)` becomes `_{`..`}`; what stands inside is copied as it is
unfoldable pub convert_paren_to_brace : ℕ → List ℕ → List ℕ
unfolding sweep close
convert_paren_to_brace sign s = sweep (paren_to_brace (sign ∷ bytes "(") (sign ∷ bytes "{")) 0 0 s

-- a closed `\text{..}` block behind the sign gets braces
abbrev pub wrapped_text : ℕ → List ℕ → Option (List ℕ) → Turn
wrapped_text sign s none = kept s
wrapped_text sign s (some behind) = let block = until (past s) behind in taken (suc (length block)) (sign ∷ bytes "{" ++ block ++ bytes "}")

abbrev pub wrap_text : ℕ → Rule
wrap_text sign before s =
    elim (starts (sign ∷ bytes "\\text{") s) [ true ↦ wrapped_text sign s (find_matching_brace (drop (length (sign ∷ bytes "\\text{")) s)) | false ↦ kept s ]

unfoldable pub wrap_text_subscripts : ℕ → List ℕ → List ℕ
unfolding sweep close
wrap_text_subscripts sign s = sweep (wrap_text sign) 0 0 s

-- two or more letters or digits behind the sign get braces (behind `{`, `(` and `\` there is none of them, so the Rust's first test changes nothing)
abbrev pub wrap_multichar : ℕ → Rule
wrap_multichar sign before s =
    let ident = until (past s) (drop_while alnum (past s)) in
    cond (eqb (head s) sign && ltb 1 (length ident)) (taken (suc (length ident)) (sign ∷ bytes "{" ++ ident ++ bytes "}")) (kept s)

unfoldable pub wrap_multichar_scripts : ℕ → List ℕ → List ℕ
unfolding sweep
wrap_multichar_scripts sign s = sweep (wrap_multichar sign) 0 0 s

abbrev pub convert_scripts : ℕ → List ℕ → Result (List ℕ)
convert_scripts sign s = stage (convert_paren_to_brace sign) s then stage (wrap_text_subscripts sign) then stage (wrap_multichar_scripts sign)

abbrev pub convert_subscripts : List ℕ → Result (List ℕ)
convert_subscripts s = convert_scripts (code "_") s

abbrev pub convert_superscripts : List ℕ → Result (List ℕ)
convert_superscripts s = convert_scripts (code "^") s
