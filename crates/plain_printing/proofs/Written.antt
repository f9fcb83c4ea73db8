-- What holds of the text of every tree before sizing: its atoms are words, and its brackets close.
use Rattle.std.specs.Prelude.{◌≡◌, refl, Bool, true, false, cond, List, [], ◌∷◌, ◌++◌, ℕ, pred, ltb}
use Rattle.std.proofs.Common.{append_assoc, ltb-true}
use Prim.Native.Char.{code}
use Rattle.spec.specs.Symbols.{bytes, letter, digit, alnum, all}
use Rattle.spec.specs.Fractions.{operand_symbol, frac}
use Rattle.spec.specs.Grammar.{Atom, variable, greek, number, greek_names, greek_name}
use Rattle.spec.specs.Laws.Booleans.{or_right}
use Rattle.spec.specs.Laws.Names.{row-rule}
use Rattle.plain_printing.specs.Tree.{Tree, TreeScript, Style, Join, beside, plus, minus, atom, fraction, group, row, bare, symbol, inner, atom_writing, join_text, operand, lone, unstacked, unsized, write, write_script, script_brackets, either_way}
use Rattle.plain_printing.specs.Classes.{all-weaken, all_append, excludes}
use Rattle.plain_printing.specs.Nest.{calm, Nest, run, paren, brace, both}

pub alnum-operand_symbol : (x : ℕ) → alnum x ≡ true → operand_symbol x ≡ true
alnum-operand_symbol x h = rw h

pub letter-operand_symbol : (x : ℕ) → letter x ≡ true → operand_symbol x ≡ true
letter-operand_symbol x h = rw h

pub digit-operand_symbol : (x : ℕ) → digit x ≡ true → operand_symbol x ≡ true
digit-operand_symbol x h = alnum-operand_symbol x (or_right (letter x) (digit x) h)

pub operand_symbol-calm : (x : ℕ) → operand_symbol x ≡ true → calm x ≡ true
operand_symbol-calm x h = excludes operand_symbol (code "(" ∷ code ")" ∷ code "{" ∷ code "}" ∷ []) refl x h

pub greek-letters : (i : ℕ) → ltb i 30 ≡ true → all letter (greek_name i) ≡ true
unfolding greek_name
greek-letters i h = row-rule (all letter) greek_names refl i (ltb-true i 30 h)

lead-operand_symbols : (b : Bool) → all operand_symbol (cond b (bytes "\\") []) ≡ true
lead-operand_symbols true = refl
lead-operand_symbols false = refl

pub atom-operand_symbols : (k : ℕ) (a : Atom) → all operand_symbol (atom_writing k a) ≡ true
atom-operand_symbols k (variable c e) = rw (letter-operand_symbol c e)
atom-operand_symbols k (greek i e) = all_append operand_symbol (cond (ltb i k) (bytes "\\") []) (greek_name i) (lead-operand_symbols (ltb i k)) (all-weaken letter operand_symbol letter-operand_symbol (greek_name i) (greek-letters i e))
atom-operand_symbols k (number ds e b) = all-weaken digit operand_symbol digit-operand_symbol ds e

pub atom-nest : (k : ℕ) (a : Atom) → Nest (atom_writing k a)
atom-nest k a = run (atom_writing k a) (all-weaken operand_symbol calm operand_symbol-calm (atom_writing k a) (atom-operand_symbols k a))

pub join-nest : (j : Join) → Nest (join_text j)
join-nest beside = run _ refl
join-nest plus = run _ refl
join-nest minus = run _ refl

pub operand-nest : (b : Bool) {s : List ℕ} → Nest s → Nest (operand b s)
operand-nest true m = m
operand-nest false m = paren m

script-nest : (b : Bool) {s : List ℕ} → Nest s → Nest (script_brackets b s)
script-nest true m = brace m
script-nest false m = paren m

pub frac-nest : {s t : List ℕ} → Nest s → Nest t → Nest (frac s t)
frac-nest {s} {t} m m' = rw (append_assoc s (code "}" ∷ []) (code "{" ∷ (t ++ code "}" ∷ []))) at (both (run (bytes "\\frac") refl) (both (brace m) (brace m')))

symbol-nest : (c : ℕ) → alnum c ≡ true → Nest (c ∷ [])
symbol-nest c e = run (c ∷ []) (rw (operand_symbol-calm c (alnum-operand_symbol c e)))

module _ (s : Style) where
  mutual
    unfolding write write_script

    pub nest : (n : ℕ) (t : Tree) → Nest (write (unsized s) n t)
    nest n (atom a l h) = both (atom-nest s.greeks a) (both (nest-script n (bytes "_") refl s.low l) (nest-script n (bytes "^") refl s.high h))
    nest n (fraction t u) =
        either_way Nest (unstacked n t) (both (operand-nest (lone t) (nest n t)) (both (run (bytes "/") refl) (operand-nest (lone u) (nest n u))))
        (frac-nest (nest (pred n) t) (nest (pred n) u))
    nest n (group t) = paren (nest n t)
    nest n (row t j u) = both (nest n t) (both (join-nest j) (nest n u))

    pub nest-script : (n : ℕ) (mark : List ℕ) → all calm mark ≡ true → (b : Bool) (c : TreeScript) → Nest (write_script (unsized s) n mark b c)
    nest-script n mark h b bare = run [] refl
    nest-script n mark h b (symbol c e) = both (run mark h) (symbol-nest c e)
    nest-script n mark h b (inner t) = both (run mark h) (script-nest b (nest n t))
