-- What a stage comes to: something to go on with, or the number of a refusal of document 01.
--     stage     a stage that only number 5 can refuse
--     _then_    one stage after another: the first trouble decides
-- Assumes nothing.
use Rattle.std.specs.Prelude.{cond, List, ℕ, ltb, length}

pub data Result (A : Type 0) : Type 0 where
  passed : A → Result A
  refused : ℕ → Result A

infixl 10 ◌then◌
abbrev pub ◌then◌ : {A B : Type 0} → Result A → (A → Result B) → Result B
passed a then f = f a
refused number then f = refused number

-- number 5: the most symbols that a stage's finished text may have
abbrev pub most_symbols : ℕ
most_symbols = 8192

-- `finished` is the text whose length counts
abbrev pub grown : {A : Type 0} → List ℕ → A → Result A
grown finished a = cond (ltb most_symbols (length finished)) (refused 5) (passed a)

abbrev pub stage : (List ℕ → List ℕ) → List ℕ → Result (List ℕ)
stage f s = let t = f s in grown t t
