-- Document 02's example, `gain` for `\mathrm{G}`, in both forms: two tables with the same records. Assumes nothing.
use Rattle.std.specs.Prelude.{refl, List, [], ◌∷◌, ℕ}
use Rattle.std.proofs.Common.{arith}
use Rattle.spec.specs.Symbols.{bytes}
use Rattle.spec.specs.Table.{Definition, records_in, nothing, put}
use Rattle.stage_laws.specs.SameRecords.{SameRecords, CallsAlike}
use Rattle.stage_laws.proofs.SameRecords.{wide-calls-same}

abbrev pub narrow_gain : List ℕ
narrow_gain = 16 ∷ 10 ∷ bytes "gain\\mathrm{G}"

abbrev pub wide_gain : List ℕ
wide_gain = 0 ∷ 0 ∷ 128 ∷ 10 ∷ bytes "gain\\mathrm{G}"

abbrev gain : Definition
gain = record { name = bytes "gain"; latex = bytes "\\mathrm{G}" }

pub gain-same : SameRecords narrow_gain wide_gain
unfolding records_in
gain-same = record { first = gain ∷ []; second = gain ∷ []; read = refl; read' = refl; rearranged = put gain [] [] nothing }

pub gain-calls : CallsAlike narrow_gain wide_gain
gain-calls = wide-calls-same gain-same refl refl (omega arith)
