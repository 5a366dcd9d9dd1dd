-- Why outputs could not be read, without where they lie (this project's own).
use Rattle.std.specs.Prelude.{◌≡◌, ℕ, List, Result, Err, IsErr}
use Rattle.coinbase.specs.declared.outputs.Broken.{Broken}
use Rattle.coinbase.specs.declared.outputs.Broken.TheVariants as broken
use Rattle.coinbase.specs.declared.tx.TxOut.{TxOut}
use Rattle.coinbase.specs.Reading.{Place, output_at}

-- no output was read at this place, unless memory ran out
abbrev pub ReadsNoOutput : Broken → Place → Type 0
ReadsNoOutput (broken.At at) p = (at ≡ p.at) × IsErr (output_at p)
ReadsNoOutput broken.Memory p = Unit {0}

-- the outputs end with this one that isn't whole, unless memory ran out
abbrev pub EndsOutputs : Broken → Result (List TxOut) ℕ → Type 0
EndsOutputs (broken.At at) read = read ≡ Err at
EndsOutputs broken.Memory read = Unit {0}
