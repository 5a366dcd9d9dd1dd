-- A miner's recipe without where its bytes lie, and what an assembly of it answers (this project's
-- own).
use Rattle.std.specs.Prelude.{◌≡◌, Result, Ok, Err}
use Rattle.coinbase.specs.declared.assembly.CustomRecipe.{CustomRecipe}
use Rattle.coinbase.specs.declared.error.OutputsError.{OutputsError}
use Rattle.coinbase.specs.declared.error.OutputsError.TheVariants.{ScriptTooLong, TooLong, BadOutputs, NoOutputs, ForeignOutput, RewardTooLarge, Memory}
use Rattle.coinbase.specs.Custom.{CustomTerms}

-- what a miner's recipe says
abbrev pub custom_terms_of : CustomRecipe → CustomTerms
custom_terms_of recipe = record {
  tx_version = recipe.tx_version;
  prefix = recipe.prefix.now;
  sequence = recipe.sequence;
  outputs = recipe.outputs.now;
  lock_time = recipe.lock_time;
}

-- a call refused as it is told, unless memory ran out
abbrev pub RefusesOutputs : {X : Type 0} → OutputsError → Result X OutputsError → Type 0
RefusesOutputs Memory told = Unit {0}
RefusesOutputs (ScriptTooLong length) told = told ≡ Err (ScriptTooLong length)
RefusesOutputs (TooLong length) told = told ≡ Err (TooLong length)
RefusesOutputs (BadOutputs at) told = told ≡ Err (BadOutputs at)
RefusesOutputs NoOutputs told = told ≡ Err NoOutputs
RefusesOutputs (ForeignOutput index) told = told ≡ Err (ForeignOutput index)
RefusesOutputs (RewardTooLarge sum) told = told ≡ Err (RewardTooLarge sum)

-- a call answered what it is told, unless memory ran out
abbrev pub AssemblesOutputs : {X : Type 0} → Result X OutputsError → Result X OutputsError → Type 0
AssemblesOutputs (Ok x) told = told ≡ Ok x
AssemblesOutputs (Err e) told = RefusesOutputs e told
