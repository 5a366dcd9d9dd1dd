-- A recipe without where its bytes lie, and what an assembly answers (this project's own).
use Rattle.std.specs.Prelude.{◌≡◌, Result, Ok, Err}
use Rattle.coinbase.specs.declared.assembly.Recipe.{Recipe}
use Rattle.coinbase.specs.declared.error.AssemblyError.{AssemblyError}
use Rattle.coinbase.specs.declared.error.AssemblyError.TheVariants.{ScriptTooLong, BadOutputs, CountDiffers, RewardTooLarge, TooLong, Memory}
use Rattle.coinbase.specs.Coin.{Terms}

-- what a recipe says
abbrev pub terms_of : Recipe → Terms
terms_of recipe = record {
  tx_version = recipe.tx_version;
  prefix = recipe.prefix.now;
  sequence = recipe.sequence;
  reward = recipe.reward;
  outputs_count = recipe.outputs_count;
  outputs = recipe.outputs.now;
  lock_time = recipe.lock_time;
}

-- a call refused as it is told, unless memory ran out
abbrev pub Refuses : {X : Type 0} → AssemblyError → Result X AssemblyError → Type 0
Refuses Memory told = Unit {0}
Refuses (ScriptTooLong length) told = told ≡ Err (ScriptTooLong length)
Refuses (BadOutputs at) told = told ≡ Err (BadOutputs at)
Refuses (CountDiffers said found) told = told ≡ Err (CountDiffers said found)
Refuses (RewardTooLarge reward) told = told ≡ Err (RewardTooLarge reward)
Refuses (TooLong length) told = told ≡ Err (TooLong length)

-- a call answered what it is told, unless memory ran out
abbrev pub Assembles : {X : Type 0} → Result X AssemblyError → Result X AssemblyError → Type 0
Assembles (Ok x) told = told ≡ Ok x
Assembles (Err e) told = Refuses e told
