-- Why a template or a miner's own job is refused, and what a call then answers (this project's own).
use Rattle.std.specs.Prelude.{IsOk, Result, Ok, Err}
use Rattle.coinbase.specs.declared.error.OutputsError.{OutputsError}
use Rattle.coinbase.specs.CustomRecipes.{RefusesOutputs}

-- a call that makes a miner's coinbase succeeds where that is made, and refuses as it is refused
abbrev pub RefusesAsMade : {X Y : Type 0} → Result X OutputsError → Result Y OutputsError → Type 0
RefusesAsMade (Ok x) told = IsOk told
RefusesAsMade (Err error) told = RefusesOutputs error told
