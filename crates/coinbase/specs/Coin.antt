-- The coinbase of a template's job: what it is, and when it is refused.
--
-- Sources: Stratum V2, "NewTemplate"; the pool's output in front, the order of the refusals and the
-- limits are this project's own.
-- Computed on a template whose coinbase stands byte for byte, and on each refusal (the crate's
-- tests).
use Rattle.std.specs.Prelude.{ℕ, ◌+◌, ◌^◌, ◌==◌, if◌then◌else◌, List, ◌++◌, length, nat_lt, Result, Ok, Err}
use Rattle.coinbase.specs.declared.error.AssemblyError.{AssemblyError}
use Rattle.coinbase.specs.declared.error.AssemblyError.TheVariants.{ScriptTooLong, BadOutputs, CountDiffers, RewardTooLarge, TooLong}
use Rattle.coinbase.specs.declared.tx.TxOut.{TxOut}
use Rattle.coinbase.specs.Form.{output_bytes}
use Rattle.coinbase.specs.Outputs.{outputs_of, commitment_in}
use Rattle.pool_base.specs.Results.{◌>>=◌}
use Rattle.coinbase.specs.Parts.{Parts, prefix_of, suffix_of, whole_len}

-- what a template says of its coinbase
pub record Terms : Type 0 where
  pub tx_version : ℕ
  pub prefix : List ℕ
  pub sequence : ℕ
  pub reward : ℕ
  pub outputs_count : ℕ
  pub outputs : List ℕ
  pub lock_time : ℕ

-- the output that pays the reward to the pool
abbrev pub pool_output : ℕ → List ℕ → TxOut
pool_output reward script = record { value = reward; script = script }

-- its coinbase: the pool's output comes first, then the template's
abbrev pub template_parts : Terms → List ℕ → Parts
template_parts terms script = record {
  prefix = prefix_of terms.tx_version terms.prefix;
  suffix = suffix_of terms.sequence (1 + terms.outputs_count)
      (output_bytes (pool_output terms.reward script) ++ terms.outputs) terms.lock_time;
  witness = commitment_in (outputs_of terms.outputs);
}

-- outputs that were read are as many as was said
abbrev pub counted_as : ℕ → Result (List TxOut) ℕ → Result (List TxOut) AssemblyError
counted_as said (Err at) = Err (BadOutputs at)
counted_as said (Ok outputs) =
    if length outputs == said then Ok outputs else Err (CountDiffers said (length outputs))

-- the template's outputs, or what is wrong with them
abbrev pub outputs_said : Terms → Result (List TxOut) AssemblyError
outputs_said terms = counted_as terms.outputs_count (outputs_of terms.outputs)

-- a coinbase that isn't too long
abbrev pub within_length : Parts → Result Parts AssemblyError
within_length parts =
    if nat_lt 65535 (whole_len parts) then Err (TooLong (whole_len parts)) else Ok parts

-- the coinbase of a reward that isn't too large
abbrev pub with_reward : Terms → List ℕ → Result Parts AssemblyError
with_reward terms script =
    if nat_lt terms.reward (2 ^ 40)
    then within_length (template_parts terms script)
    else Err (RewardTooLarge terms.reward)

-- the coinbase of a template and the pool's script, or the first refusal (this project's own)
abbrev pub template_assembly : Terms → List ℕ → Result Parts AssemblyError
template_assembly terms script =
    if nat_lt 88 (length terms.prefix)
    then Err (ScriptTooLong (length terms.prefix))
    else (outputs_said terms >>= λ outputs. with_reward terms script)
