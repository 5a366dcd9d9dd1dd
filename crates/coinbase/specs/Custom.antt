-- The coinbase of a miner's own job: what it is, and when it is refused.
--
-- Sources: Stratum V2, "SetCustomMiningJob"; that all outputs pay to the pool, the order of the
-- refusals and the limits are this project's own.
-- Computed on a job whose coinbase stands byte for byte, and on each refusal (the crate's tests).
use Rattle.std.specs.Prelude.{ℕ, ◌^◌, ◌&&◌, Bool, not, if◌then◌else◌, List, [], ◌∷◌, length, nat_lt, position, sum_by, Option, Some, None, Result, Ok, Err}
use Rattle.std.specs.Str.{bytes_eq}
use Rattle.coinbase.specs.declared.error.OutputsError.{OutputsError}
use Rattle.coinbase.specs.declared.error.OutputsError.TheVariants.{ScriptTooLong, TooLong, BadOutputs, NoOutputs, ForeignOutput, RewardTooLarge}
use Rattle.coinbase.specs.declared.tx.TxOut.{TxOut}
use Rattle.coinbase.specs.Outputs.{outputs_of, commitment_in}
use Rattle.coinbase.specs.Parts.{Parts, prefix_of, suffix_of}
use Rattle.pool_base.specs.Results.{◌>>=◌}

-- what a miner says of its coinbase
pub record CustomTerms : Type 0 where
  pub tx_version : ℕ
  pub prefix : List ℕ
  pub sequence : ℕ
  pub outputs : List ℕ
  pub lock_time : ℕ

-- its coinbase: all outputs are the miner's
abbrev pub custom_parts : CustomTerms → ℕ → Parts
custom_parts terms count = record {
  prefix = prefix_of terms.tx_version terms.prefix;
  suffix = suffix_of terms.sequence count terms.outputs terms.lock_time;
  witness = commitment_in (outputs_of terms.outputs);
}

-- an output that pays to another script than the pool's
abbrev pub is_foreign : List ℕ → TxOut → Bool
is_foreign script output = nat_lt 0 output.value && not (bytes_eq output.script script)

-- outputs that were read, of which there is at least one
abbrev pub some_outputs : Result (List TxOut) ℕ → Result (List TxOut) OutputsError
some_outputs (Err at) = Err (BadOutputs at)
some_outputs (Ok []) = Err NoOutputs
some_outputs (Ok (first ∷ others)) = Ok (first ∷ others)

-- none where there is no foreign output
abbrev pub without_foreign : Option ℕ → List TxOut → Result (List TxOut) OutputsError
without_foreign None outputs = Ok outputs
without_foreign (Some index) outputs = Err (ForeignOutput index)

-- what outputs pay together
abbrev pub total : List TxOut → ℕ
total outputs = sum_by (λ output. output.value) outputs

-- the outputs of a miner's coinbase, or what is wrong with them
abbrev pub paying_outputs : CustomTerms → List ℕ → Result (List TxOut) OutputsError
paying_outputs terms script =
    if nat_lt 1024 (length terms.outputs) then Err (TooLong (length terms.outputs))
    else (some_outputs (outputs_of terms.outputs) >>= λ outputs.
    without_foreign (position (is_foreign script) outputs) outputs)

-- the coinbase and its reward, which isn't too large
abbrev pub with_total : CustomTerms → List TxOut → Result (Parts × ℕ) OutputsError
with_total terms outputs =
    if nat_lt (total outputs) (2 ^ 40)
    then Ok (custom_parts terms (length outputs), total outputs)
    else Err (RewardTooLarge (total outputs))

-- the coinbase of a miner's job and its reward, or the first refusal (this project's own)
abbrev pub custom_assembly : CustomTerms → List ℕ → Result (Parts × ℕ) OutputsError
custom_assembly terms script =
    if nat_lt 88 (length terms.prefix)
    then Err (ScriptTooLong (length terms.prefix))
    else (paying_outputs terms script >>= λ outputs. with_total terms outputs)
