-- Coinbases as transactions (BIP 141 for the witness; the rest is this project's own).
use Rattle.std.specs.Prelude.{ℕ, ◌-◌, ◌^◌, ◌<◌, Bool, if◌then◌else◌, List, [], ◌∷◌, ◌++◌, replicate}
use Rattle.std.specs.List.{list_any}
use Rattle.coinbase.specs.declared.tx.Tx.{Tx}
use Rattle.coinbase.specs.declared.tx.TxIn.{TxIn}
use Rattle.coinbase.specs.declared.tx.TxOut.{TxOut}
use Rattle.coinbase.specs.Coin.{Terms, pool_output}
use Rattle.coinbase.specs.Custom.{CustomTerms}
use Rattle.coinbase.specs.Outputs.{AreBytes, commits}

-- an input that spends no output, with a script that ends in the extranonce
abbrev pub coinbase_input : List ℕ → List ℕ → ℕ → TxIn
coinbase_input prefix extranonce sequence = record {
  previous = replicate 32 0;
  index = 2 ^ 32 - 1;
  script = prefix ++ extranonce;
  sequence = sequence;
}

-- the witness of a coinbase that has one: 32 zero bytes (BIP 141)
abbrev pub coinbase_witness : Bool → List (List (List ℕ))
coinbase_witness witness = if witness then (replicate 32 0 ∷ []) ∷ [] else []

-- the coinbase of a template's job
abbrev pub template_tx : Terms → List ℕ → List ℕ → List TxOut → Tx
template_tx terms script extranonce outputs = record {
  version = terms.tx_version;
  inputs = coinbase_input terms.prefix extranonce terms.sequence ∷ [];
  outputs = pool_output terms.reward script ∷ outputs;
  witnesses = coinbase_witness (list_any commits outputs);
  lock_time = terms.lock_time;
}

-- the coinbase of a miner's job
abbrev pub custom_tx : CustomTerms → List ℕ → List TxOut → Tx
custom_tx terms extranonce outputs = record {
  version = terms.tx_version;
  inputs = coinbase_input terms.prefix extranonce terms.sequence ∷ [];
  outputs = outputs;
  witnesses = coinbase_witness (list_any commits outputs);
  lock_time = terms.lock_time;
}

-- numbers and bytes in their ranges
pub record AreTerms (terms : Terms) : Type 0 where
  pub tx_version : terms.tx_version < 2 ^ 32
  pub sequence : terms.sequence < 2 ^ 32
  pub outputs_count : terms.outputs_count < 2 ^ 32
  pub outputs : AreBytes terms.outputs
  pub lock_time : terms.lock_time < 2 ^ 32

-- the same of a miner's own job
pub record AreCustomTerms (terms : CustomTerms) : Type 0 where
  pub tx_version : terms.tx_version < 2 ^ 32
  pub sequence : terms.sequence < 2 ^ 32
  pub outputs : AreBytes terms.outputs
  pub lock_time : terms.lock_time < 2 ^ 32
