-- How a transaction is written, and its ids.
--
-- Sources: Bitcoin's "Raw Transaction Format" and BIP 144 for the forms, BIP 141 for the ids.
-- Computed on transactions of Bitcoin's first blocks with their published ids, and on the examples
-- of BIP 143 (the crate's tests).
use Rattle.std.specs.Prelude.{◌≡◌, ℕ, Bool, not, IsTrue, ◌^◌, ◌<◌, ◌==◌, ◌⊎◌, if◌then◌else◌, List, [], ◌∷◌, ◌++◌, length}
use Rattle.std.specs.List.{flat_map, list_any, AllByRecursion}
use Rattle.std.specs.Int.{w32, w64, to_le_bytes}
use Rattle.block_header.specs.Hash.{dsha}
use Rattle.coinbase.specs.Compact.{compact, sized_bytes}
use Rattle.coinbase.specs.declared.tx.Tx.{Tx}
use Rattle.coinbase.specs.declared.tx.TxIn.{TxIn}
use Rattle.coinbase.specs.declared.tx.TxOut.{TxOut}

-- the id of the transaction spent from and the place of its output, the script, the sequence
abbrev pub input_bytes : TxIn → List ℕ
input_bytes i =
    i.previous ++ to_le_bytes w32 i.index ++ sized_bytes i.script ++ to_le_bytes w32 i.sequence

-- the value, the script
abbrev pub output_bytes : TxOut → List ℕ
output_bytes o = to_le_bytes w64 o.value ++ sized_bytes o.script

-- how many there are, and each
abbrev pub counted_bytes : {X : Type 0} → (X → List ℕ) → List X → List ℕ
counted_bytes spell xs = compact (length xs) ++ flat_map spell xs

-- the items of one witness
abbrev pub stack_bytes : List (List ℕ) → List ℕ
stack_bytes items = counted_bytes sized_bytes items

-- inputs and outputs
abbrev pub body_bytes : Tx → List ℕ
body_bytes t = counted_bytes input_bytes t.inputs ++ counted_bytes output_bytes t.outputs

-- the form without marker, flag and witnesses
abbrev pub without_witness : Tx → List ℕ
without_witness t = to_le_bytes w32 t.version ++ body_bytes t ++ to_le_bytes w32 t.lock_time

-- the form with them
abbrev pub with_witness : Tx → List ℕ
with_witness t =
    to_le_bytes w32 t.version ++ (0 ∷ 1 ∷ []) ++ body_bytes t ++ flat_map stack_bytes t.witnesses
    ++ to_le_bytes w32 t.lock_time

-- the form that a transaction is written in
abbrev pub tx_bytes : Tx → List ℕ
tx_bytes t = if length t.witnesses == 0 then without_witness t else with_witness t

-- what an input may be
pub record IsInput (i : TxIn) : Type 0 where
  pub previous : length i.previous ≡ 32
  pub index : i.index < 2 ^ 32
  pub script : length i.script < 2 ^ 64
  pub sequence : i.sequence < 2 ^ 32

-- what an output may be
pub record IsOutput (o : TxOut) : Type 0 where
  pub value : o.value < 2 ^ 64
  pub script : length o.script < 2 ^ 64

-- what a witness item may be
abbrev pub IsItem : List ℕ → Type 0
IsItem item = length item < 2 ^ 64

-- what the witness of one input may be
pub record IsStack (items : List (List ℕ)) : Type 0 where
  pub count : length items < 2 ^ 64
  pub each : AllByRecursion IsItem items

-- whether some witness has an item
abbrev pub has_item : List (List (List ℕ)) → Bool
has_item stacks = list_any (λ items. not (length items == 0)) stacks

-- one for each input, and an item in at least one of them (BIP 144)
pub record IsWitness (inputs : ℕ) (stacks : List (List (List ℕ))) : Type 0 where
  pub each : AllByRecursion IsStack stacks
  pub one_per_input : length stacks ≡ inputs
  pub some : IsTrue (has_item stacks)

-- a transaction: at least one input, numbers in their ranges, and witnesses or none
pub record IsTx (t : Tx) : Type 0 where
  pub version : t.version < 2 ^ 32
  pub some_input : 0 < length t.inputs
  pub inputs : length t.inputs < 2 ^ 64
  pub each_input : AllByRecursion IsInput t.inputs
  pub outputs : length t.outputs < 2 ^ 64
  pub each_output : AllByRecursion IsOutput t.outputs
  pub witnesses : (t.witnesses ≡ []) ⊎ IsWitness (length t.inputs) t.witnesses
  pub lock_time : t.lock_time < 2 ^ 32

-- the bytes are this transaction
pub record TxOf (t : Tx) (bytes : List ℕ) : Type 0 where
  pub is_tx : IsTx t
  pub form : bytes ≡ tx_bytes t

-- the id is of the form without witnesses, so that a witness doesn't change it (BIP 141)
abbrev pub txid : Tx → List ℕ
txid t = dsha (without_witness t)

-- the witness id is of the form as it is written (BIP 141)
abbrev pub wtxid : Tx → List ℕ
wtxid t = dsha (tx_bytes t)
