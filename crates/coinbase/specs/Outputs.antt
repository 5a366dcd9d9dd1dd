-- The outputs that a coinbase is to have, as one list of bytes (BIP 141 for the commitment; the
-- rest is this project's own). Computed on lists that are whole, cut and empty (the crate's tests).
use Rattle.std.specs.Prelude.{◌≡◌, ◌≢◌, ℕ, zero, suc, ◌<◌, Bool, false, ◌==◌, if◌then◌else◌, List, [], ◌∷◌, ◌++◌, length, take, drop, slice_index, Result, Ok, Err, nat_eq}
use Rattle.std.specs.List.{flat_map, list_any, starts_with, AllByRecursion}
use Rattle.coinbase.specs.declared.error.TxError.{TxError}
use Rattle.coinbase.specs.declared.tx.TxOut.{TxOut}
use Rattle.coinbase.specs.Form.{output_bytes, IsOutput}
use Rattle.coinbase.specs.Reading.{Place, output_at}

-- each is a byte
abbrev pub AreBytes : List ℕ → Type 0
AreBytes bytes = (i : ℕ) → slice_index bytes i < 256

-- the bytes are these outputs, one after the other
pub record AreOutputs (outputs : List TxOut) (bytes : List ℕ) : Type 0 where
  pub each : AllByRecursion IsOutput outputs
  pub form : bytes ≡ flat_map output_bytes outputs

-- the bytes don't begin with a whole output
abbrev pub BeginsBroken : List ℕ → Type 0
BeginsBroken bytes = (output : TxOut) (rest : List ℕ) → IsOutput output →
    bytes ≢ output_bytes output ++ rest

-- whole outputs stand before this place, and at it begins one that isn't whole
pub record FirstBroken (bytes : List ℕ) (at : ℕ) : Type 0 where
  pub before : List TxOut
  pub whole : AreOutputs before (take at bytes)
  pub more : at < length bytes
  pub broken : BeginsBroken (drop at bytes)

-- an output before others
abbrev pub first_of : TxOut → Result (List TxOut) ℕ → Result (List TxOut) ℕ
first_of output (Ok others) = Ok (output ∷ others)
first_of output (Err at) = Err at

-- an output that was read, and those that follow it; or the place where none was read
abbrev pub and_more : Result (TxOut × Place) TxError → ℕ → (Place → Result (List TxOut) ℕ) →
    Result (List TxOut) ℕ
and_more (Ok read) at rest = first_of read.0 (rest read.1)
and_more (Err e) at rest = Err at

-- at most so many outputs from a place on, or the place of the first that isn't whole
unfoldable pub outputs_within : ℕ → Place → Result (List TxOut) ℕ
outputs_within zero p = Ok []
outputs_within (suc n) p =
    if length p.left == 0 then Ok []
    else and_more (output_at p) p.at (λ after. outputs_within n after)

-- the outputs that the bytes are, or the place of the first that isn't whole; none is shorter than
-- a byte
abbrev pub outputs_of : List ℕ → Result (List TxOut) ℕ
outputs_of bytes = outputs_within (length bytes) (record { at = 0; left = bytes })

-- an output with the witness commitment (BIP 141, "Commitment structure")
abbrev pub commits : TxOut → Bool
commits output = starts_with nat_eq output.script (0x6a ∷ 0x24 ∷ 0xaa ∷ 0x21 ∷ 0xa9 ∷ 0xed ∷ [])

-- whether one of the outputs has it
abbrev pub commitment_in : Result (List TxOut) ℕ → Bool
commitment_in (Ok outputs) = list_any commits outputs
commitment_in (Err at) = false
