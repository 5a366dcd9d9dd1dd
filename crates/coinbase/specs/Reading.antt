-- Reading a transaction from left to right, with the first defect that is met (this project's own;
-- that it agrees with the public form is proved by the crate's laws).
-- Computed on each transaction of the tests, cut behind each byte, and on each defect.
use Rattle.std.specs.Prelude.{◌≡◌, ℕ, zero, suc, ◌+◌, ◌^◌, Bool, true, false, ◌==◌, if◌then◌else◌, List, [], ◌∷◌, length, take, drop, nat_lt, Result, Ok, Err}
use Rattle.std.specs.Int.{Width, w8, w16, w32, w64, byte_len, from_le_bytes}
use Rattle.coinbase.specs.declared.tx.Tx.{Tx}
use Rattle.coinbase.specs.declared.tx.TxIn.{TxIn}
use Rattle.coinbase.specs.declared.tx.TxOut.{TxOut}
use Rattle.coinbase.specs.declared.error.TxError.{TxError}
use Rattle.coinbase.specs.declared.error.TxError.TheVariants.{Short, LongSize, BadMarker, EmptyWitness, Trailing, Memory}
use Rattle.coinbase.specs.Form.{has_item}
use Rattle.pool_base.specs.Results.{◌>>=◌}

-- how far reading has come: the place of the next byte, and the bytes from there on
pub record Place : Type 0 where
  pub at : ℕ
  pub left : List ℕ

-- a field of so many bytes
abbrev pub bytes_at : ℕ → Place → Result (List ℕ × Place) TxError
bytes_at n p =
    if nat_lt (length p.left) n then Err (Short p.at)
    else Ok (take n p.left, record { at = p.at + n; left = drop n p.left })

-- a number, low byte first
unfoldable pub number_at : Width → Place → Result (ℕ × Place) TxError
number_at w p = do
  bytes ← bytes_at (byte_len w) p
  Ok (from_le_bytes w bytes.0, bytes.1)

-- a compact size of a mark and a number, which has to be at least what no shorter one can say
unfoldable pub marked_at : Width → ℕ → Place → Result (ℕ × Place) TxError
marked_at w least p = do
  bytes ← bytes_at (1 + byte_len w) p
  if nat_lt (from_le_bytes w (drop 1 bytes.0)) least then Err (LongSize p.at)
      else Ok (from_le_bytes w (drop 1 bytes.0), bytes.1)

-- a compact size
unfoldable pub compact_at : Place → Result (ℕ × Place) TxError
compact_at p = do
  first ← number_at w8 p
  if nat_lt first.0 253 then Ok first
      else if first.0 == 253 then marked_at w16 253 p
      else if first.0 == 254 then marked_at w32 (2 ^ 16) p
      else marked_at w64 (2 ^ 32) p

-- bytes behind their number
unfoldable pub sized_at : Place → Result (List ℕ × Place) TxError
sized_at p = do
  len ← compact_at p
  bytes_at len.0 len.1

-- so many of a kind
unfoldable pub many_at : {X : Type 0} → (Place → Result (X × Place) TxError) → ℕ → Place →
    Result (List X × Place) TxError
many_at read zero p = Ok ([], p)
many_at read (suc n) p = do
  first ← read p
  others ← many_at read n first.1
  Ok (first.0 ∷ others.0, others.1)

-- a count, and so many of a kind
unfoldable pub counted_at : {X : Type 0} → (Place → Result (X × Place) TxError) → Place →
    Result (List X × Place) TxError
counted_at read p = do
  count ← compact_at p
  many_at read count.0 count.1

-- an input: what it spends, its script, its sequence
unfoldable pub input_at : Place → Result (TxIn × Place) TxError
input_at p = do
  previous ← bytes_at 32 p
  index ← number_at w32 previous.1
  script ← sized_at index.1
  sequence ← number_at w32 script.1
  Ok (
    record {
      previous = previous.0;
      index = index.0;
      script = script.0;
      sequence = sequence.0;
    },
    sequence.1,
  )

-- an output: its value, its script
unfoldable pub output_at : Place → Result (TxOut × Place) TxError
output_at p = do
  value ← number_at w64 p
  script ← sized_at value.1
  Ok (record { value = value.0; script = script.0 }, script.1)

-- the count of inputs behind marker and flag
unfoldable pub flagged_count_at : Place → Result (ℕ × Place) TxError
flagged_count_at p = do
  count ← compact_at p
  if count.0 == 0 then Err BadMarker else Ok count

-- the flag, and that count
unfoldable pub flagged_at : Place → Result (ℕ × Place) TxError
flagged_at p = do
  flag ← number_at w8 p
  if flag.0 == 1 then flagged_count_at flag.1 else Err BadMarker

-- whether witnesses follow, and the count of inputs; a count of 0 is the marker
unfoldable pub opening_at : Place → Result ((Bool × ℕ) × Place) TxError
opening_at p = do
  count ← compact_at p
  if count.0 == 0
      then (flagged_at count.1 >>= λ flagged. Ok ((true, flagged.0), flagged.1))
      else Ok ((false, count.0), count.1)

-- the witnesses of so many inputs
unfoldable pub witnesses_at : ℕ → Place → Result (List (List (List ℕ)) × Place) TxError
witnesses_at inputs p = do
  stacks ← many_at (counted_at sized_at) inputs p
  if has_item stacks.0 then Ok stacks else Err EmptyWitness

-- the same where they follow, and else none
abbrev pub witnesses_if : Bool → ℕ → Place → Result (List (List (List ℕ)) × Place) TxError
witnesses_if follow inputs p = if follow then witnesses_at inputs p else Ok ([], p)

-- a transaction, with witnesses where there is a marker
unfoldable pub tx_at : Place → Result (Tx × Place) TxError
tx_at p = do
  version ← number_at w32 p
  opening ← opening_at version.1
  inputs ← many_at input_at opening.0.1 opening.1
  outputs ← counted_at output_at inputs.1
  witnesses ← witnesses_if opening.0.0 opening.0.1 outputs.1
  lock_time ← number_at w32 witnesses.1
  Ok (
    record {
      version = version.0;
      inputs = inputs.0;
      outputs = outputs.0;
      witnesses = witnesses.0;
      lock_time = lock_time.0;
    },
    lock_time.1,
  )

-- a transaction that is all of the bytes
unfoldable pub tx_of : List ℕ → Result Tx TxError
tx_of bytes = do
  tx ← tx_at (record { at = 0; left = bytes })
  if length tx.1.left == 0 then Ok tx.0 else Err (Trailing (length tx.1.left))

-- a call failed as reading does, unless memory ran out
abbrev pub FailsReading : {X : Type 0} → TxError → Result X TxError → Type 0
FailsReading Memory read = Unit {0}
FailsReading (Short at) read = read ≡ Err (Short at)
FailsReading (LongSize at) read = read ≡ Err (LongSize at)
FailsReading BadMarker read = read ≡ Err BadMarker
FailsReading EmptyWitness read = read ≡ Err EmptyWitness
FailsReading (Trailing count) read = read ≡ Err (Trailing count)

-- what a call answered, seen by view, is what reading gives, unless memory ran out
abbrev pub ReadsAs : {X Y : Type 0} → (X → Y) → Result X TxError → Result Y TxError → Type 0
ReadsAs view (Ok x) read = read ≡ Ok (view x)
ReadsAs view (Err e) read = FailsReading e read

-- the same of what is seen as it is
abbrev pub ReadsTx : {X : Type 0} → Result X TxError → Result X TxError → Type 0
ReadsTx result read = ReadsAs (λ x. x) result read
