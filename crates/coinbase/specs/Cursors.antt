-- What a read from a cursor answers, without where its bytes lie (this project's own).
use Rattle.std.specs.Prelude.{Result}
use Rattle.coinbase.specs.declared.cursor.Cursor.{Cursor}
use Rattle.coinbase.specs.declared.error.TxError.{TxError}
use Rattle.coinbase.specs.Reading.{Place, ReadsAs}

-- where a cursor stands
abbrev pub place_of : Cursor → Place
place_of c = record { at = c.at; left = c.left.now }

-- a call took from the cursor what reading takes there, its value seen by view
abbrev pub TakesFieldAs : {X Y : Type 0} → (X → Y) → Result (X × Cursor) TxError →
    (Place → Result (Y × Place) TxError) → Cursor → Type 0
TakesFieldAs view result read cursor =
    ReadsAs (λ x. (view x.0, place_of x.1)) result (read (place_of cursor))

-- the same of a value that is seen as it is
abbrev pub TakesField : {X : Type 0} → Result (X × Cursor) TxError →
    (Place → Result (X × Place) TxError) → Cursor → Type 0
TakesField result read cursor = TakesFieldAs (λ x. x) result read cursor
