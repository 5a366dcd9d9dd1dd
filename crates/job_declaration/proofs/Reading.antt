-- What wasn't read.
use Rattle.std.proofs.Common.{◌≡◌, ℕ, Result, Err, List}
use Rattle.std.specs.Prelude.{IsOkAnd}
use Rattle.sv2_messages.specs.Messages.{Message, MsgOf, Row}

-- a payload that wasn't read brings no message
pub none_read : {M E : Type 0} (seen : M → Message) (table : List Row) (kind : ℕ)
    (payload : List ℕ) (result : Result M E) (e : E) → result ≡ Err e
    → ((m : Message) → MsgOf table kind payload m → IsOkAnd result (λ read. seen read ≡ m))
    → (m : Message) → MsgOf table kind payload m → ⊥
none_read seen table kind payload result e is only m brought = rw is at (only m brought)
