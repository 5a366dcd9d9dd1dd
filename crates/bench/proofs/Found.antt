-- What is read is a message, and a message is read.
use Rattle.std.proofs.Common.{◌≡◌, ℕ, true, List, Result, Ok, Err, refl}
use Rattle.std.specs.Prelude.{IfOk, IsOkAnd, is_ok}
use Rattle.sv2_messages.specs.declared.error.MsgError.{MsgError}
use Rattle.sv2_messages.specs.Messages.{Message, Row, MsgOf}

pub is_found : {X : Type 0} (seen : X → Message) (read : Result X MsgError) (table : List Row) (kind : ℕ) (payload : List ℕ)
    → IfOk read (λ x. MsgOf table kind payload (seen x)) → is_ok read ≡ true → (m : Message) × MsgOf table kind payload m
is_found seen (Ok x) table kind payload found is = (seen x, found)
is_found seen (Err e) table kind payload found is = absurd cc

pub is_read : {X : Type 0} (seen : X → Message) (read : Result X MsgError) (table : List Row) (kind : ℕ) (payload : List ℕ)
    → ((m : Message) → MsgOf table kind payload m → IsOkAnd read (λ x. seen x ≡ m)) → (m : Message) × MsgOf table kind payload m → is_ok read ≡ true
is_read seen (Ok x) table kind payload only m = refl
is_read seen (Err e) table kind payload only m = absurd (only m.0 m.1)
