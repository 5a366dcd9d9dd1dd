-- The frames of what a session is told of events (Stratum V2, "Mining Protocol" and "Template
-- Distribution Protocol").
use Rattle.std.specs.Prelude.{ℕ, List, [], ◌∷◌}
use Rattle.sv2_types.specs.Fields.{FieldValue, Number, Truth, Bytes, Perhaps, Parts}
use Rattle.sv2_messages.specs.declared.kinds.TheConstants as kinds
use Rattle.sv2_messages.specs.Messages.{message_frame}
use Rattle.sv2_messages.specs.Tables.{mining_table, template_table, declare_table}
use Rattle.pool_history.specs.declared.telling.Note.{Note}
use Rattle.pool_history.specs.declared.telling.Note.TheVariants.{Extended, Standard, PrevHash, Solution}
use Rattle.session_steps.specs.Asking.{message_of}

-- the frame of a message, of each protocol
abbrev pub mining_frame : ℕ → List FieldValue → List ℕ
mining_frame kind fields = message_frame mining_table (message_of kind fields)

abbrev pub template_frame : ℕ → List FieldValue → List ℕ
template_frame kind fields = message_frame template_table (message_of kind fields)

abbrev pub declare_frame : ℕ → List FieldValue → List ℕ
declare_frame kind fields = message_frame declare_table (message_of kind fields)

-- the frame of a note
abbrev pub note_frame : Note → List ℕ
note_frame (Extended channel_id job_id min_ntime version rolling path prefix suffix) =
    mining_frame kinds.NEW_EXTENDED_MINING_JOB
    (Number channel_id ∷ Number job_id ∷ Perhaps min_ntime ∷ Number version ∷ Truth rolling
    ∷ Parts path ∷ Bytes prefix ∷ Bytes suffix ∷ [])
note_frame (Standard channel_id job_id min_ntime version merkle_root) =
    mining_frame kinds.NEW_MINING_JOB
    (Number channel_id ∷ Number job_id ∷ Perhaps min_ntime ∷ Number version ∷ Bytes merkle_root
    ∷ [])
note_frame (PrevHash channel_id job_id prev_hash min_ntime nbits) =
    mining_frame kinds.MINING_SET_NEW_PREV_HASH
    (Number channel_id ∷ Number job_id ∷ Bytes prev_hash ∷ Number min_ntime ∷ Number nbits ∷ [])
note_frame (Solution template_id version header_timestamp header_nonce coinbase_tx) =
    template_frame kinds.SUBMIT_SOLUTION
    (Number template_id ∷ Number version ∷ Number header_timestamp ∷ Number header_nonce
    ∷ Bytes coinbase_tx ∷ [])
