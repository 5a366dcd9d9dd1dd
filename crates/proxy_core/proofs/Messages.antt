-- What a payload tells is what its message tells.
use Rattle.std.proofs.Common.{◌≡◌, ℕ, ◌+◌, ◌*◌, ◌≤◌, Result, Ok, Err, List, [], ◌∷◌, length, drop, get_or, refl, sym, ap, ◌∙◌, arith}
use Rattle.sv2_types.specs.Fields.{FieldValue}
use Rattle.sv2_types.specs.Reading.{said}
use Rattle.sv2_types.proofs.Items.{IsBytes}
use Rattle.sv2_messages.specs.declared.error.MsgError.{MsgError}
use Rattle.sv2_messages.specs.Messages.{Message, MsgOf}
use Rattle.sv2_messages.specs.Reading.{IsFirstDefect, values_of}
use Rattle.sv2_messages.specs.Tables.{mining_table}
use Rattle.sv2_messages.proofs.Answering.{only, refused}
use Rattle.mining_msgs.specs.declared.message.Mining.{Mining}
use Rattle.mining_msgs.specs.declared.message.Mining.TheVariants as messages
use Rattle.mining_msgs.specs.Seen.{mining_message}
use Rattle.v1_translate.specs.Heard.{Nothing}
use Rattle.proxy_rules.specs.Frames.{Tells, told_by_kind, told_by_payload, told_by_values}
use Rattle.proxy_core.specs.Reading.{told_by_message}

-- ---- by its kind and its fields

told_by_fields : (m : Mining) → told_by_message m ≡ told_by_kind (mining_message m).kind (mining_message m).fields
told_by_fields (messages.SetupConnection m) = refl
told_by_fields (messages.SetupConnectionSuccess m) = refl
told_by_fields (messages.SetupConnectionError m) = refl
told_by_fields (messages.OpenStandardMiningChannel m) = refl
told_by_fields (messages.OpenStandardMiningChannelSuccess m) = refl
told_by_fields (messages.OpenMiningChannelError m) = refl
told_by_fields (messages.OpenExtendedMiningChannel m) = refl
told_by_fields (messages.OpenExtendedMiningChannelSuccess m) = refl
told_by_fields (messages.NewMiningJob m) = refl
told_by_fields (messages.UpdateChannel m) = refl
told_by_fields (messages.UpdateChannelError m) = refl
told_by_fields (messages.CloseChannel m) = refl
told_by_fields (messages.SetExtranoncePrefix m) = refl
told_by_fields (messages.SubmitSharesStandard m) = refl
told_by_fields (messages.SubmitSharesExtended m) = refl
told_by_fields (messages.SubmitSharesSuccess m) = refl
told_by_fields (messages.SubmitSharesError m) = refl
told_by_fields (messages.NewExtendedMiningJob m) = refl
told_by_fields (messages.SetNewPrevHash m) = refl
told_by_fields (messages.SetTarget m) = refl
told_by_fields (messages.SetCustomMiningJob m) = refl
told_by_fields (messages.SetCustomMiningJobSuccess m) = refl
told_by_fields (messages.SetCustomMiningJobError m) = refl

-- ---- the values of a payload

abbrev whole : ℕ → List FieldValue → Message
whole kind fields = record { kind = kind; fields = fields }

values_by_message : (kind : ℕ) (payload : List ℕ) (m : Message) (values : Result (List FieldValue) MsgError)
    → values_of mining_table kind payload ≡ values → MsgOf mining_table kind payload m → values ≡ Ok m.fields
values_by_message kind payload m (Ok fields) is of =
    ap (λ (x : Message). Ok x.fields)
    (only {X = Message} (λ x. x) (Ok (whole kind fields)) mining_table kind payload (refl, is) m of)
values_by_message kind payload m (Err error) is of =
    absurd (only {X = Message} (λ x. x) (Err error) mining_table kind payload is m of)

told_by_defect : (kind : ℕ) (payload : List ℕ) (error : MsgError) (values : Result (List FieldValue) MsgError)
    → values_of mining_table kind payload ≡ values → IsBytes payload → IsFirstDefect mining_table kind payload error
    → Tells Nothing ≡ told_by_values kind values
told_by_defect kind payload error (Ok fields) is fits defect =
    let none = (refused {X = Message} (λ x. x) (Ok (whole kind fields)) mining_table kind payload fits (refl, is) error).1 defect in
    absurd (cc)
told_by_defect kind payload error (Err other) is fits defect = refl

pub message_told : (m : Mining) (kind : ℕ) (payload : List ℕ) → MsgOf mining_table kind payload (mining_message m)
    → told_by_message m ≡ told_by_payload kind payload
message_told m kind payload of =
    let read = values_by_message kind payload (mining_message m) _ refl of in
    told_by_fields m ∙ ap (λ k. told_by_kind k (mining_message m).fields) of.same_kind ∙ sym (ap (told_by_values kind) read)

pub defect_told : (kind : ℕ) (payload : List ℕ) (error : MsgError) → IsBytes payload → IsFirstDefect mining_table kind payload error
    → Tells Nothing ≡ told_by_payload kind payload
defect_told kind payload error fits defect = told_by_defect kind payload error _ refl fits defect

-- ---- headers

pub said_ext : (bytes : List ℕ) → 6 ≤ length bytes → said 2 bytes ≡ get_or bytes 0 0 + 256 * get_or bytes 1 0
said_ext [] long = absurd (omega arith)
said_ext (a ∷ []) long = absurd (omega arith)
said_ext (a ∷ b ∷ bytes) long = omega arith

pub said_kind : (bytes : List ℕ) → 6 ≤ length bytes → said 1 (drop 2 bytes) ≡ get_or bytes 2 0
said_kind [] long = absurd (omega arith)
said_kind (a ∷ []) long = absurd (omega arith)
said_kind (a ∷ b ∷ []) long = absurd (omega arith)
said_kind (a ∷ b ∷ c ∷ bytes) long = omega arith

pub said_length : (bytes : List ℕ) → 6 ≤ length bytes
    → said 3 (drop 3 bytes) ≡ get_or bytes 3 0 + 256 * get_or bytes 4 0 + 65536 * get_or bytes 5 0
said_length [] long = absurd (omega arith)
said_length (a ∷ []) long = absurd (omega arith)
said_length (a ∷ b ∷ []) long = absurd (omega arith)
said_length (a ∷ b ∷ c ∷ []) long = absurd (omega arith)
said_length (a ∷ b ∷ c ∷ d ∷ []) long = absurd (omega arith)
said_length (a ∷ b ∷ c ∷ d ∷ e ∷ []) long = absurd (omega arith)
said_length (a ∷ b ∷ c ∷ d ∷ e ∷ f ∷ bytes) long = omega arith
