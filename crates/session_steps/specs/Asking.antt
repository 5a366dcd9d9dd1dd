-- Which request a message asks for (Stratum V2, "Mining Protocol" and "Template Distribution
-- Protocol"; the messages of job declaration and of a miner's own jobs are this project's own).
use Rattle.std.specs.Prelude.{◌≡◌, ℕ, List, [], ◌∷◌, ◌++◌, take, Option, None}
use Rattle.sv2_types.specs.Fields.{FieldValue, Number, Bytes}
use Rattle.sv2_messages.specs.declared.kinds.TheConstants as kinds
use Rattle.sv2_messages.specs.Messages.{Message}
use Rattle.pool_history.specs.declared.asking.OpenAsk.{OpenAsk}
use Rattle.pool_history.specs.declared.asking.Request.{Request}
use Rattle.pool_history.specs.declared.asking.Request.TheVariants as request
use Rattle.pool_history.specs.declared.events.Kind.{Kind}
use Rattle.pool_history.specs.declared.events.Kind.TheVariants.{Standard, Extended, V1}
use Rattle.pool_history.specs.declared.shares.Submission.{Submission}
use Rattle.pool_history.specs.declared.templates.CustomData.{CustomData}
use Rattle.pool_history.specs.OwnedFields.{custom_fields, template_fields, tip_fields}
use Rattle.session_steps.specs.declared.about.About.{About}
use Rattle.session_steps.specs.declared.about.About.TheVariants.{Nothing, Opening, Channel, Share, Token, OwnJob}

abbrev pub message_of : ℕ → List FieldValue → Message
message_of kind fields = record { kind = kind; fields = fields }

-- the messages that open a channel; the hash rate is free
abbrev pub IsOpening : Kind → Message → OpenAsk → ℕ → List ℕ → Type 0
IsOpening Standard message ask request_id rate =
    message ≡ message_of kinds.OPEN_STANDARD_MINING_CHANNEL
    (Number request_id ∷ Bytes ask.identity ∷ Bytes rate ∷ Bytes ask.max_target ∷ [])
IsOpening Extended message ask request_id rate =
    message ≡ message_of kinds.OPEN_EXTENDED_MINING_CHANNEL
    (Number request_id ∷ Bytes ask.identity ∷ Bytes rate ∷ Bytes ask.max_target
    ∷ Number ask.min_size ∷ [])
IsOpening V1 message ask request_id rate = ⊥

pub record AsksOpening (message : Message) (ask : OpenAsk) (about : About) : Type 0 where
  pub request_id : ℕ
  pub rate : List ℕ
  pub opening : IsOpening ask.kind message ask request_id rate
  pub about_it : about ≡ Opening request_id ask.kind

pub record AsksUpdate (message : Message) (channel : ℕ) (target : List ℕ) (about : About) :
    Type 0 where
  pub rate : List ℕ
  pub update : message ≡ message_of kinds.UPDATE_CHANNEL
      (Number channel ∷ Bytes rate ∷ Bytes target ∷ [])
  pub about_it : about ≡ Channel channel

pub record AsksClosing (message : Message) (channel : ℕ) (about : About) : Type 0 where
  pub reason : List ℕ
  pub closing : message ≡ message_of kinds.CLOSE_CHANNEL (Number channel ∷ Bytes reason ∷ [])
  pub about_it : about ≡ Nothing

-- the fields that both messages with a share have
abbrev pub share_fields : Submission → List FieldValue
share_fields sub =
    Number sub.channel ∷ Number sub.sequence ∷ Number sub.job ∷ Number sub.nonce
    ∷ Number sub.ntime ∷ Number sub.version ∷ []

-- a standard channel's share brings no extranonce
abbrev pub IsSharing : Kind → Message → Submission → Type 0
IsSharing Standard message sub =
    (message ≡ message_of kinds.SUBMIT_SHARES_STANDARD (share_fields sub))
    × (sub.extranonce_len ≡ 0)
IsSharing Extended message sub =
    message ≡ message_of kinds.SUBMIT_SHARES_EXTENDED
    (share_fields sub ++ Bytes (take sub.extranonce_len sub.extranonce) ∷ [])
IsSharing V1 message sub = ⊥

pub record AsksBrief (message : Message) (sub : Submission) (about : About) : Type 0 where
  pub sharing : IsSharing sub.kind message sub
  pub about_it : about ≡ Share sub

pub record AsksToken (message : Message) (identity : List ℕ) (path : Option (List (List ℕ)))
    (about : About) : Type 0 where
  pub request_id : ℕ
  pub token : message ≡ message_of kinds.ALLOCATE_MINING_JOB_TOKEN
      (Bytes identity ∷ Number request_id ∷ [])
  pub any_path : path ≡ None
  pub about_it : about ≡ Token request_id

pub record AsksOwnJob (message : Message) (custom : CustomData) (about : About) : Type 0 where
  pub request_id : ℕ
  pub job : message ≡ message_of kinds.SET_CUSTOM_MINING_JOB (custom_fields request_id custom)
  pub about_it : about ≡ OwnJob custom.channel_id request_id

-- a message of a session's work asks for this, and the answer will be about that
abbrev pub Asks : Message → Request → About → Type 0
Asks message (request.Template template) about =
    (message ≡ message_of kinds.NEW_TEMPLATE (template_fields template)) × (about ≡ Nothing)
Asks message (request.Tip tip) about =
    (message ≡ message_of kinds.TEMPLATE_SET_NEW_PREV_HASH (tip_fields tip)) × (about ≡ Nothing)
Asks message (request.Open ask) about = AsksOpening message ask about
Asks message (request.Update channel target) about = AsksUpdate message channel target about
Asks message (request.Close channel) about = AsksClosing message channel about
Asks message (request.Brief sub) about = AsksBrief message sub about
Asks message (request.Grant identity path) about = AsksToken message identity path about
Asks message (request.Custom custom) about = AsksOwnJob message custom about
Asks message (request.Enter role flags) about = ⊥
Asks message request.Leave about = ⊥
Asks message (request.Name channel identity) about = ⊥
Asks message (request.Commit checked) about = ⊥
Asks message (request.Poll from) about = ⊥
