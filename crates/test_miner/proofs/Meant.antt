-- What a payload says, by what was read of it.
use Rattle.std.proofs.Common.{◌≡◌, ◌==◌, ◌%◌, ℕ, false, Option, None, Some, Result, Ok, Err, List, refl, sym, ap, ◌∙◌}
use Rattle.std.specs.Prelude.{IsOkAnd}
use Rattle.sv2_types.specs.Fields.{FieldType, FieldValue}
use Rattle.sv2_types.proofs.Items.{IsBytes}
use Rattle.sv2_messages.specs.declared.error.MsgError.{MsgError}
use Rattle.sv2_messages.specs.Messages.{Message, MsgOf, Row, types_of}
use Rattle.sv2_messages.specs.Reading.{values_by, values_of}
use Rattle.sv2_messages.specs.Tables.{mining_table, template_table}
use Rattle.sv2_messages.proofs.Defects.{fields_at-spelled, spelled-fields_at}
use Rattle.test_miner.specs.declared.notice.Notice.{Notice}
use Rattle.test_miner.specs.declared.notice.Notice.TheVariants.{Other}
use Rattle.test_miner.specs.FeedHearing.{asks_for_templates, refused_by_kind, solved, solved_by, solved_by_fields, suits, suits_by}
use Rattle.test_miner.specs.FeedStates.{FeedState}
use Rattle.test_miner.specs.Notices.{meaning, notice_by, notice_in, unread_notice}
use Rattle.test_miner.specs.Scripts.{Entry, NoEntry, entry_by, entry_of, entry_spelled}

-- a message's fields are the values of its payload
values_found : (table : List Row) (kind : ℕ) (payload : List ℕ) (message : Message) → MsgOf table kind payload message → values_of table kind payload ≡ Ok message.fields
unfolding values_of
values_found table kind payload message brings = rw brings.row (fields_at-spelled brings.types message.fields payload 0 brings.spelled)

-- the values of a payload are its message's
message_of_values : (table : List Row) (found : Option (List FieldType)) (kind : ℕ) (payload : List ℕ) (fields : List FieldValue) → IsBytes payload → types_of table kind ≡ found
    → values_by found kind payload ≡ Ok fields → MsgOf table kind payload (record { kind = kind; fields = fields })
message_of_values table None kind payload fields bytes row is = absurd cc
message_of_values table (Some types) kind payload fields bytes row is =
    record { same_kind = refl; types = types; row = row; spelled = spelled-fields_at types fields payload 0 bytes is }

values_none : (table : List Row) (kind : ℕ) (payload : List ℕ) → IsBytes payload → ((message : Message) → MsgOf table kind payload message → ⊥)
    → (fields : List FieldValue) → values_of table kind payload ≡ Ok fields → ⊥
unfolding values_of
values_none table kind payload bytes none fields is = none _ (message_of_values table (types_of table kind) kind payload fields bytes refl is)

none_by : {Y : Type 0} (by : Result (List FieldValue) MsgError → Y) (y : Y) (values : Result (List FieldValue) MsgError) → ((error : MsgError) → by (Err error) ≡ y)
    → ((fields : List FieldValue) → values ≡ Ok fields → ⊥) → by values ≡ y
none_by by y (Ok fields) refused none = absurd (none fields refl)
none_by by y (Err error) refused none = refused error

-- what is made of a payload that no message was read of
module _ {X Y : Type 0} (seen : X → Message) (table : List Row) (by : Result (List FieldValue) MsgError → Y) (y : Y) where
  none_spelled : (result : Result X MsgError) (error : MsgError) (kind : ℕ) (payload : List ℕ) → ((e : MsgError) → by (Err e) ≡ y) → IsBytes payload → result ≡ Err error
      → ((message : Message) → MsgOf table kind payload message → IsOkAnd result (λ read. seen read ≡ message)) → by (values_of table kind payload) ≡ y
  none_spelled result error kind payload refused bytes is only =
      let none : (message : Message) → MsgOf table kind payload message → ⊥ = λ message brings. rw is at (only message brings) in
      none_by by y (values_of table kind payload) refused (values_none table kind payload bytes none)

-- what is said by a message that was read
pub message_meant : (kind : ℕ) (payload : List ℕ) (message : Message) → MsgOf mining_table kind payload message
    → notice_in (record { ext = 0; kind = kind; payload = payload }) ≡ meaning message.kind message.fields
unfolding notice_in
message_meant kind payload message brings =
    ap (λ (values : Result (List FieldValue) MsgError). notice_by kind values) (values_found mining_table kind payload message brings)
    ∙ ap (λ (k : ℕ). meaning k message.fields) (sym brings.same_kind)

-- what is said by a payload that is no message
pub none_meant : {X : Type 0} (seen : X → Message) (result : Result X MsgError) (error : MsgError) (kind : ℕ) (payload : List ℕ) → IsBytes payload → result ≡ Err error
    → ((message : Message) → MsgOf mining_table kind payload message → IsOkAnd result (λ read. seen read ≡ message))
    → notice_in (record { ext = 0; kind = kind; payload = payload }) ≡ unread_notice kind
unfolding notice_in
none_meant seen result error kind payload bytes is only =
    none_spelled seen mining_table (λ (values : Result (List FieldValue) MsgError). notice_by kind values) (unread_notice kind) result error kind payload (λ e. refl) bytes is only

-- the channel bit says nothing
pub same_notice : (ext kind : ℕ) (payload : List ℕ) → ext % 0x8000 ≡ 0
    → notice_in (record { ext = ext; kind = kind; payload = payload }) ≡ notice_in (record { ext = 0; kind = kind; payload = payload })
unfolding notice_in
same_notice ext kind payload plain = rw plain refl

-- another extension bit says nothing to a miner
pub other_notice : (ext kind : ℕ) (payload : List ℕ) → (ext % 0x8000 == 0) ≡ false → notice_in (record { ext = ext; kind = kind; payload = payload }) ≡ Other
unfolding notice_in
other_notice ext kind payload extended = rw extended refl

-- what a payload brings to a script
pub entry_meant : (kind : ℕ) (payload : List ℕ) (message : Message) → MsgOf template_table kind payload message → entry_spelled kind payload ≡ entry_of message.kind message.fields
unfolding entry_spelled
entry_meant kind payload message brings =
    ap (λ (values : Result (List FieldValue) MsgError). entry_by kind values) (values_found template_table kind payload message brings)
    ∙ ap (λ (k : ℕ). entry_of k message.fields) (sym brings.same_kind)

pub no_entry_meant : {X : Type 0} (seen : X → Message) (result : Result X MsgError) (error : MsgError) (kind : ℕ) (payload : List ℕ) → IsBytes payload → result ≡ Err error
    → ((message : Message) → MsgOf template_table kind payload message → IsOkAnd result (λ read. seen read ≡ message)) → entry_spelled kind payload ≡ NoEntry
unfolding entry_spelled
no_entry_meant seen result error kind payload bytes is only =
    none_spelled seen template_table (λ (values : Result (List FieldValue) MsgError). entry_by kind values) NoEntry result error kind payload (λ e. refl) bytes is only

-- whether a payload sets a feed up
pub setup_meant : (kind : ℕ) (payload : List ℕ) (message : Message) → MsgOf mining_table kind payload message → suits kind payload ≡ asks_for_templates message.kind message.fields
unfolding suits
setup_meant kind payload message brings =
    ap (λ (values : Result (List FieldValue) MsgError). suits_by kind values) (values_found mining_table kind payload message brings)
    ∙ ap (λ (k : ℕ). asks_for_templates k message.fields) (sym brings.same_kind)

pub no_setup_meant : {X : Type 0} (seen : X → Message) (result : Result X MsgError) (error : MsgError) (kind : ℕ) (payload : List ℕ) → IsBytes payload → result ≡ Err error
    → ((message : Message) → MsgOf mining_table kind payload message → IsOkAnd result (λ read. seen read ≡ message)) → suits kind payload ≡ false
unfolding suits
no_setup_meant seen result error kind payload bytes is only =
    none_spelled seen mining_table (λ (values : Result (List FieldValue) MsgError). suits_by kind values) false result error kind payload (λ e. refl) bytes is only

-- what a payload leads a feed to
pub solution_meant : (kind : ℕ) (payload : List ℕ) (message : Message) (state : FeedState) → MsgOf template_table kind payload message
    → solved kind payload state ≡ solved_by_fields message.kind message.fields state
unfolding solved
solution_meant kind payload message state brings =
    ap (λ (values : Result (List FieldValue) MsgError). solved_by kind values state) (values_found template_table kind payload message brings)
    ∙ ap (λ (k : ℕ). solved_by_fields k message.fields state) (sym brings.same_kind)

pub no_solution_meant : {X : Type 0} (seen : X → Message) (result : Result X MsgError) (error : MsgError) (kind : ℕ) (payload : List ℕ) (state : FeedState) → IsBytes payload → result ≡ Err error
    → ((message : Message) → MsgOf template_table kind payload message → IsOkAnd result (λ read. seen read ≡ message)) → solved kind payload state ≡ refused_by_kind kind state
unfolding solved
no_solution_meant seen result error kind payload state bytes is only =
    none_spelled seen template_table (λ (values : Result (List FieldValue) MsgError). solved_by kind values state) (refused_by_kind kind state) result error kind payload (λ e. refl) bytes is only
