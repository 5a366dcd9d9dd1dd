-- Setups and frames of each role: which are acceptable, and which are taken.
use Rattle.std.proofs.Common.{◌≡◌, true, false, None, Some, [], ◌∷◌, refl}
use Rattle.sv2_types.specs.Fields.{Number, Bytes}
use Rattle.pool_history.specs.declared.events.Role.TheVariants.{Miner, Feed, Solo}
use Rattle.session_steps.specs.declared.meeting.SetupCode.TheVariants as code
use Rattle.session_steps.specs.Asking.{message_of}
use Rattle.session_steps.specs.Setups.{Accepted, Refused, Unsuited, setup_by, setup_in}
use Rattle.session_steps.specs.Taken.{is_taken, takes_kind}
use Rattle.session_steps.specs.Talks.{new_talk}

-- the first reason is told, and the flags only where they are the reason
pub other_protocol : setup_by true 1 3 3 0xff ≡ Refused code.Protocol 0
other_protocol = refl

pub older_version : setup_by true 0 0 1 0xff ≡ Refused code.Version 0
older_version = refl

pub newer_version : setup_by true 0 3 9 0 ≡ Refused code.Version 0
newer_version = refl

pub other_flags : setup_by true 0 2 2 0x8000000f ≡ Refused code.Flags 0x80000008
other_flags = refl

pub rolling_refused : setup_by false 0 1 2 7 ≡ Refused code.Flags 4
rolling_refused = refl

pub all_flags : setup_by true 0 2 5 7 ≡ Accepted 7
all_flags = refl

-- a feed answers with version 2, whatever its flags are
pub feed_answers : setup_in Feed true (message_of 1 (Number 2 ∷ Number 9 ∷ [])) ≡ Accepted 9
feed_answers = refl

pub feed_of_another_version : setup_in Feed true (message_of 1 (Number 3 ∷ Number 0 ∷ [])) ≡ Unsuited
feed_of_another_version = refl

pub feed_refuses : setup_in Feed true (message_of 2 (Number 0 ∷ Bytes [] ∷ [])) ≡ Unsuited
feed_refuses = refl

-- what is no setup of the role
pub miner_answers : setup_in Miner true (message_of 1 (Number 2 ∷ Number 0 ∷ [])) ≡ Unsuited
miner_answers = refl

pub work_comes_first : setup_in Solo true (message_of 0x18 (Number 1 ∷ Bytes [] ∷ [])) ≡ Unsuited
work_comes_first = refl

-- before the setup and after it
pub setup_first : takes_kind Solo None 0 ≡ true
setup_first = refl

pub setup_later : takes_kind Solo (Some 0) 0 ≡ false
setup_later = refl

pub answer_first : takes_kind Feed None 2 ≡ true
answer_first = refl

pub answer_later : takes_kind Feed (Some 0) 1 ≡ false
answer_later = refl

pub answer_of_a_miner : takes_kind Miner None 1 ≡ false
answer_of_a_miner = refl

-- templates, shares and a miner's own jobs, by role and flags
pub template_of_a_miner : takes_kind Miner (Some 7) 0x71 ≡ false
template_of_a_miner = refl

pub template_of_solo : takes_kind Solo (Some 0) 0x72 ≡ true
template_of_solo = refl

pub share_of_a_feed : takes_kind Feed (Some 7) 0x1b ≡ false
share_of_a_feed = refl

pub share_of_a_miner : takes_kind Miner (Some 0) 0x1a ≡ true
share_of_a_miner = refl

pub own_job : takes_kind Miner (Some 2) 0x22 ≡ true
own_job = refl

pub own_job_without_its_flag : takes_kind Miner (Some 5) 0x22 ≡ false
own_job_without_its_flag = refl

pub token_before_the_setup : takes_kind Solo None 0x50 ≡ false
token_before_the_setup = refl

pub token_of_a_feed : takes_kind Feed (Some 2) 0x50 ≡ false
token_of_a_feed = refl

-- the channel bit isn't tested, and any other bit is
pub with_channel_bit : is_taken (new_talk Solo true false) (record { ext = 0x8000; kind = 0; payload = [] }) ≡ true
with_channel_bit = refl

pub with_another_bit : is_taken (new_talk Solo true false) (record { ext = 0x8001; kind = 0; payload = [] }) ≡ false
with_another_bit = refl

-- declarations, and the transactions that they lack, where they are taken at all
pub declaration : is_taken (record (new_talk Miner true true) { flags = Some 2 }) (record { ext = 0; kind = 0x57; payload = [] }) ≡ true
declaration = refl

pub transactions : is_taken (record (new_talk Solo true true) { flags = Some 3 }) (record { ext = 0; kind = 0x56; payload = [] }) ≡ true
transactions = refl

pub declaration_without_its_flag : is_taken (record (new_talk Solo true true) { flags = Some 5 }) (record { ext = 0; kind = 0x57; payload = [] }) ≡ false
declaration_without_its_flag = refl

pub declaration_of_a_feed : is_taken (record (new_talk Feed true true) { flags = Some 2 }) (record { ext = 0; kind = 0x57; payload = [] }) ≡ false
declaration_of_a_feed = refl

pub declaration_before_the_setup : is_taken (new_talk Solo true true) (record { ext = 0; kind = 0x57; payload = [] }) ≡ false
declaration_before_the_setup = refl

pub declaration_where_none_is_taken : is_taken (record (new_talk Solo true false) { flags = Some 2 }) (record { ext = 0; kind = 0x57; payload = [] }) ≡ false
declaration_where_none_is_taken = refl
