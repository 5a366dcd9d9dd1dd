-- A generated session's frames are ones that a session takes, and reach no limit.
use Rattle.std.proofs.Common.{◌≡◌, ℕ, zero, suc, ◌+◌, ◌*◌, ◌<◌, ◌≤◌, ◌^◌, inl, inr, Bool, true, false, if◌then◌else◌, None, Some, Ok, List, [], ◌∷◌, ◌++◌, length, map, refl, sym, ap, subst, ◌∙◌, arith, append-nil, append_assoc, length-append, replicate, ◌%◌}
use Rattle.std.proofs.lemmas.Grind.{flat_map-append}
use Rattle.std.proofs.lemmas.Str.{IsUtf8-from_ascii}
use Rattle.std.specs.List.{AllByRecursion, flat_map}
use Rattle.std.specs.Str.{IsAscii, IsUtf8}
use Rattle.block_header.proofs.Targets.{length-number_bytes}
use Rattle.block_header.specs.Target.{target}
use Rattle.pool_history.specs.declared.events.Role.TheVariants.{Solo}
use Rattle.sv2_types.specs.Fields.{Bytes, FieldValue, Number}
use Rattle.sv2_frames.specs.Framing.{FrameValue, frame_bytes}
use Rattle.sv2_messages.specs.declared.kinds.TheConstants as kinds
use Rattle.sv2_messages.specs.Messages.{AreSpelled, FitsFrame, Message, MsgOf, Row, ext_of, message_frame, message_payload}
use Rattle.sv2_messages.specs.Tables.{mining_table, template_table}
use Rattle.sv2_messages.proofs.Answering.{read_back}
use Rattle.sv2_messages.proofs.Defects.{fields_at-spelled}
use Rattle.session_steps.specs.Meeting.{Brings, table_for}
use Rattle.session_steps.specs.Setups.{setup_in}
use Rattle.v2_sessions.specs.Good.{AreGood, IsGoodInput, IsGoodSetup, IsIgnoredOrMessage, IsWithinLimit, talk_of}
use Rattle.pool_io.proofs.Stepping.{bytes_in-map}
use Rattle.pool_io.specs.declared.turn.Turn.TheVariants as turn
use Rattle.pool_io.specs.Steps.{IsAtLimit, IsFree, ReadStep, bytes_in, idles_after, steps_of}
use Rattle.v2_sessions.specs.Ends.{session_bounds}
use Rattle.pool_sessions.specs.Solo.{solo_manner}
use Rattle.load_command.specs.Loads.{load_idle_turns, load_rules}
use Rattle.load_command.specs.Frames.{is_job_step, job_frames, load_frames, news_frames, opening_message, openings_frames, random_at, setup_frame, setup_message, share_message, step_frames, steps_frames, template_message, templates_at, tip_message, user_name}
use Rattle.load_command.proofs.Fitting.{opening_fits, share_fits, template_fits, tip_fits}
use Rattle.mining_msgs.proofs.PlainSetups.{plain_setup_fits}

-- a message's frame
abbrev pub frame_for : List Row → Message → FrameValue
frame_for table message = record { ext = ext_of message.kind; kind = message.kind; payload = message_payload table message }

-- it is short and brings its message
record IsBrought (table : List Row) (message : Message) : Type 0 where
  within : IsWithinLimit false (frame_for table message)
  brings : Brings (frame_for table message) message

is_brought : (table : List Row) (message : Message) → message.kind < 2 ^ 8 → table_for message.kind ≡ table → FitsFrame table message
    → length (message_payload table message) ≤ 100 → IsBrought table message
is_brought table message few is fits short =
    let back = read_back table message few fits in
    let within : length (message_payload table message) ≤ 262144 = omega (arith, short) in
    record {
      within = (back.frame, within);
      brings = subst (λ t. MsgOf t message.kind (message_payload table message) message) (sym is) back.payload;
    }

-- a payload has one message
same_fields : (table : List Row) (kind : ℕ) (payload : List ℕ) (a b : Message) → MsgOf table kind payload a → MsgOf table kind payload b → a.fields ≡ b.fields
same_fields table kind payload a b is also =
    let rows : Some is.types ≡ Some also.types = sym is.row ∙ also.row in
    let types : is.types ≡ also.types = cc in
    let read : Ok a.fields ≡ Ok b.fields =
    sym (fields_at-spelled is.types a.fields payload 0 is.spelled)
    ∙ fields_at-spelled is.types b.fields payload 0 (subst (λ t. AreSpelled t b.fields payload) (sym types) also.spelled) in
    cc

same_message : (a b : Message) → a.kind ≡ b.kind → a.fields ≡ b.fields → a ≡ b
same_message a b kinds_are fields =
    ap (λ (k : ℕ). record { kind = k; fields = a.fields }) kinds_are ∙ ap (λ (fs : List FieldValue). record { kind = b.kind; fields = fs }) fields

-- what the frames of a set-up session are
abbrev IsLater : FrameValue → Type 0
IsLater frame = IsWithinLimit false frame × IsIgnoredOrMessage (talk_of Solo true false (Some 0)) frame

later : (table : List Row) (message : Message) → IsBrought table message → IsLater (frame_for table message)
later table message is = (is.within, inr (message, is.brings))

are_good : (frames : List FrameValue) → AllByRecursion IsLater frames → AreGood Solo true false (Some 0) frames
are_good [] all = tt
are_good (frame ∷ frames) all = (all.0.0, all.0.1, are_good frames all.1)

all_later : (a b : List FrameValue) → AllByRecursion IsLater a → AllByRecursion IsLater b → AllByRecursion IsLater (a ++ b)
all_later [] b all more = more
all_later (frame ∷ a) b all more = (all.0, all_later a b all.1 more)

-- each message
setup_brought : IsBrought mining_table setup_message
setup_brought = is_brought mining_table setup_message (omega arith) refl (plain_setup_fits 0 (omega arith)) (omega arith)

name_is_ascii : (number : ℕ) → IsAscii (user_name number)
name_is_ascii number zero = omega arith
name_is_ascii number (suc zero) = omega arith
name_is_ascii number (suc (suc i)) = omega arith

name_is_text : (number : ℕ) → IsUtf8 (user_name number)
name_is_text number = IsUtf8-from_ascii (user_name number) (name_is_ascii number)

opening_short : (number : ℕ) (user goal : List ℕ) → length user ≡ 2 → length goal ≡ 32
    → length (message_payload mining_table (record {
      kind = kinds.OPEN_EXTENDED_MINING_CHANNEL;
      fields = Number number ∷ Bytes user ∷ Bytes (0 ∷ 0 ∷ 0 ∷ 0 ∷ []) ∷ Bytes goal ∷ Number 8 ∷ [];
    })) ≤ 100
opening_short number user goal two whole = simp length-append (omega (arith, two, whole))

opening_brought : (number : ℕ) → number < 2 ^ 32 → IsBrought mining_table (opening_message number)
opening_brought number few =
    is_brought mining_table (opening_message number) (omega arith) refl
    (opening_fits number (user_name number) (target 0) few refl (name_is_text number) (length-number_bytes 32 _))
    (opening_short number (user_name number) (target 0) refl (length-number_bytes 32 _))

template_brought : (id : ℕ) → id < 2 ^ 64 → IsBrought template_table (template_message id)
template_brought id few = is_brought template_table (template_message id) (omega arith) refl (template_fits id [] few refl) (omega arith)

tip_short : (id : ℕ) (hash goal : List ℕ) → length hash ≡ 32 → length goal ≡ 32
    → length (message_payload template_table (record {
      kind = kinds.TEMPLATE_SET_NEW_PREV_HASH;
      fields = Number id ∷ Bytes hash ∷ Number 1000000 ∷ Number 0x207fffff ∷ Bytes goal ∷ [];
    })) ≤ 100
tip_short id hash goal long whole = simp length-append (omega (arith, long, whole))

tip_brought : (id : ℕ) → id < 2 ^ 64 → IsBrought template_table (tip_message id)
tip_brought id few =
    is_brought template_table (tip_message id) (omega arith) refl (tip_fits id (replicate 32 (id % 256)) (target 9) few refl (length-number_bytes 32 _))
    (tip_short id (replicate 32 (id % 256)) (target 9) refl (length-number_bytes 32 _))

share_brought : (step templates random : ℕ) → step < 2 ^ 32 → templates < 1000 → IsBrought mining_table (share_message step templates random)
share_brought step templates random few some =
    is_brought mining_table (share_message step templates random) (omega arith) refl (share_fits step templates random few some) (omega arith)

-- all of them
job_values : ℕ → List FrameValue
job_values id = frame_for template_table (template_message id) ∷ frame_for template_table (tip_message id) ∷ []

news_values : Bool → ℕ → List FrameValue
news_values true id = job_values id
news_values false id = []

openings_values : ℕ → List FrameValue
openings_values zero = []
openings_values (suc n) = openings_values n ++ frame_for mining_table (opening_message n) ∷ []

step_values : ℕ → ℕ → List FrameValue
step_values seed step =
    news_values (is_job_step step) (templates_at step) ++ frame_for mining_table (share_message step (templates_at step) (random_at seed step)) ∷ []

steps_values : ℕ → ℕ → List FrameValue
steps_values seed zero = []
steps_values seed (suc n) = steps_values seed n ++ step_values seed n

load_values : ℕ → ℕ → List FrameValue
load_values number steps = openings_values 16 ++ job_values 1 ++ steps_values number steps

jobs_later : (id : ℕ) → id < 2 ^ 64 → AllByRecursion IsLater (job_values id)
unfolding job_values
jobs_later id few = (later template_table (template_message id) (template_brought id few), (later template_table (tip_message id) (tip_brought id few), tt))

news_later : (b : Bool) (id : ℕ) → id < 2 ^ 64 → AllByRecursion IsLater (news_values b id)
unfolding news_values
news_later true id few = jobs_later id few
news_later false id few = tt

openings_later : (n : ℕ) → n ≤ 16 → AllByRecursion IsLater (openings_values n)
unfolding openings_values
openings_later zero few = tt
openings_later (suc n) few =
    all_later (openings_values n) (frame_for mining_table (opening_message n) ∷ []) (openings_later n (omega (arith, few)))
    (later mining_table (opening_message n) (opening_brought n (omega (arith, few))), tt)

steps_later : (seed n : ℕ) → n ≤ 20000 → AllByRecursion IsLater (steps_values seed n)
unfolding steps_values step_values
steps_later seed zero few = tt
steps_later seed (suc n) few =
    all_later (steps_values seed n) (step_values seed n) (steps_later seed n (omega (arith, few)))
    (all_later (news_values (is_job_step n) (templates_at n)) (frame_for mining_table (share_message n (templates_at n) (random_at seed n)) ∷ [])
    (news_later (is_job_step n) (templates_at n) (omega (arith, few))) (
      later mining_table (share_message n (templates_at n) (random_at seed n))
          (share_brought n (templates_at n) (random_at seed n) (omega (arith, few)) (omega (arith, few))),
      tt,
    ))

load_later : (number steps : ℕ) → steps ≤ 20000 → AllByRecursion IsLater (load_values number steps)
unfolding load_values
load_later number steps few =
    all_later (openings_values 16 ++ job_values 1) (steps_values number steps)
    (all_later (openings_values 16) (job_values 1) (openings_later 16 (omega arith)) (jobs_later 1 (omega arith))) (steps_later number steps few)

-- their bytes
bytes_joined : (a b : List FrameValue) → flat_map frame_bytes (a ++ b) ≡ flat_map frame_bytes a ++ flat_map frame_bytes b
bytes_joined a b = flat_map-append frame_bytes a b

bytes_of_one : (table : List Row) (message : Message) → flat_map frame_bytes (frame_for table message ∷ []) ≡ message_frame table message
bytes_of_one table message = append-nil (message_frame table message)

job_bytes : (id : ℕ) → flat_map frame_bytes (job_values id) ≡ job_frames id
unfolding job_values
job_bytes id = ap (λ l. message_frame template_table (template_message id) ++ l) (bytes_of_one template_table (tip_message id))

news_bytes : (b : Bool) (id : ℕ) → flat_map frame_bytes (news_values b id) ≡ (if b then job_frames id else [])
unfolding news_values
news_bytes true id = job_bytes id
news_bytes false id = refl

openings_bytes : (n : ℕ) → flat_map frame_bytes (openings_values n) ≡ openings_frames n
unfolding openings_values openings_frames
openings_bytes zero = refl
openings_bytes (suc n) =
    bytes_joined (openings_values n) (frame_for mining_table (opening_message n) ∷ [])
    ∙ ap (λ l. l ++ flat_map frame_bytes (frame_for mining_table (opening_message n) ∷ [])) (openings_bytes n)
    ∙ ap (λ l. openings_frames n ++ l) (bytes_of_one mining_table (opening_message n))

step_bytes : (seed step : ℕ) → flat_map frame_bytes (step_values seed step) ≡ step_frames seed step
unfolding step_values
step_bytes seed step =
    let share = share_message step (templates_at step) (random_at seed step) in
    bytes_joined (news_values (is_job_step step) (templates_at step)) (frame_for mining_table share ∷ [])
    ∙ ap (λ l. l ++ flat_map frame_bytes (frame_for mining_table share ∷ [])) (news_bytes (is_job_step step) (templates_at step))
    ∙ ap (λ l. news_frames step ++ l) (bytes_of_one mining_table share)

steps_bytes : (seed n : ℕ) → flat_map frame_bytes (steps_values seed n) ≡ steps_frames seed n
unfolding steps_values steps_frames
steps_bytes seed zero = refl
steps_bytes seed (suc n) =
    bytes_joined (steps_values seed n) (step_values seed n) ∙ ap (λ l. l ++ flat_map frame_bytes (step_values seed n)) (steps_bytes seed n)
    ∙ ap (λ l. steps_frames seed n ++ l) (step_bytes seed n)

later_bytes : (number steps : ℕ) → flat_map frame_bytes (load_values number steps) ≡ openings_frames 16 ++ job_frames 1 ++ steps_frames number steps
unfolding load_values
later_bytes number steps =
    bytes_joined (openings_values 16 ++ job_values 1) (steps_values number steps)
    ∙ ap (λ l. l ++ flat_map frame_bytes (steps_values number steps)) (bytes_joined (openings_values 16) (job_values 1))
    ∙ ap (λ l. l ++ flat_map frame_bytes (job_values 1) ++ flat_map frame_bytes (steps_values number steps)) (openings_bytes 16)
    ∙ ap (λ l. openings_frames 16 ++ l ++ flat_map frame_bytes (steps_values number steps)) (job_bytes 1)
    ∙ ap (λ l. openings_frames 16 ++ job_frames 1 ++ l) (steps_bytes number steps)

whole : (number steps : ℕ) → load_frames number steps ≡ flat_map frame_bytes (frame_for mining_table setup_message ∷ load_values number steps)
whole number steps = sym (
    ap (λ l. setup_frame ++ l) (later_bytes number steps)
    ∙ sym (append_assoc setup_frame (openings_frames 16 ++ job_frames 1) (steps_frames number steps))
    ∙ ap (λ l. l ++ steps_frames number steps) (sym (append_assoc setup_frame (openings_frames 16) (job_frames 1)))
    )

-- so the input is good
setup_good : IsGoodSetup Solo true false (frame_for mining_table setup_message) 0
setup_good = record {
  taken = refl;
  message = setup_message;
  brought = setup_brought.brings;
  accepted = λ read brings. ap (setup_in Solo true)
      (same_message read setup_message brings.same_kind
      (same_fields mining_table kinds.SETUP_CONNECTION (message_payload mining_table setup_message) read setup_message brings setup_brought.brings));
}

pub good_load : (number steps : ℕ) → steps ≤ 20000 → IsGoodInput (solo_manner load_rules false load_idle_turns) (turn.Piece (load_frames number steps) ∷ [])
good_load number steps few = record {
  frames = frame_for mining_table setup_message ∷ load_values number steps;
  whole =
      ap bytes_in (append-nil (map Some (load_frames number steps))) ∙ bytes_in-map (load_frames number steps) ∙ whole number steps
      ∙ sym (append-nil (flat_map frame_bytes (frame_for mining_table setup_message ∷ load_values number steps)));
  good = (setup_brought.within, inr (0, setup_good, are_good (load_values number steps) (load_later number steps few)));
}

-- and it is short
frame_length : (frame : FrameValue) → IsWithinLimit false frame → length (frame_bytes frame) ≤ 262150
frame_length frame within =
    let most : length frame.payload ≤ 262144 = within.1 in
    simp length-append (omega (arith, most))

lengths : (frames : List FrameValue) → AllByRecursion IsLater frames → length (flat_map frame_bytes frames) ≤ 262150 * length frames
lengths [] all = omega arith
lengths (frame ∷ frames) all = simp length-append (omega (arith, frame_length frame all.0.0, lengths frames all.1))

news_few : (b : Bool) (id : ℕ) → length (news_values b id) ≤ 2
unfolding news_values job_values
news_few true id = omega arith
news_few false id = omega arith

steps_few : (seed n : ℕ) → length (steps_values seed n) ≤ 3 * n
unfolding steps_values step_values
steps_few seed zero = omega arith
steps_few seed (suc n) = simp length-append (omega (arith, steps_few seed n, news_few (is_job_step n) (templates_at n)))

openings_few : (n : ℕ) → length (openings_values n) ≤ n
unfolding openings_values
openings_few zero = omega arith
openings_few (suc n) = simp length-append (omega (arith, openings_few n))

jobs_few : length (job_values 1) ≤ 2
unfolding job_values
jobs_few = omega arith

load_few : (number steps : ℕ) → steps ≤ 20000 → length (load_values number steps) ≤ 60018
unfolding load_values
load_few number steps few = simp length-append (omega (arith, few, steps_few number steps, openings_few 16, jobs_few))

load_length : (number steps : ℕ) → steps ≤ 20000 → length (load_frames number steps) < 2 ^ 40
load_length number steps few =
    let is : length (load_frames number steps) ≡ length (setup_frame ++ flat_map frame_bytes (load_values number steps)) = ap length (whole number steps) in
    let joined : length (setup_frame ++ flat_map frame_bytes (load_values number steps)) ≡ length setup_frame + length (flat_map frame_bytes (load_values number steps)) =
    length-append setup_frame (flat_map frame_bytes (load_values number steps)) in
    let first : length setup_frame ≤ 262150 = frame_length (frame_for mining_table setup_message) setup_brought.within in
    let rest : length (flat_map frame_bytes (load_values number steps)) ≤ 262150 * length (load_values number steps) = lengths (load_values number steps) (load_later number steps few) in
    let many : length (load_values number steps) ≤ 60018 = load_few number steps few in
    omega (arith, is, joined, first, rest, many)

-- bytes that all come together reach no limit of Idle turns
fronts : (bytes : List ℕ) (front rest : List ReadStep) → map Some bytes ≡ front ++ rest → (idles_after 0 front ≡ 0) × (length (bytes_in front) ≤ length bytes)
fronts bytes [] rest is = (refl, omega arith)
fronts [] (step ∷ front) rest is = absurd cc
fronts (byte ∷ bytes) (None ∷ front) rest is = absurd cc
fronts (byte ∷ bytes) (Some other ∷ front) rest is =
    let more : (idles_after 0 front ≡ 0) × (length (bytes_in front) ≤ length bytes) = fronts bytes front rest cc in (more.0, omega (arith, more.1))

free_front : (bytes : List ℕ) (front rest : List ReadStep) → length bytes < 2 ^ 40 → map Some bytes ≡ front ++ rest → IsAtLimit (session_bounds load_idle_turns) front → ⊥
free_front bytes front rest short is (inl idle) = let some = fronts bytes front rest is in absurd (omega (arith, idle, some.0))
free_front bytes front rest short is (inr many) = let some = fronts bytes front rest is in absurd (omega (arith, many, some.1, short))

pub free_load : (number steps : ℕ) → steps ≤ 20000 → IsFree (session_bounds load_idle_turns) (steps_of (turn.Piece (load_frames number steps) ∷ []))
free_load number steps few =
    let bytes = load_frames number steps in
    let all : map Some bytes ++ [] ≡ map Some bytes = append-nil (map Some bytes) in (
      λ front step rest is. free_front bytes front (step ∷ rest) (load_length number steps few) (sym all ∙ is),
      λ limit. free_front bytes (map Some bytes ++ []) [] (load_length number steps few) (sym all ∙ sym (append-nil (map Some bytes ++ []))) limit,
    )
