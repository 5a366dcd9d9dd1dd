-- What a session knows is of what it heard.
use Rattle.std.proofs.Common.{◌≡◌, ◌+◌, ◌%◌, ◌^◌, ◌&&◌, ℕ, Bool, true, false, bit_and, Option, None, Some, Result, Ok, Err, List, [], ◌∷◌, ◌++◌, refl, sym, ap, ◌∙◌, inl, inr, arith}
use Rattle.std.proofs.lemmas.Bool.{cases_Bool}
use Rattle.std.proofs.lemmas.Nat.{and_assoc, and_le_l}
use Rattle.serde_json.specs.Data.{Data}
use Rattle.serde_json.specs.Find.{get_item}
use Rattle.pool_history.specs.declared.settings.Rules.{Rules}
use Rattle.pool_history.specs.Accounts.{account_of, is_known}
use Rattle.pool_history.specs.Judging.{rolling_mask}
use Rattle.v1_lines.specs.Requests.{MethodCall, answer_id, call_in, is_blank_line, line_value, text_at}
use Rattle.v1_translate.specs.Configuring.{Configuration, configuration_in, configured, granted_mask, may_roll}
use Rattle.v1_translate.specs.Difficulty.{asked_difficulty}
use Rattle.v1_translate.specs.Heard.{Told, Opened, NotOpened, Target, Accepted, Refused, Future, Live, Tipped, Nothing, Heard, Line, Message, Named}
use Rattle.v1_translate.specs.Laws.{IsOfWhatWasHeard, channel_by, mask_configured, mask_of_call, mask_of_configuration, mask_of_line, mask_of_method, mask_of_value, share_count, shares_in}
use Rattle.v1_translate.specs.Lines.{authorized, by_call, by_method, by_value, line_reaction, method_of, subscribed, suggested, with_channel}
use Rattle.v1_translate.specs.Messages.{jobs_after, message_reaction, name_answered, name_reaction, reaction}
use Rattle.v1_translate.specs.Sessions.{asked_after, state_after}
use Rattle.v1_translate.specs.State.{Terms, V1State, Naming, HeldJobs, Asking, Reaction, SentShare}
use Rattle.v1_translate.specs.Submitting.{AskedShare, NotSent, asked_share, checked_share, sent_or_refused, submitted}
use Rattle.v1_translate.specs.declared.methods.Method.{Method}
use Rattle.v1_translate.specs.declared.methods.Method.TheVariants.{Configure, Subscribe, Authorize, SuggestDifficulty, SubscribeExtranonce, Submit, Unknown}

-- a reaction that leaves this channel, these jobs and this mask, and counts its share
record Leaves (state : V1State) (channel : Option ℕ) (jobs : HeldJobs) (mask : ℕ) (r : Reaction) : Type 0 where
  channel_is : r.after.channel ≡ channel
  jobs_are : r.after.jobs ≡ jobs
  mask_is : r.after.mask ≡ mask
  counted : (sent : ℕ) → state.sequence ≡ sent % 2 ^ 32 → r.after.sequence ≡ (sent + share_count r.asks) % 2 ^ 32

uncounted : (sequence sent : ℕ) → sequence ≡ sent % 2 ^ 32 → sequence ≡ (sent + 0) % 2 ^ 32
uncounted sequence sent same = same ∙ ap (λ n. n % 2 ^ 32) (omega arith)

one_more : (sequence sent : ℕ) → sequence ≡ sent % 2 ^ 32 → (sequence + 1) % 2 ^ 32 ≡ (sent + 1) % 2 ^ 32
one_more sequence sent same = omega arith

configuring : (terms : Terms) (state : V1State) (id : Data) (asked : Option Configuration)
    → Leaves state state.channel state.jobs (mask_of_configuration terms state.mask asked) (configured terms state id asked)
configuring terms state id None = record { channel_is = refl; jobs_are = refl; mask_is = refl; counted = uncounted state.sequence }
configuring terms state id (Some asked) = record { channel_is = refl; jobs_are = refl; mask_is = refl; counted = uncounted state.sequence }

subscribing : (terms : Terms) (state : V1State) (id : Data) (channel : Option ℕ)
    → Leaves state state.channel state.jobs state.mask (subscribed terms state id channel)
subscribing terms state id None = record { channel_is = refl; jobs_are = refl; mask_is = refl; counted = uncounted state.sequence }
subscribing terms state id (Some channel) = record { channel_is = refl; jobs_are = refl; mask_is = refl; counted = uncounted state.sequence }

naming : (terms : Terms) (state : V1State) (id : Data) (user : Option (List ℕ))
    → Leaves state state.channel state.jobs state.mask (authorized terms state id user)
naming terms state id None = record { channel_is = refl; jobs_are = refl; mask_is = refl; counted = uncounted state.sequence }
naming terms state id (Some user) = elim (cases_Bool (is_known terms.rules (account_of user))) [
  | inl known ↦ rw known (record { channel_is = refl; jobs_are = refl; mask_is = refl; counted = uncounted state.sequence })
  | inr other ↦ rw other (record { channel_is = refl; jobs_are = refl; mask_is = refl; counted = uncounted state.sequence })
]

authorizing : (terms : Terms) (state : V1State) (id : Data) (user : Option (List ℕ)) (channel : Option ℕ)
    → Leaves state state.channel state.jobs state.mask (with_channel state id (λ c. authorized terms state id user) channel)
authorizing terms state id user None = record { channel_is = refl; jobs_are = refl; mask_is = refl; counted = uncounted state.sequence }
authorizing terms state id user (Some channel) = naming terms state id user

no_share : (terms : Terms) (channel difficulty : Option ℕ) → share_count (suggested terms channel difficulty) ≡ 0
no_share terms None difficulty = refl
no_share terms (Some channel) None = refl
no_share terms (Some channel) (Some difficulty) = refl

sending : (state : V1State) (id : Data) (checked : Result SentShare NotSent)
    → Leaves state state.channel state.jobs state.mask (sent_or_refused state id checked)
sending state id (Ok share) = record { channel_is = refl; jobs_are = refl; mask_is = refl; counted = one_more state.sequence }
sending state id (Err why) = record { channel_is = refl; jobs_are = refl; mask_is = refl; counted = uncounted state.sequence }

submitting : (state : V1State) (id : Data) (asked : Option AskedShare) (channel : Option ℕ)
    → Leaves state state.channel state.jobs state.mask (with_channel state id (λ c. submitted state id c asked) channel)
submitting state id asked None = record { channel_is = refl; jobs_are = refl; mask_is = refl; counted = uncounted state.sequence }
submitting state id None (Some channel) = record { channel_is = refl; jobs_are = refl; mask_is = refl; counted = uncounted state.sequence }
submitting state id (Some asked) (Some channel) = sending state id (checked_share state channel asked)

calling : (terms : Terms) (state : V1State) (id : Data) (call : MethodCall) (method : Method)
    → Leaves state state.channel state.jobs (mask_of_method terms state.mask call method) (by_method terms state id call.params method)
calling terms state id call Configure = configuring terms state id (configuration_in call.params)
calling terms state id call Subscribe = subscribing terms state id state.channel
calling terms state id call Authorize = authorizing terms state id (text_at 0 call.params) state.channel
calling terms state id call SuggestDifficulty =
    let none = no_share terms state.channel (asked_difficulty (get_item 0 call.params)) in
    record { channel_is = refl; jobs_are = refl; mask_is = refl; counted = λ sent same. rw none (uncounted state.sequence sent same) }
calling terms state id call SubscribeExtranonce = record { channel_is = refl; jobs_are = refl; mask_is = refl; counted = uncounted state.sequence }
calling terms state id call Submit = submitting state id (asked_share call.params) state.channel
calling terms state id call Unknown = record { channel_is = refl; jobs_are = refl; mask_is = refl; counted = uncounted state.sequence }

by_a_call : (terms : Terms) (state : V1State) (id : Data) (call : Option MethodCall)
    → Leaves state state.channel state.jobs (mask_of_call terms state.mask call) (by_call terms state id call)
by_a_call terms state id None = record { channel_is = refl; jobs_are = refl; mask_is = refl; counted = uncounted state.sequence }
by_a_call terms state id (Some call) = calling terms state id call (method_of call.method)

by_a_value : (terms : Terms) (state : V1State) (value : Option Data)
    → Leaves state state.channel state.jobs (mask_of_value terms state.mask value) (by_value terms state value)
by_a_value terms state None = record { channel_is = refl; jobs_are = refl; mask_is = refl; counted = uncounted state.sequence }
by_a_value terms state (Some value) = by_a_call terms state (answer_id value) (call_in value)

by_a_line : (terms : Terms) (state : V1State) (line : List ℕ)
    → Leaves state state.channel state.jobs (mask_of_line terms state.mask line) (line_reaction terms state line)
unfolding line_reaction
by_a_line terms state line = elim (cases_Bool (is_blank_line line)) [
  | inl blank ↦ rw blank (record { channel_is = refl; jobs_are = refl; mask_is = refl; counted = uncounted state.sequence })
  | inr other ↦ rw other (by_a_value terms state (line_value line))
]

by_a_message : (terms : Terms) (state : V1State) (told : Told)
    → Leaves state (channel_by told state.channel) (jobs_after state.jobs told) state.mask (message_reaction terms state told)
unfolding message_reaction
by_a_message terms state (Opened opened) = record { channel_is = refl; jobs_are = refl; mask_is = refl; counted = uncounted state.sequence }
by_a_message terms state (NotOpened code) = record { channel_is = refl; jobs_are = refl; mask_is = refl; counted = uncounted state.sequence }
by_a_message terms state (Target target) = record { channel_is = refl; jobs_are = refl; mask_is = refl; counted = uncounted state.sequence }
by_a_message terms state (Accepted sequence) = record { channel_is = refl; jobs_are = refl; mask_is = refl; counted = uncounted state.sequence }
by_a_message terms state (Refused sequence code) = record { channel_is = refl; jobs_are = refl; mask_is = refl; counted = uncounted state.sequence }
by_a_message terms state (Future job) = record { channel_is = refl; jobs_are = refl; mask_is = refl; counted = uncounted state.sequence }
by_a_message terms state (Live job min_ntime) = record { channel_is = refl; jobs_are = refl; mask_is = refl; counted = uncounted state.sequence }
by_a_message terms state (Tipped tip) = record { channel_is = refl; jobs_are = refl; mask_is = refl; counted = uncounted state.sequence }
by_a_message terms state Nothing = record { channel_is = refl; jobs_are = refl; mask_is = refl; counted = uncounted state.sequence }

by_an_answer : (state : V1State) (there : Option Naming) (named : Bool)
    → Leaves state state.channel state.jobs state.mask (name_answered state there named)
by_an_answer state None named = record { channel_is = refl; jobs_are = refl; mask_is = refl; counted = uncounted state.sequence }
by_an_answer state (Some naming) true = record { channel_is = refl; jobs_are = refl; mask_is = refl; counted = uncounted state.sequence }
by_an_answer state (Some naming) false = record { channel_is = refl; jobs_are = refl; mask_is = refl; counted = uncounted state.sequence }

by_a_name : (state : V1State) (named : Bool) → Leaves state state.channel state.jobs state.mask (name_reaction state named)
unfolding name_reaction
by_a_name state named = by_an_answer state state.naming named

-- one more share is counted behind the others
shares_behind : (asked : List Asking) (asking : Asking) → shares_in (asked ++ asking ∷ []) ≡ shares_in asked + share_count asking
shares_behind [] asking = omega arith
shares_behind (first ∷ asked) asking = let more = shares_behind asked asking in omega (arith, more)

grown : (terms : Terms) (past : List Heard) (heard : Heard) (channel : Option ℕ) (jobs : HeldJobs) (mask : ℕ)
    → IsOfWhatWasHeard terms past → Leaves (state_after terms past) channel jobs mask (reaction terms (state_after terms past) heard)
    → (reaction terms (state_after terms past) heard).after.sequence ≡ shares_in (asked_after terms (heard ∷ past)) % 2 ^ 32
grown terms past heard channel jobs mask is left =
    let asking = (reaction terms (state_after terms past) heard).asks in
    left.counted (shares_in (asked_after terms past)) is.sequence
    ∙ ap (λ n. n % 2 ^ 32) (sym (shares_behind (asked_after terms past) asking))

more_heard : (terms : Terms) (past : List Heard) (heard : Heard) → IsOfWhatWasHeard terms past → IsOfWhatWasHeard terms (heard ∷ past)
more_heard terms past (Line line) is =
    let left = by_a_line terms (state_after terms past) line in
    record {
      channel = left.channel_is ∙ is.channel;
      jobs = left.jobs_are ∙ is.jobs;
      mask = left.mask_is ∙ ap (λ m. mask_of_line terms m line) is.mask;
      sequence = grown terms past (Line line) _ _ _ is left;
    }
more_heard terms past (Message told) is =
    let left = by_a_message terms (state_after terms past) told in
    record {
      channel = left.channel_is ∙ ap (channel_by told) is.channel;
      jobs = left.jobs_are ∙ ap (λ jobs. jobs_after jobs told) is.jobs;
      mask = left.mask_is ∙ is.mask;
      sequence = grown terms past (Message told) _ _ _ is left;
    }
more_heard terms past (Named named) is =
    let left = by_a_name (state_after terms past) named in
    record {
      channel = left.channel_is ∙ is.channel;
      jobs = left.jobs_are ∙ is.jobs;
      mask = left.mask_is ∙ is.mask;
      sequence = grown terms past (Named named) _ _ _ is left;
    }

pub of_what_was_heard : (terms : Terms) (past : List Heard) → IsOfWhatWasHeard terms past
of_what_was_heard terms [] = record { channel = refl; jobs = refl; mask = refl; sequence = refl }
of_what_was_heard terms (heard ∷ past) = more_heard terms past heard (of_what_was_heard terms past)

-- ---- masks

abbrev IsCut : Rules → ℕ → Type 0
IsCut rules mask = bit_and mask (rolling_mask rules) ≡ mask

first_true : (a b : Bool) → (a && b) ≡ true → a ≡ true
first_true true b both = refl
first_true false b both = both

granted_cut : (rules : Rules) (asked : ℕ) → rules.version_rolling ≡ true → IsCut rules (granted_mask asked)
granted_cut rules asked may = rw may (and_assoc 0x1fffe000 asked 0x1fffe000)

configuration_cut : (terms : Terms) (before : ℕ) (asked : Option Configuration)
    → IsCut terms.rules before → IsCut terms.rules (mask_of_configuration terms before asked)
configuration_cut terms before None cut = cut
configuration_cut terms before (Some asked) cut =
    elim (cases_Bool (may_roll terms.rules asked.names)) [
      | inl may ↦ rw may (granted_cut terms.rules asked.asked (first_true _ _ may))
      | inr other ↦ rw other cut
    ]

method_cut : (terms : Terms) (before : ℕ) (call : MethodCall) (method : Method)
    → IsCut terms.rules before → IsCut terms.rules (mask_of_method terms before call method)
method_cut terms before call Configure cut = configuration_cut terms before (configuration_in call.params) cut
method_cut terms before call Subscribe cut = cut
method_cut terms before call Authorize cut = cut
method_cut terms before call SuggestDifficulty cut = cut
method_cut terms before call SubscribeExtranonce cut = cut
method_cut terms before call Submit cut = cut
method_cut terms before call Unknown cut = cut

value_cut : (terms : Terms) (before : ℕ) (value : Option Data)
    → IsCut terms.rules before → IsCut terms.rules (mask_of_value terms before value)
value_cut terms before None cut = cut
value_cut terms before (Some value) cut = call_cut (call_in value) where
  call_cut : (call : Option MethodCall) → IsCut terms.rules (mask_of_call terms before call)
  call_cut None = cut
  call_cut (Some call) = method_cut terms before call (method_of call.method) cut

configured_cut : (terms : Terms) (past : List Heard) → IsCut terms.rules (mask_configured terms past)
configured_cut terms [] = omega (arith, and_le_l 0 (rolling_mask terms.rules))
configured_cut terms (Line line ∷ past) =
    elim (cases_Bool (is_blank_line line)) [
      | inl blank ↦ rw blank (configured_cut terms past)
      | inr other ↦ rw other (value_cut terms (mask_configured terms past) (line_value line) (configured_cut terms past))
    ]
configured_cut terms (Message told ∷ past) = configured_cut terms past
configured_cut terms (Named named ∷ past) = configured_cut terms past

pub masks_cut : (terms : Terms) (past : List Heard)
    → bit_and (state_after terms past).mask (rolling_mask terms.rules) ≡ (state_after terms past).mask
masks_cut terms past = rw ((of_what_was_heard terms past).mask) (configured_cut terms past)
