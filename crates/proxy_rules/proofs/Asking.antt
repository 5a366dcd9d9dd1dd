-- What a session says to a line and what it leaves to its pool: it answers the line, or one request
-- waits for what the pool is asked.
use Rattle.std.proofs.Common.{◌≡◌, ℕ, Option, None, Some, Result, Ok, Err, IfOk, List, [], ◌∷◌, refl, inl, inr}
use Rattle.std.proofs.lemmas.Bool.{cases_Bool}
use Rattle.serde_json.specs.Data.{Data, Items}
use Rattle.serde_json.specs.Find.{get_item}
use Rattle.pool_history.specs.Accounts.{account_of, is_known}
use Rattle.v1_lines.specs.Requests.{MethodCall, answer_id, call_in, is_blank_line, line_value, text_at}
use Rattle.v1_translate.specs.Configuring.{Configuration, configuration_in, configured}
use Rattle.v1_translate.specs.Difficulty.{asked_difficulty}
use Rattle.v1_translate.specs.Laws.{answered_in, request_of}
use Rattle.v1_translate.specs.Lines.{authorized, by_call, by_method, by_value, id_in, line_reaction, method_of, subscribed, suggested, with_channel, yes}
use Rattle.v1_translate.specs.State.{Terms, V1State, Waiting, Saying, Answer, SentShare, Asking, Silence, Open, Update, Share, Name, Reaction}
use Rattle.v1_translate.specs.Submitting.{AskedShare, NotSent, ByError, ByCode, asked_share, checked_share, sent_or_refused, submitted}
use Rattle.v1_translate.specs.declared.methods.Method.{Method}
use Rattle.v1_translate.specs.declared.methods.Method.TheVariants.{Configure, Subscribe, Authorize, SuggestDifficulty, SubscribeExtranonce, Submit, Unknown}
use Rattle.proxy_rules.specs.Sayings.{IsSilent, SentLinesAreSilent}
use Rattle.proxy_rules.proofs.ShareIds.{checked_number}

-- no request waits
pub record IsClear (state : V1State) : Type 0 where
  pub subscriber : state.subscriber ≡ None
  pub naming : state.naming ≡ None
  pub waiting : state.waiting ≡ []

-- one does: a subscribe, a name, or a share
pub record Subscribes (id : Data) (state : V1State) : Type 0 where
  pub subscriber : state.subscriber ≡ Some id
  pub naming : state.naming ≡ None
  pub waiting : state.waiting ≡ []

pub record IsNamed (id : Data) (account : List ℕ) (state : V1State) : Type 0 where
  pub subscriber : state.subscriber ≡ None
  pub naming : state.naming ≡ Some (record { id = id; account = account })
  pub waiting : state.waiting ≡ []

pub record Submits (id : Data) (number : ℕ) (state : V1State) : Type 0 where
  pub subscriber : state.subscriber ≡ None
  pub naming : state.naming ≡ None
  pub waiting : state.waiting ≡ record { number = number; id = id } ∷ []

-- these requests are answered
pub record Replies (before : V1State) (ids : List Data) (says : List Saying) (after : V1State) : Type 0 where
  pub answers : answered_in says ≡ ids
  pub clear : IsClear before → IsClear after

-- the one request waits, and nothing is said
pub record HandsOn (before : V1State) (ids : List Data) (says : List Saying) (Waits : Data → Type 0) : Type 0 where
  pub id : Data
  pub only : ids ≡ id ∷ []
  pub silent : says ≡ []
  pub waits : IsClear before → Waits id

abbrev pub LeavesBy : V1State → List Data → List Saying → V1State → Asking → Type 0
LeavesBy before ids says after Silence = Replies before ids says after
LeavesBy before ids says after (Update channel class) = Replies before ids says after
LeavesBy before ids says after (Open class) = HandsOn before ids says (λ id. Subscribes id after)
LeavesBy before ids says after (Name account) = HandsOn before ids says (λ id. IsNamed id account after)
LeavesBy before ids says after (Share share) = HandsOn before ids says (λ id. Submits id share.sequence after)

abbrev pub Leaves : V1State → List Data → Reaction → Type 0
Leaves before ids reaction = LeavesBy before ids reaction.says reaction.after reaction.asks

-- ---- by cases

configuring : (terms : Terms) (state : V1State) (id : Data) (asked : Option Configuration)
    → Leaves state (id ∷ []) (configured terms state id asked)
configuring terms state id None = record { answers = refl; clear = λ clear. clear }
configuring terms state id (Some asked) =
    record {
      answers = refl;
      clear = λ clear. record { subscriber = clear.subscriber; naming = clear.naming; waiting = clear.waiting };
    }

subscribing : (terms : Terms) (state : V1State) (id : Data) (channel : Option ℕ)
    → Leaves state (id ∷ []) (subscribed terms state id channel)
subscribing terms state id None =
    record {
      id = id;
      only = refl;
      silent = refl;
      waits = λ clear. record { subscriber = refl; naming = clear.naming; waiting = clear.waiting };
    }
subscribing terms state id (Some channel) = record { answers = refl; clear = λ clear. clear }

naming : (terms : Terms) (state : V1State) (id : Data) (user : Option (List ℕ))
    → Leaves state (id ∷ []) (authorized terms state id user)
naming terms state id None = record { answers = refl; clear = λ clear. clear }
naming terms state id (Some user) = elim (cases_Bool (is_known terms.rules (account_of user))) [
  | inl known ↦ rw known (record {
    id = id;
    only = refl;
    silent = refl;
    waits = λ clear. record { subscriber = clear.subscriber; naming = refl; waiting = clear.waiting };
  })
  | inr other ↦ rw other (record { answers = refl; clear = λ clear. clear })
]

authorizing : (terms : Terms) (state : V1State) (id : Data) (user : Option (List ℕ)) (channel : Option ℕ)
    → Leaves state (id ∷ []) (with_channel state id (λ c. authorized terms state id user) channel)
authorizing terms state id user None = record { answers = refl; clear = λ clear. clear }
authorizing terms state id user (Some channel) = naming terms state id user

suggesting : (terms : Terms) (state : V1State) (id : Data) (channel difficulty : Option ℕ)
    → LeavesBy state (id ∷ []) (Answer id yes ∷ []) state (suggested terms channel difficulty)
suggesting terms state id None difficulty = record { answers = refl; clear = λ clear. clear }
suggesting terms state id (Some channel) None = record { answers = refl; clear = λ clear. clear }
suggesting terms state id (Some channel) (Some difficulty) = record { answers = refl; clear = λ clear. clear }

numbered : (number sequence : ℕ) (id : Data) (waiting : List Waiting) → sequence ≡ number → waiting ≡ []
    → record { number = number; id = id } ∷ waiting ≡ record { number = sequence; id = id } ∷ []
numbered number sequence id waiting is none = rw (is, none) refl

sending : (state : V1State) (id : Data) (checked : Result SentShare NotSent) → IfOk checked (λ share. share.sequence ≡ state.sequence)
    → Leaves state (id ∷ []) (sent_or_refused state id checked)
sending state id (Ok share) is =
    record {
      id = id;
      only = refl;
      silent = refl;
      waits = λ clear. record {
        subscriber = clear.subscriber;
        naming = clear.naming;
        waiting = numbered state.sequence share.sequence id state.waiting is clear.waiting;
      };
    }
sending state id (Err (ByError error)) is = record { answers = refl; clear = λ clear. clear }
sending state id (Err (ByCode code)) is = record { answers = refl; clear = λ clear. clear }

submitting : (state : V1State) (id : Data) (asked : Option AskedShare) (channel : Option ℕ)
    → Leaves state (id ∷ []) (with_channel state id (λ c. submitted state id c asked) channel)
submitting state id asked None = record { answers = refl; clear = λ clear. clear }
submitting state id None (Some channel) = record { answers = refl; clear = λ clear. clear }
submitting state id (Some asked) (Some channel) =
    sending state id (checked_share state channel asked) (checked_number state channel asked)

calling : (terms : Terms) (state : V1State) (id : Data) (params : Items) (method : Method)
    → Leaves state (id ∷ []) (by_method terms state id params method)
calling terms state id params Configure = configuring terms state id (configuration_in params)
calling terms state id params Subscribe = subscribing terms state id state.channel
calling terms state id params Authorize = authorizing terms state id (text_at 0 params) state.channel
calling terms state id params SuggestDifficulty = suggesting terms state id state.channel (asked_difficulty (get_item 0 params))
calling terms state id params SubscribeExtranonce = record { answers = refl; clear = λ clear. clear }
calling terms state id params Submit = submitting state id (asked_share params) state.channel
calling terms state id params Unknown = record { answers = refl; clear = λ clear. clear }

by_a_call : (terms : Terms) (state : V1State) (id : Data) (call : Option MethodCall)
    → Leaves state (id ∷ []) (by_call terms state id call)
by_a_call terms state id None = record { answers = refl; clear = λ clear. clear }
by_a_call terms state id (Some call) = calling terms state id call.params (method_of call.method)

by_a_value : (terms : Terms) (state : V1State) (value : Option Data) → Leaves state (id_in value ∷ []) (by_value terms state value)
by_a_value terms state None = record { answers = refl; clear = λ clear. clear }
by_a_value terms state (Some value) = by_a_call terms state (answer_id value) (call_in value)

pub leaves : (terms : Terms) (state : V1State) (line : List ℕ) → Leaves state (request_of line) (line_reaction terms state line)
unfolding line_reaction
leaves terms state line = elim (cases_Bool (is_blank_line line)) [
  | inl blank ↦ rw blank (record { answers = refl; clear = λ clear. clear })
  | inr other ↦ rw other (by_a_value terms state (line_value line))
]

silent_by : (before : V1State) (ids : List Data) (reaction : Reaction) (asks : Asking) → reaction.asks ≡ asks
    → LeavesBy before ids reaction.says reaction.after asks → IsSilent reaction
silent_by before ids reaction Silence is leaves = rw is tt
silent_by before ids reaction (Update channel class) is leaves = rw is tt
silent_by before ids reaction (Open class) is leaves = rw is tt
silent_by before ids reaction (Name account) is leaves = rw is tt
silent_by before ids reaction (Share share) is leaves = rw is leaves.silent

pub sent_is_silent : SentLinesAreSilent
sent_is_silent terms state line =
    let reaction : Reaction = line_reaction terms state line in
    silent_by state (request_of line) reaction reaction.asks refl (leaves terms state line)
