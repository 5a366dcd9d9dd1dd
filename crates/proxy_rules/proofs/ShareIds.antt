-- A share that a line asks for waits under its own number, with the id of the line.
use Rattle.std.proofs.Common.{◌≡◌, ℕ, ◌==◌, Bool, true, false, Option, None, Some, Result, Ok, Err, IfOk, List, ◌∷◌, codes, refl, sym, inl, inr}
use Rattle.std.proofs.lemmas.Bool.{cases_Bool, eq-eqb}
use Rattle.serde_json.specs.Data.{Data, Items}
use Rattle.serde_json.specs.Find.{get_item}
use Rattle.pool_base.specs.Results.{◌>>=◌}
use Rattle.pool_history.specs.Accounts.{account_of, is_known}
use Rattle.pool_history.specs.Conditions.{found, provided}
use Rattle.v1_lines.specs.HexNumbers.{hex_number}
use Rattle.v1_lines.specs.Requests.{MethodCall, answer_id, call_in, is_blank_line, line_value, text_at}
use Rattle.v1_translate.specs.Configuring.{Configuration, configuration_in, configured}
use Rattle.v1_translate.specs.Difficulty.{asked_difficulty}
use Rattle.v1_translate.specs.Lines.{authorized, by_call, by_method, by_value, id_in, line_reaction, method_of, subscribed, suggested, with_channel}
use Rattle.v1_translate.specs.Messages.{answered}
use Rattle.v1_translate.specs.State.{Terms, V1State, Waiting, SentShare, Reaction}
use Rattle.v1_translate.specs.Submitting.{AskedShare, NotSent, ByCode, are_within, share_for, asked_share, checked_share, extranonce_in, sent_or_refused, submitted}
use Rattle.v1_translate.specs.declared.methods.Method.{Method}
use Rattle.v1_translate.specs.declared.methods.Method.TheVariants.{Configure, Subscribe, Authorize, SuggestDifficulty, SubscribeExtranonce, Submit, Unknown}
use Rattle.proxy_rules.specs.Laws.{WaitsBy}

-- ---- a share has the session's next number

provided_then : {X : Type 0} (number : ℕ) (holds : Bool) (why : NotSent) (x : X) (next : X → Result SentShare NotSent)
    → ((y : X) → IfOk (next y) (λ share. share.sequence ≡ number))
    → IfOk (provided holds why x >>= next) (λ share. share.sequence ≡ number)
provided_then number true why x next then = then x
provided_then number false why x next then = tt

found_then : {X : Type 0} (number : ℕ) (there : Option X) (why : NotSent) (next : X → Result SentShare NotSent)
    → ((y : X) → IfOk (next y) (λ share. share.sequence ≡ number))
    → IfOk (found why there >>= next) (λ share. share.sequence ≡ number)
found_then number None why next then = tt
found_then number (Some x) why next then = then x

provided_ok : (number : ℕ) (holds : Bool) (why : NotSent) (bytes : List ℕ) (share : SentShare) → share.sequence ≡ number
    → IfOk (provided holds why bytes >>= (λ _. Ok share)) (λ share. share.sequence ≡ number)
provided_ok number true why bytes share is = is
provided_ok number false why bytes share is = tt

pub checked_number : (state : V1State) (channel : ℕ) (asked : AskedShare)
    → IfOk (checked_share state channel asked) (λ share. share.sequence ≡ state.sequence)
checked_number state channel asked =
    provided_then state.sequence _ _ _ _ (λ worker. found_then state.sequence (hex_number asked.job) _ _ (λ job.
    found_then state.sequence (extranonce_in asked.extranonce) _ _ (λ extranonce.
    provided_ok state.sequence (are_within state.mask asked.bits) (ByCode (codes "invalid-version")) extranonce
    (share_for state channel asked job extranonce) refl)))

-- ---- by cases

first_answered : (number sequence : ℕ) (id : Data) (waiting : List Waiting) → sequence ≡ number
    → answered sequence (record { number = number; id = id } ∷ waiting) ≡ Some id
first_answered number sequence id waiting is = let same : (number == sequence) ≡ true = eq-eqb number sequence (sym is) in rw same refl

sending : (state : V1State) (id : Data) (checked : Result SentShare NotSent) → IfOk checked (λ share. share.sequence ≡ state.sequence)
    → WaitsBy id (sent_or_refused state id checked)
sending state id (Ok share) is = first_answered state.sequence share.sequence id state.waiting is
sending state id (Err why) is = tt

submitting : (state : V1State) (id : Data) (asked : Option AskedShare) (channel : Option ℕ)
    → WaitsBy id (with_channel state id (λ c. submitted state id c asked) channel)
submitting state id asked None = tt
submitting state id None (Some channel) = tt
submitting state id (Some asked) (Some channel) = sending state id (checked_share state channel asked) (checked_number state channel asked)

configuring : (terms : Terms) (state : V1State) (id : Data) (asked : Option Configuration) → WaitsBy id (configured terms state id asked)
configuring terms state id None = tt
configuring terms state id (Some asked) = tt

subscribing : (terms : Terms) (state : V1State) (id : Data) (channel : Option ℕ) → WaitsBy id (subscribed terms state id channel)
subscribing terms state id None = tt
subscribing terms state id (Some channel) = tt

naming : (terms : Terms) (state : V1State) (id : Data) (user : Option (List ℕ)) → WaitsBy id (authorized terms state id user)
naming terms state id None = tt
naming terms state id (Some user) = elim (cases_Bool (is_known terms.rules (account_of user))) [ inl known ↦ rw known tt | inr other ↦ rw other tt ]

authorizing : (terms : Terms) (state : V1State) (id : Data) (user : Option (List ℕ)) (channel : Option ℕ)
    → WaitsBy id (with_channel state id (λ c. authorized terms state id user) channel)
authorizing terms state id user None = tt
authorizing terms state id user (Some channel) = naming terms state id user

suggesting : (terms : Terms) (state : V1State) (id : Data) (channel difficulty : Option ℕ) (reaction : Reaction)
    → reaction.asks ≡ suggested terms channel difficulty → WaitsBy id reaction
suggesting terms state id None difficulty reaction is = rw is tt
suggesting terms state id (Some channel) None reaction is = rw is tt
suggesting terms state id (Some channel) (Some difficulty) reaction is = rw is tt

calling : (terms : Terms) (state : V1State) (id : Data) (params : Items) (method : Method) → WaitsBy id (by_method terms state id params method)
calling terms state id params Configure = configuring terms state id (configuration_in params)
calling terms state id params Subscribe = subscribing terms state id state.channel
calling terms state id params Authorize = authorizing terms state id (text_at 0 params) state.channel
calling terms state id params SuggestDifficulty =
    suggesting terms state id state.channel (asked_difficulty (get_item 0 params)) (by_method terms state id params SuggestDifficulty) refl
calling terms state id params SubscribeExtranonce = tt
calling terms state id params Submit = submitting state id (asked_share params) state.channel
calling terms state id params Unknown = tt

by_a_call : (terms : Terms) (state : V1State) (id : Data) (call : Option MethodCall) → WaitsBy id (by_call terms state id call)
by_a_call terms state id None = tt
by_a_call terms state id (Some call) = calling terms state id call.params (method_of call.method)

by_a_value : (terms : Terms) (state : V1State) (value : Option Data) → WaitsBy (id_in value) (by_value terms state value)
by_a_value terms state None = tt
by_a_value terms state (Some value) = by_a_call terms state (answer_id value) (call_in value)

pub by_a_line : (terms : Terms) (state : V1State) (line : List ℕ) → WaitsBy (id_in (line_value line)) (line_reaction terms state line)
unfolding line_reaction
by_a_line terms state line = elim (cases_Bool (is_blank_line line)) [
  | inl blank ↦ rw blank tt
  | inr other ↦ rw other (by_a_value terms state (line_value line))
]
