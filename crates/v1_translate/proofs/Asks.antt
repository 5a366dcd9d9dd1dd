-- What is asked of the pool, by cases.
use Rattle.std.proofs.Common.{◌≡◌, ℕ, Bool, true, false, Option, None, Some, Result, Ok, Err, IfOk, List, codes, refl, sym, ap, inl, inr, arith}
use Rattle.std.proofs.lemmas.Bool.{cases_Bool}
use Rattle.serde_json.specs.Data.{Data, Items}
use Rattle.serde_json.specs.Find.{get_item}
use Rattle.pool_base.specs.Results.{◌>>=◌}
use Rattle.pool_history.specs.Accounts.{account_of, is_known}
use Rattle.pool_history.specs.Conditions.{found, provided}
use Rattle.v1_lines.specs.Requests.{MethodCall, answer_id, call_in, is_blank_line, line_value, text_at}
use Rattle.v1_translate.specs.Configuring.{Configuration, configuration_in, configured}
use Rattle.v1_translate.specs.Difficulty.{asked_difficulty}
use Rattle.v1_translate.specs.Heard.{Told, Opened, NotOpened, Target, Accepted, Refused, Future, Live, Tipped, Nothing, Heard, Line, Message, Named}
use Rattle.v1_translate.specs.Laws.{IsAskedOn}
use Rattle.v1_translate.specs.Lines.{authorized, by_call, by_method, by_value, line_reaction, method_of, subscribed, suggested, with_channel}
use Rattle.v1_translate.specs.Messages.{message_reaction, name_answered, name_reaction, reaction}
use Rattle.v1_translate.specs.State.{Terms, V1State, Naming, SentShare}
use Rattle.v1_translate.specs.Submitting.{AskedShare, NotSent, ByCode, are_within, share_for, asked_share, checked_share, extranonce_in, sent_or_refused, submitted}
use Rattle.v1_lines.specs.HexNumbers.{hex_number}
use Rattle.v1_translate.specs.declared.methods.Method.{Method}
use Rattle.v1_translate.specs.declared.methods.Method.TheVariants.{Configure, Subscribe, Authorize, SuggestDifficulty, SubscribeExtranonce, Submit, Unknown}

configuring : (terms : Terms) (state : V1State) (id : Data) (asked : Option Configuration)
    → IsAskedOn terms state.channel (configured terms state id asked).asks
configuring terms state id None = tt
configuring terms state id (Some asked) = tt

subscribing : (terms : Terms) (state : V1State) (id : Data) (channel : Option ℕ)
    → IsAskedOn terms channel (subscribed terms state id channel).asks
subscribing terms state id None = (refl, refl)
subscribing terms state id (Some channel) = tt

naming : (terms : Terms) (state : V1State) (id : Data) (channel : ℕ) (user : Option (List ℕ))
    → IsAskedOn terms (Some channel) (authorized terms state id user).asks
naming terms state id channel None = tt
naming terms state id channel (Some user) = elim (cases_Bool (is_known terms.rules (account_of user))) [
  | inl known ↦ rw known (refl, known)
  | inr other ↦ rw other tt
]

authorizing : (terms : Terms) (state : V1State) (id : Data) (user : Option (List ℕ)) (channel : Option ℕ)
    → IsAskedOn terms channel (with_channel state id (λ c. authorized terms state id user) channel).asks
authorizing terms state id user None = tt
authorizing terms state id user (Some channel) = naming terms state id channel user

suggesting : (terms : Terms) (channel difficulty : Option ℕ) → IsAskedOn terms channel (suggested terms channel difficulty)
suggesting terms None difficulty = tt
suggesting terms (Some channel) None = tt
suggesting terms (Some channel) (Some difficulty) = (refl, omega arith)

-- a share is for its channel
provided_then : {X : Type 0} (channel : ℕ) (holds : Bool) (why : NotSent) (x : X) (next : X → Result SentShare NotSent)
    → ((y : X) → IfOk (next y) (λ share. share.channel ≡ channel))
    → IfOk (provided holds why x >>= next) (λ share. share.channel ≡ channel)
provided_then channel true why x next then = then x
provided_then channel false why x next then = tt

found_then : {X : Type 0} (channel : ℕ) (there : Option X) (why : NotSent) (next : X → Result SentShare NotSent)
    → ((y : X) → IfOk (next y) (λ share. share.channel ≡ channel))
    → IfOk (found why there >>= next) (λ share. share.channel ≡ channel)
found_then channel None why next then = tt
found_then channel (Some x) why next then = then x

provided_ok : (channel : ℕ) (holds : Bool) (why : NotSent) (bytes : List ℕ) (share : SentShare) → share.channel ≡ channel
    → IfOk (provided holds why bytes >>= (λ _. Ok share)) (λ share. share.channel ≡ channel)
provided_ok channel true why bytes share on = on
provided_ok channel false why bytes share on = tt

checked_on : (state : V1State) (channel : ℕ) (asked : AskedShare)
    → IfOk (checked_share state channel asked) (λ share. share.channel ≡ channel)
checked_on state channel asked =
    provided_then channel _ _ _ _ (λ worker. found_then channel (hex_number asked.job) _ _ (λ job.
    found_then channel (extranonce_in asked.extranonce) _ _ (λ extranonce.
    provided_ok channel (are_within state.mask asked.bits) (ByCode (codes "invalid-version")) extranonce
    (share_for state channel asked job extranonce) refl)))

sending : (terms : Terms) (state : V1State) (id : Data) (channel : ℕ) (checked : Result SentShare NotSent)
    → IfOk checked (λ share. share.channel ≡ channel)
    → IsAskedOn terms (Some channel) (sent_or_refused state id checked).asks
sending terms state id channel (Ok share) on = ap Some (sym on)
sending terms state id channel (Err why) on = tt

submitting : (terms : Terms) (state : V1State) (id : Data) (asked : Option AskedShare) (channel : ℕ)
    → IsAskedOn terms (Some channel) (submitted state id channel asked).asks
submitting terms state id None channel = tt
submitting terms state id (Some asked) channel =
    sending terms state id channel (checked_share state channel asked) (checked_on state channel asked)

on_channel : (terms : Terms) (state : V1State) (id : Data) (asked : Option AskedShare) (channel : Option ℕ)
    → IsAskedOn terms channel (with_channel state id (λ c. submitted state id c asked) channel).asks
on_channel terms state id asked None = tt
on_channel terms state id asked (Some channel) = submitting terms state id asked channel

calling : (terms : Terms) (state : V1State) (id : Data) (params : Items) (method : Method)
    → IsAskedOn terms state.channel (by_method terms state id params method).asks
calling terms state id params Configure = configuring terms state id (configuration_in params)
calling terms state id params Subscribe = subscribing terms state id state.channel
calling terms state id params Authorize = authorizing terms state id (text_at 0 params) state.channel
calling terms state id params SuggestDifficulty = suggesting terms state.channel (asked_difficulty (get_item 0 params))
calling terms state id params SubscribeExtranonce = tt
calling terms state id params Submit = on_channel terms state id (asked_share params) state.channel
calling terms state id params Unknown = tt

by_a_call : (terms : Terms) (state : V1State) (id : Data) (call : Option MethodCall)
    → IsAskedOn terms state.channel (by_call terms state id call).asks
by_a_call terms state id None = tt
by_a_call terms state id (Some call) = calling terms state id call.params (method_of call.method)

by_a_value : (terms : Terms) (state : V1State) (value : Option Data) → IsAskedOn terms state.channel (by_value terms state value).asks
by_a_value terms state None = tt
by_a_value terms state (Some value) = by_a_call terms state (answer_id value) (call_in value)

by_a_line : (terms : Terms) (state : V1State) (line : List ℕ) → IsAskedOn terms state.channel (line_reaction terms state line).asks
unfolding line_reaction
by_a_line terms state line = elim (cases_Bool (is_blank_line line)) [
  | inl blank ↦ rw blank tt
  | inr other ↦ rw other (by_a_value terms state (line_value line))
]

by_a_message : (terms : Terms) (state : V1State) (told : Told) → IsAskedOn terms state.channel (message_reaction terms state told).asks
unfolding message_reaction
by_a_message terms state (Opened opened) = tt
by_a_message terms state (NotOpened code) = tt
by_a_message terms state (Target target) = tt
by_a_message terms state (Accepted sequence) = tt
by_a_message terms state (Refused sequence code) = tt
by_a_message terms state (Future job) = tt
by_a_message terms state (Live job min_ntime) = tt
by_a_message terms state (Tipped tip) = tt
by_a_message terms state Nothing = tt

by_an_answer : (terms : Terms) (state : V1State) (channel : Option ℕ) (there : Option Naming) (named : Bool)
    → IsAskedOn terms channel (name_answered state there named).asks
by_an_answer terms state channel None named = tt
by_an_answer terms state channel (Some naming) true = tt
by_an_answer terms state channel (Some naming) false = tt

by_a_name : (terms : Terms) (state : V1State) (named : Bool) → IsAskedOn terms state.channel (name_reaction state named).asks
unfolding name_reaction
by_a_name terms state named = by_an_answer terms state state.channel state.naming named

pub asked_on : (terms : Terms) (state : V1State) (heard : Heard) → IsAskedOn terms state.channel (reaction terms state heard).asks
asked_on terms state (Line line) = by_a_line terms state line
asked_on terms state (Message told) = by_a_message terms state told
asked_on terms state (Named named) = by_a_name terms state named
