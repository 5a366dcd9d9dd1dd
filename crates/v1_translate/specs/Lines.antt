-- What a session makes of a line of its miner.
use Rattle.std.specs.Prelude.{ℕ, true, if◌then◌else◌, Option, None, Some, List, [], ◌∷◌, codes}
use Rattle.std.specs.Str.{bytes_eq}
use Rattle.serde_json.specs.Data.{Data, null, boolean, Items}
use Rattle.serde_json.specs.Find.{get_item}
use Rattle.pool_history.specs.Accounts.{account_of, is_known}
use Rattle.v1_lines.specs.declared.errors.V1Error.TheVariants.{AlreadySubscribed, MalformedRequest, NotSubscribed, UnauthorizedWorker, UnknownMethod}
use Rattle.v1_lines.specs.Requests.{MethodCall, answer_id, call_in, is_blank_line, line_value, text_at}
use Rattle.v1_translate.specs.Configuring.{configuration_in, configured}
use Rattle.v1_translate.specs.Difficulty.{asked_difficulty, class_of_difficulty}
use Rattle.v1_translate.specs.State.{Terms, V1State, Answer, Refusal, Asking, Silence, Open, Update, Name, Reaction, saying, silent}
use Rattle.v1_translate.specs.Submitting.{asked_share, submitted}
use Rattle.v1_translate.specs.declared.methods.Method.{Method}
use Rattle.v1_translate.specs.declared.methods.Method.TheVariants.{Configure, Subscribe, Authorize, SuggestDifficulty, SubscribeExtranonce, Submit, Unknown}

-- the method of a name
unfoldable pub method_of : List ℕ → Method
method_of name =
    if bytes_eq name (codes "mining.configure") then Configure
    else if bytes_eq name (codes "mining.subscribe") then Subscribe
    else if bytes_eq name (codes "mining.authorize") then Authorize
    else if bytes_eq name (codes "mining.suggest_difficulty") then SuggestDifficulty
    else if bytes_eq name (codes "mining.extranonce.subscribe") then SubscribeExtranonce
    else if bytes_eq name (codes "mining.submit") then Submit
    else Unknown

-- one opening, once more until it succeeds
abbrev pub subscribed : Terms → V1State → Data → Option ℕ → Reaction
subscribed terms state id (Some channel) = saying state (Refusal id AlreadySubscribed)
subscribed terms state id None =
    record { after = record state { subscriber = Some id }; says = []; asks = Open terms.base }

-- the pool is asked where the account is known
abbrev pub authorized : Terms → V1State → Data → Option (List ℕ) → Reaction
authorized terms state id None = saying state (Refusal id MalformedRequest)
authorized terms state id (Some user) =
    if is_known terms.rules (account_of user)
    then record {
      after = record state { naming = Some (record { id = id; account = account_of user }) };
      says = [];
      asks = Name (account_of user);
    }
    else saying state (Refusal id UnauthorizedWorker)

-- another target for the channel, where there is one
abbrev pub suggested : Terms → Option ℕ → Option ℕ → Asking
suggested terms (Some channel) (Some difficulty) =
    Update channel (class_of_difficulty terms.base difficulty)
suggested terms (Some channel) None = Silence
suggested terms None difficulty = Silence

abbrev pub yes : Data
yes = boolean true

-- what needs a channel
abbrev pub with_channel : V1State → Data → (ℕ → Reaction) → Option ℕ → Reaction
with_channel state id reaction None = saying state (Refusal id NotSubscribed)
with_channel state id reaction (Some channel) = reaction channel

abbrev pub by_method : Terms → V1State → Data → Items → Method → Reaction
by_method terms state id params Configure =
    configured terms state id (configuration_in params)
by_method terms state id params Subscribe = subscribed terms state id state.channel
by_method terms state id params Authorize =
    with_channel state id (λ channel. authorized terms state id (text_at 0 params)) state.channel
by_method terms state id params SuggestDifficulty =
    record {
      after = state;
      says = Answer id yes ∷ [];
      asks = suggested terms state.channel (asked_difficulty (get_item 0 params));
    }
by_method terms state id params SubscribeExtranonce = saying state (Answer id yes)
by_method terms state id params Submit =
    with_channel state id (λ channel. submitted state id channel (asked_share params)) state.channel
by_method terms state id params Unknown = saying state (Refusal id UnknownMethod)

abbrev pub by_call : Terms → V1State → Data → Option MethodCall → Reaction
by_call terms state id None = saying state (Refusal id MalformedRequest)
by_call terms state id (Some call) =
    by_method terms state id call.params (method_of call.method)

-- a line that is no JSON has no id
abbrev pub id_in : Option Data → Data
id_in None = null
id_in (Some value) = answer_id value

abbrev pub by_value : Terms → V1State → Option Data → Reaction
by_value terms state None = saying state (Refusal null MalformedRequest)
by_value terms state (Some value) = by_call terms state (answer_id value) (call_in value)

-- a blank line asks nothing
unfoldable pub line_reaction : Terms → V1State → List ℕ → Reaction
line_reaction terms state line =
    if is_blank_line line then silent state else by_value terms state (line_value line)
