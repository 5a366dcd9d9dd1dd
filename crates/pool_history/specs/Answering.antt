-- What each request is answered with, and which event it makes: one at most (this project's own).
-- Computed on the worked session, on a miner's own job and on each refusal (`SessionS`, `OwnJobs`,
-- `AnswerRows`).
use Rattle.std.specs.Prelude.{◌≡◌, ℕ, ◌+◌, ◌==◌, Bool, true, false, if◌then◌else◌, min, Option, None, Some, Result, Ok, Err, List, [], length, bit_and, nat_lt}
use Rattle.std.specs.Option.{option_to_list}
use Rattle.pool_history.specs.declared.asking.OpenAsk.{OpenAsk}
use Rattle.pool_history.specs.declared.asking.Request.{Request}
use Rattle.pool_history.specs.declared.asking.Request.TheVariants as request
use Rattle.pool_history.specs.declared.events.Event.{Event}
use Rattle.pool_history.specs.declared.events.Event.TheVariants as event
use Rattle.pool_history.specs.declared.events.Kind.{Kind}
use Rattle.pool_history.specs.declared.events.Kind.TheVariants as kind
use Rattle.pool_history.specs.declared.events.Role.{Role}
use Rattle.pool_history.specs.declared.refusals.Failed.{Failed}
use Rattle.pool_history.specs.declared.replies.Reply.{Reply}
use Rattle.pool_history.specs.declared.replies.Reply.TheVariants as reply
use Rattle.pool_history.specs.declared.settings.Rules.{Rules}
use Rattle.pool_history.specs.Accounts.{account_of, is_empty}
use Rattle.pool_history.specs.Channels.{OpenChannel, present_class}
use Rattle.pool_history.specs.Crediting.{last_failed, admitted_work}
use Rattle.pool_history.specs.Jobs.{jobs_of}
use Rattle.pool_history.specs.Judging.{Admitted, Share, admission, briefing_of, share_of}
use Rattle.pool_history.specs.Legal.{allowed_flags, may_feed, may_mine, may_select_work}
use Rattle.pool_history.specs.News.{news}
use Rattle.pool_history.specs.Refusing.{class_for, custom_refusal, grant_refusal, most_enters, nameable, openable, own_channel, template_refusal, tippable, updatable}
use Rattle.pool_history.specs.Sessions.{Entrance, enters, entrance, grants, opens, past_of, present, rules_of}

-- one step of a history: the event that a request makes, if any, and its reply
pub record Effect : Type 0 where
  pub event : Option Event
  pub reply : Reply

-- a reply without event
abbrev pub without_event : Reply → Effect
without_event answer = record { event = None; reply = answer }

-- a reply with its event
abbrev pub with_event : Event → Reply → Effect
with_event made answer = record { event = Some made; reply = answer }

-- a request that isn't refused makes its event
abbrev pub unless_refused : {X : Type 0} → (X → Reply) → Option X → Effect → Effect
unless_refused refuse (Some refusal) step = without_event (refuse refusal)
unless_refused refuse None step = step

-- what was found makes the effect, and a refusal its reply
abbrev pub with_found : {X C : Type 0} → (C → Reply) → (X → Effect) → Result X C → Effect
with_found refuse make (Err refusal) = without_event (refuse refusal)
with_found refuse make (Ok found) = make found

-- the account that an opening says: none for V1
abbrev pub account_for : Kind → List ℕ → List ℕ
account_for kind.Standard identity = account_of identity
account_for kind.Extended identity = account_of identity
account_for kind.V1 identity = []

-- a channel is opened with the lowest free lead
abbrev pub opening : Rules → List Event → ℕ → OpenAsk → List ℕ → Effect
opening rules past session ask lead =
    with_event
    (event.Open session ask.kind (account_for ask.kind ask.identity)
    (class_for rules ask.max_target) lead)
    (reply.Opened
    (record { channel = opens past + 1; class = class_for rules ask.max_target; lead = lead }))

-- a channel gets its account, where it has none
abbrev pub naming : ℕ → ℕ → List ℕ → OpenChannel → Effect
naming session id account channel =
    if is_empty channel.account then with_event (event.Name session id account) reply.Named
    else without_event reply.Named

-- a channel gets its class, where it has another
abbrev pub classing : ℕ → ℕ → ℕ → OpenChannel → Effect
classing session id class channel =
    if class == present_class channel
    then without_event (reply.Target id class)
    else with_event (event.Class session id class) (reply.Target id class)

-- a channel is closed
abbrev pub closing : ℕ → ℕ → Option OpenChannel → Effect
closing session id None = without_event reply.NotOpen
closing session id (Some channel) = with_event (event.Close session id) reply.Closed

-- what is needed to compute a share's header, where the first six conditions hold
abbrev pub briefing : Rules → Result Admitted Failed → Effect
briefing rules (Err failed) = without_event (reply.Refused failed)
briefing rules (Ok with) =
    without_event
    (reply.Brief (briefing_of rules.pool_script with.channel with.job.source with.tip))

-- a share is booked where none of the nine conditions fails
abbrev pub crediting : ℕ → Share → Admitted → Effect
crediting session share with =
    with_event
    (event.Credit session share.channel share.job share.nonce share.ntime share.version
    share.extranonce)
    (reply.Credited (admitted_work with))

abbrev pub committing : Rules → List Event → ℕ → Share → Result Admitted Failed → Effect
committing rules past session share (Err failed) = without_event (reply.Refused failed)
committing rules past session share (Ok with) =
    unless_refused reply.Refused (last_failed rules past share (Ok with))
    (crediting session share with)

-- a token for a path that is fixed, or for any
abbrev pub granting : Rules → List Event → ℕ → List ℕ → Option (List (List ℕ)) → Effect
granting rules past session account None =
    unless_refused reply.GrantRefused (grant_refusal rules past account [])
    (with_event (event.Grant session account false [])
    (reply.Granted (grants past + 1) rules.pool_script))
granting rules past session account (Some path) =
    unless_refused reply.GrantRefused (grant_refusal rules past account path)
    (with_event (event.Grant session account true path)
    (reply.Granted (grants past + 1) rules.pool_script))

-- a session begins, with the flags that the rules allow
abbrev pub entering : Rules → List Event → ℕ → Role → ℕ → Effect
entering rules past worker role flags =
    if nat_lt (enters past) most_enters
    then with_event (event.Enter worker role (bit_and flags (allowed_flags rules)))
    (reply.Entered (enters past))
    else without_event (reply.PoolFull most_enters)

-- who may ask what: templates and tips, channels and shares, jobs of one's own, leaving and news
abbrev pub permits : Request → Entrance → Bool
permits (request.Enter role flags) entered = true
permits request.Leave entered = true
permits (request.Template template) entered = may_feed entered
permits (request.Tip tip) entered = may_feed entered
permits (request.Open ask) entered = may_mine entered
permits (request.Name channel identity) entered = may_mine entered
permits (request.Update channel target) entered = may_mine entered
permits (request.Close channel) entered = may_mine entered
permits (request.Brief sub) entered = may_mine entered
permits (request.Commit checked) entered = may_mine entered
permits (request.Poll from) entered = true
permits (request.Grant identity path) entered = may_select_work entered
permits (request.Custom custom) entered = may_select_work entered

-- a permitted request of a session
abbrev pub step_in : Rules → List Event → ℕ → Request → Effect
step_in rules past session (request.Enter role flags) = without_event reply.NoSession
step_in rules past session request.Leave = with_event (event.Leave session) reply.Left
step_in rules past session (request.Template template) =
    unless_refused reply.TemplateRefused (template_refusal rules.pool_script past template)
    (with_event (event.Template session template) (reply.Job (length (jobs_of past).all + 1)))
step_in rules past session (request.Tip tip) =
    with_found reply.TemplateRefused
    (λ job. with_event (event.Tip session tip) (reply.Job job.number)) (tippable past tip)
step_in rules past session (request.Open ask) =
    with_found reply.OpenRefused (opening rules past session ask) (openable rules past session ask)
step_in rules past session (request.Name channel identity) =
    with_found reply.NameRefused (naming session channel (account_of identity))
    (nameable rules (account_of identity) (own_channel past session channel))
step_in rules past session (request.Update channel target) =
    with_found reply.UpdateRefused (classing session channel (class_for rules target))
    (updatable target (own_channel past session channel))
step_in rules past session (request.Close channel) =
    closing session channel (own_channel past session channel)
step_in rules past session (request.Brief sub) =
    briefing rules (admission rules past session (share_of sub))
step_in rules past session (request.Commit checked) =
    committing rules past session (share_of checked.sub)
    (admission rules past session (share_of checked.sub))
step_in rules past session (request.Poll from) =
    without_event (reply.News (length past) (news (min from (length past)) past session))
step_in rules past session (request.Grant identity path) =
    granting rules past session (account_of identity) path
step_in rules past session (request.Custom custom) =
    unless_refused reply.CustomRefused (custom_refusal rules.pool_script past session custom)
    (with_event (event.Custom session custom) (reply.CustomJob (length (jobs_of past).all + 1)))

-- a request of a session that was entered so
abbrev pub step_as : Rules → List Event → Request → ℕ → Option Entrance → Effect
step_as rules past asked session None = without_event reply.NoSession
step_as rules past asked session (Some entered) =
    if permits asked entered then step_in rules past session asked
    else without_event reply.NoSession

-- a request of a worker's present session
abbrev pub step_for : Rules → List Event → Request → Option ℕ → Effect
step_for rules past asked None = without_event reply.NoSession
step_for rules past asked (Some session) = step_as rules past asked session (entrance past session)

-- a worker's request under the rules
abbrev pub step_by : Rules → List Event → ℕ → Request → Effect
step_by rules past worker (request.Enter role flags) = entering rules past worker role flags
step_by rules past worker asked = step_for rules past asked (present past worker)

-- the step of a history; one without a Start takes none
abbrev pub step_under : Option Rules → List Event → ℕ → Request → Effect
step_under None past worker asked = without_event reply.NoSession
step_under (Some rules) past worker asked = step_by rules past worker asked

abbrev pub step : List Event → ℕ → Request → Effect
step past worker asked = step_under (rules_of past) past worker asked

-- the events and the reply of a worker's request on a history
pub record Answer (history : List Event) (worker : ℕ) (asked : Request) (events : List Event)
    (answer : Reply) : Type 0 where
  pub events_are : events ≡ option_to_list (step (past_of history) worker asked).event
  pub reply_is : answer ≡ (step (past_of history) worker asked).reply
