-- What holds of every session, whatever it heard.
use Rattle.std.specs.Prelude.{◌≡◌, ℕ, ◌+◌, ◌≤◌, ◌%◌, ◌^◌, ◌==◌, Bool, if◌then◌else◌, IsTrue, Option, None, Some, IsSome, List, [], ◌∷◌, ◌++◌, length, map, bit_and}
use Rattle.serde_json.specs.Data.{Data}
use Rattle.pool_history.specs.Accounts.{is_known}
use Rattle.pool_history.specs.Judging.{outside, rolling_mask}
use Rattle.v1_lines.specs.Requests.{MethodCall, call_in, is_blank_line, line_value}
use Rattle.v1_translate.specs.Configuring.{Configuration, configuration_in, mask_after, mask_for}
use Rattle.v1_translate.specs.Heard.{Told, Opened, ToldJob, Heard, Line, Message, Named}
use Rattle.v1_translate.specs.Lines.{id_in, method_of}
use Rattle.v1_translate.specs.Messages.{jobs_after, most_future, most_live, reaction}
use Rattle.v1_translate.specs.Sessions.{asked_after, said_after, state_after}
use Rattle.v1_translate.specs.State.{Terms, V1State, HeldJobs, no_jobs, Naming, Saying, Answer, Refusal, CodeRefusal, Difficulty, Job, Asking, Silence, Open, Update, Share, Name}
use Rattle.v1_translate.specs.Submitting.{are_within, rolled_version}
use Rattle.v1_translate.specs.declared.methods.Method.{Method}
use Rattle.v1_translate.specs.declared.methods.Method.TheVariants.{Configure}

-- ---- what a session knows, of what it heard

-- the channel that the last opening opened
abbrev pub channel_by : Told → Option ℕ → Option ℕ
channel_by (Opened opened) before = Some opened.channel
channel_by _ before = before

abbrev pub channel_told : List Heard → Option ℕ
channel_told [] = None
channel_told (Line line ∷ past) = channel_told past
channel_told (Message told ∷ past) = channel_by told (channel_told past)
channel_told (Named named ∷ past) = channel_told past

-- the jobs that the messages left
abbrev pub jobs_told : List Heard → HeldJobs
jobs_told [] = no_jobs
jobs_told (Line line ∷ past) = jobs_told past
jobs_told (Message told ∷ past) = jobs_after (jobs_told past) told
jobs_told (Named named ∷ past) = jobs_told past

-- the mask that the last line configured
abbrev pub mask_of_configuration : Terms → ℕ → Option Configuration → ℕ
mask_of_configuration terms before None = before
mask_of_configuration terms before (Some asked) =
    mask_after before (mask_for terms.rules asked.names asked.asked)

abbrev pub mask_of_method : Terms → ℕ → MethodCall → Method → ℕ
mask_of_method terms before call Configure =
    mask_of_configuration terms before (configuration_in call.params)
mask_of_method terms before call _ = before

abbrev pub mask_of_call : Terms → ℕ → Option MethodCall → ℕ
mask_of_call terms before None = before
mask_of_call terms before (Some call) = mask_of_method terms before call (method_of call.method)

abbrev pub mask_of_value : Terms → ℕ → Option Data → ℕ
mask_of_value terms before None = before
mask_of_value terms before (Some value) = mask_of_call terms before (call_in value)

abbrev pub mask_of_line : Terms → ℕ → List ℕ → ℕ
mask_of_line terms before line =
    if is_blank_line line then before else mask_of_value terms before (line_value line)

abbrev pub mask_configured : Terms → List Heard → ℕ
mask_configured terms [] = 0
mask_configured terms (Line line ∷ past) = mask_of_line terms (mask_configured terms past) line
mask_configured terms (Message told ∷ past) = mask_configured terms past
mask_configured terms (Named named ∷ past) = mask_configured terms past

-- how many shares were sent on
abbrev pub share_count : Asking → ℕ
share_count (Share share) = 1
share_count _ = 0

abbrev pub shares_in : List Asking → ℕ
shares_in [] = 0
shares_in (asking ∷ asked) = share_count asking + shares_in asked

-- the channel and the held jobs are of the messages alone, the mask of the lines alone, and the
-- sequence number of the shares that were sent on
pub record IsOfWhatWasHeard (terms : Terms) (past : List Heard) : Type 0 where
  pub channel : (state_after terms past).channel ≡ channel_told past
  pub jobs : (state_after terms past).jobs ≡ jobs_told past
  pub mask : (state_after terms past).mask ≡ mask_configured terms past
  pub sequence :
      (state_after terms past).sequence ≡ shares_in (asked_after terms past) % 2 ^ 32

abbrev pub StatesAreOfWhatWasHeard : Type 0
StatesAreOfWhatWasHeard = (terms : Terms) (past : List Heard) → IsOfWhatWasHeard terms past

-- ---- answers

-- how many of these ids pass a test
abbrev pub how_many : (Data → Bool) → List Data → ℕ
how_many test [] = 0
how_many test (id ∷ ids) = (if test id then 1 else 0) + how_many test ids

-- the ids that sayings answer
abbrev pub answered_by : Saying → List Data
answered_by (Answer id answer) = id ∷ []
answered_by (Refusal id error) = id ∷ []
answered_by (CodeRefusal id code) = id ∷ []
answered_by (Difficulty difficulty) = []
answered_by (Job job) = []

abbrev pub answered_in : List Saying → List Data
answered_in [] = []
answered_in (said ∷ more) = answered_by said ++ answered_in more

-- the ids of the requests, one of each line that isn't blank
abbrev pub request_of : List ℕ → List Data
request_of line = if is_blank_line line then [] else id_in (line_value line) ∷ []

abbrev pub requests_in : List Heard → List Data
requests_in [] = []
requests_in (Line line ∷ past) = request_of line ++ requests_in past
requests_in (Message told ∷ past) = requests_in past
requests_in (Named named ∷ past) = requests_in past

-- the ids that wait for an answer of the pool
abbrev pub subscribing : Option Data → List Data
subscribing None = []
subscribing (Some id) = id ∷ []

abbrev pub naming_in : Option Naming → List Data
naming_in None = []
naming_in (Some naming) = naming.id ∷ []

abbrev pub pending_in : V1State → List Data
pending_in state =
    map (λ share. share.id) state.waiting ++ subscribing state.subscriber ++ naming_in state.naming

-- each id is answered, and waits, no more often than it was asked
abbrev pub RequestsAreAnsweredOnce : Type 0
RequestsAreAnsweredOnce =
    (terms : Terms) (past : List Heard) (test : Data → Bool)
    → how_many test (answered_in (said_after terms past))
    + how_many test (pending_in (state_after terms past))
    ≤ how_many test (requests_in past)

-- a subscribe and a name are answered before the next line
abbrev pub IsAnsweredBefore : V1State → Heard → Type 0
IsAnsweredBefore state (Line line) = (state.subscriber ≡ None) × (state.naming ≡ None)
IsAnsweredBefore state (Message told) = Unit {0}
IsAnsweredBefore state (Named named) = Unit {0}

abbrev pub IsPrompt : Terms → List Heard → Type 0
IsPrompt terms [] = Unit {0}
IsPrompt terms (heard ∷ past) =
    IsAnsweredBefore (state_after terms past) heard × IsPrompt terms past

-- then each id is answered, or waits, just as often as it was asked
abbrev pub NoRequestIsLost : Type 0
NoRequestIsLost =
    (terms : Terms) (past : List Heard) (test : Data → Bool) → IsPrompt terms past
    → how_many test (answered_in (said_after terms past))
    + how_many test (pending_in (state_after terms past))
    ≡ how_many test (requests_in past)

-- ---- held jobs

-- how many jobs have a number
abbrev pub times : ℕ → List ToldJob → ℕ
times number [] = 0
times number (job ∷ jobs) = (if job.number == number then 1 else 0) + times number jobs

pub record AreHeld (jobs : HeldJobs) : Type 0 where
  pub few_future : length jobs.future ≤ most_future
  pub few_live : length jobs.live ≤ most_live
  pub once : (number : ℕ) → times number jobs.future + times number jobs.live ≤ 1

abbrev pub FewJobsAreHeld : Type 0
FewJobsAreHeld = (terms : Terms) (past : List Heard) → AreHeld (state_after terms past).jobs

-- ---- what is asked of the pool

-- an opening is asked for only before there is a channel; anything else only on the channel; and a
-- name only for a known account
abbrev pub IsAskedOn : Terms → Option ℕ → Asking → Type 0
IsAskedOn terms channel Silence = Unit {0}
IsAskedOn terms channel (Open class) = (channel ≡ None) × (class ≡ terms.base)
IsAskedOn terms channel (Update there class) = (channel ≡ Some there) × (class ≤ 60)
IsAskedOn terms channel (Share share) = channel ≡ Some share.channel
IsAskedOn terms channel (Name account) = IsSome channel × IsTrue (is_known terms.rules account)

abbrev pub SessionsAskOnTheirChannel : Type 0
SessionsAskOnTheirChannel =
    (terms : Terms) (state : V1State) (heard : Heard)
    → IsAskedOn terms state.channel (reaction terms state heard).asks

-- ---- versions

-- the mask is within the bits that the rules let roll
abbrev pub MasksAreCut : Type 0
MasksAreCut =
    (terms : Terms) (past : List Heard)
    → bit_and (state_after terms past).mask (rolling_mask terms.rules)
    ≡ (state_after terms past).mask

-- bits within a mask that is cut change no other bit of a job's version
abbrev pub VersionsAreTheJobs : Type 0
VersionsAreTheJobs =
    (rolled version mask bits : ℕ)
    → rolled ≤ 0xffffffff → mask ≤ 0xffffffff → bits ≤ 0xffffffff
    → bit_and mask rolled ≡ mask → IsTrue (are_within mask (Some bits))
    → outside rolled (rolled_version version mask (Some bits)) ≡ outside rolled version
