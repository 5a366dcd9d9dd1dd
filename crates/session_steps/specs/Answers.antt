-- The frames that a session is answered with (Stratum V2, "Mining Protocol"; the answers to tokens
-- and to a miner's own jobs are this project's own).
use Rattle.std.specs.Prelude.{ℕ, List, [], ◌∷◌, ◌++◌, codes, map}
use Rattle.sv2_types.specs.Fields.{Number, Bytes}
use Rattle.sv2_messages.specs.declared.kinds.TheConstants as kinds
use Rattle.block_header.specs.Target.{target}
use Rattle.coinbase.specs.Coin.{pool_output}
use Rattle.coinbase.specs.Form.{output_bytes}
use Rattle.pool_history.specs.declared.events.Kind.{Kind}
use Rattle.pool_history.specs.declared.events.Kind.TheVariants as kind
use Rattle.pool_history.specs.declared.events.Role.{Role}
use Rattle.pool_history.specs.declared.events.Role.TheVariants as role
use Rattle.pool_history.specs.declared.replies.Opened.{Opened}
use Rattle.pool_history.specs.declared.replies.Reply.{Reply}
use Rattle.pool_history.specs.declared.replies.Reply.TheVariants as reply
use Rattle.pool_history.specs.Channels.{group_id}
use Rattle.pool_history.specs.Codes.{custom_code, open_code, share_code, update_code}
use Rattle.pool_history.specs.Headers.{extranonce_prefix, rolled_length}
use Rattle.pool_history.specs.Refusing.{token_of}
use Rattle.job_declaration.specs.declared.refusals.DeclareError.TheVariants as refusal
use Rattle.job_declaration.specs.Declaring.{error_frame, success_frame}
use Rattle.session_steps.specs.declared.about.About.{About}
use Rattle.session_steps.specs.declared.about.About.TheVariants.{Opening, Channel, Share, Token, OwnJob, Declared}
use Rattle.session_steps.specs.declared.meeting.SetupCode.{SetupCode}
use Rattle.session_steps.specs.declared.meeting.SetupCode.TheVariants.{Protocol, Version, Flags}
use Rattle.session_steps.specs.Talks.{Talk}
use Rattle.session_steps.specs.Told.{mining_frame, template_frame, declare_frame, note_frame}

-- the pool's own setup, of template distribution
abbrev pub own_setup_frame : List ℕ
own_setup_frame =
    mining_frame kinds.SETUP_CONNECTION
    (Number 2 ∷ Number 2 ∷ Number 2 ∷ Number 0 ∷ Bytes [] ∷ Number 0 ∷ Bytes [] ∷ Bytes []
    ∷ Bytes [] ∷ Bytes [] ∷ [])

-- the room that the pool's output wants in a coinbase: 8 bytes of value, one of length and 100 of
-- script
abbrev pub constraints_frame : List ℕ
constraints_frame =
    template_frame kinds.COINBASE_OUTPUT_CONSTRAINTS (Number 109 ∷ Number 400 ∷ [])

-- a feed is greeted by both
abbrev pub greeting : Role → List (List ℕ)
greeting role.Miner = []
greeting role.Feed = own_setup_frame ∷ constraints_frame ∷ []
greeting role.Solo = []

-- the codes of refused setups (Stratum V2, "SetupConnection.Error")
abbrev pub setup_code : SetupCode → List ℕ
setup_code Protocol = codes "unsupported-protocol"
setup_code Version = codes "protocol-version-mismatch"
setup_code Flags = codes "unsupported-feature-flags"

-- the refusal of a setup
abbrev pub refusal_frame : SetupCode → ℕ → List ℕ
refusal_frame code flags =
    mining_frame kinds.SETUP_CONNECTION_ERROR (Number flags ∷ Bytes (setup_code code) ∷ [])

-- who asked for a setup is told that version 2 is used
abbrev pub setup_frames : Role → List (List ℕ)
setup_frames role.Miner =
    mining_frame kinds.SETUP_CONNECTION_SUCCESS (Number 2 ∷ Number 0 ∷ []) ∷ []
setup_frames role.Feed = []
setup_frames role.Solo =
    mining_frame kinds.SETUP_CONNECTION_SUCCESS (Number 2 ∷ Number 0 ∷ []) ∷ []

-- the success of an opening, by the kind that was asked for; a V1 channel has no frames
abbrev pub opened_frames : Kind → ℕ → ℕ → Opened → List (List ℕ)
opened_frames kind.Standard request_id session opened =
    mining_frame kinds.OPEN_STANDARD_MINING_CHANNEL_SUCCESS
    (Number request_id ∷ Number opened.channel ∷ Bytes (target opened.class)
    ∷ Bytes (extranonce_prefix kind.Standard opened.lead) ∷ Number (group_id session) ∷ []) ∷ []
opened_frames kind.Extended request_id session opened =
    mining_frame kinds.OPEN_EXTENDED_MINING_CHANNEL_SUCCESS
    (Number request_id ∷ Number opened.channel ∷ Bytes (target opened.class)
    ∷ Number (rolled_length kind.Extended opened.lead)
    ∷ Bytes (extranonce_prefix kind.Extended opened.lead) ∷ []) ∷ []
opened_frames kind.V1 request_id session opened = []

-- answers to what was asked about; an answer to something else has no frames
abbrev pub opening_frames : About → ℕ → Opened → List (List ℕ)
opening_frames (Opening request_id kind) session opened =
    opened_frames kind request_id session opened
opening_frames about session opened = []

abbrev pub open_error_frames : About → List ℕ → List (List ℕ)
open_error_frames (Opening request_id kind) code =
    mining_frame kinds.OPEN_MINING_CHANNEL_ERROR (Number request_id ∷ Bytes code ∷ []) ∷ []
open_error_frames about code = []

abbrev pub update_error_frames : About → List ℕ → List (List ℕ)
update_error_frames (Channel channel) code =
    mining_frame kinds.UPDATE_CHANNEL_ERROR (Number channel ∷ Bytes code ∷ []) ∷ []
update_error_frames about code = []

-- one share is credited with its work
abbrev pub credit_frames : About → ℕ → List (List ℕ)
credit_frames (Share sub) work =
    mining_frame kinds.SUBMIT_SHARES_SUCCESS
    (Number sub.channel ∷ Number sub.sequence ∷ Number 1 ∷ Number work ∷ []) ∷ []
credit_frames about work = []

abbrev pub share_error_frames : About → List ℕ → List (List ℕ)
share_error_frames (Share sub) code =
    mining_frame kinds.SUBMIT_SHARES_ERROR
    (Number sub.channel ∷ Number sub.sequence ∷ Bytes code ∷ []) ∷ []
share_error_frames about code = []

-- a token comes with the output that its job has to have: none of the reward is fixed
abbrev pub token_frame : ℕ → ℕ → List ℕ → List ℕ
token_frame request_id number script =
    declare_frame kinds.ALLOCATE_MINING_JOB_TOKEN_SUCCESS
    (Number request_id ∷ Bytes (token_of number) ∷ Bytes (output_bytes (pool_output 0 script)) ∷ [])

abbrev pub token_frames : About → ℕ → List ℕ → List (List ℕ)
token_frames (Token request_id) number script = token_frame request_id number script ∷ []
token_frames (Declared request_id) number script = success_frame request_id number ∷ []
token_frames about number script = []

-- a declaration that is granted none is refused, and who asked for a token isn't answered
abbrev pub grant_error_frames : About → List (List ℕ)
grant_error_frames (Declared request_id) = error_frame request_id refusal.TooManyGrants ∷ []
grant_error_frames about = []

abbrev pub own_job_frames : About → ℕ → List (List ℕ)
own_job_frames (OwnJob channel request_id) job =
    mining_frame kinds.SET_CUSTOM_MINING_JOB_SUCCESS
    (Number channel ∷ Number request_id ∷ Number job ∷ []) ∷ []
own_job_frames about job = []

abbrev pub own_job_error_frames : About → List ℕ → List (List ℕ)
own_job_error_frames (OwnJob channel request_id) code =
    mining_frame kinds.SET_CUSTOM_MINING_JOB_ERROR
    (Number channel ∷ Number request_id ∷ Bytes code ∷ []) ∷ []
own_job_error_frames about code = []

-- the frames of a reply's answer, by the session's role and number and what it asked about
abbrev pub only_frames : Role → ℕ → About → Reply → List (List ℕ)
only_frames role number about (reply.Entered session) = setup_frames role
only_frames role number about (reply.Opened opened) = opening_frames about number opened
only_frames role number about (reply.OpenRefused error) = open_error_frames about (open_code error)
only_frames role number about (reply.Target channel class) =
    mining_frame kinds.SET_TARGET (Number channel ∷ Bytes (target class) ∷ []) ∷ []
only_frames role number about (reply.UpdateRefused error) =
    update_error_frames about (update_code error)
only_frames role number about (reply.Credited work) = credit_frames about work
only_frames role number about (reply.Refused failed) = share_error_frames about (share_code failed)
only_frames role number about (reply.Granted grant script) = token_frames about grant script
only_frames role number about (reply.CustomJob job) = own_job_frames about job
only_frames role number about (reply.CustomRefused error) =
    own_job_error_frames about (custom_code error)
only_frames role number about (reply.News at notes) = []
only_frames role number about (reply.PoolFull most) = []
only_frames role number about reply.NoSession = []
only_frames role number about reply.Left = []
only_frames role number about (reply.Job job) = []
only_frames role number about (reply.TemplateRefused error) = []
only_frames role number about reply.Named = []
only_frames role number about (reply.NameRefused error) = []
only_frames role number about reply.Closed = []
only_frames role number about reply.NotOpen = []
only_frames role number about (reply.Brief brief) = []
only_frames role number about (reply.GrantRefused error) = grant_error_frames about

-- the frames of its news
abbrev pub news_frames : Reply → List (List ℕ)
news_frames (reply.News at notes) = map note_frame notes
news_frames _ = []

-- all frames of a reply: those of its answer, one at most, or of its news
abbrev pub answer_frames : Talk → Reply → List (List ℕ)
answer_frames talk answer =
    only_frames talk.role talk.number talk.about answer ++ news_frames answer
