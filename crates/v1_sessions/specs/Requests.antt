-- What a line's asking is to the pool (Stratum V2, "Mining Protocol").
use Rattle.std.specs.Prelude.{◌≡◌, ℕ, Option, None, Some, List, [], length, take, option_map}
use Rattle.block_header.specs.Target.{target}
use Rattle.pool_history.specs.declared.asking.OpenAsk.{OpenAsk}
use Rattle.pool_history.specs.declared.asking.Request.{Request}
use Rattle.pool_history.specs.declared.asking.Request.TheVariants as request
use Rattle.pool_history.specs.declared.events.Kind.TheVariants as kind
use Rattle.pool_history.specs.declared.shares.Submission.{Submission}
use Rattle.session_steps.specs.declared.about.About.{About}
use Rattle.session_steps.specs.declared.about.About.TheVariants as topic
use Rattle.v1_translate.specs.State.{SentShare}
use Rattle.v1_translate.specs.State as asking

-- a request, and what its answer will be about
pub record LineRequest : Type 0 where
  pub request : Request
  pub about : About

-- an opening of a V1 channel: it has no user yet, and 8 bytes are rolled on it
pub record OpensV1 (class : ℕ) (wish : LineRequest) : Type 0 where
  pub ask : OpenAsk
  pub of_kind : ask.kind ≡ kind.V1
  pub nobody : ask.identity ≡ []
  pub most : ask.max_target ≡ target class
  pub size : ask.min_size ≡ 8
  pub is : wish ≡ record { request = request.Open ask; about = topic.Opening 0 kind.V1 }

-- a share of it is one of an extended channel
pub record IsSubmissionOf (share : SentShare) (sub : Submission) : Type 0 where
  pub of_kind : sub.kind ≡ kind.Extended
  pub channel : sub.channel ≡ share.channel
  pub sequence : sub.sequence ≡ share.sequence
  pub job : sub.job ≡ share.job
  pub nonce : sub.nonce ≡ share.nonce
  pub ntime : sub.ntime ≡ share.ntime
  pub version : sub.version ≡ share.version
  pub count : sub.extranonce_len ≡ length share.extranonce
  pub extranonce : take sub.extranonce_len sub.extranonce ≡ share.extranonce

-- what its header is computed from is asked first
pub record SharesV1 (share : SentShare) (wish : LineRequest) : Type 0 where
  pub sub : Submission
  pub of_share : IsSubmissionOf share sub
  pub is : wish ≡ record { request = request.Brief sub; about = topic.Share sub }

-- another target for a channel
abbrev pub update_request : ℕ → ℕ → LineRequest
update_request channel class =
    record { request = request.Update channel (target class); about = topic.Channel channel }

-- an account for a channel
abbrev pub name_request : List ℕ → ℕ → LineRequest
name_request account channel =
    record { request = request.Name channel account; about = topic.Nothing }

-- the request for what a line asks, on this channel
abbrev pub IsRequestFor : Option ℕ → asking.Asking → Option LineRequest → Type 0
IsRequestFor channel (asking.Open class) (Some wish) = OpensV1 class wish
IsRequestFor channel (asking.Open class) None = ⊥
IsRequestFor channel (asking.Share share) (Some wish) = SharesV1 share wish
IsRequestFor channel (asking.Share share) None = ⊥
IsRequestFor channel (asking.Update opened class) wish = wish ≡ Some (update_request opened class)
IsRequestFor channel (asking.Name account) wish =
    wish ≡ option_map (name_request account) channel
IsRequestFor channel asking.Silence wish = wish ≡ None
