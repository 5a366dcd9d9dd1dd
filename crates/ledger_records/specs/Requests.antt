-- What the types of a request's fields say of it: numbers within their powers of two, hashes of 32
-- bytes, texts of at most 255 bytes that are UTF-8 (Stratum V2, "Data Types Mapping"). In a law
-- numbers have no end, so it says this of what a worker asks.
use Rattle.std.specs.Prelude.{◌≡◌, ℕ, Option, None, Some, List, length}
use Rattle.std.specs.Str.{IsUtf8}
use Rattle.pool_history.specs.declared.asking.OpenAsk.{OpenAsk}
use Rattle.pool_history.specs.declared.asking.Request.{Request}
use Rattle.pool_history.specs.declared.asking.Request.TheVariants as request
use Rattle.pool_history.specs.declared.shares.Submission.{Submission}
use Rattle.ledger_records.specs.WellFormed.{AreHashes, IsCustom, IsHash, IsText, IsTemplate, IsTip, IsU16, IsU32, IsU64, IsU8}

-- a user, as a text says it
pub record IsIdentity (identity : List ℕ) : Type 0 where
  pub short : IsText identity
  pub utf8 : IsUtf8 identity

-- the fields of an opening
pub record IsOpenAsk (ask : OpenAsk) : Type 0 where
  pub identity : IsIdentity ask.identity
  pub max_target : IsHash ask.max_target
  pub min_size : IsU16 ask.min_size

-- a channel's user, and a channel's maximum target
pub record IsNaming (channel : ℕ) (identity : List ℕ) : Type 0 where
  pub channel_fits : IsU32 channel
  pub identity_fits : IsIdentity identity

pub record IsUpdating (channel : ℕ) (max_target : List ℕ) : Type 0 where
  pub channel_fits : IsU32 channel
  pub max_target_fits : IsHash max_target

-- the fields of a submission; its extranonce stands in 32 bytes
pub record IsSubmission (sub : Submission) : Type 0 where
  pub channel : IsU32 sub.channel
  pub sequence : IsU32 sub.sequence
  pub job : IsU32 sub.job
  pub nonce : IsU32 sub.nonce
  pub ntime : IsU32 sub.ntime
  pub version : IsU32 sub.version
  pub extranonce : length sub.extranonce ≡ 32
  pub extranonce_len : IsU8 sub.extranonce_len

-- a path is one of hashes, where it is said
abbrev pub IsPath : Option (List (List ℕ)) → Type 0
IsPath None = Unit {0}
IsPath (Some path) = AreHashes path

-- a token's user and path
pub record IsGrantAsk (identity : List ℕ) (path : Option (List (List ℕ))) : Type 0 where
  pub identity_fits : IsIdentity identity
  pub path_fits : IsPath path

-- each field of the request is of its type
abbrev pub IsWellFormedRequest : Request → Type 0
IsWellFormedRequest (request.Enter role flags) = IsU32 flags
IsWellFormedRequest request.Leave = Unit {0}
IsWellFormedRequest (request.Template template) = IsTemplate template
IsWellFormedRequest (request.Tip tip) = IsTip tip
IsWellFormedRequest (request.Open ask) = IsOpenAsk ask
IsWellFormedRequest (request.Name channel identity) = IsNaming channel identity
IsWellFormedRequest (request.Update channel max_target) = IsUpdating channel max_target
IsWellFormedRequest (request.Close channel) = IsU32 channel
IsWellFormedRequest (request.Brief sub) = IsSubmission sub
IsWellFormedRequest (request.Commit checked) = IsSubmission checked.sub
IsWellFormedRequest (request.Poll from) = IsU64 from
IsWellFormedRequest (request.Grant identity path) = IsGrantAsk identity path
IsWellFormedRequest (request.Custom custom) = IsCustom custom
