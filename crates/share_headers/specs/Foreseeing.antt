-- Shares of one job, whatever their channels, and their headers (this project's own).
use Rattle.std.specs.Prelude.{◌≡◌, ℕ, All, List, ◌++◌, length, map}
use Rattle.block_header.specs.Hash.{dsha}
use Rattle.block_header.specs.Root.{root}
use Rattle.pool_history.specs.declared.events.Kind.TheVariants.{Standard}
use Rattle.pool_history.specs.Headers.{Briefing, coinbase_by, extranonce_prefix, rolled_length}
use Rattle.share_headers.specs.Submitted.{submitted_extranonce, submitted_header}
use Rattle.share_headers.specs.declared.four.Candidate.{Candidate}

-- what a share's own channel and a job give to its header
abbrev pub brief_on : Briefing → Candidate → Briefing
brief_on brief candidate = record brief { lead = candidate.lead; kind = candidate.kind }

-- a submission has as many bytes of extranonce as its channel's miner rolls, and a standard
-- channel's lead has four
pub record HasRolledLength (candidate : Candidate) : Type 0 where
  pub rolled : candidate.sub.extranonce_len ≡ rolled_length candidate.kind candidate.lead
  pub standard : candidate.kind ≡ Standard → length candidate.lead ≡ 4

abbrev pub HaveRolledLength : List Candidate → Type 0
HaveRolledLength candidates = All HasRolledLength candidates

-- the twelve bytes of the coinbase that are a share's own
abbrev pub share_extranonce : Candidate → List ℕ
share_extranonce candidate =
    extranonce_prefix candidate.kind candidate.lead ++ submitted_extranonce candidate.sub

-- the merkle root of a share
abbrev pub share_root : Briefing → Candidate → List ℕ
share_root brief candidate =
    root (dsha (coinbase_by (brief_on brief candidate) (submitted_extranonce candidate.sub)))
    brief.path

-- the header of a share
abbrev pub share_header : Briefing → Candidate → List ℕ
share_header brief candidate = submitted_header (brief_on brief candidate) candidate.sub

-- each share with its header, and the double hash of that
pub record HaveHeaders (brief : Briefing) (candidates : List Candidate) (headers hashes : List (List ℕ)) : Type 0 where
  pub headed : headers ≡ map (share_header brief) candidates
  pub hashed : hashes ≡ map dsha headers
