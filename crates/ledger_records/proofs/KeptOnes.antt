-- Bytes are the ledger of one kept history, and of more than one legal history.
use Rattle.std.proofs.Common.{◌≡◌, ℕ, ◌<◌, ◌^◌, List, [], ◌∷◌, refl, ap, sym, ◌∙◌, arith}
use Rattle.pool_history.specs.declared.events.Event.{Event}
use Rattle.pool_history.specs.declared.events.Event.TheVariants as event
use Rattle.pool_history.specs.declared.events.Role.TheVariants as role
use Rattle.pool_history.specs.Ledger.{ledger_text}
use Rattle.pool_history.specs.Legal.{Legal}
use Rattle.pool_history.proofs.Given.{start}
use Rattle.ledger_records.specs.Keeping.{KeptLedgersAreOfOneHistory}
use Rattle.ledger_records.proofs.Records.{ledgers}

pub kept-ledgers : KeptLedgersAreOfOneHistory
kept-ledgers one other bytes a b = ledgers one other a.kept.has_ledger b.kept.has_ledger (sym a.text ∙ b.text)

-- without records it is false: a worker of 2^32 is legal, and has the bytes of worker 0
abbrev pub LegalLedgersAreOfOneHistory : Type 0
LegalLedgersAreOfOneHistory = (one other : List Event) → Legal one → Legal other → ledger_text one ≡ ledger_text other → one ≡ other

abbrev pub entered_by : ℕ → List Event
entered_by worker = start ∷ event.Enter worker role.Miner 0 ∷ []

abbrev pub worker_in : List Event → ℕ
worker_in [] = 0
worker_in (event.Enter worker role flags ∷ more) = worker
worker_in (one ∷ more) = worker_in more

pub first_is_legal : Legal (entered_by 0)
first_is_legal = ((tt, refl), refl)

pub great_is_legal : Legal (entered_by (2 ^ 32))
great_is_legal = ((tt, refl), refl)

pub same_bytes : ledger_text (entered_by 0) ≡ ledger_text (entered_by (2 ^ 32))
same_bytes = refl

pub not_by_legality : LegalLedgersAreOfOneHistory → ⊥
not_by_legality law = apart 0 (2 ^ 32) (omega arith) (ap worker_in (law (entered_by 0) (entered_by (2 ^ 32)) first_is_legal great_is_legal same_bytes)) where
  apart : (m n : ℕ) → m < n → m ≡ n → ⊥
  apart m n less same = omega (arith, less, same)
