use Rattle.std.proofs.Common.{◌≡◌, ℕ, List, ◌++◌, ap, ap₂, ◌∙◌, append_assoc}
use Rattle.sha2.specs.Sha256.{sha256}
use Rattle.pool_history.specs.declared.events.Event.{Event}
use Rattle.pool_history.specs.Ledger.{magic_2}
use Rattle.ledger_records.specs.Pieces.{first_piece, piece_behind}
use Rattle.ledger_records.proofs.chaining.put_first_piece.Goals as goal

-- the magic, and then a piece behind its hash
behind_magic : (new after old hash : List ℕ) (event : Event) → new ≡ after ++ piece_behind hash event → after ≡ old ++ magic_2 → hash ≡ sha256 magic_2
    → new ≡ old ++ first_piece event
behind_magic new after old hash event e f g =
    e ∙ ap₂ (λ (front : List ℕ) (before : List ℕ). front ++ piece_behind before event) f g ∙ append_assoc old magic_2 (piece_behind (sha256 magic_2) event)

pub returns-clause-ok : goal.returns-clause-ok
returns-clause-ok c =
    behind_magic _ c.extend_from_slice.new.self.items c.args.out.now.items c.magic_hash.result c.args.event.now
    c.in_ok-hash.ensures.ok (c.in_ok-extend_from_slice.ensures.items ∙ ap (λ (x : List ℕ). c.args.out.now.items ++ x) c.as_slice.ensures) c.magic_hash.ensures
