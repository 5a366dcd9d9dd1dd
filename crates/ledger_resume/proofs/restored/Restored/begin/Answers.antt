use Rattle.std.proofs.Common.{IsTrue, [], ◌∷◌, ap, refl, subst, sym, ◌∙◌, ◌≡◌}
use Rattle.pool_history.specs.declared.events.Event.TheVariants as event
use Rattle.pool_history.specs.Accounts.{are_in_range}
use Rattle.pool_history.specs.Legal.{LegalPast}
use Rattle.ledger_resume.proofs.Continued.{begun_by, illegal_begins, no_start_begins, start_in_range}
use Rattle.ledger_resume.proofs.restored.Restored.begin.Goals as goal

pub returns-in_default-again : goal.returns-in_default-again
returns-in_default-again c =
    let same : c.in_ok-again.again ≡ c.in-Some-2.event =
    c.in_ok-again.ensures c.magic_hash-hash.result c.in-Some-2.event c.read_unit.new.hash (rw c.in-Some-2.is at c.in_ok-event.ensures.some) in
    record {
      some = tt;
      none = no_start_begins c.args.bytes.now c.in-Some.unit.now c.magic_hash-hash.result c.in-Some.ensures.some c.magic_hash-hash.ensures c.in-Some-2.event
          c.read_unit.new.hash (rw c.in-Some-2.is at c.in_ok-event.ensures.some) (λ rules is. c.in_default-again.not-Start rules (same ∙ is));
    }

pub returns-in-Err-Illegal-clause-none : goal.returns-in-Err-Illegal-clause-none
returns-in-Err-Illegal-clause-none c =
    illegal_begins c.args.bytes.now c.in-Some.unit.now c.magic_hash-hash.result c.in-Some.ensures.some c.magic_hash-hash.ensures c.in-Some-2.event
    c.read_unit.new.hash (rw c.in-Some-2.is at c.in_ok-event.ensures.some) c.in-Err-Illegal.field-0-0
    (rw c.in-Err-Illegal.field-0-is at c.in-Err-Illegal.ensures.judged)

pub start-requires : goal.start-requires
start-requires c =
    let same : c.in_ok-again.again ≡ c.in-Some-2.event =
    c.in_ok-again.ensures c.magic_hash-hash.result c.in-Some-2.event c.read_unit.new.hash (rw c.in-Some-2.is at c.in_ok-event.ensures.some) in
    subst (λ r. IsTrue (are_in_range r)) (sym c.into_inner.ensures)
    (start_in_range c.in-Start.rules (subst (λ e. LegalPast (e ∷ [])) (sym same ∙ c.in-Start.is) c.in-Ok.ensures.judged.legal))

pub returns-clause-some : goal.returns-clause-some
returns-clause-some c =
    let same : c.in_ok-again.again ≡ c.in-Some-2.event =
    c.in_ok-again.ensures c.magic_hash-hash.result c.in-Some-2.event c.read_unit.new.hash (rw c.in-Some-2.is at c.in_ok-event.ensures.some) in
    begun_by c.args.bytes.now c.in-Some.unit.now c.magic_hash-hash.result c.in-Some.ensures.some c.magic_hash-hash.ensures c.in-Some-2.event
    c.read_unit.new.hash (rw c.in-Some-2.is at c.in_ok-event.ensures.some) _ c.into_inner.result c.in_ok-history.ensures
    (sym same ∙ c.in-Start.is ∙ ap (λ r. event.Start r) (sym c.into_inner.ensures)) c.in-Ok.ensures.judged refl
