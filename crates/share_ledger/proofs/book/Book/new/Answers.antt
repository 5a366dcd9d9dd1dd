use Rattle.std.proofs.Common.{sym, ◌∙◌, ◌≡◌, ◌∷◌, [], List, ap, subst}
use Rattle.std.specs.Prelude.{slice_get}
use Rattle.pool_history.specs.declared.events.Event.{Event}
use Rattle.pool_history.specs.declared.events.Event.TheVariants as event
use Rattle.ledger_records.specs.Growing.{hash_after}
use Rattle.ledger_records.specs.Keeping.{IsKept}
use Rattle.share_ledger.specs.Tables.{LedgerTables}
use Rattle.share_ledger.specs.Recovery.{IsRecoverable}
use Rattle.share_ledger.proofs.Answering.{first-record, keeps-first, keeps-instead}
use Rattle.share_ledger.proofs.Recovering.{starts-on}
use Rattle.share_ledger.proofs.book.Book.new.Goals as goal

pub keep_start-requires : goal.keep_start-requires
keep_start-requires c c' =
    let shown = ap (λ (t : LedgerTables). t.history.events) c'.deref-2.ensures in
    let first : c'.first.result.now ≡ event.Start c'.args.rules =
    c'.first.ensures (event.Start c'.args.rules) (ap (λ (l : List Event). slice_get l 0) (shown ∙ c'.in-Ok.ensures)) in
    let kept = subst (λ (l : List Event). IsKept l) (ap (λ (t : LedgerTables). t.history.events) c'.deref.ensures) c'.are_kept.ensures.kept in
    first-record c'.in-Ok.tables.value.history.events c'.first.result.now (c'.in-Ok.ensures ∙ ap (λ (e : Event). e ∷ []) (sym first)) kept

pub invariant_of-result : goal.invariant_of-result
invariant_of-result c c' =
    let shown = ap (λ (t : LedgerTables). t.history.events) c'.deref-2.ensures in
    let kept = subst (λ (l : List Event). IsKept l) (ap (λ (t : LedgerTables). t.history.events) c'.deref.ensures) c'.are_kept.ensures.kept in
    let first : c'.first.result.now ≡ event.Start c'.args.rules =
    c'.first.ensures (event.Start c'.args.rules) (ap (λ (l : List Event). slice_get l 0) (shown ∙ c'.in-Ok.ensures)) in
    let one : c'.in-Ok.tables.value.history.events ≡ c'.first.result.now ∷ [] = c'.in-Ok.ensures ∙ ap (λ (e : Event). e ∷ []) (sym first) in (
      c'.in-Ok-keep_start.ensures.hash ∙ ap hash_after (sym one),
      keeps-instead _ _ c'.in-Ok.tables.value.history.events
          (keeps-first _ _ c'.first.result.now c'.in-Ok.tables.value.history.events one c'.requires.unused c'.in-Ok-keep_start.ensures.kept),
      subst (λ (h : List Event). IsRecoverable (c.K.Keeper.seen c'.keep_start.new.keeper) (c.K.Keeper.may_find c'.keep_start.new.keeper) h) (sym one)
          (c'.in-Ok-keep_start.ensures.recovers (starts-on c'.first.result.now (subst (λ (l : List Event). IsKept l) one kept)) c'.requires.recovers),
    )

pub returns-in-Ok-keep_start-clause-kept : goal.returns-in-Ok-keep_start-clause-kept
returns-in-Ok-keep_start-clause-kept c c' =
    let shown = ap (λ (t : LedgerTables). t.history.events) c'.deref-2.ensures in
    let first : c'.first.result.now ≡ event.Start c'.args.rules =
    c'.first.ensures (event.Start c'.args.rules) (ap (λ (l : List Event). slice_get l 0) (shown ∙ c'.in-Ok.ensures)) in
    keeps-first _ _ c'.first.result.now c'.in-Ok.tables.value.history.events (c'.in-Ok.ensures ∙ ap (λ (e : Event). e ∷ []) (sym first)) c'.requires.unused
    c'.in-Ok-keep_start.ensures.kept

pub returns-in-Err-keep_start-clause-unbegun : goal.returns-in-Err-keep_start-clause-unbegun
returns-in-Err-keep_start-clause-unbegun c c' =
    let shown = ap (λ (t : LedgerTables). t.history.events) c'.deref-2.ensures in
    let kept = subst (λ (l : List Event). IsKept l) (ap (λ (t : LedgerTables). t.history.events) c'.deref.ensures) c'.are_kept.ensures.kept in
    let first : c'.first.result.now ≡ event.Start c'.args.rules =
    c'.first.ensures (event.Start c'.args.rules) (ap (λ (l : List Event). slice_get l 0) (shown ∙ c'.in-Ok.ensures)) in
    let one : c'.in-Ok.tables.value.history.events ≡ c'.first.result.now ∷ [] = c'.in-Ok.ensures ∙ ap (λ (e : Event). e ∷ []) (sym first) in
    c'.in-Err-keep_start.ensures.recovers (starts-on c'.first.result.now (subst (λ (l : List Event). IsKept l) one kept)) c'.requires.recovers
