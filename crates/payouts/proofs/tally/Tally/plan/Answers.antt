use Rattle.std.proofs.Common.{◌≡◌, ◌∙◌, map, ap, arith, subst, sym}
use Rattle.std.specs.Option.{option_map}
use Rattle.std.specs.String.{string_bytes}
use Rattle.pool_history.specs.Settling.{with_account}
use Rattle.payouts.specs.declared.tally.PlannedBlock.{PlannedBlock}
use Rattle.payouts.specs.Plans.{BlockPlan, ListsAccounts}
use Rattle.payouts.specs.Sheets.{listed_accounts}
use Rattle.payouts.specs.Tallies.{account_place, weights_in, with_newcomer}
use Rattle.payouts.specs.Weights.{IsRisingFrom}
use Rattle.payouts.specs.Window.{added}
use Rattle.payouts.proofs.Listing.{lists-pushed}
use Rattle.payouts.proofs.Ordered.{weighed-rising}
use Rattle.payouts.proofs.Tallied.{weights-shown}
use Rattle.payouts.proofs.tally.Tally.plan.Goals as goal
use Rattle.payouts.proofs.tally.Tally.plan.Goals.{in-None, in-Some+in_ok-places-in-Some+in_ok-sheet-in-Some}

planned : PlannedBlock → BlockPlan
planned block = record { reward = block.reward; fee = block.fee; listed = block.sheet }

pub sheet_with-requires-clause-rising : goal.sheet_with-requires-clause-rising
sheet_with-requires-clause-rising c = subst (IsRisingFrom 0) (sym c.in_ok-places-in-Some.ensures) (weighed-rising c.self.inside.weights.numbers)

pub returns-clause-fits : goal.returns-clause-fits
returns-clause-fits c = record {
  room = c.in_ok-make_room.ensures.room;
  few = omega (arith, c.requires.few, ap (λ tally. tally.pushes) c.make_room.ensures.same);
  lists = elim c.match-block.branch [
    | in-None w ↦ subst (λ block. ListsAccounts c.make_room.new.self (string_bytes c.in_ok-text.text) c.args.work (option_map (λ (b : PlannedBlock). record { reward = b.reward; fee = b.fee; listed = b.sheet }) block)) (sym w.block-is) tt
    | in-Some+in_ok-places-in-Some+in_ok-sheet-in-Some w ↦
        subst (λ block. ListsAccounts c.make_room.new.self (string_bytes c.in_ok-text.text) c.args.work (option_map (λ (b : PlannedBlock). record { reward = b.reward; fee = b.fee; listed = b.sheet }) block)) (sym w.block-is)
        (subst (λ text. w.in_ok-sheet-in-Some.sheet ≡ listed_accounts (with_account text c.make_room.new.self.accounts) (added (with_newcomer text c.make_room.new.self.accounts (weights_in c.make_room.new.self)) (account_place c.make_room.new.self.accounts text) c.args.work)) (sym c.in_ok-text.ensures.ok)
        (subst (λ tally. w.in_ok-sheet-in-Some.sheet ≡ listed_accounts (with_account c.args.account.now tally.accounts) (added (with_newcomer c.args.account.now tally.accounts (weights_in tally)) (account_place tally.accounts c.args.account.now) c.args.work)) c.self.view_is
        (lists-pushed c.args.account.now (map string_bytes c.self.inside.names.keys) c.self.inside.weights.numbers c.args.work w.in_ok-places-in-Some.places.items w.in_ok-sheet-in-Some.sheet c.requires.some c.self.invariant.weighed.same_length w.in_ok-places-in-Some.ensures w.in_ok-sheet-in-Some.ensures
        ∙ ap (λ ws. listed_accounts (with_account c.args.account.now (map string_bytes c.self.inside.names.keys)) (added (with_newcomer c.args.account.now (map string_bytes c.self.inside.names.keys) ws) (account_place (map string_bytes c.self.inside.names.keys) c.args.account.now) c.args.work))
        (weights-shown _ _ _ _ _ _ _ c.self.invariant.weighed))))
  ];
}
