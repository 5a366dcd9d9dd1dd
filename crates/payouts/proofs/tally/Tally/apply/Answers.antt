use Rattle.std.proofs.Common.{◌∙◌, None, Some, ap, sym, subst}
use Rattle.std.specs.Option.{option_map}
use Rattle.std.specs.String.{string_bytes}
use Rattle.payouts.specs.declared.tally.PlannedBlock.{PlannedBlock}
use Rattle.payouts.specs.Plans.{Applies, BlockPlan, ListsAccounts}
use Rattle.payouts.specs.Sheets.{listed_accounts}
use Rattle.payouts.specs.Tallies.{account_place, weights_in, with_newcomer}
use Rattle.payouts.specs.Totals.{PaysPlan, SumsPlan}
use Rattle.payouts.specs.Window.{added}
use Rattle.payouts.proofs.Told.{told_push, told_settled_push}
use Rattle.payouts.proofs.Totalled.{summed_block, summed_push, summed_settled_push}
use Rattle.payouts.proofs.tally.Tally.apply.Goals as goal

planned : PlannedBlock → BlockPlan
planned block = record { reward = block.reward; fee = block.fee; listed = block.sheet }

pub close-requires-clause-accounts : goal.close-requires-clause-accounts
unfolding planned
close-requires-clause-accounts c =
    let lists : ListsAccounts c.args.self.now (string_bytes c.plan.inside.account) c.plan.inside.work (Some (planned c.in-Some.block)) =
    subst (λ block. ListsAccounts c.args.self.now (string_bytes c.plan.inside.account) c.plan.inside.work (option_map (λ (b : PlannedBlock). record { reward = b.reward; fee = b.fee; listed = b.sheet }) block)) c.in-Some.is
    (subst (λ plan. ListsAccounts c.args.self.now plan.account plan.work plan.block) (sym c.plan.view_is) c.requires.fits.lists) in
    record {
      mosts = added (with_newcomer (string_bytes c.plan.inside.account) c.args.self.now.accounts (weights_in c.args.self.now)) (account_place c.args.self.now.accounts (string_bytes c.plan.inside.account)) c.plan.inside.work;
      listed_are = lists ∙ ap (λ accounts. listed_accounts accounts (added (with_newcomer (string_bytes c.plan.inside.account) c.args.self.now.accounts (weights_in c.args.self.now)) (account_place c.args.self.now.accounts (string_bytes c.plan.inside.account)) c.plan.inside.work)) (sym c.take_in.ensures.pushed.accounts_are);
      most = c.take_in.ensures.pushed.most;
    }

pub returns-in-None : goal.returns-in-None
returns-in-None c = record {
  applied = subst (λ plan. Applies c.args.self.now c.take_in.new.self plan.account plan.work plan.block None) c.plan.view_is
      (subst (λ block. Applies c.args.self.now c.take_in.new.self (string_bytes c.plan.inside.account) c.plan.inside.work (option_map (λ (b : PlannedBlock). record { reward = b.reward; fee = b.fee; listed = b.sheet }) block) None) (sym c.in-None.is)
      (told_push c.args.self.now c.take_in.new.self (string_bytes c.plan.inside.account) c.plan.inside.work c.plan.invariant.some c.take_in.ensures.pushed));
  summed = subst (λ plan. SumsPlan c.args.self.now c.take_in.new.self plan.account plan.work plan.block) c.plan.view_is
      (subst (λ block. SumsPlan c.args.self.now c.take_in.new.self (string_bytes c.plan.inside.account) c.plan.inside.work (option_map (λ (b : PlannedBlock). record { reward = b.reward; fee = b.fee; listed = b.sheet }) block)) (sym c.in-None.is)
      (summed_push c.args.self.now c.take_in.new.self (string_bytes c.plan.inside.account) c.plan.inside.work c.take_in.ensures.pushed));
  pays = subst (λ plan. PaysPlan c.args.self.now c.take_in.new.self plan.account plan.work plan.block None) c.plan.view_is
      (subst (λ block. PaysPlan c.args.self.now c.take_in.new.self (string_bytes c.plan.inside.account) c.plan.inside.work (option_map (λ (b : PlannedBlock). record { reward = b.reward; fee = b.fee; listed = b.sheet }) block) None) (sym c.in-None.is)
      c.take_in.ensures.pushed);
  window = c.take_in.ensures.pushed.window_stays;
}

pub returns-in-Some : goal.returns-in-Some
returns-in-Some c = record {
  applied = subst (λ plan. Applies c.args.self.now c.close.new.self plan.account plan.work plan.block (Some c.close.result)) c.plan.view_is
      (subst (λ block. Applies c.args.self.now c.close.new.self (string_bytes c.plan.inside.account) c.plan.inside.work (option_map (λ (b : PlannedBlock). record { reward = b.reward; fee = b.fee; listed = b.sheet }) block) (Some c.close.result)) (sym c.in-Some.is)
      (told_settled_push c.args.self.now c.take_in.new.self c.close.new.self (string_bytes c.plan.inside.account) c.plan.inside.work c.in-Some.block.reward c.in-Some.block.fee c.close.result c.plan.invariant.some c.in-Some.block.payable.part c.close.ensures.some c.take_in.ensures.pushed c.close.ensures.settled c.close.ensures.ends));
  summed = subst (λ plan. SumsPlan c.args.self.now c.close.new.self plan.account plan.work plan.block) c.plan.view_is
      (subst (λ block. SumsPlan c.args.self.now c.close.new.self (string_bytes c.plan.inside.account) c.plan.inside.work (option_map (λ (b : PlannedBlock). record { reward = b.reward; fee = b.fee; listed = b.sheet }) block)) (sym c.in-Some.is)
      (summed_settled_push c.args.self.now c.take_in.new.self c.close.new.self (string_bytes c.plan.inside.account) c.plan.inside.work c.in-Some.block.reward c.in-Some.block.fee c.plan.invariant.some c.take_in.ensures.pushed
      (summed_block c.take_in.new.self c.close.new.self c.in-Some.block.reward c.in-Some.block.fee c.close.result c.close.ensures.ends.window_stays c.close.ensures.ends.accounts_stay c.close.ensures.ends.works_stay c.close.ensures.settled c.close.ensures.pays)));
  pays = subst (λ plan. PaysPlan c.args.self.now c.close.new.self plan.account plan.work plan.block (Some c.close.result)) c.plan.view_is
      (subst (λ block. PaysPlan c.args.self.now c.close.new.self (string_bytes c.plan.inside.account) c.plan.inside.work (option_map (λ (b : PlannedBlock). record { reward = b.reward; fee = b.fee; listed = b.sheet }) block) (Some c.close.result)) (sym c.in-Some.is)
      (c.take_in.new.self, c.take_in.ensures.pushed, c.close.ensures.pays));
  window = c.close.ensures.ends.window_stays ∙ c.take_in.ensures.pushed.window_stays;
}
