-- What pushes do to a tally and to headers.
use Rattle.std.proofs.Common.{◌≡◌, ℕ, Bool, true, false, cond, None, Some, Option, List, ◌∷◌, refl, ap, sym, subst, ◌∙◌}
use Rattle.std.specs.List.{list_any}
use Rattle.std.specs.Option.{option_map}
use Rattle.std.specs.Str.{bytes_eq}
use Rattle.pool_history.specs.Crediting.{Booked}
use Rattle.pool_history.specs.Settling.{Settled}
use Rattle.payouts.specs.Plans.{Applies, BlockPlan, IsPlanOf, Planning}
use Rattle.payouts.specs.Tallies.{DiffersInRoom, Remembers, Weighing}
use Rattle.payouts.specs.Totals.{HasSums, SumsPlan}
use Rattle.pool_tables.specs.Headers.{HeaderSet, ShowsHeaders}
use Rattle.pool_tables.specs.declared.passing.Passed.{Passed}
use Rattle.ledger_replay.specs.Shares.{BooksNothing, BooksPassed, WereBooked, booked_for}

-- a tally and headers that have more room were told the same
pub room-stays : (old new : Weighing) (set set' : HeaderSet) → DiffersInRoom old new → set'.kept ≡ set.kept → BooksNothing old set new set'
room-stays old new set set' same kept rules credits headers was = record {
  window_is = ap (λ (t : Weighing). t.window) same ∙ was.window_is;
  tally_is = subst (λ (t : Weighing). Remembers t credits) (sym same)
      (record {
        accounts_are = was.tally_is.accounts_are;
        weights_are = was.tally_is.weights_are;
        pushes_are = was.tally_is.pushes_are;
        unsettled_is = was.tally_is.unsettled_is;
      });
  sums_are = subst (λ (t : Weighing). HasSums t rules.fee credits) (sym same)
      (record {
        works_are = was.sums_are.works_are;
        balances_are = was.sums_are.balances_are;
        pool_is = was.sums_are.pool_is;
        blocks_are = was.sums_are.blocks_are;
      });
  headers_are = record { among = λ header. ap (list_any (bytes_eq header)) kept ∙ was.headers_are.among header };
}

-- a plan as a credit
abbrev planned_credit : Planning → Booked
planned_credit plan = record { account = plan.account; work = plan.work; reward = option_map (λ (b : BlockPlan). b.reward) plan.block }

reward-planned : (block : Option BlockPlan) (b : Bool) (reward fee : ℕ)
    → option_map {U = ℕ × ℕ} (λ (planned : BlockPlan). (planned.reward, planned.fee)) block ≡ cond b (Some (reward, fee)) None
    → option_map (λ (planned : BlockPlan). planned.reward) block ≡ cond b (Some reward) None
reward-planned None true reward fee h = absurd cc
reward-planned None false reward fee h = refl
reward-planned (Some block) true reward fee h = ap Some (ap (λ (p : ℕ × ℕ). p.0) (both h)) where
  both : ◌≡◌ {A = Option (ℕ × ℕ)} (Some (block.reward, block.fee)) (Some (reward, fee)) → ◌≡◌ {A = ℕ × ℕ} (block.reward, block.fee) (reward, fee)
  both e = cc
reward-planned (Some block) false reward fee h = absurd cc

fee-planned : (block : BlockPlan) (b : Bool) (reward fee : ℕ)
    → option_map {U = ℕ × ℕ} (λ (planned : BlockPlan). (planned.reward, planned.fee)) (Some block) ≡ cond b (Some (reward, fee)) None → block.fee ≡ fee
fee-planned block true reward fee h = ap (λ (p : ℕ × ℕ). p.1) (both h) where
  both : ◌≡◌ {A = Option (ℕ × ℕ)} (Some (block.reward, block.fee)) (Some (reward, fee)) → ◌≡◌ {A = ℕ × ℕ} (block.reward, block.fee) (reward, fee)
  both e = cc
fee-planned block false reward fee h = absurd cc

planned-as : (account : List ℕ) (p : Passed) (fee : ℕ) (plan : Planning)
    → IsPlanOf account p.work (cond p.is_block (Some (p.reward, fee)) None) plan → planned_credit plan ≡ booked_for account p
planned-as account p fee plan is =
    ap (λ a. record { account = a; work = plan.work; reward = option_map (λ (b : BlockPlan). b.reward) plan.block }) is.account_is
    ∙ ap (λ n. record { account = account; work = n; reward = option_map (λ (b : BlockPlan). b.reward) plan.block }) is.work_is
    ∙ ap (λ r. record { account = account; work = p.work; reward = r }) (reward-planned plan.block p.is_block p.reward fee is.block_is)

remembered : (old new : Weighing) (credits : List Booked) (account : List ℕ) (work : ℕ) (block : Option BlockPlan) (settled : Option Settled)
    → Remembers old credits → Applies old new account work block settled
    → Remembers new (record { account = account; work = work; reward = option_map (λ (b : BlockPlan). b.reward) block } ∷ credits)
remembered old new credits account work None None was applies = applies credits was
remembered old new credits account work (Some block) (Some settled) was applies = (applies credits was).remembers
remembered old new credits account work None (Some settled) was applies = absurd applies
remembered old new credits account work (Some block) None was applies = absurd applies

summed : (old new : Weighing) (credits : List Booked) (account : List ℕ) (work fee : ℕ) (block : Option BlockPlan)
    → ((planned : BlockPlan) → block ≡ Some planned → planned.fee ≡ fee) → Remembers old credits → HasSums old fee credits
    → SumsPlan old new account work block
    → HasSums new fee (record { account = account; work = work; reward = option_map (λ (b : BlockPlan). b.reward) block } ∷ credits)
summed old new credits account work fee None charged was sums plans = plans fee credits was sums
summed old new credits account work fee (Some block) charged was sums plans =
    let same : block.fee ≡ fee = charged block refl in
    subst (λ f. HasSums new f (record { account = account; work = work; reward = Some block.reward } ∷ credits)) same
    (plans credits was (subst (λ f. HasSums old f credits) (sym same) sums))

-- a planned push is applied
pub pushed : (old roomy new : Weighing) (set wide set' : HeaderSet) (account : List ℕ) (p : Passed) (fee : ℕ) (plan : Planning) (settled : Option Settled)
    → DiffersInRoom old roomy → wide.kept ≡ set.kept → IsPlanOf account p.work (cond p.is_block (Some (p.reward, fee)) None) plan
    → Applies roomy new plan.account plan.work plan.block settled → SumsPlan roomy new plan.account plan.work plan.block
    → new.window ≡ roomy.window → ((seen : List (List ℕ)) → ShowsHeaders wide seen → ShowsHeaders set' (p.header ∷ seen))
    → BooksPassed old set new set' account p fee
pushed old roomy new set wide set' account p fee plan settled same kept is applies sums window shows rules credits headers charged was =
    let there : WereBooked rules roomy wide credits headers = room-stays old roomy set wide same kept rules credits headers was in
    subst (λ (c : Booked). WereBooked rules new set' (c ∷ credits) (p.header ∷ headers)) (planned-as account p fee plan is)
    (record {
      window_is = window ∙ there.window_is;
      tally_is = remembered roomy new credits plan.account plan.work plan.block settled there.tally_is applies;
      sums_are = summed roomy new credits plan.account plan.work rules.fee plan.block
          (λ planned e. fee-planned planned p.is_block p.reward fee (subst (λ (o : Option BlockPlan). option_map {U = ℕ × ℕ} (λ (b : BlockPlan). (b.reward, b.fee)) o
          ≡ cond p.is_block (Some (p.reward, fee)) None) e is.block_is) ∙ charged)
          there.tally_is there.sums_are sums;
      headers_are = shows headers there.headers_are;
    })
