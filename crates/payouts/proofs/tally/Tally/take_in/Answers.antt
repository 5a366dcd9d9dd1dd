use Rattle.std.proofs.Common.{◌≡◌, ◌+◌, ◌<◌, ◌≤◌, ◌∙◌, List, ℕ, length, map, refl, ap, ap₂, sym, subst, arith}
use Rattle.std.specs.List.{AllByRecursion}
use Rattle.std.specs.String.{string_bytes}
use Rattle.std.proofs.lemmas.List.{length-map}
use Rattle.pool_history.specs.Settling.{with_account}
use Rattle.payouts.specs.Tallies.{AddsCredit, HasRoundsByRule, KeepsCredits, account_place, round_works_by, weights_by, weights_in, window_of, with_newcomer}
use Rattle.payouts.specs.Weights.{AreAtMost}
use Rattle.payouts.specs.Window.{added, weights_sum}
use Rattle.payouts.proofs.Added.{length-added, total-added}
use Rattle.payouts.proofs.Tallied.{adds-shown, keeps-with_newcomer, few-pushed, most-shown, newcomer-long, rounds-shown, short-with_account, total-with_newcomer, weights-kept, weights-shown}
use Rattle.payouts.proofs.tally.Tally.take_in.Goals as goal

pub weigh-self-inside-requires-clause-keeps : goal.weigh-self-inside-requires-clause-keeps
weigh-self-inside-requires-clause-keeps c =
    subst (λ ns. KeepsCredits (window_of c.self.inside.rule) c.self.inside.kept.items ns) (sym c.place_for-place.ensures.weights)
    (keeps-with_newcomer (window_of c.self.inside.rule) (string_bytes c.args.account) (map string_bytes c.self.inside.names.keys) c.self.inside.kept.items c.self.inside.weights.numbers c.self.invariant.weighed.keeps)

pub invariant_of-self : goal.invariant_of-self
invariant_of-self c =
    let account : List ℕ = string_bytes c.args.account in
    let accounts : List (List ℕ) = map string_bytes c.self.inside.names.keys in
    let weights = newcomer-long (string_bytes c.args.account) (map string_bytes c.self.inside.names.keys) c.self.inside.weights.numbers c.self.invariant.weighed.same_length in
    let works = newcomer-long (string_bytes c.args.account) (map string_bytes c.self.inside.names.keys) c.self.inside.sums.works.items (c.self.invariant.summed.works_length ∙ c.self.invariant.weighed.same_length) in
    let balances = newcomer-long (string_bytes c.args.account) (map string_bytes c.self.inside.names.keys) c.self.inside.sums.balances.items (c.self.invariant.summed.balances_length ∙ c.self.invariant.weighed.same_length) in
    let long : length c.weigh-self-inside.new.weights.numbers ≡ length (with_newcomer (string_bytes c.args.account) (map string_bytes c.self.inside.names.keys) c.self.inside.weights.numbers) =
    c.weigh-self-inside.ensures.length ∙ ap (λ (ns : List ℕ). length ns) c.place_for-place.ensures.weights in
    let within : c.place_for-place.result < length c.place_for-place.new.sums.works.items =
    omega (arith, c.place_for-place.ensures.within, ap (λ (ns : List ℕ). length ns) c.place_for-place.ensures.weights, ap (λ (ns : List ℕ). length ns) c.place_for-place.ensures.works, weights, works) in
    record {
      weighed = record {
        same_length = omega (arith, c.weigh-self-inside.ensures.length, c.place_for-place.ensures.same, length-map c.place_for-place.new.names.keys string_bytes);
        summed = c.weigh-self-inside.ensures.summed;
        small = omega (arith, c.weigh-self-inside.ensures.grown, c.self.invariant.weighed.small, c.requires.small);
        few = omega (arith, c.requires.few, ap (λ tally. tally.pushes) c.self.view_is);
        some = λ unsettled. c.weigh-self-inside.ensures.some;
        short = subst (AllByRecursion (λ (a : List ℕ). length a ≤ 255)) (sym c.place_for-place.ensures.names) (short-with_account account accounts c.requires.short c.self.invariant.weighed.short);
        keeps = c.weigh-self-inside.ensures.keeps;
      };
      summed = record {
        works_length = omega (
          arith,
          ap (λ (ns : List ℕ). length ns) c.add_work.ensures.added,
          length-added c.place_for-place.new.sums.works.items c.place_for-place.result c.args.work,
          ap (λ (ns : List ℕ). length ns) c.place_for-place.ensures.works,
          works,
          weights,
          long,
        );
        works_small = omega (
          arith,
          ap weights_sum c.add_work.ensures.added,
          total-added c.place_for-place.new.sums.works.items c.place_for-place.result c.args.work within,
          ap weights_sum c.place_for-place.ensures.works,
          total-with_newcomer account accounts c.self.inside.sums.works.items,
          c.self.invariant.summed.works_small,
          c.requires.small,
        );
        balances_length = omega (arith, ap (λ (ns : List ℕ). length ns) c.place_for-place.ensures.balances, balances, weights, long);
        paid_small = omega (
          arith,
          ap weights_sum c.place_for-place.ensures.balances,
          total-with_newcomer account accounts c.self.inside.sums.balances.items,
          c.self.invariant.summed.paid_small,
          c.place_for-place.ensures.pool,
          c.place_for-place.ensures.blocks,
        );
        few = few-pushed c.self.inside.sums.blocks c.place_for-place.new.sums.blocks c.self.inside.pushes c.self.inside.unsettled c.place_for-place.ensures.blocks c.self.invariant.summed.few;
      };
    }

pub returns : goal.returns
returns c =
    let account : List ℕ = string_bytes c.args.account in
    let accounts : List (List ℕ) = map string_bytes c.self.inside.names.keys in
    let long : length c.weigh-self-inside.new.weights.numbers ≡ length (map string_bytes c.place_for-place.new.names.keys) =
    omega (arith, c.weigh-self-inside.ensures.length, c.place_for-place.ensures.same, length-map c.place_for-place.new.names.keys string_bytes) in
    let was : c.place_for-place.new.weights.numbers
    ≡ with_newcomer (string_bytes c.args.account) (map string_bytes c.self.inside.names.keys)
    (weights_by (window_of c.self.inside.rule) (length (map string_bytes c.self.inside.names.keys)) (round_works_by (window_of c.self.inside.rule) c.self.inside.weights.numbers) c.self.inside.kept.items) =
    c.place_for-place.ensures.weights ∙ ap (with_newcomer account accounts) (weights-shown _ _ _ _ _ _ _ c.self.invariant.weighed) in
    let is = weights-kept (window_of c.self.inside.rule) (map string_bytes c.place_for-place.new.names.keys) c.weigh-self-inside.new.weights.numbers c.weigh-self-inside.new.kept.items long c.weigh-self-inside.ensures.keeps in
    record {
      pushed = record {
        window_stays = ap (λ tally. tally.window) c.self.view_is;
        accounts_are = c.place_for-place.ensures.names ∙ ap (λ tally. with_account (string_bytes c.args.account) tally.accounts) c.self.view_is;
        weighed = subst (λ tally. AddsCredit tally.window tally.kept (with_newcomer (string_bytes c.args.account) tally.accounts (weights_in tally)) (record { place = account_place tally.accounts (string_bytes c.args.account); part = c.args.work })
            c.weigh-self-inside.new.kept.items (weights_by (window_of c.self.inside.rule) (length (map string_bytes c.place_for-place.new.names.keys)) (round_works_by (window_of c.self.inside.rule) c.weigh-self-inside.new.weights.numbers) c.weigh-self-inside.new.kept.items)) c.self.view_is
            (adds-shown (window_of c.self.inside.rule) c.self.inside.kept.items c.weigh-self-inside.new.kept.items _ _ _ _ _ _ c.args.work was c.place_for-place.ensures.place is c.weigh-self-inside.ensures.adds);
        rounds = subst (λ tally. HasRoundsByRule tally.window (round_works_by (window_of c.self.inside.rule) c.weigh-self-inside.new.weights.numbers)) c.self.view_is
            (rounds-shown (window_of c.self.inside.rule) c.weigh-self-inside.new.weights.numbers);
        most = subst (λ tally. AreAtMost (weights_by (window_of c.self.inside.rule) (length (map string_bytes c.place_for-place.new.names.keys)) (round_works_by (window_of c.self.inside.rule) c.weigh-self-inside.new.weights.numbers) c.weigh-self-inside.new.kept.items)
            (added (with_newcomer (string_bytes c.args.account) tally.accounts (weights_in tally)) (account_place tally.accounts (string_bytes c.args.account)) c.args.work)) c.self.view_is
            (most-shown _ _ _ _ _ _ c.args.work was c.place_for-place.ensures.place is c.weigh-self-inside.ensures.most);
        works_are = c.add_work.ensures.added ∙ ap₂ (λ ns place. added ns place c.args.work) c.place_for-place.ensures.works c.place_for-place.ensures.place
            ∙ ap (λ tally. added (with_newcomer (string_bytes c.args.account) tally.accounts tally.works) (account_place tally.accounts (string_bytes c.args.account)) c.args.work) c.self.view_is;
        balances_are = c.place_for-place.ensures.balances ∙ ap (λ tally. with_newcomer (string_bytes c.args.account) tally.accounts tally.balances) c.self.view_is;
        pool_stays = c.place_for-place.ensures.pool ∙ ap (λ tally. tally.pool) c.self.view_is;
        blocks_stay = c.place_for-place.ensures.blocks ∙ ap (λ tally. tally.blocks) c.self.view_is;
        pushes_are = ap (λ tally. tally.pushes + 1) c.self.view_is;
        unsettled_is = refl;
      };
    }
