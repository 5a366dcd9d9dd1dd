use Rattle.std.proofs.Common.{◌≡◌, ◌∙◌, List, ℕ, [], map, ap, ap₂, arith, length}
use Rattle.std.specs.String.{string_bytes}
use Rattle.payouts.specs.Sheets.{listed_at}
use Rattle.payouts.specs.Tallies.{weights_in}
use Rattle.payouts.specs.Weights.{weighed_places}
use Rattle.payouts.proofs.Listing.{lists-weighed}
use Rattle.payouts.proofs.Tallied.{weights-shown}
use Rattle.payouts.proofs.Told.{told_settled}
use Rattle.payouts.proofs.Totalled.{summed_block}
use Rattle.payouts.proofs.tally.Tally.settle.Goals as goal

pub close-requires-clause-accounts : goal.close-requires-clause-accounts
close-requires-clause-accounts c =
    let names : map string_bytes c.as_slice.result.now ≡ c.args.self.now.accounts = ap (map string_bytes) c.as_slice.ensures.keys ∙ ap (λ tally. tally.accounts) c.self.view_is in
    let shown : c.self.inside.weights.numbers ≡ weights_in c.args.self.now = weights-shown _ _ _ _ _ _ _ c.self.invariant.weighed ∙ ap weights_in c.self.view_is in
    let places : c.as_slice-2.result.now ≡ weighed_places (weights_in c.args.self.now) = c.as_slice-2.ensures.value ∙ c.in_ok-places.ensures ∙ ap weighed_places shown in
    let long : length (weights_in c.args.self.now) ≡ length c.args.self.now.accounts =
    omega (arith, c.self.invariant.weighed.same_length, ap (λ (ns : List ℕ). length ns) shown, ap (λ tally. length tally.accounts) c.self.view_is) in
    lists-weighed c.args.self.now.accounts [] (weights_in c.args.self.now) c.in_ok-sheet.sheet long
    (c.in_ok-sheet.ensures ∙ ap₂ (λ accounts places. map (listed_at accounts []) places) names places)

pub returns-clause-settled : goal.returns-clause-settled
returns-clause-settled c = told_settled c.args.self.now c.close.new.self c.args.reward c.args.fee c.close.result c.requires.fee c.close.ensures.some c.close.ensures.settled c.close.ensures.ends

pub returns-clause-summed : goal.returns-clause-summed
returns-clause-summed c =
    summed_block c.args.self.now c.close.new.self c.args.reward c.args.fee c.close.result c.close.ensures.ends.window_stays c.close.ensures.ends.accounts_stay c.close.ensures.ends.works_stay c.close.ensures.settled c.close.ensures.pays

pub returns-clause-window : goal.returns-clause-window
returns-clause-window c = c.close.ensures.ends.window_stays
