use Rattle.std.proofs.Common.{◌≡◌, ◌∙◌, map, ap₂, subst}
use Rattle.std.specs.Result.{IfOk}
use Rattle.std.specs.String.{string_bytes}
use Rattle.payouts.specs.Sheets.{listed_at}
use Rattle.payouts.specs.Tallies.{account_place}
use Rattle.payouts.specs.Weights.{with_place}
use Rattle.payouts.proofs.tally.sheet_with.Goals as goal

pub returns : goal.returns
returns c =
    let places : c.as_slice-2.result.now ≡ with_place (account_place (map string_bytes c.args.names.now.keys) c.args.account.now) c.args.places.items =
    c.as_slice-2.ensures.value ∙ c.insert_place.ensures.places ∙ ap₂ with_place c.place_of.ensures c.in_ok-reserve.ensures.items in
    subst (λ listed. IfOk c.of.result (λ sheet. sheet ≡ listed))
    (ap₂ (λ names places. map (listed_at (map string_bytes names) c.args.account.now) places) c.as_slice.ensures.keys places) c.of.ensures
