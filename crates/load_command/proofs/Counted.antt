-- One event more is a credit, or it isn't.
use Rattle.std.proofs.Common.{◌≡◌, ℕ, ◌+◌, ◌<◌, Bool, true, false, List, take, length, get_or, count_by, sym, ap, ◌∙◌}
use Rattle.std.proofs.lemmas.List.Sums.{count_by_more_no, count_by_more_yes}
use Rattle.std.proofs.lemmas.Option.{slice_get-get_or}
use Rattle.std.specs.List.{slice_get}
use Rattle.std.specs.Option.{option_map_or}
use Rattle.pool_history.specs.declared.events.Event.{Event}
use Rattle.pool_history.specs.declared.events.Event.TheVariants as event
use Rattle.load_command.specs.Loads.{is_credit}

none : Event
none = event.Leave 0

at_place : (events : List Event) (at : ℕ) (b : Bool) → at < length events → b ≡ option_map_or is_credit (slice_get events at) false
    → is_credit (get_or events at none) ≡ b
at_place events at b inside is = sym (is ∙ ap (λ o. option_map_or is_credit o false) (slice_get-get_or events at none inside))

pub counted-one : (events : List Event) (at count : ℕ) (b : Bool) → at < length events → b ≡ option_map_or is_credit (slice_get events at) false → b ≡ true
    → count ≡ count_by is_credit (take at events) → count + 1 ≡ count_by is_credit (take (at + 1) events)
counted-one events at count b inside is one so_far =
    ap (λ n. n + 1) so_far ∙ sym (count_by_more_yes is_credit events at none inside (at_place events at b inside is ∙ one))

pub counted-none : (events : List Event) (at count : ℕ) (b : Bool) → at < length events → b ≡ option_map_or is_credit (slice_get events at) false → b ≡ false
    → count ≡ count_by is_credit (take at events) → count ≡ count_by is_credit (take (at + 1) events)
counted-none events at count b inside is missed so_far = so_far ∙ sym (count_by_more_no is_credit events at none inside (at_place events at b inside is ∙ missed))
