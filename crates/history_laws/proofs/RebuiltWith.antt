-- What a header is rebuilt with, by places: it is what the recursion over the past finds.
use Rattle.std.proofs.Common.{◌≡◌, ℕ, Some, ap, sym, ◌∙◌, List}
use Rattle.std.specs.Option.{option_and_then, option_map}
use Rattle.pool_history.specs.declared.events.Event.{Event}
use Rattle.pool_history.specs.ByPlaces.{tip_in}
use Rattle.pool_history.specs.Channels.{OpenChannel, channel_in, channels_of}
use Rattle.pool_history.specs.Crediting.{booked_with}
use Rattle.pool_history.specs.Jobs.{jobs_of}
use Rattle.pool_history.specs.Judging.{Admitted}
use Rattle.pool_history.specs.Sessions.{past_of}
use Rattle.pool_history.proofs.PlacesOfJobs.{jobs_are_by_places}
use Rattle.history_laws.specs.NineConditions.{BookingsByPlaces, IsOpenChannel, IsRebuiltWith}
use Rattle.history_laws.proofs.Crediting.{WasFound, booked-found, with_all, with_job, with_place, with_tip}
use Rattle.history_laws.proofs.Entrances.{some-same}
use Rattle.history_laws.proofs.LiveJobs.{live-placed, placed-live}
use Rattle.history_laws.proofs.Opening.{channels-placed}

pub open-placed : (h : List Event) (id : ℕ) (c : OpenChannel) → channel_in (channels_of (past_of h)) id ≡ Some c → IsOpenChannel h id c
open-placed h id c e = ap (λ l. channel_in l id) (sym (channels-placed h)) ∙ e

pub placed-open : (h : List Event) (id : ℕ) (c : OpenChannel) → IsOpenChannel h id c → channel_in (channels_of (past_of h)) id ≡ Some c
placed-open h id c e = ap (λ l. channel_in l id) (channels-placed h) ∙ e

pub tip-placed : (h : List Event) → (jobs_of (past_of h)).tip ≡ option_map (λ tipped. tipped.tip) (tip_in h)
tip-placed h = (jobs_are_by_places h).tip

pub booked-placed : (h : List Event) (channel job : ℕ) (with : Admitted) → booked_with (past_of h) channel job ≡ Some with → IsRebuiltWith h channel job with
booked-placed h channel job with is =
    let w : WasFound (past_of h) channel job with = booked-found (past_of h) channel job with is in
    record {
      is_open = open-placed h channel with.channel w.channel_is;
      is_job = live-placed h job with.job w.job_is;
      is_live_at = w.live_at_is;
      is_tip = sym (tip-placed h) ∙ w.tip_is;
    }

pub placed-booked : (h : List Event) (channel job : ℕ) (with : Admitted) → IsRebuiltWith h channel job with → booked_with (past_of h) channel job ≡ Some with
placed-booked h channel job with r =
    ap (option_and_then (with_job (past_of h) job)) (placed-open h channel with.channel r.is_open)
    ∙ ap (option_and_then (with_place (past_of h) with.channel)) (placed-live h job with.job r.is_job)
    ∙ ap (option_and_then (with_tip (past_of h) with.channel with.job)) r.is_live_at
    ∙ ap (option_map (with_all with.channel with.job with.live_at)) (tip-placed h ∙ r.is_tip)

-- there is one
pub one-rebuilt : (h : List Event) (channel job : ℕ) (a b : Admitted) → IsRebuiltWith h channel job a → IsRebuiltWith h channel job b → a ≡ b
one-rebuilt h channel job a b x y = some-same (sym (placed-booked h channel job a x) ∙ placed-booked h channel job b y)

pub bookings-placed : BookingsByPlaces
bookings-placed h channel job with = (booked-placed h channel job with, placed-booked h channel job with)
