-- What stays as it is while a history grows (this project's own).
use Rattle.std.specs.Prelude.{◌≡◌, ◌<◌, ◌≤◌, ℕ, false, Some, List, [], ◌∷◌, ◌++◌, length}
use Rattle.std.specs.List.{AllByRecursion}
use Rattle.pool_history.specs.declared.events.Event.{Event}
use Rattle.pool_history.specs.Accounts.{is_empty}
use Rattle.pool_history.specs.Channels.{OpenChannel, channel_in, channels_of, class_at}
use Rattle.pool_history.specs.Crediting.{Booked, bookings_of, headers}
use Rattle.pool_history.specs.Jobs.{Job, jobs_of, live_job}
use Rattle.pool_history.specs.Sessions.{opens, past_of}

-- a channel later, while it is open: its session, kind, lead and opening class are as before, and
-- so is its account once it has one; its class before a place that was reached is as before,
-- whatever class was set since
pub record IsLater (place : ℕ) (before after : OpenChannel) : Type 0 where
  pub session : after.session ≡ before.session
  pub kind : after.kind ≡ before.kind
  pub lead : after.lead ≡ before.lead
  pub opening_class : after.opening_class ≡ before.opening_class
  pub account : is_empty before.account ≡ false → after.account ≡ before.account
  pub class : (at : ℕ) → at ≤ place → class_at after at ≡ class_at before at

-- a channel that is open now and later is so
abbrev pub ChannelsStay : Type 0
ChannelsStay =
    (history more : List Event) (id : ℕ) (before after : OpenChannel)
    → channel_in (channels_of (past_of history)) id ≡ Some before
    → channel_in (channels_of (past_of (history ++ more))) id ≡ Some after
    → IsLater (length history) before after

-- each channel comes before those with greater ids
abbrev pub AreInOrder : List OpenChannel → Type 0
AreInOrder [] = Unit {0}
AreInOrder (channel ∷ later) =
    AllByRecursion (λ other. channel.id < other.id) later × AreInOrder later

-- the channels of a history are in order, and their ids count the openings
pub record AreNumbered (history : List Event) : Type 0 where
  pub in_order : AreInOrder (channels_of (past_of history))
  pub opened : AllByRecursion (λ channel. channel.id ≤ opens (past_of history))
      (channels_of (past_of history))

-- so they are in each history
abbrev pub ChannelsAreNumbered : Type 0
ChannelsAreNumbered = (history : List Event) → AreNumbered history

-- a live job that is live later is the same job, live since the same place
abbrev pub JobsStay : Type 0
JobsStay =
    (history more : List Event) (number : ℕ) (before after : Job)
    → live_job (jobs_of (past_of history)) number ≡ Some before
    → live_job (jobs_of (past_of (history ++ more))) number ≡ Some after → after ≡ before

-- a job is live since the place that it was live since, and a channel's class there is as it was
pub record KeepsItsClass (before after : OpenChannel) (job later : Job) : Type 0 where
  pub place : ℕ
  pub was_live_at : job.live_at ≡ Some place
  pub is_live_at : later.live_at ≡ Some place
  pub same : class_at after place ≡ class_at before place

-- so the class of a channel at a live job never changes
abbrev pub ClassesStay : Type 0
ClassesStay =
    (history more : List Event) (id number : ℕ) (before after : OpenChannel) (job later : Job)
    → channel_in (channels_of (past_of history)) id ≡ Some before
    → channel_in (channels_of (past_of (history ++ more))) id ≡ Some after
    → live_job (jobs_of (past_of history)) number ≡ Some job
    → live_job (jobs_of (past_of (history ++ more))) number ≡ Some later
    → KeepsItsClass before after job later

-- the rebuilt headers of the credits that stand never change, nor do their accounts, work and
-- rewards
pub record CreditsStand (history more : List Event) : Type 0 where
  pub newer_headers : List (List ℕ)
  pub headers_are : headers (past_of (history ++ more)) ≡ newer_headers ++ headers (past_of history)
  pub newer : List Booked
  pub credits_are : bookings_of (past_of (history ++ more)) ≡ newer ++ bookings_of (past_of history)

-- so it is however a history grows
abbrev pub CreditsStay : Type 0
CreditsStay = (history more : List Event) → CreditsStand history more
