-- What the credits of a legal history are.
use Rattle.std.proofs.Common.{◌≡◌, ℕ, ◌+◌, Bool, true, false, cond, not, Option, None, Some, Result, Ok, Err, List, [], ◌∷◌, ◌++◌, length, refl, ap, sym, ◌∙◌, arith, append_assoc}
use Rattle.std.proofs.lemmas.Bool.{and_from, not-true, not_from_false}
use Rattle.std.specs.Prelude.{nat_eq, nat_lt}
use Rattle.std.specs.Option.{option_and_then, option_map}
use Rattle.std.specs.List.{list_any}
use Rattle.std.specs.Str.{bytes_eq}
use Rattle.block_header.specs.Hash.{dsha, meets}
use Rattle.pool_history.specs.declared.events.Event.{Event}
use Rattle.pool_history.specs.declared.events.Event.TheVariants as event
use Rattle.pool_history.specs.declared.refusals.Failed.{Failed}
use Rattle.pool_history.specs.declared.refusals.Failed.TheVariants as failed
use Rattle.pool_history.specs.declared.settings.Rules.{Rules}
use Rattle.pool_history.specs.Accounts.{are_distinct}
use Rattle.pool_history.specs.Channels.{OpenChannel, channel_in, channels_of}
use Rattle.pool_history.specs.Conditions.{or_code, found, provided}
use Rattle.pool_history.specs.Crediting.{Booked, bookings_of, booked_with, booking, admitted_class, credit_share, first_failed, headers, last_failed, found_list}
use Rattle.pool_history.specs.Headers.{rolled_length}
use Rattle.pool_history.specs.declared.templates.TipData.{TipData}
use Rattle.pool_history.specs.Jobs.{Job, jobs_of, live_job}
use Rattle.pool_history.specs.Judging.{Admitted, Share, admission, is_in_time, is_known_job, is_version, rebuilt_header, serves}
use Rattle.pool_history.specs.Legal.{LegalPast, cause_of, failed_as, is_standard_in, may_mine}
use Rattle.pool_history.specs.Sessions.{credits, past_of, rules_of, script_of, script_in}
use Rattle.history_laws.specs.Credited.{CreditsAreBooked, NoShareTwice}
use Rattle.history_laws.specs.Staying.{CreditsStay}
use Rattle.history_laws.proofs.Answering.{first-ok, found-some, provided-ok}
use Rattle.history_laws.proofs.Causes.{IsUncaused, provided-both, uncaused, within-next}
use Rattle.history_laws.proofs.Entrances.{none-some, some-same}
use Rattle.history_laws.proofs.Judged.{ok-same}
use Rattle.history_laws.proofs.Legalities.{one_more_legal, past-append, past-one, some-none}

-- a channel, a job, since when it is live and a tip in one
abbrev pub with_all : OpenChannel → Job → ℕ → TipData → Admitted
with_all channel job place tip = record { channel = channel; job = job; live_at = place; tip = tip }

-- of a channel, of a live job, and of since when that is live
abbrev pub with_tip : List Event → OpenChannel → Job → ℕ → Option Admitted
with_tip past there live place = option_map (λ tip. with_all there live place tip) (jobs_of past).tip

abbrev pub with_place : List Event → OpenChannel → Job → Option Admitted
with_place past there live = option_and_then (λ place. with_tip past there live place) live.live_at

abbrev pub with_job : List Event → ℕ → OpenChannel → Option Admitted
with_job past job there = option_and_then (λ live. with_place past there live) (live_job (jobs_of past) job)

pub admission-booked : (rules : Rules) (past : List Event) (session : ℕ) (share : Share) (with : Admitted) → admission rules past session share ≡ Ok with
    → booked_with past share.channel share.job ≡ Some with
admission-booked rules past session share with h =
    let o : Option OpenChannel = channel_in (channels_of past) share.channel in
    let a = first-ok (found failed.Channel o) _ with h in
    let b = first-ok (provided (serves session share a.0) failed.Channel a.0) _ with a.2 in
    let c = first-ok (provided (nat_eq (length share.extranonce) (rolled_length b.0.kind b.0.lead)) failed.ExtranonceSize b.0) _ with b.2 in
    let d = first-ok (provided (is_known_job (jobs_of past) share) failed.Job b.0) _ with c.2 in
    let e = first-ok (found failed.Stale (live_job (jobs_of past) share.job)) _ with d.2 in
    let p = first-ok (found failed.Stale e.0.live_at) _ with e.2 in
    let f = first-ok (found failed.Stale (jobs_of past).tip) _ with p.2 in
    let g = first-ok (provided (is_version rules e.0.source share.version) failed.Version b.0) _ with f.2 in
    let k = first-ok (provided (is_in_time rules e.0.source f.0 share.ntime) failed.Ntime b.0) _ with g.2 in
    let same : a.0 ≡ b.0 = (provided-ok (serves session share a.0) failed.Channel a.0 b.0 b.1).1 in
    ap (option_and_then (with_job past share.job)) (found-some failed.Channel o a.0 a.1)
    ∙ ap (option_and_then (with_place past a.0)) (found-some failed.Stale (live_job (jobs_of past) share.job) e.0 e.1)
    ∙ ap (option_and_then (with_tip past a.0 e.0)) (found-some failed.Stale e.0.live_at p.0 p.1)
    ∙ ap (option_map (λ tip. with_all a.0 e.0 p.0 tip)) (found-some failed.Stale (jobs_of past).tip f.0 f.1)
    ∙ ap (λ x. Some (with_all x e.0 p.0 f.0)) same ∙ ap Some (ok-same k.2)

-- a value that was found, and what was made of it
pub then-some : {X Y : Type 0} (f : X → Option Y) (o : Option X) (y : Y) → option_and_then f o ≡ Some y → (x : X) × (o ≡ Some x) × (f x ≡ Some y)
then-some f None y h = absurd (none-some h)
then-some f (Some x) y h = (x, refl, h)

pub map-some : {X Y : Type 0} (f : X → Y) (o : Option X) (y : Y) → option_map f o ≡ Some y → (x : X) × (o ≡ Some x) × (f x ≡ y)
map-some f None y h = absurd (none-some h)
map-some f (Some x) y h = (x, refl, some-same h)

-- what a credit was booked with was found
pub record WasFound (past : List Event) (channel job : ℕ) (with : Admitted) : Type 0 where
  pub channel_is : channel_in (channels_of past) channel ≡ Some with.channel
  pub job_is : live_job (jobs_of past) job ≡ Some with.job
  pub live_at_is : with.job.live_at ≡ Some with.live_at
  pub tip_is : (jobs_of past).tip ≡ Some with.tip

pub booked-found : (past : List Event) (channel job : ℕ) (with : Admitted) → booked_with past channel job ≡ Some with → WasFound past channel job with
booked-found past channel job with h =
    let a = then-some (with_job past job) (channel_in (channels_of past) channel) with h in
    let b = then-some (with_place past a.0) (live_job (jobs_of past) job) with a.2 in
    let p = then-some (with_tip past a.0 b.0) b.0.live_at with b.2 in
    let c = map-some (λ tip. with_all a.0 b.0 p.0 tip) (jobs_of past).tip with p.2 in
    record {
      channel_is = a.1 ∙ ap (λ w. Some w.channel) c.2;
      job_is = b.1 ∙ ap (λ w. Some w.job) c.2;
      live_at_is = ap (λ w. w.job.live_at) (sym c.2) ∙ p.1 ∙ ap (λ w. Some w.live_at) c.2;
      tip_is = c.1 ∙ ap (λ w. Some w.tip) c.2;
    }

-- its channel is the open one
pub booked-channel : (past : List Event) (channel job : ℕ) (with : Admitted) → booked_with past channel job ≡ Some with
    → channel_in (channels_of past) channel ≡ Some with.channel
booked-channel past channel job with h = (booked-found past channel job with h).channel_is

-- the first of two conditions holds, and the next
pub kept-both : {X : Type 0} (b : Bool) (x : Option X) (y : X) → cond b x (Some y) ≡ None → (b ≡ true) × (x ≡ None)
kept-both true x y n = (refl, n)
kept-both false x y n = absurd (some-none n)

-- a share that no condition fails
pub record IsGood (rules : Rules) (past : List Event) (session : ℕ) (share : Share) : Type 0 where
  pub with : Admitted
  pub is_admitted : admission rules past session share ≡ Ok with
  pub meets_class : meets (dsha (rebuilt_header rules.pool_script with share)) (admitted_class with) ≡ true
  pub header_new : list_any (bytes_eq (rebuilt_header rules.pool_script with share)) (headers past) ≡ false
  pub room : nat_lt (credits past) rules.credit_limit ≡ true

pub good_by : (rules : Rules) (past : List Event) (session : ℕ) (share : Share) (r : Result Admitted Failed) → admission rules past session share ≡ r
    → last_failed rules past share r ≡ None → IsGood rules past session share
good_by rules past session share (Err code) is n = absurd (some-none n)
good_by rules past session share (Ok with) is n =
    let header : List ℕ = rebuilt_header rules.pool_script with share in
    let full : Option Failed = or_code (nat_lt (credits past) rules.credit_limit) failed.Full None in
    let twice : Option Failed = or_code (not (list_any (bytes_eq header) (headers past))) failed.Duplicate full in
    let a = provided-both (meets (dsha header) (admitted_class with)) failed.Difficulty twice n in
    let b = provided-both (not (list_any (bytes_eq header) (headers past))) failed.Duplicate full a.1 in
    let c = provided-both (nat_lt (credits past) rules.credit_limit) failed.Full None b.1 in
    record {
      with = with;
      is_admitted = is;
      meets_class = a.0;
      header_new = not-true (list_any (bytes_eq header) (headers past)) b.0;
      room = c.0;
    }

pub failed-none : (o : Option Failed) → failed_as o ≡ None → o ≡ None
failed-none None n = refl
failed-none (Some f) n = absurd (some-none n)

-- a credit without a cause
pub record IsGoodCredit (past : List Event) (session : ℕ) (share : Share) : Type 0 where
  pub rules : Rules
  pub are_rules : rules_of past ≡ Some rules
  pub good : IsGood rules past session share

-- a credit's share, by the past
abbrev pub judged_share : List Event → ℕ → ℕ → ℕ → ℕ → ℕ → List ℕ → Share
judged_share past channel job nonce ntime version extranonce = record {
  is_standard = is_standard_in (channel_in (channels_of past) channel);
  channel = channel;
  job = job;
  nonce = nonce;
  ntime = ntime;
  version = version;
  extranonce = extranonce;
}

pub good_credit : (past : List Event) (session channel job nonce ntime version : ℕ) (extranonce : List ℕ)
    → cause_of past (event.Credit session channel job nonce ntime version extranonce) ≡ None
    → IsGoodCredit past session (judged_share past channel job nonce ntime version extranonce)
good_credit past session channel job nonce ntime version extranonce n =
    let e : Event = event.Credit session channel job nonce ntime version extranonce in
    let share : Share = judged_share past channel job nonce ntime version extranonce in
    let u : IsUncaused past e = uncaused past e refl n in
    let none : first_failed u.rules past session share ≡ None =
    failed-none (first_failed u.rules past session share) (within-next may_mine past session (failed_as (first_failed u.rules past session share)) u.none) in
    record { rules = u.rules; are_rules = u.are_rules; good = good_by u.rules past session share (admission u.rules past session share) refl none }

-- what it adds
pub record Adds (past : List Event) (session : ℕ) (share : Share) (e : Event) (g : IsGoodCredit past session share) : Type 0 where
  pub is_booked : booked_with past share.channel share.job ≡ Some g.good.with
  pub header : headers (e ∷ past) ≡ rebuilt_header g.rules.pool_script g.good.with share ∷ headers past
  pub counts : bookings_of (e ∷ past) ≡ booking g.rules.pool_script share g.good.with ∷ bookings_of past

pub credit-adds : (past : List Event) (session channel job nonce ntime version : ℕ) (extranonce : List ℕ)
    → (g : IsGoodCredit past session (judged_share past channel job nonce ntime version extranonce))
    → Adds past session (judged_share past channel job nonce ntime version extranonce) (event.Credit session channel job nonce ntime version extranonce) g
credit-adds past session channel job nonce ntime version extranonce g =
    let share : Share = judged_share past channel job nonce ntime version extranonce in
    let with : Admitted = g.good.with in
    let is : booked_with past channel job ≡ Some with = admission-booked g.rules past session share with g.good.is_admitted in
    let there : channel_in (channels_of past) channel ≡ Some with.channel = booked-channel past channel job with is in
    let same : credit_share with channel job nonce ntime version extranonce ≡ share =
    ap (λ b. record share { is_standard = b }) (sym (ap is_standard_in there)) in
    let script : script_of past ≡ g.rules.pool_script = ap script_in g.are_rules in
    record {
      is_booked = is;
      header =
          ap (λ r. found_list (λ w. rebuilt_header (script_of past) w (credit_share w channel job nonce ntime version extranonce)) r ++ headers past) is
          ∙ ap (λ s. rebuilt_header s with (credit_share with channel job nonce ntime version extranonce) ∷ headers past) script
          ∙ ap (λ s. rebuilt_header g.rules.pool_script with s ∷ headers past) same;
      counts =
          ap (λ r. found_list (λ w. booking (script_of past) (credit_share w channel job nonce ntime version extranonce) w) r ++ bookings_of past) is
          ∙ ap (λ s. booking s (credit_share with channel job nonce ntime version extranonce) with ∷ bookings_of past) script
          ∙ ap (λ s. booking g.rules.pool_script s with ∷ bookings_of past) same;
    }

pub credits-booked : CreditsAreBooked
credits-booked h session channel job nonce ntime version extranonce l =
    let past : List Event = past_of h in
    let e : Event = event.Credit session channel job nonce ntime version extranonce in
    let g : IsGoodCredit past session (judged_share past channel job nonce ntime version extranonce) =
    good_credit past session channel job nonce ntime version extranonce ((one_more_legal h e).0 l).1 in
    let a : Adds past session (judged_share past channel job nonce ntime version extranonce) e g =
    credit-adds past session channel job nonce ntime version extranonce g in
    record {
      rules = g.rules;
      with = g.good.with;
      are_rules = g.are_rules;
      is_admitted = g.good.is_admitted;
      is_booked = a.is_booked;
      meets_its_class = g.good.meets_class;
      header = ap headers (past-one h e) ∙ a.header;
      counts = ap bookings_of (past-one h e) ∙ a.counts;
    }

-- all credits of a legal past
pub record Counted (past : List Event) : Type 0 where
  pub of_headers : length (headers past) ≡ credits past
  pub of_credits : length (bookings_of past) ≡ credits past
  pub distinct : are_distinct (headers past) ≡ true

pub credits-counted : (past : List Event) → LegalPast past → Counted past
credits-counted [] l = record { of_headers = refl; of_credits = refl; distinct = refl }
credits-counted (event.Credit session channel job nonce ntime version extranonce ∷ older) l =
    let g : IsGoodCredit older session (judged_share older channel job nonce ntime version extranonce) =
    good_credit older session channel job nonce ntime version extranonce l.1 in
    let a : Adds older session (judged_share older channel job nonce ntime version extranonce) (event.Credit session channel job nonce ntime version extranonce) g =
    credit-adds older session channel job nonce ntime version extranonce g in
    let c : Counted older = credits-counted older l.0 in
    let header : List ℕ = rebuilt_header g.rules.pool_script g.good.with (judged_share older channel job nonce ntime version extranonce) in
    record {
      of_headers = ap length a.header ∙ one (headers older) header c.of_headers;
      of_credits = ap length a.counts ∙ one (bookings_of older) (booking g.rules.pool_script (judged_share older channel job nonce ntime version extranonce) g.good.with) c.of_credits;
      distinct =
          ap are_distinct a.header
          ∙ and_from (not (list_any (bytes_eq header) (headers older))) (are_distinct (headers older)) (not_from_false (list_any (bytes_eq header) (headers older)) g.good.header_new) c.distinct;
    } where
      one : {X : Type 0} (xs : List X) (x : X) {n : ℕ} → length xs ≡ n → length (x ∷ xs) ≡ n + 1
      one xs x is = omega (arith, is)
credits-counted (e ∷ older) l =
    let c : Counted older = credits-counted older l.0 in
    record { of_headers = c.of_headers; of_credits = c.of_credits; distinct = c.distinct }

pub no_share-twice : NoShareTwice
no_share-twice h l =
    let c : Counted (past_of h) = credits-counted (past_of h) l in
    record { headers_counted = c.of_headers; credits_counted = c.of_credits; distinct = c.distinct }

-- what later events add to the headers and credits
pub record Added (later past : List Event) : Type 0 where
  pub more_headers : List (List ℕ)
  pub headers_are : headers (later ++ past) ≡ more_headers ++ headers past
  pub more : List Booked
  pub credits_are : bookings_of (later ++ past) ≡ more ++ bookings_of past

pub added-later : (later past : List Event) → Added later past
added-later [] past = record { more_headers = []; headers_are = refl; more = []; credits_are = refl }
added-later (event.Credit session channel job nonce ntime version extranonce ∷ later) past =
    let a : Added later past = added-later later past in
    let older : List Event = later ++ past in
    let hs : List (List ℕ) =
    found_list (λ w. rebuilt_header (script_of older) w (credit_share w channel job nonce ntime version extranonce)) (booked_with older channel job) in
    let bs : List Booked =
    found_list (λ w. booking (script_of older) (credit_share w channel job nonce ntime version extranonce) w) (booked_with older channel job) in
    record {
      more_headers = hs ++ a.more_headers;
      headers_are = ap (λ l. hs ++ l) a.headers_are ∙ sym (append_assoc hs a.more_headers (headers past));
      more = bs ++ a.more;
      credits_are = ap (λ l. bs ++ l) a.credits_are ∙ sym (append_assoc bs a.more (bookings_of past));
    }
added-later (e ∷ later) past =
    let a : Added later past = added-later later past in
    record { more_headers = a.more_headers; headers_are = a.headers_are; more = a.more; credits_are = a.credits_are }

pub credits-stay : CreditsStay
credits-stay h more =
    let a : Added (past_of more) (past_of h) = added-later (past_of more) (past_of h) in
    record {
      newer_headers = a.more_headers;
      headers_are = ap headers (past-append h more) ∙ a.headers_are;
      newer = a.more;
      credits_are = ap bookings_of (past-append h more) ∙ a.credits_are;
    }
