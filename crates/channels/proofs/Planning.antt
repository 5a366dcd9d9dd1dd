-- What planning calls answer, and what is done with it.
use Rattle.std.proofs.Common.{◌≡◌, inl, inr, ℕ, Bool, true, false, cond, ◌&&◌, ◌||◌, not, Option, None, Some, is_some, List, Result, Ok, Err, refl, ap, sym, ◌∙◌}
use Rattle.std.proofs.Math.Dec.{eqb}
use Rattle.std.specs.List.{IsDistinct}
use Rattle.std.specs.Map.{keys_of, lookup}
use Rattle.std.specs.Option.{option_map}
use Rattle.std.specs.Str.{bytes_eq}
use Rattle.history_laws.proofs.Entrances.{some-same}
use Rattle.history_laws.proofs.Judged.{ok-same}
use Rattle.history_laws.proofs.Legalities.{some-none}
use Rattle.pool_history.specs.declared.refusals.NameError.{NameError}
use Rattle.pool_history.specs.declared.refusals.NameError.TheVariants as name
use Rattle.pool_history.specs.declared.settings.Rules.{Rules}
use Rattle.pool_history.specs.Accounts.{is_empty, is_known}
use Rattle.pool_history.specs.Channels.{ChannelMove, OpenChannel, channel_in, channels_in, channels_told}
use Rattle.pool_history.specs.Conditions.{or_code, unless_refusal}
use Rattle.pool_history.specs.Refusing.{nameable}
use Rattle.channels.specs.declared.channel.Channel.{Channel}
use Rattle.channels.specs.Tables.{ChannelTable, IsTold, ShowsSameChannels, lead_if_own, shown_channel}
use Rattle.channels.proofs.Closings.{IsOwn, own-lead, own-none, own-shown, own_in}
use Rattle.channels.proofs.Cuts.{all-as}
use Rattle.channels.proofs.Lookups.{channel_in-shown, shown_all}
use Rattle.channels.specs.declared.plan.ChannelPlan.{ChannelPlan}
use Rattle.channels.specs.Plans.{IsDoneUnless, IsUnless, naming_refusal, completion_of, plan_for}

ok-err : {X E : Type 0} {x : X} {e : E} → ◌≡◌ {A = Result X E} (Ok x) (Err e) → ⊥
ok-err h = cc

-- an answer by what was found
pub refused : {X E : Type 0} (memory e : E) (p : ChannelPlan) (f : Result X E) → f ≡ Err e → IsUnless memory (Err e) (plan_for p f)
refused memory e p f is = inr (sym (ap (plan_for p) is))

pub planned : {X E : Type 0} (memory : E) (x : X) (p : ChannelPlan) (f : Result X E) → f ≡ Ok x → IsUnless memory (Ok p) (plan_for p f)
planned memory x p f is = inr (sym (ap (plan_for p) is))

-- a plan is that which was asked for
pub asked : {X E : Type 0} (memory : E) (made p : ChannelPlan) (f : Result X E) → IsUnless memory (Ok made) (plan_for p f) → made ≡ p
asked memory made p f (inl is) = absurd (ok-err is)
asked memory made p (Ok x) (inr is) = ok-same is
asked memory made p (Err e) (inr is) = absurd (ok-err is)

-- it is done, or refused for the same reason
pub done : {X E : Type 0} (memory : E) (made p : ChannelPlan) (f : Result X E) → IsUnless memory (Ok made) (plan_for p f) → IsDoneUnless memory (Ok tt) f
done memory made p f (inl is) = absurd (ok-err is)
done memory made p (Ok x) (inr is) = inr refl
done memory made p (Err e) (inr is) = absurd (ok-err is)

pub undone : {X E : Type 0} (memory e : E) (p : ChannelPlan) (f : Result X E) → IsUnless memory (Err e) (plan_for p f) → IsDoneUnless memory (Err e) f
undone memory e p f (inl is) = inl (ap completion_of is)
undone memory e p (Ok x) (inr is) = absurd (ok-err (sym is))
undone memory e p (Err d) (inr is) = inr (ap completion_of is)

-- the open channel of a session, by what is kept
pub none-own : (session id : ℕ) (entries : List (ℕ × Channel)) → IsDistinct eqb (keys_of entries)
    → lead_if_own session (lookup (eqb id) entries) ≡ None → channel_in (channels_in (shown_all entries) session) id ≡ None
none-own session id entries apart none =
    own-shown session id entries apart ∙ own-none session id (lookup (eqb id) entries) none

pub some-own : (session id : ℕ) (entries : List (ℕ × Channel)) (lead : List ℕ) → IsDistinct eqb (keys_of entries)
    → lead_if_own session (lookup (eqb id) entries) ≡ Some lead
    → (channel : OpenChannel) × (channel_in (channels_in (shown_all entries) session) id ≡ Some channel)
some-own session id entries lead apart some =
    let own : IsOwn session id (lookup (eqb id) entries) lead = own-lead session id (lookup (eqb id) entries) lead some in
    (shown_channel id own.channel, own-shown session id entries apart ∙ own.own)

-- so it is open
pub own-open : (session id : ℕ) (entries : List (ℕ × Channel)) (lead : List ℕ) → lead_if_own session (lookup (eqb id) entries) ≡ Some lead
    → is_some (channel_in (shown_all entries) id) ≡ true
own-open session id entries lead some =
    let own : IsOwn session id (lookup (eqb id) entries) lead = own-lead session id (lookup (eqb id) entries) lead some in
    ap is_some (channel_in-shown entries id ∙ ap (option_map (shown_channel id)) own.is)

-- why a channel isn't named, by what is kept
de-morgan : (a b : Bool) → not (not a && not b) ≡ (a || b)
de-morgan true b = refl
de-morgan false true = refl
de-morgan false false = refl

naming : (rules : Rules) (account : List ℕ) (session id : ℕ) (c : Channel)
    → nameable rules account (own_in session id (Some c)) ≡ unless_refusal (naming_refusal rules account session (Some c)) (shown_channel id c)
naming rules account session id c = by_session (eqb c.session session) where
  last : Bool → Option NameError
  last b = or_code (is_known rules account) name.UnknownUser (or_code b name.OtherAccount None)

  by_session : (t : Bool) → nameable rules account (cond t (Some (shown_channel id c)) None)
      ≡ unless_refusal (or_code t name.NotOpen (last (is_empty c.account || bytes_eq c.account account))) (shown_channel id c)
  by_session true =
      ap (λ b. unless_refusal (last b) (shown_channel id c)) (de-morgan (is_empty c.account) (bytes_eq c.account account))
  by_session false = refl

pub name-refused : (rules : Rules) (account : List ℕ) (session id : ℕ) (entries : List (ℕ × Channel)) (e : NameError) → IsDistinct eqb (keys_of entries)
    → naming_refusal rules account session (lookup (eqb id) entries) ≡ Some e
    → nameable rules account (channel_in (channels_in (shown_all entries) session) id) ≡ Err e
name-refused rules account session id entries e apart is =
    ap (nameable rules account) (own-shown session id entries apart) ∙ by_option (lookup (eqb id) entries) is where
      by_option : (o : Option Channel) → naming_refusal rules account session o ≡ Some e → nameable rules account (own_in session id o) ≡ Err e
      by_option None is = ap Err (some-same is)
      by_option (Some c) is = naming rules account session id c ∙ ap (λ o. unless_refusal o (shown_channel id c)) is

pub name-found : (rules : Rules) (account : List ℕ) (session id : ℕ) (entries : List (ℕ × Channel)) → IsDistinct eqb (keys_of entries)
    → naming_refusal rules account session (lookup (eqb id) entries) ≡ None
    → (channel : OpenChannel) × (nameable rules account (channel_in (channels_in (shown_all entries) session) id) ≡ Ok channel)
name-found rules account session id entries apart is = by_option (lookup (eqb id) entries) refl is where
  by_option : (o : Option Channel) → lookup (eqb id) entries ≡ o → naming_refusal rules account session o ≡ None
      → (channel : OpenChannel) × (nameable rules account (channel_in (channels_in (shown_all entries) session) id) ≡ Ok channel)
  by_option None found is = absurd (some-none is)
  by_option (Some c) found is = (
    shown_channel id c,
    ap (nameable rules account) (own-shown session id entries apart)
        ∙ ap (λ o. nameable rules account (own_in session id o)) found
        ∙ naming rules account session id c ∙ ap (λ o. unless_refusal o (shown_channel id c)) is,
  )

-- what was told stays so where nothing changed but room
pub told-same : (is_asked : ℕ → Bool) (old new : ChannelTable) (moves : List ChannelMove) → ShowsSameChannels old new → IsTold is_asked old moves → IsTold is_asked new moves
told-same is_asked old new moves same told = record {
  opened_are = same.opened_stays ∙ told.opened_are;
  channels_are = all-as is_asked new.open_channels old.open_channels (channels_told moves) same.channels_stay told.channels_are;
}
