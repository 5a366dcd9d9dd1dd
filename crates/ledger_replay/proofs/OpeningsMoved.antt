-- What openings do to the tables.
use Rattle.std.proofs.Common.{◌≡◌, ℕ, ◌+◌, ◌&&◌, Bool, true, false, not, Option, None, Some, Result, Ok, Err, List, [], ◌∷◌, length, map, refl, ap, subst, sym, ◌∙◌, ◌⊎◌, ⊎_elim}
use Rattle.std.proofs.lemmas.Bool.{eqb-true, false≢true}
use Rattle.std.proofs.lemmas.Slice.Eq.{bytes_eq-Decides}
use Rattle.std.specs.Str.{bytes_eq}
use Rattle.channels.specs.Tables.{ChannelTable, IsTold, ShowsSameChannels}
use Rattle.pool_tables.specs.GrantTables.{OtherEventsLeaveGrants}
use Rattle.history_laws.proofs.Stepping.{opened-opens}
use Rattle.pool_history.specs.declared.causes.Cause.{Cause}
use Rattle.pool_history.specs.declared.causes.Cause.TheVariants as cause
use Rattle.pool_history.specs.declared.events.Event.{Event}
use Rattle.pool_history.specs.declared.events.Event.TheVariants as event
use Rattle.pool_history.specs.declared.events.Kind.{Kind}
use Rattle.pool_history.specs.declared.events.Kind.TheVariants as kinds
use Rattle.pool_history.specs.declared.refusals.OpenError.{OpenError}
use Rattle.pool_history.specs.declared.refusals.OpenError.TheVariants as open_error
use Rattle.pool_history.specs.Channels.{Opens, channel_moves, channels_of}
use Rattle.pool_history.specs.Conditions.{first_false, or_code}
use Rattle.pool_history.specs.Legal.{cause_of, is_class, is_just, is_lead_length, is_next_lead, is_opening_account, may_mine, within}
use Rattle.pool_history.specs.Refusing.{count_among, has_too_many, has_too_many_among, held_leads, lead_unless}
use Rattle.pool_history.specs.Spaces.{lowest}
use Rattle.pool_tables.specs.Tables.{OtherEventsLeaveSessions}
use Rattle.channels.proofs.Cuts.{full-same, leads-same}
use Rattle.history_laws.specs.AskedPlaces.{is_asked_after}
use Rattle.ledger_replay.specs.Openings.{is_full_for, is_said_lead, next_lead_on}
use Rattle.ledger_replay.specs.declared.error.ReplayError.{ReplayError}
use Rattle.ledger_replay.specs.Replays.{HasCause, IsJudged, ReplayTables, WereReplayed, opening_error_of}
use Rattle.ledger_replay.proofs.Caused.{by_own, fewer-told, one-longer}
use Rattle.ledger_replay.proofs.ChannelsMoved.{channels-same}

-- what was checked of an opening
pub record IsChecked (t : ReplayTables) (past : List Event) (session : ℕ) (kind : Kind) (account : List ℕ) (class : ℕ) : Type 0 where
  pub was : WereReplayed t past
  pub may : None ≡ within may_mine past session None
  pub account_said : is_opening_account t.rules kind account ≡ true
  pub in_range : is_class t.rules class ≡ true

-- the conditions that are left
abbrev pub leads_cause : Bool → Bool → Option Cause
leads_cause full next = or_code (not full) cause.TooManyChannels (or_code next cause.BadLead None)

pub opening-caused : (t : ReplayTables) (past : List Event) (session : ℕ) (kind : Kind) (account : List ℕ) (class : ℕ) (lead : List ℕ)
    → IsChecked t past session kind account class
    → cause_of past (event.Open session kind account class lead) ≡ leads_cause (has_too_many past session) (is_next_lead past kind lead)
opening-caused t past session kind account class lead c =
    by_own t past (event.Open session kind account class lead) may_mine session _ c.was refl c.may
    ∙ ap (λ b. or_code b cause.UnknownUser (or_code (is_class t.rules class) cause.BadClass (leads_cause (has_too_many past session) (is_next_lead past kind lead)))) c.account_said
    ∙ ap (λ b. or_code b cause.BadClass (leads_cause (has_too_many past session) (is_next_lead past kind lead))) c.in_range

full-told : (t : ReplayTables) (past : List Event) (session : ℕ) → WereReplayed t past → is_full_for t.channels session ≡ has_too_many past session
full-told t past session was =
    full-same (is_asked_after past) t.channels.open_channels (channels_of past) t.channels.opened session was.channels_are.channels_are
    ∙ ap (λ n. has_too_many_among (channels_of past) n session) (was.channels_are.opened_are ∙ opened-opens past)

leads-told : (t : ReplayTables) (past : List Event) (len : ℕ) → WereReplayed t past → lowest len (map (λ channel. channel.lead) t.channels.open_channels) ≡ lowest len (held_leads past)
leads-told t past len was =
    ap (lowest len) (leads-same (is_asked_after past) t.channels.open_channels (channels_of past) was.channels_are.channels_are)

-- the next lead by whether a session is full, and by the lowest free lead
abbrev pub lead_by : OpenError → Bool → Option (List ℕ) → Result (List ℕ) OpenError
lead_by code full lead = lead_unless (first_false ((not full, code) ∷ []) None) lead

-- one was found
pub record WasFound (table : ChannelTable) (session len : ℕ) (lead : List ℕ) : Type 0 where
  pub not_full : is_full_for table session ≡ false
  pub lowest_is : lowest len (map (λ channel. channel.lead) table.open_channels) ≡ Some lead

lead-found : (table : ChannelTable) (session len : ℕ) (lead : List ℕ) → next_lead_on table session len ≡ Ok lead → WasFound table session len lead
lead-found table session len lead is = by_tests (is_full_for table session) (lowest len (map (λ channel. channel.lead) table.open_channels)) refl refl is where
  code : OpenError
  code = open_error.TooManyChannels (count_among table.open_channels session) table.opened

  by_tests : (full : Bool) (free : Option (List ℕ)) → is_full_for table session ≡ full → lowest len (map (λ channel. channel.lead) table.open_channels) ≡ free
      → lead_by code full free ≡ Ok lead → WasFound table session len lead
  by_tests true free full free_is same = cc
  by_tests false None full free_is same = cc
  by_tests false (Some l) full free_is same = record { not_full = full; lowest_is = free_is ∙ cc }

-- the lead is the next one where it is said so
next-said : (past : List Event) (kind : Kind) (said : List ℕ) (len : ℕ) (free : Option (List ℕ)) → lowest len (held_leads past) ≡ free
    → (is_lead_length kind (length said) ≡ true → len ≡ length said) → is_next_lead past kind said ≡ (is_lead_length kind (length said) && is_just said free)
next-said past kind said len free is same = by_test (is_lead_length kind (length said)) refl where
  by_test : (t : Bool) → is_lead_length kind (length said) ≡ t
      → (t && is_just said (lowest (length said) (held_leads past))) ≡ (t && is_just said free)
  by_test true fits = ap (λ n. is_just said (lowest n (held_leads past))) (sym (same fits)) ∙ ap (is_just said) is
  by_test false fits = refl

-- an opening that is refused
pub open-refused : (t : ReplayTables) (new : ChannelTable) (past : List Event) (session : ℕ) (kind : Kind) (account : List ℕ) (class : ℕ) (said : List ℕ) (len : ℕ) (refusal : OpenError) (made : ReplayError)
    → IsChecked t past session kind account class → (is_lead_length kind (length said) ≡ true → len ≡ length said)
    → (refusal ≡ open_error.Memory) ⊎ (next_lead_on t.channels session len ≡ Err refusal) → ShowsSameChannels t.channels new
    → made ≡ opening_error_of refusal → IsJudged past (event.Open session kind account class said) (Err made) (record t { channels = new })
open-refused t new past session kind account class said len refusal made c length_is why same made_is =
    subst (λ e. IsJudged past one (Err e) (record t { channels = new })) (sym made_is) (⊎_elim wants_memory (λ is. by_tests (is_full_for t.channels session) (lowest len (map (λ channel. channel.lead) t.channels.open_channels)) refl refl is) why) where
      one : Event
      one = event.Open session kind account class said

      code : OpenError
      code = open_error.TooManyChannels (count_among t.channels.open_channels session) t.channels.opened

      stays : WereReplayed (record t { channels = new }) past
      stays = channels-same t new past c.was same

      wants_memory : refusal ≡ open_error.Memory → IsJudged past one (Err (opening_error_of refusal)) (record t { channels = new })
      wants_memory is = subst (λ e. IsJudged past one (Err (opening_error_of e)) (record t { channels = new })) (sym is) stays

      full : is_full_for t.channels session ≡ true → HasCause past one cause.TooManyChannels
      full is =
          opening-caused t past session kind account class said c
          ∙ ap (λ b. leads_cause b (is_next_lead past kind said)) (sym (full-told t past session c.was) ∙ is)

      no_lead : is_full_for t.channels session ≡ false → lowest len (map (λ channel. channel.lead) t.channels.open_channels) ≡ None → HasCause past one cause.BadLead
      no_lead is none =
          opening-caused t past session kind account class said c
          ∙ ap (λ b. leads_cause b (is_next_lead past kind said)) (sym (full-told t past session c.was) ∙ is)
          ∙ ap (leads_cause false) (next-said past kind said len None (sym (leads-told t past len c.was) ∙ none) length_is ∙ never (is_lead_length kind (length said))) where
            never : (b : Bool) → (b && false) ≡ false
            never true = refl
            never false = refl

      by_tests : (f : Bool) (free : Option (List ℕ)) → is_full_for t.channels session ≡ f → lowest len (map (λ channel. channel.lead) t.channels.open_channels) ≡ free
          → lead_by code f free ≡ Err refusal → IsJudged past one (Err (opening_error_of refusal)) (record t { channels = new })
      by_tests true free f_is free_is is =
          let known : code ≡ refusal = cc in
          subst (λ e. IsJudged past one (Err (opening_error_of e)) (record t { channels = new })) known (full f_is, stays)
      by_tests false None f_is free_is is =
          let known : open_error.NoSpace ≡ refusal = cc in
          subst (λ e. IsJudged past one (Err (opening_error_of e)) (record t { channels = new })) known (no_lead f_is free_is, stays)
      by_tests false (Some l) f_is free_is is = cc

-- the cause where a lead was found
lead-caused : (t : ReplayTables) (past : List Event) (session : ℕ) (kind : Kind) (account : List ℕ) (class : ℕ) (said : List ℕ) (len : ℕ) (lead : List ℕ)
    → IsChecked t past session kind account class → (is_lead_length kind (length said) ≡ true → len ≡ length said)
    → next_lead_on t.channels session len ≡ Ok lead
    → cause_of past (event.Open session kind account class said) ≡ or_code (is_said_lead kind said lead) cause.BadLead None
lead-caused t past session kind account class said len lead c length_is is =
    let was_found : WasFound t.channels session len lead = lead-found t.channels session len lead is in
    opening-caused t past session kind account class said c
    ∙ ap (λ b. leads_cause b (is_next_lead past kind said)) (sym (full-told t past session c.was) ∙ was_found.not_full)
    ∙ ap (leads_cause false) (next-said past kind said len (Some lead) (sym (leads-told t past len c.was) ∙ was_found.lowest_is) length_is)

-- an opening with another lead
pub open-bad : (t : ReplayTables) (new : ChannelTable) (past : List Event) (session : ℕ) (kind : Kind) (account : List ℕ) (class : ℕ) (said : List ℕ) (len : ℕ) (lead : List ℕ)
    → IsChecked t past session kind account class → (is_lead_length kind (length said) ≡ true → len ≡ length said)
    → next_lead_on t.channels session len ≡ Ok lead → is_said_lead kind said lead ≡ false → ShowsSameChannels t.channels new
    → HasCause past (event.Open session kind account class said) cause.BadLead × WereReplayed (record t { channels = new }) past
open-bad t new past session kind account class said len lead c length_is is other same = (
  lead-caused t past session kind account class said len lead c length_is is ∙ ap (λ b. or_code b cause.BadLead None) other,
  channels-same t new past c.was same,
)

-- a lead that is said
both : (a b : Bool) → (a && b) ≡ true → (a ≡ true) × (b ≡ true)
both true b is = (refl, is)
both false b is = absurd (false≢true is)

said-lead : (kind : Kind) (said lead : List ℕ) → is_said_lead kind said lead ≡ true → lead ≡ said
said-lead kind said lead is = sym ((bytes_eq-Decides said lead).0 (both (is_lead_length kind (length said)) (bytes_eq said lead) is).1)

pub said-whole : (kind : Kind) (said lead : List ℕ) → is_said_lead kind said lead ≡ true → kind ≡ kinds.Standard → length lead ≡ 4
said-whole kind said lead is standard =
    ap length (said-lead kind said lead is)
    ∙ eqb-true (length said) 4 (subst (λ k. is_lead_length k (length said) ≡ true) standard (both (is_lead_length kind (length said)) (bytes_eq said lead) is).0)

-- an opening that is taken
pub open-taken : (t : ReplayTables) (same new : ChannelTable) (past : List Event) (session : ℕ) (kind : Kind) (account : List ℕ) (class : ℕ) (said : List ℕ) (len : ℕ) (lead : List ℕ) (given : ℕ)
    → OtherEventsLeaveSessions → OtherEventsLeaveGrants → IsChecked t past session kind account class
    → (is_lead_length kind (length said) ≡ true → len ≡ length said) → next_lead_on t.channels session len ≡ Ok lead → is_said_lead kind said lead ≡ true
    → given ≡ class → ShowsSameChannels t.channels same
    → ((asked : ℕ → Bool) → IsTold asked same (channel_moves past) → IsTold asked new (Opens t.events session kind account given lead ∷ channel_moves past))
    → WereReplayed (record t { channels = new; events = t.events + 1 }) (event.Open session kind account class said ∷ past)
open-taken t same new past session kind account class said len lead given other_sessions other_grants c length_is is said_is class_is stays told = record {
  legal = (
    c.was.legal,
    lead-caused t past session kind account class said len lead c length_is is ∙ ap (λ b. or_code b cause.BadLead None) said_is,
  );
  rules_are = c.was.rules_are;
  events_are = one-longer t.events one past c.was.events_are;
  sessions_are = other_sessions t.sessions past one refl c.was.sessions_are;
  channels_are = subst (λ at. IsTold (is_asked_after (one ∷ past)) new (Opens at session kind account class said ∷ channel_moves past)) c.was.events_are
      (subst (λ l. IsTold (is_asked_after (one ∷ past)) new (Opens t.events session kind account class l ∷ channel_moves past)) (said-lead kind said lead said_is)
      (subst (λ n. IsTold (is_asked_after (one ∷ past)) new (Opens t.events session kind account n lead ∷ channel_moves past)) class_is
      (told (is_asked_after (one ∷ past))
      (fewer-told (record t { channels = same }) past one (channels-same t same past c.was stays)))));
  jobs_are = c.was.jobs_are;
  coinbases = c.was.coinbases;
  grants_are = other_grants t.grants past one refl c.was.grants_are;
  booked = c.was.booked;
} where
  one : Event
  one = event.Open session kind account class said
