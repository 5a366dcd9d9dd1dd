-- A channel that is closed leaves the tables.
use Rattle.std.proofs.Common.{◌≡◌, ℕ, ◌≤◌, Bool, true, false, cond, ◌||◌, not, Option, None, Some, List, [], ◌∷◌, map, refl, ap, subst, sym, ◌∙◌}
use Rattle.std.proofs.Math.Dec.{eqb}
use Rattle.std.proofs.lemmas.Bool.{eqb-true, or_from}
use Rattle.std.proofs.lemmas.List.Sorted.{list_any-IsPermutation}
use Rattle.std.proofs.lemmas.Slice.Eq.{bytes_eq-Decides}
use Rattle.std.specs.Prelude.{IsPermutation, filter}
use Rattle.std.specs.List.{AllByRecursion, IsDistinct}
use Rattle.std.specs.Map.{keys_of, lookup, remove_entry}
use Rattle.std.specs.Option.{option_map}
use Rattle.std.specs.Str.{bytes_eq}
use Rattle.history_laws.specs.Openings.{AreLeadsApart}
use Rattle.pool_history.specs.Channels.{OpenChannel, channel_in, channels_in}
use Rattle.pool_history.specs.Spaces.{overlap}
use Rattle.prefix_space.specs.HeldLeads.{is_held}
use Rattle.history_laws.proofs.Entrances.{none-some, some-same}
use Rattle.history_laws.proofs.Legalities.{some-none}
use Rattle.history_laws.proofs.Holding.{bytes_eq-self, overlap-comm}
use Rattle.prefix_space.proofs.Orders.{apart-differ, none-same}
use Rattle.channels.specs.declared.channel.Channel.{Channel}
use Rattle.channels.specs.Tables.{AreKept, HasItsClass, HoldsLeads, channel_if_own, kept_channel, kept_of, lead_if_own, shown_channel}
use Rattle.channels.proofs.Lookups.{eqb-flip, kept-shown, shown_all}

-- the leads of the channels that are kept
abbrev pub leads_of : List (ℕ × Channel) → List (List ℕ)
leads_of entries = map (λ e. e.1.lead) entries

pub all-without : (P : ℕ × Channel → Type 0) (id : ℕ) (entries : List (ℕ × Channel)) → AllByRecursion P entries → AllByRecursion P (remove_entry (eqb id) entries)
all-without P id [] all = tt
all-without P id (e ∷ entries) all = by_test (eqb id e.0) (all-without P id entries all.1) where
  by_test : (t : Bool) → AllByRecursion P (remove_entry (eqb id) entries) → AllByRecursion P (cond t entries (e ∷ remove_entry (eqb id) entries))
  by_test true rest = all.1
  by_test false rest = (all.0, rest)

-- where ids are distinct, the others stay
pub others-stay : (id : ℕ) (entries : List (ℕ × Channel)) → AllByRecursion (λ k. eqb id k ≡ false) (keys_of entries)
    → filter (λ c. not (eqb c.id id)) (shown_all entries) ≡ shown_all entries
others-stay id [] all = refl
others-stay id (e ∷ entries) all =
    ap (λ t. cond (not t) (shown_channel e.0 e.1 ∷ filter (λ c. not (eqb c.id id)) (shown_all entries))
    (filter (λ c. not (eqb c.id id)) (shown_all entries))) (eqb-flip e.0 id ∙ all.0)
    ∙ ap (λ l. shown_channel e.0 e.1 ∷ l) (others-stay id entries all.1)

pub remove-shown : (id : ℕ) (entries : List (ℕ × Channel)) → IsDistinct eqb (keys_of entries)
    → shown_all (remove_entry (eqb id) entries) ≡ filter (λ c. not (eqb c.id id)) (shown_all entries)
unfolding IsDistinct
remove-shown id [] apart = refl
remove-shown id (e ∷ entries) apart =
    by_test (eqb id e.0) refl (remove-shown id entries apart.1)
    ∙ ap (λ t. cond (not t) (shown_channel e.0 e.1 ∷ filter (λ c. not (eqb c.id id)) (shown_all entries))
    (filter (λ c. not (eqb c.id id)) (shown_all entries))) (eqb-flip id e.0) where
      by_test : (t : Bool) → eqb id e.0 ≡ t → shown_all (remove_entry (eqb id) entries) ≡ filter (λ c. not (eqb c.id id)) (shown_all entries)
          → shown_all (cond t entries (e ∷ remove_entry (eqb id) entries))
          ≡ cond (not t) (shown_channel e.0 e.1 ∷ filter (λ c. not (eqb c.id id)) (shown_all entries))
          (filter (λ c. not (eqb c.id id)) (shown_all entries))
      by_test true is rest =
          sym (others-stay id entries (subst (λ n. AllByRecursion (λ k. eqb n k ≡ false) (keys_of entries)) (sym (eqb-true id e.0 is)) apart.0))
      by_test false is rest = ap (λ l. shown_channel e.0 e.1 ∷ l) rest

-- the leads are those of the others, and that of the closed channel
pub lead-removed : (id : ℕ) (c : Channel) (entries : List (ℕ × Channel)) (lead : List ℕ) → lookup (eqb id) entries ≡ Some c
    → is_held (leads_of entries) lead ≡ (bytes_eq c.lead lead || is_held (leads_of (remove_entry (eqb id) entries)) lead)
lead-removed id c [] lead found = absurd (none-some found)
lead-removed id c (e ∷ entries) lead found = by_test (eqb id e.0) found (λ f. lead-removed id c entries lead f) where
  swapped : (x y z : Bool) → x || (y || z) ≡ y || (x || z)
  swapped true true z = refl
  swapped true false z = refl
  swapped false y z = refl

  by_test : (t : Bool) → cond t (Some e.1) (lookup (eqb id) entries) ≡ Some c
      → (lookup (eqb id) entries ≡ Some c → is_held (leads_of entries) lead ≡ (bytes_eq c.lead lead || is_held (leads_of (remove_entry (eqb id) entries)) lead))
      → (bytes_eq e.1.lead lead || is_held (leads_of entries) lead)
      ≡ (bytes_eq c.lead lead || is_held (leads_of (cond t entries (e ∷ remove_entry (eqb id) entries))) lead)
  by_test true f rest = ap (λ k. bytes_eq k.lead lead || is_held (leads_of entries) lead) (some-same f)
  by_test false f rest =
      ap (λ b. bytes_eq e.1.lead lead || b) (rest f)
      ∙ swapped (bytes_eq e.1.lead lead) (bytes_eq c.lead lead) (is_held (leads_of (remove_entry (eqb id) entries)) lead)

-- so it is held
pub found-held : (id : ℕ) (c : Channel) (entries : List (ℕ × Channel)) → lookup (eqb id) entries ≡ Some c → is_held (leads_of entries) c.lead ≡ true
found-held id c entries found =
    lead-removed id c entries c.lead found ∙ ap (λ b. b || is_held (leads_of (remove_entry (eqb id) entries)) c.lead) (bytes_eq-self c.lead)

-- and no other channel has it
pub leads-without : (P : List ℕ → Type 0) (id : ℕ) (entries : List (ℕ × Channel)) → AllByRecursion P (leads_of entries)
    → AllByRecursion P (leads_of (remove_entry (eqb id) entries))
leads-without P id [] all = tt
leads-without P id (e ∷ entries) all = by_test (eqb id e.0) (leads-without P id entries all.1) where
  by_test : (t : Bool) → AllByRecursion P (leads_of (remove_entry (eqb id) entries)) → AllByRecursion P (leads_of (cond t entries (e ∷ remove_entry (eqb id) entries)))
  by_test true rest = all.1
  by_test false rest = (all.0, rest)

pub apart-without : (id : ℕ) (entries : List (ℕ × Channel)) → AreLeadsApart (leads_of entries) → AreLeadsApart (leads_of (remove_entry (eqb id) entries))
apart-without id [] apart = tt
apart-without id (e ∷ entries) apart =
    by_test (eqb id e.0) (leads-without (λ other. overlap e.1.lead other ≡ false) id entries apart.0) (apart-without id entries apart.1) where
      by_test : (t : Bool) → AllByRecursion (λ other. overlap e.1.lead other ≡ false) (leads_of (remove_entry (eqb id) entries))
          → AreLeadsApart (leads_of (remove_entry (eqb id) entries)) → AreLeadsApart (leads_of (cond t entries (e ∷ remove_entry (eqb id) entries)))
      by_test true each rest = apart.1
      by_test false each rest = (each, rest)

pub found-apart : (P : List ℕ → Type 0) (id : ℕ) (c : Channel) (entries : List (ℕ × Channel)) → AllByRecursion P (leads_of entries) → lookup (eqb id) entries ≡ Some c → P c.lead
found-apart P id c [] all found = absurd (none-some found)
found-apart P id c (e ∷ entries) all found = by_test (eqb id e.0) found (λ f. found-apart P id c entries all.1 f) where
  by_test : (t : Bool) → cond t (Some e.1) (lookup (eqb id) entries) ≡ Some c → (lookup (eqb id) entries ≡ Some c → P c.lead) → P c.lead
  by_test true f rest = subst (λ k. P k.lead) (some-same f) all.0
  by_test false f rest = rest f

pub removed-free : (id : ℕ) (c : Channel) (entries : List (ℕ × Channel)) → AreLeadsApart (leads_of entries) → lookup (eqb id) entries ≡ Some c
    → is_held (leads_of (remove_entry (eqb id) entries)) c.lead ≡ false
removed-free id c [] apart found = absurd (none-some found)
removed-free id c (e ∷ entries) apart found = by_test (eqb id e.0) found (λ f. removed-free id c entries apart.1 f) where
  by_test : (t : Bool) → cond t (Some e.1) (lookup (eqb id) entries) ≡ Some c
      → (lookup (eqb id) entries ≡ Some c → is_held (leads_of (remove_entry (eqb id) entries)) c.lead ≡ false)
      → is_held (leads_of (cond t entries (e ∷ remove_entry (eqb id) entries))) c.lead ≡ false
  by_test true f rest =
      none-same c.lead (leads_of entries) (subst (λ k. AllByRecursion (λ other. overlap k.lead other ≡ false) (leads_of entries)) (some-same f) apart.0)
  by_test false f rest =
      or_from (bytes_eq e.1.lead c.lead) (is_held (leads_of (remove_entry (eqb id) entries)) c.lead)
      (apart-differ c.lead e.1.lead (overlap-comm c.lead e.1.lead ∙ found-apart (λ other. overlap e.1.lead other ≡ false) id c entries apart.0 f)) (rest f)

-- the space that has given the lead back holds what the others have
pub given-leads : (id : ℕ) (c : Channel) (entries : List (ℕ × Channel)) (held given : List (List ℕ)) → ((lead : List ℕ) → is_held held lead ≡ is_held (leads_of entries) lead)
    → AreLeadsApart (leads_of entries) → lookup (eqb id) entries ≡ Some c → IsPermutation held (c.lead ∷ given) → is_held given c.lead ≡ false
    → (lead : List ℕ) → is_held given lead ≡ is_held (leads_of (remove_entry (eqb id) entries)) lead
given-leads id c entries held given same apart found perm gone lead = by_test (bytes_eq c.lead lead) refl where
  all : (bytes_eq c.lead lead || is_held given lead) ≡ (bytes_eq c.lead lead || is_held (leads_of (remove_entry (eqb id) entries)) lead)
  all = sym (list_any-IsPermutation (λ other. bytes_eq other lead) held (c.lead ∷ given) perm) ∙ same lead ∙ lead-removed id c entries lead found

  by_test : (t : Bool) → bytes_eq c.lead lead ≡ t → is_held given lead ≡ is_held (leads_of (remove_entry (eqb id) entries)) lead
  by_test true is =
      let here : c.lead ≡ lead = (bytes_eq-Decides c.lead lead).0 is in
      subst (λ l. is_held given l ≡ is_held (leads_of (remove_entry (eqb id) entries)) l) here (gone ∙ sym (removed-free id c entries apart found))
  by_test false is = sym (ap (λ b. b || is_held given lead) is) ∙ all ∙ ap (λ b. b || is_held (leads_of (remove_entry (eqb id) entries)) lead) is

-- the open channel of a session
abbrev pub own_in : ℕ → ℕ → Option Channel → Option OpenChannel
own_in session id None = None
own_in session id (Some c) = cond (eqb c.session session) (Some (shown_channel id c)) None

pub others-none : (session id : ℕ) (entries : List (ℕ × Channel)) → AllByRecursion (λ k. eqb id k ≡ false) (keys_of entries)
    → channel_in (channels_in (shown_all entries) session) id ≡ None
others-none session id [] all = refl
others-none session id (e ∷ entries) all = by_test (eqb e.1.session session) (others-none session id entries all.1) where
  by_test : (t : Bool) → channel_in (channels_in (shown_all entries) session) id ≡ None
      → channel_in (cond t (shown_channel e.0 e.1 ∷ channels_in (shown_all entries) session) (channels_in (shown_all entries) session)) id ≡ None
  by_test true rest =
      ap (λ b. cond b (Some (shown_channel e.0 e.1)) (channel_in (channels_in (shown_all entries) session) id)) (eqb-flip e.0 id ∙ all.0) ∙ rest
  by_test false rest = rest

pub own-shown : (session id : ℕ) (entries : List (ℕ × Channel)) → IsDistinct eqb (keys_of entries)
    → channel_in (channels_in (shown_all entries) session) id ≡ own_in session id (lookup (eqb id) entries)
unfolding IsDistinct
own-shown session id [] apart = refl
own-shown session id (e ∷ entries) apart =
    first (eqb e.1.session session) ∙ by_test (eqb id e.0) refl (own-shown session id entries apart.1) where
      rest_of : Option OpenChannel
      rest_of = channel_in (channels_in (shown_all entries) session) id

      first : (u : Bool)
          → channel_in (cond u (shown_channel e.0 e.1 ∷ channels_in (shown_all entries) session) (channels_in (shown_all entries) session)) id
          ≡ cond u (cond (eqb id e.0) (Some (shown_channel e.0 e.1)) rest_of) rest_of
      first true = ap (λ b. cond b (Some (shown_channel e.0 e.1)) rest_of) (eqb-flip e.0 id)
      first false = refl

      by_test : (t : Bool) → eqb id e.0 ≡ t → rest_of ≡ own_in session id (lookup (eqb id) entries)
          → cond (eqb e.1.session session) (cond t (Some (shown_channel e.0 e.1)) rest_of) rest_of
          ≡ own_in session id (cond t (Some e.1) (lookup (eqb id) entries))
      by_test true is rest =
          ap (λ o. cond (eqb e.1.session session) (Some (shown_channel e.0 e.1)) o)
          (others-none session id entries (subst (λ n. AllByRecursion (λ k. eqb n k ≡ false) (keys_of entries)) (sym (eqb-true id e.0 is)) apart.0))
          ∙ ap (λ n. cond (eqb e.1.session session) (Some (shown_channel n e.1)) None) (sym (eqb-true id e.0 is))
      by_test false is rest = same (eqb e.1.session session) rest_of ∙ rest where
        same : (u : Bool) (o : Option OpenChannel) → cond u o o ≡ o
        same true o = refl
        same false o = refl

-- a channel that a session has, and its lead
pub record IsOwn (session id : ℕ) (o : Option Channel) (lead : List ℕ) : Type 0 where
  pub channel : Channel
  pub is : o ≡ Some channel
  pub lead_is : channel.lead ≡ lead
  pub own : own_in session id o ≡ Some (shown_channel id channel)

-- the channel is the session's
pub own-session : {session id : ℕ} {o : Option Channel} {lead : List ℕ} (own : IsOwn session id o lead) → eqb own.channel.session session ≡ true
own-session {session} {id} {o} {lead} own =
    by_test (eqb own.channel.session session) (sym (ap (own_in session id) own.is) ∙ own.own) where
      by_test : (t : Bool) → cond t (Some (shown_channel id own.channel)) None ≡ Some (shown_channel id own.channel) → t ≡ true
      by_test true is = refl
      by_test false is = absurd (none-some is)

pub own-lead : (session id : ℕ) (o : Option Channel) (lead : List ℕ) → lead_if_own session o ≡ Some lead → IsOwn session id o lead
own-lead session id None lead is = absurd (none-some is)
own-lead session id (Some c) lead is = by_test (eqb c.session session) refl is where
  by_test : (t : Bool) → eqb c.session session ≡ t → option_map (λ k. k.lead) (cond t (Some c) None) ≡ Some lead → IsOwn session id (Some c) lead
  by_test true mine found = record {
    channel = c;
    is = refl;
    lead_is = some-same found;
    own = ap (λ b. cond b (Some (shown_channel id c)) None) mine;
  }
  by_test false mine found = absurd (none-some found)

pub own-none : (session id : ℕ) (o : Option Channel) → lead_if_own session o ≡ None → own_in session id o ≡ None
own-none session id None is = refl
own-none session id (Some c) is = by_test (eqb c.session session) is where
  by_test : (t : Bool) → option_map (λ k. k.lead) (cond t (Some c) None) ≡ None → cond t (Some (shown_channel id c)) None ≡ None
  by_test true found = absurd (some-none found)
  by_test false found = refl

-- it is kept as it is shown
pub own-kept : (session id : ℕ) (entries : List (ℕ × Channel)) → AllByRecursion (λ e. HasItsClass e.1) entries
    → option_map kept_of (channel_if_own session (lookup (eqb id) entries)) ≡ option_map kept_channel (own_in session id (lookup (eqb id) entries))
own-kept session id [] all = refl
own-kept session id (e ∷ entries) all = by_test (eqb id e.0) refl (own-kept session id entries all.1) where
  by_session : HasItsClass e.1 → (u : Bool)
      → option_map kept_of (cond u (Some e.1) None) ≡ option_map kept_channel (cond u (Some (shown_channel id e.1)) None)
  by_session has true = ap (λ k. Some k) (sym (kept-shown id e.1 has))
  by_session has false = refl

  by_test : (t : Bool) → eqb id e.0 ≡ t
      → option_map kept_of (channel_if_own session (lookup (eqb id) entries)) ≡ option_map kept_channel (own_in session id (lookup (eqb id) entries))
      → option_map kept_of (channel_if_own session (cond t (Some e.1) (lookup (eqb id) entries)))
      ≡ option_map kept_channel (own_in session id (cond t (Some e.1) (lookup (eqb id) entries)))
  by_test true is rest = by_session (subst (λ n. HasItsClass e.1) (sym (eqb-true id e.0 is)) all.0) (eqb e.1.session session)
  by_test false is rest = rest

-- the leads that are held when a channel is closed
pub closed-holds : (id : ℕ) (c : Channel) (entries : List (ℕ × Channel)) (held given : List (List ℕ)) → HoldsLeads held entries → lookup (eqb id) entries ≡ Some c
    → IsPermutation held (c.lead ∷ given) → is_held given c.lead ≡ false → HoldsLeads given (remove_entry (eqb id) entries)
closed-holds id c entries held given holds found perm gone = record {
  leads = given-leads id c entries held given holds.leads holds.apart found perm gone;
  apart = apart-without id entries holds.apart;
}

-- the tables fit each other when a channel is closed
pub closed-kept : (opened : ℕ) (entries : List (ℕ × Channel)) (held given : List (List ℕ)) (id : ℕ) → AreKept opened entries held
    → HoldsLeads given (remove_entry (eqb id) entries) → AreKept opened (remove_entry (eqb id) entries) given
closed-kept opened entries held given id kept holds = record {
  ids = all-without (λ e. e.0 ≤ opened) id entries kept.ids;
  classes = all-without (λ e. HasItsClass e.1) id entries kept.classes;
  holds = holds;
}
