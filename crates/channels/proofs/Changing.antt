-- A channel is changed where it stands.
use Rattle.std.proofs.Common.{◌≡◌, ℕ, ◌≤◌, Bool, true, false, cond, Option, None, Some, is_some, List, [], ◌∷◌, arith, length, map, refl, ap, subst, sym, ◌∙◌}
use Rattle.std.proofs.Math.Dec.{eqb}
use denote.Struct.Props.{props}
use Rattle.std.proofs.lemmas.Bool.{eqb-true, false≢true}
use Rattle.std.specs.List.{AllByRecursion, IsDistinct}
use Rattle.std.specs.Option.{option_map}
use Rattle.std.specs.Map.{keys_of, lookup, set_value}
use Rattle.history_laws.proofs.Entrances.{none-some, some-same}
use Rattle.history_laws.proofs.Legalities.{some-none}
use Rattle.history_laws.specs.Openings.{AreLeadsApart}
use Rattle.pool_history.specs.declared.events.Kind.TheVariants.{Standard}
use Rattle.pool_history.specs.declared.spans.LiveSpan.{LiveSpan}
use Rattle.pool_history.specs.Channels.{OpenChannel, account_or, channel_in, with_name}
use Rattle.prefix_space.specs.HeldLeads.{is_held}
use Rattle.channels.specs.ClassSettings.{ClassSettings}
use Rattle.channels.specs.Cuts.{cut_sets}
use Rattle.channels.specs.Orders.{by_id}
use Rattle.channels.specs.declared.channel.Channel.{Channel}
use Rattle.channels.specs.Tables.{AreKept, HasItsClass, named_channel, reclassed_channel, roomed_channel, rooms_of, shown_channel, with_changed}
use Rattle.channels.proofs.Closings.{leads_of}
use Rattle.channels.proofs.Cuts.{last-cut}
use Rattle.channels.specs.Cuts.{with_cut}
use Rattle.channels.proofs.Lookups.{channel_in-shown, eqb-flip, shown_all}
use Rattle.channels.proofs.Ordering.{lookup-mapped, mapped-by_id}

-- where the id isn't there nothing changes
pub absent-changed : (f : Channel → Channel) (id : ℕ) (entries : List (ℕ × Channel)) → AllByRecursion (λ k. eqb id k ≡ false) (keys_of entries)
    → with_changed f id entries ≡ entries
absent-changed f id [] all = refl
absent-changed f id (e ∷ entries) all =
    ap (λ t. cond t (e.0, f e.1) e ∷ with_changed f id entries) all.0 ∙ ap (λ l. e ∷ l) (absent-changed f id entries all.1)

pub unfound-changed : (f : Channel → Channel) (id : ℕ) (entries : List (ℕ × Channel)) → lookup (eqb id) entries ≡ None → with_changed f id entries ≡ entries
unfound-changed f id [] found = refl
unfound-changed f id (e ∷ entries) found = by_test (eqb id e.0) found (unfound-changed f id entries) where
  by_test : (t : Bool) → cond t (Some e.1) (lookup (eqb id) entries) ≡ None → (lookup (eqb id) entries ≡ None → with_changed f id entries ≡ entries)
      → cond t (e.0, f e.1) e ∷ with_changed f id entries ≡ e ∷ entries
  by_test true found rest = absurd (some-none found)
  by_test false found rest = ap (λ l. e ∷ l) (rest found)

-- where it is, its channel is written over
pub found-changed : (f : Channel → Channel) (id : ℕ) (c : Channel) (entries : List (ℕ × Channel)) → IsDistinct eqb (keys_of entries)
    → lookup (eqb id) entries ≡ Some c → set_value (eqb id) entries (f c) ≡ with_changed f id entries
unfolding IsDistinct
found-changed f id c [] apart found = absurd (none-some found)
found-changed f id c (e ∷ entries) apart found = by_test (eqb id e.0) refl found (found-changed f id c entries apart.1) where
  by_test : (t : Bool) → eqb id e.0 ≡ t → cond t (Some e.1) (lookup (eqb id) entries) ≡ Some c
      → (lookup (eqb id) entries ≡ Some c → set_value (eqb id) entries (f c) ≡ with_changed f id entries)
      → cond t ((e.0, f c) ∷ entries) (e ∷ set_value (eqb id) entries (f c)) ≡ cond t (e.0, f e.1) e ∷ with_changed f id entries
  by_test true is found rest =
      ap (λ k. (e.0, f k) ∷ entries) (sym (some-same found))
      ∙ ap (λ l. (e.0, f e.1) ∷ l)
      (sym (absent-changed f id entries (subst (λ n. AllByRecursion (λ k. eqb n k ≡ false) (keys_of entries)) (sym (eqb-true id e.0 is)) apart.0)))
  by_test false is found rest = ap (λ l. e ∷ l) (rest found)

-- what holds of the entries afterwards
pub all-changed : (P Q : ℕ × Channel → Type 0) (f : Channel → Channel) (id : ℕ) (entries : List (ℕ × Channel))
    → ((e : ℕ × Channel) → eqb id e.0 ≡ true → P e → Q (e.0, f e.1)) → ((e : ℕ × Channel) → eqb id e.0 ≡ false → P e → Q e)
    → AllByRecursion P entries → AllByRecursion Q (with_changed f id entries)
all-changed P Q f id [] here there all = tt
all-changed P Q f id (e ∷ entries) here there all = (by_test (eqb id e.0) refl, all-changed P Q f id entries here there all.1) where
  by_test : (t : Bool) → eqb id e.0 ≡ t → Q (cond t (e.0, f e.1) e)
  by_test true is = here e is all.0
  by_test false is = there e is all.0

pub leads-changed : (f : Channel → Channel) (id : ℕ) → ((c : Channel) → (f c).lead ≡ c.lead) → (entries : List (ℕ × Channel)) → leads_of (with_changed f id entries) ≡ leads_of entries
leads-changed f id same [] = refl
leads-changed f id same (e ∷ entries) = by_test (eqb id e.0) ∙ ap (λ l. e.1.lead ∷ l) (leads-changed f id same entries) where
  by_test : (t : Bool) → (cond t (e.0, f e.1) e).1.lead ∷ leads_of (with_changed f id entries) ≡ e.1.lead ∷ leads_of (with_changed f id entries)
  by_test true = ap (λ l. l ∷ leads_of (with_changed f id entries)) (same e.1)
  by_test false = refl

-- an account is given to what is shown
pub shown-named : (id : ℕ) (account : List ℕ) (entries : List (ℕ × Channel))
    → shown_all (with_changed (named_channel account) id entries) ≡ map (with_name id account) (shown_all entries)
shown-named id account [] = refl
shown-named id account (e ∷ entries) =
    ap (λ c. c ∷ shown_all (with_changed (named_channel account) id entries)) (by_test (eqb id e.0) ∙ ap named (eqb-flip id e.0))
    ∙ ap (λ l. with_name id account (shown_channel e.0 e.1) ∷ l) (shown-named id account entries) where
      named : Bool → OpenChannel
      named t =
          cond t (record (shown_channel e.0 e.1) { account = account_or e.1.account account }) (shown_channel e.0 e.1)

      by_test : (t : Bool) → shown_channel (cond t (e.0, named_channel account e.1) e).0 (cond t (e.0, named_channel account e.1) e).1 ≡ named t
      by_test true = refl
      by_test false = refl

-- a class is set for what is shown, and the older ones are cut
pub shown-set : (room at id class : ℕ) (span : LiveSpan) (entries : List (ℕ × Channel))
    → shown_all (with_changed (reclassed_channel room at class span) id entries) ≡ map (with_cut at id class span) (shown_all entries)
shown-set room at id class span [] = refl
shown-set room at id class span (e ∷ entries) =
    ap (λ c. c ∷ shown_all (with_changed (reclassed_channel room at class span) id entries)) (by_test (eqb id e.0) ∙ ap set (eqb-flip id e.0))
    ∙ ap (λ l. with_cut at id class span (shown_channel e.0 e.1) ∷ l) (shown-set room at id class span entries) where
      set : Bool → OpenChannel
      set t =
          cond t (record (shown_channel e.0 e.1) { sets = cut_sets at class span e.1.settings.sets }) (shown_channel e.0 e.1)

      by_test : (t : Bool)
          → shown_channel (cond t (e.0, reclassed_channel room at class span e.1) e).0 (cond t (e.0, reclassed_channel room at class span e.1) e).1 ≡ set t
      by_test true = refl
      by_test false = refl

-- room isn't shown
pub shown-roomed : (room id : ℕ) (entries : List (ℕ × Channel)) → shown_all (with_changed (roomed_channel room) id entries) ≡ shown_all entries
shown-roomed room id [] = refl
shown-roomed room id (e ∷ entries) =
    ap (λ c. c ∷ shown_all (with_changed (roomed_channel room) id entries)) (by_test (eqb id e.0)) ∙ ap (λ l. shown_channel e.0 e.1 ∷ l) (shown-roomed room id entries) where
      by_test : (t : Bool) → shown_channel (cond t (e.0, roomed_channel room e.1) e).0 (cond t (e.0, roomed_channel room e.1) e).1 ≡ shown_channel e.0 e.1
      by_test true = refl
      by_test false = refl

-- what is found afterwards
pub lookup-changed : (f : Channel → Channel) (id : ℕ) (entries : List (ℕ × Channel)) → lookup (eqb id) (with_changed f id entries) ≡ option_map f (lookup (eqb id) entries)
lookup-changed f id [] = refl
lookup-changed f id (e ∷ entries) = by_test (eqb id e.0) refl (lookup-changed f id entries) where
  changed : Bool → ℕ × Channel
  changed t = cond t (e.0, f e.1) e

  by_test : (t : Bool) → eqb id e.0 ≡ t → lookup (eqb id) (with_changed f id entries) ≡ option_map f (lookup (eqb id) entries)
      → cond (eqb id (changed t).0) (Some (changed t).1) (lookup (eqb id) (with_changed f id entries))
      ≡ option_map f (cond t (Some e.1) (lookup (eqb id) entries))
  by_test true is rest = ap (λ b. cond b (Some (f e.1)) (lookup (eqb id) (with_changed f id entries))) is
  by_test false is rest = ap (λ b. cond b (Some e.1) (lookup (eqb id) (with_changed f id entries))) is ∙ rest

-- there is as much room for a channel as its settings have
pub room-kept : (id : ℕ) (entries : List (ℕ × Channel)) (c : Channel) → lookup (eqb id) entries ≡ Some c → lookup (eqb id) (rooms_of entries) ≡ Some c.settings.room
room-kept id entries c found = lookup-mapped (λ k. k.settings.room) id entries ∙ ap (option_map (λ k. k.settings.room)) found

-- so there is, where room is made for an open channel
pub room-made : (room id : ℕ) (entries : List (ℕ × Channel)) → is_some (channel_in (shown_all entries) id) ≡ true
    → lookup (eqb id) (rooms_of (with_changed (roomed_channel room) id entries)) ≡ Some room
room-made room id entries there = by_option (lookup (eqb id) entries) refl (sym (ap is_some (channel_in-shown entries id)) ∙ there) where
  by_option : (o : Option Channel) → lookup (eqb id) entries ≡ o → is_some (option_map (shown_channel id) o) ≡ true
      → lookup (eqb id) (rooms_of (with_changed (roomed_channel room) id entries)) ≡ Some room
  by_option None is there = absurd (false≢true there)
  by_option (Some c) is there =
      room-kept id (with_changed (roomed_channel room) id entries) (roomed_channel room c)
      (lookup-changed (roomed_channel room) id entries ∙ ap (option_map (roomed_channel room)) is)

-- the tables fit each other afterwards
pub changed-kept : (f : Channel → Channel) (opened id : ℕ) (entries : List (ℕ × Channel)) (held : List (List ℕ)) → ((c : Channel) → (f c).lead ≡ c.lead)
    → ((c : Channel) → HasItsClass c → HasItsClass (f c)) → AreKept opened entries held → AreKept opened (with_changed f id entries) held
changed-kept f opened id entries held leads classes kept =
    let same : leads_of (with_changed f id entries) ≡ leads_of entries = leads-changed f id leads entries in
    record {
      ids = all-changed (λ e. e.0 ≤ opened) (λ e. e.0 ≤ opened) f id entries (λ e is below. below) (λ e is below. below) kept.ids;
      classes =
          all-changed (λ e. HasItsClass e.1) (λ e. HasItsClass e.1) f id entries (λ e is has. classes e.1 has) (λ e is has. has) kept.classes;
      holds = record {
        leads = λ lead. kept.holds.leads lead ∙ ap (λ l. is_held l lead) (sym same);
        apart = subst AreLeadsApart (sym same) kept.holds.apart;
      };
    }

pub named-class : (account : List ℕ) (c : Channel) → HasItsClass c → HasItsClass (named_channel account c)
named-class account c has = record { class_is = has.class_is }

pub set-class : (room at class : ℕ) (span : LiveSpan) (c : Channel) → HasItsClass c → HasItsClass (reclassed_channel room at class span c)
set-class room at class span c has = record { class_is = sym (last-cut at class c.opening_class span c.settings.sets) }

pub roomed-class : (room : ℕ) (c : Channel) → HasItsClass c → HasItsClass (roomed_channel room c)
roomed-class room c has = record { class_is = has.class_is }

-- whatever proves the fact that a channel's type carries
pub same-facts : (c : Channel) (whole : c.kind ≡ Standard → length c.lead ≡ 4) → c ≡ record c { standard_is_whole = whole }
same-facts c whole =
    let facts : IsProp (c.kind ≡ Standard → length c.lead ≡ 4) = hlevel props in
    ap (λ w. record c { standard_is_whole = w }) (facts c.standard_is_whole whole)

-- a channel without account gets it, and one that has some keeps it
pub first-named : (account : List ℕ) (c : Channel) (whole : c.kind ≡ Standard → length c.lead ≡ 4) → eqb (length c.account) 0 ≡ true
    → named_channel account c ≡ record c { account = account; standard_is_whole = whole }
first-named account c whole none = by_account c.account none where
  by_account : (l : List ℕ) → eqb (length l) 0 ≡ true → record c { account = account_or l account } ≡ record c { account = account; standard_is_whole = whole }
  by_account [] none = same-facts (record c { account = account }) whole
  by_account (byte ∷ bytes) none = let e : length (byte ∷ bytes) ≡ 0 = eqb-true (length (byte ∷ bytes)) 0 none in absurd (omega (arith, e))

pub later-named : (account : List ℕ) (c : Channel) → eqb (length c.account) 0 ≡ false → named_channel account c ≡ c
later-named account c some = by_account c.account some where
  by_account : (l : List ℕ) → eqb (length l) 0 ≡ false → record c { account = account_or l account } ≡ record c { account = l }
  by_account [] some = absurd (false≢true (sym some))
  by_account (byte ∷ bytes) some = refl

pub first-written : (account : List ℕ) (id : ℕ) (c : Channel) (whole : c.kind ≡ Standard → length c.lead ≡ 4) (entries : List (ℕ × Channel)) → IsDistinct eqb (keys_of entries)
    → lookup (eqb id) entries ≡ Some c → eqb (length c.account) 0 ≡ true
    → set_value (eqb id) entries (record c { account = account; standard_is_whole = whole }) ≡ with_changed (named_channel account) id entries
first-written account id c whole entries apart found none =
    ap (λ w. set_value (eqb id) entries w) (sym (first-named account c whole none)) ∙ found-changed (named_channel account) id c entries apart found

pub later-written : (account : List ℕ) (id : ℕ) (c : Channel) (entries : List (ℕ × Channel)) → IsDistinct eqb (keys_of entries) → lookup (eqb id) entries ≡ Some c
    → eqb (length c.account) 0 ≡ false → set_value (eqb id) entries c ≡ with_changed (named_channel account) id entries
later-written account id c entries apart found some =
    ap (λ w. set_value (eqb id) entries w) (sym (later-named account c some)) ∙ found-changed (named_channel account) id c entries apart found

-- another class is written, and other settings
pub settings-written : (f : Channel → Channel) (class id : ℕ) (c : Channel) (given told : ClassSettings) (whole : c.kind ≡ Standard → length c.lead ≡ 4)
    (entries : List (ℕ × Channel)) → IsDistinct eqb (keys_of entries) → lookup (eqb id) entries ≡ Some c → given ≡ told
    → f c ≡ record c { class = class; settings = told }
    → set_value (eqb id) entries (record c { class = class; settings = given; standard_is_whole = whole }) ≡ with_changed f id entries
settings-written f class id c given told whole entries apart found same is =
    ap (λ s. set_value (eqb id) entries (record c { class = class; settings = s; standard_is_whole = whole })) same
    ∙ ap (λ w. set_value (eqb id) entries w) (sym (is ∙ same-facts (record c { class = class; settings = told }) whole))
    ∙ found-changed f id c entries apart found

-- the entries in the order of their ids are changed as they are kept
pub changed-by_id : (f : Channel → Channel) (id : ℕ) (entries : List (ℕ × Channel)) → by_id (with_changed f id entries) ≡ with_changed f id (by_id entries)
changed-by_id f id entries = mapped-by_id (λ e. cond (eqb id e.0) (e.0, f e.1) e) (λ e. keys e (eqb id e.0)) entries where
  keys : (e : ℕ × Channel) (t : Bool) → (cond t (e.0, f e.1) e).0 ≡ e.0
  keys e true = refl
  keys e false = refl
