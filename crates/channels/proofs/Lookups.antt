-- What is kept under an id is the open channel with it.
use Rattle.std.proofs.Common.{◌≡◌, ℕ, Bool, true, false, cond, None, Some, List, [], ◌∷◌, map, refl, ap, sym, ◌∙◌}
use Rattle.std.proofs.Math.Dec.{eqb}
use Rattle.std.proofs.lemmas.Bool.{eq-eqb, eqb-true, false≢true, ne_eqb}
use Rattle.std.specs.Prelude.{filter}
use Rattle.std.specs.List.{AllByRecursion}
use Rattle.std.specs.Map.{lookup}
use Rattle.std.specs.Option.{option_map}
use Rattle.pool_history.specs.Channels.{OpenChannel, channel_in, channels_in, class_at, class_before}
use Rattle.channels.specs.declared.channel.Channel.{Channel}
use Rattle.channels.specs.Tables.{HasItsClass, kept_channel, kept_of, shown_channel}

pub eqb-flip : (a b : ℕ) → eqb a b ≡ eqb b a
eqb-flip a b = by_test (eqb b a) refl where
  by_test : (t : Bool) → eqb b a ≡ t → eqb a b ≡ t
  by_test true is = eq-eqb a b (sym (eqb-true b a is))
  by_test false is = ne_eqb a b (λ same. false≢true (sym is ∙ eq-eqb b a (sym same)))

-- the channels that are shown
abbrev pub shown_all : List (ℕ × Channel) → List OpenChannel
shown_all entries = map (λ entry. shown_channel entry.0 entry.1) entries

pub channel_in-shown : (entries : List (ℕ × Channel)) (id : ℕ)
    → channel_in (shown_all entries) id ≡ option_map (shown_channel id) (lookup (eqb id) entries)
channel_in-shown [] id = refl
channel_in-shown (e ∷ entries) id =
    ap (λ b. cond b (Some (shown_channel e.0 e.1)) (channel_in (shown_all entries) id)) (eqb-flip e.0 id)
    ∙ by_test (eqb id e.0) refl (channel_in-shown entries id) where
      by_test : (t : Bool) → eqb id e.0 ≡ t → channel_in (shown_all entries) id ≡ option_map (shown_channel id) (lookup (eqb id) entries)
          → cond t (Some (shown_channel e.0 e.1)) (channel_in (shown_all entries) id)
          ≡ option_map (shown_channel id) (cond t (Some e.1) (lookup (eqb id) entries))
      by_test true is rest = ap (λ n. Some (shown_channel n e.1)) (sym (eqb-true id e.0 is))
      by_test false is rest = rest

-- a channel with its present class is kept as it is shown
pub kept-shown : (id : ℕ) (c : Channel) → HasItsClass c → kept_channel (shown_channel id c) ≡ kept_of c
kept-shown id c h = ap (λ n. record (kept_of c) { class = n }) (sym h.class_is)

pub lookup-kept : (entries : List (ℕ × Channel)) (id : ℕ) → AllByRecursion (λ e. HasItsClass e.1) entries
    → option_map kept_of (lookup (eqb id) entries) ≡ option_map kept_channel (option_map (shown_channel id) (lookup (eqb id) entries))
lookup-kept [] id all = refl
lookup-kept (e ∷ entries) id all = by_test (eqb id e.0) refl (lookup-kept entries id all.1) where
  by_test : (t : Bool) → eqb id e.0 ≡ t
      → option_map kept_of (lookup (eqb id) entries) ≡ option_map kept_channel (option_map (shown_channel id) (lookup (eqb id) entries))
      → option_map kept_of (cond t (Some e.1) (lookup (eqb id) entries))
      ≡ option_map kept_channel (option_map (shown_channel id) (cond t (Some e.1) (lookup (eqb id) entries)))
  by_test true is rest = ap (λ c. Some c) (sym (kept-shown id e.1 all.0))
  by_test false is rest = rest

-- the ids of a session's channels
pub ids-shown : (session : ℕ) (entries : List (ℕ × Channel))
    → map (λ e. e.0) (filter (λ e. eqb e.1.session session) entries) ≡ map (λ c. c.id) (channels_in (shown_all entries) session)
ids-shown session [] = refl
ids-shown session (e ∷ entries) = by_test (eqb e.1.session session) (ids-shown session entries) where
  by_test : (t : Bool)
      → map (λ e. e.0) (filter (λ e. eqb e.1.session session) entries) ≡ map (λ c. c.id) (channels_in (shown_all entries) session)
      → map (λ e. e.0) (cond t (e ∷ filter (λ e. eqb e.1.session session) entries) (filter (λ e. eqb e.1.session session) entries))
      ≡ map (λ c. c.id) (cond t (shown_channel e.0 e.1 ∷ channels_in (shown_all entries) session)
      (channels_in (shown_all entries) session))
  by_test true rest = ap (λ l. e.0 ∷ l) rest
  by_test false rest = rest

-- the class at a place, by what is kept under the id
pub class-shown : (entries : List (ℕ × Channel)) (id at : ℕ) (c : Channel) → lookup (eqb id) entries ≡ Some c
    → Some (class_before at c.settings.sets c.opening_class)
    ≡ option_map (λ shown. class_at shown at) (channel_in (shown_all entries) id)
class-shown entries id at c found =
    sym (ap (option_map (λ shown. class_at shown at)) (channel_in-shown entries id ∙ ap (option_map (shown_channel id)) found))

pub class-none : (entries : List (ℕ × Channel)) (id at : ℕ) → lookup (eqb id) entries ≡ None
    → None ≡ option_map (λ shown. class_at shown at) (channel_in (shown_all entries) id)
class-none entries id at found =
    sym (ap (option_map (λ shown. class_at shown at)) (channel_in-shown entries id ∙ ap (option_map (shown_channel id)) found))
