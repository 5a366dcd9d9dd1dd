-- The channels of a session leave the tables.
use Rattle.std.proofs.Common.{◌≡◌, ℕ, ◌≤◌, Bool, true, false, cond, not, List, [], ◌∷◌, ◌++◌, refl, ap, subst, sym, ◌∙◌}
use Rattle.std.proofs.Math.Dec.{eqb}
use Rattle.std.proofs.lemmas.Bool.{eq-eqb}
use Rattle.std.specs.Prelude.{filter}
use Rattle.std.specs.List.{AllByRecursion, IsDistinct}
use Rattle.std.specs.Map.{keys_of, remove_entry}
use Rattle.channels.specs.declared.channel.Channel.{Channel}
use Rattle.channels.specs.Tables.{AreKept, HasItsClass, HoldsLeads, own_ids, shown_channel, without_ids, without_session}
use Rattle.channels.proofs.Lookups.{eqb-flip, shown_all}
use Rattle.channels.proofs.OwnChannels.{own-one}

-- the last id is the first that is removed
pub without-last : (ids : List ℕ) (id : ℕ) (entries : List (ℕ × Channel)) → without_ids (ids ++ id ∷ []) entries ≡ without_ids ids (remove_entry (eqb id) entries)
without-last [] id entries = refl
without-last (first ∷ ids) id entries = ap (remove_entry (eqb first)) (without-last ids id entries)

-- an entry with another id stays
without-other : (ids : List ℕ) (e : ℕ × Channel) (entries : List (ℕ × Channel)) → AllByRecursion (λ k. eqb k e.0 ≡ false) ids
    → without_ids ids (e ∷ entries) ≡ e ∷ without_ids ids entries
without-other [] e entries all = refl
without-other (k ∷ ids) e entries all =
    ap (remove_entry (eqb k)) (without-other ids e entries all.1)
    ∙ ap (λ t. cond t (without_ids ids entries) (e ∷ remove_entry (eqb k) (without_ids ids entries))) all.0

own-absent : (id session : ℕ) (entries : List (ℕ × Channel)) → AllByRecursion (λ k. eqb id k ≡ false) (keys_of entries)
    → AllByRecursion (λ k. eqb k id ≡ false) (own_ids session entries)
own-absent id session [] all = tt
own-absent id session (e ∷ entries) all =
    subst (AllByRecursion (λ k. eqb k id ≡ false)) (sym (own-one session e entries)) (by_test (eqb e.1.session session) (own-absent id session entries all.1)) where
      by_test : (t : Bool) → AllByRecursion (λ k. eqb k id ≡ false) (own_ids session entries)
          → AllByRecursion (λ k. eqb k id ≡ false) (cond t (e.0 ∷ own_ids session entries) (own_ids session entries))
      by_test true rest = (eqb-flip e.0 id ∙ all.0, rest)
      by_test false rest = rest

-- without a session's ids the entries of the others are left
pub without-own : (session : ℕ) (entries : List (ℕ × Channel)) → IsDistinct eqb (keys_of entries) → without_ids (own_ids session entries) entries ≡ without_session session entries
unfolding IsDistinct
without-own session [] apart = refl
without-own session (e ∷ entries) apart =
    ap (λ ids. without_ids ids (e ∷ entries)) (own-one session e entries) ∙ by_test (eqb e.1.session session) (without-own session entries apart.1) where
      own : List ℕ
      own = own_ids session entries

      stays : without_ids own (e ∷ entries) ≡ e ∷ without_ids own entries
      stays = without-other own e entries (own-absent e.0 session entries apart.0)

      by_test : (t : Bool) → without_ids own entries ≡ without_session session entries
          → without_ids (cond t (e.0 ∷ own) own) (e ∷ entries) ≡ cond (not t) (e ∷ without_session session entries) (without_session session entries)
      by_test true rest =
          ap (remove_entry (eqb e.0)) stays
          ∙ ap (λ t. cond t (without_ids own entries) (e ∷ remove_entry (eqb e.0) (without_ids own entries))) (eq-eqb e.0 e.0 refl)
          ∙ rest
      by_test false rest = stays ∙ ap (λ l. e ∷ l) rest

-- what holds of all entries holds of those that stay
all-left : (P : ℕ × Channel → Type 0) (session : ℕ) (entries : List (ℕ × Channel)) → AllByRecursion P entries → AllByRecursion P (without_session session entries)
all-left P session [] all = tt
all-left P session (e ∷ entries) all = by_test (not (eqb e.1.session session)) (all-left P session entries all.1) where
  by_test : (t : Bool) → AllByRecursion P (without_session session entries) → AllByRecursion P (cond t (e ∷ without_session session entries) (without_session session entries))
  by_test true rest = (all.0, rest)
  by_test false rest = rest

pub left-kept : (opened : ℕ) (entries : List (ℕ × Channel)) (held given : List (List ℕ)) (session : ℕ) → AreKept opened entries held
    → HoldsLeads given (without_session session entries) → AreKept opened (without_session session entries) given
left-kept opened entries held given session kept holds = record {
  ids = all-left (λ e. e.0 ≤ opened) session entries kept.ids;
  classes = all-left (λ e. HasItsClass e.1) session entries kept.classes;
  holds = holds;
}

-- the other channels are shown
pub shown-left : (session : ℕ) (entries : List (ℕ × Channel))
    → shown_all (without_session session entries) ≡ filter (λ c. not (eqb c.session session)) (shown_all entries)
shown-left session [] = refl
shown-left session (e ∷ entries) = by_test (not (eqb e.1.session session)) (shown-left session entries) where
  others : List (ℕ × Channel)
  others = without_session session entries

  by_test : (t : Bool) → shown_all others ≡ filter (λ c. not (eqb c.session session)) (shown_all entries)
      → shown_all (cond t (e ∷ others) others)
      ≡ cond t (shown_channel e.0 e.1 ∷ filter (λ c. not (eqb c.session session)) (shown_all entries))
      (filter (λ c. not (eqb c.session session)) (shown_all entries))
  by_test true same = ap (λ l. shown_channel e.0 e.1 ∷ l) same
  by_test false same = same
