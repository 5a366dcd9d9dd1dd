-- The ids of each session's channels.
use Rattle.std.proofs.Common.{◌≡◌, ℕ, ◌<◌, ◌≤◌, ◌^◌, Bool, true, false, cond, not, ◌||◌, Some, List, [], ◌∷◌, ◌++◌, Vec, arith, append-nil, length, map, refl, ap, subst, sym, ◌∙◌}
use Rattle.std.proofs.Math.Dec.{eqb}
use Rattle.std.proofs.lemmas.Bool.{eqb-true, false≢true, leb-false}
use Rattle.std.proofs.lemmas.List.{length-map, length_push}
use Rattle.std.specs.Prelude.{filter, nat_le}
use Rattle.std.specs.List.{AllByRecursion, IsDistinct}
use Rattle.std.specs.Map.{keys_of, lookup, remove_entry}
use Rattle.std.specs.declared.alloc.Global.{Global}
use Rattle.history_laws.proofs.Entrances.{none-some, some-same}
use Rattle.pool_history.specs.Channels.{channels_in}
use Rattle.pool_history.specs.Refusing.{has_too_many_among}
use Rattle.channels.specs.declared.channel.Channel.{Channel}
use Rattle.channels.specs.Tables.{ListsChannels, ids_listed, own_ids, with_changed, without_session}
use Rattle.channels.proofs.Lookups.{eqb-flip, ids-shown, shown_all}

pub count-shown : (session : ℕ) (entries : List (ℕ × Channel)) → length (channels_in (shown_all entries) session) ≡ length (own_ids session entries)
count-shown session entries = sym (ap length (ids-shown session entries) ∙ length-map (channels_in (shown_all entries) session) (λ c. c.id))

-- an entry in front
pub own-one : (session : ℕ) (e : ℕ × Channel) (entries : List (ℕ × Channel))
    → own_ids session (e ∷ entries) ≡ cond (eqb e.1.session session) (e.0 ∷ own_ids session entries) (own_ids session entries)
own-one session e entries = by_test (eqb e.1.session session) where
  by_test : (t : Bool) → map (λ d. d.0) (cond t (e ∷ filter (λ d. eqb d.1.session session) entries) (filter (λ d. eqb d.1.session session) entries))
      ≡ cond t (e.0 ∷ own_ids session entries) (own_ids session entries)
  by_test true = refl
  by_test false = refl

-- one entry more
pub own-joined : (session : ℕ) (entries : List (ℕ × Channel)) (e : ℕ × Channel)
    → own_ids session (entries ++ e ∷ []) ≡ own_ids session entries ++ cond (eqb e.1.session session) (e.0 ∷ []) []
own-joined session [] e = own-one session e []
own-joined session (d ∷ entries) e =
    own-one session d (entries ++ e ∷ []) ∙ by_test (eqb d.1.session session) (own-joined session entries e)
    ∙ ap (λ l. l ++ more) (sym (own-one session d entries)) where
      more : List ℕ
      more = cond (eqb e.1.session session) (e.0 ∷ []) []

      by_test : (t : Bool) → own_ids session (entries ++ e ∷ []) ≡ own_ids session entries ++ more
          → cond t (d.0 ∷ own_ids session (entries ++ e ∷ [])) (own_ids session (entries ++ e ∷ []))
          ≡ cond t (d.0 ∷ own_ids session entries) (own_ids session entries) ++ more
      by_test true rest = ap (λ l. d.0 ∷ l) rest
      by_test false rest = rest

few-joined : (session : ℕ) (entries : List (ℕ × Channel)) (e : ℕ × Channel) → (e.1.session ≡ session → length (own_ids session entries) < 1024)
    → length (own_ids session entries) ≤ 1024 → length (own_ids session (entries ++ e ∷ [])) ≤ 1024
few-joined session entries e few most =
    subst (λ l. length l ≤ 1024) (sym (own-joined session entries e)) (by_test (eqb e.1.session session) refl) where
      by_test : (t : Bool) → eqb e.1.session session ≡ t → length (own_ids session entries ++ cond t (e.0 ∷ []) []) ≤ 1024
      by_test true is = omega (arith, length_push (own_ids session entries) e.0, few (eqb-true e.1.session session is))
      by_test false is = subst (λ l. length l ≤ 1024) (sym (append-nil (own_ids session entries))) most

pub joined-listed : (lists new : List (ℕ × Vec ℕ Global)) (entries : List (ℕ × Channel)) (e : ℕ × Channel)
    → ((session : ℕ) → ids_listed (lookup (eqb session) new) ≡ ids_listed (lookup (eqb session) lists) ++ cond (eqb e.1.session session) (e.0 ∷ []) [])
    → length (own_ids e.1.session entries) < 1024 → ListsChannels lists entries → ListsChannels new (entries ++ e ∷ [])
joined-listed lists new entries e same few listed = record {
  listed = λ session.
      same session ∙ ap (λ l. l ++ cond (eqb e.1.session session) (e.0 ∷ []) []) (listed.listed session) ∙ sym (own-joined session entries e);
  few = λ session. few-joined session entries e (λ is. subst (λ n. length (own_ids n entries) < 1024) is few) (listed.few session);
}

-- one entry less
absent-stays : (id session : ℕ) (entries : List (ℕ × Channel)) → AllByRecursion (λ k. eqb id k ≡ false) (keys_of entries)
    → filter (λ k. not (eqb k id)) (own_ids session entries) ≡ own_ids session entries
absent-stays id session [] all = refl
absent-stays id session (e ∷ entries) all =
    ap (filter (λ k. not (eqb k id))) (own-one session e entries) ∙ by_test (eqb e.1.session session) (absent-stays id session entries all.1)
    ∙ sym (own-one session e entries) where
      own : List ℕ
      own = own_ids session entries

      by_test : (t : Bool) → filter (λ k. not (eqb k id)) own ≡ own → filter (λ k. not (eqb k id)) (cond t (e.0 ∷ own) own) ≡ cond t (e.0 ∷ own) own
      by_test true rest =
          ap (λ b. cond (not b) (e.0 ∷ filter (λ k. not (eqb k id)) own) (filter (λ k. not (eqb k id)) own)) (eqb-flip e.0 id ∙ all.0)
          ∙ ap (λ l. e.0 ∷ l) rest
      by_test false rest = rest

own-removed : (id session : ℕ) (entries : List (ℕ × Channel)) → IsDistinct eqb (keys_of entries)
    → own_ids session (remove_entry (eqb id) entries) ≡ filter (λ k. not (eqb k id)) (own_ids session entries)
unfolding IsDistinct
own-removed id session [] apart = refl
own-removed id session (e ∷ entries) apart =
    by_test (eqb id e.0) refl (own-removed id session entries apart.1) ∙ ap (filter (λ k. not (eqb k id))) (sym (own-one session e entries)) where
      own : List ℕ
      own = own_ids session entries

      rest_of : List ℕ
      rest_of = filter (λ k. not (eqb k id)) own

      dropped : (u : Bool) → eqb e.0 id ≡ true → own ≡ filter (λ k. not (eqb k id)) (cond u (e.0 ∷ own) own)
      dropped true is =
          sym (absent-stays id session entries (subst (λ n. AllByRecursion (λ k. eqb n k ≡ false) (keys_of entries)) (eqb-true e.0 id is) apart.0))
          ∙ ap (λ b. cond (not b) (e.0 ∷ rest_of) rest_of) (sym is)
      dropped false is =
          sym (absent-stays id session entries (subst (λ n. AllByRecursion (λ k. eqb n k ≡ false) (keys_of entries)) (eqb-true e.0 id is) apart.0))

      stays : (u : Bool) → eqb e.0 id ≡ false → cond u (e.0 ∷ rest_of) rest_of ≡ filter (λ k. not (eqb k id)) (cond u (e.0 ∷ own) own)
      stays true is = ap (λ b. cond (not b) (e.0 ∷ rest_of) rest_of) (sym is)
      stays false is = refl

      by_test : (t : Bool) → eqb id e.0 ≡ t → own_ids session (remove_entry (eqb id) entries) ≡ rest_of
          → own_ids session (cond t entries (e ∷ remove_entry (eqb id) entries))
          ≡ filter (λ k. not (eqb k id)) (cond (eqb e.1.session session) (e.0 ∷ own) own)
      by_test true is rest = dropped (eqb e.1.session session) (eqb-flip e.0 id ∙ is)
      by_test false is rest =
          own-one session e (remove_entry (eqb id) entries) ∙ ap (λ l. cond (eqb e.1.session session) (e.0 ∷ l) l) rest
          ∙ stays (eqb e.1.session session) (eqb-flip e.0 id ∙ is)

own-other : (id session : ℕ) (c : Channel) (entries : List (ℕ × Channel)) → eqb c.session session ≡ false → lookup (eqb id) entries ≡ Some c
    → own_ids session (remove_entry (eqb id) entries) ≡ own_ids session entries
own-other id session c [] other found = absurd (none-some found)
own-other id session c (e ∷ entries) other found = by_test (eqb id e.0) found (λ f. own-other id session c entries other f) ∙ sym (own-one session e entries) where
  own : List ℕ
  own = own_ids session entries

  by_test : (t : Bool) → cond t (Some e.1) (lookup (eqb id) entries) ≡ Some c
      → (lookup (eqb id) entries ≡ Some c → own_ids session (remove_entry (eqb id) entries) ≡ own)
      → own_ids session (cond t entries (e ∷ remove_entry (eqb id) entries)) ≡ cond (eqb e.1.session session) (e.0 ∷ own) own
  by_test true f rest = sym (ap (λ k. cond (eqb k.session session) (e.0 ∷ own) own) (some-same f) ∙ ap (λ t. cond t (e.0 ∷ own) own) other)
  by_test false f rest =
      own-one session e (remove_entry (eqb id) entries) ∙ ap (λ l. cond (eqb e.1.session session) (e.0 ∷ l) l) (rest f)

shorter : (p : ℕ → Bool) (l : List ℕ) → length (filter p l) ≤ length l
shorter p [] = omega arith
shorter p (x ∷ l) = by_test (p x) (shorter p l) where
  by_test : (t : Bool) → length (filter p l) ≤ length l → length (cond t (x ∷ filter p l) (filter p l)) ≤ length (x ∷ l)
  by_test true rest = omega (arith, rest)
  by_test false rest = omega (arith, rest)

pub removed-listed : (lists new : List (ℕ × Vec ℕ Global)) (own id : ℕ) (c : Channel) (entries : List (ℕ × Channel))
    → ((session : ℕ) → ids_listed (lookup (eqb session) new)
    ≡ cond (eqb own session) (filter (λ k. not (eqb k id)) (ids_listed (lookup (eqb session) lists))) (ids_listed (lookup (eqb session) lists)))
    → IsDistinct eqb (keys_of entries) → eqb c.session own ≡ true → lookup (eqb id) entries ≡ Some c → ListsChannels lists entries
    → ListsChannels new (remove_entry (eqb id) entries)
removed-listed lists new own id c entries same apart mine found listed = record {
  listed = λ session.
      same session
      ∙ ap (λ l. cond (eqb own session) (filter (λ k. not (eqb k id)) l) l) (listed.listed session)
      ∙ by_test session (eqb own session) refl;
  few = λ session.
      let less : length (filter (λ k. not (eqb k id)) (own_ids session entries)) ≤ length (own_ids session entries) =
      shorter (λ k. not (eqb k id)) (own_ids session entries) in
      let most : length (own_ids session entries) ≤ 1024 = listed.few session in
      subst (λ l. length l ≤ 1024) (sym (own-removed id session entries apart)) (omega (arith, less, most));
} where
  by_test : (session : ℕ) (t : Bool) → eqb own session ≡ t
      → cond t (filter (λ k. not (eqb k id)) (own_ids session entries)) (own_ids session entries) ≡ own_ids session (remove_entry (eqb id) entries)
  by_test session true is = sym (own-removed id session entries apart)
  by_test session false is = sym (own-other id session c entries (ap (λ n. eqb n session) (eqb-true c.session own mine) ∙ is) found)

-- a session's entries less
own-left : (session left : ℕ) (entries : List (ℕ × Channel)) → own_ids session (without_session left entries) ≡ cond (eqb left session) [] (own_ids session entries)
own-left session left [] = by_test (eqb left session) where
  by_test : (t : Bool) → ◌≡◌ {A = List ℕ} [] (cond t [] [])
  by_test true = refl
  by_test false = refl
own-left session left (e ∷ entries) = by_left (eqb e.1.session left) refl (own-left session left entries) where
  others : List (ℕ × Channel)
  others = without_session left entries

  own : List ℕ
  own = own_ids session entries

  stays : (u : Bool) → eqb e.1.session left ≡ true → eqb left session ≡ u → cond u [] own ≡ cond u [] (own_ids session (e ∷ entries))
  stays true is is-u = refl
  stays false is is-u =
      let other : eqb e.1.session session ≡ false = ap (λ n. eqb n session) (eqb-true e.1.session left is) ∙ is-u in
      sym (own-one session e entries ∙ ap (λ t. cond t (e.0 ∷ own) own) other)

  joins : (u : Bool) → eqb e.1.session left ≡ false → eqb left session ≡ u
      → cond (eqb e.1.session session) (e.0 ∷ cond u [] own) (cond u [] own) ≡ cond u [] (own_ids session (e ∷ entries))
  joins true is is-u = ap (λ t. cond t (e.0 ∷ []) []) (ap (eqb e.1.session) (sym (eqb-true left session is-u)) ∙ is)
  joins false is is-u = sym (own-one session e entries)

  by_left : (s : Bool) → eqb e.1.session left ≡ s → own_ids session others ≡ cond (eqb left session) [] own
      → own_ids session (cond (not s) (e ∷ others) others) ≡ cond (eqb left session) [] (own_ids session (e ∷ entries))
  by_left true is rest = rest ∙ stays (eqb left session) is refl
  by_left false is rest = own-one session e others ∙ ap (λ l. cond (eqb e.1.session session) (e.0 ∷ l) l) rest ∙ joins (eqb left session) is refl

pub left-listed : (lists new : List (ℕ × Vec ℕ Global)) (left : ℕ) (entries : List (ℕ × Channel))
    → ((session : ℕ) → ids_listed (lookup (eqb session) new) ≡ cond (eqb left session) [] (ids_listed (lookup (eqb session) lists)))
    → ListsChannels lists entries → ListsChannels new (without_session left entries)
left-listed lists new left entries same listed = record {
  listed = λ session. same session ∙ ap (λ l. cond (eqb left session) [] l) (listed.listed session) ∙ sym (own-left session left entries);
  few = λ session. subst (λ l. length l ≤ 1024) (sym (own-left session left entries)) (by_test session (eqb left session));
} where
  by_test : (session : ℕ) (t : Bool) → length (cond t [] (own_ids session entries)) ≤ 1024
  by_test session true = omega arith
  by_test session false = listed.few session

-- a change of what isn't the session
pub own-changed : (f : Channel → Channel) (id session : ℕ) → ((c : Channel) → (f c).session ≡ c.session) → (entries : List (ℕ × Channel))
    → own_ids session (with_changed f id entries) ≡ own_ids session entries
own-changed f id session same [] = refl
own-changed f id session same (e ∷ entries) =
    own-one session (changed (eqb id e.0)) (with_changed f id entries)
    ∙ ap (λ l. cond (eqb (changed (eqb id e.0)).1.session session) ((changed (eqb id e.0)).0 ∷ l) l) (own-changed f id session same entries)
    ∙ by_test (eqb id e.0) ∙ sym (own-one session e entries) where
      changed : Bool → ℕ × Channel
      changed t = cond t (e.0, f e.1) e

      own : List ℕ
      own = own_ids session entries

      by_test : (t : Bool) → cond (eqb (changed t).1.session session) ((changed t).0 ∷ own) own ≡ cond (eqb e.1.session session) (e.0 ∷ own) own
      by_test true = ap (λ n. cond (eqb n session) (e.0 ∷ own) own) (same e.1)
      by_test false = refl

pub changed-listed : (f : Channel → Channel) (id : ℕ) (lists : List (ℕ × Vec ℕ Global)) (entries : List (ℕ × Channel)) → ((c : Channel) → (f c).session ≡ c.session)
    → ListsChannels lists entries → ListsChannels lists (with_changed f id entries)
changed-listed f id lists entries same listed = record {
  listed = λ session. listed.listed session ∙ sym (own-changed f id session same entries);
  few = λ session. subst (λ l. length l ≤ 1024) (sym (own-changed f id session same entries)) (listed.few session);
}

-- other lists of the same ids
pub same-listed : (lists new : List (ℕ × Vec ℕ Global)) (entries : List (ℕ × Channel))
    → ((session : ℕ) → ids_listed (lookup (eqb session) new) ≡ ids_listed (lookup (eqb session) lists)) → ListsChannels lists entries → ListsChannels new entries
same-listed lists new entries same listed = record { listed = λ session. same session ∙ listed.listed session; few = listed.few }

-- a session that may open one more has few open
pub few-shown : (session openings : ℕ) (entries : List (ℕ × Channel)) → has_too_many_among (shown_all entries) openings session ≡ false
    → length (own_ids session entries) < 1024
few-shown session openings entries few =
    subst (λ n. n < 1024) (count-shown session entries)
    (by_test (nat_le 1024 (length (channels_in (shown_all entries) session))) refl few) where
      by_test : (t : Bool) → nat_le 1024 (length (channels_in (shown_all entries) session)) ≡ t
          → (t || nat_le (2 ^ 22) openings) ≡ false → length (channels_in (shown_all entries) session) < 1024
      by_test true is few = absurd (false≢true (sym few))
      by_test false is few = leb-false 1024 (length (channels_in (shown_all entries) session)) is
