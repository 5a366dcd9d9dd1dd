-- An open channel without account is a V1 channel.
use Rattle.std.proofs.Common.{◌≡◌, ℕ, ◌+◌, true, not, Some, List, [], ◌∷◌, refl, length}
use Rattle.std.proofs.Math.Dec.{eqb}
use Rattle.std.proofs.lemmas.Bool.{cond_both, false≢true}
use Rattle.std.specs.List.{AllByRecursion}
use Rattle.pool_history.specs.declared.events.Event.{Event}
use Rattle.pool_history.specs.declared.events.Event.TheVariants as event
use Rattle.pool_history.specs.declared.events.Kind.{Kind}
use Rattle.pool_history.specs.declared.events.Kind.TheVariants as kind
use Rattle.pool_history.specs.declared.settings.Rules.{Rules}
use Rattle.pool_history.specs.Accounts.{is_empty}
use Rattle.pool_history.specs.Channels.{OpenChannel, account_or, channel_moves, channels_of, with_name, opened, with_class}
use Rattle.pool_history.specs.Legal.{LegalPast, is_opening_account}
use Rattle.pool_history.specs.Refusing.{own_channel}
use Rattle.pool_history.proofs.PlacesOfClasses.{all-end, all-filter, all-map}
use Rattle.history_laws.proofs.Causes.{IsOpening, legal_opening}
use Rattle.history_laws.proofs.Holding.{all-find}
use Rattle.std.specs.Prelude.{filter}

-- a channel has an account, or it is a V1 channel
abbrev pub HasItsAccount : OpenChannel → Type 0
HasItsAccount c = is_empty c.account ≡ true → c.kind ≡ kind.V1

-- the account of an opening
pub opening-served : (rules : Rules) (k : Kind) (account : List ℕ) → is_opening_account rules k account ≡ true → is_empty account ≡ true → k ≡ kind.V1
opening-served rules kind.Standard [] h e = absurd (false≢true h)
opening-served rules kind.Standard (x ∷ account) h e = absurd (false≢true e)
opening-served rules kind.Extended [] h e = absurd (false≢true h)
opening-served rules kind.Extended (x ∷ account) h e = absurd (false≢true e)
opening-served rules kind.V1 account h e = refl

pub or-empty : (account name : List ℕ) → is_empty (account_or account name) ≡ true → is_empty account ≡ true
or-empty [] name h = refl
or-empty (x ∷ account) name h = h

pub named-served : (id : ℕ) (account : List ℕ) (c : OpenChannel) → HasItsAccount c → HasItsAccount (with_name id account c)
named-served id account c s =
    cond_both (eqb c.id id) (record c { account = account_or c.account account }) c HasItsAccount (λ t. λ e. s (or-empty c.account account e)) (λ f. s)

pub reclassed-served : (at id class : ℕ) (c : OpenChannel) → HasItsAccount c → HasItsAccount (with_class at id class c)
reclassed-served at id class c s =
    cond_both (eqb c.id id) (record c { sets = record { at = at; class = class } ∷ c.sets }) c HasItsAccount (λ t. s) (λ f. s)

pub channels-served : (past : List Event) → LegalPast past → AllByRecursion HasItsAccount (channels_of past)
channels-served [] l = tt
channels-served (event.Open session k account class lead ∷ older) l =
    let o : (rules : Rules) × IsOpening rules older session k account class lead = legal_opening older session k account class lead l.1 in
    all-end HasItsAccount (channels_of older)
    (record { id = opened (channel_moves older) + 1; session = session; kind = k; account = account; lead = lead; opening_class = class; sets = [] })
    (channels-served older l.0) (opening-served o.0 k account o.1.account_said)
channels-served (event.Name session id account ∷ older) l =
    all-map HasItsAccount HasItsAccount (with_name id account) (named-served id account) (channels_of older) (channels-served older l.0)
channels-served (event.Class session id class ∷ older) l =
    all-map HasItsAccount HasItsAccount (with_class (length older) id class) (reclassed-served (length older) id class) (channels_of older) (channels-served older l.0)
channels-served (event.Close session id ∷ older) l = all-filter HasItsAccount (λ c. not (eqb c.id id)) (channels_of older) (channels-served older l.0)
channels-served (event.Leave session ∷ older) l = all-filter HasItsAccount (λ c. not (eqb c.session session)) (channels_of older) (channels-served older l.0)
channels-served (e ∷ older) l = channels-served older l.0

-- one of a session's own
pub own-served : (past : List Event) (session id : ℕ) (c : OpenChannel) → LegalPast past → own_channel past session id ≡ Some c → HasItsAccount c
own-served past session id c l found =
    all-find HasItsAccount (λ d. eqb d.id id) (filter (λ d. eqb d.session session) (channels_of past)) c
    (all-filter HasItsAccount (λ d. eqb d.session session) (channels_of past) (channels-served past l)) found
