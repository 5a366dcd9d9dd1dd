-- Laws of legal histories.
use Rattle.std.proofs.Common.{◌≡◌, ◌⊎◌, inl, inr, Bool, true, false, cond, Option, None, Some, List, [], ◌∷◌, ◌++◌, length, reverse, refl, ap, subst, sym, ◌∙◌, append_assoc}
use Rattle.std.proofs.lemmas.List.{reverse-append, reverse-reverse}
use Rattle.pool_history.specs.declared.causes.Cause.{Cause}
use Rattle.pool_history.specs.declared.causes.Cause.TheVariants as cause
use Rattle.pool_history.specs.declared.events.Event.{Event}
use Rattle.pool_history.specs.declared.events.Event.TheVariants as event
use Rattle.pool_history.specs.declared.settings.Rules.{Rules}
use Rattle.pool_history.specs.Accounts.{are_in_range}
use Rattle.pool_history.specs.Legal.{Legal, LegalPast, cause_of}
use Rattle.pool_history.specs.Sessions.{past_of, rules_of}
use Rattle.history_laws.specs.Legality.{FirstIllegal, FirstIllegalIsOne, LegalHistoriesStart, LegalityByPlaces, LegalityIsDecided, NoneHasCause, OneMoreIsLegal, PrefixesAreLegal, StartIsLegal, Starts}

-- the past of histories one after the other
pub past-append : (a b : List Event) → past_of (a ++ b) ≡ past_of b ++ past_of a
past-append a b = reverse-append a b

pub past-one : (h : List Event) (e : Event) → past_of (h ++ e ∷ []) ≡ e ∷ past_of h
past-one h e = reverse-append h (e ∷ [])

-- and back
pub past-cons : (e : Event) (past : List Event) → reverse (e ∷ past) ≡ reverse past ++ e ∷ []
past-cons e past = reverse-append (e ∷ []) past

-- a past without its latest events
pub legal_past-back : (later past : List Event) → LegalPast (later ++ past) → LegalPast past
legal_past-back [] past l = l
legal_past-back (e ∷ later) past l = legal_past-back later past l.0

pub prefixes_legal : PrefixesAreLegal
prefixes_legal front back l = legal_past-back (past_of back) (past_of front) (subst LegalPast (past-append front back) l)

pub one_more_legal : OneMoreIsLegal
one_more_legal h e = (λ l. subst LegalPast (past-one h e) l, λ l. subst LegalPast (sym (past-one h e)) l)

-- some cause is not none
pub some-none : {X : Type 0} {x : X} → ◌≡◌ {A = Option X} (Some x) None → ⊥
some-none e = cc

-- one event of a list, and the list up to it
pub up_to : (before : List Event) (e : Event) (after : List Event) → before ++ e ∷ after ≡ (before ++ e ∷ []) ++ after
up_to before e after = sym (append_assoc before (e ∷ []) after)

-- legality gives each event no cause
pub none_caused : (h : List Event) → Legal h → NoneHasCause h
none_caused h l before e after parts =
    ((one_more_legal before e).0 (prefixes_legal (before ++ e ∷ []) after (subst Legal (parts ∙ up_to before e after) l))).1

-- the events of a past that none has a cause
pub legal_from_none : (past : List Event) → NoneHasCause (reverse past) → LegalPast past
legal_from_none [] n = tt
legal_from_none (e ∷ past) n = (
  legal_from_none past (λ before x after parts. n before x (after ++ e ∷ [])
      (past-cons e past ∙ ap (λ h. h ++ e ∷ []) parts ∙ append_assoc before (x ∷ after) (e ∷ []))),
  subst (λ p. cause_of p e ≡ None) (reverse-reverse past) (n (reverse past) e [] (past-cons e past)),
)

pub legality_placed : LegalityByPlaces
legality_placed h = (none_caused h, λ n. legal_from_none (past_of h) (subst NoneHasCause (sym (reverse-reverse h)) n))

-- what a cause says
pub decide_cause : (past : List Event) (e : Event) (c : Option Cause) → cause_of past e ≡ c → LegalPast past → LegalPast (e ∷ past) ⊎ FirstIllegal (reverse (e ∷ past))
decide_cause past e None is l = inl (l, is)
decide_cause past e (Some c) is l = inr (record {
  before = reverse past;
  event = e;
  after = [];
  cause = c;
  parts = past-cons e past;
  legal = subst LegalPast (sym (reverse-reverse past)) l;
  caused = subst (λ p. cause_of p e ≡ Some c) (sym (reverse-reverse past)) is;
})

pub decide_later : (past : List Event) (e : Event) → LegalPast past ⊎ FirstIllegal (reverse past) → LegalPast (e ∷ past) ⊎ FirstIllegal (reverse (e ∷ past))
decide_later past e (inl l) = decide_cause past e (cause_of past e) refl l
decide_later past e (inr f) = inr (record {
  before = f.before;
  event = f.event;
  after = f.after ++ e ∷ [];
  cause = f.cause;
  parts = past-cons e past ∙ ap (λ h. h ++ e ∷ []) f.parts ∙ append_assoc f.before (f.event ∷ f.after) (e ∷ []);
  legal = f.legal;
  caused = f.caused;
})

pub decide_past : (past : List Event) → LegalPast past ⊎ FirstIllegal (reverse past)
decide_past [] = inl tt
decide_past (e ∷ past) = decide_later past e (decide_past past)

pub legality_decided : LegalityIsDecided
legality_decided h = subst (λ g. Legal h ⊎ FirstIllegal g) (reverse-reverse h) (decide_past (past_of h))

-- two places in one list: the same, or one is before the other
pub two_places : {X : Type 0} (a b : List X) (x y : X) (c d : List X) → a ++ x ∷ c ≡ b ++ y ∷ d
    → ((a ≡ b) × (x ≡ y)) ⊎ (((m : List X) × (b ≡ a ++ x ∷ m)) ⊎ ((m : List X) × (a ≡ b ++ y ∷ m)))
two_places {X = X} [] [] x y c d e = inl (refl, cc)
two_places {X = X} [] (z ∷ b) x y c d e = inr (inl (b, cc))
two_places {X = X} (z ∷ a) [] x y c d e = inr (inr (a, cc))
two_places {X = X} (z ∷ a) (w ∷ b) x y c d e =
    let heads : z ≡ w = cc in
    let tails : a ++ x ∷ c ≡ b ++ y ∷ d = cc in
    further heads (two_places a b x y c d tails) where
      further : z ≡ w → ((a ≡ b) × (x ≡ y)) ⊎ (((m : List X) × (b ≡ a ++ x ∷ m)) ⊎ ((m : List X) × (a ≡ b ++ y ∷ m)))
          → ((z ∷ a ≡ w ∷ b) × (x ≡ y)) ⊎ (((m : List X) × (w ∷ b ≡ (z ∷ a) ++ x ∷ m)) ⊎ ((m : List X) × (z ∷ a ≡ (w ∷ b) ++ y ∷ m)))
      further heads (inl (p, q)) = inl (cc, q)
      further heads (inr (inl (m, p))) = inr (inl (m, cc))
      further heads (inr (inr (m, p))) = inr (inr (m, cc))

-- an event before a legal front's end has no cause
pub not_before : (h : List Event) (f : FirstIllegal h) (before : List Event) (e : Event) (m : List Event) (c : Cause) → f.before ≡ before ++ e ∷ m
    → cause_of (past_of before) e ≡ Some c → ⊥
not_before h f before e m c parts caused = some-none (sym caused ∙ none_caused f.before f.legal before e m parts)

pub same_place : (h : List Event) (f g : FirstIllegal h) → (g.before ≡ f.before) × (g.event ≡ f.event)
same_place h f g = by_place (two_places g.before f.before g.event f.event g.after f.after (sym g.parts ∙ f.parts)) where
  by_place : ((g.before ≡ f.before) × (g.event ≡ f.event)) ⊎ (((m : List Event) × (f.before ≡ g.before ++ g.event ∷ m)) ⊎ ((m : List Event) × (g.before ≡ f.before ++ f.event ∷ m)))
      → (g.before ≡ f.before) × (g.event ≡ f.event)
  by_place (inl same) = same
  by_place (inr (inl (m, p))) = absurd (not_before h f g.before g.event m g.cause p g.caused)
  by_place (inr (inr (m, p))) = absurd (not_before h g f.before f.event m f.cause p f.caused)

pub some-same : {X : Type 0} {x y : X} → ◌≡◌ {A = Option X} (Some x) (Some y) → x ≡ y
some-same e = cc

pub first_is_one : FirstIllegalIsOne
first_is_one h f = record {
  illegal = λ l. some-none (sym f.caused ∙ none_caused h l f.before f.event f.after f.parts);
  place = λ g. ap length (same_place h f g).0;
  cause = λ g.
      let same : (g.before ≡ f.before) × (g.event ≡ f.event) = same_place h f g in
      some-same (sym g.caused ∙ ap (λ b. cause_of (past_of b) g.event) same.0 ∙ ap (λ e. cause_of (past_of f.before) e) same.1 ∙ f.caused);
}

-- the rules are those of the first event
pub rules-older : (e x : Event) (older : List Event) → rules_of (e ∷ x ∷ older) ≡ rules_of (x ∷ older)
rules-older (event.Start rules) x older = refl
rules-older e x older = refl

pub rules-first : (later : List Event) (rules : Rules) → rules_of (later ++ event.Start rules ∷ []) ≡ Some rules
rules-first [] rules = refl
rules-first (e ∷ []) rules = rules-older e (event.Start rules) []
rules-first (e ∷ x ∷ later) rules = rules-older e x (later ++ event.Start rules ∷ []) ∙ rules-first (x ∷ later) rules

-- a test that has to hold
pub held : (b : Bool) (c : Cause) → cond b None (Some c) ≡ None → b ≡ true
held true c e = refl
held false c e = absurd (some-none e)

pub starts_with_start : (e : Event) (more : List Event) → cause_of [] e ≡ None → Starts (e ∷ more)
starts_with_start (event.Start rules) more n = record {
  rules = rules;
  more = more;
  first = refl;
  are_rules = ap rules_of (reverse-append (event.Start rules ∷ []) more) ∙ rules-first (reverse more) rules;
  in_range = held (are_in_range rules) cause.BadStart n;
}
starts_with_start e more n = absurd (some-none n)

pub legal_starts : LegalHistoriesStart
legal_starts [] l = inl refl
legal_starts (e ∷ more) l = inr (starts_with_start e more (none_caused (e ∷ more) l [] e more refl))

pub start_legal : StartIsLegal
start_legal rules range = (tt, rw range refl)
