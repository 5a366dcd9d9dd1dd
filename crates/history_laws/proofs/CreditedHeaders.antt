-- The headers of all credits are those of the Credits by their places.
use Rattle.std.proofs.Common.{◌⊎◌, inl, inr, ◌≡◌, ℕ, true, Option, None, Some, List, [], ◌∷◌, ◌++◌, reverse, refl, ap, subst, sym, ◌∙◌, append_assoc}
use Rattle.std.proofs.lemmas.Bool.{false≢true, or_cases, or_left, or_right}
use Rattle.std.proofs.lemmas.List.{reverse-append, reverse-reverse}
use Rattle.std.proofs.lemmas.List.Folds.{list_any-append}
use Rattle.std.proofs.lemmas.Slice.Eq.{bytes_eq-Decides}
use Rattle.std.specs.List.{list_any}
use Rattle.std.specs.Str.{bytes_eq}
use Rattle.pool_history.specs.declared.events.Event.{Event}
use Rattle.pool_history.specs.declared.events.Event.TheVariants as event
use Rattle.pool_history.specs.Crediting.{booked_with, credit_share, headers, found_list}
use Rattle.pool_history.specs.Judging.{Admitted, Share, rebuilt_header}
use Rattle.pool_history.specs.Legal.{Legal}
use Rattle.pool_history.specs.Sessions.{past_of, script_of}
use Rattle.history_laws.specs.Credited.{CreditsHaveHeaders, IsBookedAfter, share_in}
use Rattle.history_laws.specs.NineConditions.{HasCredited, HeadersByPlaces}
use Rattle.history_laws.proofs.Crediting.{Added, added-later, credits-booked}
use Rattle.history_laws.proofs.Holding.{bytes_eq-self}
use Rattle.history_laws.proofs.Legalities.{past-append, past-one, prefixes_legal}
use Rattle.history_laws.proofs.RebuiltWith.{booked-placed, placed-booked}

-- one event more
further : (older : List Event) (e : Event) (header : List ℕ) → HasCredited (reverse older) header → HasCredited (reverse (e ∷ older)) header
further older e header h = record {
  before = h.before;
  session = h.session;
  channel = h.channel;
  job = h.job;
  nonce = h.nonce;
  ntime = h.ntime;
  version = h.version;
  extranonce = h.extranonce;
  after = h.after ++ e ∷ [];
  parts = reverse-append (e ∷ []) older ∙ ap (λ l. l ++ e ∷ []) h.parts
      ∙ append_assoc h.before (event.Credit h.session h.channel h.job h.nonce h.ntime h.version h.extranonce ∷ h.after) (e ∷ []);
  with = h.with;
  is_with = h.is_with;
  is_header = h.is_header;
}

-- the header that a Credit adds
abbrev header-with : List Event → ℕ → ℕ → ℕ → ℕ → ℕ → List ℕ → Admitted → List ℕ
header-with older channel job nonce ntime version extranonce with = rebuilt_header (script_of older) with (credit_share with channel job nonce ntime version extranonce)

here : (older : List Event) (session channel job nonce ntime version : ℕ) (extranonce header : List ℕ) (with : Admitted) → booked_with older channel job ≡ Some with
    → header-with older channel job nonce ntime version extranonce with ≡ header
    → HasCredited (reverse (event.Credit session channel job nonce ntime version extranonce ∷ older)) header
here older session channel job nonce ntime version extranonce header with is same = record {
  before = reverse older;
  session = session;
  channel = channel;
  job = job;
  nonce = nonce;
  ntime = ntime;
  version = version;
  extranonce = extranonce;
  after = [];
  parts = reverse-append (event.Credit session channel job nonce ntime version extranonce ∷ []) older;
  with = with;
  is_with = booked-placed (reverse older) channel job with (ap (λ past. booked_with past channel job) (reverse-reverse older) ∙ is);
  is_header = ap (λ past. header-with past channel job nonce ntime version extranonce with) (reverse-reverse older) ∙ same;
}

credited-there : (past : List Event) (header : List ℕ) → list_any (bytes_eq header) (headers past) ≡ true → HasCredited (reverse past) header
credited-there [] header h = absurd (false≢true h)
credited-there (event.Credit session channel job nonce ntime version extranonce ∷ older) header h =
    by (booked_with older channel job) refl h (λ g. further older (event.Credit session channel job nonce ntime version extranonce) header (credited-there older header g)) where
      f : Admitted → List ℕ
      f with = header-with older channel job nonce ntime version extranonce with

      by : (o : Option Admitted) → booked_with older channel job ≡ o
          → list_any (bytes_eq header) (found_list (λ with. header-with older channel job nonce ntime version extranonce with) o ++ headers older) ≡ true
          → (list_any (bytes_eq header) (headers older) ≡ true → HasCredited (reverse (event.Credit session channel job nonce ntime version extranonce ∷ older)) header)
          → HasCredited (reverse (event.Credit session channel job nonce ntime version extranonce ∷ older)) header
      by None is g rest = rest g
      by (Some with) is g rest = either (or_cases (bytes_eq header (header-with older channel job nonce ntime version extranonce with)) (list_any (bytes_eq header) (headers older)) g) where
        either : (bytes_eq header (header-with older channel job nonce ntime version extranonce with) ≡ true) ⊎ (list_any (bytes_eq header) (headers older) ≡ true)
            → HasCredited (reverse (event.Credit session channel job nonce ntime version extranonce ∷ older)) header
        either (inl same) =
            here older session channel job nonce ntime version extranonce header with is
            (sym ((bytes_eq-Decides header (header-with older channel job nonce ntime version extranonce with)).0 same))
        either (inr deeper) = rest deeper
credited-there (e ∷ older) header h = further older e header (credited-there older header h)

-- a Credit's header is among them
pub among-headers : (history : List Event) (header : List ℕ) → HasCredited history header → list_any (bytes_eq header) (headers (past_of history)) ≡ true
among-headers history header h =
    let c : Event = event.Credit h.session h.channel h.job h.nonce h.ntime h.version h.extranonce in
    let past : List Event = past_of h.before in
    let parts : past_of history ≡ past_of h.after ++ c ∷ past =
    ap past_of (h.parts ∙ sym (append_assoc h.before (c ∷ []) h.after)) ∙ past-append (h.before ++ c ∷ []) h.after
    ∙ ap (λ l. past_of h.after ++ l) (past-one h.before c) in
    let a : Added (past_of h.after) (c ∷ past) = added-later (past_of h.after) (c ∷ past) in
    let own : headers (c ∷ past) ≡ header ∷ headers past =
    ap (λ o. found_list (λ with. header-with past h.channel h.job h.nonce h.ntime h.version h.extranonce with) o ++ headers past) (placed-booked h.before h.channel h.job h.with h.is_with)
    ∙ ap (λ x. x ∷ headers past) h.is_header in
    let all : headers (past_of history) ≡ a.more_headers ++ header ∷ headers past =
    ap headers parts ∙ a.headers_are ∙ ap (λ l. a.more_headers ++ l) own in
    ap (list_any (bytes_eq header)) all ∙ list_any-append (bytes_eq header) a.more_headers (header ∷ headers past)
    ∙ or_right (list_any (bytes_eq header) a.more_headers) (list_any (bytes_eq header) (header ∷ headers past))
    (or_left (bytes_eq header header) (list_any (bytes_eq header) (headers past)) (bytes_eq-self header))

pub headers-placed : HeadersByPlaces
headers-placed history header = (
  λ h. subst (λ l. HasCredited l header) (reverse-reverse history) (credited-there (past_of history) header h),
  λ c. among-headers history header c,
)

pub credits-have_headers : CreditsHaveHeaders
credits-have_headers before after session channel job nonce ntime version extranonce l =
    let c : Event = event.Credit session channel job nonce ntime version extranonce in
    let share : Share = share_in before channel job nonce ntime version extranonce in
    let front : Legal (before ++ c ∷ []) = prefixes_legal (before ++ c ∷ []) after (subst Legal (sym (append_assoc before (c ∷ []) after)) l) in
    let was : IsBookedAfter before session share c = credits-booked before session channel job nonce ntime version extranonce front in
    let header : List ℕ = rebuilt_header was.rules.pool_script was.with share in
    let a : Added (past_of after) (past_of (before ++ c ∷ [])) = added-later (past_of after) (past_of (before ++ c ∷ [])) in
    let all : headers (past_of (before ++ c ∷ after)) ≡ a.more_headers ++ header ∷ headers (past_of before) =
    ap (λ h. headers (past_of h)) (sym (append_assoc before (c ∷ []) after)) ∙ ap headers (past-append (before ++ c ∷ []) after)
    ∙ a.headers_are ∙ ap (λ l. a.more_headers ++ l) was.header in
    record {
      was = was;
      among = ap (list_any (bytes_eq header)) all ∙ list_any-append (bytes_eq header) a.more_headers (header ∷ headers (past_of before))
          ∙ or_right (list_any (bytes_eq header) a.more_headers) (list_any (bytes_eq header) (header ∷ headers (past_of before)))
          (or_left (bytes_eq header header) (list_any (bytes_eq header) (headers (past_of before))) (bytes_eq-self header));
    }
