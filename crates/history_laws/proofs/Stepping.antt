-- One event more.
use Rattle.std.proofs.Common.{◌≡◌, ℕ, ◌+◌, cond, Some, List, [], ◌∷◌, ◌++◌, length, refl, ap, sym, ◌∙◌, arith}
use Rattle.std.proofs.lemmas.Bool.{ne_eqb}
use Rattle.std.proofs.lemmas.List.{length-reverse}
use Rattle.pool_history.specs.declared.events.Event.{Event}
use Rattle.pool_history.specs.declared.events.Event.TheVariants as event
use Rattle.pool_history.specs.Channels.{channel_moves, channels_of, opened}
use Rattle.pool_history.specs.Crediting.{bookings_of, headers}
use Rattle.pool_history.specs.Jobs.{jobs_of}
use Rattle.pool_history.specs.Refusing.{grant_of, is_spent}
use Rattle.pool_history.specs.Sessions.{enters, entrance, grants, opens, past_of, present, rules_of, script_of}
use Rattle.history_laws.specs.OneMore.{ChannelsOneMore, CountsOneMore, CreditsOneMore, EntrancesOneMore, GrantsOneMore, HeadersOneMore, JobsOneMore, PresentOneMore, RulesOneMore, SpendingOneMore, booked_after, channels_after, counts_after, counts_of, entrance_after, grant_after, headers_after, jobs_after, present_after, rules_after, spent_after}
use Rattle.history_laws.proofs.Legalities.{past-one}

-- the length of a past
pub past-length : (h : List Event) (at : ℕ) → length h ≡ at → length (past_of h) ≡ at
past-length h at is = length-reverse h ∙ is

-- the rules
pub rules-cons : (e : Event) (past : List Event) → rules_of (e ∷ past) ≡ rules_after (length past) e (rules_of past)
rules-cons (event.Start rules) [] = refl
rules-cons (event.Start rules) (x ∷ older) =
    sym (ap (λ b. cond b (Some rules) (rules_of (x ∷ older))) (ne_eqb (length (x ∷ older)) 0 (λ none. omega (arith, none))))
rules-cons e [] = refl
rules-cons e (x ∷ older) = refl

pub rules-one_more : RulesOneMore
rules-one_more h e seen at is long =
    ap rules_of (past-one h e) ∙ rules-cons e (past_of h) ∙ ap (λ n. rules_after n e (rules_of (past_of h))) (past-length h at long) ∙ ap (rules_after at e) is

-- the counts
pub counts-cons : (e : Event) (past : List Event) → counts_of (e ∷ past) ≡ counts_after e (counts_of past)
counts-cons (event.Enter worker role flags) past = refl
counts-cons (event.Open session kind account class lead) past = refl
counts-cons (event.Template session template) past = refl
counts-cons (event.Credit session channel job nonce ntime version extranonce) past = refl
counts-cons (event.Grant session account fixed path) past = refl
counts-cons e past = refl

pub counts-one_more : CountsOneMore
counts-one_more h e seen is = ap counts_of (past-one h e) ∙ counts-cons e (past_of h) ∙ ap (counts_after e) is

-- sessions
pub present-cons : (e : Event) (past : List Event) (worker : ℕ) → present (e ∷ past) worker ≡ present_after e (enters past) worker (present past worker)
present-cons (event.Enter entering role flags) past worker = refl
present-cons (event.Leave session) past worker = refl
present-cons e past worker = refl

pub present-one_more : PresentOneMore
present-one_more h e entered worker seen many is =
    ap (λ p. present p worker) (past-one h e) ∙ present-cons e (past_of h) worker
    ∙ ap (λ n. present_after e n worker (present (past_of h) worker)) many ∙ ap (present_after e entered worker) is

pub entrance-cons : (e : Event) (past : List Event) (session : ℕ) → entrance (e ∷ past) session ≡ entrance_after e (enters past) session (entrance past session)
entrance-cons (event.Enter worker role flags) past session = refl
entrance-cons e past session = refl

pub entrances-one_more : EntrancesOneMore
entrances-one_more h e entered session seen many is =
    ap (λ p. entrance p session) (past-one h e) ∙ entrance-cons e (past_of h) session
    ∙ ap (λ n. entrance_after e n session (entrance (past_of h) session)) many ∙ ap (entrance_after e entered session) is

-- jobs
pub jobs-cons : (e : Event) (past : List Event) → jobs_of (e ∷ past) ≡ jobs_after (length past) e (jobs_of past)
jobs-cons (event.Template session template) past = refl
jobs-cons (event.Tip session tip) past = refl
jobs-cons (event.Custom session custom) past = refl
jobs-cons e past = refl

pub jobs-one_more : JobsOneMore
jobs-one_more h e seen at is long =
    ap jobs_of (past-one h e) ∙ jobs-cons e (past_of h) ∙ ap (λ n. jobs_after n e (jobs_of (past_of h))) (past-length h at long) ∙ ap (jobs_after at e) is

-- channels
pub opened-opens : (past : List Event) → opened (channel_moves past) ≡ opens past
opened-opens [] = refl
opened-opens (event.Open session kind account class lead ∷ older) = ap (λ n. n + 1) (opened-opens older)
opened-opens (event.Name session channel account ∷ older) = opened-opens older
opened-opens (event.Class session channel class ∷ older) = opened-opens older
opened-opens (event.Close session channel ∷ older) = opened-opens older
opened-opens (event.Leave session ∷ older) = opened-opens older
opened-opens (e ∷ older) = opened-opens older

pub channels-cons : (e : Event) (past : List Event) → channels_of (e ∷ past) ≡ channels_after (length past) (opens past) e (channels_of past)
channels-cons (event.Open session kind account class lead) past =
    ap (λ n. channels_of past ++ record { id = n + 1; session = session; kind = kind; account = account; lead = lead; opening_class = class; sets = [] } ∷ [])
    (opened-opens past)
channels-cons (event.Name session channel account) past = refl
channels-cons (event.Class session channel class) past = refl
channels-cons (event.Close session channel) past = refl
channels-cons (event.Leave session) past = refl
channels-cons e past = refl

pub channels-one_more : ChannelsOneMore
channels-one_more h e seen at count is long many =
    ap channels_of (past-one h e) ∙ channels-cons e (past_of h)
    ∙ ap (λ n. channels_after n (opens (past_of h)) e (channels_of (past_of h))) (past-length h at long)
    ∙ ap (λ n. channels_after at n e (channels_of (past_of h))) many ∙ ap (channels_after at count e) is

-- headers
pub headers-cons : (e : Event) (past : List Event) → headers (e ∷ past) ≡ headers_after (script_of past) (jobs_of past) (channels_of past) e (headers past)
headers-cons (event.Credit session channel job nonce ntime version extranonce) past = refl
headers-cons e past = refl

pub headers-one_more : HeadersOneMore
headers-one_more h e script standing channels seen s is =
    ap headers (past-one h e) ∙ headers-cons e (past_of h)
    ∙ ap (λ x. headers_after x (jobs_of (past_of h)) (channels_of (past_of h)) e (headers (past_of h))) s.script_is
    ∙ ap (λ x. headers_after script x (channels_of (past_of h)) e (headers (past_of h))) s.jobs_are
    ∙ ap (λ x. headers_after script standing x e (headers (past_of h))) s.channels_are
    ∙ ap (headers_after script standing channels e) is

-- credits
pub booked-cons : (e : Event) (past : List Event) → bookings_of (e ∷ past) ≡ booked_after (script_of past) (jobs_of past) (channels_of past) e (bookings_of past)
booked-cons (event.Credit session channel job nonce ntime version extranonce) past = refl
booked-cons e past = refl

pub credits-one_more : CreditsOneMore
credits-one_more h e script standing channels seen s is =
    ap bookings_of (past-one h e) ∙ booked-cons e (past_of h)
    ∙ ap (λ x. booked_after x (jobs_of (past_of h)) (channels_of (past_of h)) e (bookings_of (past_of h))) s.script_is
    ∙ ap (λ x. booked_after script x (channels_of (past_of h)) e (bookings_of (past_of h))) s.jobs_are
    ∙ ap (λ x. booked_after script standing x e (bookings_of (past_of h))) s.channels_are
    ∙ ap (booked_after script standing channels e) is

-- grants
pub grant-cons : (e : Event) (past : List Event) (token : List ℕ) → grant_of (e ∷ past) token ≡ grant_after e (grants past) token (grant_of past token)
grant-cons (event.Grant session account fixed path) past token = refl
grant-cons e past token = refl

pub grants-one_more : GrantsOneMore
grants-one_more h e granted token seen many is =
    ap (λ p. grant_of p token) (past-one h e) ∙ grant-cons e (past_of h) token
    ∙ ap (λ n. grant_after e n token (grant_of (past_of h) token)) many ∙ ap (grant_after e granted token) is

pub spent-cons : (e : Event) (past : List Event) (token : List ℕ) → is_spent (e ∷ past) token ≡ spent_after e token (is_spent past token)
spent-cons (event.Custom session custom) past token = refl
spent-cons e past token = refl

pub spending-one_more : SpendingOneMore
spending-one_more h e token seen is = ap (λ p. is_spent p token) (past-one h e) ∙ spent-cons e (past_of h) token ∙ ap (spent_after e token) is
