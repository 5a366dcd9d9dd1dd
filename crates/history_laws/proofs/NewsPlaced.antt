-- News by places, and that they go on.
use Rattle.std.proofs.Common.{◌≡◌, ℕ, ◌+◌, ◌<◌, ◌≤◌, Bool, true, false, cond, List, [], ◌∷◌, ◌++◌, length, refl, ap, subst, sym, ◌∙◌, arith, append_assoc}
use Rattle.std.proofs.lemmas.Bool.{le-leb, leb-false, leb-true}
use Rattle.std.proofs.lemmas.List.{append-nil, length-append, length-reverse}
use Rattle.std.specs.Prelude.{nat_le}
use Rattle.pool_history.specs.declared.events.Event.{Event}
use Rattle.pool_history.specs.declared.telling.Note.{Note}
use Rattle.pool_history.specs.News.{news, owed_notes}
use Rattle.pool_history.specs.Sessions.{past_of, rules_of}
use Rattle.history_laws.specs.News.{NewsByPlaces, NewsGoOn, owed_at, owed_from}
use Rattle.history_laws.proofs.Legalities.{past-append, past-one}

leb-not : (a b : ℕ) → b < a → nat_le a b ≡ false
leb-not a b less = by (nat_le a b) refl where
  by : (c : Bool) → nat_le a b ≡ c → nat_le a b ≡ false
  by true t = let most : a ≤ b = leb-true a b t in absurd (omega (arith, most, less))
  by false f = f

-- nothing is owed from the end on
news-past : (from : ℕ) (past : List Event) (session : ℕ) → length past ≤ from → news from past session ≡ []
news-past from [] session few = refl
news-past from (e ∷ older) session few =
    ap (λ b. cond b (news from older session ++ owed_notes (rules_of (e ∷ older)) e older session) []) (leb-not from (length older) (omega (arith, few)))

-- one event more
news-more : (from : ℕ) (e : Event) (older : List Event) (session : ℕ) → from ≤ length older
    → news from (e ∷ older) session ≡ news from older session ++ owed_notes (rules_of (e ∷ older)) e older session
news-more from e older session few =
    ap (λ b. cond b (news from older session ++ owed_notes (rules_of (e ∷ older)) e older session) []) (le-leb from (length older) few)

news-on : (from : ℕ) (later older : List Event) (session : ℕ) → from ≤ length older
    → news from (later ++ older) session ≡ news from older session ++ news (length older) (later ++ older) session
news-on from [] older session few =
    sym (append-nil (news from older session)) ∙ ap (λ l. news from older session ++ l) (sym (news-past (length older) older session (omega arith)))
news-on from (e ∷ later) older session few =
    let rest : List Event = later ++ older in
    let long : length rest ≡ length later + length older = length-append later older in
    let own : List Note = owed_notes (rules_of (e ∷ rest)) e rest session in
    news-more from e rest session (omega (arith, few, long))
    ∙ ap (λ l. l ++ own) (news-on from later older session few)
    ∙ append_assoc (news from older session) (news (length older) rest session) own
    ∙ ap (λ l. news from older session ++ l) (sym (news-more (length older) e rest session (omega (arith, long))))

pub news-go_on : NewsGoOn
news-go_on history more from session few =
    let long : length (past_of history) ≡ length history = length-reverse history in
    ap (λ past. news from past session) (past-append history more)
    ∙ news-on from (past_of more) (past_of history) session (subst (λ n. from ≤ n) (sym long) few)
    ∙ ap (λ n. news from (past_of history) session ++ news n (past_of more ++ past_of history) session) long
    ∙ ap (λ past. news from (past_of history) session ++ news (length history) past session) (sym (past-append history more))

-- the news of events behind others
step : (from : ℕ) (before : List Event) (e : Event) (session : ℕ) (b : Bool) → nat_le from (length before) ≡ b
    → news from (past_of (before ++ e ∷ [])) session ≡ news from (past_of before) session ++ cond b (owed_at before e session) []
step from before e session true t =
    let long : length (past_of before) ≡ length before = length-reverse before in
    let few : from ≤ length before = leb-true from (length before) t in
    ap (λ past. news from past session) (past-one before e)
    ∙ news-more from e (past_of before) session (subst (λ n. from ≤ n) (sym long) few)
step from before e session false f =
    let long : length (past_of before) ≡ length before = length-reverse before in
    let more : length before < from = leb-false from (length before) f in
    ap (λ past. news from past session) (past-one before e)
    ∙ news-past from (e ∷ past_of before) session (omega (arith, long, more))
    ∙ sym (append-nil [] ∙ refl) ∙ ap (λ l. l ++ []) (sym (news-past from (past_of before) session (omega (arith, long, more))))

news-behind : (from : ℕ) (before more : List Event) (session : ℕ)
    → news from (past_of (before ++ more)) session ≡ news from (past_of before) session ++ owed_from from before more session
news-behind from before [] session =
    ap (λ h. news from (past_of h) session) (append-nil before) ∙ sym (append-nil (news from (past_of before) session))
news-behind from before (e ∷ more) session =
    let own : List Note = cond (nat_le from (length before)) (owed_at before e session) [] in
    ap (λ h. news from (past_of h) session) (sym (append_assoc before (e ∷ []) more))
    ∙ news-behind from (before ++ e ∷ []) more session
    ∙ ap (λ l. l ++ owed_from from (before ++ e ∷ []) more session) (step from before e session (nat_le from (length before)) refl)
    ∙ append_assoc (news from (past_of before) session) own (owed_from from (before ++ e ∷ []) more session)

pub news-placed : NewsByPlaces
news-placed history from session = news-behind from [] history session
