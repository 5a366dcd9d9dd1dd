-- Submissions that went upstream: how many, and those that wait.
use Rattle.std.specs.Prelude.{◌≡◌, ℕ, ◌+◌, ◌≤◌, ◌==◌, Bool, true, false, not, Option, List, [], ◌∷◌, refl}
use Rattle.std.specs.List.{filter}
use Rattle.std.specs.Option.{option_to_list}
use Rattle.std.specs.Coded.{Coded, code_by, coded×, coded_list, coded_ℕ}
use Rattle.proxy_core.specs.Codes.{sent_code}
use Rattle.proxy_core.specs.Verdicts.{AnswersThose, is_about}
use Rattle.proxy_core.specs.declared.waiting.Verdict.{Verdict}
use Rattle.proxy_core.specs.declared.waiting.Verdict.TheVariants as verdict
use Rattle.proxy_rules.specs.State.{Miner, SentOn}

pub record SharesSent : Type 0 where
  pub count : ℕ
  -- the oldest first
  pub waiting : List SentOn

abbrev pub shares_code : Coded SharesSent
shares_code =
    code_by (ℕ × List SentOn) (coded× coded_ℕ (coded_list sent_code))
    (λ s. (s.count, s.waiting)) (λ p. record { count = p.0; waiting = p.1 }) (λ _. refl)

-- each number is greater than that before it, from one on, and lower than another
abbrev pub AreRising : ℕ → List SentOn → ℕ → Type 0
AreRising least [] next = least ≤ next
AreRising least (sent ∷ more) next =
    (least ≤ sent.number) × AreRising (sent.number + 1) more next

-- what rose still does
abbrev pub StayRising : List SentOn → List SentOn → Type 0
StayRising old new = (next : ℕ) → AreRising 0 old next → AreRising 0 new next

-- ---- what a verdict is about, where they rise

abbrev pub is_about_first : Verdict → List SentOn → Bool
is_about_first verdict [] = false
is_about_first verdict (sent ∷ more) = is_about verdict sent

-- of the first ones alone
abbrev pub is_of_first : Verdict → Bool
is_of_first (verdict.UpTo number) = true
is_of_first (verdict.Refused number code) = false
is_of_first verdict.Lost = true

-- of one
abbrev pub IsOfNumber : ℕ → Verdict → Type 0
IsOfNumber number verdict = (sent : SentOn) → is_about verdict sent ≡ (sent.number == number)

abbrev pub AnswersRising : Verdict → List SentOn → List Miner → List SentOn → List Miner → Type 0
AnswersRising verdict waiting miners waiting' miners' =
    (next : ℕ) → AreRising 0 waiting next → AnswersThose verdict waiting miners waiting' miners'

pub record HasTaken (number : ℕ) (old : List SentOn) (result : Option SentOn)
    (new : List SentOn) : Type 0 where
  pub taken : option_to_list result ≡ filter (λ sent. sent.number == number) old
  pub rest : new ≡ filter (λ sent. not (sent.number == number)) old

abbrev pub TakesNumber : ℕ → List SentOn → Option SentOn → List SentOn → Type 0
TakesNumber number old result new =
    (next : ℕ) → AreRising 0 old next → HasTaken number old result new
