-- What the upstream says of submissions, and who is answered.
use Rattle.std.specs.Prelude.{◌≡◌, ◌==◌, Bool, true, not, List, nat_le}
use Rattle.std.specs.List.{filter}
use Rattle.serde_json.specs.Data.{Data}
use Rattle.v1_translate.specs.Lines.{yes}
use Rattle.v1_translate.specs.State.{Saying, Answer, CodeRefusal}
use Rattle.proxy_core.specs.declared.waiting.Verdict.{Verdict}
use Rattle.proxy_core.specs.declared.waiting.Verdict.TheVariants as verdict
use Rattle.proxy_rules.specs.declared.refusals.ProxyRefusal.TheVariants.{UpstreamLost}
use Rattle.proxy_rules.specs.Refusals.{code_of}
use Rattle.proxy_rules.specs.State.{Miner, SentOn}
use Rattle.proxy_rules.specs.Steps.{said_each}

abbrev pub is_about : Verdict → SentOn → Bool
is_about (verdict.UpTo number) sent = nat_le sent.number number
is_about (verdict.Refused number code) sent = sent.number == number
is_about verdict.Lost sent = true

abbrev pub said_by : Verdict → Data → Saying
said_by (verdict.UpTo number) id = Answer id yes
said_by (verdict.Refused number code) id = CodeRefusal id code.now
said_by verdict.Lost id = CodeRefusal id (code_of UpstreamLost)

-- those that it is about are answered, the others are left
pub record AnswersThose (verdict : Verdict) (waiting : List SentOn) (miners : List Miner)
    (waiting' : List SentOn) (miners' : List Miner) : Type 0 where
  pub rest : waiting' ≡ filter (λ sent. not (is_about verdict sent)) waiting
  pub said : miners' ≡ said_each (said_by verdict) (filter (is_about verdict) waiting) miners
