use Rattle.job_declaration.proofs.Granted.{given_were_granted}
use Rattle.job_declaration.proofs.rule_laws.given_tokens_were_granted.Goals as goal

pub returns : goal.returns
returns c = given_were_granted
