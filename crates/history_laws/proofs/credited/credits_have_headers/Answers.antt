use Rattle.history_laws.proofs.CreditedHeaders.{credits-have_headers}
use Rattle.history_laws.proofs.credited.credits_have_headers.Goals as goal

pub returns : goal.returns
returns c = credits-have_headers
