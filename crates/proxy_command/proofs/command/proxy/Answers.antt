use Rattle.proxy_command.proofs.Causes.{row_of}
use Rattle.proxy_command.proofs.command.proxy.Goals as goal

pub returns-clause-row : goal.returns-clause-row
returns-clause-row g c = row_of _ _ _ c.proxy_on_network-reached.result c.finish.result c.proxy_on_network-reached.ensures.proxies c.finish.ensures.row
