use Rattle.std.proofs.Common.{ap, Err}
use Rattle.pool_settings.proofs.opening.settings_from.Goals as goal

pub returns-in-Err-Bad : goal.returns-in-Err-Bad
returns-in-Err-Bad c =
    rw c.in-Ok.is (λ settings are. c.in-Err-Bad.ensures.bad (ap Err c.in-Err-Bad.field-0-is) settings (rw c.bytes.ensures are))
