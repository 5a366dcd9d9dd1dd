use Rattle.std.proofs.Common.{[], refl}
use Rattle.pool_io.specs.declared.host.HostError.TheVariants as host
use Rattle.peer_commands.specs.declared.serving.Fed.TheVariants as fed
use Rattle.peer_commands.proofs.feeding.feed_script.Goals as goal

pub returns-in_default-clause-row : goal.returns-in_default-clause-row
returns-in_default-clause-row g c =
    (fed.NoDoor host.Memory, [], record { stays = refl; calls = refl; counts = refl }, (refl, refl))
