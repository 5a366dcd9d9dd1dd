-- A proxy may go to another thread. Its miners' ids hold JSON, a type that holds itself.
use denote.RattleType.{RattleType}
use denote.Hole.FixLaws.{layer_row}
use denote.Hole.FixSend.{fix_send}
use denote.Hole.Layer.{enum_layer}
use denote.Param.Send.{IsSend, sendable, view_send}
use denote.Param.SendFields.{VariantsHave, declared_send, variants_send}
use Rattle.std.proofs.Crossing.{crosses}
use Rattle.std.proofs.MapsCrossing as maps
use Rattle.serde_json.specs.contracts.value.Value as Value
use Rattle.serde_json.specs.declared.value.Value.TheBlock.{the_members, member-Value}
use Rattle.proxy_rules.specs.contracts.events.ProxyEvent as ProxyEvent
use Rattle.v1_translate.specs.contracts.ids.LineId as LineId
use Rattle.v1_translate.specs.contracts.ids.LineId.TheInside as IdInside
use Rattle.v1_translate.specs.contracts.session.V1Session as V1Session
use Rattle.proxy_core.specs.contracts.miners.Miner as Miner
use Rattle.proxy_core.specs.contracts.relay.Relay as Relay
use Rattle.proxy_core.specs.contracts.proxy.Proxy as Proxy

variants_of : (h : the_members → RattleType) → ((j : the_members) → IsSend (h j))
    → VariantsHave IsSend (Value.the_layer h).parts
variants_of h all =
    let member = all member-Value in (
      tt,
      (
        (search sendable, tt),
        (
          (search sendable depth 30, tt),
          (
            (search (maps.crosses, sendable) depth 30, tt),
            ((search (crosses, sendable) depth 30, tt), ((search (maps.crosses, sendable) depth 30, tt), tt)),
          ),
        ),
      ),
    )

layer_send : (i : the_members) (h : the_members → RattleType) → ((j : the_members) → IsSend (h j))
    → IsSend (layer_row Value.the_ring i h)
layer_send member-Value h all =
    let T = Value.the_layer h in
    variants_send (enum_layer T.name T.args T.types T.parts) (variants_of h all)

hole_send : IsSend Value.the_hole
hole_send = fix_send Value.the_ring (λ i. record { send = layer_send i }) member-Value

value_send : IsSend Value.the_row
value_send = search (hole_send, maps.crosses, crosses, sendable) depth 60 fits 20000

event_send : IsSend ProxyEvent.the_row
event_send = search (sendable, crosses) depth 60 fits 20000

id_inside_send : IsSend IdInside.the_row
id_inside_send = declared_send IdInside.the_type (value_send, tt)

id_send : IsSend LineId.the_row
id_send = view_send IdInside.the_row _ _ _ _ id_inside_send

session_send : IsSend V1Session.the_row
session_send = search (sendable, crosses, id_send) depth 60 fits 20000

miner_send : IsSend Miner.the_row
miner_send = search (sendable, crosses, session_send) depth 60 fits 20000

relay_send : IsSend Relay.the_row
relay_send = search (sendable, crosses, id_send, miner_send) depth 60 fits 20000

pub proxy_send : IsSend Proxy.the_row
proxy_send = search (sendable, crosses, event_send, relay_send) depth 60 fits 20000
