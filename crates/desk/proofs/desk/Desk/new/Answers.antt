use Rattle.std.proofs.Common.{rules, ◌∷◌, [], None, sym, subst}
use Rattle.atomic_table.specs.Table.{opening}
use Rattle.desk.specs.Rule.{IsOneHistory}
use Rattle.desk.specs.Views.{fresh_view, workers_from}
use Rattle.desk.proofs.Dealt.{just-opened}
use Rattle.desk.proofs.Shared.{opens}
use Rattle.desk.proofs.desk.Desk.new.Goals as goal

pub new-requires : goal.new-requires
new-requires g c =
    subst (λ l. IsOneHistory g.M.Machine.answers g.M.Machine.wants_memory g.M.Machine.events g.M.Machine.health c.of.result.value c.args.count
    (opening (0 ∷ []) l (fresh_view (g.M.Machine.events c.of.result.value) (workers_from 0 c.args.count)))) (sym c.in-Ok-slots_of.ensures)
    (opens g.M.Machine.answers g.M.Machine.wants_memory g.M.Machine.events g.M.Machine.health c.of.result.value c.args.count
    (record { machine = c.args.machine; note = None }) (sym c.of.ensures))

pub returns-in-Ok-new : goal.returns-in-Ok-new
returns-in-Ok-new g c = just-opened g.M.Machine.events c.args.machine c.args.count _ c.deal-passes.result.items (search rules) (search rules) (search rules)
