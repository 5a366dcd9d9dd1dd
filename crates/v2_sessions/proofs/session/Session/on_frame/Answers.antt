use Rattle.std.proofs.Common.{◌∙◌, sym}
use Rattle.sv2_messages.specs.Tables.{declare_table, mining_table, template_table}
use Rattle.v2_sessions.specs.Frames.{frame_value}
use Rattle.v2_sessions.proofs.Reading.{if_met_by, table_of_feeds, table_of_others, table_of_tokens, taken_by_kind}
use Rattle.v2_sessions.proofs.session.Session.on_frame.Goals as goal

pub returns-then-is_feeds_kind-clause-ok : goal.returns-then-is_feeds_kind-clause-ok
returns-then-is_feeds_kind-clause-ok c =
    if_met_by template_table c.args.self.now _ (frame_value c.args.frame.now) c.on_template.result
    (table_of_feeds c.args.frame.now.kind (sym c.if-is_feeds_kind.ensures)) (sym c.if-not-takes.ensures) c.on_template.ensures.ok

pub returns-then-kind-eq-ALLOCATE_MINING_JOB_TOKEN-clause-ok : goal.returns-then-kind-eq-ALLOCATE_MINING_JOB_TOKEN-clause-ok
returns-then-kind-eq-ALLOCATE_MINING_JOB_TOKEN-clause-ok c =
    if_met_by declare_table c.args.self.now _ (frame_value c.args.frame.now) c.on_declare.result
    (table_of_tokens c.args.frame.now.kind c.if-kind-eq-ALLOCATE_MINING_JOB_TOKEN.true) (sym c.if-not-takes.ensures) c.on_declare.ensures.ok

pub returns-else-kind-eq-ALLOCATE_MINING_JOB_TOKEN-clause-ok : goal.returns-else-kind-eq-ALLOCATE_MINING_JOB_TOKEN-clause-ok
returns-else-kind-eq-ALLOCATE_MINING_JOB_TOKEN-clause-ok c =
    if_met_by mining_table c.args.self.now _ (frame_value c.args.frame.now) c.on_mining.result
    (table_of_others c.args.frame.now.kind (sym c.is_declared_kind.ensures ∙ c.if-is_declared_kind.false) (sym c.is_feeds_kind.ensures ∙ c.if-is_feeds_kind.false) c.if-kind-eq-ALLOCATE_MINING_JOB_TOKEN.false) (sym c.if-not-takes.ensures) c.on_mining.ensures.ok

pub on_template-requires : goal.on_template-requires
on_template-requires c =
    taken_by_kind c.args.self.now (frame_value c.args.frame.now) (sym c.is_declared_kind.ensures ∙ c.if-is_declared_kind.false) (sym c.if-not-takes.ensures)

pub on_declare-requires : goal.on_declare-requires
on_declare-requires c =
    taken_by_kind c.args.self.now (frame_value c.args.frame.now) (sym c.is_declared_kind.ensures ∙ c.if-is_declared_kind.false) (sym c.if-not-takes.ensures)

pub on_mining-requires : goal.on_mining-requires
on_mining-requires c =
    taken_by_kind c.args.self.now (frame_value c.args.frame.now) (sym c.is_declared_kind.ensures ∙ c.if-is_declared_kind.false) (sym c.if-not-takes.ensures)
