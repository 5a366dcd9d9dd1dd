use Rattle.std.proofs.Common.{suc, cond, None, Some, ◌||◌, ap, sym, ◌∙◌}
use Rattle.std.specs.Prelude.{nat_eq}
use Rattle.indexmap.specs.IndexMap.{get}
use Rattle.prefix_space.specs.Paths.{node_key}
use Rattle.prefix_space.specs.Rows.{all_bytes, any_byte}
use Rattle.prefix_space.specs.Trees.{bit, nodes_of}
use Rattle.prefix_space.proofs.Climbing.{none-told, renewed-gone, renewed-kept}
use Rattle.prefix_space.proofs.tree.renew.Goals as goal

pub returns-then-not-stays-clause-renewed : goal.returns-then-not-stays-clause-renewed
returns-then-not-stays-clause-renewed g c prefix =
    renewed-gone c.args.path c.args.byte c.args.marks _ (nodes_of c.args.nodes.now) (nodes_of c.swap_remove-gone.new.self) c.in-Some.node.now c.marked-node.result prefix
    (sym (c.in-Some.ensures.value ∙ ap (get nat_eq c.args.nodes.now) c.key.ensures)) c.marked-node.ensures
    (λ q.
    c.swap_remove-gone.ensures.updates.0 (node_key q)
    ∙ ap (λ k. cond (nat_eq k (node_key q)) None (get nat_eq c.args.nodes.now (node_key q))) c.key-then-not-stays.ensures)
    (ap (λ n. nat_eq n 0 || any_byte (bit c.marked-node.result n)) (sym c.len.ensures.value) ∙ sym c.stays.ensures ∙ c.if-not-stays.true)
    none-told

pub returns-clause-renewed : goal.returns-clause-renewed
returns-clause-renewed g c prefix =
    renewed-kept c.args.path c.args.byte c.args.marks c.marks.result (nodes_of c.args.nodes.now) (nodes_of c.put_node.new.nodes) c.in-Some.node.now c.marked-node.result prefix
    (sym (c.in-Some.ensures.value ∙ ap (get nat_eq c.args.nodes.now) c.key.ensures)) c.marked-node.ensures
    (λ q.
    c.put_node.ensures.nodes (node_key q)
    ∙ ap (λ k. cond (nat_eq k (node_key q)) (Some c.marked-node.result) (get nat_eq c.args.nodes.now (node_key q))) c.key-2.ensures)
    (ap (λ n. nat_eq n 0 || any_byte (bit c.marked-node.result n)) (sym c.len.ensures.value) ∙ sym c.stays.ensures ∙ c.if-not-stays.false)
    (λ at within. c.marks.ensures at within ∙ ap (λ n. nat_eq (suc at) n || all_bytes (bit c.marked-node.result at)) c.len-2.ensures.value)
