use Rattle.std.proofs.Common.{rules, ◌≡◌, [], ◌∷◌, ◌++◌, ap, ◌∙◌, subst, append_assoc}
use Rattle.std.specs.List.{AllByRecursion}
use Rattle.desk.specs.Closing.{IsJoined}
use Rattle.desk.proofs.Joined.{all-last, joined-more, joined-one}
use Rattle.desk.proofs.Kept.{looks}
use Rattle.desk.proofs.Shared.{joins}
use Rattle.desk.proofs.close.join_all.Goals as goal

pub loop-pass-init : goal.loop-pass-init
loop-pass-init g c =
    let tables = all-last (λ pass. pass.table ≡ c.args.board.now.table_id) c.pop-popped.new.self.items c.in-Some.pass
    (subst (λ l. AllByRecursion (λ pass. pass.table ≡ c.args.board.now.table_id) l) c.in-Some.ensures.items c.requires.tables) in
    record {
      table = ap (λ p. p.table) c.pass.view_is ∙ tables.1;
      joined = (
        c.in-Some.pass ∷ [],
        c.in-Some.ensures.items,
        subst (λ p. IsJoined (p ∷ []) c.pass.inside.seat.me) c.pass.view_is (joined-one c.pass.inside.worker c.pass.inside.seat.table_id c.pass.inside.seat.me c.pass.invariant),
      );
      tables = tables.0;
    }

pub join_seat-requires : goal.join_seat-requires
join_seat-requires g c =
    let tables = all-last (λ pass. pass.table ≡ c.args.board.now.table_id) c.pop.new.self.items c.in-Some-pop.pass
    (subst (λ l. AllByRecursion (λ pass. pass.table ≡ c.args.board.now.table_id) l) c.in-Some-pop.ensures.items c.loop-pass.invariant.tables) in (
      c.loop-pass.invariant.table,
      ap (λ p. p.table) c.pass-in-Some-pop.view_is ∙ tables.1,
      c.pass-in-Some-pop.invariant.carried,
      search rules,
      joins g.M.Machine.answers g.M.Machine.wants_memory g.M.Machine.events g.M.Machine.health _ _ c.loop-pass.seat.id c.loop-pass.seat.me.0 _ c.pass-in-Some-pop.inside.seat.me.0
          c.loop-pass.invariant.joined.2.turn c.pass-in-Some-pop.invariant.turn,
    )

pub load-requires : goal.load-requires
load-requires g c = (
  search rules,
  search rules,
  looks g.M.Machine.answers g.M.Machine.wants_memory g.M.Machine.events g.M.Machine.health _ _ _ c.join_seat.new.seat.id c.join_seat.new.seat.me
      (ap (λ m. m.0.has_turn) c.join_seat.ensures.2 ∙ c.loop-pass.invariant.joined.2.turn),
)

pub loop-pass-preserved : goal.loop-pass-preserved
loop-pass-preserved g c =
    let tables = all-last (λ pass. pass.table ≡ c.args.board.now.table_id) c.pop.new.self.items c.in-Some-pop.pass
    (subst (λ l. AllByRecursion (λ pass. pass.table ≡ c.args.board.now.table_id) l) c.in-Some-pop.ensures.items c.loop-pass.invariant.tables) in
    let done = c.loop-pass.invariant.joined.0 in
    let other = c.pass-in-Some-pop in
    record {
      table = c.load.ensures.0 ∙ c.join_seat.ensures.0 ∙ c.loop-pass.invariant.table;
      joined = (
        c.in-Some-pop.pass ∷ done,
        c.loop-pass.invariant.joined.1 ∙ ap (λ l. l ++ done) c.in-Some-pop.ensures.items ∙ append_assoc c.pop.new.self.items (c.in-Some-pop.pass ∷ []) done,
        subst (λ p. IsJoined (p ∷ done) c.load.new.seat.me) other.view_is
            (joined-more done c.loop-pass.seat.me other.inside.seat.me c.join_seat.new.seat.me c.load.new.seat.me other.inside.worker other.inside.seat.table_id _
            c.loop-pass.invariant.joined.2 other.invariant c.join_seat.ensures.2 c.load.ensures.2),
      );
      tables = tables.0;
    }
