use Rattle.std.proofs.Common.{rules, ◌≡◌, ℕ, ◌+◌, ◌-◌, ◌<◌, ◌++◌, ◌∷◌, [], ap, ◌∙◌, arith}
use Rattle.desk.specs.Passes.{fresh_passes, progress_of}
use Rattle.desk.specs.Views.{workers_from}
use Rattle.desk.proofs.Dealt.{deals-next, deals-rest, fresh-rests, last-pass, one-pass-more}
use Rattle.desk.proofs.Shared.{deals}
use Rattle.desk.proofs.open.deal.Goals as goal

pub split_seat-next-requires : goal.split_seat-next-requires
split_seat-next-requires g c = (
  search rules,
  search rules,
  deals g.M.Machine.answers g.M.Machine.wants_memory g.M.Machine.events g.M.Machine.health _ _ c.loop-worker.seat.id c.loop-worker.seat.me.0
      (ap (λ m. m.0.calls) c.loop-worker.invariant.me) (ap (λ m. m.0.has_turn) c.loop-worker.invariant.me),
)

pub invariant_of-push_reserved : goal.invariant_of-push_reserved
invariant_of-push_reserved g c =
    fresh-rests c.loop-worker.worker c.args.seat.me.0.seen c.split_seat-next.result.me
    (deals-next c.loop-worker.worker c.args.count c.args.seat.me.0.seen c.loop-worker.seat.me c.split_seat-next.result.me (omega (arith, c.loop-worker-test.true)) c.loop-worker.invariant.me c.split_seat-next.ensures.4)

pub loop-worker-preserved : goal.loop-worker-preserved
loop-worker-preserved g c =
    let kept = c.loop-worker.invariant in
    let less : c.loop-worker.worker < c.args.count = omega (arith, c.loop-worker-test.true) in record {
      table = c.split_seat-next.ensures.0 ∙ kept.table;
      me = deals-rest c.loop-worker.worker c.args.count c.args.seat.me.0.seen c.loop-worker.seat.me c.split_seat-next.new.seat.me less kept.me c.split_seat-next.ensures.2;
      passes_are = c.push_reserved.ensures.items
          ∙ ap (λ l. l ++ progress_of c.loop-worker.worker c.split_seat-next.result.table_id c.split_seat-next.result.me.0 ∷ []) kept.passes_are
          ∙ one-pass-more c.args.board.now.table_id c.split_seat-next.result.table_id c.args.seat.me.0.seen c.loop-worker.worker c.split_seat-next.result.me.0
          (c.split_seat-next.ensures.3 ∙ kept.table)
          (ap (λ m. m.0) (deals-next c.loop-worker.worker c.args.count c.args.seat.me.0.seen c.loop-worker.seat.me c.split_seat-next.result.me less kept.me c.split_seat-next.ensures.4));
      long = omega (arith, c.push_reserved.ensures.len, kept.long);
      room = omega (arith, c.push_reserved.ensures.capacity, kept.room);
    }

pub invariant_of-push_reserved-2 : goal.invariant_of-push_reserved-2
invariant_of-push_reserved-2 g c =
    fresh-rests (c.args.count - 1) c.args.seat.me.0.seen c.loop-worker.seat.me
    (last-pass c.loop-worker.worker c.args.count c.args.seat.me.0.seen c.loop-worker.seat.me (omega arith) (omega arith) c.loop-worker.invariant.me)

pub returns : goal.returns
returns g c =
    let kept = c.loop-worker.invariant in
    let k : c.loop-worker.worker ≡ c.args.count - 1 = omega arith in
    let n : c.args.count - 1 + 1 ≡ c.args.count = omega arith in
    c.push_reserved-2.ensures.items
    ∙ ap (λ l. l ++ progress_of (c.args.count - 1) c.loop-worker.seat.table_id c.loop-worker.seat.me.0 ∷ []) (kept.passes_are ∙ ap (λ (w : ℕ). fresh_passes c.args.board.now.table_id c.args.seat.me.0.seen (workers_from 0 w)) k)
    ∙ one-pass-more c.args.board.now.table_id c.loop-worker.seat.table_id c.args.seat.me.0.seen (c.args.count - 1) c.loop-worker.seat.me.0 kept.table
    (ap (λ m. m.0) (last-pass c.loop-worker.worker c.args.count c.args.seat.me.0.seen c.loop-worker.seat.me (omega arith) (omega arith) kept.me))
    ∙ ap (λ (w : ℕ). fresh_passes c.args.board.now.table_id c.args.seat.me.0.seen (workers_from 0 w)) n
