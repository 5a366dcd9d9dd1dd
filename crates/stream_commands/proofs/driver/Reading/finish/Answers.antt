use Rattle.std.proofs.Common.{ℕ, List, ◌++◌, Option, append-nil, refl}
use Rattle.pool_io.specs.Steps.{ReadStep, bytes_in}
use Rattle.stream_commands.specs.Between.{HasAnswered}
use Rattle.stream_commands.specs.Owing.{OwesSome}
use Rattle.stream_commands.proofs.Driving.{memory_ends_at, done_ends_at, cut_ends_at, whole_some, cut_some, put_fault_ends_at, put_memory_ends_at}
use Rattle.stream_commands.proofs.driver.Reading.finish.Goals as goal
use Rattle.stream_commands.proofs.driver.Reading.finish.Goals.{After-put_all, in-Ok, in-Err-Refused}

-- the command has read the bytes, and the text is empty
read_at : (g : _) (c : After-put_all g) (before : Option (List ℕ)) (steps : List ReadStep)
    → (answered : HasAnswered (g.C.StreamCommand.has_read c.args.self.now.command) c.args.self.now.tally before (g.T.Sink.seen c.args.sink.now).held steps)
    → g.C.StreamCommand.has_read c.args.self.now.command (bytes_in steps) (answered.given ++ c.clear.new.self.items)
read_at g c before steps answered = rw (c.clear.ensures.items, append-nil answered.given) answered.read

-- whichever way the input ended, the text is owed
owed_at : (g : _) (c : After-put_all g) (before : Option (List ℕ)) (steps : List ReadStep)
    → (answered : HasAnswered (g.C.StreamCommand.has_read c.args.self.now.command) c.args.self.now.tally before (g.T.Sink.seen c.args.sink.now).held steps)
    → OwesSome (g.C.StreamCommand.duty (g.C.StreamCommand.asked c.args.self.now.command)) steps (answered.given ++ c.end.new.text.items)
owed_at g c before steps answered =
    let duty = g.C.StreamCommand.duty (g.C.StreamCommand.asked c.args.self.now.command) in
    let read = read_at g c before steps answered in
    elim c.match-end.branch [
      | in-Ok w ↦
          whole_some duty _ (g.met.C.StreamCommand.owes_so_far c.args.self.now.command) _ before _ steps answered (g.T.Sink.seen c.args.sink.now).held _
          (w.in-Ok.ensures.whole (bytes_in steps) answered.given read)
      | in-Err-Refused w ↦
          cut_some duty _ (g.met.C.StreamCommand.owes_so_far c.args.self.now.command) _ before _ steps answered (g.T.Sink.seen c.args.sink.now).held _
          ((rw w.in-Err-Refused.field-0-is at w.in-Err-Refused.ensures).cut refl (bytes_in steps) answered.given read)
    ]

pub returns-in-Ok-put_all-clause-ends : goal.returns-in-Ok-put_all-clause-ends
returns-in-Ok-put_all-clause-ends g c = λ before steps answered.
    let duty = g.C.StreamCommand.duty (g.C.StreamCommand.asked c.args.self.now.command) in
    let put = rw c.deref.ensures.value at c.in-Ok-put_all.ensures.ok in
    let read = read_at g (goal.at-returns-in-Ok-put_all-clause-ends g c).After-put_all before steps answered in
    elim c.match-end.branch [
      | in-Ok w ↦
          rw w.end-is (
          done_ends_at duty _ (g.met.C.StreamCommand.owes_so_far c.args.self.now.command) _ before _ steps answered (g.T.Sink.seen c.put_all.new.sink).held _
          (w.in-Ok.ensures.whole (bytes_in steps) answered.given read) put)
      | in-Err-Refused w ↦
          rw w.end-is (
          cut_ends_at duty _ (g.met.C.StreamCommand.owes_so_far c.args.self.now.command) _ before _ steps answered (g.T.Sink.seen c.put_all.new.sink).held _
          ((rw w.in-Err-Refused.field-0-is at w.in-Err-Refused.ensures).cut refl (bytes_in steps) answered.given read) put)
    ]

pub returns-in-Err-Memory-clause-ends : goal.returns-in-Err-Memory-clause-ends
returns-in-Err-Memory-clause-ends g c = λ before steps answered.
    memory_ends_at (g.C.StreamCommand.duty (g.C.StreamCommand.asked c.args.self.now.command)) _ (g.met.C.StreamCommand.owes_so_far c.args.self.now.command) _ before _ steps answered

pub returns-in-Err-Failed-clause-ends : goal.returns-in-Err-Failed-clause-ends
returns-in-Err-Failed-clause-ends g c = λ before steps answered.
    let duty = g.C.StreamCommand.duty (g.C.StreamCommand.asked c.args.self.now.command) in
    let put = rw c.deref.ensures.value at c.in-Err-Failed.ensures.err in
    put_fault_ends_at duty _ (g.met.C.StreamCommand.owes_so_far c.args.self.now.command) _ before _ steps answered (g.T.Sink.seen c.put_all.new.sink).held _ put
    (owed_at g (goal.at-returns-in-Err-Failed-clause-ends g c).After-put_all before steps answered)

pub returns-in-Err-Memory-put_all-clause-ends : goal.returns-in-Err-Memory-put_all-clause-ends
returns-in-Err-Memory-put_all-clause-ends g c = λ before steps answered.
    let duty = g.C.StreamCommand.duty (g.C.StreamCommand.asked c.args.self.now.command) in
    let put = rw c.deref.ensures.value at c.in-Err-Memory-put_all.ensures.err in
    put_memory_ends_at duty _ (g.met.C.StreamCommand.owes_so_far c.args.self.now.command) _ before _ steps answered (g.T.Sink.seen c.put_all.new.sink).held _ put
    (owed_at g (goal.at-returns-in-Err-Memory-put_all-clause-ends g c).After-put_all before steps answered)
