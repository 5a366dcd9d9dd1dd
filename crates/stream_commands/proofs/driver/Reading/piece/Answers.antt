use Rattle.std.proofs.Common.{◌≡◌, ◌+◌, ◌^◌, ◌<◌, ◌≤◌, ℕ, List, [], ◌++◌, Option, Some, length, map, refl, sym, subst, ◌∙◌, append-nil, arith}
use Rattle.pool_io.specs.Steps.{ReadStep, bytes_in}
use Rattle.stream_commands.specs.Between.{HasAnswered}
use Rattle.stream_commands.specs.Owing.{OwesSome}
use Rattle.stream_commands.specs.Duties.{RefusesWithin}
use Rattle.stream_commands.proofs.Driving.{memory_ends, short, refused_some, refused_ends, read_some, bytes_end, answered_more, piece_within, piece_busy, put_fault_ends, put_memory_ends}
use Rattle.stream_commands.proofs.driver.Reading.piece.Goals as goal
use Rattle.stream_commands.proofs.driver.Reading.piece.Goals.{After-put_all, Else-refused, in-Ok, in-Err-Refused}

-- the command after the piece owes what the one before it does
so_far_more : (g : _) (c : After-put_all g) (bytes text : List ℕ) → g.C.StreamCommand.has_read c.read.new.self bytes text
    → (g.C.StreamCommand.duty (g.C.StreamCommand.asked c.args.self.now.command)).SoFar bytes text
so_far_more g c bytes text read =
    let owed = g.met.C.StreamCommand.owes_so_far c.read.new.self bytes text read in
    subst (λ task. (g.C.StreamCommand.duty task).SoFar bytes text) c.read.ensures.task owed

-- what a refused piece says, as the text was empty before it
refuses : (g : _) (c : After-put_all g) (piece text : List ℕ)
    → RefusesWithin (g.C.StreamCommand.has_read c.args.self.now.command) ((g.C.StreamCommand.duty (g.C.StreamCommand.asked c.args.self.now.command)).Refused) piece c.clear.new.self.items text
    → RefusesWithin (g.C.StreamCommand.has_read c.args.self.now.command) ((g.C.StreamCommand.duty (g.C.StreamCommand.asked c.args.self.now.command)).Refused) piece [] text
refuses g c piece text refused = rw c.clear.ensures.items at refused

module _ (g : _) (c : After-put_all g) (before : Option (List ℕ)) (steps : List ReadStep)
    (answered : HasAnswered (g.C.StreamCommand.has_read c.args.self.now.command) c.args.self.now.tally before (g.T.Sink.seen c.args.sink.now).held steps) where
  -- the bytes before the piece are few enough, and the command has read them
  few : length (bytes_in steps ++ c.args.piece.now) ≤ 2 ^ 40
  few =
      short (g.C.StreamCommand.duty (g.C.StreamCommand.asked c.args.self.now.command)) _ (g.met.C.StreamCommand.owes_so_far c.args.self.now.command) _ before _ steps answered
      c.args.piece.now c.read.new.text.items c.requires.some c.requires.room c.requires.short

  read_before : g.C.StreamCommand.has_read c.args.self.now.command (bytes_in steps) (answered.given ++ c.clear.new.self.items)
  read_before = rw (c.clear.ensures.items, append-nil answered.given) answered.read

  -- whichever way the piece ended, the text is owed
  owed_at : (rest : List ReadStep) → OwesSome (g.C.StreamCommand.duty (g.C.StreamCommand.asked c.args.self.now.command)) ((steps ++ map Some c.args.piece.now) ++ rest) (answered.given ++ c.read.new.text.items)
  owed_at rest =
      let duty = g.C.StreamCommand.duty (g.C.StreamCommand.asked c.args.self.now.command) in
      elim c.match-read.branch [
        | in-Ok w ↦
            read_some duty _ (g.met.C.StreamCommand.owes_so_far c.args.self.now.command) _ before _ steps answered c.args.piece.now c.read.new.text.items c.requires.some c.requires.room c.requires.short
            (g.C.StreamCommand.has_read c.read.new.self) (so_far_more g c) (w.in-Ok.ensures.ok (bytes_in steps) answered.given few read_before) rest
        | in-Err-Refused w ↦
            refused_some duty _ (g.met.C.StreamCommand.owes_so_far c.args.self.now.command) _ before _ steps answered c.args.piece.now c.read.new.text.items c.requires.some c.requires.room c.requires.short
            (refuses g c c.args.piece.now c.read.new.text.items ((rw w.in-Err-Refused.field-0-is at w.in-Err-Refused.ensures).refused refl)) rest
      ]

pub returns-in-Err-Memory-clause-goes : goal.returns-in-Err-Memory-clause-goes
returns-in-Err-Memory-clause-goes g c = λ before steps answered.
    memory_ends (g.C.StreamCommand.duty (g.C.StreamCommand.asked c.args.self.now.command)) _ (g.met.C.StreamCommand.owes_so_far c.args.self.now.command) _ before _ steps answered _
    (piece_within (g.C.StreamCommand.duty (g.C.StreamCommand.asked c.args.self.now.command)) _ (g.met.C.StreamCommand.owes_so_far c.args.self.now.command) _ before _ steps answered c.args.piece.now c.read.new.text.items c.requires.some c.requires.room c.requires.short)
    (piece_busy (g.C.StreamCommand.duty (g.C.StreamCommand.asked c.args.self.now.command)) _ (g.met.C.StreamCommand.owes_so_far c.args.self.now.command) _ before _ steps answered c.args.piece.now c.read.new.text.items c.requires.some c.requires.room c.requires.short)

pub returns-in-Err-Failed-clause-goes : goal.returns-in-Err-Failed-clause-goes
returns-in-Err-Failed-clause-goes g c = λ before steps answered.
    let put = rw c.deref.ensures.value at c.in-Err-Failed.ensures.err in
    put_fault_ends (g.C.StreamCommand.duty (g.C.StreamCommand.asked c.args.self.now.command)) _ (g.met.C.StreamCommand.owes_so_far c.args.self.now.command) _ before _ steps answered
    c.args.piece.now c.read.new.text.items c.requires.some c.requires.room c.requires.short (g.T.Sink.seen c.put_all.new.sink).held put (owed_at g (goal.at-returns-in-Err-Failed-clause-goes g c).After-put_all before steps answered)

pub returns-in-Err-Memory-put_all-clause-goes : goal.returns-in-Err-Memory-put_all-clause-goes
returns-in-Err-Memory-put_all-clause-goes g c = λ before steps answered.
    let put = rw c.deref.ensures.value at c.in-Err-Memory-put_all.ensures.err in
    put_memory_ends (g.C.StreamCommand.duty (g.C.StreamCommand.asked c.args.self.now.command)) _ (g.met.C.StreamCommand.owes_so_far c.args.self.now.command) _ before _ steps answered
    c.args.piece.now c.read.new.text.items c.requires.some c.requires.room c.requires.short (g.T.Sink.seen c.put_all.new.sink).held put (owed_at g (goal.at-returns-in-Err-Memory-put_all-clause-goes g c).After-put_all before steps answered)

pub returns-then-refused-clause-goes : goal.returns-then-refused-clause-goes
returns-then-refused-clause-goes g c = λ before steps answered.
    let after = (goal.at-returns-then-refused-clause-goes g c).After-put_all in
    let put = rw c.deref.ensures.value at c.in-Ok-put_all.ensures.ok in
    elim c.match-read.branch [
      | in-Ok w ↦ let no = sym w.refused-is ∙ c.if-refused.true in cc
      | in-Err-Refused w ↦
          refused_ends (g.C.StreamCommand.duty (g.C.StreamCommand.asked c.args.self.now.command)) _ (g.met.C.StreamCommand.owes_so_far c.args.self.now.command) _ before _ steps answered
          c.args.piece.now c.read.new.text.items c.requires.some c.requires.room c.requires.short (g.T.Sink.seen c.put_all.new.sink).held
          (refuses g after c.args.piece.now c.read.new.text.items ((rw w.in-Err-Refused.field-0-is at w.in-Err-Refused.ensures).refused refl)) put
    ]

-- the whole piece was read
read_whole : (g : _) (c : Else-refused g) (before : Option (List ℕ)) (steps : List ReadStep)
    → (answered : HasAnswered (g.C.StreamCommand.has_read c.args.self.now.command) c.args.self.now.tally before (g.T.Sink.seen c.args.sink.now).held steps)
    → length (bytes_in steps ++ c.args.piece.now) ≤ 2 ^ 40 → g.C.StreamCommand.has_read c.args.self.now.command (bytes_in steps) (answered.given ++ c.clear.new.self.items)
    → g.C.StreamCommand.has_read c.read.new.self (bytes_in steps ++ c.args.piece.now) (answered.given ++ c.read.new.text.items)
read_whole g c before steps answered few read =
    elim c.match-read.branch [
      | in-Ok w ↦ w.in-Ok.ensures.ok (bytes_in steps) answered.given few read
      | in-Err-Refused w ↦ let no = sym w.refused-is ∙ c.if-refused.false in cc
    ]

pub returns-then-self-eq-MOST_BYTES-clause-goes : goal.returns-then-self-eq-MOST_BYTES-clause-goes
returns-then-self-eq-MOST_BYTES-clause-goes g c = λ before steps answered.
    let after = (goal.at-returns-then-self-eq-MOST_BYTES-clause-goes g c).After-put_all in
    let put = rw c.deref.ensures.value at c.in-Ok-put_all.ensures.ok in
    let read = read_whole g (goal.at-returns-then-self-eq-MOST_BYTES-clause-goes g c).Else-refused before steps answered (few g after before steps answered) (read_before g after before steps answered) in
    let all : length (bytes_in steps) + length c.args.piece.now ≡ 2 ^ 40 = omega (arith, answered.bytes, c.if-self-eq-MOST_BYTES.true) in
    bytes_end (g.C.StreamCommand.duty (g.C.StreamCommand.asked c.args.self.now.command)) _ (g.met.C.StreamCommand.owes_so_far c.args.self.now.command) _ before _ steps answered
    c.args.piece.now c.read.new.text.items c.requires.some c.requires.room c.requires.short (g.C.StreamCommand.has_read c.read.new.self) (so_far_more g after) read (g.T.Sink.seen c.put_all.new.sink).held put all

pub returns-else-self-eq-MOST_BYTES-clause-goes : goal.returns-else-self-eq-MOST_BYTES-clause-goes
returns-else-self-eq-MOST_BYTES-clause-goes g c = λ before steps answered.
    let after = (goal.at-returns-else-self-eq-MOST_BYTES-clause-goes g c).After-put_all in
    let put = rw c.deref.ensures.value at c.in-Ok-put_all.ensures.ok in
    let read = read_whole g (goal.at-returns-else-self-eq-MOST_BYTES-clause-goes g c).Else-refused before steps answered (few g after before steps answered) (read_before g after before steps answered) in
    let below : length (bytes_in steps) + length c.args.piece.now < 2 ^ 40 = omega (arith, answered.bytes, c.requires.room, c.if-self-eq-MOST_BYTES.false) in
    answered_more (g.C.StreamCommand.duty (g.C.StreamCommand.asked c.args.self.now.command)) _ (g.met.C.StreamCommand.owes_so_far c.args.self.now.command) _ before _ steps answered
    c.args.piece.now c.read.new.text.items c.requires.some c.requires.room c.requires.short (g.C.StreamCommand.has_read c.read.new.self) (so_far_more g after) read (g.T.Sink.seen c.put_all.new.sink).held put below
