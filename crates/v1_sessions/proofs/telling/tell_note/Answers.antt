use Rattle.std.proofs.Common.{refl, sym, suc, drop}
use Rattle.std.specs.Prelude.{map}
use Rattle.std.proofs.lemmas.Bool.{ltb-true}
use Rattle.v1_sessions.specs.Told.{note_told}
use Rattle.v2_sessions.proofs.Fitting.{part_of}
use Rattle.v1_sessions.proofs.telling.tell_note.Goals as goal

pub returns : goal.returns
returns c =
    let found = rw c.items-items.ensures.value at c.in-Some.ensures.lookup in (
      note_told c.in-Some.note.now,
      map note_told (drop (suc c.args.part.now) c.args.notes.now),
      part_of note_told c.args.notes.now c.args.part.now c.in-Some.note.now _ (ltb-true _ _ (sym found.0)) found.1,
      refl,
      c.in_ok-say_note.ensures,
    )
