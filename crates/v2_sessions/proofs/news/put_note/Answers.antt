use Rattle.std.proofs.Common.{refl, sym, suc, drop}
use Rattle.std.specs.Prelude.{map}
use Rattle.std.proofs.lemmas.Bool.{ltb-true}
use Rattle.session_steps.specs.Told.{note_frame}
use Rattle.v2_sessions.proofs.Fitting.{part_of}
use Rattle.v2_sessions.proofs.news.put_note.Goals as goal

pub returns-clause-ok : goal.returns-clause-ok
returns-clause-ok c =
    let found = rw c.items-items.ensures.value at c.in-Some.ensures.lookup in (
      note_frame c.in-Some.note.now,
      map note_frame (drop (suc c.args.part.now) c.args.notes.now),
      part_of note_frame c.args.notes.now c.args.part.now c.in-Some.note.now _ (ltb-true _ _ (sym found.0)) found.1,
      refl,
      c.in_ok-put_frame_of.ensures.ok,
    )
