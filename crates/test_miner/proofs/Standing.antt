-- Where a miner stands after a turn.
use Rattle.std.proofs.Common.{◌≡◌, ℕ, Bool, true, false, Option, None, Some, List, [], ◌∷◌, ◌++◌, refl, sym, ap, ◌∙◌, subst, append_assoc}
use Rattle.std.specs.Prelude.{is_some}
use Rattle.std.proofs.lemmas.List.{append-nil}
use Rattle.sv2_frames.specs.Framing.{FrameValue}
use Rattle.pool_io.specs.declared.turn.Turn.{Turn}
use Rattle.pool_io.specs.declared.turn.Turn.TheVariants as turn
use Rattle.sv2_frames.specs.declared.running.RunEnd.{RunEnd}
use Rattle.sv2_frames.specs.declared.running.RunEnd.TheVariants.{Done, Stopped, TooLong}
use Rattle.test_miner.specs.declared.course.MinerEnd.{MinerEnd}
use Rattle.test_miner.specs.declared.miner.Miner.{Miner}
use Rattle.test_miner.specs.declared.miner.MinerTask.{MinerTask}
use Rattle.test_miner.specs.Bounds.{most_payload}
use Rattle.test_miner.specs.Hearings.{AreHeardIn, Hearing, Frames, NoMore, IsHeardIn, hear_all, is_stopped}
use Rattle.test_miner.specs.Saying.{setup_frame}
use Rattle.test_miner.specs.Miners.{HearsPiece, HoldsMiner, IsLeftBy, IsNewMiner, IsReadyMiner, after, closed, has_ended, next, opening_said, said, said_in, share_said}
use Rattle.link_turns.specs.Partners.{HasTakenOrEnded}
use Rattle.test_miner.specs.States.{MinerState}

-- one turn more was heard
pub holds_more : (old new : Miner) (turn : Turn) (hearing : Hearing) (turns : List Turn) (told more : List ℕ) → HoldsMiner old turns told → new.task ≡ old.task
    → IsHeardIn most_payload old.splitter.held turn hearing new.splitter.held → new.ear.course ≡ next old.task hearing old.ear.course
    → more ≡ said_in old.task hearing old.ear.course → (is_stopped hearing ≡ true → is_some new.ear.course.end ≡ true)
    → HoldsMiner new (turn ∷ turns) (told ++ more)
holds_more old new turn hearing turns told more holds task heard knows says stops =
    let now : new.ear.course ≡ after old.task (hearing ∷ holds.past) = knows ∙ ap (λ (s : MinerState). next old.task hearing s) holds.knows in
    let told_more : told ++ more ≡ said old.task (hearing ∷ holds.past) =
    ap (λ (t : List ℕ). t ++ more) holds.says ∙ ap (λ (m : List ℕ). said old.task holds.past ++ m) (says ∙ ap (λ (s : MinerState). said_in old.task hearing s) holds.knows) in
    record {
      past = hearing ∷ holds.past;
      heard =
          subst (λ (t : MinerTask). AreHeardIn (has_ended t) most_payload (turn ∷ turns) (hearing ∷ holds.past) new.splitter.held) (sym task)
          (old.splitter.held, holds.heard, heard, λ stopped. ap (λ (s : MinerState). is_some s.end) (sym now) ∙ stops stopped);
      knows = subst (λ (t : MinerTask). new.ear.course ≡ after t (hearing ∷ holds.past)) (sym task) now;
      says = subst (λ (t : MinerTask). told ++ more ≡ said t (hearing ∷ holds.past)) (sym task) told_more;
    }

-- it goes on, or it has ended
pub told_so : (miner : Miner) (turns : List Turn) (told : List ℕ) (end : Option MinerEnd) → HoldsMiner miner turns told → end ≡ miner.ear.course.end
    → HasTakenOrEnded (λ (m : Miner) (ts : List Turn) (t : List ℕ). HoldsMiner m ts t × (m.ear.course.end ≡ None)) (λ (m : Miner) (ts : List Turn) (t : List ℕ) (e : MinerEnd). HoldsMiner m ts t × (m.ear.course.end ≡ Some e)) miner turns told end
told_so miner turns told None holds is = (holds, sym is)
told_so miner turns told (Some end) holds is = (holds, sym is)

-- a piece is cut short where the miner has ended
stops_at_end : (task : MinerTask) (end : RunEnd) (frames : List FrameValue) (middle new : Miner) → new.ear.course ≡ closed task end middle.ear.course → IsLeftBy end middle
    → is_stopped (Frames frames end) ≡ true → is_some new.ear.course.end ≡ true
stops_at_end task Done frames middle new knows left stopped = absurd cc
stops_at_end task Stopped frames middle new knows left stopped = ap (λ (s : MinerState). is_some s.end) knows ∙ left
stops_at_end task (TooLong len) frames middle new knows left stopped = absurd cc

-- a piece was heard, and what was due was said
pub piece_holds : (old middle new : Miner) (bytes : List ℕ) (end : RunEnd) (turns : List Turn) (given text opening share : List ℕ) → HearsPiece old bytes end middle
    → middle.task ≡ old.task → new.task ≡ middle.task → new.splitter ≡ middle.splitter → new.ear.course ≡ closed middle.task end middle.ear.course
    → opening ≡ opening_said middle.task old.ear.course.is_set_up middle.ear.course.is_set_up → share ≡ share_said middle.task end middle.ear.course
    → HoldsMiner old turns (given ++ text) → HoldsMiner new (turn.Piece bytes ∷ turns) (given ++ ((text ++ opening) ++ share))
piece_holds old middle new bytes end turns given text opening share hears task_middle task_new splitter knows opens shares holds =
    let frames = hears.frames in
    let brought = rw (← splitter) at hears.brought in
    let knows_old : new.ear.course ≡ next old.task (Frames frames end) old.ear.course =
    knows ∙ ap (λ (t : MinerTask). closed t end middle.ear.course) task_middle ∙ ap (λ (s : MinerState). closed old.task end s) hears.knows in
    let says : opening ++ share ≡ said_in old.task (Frames frames end) old.ear.course =
    ap (λ (o : List ℕ). o ++ share) (opens ∙ ap (λ (t : MinerTask). opening_said t old.ear.course.is_set_up middle.ear.course.is_set_up) task_middle ∙ ap (λ (s : MinerState). opening_said old.task old.ear.course.is_set_up s.is_set_up) hears.knows)
    ∙ ap (λ (s : List ℕ). opening_said old.task old.ear.course.is_set_up (hear_all frames old.ear.course).is_set_up ++ s) (shares ∙ ap (λ (t : MinerTask). share_said t end middle.ear.course) task_middle ∙ ap (λ (s : MinerState). share_said old.task end s) hears.knows) in
    let whole : (given ++ text) ++ (opening ++ share) ≡ given ++ ((text ++ opening) ++ share) =
    append_assoc given text (opening ++ share) ∙ ap (λ (t : List ℕ). given ++ t) (sym (append_assoc text opening share)) in
    let held = holds_more old new (turn.Piece bytes) (Frames frames end) turns (given ++ text) (opening ++ share) holds (task_new ∙ task_middle) brought knows_old says
    (stops_at_end middle.task end frames middle new knows hears.left) in
    subst (λ (t : List ℕ). HoldsMiner new (turn.Piece bytes ∷ turns) t) whole held

-- and it is ready for the next turn where it hasn't ended
pub piece_ready : (old middle new : Miner) (bytes : List ℕ) (end : RunEnd) → HearsPiece old bytes end middle → new.task ≡ middle.task → new.splitter ≡ middle.splitter
    → new.ear.lacks_memory ≡ middle.ear.lacks_memory → new.ear.course ≡ closed middle.task end middle.ear.course → new.ear.course.end ≡ None → IsReadyMiner new
piece_ready old middle new bytes Done hears task splitter memory knows goes_on = ready_by hears.left
  where
    ready_by : IsReadyMiner middle → IsReadyMiner new
    ready_by ready = record {
      can_mine = rw task ready.can_mine;
      limit = rw splitter ready.limit;
      cut = rw splitter ready.cut;
      goes_on = goes_on;
      memory = memory ∙ ready.memory;
    }
piece_ready old middle new bytes Stopped hears task splitter memory knows goes_on =
    let ended : is_some middle.ear.course.end ≡ true = hears.left in
    let unended : is_some new.ear.course.end ≡ false = ap (λ (e : Option MinerEnd). is_some e) goes_on in
    let same = ap (λ (s : MinerState). is_some s.end) knows in
    let wrong : true ≡ false = sym ended ∙ sym same ∙ unended in
    absurd cc
piece_ready old middle new bytes (TooLong len) hears task splitter memory knows goes_on =
    let unended : middle.ear.course.end ≡ None = hears.left in
    let cut : new.ear.course.end ≡ (closed middle.task (TooLong len) middle.ear.course).end = ap (λ (s : MinerState). s.end) knows in
    let wrong = rw unended at cut in
    absurd cc

-- the input's end was heard
pub end_holds : (old new : Miner) (turns : List Turn) (told : List ℕ) → HoldsMiner old turns told → new.task ≡ old.task → new.splitter ≡ old.splitter
    → new.ear.course ≡ next old.task (NoMore old.splitter.held) old.ear.course → HoldsMiner new (turn.End ∷ turns) told
end_holds old new turns told holds task splitter knows =
    let held : new.splitter.held ≡ old.splitter.held = rw splitter refl in
    let more = holds_more old new turn.End (NoMore old.splitter.held) turns told [] holds task (refl, held) knows refl (λ stopped. absurd cc) in
    subst (λ (t : List ℕ). HoldsMiner new (turn.End ∷ turns) t) (append-nil told) more

-- where nothing was accepted just now, no channel is asked for
none_opened : (task : MinerTask) (was : Bool) → opening_said task was was ≡ []
none_opened task true = refl
none_opened task false = refl

-- an Idle turn was heard
pub idle_holds : (old new : Miner) (turns : List Turn) (given text share : List ℕ) → HoldsMiner old turns (given ++ text) → new.task ≡ old.task → new.splitter ≡ old.splitter
    → new.ear.course ≡ closed old.task Done old.ear.course → share ≡ share_said old.task Done old.ear.course → HoldsMiner new (turn.Idle ∷ turns) (given ++ (text ++ share))
idle_holds old new turns given text share holds task splitter knows shares =
    let held : new.splitter.held ≡ old.splitter.held = rw splitter refl in
    let says : share ≡ said_in old.task (Frames [] Done) old.ear.course =
    shares ∙ sym (ap (λ (o : List ℕ). o ++ share_said old.task Done old.ear.course) (none_opened old.task old.ear.course.is_set_up)) in
    let more = holds_more old new turn.Idle (Frames [] Done) turns (given ++ text) share holds task (refl, held) knows says (λ stopped. absurd cc) in
    subst (λ (t : List ℕ). HoldsMiner new (turn.Idle ∷ turns) t) (append_assoc given text share) more

pub idle_ready : (old new : Miner) → IsReadyMiner old → new.task ≡ old.task → new.splitter ≡ old.splitter → new.ear.lacks_memory ≡ old.ear.lacks_memory
    → new.ear.course.end ≡ None → IsReadyMiner new
idle_ready old new ready task splitter memory goes_on = record {
  can_mine = rw task ready.can_mine;
  limit = rw splitter ready.limit;
  cut = rw splitter ready.cut;
  goes_on = goes_on;
  memory = memory ∙ ready.memory;
}

-- no turn was heard yet
pub start_holds : (miner : Miner) (given text : List ℕ) → IsNewMiner miner → given ++ text ≡ [] → HoldsMiner miner [] (given ++ (text ++ setup_frame))
start_holds miner given text new nothing = record {
  past = [];
  heard = rw new.splitter refl;
  knows = new.course;
  says = sym (append_assoc given text setup_frame) ∙ ap (λ (t : List ℕ). t ++ setup_frame) nothing;
}
