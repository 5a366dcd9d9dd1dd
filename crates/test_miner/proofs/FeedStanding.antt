-- Where a feed stands after a turn.
use Rattle.std.proofs.Common.{◌≡◌, ℕ, Bool, true, false, if◌then◌else◌, Option, None, Some, Result, Ok, Err, List, [], ◌∷◌, ◌++◌, length, refl, sym, ap, ◌∙◌, subst, append_assoc}
use Rattle.std.specs.Prelude.{◌&&◌, ◌==◌, ◌%◌, is_none, is_some}
use Rattle.std.proofs.lemmas.List.{append-nil}
use Rattle.pool_io.specs.declared.turn.Turn.{Turn}
use Rattle.pool_io.specs.declared.turn.Turn.TheVariants as turn
use Rattle.sv2_types.specs.Fields.{FieldValue}
use Rattle.sv2_frames.specs.declared.running.RunEnd.{RunEnd}
use Rattle.sv2_frames.specs.declared.running.RunEnd.TheVariants.{Done, Stopped, TooLong}
use Rattle.sv2_frames.specs.Framing.{FrameValue}
use Rattle.sv2_frames.specs.Running.{EndsRun, RunsOver}
use Rattle.sv2_frames.specs.Stream.{AreWithin}
use Rattle.sv2_messages.specs.declared.error.MsgError.{MsgError}
use Rattle.sv2_messages.specs.declared.kinds.TheConstants as kinds
use Rattle.sv2_messages.specs.Reading.{values_of}
use Rattle.sv2_messages.specs.Tables.{template_table}
use Rattle.test_miner.specs.declared.feed.FeedEnd.{FeedEnd}
use Rattle.test_miner.specs.declared.feed.FeedEnd.TheVariants as feed_end
use Rattle.test_miner.specs.declared.feed_machine.Feed.{Feed}
use Rattle.test_miner.specs.declared.feed_machine.FeedEar.{FeedEar}
use Rattle.test_miner.specs.Bounds.{most_payload}
use Rattle.test_miner.specs.FeedHearing.{closed_feed, cut_feed, hear_first, hear_in_feed, hear_later, is_setup, judged, refused_by_kind, solution_in, solved, solved_by}
use Rattle.test_miner.specs.FeedStates.{FeedState}
use Rattle.test_miner.specs.Feeds.{FeedHearsPiece, FeedSaysScript, HearsInFeed, HoldsFeed, IsFeedLeftBy, IsNewFeed, IsReadyFeed, fed, fed_by, given_by, greeting_said, has_ended_feed, read_so_far, whole_greeting}
use Rattle.test_miner.specs.Hearings.{AreHeardIn, Hearing, Frames, NoMore, IsHeardIn, IsReadTo, hear_frames, is_stopped}
use Rattle.link_turns.specs.Partners.{HasTakenOrEnded}
use Rattle.test_miner.specs.ScriptValues.{ScriptValue}
use Rattle.test_miner.proofs.Heard.{heard_each, read_to}

-- nothing that is heard changes the script
kept_by : (b : Bool) (x y : FeedState) (script : ScriptValue) → x.script ≡ script → y.script ≡ script → (if b then x else y).script ≡ script
kept_by true x y script first second = first
kept_by false x y script first second = second

kept_solved : (kind : ℕ) (values : Result (List FieldValue) MsgError) (state : FeedState) → (solved_by kind values state).script ≡ state.script
kept_solved kind (Ok fields) state = kept_by (kind == kinds.SUBMIT_SOLUTION) (judged (solution_in fields) state) state state.script refl refl
kept_solved kind (Err error) state = kept_by (kind == kinds.SUBMIT_SOLUTION) (record state { end = Some feed_end.BadPeer }) state state.script refl refl

kept_payload : (kind : ℕ) (payload : List ℕ) (state : FeedState) → (solved kind payload state).script ≡ state.script
unfolding solved
kept_payload kind payload state = kept_solved kind (values_of template_table kind payload) state

kept : (frame : FrameValue) (state : FeedState) → (hear_in_feed frame state).script ≡ state.script
kept frame state =
    kept_by (is_some state.end) state (if state.is_set_up then hear_later frame state else hear_first frame state) state.script refl
    (kept_by state.is_set_up (hear_later frame state) (hear_first frame state) state.script
    (kept_by (frame.ext % 0x8000 == 0) (solved frame.kind frame.payload state) state state.script (kept_payload frame.kind frame.payload state) refl)
    (kept_by (is_setup frame) (record state { is_set_up = true }) (record state { end = Some feed_end.BadPeer }) state.script refl refl))

kept_all : (frames : List FrameValue) (state : FeedState) → (hear_frames hear_in_feed frames state).script ≡ state.script
kept_all [] state = refl
kept_all (frame ∷ frames) state = kept_all frames (hear_in_feed frame state) ∙ kept frame state

kept_so_far : (end : RunEnd) (state : FeedState) → (read_so_far end state).script ≡ state.script
kept_so_far Done state = refl
kept_so_far Stopped state = refl
kept_so_far (TooLong len) state = kept_by (is_none state.end) (record state { end = Some feed_end.BadPeer }) state state.script refl refl

kept_closed : (held : ℕ) (state : FeedState) → (closed_feed held state).script ≡ state.script
kept_closed held state =
    kept_by (is_some state.end) state (if state.is_set_up && held == 0 then record state { end = Some feed_end.Done } else record state { end = Some feed_end.BadPeer }) state.script refl
    (kept_by (state.is_set_up && held == 0) (record state { end = Some feed_end.Done }) (record state { end = Some feed_end.BadPeer }) state.script refl refl)

-- it hasn't ended, or it has
unended : (end : Option FeedEnd) → true ≡ is_none end → end ≡ None
unended None is = refl
unended (Some end) is = absurd cc

ended : (end : Option FeedEnd) → false ≡ is_none end → is_some end ≡ true
ended None is = absurd cc
ended (Some end) is = refl

left_by : (end : RunEnd) (stream : List ℕ) (frames : List FrameValue) (more : Bool) (new : Feed) → EndsRun end stream frames more new.splitter
    → new.splitter.limit ≡ most_payload → new.ear.lacks_memory ≡ false → more ≡ is_none new.ear.course.end → IsFeedLeftBy end new
left_by Done stream frames more new ends limit memory wants =
    record { limit = limit; cut = ends.2; goes_on = unended new.ear.course.end (sym ends.0 ∙ wants); memory = memory }
left_by Stopped stream frames more new ends limit memory wants = ended new.ear.course.end (sym ends.0 ∙ wants)
left_by (TooLong len) stream frames more new ends limit memory wants = unended new.ear.course.end (sym ends.0 ∙ wants)

pub feed_heard : (old new : Feed) (bytes : List ℕ) (end : RunEnd) → IsReadyFeed old → RunsOver HearsInFeed old.splitter bytes old.ear end new.splitter new.ear
    → new.ear.lacks_memory ≡ false → FeedHearsPiece old bytes end new
feed_heard old new bytes end ready run memory =
    let goes : is_none old.ear.course.end ≡ true = ap (λ (e : Option FeedEnd). is_none e) ready.goes_on in
    let heard =
    heard_each (λ (ear : FeedEar). ear.course) (λ (ear : FeedEar). ear.lacks_memory) hear_in_feed (λ (state : FeedState). is_none state.end) run.frames old.ear new.ear run.more run.took ready.memory goes memory in
    let limit : new.splitter.limit ≡ most_payload = run.limit ∙ ready.limit in
    let read = read_to end (old.splitter.held ++ bytes) run.frames run.more new.splitter run.unread run.ends run.stream in
    record {
      frames = run.frames;
      brought = record {
        unread = read.0;
        each = run.each;
        within = subst (λ (n : ℕ). AreWithin n run.frames) ready.limit run.within;
        stream = read.1;
        read = subst (λ (n : ℕ). IsReadTo end n new.splitter.held read.0) limit read.2;
      };
      knows = heard.0;
      left = left_by end (old.splitter.held ++ bytes) run.frames run.more new run.ends limit memory heard.1;
    }

-- one turn more was heard
holds_more : (old new : Feed) (turn : Turn) (hearing : Hearing) (turns : List Turn) (told more : List ℕ) → HoldsFeed old turns told
    → new.ear.course.script ≡ old.ear.course.script → IsHeardIn most_payload old.splitter.held turn hearing new.splitter.held → new.ear.course ≡ fed hearing old.ear.course
    → more ≡ greeting_said old.ear.course.script old.ear.course.is_set_up new.ear.course.is_set_up → (is_stopped hearing ≡ true → is_some new.ear.course.end ≡ true)
    → HoldsFeed new (turn ∷ turns) (told ++ more)
holds_more old new turn hearing turns told more holds same heard knows says stops =
    let script = old.ear.course.script in
    let now : new.ear.course ≡ fed_by script (hearing ∷ holds.past) = knows ∙ ap (λ (s : FeedState). fed hearing s) holds.knows in
    let says_now : more ≡ greeting_said script (fed_by script holds.past).is_set_up (fed_by script (hearing ∷ holds.past)).is_set_up =
    says ∙ ap (λ (s : FeedState). greeting_said script s.is_set_up new.ear.course.is_set_up) holds.knows
    ∙ ap (λ (s : FeedState). greeting_said script (fed_by script holds.past).is_set_up s.is_set_up) now in
    let told_more : told ++ more ≡ given_by script (hearing ∷ holds.past) =
    ap (λ (t : List ℕ). t ++ more) holds.given ∙ ap (λ (m : List ℕ). given_by script holds.past ++ m) says_now in
    record {
      past = hearing ∷ holds.past;
      heard =
          subst (λ (s : ScriptValue). AreHeardIn (has_ended_feed s) most_payload (turn ∷ turns) (hearing ∷ holds.past) new.splitter.held) (sym same)
          (old.splitter.held, holds.heard, heard, λ stopped. ap (λ (s : FeedState). is_some s.end) (sym now) ∙ stops stopped);
      knows = subst (λ (s : ScriptValue). new.ear.course ≡ fed_by s (hearing ∷ holds.past)) (sym same) now;
      given = subst (λ (s : ScriptValue). told ++ more ≡ given_by s (hearing ∷ holds.past)) (sym same) told_more;
    }

-- it goes on, or it has ended
pub told_so : (feed : Feed) (turns : List Turn) (told : List ℕ) (end : Option FeedEnd) → HoldsFeed feed turns told → end ≡ feed.ear.course.end
    → HasTakenOrEnded (λ (f : Feed) (ts : List Turn) (t : List ℕ). HoldsFeed f ts t × (f.ear.course.end ≡ None)) (λ (f : Feed) (ts : List Turn) (t : List ℕ) (e : FeedEnd). HoldsFeed f ts t × (f.ear.course.end ≡ Some e)) feed turns told end
told_so feed turns told None holds is = (holds, sym is)
told_so feed turns told (Some end) holds is = (holds, sym is)

stops_at_end : (end : RunEnd) (frames : List FrameValue) (middle new : Feed) → new.ear.course ≡ read_so_far end middle.ear.course → IsFeedLeftBy end middle
    → is_stopped (Frames frames end) ≡ true → is_some new.ear.course.end ≡ true
stops_at_end Done frames middle new knows left stopped = absurd cc
stops_at_end Stopped frames middle new knows left stopped = ap (λ (s : FeedState). is_some s.end) knows ∙ left
stops_at_end (TooLong len) frames middle new knows left stopped = absurd cc

set_up_so_far : (end : RunEnd) (state : FeedState) → (read_so_far end state).is_set_up ≡ state.is_set_up
set_up_so_far Done state = refl
set_up_so_far Stopped state = refl
set_up_so_far (TooLong len) state = by_end (is_none state.end)
  where
    by_end : (b : Bool) → (if b then record state { end = Some feed_end.BadPeer } else state).is_set_up ≡ state.is_set_up
    by_end true = refl
    by_end false = refl

-- a piece was heard, and what was due was said
pub piece_holds : (old middle new : Feed) (bytes : List ℕ) (end : RunEnd) (turns : List Turn) (given text greeting : List ℕ) → FeedHearsPiece old bytes end middle
    → new.splitter ≡ middle.splitter → new.ear.course ≡ read_so_far end middle.ear.course
    → greeting ≡ greeting_said middle.ear.course.script old.ear.course.is_set_up middle.ear.course.is_set_up
    → HoldsFeed old turns (given ++ text) → HoldsFeed new (turn.Piece bytes ∷ turns) (given ++ (text ++ greeting))
piece_holds old middle new bytes end turns given text greeting hears splitter knows greets holds =
    let frames = hears.frames in
    let brought = rw (← splitter) at hears.brought in
    let middle_script : middle.ear.course.script ≡ old.ear.course.script = ap (λ (s : FeedState). s.script) hears.knows ∙ kept_all frames old.ear.course in
    let new_script : new.ear.course.script ≡ old.ear.course.script = ap (λ (s : FeedState). s.script) knows ∙ kept_so_far end middle.ear.course ∙ middle_script in
    let knows_old : new.ear.course ≡ fed (Frames frames end) old.ear.course = knows ∙ ap (λ (s : FeedState). read_so_far end s) hears.knows in
    let set_up : new.ear.course.is_set_up ≡ middle.ear.course.is_set_up = ap (λ (s : FeedState). s.is_set_up) knows ∙ set_up_so_far end middle.ear.course in
    let says : greeting ≡ greeting_said old.ear.course.script old.ear.course.is_set_up new.ear.course.is_set_up =
    greets ∙ ap (λ (s : ScriptValue). greeting_said s old.ear.course.is_set_up middle.ear.course.is_set_up) middle_script
    ∙ ap (λ (b : Bool). greeting_said old.ear.course.script old.ear.course.is_set_up b) (sym set_up) in
    let held = holds_more old new (turn.Piece bytes) (Frames frames end) turns (given ++ text) greeting holds new_script brought knows_old says (stops_at_end end frames middle new knows hears.left) in
    subst (λ (t : List ℕ). HoldsFeed new (turn.Piece bytes ∷ turns) t) (append_assoc given text greeting) held

pub piece_ready : (old middle new : Feed) (bytes : List ℕ) (end : RunEnd) → FeedHearsPiece old bytes end middle → new.splitter ≡ middle.splitter
    → new.ear.lacks_memory ≡ middle.ear.lacks_memory → new.ear.course ≡ read_so_far end middle.ear.course → new.ear.course.end ≡ None → IsReadyFeed new
piece_ready old middle new bytes Done hears splitter memory knows goes_on = ready_by hears.left
  where
    ready_by : IsReadyFeed middle → IsReadyFeed new
    ready_by ready = record { limit = rw splitter ready.limit; cut = rw splitter ready.cut; goes_on = goes_on; memory = memory ∙ ready.memory }
piece_ready old middle new bytes Stopped hears splitter memory knows goes_on =
    let has_ended : is_some middle.ear.course.end ≡ true = hears.left in
    let goes : is_some new.ear.course.end ≡ false = ap (λ (e : Option FeedEnd). is_some e) goes_on in
    let same = ap (λ (s : FeedState). is_some s.end) knows in
    let wrong : true ≡ false = sym has_ended ∙ sym same ∙ goes in
    absurd cc
piece_ready old middle new bytes (TooLong len) hears splitter memory knows goes_on =
    let goes : middle.ear.course.end ≡ None = hears.left in
    let cut : new.ear.course.end ≡ (read_so_far (TooLong len) middle.ear.course).end = ap (λ (s : FeedState). s.end) knows in
    let wrong = rw goes at cut in
    absurd cc

pub piece_script : (old middle new : Feed) (bytes : List ℕ) (end : RunEnd) → FeedHearsPiece old bytes end middle → new.ear.course ≡ read_so_far end middle.ear.course
    → new.ear.course.script ≡ old.ear.course.script
piece_script old middle new bytes end hears knows =
    ap (λ (s : FeedState). s.script) knows ∙ kept_so_far end middle.ear.course ∙ ap (λ (s : FeedState). s.script) hears.knows ∙ kept_all hears.frames old.ear.course

none_greeted : (script : ScriptValue) (was : Bool) → [] ≡ greeting_said script was was
none_greeted script true = refl
none_greeted script false = refl

-- an Idle turn was heard
pub idle_holds : (feed : Feed) (turns : List Turn) (told : List ℕ) → HoldsFeed feed turns told → HoldsFeed feed (turn.Idle ∷ turns) told
idle_holds feed turns told holds =
    let more =
    holds_more feed feed turn.Idle (Frames [] Done) turns told [] holds refl (refl, refl) refl (none_greeted feed.ear.course.script feed.ear.course.is_set_up) (λ stopped. absurd cc) in
    subst (λ (t : List ℕ). HoldsFeed feed (turn.Idle ∷ turns) t) (append-nil told) more

set_up_closed : (held : ℕ) (state : FeedState) → (closed_feed held state).is_set_up ≡ state.is_set_up
set_up_closed held state = by_tests (is_some state.end) (state.is_set_up && held == 0)
  where
    by_tests : (b d : Bool) → (if b then state else if d then record state { end = Some feed_end.Done } else record state { end = Some feed_end.BadPeer }).is_set_up ≡ state.is_set_up
    by_tests true d = refl
    by_tests false true = refl
    by_tests false false = refl

-- the input's end was heard
pub end_holds : (old new : Feed) (turns : List Turn) (told : List ℕ) → HoldsFeed old turns told → new.splitter ≡ old.splitter
    → new.ear.course ≡ closed_feed (length old.splitter.held) old.ear.course → HoldsFeed new (turn.End ∷ turns) told
end_holds old new turns told holds splitter knows =
    let held : new.splitter.held ≡ old.splitter.held = rw splitter refl in
    let script = ap (λ (s : FeedState). s.script) knows ∙ kept_closed (length old.splitter.held) old.ear.course in
    let set_up : new.ear.course.is_set_up ≡ old.ear.course.is_set_up = ap (λ (s : FeedState). s.is_set_up) knows ∙ set_up_closed (length old.splitter.held) old.ear.course in
    let says = none_greeted old.ear.course.script old.ear.course.is_set_up ∙ ap (λ (b : Bool). greeting_said old.ear.course.script old.ear.course.is_set_up b) (sym set_up) in
    let more = holds_more old new turn.End (NoMore old.splitter.held) turns told [] holds script (refl, held) knows says (λ stopped. absurd cc) in
    subst (λ (t : List ℕ). HoldsFeed new (turn.End ∷ turns) t) (append-nil told) more

pub end_script : (held : ℕ) (old new : FeedState) → new ≡ closed_feed held old → new.script ≡ old.script
end_script held old new knows = ap (λ (s : FeedState). s.script) knows ∙ kept_closed held old

-- no turn was heard yet
pub start_holds : (feed : Feed) (told : List ℕ) → IsNewFeed feed → told ≡ [] → HoldsFeed feed [] told
start_holds feed told new nothing = record { past = []; heard = rw new.splitter refl; knows = new.course; given = nothing }

-- a caller that has set up stays so
stays_by : (b : Bool) (x y : FeedState) → x.is_set_up ≡ true → y.is_set_up ≡ true → (if b then x else y).is_set_up ≡ true
stays_by true x y first second = first
stays_by false x y first second = second

stays_solved : (kind : ℕ) (values : Result (List FieldValue) MsgError) (state : FeedState) → state.is_set_up ≡ true → (solved_by kind values state).is_set_up ≡ true
stays_solved kind (Ok fields) state is = stays_by (kind == kinds.SUBMIT_SOLUTION) (judged (solution_in fields) state) state is is
stays_solved kind (Err error) state is = stays_by (kind == kinds.SUBMIT_SOLUTION) (record state { end = Some feed_end.BadPeer }) state is is

stays_payload : (kind : ℕ) (payload : List ℕ) (state : FeedState) → state.is_set_up ≡ true → (solved kind payload state).is_set_up ≡ true
unfolding solved
stays_payload kind payload state is = stays_solved kind (values_of template_table kind payload) state is

stays : (frame : FrameValue) (state : FeedState) → state.is_set_up ≡ true → (hear_in_feed frame state).is_set_up ≡ true
stays frame state is =
    stays_by (is_some state.end) state (if state.is_set_up then hear_later frame state else hear_first frame state) is (by_setup state.is_set_up is)
  where
    by_setup : (b : Bool) → b ≡ true → (if b then hear_later frame state else hear_first frame state).is_set_up ≡ true
    by_setup true same = stays_by (frame.ext % 0x8000 == 0) (solved frame.kind frame.payload state) state (stays_payload frame.kind frame.payload state is) is
    by_setup false same = absurd cc

stays_all : (frames : List FrameValue) (state : FeedState) → state.is_set_up ≡ true → (hear_frames hear_in_feed frames state).is_set_up ≡ true
stays_all [] state is = is
stays_all (frame ∷ frames) state is = stays_all frames (hear_in_feed frame state) (stays frame state is)

stays_fed : (hearing : Hearing) (state : FeedState) → state.is_set_up ≡ true → (fed hearing state).is_set_up ≡ true
stays_fed (Frames frames end) state is = set_up_so_far end (hear_frames hear_in_feed frames state) ∙ stays_all frames state is
stays_fed (NoMore rest) state is = set_up_closed (length rest) state ∙ is

one_greeting : (script : ScriptValue) (told : List ℕ) (before now : Bool) → told ≡ whole_greeting script before → (before ≡ true → now ≡ true)
    → told ++ greeting_said script before now ≡ whole_greeting script now
one_greeting script told false false is goes = rw is refl
one_greeting script told false true is goes = rw is refl
one_greeting script told true true is goes = append-nil told ∙ is
one_greeting script told true false is goes = let wrong : false ≡ true = goes refl in absurd cc

pub given_whole : FeedSaysScript
given_whole script [] = refl
given_whole script (hearing ∷ past) =
    one_greeting script (given_by script past) (fed_by script past).is_set_up (fed hearing (fed_by script past)).is_set_up (given_whole script past) (stays_fed hearing (fed_by script past))
