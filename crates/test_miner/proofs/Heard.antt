-- What an ear has heard of a piece.
use Rattle.std.proofs.Common.{◌≡◌, ℕ, Bool, true, false, Option, None, Some, List, [], ◌∷◌, ◌++◌, refl, sym, ap, ◌∙◌, subst, inl, inr}
use Rattle.std.specs.Prelude.{MatchBool, is_none, is_some}
use Rattle.std.proofs.lemmas.List.{append-nil}
use Rattle.sv2_frames.specs.declared.running.RunEnd.{RunEnd}
use Rattle.sv2_frames.specs.declared.running.RunEnd.TheVariants.{Done, Stopped, TooLong}
use Rattle.sv2_frames.specs.Framing.{FrameValue}
use Rattle.sv2_frames.specs.Holding.{Holding}
use Rattle.sv2_frames.specs.Running.{EndsRun, RunsOver}
use Rattle.sv2_frames.specs.Stream.{AreWithin, TakesEach, stream_of}
use Rattle.test_miner.specs.declared.course.MinerEnd.{MinerEnd}
use Rattle.test_miner.specs.declared.hearing.Ear.{Ear}
use Rattle.test_miner.specs.declared.miner.Miner.{Miner}
use Rattle.test_miner.specs.Bounds.{most_payload}
use Rattle.test_miner.specs.Hearings.{HearsBy, HearsFrame, IsReadTo, hear_frame, hear_frames}
use Rattle.test_miner.specs.Miners.{HearsPiece, IsLeftBy, IsReadyMiner}
use Rattle.test_miner.specs.States.{MinerState}

-- it hasn't ended
pub goes_on : (end : Option MinerEnd) → true ≡ is_none end → end ≡ None
goes_on None is = refl
goes_on (Some end) is = absurd cc

-- it has
pub has_ended : (end : Option MinerEnd) → false ≡ is_none end → is_some end ≡ true
has_ended None is = absurd cc
has_ended (Some end) is = refl

-- the frames of a piece, one after the other
module _ {E S : Type 0} (state_of : E → S) (lacks : E → Bool) (step : FrameValue → S → S) (unended : S → Bool) where
  heard_on : (frame : FrameValue) (frames : List FrameValue) (old middle new : E) (wants more : Bool) → HearsBy state_of lacks step unended old frame wants middle
      → MatchBool wants (TakesEach (HearsBy state_of lacks step unended) middle frames more new) ((frames ≡ []) × (more ≡ false) × (new ≡ middle))
      → lacks old ≡ false → lacks new ≡ false
      → (TakesEach (HearsBy state_of lacks step unended) middle frames more new → lacks middle ≡ false → unended (state_of middle) ≡ true
      → (state_of new ≡ hear_frames step frames (state_of middle)) × (more ≡ unended (state_of new)))
      → (state_of new ≡ hear_frames step (frame ∷ frames) (state_of old)) × (more ≡ unended (state_of new))
  heard_on frame frames old middle new true more (inl short) rest memory has_memory behind =
      let wrong : true ≡ false = short.0 in absurd cc
  heard_on frame frames old middle new false more (inl short) rest memory has_memory behind =
      let wrong : true ≡ false = sym short.1 ∙ sym (ap lacks rest.2) ∙ has_memory in absurd cc
  heard_on frame frames old middle new true more (inr heard) rest memory has_memory behind =
      let got = behind rest (heard.2 ∙ memory) (sym heard.0) in
      (got.0 ∙ ap (λ (s : S). hear_frames step frames s) heard.1, got.1)
  heard_on frame frames old middle new false more (inr heard) rest memory has_memory behind = (
    ap state_of rest.2 ∙ heard.1 ∙ sym (ap (λ (fs : List FrameValue). hear_frames step fs (step frame (state_of old))) rest.0),
    rest.1 ∙ heard.0 ∙ sym (ap (λ (e : E). unended (state_of e)) rest.2),
  )

  pub heard_each : (frames : List FrameValue) (old new : E) (more : Bool) → TakesEach (HearsBy state_of lacks step unended) old frames more new
      → lacks old ≡ false → unended (state_of old) ≡ true → lacks new ≡ false → (state_of new ≡ hear_frames step frames (state_of old)) × (more ≡ unended (state_of new))
  heard_each [] old new more took memory goes has_memory =
      (ap state_of took.1, took.0 ∙ sym (ap (λ (e : E). unended (state_of e)) took.1 ∙ goes))
  heard_each (frame ∷ frames) old new more took memory goes has_memory =
      heard_on frame frames old took.0 new took.1 more took.2 took.3 memory has_memory
      (λ rest middle_memory middle_goes. heard_each frames took.0 new more rest middle_memory middle_goes has_memory)

-- how far the piece was read
pub read_to : (end : RunEnd) (stream : List ℕ) (frames : List FrameValue) (more : Bool) (after : Holding) (unread : List ℕ) → EndsRun end stream frames more after
    → stream ≡ stream_of frames (after.held ++ unread)
    → (rest : List ℕ) × (stream ≡ stream_of frames (after.held ++ rest)) × IsReadTo end after.limit after.held rest
read_to Done stream frames more after unread ends split = ([], ends.1.whole ∙ ap (λ (left : List ℕ). stream_of frames left) (sym (append-nil after.held)), (refl, ends.2))
read_to Stopped stream frames more after unread ends split = (unread, split, ends.1)
read_to (TooLong len) stream frames more after unread ends split = (unread, split, ends.1)

-- where the miner stands then
left_by : (end : RunEnd) (stream : List ℕ) (frames : List FrameValue) (more : Bool) (old new : Miner) → EndsRun end stream frames more new.splitter
    → IsReadyMiner old → new.task ≡ old.task → new.splitter.limit ≡ most_payload → new.ear.lacks_memory ≡ false → more ≡ is_none new.ear.course.end → IsLeftBy end new
left_by Done stream frames more old new ends ready task limit memory wants = record {
  can_mine = rw task ready.can_mine;
  limit = limit;
  cut = ends.2;
  goes_on = goes_on new.ear.course.end (sym ends.0 ∙ wants);
  memory = memory;
}
left_by Stopped stream frames more old new ends ready task limit memory wants = has_ended new.ear.course.end (sym ends.0 ∙ wants)
left_by (TooLong len) stream frames more old new ends ready task limit memory wants = goes_on new.ear.course.end (sym ends.0 ∙ wants)

pub piece_heard : (old new : Miner) (bytes : List ℕ) (end : RunEnd) → IsReadyMiner old → RunsOver HearsFrame old.splitter bytes old.ear end new.splitter new.ear
    → new.task ≡ old.task → new.ear.lacks_memory ≡ false → HearsPiece old bytes end new
piece_heard old new bytes end ready run task memory =
    let goes : is_none old.ear.course.end ≡ true = ap (λ (e : Option MinerEnd). is_none e) ready.goes_on in
    let heard = heard_each (λ (ear : Ear). ear.course) (λ (ear : Ear). ear.lacks_memory) hear_frame (λ (state : MinerState). is_none state.end) run.frames old.ear new.ear run.more run.took ready.memory goes memory in
    let limit : new.splitter.limit ≡ most_payload = run.limit ∙ ready.limit in
    let read = read_to end (old.splitter.held ++ bytes) run.frames run.more new.splitter run.unread run.ends run.stream in
    record {
      frames = run.frames;
      brought = record {
        unread = read.0;
        each = run.each;
        within = subst (λ (n : ℕ). AreWithin n run.frames) ready.limit run.within;
        stream = read.1;
        read = subst (λ (n : ℕ). IsReadTo end n new.splitter.held read.0) limit read.2;
      };
      knows = heard.0;
      left = left_by end (old.splitter.held ++ bytes) run.frames run.more old new run.ends ready task limit memory heard.1;
    }
