-- A loop that hands the frames of a piece on.
use Rattle.std.proofs.Common.{◌≡◌, ℕ, ◌+◌, ◌-◌, ◌<◌, ◌≤◌, Bool, true, false, List, [], ◌∷◌, ◌++◌, length, get_or, take, drop, refl, sym, ap, ◌∙◌, subst, arith}
use Rattle.std.specs.Prelude.{MatchBool}
use Rattle.std.specs.List.{flat_map, AllByRecursion}
use Rattle.std.proofs.Math.Seq.{take-add}
use Rattle.std.proofs.lemmas.List.{append_assoc, append-nil, take_more, take_rest, drop_all, length-drop, take-append-drop}
use Rattle.std.proofs.lemmas.List.Concat.{flat_map-append}
use Rattle.sv2_frames.specs.declared.running.RunEnd.{RunEnd}
use Rattle.sv2_frames.specs.declared.running.RunEnd.TheVariants.{Done, Stopped, TooLong}
use Rattle.sv2_frames.specs.Framing.{FrameValue, frame_bytes, IsFrame}
use Rattle.sv2_frames.specs.Holding.{Holding, HoldsOver, IsCutWithin}
use Rattle.sv2_frames.specs.Stream.{stream_of, AreWithin, TakesEach}
use Rattle.sv2_frames.specs.Running.{RunsOver, EndsRun}
use Rattle.sv2_frames.proofs.Standing.{nothing_is_cut}

all_push : {A : Type 0} (P : A → Type 0) (xs : List A) (x : A) → AllByRecursion P xs → P x → AllByRecursion P (xs ++ x ∷ [])
all_push P [] x all one = (one, tt)
all_push P (y ∷ xs) x all one = (all.0, all_push P xs x all.1 one)

-- one more frame was taken
module _ {S : Type 0} (takes : S → FrameValue → Bool → S → Type 0) where
  one_taken : (old new : S) (frame : FrameValue) (wants : Bool) → takes old frame wants new → TakesEach takes old (frame ∷ []) wants new
  one_taken old new frame true step = (new, true, step, (refl, refl))
  one_taken old new frame false step = (new, false, step, (refl, refl, refl))

  pub Took-append : (old middle new : S) (frames others : List FrameValue) (more : Bool)
      → TakesEach takes old frames true middle → TakesEach takes middle others more new → TakesEach takes old (frames ++ others) more new
  Took-append old middle new [] others more first then_others = subst (λ (s : S). TakesEach takes s others more new) first.1 then_others
  Took-append old middle new (frame ∷ frames) others more first then_others =
      elim first.1 as (λ w. takes old frame w first.0 → MatchBool w (TakesEach takes first.0 frames true middle) ((frames ≡ []) × (true ≡ false) × (middle ≡ first.0))
      → TakesEach takes old (frame ∷ (frames ++ others)) more new) [
        | true ↦ λ one rest. (first.0, true, one, Took-append first.0 middle new frames others more rest then_others)
        | false ↦ λ one rest. let wrong : true ≡ false = rest.1 in cc
      ] first.2 first.3

  pub Took-push : (old middle new : S) (frames : List FrameValue) (frame : FrameValue) (wants : Bool)
      → TakesEach takes old frames true middle → takes middle frame wants new → TakesEach takes old (frames ++ frame ∷ []) wants new
  Took-push old middle new frames frame wants took step =
      Took-append old middle new frames (frame ∷ []) wants took (one_taken middle new frame wants step)

-- the loop at a place in the piece
pub record IsRunning {S : Type 0} (takes : S → FrameValue → Bool → S → Type 0) (before : Holding) (piece : List ℕ) (old : S) (at : ℕ) (holding : Holding) (now : S) : Type 0 where
  pub frames : List FrameValue
  pub took : TakesEach takes old frames true now
  pub each : AllByRecursion IsFrame frames
  pub within : AreWithin before.limit frames
  pub stream : before.held ++ take at piece ≡ stream_of frames holding.held
  pub limit : holding.limit ≡ before.limit
  pub cut : IsCutWithin holding
  pub inside : at ≤ length piece

-- the piece's next part was taken in
pub fed_stream : {S : Type 0} (takes : S → FrameValue → Bool → S → Type 0) (before : Holding) (piece : List ℕ) (old : S) (at taken : ℕ) (holding after : Holding) (now : S)
    (run : IsRunning takes before piece old at holding now) → after.held ≡ holding.held ++ take taken (take (length piece - at) (drop at piece))
    → before.held ++ take (at + taken) piece ≡ stream_of run.frames after.held
fed_stream takes before piece old at taken holding after now run bytes =
    let part : List ℕ = take taken (drop at piece) in
    let frames : List ℕ = flat_map frame_bytes run.frames in
    ap (λ xs. before.held ++ xs) (take-add at taken piece) ∙ sym (append_assoc before.held (take at piece) part)
    ∙ ap (λ xs. xs ++ part) run.stream ∙ append_assoc frames holding.held part
    ∙ ap (λ xs. frames ++ xs) (ap (λ xs. holding.held ++ take taken xs) (sym (take_rest piece at)) ∙ sym bytes)

-- the whole piece
pub whole_stream : (before : Holding) (piece : List ℕ) (frames : List FrameValue) (at : ℕ) (after : Holding)
    → before.held ++ take at piece ≡ stream_of frames after.held → before.held ++ piece ≡ stream_of frames (after.held ++ drop at piece)
whole_stream before piece frames at after fed =
    ap (λ xs. before.held ++ xs) (sym (take-append-drop at piece)) ∙ sym (append_assoc before.held (take at piece) (drop at piece))
    ∙ ap (λ xs. xs ++ drop at piece) fed ∙ append_assoc (flat_map frame_bytes frames) after.held (drop at piece)

-- a frame that is held is one more
pub stream_of-push : (frames : List FrameValue) (frame : FrameValue) → stream_of (frames ++ frame ∷ []) [] ≡ stream_of frames (frame_bytes frame)
stream_of-push frames frame =
    append-nil (flat_map frame_bytes (frames ++ frame ∷ [])) ∙ flat_map-append frame_bytes frames (frame ∷ [])
    ∙ ap (λ xs. flat_map frame_bytes frames ++ xs) (append-nil (frame_bytes frame))

-- the four ways on from a place in the piece
module _ {S : Type 0} (takes : S → FrameValue → Bool → S → Type 0) (before : Holding) (piece : List ℕ) (old : S) where
  -- what was taken of the rest of the piece is held behind what was held
  pub record Fed (at taken : ℕ) (holding after : Holding) : Type 0 where
    pub bytes : after.held ≡ holding.held ++ take taken (take (length piece - at) (drop at piece))
    pub limit : after.limit ≡ holding.limit
    pub within : taken ≤ length (take (length piece - at) (drop at piece))

  pub run_over : (at taken len : ℕ) (holding after : Holding) (now : S) → IsRunning takes before piece old at holding now
      → Fed at taken holding after → HoldsOver len after → RunsOver takes before piece old (TooLong len) after now
  run_over at taken len holding after now run fed over =
      record {
        frames = run.frames;
        more = true;
        unread = drop (at + taken) piece;
        took = run.took;
        each = run.each;
        within = run.within;
        stream = whole_stream before piece run.frames (at + taken) after (fed_stream takes before piece old at taken holding after now run fed.bytes);
        limit = fed.limit ∙ run.limit;
        ends = (refl, over);
      }

  pub run_done : (at taken : ℕ) (holding after : Holding) (now : S) → IsRunning takes before piece old at holding now
      → Fed at taken holding after → taken ≡ length (take (length piece - at) (drop at piece)) → IsCutWithin after
      → RunsOver takes before piece old Done after now
  run_done at taken holding after now run fed whole cut =
      let len : taken ≡ length piece - at = whole ∙ ap length (take_rest piece at) ∙ length-drop at piece in
      let none : drop (at + taken) piece ≡ [] = drop_all (at + taken) piece (omega (arith, len, run.inside)) in
      let stream = whole_stream before piece run.frames (at + taken) after (fed_stream takes before piece old at taken holding after now run fed.bytes) in
      let all = stream ∙ ap (λ xs. stream_of run.frames (after.held ++ xs)) none ∙ ap (stream_of run.frames) (append-nil after.held) in
      record {
        frames = run.frames;
        more = true;
        unread = drop (at + taken) piece;
        took = run.took;
        each = run.each;
        within = run.within;
        stream = stream;
        limit = fed.limit ∙ run.limit;
        ends = (refl, record { whole = all; each = run.each; cut = cut.cut }, cut);
      }

  -- the frame that is held after what was fed
  pub record Next (at taken : ℕ) (holding after : Holding) (frame : FrameValue) : Type 0 where
    pub fed : Fed at taken holding after
    pub fits : IsFrame frame
    pub within : length frame.payload ≤ after.limit
    pub whole : after.held ≡ frame_bytes frame

  next_stream : (at taken : ℕ) (holding after : Holding) (now : S) (frame : FrameValue) (run : IsRunning takes before piece old at holding now)
      → Next at taken holding after frame → before.held ++ take (at + taken) piece ≡ stream_of (run.frames ++ frame ∷ []) []
  next_stream at taken holding after now frame run next =
      fed_stream takes before piece old at taken holding after now run next.fed.bytes ∙ ap (stream_of run.frames) next.whole ∙ sym (stream_of-push run.frames frame)

  pub run_stopped : (at taken : ℕ) (holding after : Holding) (now new : S) (frame : FrameValue) → IsRunning takes before piece old at holding now
      → Next at taken holding after frame → takes now frame false new
      → RunsOver takes before piece old Stopped (record { held = []; limit = after.limit }) new
  run_stopped at taken holding after now new frame run next step =
      record {
        frames = run.frames ++ frame ∷ [];
        more = false;
        unread = drop (at + taken) piece;
        took = Took-push takes old now new run.frames frame false run.took step;
        each = all_push IsFrame run.frames frame run.each next.fits;
        within = all_push (λ f. length f.payload ≤ before.limit) run.frames frame run.within (omega (arith, next.within, next.fed.limit, run.limit));
        stream = whole_stream before piece (run.frames ++ frame ∷ []) (at + taken) (record { held = []; limit = after.limit }) (next_stream at taken holding after now frame run next);
        limit = next.fed.limit ∙ run.limit;
        ends = (refl, refl);
      }

  pub run_more : (at taken : ℕ) (holding after : Holding) (now new : S) (frame : FrameValue) → IsRunning takes before piece old at holding now
      → Next at taken holding after frame → takes now frame true new
      → IsRunning takes before piece old (at + taken) (record { held = []; limit = after.limit }) new
  run_more at taken holding after now new frame run next step =
      record {
        frames = run.frames ++ frame ∷ [];
        took = Took-push takes old now new run.frames frame true run.took step;
        each = all_push IsFrame run.frames frame run.each next.fits;
        within = all_push (λ f. length f.payload ≤ before.limit) run.frames frame run.within (omega (arith, next.within, next.fed.limit, run.limit));
        stream = next_stream at taken holding after now frame run next;
        limit = next.fed.limit ∙ run.limit;
        cut = nothing_is_cut after.limit;
        inside = omega (arith, run.inside, next.fed.within, ap length (take_rest piece at), length-drop at piece);
      }

-- one run after another
module _ {S : Type 0} (takes : S → FrameValue → Bool → S → Type 0) where
  all_append : {A : Type 0} (P : A → Type 0) (xs ys : List A) → AllByRecursion P xs → AllByRecursion P ys → AllByRecursion P (xs ++ ys)
  all_append P [] ys one other = other
  all_append P (x ∷ xs) ys one other = (one.0, all_append P xs ys one.1 other)

  -- two parts of a stream joined
  joined : (held b1 b2 middle rest : List ℕ) (frames others : List FrameValue) → held ++ b1 ≡ stream_of frames middle
      → middle ++ b2 ≡ stream_of others rest → held ++ (b1 ++ b2) ≡ stream_of (frames ++ others) rest
  joined held b1 b2 middle rest frames others one other =
      sym (append_assoc held b1 b2) ∙ ap (λ xs. xs ++ b2) one ∙ append_assoc (flat_map frame_bytes frames) middle b2
      ∙ ap (λ xs. flat_map frame_bytes frames ++ xs) other ∙ sym (append_assoc (flat_map frame_bytes frames) (flat_map frame_bytes others) rest)
      ∙ ap (λ xs. xs ++ rest) (sym (flat_map-append frame_bytes frames others))

  -- nothing is taken of no bytes
  pub runs_nothing : (before : Holding) (old : S) → IsCutWithin before → RunsOver takes before [] old Done before old
  runs_nothing before old cut =
      record {
        frames = [];
        more = true;
        unread = [];
        took = (refl, refl);
        each = tt;
        within = tt;
        stream = refl;
        limit = refl;
        ends = (refl, record { whole = append-nil before.held; each = tt; cut = cut.cut }, cut);
      }

  -- the first run was done, so the second goes on
  module _ (before middle after : Holding) (b1 b2 : List ℕ) (old between new : S) where
    ends_then : (end : RunEnd) (one : RunsOver takes before b1 old Done middle between) (other : RunsOver takes middle b2 between end after new)
        → EndsRun end (before.held ++ (b1 ++ b2)) (one.frames ++ other.frames) other.more after
    ends_then Done one other =
        let first = one.ends.1 in
        let second = other.ends.1 in (
          other.ends.0,
          record {
            whole = joined before.held b1 b2 middle.held after.held one.frames other.frames first.whole second.whole;
            each = all_append IsFrame one.frames other.frames one.each other.each;
            cut = second.cut;
          },
          other.ends.2,
        )
    ends_then Stopped one other = other.ends
    ends_then (TooLong len) one other = other.ends

    pub runs_then : (end : RunEnd) → RunsOver takes before b1 old Done middle between → RunsOver takes middle b2 between end after new
        → RunsOver takes before (b1 ++ b2) old end after new
    runs_then end one other =
        let fits = λ (limit : ℕ). AreWithin limit other.frames in
        record {
          frames = one.frames ++ other.frames;
          more = other.more;
          unread = other.unread;
          took = Took-append takes old between new one.frames other.frames other.more (subst (λ (b : Bool). TakesEach takes old one.frames b between) one.ends.0 one.took) other.took;
          each = all_append IsFrame one.frames other.frames one.each other.each;
          within = all_append (λ f. length f.payload ≤ before.limit) one.frames other.frames one.within (subst fits one.limit other.within);
          stream = joined before.held b1 b2 middle.held (after.held ++ other.unread) one.frames other.frames one.ends.1.whole other.stream;
          limit = other.limit ∙ one.limit;
          ends = ends_then end one other;
        }

  left : (before after : Holding) (bytes rest : List ℕ) (frames : List FrameValue) (unread : List ℕ)
      → before.held ++ bytes ≡ stream_of frames (after.held ++ unread) → before.held ++ (bytes ++ rest) ≡ stream_of frames (after.held ++ (unread ++ rest))
  left before after bytes rest frames unread stream =
      sym (append_assoc before.held bytes rest) ∙ ap (λ xs. xs ++ rest) stream ∙ append_assoc (flat_map frame_bytes frames) (after.held ++ unread) rest
      ∙ ap (λ xs. flat_map frame_bytes frames ++ xs) (append_assoc after.held unread rest)

  -- a run that ended early leaves what comes after
  pub runs_before : (before after : Holding) (bytes rest : List ℕ) (old new : S) (end : RunEnd) → (end ≡ Done → ⊥)
      → RunsOver takes before bytes old end after new → RunsOver takes before (bytes ++ rest) old end after new
  runs_before before after bytes rest old new Done early run = absurd (early refl)
  runs_before before after bytes rest old new Stopped early run =
      record {
        frames = run.frames;
        more = run.more;
        unread = run.unread ++ rest;
        took = run.took;
        each = run.each;
        within = run.within;
        stream = left before after bytes rest run.frames run.unread run.stream;
        limit = run.limit;
        ends = run.ends;
      }
  runs_before before after bytes rest old new (TooLong len) early run =
      record {
        frames = run.frames;
        more = run.more;
        unread = run.unread ++ rest;
        took = run.took;
        each = run.each;
        within = run.within;
        stream = left before after bytes rest run.frames run.unread run.stream;
        limit = run.limit;
        ends = run.ends;
      }

-- the pieces so far, with one more, and with the rest
module _ {X : Type 0} (f : X → List ℕ) where
  pub pieces_more : (pieces : List X) (i : ℕ) (d : X) → i < length pieces → flat_map f (take (i + 1) pieces) ≡ flat_map f (take i pieces) ++ f (get_or pieces i d)
  pieces_more pieces i d there =
      ap (flat_map f) (take_more pieces i d there) ∙ flat_map-append f (take i pieces) (get_or pieces i d ∷ [])
      ∙ ap (λ xs. flat_map f (take i pieces) ++ xs) (append-nil (f (get_or pieces i d)))

  pub pieces_rest : (pieces : List X) (i : ℕ) → flat_map f pieces ≡ flat_map f (take (i + 1) pieces) ++ flat_map f (drop (i + 1) pieces)
  pieces_rest pieces i = ap (flat_map f) (sym (take-append-drop (i + 1) pieces)) ∙ flat_map-append f (take (i + 1) pieces) (drop (i + 1) pieces)
