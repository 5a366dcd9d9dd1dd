-- A lister between its frames.
use Rattle.std.proofs.Common.{◌≡◌, ℕ, ◌+◌, ◌-◌, ◌^◌, ◌≤◌, min, List, [], ◌∷◌, ◌++◌, length, take, refl, sym, ap, subst, ◌∙◌, append_assoc, arith, length-append}
use Rattle.sv2_frames.specs.Framing.{FrameValue, frame_bytes}
use Rattle.sv2_frames.specs.Holding.{Holding, frame_end, HoldsOver, IsCutWithin, IsHeldFrame}
use Rattle.sv2_frames.proofs.Feeding.{present_after}
use Rattle.sv2_messages.specs.declared.error.MsgError.{MsgError}
use Rattle.stream_programs.specs.declared.flaw.Flaw.{Flaw}
use Rattle.stream_programs.specs.declared.flaw.Flaw.TheVariants.{Payload, Length, Cut}
use Rattle.stream_programs.specs.declared.lister.Lister.{Lister}
use Rattle.stream_programs.specs.Listing.{payload_limit, IsBad, IsGood, ListsFrames, IsFlawed}
use Rattle.stream_programs.specs.Lines.{frame_line, bad_line, lines_of}
use Rattle.stream_programs.specs.Duty.{ListsFlaw, IsCutFrame}
use Rattle.stream_programs.specs.Tracking.{HasListedFrames, MayHoldFrame}
use Rattle.stream_programs.specs.OneListing.{ListsFrames-none, ListsFrames-more, partial_none}
use Rattle.stream_programs.proofs.Listed.{lines_of-push, ListsFrames-push, frames_below, partial_from}

-- a new lister has read nothing
pub lists_none : (lister : Lister) → lister.splitter ≡ record { held = []; limit = payload_limit } → lister.count ≡ 0 → HasListedFrames [] [] lister
lists_none lister splitter count = record {
  frames = [];
  tracks = record { lists = rw splitter ListsFrames-none; taken = ap (λ (h : Holding). h.limit) splitter; counted = count; listed = refl };
  partial = rw splitter partial_none;
}

-- a line more behind what was given
one_line : (given was now line lines : List ℕ) → given ++ was ≡ lines → now ≡ was ++ line → given ++ now ≡ lines ++ line
one_line given was now line lines listed is =
    ap (λ (l : List ℕ). given ++ l) is ∙ sym (append_assoc given was line) ∙ ap (λ (l : List ℕ). l ++ line) listed

-- some bytes more were taken
pub fed_may_hold : (old fed : Lister) (part all : List ℕ) → fed.splitter.held ≡ old.splitter.held ++ part
    → fed.splitter.held ≡ take (frame_end old.splitter.limit all) all → fed.splitter.limit ≡ old.splitter.limit → fed.count ≡ old.count
    → (bytes text : List ℕ) → HasListedFrames bytes text old → MayHoldFrame (bytes ++ part) text fed
fed_may_hold old fed part all held ends same count bytes text listed =
    let tracks = listed.tracks in
    let front : fed.splitter.held ≡ take (frame_end payload_limit all) all = ends ∙ ap (λ n. take (frame_end n all) all) tracks.taken in
    record {
      frames = listed.frames;
      tracks = record {
        lists = rw held (ListsFrames-more bytes listed.frames old.splitter.held part tracks.lists);
        taken = same ∙ tracks.taken;
        counted = count ∙ tracks.counted;
        listed = tracks.listed;
      };
      present = rw front (present_after payload_limit all);
    }

-- no whole frame is held, and no header over the limit
pub none_listed : (bytes text : List ℕ) (lister : Lister) → IsCutWithin lister.splitter → MayHoldFrame bytes text lister → HasListedFrames bytes text lister
none_listed bytes text lister cut holds = record {
  frames = holds.frames;
  tracks = holds.tracks;
  partial = partial_from lister.splitter holds.tracks.taken cut holds.present;
}

module _ (bytes given was now : List ℕ) (old new : Lister) (holds : MayHoldFrame bytes (given ++ was) old) where
  flaw_told : (flaw : Flaw) → now ≡ was ++ bad_line old.count flaw → given ++ now ≡ lines_of holds.frames ++ bad_line (length holds.frames) flaw
  flaw_told flaw text =
      one_line given was now (bad_line (length holds.frames) flaw) (lines_of holds.frames) holds.tracks.listed
      (text ∙ ap (λ n. was ++ bad_line n flaw) holds.tracks.counted)

  -- a header over the limit is held
  pub over_flaw : (len : ℕ) → HoldsOver len old.splitter → now ≡ was ++ bad_line old.count (Length len) → ListsFlaw IsFlawed bytes (given ++ now)
  over_flaw len over text = record {
    frames = holds.frames;
    flaw = Length len;
    rest = old.splitter.held;
    lists = holds.tracks.lists;
    has_flaw = subst (λ n. HoldsOver len (record { held = old.splitter.held; limit = n })) holds.tracks.taken over;
    listed = flaw_told (Length len) text;
  }

  module _ (ext kind : ℕ) (payload : List ℕ) (held : IsHeldFrame ext kind payload old.splitter) where
    abbrev frame : FrameValue
    frame = record { ext = ext; kind = kind; payload = payload }

    within : length payload ≤ payload_limit
    within = rw holds.tracks.taken at held.within

    -- a bad frame is held
    pub bad_flaw : (error : MsgError) → IsBad frame error → now ≡ was ++ bad_line old.count (Payload error) → ListsFlaw IsFlawed bytes (given ++ now)
    bad_flaw error bad text = record {
      frames = holds.frames;
      flaw = Payload error;
      rest = old.splitter.held;
      lists = holds.tracks.lists;
      has_flaw = record { frame = frame; fits = held.fits; within = within; bad = bad; whole = held.whole };
      listed = flaw_told (Payload error) text;
    }

    -- a good frame is held, and is let go of
    pub good_listed : length bytes ≤ 2 ^ 40 → IsGood frame → now ≡ was ++ frame_line old.count frame
        → new.count ≡ min (old.count + 1) (2 ^ 64 - 1) → new.splitter ≡ record old.splitter { held = [] } → HasListedFrames bytes (given ++ now) new
    good_listed few good text count splitter =
        let frames = holds.frames in
        let lists : ListsFrames bytes frames (frame_bytes frame) = subst (λ (h : List ℕ). ListsFrames bytes frames h) held.whole holds.tracks.lists in
        let below = frames_below bytes frames old.splitter.held holds.tracks.lists in
        record {
          frames = frames ++ frame ∷ [];
          tracks = record {
            lists = rw splitter (ListsFrames-push bytes frames frame lists held.fits within good);
            taken = rw splitter holds.tracks.taken;
            counted = omega (arith, count, holds.tracks.counted, below, few, length-append frames (frame ∷ []));
            listed =
                one_line given was now (frame_line (length frames) frame) (lines_of frames) holds.tracks.listed
                (text ∙ ap (λ n. was ++ frame_line n frame) holds.tracks.counted)
                ∙ sym (lines_of-push frames frame);
          };
          partial = rw splitter partial_none;
        }

pub cut_listed : (bytes given was now : List ℕ) (lister : Lister) (count : ℕ) → count ≡ length lister.splitter.held → (count ≡ 0 → ⊥)
    → now ≡ was ++ bad_line lister.count (Cut count) → HasListedFrames bytes (given ++ was) lister → ListsFlaw IsCutFrame bytes (given ++ now)
cut_listed bytes given was now lister count is some text listed =
    let held = lister.splitter.held in
    record {
      frames = listed.frames;
      flaw = Cut (length held);
      rest = held;
      lists = listed.tracks.lists;
      has_flaw = record { some = λ none. some (is ∙ ap length none); partial = listed.partial; counted = refl };
      listed =
          one_line given was now (bad_line (length listed.frames) (Cut (length held))) (lines_of listed.frames) listed.tracks.listed
          (text ∙ ap (λ n. was ++ bad_line n (Cut count)) listed.tracks.counted ∙ ap (λ n. was ++ bad_line (length listed.frames) (Cut n)) is);
    }
