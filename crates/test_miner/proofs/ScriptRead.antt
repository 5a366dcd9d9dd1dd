-- A script is read to its end, or to the first frame that brings nothing.
use Rattle.std.proofs.Common.{◌≡◌, ◌≢◌, ◌⊎◌, ℕ, zero, suc, ◌+◌, ◌-◌, ◌^◌, ◌<◌, ◌≤◌, Bool, true, false, if◌then◌else◌, Option, None, Result, Ok, Err, List, [], ◌∷◌, ◌++◌, length, refl, sym, ap, ◌∙◌, subst, append_assoc, inl, inr, zero-add, arith}
use Rattle.std.specs.Prelude.{MatchBool, min}
use Rattle.std.specs.List.{AllByRecursion, flat_map}
use Rattle.std.proofs.lemmas.Bool.{cases_lt}
use Rattle.std.proofs.lemmas.List.{append-nil, length-append, nil_from_length}
use Rattle.std.proofs.lemmas.List.Concat.{flat_map-append}
use Rattle.sv2_frames.specs.declared.running.RunEnd.{RunEnd}
use Rattle.sv2_frames.specs.declared.running.RunEnd.TheVariants.{Done, Stopped, TooLong}
use Rattle.sv2_frames.specs.Framing.{FrameValue, IsFrame, frame_bytes, header_of, payload_length}
use Rattle.sv2_frames.specs.Holding.{Holding, HoldsOver}
use Rattle.sv2_frames.specs.Running.{EndsRun, RunsOver}
use Rattle.sv2_frames.specs.Stream.{TakesEach, stream_of}
use Rattle.sv2_frames.proofs.Cutting.{payload_length-header}
use Rattle.sv2_frames.proofs.Streams.{cut_has_no_frame, heads_agree}
use Rattle.test_miner.specs.declared.script.ScriptError.{ScriptError}
use Rattle.test_miner.specs.declared.script.ScriptError.TheVariants.{Bad}
use Rattle.test_miner.specs.declared.script.ScriptReader.{ScriptReader}
use Rattle.test_miner.specs.ScriptReading.{ReadsFrame, TakesScriptFrame}
use Rattle.test_miner.specs.ScriptValues.{ScriptValue}
use Rattle.test_miner.specs.Scripts.{BeginsNoScriptFrame, BeginsScript, IsScriptFrame, ReadsScript, entry_in, is_entry, script_of, with_entry, with_frames}

-- a count that stands still at the end of its type
abbrev counted : ℕ → ℕ
counted n = min n (2 ^ 64 - 1)

-- all frames brought something
record ReadToEnd (old : ScriptReader) (frames : List FrameValue) (new : ScriptReader) : Type 0 where
  brings : AllByRecursion IsScriptFrame frames
  script : new.script ≡ with_frames frames old.script
  count : new.count ≡ counted (old.count + length frames)

-- all but the last did
record ReadToBad (old : ScriptReader) (frames : List FrameValue) (new : ScriptReader) : Type 0 where
  good : List FrameValue
  bad : FrameValue
  split : frames ≡ good ++ bad ∷ []
  brings : AllByRecursion IsScriptFrame good
  none : is_entry (entry_in bad) ≡ false
  count : new.count ≡ counted (old.count + length good)

abbrev ReadAll : ScriptReader → List FrameValue → Bool → ScriptReader → Type 0
ReadAll old frames true new = ReadToEnd old frames new
ReadAll old frames false new = ReadToBad old frames new

one_more : (c n : ℕ) → counted (counted (c + 1) + n) ≡ counted (c + suc n)
one_more c n = omega arith

end_behind : (frame : FrameValue) (frames : List FrameValue) (old middle new : ScriptReader) → ReadsFrame old frame true middle → (more : Bool) → ReadAll middle frames more new
    → ReadAll old (frame ∷ frames) more new
end_behind frame frames old middle new reads true rest = record {
  brings = (sym reads.said, rest.brings);
  script = rest.script ∙ ap (λ (s : ScriptValue). with_frames frames s) reads.script;
  count = rest.count ∙ ap (λ (c : ℕ). counted (c + length frames)) reads.counted ∙ one_more old.count (length frames);
}
end_behind frame frames old middle new reads false rest = record {
  good = frame ∷ rest.good;
  bad = rest.bad;
  split = ap (λ (fs : List FrameValue). frame ∷ fs) rest.split;
  brings = (sym reads.said, rest.brings);
  none = rest.none;
  count = rest.count ∙ ap (λ (c : ℕ). counted (c + length rest.good)) reads.counted ∙ one_more old.count (length rest.good);
}

read_on : (frame : FrameValue) (frames : List FrameValue) (old middle new : ScriptReader) (wants more : Bool) → TakesScriptFrame old frame wants middle
    → MatchBool wants (TakesEach TakesScriptFrame middle frames more new) ((frames ≡ []) × (more ≡ false) × (new ≡ middle))
    → new.lacks_memory ≡ false → old.count ≤ 2 ^ 64 - 1 → (TakesEach TakesScriptFrame middle frames more new → middle.count ≤ 2 ^ 64 - 1 → ReadAll middle frames more new)
    → ReadAll old (frame ∷ frames) more new
read_on frame frames old middle new true more (inl short) rest memory small behind =
    let wrong : true ≡ false = short.0 in absurd cc
read_on frame frames old middle new false more (inl short) rest memory small behind =
    let wrong : true ≡ false = sym short.1 ∙ sym (ap (λ (r : ScriptReader). r.lacks_memory) rest.2) ∙ memory in absurd cc
read_on frame frames old middle new true more (inr reads) rest memory small behind =
    end_behind frame frames old middle new reads.0 more (behind rest (omega (arith, reads.0.counted)))
read_on frame frames old middle new false more (inr reads) rest memory small behind =
    subst (λ (m : Bool). ReadAll old (frame ∷ frames) m new) (sym rest.1)
    (record {
      good = [];
      bad = frame;
      split = ap (λ (fs : List FrameValue). frame ∷ fs) rest.0;
      brings = tt;
      none = sym reads.0.said;
      count = ap (λ (r : ScriptReader). r.count) rest.2 ∙ reads.0.counted ∙ same_count old.count small;
    })
  where
    same_count : (c : ℕ) → c ≤ 2 ^ 64 - 1 → c ≡ counted (c + 0)
    same_count c few = omega arith

read_each : (frames : List FrameValue) (old new : ScriptReader) (more : Bool) → TakesEach TakesScriptFrame old frames more new → new.lacks_memory ≡ false
    → old.count ≤ 2 ^ 64 - 1 → ReadAll old frames more new
read_each [] old new more took memory small =
    subst (λ (m : Bool). ReadAll old [] m new) (sym took.0)
    (record {
      brings = tt;
      script = ap (λ (r : ScriptReader). r.script) took.1;
      count = ap (λ (r : ScriptReader). r.count) took.1 ∙ same_count old.count small;
    })
  where
    same_count : (c : ℕ) → c ≤ 2 ^ 64 - 1 → c ≡ counted (c + 0)
    same_count c few = omega arith
read_each (frame ∷ frames) old new more took memory small =
    read_on frame frames old took.0 new took.1 more took.2 took.3 memory small (λ rest middle_small. read_each frames took.0 new more rest memory middle_small)

-- a frame has bytes
some_bytes : (frame : FrameValue) (more : List ℕ) → frame_bytes frame ++ more ≢ []
some_bytes frame more = λ none. omega (arith, ap length none)

front_of : {A : Type 0} (P : A → Type 0) (xs ys : List A) → AllByRecursion P (xs ++ ys) → AllByRecursion P xs
front_of P [] ys all = tt
front_of P (x ∷ xs) ys all = (all.0, front_of P xs ys all.1)

last_of : {A : Type 0} (P : A → Type 0) (xs : List A) (y : A) → AllByRecursion P (xs ++ y ∷ []) → P y
last_of P [] y all = all.0
last_of P (x ∷ xs) y all = last_of P xs y all.1

-- behind a frame that brings nothing
bad_begins : (bad : FrameValue) (unread : List ℕ) → IsFrame bad → is_entry (entry_in bad) ≡ false → BeginsNoScriptFrame (frame_bytes bad ++ unread)
bad_begins bad unread fits none = (
  some_bytes bad unread,
  λ frame more frame_fits brings same.
      let agree = heads_agree bad frame unread more fits frame_fits same in
      let wrong : false ≡ true = sym none ∙ ap (λ (f : FrameValue). is_entry (entry_in f)) agree.0 ∙ brings in
      absurd cc,
)

-- a header that says more than there is
over_begins : (bytes : List ℕ) (frames : List FrameValue) (after : Holding) (unread : List ℕ) (len : ℕ) → after.limit ≡ min (length bytes) (2 ^ 24 - 1) → HoldsOver len after
    → bytes ≡ stream_of frames (after.held ++ unread) → BeginsNoScriptFrame (after.held ++ unread)
over_begins bytes frames after unread len limit over stream = (
  λ none. omega (arith, ap length over.header, ap length none, length-append after.held unread),
  λ frame more fits brings same.
      let says : len ≡ length frame.payload =
      sym (payload_length-header over.ext over.kind len unread over.length_fits) ∙ ap payload_length (ap (λ (h : List ℕ). h ++ unread) (sym over.header) ∙ same)
      ∙ ap payload_length (append_assoc (header_of frame.ext frame.kind (length frame.payload)) frame.payload more)
      ∙ payload_length-header frame.ext frame.kind (length frame.payload) (frame.payload ++ more) fits.length_fits in
      omega (
        arith,
        says,
        limit,
        over.over,
        over.length_fits,
        ap length same,
        ap length stream,
        length-append (flat_map frame_bytes frames) (after.held ++ unread),
        length-append (frame_bytes frame) more,
        length-append (header_of frame.ext frame.kind (length frame.payload)) frame.payload,
      ),
)

stream_split : (good : List FrameValue) (bad : FrameValue) (unread : List ℕ) → stream_of (good ++ bad ∷ []) unread ≡ stream_of good (frame_bytes bad ++ unread)
stream_split good bad unread =
    ap (λ (b : List ℕ). b ++ unread) (flat_map-append frame_bytes good (bad ∷ []) ∙ ap (λ (b : List ℕ). flat_map frame_bytes good ++ b) (append-nil (frame_bytes bad)))
    ∙ append_assoc (flat_map frame_bytes good) (frame_bytes bad) unread

-- a script of which no frame was read
abbrev pub fresh_script : List ℕ → ScriptValue
fresh_script bytes = record { bytes = bytes; templates = []; tip = None }

from_none : (c n : ℕ) → c ≡ 0 → counted (c + n) ≡ counted n
from_none c n begins = ap (λ (m : ℕ). counted (m + n)) begins ∙ ap (λ (m : ℕ). counted m) (zero-add n)

-- what was read of the whole bytes
module _ (bytes : List ℕ) (before : Holding) (old new : ScriptReader) (after : Holding) (fresh_held : before.held ≡ []) (small : before.limit ≡ min (length bytes) (2 ^ 24 - 1)) (begins : old.count ≡ 0) (memory : new.lacks_memory ≡ false) where
  same_bytes : bytes ≡ before.held ++ bytes
  same_bytes = sym (ap (λ (h : List ℕ). h ++ bytes) fresh_held)

  pub whole_read : RunsOver TakesScriptFrame before bytes old Done after new → length after.held ≡ 0 → old.script ≡ fresh_script bytes → ReadsScript bytes (Ok new.script)
  whole_read run none fresh =
      let all = rw run.ends.0 at (read_each run.frames old new run.more run.took memory (omega (arith, begins))) in
      let rest : after.held ≡ [] = nil_from_length after.held none in (
        run.frames,
        record { each = run.each; brings = all.brings; stream = same_bytes ∙ run.ends.1.whole ∙ ap (λ (left : List ℕ). stream_of run.frames left) rest },
        all.script ∙ ap (λ (s : ScriptValue). with_frames run.frames s) fresh,
      )

  pub cut_read : RunsOver TakesScriptFrame before bytes old Done after new → after.held ≢ [] → ReadsScript bytes (Err (Bad new.count))
  cut_read run some =
      let all = rw run.ends.0 at (read_each run.frames old new run.more run.took memory (omega (arith, begins))) in (
        run.frames,
        after.held,
        record { each = run.each; brings = all.brings; stream = same_bytes ∙ run.ends.1.whole },
        (some, λ frame more fits brings same. cut_has_no_frame after.held frame more run.ends.2.cut fits same),
        all.count ∙ from_none old.count (length run.frames) begins,
      )

  pub bad_read : RunsOver TakesScriptFrame before bytes old Stopped after new → ReadsScript bytes (Err (Bad new.count))
  bad_read run =
      let all = rw run.ends.0 at (read_each run.frames old new run.more run.took memory (omega (arith, begins))) in
      let each = subst (λ (fs : List FrameValue). AllByRecursion IsFrame fs) all.split run.each in
      let stream : bytes ≡ stream_of all.good (frame_bytes all.bad ++ run.unread) =
      same_bytes ∙ run.stream ∙ ap (λ (h : List ℕ). stream_of run.frames (h ++ run.unread)) run.ends.1 ∙ ap (λ (fs : List FrameValue). stream_of fs run.unread) all.split ∙ stream_split all.good all.bad run.unread in (
        all.good,
        frame_bytes all.bad ++ run.unread,
        record { each = front_of IsFrame all.good (all.bad ∷ []) each; brings = all.brings; stream = stream },
        bad_begins all.bad run.unread (last_of IsFrame all.good all.bad each) all.none,
        all.count ∙ from_none old.count (length all.good) begins,
      )

  pub over_read : (len : ℕ) → RunsOver TakesScriptFrame before bytes old (TooLong len) after new → ReadsScript bytes (Err (Bad new.count))
  over_read len run =
      let all = rw run.ends.0 at (read_each run.frames old new run.more run.took memory (omega (arith, begins))) in (
        run.frames,
        after.held ++ run.unread,
        record { each = run.each; brings = all.brings; stream = same_bytes ∙ run.stream },
        over_begins bytes run.frames after run.unread len (run.limit ∙ small) run.ends.1 (same_bytes ∙ run.stream),
        all.count ∙ from_none old.count (length run.frames) begins,
      )
