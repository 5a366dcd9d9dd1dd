-- The frames of a stream, one after the other.
use Rattle.std.proofs.Common.{◌≡◌, ◌≢◌, ℕ, ◌<◌, ◌≤◌, ◌^◌, List, [], ◌∷◌, ◌++◌, length, take, refl, sym, ap, ◌∙◌, append_assoc, append-nil, arith, length-append, inl, inr}
use Rattle.std.proofs.lemmas.List.{take-append-le}
use Rattle.std.proofs.lemmas.Bool.{cases_lt}
use Rattle.sv2_messages.specs.declared.kinds.TheConstants as kinds
use Rattle.sv2_frames.specs.Framing.{header_of, frame_of, payload_length}
use Rattle.sv2_frames.specs.Holding.{Holding, IsCut, IsHeldFrame}
use Rattle.sv2_frames.proofs.Cutting.{payload_length-header}
use Rattle.mining_msgs.specs.declared.shares.SubmitSharesStandard.{SubmitSharesStandard}
use Rattle.stream_programs.specs.declared.judge.Job.{Job}
use Rattle.stream_programs.specs.Submitting.{SpellShares, IsShareFrame, IsShareHeader, BeginsShare, IsPartialShare, HasFourByteFields, share_payload}
use Rattle.stream_programs.specs.declared.stream.FixedJob.{FixedJob}
use Rattle.stream_programs.specs.Judging.{HoldsRest, HasAnsweredShares, RemembersCredits}
use Rattle.stream_programs.specs.OneReading.{SpellShares-more}
use Rattle.stream_programs.specs.Answers.{answer_of, answers_after, answers_to, first_refusal}

-- where the rest is a frame, it is one more submission
pub SpellShares-whole : (bytes : List ℕ) (shares : List SubmitSharesStandard) (frame : List ℕ) (s : SubmitSharesStandard) → SpellShares bytes shares frame → IsShareFrame frame s
    → SpellShares bytes (shares ++ s ∷ []) []
SpellShares-whole bytes [] frame s spelled is = (frame, [], is, spelled ∙ sym (append-nil frame), refl)
SpellShares-whole bytes (t ∷ later) frame s (first, after, first_is, split, tail) is =
    (first, after, first_is, split, SpellShares-whole after later frame s tail is)

-- the answers to one submission more
pub answers_after-more : (class : ℕ) (job : Job) (earlier later : List SubmitSharesStandard) (s : SubmitSharesStandard)
    → answers_after class job earlier (later ++ s ∷ [])
    ≡ answers_after class job earlier later ++ answer_of class s (first_refusal class job (earlier ++ later) s)
unfolding answers_after
answers_after-more class job earlier [] s =
    append-nil (answer_of class s (first_refusal class job earlier s))
    ∙ ap (λ e. answer_of class s (first_refusal class job e s)) (sym (append-nil earlier))
answers_after-more class job earlier (t ∷ later) s =
    let first = answer_of class t (first_refusal class job earlier t) in
    let middle = answers_after class job (earlier ++ t ∷ []) later in
    ap (λ a. first ++ a) (answers_after-more class job (earlier ++ t ∷ []) later s)
    ∙ sym (append_assoc first middle (answer_of class s (first_refusal class job ((earlier ++ t ∷ []) ++ later) s)))
    ∙ ap (λ e. (first ++ middle) ++ answer_of class s (first_refusal class job e s)) (append_assoc earlier (t ∷ []) later)

pub answers_to-more : (class : ℕ) (job : Job) (shares : List SubmitSharesStandard) (s : SubmitSharesStandard)
    → answers_to class job (shares ++ s ∷ []) ≡ answers_to class job shares ++ answer_of class s (first_refusal class job shares s)
answers_to-more class job shares s = answers_after-more class job [] shares s

-- where both say their lengths, a header that begins a frame says the length of its payload
header_says : (ext kind : ℕ) (payload rest held : List ℕ) → held ++ rest ≡ frame_of ext kind payload → length payload < 2 ^ 24 → 6 ≤ length held
    → IsShareHeader (take 6 held) → length payload ≡ 24
header_says ext kind payload rest held whole fits long header =
    let front : take 6 held ≡ header_of ext kind (length payload) = sym (take-append-le 6 held rest long) ∙ ap (take 6) whole in
    let says : payload_length (header_of ext kind (length payload)) ≡ payload_length (header_of header.0 kinds.SUBMIT_SHARES_STANDARD 24) = ap payload_length (sym front ∙ header.2) in
    sym (payload_length-header ext kind (length payload) [] fits) ∙ says ∙ payload_length-header header.0 kinds.SUBMIT_SHARES_STANDARD 24 [] (omega arith)

-- a whole frame that begins as a share's, with a share's payload, is one
pub frame_from : (holding : Holding) (ext kind : ℕ) (payload : List ℕ) (s : SubmitSharesStandard) → IsHeldFrame ext kind payload holding
    → BeginsShare holding.held → payload ≡ share_payload s → HasFourByteFields s → IsShareFrame holding.held s
frame_from holding ext kind payload s held begins spelled fits =
    let long : 6 ≤ length holding.held = omega (arith, ap length held.whole) in
    let header = begins long in
    let front : take 6 holding.held ≡ header_of ext kind (length payload) = ap (take 6) held.whole in
    record {
      ext = header.0;
      bit = header.1;
      fits = fits;
      spelled = held.whole ∙ ap (λ h. h ++ payload) (sym front ∙ header.2) ∙ ap (λ p. header_of header.0 kinds.SUBMIT_SHARES_STANDARD 24 ++ p) spelled;
    }

-- a proper prefix of a frame that begins as a share's is shorter than that
pub partial_from : (held : List ℕ) → IsCut held → BeginsShare held → IsPartialShare held
partial_from held cut begins = record {
  short = elim (cases_lt (length held) 6) [
    | inl few ↦ omega arith
    | inr long ↦
        let frame = cut.frame in
        let says = header_says frame.ext frame.kind frame.payload cut.missing held cut.whole cut.fits.length_fits long (begins long) in
        omega (arith, says, ap length cut.whole, length-append held cut.missing, missing_some cut.missing cut.some)
  ];
  header = begins;
}
  where
    missing_some : (missing : List ℕ) → missing ≢ [] → 0 < length missing
    missing_some [] some = absurd (some refl)
    missing_some (byte ∷ missing) some = omega arith

-- a whole frame was judged and answered
pub judged : (old new : FixedJob) (s : SubmitSharesStandard) → IsShareFrame old.splitter.held s → new.splitter ≡ record old.splitter { held = [] }
    → new.judge.class ≡ old.judge.class → new.judge.job ≡ old.judge.job
    → (bytes given was now : List ℕ) (holds : HoldsRest bytes (given ++ was) old)
    → now ≡ was ++ answer_of old.judge.class s (first_refusal old.judge.class old.judge.job holds.shares s)
    → RemembersCredits new.judge (holds.shares ++ s ∷ [])
    → HasAnsweredShares bytes (given ++ now) new
judged old new s frame splitter class job bytes given was now holds more remembers =
    let shares = holds.shares in
    let answer = answer_of old.judge.class s (first_refusal old.judge.class old.judge.job shares s) in
    record {
      holds = record {
        shares = shares ++ s ∷ [];
        spelled = rw splitter (SpellShares-whole bytes shares old.splitter.held s holds.spelled frame);
        limit = rw splitter holds.limit;
        answered =
            ap (λ a. given ++ a) more
            ∙ sym (append_assoc given was answer)
            ∙ ap (λ a. a ++ answer) holds.answered
            ∙ sym (answers_to-more old.judge.class old.judge.job shares s)
            ∙ sym (ap (λ z. answers_to z new.judge.job (shares ++ s ∷ [])) class ∙ ap (λ j. answers_to old.judge.class j (shares ++ s ∷ [])) job);
        remembers = remembers;
      };
      partial = rw splitter (record { short = omega arith; header = λ long. absurd (omega arith) });
    }

-- nothing was read yet
pub answers_none : (job : FixedJob) → job.splitter ≡ record { held = []; limit = 24 } → RemembersCredits job.judge [] → HasAnsweredShares [] [] job
unfolding answers_after
answers_none job splitter remembers = record {
  holds = record {
    shares = [];
    spelled = rw splitter refl;
    limit = rw splitter refl;
    answered = refl;
    remembers = remembers;
  };
  partial = rw splitter (record { short = omega arith; header = λ long. absurd (omega arith) });
}

-- some bytes more were taken
pub fed_holds : (old fed : FixedJob) (more : List ℕ) → fed.splitter.held ≡ old.splitter.held ++ more → fed.splitter.limit ≡ old.splitter.limit → fed.judge ≡ old.judge
    → (bytes text : List ℕ) → HasAnsweredShares bytes text old → HoldsRest (bytes ++ more) text fed
fed_holds old fed more held limit judge bytes text answered = record {
  shares = answered.holds.shares;
  spelled = rw held (SpellShares-more bytes answered.holds.shares old.splitter.held more answered.holds.spelled);
  limit = limit ∙ answered.holds.limit;
  answered = rw judge answered.holds.answered;
  remembers = rw judge answered.holds.remembers;
}
