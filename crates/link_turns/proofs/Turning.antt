-- A talk goes on by one turn of its link.
use Rattle.std.proofs.Common.{◌≡◌, ℕ, ◌+◌, ◌<◌, ◌≤◌, ◌++◌, List, [], ◌∷◌, Option, Some, None, length, take, refl, ap, subst, ◌∙◌, append_assoc, append-nil, length-append, arith, ◌⊎◌, inl, inr}
use Rattle.std.specs.Prelude.{IfNone}
use Rattle.std.proofs.Math.Seq.{take-length}
use Rattle.pool_base.specs.Lists.{Begins}
use Rattle.pool_io.specs.declared.source.Took.TheVariants as took
use Rattle.pool_io.specs.declared.turn.Turn.{Turn}
use Rattle.pool_io.specs.declared.turn.Turn.TheVariants as turn
use Rattle.pool_io.specs.Seen.{SinkSeen, SourceSeen}
use Rattle.pool_io.specs.Outside.{AddsBytes, TakesTurn}
use Rattle.pool_io.specs.Steps.{Bounds, IsFreeBefore, bytes_in}
use Rattle.pool_io.proofs.Stepping.{bytes_in-idle, bytes_in-more, free_bytes, free_idle, idles_after-idle, idles_after-more, within_limits}
use Rattle.pool_network.specs.Seen.{LinkSeen}
use Rattle.pool_io.proofs.Puts.{Adds-more}
use Rattle.link_turns.specs.declared.talking.TalkEnd.{TalkEnd}
use Rattle.link_turns.specs.declared.talking.TalkEnd.TheVariants as end
use Rattle.link_turns.specs.declared.waiting.Waiting.{Waiting}
use Rattle.link_turns.specs.Partners.{HasTakenOrEnded}
use Rattle.link_turns.specs.Talks.{Answers, EndedFor, EndsTalk, EndsWith, Finishes, HasCounted, IsTalking, TakenFor, TakesTurns, TalksOnOrEnds, steps_taken}
use Rattle.link_turns.specs.Waits.{IsBelowLimits, IsLimitOf, TakesOf, waiting_after}

-- what a partner said to a turn, when it had said nothing else to it, is said for its task
pub said_for : {S T E : Type 0} (asked : S → T) (task : T) (has_taken : S → List Turn → List ℕ → Type 0) (has_ended : S → List Turn → List ℕ → E → Type 0)
    (old new : S) (one : Turn) (none words : List ℕ) (ended : Option E) → none ≡ [] → asked new ≡ asked old
    → ((past : List Turn) (given : List ℕ) → has_taken old past (given ++ none) → HasTakenOrEnded has_taken has_ended new (one ∷ past) (given ++ words) ended)
    → (past : List Turn) (said : List ℕ) → TakenFor asked task has_taken old past said
    → HasTakenOrEnded (TakenFor asked task has_taken) (EndedFor asked task has_ended) new (one ∷ past) (said ++ words) ended
said_for asked task has_taken has_ended old new one none words None nil same told past said taken =
    (same ∙ taken.0, told past said (rw (nil, append-nil said) taken.1))
said_for asked task has_taken has_ended old new one none words (Some reason) nil same told past said taken =
    (same ∙ taken.0, told past said (rw (nil, append-nil said) taken.1))

-- one turn more was taken
turns_bytes : (a b c : Option (List Turn)) (past : List Turn) (n : ℕ) (buffer : List ℕ) → length (take n buffer) ≡ n → 0 < n → n ≤ 4096
    → TakesTurns a b past → TakesTurn b c (took.Bytes n) buffer → TakesTurns a c (turn.Piece (take n buffer) ∷ past)
turns_bytes None b c past n buffer len some short taken takes = tt
turns_bytes (Some told) b c past n buffer len some short taken takes =
    let more = rw taken.1 at takes in
    let whole : take n (take n buffer) ≡ take n buffer = subst (λ m. take m (take n buffer) ≡ take n buffer) len (take-length (take n buffer)) in (
      more.0,
      more.1,
      (
        taken.0,
        taken.2,
        (
          rw len some,
          rw len short,
          rw len (record {
            piece = more.2.piece;
            later = more.2.later;
            next = more.2.next;
            enough = more.2.enough;
            taken = whole ∙ more.2.taken;
            rest = more.2.rest;
          }),
        ),
      ),
    )

turns_idle : (a b c : Option (List Turn)) (past : List Turn) (buffer : List ℕ)
    → TakesTurns a b past → TakesTurn b c took.Idle buffer → TakesTurns a c (turn.Idle ∷ past)
turns_idle None b c past buffer taken takes = tt
turns_idle (Some told) b c past buffer taken takes =
    let more = rw taken.1 at takes in (more.0, more.1, (taken.0, taken.2, more.2))

turns_end : (a b c : Option (List Turn)) (past : List Turn) (buffer : List ℕ)
    → TakesTurns a b past → TakesTurn b c took.End buffer → TakesTurns a c (turn.End ∷ past)
turns_end None b c past buffer taken takes = tt
turns_end (Some told) b c past buffer taken takes =
    let more = rw taken.1 at takes in (more.0, more.1, (taken.0, taken.2, more.2))

turns_same : (a b c : Option (List Turn)) (past : List Turn) (buffer : List ℕ)
    → TakesTurns a b past → TakesTurn b c took.Failed buffer → TakesTurns a c past
turns_same None b c past buffer taken takes = tt
turns_same (Some told) b c past buffer taken takes =
    let more = rw taken.1 at takes in (more.0, more.1, rw more.2 taken.2)

-- turns that were taken, the last of which may reach a limit
pub record HasTurned (bounds : Bounds) (waiting : Waiting) (first now : LinkSeen) (past : List Turn) : Type 0 where
  pub took : TakesTurns first.source.left now.source.left past
  pub within : IsFreeBefore bounds (steps_taken past)
  pub counts : HasCounted bounds waiting (steps_taken past)

module _ {S : Type 0} (has_taken : S → List Turn → List ℕ → Type 0) (bounds : Bounds) (waiting : Waiting) (first l l' : LinkSeen) (partner : S)
    (talking : IsTalking has_taken bounds waiting first l partner) (below : IsBelowLimits waiting) (buffer : List ℕ) where
  pub turned_bytes : (n : ℕ) → length (take n buffer) ≡ n → 0 < n → n ≤ 4096 → n ≤ waiting.bytes → TakesOf (took.Bytes n) buffer l l'
      → HasTurned bounds (waiting_after (took.Bytes n) waiting) first l' (turn.Piece (take n buffer) ∷ talking.past)
  turned_bytes n len some short fits takes =
      let steps = steps_taken talking.past in
      let bytes = take n buffer in
      let positive : 0 < length bytes = omega (arith, len, some) in
      let turns : 0 < bounds.idle_turns = omega (arith, talking.counts.idles, below.waits) in
      let room : length (bytes_in steps) + length bytes ≤ bounds.bytes = omega (arith, len, fits, talking.counts.bytes) in
      record {
        took = turns_bytes first.source.left l.source.left l'.source.left talking.past n buffer len some short talking.took takes.turns;
        within = free_bytes bounds steps talking.free bytes turns room;
        counts = record {
          turns = talking.counts.turns;
          idles = omega (arith, idles_after-more steps bytes positive, talking.counts.turns);
          bytes = omega (arith, ap length (bytes_in-more steps bytes), length-append (bytes_in steps) bytes, len, fits, talking.counts.bytes);
        };
      }

  pub turned_idle : TakesOf took.Idle buffer l l' → HasTurned bounds (waiting_after took.Idle waiting) first l' (turn.Idle ∷ talking.past)
  turned_idle takes =
      let steps = steps_taken talking.past in
      record {
        took = turns_idle first.source.left l.source.left l'.source.left talking.past buffer talking.took takes.turns;
        within = free_idle bounds steps talking.free;
        counts = record {
          turns = talking.counts.turns;
          idles = omega (arith, idles_after-idle steps, talking.counts.idles, below.waits);
          bytes = omega (arith, ap length (bytes_in-idle steps), talking.counts.bytes);
        };
      }

  -- the input has ended, and so has the partner
  pub ends_input : {E : Type 0} (has_ended : S → List Turn → List ℕ → E → Type 0) (new : S) (reason : E) → TakesOf took.End buffer l l'
      → ((past : List Turn) (said : List ℕ) → has_taken partner past said → has_ended new (turn.End ∷ past) said reason)
      → EndsTalk has_taken has_ended bounds first l' new (end.Ended reason)
  ends_input has_ended new reason takes told = record {
    past = turn.End ∷ talking.past;
    took = turns_end first.source.left l.source.left l'.source.left talking.past buffer talking.took takes.turns;
    within = talking.free.0;
    put = talking.put;
    added = rw (ap (λ (s : SinkSeen). s.held) takes.sink) talking.added;
    ends = told talking.past talking.put talking.is_said;
  }

  -- the link failed
  pub ends_read : {E : Type 0} (has_ended : S → List Turn → List ℕ → E → Type 0) → TakesOf took.Failed buffer l l'
      → EndsTalk has_taken has_ended bounds first l' partner end.ReadFault
  ends_read has_ended takes = record {
    past = talking.past;
    took = turns_same first.source.left l.source.left l'.source.left talking.past buffer talking.took takes.turns;
    within = talking.free.0;
    put = talking.put;
    added = rw (ap (λ (s : SinkSeen). s.held) takes.sink) talking.added;
    ends = (talking.is_said, talking.free.1);
  }

-- what was put is a front of what was said
front_more : (said front words : List ℕ) → Begins front words → Begins (said ++ front) (said ++ words)
front_more said front words begins = (begins.0, append_assoc said front begins.0 ∙ ap (λ l. said ++ l) begins.1)

module _ {S E : Type 0} (has_taken : S → List Turn → List ℕ → Type 0) (has_ended : S → List Turn → List ℕ → E → Type 0) (bounds : Bounds) (waiting : Waiting)
    (first now : LinkSeen) (partner : S) (past : List Turn) (turned : HasTurned bounds waiting first now past)
    (held : Option (List ℕ)) (said : List ℕ) (before : AddsBytes first.sink.held held said) where
  answered : (words : List ℕ) (ended : Option E) → HasTakenOrEnded has_taken has_ended partner past (said ++ words) ended
      → (result : Option (TalkEnd E)) → Finishes words ended waiting held now.sink.held result
      → TalksOnOrEnds has_taken has_ended bounds waiting first now partner result
  answered words ended is_said None finishes = record {
    past = past;
    took = turned.took;
    put = said ++ words;
    added = Adds-more first.sink.held held now.sink.held said words before finishes.0;
    is_said = subst (HasTakenOrEnded has_taken has_ended partner past (said ++ words)) finishes.1 is_said;
    counts = turned.counts;
    free = (
      turned.within,
      within_limits bounds (steps_taken past) (omega (arith, turned.counts.idles, finishes.2.0)) (omega (arith, turned.counts.bytes, finishes.2.1)),
    );
  }
  answered words ended is_said (Some (end.Ended reason)) finishes = record {
    past = past;
    took = turned.took;
    within = turned.within;
    put = said ++ words;
    added = Adds-more first.sink.held held now.sink.held said words before finishes.0;
    ends = subst (HasTakenOrEnded has_taken has_ended partner past (said ++ words)) finishes.1 is_said;
  }
  answered words ended is_said (Some end.IdleOut) finishes = record {
    past = past;
    took = turned.took;
    within = turned.within;
    put = said ++ words;
    added = Adds-more first.sink.held held now.sink.held said words before finishes.0;
    ends = (
      subst (HasTakenOrEnded has_taken has_ended partner past (said ++ words)) finishes.1 is_said,
      omega (arith, turned.counts.idles, finishes.2),
    );
  }
  answered words ended is_said (Some end.BytesOut) finishes = record {
    past = past;
    took = turned.took;
    within = turned.within;
    put = said ++ words;
    added = Adds-more first.sink.held held now.sink.held said words before finishes.0;
    ends = (
      subst (HasTakenOrEnded has_taken has_ended partner past (said ++ words)) finishes.1 is_said,
      omega (arith, turned.counts.bytes, finishes.2.1),
    );
  }
  answered words ended is_said (Some end.ReadFault) finishes = absurd finishes
  answered words ended is_said (Some end.WriteFault) finishes = record {
    past = past;
    took = turned.took;
    within = turned.within;
    put = said ++ finishes.0;
    added = Adds-more first.sink.held held now.sink.held said finishes.0 before finishes.2;
    ends = record { said = said ++ words; reason = ended; front = front_more said finishes.0 words finishes.1; is_said = is_said };
  }
  answered words ended is_said (Some end.Memory) finishes = record {
    past = past;
    took = turned.took;
    within = turned.within;
    put = said ++ finishes.0;
    added = Adds-more first.sink.held held now.sink.held said finishes.0 before finishes.2;
    ends = inl (record { said = said ++ words; reason = ended; front = front_more said finishes.0 words finishes.1; is_said = is_said });
  }

  pub answers : (result : Option (TalkEnd E)) → Answers has_taken has_ended waiting partner past said held now.sink.held result
      → TalksOnOrEnds has_taken has_ended bounds waiting first now partner result
  answers result a = answered a.words a.ended a.is_said result a.finishes

-- the partner answered a turn, or had no memory for that
pub turned_on : {S E : Type 0} (has_taken : S → List Turn → List ℕ → Type 0) (has_ended : S → List Turn → List ℕ → E → Type 0) (bounds : Bounds) (waiting : Waiting)
    (first now : LinkSeen) (old new : S) (one : Turn) (past : List Turn) → HasTurned bounds waiting first now (one ∷ past) → (held : Option (List ℕ)) (said : List ℕ)
    → AddsBytes first.sink.held held said → has_taken old past said → (result : Option (TalkEnd E))
    → Answers has_taken has_ended waiting new (one ∷ past) said held now.sink.held result ⊎ ((result ≡ Some end.Memory) × (now.sink.held ≡ held))
    → TalksOnOrEnds has_taken has_ended bounds waiting first now new result
turned_on has_taken has_ended bounds waiting first now old new one past turned held said before taken result (inl a) =
    answers has_taken has_ended bounds waiting first now new (one ∷ past) turned held said before result a
turned_on has_taken has_ended bounds waiting first now old new one past turned held said before taken result (inr (is, same)) =
    rw is
    (record {
      past = one ∷ past;
      took = turned.took;
      within = turned.within;
      put = said;
      added = rw same before;
      ends = inr (old, taken);
    })

pub turned_at : (bounds : Bounds) (waiting waiting' : Waiting) (first middle now : LinkSeen) (past : List Turn) → HasTurned bounds waiting first middle past
    → waiting' ≡ waiting → now.source ≡ middle.source → HasTurned bounds waiting' first now past
turned_at bounds waiting waiting' first middle now past turned same source = record {
  took = rw (ap (λ (s : SourceSeen). s.left) source) turned.took;
  within = turned.within;
  counts = rw same turned.counts;
}

pub below_if : {R : Type 0} (result : Option R) (waiting : Waiting) → waiting.idles ≤ waiting.idle_turns → IfNone result (IsLimitOf waiting None) → IfNone result (IsBelowLimits waiting)
below_if None waiting most below = record { some = below.1; waits = below.0; most = most }
below_if (Some _) waiting most below = tt

-- no turn was taken yet
turns_none : (a : Option (List Turn)) → TakesTurns a a []
turns_none None = tt
turns_none (Some told) = (told, refl, refl)

nothing_before : (bounds : Bounds) → IsFreeBefore bounds []
nothing_before bounds [] step rest split at = cc
nothing_before bounds (x ∷ front) step rest split at = cc

module _ {S : Type 0} (has_taken : S → List Turn → List ℕ → Type 0) (bounds : Bounds) (first now : LinkSeen) (partner : S) (source : now.source ≡ first.source) where
  pub begins : (waiting : Waiting) (words : List ℕ) → AddsBytes first.sink.held now.sink.held words → has_taken partner [] words → HasCounted bounds waiting [] → IsBelowLimits waiting
      → IsTalking has_taken bounds waiting first now partner
  begins waiting words added said counts below = record {
    past = [];
    took = rw (ap (λ (s : SourceSeen). s.left) source) (turns_none first.source.left);
    put = words;
    added = added;
    is_said = said;
    counts = counts;
    free = (
      nothing_before bounds,
      within_limits bounds [] (omega (arith, counts.idles, below.waits)) (omega (arith, counts.bytes, below.some)),
    );
  }

  pub ends_first : {E : Type 0} (has_ended : S → List Turn → List ℕ → E → Type 0) (reason : TalkEnd E) (put : List ℕ) → AddsBytes first.sink.held now.sink.held put
      → EndsWith has_taken has_ended bounds partner [] put reason → EndsTalk has_taken has_ended bounds first now partner reason
  ends_first has_ended reason put added ends = record {
    past = [];
    took = rw (ap (λ (s : SourceSeen). s.left) source) (turns_none first.source.left);
    within = nothing_before bounds;
    put = put;
    added = added;
    ends = ends;
  }
