-- A reading between its turns.
use Rattle.std.proofs.Common.{◌≡◌, ℕ, ◌+◌, ◌^◌, ◌<◌, ◌≤◌, List, [], ◌∷◌, ◌++◌, length, map, Option, Some, None, refl, sym, ap, ◌∙◌, append_assoc, append-nil, arith, length-append, inl, inr}
use Rattle.std.proofs.lemmas.List.{length-map}
use Rattle.pool_base.specs.Lists.{Begins}
use Rattle.pool_io.specs.declared.turn.Turn.{Turn}
use Rattle.pool_io.specs.declared.source.Took.TheVariants as took
use Rattle.pool_io.specs.Outside.{AddsBytes, TakesTurn}
use Rattle.pool_io.specs.Steps.{ReadStep, bytes_in, steps_of, idles_after, IsFreeBefore, IsIdleOut, IsBytesOut, BringsSteps}
use Rattle.pool_io.proofs.Stepping.{cut_at, bytes_in-more, bytes_in-idle, idles_after-more, idles_after-idle, free_bytes, free_idle, within_limits, brought_none, brought_all}
use Rattle.stream_commands.specs.declared.end.End.{End}
use Rattle.stream_commands.specs.declared.end.End.TheVariants as end
use Rattle.stream_commands.specs.declared.tally.Tally.{Tally}
use Rattle.stream_commands.specs.Limits.{bounds}
use Rattle.stream_commands.specs.Duties.{Duty, IsSoundDuty, RefusesWithin}
use Rattle.stream_commands.specs.Owing.{OwesRefusal, OwesSome, OwesFront, StopsAtRefusal}
use Rattle.stream_commands.specs.Ending.{EndsCommand}
use Rattle.stream_commands.specs.Between.{HasAnswered, EndsAfter, EndsAt, GoesOnOrEnds, TurnsOnOrEnds}
use Rattle.stream_commands.proofs.Fronts.{free_none}
use Rattle.pool_io.proofs.Puts.{Adds-none, Adds-more}
use Rattle.stream_commands.proofs.Staying.{brought_at_end, brought_at_failure}

-- before the first turn
pub answered_first : (HasRead : List ℕ → List ℕ → Type 0) → HasRead [] [] → (before : Option (List ℕ))
    → HasAnswered HasRead record { taken = 0; idles = 0 } before before []
answered_first HasRead read before = record { free = free_none; idles = refl; bytes = refl; given = []; put = Adds-none before; read = read }

-- lack of memory before the first turn
pub memory_first : (duty : Duty) → IsSoundDuty duty → (turns : Option (List Turn)) (before : Option (List ℕ)) → EndsCommand duty turns turns before before end.Memory
memory_first duty sound turns before =
    record { taken = []; within = free_none.0; brought = brought_none turns; given = []; put = Adds-none before; ends = λ told is. (([], inl ([], steps_of told, refl, sound.nothing), ([], refl)), λ out. omega (arith, out)) }

module _ (duty : Duty) (HasRead : List ℕ → List ℕ → Type 0) (so_far : (bytes text : List ℕ) → HasRead bytes text → duty.SoFar bytes text)
    (tally : Tally) (before now : Option (List ℕ)) (steps : List ReadStep) (answered : HasAnswered HasRead tally before now steps) where
  -- what was put is owed for a front of the steps
  front_answered : (all more : List ReadStep) → all ≡ steps ++ more → OwesFront duty all answered.given
  front_answered all more is = (answered.given, inl (steps, more, is, so_far (bytes_in steps) answered.given answered.read), ([], append-nil answered.given))

  pub memory_ends : (more : List ReadStep) → IsFreeBefore bounds (steps ++ more) → (IsIdleOut bounds (steps ++ more) → ⊥) → EndsAfter duty before now (steps ++ more) end.Memory
  memory_ends more within busy = record {
    within = within;
    given = answered.given;
    put = answered.put;
    ends = λ rest. (front_answered ((steps ++ more) ++ rest) (more ++ rest) (append_assoc steps more rest), busy);
  }

  -- nothing more was read
  stops_all : StopsAtRefusal duty steps
  stops_all = record {
    before = steps;
    last = [];
    split = sym (append-nil steps);
    short = omega arith;
    text = answered.given;
    so_far = so_far (bytes_in steps) answered.given answered.read;
  }

  not_idle : IsIdleOut bounds steps → ⊥
  not_idle out = answered.free.1 (inl out)

  pub memory_ends_at : EndsAt duty before now steps end.Memory
  memory_ends_at = record { within = answered.free.0; given = answered.given; put = answered.put; ends = (front_answered steps [] (sym (append-nil steps)), not_idle) }

  -- the last of the Idle answers
  pub idle_ends : tally.idles + 1 ≡ 36000 → EndsAfter duty before now (steps ++ None ∷ []) end.IdleOut
  idle_ends last =
      let reached : IsIdleOut bounds (steps ++ None ∷ []) = omega (arith, last, answered.idles, idles_after-idle steps) in
      let free = free_idle bounds steps answered.free in
      record {
        within = free;
        given = answered.given;
        put = answered.put;
        ends = λ rest. (
          record {
            front = steps ++ None ∷ [];
            rest = rest;
            split = refl;
            owed = rw (bytes_in-idle steps) (so_far (bytes_in steps) answered.given answered.read);
            reached = (reached, free);
          },
          (reached, free),
        );
      }

  -- an Idle answer that isn't the last
  pub answered_idle : tally.idles + 1 < 36000 → tally.taken < 2 ^ 40
      → HasAnswered HasRead record { taken = tally.taken; idles = tally.idles + 1 } before now (steps ++ None ∷ [])
  answered_idle below room =
      let count : idles_after 0 (steps ++ None ∷ []) ≡ tally.idles + 1 = idles_after-idle steps ∙ ap (λ n. n + 1) answered.idles in
      let bytes : length (bytes_in (steps ++ None ∷ [])) ≡ tally.taken = ap length (bytes_in-idle steps) ∙ answered.bytes in
      record {
        free = (free_idle bounds steps answered.free, within_limits bounds (steps ++ None ∷ []) (omega (arith, count)) (omega (arith, bytes)));
        idles = count;
        bytes = bytes;
        given = answered.given;
        put = answered.put;
        read = rw (bytes_in-idle steps) answered.read;
      }

  -- the text that is put at the end of the input
  module _ (after : Option (List ℕ)) (text : List ℕ) where
    pub done_ends_at : duty.Whole (bytes_in steps) (answered.given ++ text) → AddsBytes now after text → EndsAt duty before after steps end.Done
    done_ends_at whole put = record {
      within = answered.free.0;
      given = answered.given ++ text;
      put = Adds-more before now after answered.given text answered.put put;
      ends = (record { owed = whole; free = answered.free }, refl);
    }

    pub cut_ends_at : duty.Cut (bytes_in steps) (answered.given ++ text) → AddsBytes now after text → EndsAt duty before after steps end.Refused
    cut_ends_at cut put = record {
      within = answered.free.0;
      given = answered.given ++ text;
      put = Adds-more before now after answered.given text answered.put put;
      ends = (inr (record { owed = cut; free = answered.free }), stops_all);
    }

    pub whole_some : duty.Whole (bytes_in steps) (answered.given ++ text) → OwesSome duty steps (answered.given ++ text)
    whole_some whole = inr (inr (record { owed = whole; free = answered.free }))

    pub cut_some : duty.Cut (bytes_in steps) (answered.given ++ text) → OwesSome duty steps (answered.given ++ text)
    cut_some cut = inr (inl (inr (record { owed = cut; free = answered.free })))

    -- a put of a text that failed: the sink has a front of it
    front_owed : (all : List ReadStep) (front : List ℕ) → OwesSome duty all (answered.given ++ text) → Begins front text → OwesFront duty all (answered.given ++ front)
    front_owed all front owed begins =
        (answered.given ++ text, owed, (begins.0, append_assoc answered.given front begins.0 ∙ ap (λ l. answered.given ++ l) begins.1))

    module _ (put : (front : List ℕ) × Begins front text × AddsBytes now after front) where
      added : AddsBytes before after (answered.given ++ put.0)
      added = Adds-more before now after answered.given put.0 answered.put put.2

      pub put_fault_ends_at : OwesSome duty steps (answered.given ++ text) → EndsAt duty before after steps end.WriteFault
      put_fault_ends_at owed = record { within = answered.free.0; given = answered.given ++ put.0; put = added; ends = front_owed steps put.0 owed put.1 }

      pub put_memory_ends_at : OwesSome duty steps (answered.given ++ text) → EndsAt duty before after steps end.Memory
      put_memory_ends_at owed = record { within = answered.free.0; given = answered.given ++ put.0; put = added; ends = (front_owed steps put.0 owed put.1, not_idle) }

  -- a piece came, and the command told a text
  module _ (piece text : List ℕ) (some : 0 < length piece) (room : tally.taken + length piece ≤ 2 ^ 40) (few : length piece ≤ 4096) where
    room_left : length (bytes_in steps) + length piece ≤ 2 ^ 40
    room_left = rw answered.bytes room

    pub piece_within : IsFreeBefore bounds (steps ++ map Some piece)
    piece_within = free_bytes bounds steps answered.free piece (omega arith) room_left

    pub piece_busy : IsIdleOut bounds (steps ++ map Some piece) → ⊥
    piece_busy out = omega (arith, out, idles_after-more steps piece some)

    -- nothing more was read than the piece
    stops_piece : StopsAtRefusal duty (steps ++ map Some piece)
    stops_piece = record {
      before = steps;
      last = map Some piece;
      split = refl;
      short = omega (arith, few, length-map piece (λ (b : ℕ). Some b));
      text = answered.given;
      so_far = so_far (bytes_in steps) answered.given answered.read;
    }

    -- a put of the text that failed
    module _ (after : Option (List ℕ)) (put : (front : List ℕ) × Begins front text × AddsBytes now after front)
        (owed : (rest : List ReadStep) → OwesSome duty ((steps ++ map Some piece) ++ rest) (answered.given ++ text)) where
      front_put : (rest : List ReadStep) → OwesFront duty ((steps ++ map Some piece) ++ rest) (answered.given ++ put.0)
      front_put rest = front_owed after text ((steps ++ map Some piece) ++ rest) put.0 (owed rest) put.1

      pub put_fault_ends : EndsAfter duty before after (steps ++ map Some piece) end.WriteFault
      put_fault_ends = record { within = piece_within; given = answered.given ++ put.0; put = added after text put; ends = front_put }

      pub put_memory_ends : EndsAfter duty before after (steps ++ map Some piece) end.Memory
      put_memory_ends = record { within = piece_within; given = answered.given ++ put.0; put = added after text put; ends = λ rest. (front_put rest, piece_busy) }

    pub short : length (bytes_in steps ++ piece) ≤ 2 ^ 40
    short = omega (arith, room_left, length-append (bytes_in steps) piece)

    refusal : RefusesWithin HasRead duty.Refused piece [] text → (rest : List ReadStep) → OwesRefusal duty ((steps ++ map Some piece) ++ rest) (answered.given ++ text)
    refusal refused rest =
        let shorter : length (bytes_in steps) + length refused.front ≤ 2 ^ 40 = omega (arith, room_left, ap length refused.split, length-append refused.front refused.rest) in
        let read : HasRead (bytes_in steps) (answered.given ++ []) = rw (append-nil answered.given) answered.read in
        record {
          front = steps ++ map Some refused.front;
          rest = map Some refused.rest ++ rest;
          split = cut_at steps piece refused.front refused.rest rest refused.split;
          owed = rw (bytes_in-more steps refused.front) (refused.owed (bytes_in steps) answered.given short read);
          free = free_bytes bounds steps answered.free refused.front (omega arith) shorter;
        }

    pub refused_some : RefusesWithin HasRead duty.Refused piece [] text → (rest : List ReadStep) → OwesSome duty ((steps ++ map Some piece) ++ rest) (answered.given ++ text)
    refused_some refused rest = inr (inl (inl (refusal refused rest)))

    pub refused_ends : (after : Option (List ℕ)) → RefusesWithin HasRead duty.Refused piece [] text → AddsBytes now after text
        → EndsAfter duty before after (steps ++ map Some piece) end.Refused
    refused_ends after refused put = record {
      within = piece_within;
      given = answered.given ++ text;
      put = Adds-more before now after answered.given text answered.put put;
      ends = λ rest. (inl (refusal refused rest), stops_piece);
    }

    -- the command goes on, as another one
    module _ (HasReadMore : List ℕ → List ℕ → Type 0) (so_far_more : (bytes given : List ℕ) → HasReadMore bytes given → duty.SoFar bytes given)
        (read : HasReadMore (bytes_in steps ++ piece) (answered.given ++ text)) where
      owed : duty.SoFar (bytes_in (steps ++ map Some piece)) (answered.given ++ text)
      owed = rw (bytes_in-more steps piece) (so_far_more (bytes_in steps ++ piece) (answered.given ++ text) read)

      pub read_some : (rest : List ReadStep) → OwesSome duty ((steps ++ map Some piece) ++ rest) (answered.given ++ text)
      read_some rest = inl (steps ++ map Some piece, rest, refl, owed)

      module _ (after : Option (List ℕ)) (put : AddsBytes now after text) where
        pub bytes_end : length (bytes_in steps) + length piece ≡ 2 ^ 40 → EndsAfter duty before after (steps ++ map Some piece) end.BytesOut
        bytes_end all =
            let reached : IsBytesOut bounds (steps ++ map Some piece) = omega (arith, all, ap length (bytes_in-more steps piece), length-append (bytes_in steps) piece) in
            let free = free_bytes bounds steps answered.free piece (omega arith) room_left in
            record {
              within = free;
              given = answered.given ++ text;
              put = Adds-more before now after answered.given text answered.put put;
              ends = λ rest. (
                record { front = steps ++ map Some piece; rest = rest; split = refl; owed = owed; reached = (reached, free) },
                (reached, free),
              );
            }

        pub answered_more : length (bytes_in steps) + length piece < 2 ^ 40
            → HasAnswered HasReadMore record { taken = tally.taken + length piece; idles = 0 } before after (steps ++ map Some piece)
        answered_more below =
            let bytes : length (bytes_in (steps ++ map Some piece)) ≡ length (bytes_in steps) + length piece =
            ap length (bytes_in-more steps piece) ∙ length-append (bytes_in steps) piece in
            let none : idles_after 0 (steps ++ map Some piece) ≡ 0 = idles_after-more steps piece some in
            record {
              free = (
                free_bytes bounds steps answered.free piece (omega arith) room_left,
                within_limits bounds (steps ++ map Some piece) (omega (arith, none)) (omega (arith, bytes)),
              );
              idles = none;
              bytes = bytes ∙ ap (λ n. n + length piece) answered.bytes;
              given = answered.given ++ text;
              put = Adds-more before now after answered.given text answered.put put;
              read = rw (bytes_in-more steps piece) read;
            }

-- what happened after the steps happened in the run
pub turns_on : (duty : Duty) (HasRead : List ℕ → List ℕ → Type 0) (tally : Tally) (turns left : Option (List Turn)) (before now : Option (List ℕ)) (steps : List ReadStep) (result : Option End)
    → BringsSteps turns left steps → GoesOnOrEnds duty HasRead tally before now steps result → TurnsOnOrEnds duty HasRead tally turns left before now result
turns_on duty HasRead tally turns left before now steps None brought answered = record { steps = steps; brought = brought; answered = answered }
turns_on duty HasRead tally None left before now steps (Some end) brought ends =
    record { taken = steps; brought = brought; given = ends.given; put = ends.put; ends = λ told is. cc; within = ends.within }
turns_on duty HasRead tally (Some turns) left before now steps (Some end) brought ends = record {
  taken = steps;
  within = ends.within;
  brought = brought;
  given = ends.given;
  put = ends.put;
  ends = λ told is.
      let same : turns ≡ told = cc in
      rw (← same, brought.2) (ends.ends (steps_of brought.0));
}

-- the end of the input
pub turns_to_end : (duty : Duty) (turns old left : Option (List Turn)) (before now : Option (List ℕ)) (steps : List ReadStep) (buffer : List ℕ) (end : End)
    → BringsSteps turns old steps → TakesTurn old left took.End buffer → EndsAt duty before now steps end → EndsCommand duty turns left before now end
turns_to_end duty None old left before now steps buffer end brought takes ends =
    record { taken = steps; brought = tt; given = ends.given; put = ends.put; ends = λ told is. cc; within = ends.within }
turns_to_end duty (Some turns) old left before now steps buffer end brought takes ends = record {
  taken = steps;
  within = ends.within;
  brought = brought_at_end (Some turns) old left steps buffer brought takes;
  given = ends.given;
  put = ends.put;
  ends = λ told is.
      let same : turns ≡ told = cc in
      rw (← same, brought_all turns old left steps buffer brought takes) ends.ends;
}

-- a failed read leaves the turns
pub turns_to_fault : (duty : Duty) (HasRead : List ℕ → List ℕ → Type 0) → ((bytes text : List ℕ) → HasRead bytes text → duty.SoFar bytes text)
    → (tally : Tally) (turns old left : Option (List Turn)) (before now : Option (List ℕ)) (steps : List ReadStep) (buffer : List ℕ)
    → BringsSteps turns old steps → TakesTurn old left took.Failed buffer → HasAnswered HasRead tally before now steps → EndsCommand duty turns left before now end.ReadFault
turns_to_fault duty HasRead so_far tally turns old left before now steps buffer brought takes answered = record {
  taken = steps;
  within = answered.free.0;
  brought = brought_at_failure turns old left steps buffer brought takes;
  given = answered.given;
  put = answered.put;
  ends = λ told is. record { owed = so_far (bytes_in steps) answered.given answered.read; free = answered.free };
}
