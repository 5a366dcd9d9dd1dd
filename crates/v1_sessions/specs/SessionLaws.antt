-- What a session of lines does goes on, whatever comes over its link (this project's own).
use Rattle.std.proofs.Common.{◌≡◌, ℕ, [], take, refl, ◌∙◌}
use Rattle.pool_io.proofs.Stepping.{brought_bytes, brought_none}
use Rattle.pool_network.specs.Seen.{LinkSeen}
use Rattle.pool_history.specs.Calls.{PoolCall}
use Rattle.v2_sessions.proofs.Turns.{end_brings, failed_brings}
use Rattle.session_steps.specs.declared.ends.SessionEnd.{SessionEnd}
use Rattle.session_steps.specs.States.{Reading, end_stage}
use Rattle.line_turns.specs.Hearing.{Hearing, HearsLines}
use Rattle.v1_translate.specs.State.{Terms}
use Rattle.v1_sessions.specs.declared.conversation.LineConversation.{LineConversation}
use Rattle.v1_sessions.specs.Moments.{EndsSo, GoesOnSo, LineMoment, moment_at}
use Rattle.v1_sessions.specs.Standing.{line_state}
use Rattle.v1_sessions.specs.Running.{RunsLines}
use Rattle.v1_sessions.specs.States.{LineState}
use Rattle.v1_sessions.specs.Steps as steps
use Rattle.v1_sessions.specs.Chains.{runs_none, runs_on, runs_quiet, runs_turn}

module _ {A T N : Type 0} (worker : A → ℕ) (does : A → PoolCall → A → Type 0)
    (terms_of : T → Terms) (conversation_of : T → LineConversation) (acting_of : T → A)
    (name_of : T → N) where
  abbrev moment : Hearing T → LineMoment A
  moment h =
      moment_at h.intake (terms_of h.talker) (conversation_of h.talker) (acting_of h.talker)
      h.link

  abbrev pub goes : Hearing T → Hearing T → Type 0
  goes old new =
      (name_of new.talker ≡ name_of old.talker)
      × GoesOnSo worker does (moment old) (moment new)

  abbrev pub over : Hearing T → SessionEnd → Hearing T → Type 0
  over old reason new =
      (name_of new.talker ≡ name_of old.talker)
      × EndsSo worker does (moment old) reason (moment new)

  goes_further : {a b c : LineMoment A} → GoesOnSo worker does a b → GoesOnSo worker does b c
      → GoesOnSo worker does a c
  goes_further first more = record {
    same = more.same ∙ first.same;
    runs = runs_on first.runs (rw first.same at more.runs);
  }

  goes_to_end : {a b c : LineMoment A} {reason : SessionEnd} → GoesOnSo worker does a b
      → EndsSo worker does b reason c → EndsSo worker does a reason c
  goes_to_end first more = record {
    same = more.same ∙ first.same;
    v1 = more.v1;
    runs = runs_on first.runs (rw first.same at more.runs);
  }

  abbrev reading : Hearing T → LineState
  reading h = line_state Reading h.intake (conversation_of h.talker)

  abbrev ended_by : SessionEnd → Hearing T → LineState
  ended_by reason h =
      line_state (end_stage (conversation_of h.talker).entered reason) h.intake
      (conversation_of h.talker)

  ends_at : (h : Hearing T) (link : LinkSeen) (reason : SessionEnd)
      → RunsLines worker does (terms_of h.talker) (reading h) (ended_by reason h) h.link link
      (acting_of h.talker) (acting_of h.talker) → over h reason (record h { link = link })
  ends_at h link reason runs =
      (refl, record { same = refl; v1 = (conversation_of h.talker).v1; runs = runs })

  pub lines_are_heard : HearsLines goes over
  lines_are_heard = record {
    stays = λ h. (refl, record { same = refl; runs = runs_none refl });
    on = λ a b c first more. (more.0 ∙ first.0, goes_further first.1 more.1);
    to_end = λ a b c reason first more. (more.0 ∙ first.0, goes_to_end first.1 more.1);
    brought = λ h count buffer link can came takes.
        let none = brought_none h.link.source.left in
        let brings = brought_bytes h.link.source.left h.link.source.left link.source.left []
        count buffer none takes.turns in (
          refl,
          record {
            same = refl;
            runs = runs_turn (steps.Took (take count buffer)) takes
                (record {
                  can = record {
                    waiting = record { reading = refl; text = can.text };
                    some = can.some;
                  };
                  some = rw came.there came.some;
                  piece = rw came.there came.short;
                  within = rw came.there came.within;
                })
                refl brings tt refl takes.counts refl;
          },
        );
    ended = λ h buffer link can takes.
        let brings = end_brings h.link.source.left link.source.left buffer takes.turns in
        ends_at h link _
        (runs_turn steps.Ended takes
        (record { waiting = record { reading = refl; text = can.text }; some = can.some })
        refl brings.0 brings.1 refl takes.counts refl);
    missed = λ h buffer link can takes.
        let brings = failed_brings h.link.source.left link.source.left buffer takes.turns in
        ends_at h link _
        (runs_turn steps.Missed takes
        (record { waiting = record { reading = refl; text = can.text }; some = can.some })
        refl brings tt refl takes.counts refl);
    spent = λ h text none.
        ends_at h h.link _
        (runs_quiet steps.Spent (record { reading = refl; text = text }, none) refl refl refl
        refl refl (λ n. refl));
    overran = λ h long.
        ends_at h h.link _
        (runs_quiet steps.Overran (record { reading = refl; long = long }) refl refl refl refl
        refl (λ n. refl));
    starved = λ h.
        ends_at h h.link _
        (runs_quiet steps.Starved refl refl refl refl refl refl (λ n. refl));
  }
