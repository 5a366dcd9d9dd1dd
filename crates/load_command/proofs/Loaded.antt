-- The session that was served is the one that the text is of.
use Rattle.std.proofs.Common.{◌≡◌, ℕ, ◌≤◌, false, Some, Result, Ok, Err, IfOk, List, [], ◌∷◌, ◌++◌, refl, ap, subst, ◌∙◌, arith}
use Rattle.pool_base.specs.Counts.{Rose}
use Rattle.pool_io.specs.declared.turn.Turn.{Turn}
use Rattle.pool_io.specs.declared.turn.Turn.TheVariants as turn
use Rattle.pool_io.specs.Seen.{KeeperSeen}
use Rattle.pool_history.specs.declared.events.Event.{Event}
use Rattle.pool_history.specs.Sessions.{past_of}
use Rattle.pool_history.specs.Summary.{summary_of, summary_text}
use Rattle.session_steps.specs.declared.ends.SessionEnd.{SessionEnd}
use Rattle.session_steps.specs.declared.ends.SessionEnd.TheVariants as end
use Rattle.load_command.specs.Frames.{load_frames}
use Rattle.v2_sessions.specs.Ends.{IsWellEnded}
use Rattle.pool_sessions.specs.declared.alone.SoloEnd.TheVariants as solo
use Rattle.pool_sessions.specs.Solo.{IsSoloSession, Outsides, ServesGoodInput}
use Rattle.load_command.specs.Loads.{IsLoadText, counts_text, load_idle_turns, load_rules, load_text}
use Rattle.load_command.proofs.Good.{free_load, good_load}

-- a source of these turns, and a sink that holds this
abbrev pub outsides : List Turn → List ℕ → KeeperSeen → Outsides
outsides turns held keeper = record {
  source = record { faults = 0; left = Some turns };
  sink = record { faults = 0; held = Some held };
  keeper = keeper;
}

module _ (number steps : ℕ) (turns : List Turn) (held : List ℕ) (keeper : KeeperSeen) (back : Outsides) (reason : SessionEnd) (history : List Event)
    (come : turns ≡ turn.Piece (load_frames number steps) ∷ []) (empty : held ≡ []) (done : reason ≡ end.Done)
    (session : IsSoloSession load_rules false load_idle_turns (outsides turns held keeper) back reason history) where
  pub loaded : (text : List ℕ) → text ≡ load_text number steps history → IsLoadText number steps text
  loaded text says = record {
    keeper = keeper;
    back = back;
    history = history;
    session =
        subst (λ t. IsSoloSession load_rules false load_idle_turns (outsides t [] keeper) back end.Done history) come
        (subst (λ h. IsSoloSession load_rules false load_idle_turns (outsides turns h keeper) back end.Done history) empty
        (subst (λ r. IsSoloSession load_rules false load_idle_turns (outsides turns held keeper) back r history) done session));
    says = says;
  }

-- so it is where there is a text
pub where_told : {X E : Type 0} (P Q : X → Type 0) (result : Result X E) → IfOk result P → ((x : X) → P x → Q x) → IfOk result Q
where_told P Q (Ok x) holds goes = goes x holds
where_told P Q (Err e) holds goes = tt

-- the text is the counts and the summary
pub says_of : (number steps : ℕ) (events history : List Event) (start summary text : List ℕ) → events ≡ history → start ≡ []
    → summary ≡ start ++ summary_text (summary_of (past_of history)) → text ≡ counts_text number steps events ++ summary → text ≡ load_text number steps history
says_of number steps events history start summary text same empty is says =
    says ∙ ap (λ h. counts_text number steps h ++ summary) same
    ∙ ap (λ l. counts_text number steps history ++ l) (is ∙ ap (λ l. l ++ summary_text (summary_of (past_of history))) empty)

-- such a session has no other end than Done and Memory
never : (before now : ℕ) → before ≡ 0 → 0 ≡ now → Rose before now → ⊥
never before now was is rose = absurd (omega (arith, was, is, rose))

two_ends : (reason : SessionEnd) → IsWellEnded reason → (reason ≡ end.Done → ⊥) → (reason ≡ end.Memory → ⊥) → ⊥
two_ends end.Done well done memory = done refl
two_ends end.Memory well done memory = memory refl
two_ends (end.CutFrame count) well done memory = well
two_ends (end.TooLong len) well done memory = well
two_ends end.BadSetup well done memory = well
two_ends (end.BadMessage kind) well done memory = well
two_ends end.LineTooLong well done memory = well
two_ends end.IdleOut well done memory = well
two_ends end.BytesOut well done memory = well
two_ends end.PoolFull well done memory = well
two_ends end.ReadFault well done memory = well
two_ends end.WriteFault well done memory = well
two_ends end.LedgerFault well done memory = well

pub well_ended : (number steps : ℕ) (turns : List Turn) (held left : List ℕ) (rest : List Turn) (old new : KeeperSeen) (reason : SessionEnd) → steps ≤ 20000
    → turns ≡ turn.Piece (load_frames number steps) ∷ [] → old.faults ≡ 0 → 0 ≡ new.faults
    → ServesGoodInput load_rules false load_idle_turns (outsides turns held old) (outsides rest left new) (solo.Over reason)
    → (reason ≡ end.Done → ⊥) → (reason ≡ end.Memory → ⊥) → ⊥
well_ended number steps turns held left rest old new reason few come was is serves done memory =
    two_ends reason
    (serves (turn.Piece (load_frames number steps) ∷ []) (ap Some come) (good_load number steps few) (record {
      within = free_load number steps few;
      reads = never 0 0 refl refl;
      writes = never 0 0 refl refl;
      keeper = never old.faults new.faults was is;
    })) done memory
