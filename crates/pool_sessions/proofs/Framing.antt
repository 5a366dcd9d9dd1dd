-- A session of either language as one of frames that does the same outside of it.
use Rattle.std.proofs.Common.{◌≡◌, ℕ, ◌<◌, List, refl}
use Rattle.pool_history.specs.Calls.{PoolCall}
use Rattle.session_steps.specs.declared.ends.SessionEnd.{SessionEnd}
use Rattle.session_steps.specs.declared.manner.Manner.{Manner}
use Rattle.session_steps.specs.Steps.{SessionStep, calls_in, turns_in}
use Rattle.v2_sessions.specs.Ends.{session_bounds}
use Rattle.v2_sessions.proofs.Standing.{EndShows, ends_show}
use Rattle.v1_translate.specs.State.{Terms}
use Rattle.v1_sessions.proofs.Standing.{outer_calls, outer_ends_show, outer_steps, outer_turns}
use Rattle.pool_sessions.specs.Courses.{Course, Framed, IsCourse, Lined, calls_on, turns_on}

abbrev pub frame_steps : Course → List SessionStep
frame_steps (Framed steps) = steps
frame_steps (Lined steps) = outer_steps steps

pub frame_turns : (course : Course) → turns_in (frame_steps course) ≡ turns_on course
frame_turns (Framed steps) = refl
frame_turns (Lined steps) = outer_turns steps

pub frame_calls : (course : Course) → calls_in (frame_steps course) ≡ calls_on course
frame_calls (Framed steps) = refl
frame_calls (Lined steps) = outer_calls steps

-- what its end comes from
pub course_shows : (worker : ℕ) (terms : Terms) (manner : Manner) (course : Course) (reason : SessionEnd) → 0 < manner.idle_turns → IsCourse worker terms manner course reason
    → EndShows (session_bounds manner.idle_turns) (frame_steps course) reason
course_shows worker terms manner (Framed steps) reason positive is = ends_show worker manner steps is.comes.last reason positive is.comes.follows is.comes.over
course_shows worker terms manner (Lined steps) reason positive is =
    outer_ends_show worker terms manner steps is.comes.last reason positive is.comes.follows is.comes.over
