-- Each caller of a served pool was answered.
use Rattle.std.proofs.Common.{◌≡◌, ◌≢◌, ℕ, ◌+◌, ◌<◌, ◌≤◌, true, Some, List, [], ◌∷◌, ◌++◌, refl, subst, sym, arith, append_assoc}
use Rattle.std.proofs.lemmas.List.Sorted.{IsPermutation-trans}
use Rattle.std.specs.List.{AllByRecursion}
use Rattle.pool_base.specs.Calls.{Parted}
use Rattle.pool_base.proofs.Behind.{all-map}
use Rattle.pool_history.specs.declared.events.Event.{Event}
use Rattle.pool_history.specs.declared.events.Role.TheVariants as role
use Rattle.pool_history.specs.declared.settings.Rules.{Rules}
use Rattle.pool_history.specs.Calls.{GoodPoolCalls, IsGoodPoolCall, PoolCall}
use Rattle.pool_history.specs.Sessions.{mines, past_of, rules_of}
use Rattle.session_steps.specs.declared.ends.SessionEnd.{SessionEnd}
use Rattle.session_steps.specs.declared.manner.Manner.{Manner}
use Rattle.session_steps.specs.States.{new_state}
use Rattle.v1_translate.specs.State.{Terms}
use Rattle.v1_sessions.specs.States.{new_line_state}
use Rattle.pool_sessions.specs.Courses.{Course, CourseComes, Framed, Lined, calls_on}
use Rattle.pool_server.specs.Shifts.{AreVisits, Asked, Shift, Visited, Waited, calls_at}
use Rattle.pool_server.specs.Parts.{Service, manner_of}
use Rattle.pool_server.specs.Serving.{AreShifts, NumbersRise}
use Rattle.pool_server.specs.Tending.{calls_of_shifts}
use Rattle.pool_promises.specs.Presence.{MakeHistory}
use Rattle.pool_promises.proofs.Lists.{all_join, all_moved, to_front}
use Rattle.pool_promises.specs.Answered.{AnswerAtDoors, AnswersCallers, AnswersCaller}
use Rattle.pool_promises.specs.Serving.{ServedCallersAreAnswered}
use Rattle.pool_promises.proofs.ServedAnswers.{lines_answered}
use Rattle.pool_promises.proofs.FrameAnswers.{frames_answered, frames_of_worker}
use Rattle.pool_promises.proofs.Calling.{lines_of_worker}

-- ---- whose calls they are

course_of_worker : (worker : ℕ) (terms : Terms) (manner : Manner) (course : Course) (reason : SessionEnd) → CourseComes worker terms manner course reason
    → AllByRecursion (λ (c : PoolCall). c.worker ≡ worker) (calls_on course)
course_of_worker worker terms manner (Framed steps) reason comes = frames_of_worker worker (new_state manner) comes.last steps comes.follows
course_of_worker worker terms manner (Lined steps) reason comes = lines_of_worker worker terms (new_line_state manner) comes.last steps comes.follows

visits_of_worker : (terms : Terms) (manner : Manner) (worker : ℕ) (answers : List Asked) → AreVisits terms manner worker answers
    → AllByRecursion (λ (c : PoolCall). c.worker ≡ worker) (calls_at answers)
visits_of_worker terms manner worker [] visits = tt
visits_of_worker terms manner worker (Waited ∷ answers) visits = visits_of_worker terms manner worker answers visits
visits_of_worker terms manner worker (Visited visit ∷ answers) visits =
    all_join (λ (c : PoolCall). c.worker ≡ worker) (calls_on visit.course) (calls_at answers)
    (course_of_worker worker terms manner visit.course visit.reason visits.0.is_course.comes) (visits_of_worker terms manner worker answers visits.1)

-- no shift's calls are of an earlier worker
shifts_from : (service : Service) (worker : ℕ) (shifts : List Shift) → AreShifts service worker shifts → AllByRecursion (λ (c : PoolCall). worker ≤ c.worker) (calls_of_shifts shifts)
shifts_from service worker [] are = tt
shifts_from service worker (shift ∷ shifts) are =
    all_join (λ (c : PoolCall). worker ≤ c.worker) (calls_at shift.answers) (calls_of_shifts shifts)
    (all-map (λ (c : PoolCall). c.worker ≡ worker) (λ c. worker ≤ c.worker) (λ c is. omega (arith, is)) (calls_at shift.answers)
    (visits_of_worker service.terms (manner_of service role.Miner) worker shift.answers are.0.visits))
    (all-map (λ (c : PoolCall). worker + 1 ≤ c.worker) (λ c. worker ≤ c.worker) (λ c is. omega (arith, is)) (calls_of_shifts shifts) (shifts_from service (worker + 1) shifts are.1))

-- ---- at a door

module _ (start history : List Event) (least most : ℕ) (rules : Rules) (are : rules_of (past_of start) ≡ Some rules) where
  -- one caller, whose calls stand in a row among its worker's
  course_answered : (worker : ℕ) (terms : Terms) (manner : Manner) (earlier later others : List PoolCall) (course : Course) (reason : SessionEnd)
      → mines manner.role ≡ true → CourseComes worker terms manner course reason → MakeHistory start history least most worker (earlier ++ (calls_on course ++ later)) others
      → AnswersCaller worker terms manner course
  course_answered worker terms manner earlier later others (Framed steps) reason may comes make =
      frames_answered start history least most worker earlier later others manner steps comes.last rules are may comes.follows make
  course_answered worker terms manner earlier later others (Lined steps) reason may comes make =
      lines_answered start history least most worker earlier later others terms manner steps comes.last rules are may comes.follows make

  -- all callers of a door
  callers_answered : (worker : ℕ) (terms : Terms) (manner : Manner) (others earlier : List PoolCall) (answers : List Asked) → mines manner.role ≡ true
      → AreVisits terms manner worker answers → MakeHistory start history least most worker (earlier ++ calls_at answers) others → AnswersCallers worker terms manner answers
  callers_answered worker terms manner others earlier [] may visits make = tt
  callers_answered worker terms manner others earlier (Waited ∷ answers) may visits make = callers_answered worker terms manner others earlier answers may visits make
  callers_answered worker terms manner others earlier (Visited visit ∷ answers) may visits make = (
    course_answered worker terms manner earlier (calls_at answers) others visit.course visit.reason may visits.0.is_course.comes make,
    callers_answered worker terms manner others (earlier ++ calls_on visit.course) answers may visits.1
        (subst (λ l. MakeHistory start history least most worker l others) (sym (append_assoc earlier (calls_on visit.course) (calls_at answers))) make),
  )

  -- ---- at all doors

  -- one door's calls come first
  made_first : (worker : ℕ) (done own rest : List PoolCall) → Parted start history least most (done ++ (own ++ rest)) → GoodPoolCalls history (done ++ (own ++ rest))
      → NumbersRise own → AllByRecursion (λ (c : PoolCall). c.worker < worker) done → AllByRecursion (λ (c : PoolCall). worker + 1 ≤ c.worker) rest
      → MakeHistory start history least most worker own (done ++ rest)
  made_first worker done own rest parted good rise lower greater = record {
    parted = record {
      ordered = parted.ordered;
      same = IsPermutation-trans parted.ordered (done ++ (own ++ rest)) (own ++ (done ++ rest)) parted.same (to_front done own rest);
      parts = parted.parts;
    };
    good = all_moved (IsGoodPoolCall history) (done ++ (own ++ rest)) (own ++ (done ++ rest)) (to_front done own rest) good;
    known = rise.0;
    rise = rise.1;
    others_are =
        all_join (λ (c : PoolCall). c.worker ≢ worker) done rest
        (all-map (λ (c : PoolCall). c.worker < worker) (λ c. c.worker ≢ worker) (λ c less same. omega (arith, less, same)) done lower)
        (all-map (λ (c : PoolCall). worker + 1 ≤ c.worker) (λ c. c.worker ≢ worker) (λ c more same. omega (arith, more, same)) rest greater);
  }

  doors_answered : (service : Service) (worker : ℕ) (done : List PoolCall) (shifts : List Shift) → AreShifts service worker shifts
      → Parted start history least most (done ++ calls_of_shifts shifts) → GoodPoolCalls history (done ++ calls_of_shifts shifts)
      → AllByRecursion (λ (shift : Shift). NumbersRise (calls_at shift.answers)) shifts → AllByRecursion (λ (c : PoolCall). c.worker < worker) done
      → AnswerAtDoors service worker shifts
  doors_answered service worker done [] shifts_are parted good rise lower = tt
  doors_answered service worker done (shift ∷ shifts) shifts_are parted good rise lower =
      let own = calls_at shift.answers in
      let rest = calls_of_shifts shifts in
      let visits = shifts_are.0.visits in
      let regroup : done ++ (own ++ rest) ≡ (done ++ own) ++ rest = sym (append_assoc done own rest) in (
        callers_answered worker service.terms (manner_of service role.Miner) (done ++ rest) [] shift.answers refl visits
            (made_first worker done own rest parted good rise.0 lower (shifts_from service (worker + 1) shifts shifts_are.1)),
        doors_answered service (worker + 1) (done ++ own) shifts shifts_are.1
            (subst (λ l. Parted start history least most l) regroup parted) (subst (λ l. GoodPoolCalls history l) regroup good) rise.1
            (all_join (λ (c : PoolCall). c.worker < worker + 1) done own
            (all-map (λ (c : PoolCall). c.worker < worker) (λ c. c.worker < worker + 1) (λ c less. omega (arith, less)) done lower)
            (all-map (λ (c : PoolCall). c.worker ≡ worker) (λ c. c.worker < worker + 1) (λ c is. omega (arith, is)) own
            (visits_of_worker service.terms (manner_of service role.Miner) worker shift.answers visits))),
      )

pub served_answered : ServedCallersAreAnswered
served_answered service old new reason ledger_faults door_faults door_memory rules are run =
    doors_answered old.book.events new.book.events old.book.keeper.faults new.book.keeper.faults rules are service 1 (calls_on run.course) run.shifts run.worked
    run.parted run.good run.rise.1
    (all-map (λ (c : PoolCall). c.worker ≡ 0) (λ c. c.worker < 1) (λ c is. omega (arith, is)) (calls_on run.course)
    (course_of_worker 0 service.terms (manner_of service role.Feed) run.course reason run.fed.is_course.comes))
