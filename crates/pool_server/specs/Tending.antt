-- The calls of a feed's session and of shifts at doors (this project's own).
use Rattle.std.specs.Prelude.{List, [], ◌∷◌, ◌++◌}
use Rattle.pool_history.specs.Calls.{PoolCall}
use Rattle.pool_sessions.specs.Courses.{Course, calls_on}
use Rattle.pool_server.specs.Shifts.{Shift, calls_at}

-- the calls of all shifts, and with those of the feed's session
abbrev pub calls_of_shifts : List Shift → List PoolCall
calls_of_shifts [] = []
calls_of_shifts (shift ∷ shifts) = calls_at shift.answers ++ calls_of_shifts shifts

abbrev pub all_calls : Course → List Shift → List PoolCall
all_calls course shifts = calls_on course ++ calls_of_shifts shifts
