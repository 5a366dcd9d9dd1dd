-- The limits of a command's reading (this project's own).
use Rattle.std.specs.Prelude.{◌^◌, List}
use Rattle.pool_io.specs.Steps.{ReadStep, Bounds, IsFreeBefore}

-- 36,000 Idle answers in a row, or 2^40 bytes
abbrev pub bounds : Bounds
bounds = record { idle_turns = 36000; bytes = 2 ^ 40 }

-- the steps reach this limit, and no shorter front of them reaches one
abbrev pub JustReachesLimit : (List ReadStep → Type 0) → List ReadStep → Type 0
JustReachesLimit IsOut taken = IsOut taken × IsFreeBefore bounds taken
