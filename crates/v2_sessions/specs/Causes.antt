-- Which ends say that a take, or a put, failed (this project's own).
use Rattle.std.specs.Prelude.{Bool, true, false}
use Rattle.session_steps.specs.declared.ends.SessionEnd.{SessionEnd}
use Rattle.session_steps.specs.declared.ends.SessionEnd.TheVariants as end

abbrev pub is_read_end : SessionEnd → Bool
is_read_end end.ReadFault = true
is_read_end _ = false

abbrev pub is_write_end : SessionEnd → Bool
is_write_end end.WriteFault = true
is_write_end _ = false
