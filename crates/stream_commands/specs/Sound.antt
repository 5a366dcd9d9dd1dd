-- No bytes are both within the limit and over it.
use Rattle.std.proofs.Common.{ℕ, refl, arith, length-append}
use Rattle.stream_commands.specs.Duties.{IsSoundDuty}
use Rattle.stream_commands.specs.Gathering.{gathering_duty}

pub gathering_is_sound : (most : ℕ) → IsSoundDuty (gathering_duty most)
gathering_is_sound most = record {
  nothing = record { same = refl; short = omega arith };
  whole_or_refused = λ bytes more text other whole over. omega (arith, length-append bytes more, whole.short);
  so_far_or_refused = λ bytes more text other so_far over. omega (arith, length-append bytes more, so_far.short);
  whole_or_cut = λ bytes text other whole cut. cut;
}
