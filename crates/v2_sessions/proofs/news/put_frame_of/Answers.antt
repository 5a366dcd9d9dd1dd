use Rattle.std.proofs.Common.{arith}
use Rattle.v2_sessions.proofs.Fitting.{extended_job_fits}
use Rattle.v2_sessions.proofs.news.put_frame_of.Goals as goal

pub frame-requires : goal.frame-requires
frame-requires c =
    let fits = rw c.in-Extended.is at c.requires in
    rw (c.of.ensures, c.items.ensures.value, c.bytes.ensures, c.bytes-in-Extended.ensures)
    (extended_job_fits _ _ _ _ _ _ _ _ (omega arith) (omega arith) c.same_time.ensures.fits (omega arith) fits.path_fits c.items.ensures.fits fits.prefix_fits fits.suffix_fits)
