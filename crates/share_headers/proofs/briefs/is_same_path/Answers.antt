use Rattle.std.proofs.lemmas.Slice.Eq.{bytes_eq-Decides, slice_eq-Decides}
use Rattle.share_headers.proofs.briefs.is_same_path.Goals as goal

pub returns : goal.returns
returns c =
    slice_eq-Decides bytes_eq-Decides c.args.path.now c.args.other.now c.eq.result c.eq.ensures
