use Rattle.std.proofs.Common.{◌∙◌, ◌++◌, map, ap}
use Rattle.block_header.specs.Hash.{dsha}
use Rattle.block_header.specs.Root.{root}
use Rattle.share_headers.specs.Foreseeing.{share_extranonce, share_root}
use Rattle.share_headers.proofs.Rows.{map_twice}
use Rattle.share_headers.proofs.shares.ForeseenShares.roots_of.Goals as goal

pub returns : goal.returns
returns c =
    let brief = c.self.inside.brief in
    let candidates = c.args.candidates.now in
    let ids = c.double-ids.ensures brief.prefix brief.suffix c.self.invariant.0
    ∙ ap (map (λ m. dsha (brief.prefix ++ m ++ brief.suffix))) c.extranonces_of.ensures
    ∙ map_twice (λ m. dsha (brief.prefix ++ m ++ brief.suffix)) share_extranonce candidates in
    c.roots_of.ensures
    ∙ (λ t. map (λ id. root id (c.path_of.ensures t)) (ids t))
    ∙ map_twice (λ id. root id brief.path) (λ candidate. dsha (brief.prefix ++ share_extranonce candidate ++ brief.suffix)) candidates
    ∙ ap (λ b. map (share_root b) candidates) c.self.view_is
