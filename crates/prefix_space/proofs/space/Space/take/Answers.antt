use Rattle.std.proofs.Common.{◌≡◌, ap, map, subst, sym, ◌∙◌, ◌∷◌, ◌++◌, [], Some}
use Rattle.std.proofs.lemmas.List.Sorted.{IsPermutation-sym, IsPermutation-to_front}
use Rattle.std.specs.Prelude.{IsPermutation}
use Rattle.pool_history.specs.Spaces.{lowest}
use Rattle.prefix_space.specs.Paths.{lead_of}
use Rattle.prefix_space.specs.Spaces.{leads_of}
use Rattle.prefix_space.proofs.Holdings.{found-long}
use Rattle.prefix_space.proofs.space.Space.take.Goals as goal

pub hold-requires-clause-lowest : goal.hold-requires-clause-lowest
hold-requires-clause-lowest c =
    let found : lowest c.args.len c.args.self.now.held ≡ Some c.in-Some.lead = sym c.in-Some.ensures in
    let same : leads_of c.make_room.new.held ≡ c.args.self.now.held = ap (map lead_of) c.make_room.ensures.keys ∙ ap (λ s. s.held) c.self.view_is in
    ap (λ n. lowest n (leads_of c.make_room.new.held)) (found-long c.args.len c.args.self.now.held c.in-Some.lead found)
    ∙ ap (lowest c.args.len) same ∙ found

pub returns-clause-held : goal.returns-clause-held
returns-clause-held c =
    let same : leads_of c.make_room.new.held ≡ c.args.self.now.held = ap (map lead_of) c.make_room.ensures.keys ∙ ap (λ s. s.held) c.self.view_is in
    subst (IsPermutation (c.in-Some.lead ∷ c.args.self.now.held)) (sym (c.hold.ensures.held ∙ ap (λ l. l ++ c.in-Some.lead ∷ []) same))
    (IsPermutation-sym (c.args.self.now.held ++ c.in-Some.lead ∷ []) (c.in-Some.lead ∷ c.args.self.now.held) (IsPermutation-to_front c.args.self.now.held c.in-Some.lead))
