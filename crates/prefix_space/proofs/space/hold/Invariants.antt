use Rattle.prefix_space.proofs.space.hold.Given as goal

abbrev pub ghosts-climb_for : goal.ghosts-climb_for
ghosts-climb_for a = record { name = a.blank.name; parts = a.blank.parts }
