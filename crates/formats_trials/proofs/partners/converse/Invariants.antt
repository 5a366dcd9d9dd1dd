use Rattle.formats_trials.proofs.partners.converse.Given as goal

abbrev pub invariant-loop-turn : goal.invariant-loop-turn
invariant-loop-turn g l = g.P.Partner.is_ready l.partner
