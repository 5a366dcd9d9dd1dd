use Rattle.std.proofs.Common.{◌≡◌, ◌∷◌, ap, map, refl, subst, ◌∙◌}
use Rattle.pool_history.specs.declared.events.Event.TheVariants as event
use Rattle.pool_history.specs.Channels.{Sets, channel_moves}
use Rattle.pool_history.specs.Legal.{may_mine}
use Rattle.channels.specs.Cuts.{with_cut}
use Rattle.channels.specs.Tables.{IsTold}
use Rattle.history_laws.specs.AskedPlaces.{is_asked_after}
use Rattle.ledger_replay.specs.Replays.{tables_of}
use Rattle.ledger_replay.proofs.Caused.{by_session, fewer-told}
use Rattle.ledger_replay.proofs.ChannelsMoved.{channels-same, class-asked, class-out, class-refused, class-taken, may_become-told}
use Rattle.ledger_replay.proofs.replay.Replay.set_class.Goals as goal

pub returns-in-Some-clause-judged : goal.returns-in-Some-clause-judged
returns-in-Some-clause-judged c past was =
    by_session (tables_of c.args.self.now) past (event.Class c.args.session c.args.channel c.args.class) may_mine c.args.session _ c.in-Some.cause was refl
    (c.in-Some.ensures past was.sessions_are)

pub returns-in_default-class_in_range-clause-judged : goal.returns-in_default-class_in_range-clause-judged
returns-in_default-class_in_range-clause-judged c past was =
    class-out (tables_of c.args.self.now) past c.args.session c.args.channel c.args.class
    was (c.in_default.ensures past was.sessions_are) (c.in_default-class_in_range.ensures.none refl)

pub returns-then-not-may_change_to-clause-judged : goal.returns-then-not-may_change_to-clause-judged
returns-then-not-may_change_to-clause-judged c past was =
    class-refused (tables_of c.args.self.now) past c.args.session c.args.channel c.args.class
    was (c.in_default.ensures past was.sessions_are)
    (may_become-told (tables_of c.args.self.now) past c.args.session c.args.channel c.args.class _ _ was
    c.in-Some-class_in_range.ensures.some.1 c.own.ensures
    (let given : c.in-Some-class_in_range.class ≡ c.args.class = c.in-Some-class_in_range.ensures.some.0 in cc))

pub returns-in-Ok-clause-judged : goal.returns-in-Ok-clause-judged
returns-in-Ok-clause-judged c past was =
    class-taken (tables_of c.args.self.now) c.set_class.new.self past c.args.session c.args.channel c.args.class
    c.other_events_leave_sessions.ensures c.other_events_leave_grants.ensures was (c.in_default.ensures past was.sessions_are)
    (may_become-told (tables_of c.args.self.now) past c.args.session c.args.channel c.args.class _ _ was
    c.in-Some-class_in_range.ensures.some.1 c.own.ensures
    (let given : c.in-Some-class_in_range.class ≡ c.args.class = c.in-Some-class_in_range.ensures.some.0 in cc))
    (subst (λ class. IsTold (is_asked_after (event.Class c.args.session c.args.channel c.args.class ∷ past)) c.set_class.new.self (Sets c.args.self.now.events c.args.channel class ∷ channel_moves past))
    c.in-Some-class_in_range.ensures.some.0 (c.in-Ok.ensures.told
    (is_asked_after (event.Class c.args.session c.args.channel c.args.class ∷ past)) (channel_moves past)
    (class-asked (tables_of c.args.self.now) past c.args.session c.args.channel c.args.class c.live_span-span.result was c.live_span-span.ensures.within)
    (fewer-told (tables_of c.args.self.now) past (event.Class c.args.session c.args.channel c.args.class) was)))

pub returns-in-Ok-clause-cut : goal.returns-in-Ok-clause-cut
returns-in-Ok-clause-cut c =
    c.in-Ok.ensures.cut
    ∙ ap (λ n. map (with_cut c.args.self.now.events c.args.channel n c.live_span-span.result) c.args.self.now.channels.open_channels) c.in-Some-class_in_range.ensures.some.0
    ∙ ap (λ s. map (with_cut c.args.self.now.events c.args.channel c.args.class s) c.args.self.now.channels.open_channels) c.live_span-span.ensures.value

pub returns-in-Err-clause-judged : goal.returns-in-Err-clause-judged
returns-in-Err-clause-judged c past was =
    channels-same (tables_of c.args.self.now) c.set_class.new.self past was c.in-Err.ensures.refused
