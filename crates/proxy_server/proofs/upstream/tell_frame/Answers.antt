use Rattle.std.proofs.Common.{◌∙◌, ◌++◌, ℕ, List, Some, Ok, Err, false, true≢false, refl, sym, subst}
use Rattle.sv2_frames.specs.Framing.{frame_bytes}
use Rattle.mining_msgs.specs.Seen.{mining_message}
use Rattle.link_hearing.specs.Hearing.{end_of}
use Rattle.proxy_rules.specs.declared.requests.ProxyRequest.TheVariants as request
use Rattle.session_steps.specs.declared.ends.SessionEnd.TheVariants as end
use Rattle.proxy_server.specs.declared.phase.UpPhase.{UpPhase}
use Rattle.proxy_server.specs.Calls.{MakesCall}
use Rattle.proxy_server.specs.Links.{Frames, link_at}
use Rattle.proxy_server.specs.Upstreams.{LeadsUp, up_at}
use Rattle.proxy_server.proofs.Uplinks.{news_no_setup, up_broke, up_lacked, up_passed, up_told, up_told_not, up_told_refused}
use Rattle.proxy_server.proofs.upstream.tell_frame.Goals as goal

pub returns-then-not-is_taken-clause-leads : goal.returns-then-not-is_taken-clause-leads
returns-then-not-is_taken-clause-leads g c = λ rest.
    up_passed g.A.ProxyAsking.does (record { ext = c.args.frame.now.ext; kind = c.args.frame.now.kind; payload = c.args.frame.now.payload.now }) _ rest c.args.cursor.now c.args.phase.now
    c.args.asking.now (g.L.Link.seen c.args.link.now).sink (record { fits = c.requires.fits; within = c.requires.within; whole = refl }) (sym c.if-not-is_taken.ensures) c.requires.fit

pub returns-in_default-clause-leads : goal.returns-in_default-clause-leads
returns-in_default-clause-leads g c = λ rest.
    up_broke g.A.ProxyAsking.does (record { ext = c.args.frame.now.ext; kind = c.args.frame.now.kind; payload = c.args.frame.now.payload.now }) _ rest c.args.cursor.now (link_at rest c.args.cursor.now false) c.args.phase.now
    c.args.asking.now (g.L.Link.seen c.args.link.now).sink (record { fits = c.requires.fits; within = c.requires.within; whole = refl })
    (record { taken = sym c.if-not-is_taken.ensures; none = λ message of. c.in_default.ensures.only message of }) c.requires.fit

pub returns-in_default-bytes_of-clause-leads : goal.returns-in_default-bytes_of-clause-leads
returns-in_default-bytes_of-clause-leads g c = λ rest.
    up_lacked g.A.ProxyAsking.does _ (link_at rest c.args.cursor.now false) c.args.phase.now c.args.asking.now (g.L.Link.seen c.args.link.now).sink c.requires.fit

pub returns-in_default-asked-clause-leads : goal.returns-in_default-asked-clause-leads
returns-in_default-asked-clause-leads g c = λ rest.
    up_told_not g.A.ProxyAsking.does (record { ext = c.args.frame.now.ext; kind = c.args.frame.now.kind; payload = c.args.frame.now.payload.now }) (mining_message c.in-Ok.message) _ rest c.args.cursor.now c.args.phase.now
    c.args.asking.now c.ask-asked.new.self (g.L.Link.seen c.args.link.now).sink (record { fits = c.requires.fits; within = c.requires.within; whole = refl })
    (record { taken = sym c.if-not-is_taken.ensures; message_is = c.in-Ok.ensures.found }) c.requires.fit (link_at rest c.args.cursor.now false) c.in_default-asked.field-0
    (subst (λ (b : List ℕ). MakesCall g.A.ProxyAsking.does c.args.asking.now (request.Up b) (Err c.in_default-asked.field-0) c.ask-asked.new.self) c.in-Ok-bytes_of.ensures c.in_default-asked.ensures.call)

pub returns-then-is_unfit-clause-leads : goal.returns-then-is_unfit-clause-leads
returns-then-is_unfit-clause-leads g c = λ rest.
    let made = subst (λ (b : List ℕ). MakesCall g.A.ProxyAsking.does c.args.asking.now (request.Up b) (Ok c.in-Ok-asked._reply) c.ask-asked.new.self) c.in-Ok-bytes_of.ensures c.in-Ok-asked.ensures.call in
    subst
    (λ (p : UpPhase). LeadsUp g.A.ProxyAsking.does (up_at (frame_bytes (record { ext = c.args.frame.now.ext; kind = c.args.frame.now.kind; payload = c.args.frame.now.payload.now }) ++ rest) c.args.cursor.now false c.args.phase.now) c.args.asking.now (g.L.Link.seen c.args.link.now).sink
    (Some end.BadSetup) (up_at rest c.args.cursor.now false p) c.ask-asked.new.self (g.L.Link.seen c.args.link.now).sink) (sym c.after.ensures)
    (up_told_refused g.A.ProxyAsking.does (record { ext = c.args.frame.now.ext; kind = c.args.frame.now.kind; payload = c.args.frame.now.payload.now }) (mining_message c.in-Ok.message) _ rest c.args.cursor.now c.args.phase.now
    c.args.asking.now c.ask-asked.new.self (g.L.Link.seen c.args.link.now).sink (record { fits = c.requires.fits; within = c.requires.within; whole = refl })
    (record { taken = sym c.if-not-is_taken.ensures; message_is = c.in-Ok.ensures.found }) c.in-Ok-asked._reply made (link_at rest c.args.cursor.now false) (sym c.after.ensures ∙ c.is_unfit.ensures.0 c.if-is_unfit.true))

pub returns-clause-leads : goal.returns-clause-leads
returns-clause-leads g c = λ rest.
    let made = subst (λ (b : List ℕ). MakesCall g.A.ProxyAsking.does c.args.asking.now (request.Up b) (Ok c.in-Ok-asked._reply) c.ask-asked.new.self) c.in-Ok-bytes_of.ensures c.in-Ok-asked.ensures.call in
    subst
    (λ (p : UpPhase). LeadsUp g.A.ProxyAsking.does (up_at (frame_bytes (record { ext = c.args.frame.now.ext; kind = c.args.frame.now.kind; payload = c.args.frame.now.payload.now }) ++ rest) c.args.cursor.now false c.args.phase.now) c.args.asking.now (g.L.Link.seen c.args.link.now).sink
    (end_of c.tell_news.result) (up_at rest c.tell_news.new.cursor false p) c.tell_news.new.asking (g.L.Link.seen c.tell_news.new.link).sink) (sym c.after.ensures)
    (up_told g.A.ProxyAsking.does (record { ext = c.args.frame.now.ext; kind = c.args.frame.now.kind; payload = c.args.frame.now.payload.now }) (mining_message c.in-Ok.message) _ rest c.args.cursor.now c.args.phase.now
    c.args.asking.now c.ask-asked.new.self (g.L.Link.seen c.args.link.now).sink (record { fits = c.requires.fits; within = c.requires.within; whole = refl })
    (record { taken = sym c.if-not-is_taken.ensures; message_is = c.in-Ok.ensures.found }) c.in-Ok-asked._reply made (end_of c.tell_news.result) c.tell_news.new.cursor c.tell_news.new.asking (g.L.Link.seen c.tell_news.new.link).sink
    (c.tell_news.ensures.polls Frames rest) (news_no_setup c.tell_news.result c.tell_news.ensures.ends)
    (λ unfit. true≢false (sym (c.is_unfit.ensures.1 (c.after.ensures ∙ unfit)) ∙ c.if-is_unfit.false)))
