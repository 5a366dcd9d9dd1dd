use Rattle.std.proofs.Common.{refl}
use Rattle.template_msgs.specs.Seen.{template_message}
use Rattle.sv2_messages.specs.Tables.{template_table}
use Rattle.v2_sessions.proofs.Reading.{if_leads_on, none_read}
use Rattle.v2_sessions.proofs.session.Session.on_template.Goals as goal

pub returns-in-Err-clause-ok : goal.returns-in-Err-clause-ok
returns-in-Err-clause-ok c = record {
  none = none_read template_message template_table c.args.kind c.args.payload.now c.read-read.result c.in-Err.field-0 c.in-Err.is c.read-read.ensures.only;
  kind_told = refl;
  same = refl;
}

pub returns-in_ok-template_meaning-in-Ok-clause-ok : goal.returns-in_ok-template_meaning-in-Ok-clause-ok
returns-in_ok-template_meaning-in-Ok-clause-ok c =
    let found = rw c.in-Ok.is at c.read-read.ensures.found in
    if_leads_on template_table c.args.self.now _ c.args.kind c.args.payload.now c.lead.result _ (template_message c.in-Ok.message) found c.requires
    c.in_ok-template_meaning-in-Ok.ensures c.lead.ensures.ok
