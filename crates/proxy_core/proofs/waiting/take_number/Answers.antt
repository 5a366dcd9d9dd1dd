use Rattle.std.proofs.Common.{◌≡◌, Some, ap, refl, sym, ◌∙◌, arith}
use Rattle.proxy_rules.specs.State.{SentOn}
use Rattle.proxy_core.proofs.Rising.{has_none, has_taken, rising-parted}
use Rattle.proxy_core.proofs.waiting.take_number.Goals as goal
use Rattle.proxy_core.proofs.waiting.take_number.Goals.{in_default-via-in-Some+else-found-number, in_default-via-in_default}

pub returns-in-Some : goal.returns-in-Some
returns-in-Some c = λ next rising.
    let place = c.place_of_number-at.ensures.place (rising-parted c.args.number 0 c.args.waiting.now.items next rising) in
    let item = c.in-Some.ensures.item in
    let number : c.in-Some.found.now.number ≡ c.args.number = ap (λ (sent : SentOn). sent.number) (sym c.found.view_is) ∙ c.if-found-number.true in
    has_taken c.args.number c.place_of_number-at.result c.args.waiting.now.items c.remove.new.self.items next c.remove.result c.in-Some.found.now
    rising place.0 item.3.0 item.3.1 number
    (c.remove.ensures.succeeds c.in-Some.found.now (c.in-Some.ensures.variant.0 refl) ∙ ap Some (sym c.in-Some.ensures.lookup)) c.remove.ensures.items

pub returns-in_default : goal.returns-in_default
returns-in_default c = λ next rising.
    let place = c.place_of_number-at.ensures.place (rising-parted c.args.number 0 c.args.waiting.now.items next rising) in
    has_none c.args.number c.place_of_number-at.result c.args.waiting.now.items next rising place.0 place.1 c.place_of_number-at.ensures.within
    (λ d within same. elim c.in_default.branch [
      | in_default-via-in-Some+else-found-number w ↦
          let found : w.found.inside.number ≡ c.args.number =
          ap (λ (sent : SentOn). sent.number) (w.found.view_is ∙ w.in-Some.ensures.item.3.1 d) ∙ same in
          w.if-found-number.false found
      | in_default-via-in_default w ↦ absurd (omega (arith, within, w.in_default.ensures.item.3))
    ])
