use Rattle.std.proofs.Common.{◌≡◌, ap, ◌∙◌, get_or}
use Rattle.command_line.proofs.top_call.proxy_named.Goals as goal

pub returns-clause-row : goal.returns-clause-row
returns-clause-row g c =
    let names = c.requires.names in
    let upstream : c.text-upstream_text.result.now ≡ names.upstream =
    c.text-upstream_text.ensures ∙ c.upstream-item.is ∙ ap (λ words. get_or words 1 c.upstream-item.result) names.spelled in
    let user : c.text-user_text.result.now ≡ names.user =
    c.text-user_text.ensures ∙ c.user-item.is ∙ ap (λ words. get_or words 2 c.user-item.result) names.spelled in
    let address : c.text-address_text.result.now ≡ names.address =
    c.text-address_text.ensures ∙ c.address-item.is ∙ ap (λ words. get_or words 3 c.address-item.result) names.spelled in
    (names, rw (upstream, user, address) at c.proxy.ensures.row)
