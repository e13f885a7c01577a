use Rattle.std.proofs.Common.{subst, sym}
use Rattle.ws_messages.specs.Requests.{RequestStands}
use Rattle.ws_messages.proofs.client.numbered_of_json.Goals as goal

pub returns-in-Ok-clause-undeclined : goal.returns-in-Ok-clause-undeclined
returns-in-Ok-clause-undeclined c = λ d here. c.in-Ok.ensures.undeclined d (subst (λ r. RequestStands r d) (sym c.member_or_null.ensures) here.1)
