use Rattle.std.proofs.Common.{subst, sym}
use Rattle.serde_json.specs.View.{view}
use Rattle.hrana_value.specs.Declines.{Reads}
use Rattle.ws_messages.specs.Requests.{IsRequestOf, RequestMembersStand}
use Rattle.ws_messages.proofs.request_json.request_of_members.Goals as goal

pub returns-in-OpenCursor : goal.returns-in-OpenCursor
returns-in-OpenCursor c =
    let t = view c.args.json.now in
    subst (λ k. Reads (λ r. IsRequestOf k r t) (RequestMembersStand k t) c.open_cursor_of_json.result) (sym c.in-OpenCursor.is) c.open_cursor_of_json.ensures
