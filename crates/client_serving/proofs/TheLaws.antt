-- The laws of what is served, as terms.
use Rattle.std.proofs.Common.{false, subst, sym}
use Rattle.client_node.specs.ClientValue.{ClientValue}
use Rattle.client_node.proofs.TheLaws.{answered_once}
use Rattle.tcf_text.specs.Once.{Once}
use Rattle.client_serving.specs.Client.{OnceWhateverCame, ServesAClient}
use Rattle.client_serving.proofs.Served.{serves_a_client, some_calls}

pub served_is_a_client : ServesAClient
served_is_a_client = serves_a_client

pub once_whatever_came : OnceWhateverCame
once_whatever_came address channel script events =
    let made = some_calls address channel script events in subst (λ (c : ClientValue). Once false c.log) (sym made.1) (answered_once made.0)
