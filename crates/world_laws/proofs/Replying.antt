-- What a history tells a channel, as messages: it asks nothing, each message has a position, and all can be spelled.
use Rattle.std.proofs.Common.{◌≡◌, ℕ, Option, List, [], ◌∷◌, map, refl, ap}
use Rattle.std.specs.List.{AllByRecursion}
use Rattle.tcf_message.specs.Message.{MessageValue}
use Rattle.agent_node.specs.AgentLaws.{later_tokens, messages_told}
use Rattle.node_answers.proofs.Agents.Spoken.{spoken_of}
use Rattle.channel_core.specs.Arrivals.{Spoken, comes_as}
use Rattle.chain_heard.specs.Heard.{incoming, messages_of}
use Rattle.chain_through.specs.Calling.{AskNothing}
use Rattle.chain_through.specs.Through.{IsMarked}
use Rattle.chain_through.proofs.Spelling.{AreSpelled, IsSpelled}
use Rattle.target_hub.specs.Sent.{Told, event_at, final_at, hello_at, progress_at, unknown_at}

pub incoming_same : (spoken : List Spoken) → map comes_as spoken ≡ map incoming (messages_of spoken)
incoming_same [] = refl
incoming_same (s ∷ spoken) = ap (λ is. comes_as s ∷ is) (incoming_same spoken)

pub spoken_spelled : (messages : List (MessageValue × Option ℕ)) → AllByRecursion (λ m. IsSpelled m.0) messages → AreSpelled (spoken_of messages)
spoken_spelled [] each = tt
spoken_spelled (m ∷ messages) each = (each.0, spoken_spelled messages each.1)

pub told_quiet : (names : List (List ℕ)) (told : List Told) → AskNothing (spoken_of (messages_told names told))
told_quiet names [] = tt
told_quiet names (hello_at position body ∷ told) = (refl, told_quiet names told)
told_quiet names (event_at position service name body ∷ told) = (refl, told_quiet names told)
told_quiet names (progress_at position body ∷ told) = (refl, told_quiet names told)
told_quiet names (final_at position through body ∷ told) = (refl, told_quiet (later_tokens names) told)
told_quiet names (unknown_at position through ∷ told) = (refl, told_quiet (later_tokens names) told)

pub told_marked : (names : List (List ℕ)) (told : List Told) → AllByRecursion IsMarked (spoken_of (messages_told names told))
told_marked names [] = tt
told_marked names (hello_at position body ∷ told) = (refl, told_marked names told)
told_marked names (event_at position service name body ∷ told) = (refl, told_marked names told)
told_marked names (progress_at position body ∷ told) = (refl, told_marked names told)
told_marked names (final_at position through body ∷ told) = (refl, told_marked (later_tokens names) told)
told_marked names (unknown_at position through ∷ told) = (refl, told_marked (later_tokens names) told)
