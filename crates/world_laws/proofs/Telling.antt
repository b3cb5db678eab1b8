-- What an agent's history tells can be spelled.
use Rattle.std.proofs.Common.{ℕ, List, [], ◌∷◌, refl}
use Rattle.std.specs.List.{AllByRecursion}
use Rattle.agent_node.specs.AgentLaws.{first_token, later_tokens, messages_told}
use Rattle.node_answers.proofs.Agents.Telling.{Come, all_come, open_after}
use Rattle.chain_through.proofs.Spelling.{IsSpelled}
use Rattle.target_contexts.specs.declared.process.Image.{Image}
use Rattle.target_hub.specs.History.{IsLegal}
use Rattle.target_hub.specs.Sent.{ReadCommand, Told, event_at, executed_on, final_at, hello_at, progress_at, sent, unknown_at}
use Rattle.target_hub.specs.declared.input.Input.{Input}
use Rattle.tcf_message.specs.Message.{HasNoZero, IsToken}

first_named : (names : List (List ℕ)) → AllByRecursion IsToken names → HasNoZero (first_token names)
first_named [] tokens = refl
first_named (n ∷ names) tokens = tokens.0.0

others_named : (names : List (List ℕ)) → AllByRecursion IsToken names → AllByRecursion IsToken (later_tokens names)
others_named [] tokens = tt
others_named (n ∷ names) tokens = tokens.1

-- under any tokens
spelled : (names : List (List ℕ)) (asked : List ReadCommand) (told : List Told) → AllByRecursion IsToken names → Come asked told → AllByRecursion (λ m. IsSpelled m.0) (messages_told names told)
spelled names asked [] tokens come = tt
spelled names asked (hello_at position body ∷ told) tokens come = (come.0.0, spelled names asked told tokens come.1)
spelled names asked (event_at position service name body ∷ told) tokens come = (come.0.0, spelled names asked told tokens come.1)
spelled names asked (progress_at position body ∷ told) tokens come = (first_named names tokens, spelled names asked told tokens come.1)
spelled names asked (final_at position through body ∷ told) tokens come =
    (first_named names tokens, spelled (later_tokens names) (open_after (final_at position through body) asked) told (others_named names tokens) come.1)
spelled names asked (unknown_at position through ∷ told) tokens come =
    (first_named names tokens, spelled (later_tokens names) (open_after (unknown_at position through) asked) told (others_named names tokens) come.1)

pub history_spelled : (images : List Image) (history : List Input) (k : ℕ) (names : List (List ℕ)) → IsLegal images history → AllByRecursion IsToken names
    → AllByRecursion (λ m. IsSpelled m.0) (messages_told names (sent images k history))
history_spelled images history k names legal tokens = spelled names (executed_on k history) (sent images k history) tokens (all_come images history k legal)
