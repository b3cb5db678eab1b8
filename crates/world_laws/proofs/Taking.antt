-- What an end of the agent took is what came to it: of messages that can be read, it is asked a front of what they ask.
use Rattle.std.proofs.Common.{◌≡◌, ℕ, ◌+◌, Bool, false, List, [], ◌∷◌, ◌++◌, map, Option, Some, None, Result, Ok, Err, refl, sym, ap, ◌∙◌, subst}
use Rattle.std.specs.Prelude.{decimal}
use Rattle.std.specs.List.{AllByRecursion, flat_map}
use Rattle.std.proofs.lemmas.List.{map-append}
use Rattle.tcf_message.specs.Message.{IsToken, MessageValue, command, event, final, flow, not_known, progress, reading}
use Rattle.tcf_message.specs.declared.message.MessageFault.{MessageFault}
use Rattle.channel_core.specs.Arrivals.{AreSpoken, Spoken, arrived, bytes_of, queue_of}
use Rattle.channel_core.specs.Beginning.{new_end}
use Rattle.channel_core.specs.ReceivingLaws.{incoming_of}
use Rattle.channel_core.specs.Runs.{Run, begun}
use Rattle.channel_core.specs.declared.taking.Taken.{Taken}
use Rattle.channel_core.specs.declared.taking.Taken.TheVariants as taken
use Rattle.agent_node.specs.AgentLaws.{Asked as AgentAsked, asked, asked_by as agent_asked_by, asked_in as agent_asked_in}
use Rattle.agent_node.specs.Runs.{Past, run_of}
use Rattle.target_hub.specs.Sent.{agent_services}
use Rattle.chain_through.specs.Calling.{AskNothing, all_asking, asks, entering}
use Rattle.chain_through.proofs.Queues.{entering_formed}
use Rattle.chain_through.proofs.Taking.{IsWritten, all_written, asked_of, calls_fit, come_as, commands_in, commands_read, received_front}
use Rattle.chain_world.specs.Standing.{unmarked}
use Rattle.value_node.specs.Asked.{Asked}
use Rattle.value_node.specs.RelayLaws.{asked_by, asked_in}
use Rattle.channel_core.proofs.TheLaws.{receives_in_order}
use Rattle.world_laws.proofs.Spoken.{bare, bare_bytes, bare_spoken, entering_bare}
use Rattle.list_laws.specs.Fronts.{IsFront}
use Rattle.list_laws.proofs.Fronts.{front_flat, front_map, front_same}

-- ---- Commands without their marks

abbrev pub plain_as : Asked → AgentAsked
plain_as c = record { token = c.token; service = c.service; name = c.name; body = c.body }

read_plain : (mark : Option ℕ) (m : Result MessageValue MessageFault) → agent_asked_in m ≡ map plain_as (asked_in mark m)
read_plain mark (Ok (command token service name body)) = refl
read_plain mark (Ok (final token body)) = refl
read_plain mark (Ok (progress token body)) = refl
read_plain mark (Ok (not_known token)) = refl
read_plain mark (Ok (event service name body)) = refl
read_plain mark (Ok (flow level)) = refl
read_plain mark (Err fault) = refl

entry_plain : (what : Taken Unit) → agent_asked_by what ≡ map plain_as (asked_by what)
entry_plain (taken.Command incoming) = read_plain incoming.mark (reading incoming.raw)
entry_plain (taken.Hello incoming) = refl
entry_plain (taken.Event incoming) = refl
entry_plain (taken.Progress number incoming) = refl
entry_plain (taken.Final number incoming) = refl
entry_plain (taken.Closed cause) = refl

entries_plain : (entries : List (Taken Unit)) → flat_map agent_asked_by entries ≡ map plain_as (flat_map asked_by entries)
entries_plain [] = refl
entries_plain (what ∷ entries) =
    ap (λ xs. xs ++ flat_map agent_asked_by entries) (entry_plain what) ∙ ap (λ xs. map plain_as (asked_by what) ++ xs) (entries_plain entries)
    ∙ sym (map-append plain_as (asked_by what) (flat_map asked_by entries))

-- ---- The commands that messages ask

abbrev pub asks_of : List Spoken → List AgentAsked
asks_of spoken = flat_map (λ s. agent_asked_in (Ok s.message)) spoken

bare_asks : (spoken : List Spoken) → map plain_as (asked_of (map bare spoken)) ≡ asks_of spoken
bare_asks [] = refl
bare_asks (s ∷ spoken) =
    map-append plain_as (asked_in None (Ok s.message)) (asked_of (map bare spoken)) ∙ ap (λ xs. xs ++ map plain_as (asked_of (map bare spoken))) (sym (read_plain None (Ok s.message)))
    ∙ ap (λ xs. agent_asked_in (Ok s.message) ++ xs) (bare_asks spoken)

quiet_one : (m : MessageValue) → asks m ≡ false → agent_asked_in (Ok m) ≡ []
quiet_one (command token service name body) is = absurd cc
quiet_one (final token body) is = refl
quiet_one (progress token body) is = refl
quiet_one (not_known token) is = refl
quiet_one (event service name body) is = refl
quiet_one (flow level) is = refl

pub quiet_none : (spoken : List Spoken) → AskNothing spoken → asks_of spoken ≡ []
quiet_none [] each = refl
quiet_none (s ∷ spoken) each = ap (λ xs. xs ++ asks_of spoken) (quiet_one s.message each.0) ∙ quiet_none spoken each.1

-- ---- It is what came

pub asked_front : (past : Past) (spoken : List Spoken) (is_ended : Bool) → AreSpoken spoken → IsFront (arrived past.calls) (unmarked (queue_of spoken is_ended)) → IsFront (asked (run_of past)) (asks_of (entering spoken))
asked_front past spoken is_ended formed came =
    let r = run_of past in
    let entries = r.past.taken in
    let said = entering (map bare spoken) in
    let bytes = bytes_of (queue_of (map bare spoken) is_ended) in
    let got : IsFront (arrived past.calls) bytes = front_same (arrived past.calls) (unmarked (queue_of spoken is_ended)) bytes (bare_bytes spoken is_ended) came in
    let formed_bare : AreSpoken (map bare spoken) = bare_spoken spoken formed in
    let rec = receives_in_order agent_services (Some past.position) past.calls (map bare spoken) is_ended formed_bare got in
    let messages : IsFront (flat_map incoming_of entries) (map come_as said) = received_front r (map come_as said) rec.front in
    let fits : flat_map asked_by entries ≡ commands_in (flat_map incoming_of entries) = calls_fit past.calls (begun (new_end agent_services (Some past.position))) refl in
    let commands : IsFront (commands_in (flat_map incoming_of entries)) (commands_in (map come_as said)) =
    front_flat (λ i. asked_in i.mark (reading i.raw)) (flat_map incoming_of entries) (map come_as said) messages in
    let plain = front_map plain_as (commands_in (flat_map incoming_of entries)) (commands_in (map come_as said)) commands in
    let asked_are : asked r ≡ map plain_as (commands_in (flat_map incoming_of entries)) = entries_plain entries ∙ ap (map plain_as) fits in
    let says : map plain_as (commands_in (map come_as said)) ≡ asks_of (entering spoken) =
    ap (map plain_as) (commands_read said (entering_formed (map bare spoken) formed_bare) ∙ ap asked_of (entering_bare spoken)) ∙ bare_asks (entering spoken) in
    (plain.0, sym says ∙ plain.1 ∙ ap (λ xs. xs ++ plain.0) (sym asked_are))

-- ---- The tokens of commands that were read are tokens

tokens_of : (commands : List Asked) → AllByRecursion IsWritten commands → AllByRecursion IsToken (map (λ c. c.token) (map plain_as commands))
tokens_of [] each = tt
tokens_of (c ∷ commands) each = (each.0.0.0, tokens_of commands each.1)

pub tokens_named : (r : Run Unit) → AllByRecursion IsToken (map (λ c. c.token) (asked r))
tokens_named r =
    subst (λ cs. AllByRecursion IsToken (map (λ c. c.token) cs)) (sym (entries_plain r.past.taken)) (tokens_of (flat_map asked_by r.past.taken) (all_written r.past.taken))

-- ---- Commands as they are sent, under the tokens from this one on

abbrev pub named : ℕ → List Asked → List AgentAsked
named token [] = []
named token (c ∷ commands) = record { token = decimal token; service = c.service; name = c.name; body = c.body } ∷ named (token + 1) commands

pub asking_named : (token : ℕ) (commands : List Asked) → asks_of (all_asking token commands) ≡ named token commands
asking_named token [] = refl
asking_named token (c ∷ commands) = ap (λ xs. record { token = decimal token; service = c.service; name = c.name; body = c.body } ∷ xs) (asking_named (token + 1) commands)
