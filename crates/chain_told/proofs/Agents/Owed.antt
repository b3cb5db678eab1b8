-- But for answers to storable commands the messages are what the history owes.
use Rattle.std.proofs.Common.{◌≡◌, ℕ, ◌+◌, ◌^◌, ◌≤◌, Bool, true, false, not, cond, List, [], ◌∷◌, ◌++◌, filter, length, map, Option, Some, refl, ap, sym, ◌∙◌, subst, arith}
use Rattle.std.specs.List.{AllByRecursion}
use Rattle.channel_core.specs.Arrivals.{Spoken}
use Rattle.chain_told.specs.Told.{command_under, is_any_storable, is_storable, is_stored, numbered, owed_in}
use Rattle.command_tables.specs.Reading.{reading_of}
use Rattle.command_tables.specs.declared.reading.Reading.{Reading}
use Rattle.command_tables.specs.declared.reading.Reading.TheVariants as readings
use Rattle.target_contexts.specs.declared.process.Image.{Image}
use Rattle.list_laws.specs.Fronts.{IsFront}
use Rattle.target_hub.specs.Received.{is_owed}
use Rattle.target_hub.specs.Sent.{Told, event_at, executed_on, final_at, hello_at, is_through, progress_at, sent, unknown_at}
use Rattle.target_hub.specs.declared.input.Input.{Input}
use Rattle.tcf_message.specs.Message.{MessageValue, final, not_known}
use Rattle.value_node.specs.Asked.{Asked}
use Rattle.value_node.specs.Barriers.{command_in}
use Rattle.chain_told.specs.Sent.{TargetTellsWhatIsOwed, bare, read_as}
use Rattle.chain_told.proofs.Agents.Answering.{sent_comes}
use Rattle.chain_told.proofs.Agents.Numbered.{IsFound, found_all, numbered_apart, read_numbered}
use Rattle.chain_told.proofs.Agents.Saying.{ComeTo, come_to, spoken}

-- an answer to a storable command is left out, and that is what isn't through
through_is : (reading : Reading) → is_through reading ≡ not (is_stored (command_in reading))
through_is (readings.Known command) = refl
through_is readings.Unknown = refl
through_is (readings.Bad index code) = refl

answer_owed : (stored through : Bool) (message : Spoken) (rest others : List Spoken) → through ≡ not stored → rest ≡ others
    → cond stored [] (message ∷ []) ++ rest ≡ cond through (message ∷ others) others
answer_owed true true message rest others flag same = absurd cc
answer_owed true false message rest others flag same = same
answer_owed false true message rest others flag same = ap (λ l. message ∷ l) same
answer_owed false false message rest others flag same = absurd cc

-- a message at a position
abbrev at_place : ℕ → MessageValue → Spoken
at_place place message = record { message = message; mark = Some place }

marked_if : (stored : Bool) (place : ℕ) (message : MessageValue)
    → map (at_place place) (cond stored [] (message ∷ [])) ≡ cond stored [] (at_place place message ∷ [])
marked_if true place message = refl
marked_if false place message = refl

bare_if : (through : Bool) (now : Told) (told : List Told) → map bare (cond through (now ∷ told) told) ≡ cond through (bare now ∷ map bare told) (map bare told)
bare_if true now told = refl
bare_if false now told = refl

-- one that is found goes to this command
one_owed : (all : List Asked) (c : Asked) (through : Bool) (place : ℕ) (message : MessageValue) (now : Told) (rest : List Spoken) (told : List Told) → IsFound all c
    → through ≡ is_through (reading_of c.service c.name c.body) → bare now ≡ at_place place message → rest ≡ map bare told
    → map (at_place place) (cond (is_any_storable (command_under c.token all)) [] (message ∷ [])) ++ rest ≡ map bare (cond through (now ∷ told) told)
one_owed all c through place message now rest told found flag is same =
    let m = at_place place message in
    ap (λ (o : Option Asked). map (at_place place) (cond (is_any_storable o) [] (message ∷ [])) ++ rest) found
    ∙ ap (λ l. l ++ rest) (marked_if (is_storable c) place message)
    ∙ answer_owed (is_storable c) through m rest (map bare told) (flag ∙ through_is (reading_of c.service c.name c.body)) same
    ∙ ap (λ s. cond through (s ∷ map bare told) (map bare told)) (sym is) ∙ sym (bare_if through now told)

owed_told : (images : List Image) (history : List Input) (all : List Asked) (told : List Told) (left : List Asked) → AllByRecursion (IsFound all) left → ComeTo images history left told
    → owed_in all (spoken left told) ≡ map bare (filter is_owed told)
owed_told images history all [] left found come = refl
owed_told images history all (hello_at place body ∷ told) left found come = ap (λ l. bare (hello_at place body) ∷ l) (owed_told images history all told left found come.1)
owed_told images history all (event_at place service name body ∷ told) left found come =
    ap (λ l. bare (event_at place service name body) ∷ l) (owed_told images history all told left found come.1)
owed_told images history all (progress_at place body ∷ told) left found come = ap (λ l. bare (progress_at place body) ∷ l) (owed_told images history all told left found come.1)
owed_told images history all (final_at place through body ∷ told) [] found come = absurd come.0.1
owed_told images history all (final_at place through body ∷ told) (c ∷ left) found come =
    one_owed all c through place (final [] body) (final_at place through body) (owed_in all (spoken left told)) (filter is_owed told) found.0 come.0.1.flag refl
    (owed_told images history all told left found.1 come.1)
owed_told images history all (unknown_at place through ∷ told) [] found come = absurd come.0.1
owed_told images history all (unknown_at place through ∷ told) (c ∷ left) found come =
    one_owed all c through place (not_known []) (unknown_at place through) (owed_in all (spoken left told)) (filter is_owed told) found.0 come.0.1.flag refl
    (owed_told images history all told left found.1 come.1)

pub owed : TargetTellsWhatIsOwed
owed images history k commands legal few asked =
    let all = numbered 1 commands in
    let counted : 1 + length commands ≤ 10 ^ 64 = omega arith in
    let front : IsFront (executed_on k history) (map read_as all) = subst (IsFront (executed_on k history)) (sym (read_numbered 1 commands)) asked in
    owed_told images history all (sent images k history) all (found_all all (numbered_apart 1 commands counted))
    (come_to images history (sent images k history) (executed_on k history) all front (sent_comes images history k legal))
