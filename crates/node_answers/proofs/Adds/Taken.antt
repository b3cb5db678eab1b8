-- The commands that were taken, and the messages that were: those are what commands ask.
use Rattle.std.proofs.Common.{◌≡◌, ℕ, true, List, [], ◌∷◌, ◌++◌, Option, Result, Ok, refl, ap, sym, ◌∙◌, subst}
use Rattle.std.specs.Prelude.{decimal, if◌then◌else◌}
use Rattle.std.specs.List.{AllByRecursion, flat_map}
use Rattle.std.proofs.lemmas.List.{append-nil}
use Rattle.std.proofs.lemmas.List.Concat.{flat_map-append}
use Rattle.channel_core.specs.Arrivals.{Spoken}
use Rattle.channel_core.specs.ReceivingLaws.{incoming_of}
use Rattle.channel_core.specs.Wire.{Said, answers, asks, goes_on, greets, is_redirect, said_in, said_of, tells}
use Rattle.channel_core.specs.declared.held.Incoming.{Incoming}
use Rattle.channel_core.specs.declared.taking.Taken.{Taken}
use Rattle.channel_core.specs.declared.taking.Taken.TheVariants as taken
use Rattle.channel_laws.specs.Meeting.{IsAnsweredBy, answers_among, redirect_in, redirects_among}
use Rattle.channel_laws.specs.Numbering.{token_asked, tokens_among}
use Rattle.channel_laws.specs.Rest.{IsAsSaid}
use Rattle.tcf_message.specs.Message.{MessageValue, command, reading}
use Rattle.tcf_message.specs.declared.message.MessageFault.{MessageFault}
use Rattle.value_node.specs.Asked.{Asked}
use Rattle.value_node.specs.RelayLaws.{asked_by, asked_in}
use Rattle.node_answers.proofs.Adds.Apart.{tokens_of}
use Rattle.list_laws.proofs.AllLists.{all_left, all_right}

-- the tokens of the redirects among commands
abbrev pub redirect_of : Asked → List (List ℕ)
redirect_of c = if is_redirect c.service c.name then c.token ∷ [] else []

abbrev pub redirects_of : List Asked → List (List ℕ)
redirects_of commands = flat_map redirect_of commands

-- ---- what is found of one message, and of the command that it is

abbrev Finds : (Result MessageValue MessageFault → List (List ℕ)) → (Asked → List (List ℕ)) → Type 0
Finds of_message of_command = (m : Result MessageValue MessageFault) (mark : Option ℕ) → of_message m ≡ flat_map of_command (asked_in mark m)

finds_tokens : Finds token_asked (λ c. c.token ∷ [])
finds_tokens (Ok (command token service name body)) mark = refl
finds_tokens m mark = refl

finds_redirects : Finds redirect_in redirect_of
finds_redirects (Ok (command token service name body)) mark = sym (append-nil (if is_redirect service name then token ∷ [] else []))
finds_redirects m mark = refl

-- a message that says another thing isn't one
none_asked : (m : Result MessageValue MessageFault) (mark : Option ℕ) (said : Said) → said_of m ≡ said → (said ≡ asks → ⊥) → asked_in mark m ≡ []
none_asked (Ok (command token service name body)) mark said is other = absurd (other (sym is))
none_asked m mark said is other = refl

other_asked : (incoming : Incoming) (said : Said) → said_in incoming.raw ≡ said → (said ≡ asks → ⊥) → asked_in incoming.mark (reading incoming.raw) ≡ []
other_asked incoming said is other = none_asked (reading incoming.raw) incoming.mark said is other

abbrev messages_of : {T : Type 0} → List (Taken T) → List Incoming
messages_of entries = flat_map incoming_of entries

-- so one entry is the command that its message is
entry_asks : {T : Type 0} → (t : Taken T) → IsAsSaid t → flat_map (λ m. asked_in m.mark (reading m.raw)) (incoming_of t) ≡ asked_by t
entry_asks (taken.Hello incoming) is = append-nil (asked_in incoming.mark (reading incoming.raw)) ∙ other_asked incoming greets is (λ same. absurd cc)
entry_asks (taken.Command incoming) is = append-nil (asked_in incoming.mark (reading incoming.raw))
entry_asks (taken.Event incoming) is = append-nil (asked_in incoming.mark (reading incoming.raw)) ∙ other_asked incoming tells is (λ same. absurd cc)
entry_asks (taken.Progress token incoming) is = append-nil (asked_in incoming.mark (reading incoming.raw)) ∙ other_asked incoming (goes_on is.0) is.1 (λ same. absurd cc)
entry_asks (taken.Final tag incoming) is = append-nil (asked_in incoming.mark (reading incoming.raw)) ∙ other_asked incoming (answers (decimal is.0) is.1) is.2 (λ same. absurd cc)
entry_asks (taken.Closed cause) is = refl

pub entries_ask : {T : Type 0} → (entries : List (Taken T)) → AllByRecursion IsAsSaid entries → flat_map (λ m. asked_in m.mark (reading m.raw)) (messages_of entries) ≡ flat_map asked_by entries
entries_ask [] all = refl
entries_ask (t ∷ entries) all =
    flat_map-append (λ (m : Incoming). asked_in m.mark (reading m.raw)) (incoming_of t) (messages_of entries)
    ∙ ap (λ cs. cs ++ flat_map (λ (m : Incoming). asked_in m.mark (reading m.raw)) (messages_of entries)) (entry_asks t all.0) ∙ ap (λ cs. asked_by t ++ cs) (entries_ask entries all.1)

-- ---- of all messages

found : (of_message : Result MessageValue MessageFault → List (List ℕ)) (of_command : Asked → List (List ℕ)) → Finds of_message of_command → (messages : List Incoming)
    → flat_map (λ m. of_message (reading m.raw)) messages ≡ flat_map of_command (flat_map (λ m. asked_in m.mark (reading m.raw)) messages)
found of_message of_command finds [] = refl
found of_message of_command finds (m ∷ messages) =
    ap (λ ts. ts ++ flat_map (λ (m : Incoming). of_message (reading m.raw)) messages) (finds (reading m.raw) m.mark)
    ∙ ap (λ ts. flat_map of_command (asked_in m.mark (reading m.raw)) ++ ts) (found of_message of_command finds messages)
    ∙ sym (flat_map-append of_command (asked_in m.mark (reading m.raw)) (flat_map (λ (m : Incoming). asked_in m.mark (reading m.raw)) messages))

pub tokens_taken : {T : Type 0} → (entries : List (Taken T)) → AllByRecursion IsAsSaid entries → tokens_among (messages_of entries) ≡ tokens_of (flat_map asked_by entries)
tokens_taken entries all = found token_asked (λ (c : Asked). c.token ∷ []) finds_tokens (messages_of entries) ∙ ap tokens_of (entries_ask entries all)

pub redirects_taken : {T : Type 0} → (entries : List (Taken T)) → AllByRecursion IsAsSaid entries → redirects_among (messages_of entries) ≡ redirects_of (flat_map asked_by entries)
redirects_taken entries all = found redirect_in redirect_of finds_redirects (messages_of entries) ∙ ap redirects_of (entries_ask entries all)

-- ---- where each command is answered

answered_in : (spoken : List Spoken) (m : Result MessageValue MessageFault) (mark : Option ℕ) → AllByRecursion (λ c. answers_among c.token spoken ≡ true) (asked_in mark m) → IsAnsweredBy spoken m
answered_in spoken (Ok (command token service name body)) mark all = all.0
answered_in spoken m mark all = tt

messages_answered : (spoken : List Spoken) (messages : List Incoming) → AllByRecursion (λ c. answers_among c.token spoken ≡ true) (flat_map (λ m. asked_in m.mark (reading m.raw)) messages)
    → AllByRecursion (λ m. IsAnsweredBy spoken (reading m.raw)) messages
messages_answered spoken [] all = tt
messages_answered spoken (m ∷ messages) all =
    let later = flat_map (λ (m : Incoming). asked_in m.mark (reading m.raw)) messages in (
      answered_in spoken (reading m.raw) m.mark (all_left (λ (c : Asked). answers_among c.token spoken ≡ true) (asked_in m.mark (reading m.raw)) later all),
      messages_answered spoken messages (all_right (λ (c : Asked). answers_among c.token spoken ≡ true) (asked_in m.mark (reading m.raw)) later all),
    )

pub taken_answered : {T : Type 0} → (spoken : List Spoken) (entries : List (Taken T)) → AllByRecursion IsAsSaid entries → AllByRecursion (λ c. answers_among c.token spoken ≡ true) (flat_map asked_by entries)
    → AllByRecursion (λ m. IsAnsweredBy spoken (reading m.raw)) (messages_of entries)
taken_answered spoken entries all answered =
    messages_answered spoken (messages_of entries) (subst (λ cs. AllByRecursion (λ (c : Asked). answers_among c.token spoken ≡ true) cs) (sym (entries_ask entries all)) answered)
