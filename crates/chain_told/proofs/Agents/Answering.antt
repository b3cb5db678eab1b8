-- Each answer of the history goes to the first command that has none yet, and one to a storable command is what the target answers.
use Rattle.std.proofs.Common.{◌≡◌, ℕ, ◌+◌, ◌≤◌, ◌==◌, Bool, true, false, true≢false, cond, List, [], ◌∷◌, ◌++◌, length, map, Option, Some, None, refl, ap, sym, ◌∙◌, subst, arith, eqb-true, length-append}
use Rattle.std.proofs.lemmas.List.{append_assoc}
use Rattle.command_tables.specs.declared.reading.Reading.{Reading}
use Rattle.command_tables.specs.declared.reading.Reading.TheVariants as readings
use Rattle.reply_tables.specs.Written.{answer_data}
use Rattle.service_names.specs.declared.commands.CommandName.{CommandName}
use Rattle.target_contexts.specs.declared.process.Image.{Image}
use Rattle.tcf_values.specs.Changing.{changes}
use Rattle.tcf_values.specs.Storable.{stores}
use Rattle.tcf_values.specs.declared.command.Command.{Command}
use Rattle.tcf_values.specs.declared.command.Command.TheVariants.{BpGetStatus, BpProperties, GetContext, GetState, MemGet, RegGet, RegGetm}
use Rattle.tcf_values.specs.declared.effect.Effect.{Effect}
use Rattle.tcf_values.specs.declared.event.EventData.{EventData}
use Rattle.target_hub.specs.Answering.{executed, refusal}
use Rattle.target_hub.specs.Execution.{exec_after, exec_effect}
use Rattle.target_hub.specs.Fresh.{answer_at, target_at}
use Rattle.target_hub.specs.History.{IsAllowed, IsLegal, input_after, inputs_after, is_live}
use Rattle.target_hub.specs.HubValue.{TargetValue, new_target}
use Rattle.target_hub.specs.Passing.{closed_told, tick_told}
use Rattle.target_hub.specs.Sent.{ReadCommand, Told, agent_services, answer_told, caller_told, event_at, events_told, executed_by, executed_on, final_at, hello_at, is_through, progress_at, progress_data, sent, sent_after, tick_events_told, told_by, told_while_live, unknown_at}
use Rattle.target_hub.specs.declared.done.Answered.{Answered}
use Rattle.target_hub.specs.declared.done.Answered.TheVariants.{Result, Unknown}
use Rattle.target_hub.specs.declared.done.Done.{Done}
use Rattle.target_hub.specs.declared.input.Input.{Input}
use Rattle.target_hub.specs.declared.input.Input.TheVariants.{Closed, Executed, Opened, Ticked}
use Rattle.target_truth.specs.Taught.{open_after}
use Rattle.target_truth.proofs.Positions.{target_there}
use Rattle.target_hub.proofs.TheLaws.{asking_changes_nothing, asking_is_the_same}
use Rattle.chain_told.proofs.Agents.Sending.{inputs_push, still_live}
use Rattle.target_truth.proofs.Messages.{as_read}

-- ---- what comes

abbrev pub FirstIs : {A : Type 0} → (A → Type 0) → List A → Type 0
FirstIs P [] = ⊥
FirstIs P (x ∷ xs) = P x

-- an answer with data, to this command
pub record AnswersSo (images : List Image) (history : List Input) (position : ℕ) (through : Bool) (body : List ℕ) (c : ReadCommand) : Type 0 where
  pub flag : through ≡ is_through c.reading
  pub same : (command : Command) → c.reading ≡ readings.Known command → stores command ≡ true → body ≡ answer_at images history position command

-- this command isn't known
pub record IsNotKnown (through : Bool) (c : ReadCommand) : Type 0 where
  pub flag : through ≡ is_through c.reading
  pub unread : (command : Command) → c.reading ≡ readings.Known command → ⊥

-- a message, where these commands have no answer yet
abbrev pub Comes : List Image → List Input → List ReadCommand → Told → Type 0
Comes images history asked (hello_at place body) = place ≤ length history
Comes images history asked (event_at place service name body) = place ≤ length history
Comes images history asked (progress_at place body) = (place ≤ length history) × FirstIs (λ (c : ReadCommand). Unit {0}) asked
Comes images history asked (final_at place through body) = (place ≤ length history) × FirstIs (AnswersSo images history place through body) asked
Comes images history asked (unknown_at place through) = (place ≤ length history) × FirstIs (IsNotKnown through) asked

abbrev pub Come : List Image → List Input → List ReadCommand → List Told → Type 0
Come images history asked [] = Unit {0}
Come images history asked (now ∷ told) = Comes images history asked now × Come images history (open_after now asked) told

-- ---- a storable command only asks

storable_asks : (command : Command) → stores command ≡ true → changes command ≡ false
storable_asks (GetContext id) storable = refl
storable_asks (GetState id) storable = refl
storable_asks (BpProperties id) storable = refl
storable_asks (BpGetStatus id) storable = refl
storable_asks (MemGet id addr word size mode) storable = refl
storable_asks (RegGet id) storable = refl
storable_asks (RegGetm list) storable = refl
storable_asks command storable = absurd cc

-- so its answer is that of the target behind it, and the same for every channel
asked_there : (channel : ℕ) (command : Command) (target there : TargetValue) → stores command ≡ true
    → there ≡ exec_after channel command target
    → answer_data command (exec_effect channel command target).answer ≡ answer_data command (exec_effect 0 command there).answer
asked_there channel command target there storable is =
    let asks : changes command ≡ false = storable_asks command storable in
    let kept : there ≡ target = is ∙ (asking_changes_nothing channel command target asks).0 in
    let effects : exec_effect channel command target ≡ exec_effect 0 command there =
    asking_is_the_same channel 0 command target asks ∙ ap (exec_effect 0 command) (sym kept) in
    ap (λ (effect : Effect). answer_data command effect.answer) effects

-- ---- the messages of one input

events_come : (images : List Image) (history : List Input) (position : ℕ) → position ≤ length history → (events : List EventData) (asked : List ReadCommand) (rest : List Told)
    → Come images history asked rest → Come images history asked (events_told position events ++ rest)
events_come images history position bound [] asked rest come = come
events_come images history position bound (first ∷ events) asked rest come = (bound, events_come images history position bound events asked rest come)

progress_comes : (images : List Image) (history : List Input) (position : ℕ) → position ≤ length history → (addresses : List ℕ) (c : ReadCommand) (asked : List ReadCommand) (rest : List Told)
    → Come images history (c ∷ asked) rest → Come images history (c ∷ asked) (map (λ address. progress_at position (progress_data address)) addresses ++ rest)
progress_comes images history position bound [] c asked rest come = come
progress_comes images history position bound (address ∷ addresses) c asked rest come =
    ((bound, tt), progress_comes images history position bound addresses c asked rest come)

abbrev AnswerIs : List Image → List Input → ℕ → ReadCommand → Answered → Type 0
AnswerIs images history position c Unknown = IsNotKnown (is_through c.reading) c
AnswerIs images history position c (Result body) = AnswersSo images history position (is_through c.reading) body c

answer_comes : (images : List Image) (history : List Input) (position : ℕ) → position ≤ length history → (answer : Answered) (c : ReadCommand) (asked : List ReadCommand) (rest : List Told)
    → AnswerIs images history position c answer → Come images history asked rest
    → Come images history (c ∷ asked) (answer_told position (is_through c.reading) answer ∷ rest)
answer_comes images history position bound Unknown c asked rest is come = ((bound, is), come)
answer_comes images history position bound (Result body) c asked rest is come = ((bound, is), come)

caller_comes : (images : List Image) (history : List Input) (position : ℕ) → position ≤ length history → (reading : Reading) (service name : List ℕ) (done : Done) (asked : List ReadCommand)
    (rest : List Told) → AnswerIs images history position (as_read reading service name) done.answer → Come images history asked rest
    → Come images history (as_read reading service name ∷ asked) (caller_told position reading done ++ rest)
caller_comes images history position bound reading service name done asked rest is come =
    let addresses = map (λ address. progress_at position (progress_data address)) done.progress in
    let answer = answer_told position (is_through reading) done.answer in
    let c = as_read reading service name in
    subst (Come images history (c ∷ asked)) (sym (append_assoc addresses (answer ∷ []) rest))
    (progress_comes images history position bound done.progress c asked (answer ∷ rest) (answer_comes images history position bound done.answer c asked rest is come))

executed_comes : (live own : Bool) (images : List Image) (history : List Input) (position : ℕ) → position ≤ length history → (reading : Reading) (service name : List ℕ) (done : Done)
    (asked : List ReadCommand) (rest : List Told) → AnswerIs images history position (as_read reading service name) done.answer → (own ≡ true → live ≡ true) → Come images history asked rest
    → Come images history (cond own (as_read reading service name ∷ []) [] ++ asked)
    (cond live (events_told position done.events ++ cond own (caller_told position reading done) []) [] ++ rest)
executed_comes true true images history position bound reading service name done asked rest is lives come =
    let c = as_read reading service name in
    subst (Come images history (c ∷ asked)) (sym (append_assoc (events_told position done.events) (caller_told position reading done) rest))
    (events_come images history position bound done.events (c ∷ asked) (caller_told position reading done ++ rest)
    (caller_comes images history position bound reading service name done asked rest is come))
executed_comes true false images history position bound reading service name done asked rest is lives come =
    subst (Come images history asked) (sym (append_assoc (events_told position done.events) [] rest))
    (events_come images history position bound done.events asked rest come)
executed_comes false true images history position bound reading service name done asked rest is lives come = absurd (true≢false (sym (lives refl)))
executed_comes false false images history position bound reading service name done asked rest is lives come = come

live_comes : (live : Bool) (images : List Image) (history : List Input) (asked : List ReadCommand) (told rest : List Told) → Come images history asked rest
    → Come images history asked (told ++ rest) → Come images history asked (cond live told [] ++ rest)
live_comes true images history asked told rest without come = come
live_comes false images history asked told rest without come = without

greeting_comes : (own : Bool) (images : List Image) (history : List Input) (position : ℕ) → position ≤ length history → (asked : List ReadCommand) (rest : List Told)
    → Come images history asked rest → Come images history asked (cond own (hello_at position agent_services ∷ []) [] ++ rest)
greeting_comes true images history position bound asked rest come = (bound, come)
greeting_comes false images history position bound asked rest come = come

tick_comes : (images : List Image) (history : List Input) (position : ℕ) → position ≤ length history → (told : Option (List EventData)) (asked : List ReadCommand) (rest : List Told)
    → Come images history asked rest → Come images history asked (tick_events_told position told ++ rest)
tick_comes images history position bound None asked rest come = come
tick_comes images history position bound (Some events) asked rest come = events_come images history position bound events asked rest come

-- ---- the answer of an executed command

refusal_is : (images : List Image) (history : List Input) (position : ℕ) (named : Option CommandName) (index code : ℕ) (service name : List ℕ)
    → AnswerIs images history position (as_read (readings.Bad index code) service name) (refusal named code)
refusal_is images history position None index code service name = record { flag = refl; unread = λ command is. absurd cc }
refusal_is images history position (Some named) index code service name = record { flag = refl; same = λ command is storable. absurd cc }

known_is : (images : List Image) (history : List Input) (position channel : ℕ) (command : Command) (target : TargetValue) (service name : List ℕ)
    → target_at images history position ≡ exec_after channel command target
    → AnswersSo images history position (is_through (readings.Known command)) (answer_data command (exec_effect channel command target).answer) (as_read (readings.Known command) service name)
known_is images history position channel command target service name there = record {
  flag = refl;
  same = λ other is storable.
      let one : other ≡ command = cc in
      subst (λ (c : Command). answer_data command (exec_effect channel command target).answer ≡ answer_at images history position c) (sym one)
      (asked_there channel command target (target_at images history position) (subst (λ (c : Command). stores c ≡ true) one storable) there);
}

answer_is : (images : List Image) (history before inputs : List Input) (channel : ℕ) (reading : Reading) (service name : List ℕ) (target : TargetValue)
    → history ≡ before ++ Executed channel reading service name ∷ inputs → target ≡ inputs_after before (new_target images)
    → AnswerIs images history (length before + 1) (as_read reading service name) (executed channel service name reading target).answer
answer_is images history before inputs channel (readings.Known command) service name target split made =
    let input = Executed channel (readings.Known command) service name in
    let position : ℕ = length before + 1 in
    let there : target_at images history position ≡ exec_after channel command target =
    ap (λ (h : List Input). target_at images h position) split ∙ target_there images before inputs input ∙ ap (input_after input) (sym made) in
    known_is images history position channel command target service name there
answer_is images history before inputs channel readings.Unknown service name target split made =
    record { flag = refl; unread = λ command is. absurd cc }
answer_is images history before inputs channel (readings.Bad index code) service name target split made =
    refusal_is images history (length before + 1) _ index code service name

-- ---- of each input, and of all

comes_by : (k : ℕ) (images : List Image) (history before inputs : List Input) (target : TargetValue) (input : Input) (asked : List ReadCommand) (rest : List Told)
    → IsAllowed before target input → history ≡ before ++ input ∷ inputs → target ≡ inputs_after before (new_target images) → length before + 1 ≤ length history
    → Come images history asked rest → Come images history (executed_by k input ++ asked) (told_while_live k before target input ++ rest)
comes_by k images history before inputs target (Opened channel) asked rest allowed split made bound come =
    let place : ℕ = length before + 1 in
    live_comes (is_live k (before ++ Opened channel ∷ [])) images history asked (told_by k place target (Opened channel)) rest come
    (greeting_comes (channel == k) images history place bound asked rest come)
comes_by k images history before inputs target (Executed channel reading service name) asked rest allowed split made bound come =
    let input = Executed channel reading service name in
    executed_comes (is_live k (before ++ input ∷ [])) (channel == k) images history (length before + 1) bound reading service name (executed channel service name reading target) asked rest
    (answer_is images history before inputs channel reading service name target split made)
    (λ is. still_live k before input refl refl ∙ subst (λ n. is_live n before ≡ true) (eqb-true channel k is) allowed.0) come
comes_by k images history before inputs target (Ticked thread) asked rest allowed split made bound come =
    let place : ℕ = length before + 1 in
    live_comes (is_live k (before ++ Ticked thread ∷ [])) images history asked (told_by k place target (Ticked thread)) rest come
    (tick_comes images history place bound (tick_told thread target) asked rest come)
comes_by k images history before inputs target (Closed channel) asked rest allowed split made bound come =
    let place : ℕ = length before + 1 in
    live_comes (is_live k (before ++ Closed channel ∷ [])) images history asked (told_by k place target (Closed channel)) rest come
    (events_come images history place bound (closed_told channel target) asked rest come)

come_after : (k : ℕ) (images : List Image) (history before inputs : List Input) (target : TargetValue) → IsLegal images history → history ≡ before ++ inputs
    → target ≡ inputs_after before (new_target images) → Come images history (executed_on k inputs) (sent_after k before target inputs)
come_after k images history before [] target legal split made = tt
come_after k images history before (input ∷ inputs) target legal split made =
    let allowed : IsAllowed before target input = subst (λ t. IsAllowed before t input) (sym made) (legal before input inputs split) in
    let longer : length history ≡ length before + length (input ∷ inputs) = ap length split ∙ length-append before (input ∷ inputs) in
    let bound : length before + 1 ≤ length history = omega arith in
    comes_by k images history before inputs target input (executed_on k inputs) (sent_after k (before ++ input ∷ []) (input_after input target) inputs) allowed split made bound
    (come_after k images history (before ++ input ∷ []) inputs (input_after input target) legal (split ∙ sym (append_assoc before (input ∷ []) inputs))
    (ap (input_after input) made ∙ sym (inputs_push before input (new_target images))))

pub sent_comes : (images : List Image) (history : List Input) (k : ℕ) → IsLegal images history
    → Come images history (executed_on k history) (sent images k history)
sent_comes images history k legal = come_after k images history [] history (new_target images) legal refl refl
