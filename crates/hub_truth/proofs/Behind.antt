-- What is heard behind some messages, and that more commands than are executed change nothing of it.
use Rattle.std.proofs.Common.{◌≡◌, ℕ, ◌+◌, Bool, true, false, cond, List, [], ◌∷◌, ◌++◌, map, drop, length, Some, None, refl, sym, ap, subst}
use Rattle.std.specs.Prelude.{◌==◌}
use Rattle.std.proofs.lemmas.List.{append_assoc}
use Rattle.command_tables.specs.declared.reading.Reading.{Reading}
use Rattle.target_contexts.specs.declared.process.Image.{Image}
use Rattle.tcf_values.specs.declared.event.EventData.{EventData}
use Rattle.target_hub.specs.Answering.{executed}
use Rattle.target_hub.specs.History.{input_after, is_live}
use Rattle.target_hub.specs.HubValue.{new_target}
use Rattle.target_hub.specs.Passing.{closed_told, tick_told}
use Rattle.target_hub.specs.declared.done.Answered.{Answered}
use Rattle.target_hub.specs.declared.done.Answered.TheVariants.{Unknown, Result}
use Rattle.target_hub.specs.declared.done.Done.{Done}
use Rattle.target_hub.specs.declared.input.Input.{Input}
use Rattle.target_hub.specs.declared.input.Input.TheVariants.{Opened, Executed, Ticked, Closed}
use Rattle.run_control.specs.TargetValue.{TargetValue}
use Rattle.target_hub.specs.Sent.{ReadCommand, Told, answer_told, caller_told, events_told, executed_by, executed_on, hello_at, event_at, progress_at, progress_data, final_at, unknown_at, sent, sent_after, tick_events_told, told_by, agent_services}
use Rattle.target_truth.specs.Taught.{open_after, position_of}
use Rattle.hub_truth.proofs.Listened.{At, heard, is_for}
use Rattle.knowledge.specs.Learning.{Message, other_taken}
use Rattle.target_truth.specs.Listening.{left_after}
use Rattle.target_truth.specs.Taught.{final_message}
use Rattle.hub_truth.proofs.Listened.{Covers}

-- ---- where a command is executed for each answer

covers_more : (told : List Told) (c : ReadCommand) (commands : List ReadCommand) → Covers commands told → Covers (c ∷ commands) told
covers_more [] c commands covers = tt
covers_more (hello_at position body ∷ told) c [] covers = covers_more told c [] covers.1
covers_more (event_at position service name body ∷ told) c [] covers = covers_more told c [] covers.1
covers_more (progress_at position body ∷ told) c [] covers = absurd (let e = covers.0 in cc)
covers_more (final_at position through body ∷ told) c [] covers = absurd (let e = covers.0 in cc)
covers_more (unknown_at position through ∷ told) c [] covers = absurd (let e = covers.0 in cc)
covers_more (hello_at position body ∷ told) c (d ∷ commands) covers = covers_more told c (d ∷ commands) covers
covers_more (event_at position service name body ∷ told) c (d ∷ commands) covers = covers_more told c (d ∷ commands) covers
covers_more (progress_at position body ∷ told) c (d ∷ commands) covers = covers_more told c (d ∷ commands) covers
covers_more (final_at position through body ∷ told) c (d ∷ commands) covers = covers_more told d commands covers
covers_more (unknown_at position through ∷ told) c (d ∷ commands) covers = covers_more told d commands covers

covers_events : (position : ℕ) (events : List EventData) (commands : List ReadCommand) (told : List Told) → Covers commands told → Covers commands (events_told position events ++ told)
covers_events position [] commands told covers = covers
covers_events position (e ∷ events) [] told covers = (refl, covers_events position events [] told covers)
covers_events position (e ∷ events) (c ∷ commands) told covers = covers_events position events (c ∷ commands) told covers

covers_progress : (position : ℕ) (addresses : List ℕ) (c : ReadCommand) (commands : List ReadCommand) (told : List Told) → Covers (c ∷ commands) told
    → Covers (c ∷ commands) (map (λ address. progress_at position (progress_data address)) addresses ++ told)
covers_progress position [] c commands told covers = covers
covers_progress position (a ∷ addresses) c commands told covers = covers_progress position addresses c commands told covers

covers_answer : (position : ℕ) (through : Bool) (answer : Answered) (c : ReadCommand) (commands : List ReadCommand) (told : List Told) → Covers commands told
    → Covers (c ∷ commands) (answer_told position through answer ∷ told)
covers_answer position through Unknown c commands told covers = covers
covers_answer position through (Result body) c commands told covers = covers

-- ---- fronts, and what stands behind

pub covers_front : (front rest : List Told) (commands : List ReadCommand) → Covers commands (front ++ rest) → Covers commands front
covers_front [] rest commands covers = tt
covers_front (told ∷ front) rest [] covers = (covers.0, covers_front front rest [] covers.1)
covers_front (told ∷ front) rest (c ∷ commands) covers = covers_front front rest (open_after told (c ∷ commands)) covers

none_left : (told : Told) → open_after told [] ≡ []
none_left (hello_at position body) = refl
none_left (event_at position service name body) = refl
none_left (progress_at position body) = refl
none_left (final_at position through body) = refl
none_left (unknown_at position through) = refl

pub covers_behind : (front rest : List Told) (commands : List ReadCommand) → Covers commands (front ++ rest) → Covers (left_after front commands) rest
covers_behind [] rest commands covers = covers
covers_behind (told ∷ front) rest [] covers =
    covers_behind front rest (open_after told []) (subst (λ (cs : List ReadCommand). Covers cs (front ++ rest)) (sym (none_left told)) covers.1)
covers_behind (told ∷ front) rest (c ∷ commands) covers = covers_behind front rest (open_after told (c ∷ commands)) covers

-- ---- more commands change nothing

if_more : (told : Told) (owns : List Bool) (m : Message) (one other : List At) → one ≡ other
    → cond (is_for owns told) (record { message = m; position = position_of told } ∷ one) one ≡ cond (is_for owns told) (record { message = m; position = position_of told } ∷ other) other
if_more told owns m one other same = ap (λ later. cond (is_for owns told) (record { message = m; position = position_of told } ∷ later) later) same

pub more_commands : (told : List Told) (owns : List Bool) (commands more : List ReadCommand) → Covers commands told
    → heard owns (commands ++ more) told ≡ heard owns commands told
more_commands [] owns commands more covers = refl
more_commands (hello_at position body ∷ told) owns [] more covers = if_more (hello_at position body) owns _ _ _ (more_commands told owns [] more covers.1)
more_commands (hello_at position body ∷ told) owns (c ∷ commands) more covers = if_more (hello_at position body) owns _ _ _ (more_commands told owns (c ∷ commands) more covers)
more_commands (event_at position service name body ∷ told) owns [] more covers = if_more (event_at position service name body) owns _ _ _ (more_commands told owns [] more covers.1)
more_commands (event_at position service name body ∷ told) owns (c ∷ commands) more covers = if_more (event_at position service name body) owns _ _ _ (more_commands told owns (c ∷ commands) more covers)
more_commands (progress_at position body ∷ told) owns [] more covers = absurd (let e = covers.0 in cc)
more_commands (progress_at position body ∷ told) owns (c ∷ commands) more covers = if_more (progress_at position body) owns other_taken _ _ (more_commands told owns (c ∷ commands) more covers)
more_commands (final_at position through body ∷ told) owns [] more covers = absurd (let e = covers.0 in cc)
more_commands (final_at position through body ∷ told) owns (c ∷ commands) more covers =
    if_more (final_at position through body) owns (final_message (Some c.reading) body) _ _ (more_commands told (drop 1 owns) commands more covers)
more_commands (unknown_at position through ∷ told) owns [] more covers = absurd (let e = covers.0 in cc)
more_commands (unknown_at position through ∷ told) owns (c ∷ commands) more covers = if_more (unknown_at position through) owns other_taken _ _ (more_commands told (drop 1 owns) commands more covers)

-- ---- and of what a history tells

covers_by : (k position channel : ℕ) (reading : Reading) (done : Done) (flag : Bool) (c : ReadCommand) (commands : List ReadCommand) (told : List Told) → Covers commands told
    → Covers (cond flag (c ∷ []) [] ++ commands) ((events_told position done.events ++ cond flag (caller_told position reading done) []) ++ told)
covers_by k position channel reading done false c commands told covers =
    subst (λ (all : List Told). Covers commands all) (sym (append_assoc (events_told position done.events) [] told)) (covers_events position done.events commands told covers)
covers_by k position channel reading done true c commands told covers =
    subst (λ (all : List Told). Covers (c ∷ commands) all) (sym (append_assoc (events_told position done.events) (caller_told position reading done) told))
    (covers_events position done.events (c ∷ commands) (caller_told position reading done ++ told)
    (subst (λ (all : List Told). Covers (c ∷ commands) all) (sym (append_assoc (map (λ address. progress_at position (progress_data address)) done.progress) _ told))
    (covers_progress position done.progress c commands _ (covers_answer position _ done.answer c commands told covers))))

covers_input : (k position : ℕ) (target : TargetValue) (input : Input) (commands : List ReadCommand) (told : List Told) → Covers commands told
    → Covers (executed_by k input ++ commands) (told_by k position target input ++ told)
covers_input k position target (Opened channel) commands told covers = opening (channel == k) commands covers
  where
    opening : (flag : Bool) (commands : List ReadCommand) → Covers commands told → Covers commands (cond flag (hello_at position agent_services ∷ []) [] ++ told)
    opening false commands covers = covers
    opening true [] covers = (refl, covers)
    opening true (c ∷ commands) covers = covers
covers_input k position target (Executed channel reading service name) commands told covers =
    covers_by k position channel reading (executed channel service name reading target) (channel == k) (record { reading = reading; service = service; name = name }) commands told covers
covers_input k position target (Ticked thread) commands told covers = ticking (tick_told thread target)
  where
    ticking : (o : _) → Covers commands (tick_events_told position o ++ told)
    ticking None = covers
    ticking (Some events) = covers_events position events commands told covers
covers_input k position target (Closed channel) commands told covers = covers_events position (closed_told channel target) commands told covers

executes_more : (k : ℕ) (input : Input) (commands : List ReadCommand) (told : List Told) → Covers commands told → Covers (executed_by k input ++ commands) told
executes_more k (Opened channel) commands told covers = covers
executes_more k (Executed channel reading service name) commands told covers = executing (channel == k)
  where
    executing : (flag : Bool) → Covers (cond flag (record { reading = reading; service = service; name = name } ∷ []) [] ++ commands) told
    executing false = covers
    executing true = covers_more told (record { reading = reading; service = service; name = name }) commands covers
executes_more k (Ticked thread) commands told covers = covers
executes_more k (Closed channel) commands told covers = covers

covers_live : (live : Bool) (k position : ℕ) (target : TargetValue) (input : Input) (commands : List ReadCommand) (told : List Told) → Covers commands told
    → Covers (executed_by k input ++ commands) (cond live (told_by k position target input) [] ++ told)
covers_live true k position target input commands told covers = covers_input k position target input commands told covers
covers_live false k position target input commands told covers = executes_more k input commands told covers

covers_after : (k : ℕ) (before : List Input) (target : TargetValue) (inputs : List Input) → Covers (executed_on k inputs) (sent_after k before target inputs)
covers_after k before target [] = tt
covers_after k before target (input ∷ inputs) =
    covers_live (is_live k (before ++ input ∷ [])) k (length before + 1) target input (executed_on k inputs) _ (covers_after k (before ++ input ∷ []) (input_after input target) inputs)

pub covers_sent : (images : List Image) (k : ℕ) (history : List Input) → Covers (executed_on k history) (sent images k history)
covers_sent images k history = covers_after k [] (new_target images) history
