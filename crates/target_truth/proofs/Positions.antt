-- Each message of an input has the number of the inputs up to it as its position, and the target after so many inputs is
-- the one that the input leaves.
use Rattle.std.proofs.Common.{◌≡◌, ℕ, suc, ◌+◌, ◌==◌, Bool, true, false, cond, List, [], ◌∷◌, ◌++◌, length, map, take, Option, Some, None, refl, ◌∙◌, ap, subst, arith}
use Rattle.std.specs.List.{AllByRecursion}
use Rattle.target_contexts.specs.declared.process.Image.{Image}
use Rattle.target_hub.specs.Answering.{executed}
use Rattle.target_hub.specs.Fresh.{target_at}
use Rattle.target_hub.specs.History.{input_after, inputs_after}
use Rattle.target_hub.specs.HubValue.{new_target}
use Rattle.target_hub.specs.Passing.{closed_told, tick_told}
use Rattle.target_hub.specs.Sent.{Told, agent_services, answer_told, caller_told, events_told, executed_told, hello_at, is_through, progress_at, progress_data, tick_events_told, told_by}
use Rattle.target_hub.specs.declared.done.Answered.{Answered}
use Rattle.target_hub.specs.declared.done.Answered.TheVariants as answered
use Rattle.target_hub.specs.declared.done.Done.{Done}
use Rattle.target_hub.specs.declared.input.Input.{Input}
use Rattle.target_hub.specs.declared.input.Input.TheVariants.{Opened, Executed, Ticked, Closed}
use Rattle.run_control.specs.TargetValue.{TargetValue}
use Rattle.target_truth.specs.Taught.{position_of}
use Rattle.target_truth.proofs.Fronts.{inputs_append}
use Rattle.command_tables.specs.declared.reading.Reading.{Reading}
use Rattle.tcf_values.specs.declared.event.EventData.{EventData}

-- ---- the messages of an input

abbrev AreAt : ℕ → List Told → Type 0
AreAt position told = AllByRecursion (λ message. position_of message ≡ position) told

at_append : (position : ℕ) (some more : List Told) → AreAt position some → AreAt position more → AreAt position (some ++ more)
at_append position [] more all also = also
at_append position (told ∷ some) more all also = (all.0, at_append position some more all.1 also)

events_at : (position : ℕ) (events : List EventData) → AreAt position (events_told position events)
events_at position [] = tt
events_at position (event ∷ events) = (refl, events_at position events)

progress_all_at : (position : ℕ) (addresses : List ℕ) → AreAt position (map (λ address. progress_at position (progress_data address)) addresses)
progress_all_at position [] = tt
progress_all_at position (address ∷ addresses) = (refl, progress_all_at position addresses)

answer_at : (position : ℕ) (through : Bool) (answer : Answered) → position_of (answer_told position through answer) ≡ position
answer_at position through answered.Unknown = refl
answer_at position through (answered.Result body) = refl

caller_at : (is_caller : Bool) (position : ℕ) (reading : Reading) (done : Done) → AreAt position (cond is_caller (caller_told position reading done) [])
caller_at true position reading done =
    at_append position _ (answer_told position (is_through reading) done.answer ∷ []) (progress_all_at position done.progress) (answer_at position (is_through reading) done.answer, tt)
caller_at false position reading done = tt

executed_at : (k position channel : ℕ) (reading : Reading) (done : Done) → AreAt position (executed_told k position channel reading done)
executed_at k position channel reading done =
    at_append position (events_told position done.events) _ (events_at position done.events) (caller_at (channel == k) position reading done)

hello_is_at : (is_own : Bool) (position : ℕ) → AreAt position (cond is_own (hello_at position agent_services ∷ []) [])
hello_is_at true position = (refl, tt)
hello_is_at false position = tt

tick_at : (position : ℕ) (found : Option (List EventData)) → AreAt position (tick_events_told position found)
tick_at position None = tt
tick_at position (Some events) = events_at position events

told_at : (k position : ℕ) (target : TargetValue) (input : Input) → AreAt position (told_by k position target input)
told_at k position target (Opened channel) = hello_is_at (channel == k) position
told_at k position target (Executed channel reading service name) = executed_at k position channel reading (executed channel service name reading target)
told_at k position target (Ticked thread) = tick_at position (tick_told thread target)
told_at k position target (Closed channel) = events_at position (closed_told channel target)

one_at : (position : ℕ) (front rest : List Told) (last : Told) → AreAt position (front ++ last ∷ rest) → position_of last ≡ position
one_at position [] rest last all = all.0
one_at position (told ∷ front) rest last all = one_at position front rest last all.1

pub last_at : (k position : ℕ) (target : TargetValue) (input : Input) (front rest : List Told) (last : Told) → told_by k position target input ≡ front ++ last ∷ rest → position_of last ≡ position
last_at k position target input front rest last is = one_at position front rest last (subst (AreAt position) is (told_at k position target input))

-- ---- the target at that position

take_to : (before rest : List Input) (input : Input) → take (length before + 1) (before ++ input ∷ rest) ≡ before ++ input ∷ []
take_to [] rest input = refl
take_to (other ∷ before) rest input =
    let more : length (other ∷ before) + 1 ≡ suc (length before + 1) = omega arith in
    ap (λ n. take n (other ∷ before ++ input ∷ rest)) more ∙ ap (λ (inputs : List Input). other ∷ inputs) (take_to before rest input)

pub target_there : (images : List Image) (before rest : List Input) (input : Input)
    → target_at images (before ++ input ∷ rest) (length before + 1) ≡ input_after input (inputs_after before (new_target images))
target_there images before rest input =
    ap (λ (inputs : List Input). inputs_after inputs (new_target images)) (take_to before rest input) ∙ inputs_append before (input ∷ []) (new_target images)
