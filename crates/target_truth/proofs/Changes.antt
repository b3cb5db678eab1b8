-- What each kind of change makes of what is known, where what it tells is so.
use Rattle.std.proofs.Common.{◌≡◌, ◌⊎◌, ℕ, true, false, List, [], ◌∷◌, Option, Some, None, refl, true≢false, sym, ap, ◌∙◌, subst}
use Rattle.std.specs.List.{AllByRecursion, list_any}
use Rattle.std.proofs.lemmas.Option.{none-some}
use Rattle.knowledge.specs.Changes.{Change, after, after_all, all_gone, are_still, state_told, state_gone, thread_joined, threads_gone, threads_stale, threads_told}
use Rattle.knowledge.specs.Facts.{Fact, Facts, IsPart, Knows, context_is, threads_are, state_is, register_is, byte_is, properties_are, status_is, is_suspended}
use Rattle.knowledge.specs.Learning.{Message, bad_event_taken, event_taken, answer_taken, other_taken, changes_of, learn}
use Rattle.knowledge.specs.Rows.{answer_changes}
use Rattle.run_control.specs.TargetValue.{TargetValue}
use Rattle.target_truth.specs.Holds.{Holds}
use Rattle.knowledge.proofs.TheLaws.{learning_is_monotone}
use Rattle.target_truth.proofs.Based.{IsCalm, change_based, event_keeps, still_in}
use Rattle.target_truth.proofs.Origins.{IsAmong, IsListed, IsPlain, after_part, all_part, list_after}
use Rattle.target_truth.proofs.Seen.{AreNumbered, IsBased, are_own, holds_based, holds_seen, seen, seen_grounded, seen_holds}
use Rattle.target_truth.proofs.Steady.{IsSteady, answer_steady}
use Rattle.tcf_values.specs.declared.answer.Answer.{Answer}
use Rattle.tcf_values.specs.declared.command.Command.{Command}
use Rattle.tcf_values.specs.declared.event.EventData.{EventData}
pub use Rattle.target_truth.proofs.Origins.{is_bytes, touches}

-- ---- what a change tells is so of the target

abbrev pub IsSo : TargetValue → Change → Type 0
IsSo target (threads_told process ids) = ((seen target).threads process ≡ Some ids) × (are_own process ids ≡ true)
IsSo target (thread_joined process id) = ⊥
IsSo target change = IsAmong (seen target) change

so_among : (target : TargetValue) (change : Change) → IsSo target change → IsAmong (seen target) change
so_among target (threads_told process ids) so = tt
so_among target (thread_joined process id) so = tt
so_among target change so = so

so_listed : (target : TargetValue) (change : Change) → IsSo target change → IsListed (seen target) change
so_listed target (threads_told process ids) so = so.0
so_listed target (thread_joined process id) so = so
so_listed target change so = tt

-- then it keeps what is known a part of what is true
pub part_kept : (target : TargetValue) (change : Change) (known : Facts) → IsSo target change → IsPart known (seen target) → IsPart (after change known) (seen target)
part_kept target change known so part = after_part (seen target) known change (so_among target change so) (so_listed target change so) part

pub parts_kept : (target : TargetValue) (changes : List Change) (known : Facts) → AllByRecursion (IsSo target) changes → IsPart known (seen target) → IsPart (after_all changes known) (seen target)
parts_kept target [] known so part = part
parts_kept target (change ∷ changes) known so part = parts_kept target changes (after change known) so.1 (part_kept target change known so.0 part)

-- ---- two targets

-- what a change tells is so, but for a list of threads
abbrev pub IsSaid : TargetValue → Change → Type 0
IsSaid target change = IsAmong (seen target) change

-- changes that touch each fact that isn't so any more, and tell what is so now, and make of each list what it is now, lead
-- from the one target to the other
pub covered : (before now : TargetValue) (changes : List Change) → AllByRecursion (IsSaid now) changes → list_any is_bytes changes ≡ false
    → ((fact : Fact) → IsPlain fact → Knows (seen before) fact → Knows (seen now) fact ⊎ (list_any (touches fact) changes ≡ true))
    → ((process : ℕ) (ids : List (List ℕ)) → list_after process changes ((seen before).threads process) ≡ Some ids → (seen now).threads process ≡ Some ids)
    → IsPart (after_all changes (seen before)) (seen now)
covered before now changes so none touched lists = all_part (seen now) (seen before) changes so none touched lists

-- ---- one message, by which the target becomes another

pub record Moves (before now : TargetValue) (message : Message) : Type 0 where
  pub part : IsPart (learn message (seen before)) (seen now)
  pub based : (known : Facts) → IsPart known (seen before) → IsBased known → IsBased (learn message known)

pub moved : (before now : TargetValue) (message : Message) (known : Facts) → AreNumbered before → Moves before now message → Holds known before → Holds (learn message known) now
moved before now message known numbered moves holds =
    let part : IsPart known (seen before) = holds_seen known before numbered holds in
    let learned : IsPart (learn message known) (learn message (seen before)) = learning_is_monotone message known (seen before) holds.grounded part in
    seen_holds (learn message known) now (λ fact knows. moves.part fact (learned fact knows))
    (moves.based known part (holds_based known before numbered holds))

-- without a message
pub rested : (before now : TargetValue) (known : Facts) → AreNumbered before → IsPart (seen before) (seen now) → Holds known before → Holds known now
rested before now known numbered part holds =
    seen_holds known now (λ fact knows. part fact (holds_seen known before numbered holds fact knows)) (holds_based known before numbered holds)

-- a message that is so of the target as it is now, where what could be known of it before is still so
pub moves_after : (before now : TargetValue) (message : Message) → IsPart (seen before) (seen now) → Moves now now message → Moves before now message
moves_after before now message part moves = record {
  part = λ fact knows. moves.part fact (learning_is_monotone message (seen before) (seen now) (seen_grounded before) part fact knows);
  based = λ known some based. moves.based known (λ fact knows. part fact (some fact knows)) based;
}

-- whatever an event tells, registers and bytes are known only of threads that are known as suspended
pub event_based : (event : EventData) (known : Facts) → IsBased known → IsBased (learn (event_taken event) known)
event_based event known based = event_keeps event known based

pub event_moves : (before now : TargetValue) (event : EventData) → IsPart (learn (event_taken event) (seen before)) (seen now) → Moves before now (event_taken event)
event_moves before now event part = record {
  part = part;
  based = λ known some based. event_based event known based;
}

-- nothing is known any more
none_part : (more known : Facts) → IsPart (after all_gone known) more
none_part more known (context_is id x) knows = absurd (none-some x knows)
none_part more known (threads_are p x) knows = absurd (none-some x knows)
none_part more known (state_is p t x) knows = absurd (none-some x knows)
none_part more known (register_is p t i x) knows = absurd (none-some x knows)
none_part more known (byte_is p place x) knows = absurd (true≢false (sym knows))
none_part more known (properties_are id x) knows = absurd (none-some x knows)
none_part more known (status_is id x) knows = absurd (none-some x knows)

pub hello_moves : (before now : TargetValue) (message : Message) → changes_of message ≡ all_gone ∷ [] → Moves before now message
hello_moves before now message gone = record {
  part = subst (λ changes. IsPart (after_all changes (seen before)) (seen now)) (sym gone) (none_part (seen now) (seen before));
  based = λ known some based. subst (λ changes. IsBased (after_all changes known)) (sym gone) (change_based all_gone known tt based);
}

pub bad_moves : (before now : TargetValue) → Moves before now bad_event_taken
bad_moves before now = record {
  part = none_part (seen now) (seen before);
  based = λ known some based. change_based all_gone known tt based;
}

pub other_moves : (target : TargetValue) → Moves target target other_taken
other_moves target = record {
  part = λ fact knows. knows;
  based = λ known some based. based;
}

-- ---- an answer that tells what is so. That a thread runs is told only of one that isn't known as suspended

-- the list that is known is the one that is told
same_list : (known : Facts) (list : Option (List (List ℕ))) (ids : List (List ℕ)) → ((x : List (List ℕ)) → list ≡ Some x → Some x ≡ Some ids) → are_still known list ≡ true
    → are_still known (Some ids) ≡ true
same_list known None ids same still = absurd (true≢false (sym still))
same_list known (Some x) ids same still = sym (ap (are_still known) (same x refl)) ∙ still

so_calm : (target : TargetValue) (change : Change) (known : Facts) → IsSo target change → IsSteady change → IsPart known (seen target) → IsBased known → IsCalm change known
so_calm target (state_told process thread state) known so steady part based = λ is.
    sym (ap is_suspended so) ∙ still_in (known.states process thread) ((seen target).states process thread) (λ x. part (state_is process thread x)) is
so_calm target (state_gone process thread) known so steady part based = steady
so_calm target (threads_told process ids) known so steady part based = (
  λ place byte is. same_list known (known.threads process) ids (λ x knows. sym (part (threads_are process x) knows) ∙ so.0) (based.still process place byte is),
  so.1,
)
so_calm target (thread_joined process id) known so steady part based = absurd steady
so_calm target (threads_gone process) known so steady part based = absurd steady
so_calm target (threads_stale process) known so steady part based = absurd steady
so_calm target _ known so steady part based = tt

steady_based : (target : TargetValue) (changes : List Change) (known : Facts) → AllByRecursion (IsSo target) changes → AllByRecursion IsSteady changes
    → IsPart known (seen target) → IsBased known → IsBased (after_all changes known)
steady_based target [] known so steady part based = based
steady_based target (change ∷ changes) known so steady part based =
    steady_based target changes (after change known) so.1 steady.1 (part_kept target change known so.0 part)
    (change_based change known (so_calm target change known so.0 steady.0 part based) based)

pub answer_moves : (target : TargetValue) (command : Command) (answer : Answer) → AllByRecursion (IsSo target) (answer_changes command answer)
    → Moves target target (answer_taken command answer)
answer_moves target command answer so = record {
  part = parts_kept target (answer_changes command answer) (seen target) so (λ fact knows. knows);
  based = λ known some based. steady_based target (answer_changes command answer) known so (answer_steady command answer) some based;
}
