-- What is told is true for each one who hears all events, over the inputs of a history, one after another.
use Rattle.std.proofs.Common.{◌≡◌, ℕ, ◌+◌, true, false, List, [], ◌∷◌, ◌++◌, length, inl, inr, refl, sym, ◌∙◌, ap, subst, subst₂, append-nil}
use Rattle.std.specs.Prelude.{codes}
use Rattle.std.proofs.lemmas.Bool.{cases_Bool, cond-true, cond-false}
use Rattle.std.proofs.lemmas.List.{append_assoc}
use Rattle.knowledge.specs.Changes.{Change, after_all}
use Rattle.knowledge.specs.Facts.{Fact, Facts, IsGrounded, Knows, context_is, threads_are, state_is, register_is, byte_is, properties_are, status_is, nothing}
use Rattle.knowledge.specs.Learning.{Message, learn_all}
use Rattle.list_laws.proofs.Lists.{nil_cons, nothing_there}
use Rattle.target_contexts.specs.declared.process.Image.{Image}
use Rattle.target_hub.specs.Fresh.{target_at}
use Rattle.target_hub.specs.History.{IsAllowed, IsLegal, input_after, is_live, opens}
use Rattle.target_hub.specs.HubValue.{new_target}
use Rattle.target_hub.specs.Sent.{ReadCommand, Told, agent_services, executed_by, executed_on, hello_at, sent_after, told_by, told_while_live}
use Rattle.target_hub.specs.declared.input.Input.{Input}
use Rattle.target_hub.specs.declared.input.Input.TheVariants.{Opened, Executed, Ticked, Closed}
use Rattle.run_control.specs.TargetValue.{TargetValue}
use Rattle.target_truth.specs.Holds.{Holds, IsStill, IsTrueOf}
use Rattle.target_truth.specs.Laws.{IsTrueAfterEachMessage}
use Rattle.target_truth.specs.Listening.{EachInputKeepsTruth, Hears, ListenersKnowTruth, StaysTrue, hears_nothing, left_after, target_after}
use Rattle.target_truth.specs.Taught.{event_message, position_of, taught}
use Rattle.target_truth.specs.Typed.{AreTyped}
use Rattle.target_truth.proofs.Decoding.{hello_gone}
use Rattle.target_truth.proofs.Fronts.{front_legal, inputs_append}
use Rattle.target_truth.proofs.Good.{history_good}
use Rattle.target_truth.proofs.Hearing.{all_heard, event_heard, front_leads, front_silent, heard_leads, in_parts}
use Rattle.target_truth.proofs.Live.{numbered}
use Rattle.target_truth.proofs.Lives.{executes_none, in_part, nowhere, was_live}
use Rattle.target_truth.proofs.Messages.{IsSilentFirst, Lead, all_kept, input_answers, input_leads, input_silent, lead_kept}
use Rattle.target_truth.proofs.Positions.{last_at, target_there}
use Rattle.target_truth.proofs.Seen.{AreNumbered}
use Rattle.target_truth.proofs.Whole.{IsGood}

-- ---- nothing is known behind the Hello

nothing_true : (target : TargetValue) (fact : Fact) → Knows nothing fact → IsTrueOf target fact
nothing_true target (context_is id context) knows = absurd cc
nothing_true target (threads_are process ids) knows = absurd cc
nothing_true target (state_is process thread state) knows = absurd cc
nothing_true target (register_is process thread index value) knows = absurd cc
nothing_true target (byte_is process addr byte) knows = absurd cc
nothing_true target (properties_are id properties) knows = absurd cc
nothing_true target (status_is id status) knows = absurd cc

nothing_grounded : IsGrounded nothing
nothing_grounded process thread index value knows = absurd cc

nothing_still : IsStill nothing
nothing_still process addr byte knows = absurd cc

nothing_holds : (target : TargetValue) → Holds nothing target
nothing_holds target = record { facts = nothing_true target; grounded = nothing_grounded; still = nothing_still }

abbrev pub hello : Message
hello = event_message (codes "Locator") (codes "Hello") agent_services

hello_holds : (target : TargetValue) (known : Facts) (messages : List Message) → messages ≡ hello ∷ [] → Holds (learn_all messages known) target
hello_holds target known messages is =
    subst (λ (all : List Message). Holds (learn_all all known) target) (sym is)
    (subst (λ (changes : List Change). Holds (after_all changes known) target) (sym (hello_gone agent_services)) (nothing_holds target))

pub opening_tells : (k position : ℕ) (target : TargetValue) (input : Input) → opens k input ≡ true → told_by k position target input ≡ hello_at position agent_services ∷ []
opening_tells k position target (Opened channel) is = cond-true _ _ _ is
opening_tells k position target (Executed channel reading service name) is = absurd cc
opening_tells k position target (Ticked thread) is = absurd cc
opening_tells k position target (Closed channel) is = absurd cc

pub one_of_one : {A : Type 0} → (one : A) (front rest : List A) (last : A) → one ∷ [] ≡ front ++ last ∷ rest → front ++ last ∷ [] ≡ one ∷ []
one_of_one one [] rest last is = cc
one_of_one one (other ∷ front) rest last is = absurd (nothing_there front rest last cc)

-- ---- one input

-- the target that an input leaves
pub left_by : (images : List Image) (before : List Input) (input : Input) → input_after input (target_after images before) ≡ target_after images (before ++ input ∷ [])
left_by images before input = sym (inputs_append before (input ∷ []) (new_target images))

-- what holds before an input to this target, where the channel is live, and behind it
pub record Ready (k : ℕ) (before : List Input) (target : TargetValue) (input : Input) (known : Facts) : Type 0 where
  pub good : IsGood target
  pub left : IsGood (input_after input target)
  pub allowed : IsAllowed before target input
  pub holds : is_live k before ≡ true → Holds known target

-- the target behind it is good too
pub left_good : (images : List Image) (before inputs : List Input) (input : Input) → IsLegal images (before ++ input ∷ inputs) → AreTyped images
    → IsGood (input_after input (target_after images before))
left_good images before inputs input legal typed =
    let some = before ++ input ∷ [] in
    subst IsGood (sym (left_by images before input))
    (history_good images some (front_legal images some inputs (subst (IsLegal images) (sym (append_assoc before (input ∷ []) inputs)) legal)) typed)

ready_for : (images : List Image) (k : ℕ) (before inputs : List Input) (input : Input) (known : Facts) → IsLegal images (before ++ input ∷ inputs) → AreTyped images
    → (is_live k before ≡ true → Holds known (target_after images before)) → Ready k before (target_after images before) input known
ready_for images k before inputs input known legal typed holds = record {
  good = history_good images before (front_legal images before (input ∷ inputs) legal) typed;
  left = left_good images before inputs input legal typed;
  allowed = legal before input inputs refl;
  holds = holds;
}

-- whatever is heard of all of it leads on, where it doesn't open the channel
leads : (k : ℕ) (before : List Input) (target : TargetValue) (input : Input) (known : Facts) (commands : List ReadCommand) (messages : List Message) → Ready k before target input known
    → opens k input ≡ false → Hears (executed_by k input ++ commands) (told_by k (length before + 1) target input) messages → Lead target (input_after input target) messages
leads k before target input known commands messages ready other heard =
    heard_leads target (input_after input target) (executed_by k input ++ commands) (told_by k (length before + 1) target input) messages heard
    (input_leads k before target input commands ready.good ready.allowed other)
    (input_silent k before target input ready.good ready.allowed)

-- and whatever is heard of a front
front_heard : (k : ℕ) (before : List Input) (target : TargetValue) (input : Input) (known : Facts) (commands : List ReadCommand) (front rest : List Told) (last : Told) (messages : List Message)
    → Ready k before target input known → opens k input ≡ false → told_by k (length before + 1) target input ≡ front ++ last ∷ rest
    → Hears (executed_by k input ++ commands) (front ++ last ∷ []) messages → Lead target (input_after input target) messages
front_heard k before target input known commands front rest last messages ready other told heard =
    let asked = executed_by k input ++ commands in
    let now = input_after input target in
    heard_leads target now asked (front ++ last ∷ []) messages heard
    (front_leads target now asked front rest last
    (subst (λ (told : List Told). Lead target now (taught asked told)) told (input_leads k before target input commands ready.good ready.allowed other)))
    (front_silent target now front rest last (subst (IsSilentFirst target now) told (input_silent k before target input ready.good ready.allowed)))

-- the Hello alone is told where it does
hello_heard : (k position : ℕ) (target : TargetValue) (input : Input) (commands : List ReadCommand) (messages : List Message) → opens k input ≡ true
    → Hears commands (told_by k position target input) messages → messages ≡ hello ∷ []
hello_heard k position target input commands messages own heard =
    event_heard commands (hello_at position agent_services) messages refl
    (subst (λ (told : List Told). Hears commands told messages) (opening_tells k position target input own) heard)

-- after each message that is heard of it
each_holds : (k : ℕ) (before : List Input) (target : TargetValue) (input : Input) (known : Facts) (commands : List ReadCommand) (front rest : List Told) (last : Told) (messages : List Message)
    → Ready k before target input known → is_live k (before ++ input ∷ []) ≡ true → told_by k (length before + 1) target input ≡ front ++ last ∷ rest
    → Hears (executed_by k input ++ commands) (front ++ last ∷ []) messages → Holds (learn_all messages known) (input_after input target)
each_holds k before target input known commands front rest last messages ready live told heard =
    elim (cases_Bool (opens k input)) [
      | inl own ↦
          let only = one_of_one (hello_at (length before + 1) agent_services) front rest last (sym (opening_tells k (length before + 1) target input own) ∙ told) in
          hello_holds (input_after input target) known messages
          (event_heard _ (hello_at (length before + 1) agent_services) messages refl
          (subst (λ (told : List Told). Hears (executed_by k input ++ commands) told messages) only heard))
      | inr other ↦
          all_kept target (input_after input target) messages known (numbered target ready.good) (numbered (input_after input target) ready.left) (front_heard k before target input known commands front rest last messages ready other told heard)
          (ready.holds (was_live k before input other live))
    ]

-- and after all of them
all_hold : (k : ℕ) (before : List Input) (target : TargetValue) (input : Input) (known : Facts) (commands : List ReadCommand) (messages : List Message) → Ready k before target input known
    → is_live k (before ++ input ∷ []) ≡ true → Hears (executed_by k input ++ commands) (told_while_live k before target input) messages
    → Holds (learn_all messages known) (input_after input target)
all_hold k before target input known commands messages ready live told =
    let heard : Hears (executed_by k input ++ commands) (told_by k (length before + 1) target input) messages =
    subst (λ (told : List Told). Hears (executed_by k input ++ commands) told messages) (cond-true _ _ _ live) told in
    elim (cases_Bool (opens k input)) [
      | inl own ↦ hello_holds (input_after input target) known messages (hello_heard k (length before + 1) target input _ messages own heard)
      | inr other ↦
          all_kept target (input_after input target) messages known (numbered target ready.good) (numbered (input_after input target) ready.left) (leads k before target input known commands messages ready other heard)
          (ready.holds (was_live k before input other live))
    ]

-- ---- the law of one input

hello_stays : (known : Facts) (messages : List Message) (target : TargetValue) → messages ≡ hello ∷ [] → StaysTrue known messages target
hello_stays known messages target is = record {
  each = λ front rest last split. hello_holds target known (front ++ last ∷ []) (one_of_one hello front rest last (sym is ∙ split));
  unheard = λ none. absurd (nil_cons hello [] (sym none ∙ is));
}

lead_stays : (before now : TargetValue) (known : Facts) (messages : List Message) → AreNumbered before → AreNumbered now → Lead before now messages → Holds known before → StaysTrue known messages now
lead_stays before now known messages was is lead holds = record {
  each = λ front rest last split. lead_kept before now front rest last known was is (subst (Lead before now) split lead) holds;
  unheard = λ none. all_kept before now [] known was is (subst (Lead before now) none lead) holds;
}

input_true : (k : ℕ) (before : List Input) (target : TargetValue) (input : Input) (known : Facts) (messages : List Message) → Ready k before target input known
    → is_live k (before ++ input ∷ []) ≡ true → Hears (executed_by k input) (told_by k (length before + 1) target input) messages → StaysTrue known messages (input_after input target)
input_true k before target input known messages ready live heard =
    elim (cases_Bool (opens k input)) [
      | inl own ↦ hello_stays known messages (input_after input target) (hello_heard k (length before + 1) target input (executed_by k input) messages own heard)
      | inr other ↦
          lead_stays target (input_after input target) known messages (numbered target ready.good) (numbered (input_after input target) ready.left)
          (leads k before target input known [] messages ready other
          (subst (λ (commands : List ReadCommand). Hears commands (told_by k (length before + 1) target input) messages) (sym (append-nil (executed_by k input))) heard))
          (ready.holds (was_live k before input other live))
    ]

pub each_input : EachInputKeepsTruth
each_input images before input legal typed k live known holds messages heard =
    subst (StaysTrue known messages) (left_by images before input)
    (input_true k before (target_after images before) input known messages (ready_for images k before [] input known legal typed holds) live heard)

-- ---- all inputs

-- the commands that are left are those of the inputs behind it
pub live_answers : (k : ℕ) (before : List Input) (target : TargetValue) (input : Input) (commands : List ReadCommand) → IsAllowed before target input
    → left_after (told_while_live k before target input) (executed_by k input ++ commands) ≡ commands
live_answers k before target input commands allowed =
    elim (cases_Bool (is_live k (before ++ input ∷ []))) [
      | inl live ↦
          ap (λ (told : List Told). left_after told (executed_by k input ++ commands)) (cond-true _ _ _ live) ∙ input_answers k (length before + 1) target input commands
      | inr gone ↦
          ap (λ (told : List Told). left_after told (executed_by k input ++ commands)) (cond-false _ _ _ gone)
          ∙ ap (λ (asked : List ReadCommand). asked ++ commands) (executes_none k before target input allowed gone)
    ]

pub tells_while : (k : ℕ) (before : List Input) (target : TargetValue) (input : Input) (front rest : List Told) (last : Told) → told_while_live k before target input ≡ front ++ last ∷ rest
    → (is_live k (before ++ input ∷ []) ≡ true) × (told_by k (length before + 1) target input ≡ front ++ last ∷ rest)
tells_while k before target input front rest last told =
    elim (cases_Bool (is_live k (before ++ input ∷ []))) [
      | inl live ↦ (live, sym (cond-true _ _ _ live) ∙ told)
      | inr gone ↦ absurd (nowhere front rest last (sym (cond-false _ _ _ gone) ∙ told))
    ]

pub learn_append : (some more : List Message) (known : Facts) → learn_all (some ++ more) known ≡ learn_all more (learn_all some known)
learn_append [] more known = refl
learn_append (message ∷ some) more known = learn_append some more _

-- what is heard of an input and of those behind it
pub record Onward (images : List Image) (k : ℕ) (before inputs : List Input) (input : Input) (known : Facts) (more : List Told) (messages : List Message) : Type 0 where
  pub newly : Facts
  pub holds : is_live k (before ++ input ∷ []) ≡ true → Holds newly (target_after images (before ++ input ∷ []))
  pub later : List Message
  pub heard : Hears (executed_on k inputs) more later
  pub learned : learn_all messages known ≡ learn_all later newly

onward : (images : List Image) (k : ℕ) (before inputs : List Input) (input : Input) (known : Facts) (more : List Told) (messages : List Message) → Ready k before (target_after images before) input known
    → Hears (executed_by k input ++ executed_on k inputs) (told_while_live k before (target_after images before) input ++ more) messages
    → Onward images k before inputs input known more messages
onward images k before inputs input known more messages ready heard =
    let target = target_after images before in
    let told = told_while_live k before target input in
    let parts = in_parts (executed_by k input ++ executed_on k inputs) told more messages heard in
    record {
      newly = learn_all parts.first known;
      holds = λ live. subst (Holds (learn_all parts.first known)) (left_by images before input) (all_hold k before target input known (executed_on k inputs) parts.first ready live parts.of_some);
      later = parts.second;
      heard = subst (λ (commands : List ReadCommand). Hears commands more parts.second) (live_answers k before target input (executed_on k inputs) ready.allowed) parts.of_more;
      learned = ap (λ (all : List Message). learn_all all known) parts.both ∙ learn_append parts.first parts.second known;
    }

-- after each message
pub each_true : (images : List Image) (k : ℕ) (before inputs : List Input) (known : Facts) → IsLegal images (before ++ inputs) → AreTyped images
    → (is_live k before ≡ true → Holds known (target_after images before))
    → (front rest : List Told) (last : Told) → sent_after k before (target_after images before) inputs ≡ front ++ last ∷ rest
    → (messages : List Message) → Hears (executed_on k inputs) (front ++ last ∷ []) messages
    → Holds (learn_all messages known) (target_at images (before ++ inputs) (position_of last))
each_true images k before [] known legal typed holds front rest last told messages heard = absurd (nowhere front rest last told)
each_true images k before (input ∷ inputs) known legal typed holds front rest last told messages heard =
    let target = target_after images before in
    let asked = executed_by k input ++ executed_on k inputs in
    let ready : Ready k before target input known = ready_for images k before inputs input known legal typed holds in
    let first = told_while_live k before target input in
    elim (in_part first (sent_after k (before ++ input ∷ []) (input_after input target) inputs) front rest last told) [
      | inl found ↦
          let tells = tells_while k before target input front found.0 last found.1 in
          let there = last_at k (length before + 1) target input front found.0 last tells.1 in
          subst (λ (now : TargetValue). Holds (learn_all messages known) now)
          (sym (ap (target_at images (before ++ input ∷ inputs)) there ∙ target_there images before inputs input))
          (each_holds k before target input known (executed_on k inputs) front found.0 last messages ready tells.0 tells.1 heard)
      | inr found ↦
          let more = found.0 in
          let together = append_assoc before (input ∷ []) inputs in
          let split : front ++ last ∷ [] ≡ first ++ (more ++ last ∷ []) = ap (λ (told : List Told). told ++ last ∷ []) found.1 ∙ append_assoc first more (last ∷ []) in
          let on : Onward images k before inputs input known (more ++ last ∷ []) messages =
          onward images k before inputs input known (more ++ last ∷ []) messages ready (subst (λ (told : List Told). Hears asked told messages) split heard) in
          let then : Holds (learn_all on.later on.newly) (target_at images ((before ++ input ∷ []) ++ inputs) (position_of last)) =
          each_true images k (before ++ input ∷ []) inputs on.newly (subst (IsLegal images) (sym together) legal) typed on.holds more rest last
          (ap (λ (t : TargetValue). sent_after k (before ++ input ∷ []) t inputs) (sym (left_by images before input)) ∙ found.2) on.later on.heard in
          subst₂ (λ (known : Facts) (history : List Input). Holds known (target_at images history (position_of last))) (sym on.learned) together then
    ]

-- and after all of them
none_heard : (commands : List ReadCommand) (messages : List Message) → Hears commands [] messages → messages ≡ []
none_heard commands messages hears_nothing = refl

now_true : (images : List Image) (k : ℕ) (before inputs : List Input) (known : Facts) → IsLegal images (before ++ inputs) → AreTyped images
    → (is_live k before ≡ true → Holds known (target_after images before)) → is_live k (before ++ inputs) ≡ true
    → (messages : List Message) → Hears (executed_on k inputs) (sent_after k before (target_after images before) inputs) messages
    → Holds (learn_all messages known) (target_after images (before ++ inputs))
now_true images k before [] known legal typed holds live messages heard =
    let same : before ≡ before ++ [] = sym (append-nil before) in
    subst₂ (λ (all : List Message) (inputs : List Input). Holds (learn_all all known) (target_after images inputs)) (sym (none_heard [] messages heard)) same
    (holds (subst (λ (inputs : List Input). is_live k inputs ≡ true) (sym same) live))
now_true images k before (input ∷ inputs) known legal typed holds live messages heard =
    let target = target_after images before in
    let ready : Ready k before target input known = ready_for images k before inputs input known legal typed holds in
    let together = append_assoc before (input ∷ []) inputs in
    let more = sent_after k (before ++ input ∷ []) (input_after input target) inputs in
    let on : Onward images k before inputs input known more messages = onward images k before inputs input known more messages ready heard in
    let then : Holds (learn_all on.later on.newly) (target_after images ((before ++ input ∷ []) ++ inputs)) =
    now_true images k (before ++ input ∷ []) inputs on.newly (subst (IsLegal images) (sym together) legal) typed on.holds
    (subst (λ (history : List Input). is_live k history ≡ true) (sym together) live) on.later
    (subst (λ (t : TargetValue). Hears (executed_on k inputs) (sent_after k (before ++ input ∷ []) t inputs) on.later) (left_by images before input) on.heard) in
    subst₂ (λ (known : Facts) (history : List Input). Holds known (target_after images history)) (sym on.learned) together then

pub listeners_true : ListenersKnowTruth
listeners_true images before inputs legal typed k known holds = record {
  each = each_true images k before inputs known legal typed holds;
  now = now_true images k before inputs known legal typed holds;
}

-- ---- who hears all, from the beginning

none_live : (k : ℕ) → is_live k [] ≡ true → ⊥
none_live k live = cc

pub told_true : IsTrueAfterEachMessage
told_true images history legal typed k front rest last told =
    (listeners_true images [] history legal typed k nothing (λ live. absurd (none_live k live))).each front rest last told
    (taught (executed_on k history) (front ++ last ∷ [])) (all_heard (executed_on k history) (front ++ last ∷ []))
