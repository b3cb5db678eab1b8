-- What is told is true for one who begins to listen behind any message, also between those of one input.
use Rattle.std.proofs.Common.{◌≡◌, ℕ, ◌+◌, List, [], ◌∷◌, ◌++◌, length, inl, inr, refl, sym, ◌∙◌, ap, subst, subst₂}
use Rattle.std.specs.List.{AllByRecursion}
use Rattle.std.proofs.lemmas.Bool.{cases_Bool}
use Rattle.std.proofs.lemmas.List.{append_assoc}
use Rattle.knowledge.specs.Facts.{Facts}
use Rattle.knowledge.specs.Learning.{Message, learn_all}
use Rattle.list_laws.proofs.Lists.{nothing_there}
use Rattle.target_contexts.specs.declared.process.Image.{Image}
use Rattle.target_hub.specs.Fresh.{target_at}
use Rattle.target_hub.specs.History.{IsAllowed, IsLegal, input_after, opens}
use Rattle.target_hub.specs.Sent.{ReadCommand, Told, agent_services, executed_by, executed_on, hello_at, sent_after, told_by, told_while_live}
use Rattle.target_hub.specs.declared.input.Input.{Input}
use Rattle.run_control.specs.TargetValue.{TargetValue}
use Rattle.target_truth.specs.Holds.{Holds}
use Rattle.target_truth.specs.Listening.{Hears, LaterListenersKnowTruth, left_after, target_after}
use Rattle.target_truth.specs.Taught.{open_after, position_of, taught}
use Rattle.target_truth.specs.Typed.{AreTyped}
use Rattle.target_truth.proofs.Changes.{Moves}
use Rattle.target_truth.proofs.Fronts.{front_legal}
use Rattle.target_truth.proofs.Good.{history_good}
use Rattle.target_truth.proofs.Hearing.{front_so, heard_so, in_parts}
use Rattle.target_truth.proofs.Lives.{in_part, nowhere}
use Rattle.target_truth.proofs.Messages.{Lead, all_kept, input_leads, stays}
use Rattle.target_truth.proofs.Live.{numbered}
use Rattle.target_truth.proofs.Positions.{last_at, target_there}
use Rattle.target_truth.proofs.Truth.{each_true, learn_append, left_by, left_good, live_answers, opening_tells, tells_while}
use Rattle.target_truth.proofs.Whole.{IsGood}

-- ---- one input

-- what is told behind a message of it is so
behind_one : (target : TargetValue) (commands : List ReadCommand) (earlier left : List Told) (begin : Told)
    → AllByRecursion (Moves target target) (taught commands (earlier ++ begin ∷ left)) → AllByRecursion (Moves target target) (taught (left_after (earlier ++ begin ∷ []) commands) left)
behind_one target commands [] left begin so = so.1
behind_one target commands (told ∷ earlier) left begin so = behind_one target (open_after told commands) earlier left begin so.1

behind_lead : (before now : TargetValue) (commands : List ReadCommand) (earlier left : List Told) (begin : Told)
    → Lead before now (taught commands (earlier ++ begin ∷ left)) → AllByRecursion (Moves now now) (taught (left_after (earlier ++ begin ∷ []) commands) left)
behind_lead before now commands [] left begin lead = lead.1
behind_lead before now commands (told ∷ earlier) left begin lead = behind_one now (open_after told commands) earlier left begin lead.1

-- behind the Hello it tells nothing
none_behind : (one : Told) (earlier left : List Told) (begin : Told) → one ∷ [] ≡ earlier ++ begin ∷ left → left ≡ []
none_behind one [] left begin is = cc
none_behind one (told ∷ earlier) left begin is = absurd (nothing_there earlier left begin cc)

behind_so : (k : ℕ) (before : List Input) (target : TargetValue) (input : Input) (commands : List ReadCommand) (earlier left : List Told) (begin : Told) → IsGood target
    → IsAllowed before target input → told_by k (length before + 1) target input ≡ earlier ++ begin ∷ left
    → AllByRecursion (Moves (input_after input target) (input_after input target)) (taught (left_after (earlier ++ begin ∷ []) (executed_by k input ++ commands)) left)
behind_so k before target input commands earlier left begin good allowed told =
    let now = input_after input target in
    let asked = executed_by k input ++ commands in
    elim (cases_Bool (opens k input)) [
      | inl own ↦
          let none = none_behind (hello_at (length before + 1) agent_services) earlier left begin (sym (opening_tells k (length before + 1) target input own) ∙ told) in
          subst (λ (left : List Told). AllByRecursion (Moves now now) (taught (left_after (earlier ++ begin ∷ []) asked) left)) (sym none) tt
      | inr other ↦
          behind_lead target now asked earlier left begin
          (subst (λ (told : List Told). Lead target now (taught asked told)) told (input_leads k before target input commands good allowed other))
    ]

-- whatever is heard of what is so
so_holds : (target : TargetValue) (commands : List ReadCommand) (told : List Told) (messages : List Message) (known : Facts) → IsGood target → Hears commands told messages
    → AllByRecursion (Moves target target) (taught commands told) → Holds known target → Holds (learn_all messages known) target
so_holds target commands told messages known good heard so holds =
    all_kept target target messages known (numbered target good) (numbered target good) (stays target messages (heard_so target commands told messages heard so)) holds

-- ---- all inputs

left_append : (some more : List Told) (commands : List ReadCommand) → left_after (some ++ more) commands ≡ left_after more (left_after some commands)
left_append [] more commands = refl
left_append (told ∷ some) more commands = left_append some more (open_after told commands)

-- the commands that are left behind a message of an input, of those that are left behind all of it
left_later : (k : ℕ) (before : List Input) (target : TargetValue) (input : Input) (commands : List ReadCommand) (some : List Told) → IsAllowed before target input
    → left_after (told_while_live k before target input ++ some) (executed_by k input ++ commands) ≡ left_after some commands
left_later k before target input commands some allowed =
    left_append (told_while_live k before target input) some (executed_by k input ++ commands)
    ∙ ap (λ (left : List ReadCommand). left_after some left) (live_answers k before target input commands allowed)

-- where it is of the first of these inputs
from_here : (images : List Image) (k : ℕ) (before inputs : List Input) (input : Input) → IsLegal images (before ++ input ∷ inputs) → AreTyped images
    → (earlier front rest left : List Told) (begin last : Told) → told_while_live k before (target_after images before) input ≡ earlier ++ begin ∷ left
    → left ++ sent_after k (before ++ input ∷ []) (input_after input (target_after images before)) inputs ≡ front ++ last ∷ rest
    → (known : Facts) → Holds known (target_at images (before ++ input ∷ inputs) (position_of begin))
    → (messages : List Message) → Hears (left_after (earlier ++ begin ∷ []) (executed_by k input ++ executed_on k inputs)) (front ++ last ∷ []) messages
    → Holds (learn_all messages known) (target_at images (before ++ input ∷ inputs) (position_of last))
from_here images k before inputs input legal typed earlier front rest left begin last is behind known holds messages heard =
    let target = target_after images before in
    let now = input_after input target in
    let asked = executed_by k input ++ executed_on k inputs in
    let awaited = left_after (earlier ++ begin ∷ []) asked in
    let allowed : IsAllowed before target input = legal before input inputs refl in
    let good : IsGood target = history_good images before (front_legal images before (input ∷ inputs) legal) typed in
    let left_is_good : IsGood now = left_good images before inputs input legal typed in
    let told : told_by k (length before + 1) target input ≡ earlier ++ begin ∷ left = (tells_while k before target input earlier left begin is).1 in
    let so : AllByRecursion (Moves now now) (taught awaited left) = behind_so k before target input (executed_on k inputs) earlier left begin good allowed told in
    let there : (message : Told) → position_of message ≡ length before + 1 → target_at images (before ++ input ∷ inputs) (position_of message) ≡ now =
    λ message at. ap (target_at images (before ++ input ∷ inputs)) at ∙ target_there images before inputs input in
    let known_now : Holds known now = subst (Holds known) (there begin (last_at k (length before + 1) target input earlier left begin told)) holds in
    let whole : (more : List Told) → earlier ++ begin ∷ more ≡ (earlier ++ begin ∷ []) ++ more = λ more. sym (append_assoc earlier (begin ∷ []) more) in
    elim (in_part left (sent_after k (before ++ input ∷ []) now inputs) front rest last behind) [
      | inl found ↦
          let split : told_by k (length before + 1) target input ≡ (earlier ++ begin ∷ front) ++ last ∷ found.0 =
          told ∙ ap (λ (more : List Told). earlier ++ begin ∷ more) found.1 ∙ sym (append_assoc earlier (begin ∷ front) (last ∷ found.0)) in
          let at = last_at k (length before + 1) target input (earlier ++ begin ∷ front) found.0 last split in
          subst (Holds (learn_all messages known)) (sym (there last at))
          (so_holds now awaited (front ++ last ∷ []) messages known left_is_good heard
          (front_so now awaited front found.0 last (subst (λ (more : List Told). AllByRecursion (Moves now now) (taught awaited more)) found.1 so))
          known_now)
      | inr found ↦
          let more = found.0 in
          let together = append_assoc before (input ∷ []) inputs in
          let split : front ++ last ∷ [] ≡ left ++ (more ++ last ∷ []) = ap (λ (told : List Told). told ++ last ∷ []) found.1 ∙ append_assoc left more (last ∷ []) in
          let parts = in_parts awaited left (more ++ last ∷ []) messages (subst (λ (told : List Told). Hears awaited told messages) split heard) in
          let newly = learn_all parts.first known in
          let none : left_after left awaited ≡ executed_on k inputs =
          sym (left_append (earlier ++ begin ∷ []) left asked) ∙ ap (λ (told : List Told). left_after told asked) (sym (is ∙ whole left))
          ∙ live_answers k before target input (executed_on k inputs) allowed in
          let then : Holds (learn_all parts.second newly) (target_at images ((before ++ input ∷ []) ++ inputs) (position_of last)) =
          each_true images k (before ++ input ∷ []) inputs newly (subst (IsLegal images) (sym together) legal) typed
          (λ live. subst (Holds newly) (left_by images before input) (so_holds now awaited left parts.first known left_is_good parts.of_some so known_now)) more rest last
          (ap (λ (t : TargetValue). sent_after k (before ++ input ∷ []) t inputs) (sym (left_by images before input)) ∙ found.2) parts.second
          (subst (λ (commands : List ReadCommand). Hears commands (more ++ last ∷ []) parts.second) none parts.of_more) in
          let learned : learn_all messages known ≡ learn_all parts.second newly =
          ap (λ (all : List Message). learn_all all known) parts.both ∙ learn_append parts.first parts.second known in
          subst₂ (λ (known : Facts) (history : List Input). Holds known (target_at images history (position_of last))) (sym learned) together then
    ]

from_any : (images : List Image) (k : ℕ) (before inputs : List Input) → IsLegal images (before ++ inputs) → AreTyped images
    → (earlier front rest : List Told) (begin last : Told) → sent_after k before (target_after images before) inputs ≡ earlier ++ begin ∷ (front ++ last ∷ rest)
    → (known : Facts) → Holds known (target_at images (before ++ inputs) (position_of begin))
    → (messages : List Message) → Hears (left_after (earlier ++ begin ∷ []) (executed_on k inputs)) (front ++ last ∷ []) messages
    → Holds (learn_all messages known) (target_at images (before ++ inputs) (position_of last))
from_any images k before [] legal typed earlier front rest begin last told known holds messages heard = absurd (nowhere earlier (front ++ last ∷ rest) begin told)
from_any images k before (input ∷ inputs) legal typed earlier front rest begin last told known holds messages heard =
    let target = target_after images before in
    let first = told_while_live k before target input in
    let asked = executed_by k input ++ executed_on k inputs in
    elim (in_part first (sent_after k (before ++ input ∷ []) (input_after input target) inputs) earlier (front ++ last ∷ rest) begin told) [
      | inl found ↦ from_here images k before inputs input legal typed earlier front rest found.0 begin last found.1 found.2 known holds messages heard
      | inr found ↦
          let later = found.0 in
          let together = append_assoc before (input ∷ []) inputs in
          let awaited : left_after (earlier ++ begin ∷ []) asked ≡ left_after (later ++ begin ∷ []) (executed_on k inputs) =
          ap (λ (told : List Told). left_after told asked) (ap (λ (told : List Told). told ++ begin ∷ []) found.1 ∙ append_assoc first later (begin ∷ []))
          ∙ left_later k before target input (executed_on k inputs) (later ++ begin ∷ []) (legal before input inputs refl) in
          let then : Holds (learn_all messages known) (target_at images ((before ++ input ∷ []) ++ inputs) (position_of last)) =
          from_any images k (before ++ input ∷ []) inputs (subst (IsLegal images) (sym together) legal) typed later front rest begin last
          (ap (λ (t : TargetValue). sent_after k (before ++ input ∷ []) t inputs) (sym (left_by images before input)) ∙ found.2) known
          (subst (λ (history : List Input). Holds known (target_at images history (position_of begin))) (sym together) holds) messages
          (subst (λ (commands : List ReadCommand). Hears commands (front ++ last ∷ []) messages) awaited heard) in
          subst (λ (history : List Input). Holds (learn_all messages known) (target_at images history (position_of last))) together then
    ]

pub later_listeners_true : LaterListenersKnowTruth
later_listeners_true images history legal typed k earlier front rest begin last told known holds messages heard =
    from_any images k [] history legal typed earlier front rest begin last told known holds messages heard
