-- One who hears all events and any of the answers of an input is led on as one who hears all of it.
use Rattle.std.proofs.Common.{◌≡◌, true, List, [], ◌∷◌, ◌++◌, refl, ap}
use Rattle.std.specs.List.{AllByRecursion}
use Rattle.knowledge.specs.Learning.{Message}
use Rattle.target_hub.specs.Sent.{ReadCommand, Told}
use Rattle.run_control.specs.TargetValue.{TargetValue}
use Rattle.target_truth.specs.Listening.{Hears, hears, hears_nothing, is_event, left_after, misses}
use Rattle.target_truth.specs.Taught.{message_of, open_after, taught}
use Rattle.target_truth.proofs.Changes.{Moves}
use Rattle.target_truth.proofs.Messages.{IsSilentFirst, Lead, lead_append}

-- ---- who hears all, hears

pub all_heard : (commands : List ReadCommand) (told : List Told) → Hears commands told (taught commands told)
all_heard commands [] = hears_nothing
all_heard commands (now ∷ rest) = hears now (all_heard (open_after now commands) rest)

-- ---- what is heard of two parts

pub record InParts (commands : List ReadCommand) (some more : List Told) (messages : List Message) : Type 0 where
  pub first : List Message
  pub second : List Message
  pub both : messages ≡ first ++ second
  pub of_some : Hears commands some first
  pub of_more : Hears (left_after some commands) more second

pub in_parts : (commands : List ReadCommand) (some more : List Told) (messages : List Message) → Hears commands (some ++ more) messages
    → InParts commands some more messages
in_parts commands [] more messages heard = record { first = []; second = messages; both = refl; of_some = hears_nothing; of_more = heard }
in_parts commands (told ∷ some) more messages (hears {messages = later} now heard) =
    let parts = in_parts (open_after told commands) some more later heard in
    record {
      first = message_of commands told ∷ parts.first;
      second = parts.second;
      both = ap (λ (all : List Message). message_of commands told ∷ all) parts.both;
      of_some = hears told parts.of_some;
      of_more = parts.of_more;
    }
in_parts commands (told ∷ some) more messages (misses now other heard) =
    let parts = in_parts (open_after told commands) some more messages heard in
    record { first = parts.first; second = parts.second; both = parts.both; of_some = misses told other parts.of_some; of_more = parts.of_more }

-- ---- the one message of an event

pub event_heard : (commands : List ReadCommand) (event : Told) (messages : List Message) → is_event event ≡ true → Hears commands (event ∷ []) messages
    → messages ≡ message_of commands event ∷ []
event_heard commands event messages is (hears now hears_nothing) = refl
event_heard commands event messages is (misses now other heard) = absurd cc

-- ---- what is heard leads on

pub heard_so : (target : TargetValue) (commands : List ReadCommand) (told : List Told) (messages : List Message) → Hears commands told messages
    → AllByRecursion (Moves target target) (taught commands told) → AllByRecursion (Moves target target) messages
heard_so target commands told messages hears_nothing so = tt
heard_so target commands told messages (hears {rest = rest} {messages = later} now heard) so =
    (so.0, heard_so target (open_after now commands) rest later heard so.1)
heard_so target commands told messages (misses {rest = rest} now other heard) so = heard_so target (open_after now commands) rest messages heard so.1

pub heard_leads : (before now : TargetValue) (commands : List ReadCommand) (told : List Told) (messages : List Message) → Hears commands told messages
    → Lead before now (taught commands told) → IsSilentFirst before now told → Lead before now messages
heard_leads before now commands told messages hears_nothing lead silent = lead
heard_leads before now commands told messages (hears {rest = rest} {messages = later} first heard) lead silent =
    (lead.0, heard_so now (open_after first commands) rest later heard lead.1)
heard_leads before now commands told messages (misses {rest = rest} first other heard) lead silent =
    lead_append before now [] messages (silent other) (heard_so now (open_after first commands) rest messages heard lead.1)

-- ---- and so does what is heard of a front

pub front_so : (target : TargetValue) (commands : List ReadCommand) (front rest : List Told) (last : Told)
    → AllByRecursion (Moves target target) (taught commands (front ++ last ∷ rest)) → AllByRecursion (Moves target target) (taught commands (front ++ last ∷ []))
front_so target commands [] rest last so = (so.0, tt)
front_so target commands (told ∷ front) rest last so = (so.0, front_so target (open_after told commands) front rest last so.1)

pub front_leads : (before now : TargetValue) (commands : List ReadCommand) (front rest : List Told) (last : Told) → Lead before now (taught commands (front ++ last ∷ rest))
    → Lead before now (taught commands (front ++ last ∷ []))
front_leads before now commands [] rest last lead = (lead.0, tt)
front_leads before now commands (told ∷ front) rest last lead = (lead.0, front_so now (open_after told commands) front rest last lead.1)

pub front_silent : (before now : TargetValue) (front rest : List Told) (last : Told) → IsSilentFirst before now (front ++ last ∷ rest) → IsSilentFirst before now (front ++ last ∷ [])
front_silent before now [] rest last silent = silent
front_silent before now (told ∷ front) rest last silent = silent
