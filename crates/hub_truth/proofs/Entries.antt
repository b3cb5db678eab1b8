-- What was taken above, where it is what a target told: the first Hello, and then what the hub heard.
use Rattle.std.proofs.Common.{◌≡◌, ℕ, Bool, true, false, cond, List, [], ◌∷◌, map, Option, Some, None, refl, sym, ap, ap₂, subst, ◌∙◌}
use Rattle.std.specs.Prelude.{Ok, slice_get}
use Rattle.std.specs.List.{AllByRecursion, flat_map}
use Rattle.agent_node.specs.AgentLaws.{later_tokens, messages_told}
use Rattle.channel_core.specs.Beginning.{new_end}
use Rattle.channel_core.specs.EndValue.{EndValue}
use Rattle.channel_core.specs.Judged.{Judged}
use Rattle.channel_core.specs.Judged as judges
use Rattle.channel_core.specs.Laws.{listed}
use Rattle.channel_core.specs.ReceivingLaws.{incoming_of}
use Rattle.channel_core.specs.Runs.{Call as EndCall, begun, called, closing, commanding, delivering, draining, ending, putting_out, sending, taking}
use Rattle.channel_core.specs.Taking.{answer_judged, finished, is_early, judged, judged_by, next_taken, number_at, progress_judged, progressed, sent_place, stop_taken, taken_as, taken_from}
use Rattle.channel_core.specs.Wire.{Said, answers, asks, event_said, goes_on, greets, said_by, said_in, said_of, tells}
use Rattle.channel_core.specs.declared.held.Arrived.{Arrived}
use Rattle.channel_core.specs.declared.held.Incoming.{Incoming}
use Rattle.channel_core.specs.declared.states.Cause.{Cause}
use Rattle.channel_core.specs.declared.taking.Taken.{Taken}
use Rattle.channel_core.specs.declared.taking.Taken.TheVariants as taken
use Rattle.list_laws.proofs.AllLists.{all_append}
use Rattle.target_hub.specs.Sent.{Told, event_at, final_at, hello_at, progress_at, unknown_at}
use Rattle.tcf_message.specs.Message.{MessageValue, reading}
use Rattle.hub_node.specs.HubLaws.{heard_from}
use Rattle.hub_node.specs.Relay.{upper_services}
use Rattle.hub_node.specs.Runs.{HubRun, above_run}
use Rattle.hub_node.specs.declared.waiting.Tag.{Tag}
use Rattle.hub_node.proofs.Untaken.{taken_by, taken_in, taken_more}
use Rattle.hub_truth.specs.HubTruth.{ReadMessage, as_read, as_told}

-- ---- an entry is what its message says

abbrev Says : Taken Tag → Type 0
Says (taken.Hello incoming) = said_in incoming.raw ≡ greets
Says (taken.Command incoming) = said_in incoming.raw ≡ asks
Says (taken.Event incoming) = said_in incoming.raw ≡ tells
Says (taken.Progress number incoming) = (token : List ℕ) × (said_in incoming.raw ≡ goes_on token)
Says (taken.Final tag incoming) = (token : List ℕ) × (done : Bool) × (said_in incoming.raw ≡ answers token done)
Says (taken.Closed cause) = Unit {0}

abbrev SaysAny : Option (Taken Tag) → Type 0
SaysAny None = Unit {0}
SaysAny (Some what) = Says what

progress_says : (number : ℕ) (incoming : Incoming) (text : List ℕ) (token : Option ℕ) (e : EndValue Tag) → said_in incoming.raw ≡ goes_on text → SaysAny (progressed number incoming token e).0
progress_says number incoming text None e is = tt
progress_says number incoming text (Some token) e is = (text, is)

final_says : (number : ℕ) (incoming : Incoming) (text : List ℕ) (place : ℕ) (done : Bool) (row : Option (ℕ × Tag)) (e : EndValue Tag) → said_in incoming.raw ≡ answers text done
    → SaysAny (finished number incoming place done row e).0
final_says number incoming text place done None e is = tt
final_says number incoming text place done (Some row) e is = (text, done, is)

goes_says : (number : ℕ) (incoming : Incoming) (text : List ℕ) (place : Option ℕ) (e : EndValue Tag) → said_in incoming.raw ≡ goes_on text → SaysAny (taken_as number incoming (progress_judged place) e).0
goes_says number incoming text None e is = tt
goes_says number incoming text (Some place) e is = progress_says number incoming text (number_at place e.pending) e is

ends_says : (number : ℕ) (incoming : Incoming) (text : List ℕ) (done : Bool) (place : Option ℕ) (e : EndValue Tag) → said_in incoming.raw ≡ answers text done
    → SaysAny (taken_as number incoming (answer_judged done place) e).0
ends_says number incoming text done None e is = tt
ends_says number incoming text done (Some place) e is = final_says number incoming text place done (slice_get e.pending place) e is

by_said : (number : ℕ) (incoming : Incoming) (said : Said) (e : EndValue Tag) → said_in incoming.raw ≡ said → SaysAny (taken_as number incoming (judged_by said e) e).0
by_said number incoming greets e is = is
by_said number incoming tells e is = is
by_said number incoming asks e is = is
by_said number incoming (goes_on token) e is = goes_says number incoming token (sent_place token e) e is
by_said number incoming (answers token done) e is = ends_says number incoming token done (sent_place token e) e is

message_says : (number : ℕ) (incoming : Incoming) (said : Said) (e : EndValue Tag) → said_in incoming.raw ≡ said → SaysAny (taken_as number incoming (judged said e) e).0
message_says number incoming said e is = by_early (is_early e.state said)
  where
    by_early : (early : Bool) → SaysAny (taken_as number incoming (cond early judges.TooEarly (judged_by said e)) e).0
    by_early true = tt
    by_early false = by_said number incoming said e is

stop_says : (stop : Option Cause) (e : EndValue Tag) → SaysAny (stop_taken stop e).0
stop_says None e = tt
stop_says (Some cause) e = tt

from_says : (inbox : List Arrived) (e : EndValue Tag) → SaysAny (taken_from inbox e).0
from_says [] e = stop_says e.stop e
from_says (arrived ∷ inbox) e = message_says arrived.number arrived.incoming (said_in arrived.incoming.raw) (record e { inbox = inbox }) refl

listed_says : (what : Option (Taken Tag)) → SaysAny what → AllByRecursion Says (listed what)
listed_says None says = tt
listed_says (Some what) says = (says, tt)

by_call : (call : EndCall Tag) (e : EndValue Tag) → AllByRecursion Says (taken_by call e)
by_call taking e = listed_says (next_taken e).0 (from_says e.inbox e)
by_call (commanding service name body tag mark) e = tt
by_call (delivering piece mark) e = tt
by_call ending e = tt
by_call (sending message mark) e = tt
by_call putting_out e = tt
by_call closing e = tt
by_call draining e = tt

all_say : (calls : List (EndCall Tag)) (e : EndValue Tag) → AllByRecursion Says (taken_in calls e)
all_say [] e = tt
all_say (call ∷ calls) e = all_append Says (taken_by call e) (taken_in calls (called call e)) (by_call call e) (all_say calls (called call e))

pub entries_say : (r : HubRun) → AllByRecursion Says (above_run r).past.taken
entries_say r = subst (AllByRecursion Says) (sym (taken_more [] r.above (begun (new_end upper_services None)))) (all_say r.above (new_end upper_services None))

-- ---- no command is told, and the Hello comes first

abbrev pub IsPlain : MessageValue × Option ℕ → Type 0
IsPlain told = said_by told.0 ≡ asks → ⊥

event_plain : (flag : Bool) → event_said flag ≡ asks → ⊥
event_plain true is = cc
event_plain false is = cc

pub told_plain : (names : List (List ℕ)) (told : List Told) → AllByRecursion IsPlain (messages_told names told)
told_plain names [] = tt
told_plain names (hello_at position body ∷ told) = (event_plain _, told_plain names told)
told_plain names (event_at position service name body ∷ told) = (event_plain _, told_plain names told)
told_plain names (progress_at position body ∷ told) = (λ is. cc, told_plain names told)
told_plain names (final_at position through body ∷ told) = (λ is. cc, told_plain (later_tokens names) told)
told_plain names (unknown_at position through ∷ told) = (λ is. cc, told_plain (later_tokens names) told)

-- ---- what was heard is what was told

-- the next message is that of the next entry that has one
same_message : (incoming : Incoming) (told : MessageValue × Option ℕ) (is : List ReadMessage) (more : List (MessageValue × Option ℕ)) → as_read incoming ∷ is ≡ map as_told (told ∷ more)
    → (reading incoming.raw ≡ Ok told.0) × (is ≡ map as_told more)
same_message incoming told is more same = (ap (λ (m : ReadMessage). m.0) (first_of same), rest_of same)
  where
    first_of : as_read incoming ∷ is ≡ as_told told ∷ map as_told more → as_read incoming ≡ as_told told
    first_of same = cc

    rest_of : as_read incoming ∷ is ≡ as_told told ∷ map as_told more → is ≡ map as_told more
    rest_of same = cc

said_told : (incoming : Incoming) (told : MessageValue × Option ℕ) → reading incoming.raw ≡ Ok told.0 → said_in incoming.raw ≡ said_by told.0
said_told incoming told is = ap said_of is

first_same : (incoming : Incoming) (told : MessageValue × Option ℕ) (is : List ReadMessage) (more : List (MessageValue × Option ℕ)) → as_read incoming ∷ is ≡ map as_told (told ∷ more) → as_read incoming ≡ as_told told
first_same incoming told is more same = cc

next_heard : (incoming : Incoming) (told : MessageValue × Option ℕ) (entries : List (Taken Tag)) (more : List (MessageValue × Option ℕ)) → as_read incoming ≡ as_told told
    → map as_read (heard_from true entries) ≡ map as_told more → map as_read (incoming ∷ heard_from true entries) ≡ map as_told (told ∷ more)
next_heard incoming told entries more first rest = ap₂ (λ m ms. m ∷ ms) first rest

-- behind the Hello all is heard
heard_bound : (entries : List (Taken Tag)) (told : List (MessageValue × Option ℕ)) → AllByRecursion Says entries → AllByRecursion IsPlain told
    → map as_read (flat_map incoming_of entries) ≡ map as_told told → map as_read (heard_from true entries) ≡ map as_told told
heard_bound [] told says plain same = same
heard_bound (taken.Closed cause ∷ entries) told says plain same = heard_bound entries told says.1 plain same
heard_bound (taken.Hello incoming ∷ entries) [] says plain same = absurd cc
heard_bound (taken.Hello incoming ∷ entries) (t ∷ told) says plain same =
    let s = same_message incoming t (map as_read (flat_map incoming_of entries)) told same in next_heard incoming t entries told (first_same incoming t (map as_read (flat_map incoming_of entries)) told same) (heard_bound entries told says.1 plain.1 s.1)
heard_bound (taken.Event incoming ∷ entries) [] says plain same = absurd cc
heard_bound (taken.Event incoming ∷ entries) (t ∷ told) says plain same =
    let s = same_message incoming t (map as_read (flat_map incoming_of entries)) told same in next_heard incoming t entries told (first_same incoming t (map as_read (flat_map incoming_of entries)) told same) (heard_bound entries told says.1 plain.1 s.1)
heard_bound (taken.Progress number incoming ∷ entries) [] says plain same = absurd cc
heard_bound (taken.Progress number incoming ∷ entries) (t ∷ told) says plain same =
    let s = same_message incoming t (map as_read (flat_map incoming_of entries)) told same in next_heard incoming t entries told (first_same incoming t (map as_read (flat_map incoming_of entries)) told same) (heard_bound entries told says.1 plain.1 s.1)
heard_bound (taken.Final tag incoming ∷ entries) [] says plain same = absurd cc
heard_bound (taken.Final tag incoming ∷ entries) (t ∷ told) says plain same =
    let s = same_message incoming t (map as_read (flat_map incoming_of entries)) told same in next_heard incoming t entries told (first_same incoming t (map as_read (flat_map incoming_of entries)) told same) (heard_bound entries told says.1 plain.1 s.1)
heard_bound (taken.Command incoming ∷ entries) [] says plain same = absurd cc
heard_bound (taken.Command incoming ∷ entries) (t ∷ told) says plain same =
    let s = same_message incoming t (map as_read (flat_map incoming_of entries)) told same in absurd (plain.0 (sym (said_told incoming t s.0) ∙ says.0))

-- the first message is a Hello, which isn't heard
pub heard_first : (entries : List (Taken Tag)) (one : MessageValue × Option ℕ) (told : List (MessageValue × Option ℕ)) → AllByRecursion Says entries → AllByRecursion IsPlain told → said_by one.0 ≡ greets
    → map as_read (flat_map incoming_of entries) ≡ map as_told (one ∷ told) → map as_read (heard_from false entries) ≡ map as_told told
heard_first [] one told says plain hello_is same = absurd cc
heard_first (taken.Closed cause ∷ entries) one told says plain hello_is same = heard_first entries one told says.1 plain hello_is same
heard_first (taken.Hello incoming ∷ entries) one told says plain hello_is same =
    let s = same_message incoming one (map as_read (flat_map incoming_of entries)) told same in heard_bound entries told says.1 plain s.1
heard_first (taken.Event incoming ∷ entries) one told says plain hello_is same =
    let s = same_message incoming one (map as_read (flat_map incoming_of entries)) told same in absurd (let both : greets ≡ tells = sym hello_is ∙ sym (said_told incoming one s.0) ∙ says.0 in cc)
heard_first (taken.Command incoming ∷ entries) one told says plain hello_is same =
    let s = same_message incoming one (map as_read (flat_map incoming_of entries)) told same in absurd (let both : greets ≡ asks = sym hello_is ∙ sym (said_told incoming one s.0) ∙ says.0 in cc)
heard_first (taken.Progress number incoming ∷ entries) one told says plain hello_is same =
    let s = same_message incoming one (map as_read (flat_map incoming_of entries)) told same in absurd (let both : greets ≡ goes_on says.0.0 = sym hello_is ∙ sym (said_told incoming one s.0) ∙ says.0.1 in cc)
heard_first (taken.Final tag incoming ∷ entries) one told says plain hello_is same =
    let s = same_message incoming one (map as_read (flat_map incoming_of entries)) told same in
    absurd (let both : greets ≡ answers says.0.0 says.0.1 = sym hello_is ∙ sym (said_told incoming one s.0) ∙ says.0.2 in cc)

-- where nothing was told nothing was heard
pub heard_none : (entries : List (Taken Tag)) → map as_read (flat_map incoming_of entries) ≡ [] → heard_from false entries ≡ []
heard_none [] same = refl
heard_none (taken.Closed cause ∷ entries) same = heard_none entries same
heard_none (taken.Hello incoming ∷ entries) same = absurd cc
heard_none (taken.Event incoming ∷ entries) same = absurd cc
heard_none (taken.Command incoming ∷ entries) same = absurd cc
heard_none (taken.Progress number incoming ∷ entries) same = absurd cc
heard_none (taken.Final tag incoming ∷ entries) same = absurd cc
