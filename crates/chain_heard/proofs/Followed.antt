-- A log whose client heard the target follows its history.
use Rattle.std.proofs.Common.{◌≡◌, ℕ, ◌+◌, ◌≤◌, ◌<◌, ◌^◌, ◌==◌, ◌&&◌, Bool, true, false, not, true≢false, cond, List, [], ◌∷◌, ◌++◌, length, map, filter, Option, Some, None, refl, ap, ap₂, sym, ◌∙◌, subst, arith}
use Rattle.std.specs.Prelude.{bytes_eq, decimal}
use Rattle.std.specs.List.{AllByRecursion, flat_map, list_any}
use Rattle.std.proofs.lemmas.List.{append_assoc, append-nil, map-append}
use Rattle.std.proofs.lemmas.List.Concat.{flat_map-append}
use Rattle.std.proofs.lemmas.List.Elements.{filter-append}
use Rattle.channel_core.specs.Arrivals.{Spoken}
use Rattle.channel_core.specs.Wire.{hello, locator}
use Rattle.client_node.specs.Runs.{is_hello, tells}
use Rattle.target_contexts.specs.declared.process.Image.{Image}
use Rattle.target_hub.specs.History.{IsLegal}
use Rattle.target_hub.specs.Ordered.{AllCame, FollowsTarget, OpensAt, through}
use Rattle.target_hub.specs.Received.{answer_of, goes_through, is_owed, is_through_number, read, received, told_of}
use Rattle.target_hub.specs.Sent.{Told, agent_services, event_at, executed_on, final_at, hello_at, progress_at, sent, unknown_at}
use Rattle.target_hub.specs.declared.input.Input.{Input}
use Rattle.tcf_message.specs.Message.{MessageValue, event, final, not_known, progress}
use Rattle.tcf_text.specs.Lines.{Accepted, accepted, bare_answer_of, from_hello, is_placed_hello, mark_of}
use Rattle.tcf_text.specs.Once.{numbers}
use Rattle.tcf_text.specs.declared.log.LogLine.{LogLine}
use Rattle.tcf_text.specs.declared.log.LogLine.TheVariants as lines
use Rattle.value_node.specs.Asked.{Asked}
use Rattle.value_node.specs.OwnMessages.{BeginsWithHello, IsOwn}
use Rattle.chain_heard.specs.Heard.{asked_as, through_of}
use Rattle.chain_told.specs.Told as told
use Rattle.chain_told.specs.Told.{AreToldRightly, IsOpen, IsOwed, IsToldRightly, command_under, is_any_storable, is_ended, owed_at, owed_in}
use Rattle.chain_told.specs.Sent.{bare, owed_by}
use Rattle.list_laws.specs.Fronts.{IsFront, IsSubsequenceOf}
use Rattle.list_laws.proofs.Fronts.{front_whole, behind_subsequence, front_first, front_rest, no_front}
use Rattle.list_laws.proofs.Splits.{filter_mapped}
use Rattle.chain_heard.proofs.Filtered.{flat_told, from_behind, from_hello_told, silent_answer, silent_bare, silent_told}
use Rattle.chain_heard.proofs.Flags.{flag_of}
use Rattle.chain_heard.proofs.Known.{Counted, counted_few, known_number}
use Rattle.chain_heard.proofs.Lines.{AreFew, AreLinesOf, IsLineOf, IsOfFew, messages_cut, says_event, says_final, says_hello, says_progress, says_unknown}
use Rattle.chain_heard.proofs.Marks.{Rising, greeting, none_owed, own_unmarked}
use Rattle.chain_heard.proofs.Numbers.{InParts, in_parts, left_through, numbers_below, numbers_from}
use Rattle.chain_heard.proofs.Own.{no_answers_bare, own_answers, own_ended, own_open}
use Rattle.chain_heard.proofs.Placed.{IsBare, RisingLines, bare_lines, hello_line_is, is_greeting, no_more_hello, rising_lines}
use Rattle.chain_told.proofs.Agents.Sending.{Begins, Climbs, IsLater, begins, place_of}
use Rattle.chain_heard.proofs.Turns.{IsThroughEnded, IsThroughOpen, Turn, turn_pushed, turns}
use Rattle.chain_heard.proofs.Elements.{all_kept, all_mapped}
use Rattle.list_laws.proofs.Numbers.{other_decimals as apart}
use Rattle.list_laws.proofs.AllLists.{all_append, all_right as all_back, all_filter, all_left as all_front, all_weaker, all_both as all_two, all_mapped as all_unmap}
use Rattle.chain_through.proofs.OwnTold.{IsUnmarked}

-- ---- what is known of a log whose client heard the target

pub record Hears (log : List LogLine) (images : List Image) (history : List Input) (k position : ℕ) (answered later : List Accepted) : Type 0 where
  pub legal : IsLegal images history
  pub opened : OpensAt history position k
  pub commands : accepted log ≡ answered ++ later
  pub counted : Counted (answered ++ later)
  pub own : List Spoken
  pub is_own : IsOwn (map asked_as answered) own []
  pub begins : BeginsWithHello own
  pub heard : List Spoken
  pub rest : List Spoken
  pub split : heard ≡ own ++ greeting position ∷ rest
  pub rises : Rising position rest
  pub right : AreToldRightly images history (map asked_as (answered ++ later)) heard
  pub lines_are : AreLinesOf heard (filter tells log)
  pub owed : IsFront (owed_in (map asked_as (answered ++ later)) heard) (owed_by images k history)
  pub asked : IsSubsequenceOf (executed_on k history) (map read later)
  pub goes : IsFront (through_of (executed_on k history)) (through_of (map read later))

-- the lines of what value-adds said, and those behind the target's Hello
pub record Shape (messages : List LogLine) (own rest : List Spoken) (position : ℕ) : Type 0 where
  pub first : List LogLine
  pub behind : List LogLine
  pub messages_are : messages ≡ first ++ lines.Hello (Some position) agent_services ∷ behind
  pub first_are : AreLinesOf own first
  pub behind_are : AreLinesOf rest behind
  pub hello_is : IsLineOf (event locator hello agent_services) (Some position) (lines.Hello (Some position) agent_services)

shaped : (messages : List LogLine) (own rest : List Spoken) (position : ℕ) (first further : List LogLine) → messages ≡ first ++ further → AreLinesOf own first
    → AreLinesOf (greeting position ∷ rest) further → Shape messages own rest position
shaped messages own rest position first [] split are more = absurd more
shaped messages own rest position first (x ∷ behind) split are more =
    let is : x ≡ lines.Hello (Some position) agent_services = hello_line_is (event locator hello agent_services) (Some position) x agent_services more.0 refl in
    record {
      first = first;
      behind = behind;
      messages_are = split ∙ ap (λ l. first ++ l ∷ behind) is;
      first_are = are;
      behind_are = more.1;
      hello_is = subst (IsLineOf (event locator hello agent_services) (Some position)) is more.0;
    }

pub shape_of : (messages : List LogLine) (heard own rest : List Spoken) (position : ℕ) → heard ≡ own ++ greeting position ∷ rest → AreLinesOf heard messages
    → Shape messages own rest position
shape_of messages heard own rest position split are =
    let cut = messages_cut own (greeting position ∷ rest) messages (subst (λ l. AreLinesOf l messages) split are) in
    shaped messages own rest position cut.front cut.rest cut.split cut.first cut.second

-- ---- what a line says that the target told

-- an event that isn't `Locator Hello`
abbrev pub IsPlain : Told → Type 0
IsPlain (event_at place service name body) = is_hello service name ≡ false
IsPlain now = Unit {0}

abbrev IsGood : Told → Type 0
IsGood now = IsPlain now × (is_owed now ≡ true)

-- what a bare message was
abbrev unbare_of : MessageValue → Option ℕ → Option Told
unbare_of (event service name body) (Some place) = Some (cond (is_hello service name) (hello_at place body) (event_at place service name body))
unbare_of (progress token body) (Some place) = Some (progress_at place body)
unbare_of (final token body) (Some place) = Some (final_at place true body)
unbare_of (not_known token) (Some place) = Some (unknown_at place true)
unbare_of m mark = None

unbare : (now : Told) → IsGood now → unbare_of (bare now).message (bare now).mark ≡ Some now
unbare (hello_at place body) good = ap (λ b. Some (cond b (hello_at place body) (event_at place locator hello body))) is_greeting
unbare (event_at place service name body) good = ap (λ b. Some (cond b (hello_at place body) (event_at place service name body))) good.0
unbare (progress_at place body) good = refl
unbare (final_at place through body) good = ap (λ b. Some (final_at place b body)) (sym good.1)
unbare (unknown_at place through) good = ap (λ b. Some (unknown_at place b)) (sym good.1)

bare_one : (one other : Told) → IsGood one → IsGood other → bare one ≡ bare other → one ≡ other
bare_one one other good also same =
    let some : Some one ≡ Some other = sym (unbare one good) ∙ ap (λ (s : Spoken). unbare_of s.message s.mark) same ∙ unbare other also in cc

bare_front : (xs ys : List Told) → AllByRecursion IsGood xs → AllByRecursion IsGood ys → IsFront (map bare xs) (map bare ys) → IsFront xs ys
bare_front [] ys good also front = (ys, refl)
bare_front (x ∷ xs) [] good also front = absurd (no_front (bare x) (map bare xs) front)
bare_front (x ∷ xs) (y ∷ ys) good also front =
    let same = bare_one x y good.0 also.0 (front_first (bare x) (bare y) (map bare xs) (map bare ys) front) in
    let more = bare_front xs ys good.1 also.1 (front_rest (bare x) (bare y) (map bare xs) (map bare ys) front) in
    (more.0, ap₂ (λ a l. a ∷ l) (sym same) more.1)

all_good : (xs : List Told) → AllByRecursion IsPlain xs → AllByRecursion IsGood (filter is_owed xs)
all_good xs plain =
    all_two IsPlain (λ now. is_owed now ≡ true) IsGood (filter is_owed xs) (λ now here owed. (here, owed)) (all_filter IsPlain is_owed xs plain) (all_kept is_owed xs)

later_plain : (position : ℕ) (now : Told) → IsLater position now → IsPlain now
later_plain position (hello_at place body) later = tt
later_plain position (event_at place service name body) later = later.1
later_plain position (progress_at place body) later = tt
later_plain position (final_at place through body) later = tt
later_plain position (unknown_at place through) later = tt

climbs_plain : (position : ℕ) (told : List Told) → Climbs position told → AllByRecursion IsPlain told
climbs_plain position [] climbs = tt
climbs_plain position (now ∷ told) climbs = (later_plain position now climbs.0, climbs_plain (place_of now) told climbs.1)

event_plain : (all : List Accepted) (mark : Option ℕ) (service name body : List ℕ) → is_hello service name ≡ false → AllByRecursion IsPlain (told_of all (lines.Event mark service name body))
event_plain all None service name body plain = tt
event_plain all (Some place) service name body plain = (plain, tt)

hello_plain : (all : List Accepted) (mark : Option ℕ) (body : List ℕ) → AllByRecursion IsPlain (told_of all (lines.Hello mark body))
hello_plain all None body = tt
hello_plain all (Some place) body = (tt, tt)

progress_plain : (all : List Accepted) (number : ℕ) (mark : Option ℕ) (body : List ℕ) → AllByRecursion IsPlain (told_of all (lines.Progress number mark body))
progress_plain all number None body = tt
progress_plain all number (Some place) body = (tt, tt)

final_plain : (all : List Accepted) (number : ℕ) (mark : Option ℕ) (body : List ℕ) → AllByRecursion IsPlain (told_of all (lines.Final number mark body))
final_plain all number None body = tt
final_plain all number (Some place) body = (tt, tt)

unknown_plain : (all : List Accepted) (number : ℕ) (mark : Option ℕ) → AllByRecursion IsPlain (told_of all (lines.Unknown number mark))
unknown_plain all number None = tt
unknown_plain all number (Some place) = (tt, tt)

line_plain : (all : List Accepted) (m : MessageValue) (mark : Option ℕ) (line : LogLine) → IsLineOf m mark line → AllByRecursion IsPlain (told_of all line)
line_plain all m mark line (says_hello body is says) = subst (λ l. AllByRecursion IsPlain (told_of all l)) (sym says) (hello_plain all mark body)
line_plain all m mark line (says_event service name body is plain says) = subst (λ l. AllByRecursion IsPlain (told_of all l)) (sym says) (event_plain all mark service name body plain)
line_plain all m mark line (says_progress number body few is says) = subst (λ l. AllByRecursion IsPlain (told_of all l)) (sym says) (progress_plain all number mark body)
line_plain all m mark line (says_final number body few is says) = subst (λ l. AllByRecursion IsPlain (told_of all l)) (sym says) (final_plain all number mark body)
line_plain all m mark line (says_unknown number few is says) = subst (λ l. AllByRecursion IsPlain (told_of all l)) (sym says) (unknown_plain all number mark)

lines_plain : (all : List Accepted) (told : List Spoken) (ys : List LogLine) → AreLinesOf told ys → AllByRecursion IsPlain (flat_map (told_of all) ys)
lines_plain all [] [] are = tt
lines_plain all [] (y ∷ ys) are = absurd are
lines_plain all (s ∷ told) [] are = absurd are
lines_plain all (s ∷ told) (y ∷ ys) are =
    all_append IsPlain (told_of all y) (flat_map (told_of all) ys) (line_plain all s.message s.mark y are.0) (lines_plain all told ys are.1)

-- ---- it is what is owed

final_owed : (flag stored : Bool) (place : ℕ) (body : List ℕ) → flag ≡ not stored
    → map bare (filter is_owed (final_at place flag body ∷ [])) ≡ map (λ m. record { message = m; mark = Some place }) (told.without_token stored (final (decimal 0) body))
final_owed true true place body is = absurd (true≢false is)
final_owed true false place body is = refl
final_owed false true place body is = refl
final_owed false false place body is = absurd (true≢false (sym is))

unknown_owed : (flag stored : Bool) (place : ℕ) → flag ≡ not stored
    → map bare (filter is_owed (unknown_at place flag ∷ [])) ≡ map (λ m. record { message = m; mark = Some place }) (told.without_token stored (not_known (decimal 0)))
unknown_owed true true place is = absurd (true≢false is)
unknown_owed true false place is = refl
unknown_owed false true place is = refl
unknown_owed false false place is = absurd (true≢false (sym is))

flag_is : (all : List Accepted) (before : List Spoken) (number : ℕ) → Counted all → number < 2 ^ 64 → IsOpen (map asked_as all) before (decimal number)
    → is_through_number number all ≡ not (is_any_storable (command_under (decimal number) (map asked_as all)))
flag_is all before number counted few opened =
    known_number all opened.command number counted few opened.sent ∙ ap (λ c. not (is_any_storable c)) (sym opened.sent)

owed_line : (images : List Image) (history : List Input) (all : List Accepted) (before : List Spoken) (s : Spoken) (place : ℕ) (x : LogLine) → Counted all
    → IsToldRightly images history (map asked_as all) before s → s.mark ≡ Some place → IsLineOf s.message s.mark x
    → map bare (filter is_owed (told_of all x)) ≡ owed_at (map asked_as all) s.message s.mark
owed_line images history all before s place x counted right marked (says_hello body is says) =
    ap (λ l. map bare (filter is_owed (told_of all l))) (says ∙ ap (λ mark. lines.Hello mark body) marked) ∙ sym (ap₂ (owed_at (map asked_as all)) is marked)
owed_line images history all before s place x counted right marked (says_event service name body is plain says) =
    ap (λ l. map bare (filter is_owed (told_of all l))) (says ∙ ap (λ mark. lines.Event mark service name body) marked) ∙ sym (ap₂ (owed_at (map asked_as all)) is marked)
owed_line images history all before s place x counted right marked (says_progress number body few is says) =
    ap (λ l. map bare (filter is_owed (told_of all l))) (says ∙ ap (λ mark. lines.Progress number mark body) marked) ∙ sym (ap₂ (owed_at (map asked_as all)) is marked)
owed_line images history all before s place x counted right marked (says_final number body few is says) =
    let commands : List Asked = map asked_as all in
    let opened : IsOpen commands before (decimal number) = subst (IsOwed commands before) is right.owed in
    ap (λ l. map bare (filter is_owed (told_of all l))) (says ∙ ap (λ mark. lines.Final number mark body) marked)
    ∙ final_owed (is_through_number number all) (is_any_storable (command_under (decimal number) commands)) place body (flag_is all before number counted few opened)
    ∙ sym (ap₂ (owed_at commands) is marked)
owed_line images history all before s place x counted right marked (says_unknown number few is says) =
    let commands : List Asked = map asked_as all in
    let opened : IsOpen commands before (decimal number) = subst (IsOwed commands before) is right.owed in
    ap (λ l. map bare (filter is_owed (told_of all l))) (says ∙ ap (λ mark. lines.Unknown number mark) marked)
    ∙ unknown_owed (is_through_number number all) (is_any_storable (command_under (decimal number) commands)) place (flag_is all before number counted few opened)
    ∙ sym (ap₂ (owed_at commands) is marked)

owed_lines : (images : List Image) (history : List Input) (all : List Accepted) (heard : List Spoken) → Counted all → AreToldRightly images history (map asked_as all) heard
    → (told before : List Spoken) (ys : List LogLine) (position : ℕ) → heard ≡ before ++ told → Rising position told → AreLinesOf told ys
    → map bare (filter is_owed (flat_map (told_of all) ys)) ≡ owed_in (map asked_as all) told
owed_lines images history all heard counted right [] before [] position split rises are = refl
owed_lines images history all heard counted right [] before (y ∷ ys) position split rises are = absurd are
owed_lines images history all heard counted right (s ∷ told) before [] position split rises are = absurd are
owed_lines images history all heard counted right (s ∷ told) before (y ∷ ys) position split rises are =
    let here = owed_line images history all before s rises.0.place y counted (right before told s split) rises.0.mark are.0 in
    let more = owed_lines images history all heard counted right told (before ++ s ∷ []) ys rises.0.place (split ∙ sym (append_assoc before (s ∷ []) told)) rises.1 are.1 in
    ap (map bare) (filter-append is_owed (told_of all y) (flat_map (told_of all) ys))
    ∙ map-append bare (filter is_owed (told_of all y)) (filter is_owed (flat_map (told_of all) ys))
    ∙ ap₂ (λ us vs. us ++ vs) here more

-- ---- what was received is the front of what the target told

-- what the lines behind the Hello say that it told
abbrev pub told_in : List Accepted → ℕ → List LogLine → List Told
told_in all position ys = hello_at position agent_services ∷ flat_map (told_of all) ys

-- what was heard owes what these lines say, whoever answered it
owed_told : (log : List LogLine) (images : List Image) (history : List Input) (k position : ℕ) (answered later : List Accepted)
    → (hears : Hears log images history k position answered later) (shape : Shape (filter tells log) hears.own hears.rest position)
    → owed_in (map asked_as (answered ++ later)) hears.heard ≡ map bare (filter is_owed (told_in (answered ++ later) position shape.behind))
owed_told log images history k position answered later hears shape =
    let all : List Accepted = answered ++ later in
    let commands : List Asked = map asked_as all in
    let none : AllByRecursion IsUnmarked hears.own = own_unmarked hears.own (map asked_as answered) [] hears.is_own in
    let behind : map bare (filter is_owed (flat_map (told_of all) shape.behind)) ≡ owed_in commands hears.rest =
    owed_lines images history all hears.heard hears.counted hears.right hears.rest (hears.own ++ greeting position ∷ []) shape.behind position
    (hears.split ∙ sym (append_assoc hears.own (greeting position ∷ []) hears.rest)) hears.rises shape.behind_are in
    ap (owed_in commands) hears.split ∙ flat_map-append (λ (s : Spoken). owed_at commands s.message s.mark) hears.own (greeting position ∷ hears.rest)
    ∙ ap (λ l. l ++ owed_in commands (greeting position ∷ hears.rest)) (none_owed commands hears.own none)
    ∙ ap (λ l. greeting position ∷ l) (sym behind)

pub told_front : (log : List LogLine) (images : List Image) (history : List Input) (k position : ℕ) (answered later : List Accepted)
    → (hears : Hears log images history k position answered later) (shape : Shape (filter tells log) hears.own hears.rest position)
    → IsFront (filter is_owed (told_in (answered ++ later) position shape.behind)) (filter is_owed (sent images k history))
told_front log images history k position answered later hears shape =
    let all : List Accepted = answered ++ later in
    let starts : Begins images history k position = begins images history k position hears.legal hears.opened in
    let owed = owed_told log images history k position answered later hears shape in
    bare_front (filter is_owed (told_in all position shape.behind)) (filter is_owed (sent images k history))
    (all_good (told_in all position shape.behind) (tt, lines_plain all hears.rest shape.behind shape.behind_are))
    (all_good (sent images k history) (subst (AllByRecursion IsPlain) (sym starts.first) (tt, climbs_plain position starts.rest starts.climbs)))
    (hears.owed.0, hears.owed.1 ∙ ap (λ l. l ++ hears.owed.0) owed)

-- and all of it, where all that is owed was heard
told_all : (log : List LogLine) (images : List Image) (history : List Input) (k position : ℕ) (answered later : List Accepted)
    → (hears : Hears log images history k position answered later) (shape : Shape (filter tells log) hears.own hears.rest position)
    → owed_in (map asked_as (answered ++ later)) hears.heard ≡ owed_by images k history
    → filter is_owed (told_in (answered ++ later) position shape.behind) ≡ filter is_owed (sent images k history)
told_all log images history k position answered later hears shape all =
    let front = told_front log images history k position answered later hears shape in
    front_whole bare (filter is_owed (told_in (answered ++ later) position shape.behind)) (filter is_owed (sent images k history)) front
    (sym (owed_told log images history k position answered later hears shape) ∙ all)

-- ---- the answers so far

later_open : (answered later : List Accepted) (own : List Spoken) → Counted (answered ++ later) → IsOwn (map asked_as answered) own []
    → AllByRecursion (λ c. is_ended (decimal c.number) own ≡ false) later
later_open answered later own counted is =
    let parts : InParts answered later 1 = in_parts answered later 1 counted.counted in
    let few : AreFew (answered ++ later) = counted_few (answered ++ later) counted in
    let low : AllByRecursion (λ d. d.number < 1 + length answered) answered = numbers_below answered 1 (length answered) parts.first in
    all_two (λ c. 1 + length answered ≤ c.number) IsOfFew (λ c. is_ended (decimal c.number) own ≡ false) later
    (λ c above small.
    own_open own (map asked_as answered) [] (decimal c.number) is
    (all_mapped (λ (a : Asked). bytes_eq a.token (decimal c.number) ≡ false) asked_as answered
    (all_two (λ d. d.number < 1 + length answered) IsOfFew (λ d. bytes_eq (decimal d.number) (decimal c.number) ≡ false) answered
    (λ d below tiny. apart d.number c.number tiny small (λ same. omega arith)) low (all_front IsOfFew answered later few))))
    (numbers_from later (1 + length answered) (length later) parts.second) (all_back IsOfFew answered later few)

pub first_turn : (answered later : List Accepted) (own : List Spoken) (xs : List LogLine) → Counted (answered ++ later) → IsOwn (map asked_as answered) own [] → AllByRecursion IsBare xs
    → Turn answered later own xs
first_turn answered later own xs counted is bare = record {
  done = [];
  rest = later;
  split = refl;
  ended =
      subst (AllByRecursion (IsThroughEnded own)) (sym (append-nil answered))
      (all_weaker (λ c. is_ended (decimal c.number) own ≡ true) (IsThroughEnded own) answered (λ c ended through. ended)
      (all_unmap (λ (a : Asked). is_ended a.token own ≡ true) asked_as answered (own_ended own (map asked_as answered) is)));
  open_yet = all_weaker (λ c. is_ended (decimal c.number) own ≡ false) (IsThroughOpen own) later (λ c none through. none) (later_open answered later own counted is);
  answers = no_answers_bare (answered ++ later) xs bare;
}

-- behind the Hello and some of the messages after it
pub turn_behind : (log : List LogLine) (images : List Image) (history : List Input) (k position : ℕ) (answered later : List Accepted)
    → (hears : Hears log images history k position answered later) (shape : Shape (filter tells log) hears.own hears.rest position)
    → (told more : List Spoken) (ys : List LogLine) → hears.rest ≡ told ++ more → Rising position told → AreLinesOf told ys
    → Turn answered later ((hears.own ++ greeting position ∷ []) ++ told) ((shape.first ++ lines.Hello (Some position) agent_services ∷ []) ++ ys)
turn_behind log images history k position answered later hears shape told more ys split rises are =
    let bare : AllByRecursion IsBare shape.first =
    bare_lines hears.own shape.first (own_unmarked hears.own (map asked_as answered) [] hears.is_own) shape.first_are in
    let start : Turn answered later hears.own shape.first = first_turn answered later hears.own shape.first hears.counted hears.is_own bare in
    let greeted : Turn answered later (hears.own ++ greeting position ∷ []) (shape.first ++ lines.Hello (Some position) agent_services ∷ []) =
    turn_pushed images history answered later hears.own shape.first (greeting position) (lines.Hello (Some position) agent_services) position hears.counted
    (hears.right hears.own hears.rest (greeting position) hears.split) refl shape.hello_is start in
    turns images history answered later hears.heard hears.counted hears.right told more (hears.own ++ greeting position ∷ [])
    (shape.first ++ lines.Hello (Some position) agent_services ∷ []) ys position
    (hears.split ∙ ap (λ l. hears.own ++ greeting position ∷ l) split ∙ sym (append_assoc hears.own (greeting position ∷ []) (told ++ more))) rises are greeted

-- those before the Hello give no answer with a position
pub answers_behind : (all : List Accepted) (first ys : List LogLine) (position : ℕ) → AllByRecursion IsBare first
    → flat_map (answer_of all) ((first ++ lines.Hello (Some position) agent_services ∷ []) ++ ys) ≡ flat_map (answer_of all) ys
answers_behind all first ys position bare =
    flat_map-append (answer_of all) (first ++ lines.Hello (Some position) agent_services ∷ []) ys
    ∙ ap (λ l. l ++ flat_map (answer_of all) ys) (flat_map-append (answer_of all) first (lines.Hello (Some position) agent_services ∷ []) ∙ ap (λ l. l ++ []) (no_answers_bare all first bare))

-- ---- the through commands that are left

bare_risen : (line : LogLine) (place : ℕ) → Some (Some place) ≡ mark_of line → bare_answer_of line ≡ []
bare_risen (lines.Final number None body) place mark = absurd cc
bare_risen (lines.Final number (Some other) body) place mark = refl
bare_risen (lines.Unknown number None) place mark = absurd cc
bare_risen (lines.Unknown number (Some other)) place mark = refl
bare_risen line place mark = refl

no_bare : (ys : List LogLine) (position : ℕ) → RisingLines position ys → flat_map bare_answer_of ys ≡ []
no_bare [] position rises = refl
no_bare (y ∷ ys) position rises = ap₂ (λ here more. here ++ more) (bare_risen y rises.0.place (sym rises.0.mark)) (no_bare ys rises.0.place rises.1)

pub through_left : (log : List LogLine) (images : List Image) (history : List Input) (k position : ℕ) (answered later : List Accepted)
    → (hears : Hears log images history k position answered later) (shape : Shape (filter tells log) hears.own hears.rest position) → through log ≡ filter goes_through later
through_left log images history k position answered later hears shape =
    let all : List Accepted = answered ++ later in
    let few : AreFew answered = all_front IsOfFew answered later (counted_few all hears.counted) in
    let hello_line : LogLine = lines.Hello (Some position) agent_services in
    let named : flat_map bare_answer_of log ≡ numbers answered =
    sym (flat_told bare_answer_of silent_bare log) ∙ ap (flat_map bare_answer_of) shape.messages_are ∙ flat_map-append bare_answer_of shape.first (hello_line ∷ shape.behind)
    ∙ ap (λ l. flat_map bare_answer_of shape.first ++ l) (no_bare shape.behind position (rising_lines hears.rest shape.behind position hears.rises shape.behind_are))
    ∙ append-nil (flat_map bare_answer_of shape.first) ∙ own_answers hears.own shape.first (map asked_as answered) hears.is_own shape.first_are answered refl few in
    ap₂ (λ bare commands. filter (λ (c : Accepted). goes_through c && not (list_any (λ number. number == c.number) bare)) commands) named hears.commands
    ∙ left_through answered later (in_parts answered later 1 hears.counted.counted)

-- ---- from the Hello on

pub from_is : (log : List LogLine) (own rest : List Spoken) (position : ℕ) → (shape : Shape (filter tells log) own rest position) → Rising position rest
    → filter tells (from_hello log) ≡ lines.Hello (Some position) agent_services ∷ shape.behind
from_is log own rest position shape rises =
    let hello_line : LogLine = lines.Hello (Some position) agent_services in
    let none : list_any is_placed_hello shape.behind ≡ false = no_more_hello position shape.behind (rising_lines rest shape.behind position rises shape.behind_are) in
    from_hello_told log ∙ ap from_hello shape.messages_are ∙ from_behind shape.first (hello_line ∷ shape.behind) refl
    ∙ ap (λ b. cond b (from_hello shape.behind) (hello_line ∷ shape.behind)) none

received_is : (log : List LogLine) (images : List Image) (history : List Input) (k position : ℕ) (answered later : List Accepted)
    → (hears : Hears log images history k position answered later) (shape : Shape (filter tells log) hears.own hears.rest position)
    → received log ≡ told_in (answered ++ later) position shape.behind
received_is log images history k position answered later hears shape =
    let all : List Accepted = answered ++ later in
    ap (λ commands. flat_map (told_of commands) (from_hello log)) hears.commands
    ∙ sym (flat_told (told_of all) (silent_told all) (from_hello log)) ∙ ap (flat_map (told_of all)) (from_is log hears.own hears.rest position shape hears.rises)

pub follows : (log : List LogLine) (images : List Image) (history : List Input) (k position : ℕ) (answered later : List Accepted)
    → Hears log images history k position answered later → FollowsTarget log images history k
follows log images history k position answered later hears =
    let all : List Accepted = answered ++ later in
    let shape = shape_of (filter tells log) hears.heard hears.own hears.rest position hears.split hears.lines_are in
    let from = from_is log hears.own hears.rest position shape hears.rises in
    let bare : AllByRecursion IsBare shape.first =
    bare_lines hears.own shape.first (own_unmarked hears.own (map asked_as answered) [] hears.is_own) shape.first_are in
    let told_is = received_is log images history k position answered later hears shape in
    let turn = turn_behind log images history k position answered later hears shape hears.rest [] shape.behind (sym (append-nil hears.rest)) hears.rises shape.behind_are in
    let answers_are : flat_map (answer_of (accepted log)) (from_hello log) ≡ numbers (filter goes_through turn.done) =
    ap (λ commands. flat_map (answer_of commands) (from_hello log)) hears.commands
    ∙ sym (flat_told (answer_of all) (silent_answer all) (from_hello log)) ∙ ap (flat_map (answer_of all)) from
    ∙ sym (answers_behind all shape.first shape.behind position bare) ∙ turn.answers in
    let through_is : through log ≡ filter goes_through later = through_left log images history k position answered later hears shape in
    let parts : numbers (filter goes_through turn.done) ++ numbers (filter goes_through turn.rest) ≡ numbers (through log) =
    sym (map-append (λ (c : Accepted). c.number) (filter goes_through turn.done) (filter goes_through turn.rest))
    ∙ ap numbers (sym (filter-append goes_through turn.done turn.rest) ∙ ap (filter goes_through) (sym turn.split) ∙ sym through_is) in
    let asked_is : filter flag_of (map read later) ≡ map read (through log) = filter_mapped flag_of read later ∙ ap (map read) (sym through_is) in
    let commands_are : map read answered ++ map read later ≡ map read (accepted log) = sym (map-append read answered later) ∙ ap (map read) (sym hears.commands) in
    record {
      told =
          subst (λ told. IsFront (filter is_owed told) (filter is_owed (sent images k history))) (sym told_is)
          (told_front log images history k position answered later hears shape);
      executes =
          record {
            executed = subst (IsFront (filter flag_of (executed_on k history))) asked_is hears.goes;
            answers = (numbers (filter goes_through turn.rest), sym (ap (λ l. l ++ numbers (filter goes_through turn.rest)) answers_are ∙ parts));
            accepted = subst (IsSubsequenceOf (executed_on k history)) commands_are (behind_subsequence (executed_on k history) (map read later) (map read answered) hears.asked);
          };
    }

-- where it heard all that is owed, all has come
pub came_all : (log : List LogLine) (images : List Image) (history : List Input) (k position : ℕ) (answered later : List Accepted)
    → (hears : Hears log images history k position answered later) → owed_in (map asked_as (answered ++ later)) hears.heard ≡ owed_by images k history → AllCame log images history k
came_all log images history k position answered later hears all =
    let shape = shape_of (filter tells log) hears.heard hears.own hears.rest position hears.split hears.lines_are in
    ap (filter is_owed) (received_is log images history k position answered later hears shape) ∙ told_all log images history k position answered later hears shape all
