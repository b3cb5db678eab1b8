-- After an event nothing is left to do: nothing waits, unless the agent is full, and what it tells is queued.
use Rattle.std.proofs.Common.{◌≡◌, ℕ, zero, suc, ◌≤◌, ◌+◌, ◌-◌, ◌^◌, ◌==◌, inl, inr, Bool, true, false, ◌||◌, cond, nat_le, nat_lt, List, [], ◌∷◌, ◌++◌, length, Option, Some, None, refl, sym, ap, ◌∙◌, subst, arith, leb-true}
use Rattle.std.specs.Prelude.{IsTrue, min}
use Rattle.std.specs.List.{AllByRecursion, filter}
use Rattle.std.proofs.Math.Nat.{zero-min}
use Rattle.std.proofs.lemmas.Bool.{or_parts, and_parts, false_from_ne_true}
use Rattle.list_laws.proofs.AllLists.{all_both, all_filter, all_map_then, all_mapped, all_push, all_weaker}
use Rattle.list_laws.proofs.Flags.{not_both}
use Rattle.list_laws.proofs.Numbers.{other_number}
use Rattle.target_contexts.specs.declared.process.Image.{Image}
use Rattle.tcf_values.specs.declared.event.EventData.{EventData}
use Rattle.tcf_values.specs.declared.ids.ContextId.{ContextId}
use Rattle.tcf_wires.specs.Event.{can_come}
use Rattle.tcf_wires.specs.declared.event.WireEvent.{WireEvent}
use Rattle.tcf_wires.specs.declared.event.WireEvent.TheVariants as events
use Rattle.agent_node.specs.Agent.{after_input, begun, instruction_tells, is_full, is_refused, new_agent, opened, ticked, ticked_by, turned}
use Rattle.agent_node.specs.AgentValue.{AgentValue}
use Rattle.agent_node.specs.Channels.{is_kept, live_count, new_channel}
use Rattle.channel_list.specs.Numbers.{has_number}
use Rattle.agent_node.specs.Runs.{Call}
use Rattle.agent_node.specs.declared.agent.Turned.{Turned}
use Rattle.agent_node.specs.declared.agent.Turned.TheVariants.{Nothing}
use Rattle.channel_list.specs.declared.channel.Channel.{Channel}
use Rattle.serving_wires.specs.Intake.{next_for}
use Rattle.serving_wires.specs.Order.{closes}
use Rattle.serving_wires.specs.Process.{Process, and_then, done, tells}
use Rattle.serving_wires.specs.Row.{Row}
use Rattle.serving_wires.specs.Standing.{after, standing_in}
use Rattle.serving_wires.specs.declared.intake.Came.{Came}
use Rattle.serving_wires.specs.declared.intake.Came.TheVariants.{Piece, End as TheEnd}
use Rattle.serving_wires.proofs.Coming.{ComesTo, comes_then, stands_so}
use Rattle.serving_wires.proofs.Rows.{found}
use Rattle.agent_serving.specs.Gathering.{agent_emptied, all_gathered, gathered, queue_on}
use Rattle.agent_serving.specs.Left.{CanBeHeard, HasNothingLeft, LeavesNothing}
use Rattle.agent_serving.specs.Passing.{Passed, passed_on, waiting_on}
use Rattle.agent_serving.specs.Serving.{acted, handled, heard_on, opened_as, opened_on, served_agent, told}
use Rattle.agent_serving.specs.ServingValue.{ServingValue}
use Rattle.agent_serving.specs.Ticking.{after_pass, after_passes, idled, left_by_pass, less_one, threads_of}
use Rattle.agent_serving.proofs.Boxes.{entries}
use Rattle.agent_serving.proofs.Doing.{idled_silent, passed_on_does}
use Rattle.agent_serving.proofs.Idling.{passes_full}
use Rattle.agent_serving.proofs.Made.{Made, made_first, made_more, made_opened, made_refused, opened_put, opened_without, own_put, own_without}
use Rattle.agent_serving.proofs.Rooms.{AreNone, AreSmall, Box, Has, Moves, Passes, boxes, count_elsewhere, count_on, first_count, moves_none, moves_then, none_after, none_counted, nothing_taken, passes_on, size_of, told_kept, turned_full, waiting_is}
use Rattle.agent_serving.proofs.Rows.{Lines, all_found, all_others, all_put, heard_first, heard_is, put_first, without_first}
use Rattle.agent_serving.proofs.Told.{all_come, all_emptied, all_run, all_same, all_told, emptied_run, emptied_same, gathered_comes, same_full}

-- ---- a channel at rest

record LineRests (a : AgentValue) (k : ℕ) (waiting : List Came) : Type 0 where
  small : AreSmall waiting
  passed : is_full a ≡ false → waiting ≡ []
  left : next_for (waiting_on k a) waiting ≡ None

abbrev RestsOn : AgentValue → Row (List Came) → Type 0
RestsOn a line = LineRests a line.channel line.item

-- what is served, made by some calls
record Rests (images : List Image) (s : ServingValue) : Type 0 where
  calls : List Call
  made : Made images calls s
  none : is_full s.agent ≡ false → AreNone (boxes s.agent.channels)
  lines : AllByRecursion (RestsOn s.agent) s.lines

-- a full agent stays full, and what waits on the channel stays
record IsStill (k : ℕ) (a b : AgentValue) : Type 0 where
  full : is_full a ≡ true → is_full b ≡ true
  waits : is_full a ≡ true → waiting_on k b ≡ waiting_on k a

wasnt_full : (a b : AgentValue) → (is_full a ≡ true → is_full b ≡ true) → is_full b ≡ false → is_full a ≡ false
wasnt_full a b full isnt = false_from_ne_true (is_full a) (λ is. not_both (full is) isnt)

line_still : (k : ℕ) (waiting : List Came) (a b : AgentValue) → IsStill k a b → LineRests a k waiting → LineRests b k waiting
line_still k waiting a b still old = record { small = old.small; passed = λ isnt. old.passed (wasnt_full a b still.full isnt); left = by_full (is_full a) refl }
  where
    by_full : (flag : Bool) → is_full a ≡ flag → next_for (waiting_on k b) waiting ≡ None
    by_full true is = ap (λ (n : ℕ). next_for n waiting) (still.waits is) ∙ old.left
    by_full false is = ap (λ (cs : List Came). next_for (waiting_on k b) cs) (old.passed is)

lines_still : (a b : AgentValue) (lines : Lines) → ((k : ℕ) → IsStill k a b) → AllByRecursion (RestsOn a) lines → AllByRecursion (RestsOn b) lines
lines_still a b lines still all = all_weaker (RestsOn a) (RestsOn b) lines (λ line old. line_still line.channel line.item a b (still line.channel) old) all

waits_by : (k : ℕ) (a b : AgentValue) → count_on k b ≡ count_on k a → waiting_on k b ≡ waiting_on k a
waits_by k a b same = waiting_is k b ∙ ap (λ (n : ℕ). min n (2 ^ 64 - 1)) same ∙ sym (waiting_is k a)

still_same : (k : ℕ) (a b : AgentValue) → boxes b.channels ≡ boxes a.channels → (is_full a ≡ true → is_full b ≡ true) → IsStill k a b
still_same k a b same full = record { full = full; waits = λ is. waits_by k a b (ap (λ (bs : List Box). first_count k bs) same) }

still_elsewhere : (k j : ℕ) (a b : AgentValue) → (j == k) ≡ false → Moves j a b → IsStill k a b
still_elsewhere k j a b apart moves =
    record { full = moves.full; waits = λ is. waits_by k a b (ap (λ (bs : List Box). first_count k bs) moves.boxes_are ∙ count_elsewhere k j moves.count (boxes a.channels) apart) }

-- ---- a channel opens

channels_none : (cs : List Channel) → AreNone (boxes cs) → AllByRecursion (λ (c : Channel). entries c.end ≡ 0) cs
channels_none cs all = all_mapped (λ (b : Box). b.1 ≡ 0) (λ (c : Channel). (c.number, entries c.end)) cs all

boxes_none : (cs : List Channel) → AllByRecursion (λ (c : Channel). entries c.end ≡ 0) cs → AreNone (boxes cs)
boxes_none cs all = all_map_then (λ (b : Box). b.1 ≡ 0) (λ (c : Channel). entries c.end ≡ 0) (λ (c : Channel). (c.number, entries c.end)) cs (λ c is. is) all

record IsOpening (k : ℕ) (a b : AgentValue) : Type 0 where
  full : is_full a ≡ true → is_full b ≡ true
  same : is_full a ≡ true → b ≡ a
  none : AreNone (boxes a.channels) → AreNone (boxes b.channels)

opening_by : (flag : Bool) (k : ℕ) (a : AgentValue) → is_refused k a ≡ flag → IsOpening k a (cond {A = Bool × AgentValue} flag (false, a) (true, begun k a)).1
unfolding begun
opening_by true k a is = record { full = λ full. full; same = λ full. refl; none = λ all. all }
opening_by false k a is =
    let isnt : is_full a ≡ false = (or_parts (nat_le 64 (live_count a.channels)) (is_full a) (or_parts (has_number k a.numbers) (nat_le 64 (live_count a.channels) || is_full a) is).1).1 in
    record {
      full = λ full. absurd (not_both full isnt);
      same = λ full. absurd (not_both full isnt);
      none = λ all. boxes_none (filter is_kept a.channels ++ new_channel k (a.position + 1) ∷ [])
          (all_push (λ (c : Channel). entries c.end ≡ 0) (filter is_kept a.channels) (new_channel k (a.position + 1))
          (all_filter (λ (c : Channel). entries c.end ≡ 0) is_kept a.channels (channels_none a.channels all)) refl);
    }

is_opening : (k : ℕ) (a : AgentValue) → IsOpening k a (opened k a).1
unfolding opened
is_opening k a = opening_by (is_refused k a) k a refl

opened_rests : (did : Bool) (images : List Image) (k : ℕ) (s : ServingValue) → (opened k s.agent).0 ≡ did → Rests images s → ComesTo (Rests images) (opened_as k (did, (opened k s.agent).1) s)
opened_rests did images k s is old = by_flag did is
  where
    next : AgentValue
    next = (opened k s.agent).1

    still : (j : ℕ) → IsStill j s.agent (opened k s.agent).1
    still j = let o = is_opening k s.agent in record { full = o.full; waits = λ is. ap (waiting_on j) (o.same is) }

    none : is_full (opened k s.agent).1 ≡ false → AreNone (boxes (opened k s.agent).1.channels)
    none isnt = let o = is_opening k s.agent in o.none (old.none (wasnt_full s.agent (opened k s.agent).1 o.full isnt))

    by_flag : (flag : Bool) → (opened k s.agent).0 ≡ flag → ComesTo (Rests images) (opened_as k (flag, (opened k s.agent).1) s)
    by_flag true did_so =
        record {
          calls = _;
          made = made_opened images old.calls k s old.made did_so;
          none = none;
          lines = all_push (RestsOn next) s.lines (record { channel = k; item = [] }) (lines_still s.agent next s.lines still old.lines) (record { small = tt; passed = λ isnt. refl; left = refl });
        }
    by_flag false did_so = record { calls = _; made = made_refused images old.calls k s old.made; none = none; lines = lines_still s.agent next s.lines still old.lines }

-- ---- something comes

-- what passed, and then is to go on or to be forgotten
record IsPassed (k : ℕ) (a : AgentValue) (p : Passed) : Type 0 where
  passes : Passes k a p
  none : is_full p.agent ≡ false → AreNone (boxes p.agent.channels)

others_rest : (k : ℕ) (a b : AgentValue) → Moves k a b → (line : Row (List Came)) → (line.channel == k) ≡ false → RestsOn a line → RestsOn b line
others_rest k a b moves line apart old = line_still line.channel line.item a b (still_elsewhere line.channel k a b (other_number line.channel k apart) moves) old

with_rests : (over : Bool) (images : List Image) (k : ℕ) (waiting : List Came) (p : Passed) (s : ServingValue) → p ≡ passed_on k waiting s.agent → IsPassed k s.agent p → Rests images s
    → ComesTo (Rests images)
    (cond over (and_then (gathered k p.agent) (λ a. tells (closes k) (done (record { agent = a; lines = without_first k s.lines })))) (done (record { agent = p.agent; lines = put_first k p.waiting s.lines })))
with_rests true images k waiting p s is passed old =
    let silent = (passed_on_does k waiting s.agent).does in
    let first = made_more images old.calls silent.more s.agent p.agent s.lines s.lines old.made (ap (λ (q : Passed). q.agent) is ∙ silent.agent) old.made.own old.made.opened_all in
    let r = emptied_run k p.agent in
    let b = agent_emptied k p.agent in
    let same = emptied_same k p.agent in
    let moves = moves_then k s.agent p.agent b passed.passes.moves (moves_none k p.agent b same.waits (λ full. same_full p.agent b same ∙ full)) in
    let Next : AgentValue → Type 0 = λ a. ComesTo (Rests images) (tells (closes k) (done (record { agent = a; lines = without_first k s.lines }))) in
    comes_then Next (Rests images) (gathered k p.agent) (λ a. tells (closes k) (done (record { agent = a; lines = without_first k s.lines })))
    (gathered_comes Next k p.agent
    (record {
      calls = _;
      made = made_more images _ r.more p.agent b s.lines (without_first k s.lines) first r.is (own_without k s.lines first.own) (opened_without images (old.calls ++ silent.more) k s.lines first.opened_all);
      none = λ isnt. subst AreNone (sym same.waits) (passed.none (sym (same_full p.agent b same) ∙ isnt));
      lines = all_others (RestsOn s.agent) (RestsOn b) k s.lines old.made.own (others_rest k s.agent b moves) old.lines;
    }))
    (λ a so. so)
with_rests false images k waiting p s is passed old =
    let silent = (passed_on_does k waiting s.agent).does in
    let next = put_first k p.waiting s.lines in
    record {
      calls = _;
      made = made_more images old.calls silent.more s.agent p.agent s.lines next old.made (ap (λ (q : Passed). q.agent) is ∙ silent.agent) (own_put k p.waiting s.lines old.made.own)
          (opened_put images old.calls k p.waiting s.lines old.made.opened_all);
      none = passed.none;
      lines = all_put (RestsOn s.agent) (RestsOn p.agent) k p.waiting s.lines old.made.own (others_rest k s.agent p.agent passed.passes.moves)
          (λ line at. subst (λ (n : ℕ). LineRests p.agent n p.waiting) (sym at) (record { small = passed.passes.small; passed = passed.passes.done; left = passed.passes.left })) old.lines;
    }

heard_by : (line : Option (List Came)) (images : List Image) (k : ℕ) (came : Came) (s : ServingValue) → size_of came ≤ 65536 → found k s.lines ≡ line → Rests images s → ComesTo (Rests images) (heard_first k came line s)
heard_by None images k came s small is old = old
heard_by (Some waiting) images k came s small is old =
    let all = waiting ++ came ∷ [] in
    let p = passed_on k all s.agent in
    let rested = all_found (LineRests s.agent) k waiting s.lines is old.lines in
    let passes = passes_on k all s.agent (all_push (λ (c : Came). size_of c ≤ 65536) waiting came rested.small small) (by_full (is_full s.agent) refl) in
    with_rests p.is_over images k all p s refl (record { passes = passes; none = λ isnt. none_after k s.agent p.agent passes.moves (old.none (wasnt_full s.agent p.agent passes.moves.full isnt)) (passes.none isnt) }) old
  where
    by_full : (flag : Bool) → is_full s.agent ≡ flag → Has k 100000 s.agent
    by_full true full = inl full
    by_full false isnt = let nothing = none_counted k (boxes s.agent.channels) (old.none isnt) in inr (omega (arith, nothing))

heard_rests : (images : List Image) (k : ℕ) (came : Came) (s : ServingValue) → size_of came ≤ 65536 → Rests images s → ComesTo (Rests images) (heard_on k came s)
heard_rests images k came s small old = subst (λ (p : Process ServingValue). ComesTo (Rests images) p) (sym (heard_is k came s)) (heard_by (found k s.lines) images k came s small refl old)

-- ---- nothing comes

tick_boxes : (thread : ContextId) (a : AgentValue) → boxes (ticked thread a).1.channels ≡ boxes a.channels
unfolding ticked after_input
tick_boxes thread a = by_full (is_full a) (instruction_tells thread a.target)
  where
    by_full : (full : Bool) (told : Option (List EventData)) → boxes (cond full (false, a) (ticked_by thread told a)).1.channels ≡ boxes a.channels
    by_full true told = refl
    by_full false None = refl
    by_full false (Some told) = told_kept told (a.position + 1) a.channels

pass_boxes : (threads : List ContextId) (left : ℕ) (a : AgentValue) → boxes (after_pass threads left a).channels ≡ boxes a.channels
pass_boxes [] left a = refl
pass_boxes (thread ∷ threads) left a = by_flag (left == 0) (pass_boxes threads (less_one (ticked thread a).0 left) (ticked thread a).1 ∙ tick_boxes thread a)
  where
    by_flag : (flag : Bool) → boxes (after_pass threads (less_one (ticked thread a).0 left) (ticked thread a).1).channels ≡ boxes a.channels
        → boxes (cond flag a (after_pass threads (less_one (ticked thread a).0 left) (ticked thread a).1)).channels ≡ boxes a.channels
    by_flag true rest = refl
    by_flag false rest = rest

passes_boxes : (passes left : ℕ) (a : AgentValue) → boxes (after_passes passes left a).channels ≡ boxes a.channels
unfolding after_passes
passes_boxes zero left a = refl
passes_boxes (suc passes) left a = passes_boxes passes (left_by_pass (threads_of a) left a) (after_pass (threads_of a) left a) ∙ pass_boxes (threads_of a) left a

idled_boxes : (a : AgentValue) → boxes (idled a).channels ≡ boxes a.channels
unfolding idled
idled_boxes a = passes_boxes 256 256 a

idled_full : (a : AgentValue) → is_full a ≡ true → is_full (idled a) ≡ true
unfolding idled
idled_full a = passes_full 256 256 a

idled_rests : (images : List Image) (s : ServingValue) → Rests images s → Rests images (record s { agent = idled s.agent })
idled_rests images s old =
    let silent = idled_silent s.agent in
    let same = idled_boxes s.agent in
    let full = idled_full s.agent in
    record {
      calls = _;
      made = made_more images old.calls silent.more s.agent (idled s.agent) s.lines s.lines old.made silent.agent old.made.own old.made.opened_all;
      none = λ isnt. subst AreNone (sym same) (old.none (wasnt_full s.agent (idled s.agent) full isnt));
      lines = lines_still s.agent (idled s.agent) s.lines (λ k. still_same k s.agent (idled s.agent) same full) old.lines;
    }

-- ---- after an event

record Rested (images : List Image) (s : ServingValue) : Type 0 where
  rests : Rests images s
  told : AllByRecursion (λ (line : Row (List Came)). queue_on line.channel s.agent ≡ []) s.lines

told_rested : (images : List Image) (s : ServingValue) → Rests images s → ComesTo (Rested images) (told s)
unfolding told
told_rested images s old =
    let b = all_emptied s.lines s.agent in
    let r = all_run s.lines s.agent in
    let same = all_same s.lines s.agent in
    let full : is_full s.agent ≡ true → is_full b ≡ true = λ is. same_full s.agent b same ∙ is in
    let Next : AgentValue → Type 0 = λ a. Rested images (record s { agent = a }) in
    comes_then Next (Rested images) (all_gathered s.lines s.agent) (λ a. done (record s { agent = a }))
    (all_come Next s.lines s.agent
    (record {
      rests = record {
        calls = _;
        made = made_more images old.calls r.more s.agent b s.lines s.lines old.made r.is old.made.own old.made.opened_all;
        none = λ isnt. subst AreNone (sym same.waits) (old.none (wasnt_full s.agent b full isnt));
        lines = lines_still s.agent b s.lines (λ k. still_same k s.agent b same.waits full) old.lines;
      };
      told = all_told s.lines s.agent;
    }))
    (λ a so. so)

acted_rests : (images : List Image) (event : WireEvent) (s : ServingValue) → IsTrue (can_come 0 event) → Rests images s → ComesTo (Rests images) (acted event s)
unfolding acted opened_on
acted_rests images (events.Opened channel) s can old = opened_rests (opened channel s.agent).0 images channel s refl old
acted_rests images (events.Piece channel bytes) s can old =
    let few : length bytes ≤ 65536 = leb-true (length bytes) 65536 (and_parts (nat_lt 0 (length bytes)) (nat_le (length bytes) 65536) can).1 in heard_rests images channel (Piece bytes) s few old
acted_rests images (events.Ended channel) s can old = heard_rests images channel TheEnd s (omega arith) old
acted_rests images (events.Lost channel) s can old = heard_rests images channel TheEnd s (omega arith) old
acted_rests images events.Idle s can old = idled_rests images s old
acted_rests images events.Stop s can old = old

event_rested : (images : List Image) (event : WireEvent) (s : ServingValue) → IsTrue (can_come 0 event) → Rested images s → ComesTo (Rested images) (handled event s)
unfolding handled
event_rested images event s can old =
    comes_then (Rests images) (Rested images) (acted event s) told (acted_rests images event s can old.rests) (λ next rests. told_rested images next rests)

-- ---- the law

line_left : (images : List Image) (s : ServingValue) → Rests images s → (line : Row (List Came)) → RestsOn s.agent line → queue_on line.channel s.agent ≡ [] → HasNothingLeft s.agent line.channel line.item
line_left images s old line rests told_all =
    record {
      taken = by_full (is_full s.agent) refl;
      emptied = λ isnt. waiting_is line.channel s.agent ∙ ap (λ (n : ℕ). min n (2 ^ 64 - 1)) (none_counted line.channel (boxes s.agent.channels) (old.none isnt)) ∙ zero-min (2 ^ 64 - 1);
      given = rests.left;
      passed = rests.passed;
      told = told_all;
    }
  where
    by_full : (full : Bool) → is_full s.agent ≡ full → (turned line.channel s.agent).0 ≡ Nothing
    by_full true is = ap (λ (p : Turned × AgentValue). p.0) (turned_full line.channel s.agent is)
    by_full false is = nothing_taken line.channel s.agent (none_counted line.channel (boxes s.agent.channels) (old.none is)) is

nothing_left : (images : List Image) (s : ServingValue) → Rested images s → AllByRecursion (λ (line : Row (List Came)). HasNothingLeft s.agent line.channel line.item) s.lines
nothing_left images s rested =
    all_both (RestsOn s.agent) (λ (line : Row (List Came)). queue_on line.channel s.agent ≡ []) (λ (line : Row (List Came)). HasNothingLeft s.agent line.channel line.item) s.lines
    (line_left images s rested.rests) rested.rests.lines rested.told

first_rested : (images : List Image) → Rested images (record { agent = new_agent images; lines = [] })
first_rested images = record { rests = record { calls = []; made = made_first images; none = λ isnt. tt; lines = tt }; told = tt }

pub leaves_nothing : LeavesNothing
leaves_nothing images heard can =
    nothing_left images (standing_in (after (served_agent images) heard)).served
    (stands_so (served_agent images) (Rested images) CanBeHeard (λ event s fits old. event_rested images event s fits old) (first_rested images) (first_rested images) heard can)
