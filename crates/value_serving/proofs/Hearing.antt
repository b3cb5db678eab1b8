-- What comes goes to its value-add, and what that has to send is queued.
use Rattle.std.proofs.Common.{◌≡◌, ℕ, ◌≤◌, Bool, true, false, List, [], ◌∷◌, ◌++◌, length, Option, Some, None, sym, subst, ◌<◌, ◌⊎◌, inl, inr, lt-ltb, le-ltb}
use Rattle.tcf_wires.specs.Told.{WiresSeen}
use Rattle.tcf_wires.specs.declared.call.WireCall.{WireCall}
use Rattle.tcf_wires.specs.declared.event.WireEvent.{WireEvent}
use Rattle.tcf_wires.specs.declared.event.WireEvent.TheVariants as events
use Rattle.serving_wires.proofs.Making.{makes_none, makes_so}
use Rattle.serving_wires.specs.Calls.{Makes}
use Rattle.serving_wires.specs.Row.{Row}
use Rattle.serving_wires.specs.Rows.{item_at, with_item_at}
use Rattle.serving_wires.specs.declared.intake.Came.{Came}
use Rattle.value_node.specs.ValueValue.{ValueValue}
use Rattle.value_node.specs.declared.states.Side.{Side}
use Rattle.value_node.specs.declared.states.Side.TheVariants.{Below, Above}
use Rattle.value_serving.specs.Adds.{bytes_for, emptied, is_over, new_add, waiting_on, waits, with_node}
use Rattle.serving_wires.specs.Going.{BreaksOff, Goes, here, told}
use Rattle.serving_wires.specs.Order.{closes, queues}
use Rattle.value_serving.specs.Passing.{closing, gathered, heard, passed_on, room_made, sent_above, sent_on, taken}
use Rattle.serving_wires.specs.Process.{Process, done, tells}
use Rattle.serving_wires.specs.Sending.{begun, closed_if, opened_by, ordered}
use Rattle.value_serving.specs.Serving.{handled, heard_at, heard_on, is_over_at, kept_unless, opened, unless_over, wire_of, with_adds}
use Rattle.value_serving.specs.ServingValue.{ServingValue}
use Rattle.value_serving.specs.declared.add.Add.{Add}
use Rattle.serving_wires.proofs.Leading.{broken_bound, broken_bound_behind, broken_both, goes_both, goes_bound, made_behind, made_both, stays_here}
use Rattle.serving_wires.proofs.Leading.{Rows}

abbrev Adds : Type 0
Adds = List (Row Add)

-- ---- messages are taken, from above and then from below

pub makes_room : (peer : List ℕ) (n m k above below : ℕ) (a b next : Add) (olds mids news : Rows) (seen seen1 seen2 : WiresSeen)
    → above ≡ waiting_on Above a → below ≡ waiting_on Below a → Makes (Goes peer n m (taken above a) (done b) olds mids) seen seen1
    → Makes (Goes peer m k (taken below b) (done next) mids news) seen1 seen2 → Makes (Goes peer n k (room_made a) (done next) olds news) seen seen2
unfolding room_made
makes_room peer n m k above below a b next olds mids news seen seen1 seen2 first then one two =
    made_both peer n m k (taken (waiting_on Above a) a) b (λ last. taken (waiting_on Below a) last) (done next) olds mids news seen seen1 seen2
    (subst (λ (x : ℕ). Makes (Goes peer n m (taken x a) (done b) olds mids) seen seen1) first one)
    (subst (λ (x : ℕ). Makes (Goes peer m k (taken x b) (done next) mids news) seen1 seen2) then two)

pub room_broken_first : (peer : List ℕ) (n above : ℕ) (a : Add) (olds : Rows) (seen seen1 : WiresSeen)
    → above ≡ waiting_on Above a → Makes (BreaksOff peer n (taken above a) olds) seen seen1 → Makes (BreaksOff peer n (room_made a) olds) seen seen1
unfolding room_made
room_broken_first peer n above a olds seen seen1 first one =
    broken_bound peer n (taken (waiting_on Above a) a) (λ last. taken (waiting_on Below a) last) olds seen seen1
    (subst (λ (x : ℕ). Makes (BreaksOff peer n (taken x a) olds) seen seen1) first one)

pub room_broken : (peer : List ℕ) (n m above below : ℕ) (a b : Add) (olds mids : Rows) (seen seen1 seen2 : WiresSeen)
    → above ≡ waiting_on Above a → below ≡ waiting_on Below a → Makes (Goes peer n m (taken above a) (done b) olds mids) seen seen1
    → Makes (BreaksOff peer m (taken below b) mids) seen1 seen2 → Makes (BreaksOff peer n (room_made a) olds) seen seen2
unfolding room_made
room_broken peer n m above below a b olds mids seen seen1 seen2 first then one two =
    broken_both peer n m (taken (waiting_on Above a) a) b (λ last. taken (waiting_on Below a) last) olds mids seen seen1 seen2
    (subst (λ (x : ℕ). Makes (Goes peer n m (taken x a) (done b) olds mids) seen seen1) first one)
    (subst (λ (x : ℕ). Makes (BreaksOff peer m (taken x b) mids) seen1 seen2) then two)

-- ---- what a side has to send is queued

closing_goes : (flag : Bool) (peer : List ℕ) (n channel : ℕ) (a : Add) (olds : Rows) → Goes peer n n (closing flag channel (done a)) (done a) olds (closed_if flag channel olds) []
closing_goes true peer n channel a olds = told n n (closes channel) (done a) (done a) olds (ordered (closes channel) olds) [] (here n (done a) (ordered (closes channel) olds))
closing_goes false peer n channel a olds = here n (done a) olds

abbrev pub sent_rows : Side → ℕ → ValueValue → Rows → Rows
sent_rows side channel v olds = closed_if (is_over side v.relay.bind) channel (ordered (queues channel (bytes_for side v)) olds)

sent_goes : (side : Side) (peer : List ℕ) (n channel : ℕ) (a : Add) (olds : Rows)
    → Goes peer n n (sent_on side channel a) (done (with_node (emptied side a.node) a)) olds (sent_rows side channel a.node olds) []
sent_goes side peer n channel a olds =
    let b : Add = with_node (emptied side a.node) a in
    told n n (queues channel (bytes_for side a.node)) (closing (is_over side a.node.relay.bind) channel (done b)) (done b) olds (sent_rows side channel a.node olds) []
    (closing_goes (is_over side a.node.relay.bind) peer n channel b (ordered (queues channel (bytes_for side a.node)) olds))

pub gathers_below : (peer : List ℕ) (n : ℕ) (a next : Add) (olds news : Rows) → a.above ≡ None → next ≡ with_node (emptied Below a.node) a → news ≡ sent_rows Below a.below a.node olds
    → Goes peer n n (gathered a) (done next) olds news []
unfolding gathered
gathers_below peer n a next olds news above is rows =
    rw (is, rows)
    (goes_both peer n n n (sent_on Below a.below a) (with_node (emptied Below a.node) a) (λ b. sent_above b.above b) (done (with_node (emptied Below a.node) a)) olds
    (sent_rows Below a.below a.node olds) (sent_rows Below a.below a.node olds) [] [] (sent_goes Below peer n a.below a olds)
    (subst (λ (o : Option ℕ). Goes peer n n (sent_above o (with_node (emptied Below a.node) a)) (done (with_node (emptied Below a.node) a)) (sent_rows Below a.below a.node olds) (sent_rows Below a.below a.node olds) [])
    (sym above) (here n (done (with_node (emptied Below a.node) a)) (sent_rows Below a.below a.node olds))))

pub gathers_both : (peer : List ℕ) (n channel : ℕ) (mid last : ValueValue) (a next : Add) (olds mids news : Rows) → a.above ≡ Some channel → mid ≡ emptied Below a.node
    → mids ≡ sent_rows Below a.below a.node olds → last ≡ emptied Above mid → news ≡ sent_rows Above channel mid mids → next ≡ with_node last a
    → Goes peer n n (gathered a) (done next) olds news []
unfolding gathered
gathers_both peer n channel mid last a next olds mids news above first rows then more is =
    let b : Add = with_node (emptied Below a.node) a in
    let olds2 : Rows = sent_rows Below a.below a.node olds in
    rw (is, more, then, rows, first)
    (goes_both peer n n n (sent_on Below a.below a) b (λ x. sent_above x.above x) (done (with_node (emptied Above b.node) b)) olds olds2 (sent_rows Above channel b.node olds2) [] []
    (sent_goes Below peer n a.below a olds)
    (subst (λ (o : Option ℕ). Goes peer n n (sent_above o b) (done (with_node (emptied Above b.node) b)) olds2 (sent_rows Above channel b.node olds2) []) (sym above) (sent_goes Above peer n channel b olds2)))

-- ---- something comes on a side

pub hears : (peer : List ℕ) (n m : ℕ) (side : Side) (what : Came) (a waiting b next : Add) (olds mids news : Rows) (seen seen1 : WiresSeen)
    → waiting ≡ waits side what a → Makes (Goes peer n m (passed_on waiting) (done b) olds mids) seen seen1 → Goes peer m m (gathered b) (done next) mids news []
    → Makes (Goes peer n m (heard side what a) (done next) olds news) seen seen1
unfolding heard
hears peer n m side what a waiting b next olds mids news seen seen1 is one two =
    made_behind peer n m (passed_on (waits side what a)) b gathered (done next) olds mids news seen seen1
    (subst (λ (x : Add). Makes (Goes peer n m (passed_on x) (done b) olds mids) seen seen1) is one) two

pub hears_in_part : (peer : List ℕ) (n : ℕ) (side : Side) (what : Came) (a waiting : Add) (olds : Rows) (seen seen1 : WiresSeen)
    → waiting ≡ waits side what a → Makes (BreaksOff peer n (passed_on waiting) olds) seen seen1 → Makes (BreaksOff peer n (heard side what a) olds) seen seen1
unfolding heard
hears_in_part peer n side what a waiting olds seen seen1 is one =
    broken_bound peer n (passed_on (waits side what a)) gathered olds seen seen1
    (subst (λ (x : Add). Makes (BreaksOff peer n (passed_on x) olds) seen seen1) is one)

pub hears_not_gathered : (peer : List ℕ) (n m : ℕ) (side : Side) (what : Came) (a waiting b : Add) (olds mids : Rows) (seen seen1 : WiresSeen)
    → waiting ≡ waits side what a → Makes (Goes peer n m (passed_on waiting) (done b) olds mids) seen seen1 → Makes (BreaksOff peer n (heard side what a) olds) seen seen1
unfolding heard
hears_not_gathered peer n m side what a waiting b olds mids seen seen1 is one =
    broken_bound_behind peer n m (passed_on (waits side what a)) b gathered olds mids seen seen1
    (subst (λ (x : Add). Makes (Goes peer n m (passed_on x) (done b) olds mids) seen seen1) is one)

-- ---- of the value-add at a place

pub heard_there : (peer : List ℕ) (n m place : ℕ) (side : Side) (what : Came) (a next : Add) (adds news_adds : Adds) (olds news : Rows) (seen seen1 : WiresSeen)
    → item_at place adds ≡ Some a → news_adds ≡ with_item_at place next adds → Makes (Goes peer n m (heard side what a) (done next) olds news) seen seen1
    → Makes (Goes peer n m (heard_at place side what adds) (done news_adds) olds news) seen seen1
unfolding heard_at
heard_there peer n m place side what a next adds news_adds olds news seen seen1 is written one =
    rw (is, written)
    (made_behind peer n m (heard side what a) next (λ last. done (with_item_at place last adds)) (done (with_item_at place next adds)) olds news news seen seen1 one
    (here m (done (with_item_at place next adds)) news))

pub heard_there_in_part : (peer : List ℕ) (n place : ℕ) (side : Side) (what : Came) (a : Add) (adds : Adds) (olds : Rows) (seen seen1 : WiresSeen)
    → item_at place adds ≡ Some a → Makes (BreaksOff peer n (heard side what a) olds) seen seen1 → Makes (BreaksOff peer n (heard_at place side what adds) olds) seen seen1
unfolding heard_at
heard_there_in_part peer n place side what a adds olds seen seen1 is one =
    rw is (broken_bound peer n (heard side what a) (λ last. done (with_item_at place last adds)) olds seen seen1 one)

pub heard_nowhere : (peer : List ℕ) (n place : ℕ) (side : Side) (what : Came) (adds : Adds) (olds : Rows) (seen : WiresSeen) → item_at place adds ≡ None
    → Makes (Goes peer n n (heard_at place side what adds) (done adds) olds olds) seen seen
unfolding heard_at
heard_nowhere peer n place side what adds olds seen is = rw is (makes_none (Goes peer n n (done adds) (done adds) olds olds) seen (here n (done adds) olds))

-- ---- on a channel

pub heard_so : (peer to : List ℕ) (n m channel place : ℕ) (side : Side) (what : Came) (adds mid last : Adds) (olds news : Rows) (seen seen1 : WiresSeen)
    → to ≡ peer → wire_of channel adds ≡ Some (place, side) → last ≡ kept_unless (is_over_at place mid) place mid
    → Makes (Goes to n m (heard_at place side what adds) (done mid) olds news) seen seen1 → Makes (Goes peer n m (heard_on channel what adds) (done last) olds news) seen seen1
unfolding heard_on
heard_so peer to n m channel place side what adds mid last olds news seen seen1 same is kept one =
    rw (is, kept)
    (made_behind peer n m (heard_at place side what adds) mid (unless_over place) (unless_over place mid) olds news news seen seen1
    (subst (λ (p : List ℕ). Makes (Goes p n m (heard_at place side what adds) (done mid) olds news) seen seen1) same one) (here m (unless_over place mid) news))

pub heard_in_part : (peer to : List ℕ) (n channel place : ℕ) (side : Side) (what : Came) (adds : Adds) (olds : Rows) (seen seen1 : WiresSeen)
    → to ≡ peer → wire_of channel adds ≡ Some (place, side) → Makes (BreaksOff to n (heard_at place side what adds) olds) seen seen1
    → Makes (BreaksOff peer n (heard_on channel what adds) olds) seen seen1
unfolding heard_on
heard_in_part peer to n channel place side what adds olds seen seen1 same is one =
    rw is
    (broken_bound peer n (heard_at place side what adds) (unless_over place) olds seen seen1
    (subst (λ (p : List ℕ). Makes (BreaksOff p n (heard_at place side what adds) olds) seen seen1) same one))

pub heard_of_none : (peer : List ℕ) (n channel : ℕ) (what : Came) (adds : Adds) (olds : Rows) (seen : WiresSeen) → wire_of channel adds ≡ None
    → Makes (Goes peer n n (heard_on channel what adds) (done adds) olds olds) seen seen
unfolding heard_on
heard_of_none peer n channel what adds olds seen is = rw is (makes_none (Goes peer n n (done adds) (done adds) olds olds) seen (here n (done adds) olds))

-- ---- a connection came

pub opens : (peer : List ℕ) (n channel : ℕ) (adds last : Adds) (a next : Add) (first olds news : Rows) → length adds < 64 → olds ≡ begun channel first → a ≡ new_add peer channel
    → Goes peer n n (gathered a) (done next) olds news [] → last ≡ adds ++ (record { channel = channel; item = next }) ∷ []
    → Goes peer n n (opened peer channel adds) (done last) (begun channel first) news []
unfolding opened
opens peer n channel adds last a next first olds news room begins is goes pushed =
    rw (lt-ltb (length adds) 64 room, pushed, ← begins)
    (goes_both peer n n n (gathered (new_add peer channel)) next (λ b. done (adds ++ (record { channel = channel; item = b }) ∷ []))
    (done (adds ++ (record { channel = channel; item = next }) ∷ [])) olds news news [] []
    (subst (λ (x : Add). Goes peer n n (gathered x) (done next) olds news []) is goes) (here n (done (adds ++ (record { channel = channel; item = next }) ∷ [])) news))

pub sends_away : (peer : List ℕ) (n channel : ℕ) (adds : Adds) (first olds mids news : Rows) → 64 ≤ length adds → olds ≡ begun channel first
    → mids ≡ ordered (queues channel (3 ∷ 2 ∷ [])) olds → news ≡ ordered (closes channel) mids → Goes peer n n (opened peer channel adds) (done adds) (begun channel first) news []
unfolding opened
sends_away peer n channel adds first olds mids news full begins queued last =
    rw (le-ltb (length adds) 64 full, ← begins)
    (told n n (queues channel (3 ∷ 2 ∷ [])) (tells (closes channel) (done adds)) (done adds) olds news []
    (told n n (closes channel) (done adds) (done adds) (ordered (queues channel (3 ∷ 2 ∷ [])) olds) news []
    (subst (λ (rows : Rows). Goes peer n n (done adds) (done adds) (ordered (closes channel) rows) news []) queued
    (subst (λ (rows : Rows). Goes peer n n (done adds) (done adds) (ordered (closes channel) mids) rows []) (sym last) (here n (done adds) (ordered (closes channel) mids))))))

-- ---- nothing came, or nothing more is to come

pub idles : (peer : List ℕ) (n : ℕ) (event : WireEvent) (v : ServingValue) (rows : Rows) (seen : WiresSeen) → (event ≡ events.Idle) ⊎ (event ≡ events.Stop)
    → Makes (Goes peer n n (handled event v) (done v) (opened_by event rows) rows) seen seen
unfolding handled
idles peer n event v rows seen (inl is) = rw is (stays_here peer n (done v) rows seen)
idles peer n event v rows seen (inr is) = rw is (stays_here peer n (done v) rows seen)

-- ---- of all that is served

pub with_all : (peer : List ℕ) (n m : ℕ) (v : ServingValue) (p : Process Adds) (last : Adds) (olds news : Rows) (calls : List WireCall) → Goes peer n m p (done last) olds news calls
    → Goes peer n m (with_adds v p) (done (record v { adds = last })) olds news calls
with_all peer n m v p last olds news calls goes = goes_bound peer n m p (done last) (λ adds. done (record v { adds = adds })) olds news calls goes

pub made_with_all : (peer : List ℕ) (n m : ℕ) (v : ServingValue) (p : Process Adds) (last : Adds) (olds news : Rows) (seen seen1 : WiresSeen)
    → Makes (Goes peer n m p (done last) olds news) seen seen1 → Makes (Goes peer n m (with_adds v p) (done (record v { adds = last })) olds news) seen seen1
made_with_all peer n m v p last olds news seen seen1 =
    makes_so (Goes peer n m p (done last) olds news) (Goes peer n m (with_adds v p) (done (record v { adds = last })) olds news) seen seen1
    (λ calls goes. with_all peer n m v p last olds news calls goes)

pub broken_with_all : (peer : List ℕ) (n : ℕ) (v : ServingValue) (p : Process Adds) (olds : Rows) (seen seen1 : WiresSeen)
    → Makes (BreaksOff peer n p olds) seen seen1 → Makes (BreaksOff peer n (with_adds v p) olds) seen seen1
broken_with_all peer n v p olds seen seen1 = broken_bound peer n p (λ adds. done (record v { adds = adds })) olds seen seen1
