-- A connection is asked for, and a message is taken.
use Rattle.std.proofs.Common.{◌≡◌, ℕ, suc, ◌+◌, ◌-◌, ◌<◌, ◌≤◌, Bool, true, false, List, [], ◌∷◌, ◌++◌, Option, Some, None, refl, sym, ap, ◌∙◌, subst, arith}
use Rattle.std.specs.Prelude.{Err, IfOk, Ok, if◌then◌else◌}
use Rattle.tcf_wires.specs.Event.{unused_after_connect}
use Rattle.tcf_wires.specs.Told.{WiresSeen, noted}
use Rattle.tcf_wires.specs.declared.call.WireCall.{WireCall}
use Rattle.tcf_wires.specs.declared.call.WireCall.TheVariants.{Connected}
use Rattle.tcf_wires.specs.declared.event.WireRefusal.{WireRefusal}
use Rattle.tcf_wires.specs.declared.event.WireRefusal.TheVariants.{Failed, NoMemory}
use Rattle.serving_wires.proofs.Making.{makes_both, makes_none, makes_nothing, makes_one, makes_so}
use Rattle.serving_wires.specs.Calls.{Makes}
use Rattle.value_node.specs.Value.{connect_failed}
use Rattle.value_node.specs.ValueValue.{ValueValue}
use Rattle.value_node.specs.declared.states.ValueTurn.{ValueTurn}
use Rattle.value_node.specs.declared.states.ValueTurn.TheVariants.{Nothing, Took, Connect}
use Rattle.value_serving.specs.Adds.{can_give, one_taken, with_node}
use Rattle.serving_wires.specs.Going.{BreaksOff, Goes, answered as goes_answered, here, told as goes_told}
use Rattle.value_serving.specs.Following.{BreaksOffBehind, GoesBehind}
use Rattle.serving_wires.specs.Order.{leaves}
use Rattle.value_serving.specs.Passing.{after_turn, answered, connected_on, leaving, taken}
use Rattle.serving_wires.specs.Process.{Answer, Process, asks, done}
use Rattle.serving_wires.specs.Sending.{begun, begun_by, left_for, ordered}
use Rattle.value_serving.specs.declared.add.Add.{Add}
use Rattle.serving_wires.proofs.Leading.{Rows, breaks_at_once, breaks_bound, breaks_then, goes_bound, goes_then}

abbrev pub question : Add → Process Add
question a = asks (λ answer. answered answer a)

-- ---- the answer of a connect

leaves_goes : (above : Option ℕ) (peer : List ℕ) (n : ℕ) (a : Add) (olds : Rows) → Goes peer n n (leaving above (done a)) (done a) olds (left_for above olds) []
leaves_goes None peer n a olds = here n (done a) olds
leaves_goes (Some earlier) peer n a olds = goes_told n n (leaves earlier) (done a) (done a) olds (ordered (leaves earlier) olds) [] (here n (done a) (ordered (leaves earlier) olds))

connects : (peer : List ℕ) (channel n : ℕ) (old : Add) (olds : Rows) → n ≤ channel
    → Goes peer n (channel + 1) (question old) (done (connected_on channel old)) olds (left_for old.above (begun channel olds)) (Connected peer (Ok channel) ∷ [])
connects peer channel n old olds fits =
    goes_answered n (channel + 1) (Ok channel) (λ answer. answered answer old) (done (connected_on channel old)) olds (left_for old.above (begun channel olds)) [] fits
    (leaves_goes old.above peer (channel + 1) (connected_on channel old) (begun channel olds))

pub connected_so : (peer : List ℕ) (channel : ℕ) (old new : Add) (olds news : Rows) (seen seen1 : WiresSeen) → seen.unused ≤ channel
    → seen1 ≡ noted {A = ℕ} (Ok channel) (Connected peer (Ok channel)) seen
    → new ≡ connected_on channel old → news ≡ left_for old.above (begun channel olds)
    → Makes (Goes peer seen.unused seen1.unused (question old) (done new) olds news) seen seen1
connected_so peer channel old new olds news seen seen1 fits asked is rows =
    let numbers : seen1.unused ≡ channel + 1 = ap (λ (s : WiresSeen). s.unused) asked in
    rw (is, rows)
    (subst (λ (n : ℕ). Makes (Goes peer seen.unused n (question old) (done (connected_on channel old)) olds (left_for old.above (begun channel olds))) seen seen1) (sym numbers)
    (makes_one (Goes peer seen.unused (channel + 1) (question old) (done (connected_on channel old)) olds (left_for old.above (begun channel olds))) (Connected peer (Ok channel)) seen seen1
    (connects peer channel seen.unused old olds fits) asked))

pub failed_so : (refusal : WireRefusal) (peer : List ℕ) (old new : Add) (olds : Rows) (seen seen1 : WiresSeen) → refusal ≡ Failed
    → seen1 ≡ noted {A = ℕ} (Err refusal) (Connected peer (Err refusal)) seen
    → new ≡ with_node (connect_failed old.node) old
    → Makes (Goes peer seen.unused seen1.unused (question old) (done new) olds olds) seen seen1
failed_so NoMemory peer old new olds seen seen1 failed asked is = absurd cc
failed_so Failed peer old new olds seen seen1 failed asked is =
    let n : ℕ = seen.unused in
    let numbers : seen1.unused ≡ n = ap (λ (s : WiresSeen). s.unused) asked in
    rw is
    (subst (λ (m : ℕ). Makes (Goes peer seen.unused m (question old) (done (with_node (connect_failed old.node) old)) olds olds) seen seen1) (sym numbers)
    (makes_one (Goes peer n n (question old) (done (with_node (connect_failed old.node) old)) olds olds) (Connected peer (Err Failed)) seen seen1
    (goes_answered n n (Err Failed) (λ answer. answered answer old) (done (with_node (connect_failed old.node) old)) olds olds [] tt (here n (done (with_node (connect_failed old.node) old)) olds))
    asked))

-- and then memory was wanting
breaks_answered : (peer : List ℕ) (answer : Answer) (n : ℕ) (old : Add) (olds : Rows) → IfOk answer (λ channel. n ≤ channel) → BreaksOff peer n (question old) olds (Connected peer answer ∷ [])
breaks_answered peer answer n old olds fits =
    record {
      later = unused_after_connect answer n;
      to = answered answer old;
      news = begun_by answer olds;
      goes = goes_answered n (unused_after_connect answer n) answer (λ a. answered a old) (answered answer old) olds (begun_by answer olds) [] fits
          (here (unused_after_connect answer n) (answered answer old) (begun_by answer olds));
    }

pub breaks_connected : (peer : List ℕ) (channel n : ℕ) (old : Add) (olds : Rows) (seen seen1 : WiresSeen) → n ≤ channel
    → seen1 ≡ noted {A = ℕ} (Ok channel) (Connected peer (Ok channel)) seen → Makes (BreaksOff peer n (question old) olds) seen seen1
breaks_connected peer channel n old olds seen seen1 fits asked =
    makes_one (BreaksOff peer n (question old) olds) (Connected peer (Ok channel)) seen seen1 (breaks_answered peer (Ok channel) n old olds fits) asked

pub breaks_failed : (refusal : WireRefusal) (peer : List ℕ) (n : ℕ) (old : Add) (olds : Rows) (seen seen1 : WiresSeen) → refusal ≡ Failed
    → seen1 ≡ noted {A = ℕ} (Err refusal) (Connected peer (Err refusal)) seen → Makes (BreaksOff peer n (question old) olds) seen seen1
breaks_failed NoMemory peer n old olds seen seen1 failed asked = absurd cc
breaks_failed Failed peer n old olds seen seen1 failed asked =
    makes_one (BreaksOff peer n (question old) olds) (Connected peer (Err Failed)) seen seen1 (breaks_answered peer (Err Failed) n old olds tt) asked

pub breaks_unasked : (refusal : WireRefusal) (peer : List ℕ) (n : ℕ) (old : Add) (olds : Rows) (seen seen1 : WiresSeen)
    → seen1 ≡ noted {A = ℕ} (Err refusal) (Connected peer (Err refusal)) seen → Makes (BreaksOff peer n (question old) olds) seen seen1
breaks_unasked Failed peer n old olds seen seen1 asked = breaks_failed Failed peer n old olds seen seen1 refl asked
breaks_unasked NoMemory peer n old olds seen seen1 asked =
    makes_nothing (BreaksOff peer n (question old) olds) seen seen1 (breaks_at_once peer n (question old) olds) asked

-- ---- a turn

turned_so : (peer : List ℕ) (n : ℕ) (turn : ValueTurn) (v : ValueValue) (old : Add) (olds : Rows) → (turn, v) ≡ one_taken old.node
    → (follows : Add → Process Add) → after_turn (one_taken old.node) old follows ≡ after_turn (turn, v) old follows
turned_so peer n turn v old olds is follows = ap (λ (x : ValueTurn × ValueValue). after_turn x old follows) (sym is)

pub nothing_taken : (peer : List ℕ) (n : ℕ) (turn : ValueTurn) (v : ValueValue) (old : Add) (olds : Rows) (seen : WiresSeen) → turn ≡ Nothing
    → (turn, v) ≡ one_taken old.node → Makes (GoesBehind peer n n old (with_node v old) false olds olds) seen seen
nothing_taken peer n turn v old olds seen nothing is =
    makes_none (GoesBehind peer n n old (with_node v old) false olds olds) seen
    (λ follows.
    subst (λ (p : Process Add). Goes peer n n p (done (with_node v old)) olds olds [])
    (sym (turned_so peer n turn v old olds is follows ∙ ap (λ (x : ValueTurn). after_turn (x, v) old follows) nothing)) (here n (done (with_node v old)) olds))

pub one_took : (peer : List ℕ) (n : ℕ) (turn : ValueTurn) (v : ValueValue) (old : Add) (olds : Rows) (seen : WiresSeen) → turn ≡ Took
    → (turn, v) ≡ one_taken old.node → Makes (GoesBehind peer n n old (with_node v old) true olds olds) seen seen
one_took peer n turn v old olds seen took is =
    makes_none (GoesBehind peer n n old (with_node v old) true olds olds) seen
    (λ follows.
    subst (λ (p : Process Add). Goes peer n n p (follows (with_node v old)) olds olds [])
    (sym (turned_so peer n turn v old olds is follows ∙ ap (λ (x : ValueTurn). after_turn (x, v) old follows) took)) (here n (follows (with_node v old)) olds))

pub one_connected : (peer : List ℕ) (n later : ℕ) (turn : ValueTurn) (v : ValueValue) (old new : Add) (olds news : Rows) (seen seen1 : WiresSeen) → turn ≡ Connect
    → (turn, v) ≡ one_taken old.node → Makes (Goes peer n later (question (with_node v old)) (done new) olds news) seen seen1
    → Makes (GoesBehind peer n later old new true olds news) seen seen1
one_connected peer n later turn v old new olds news seen seen1 connect is =
    makes_so (Goes peer n later (question (with_node v old)) (done new) olds news) (GoesBehind peer n later old new true olds news) seen seen1
    (λ calls goes follows.
    subst (λ (p : Process Add). Goes peer n later p (follows new) olds news calls)
    (sym (turned_so peer n turn v old olds is follows ∙ ap (λ (x : ValueTurn). after_turn (x, v) old follows) connect))
    (goes_bound peer n later (question (with_node v old)) (done new) follows olds news calls goes))

pub not_taken : (peer : List ℕ) (n : ℕ) (old : Add) (olds : Rows) (seen : WiresSeen) → Makes (BreaksOffBehind peer n old olds) seen seen
not_taken peer n old olds seen =
    makes_none (BreaksOffBehind peer n old olds) seen (λ follows. breaks_at_once peer n (after_turn (one_taken old.node) old follows) olds)

pub not_connected : (peer : List ℕ) (n : ℕ) (turn : ValueTurn) (v : ValueValue) (old : Add) (olds : Rows) (seen seen1 : WiresSeen) → turn ≡ Connect
    → (turn, v) ≡ one_taken old.node → Makes (BreaksOff peer n (question (with_node v old)) olds) seen seen1 → Makes (BreaksOffBehind peer n old olds) seen seen1
not_connected peer n turn v old olds seen seen1 connect is =
    makes_so (BreaksOff peer n (question (with_node v old)) olds) (BreaksOffBehind peer n old olds) seen seen1
    (λ calls b follows.
    subst (λ (p : Process Add). BreaksOff peer n p olds calls)
    (sym (turned_so peer n turn v old olds is follows ∙ ap (λ (x : ValueTurn). after_turn (x, v) old follows) connect))
    (breaks_bound peer n (question (with_node v old)) follows olds calls b))

-- ---- turns, one after the other

pub take_begins : (peer : List ℕ) (n count : ℕ) (a : Add) (rows : Rows) (seen : WiresSeen) → Makes (Goes peer n n (taken count a) (taken (count - 0) a) rows rows) seen seen
take_begins peer n count a rows seen =
    makes_none (Goes peer n n (taken count a) (taken (count - 0) a) rows rows) seen
    (let same : count ≡ count - 0 = omega arith in subst (λ (m : ℕ). Goes peer n n (taken count a) (taken m a) rows rows []) same (here n (taken count a) rows))

-- the next turn, and none where something that waits can be given
turn_next : (count counter : ℕ) (gives flag : Bool) (a : Add) → counter < count → gives ≡ can_give a → gives ≡ flag
    → taken (count - counter) a ≡ (if flag then done a else after_turn (one_taken a.node) a (λ next. taken (count - (counter + 1)) next))
turn_next count counter gives flag a less is so =
    let left : count - counter ≡ suc (count - (counter + 1)) = omega (arith, less) in
    ap (λ (x : ℕ). taken x a) left ∙ ap (λ (b : Bool). if b then done a else after_turn (one_taken a.node) a (λ next. taken (count - (counter + 1)) next)) (sym is ∙ so)

turn_behind : (peer : List ℕ) (n m k count counter : ℕ) (first old new : Add) (gives is_taken : Bool) (olds mids news : Rows) (calls more : List WireCall)
    → counter < count → gives ≡ can_give old → gives ≡ false
    → Goes peer n m (taken count first) (taken (count - counter) old) olds mids calls → GoesBehind peer m k old new is_taken mids news more
    → Goes peer n k (taken count first) (if is_taken then taken (count - (counter + 1)) new else done new) olds news (calls ++ more)
turn_behind peer n m k count counter first old new gives is_taken olds mids news calls more less is full goes turn =
    goes_then peer n m k (taken count first) (taken (count - counter) old) (if is_taken then taken (count - (counter + 1)) new else done new) olds mids news calls more goes
    (subst (λ (p : Process Add). Goes peer m k p (if is_taken then taken (count - (counter + 1)) new else done new) mids news more) (sym (turn_next count counter gives false old less is full))
    (turn (λ next. taken (count - (counter + 1)) next)))

pub take_next : (peer : List ℕ) (n m k count counter : ℕ) (first old new : Add) (gives is_taken : Bool) (olds mids news : Rows) (seen seen1 seen2 : WiresSeen)
    → counter < count → gives ≡ can_give old → gives ≡ false → is_taken ≡ true
    → Makes (Goes peer n m (taken count first) (taken (count - counter) old) olds mids) seen seen1 → Makes (GoesBehind peer m k old new is_taken mids news) seen1 seen2
    → Makes (Goes peer n k (taken count first) (taken (count - (counter + 1)) new) olds news) seen seen2
take_next peer n m k count counter first old new gives is_taken olds mids news seen seen1 seen2 less is full holds =
    makes_both (Goes peer n m (taken count first) (taken (count - counter) old) olds mids) (GoesBehind peer m k old new is_taken mids news)
    (Goes peer n k (taken count first) (taken (count - (counter + 1)) new) olds news) seen seen1 seen2
    (λ calls more goes turn.
    subst (λ (b : Bool). Goes peer n k (taken count first) (if b then taken (count - (counter + 1)) new else done new) olds news (calls ++ more)) holds
    (turn_behind peer n m k count counter first old new gives is_taken olds mids news calls more less is full goes turn))

pub take_stops : (peer : List ℕ) (n m k count counter : ℕ) (first old new : Add) (gives is_taken : Bool) (olds mids news : Rows) (seen seen1 seen2 : WiresSeen)
    → counter < count → gives ≡ can_give old → gives ≡ false → is_taken ≡ false
    → Makes (Goes peer n m (taken count first) (taken (count - counter) old) olds mids) seen seen1 → Makes (GoesBehind peer m k old new is_taken mids news) seen1 seen2
    → Makes (Goes peer n k (taken count first) (done new) olds news) seen seen2
take_stops peer n m k count counter first old new gives is_taken olds mids news seen seen1 seen2 less is full stays =
    makes_both (Goes peer n m (taken count first) (taken (count - counter) old) olds mids) (GoesBehind peer m k old new is_taken mids news)
    (Goes peer n k (taken count first) (done new) olds news) seen seen1 seen2
    (λ calls more goes turn.
    subst (λ (b : Bool). Goes peer n k (taken count first) (if b then taken (count - (counter + 1)) new else done new) olds news (calls ++ more)) stays
    (turn_behind peer n m k count counter first old new gives is_taken olds mids news calls more less is full goes turn))

-- something that waits can be given
pub take_waits : (peer : List ℕ) (n m count counter : ℕ) (first now : Add) (gives : Bool) (olds news : Rows) (seen seen1 : WiresSeen)
    → counter < count → gives ≡ can_give now → gives ≡ true
    → Makes (Goes peer n m (taken count first) (taken (count - counter) now) olds news) seen seen1 → Makes (Goes peer n m (taken count first) (done now) olds news) seen seen1
take_waits peer n m count counter first now gives olds news seen seen1 less is so =
    makes_so (Goes peer n m (taken count first) (taken (count - counter) now) olds news) (Goes peer n m (taken count first) (done now) olds news) seen seen1
    (λ calls goes. subst (λ (p : Process Add). Goes peer n m (taken count first) p olds news calls) (turn_next count counter gives true now less is so) goes)

pub take_ends : (peer : List ℕ) (n m count counter : ℕ) (first now : Add) (olds news : Rows) (seen seen1 : WiresSeen) → count ≤ counter
    → Makes (Goes peer n m (taken count first) (taken (count - counter) now) olds news) seen seen1 → Makes (Goes peer n m (taken count first) (done now) olds news) seen seen1
take_ends peer n m count counter first now olds news seen seen1 past =
    makes_so (Goes peer n m (taken count first) (taken (count - counter) now) olds news) (Goes peer n m (taken count first) (done now) olds news) seen seen1
    (λ calls goes. let none : count - counter ≡ 0 = omega (arith, past) in subst (λ (x : ℕ). Goes peer n m (taken count first) (taken x now) olds news calls) none goes)

pub take_breaks : (peer : List ℕ) (n m count counter : ℕ) (first old : Add) (gives : Bool) (olds mids : Rows) (seen seen1 seen2 : WiresSeen)
    → counter < count → gives ≡ can_give old → gives ≡ false
    → Makes (Goes peer n m (taken count first) (taken (count - counter) old) olds mids) seen seen1 → Makes (BreaksOffBehind peer m old mids) seen1 seen2
    → Makes (BreaksOff peer n (taken count first) olds) seen seen2
take_breaks peer n m count counter first old gives olds mids seen seen1 seen2 less is full =
    makes_both (Goes peer n m (taken count first) (taken (count - counter) old) olds mids) (BreaksOffBehind peer m old mids) (BreaksOff peer n (taken count first) olds) seen seen1 seen2
    (λ calls more goes breaks.
    breaks_then peer n m (taken count first) (taken (count - counter) old) olds mids calls more goes
    (subst (λ (p : Process Add). BreaksOff peer m p mids more) (sym (turn_next count counter gives false old less is full)) (breaks (λ next. taken (count - (counter + 1)) next))))
