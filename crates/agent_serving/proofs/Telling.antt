-- What the agent tells is queued, message by message and channel by channel.
use Rattle.std.proofs.Common.{◌≡◌, ℕ, zero, suc, ◌+◌, ◌≤◌, Bool, true, false, List, [], ◌∷◌, ◌++◌, length, None, Some, refl, sym, ap, ◌∙◌, subst, arith}
use Rattle.std.specs.Prelude.{Err, Ok, OnOk, Result, drop, remove}
use Rattle.std.proofs.lemmas.Option.{none-some, same_Some}
use Rattle.channel_core.specs.declared.held.Outgoing.{Outgoing}
use Rattle.tcf_wires.specs.declared.event.WireEvent.{WireEvent}
use Rattle.tcf_wires.specs.declared.event.WireEvent.TheVariants as events
use Rattle.agent_node.specs.Agent.{after_giving, given, opened}
use Rattle.agent_node.specs.AgentValue.{AgentValue}
use Rattle.serving_wires.specs.Going.{Goes, here, told as has_told}
use Rattle.serving_wires.specs.Order.{Order, closes, queues}
use Rattle.serving_wires.specs.Process.{Process, and_then, done, tells}
use Rattle.serving_wires.specs.Row.{Row}
use Rattle.serving_wires.specs.Rows.{channel_at, place_of}
use Rattle.serving_wires.specs.Sending.{opened_by, ordered}
use Rattle.serving_wires.specs.declared.intake.Came.{Came}
use Rattle.serving_wires.proofs.Leading.{Rows, goes_both, goes_then}
use Rattle.agent_serving.specs.Gathering.{agent_emptied, all_gathered, gathered, queue_on, sends}
use Rattle.agent_serving.specs.Serving.{acted, handled, heard_on, opened_as, opened_on, passed_at, told, unless_over}
use Rattle.agent_serving.specs.ServingValue.{ServingValue}
use Rattle.agent_serving.specs.Ticking.{idled}
use Rattle.agent_serving.proofs.Queued.{agent_goes_on, agent_is_done}
use Rattle.agent_serving.proofs.Rows.{Lines}

-- ---- a process that goes on with no call

abbrev pub Alone : {A : Type 0} → Process A → Process A → Rows → Rows → Type 0
Alone p q olds news = (unused : ℕ) → Goes [] unused unused p q olds news []

pub alone_none : {A : Type 0} → (p : Process A) (rows : Rows) → Alone p p rows rows
alone_none p rows = λ unused. here unused p rows

pub alone_then : {A : Type 0} → (p q r : Process A) (olds mids news : Rows) → Alone p q olds mids → Alone q r mids news → Alone p r olds news
alone_then p q r olds mids news one two = λ unused. goes_then [] unused unused unused p q r olds mids news [] [] (one unused) (two unused)

pub alone_told : {A : Type 0} → (order : Order) (p : Process A) (olds news : Rows) → news ≡ ordered order olds → Alone (tells order p) p olds news
alone_told order p olds news is = λ unused. has_told unused unused order p p olds news [] (subst (λ (rows : Rows). Goes [] unused unused p p rows news []) is (here unused p news))

pub alone_both : {A B : Type 0} → (p : Process A) (a : A) (later : A → Process B) (r : Process B) (olds mids news : Rows) → Alone p (done a) olds mids → Alone (later a) r mids news
    → Alone (and_then p later) r olds news
alone_both p a later r olds mids news one two = λ unused. goes_both [] unused unused unused p a later r olds mids news [] [] (one unused) (two unused)

-- ---- one channel

pub gathers_one : (k : ℕ) (first a next : AgentValue) (out : Outgoing) (olds mids news : Rows) → given k a ≡ Some out → next ≡ after_giving k a → news ≡ ordered (queues k out.bytes) mids
    → Alone (gathered k first) (gathered k a) olds mids → Alone (gathered k first) (gathered k next) olds news
gathers_one k first a next out olds mids news gives is queued so =
    let goes = agent_goes_on k a next out gives is in
    let same : gathered k a ≡ tells (queues k out.bytes) (gathered k next) =
    ap (λ (outs : List Outgoing). sends k outs (agent_emptied k a)) goes.queue ∙ ap (λ (x : AgentValue). tells (queues k out.bytes) (sends k (queue_on k next) x)) (sym goes.same) in
    alone_then (gathered k first) (gathered k a) (gathered k next) olds mids news so
    (subst (λ (p : Process AgentValue). Alone p (gathered k next) mids news) (sym same) (alone_told (queues k out.bytes) (gathered k next) mids news queued))

pub gathers_none : (k : ℕ) (first a next : AgentValue) (olds news : Rows) → given k a ≡ None → next ≡ after_giving k a → Alone (gathered k first) (gathered k a) olds news
    → Alone (gathered k first) (done next) olds news
gathers_none k first a next olds news gives is so =
    let d = agent_is_done k a next gives is in
    let same : gathered k a ≡ done next = ap (λ (outs : List Outgoing). sends k outs (agent_emptied k a)) d.queue ∙ ap (λ (x : AgentValue). done x) (sym d.same) in
    subst (λ (p : Process AgentValue). Alone (gathered k first) p olds news) same so

-- ---- all channels, from a place on

next_place : (place : ℕ) → suc place ≡ place + 1
next_place place = omega arith

record IsAt (place k : ℕ) (lines : Lines) : Type 0 where
  line : Row (List Came)
  split : drop place lines ≡ line ∷ drop (suc place) lines
  is : line.channel ≡ k

is_at : (place k : ℕ) (lines : Lines) → channel_at place lines ≡ Some k → IsAt place k lines
is_at place k [] there = absurd (none-some k there)
is_at zero k (line ∷ lines) there = record { line = line; split = refl; is = same_Some line.channel k there }
is_at (suc place) k (line ∷ lines) there = let at = is_at place k lines there in record { line = at.line; split = at.split; is = at.is }

abbrev no_lines : Lines
no_lines = []

drop_none : (place : ℕ) → drop place no_lines ≡ []
drop_none zero = refl
drop_none (suc place) = refl

drop_past : (place : ℕ) (lines : Lines) → length lines ≤ place → drop place lines ≡ []
drop_past place [] past = drop_none place
drop_past zero (line ∷ lines) past = absurd (omega (arith, past))
drop_past (suc place) (line ∷ lines) past = drop_past place lines (omega (arith, past))

none_at : (place : ℕ) (lines : Lines) → channel_at place lines ≡ None → (drop place lines ≡ []) × (drop (suc place) lines ≡ [])
none_at place [] missing = (drop_none place, drop_none (suc place))
none_at zero (line ∷ lines) missing = absurd (none-some line.channel (sym missing))
none_at (suc place) (line ∷ lines) missing = none_at place lines missing

abbrev pub Rest : ℕ → Lines → AgentValue → Process AgentValue
Rest place lines a = all_gathered (drop place lines) a

pub gathers_next : (place k : ℕ) (lines : Lines) (first a next : AgentValue) (olds mids news : Rows) → channel_at place lines ≡ Some k → Alone (gathered k a) (done next) mids news
    → Alone (all_gathered lines first) (Rest place lines a) olds mids → Alone (all_gathered lines first) (Rest (place + 1) lines next) olds news
gathers_next place k lines first a next olds mids news there one so =
    let at = is_at place k lines there in
    let rest = drop (suc place) lines in
    let same : Rest place lines a ≡ and_then (gathered k a) (λ b. all_gathered rest b) =
    ap (λ (ls : Lines). all_gathered ls a) at.split ∙ ap (λ (n : ℕ). and_then (gathered n a) (λ b. all_gathered rest b)) at.is in
    subst (λ (n : ℕ). Alone (all_gathered lines first) (Rest n lines next) olds news) (next_place place)
    (alone_then (all_gathered lines first) (Rest place lines a) (all_gathered rest next) olds mids news so
    (subst (λ (p : Process AgentValue). Alone p (all_gathered rest next) mids news) (sym same)
    (alone_both (gathered k a) next (λ b. all_gathered rest b) (all_gathered rest next) mids news news one (alone_none (all_gathered rest next) news))))

pub gathers_nowhere : (place : ℕ) (lines : Lines) (first a : AgentValue) (olds mids : Rows) → channel_at place lines ≡ None → Alone (all_gathered lines first) (Rest place lines a) olds mids
    → Alone (all_gathered lines first) (Rest (place + 1) lines a) olds mids
gathers_nowhere place lines first a olds mids missing so =
    let none = none_at place lines missing in
    subst (λ (n : ℕ). Alone (all_gathered lines first) (Rest n lines a) olds mids) (next_place place)
    (subst (λ (ls : Lines). Alone (all_gathered lines first) (all_gathered ls a) olds mids) (none.0 ∙ sym none.1) so)

pub gathers_done : (place end : ℕ) (lines : Lines) (first a : AgentValue) (olds mids : Rows) → end ≡ length lines → end ≤ place → Alone (all_gathered lines first) (Rest place lines a) olds mids
    → Alone (all_gathered lines first) (done a) olds mids
gathers_done place end lines first a olds mids all past so =
    subst (λ (ls : Lines). Alone (all_gathered lines first) (all_gathered ls a) olds mids) (drop_past place lines (omega (arith, all, past))) so

-- ---- a peer connected

pub opens_line : (k : ℕ) (s : ServingValue) (did : Bool) (a : AgentValue) (lines : Lines) (rows : Rows) → (did, a) ≡ opened k s.agent → did ≡ true → lines ≡ s.lines ++ (record { channel = k; item = [] }) ∷ []
    → Alone (opened_on k s) (done (record { agent = a; lines = lines })) rows rows
unfolding opened_on
opens_line k s did a lines rows is did_so more =
    subst (λ (p : Bool × AgentValue). Alone (opened_as k p s) (done (record { agent = a; lines = lines })) rows rows) is
    (rw (did_so, more) (alone_none (done (record { agent = a; lines = s.lines ++ (record { channel = k; item = [] }) ∷ [] })) rows))

pub refuses_line : (k : ℕ) (s : ServingValue) (did : Bool) (a : AgentValue) (olds mids news : Rows) → (did, a) ≡ opened k s.agent → did ≡ false → mids ≡ ordered (queues k (3 ∷ 2 ∷ [])) olds
    → news ≡ ordered (closes k) mids → Alone (opened_on k s) (done (record s { agent = a })) olds news
unfolding opened_on
refuses_line k s did a olds mids news is didnt queued closed =
    let last : Process ServingValue = done (record s { agent = a }) in
    subst (λ (p : Bool × AgentValue). Alone (opened_as k p s) last olds news) is
    (rw didnt
    (alone_then (tells (queues k (3 ∷ 2 ∷ [])) (tells (closes k) last)) (tells (closes k) last) last olds mids news (alone_told (queues k (3 ∷ 2 ∷ [])) (tells (closes k) last) olds mids queued)
    (alone_told (closes k) last mids news closed)))

-- ---- something came

pub hears_nowhere : (k : ℕ) (came : Came) (s : ServingValue) (rows : Rows) → place_of k s.lines ≡ None → Alone (heard_on k came s) (done s) rows rows
unfolding heard_on
hears_nowhere k came s rows none = rw none (alone_none (done s) rows)

pub hears_on : (k place : ℕ) (came : Came) (s next : ServingValue) (over : Bool) (rows : Rows) → place_of k s.lines ≡ Some place → (over, next) ≡ passed_at place k came s → over ≡ false
    → Alone (heard_on k came s) (done next) rows rows
unfolding heard_on
hears_on k place came s next over rows there is not_over =
    rw there (subst (λ (p : Bool × ServingValue). Alone (unless_over place k p) (done next) rows rows) is (rw not_over (alone_none (done next) rows)))

pub hears_last : (k place : ℕ) (came : Came) (s next : ServingValue) (over : Bool) (a : AgentValue) (lines : Lines) (olds mids news : Rows) → place_of k s.lines ≡ Some place
    → (over, next) ≡ passed_at place k came s → over ≡ true → Alone (gathered k next.agent) (done a) olds mids → news ≡ ordered (closes k) mids → lines ≡ remove next.lines place
    → Alone (heard_on k came s) (done (record { agent = a; lines = lines })) olds news
unfolding heard_on
hears_last k place came s next over a lines olds mids news there is did_so all closed gone =
    let last : Process ServingValue = done (record { agent = a; lines = remove next.lines place }) in
    rw (there, gone)
    (subst (λ (p : Bool × ServingValue). Alone (unless_over place k p) last olds news) is
    (rw did_so
    (alone_both (gathered k next.agent) a (λ b. tells (closes k) (done (record { agent = b; lines = remove next.lines place }))) last olds mids news all (alone_told (closes k) last mids news closed))))

-- ---- an event

pub heeds : (event : WireEvent) (old mid : ServingValue) (a : AgentValue) (olds mids news : Rows) → Alone (acted event old) (done mid) olds mids → Alone (all_gathered mid.lines mid.agent) (done a) mids news
    → Alone (handled event old) (done (record mid { agent = a })) olds news
unfolding handled told
heeds event old mid a olds mids news one two =
    alone_both (acted event old) mid told (done (record mid { agent = a })) olds mids news one
    (alone_both (all_gathered mid.lines mid.agent) a (λ b. done (record mid { agent = b })) (done (record mid { agent = a })) mids news news two (alone_none (done (record mid { agent = a })) news))

-- nothing came, and threads go on; or nothing more does
pub idles : (event : WireEvent) (s : ServingValue) (a : AgentValue) (rows : Rows) → event ≡ events.Idle → a ≡ idled s.agent → Alone (acted event s) (done (record s { agent = a })) (opened_by event rows) rows
unfolding acted
idles event s a rows is same = rw (is, same) (alone_none (done (record s { agent = idled s.agent })) rows)

pub stops : (event : WireEvent) (s : ServingValue) (rows : Rows) → event ≡ events.Stop → Alone (acted event s) (done s) (opened_by event rows) rows
unfolding acted
stops event s rows is = rw is (alone_none (done s) rows)

pub on_ok_so : {A E : Type 0} (result : Result A E) (P R : Type 0) → (P → R) → OnOk result P → OnOk result R
on_ok_so (Ok value) P R so p = so p
on_ok_so (Err error) P R so p = tt
