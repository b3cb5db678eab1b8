-- A value-add by its calls so far, and what passed on its sides in them.
use Rattle.std.proofs.Common.{◌≡◌, ℕ, Bool, true, false, List, [], ◌∷◌, ◌++◌, length, Option, Some, None, refl, ap, sym, ◌∙◌, subst, arith, append_assoc, length-append}
use Rattle.std.specs.Prelude.{if◌then◌else◌, is_some, option_map, slice_get}
use Rattle.std.proofs.lemmas.List.Sums.{fold-append}
use Rattle.channel_core.specs.Closing.{is_closed}
use Rattle.channel_core.specs.Runs.{Run, after_calls as end_after}
use Rattle.channel_core.specs.declared.held.Outgoing.{Outgoing}
use Rattle.channel_core.proofs.TheLaws.{queues_in_order, stays_closed}
use Rattle.value_node.specs.ForwardedValue.{ForwardedValue}
use Rattle.value_node.specs.Passing.{Upper}
use Rattle.value_node.specs.RelayLaws.{EndsAreRuns, StandsWell}
use Rattle.value_node.specs.Runs.{Call, Past, UpperCall, ValueRun, after_all, bytes_end, called, comes, connects, fails, gives, no_calls, turns, upper_after, upper_on}
use Rattle.value_node.specs.Value.{after_giving, awaits, connected, given, is_free, new_value, value_services}
use Rattle.value_node.specs.ValueValue.{ValueValue}
use Rattle.value_node.specs.declared.relay.Relay.{Relay}
use Rattle.value_node.specs.declared.states.Bind.{Bind}
use Rattle.value_node.specs.declared.states.Bind.TheVariants.{Unbound, Opening, Bound, Closed}
use Rattle.value_node.specs.declared.states.Side.{Side}
use Rattle.value_node.specs.declared.states.Side.TheVariants.{Below, Above}
use Rattle.value_node.proofs.Pasts.{after_both}
use Rattle.value_node.proofs.Steps.{called_whole, end_ran, ran, ran_by, upper_runs, whole}
use Rattle.value_node.proofs.TheLaws.{ends_are_runs}
use Rattle.value_serving.specs.Adds.{emptied, is_over, queue_on}
use Rattle.value_serving.specs.Served.{Passage, Passed, after_call, after_calls, new_passage, nothing_passed, with_got, with_given}
use Rattle.value_serving.proofs.Agreeing.{none_linked, passages_agree}
use Rattle.value_serving.proofs.Emptying.{last_of, next_of}
use Rattle.value_serving.proofs.Giving.{IsQuiet, given_after, upper_puts}

pub record Made (peer : List ℕ) (node : ValueValue) (low : Passed) (high : Option Passed) : Type 0 where
  pub calls : List Call
  pub is : after_calls peer calls ≡ record { node = node; below = low; above = high }

pub made_new : (peer : List ℕ) → Made peer (new_value peer) nothing_passed None
made_new peer = record { calls = []; is = refl }

-- ---- one call more

abbrev IsMade : List ℕ → Passage → Type 0
IsMade peer p = Made peer p.node p.below p.above

made_more : (peer : List ℕ) (call : Call) (node : ValueValue) (low : Passed) (high : Option Passed) → Made peer node low high
    → IsMade peer (after_call (record { node = node; below = low; above = high }) call)
made_more peer call node low high m =
    record {
      calls = m.calls ++ call ∷ [];
      is = fold-append after_call (new_passage peer) m.calls (call ∷ []) ∙ ap (λ (p : Passage). after_call p call) m.is;
    }

-- calls by which nothing passes, and no wire opens
abbrev pub IsStill : Call → Type 0
IsStill (comes side piece mark) = ⊥
IsStill (bytes_end side) = Unit {0}
IsStill (turns side) = Unit {0}
IsStill connects = ⊥
IsStill fails = Unit {0}
IsStill (gives side) = ⊥

pub still_quiet : (call : Call) → IsStill call → IsQuiet call
still_quiet (comes side piece mark) still = absurd still
still_quiet (bytes_end side) still = tt
still_quiet (turns side) still = tt
still_quiet connects still = absurd still
still_quiet fails still = tt
still_quiet (gives side) still = absurd still

pub made_still : (peer : List ℕ) (call : Call) (node : ValueValue) (low : Passed) (high : Option Passed) → IsStill call → Made peer node low high → Made peer (called call node) low high
made_still peer (comes side piece mark) node low high still m = absurd still
made_still peer (bytes_end side) node low high still m = made_more peer (bytes_end side) node low high m
made_still peer (turns side) node low high still m = made_more peer (turns side) node low high m
made_still peer connects node low high still m = absurd still
made_still peer fails node low high still m = made_more peer fails node low high m
made_still peer (gives side) node low high still m = absurd still

-- a side changes
abbrev pub low_by : Side → (Passed → Passed) → Passed → Passed
low_by Below change low = change low
low_by Above change low = low

abbrev pub high_by : Side → (Passed → Passed) → Option Passed → Option Passed
high_by Below change high = high
high_by Above change high = option_map change high

pub made_came : (peer : List ℕ) (side : Side) (piece : List ℕ) (node : ValueValue) (low : Passed) (high : Option Passed) → Made peer node low high
    → Made peer (called (comes side piece None) node) (low_by side (with_got piece) low) (high_by side (with_got piece) high)
made_came peer Below piece node low high m = made_more peer (comes Below piece None) node low high m
made_came peer Above piece node low high m = made_more peer (comes Above piece None) node low high m

made_gives : (peer : List ℕ) (side : Side) (node : ValueValue) (low : Passed) (high : Option Passed) → Made peer node low high
    → Made peer (after_giving side node) (low_by side (with_given (given side node)) low) (high_by side (with_given (given side node)) high)
made_gives peer Below node low high m = made_more peer (gives Below) node low high m
made_gives peer Above node low high m = made_more peer (gives Above) node low high m

-- ---- a connection

connected_by : (flag : Bool) (peer : List ℕ) (p : Passage) → flag ≡ true → IsMade peer (record (if flag then record p { above = Some nothing_passed } else p) { node = connected p.node })
    → Made peer (connected p.node) p.below (Some nothing_passed)
connected_by true peer p on m = m
connected_by false peer p on m = absurd cc

pub made_connected : (peer : List ℕ) (node : ValueValue) (low : Passed) (high : Option Passed) → awaits node.relay ≡ true → Made peer node low high
    → Made peer (connected node) low (Some nothing_passed)
made_connected peer node low high on m =
    connected_by (awaits node.relay) peer (record { node = node; below = low; above = high }) on (made_more peer connects node low high m)

-- ---- all of them are

abbrev first_in : List Outgoing → Option Outgoing
first_in [] = None
first_in (out ∷ outs) = Some out

first_is : (outs : List Outgoing) → slice_get outs 0 ≡ first_in outs
first_is [] = refl
first_is (out ∷ outs) = refl

upper_first : (upper : Option Upper) (v : Relay) → given Above (whole (record v { upper = upper })) ≡ first_in (queue_on Above (whole (record v { upper = upper })))
upper_first None v = refl
upper_first (Some e) v = first_is e.queued

given_first_by : (spent : Bool) (side : Side) (v : Relay) → given side (record { relay = v; is_spent = spent }) ≡ first_in (queue_on side (record { relay = v; is_spent = spent }))
given_first_by true side v = refl
given_first_by false Below v = first_is v.lower.queued
given_first_by false Above v = upper_first v.upper v

given_first : (side : Side) (value : ValueValue) → given side value ≡ first_in (queue_on side value)
given_first side value = given_first_by value.is_spent side value.relay

abbrev pub with_all : List Outgoing → Passed → Passed
with_all outs s = record s { gave = s.gave ++ outs }

all_more : (s : Passed) (out : Outgoing) (outs : List Outgoing) → with_all outs (with_given (Some out) s) ≡ with_all (out ∷ outs) s
all_more s out outs = ap (λ (gave : List Outgoing). record s { gave = gave }) (append_assoc s.gave (out ∷ []) outs)

low_more : (side : Side) (low : Passed) (out : Outgoing) (outs : List Outgoing) → low_by side (with_all outs) (low_by side (with_given (Some out)) low) ≡ low_by side (with_all (out ∷ outs)) low
low_more Below low out outs = all_more low out outs
low_more Above low out outs = refl

high_more : (side : Side) (high : Option Passed) (out : Outgoing) (outs : List Outgoing)
    → high_by side (with_all outs) (high_by side (with_given (Some out)) high) ≡ high_by side (with_all (out ∷ outs)) high
high_more Below high out outs = refl
high_more Above None out outs = refl
high_more Above (Some s) out outs = ap (λ (now : Passed). Some now) (all_more s out outs)

emptied_by : (outs : List Outgoing) (peer : List ℕ) (side : Side) (node : ValueValue) (low : Passed) (high : Option Passed) → queue_on side node ≡ outs → Made peer node low high
    → Made peer (emptied side node) (low_by side (with_all outs) low) (high_by side (with_all outs) high)
emptied_by [] peer side node low high is m =
    let none : given side node ≡ None = given_first side node ∙ ap first_in is in
    let l = last_of side node none in
    subst (λ (x : ValueValue). Made peer x (low_by side (with_all []) low) (high_by side (with_all []) high)) l.same
    (subst (λ (o : Option Outgoing). Made peer (after_giving side node) (low_by side (with_given o) low) (high_by side (with_given o) high)) none (made_gives peer side node low high m))
emptied_by (out ∷ outs) peer side node low high is m =
    let some : given side node ≡ Some out = given_first side node ∙ ap first_in is in
    let n = next_of side node out some in
    let next = after_giving side node in
    let whole_queue : out ∷ queue_on side next ≡ out ∷ outs = sym n.queue ∙ is in
    let rest : queue_on side next ≡ outs = cc in
    let low_then = low_by side (with_given (Some out)) low in
    let high_then = high_by side (with_given (Some out)) high in
    let first : Made peer next low_then high_then =
    subst (λ (o : Option Outgoing). Made peer next (low_by side (with_given o) low) (high_by side (with_given o) high)) some (made_gives peer side node low high m) in
    let all = emptied_by outs peer side next low_then high_then rest first in
    subst (λ (x : ValueValue). Made peer x (low_by side (with_all (out ∷ outs)) low) (high_by side (with_all (out ∷ outs)) high)) n.same
    (subst (λ (s : Passed). Made peer (emptied side next) s (high_by side (with_all (out ∷ outs)) high)) (low_more side low out outs)
    (subst (λ (s : Option Passed). Made peer (emptied side next) (low_by side (with_all outs) low_then) s) (high_more side high out outs) all))

pub made_emptied : (peer : List ℕ) (side : Side) (node : ValueValue) (low : Passed) (high : Option Passed) → Made peer node low high
    → Made peer (emptied side node) (low_by side (with_all (queue_on side node)) low) (high_by side (with_all (queue_on side node)) high)
made_emptied peer side node low high m = emptied_by (queue_on side node) peer side node low high refl m

-- ---- it is what its run is

node_of : (peer : List ℕ) (node : ValueValue) (low : Passed) (high : Option Passed) → (m : Made peer node low high) → node ≡ (after_all m.calls (no_calls peer)).value
node_of peer node low high m = ap (λ (p : Passage). p.node) (sym m.is) ∙ (passages_agree peer m.calls).node

pub unspent : (peer : List ℕ) (node : ValueValue) (low : Passed) (high : Option Passed) → Made peer node low high → node.is_spent ≡ false
unspent peer node low high m = ap (λ (x : ValueValue). x.is_spent) (node_of peer node low high m) ∙ (ends_are_runs peer m.calls).unspent

-- ---- a closed upper end that has nothing to send stays so until a connection

abbrev pub IsSilent : Option Upper → Type 0
IsSilent None = Unit {0}
IsSilent (Some e) = (is_closed e.state ≡ true) × (e.queued ≡ [])

no_outs : (outs : List Outgoing) → length outs ≡ 0 → outs ≡ []
no_outs [] none = refl
no_outs (out ∷ outs) none = absurd (omega (arith, none))

none_later : (given given_then queued queued_then all all_then : List Outgoing) → queued ≡ [] → given_then ≡ given → all_then ≡ all → given ++ queued ≡ all → given_then ++ queued_then ≡ all_then
    → queued_then ≡ []
none_later given given_then queued queued_then all all_then none same_given same_all before later =
    let counts : length (given_then ++ queued_then) ≡ length (given ++ queued) = ap length (later ∙ same_all ∙ sym before) in
    let first = length-append given queued in
    let second = length-append given_then queued_then in
    let none_of : length queued ≡ 0 = ap length none in
    let givens : length given_then ≡ length given = ap length same_given in
    no_outs queued_then (omega (arith, counts, first, second, none_of, givens))

silent_by : (call : Call) (v : Relay) (upper : Option Upper) (connection : Option (List UpperCall)) → IsQuiet call → upper ≡ option_map (λ calls. (upper_after calls).end) connection
    → IsSilent upper → IsSilent (ran_by (upper_on call v) upper)
silent_by call v None connection quiet same old = tt
silent_by call v (Some e) None quiet same old = absurd cc
silent_by call v (Some e) (Some calls) quiet same old =
    let is : e ≡ (upper_after calls).end = cc in
    let more = upper_on call v e in
    let closed = upper_after calls in
    let later = end_after more closed in
    let shut : is_closed closed.end.state ≡ true = ap (λ (x : Upper). is_closed x.state) (sym is) ∙ old.0 in
    let still = stays_closed value_services None calls more shut in
    let end : ran more e ≡ later.end = ap (ran more) is ∙ sym (end_ran more closed) in
    let order : later.past.given ++ later.end.queued ≡ later.past.queued =
    subst (λ (x : Run ForwardedValue). x.past.given ++ x.end.queued ≡ x.past.queued) (after_both calls more (upper_after [])) (queues_in_order value_services None (calls ++ more)) in
    subst (λ (x : Upper). IsSilent (Some x)) (sym end) (
      ap is_closed still.state ∙ shut,
      none_later closed.past.given later.past.given closed.end.queued later.end.queued closed.past.queued later.past.queued (ap (λ (x : Upper). x.queued) (sym is) ∙ old.1)
          (given_after more closed (upper_puts call v (Some e) quiet)) still.queued (queues_in_order value_services None calls) order,
    )

quiet_other : (call : Call) → IsQuiet call → call ≡ connects → ⊥
quiet_other call quiet is = subst IsQuiet is quiet

upper_called : (call : Call) (value : ValueValue) → IsQuiet call → value.is_spent ≡ false → (called call value).relay.upper ≡ ran_by (upper_on call value.relay) value.relay.upper
upper_called call value quiet unspent =
    ap (λ (b : Bool). (called call (record { relay = value.relay; is_spent = b })).relay.upper) unspent
    ∙ ap (λ (x : ValueValue). x.relay.upper) (called_whole call value.relay) ∙ upper_runs call value.relay (quiet_other call quiet)

silent_run : (call : Call) (r : ValueRun) → IsQuiet call → EndsAreRuns r → IsSilent r.value.relay.upper → IsSilent (called call r.value).relay.upper
silent_run call r quiet runs old =
    subst IsSilent (sym (upper_called call r.value quiet runs.unspent)) (silent_by call r.value.relay r.value.relay.upper r.past.connection quiet runs.upper old)

pub silent_quiet : (peer : List ℕ) (call : Call) (node : ValueValue) (low : Passed) (high : Option Passed) → IsQuiet call → Made peer node low high
    → IsSilent node.relay.upper → IsSilent (called call node).relay.upper
silent_quiet peer call node low high quiet m old =
    let r = after_all m.calls (no_calls peer) in
    let is : node ≡ r.value = node_of peer node low high m in
    subst (λ (x : ValueValue). IsSilent (called call x).relay.upper) (sym is)
    (silent_run call r quiet (ends_are_runs peer m.calls) (subst (λ (x : ValueValue). IsSilent x.relay.upper) is old))

-- ---- where nothing more is said above, and where it is unbound, no upper end is open

free_if_over : (bind : Bind) (v : Relay) (p : Past) → StandsWell bind v p → is_over Above bind ≡ true → is_free v.upper ≡ true
free_if_over Unbound v p stands over = stands.1
free_if_over Opening v p stands over = absurd cc
free_if_over Bound v p stands over = absurd cc
free_if_over Closed v p stands over = stands.1

pub over_is_free : (peer : List ℕ) (node : ValueValue) (low : Passed) (high : Option Passed) → Made peer node low high → is_over Above node.relay.bind ≡ true
    → is_free node.relay.upper ≡ true
over_is_free peer node low high m over =
    let r = after_all m.calls (no_calls peer) in
    let runs = ends_are_runs peer m.calls in
    subst (λ (x : ValueValue). is_over Above x.relay.bind ≡ true → is_free x.relay.upper ≡ true) (sym (node_of peer node low high m))
    (λ on. free_if_over r.value.relay.bind r.value.relay r.past runs.stands on) over

-- ---- one that has no connection has no upper end

pub unlinked : (peer : List ℕ) (node : ValueValue) (low : Passed) (high : Option Passed) → Made peer node low high → high ≡ None → node.relay.upper ≡ None
unlinked peer node low high m off =
    let agrees = passages_agree peer m.calls in
    let linked : is_some (after_calls peer m.calls).above ≡ false = ap (λ (p : Passage). is_some p.above) m.is ∙ ap (λ (s : Option Passed). is_some s) off in
    ap (λ (x : ValueValue). x.relay.upper) (node_of peer node low high m) ∙ (ends_are_runs peer m.calls).upper
    ∙ none_linked (after_all m.calls (no_calls peer)).past.connection (sym agrees.connection ∙ linked)
