-- A command that a bound value-add passes on isn't refused above: its upper end is open, and has room and tokens left.
use Rattle.std.proofs.Common.{◌≡◌, ℕ, suc, ◌+◌, ◌^◌, ◌<◌, ◌≤◌, ◌==◌, true, false, cond, nat_le, nat_lt, List, [], ◌∷◌, ◌++◌, length, map, Option, Some, None, option_map, refl, sym, ap, ◌∙◌, subst, arith, le-ltb, ltb-true, ne_eqb, length-append}
use Rattle.std.specs.Prelude.{unwrap_or}
use Rattle.std.specs.List.{filter, list_any}
use Rattle.std.proofs.lemmas.Bool.{lt-leb}
use Rattle.std.proofs.lemmas.List.{length-map}
use Rattle.tcf_message.specs.Message.{most_body}
use Rattle.channel_core.specs.Beginning.{new_end}
use Rattle.channel_core.specs.Closing.{is_closed}
use Rattle.channel_core.specs.RunLaws.{is_command, sent_of}
use Rattle.channel_core.specs.Runs.{begun}
use Rattle.channel_core.specs.Sending.{last_token, most_pending, refusal_of}
use Rattle.channel_core.specs.declared.sending.SendRefusal.TheVariants.{Full, NotOpen, Spent, TooLong}
use Rattle.channel_laws.specs.Faults.{is_closing}
use Rattle.value_node.specs.Asked.{Asked}
use Rattle.value_node.specs.Deeds.{Deed, asked_in, sent_in}
use Rattle.value_node.specs.OwnLaws.{AnswersItself, asked_until}
use Rattle.value_node.specs.Passing.{Upper}
use Rattle.value_node.specs.RelayLaws.{EndsAreRuns, ForwardsInOrder, StandsWell, accepted_above, asked_since, held_in, sent_above}
use Rattle.value_node.specs.Runs.{UpperCall, ValueRun, closing_if, refused_by, upper_after}
use Rattle.value_node.specs.Value.{has_room, is_free, takes_below, value_services}
use Rattle.value_node.specs.declared.states.Bind.TheVariants.{Bound}
use Rattle.channel_core.proofs.TheLaws.{sends_in_order}
use Rattle.chain_through.proofs.Doing.{few_sent}
use Rattle.chain_through.proofs.LastToken.{last_counts}

-- ---- Where a command is accepted

accepts : (size : ℕ) (e : Upper) → is_closed e.state ≡ false → size ≤ most_body → nat_lt (length e.pending) most_pending ≡ true → (e.last ≡ last_token → ⊥) → refusal_of size e ≡ None
accepts size e opened short room unspent =
    ap (λ b. cond b (Some NotOpen) (cond (nat_lt most_body size) (Some TooLong) (cond (nat_le most_pending (length e.pending)) (Some Full) (cond (e.last == last_token) (Some Spent) None)))) opened
    ∙ ap (λ b. cond b (Some TooLong) (cond (nat_le most_pending (length e.pending)) (Some Full) (cond (e.last == last_token) (Some Spent) None))) (le-ltb most_body size short)
    ∙ ap (λ b. cond b (Some Full) (cond (e.last == last_token) (Some Spent) None)) (lt-leb most_pending (length e.pending) (ltb-true (length e.pending) most_pending room))
    ∙ ap (λ b. cond b (Some Spent) None) (ne_eqb e.last last_token unspent)

-- ---- The upper end of a value-add

pub record HasUpper (r : ValueRun) : Type 0 where
  pub calls : List UpperCall
  pub connection_is : r.past.connection ≡ Some calls
  pub upper_is : r.value.relay.upper ≡ Some (upper_after calls).end
  pub opened : is_closed (upper_after calls).end.state ≡ false

some_upper : (connection : Option (List UpperCall)) (upper : Option Upper) → upper ≡ option_map (λ calls. (upper_after calls).end) connection → is_free upper ≡ false
    → (calls : List UpperCall) × (connection ≡ Some calls) × (upper ≡ Some (upper_after calls).end)
some_upper None upper is used = let free : is_free upper ≡ true = ap is_free is in absurd cc
some_upper (Some calls) upper is used = (calls, refl, is)

pub has_upper : (r : ValueRun) → EndsAreRuns r → is_free r.value.relay.upper ≡ false → HasUpper r
has_upper r runs used =
    let u = some_upper r.past.connection r.value.relay.upper runs.upper used in
    record { calls = u.0; connection_is = u.1; upper_is = u.2; opened = sym (ap is_free u.2) ∙ used }

sent_many : (n : ℕ) (commands : List Asked) → length (sent_above n commands) ≡ length commands
sent_many n [] = refl
sent_many n (c ∷ commands) = ap suc (sent_many (n + 1) commands)

-- it accepted the commands that it sends above
accepted_many : (r : ValueRun) (deeds : List Deed) → ForwardsInOrder r deeds → r.value.relay.bind ≡ Bound → (u : HasUpper r) → length (upper_after u.calls).past.accepted ≡ length (sent_in deeds)
accepted_many r deeds forwards bound u =
    let end = upper_after u.calls in
    let in_order = sends_in_order value_services None u.calls in
    let queued = filter is_command end.past.queued in
    let held = map (λ h. h.outgoing) end.end.held in
    let above_is : accepted_above r ≡ queued ++ held =
    ap (λ connection. filter is_command (upper_after (unwrap_or connection [])).past.queued ++ map (λ h. h.outgoing) (held_in r.value.relay.upper)) u.connection_is
    ∙ ap (λ upper. queued ++ map (λ h. h.outgoing) (held_in upper)) u.upper_is in
    let one : length queued + length held ≡ length (sent_in deeds) =
    sym (length-append queued held) ∙ ap length (sym above_is ∙ forwards.all bound) ∙ sent_many 1 (sent_in deeds) in
    let two : length queued ≡ length (sent_of end) = ap length in_order.are_sent ∙ length-map (sent_of end) (λ i. i.command.outgoing) in
    let three : length held ≡ length end.end.held = length-map end.end.held (λ h. h.outgoing) in
    let four : length end.past.accepted ≡ length (sent_of end) + length end.end.held =
    sym (length-map end.past.accepted (λ i. i.command)) ∙ ap length in_order.are_held ∙ length-append (map (λ i. i.command) (sent_of end)) end.end.held
    ∙ ap (λ n. n + length end.end.held) (length-map (sent_of end) (λ i. i.command)) in
    omega arith

-- ---- No command is refused

pub none_refused : (r : ValueRun) (deeds : List Deed) → EndsAreRuns r → ForwardsInOrder r deeds → AnswersItself r → r.value.relay.bind ≡ Bound → takes_below r.value.relay.bind r.value.relay.upper ≡ true
    → length (asked_until r.past) + length (asked_since r.past) < 2 ^ 64 → (service name body : List ℕ) → length service + length name + length body ≤ most_body
    → list_any is_closing (refused_by r.value.relay.upper service name body) ≡ false
none_refused r deeds runs forwards answers bound takes few service name body short =
    let v = r.value.relay in
    let stands : StandsWell Bound v r.past = subst (λ bind. StandsWell bind v r.past) bound runs.stands in
    let u = has_upper r runs stands.1 in
    let e = (upper_after u.calls).end in
    let size = length service + length name + length body in
    let room : has_room (Some e) ≡ true = sym (ap has_room u.upper_is) ∙ sym (ap (λ bind. takes_below bind v.upper) bound) ∙ takes in
    let by = answers.bound_by stands.2 in
    let some : length (asked_until r.past) ≡ length by.earlier + 1 = ap length by.commands_are ∙ length-append by.earlier (by.redirect ∷ []) in
    let counts : e.last ≡ length (upper_after u.calls).past.accepted = last_counts u.calls (begun (new_end value_services None)) refl in
    let many = accepted_many r deeds forwards bound u in
    let sent = few_sent deeds in
    let asked : length (asked_since r.past) ≡ length (asked_in deeds) = ap length forwards.asked in
    let unspent : e.last ≡ last_token → ⊥ = λ is. omega arith in
    ap (λ upper. list_any is_closing (refused_by upper service name body)) u.upper_is ∙ ap (λ refusal. list_any (is_closing {T = Unit}) (closing_if refusal)) (accepts size e u.opened short room unspent)
