-- The commands that were sent above and those that are held there are those that are forwarded.
use Rattle.std.proofs.Common.{◌≡◌, ℕ, ◌+◌, List, [], ◌∷◌, ◌++◌, length, map, Option, Some, None, refl, ap, ap₂, sym, ◌∙◌, arith}
use Rattle.std.specs.Prelude.{decimal, option_map, unwrap_or}
use Rattle.std.proofs.lemmas.List.{append-nil, map-append}
use Rattle.channel_core.specs.Runs.{Issued}
use Rattle.channel_core.specs.RunLaws.{SendsInOrder, sent_of}
use Rattle.channel_core.specs.Wire.{said}
use Rattle.channel_core.specs.declared.held.Held.{Held}
use Rattle.channel_core.specs.declared.held.Outgoing.{Outgoing}
use Rattle.tcf_message.specs.Message.{command}
use Rattle.value_node.specs.Asked.{Asked}
use Rattle.value_node.specs.ForwardedValue.{ForwardedValue}
use Rattle.value_node.specs.Passing.{Upper}
use Rattle.value_node.specs.Deeds.{Deed, asked_in as commands_in, sent_in as forwarded_in}
use Rattle.value_node.specs.RelayLaws.{AfterAllDeeds, ForwardsInOrder, accepted_above, held_in, sent_above}
use Rattle.value_node.specs.Runs.{UpperCall, ValueRun, above, upper_after}
use Rattle.value_node.specs.Value.{value_services}
use Rattle.channel_core.proofs.TheLaws.{sends_in_order}
use Rattle.value_node.proofs.Holding.{issued_from}
use Rattle.value_node.proofs.HoldsCalled.{IsHeld, always_held}

abbrev outgoing_of : Issued ForwardedValue → Outgoing
outgoing_of i = i.command.outgoing

-- what is accepted is what is sent above
issued_sent : (token : ℕ) (commands : List Asked) → map outgoing_of (issued_from token commands) ≡ sent_above token commands
issued_sent token [] = refl
issued_sent token (c ∷ commands) = ap (λ os. said (command (decimal token) c.service c.name c.body) c.mark ∷ os) (issued_sent (token + 1) commands)

sent_both : (token : ℕ) (first second : List Asked) → sent_above token (first ++ second) ≡ sent_above token first ++ sent_above (token + length first) second
sent_both token [] second = let same : token ≡ token + 0 = omega arith in ap (λ n. sent_above n second) same
sent_both token (c ∷ first) second =
    let same : (token + 1) + length first ≡ token + length (c ∷ first) = omega arith in
    ap (λ os. said (command (decimal token) c.service c.name c.body) c.mark ∷ os) (sent_both (token + 1) first second ∙ ap (λ n. sent_above (token + 1) first ++ sent_above n second) same)

held_there : (upper : Option Upper) (connection : Option (List UpperCall)) → upper ≡ option_map (λ calls. (upper_after calls).end) connection
    → held_in upper ≡ (upper_after (unwrap_or connection [])).end.held
held_there upper None same = ap held_in same
held_there upper (Some calls) same = ap held_in same

of_commands : (is : List (Issued ForwardedValue)) → map (λ (h : Held). h.outgoing) (map (λ (i : Issued ForwardedValue). i.command) is) ≡ map outgoing_of is
of_commands [] = refl
of_commands (i ∷ is) = ap (λ os. outgoing_of i ∷ os) (of_commands is)

-- sent and held are the accepted ones
are_accepted : (r : ValueRun) (deeds : List Deed) → IsHeld r deeds → accepted_above r ≡ map outgoing_of (above r.past).past.accepted
are_accepted r deeds held =
    let end = above r.past in
    let sends : SendsInOrder end = sends_in_order value_services None (unwrap_or r.past.connection []) in
    ap₂ (λ os hs. os ++ map (λ (h : Held). h.outgoing) hs) sends.are_sent (held_there r.value.relay.upper r.past.connection held.holds.upper)
    ∙ ap (λ os. os ++ map (λ (h : Held). h.outgoing) end.end.held) (sym (of_commands (sent_of end)))
    ∙ sym (map-append (λ (h : Held). h.outgoing) (map (λ (i : Issued ForwardedValue). i.command) (sent_of end)) end.end.held)
    ∙ sym (ap (map (λ (h : Held). h.outgoing)) sends.are_held)
    ∙ of_commands end.past.accepted

forwards : (r : ValueRun) (deeds : List Deed) → IsHeld r deeds → ForwardsInOrder r deeds
forwards r deeds held =
    let a = held.holds.accepted in
    let are : accepted_above r ≡ sent_above 1 a.sent = are_accepted r deeds held ∙ ap (map outgoing_of) a.issued ∙ issued_sent 1 a.sent in
    let whole : forwarded_in deeds ≡ a.sent ++ a.refused = ap forwarded_in (sym held.does) ∙ a.whole in
    record {
      asked = held.holds.asked ∙ ap commands_in held.does;
      front = (
        sent_above (1 + length a.sent) a.refused,
        ap (sent_above 1) whole ∙ sent_both 1 a.sent a.refused ∙ ap (λ os. os ++ sent_above (1 + length a.sent) a.refused) (sym are),
      );
      all = λ bound. are ∙ ap (sent_above 1) (sym (append-nil a.sent) ∙ ap (λ cs. a.sent ++ cs) (sym (a.all bound)) ∙ sym whole);
    }

pub always_forwards : AfterAllDeeds ForwardsInOrder
always_forwards peer calls = forwards _ _ (always_held peer calls)
