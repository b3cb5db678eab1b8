-- A client's end is a run of calls: each call of a client makes calls of its end, and both have the same past.
use Rattle.std.proofs.Common.{◌≡◌, ℕ, ◌+◌, Bool, true, false, List, [], ◌∷◌, ◌++◌, map, Option, Some, None, Result, Ok, refl, ap, ap₂, sym, subst, ◌∙◌, arith}
use Rattle.std.specs.Prelude.{if◌then◌else◌, option_to_list, slice_get}
use Rattle.std.specs.List.{AllByRecursion, flat_map}
use Rattle.std.proofs.lemmas.List.{append-nil, append_assoc, map-append}
use Rattle.std.proofs.lemmas.List.Concat.{flat_map-append}
use Rattle.tcf_message.specs.Message.{IsWellFormed, MessageValue, command, reading}
use Rattle.tcf_message.specs.declared.message.MessageFault.{MessageFault}
use Rattle.tcf_text.specs.Lines.{Accepted}
use Rattle.tcf_text.specs.declared.log.LogLine.{LogLine}
use Rattle.tcf_text.specs.declared.log.RefusedWhy.{RefusedWhy}
use Rattle.channel_core.specs.Beginning.{new_end}
use Rattle.channel_core.specs.Closing.{closed_for as end_closed_for, closed_own, is_closed, without_first as without_first_row}
use Rattle.channel_core.specs.EndValue.{EndValue}
use Rattle.channel_core.specs.Laws.{listed}
use Rattle.channel_core.specs.Runs.{Call as EndCall, Run as EndRun, Unheld, after_call, after_calls, begun, closing, draining, issued, taking, unless_refused as unless_end_refuses}
use Rattle.channel_core.specs.Sending.{commanded, refusal_to}
use Rattle.channel_core.specs.Taking.{finished, judged, next_taken, number_at, progressed, stop_taken, taken_as, taken_from}
use Rattle.channel_core.specs.Wire.{said_in}
use Rattle.channel_core.specs.declared.held.Arrived.{Arrived}
use Rattle.channel_core.specs.declared.held.Incoming.{Incoming}
use Rattle.channel_core.specs.declared.held.Outgoing.{Outgoing}
use Rattle.channel_core.specs.declared.sending.SendRefusal.{SendRefusal}
use Rattle.channel_core.specs.declared.states.Cause.{Cause}
use Rattle.channel_core.specs.declared.states.Cause.TheVariants.{Own}
use Rattle.channel_core.specs.Judged.{Judged}
use Rattle.channel_core.specs.Judged as judges
use Rattle.channel_core.specs.declared.taking.Taken.{Taken}
use Rattle.channel_core.specs.declared.taking.Taken.TheVariants as taken
use Rattle.client_node.specs.Client.{client_services, closed_for, new_client, not_recognised, noted, refused_for, sent_or_refused, took, turned_by}
use Rattle.client_node.specs.ClientValue.{ClientValue}
use Rattle.client_node.specs.Ends.{CommandsNames, EndIsRunAfterAnyCalls, HasNames, IsEndAfter, SendsUnknown, after_taking, after_turn, answering, answers_to, calls_from, calls_on, draining_all, end_after, end_calls, end_calls_by, given_by, given_out, issued_as, sent_by, unknown_to}
use Rattle.client_node.specs.Lines.{event_line, final_line, hello_line, progress_line, why_of}
use Rattle.client_node.specs.Runs.{Call, Past, asks, bytes_end, called, closes, comes, commands_in, gives, no_past, opens, past_of, remembered, run, sends, taken_by, turns, unless_refused}
use Rattle.list_laws.proofs.AllLists.{all_append}
use Rattle.channel_core.proofs.TheLaws.{spends_nothing}
use Rattle.tcf_message.proofs.TheLaws.{read_back}
use Rattle.client_node.proofs.Calls.{client}

-- ---- what calls of an end add to its past

record Adds (before after : EndRun ℕ) (messages : List (Taken ℕ)) (commands : List Accepted) (given : List Outgoing) : Type 0 where
  pub taken_is : after.past.taken ≡ before.past.taken ++ messages
  pub accepted_is : after.past.accepted ≡ before.past.accepted ++ map issued_as commands
  pub given_is : after.past.given ≡ before.past.given ++ given

adds_none : (before after : EndRun ℕ) → after.past.taken ≡ before.past.taken → after.past.accepted ≡ before.past.accepted → after.past.given ≡ before.past.given
    → Adds before after [] [] []
adds_none before after messages commands given =
    record {
      taken_is = messages ∙ sym (append-nil before.past.taken);
      accepted_is = commands ∙ sym (append-nil before.past.accepted);
      given_is = given ∙ sym (append-nil before.past.given);
    }

-- these calls of an end make it the channel of the client, with this past
record Steps (before : EndRun ℕ) (calls : List (EndCall ℕ)) (channel : Option (EndValue ℕ)) (messages : List (Taken ℕ)) (commands : List Accepted) (given : List Outgoing) : Type 0 where
  pub channel_is : Some (after_calls calls before).end ≡ channel
  pub adds : Adds before (after_calls calls before) messages commands given

-- ---- sending

refused_channel : (why : Option RefusedWhy) (c : ClientValue) → (refused_for why c).channel ≡ c.channel
refused_channel None c = refl
refused_channel (Some why) c = refl

sent_channel : (refusal : Option SendRefusal) (e : EndValue ℕ) (service name body : List ℕ) (c : ClientValue) → c.channel ≡ Some e
    → Some (unless_end_refuses refusal e (commanded service name body (e.last + 1) None e)) ≡ (sent_or_refused refusal e service name body c).channel
sent_channel None e service name body c same = refl
sent_channel (Some why) e service name body c same = sym same ∙ sym (refused_channel (why_of why) c)

sent_issued : (refusal : Option SendRefusal) (e : EndValue ℕ) (service name body : List ℕ)
    → unless_end_refuses refusal [] (issued service name body (e.last + 1) None e ∷ [])
    ≡ map issued_as (unless_refused refusal (record { number = e.last + 1; service = service; name = name; body = body }))
sent_issued None e service name body = refl
sent_issued (Some why) e service name body = refl

-- ---- a closed end, from which each pending command is taken

if_true : {A : Type 0} → (flag : Bool) (one other : A) → flag ≡ true → (if flag then one else other) ≡ one
if_true true one other on = refl
if_true false one other on = cc

if_false : {A : Type 0} → (flag : Bool) (one other : A) → flag ≡ false → (if flag then one else other) ≡ other
if_false true one other off = cc
if_false false one other off = refl

abbrev with_pending : List (ℕ × ℕ) → EndValue ℕ → EndValue ℕ
with_pending rows e = record e { pending = rows }

-- nothing is pending any more, and nothing else has changed
record Drains (before after : EndRun ℕ) : Type 0 where
  pub end_is : after.end ≡ with_pending [] before.end
  pub adds : Adds before after [] [] []

drains_all : (rows : List (ℕ × ℕ)) (r : EndRun ℕ) → is_closed r.end.state ≡ true → r.end.pending ≡ rows → Drains r (after_calls (draining_all rows) r)
drains_all [] r closed pending = record { end_is = ap (λ rs. with_pending rs r.end) pending; adds = adds_none r r refl refl refl }
drains_all (row ∷ rows) r closed pending =
    let next : EndRun ℕ = after_call draining r in
    let end_is : next.end ≡ with_pending rows r.end =
    if_true (is_closed r.end.state) _ r.end closed ∙ ap (λ rs. with_pending (without_first_row rs) r.end) pending in
    let staying : is_closed next.end.state ≡ true = ap (λ (e : EndValue ℕ). is_closed e.state) end_is ∙ closed in
    let rest = drains_all rows next staying (ap (λ (e : EndValue ℕ). e.pending) end_is) in
    record { end_is = rest.end_is ∙ ap (with_pending []) end_is; adds = record { taken_is = rest.adds.taken_is; accepted_is = rest.adds.accepted_is; given_is = rest.adds.given_is } }

own_closed : (flag : Bool) (e : EndValue ℕ) → is_closed e.state ≡ flag → is_closed (if flag then e else end_closed_for Own e).state ≡ true
own_closed true e is = is
own_closed false e is = refl

pub own_pending : (flag : Bool) (e : EndValue ℕ) → (if flag then e else end_closed_for Own e).pending ≡ e.pending
own_pending true e = refl
own_pending false e = refl

closes_steps : (flag : Bool) (r : EndRun ℕ) (c : ClientValue) → c.channel ≡ Some r.end
    → Steps r (if flag then [] else closing ∷ draining_all r.end.pending) (if flag then c else closed_for Own (closed_own r.end) c).channel [] [] []
closes_steps true r c same = record { channel_is = sym same; adds = adds_none r r refl refl refl }
closes_steps false r c same =
    let next : EndRun ℕ = after_call closing r in
    let drains = drains_all r.end.pending next (own_closed (is_closed r.end.state) r.end refl) (own_pending (is_closed r.end.state) r.end) in
    record { channel_is = ap (λ e. Some e) drains.end_is; adds = record { taken_is = drains.adds.taken_is; accepted_is = drains.adds.accepted_is; given_is = drains.adds.given_is } }

-- ---- what is taken leaves the end as it was where there is nothing, and closed where it closes

abbrev ClosedBy : Taken ℕ → EndValue ℕ → Type 0
ClosedBy (taken.Closed cause) e = is_closed e.state ≡ true
ClosedBy what e = Unit {0}

abbrev Leaves : EndValue ℕ → Option (Taken ℕ) → EndValue ℕ → Type 0
Leaves before None e = e ≡ before
Leaves before (Some what) e = ClosedBy what e

progressed_leaves : (before : EndValue ℕ) (number : ℕ) (incoming : Incoming) (found : Option ℕ) (e : EndValue ℕ)
    → Leaves before (progressed number incoming found e).0 (progressed number incoming found e).1
progressed_leaves before number incoming None e = refl
progressed_leaves before number incoming (Some token) e = tt

finished_leaves : (before : EndValue ℕ) (number : ℕ) (incoming : Incoming) (place : ℕ) (done : Bool) (row : Option (ℕ × ℕ)) (e : EndValue ℕ)
    → Leaves before (finished number incoming place done row e).0 (finished number incoming place done row e).1
finished_leaves before number incoming place done None e = refl
finished_leaves before number incoming place done (Some row) e = tt

taken_leaves : (before : EndValue ℕ) (number : ℕ) (incoming : Incoming) (what : Judged) (e : EndValue ℕ)
    → Leaves before (taken_as number incoming what e).0 (taken_as number incoming what e).1
taken_leaves before number incoming judges.TooEarly e = refl
taken_leaves before number incoming judges.Stray e = refl
taken_leaves before number incoming judges.Greets e = tt
taken_leaves before number incoming judges.Tells e = tt
taken_leaves before number incoming judges.Asks e = tt
taken_leaves before number incoming (judges.GoesOn place) e = progressed_leaves before number incoming (number_at place e.pending) e
taken_leaves before number incoming (judges.Answers place done) e = finished_leaves before number incoming place done (slice_get e.pending place) e

stop_leaves : (stop : Option Cause) (e : EndValue ℕ) → Leaves e (stop_taken stop e).0 (stop_taken stop e).1
stop_leaves None e = refl
stop_leaves (Some cause) e = refl

from_leaves : (inbox : List Arrived) (e : EndValue ℕ) → Leaves e (taken_from inbox e).0 (taken_from inbox e).1
from_leaves [] e = stop_leaves e.stop e
from_leaves (arrived ∷ inbox) e =
    let next : EndValue ℕ = record e { inbox = inbox } in
    taken_leaves e arrived.number arrived.incoming (judged (said_in arrived.incoming.raw) next) next

-- ---- a turn

noted_channel : (line : Option LogLine) (c : ClientValue) → (noted line c).channel ≡ c.channel
noted_channel None c = refl
noted_channel (Some line) c = refl

-- the channel, and the past that stays as it is
record Ends (before : EndRun ℕ) (calls : List (EndCall ℕ)) (channel : Option (EndValue ℕ)) : Type 0 where
  pub channel_is : Some (after_calls calls before).end ≡ channel
  pub adds : Adds before (after_calls calls before) [] [] []

noted_ends : (line : Option LogLine) (r : EndRun ℕ) (c : ClientValue) → Ends r [] (noted line (record c { channel = Some r.end })).channel
noted_ends line r c = record { channel_is = sym (noted_channel line (record c { channel = Some r.end })); adds = adds_none r r refl refl refl }

answering_ends : (m : Result MessageValue MessageFault) (r : EndRun ℕ) → Ends r (answering m) (Some (not_recognised m r.end))
answering_ends (Ok (command token service name body)) r = record { channel_is = refl; adds = adds_none r (after_calls (answering (Ok (command token service name body))) r) refl refl refl }
answering_ends m r = record { channel_is = refl; adds = adds_none r r refl refl refl }

took_ends : (what : Taken ℕ) (r : EndRun ℕ) (c : ClientValue) → ClosedBy what r.end → Ends r (after_taking what r.end.pending) (took what r.end c).channel
took_ends (taken.Hello incoming) r c closed = noted_ends (hello_line incoming.mark (reading incoming.raw)) r c
took_ends (taken.Event incoming) r c closed = noted_ends (event_line incoming.mark (reading incoming.raw)) r c
took_ends (taken.Command incoming) r c closed = answering_ends (reading incoming.raw) r
took_ends (taken.Progress number incoming) r c closed = noted_ends (progress_line number incoming.mark (reading incoming.raw)) r c
took_ends (taken.Final number incoming) r c closed = noted_ends (final_line number incoming.mark (reading incoming.raw)) r c
took_ends (taken.Closed cause) r c closed =
    let drains = drains_all r.end.pending r closed refl in record { channel_is = ap (λ e. Some e) drains.end_is; adds = drains.adds }

turned_ends : (what : Option (Taken ℕ)) (before : EndValue ℕ) (r : EndRun ℕ) (c : ClientValue) → c.channel ≡ Some before → Leaves before what r.end
    → Ends r (after_turn what r.end.pending) (turned_by (what, r.end) c).1.channel
turned_ends None before r c same left = record { channel_is = ap (λ e. Some e) left ∙ sym same; adds = adds_none r r refl refl refl }
turned_ends (Some what) before r c same left = took_ends what r c left

listed_is : {A : Type 0} → (x : Option A) → listed x ≡ option_to_list x
listed_is None = refl
listed_is (Some x) = refl

turns_steps : (r : EndRun ℕ) (c : ClientValue) → c.channel ≡ Some r.end
    → Steps r (taking ∷ after_turn (next_taken r.end).0 (next_taken r.end).1.pending) (turned_by (next_taken r.end) c).1.channel (option_to_list (next_taken r.end).0) [] []
turns_steps r c same =
    let next : EndRun ℕ = after_call taking r in
    let ends = turned_ends (next_taken r.end).0 r.end next c same (from_leaves r.end.inbox r.end) in
    record {
      channel_is = ends.channel_is;
      adds = record {
        taken_is = ends.adds.taken_is ∙ append-nil next.past.taken ∙ ap (λ ts. r.past.taken ++ ts) (listed_is (next_taken r.end).0);
        accepted_is = ends.adds.accepted_is;
        given_is = ends.adds.given_is;
      };
    }

-- ---- any call, once the client is opened

abbrev StepsFor : Call → EndRun ℕ → ClientValue → Type 0
StepsFor call r c = Steps r (calls_on call r.end) (called call c).channel (taken_by call (Some r.end)) (commands_in call (Some r.end)) (given_by call c)

call_steps : (call : Call) (r : EndRun ℕ) (log : List LogLine) (spent : Bool) → r.end.is_spent ≡ false → StepsFor call r (client (Some r.end) log spent)
call_steps opens r log spent unspent = record { channel_is = refl; adds = adds_none r r refl refl refl }
call_steps (sends service name body) r log spent unspent =
    let refusal = refusal_to service name body r.end in
    record {
      channel_is = sent_channel refusal r.end service name body (client (Some r.end) log spent) refl;
      adds = record {
        taken_is = sym (append-nil r.past.taken);
        accepted_is = ap (λ is. r.past.accepted ++ is) (sent_issued refusal r.end service name body);
        given_is = sym (append-nil r.past.given);
      };
    }
call_steps (asks what) r log spent unspent = record { channel_is = refl; adds = adds_none r r refl refl refl }
call_steps (comes piece mark) r log spent unspent = record { channel_is = refl; adds = adds_none r (after_calls (calls_on (comes piece mark) r.end) r) refl refl refl }
call_steps bytes_end r log spent unspent =
    record { channel_is = ap (λ e. Some e) (sym (if_false r.end.is_spent r.end _ unspent)); adds = adds_none r (after_calls (calls_on bytes_end r.end) r) refl refl refl }
call_steps turns r log spent unspent = turns_steps r (client (Some r.end) log spent) refl
call_steps closes r log spent unspent = closes_steps (is_closed r.end.state) r (client (Some r.end) log spent) refl
call_steps gives r log spent unspent =
    let first = slice_get r.end.queued 0 in
    record {
      channel_is = ap (λ e. Some e) (sym (if_false r.end.is_spent r.end _ unspent));
      adds = record {
        taken_is = sym (append-nil r.past.taken);
        accepted_is = sym (append-nil r.past.accepted);
        given_is = ap (λ os. r.past.given ++ os) (listed_is first ∙ ap option_to_list (sym (if_false r.end.is_spent None first unspent)));
      };
    }

-- ---- any call, before the opening too

-- these calls behind those that made the end make it the channel, with this past
record Goes (before calls : List (EndCall ℕ)) (channel : Option (EndValue ℕ)) (messages : List (Taken ℕ)) (commands : List Accepted) (given : List Outgoing) : Type 0 where
  pub end : IsEndAfter channel (before ++ calls)
  pub adds : Adds (end_after before) (end_after (before ++ calls)) messages commands given

abbrev GoesFor : List (EndCall ℕ) → Call → ClientValue → Type 0
GoesFor before call c = Goes before (end_calls_by call c) (called call c).channel (taken_by call c.channel) (commands_in call c.channel) (given_by call c)

after_both : (first second : List (EndCall ℕ)) (r : EndRun ℕ) → after_calls (first ++ second) r ≡ after_calls second (after_calls first r)
after_both [] second r = refl
after_both (call ∷ first) second r = after_both first second (after_call call r)

behind : (before calls : List (EndCall ℕ)) (channel : Option (EndValue ℕ)) (messages : List (Taken ℕ)) (commands : List Accepted) (given : List Outgoing)
    → Steps (end_after before) calls channel messages commands given → Goes before calls channel messages commands given
behind before calls channel messages commands given steps =
    let both = after_both before calls (begun (new_end client_services None)) in
    record {
      end = subst (λ (o : Option (EndValue ℕ)). IsEndAfter o (before ++ calls)) steps.channel_is (ap (λ (r : EndRun ℕ). r.end) (sym both));
      adds = subst (λ (r : EndRun ℕ). Adds (end_after before) r messages commands given) (sym both) steps.adds;
    }

stays : (before : List (EndCall ℕ)) (channel : Option (EndValue ℕ)) → IsEndAfter channel before → Goes before [] channel [] [] []
stays before channel old =
    let whole : before ++ [] ≡ before = append-nil before in
    record {
      end = subst (IsEndAfter channel) (sym whole) old;
      adds = subst (λ (calls : List (EndCall ℕ)). Adds (end_after before) (end_after calls) [] [] []) (sym whole) (adds_none (end_after before) (end_after before) refl refl refl);
    }

goes_first : (call : Call) (before : List (EndCall ℕ)) (log : List LogLine) (spent : Bool) → before ≡ [] → GoesFor before call (client None log spent)
goes_first opens before log spent none =
    stays before (Some (new_end client_services None)) (sym (ap (λ (calls : List (EndCall ℕ)). (end_after calls).end) none))
goes_first (sends service name body) before log spent none = stays before None none
goes_first (comes piece mark) before log spent none = stays before None none
goes_first bytes_end before log spent none = stays before None none
goes_first turns before log spent none = stays before None none
goes_first closes before log spent none = stays before None none
goes_first gives before log spent none = stays before None none
goes_first (asks what) before log spent none = stays before None none

goes_on : (call : Call) (before : List (EndCall ℕ)) (e : EndValue ℕ) (log : List LogLine) (spent : Bool) → (end_after before).end.is_spent ≡ false → e ≡ (end_after before).end
    → GoesFor before call (client (Some e) log spent)
goes_on call before e log spent unspent same =
    subst (λ (end : EndValue ℕ). GoesFor before call (client (Some end) log spent)) (sym same)
    (behind before (calls_on call (end_after before).end) _ _ _ _ (call_steps call (end_after before) log spent unspent))

goes : (call : Call) (before : List (EndCall ℕ)) (channel : Option (EndValue ℕ)) (log : List LogLine) (spent : Bool) → (end_after before).end.is_spent ≡ false → IsEndAfter channel before
    → GoesFor before call (client channel log spent)
goes call before None log spent unspent old = goes_first call before log spent old
goes call before (Some e) log spent unspent old = goes_on call before e log spent unspent old

-- ---- what the calls of an end are, one by one

draining_are : (P : EndCall ℕ → Type 0) (rows : List (ℕ × ℕ)) → P draining → AllByRecursion P (draining_all rows)
draining_are P [] drains = tt
draining_are P (row ∷ rows) drains = (drains, draining_are P rows drains)

closing_are : (P : EndCall ℕ → Type 0) (flag : Bool) (rows : List (ℕ × ℕ)) → P closing → P draining → AllByRecursion P (if flag then [] else closing ∷ draining_all rows)
closing_are P true rows first drains = tt
closing_are P false rows first drains = (first, draining_are P rows drains)

turning_are : (P : EndCall ℕ → Type 0) (what : Option (Taken ℕ)) (rows : List (ℕ × ℕ)) → P draining → ((raw : List ℕ) → AllByRecursion P (answering (reading raw)))
    → AllByRecursion P (after_turn what rows)
turning_are P None rows drains answers = tt
turning_are P (Some (taken.Hello incoming)) rows drains answers = tt
turning_are P (Some (taken.Event incoming)) rows drains answers = tt
turning_are P (Some (taken.Command incoming)) rows drains answers = answers incoming.raw
turning_are P (Some (taken.Progress number incoming)) rows drains answers = tt
turning_are P (Some (taken.Final number incoming)) rows drains answers = tt
turning_are P (Some (taken.Closed cause)) rows drains answers = draining_are P rows drains

-- where the calls of each call that meets Q meet P, so do those of a list of such calls
module _ (P : EndCall ℕ → Type 0) (Q : Call → Type 0) (by : (call : Call) (e : EndValue ℕ) → Q call → AllByRecursion P (calls_on call e)) where
  from_are : (call : Call) (channel : Option (EndValue ℕ)) → Q call → AllByRecursion P (calls_from call channel)
  from_are call None meets = tt
  from_are call (Some e) meets = by call e meets

  all_are : (calls : List Call) (c : ClientValue) → AllByRecursion Q calls → AllByRecursion P (end_calls calls c)
  all_are [] c all = tt
  all_are (call ∷ calls) c all = all_append P (end_calls_by call c) (end_calls calls (called call c)) (from_are call c.channel all.0) (all_are calls (called call c) all.1)

-- ---- what is sent can be written

answering_fits : (raw : List ℕ) (m : Result MessageValue MessageFault) → reading raw ≡ m → AllByRecursion SendsUnknown (answering m)
answering_fits raw (Ok (command token service name body)) is =
    let well : IsWellFormed (command token service name body) = ((read_back.0 raw (command token service name body)).0 is).0 in
    ((tt, refl, (well.0.0, omega arith)), tt)
answering_fits raw m is = tt

call_fits : (call : Call) (e : EndValue ℕ) → Unit {0} → AllByRecursion SendsUnknown (calls_on call e)
call_fits opens e any = tt
call_fits (sends service name body) e any = (tt, tt)
call_fits (comes piece mark) e any = (tt, tt)
call_fits bytes_end e any = (tt, tt)
call_fits turns e any = (tt, turning_are SendsUnknown (next_taken e).0 (next_taken e).1.pending tt (λ raw. answering_fits raw (reading raw) refl))
call_fits closes e any = closing_are SendsUnknown (is_closed e.state) e.pending tt tt
call_fits gives e any = (tt, tt)
call_fits (asks what) e any = tt

any_calls : (calls : List Call) → AllByRecursion (λ call. Unit {0}) calls
any_calls [] = tt
any_calls (call ∷ calls) = (tt, any_calls calls)

answering_names : (m : Result MessageValue MessageFault) → AllByRecursion CommandsNames (answering m)
answering_names (Ok (command token service name body)) = (tt, tt)
answering_names m = tt

call_names : (call : Call) (e : EndValue ℕ) → HasNames call → AllByRecursion CommandsNames (calls_on call e)
call_names opens e names = tt
call_names (sends service name body) e names = (names, tt)
call_names (comes piece mark) e names = (tt, tt)
call_names bytes_end e names = (tt, tt)
call_names turns e names = (tt, turning_are CommandsNames (next_taken e).0 (next_taken e).1.pending tt (λ raw. answering_names (reading raw)))
call_names closes e names = closing_are CommandsNames (is_closed e.state) e.pending tt tt
call_names gives e names = (tt, tt)
call_names (asks what) e names = tt

-- ---- what is sent are the answers to what was taken

draining_sends : (rows : List (ℕ × ℕ)) → flat_map sent_by (draining_all rows) ≡ []
draining_sends [] = refl
draining_sends (row ∷ rows) = draining_sends rows

closing_sends : (flag : Bool) (rows : List (ℕ × ℕ)) → flat_map sent_by (if flag then [] else closing ∷ draining_all rows) ≡ []
closing_sends true rows = refl
closing_sends false rows = draining_sends rows

answering_sends : (m : Result MessageValue MessageFault) → flat_map sent_by (answering m) ≡ unknown_to m ++ []
answering_sends (Ok (command token service name body)) = refl
answering_sends m = refl

turning_sends : (what : Option (Taken ℕ)) (rows : List (ℕ × ℕ)) → flat_map sent_by (after_turn what rows) ≡ flat_map answers_to (option_to_list what)
turning_sends None rows = refl
turning_sends (Some (taken.Hello incoming)) rows = refl
turning_sends (Some (taken.Event incoming)) rows = refl
turning_sends (Some (taken.Command incoming)) rows = answering_sends (reading incoming.raw)
turning_sends (Some (taken.Progress number incoming)) rows = refl
turning_sends (Some (taken.Final number incoming)) rows = refl
turning_sends (Some (taken.Closed cause)) rows = draining_sends rows

call_sends : (call : Call) (e : EndValue ℕ) → flat_map sent_by (calls_on call e) ≡ flat_map answers_to (taken_by call (Some e))
call_sends opens e = refl
call_sends (sends service name body) e = refl
call_sends (comes piece mark) e = refl
call_sends bytes_end e = refl
call_sends turns e = turning_sends (next_taken e).0 (next_taken e).1.pending
call_sends closes e = closing_sends (is_closed e.state) e.pending
call_sends gives e = refl
call_sends (asks what) e = refl

from_sends : (call : Call) (channel : Option (EndValue ℕ)) → flat_map sent_by (calls_from call channel) ≡ flat_map answers_to (taken_by call channel)
from_sends turns None = refl
from_sends call None = refl
from_sends call (Some e) = call_sends call e

-- ---- any calls

-- a client with its past, and the calls that made its end
record Follows (c : ClientValue) (p : Past) (calls : List (EndCall ℕ)) (given : List Outgoing) : Type 0 where
  pub end : IsEndAfter c.channel calls
  pub taken_is : p.taken ≡ (end_after calls).past.taken
  pub commands_are : map issued_as p.commands ≡ (end_after calls).past.accepted
  pub given_is : given ≡ (end_after calls).past.given
  pub answers_are : flat_map sent_by calls ≡ flat_map answers_to p.taken

follow_one : (call : Call) (p : Past) (before : List (EndCall ℕ)) (given : List Outgoing) → (end_after before).end.is_spent ≡ false → Follows p.client p before given
    → Follows (called call p.client) (remembered call p) (before ++ end_calls_by call p.client) (given ++ given_by call p.client)
follow_one call p before given unspent old =
    let c = p.client in
    let next : GoesFor before call c = goes call before c.channel c.log c.is_spent unspent old.end in
    let commands = commands_in call c.channel in
    record {
      end = next.end;
      taken_is = ap (λ ts. ts ++ taken_by call c.channel) old.taken_is ∙ sym next.adds.taken_is;
      commands_are = map-append issued_as p.commands commands ∙ ap (λ is. is ++ map issued_as commands) old.commands_are ∙ sym next.adds.accepted_is;
      given_is = ap (λ os. os ++ given_by call c) old.given_is ∙ sym next.adds.given_is;
      answers_are =
          flat_map-append sent_by before (end_calls_by call c) ∙ ap₂ (λ (xs ys : List Unheld). xs ++ ys) old.answers_are (from_sends call c.channel)
          ∙ sym (flat_map-append answers_to p.taken (taken_by call c.channel));
    }

follow : (calls : List Call) (p : Past) (before : List (EndCall ℕ)) (given : List Outgoing) → Follows p.client p before given
    → Follows (run calls p.client) (past_of calls p) (before ++ end_calls calls p.client) (given ++ given_out calls p.client)
follow [] p before given old =
    subst (λ (cs : List (EndCall ℕ)). Follows p.client p cs (given ++ [])) (sym (append-nil before))
    (subst (λ (os : List Outgoing). Follows p.client p before os) (sym (append-nil given)) old)
follow (call ∷ calls) p before given old =
    let c = p.client in
    let by : List (EndCall ℕ) = end_calls_by call c in
    let out : List Outgoing = given_by call c in
    let later : List (EndCall ℕ) = end_calls calls (called call c) in
    let later_out : List Outgoing = given_out calls (called call c) in
    let last : Past = past_of calls (remembered call p) in
    let rest : Follows (run calls (called call c)) last ((before ++ by) ++ later) ((given ++ out) ++ later_out) =
    follow calls (remembered call p) (before ++ by) (given ++ out) (follow_one call p before given (spends_nothing client_services None before) old) in
    subst (λ (cs : List (EndCall ℕ)). Follows (run calls (called call c)) last cs (given ++ (out ++ later_out))) (append_assoc before by later)
    (subst (λ (os : List Outgoing). Follows (run calls (called call c)) last ((before ++ by) ++ later) os) (append_assoc given out later_out) rest)

pub end_is_run : EndIsRunAfterAnyCalls
end_is_run calls =
    let all = follow calls no_past [] [] (record { end = refl; taken_is = refl; commands_are = refl; given_is = refl; answers_are = refl }) in
    record {
      end = all.end;
      taken = all.taken_is;
      commands = all.commands_are;
      given = all.given_is;
      answers = all.answers_are;
      sendings = all_are SendsUnknown (λ call. Unit {0}) call_fits calls new_client (any_calls calls);
      names = all_are CommandsNames HasNames call_names calls new_client;
    }
