-- The message for which an end closes by a fault is there, and is the fault.
use Rattle.std.proofs.Common.{◌≡◌, ℕ, Bool, true, false, List, [], ◌∷◌, ◌++◌, map, Option, Some, None, refl, sym, ap, ◌∙◌, subst, append_assoc, append-nil}
use Rattle.std.specs.Prelude.{Contains}
use Rattle.std.specs.List.{flat_map}
use Rattle.std.proofs.lemmas.Grind.{flat_map-append}
use Rattle.std.proofs.lemmas.List.Folds.{list_any-append}
use Rattle.channel_core.specs.Arrivals.{Marked, Spoken, arrived, arrived_in, bytes_of, messages_in, queue_of}
use Rattle.channel_core.specs.Beginning.{new_end}
use Rattle.channel_core.specs.Closing.{is_closed}
use Rattle.channel_core.specs.EndValue.{EndValue}
use Rattle.channel_core.specs.Laws.{listed}
use Rattle.channel_core.specs.QueueLaws.{TakesNothingClosed}
use Rattle.channel_core.specs.ReceivingLaws.{EndsFor, WhereAQueueComes, incoming_of, received}
use Rattle.channel_core.specs.RunLaws.{AfterAllCalls, CountsAnswers, SendsInOrder, StaysClosed, is_answered, sent_of}
use Rattle.channel_core.specs.Runs.{Call, Issued, Run, after_call, after_calls, begun, closing, commanding, delivering, draining, ending, putting_out, sending, taking}
use Rattle.channel_core.specs.Taking.{broken, next_taken}
use Rattle.channel_core.specs.Wire.{said_in}
use Rattle.channel_core.specs.declared.held.Arrived.{Arrived}
use Rattle.channel_core.specs.declared.states.Cause.{Cause}
use Rattle.channel_core.specs.declared.states.Cause.TheVariants.{Ended, Eos, Own, Protocol, Stream}
use Rattle.channel_core.specs.declared.states.EndState.TheVariants.{Opening}
use Rattle.channel_core.specs.declared.states.Reason.{Reason}
use Rattle.channel_core.specs.declared.states.Reason.TheVariants.{Early, Grammar, Token}
use Rattle.channel_core.specs.declared.taking.Taken.{Taken}
use Rattle.channel_core.specs.declared.taking.Taken.TheVariants.{Closed}
use Rattle.channel_laws.specs.Faults.{FaultsAreThere, IsAwaited, IsFault, IsThere}
use Rattle.channel_core.proofs.TheLaws.{counts_answers, ends_fairly, receives_in_order, sends_in_order, stays_closed, takes_nothing_closed}
use Rattle.channel_laws.proofs.Faults.AllCalls.{IsFineRun, MayBring, MayBringAll, ends_fine, fine_after}
use Rattle.channel_laws.proofs.Faults.Awaiting.{awaited_place}
use Rattle.channel_laws.proofs.Faults.Closed.{FromNowOn, same_sent, still_after, undrained_after}
use Rattle.channel_laws.proofs.Faults.Judging.{IsFaulty}
use Rattle.channel_laws.proofs.Faults.Taking.{MayTake}
use Rattle.list_laws.proofs.Flags.{or_false}
use Rattle.list_laws.specs.Fronts.{IsFront}

-- ---- Calls behind others

after_both : {T : Type 0} → (first more : List (Call T)) (r : Run T) → after_calls (first ++ more) r ≡ after_calls more (after_calls first r)
after_both [] more r = refl
after_both (call ∷ first) more r = after_both first more (after_call call r)

from_now_on : {T : Type 0} → (P : Run T → Type 0) → AfterAllCalls {T = T} P → (body : List ℕ) (mark : Option ℕ) (first : List (Call T)) → FromNowOn P (after_calls first (begun (new_end body mark)))
from_now_on {T = T} P all body mark first more = subst P (after_both first more (begun (new_end body mark))) (all body mark (first ++ more))

fewer_came : {T : Type 0} → (bytes : List Marked) (calls first more : List (Call T)) → calls ≡ first ++ more → IsFront (arrived calls) bytes → IsFront (arrived first) bytes
fewer_came {T = T} bytes calls first more is front = (
  arrived more ++ front.0,
  front.1 ∙ ap (λ (cs : List (Call T)). arrived cs ++ front.0) is ∙ ap (λ bs. bs ++ front.0) (flat_map-append arrived_in first more) ∙ append_assoc (arrived first) (arrived more) front.0,
)

-- ---- At the beginning

pub first_fine : {T : Type 0} → (Fine : Cause → Type 0) (body : List ℕ) (mark : Option ℕ) → IsFineRun {T = T} Fine (begun (new_end body mark))
first_fine Fine body mark = record { fine = record { stop = tt; state = tt }; taken = tt; opening = λ is. refl }

abbrev Any : Cause → Type 0
Any cause = Unit {0}

any_brings : {T : Type 0} → (call : Call T) (e : EndValue T) → MayBring Any call e
any_brings (delivering piece mark) e = record { grammar = λ number fault. tt; eos = tt; stream = λ fault. tt }
any_brings ending e = tt
any_brings taking e = λ number reason first left is faulty came. tt
any_brings (commanding service name body tag mark) e = tt
any_brings (sending message mark) e = tt
any_brings putting_out e = tt
any_brings closing e = tt
any_brings draining e = tt

-- while the end is opening no message was taken
none_while_opening : {T : Type 0} → (body : List ℕ) (mark : Option ℕ) (calls : List (Call T)) → (after_calls calls (begun (new_end {T = T} body mark))).end.state ≡ Opening
    → flat_map incoming_of (after_calls calls (begun (new_end {T = T} body mark))).past.taken ≡ []
none_while_opening {T = T} body mark calls =
    let first = begun (new_end {T = T} body mark) in
    let i = fine_after Any calls first (λ before rest call is. any_brings call (after_calls before first).end) (first_fine Any body mark) in i.opening

-- ---- Since the end closed nothing has changed

record IsSince {T : Type 0} (before now : Run T) : Type 0 where
  messages : flat_map incoming_of now.past.taken ≡ flat_map incoming_of before.past.taken
  answered : (token : ℕ) → is_answered now.past.taken token ≡ is_answered before.past.taken token
  sent : sent_of now ≡ sent_of before

since : {T : Type 0} → (number : ℕ) (reason : Reason) (left : List Arrived) (r : Run T) (rest : List (Call T)) → FromNowOn TakesNothingClosed r → FromNowOn StaysClosed r
    → next_taken r.end ≡ broken number reason (record r.end { inbox = left }) → IsSince r (after_calls rest (after_call taking r))
since {T = T} number reason left r rest none stays is =
    let next = after_call taking r in
    let cause = Protocol number reason in
    let closed : is_closed next.end.state ≡ true = ap (λ (n : Option (Taken T) × EndValue T). is_closed n.1.state) is in
    let still = still_after rest next (λ more. none (taking ∷ more)) (λ more. stays (taking ∷ more)) closed in
    let taken : (after_calls rest next).past.taken ≡ r.past.taken ++ Closed cause ∷ [] = still.taken ∙ ap (λ (n : Option (Taken T) × EndValue T). r.past.taken ++ listed n.0) is in
    record {
      messages = ap (λ (ts : List (Taken T)). flat_map incoming_of ts) taken ∙ flat_map-append incoming_of r.past.taken (Closed cause ∷ []) ∙ append-nil (flat_map incoming_of r.past.taken);
      answered = λ token. ap (λ (ts : List (Taken T)). is_answered ts token) taken ∙ list_any-append _ r.past.taken (Closed cause ∷ []) ∙ or_false (is_answered r.past.taken token);
      sent = same_sent next (after_calls rest next) still.accepted still.held ∙ same_sent r next refl (ap (λ (n : Option (Taken T) × EndValue T). n.1.held) is);
    }

-- ---- The fault

abbrev closing_taken : (T : Type 0) → Cause → Taken T
closing_taken T cause = Closed cause

is_open : {T : Type 0} → (number : ℕ) (reason : Reason) (left : List Arrived) (r : Run T) → TakesNothingClosed r → next_taken r.end ≡ broken number reason (record r.end { inbox = left }) → is_closed r.end.state ≡ false
is_open {T = T} number reason left r none is = by_flag (is_closed r.end.state) refl
  where
    by_flag : (flag : Bool) → is_closed r.end.state ≡ flag → is_closed r.end.state ≡ false
    by_flag true closed =
        let something : None ≡ Some (closing_taken T (Protocol number reason)) = ap (λ (n : Option (Taken T) × EndValue T). n.0) (sym (none closed) ∙ is) in absurd cc
    by_flag false opened = opened

awaited_before : {T : Type 0} → (token : List ℕ) (before now : Run T) → IsSince before now → IsAwaited token now → IsAwaited token before
awaited_before {T = T} token before now s a = record {
  command = a.command;
  sent = subst (λ (xs : List (Issued T)). Contains xs a.command) s.sent a.sent;
  token_is = a.token_is;
  unanswered = sym (s.answered a.command.command.token) ∙ a.unanswered;
}

-- what is so when the message is taken
record IsMoment {T : Type 0} (r : Run T) : Type 0 where
  fresh : r.end.state ≡ Opening → flat_map incoming_of r.past.taken ≡ []
  counts : CountsAnswers r
  sends : SendsInOrder r
  undrained : r.past.drained ≡ []

fault_of : {T : Type 0} → (reason : Reason) (first : Arrived) (before now : Run T) → IsMoment before → IsSince before now → IsFaulty reason (said_in first.incoming.raw) before.end
    → IsFault reason first.incoming now
fault_of (Grammar fault) first before now m s faulty = faulty
fault_of Early first before now m s faulty = (s.messages ∙ m.fresh faulty.0, faulty.1)
fault_of Token first before now m s faulty =
    let none = faulty.2 in
    (faulty.0, faulty.1, λ awaited. let place = awaited_place faulty.0 before m.counts m.sends m.undrained (awaited_before faulty.0 before now s awaited) in let some = place.1 in absurd cc)

there : {T : Type 0} → (reason : Reason) (spoken : List Spoken) (first : Arrived) (left : List Arrived) (before now : Run T) → IsFront (received before) (messages_in spoken) → before.end.inbox ≡ first ∷ left
    → IsMoment before → IsSince before now → IsFaulty reason (said_in first.incoming.raw) before.end → IsThere reason spoken now
there reason spoken first left before now front inbox m s faulty =
    let taken = flat_map incoming_of before.past.taken in
    let others = map (λ a. a.incoming) left in
    record {
      faulty = first.incoming;
      behind = others ++ front.0;
      place = front.1 ∙ ap (λ (inboxed : List Arrived). (taken ++ map (λ a. a.incoming) inboxed) ++ front.0) inbox ∙ append_assoc taken (first.incoming ∷ others) front.0
          ∙ ap (λ ms. ms ++ first.incoming ∷ (others ++ front.0)) (sym s.messages);
      fault = fault_of reason first before now m s faulty;
    }

-- ---- The law

abbrev ThereBy : {T : Type 0} → Reason → List Spoken → Run T → Type 0
ThereBy (Grammar fault) spoken r = Unit {0}
ThereBy Early spoken r = IsThere Early spoken r
ThereBy Token spoken r = IsThere Token spoken r

-- a cause that is fine: where it is a fault of a message, that is there
abbrev ThereFor : {T : Type 0} → List Spoken → Run T → Cause → Type 0
ThereFor spoken r Own = Unit {0}
ThereFor spoken r Eos = Unit {0}
ThereFor spoken r Ended = Unit {0}
ThereFor spoken r (Protocol number reason) = ThereBy reason spoken r
ThereFor spoken r (Stream fault) = Unit {0}

there_by : {T : Type 0} → (reason : Reason) (spoken : List Spoken) (r : Run T) → IsThere reason spoken r → ThereBy reason spoken r
there_by (Grammar fault) spoken r t = tt
there_by Early spoken r t = t
there_by Token spoken r t = t

pub all_are_there : {T : Type 0} → WhereAQueueComes {T = T} FaultsAreThere
all_are_there {T = T} body mark calls spoken is_ended well front number reason ends_for = by_reason reason ends_for
  where
    start : Run T
    start = begun (new_end body mark)

    now : Run T
    now = after_calls calls start

    Fine : Cause → Type 0
    Fine cause = ThereFor spoken now cause

    taking_brings : (before rest : List (Call T)) → calls ≡ before ++ taking ∷ rest → MayTake Fine (after_calls before start).end.inbox (after_calls before start).end
    taking_brings before rest is n why first left inbox faulty came =
        let r = after_calls before start in
        let none = from_now_on TakesNothingClosed takes_nothing_closed body mark before in
        let stays = from_now_on StaysClosed stays_closed body mark before in
        let m : IsMoment r = record {
          fresh = none_while_opening body mark before;
          counts = counts_answers body mark before;
          sends = sends_in_order body mark before;
          undrained = undrained_after before start (stays_closed body mark) refl (is_open n why left r (takes_nothing_closed body mark before) came);
        } in
        let received_yet = (receives_in_order body mark before spoken is_ended well (fewer_came (bytes_of (queue_of spoken is_ended)) calls before (taking ∷ rest) is front)).front in
        let later : now ≡ after_calls rest (after_call taking r) = ap (λ (cs : List (Call T)). after_calls cs start) is ∙ after_both before (taking ∷ rest) start in
        let t = there why spoken first left r (after_calls rest (after_call taking r)) received_yet inbox m (since n why left r rest none stays came) faulty in
        there_by why spoken now (subst (λ (x : Run T). IsThere why spoken x) (sym later) t)

    brings : MayBringAll Fine calls start
    brings before rest (delivering piece other) is = record { grammar = λ n fault. tt; eos = tt; stream = λ fault. tt }
    brings before rest ending is = tt
    brings before rest taking is = taking_brings before rest is
    brings before rest (commanding service name data_of tag other) is = tt
    brings before rest (sending message other) is = tt
    brings before rest putting_out is = tt
    brings before rest closing is = tt
    brings before rest draining is = tt

    fine : IsFineRun Fine now
    fine = fine_after Fine calls start brings (first_fine Fine body mark)

    by_reason : (why : Reason) → EndsFor now (Protocol number why) → IsThere why spoken now
    by_reason (Grammar fault) is = absurd (ends_fairly body mark calls spoken is_ended well front (Protocol number (Grammar fault)) is)
    by_reason Early is = ends_fine Fine now (Protocol number Early) fine is
    by_reason Token is = ends_fine Fine now (Protocol number Token) fine is
