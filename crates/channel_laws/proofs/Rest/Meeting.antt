-- Two ends between which nothing is under way rest together.
use Rattle.std.proofs.Common.{◌≡◌, ◌≢◌, ℕ, ◌≤◌, Bool, true, false, not, cond, ◌&&◌, ◌||◌, List, [], ◌∷◌, ◌++◌, length, map, Option, None, is_some, inl, inr, refl, sym, ap, ◌∙◌, subst, arith, append-nil}
use Rattle.std.specs.Prelude.{ℤ, pos, int_lt}
use Rattle.std.specs.List.{filter, flat_map, list_any}
use Rattle.tcf_message.specs.Message.{MessageValue, command, event, final, flow, not_known, progress, spelling}
use Rattle.channel_core.specs.Arrivals.{AreSpoken, Spoken, arrived, bytes_of, enters, level_after, level_by, queue_of, all_heard, all_said}
use Rattle.channel_core.specs.Beginning.{new_end}
use Rattle.channel_core.specs.Closing.{is_closed}
use Rattle.channel_core.specs.Greeting.{is_greeting}
use Rattle.channel_core.specs.Holding.{is_live}
use Rattle.channel_core.specs.QueueLaws.{is_message, is_plain, sent_in}
use Rattle.channel_core.specs.Receiving.{is_over}
use Rattle.channel_core.specs.ReceivingLaws.{CanBeRead, IsFairCause, incoming_of, received}
use Rattle.channel_core.specs.RunLaws.{EndsAs, is_command, is_end, is_flow, sent_of}
use Rattle.channel_core.specs.Runs.{Run}
use Rattle.channel_core.specs.Wire.{end_of_stream, hello as hello_word, locator, said}
use Rattle.channel_core.specs.declared.held.Arrived.{Arrived}
use Rattle.channel_core.specs.declared.held.Outgoing.{Outgoing}
use Rattle.channel_core.specs.declared.states.Cause.{Cause}
use Rattle.channel_core.specs.declared.states.Cause.TheVariants.{Ended, Eos, Own, Protocol, Stream}
use Rattle.channel_core.specs.declared.states.EndState.{EndState}
use Rattle.channel_core.specs.declared.states.EndState.TheVariants.{Closed, Live, Opening, Reopening}
use Rattle.channel_core.specs.declared.taking.Taken.{Taken}
use Rattle.channel_core.proofs.Received as receiving
use Rattle.channel_core.proofs.Running.{all_can_be_read, all_end_once, all_free, all_in_order}
use Rattle.channel_core.proofs.Sent.{all_what_is_sent}
use Rattle.channel_laws.specs.Faults.{is_ending}
use Rattle.channel_laws.proofs.Faults.Calling.{all_by_calls}
use Rattle.channel_laws.specs.Meeting.{AtRest, HasAll, IsLasting, Side, WhereNothingIsUnderWay, as_comes, run_of}
use Rattle.channel_laws.specs.Rest.{StandsAs, lacks_answer, lacks_hello}
use Rattle.channel_laws.proofs.Rest.AllCalls.{all_pend, all_stand}
use Rattle.channel_laws.proofs.Rest.Ending.{all_hear}
use Rattle.channel_laws.proofs.Rest.Levels.{all_let_out}
use Rattle.channel_laws.proofs.Rest.Spelling.{framed_one}
use Rattle.list_laws.proofs.Flags.{same_flag}
use Rattle.list_laws.specs.Fronts.{IsFront}

-- ---- A queue

no_end : (spoken : List Spoken) → filter is_end (queue_of spoken false) ≡ []
no_end [] = refl
no_end (s ∷ spoken) = by_message s.message s.mark ∙ no_end spoken
  where
    by_message : (m : MessageValue) (mark : Option ℕ) → filter is_end (said m mark ∷ queue_of spoken false) ≡ filter is_end (queue_of spoken false)
    by_message (command token service name body) mark = refl
    by_message (final token body) mark = refl
    by_message (progress token body) mark = refl
    by_message (not_known token) mark = refl
    by_message (event service name body) mark = refl
    by_message (flow level) mark = refl

some_end : (front : List Outgoing) → filter is_end (front ++ end_of_stream ∷ []) ≡ [] → ⊥
some_end [] is = cc
some_end (o ∷ front) is = by_flag (is_end o) is (some_end front)
  where
    by_flag : (flag : Bool) → cond flag (o ∷ filter is_end (front ++ end_of_stream ∷ [])) (filter is_end (front ++ end_of_stream ∷ [])) ≡ [] → (filter is_end (front ++ end_of_stream ∷ []) ≡ [] → ⊥) → ⊥
    by_flag true is rest = absurd cc
    by_flag false is rest = rest is

-- a queue that ends so has the end of the stream
pub is_told_end : (spoken : List Spoken) (is_ended : Bool) (front : List Outgoing) → queue_of spoken is_ended ≡ front ++ end_of_stream ∷ [] → is_ended ≡ true
is_told_end spoken true front is = refl
is_told_end spoken false front is = absurd (some_end front (sym (ap (filter is_end) is) ∙ no_end spoken))

-- its messages are those that enter an inbox
abbrev pub entering : List Spoken → List Spoken
entering spoken = filter (λ s. enters s.message) spoken

abbrev AreFramed : List Spoken → Bool → Type 0
AreFramed spoken is_ended = filter is_message (queue_of spoken is_ended) ≡ all_said (entering spoken)

are_framed : (spoken : List Spoken) (is_ended : Bool) → AreFramed spoken is_ended
are_framed [] true = refl
are_framed [] false = refl
are_framed (s ∷ spoken) is_ended = by_message s.message s.mark (are_framed spoken is_ended)
  where
    by_message : (m : MessageValue) (mark : Option ℕ) → AreFramed spoken is_ended → AreFramed (record { message = m; mark = mark } ∷ spoken) is_ended
    by_message (command token service name body) mark rest = ap (λ os. said (command token service name body) mark ∷ os) rest
    by_message (final token body) mark rest = ap (λ os. said (final token body) mark ∷ os) rest
    by_message (progress token body) mark rest = ap (λ os. said (progress token body) mark ∷ os) rest
    by_message (not_known token) mark rest = ap (λ os. said (not_known token) mark ∷ os) rest
    by_message (event service name body) mark rest = ap (λ os. said (event service name body) mark ∷ os) rest
    by_message (flow level) mark rest = rest

pub entering_formed : (spoken : List Spoken) → AreSpoken spoken → AreSpoken (entering spoken)
entering_formed [] all = tt
entering_formed (s ∷ spoken) all = by_flag (enters s.message) (entering_formed spoken all.1)
  where
    by_flag : (flag : Bool) → AreSpoken (entering spoken) → AreSpoken (cond flag (s ∷ entering spoken) (entering spoken))
    by_flag true rest = (all.0, rest)
    by_flag false rest = rest

-- ---- With its marks, or without

abbrev pub said_as : Bool → List Spoken → List Spoken
said_as true spoken = spoken
said_as false spoken = map (λ (s : Spoken). record s { mark = None }) spoken

pub queue_as : (is_marked : Bool) (spoken : List Spoken) (is_ended : Bool) → as_comes is_marked (queue_of spoken is_ended) ≡ queue_of (said_as is_marked spoken) is_ended
queue_as true spoken is_ended = refl
queue_as false [] true = refl
queue_as false [] false = refl
queue_as false (s ∷ spoken) is_ended = ap (λ os. said s.message None ∷ os) (queue_as false spoken is_ended)

pub formed_as : (is_marked : Bool) (spoken : List Spoken) → AreSpoken spoken → AreSpoken (said_as is_marked spoken)
formed_as true spoken all = all
formed_as false [] all = tt
formed_as false (s ∷ spoken) all = (all.0, formed_as false spoken all.1)

level_as : (is_marked : Bool) (level : ℤ) (spoken : List Spoken) → level_after level (said_as is_marked spoken) ≡ level_after level spoken
level_as true level spoken = refl
level_as false level [] = refl
level_as false level (s ∷ spoken) = level_as false (level_by level s.message) spoken

filter_as : (is_marked : Bool) (queue : List Outgoing) → as_comes is_marked (filter is_message queue) ≡ filter is_message (as_comes is_marked queue)
filter_as true queue = refl
filter_as false [] = refl
filter_as false (o ∷ queue) = by_flag (is_message o) (filter_as false queue)
  where
    by_flag : (flag : Bool) → as_comes false (filter is_message queue) ≡ filter is_message (as_comes false queue)
        → as_comes false (cond flag (o ∷ filter is_message queue) (filter is_message queue)) ≡ cond flag ((record o { mark = None }) ∷ filter is_message (as_comes false queue)) (filter is_message (as_comes false queue))
    by_flag true rest = ap (λ os. (record o { mark = None }) ∷ os) rest
    by_flag false rest = rest

-- two lists of messages that are queued alike are taken alike
heard_one : (xs ys : List Spoken) → all_said xs ≡ all_said ys → all_heard xs ≡ all_heard ys
heard_one [] [] is = refl
heard_one [] (y ∷ ys) is = absurd cc
heard_one (x ∷ xs) [] is = absurd cc
heard_one (x ∷ xs) (y ∷ ys) is =
    let one : said x.message x.mark ≡ said y.message y.mark = cc in
    let rest : all_said xs ≡ all_said ys = cc in
    let spelled : spelling x.message ≡ spelling y.message = framed_one (spelling x.message) (spelling y.message) (ap (λ (o : Outgoing). o.bytes) one) in
    let marks : x.mark ≡ y.mark = ap (λ (o : Outgoing). o.mark) one in
    ap (λ raw. record { raw = raw; mark = x.mark } ∷ all_heard xs) spelled
    ∙ ap (λ mark. record { raw = spelling y.message; mark = mark } ∷ all_heard xs) marks
    ∙ ap (λ ms. record { raw = spelling y.message; mark = y.mark } ∷ ms) (heard_one xs ys rest)

-- ---- One end hears what the other one queued

-- what the other one queued, as messages
abbrev pub readable : {T : Type 0} → (s : Side T) → IsLasting s → CanBeRead (run_of s)
readable s l = all_can_be_read s.hello s.mark s.calls l.formed l.readable

-- its messages, as they come
pub queued_said : {T : Type 0} {r : Run T} → (is_marked : Bool) (q : CanBeRead r) → as_comes is_marked (filter is_message r.past.queued) ≡ all_said (entering (said_as is_marked q.spoken))
queued_said {r = r} is_marked q =
    filter_as is_marked r.past.queued ∙ ap (λ os. filter is_message (as_comes is_marked os)) q.queue ∙ ap (filter is_message) (queue_as is_marked q.spoken q.is_ended)
    ∙ are_framed (said_as is_marked q.spoken) q.is_ended

came_as : {T U : Type 0} → (is_marked : Bool) (s : Side T) (other : Side U) (spoken : List Spoken) (is_ended : Bool) → HasAll is_marked s other → (run_of other).past.queued ≡ queue_of spoken is_ended
    → bytes_of (as_comes is_marked (run_of other).past.given) ≡ bytes_of (queue_of (said_as is_marked spoken) is_ended)
came_as is_marked s other spoken is_ended h is =
    let given = sym (append-nil (run_of other).past.given) ∙ ap (λ os. (run_of other).past.given ++ os) (sym h.given) ∙ all_in_order other.hello other.mark other.calls ∙ is in
    ap (λ os. bytes_of (as_comes is_marked os)) given ∙ ap bytes_of (queue_as is_marked spoken is_ended)

all_came : {T U : Type 0} → (is_marked : Bool) (s : Side T) (other : Side U) (spoken : List Spoken) (is_ended : Bool) → HasAll is_marked s other → is_closed (run_of s).end.state ≡ false
    → (run_of other).past.queued ≡ queue_of spoken is_ended → arrived s.calls ≡ bytes_of (queue_of (said_as is_marked spoken) is_ended)
all_came is_marked s other spoken is_ended h opened is = h.came opened ∙ came_as is_marked s other spoken is_ended h is

came_front : {T U : Type 0} → (is_marked : Bool) (s : Side T) (other : Side U) (spoken : List Spoken) (is_ended : Bool) → HasAll is_marked s other → (run_of other).past.queued ≡ queue_of spoken is_ended
    → IsFront (arrived s.calls) (bytes_of (queue_of (said_as is_marked spoken) is_ended))
came_front is_marked s other spoken is_ended h is = (h.front.0, sym (came_as is_marked s other spoken is_ended h is) ∙ h.front.1)

-- without a last entry, it is over only where it is closed
closed_of_over : {T U : Type 0} → (is_marked : Bool) (s : Side T) (other : Side U) → HasAll is_marked s other → is_over (run_of s).end ≡ true → is_closed (run_of s).end.state ≡ true
closed_of_over is_marked s other h over = by_flag (is_closed (run_of s).end.state) (sym (ap (λ stop. is_closed (run_of s).end.state || is_some stop) h.stop) ∙ over)
  where
    by_flag : (flag : Bool) → (flag || false) ≡ true → flag ≡ true
    by_flag true is = refl
    by_flag false is = absurd cc

not_over : {T U : Type 0} → (is_marked : Bool) (s : Side T) (other : Side U) → HasAll is_marked s other → is_closed (run_of s).end.state ≡ false → is_over (run_of s).end ≡ false
not_over is_marked s other h opened = ap (λ flag. flag || is_some (run_of s).end.stop) opened ∙ ap is_some h.stop

hears_end : {T U : Type 0} → (is_marked : Bool) (s : Side T) (other : Side U) → IsLasting other → HasAll is_marked s other → (front : List Outgoing) → (run_of other).past.queued ≡ front ++ end_of_stream ∷ []
    → is_closed (run_of s).end.state ≡ true
hears_end is_marked s other l h front ends = by_flag (is_closed (run_of s).end.state) refl
  where
    by_flag : (flag : Bool) → is_closed (run_of s).end.state ≡ flag → is_closed (run_of s).end.state ≡ true
    by_flag true closed = closed
    by_flag false opened =
        let q = readable other l in
        let told = is_told_end q.spoken q.is_ended front (sym q.queue ∙ ends) in
        closed_of_over is_marked s other h
        (all_hear s.hello s.mark s.calls (said_as is_marked q.spoken) q.is_ended (formed_as is_marked q.spoken q.well_formed) (came_front is_marked s other q.spoken q.is_ended h q.queue) told
        (all_came is_marked s other q.spoken q.is_ended h opened q.queue))

-- ---- Both are closed

abbrev pub ends_as : {T : Type 0} → (s : Side T) (cause : Cause) → (run_of s).end.state ≡ Closed cause → EndsAs (Closed cause) (run_of s).past.queued
ends_as s cause is = let P : EndState → Type 0 = λ state. EndsAs state (run_of s).past.queued in subst P is (all_end_once s.hello s.mark s.calls).ends

closes_for : {T U : Type 0} → (is_marked others_are : Bool) (s : Side T) (other : Side U) → IsLasting s → IsLasting other → HasAll is_marked s other → HasAll others_are other s → (cause : Cause)
    → (run_of s).end.state ≡ Closed cause → is_closed (run_of other).end.state ≡ true
closes_for is_marked others_are s other l m h g Own is = let e = ends_as s Own is in hears_end others_are other s l g e.0 e.1
closes_for is_marked others_are s other l m h g Eos is =
    let q = readable other m in
    let fair : IsFairCause (said_as is_marked q.spoken) q.is_ended (received (run_of s)) Eos
    = receiving.all_fair s.hello s.mark s.calls (said_as is_marked q.spoken) q.is_ended (formed_as is_marked q.spoken q.well_formed) (came_front is_marked s other q.spoken q.is_ended h q.queue) Eos (inr (inl is)) in
    q.closed fair.0
closes_for is_marked others_are s other l m h g Ended is =
    let ends : list_any is_ending s.calls ≡ true = (all_by_calls s.hello s.mark s.calls).ended (inr (inl is)) in
    let lasting = l.lasting in
    absurd cc
closes_for is_marked others_are s other l m h g (Protocol number reason) is = let e = ends_as s (Protocol number reason) is in hears_end others_are other s l g e.0 e.1
closes_for is_marked others_are s other l m h g (Stream fault) is = let e = ends_as s (Stream fault) is in hears_end others_are other s l g e.0 e.1

closes_too : {T U : Type 0} → (is_marked others_are : Bool) (s : Side T) (other : Side U) → IsLasting s → IsLasting other → HasAll is_marked s other → HasAll others_are other s
    → is_closed (run_of s).end.state ≡ true → is_closed (run_of other).end.state ≡ true
closes_too is_marked others_are s other l m h g closed = by_state (run_of s).end.state refl closed
  where
    by_state : (state : EndState) → (run_of s).end.state ≡ state → is_closed state ≡ true → is_closed (run_of other).end.state ≡ true
    by_state Opening is closed = absurd cc
    by_state Live is closed = absurd cc
    by_state Reopening is closed = absurd cc
    by_state (Closed cause) is closed = closes_for is_marked others_are s other l m h g cause is

-- ---- An open end

live_of : {T : Type 0} → (state : EndState) (r : Run T) → is_closed state ≡ false → StandsAs state r → state ≢ Opening → lacks_answer (sent_of r) r.past.taken ≡ false → lacks_hello (sent_of r) r.past.taken ≡ false
    → state ≡ Live
live_of Opening r opened s begun answered heard = absurd (begun refl)
live_of Live r opened s begun answered heard = refl
live_of Reopening r opened s begun answered heard =
    let none : (lacks_answer (sent_of r) r.past.taken || lacks_hello (sent_of r) r.past.taken) ≡ false = ap (λ b. b || lacks_hello (sent_of r) r.past.taken) answered ∙ heard in
    let some = s.1 in
    absurd cc
live_of (Closed cause) r opened s begun answered heard = absurd cc

greeted_of : {T : Type 0} → (state : EndState) (r : Run T) → is_closed state ≡ false → StandsAs state r → state ≢ Opening → list_any is_greeting r.past.taken ≡ true
greeted_of Opening r opened s begun = absurd (begun refl)
greeted_of Live r opened s begun = s.0
greeted_of Reopening r opened s begun = s.0
greeted_of (Closed cause) r opened s begun = absurd cc

-- without a message there is none but commands either
plain_none : (queue : List Outgoing) → filter is_message queue ≡ [] → filter is_plain queue ≡ []
plain_none [] none = refl
plain_none (o ∷ queue) none = by_flags (is_flow o) (is_end o) (is_command o) none (plain_none queue)
  where
    by_flags : (f e c : Bool) → cond (not (f || e)) (o ∷ filter is_message queue) (filter is_message queue) ≡ [] → (filter is_message queue ≡ [] → filter is_plain queue ≡ [])
        → cond (not (f || (e || c))) (o ∷ filter is_plain queue) (filter is_plain queue) ≡ []
    by_flags true e c none rest = rest none
    by_flags false true c none rest = rest none
    by_flags false false c none rest = absurd cc

-- no message is none, with its marks or without
none_as : (is_marked : Bool) (queue : List Outgoing) → as_comes is_marked queue ≡ [] → queue ≡ []
none_as true queue is = is
none_as false [] is = refl
none_as false (o ∷ queue) is = absurd cc

none_said : (spoken : List Spoken) → all_heard spoken ≡ [] → all_said spoken ≡ []
none_said [] is = refl
none_said (s ∷ spoken) is = absurd cc

at_rest : {T U : Type 0} → (is_marked others_are : Bool) (s : Side T) (other : Side U) → IsLasting other → HasAll is_marked s other → HasAll others_are other s
    → is_closed (run_of s).end.state ≡ false → is_closed (run_of other).end.state ≡ false → AtRest is_marked s other
at_rest {T = T} {U = U} is_marked others_are s other m h g opened open_too = record {
  messages = messages;
  formed = formed;
  queued = queued_is;
  heard = heard_is;
  taken = λ spoken all is. heard_is ∙ heard_one messages spoken (sym queued_is ∙ is);
  greeted = greeted_of r.end.state r opened stands begun_is;
  told = told_is;
  live = live_of r.end.state r opened stands begun_is;
  held = held_is;
  pending = λ live each. (all_pend s.hello s.mark s.calls).none opened (held_is live) each;
}
  where
    r : Run T
    r = run_of s

    q : CanBeRead (run_of other)
    q = readable other m

    comes : List Spoken
    comes = said_as is_marked q.spoken

    messages : List Spoken
    messages = entering comes

    all_formed : AreSpoken comes
    all_formed = formed_as is_marked q.spoken q.well_formed

    formed : AreSpoken messages
    formed = entering_formed comes all_formed

    stands : StandsAs r.end.state r
    stands = all_stand s.hello s.mark s.calls

    over : is_over r.end ≡ false
    over = not_over is_marked s other h opened

    complete : arrived s.calls ≡ bytes_of (queue_of comes q.is_ended)
    complete = all_came is_marked s other q.spoken q.is_ended h opened q.queue

    front : IsFront (arrived s.calls) (bytes_of (queue_of comes q.is_ended))
    front = came_front is_marked s other q.spoken q.is_ended h q.queue

    heard_is : flat_map incoming_of r.past.taken ≡ all_heard messages
    heard_is =
        sym (append-nil (flat_map incoming_of r.past.taken)) ∙ ap (λ (inbox : List Arrived). flat_map incoming_of r.past.taken ++ map (λ a. a.incoming) inbox) (sym h.inbox)
        ∙ (receiving.all_in_order s.hello s.mark s.calls comes q.is_ended all_formed front).all over complete

    queued_is : as_comes is_marked (filter is_message (run_of other).past.queued) ≡ all_said messages
    queued_is = queued_said is_marked q

    told_is : int_lt (pos 0) r.end.told ≡ false
    told_is =
        let few : length (run_of other).end.inbox ≤ 50 = let none : length (run_of other).end.inbox ≡ 0 = ap length g.inbox in omega arith in
        ap (int_lt (pos 0)) ((receiving.all_in_order s.hello s.mark s.calls comes q.is_ended all_formed front).all_told over complete ∙ level_as is_marked (pos 0) q.spoken)
        ∙ all_let_out other.hello other.mark other.calls open_too few q.spoken q.is_ended q.well_formed q.queue

    begun_is : r.end.state ≢ Opening
    begun_is opening =
        let P : EndState → Type 0 = λ state. StandsAs state r in
        let none : r.past.taken ≡ [] = subst P opening stands in
        let empty : all_heard messages ≡ [] = sym heard_is ∙ ap (λ (ts : List (Taken T)). flat_map incoming_of ts) none in
        let nothing : filter is_message (run_of other).past.queued ≡ [] = none_as is_marked (filter is_message (run_of other).past.queued) (queued_is ∙ none_said messages empty) in
        let some = all_what_is_sent {T = U} other.hello other.mark other.calls in
        let hello : said (event locator hello_word other.hello) other.mark ∷ sent_in other.calls (new_end {T = U} other.hello other.mark) ≡ [] = sym some ∙ plain_none (run_of other).past.queued nothing in
        cc

    held_is : r.end.state ≡ Live → r.end.held ≡ []
    held_is live = all_free s.hello s.mark s.calls (ap (λ state. is_live state && not (int_lt (pos 0) r.end.told)) live ∙ ap not told_is)

pub all_rest_together : {T U : Type 0} → WhereNothingIsUnderWay T U
all_rest_together is_marked others_are s other l m h g =
    let closed = same_flag (is_closed (run_of s).end.state) (is_closed (run_of other).end.state) (closes_too is_marked others_are s other l m h g) (closes_too others_are is_marked other s m l g h) in
    record {
      closed = closed;
      first = λ opened. at_rest is_marked others_are s other m h g opened (sym closed ∙ opened);
      second = λ opened. at_rest others_are is_marked other s l g h (sym closed ∙ opened) opened;
    }
