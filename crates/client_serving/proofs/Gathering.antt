-- What a client has to send goes out, one message after the other; messages are taken one after the other.
use Rattle.std.proofs.Common.{◌≡◌, ℕ, ◌+◌, ◌-◌, ◌<◌, Bool, true, false, List, [], ◌∷◌, length, Option, Some, None, refl, sym, ap, ◌∙◌, arith, subst}
use Rattle.std.specs.Prelude.{is_some}
use Rattle.std.proofs.lemmas.Option.{none-some, same_Some}
use Rattle.channel_core.specs.EndValue.{EndValue}
use Rattle.channel_core.specs.declared.held.Outgoing.{Outgoing}
use Rattle.client_node.specs.Client.{after_giving, given}
use Rattle.client_node.specs.ClientValue.{ClientValue}
use Rattle.channel_core.specs.declared.states.Cause.{Cause}
use Rattle.serving_wires.specs.Going.{Goes, here, told as has_told}
use Rattle.serving_wires.specs.Order.{closes, queues}
use Rattle.serving_wires.specs.Process.{Process, done}
use Rattle.serving_wires.specs.Sending.{closed_if, ordered}
use Rattle.serving_wires.proofs.Leading.{Rows}
use Rattle.client_serving.specs.Begun.{Tells, all_queued}
use Rattle.client_serving.specs.Serving.{all_gathered, cause_of, client_emptied, closed_for, one_taken, queue_of, sends, taken_so_many, told, told_on}
use Rattle.client_serving.specs.ServingValue.{ServingValue}
use Rattle.list_laws.proofs.Numbers.{one_left}

-- ---- a client gives the first message that it has queued

pub record GoesOn (c next : ClientValue) (out : Outgoing) : Type 0 where
  pub queue : queue_of c.channel ≡ out ∷ queue_of next.channel
  pub same : client_emptied next ≡ client_emptied c
  pub fewer : length (queue_of next.channel) < length (queue_of c.channel)

abbrev pub with_end : Bool → List Outgoing → EndValue ℕ → ClientValue → ClientValue
with_end spent queue e c = record c { channel = Some (record e { is_spent = spent; queued = queue }) }

goes_by : (spent : Bool) (queue : List Outgoing) (e : EndValue ℕ) (c : ClientValue) (out : Outgoing)
    → given (with_end spent queue e c) ≡ Some out → GoesOn (with_end spent queue e c) (after_giving (with_end spent queue e c)) out
goes_by true queue e c out gives = absurd (none-some out gives)
goes_by false [] e c out gives = absurd (none-some out gives)
goes_by false (x ∷ xs) e c out gives = record { queue = ap (λ y. y ∷ xs) (same_Some x out gives); same = refl; fewer = omega arith }

goes_from : (channel : Option (EndValue ℕ)) (c : ClientValue) (out : Outgoing) → given (record c { channel = channel }) ≡ Some out
    → GoesOn (record c { channel = channel }) (after_giving (record c { channel = channel })) out
goes_from None c out gives = absurd (none-some out gives)
goes_from (Some e) c out gives = goes_by e.is_spent e.queued e c out gives

pub goes_on : (c next : ClientValue) (out : Outgoing) → given c ≡ Some out → next ≡ after_giving c → GoesOn c next out
goes_on c next out gives is = subst (λ x. GoesOn c x out) (sym is) (goes_from c.channel c out gives)

-- ---- one that gives nothing has nothing queued

pub record IsDone (c next : ClientValue) : Type 0 where
  pub queue : queue_of c.channel ≡ []
  pub same : next ≡ client_emptied c

done_by : (spent : Bool) (queue : List Outgoing) (e : EndValue ℕ) (c : ClientValue) → given (with_end spent queue e c) ≡ None
    → IsDone (with_end spent queue e c) (after_giving (with_end spent queue e c))
done_by true queue e c gives = record { queue = refl; same = refl }
done_by false [] e c gives = record { queue = refl; same = refl }
done_by false (x ∷ xs) e c gives = absurd (none-some x (sym gives))

done_from : (channel : Option (EndValue ℕ)) (c : ClientValue) → given (record c { channel = channel }) ≡ None
    → IsDone (record c { channel = channel }) (after_giving (record c { channel = channel }))
done_from None c gives = record { queue = refl; same = refl }
done_from (Some e) c gives = done_by e.is_spent e.queued e c gives

-- all that it has was taken out
pub gathered_at_last : (first c next : ClientValue) → given c ≡ None → next ≡ after_giving c → client_emptied c ≡ client_emptied first → next ≡ client_emptied first
gathered_at_last first c next gives is clients = (subst (λ x. IsDone c x) (sym is) (done_from c.channel c gives)).same ∙ clients

pub all_are_queued : (channel : ℕ) (first c : ClientValue) (olds rows : Rows) → given c ≡ None → all_queued channel (queue_of c.channel) rows ≡ all_queued channel (queue_of first.channel) olds
    → rows ≡ all_queued channel (queue_of first.channel) olds
all_are_queued channel first c olds rows gives same =
    ap (λ (outs : List Outgoing). all_queued channel outs rows) (sym (done_from c.channel c gives).queue) ∙ same

-- ---- so the wires are told, without a call

sends_goes : (peer : List ℕ) (n channel : ℕ) (outs : List Outgoing) (next q : Process ServingValue) (olds news : Rows) → Goes peer n n next q (all_queued channel outs olds) news []
    → Goes peer n n (sends channel outs next) q olds news []
sends_goes peer n channel [] next q olds news goes = goes
sends_goes peer n channel (out ∷ outs) next q olds news goes =
    has_told n n (queues channel out.bytes) (sends channel outs next) q olds news [] (sends_goes peer n channel outs next q (ordered (queues channel out.bytes) olds) news goes)

-- the channel is closed, or isn't
pub told_closing : (cause : Option Cause) (channel : ℕ) (s : ServingValue) (c : ClientValue) (olds mids news : Rows) → s.channel ≡ Some channel → mids ≡ all_queued channel (queue_of s.client.channel) olds
    → c ≡ client_emptied s.client → cause ≡ cause_of c.channel → news ≡ closed_if (is_some cause) channel mids → Tells s (record s { client = c }) olds news
unfolding told all_gathered
told_closing cause channel s c olds mids news at queued is because so = λ peer n.
    let outs = queue_of s.client.channel in
    let now : ServingValue = record s { client = client_emptied s.client } in
    let same : cause_of now.client.channel ≡ cause = ap (λ (k : ClientValue). cause_of k.channel) (sym is) ∙ sym because in
    let closes_so : Goes peer n n (closed_for (cause_of now.client.channel) channel now) (done now) (all_queued channel outs olds) news [] =
    subst (λ (k : Option Cause). Goes peer n n (closed_for k channel now) (done now) (all_queued channel outs olds) news []) (sym same)
    (subst (λ (rs : Rows). Goes peer n n (closed_for cause channel now) (done now) rs news []) queued (by_cause cause peer n now so)) in
    subst (λ (k : ClientValue). Goes peer n n (told_on s.channel outs now) (done (record s { client = k })) olds news []) (sym is)
    (subst (λ (o : Option ℕ). Goes peer n n (told_on o outs now) (done now) olds news []) (sym at) (sends_goes peer n channel outs (closed_for (cause_of now.client.channel) channel now) (done now) olds news closes_so))
  where
    by_cause : (found : Option Cause) (peer : List ℕ) (n : ℕ) (now : ServingValue) → news ≡ closed_if (is_some found) channel mids → Goes peer n n (closed_for found channel now) (done now) mids news []
    by_cause None peer n now so = subst (λ (rs : Rows). Goes peer n n (done now) (done now) mids rs []) (sym so) (here n (done now) mids)
    by_cause (Some found) peer n now so =
        has_told n n (closes channel) (done now) (done now) mids news []
        (subst (λ (rs : Rows). Goes peer n n (done now) (done now) (ordered (closes channel) mids) rs []) (sym so) (here n (done now) (ordered (closes channel) mids)))

-- ---- of the messages that are to be taken, one is

pub one_more_taken : (count counter : ℕ) (s : ServingValue) → counter < count → taken_so_many (count - counter) s ≡ taken_so_many (count - (counter + 1)) (one_taken s)
one_more_taken count counter s more = ap (λ n. taken_so_many n s) (one_left count counter more)
