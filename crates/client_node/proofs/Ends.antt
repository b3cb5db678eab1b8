-- What each step of an end leaves: of one that isn't closed the pending commands and the last token, and a closed one as it is.
use Rattle.std.proofs.Common.{◌≡◌, ℕ, ◌+◌, Bool, true, false, List, [], ◌∷◌, ◌++◌, length, Option, Some, None, Result, Ok, Err, refl, ap, ap₂, sym, subst, ◌∙◌}
use Rattle.std.specs.Prelude.{if◌then◌else◌, is_some}
use Rattle.std.specs.List.{AllByRecursion}
use Rattle.std.proofs.lemmas.Bool.{or_left}
use Rattle.stream_escape.specs.Fed.{fed}
use Rattle.stream_escape.specs.declared.stream.Item.{Item}
use Rattle.stream_escape.specs.declared.stream.Item.TheVariants as items
use Rattle.stream_escape.specs.declared.stream.StreamFault.{StreamFault}
use Rattle.tcf_message.specs.Message.{MessageValue, command, event, final, flow, not_known, progress, reading}
use Rattle.tcf_message.specs.declared.message.MessageFault.{MessageFault}
use Rattle.channel_core.specs.Closing.{is_closed}
use Rattle.channel_core.specs.EndValue.{EndValue}
use Rattle.channel_core.specs.Holding.{is_free, let_out, released, sent_out}
use Rattle.channel_core.specs.Level.{is_due, level_of, leveled}
use Rattle.channel_core.specs.Receiving.{came_by, counted, delivered, ended, entered, heard, is_over, item_came, stopped_by}
use Rattle.channel_core.specs.Sending.{commanded, made, queued, refusal_of, sent_or_held}
use Rattle.channel_core.specs.Taking.{answered, greeted, is_of, next_taken, redirected, state_greeted, stop_taken, taken_from}
use Rattle.channel_core.specs.declared.held.Arrived.{Arrived}
use Rattle.channel_core.specs.declared.held.Held.{Held}
use Rattle.channel_core.specs.declared.sending.SendRefusal.TheVariants.{NotOpen}
use Rattle.channel_core.specs.declared.states.EndState.{EndState}
use Rattle.channel_core.specs.declared.states.EndState.TheVariants.{Closed, Live, Opening, Reopening}
use Rattle.client_node.specs.Client.{without_first}
use Rattle.list_laws.proofs.AllLists.{all_push}

-- a message that enters an inbox
abbrev pub IsMessage : Result MessageValue MessageFault → Type 0
IsMessage (Err fault) = ⊥
IsMessage (Ok (flow level)) = ⊥
IsMessage m = Unit {0}

abbrev pub IsReadable : Arrived → Type 0
IsReadable arrived = IsMessage (reading arrived.incoming.raw)

-- an end that isn't closed, with these pending commands and this last token
pub record IsOpen (last : ℕ) (rows : List (ℕ × ℕ)) (e : EndValue ℕ) : Type 0 where
  pub pending : e.pending ≡ rows
  pub last_is : e.last ≡ last
  pub staying : is_closed e.state ≡ false
  pub readable : AllByRecursion IsReadable e.inbox

-- a closed end, whose inbox is empty
pub record IsEnded (e : EndValue ℕ) : Type 0 where
  pub closed : is_closed e.state ≡ true
  pub inbox : e.inbox ≡ []
  pub stop : e.stop ≡ None

-- ---- an end that isn't closed

module _ (last : ℕ) (rows : List (ℕ × ℕ)) where
  same_open : (e next : EndValue ℕ) → next.pending ≡ e.pending → next.last ≡ e.last → next.state ≡ e.state → next.inbox ≡ e.inbox → IsOpen last rows e → IsOpen last rows next
  same_open e next pending last_is state inbox old =
      record {
        pending = pending ∙ old.pending;
        last_is = last_is ∙ old.last_is;
        staying = ap is_closed state ∙ old.staying;
        readable = subst (AllByRecursion IsReadable) (sym inbox) old.readable;
      }

  pub open_by : (flag : Bool) (one other : EndValue ℕ) → IsOpen last rows one → IsOpen last rows other → IsOpen last rows (if flag then one else other)
  open_by true one other first second = first
  open_by false one other first second = second

  pub leveled_open : (e : EndValue ℕ) → IsOpen last rows e → IsOpen last rows (leveled e)
  leveled_open e old = open_by (is_due e.is_loud (level_of (length e.inbox))) _ e (same_open e _ refl refl refl refl old) old

  sent_out_open : (h : Held) (e : EndValue ℕ) → IsOpen last rows e → IsOpen last rows (sent_out h e)
  sent_out_open h e old =
      open_by h.is_redirect _ _ (record { pending = old.pending; last_is = old.last_is; staying = refl; readable = old.readable }) (same_open e _ refl refl refl refl old)

  let_out_open : (held : List Held) (e : EndValue ℕ) → IsOpen last rows e → IsOpen last rows (let_out held e)
  let_out_open [] e old = same_open e _ refl refl refl refl old
  let_out_open (h ∷ held) e old =
      let next = sent_out h (record e { held = held }) in
      let first : IsOpen last rows next = sent_out_open h (record e { held = held }) (same_open e _ refl refl refl refl old) in
      open_by h.is_redirect next (let_out held next) first (let_out_open held next first)

  released_open : (e : EndValue ℕ) → IsOpen last rows e → IsOpen last rows (released e)
  released_open e old = open_by (is_free e) (let_out e.held e) e (let_out_open e.held e old) old

  pub queued_open : (message : MessageValue) (mark : Option ℕ) (e : EndValue ℕ) → IsOpen last rows e → IsOpen last rows (queued message mark e)
  queued_open message mark e old = open_by (is_closed e.state) e _ old (same_open e _ refl refl refl refl old)

  -- ---- what comes

  entered_open : (raw : List ℕ) (mark : Option ℕ) (e : EndValue ℕ) → IsMessage (reading raw) → IsOpen last rows e → IsOpen last rows (entered raw mark e)
  entered_open raw mark e message old =
      let one : Arrived = record { number = e.came; incoming = record { raw = raw; mark = mark } } in
      leveled_open (record e { inbox = e.inbox ++ one ∷ [] })
      (record { pending = old.pending; last_is = old.last_is; staying = old.staying; readable = all_push IsReadable e.inbox one old.readable message })

  heard_open : (raw : List ℕ) (mark : Option ℕ) (message : Result MessageValue MessageFault) (e : EndValue ℕ) → reading raw ≡ message → IsOpen last rows e → IsOpen last rows (heard raw mark message e)
  heard_open raw mark (Err fault) e is old = same_open e _ refl refl refl refl old
  heard_open raw mark (Ok (flow level)) e is old = released_open (record e { told = level }) (same_open e _ refl refl refl refl old)
  heard_open raw mark (Ok (command token service name body)) e is old = entered_open raw mark e (rw is tt) old
  heard_open raw mark (Ok (final token body)) e is old = entered_open raw mark e (rw is tt) old
  heard_open raw mark (Ok (progress token body)) e is old = entered_open raw mark e (rw is tt) old
  heard_open raw mark (Ok (not_known token)) e is old = entered_open raw mark e (rw is tt) old
  heard_open raw mark (Ok (event service name body)) e is old = entered_open raw mark e (rw is tt) old

  item_open : (mark : Option ℕ) (item : Item) (e : EndValue ℕ) → IsOpen last rows e → IsOpen last rows (item_came mark item e)
  item_open mark (items.Message raw) e old = heard_open raw mark (reading raw) (record e { came = counted e.came }) refl (same_open e _ refl refl refl refl old)
  item_open mark items.End e old = same_open e _ refl refl refl refl old

  came_by_open : (mark : Option ℕ) (list : List Item) (e : EndValue ℕ) → IsOpen last rows e → IsOpen last rows (came_by mark list e)
  came_by_open mark [] e old = old
  came_by_open mark (item ∷ list) e old =
      came_by_open mark list (if is_over e then e else item_came mark item e) (open_by (is_over e) e _ old (item_open mark item e old))

  stopped_open : (answer : Result Unit StreamFault) (e : EndValue ℕ) → IsOpen last rows e → IsOpen last rows (stopped_by answer e)
  stopped_open (Ok done) e old = old
  stopped_open (Err fault) e old = open_by (is_over e) e _ old (same_open e _ refl refl refl refl old)

  pub delivered_open : (piece : List ℕ) (mark : Option ℕ) (e : EndValue ℕ) → IsOpen last rows e → IsOpen last rows (delivered piece mark e)
  delivered_open piece mark e old =
      let given = fed piece e.stream in
      let next = record e { stream = given.reader } in
      stopped_open given.answer (came_by mark given.items next) (came_by_open mark given.items next (same_open e next refl refl refl refl old))

  pub ended_open : (e : EndValue ℕ) → IsOpen last rows e → IsOpen last rows (if e.is_spent then e else ended e)
  ended_open e old = open_by e.is_spent e _ old (open_by (is_over e) e _ old (same_open e _ refl refl refl refl old))

  pub given_open : (e : EndValue ℕ) → IsOpen last rows e → IsOpen last rows (without_first e)
  given_open e old = open_by e.is_spent e _ old (same_open e _ refl refl refl refl old)

  -- ---- a Hello, and the answer to a redirect

  greeted_state : (state : EndState) (redirect : Option ℕ) → is_closed state ≡ false → is_closed (state_greeted state redirect) ≡ false
  greeted_state Opening redirect staying = refl
  greeted_state Live redirect staying = refl
  greeted_state Reopening None staying = refl
  greeted_state Reopening (Some token) staying = refl
  greeted_state (Closed cause) redirect staying = staying

  pub greeted_open : (e : EndValue ℕ) → IsOpen last rows e → IsOpen last rows (greeted e)
  greeted_open e old =
      released_open (record e { state = state_greeted e.state e.redirect }) (record { pending = old.pending; last_is = old.last_is; staying = greeted_state e.state e.redirect old.staying; readable = old.readable })

  redirected_open : (done : Bool) (e : EndValue ℕ) → IsOpen last rows e → IsOpen last rows (redirected done e)
  redirected_open true e old = same_open e _ refl refl refl refl old
  redirected_open false e old = released_open (record e { redirect = None; state = Live }) (record { pending = old.pending; last_is = old.last_is; staying = refl; readable = old.readable })

  pub answered_open : (token : ℕ) (done : Bool) (e : EndValue ℕ) → IsOpen last rows e → IsOpen last rows (answered token done e)
  answered_open token done e old = open_by (is_of token e.redirect) (redirected done e) e (redirected_open done e old) old

  -- ---- a command is accepted, under the next number

  sent_or_held_open : (h : Held) (e : EndValue ℕ) → IsOpen last rows e → IsOpen last rows (sent_or_held h e)
  sent_or_held_open h e old = open_by (is_free e) (sent_out h e) _ (sent_out_open h e old) (same_open e _ refl refl refl refl old)

  pub commanded_open : (service name body : List ℕ) (e : EndValue ℕ) → IsOpen last rows e
      → IsOpen (last + 1) (rows ++ (last + 1, last + 1) ∷ []) (commanded service name body (e.last + 1) None e)
  commanded_open service name body e old =
      let h = made (e.last + 1) service name body None in
      let next = sent_or_held h e in
      let kept : IsOpen last rows next = sent_or_held_open h e old in
      let one : (e.last + 1, e.last + 1) ≡ (last + 1, last + 1) = ap (λ n. (n + 1, n + 1)) old.last_is in
      record {
        pending = ap₂ (λ (xs : List (ℕ × ℕ)) (x : ℕ × ℕ). xs ++ x ∷ []) kept.pending one;
        last_is = ap (λ n. n + 1) old.last_is;
        staying = kept.staying;
        readable = kept.readable;
      }

-- ---- a closed end

over_then : (e : EndValue ℕ) → IsEnded e → is_over e ≡ true
over_then e old = or_left (is_closed e.state) (is_some e.stop) old.closed

unless_over : (flag : Bool) (e other : EndValue ℕ) → flag ≡ true → IsEnded e → IsEnded (if flag then e else other)
unless_over true e other on old = old
unless_over false e other on old = cc

ended_by : (flag : Bool) (one other : EndValue ℕ) → IsEnded one → IsEnded other → IsEnded (if flag then one else other)
ended_by true one other first second = first
ended_by false one other first second = second

came_by_ended : (mark : Option ℕ) (list : List Item) (e : EndValue ℕ) → IsEnded e → IsEnded (came_by mark list e)
came_by_ended mark [] e old = old
came_by_ended mark (item ∷ list) e old =
    came_by_ended mark list (if is_over e then e else item_came mark item e) (unless_over (is_over e) e _ (over_then e old) old)

stopped_ended : (answer : Result Unit StreamFault) (e : EndValue ℕ) → IsEnded e → IsEnded (stopped_by answer e)
stopped_ended (Ok done) e old = old
stopped_ended (Err fault) e old = unless_over (is_over e) e _ (over_then e old) old

pub delivered_ended : (piece : List ℕ) (mark : Option ℕ) (e : EndValue ℕ) → IsEnded e → IsEnded (delivered piece mark e)
delivered_ended piece mark e old =
    let given = fed piece e.stream in
    let next = record e { stream = given.reader } in
    stopped_ended given.answer (came_by mark given.items next) (came_by_ended mark given.items next (record { closed = old.closed; inbox = old.inbox; stop = old.stop }))

pub ended_ended : (e : EndValue ℕ) → IsEnded e → IsEnded (if e.is_spent then e else ended e)
ended_ended e old = ended_by e.is_spent e _ old (unless_over (is_over e) e _ (over_then e old) old)

pub given_ended : (e : EndValue ℕ) → IsEnded e → IsEnded (without_first e)
given_ended e old = ended_by e.is_spent e _ old (record { closed = old.closed; inbox = old.inbox; stop = old.stop })

pub nothing_taken : (e : EndValue ℕ) → IsEnded e → next_taken e ≡ (None, e)
nothing_taken e old = ap (λ inbox. taken_from inbox e) old.inbox ∙ ap (λ stop. stop_taken stop e) old.stop

pub refused_then : (size : ℕ) (e : EndValue ℕ) → IsEnded e → refusal_of size e ≡ Some NotOpen
refused_then size e old = rw old.closed refl
