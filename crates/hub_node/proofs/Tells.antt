-- What a lower channel was told, after any calls of a hub.
use Rattle.std.proofs.Common.{◌≡◌, ℕ, ◌+◌, ◌==◌, Bool, true, false, not, cond, nat_le, ◌||◌, ◌&&◌, List, [], ◌∷◌, ◌++◌, length, ◌≤◌, Option, Some, None, refl, sym, ap, ap₂, ◌∙◌, arith, eqb-true, append-nil, length-append}
use Rattle.std.specs.Prelude.{Result, Ok, Err}
use Rattle.std.specs.List.{filter, list_any}
use Rattle.std.proofs.lemmas.List.Elements.{filter-append}
use Rattle.std.proofs.lemmas.List.Folds.{list_any-append}
use Rattle.channel_core.specs.Beginning.{new_end}
use Rattle.channel_core.specs.Closing.{is_closed}
use Rattle.channel_core.specs.EndValue.{EndValue}
use Rattle.channel_core.specs.QueueLaws.{is_commanding, is_message, sent_in as said_in_calls}
use Rattle.channel_core.specs.Runs.{Call as EndCall, begun, taking, unless_refused}
use Rattle.channel_core.specs.Sending.{refusal_to}
use Rattle.channel_core.specs.Taking.{next_taken}
use Rattle.channel_core.specs.Wire.{hello, is_redirect, locator, said}
use Rattle.channel_core.specs.declared.sending.SendRefusal.{SendRefusal}
use Rattle.channel_core.specs.declared.taking.Taken.{Taken}
use Rattle.channel_core.specs.declared.taking.Taken.TheVariants as taken
use Rattle.channel_core.proofs.TheLaws.{queues_its_messages}
use Rattle.channel_list.specs.Channels.{End, channel_end, live_count}
use Rattle.channel_list.specs.Numbers.{has_number}
use Rattle.list_laws.proofs.Flags.{not_both}
use Rattle.list_laws.proofs.Numbers.{number_itself}
use Rattle.tcf_message.specs.Message.{MessageValue, command, event, final, flow, not_known, progress, reading}
use Rattle.tcf_message.specs.declared.message.MessageFault.{MessageFault}
use Rattle.hub_node.specs.Calls.{Call, opens, comes, bytes_end, turns, gives}
use Rattle.hub_node.specs.Deeds.{Asked, Deed, above_deeds, answers, asked_deeds, below_deeds, deeds_by, ends as all_ends, forwards, joins, sent_in}
use Rattle.hub_node.specs.HubLaws.{IsEndOf, is_joining, told_from}
use Rattle.hub_node.specs.Relay.{begun as relay_begun, hub_services, is_refused, next_below, opened_at, takes_below}
use Rattle.hub_node.specs.RelayValue.{RelayValue}
use Rattle.hub_node.specs.Runs.{HubRun, above_run, after_call, below_by, below_run, calls_of, is_opening, only_if, took_of}
use Rattle.hub_node.specs.declared.side.HubSide.TheVariants.{Above, Below}
use Rattle.hub_node.specs.declared.waiting.Tag.{Tag}
use Rattle.hub_node.proofs.Acting.{call_acts}
use Rattle.hub_node.proofs.Boarding.{Boarded, LeavesClosed, lives}
use Rattle.hub_node.proofs.EndRuns.{end_after, end_more, ends}
use Rattle.hub_node.proofs.Holding.{Holds, unopened}
use Rattle.hub_node.proofs.Issuing.{AreIssued}
use Rattle.hub_node.proofs.Shutting.{ClosesBelow, stays_shut}
use Rattle.hub_node.proofs.Telling.{Acts, end_of, open_after, open_more, said_append, silent_closed, told_more}
use Rattle.hub_node.proofs.Untaken.{above_untaken, below_untaken, delivering_untaken, ending_untaken, putting_untaken}
use Rattle.hub_node.proofs.Waits.{IsOpenUpper}

-- ---- no command is sent below

abbrev sends_command : EndCall Unit → Bool
sends_command call = is_commanding call

if_taking : (flag : Bool) → list_any sends_command (only_if flag (taking ∷ [])) ≡ false
if_taking true = refl
if_taking false = refl

of_none : (j : ℕ) (call : Call) (q : RelayValue) (e : End) → list_any sends_command (calls_of e j call q) ≡ false
of_none j (opens i) q e = refl
of_none j (comes Above piece mark) q e = refl
of_none j (comes (Below i) piece mark) q e = delivering_untaken sends_command (λ message mark. refl) (λ piece mark. refl) refl refl refl (i == j) e piece mark
of_none j (bytes_end Above) q e = refl
of_none j (bytes_end (Below i)) q e = ending_untaken sends_command (λ message mark. refl) (λ piece mark. refl) refl refl refl (i == j)
of_none j (turns key Above) q e = above_untaken sends_command (λ message mark. refl) (λ piece mark. refl) refl refl refl j (next_taken q.upper).0 (record q { upper = (next_taken q.upper).1 })
of_none j (turns key (Below i)) q e =
    list_any-append sends_command (only_if (i == j && takes_below q) (taking ∷ [])) (took_of (i == j) (next_below i q).0 q.upper)
    ∙ ap (λ b. b || list_any sends_command (took_of (i == j) (next_below i q).0 q.upper)) (if_taking (i == j && takes_below q))
    ∙ below_untaken sends_command (λ message mark. refl) (λ piece mark. refl) refl refl refl (i == j) (next_below i q).0 q.upper
of_none j (gives Above) q e = refl
of_none j (gives (Below i)) q e = putting_untaken sends_command (λ message mark. refl) (λ piece mark. refl) refl refl refl (i == j)

none_below : (o : Option End) (j : ℕ) (call : Call) (q : RelayValue) → list_any sends_command (below_by o j call q) ≡ false
none_below None j call q = refl
none_below (Some e) j call q = of_none j call q e

abbrev pub SendsNoCommand : HubRun → Type 0
SendsNoCommand r = list_any sends_command r.below ≡ false

pub no_command_step : (j : ℕ) (call : Call) (r : HubRun) → SendsNoCommand r → SendsNoCommand (after_call j call r)
no_command_step j call r none =
    let more = below_by (channel_end j r.hub.relay.lowers) j call r.hub.relay in
    list_any-append sends_command r.below more ∙ ap (λ b. b || list_any sends_command more) none ∙ none_below (channel_end j r.hub.relay.lowers) j call r.hub.relay

-- ---- what isn't said on a channel that isn't open

record IsDead (j : ℕ) (commands : List Asked) (deeds : List Deed) : Type 0 where
  told : told_from j false commands deeds ≡ []
  still : open_after j false deeds ≡ false
  joined : length (filter (is_joining j) deeds) ≡ 0

dead : {j : ℕ} {commands : List Asked} {deeds : List Deed} → told_from j false commands deeds ≡ [] → open_after j false deeds ≡ false → length (filter (is_joining j) deeds) ≡ 0 → IsDead j commands deeds
dead told still joined = record { told = told; still = still; joined = joined }

asked_dead : (j i : ℕ) (commands : List Asked) (mark : Option ℕ) (m : Result MessageValue MessageFault) (upper : EndValue Tag) → IsDead j commands (asked_deeds i mark m upper)
asked_dead j i commands mark (Ok (command token service name body)) upper = by_flag (is_redirect service name) (refusal_to service name body upper)
  where
    c : Asked
    c = record { channel = i; token = token; service = service; name = name; body = body; mark = mark }

    by_flag : (redirects : Bool) (o : Option SendRefusal) → IsDead j commands (cond redirects (answers c ∷ []) (unless_refused o all_ends (forwards c) ∷ []))
    by_flag true o = dead refl refl refl
    by_flag false None = dead refl refl refl
    by_flag false (Some why) = dead refl refl refl
asked_dead j i commands mark (Ok (final token body)) upper = dead refl refl refl
asked_dead j i commands mark (Ok (progress token body)) upper = dead refl refl refl
asked_dead j i commands mark (Ok (event service name body)) upper = dead refl refl refl
asked_dead j i commands mark (Ok (not_known token)) upper = dead refl refl refl
asked_dead j i commands mark (Ok (flow level)) upper = dead refl refl refl
asked_dead j i commands mark (Err fault) upper = dead refl refl refl

below_dead : (j i : ℕ) (commands : List Asked) (what : Option (Taken Unit)) (upper : EndValue Tag) → IsDead j commands (below_deeds i what upper)
below_dead j i commands None upper = dead refl refl refl
below_dead j i commands (Some (taken.Hello incoming)) upper = dead refl refl refl
below_dead j i commands (Some (taken.Command incoming)) upper = asked_dead j i commands incoming.mark (reading incoming.raw) upper
below_dead j i commands (Some (taken.Event incoming)) upper = dead refl refl refl
below_dead j i commands (Some (taken.Progress token incoming)) upper = dead refl refl refl
below_dead j i commands (Some (taken.Final tag incoming)) upper = dead refl refl refl
below_dead j i commands (Some (taken.Closed cause)) upper = dead refl refl refl

above_dead : (j : ℕ) (commands : List Asked) (bound : Bool) (what : Option (Taken Tag)) → IsDead j commands (above_deeds bound what)
above_dead j commands bound None = dead refl refl refl
above_dead j commands true (Some (taken.Hello incoming)) = dead refl refl refl
above_dead j commands false (Some (taken.Hello incoming)) = dead refl refl refl
above_dead j commands bound (Some (taken.Command incoming)) = dead refl refl refl
above_dead j commands bound (Some (taken.Event incoming)) = dead refl refl refl
above_dead j commands bound (Some (taken.Progress token incoming)) = dead refl refl refl
above_dead j commands bound (Some (taken.Final tag incoming)) = dead refl refl refl
above_dead j commands bound (Some (taken.Closed cause)) = dead refl refl refl

-- but where it opens
record IsDeadBut (j : ℕ) (commands : List Asked) (deeds : List Deed) (opening : Bool) : Type 0 where
  told : told_from j false commands deeds ≡ []
  opens : open_after j false deeds ≡ opening
  joined : length (filter (is_joining j) deeds) ≡ cond opening 1 0

joined_dead : (j i : ℕ) (commands : List Asked) (did : Bool) → IsDeadBut j commands (cond did (joins i ∷ []) []) (i == j && did)
joined_dead j i commands true = record { told = refl; opens = by_flag (i == j); joined = one (i == j) }
  where
    by_flag : (own : Bool) → own ≡ (own && true)
    by_flag true = refl
    by_flag false = refl

    one : (own : Bool) → length (cond own (joins i ∷ []) []) ≡ cond (own && true) 1 0
    one true = refl
    one false = refl
joined_dead j i commands false = record { told = refl; opens = by_flag (i == j); joined = none (i == j) }
  where
    by_flag : (own : Bool) → false ≡ (own && false)
    by_flag true = refl
    by_flag false = refl

    none : (own : Bool) → ◌≡◌ {A = ℕ} 0 (cond (own && false) 1 0)
    none true = refl
    none false = refl

still_dead : {j : ℕ} {commands : List Asked} {deeds : List Deed} → IsDead j commands deeds → IsDeadBut j commands deeds false
still_dead d = record { told = d.told; opens = d.still; joined = d.joined }

call_dead : (j : ℕ) (commands : List Asked) (call : Call) (q : RelayValue) → IsDeadBut j commands (deeds_by call q) (is_opening j call q)
call_dead j commands (opens i) q = joined_dead j i commands (opened_at i q).0
call_dead j commands (comes side piece mark) q = record { told = refl; opens = refl; joined = refl }
call_dead j commands (bytes_end side) q = record { told = refl; opens = refl; joined = refl }
call_dead j commands (turns key Above) q = still_dead (above_dead j commands q.is_bound (next_taken q.upper).0)
call_dead j commands (turns key (Below i)) q = still_dead (below_dead j i commands (next_below i q).0 q.upper)
call_dead j commands (gives side) q = record { told = refl; opens = refl; joined = refl }

-- no number opens twice
opens_once : (j : ℕ) (call : Call) (r : HubRun) → Holds j r → r.is_begun ≡ true → is_opening j call r.hub.relay ≡ false
unfolding opened_at
opens_once j (opens i) r h begun_so = by_own (i == j) refl
  where
    q : RelayValue
    q = r.hub.relay

    by_own : (own : Bool) → (i == j) ≡ own → (own && (cond {A = Bool × RelayValue} (is_refused i q) (false, q) (true, relay_begun i q)).0) ≡ false
    by_own true own =
        let known : has_number i q.numbers ≡ true = ap (λ n. has_number n q.numbers) (eqb-true i j own) ∙ sym h.is_begun ∙ begun_so in
        ap (λ b. (cond {A = Bool × RelayValue} (b || (nat_le 64 (live_count q.lowers) || is_closed q.upper.state)) (false, q) (true, relay_begun i q)).0) known
    by_own false isnt = refl
opens_once j (comes side piece mark) r h begun_so = refl
opens_once j (bytes_end side) r h begun_so = refl
opens_once j (turns key side) r h begun_so = refl
opens_once j (gives side) r h begun_so = refl

-- ---- after any calls

pub record Tells (j : ℕ) (r : HubRun) : Type 0 where
  pub open_is : open_after j false r.deeds ≡ lives r
  pub told : said_in_calls r.below (new_end hub_services None) ≡ told_from j false [] r.deeds

-- from what a call adds
told_by : (j : ℕ) (call : Call) (r : HubRun) → Tells j r → said_in_calls (below_by (channel_end j r.hub.relay.lowers) j call r.hub.relay) (below_run r).end ≡ told_from j (lives r) (sent_in r.deeds) (deeds_by call r.hub.relay)
    → said_in_calls (after_call j call r).below (new_end hub_services None) ≡ told_from j false [] (after_call j call r).deeds
told_by j call r t adds =
    let more = below_by (channel_end j r.hub.relay.lowers) j call r.hub.relay in
    let first : End = new_end hub_services None in
    said_append r.below more first
    ∙ ap (λ (e : End). said_in_calls r.below first ++ said_in_calls more e) (sym (end_after r.below (begun first)))
    ∙ ap (λ os. os ++ said_in_calls more (below_run r).end) t.told ∙ ap (λ os. told_from j false [] r.deeds ++ os) adds
    ∙ ap (λ b. told_from j false [] r.deeds ++ told_from j b (sent_in r.deeds) (deeds_by call r.hub.relay)) (sym t.open_is) ∙ sym (told_more j false [] r.deeds (deeds_by call r.hub.relay))

opened_by : (j : ℕ) (call : Call) (r : HubRun) → Tells j r → open_after j (lives r) (deeds_by call r.hub.relay) ≡ lives (after_call j call r) → open_after j false (after_call j call r).deeds ≡ lives (after_call j call r)
opened_by j call r t adds = open_more j false r.deeds (deeds_by call r.hub.relay) ∙ ap (λ b. open_after j b (deeds_by call r.hub.relay)) t.open_is ∙ adds

dies : (j : ℕ) (call : Call) (r : HubRun) → Tells j r → lives r ≡ false → said_in_calls (below_by (channel_end j r.hub.relay.lowers) j call r.hub.relay) (below_run r).end ≡ []
    → is_opening j call r.hub.relay ≡ lives (after_call j call r) → Tells j (after_call j call r)
dies j call r t over silent opens_so =
    let d = call_dead j (sent_in r.deeds) call r.hub.relay in
    record {
      open_is = opened_by j call r t (ap (λ b. open_after j b (deeds_by call r.hub.relay)) over ∙ d.opens ∙ opens_so);
      told = told_by j call r t (silent ∙ sym (ap (λ b. told_from j b (sent_in r.deeds) (deeds_by call r.hub.relay)) over ∙ d.told));
    }

-- it wasn't opened before
unopened_tells : (j : ℕ) (call : Call) (r : HubRun) → Holds j r → Tells j r → r.is_begun ≡ false → Tells j (after_call j call r)
unopened_tells j call r h t not_begun =
    dies j call r t (ap (λ b. b && not (is_closed (below_run r).end.state)) not_begun) (ap (λ calls. said_in_calls calls (below_run r).end) calls_none) opens_so
  where
    calls_none : below_by (channel_end j r.hub.relay.lowers) j call r.hub.relay ≡ []
    calls_none = ap (λ o. below_by o j call r.hub.relay) (unopened j r h not_begun)

    nothing : r.below ++ below_by (channel_end j r.hub.relay.lowers) j call r.hub.relay ≡ []
    nothing = ap (λ calls. r.below ++ calls) calls_none ∙ append-nil r.below ∙ h.quiet not_begun

    and_true : (a : Bool) → a ≡ (a && true)
    and_true true = refl
    and_true false = refl

    opens_so : is_opening j call r.hub.relay ≡ ((r.is_begun || is_opening j call r.hub.relay) && not (is_closed (below_run (after_call j call r)).end.state))
    opens_so =
        and_true (is_opening j call r.hub.relay)
        ∙ ap (λ calls. is_opening j call r.hub.relay && not (is_closed (end_of calls).state)) (sym nothing)
        ∙ ap (λ b. (b || is_opening j call r.hub.relay) && not (is_closed (below_run (after_call j call r)).end.state)) (sym not_begun)

-- it is closed
closed_tells : (j : ℕ) (call : Call) (r : HubRun) → Holds j r → Tells j r → r.is_begun ≡ true → is_closed (below_run r).end.state ≡ true → Tells j (after_call j call r)
closed_tells j call r h t begun_so over =
    let more = below_by (channel_end j r.hub.relay.lowers) j call r.hub.relay in
    let none = opens_once j call r h begun_so in
    dies j call r t (ap (λ b. r.is_begun && not b) over ∙ and_false r.is_begun) (silent_closed r.below more over)
    (none ∙ sym (ap (λ b. (r.is_begun || is_opening j call r.hub.relay) && not b) (stays_shut r more over) ∙ and_false (r.is_begun || is_opening j call r.hub.relay)))
  where
    and_false : (a : Bool) → (a && false) ≡ false
    and_false true = refl
    and_false false = refl

-- it is open
open_tells : (j : ℕ) (call : Call) (r : HubRun) → Holds j r → AreIssued r → ClosesBelow r → (IsOpenUpper r → Boarded j r) → Tells j r → r.is_begun ≡ true → is_closed (below_run r).end.state ≡ false → Tells j (after_call j call r)
open_tells j call r h are c b t begun_so opened = record {
  open_is = opened_by j call r t (ap (λ b. open_after j b (deeds_by call q)) alive ∙ sym acts.opens ∙ lives_so);
  told = told_by j call r t (ap (λ calls. said_in_calls calls (below_run r).end) calls_are ∙ acts.told ∙ ap (λ b. told_from j b (sent_in r.deeds) (deeds_by call q)) (sym alive));
}
  where
    q : RelayValue
    q = r.hub.relay

    alive : lives r ≡ true
    alive = ap (λ b. b && not (is_closed (below_run r).end.state)) begun_so ∙ ap not opened

    upper_flag : (flag : Bool) → is_closed (above_run r).end.state ≡ flag → flag ≡ false
    upper_flag true over = absurd (not_both (c begun_so over) opened)
    upper_flag false is = refl

    upper_open : IsOpenUpper r
    upper_open = upper_flag (is_closed (above_run r).end.state) refl

    found_end : (o : Option End) → IsEndOf o (below_run r) → o ≡ Some (below_run r).end
    found_end None is = absurd (not_both is.0 opened)
    found_end (Some e) is = ap Some is

    there : channel_end j q.lowers ≡ Some (below_run r).end
    there = found_end (channel_end j q.lowers) (h.below begun_so)

    acts : Acts j (sent_in r.deeds) (deeds_by call q) (calls_of (below_run r).end j call q) (below_run r).end
    acts = call_acts j r h are (b upper_open) upper_open alive opened there call

    calls_are : below_by (channel_end j q.lowers) j call q ≡ calls_of (below_run r).end j call q
    calls_are = ap (λ o. below_by o j call q) there

    lives_so : not (is_closed (ends (calls_of (below_run r).end j call q) (below_run r).end).state) ≡ lives (after_call j call r)
    lives_so =
        ap (λ calls. not (is_closed (ends calls (below_run r).end).state)) (sym calls_are)
        ∙ ap (λ (e : End). not (is_closed e.state)) (sym (end_more r.below (below_by (channel_end j q.lowers) j call q) (begun (new_end hub_services None))))
        ∙ ap (λ b. (b || is_opening j call q) && not (is_closed (below_run (after_call j call r)).end.state)) (sym begun_so)

pub tells_step : (j : ℕ) (call : Call) (r : HubRun) → Holds j r → AreIssued r → ClosesBelow r → (IsOpenUpper r → Boarded j r) → Tells j r → Tells j (after_call j call r)
tells_step j call r h are c b t = by_begun r.is_begun refl
  where
    by_state : (flag : Bool) → r.is_begun ≡ true → is_closed (below_run r).end.state ≡ flag → Tells j (after_call j call r)
    by_state true begun_so over = closed_tells j call r h t begun_so over
    by_state false begun_so opened = open_tells j call r h are c b t begun_so opened

    by_begun : (flag : Bool) → r.is_begun ≡ flag → Tells j (after_call j call r)
    by_begun true begun_so = by_state (is_closed (below_run r).end.state) begun_so refl
    by_begun false not_begun = unopened_tells j call r h t not_begun

-- it joined where it was opened, and not else

abbrev pub JoinsOnce : ℕ → HubRun → Type 0
JoinsOnce j r = length (filter (is_joining j) r.deeds) ≡ cond r.is_begun 1 0

pub joins_step : (j : ℕ) (call : Call) (r : HubRun) → Holds j r → JoinsOnce j r → JoinsOnce j (after_call j call r)
joins_step j call r h is =
    ap length (filter-append (is_joining j) r.deeds (deeds_by call r.hub.relay)) ∙ length-append (filter (is_joining j) r.deeds) (filter (is_joining j) (deeds_by call r.hub.relay))
    ∙ ap₂ (λ a b. a + b) is (call_dead j (sent_in r.deeds) call r.hub.relay).joined ∙ by_begun r.is_begun refl
  where
    by_opening : (opening : Bool) → ◌≡◌ {A = ℕ} (0 + cond opening 1 0) (cond (false || opening) 1 0)
    by_opening true = refl
    by_opening false = refl

    by_begun : (flag : Bool) → r.is_begun ≡ flag → cond flag 1 0 + cond (is_opening j call r.hub.relay) 1 0 ≡ cond (flag || is_opening j call r.hub.relay) 1 0
    by_begun true begun_so = ap (λ b. 1 + cond b 1 0) (opens_once j call r h begun_so)
    by_begun false not_begun = by_opening (is_opening j call r.hub.relay)

pub joins_few : (j : ℕ) (r : HubRun) → JoinsOnce j r → length (filter (is_joining j) r.deeds) ≤ 1
joins_few j r is = by_flag r.is_begun is
  where
    by_flag : (flag : Bool) → length (filter (is_joining j) r.deeds) ≡ cond flag 1 0 → length (filter (is_joining j) r.deeds) ≤ 1
    by_flag true is = omega (arith, is)
    by_flag false is = omega (arith, is)

-- a channel that leaves isn't open any more
pub leaves_closed : (j : ℕ) (call : Call) (r : HubRun) → Tells j r → Tells j (after_call j call r) → LeavesClosed j call r
leaves_closed j call r before after is =
    sym after.open_is ∙ open_more j false r.deeds (deeds_by call r.hub.relay) ∙ ap (open_after j (open_after j false r.deeds)) is ∙ by_flag (open_after j false r.deeds) (number_itself j)
  where
    by_flag : (flag : Bool) → (j == j) ≡ true → (flag && not (j == j)) ≡ false
    by_flag true its = ap not its
    by_flag false its = refl

-- ---- what was queued

pub told_is : (j : ℕ) (r : HubRun) → SendsNoCommand r → Tells j r → filter is_message (below_run r).past.queued ≡ said (event locator hello hub_services) None ∷ told_from j false [] r.deeds
told_is j r none t = queues_its_messages hub_services None r.below none ∙ ap (λ os. said (event locator hello hub_services) None ∷ os) t.told
