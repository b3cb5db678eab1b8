-- Where the upper end of a hub is closed, so is each lower one.
use Rattle.std.proofs.Common.{◌≡◌, ◌⊎◌, inl, inr, ℕ, ◌+◌, ◌==◌, Bool, true, false, cond, ◌||◌, ◌&&◌, nat_le, List, [], ◌∷◌, ◌++◌, Option, Some, None, refl, sym, ap, ◌∙◌, append_assoc}
use Rattle.std.specs.Prelude.{Result, Ok, Err}
use Rattle.std.proofs.lemmas.Bool.{or_parts}
use Rattle.channel_core.specs.Beginning.{new_end}
use Rattle.channel_core.specs.Closing.{is_closed}
use Rattle.channel_core.specs.EndValue.{EndValue}
use Rattle.channel_core.specs.QueueLaws.{ClosesOnlySo}
use Rattle.channel_core.specs.Runs.{Call as EndCall, Run, after_calls, an_answer, an_unknown, begun, called, closing, commanding, delivering, ending, putting_out, sending, taking, unless_refused}
use Rattle.channel_core.specs.Sending.{refusal_to}
use Rattle.channel_core.specs.Taking.{closes, next_taken}
use Rattle.channel_core.specs.Wire.{is_redirect}
use Rattle.channel_core.specs.declared.sending.SendRefusal.{SendRefusal}
use Rattle.channel_core.specs.declared.states.Cause.{Cause}
use Rattle.channel_core.specs.declared.taking.Taken.{Taken}
use Rattle.channel_core.specs.declared.taking.Taken.TheVariants as taken
use Rattle.channel_core.proofs.TheLaws.{closes_only_so, stays_closed}
use Rattle.channel_list.specs.Channels.{End, channel_end, live_count}
use Rattle.channel_list.specs.Numbers.{has_number}
use Rattle.list_laws.proofs.Flags.{not_both}
use Rattle.tcf_message.specs.Message.{MessageValue, command, event, final, flow, not_known, progress, reading}
use Rattle.tcf_message.specs.declared.message.MessageFault.{MessageFault}
use Rattle.hub_node.specs.Calls.{Call, opens, comes, bytes_end, turns, gives}
use Rattle.hub_node.specs.HubLaws.{IsEndOf}
use Rattle.hub_node.specs.Redirects.{redirect_reply}
use Rattle.hub_node.specs.Relay.{begun as relay_begun, hub_services, is_refused, next_below, opened_at, takes_below, upper_services}
use Rattle.hub_node.specs.RelayValue.{RelayValue}
use Rattle.hub_node.specs.Runs.{HubRun, above_by, above_run, after_call, asked_above, asked_calls, below_by, below_run, calls_of, forwarding, is_opening, only_if, refused_calls, took_above, took_for, took_of}
use Rattle.hub_node.specs.declared.side.HubSide.TheVariants.{Above, Below}
use Rattle.hub_node.specs.declared.waiting.Tag.{Tag}
use Rattle.hub_node.proofs.EndRuns.{end_more, ends, run_more}
use Rattle.hub_node.proofs.Holding.{Holds}

abbrev pub IsOver : {T : Type 0} → EndValue T → Type 0
IsOver e = is_closed e.state ≡ true

-- ---- how an upper end closes

-- what is called of it leaves it as open as it was
abbrev Leaves : List (EndCall Tag) → EndValue Tag → Type 0
Leaves calls e = is_closed (ends calls e).state ≡ is_closed e.state

-- the call ends with the closing of a lower end
abbrev pub Shuts : ℕ → Call → RelayValue → Type 0
Shuts j call q = (e : End) → (first : List (EndCall Unit)) × (calls_of e j call q ≡ first ++ closing ∷ [])

-- how the call leaves the upper end
abbrev Parts : ℕ → Call → RelayValue → EndValue Tag → Type 0
Parts j call q e = Leaves (above_by call q) e ⊎ Shuts j call q

refused_leaves : (m : Result MessageValue MessageFault) (e : EndValue Tag) → ((token : List ℕ) → is_closed (called (sending (an_unknown token) None) e).state ≡ is_closed e.state) → Leaves (refused_calls m) e
refused_leaves (Ok (command token service name body)) e so = so token
refused_leaves (Ok (final token body)) e so = refl
refused_leaves (Ok (progress token body)) e so = refl
refused_leaves (Ok (event service name body)) e so = refl
refused_leaves (Ok (not_known token)) e so = refl
refused_leaves (Ok (flow level)) e so = refl
refused_leaves (Err fault) e so = refl

one_only : (j : ℕ) (key : ℕ) (q : RelayValue) → (cause : Cause) → (next_taken q.upper).0 ≡ Some (taken.Closed cause) → Shuts j (turns key Above) q
one_only j key q cause is = λ e. ([], ap (λ what. took_for j what (record q { upper = (next_taken q.upper).1 })) is)

-- what is taken above, of a run whose end is open
open_parts : (j key : ℕ) (q : RelayValue) (what : Option (Taken Tag)) (r : Run Tag) (next : Run Tag) → (next_taken q.upper).0 ≡ what → next.end ≡ called taking r.end
    → is_closed next.end.state ≡ closes what → is_closed r.end.state ≡ false → ClosesOnlySo next → (is_closed (ends (took_above what) next.end).state ≡ false) ⊎ Shuts j (turns key Above) q
open_parts j key q None r next is end state opened c = inl state
open_parts j key q (Some (taken.Hello incoming)) r next is end state opened c = inl state
open_parts j key q (Some (taken.Command incoming)) r next is end state opened c =
    inl (refused_leaves (reading incoming.raw) next.end (λ token. c.by_others (sending (an_unknown token) None) refl) ∙ state)
open_parts j key q (Some (taken.Event incoming)) r next is end state opened c = inl state
open_parts j key q (Some (taken.Progress token incoming)) r next is end state opened c = inl state
open_parts j key q (Some (taken.Final tag incoming)) r next is end state opened c = inl state
open_parts j key q (Some (taken.Closed cause)) r next is end state opened c = inr (one_only j key q cause is)

above_parts : (j key : ℕ) (r : HubRun) → Holds j r → is_closed (above_run r).end.state ≡ false
    → (is_closed (ends (above_by (turns key Above) r.hub.relay) (above_run r).end).state ≡ false) ⊎ Shuts j (turns key Above) r.hub.relay
above_parts j key r h opened =
    let q = r.hub.relay in
    let c = closes_only_so upper_services None r.above in
    let next : Run Tag = after_calls (r.above ++ taking ∷ []) (begun (new_end upper_services None)) in
    let end : next.end ≡ called taking (above_run r).end = end_more r.above (taking ∷ []) (begun (new_end upper_services None)) in
    let what_is : (next_taken q.upper).0 ≡ (next_taken (above_run r).end).0 = ap (λ (e : EndValue Tag). (next_taken e).0) h.above in
    let state : is_closed next.end.state ≡ closes (next_taken q.upper).0 =
    ap (λ (e : EndValue Tag). is_closed e.state) end ∙ c.by_taking opened ∙ ap closes (sym what_is) in
    let parts = open_parts j key q (next_taken q.upper).0 (above_run r) next refl end state opened (closes_only_so upper_services None (r.above ++ taking ∷ [])) in
    elim parts as (λ _. (is_closed (ends (above_by (turns key Above) q) (above_run r).end).state ≡ false) ⊎ Shuts j (turns key Above) q) [
      | inl still ↦ inl (ap (λ (e : EndValue Tag). is_closed (ends (took_above (next_taken q.upper).0) e).state) (sym end) ∙ still)
      | inr shuts ↦ inr shuts
    ]

-- what is taken below
asked_parts : (own : Bool) (key : ℕ) (mark : Option ℕ) (m : Result MessageValue MessageFault) (upper e : EndValue Tag)
    → ((service name body : List ℕ) (tag : Tag) (mark : Option ℕ) → is_closed (called (commanding service name body tag mark) e).state ≡ is_closed e.state)
    → Leaves (forwarding key mark m upper) e ⊎ (asked_calls own m upper ≡ closing ∷ [])
asked_parts own key mark (Ok (command token service name body)) upper e so = by_flag (is_redirect service name)
  where
    tag : Tag
    tag = record { key = key; serial = upper.last + 1 }

    by_why : (o : Option SendRefusal) → Leaves (unless_refused o (closing ∷ []) (commanding service name body tag mark ∷ [])) e ⊎ (unless_refused {A = List (EndCall Unit)} o (closing ∷ []) [] ≡ closing ∷ [])
    by_why None = inl (so service name body tag mark)
    by_why (Some why) = inr refl

    by_flag : (redirects : Bool) → Leaves (cond redirects [] (unless_refused (refusal_to service name body upper) (closing ∷ []) (commanding service name body tag mark ∷ []))) e
        ⊎ (cond redirects (only_if {A = EndCall Unit} own (sending (an_answer token (redirect_reply service name body)) None ∷ [])) (unless_refused (refusal_to service name body upper) (closing ∷ []) []) ≡ closing ∷ [])
    by_flag true = inl refl
    by_flag false = by_why (refusal_to service name body upper)
asked_parts own key mark (Ok (final token body)) upper e so = inl refl
asked_parts own key mark (Ok (progress token body)) upper e so = inl refl
asked_parts own key mark (Ok (event service name body)) upper e so = inl refl
asked_parts own key mark (Ok (not_known token)) upper e so = inl refl
asked_parts own key mark (Ok (flow level)) upper e so = inl refl
asked_parts own key mark (Err fault) upper e so = inl refl

below_parts : (own : Bool) (key : ℕ) (what : Option (Taken Unit)) (upper e : EndValue Tag)
    → ((service name body : List ℕ) (tag : Tag) (mark : Option ℕ) → is_closed (called (commanding service name body tag mark) e).state ≡ is_closed e.state)
    → Leaves (asked_above key what upper) e ⊎ (took_of own what upper ≡ closing ∷ [])
below_parts own key None upper e so = inl refl
below_parts own key (Some (taken.Hello incoming)) upper e so = inl refl
below_parts own key (Some (taken.Command incoming)) upper e so = asked_parts own key incoming.mark (reading incoming.raw) upper e so
below_parts own key (Some (taken.Event incoming)) upper e so = inl refl
below_parts own key (Some (taken.Progress token incoming)) upper e so = inl refl
below_parts own key (Some (taken.Final tag incoming)) upper e so = inl refl
below_parts own key (Some (taken.Closed cause)) upper e so = inl refl

-- where an open upper end is closed by a call, so is the lower one
open_call : (j : ℕ) (call : Call) (r : HubRun) → Holds j r → is_closed (above_run r).end.state ≡ false
    → (is_closed (ends (above_by call r.hub.relay) (above_run r).end).state ≡ false) ⊎ Shuts j call r.hub.relay
open_call j (opens i) r h opened = inl opened
open_call j (comes Above piece mark) r h opened = inl ((closes_only_so upper_services None r.above).by_others (delivering piece mark) refl ∙ opened)
open_call j (comes (Below i) piece mark) r h opened = inl opened
open_call j (bytes_end Above) r h opened = inl ((closes_only_so upper_services None r.above).by_others ending refl ∙ opened)
open_call j (bytes_end (Below i)) r h opened = inl opened
open_call j (turns key Above) r h opened = above_parts j key r h opened
open_call j (turns key (Below i)) r h opened =
    let q = r.hub.relay in
    elim (below_parts (i == j) key (next_below i q).0 q.upper (above_run r).end (λ service name body tag mark. (closes_only_so upper_services None r.above).by_others (commanding service name body tag mark) refl))
    as (λ _. (is_closed (ends (above_by (turns key (Below i)) q) (above_run r).end).state ≡ false) ⊎ Shuts j (turns key (Below i)) q) [
      | inl leaves ↦ inl (leaves ∙ opened)
      | inr shuts ↦ inr (λ e. (only_if (i == j && takes_below q) (taking ∷ []), ap (λ calls. only_if (i == j && takes_below q) (taking ∷ []) ++ calls) shuts))
    ]
open_call j (gives Above) r h opened = inl ((closes_only_so upper_services None r.above).by_others putting_out refl ∙ opened)
open_call j (gives (Below i)) r h opened = inl opened

-- ---- a lower end that is closed

pub shut_by : (r : HubRun) (first calls : List (EndCall Unit)) → calls ≡ first ++ closing ∷ [] → IsOver (after_calls (r.below ++ calls) (begun (new_end hub_services None))).end
shut_by r first calls is =
    let new : Run Unit = begun (new_end hub_services None) in
    ap (λ cs. is_closed (after_calls (r.below ++ cs) new).end.state) is
    ∙ ap (λ cs. is_closed (after_calls cs new).end.state) (sym (append_assoc r.below first (closing ∷ [])))
    ∙ ap (λ (e : End). is_closed e.state) (end_more (r.below ++ first) (closing ∷ []) new)
    ∙ (closes_only_so hub_services None (r.below ++ first)).by_own

pub stays_shut : (r : HubRun) (calls : List (EndCall Unit)) → IsOver (below_run r).end → IsOver (after_calls (r.below ++ calls) (begun (new_end hub_services None))).end
stays_shut r calls over =
    let s = stays_closed hub_services None r.below calls over in
    ap (λ (x : Run Unit). is_closed x.end.state) (run_more r.below calls (begun (new_end hub_services None))) ∙ ap is_closed s.state ∙ over

ended_by : (o : Option End) (j : ℕ) (call : Call) (r : HubRun) → IsEndOf o (below_run r) → Shuts j call r.hub.relay
    → IsOver (after_calls (r.below ++ below_by o j call r.hub.relay) (begun (new_end hub_services None))).end
ended_by None j call r is shuts = stays_shut r [] is.0
ended_by (Some e) j call r is shuts = let s = shuts e in shut_by r s.0 (calls_of e j call r.hub.relay) s.1

-- ---- after any calls

abbrev pub ClosesBelow : HubRun → Type 0
ClosesBelow r = r.is_begun ≡ true → IsOver (above_run r).end → IsOver (below_run r).end

-- a channel opens only where the upper end is open
pub opens_open : (j : ℕ) (call : Call) (q : RelayValue) → is_opening j call q ≡ true → is_closed q.upper.state ≡ false
unfolding opened_at
opens_open j (opens i) q is = by_flag (is_refused i q) refl (and_second (i == j) (opened_at i q).0 is)
  where
    and_second : (a b : Bool) → (a && b) ≡ true → b ≡ true
    and_second true b both = both
    and_second false b both = let no : false ≡ true = both in absurd cc

    by_flag : (flag : Bool) → is_refused i q ≡ flag → (cond {A = Bool × RelayValue} flag (false, q) (true, relay_begun i q)).0 ≡ true → is_closed q.upper.state ≡ false
    by_flag true refused did = let no : false ≡ true = did in absurd cc
    by_flag false allowed did =
        (or_parts (nat_le 64 (live_count q.lowers)) (is_closed q.upper.state) (or_parts (has_number i q.numbers) (nat_le 64 (live_count q.lowers) || is_closed q.upper.state) allowed).1).1
opens_open j (comes side piece mark) q is = let no : false ≡ true = is in absurd cc
opens_open j (bytes_end side) q is = let no : false ≡ true = is in absurd cc
opens_open j (turns key side) q is = let no : false ≡ true = is in absurd cc
opens_open j (gives side) q is = let no : false ≡ true = is in absurd cc

opens_calls_none : (j : ℕ) (call : Call) (q : RelayValue) → is_opening j call q ≡ true → above_by call q ≡ []
opens_calls_none j (opens i) q is = refl
opens_calls_none j (comes side piece mark) q is = let no : false ≡ true = is in absurd cc
opens_calls_none j (bytes_end side) q is = let no : false ≡ true = is in absurd cc
opens_calls_none j (turns key side) q is = let no : false ≡ true = is in absurd cc
opens_calls_none j (gives side) q is = let no : false ≡ true = is in absurd cc

pub closes_step : (j : ℕ) (call : Call) (r : HubRun) → Holds j r → ClosesBelow r → ClosesBelow (after_call j call r)
closes_step j call r h c begins over = by_begun r.is_begun refl
  where
    q : RelayValue
    q = r.hub.relay

    upper_is : IsOver (ends (above_by call q) (above_run r).end)
    upper_is = ap (λ (e : EndValue Tag). is_closed e.state) (sym (end_more r.above (above_by call q) (begun (new_end upper_services None)))) ∙ over

    by_state : r.is_begun ≡ true → (flag : Bool) → is_closed (above_run r).end.state ≡ flag → IsOver (below_run (after_call j call r)).end
    by_state was true is = stays_shut r (below_by (channel_end j q.lowers) j call q) (c was is)
    by_state was false is =
        elim (open_call j call r h is) as (λ _. IsOver (below_run (after_call j call r)).end) [
          | inl still ↦ absurd (not_both upper_is still)
          | inr shuts ↦ ended_by (channel_end j q.lowers) j call r (h.below was) shuts
        ]

    by_begun : (flag : Bool) → r.is_begun ≡ flag → IsOver (below_run (after_call j call r)).end
    by_begun true was = by_state was (is_closed (above_run r).end.state) refl
    by_begun false not =
        let opening : is_opening j call q ≡ true = ap (λ b. b || is_opening j call q) (sym not) ∙ begins in
        let opened : is_closed (above_run r).end.state ≡ false = ap (λ (e : EndValue Tag). is_closed e.state) (sym h.above) ∙ opens_open j call q opening in
        absurd (not_both upper_is (ap (λ calls. is_closed (ends calls (above_run r).end).state) (opens_calls_none j call q opening) ∙ opened))
