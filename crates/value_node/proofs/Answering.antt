-- What a value-add says itself, over any calls: each call keeps it.
use Rattle.std.proofs.Common.{◌≡◌, ℕ, Bool, true, false, not, ◌||◌, List, [], ◌∷◌, ◌++◌, Option, None, refl, ap, sym, ◌∙◌, subst}
use Rattle.std.specs.Prelude.{if◌then◌else◌, map, option_map}
use Rattle.std.specs.List.{flat_map}
use Rattle.std.proofs.lemmas.List.{append-nil, append_assoc, map-append}
use Rattle.std.proofs.lemmas.List.Concat.{flat_map-append}
use Rattle.std.proofs.lemmas.Bool.{and_parts}
use Rattle.channel_core.specs.Arrivals.{Spoken}
use Rattle.channel_core.specs.Beginning.{new_end}
use Rattle.channel_core.specs.QueueLaws.{sent_in}
use Rattle.channel_core.specs.Runs.{Run}
use Rattle.value_node.specs.Asked.{Asked}
use Rattle.value_node.specs.OwnLaws.{IsBoundBy}
use Rattle.value_node.specs.OwnMessages.{IsOwn}
use Rattle.value_node.specs.Passing.{Lower}
use Rattle.value_node.specs.RelayLaws.{AfterAllCalls, asked_by}
use Rattle.value_node.specs.Runs.{Call, LowerCall, Past, ValueRun, after_all, bytes_end, comes, connects, fails, gives, is_binding, lower_after, no_past, only_if, own_by, reconnected, remembered, turns, upper_by, with_calls}
use Rattle.value_node.specs.Value.{awaits, connected_to, is_free, is_opening, new_relay, value_services}
use Rattle.value_node.specs.ValueValue.{ValueValue}
use Rattle.value_node.specs.declared.relay.Relay.{Relay}
use Rattle.value_node.specs.declared.states.Bind.{Bind}
use Rattle.value_node.specs.declared.states.Bind.TheVariants.{Unbound, Opening, Bound, Closed}
use Rattle.value_node.proofs.Holding.{Holds, holds_first}
use Rattle.value_node.proofs.HoldsCalled.{holds_called}
use Rattle.value_node.proofs.HoldsEnds.{lower_facts}
use Rattle.value_node.proofs.HoldsStands.{stands_kept}
use Rattle.value_node.proofs.OwnAnswers.{Answers, IsLeft, call_answers, spelled}
use Rattle.value_node.proofs.OwnInOrder.{own_last, own_more}
use Rattle.value_node.proofs.OwnSilence.{IsPast, stands_past}
use Rattle.value_node.proofs.OwnStays.{redirect_stays}
use Rattle.value_node.proofs.Pasts.{after_both, sent_both, taken_in, taken_more}
use Rattle.value_node.proofs.Steps.{called_whole, end_ran, relay_called, whole}
use Rattle.list_laws.proofs.Lists.{none_last as none_before, none_before as none_first}

-- ---- what is asked, and what is sent

abbrev pub first_end : Lower
first_end = new_end value_services None

-- the commands that these calls of the lower end take
abbrev pub asked_of : List LowerCall → List Asked
asked_of calls = flat_map asked_by (lower_after calls).past.taken

pub asked_more : (calls more : List LowerCall) (lower : Lower) → lower ≡ (lower_after calls).end → asked_of (calls ++ more) ≡ asked_of calls ++ flat_map asked_by (taken_in more lower)
asked_more calls more lower same =
    ap (λ (r : Run Unit). flat_map asked_by r.past.taken) (after_both calls more (lower_after []))
    ∙ ap (flat_map asked_by) (taken_more more (lower_after calls))
    ∙ flat_map-append asked_by (lower_after calls).past.taken (taken_in more (lower_after calls).end)
    ∙ ap (λ (e : Lower). asked_of calls ++ flat_map asked_by (taken_in more e)) (sym same)

asked_first : (calls more : List LowerCall) → asked_of (calls ++ more) ≡ [] → asked_of calls ≡ []
asked_first calls more none =
    none_first (asked_of calls) (flat_map asked_by (taken_in more (lower_after calls).end)) (sym (asked_more calls more (lower_after calls).end refl) ∙ none)

sent_more : (calls more : List LowerCall) (lower : Lower) → lower ≡ (lower_after calls).end → sent_in (calls ++ more) first_end ≡ sent_in calls first_end ++ sent_in more lower
sent_more calls more lower same =
    sent_both calls more first_end ∙ ap (λ (e : Lower). sent_in calls first_end ++ sent_in more e) (sym (end_ran calls (lower_after [])) ∙ sym same)

-- ---- what it says, by the calls of its lower end until it is bound

pub record Says (until : List LowerCall) (bind : Bind) (redirect : Option (List ℕ)) (is_bound : Bool) : Type 0 where
  pub own : List Spoken
  pub sent : sent_in until (new_end value_services None) ≡ map spelled own
  pub left : List Asked
  pub is_own : IsOwn (asked_of until) own left
  pub is_left : IsLeft bind redirect left
  pub bound_by : is_bound ≡ true → IsBoundBy own (asked_of until)

-- of one that is bound
left_past : (bind : Bind) (redirect : Option (List ℕ)) (left : List Asked) → IsPast bind → IsLeft bind redirect left → (left ≡ []) × (redirect ≡ None)
left_past Unbound redirect left past is = absurd past
left_past Opening redirect left past is = absurd past
left_past Bound redirect left past is = is
left_past Closed redirect left past is = is

past_left : (bind : Bind) (redirect : Option (List ℕ)) (left : List Asked) → IsPast bind → left ≡ [] → redirect ≡ None → IsLeft bind redirect left
past_left Unbound redirect left past none gone = absurd past
past_left Opening redirect left past none gone = absurd past
past_left Bound redirect left past none gone = (none, gone)
past_left Closed redirect left past none gone = (none, gone)

says_still : (until : List LowerCall) (bind next : Bind) (redirect later : Option (List ℕ)) → IsPast bind → IsPast next → later ≡ redirect → Says until bind redirect true → Says until next later true
says_still until bind next redirect later past on same s =
    let none = left_past bind redirect s.left past s.is_left in
    record { own = s.own; sent = s.sent; left = s.left; is_own = s.is_own; is_left = past_left next later s.left on none.0 (same ∙ none.1); bound_by = s.bound_by }

-- of one that isn't
module _ (until more : List LowerCall) (lower : Lower) (same : lower ≡ (lower_after until).end) (bind next : Bind) (redirect later : Option (List ℕ)) (s : Says until bind redirect false)
    (a : Answers s.left (flat_map asked_by (taken_in more lower)) (sent_in more lower) next later) where
  abbrev commands : List Asked
  commands = flat_map asked_by (taken_in more lower)

  asked_now : asked_of (until ++ more) ≡ asked_of until ++ commands
  asked_now = asked_more until more lower same

  binds_now : is_binding next ≡ true → IsBoundBy (s.own ++ a.said_now) (asked_of (until ++ more))
  binds_now on =
      let last = own_last (asked_of until) s.left s.own s.is_own in
      let b = a.binds on in
      record {
        earlier = last.answered;
        redirect = b.redirect;
        commands_are = asked_now ∙ ap (λ cs. cs ++ commands) last.whole ∙ append_assoc last.answered s.left commands ∙ ap (λ cs. last.answered ++ cs) b.commands_are;
        asks = b.asks;
        said_before = s.own;
        said_are = ap (λ said. s.own ++ said) b.said_are;
      }

  says_more : Says (until ++ more) next later (is_binding next)
  says_more = record {
    own = s.own ++ a.said_now;
    sent = sent_more until more lower same ∙ ap (λ os. os ++ sent_in more lower) s.sent ∙ ap (λ os. map spelled s.own ++ os) a.sent_are ∙ sym (map-append spelled s.own a.said_now);
    left = a.later;
    is_own = subst (λ cs. IsOwn cs (s.own ++ a.said_now) a.later) (sym asked_now) (own_more (asked_of until) s.left commands a.later s.own a.said_now s.is_own a.is_own);
    is_left = a.is_left;
    bound_by = binds_now;
  }

-- where it is Opening it took a command
opened : (until : List LowerCall) (redirect : Option (List ℕ)) (is_bound : Bool) → Says until Opening redirect is_bound → asked_of until ≡ [] → ⊥
opened until redirect is_bound s none =
    let last = own_last (asked_of until) s.left s.own s.is_own in
    none_before last.answered s.is_left.0 (ap (λ cs. last.answered ++ cs) (sym s.is_left.1) ∙ sym last.whole ∙ none)

pub unopened : (until : List LowerCall) (bind : Bind) (redirect : Option (List ℕ)) (is_bound : Bool) → Says until bind redirect is_bound → asked_of until ≡ [] → is_opening bind ≡ false
unopened until Unbound redirect is_bound s none = refl
unopened until Opening redirect is_bound s none = absurd (opened until redirect is_bound s none)
unopened until Bound redirect is_bound s none = refl
unopened until Closed redirect is_bound s none = refl

-- ---- and with it, that it hasn't connected where it took no command

pub record Answering (v : Relay) (p : Past) : Type 0 where
  pub says : Says p.until_bound v.bind v.redirect p.is_bound
  pub unconnected : asked_of p.until_bound ≡ [] → p.connection ≡ None
  pub never : asked_of p.until_bound ≡ [] → p.earlier ≡ []

module _ (call : Call) (v : Relay) (p : Past) (h : Holds v p) (other : call ≡ connects → ⊥) where
  abbrev next : Relay
  next = relay_called call v

  abbrev later_past : Past
  later_past = with_calls call v next p

  says_called : (flag : Bool) → p.is_bound ≡ flag → Says p.until_bound v.bind v.redirect flag
      → Says (p.until_bound ++ only_if (not flag) (own_by call v)) next.bind next.redirect (flag || is_binding next.bind)
  says_called true on s =
      let past = stands_past v.bind v p h.stands on in
      let still_past = stands_past next.bind next later_past (stands_kept call v p other h) (ap (λ b. b || is_binding next.bind) on) in
      subst (λ calls. Says calls next.bind next.redirect true) (sym (append-nil p.until_bound)) (says_still p.until_bound v.bind next.bind v.redirect next.redirect past still_past (redirect_stays call v past) s)
  says_called false off s =
      let lower : v.lower ≡ (lower_after p.until_bound).end = h.lower ∙ ap (λ calls. (lower_after (p.until_bound ++ calls)).end) (h.unbound off) ∙ ap (λ calls. (lower_after calls).end) (append-nil p.until_bound) in
      says_more p.until_bound (own_by call v) v.lower lower v.bind next.bind v.redirect next.redirect s (call_answers call v p s.left (lower_facts v p h) h.stands off s.is_left)

  answering_more : Answering v p → Answering next later_past
  answering_more a = record {
    says = says_called p.is_bound refl a.says;
    unconnected = λ none. ap (option_map (λ calls. calls ++ upper_by call v)) (a.unconnected (asked_first p.until_bound (only_if (not p.is_bound) (own_by call v)) none));
    never = λ none. a.never (asked_first p.until_bound (only_if (not p.is_bound) (own_by call v)) none);
  }

-- a connection is made only where it is Opening
was_opening : (bind : Bind) (until : List LowerCall) (redirect : Option (List ℕ)) (is_bound : Bool) → is_opening bind ≡ true → Says until bind redirect is_bound → asked_of until ≡ [] → ⊥
was_opening Unbound until redirect is_bound on s none = absurd cc
was_opening Opening until redirect is_bound on s none = opened until redirect is_bound s none
was_opening Bound until redirect is_bound on s none = absurd cc
was_opening Closed until redirect is_bound on s none = absurd cc

answering_connected : (flag : Bool) (v : Relay) (p : Past) → awaits v ≡ flag → Answering v p → Answering (if flag then connected_to v else v) (if flag then reconnected p else p)
answering_connected false v p off a = a
answering_connected true v p on a =
    let asked_some = was_opening v.bind p.until_bound v.redirect p.is_bound (and_parts (is_opening v.bind) (is_free v.upper) on).0 a.says in
    record { says = a.says; unconnected = λ none. absurd (asked_some none); never = λ none. absurd (asked_some none) }

answering_called : (call : Call) (v : Relay) (p : Past) → Holds v p → Answering v p → Answering (relay_called call v) (remembered call v (relay_called call v) p)
answering_called (comes side piece mark) v p h a = answering_more (comes side piece mark) v p h (λ is. absurd cc) a
answering_called (bytes_end side) v p h a = answering_more (bytes_end side) v p h (λ is. absurd cc) a
answering_called (turns side) v p h a = answering_more (turns side) v p h (λ is. absurd cc) a
answering_called connects v p h a = answering_connected (awaits v) v p refl a
answering_called fails v p h a = answering_more fails v p h (λ is. absurd cc) a
answering_called (gives side) v p h a = answering_more (gives side) v p h (λ is. absurd cc) a

-- ---- after any calls

pub record IsAnswering (r : ValueRun) : Type 0 where
  pub holds : Holds r.value.relay r.past
  pub answering : Answering r.value.relay r.past

answering_from : (calls : List Call) (v : Relay) (p : Past) → Holds v p → Answering v p → IsAnswering (after_all calls (record { value = whole v; past = p }))
answering_from [] v p h a = record { holds = h; answering = a }
answering_from (call ∷ calls) v p h a =
    let next = relay_called call v in
    subst (λ (value : ValueValue). IsAnswering (after_all calls (record { value = value; past = remembered call v value.relay p }))) (sym (called_whole call v))
    (answering_from calls next (remembered call v next p) (holds_called call v p h).holds (answering_called call v p h a))

answering_first : (peer : List ℕ) → Answering (new_relay peer) no_past
answering_first peer = record {
  says = record { own = []; sent = refl; left = []; is_own = refl; is_left = (refl, refl); bound_by = λ bound. absurd cc };
  unconnected = λ none. refl;
  never = λ none. refl;
}

pub always_answering : AfterAllCalls IsAnswering
always_answering peer calls = answering_from calls (new_relay peer) no_past (holds_first peer) (answering_first peer)
