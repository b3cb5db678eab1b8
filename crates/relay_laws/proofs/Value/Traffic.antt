-- The traffic of a value-add is that of a relay, it is what its ends took and queued, and it goes on with more calls.
use Rattle.std.proofs.Common.{◌≡◌, ℕ, suc, ◌+◌, ◌^◌, ◌<◌, Bool, true, false, true≢false, cond, ◌&&◌, ◌||◌, List, [], ◌∷◌, ◌++◌, length, map, Option, Result, Ok, Err, refl, sym, ap, ap₂, ◌∙◌, subst, arith, append_assoc, append-nil, length-append}
use Rattle.std.specs.Prelude.{decimal, filter}
use Rattle.std.specs.List.{AllByRecursion, flat_map, list_any}
use Rattle.std.proofs.lemmas.List.{map-append}
use Rattle.std.proofs.lemmas.List.Concat.{flat_map-append}
use Rattle.std.proofs.lemmas.List.Folds.{list_any-append}
use Rattle.std.proofs.lemmas.Bool.{and_parts}
use Rattle.channel_core.specs.Arrivals.{Spoken, all_said}
use Rattle.channel_core.specs.QueueLaws.{is_message}
use Rattle.channel_core.specs.Runs.{Run}
use Rattle.channel_core.specs.Wire.{said}
use Rattle.list_laws.specs.Fronts.{IsFront}
use Rattle.tcf_message.specs.Message.{MessageValue, command, event, final, flow, not_known, progress, reading}
use Rattle.tcf_message.specs.declared.message.MessageFault.{MessageFault}
use Rattle.value_node.specs.Asked.{Asked}
use Rattle.value_node.specs.Deeds.{Deed, above_deeds, answers as answers_it, asked_in as commands_in, deeds_by, deeds_from, forwards as forwards_it, heard_in as incoming_in, hears as hears_it, sent_in as forwarded_by_deeds, turn_below_deeds}
use Rattle.value_node.specs.ForwardedValue.{ForwardedValue}
use Rattle.value_node.specs.RelayLaws.{HasEnded, accepted_above, is_ending, passed_in as passed_as, sent_above, told_from}
use Rattle.value_node.specs.Runs.{Call, Past, ValueRun, above, after_all, after_call, below_until_bound, bytes_end, comes, connects, fails, gives, is_binding, next_above, no_calls, reconnected, remembered, turns, upper_by, with_calls}
use Rattle.value_node.specs.Value.{awaits, is_free, is_opening}
use Rattle.value_node.specs.declared.relay.Relay.{Relay}
use Rattle.value_node.specs.declared.states.Bind.TheVariants.{Closed}
use Rattle.value_node.specs.declared.states.Side.TheVariants.{Below, Above}
use Rattle.chain_told.specs.TellsOn.{AreDeeds}
use Rattle.chain_told.specs.Told.{numbered}
use Rattle.relay_laws.specs.Relay.{Crossing, answers, asked_by, asks, ends, forwarded_by, forwards, heard_by, heard_in, hears, passes, sent_in, told_by, told_in}
use Rattle.relay_laws.specs.ValueTraffic.{ItsTrafficGoesOn, ItsTrafficIsReal, ValueAddIsARelay, crossing_heard, crossings_from, has_ended, is_end, said_as, spoken_by, spoken_in, traffic_after, traffic_of}
use Rattle.chain_told.proofs.Doing.{asked_append, sent_append}
use Rattle.chain_told.proofs.Numbered.{under}
use Rattle.chain_told.proofs.Splits.{LastOr, earlier, last, last_or}
use Rattle.value_node.proofs.Holding.{Holds, above_more}
use Rattle.value_node.proofs.HoldsCalled.{always_held}
use Rattle.value_node.proofs.HoldsEnded.{always_stops}
use Rattle.value_node.proofs.Pasts.{taken_in, taken_more}
use Rattle.value_node.proofs.TheLaws.{answers_rightly, forwards_in_order, passes_all_on}
use Rattle.relay_laws.proofs.Moments.{AreGood, good_both, relay_of}
use Rattle.relay_laws.proofs.Value.Few.{deeds_more, few_sent, run_more}
use Rattle.relay_laws.proofs.Value.Readable.{IsWhole, above_reads}
use Rattle.relay_laws.proofs.Value.Rows.{rows_sent}
use Rattle.relay_laws.proofs.Value.Steps.{At, Goes, at_first, goes_back, goes_heard, goes_up, kept_by, order_of}

-- ---- All deeds

joined : (deeds behind : List Deed) (done xs ys : List Crossing) → Goes behind done xs → Goes deeds (done ++ xs) ys → Goes deeds done (xs ++ ys)
joined deeds behind done xs ys first rest = record { good = good_both done xs ys first.good rest.good; at = subst (At deeds) (append_assoc done xs ys) rest.at }

module _ (deeds : List Deed) (right : AreDeeds deeds) (few : length (forwarded_by_deeds deeds) < 10 ^ 64) where
  whole_next : (behind left : List Deed) (deed : Deed) → deeds ≡ behind ++ deed ∷ left → deeds ≡ (behind ++ deed ∷ []) ++ left
  whole_next behind left deed whole = whole ∙ sym (append_assoc behind (deed ∷ []) left)

  walk : (left behind : List Deed) (done : List Crossing) → deeds ≡ behind ++ left → At behind done → AllByRecursion IsWhole (incoming_in left)
      → Goes deeds done (crossings_from (length (commands_in behind)) (forwarded_by_deeds behind) left)
  walk [] behind done whole at reads =
      let same : behind ≡ deeds = sym (append-nil behind) ∙ sym whole in
      record { good = tt; at = subst (At deeds) (sym (append-nil done)) (subst (λ ds. At ds done) same at) }
  walk (forwards_it c ∷ left) behind done whole at reads =
      let g = goes_up deeds right few behind left done c at whole in
      let next = behind ++ forwards_it c ∷ [] in
      let rest = walk left next _ (whole_next behind left (forwards_it c) whole) g.at reads in
      let count : length (commands_in next) ≡ length (commands_in behind) + 1 = ap length (asked_append behind (forwards_it c ∷ [])) ∙ length-append (commands_in behind) (c ∷ []) in
      let sent : forwarded_by_deeds next ≡ forwarded_by_deeds behind ++ c ∷ [] = sent_append behind (forwards_it c ∷ []) in
      let n = length (commands_in behind) in
      let cs = forwarded_by_deeds behind in
      let xs : List Crossing = asks c ∷ forwards n (under (1 + length cs) c) ∷ [] in
      joined deeds next done xs (crossings_from (n + 1) (cs ++ c ∷ []) left) g (subst (λ ys. Goes deeds (done ++ xs) ys) (ap₂ (λ k ds. crossings_from k ds left) count sent) rest)
  walk (answers_it c reply mark ∷ left) behind done whole at reads =
      let g = goes_back deeds right few behind left done c at reply mark whole in
      let next = behind ++ answers_it c reply mark ∷ [] in
      let rest = walk left next _ (whole_next behind left (answers_it c reply mark) whole) g.at reads in
      let count : length (commands_in next) ≡ length (commands_in behind) + 1 = ap length (asked_append behind (answers_it c reply mark ∷ [])) ∙ length-append (commands_in behind) (c ∷ []) in
      let sent : forwarded_by_deeds next ≡ forwarded_by_deeds behind = sent_append behind (answers_it c reply mark ∷ []) ∙ append-nil (forwarded_by_deeds behind) in
      let n = length (commands_in behind) in
      let cs = forwarded_by_deeds behind in
      let xs : List Crossing = asks c ∷ answers n (record { message = final c.token reply; mark = mark }) ∷ [] in
      joined deeds next done xs (crossings_from (n + 1) cs left) g (subst (λ ys. Goes deeds (done ++ xs) ys) (ap₂ (λ k ds. crossings_from k ds left) count sent) rest)
  walk (hears_it incoming ∷ left) behind done whole at reads =
      let g = goes_heard deeds right few behind left done incoming whole at reads.0 in
      let next = behind ++ hears_it incoming ∷ [] in
      let rest = walk left next _ (whole_next behind left (hears_it incoming) whole) g.at reads.1 in
      let count : length (commands_in next) ≡ length (commands_in behind) = ap length (asked_append behind (hears_it incoming ∷ []) ∙ append-nil (commands_in behind)) in
      let sent : forwarded_by_deeds next ≡ forwarded_by_deeds behind = sent_append behind (hears_it incoming ∷ []) ∙ append-nil (forwarded_by_deeds behind) in
      let xs = crossing_heard (forwarded_by_deeds behind) incoming.mark (reading incoming.raw) in
      joined deeds next done xs (crossings_from (length (commands_in behind)) (forwarded_by_deeds behind) left) g
      (subst (λ ys. Goes deeds (done ++ xs) ys) (ap₂ (λ k ds. crossings_from k ds left) count sent) rest)

  pub all_go : AllByRecursion IsWhole (incoming_in deeds) → Goes deeds [] (crossings_from 0 [] deeds)
  all_go reads = walk deeds [] [] refl at_first reads

  -- the end from above comes behind all of them
  pub end_good : (done : List Crossing) (flag : Bool) → At deeds done → AreGood done (cond flag (ends ∷ []) [])
  end_good done false at = tt
  end_good done true at = (
    record {
      order = order_of deeds right few (done ++ ends ∷ []) deeds [] [] (sym (append-nil deeds))
          (kept_by asked_by done (ends ∷ []) refl ∙ at.asked ∙ sym (append-nil (commands_in deeds))) (kept_by forwarded_by done (ends ∷ []) refl ∙ at.rows);
      all = λ taken. at.all;
      now = λ tells. absurd (true≢false (sym tells));
      apart = tt;
    },
    tt,
  )

-- ---- No end is among them

abbrev crossed_as : MessageValue → Option ℕ → MessageValue → List Crossing
crossed_as message mark below = hears (record { message = message; mark = mark }) ∷ passes (record { message = below; mark = mark }) ∷ []

messages_no_end : (message : MessageValue) (mark : Option ℕ) (belows : List MessageValue) → list_any is_end (flat_map (crossed_as message mark) belows) ≡ false
messages_no_end message mark [] = refl
messages_no_end message mark (below ∷ belows) = messages_no_end message mark belows

heard_no_end : (commands : List Asked) (mark : Option ℕ) (what : Result MessageValue MessageFault) → list_any is_end (crossing_heard commands mark what) ≡ false
heard_no_end commands mark (Ok message) = messages_no_end message mark (passed_as commands (Ok message))
heard_no_end commands mark (Err fault) = refl

no_end : (number : ℕ) (commands : List Asked) (deeds : List Deed) → list_any is_end (crossings_from number commands deeds) ≡ false
no_end number commands [] = refl
no_end number commands (forwards_it c ∷ deeds) = no_end (number + 1) (commands ++ c ∷ []) deeds
no_end number commands (answers_it c reply mark ∷ deeds) = no_end (number + 1) commands deeds
no_end number commands (hears_it incoming ∷ deeds) =
    list_any-append is_end (crossing_heard commands incoming.mark (reading incoming.raw)) (crossings_from number commands deeds)
    ∙ ap (λ b. b || list_any is_end (crossings_from number commands deeds)) (heard_no_end commands incoming.mark (reading incoming.raw)) ∙ no_end number commands deeds

end_there : (done rest : List Crossing) → list_any is_end (done ++ ends ∷ rest) ≡ true
end_there done rest = list_any-append is_end done (ends ∷ rest) ∙ by_flag (list_any is_end done)
  where
    by_flag : (flag : Bool) → (flag || true) ≡ true
    by_flag true = refl
    by_flag false = refl

same_rest : {A : Type 0} → (xs ys zs : List A) → xs ++ ys ≡ xs ++ zs → ys ≡ zs
same_rest [] ys zs same = same
same_rest (x ∷ xs) ys zs same = let rest : xs ++ ys ≡ xs ++ zs = cc in same_rest xs ys zs rest

stops_then : (xs : List Crossing) (flag : Bool) → list_any is_end xs ≡ false → (done rest : List Crossing) → xs ++ cond flag (ends ∷ []) [] ≡ done ++ ends ∷ rest → told_in rest ≡ []
stops_then xs false none done rest same =
    absurd (true≢false (sym (end_there done rest) ∙ sym (ap (list_any is_end) (sym (append-nil xs) ∙ same)) ∙ none))
stops_then xs true none done rest same = by_place (last_or xs ends done ends rest same)
  where
    by_place : LastOr xs ends done ends → told_in rest ≡ []
    by_place (last o) =
        let both : done ++ ends ∷ [] ≡ done ++ ends ∷ rest = ap (λ zs. zs ++ ends ∷ []) (sym o.front) ∙ same in
        let tails : ends ∷ [] ≡ ends ∷ rest = same_rest done (ends ∷ []) (ends ∷ rest) both in
        let empty : rest ≡ [] = cc in
        ap told_in empty
    by_place (earlier ys is) = absurd (true≢false (sym (end_there done ys) ∙ sym (ap (list_any is_end) is) ∙ none))

-- ---- It is the traffic of a relay

deeds_right : (peer : List ℕ) (calls : List Call) → AreDeeds (deeds_from calls (no_calls peer))
deeds_right peer calls = record { own = (passes_all_on peer calls).own; rightly = answers_rightly peer calls }

deeds_read : (peer : List ℕ) (calls : List Call) → AllByRecursion IsWhole (incoming_in (deeds_from calls (no_calls peer)))
deeds_read peer calls = subst (AllByRecursion IsWhole) (sym (passes_all_on peer calls).heard) (above_reads (after_all calls (no_calls peer)).past)

pub is_a_relay : ValueAddIsARelay
is_a_relay peer calls =
    let deeds = deeds_from calls (no_calls peer) in
    let past = (after_all calls (no_calls peer)).past in
    let right = deeds_right peer calls in
    let few = few_sent peer calls in
    let g = all_go deeds right few (deeds_read peer calls) in
    let xs = crossings_from 0 [] deeds in
    relay_of (traffic_of past deeds) (good_both [] xs (cond (has_ended past) (ends ∷ []) []) g.good (end_good deeds right few xs (has_ended past) g.at))
    (stops_then xs (has_ended past) (no_end 0 [] deeds))

-- ---- It is what its ends took and queued

heard_one : (commands : List Asked) (mark : Option ℕ) (what : Result MessageValue MessageFault) → heard_in (crossing_heard commands mark what) ≡ spoken_in mark what
heard_one commands mark (Ok (command token service name body)) = refl
heard_one commands mark (Ok (final token body)) = refl
heard_one commands mark (Ok (progress token body)) = refl
heard_one commands mark (Ok (not_known token)) = refl
heard_one commands mark (Ok (event service name body)) = refl
heard_one commands mark (Ok (flow level)) = refl
heard_one commands mark (Err fault) = refl

heard_all : (number : ℕ) (commands : List Asked) (deeds : List Deed) → heard_in (crossings_from number commands deeds) ≡ flat_map spoken_by (incoming_in deeds)
heard_all number commands [] = refl
heard_all number commands (forwards_it c ∷ deeds) = heard_all (number + 1) (commands ++ c ∷ []) deeds
heard_all number commands (answers_it c reply mark ∷ deeds) = heard_all (number + 1) commands deeds
heard_all number commands (hears_it incoming ∷ deeds) =
    flat_map-append heard_by (crossing_heard commands incoming.mark (reading incoming.raw)) (crossings_from number commands deeds)
    ∙ ap₂ (λ xs ys. xs ++ ys) (heard_one commands incoming.mark (reading incoming.raw)) (heard_all number commands deeds)

told_each : (message : MessageValue) (mark : Option ℕ) (belows : List MessageValue) → all_said (told_in (flat_map (crossed_as message mark) belows)) ≡ map (λ m. said m mark) belows
told_each message mark [] = refl
told_each message mark (below ∷ belows) = ap (λ os. said below mark ∷ os) (told_each message mark belows)

told_one : (commands : List Asked) (mark : Option ℕ) (what : Result MessageValue MessageFault) → all_said (told_in (crossing_heard commands mark what)) ≡ map (λ m. said m mark) (passed_as commands what)
told_one commands mark (Ok message) = told_each message mark (passed_as commands (Ok message))
told_one commands mark (Err fault) = refl

said_append : (xs ys : List Spoken) → all_said (xs ++ ys) ≡ all_said xs ++ all_said ys
said_append xs ys = map-append (λ (s : Spoken). said s.message s.mark) xs ys

told_all : (number : ℕ) (commands : List Asked) (deeds : List Deed) → told_from commands deeds ≡ all_said (told_in (crossings_from number commands deeds))
told_all number commands [] = refl
told_all number commands (forwards_it c ∷ deeds) = told_all (number + 1) (commands ++ c ∷ []) deeds
told_all number commands (answers_it c reply mark ∷ deeds) = ap (λ os. said (final c.token reply) mark ∷ os) (told_all (number + 1) commands deeds)
told_all number commands (hears_it incoming ∷ deeds) =
    let first = crossing_heard commands incoming.mark (reading incoming.raw) in
    ap₂ (λ xs ys. xs ++ ys) (sym (told_one commands incoming.mark (reading incoming.raw))) (told_all number commands deeds)
    ∙ sym (said_append (told_in first) (told_in (crossings_from number commands deeds))) ∙ ap all_said (sym (flat_map-append told_by first (crossings_from number commands deeds)))

sent_said : (t : ℕ) (commands : List Asked) → sent_above t commands ≡ map said_as (numbered t commands)
sent_said t [] = refl
sent_said t (c ∷ commands) = ap (λ os. said (command (decimal t) c.service c.name c.body) c.mark ∷ os) (sent_said (t + 1) commands)

-- the end changes nothing of it
with_end : {A : Type 0} → (f : Crossing → List A) (xs : List Crossing) (flag : Bool) → f ends ≡ [] → flat_map f (xs ++ cond flag (ends ∷ []) []) ≡ flat_map f xs
with_end f xs true none = kept_by f xs (ends ∷ []) (ap (λ ys. ys ++ []) none)
with_end f xs false none = ap (flat_map f) (append-nil xs)

ended_so : (xs : List Crossing) (flag : Bool) → list_any is_end xs ≡ false → list_any is_end (xs ++ cond flag (ends ∷ []) []) ≡ flag
ended_so xs true none = end_there xs []
ended_so xs false none = ap (list_any is_end) (append-nil xs) ∙ none

pub is_real : ItsTrafficIsReal
is_real peer calls =
    let deeds = deeds_from calls (no_calls peer) in
    let r = after_all calls (no_calls peer) in
    let xs = crossings_from 0 [] deeds in
    let flag = has_ended r.past in
    let g = all_go deeds (deeds_right peer calls) (few_sent peer calls) (deeds_read peer calls) in
    let forwarded = forwards_in_order peer calls in
    let passed = passes_all_on peer calls in
    let sent_are : sent_above 1 (forwarded_by_deeds deeds) ≡ map said_as (sent_in (traffic_of r.past deeds)) =
    sent_said 1 (forwarded_by_deeds deeds) ∙ ap (map said_as) (sym (ap (map (λ row. row.1)) (with_end forwarded_by xs flag refl ∙ g.at.rows) ∙ rows_sent 0 1 deeds)) in
    record {
      asked = with_end asked_by xs flag refl ∙ g.at.asked ∙ sym forwarded.asked;
      sent = subst (IsFront (accepted_above r)) sent_are forwarded.front;
      all_sent = λ bound. forwarded.all bound ∙ sent_are;
      heard = with_end heard_by xs flag refl ∙ heard_all 0 [] deeds ∙ ap (flat_map spoken_by) passed.heard;
      told = passed.told ∙ ap (λ os. filter is_message (below_until_bound r.past).past.queued ++ os) (told_all 0 [] deeds ∙ ap all_said (sym (with_end told_by xs flag refl)));
      ended = ended_so xs flag (no_end 0 [] deeds);
    }

-- ---- It goes on

crossings_more : (number : ℕ) (commands : List Asked) (deeds more : List Deed)
    → crossings_from number commands (deeds ++ more) ≡ crossings_from number commands deeds ++ crossings_from (number + length (commands_in deeds)) (commands ++ forwarded_by_deeds deeds) more
crossings_more number commands [] more =
    let same : number ≡ number + 0 = omega arith in
    ap₂ (λ n cs. crossings_from n cs more) same (sym (append-nil commands))
crossings_more number commands (forwards_it c ∷ deeds) more =
    let same : (number + 1) + length (commands_in deeds) ≡ number + suc (length (commands_in deeds)) = omega arith in
    ap (λ xs. asks c ∷ forwards number (record c { token = decimal (1 + length commands) }) ∷ xs)
    (crossings_more (number + 1) (commands ++ c ∷ []) deeds more
    ∙ ap₂ (λ n cs. crossings_from (number + 1) (commands ++ c ∷ []) deeds ++ crossings_from n cs more) same (append_assoc commands (c ∷ []) (forwarded_by_deeds deeds)))
crossings_more number commands (answers_it c reply mark ∷ deeds) more =
    let same : (number + 1) + length (commands_in deeds) ≡ number + suc (length (commands_in deeds)) = omega arith in
    ap (λ xs. asks c ∷ answers number (record { message = final c.token reply; mark = mark }) ∷ xs)
    (crossings_more (number + 1) commands deeds more ∙ ap (λ n. crossings_from (number + 1) commands deeds ++ crossings_from n (commands ++ forwarded_by_deeds deeds) more) same)
crossings_more number commands (hears_it incoming ∷ deeds) more =
    let first = crossing_heard commands incoming.mark (reading incoming.raw) in
    ap (λ xs. first ++ xs) (crossings_more number commands deeds more)
    ∙ sym (append_assoc first (crossings_from number commands deeds) (crossings_from (number + length (commands_in deeds)) (commands ++ forwarded_by_deeds deeds) more))

-- what has ended has, and does nothing more
not_again : (flag : Bool) (p q : Past) → flag ≡ false → HasEnded p → HasEnded (cond flag q p)
not_again flag p q off ended = subst (λ b. HasEnded (cond b q p)) (sym off) ended

with_more : (call : Call) (v next : Relay) (p : Past) → Holds v p → HasEnded p → HasEnded (with_calls call v next p)
with_more call v next p h ended = (
  ap (λ b. b || is_binding next.bind) ended.0,
  ap (λ (r : Run ForwardedValue). list_any is_ending r.past.taken) (above_more call v next p h.upper)
      ∙ ap (list_any is_ending) (taken_more (upper_by call v) (above p)) ∙ list_any-append is_ending (above p).past.taken (taken_in (upper_by call v) (above p).end)
      ∙ ap (λ b. b || list_any is_ending (taken_in (upper_by call v) (above p).end)) ended.1,
)

still_ended : (call : Call) (v next : Relay) (p : Past) → Holds v p → v.bind ≡ Closed → HasEnded p → HasEnded (remembered call v next p)
still_ended (comes side piece mark) v next p h shut ended = with_more (comes side piece mark) v next p h ended
still_ended (bytes_end side) v next p h shut ended = with_more (bytes_end side) v next p h ended
still_ended (turns side) v next p h shut ended = with_more (turns side) v next p h ended
still_ended connects v next p h shut ended = not_again (awaits v) p (reconnected p) (ap (λ b. is_opening b && is_free v.upper) shut) ended
still_ended fails v next p h shut ended = with_more fails v next p h ended
still_ended (gives side) v next p h shut ended = with_more (gives side) v next p h ended

closed_does : (call : Call) (v : Relay) → v.bind ≡ Closed → deeds_by call v ≡ []
closed_does (comes side piece mark) v shut = refl
closed_does (bytes_end side) v shut = refl
closed_does (turns Below) v shut = ap (λ bind. turn_below_deeds bind v) shut
closed_does (turns Above) v shut = ap (λ bind. above_deeds bind (next_above v.upper)) shut
closed_does connects v shut = refl
closed_does fails v shut = refl
closed_does (gives side) v shut = refl

pub record IsOver (more : List Call) (r : ValueRun) : Type 0 where
  pub nothing : deeds_from more r ≡ []
  pub ended : HasEnded (after_all more r).past

over_from : (peer : List ℕ) (more calls : List Call) → HasEnded (after_all calls (no_calls peer)).past → IsOver more (after_all calls (no_calls peer))
over_from peer [] calls ended = record { nothing = refl; ended = ended }
over_from peer (call ∷ more) calls ended =
    let r = after_all calls (no_calls peer) in
    let shut = (always_stops peer calls).closed ended in
    let h = (always_held peer calls).holds in
    let same : after_all (calls ++ call ∷ []) (no_calls peer) ≡ after_call call r = run_more calls (call ∷ []) (no_calls peer) in
    let next : HasEnded (after_call call r).past = still_ended call r.value.relay (after_call call r).value.relay r.past h shut ended in
    let rest = subst (IsOver more) same (over_from peer more (calls ++ call ∷ []) (subst (λ (x : ValueRun). HasEnded x.past) (sym same) next)) in
    record { nothing = ap₂ (λ xs ys. xs ++ ys) (closed_does call r.value.relay shut) rest.nothing; ended = rest.ended }

pub goes_on : ItsTrafficGoesOn
goes_on peer calls more = by_flag (has_ended r.past) refl
  where
    r : ValueRun
    r = after_all calls (no_calls peer)

    deeds : List Deed
    deeds = deeds_from calls (no_calls peer)

    later : List Deed
    later = deeds_from more r

    end : ValueRun
    end = after_all (calls ++ more) (no_calls peer)

    all_deeds : deeds_from (calls ++ more) (no_calls peer) ≡ deeds ++ later
    all_deeds = deeds_more calls more (no_calls peer)

    rest : List Crossing
    rest = crossings_from (0 + length (commands_in deeds)) ([] ++ forwarded_by_deeds deeds) later

    all_are : traffic_after peer (calls ++ more) ≡ (crossings_from 0 [] deeds ++ rest) ++ cond (has_ended end.past) (ends ∷ []) []
    all_are = ap (λ ds. crossings_from 0 [] ds ++ cond (has_ended end.past) (ends ∷ []) []) all_deeds ∙ ap (λ xs. xs ++ cond (has_ended end.past) (ends ∷ []) []) (crossings_more 0 [] deeds later)

    by_flag : (flag : Bool) → has_ended r.past ≡ flag → IsFront (traffic_after peer calls) (traffic_after peer (calls ++ more))
    by_flag false off =
        let now : traffic_after peer calls ≡ crossings_from 0 [] deeds = ap (λ b. crossings_from 0 [] deeds ++ cond b (ends ∷ []) []) off ∙ append-nil (crossings_from 0 [] deeds) in (
          rest ++ cond (has_ended end.past) (ends ∷ []) [],
          all_are ∙ append_assoc (crossings_from 0 [] deeds) rest (cond (has_ended end.past) (ends ∷ []) []) ∙ ap (λ xs. xs ++ (rest ++ cond (has_ended end.past) (ends ∷ []) [])) (sym now),
        )
    by_flag true on =
        let over = over_from peer more calls (and_parts r.past.is_bound (list_any is_ending (above r.past).past.taken) on) in
        let ended : HasEnded end.past = subst (λ (x : ValueRun). HasEnded x.past) (sym (run_more calls more (no_calls peer))) over.ended in
        let flag : has_ended end.past ≡ true = ap₂ (λ b c. b && c) ended.0 ended.1 in
        let none : rest ≡ [] = ap (λ ds. crossings_from (0 + length (commands_in deeds)) ([] ++ forwarded_by_deeds deeds) ds) over.nothing in (
          [],
          all_are ∙ ap₂ (λ xs b. (crossings_from 0 [] deeds ++ xs) ++ cond b (ends ∷ []) []) none flag
              ∙ ap₂ (λ xs b. xs ++ cond b (ends ∷ []) []) (append-nil (crossings_from 0 [] deeds)) (sym on) ∙ sym (append-nil (traffic_after peer calls)),
        )
