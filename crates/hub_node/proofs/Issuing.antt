-- The commands that a hub sends above are those that its upper end accepts, under 1, 2, 3 and so on.
use Rattle.std.proofs.Common.{◌≡◌, ℕ, suc, ◌+◌, ◌-◌, Bool, true, false, cond, List, [], ◌∷◌, ◌++◌, length, map, decimal, Option, Some, None, refl, sym, ap, subst, ◌∙◌, arith, append-nil, append_assoc}
use Rattle.std.specs.Prelude.{Result, Ok, Err}
use Rattle.std.specs.List.{filter, range_with_len}
use Rattle.std.proofs.lemmas.List.{map-append}
use Rattle.std.proofs.lemmas.List.Concat.{flat_map-append}
use Rattle.channel_core.specs.Beginning.{new_end}
use Rattle.channel_core.specs.EndValue.{EndValue}
use Rattle.channel_core.specs.RunLaws.{is_command}
use Rattle.channel_core.specs.Runs.{Call as EndCall, Issued, Run, after_call, after_calls, begun, called, closing, commanding, delivering, draining, ending, issued, putting_out, sending, taking, unless_refused}
use Rattle.channel_core.specs.Sending.{refusal_to}
use Rattle.channel_core.specs.Taking.{next_taken}
use Rattle.channel_core.specs.Wire.{is_redirect, said}
use Rattle.channel_core.specs.declared.held.Outgoing.{Outgoing}
use Rattle.channel_core.specs.declared.sending.SendRefusal.{SendRefusal}
use Rattle.channel_core.specs.declared.taking.Taken.{Taken}
use Rattle.channel_core.specs.declared.taking.Taken.TheVariants as taken
use Rattle.channel_core.proofs.TheLaws.{counts_answers, sends_in_order}
use Rattle.list_laws.specs.Fronts.{IsFront}
use Rattle.list_laws.proofs.Fronts.{front_map, front_same, front_take}
use Rattle.tcf_message.specs.Message.{MessageValue, command, event, final, flow, not_known, progress, reading}
use Rattle.tcf_message.specs.declared.message.MessageFault.{MessageFault}
use Rattle.hub_node.specs.Calls.{Call, opens, comes, bytes_end, turns, gives}
use Rattle.hub_node.specs.Deeds.{Asked, answers, asked_deeds, below_deeds, deeds_by, forwards, joins, sent_by, sent_in, above_deeds, ends as all_ends}
use Rattle.hub_node.specs.HubLaws.{sent_above}
use Rattle.hub_node.specs.Relay.{next_below, opened_at, upper_services}
use Rattle.hub_node.specs.RelayValue.{RelayValue}
use Rattle.hub_node.specs.Runs.{HubRun, above_by, above_run, after_call as hub_after, asked_above, forwarding, refused_calls, took_above}
use Rattle.hub_node.specs.declared.side.HubSide.TheVariants.{Above, Below}
use Rattle.hub_node.specs.declared.waiting.Tag.{Tag}
use Rattle.hub_node.proofs.EndRuns.{run_more}
use Rattle.hub_node.proofs.Holding.{Holds}

-- ---- what more calls of an end add to the commands that it accepted

module _ {T : Type 0} where
  abbrev pub issued_by : EndCall T → EndValue T → List (Issued T)
  issued_by (commanding service name body tag mark) e = unless_refused (refusal_to service name body e) [] (issued service name body tag mark e ∷ [])
  issued_by (delivering piece mark) e = []
  issued_by ending e = []
  issued_by taking e = []
  issued_by (sending message mark) e = []
  issued_by putting_out e = []
  issued_by closing e = []
  issued_by draining e = []

  abbrev pub issued_in : List (EndCall T) → EndValue T → List (Issued T)
  issued_in [] e = []
  issued_in (call ∷ calls) e = issued_by call e ++ issued_in calls (called call e)

  by_call : (call : EndCall T) (r : Run T) → (after_call call r).past.accepted ≡ r.past.accepted ++ issued_by call r.end
  by_call (commanding service name body tag mark) r = refl
  by_call (delivering piece mark) r = sym (append-nil r.past.accepted)
  by_call ending r = sym (append-nil r.past.accepted)
  by_call taking r = sym (append-nil r.past.accepted)
  by_call (sending message mark) r = sym (append-nil r.past.accepted)
  by_call putting_out r = sym (append-nil r.past.accepted)
  by_call closing r = sym (append-nil r.past.accepted)
  by_call draining r = sym (append-nil r.past.accepted)

  accepted_after : (calls : List (EndCall T)) (r : Run T) → (after_calls calls r).past.accepted ≡ r.past.accepted ++ issued_in calls r.end
  accepted_after [] r = sym (append-nil r.past.accepted)
  accepted_after (call ∷ calls) r =
      accepted_after calls (after_call call r) ∙ ap (λ xs. xs ++ issued_in calls (called call r.end)) (by_call call r)
      ∙ append_assoc r.past.accepted (issued_by call r.end) (issued_in calls (called call r.end))

  pub accepted_more : (calls more : List (EndCall T)) (r : Run T) → (after_calls (calls ++ more) r).past.accepted ≡ (after_calls calls r).past.accepted ++ issued_in more (after_calls calls r).end
  accepted_more calls more r = ap (λ (x : Run T). x.past.accepted) (run_more calls more r) ∙ accepted_after more (after_calls calls r)

-- ---- what a call of a hub adds: one command or none

pub data Adds (upper : EndValue Tag) (new : List (Issued Tag)) (asked : List Asked) : Type 0 where
  nothing : (none : new ≡ []) (no_deed : asked ≡ []) → Adds upper new asked
  one : (c : Asked) (tag : Tag) (is : new ≡ issued c.service c.name c.body tag c.mark upper ∷ []) (deed : asked ≡ c ∷ []) → Adds upper new asked

none_added : (upper : EndValue Tag) → Adds upper [] []
none_added upper = nothing refl refl

forwarding_adds : (key i : ℕ) (mark : Option ℕ) (m : Result MessageValue MessageFault) (upper : EndValue Tag) → Adds upper (issued_in (forwarding key mark m upper) upper) (sent_in (asked_deeds i mark m upper))
forwarding_adds key i mark (Ok (command token service name body)) upper = by_flag (is_redirect service name)
  where
    c : Asked
    c = record { channel = i; token = token; service = service; name = name; body = body; mark = mark }

    tag : Tag
    tag = record { key = key; serial = upper.last + 1 }

    calls : Option SendRefusal → List (EndCall Tag)
    calls o = unless_refused o (closing ∷ []) (commanding service name body tag mark ∷ [])

    by_why : (o : Option SendRefusal) → refusal_to service name body upper ≡ o → Adds upper (issued_in (calls o) upper) (sent_in (unless_refused o all_ends (forwards c) ∷ []))
    by_why None is = one c tag (ap (λ x. unless_refused x [] (issued service name body tag mark upper ∷ []) ++ []) is) refl
    by_why (Some why) is = none_added upper

    by_flag : (own : Bool) → Adds upper (issued_in (cond own [] (calls (refusal_to service name body upper))) upper)
        (sent_in (cond own (answers c ∷ []) (unless_refused (refusal_to service name body upper) all_ends (forwards c) ∷ [])))
    by_flag true = none_added upper
    by_flag false = by_why (refusal_to service name body upper) refl
forwarding_adds key i mark (Ok (final token body)) upper = none_added upper
forwarding_adds key i mark (Ok (progress token body)) upper = none_added upper
forwarding_adds key i mark (Ok (event service name body)) upper = none_added upper
forwarding_adds key i mark (Ok (not_known token)) upper = none_added upper
forwarding_adds key i mark (Ok (flow level)) upper = none_added upper
forwarding_adds key i mark (Err fault) upper = none_added upper

below_adds : (key i : ℕ) (what : Option (Taken Unit)) (upper : EndValue Tag) → Adds upper (issued_in (asked_above key what upper) upper) (sent_in (below_deeds i what upper))
below_adds key i None upper = none_added upper
below_adds key i (Some (taken.Hello incoming)) upper = none_added upper
below_adds key i (Some (taken.Command incoming)) upper = forwarding_adds key i incoming.mark (reading incoming.raw) upper
below_adds key i (Some (taken.Event incoming)) upper = none_added upper
below_adds key i (Some (taken.Progress token incoming)) upper = none_added upper
below_adds key i (Some (taken.Final tag incoming)) upper = none_added upper
below_adds key i (Some (taken.Closed cause)) upper = none_added upper

pub refused_none : (m : Result MessageValue MessageFault) (e : EndValue Tag) → issued_in (refused_calls m) e ≡ []
refused_none (Ok (command token service name body)) e = refl
refused_none (Ok (final token body)) e = refl
refused_none (Ok (progress token body)) e = refl
refused_none (Ok (event service name body)) e = refl
refused_none (Ok (not_known token)) e = refl
refused_none (Ok (flow level)) e = refl
refused_none (Err fault) e = refl

above_adds : (bound : Bool) (what : Option (Taken Tag)) (upper e : EndValue Tag) → Adds upper (issued_in (took_above what) e) (sent_in (above_deeds bound what))
above_adds bound None upper e = none_added upper
above_adds true (Some (taken.Hello incoming)) upper e = none_added upper
above_adds false (Some (taken.Hello incoming)) upper e = none_added upper
above_adds bound (Some (taken.Command incoming)) upper e = nothing (refused_none (reading incoming.raw) e) refl
above_adds bound (Some (taken.Event incoming)) upper e = none_added upper
above_adds bound (Some (taken.Progress token incoming)) upper e = none_added upper
above_adds bound (Some (taken.Final tag incoming)) upper e = none_added upper
above_adds bound (Some (taken.Closed cause)) upper e = none_added upper

joined_adds : (did : Bool) (j : ℕ) (upper : EndValue Tag) → Adds upper [] (sent_in (cond did (joins j ∷ []) []))
joined_adds true j upper = none_added upper
joined_adds false j upper = none_added upper

pub call_adds : (call : Call) (q : RelayValue) → Adds q.upper (issued_in (above_by call q) q.upper) (sent_in (deeds_by call q))
call_adds (opens j) q = joined_adds (opened_at j q).0 j q.upper
call_adds (comes Above piece mark) q = none_added q.upper
call_adds (comes (Below j) piece mark) q = none_added q.upper
call_adds (bytes_end Above) q = none_added q.upper
call_adds (bytes_end (Below j)) q = none_added q.upper
call_adds (turns key Above) q = above_adds q.is_bound (next_taken q.upper).0 q.upper (next_taken q.upper).1
call_adds (turns key (Below j)) q = below_adds key j (next_below j q).0 q.upper
call_adds (gives Above) q = none_added q.upper
call_adds (gives (Below j)) q = none_added q.upper

-- ---- the tokens

last_number : (xs : List (Issued Tag)) (x : Issued Tag) (low : ℕ) → map (λ i. i.command.token) (xs ++ x ∷ []) ≡ range_with_len low (length (xs ++ x ∷ [])) → x.command.token ≡ low + length xs
last_number [] x low are = let same : x.command.token ≡ low = cc in omega arith
last_number (y ∷ xs) x low are =
    let tail : map (λ i. i.command.token) (xs ++ x ∷ []) ≡ range_with_len (low + 1) (length (xs ++ x ∷ [])) = cc in
    let rest : x.command.token ≡ (low + 1) + length xs = last_number xs x (low + 1) tail in omega arith

pub sent_push : (low : ℕ) (cs : List Asked) (c : Asked) → sent_above low (cs ++ c ∷ []) ≡ sent_above low cs ++ said (command (decimal (low + length cs)) c.service c.name c.body) c.mark ∷ []
sent_push low [] c = let same : low ≡ low + 0 = omega arith in ap (λ n. said (command (decimal n) c.service c.name c.body) c.mark ∷ []) same
sent_push low (d ∷ cs) c =
    let same : (low + 1) + length cs ≡ low + length (d ∷ cs) = omega arith in
    ap (λ os. said (command (decimal low) d.service d.name d.body) d.mark ∷ os)
    (sent_push (low + 1) cs c ∙ ap (λ n. sent_above (low + 1) cs ++ said (command (decimal n) c.service c.name c.body) c.mark ∷ []) same)

pub sent_length : (low : ℕ) (cs : List Asked) → length (sent_above low cs) ≡ length cs
sent_length low [] = refl
sent_length low (c ∷ cs) = ap suc (sent_length (low + 1) cs)

pub length_map : {A B : Type 0} → (f : A → B) (xs : List A) → length (map f xs) ≡ length xs
length_map f [] = refl
length_map f (x ∷ xs) = ap suc (length_map f xs)

-- ---- the commands that were accepted are those that the hub sent

abbrev pub AreIssued : HubRun → Type 0
AreIssued r = map (λ i. i.command.outgoing) (above_run r).past.accepted ≡ sent_above 1 (sent_in r.deeds)

-- one more, under the next number
issued_one : (acc : List (Issued Tag)) (asked : List Asked) (c : Asked) (tag : Tag) (upper : EndValue Tag) → map (λ i. i.command.outgoing) acc ≡ sent_above 1 asked
    → map (λ i. i.command.token) (acc ++ issued c.service c.name c.body tag c.mark upper ∷ []) ≡ range_with_len 1 (length (acc ++ issued c.service c.name c.body tag c.mark upper ∷ []))
    → map (λ i. i.command.outgoing) (acc ++ issued c.service c.name c.body tag c.mark upper ∷ []) ≡ sent_above 1 (asked ++ c ∷ [])
issued_one acc asked c tag upper are counted =
    let x : Issued Tag = issued c.service c.name c.body tag c.mark upper in
    let next : upper.last + 1 ≡ 1 + length acc = last_number acc x 1 counted in
    let long : length acc ≡ length asked = sym (length_map (λ (i : Issued Tag). i.command.outgoing) acc) ∙ ap length are ∙ sent_length 1 asked in
    let number : upper.last + 1 ≡ 1 + length asked = omega (arith, next, long) in
    map-append (λ (i : Issued Tag). i.command.outgoing) acc (x ∷ [])
    ∙ ap (λ os. os ++ said (command (decimal (upper.last + 1)) c.service c.name c.body) c.mark ∷ []) are
    ∙ ap (λ n. sent_above 1 asked ++ said (command (decimal n) c.service c.name c.body) c.mark ∷ []) number
    ∙ sym (sent_push 1 asked c)

issued_more : (acc new : List (Issued Tag)) (asked more : List Asked) (upper : EndValue Tag) → Adds upper new more → map (λ i. i.command.outgoing) acc ≡ sent_above 1 asked
    → map (λ i. i.command.token) (acc ++ new) ≡ range_with_len 1 (length (acc ++ new)) → map (λ i. i.command.outgoing) (acc ++ new) ≡ sent_above 1 (asked ++ more)
issued_more acc new asked more upper (nothing none no_deed) are counted =
    ap (λ xs. map (λ (i : Issued Tag). i.command.outgoing) (acc ++ xs)) none ∙ ap (map (λ (i : Issued Tag). i.command.outgoing)) (append-nil acc)
    ∙ are ∙ ap (sent_above 1) (sym (append-nil asked)) ∙ ap (λ cs. sent_above 1 (asked ++ cs)) (sym no_deed)
issued_more acc new asked more upper (one c tag is deed) are counted =
    ap (λ xs. map (λ (i : Issued Tag). i.command.outgoing) (acc ++ xs)) is
    ∙ issued_one acc asked c tag upper are (subst (λ xs. map (λ (i : Issued Tag). i.command.token) (acc ++ xs) ≡ range_with_len 1 (length (acc ++ xs))) is counted)
    ∙ ap (λ cs. sent_above 1 (asked ++ cs)) (sym deed)

pub issued_step : (j : ℕ) (call : Call) (r : HubRun) → Holds j r → AreIssued r → AreIssued (hub_after j call r)
issued_step j call r h are =
    let q = r.hub.relay in
    let acc = (above_run r).past.accepted in
    let more = issued_in (above_by call q) q.upper in
    let so : (above_run (hub_after j call r)).past.accepted ≡ acc ++ more =
    accepted_more r.above (above_by call q) (begun (new_end upper_services None)) ∙ ap (λ (e : EndValue Tag). acc ++ issued_in (above_by call q) e) (sym h.above) in
    let counted = (counts_answers upper_services None (r.above ++ above_by call q)).tokens in
    ap (map (λ (i : Issued Tag). i.command.outgoing)) so
    ∙ issued_more acc more (sent_in r.deeds) (sent_in (deeds_by call q)) q.upper (call_adds call q) are
    (subst (λ xs. map (λ (i : Issued Tag). i.command.token) xs ≡ range_with_len 1 (length xs)) so counted)
    ∙ ap (sent_above 1) (sym (flat_map-append sent_by r.deeds (deeds_by call q)))

-- those that were queued are a front of them
pub sent_front : (r : HubRun) → AreIssued r → IsFront (filter is_command (above_run r).past.queued) (sent_above 1 (sent_in r.deeds))
sent_front r are =
    let run = above_run r in
    let s = sends_in_order upper_services None r.above in
    let out : Issued Tag → Outgoing = λ (i : Issued Tag). i.command.outgoing in
    let front = front_map out _ run.past.accepted (front_take (length run.past.accepted - length run.end.held) run.past.accepted) in
    subst (λ xs. IsFront xs (sent_above 1 (sent_in r.deeds))) (sym s.are_sent) (front_same _ (map out run.past.accepted) (sent_above 1 (sent_in r.deeds)) are front)
