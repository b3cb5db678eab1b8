-- What was given of a Hello and commands is a Hello and commands, and they are no more than were sent.
use Rattle.std.proofs.Common.{◌≡◌, ℕ, suc, ◌+◌, ◌-◌, ◌≤◌, Bool, true, false, cond, List, [], ◌∷◌, ◌++◌, length, refl, sym, ap, ◌∙◌, arith, append-nil, length-append}
use Rattle.std.specs.List.{filter}
use Rattle.std.proofs.lemmas.List.{length-map}
use Rattle.std.proofs.lemmas.List.Elements.{filter-append}
use Rattle.tcf_message.specs.Message.{IsWellFormed, MessageValue, command, event, final, flow, not_known, progress}
use Rattle.channel_core.specs.Arrivals.{Spoken, enters, queue_of}
use Rattle.channel_core.specs.RunLaws.{SendsInOrder, is_command, sent_of}
use Rattle.channel_core.specs.Runs.{Run}
use Rattle.channel_core.specs.Wire.{end_of_stream}
use Rattle.channel_core.specs.declared.held.Outgoing.{Outgoing}
use Rattle.value_node.specs.Asked.{Asked}
use Rattle.chain_through.specs.Calling.{Calls, all_asking, asking, asks, entering, greeting}
use Rattle.chain_through.proofs.Queues.{commanding, queue_commands}
use Rattle.chain_through.proofs.Spelling.{said_so}
use Rattle.list_laws.proofs.Lists.{none_before}
use Rattle.list_laws.specs.Fronts.{IsFront}
use Rattle.list_laws.proofs.Fronts.{front_each, front_then}

-- ---- No more is said than was given

pub record IsGiven (commands : List Asked) (gave : List Outgoing) : Type 0 where
  pub calls : Calls commands gave
  pub exact : gave ≡ queue_of calls.spoken calls.is_ended

-- a front of a queue is a queue
record IsQueue (spoken : List Spoken) (gave : List Outgoing) : Type 0 where
  first : List Spoken
  is_ended : Bool
  queue : gave ≡ queue_of first is_ended
  front : IsFront first spoken

front_queue : (spoken : List Spoken) (is_ended : Bool) (gave : List Outgoing) → IsFront gave (queue_of spoken is_ended) → IsQueue spoken gave
front_queue spoken is_ended [] p = record { first = []; is_ended = false; queue = refl; front = (spoken, refl) }
front_queue [] true (o ∷ gave) p =
    let whole : end_of_stream ∷ [] ≡ o ∷ (gave ++ p.0) = p.1 in
    let one : o ≡ end_of_stream = cc in
    let none : gave ++ p.0 ≡ [] = cc in
    record { first = []; is_ended = true; queue = ap (λ x. x ∷ gave) one ∙ ap (λ xs. end_of_stream ∷ xs) (none_before gave p.0 none); front = ([], refl) }
front_queue [] false (o ∷ gave) p = let whole : [] ≡ o ∷ (gave ++ p.0) = p.1 in absurd cc
front_queue (s ∷ spoken) is_ended (o ∷ gave) p =
    let whole : said_so s ∷ queue_of spoken is_ended ≡ o ∷ (gave ++ p.0) = p.1 in
    let one : o ≡ said_so s = cc in
    let tails : queue_of spoken is_ended ≡ gave ++ p.0 = cc in
    let rest = front_queue spoken is_ended gave (p.0, tails) in
    record {
      first = s ∷ rest.first;
      is_ended = rest.is_ended;
      queue = ap (λ x. x ∷ gave) one ∙ ap (λ xs. said_so s ∷ xs) rest.queue;
      front = (rest.front.0, ap (λ xs. s ∷ xs) rest.front.1);
    }

pub given_so : (commands : List Asked) (gave : List Outgoing) → Calls commands gave → IsGiven commands gave
given_so commands gave calls =
    let q = front_queue calls.spoken calls.is_ended gave calls.front in
    let entered : IsFront (entering q.first) (entering calls.spoken) = (entering q.front.0, ap entering q.front.1 ∙ filter-append (λ s. enters s.message) q.first q.front.0) in
    record {
      calls = record {
        spoken = q.first;
        is_ended = q.is_ended;
        formed = front_each (λ s. IsWellFormed s.message) q.first calls.spoken q.front calls.formed;
        front = ([], sym q.queue ∙ sym (append-nil gave));
        services = calls.services;
        says = front_then (entering q.first) (entering calls.spoken) (greeting calls.services ∷ all_asking 1 commands) entered calls.says;
      };
      exact = q.queue;
    }

-- ---- How many commands it says

commands_enter : (spoken : List Spoken) → commanding (entering spoken) ≡ commanding spoken
commands_enter [] = refl
commands_enter (s ∷ spoken) = by_flags (asks s.message) (enters s.message) refl (asked_enter s.message) (commands_enter spoken)
  where
    asked_enter : (m : MessageValue) → asks m ≡ true → enters m ≡ true
    asked_enter (command token service name body) is = refl
    asked_enter (final token body) is = refl
    asked_enter (progress token body) is = refl
    asked_enter (not_known token) is = refl
    asked_enter (event service name body) is = refl
    asked_enter (flow level) is = absurd cc

    by_flags : (a b : Bool) → asks s.message ≡ a → (a ≡ true → b ≡ true) → commanding (entering spoken) ≡ commanding spoken
        → commanding (cond b (s ∷ entering spoken) (entering spoken)) ≡ cond a (s ∷ commanding spoken) (commanding spoken)
    by_flags true true is enter rest = ap (λ flag. cond flag (s ∷ commanding (entering spoken)) (commanding (entering spoken))) is ∙ ap (λ xs. s ∷ xs) rest
    by_flags false true is enter rest = ap (λ flag. cond flag (s ∷ commanding (entering spoken)) (commanding (entering spoken))) is ∙ rest
    by_flags true false is enter rest = let other : false ≡ true = enter refl in absurd cc
    by_flags false false is enter rest = rest

asked_many : (n : ℕ) (spoken : List Spoken) (commands : List Asked) → IsFront spoken (all_asking n commands) → length (commanding spoken) ≡ length spoken
asked_many n [] commands p = refl
asked_many n (s ∷ spoken) [] p = let whole : [] ≡ s ∷ (spoken ++ p.0) = p.1 in absurd cc
asked_many n (s ∷ spoken) (c ∷ commands) p =
    let whole : asking n c ∷ all_asking (n + 1) commands ≡ s ∷ (spoken ++ p.0) = p.1 in
    let one : s ≡ asking n c = cc in
    let tails : all_asking (n + 1) commands ≡ spoken ++ p.0 = cc in
    ap (λ x. length (cond (asks x.message) (s ∷ commanding spoken) (commanding spoken))) one ∙ ap suc (asked_many (n + 1) spoken commands (p.0, tails))

called_many : (spoken : List Spoken) (services : List ℕ) (commands : List Asked) → IsFront spoken (greeting services ∷ all_asking 1 commands) → length spoken ≤ 1 + length (commanding spoken)
called_many [] services commands p = omega arith
called_many (s ∷ spoken) services commands p =
    let whole : greeting services ∷ all_asking 1 commands ≡ s ∷ (spoken ++ p.0) = p.1 in
    let one : s ≡ greeting services = cc in
    let tails : all_asking 1 commands ≡ spoken ++ p.0 = cc in
    let same : length (commanding (s ∷ spoken)) ≡ length (commanding spoken) = ap (λ x. length (cond (asks x.message) (s ∷ commanding spoken) (commanding spoken))) one in
    let many : length (commanding spoken) ≡ length spoken = asked_many 1 spoken commands (p.0, tails) in
    omega arith

pub given_few : {T : Type 0} → (r : Run T) (commands : List Asked) → r.past.given ++ r.end.queued ≡ r.past.queued → SendsInOrder r → (g : IsGiven commands r.past.given) → length (entering g.calls.spoken) - 1 ≤ length (sent_of r)
given_few r commands order sends g =
    let spoken = g.calls.spoken in
    let one : length (entering spoken) ≤ 1 + length (commanding (entering spoken)) = called_many (entering spoken) g.calls.services commands g.calls.says in
    let two : length (commanding (entering spoken)) ≡ length (commanding spoken) = ap length (commands_enter spoken) in
    let three : length (filter is_command r.past.given) ≡ length (commanding spoken) =
    ap length (ap (filter is_command) g.exact ∙ queue_commands spoken g.calls.is_ended) ∙ length-map (commanding spoken) said_so in
    let four : length (filter is_command r.past.queued) ≡ length (filter is_command r.past.given) + length (filter is_command r.end.queued) =
    ap length (ap (filter is_command) (sym order) ∙ filter-append is_command r.past.given r.end.queued) ∙ length-append (filter is_command r.past.given) (filter is_command r.end.queued) in
    let five : length (filter is_command r.past.queued) ≡ length (sent_of r) = ap length sends.are_sent ∙ length-map (sent_of r) (λ i. i.command.outgoing) in
    omega arith
