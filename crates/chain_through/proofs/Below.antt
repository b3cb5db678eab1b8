-- The lower end of a value-add: the commands that it took, and the messages that it says.
use Rattle.std.proofs.Common.{◌≡◌, ℕ, suc, ◌+◌, ◌-◌, ◌≤◌, Bool, false, List, [], ◌∷◌, ◌++◌, length, map, None, refl, sym, ap, ◌∙◌, subst, arith, append_assoc, append-nil, length-append}
use Rattle.std.specs.Prelude.{decimal}
use Rattle.std.specs.List.{AllByRecursion, filter, flat_map}
use Rattle.std.proofs.lemmas.List.{map-append}
use Rattle.std.proofs.lemmas.List.Concat.{flat_map-append}
use Rattle.tcf_message.specs.Message.{IsWellFormed, command, event, reading}
use Rattle.channel_core.specs.Arrivals.{AreSpoken, Spoken, arrived, bytes_of, marked, messages_in, queue_of}
use Rattle.channel_core.specs.Beginning.{new_end}
use Rattle.channel_core.specs.QueueLaws.{is_message}
use Rattle.channel_core.specs.ReceivingLaws.{incoming_of}
use Rattle.channel_core.specs.Runs.{after_calls, begun}
use Rattle.channel_core.specs.Wire.{hello, locator}
use Rattle.channel_core.specs.declared.held.Outgoing.{Outgoing}
use Rattle.value_node.specs.Asked.{Asked}
use Rattle.value_node.specs.OwnLaws.{AnswersItself, asked_until}
use Rattle.value_node.specs.OwnMessages.{BeginsWithHello}
use Rattle.value_node.specs.Deeds.{heard_in}
use Rattle.value_node.specs.RelayLaws.{asked_by, asked_in, asked_since, told_from}
use Rattle.value_node.specs.Runs.{Past, above, below, below_since_bound, below_until_bound, lower_after}
use Rattle.value_node.specs.Value.{value_services}
use Rattle.chain_route.proofs.Unheard.{value_hello}
use Rattle.chain_route.specs.Carrying.{End, Made, end_above, end_below, past_of}
use Rattle.chain_told.specs.Told.{numbered}
use Rattle.chain_told.specs.TellsOn.{tells}
use Rattle.chain_through.specs.Calling.{Calls, all_asking, entering, greeting}
use Rattle.channel_core.proofs.TheLaws.{receives_in_order}
use Rattle.tcf_message.proofs.TheLaws.{read_back}
use Rattle.value_node.proofs.TheLaws.{answers_itself, passes_all_on}
use Rattle.chain_through.proofs.Above.{asked_written, hello_enters, queued_more}
use Rattle.list_laws.specs.Fronts.{IsFront}
use Rattle.list_laws.proofs.Fronts.{IsMapped, front_mapped, front_each, front_flat, front_same, front_then}
use Rattle.chain_through.proofs.Facts.{below_read, calls_above, deeds_of, facts_of}
use Rattle.chain_through.proofs.Hearing.{AreReadable}
use Rattle.chain_told.proofs.Numbered.{numbered_parts, under}
use Rattle.chain_through.proofs.Owning.{own_spelled}
use Rattle.chain_through.proofs.Queues.{entering_formed, queue_messages}
use Rattle.chain_through.proofs.Spelling.{AreSpelled, IsSpelled, one_said, said_so, same_said}
use Rattle.chain_through.proofs.Taking.{IsWritten, all_written, asked_of, calls_fit, come_as, commands_in, commands_read, received_front, taken_split}
use Rattle.chain_through.proofs.Telling.{tells_spelled, told_said}
use Rattle.chain_route.proofs.Adds.{run_of}
use Rattle.list_laws.proofs.AllLists.{all_append}

-- ---- The commands that it took are the first of those that were sent

-- a Hello and commands ask for the commands, and they are one fewer
record AreAsked (spoken : List Spoken) (commands : List Asked) : Type 0 where
  asked : List Asked
  front : IsFront asked commands
  are : asked_of spoken ≡ numbered 1 asked
  few : length asked ≤ length spoken - 1

asking_numbered : (n : ℕ) (commands : List Asked) → asked_of (all_asking n commands) ≡ numbered n commands
asking_numbered n [] = refl
asking_numbered n (c ∷ commands) = ap (λ cs. under n c ∷ cs) (asking_numbered (n + 1) commands)

-- a front of commands as they are sent
record AreFirst (spoken : List Spoken) (n : ℕ) (commands : List Asked) : Type 0 where
  first : List Asked
  front : IsFront first commands
  are : spoken ≡ all_asking n first
  many : length first ≡ length spoken

first_asked : (n : ℕ) (spoken : List Spoken) (commands : List Asked) → IsFront spoken (all_asking n commands) → AreFirst spoken n commands
first_asked n [] commands p = record { first = []; front = (commands, refl); are = refl; many = refl }
first_asked n (s ∷ spoken) [] p = let whole : [] ≡ s ∷ (spoken ++ p.0) = p.1 in absurd cc
first_asked n (s ∷ spoken) (c ∷ commands) p =
    let whole : record { message = command (decimal n) c.service c.name c.body; mark = c.mark } ∷ all_asking (n + 1) commands ≡ s ∷ (spoken ++ p.0) = p.1 in
    let one : record { message = command (decimal n) c.service c.name c.body; mark = c.mark } ≡ s = cc in
    let tails : all_asking (n + 1) commands ≡ spoken ++ p.0 = cc in
    let rest = first_asked (n + 1) spoken commands (p.0, tails) in
    record {
      first = c ∷ rest.first;
      front = (rest.front.0, ap (λ cs. c ∷ cs) rest.front.1);
      are = ap (λ x. x ∷ spoken) (sym one) ∙ ap (λ xs. record { message = command (decimal n) c.service c.name c.body; mark = c.mark } ∷ xs) rest.are;
      many = ap suc rest.many;
    }

called_asks : (spoken : List Spoken) (services : List ℕ) (commands : List Asked) → IsFront spoken (greeting services ∷ all_asking 1 commands) → AreAsked spoken commands
called_asks [] services commands p = record { asked = []; front = (commands, refl); are = refl; few = omega arith }
called_asks (s ∷ spoken) services commands p =
    let whole : greeting services ∷ all_asking 1 commands ≡ s ∷ (spoken ++ p.0) = p.1 in
    let one : s ≡ greeting services = cc in
    let tails : all_asking 1 commands ≡ spoken ++ p.0 = cc in
    let f = first_asked 1 spoken commands (p.0, tails) in
    let many : length f.first ≡ length spoken = f.many in
    record {
      asked = f.first;
      front = f.front;
      are = ap (λ x. asked_of (x ∷ spoken)) one ∙ ap asked_of f.are ∙ asking_numbered 1 f.first;
      few = omega arith;
    }

-- those until it was bound, those since, and others
pub record Took (p : Past) (commands : List Asked) (count : ℕ) : Type 0 where
  pub until : List Asked
  pub since : List Asked
  pub more : List Asked
  pub parts : commands ≡ until ++ (since ++ more)
  pub until_are : asked_until p ≡ numbered 1 until
  pub since_are : asked_since p ≡ numbered (length until + 1) since
  pub few : length until + length since ≤ count

took_so : (p : Past) (spoken : List Spoken) (commands : List Asked) → AreAsked spoken commands → IsFront (asked_until p ++ asked_since p) (asked_of spoken) → Took p commands (length spoken - 1)
took_so p spoken commands a front =
    let whole = numbered_parts 1 (asked_until p ++ asked_since p) front.0 a.asked (sym a.are ∙ front.1) in
    let parts = numbered_parts 1 (asked_until p) (asked_since p) whole.front (sym whole.first) in
    let place : 1 + length parts.front ≡ length parts.front + 1 = omega arith in
    let many : length a.asked ≡ length whole.front + length whole.behind = ap length whole.are ∙ length-append whole.front whole.behind in
    let both : length whole.front ≡ length parts.front + length parts.behind = ap length parts.are ∙ length-append parts.front parts.behind in
    let few : length a.asked ≤ length spoken - 1 = a.few in
    record {
      until = parts.front;
      since = parts.behind;
      more = whole.behind ++ a.front.0;
      parts =
          a.front.1 ∙ ap (λ cs. cs ++ a.front.0) whole.are ∙ append_assoc whole.front whole.behind a.front.0
          ∙ ap (λ cs. cs ++ (whole.behind ++ a.front.0)) parts.are ∙ append_assoc parts.front parts.behind (whole.behind ++ a.front.0);
      until_are = parts.first;
      since_are = parts.others ∙ ap (λ n. numbered n parts.behind) place;
      few = omega arith;
    }

-- ---- The messages that it says

-- a Hello, and others
pub record Greets (own : List Spoken) : Type 0 where
  pub first : Spoken
  pub others : List Spoken
  pub are : own ≡ first ∷ others
  pub services : List ℕ
  pub says : first.message ≡ event locator hello services

first_greets : (own : List Spoken) (more : List Outgoing) → AreSpelled own → map said_so own ≡ said_so (greeting value_services) ∷ more → Greets own
first_greets [] more spelled is = absurd cc
first_greets (s ∷ own) more spelled is =
    let whole : said_so s ∷ map said_so own ≡ said_so (greeting value_services) ∷ more = is in
    let one : said_so (greeting value_services) ≡ said_so s = cc in
    record { first = s; others = own; are = refl; services = value_services; says = ap (λ x. x.message) (sym (one_said (greeting value_services) s value_hello spelled.0 one)) }

pub begins_own : (own : List Spoken) → Greets own → BeginsWithHello own
begins_own own g = subst BeginsWithHello (sym g.are) (g.services, g.says)

pub begins_more : (own more : List Spoken) → Greets own → BeginsWithHello (own ++ more)
begins_more own more g = subst (λ xs. BeginsWithHello (xs ++ more)) (sym g.are) (g.services, g.says)

-- those that it says itself, and those that it tells of its deeds, where it heard the first of the ones that come to it
pub record SaysBelow (m : Made) (come : List Spoken) (down : List Spoken) : Type 0 where
  pub own : AnswersItself (run_of m)
  pub own_formed : AreSpoken own.own
  pub greets : Greets own.own
  pub heard : List Spoken
  pub front : IsFront heard come
  pub are : heard_in (deeds_of m) ≡ map come_as heard
  pub formed : AreSpoken heard
  pub readable : AreReadable heard
  pub says : down ≡ own.own ++ tells (deeds_of m)

are_readable : (heard : List Spoken) → AreSpoken heard → AreReadable heard
are_readable [] formed = tt
are_readable (s ∷ heard) formed = (read_back.1 s.message formed.0, are_readable heard formed.1)

pub took : (lower : End) (m : Made) (commands : List Asked) → IsFront (end_below (past_of m)).came (bytes_of lower.gave) → (calls : Calls commands lower.gave)
    → Took (past_of m) commands (length (entering calls.spoken) - 1)
took lower m commands comes calls =
    let p = past_of m in
    let r = below p in
    let all = p.until_bound ++ p.since_bound in
    let queue = queue_of calls.spoken calls.is_ended in
    let gave : IsFront (bytes_of lower.gave) (bytes_of queue) = front_flat (λ o. marked o.bytes o.mark) lower.gave queue calls.front in
    let came : IsFront (arrived all) (bytes_of queue) = front_then (arrived all) (bytes_of lower.gave) (bytes_of queue) comes gave in
    let order = receives_in_order value_services None all calls.spoken calls.is_ended calls.formed came in
    let got : IsFront (flat_map incoming_of r.past.taken) (messages_in calls.spoken) = received_front r (messages_in calls.spoken) order.front in
    let commands_got : IsFront (commands_in (flat_map incoming_of r.past.taken)) (commands_in (messages_in calls.spoken)) =
    front_flat (λ i. asked_in i.mark (reading i.raw)) (flat_map incoming_of r.past.taken) (messages_in calls.spoken) got in
    let asked : IsFront (commands_in (flat_map incoming_of r.past.taken)) (asked_of (entering calls.spoken)) =
    front_same (commands_in (flat_map incoming_of r.past.taken)) (commands_in (messages_in calls.spoken)) (asked_of (entering calls.spoken))
    (commands_read (entering calls.spoken) (entering_formed calls.spoken calls.formed)) commands_got in
    let fits : flat_map asked_by r.past.taken ≡ commands_in (flat_map incoming_of r.past.taken) = calls_fit all (begun (new_end value_services None)) refl in
    let split : flat_map asked_by r.past.taken ≡ asked_until p ++ asked_since p =
    ap (flat_map asked_by) (taken_split p.until_bound p.since_bound (begun (new_end value_services None))) ∙ flat_map-append asked_by (below_until_bound p).past.taken (below_since_bound p).past.taken in
    took_so p (entering calls.spoken) commands (called_asks (entering calls.spoken) calls.services commands calls.says)
    (asked.0, asked.1 ∙ ap (λ cs. cs ++ asked.0) (sym fits ∙ split))

written_until : (m : Made) → AllByRecursion IsWritten (asked_until (past_of m))
written_until m = all_written (below_until_bound (past_of m)).past.taken

-- all that it says is what it queued
pub says_queued : (m : Made) → map said_so (entering (below_read m).spoken) ≡ filter is_message (below (past_of m)).past.queued
says_queued m = let can = below_read m in sym (queue_messages can.spoken can.is_ended) ∙ ap (filter is_message) (sym can.queue)

-- what it says itself begins with its Hello
pub own_greets : (m : Made) → Greets (answers_itself m.peer m.calls).own
own_greets m =
    let own = answers_itself m.peer m.calls in
    let front : IsFront (said_so (greeting value_services) ∷ []) (below_until_bound (past_of m)).past.queued = queued_more (past_of m).until_bound (begun (new_end value_services None)) in
    first_greets own.own (filter is_message front.0) (own_spelled (asked_until (past_of m)) own.left own.own (written_until m) own.is_own)
    (sym own.queue ∙ ap (filter is_message) front.1 ∙ hello_enters value_services front.0)

pub says_below : (m : Made) (come : List Spoken) (is_ended : Bool) → AreSpoken come → IsFront (end_above (past_of m)).came (bytes_of (queue_of come is_ended)) → SaysBelow m (entering come) (entering (below_read m).spoken)
says_below m come is_ended formed came =
    let p = past_of m in
    let deeds = deeds_of m in
    let r = above p in
    let can = below_read m in
    let own = answers_itself m.peer m.calls in
    let order = receives_in_order value_services None (calls_above m) come is_ended formed came in
    let got : IsFront (flat_map incoming_of r.past.taken) (messages_in come) = received_front r (messages_in come) order.front in
    let h : IsMapped come_as (entering come) (flat_map incoming_of r.past.taken) = front_mapped come_as (entering come) (flat_map incoming_of r.past.taken) got in
    let heard_formed : AreSpoken h.origin = front_each (λ s. IsWellFormed s.message) h.origin (entering come) h.front (entering_formed come formed) in
    let readable = are_readable h.origin heard_formed in
    let passes = passes_all_on m.peer m.calls in
    let are : heard_in deeds ≡ map come_as h.origin = passes.heard ∙ h.are in
    let said_are : map said_so (entering can.spoken) ≡ map said_so (own.own ++ tells deeds) =
    says_queued m ∙ passes.told ∙ ap (λ os. os ++ told_from [] deeds) own.queue ∙ ap (λ os. map said_so own.own ++ os) (told_said [] deeds)
    ∙ sym (map-append said_so own.own (tells deeds)) in
    let says : entering can.spoken ≡ own.own ++ tells deeds =
    same_said (entering can.spoken) (own.own ++ tells deeds) (entering_formed can.spoken can.well_formed)
    (all_append (λ s. IsSpelled s.message) own.own (tells deeds) (own_spelled (asked_until p) own.left own.own (written_until m) own.is_own)
    (tells_spelled [] deeds h.origin tt (asked_written m) are heard_formed readable)) said_are in
    record {
      own = own;
      own_formed = front_each (λ s. IsWellFormed s.message) own.own (entering can.spoken) (tells deeds, says) (entering_formed can.spoken can.well_formed);
      greets = own_greets m;
      heard = h.origin;
      front = h.front;
      are = are;
      formed = heard_formed;
      readable = readable;
      says = says;
    }

-- where it isn't bound it says nothing but its own
pub says_own : (m : Made) → (past_of m).is_bound ≡ false → entering (below_read m).spoken ≡ (answers_itself m.peer m.calls).own
says_own m unbound =
    let p = past_of m in
    let can = below_read m in
    let own = answers_itself m.peer m.calls in
    let none : p.since_bound ≡ [] = (facts_of m).unbound unbound in
    let calls_are : p.until_bound ++ p.since_bound ≡ p.until_bound = ap (λ cs. p.until_bound ++ cs) none ∙ append-nil p.until_bound in
    let said_are : map said_so (entering can.spoken) ≡ map said_so own.own =
    says_queued m ∙ ap (λ cs. filter is_message (lower_after cs).past.queued) calls_are ∙ own.queue in
    same_said (entering can.spoken) own.own (entering_formed can.spoken can.well_formed) (own_spelled (asked_until p) own.left own.own (written_until m) own.is_own) said_are

pub none_since : (m : Made) → (past_of m).is_bound ≡ false → asked_since (past_of m) ≡ []
none_since m unbound = ap (λ calls. flat_map asked_by (after_calls calls (begun (below_until_bound (past_of m)).end)).past.taken) ((facts_of m).unbound unbound)
