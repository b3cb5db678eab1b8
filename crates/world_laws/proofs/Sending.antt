-- What a client says: a Hello and then, in order, the commands that it sent, where nothing that it takes asks it.
use Rattle.std.proofs.Common.{◌≡◌, ℕ, ◌+◌, ◌-◌, ◌<◌, ◌≤◌, ◌==◌, ◌||◌, Bool, true, false, not, cond, List, [], ◌∷◌, ◌++◌, length, take, map, Option, None, refl, sym, ap, ◌∙◌, arith, append-nil, eqb-true}
use Rattle.std.specs.Prelude.{◌^◌}
use Rattle.std.specs.List.{AllByRecursion, filter, flat_map}
use Rattle.channel_core.specs.Arrivals.{AreSpoken, Spoken, arrived, bytes_of, messages_in, queue_of}
use Rattle.channel_core.specs.Beginning.{new_end}
use Rattle.channel_core.specs.EndValue.{EndValue}
use Rattle.channel_core.specs.QueueLaws.{is_message, is_plain, sent_in}
use Rattle.channel_core.specs.ReceivingLaws.{CanBeRead, SaysReadable, SendsReadable, incoming_of}
use Rattle.channel_core.specs.RunLaws.{first_byte, is_command, is_end, is_flow, sent_of}
use Rattle.channel_core.specs.Runs.{Call, Run, after_calls, begun, called, closing, commanding, delivering, draining, ending, putting_out, sending, taking}
use Rattle.channel_core.specs.Wire.{hello, locator, said}
use Rattle.channel_core.specs.declared.held.Incoming.{Incoming}
use Rattle.channel_core.specs.declared.held.Outgoing.{Outgoing}
use Rattle.channel_core.specs.declared.taking.Taken.{Taken}
use Rattle.channel_core.specs.declared.taking.Taken.TheVariants as taken
use Rattle.client_node.specs.Client.{client_services, new_client}
use Rattle.client_node.specs.Ends.{EndIsRun, HasNames, SendsUnknown, answers_to, client_end, end_calls, given_out, issued_as, sent_by, unknown_to}
use Rattle.client_node.specs.Runs.{Call as ClientCall, Past as ClientPast, no_past, past_of}
use Rattle.tcf_message.specs.Message.{IsWellFormed, event, reading}
use Rattle.tcf_text.specs.Lines.{Accepted}
use Rattle.chain_heard.specs.Heard.{asked_as, heard_in}
use Rattle.chain_through.specs.Calling.{Calls, entering, greeting}
use Rattle.chain_through.proofs.Queues.{entering_formed, queue_messages}
use Rattle.chain_through.proofs.Spelling.{said_so, same_said}
use Rattle.chain_through.proofs.Taking.{received_front}
use Rattle.chain_route.proofs.Bytes.{take_mapped}
use Rattle.chain_through.proofs.Above.{queued_more}
use Rattle.chain_heard.proofs.TheLaws.{commands_are_few}
use Rattle.channel_core.proofs.TheLaws.{queues_in_order, queues_readable, queues_what_is_sent, receives_in_order, sends_in_order}
use Rattle.client_node.proofs.TheLaws.{clients_end_is_a_run, log_tells_past}
use Rattle.world_laws.proofs.Accepted.{AreCounted, AreWritten, all_named, are_counted, asking_counted, command_of, counted_taken, speaking, spoken_spelled, written}
use Rattle.list_laws.proofs.Lists.{map_map}
use Rattle.list_laws.proofs.AllLists.{all_take as all_taken}
use Rattle.list_laws.specs.Fronts.{IsFront}

pub client_hello : IsWellFormed (event locator hello client_services)
unfolding locator hello client_services
client_hello = ((refl, refl), omega arith)

-- ---- What it sends can be read

unknown_readable : (call : Call ℕ) → SendsUnknown call → SaysReadable call
unknown_readable (delivering piece mark) is = tt
unknown_readable ending is = tt
unknown_readable taking is = tt
unknown_readable (commanding service name body tag mark) is = tt
unknown_readable (sending message mark) is = is.2
unknown_readable putting_out is = tt
unknown_readable closing is = tt
unknown_readable draining is = tt

pub all_readable : (calls : List (Call ℕ)) → AllByRecursion SendsUnknown calls → SendsReadable calls
all_readable [] each = tt
all_readable (call ∷ calls) each = (unknown_readable call each.0, all_readable calls each.1)

-- ---- The Hello is queued first

pub hello_first : {T : Type 0} → (body : List ℕ) (mark : Option ℕ) (calls : List (Call T)) → IsFront (said (event locator hello body) mark ∷ []) (after_calls calls (begun (new_end {T = T} body mark))).past.queued
hello_first body mark calls = queued_more calls (begun (new_end body mark))

-- ---- One that isn't asked sends nothing else but commands

abbrev pub AsksNothing : Incoming → Type 0
AsksNothing i = unknown_to (reading i.raw) ≡ []

no_answers : (what : List (Taken ℕ)) → AllByRecursion AsksNothing (flat_map incoming_of what) → flat_map answers_to what ≡ []
no_answers [] each = refl
no_answers (taken.Hello i ∷ what) each = no_answers what each.1
no_answers (taken.Event i ∷ what) each = no_answers what each.1
no_answers (taken.Command i ∷ what) each = ap (λ xs. xs ++ flat_map answers_to what) each.0 ∙ no_answers what each.1
no_answers (taken.Progress number i ∷ what) each = no_answers what each.1
no_answers (taken.Final number i ∷ what) each = no_answers what each.1
no_answers (taken.Closed cause ∷ what) each = no_answers what each

none_sent : (calls : List (Call ℕ)) (e : EndValue ℕ) → flat_map sent_by calls ≡ [] → sent_in calls e ≡ []
none_sent [] e none = refl
none_sent (delivering piece mark ∷ calls) e none = none_sent calls (called (delivering piece mark) e) none
none_sent (ending ∷ calls) e none = none_sent calls (called ending e) none
none_sent (taking ∷ calls) e none = none_sent calls (called taking e) none
none_sent (commanding service name body tag mark ∷ calls) e none = none_sent calls (called (commanding service name body tag mark) e) none
none_sent (sending message mark ∷ calls) e none = absurd cc
none_sent (putting_out ∷ calls) e none = none_sent calls (called putting_out e) none
none_sent (closing ∷ calls) e none = none_sent calls (called closing e) none
none_sent (draining ∷ calls) e none = none_sent calls (called draining e) none

-- where no message but commands is queued
letter_apart : (n a b : ℕ) → (a == b) ≡ false → (n == a) ≡ true → (n == b) ≡ false
letter_apart n a b apart is = ap (λ m. m == b) (eqb-true n a is) ∙ apart

no_flow : (o : Outgoing) → is_command o ≡ true → is_flow o ≡ false
no_flow o is = letter_apart (first_byte o.bytes) 67 70 refl is

no_end : (o : Outgoing) → is_command o ≡ true → is_end o ≡ false
no_end o is = letter_apart (first_byte o.bytes) 67 3 refl is

pub commands_alone : (queue : List Outgoing) → filter is_plain queue ≡ [] → filter is_message queue ≡ filter is_command queue
commands_alone [] none = refl
commands_alone (o ∷ queue) none = by_flags (is_flow o) (is_end o) (is_command o) (no_flow o) (no_end o) none (commands_alone queue)
  where
    by_flags : (f e c : Bool) → (c ≡ true → f ≡ false) → (c ≡ true → e ≡ false) → cond (not (f || (e || c))) (o ∷ filter is_plain queue) (filter is_plain queue) ≡ []
        → (filter is_plain queue ≡ [] → filter is_message queue ≡ filter is_command queue)
        → cond (not (f || e)) (o ∷ filter is_message queue) (filter is_message queue) ≡ cond c (o ∷ filter is_command queue) (filter is_command queue)
    by_flags true e true one two none rest = let no : true ≡ false = one refl in absurd cc
    by_flags true e false one two none rest = rest none
    by_flags false true true one two none rest = let no : true ≡ false = two refl in absurd cc
    by_flags false true false one two none rest = rest none
    by_flags false false true one two none rest = ap (λ os. o ∷ os) (rest none)
    by_flags false false false one two none rest = absurd cc

pub none_behind : (o : Outgoing) (queue : List Outgoing) → o ∷ queue ≡ o ∷ [] → queue ≡ []
none_behind o queue is = cc

module _ (calls : List ClientCall) (names : AllByRecursion HasNames calls) where
  abbrev run_is : Run ℕ
  run_is = client_end calls

  abbrev past_is : ClientPast
  past_is = past_of calls no_past

  is_run : EndIsRun calls
  is_run = clients_end_is_a_run calls

  pub client_can : CanBeRead run_is
  client_can = queues_readable client_services None (end_calls calls new_client) client_hello (all_readable (end_calls calls new_client) is_run.sendings)

  -- ---- The commands that it sent

  abbrev pub sent_count : ℕ
  sent_count = length run_is.past.accepted - length run_is.end.held

  abbrev pub sent_commands : List Accepted
  sent_commands = take sent_count past_is.commands

  pub all_counted : AreCounted 1 past_is.commands
  all_counted = are_counted 1 past_is.commands (log_tells_past calls).counted

  pub sent_counted : AreCounted 1 sent_commands
  sent_counted = counted_taken 1 sent_count past_is.commands all_counted

  pub all_written : AreWritten past_is.commands
  all_written =
      let few : length past_is.commands < 2 ^ 64 = commands_are_few calls in
      let room : 1 + length past_is.commands ≤ 2 ^ 64 = omega arith in
      written 1 past_is.commands (all_named calls no_past names tt) all_counted room

  pub sent_written : AreWritten sent_commands
  sent_written = all_taken (λ c. IsWellFormed (command_of c)) sent_count past_is.commands all_written

  pub sent_issued : sent_of run_is ≡ map issued_as sent_commands
  sent_issued = ap (take sent_count) (sym is_run.commands) ∙ take_mapped issued_as sent_count past_is.commands

  commands_queued : filter is_command run_is.past.queued ≡ map said_so (map speaking sent_commands)
  commands_queued =
      (sends_in_order client_services None (end_calls calls new_client)).are_sent
      ∙ ap (map (λ i. i.command.outgoing)) sent_issued
      ∙ map_map (λ i. i.command.outgoing) issued_as sent_commands
      ∙ sym (map_map said_so speaking sent_commands)

  -- ---- What it says

  module _ (quiet : AllByRecursion AsksNothing (flat_map incoming_of run_is.past.taken)) where
    hello_alone : filter is_plain run_is.past.queued ≡ said (event locator hello client_services) None ∷ []
    hello_alone =
        let nothing : flat_map sent_by (end_calls calls new_client) ≡ [] = is_run.answers ∙ ap (flat_map answers_to) is_run.taken ∙ no_answers run_is.past.taken quiet in
        queues_what_is_sent client_services None (end_calls calls new_client) ∙ ap (λ os. said (event locator hello client_services) None ∷ os) (none_sent (end_calls calls new_client) (new_end client_services None) nothing)

    messages_queued : filter is_message run_is.past.queued ≡ map said_so (greeting client_services ∷ map speaking sent_commands)
    messages_queued =
        let first : IsFront (said (event locator hello client_services) None ∷ []) run_is.past.queued = hello_first client_services None (end_calls calls new_client) in
        let rest = first.0 in
        let plain_none : filter is_plain rest ≡ [] = none_behind (said (event locator hello client_services) None) (filter is_plain rest) (ap (filter is_plain) (sym first.1) ∙ hello_alone) in
        let commands : filter is_command rest ≡ map said_so (map speaking sent_commands) = ap (filter is_command) (sym first.1) ∙ commands_queued in
        ap (filter is_message) first.1 ∙ ap (λ os. said (event locator hello client_services) None ∷ os) (commands_alone rest plain_none ∙ commands)

    says_so : entering client_can.spoken ≡ greeting client_services ∷ map speaking sent_commands
    says_so =
        let all : map said_so (entering client_can.spoken) ≡ map said_so (greeting client_services ∷ map speaking sent_commands) =
        sym (queue_messages client_can.spoken client_can.is_ended) ∙ ap (filter is_message) (sym client_can.queue) ∙ messages_queued in
        same_said (entering client_can.spoken) (greeting client_services ∷ map speaking sent_commands) (entering_formed client_can.spoken client_can.well_formed)
        (client_hello.0, spoken_spelled sent_commands sent_written) all

    pub client_calls : Calls (map asked_as sent_commands) (given_out calls new_client)
    client_calls =
        let order : run_is.past.given ++ run_is.end.queued ≡ run_is.past.queued = queues_in_order client_services None (end_calls calls new_client) in
        record {
          spoken = client_can.spoken;
          is_ended = client_can.is_ended;
          formed = client_can.well_formed;
          front = (run_is.end.queued, sym client_can.queue ∙ sym order ∙ ap (λ os. os ++ run_is.end.queued) (sym is_run.given));
          services = client_services;
          says = ([], ap (λ cs. greeting client_services ∷ cs) (asking_counted 1 sent_commands sent_counted) ∙ sym says_so ∙ sym (append-nil (entering client_can.spoken)));
        }

  -- ---- What it heard

  pub heard_is : heard_in past_is ≡ flat_map incoming_of run_is.past.taken
  heard_is = ap (flat_map incoming_of) is_run.taken

  taken_front : (spoken : List Spoken) (is_ended : Bool) → AreSpoken spoken → IsFront (arrived (end_calls calls new_client)) (bytes_of (queue_of spoken is_ended))
      → IsFront (flat_map incoming_of run_is.past.taken) (messages_in spoken)
  taken_front spoken is_ended formed front =
      received_front run_is (messages_in spoken) (receives_in_order client_services None (end_calls calls new_client) spoken is_ended formed front).front

  pub hears : (spoken : List Spoken) (is_ended : Bool) → AreSpoken spoken → IsFront (arrived (end_calls calls new_client)) (bytes_of (queue_of spoken is_ended)) → IsFront (heard_in past_is) (messages_in spoken)
  hears spoken is_ended formed front = let t = taken_front spoken is_ended formed front in (t.0, t.1 ∙ ap (λ xs. xs ++ t.0) (sym heard_is))
