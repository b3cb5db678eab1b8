-- A log tells what its client took and what was accepted.
use Rattle.std.proofs.Common.{◌≡◌, ℕ, ◌+◌, Bool, true, false, List, [], ◌∷◌, ◌++◌, length, map, Option, Some, None, Result, Ok, refl, ap, sym, ◌∙◌, filter, filter_map}
use Rattle.std.specs.Prelude.{if◌then◌else◌, option_to_list}
use Rattle.std.specs.List.{AllByRecursion, range_with_len}
use Rattle.std.proofs.lemmas.List.{append-nil}
use Rattle.std.proofs.lemmas.List.Concat.{flat_map-append}
use Rattle.std.proofs.lemmas.List.Elements.{filter-append, filter_map-append}
use Rattle.tcf_message.specs.Message.{MessageValue, event, final, not_known, progress, reading}
use Rattle.tcf_message.specs.declared.message.MessageFault.{MessageFault}
use Rattle.tcf_text.specs.Lines.{Accepted, accepted, accepted_by}
use Rattle.tcf_text.specs.Once.{numbers}
use Rattle.tcf_text.specs.declared.log.EndWhy.{EndWhy}
use Rattle.tcf_text.specs.declared.log.LogLine.{LogLine}
use Rattle.tcf_text.specs.declared.log.LogLine.TheVariants as lines
use Rattle.tcf_text.specs.declared.log.RefusedWhy.{RefusedWhy}
use Rattle.tcf_text.specs.declared.log.RefusedWhy.TheVariants.{NotOpen}
use Rattle.channel_core.specs.Closing.{closed_own, is_closed}
use Rattle.channel_core.specs.EndValue.{EndValue}
use Rattle.channel_core.specs.Sending.{refusal_of}
use Rattle.channel_core.specs.Taking.{next_taken}
use Rattle.channel_core.specs.declared.sending.SendRefusal.{SendRefusal}
use Rattle.channel_core.specs.declared.states.Cause.{Cause}
use Rattle.channel_core.specs.declared.states.Cause.TheVariants.{Own}
use Rattle.channel_core.specs.declared.taking.Taken.{Taken}
use Rattle.channel_core.specs.declared.taking.Taken.TheVariants as taken
use Rattle.client_log.specs.Cached.{cached_value}
use Rattle.client_log.specs.Lessons.{lessons}
use Rattle.client_node.specs.Client.{closed_for, closed_lines, new_client, noted, refused_for, sent_or_refused, took, turned_by}
use Rattle.client_node.specs.ClientValue.{ClientValue}
use Rattle.client_node.specs.Lines.{end_of, event_line, final_line, hello_line, progress_line, why_of}
use Rattle.client_node.specs.Runs.{Call, FitsMessage, LogTellsPast, Past, asks, bytes_end, called, closes, comes, commands_in, gives, line_of, no_past, opens, past_of, remembered, run, sends, taken_by, taken_on, tells, turns, unless_refused}
use Rattle.client_node.proofs.Calls.{Holds, Stands, call_kept, new_holds, over, under_way, client}
use Rattle.client_node.proofs.Ends.{nothing_taken}
use Rattle.client_node.proofs.Standing.{counted_to}
use Rattle.client_node.proofs.Taken.{Outcome, next_gives}
use Rattle.list_laws.proofs.AllLists.{all_append}

-- ---- lines that come to a log

-- the new log tells of these messages and accepted commands more
record Adds (old new : List LogLine) (messages : List LogLine) (commands : List Accepted) : Type 0 where
  pub messages_are : filter tells new ≡ filter tells old ++ messages
  pub commands_are : accepted new ≡ accepted old ++ commands

adds_none : (log : List LogLine) → Adds log log [] []
adds_none log = record { messages_are = sym (append-nil (filter tells log)); commands_are = sym (append-nil (accepted log)) }

adds_lines : (log added : List LogLine) → Adds log (log ++ added) (filter tells added) (accepted added)
adds_lines log added = record { messages_are = filter-append tells log added; commands_are = flat_map-append accepted_by log added }

adds_by : (flag : Bool) (log : List LogLine) (one other : ClientValue) (messages : List LogLine) (commands : List Accepted)
    → Adds log one.log messages commands → Adds log other.log messages commands → Adds log (if flag then one else other).log messages commands
adds_by true log one other messages commands first second = first
adds_by false log one other messages commands first second = second

-- ---- sending

refused_adds : (c : ClientValue) (why : Option RefusedWhy) → Adds c.log (refused_for why c).log [] []
refused_adds c None = adds_none c.log
refused_adds c (Some why) = adds_lines c.log (lines.Refused why ∷ [])

sent_adds : (refusal : Option SendRefusal) (e : EndValue ℕ) (service name body : List ℕ) (c : ClientValue)
    → Adds c.log (sent_or_refused refusal e service name body c).log [] (unless_refused refusal (record { number = e.last + 1; service = service; name = name; body = body }))
sent_adds None e service name body c = adds_lines c.log (lines.Sent (e.last + 1) service name body ∷ [])
sent_adds (Some why) e service name body c = refused_adds c (why_of why)

-- ---- closing

no_message : (rows : List (ℕ × ℕ)) (why : EndWhy) → filter tells (map (λ (row : ℕ × ℕ). lines.Closed row.1) rows ++ lines.Ended why ∷ []) ≡ []
no_message [] why = refl
no_message (row ∷ rows) why = no_message rows why

no_command : (rows : List (ℕ × ℕ)) (why : EndWhy) → accepted (map (λ (row : ℕ × ℕ). lines.Closed row.1) rows ++ lines.Ended why ∷ []) ≡ []
no_command [] why = refl
no_command (row ∷ rows) why = no_command rows why

closed_adds : (cause : Cause) (e : EndValue ℕ) (c : ClientValue) → Adds c.log (closed_for cause e c).log [] []
closed_adds cause e c =
    let both = adds_lines c.log (closed_lines cause e.pending) in
    record {
      messages_are = both.messages_are ∙ ap (λ ls. filter tells c.log ++ ls) (no_message e.pending (end_of cause));
      commands_are = both.commands_are ∙ ap (λ cs. accepted c.log ++ cs) (no_command e.pending (end_of cause));
    }

-- ---- a turn

-- a line that tells of a message
abbrev IsTelling : Option LogLine → Type 0
IsTelling None = Unit {0}
IsTelling (Some x) = (tells x ≡ true) × (accepted_by x ≡ [])

noted_adds : (line : Option LogLine) (c : ClientValue) → IsTelling line → Adds c.log (noted line c).log (option_to_list line) []
noted_adds None c telling = adds_none c.log
noted_adds (Some x) c telling =
    let both = adds_lines c.log (x ∷ []) in
    let one : filter tells (x ∷ []) ≡ x ∷ [] = rw telling.0 refl in
    let none : accepted (x ∷ []) ≡ [] = rw telling.1 refl in
    record {
      messages_are = both.messages_are ∙ ap (λ ls. filter tells c.log ++ ls) one;
      commands_are = both.commands_are ∙ ap (λ cs. accepted c.log ++ cs) none;
    }

hello_telling : (mark : Option ℕ) (m : Result MessageValue MessageFault) → IsTelling (hello_line mark m)
hello_telling mark (Ok (event service name body)) = (refl, refl)
hello_telling mark m = tt

event_telling : (mark : Option ℕ) (m : Result MessageValue MessageFault) → IsTelling (event_line mark m)
event_telling mark (Ok (event service name body)) = (refl, refl)
event_telling mark m = tt

progress_telling : (number : ℕ) (mark : Option ℕ) (m : Result MessageValue MessageFault) → IsTelling (progress_line number mark m)
progress_telling number mark (Ok (progress token body)) = (refl, refl)
progress_telling number mark m = tt

final_telling : (number : ℕ) (mark : Option ℕ) (m : Result MessageValue MessageFault) → IsTelling (final_line number mark m)
final_telling number mark (Ok (final token body)) = (refl, refl)
final_telling number mark (Ok (not_known token)) = (refl, refl)
final_telling number mark m = tt

listed_line : (what : Taken ℕ) → filter_map line_of (what ∷ []) ≡ option_to_list (line_of what)
listed_line what = listed (line_of what)
  where
    listed : (line : Option LogLine) → filter_map (λ (l : Option LogLine). l) (line ∷ []) ≡ option_to_list line
    listed None = refl
    listed (Some x) = refl

took_adds : (what : Taken ℕ) (e : EndValue ℕ) (c : ClientValue) → Adds c.log (took what e c).log (option_to_list (line_of what)) []
took_adds (taken.Hello incoming) e c = noted_adds (line_of (taken.Hello incoming)) (record c { channel = Some e }) (hello_telling incoming.mark (reading incoming.raw))
took_adds (taken.Event incoming) e c = noted_adds (line_of (taken.Event incoming)) (record c { channel = Some e }) (event_telling incoming.mark (reading incoming.raw))
took_adds (taken.Command incoming) e c = adds_none c.log
took_adds (taken.Progress number incoming) e c =
    noted_adds (line_of (taken.Progress number incoming)) (record c { channel = Some e }) (progress_telling number incoming.mark (reading incoming.raw))
took_adds (taken.Final number incoming) e c =
    noted_adds (line_of (taken.Final number incoming)) (record c { channel = Some e }) (final_telling number incoming.mark (reading incoming.raw))
took_adds (taken.Closed cause) e c = closed_adds cause e c

turned_adds : (what : Option (Taken ℕ)) (e : EndValue ℕ) (c : ClientValue) → Adds c.log (turned_by (what, e) c).1.log (filter_map line_of (option_to_list what)) []
turned_adds None e c = adds_none c.log
turned_adds (Some what) e c =
    let both = took_adds what e c in
    record { messages_are = both.messages_are ∙ ap (λ ls. filter tells c.log ++ ls) (sym (listed_line what)); commands_are = both.commands_are }

-- ---- any call

abbrev AddsFor : Call → ClientValue → Type 0
AddsFor call c = Adds c.log (called call c).log (filter_map line_of (taken_by call c.channel)) (commands_in call c.channel)

opens_adds : (channel : Option (EndValue ℕ)) (log : List LogLine) (spent : Bool) → AddsFor opens (client channel log spent)
opens_adds None log spent = adds_none log
opens_adds (Some e) log spent = adds_none log

sends_adds : (channel : Option (EndValue ℕ)) (log : List LogLine) (spent : Bool) (service name body : List ℕ) → AddsFor (sends service name body) (client channel log spent)
sends_adds None log spent service name body = refused_adds (client None log spent) (Some NotOpen)
sends_adds (Some e) log spent service name body =
    sent_adds (refusal_of (length service + length name + length body) e) e service name body (client (Some e) log spent)

closes_adds : (channel : Option (EndValue ℕ)) (log : List LogLine) (spent : Bool) → AddsFor closes (client channel log spent)
closes_adds None log spent = adds_none log
closes_adds (Some e) log spent =
    let c = client (Some e) log spent in
    adds_by (is_closed e.state) log c (closed_for Own (closed_own e) c) [] [] (adds_none log) (closed_adds Own (closed_own e) c)

turns_adds : (channel : Option (EndValue ℕ)) (log : List LogLine) (spent : Bool) → AddsFor turns (client channel log spent)
turns_adds None log spent = adds_none log
turns_adds (Some e) log spent = turned_adds (next_taken e).0 (next_taken e).1 (client (Some e) log spent)

call_adds : (call : Call) (c : ClientValue) → AddsFor call c
call_adds opens c = opens_adds c.channel c.log c.is_spent
call_adds (sends service name body) c = sends_adds c.channel c.log c.is_spent service name body
call_adds (comes piece mark) c = adds_none c.log
call_adds bytes_end c = adds_none c.log
call_adds turns c = turns_adds c.channel c.log c.is_spent
call_adds closes c = closes_adds c.channel c.log c.is_spent
call_adds gives c = adds_none c.log
call_adds (asks what) c = adds_lines c.log (lines.Cached what (cached_value what (lessons c.log)) ∷ [])

-- ---- what was taken fits its messages

outcome_fits : (last : ℕ) (rows : List (ℕ × ℕ)) (what : Option (Taken ℕ)) (e : EndValue ℕ) → Outcome last rows what e → AllByRecursion FitsMessage (option_to_list what)
outcome_fits last rows None e out = tt
outcome_fits last rows (Some what) e out = (out.0, tt)

turn_fits : (channel : Option (EndValue ℕ)) (log : List LogLine) → Stands channel log → AllByRecursion FitsMessage (taken_on channel)
turn_fits None log old = tt
turn_fits (Some e) log (under_way last rows open_end old) =
    outcome_fits last rows (next_taken e).0 (next_taken e).1 (next_gives last rows old.standing.rises e open_end)
turn_fits (Some e) log (over ended old) = rw (ap (λ (p : Option (Taken ℕ) × EndValue ℕ). p.0) (nothing_taken e ended)) tt

call_fits : (call : Call) (c : ClientValue) → Holds c → AllByRecursion FitsMessage (taken_by call c.channel)
call_fits turns c old = turn_fits c.channel c.log old
call_fits call c old = tt

-- ---- any calls

record Remembers (p : Past) : Type 0 where
  pub holds : Holds p.client
  pub messages : filter tells p.client.log ≡ filter_map line_of p.taken
  pub fitting : AllByRecursion FitsMessage p.taken
  pub commands : accepted p.client.log ≡ p.commands

step : (call : Call) (p : Past) → Remembers p → Remembers (remembered call p)
step call p old =
    let c = p.client in
    let adds = call_adds call c in
    let took = taken_by call c.channel in
    record {
      holds = call_kept call c old.holds;
      messages = adds.messages_are ∙ ap (λ ls. ls ++ filter_map line_of took) old.messages ∙ sym (filter_map-append line_of p.taken took);
      fitting = all_append FitsMessage p.taken took old.fitting (call_fits call c old.holds);
      commands = adds.commands_are ∙ ap (λ cs. cs ++ commands_in call c.channel) old.commands;
    }

steps : (calls : List Call) (p : Past) → Remembers p → Remembers (past_of calls p)
steps [] p old = old
steps (call ∷ calls) p old = steps calls (remembered call p) (step call p old)

same_client : (calls : List Call) (p : Past) → (past_of calls p).client ≡ run calls p.client
same_client [] p = refl
same_client (call ∷ calls) p = same_client calls (remembered call p)

counted : (channel : Option (EndValue ℕ)) (log : List LogLine) → Stands channel log → numbers (accepted log) ≡ range_with_len 1 (length (accepted log))
counted None log old = counted_to 0 (accepted log) old.standing.numbered
counted (Some e) log (under_way last rows open_end old) = counted_to last (accepted log) old.standing.numbered
counted (Some e) log (over ended old) = old.once.counted

pub tells_past : LogTellsPast
tells_past calls =
    let p = past_of calls no_past in
    let all : Remembers p = steps calls no_past (record { holds = new_holds; messages = refl; fitting = tt; commands = refl }) in
    let same : p.client ≡ run calls new_client = same_client calls no_past in
    record {
      same = same;
      messages = ap (λ (c : ClientValue). filter tells c.log) (sym same) ∙ all.messages;
      fitting = all.fitting;
      commands = ap (λ (c : ClientValue). accepted c.log) (sym same) ∙ all.commands;
      counted = rw (sym all.commands) (counted p.client.channel p.client.log all.holds);
    }
