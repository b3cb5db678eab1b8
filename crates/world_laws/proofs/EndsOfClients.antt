-- For what the log of a client ends, by what its end took and what was called of it.
use Rattle.std.proofs.Common.{◌≡◌, ℕ, ◌+◌, ◌||◌, Bool, true, false, cond, List, [], ◌∷◌, ◌++◌, length, map, Option, Some, None, Result, Ok, Err, refl, sym, ap, ◌∙◌}
use Rattle.std.specs.List.{AllByRecursion, list_any}
use Rattle.std.specs.Prelude.{option_to_list}
use Rattle.std.proofs.lemmas.List.Folds.{list_any-append}
use Rattle.list_laws.specs.Fronts.{IsFront}
use Rattle.list_laws.proofs.Fronts.{front_all, front_each, front_then}
use Rattle.channel_core.specs.Closing.{closed_own, is_closed}
use Rattle.channel_core.specs.EndValue.{EndValue}
use Rattle.channel_core.specs.Runs.{Call as EndCall, Unheld, closing, draining, sending}
use Rattle.channel_core.specs.Sending.{refusal_of}
use Rattle.channel_core.specs.Taking.{next_taken}
use Rattle.channel_core.specs.declared.sending.SendRefusal.{SendRefusal}
use Rattle.channel_core.specs.declared.states.Cause.{Cause}
use Rattle.channel_core.specs.declared.states.Cause.TheVariants.{Own}
use Rattle.channel_core.specs.declared.taking.Taken.{Taken}
use Rattle.channel_core.specs.declared.taking.Taken.TheVariants as taken
use Rattle.channel_laws.specs.Faults.{is_closing, is_ending}
use Rattle.chain_world.specs.Standing.{MayBeCalled, closes_at, cuts_at}
use Rattle.client_log.specs.Cached.{cached_value}
use Rattle.client_log.specs.Lessons.{lessons}
use Rattle.client_node.specs.Client.{closed_for, closed_lines, closed_on, noted, refused_for, sent_by, sent_or_refused, took, turned_by, turned_on, with_channel}
use Rattle.client_node.specs.ClientValue.{ClientValue}
use Rattle.client_node.specs.Ends.{after_turn, calls_from, calls_on, draining_all, end_calls, end_calls_by, unknown_to}
use Rattle.client_node.specs.Lines.{end_of, event_line, final_line, hello_line, progress_line, why_of}
use Rattle.client_node.specs.Runs.{Call, Past, asks, bytes_end, called, closes, comes, gives, opened_from, opens, past_of, remembered, sends, taken_by, taken_on, turns}
use Rattle.tcf_message.specs.Message.{MessageValue, command, event, final, flow, not_known, progress, reading}
use Rattle.tcf_message.specs.declared.message.MessageFault.{MessageFault}
use Rattle.tcf_schedules.specs.Plan.{Plan}
use Rattle.tcf_text.specs.declared.log.EndWhy.{EndWhy}
use Rattle.tcf_text.specs.declared.log.EndWhy.TheVariants as ends
use Rattle.tcf_text.specs.declared.log.LogLine.{LogLine}
use Rattle.tcf_text.specs.declared.log.LogLine.TheVariants as lines
use Rattle.tcf_text.specs.declared.log.RefusedWhy.{RefusedWhy}
use Rattle.tcf_text.specs.declared.log.RefusedWhy.TheVariants as refused
use Rattle.list_laws.proofs.AllLists.{all_right as all_back, all_append}

-- ---- The calls of the end that only some calls of the client make

none_pass : {A B : Type 0} → (test : B → Bool) (f : A → B) → ((x : A) → test (f x) ≡ false) → (xs : List A) → list_any test (map f xs) ≡ false
none_pass test f none [] = refl
none_pass test f none (x ∷ xs) = ap (λ b. b || list_any test (map f xs)) (none x) ∙ none_pass test f none xs

-- behind what was taken, the end is neither closed nor are its bytes at their end
none_behind : (test : EndCall ℕ → Bool) → ((message : Unheld) → test (sending message None) ≡ false) → test draining ≡ false → (what : Option (Taken ℕ)) (pending : List (ℕ × ℕ)) → list_any test (after_turn what pending) ≡ false
none_behind test one other None pending = refl
none_behind test one other (Some (taken.Hello incoming)) pending = refl
none_behind test one other (Some (taken.Event incoming)) pending = refl
none_behind test one other (Some (taken.Command incoming)) pending = none_pass test (λ message. sending message None) one (unknown_to (reading incoming.raw))
none_behind test one other (Some (taken.Progress number incoming)) pending = refl
none_behind test one other (Some (taken.Final number incoming)) pending = refl
none_behind test one other (Some (taken.Closed cause)) pending = none_pass test (λ row. draining) (λ row. other) pending

module _ (plans : List Plan) (at : ℕ) where
  abbrev ClosesThere : Type 0
  ClosesThere = list_any (closes_at at) plans ≡ true

  abbrev CutsThere : Type 0
  CutsThere = list_any (cuts_at at 0) plans ≡ true

  closing_by : (call : Call) (e : EndValue ℕ) → MayBeCalled plans at call → list_any is_closing (calls_on call e) ≡ true → ClosesThere
  closing_by opens e may is = absurd cc
  closing_by (sends service name body) e may is = absurd cc
  closing_by (comes piece mark) e may is = absurd cc
  closing_by bytes_end e may is = absurd cc
  closing_by turns e may is = let none = none_behind is_closing (λ message. refl) refl (next_taken e).0 (next_taken e).1.pending in absurd cc
  closing_by closes e may is = may
  closing_by gives e may is = absurd cc
  closing_by (asks what) e may is = absurd cc

  ending_by : (call : Call) (e : EndValue ℕ) → MayBeCalled plans at call → list_any is_ending (calls_on call e) ≡ true → CutsThere
  ending_by opens e may is = absurd cc
  ending_by (sends service name body) e may is = absurd cc
  ending_by (comes piece mark) e may is = absurd cc
  ending_by bytes_end e may is = may
  ending_by turns e may is = let none = none_behind is_ending (λ message. refl) refl (next_taken e).0 (next_taken e).1.pending in absurd cc
  ending_by closes e may is = by_flag (is_closed e.state) is
    where
      by_flag : (flag : Bool) → list_any is_ending (cond flag [] (closing ∷ draining_all e.pending)) ≡ true → CutsThere
      by_flag true any = absurd cc
      by_flag false any = let none = none_pass {A = ℕ × ℕ} {B = EndCall ℕ} is_ending (λ row. draining) (λ row. refl) e.pending in absurd cc
  ending_by gives e may is = absurd cc
  ending_by (asks what) e may is = absurd cc

  -- so it is with all calls
  from_calls : (test : EndCall ℕ → Bool) (G : Type 0) → ((call : Call) (e : EndValue ℕ) → MayBeCalled plans at call → list_any test (calls_on call e) ≡ true → G)
      → (calls : List Call) (c : ClientValue) → AllByRecursion (MayBeCalled plans at) calls → list_any test (end_calls calls c) ≡ true → G
  from_calls test G one [] c may is = absurd cc
  from_calls test G one (call ∷ calls) c may is =
      by_flag (list_any test (end_calls_by call c)) refl (sym (list_any-append test (end_calls_by call c) (end_calls calls (called call c))) ∙ is) (from_calls test G one calls (called call c) may.1)
    where
      by_channel : (channel : Option (EndValue ℕ)) → list_any test (calls_from call channel) ≡ true → G
      by_channel None any = absurd cc
      by_channel (Some e) any = one call e may.0 any

      by_flag : (flag : Bool) → list_any test (end_calls_by call c) ≡ flag → (flag || list_any test (end_calls calls (called call c))) ≡ true → (list_any test (end_calls calls (called call c)) ≡ true → G) → G
      by_flag true here any rest = by_channel c.channel here
      by_flag false here any rest = rest any

  pub closing_called : (calls : List Call) (c : ClientValue) → AllByRecursion (MayBeCalled plans at) calls → list_any is_closing (end_calls calls c) ≡ true → ClosesThere
  closing_called calls c may is = from_calls is_closing ClosesThere closing_by calls c may is

  pub ending_called : (calls : List Call) (c : ClientValue) → AllByRecursion (MayBeCalled plans at) calls → list_any is_ending (end_calls calls c) ≡ true → CutsThere
  ending_called calls c may is = from_calls is_ending CutsThere ending_by calls c may is

-- ---- The lines of a log that end it

module _ (G : EndWhy → Type 0) where
  abbrev pub RightLine : LogLine → Type 0
  RightLine (lines.Ended why) = G why
  RightLine line = Unit {0}

  -- what may be taken, and called
  abbrev pub MayTake : Taken ℕ → Type 0
  MayTake (taken.Closed cause) = G (end_of cause)
  MayTake what = Unit {0}

  abbrev pub MayClose : Call → Type 0
  MayClose closes = G ends.Own
  MayClose call = Unit {0}

  abbrev IsRight : ClientValue → Type 0
  IsRight c = AllByRecursion RightLine c.log

  abbrev RightOption : Option LogLine → Type 0
  RightOption None = Unit {0}
  RightOption (Some line) = RightLine line

  right_noted : (line : Option LogLine) (c : ClientValue) → RightOption line → IsRight c → IsRight (noted line c)
  right_noted None c right each = each
  right_noted (Some line) c right each = all_append RightLine c.log (line ∷ []) each (right, tt)

  right_refused : (why : Option RefusedWhy) (c : ClientValue) → IsRight c → IsRight (refused_for why c)
  right_refused None c each = each
  right_refused (Some why) c each = all_append RightLine c.log (lines.Refused why ∷ []) each (tt, tt)

  right_sent : (refusal : Option SendRefusal) (e : EndValue ℕ) (service name body : List ℕ) (c : ClientValue) → IsRight c → IsRight (sent_or_refused refusal e service name body c)
  right_sent None e service name body c each = all_append RightLine c.log (lines.Sent (e.last + 1) service name body ∷ []) each (tt, tt)
  right_sent (Some why) e service name body c each = right_refused (why_of why) c each

  right_closing : (why : EndWhy) (pending : List (ℕ × ℕ)) → G why → AllByRecursion RightLine (map (λ row. lines.Closed row.1) pending ++ lines.Ended why ∷ [])
  right_closing why [] right = (right, tt)
  right_closing why (row ∷ pending) right = (tt, right_closing why pending right)

  right_closed : (cause : Cause) (e : EndValue ℕ) (c : ClientValue) → G (end_of cause) → IsRight c → IsRight (closed_for cause e c)
  right_closed cause e c right each = all_append RightLine c.log (closed_lines cause e.pending) each (right_closing (end_of cause) e.pending right)

  hello_right : (mark : Option ℕ) (m : Result MessageValue MessageFault) → RightOption (hello_line mark m)
  hello_right mark (Ok (command token service name body)) = tt
  hello_right mark (Ok (final token body)) = tt
  hello_right mark (Ok (progress token body)) = tt
  hello_right mark (Ok (not_known token)) = tt
  hello_right mark (Ok (event service name body)) = tt
  hello_right mark (Ok (flow level)) = tt
  hello_right mark (Err fault) = tt

  event_right : (mark : Option ℕ) (m : Result MessageValue MessageFault) → RightOption (event_line mark m)
  event_right mark (Ok (command token service name body)) = tt
  event_right mark (Ok (final token body)) = tt
  event_right mark (Ok (progress token body)) = tt
  event_right mark (Ok (not_known token)) = tt
  event_right mark (Ok (event service name body)) = tt
  event_right mark (Ok (flow level)) = tt
  event_right mark (Err fault) = tt

  progress_right : (number : ℕ) (mark : Option ℕ) (m : Result MessageValue MessageFault) → RightOption (progress_line number mark m)
  progress_right number mark (Ok (command token service name body)) = tt
  progress_right number mark (Ok (final token body)) = tt
  progress_right number mark (Ok (progress token body)) = tt
  progress_right number mark (Ok (not_known token)) = tt
  progress_right number mark (Ok (event service name body)) = tt
  progress_right number mark (Ok (flow level)) = tt
  progress_right number mark (Err fault) = tt

  final_right : (number : ℕ) (mark : Option ℕ) (m : Result MessageValue MessageFault) → RightOption (final_line number mark m)
  final_right number mark (Ok (command token service name body)) = tt
  final_right number mark (Ok (final token body)) = tt
  final_right number mark (Ok (progress token body)) = tt
  final_right number mark (Ok (not_known token)) = tt
  final_right number mark (Ok (event service name body)) = tt
  final_right number mark (Ok (flow level)) = tt
  final_right number mark (Err fault) = tt

  right_took : (what : Taken ℕ) (e : EndValue ℕ) (c : ClientValue) → MayTake what → IsRight c → IsRight (took what e c)
  right_took (taken.Hello incoming) e c may each = right_noted (hello_line incoming.mark (reading incoming.raw)) (with_channel e c) (hello_right incoming.mark (reading incoming.raw)) each
  right_took (taken.Event incoming) e c may each = right_noted (event_line incoming.mark (reading incoming.raw)) (with_channel e c) (event_right incoming.mark (reading incoming.raw)) each
  right_took (taken.Command incoming) e c may each = each
  right_took (taken.Progress number incoming) e c may each =
      right_noted (progress_line number incoming.mark (reading incoming.raw)) (with_channel e c) (progress_right number incoming.mark (reading incoming.raw)) each
  right_took (taken.Final number incoming) e c may each =
      right_noted (final_line number incoming.mark (reading incoming.raw)) (with_channel e c) (final_right number incoming.mark (reading incoming.raw)) each
  right_took (taken.Closed cause) e c may each = right_closed cause e c may each

  right_turned : (next : Option (Taken ℕ) × EndValue ℕ) (c : ClientValue) → AllByRecursion MayTake (option_to_list next.0) → IsRight c → IsRight (turned_by next c).1
  right_turned (None, e) c may each = each
  right_turned (Some what, e) c may each = right_took what e c may.0 each

  right_opened : (channel : Option (EndValue ℕ)) (c : ClientValue) → IsRight c → IsRight (opened_from channel c)
  right_opened None c each = each
  right_opened (Some e) c each = each

  right_sent_by : (channel : Option (EndValue ℕ)) (service name body : List ℕ) (c : ClientValue) → IsRight c → IsRight (sent_by channel service name body c)
  right_sent_by None service name body c each = right_refused (Some refused.NotOpen) c each
  right_sent_by (Some e) service name body c each = right_sent (refusal_of (length service + length name + length body) e) e service name body c each

  right_turned_on : (channel : Option (EndValue ℕ)) (c : ClientValue) → AllByRecursion MayTake (taken_on channel) → IsRight c → IsRight (turned_on channel c).1
  right_turned_on None c may each = each
  right_turned_on (Some e) c may each = right_turned (next_taken e) c may each

  right_closed_on : (channel : Option (EndValue ℕ)) (c : ClientValue) → G ends.Own → IsRight c → IsRight (closed_on channel c)
  right_closed_on None c own each = each
  right_closed_on (Some e) c own each = by_flag (is_closed e.state)
    where
      by_flag : (flag : Bool) → IsRight (cond flag c (closed_for Own (closed_own e) c))
      by_flag true = each
      by_flag false = right_closed Own (closed_own e) c own each

  right_call : (call : Call) (c : ClientValue) → AllByRecursion MayTake (taken_by call c.channel) → MayClose call → IsRight c → IsRight (called call c)
  right_call opens c may own each = right_opened c.channel c each
  right_call (sends service name body) c may own each = right_sent_by c.channel service name body c each
  right_call (comes piece mark) c may own each = each
  right_call bytes_end c may own each = each
  right_call turns c may own each = right_turned_on c.channel c may each
  right_call closes c may own each = right_closed_on c.channel c own each
  right_call gives c may own each = each
  right_call (asks what) c may own each = all_append RightLine c.log (lines.Cached what (cached_value what (lessons c.log)) ∷ []) each (tt, tt)

  -- what was taken stays
  taken_stays : (calls : List Call) (p : Past) → IsFront p.taken (past_of calls p).taken
  taken_stays [] p = front_all p.taken
  taken_stays (call ∷ calls) p =
      front_then p.taken (p.taken ++ taken_by call p.client.channel) (past_of calls (remembered call p)).taken (taken_by call p.client.channel, refl) (taken_stays calls (remembered call p))

  pub right_log : (calls : List Call) (p : Past) → AllByRecursion MayTake (past_of calls p).taken → AllByRecursion MayClose calls → IsRight p.client → IsRight (past_of calls p).client
  right_log [] p may own each = each
  right_log (call ∷ calls) p may own each =
      let next = taken_by call p.client.channel in
      let until : AllByRecursion MayTake (p.taken ++ next) = front_each MayTake (p.taken ++ next) (past_of calls (remembered call p)).taken (taken_stays calls (remembered call p)) may in
      right_log calls (remembered call p) may own.1 (right_call call p.client (all_back MayTake p.taken next until) own.0 each)
