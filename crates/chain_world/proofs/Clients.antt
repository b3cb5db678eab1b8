-- What each call of a client adds to what its end was given and gave out.
use Rattle.std.proofs.Common.{◌≡◌, ℕ, ◌+◌, length, Bool, true, false, cond, List, [], ◌∷◌, ◌++◌, map, Option, Some, None, refl, sym, ap, ◌∙◌, subst, append_assoc, append-nil}
use Rattle.std.specs.Prelude.{is_some}
use Rattle.std.specs.List.{AllByRecursion, list_any}
use Rattle.channel_core.specs.Arrivals.{arrived, bytes_of, marked}
use Rattle.channel_core.specs.Closing.{closed_own, is_closed}
use Rattle.channel_core.specs.EndValue.{EndValue}
use Rattle.channel_core.specs.Receiving.{delivered}
use Rattle.channel_core.specs.Runs.{Unheld, sending}
use Rattle.channel_core.specs.Sending.{refusal_of}
use Rattle.channel_core.specs.Taking.{next_taken}
use Rattle.channel_core.specs.declared.sending.SendRefusal.{SendRefusal}
use Rattle.channel_core.specs.declared.states.Cause.TheVariants.{Own}
use Rattle.channel_core.specs.declared.held.Outgoing.{Outgoing}
use Rattle.channel_core.specs.declared.taking.Taken.{Taken}
use Rattle.channel_core.specs.declared.taking.Taken.TheVariants as taken
use Rattle.channel_laws.specs.Faults.{is_ending}
use Rattle.client_node.specs.Client.{closed_for, noted, refused_for, sent_or_refused, took, turned_by, with_channel, without_first}
use Rattle.client_node.specs.Lines.{event_line, final_line, hello_line, progress_line, why_of}
use Rattle.tcf_text.specs.declared.log.RefusedWhy.{RefusedWhy}
use Rattle.client_node.specs.ClientValue.{ClientValue}
use Rattle.client_node.specs.Ends.{HasNames, after_taking, after_turn, calls_on, draining_all, end_calls, end_calls_by, given_by, given_out, unknown_to}
use Rattle.client_node.specs.Runs.{Call, asks, bytes_end, called, closes, comes, gives, opens, run, sends, turns}
use Rattle.tcf_message.specs.Message.{reading}
use Rattle.tcf_text.specs.declared.log.LogLine.{LogLine}
use Rattle.chain_world.specs.Chain.{client_emptied, parts_came, queue_of}
use Rattle.chain_world.specs.Past.{coming, giving}
use Rattle.chain_world.proofs.Calls.{idle_endless}
use Rattle.client_node.proofs.Calls.{client as client_of}
use Rattle.chain_route.proofs.EndCalls.{AreIdle, idle_arrived}

pub run_more : (calls more : List Call) (c : ClientValue) → run (calls ++ more) c ≡ run more (run calls c)
run_more [] more c = refl
run_more (call ∷ calls) more c = run_more calls more (called call c)

pub end_calls_more : (calls more : List Call) (c : ClientValue) → end_calls (calls ++ more) c ≡ end_calls calls c ++ end_calls more (run calls c)
end_calls_more [] more c = refl
end_calls_more (call ∷ calls) more c =
    ap (λ xs. end_calls_by call c ++ xs) (end_calls_more calls more (called call c))
    ∙ sym (append_assoc (end_calls_by call c) (end_calls calls (called call c)) (end_calls more (run calls (called call c))))

pub given_more : (calls more : List Call) (c : ClientValue) → given_out (calls ++ more) c ≡ given_out calls c ++ given_out more (run calls c)
given_more [] more c = refl
given_more (call ∷ calls) more c =
    ap (λ xs. given_by call c ++ xs) (given_more calls more (called call c))
    ∙ sym (append_assoc (given_by call c) (given_out calls (called call c)) (given_out more (run calls (called call c))))

-- ---- Calls that bring and end nothing and give nothing out

abbrev pub IsQuiet : Call → Type 0
IsQuiet (comes piece mark) = ⊥
IsQuiet bytes_end = ⊥
IsQuiet gives = ⊥
IsQuiet _ = Unit {0}

answers_idle : (messages : List Unheld) → AreIdle {T = ℕ} (map (λ m. sending m None) messages)
answers_idle [] = tt
answers_idle (m ∷ messages) = (tt, answers_idle messages)

draining_idle : (pending : List (ℕ × ℕ)) → AreIdle {T = ℕ} (draining_all pending)
draining_idle [] = tt
draining_idle (row ∷ pending) = (tt, draining_idle pending)

taking_idle : (what : Taken ℕ) (pending : List (ℕ × ℕ)) → AreIdle (after_taking what pending)
taking_idle (taken.Hello incoming) pending = tt
taking_idle (taken.Event incoming) pending = tt
taking_idle (taken.Command incoming) pending = answers_idle (unknown_to (reading incoming.raw))
taking_idle (taken.Progress number incoming) pending = tt
taking_idle (taken.Final number incoming) pending = tt
taking_idle (taken.Closed cause) pending = draining_idle pending

turn_idle : (what : Option (Taken ℕ)) (pending : List (ℕ × ℕ)) → AreIdle (after_turn what pending)
turn_idle None pending = tt
turn_idle (Some what) pending = taking_idle what pending

closing_idle : (flag : Bool) (e : EndValue ℕ) → is_closed e.state ≡ flag → AreIdle (calls_on closes e)
closing_idle true e is = rw is tt
closing_idle false e is = rw is (tt, draining_idle e.pending)

quiet_on : (call : Call) (e : EndValue ℕ) → IsQuiet call → AreIdle (calls_on call e)
quiet_on opens e quiet = tt
quiet_on (sends service name body) e quiet = (tt, tt)
quiet_on (comes piece mark) e quiet = absurd quiet
quiet_on bytes_end e quiet = absurd quiet
quiet_on turns e quiet = (tt, turn_idle (next_taken e).0 (next_taken e).1.pending)
quiet_on closes e quiet = closing_idle (is_closed e.state) e refl
quiet_on gives e quiet = absurd quiet
quiet_on (asks what) e quiet = tt

quiet_by : (call : Call) (channel : Option (EndValue ℕ)) (log : List LogLine) (spent : Bool) → IsQuiet call → AreIdle (end_calls_by call (record { channel = channel; log = log; is_spent = spent }))
quiet_by call None log spent quiet = tt
quiet_by call (Some e) log spent quiet = quiet_on call e quiet

pub quiet_arrived : (call : Call) (c : ClientValue) → IsQuiet call → arrived (end_calls (call ∷ []) c) ≡ []
quiet_arrived call c quiet =
    ap arrived (append-nil (end_calls_by call c)) ∙ idle_arrived (end_calls_by call c) (quiet_by call c.channel c.log c.is_spent quiet)

pub quiet_endless : (call : Call) (c : ClientValue) → IsQuiet call → list_any is_ending (end_calls (call ∷ []) c) ≡ false
quiet_endless call c quiet =
    ap (list_any is_ending) (append-nil (end_calls_by call c)) ∙ idle_endless (end_calls_by call c) (quiet_by call c.channel c.log c.is_spent quiet)

pub quiet_given : (call : Call) (c : ClientValue) → IsQuiet call → given_out (call ∷ []) c ≡ []
quiet_given opens c quiet = refl
quiet_given (sends service name body) c quiet = refl
quiet_given (comes piece mark) c quiet = absurd quiet
quiet_given bytes_end c quiet = absurd quiet
quiet_given turns c quiet = refl
quiet_given closes c quiet = refl
quiet_given gives c quiet = absurd quiet
quiet_given (asks what) c quiet = refl

-- ---- All that its end queued is given out

pub giving_named : (queue : List Outgoing) → AllByRecursion HasNames (giving queue)
giving_named [] = tt
giving_named (o ∷ queue) = (tt, giving_named queue)

-- all that calls do here
pub record Empties (c : ClientValue) (queue : List Outgoing) : Type 0 where
  pub client : run (giving queue) c ≡ client_emptied c
  pub given : given_out (giving queue) c ≡ queue
  pub arrived : arrived (end_calls (giving queue) c) ≡ []
  pub endless : list_any is_ending (end_calls (giving queue) c) ≡ false

gives_them : (queue : List Outgoing) (e : EndValue ℕ) (log : List LogLine) (spent : Bool) → e.is_spent ≡ false
    → run (giving queue) (client_of (Some (record e { queued = queue })) log spent) ≡ client_of (Some (record e { queued = [] })) log spent
gives_them [] e log spent fresh = refl
gives_them (o ∷ queue) e log spent fresh =
    ap (λ b. run (giving queue) (client_of (Some (cond b (record e { queued = o ∷ queue }) (record e { queued = queue }))) log spent)) fresh
    ∙ gives_them queue e log spent fresh

given_them : (queue : List Outgoing) (e : EndValue ℕ) (log : List LogLine) (spent : Bool) → e.is_spent ≡ false
    → given_out (giving queue) (client_of (Some (record e { queued = queue })) log spent) ≡ queue
given_them [] e log spent fresh = refl
given_them (o ∷ queue) e log spent fresh =
    let gives_next = given_out (giving queue) in
    ap (λ b. given_by gives (client_of (Some (record e { queued = o ∷ queue })) log spent) ++ gives_next (client_of (Some (cond b (record e { queued = o ∷ queue }) (record e { queued = queue }))) log spent)) fresh
    ∙ ap (λ xs. given_by gives (client_of (Some (record e { queued = o ∷ queue })) log spent) ++ xs) (given_them queue e log spent fresh)
    ∙ rw fresh refl

calls_them : (queue : List Outgoing) (channel : Option (EndValue ℕ)) (log : List LogLine) (spent : Bool) → arrived (end_calls (giving queue) (client_of channel log spent)) ≡ []
calls_them [] channel log spent = refl
calls_them (o ∷ queue) None log spent = calls_them queue None log spent
calls_them (o ∷ queue) (Some e) log spent = calls_them queue (Some (without_first e)) log spent

endless_them : (queue : List Outgoing) (channel : Option (EndValue ℕ)) (log : List LogLine) (spent : Bool) → list_any is_ending (end_calls (giving queue) (client_of channel log spent)) ≡ false
endless_them [] channel log spent = refl
endless_them (o ∷ queue) None log spent = endless_them queue None log spent
endless_them (o ∷ queue) (Some e) log spent = endless_them queue (Some (without_first e)) log spent

abbrev pub IsFreshIn : Option (EndValue ℕ) → Type 0
IsFreshIn None = Unit {0}
IsFreshIn (Some e) = e.is_spent ≡ false

empties_on : (channel : Option (EndValue ℕ)) (log : List LogLine) (spent : Bool) → IsFreshIn channel → Empties (client_of channel log spent) (queue_of channel)
empties_on None log spent fresh = record { client = refl; given = refl; arrived = refl; endless = refl }
empties_on (Some e) log spent fresh =
    let queue_is : queue_of (Some e) ≡ e.queued = ap (λ b. cond b [] e.queued) fresh in
    let P : List Outgoing → Type 0 = λ q. Empties (client_of (Some e) log spent) q in
    subst P (sym queue_is)
    (record {
      client = gives_them e.queued e log spent fresh ∙ ap (λ b. client_of (Some (cond b e (record e { queued = [] }))) log spent) (sym fresh);
      given = given_them e.queued e log spent fresh;
      arrived = calls_them e.queued (Some e) log spent;
      endless = endless_them e.queued (Some e) log spent;
    })

pub empties : (c : ClientValue) → IsFreshIn c.channel → Empties c (queue_of c.channel)
empties c fresh = empties_on c.channel c.log c.is_spent fresh

-- ---- Parts of messages come

pub coming_named : (parts : List Outgoing) → AllByRecursion HasNames (coming parts)
coming_named [] = tt
coming_named (part ∷ parts) = (tt, coming_named parts)

pub coming_run : (parts : List Outgoing) (c : ClientValue) → run (coming parts) c ≡ parts_came parts c
coming_run [] c = refl
coming_run (part ∷ parts) c = coming_run parts (called (comes part.bytes part.mark) c)

pub coming_given : (parts : List Outgoing) (c : ClientValue) → given_out (coming parts) c ≡ []
coming_given [] c = refl
coming_given (part ∷ parts) c = coming_given parts (called (comes part.bytes part.mark) c)

pub coming_endless : (parts : List Outgoing) (c : ClientValue) → list_any is_ending (end_calls (coming parts) c) ≡ false
coming_endless parts c = by_channel parts c.channel c.log c.is_spent
  where
    by_channel : (parts : List Outgoing) (channel : Option (EndValue ℕ)) (log : List LogLine) (spent : Bool) → list_any is_ending (end_calls (coming parts) (client_of channel log spent)) ≡ false
    by_channel [] channel log spent = refl
    by_channel (part ∷ parts) None log spent = by_channel parts None log spent
    by_channel (part ∷ parts) (Some e) log spent = by_channel parts (Some (delivered part.bytes part.mark e)) log spent

-- on an opened channel
coming_on : (parts : List Outgoing) (e : EndValue ℕ) (log : List LogLine) (spent : Bool) → arrived (end_calls (coming parts) (client_of (Some e) log spent)) ≡ bytes_of parts
coming_on [] e log spent = refl
coming_on (part ∷ parts) e log spent =
    ap (λ bs. bs ++ arrived (end_calls (coming parts) (client_of (Some (delivered part.bytes part.mark e)) log spent))) refl
    ∙ ap (λ bs. marked part.bytes part.mark ++ bs) (coming_on parts (delivered part.bytes part.mark e) log spent)

pub coming_arrived : (parts : List Outgoing) (c : ClientValue) → is_some c.channel ≡ true → arrived (end_calls (coming parts) c) ≡ bytes_of parts
coming_arrived parts c opened = by_channel c.channel c.log c.is_spent opened
  where
    by_channel : (channel : Option (EndValue ℕ)) (log : List LogLine) (spent : Bool) → is_some channel ≡ true → arrived (end_calls (coming parts) (client_of channel log spent)) ≡ bytes_of parts
    by_channel None log spent is = absurd cc
    by_channel (Some e) log spent is = coming_on parts e log spent

-- ---- Its bytes end

-- all that the call does here, on an opened channel
pub record Loses (c : ClientValue) : Type 0 where
  pub given : given_out (bytes_end ∷ []) c ≡ []
  pub arrived : arrived (end_calls (bytes_end ∷ []) c) ≡ []
  pub ends : list_any is_ending (end_calls (bytes_end ∷ []) c) ≡ true

pub loses_so : (c : ClientValue) → is_some c.channel ≡ true → Loses c
loses_so c opened = by_channel c.channel c.log c.is_spent opened
  where
    by_channel : (channel : Option (EndValue ℕ)) (log : List LogLine) (spent : Bool) → is_some channel ≡ true → Loses (client_of channel log spent)
    by_channel None log spent is = absurd cc
    by_channel (Some e) log spent is = record { given = refl; arrived = refl; ends = refl }

-- ---- A channel that was opened stays

abbrev IsOpened : ClientValue → Type 0
IsOpened c = is_some c.channel ≡ true

noted_opened : (line : Option LogLine) (c : ClientValue) → IsOpened c → IsOpened (noted line c)
noted_opened None c is = is
noted_opened (Some line) c is = is

refused_opened : (why : Option RefusedWhy) (c : ClientValue) → IsOpened c → IsOpened (refused_for why c)
refused_opened None c is = is
refused_opened (Some why) c is = is

sent_opened : (refusal : Option SendRefusal) (e : EndValue ℕ) (service name body : List ℕ) (c : ClientValue) → IsOpened c → IsOpened (sent_or_refused refusal e service name body c)
sent_opened None e service name body c is = refl
sent_opened (Some why) e service name body c is = refused_opened (why_of why) c is

took_opened : (what : Taken ℕ) (e : EndValue ℕ) (c : ClientValue) → IsOpened (took what e c)
took_opened (taken.Hello incoming) e c = noted_opened (hello_line incoming.mark (reading incoming.raw)) (with_channel e c) refl
took_opened (taken.Event incoming) e c = noted_opened (event_line incoming.mark (reading incoming.raw)) (with_channel e c) refl
took_opened (taken.Command incoming) e c = refl
took_opened (taken.Progress number incoming) e c = noted_opened (progress_line number incoming.mark (reading incoming.raw)) (with_channel e c) refl
took_opened (taken.Final number incoming) e c = noted_opened (final_line number incoming.mark (reading incoming.raw)) (with_channel e c) refl
took_opened (taken.Closed cause) e c = refl

turned_opened : (next : Option (Taken ℕ) × EndValue ℕ) (c : ClientValue) → IsOpened c → IsOpened (turned_by next c).1
turned_opened (None, e) c is = is
turned_opened (Some what, e) c is = took_opened what e c

closed_opened : (flag : Bool) (c next : ClientValue) → IsOpened c → IsOpened next → IsOpened (cond flag c next)
closed_opened true c next is then = is
closed_opened false c next is then = then

called_on : (call : Call) (e : EndValue ℕ) (log : List LogLine) (spent : Bool) → IsOpened (called call (client_of (Some e) log spent))
called_on opens e log spent = refl
called_on (sends service name body) e log spent =
    sent_opened (refusal_of (length service + length name + length body) e) e service name body (client_of (Some e) log spent) refl
called_on (comes piece mark) e log spent = refl
called_on bytes_end e log spent = refl
called_on turns e log spent = turned_opened (next_taken e) (client_of (Some e) log spent) refl
called_on closes e log spent = closed_opened (is_closed e.state) (client_of (Some e) log spent) (closed_for Own (closed_own e) (client_of (Some e) log spent)) refl refl
called_on gives e log spent = refl
called_on (asks what) e log spent = refl

-- before the opening nothing changes that
abbrev pub IsLater : Call → Type 0
IsLater opens = ⊥
IsLater _ = Unit {0}

none_later : (call : Call) (log : List LogLine) (spent : Bool) → IsLater call → is_some (called call (client_of None log spent)).channel ≡ false
none_later opens log spent later = absurd later
none_later (sends service name body) log spent later = refl
none_later (comes piece mark) log spent later = refl
none_later bytes_end log spent later = refl
none_later turns log spent later = refl
none_later closes log spent later = refl
none_later gives log spent later = refl
none_later (asks what) log spent later = refl

pub opened_kept : (call : Call) (c : ClientValue) → IsLater call → is_some (called call c).channel ≡ is_some c.channel
opened_kept call c later = by_channel c.channel c.log c.is_spent
  where
    by_channel : (channel : Option (EndValue ℕ)) (log : List LogLine) (spent : Bool) → is_some (called call (client_of channel log spent)).channel ≡ is_some channel
    by_channel None log spent = none_later call log spent later
    by_channel (Some e) log spent = called_on call e log spent
