-- What the history tells a channel is what its past was told, and stays so with each input.
use Rattle.std.proofs.Common.{◌≡◌, ℕ, ◌+◌, Bool, true, false, not, cond, ◌||◌, List, [], ◌∷◌, ◌++◌, length, map, Option, Some, refl, sym, ap, ◌∙◌, subst, append_assoc, append-nil}
use Rattle.std.specs.List.{flat_map, list_any}
use Rattle.std.proofs.lemmas.Grind.{flat_map-append}
use Rattle.std.proofs.lemmas.List.{map-append}
use Rattle.channel_core.specs.Closing.{is_closed}
use Rattle.channel_core.specs.Laws.{listed}
use Rattle.channel_core.specs.QueueLaws.{is_commanding, may_close, sent_by, sent_in}
use Rattle.channel_core.specs.Runs.{Call as EndCall, Unheld, after_call, sending, some_progress, taking}
use Rattle.channel_core.specs.Taking.{closes, next_taken}
use Rattle.channel_core.specs.Wire.{hello, locator, said}
use Rattle.channel_core.specs.declared.held.Outgoing.{Outgoing}
use Rattle.channel_core.specs.declared.taking.Taken.{Taken}
use Rattle.target_contexts.specs.declared.process.Image.{Image}
use Rattle.target_hub.specs.History.{inputs_after, is_live}
use Rattle.target_hub.specs.HubValue.{new_target}
use Rattle.target_hub.specs.Ordered.{OpensAt}
use Rattle.target_hub.specs.Sent.{Told, agent_services, answer_told, events_told, executed_by, executed_on, progress_at, progress_data, sent, told_by, told_while_live}
use Rattle.target_hub.specs.declared.done.Answered.{Answered}
use Rattle.target_hub.specs.declared.done.Done.{Done}
use Rattle.target_hub.specs.declared.input.Input.{Input}
use Rattle.tcf_message.specs.Message.{event}
use Rattle.tcf_values.specs.declared.event.EventData.{EventData}
use Rattle.agent_node.specs.AgentLaws.{Asked, asked, asked_by, read, tokens}
use Rattle.agent_node.specs.Runs.{Past, answer_calls, answer_of, event_call, run_of, with_calls}
use Rattle.agent_node.proofs.Calls.{end_more, plain_more, run_more, said_unless, sendings, sendings_asked, sendings_plain, sendings_said, sendings_state, sent_of, sent_of_more}
use Rattle.agent_node.proofs.Histories.{executed_more, opens_more, sent_more, told_live}
use Rattle.agent_node.proofs.Tokens.{Uses, as_messages, caller_messages, caller_unheld, event_unheld, events_messages, messages_more, say, uses_caller, uses_events, uses_more, uses_none}
use Rattle.agent_node.proofs.Standing.{closed_takes_none, run_closes}

-- ---- What a channel was told, and what it asked

-- the Hello of a channel that opened at this position
unfoldable pub first_said : ℕ → Outgoing
first_said position = said (event locator hello agent_services) (Some position)

pub record IsTold (images : List Image) (history : List Input) (number position : ℕ) (out : List Outgoing) (commands : List Asked) (closed : Bool) : Type 0 where
  pub opened : OpensAt history position number
  pub live : is_live number history ≡ not closed
  pub told : first_said position ∷ out ≡ as_messages (tokens commands) (sent images number history)
  pub uses : Uses (tokens commands) (sent images number history)
  pub executed : executed_on number history ≡ map read commands

-- the same by other names
pub told_same : (images : List Image) (history : List Input) (number position : ℕ) (out out_now : List Outgoing) (commands commands_now : List Asked) (closed closed_now : Bool)
    → out_now ≡ out → commands_now ≡ commands → closed_now ≡ closed → IsTold images history number position out commands closed → IsTold images history number position out_now commands_now closed_now
told_same images history number position out out_now commands commands_now closed closed_now outs asks shuts t = record {
  opened = t.opened;
  live = t.live ∙ ap not (sym shuts);
  told = ap (λ os. first_said position ∷ os) outs ∙ t.told ∙ ap (λ cs. as_messages (tokens cs) (sent images number history)) (sym asks);
  uses = let P : List Asked → Type 0 = λ cs. Uses (tokens cs) (sent images number history) in subst P (sym asks) t.uses;
  executed = t.executed ∙ ap (map read) (sym asks);
}

tokens_more : (commands more : List Asked) → tokens (commands ++ more) ≡ tokens commands ++ tokens more
tokens_more commands more = map-append (λ c. c.token) commands more

-- with one more input
pub told_grown : (images : List Image) (history : List Input) (input : Input) (number position : ℕ) (out outs out_now : List Outgoing) (commands more commands_now : List Asked) (new : List Told) (closed closed_now : Bool)
    → out_now ≡ out ++ outs → commands_now ≡ commands ++ more → is_live number (history ++ input ∷ []) ≡ not closed_now
    → told_while_live number history (inputs_after history (new_target images)) input ≡ new → as_messages (tokens more) new ≡ outs → Uses (tokens more) new → executed_by number input ≡ map read more
    → IsTold images history number position out commands closed → IsTold images (history ++ input ∷ []) number position out_now commands_now closed_now
told_grown images history input number position out outs out_now commands more commands_now new closed closed_now out_is commands_is live new_is messages uses executes t =
    let all : sent images number (history ++ input ∷ []) ≡ sent images number history ++ new =
    sent_more images number history input ∙ ap (λ ts. sent images number history ++ ts) new_is in
    let names : tokens commands_now ≡ tokens commands ++ tokens more = ap tokens commands_is ∙ tokens_more commands more in
    let given = uses_more (tokens commands) (tokens more) (sent images number history) new t.uses uses in
    record {
      opened = opens_more history position number input t.opened;
      live = live;
      told = ap (λ os. first_said position ∷ os) out_is ∙ ap (λ os. os ++ outs) t.told ∙ ap (λ os. as_messages (tokens commands) (sent images number history) ++ os) (sym messages)
          ∙ sym (messages_more (tokens commands) (tokens more) (sent images number history) new t.uses) ∙ ap (λ ns. as_messages ns (sent images number history ++ new)) (sym names)
          ∙ ap (as_messages (tokens commands_now)) (sym all);
      uses = subst (λ ts. Uses (tokens commands_now) ts) (sym all) (subst (λ ns. Uses ns (sent images number history ++ new)) (sym names) given);
      executed = executed_more number history input ∙ ap (λ cs. cs ++ executed_by number input) t.executed ∙ ap (λ cs. map read commands ++ cs) executes
          ∙ sym (map-append read commands more) ∙ ap (map read) (sym commands_is);
    }

-- ---- A past follows the history

pub record Follows (images : List Image) (history : List Input) (past : Past) : Type 0 where
  pub told : IsTold images history past.number past.position (sent_of past) (asked (run_of past)) (is_closed (run_of past).end.state)
  pub plain : list_any is_commanding past.calls ≡ false

-- what an entry asks
unfoldable pub asked_next : Option (Taken Unit) → List Asked
asked_next next = flat_map asked_by (listed next)

-- of a past with one more call
one_sent : (call : EndCall Unit) (past : Past) → sent_by call (run_of past).end ≡ [] → sent_of (with_calls (call ∷ []) past) ≡ sent_of past
one_sent call past none = sent_of_more (call ∷ []) past ∙ ap (λ os. sent_of past ++ (os ++ [])) none ∙ append-nil (sent_of past)

one_plain : (call : EndCall Unit) (past : Past) → is_commanding call ≡ false → list_any is_commanding past.calls ≡ false → list_any is_commanding (with_calls (call ∷ []) past).calls ≡ false
one_plain call past isnt none = plain_more (call ∷ []) past none (ap (λ b. b || false) isnt)

-- that sends and takes nothing, and doesn't close
pub follows_quiet : (images : List Image) (history : List Input) (call : EndCall Unit) (past : Past) → may_close call ≡ false → is_commanding call ≡ false → sent_by call (run_of past).end ≡ []
    → (after_call call (run_of past)).past.taken ≡ (run_of past).past.taken → Follows images history past → Follows images history (with_calls (call ∷ []) past)
follows_quiet images history call past staying isnt silent idle f = record {
  told = told_same images history past.number past.position (sent_of past) (sent_of (with_calls (call ∷ []) past)) (asked (run_of past)) (asked (run_of (with_calls (call ∷ []) past)))
      (is_closed (run_of past).end.state) (is_closed (run_of (with_calls (call ∷ []) past)).end.state) (one_sent call past silent)
      (ap asked (run_more (call ∷ []) past) ∙ ap (flat_map asked_by) idle)
      (ap (λ e. is_closed e.state) (end_more (call ∷ []) past) ∙ (run_closes past).by_others call staying) f.told;
  plain = one_plain call past isnt f.plain;
}

-- ---- It takes an entry

abbrev pub with_taking : Past → Past
with_taking past = with_calls (taking ∷ []) past

pub taking_asked : (past : Past) → asked (run_of (with_taking past)) ≡ asked (run_of past) ++ asked_next (next_taken (run_of past).end).0
unfolding asked_next
taking_asked past =
    ap asked (run_more (taking ∷ []) past) ∙ flat_map-append asked_by (run_of past).past.taken (listed (next_taken (run_of past).end).0)

pub taking_sent : (past : Past) → sent_of (with_taking past) ≡ sent_of past
taking_sent past = one_sent taking past refl

pub taking_plain : (past : Past) → list_any is_commanding past.calls ≡ false → list_any is_commanding (with_taking past).calls ≡ false
taking_plain past none = one_plain taking past refl none

taking_end : (past : Past) → is_closed (run_of (with_taking past)).end.state ≡ is_closed (next_taken (run_of past).end).1.state
taking_end past = ap (λ e. is_closed e.state) (end_more (taking ∷ []) past)

-- an open end closes with what it takes
pub taking_open : (past : Past) → is_closed (run_of past).end.state ≡ false → is_closed (run_of (with_taking past)).end.state ≡ closes (next_taken (run_of past).end).0
taking_open past opened = taking_end past ∙ (run_closes past).by_taking opened

-- a closed one stays so
pub taking_closed : (past : Past) → is_closed (run_of past).end.state ≡ true → is_closed (run_of (with_taking past)).end.state ≡ true
taking_closed past closed = taking_end past ∙ ap (λ p. is_closed p.1.state) (closed_takes_none past closed) ∙ closed

-- an entry that asks nothing and closes nothing changes nothing
pub follows_taking : (images : List Image) (history : List Input) (past : Past) → asked_next (next_taken (run_of past).end).0 ≡ [] → closes (next_taken (run_of past).end).0 ≡ false
    → Follows images history past → Follows images history (with_taking past)
follows_taking images history past asks staying f = record {
  told = told_same images history past.number past.position (sent_of past) (sent_of (with_taking past)) (asked (run_of past)) (asked (run_of (with_taking past)))
      (is_closed (run_of past).end.state) (is_closed (run_of (with_taking past)).end.state) (taking_sent past)
      (taking_asked past ∙ ap (λ cs. asked (run_of past) ++ cs) asks ∙ append-nil (asked (run_of past))) (by_flag (is_closed (run_of past).end.state) refl) f.told;
  plain = taking_plain past f.plain;
}
  where
    by_flag : (flag : Bool) → is_closed (run_of past).end.state ≡ flag → is_closed (run_of (with_taking past)).end.state ≡ is_closed (run_of past).end.state
    by_flag true closed = taking_closed past closed ∙ sym closed
    by_flag false opened = taking_open past opened ∙ staying ∙ sym opened

-- ---- It hears events

pub events_calls : (position : ℕ) (events : List EventData) → map (event_call position) events ≡ sendings position (map event_unheld events)
unfolding event_unheld
events_calls position [] = refl
events_calls position (e ∷ events) = ap (λ cs. event_call position e ∷ cs) (events_calls position events)

heard_messages : (closed : Bool) (position : ℕ) (events : List EventData) → as_messages [] (cond (not closed) (events_told position events) []) ≡ said_unless closed position (map event_unheld events)
heard_messages true position events = refl
heard_messages false position events =
    ap (as_messages []) (sym (append-nil (events_told position events))) ∙ events_messages [] position events [] ∙ append-nil (map (say position) (map event_unheld events))

heard_uses : (closed : Bool) (position : ℕ) (events : List EventData) → Uses [] (cond (not closed) (events_told position events) [])
heard_uses true position events = uses_none
heard_uses false position events = subst (Uses []) (append-nil (events_told position events)) (uses_events [] position events [] uses_none)

-- those of an input that isn't the channel's own command; the past may have taken an entry before
pub follows_heard : (images : List Image) (history : List Input) (input : Input) (past : Past) (commands : List Asked) (closed : Bool) (position : ℕ) (events : List EventData)
    → position ≡ length history + 1 → asked (run_of past) ≡ commands → is_live past.number (history ++ input ∷ []) ≡ not (is_closed (run_of past).end.state)
    → told_by past.number (length history + 1) (inputs_after history (new_target images)) input ≡ events_told (length history + 1) events → executed_by past.number input ≡ []
    → list_any is_commanding past.calls ≡ false → IsTold images history past.number past.position (sent_of past) commands closed
    → Follows images (history ++ input ∷ []) (with_calls (map (event_call position) events) past)
follows_heard images history input past commands closed position events place asks live told executes plain t =
    subst (λ calls. Follows images (history ++ input ∷ []) (with_calls calls past)) (sym (events_calls position events)) (record {
      told = told_grown images history input past.number past.position (sent_of past) (said_unless shut position messages) (sent_of later) commands [] (asked (run_of later)) (cond (not shut) (events_told position events) [])
          closed (is_closed (run_of later).end.state)
          (sent_of_more (sendings position messages) past ∙ ap (λ os. sent_of past ++ os) (sendings_said position messages (run_of past).end))
          (sendings_asked position messages past ∙ asks ∙ sym (append-nil commands))
          (live ∙ ap not (sym still))
          (told_live past.number history (inputs_after history (new_target images)) input (events_told position events) (not shut) live (told ∙ ap (λ n. events_told n events) (sym place)))
          (heard_messages shut position events) (heard_uses shut position events) executes t;
      plain = plain_more (sendings position messages) past plain (sendings_plain position messages);
    })
  where
    messages : List Unheld
    messages = map event_unheld events

    shut : Bool
    shut = is_closed (run_of past).end.state

    later : Past
    later = with_calls (sendings position (map event_unheld events)) past

    still : is_closed (run_of (with_calls (sendings position (map event_unheld events)) past)).end.state ≡ is_closed (run_of past).end.state
    still = ap (λ e. is_closed e.state) (end_more (sendings position (map event_unheld events)) past) ∙ sendings_state position (map event_unheld events) (run_of past).end

-- ---- Its own command is answered

progress_calls : (token : List ℕ) (position : ℕ) (progress : List ℕ) (answer : Answered)
    → map (λ address. sending (some_progress token (progress_data address)) (Some position)) progress ++ sending (answer_of token answer) (Some position) ∷ [] ≡ sendings position (caller_unheld token progress answer)
unfolding caller_unheld
progress_calls token position [] answer = refl
progress_calls token position (address ∷ progress) answer = ap (λ cs. sending (some_progress token (progress_data address)) (Some position) ∷ cs) (progress_calls token position progress answer)

pub answers_calls : (token : List ℕ) (position : ℕ) (done : Done) → answer_calls token position done ≡ sendings position (caller_unheld token done.progress done.answer)
answers_calls token position done = progress_calls token position done.progress done.answer

-- the command that it took last
pub follows_answered : (images : List Image) (history : List Input) (input : Input) (past : Past) (commands : List Asked) (command : Asked) (closed through : Bool) (position : ℕ) (done : Done)
    → position ≡ length history + 1 → asked (run_of past) ≡ commands ++ command ∷ [] → is_closed (run_of past).end.state ≡ false → is_live past.number (history ++ input ∷ []) ≡ true
    → told_by past.number (length history + 1) (inputs_after history (new_target images)) input
    ≡ events_told (length history + 1) done.events ++ (map (λ address. progress_at (length history + 1) (progress_data address)) done.progress ++ answer_told (length history + 1) through done.answer ∷ [])
    → executed_by past.number input ≡ read command ∷ [] → list_any is_commanding past.calls ≡ false → IsTold images history past.number past.position (sent_of past) commands closed
    → Follows images (history ++ input ∷ []) (with_calls (answer_calls command.token position done) (with_calls (map (event_call position) done.events) past))
follows_answered images history input past commands command closed through position done place asks opened live told executes plain t =
    subst (λ calls. Follows images (history ++ input ∷ []) (with_calls (answer_calls command.token position done) (with_calls calls past))) (sym (events_calls position done.events))
    (subst (λ calls. Follows images (history ++ input ∷ []) (with_calls calls heard)) (sym (answers_calls command.token position done)) (record {
      told = told_grown images history input past.number past.position (sent_of past) (map (say position) events ++ map (say position) answers) (sent_of later) commands (command ∷ []) (asked (run_of later)) (all position)
          closed (is_closed (run_of later).end.state)
          (sent_of_more (sendings position answers) heard
          ∙ ap (λ os. os ++ sent_answers) (sent_of_more (sendings position events) past ∙ ap (λ os. sent_of past ++ os) (sendings_said position events (run_of past).end ∙ ap (λ b. said_unless b position events) opened))
          ∙ ap (λ os. (sent_of past ++ map (say position) events) ++ os) (sendings_said position answers (run_of heard).end ∙ ap (λ b. said_unless b position answers) heard_open)
          ∙ append_assoc (sent_of past) (map (say position) events) (map (say position) answers))
          (sendings_asked position answers heard ∙ sendings_asked position events past ∙ asks)
          (live ∙ ap not (sym later_open))
          (told_live past.number history (inputs_after history (new_target images)) input (all position) true live (told ∙ ap all (sym place)))
          (events_messages (command.token ∷ []) position done.events (caller position) ∙ ap (λ os. map (say position) events ++ os) (caller_messages command.token position through done.progress done.answer))
          (uses_events (command.token ∷ []) position done.events (caller position) (uses_caller command.token position through done.progress done.answer)) executes t;
      plain = plain_more (sendings position answers) heard (plain_more (sendings position events) past plain (sendings_plain position events)) (sendings_plain position answers);
    }))
  where
    events : List Unheld
    events = map event_unheld done.events

    answers : List Unheld
    answers = caller_unheld command.token done.progress done.answer

    heard : Past
    heard = with_calls (sendings position (map event_unheld done.events)) past

    later : Past
    later = with_calls (sendings position (caller_unheld command.token done.progress done.answer)) heard

    caller : ℕ → List Told
    caller n = map (λ address. progress_at n (progress_data address)) done.progress ++ answer_told n through done.answer ∷ []

    all : ℕ → List Told
    all n = events_told n done.events ++ caller n

    sent_answers : List Outgoing
    sent_answers = sent_in (sendings position answers) (run_of heard).end

    heard_open : is_closed (run_of heard).end.state ≡ false
    heard_open = ap (λ e. is_closed e.state) (end_more (sendings position events) past) ∙ sendings_state position events (run_of past).end ∙ opened

    later_open : is_closed (run_of later).end.state ≡ false
    later_open = ap (λ e. is_closed e.state) (end_more (sendings position answers) heard) ∙ sendings_state position answers (run_of heard).end ∙ heard_open
