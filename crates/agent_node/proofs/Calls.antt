-- What more calls of an end make of its run.
use Rattle.std.proofs.Common.{◌≡◌, ℕ, Bool, true, false, cond, ◌||◌, List, [], ◌∷◌, ◌++◌, map, Some, refl, sym, ap, ◌∙◌, append_assoc}
use Rattle.std.specs.List.{flat_map, list_any}
use Rattle.std.proofs.lemmas.List.Folds.{list_any-append}
use Rattle.channel_core.specs.Beginning.{new_end}
use Rattle.channel_core.specs.Closing.{is_closed}
use Rattle.channel_core.specs.QueueLaws.{is_commanding, sent_by, sent_in}
use Rattle.channel_core.specs.Runs.{Call as EndCall, Run, Unheld, after_call, after_calls, begun, called, message_of, sending}
use Rattle.channel_core.specs.Sending.{queued}
use Rattle.channel_core.specs.declared.held.Outgoing.{Outgoing}
use Rattle.target_hub.specs.Sent.{agent_services}
use Rattle.agent_node.specs.AgentLaws.{asked, asked_by}
use Rattle.agent_node.specs.Channels.{End}
use Rattle.agent_node.specs.Runs.{Past, run_of, with_calls}
use Rattle.agent_node.proofs.Tokens.{say}

-- the end after calls
abbrev pub ends : List (EndCall Unit) → End → End
ends [] e = e
ends (call ∷ calls) e = ends calls (called call e)

pub end_after : (calls : List (EndCall Unit)) (r : Run Unit) → (after_calls calls r).end ≡ ends calls r.end
end_after [] r = refl
end_after (call ∷ calls) r = end_after calls (after_call call r)

calls_more : (calls more : List (EndCall Unit)) (r : Run Unit) → after_calls (calls ++ more) r ≡ after_calls more (after_calls calls r)
calls_more [] more r = refl
calls_more (call ∷ calls) more r = calls_more calls more (after_call call r)

pub run_more : (more : List (EndCall Unit)) (past : Past) → run_of (with_calls more past) ≡ after_calls more (run_of past)
run_more more past = calls_more past.calls more (begun (new_end agent_services (Some past.position)))

pub end_more : (more : List (EndCall Unit)) (past : Past) → (run_of (with_calls more past)).end ≡ ends more (run_of past).end
end_more more past = ap (λ r. r.end) (run_more more past) ∙ end_after more (run_of past)

pub ends_append : (calls more : List (EndCall Unit)) (e : End) → ends (calls ++ more) e ≡ ends more (ends calls e)
ends_append [] more e = refl
ends_append (call ∷ calls) more e = ends_append calls more (called call e)

-- ---- What was sent

-- what its node sent since the Hello
abbrev pub sent_of : Past → List Outgoing
sent_of past = sent_in past.calls (new_end agent_services (Some past.position))

sent_append : (calls more : List (EndCall Unit)) (e : End) → sent_in (calls ++ more) e ≡ sent_in calls e ++ sent_in more (ends calls e)
sent_append [] more e = refl
sent_append (call ∷ calls) more e =
    ap (λ os. sent_by call e ++ os) (sent_append calls more (called call e)) ∙ sym (append_assoc (sent_by call e) (sent_in calls (called call e)) (sent_in more (ends calls (called call e))))

pub sent_of_more : (more : List (EndCall Unit)) (past : Past) → sent_of (with_calls more past) ≡ sent_of past ++ sent_in more (run_of past).end
sent_of_more more past =
    let first : End = new_end agent_services (Some past.position) in
    sent_append past.calls more first ∙ ap (λ e. sent_in past.calls first ++ sent_in more e) (sym (end_after past.calls (begun first)))

-- ---- No command is sent

pub plain_more : (more : List (EndCall Unit)) (past : Past) → list_any is_commanding past.calls ≡ false → list_any is_commanding more ≡ false → list_any is_commanding (with_calls more past).calls ≡ false
plain_more more past none none_more = list_any-append is_commanding past.calls more ∙ ap (λ b. b || list_any is_commanding more) none ∙ none_more

-- ---- Messages are sent

abbrev pub sendings : ℕ → List Unheld → List (EndCall Unit)
sendings position messages = map (λ m. sending m (Some position)) messages

pub sendings_plain : (position : ℕ) (messages : List Unheld) → list_any is_commanding (sendings position messages) ≡ false
sendings_plain position [] = refl
sendings_plain position (m ∷ messages) = sendings_plain position messages

one_closed : (flag : Bool) (o : Outgoing) (e : End) → is_closed e.state ≡ flag → is_closed (cond flag e (record e { queued = e.queued ++ o ∷ [] })).state ≡ flag
one_closed true o e is = is
one_closed false o e is = is

-- they leave it open, or closed
pub sendings_state : (position : ℕ) (messages : List Unheld) (e : End) → is_closed (ends (sendings position messages) e).state ≡ is_closed e.state
sendings_state position [] e = refl
sendings_state position (m ∷ messages) e =
    sendings_state position messages (queued (message_of m) (Some position) e) ∙ one_closed (is_closed e.state) (say position m) e refl

-- those that go out
abbrev pub said_unless : Bool → ℕ → List Unheld → List Outgoing
said_unless closed position messages = cond closed [] (map (say position) messages)

said_by_flag : (flag : Bool) (position : ℕ) (m : Unheld) (messages : List Unheld) → cond flag [] (say position m ∷ []) ++ said_unless flag position messages ≡ said_unless flag position (m ∷ messages)
said_by_flag true position m messages = refl
said_by_flag false position m messages = refl

pub sendings_said : (position : ℕ) (messages : List Unheld) (e : End) → sent_in (sendings position messages) e ≡ said_unless (is_closed e.state) position messages
sendings_said position [] e = none (is_closed e.state)
  where
    none : (flag : Bool) → [] ≡ said_unless flag position []
    none true = refl
    none false = refl
sendings_said position (m ∷ messages) e =
    let next = queued (message_of m) (Some position) e in
    ap (λ os. sent_by (sending m (Some position)) e ++ os) (sendings_said position messages next)
    ∙ ap (λ b. cond (is_closed e.state) [] (say position m ∷ []) ++ said_unless b position messages) (one_closed (is_closed e.state) (say position m) e refl)
    ∙ said_by_flag (is_closed e.state) position m messages

-- a closed end stays as it is
pub sendings_none : (position : ℕ) (messages : List Unheld) (e : End) → is_closed e.state ≡ true → ends (sendings position messages) e ≡ e
sendings_none position [] e closed = refl
sendings_none position (m ∷ messages) e closed =
    ap (ends (sendings position messages)) (ap (λ b. cond b e (record e { queued = e.queued ++ say position m ∷ [] })) closed) ∙ sendings_none position messages e closed

-- nothing is taken
sendings_taken : (position : ℕ) (messages : List Unheld) (r : Run Unit) → (after_calls (sendings position messages) r).past.taken ≡ r.past.taken
sendings_taken position [] r = refl
sendings_taken position (m ∷ messages) r = sendings_taken position messages (after_call (sending m (Some position)) r)

pub sendings_asked : (position : ℕ) (messages : List Unheld) (past : Past) → asked (run_of (with_calls (sendings position messages) past)) ≡ asked (run_of past)
sendings_asked position messages past = ap asked (run_more (sendings position messages) past) ∙ ap (flat_map asked_by) (sendings_taken position messages (run_of past))
