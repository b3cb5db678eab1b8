-- What an end takes by more calls; what a hub passes on takes nothing.
use Rattle.std.proofs.Common.{◌≡◌, ℕ, ◌==◌, Bool, true, false, cond, ◌||◌, List, [], ◌∷◌, ◌++◌, Option, Some, None, refl, sym, ap, ◌∙◌, append-nil, append_assoc}
use Rattle.std.specs.Prelude.{Result, Ok, Err}
use Rattle.std.specs.List.{list_any}
use Rattle.channel_core.specs.Closing.{is_closed}
use Rattle.channel_core.specs.EndValue.{EndValue}
use Rattle.channel_core.specs.Laws.{listed}
use Rattle.channel_core.specs.Runs.{Call as EndCall, Run, Unheld, after_call, after_calls, called, closing, commanding, delivering, an_answer, an_event, an_unknown, draining, ending, putting_out, sending, some_progress, taking, unless_refused}
use Rattle.channel_core.specs.Sending.{refusal_to}
use Rattle.channel_core.specs.Taking.{next_taken}
use Rattle.channel_core.specs.Wire.{is_redirect}
use Rattle.channel_core.specs.declared.sending.SendRefusal.{SendRefusal}
use Rattle.channel_core.specs.declared.taking.Taken.{Taken}
use Rattle.channel_core.specs.declared.taking.Taken.TheVariants as taken
use Rattle.channel_list.specs.Channels.{End}
use Rattle.tcf_message.specs.Message.{MessageValue, command, event, final, flow, not_known, progress, reading}
use Rattle.tcf_message.specs.declared.message.MessageFault.{MessageFault}
use Rattle.hub_node.specs.Board.{found}
use Rattle.hub_node.specs.Redirects.{redirect_reply}
use Rattle.hub_node.specs.Relay.{found_by}
use Rattle.hub_node.specs.RelayValue.{RelayValue}
use Rattle.hub_node.specs.Runs.{answering, asked_calls, delivering_to, going_on, hearing, only_if, took_for, took_of}
use Rattle.hub_node.specs.WaitingValue.{WaitingValue}
use Rattle.hub_node.specs.declared.waiting.Tag.{Tag}
use Rattle.hub_node.proofs.EndRuns.{ends, run_more}
use Rattle.channel_core.specs.Beginning.{tag_of}

module _ {T : Type 0} where
  abbrev pub taken_by : EndCall T → EndValue T → List (Taken T)
  taken_by taking e = listed (next_taken e).0
  taken_by (commanding service name body tag mark) e = []
  taken_by (delivering piece mark) e = []
  taken_by ending e = []
  taken_by (sending message mark) e = []
  taken_by putting_out e = []
  taken_by closing e = []
  taken_by draining e = []

  abbrev pub taken_in : List (EndCall T) → EndValue T → List (Taken T)
  taken_in [] e = []
  taken_in (call ∷ calls) e = taken_by call e ++ taken_in calls (called call e)

  by_call : (call : EndCall T) (r : Run T) → (after_call call r).past.taken ≡ r.past.taken ++ taken_by call r.end
  by_call taking r = refl
  by_call (commanding service name body tag mark) r = sym (append-nil r.past.taken)
  by_call (delivering piece mark) r = sym (append-nil r.past.taken)
  by_call ending r = sym (append-nil r.past.taken)
  by_call (sending message mark) r = sym (append-nil r.past.taken)
  by_call putting_out r = sym (append-nil r.past.taken)
  by_call closing r = sym (append-nil r.past.taken)
  by_call draining r = sym (append-nil r.past.taken)

  taken_after : (calls : List (EndCall T)) (r : Run T) → (after_calls calls r).past.taken ≡ r.past.taken ++ taken_in calls r.end
  taken_after [] r = sym (append-nil r.past.taken)
  taken_after (call ∷ calls) r =
      taken_after calls (after_call call r) ∙ ap (λ xs. xs ++ taken_in calls (called call r.end)) (by_call call r)
      ∙ append_assoc r.past.taken (taken_by call r.end) (taken_in calls (called call r.end))

  pub taken_more : (calls more : List (EndCall T)) (r : Run T) → (after_calls (calls ++ more) r).past.taken ≡ (after_calls calls r).past.taken ++ taken_in more (after_calls calls r).end
  taken_more calls more r = ap (λ (x : Run T). x.past.taken) (run_more calls more r) ∙ taken_after more (after_calls calls r)

  pub taken_append : (calls more : List (EndCall T)) (e : EndValue T) → taken_in (calls ++ more) e ≡ taken_in calls e ++ taken_in more (ends calls e)
  taken_append [] more e = refl
  taken_append (call ∷ calls) more e =
      ap (λ xs. taken_by call e ++ xs) (taken_append calls more (called call e)) ∙ sym (append_assoc (taken_by call e) (taken_in calls (called call e)) (taken_in more (ends calls (called call e))))

  abbrev pub is_taking : EndCall T → Bool
  is_taking taking = true
  is_taking (commanding service name body tag mark) = false
  is_taking (delivering piece mark) = false
  is_taking ending = false
  is_taking (sending message mark) = false
  is_taking putting_out = false
  is_taking closing = false
  is_taking draining = false

  -- where none of them takes, nothing is taken
  pub untaken : (calls : List (EndCall T)) (e : EndValue T) → list_any is_taking calls ≡ false → taken_in calls e ≡ []
  untaken [] e none = refl
  untaken (taking ∷ calls) e none = absurd (let both : true ≡ false = none in cc)
  untaken (commanding service name body tag mark ∷ calls) e none = untaken calls (called (commanding service name body tag mark) e) none
  untaken (delivering piece mark ∷ calls) e none = untaken calls (called (delivering piece mark) e) none
  untaken (ending ∷ calls) e none = untaken calls (called ending e) none
  untaken (sending message mark ∷ calls) e none = untaken calls (called (sending message mark) e) none
  untaken (putting_out ∷ calls) e none = untaken calls (called putting_out e) none
  untaken (closing ∷ calls) e none = untaken calls (called closing e) none
  untaken (draining ∷ calls) e none = untaken calls (called draining e) none

-- ---- what is passed on, by a test that no such call passes

module _ (test : EndCall Unit → Bool) (sends : (message : Unheld) (mark : Option ℕ) → test (sending message mark) ≡ false) (delivers : (piece : List ℕ) (mark : Option ℕ) → test (delivering piece mark) ≡ false)
    (ends_none : test ending ≡ false) (puts_none : test putting_out ≡ false) (shuts : test closing ≡ false) where
  one_untaken : (flag : Bool) (call : EndCall Unit) → test call ≡ false → list_any test (only_if flag (call ∷ [])) ≡ false
  one_untaken true call none = ap (λ b. b || false) none
  one_untaken false call none = refl

  pub delivering_untaken : (flag : Bool) (e : End) (piece : List ℕ) (mark : Option ℕ) → list_any test (only_if flag (delivering_to e piece mark)) ≡ false
  delivering_untaken true e piece mark = by_flag (is_closed e.state)
    where
      by_flag : (over : Bool) → list_any test (cond over [] (delivering piece mark ∷ [])) ≡ false
      by_flag true = refl
      by_flag false = ap (λ b. b || false) (delivers piece mark)
  delivering_untaken false e piece mark = refl

  pub ending_untaken : (flag : Bool) → list_any test (only_if flag (ending ∷ [])) ≡ false
  ending_untaken true = ap (λ b. b || false) ends_none
  ending_untaken false = refl

  pub putting_untaken : (flag : Bool) → list_any test (only_if flag (putting_out ∷ [])) ≡ false
  putting_untaken true = ap (λ b. b || false) puts_none
  putting_untaken false = refl

  hearing_untaken : (mark : Option ℕ) (m : Result MessageValue MessageFault) → list_any test (hearing mark m) ≡ false
  hearing_untaken mark (Ok (event service name body)) = ap (λ b. b || false) (sends (an_event service name body) mark)
  hearing_untaken mark (Ok (command token service name body)) = refl
  hearing_untaken mark (Ok (final token body)) = refl
  hearing_untaken mark (Ok (progress token body)) = refl
  hearing_untaken mark (Ok (not_known token)) = refl
  hearing_untaken mark (Ok (flow level)) = refl
  hearing_untaken mark (Err fault) = refl

  going_untaken : (j : ℕ) (w : Option WaitingValue) (mark : Option ℕ) (m : Result MessageValue MessageFault) → list_any test (going_on j w mark m) ≡ false
  going_untaken j (Some w) mark (Ok (progress token body)) = one_untaken (w.channel == j) _ (sends (some_progress w.token body) mark)
  going_untaken j (Some w) mark (Ok (command token service name body)) = refl
  going_untaken j (Some w) mark (Ok (final token body)) = refl
  going_untaken j (Some w) mark (Ok (event service name body)) = refl
  going_untaken j (Some w) mark (Ok (not_known token)) = refl
  going_untaken j (Some w) mark (Ok (flow level)) = refl
  going_untaken j (Some w) mark (Err fault) = refl
  going_untaken j None mark m = refl

  answering_untaken : (j : ℕ) (w : Option WaitingValue) (mark : Option ℕ) (m : Result MessageValue MessageFault) → list_any test (answering j w mark m) ≡ false
  answering_untaken j (Some w) mark (Ok (final token body)) = one_untaken (w.channel == j) _ (sends (an_answer w.token body) mark)
  answering_untaken j (Some w) mark (Ok (not_known token)) = one_untaken (w.channel == j) _ (sends (an_unknown w.token) mark)
  answering_untaken j (Some w) mark (Ok (command token service name body)) = refl
  answering_untaken j (Some w) mark (Ok (progress token body)) = refl
  answering_untaken j (Some w) mark (Ok (event service name body)) = refl
  answering_untaken j (Some w) mark (Ok (flow level)) = refl
  answering_untaken j (Some w) mark (Err fault) = refl
  answering_untaken j None mark m = refl

  pub above_untaken : (j : ℕ) (what : Option (Taken Tag)) (r : RelayValue) → list_any test (took_for j what r) ≡ false
  above_untaken j None r = refl
  above_untaken j (Some (taken.Hello incoming)) r = by_flag r.is_bound
    where
      by_flag : (bound : Bool) → list_any test (cond bound (hearing incoming.mark (reading incoming.raw)) []) ≡ false
      by_flag true = hearing_untaken incoming.mark (reading incoming.raw)
      by_flag false = refl
  above_untaken j (Some (taken.Command incoming)) r = refl
  above_untaken j (Some (taken.Event incoming)) r = hearing_untaken incoming.mark (reading incoming.raw)
  above_untaken j (Some (taken.Progress token incoming)) r = going_untaken j (found_by (tag_of token r.upper.pending) r) incoming.mark (reading incoming.raw)
  above_untaken j (Some (taken.Final tag incoming)) r = answering_untaken j (found tag r.board) incoming.mark (reading incoming.raw)
  above_untaken j (Some (taken.Closed cause)) r = ap (λ b. b || false) shuts

  asked_untaken : (own : Bool) (m : Result MessageValue MessageFault) (upper : EndValue Tag) → list_any test (asked_calls own m upper) ≡ false
  asked_untaken own (Ok (command token service name body)) upper = by_flag (is_redirect service name)
    where
      by_why : (o : Option SendRefusal) → list_any test (unless_refused {A = List (EndCall Unit)} o (closing ∷ []) []) ≡ false
      by_why None = refl
      by_why (Some why) = ap (λ b. b || false) shuts

      by_flag : (redirects : Bool) → list_any test (cond redirects (only_if own (sending (an_answer token (redirect_reply service name body)) None ∷ [])) (unless_refused (refusal_to service name body upper) (closing ∷ []) [])) ≡ false
      by_flag true = one_untaken own _ (sends (an_answer token (redirect_reply service name body)) None)
      by_flag false = by_why (refusal_to service name body upper)
  asked_untaken own (Ok (final token body)) upper = refl
  asked_untaken own (Ok (progress token body)) upper = refl
  asked_untaken own (Ok (event service name body)) upper = refl
  asked_untaken own (Ok (not_known token)) upper = refl
  asked_untaken own (Ok (flow level)) upper = refl
  asked_untaken own (Err fault) upper = refl

  pub below_untaken : (own : Bool) (what : Option (Taken Unit)) (upper : EndValue Tag) → list_any test (took_of own what upper) ≡ false
  below_untaken own None upper = refl
  below_untaken own (Some (taken.Hello incoming)) upper = refl
  below_untaken own (Some (taken.Command incoming)) upper = asked_untaken own (reading incoming.raw) upper
  below_untaken own (Some (taken.Event incoming)) upper = refl
  below_untaken own (Some (taken.Progress token incoming)) upper = refl
  below_untaken own (Some (taken.Final tag incoming)) upper = refl
  below_untaken own (Some (taken.Closed cause)) upper = refl
