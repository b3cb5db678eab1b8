-- What is passed on below where the lower end is open, each answer under the token of its own command.
use Rattle.std.proofs.Common.{◌≡◌, ℕ, Bool, true, false, List, [], ◌∷◌, ◌++◌, map, Option, Some, None, Result, Ok, Err, refl, ap, sym, ◌∙◌, subst}
use Rattle.std.specs.Prelude.{IfSome, decimal, if◌then◌else◌}
use Rattle.std.specs.List.{AllByRecursion, flat_map}
use Rattle.std.proofs.lemmas.List.{append-nil}
use Rattle.channel_core.specs.Beginning.{tag_of}
use Rattle.channel_core.specs.Closing.{is_closed}
use Rattle.channel_core.specs.Laws.{listed}
use Rattle.channel_core.specs.QueueLaws.{sent_in}
use Rattle.channel_core.specs.Runs.{Unheld, an_answer, an_event, an_unknown, message_of, sending, some_progress}
use Rattle.channel_core.specs.Taking.{next_taken}
use Rattle.channel_core.specs.Wire.{said}
use Rattle.channel_core.specs.declared.held.Outgoing.{Outgoing}
use Rattle.channel_core.specs.declared.taking.Taken.{Taken}
use Rattle.channel_core.specs.declared.taking.Taken.TheVariants as taken
use Rattle.tcf_message.specs.Message.{MessageValue, command, event, final, flow, not_known, progress, reading}
use Rattle.tcf_message.specs.declared.message.MessageFault.{MessageFault}
use Rattle.value_node.specs.Asked.{Asked}
use Rattle.value_node.specs.ForwardedValue.{ForwardedValue}
use Rattle.value_node.specs.Own.{redirect_done, redirect_failed}
use Rattle.value_node.specs.Passing.{Lower, Upper}
use Rattle.channel_core.specs.ReceivingLaws.{incoming_of}
use Rattle.value_node.specs.RelayLaws.{passed_by, passed_in, token_below}
use Rattle.value_node.specs.Runs.{Call, answering, before_hello_below, closing_in, ended_below, event_calls, final_calls, next_above, own_by, passing_any, passing_by, passing_from, passing_on, progress_calls, took_above_below, turns}
use Rattle.value_node.specs.Value.{takes_above}
use Rattle.value_node.specs.declared.relay.Relay.{Relay}
use Rattle.value_node.specs.declared.states.Bind.{Bind}
use Rattle.value_node.specs.declared.states.Bind.TheVariants.{Unbound, Opening, Bound, Closed}
use Rattle.value_node.specs.declared.states.Side.TheVariants.{Above}
use Rattle.value_node.proofs.Steps.{ran}
use Rattle.value_node.proofs.Taken.{Gives, GivesAny, IsAnswerTo, IsCommand, IsProgressOf, IsTold, next_gives, told_of}
use Rattle.value_node.proofs.TakenAbove.{entries_from}
use Rattle.value_node.proofs.TokensBelow.{IsIssued, tagged_at}
use Rattle.list_laws.proofs.AllLists.{all_right}

-- what is passed on of these, where these commands were sent above before
abbrev pub passed_on : List Asked → List (Taken ForwardedValue) → List Outgoing
passed_on commands entries = flat_map (passed_by commands) (flat_map incoming_of entries)

pub sent_open : (message : Unheld) (mark : Option ℕ) (e : Lower) → is_closed e.state ≡ false → sent_in (sending message mark ∷ []) e ≡ said (message_of message) mark ∷ []
sent_open message mark e is_open = ap (λ b. (if b then [] else said (message_of message) mark ∷ []) ++ []) is_open

closing_sends : (bind : Bind) (e : Lower) → sent_in (closing_in bind) e ≡ []
closing_sends Unbound e = refl
closing_sends Opening e = refl
closing_sends Bound e = refl
closing_sends Closed e = refl

module _ (commands : List Asked) (lower : Lower) (is_open : is_closed lower.state ≡ false) where
  abbrev spoken : Option ℕ → Result MessageValue MessageFault → List Outgoing
  spoken mark m = map (λ x. said x mark) (passed_in commands m)

  event_sends : (mark : Option ℕ) (m : Result MessageValue MessageFault) → IsTold m → sent_in (event_calls mark m) lower ≡ spoken mark m
  event_sends mark (Ok (event service name body)) told = sent_open (an_event service name body) mark lower is_open
  event_sends mark (Ok (flow level)) told = refl
  event_sends mark (Err fault) told = refl
  event_sends mark m told = absurd told

  command_sends : (mark : Option ℕ) (m : Result MessageValue MessageFault) → IsCommand m → [] ≡ spoken mark m
  command_sends mark (Ok (command token service name body)) is = refl
  command_sends mark m is = absurd is

  progress_sends : (forwarded : Option ForwardedValue) (f : ForwardedValue) (number : ℕ) (mark : Option ℕ) (m : Result MessageValue MessageFault) → forwarded ≡ Some f → IsProgressOf number m
      → token_below 1 (decimal number) commands ≡ f.token → sent_in (progress_calls forwarded mark m) lower ≡ spoken mark m
  progress_sends forwarded f number mark (Ok (progress token body)) same is found =
      ap (λ o. sent_in (progress_calls o mark (Ok (progress token body))) lower) same ∙ sent_open (some_progress f.token body) mark lower is_open
      ∙ ap (λ t. said (progress t body) mark ∷ []) (sym found ∙ ap (λ t. token_below 1 t commands) (sym is))
  progress_sends forwarded f number mark m same is found = absurd is

  final_sends : (f : ForwardedValue) (number : ℕ) (mark : Option ℕ) (m : Result MessageValue MessageFault) → IsAnswerTo number m
      → token_below 1 (decimal number) commands ≡ f.token → sent_in (final_calls f mark m) lower ≡ spoken mark m
  final_sends f number mark (Ok (final token body)) is found =
      sent_open (an_answer f.token body) mark lower is_open ∙ ap (λ t. said (final t body) mark ∷ []) (sym found ∙ ap (λ t. token_below 1 t commands) (sym is))
  final_sends f number mark (Ok (not_known token)) is found =
      sent_open (an_unknown f.token) mark lower is_open ∙ ap (λ t. said (not_known t) mark ∷ []) (sym found ∙ ap (λ t. token_below 1 t commands) (sym is))
  final_sends f number mark m is found = absurd is

  passing_sends : (count : ℕ) (rows : List (ℕ × ForwardedValue)) (what : Taken ForwardedValue) (e : Upper) (bind : Bind) → AllByRecursion (IsIssued 1 count commands) rows → Gives rows what e
      → sent_in (passing_on what e bind) lower ≡ passed_on commands (what ∷ [])
  passing_sends count rows (taken.Hello incoming) e bind all given =
      event_sends incoming.mark (reading incoming.raw) (told_of (reading incoming.raw) given) ∙ sym (append-nil (spoken incoming.mark (reading incoming.raw)))
  passing_sends count rows (taken.Command incoming) e bind all given =
      command_sends incoming.mark (reading incoming.raw) given ∙ sym (append-nil (spoken incoming.mark (reading incoming.raw)))
  passing_sends count rows (taken.Event incoming) e bind all given =
      event_sends incoming.mark (reading incoming.raw) given ∙ sym (append-nil (spoken incoming.mark (reading incoming.raw)))
  passing_sends count rows (taken.Progress number incoming) e bind all given =
      let there = given.there in
      let t = tagged_at (IsIssued 1 count commands) there.front there.back number given.tag (subst (AllByRecursion (IsIssued 1 count commands)) there.whole all) in
      progress_sends (tag_of number e.pending) t.row.1 number incoming.mark (reading incoming.raw) (ap (tag_of number) (given.kept ∙ there.whole) ∙ t.tag_is) given.message
      (ap (λ n. token_below 1 (decimal n) commands) (sym t.same) ∙ t.holds.found) ∙ sym (append-nil (spoken incoming.mark (reading incoming.raw)))
  passing_sends count rows (taken.Final forwarded incoming) e bind all given =
      let there = given.there in
      let mine = all_right (IsIssued 1 count commands) there.front ((given.number, forwarded) ∷ there.back) (subst (AllByRecursion (IsIssued 1 count commands)) there.whole all) in
      final_sends forwarded given.number incoming.mark (reading incoming.raw) given.message mine.0.found ∙ sym (append-nil (spoken incoming.mark (reading incoming.raw)))
  passing_sends count rows (taken.Closed cause) e bind all given = closing_sends bind lower

  any_sends : (count : ℕ) (rows : List (ℕ × ForwardedValue)) (next : Option (Taken ForwardedValue) × Upper) (bind : Bind) → AllByRecursion (IsIssued 1 count commands) rows → GivesAny rows next
      → sent_in (passing_any next bind) lower ≡ passed_on commands (listed next.0)
  any_sends count rows (None, e) bind all given = refl
  any_sends count rows (Some what, e) bind all given = passing_sends count rows what e bind all given

-- ---- what a call does itself leaves an open lower end open

answering_open : (redirect : Option (List ℕ)) (body : List ℕ) (e : Lower) → is_closed e.state ≡ false → is_closed (ran (answering redirect body) e).state ≡ false
answering_open None body e is_open = is_open
answering_open (Some token) body e is_open = by_flag (is_closed e.state)
  where
    by_flag : (flag : Bool) → is_closed (if flag then e else record e { queued = e.queued ++ said (final token body) None ∷ [] }).state ≡ false
    by_flag true = is_open
    by_flag false = is_open

hello_open : (bind : Bind) (v : Relay) (e : Lower) → is_closed e.state ≡ false → is_closed (ran (before_hello_below bind v) e).state ≡ false
hello_open Opening v e is_open = answering_open v.redirect redirect_done e is_open
hello_open bind v e is_open = is_open

ended_open : (bind : Bind) (v : Relay) (e : Lower) → is_closed e.state ≡ false → is_closed (ran (ended_below bind v) e).state ≡ false
ended_open Opening v e is_open = answering_open v.redirect redirect_failed e is_open
ended_open bind v e is_open = is_open

above_open : (what : Option (Taken ForwardedValue)) (v : Relay) (e : Lower) → is_closed e.state ≡ false → is_closed (ran (took_above_below what v) e).state ≡ false
above_open (Some (taken.Hello incoming)) v e is_open = hello_open v.bind v e is_open
above_open (Some (taken.Closed cause)) v e is_open = ended_open v.bind v e is_open
above_open what v e is_open = is_open

-- ---- what a call passes on

turn_sends : (flag : Bool) (v : Relay) (upper : Option Upper) (commands : List Asked) (count : ℕ) → (flag ≡ true → is_closed v.lower.state ≡ false)
    → IfSome upper (λ e. AllByRecursion (IsIssued 1 count commands) e.pending)
    → sent_in (if flag then passing_from upper v.bind else []) (ran (if flag then took_above_below (next_above upper) v else []) v.lower)
    ≡ passed_on commands (if flag then listed (next_above upper) else [])
turn_sends true v None commands count is_open rows = refl
turn_sends true v (Some e) commands count is_open rows =
    any_sends commands (ran (took_above_below (next_taken e).0 v) v.lower) (above_open (next_taken e).0 v v.lower (is_open refl)) count e.pending (next_taken e) v.bind rows (next_gives e)
turn_sends false v upper commands count is_open rows = refl

pub pass_sends : (call : Call) (v : Relay) (commands : List Asked) (count : ℕ) → (takes_above v.bind ≡ true → is_closed v.lower.state ≡ false)
    → IfSome v.upper (λ e. AllByRecursion (IsIssued 1 count commands) e.pending)
    → sent_in (passing_by call v) (ran (own_by call v) v.lower) ≡ passed_on commands (entries_from call v v.upper)
pass_sends (turns Above) v commands count is_open rows = turn_sends (takes_above v.bind) v v.upper commands count is_open rows
pass_sends call v commands count is_open rows = refl
