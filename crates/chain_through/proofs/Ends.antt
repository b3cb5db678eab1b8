-- No end of a way closes by a fault of its other side, and the end of the stream comes down it only where the agent gave it,
-- or where a value-add lost its upper side: by recursion over the value-adds, from the bottom.
use Rattle.std.proofs.Common.{◌≡◌, ℕ, ◌+◌, ◌-◌, ◌^◌, ◌<◌, ◌≤◌, Bool, true, false, inl, inr, List, [], ◌∷◌, ◌++◌, length, map, None, refl, sym, ap, ◌∙◌, subst, arith, append-nil}
use Rattle.std.specs.Prelude.{Contains}
use Rattle.std.specs.List.{AllByRecursion, filter, flat_map, list_any}
use Rattle.std.proofs.lemmas.Bool.{or_left, or_right}
use Rattle.std.proofs.lemmas.List.Elements.{filter-append}
use Rattle.channel_core.specs.Arrivals.{Spoken, arrived, arrived_in, bytes_of, marked as marked_bytes, queue_of}
use Rattle.channel_core.specs.Closing.{is_closed}
use Rattle.channel_core.specs.Greeting.{is_greeting}
use Rattle.channel_core.specs.ReceivingLaws.{incoming_of}
use Rattle.channel_core.specs.RunLaws.{EndsAs, is_end, sent_of}
use Rattle.channel_core.specs.Wire.{end_of_stream}
use Rattle.channel_core.specs.declared.held.Outgoing.{Outgoing}
use Rattle.channel_core.specs.declared.states.Cause.{Cause}
use Rattle.channel_core.specs.declared.states.Cause.TheVariants.{Ended, Eos, Own, Protocol, Stream}
use Rattle.channel_core.specs.declared.states.EndState.{EndState}
use Rattle.channel_core.specs.declared.states.EndState.TheVariants.{Closed as IsClosed, Live, Opening, Reopening}
use Rattle.channel_core.specs.declared.states.Reason.{Reason}
use Rattle.channel_core.specs.declared.taking.Taken.{Taken}
use Rattle.channel_core.specs.declared.taking.Taken.TheVariants as taken
use Rattle.stream_escape.specs.declared.stream.StreamFault.{StreamFault}
use Rattle.target_contexts.specs.declared.process.Image.{Image}
use Rattle.target_hub.specs.History.{IsLegal}
use Rattle.target_hub.specs.declared.input.Input.{Input}
use Rattle.tcf_message.specs.Message.{MessageValue, command, event, final, flow, not_known, progress}
use Rattle.value_node.specs.Asked.{Asked}
use Rattle.value_node.specs.OwnLaws.{asked_until}
use Rattle.value_node.specs.OwnMessages.{BeginsWithHello}
use Rattle.value_node.specs.Deeds.{sent_in}
use Rattle.value_node.specs.RelayLaws.{asked_since}
use Rattle.value_node.specs.Runs.{Past, above, below, no_calls}
use Rattle.value_node.specs.Value.{value_services}
use Rattle.chain_route.specs.Carrying.{AllCarry, End, HopCarries, Made, end_above, end_below, past_after, past_of, was_lost_above}
use Rattle.chain_route.specs.declared.hop.Hop.{Hop}
use Rattle.chain_told.specs.Told.{AreToldRightly, IsOpen, IsOwed, numbered}
use Rattle.chain_through.specs.Calling.{Answering, AskNothing, Calls, IsAnswering, IsAwaited, Says, entering, given_of}
use Rattle.chain_through.specs.Endings.{AddIsSound, ComesToSoundEnds, EndsSoundly, IsSound}
use Rattle.chain_through.specs.Through.{IsMarked, IsSaidRightly}
use Rattle.channel_core.proofs.TheLaws.{ends_fairly, ends_once, queues_in_order, sends_in_order}
use Rattle.channel_laws.proofs.TheLaws.{ends_by_its_calls}
use Rattle.chain_through.proofs.Above.{below_gives, calls_on}
use Rattle.chain_through.proofs.Below.{Took, took}
use Rattle.chain_through.proofs.ClosingBelow.{AreFew, IsEndedAbove, calls_front, closed_so}
use Rattle.chain_through.proofs.Facts.{below_read, calls_above, deeds_of, facts_of}
use Rattle.chain_through.proofs.Found.{found_number}
use Rattle.chain_through.proofs.Given.{IsGiven, given_few, given_so}
use Rattle.chain_through.proofs.Lost.{ended_lost}
use Rattle.chain_told.proofs.Numbered.{length_numbered}
use Rattle.chain_through.proofs.Spelling.{said_so}
use Rattle.chain_through.proofs.Taking.{come_as}
use Rattle.chain_through.proofs.Through.{few_above, way, way_down}
use Rattle.chain_through.proofs.Ways.{calls_few}
use Rattle.list_laws.proofs.Lists.{take_most, none_last, none_before}
use Rattle.chain_route.proofs.Adds.{lower_calls as calls_below}
use Rattle.list_laws.specs.Fronts.{IsFront}
use Rattle.list_laws.proofs.Fronts.{front_flat, front_then}
use Rattle.chain_through.proofs.Sound.{answered_sound, asked_sound}

-- ---- What is told rightly answers the commands that were sent

awaited_in : (given : List Asked) (count : ℕ) (before : List Spoken) (token : List ℕ) → length given ≤ count → IsOpen (numbered 1 given) before token → IsAwaited count before token
awaited_in given count before token few o =
    let n = found_number 1 token given o.command o.sent in
    let below : n.number < 1 + length given = n.below in
    record { number = n.number; numbered = n.is; counted = n.from; sent = omega arith; unanswered = o.unanswered }

owed_answers : (given : List Asked) (count : ℕ) (before : List Spoken) (m : MessageValue) → length given ≤ count → IsOwed (numbered 1 given) before m → IsAnswering count before m
owed_answers given count before (command token service name body) few owed = owed
owed_answers given count before (final token body) few owed = awaited_in given count before token few owed
owed_answers given count before (progress token body) few owed = awaited_in given count before token few owed
owed_answers given count before (not_known token) few owed = awaited_in given count before token few owed
owed_answers given count before (event service name body) few owed = owed
owed_answers given count before (flow level) few owed = owed

told_answers : (images : List Image) (history : List Input) (commands : List Asked) (spoken told : List Spoken) → AreToldRightly images history (numbered 1 (given_of commands spoken)) told
    → Answering (length (entering spoken) - 1) told
told_answers images history commands spoken told each before rest s is =
    owed_answers (given_of commands spoken) (length (entering spoken) - 1) before s.message (take_most (length (entering spoken) - 1) commands) (each before rest s is).owed

-- and so many commands or more
answers_more : (count most : ℕ) (before : List Spoken) (m : MessageValue) → count ≤ most → IsAnswering count before m → IsAnswering most before m
answers_more count most before (command token service name body) few a = a
answers_more count most before (final token body) few a = let sent : a.number ≤ count = a.sent in record { number = a.number; numbered = a.numbered; counted = a.counted; sent = omega arith; unanswered = a.unanswered }
answers_more count most before (progress token body) few a = let sent : a.number ≤ count = a.sent in record { number = a.number; numbered = a.numbered; counted = a.counted; sent = omega arith; unanswered = a.unanswered }
answers_more count most before (not_known token) few a = let sent : a.number ≤ count = a.sent in record { number = a.number; numbered = a.numbered; counted = a.counted; sent = omega arith; unanswered = a.unanswered }
answers_more count most before (event service name body) few a = a
answers_more count most before (flow level) few a = a

pub answering_more : (count most : ℕ) (told : List Spoken) → count ≤ most → Answering count told → Answering most told
answering_more count most told few answering before rest s is = answers_more count most before s.message few (answering before rest s is)

answers_nothing : (count : ℕ) → Answering count []
answers_nothing count [] rest s is = absurd cc
answers_nothing count (x ∷ before) rest s is = absurd cc

-- ---- An end that gave the end of the stream closed by its own side, where no fault closed it

no_farewell : (queued front : List Outgoing) (spoken : List Spoken) → queued ≡ queue_of spoken true → queued ≡ front ++ [] → filter is_end front ≡ [] → ⊥
no_farewell queued front spoken queue is none =
    let nothing : filter is_end queued ≡ [] = ap (filter is_end) (is ∙ append-nil front) ∙ none in
    let parts : filter is_end (queue_of spoken true) ≡ filter is_end (map said_so spoken) ++ end_of_stream ∷ [] = filter-append is_end (map said_so spoken) (end_of_stream ∷ []) in
    none_last (filter is_end (map said_so spoken)) end_of_stream (sym parts ∙ ap (filter is_end) (sym queue) ∙ nothing)

ends_own : (state : EndState) (queued : List Outgoing) (spoken : List Spoken) → queued ≡ queue_of spoken true → is_closed state ≡ true → EndsAs state queued
    → ((number : ℕ) (reason : Reason) → state ≡ IsClosed (Protocol number reason) → ⊥) → ((fault : StreamFault) → state ≡ IsClosed (Stream fault) → ⊥) → state ≡ IsClosed Own
ends_own Opening queued spoken queue closed ends protocol stream = absurd cc
ends_own Live queued spoken queue closed ends protocol stream = absurd cc
ends_own Reopening queued spoken queue closed ends protocol stream = absurd cc
ends_own (IsClosed Own) queued spoken queue closed ends protocol stream = refl
ends_own (IsClosed Eos) queued spoken queue closed ends protocol stream = absurd (no_farewell queued ends.0 spoken queue ends.1 ends.2)
ends_own (IsClosed Ended) queued spoken queue closed ends protocol stream = absurd (no_farewell queued ends.0 spoken queue ends.1 ends.2)
ends_own (IsClosed (Protocol number reason)) queued spoken queue closed ends protocol stream = absurd (protocol number reason refl)
ends_own (IsClosed (Stream fault)) queued spoken queue closed ends protocol stream = absurd (stream fault refl)

-- ---- Where no message came no Hello was taken

no_greeting : {T : Type 0} → (entries : List (Taken T)) → flat_map incoming_of entries ≡ [] → list_any is_greeting entries ≡ false
no_greeting [] none = refl
no_greeting (taken.Hello incoming ∷ entries) none = absurd cc
no_greeting (taken.Command incoming ∷ entries) none = absurd cc
no_greeting (taken.Event incoming ∷ entries) none = absurd cc
no_greeting (taken.Progress token incoming ∷ entries) none = absurd cc
no_greeting (taken.Final tag incoming ∷ entries) none = absurd cc
no_greeting (taken.Closed cause ∷ entries) none = no_greeting entries none

-- ---- So few commands are taken

took_few : (p : Past) (commands : List Asked) (count : ℕ) → Took p commands count → length (asked_until p) + length (asked_since p) ≤ count
took_few p commands count t =
    let until : length (asked_until p) ≡ length t.until = ap length t.until_are ∙ length_numbered 1 t.until in
    let since : length (asked_since p) ≡ length t.since = ap length t.since_are ∙ length_numbered (length t.until + 1) t.since in
    let some : length t.until + length t.since ≤ count = t.few in
    omega arith

-- ---- A way, and what comes down it

-- where it has no value-adds, nothing is said before the end of the stream
record SoundWay (commands : List Asked) (lower : End) (calls : Calls commands lower.gave) (made : List Made) (agent_ended : Bool) : Type 0 where
  comes : EndsSoundly commands lower calls made agent_ended
  silent : made ≡ [] → comes.is_ended ≡ true → entering comes.down ≡ []

module _ (images : List Image) (history : List Input) (legal : IsLegal images history) where
  -- ---- The ends of a value-add

  lower_sound : (hop : Hop) (lower : End) (m : Made) (commands : List Asked) → HopCarries hop lower (end_below (past_of m)) → Calls commands lower.gave → IsSound (below (past_of m))
  lower_sound hop lower m commands carries calls =
      let all = calls_below (past_of m) in
      let queue = queue_of calls.spoken calls.is_ended in
      let gave : IsFront (bytes_of lower.gave) (bytes_of queue) = front_flat (λ o. marked_bytes o.bytes o.mark) lower.gave queue calls.front in
      let came : IsFront (arrived all) (bytes_of queue) = front_then (arrived all) (bytes_of lower.gave) (bytes_of queue) carries.up_front gave in
      asked_sound value_services None all calls.spoken calls.is_ended calls.services commands calls.formed came calls.says

  upper_sound : (m : Made) (made : List Made) (agent_ended : Bool) (g : IsGiven (sent_in (deeds_of m)) (end_above (past_of m)).gave)
      → EndsSoundly (sent_in (deeds_of m)) (end_above (past_of m)) g.calls made agent_ended → IsSound (above (past_of m))
  upper_sound m made agent_ended g rest =
      let r = above (past_of m) in
      let few = given_few r (sent_in (deeds_of m)) (queues_in_order value_services None (calls_above m)) (sends_in_order value_services None (calls_above m)) g in
      let answering = answering_more (length (entering g.calls.spoken) - 1) (length (sent_of r)) (entering rest.down) few rest.answering in
      answered_sound value_services None (calls_above m) rest.down rest.is_ended rest.formed rest.comes_down rest.begins answering

  -- ---- The commands that it takes

  few_taken : (hop : Hop) (lower : End) (m : Made) (commands : List Asked) → HopCarries hop lower (end_below (past_of m)) → Calls commands lower.gave → length commands < 2 ^ 64 → AreFew m.peer m.calls
  few_taken hop lower m commands carries calls few first rest is =
      let p = past_after m.peer first in
      let n : Made = record { peer = m.peer; calls = first } in
      let front : IsFront (calls_below p) (calls_below (past_of m)) = subst (λ cs. IsFront (calls_below p) (calls_below (past_after m.peer cs))) (sym is) (calls_front m.peer first rest) in
      let came : IsFront (arrived (calls_below p)) (arrived (calls_below (past_of m))) = front_flat arrived_in (calls_below p) (calls_below (past_of m)) front in
      let comes = front_then (arrived (calls_below p)) (arrived (calls_below (past_of m))) (bytes_of lower.gave) came carries.up_front in
      let some = took_few p commands (length (entering calls.spoken) - 1) (took lower n commands comes calls) in
      let most = calls_few commands lower calls in
      omega arith

  -- ---- The end of the stream

  own_closing : (m : Made) → AddIsSound m → (below_read m).is_ended ≡ true → (below (past_of m)).end.state ≡ IsClosed Own
  own_closing m sound is =
      let can = below_read m in
      let r = below (past_of m) in
      let once = ends_once value_services None (calls_below (past_of m)) in
      ends_own r.end.state r.past.queued can.spoken (can.queue ∙ ap (queue_of can.spoken) is) (can.closed is) once.ends
      (λ number reason closed. sound.lower.protocol number reason (inr (inl closed))) (λ fault closed. sound.lower.stream fault (inr (inl closed)))

  -- that from above goes down
  came_above : (m : Made) (made : List Made) (agent_ended : Bool) (calls : Calls (sent_in (deeds_of m)) (end_above (past_of m)).gave) (rest : SoundWay (sent_in (deeds_of m)) (end_above (past_of m)) calls made agent_ended)
      → (past_of m).is_bound ≡ true → Contains (above (past_of m)).past.taken (taken.Closed Eos) → list_any was_lost_above (m ∷ made) ≡ true
  came_above m (n ∷ made) agent_ended calls rest bound among =
      let from = rest.comes in
      let fair = ends_fairly value_services None (calls_above m) from.down from.is_ended from.formed from.comes_down Eos (inr (inr among)) in
      or_right (was_lost_above m) (list_any was_lost_above (n ∷ made)) (from.ended fair.0)
  came_above m [] agent_ended calls rest bound among =
      let r = above (past_of m) in
      let from = rest.comes in
      let fair = ends_fairly value_services None (calls_above m) from.down from.is_ended from.formed from.comes_down Eos (inr (inr among)) in
      let none : flat_map incoming_of r.past.taken ≡ [] = none_before (flat_map incoming_of r.past.taken) _ (fair.1 ∙ ap (map come_as) (rest.silent refl fair.0)) in
      let unheard = no_greeting r.past.taken none in
      let heard : list_any is_greeting r.past.taken ≡ (past_of m).is_bound = (facts_of m).heard in
      absurd cc

  goes_down : (m : Made) (made : List Made) (agent_ended : Bool) (calls : Calls (sent_in (deeds_of m)) (end_above (past_of m)).gave) → SoundWay (sent_in (deeds_of m)) (end_above (past_of m)) calls made agent_ended → AddIsSound m → IsEndedAbove (past_of m) → list_any was_lost_above (m ∷ made) ≡ true
  goes_down m made agent_ended calls rest sound e = by_cause e.cause e.among e.other
    where
      by_cause : (cause : Cause) → Contains (above (past_of m)).past.taken (taken.Closed cause) → (cause ≡ Own → ⊥) → list_any was_lost_above (m ∷ made) ≡ true
      by_cause Own among other = absurd (other refl)
      by_cause Eos among other = came_above m made agent_ended calls rest e.bound among
      by_cause Ended among other =
          or_left (was_lost_above m) (list_any was_lost_above made) (ended_lost m.calls (no_calls m.peer) refl ((ends_by_its_calls value_services None (calls_above m)).ended (inr (inr among))))
      by_cause (Protocol number reason) among other = absurd (sound.upper.protocol number reason (inr (inr among)))
      by_cause (Stream fault) among other = absurd (sound.upper.stream fault (inr (inr among)))

  -- ---- The whole way

  sound_way : (made : List Made) (lower agent : End) (hops : List Hop) (commands : List Asked) (said : List Spoken) → AllCarry lower hops made agent → (calls : Calls commands lower.gave) → length commands < 2 ^ 64
      → (says : Says said agent.gave) → AskNothing said → AllByRecursion IsMarked said → IsSaidRightly images history lower made said → BeginsWithHello said → (says.is_ended ≡ true → said ≡ [])
      → SoundWay commands lower calls made says.is_ended
  sound_way [] lower agent [] commands said carry calls few says quiet marked rightly begins ended = absurd carry
  sound_way [] lower agent (hop ∷ []) commands said carry calls few says quiet marked rightly begins ended =
      let queue = queue_of says.spoken says.is_ended in
      let gave : IsFront (bytes_of agent.gave) (bytes_of queue) = front_flat (λ o. marked_bytes o.bytes o.mark) agent.gave queue says.front in
      record {
        comes = record {
          adds = tt;
          down = says.spoken;
          is_ended = says.is_ended;
          formed = says.formed;
          comes_down = front_then lower.came (bytes_of agent.gave) (bytes_of queue) carry.down_front gave;
          begins = subst BeginsWithHello (sym says.says) begins;
          answering = subst (Answering (length (entering calls.spoken) - 1)) (sym says.says) (told_answers images history commands calls.spoken said (rightly commands few calls));
          ended = λ is. is;
        };
        silent = λ none is. says.says ∙ ended is;
      }
  sound_way [] lower agent (hop ∷ next ∷ hops) commands said carry calls few says quiet marked rightly begins ended = record {
    comes = record {
      adds = tt;
      down = [];
      is_ended = false;
      formed = tt;
      comes_down = ([], sym (append-nil lower.came ∙ carry.0.1));
      begins = tt;
      answering = answers_nothing (length (entering calls.spoken) - 1);
      ended = λ is. absurd cc;
    };
    silent = λ none is. refl;
  }
  sound_way (m ∷ made) lower agent [] commands said carry calls few says quiet marked rightly begins ended = absurd carry
  sound_way (m ∷ made) lower agent (hop ∷ hops) commands said carry calls few says quiet marked rightly begins ended =
      let p = past_of m in
      let can = below_read m in
      let queue = queue_of can.spoken can.is_ended in
      let up = calls_on m hops made agent said carry.1 says quiet in
      let given = given_so (sent_in (deeds_of m)) (end_above p).gave up.calls in
      let few_all = few_taken hop lower m commands carry.0 calls few in
      let few_up = few_above images history legal hop lower m commands carry.0 calls few in
      let rest = sound_way made (end_above p) agent hops (sent_in (deeds_of m)) said carry.1 given.calls few_up says quiet marked rightly begins ended in
      let sound : AddIsSound m = record {
        lower = lower_sound hop lower m commands carry.0 calls;
        upper = upper_sound m made says.is_ended given rest.comes;
      } in
      let through = way images history legal (m ∷ made) lower agent (hop ∷ hops) commands said carry calls few says quiet marked rightly in
      let down : through.down ≡ can.spoken = way_down images history legal m made lower agent hop hops commands said carry calls few says quiet marked rightly in
      record {
        comes = record {
          adds = (sound, rest.comes.adds);
          down = can.spoken;
          is_ended = can.is_ended;
          formed = can.well_formed;
          comes_down = front_then lower.came (bytes_of (end_below p).gave) (bytes_of queue) carry.0.down_front (front_flat (λ o. marked_bytes o.bytes o.mark) (end_below p).gave queue (below_gives m));
          begins = subst (λ spoken. BeginsWithHello (entering spoken)) down (through.greets begins);
          answering = subst (λ spoken. Answering (length (entering calls.spoken) - 1) (entering spoken)) down (told_answers images history commands calls.spoken (entering through.down) through.told);
          ended = λ is. goes_down m made says.is_ended given.calls rest sound (closed_so m.peer m.calls few_all (own_closing m sound is));
        };
        silent = λ none is. absurd cc;
      }

pub comes_to_sound_ends : ComesToSoundEnds
comes_to_sound_ends images history legal lower agent hops made commands said carry calls few says quiet marked rightly begins ended =
    (sound_way images history legal made lower agent hops commands said carry calls few says quiet marked rightly begins ended).comes
