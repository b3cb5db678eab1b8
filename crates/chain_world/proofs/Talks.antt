-- What goes on between a way and the agent's channels: while only idle calls are added to a channel, nothing changes.
use Rattle.std.proofs.Common.{◌≡◌, ℕ, Bool, true, false, not, ◌||◌, List, [], ◌∷◌, ◌++◌, Option, Some, None, refl, sym, ap, ◌∙◌, subst, append-nil, ◌⊎◌, inl, inr, cond}
use Rattle.std.specs.Prelude.{is_some, option_map}
use Rattle.std.specs.List.{AllByRecursion, Contains, list_any}
use Rattle.channel_core.specs.Arrivals.{Marked, arrived}
use Rattle.channel_core.specs.Closing.{is_closed}
use Rattle.channel_core.specs.Receiving.{is_over, with_last}
use Rattle.channel_core.specs.Runs.{Call as EndCall, Run, after_call, after_calls, delivering, ending, putting_out}
use Rattle.channel_core.specs.Wire.{end_of_stream}
use Rattle.channel_core.specs.declared.held.Outgoing.{Outgoing}
use Rattle.channel_core.specs.declared.states.Cause.TheVariants.{Ended}
use Rattle.channel_laws.specs.Faults.{is_ending}
use Rattle.agent_node.specs.Runs.{Past, run_of, with_calls}
use Rattle.chain_route.specs.Runs.{Past as WayPast, Talk, gets, gives}
use Rattle.target_hub.specs.Sent.{agent_services}
use Rattle.chain_world.specs.Standing.{Loses, Talked, came_to, given_to, is_taking, past_at, unmarked}
use Rattle.channel_core.proofs.TheLaws.{stays_closed}
use Rattle.chain_world.proofs.Agents.{delivering_all, delivering_arrived, run_more}
use Rattle.chain_world.proofs.Bytes.{unmarked_more}
use Rattle.chain_world.proofs.Calls.{all_put, endings_more, idle_endless, putting, putting_arrived, putting_endless}
use Rattle.chain_world.proofs.Numbers.{later}
use Rattle.chain_world.proofs.Pasts.{Grows, Keeps}
use Rattle.list_laws.specs.Fronts.{IsFront}
use Rattle.list_laws.proofs.Fronts.{front_more, front_same}
use Rattle.chain_route.proofs.EndCalls.{AreIdle, arrived_more, idle_arrived, idle_given}
use Rattle.list_laws.proofs.Flags.{or_false as or_none, or_true as or_yes}
use Rattle.list_laws.proofs.Contained.{contains_first as here}

-- ---- What is said of a channel, also while the agent has something queued for it

pub record Talking (past : Option Past) (talk : Talk) : Type 0 where
  pub refused : talk.is_refused ≡ not (is_some past)
  pub gave : talk.gave ≡ given_to past
  pub lost : Loses past talk
  pub came : is_taking past ≡ true → unmarked talk.got ≡ came_to past
  pub front : IsFront (came_to past) (unmarked talk.got)

abbrev pub TalkingOn : Option ℕ → WayPast → List Past → Type 0
TalkingOn None p pasts = ((p.is_reached ≡ false) × (p.agent.gave ≡ [])) ⊎ ((p.agent.is_refused ≡ true) × (p.agent.gave ≡ end_of_stream ∷ []))
TalkingOn (Some k) p pasts = (p.is_reached ≡ true) × Talking (past_at k pasts) p.agent

-- ---- Idle calls are added

refused_more : (calls : List (EndCall Unit)) (before : Option Past) (talk : Talk) → talk.is_refused ≡ not (is_some before) → talk.is_refused ≡ not (is_some (option_map (with_calls calls) before))
refused_more calls None talk is = is
refused_more calls (Some past) talk is = is

given_idle : (calls : List (EndCall Unit)) → AreIdle calls → (before : Option Past) → given_to (option_map (with_calls calls) before) ≡ given_to before
given_idle calls idle None = refl
given_idle calls idle (Some past) = ap (λ r. r.past.given) (run_more calls past) ∙ idle_given calls (run_of past) idle

came_more : (calls : List (EndCall Unit)) → arrived calls ≡ [] → (before : Option Past) → came_to (option_map (with_calls calls) before) ≡ came_to before
came_more calls none None = refl
came_more calls none (Some past) = arrived_more past.calls calls ∙ ap (λ bs. arrived past.calls ++ bs) none ∙ append-nil (arrived past.calls)

-- the bytes of a channel haven't ended by these calls
lost_more : (calls : List (EndCall Unit)) (before : Option Past) (talk later : Talk) → list_any is_ending calls ≡ false → later.is_lost ≡ talk.is_lost → Loses before talk → Loses (option_map (with_calls calls) before) later
lost_more calls None talk later none same lost = tt
lost_more calls (Some past) talk later none same lost =
    same ∙ lost ∙ sym (endings_more past.calls calls ∙ ap (λ b. list_any is_ending past.calls || b) none ∙ or_none (list_any is_ending past.calls))

open_before : (calls : List (EndCall Unit)) (past : Past) → is_taking (Some (with_calls calls past)) ≡ true → is_taking (Some past) ≡ true
open_before calls past takes = by_flag (is_closed (run_of past).end.state) refl
  where
    by_flag : (flag : Bool) → is_closed (run_of past).end.state ≡ flag → not flag ≡ true
    by_flag true is =
        let same = (stays_closed agent_services (Some past.position) past.calls calls is).state in
        let closed : is_closed (run_of (with_calls calls past)).end.state ≡ true = ap (λ r. is_closed r.end.state) (run_more calls past) ∙ ap is_closed same ∙ is in
        sym (ap not closed) ∙ takes
    by_flag false is = refl

taking_before : (calls : List (EndCall Unit)) (before : Option Past) → is_taking (option_map (with_calls calls) before) ≡ true → is_taking before ≡ true
taking_before calls None takes = takes
taking_before calls (Some past) takes = open_before calls past takes

pub came_grown : (before after : Option Past) → Grows before after → came_to after ≡ came_to before
came_grown before after grows = ap came_to grows.2 ∙ came_more grows.0 (idle_arrived grows.0 grows.1) before

pub talks_grown : (before after : Option Past) (talk : Talk) → Grows before after → Talking before talk → Talking after talk
talks_grown before after talk grows t =
    subst (λ past. Talking past talk) (sym grows.2)
    (record {
      refused = refused_more grows.0 before talk t.refused;
      gave = t.gave ∙ sym (given_idle grows.0 grows.1 before);
      lost = lost_more grows.0 before talk talk (idle_endless grows.0 grows.1) refl t.lost;
      came = λ takes. t.came (taking_before grows.0 before takes) ∙ sym (came_more grows.0 (idle_arrived grows.0 grows.1) before);
      front = subst (λ bs. IsFront bs (unmarked talk.got)) (sym (came_more grows.0 (idle_arrived grows.0 grows.1) before)) t.front;
    })

-- ---- All that its end queued is given out

pub came_put : (queue : List Outgoing) (before : Option Past) → came_to (option_map (with_calls (putting queue)) before) ≡ came_to before
came_put queue before = came_more (putting queue) (putting_arrived Unit queue) before

-- what is queued: nothing where there is no end
abbrev pub HasQueued : Option Past → List Outgoing → Type 0
HasQueued None queue = queue ≡ []
HasQueued (Some past) queue = (run_of past).end.queued ≡ queue

putting_state : (queue : List Outgoing) (r : Run Unit) → (after_calls (putting queue) r).end.state ≡ r.end.state
putting_state [] r = refl
putting_state (o ∷ queue) r = putting_state queue (after_call putting_out r)

put_taking : (queue : List Outgoing) (before : Option Past) → is_taking (option_map (with_calls (putting queue)) before) ≡ is_taking before
put_taking queue None = refl
put_taking queue (Some past) =
    ap (λ r. not (is_closed r.end.state)) (run_more (putting queue) past) ∙ ap (λ s. not (is_closed s)) (putting_state queue (run_of past))

put_given : (queue : List Outgoing) (before : Option Past) → HasQueued before queue → given_to (option_map (with_calls (putting queue)) before) ≡ given_to before ++ queue
put_given queue None is = sym (append-nil (given_to None)) ∙ ap (λ q. given_to None ++ q) (sym is)
put_given queue (Some past) is = ap (λ r. r.past.given) (run_more (putting queue) past) ∙ all_put queue (run_of past) is

pub talks_put : (queue : List Outgoing) (before : Option Past) (talk : Talk) → HasQueued before queue → Talking before talk → Talking (option_map (with_calls (putting queue)) before) (gives queue talk)
talks_put queue before talk is t = record {
  refused = refused_more (putting queue) before talk t.refused;
  gave = ap (λ outs. outs ++ queue) t.gave ∙ sym (put_given queue before is);
  lost = lost_more (putting queue) before talk (gives queue talk) (putting_endless Unit queue) refl t.lost;
  came = λ takes. t.came (sym (put_taking queue before) ∙ takes) ∙ sym (came_put queue before);
  front = subst (λ bs. IsFront bs (unmarked talk.got)) (sym (came_put queue before)) t.front;
}

-- ---- Parts of messages come to its end

front_got : (came : List Marked) (talk : Talk) (parts : List Outgoing) → IsFront came (unmarked talk.got) → IsFront came (unmarked (talk.got ++ parts))
front_got came talk parts front =
    front_same came (unmarked talk.got ++ unmarked parts) (unmarked (talk.got ++ parts)) (sym (unmarked_more talk.got parts)) (front_more came (unmarked talk.got) (unmarked parts) front)

lost_same : (past : Option Past) (talk later : Talk) → later.is_lost ≡ talk.is_lost → Loses past talk → Loses past later
lost_same None talk later same lost = tt
lost_same (Some past) talk later same lost = same ∙ lost

-- a closed end, or none, takes nothing
pub talks_dropped : (parts : List Outgoing) (past : Option Past) (talk : Talk) → is_taking past ≡ false → Talking past talk → Talking past (gets parts talk)
talks_dropped parts past talk shut t = record {
  refused = t.refused;
  gave = t.gave;
  lost = lost_same past talk (gets parts talk) refl t.lost;
  came = λ takes. absurd cc;
  front = front_got (came_to past) talk parts t.front;
}

delivered_gave : (parts : List Outgoing) (r : Run Unit) → (after_calls (delivering_all parts) r).past.given ≡ r.past.given
delivered_gave [] r = refl
delivered_gave (part ∷ parts) r = delivered_gave parts (after_call (delivering part.bytes None) r)

delivered_endless : (parts : List Outgoing) → list_any is_ending (delivering_all parts) ≡ false
delivered_endless [] = refl
delivered_endless (part ∷ parts) = delivered_endless parts

pub talks_taken : (parts : List Outgoing) (past : Past) (talk : Talk) → is_closed (run_of past).end.state ≡ false → Talking (Some past) talk → Talking (Some (with_calls (delivering_all parts) past)) (gets parts talk)
talks_taken parts past talk takes t =
    let before : unmarked talk.got ≡ arrived past.calls = t.came (ap not takes) in
    let all : unmarked (talk.got ++ parts) ≡ arrived (past.calls ++ delivering_all parts) =
    unmarked_more talk.got parts ∙ ap (λ bs. bs ++ unmarked parts) before ∙ ap (λ bs. arrived past.calls ++ bs) (sym (delivering_arrived parts))
    ∙ sym (arrived_more past.calls (delivering_all parts)) in
    record {
      refused = t.refused;
      gave = t.gave ∙ sym (ap (λ r. r.past.given) (run_more (delivering_all parts) past) ∙ delivered_gave parts (run_of past));
      lost = lost_more (delivering_all parts) (Some past) talk (gets parts talk) (delivered_endless parts) refl t.lost;
      came = λ _. all;
      front = ([], all ∙ sym (append-nil (arrived (past.calls ++ delivering_all parts))));
    }

-- ---- Its bytes end

cut_state : (r : Run Unit) → is_closed (after_call ending r).end.state ≡ is_closed r.end.state
cut_state r = by_flag (is_over r.end)
  where
    by_flag : (flag : Bool) → is_closed (cond flag r.end (with_last Ended r.end)).state ≡ is_closed r.end.state
    by_flag true = refl
    by_flag false = refl

pub came_cut : (before : Option Past) → came_to (option_map (with_calls (ending ∷ [])) before) ≡ came_to before
came_cut before = came_more (ending ∷ []) refl before

pub talks_cut : (before : Option Past) (talk : Talk) → Talking before talk → Talking (option_map (with_calls (ending ∷ [])) before) (record talk { is_lost = true })
talks_cut None talk t = record { refused = t.refused; gave = t.gave; lost = tt; came = t.came; front = t.front }
talks_cut (Some past) talk t = record {
  refused = t.refused;
  gave = t.gave ∙ sym (ap (λ r. r.past.given) (run_more (ending ∷ []) past));
  lost = sym (endings_more past.calls (ending ∷ []) ∙ or_yes (list_any is_ending past.calls));
  came = λ takes. t.came (sym (ap (λ r. not (is_closed r.end.state)) (run_more (ending ∷ []) past) ∙ ap not (cut_state (run_of past))) ∙ takes) ∙ sym (came_cut (Some past));
  front = subst (λ bs. IsFront bs (unmarked talk.got)) (sym (came_cut (Some past))) t.front;
}

-- ---- The channels of a chain

-- what is said of the agent's hop is the same
pub record IsSameAbove (p q : WayPast) : Type 0 where
  pub reached : q.is_reached ≡ p.is_reached
  pub agent : q.agent ≡ p.agent
  pub earlier : q.earlier ≡ p.earlier

pub same_above : (p : WayPast) → IsSameAbove p p
same_above p = record { reached = refl; agent = refl; earlier = refl }

-- to no channel nothing was given, or the end of the stream
pub none_same : (p q : WayPast) → q.is_reached ≡ p.is_reached → q.agent.gave ≡ p.agent.gave → q.agent.is_refused ≡ p.agent.is_refused → TalkingOn None p [] → TalkingOn None q []
none_same p q reached gave shut (inl none) = inl (reached ∙ none.0, gave ∙ none.1)
none_same p q reached gave shut (inr refused) = inr (shut ∙ refused.0, gave ∙ refused.1)

pub talks_same : (channel : Option ℕ) (p q : WayPast) (pasts : List Past) → IsSameAbove p q → TalkingOn channel p pasts → TalkingOn channel q pasts
talks_same None p q pasts same t = none_same p q same.reached (ap (λ talk. talk.gave) same.agent) (ap (λ talk. talk.is_refused) same.agent) t
talks_same (Some k) p q pasts same t = (same.reached ∙ t.0, subst (Talking (past_at k pasts)) (sym same.agent) t.1)

pub talks_kept : (channel : Option ℕ) (p q : WayPast) (pasts after : List Past) → IsSameAbove p q → ((j : ℕ) → channel ≡ Some j → Keeps j pasts after) → TalkingOn channel p pasts → TalkingOn channel q after
talks_kept None p q pasts after same keeps t = talks_same None p q after same t
talks_kept (Some k) p q pasts after same keeps t =
    (same.reached ∙ t.0, subst (Talking (past_at k after)) (sym same.agent) (talks_grown (past_at k pasts) (past_at k after) p.agent (keeps k refl) t.1))

abbrev pub IsCameSame : List Past → List Past → ℕ → Type 0
IsCameSame pasts after j = came_to (past_at j after) ≡ came_to (past_at j pasts)

pub talked_kept : (p q : WayPast) (pasts after : List Past) (channels : List ℕ) → ((got : List Outgoing) → Contains p.earlier got → Contains q.earlier got)
    → ((j : ℕ) → Contains channels j → IsCameSame pasts after j) → AllByRecursion (Talked p pasts) channels → AllByRecursion (Talked q after) channels
talked_kept p q pasts after [] earlier same t = tt
talked_kept p q pasts after (k ∷ channels) earlier same t = (
  record { got = t.0.got; earlier = earlier t.0.got t.0.earlier; front = subst (λ bs. IsFront bs (unmarked t.0.got)) (sym (same k (here k channels))) t.0.front },
  talked_kept p q pasts after channels earlier (λ j has. same j (later k channels j has)) t.1,
)

pub talked_same : (p q : WayPast) (pasts : List Past) (channels : List ℕ) → q.earlier ≡ p.earlier → AllByRecursion (Talked p pasts) channels → AllByRecursion (Talked q pasts) channels
talked_same p q pasts channels same t =
    talked_kept p q pasts pasts channels (λ got has. subst (λ gots. Contains gots got) (sym same) has) (λ j has. refl) t
