-- What is given out on a channel is the history's and its own.
use Rattle.std.proofs.Common.{◌≡◌, ℕ, ◌==◌, false, cond, List, [], ◌∷◌, ◌++◌, refl, sym, ap, ◌∙◌, append-nil}
use Rattle.std.specs.List.{filter, flat_map}
use Rattle.std.proofs.lemmas.Bool.{or_parts}
use Rattle.channel_core.specs.QueueLaws.{is_message}
use Rattle.channel_core.specs.declared.held.Outgoing.{Outgoing}
use Rattle.target_contexts.specs.declared.process.Image.{Image}
use Rattle.target_hub.specs.History.{was_opened}
use Rattle.target_hub.specs.Sent.{sent}
use Rattle.agent_node.specs.Agent.{new_agent}
use Rattle.agent_node.specs.AgentLaws.{Asked, all_said, asked, messages_told, tokens}
use Rattle.agent_node.specs.Apart.{asked_on}
use Rattle.agent_node.specs.Runs.{Call, Past, no_calls, run_of}
use Rattle.agent_node.proofs.Apart.{Named, just_one, named, no_one}
use Rattle.channel_list.proofs.Differing.{has}
use Rattle.agent_node.proofs.Histories.{nothing_sent}
use Rattle.agent_node.proofs.Standing.{past_number}
use Rattle.agent_node.proofs.TheLaws.{one_history_one_telling}
use Rattle.agent_node.proofs.Truth.{holds_all, holds_first}
use Rattle.agent_serving.specs.Apart.{EachIsGivenItsOwn, GivesItsOwn, OneHistoryServesTheSame, left_on}
use Rattle.agent_serving.specs.Served.{GivesWhatIsTold, given_out, run_by}
use Rattle.agent_serving.proofs.GivenOut.{by_calls, given_in, tells_its_history}

-- nothing was put out on a channel that wasn't opened
given_none : (k : ℕ) (pasts : List Past) → has past_number k pasts ≡ false → given_in k pasts ≡ []
given_none k [] none = refl
given_none k (past ∷ pasts) none =
    let parts = or_parts (past.number == k) (has past_number k pasts) none in
    ap (λ b. cond b (run_of past).past.given (given_in k pasts)) parts.0 ∙ given_none k pasts parts.1

own_of_none : (images : List Image) (calls : List Call) (k : ℕ) → has past_number k (run_by images calls).channels ≡ false
    → filter (λ past. past.number == k) (run_by images calls).channels ≡ [] → GivesItsOwn images calls k
own_of_none images calls k lacks empty =
    let r = run_by images calls in
    let h = holds_all images calls (no_calls images) (holds_first images) in
    let unopened : was_opened k r.history ≡ false = h.opened k ∙ lacks in
    let nothing : given_out k calls (new_agent images) ≡ [] =
    sym (by_calls images k calls (no_calls images) (holds_first images)) ∙ given_none k r.channels lacks in
    ap (λ (outs : List Outgoing). filter is_message (outs ++ left_on k r)) nothing
    ∙ ap (λ (ps : List Past). filter is_message (flat_map (λ past. (run_of past).end.queued) ps)) empty
    ∙ sym (ap (λ ts. all_said (messages_told (tokens (asked_on k r)) ts)) (nothing_sent images k r.history unopened))

own_of_one : (images : List Image) (calls : List Call) (k : ℕ) (past : Past) → past.number ≡ k → GivesWhatIsTold images calls past
    → filter (λ past. past.number == k) (run_by images calls).channels ≡ past ∷ [] → GivesItsOwn images calls k
own_of_one images calls k past same gives alone =
    let r = run_by images calls in
    let first = new_agent images in
    let left : left_on k r ≡ (run_of past).end.queued =
    ap (λ (ps : List Past). flat_map (λ past. (run_of past).end.queued) ps) alone ∙ append-nil (run_of past).end.queued in
    let asks : asked_on k r ≡ asked (run_of past) =
    ap (λ (ps : List Past). flat_map (λ past. asked (run_of past)) ps) alone ∙ append-nil (asked (run_of past)) in
    ap (λ (outs : List Outgoing). filter is_message (given_out k calls first ++ outs)) left
    ∙ sym (ap (λ (n : ℕ). filter is_message (given_out n calls first ++ (run_of past).end.queued)) same)
    ∙ gives
    ∙ ap (λ (cs : List Asked). all_said (messages_told (tokens cs) (sent images past.number r.history))) (sym asks)
    ∙ ap (λ (n : ℕ). all_said (messages_told (tokens (asked_on k r)) (sent images n r.history))) same

own_by_name : (images : List Image) (calls : List Call) (k : ℕ) → Named (GivesWhatIsTold images calls) k (run_by images calls).channels → GivesItsOwn images calls k
own_by_name images calls k (no_one lacks empty) = own_of_none images calls k lacks empty
own_by_name images calls k (just_one past same gives alone) = own_of_one images calls k past same gives alone

gives_its_own : (images : List Image) (calls : List Call) (k : ℕ) → GivesItsOwn images calls k
gives_its_own images calls k =
    let h = holds_all images calls (no_calls images) (holds_first images) in
    own_by_name images calls k (named (GivesWhatIsTold images calls) k (run_by images calls).channels h.differ (tells_its_history images calls).told)

-- ---- The laws

pub given_its_own : EachIsGivenItsOwn
given_its_own images events served k = gives_its_own images served.calls k

pub one_history_serves_the_same : OneHistoryServesTheSame
one_history_serves_the_same images events others one other same k =
    let r = run_by images one.calls in
    let s = run_by images other.calls in
    record {
      told = one_history_one_telling images one.calls other.calls same k;
      given = λ names. gives_its_own images one.calls k
          ∙ ap (λ (ns : List (List ℕ)). all_said (messages_told ns (sent images k r.history))) names
          ∙ ap (λ h. all_said (messages_told (tokens (asked_on k s)) (sent images k h))) same
          ∙ sym (gives_its_own images other.calls k);
    }
