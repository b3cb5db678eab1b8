-- What a channel is told is the history's and its own.
use Rattle.std.proofs.Common.{◌≡◌, ℕ, ◌==◌, Bool, true, false, not, cond, ◌&&◌, ◌||◌, List, [], ◌∷◌, map, refl, sym, ap, ◌∙◌, subst, append-nil, eqb-true}
use Rattle.std.specs.List.{AllByRecursion, filter, flat_map, list_any}
use Rattle.std.proofs.lemmas.Bool.{or_parts}
use Rattle.channel_core.specs.QueueLaws.{is_message}
use Rattle.target_contexts.specs.declared.process.Image.{Image}
use Rattle.target_hub.specs.History.{is_live, was_closed, was_opened}
use Rattle.target_hub.specs.Sent.{executed_on, sent}
use Rattle.agent_node.specs.AgentLaws.{Asked, FollowsHistory, all_said, asked, messages_told, read, tokens}
use Rattle.agent_node.specs.Apart.{EachIsToldItsOwn, IsToldItsOwn, OneHistoryTellsTheSame, asked_on}
use Rattle.agent_node.specs.Openings.{lives}
use Rattle.agent_node.specs.Runs.{AgentRun, Past, after_all, no_calls, run_of}
use Rattle.channel_list.proofs.Differing.{Differ, has}
use Rattle.agent_node.proofs.Histories.{nothing_sent}
use Rattle.agent_node.proofs.Standing.{past_number}
use Rattle.agent_node.proofs.Truth.{HoldsRun, holds_all, holds_first, tells_the_truth}
use Rattle.list_laws.proofs.Flags.{or_false}

-- ---- The channel of a number

-- none has the number, or one has it, of which P holds
pub data Named (P : Past → Type 0) (k : ℕ) (pasts : List Past) : Type 0 where
  no_one : has past_number k pasts ≡ false → filter (λ past. past.number == k) pasts ≡ [] → Named P k pasts
  just_one : (past : Past) → past.number ≡ k → P past → filter (λ past. past.number == k) pasts ≡ past ∷ [] → Named P k pasts

-- what the filter gives with one more in front
one_before : (k : ℕ) (past : Past) (pasts : List Past) (flag : Bool) → (past.number == k) ≡ flag
    → filter (λ past. past.number == k) (past ∷ pasts) ≡ cond flag (past ∷ filter (λ past. past.number == k) pasts) (filter (λ past. past.number == k) pasts)
one_before k past pasts flag is =
    let rest : List Past = filter (λ past. past.number == k) pasts in ap (λ (b : Bool). cond b (past ∷ rest) rest) is

none_named : (k : ℕ) (pasts : List Past) → has past_number k pasts ≡ false → filter (λ past. past.number == k) pasts ≡ []
none_named k [] none = refl
none_named k (past ∷ pasts) none =
    let parts = or_parts (past.number == k) (has past_number k pasts) none in
    one_before k past pasts false parts.0 ∙ none_named k pasts parts.1

pub named : (P : Past → Type 0) (k : ℕ) (pasts : List Past) → Differ past_number pasts → AllByRecursion P pasts → Named P k pasts
named P k [] differ all = no_one refl refl
named P k (past ∷ pasts) differ all = by_flag (past.number == k) refl (named P k pasts differ.1 all.1)
  where
    by_flag : (flag : Bool) → (past.number == k) ≡ flag → Named P k pasts → Named P k (past ∷ pasts)
    by_flag true is rest =
        let same : past.number ≡ k = eqb-true past.number k is in
        let others = none_named k pasts (subst (λ (n : ℕ). has past_number n pasts ≡ false) same differ.0) in
        just_one past same all.0 (one_before k past pasts true is ∙ ap (λ (ps : List Past). past ∷ ps) others)
    by_flag false is (no_one lacks empty) =
        no_one (ap (λ (b : Bool). b || has past_number k pasts) is ∙ lacks) (one_before k past pasts false is ∙ empty)
    by_flag false is (just_one other same holds alone) = just_one other same holds (one_before k past pasts false is ∙ alone)

-- ---- What it is told

-- where none has the number, it wasn't opened
own_of_none : (images : List Image) (k : ℕ) (r : AgentRun) → HoldsRun images r → has past_number k r.channels ≡ false
    → filter (λ past. past.number == k) r.channels ≡ [] → IsToldItsOwn images k r
own_of_none images k r h lacks empty =
    let unopened : was_opened k r.history ≡ false = h.opened k ∙ lacks in
    record {
      live = ap (list_any lives) empty ∙ sym (ap (λ (b : Bool). b && not (was_closed k r.history)) unopened);
      executed = (h.strange k unopened).silent ∙ sym (ap (λ (ps : List Past). map read (flat_map (λ past. asked (run_of past)) ps)) empty);
      told = ap (λ (ps : List Past). flat_map (λ past. filter is_message (run_of past).past.queued) ps) empty
          ∙ sym (ap (λ ts. all_said (messages_told (tokens (asked_on k r)) ts)) (nothing_sent images k r.history unopened));
    }

own_of_one : (images : List Image) (k : ℕ) (r : AgentRun) (past : Past) → past.number ≡ k → FollowsHistory images r.history past
    → filter (λ past. past.number == k) r.channels ≡ past ∷ [] → IsToldItsOwn images k r
own_of_one images k r past same follows alone =
    let asks : asked_on k r ≡ asked (run_of past) =
    ap (λ (ps : List Past). flat_map (λ past. asked (run_of past)) ps) alone ∙ append-nil (asked (run_of past)) in
    record {
      live = ap (list_any lives) alone ∙ or_false (lives past) ∙ sym follows.live ∙ ap (λ (n : ℕ). is_live n r.history) same;
      executed = sym (ap (λ (n : ℕ). executed_on n r.history) same) ∙ follows.executed ∙ ap (map read) (sym asks);
      told = ap (λ (ps : List Past). flat_map (λ past. filter is_message (run_of past).past.queued) ps) alone
          ∙ append-nil (filter is_message (run_of past).past.queued) ∙ follows.told
          ∙ ap (λ (cs : List Asked). all_said (messages_told (tokens cs) (sent images past.number r.history))) (sym asks)
          ∙ ap (λ (n : ℕ). all_said (messages_told (tokens (asked_on k r)) (sent images n r.history))) same;
    }

own_by_name : (images : List Image) (k : ℕ) (r : AgentRun) → HoldsRun images r → Named (FollowsHistory images r.history) k r.channels → IsToldItsOwn images k r
own_by_name images k r h (no_one lacks empty) = own_of_none images k r h lacks empty
own_by_name images k r h (just_one past same follows alone) = own_of_one images k r past same follows alone

-- ---- The laws

pub told_its_own : EachIsToldItsOwn
told_its_own images calls k =
    let r = after_all calls (no_calls images) in
    let h = holds_all images calls (no_calls images) (holds_first images) in
    own_by_name images k r h (named (FollowsHistory images r.history) k r.channels h.differ (tells_the_truth images calls).channels)

pub one_history_tells_the_same : OneHistoryTellsTheSame
one_history_tells_the_same images calls others same k =
    let r = after_all calls (no_calls images) in
    let s = after_all others (no_calls images) in
    let one = told_its_own images calls k in
    let other = told_its_own images others k in
    record {
      live = one.live ∙ ap (is_live k) same ∙ sym other.live;
      executed = sym one.executed ∙ ap (executed_on k) same ∙ other.executed;
      told = λ names. one.told ∙ ap (λ (ns : List (List ℕ)). all_said (messages_told ns (sent images k r.history))) names
          ∙ ap (λ h. all_said (messages_told (tokens (asked_on k s)) (sent images k h))) same ∙ sym other.told;
    }
