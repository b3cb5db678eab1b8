-- More calls of an agent: what they give out, how openings are answered, and that a channel is opened once.
use Rattle.std.proofs.Common.{◌≡◌, ℕ, ◌==◌, ◌⊎◌, inl, inr, Bool, true, false, ◌||◌, nat_le, cond, List, [], ◌∷◌, ◌++◌, refl, sym, ap, ◌∙◌, append_assoc, append-nil}
use Rattle.std.specs.Prelude.{fold}
use Rattle.std.specs.List.{list_any}
use Rattle.std.proofs.lemmas.Bool.{false≢true, or_cases}
use Rattle.std.proofs.lemmas.List.Folds.{list_any-append}
use Rattle.target_contexts.specs.declared.process.Image.{Image}
use Rattle.target_hub.specs.History.{opens as input_opens, was_opened}
use Rattle.target_hub.specs.declared.input.Input.{Input}
use Rattle.target_hub.specs.declared.input.Input.TheVariants.{Opened}
use Rattle.list_laws.specs.Fronts.{IsFront}
use Rattle.list_laws.proofs.Flags.{or_true}
use Rattle.agent_node.specs.Agent.{begun, is_full, new_agent, opened}
use Rattle.agent_node.specs.AgentValue.{AgentValue}
use Rattle.agent_node.specs.Channels.{live_count}
use Rattle.channel_list.specs.Numbers.{has_number}
use Rattle.agent_node.specs.Runs.{AgentRun, Call, after_all, after_call, bytes_end, called, comes, gives, input_by, input_if, no_calls, opens, ticks, turns}
use Rattle.agent_node.proofs.Truth.{holds_all, holds_first}
use Rattle.agent_serving.specs.Served.{answered_by, answers, given_by, given_out, run_by}

-- ---- the agent after calls

abbrev pub run : List Call → AgentValue → AgentValue
run calls a = fold (λ before call. called call before) a calls

pub run_agent : (calls : List Call) (r : AgentRun) → (after_all calls r).agent ≡ run calls r.agent
run_agent [] r = refl
run_agent (call ∷ calls) r = run_agent calls (after_call call r)

pub run_more : (calls more : List Call) (a : AgentValue) → run (calls ++ more) a ≡ run more (run calls a)
run_more [] more a = refl
run_more (call ∷ calls) more a = run_more calls more (called call a)

pub given_more : (k : ℕ) (calls more : List Call) (a : AgentValue) → given_out k (calls ++ more) a ≡ given_out k calls a ++ given_out k more (run calls a)
given_more k [] more a = refl
given_more k (call ∷ calls) more a =
    ap (λ outs. given_by k call a ++ outs) (given_more k calls more (called call a))
    ∙ sym (append_assoc (given_by k call a) (given_out k calls (called call a)) (given_out k more (run calls (called call a))))

pub answers_more : (k : ℕ) (calls more : List Call) (a : AgentValue) → answers k (calls ++ more) a ≡ answers k calls a ++ answers k more (run calls a)
answers_more k [] more a = refl
answers_more k (call ∷ calls) more a =
    ap (λ bs. answered_by k call a ++ bs) (answers_more k calls more (called call a))
    ∙ sym (append_assoc (answered_by k call a) (answers k calls (called call a)) (answers k more (run calls (called call a))))

-- ---- a channel that was opened is in the history, and isn't opened again

history_grows : (calls : List Call) (r : AgentRun) → IsFront r.history (after_all calls r).history
history_grows [] r = ([], sym (append-nil r.history))
history_grows (call ∷ calls) r =
    let rest = history_grows calls (after_call call r) in
    (input_by call r.agent ++ rest.0, rest.1 ∙ append_assoc r.history (input_by call r.agent) rest.0)

later_opened : (k : ℕ) (calls : List Call) (r : AgentRun) → was_opened k r.history ≡ true → was_opened k (after_all calls r).history ≡ true
later_opened k calls r is =
    let grown = history_grows calls r in
    ap (was_opened k) grown.1 ∙ list_any-append (input_opens k) r.history grown.0 ∙ ap (λ b. b || was_opened k grown.0) is

abbrev pub any : List Bool → Bool
any bs = list_any (λ (b : Bool). b) bs

one_opened : (k : ℕ) (call : Call) (a : AgentValue) (history : List Input) → any (answered_by k call a) ≡ true → was_opened k (history ++ input_by call a) ≡ true
one_opened k (opens j) a history is = by_flags (j == k) refl (opened j a).0 is
  where
    by_flags : (same : Bool) → (j == k) ≡ same → (did : Bool) → any (cond same (did ∷ []) []) ≡ true → was_opened k (history ++ input_if did (Opened j)) ≡ true
    by_flags true at true is =
        list_any-append (input_opens k) history (Opened j ∷ []) ∙ ap (λ b. was_opened k history || (b || false)) at ∙ or_true (was_opened k history)
    by_flags true at false is = absurd (false≢true is)
    by_flags false at did is = absurd (false≢true is)
one_opened k (comes j piece) a history is = absurd (false≢true is)
one_opened k (bytes_end j) a history is = absurd (false≢true is)
one_opened k (turns j) a history is = absurd (false≢true is)
one_opened k (ticks thread) a history is = absurd (false≢true is)
one_opened k (gives j) a history is = absurd (false≢true is)

answered_opened : (k : ℕ) (calls : List Call) (r : AgentRun) → any (answers k calls r.agent) ≡ true → was_opened k (after_all calls r).history ≡ true
answered_opened k [] r is = absurd (false≢true is)
answered_opened k (call ∷ calls) r is =
    by_part (answered_opened k calls (after_call call r))
    (or_cases (any first) (any rest) (sym (list_any-append (λ (b : Bool). b) first rest) ∙ is))
  where
    first : List Bool
    first = answered_by k call r.agent

    rest : List Bool
    rest = answers k calls (called call r.agent)

    by_part : (any (answers k calls (called call r.agent)) ≡ true → was_opened k (after_all calls (after_call call r)).history ≡ true)
        → (any (answered_by k call r.agent) ≡ true) ⊎ (any (answers k calls (called call r.agent)) ≡ true)
        → was_opened k (after_all calls (after_call call r)).history ≡ true
    by_part goes (inl here) = later_opened k calls (after_call call r) (one_opened k call r.agent r.history here)
    by_part goes (inr there) = goes there

refused_if : (k : ℕ) (a : AgentValue) → has_number k a.numbers ≡ true → (opened k a).0 ≡ false
unfolding opened
refused_if k a is = ap (λ (b : Bool). (cond {A = Bool × AgentValue} (b || (nat_le 64 (live_count a.channels) || is_full a)) (false, a) (true, begun k a)).0) is

pub refused_again : (images : List Image) (calls : List Call) (k : ℕ) → any (answers k calls (new_agent images)) ≡ true → (opened k (run_by images calls).agent).0 ≡ false
refused_again images calls k is =
    let r = run_by images calls in
    let h = holds_all images calls (no_calls images) (holds_first images) in
    refused_if k r.agent (h.numbers k ∙ answered_opened k calls (no_calls images) is)
