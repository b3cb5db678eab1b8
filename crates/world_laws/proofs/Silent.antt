-- A channel that was never opened executes nothing.
use Rattle.std.proofs.Common.{◌≡◌, ℕ, ◌==◌, not, Bool, true, false, cond, List, [], ◌∷◌, ◌++◌, Some, None, refl, sym, ap, ◌∙◌, append_assoc, eqb-true}
use Rattle.std.proofs.lemmas.Bool.{and_parts, or_parts}
use Rattle.std.proofs.lemmas.List.Folds.{list_any-append}
use Rattle.agent_node.specs.AgentLaws.{AgentFollowsHistory}
use Rattle.agent_node.specs.Runs.{AgentRun, Past}
use Rattle.chain_world.proofs.Agents.{none_any}
use Rattle.chain_world.proofs.Pasts.{at_number as has_number}
use Rattle.chain_world.specs.Standing.{past_at}
use Rattle.target_contexts.specs.declared.process.Image.{Image}
use Rattle.target_hub.specs.History.{IsLegal, opens, was_closed, was_opened}
use Rattle.target_hub.specs.Sent.{ReadCommand, executed_by, executed_on}
use Rattle.target_hub.specs.declared.input.Input.{Input}
use Rattle.target_hub.specs.declared.input.Input.TheVariants.{Closed, Executed, Opened, Ticked}

not_before : (k : ℕ) (before rest history : List Input) → history ≡ before ++ rest → was_opened k history ≡ false → was_opened k before ≡ false
not_before k before rest history is none = (or_parts (was_opened k before) (was_opened k rest) (sym (list_any-append (opens k) before rest) ∙ ap (was_opened k) (sym is) ∙ none)).0

executes_none : (images : List Image) (k : ℕ) (history before : List Input) (input : Input) (rest : List Input) → IsLegal images history → was_opened k history ≡ false → history ≡ before ++ input ∷ rest → executed_by k input ≡ []
executes_none images k history before (Opened channel) rest legal none is = refl
executes_none images k history before (Executed channel reading service name) rest legal none is = by_flag (channel == k) refl
  where
    by_flag : (flag : Bool) → (channel == k) ≡ flag → cond {A = List ReadCommand} flag (record { reading = reading; service = service; name = name } ∷ []) [] ≡ []
    by_flag true same =
        let allowed = legal before (Executed channel reading service name) rest is in
        let opened : was_opened channel before ≡ true = (and_parts (was_opened channel before) (not (was_closed channel before)) allowed.0).0 in
        let yes : was_opened k before ≡ true = ap (λ n. was_opened n before) (sym (eqb-true channel k same)) ∙ opened in
        let no_one : was_opened k before ≡ false = not_before k before (Executed channel reading service name ∷ rest) history is none in
        absurd cc
    by_flag false same = refl
executes_none images k history before (Ticked thread) rest legal none is = refl
executes_none images k history before (Closed channel) rest legal none is = refl

silent_from : (images : List Image) (k : ℕ) (history before rest : List Input) → IsLegal images history → was_opened k history ≡ false → history ≡ before ++ rest → executed_on k rest ≡ []
silent_from images k history before [] legal none is = refl
silent_from images k history before (input ∷ rest) legal none is =
    ap (λ xs. xs ++ executed_on k rest) (executes_none images k history before input rest legal none is)
    ∙ silent_from images k history (before ++ input ∷ []) rest legal none (is ∙ sym (append_assoc before (input ∷ []) rest))

-- ---- The channels of an agent, by their numbers

pub unopened_silent : (images : List Image) (r : AgentRun) (k : ℕ) → AgentFollowsHistory images r → past_at k r.channels ≡ None → executed_on k r.history ≡ []
unopened_silent images r k follows none = silent_from images k r.history [] r.history follows.legal (follows.opened k ∙ none_any k r.channels none) refl

pub at_number : (k : ℕ) (pasts : List Past) (past : Past) → past_at k pasts ≡ Some past → past.number ≡ k
at_number k pasts past is = eqb-true past.number k (has_number k pasts past is)
