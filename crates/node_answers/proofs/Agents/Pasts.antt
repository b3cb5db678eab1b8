-- What holds of each call of the ends that an agent has, over any calls of the agent.
use Rattle.std.proofs.Common.{ℕ, ◌+◌, ◌==◌, Bool, true, false, cond, List, [], ◌∷◌, map}
use Rattle.std.specs.List.{AllByRecursion}
use Rattle.agent_node.specs.AgentValue.{AgentValue}
use Rattle.agent_node.specs.Runs.{Past, on_number, on_open, opened_by, run_of, unless_over, with_calls}
use Rattle.channel_core.specs.Closing.{is_closed}
use Rattle.channel_core.specs.Runs.{Call}
use Rattle.list_laws.proofs.AllLists.{all_append}

module _ (P : Call Unit → Type 0) where
  abbrev pub AreAll : List (Call Unit) → Type 0
  AreAll calls = AllByRecursion P calls

  abbrev pub AreCalled : List Past → Type 0
  AreCalled pasts = AllByRecursion (λ past. AreAll past.calls) pasts

  pub each_called : (g : Past → Past) → ((past : Past) → AreAll past.calls → AreAll (g past).calls) → (pasts : List Past) → AreCalled pasts → AreCalled (map g pasts)
  each_called g keeps [] each = tt
  each_called g keeps (past ∷ pasts) each = (keeps past each.0, each_called g keeps pasts each.1)

  pub with_called : (calls : List (Call Unit)) → AreAll calls → (past : Past) → AreAll past.calls → AreAll (with_calls calls past).calls
  with_called calls more past each = all_append P past.calls calls each more

  pub number_called : (k : ℕ) (calls : List (Call Unit)) → AreAll calls → (past : Past) → AreAll past.calls → AreAll (on_number k calls past).calls
  number_called k calls more past each = by_flag (past.number == k)
    where
      by_flag : (flag : Bool) → AreAll (cond flag (with_calls calls past) past).calls
      by_flag true = with_called calls more past each
      by_flag false = each

  pub open_called : (k : ℕ) (calls : List (Call Unit)) → AreAll calls → (past : Past) → AreAll past.calls → AreAll (on_open k calls past).calls
  open_called k calls more past each = by_flags (past.number == k) (is_closed (run_of past).end.state)
    where
      by_flags : (flag over : Bool) → AreAll (cond flag (unless_over over calls past) past).calls
      by_flags true true = each
      by_flags true false = with_called calls more past each
      by_flags false over = each

  pub unless_called : (flag : Bool) (pasts later : List Past) → AreCalled pasts → AreCalled later → AreCalled (cond flag pasts later)
  unless_called true pasts later one other = one
  unless_called false pasts later one other = other

  pub opened_called : (did : Bool) (k : ℕ) (a : AgentValue) (pasts : List Past) → AreCalled pasts → AreCalled (opened_by did k a pasts)
  opened_called true k a pasts each = all_append (λ past. AreAll past.calls) pasts (record { number = k; position = a.position + 1; calls = [] } ∷ []) each (tt, tt)
  opened_called false k a pasts each = each
