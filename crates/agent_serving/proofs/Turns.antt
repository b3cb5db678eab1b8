-- One turn of many.
use Rattle.std.proofs.Common.{◌≡◌, ℕ, ◌+◌, ◌-◌, ◌<◌, ◌||◌, ap}
use Rattle.agent_node.specs.Agent.{turned}
use Rattle.agent_node.specs.AgentValue.{AgentValue}
use Rattle.agent_serving.specs.Passing.{after_turns, closes, end_is_taken}
use Rattle.list_laws.proofs.Numbers.{one_left}

pub one_turn_less : (count done k : ℕ) (a : AgentValue) → done < count → after_turns (count - done) k a ≡ after_turns (count - (done + 1)) k (turned k a).1
one_turn_less count done k a fewer = ap (λ (n : ℕ). after_turns n k a) (one_left count done fewer)

pub one_end_less : (count done k : ℕ) (a : AgentValue) → done < count
    → end_is_taken (count - done) k a ≡ closes (turned k a).0 || end_is_taken (count - (done + 1)) k (turned k a).1
one_end_less count done k a fewer = ap (λ (n : ℕ). end_is_taken n k a) (one_left count done fewer)
