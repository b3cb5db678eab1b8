-- What is done so many times: of the times that are left, one is done.
use Rattle.std.proofs.Common.{◌≡◌, ℕ, ◌+◌, ◌-◌, ◌<◌, length, ap, ◌∙◌, arith}
use Rattle.value_node.specs.declared.states.Side.{Side}
use Rattle.value_node.specs.declared.states.Side.TheVariants.{Below, Above}
use Rattle.chain_world.specs.Chain.{turned_down, turns_down}
use Rattle.chain_world.specs.ChainValue.{ChainValue}
use Rattle.chain_world.specs.World.{add_rounded, adds_rounded, repeated, round_all, round_at, rounded_down, rounds, turn_of_add, turn_of_agent}
use Rattle.chain_world.specs.WorldValue.{WorldValue}
use Rattle.list_laws.proofs.Numbers.{one_left}

pub once_more : (f : WorldValue → WorldValue) (count counter : ℕ) (w : WorldValue) → counter < count → repeated (count - counter) f w ≡ repeated (count - (counter + 1)) f (f w)
once_more f count counter w more = ap (λ n. repeated n f w) (one_left count counter more)

pub one_turn_down : (count counter : ℕ) (chain : ChainValue) → counter < count → turns_down (count - counter) chain ≡ turns_down (count - (counter + 1)) (turned_down chain)
one_turn_down count counter chain more = ap (λ n. turns_down n chain) (one_left count counter more)

pub one_turn_up : (count counter at : ℕ) (w : WorldValue) → counter < count
    → repeated (count - counter) (turn_of_agent at) w ≡ repeated (count - (counter + 1)) (turn_of_agent at) (turn_of_agent at w)
one_turn_up count counter at w more = once_more (turn_of_agent at) count counter w more

pub one_turn_add : (count counter at add : ℕ) (side : Side) (w : WorldValue) → counter < count
    → repeated (count - counter) (turn_of_add at add side) w ≡ repeated (count - (counter + 1)) (turn_of_add at add side) (turn_of_add at add side w)
one_turn_add count counter at add side w more = once_more (turn_of_add at add side) count counter w more

pub one_add_up : (count add at : ℕ) (w : WorldValue) → add < count → adds_rounded (count - add) add at w ≡ adds_rounded (count - (add + 1)) (add + 1) at (add_rounded at add Below w)
one_add_up count add at w more = ap (λ n. adds_rounded n add at w) (one_left count add more)

-- the highest of those that are left
pub one_add_down : (count counter at : ℕ) (w : WorldValue) → counter < count
    → rounded_down (count - counter) at w ≡ rounded_down (count - (counter + 1)) at (add_rounded at (count - 1 - counter) Above w)
one_add_down count counter at w more =
    let place : count - (counter + 1) ≡ count - 1 - counter = omega (arith, more) in
    ap (λ n. rounded_down n at w) (one_left count counter more) ∙ ap (λ n. rounded_down (count - (counter + 1)) at (add_rounded at n Above w)) place

pub one_chain : (count at : ℕ) (w : WorldValue) → at < count → round_all (count - at) at w ≡ round_all (count - (at + 1)) (at + 1) (round_at at w)
one_chain count at w more = ap (λ n. round_all n at w) (one_left count at more)

pub one_round : (count counter : ℕ) (w : WorldValue) → counter < count → rounds (count - counter) w ≡ rounds (count - (counter + 1)) (round_all (length w.chains) 0 w)
one_round count counter w more = ap (λ m. rounds m w) (one_left count counter more)
