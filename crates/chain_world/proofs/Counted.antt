-- How many entries wait in the inboxes of an agent's channels: in each no more than a u64 counts.
use Rattle.std.proofs.Common.{◌≡◌, ℕ, ◌+◌, ◌*◌, ◌<◌, ◌≤◌, List, [], ◌∷◌, length, Option, Some, None, arith}
use Rattle.std.specs.Prelude.{◌^◌, sum_by}
use Rattle.std.proofs.lemmas.List.Sums.{sum_by-cons}
use Rattle.agent_node.specs.Agent.{channel_of, waiting_at}
use Rattle.agent_node.specs.AgentValue.{AgentValue}
use Rattle.channel_list.specs.declared.channel.Channel.{Channel}

few_at : (there : Option Channel) → waiting_at there ≤ 18446744073709551615
few_at None = omega arith
few_at (Some channel) = omega arith

pub few_wait : (a : AgentValue) (channels : List ℕ) → sum_by (λ k. waiting_at (channel_of k a)) channels ≤ length channels * 18446744073709551615
few_wait a [] = omega arith
few_wait a (k ∷ channels) =
    let here = few_at (channel_of k a) in
    let rest = few_wait a channels in
    let all = sum_by-cons (λ j. waiting_at (channel_of j a)) k channels in omega (arith, here, rest, all)

-- those of all channels but one, and of that one, are fewer than a u128 counts
pub sum_fits : (a : AgentValue) (channels : List ℕ) (before last : ℕ) → before ≡ sum_by (λ k. waiting_at (channel_of k a)) channels → length channels < 18446744073709551616
    → last ≤ 18446744073709551615 → before + last < 2 ^ 128
sum_fits a channels before last is few one = let most = few_wait a channels in omega (arith, is, most, few, one)
