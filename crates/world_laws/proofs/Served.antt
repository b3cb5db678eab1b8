-- What the agent's side of a way is, where no entry waits there: a channel that has answered what it took, or one that was refused.
use Rattle.std.proofs.Common.{◌≡◌, ℕ, ◌==◌, inl, inr, true, List, [], Option, Some, None, option_map, refl, sym, ap, ◌∙◌, subst}
use Rattle.agent_node.specs.Agent.{channel_of, waiting_at}
use Rattle.agent_node.specs.AgentLaws.{AgentFollowsHistory, IsEndOf}
use Rattle.agent_node.specs.Channels.{channel_end, end_in}
use Rattle.agent_node.specs.Runs.{AgentRun, Past, run_of}
use Rattle.channel_list.specs.declared.channel.Channel.{Channel}
use Rattle.chain_quiet.specs.Hops.{IsAgentSide}
use Rattle.chain_quiet.specs.Stuck.{IsServedOrRefused, IsStill}
use Rattle.chain_route.specs.Runs.{Talk}
use Rattle.chain_world.proofs.Pasts.{at_all}
use Rattle.chain_world.specs.Chain.{is_last_quiet, none_waits}
use Rattle.chain_world.specs.Standing.{past_at}
use Rattle.channel_core.proofs.Keeping.{IsTidy}
use Rattle.channel_core.proofs.Running.{always}
use Rattle.target_contexts.specs.declared.process.Image.{Image}
use Rattle.target_hub.specs.Sent.{agent_services}
use Rattle.world_laws.specs.HopLaws.{channel_past, side_of_channel}
use Rattle.world_laws.proofs.Silent.{at_number}
use Rattle.world_laws.proofs.Still.{NoneWaits, all_taken}

module _ (images : List Image) (r : AgentRun) (follows : AgentFollowsHistory images r) where
  end_still : (k : ℕ) (past : Past) → past_at k r.channels ≡ Some past → none_waits r.agent k ≡ true → (run_of past).end.queued ≡ [] → IsStill (run_of past)
  end_still k past there quiet given =
      by_channel (channel_of k r.agent) quiet
      (subst (λ n. IsEndOf (channel_end n r.agent.channels) past) (at_number k r.channels past there)
      (at_all (λ p. IsEndOf (channel_end p.number r.agent.channels) p) k r.channels past follows.ends there))
    where
      by_channel : (channel : Option Channel) → (waiting_at channel == 0) ≡ true → IsEndOf (end_in channel) past → IsStill (run_of past)
      by_channel None is end =
          let tidy : IsTidy (run_of past).end = (always agent_services (Some past.position) past.calls).tidy in
          record { queued = given; inbox = tidy.emptied end.0; stop = tidy.stopped end.0 }
      by_channel (Some channel) is end =
          let taken : NoneWaits channel.end = all_taken channel.end is in
          record { queued = given; inbox = ap (λ e. e.inbox) (sym end) ∙ taken.inbox; stop = ap (λ e. e.stop) (sym end) ∙ taken.stop }

  pub channel_served : (channel : Option ℕ) (talk : Talk) → is_last_quiet channel r.agent ≡ true → IsAgentSide (option_map side_of_channel (channel_past channel r.channels)) talk → IsServedOrRefused talk
  channel_served None talk quiet refused = inr refused.1
  channel_served (Some k) talk quiet is = by_past (past_at k r.channels) refl is
    where
      by_past : (there : Option Past) → past_at k r.channels ≡ there → IsAgentSide (option_map side_of_channel there) talk → IsServedOrRefused talk
      by_past None none refused = inr refused.1
      by_past (Some past) some channel = inl (side_of_channel past, record { channel = channel; still = end_still k past some quiet channel.given })
