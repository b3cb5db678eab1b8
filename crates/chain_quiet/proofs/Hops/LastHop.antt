-- The hop to the agent.
use Rattle.std.proofs.Common.{◌≡◌, true, false, List, [], ◌∷◌, ◌++◌, Option, None, Some, ◌⊎◌, inl, inr, refl, sym, ap, ◌∙◌, append_assoc, append-nil}
use Rattle.channel_core.specs.Arrivals.{Marked, arrived, bytes_of}
use Rattle.channel_core.specs.Receiving.{is_over}
use Rattle.channel_core.specs.ReceivingLaws.{received}
use Rattle.channel_core.specs.Wire.{end_of_stream}
use Rattle.channel_laws.specs.Hop.{Carries}
use Rattle.channel_laws.specs.Meeting.{IsLasting, Side, run_of}
use Rattle.channel_laws.specs.Numbering.{TakesNumbered}
use Rattle.chain_quiet.specs.Hops.{HopOfAgent, HopRefused, HopToAgent, IsAgentSide}
use Rattle.chain_quiet.specs.Stuck.{IsChannel, IsReadable, end_of_side, unmarked}
use Rattle.chain_route.specs.Carrying.{HopCarries, agent_end}
use Rattle.chain_route.specs.Runs.{Talk}
use Rattle.chain_route.specs.declared.hop.Hop.{Hop}
use Rattle.channel_laws.proofs.TheLaws.{hears_the_end, live_hops_stand, what_comes_is_numbered}
use Rattle.chain_quiet.proofs.Hops.Facts.{received_front, tells_levels}
use Rattle.chain_quiet.proofs.Hops.Marks.{unmarked_parts}
use Rattle.list_laws.proofs.Fronts.{front_none}

module _ {T : Type 0} (s : Side T) (hop : Hop) (talk : Talk) (sends : IsReadable s) (carries : HopCarries hop (end_of_side s) (agent_end talk))
    (given : (run_of s).end.queued ≡ []) (live : hop.is_live ≡ true) where
  lasting : IsLasting s
  lasting = record { formed = sends.formed; readable = sends.readable; lasting = (carries.lasting live).0 }

  module _ (a : Side Unit) (channel : IsChannel a talk) where
    agent_lasts : IsLasting a
    agent_lasts = record { formed = channel.sends.formed; readable = channel.sends.readable; lasting = sym channel.lost ∙ (carries.lasting live).1 }

    falls : Carries true s a (bytes_of hop.down)
    falls = record {
      given = channel.given;
      front = (carries.down_front.0, sym (ap bytes_of channel.gave) ∙ carries.down_front.1);
      gave = λ opens. sym (ap bytes_of channel.gave) ∙ carries.down live;
    }

    -- bytes come to the agent without marks
    bare : unmarked (run_of s).past.given ≡ unmarked talk.got ++ unmarked hop.up
    bare = unmarked_parts (run_of s).past.given talk.got hop.up (carries.up live channel.opened)

    rises : Carries false a s (unmarked hop.up)
    rises = record {
      given = given;
      front = (
        channel.front.0 ++ unmarked hop.up,
        bare ∙ ap (λ bytes. bytes ++ unmarked hop.up) channel.front.1 ∙ append_assoc (arrived a.calls) channel.front.0 (unmarked hop.up),
      );
      gave = λ opens. bare ∙ ap (λ bytes. bytes ++ unmarked hop.up) (channel.came opens);
    }

    numbered : TakesNumbered (run_of a)
    numbered = what_comes_is_numbered false a s sends.formed sends.readable rises.front

    agent_hop : HopOfAgent hop s a
    agent_hop = record {
      stands = live_hops_stand true false s a (bytes_of hop.down) (unmarked hop.up) lasting agent_lasts falls rises;
      levels = record { first = tells_levels s; second = tells_levels a };
      answers = channel.answers numbered;
    }

  -- all that comes of a channel that was refused is the end of the stream
  module _ (refused : talk.gave ≡ end_of_stream ∷ []) (shut : talk.is_refused ≡ true) where
    comes : bytes_of (end_of_stream ∷ []) ≡ arrived s.calls ++ bytes_of hop.down
    comes = sym (ap bytes_of refused) ∙ carries.down live

    closes_by : (down : List Marked) → bytes_of hop.down ≡ down → (is_over (run_of s).end ≡ true) ⊎ (bytes_of hop.down ≡ [] → ⊥)
    closes_by [] is =
        let all : bytes_of (end_of_stream ∷ []) ≡ arrived s.calls ++ [] = comes ∙ ap (λ bytes. arrived s.calls ++ bytes) is in
        inl (hears_the_end s.hello s.mark s.calls [] true tt ([], all) refl (sym (append-nil (arrived s.calls)) ∙ sym all))
    closes_by (byte ∷ down) is = inr (λ none. let one : [] ≡ byte ∷ down = sym none ∙ is in absurd cc)

    refused_hop : HopRefused hop s
    refused_hop = record {
      dropped = (carries.refused shut).1;
      gave = comes;
      silent = front_none (received (run_of s)) (received_front s [] true tt (bytes_of hop.down, comes));
      levels = tells_levels s;
      closes = closes_by (bytes_of hop.down) refl;
    }

  pub last_hop : (agent : Option (Side Unit)) → IsAgentSide agent talk → HopToAgent hop s agent
  last_hop None is = refused_hop is.1 is.0
  last_hop (Some a) is = agent_hop a is
