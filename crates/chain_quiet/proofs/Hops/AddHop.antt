-- The hop to a value-add.
use Rattle.std.proofs.Common.{◌≡◌, true, List, [], Option, Some, None, refl, sym, ap, ◌∙◌, true≢false}
use Rattle.std.specs.Prelude.{IsSome, option_map, unwrap_or}
use Rattle.channel_core.specs.Arrivals.{bytes_of}
use Rattle.channel_core.specs.Closing.{is_closed}
use Rattle.channel_laws.specs.Hop.{Carries}
use Rattle.channel_laws.specs.Meeting.{IsLasting, Side, run_of}
use Rattle.channel_laws.specs.Numbering.{TakesNumbered}
use Rattle.chain_quiet.specs.Hops.{HopOfAdd}
use Rattle.chain_quiet.proofs.Hops.Facts.{tells_levels}
use Rattle.chain_quiet.specs.Stuck.{IsReadable, end_of_side, side_above, side_below}
use Rattle.chain_route.specs.Carrying.{GivesAll, HopCarries, Made, end_below, past_of, value_of}
use Rattle.chain_route.specs.Passing.{queue_of}
use Rattle.chain_route.specs.declared.hop.Hop.{Hop}
use Rattle.chain_route.proofs.Unheard.{value_hello}
use Rattle.value_node.specs.Passing.{Upper}
use Rattle.value_node.specs.RelayLaws.{EndsAreRuns}
use Rattle.value_node.specs.Runs.{UpperCall, after_all, below, no_calls, upper_after}
use Rattle.channel_laws.proofs.TheLaws.{live_hops_stand, what_comes_is_numbered}
use Rattle.node_answers.proofs.TheLaws.{answers_what_it_can}
use Rattle.value_node.proofs.TheLaws.{ends_are_runs}

-- ---- Its upper end

given_by : (connection : Option (List UpperCall)) (upper : Option Upper) → upper ≡ option_map (λ calls. (upper_after calls).end) connection → queue_of upper ≡ [] → IsSome connection
    → (upper_after (unwrap_or connection [])).end.queued ≡ []
given_by None upper is given connected = absurd (true≢false (sym connected))
given_by (Some calls) upper is given connected = sym (ap queue_of is) ∙ given

pub above_given : (m : Made) → GivesAll (value_of m) → IsSome (past_of m).connection → (run_of (side_above m)).end.queued ≡ []
above_given m gives connected = given_by (past_of m).connection (value_of m).relay.upper (ends_are_runs m.peer m.calls).upper gives.above connected

-- ---- The two ends of the hop

module _ {T : Type 0} (s : Side T) (hop : Hop) (m : Made) (sends : IsReadable s) (gives : GivesAll (value_of m))
    (carries : HopCarries hop (end_of_side s) (end_below (past_of m))) (given : (run_of s).end.queued ≡ []) (live : hop.is_live ≡ true) where
  facts : EndsAreRuns (after_all m.calls (no_calls m.peer))
  facts = ends_are_runs m.peer m.calls

  lasting : IsLasting s
  lasting = record { formed = sends.formed; readable = sends.readable; lasting = (carries.lasting live).0 }

  others_last : IsLasting (side_below m)
  others_last = record { formed = value_hello; readable = facts.below_readable; lasting = (carries.lasting live).1 }

  falls : Carries true s (side_below m) (bytes_of hop.down)
  falls = record { given = sym (ap (λ e. e.queued) facts.lower) ∙ gives.below; front = carries.down_front; gave = λ opens. carries.down live }

  rises : Carries true (side_below m) s (bytes_of hop.up)
  rises = record { given = given; front = carries.up_front; gave = λ opens. carries.up live refl }

  numbered : TakesNumbered (below (past_of m))
  numbered = what_comes_is_numbered true (side_below m) s sends.formed sends.readable carries.up_front

  pub add_hop : HopOfAdd hop s m
  add_hop = record {
    stands = live_hops_stand true true s (side_below m) (bytes_of hop.down) (bytes_of hop.up) lasting others_last falls rises;
    levels = record { first = tells_levels s; second = tells_levels (side_below m) };
    leaves = λ opened. answers_what_it_can m.peer m.calls (ap (λ e. is_closed e.state) facts.lower ∙ opened) numbered;
  }
