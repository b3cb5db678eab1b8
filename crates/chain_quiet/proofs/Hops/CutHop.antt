-- A hop that was cut.
use Rattle.std.proofs.Common.{◌≡◌, false, true, Bool, List, [], Option, None, Some, ◌⊎◌, inl, inr, sym, ap, ◌∙◌}
use Rattle.std.specs.Prelude.{IfSome}
use Rattle.std.specs.List.{list_any}
use Rattle.channel_core.specs.Arrivals.{AreSpoken, Spoken, arrived, bytes_of, queue_of}
use Rattle.channel_core.specs.ReceivingLaws.{CanBeRead}
use Rattle.channel_laws.specs.Faults.{is_ending}
use Rattle.channel_laws.specs.Meeting.{Side, as_comes, run_of}
use Rattle.channel_laws.proofs.Rest.Meeting.{formed_as, queue_as, said_as}
use Rattle.chain_quiet.specs.Hops.{HopIsLost, IsLost, ReceivesFront}
use Rattle.chain_quiet.specs.Stuck.{IsChannel, IsReadable, end_of_side, side_below, unmarked}
use Rattle.channel_core.proofs.TheLaws.{queues_readable}
use Rattle.channel_laws.proofs.TheLaws.{over_at_its_end}
use Rattle.value_node.proofs.TheLaws.{ends_are_runs}
use Rattle.chain_quiet.proofs.Rest.Marks.{unmarked_same}
use Rattle.chain_route.specs.Carrying.{HopCarries, IsUnused, Made, agent_end, end_below, past_of}
use Rattle.chain_route.specs.Runs.{Talk}
use Rattle.chain_route.specs.declared.hop.Hop.{Hop}
use Rattle.chain_route.proofs.Unheard.{value_hello}
use Rattle.chain_quiet.proofs.Hops.Facts.{gave_front, received_front}
use Rattle.chain_quiet.proofs.Hops.Marks.{front_unmarked}
use Rattle.list_laws.specs.Fronts.{IsFront}
use Rattle.list_laws.proofs.Fronts.{front_none, front_same, front_then}

-- ---- Its ends

receives_front : {T U : Type 0} → (is_marked : Bool) (s : Side T) (other : Side U) → IsReadable other
    → IsFront (arrived s.calls) (bytes_of (as_comes is_marked (run_of other).past.queued)) → ReceivesFront is_marked s other
receives_front is_marked s other sends came = record {
  spoken = comes;
  is_ended = q.is_ended;
  formed = formed;
  queued = queued;
  front = received_front s comes q.is_ended formed (front_same (arrived s.calls) (bytes_of (as_comes is_marked (run_of other).past.queued)) (bytes_of (queue_of comes q.is_ended)) (ap bytes_of queued) came);
}
  where
    q : CanBeRead (run_of other)
    q = queues_readable other.hello other.mark other.calls sends.formed sends.readable

    comes : List Spoken
    comes = said_as is_marked q.spoken

    formed : AreSpoken comes
    formed = formed_as is_marked q.spoken q.well_formed

    queued : as_comes is_marked (run_of other).past.queued ≡ queue_of comes q.is_ended
    queued = ap (as_comes is_marked) q.queue ∙ queue_as is_marked q.spoken q.is_ended

-- where bytes came with their marks
receives_marked : {T U : Type 0} → (s : Side T) (other : Side U) → IsReadable other → IsFront (arrived s.calls) (bytes_of (run_of other).past.given) → ReceivesFront true s other
receives_marked s other sends came =
    let r = run_of other in
    receives_front true s other sends (front_then (arrived s.calls) (bytes_of r.past.given) (bytes_of r.past.queued) came (gave_front other))

-- an end whose bytes have ended is over
is_lost_of : {T : Type 0} → (s : Side T) → IsUnused (end_of_side s) ⊎ (list_any is_ending s.calls ≡ true) → IsLost s
is_lost_of s (inl unused) = inl unused
is_lost_of s (inr ended) = inr (over_at_its_end s.hello s.mark s.calls ended)

-- ---- To a value-add

pub cut_to_add : {T : Type 0} → (s : Side T) (hop : Hop) (m : Made) → IsReadable s → HopCarries hop (end_of_side s) (end_below (past_of m)) → hop.is_live ≡ false → HopIsLost true s (side_below m)
cut_to_add s hop m sends carries dead = record {
  first = receives_marked s (side_below m) record { formed = value_hello; readable = (ends_are_runs m.peer m.calls).below_readable } carries.down_front;
  second = receives_marked (side_below m) s sends carries.up_front;
  lost_below = is_lost_of s (carries.lost dead);
  lost_above = is_lost_of (side_below m) (carries.lost_above dead);
}

-- ---- To the agent

module _ {T : Type 0} (s : Side T) (hop : Hop) (talk : Talk) (sends : IsReadable s) (carries : HopCarries hop (end_of_side s) (agent_end talk)) (dead : hop.is_live ≡ false) where
  module _ (a : Side Unit) (channel : IsChannel a talk) where
    down : IsFront (arrived s.calls) (bytes_of (run_of a).past.given)
    down = front_same (arrived s.calls) (bytes_of talk.gave) (bytes_of (run_of a).past.given) (ap bytes_of channel.gave) carries.down_front

    -- bytes come to the agent without marks
    up : IsFront (arrived a.calls) (unmarked (run_of s).past.queued)
    up =
        let r = run_of s in
        front_then (arrived a.calls) (unmarked talk.got) (unmarked r.past.queued) channel.front
        (front_unmarked talk.got r.past.queued (front_then (bytes_of talk.got) (bytes_of r.past.given) (bytes_of r.past.queued) carries.up_front (gave_front s)))

    lost : IsUnused (agent_end talk) ⊎ (talk.is_lost ≡ true) → IsUnused (end_of_side a) ⊎ (list_any is_ending a.calls ≡ true)
    lost (inl unused) = inl (
      sym channel.gave ∙ unused.0,
      front_none (arrived a.calls) (front_same (arrived a.calls) (unmarked talk.got) [] (unmarked_same talk.got [] unused.1) channel.front),
    )
    lost (inr ended) = inr (sym channel.lost ∙ ended)

    lost_hop : HopIsLost false s a
    lost_hop = record {
      first = receives_marked s a channel.sends down;
      second = receives_front false a s sends up;
      lost_below = is_lost_of s (carries.lost dead);
      lost_above = is_lost_of a (lost (carries.lost_above dead));
    }

  pub cut_to_agent : (agent : Option (Side Unit)) → IfSome agent (λ a. IsChannel a talk) → IfSome agent (HopIsLost false s)
  cut_to_agent None channel = tt
  cut_to_agent (Some a) channel = lost_hop a channel
