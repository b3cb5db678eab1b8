-- What a way carries, over any calls: each hop carries what one of its nodes gave it to the other one.
use Rattle.std.specs.Prelude.{ℕ, ◌≡◌, ◌⊎◌, ◌+◌, ◌==◌, Bool, true, false, List, [], ◌∷◌, ◌++◌, length, map, unwrap_or, IsSome, None}
use Rattle.std.specs.List.{AllByRecursion, list_any}
use Rattle.channel_core.specs.Arrivals.{Marked, arrived, bytes_of}
use Rattle.channel_core.specs.Beginning.{new_end}
use Rattle.channel_core.specs.QueueLaws.{sent_in}
use Rattle.channel_core.specs.ReceivingLaws.{SendsReadable}
use Rattle.channel_core.specs.declared.held.Outgoing.{Outgoing}
use Rattle.channel_laws.specs.Faults.{is_ending}
use Rattle.value_node.specs.RelayLaws.{IsGivenUp}
use Rattle.value_node.specs.Runs as value
use Rattle.value_node.specs.Runs.{UpperCall, above, below, bytes_end, upper_after}
use Rattle.value_node.specs.Value.{awaits, value_services}
use Rattle.value_node.specs.ValueValue.{ValueValue}
use Rattle.value_node.specs.declared.states.Side.TheVariants.{Below, Above}
use Rattle.chain_route.specs.Hop.{no_hop}
use Rattle.chain_route.specs.Passing.{queue_of}
use Rattle.chain_route.specs.Route.{is_live, last_of}
use Rattle.chain_route.specs.Runs.{Call, Past, RouteRun, Talk, after_all, cuts, is_waiting, no_calls}
use Rattle.chain_route.specs.declared.hop.Hop.{Hop}
use Rattle.list_laws.specs.Fronts.{IsFront}

-- ---- one end of a hop: what its node gave, the bytes that came to it, with their marks, and whether these have ended without
-- the end of the stream; and whether it is a channel that the agent refused

pub record End : Type 0 where
  pub gave : List Outgoing
  pub came : List Marked
  pub is_lost : Bool
  pub is_refused : Bool

-- the client's, and the agent's
abbrev pub end_of : Talk → End
end_of talk = record { gave = talk.gave; came = bytes_of talk.got; is_lost = talk.is_lost; is_refused = false }

abbrev pub agent_end : Talk → End
agent_end talk = record { gave = talk.gave; came = bytes_of talk.got; is_lost = talk.is_lost; is_refused = talk.is_refused }

-- a value-add's, below it since it was made, and above it since its connection
abbrev pub past_after : List ℕ → List value.Call → value.Past
past_after peer calls = (value.after_all calls (value.no_calls peer)).past

abbrev pub end_below : value.Past → End
end_below p = record {
  gave = (below p).past.given;
  came = arrived (p.until_bound ++ p.since_bound);
  is_lost = list_any is_ending (p.until_bound ++ p.since_bound);
  is_refused = false;
}

abbrev pub end_above : value.Past → End
end_above p = record {
  gave = (above p).past.given;
  came = arrived (unwrap_or p.connection []);
  is_lost = list_any is_ending (unwrap_or p.connection []);
  is_refused = false;
}

-- it gave nothing, and nothing came to it
abbrev pub IsUnused : End → Type 0
IsUnused e = (e.gave ≡ []) × (e.came ≡ [])

-- ---- a hop

-- on a live hop what one end gave is what came to the other and then what is in flight; else it came as far as it came. To a
-- channel that the agent refused nothing goes up
pub record HopCarries (hop : Hop) (lower upper : End) : Type 0 where
  pub up : hop.is_live ≡ true → upper.is_refused ≡ false → bytes_of lower.gave ≡ upper.came ++ bytes_of hop.up
  pub up_front : IsFront upper.came (bytes_of lower.gave)
  pub refuses : hop.is_live ≡ true → hop.is_refused ≡ upper.is_refused
  pub refused : upper.is_refused ≡ true → (upper.came ≡ []) × (hop.up ≡ [])
  pub down : hop.is_live ≡ true → bytes_of upper.gave ≡ lower.came ++ bytes_of hop.down
  pub down_front : IsFront lower.came (bytes_of upper.gave)
  pub dead : hop.is_live ≡ false → hop ≡ no_hop  -- nothing is in flight on one that isn't live
  -- one that is live was lost at neither end; else each end was never used, or the hop was lost to it
  pub lasting : hop.is_live ≡ true → (lower.is_lost ≡ false) × (upper.is_lost ≡ false)
  pub lost : hop.is_live ≡ false → IsUnused lower ⊎ (lower.is_lost ≡ true)
  pub lost_above : hop.is_live ≡ false → IsUnused upper ⊎ (upper.is_lost ≡ true)

abbrev pub IsDead : Hop → Type 0
IsDead hop = hop ≡ no_hop

-- ---- a way

-- a value-add that was made, by its calls
pub record Made : Type 0 where
  pub peer : List ℕ
  pub calls : List value.Call

abbrev pub past_of : Made → value.Past
past_of m = past_after m.peer m.calls

abbrev pub value_of : Made → ValueValue
value_of m = (value.after_all m.calls (value.no_calls m.peer)).value

-- the hops from this end on up to the agent's. Where value-adds are yet to be made, no hop beyond the last one that was made
-- is live, and the end below these hops was never used
abbrev pub AllCarry : End → List Hop → List Made → End → Type 0
AllCarry lower [] made agent = ⊥
AllCarry lower (hop ∷ hops) (m ∷ made) agent = HopCarries hop lower (end_below (past_of m)) × AllCarry (end_above (past_of m)) hops made agent
AllCarry lower (hop ∷ []) [] agent = HopCarries hop lower agent
AllCarry lower (hop ∷ hops) [] agent = IsUnused lower × AllByRecursion IsDead (hop ∷ hops)

-- a value-add above which another was made, or the agent was reached, has connected
abbrev pub HaveConnected : List Made → Bool → Type 0
HaveConnected [] is_reached = Unit {0}
HaveConnected (m ∷ []) is_reached = is_reached ≡ true → IsSome (past_of m).connection
HaveConnected (m ∷ made) is_reached = IsSome (past_of m).connection × HaveConnected made is_reached

-- all that a value-add queued was given
pub record GivesAll (v : ValueValue) : Type 0 where
  pub below : v.relay.lower.queued ≡ []
  pub above : queue_of v.relay.upper ≡ []

-- and none waits for a connection, but the last one for the agent
abbrev pub NoneAwaits : RouteRun → Type 0
NoneAwaits r = is_waiting r ≡ false → AllByRecursion (λ v. awaits v.relay ≡ false) r.route.adds

-- while the agent isn't reached the last hop isn't live
abbrev pub IsUnreached : RouteRun → Type 0
IsUnreached r = r.past.is_reached ≡ false → is_live (last_of r.route) r.route ≡ false

-- the agent is reached when all value-adds were made
abbrev pub IsReachedLast : List Made → List Hop → Past → Type 0
IsReachedLast made hops p = p.is_reached ≡ true → length hops ≡ length made + 1

-- what came to a channel of the agent that the way gave up: it was given by an end that took no Hello and whose node sent
-- nothing, and can be read
pub record IsGoneBy (got : List Outgoing) : Type 0 where
  pub calls : List UpperCall
  pub gone : IsGivenUp calls
  pub silent : sent_in calls (new_end value_services None) ≡ []
  pub readable : SendsReadable calls
  pub front : IsFront (bytes_of got) (bytes_of (upper_after calls).past.given)

-- ---- what a value-add lost

-- the bytes above a value-add have ended without the end of the stream
abbrev pub loses_above : value.Call → Bool
loses_above (bytes_end Below) = false
loses_above (bytes_end Above) = true
loses_above _ = false

abbrev pub was_lost_above : Made → Bool
was_lost_above m = list_any loses_above m.calls

abbrev pub is_cut_of : ℕ → Call → Bool
is_cut_of hop (cuts at) = at == hop
is_cut_of hop _ = false

-- the bytes above the value-add at this place ended only where the hop above it was cut
abbrev pub LosesByCut : List Call → ℕ → Made → Type 0
LosesByCut calls at m = was_lost_above m ≡ true → list_any (is_cut_of (at + 1)) calls ≡ true

-- from this place on
abbrev pub AllLoseByCuts : List Call → ℕ → List Made → Type 0
AllLoseByCuts calls at [] = Unit {0}
AllLoseByCuts calls at (m ∷ made) = LosesByCut calls at m × AllLoseByCuts calls (at + 1) made

-- ---- all of it, after these calls

pub record Carries (calls : List Call) (r : RouteRun) : Type 0 where
  pub made : List Made
  pub adds : r.route.adds ≡ map value_of made
  pub hops : AllCarry (end_of r.past.client) r.route.hops made (agent_end r.past.agent)
  pub connected : HaveConnected made r.past.is_reached
  pub reached : IsReachedLast made r.route.hops r.past
  pub earlier : AllByRecursion IsGoneBy r.past.earlier
  pub losses : AllLoseByCuts calls 0 made
  pub given : AllByRecursion GivesAll r.route.adds
  pub none_awaits : NoneAwaits r
  pub unreached : IsUnreached r

-- After every list of calls of a new way, with so many value-adds.
abbrev pub CarriesAfterAllCalls : Type 0
CarriesAfterAllCalls = (adds : ℕ) (calls : List Call) → Carries calls (after_all calls (no_calls adds))
