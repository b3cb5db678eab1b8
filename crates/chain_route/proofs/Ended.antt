-- What the client and the agent give, and what comes to them: a way carries on.
use Rattle.std.proofs.Common.{◌≡◌, ℕ, zero, true, false, List, [], ◌∷◌, Some, refl, sym, ap, ◌∙◌, subst, arith}
use Rattle.std.specs.Prelude.{slice_get, slice_set}
use Rattle.channel_core.specs.Arrivals.{bytes_of}
use Rattle.channel_core.specs.declared.held.Outgoing.{Outgoing}
use Rattle.value_node.specs.ValueValue.{ValueValue}
use Rattle.value_node.specs.declared.states.Side.TheVariants.{Below, Above}
use Rattle.chain_route.specs.Carrying.{End, IsDead, Made, agent_end, end_of}
use Rattle.chain_route.specs.Hop.{no_hop}
use Rattle.chain_route.specs.Hop as hop
use Rattle.chain_route.specs.Lane.{arriving, staying}
use Rattle.chain_route.specs.Route.{arrived_down, arrived_up, flight_down, flight_up, hop_put, last_of, on_hop, sent_down, sent_up, up_of}
use Rattle.chain_route.specs.Runs.{Call, Past, RouteRun, Talk, gets, gives, no_talk, with_agent, with_client}
use Rattle.chain_route.specs.declared.hop.Hop.{Hop}
use Rattle.chain_route.proofs.Bytes.{bytes_more}
use Rattle.chain_route.proofs.Flows.{HopHolds, Tip, came_more, dead_came, dead_given, down_came, down_given, up_came, up_given}
use Rattle.chain_route.proofs.Holding.{Holds, agent_tip, client_tip}
use Rattle.chain_route.proofs.Places.{HasLast, has_last, last_changed, last_is, last_place}
use Rattle.chain_route.proofs.Towers.{first_changed}
use Rattle.chain_route.proofs.Ways.{Way, all_dead, last_dead, last_set}
use Rattle.list_laws.proofs.Lists.{set_length}

abbrev run_by : List Hop → List ValueValue → Past → RouteRun
run_by hops adds p = record { route = record { hops = hops; adds = adds }; past = p }

-- ---- The client's hop

module _ (calls : List Call) (change : Hop → Hop) (dead : (h : Hop) → IsDead h → IsDead (change h)) where
  first_way : (lower next : Tip) (h : Hop) (hops : List Hop) (made : List Made) (agent : Tip) → ((upper : Tip) → HopHolds h lower upper → HopHolds (change h) next upper)
      → Way lower (h ∷ hops) made agent → Way next (change h ∷ hops) made agent
  first_way lower next h hops made agent carries way = record {
    all = first_changed lower next h (change h) hops made agent carries (dead h) way.all;
    connected = way.connected;
    reached = way.reached;
    unreached = λ is. last_set zero (h ∷ hops) h (change h) refl (dead h) (way.unreached is);
    unconnected = way.unconnected;
  }

  -- the client's talk goes on, and is none where it hasn't connected
  first_holds : {made : List Made} → (talk : Talk) (hops : List Hop) (adds : List ValueValue) (p : Past)
      → ((h : Hop) (upper : Tip) → slice_get hops 0 ≡ Some h → HopHolds h (client_tip p) upper → HopHolds (change h) (record { end = end_of talk; is_used = p.is_joined }) upper)
      → (p.is_joined ≡ false → talk ≡ no_talk) → Holds calls (run_by hops adds p) made
      → Holds calls (record { route = on_hop change 0 (record { hops = hops; adds = adds }); past = with_client talk p }) made
  first_holds talk [] adds p carries none h = absurd h.way.all
  first_holds {made = made} talk (x ∷ hops) adds p carries none h = record {
    adds = h.adds;
    way = first_way (client_tip p) (record { end = end_of talk; is_used = p.is_joined }) x hops made (agent_tip p) (λ upper. carries x upper refl) h.way;
    unmade = h.unmade;
    unjoined = none;
    unreached = h.unreached;
    none_earlier = h.none_earlier;
    wanted = h.wanted;
    unstarted = h.unstarted;
    started = h.started;
    earlier = h.earlier;
    losses = h.losses;
  }

-- ---- The agent's hop

last_way : (agent : Tip) (next : End) (lower : Tip) (hops : List Hop) (made : List Made) (last after : Hop) → slice_get hops (last_place hops) ≡ Some last
    → ((l : Tip) → HopHolds last l agent → HopHolds after l (record agent { end = next })) → (IsDead last → IsDead after)
    → Way lower hops made agent → Way lower (slice_set hops (last_place hops) after) made (record agent { end = next })
last_way agent next lower hops made last after there carries dead way = record {
  all = last_changed agent (record agent { end = next }) lower hops made last after there carries dead way.all;
  connected = way.connected;
  reached = λ is. set_length (last_place hops) hops after ∙ way.reached is;
  unreached = λ is. last_set (last_place hops) hops last after there dead (way.unreached is);
  unconnected = λ more. way.unconnected (omega (arith, more, set_length (last_place hops) hops after));
}

-- ---- Each call

pub sends_up_holds : {made : List Made} → (outs : List Outgoing) (calls : List Call) (hops : List Hop) (adds : List ValueValue) (p : Past) → p.is_joined ≡ true → Holds calls (run_by hops adds p) made
    → Holds calls (record { route = sent_up outs (record { hops = hops; adds = adds }); past = with_client (gives outs p.client) p }) made
sends_up_holds outs calls hops adds p joined h =
    first_holds calls (hop.sent_up outs) (λ x. dead_up x) (gives outs p.client) hops adds p (λ x upper there c. up_given outs x (client_tip p) upper c)
    (λ is. absurd (both is)) h
  where
    dead_up : (x : Hop) → IsDead x → IsDead (hop.sent_up outs x)
    dead_up x dead = let P : Hop → Type 0 = λ y. hop.sent_up outs y ≡ no_hop in subst P (sym dead) refl

    both : p.is_joined ≡ false → ⊥
    both is = let no : true ≡ false = sym joined ∙ is in cc

got_more : (talk : Talk) (parts : List Outgoing) → end_of (gets parts talk) ≡ came_more (bytes_of parts) (end_of talk)
got_more talk parts = ap (λ bs. record { gave = talk.gave; came = bs; is_lost = talk.is_lost; is_refused = false }) (bytes_more (λ mark. mark) talk.got parts)

pub arrives_down_holds : {made : List Made} → (count : ℕ) (calls : List Call) (hops : List Hop) (adds : List ValueValue) (p : Past) → Holds calls (run_by hops adds p) made
    → Holds calls (record {
      route = arrived_down count (record { hops = hops; adds = adds });
      past = with_client (gets (arriving count (flight_down (record { hops = hops; adds = adds }))) p.client) p;
    }) made
arrives_down_holds count calls [] adds p h = absurd h.way.all
arrives_down_holds count calls (x ∷ hops) adds p h =
    let parts = arriving count x.down in
    first_holds calls (λ y. record y { down = staying count y.down }) (dead_came Above count) (gets parts p.client) (x ∷ hops) adds p
    (λ y upper there c. let is : x ≡ y = cc in subst (λ z. HopHolds (record z { down = staying count z.down }) (talks (gets parts p.client)) upper) is (carries upper (subst (λ z. HopHolds z (client_tip p) upper) (sym is) c)))
    none h
  where
    talks : Talk → Tip
    talks talk = record { end = end_of talk; is_used = p.is_joined }

    carries : (upper : Tip) → HopHolds x (client_tip p) upper → HopHolds (record x { down = staying count x.down }) (talks (gets (arriving count x.down) p.client)) upper
    carries upper c =
        subst (λ e. HopHolds (record x { down = staying count x.down }) (record { end = e; is_used = p.is_joined }) upper) (sym (got_more p.client (arriving count x.down)))
        (down_came count x (client_tip p) upper c)

    none : p.is_joined ≡ false → gets (arriving count x.down) p.client ≡ no_talk
    none is =
        let made : Way (client_tip p) (x ∷ hops) [] (agent_tip p) = subst (λ ms. Way (client_tip p) (x ∷ hops) ms (agent_tip p)) (h.unmade is) h.way in
        let dead = all_dead (client_tip p) (x ∷ hops) (agent_tip p) (h.unstarted is) made in
        ap (λ y. gets (arriving count y.down) p.client) dead.0 ∙ ap (gets []) (h.unjoined is)

-- ---- The agent's side

-- the agent's talk goes on, and is none where it wasn't reached
last_holds : {made : List Made} → (calls : List Call) (change : Hop → Hop) (dead : (h : Hop) → IsDead h → IsDead (change h)) (talk : Talk) (x : Hop) (hops : List Hop) (adds : List ValueValue) (p : Past)
    → ((l : Tip) (h : Hop) → slice_get (x ∷ hops) (last_place (x ∷ hops)) ≡ Some h → HopHolds h l (agent_tip p) → HopHolds (change h) l (record { end = agent_end talk; is_used = p.is_reached }))
    → (p.is_reached ≡ false → talk ≡ no_talk) → Holds calls (run_by (x ∷ hops) adds p) made
    → Holds calls (record { route = on_hop change (last_of (record { hops = x ∷ hops; adds = adds })) (record { hops = x ∷ hops; adds = adds }); past = with_agent talk p }) made
last_holds {made = made} calls change dead talk x hops adds p carries none h =
    subst (λ n. Holds calls (record { route = on_hop change n (record { hops = x ∷ hops; adds = adds }); past = with_agent talk p }) made) (sym (last_is x hops))
    (subst (λ o. Holds calls (record { route = hop_put change (last_place (x ∷ hops)) o (record { hops = x ∷ hops; adds = adds }); past = with_agent talk p }) made) (sym has.there) holds)
  where
    has : HasLast (x ∷ hops)
    has = has_last x hops

    holds : Holds calls (record { route = record { hops = slice_set (x ∷ hops) (last_place (x ∷ hops)) (change has.last); adds = adds }; past = with_agent talk p }) made
    holds = record {
      adds = h.adds;
      way = last_way (agent_tip p) (agent_end talk) (client_tip p) (x ∷ hops) made has.last (change has.last) has.there (λ l c. carries l has.last has.there c) (dead has.last) h.way;
      unmade = h.unmade;
      unjoined = h.unjoined;
      unreached = none;
      none_earlier = h.none_earlier;
      wanted = h.wanted;
      unstarted = h.unstarted;
      started = λ is more. h.started is (omega (arith, more, set_length (last_place (x ∷ hops)) (x ∷ hops) (change has.last)));
      earlier = h.earlier;
      losses = h.losses;
    }

pub sends_down_holds : {made : List Made} → (outs : List Outgoing) (calls : List Call) (hops : List Hop) (adds : List ValueValue) (p : Past) → p.is_reached ≡ true → Holds calls (run_by hops adds p) made
    → Holds calls (record { route = sent_down outs (record { hops = hops; adds = adds }); past = with_agent (gives outs p.agent) p }) made
sends_down_holds outs calls [] adds p reached h = absurd h.way.all
sends_down_holds outs calls (x ∷ hops) adds p reached h =
    last_holds calls (hop.sent_down outs) dead_down (gives outs p.agent) x hops adds p (λ l y there c. down_given outs y l (agent_tip p) c) (λ is. absurd (both is)) h
  where
    dead_down : (y : Hop) → IsDead y → IsDead (hop.sent_down outs y)
    dead_down y dead = dead_given Below outs y dead

    both : p.is_reached ≡ false → ⊥
    both is = let no : true ≡ false = sym reached ∙ is in cc

agent_got_more : (talk : Talk) (parts : List Outgoing) → agent_end (gets parts talk) ≡ came_more (bytes_of parts) (agent_end talk)
agent_got_more talk parts = ap (λ bs. record { gave = talk.gave; came = bs; is_lost = talk.is_lost; is_refused = talk.is_refused }) (bytes_more (λ mark. mark) talk.got parts)

pub arrives_up_holds : {made : List Made} → (count : ℕ) (calls : List Call) (hops : List Hop) (adds : List ValueValue) (p : Past) → Holds calls (run_by hops adds p) made
    → Holds calls (record {
      route = arrived_up count (record { hops = hops; adds = adds });
      past = with_agent (gets (arriving count (flight_up (record { hops = hops; adds = adds }))) p.agent) p;
    }) made
arrives_up_holds count calls [] adds p h = absurd h.way.all
arrives_up_holds count calls (x ∷ hops) adds p h = last_holds calls change (dead_came Below count) (gets (arriving count flight) p.agent) x hops adds p carries none h
  where
    change : Hop → Hop
    change y = record y { up = staying count y.up }

    flight : List Outgoing
    flight = flight_up (record { hops = x ∷ hops; adds = adds })

    talks : Talk → Tip
    talks talk = record { end = agent_end talk; is_used = p.is_reached }

    flight_is : (y : Hop) → slice_get (x ∷ hops) (last_place (x ∷ hops)) ≡ Some y → flight ≡ y.up
    flight_is y there = ap (λ n. up_of (slice_get (x ∷ hops) n)) (last_is x hops) ∙ ap up_of there

    carries : (l : Tip) (y : Hop) → slice_get (x ∷ hops) (last_place (x ∷ hops)) ≡ Some y → HopHolds y l (agent_tip p) → HopHolds (change y) l (talks (gets (arriving count flight) p.agent))
    carries l y there c =
        subst (λ u. HopHolds (change y) l (talks (gets (arriving count u) p.agent))) (sym (flight_is y there))
        (subst (λ e. HopHolds (change y) l (record { end = e; is_used = p.is_reached })) (sym (agent_got_more p.agent (arriving count y.up))) (up_came count y l (agent_tip p) c))

    none : p.is_reached ≡ false → gets (arriving count flight) p.agent ≡ no_talk
    none is =
        let has = has_last x hops in
        let dead : IsDead has.last = last_dead (x ∷ hops) has.last has.there (h.way.unreached is) in
        ap (λ u. gets (arriving count u) p.agent) (flight_is has.last has.there ∙ ap (λ y. y.up) dead) ∙ ap (gets []) (h.unreached is)
