-- A client connects, or a value-add does; where that is to the agent, it opens the next number or refuses it.
use Rattle.std.proofs.Common.{◌≡◌, ℕ, ◌+◌, ◌<◌, ◌||◌, Bool, true, false, cond, nat_lt, List, [], ◌∷◌, ◌++◌, Option, Some, None, refl, sym, ap, ◌∙◌, subst, arith, append-nil, eq-eqb}
use Rattle.std.specs.Prelude.{is_some, slice_get, slice_set, ◌^◌}
use Rattle.std.specs.List.{AllByRecursion, Contains}
use Rattle.client_node.specs.Client.{opened as client_opened}
use Rattle.client_node.specs.Runs.{called, opened_from, opens as client_opens}
use Rattle.channel_core.specs.EndValue.{EndValue}
use Rattle.target_contexts.specs.declared.process.Image.{Image}
use Rattle.target_hub.specs.declared.input.Input.TheVariants.{Opened}
use Rattle.agent_node.specs.Agent.{opened as agent_opened}
use Rattle.agent_node.specs.AgentValue.{AgentValue}
use Rattle.agent_node.specs.Runs.{AgentRun, Past, input_if, opened_by as pasts_opened, opens}
use Rattle.tcf_schedules.specs.Plan.{Plan}
use Rattle.value_node.specs.declared.states.Side.{Side}
use Rattle.chain_route.specs.Route.{connected, turned as way_turned}
use Rattle.chain_route.specs.RouteValue.{RouteValue}
use Rattle.chain_route.specs.Runs.{RouteRun, after_call, joined_by, joins, turns}
use Rattle.chain_world.specs.Chain.{carried_up, channels_of, is_opened, none_reached, opened_by, reached}
use Rattle.chain_world.specs.ChainValue.{ChainValue}
use Rattle.chain_world.specs.Past as notes
use Rattle.chain_world.specs.Past.{ChainPast, client_gets, way_gets}
use Rattle.chain_world.specs.Standing.{AreBelow, AreNumbered, past_at}
use Rattle.chain_world.specs.World.{add_turned, after_number, carried, connected_at, on_chain, on_some, opened_at, opened_from as world_opened_from, opening, reached_at, reached_by, reached_from, reached_if, reached_with, with_chain, with_input, with_route}
use Rattle.chain_world.specs.WorldValue.{WorldValue}
use Rattle.chain_world.proofs.Agents.{Reached, reached_more}
use Rattle.chain_world.proofs.Chains.{client_agrees, inside_agrees, inside_fits, up_fits}
use Rattle.chain_world.proofs.Fitting.{Agrees, AllFit, Fits, IsWay, is_way_holds, place_of, way_on}
use Rattle.chain_world.proofs.Lists.{set_twice}
use Rattle.chain_world.proofs.Numbers.{HasMore, all_channels, at_contains, each_all, set_below, set_contains, set_differ, set_new}
use Rattle.chain_world.proofs.Pasts.{Keeps, apart_flag, at_more, at_new, keeps_same}
use Rattle.chain_world.proofs.Places.{StandsAt, set_stands, stands_at}
use Rattle.chain_world.proofs.Reaching.{Waits, new_talk, reached_chain, reached_fits}
use Rattle.chain_world.proofs.Talks.{IsCameSame, Talking, came_grown, talked_same, talks_same}
use Rattle.chain_world.proofs.Unawaited.{joined_unawaited, turned_unawaited}
use Rattle.chain_world.proofs.Ways.{connected_last, joined_waits, turned_joined, turned_waits}
use Rattle.chain_world.proofs.Worlds.{Standing, carried_stands, chain_stands}
use Rattle.list_laws.proofs.AllLists.{all_append, all_weaker as all_map}
use Rattle.list_laws.proofs.Lists.{get_set}

-- ---- The agent opens the next number, or refuses it

abbrev new_past : ℕ → AgentValue → Past
new_past k a = record { number = k; position = a.position + 1; calls = [] }

-- the channel is new
unpast : (k : ℕ) (numbers : List ℕ) (pasts : List Past) → AllByRecursion (λ j. j < k) numbers → AllByRecursion (λ past. Contains numbers past.number) pasts → past_at k pasts ≡ None
unpast k numbers [] below owned = refl
unpast k numbers (past ∷ pasts) below owned =
    let less : past.number < k = each_all (λ j. j < k) numbers below past.number owned.0 in
    ap (λ b. cond b (Some past) (past_at k pasts)) (apart_flag past.number k (λ same. let is : past.number ≡ k = same in omega arith)) ∙ unpast k numbers pasts below owned.1

begins_by : (did : Bool) (k : ℕ) (a : AgentValue) (pasts : List Past) → past_at k pasts ≡ None → Talking (past_at k (pasts_opened did k a pasts)) (new_talk did)
begins_by true k a pasts none =
    subst (λ past. Talking past (new_talk true)) (sym (at_new k pasts (new_past k a) none (eq-eqb k k refl))) (record { refused = refl; gave = refl; lost = refl; came = λ takes. refl; front = ([], refl) })
begins_by false k a pasts none = subst (λ past. Talking past (new_talk false)) (sym none) (record { refused = refl; gave = refl; lost = tt; came = λ takes. absurd cc; front = ([], refl) })

opened_keeps : (did : Bool) (k : ℕ) (a : AgentValue) (pasts : List Past) (j : ℕ) → j < k → Keeps j pasts (pasts_opened did k a pasts)
opened_keeps true k a pasts j less =
    let new = new_past k a in
    keeps_same j pasts (pasts ++ new ∷ []) (at_more j pasts new (apart_flag k j (λ same. let is : k ≡ j = same in omega arith)))
opened_keeps false k a pasts j less = keeps_same j pasts pasts refl

opened_owned : (did : Bool) (k : ℕ) (a : AgentValue) (pasts : List Past) (numbers more : List ℕ) → ((j : ℕ) → Contains numbers j → Contains more j) → Contains more k → AllByRecursion (λ past. Contains numbers past.number) pasts
    → AllByRecursion (λ past. Contains more past.number) (pasts_opened did k a pasts)
opened_owned true k a pasts numbers more within new owned =
    all_append (λ past. Contains more past.number) pasts (new_past k a ∷ []) (all_map (λ past. Contains numbers past.number) (λ past. Contains more past.number) pasts (λ past has. within past.number has) owned) (new, tt)
opened_owned false k a pasts numbers more within new owned =
    all_map (λ past. Contains numbers past.number) (λ past. Contains more past.number) pasts (λ past has. within past.number has) owned

next_below : (k : ℕ) (numbers : List ℕ) → AllByRecursion (λ j. j < k + 1) numbers → AreBelow (after_number k) numbers
next_below k numbers below = by_flag (nat_lt (k + 1) (2 ^ 64))
  where
    by_flag : (flag : Bool) → AreBelow (cond flag (Some (k + 1)) None) numbers
    by_flag true = below
    by_flag false = tt

module _ (plans : List Plan) (images : List Image) (adds : List ℕ) where
  -- ---- The way of a chain has reached the agent

  -- the past, where that of the chain at a place is this
  abbrev with_own : ℕ → ChainPast → notes.Past → notes.Past
  with_own at own past = record past { chains = slice_set past.chains at own }

  module _ (at : ℕ) (c d : ChainValue) (note : ChainPast → ChainPast) (w : WorldValue) (past : notes.Past) (s : Standing plans images adds w past) (there : slice_get w.chains at ≡ Some c) (same : channels_of d ≡ channels_of c)
      (waits : (pasts : List Past) (count : ℕ) (kept : ChainPast) → Fits (place_of plans at) pasts count c kept → Waits (place_of plans at) pasts count d (note kept)) where
    abbrev here : StandsAt (place_of plans at) s.run.channels adds past.chains at c
    here = stands_at plans s.run.channels adds w.chains past.chains at c there s.chains

    abbrev middle : WorldValue
    middle = with_chain at d w

    abbrev middle_past : notes.Past
    middle_past = with_own at (note here.own) past

    found : slice_get middle.chains at ≡ Some d
    found = get_set at w.chains d c there

    found_past : slice_get middle_past.chains at ≡ Some (note here.own)
    found_past = get_set at past.chains (note here.own) here.own here.is_kept

    -- no number is left
    refused_stands : Standing plans images adds (on_chain none_reached at middle) (notes.on_chain (notes.reached false) at middle middle_past)
    refused_stands =
        let next = none_reached d in
        let changed : on_chain none_reached at middle ≡ with_chain at next w =
        ap (λ o. on_some none_reached at o middle) found ∙ ap (λ chains. record w { chains = chains }) (set_twice at w.chains d next) in
        let then : ChainValue → ChainPast → ChainPast = λ x kept. notes.reached false d (note kept) in
        let noted : notes.on_chain (notes.reached false) at middle middle_past ≡ notes.on_some then at (Some c) (slice_get past.chains at) past =
        ap (λ o. notes.on_some (notes.reached false) at o (slice_get middle_past.chains at) middle_past) found
        ∙ ap (λ o. notes.on_some (notes.reached false) at (Some d) o middle_past) found_past
        ∙ ap (λ (chains : List ChainPast). record past { chains = chains }) (set_twice at past.chains (note here.own) (notes.reached false d (note here.own)))
        ∙ sym (ap (λ o. notes.on_some then at (Some c) o past) here.is_kept) in
        let fits : (pasts : List Past) (count : ℕ) (kept : ChainPast) → Fits (place_of plans at) pasts count c kept → Fits (place_of plans at) pasts count next (then c kept) =
        λ pasts count kept f.
        up_fits (place_of plans at) pasts count (reached_chain None false d) (reached_fits (place_of plans at) pasts pasts count d None false refl (λ j has. refl) (waits pasts count kept f)) in
        subst (Standing plans images adds (on_chain none_reached at middle)) (sym noted)
        (subst (λ x. Standing plans images adds x (notes.on_some then at (Some c) (slice_get past.chains at) past)) (sym changed)
        (chain_stands plans images adds then at c next w past there (append-nil (channels_of d) ∙ same) fits s))

    module _ (k : ℕ) (is : w.next ≡ Some k) where
      numbered : AreNumbered (Some k) s.run.channels (all_channels w.chains)
      numbered = subst (λ next. AreNumbered next s.run.channels (all_channels w.chains)) is s.numbered

      abbrev after : Bool → List Past
      after did = pasts_opened did k s.run.agent s.run.channels

      abbrev next_of : Bool → ChainValue
      next_of did = carried_up (reached_chain (Some k) did d)

      abbrev noted_of : Bool → ChainPast
      noted_of did = notes.reached did d (note here.own)

      none : past_at k s.run.channels ≡ None
      none = unpast k (all_channels w.chains) s.run.channels numbered.below numbered.owned

      below : (j : ℕ) → Contains (channels_of c) j → j < k
      below j has = each_all (λ i. i < k) (all_channels w.chains) numbered.below j (at_contains w.chains at c j there has)

      fits : (did : Bool) → Fits (place_of plans at) (after did) here.count (next_of did) (noted_of did)
      fits did =
          let came : (j : ℕ) → Contains (channels_of d) j → IsCameSame s.run.channels (after did) j =
          λ j has. came_grown (past_at j s.run.channels) (past_at j (after did)) (opened_keeps did k s.run.agent s.run.channels j (below j (subst (λ ks. Contains ks j) same has))) in
          up_fits (place_of plans at) (after did) here.count (reached_chain (Some k) did d)
          (reached_fits (place_of plans at) s.run.channels (after did) here.count d (Some k) did (begins_by did k s.run.agent s.run.channels none) came (waits s.run.channels here.count here.own here.fits))

      more : (did : Bool) → HasMore k c (next_of did)
      more did = ap (λ ks. ks ++ k ∷ []) same

      abbrev opened_world : Bool → AgentValue → WorldValue
      opened_world did a = with_input (opening did k) (record w { chains = slice_set w.chains at (next_of did); agent = a; next = after_number k })

      abbrev opened_past : Bool → notes.Past
      opened_past did = notes.agent_gets (opens k ∷ []) (with_own at (noted_of did) past)

      abbrev opened_run : Bool → AgentValue → AgentRun
      opened_run did a = record { agent = a; history = s.run.history ++ input_if did (Opened k); channels = after did }

      chains : (did : Bool) → AllFit plans (after did) 0 adds (slice_set w.chains at (next_of did)) (slice_set past.chains at (noted_of did))
      chains did =
          set_stands plans s.run.channels (after did) adds w.chains past.chains at here.count c (next_of did) (noted_of did) numbered.differ there here.there
          (λ j has apart. opened_keeps did k s.run.agent s.run.channels j (each_all (λ i. i < k) (all_channels w.chains) numbered.below j has)) (fits did) s.chains

      numbered_so : (did : Bool) → AreNumbered (after_number k) (after did) (all_channels (slice_set w.chains at (next_of did)))
      numbered_so did =
          let all = all_channels (slice_set w.chains at (next_of did)) in
          record {
            differ = set_differ k w.chains at c (next_of did) there (more did) numbered.below numbered.differ;
            below = next_below k all (set_below k w.chains at c (next_of did) there (more did) numbered.below);
            owned = opened_owned did k s.run.agent s.run.channels (all_channels w.chains) all (λ j has. set_contains k w.chains at c (next_of did) j there (more did) has)
                (set_new k w.chains at c (next_of did) there (more did)) numbered.owned;
          }

      opened_so : (did : Bool) (a : AgentValue) → Reached images (past.agent ++ opens k ∷ []) (opened_run did a) → Standing plans images adds (opened_world did a) (opened_past did)
      opened_so true a reached = record { run = opened_run true a; reached = reached; agent = refl; history = ap (λ h. h ++ Opened k ∷ []) s.history; chains = chains true; numbered = numbered_so true }
      opened_so false a reached = record { run = opened_run false a; reached = reached; agent = refl; history = append-nil s.run.history ∙ s.history; chains = chains false; numbered = numbered_so false }

      with_stands : Standing plans images adds (reached_with k at middle) (notes.reached_by (Some k) at middle middle_past)
      unfolding reached
      with_stands =
          let did = (agent_opened k w.agent).0 in
          let a = (agent_opened k w.agent).1 in
          let before : List ChainValue → WorldValue = λ chains. with_input (opening did k) (record w { chains = chains; agent = a; next = after_number k }) in
          let changed : reached_with k at middle ≡ carried (before (slice_set w.chains at (next_of did))) =
          ap (λ o. reached_from k at o middle) found ∙ ap (λ chains. carried (before chains)) (set_twice at w.chains d (next_of did)) in
          let twice : List ChainPast → notes.Past = λ chains. record { agent = past.agent ++ opens k ∷ []; chains = chains } in
          let noted : notes.reached_by (Some k) at middle middle_past ≡ notes.carried (before (slice_set w.chains at (next_of did))) (opened_past did) =
          ap (λ o. notes.reached_from k at o middle middle_past) found
          ∙ ap (λ o. notes.carried (notes.reached_world k at d middle) (notes.agent_gets (opens k ∷ []) (notes.on_some (notes.reached did) at (Some d) o middle_past))) found_past
          ∙ ap (λ chains. notes.carried (notes.reached_world k at d middle) (twice chains)) (set_twice at past.chains (note here.own) (noted_of did))
          ∙ ap (λ chains. notes.carried (before chains) (opened_past did)) (set_twice at w.chains d (next_of did)) in
          let P : AgentValue → Type 0 = λ x. Standing plans images adds (opened_world (agent_opened k x).0 (agent_opened k x).1) (opened_past (agent_opened k x).0) in
          let so : P w.agent = subst P s.agent (opened_so (agent_opened k s.run.agent).0 (agent_opened k s.run.agent).1 (reached_more images s.run (opens k ∷ []) s.reached)) in
          subst (Standing plans images adds (reached_with k at middle)) (sym noted)
          (subst (λ x. Standing plans images adds x (notes.carried (opened_world did a) (opened_past did))) (sym changed) (carried_stands plans images adds (opened_world did a) (opened_past did) so))

    by_next : (next : Option ℕ) → w.next ≡ next → Standing plans images adds (reached_by next at middle) (notes.reached_by next at middle middle_past)
    by_next None is = refused_stands
    by_next (Some k) is = with_stands k is

    reached_stands : Standing plans images adds (reached_at at (with_chain at d w)) (notes.reached_by w.next at (with_chain at d w) (with_own at (note here.own) past))
    reached_stands = by_next w.next refl

  -- ---- The client connects

  unopened : (channel : Option (EndValue ℕ)) → is_some channel ≡ false → channel ≡ None
  unopened None closed = refl
  unopened (Some e) closed = absurd cc

  -- the calls of it
  abbrev asked_past : ChainPast → ChainPast
  asked_past kept = way_gets joins (client_gets (client_opens ∷ []) kept)

  module _ (at : ℕ) (c : ChainValue) (w : WorldValue) (past : notes.Past) (s : Standing plans images adds w past) (there : slice_get w.chains at ≡ Some c) (closed : is_opened c ≡ false) where
    abbrev asked : ChainValue
    asked = record c { client = client_opened c.client }

    client_is : called client_opens c.client ≡ client_opened c.client
    client_is = ap (λ channel. opened_from channel c.client) (unopened c.client.channel closed)

    -- the way wants a connection, and none was made
    joins_now : (pasts : List Past) (count : ℕ) (kept : ChainPast) → (f : Fits (place_of plans at) pasts count c kept)
        → IsWay (place_of plans at) count (kept.ways ++ joins ∷ []) (joined_by (connected 0 f.now.route) f.now.past)
    joins_now pasts count kept f =
        let next = joined_by (connected 0 f.now.route) f.now.past in
        let idle : (f.now.past.is_wanted || f.now.past.is_joined) ≡ false = ap (λ b. b || f.now.past.is_joined) f.unwanted ∙ (sym f.opened ∙ closed) in
        subst (IsWay (place_of plans at) count (kept.ways ++ joins ∷ [])) (ap (λ b. cond {A = RouteRun} b f.now next) idle) (way_on (place_of plans at) count joins f.now tt f.way)

    asked_agrees : (pasts : List Past) (count : ℕ) (kept : ChainPast) → (f : Fits (place_of plans at) pasts count c kept) → Agrees (place_of plans at) pasts asked (kept.calls ++ client_opens ∷ []) f.now
    asked_agrees pasts count kept f =
        subst (λ x. Agrees (place_of plans at) pasts (record c { client = x }) (kept.calls ++ client_opens ∷ []) f.now) client_is (client_agrees (place_of plans at) pasts c kept.calls f.now client_opens tt (tt, tt) f.agrees)

    connects : (q : RouteValue) → connected 0 c.route ≡ (true, q) → (pasts : List Past) (count : ℕ) (kept : ChainPast) → Fits (place_of plans at) pasts count c kept
        → Waits (place_of plans at) pasts count (record asked { route = q }) (asked_past kept)
    connects q is pasts count kept f =
        let did : (connected 0 c.route).0 ≡ true = ap (λ (x : Bool × RouteValue). x.0) is in
        let same : connected 0 f.now.route ≡ (true, f.now.route) = connected_last f.now.route (ap (λ r. (connected 0 r).0) (sym f.agrees.route) ∙ did) in
        let route_is : q ≡ c.route = ap (λ (x : Bool × RouteValue). x.1) (sym is ∙ connected_last c.route did) in
        let now : RouteRun = record { route = f.now.route; past = record f.now.past { is_wanted = true } } in
        let a = asked_agrees pasts count kept f in
        let wanted : Agrees (place_of plans at) pasts asked (kept.calls ++ client_opens ∷ []) now = record {
          client = a.client;
          allowed = a.allowed;
          route = a.route;
          gave = a.gave;
          got = a.got;
          lost = a.lost;
          talks = talks_same c.channel f.now.past now.past pasts (record { reached = refl; agent = refl; earlier = refl }) a.talks;
          talked = talked_same f.now.past now.past pasts c.earlier refl a.talked;
        } in
        record {
          now = now;
          way = subst (IsWay (place_of plans at) count (kept.ways ++ joins ∷ [])) (ap (λ x. joined_by x f.now.past) same) (joins_now pasts count kept f);
          agrees = subst (λ r. Agrees (place_of plans at) pasts (record asked { route = r }) (kept.calls ++ client_opens ∷ []) now) (sym route_is) wanted;
          waiting = joined_waits f.now (ap (λ (x : Bool × RouteValue). x.0) same);
          opened = refl;
        }

    joined_fits : (q : RouteValue) → connected 0 c.route ≡ (false, q) → (pasts : List Past) (count : ℕ) (kept : ChainPast) → Fits (place_of plans at) pasts count c kept
        → Fits (place_of plans at) pasts count (record asked { route = q }) (asked_past kept)
    joined_fits q is pasts count kept f =
        let same : connected 0 f.now.route ≡ (false, q) = ap (connected 0) (sym f.agrees.route) ∙ is in
        let now : RouteRun = record { route = q; past = record f.now.past { is_joined = true } } in
        let a = asked_agrees pasts count kept f in
        record {
          now = now;
          way = subst (IsWay (place_of plans at) count (kept.ways ++ joins ∷ [])) (ap (λ x. joined_by x f.now.past) same) (joins_now pasts count kept f);
          agrees = record {
            client = a.client;
            allowed = a.allowed;
            route = refl;
            gave = a.gave;
            got = a.got;
            lost = a.lost;
            talks = talks_same c.channel f.now.past now.past pasts (record { reached = refl; agent = refl; earlier = refl }) a.talks;
            talked = talked_same f.now.past now.past pasts c.earlier refl a.talked;
          };
          unwanted = f.unwanted;
          settled = joined_unawaited f.now q now.past refl same f.settled;
          opened = refl;
        }

    abbrev own : ChainPast
    own = (stands_at plans s.run.channels adds w.chains past.chains at c there s.chains).own

    kept_is : slice_get past.chains at ≡ Some own
    kept_is = (stands_at plans s.run.channels adds w.chains past.chains at c there s.chains).is_kept

    connected_stands : Standing plans images adds (connected_at at c w) (notes.connected_at at c w past)
    connected_stands = subst (λ x. Standing plans images adds (connected_at at c w) (notes.reached_if at (opened_by (connected 0 c.route) asked) w x)) (sym noted) (by_pair (connected 0 c.route) refl)
      where
        after : Bool × RouteValue → notes.Past
        after x = with_own at (notes.opened_by x asked (asked_past own)) past

        noted : notes.on_chain notes.opened at w past ≡ after (connected 0 c.route)
        noted = ap (λ o. notes.on_some notes.opened at o (slice_get past.chains at) past) there ∙ ap (λ o. notes.on_some notes.opened at (Some c) o past) kept_is

        by_pair : (x : Bool × RouteValue) → connected 0 c.route ≡ x → Standing plans images adds (reached_if at (opened_by x asked) w) (notes.reached_if at (opened_by x asked) w (after x))
        by_pair (true, q) is = reached_stands at c (record asked { route = q }) asked_past w past s there refl (connects q is)
        by_pair (false, q) is =
            let then : ChainValue → ChainPast → ChainPast = λ x kept. notes.carried_up asked (asked_past kept) in
            subst (Standing plans images adds (with_chain at (carried_up (record asked { route = q })) w)) (ap (λ o. notes.on_some then at (Some c) o past) kept_is)
            (chain_stands plans images adds then at c (carried_up (record asked { route = q })) w past there refl
            (λ pasts count kept f. up_fits (place_of plans at) pasts count (record asked { route = q }) (joined_fits q is pasts count kept f)) s)

  pub opened_stands : (at : ℕ) (w : WorldValue) (past : notes.Past) → Standing plans images adds w past → Standing plans images adds (opened_at at w) (notes.opened_at at w past)
  opened_stands at w past s = by_place (slice_get w.chains at) refl
    where
      by_flag : (c : ChainValue) (flag : Bool) → slice_get w.chains at ≡ Some c → is_opened c ≡ flag
          → Standing plans images adds (cond flag w (connected_at at c w)) (cond flag past (notes.connected_at at c w past))
      by_flag c true there is = s
      by_flag c false there is = connected_stands at c w past s there is

      by_place : (there : Option ChainValue) → slice_get w.chains at ≡ there → Standing plans images adds (world_opened_from at there w) (notes.opened_from at there w past)
      by_place None is = s
      by_place (Some c) is = by_flag c (is_opened c) is refl

  -- ---- A value-add takes an entry, and connects where it is redirected

  pub add_stands : (at add : ℕ) (side : Side) (w : WorldValue) (past : notes.Past) → Standing plans images adds w past
      → Standing plans images adds (add_turned at add side (slice_get w.chains at) w) (notes.add_turned at add side (slice_get w.chains at) w past)
  add_stands at add side w past s = by_place (slice_get w.chains at) refl
    where
      note : ChainPast → ChainPast
      note kept = way_gets (turns side add) kept

      turned : (c : ChainValue) (q : RouteValue) → way_turned side add c.route ≡ (false, q) → (pasts : List Past) (count : ℕ) (kept : ChainPast) → Fits (place_of plans at) pasts count c kept
          → Fits (place_of plans at) pasts count (record c { route = q }) (note kept)
      turned c q is pasts count kept f =
          let isnt : (way_turned side add f.now.route).0 ≡ false = ap (λ r. (way_turned side add r).0) (sym f.agrees.route) ∙ ap (λ (x : Bool × RouteValue). x.0) is in
          subst (λ (x : Bool × RouteValue). Fits (place_of plans at) pasts count (record c { route = x.1 }) (note kept)) is (inside_fits (place_of plans at) pasts count c (turns side add) (λ r. (way_turned side add r).1) tt (record { is = λ x. refl }) f (turned_unawaited side add f.now isnt f.settled))

      waits : (c : ChainValue) (q : RouteValue) → way_turned side add c.route ≡ (true, q) → (pasts : List Past) (count : ℕ) (kept : ChainPast) → Fits (place_of plans at) pasts count c kept
          → Waits (place_of plans at) pasts count (record c { route = q }) (note kept)
      waits c q is pasts count kept f =
          let same : way_turned side add f.now.route ≡ (true, q) = ap (way_turned side add) (sym f.agrees.route) ∙ is in
          let did : (way_turned side add f.now.route).0 ≡ true = ap (λ (x : Bool × RouteValue). x.0) same in
          let holds = is_way_holds (place_of plans at) count f.now f.way in
          record {
            now = after_call (turns side add) f.now;
            way = way_on (place_of plans at) count (turns side add) f.now tt f.way;
            agrees = subst (λ (x : Bool × RouteValue). Agrees (place_of plans at) pasts (record c { route = x.1 }) kept.calls (after_call (turns side add) f.now)) is (inside_agrees (place_of plans at) pasts c kept.calls f.now (λ r. (way_turned side add r).1) f.agrees);
            waiting = turned_waits side add f.now holds did;
            opened = f.opened ∙ turned_joined side add f.now holds did;
          }

      by_chain : (c : ChainValue) → slice_get w.chains at ≡ Some c → Standing plans images adds (add_turned at add side (Some c) w) (notes.add_turned at add side (Some c) w past)
      by_chain c there = subst (λ x. Standing plans images adds (add_turned at add side (Some c) w) (notes.reached_if at (with_route (way_turned side add c.route) c) w x)) (sym noted) (by_pair (way_turned side add c.route) refl)
        where
          here : StandsAt (place_of plans at) s.run.channels adds past.chains at c
          here = stands_at plans s.run.channels adds w.chains past.chains at c there s.chains

          noted : notes.on_chain (λ d kept. note kept) at w past ≡ with_own at (note here.own) past
          noted = ap (λ o. notes.on_some (λ d kept. note kept) at o (slice_get past.chains at) past) there ∙ ap (λ o. notes.on_some (λ d kept. note kept) at (Some c) o past) here.is_kept

          by_pair : (x : Bool × RouteValue) → way_turned side add c.route ≡ x
              → Standing plans images adds (reached_if at (with_route x c) w) (notes.reached_if at (with_route x c) w (with_own at (note here.own) past))
          by_pair (true, q) is = reached_stands at c (record c { route = q }) note w past s there refl (waits c q is)
          by_pair (false, q) is =
              subst (Standing plans images adds (with_chain at (record c { route = q }) w)) (ap (λ o. notes.on_some (λ d kept. note kept) at (Some c) o past) here.is_kept)
              (chain_stands plans images adds (λ d kept. note kept) at c (record c { route = q }) w past there refl (turned c q is) s)

      by_place : (there : Option ChainValue) → slice_get w.chains at ≡ there → Standing plans images adds (add_turned at add side there w) (notes.add_turned at add side there w past)
      by_place None is = s
      by_place (Some c) is = by_chain c is
