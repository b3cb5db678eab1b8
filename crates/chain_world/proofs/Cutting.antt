-- A hop of a chain is cut: the client, or the agent, loses what came over it.
use Rattle.std.proofs.Common.{◌≡◌, ℕ, ◌==◌, Bool, true, false, ◌&&◌, ◌||◌, cond, List, [], ◌∷◌, ◌++◌, Option, Some, None, refl, sym, ap, ◌∙◌, subst, append-nil, eqb-true}
use Rattle.std.specs.Prelude.{is_some, option_map}
use Rattle.std.specs.List.{AllByRecursion, Contains, list_any}
use Rattle.agent_node.specs.Runs.{Past, with_calls}
use Rattle.channel_core.specs.Arrivals.{arrived, bytes_of}
use Rattle.channel_core.specs.Runs.{ending}
use Rattle.channel_laws.specs.Faults.{is_ending}
use Rattle.client_node.specs.Client.{new_client}
use Rattle.client_node.specs.ClientValue.{ClientValue}
use Rattle.client_node.specs.Ends.{end_calls, given_out}
use Rattle.client_node.specs.Runs.{Call as ClientCall, bytes_end, called, run}
use Rattle.chain_route.specs.Route as route
use Rattle.chain_route.specs.Route.{is_live, last_of}
use Rattle.chain_route.specs.RouteValue.{RouteValue}
use Rattle.chain_route.specs.Runs.{Past as WayPast, RouteRun, Talk, after_call, cuts, is_waiting, loses_if}
use Rattle.chain_world.specs.ChainValue.{ChainValue}
use Rattle.chain_world.specs.Past.{ChainPast, client_gets, way_gets}
use Rattle.chain_world.specs.Standing.{cuts_at, past_at}
use Rattle.chain_world.proofs.Chains.{joined_where_live}
use Rattle.chain_world.proofs.Clients.{loses_so, opened_kept}
use Rattle.chain_world.proofs.Fitting.{Agrees, Fits, IsWay, MayCall, Place, is_more, way_on}
use Rattle.chain_world.proofs.Talks.{IsCameSame, Talking, TalkingOn, none_same, talked_kept, talks_cut}
use Rattle.chain_world.proofs.Unawaited.{cut_unawaited}
use Rattle.list_laws.proofs.Flags.{or_true as or_yes}
use Rattle.list_laws.proofs.AllLists.{all_append}

-- ---- The agent's channel

abbrev pub cut_if : Bool → Option Past → Option Past
cut_if last past = cond last (option_map (with_calls (ending ∷ [])) past) past

lost_gave : (last : Bool) (talk : Talk) → (loses_if last talk).gave ≡ talk.gave
lost_gave true talk = refl
lost_gave false talk = refl

lost_shut : (last : Bool) (talk : Talk) → (loses_if last talk).is_refused ≡ talk.is_refused
lost_shut true talk = refl
lost_shut false talk = refl

lost_talks : (last : Bool) (past : Option Past) (talk : Talk) → Talking past talk → Talking (cut_if last past) (loses_if last talk)
lost_talks true past talk t = talks_cut past talk t
lost_talks false past talk t = t

cut_talks : (channel : Option ℕ) (last : Bool) (p w : WayPast) (pasts after : List Past) → w.is_reached ≡ p.is_reached → w.agent ≡ loses_if last p.agent → ((k : ℕ) → channel ≡ Some k → past_at k after ≡ cut_if last (past_at k pasts))
    → TalkingOn channel p pasts → TalkingOn channel w after
cut_talks None last p w pasts after reached agent is t = none_same p w reached (ap (λ talk. talk.gave) agent ∙ lost_gave last p.agent) (ap (λ talk. talk.is_refused) agent ∙ lost_shut last p.agent) t
cut_talks (Some k) last p w pasts after reached agent is t =
    let here : Talking (cut_if last (past_at k pasts)) (loses_if last p.agent) = lost_talks last (past_at k pasts) p.agent t.1 in
    (reached ∙ t.0, subst (λ past. Talking past w.agent) (sym (is k refl)) (subst (Talking (cut_if last (past_at k pasts))) (sym agent) here))

cut_live : (hop : ℕ) (r : RouteValue) → (route.cut hop r).0 ≡ true → is_live hop r ≡ true
cut_live hop r did = by_flag (is_live hop r) _ did
  where
    by_flag : (flag : Bool) (next : RouteValue) → (cond {A = Bool × RouteValue} flag (true, next) (false, r)).0 ≡ true → flag ≡ true
    by_flag true next is = refl
    by_flag false next is = is

module _ (p : Place) where
  -- ---- The client

  record ClientCut (c : ClientValue) (next : ClientValue) (later : Talk) (calls : List ClientCall) : Type 0 where
    allowed : AllByRecursion (MayCall p) calls
    client : next ≡ run calls new_client
    gave : later.gave ≡ given_out calls new_client
    got : bytes_of later.got ≡ arrived (end_calls calls new_client)
    lost : later.is_lost ≡ list_any is_ending (end_calls calls new_client)
    opened : is_some next.channel ≡ is_some c.channel

  spared : (pasts : List Past) (chain : ChainValue) (calls : List ClientCall) (now : RouteRun) → Agrees p pasts chain calls now → ClientCut chain.client chain.client now.past.client calls
  spared pasts chain calls now a = record { allowed = a.allowed; client = a.client; gave = a.gave; got = a.got; lost = a.lost; opened = refl }

  gone : (pasts : List Past) (chain : ChainValue) (calls : List ClientCall) (now : RouteRun) → MayCall p bytes_end → is_some chain.client.channel ≡ true → Agrees p pasts chain calls now
      → ClientCut chain.client (called bytes_end chain.client) (record now.past.client { is_lost = true }) (calls ++ bytes_end ∷ [])
  gone pasts chain calls now may opened a =
      let more = is_more calls (bytes_end ∷ []) chain.client a.client in
      let does = loses_so chain.client opened in
      record {
        allowed = all_append (MayCall p) calls (bytes_end ∷ []) a.allowed (may, tt);
        client = sym more.client;
        gave = a.gave ∙ sym (more.gave ∙ ap (λ outs. given_out calls new_client ++ outs) does.given ∙ append-nil (given_out calls new_client));
        got = a.got ∙ sym (more.got ∙ ap (λ bs. arrived (end_calls calls new_client) ++ bs) does.arrived ∙ append-nil (arrived (end_calls calls new_client)));
        lost = sym (more.lost ∙ ap (λ b. list_any is_ending (end_calls calls new_client) || b) does.ends ∙ or_yes (list_any is_ending (end_calls calls new_client)));
        opened = opened_kept bytes_end chain.client tt;
      }

  -- ---- Both

  abbrev MayCut : ℕ → Type 0
  MayCut hop = list_any (cuts_at p.at hop) p.plans ≡ true

  -- what becomes of the chain where its hop is live, and of the channel where that is the last hop
  pub cut_fits : {kept : ChainPast} → (pasts after : List Past) (adds hop : ℕ) (c : ChainValue) (q : RouteValue) (last : Bool) → MayCut hop → route.cut hop c.route ≡ (true, q) → (hop == last_of c.route) ≡ last
      → ((k : ℕ) → c.channel ≡ Some k → past_at k after ≡ cut_if last (past_at k pasts)) → ((j : ℕ) → Contains c.earlier j → IsCameSame pasts after j) → Fits p pasts adds c kept
      → (first : Bool) → (hop == 0) ≡ first
      → Fits p after adds (cond first (record c { route = q; client = called bytes_end c.client }) (record c { route = q })) (way_gets (cuts hop) (cond first (client_gets (bytes_end ∷ []) kept) kept))
  cut_fits {kept = kept} pasts after adds hop c q last may is is_last cut same f = by_first
    where
      live : is_live hop c.route ≡ true
      live = cut_live hop c.route (ap (λ (x : Bool × RouteValue). x.0) is)

      live_now : is_live hop f.now.route ≡ true
      live_now = ap (is_live hop) (sym f.agrees.route) ∙ live

      made : RouteValue → Bool → Bool → RouteRun
      made r one two = record { route = r; past = record f.now.past { client = loses_if one f.now.past.client; agent = loses_if two f.now.past.agent } }

      both_live : (b : Bool) → (is_live hop f.now.route && b) ≡ b
      both_live b = ap (λ live. live && b) live_now

      run_is : (first : Bool) → (hop == 0) ≡ first → after_call (cuts hop) f.now ≡ made q first last
      run_is first is_first =
          ap (λ r. made r (is_live hop f.now.route && (hop == 0)) (is_live hop f.now.route && (hop == last_of f.now.route))) (ap (λ r. (route.cut hop r).1) (sym f.agrees.route) ∙ ap (λ (x : Bool × RouteValue). x.1) is)
          ∙ ap (λ b. made q b (is_live hop f.now.route && (hop == last_of f.now.route))) (both_live (hop == 0) ∙ is_first)
          ∙ ap (made q first) (both_live (hop == last_of f.now.route) ∙ ap (λ r. hop == last_of r) (sym f.agrees.route) ∙ is_last)

      with_client : (first : Bool) → (hop == 0) ≡ first → (next : ClientValue) (calls : List ClientCall) → ClientCut c.client next (loses_if first f.now.past.client) calls
          → Fits p after adds (record c { route = q; client = next }) (record { calls = calls; ways = kept.ways ++ cuts hop ∷ [] })
      with_client first is_first next calls x =
          let now = made q first last in
          record {
            now = now;
            way = subst (IsWay p adds (kept.ways ++ cuts hop ∷ [])) (run_is first is_first) (way_on p adds (cuts hop) f.now may f.way);
            agrees = record {
              client = x.client;
              allowed = x.allowed;
              route = refl;
              gave = x.gave;
              got = x.got;
              lost = x.lost;
              talks = cut_talks c.channel last f.now.past now.past pasts after refl refl cut f.agrees.talks;
              talked = talked_kept f.now.past now.past pasts after c.earlier (λ got has. has) same f.agrees.talked;
            };
            unwanted = f.unwanted;
            settled = subst (λ y. is_waiting y ≡ false) (run_is first is_first) (cut_unawaited hop f.now f.settled);
            opened = x.opened ∙ f.opened;
          }

      by_first : (first : Bool) → (hop == 0) ≡ first
          → Fits p after adds (cond first (record c { route = q; client = called bytes_end c.client }) (record c { route = q })) (way_gets (cuts hop) (cond first (client_gets (bytes_end ∷ []) kept) kept))
      by_first true is_first =
          let zero_is : hop ≡ 0 = eqb-true hop 0 is_first in
          let opened : is_some c.client.channel ≡ true = f.opened ∙ joined_where_live p pasts adds c f (subst (λ n. is_live n c.route ≡ true) zero_is live) in
          with_client true is_first (called bytes_end c.client) (kept.calls ++ bytes_end ∷ []) (gone pasts c kept.calls f.now (tt, subst MayCut zero_is may) opened f.agrees)
      by_first false is_first = with_client false is_first c.client kept.calls (spared pasts c kept.calls f.now f.agrees)
