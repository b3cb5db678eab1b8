-- The steps of a chain and the agent.
use Rattle.std.proofs.Common.{◌≡◌, ℕ, zero, suc, ◌==◌, Bool, true, false, not, cond, List, [], ◌∷◌, ◌++◌, Option, Some, None, refl, sym, ap, ◌∙◌, subst, eqb-true, eq-eqb, inl, inr}
use Rattle.std.proofs.lemmas.Option.{none-some, same_Some}
use Rattle.std.specs.Prelude.{option_map, option_to_list}
use Rattle.std.specs.List.{Contains, list_any}
use Rattle.channel_core.specs.Closing.{is_closed}
use Rattle.channel_core.specs.Runs.{ending}
use Rattle.channel_core.specs.declared.held.Outgoing.{Outgoing}
use Rattle.client_node.specs.Runs.{bytes_end as client_bytes_end, called}
use Rattle.target_contexts.specs.declared.process.Image.{Image}
use Rattle.agent_node.specs.Channels.{channel_end}
use Rattle.agent_node.specs.Runs.{AgentRun, Call as AgentCall, Past, after_all, after_call as agent_call, bytes_end, run_of, with_calls}
use Rattle.value_node.specs.declared.states.Side.TheVariants.{Below}
use Rattle.chain_route.specs.Hop as hop
use Rattle.chain_route.specs.Lane.{arriving, size_in, staying}
use Rattle.chain_route.specs.Passing.{most_bytes}
use Rattle.chain_route.specs.Route as route
use Rattle.chain_route.specs.Route.{arrived_up, delivered_at, flight_up, last_of, sent_down}
use Rattle.chain_route.specs.RouteValue.{RouteValue}
use Rattle.chain_route.specs.Runs.{RouteRun, Talk, arrives_up, cuts, delivers, gets, gives, sends_down, with_agent}
use Rattle.chain_world.specs.Chain.{Both, all_dropped, all_up, both, came_up, carried_down, carried_from, channels_of, client_cut, cut, cut_by, delivered_over, delivered_to, delivered_up, ended_from, parts_delivered, pieces_up, queue_of, takes_up}
use Rattle.chain_world.specs.ChainValue.{ChainValue}
use Rattle.chain_world.specs.Past as notes
use Rattle.chain_world.specs.Past.{BothPast, coming_to, giving_to}
use Rattle.chain_world.specs.Standing.{AllDiffer, cuts_at, came_to, past_at}
use Rattle.chain_world.proofs.Agents.{Reached, Touch, an_end, calls_of, gifts, gifts_are, gifts_emptied, gifts_past, has_queue, leaves_others, pieces, pieces_agent, pieces_are, pieces_closed, pieces_none, pieces_open, reached_more, reached_touched}
use Rattle.chain_world.proofs.Chains.{delivers_fits}
use Rattle.chain_world.proofs.Cutting.{cut_fits}
use Rattle.chain_world.proofs.Fitting.{Fits, Place}
use Rattle.chain_world.proofs.Keeping.{Goes, IsMove, IsSameTo, Moved, agent_fits, earlier_channel, fits_after, goes_none, goes_of, goes_then, is_reached, moved_then, own_channel, still}
use Rattle.chain_world.proofs.Numbers.{differ_parts, later}
use Rattle.chain_world.proofs.Pasts.{at_one, keeps_same}
use Rattle.chain_world.proofs.Talks.{HasQueued, IsCameSame, Talking, came_cut, came_put, talks_dropped, talks_put, talks_taken}
use Rattle.chain_world.proofs.Unawaited.{cut_last, hop_unawaited}
use Rattle.list_laws.proofs.Contained.{contains_cases as first_or, contains_first as here, none_in}

-- ---- What a channel queued is given out

came_gifts : (k j : ℕ) (queue : List Outgoing) (r : AgentRun) → IsCameSame r.channels (after_all (calls_of k (gifts queue)) r).channels j
came_gifts k j queue r = by_flag (j == k) refl
  where
    by_flag : (flag : Bool) → (j == k) ≡ flag → IsCameSame r.channels (after_all (calls_of k (gifts queue)) r).channels j
    by_flag true is =
        let same : j ≡ k = eqb-true j k is in
        subst (IsCameSame r.channels (after_all (calls_of k (gifts queue)) r).channels) (sym same) (ap came_to (gifts_past k queue r) ∙ came_put queue (past_at k r.channels))
    by_flag false is = ap came_to ((leaves_others k (gifts queue) r).others j (λ same. let yes : (j == k) ≡ true = eq-eqb j k same in absurd cc))

-- ---- The bytes of a channel end

ended_past : (k j : ℕ) (r : AgentRun) → j ≡ k → past_at j (agent_call (bytes_end k) r).channels ≡ option_map (with_calls (ending ∷ [])) (past_at j r.channels)
ended_past k j r same = subst (λ n. past_at n (agent_call (bytes_end k) r).channels ≡ option_map (with_calls (ending ∷ [])) (past_at n r.channels)) (sym same) (at_one k (ending ∷ []) r.channels)

came_ended : (k j : ℕ) (r : AgentRun) → IsCameSame r.channels (agent_call (bytes_end k) r).channels j
came_ended k j r = by_flag (j == k) refl
  where
    by_flag : (flag : Bool) → (j == k) ≡ flag → IsCameSame r.channels (agent_call (bytes_end k) r).channels j
    by_flag true is = ap came_to (ended_past k j r (eqb-true j k is)) ∙ came_cut (past_at j r.channels)
    by_flag false is = ap came_to ((leaves_others k (an_end ∷ []) r).others j (λ same. let yes : (j == k) ≡ true = eq-eqb j k same in absurd cc))

-- ---- What is queued for these channels is dropped

record Dropped (images : List Image) (r : AgentRun) (channels : List ℕ) (calls : List AgentCall) : Type 0 where
  next : AgentRun
  reached : Reached images calls next
  goes : Goes r next channels
  agent : next.agent ≡ all_dropped channels r.agent
  others : (j : ℕ) → (Contains channels j → ⊥) → past_at j next.channels ≡ past_at j r.channels
  came : (j : ℕ) → IsCameSame r.channels next.channels j

-- the agent's calls of one channel
touched : (k : ℕ) (touches : List Touch) (r : AgentRun) → Goes r (after_all (calls_of k touches) r) (k ∷ [])
touched k touches r =
    let next = after_all (calls_of k touches) r in
    let l = leaves_others k touches r in
    record {
      history = l.history;
      numbers = l.numbers;
      others = λ j apart. keeps_same j r.channels next.channels (l.others j (λ same. apart (subst (Contains (k ∷ [])) (sym same) (here k []))));
    }

one_of : (k : ℕ) (channels : List ℕ) → Contains channels k → (j : ℕ) → Contains (k ∷ []) j → Contains channels j
one_of k channels has j one = elim (first_or k [] j one) as (λ _. Contains channels j) [
  | inl same ↦ subst (Contains channels) same has
  | inr none ↦ absurd (none_in j none)
]

module _ (images : List Image) (p : Place) where
  all_drop : {calls : List AgentCall} → (channels : List ℕ) (r : AgentRun) → Reached images calls r → Dropped images r channels (notes.all_dropped channels r.agent calls)
  all_drop [] r reached = record { next = r; reached = reached; goes = goes_none r []; agent = refl; others = λ j apart. refl; came = λ j. refl }
  all_drop {calls = calls} (k ∷ channels) r reached =
      let queue = queue_of (channel_end k r.agent.channels) in
      let next = after_all (calls_of k (gifts queue)) r in
      let more = calls ++ giving_to k queue in
      let emptied = gifts_emptied k queue r (has_queue images k r reached).is in
      let rest = all_drop {calls = more} channels next (reached_touched images r k (gifts queue) (giving_to k queue) (gifts_are k queue) reached) in
      record {
        next = rest.next;
        reached = subst (λ a. Reached images (notes.all_dropped channels a more) rest.next) emptied rest.reached;
        goes = goes_then r next rest.next (k ∷ channels) (goes_of r next (k ∷ []) (k ∷ channels) (one_of k (k ∷ channels) (here k channels)) (touched k (gifts queue) r))
            (goes_of next rest.next channels (k ∷ channels) (λ j has. later k channels j has) rest.goes);
        agent = rest.agent ∙ ap (all_dropped channels) emptied;
        others = λ j apart. rest.others j (λ has. apart (later k channels j has)) ∙ (leaves_others k (gifts queue) r).others j (λ same. apart (subst (Contains (k ∷ channels)) (sym same) (here k channels)));
        came = λ j. rest.came j ∙ came_gifts k j queue r;
      }

  -- ---- What the agent queued is in flight

  queued_at : {calls : List AgentCall} → (k : ℕ) (r : AgentRun) → Reached images calls r → HasQueued (past_at k r.channels) (queue_of (channel_end k r.agent.channels))
  queued_at k r reached = by_past (past_at k r.channels) refl
    where
      by_past : (there : Option Past) → past_at k r.channels ≡ there → HasQueued there (queue_of (channel_end k r.agent.channels))
      by_past None is = (has_queue images k r reached).none is
      by_past (Some past) is = (has_queue images k r reached).past past is

  gives_move : (r : AgentRun) (adds : ℕ) (c : ChainValue) (kept : BothPast) → Reached images kept.agent r → Fits p r.channels adds c kept.chain
      → Moved images p r adds (channels_of c) (carried_from c.channel c r.agent) (notes.carried_from c.channel r.agent kept)
  gives_move r adds c kept reached f = by_channel c.channel refl
    where
      by_channel : (channel : Option ℕ) → c.channel ≡ channel → Moved images p r adds (channels_of c) (carried_from channel c r.agent) (notes.carried_from channel r.agent kept)
      by_channel None is = still images p r adds (channels_of c) c kept refl reached f
      by_channel (Some k) is =
          let queue = queue_of (channel_end k r.agent.channels) in
          let next = after_all (calls_of k (gifts queue)) r in
          let past = with_agent (gives queue f.now.past.agent) f.now.past in
          let reaches : f.now.past.is_reached ≡ true = is_reached c.channel k f.now r.channels is f.agrees.talks in
          record {
            next = next;
            reached = reached_touched images r k (gifts queue) (giving_to k queue) (gifts_are k queue) reached;
            goes = goes_of r next (k ∷ []) (channels_of c) (one_of k (channels_of c) (own_channel c k is)) (touched k (gifts queue) r);
            agent = gifts_emptied k queue r (has_queue images k r reached).is;
            channels_are = refl;
            fits = agent_fits p r.channels next.channels adds c k f (sends_down queue) (sent_down queue) (gives queue f.now.past.agent) is tt
                (ap (λ b. cond {A = RouteRun} b (record { route = sent_down queue f.now.route; past = past }) f.now) reaches)
                (hop_unawaited (hop.sent_down queue) (last_of f.now.route) f.now past refl f.settled)
                (λ t. subst (λ there. Talking there (gives queue f.now.past.agent)) (sym (gifts_past k queue r)) (talks_put queue (past_at k r.channels) f.now.past.agent (queued_at k r reached) t))
                (λ j has. came_gifts k j queue r);
          }

  pub carry_move : IsMove images p carried_down notes.carried_down
  carry_move r adds c kept reached differ f =
      let d = all_drop c.earlier r reached in
      let apart = (differ_parts c.earlier (option_to_list c.channel) differ).apart in
      let same : IsSameTo c r.channels d.next.channels = record {
        keeps = λ j is. keeps_same j r.channels d.next.channels (d.others j (λ has. apart j has (subst (λ ch. Contains (option_to_list ch) j) (sym is) (here j []))));
        came = λ j has. d.came j;
      } in
      let goes : Goes r d.next (channels_of c) = goes_of r d.next c.earlier (channels_of c) (earlier_channel c) d.goes in
      let first : Fits p d.next.channels adds c kept.chain = fits_after p r.channels d.next.channels adds c same f in
      let dropped : BothPast = record kept { agent = notes.all_dropped c.earlier r.agent kept.agent } in
      let m : Moved images p d.next adds (channels_of c) (carried_from c.channel c (all_dropped c.earlier r.agent)) (notes.carried_from c.channel (all_dropped c.earlier r.agent) dropped) =
      subst (λ a. Moved images p d.next adds (channels_of c) (carried_from c.channel c a) (notes.carried_from c.channel a dropped)) d.agent (gives_move d.next adds c dropped d.reached first) in
      record { next = m.next; reached = m.reached; goes = goes_then r d.next m.next (channels_of c) goes m.goes; agent = m.agent; channels_are = m.channels_are; fits = m.fits }

  -- ---- A hop is cut

  -- a step cuts it
  abbrev pub MayCut : ℕ → Type 0
  MayCut hop = list_any (cuts_at p.at hop) p.plans ≡ true

  client_channels : (first : Bool) (c next : ChainValue) → channels_of next ≡ channels_of c → channels_of (cond first next c) ≡ channels_of c
  client_channels true c next same = same
  client_channels false c next same = refl

  pub cut_move : (hop : ℕ) → MayCut hop → IsMove images p (cut hop) (notes.cut hop)
  cut_move hop may r adds c kept reached differ f = by_pair (route.cut hop c.route) refl
    where
      by_pair : (x : Bool × RouteValue) → route.cut hop c.route ≡ x → Moved images p r adds (channels_of c) (cut_by hop x c r.agent) (notes.cut_by hop x c kept)
      by_pair (false, q) is = still images p r adds (channels_of c) c kept refl reached f
      by_pair (true, q) is = by_last (hop == last_of q) refl c.channel refl
        where
          d : ChainValue
          d = record c { route = q }

          last_is : last_of q ≡ last_of c.route
          last_is = ap (λ (x : Bool × RouteValue). last_of x.1) (sym is) ∙ cut_last hop c.route

          channels_are : channels_of (client_cut hop d) ≡ channels_of c
          channels_are = client_channels (hop == 0) d (record d { client = called client_bytes_end d.client }) refl

          -- what is kept of it
          noted : List AgentCall → BothPast
          noted calls = record { agent = calls; chain = notes.way_gets (cuts hop) (notes.client_cut hop kept.chain) }

          by_last : (last : Bool) → (hop == last_of q) ≡ last → (channel : Option ℕ) → c.channel ≡ channel
              → Moved images p r adds (channels_of c) (both (client_cut hop d) (cond last (ended_from channel r.agent) r.agent)) (noted (cond last (notes.ended_from channel kept.agent) kept.agent))
          by_last false is_last channel there =
              still images p r adds (channels_of c) (client_cut hop d) (noted kept.agent) channels_are reached
              (cut_fits p r.channels r.channels adds hop c q false may is (ap (λ n. hop == n) (sym last_is) ∙ is_last) (λ k on. refl) (λ j has. refl) f (hop == 0) refl)
          by_last true is_last None there =
              still images p r adds (channels_of c) (client_cut hop d) (noted kept.agent) channels_are reached
              (cut_fits p r.channels r.channels adds hop c q true may is (ap (λ n. hop == n) (sym last_is) ∙ is_last) (λ k on. absurd (none-some k (sym there ∙ on))) (λ j has. refl) f (hop == 0) refl)
          by_last true is_last (Some k) there =
              let next = agent_call (bytes_end k) r in
              record {
                next = next;
                reached = reached_more images r (bytes_end k ∷ []) reached;
                goes = goes_of r next (k ∷ []) (channels_of c) (one_of k (channels_of c) (own_channel c k there)) (touched k (an_end ∷ []) r);
                agent = refl;
                channels_are = channels_are;
                fits = cut_fits p r.channels next.channels adds hop c q true may is (ap (λ n. hop == n) (sym last_is) ∙ is_last) (λ j on. ended_past k j r (same_Some j k (sym on ∙ there))) (λ j has. came_ended k j r) f (hop == 0) refl;
              }

  -- ---- What is in flight comes up

  abbrev TalkingThen : ℕ → AgentRun → List Outgoing → Talk → Type 0
  TalkingThen k r parts talk = Talking (past_at k (after_all (calls_of k (pieces parts)) r).channels) (gets parts talk)

  came_talks : (k : ℕ) (r : AgentRun) (parts : List Outgoing) (talk : Talk) → Talking (past_at k r.channels) talk → TalkingThen k r parts talk
  came_talks k r parts talk t = by_past (past_at k r.channels) refl t
    where
      by_state : (past : Past) (flag : Bool) → is_closed (run_of past).end.state ≡ flag → past_at k r.channels ≡ Some past → Talking (Some past) talk → TalkingThen k r parts talk
      by_state past true is there t = subst (λ o. Talking o (gets parts talk)) (sym (pieces_closed k parts r past is there)) (talks_dropped parts (Some past) talk (ap not is) t)
      by_state past false is there t = subst (λ o. Talking o (gets parts talk)) (sym (pieces_open k parts r past is there)) (talks_taken parts past talk is t)

      by_past : (there : Option Past) → past_at k r.channels ≡ there → Talking there talk → TalkingThen k r parts talk
      by_past None is t = subst (λ o. Talking o (gets parts talk)) (sym (pieces_none k parts r is)) (talks_dropped parts None talk refl t)
      by_past (Some past) is t = by_state past (is_closed (run_of past).end.state) refl is t

  -- what is kept of it, before what the agent queued is carried
  abbrev came_noted : ℕ → ℕ → ChainValue → BothPast → BothPast
  came_noted k count c kept = record { agent = kept.agent ++ coming_to k (arriving count (flight_up c.route)); chain = notes.way_gets (arrives_up count) kept.chain }

  came_move : (k count : ℕ) (r : AgentRun) (adds : ℕ) (c : ChainValue) (kept : BothPast) → c.channel ≡ Some k → Reached images kept.agent r → AllDiffer (channels_of c) → Fits p r.channels adds c kept.chain
      → Moved images p r adds (channels_of c) (both (record c { route = arrived_up count c.route }) (parts_delivered k (arriving count (flight_up c.route)) r.agent)) (came_noted k count c kept)
  came_move k count r adds c kept is reached differ f =
      let parts = arriving count (flight_up c.route) in
      let next = after_all (calls_of k (pieces parts)) r in
      let apart = (differ_parts c.earlier (option_to_list c.channel) differ).apart in
      let same : arriving count (flight_up f.now.route) ≡ parts = ap (λ x. arriving count (flight_up x)) (sym f.agrees.route) in
      record {
        next = next;
        reached = reached_touched images r k (pieces parts) (coming_to k parts) (pieces_are k parts) reached;
        goes = goes_of r next (k ∷ []) (channels_of c) (one_of k (channels_of c) (own_channel c k is)) (touched k (pieces parts) r);
        agent = pieces_agent k parts r;
        channels_are = refl;
        fits = agent_fits p r.channels next.channels adds c k f (arrives_up count) (arrived_up count) (gets parts f.now.past.agent) is tt
            (ap (λ outs. record { route = arrived_up count f.now.route; past = with_agent (gets outs f.now.past.agent) f.now.past }) same)
            (hop_unawaited (λ h. record h { up = staying count h.up }) (last_of f.now.route) f.now (with_agent (gets parts f.now.past.agent) f.now.past) refl f.settled)
            (came_talks k r parts f.now.past.agent)
            (λ j has. ap came_to ((leaves_others k (pieces parts) r).others j (λ equal. apart j has (subst (λ ch. Contains (option_to_list ch) j) (sym is) (subst (Contains (k ∷ [])) (sym equal) (here k []))))));
      }

  pub deliver_move : (count : ℕ) → IsMove images p (delivered_up count) (notes.delivered_up count)
  deliver_move count r adds c kept reached differ f = by_channel c.channel refl
    where
      by_flag : (flag : Bool) (k : ℕ) → c.channel ≡ Some k → Moved images p r adds (channels_of c) (cond flag (came_up k count c r.agent) (both c r.agent)) (cond flag (notes.came_up k count c r.agent kept) kept)
      by_flag true k is =
          moved_then images p r adds (channels_of c) (both (record c { route = arrived_up count c.route }) (parts_delivered k (arriving count (flight_up c.route)) r.agent)) (came_noted k count c kept)
          carried_down notes.carried_down carry_move differ (came_move k count r adds c kept is reached differ f)
      by_flag false k is = still images p r adds (channels_of c) c kept refl reached f

      by_channel : (channel : Option ℕ) → c.channel ≡ channel → Moved images p r adds (channels_of c) (delivered_to channel count c r.agent) (notes.delivered_to channel count c r.agent kept)
      by_channel None is = still images p r adds (channels_of c) c kept refl reached f
      by_channel (Some k) is = by_flag (takes_up k c r.agent) k is

  pub over_move : (hop count : ℕ) → IsMove images p (delivered_over hop count) (notes.delivered_over hop count)
  over_move hop count r adds c kept reached differ f = by_flag (hop == last_of c.route)
    where
      other : BothPast
      other = record kept { chain = notes.way_gets (delivers Below hop count) kept.chain }

      by_flag : (flag : Bool) → Moved images p r adds (channels_of c) (cond flag (delivered_up count c r.agent) (both (record c { route = delivered_at Below hop count c.route }) r.agent)) (cond flag (notes.delivered_up count c r.agent kept) other)
      by_flag true = deliver_move count r adds c kept reached differ f
      by_flag false = still images p r adds (channels_of c) (record c { route = delivered_at Below hop count c.route }) other refl reached (delivers_fits p r.channels adds Below hop count c f)

  pieces_move : (n : ℕ) (r : AgentRun) (adds : ℕ) (channels : List ℕ) (b : Both) (kept : BothPast) → AllDiffer channels → Moved images p r adds channels b kept
      → Moved images p r adds channels (pieces_up n b) (notes.pieces_up n b.chain b.agent kept)
  pieces_move zero r adds channels b kept differ m = m
  pieces_move (suc n) r adds channels b kept differ m =
      pieces_move n r adds channels (delivered_up most_bytes b.chain b.agent) (notes.delivered_up most_bytes b.chain b.agent kept) differ
      (moved_then images p r adds channels b kept (delivered_up most_bytes) (notes.delivered_up most_bytes) (deliver_move most_bytes) differ m)

  pub all_up_move : IsMove images p all_up notes.all_up
  all_up_move r adds c kept reached differ f =
      pieces_move (size_in (flight_up c.route)) r adds (channels_of c) (both c r.agent) kept differ (still images p r adds (channels_of c) c kept refl reached f)
