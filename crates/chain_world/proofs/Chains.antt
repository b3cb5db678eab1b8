-- The steps of a chain that the agent has no part in.
use Rattle.std.proofs.Common.{◌≡◌, ℕ, zero, suc, Bool, true, false, ◌||◌, cond, nat_lt, List, [], ◌∷◌, ◌++◌, Option, Some, None, refl, sym, ap, ◌∙◌, subst, append-nil}
use Rattle.std.specs.Prelude.{is_some, option_map, slice_get}
use Rattle.std.specs.List.{AllByRecursion, list_any}
use Rattle.agent_node.specs.Runs.{Past}
use Rattle.cached_lines.specs.declared.what.CachedWhat.{CachedWhat}
use Rattle.channel_core.specs.Arrivals.{arrived, bytes_of}
use Rattle.channel_core.specs.EndValue.{EndValue}
use Rattle.channel_core.specs.declared.held.Outgoing.{Outgoing}
use Rattle.channel_laws.specs.Faults.{is_ending}
use Rattle.client_node.specs.Client.{client_services, new_client, waiting_on}
use Rattle.client_node.specs.ClientValue.{ClientValue}
use Rattle.client_node.specs.Ends.{IsEndAfter, end_calls, given_out}
use Rattle.client_node.specs.Runs.{Call as ClientCall, asks, called, closes, comes, run, sends, turns}
use Rattle.tcf_message.specs.Message.{HasNoZero}
use Rattle.value_node.specs.declared.states.Side.{Side}
use Rattle.chain_route.specs.Lane.{arriving, size_in, staying}
use Rattle.chain_route.specs.Passing.{most_bytes, most_waiting}
use Rattle.chain_route.specs.Hop as hop
use Rattle.chain_route.specs.Route.{arrived_down, beside, delivered_at, flight_down, is_live, sent_up}
use Rattle.chain_route.specs.RouteValue.{RouteValue}
use Rattle.chain_route.specs.Runs.{Call, RouteRun, after_call, arrives_down, is_waiting, delivers, gives as talk_gives, sends_up, with_client}
use Rattle.chain_route.proofs.Resting.{again}
use Rattle.chain_world.specs.Chain.{all_down, all_taken_down, asked, came_down, carried_up, closed, delivered_down, pieces_down, queue_of, sent, takes_down, turned_down, turns_down}
use Rattle.chain_world.specs.ChainValue.{ChainValue}
use Rattle.chain_world.specs.Past as notes
use Rattle.chain_world.specs.Past.{ChainPast, client_gets, coming, giving, pieces_for, pieces_to, way_gets}
use Rattle.chain_world.specs.Standing.{MayBeCalled}
use Rattle.chain_world.specs.World.{all_to_add}
use Rattle.channel_core.proofs.TheLaws.{spends_nothing}
use Rattle.client_node.proofs.TheLaws.{clients_end_is_a_run}
use Rattle.chain_world.proofs.Bytes.{bytes_more}
use Rattle.chain_world.proofs.Clients.{IsFreshIn, IsLater, IsQuiet, coming_arrived, coming_endless, coming_given, coming_run, empties, opened_kept, quiet_arrived, quiet_endless, quiet_given}
use Rattle.chain_world.proofs.Fitting.{Agrees, Fits, IsWay, MayCall, MayGo, Place, is_more, is_way_holds, way_on}
use Rattle.chain_world.proofs.Pairs.{in_pieces}
use Rattle.chain_world.proofs.Routes.{none_sent}
use Rattle.chain_world.proofs.Talks.{talked_same, talks_same}
use Rattle.chain_world.proofs.Unawaited.{delivered_unawaited, hop_unawaited}
use Rattle.list_laws.proofs.Flags.{and_first, or_false as or_none}
use Rattle.list_laws.proofs.AllLists.{all_append}

-- ---- A call of the client that brings and ends nothing and gives nothing out

-- more calls that don't end its bytes
none_lost : (before : Bool) (none lost more : Bool) → lost ≡ before → more ≡ (before || none) → none ≡ false → lost ≡ more
none_lost before none lost more is then isnt = is ∙ sym (then ∙ ap (λ b. before || b) isnt ∙ or_none before)

pub client_agrees : (p : Place) (pasts : List Past) (chain : ChainValue) (calls : List ClientCall) (now : RouteRun) (call : ClientCall) → IsQuiet call → MayCall p call → Agrees p pasts chain calls now
    → Agrees p pasts (record chain { client = called call chain.client }) (calls ++ call ∷ []) now
client_agrees p pasts chain calls now call quiet may a =
    let more = is_more calls (call ∷ []) chain.client a.client in
    record {
      client = sym more.client;
      allowed = all_append (MayCall p) calls (call ∷ []) a.allowed (may, tt);
      route = a.route;
      gave = a.gave ∙ sym (more.gave ∙ ap (λ outs. given_out calls new_client ++ outs) (quiet_given call chain.client quiet) ∙ append-nil (given_out calls new_client));
      got = a.got ∙ sym (more.got ∙ ap (λ bs. arrived (end_calls calls new_client) ++ bs) (quiet_arrived call chain.client quiet) ∙ append-nil (arrived (end_calls calls new_client)));
      lost = none_lost (list_any is_ending (end_calls calls new_client)) _ now.past.client.is_lost _ a.lost more.lost (quiet_endless call chain.client quiet);
      talks = a.talks;
      talked = a.talked;
    }

pub client_fits : {kept : ChainPast} → (p : Place) (pasts : List Past) (adds : ℕ) (chain : ChainValue) (call : ClientCall) → IsQuiet call → MayCall p call → IsLater call → Fits p pasts adds chain kept
    → Fits p pasts adds (record chain { client = called call chain.client }) (client_gets (call ∷ []) kept)
client_fits {kept = kept} p pasts adds chain call quiet may later f = record {
  now = f.now;
  way = f.way;
  agrees = client_agrees p pasts chain kept.calls f.now call quiet may f.agrees;
  unwanted = f.unwanted;
  settled = f.settled;
  opened = opened_kept call chain.client later ∙ f.opened;
}

-- the client asks its cache
pub asked_fits : {kept : ChainPast} → (p : Place) (pasts : List Past) (adds : ℕ) (what : CachedWhat) (chain : ChainValue) → Fits p pasts adds chain kept
    → Fits p pasts adds (asked what chain) (notes.asked what chain kept)
asked_fits p pasts adds what chain f = client_fits p pasts adds chain (asks what) tt (tt, tt) tt f

-- ---- A call of the way that its ends have no part in

pub record IsInside (call : Call) (change : RouteValue → RouteValue) : Type 0 where
  pub is : (x : RouteRun) → after_call call x ≡ record x { route = change x.route }

pub inside_agrees : (p : Place) (pasts : List Past) (chain : ChainValue) (calls : List ClientCall) (now : RouteRun) (change : RouteValue → RouteValue) → Agrees p pasts chain calls now
    → Agrees p pasts (record chain { route = change chain.route }) calls (record now { route = change now.route })
inside_agrees p pasts chain calls now change a =
    record { client = a.client; allowed = a.allowed; route = ap change a.route; gave = a.gave; got = a.got; lost = a.lost; talks = a.talks; talked = a.talked }

pub inside_fits : {kept : ChainPast} → (p : Place) (pasts : List Past) (adds : ℕ) (chain : ChainValue) (call : Call) (change : RouteValue → RouteValue) → MayGo p call → IsInside call change → (f : Fits p pasts adds chain kept)
    → is_waiting (record f.now { route = change f.now.route }) ≡ false → Fits p pasts adds (record chain { route = change chain.route }) (way_gets call kept)
inside_fits {kept = kept} p pasts adds chain call change may inside f settled = record {
  now = record f.now { route = change f.now.route };
  way = subst (IsWay p adds (kept.ways ++ call ∷ [])) (inside.is f.now) (way_on p adds call f.now may f.way);
  agrees = inside_agrees p pasts chain kept.calls f.now change f.agrees;
  unwanted = f.unwanted;
  settled = settled;
  opened = f.opened;
}

pub delivers_fits : {kept : ChainPast} → (p : Place) (pasts : List Past) (adds : ℕ) (side : Side) (at count : ℕ) (chain : ChainValue) → Fits p pasts adds chain kept
    → Fits p pasts adds (record chain { route = delivered_at side at count chain.route }) (way_gets (delivers side at count) kept)
delivers_fits p pasts adds side at count chain f = inside_fits p pasts adds chain (delivers side at count) (delivered_at side at count) tt (record { is = λ x. refl }) f (delivered_unawaited side at count f.now f.settled)

again_fits : {kept : ChainPast} → (p : Place) (pasts : List Past) (adds : ℕ) (n : ℕ) (side : Side) (at : ℕ) (chain : ChainValue) → Fits p pasts adds chain kept
    → Fits p pasts adds (record chain { route = again (delivered_at side at most_bytes) n chain.route }) (pieces_to n side at kept)
again_fits p pasts adds zero side at chain f = f
again_fits p pasts adds (suc n) side at chain f =
    again_fits p pasts adds n side at (record chain { route = delivered_at side at most_bytes chain.route }) (delivers_fits p pasts adds side at most_bytes chain f)

-- all that is in flight to a side of a value-add arrives
pub all_to_add_fits : {kept : ChainPast} → (p : Place) (pasts : List Past) (adds : ℕ) (side : Side) (at : ℕ) (chain : ChainValue) → Fits p pasts adds chain kept
    → Fits p pasts adds (all_to_add side at chain) (notes.all_to_add side at chain kept)
all_to_add_fits {kept = kept} p pasts adds side at chain f =
    let count = pieces_for side (slice_get chain.route.adds at) (slice_get chain.route.hops (beside side at)) in
    subst (λ r. Fits p pasts adds (record chain { route = r }) (pieces_to count side at kept)) (sym (in_pieces side at chain.route)) (again_fits p pasts adds count side at chain f)

-- ---- What the client queued is in flight

emptied_opened : (channel : Option (EndValue ℕ)) (change : EndValue ℕ → EndValue ℕ) → is_some (option_map change channel) ≡ is_some channel
emptied_opened None change = refl
emptied_opened (Some e) change = refl

unopened : (channel : Option (EndValue ℕ)) → is_some channel ≡ false → queue_of channel ≡ []
unopened None is = refl
unopened (Some e) is = absurd cc

giving_allowed : (p : Place) (queue : List Outgoing) → AllByRecursion (MayCall p) (giving queue)
giving_allowed p [] = tt
giving_allowed p (o ∷ queue) = ((tt, tt), giving_allowed p queue)

coming_allowed : (p : Place) (parts : List Outgoing) → AllByRecursion (MayCall p) (coming parts)
coming_allowed p [] = tt
coming_allowed p (part ∷ parts) = ((tt, tt), coming_allowed p parts)

module _ (p : Place) (pasts : List Past) (adds : ℕ) where
  -- its end isn't spent
  fresh_of : (channel : Option (EndValue ℕ)) (calls : List ClientCall) → IsEndAfter channel (end_calls calls new_client) → IsFreshIn channel
  fresh_of None calls is = tt
  fresh_of (Some e) calls is = ap (λ x. x.is_spent) is ∙ spends_nothing client_services None (end_calls calls new_client)

  pub fresh_client : (c : ClientValue) (calls : List ClientCall) → c ≡ run calls new_client → IsFreshIn c.channel
  fresh_client c calls is = fresh_of c.channel calls (subst (λ x. IsEndAfter x.channel (end_calls calls new_client)) (sym is) (clients_end_is_a_run calls).end)

  pub up_fits : {kept : ChainPast} → (chain : ChainValue) → Fits p pasts adds chain kept → Fits p pasts adds (carried_up chain) (notes.carried_up chain kept)
  up_fits {kept = kept} chain f = by_flag f.now.past.is_joined refl
    where
      queue : List Outgoing
      queue = queue_of chain.client.channel

      next : RouteRun
      next = record { route = sent_up queue f.now.route; past = with_client (talk_gives queue f.now.past.client) f.now.past }

      by_flag : (flag : Bool) → f.now.past.is_joined ≡ flag → Fits p pasts adds (carried_up chain) (notes.carried_up chain kept)
      by_flag true is =
          let e = empties chain.client (fresh_client chain.client kept.calls f.agrees.client) in
          let more = is_more kept.calls (giving queue) chain.client f.agrees.client in
          record {
            now = next;
            way = subst (IsWay p adds (kept.ways ++ sends_up queue ∷ [])) (ap (λ b. cond {A = RouteRun} b next f.now) is) (way_on p adds (sends_up queue) f.now tt f.way);
            agrees = record {
              client = sym e.client ∙ sym more.client;
              allowed = all_append (MayCall p) kept.calls (giving queue) f.agrees.allowed (giving_allowed p queue);
              route = ap (sent_up queue) f.agrees.route;
              gave = ap (λ outs. outs ++ queue) f.agrees.gave ∙ sym (more.gave ∙ ap (λ outs. given_out kept.calls new_client ++ outs) e.given);
              got = f.agrees.got ∙ sym (more.got ∙ ap (λ bs. arrived (end_calls kept.calls new_client) ++ bs) e.arrived ∙ append-nil (arrived (end_calls kept.calls new_client)));
              lost = none_lost (list_any is_ending (end_calls kept.calls new_client)) _ f.now.past.client.is_lost _ f.agrees.lost more.lost e.endless;
              talks = talks_same chain.channel f.now.past next.past pasts (record { reached = refl; agent = refl; earlier = refl }) f.agrees.talks;
              talked = talked_same f.now.past next.past pasts chain.earlier refl f.agrees.talked;
            };
            unwanted = f.unwanted;
            settled = hop_unawaited (hop.sent_up queue) 0 f.now next.past refl f.settled;
            opened = emptied_opened chain.client.channel _ ∙ f.opened;
          }
      by_flag false is =
          let e = empties chain.client (fresh_client chain.client kept.calls f.agrees.client) in
          let more = is_more kept.calls (giving queue) chain.client f.agrees.client in
          let none : queue ≡ [] = unopened chain.client.channel (f.opened ∙ is) in
          record {
            now = f.now;
            way = subst (IsWay p adds (kept.ways ++ sends_up queue ∷ [])) (ap (λ b. cond {A = RouteRun} b next f.now) is) (way_on p adds (sends_up queue) f.now tt f.way);
            agrees = record {
              client = sym e.client ∙ sym more.client;
              allowed = all_append (MayCall p) kept.calls (giving queue) f.agrees.allowed (giving_allowed p queue);
              route = ap (λ outs. sent_up outs chain.route) none ∙ none_sent chain.route ∙ f.agrees.route;
              gave = f.agrees.gave ∙ sym (more.gave ∙ ap (λ outs. given_out kept.calls new_client ++ outs) (e.given ∙ none) ∙ append-nil (given_out kept.calls new_client));
              got = f.agrees.got ∙ sym (more.got ∙ ap (λ bs. arrived (end_calls kept.calls new_client) ++ bs) e.arrived ∙ append-nil (arrived (end_calls kept.calls new_client)));
              lost = none_lost (list_any is_ending (end_calls kept.calls new_client)) _ f.now.past.client.is_lost _ f.agrees.lost more.lost e.endless;
              talks = f.agrees.talks;
              talked = f.agrees.talked;
            };
            unwanted = f.unwanted;
            settled = f.settled;
            opened = emptied_opened chain.client.channel _ ∙ f.opened;
          }

  pub sent_fits : {kept : ChainPast} → (service name body : List ℕ) (chain : ChainValue) → HasNoZero service × HasNoZero name → Fits p pasts adds chain kept
      → Fits p pasts adds (sent service name body chain) (notes.sent service name body chain kept)
  sent_fits service name body chain named f =
      up_fits (record chain { client = called (sends service name body) chain.client }) (client_fits p pasts adds chain (sends service name body) tt (named, tt) tt f)

  pub closed_fits : {kept : ChainPast} → (chain : ChainValue) → MayBeCalled p.plans p.at closes → Fits p pasts adds chain kept → Fits p pasts adds (closed chain) (notes.closed chain kept)
  closed_fits chain may f = up_fits (record chain { client = called closes chain.client }) (client_fits p pasts adds chain closes tt (tt, may) tt f)

  pub turned_fits : {kept : ChainPast} → (chain : ChainValue) → Fits p pasts adds chain kept → Fits p pasts adds (turned_down chain) (notes.turned_down chain kept)
  turned_fits chain f = up_fits (record chain { client = called turns chain.client }) (client_fits p pasts adds chain turns tt (tt, tt) tt f)

  -- ---- What is in flight comes down

  -- where the client's hop is live it was connected
  pub joined_where_live : {kept : ChainPast} → (chain : ChainValue) → (f : Fits p pasts adds chain kept) → is_live 0 chain.route ≡ true → f.now.past.is_joined ≡ true
  joined_where_live chain f live = by_flag f.now.past.is_joined refl
    where
      by_flag : (flag : Bool) → f.now.past.is_joined ≡ flag → f.now.past.is_joined ≡ true
      by_flag true is = is
      by_flag false is =
          let dead : is_live 0 chain.route ≡ false = ap (is_live 0) f.agrees.route ∙ (is_way_holds p adds f.now f.way).dead is in
          let no : true ≡ false = sym live ∙ dead in absurd cc

  came_fits : {kept : ChainPast} → (count : ℕ) (chain : ChainValue) → is_live 0 chain.route ≡ true → Fits p pasts adds chain kept → Fits p pasts adds (came_down count chain) (notes.came_down count chain kept)
  came_fits {kept = kept} count chain live f =
      let parts = arriving count (flight_down chain.route) in
      let more = is_more kept.calls (coming parts) chain.client f.agrees.client in
      let now = after_call (arrives_down count) f.now in
      let opened : is_some chain.client.channel ≡ true = f.opened ∙ joined_where_live chain f live in
      let same : arriving count (flight_down f.now.route) ≡ parts = ap (λ r. arriving count (flight_down r)) (sym f.agrees.route) in
      record {
        now = now;
        way = way_on p adds (arrives_down count) f.now tt f.way;
        agrees = record {
          client = sym (coming_run parts chain.client) ∙ sym more.client;
          allowed = all_append (MayCall p) kept.calls (coming parts) f.agrees.allowed (coming_allowed p parts);
          route = ap (arrived_down count) f.agrees.route;
          gave = f.agrees.gave ∙ sym (more.gave ∙ ap (λ outs. given_out kept.calls new_client ++ outs) (coming_given parts chain.client) ∙ append-nil (given_out kept.calls new_client));
          got = ap (λ outs. bytes_of (f.now.past.client.got ++ outs)) same ∙ bytes_more f.now.past.client.got parts ∙ ap (λ bs. bs ++ bytes_of parts) f.agrees.got
              ∙ ap (λ bs. arrived (end_calls kept.calls new_client) ++ bs) (sym (coming_arrived parts chain.client opened)) ∙ sym more.got;
          lost = none_lost (list_any is_ending (end_calls kept.calls new_client)) _ f.now.past.client.is_lost _ f.agrees.lost more.lost (coming_endless parts chain.client);
          talks = talks_same chain.channel f.now.past now.past pasts (record { reached = refl; agent = refl; earlier = refl }) f.agrees.talks;
          talked = talked_same f.now.past now.past pasts chain.earlier refl f.agrees.talked;
        };
        unwanted = f.unwanted;
        settled = hop_unawaited (λ h. record h { down = staying count h.down }) 0 f.now now.past refl f.settled;
        opened = ap (λ c. is_some c.channel) (sym (coming_run parts chain.client)) ∙ coming_opened parts chain.client opened ∙ sym (joined_where_live chain f live);
      }
    where
      coming_opened : (parts : List Outgoing) (c : ClientValue) → is_some c.channel ≡ true → is_some (run (coming parts) c).channel ≡ true
      coming_opened [] c opened = opened
      coming_opened (part ∷ parts) c opened =
          coming_opened parts (called (comes part.bytes part.mark) c) (opened_kept (comes part.bytes part.mark) c tt ∙ opened)

  pub delivered_fits : {kept : ChainPast} → (count : ℕ) (chain : ChainValue) → Fits p pasts adds chain kept → Fits p pasts adds (delivered_down count chain) (notes.delivered_down count chain kept)
  delivered_fits {kept = kept} count chain f = by_flag (takes_down chain) refl
    where
      by_flag : (flag : Bool) → takes_down chain ≡ flag → Fits p pasts adds (cond flag (carried_up (came_down count chain)) chain) (cond flag (notes.carried_up (came_down count chain) (notes.came_down count chain kept)) kept)
      by_flag true is = up_fits (came_down count chain) (came_fits count chain (and_first (is_live 0 chain.route) (nat_lt (waiting_on chain.client.channel) most_waiting) is) f)
      by_flag false is = f

  pieces_fits : {kept : ChainPast} → (n : ℕ) (chain : ChainValue) → Fits p pasts adds chain kept → Fits p pasts adds (pieces_down n chain) (notes.pieces_down n chain kept)
  pieces_fits zero chain f = f
  pieces_fits {kept = kept} (suc n) chain f = pieces_fits {kept = notes.delivered_down most_bytes chain kept} n (delivered_down most_bytes chain) (delivered_fits most_bytes chain f)

  turns_fits : {kept : ChainPast} → (n : ℕ) (chain : ChainValue) → Fits p pasts adds chain kept → Fits p pasts adds (turns_down n chain) (notes.turns_down n chain kept)
  turns_fits zero chain f = f
  turns_fits {kept = kept} (suc n) chain f = turns_fits {kept = notes.turned_down chain kept} n (turned_down chain) (turned_fits chain f)

  pub all_fits : {kept : ChainPast} → (chain : ChainValue) → Fits p pasts adds chain kept → Fits p pasts adds (all_taken_down (all_down chain)) (notes.all_taken_down chain kept)
  all_fits chain f =
      let down = all_down chain in
      turns_fits (waiting_on down.client.channel) down (pieces_fits (size_in (flight_down chain.route)) chain f)
