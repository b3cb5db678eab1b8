-- A chain stands, with the run of its way: what its client and its way have to say of each other.
use Rattle.std.proofs.Common.{◌≡◌, ℕ, suc, false, ◌||◌, List, [], ◌∷◌, ◌++◌, Option, Some, None, refl, sym, ap, ◌∙◌, subst}
use Rattle.std.specs.Prelude.{IfSome, is_some}
use Rattle.std.specs.List.{AllByRecursion, list_any}
use Rattle.agent_node.specs.Runs.{Past, run_of}
use Rattle.channel_core.specs.Arrivals.{arrived, bytes_of}
use Rattle.channel_laws.specs.Faults.{is_ending}
use Rattle.client_node.specs.Client.{new_client}
use Rattle.client_node.specs.ClientValue.{ClientValue}
use Rattle.client_node.specs.Ends.{HasNames, end_calls, given_out}
use Rattle.client_node.specs.Runs.{Call as ClientCall, run}
use Rattle.chain_route.specs.Runs.{Call, Past as WayPast, RouteRun, Talk, after_all, after_call, is_waiting, no_calls}
use Rattle.tcf_schedules.specs.Plan.{Plan}
use Rattle.chain_world.specs.ChainValue.{ChainValue}
use Rattle.chain_world.specs.Past.{ChainPast}
use Rattle.chain_world.specs.Remembering.{AllStandBy, ChainStandsBy}
use Rattle.chain_world.specs.Standing.{ChainStands, MayBeCalled, MayHappen, Talked, Talks, TalksOn, past_at}
use Rattle.chain_world.proofs.Calls.{endings_more}
use Rattle.chain_world.proofs.Clients.{end_calls_more, given_more, run_more}
use Rattle.chain_world.proofs.Talks.{Talking, TalkingOn}
use Rattle.chain_world.proofs.Ways.{WayHolds, way_holds}
use Rattle.chain_route.proofs.EndCalls.{arrived_more}
use Rattle.list_laws.proofs.AllLists.{all_append}

-- the place of a chain, and the steps of the schedule
pub record Place : Type 0 where
  pub plans : List Plan
  pub at : ℕ

-- ---- The run of a way

abbrev pub MayGo : Place → Call → Type 0
MayGo p call = MayHappen p.plans p.at call

pub record IsWay (p : Place) (adds : ℕ) (ways : List Call) (x : RouteRun) : Type 0 where
  pub may : AllByRecursion (MayGo p) ways
  pub is : after_all ways (no_calls adds) ≡ x

way_more : (ways more : List Call) (x : RouteRun) → after_all (ways ++ more) x ≡ after_all more (after_all ways x)
way_more [] more x = refl
way_more (call ∷ ways) more x = way_more ways more (after_call call x)

pub way_on : {ways : List Call} → (p : Place) (adds : ℕ) (call : Call) (x : RouteRun) → MayGo p call → IsWay p adds ways x → IsWay p adds (ways ++ call ∷ []) (after_call call x)
way_on {ways = ways} p adds call x may w = record {
  may = all_append (MayGo p) ways (call ∷ []) w.may (may, tt);
  is = way_more ways (call ∷ []) (no_calls adds) ∙ ap (after_call call) w.is;
}

pub is_way_holds : {ways : List Call} → (p : Place) (adds : ℕ) (x : RouteRun) → IsWay p adds ways x → WayHolds x
is_way_holds {ways = ways} p adds x w = subst WayHolds w.is (way_holds adds ways)

-- ---- What a client's calls gave and got, with more of them

abbrev pub MayCall : Place → ClientCall → Type 0
MayCall p call = HasNames call × MayBeCalled p.plans p.at call

pub record IsMore (calls more : List ClientCall) (c : ClientValue) : Type 0 where
  pub client : run (calls ++ more) new_client ≡ run more c
  pub gave : given_out (calls ++ more) new_client ≡ given_out calls new_client ++ given_out more c
  pub got : arrived (end_calls (calls ++ more) new_client) ≡ arrived (end_calls calls new_client) ++ arrived (end_calls more c)
  pub lost : list_any is_ending (end_calls (calls ++ more) new_client) ≡ (list_any is_ending (end_calls calls new_client) || list_any is_ending (end_calls more c))

pub is_more : (calls more : List ClientCall) (c : ClientValue) → c ≡ run calls new_client → IsMore calls more c
is_more calls more c is = record {
  client = run_more calls more new_client ∙ ap (run more) (sym is);
  gave = given_more calls more new_client ∙ ap (λ x. given_out calls new_client ++ given_out more x) (sym is);
  got = ap arrived (end_calls_more calls more new_client) ∙ arrived_more (end_calls calls new_client) (end_calls more (run calls new_client))
      ∙ ap (λ x. arrived (end_calls calls new_client) ++ arrived (end_calls more x)) (sym is);
  lost = ap (list_any is_ending) (end_calls_more calls more new_client) ∙ endings_more (end_calls calls new_client) (end_calls more (run calls new_client))
      ∙ ap (λ x. list_any is_ending (end_calls calls new_client) || list_any is_ending (end_calls more x)) (sym is);
}

-- ---- A chain

-- also while the way waits for a channel of the agent
pub record Agrees (p : Place) (pasts : List Past) (chain : ChainValue) (calls : List ClientCall) (now : RouteRun) : Type 0 where
  pub client : chain.client ≡ run calls new_client
  pub allowed : AllByRecursion (MayCall p) calls
  pub route : chain.route ≡ now.route
  pub gave : now.past.client.gave ≡ given_out calls new_client
  pub got : bytes_of now.past.client.got ≡ arrived (end_calls calls new_client)
  pub lost : now.past.client.is_lost ≡ list_any is_ending (end_calls calls new_client)
  pub talks : TalkingOn chain.channel now.past pasts
  pub talked : AllByRecursion (Talked now.past pasts) chain.earlier

pub record Fits (p : Place) (pasts : List Past) (adds : ℕ) (chain : ChainValue) (kept : ChainPast) : Type 0 where
  pub now : RouteRun
  pub way : IsWay p adds kept.ways now
  pub agrees : Agrees p pasts chain kept.calls now
  pub unwanted : now.past.is_wanted ≡ false
  pub settled : is_waiting now ≡ false
  pub opened : is_some chain.client.channel ≡ now.past.is_joined

names_of : (p : Place) (calls : List ClientCall) → AllByRecursion (MayCall p) calls → AllByRecursion HasNames calls
names_of p [] all = tt
names_of p (call ∷ calls) all = (all.0.0, names_of p calls all.1)

may_of : (p : Place) (calls : List ClientCall) → AllByRecursion (MayCall p) calls → AllByRecursion (MayBeCalled p.plans p.at) calls
may_of p [] all = tt
may_of p (call ∷ calls) all = (all.0.1, may_of p calls all.1)

-- all that its client, and the agent, queued for it was given out
pub record GaveOut (pasts : List Past) (chain : ChainValue) : Type 0 where
  pub client : IfSome chain.client.channel (λ e. e.queued ≡ [])
  pub agent : (k : ℕ) → chain.channel ≡ Some k → IfSome (past_at k pasts) (λ p. (run_of p).end.queued ≡ [])

talks_of : (past : Option Past) (talk : Talk) → IfSome past (λ p. (run_of p).end.queued ≡ []) → Talking past talk → Talks past talk
talks_of past talk given t = record { refused = t.refused; gave = t.gave; given = given; lost = t.lost; came = t.came; front = t.front }

talks_on : (channel : Option ℕ) (p : WayPast) (pasts : List Past) → ((k : ℕ) → channel ≡ Some k → IfSome (past_at k pasts) (λ p. (run_of p).end.queued ≡ [])) → TalkingOn channel p pasts → TalksOn channel p pasts
talks_on None p pasts given t = t
talks_on (Some k) p pasts given t = (t.0, talks_of (past_at k pasts) p.agent (given k refl) t.1)

pub stands_of : (p : Place) (pasts : List Past) (adds : ℕ) (chain : ChainValue) (kept : ChainPast) → Fits p pasts adds chain kept → GaveOut pasts chain
    → ChainStandsBy p.plans pasts p.at adds chain kept
stands_of p pasts adds chain kept f gave =
    let is : after_all kept.ways (no_calls adds) ≡ f.now = f.way.is in
    let route = f.agrees.route ∙ ap (λ x. x.route) (sym is) in
    let stands : ChainStands p.plans pasts p.at adds chain = record {
      calls = kept.calls;
      ways = kept.ways;
      may_be_called = may_of p kept.calls f.agrees.allowed;
      may_happen = f.way.may;
      client = f.agrees.client;
      names = names_of p kept.calls f.agrees.allowed;
      way = route;
      unwanted = ap (λ x. x.past.is_wanted) is ∙ f.unwanted;
      settled = ap is_waiting is ∙ f.settled;
      given = gave.client;
      lost = ap (λ x. x.past.client.is_lost) is ∙ f.agrees.lost;
      opened = f.opened ∙ ap (λ x. x.past.is_joined) (sym is);
      gave = ap (λ x. x.past.client.gave) is ∙ f.agrees.gave;
      got = ap (λ x. bytes_of x.past.client.got) is ∙ f.agrees.got;
      talks = talks_on chain.channel (after_all kept.ways (no_calls adds)).past pasts gave.agent (subst (λ x. TalkingOn chain.channel x.past pasts) (sym is) f.agrees.talks);
      talked = subst (λ x. AllByRecursion (Talked x.past pasts) chain.earlier) (sym is) f.agrees.talked;
    } in
    record { client = f.agrees.client; route = route; stands = stands; calls = refl; ways = refl }

-- ---- All chains

abbrev pub place_of : List Plan → ℕ → Place
place_of plans at = record { plans = plans; at = at }

-- from this place on, each by the number of its value-adds and its past
abbrev pub AllFit : List Plan → List Past → ℕ → List ℕ → List ChainValue → List ChainPast → Type 0
AllFit plans pasts at [] [] kept = Unit {0}
AllFit plans pasts at [] (chain ∷ chains) kept = ⊥
AllFit plans pasts at (n ∷ adds) [] kept = ⊥
AllFit plans pasts at (n ∷ adds) (chain ∷ chains) [] = ⊥
AllFit plans pasts at (n ∷ adds) (chain ∷ chains) (one ∷ kept) = Fits (place_of plans at) pasts n chain one × AllFit plans pasts (suc at) adds chains kept

pub all_stand : (plans : List Plan) (pasts : List Past) (at : ℕ) (adds : List ℕ) (chains : List ChainValue) (kept : List ChainPast) → AllByRecursion (GaveOut pasts) chains
    → AllFit plans pasts at adds chains kept → AllStandBy plans pasts at adds chains kept
all_stand plans pasts at [] [] kept gave all = tt
all_stand plans pasts at [] (chain ∷ chains) kept gave all = absurd all
all_stand plans pasts at (n ∷ adds) [] kept gave all = absurd all
all_stand plans pasts at (n ∷ adds) (chain ∷ chains) [] gave all = absurd all
all_stand plans pasts at (n ∷ adds) (chain ∷ chains) (one ∷ kept) gave all =
    (stands_of (place_of plans at) pasts n chain one all.0 gave.0, all_stand plans pasts (suc at) adds chains kept gave.1 all.1)
