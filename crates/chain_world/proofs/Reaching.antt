-- A way that waits for a channel of the agent is given one, or is refused.
use Rattle.std.proofs.Common.{◌≡◌, ℕ, Bool, true, false, not, cond, List, [], ◌∷◌, ◌++◌, Option, Some, None, refl, sym, ap, subst, inr}
use Rattle.std.specs.Prelude.{is_some, option_to_list}
use Rattle.std.specs.List.{AllByRecursion, Contains}
use Rattle.std.proofs.lemmas.List.Elements.{Contains-append_left, Contains-push}
use Rattle.agent_node.specs.Runs.{Past}
use Rattle.channel_core.specs.declared.held.Outgoing.{Outgoing}
use Rattle.client_node.specs.Runs.{Call as ClientCall}
use Rattle.chain_route.specs.Route.{reached as way_reached}
use Rattle.chain_route.specs.Runs.{Past as WayPast, RouteRun, Talk, earlier_of, given_by, is_waiting, reached_past, reaches}
use Rattle.chain_world.specs.Chain.{channels_of, numbered}
use Rattle.chain_world.specs.ChainValue.{ChainValue}
use Rattle.chain_world.specs.Past.{ChainPast, way_gets}
use Rattle.chain_world.specs.Standing.{Talked, past_at}
use Rattle.chain_world.proofs.Fitting.{Agrees, Fits, IsWay, Place, way_on}
use Rattle.chain_world.proofs.Talks.{IsCameSame, Talking, TalkingOn, talked_kept}
use Rattle.chain_world.proofs.Unawaited.{reached_unawaited}
use Rattle.list_laws.proofs.AllLists.{all_append}

-- a chain whose way waits for a channel of the agent
pub record Waits (p : Place) (pasts : List Past) (adds : ℕ) (chain : ChainValue) (kept : ChainPast) : Type 0 where
  pub now : RouteRun
  pub way : IsWay p adds kept.ways now
  pub agrees : Agrees p pasts chain kept.calls now
  pub waiting : is_waiting now ≡ true
  pub opened : is_some chain.client.channel ≡ true

-- ---- The channel before becomes an earlier one

earlier_kept : (p : WayPast) (got : List Outgoing) → Contains p.earlier got → Contains (earlier_of p) got
earlier_kept p got has = by_flag p.is_reached
  where
    by_flag : (flag : Bool) → Contains (cond flag (p.earlier ++ p.agent.got ∷ []) p.earlier) got
    by_flag true = Contains-append_left p.earlier (p.agent.got ∷ []) got has
    by_flag false = has

last_earlier : (channel : Option ℕ) (did : Bool) (p : WayPast) (pasts : List Past) → TalkingOn channel p pasts → AllByRecursion (Talked (reached_past did p) pasts) (option_to_list channel)
last_earlier None did p pasts t = tt
last_earlier (Some k) did p pasts t =
    let has : Contains (earlier_of p) p.agent.got = subst (λ flag. Contains (cond flag (p.earlier ++ p.agent.got ∷ []) p.earlier) p.agent.got) (sym t.0) (Contains-push p.earlier p.agent.got) in
    (record { got = p.agent.got; earlier = has; front = t.1.front }, tt)

all_earlier : (p : Place) (did : Bool) (now : RouteRun) (pasts : List Past) (chain : ChainValue) (calls : List ClientCall) → Agrees p pasts chain calls now → AllByRecursion (Talked (reached_past did now.past) pasts) (channels_of chain)
all_earlier p did now pasts chain calls a =
    all_append (Talked (reached_past did now.past) pasts) chain.earlier (option_to_list chain.channel)
    (talked_kept now.past (reached_past did now.past) pasts pasts chain.earlier (earlier_kept now.past) (λ j has. refl) a.talked)
    (last_earlier chain.channel did now.past pasts a.talks)

-- ---- The new channel

abbrev pub new_talk : Bool → Talk
new_talk did = record { gave = given_by did; got = []; is_lost = false; is_refused = not did }

-- what is said of it at once
abbrev pub BeginsOn : Option ℕ → Bool → List Past → Type 0
BeginsOn None did pasts = did ≡ false
BeginsOn (Some k) did pasts = Talking (past_at k pasts) (new_talk did)

begins_so : (channel : Option ℕ) (did : Bool) (p : WayPast) (pasts : List Past) → BeginsOn channel did pasts → TalkingOn channel (reached_past did p) pasts
begins_so None did p pasts is = inr (ap not is, ap given_by is)
begins_so (Some k) did p pasts t = (refl, t)

abbrev pub reached_chain : Option ℕ → Bool → ChainValue → ChainValue
reached_chain channel did chain = let next = numbered channel chain in record next { route = way_reached did next.route }

pub reached_fits : {kept : ChainPast} → (p : Place) (pasts after : List Past) (adds : ℕ) (chain : ChainValue) (channel : Option ℕ) (did : Bool) → BeginsOn channel did after → ((j : ℕ) → Contains (channels_of chain) j → IsCameSame pasts after j) → Waits p pasts adds chain kept
    → Fits p after adds (reached_chain channel did chain) (way_gets (reaches did) kept)
reached_fits {kept = kept} p pasts after adds chain channel did begins same w =
    let past = reached_past did w.now.past in
    let next : RouteRun = record { route = way_reached did w.now.route; past = past } in
    record {
      now = next;
      way = subst (IsWay p adds (kept.ways ++ reaches did ∷ [])) (ap (λ b. cond {A = RouteRun} b next w.now) w.waiting) (way_on p adds (reaches did) w.now tt w.way);
      agrees = record {
        client = w.agrees.client;
        allowed = w.agrees.allowed;
        route = ap (way_reached did) w.agrees.route;
        gave = w.agrees.gave;
        got = w.agrees.got;
        lost = w.agrees.lost;
        talks = begins_so channel did w.now.past after begins;
        talked = talked_kept past past pasts after (channels_of chain) (λ got has. has) same (all_earlier p did w.now pasts chain kept.calls w.agrees);
      };
      unwanted = refl;
      settled = reached_unawaited did w.now;
      opened = w.opened;
    }
