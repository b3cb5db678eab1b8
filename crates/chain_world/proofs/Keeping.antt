-- What becomes of a chain where the agent's channels go on: while they stay as they are to it, it stands as before.
use Rattle.std.proofs.Common.{◌≡◌, ℕ, true, false, List, [], ◌∷◌, ◌++◌, map, Option, Some, None, refl, sym, ap, ◌∙◌, subst}
use Rattle.std.specs.Prelude.{option_to_list}
use Rattle.std.specs.List.{Contains}
use Rattle.std.proofs.lemmas.List.Elements.{Contains-append_left, Contains-append_right}
use Rattle.agent_node.specs.AgentValue.{AgentValue}
use Rattle.agent_node.specs.Runs.{AgentRun, Past}
use Rattle.client_node.specs.Runs.{Call as ClientCall}
use Rattle.chain_route.specs.RouteValue.{RouteValue}
use Rattle.chain_route.specs.Runs.{Call as WayCall, RouteRun, Talk, after_call as way_call, is_waiting, with_agent}
use Rattle.target_contexts.specs.declared.process.Image.{Image}
use Rattle.chain_world.specs.Chain.{Both, both, channels_of}
use Rattle.chain_world.specs.ChainValue.{ChainValue}
use Rattle.chain_world.specs.Past.{BothPast, ChainPast, way_gets}
use Rattle.chain_world.specs.Standing.{AllDiffer, past_at}
use Rattle.chain_world.proofs.Agents.{Reached}
use Rattle.chain_world.proofs.Fitting.{Agrees, Fits, IsWay, MayGo, Place, way_on}
use Rattle.chain_world.proofs.Pasts.{Keeps, grows_none, grows_then}
use Rattle.chain_world.proofs.Talks.{IsCameSame, Talking, TalkingOn, came_grown, same_above, talked_kept, talks_kept}
use Rattle.list_laws.proofs.Contained.{contains_first as here}

-- ---- The agent goes on

-- by calls that are of these channels, but for idle ones, and that are no input
pub record Goes (r next : AgentRun) (channels : List ℕ) : Type 0 where
  pub history : next.history ≡ r.history
  pub numbers : map (λ p. p.number) next.channels ≡ map (λ p. p.number) r.channels
  pub others : (j : ℕ) → (Contains channels j → ⊥) → Keeps j r.channels next.channels

pub goes_none : (r : AgentRun) (channels : List ℕ) → Goes r r channels
goes_none r channels = record { history = refl; numbers = refl; others = λ j apart. grows_none (past_at j r.channels) }

pub goes_then : (r next last : AgentRun) (channels : List ℕ) → Goes r next channels → Goes next last channels → Goes r last channels
goes_then r next last channels one two = record {
  history = two.history ∙ one.history;
  numbers = two.numbers ∙ one.numbers;
  others = λ j apart. grows_then (past_at j r.channels) (past_at j next.channels) (past_at j last.channels) (one.others j apart) (two.others j apart);
}

pub goes_of : (r next : AgentRun) (channels more : List ℕ) → ((j : ℕ) → Contains channels j → Contains more j) → Goes r next channels → Goes r next more
goes_of r next channels more within g = record { history = g.history; numbers = g.numbers; others = λ j apart. g.others j (λ has. apart (within j has)) }

-- ---- A chain to which its channels are the same

pub own_channel : (chain : ChainValue) (j : ℕ) → chain.channel ≡ Some j → Contains (channels_of chain) j
own_channel chain j is =
    Contains-append_right chain.earlier (option_to_list chain.channel) j (subst (λ channel. Contains (option_to_list channel) j) (sym is) (here j []))

pub earlier_channel : (chain : ChainValue) (j : ℕ) → Contains chain.earlier j → Contains (channels_of chain) j
earlier_channel chain j has = Contains-append_left chain.earlier (option_to_list chain.channel) j has

-- the last channel goes on by itself, and to the earlier ones nothing more came
pub record IsSameTo (chain : ChainValue) (pasts after : List Past) : Type 0 where
  pub keeps : (j : ℕ) → chain.channel ≡ Some j → Keeps j pasts after
  pub came : (j : ℕ) → Contains chain.earlier j → IsCameSame pasts after j

pub same_to : (chain : ChainValue) (pasts after : List Past) → ((j : ℕ) → Contains (channels_of chain) j → Keeps j pasts after) → IsSameTo chain pasts after
same_to chain pasts after keeps = record {
  keeps = λ j is. keeps j (own_channel chain j is);
  came = λ j has. came_grown (past_at j pasts) (past_at j after) (keeps j (earlier_channel chain j has));
}

pub agrees_after : (p : Place) (pasts after : List Past) (chain : ChainValue) (calls : List ClientCall) (now : RouteRun) → IsSameTo chain pasts after → Agrees p pasts chain calls now → Agrees p after chain calls now
agrees_after p pasts after chain calls now same a = record {
  client = a.client;
  allowed = a.allowed;
  route = a.route;
  gave = a.gave;
  got = a.got;
  lost = a.lost;
  talks = talks_kept chain.channel now.past now.past pasts after (same_above now.past) same.keeps a.talks;
  talked = talked_kept now.past now.past pasts after chain.earlier (λ got has. has) same.came a.talked;
}

pub fits_after : {kept : ChainPast} → (p : Place) (pasts after : List Past) (adds : ℕ) (chain : ChainValue) → IsSameTo chain pasts after → Fits p pasts adds chain kept → Fits p after adds chain kept
fits_after {kept = kept} p pasts after adds chain same f = record {
  now = f.now;
  way = f.way;
  agrees = agrees_after p pasts after chain kept.calls f.now same f.agrees;
  unwanted = f.unwanted;
  settled = f.settled;
  opened = f.opened;
}

pub fits_kept : {kept : ChainPast} → (p : Place) (pasts after : List Past) (adds : ℕ) (chain : ChainValue) → ((j : ℕ) → Contains (channels_of chain) j → Keeps j pasts after) → Fits p pasts adds chain kept → Fits p after adds chain kept
fits_kept p pasts after adds chain keeps f = fits_after p pasts after adds chain (same_to chain pasts after keeps) f

-- ---- A call of the way that the agent has a part in

talks_on : (channel : Option ℕ) (k : ℕ) (now : RouteRun) (pasts after : List Past) (talk : Talk) → channel ≡ Some k → (Talking (past_at k pasts) now.past.agent → Talking (past_at k after) talk)
    → TalkingOn channel now.past pasts → TalkingOn channel (with_agent talk now.past) after
talks_on None k now pasts after talk is then t = absurd cc
talks_on (Some i) k now pasts after talk is then t =
    let same : i ≡ k = cc in (t.0, subst (λ n. Talking (past_at n after) talk) (sym same) (then (subst (λ n. Talking (past_at n pasts) now.past.agent) same t.1)))

pub agent_fits : {kept : ChainPast} → (p : Place) (pasts after : List Past) (adds : ℕ) (chain : ChainValue) (k : ℕ) (f : Fits p pasts adds chain kept) (call : WayCall) (change : RouteValue → RouteValue) (talk : Talk) → chain.channel ≡ Some k → MayGo p call
    → way_call call f.now ≡ record { route = change f.now.route; past = with_agent talk f.now.past }
    → is_waiting (record { route = change f.now.route; past = with_agent talk f.now.past }) ≡ false
    → (Talking (past_at k pasts) f.now.past.agent → Talking (past_at k after) talk) → ((j : ℕ) → Contains chain.earlier j → IsCameSame pasts after j)
    → Fits p after adds (record chain { route = change chain.route }) (way_gets call kept)
agent_fits {kept = kept} p pasts after adds chain k f call change talk is may does settled talks same =
    let past = with_agent talk f.now.past in
    record {
      now = record { route = change f.now.route; past = past };
      way = subst (IsWay p adds (kept.ways ++ call ∷ [])) does (way_on p adds call f.now may f.way);
      agrees = record {
        client = f.agrees.client;
        allowed = f.agrees.allowed;
        route = ap change f.agrees.route;
        gave = f.agrees.gave;
        got = f.agrees.got;
        lost = f.agrees.lost;
        talks = talks_on chain.channel k f.now pasts after talk is talks f.agrees.talks;
        talked = talked_kept f.now.past past pasts after chain.earlier (λ got has. has) same f.agrees.talked;
      };
      unwanted = f.unwanted;
      settled = settled;
      opened = f.opened;
    }

-- the agent's hop was connected
pub is_reached : (channel : Option ℕ) (k : ℕ) (now : RouteRun) (pasts : List Past) → channel ≡ Some k → TalkingOn channel now.past pasts → now.past.is_reached ≡ true
is_reached None k now pasts is t = absurd cc
is_reached (Some i) k now pasts is t = t.0

-- ---- A step of a chain and the agent

-- what it leaves of both, with their past
pub record Moved (images : List Image) (p : Place) (r : AgentRun) (adds : ℕ) (channels : List ℕ) (b : Both) (kept : BothPast) : Type 0 where
  pub next : AgentRun
  pub reached : Reached images kept.agent next
  pub goes : Goes r next channels
  pub agent : next.agent ≡ b.agent
  pub channels_are : channels_of b.chain ≡ channels
  pub fits : Fits p next.channels adds b.chain kept.chain

-- the agent does nothing
pub still : (images : List Image) (p : Place) (r : AgentRun) (adds : ℕ) (channels : List ℕ) (next : ChainValue) (kept : BothPast) → channels_of next ≡ channels → Reached images kept.agent r
    → Fits p r.channels adds next kept.chain → Moved images p r adds channels (both next r.agent) kept
still images p r adds channels next kept is reached f = record { next = r; reached = reached; goes = goes_none r channels; agent = refl; channels_are = is; fits = f }

module _ (images : List Image) (p : Place) where
  abbrev pub IsMove : (ChainValue → AgentValue → Both) → (ChainValue → AgentValue → BothPast → BothPast) → Type 0
  IsMove step note = (r : AgentRun) (adds : ℕ) (c : ChainValue) (kept : BothPast) → Reached images kept.agent r → AllDiffer (channels_of c) → Fits p r.channels adds c kept.chain
      → Moved images p r adds (channels_of c) (step c r.agent) (note c r.agent kept)

  pub moved_then : (r : AgentRun) (adds : ℕ) (channels : List ℕ) (b : Both) (kept : BothPast) (step : ChainValue → AgentValue → Both) (note : ChainValue → AgentValue → BothPast → BothPast)
      → IsMove step note → AllDiffer channels → Moved images p r adds channels b kept → Moved images p r adds channels (step b.chain b.agent) (note b.chain b.agent kept)
  moved_then r adds channels b kept step note move differ m =
      let first : Moved images p m.next adds (channels_of b.chain) (step b.chain m.next.agent) (note b.chain m.next.agent kept) =
      move m.next adds b.chain kept m.reached (subst AllDiffer (sym m.channels_are) differ) m.fits in
      let n : Moved images p m.next adds channels (step b.chain b.agent) (note b.chain b.agent kept) =
      subst (λ a. Moved images p m.next adds channels (step b.chain a) (note b.chain a kept)) m.agent
      (subst (λ ks. Moved images p m.next adds ks (step b.chain m.next.agent) (note b.chain m.next.agent kept)) m.channels_are first) in
      record { next = n.next; reached = n.reached; goes = goes_then r m.next n.next channels m.goes n.goes; agent = n.agent; channels_are = n.channels_are; fits = n.fits }
