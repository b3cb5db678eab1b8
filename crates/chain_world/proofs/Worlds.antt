-- What holds of a world after each step: every chain stands, and no two channels have one number.
use Rattle.std.proofs.Common.{◌≡◌, ℕ, suc, Bool, true, false, List, [], ◌∷◌, ◌++◌, map, Option, Some, None, refl, sym, ap, ◌∙◌, subst, append-nil}
use Rattle.std.specs.Prelude.{option_to_list, slice_get, slice_set}
use Rattle.std.specs.List.{AllByRecursion, Contains}
use Rattle.std.proofs.lemmas.List.Elements.{Contains-append_left, Contains-append_right}
use Rattle.target_contexts.specs.declared.process.Image.{Image}
use Rattle.target_hub.specs.declared.input.Input.{Input}
use Rattle.target_hub.specs.declared.input.Input.TheVariants.{Ticked}
use Rattle.tcf_schedules.specs.Plan.{Plan}
use Rattle.tcf_values.specs.declared.ids.ContextId.{ContextId}
use Rattle.agent_node.specs.Agent.{instruction_tells, ticked, turned}
use Rattle.agent_node.specs.AgentValue.{AgentValue}
use Rattle.agent_node.specs.Runs.{AgentRun, Call, Past, after_all, after_call, called, input_by, input_if, input_of as inputs_of, no_calls, pasts_by, ticks, turns}
use Rattle.agent_node.specs.declared.agent.Turned.{Turned}
use Rattle.agent_node.specs.declared.agent.Turned.TheVariants.{Nothing, Took}
use Rattle.chain_world.specs.Chain.{Both, carried_down, channels_of, input_of, turned_on}
use Rattle.chain_world.specs.ChainValue.{ChainValue}
use Rattle.chain_world.specs.Past as notes
use Rattle.chain_world.specs.Past.{BothPast, ChainPast}
use Rattle.chain_world.specs.Remembering.{AllStandBy, StandsBy}
use Rattle.chain_world.specs.Standing.{AllDiffer, AreNumbered}
use Rattle.chain_world.specs.World.{All, all_carried, carried, on_chain, on_some, tick_of, ticked_in, with_agent, with_both, with_chain, with_input, with_some}
use Rattle.chain_world.specs.WorldValue.{WorldValue}
use Rattle.chain_world.proofs.Agents.{Reached, reached_more}
use Rattle.chain_world.proofs.Fitting.{AllFit, Fits, GaveOut, all_stand, place_of}
use Rattle.chain_world.proofs.Keeping.{Goes, IsMove, Moved, fits_kept, goes_none, goes_of, goes_then}
use Rattle.chain_world.proofs.Numbers.{all_channels, at_differ, differ_parts, set_channels}
use Rattle.chain_world.proofs.Pasts.{Keeps, keeps_same, keeps_ticked, keeps_turned, ticked_numbers, turned_numbers}
use Rattle.chain_world.proofs.Steps.{carry_move}
use Rattle.chain_world.proofs.Places.{each_kept, set_stands, stands_at}

-- ---- The numbers

to_numbers : (P : ℕ → Type 0) (pasts : List Past) → AllByRecursion (λ past. P past.number) pasts → AllByRecursion P (map (λ p. p.number) pasts)
to_numbers P [] all = tt
to_numbers P (past ∷ pasts) all = (all.0, to_numbers P pasts all.1)

from_numbers : (P : ℕ → Type 0) (pasts : List Past) → AllByRecursion P (map (λ p. p.number) pasts) → AllByRecursion (λ past. P past.number) pasts
from_numbers P [] all = tt
from_numbers P (past ∷ pasts) all = (all.0, from_numbers P pasts all.1)

pub numbered_after : (next : Option ℕ) (pasts after : List Past) (numbers more : List ℕ) → map (λ p. p.number) after ≡ map (λ p. p.number) pasts → more ≡ numbers → AreNumbered next pasts numbers → AreNumbered next after more
numbered_after next pasts after numbers more same is n =
    subst (AreNumbered next after) (sym is)
    (record {
      differ = n.differ;
      below = n.below;
      owned = from_numbers (Contains numbers) after (subst (AllByRecursion (Contains numbers)) (sym same) (to_numbers (Contains numbers) pasts n.owned));
    })

-- ---- The world

pub record Standing (plans : List Plan) (images : List Image) (adds : List ℕ) (w : WorldValue) (past : notes.Past) : Type 0 where
  pub run : AgentRun
  pub reached : Reached images past.agent run
  pub agent : run.agent ≡ w.agent
  pub history : run.history ≡ w.history
  pub chains : AllFit plans run.channels 0 adds w.chains past.chains
  pub numbered : AreNumbered w.next run.channels (all_channels w.chains)

pub stands_so : (plans : List Plan) (images : List Image) (adds : List ℕ) (w : WorldValue) (past : notes.Past) → (s : Standing plans images adds w past) → AllByRecursion (GaveOut s.run.channels) w.chains
    → StandsBy plans images adds w past
stands_so plans images adds w past s gave =
    let is : after_all past.agent (no_calls images) ≡ s.run = s.reached.is in
    record {
      agent = ap (λ x. x.agent) is ∙ s.agent;
      history = ap (λ x. x.history) is ∙ s.history;
      chains = subst (λ x. AllStandBy plans x.channels 0 adds w.chains past.chains) (sym is) (all_stand plans s.run.channels 0 adds w.chains past.chains gave s.chains);
      numbered = subst (λ x. AreNumbered w.next x.channels (all_channels w.chains)) (sym is) s.numbered;
    }

module _ (plans : List Plan) (images : List Image) (adds : List ℕ) where
  -- ---- A step of one chain

  placed : (step : ChainValue → AgentValue → Both) (note : ChainValue → AgentValue → BothPast → BothPast) (at : ℕ) → IsMove images (place_of plans at) step note → (c : ChainValue) (w : WorldValue) (past : notes.Past)
      → slice_get w.chains at ≡ Some c → Standing plans images adds w past → Standing plans images adds (with_both at (step c w.agent) w) (notes.with_some note at (Some c) (slice_get past.chains at) w.agent past)
  placed step note at move c w past is s =
      let here = stands_at plans s.run.channels adds w.chains past.chains at c is s.chains in
      let before : BothPast = record { agent = past.agent; chain = here.own } in
      let after = note c w.agent before in
      let first : Moved images (place_of plans at) s.run here.count (channels_of c) (step c s.run.agent) (note c s.run.agent before) =
      move s.run here.count c before s.reached (at_differ w.chains at c is s.numbered.differ) here.fits in
      let m : Moved images (place_of plans at) s.run here.count (channels_of c) (step c w.agent) after =
      subst (λ a. Moved images (place_of plans at) s.run here.count (channels_of c) (step c a) (note c a before)) s.agent first in
      subst (λ o. Standing plans images adds (with_both at (step c w.agent) w) (notes.with_some note at (Some c) o w.agent past)) (sym here.is_kept)
      (record {
        run = m.next;
        reached = m.reached;
        agent = m.agent;
        history = m.goes.history ∙ s.history;
        chains = set_stands plans s.run.channels m.next.channels adds w.chains past.chains at here.count c (step c w.agent).chain after.chain s.numbered.differ is here.there (λ j has apart. m.goes.others j apart)
            m.fits s.chains;
        numbered = numbered_after w.next s.run.channels m.next.channels (all_channels w.chains) (all_channels (slice_set w.chains at (step c w.agent).chain)) m.goes.numbers
            (set_channels w.chains at c (step c w.agent).chain is m.channels_are) s.numbered;
      })

  pub with_agent_stands : (step : ChainValue → AgentValue → Both) (note : ChainValue → AgentValue → BothPast → BothPast) (at : ℕ) → IsMove images (place_of plans at) step note → (w : WorldValue) (past : notes.Past)
      → Standing plans images adds w past → Standing plans images adds (with_agent step at w) (notes.with_agent note at w past)
  with_agent_stands step note at move w past s = by_place (slice_get w.chains at) refl
    where
      by_place : (there : Option ChainValue) → slice_get w.chains at ≡ there
          → Standing plans images adds (with_some step at there w) (notes.with_some note at there (slice_get past.chains at) w.agent past)
      by_place None is = s
      by_place (Some c) is = placed step note at move c w past is s

  -- a step that the agent has no part in
  pub chain_stands : (note : ChainValue → ChainPast → ChainPast) (at : ℕ) (c next : ChainValue) (w : WorldValue) (past : notes.Past) → slice_get w.chains at ≡ Some c → channels_of next ≡ channels_of c
      → ((pasts : List Past) (count : ℕ) (kept : ChainPast) → Fits (place_of plans at) pasts count c kept → Fits (place_of plans at) pasts count next (note c kept))
      → Standing plans images adds w past → Standing plans images adds (with_chain at next w) (notes.on_some note at (Some c) (slice_get past.chains at) past)
  chain_stands note at c next w past is same fits s =
      let here = stands_at plans s.run.channels adds w.chains past.chains at c is s.chains in
      subst (λ o. Standing plans images adds (with_chain at next w) (notes.on_some note at (Some c) o past)) (sym here.is_kept)
      (record {
        run = s.run;
        reached = s.reached;
        agent = s.agent;
        history = s.history;
        chains = set_stands plans s.run.channels s.run.channels adds w.chains past.chains at here.count c next (note c here.own) s.numbered.differ is here.there
            (λ j has apart. keeps_same j s.run.channels s.run.channels refl) (fits s.run.channels here.count here.own here.fits) s.chains;
        numbered = numbered_after w.next s.run.channels s.run.channels (all_channels w.chains) (all_channels (slice_set w.chains at next)) refl (set_channels w.chains at c next is same) s.numbered;
      })

  pub on_chain_stands : (change : ChainValue → ChainValue) (note : ChainValue → ChainPast → ChainPast) (at : ℕ)
      → ((pasts : List Past) (count : ℕ) (c : ChainValue) (kept : ChainPast) → Fits (place_of plans at) pasts count c kept → Fits (place_of plans at) pasts count (change c) (note c kept))
      → ((c : ChainValue) → channels_of (change c) ≡ channels_of c) → (w : WorldValue) (past : notes.Past)
      → Standing plans images adds w past → Standing plans images adds (on_chain change at w) (notes.on_chain note at w past)
  on_chain_stands change note at fits same w past s = by_place (slice_get w.chains at) refl
    where
      by_place : (there : Option ChainValue) → slice_get w.chains at ≡ there → Standing plans images adds (on_some change at there w) (notes.on_some note at there (slice_get past.chains at) past)
      by_place None is = s
      by_place (Some c) is = chain_stands note at c (change c) w past is (same c) (λ pasts count kept f. fits pasts count c kept f) s

  -- ---- What the agent queued for each chain is in flight

  record AllMoved (from : ℕ) (r : AgentRun) (counts : List ℕ) (chains : List ChainValue) (all : All) (past : notes.Past) : Type 0 where
    next : AgentRun
    reached : Reached images past.agent next
    goes : Goes r next (all_channels chains)
    agent : next.agent ≡ all.agent
    channels_are : all_channels all.chains ≡ all_channels chains
    stands : AllFit plans next.channels from counts all.chains past.chains

  all_moved : (from : ℕ) (counts : List ℕ) (chains : List ChainValue) (kept : List ChainPast) (calls : List Call) (r : AgentRun) → Reached images calls r → AllDiffer (all_channels chains)
      → AllFit plans r.channels from counts chains kept → AllMoved from r counts chains (all_carried chains r.agent) (notes.all_carried chains r.agent calls kept)
  all_moved from [] [] kept calls r reached differ all = record { next = r; reached = reached; goes = goes_none r []; agent = refl; channels_are = refl; stands = tt }
  all_moved from [] (c ∷ chains) kept calls r reached differ all = absurd all
  all_moved from (n ∷ counts) [] kept calls r reached differ all = absurd all
  all_moved from (n ∷ counts) (c ∷ chains) [] calls r reached differ all = absurd all
  all_moved from (n ∷ counts) (c ∷ chains) (one ∷ kept) calls r reached differ all =
      let p = place_of plans from in
      let parts = differ_parts (channels_of c) (all_channels chains) differ in
      let b = carried_down c r.agent in
      let before : BothPast = record { agent = calls; chain = one } in
      let after = notes.carried_down c r.agent before in
      let m : Moved images p r n (channels_of c) b after = carry_move images p r n c before reached parts.first all.0 in
      let rest : AllFit plans m.next.channels (suc from) counts chains kept =
      each_kept plans r.channels m.next.channels (suc from) counts chains kept (λ j has. m.goes.others j (λ own. parts.apart j own has)) all.1 in
      let further : AllMoved (suc from) m.next counts chains (all_carried chains b.agent) (notes.all_carried chains b.agent after.agent kept) =
      subst (λ a. AllMoved (suc from) m.next counts chains (all_carried chains a) (notes.all_carried chains a after.agent kept)) m.agent
      (all_moved (suc from) counts chains kept after.agent m.next m.reached parts.second rest) in
      record {
        next = further.next;
        reached = further.reached;
        goes = goes_then r m.next further.next (all_channels (c ∷ chains))
            (goes_of r m.next (channels_of c) (all_channels (c ∷ chains)) (λ j has. Contains-append_left (channels_of c) (all_channels chains) j has) m.goes)
            (goes_of m.next further.next (all_channels chains) (all_channels (c ∷ chains)) (λ j has. Contains-append_right (channels_of c) (all_channels chains) j has) further.goes);
        agent = further.agent;
        channels_are = ap (λ ks. ks ++ all_channels (all_carried chains b.agent).chains) m.channels_are ∙ ap (λ ks. channels_of c ++ ks) further.channels_are;
        stands = (
          fits_kept p m.next.channels further.next.channels n b.chain
              (λ j has. further.goes.others j (λ other. parts.apart j (subst (λ ks. Contains ks j) m.channels_are has) other)) m.fits,
          further.stands,
        );
      }

  pub carried_stands : (w : WorldValue) (past : notes.Past) → Standing plans images adds w past → Standing plans images adds (carried w) (notes.carried w past)
  unfolding carried
  carried_stands w past s =
      let m : AllMoved 0 s.run adds w.chains (all_carried w.chains w.agent) (notes.all_carried w.chains w.agent past.agent past.chains) =
      subst (λ a. AllMoved 0 s.run adds w.chains (all_carried w.chains a) (notes.all_carried w.chains a past.agent past.chains)) s.agent
      (all_moved 0 adds w.chains past.chains past.agent s.run s.reached s.numbered.differ s.chains) in
      record {
        run = m.next;
        reached = m.reached;
        agent = m.agent;
        history = m.goes.history ∙ s.history;
        chains = m.stands;
        numbered = numbered_after w.next s.run.channels m.next.channels (all_channels w.chains) (all_channels (all_carried w.chains w.agent).chains) m.goes.numbers m.channels_are s.numbered;
      }

  -- ---- A call of the agent that brings nothing and gives nothing out

  record IsInput (w : WorldValue) (r : AgentRun) (call : Call) (input : Option Input) (agent : AgentValue) : Type 0 where
    agent_is : called call r.agent ≡ agent
    input_is : input_by call r.agent ≡ option_to_list input
    keeps : (j : ℕ) → Keeps j r.channels (pasts_by call r.agent r.channels)
    numbers : map (λ p. p.number) (pasts_by call r.agent r.channels) ≡ map (λ p. p.number) r.channels

  input_stands : (w : WorldValue) (past : notes.Past) (call : Call) (input : Option Input) (agent : AgentValue) → (s : Standing plans images adds w past) → IsInput w s.run call input agent
      → Standing plans images adds (with_input input (record w { agent = agent })) (notes.agent_gets (call ∷ []) past)
  input_stands w past call input agent s i = by_input input i.input_is
    where
      next : AgentRun
      next = after_call call s.run

      chains : AllFit plans next.channels 0 adds w.chains past.chains
      chains = each_kept plans s.run.channels next.channels 0 adds w.chains past.chains (λ j has. i.keeps j) s.chains

      numbered : AreNumbered w.next next.channels (all_channels w.chains)
      numbered = numbered_after w.next s.run.channels next.channels (all_channels w.chains) (all_channels w.chains) i.numbers refl s.numbered

      by_input : (input : Option Input) → input_by call s.run.agent ≡ option_to_list input → Standing plans images adds (with_input input (record w { agent = agent })) (notes.agent_gets (call ∷ []) past)
      by_input None is = record {
        run = next;
        reached = reached_more images s.run (call ∷ []) s.reached;
        agent = i.agent_is;
        history = ap (λ xs. s.run.history ++ xs) is ∙ append-nil s.run.history ∙ s.history;
        chains = chains;
        numbered = numbered;
      }
      by_input (Some input) is = record {
        run = next;
        reached = reached_more images s.run (call ∷ []) s.reached;
        agent = i.agent_is;
        history = ap (λ xs. s.run.history ++ xs) is ∙ ap (λ h. h ++ input ∷ []) s.history;
        chains = chains;
        numbered = numbered;
      }

  turn_input : (next : Turned) → inputs_of next ≡ option_to_list (input_of next)
  turn_input Nothing = refl
  turn_input (Took input) = refl

  pub turn_stands : (channel : Option ℕ) (w : WorldValue) (past : notes.Past) → Standing plans images adds w past
      → Standing plans images adds (with_input (turned_on channel w.agent).0 (record w { agent = (turned_on channel w.agent).1 })) (notes.turn_gets channel past)
  turn_stands None w past s = s
  turn_stands (Some k) w past s =
      input_stands w past (turns k) (input_of (turned k w.agent).0) (turned k w.agent).1 s
      (record {
        agent_is = ap (λ a. (turned k a).1) s.agent;
        input_is = ap (λ a. inputs_of (turned k a).0) s.agent ∙ turn_input (turned k w.agent).0;
        keeps = λ j. keeps_turned k s.run.agent j s.run.channels;
        numbers = turned_numbers k s.run.agent s.run.channels;
      })

  tick_input : (flag : Bool) (thread : ContextId) → input_if flag (Ticked thread) ≡ option_to_list (tick_of flag thread)
  tick_input true thread = refl
  tick_input false thread = refl

  pub tick_stands : (thread : ContextId) (w : WorldValue) (past : notes.Past) → Standing plans images adds w past → Standing plans images adds (ticked_in thread w) (notes.ticked_in thread w past)
  tick_stands thread w past s =
      carried_stands (with_input (tick_of (ticked thread w.agent).0 thread) (record w { agent = (ticked thread w.agent).1 })) (notes.agent_gets (ticks thread ∷ []) past)
      (input_stands w past (ticks thread) (tick_of (ticked thread w.agent).0 thread) (ticked thread w.agent).1 s
      (record {
        agent_is = ap (λ a. (ticked thread a).1) s.agent;
        input_is = ap (λ a. input_if (ticked thread a).0 (Ticked thread)) s.agent ∙ tick_input (ticked thread w.agent).0 thread;
        keeps = λ j. keeps_ticked (instruction_tells thread s.run.agent.target) s.run.agent j s.run.channels;
        numbers = ticked_numbers (instruction_tells thread s.run.agent.target) s.run.agent s.run.channels;
      }))
