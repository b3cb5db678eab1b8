-- What comes through a way: by recursion over its value-adds, from the bottom.
use Rattle.std.proofs.Common.{◌≡◌, ℕ, zero, suc, ◌+◌, ◌-◌, ◌^◌, ◌<◌, ◌≤◌, Bool, true, false, ⊎_elim, List, [], ◌∷◌, ◌++◌, length, map, take, refl, sym, ap, ◌∙◌, subst, arith, append_assoc, append-nil, length-append}
use Rattle.std.specs.List.{AllByRecursion}
use Rattle.channel_core.specs.Arrivals.{AreSpoken, Spoken, bytes_of, marked as marked_bytes, queue_of}
use Rattle.target_contexts.specs.declared.process.Image.{Image}
use Rattle.target_hub.specs.History.{IsLegal}
use Rattle.target_hub.specs.declared.input.Input.{Input}
use Rattle.value_node.specs.Asked.{Asked}
use Rattle.value_node.specs.Deeds.{asked_in, sent_in}
use Rattle.value_node.specs.OwnMessages.{BeginsWithHello, IsOwn}
use Rattle.value_node.specs.RelayLaws.{StandsWell}
use Rattle.value_node.specs.declared.states.Bind.TheVariants.{Bound}
use Rattle.chain_route.specs.Carrying.{AllCarry, End, HopCarries, Made, end_above, end_below, past_of, value_of}
use Rattle.chain_route.specs.declared.hop.Hop.{Hop}
use Rattle.chain_told.specs.Told.{AreToldRightly, numbered}
use Rattle.chain_told.specs.TellsOn.{IsWithoutSome}
use Rattle.chain_through.specs.Calling.{AskNothing, Calls, Says, entering, given_of}
use Rattle.chain_through.specs.Through.{AllTold, ComesThrough, IsMarked, IsSaidRightly, KnowsTruth, ToldTo, content, is_storable_content}
use Rattle.value_node.proofs.TheLaws.{answers_itself, forwards_in_order}
use Rattle.chain_through.proofs.Above.{CallsUp, below_gives, calls_on}
use Rattle.chain_through.proofs.Below.{begins_own, none_since, own_greets, says_below, says_own, says_queued, took}
use Rattle.chain_through.proofs.Bound.{answered, begins, down_begins, goes_through, is_own, knows_truth, later, own, own_formed, own_since, split, stops_through, told_down}
use Rattle.chain_through.proofs.Doing.{few_sent}
use Rattle.chain_through.proofs.Facts.{below_read, deeds_of, facts_of}
use Rattle.chain_told.proofs.Numbered.{length_numbered, numbered_append}
use Rattle.chain_through.proofs.OwnTold.{own_told}
use Rattle.chain_through.proofs.Queues.{entering_formed}
use Rattle.chain_through.proofs.Ways.{Way, WayBound, are_bound, none_came, none_down, through_way, way_none}
use Rattle.list_laws.proofs.Lists.{none_behind, none_mapped}
use Rattle.chain_route.proofs.Adds.{run_of}
use Rattle.list_laws.specs.Fronts.{IsFront}
use Rattle.list_laws.proofs.Fronts.{front_flat, front_none, front_same, front_then}
use Rattle.value_node.proofs.OwnInOrder.{own_behind}
use Rattle.chain_route.specs.Taking.{AreBound}

none_without : {A : Type 0} → (kind : A → Bool) (xs : List A) → IsWithoutSome kind xs [] → xs ≡ []
none_without kind [] w = refl
none_without kind (x ∷ xs) w = absurd w

-- the first of two lists lies in so many first elements of both
take_behind : {A : Type 0} → (count : ℕ) (first more : List A) → length first ≤ count → (rest : List A) × (take count (first ++ more) ≡ first ++ rest)
take_behind count [] more within = (take count more, refl)
take_behind zero (x ∷ first) more within = absurd (omega arith)
take_behind (suc count) (x ∷ first) more within = let p = take_behind count first more (omega arith) in (p.0, ap (λ l. x ∷ l) p.1)

pub take_few : {A : Type 0} → (count : ℕ) (xs : List A) → length (take count xs) ≤ length xs
take_few zero xs = omega arith
take_few (suc count) [] = omega arith
take_few (suc count) (x ∷ xs) = let rest = take_few count xs in omega arith

-- the commands that were given are those that it took, and others
record IsGivenTo (commands given until since : List Asked) : Type 0 where
  rest : List Asked
  are : given ≡ until ++ (since ++ rest)
  few : length given ≤ length commands

given_to : (count : ℕ) (commands until since more : List Asked) → commands ≡ until ++ (since ++ more) → length until + length since ≤ count → IsGivenTo commands (take count commands) until since
given_to count commands until since more are within =
    let both : length (until ++ since) ≡ length until + length since = length-append until since in
    let p = take_behind count (until ++ since) more (omega arith) in
    record {
      rest = p.0;
      are = ap (take count) (are ∙ sym (append_assoc until since more)) ∙ p.1 ∙ append_assoc until since p.0;
      few = take_few count commands;
    }

module _ (images : List Image) (history : List Input) (legal : IsLegal images history) where
  -- what its lower end queued comes down
  comes_down : (hop : Hop) (lower : End) (m : Made) → HopCarries hop lower (end_below (past_of m)) → IsFront lower.came (bytes_of (queue_of (below_read m).spoken (below_read m).is_ended))
  comes_down hop lower m carries =
      let can = below_read m in
      let queue = queue_of can.spoken can.is_ended in
      front_then lower.came (bytes_of (end_below (past_of m)).gave) (bytes_of queue) carries.down_front (front_flat (λ o. marked_bytes o.bytes o.mark) (end_below (past_of m)).gave queue (below_gives m))

  -- ---- Below a way, one value-add

  way_bound : (hop : Hop) (lower : End) (m : Made) (made : List Made) (commands : List Asked) (said : List Spoken) → HopCarries hop lower (end_below (past_of m)) → (calls : Calls commands lower.gave) → length commands < 2 ^ 64
      → (up : CallsUp m) → Way images history (sent_in (deeds_of m)) (end_above (past_of m)) up.calls made said → (past_of m).is_bound ≡ true → Way images history commands lower calls (m ∷ made) said
  way_bound hop lower m made commands said carries calls few up w bound =
      let can = below_read m in
      let count = length (entering calls.spoken) - 1 in
      let t = took lower m commands carries.up_front calls in
      let g = given_to count commands t.until t.since t.more t.parts t.few in
      let given = given_of commands calls.spoken in
      let given_few : length given < 2 ^ 64 = let less : length given ≤ length commands = g.few in omega arith in
      let down = entering can.spoken in
      let b = says_below m w.down w.is_ended w.formed w.comes_down in
      record {
        top = w.top;
        goes_up = w.goes_up;
        down = can.spoken;
        is_ended = can.is_ended;
        formed = can.well_formed;
        comes_down = comes_down hop lower m carries;
        told = told_down images history legal m made commands given g.rest said count few t g.are given_few up w down b bound;
        greets = λ greets. down_begins images history legal m made commands given g.rest said count few t g.are given_few up w down b bound;
        says_all = sym (says_queued m);
        own = own images history legal m made commands given g.rest said count few t g.are given_few up w down b bound;
        own_formed = own_formed images history legal m made commands given g.rest said count few t g.are given_few up w down b bound;
        begins = begins images history legal m made commands given g.rest said count few t g.are given_few up w down b bound;
        took = answered images history legal m made commands given g.rest said count few t g.are given_few up w down b bound;
        behind = later images history legal m made commands given g.rest said count few t g.are given_few up w down b bound;
        split = split images history legal m made commands given g.rest said count few t g.are given_few up w down b bound;
        left = (own_since images history legal m made commands given g.rest said count few t g.are given_few up w down b bound).left_now;
        is_own = is_own images history legal m made commands given g.rest said count few t g.are given_few up w down b bound;
        adds = (knows_truth images history legal m made commands given g.rest said count few t g.are given_few up w down b bound, w.adds);
        bound = λ all. goes_through images history legal m made commands given g.rest said count few t g.are given_few up w down b bound (w.bound all.1);
        unbound = λ none. let other : AreBound made → ⊥ = λ all. none (bound, all) in
            record { silent = (w.unbound other).silent; comes_down = stops_through images history legal m made commands given g.rest said count few t g.are given_few up w down b bound other };
      }

  -- it sends nothing above where it isn't bound
  none_sent : (m : Made) → (past_of m).is_bound ≡ false → sent_in (deeds_of m) ≡ []
  none_sent m unbound =
      let none : asked_in (deeds_of m) ≡ [] = sym (forwards_in_order m.peer m.calls).asked ∙ none_since m unbound in
      let many : length (asked_in (deeds_of m)) ≡ 0 = ap length none in
      let few = few_sent (deeds_of m) in
      nothing (sent_in (deeds_of m)) (omega arith)
    where
      nothing : (xs : List Asked) → length xs ≡ 0 → xs ≡ []
      nothing [] same = refl
      nothing (x ∷ xs) same = absurd (omega arith)

  silent : (m : Made) (made : List Made) (said : List Spoken) (calls : Calls (sent_in (deeds_of m)) (end_above (past_of m)).gave) (w : Way images history (sent_in (deeds_of m)) (end_above (past_of m)) calls made said)
      → (past_of m).is_bound ≡ false → w.top ≡ []
  silent m made said calls w unbound = ⊎_elim (λ all. where_bound (w.bound all)) (λ none. (w.unbound none).silent) (are_bound made)
    where
      nothing : w.behind ≡ []
      nothing = none_behind w.took w.behind (sym w.split ∙ none_sent m unbound)

      where_bound : WayBound (sent_in (deeds_of m)) made w.took w.behind w.left w.top w.own said (entering w.down) → w.top ≡ []
      where_bound g =
          let asked_none : g.goes_up.asked ≡ [] = front_none g.goes_up.asked (front_same g.goes_up.asked (map content w.behind) [] (ap (λ cs. map content cs) nothing) g.goes_up.front) in
          none_mapped content w.top (none_without is_storable_content (map content w.top) (subst (λ cs. IsWithoutSome is_storable_content (map content w.top) cs) asked_none g.goes_up.sent))

  -- a bound one has taken the Hello that binds it
  knows_nothing : (m : Made) → (past_of m).is_bound ≡ false → KnowsTruth images history (value_of m)
  knows_nothing m unbound is =
      let stands : StandsWell Bound (run_of m).value.relay (run_of m).past = subst (λ bind. StandsWell bind (run_of m).value.relay (run_of m).past) is (facts_of m).stands in
      let one : true ≡ false = sym stands.2 ∙ unbound in
      absurd cc

  way_unbound : (hop : Hop) (lower : End) (m : Made) (made : List Made) (commands : List Asked) (said : List Spoken) → HopCarries hop lower (end_below (past_of m)) → (calls : Calls commands lower.gave) → length commands < 2 ^ 64
      → (up : CallsUp m) → Way images history (sent_in (deeds_of m)) (end_above (past_of m)) up.calls made said → (past_of m).is_bound ≡ false → Way images history commands lower calls (m ∷ made) said
  way_unbound hop lower m made commands said carries calls few up w unbound =
      let can = below_read m in
      let count = length (entering calls.spoken) - 1 in
      let t = took lower m commands carries.up_front calls in
      let g = given_to count commands t.until t.since t.more t.parts t.few in
      let given = given_of commands calls.spoken in
      let given_few : length given < 10 ^ 64 = let less : length given ≤ length commands = g.few in omega arith in
      let mine = answers_itself m.peer m.calls in
      let says : entering can.spoken ≡ mine.own = says_own m unbound in
      let is : IsOwn (numbered 1 t.until) mine.own mine.left = subst (λ cs. IsOwn cs mine.own mine.left) t.until_are mine.is_own in
      let others = numbered (1 + length t.until) (t.since ++ g.rest) in
      let given_is : numbered 1 given ≡ numbered 1 t.until ++ others = ap (λ cs. numbered 1 cs) g.are ∙ numbered_append 1 t.until (t.since ++ g.rest) in
      let whole : IsOwn (numbered 1 given) mine.own (mine.left ++ others) = subst (λ cs. IsOwn cs mine.own (mine.left ++ others)) (sym given_is) (own_behind (numbered 1 t.until) mine.left others mine.own is) in
      let begins : BeginsWithHello mine.own = begins_own mine.own (own_greets m) in
      record {
        top = w.top;
        goes_up = w.goes_up;
        down = can.spoken;
        is_ended = can.is_ended;
        formed = can.well_formed;
        comes_down = comes_down hop lower m carries;
        told = subst (AreToldRightly images history (numbered 1 given)) (sym says) (own_told given given_few images history (mine.left ++ others) mine.own whole);
        greets = λ greets. subst BeginsWithHello (sym says) begins;
        says_all = sym (says_queued m);
        own = mine.own;
        own_formed = subst AreSpoken says (entering_formed can.spoken can.well_formed);
        begins = begins;
        took = t.until;
        behind = t.since ++ t.more;
        split = t.parts;
        left = mine.left;
        is_own = is;
        adds = (knows_nothing m unbound, w.adds);
        bound = λ all. let one : true ≡ false = sym all.0 ∙ unbound in absurd cc;
        unbound = λ none. record { silent = silent m made said up.calls w unbound; comes_down = ([], sym (append-nil (entering can.spoken) ∙ says)) };
      }

  module _ (hop : Hop) (lower : End) (m : Made) (made : List Made) (commands : List Asked) (said : List Spoken) (carries : HopCarries hop lower (end_below (past_of m))) (calls : Calls commands lower.gave)
      (few : length commands < 2 ^ 64) (up : CallsUp m) (w : Way images history (sent_in (deeds_of m)) (end_above (past_of m)) up.calls made said) where
    way_by : (flag : Bool) → (past_of m).is_bound ≡ flag → Way images history commands lower calls (m ∷ made) said
    way_by true is = way_bound hop lower m made commands said carries calls few up w is
    way_by false is = way_unbound hop lower m made commands said carries calls few up w is

    down_by : (flag : Bool) (is : (past_of m).is_bound ≡ flag) → (way_by flag is).down ≡ (below_read m).spoken
    unfolding way_by way_bound way_unbound
    down_by true is = refl
    down_by false is = refl

    way_one : Way images history commands lower calls (m ∷ made) said
    way_one = way_by (past_of m).is_bound refl

    one_down : way_one.down ≡ (below_read m).spoken
    unfolding way_one
    one_down = down_by (past_of m).is_bound refl

  -- ---- The whole way

  -- it sends no more than it was asked
  pub few_above : (hop : Hop) (lower : End) (m : Made) (commands : List Asked) → HopCarries hop lower (end_below (past_of m)) → Calls commands lower.gave → length commands < 2 ^ 64 → length (sent_in (deeds_of m)) < 2 ^ 64
  few_above hop lower m commands carries calls few =
      let t = took lower m commands carries.up_front calls in
      let asked : length (asked_in (deeds_of m)) ≡ length t.since = ap length (sym (forwards_in_order m.peer m.calls).asked ∙ t.since_are) ∙ length_numbered (length t.until + 1) t.since in
      let sent = few_sent (deeds_of m) in
      let whole : length commands ≡ length t.until + length (t.since ++ t.more) = ap length t.parts ∙ length-append t.until (t.since ++ t.more) in
      let both : length (t.since ++ t.more) ≡ length t.since + length t.more = length-append t.since t.more in
      omega arith

  pub way : (made : List Made) (lower agent : End) (hops : List Hop) (commands : List Asked) (said : List Spoken) → AllCarry lower hops made agent → (calls : Calls commands lower.gave) → length commands < 2 ^ 64 → Says said agent.gave
      → AskNothing said → AllByRecursion IsMarked said → IsSaidRightly images history lower made said → Way images history commands lower calls made said
  way [] lower agent [] commands said carry calls few says quiet marked rightly = absurd carry
  way [] lower agent (hop ∷ []) commands said carry calls few says quiet marked rightly = way_none images history lower agent commands said carry.down_front calls says marked (rightly commands few calls)
  way [] lower agent (hop ∷ next ∷ hops) commands said carry calls few says quiet marked rightly =
      way_none images history lower agent commands said (none_came lower (bytes_of agent.gave) carry.0) calls says marked (rightly commands few calls)
  way (m ∷ made) lower agent [] commands said carry calls few says quiet marked rightly = absurd carry
  way (m ∷ made) lower agent (hop ∷ hops) commands said carry calls few says quiet marked rightly =
      let up = calls_on m hops made agent said carry.1 says quiet in
      let few_up = few_above hop lower m commands carry.0 calls few in
      let w = way made (end_above (past_of m)) agent hops (sent_in (deeds_of m)) said carry.1 up.calls few_up says quiet marked rightly in
      way_one hop lower m made commands said carry.0 calls few up w

  -- what comes down is what the first value-add says
  pub way_down : (m : Made) (made : List Made) (lower agent : End) (hop : Hop) (hops : List Hop) (commands : List Asked) (said : List Spoken) (carry : AllCarry lower (hop ∷ hops) (m ∷ made) agent)
      (calls : Calls commands lower.gave) (few : length commands < 2 ^ 64) (says : Says said agent.gave) (quiet : AskNothing said) (marked : AllByRecursion IsMarked said) (rightly : IsSaidRightly images history lower (m ∷ made) said)
      → (way (m ∷ made) lower agent (hop ∷ hops) commands said carry calls few says quiet marked rightly).down ≡ (below_read m).spoken
  unfolding way
  way_down m made lower agent hop hops commands said carry calls few says quiet marked rightly =
      let up = calls_on m hops made agent said carry.1 says quiet in
      let few_up = few_above hop lower m commands carry.0 calls few in
      let w = way made (end_above (past_of m)) agent hops (sent_in (deeds_of m)) said carry.1 up.calls few_up says quiet marked rightly in
      one_down hop lower m made commands said carry.0 calls few up w

  -- ---- What is told at each hop

  module _ (agent : End) (said : List Spoken) (says : Says said agent.gave) (quiet : AskNothing said) (marked : AllByRecursion IsMarked said) where
    -- whatever commands the lower end gives a front of, the same comes down
    same_down : (made : List Made) (lower : End) (hops : List Hop) (carry : AllCarry lower hops made agent) (rightly : IsSaidRightly images history lower made said)
        (commands others : List Asked) (calls : Calls commands lower.gave) (other_calls : Calls others lower.gave) (few : length commands < 2 ^ 64) (few_others : length others < 2 ^ 64)
        → (way made lower agent hops others said carry other_calls few_others says quiet marked rightly).down ≡ (way made lower agent hops commands said carry calls few says quiet marked rightly).down
    unfolding way
    same_down [] lower [] carry rightly commands others calls other_calls few few_others = absurd carry
    same_down [] lower (hop ∷ []) carry rightly commands others calls other_calls few few_others =
        none_down images history lower agent others said carry.down_front other_calls says marked (rightly others few_others other_calls)
        ∙ sym (none_down images history lower agent commands said carry.down_front calls says marked (rightly commands few calls))
    same_down [] lower (hop ∷ next ∷ hops) carry rightly commands others calls other_calls few few_others =
        let came = none_came lower (bytes_of agent.gave) carry.0 in
        none_down images history lower agent others said came other_calls says marked (rightly others few_others other_calls)
        ∙ sym (none_down images history lower agent commands said came calls says marked (rightly commands few calls))
    same_down (m ∷ made) lower [] carry rightly commands others calls other_calls few few_others = absurd carry
    same_down (m ∷ made) lower (hop ∷ hops) carry rightly commands others calls other_calls few few_others =
        way_down m made lower agent hop hops others said carry other_calls few_others says quiet marked rightly
        ∙ sym (way_down m made lower agent hop hops commands said carry calls few says quiet marked rightly)

    told_to : (made : List Made) (lower : End) (hops : List Hop) → AllCarry lower hops made agent → IsSaidRightly images history lower made said
        → (commands : List Asked) → Calls commands lower.gave → length commands < 2 ^ 64 → ToldTo images history lower made said
    told_to made lower hops carry rightly commands calls few =
        let w = way made lower agent hops commands said carry calls few says quiet marked rightly in
        record {
          asked = commands;
          few = few;
          calls = calls;
          down = w.down;
          is_ended = w.is_ended;
          formed = w.formed;
          comes_down = w.comes_down;
          says_all = w.says_all;
          told = λ others few_others up. subst (λ down. AreToldRightly images history (numbered 1 (given_of others up.spoken)) (entering down))
              (same_down made lower hops carry rightly commands others calls up few few_others)
              (way made lower agent hops others said carry up few_others says quiet marked rightly).told;
        }

    all_told : (made : List Made) (lower : End) (hops : List Hop) → AllCarry lower hops made agent → IsSaidRightly images history lower made said
        → (commands : List Asked) → Calls commands lower.gave → length commands < 2 ^ 64 → AllTold images history lower made said
    all_told [] lower hops carry rightly commands calls few = told_to [] lower hops carry rightly commands calls few
    all_told (m ∷ made) lower [] carry rightly commands calls few = absurd carry
    all_told (m ∷ made) lower (hop ∷ hops) carry rightly commands calls few = (
      told_to (m ∷ made) lower (hop ∷ hops) carry rightly commands calls few,
      all_told made (end_above (past_of m)) hops carry.1 rightly (sent_in (deeds_of m)) (calls_on m hops made agent said carry.1 says quiet).calls (few_above hop lower m commands carry.0 calls few),
    )

pub comes_through : ComesThrough
comes_through images history legal lower agent hops made commands said carry calls few says quiet marked rightly =
    through_way images history commands lower calls made said (way images history legal made lower agent hops commands said carry calls few says quiet marked rightly)
    (all_told images history legal agent said says quiet marked made lower hops carry rightly commands calls few)
