-- What comes through a way, and the way without value-adds.
use Rattle.std.proofs.Common.{◌≡◌, ℕ, suc, ◌+◌, ◌-◌, ◌≤◌, Bool, true, false, ◌⊎◌, inl, inr, List, [], ◌∷◌, ◌++◌, length, map, refl, sym, ap, ◌∙◌, subst, arith, append-nil}
use Rattle.std.specs.List.{AllByRecursion}
use Rattle.channel_core.specs.Arrivals.{AreSpoken, Marked, Spoken, bytes_of, marked as marked_bytes, queue_of}
use Rattle.channel_core.specs.Runs.{Run}
use Rattle.target_contexts.specs.declared.process.Image.{Image}
use Rattle.target_hub.specs.declared.input.Input.{Input}
use Rattle.value_node.specs.Asked.{Asked}
use Rattle.value_node.specs.OwnLaws.{IsBoundBy}
use Rattle.value_node.specs.OwnMessages.{BeginsWithHello, IsOwn}
use Rattle.chain_route.specs.Carrying.{End, IsUnused, Made, past_of, value_of}
use Rattle.chain_told.specs.Told.{AreToldRightly, numbered, owed_in}
use Rattle.chain_through.specs.Calling.{Calls, Says, all_asking, entering, given_of, greeting}
use Rattle.chain_through.specs.Through.{AllTold, ComeDown, GoUp, IsMarked, IsSaidBelow, KnowsTruth, Through, content, is_storable_content, top_end}
use Rattle.chain_through.proofs.Doing.{without_same}
use Rattle.chain_told.proofs.Numbered.{numbered_append}
use Rattle.list_laws.specs.Fronts.{IsFront}
use Rattle.list_laws.proofs.Fronts.{front_flat, front_length, front_then}
use Rattle.value_node.proofs.OwnInOrder.{own_behind}
use Rattle.chain_route.specs.Taking.{AllTakeAll, AreBound, TakesAll, TakesAllOf}

pub record WayBound (commands : List Asked) (made : List Made) (took behind left top : List Asked) (own said heard : List Spoken) : Type 0 where
  pub all : left ≡ []
  pub goes_up : GoUp behind top
  pub comes_down : ComeDown own heard
  pub owed : IsFront (owed_in (numbered 1 commands) heard) (owed_in (numbered 1 top) said)
  pub all_owed : AllTakeAll made said → owed_in (numbered 1 commands) heard ≡ owed_in (numbered 1 top) said
  pub alone : made ≡ [] → (took ≡ []) × (own ≡ [])
  pub bound_by : (made ≡ [] → ⊥) → IsBoundBy own (numbered 1 took)

pub record WayUnbound (top : List Asked) (own heard : List Spoken) : Type 0 where
  pub silent : top ≡ []
  pub comes_down : IsFront heard own

-- the first commands were taken by the value-adds themselves
pub record Way (images : List Image) (history : List Input) (commands : List Asked) (lower : End) (calls : Calls commands lower.gave) (made : List Made) (said : List Spoken) : Type 0 where
  pub top : List Asked
  pub goes_up : Calls top (top_end lower made).gave
  pub down : List Spoken
  pub is_ended : Bool
  pub formed : AreSpoken down
  pub comes_down : IsFront lower.came (bytes_of (queue_of down is_ended))
  pub told : AreToldRightly images history (numbered 1 (given_of commands calls.spoken)) (entering down)
  pub greets : BeginsWithHello said → BeginsWithHello (entering down)
  pub says_all : IsSaidBelow made said (entering down)
  pub own : List Spoken
  pub own_formed : AreSpoken own
  pub begins : BeginsWithHello own
  pub took : List Asked
  pub behind : List Asked
  pub split : commands ≡ took ++ behind
  pub left : List Asked
  pub is_own : IsOwn (numbered 1 took) own left
  pub adds : AllByRecursion (λ m. KnowsTruth images history (value_of m)) made
  pub bound : AreBound made → WayBound commands made took behind left top own said (entering down)
  pub unbound : (AreBound made → ⊥) → WayUnbound top own (entering down)

pub through_way : (images : List Image) (history : List Input) (commands : List Asked) (lower : End) (calls : Calls commands lower.gave) (made : List Made) (said : List Spoken)
    → Way images history commands lower calls made said → AllTold images history lower made said → Through images history commands lower calls made said
through_way images history commands lower calls made said w hops =
    let others = numbered (1 + length w.took) w.behind in
    let commands_are : numbered 1 commands ≡ numbered 1 w.took ++ others = ap (λ cs. numbered 1 cs) w.split ∙ numbered_append 1 w.took w.behind in
    record {
      top = w.top;
      goes_up = w.goes_up;
      down = w.down;
      is_ended = w.is_ended;
      formed = w.formed;
      comes_down = w.comes_down;
      says_all = w.says_all;
      told = w.told;
      own = w.own;
      own_formed = w.own_formed;
      begins = w.begins;
      hops = hops;
      adds = w.adds;
      bound = λ all. let b = w.bound all in record {
        answered = w.took;
        later = w.behind;
        split = w.split;
        goes_up = b.goes_up;
        is_own = subst (λ cs. IsOwn (numbered 1 w.took) w.own cs) b.all w.is_own;
        comes_down = b.comes_down;
        owed = b.owed;
        all_owed = b.all_owed;
        alone = b.alone;
        bound_by = b.bound_by;
      };
      unbound = λ none. let u = w.unbound none in record {
        left = w.left ++ others;
        is_own = subst (λ cs. IsOwn cs w.own (w.left ++ others)) (sym commands_are) (own_behind (numbered 1 w.took) w.left others w.own w.is_own);
        silent = u.silent;
        comes_down = u.comes_down;
      };
    }

-- an end that took all that is said above it took this
pub takes_all : {T : Type 0} → (r : Run T) (made : List Made) (said down : List Spoken) → AreSpoken down → IsSaidBelow made said down → TakesAllOf r made said → TakesAll r down
takes_all r [] said down formed is takes = subst (TakesAll r) (sym is) takes
takes_all r (m ∷ made) said down formed is takes = takes down formed is

-- ---- Whether all are bound

pub are_bound : (made : List Made) → AreBound made ⊎ (AreBound made → ⊥)
are_bound [] = inl tt
are_bound (m ∷ made) = by_flag (past_of m).is_bound refl (are_bound made)
  where
    by_flag : (flag : Bool) → (past_of m).is_bound ≡ flag → AreBound made ⊎ (AreBound made → ⊥) → AreBound (m ∷ made) ⊎ (AreBound (m ∷ made) → ⊥)
    by_flag true is (inl all) = inl (is, all)
    by_flag true is (inr none) = inr (λ all. none all.1)
    by_flag false is rest = inr (λ all. let one : true ≡ false = sym all.0 ∙ is in cc)

-- ---- So many commands are sent

length_asking : (n : ℕ) (commands : List Asked) → length (all_asking n commands) ≡ length commands
length_asking n [] = refl
length_asking n (c ∷ commands) = ap suc (length_asking (n + 1) commands)

pub calls_few : (commands : List Asked) (end : End) (calls : Calls commands end.gave) → length (entering calls.spoken) - 1 ≤ length commands
calls_few commands end calls =
    let front : length (entering calls.spoken) ≤ length (greeting calls.services ∷ all_asking 1 commands) = front_length (entering calls.spoken) (greeting calls.services ∷ all_asking 1 commands) calls.says in
    let many : length (all_asking 1 commands) ≡ length commands = length_asking 1 commands in
    omega arith

-- ---- Without value-adds

all_go_up : (commands : List Asked) → GoUp commands commands
all_go_up commands = record { asked = map content commands; front = ([], sym (append-nil (map content commands))); sent = without_same is_storable_content (map content commands) }

-- what comes down without value-adds is what the agent gave, or a front of it
pub way_none : (images : List Image) (history : List Input) (lower agent : End) (commands : List Asked) (said : List Spoken) → IsFront lower.came (bytes_of agent.gave) → (calls : Calls commands lower.gave) → Says said agent.gave
    → AllByRecursion IsMarked said → AreToldRightly images history (numbered 1 (given_of commands calls.spoken)) said → Way images history commands lower calls [] said
way_none images history lower agent commands said came calls says marked told =
    let queue = queue_of says.spoken says.is_ended in
    let gave : IsFront (bytes_of agent.gave) (bytes_of queue) = front_flat (λ o. marked_bytes o.bytes o.mark) agent.gave queue says.front in
    let owed : owed_in (numbered 1 commands) (entering says.spoken) ≡ owed_in (numbered 1 commands) said = ap (owed_in (numbered 1 commands)) says.says in
    record {
      top = commands;
      goes_up = calls;
      down = says.spoken;
      is_ended = says.is_ended;
      formed = says.formed;
      comes_down = front_then lower.came (bytes_of agent.gave) (bytes_of queue) came gave;
      told = subst (AreToldRightly images history (numbered 1 (given_of commands calls.spoken))) (sym says.says) told;
      greets = λ begins. subst BeginsWithHello (sym says.says) begins;
      says_all = says.says;
      own = [];
      own_formed = tt;
      begins = tt;
      took = [];
      behind = commands;
      split = refl;
      left = [];
      is_own = refl;
      adds = tt;
      bound = λ all. record {
        all = refl;
        goes_up = all_go_up commands;
        comes_down = record { target = said; marked = marked; front = ([], sym says.says ∙ sym (append-nil (entering says.spoken))) };
        owed = ([], sym owed ∙ sym (append-nil (owed_in (numbered 1 commands) (entering says.spoken))));
        all_owed = λ takes. owed;
        alone = λ none. (refl, refl);
        bound_by = λ some. absurd (some refl);
      };
      unbound = λ none. absurd (none tt);
    }

-- and what is said down is what the agent says, whatever the commands are
pub none_down : (images : List Image) (history : List Input) (lower agent : End) (commands : List Asked) (said : List Spoken) (came : IsFront lower.came (bytes_of agent.gave)) (calls : Calls commands lower.gave) (says : Says said agent.gave)
    (marked : AllByRecursion IsMarked said) (told : AreToldRightly images history (numbered 1 (given_of commands calls.spoken)) said) → (way_none images history lower agent commands said came calls says marked told).down ≡ says.spoken
unfolding way_none
none_down images history lower agent commands said came calls says marked told = refl

-- where no connection leads to the agent nothing came of that yet
pub none_came : (lower : End) (gave : List Marked) → IsUnused lower → IsFront lower.came gave
none_came lower gave unused = (gave, ap (λ came. came ++ gave) (sym unused.1))
