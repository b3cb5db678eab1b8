-- What goes up a way and comes down it, at one moment.
use Rattle.std.specs.Prelude.{ℕ, ◌≡◌, ◌<◌, ◌^◌, Bool, List, [], ◌∷◌, ◌++◌, filter, length, map, Option, IsSome}
use Rattle.std.specs.List.{AllByRecursion}
use Rattle.channel_core.specs.Arrivals.{AreSpoken, Spoken, all_said, bytes_of, queue_of}
use Rattle.channel_core.specs.QueueLaws.{is_message}
use Rattle.chain_route.specs.Carrying.{AllCarry, End, Made, end_above, past_of, value_of}
use Rattle.chain_route.specs.Taking.{AllTakeAll, AreBound}
use Rattle.chain_route.specs.declared.hop.Hop.{Hop}
use Rattle.chain_told.specs.Told.{AreToldRightly, AreTrueAt, is_stored, numbered, owed_in}
use Rattle.chain_told.specs.TellsOn.{IsWithoutSome}
use Rattle.knowledge.specs.Facts.{Facts}
use Rattle.knowledge.specs.KnowledgeValue.{has_block_byte}
use Rattle.target_contexts.specs.declared.process.Image.{Image}
use Rattle.target_hub.specs.History.{IsLegal}
use Rattle.target_hub.specs.declared.input.Input.{Input}
use Rattle.value_node.specs.Asked.{Asked}
use Rattle.value_node.specs.OwnLaws.{IsBoundBy}
use Rattle.value_node.specs.OwnMessages.{BeginsWithHello, IsOwn}
use Rattle.value_node.specs.Runs.{below}
use Rattle.value_node.specs.Store.{StoreValue}
use Rattle.value_node.specs.Value.{command_of}
use Rattle.value_node.specs.ValueValue.{ValueValue}
use Rattle.value_node.specs.declared.states.Bind.TheVariants.{Bound}
use Rattle.value_store.specs.Rows.{facts_in}
use Rattle.chain_through.specs.Calling.{AskNothing, Calls, Says, entering, given_of}
use Rattle.list_laws.specs.Fronts.{IsFront}

-- the lower end of the last hop
abbrev pub top_end : End → List Made → End
top_end lower [] = lower
top_end lower (m ∷ made) = top_end (end_above (past_of m)) made

-- a command but for its token
pub record Content : Type 0 where
  pub service : List ℕ
  pub name : List ℕ
  pub body : List ℕ
  pub mark : Option ℕ

abbrev pub content : Asked → Content
content c = record { service = c.service; name = c.name; body = c.body; mark = c.mark }

abbrev pub is_storable_content : Content → Bool
is_storable_content c = is_stored (command_of c.service c.name c.body)

-- of the first commands below all but some storable ones go up
pub record GoUp (below top : List Asked) : Type 0 where
  pub asked : List Content
  pub front : IsFront asked (map content below)
  pub sent : IsWithoutSome is_storable_content (map content top) asked

-- behind the value-adds' own messages each one has a position
abbrev pub IsMarked : Spoken → Type 0
IsMarked s = IsSome s.mark

pub record ComeDown (own heard : List Spoken) : Type 0 where
  pub target : List Spoken
  pub marked : AllByRecursion IsMarked target
  pub front : IsFront heard (own ++ target)

-- ---- what is said down it

-- these are the messages that the first of these value-adds said below; or all that the agent says
abbrev pub IsSaidBelow : List Made → List Spoken → List Spoken → Type 0
IsSaidBelow [] said down = down ≡ said
IsSaidBelow (m ∷ made) said down = filter is_message (below (past_of m)).past.queued ≡ all_said down

-- ---- the whole

-- The client's commands are those that the value-adds answered themselves before they were bound, and the others; so are the
-- messages that come down. But for answers to storable commands those of the target are what the agent says.
pub record IsBoundThrough (commands : List Asked) (made : List Made) (top : List Asked) (own said heard : List Spoken) : Type 0 where
  pub answered : List Asked
  pub later : List Asked
  pub split : commands ≡ answered ++ later
  pub goes_up : GoUp later top
  pub is_own : IsOwn (numbered 1 answered) own []
  pub comes_down : ComeDown own heard
  pub owed : IsFront (owed_in (numbered 1 commands) heard) (owed_in (numbered 1 top) said)
  pub all_owed : AllTakeAll made said → owed_in (numbered 1 commands) heard ≡ owed_in (numbered 1 top) said
  -- without value-adds nothing is answered by one; else the last that one answered is the redirect to the agent
  pub alone : made ≡ [] → (answered ≡ []) × (own ≡ [])
  pub bound_by : (made ≡ [] → ⊥) → IsBoundBy own (numbered 1 answered)

-- or a value-add isn't bound: nothing goes up to the agent, and nothing of it comes down
pub record IsUnboundThrough (commands top : List Asked) (own heard : List Spoken) : Type 0 where
  pub left : List Asked
  pub is_own : IsOwn (numbered 1 commands) own left
  pub silent : top ≡ []
  pub comes_down : IsFront heard own

-- what a value-add knows: the facts of its store, and the bytes of its blocks
abbrev pub kept_in : StoreValue → Facts
kept_in s = record (facts_in s.known) { bytes = has_block_byte s.blocks }

-- while it is bound that is true of the target at the position of the last message that it took from above
abbrev pub KnowsTruth : List Image → List Input → ValueValue → Type 0
KnowsTruth images history value = value.relay.bind ≡ Bound → AreTrueAt images history value.relay.store.mark (kept_in value.relay.store)

-- ---- what is said down a way

-- All that is said down to an end of a way, whatever of it came, is told rightly to it, whichever commands, fewer than 2^64, it
-- gives a front of. There are some.
pub record ToldTo (images : List Image) (history : List Input) (lower : End) (made : List Made) (said : List Spoken) : Type 0 where
  pub asked : List Asked
  pub few : length asked < 2 ^ 64
  pub calls : Calls asked lower.gave
  pub down : List Spoken
  pub is_ended : Bool
  pub formed : AreSpoken down
  pub comes_down : IsFront lower.came (bytes_of (queue_of down is_ended))
  pub says_all : IsSaidBelow made said (entering down)
  pub told : (commands : List Asked) → length commands < 2 ^ 64 → (up : Calls commands lower.gave) → AreToldRightly images history (numbered 1 (given_of commands up.spoken)) (entering down)

-- so it is at the end below these value-adds, and above each of them
abbrev pub AllTold : List Image → List Input → End → List Made → List Spoken → Type 0
AllTold images history lower [] said = ToldTo images history lower [] said
AllTold images history lower (m ∷ made) said = ToldTo images history lower (m ∷ made) said × AllTold images history (end_above (past_of m)) made said

pub record Through (images : List Image) (history : List Input) (commands : List Asked) (lower : End) (calls : Calls commands lower.gave) (made : List Made) (said : List Spoken) : Type 0 where
  pub top : List Asked
  pub goes_up : Calls top (top_end lower made).gave
  pub down : List Spoken
  pub is_ended : Bool
  pub formed : AreSpoken down
  pub comes_down : IsFront lower.came (bytes_of (queue_of down is_ended))
  pub says_all : IsSaidBelow made said (entering down)
  pub told : AreToldRightly images history (numbered 1 (given_of commands calls.spoken)) (entering down)
  pub own : List Spoken
  pub own_formed : AreSpoken own
  pub begins : BeginsWithHello own
  pub hops : AllTold images history lower made said
  pub adds : AllByRecursion (λ m. KnowsTruth images history (value_of m)) made
  pub bound : AreBound made → IsBoundThrough commands made top own said (entering down)
  pub unbound : (AreBound made → ⊥) → IsUnboundThrough commands top own (entering down)

-- what the agent says is told rightly to one whose commands come up the last hop, no more than an end has tokens for
abbrev pub IsSaidRightly : List Image → List Input → End → List Made → List Spoken → Type 0
IsSaidRightly images history lower made said =
    (top : List Asked) → length top < 2 ^ 64 → (up : Calls top (top_end lower made).gave) → AreToldRightly images history (numbered 1 (given_of top up.spoken)) said

-- Whatever the hops and the value-adds: where the client gives a Hello and these commands, and the agent says this, which asks
-- nothing, has a position in each message, and tells commands that come up the last hop rightly where only a Hello and commands do.
abbrev pub ComesThrough : Type 0
ComesThrough = (images : List Image) (history : List Input) → IsLegal images history
    → (lower agent : End) (hops : List Hop) (made : List Made) (commands : List Asked) (said : List Spoken)
    → AllCarry lower hops made agent → (calls : Calls commands lower.gave) → length commands < 2 ^ 64 → Says said agent.gave → AskNothing said → AllByRecursion IsMarked said
    → IsSaidRightly images history lower made said → Through images history commands lower calls made said
