-- For what the ends of a way close, at one moment.
use Rattle.std.specs.Prelude.{ℕ, ◌≡◌, ◌-◌, ◌^◌, ◌<◌, Bool, true, List, [], ◌∷◌, length, Option}
use Rattle.std.specs.List.{AllByRecursion, list_any}
use Rattle.channel_core.specs.Arrivals.{AreSpoken, Spoken, arrived, bytes_of, queue_of}
use Rattle.channel_core.specs.Beginning.{new_end}
use Rattle.channel_core.specs.ReceivingLaws.{EndsFor}
use Rattle.channel_core.specs.RunLaws.{sent_of}
use Rattle.channel_core.specs.Runs.{Call as EndCall, Run, after_calls, begun}
use Rattle.channel_core.specs.declared.states.Cause.TheVariants.{Protocol, Stream}
use Rattle.channel_core.specs.declared.states.Reason.{Reason}
use Rattle.stream_escape.specs.declared.stream.StreamFault.{StreamFault}
use Rattle.chain_route.specs.Carrying.{AllCarry, End, Made, past_of, was_lost_above}
use Rattle.chain_route.specs.declared.hop.Hop.{Hop}
use Rattle.target_contexts.specs.declared.process.Image.{Image}
use Rattle.target_hub.specs.History.{IsLegal}
use Rattle.target_hub.specs.declared.input.Input.{Input}
use Rattle.value_node.specs.Asked.{Asked}
use Rattle.value_node.specs.OwnMessages.{BeginsWithHello}
use Rattle.value_node.specs.Runs.{above, below}
use Rattle.chain_through.specs.Calling.{Answering, AskNothing, Calls, Says, all_asking, entering, greeting}
use Rattle.chain_through.specs.Through.{IsMarked, IsSaidRightly}
use Rattle.list_laws.specs.Fronts.{IsFront}

-- ---- one end

-- it closes by no fault of its other side
pub record IsSound {T : Type 0} (r : Run T) : Type 0 where
  pub protocol : (number : ℕ) (reason : Reason) → EndsFor r (Protocol number reason) → ⊥
  pub stream : (fault : StreamFault) → EndsFor r (Stream fault) → ⊥

-- An end to which a Hello and answers come to commands that it sent.
abbrev pub AnsweredIsSound : Type 0 → Type 0
AnsweredIsSound T = (hello : List ℕ) (mark : Option ℕ) (calls : List (EndCall T)) (spoken : List Spoken) (is_ended : Bool)
    → AreSpoken spoken → IsFront (arrived calls) (bytes_of (queue_of spoken is_ended)) → BeginsWithHello (entering spoken)
    → Answering (length (sent_of (after_calls calls (begun (new_end hello mark))))) (entering spoken)
    → IsSound (after_calls calls (begun (new_end hello mark)))

-- One to which a Hello and commands come.
abbrev pub AskedIsSound : Type 0 → Type 0
AskedIsSound T = (hello : List ℕ) (mark : Option ℕ) (calls : List (EndCall T)) (spoken : List Spoken) (is_ended : Bool) (services : List ℕ) (commands : List Asked)
    → AreSpoken spoken → IsFront (arrived calls) (bytes_of (queue_of spoken is_ended)) → IsFront (entering spoken) (greeting services ∷ all_asking 1 commands)
    → IsSound (after_calls calls (begun (new_end hello mark)))

-- ---- the ends of a way

pub record AddIsSound (m : Made) : Type 0 where
  pub lower : IsSound (below (past_of m))
  pub upper : IsSound (above (past_of m))

-- what comes down to the end of a client has the end of the stream only where the agent said that to it itself, or where a
-- value-add lost its upper side
abbrev pub MayComeDown : List Made → Bool → Type 0
MayComeDown [] agent_ended = agent_ended ≡ true
MayComeDown (m ∷ made) agent_ended = list_any was_lost_above (m ∷ made) ≡ true

-- what comes down to the client begins with a Hello, and answers commands that it sent
pub record EndsSoundly (commands : List Asked) (lower : End) (calls : Calls commands lower.gave) (made : List Made) (agent_ended : Bool) : Type 0 where
  pub adds : AllByRecursion AddIsSound made
  pub down : List Spoken
  pub is_ended : Bool
  pub formed : AreSpoken down
  pub comes_down : IsFront lower.came (bytes_of (queue_of down is_ended))
  pub begins : BeginsWithHello (entering down)
  pub answering : Answering (length (entering calls.spoken) - 1) (entering down)
  pub ended : is_ended ≡ true → MayComeDown made agent_ended

-- Whatever the hops and the value-adds: where the client gives a Hello and these commands, no more than an end has tokens
-- for, and the agent says this, which asks nothing, has a position in each message, tells commands that come up the last hop rightly where only a Hello and
-- commands do, begins with a Hello, and ends its stream only where it says nothing.
abbrev pub ComesToSoundEnds : Type 0
ComesToSoundEnds = (images : List Image) (history : List Input) → IsLegal images history
    → (lower agent : End) (hops : List Hop) (made : List Made) (commands : List Asked) (said : List Spoken)
    → AllCarry lower hops made agent → (calls : Calls commands lower.gave) → length commands < 2 ^ 64 → (says : Says said agent.gave) → AskNothing said → AllByRecursion IsMarked said
    → IsSaidRightly images history lower made said → BeginsWithHello said → (says.is_ended ≡ true → said ≡ [])
    → EndsSoundly commands lower calls made says.is_ended
