-- What value-adds say themselves on a channel, before what they pass on: Hellos, and the answers to the commands that they
-- don't pass on, each once and in order, without marks.
use Rattle.std.specs.Prelude.{ℕ, ◌≡◌, List, [], ◌∷◌, None}
use Rattle.channel_core.specs.Arrivals.{Spoken}
use Rattle.channel_core.specs.Wire.{hello, locator}
use Rattle.tcf_message.specs.Message.{MessageValue, event, final, not_known}
use Rattle.value_node.specs.Asked.{Asked}

-- a message of a peer that is to answer these commands, and the commands that are left. They have a result for commands of
-- the service Locator alone
pub data OwnStep (commands : List Asked) (message : MessageValue) (left : List Asked) : Type 0 where
  a_hello : (body : List ℕ) → message ≡ event locator hello body → left ≡ commands → OwnStep commands message left
  a_result : (c : Asked) (body : List ℕ) → message ≡ final c.token body → c.service ≡ locator → commands ≡ c ∷ left → OwnStep commands message left
  an_unknown : (c : Asked) → message ≡ not_known c.token → commands ≡ c ∷ left → OwnStep commands message left

abbrev pub IsOwn : List Asked → List Spoken → List Asked → Type 0
IsOwn commands [] left = commands ≡ left
IsOwn commands (s ∷ spoken) left = (s.mark ≡ None) × ((next : List Asked) × OwnStep commands s.message next × IsOwn next spoken left)

-- the first of them is a Hello
abbrev pub BeginsWithHello : List Spoken → Type 0
BeginsWithHello [] = Unit {0}
BeginsWithHello (s ∷ spoken) = (body : List ℕ) × (s.message ≡ event locator hello body)
