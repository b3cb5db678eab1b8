-- What a value-add tells since it was bound, by what it was told and asked.
use Rattle.std.specs.Prelude.{ℕ, ◌≡◌, ◌<◌, ◌^◌, ◌⊎◌, Bool, true, false, List, [], ◌∷◌, ◌++◌, length, map, Option, None, Ok}
use Rattle.std.specs.List.{AllByRecursion, Contains}
use Rattle.channel_core.specs.Arrivals.{Spoken, comes_as}
use Rattle.channel_core.specs.declared.held.Incoming.{Incoming}
use Rattle.knowledge.specs.Facts.{IsPart, nothing}
use Rattle.knowledge.specs.Learning.{learned}
use Rattle.target_contexts.specs.declared.process.Image.{Image}
use Rattle.target_hub.specs.History.{IsLegal}
use Rattle.target_hub.specs.declared.input.Input.{Input}
use Rattle.tcf_message.specs.Message.{final, reading, spelling}
use Rattle.value_node.specs.Asked.{Asked}
use Rattle.value_node.specs.Deeds.{Deed, answers, asked_in, forwards, heard_in, hears, sent_in}
use Rattle.value_node.specs.RelayLaws.{IsAnsweredRightly, IsOfItsCommand, passed_in}
use Rattle.chain_told.specs.Told.{AreToldRightly, IsToldRightly, is_ended, is_storable, lessons, mark_of, numbered, owed_in}

-- ---- what it heard, and what it tells

-- it heard these messages
pub record Hears (deeds : List Deed) (heard : List Spoken) : Type 0 where
  pub are : heard_in deeds ≡ map comes_as heard
  pub readable : AllByRecursion (λ s. reading (spelling s.message) ≡ Ok s.message) heard

-- what it tells of these deeds, where these commands were sent above before: each message under the token of its command below
abbrev pub passed_as : List Asked → Incoming → List Spoken
passed_as commands incoming = map (λ m. record { message = m; mark = incoming.mark }) (passed_in commands (reading incoming.raw))

abbrev pub tells_from : List Asked → List Deed → List Spoken
tells_from commands [] = []
tells_from commands (forwards c ∷ deeds) = tells_from (commands ++ c ∷ []) deeds
tells_from commands (answers c reply mark ∷ deeds) = record { message = final c.token reply; mark = mark } ∷ tells_from commands deeds
tells_from commands (hears incoming ∷ deeds) = passed_as commands incoming ++ tells_from commands deeds

abbrev pub tells : List Deed → List Spoken
tells deeds = tells_from [] deeds

-- ---- the laws of a value-add, of these deeds

pub record AreDeeds (deeds : List Deed) : Type 0 where
  pub own : (before rest : List Deed) (incoming : Incoming) → deeds ≡ before ++ hears incoming ∷ rest → IsOfItsCommand before (reading incoming.raw)
  pub rightly : (before rest : List Deed) (c : Asked) (reply : List ℕ) (mark : Option ℕ) → deeds ≡ before ++ answers c reply mark ∷ rest → IsAnsweredRightly before c reply mark

-- ---- what was asked and told below before it was bound

-- Of these commands it was asked the first ones before it was bound, and has answered them all, without a position, by messages
-- that teach nothing; and then those of its deeds.
pub record Begins (commands : List Asked) (own : List Spoken) (deeds : List Deed) : Type 0 where
  pub few : length commands < 10 ^ 64
  pub first : List Asked
  pub later : List Asked
  pub parts : numbered 1 commands ≡ first ++ (asked_in deeds ++ later)
  pub ended : (c : Asked) → Contains first c → is_ended c.token own ≡ true
  pub unended : (c : Asked) → Contains (asked_in deeds) c → is_ended c.token own ≡ false
  pub unmarked : mark_of own ≡ None
  pub owes_nothing : owed_in (numbered 1 commands) own ≡ []
  pub teaches_nothing : IsPart (learned (lessons (numbered 1 commands) own)) nothing

-- ---- what it sends above

-- the first list is the second one without some elements of a kind
abbrev pub IsWithoutSome : {A : Type 0} → (A → Bool) → List A → List A → Type 0
IsWithoutSome kind [] [] = Unit {0}
IsWithoutSome kind (x ∷ xs) [] = ⊥
IsWithoutSome kind [] (y ∷ ys) = (kind y ≡ true) × IsWithoutSome kind [] ys
IsWithoutSome kind (x ∷ xs) (y ∷ ys) = ((x ≡ y) × IsWithoutSome kind xs ys) ⊎ ((kind y ≡ true) × IsWithoutSome kind (x ∷ xs) ys)

-- ---- the law

pub record TellsSo (images : List Image) (history : List Input) (commands : List Asked) (own : List Spoken) (deeds : List Deed) (heard : List Spoken) : Type 0 where
  -- each message that it tells behind its own is told rightly
  pub told : (before rest : List Spoken) (s : Spoken) → tells deeds ≡ before ++ s ∷ rest → IsToldRightly images history (numbered 1 commands) (own ++ before) s
  -- but for answers to storable commands they are those that it heard
  pub owed : owed_in (numbered 1 commands) (own ++ tells deeds) ≡ owed_in (numbered 1 (sent_in deeds)) heard
  -- and the commands that it sends are those that it was asked, but for storable ones
  pub sent : IsWithoutSome is_storable (sent_in deeds) (asked_in deeds)

abbrev pub TellsOn : Type 0
TellsOn = (images : List Image) (history : List Input) → IsLegal images history → (commands : List Asked) (own : List Spoken) (deeds : List Deed) (heard : List Spoken)
    → Begins commands own deeds → AreDeeds deeds → Hears deeds heard → length (sent_in deeds) < 10 ^ 64
    → AreToldRightly images history (numbered 1 (sent_in deeds)) heard → TellsSo images history commands own deeds heard
