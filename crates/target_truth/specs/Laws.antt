-- The law of what the target tells.
use Rattle.std.specs.Prelude.{ℕ, ◌≡◌, List, [], ◌∷◌, ◌++◌}
use Rattle.knowledge.specs.Learning.{learned}
use Rattle.target_contexts.specs.declared.process.Image.{Image}
use Rattle.target_hub.specs.Fresh.{target_at}
use Rattle.target_hub.specs.History.{IsLegal}
use Rattle.target_hub.specs.Sent.{Told, executed_on, sent}
use Rattle.target_hub.specs.declared.input.Input.{Input}
use Rattle.target_truth.specs.Holds.{Holds}
use Rattle.target_truth.specs.Taught.{position_of, taught}
use Rattle.target_truth.specs.Typed.{AreTyped}

-- After each message that a legal history tells a channel, what is learned from the messages so far holds of the target
-- at that message's position.
abbrev pub IsTrueAfterEachMessage : Type 0
IsTrueAfterEachMessage = (images : List Image) (history : List Input) → IsLegal images history → AreTyped images →
    (k : ℕ) (front rest : List Told) (last : Told) → sent images k history ≡ front ++ last ∷ rest →
    Holds (learned (taught (executed_on k history) (front ++ last ∷ []))) (target_at images history (position_of last))
