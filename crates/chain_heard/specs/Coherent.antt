-- What a client keeps of the messages that it took is true of the target at the position of the last one.
use Rattle.std.specs.Prelude.{ℕ, ◌≡◌, false, List, ◌++◌, Some}
use Rattle.cache_learning.specs.Kept.{kept}
use Rattle.client_log.specs.Lessons.{lessons}
use Rattle.client_log.specs.Shown.{ShowsKept}
use Rattle.client_node.specs.ClientValue.{ClientValue}
use Rattle.client_node.specs.Runs.{Past, TellsPast}
use Rattle.knowledge.specs.Facts.{IsPart, nothing}
use Rattle.target_contexts.specs.declared.process.Image.{Image}
use Rattle.target_hub.specs.Fresh.{target_at}
use Rattle.target_hub.specs.declared.input.Input.{Input}
use Rattle.target_truth.specs.Holds.{Holds}
use Rattle.target_truth.specs.Typed.{AreTyped}
use Rattle.tcf_text.specs.Each.{Each}
use Rattle.tcf_text.specs.Lines.{last_mark}
use Rattle.tcf_text.specs.Once.{Once}
use Rattle.tcf_text.specs.declared.log.LogLine.{LogLine}
use Rattle.chain_heard.specs.Heard.{Heard, HeardNoTarget}

-- The facts that are kept of the messages of these lines are true of the target at the position of the last message.
-- Where that has none, nothing is kept.
pub record IsTrueThen (lines : List LogLine) (images : List Image) (history : List Input) : Type 0 where
  pub holds : (position : ℕ) → last_mark lines ≡ Some (Some position) → Holds (kept (lessons lines)) (target_at images history position)
  pub empty : ((position : ℕ) → last_mark lines ≡ Some (Some position) → ⊥) → IsPart (kept (lessons lines)) nothing

-- So it is after each line of a log, and each line that asks the cache shows what is kept then.
pub record IsCoherent (log : List LogLine) (images : List Image) (history : List Input) : Type 0 where
  pub shown : Each ShowsKept log
  pub always : (front rest : List LogLine) → front ++ rest ≡ log → IsTrueThen front images history

-- ---- the laws

-- A client that heard the target on the channel k keeps what is true.
abbrev pub HeardIsCoherent : Type 0
HeardIsCoherent = (images : List Image) (history : List Input) (k position : ℕ) (c : ClientValue) (p : Past) → AreTyped images
    → TellsPast c p → Once false c.log → Each ShowsKept c.log → Heard images history k position p → IsCoherent c.log images history

-- One that heard nothing of the target keeps nothing.
abbrev pub NoTargetHeardIsCoherent : Type 0
NoTargetHeardIsCoherent = (images : List Image) (history : List Input) (c : ClientValue) (p : Past)
    → TellsPast c p → Once false c.log → Each ShowsKept c.log → HeardNoTarget p → IsCoherent c.log images history
