-- The law of what a peer answers by itself.
use Rattle.std.specs.Prelude.{ℕ, ◌≡◌, List, Some}
use Rattle.block_store.specs.declared.block.Block.{Block}
use Rattle.knowledge.specs.Facts.{Facts}
use Rattle.knowledge.specs.Laws.{AreKnown}
use Rattle.knowledge.specs.Reply.{answer_known}
use Rattle.reply_tables.specs.Written.{answer_data}
use Rattle.target_contexts.specs.declared.process.Image.{Image}
use Rattle.target_hub.specs.Execution.{exec_effect}
use Rattle.target_hub.specs.Fresh.{answer_at, target_at}
use Rattle.target_hub.specs.declared.input.Input.{Input}
use Rattle.run_control.specs.TargetValue.{TargetValue}
use Rattle.target_truth.specs.Holds.{Holds}
use Rattle.tcf_values.specs.declared.answer.Answer.{Answer}
use Rattle.tcf_values.specs.declared.command.Command.{Command}

-- What is answered from facts that hold of a target, and from blocks whose bytes are known, is what the target answers,
-- whichever channel asks it.
abbrev pub IsAnsweredAlike : Type 0
IsAnsweredAlike = (target : TargetValue) (channel : ℕ) (command : Command) (answer : Answer) (known : Facts) (blocks : List Block) →
    Holds known target → AreKnown blocks known → answer_known command known blocks ≡ Some answer →
    answer ≡ (exec_effect channel command target).answer

-- So the same data are written at each position of a history.
abbrev pub IsWrittenAt : Type 0
IsWrittenAt = (images : List Image) (history : List Input) (position : ℕ) (command : Command) (answer : Answer) (known : Facts) (blocks : List Block) →
    Holds known (target_at images history position) → AreKnown blocks known → answer_known command known blocks ≡ Some answer →
    answer_data command answer ≡ answer_at images history position command
