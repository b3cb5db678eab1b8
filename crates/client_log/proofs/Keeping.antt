-- What is kept behind one more line.
use Rattle.std.proofs.Common.{◌≡◌, ℕ, ◌∙◌, Some, refl, sym, subst, List, [], ◌∷◌, ◌++◌, append_assoc}
use Rattle.std.proofs.lemmas.List.{append-nil}
use Rattle.block_store.specs.declared.block.Block.{Block}
use Rattle.cache_learning.specs.Kept.{Keeps, KeepsToo, blocks_from}
use Rattle.cache_learning.specs.Lessons.{final_message}
use Rattle.command_tables.specs.Reading.{reading_of}
use Rattle.knowledge.specs.Facts.{AreSame, Facts, nothing}
use Rattle.knowledge.specs.KnowledgeValue.{KnowledgeValue, blocks_after_all, facts_of}
use Rattle.knowledge.specs.Learning.{Message, changes_of, learn, learn_all, other_taken}
use Rattle.tcf_text.specs.Lines.{Accepted, accepted, accepted_by}
use Rattle.tcf_text.specs.declared.log.LogLine.{LogLine}
use Rattle.tcf_text.specs.declared.log.LogLine.TheVariants.{Sent}
use Rattle.client_log.specs.Lessons.{KeepsThese, lesson_of, lessons, lessons_from, reading_as}
use Rattle.client_log.specs.Places.{command_of}

learned_behind : (messages : List Message) (known : Facts) → learn_all (messages ++ other_taken ∷ []) known ≡ learn_all messages known
learned_behind [] known = refl
learned_behind (message ∷ messages) known = learned_behind messages (learn message known)

blocks_behind : (messages : List Message) (known : Facts) (blocks : List Block)
    → blocks_from (messages ++ other_taken ∷ []) known blocks ≡ blocks_from messages known blocks
blocks_behind [] known blocks = refl
blocks_behind (message ∷ messages) known blocks =
    blocks_behind messages (learn message known) (blocks_after_all (changes_of message) known blocks)

-- a message that teaches nothing leaves the cache as it is
pub nothing_new : (cache : KnowledgeValue) → KeepsToo other_taken cache cache
nothing_new cache messages keeps = record {
  facts = subst (λ known. AreSame (facts_of cache) known) (sym (learned_behind messages nothing)) keeps.facts;
  blocks = keeps.blocks ∙ sym (blocks_behind messages nothing []);
}

-- an answer to the command of a `sent` line teaches what one to a command of its words does
pub answer_to_sent : (line : LogLine) (number : ℕ) (service name body asked_service asked_name asked answer : List ℕ)
    → line ≡ Sent number service name body → asked_service ≡ service → asked_name ≡ name → asked ≡ body
    → final_message (Some (reading_of asked_service asked_name asked)) answer ≡ final_message (reading_as (command_of line)) answer
answer_to_sent line number service name body asked_service asked_name asked answer is is_service is_name is_body = rw (is, is_service, is_name, is_body)

lessons_behind : (commands : List Accepted) (lines : List LogLine) (line : LogLine)
    → lessons_from commands (lines ++ line ∷ []) ≡ lessons_from commands lines ++ lesson_of (commands ++ accepted lines) line
lessons_behind commands [] line = rw (append-nil commands, append-nil (lesson_of commands line))
lessons_behind commands (first ∷ lines) line =
    rw (lessons_behind (commands ++ accepted_by first) lines line, append_assoc (lesson_of commands first), append_assoc commands)

-- what a line teaches behind those before it is kept of the log that has it too
pub kept_behind : (before now : KnowledgeValue) (lines : List LogLine) (line : LogLine)
    → KeepsThese (lesson_of (accepted lines) line) before now → Keeps (lessons lines) before → Keeps (lessons (lines ++ line ∷ [])) now
kept_behind before now lines line these keeps =
    subst (λ all. Keeps all now) (sym (lessons_behind [] lines line)) (these (lessons lines) keeps)
