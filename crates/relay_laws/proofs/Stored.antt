-- A stored answer whose facts are known teaches nothing else; and what a store answers tells facts that are learned.
use Rattle.std.proofs.Common.{◌≡◌, ℕ, zero, suc, ◌+◌, true, List, [], ◌∷◌, slice_get, Option, Some, None, sym, ap, ◌∙◌, arith}
use Rattle.std.specs.List.{AllByRecursion, flat_map}
use Rattle.knowledge.specs.Changes.{Change, bytes_read, context_told, properties_told, register_read, state_told, status_told, thread_joined, threads_told}
use Rattle.knowledge.specs.Facts.{Facts, IsPart, Knows}
use Rattle.knowledge.specs.Learning.{changes_of, learn}
use Rattle.reply_tables.specs.Answers.{answer_read}
use Rattle.tcf_values.specs.declared.answer.Answer.{Answer}
use Rattle.tcf_values.specs.declared.command.Command.{Command}
use Rattle.value_store.specs.Learning.{lesson_of}
use Rattle.value_store.specs.Lessons.{answer_by}
use Rattle.relay_laws.specs.Relay.{bytes_from, facts_of, facts_told}
use Rattle.chain_told.proofs.Keeping.{IsTelling, Tell, answers_tell}
use Rattle.value_store.proofs.Lessons.Told.{Tells, part_after_all}
use Rattle.list_laws.proofs.AllLists.{all_left, all_right}

bytes_known : (known : Facts) (process addr : ℕ) (bytes : List ℕ) → AllByRecursion (Knows known) (bytes_from process addr bytes) → (k byte : ℕ) → slice_get bytes k ≡ Some byte
    → known.bytes process (addr + k) byte ≡ true
bytes_known known process addr [] all k byte is = absurd cc
bytes_known known process addr (b ∷ bytes) all zero byte is =
    let one : b ≡ byte = cc in
    let here : addr ≡ addr + 0 = omega arith in
    sym (ap (λ n. known.bytes process n byte) here) ∙ sym (ap (λ n. known.bytes process addr n) one) ∙ all.0
bytes_known known process addr (b ∷ bytes) all (suc k) byte is =
    let next : (addr + 1) + k ≡ addr + suc k = omega arith in
    sym (ap (λ n. known.bytes process n byte) next) ∙ bytes_known known process (addr + 1) bytes all.1 k byte is

tells_one : (known : Facts) (change : Change) → IsTelling change → AllByRecursion (Knows known) (facts_of change) → Tells known change
tells_one known (context_told id context) telling all = all.0
tells_one known (threads_told process ids) telling all = all.0
tells_one known (state_told process thread state) telling all = all.0
tells_one known (register_read process thread index value) telling all = all.0
tells_one known (bytes_read process addr bytes) telling all = bytes_known known process addr bytes all
tells_one known (properties_told id properties) telling all = all.0
tells_one known (status_told id status) telling all = all.0
tells_one known (thread_joined process id) telling all = absurd telling
tells_one known _ telling all = tt

tells_all : (known : Facts) (changes : List Change) → Tell changes → AllByRecursion (Knows known) (flat_map facts_of changes) → AllByRecursion (Tells known) changes
tells_all known [] tell all = tt
tells_all known (change ∷ changes) tell all = (
  tells_one known change tell.0 (all_left (Knows known) (facts_of change) (flat_map facts_of changes) all),
  tells_all known changes tell.1 (all_right (Knows known) (facts_of change) (flat_map facts_of changes) all),
)

read_tells : (command : Command) (read : Option Answer) → Tell (changes_of (answer_by command read))
read_tells command None = tt
read_tells command (Some answer) = answers_tell command answer

lesson_tells : (asked : Option Command) (body : List ℕ) → Tell (changes_of (lesson_of asked body))
lesson_tells None body = tt
lesson_tells (Some command) body = read_tells command (answer_read command body)

pub stored_part : (asked : Option Command) (body : List ℕ) (some known : Facts) → AllByRecursion (Knows known) (facts_told (lesson_of asked body)) → IsPart some known
    → IsPart (learn (lesson_of asked body) some) known
stored_part asked body some known all part =
    let changes = changes_of (lesson_of asked body) in
    part_after_all changes some known (tells_all known changes (lesson_tells asked body) all) part
