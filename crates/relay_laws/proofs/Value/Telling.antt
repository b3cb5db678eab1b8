-- What a store answers tells facts that its messages teach.
use Rattle.std.proofs.Common.{◌≡◌, ℕ, suc, ◌+◌, Bool, true, false, cond, List, [], ◌∷◌, length, slice_get, Option, Some, None, refl, sym, ap, ◌∙◌, subst, arith, inl, inr}
use Rattle.std.specs.Prelude.{nat_le, option_and_then}
use Rattle.std.specs.List.{AllByRecursion, flat_map}
use Rattle.std.specs.Str.{is_utf8}
use Rattle.channel_core.specs.Arrivals.{Spoken}
use Rattle.knowledge.specs.Changes.{Change, bytes_read, context_told, properties_told, register_read, state_told, status_told, threads_told}
use Rattle.knowledge.specs.Facts.{Facts, Knows, nothing}
use Rattle.knowledge.specs.Learning.{Message, learned}
use Rattle.knowledge.specs.Reply.{answer_known}
use Rattle.knowledge.specs.Rows.{answer_changes}
use Rattle.reply_tables.specs.Answers.{answer_read}
use Rattle.reply_tables.specs.Written.{answer_data}
use Rattle.tcf_message.specs.Message.{MessageValue, command, event, final, flow, not_known, progress}
use Rattle.tcf_values.specs.declared.answer.Answer.{Answer}
use Rattle.tcf_values.specs.declared.command.Command.{Command}
use Rattle.value_store.specs.Learning.{IsStoreOf, data_of, lesson_of, most_data, stored_answer}
use Rattle.value_store.specs.Lessons.{answer_by, answer_message}
use Rattle.value_store.specs.Rows.{facts_in}
use Rattle.value_store.specs.StoreValue.{StoreValue}
use Rattle.value_store.specs.Taken.{AreTaken, IsTaken}
use Rattle.value_node.specs.Asked.{Asked}
use Rattle.value_node.specs.Deeds.{command_asked}
use Rattle.chain_told.specs.Told.{command_under, lesson, lessons}
use Rattle.relay_laws.specs.Relay.{bytes_from, facts_of, facts_told}
use Rattle.knowledge.proofs.TheLaws.{replies_stay_same}
use Rattle.reply_tables.proofs.TheLaws.{answers_read_back}
use Rattle.value_store.proofs.Lessons.Answered.{IsGood, answer_good}
use Rattle.value_store.proofs.Lessons.Each.{passed}
use Rattle.value_store.proofs.Lessons.Learned.{IsSoundOf, learned_sound, nothing_sound}
use Rattle.value_store.proofs.Lessons.Told.{Tells}
use Rattle.list_laws.proofs.AllLists.{all_append}
use Rattle.list_laws.proofs.Lists.{same_some}

-- ---- Facts that changes tell

bytes_told : (known : Facts) (process addr : ℕ) (bytes : List ℕ) → ((k byte : ℕ) → slice_get bytes k ≡ Some byte → known.bytes process (addr + k) byte ≡ true)
    → AllByRecursion (Knows known) (bytes_from process addr bytes)
bytes_told known process addr [] each = tt
bytes_told known process addr (b ∷ bytes) each =
    let here : addr ≡ addr + 0 = omega arith in (
      ap (λ n. known.bytes process n b) here ∙ each 0 b refl,
      bytes_told known process (addr + 1) bytes (λ k byte is.
          let next : (addr + 1) + k ≡ addr + suc k = omega arith in
          ap (λ n. known.bytes process n byte) next ∙ each (suc k) byte is),
    )

facts_one : (known : Facts) (change : Change) → Tells known change → AllByRecursion (Knows known) (facts_of change)
facts_one known (context_told id context) told = (told, tt)
facts_one known (threads_told process ids) told = (told, tt)
facts_one known (state_told process thread state) told = (told, tt)
facts_one known (register_read process thread index value) told = (told, tt)
facts_one known (bytes_read process addr bytes) told = bytes_told known process addr bytes told
facts_one known (properties_told id properties) told = (told, tt)
facts_one known (status_told id status) told = (told, tt)
facts_one known _ told = tt

facts_all : (known : Facts) (changes : List Change) → AllByRecursion (Tells known) changes → AllByRecursion (Knows known) (flat_map facts_of changes)
facts_all known [] told = tt
facts_all known (change ∷ changes) told =
    all_append (Knows known) (facts_of change) (flat_map facts_of changes) (facts_one known change told.0) (facts_all known changes told.1)

-- ---- Those of a stored answer

answer_of_data : (asked : Command) (found : Option Answer) (body : List ℕ) → data_of asked found ≡ Some body → (answer : Answer) × (found ≡ Some answer) × (answer_data asked answer ≡ body)
answer_of_data asked None body is = cc
answer_of_data asked (Some answer) body is =
    let written = answer_data asked answer in
    let fits = passed (nat_le (length written) most_data) (Some written) body is in
    (answer, refl, same_some written body fits.1)

by_reading : (asked : Command) (answer : Answer) (known : Facts) (utf8 : Bool) (read : Option Answer) → IsGood known asked answer → read ≡ cond utf8 (Some answer) None
    → AllByRecursion (Knows known) (facts_told (answer_by asked read))
by_reading asked answer known true read good is =
    subst (λ (found : Option Answer). AllByRecursion (Knows known) (facts_told (answer_by asked found))) (sym is) (facts_all known (answer_changes asked answer) good.tells)
by_reading asked answer known false read good is = subst (λ (found : Option Answer). AllByRecursion (Knows known) (facts_told (answer_by asked found))) (sym is) tt

pub stored_tells : (messages : List Message) (s : StoreValue) (asked : Command) (body : List ℕ) → AreTaken messages → IsStoreOf messages s → stored_answer asked s ≡ Some body
    → AllByRecursion (Knows (learned messages)) (facts_told (answer_message asked body))
stored_tells messages s asked body taken store is =
    let known : Facts = learned messages in
    let sound : IsSoundOf known = learned_sound messages nothing taken nothing_sound in
    let found = answer_of_data asked (answer_known asked (facts_in s.known) s.blocks) body is in
    let answer : Answer = found.0 in
    let there : answer_known asked known s.blocks ≡ Some answer = sym (replies_stay_same asked (facts_in s.known) known s.blocks store.facts) ∙ found.1 in
    let good : IsGood known asked answer = answer_good asked known s.blocks answer sound store.bytes there in
    let read : answer_read asked (answer_data asked answer) ≡ cond (is_utf8 (answer_data asked answer)) (Some answer) None =
    answers_read_back asked answer good.fits good.typed in
    by_reading asked answer known (is_utf8 (answer_data asked answer)) (answer_read asked body) good (sym (ap (answer_read asked) found.2) ∙ read)

-- ---- What is learned is taken of messages

taken_lesson : (what : Option Command) (body : List ℕ) → IsTaken (lesson_of what body)
taken_lesson None body = inr (inr refl)
taken_lesson (Some asked) body = inr (inl (asked, body, refl))

taken_of : (commands : List Asked) (message : MessageValue) → AreTaken (lesson commands message)
taken_of commands (command token service name body) = tt
taken_of commands (final token body) = (taken_lesson (option_and_then command_asked (command_under token commands)) body, tt)
taken_of commands (progress token body) = tt
taken_of commands (not_known token) = tt
taken_of commands (event service name body) = (inl (service, name, body, refl), tt)
taken_of commands (flow level) = tt

pub are_taken : (commands : List Asked) (told : List Spoken) → AreTaken (lessons commands told)
are_taken commands [] = tt
are_taken commands (s ∷ told) = all_append IsTaken (lesson commands s.message) (lessons commands told) (taken_of commands s.message) (are_taken commands told)
