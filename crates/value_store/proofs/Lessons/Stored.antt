-- Whoever learns what a store answers learns nothing that its messages don't teach.
use Rattle.std.proofs.Common.{◌≡◌, ℕ, Bool, true, false, cond, List, length, Option, Some, None, refl, sym, ap, ◌∙◌, subst}
use Rattle.std.specs.Prelude.{nat_le}
use Rattle.std.specs.Str.{is_utf8}
use Rattle.cache_learning.specs.Lessons.{answer_by}
use Rattle.knowledge.specs.Facts.{Facts, IsPart, nothing}
use Rattle.knowledge.specs.Learning.{learn, learned}
use Rattle.knowledge.specs.Reply.{answer_known}
use Rattle.knowledge.specs.Rows.{answer_changes}
use Rattle.reply_tables.specs.Answers.{answer_read}
use Rattle.reply_tables.specs.Written.{answer_data}
use Rattle.value_store.specs.Laws.{StoredAnswersTeachNothingNew}
use Rattle.knowledge.proofs.TheLaws.{replies_stay_same}
use Rattle.reply_tables.proofs.TheLaws.{answers_read_back}
use Rattle.value_store.proofs.Lessons.Answered.{IsGood, answer_good}
use Rattle.value_store.proofs.Lessons.Each.{passed}
use Rattle.value_store.proofs.Lessons.Learned.{IsSoundOf, learned_sound, nothing_sound}
use Rattle.value_store.proofs.Lessons.Told.{part_after_all}
use Rattle.tcf_values.specs.declared.answer.Answer.{Answer}
use Rattle.tcf_values.specs.declared.command.Command.{Command}
use Rattle.value_store.specs.Learning.{data_of, most_data}
use Rattle.value_store.specs.Rows.{facts_in}
use Rattle.list_laws.proofs.Lists.{same_some}

-- the answer whose data they are
answer_of_data : (command : Command) (found : Option Answer) (body : List ℕ) → data_of command found ≡ Some body → (answer : Answer) × (found ≡ Some answer) × (answer_data command answer ≡ body)
answer_of_data command None body is = cc
answer_of_data command (Some answer) body is =
    let written = answer_data command answer in
    let fits = passed (nat_le (length written) most_data) (Some written) body is in
    (answer, refl, same_some written body fits.1)

-- what is read of them is the answer, or nothing
read_part : (command : Command) (answer : Answer) (some known : Facts) (utf8 : Bool) (read : Option Answer) → IsGood known command answer → IsPart some known
    → read ≡ cond utf8 (Some answer) None → IsPart (learn (answer_by command read) some) known
read_part command answer some known true read good part is =
    subst (λ (found : Option Answer). IsPart (learn (answer_by command found) some) known) (sym is) (part_after_all (answer_changes command answer) some known good.tells part)
read_part command answer some known false read good part is =
    subst (λ (found : Option Answer). IsPart (learn (answer_by command found) some) known) (sym is) part

pub nothing_new : StoredAnswersTeachNothingNew
nothing_new messages s command body some taken store is part =
    let known : Facts = learned messages in
    let sound : IsSoundOf known = learned_sound messages nothing taken nothing_sound in
    let found = answer_of_data command (answer_known command (facts_in s.known) s.blocks) body is in
    let answer : Answer = found.0 in
    let there : answer_known command known s.blocks ≡ Some answer = sym (replies_stay_same command (facts_in s.known) known s.blocks store.facts) ∙ found.1 in
    let good : IsGood known command answer = answer_good command known s.blocks answer sound store.bytes there in
    let read : answer_read command (answer_data command answer) ≡ cond (is_utf8 (answer_data command answer)) (Some answer) None =
    answers_read_back command answer good.fits good.typed in
    read_part command answer some known (is_utf8 (answer_data command answer)) (answer_read command body) good part (sym (ap (answer_read command) found.2) ∙ read)
