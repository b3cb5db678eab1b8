-- A cache that keeps some messages keeps those with one more, and no byte but of theirs.
use Rattle.std.proofs.Common.{◌≡◌, ℕ, List, [], ◌∷◌, ◌++◌, Option, Some, None, refl, sym, ap, ◌∙◌, subst, inl, inr, ◌⊎◌}
use Rattle.std.specs.Prelude.{Result, Ok, Err, OnOk}
use Rattle.std.proofs.lemmas.Bool.{both_ways}
use Rattle.block_store.specs.declared.block.Block.{Block}
use Rattle.command_tables.specs.declared.reading.Reading.{Reading}
use Rattle.command_tables.specs.declared.reading.Reading.TheVariants as readings
use Rattle.knowledge.specs.Facts.{AreSame, Facts, context_is, threads_are, state_is, register_is, byte_is, properties_are, status_is, nothing}
use Rattle.knowledge.specs.KnowledgeValue.{KnowledgeValue, blocks_learned, empty, facts_of}
use Rattle.knowledge.specs.Laws.{AreKnown, blocks_with}
use Rattle.knowledge.specs.Learning.{Message, answer_taken, bad_event_taken, other_taken, learn, learn_all, learned}
use Rattle.reply_tables.specs.Answers.{answer_read, known_or_bad}
use Rattle.reply_tables.specs.declared.replies.ReadAnswer.TheVariants as read
use Rattle.tcf_values.specs.declared.answer.Answer.{Answer}
use Rattle.tcf_values.specs.declared.command.Command.{Command}
use Rattle.cache_learning.specs.Kept.{KeepsToo, KeptIsLearned, Learns, blocks_from}
use Rattle.cache_learning.specs.Lessons.{answer_by, answer_message, final_message}
use Rattle.knowledge.proofs.Same.{same_then}
use Rattle.knowledge.proofs.Cache.{learn_all-append}
use Rattle.knowledge.proofs.TheLaws.{blocks_are_learned, blocks_stay_same, facts_stay_same}

same_as : {known other : Facts} → known ≡ other → AreSame known other
same_as {known} {other} is = subst (AreSame known) is (record {
  contexts = λ id. refl;
  threads = λ process. refl;
  states = λ process thread. refl;
  registers = λ process thread index. refl;
  properties = λ id. refl;
  statuses = λ id. refl;
})

-- ---- one more message at the end

blocks_more : (messages : List Message) (message : Message) (known : Facts) (blocks : List Block)
    → blocks_from (messages ++ message ∷ []) known blocks ≡ blocks_with message (learn_all messages known) (blocks_from messages known blocks)
blocks_more [] message known blocks = refl
blocks_more (first ∷ messages) message known blocks = blocks_more messages message (learn first known) (blocks_with first known blocks)

-- ---- what is learned of a message is kept of it

pub kept_too : (message : Message) (before now : KnowledgeValue)
    → AreSame (facts_of now) (learn message (facts_of before)) → now.blocks ≡ blocks_learned message before → KeepsToo message before now
kept_too message before now facts blocks messages keeps =
    let known : Facts = learned messages in
    record {
      facts = subst (AreSame (facts_of now)) (sym (learn_all-append messages message nothing))
          (same_then facts (facts_stay_same message (facts_of before) known keeps.facts));
      blocks = blocks ∙ blocks_stay_same message (facts_of before) known before.blocks keeps.facts
          ∙ ap (blocks_with message known) keeps.blocks
          ∙ sym (blocks_more messages message nothing []);
    }

empty_knows_nothing : AreSame (facts_of empty) nothing
empty_knows_nothing = record {
  contexts = λ id. refl;
  threads = λ process. refl;
  states = λ process thread. refl;
  registers = λ process thread index. refl;
  properties = λ id. refl;
  statuses = λ id. refl;
}

-- what is learned
pub event_learned : (message : Message) (before now : KnowledgeValue) → AreSame (facts_of now) (learn message (facts_of before)) → now.blocks ≡ blocks_learned message before
    → Learns message before now
event_learned message before now facts blocks = record { facts = facts; blocks = blocks }

-- all is forgotten
pub learned_nothing : (before now : KnowledgeValue) → now ≡ empty → Learns bad_event_taken before now
learned_nothing before now is = record {
  facts = same_then (same_as (ap facts_of is)) empty_knows_nothing;
  blocks = ap (λ (value : KnowledgeValue). value.blocks) is;
}

-- what teaches nothing changes nothing
pub learned_as_it_was : (now : KnowledgeValue) → Learns other_taken now now
learned_as_it_was now = record { facts = same_as refl; blocks = refl }

-- a message that is the same
pub learned_as : {message other : Message} {before now : KnowledgeValue} → message ≡ other → Learns message before now → Learns other before now
learned_as {message} {other} {before} {now} is learns = subst (λ (m : Message). Learns m before now) is learns

pub answer_learned : {T E : Type 0} (result : Result T E) (message other : Message) (before now : KnowledgeValue) → message ≡ other
    → OnOk result (AreSame (facts_of now) (learn message (facts_of before))) → OnOk result (now.blocks ≡ blocks_learned message before) → OnOk result (Learns other before now)
answer_learned (Ok value) message other before now is facts blocks = learned_as is (record { facts = facts; blocks = blocks })
answer_learned (Err error) message other before now is facts blocks = tt

-- nothing is kept once all is forgotten
pub kept_nothing : (before now : KnowledgeValue) → now ≡ empty → KeepsToo bad_event_taken before now
kept_nothing before now is messages keeps = record {
  facts = same_then (same_as (ap facts_of is)) (same_then empty_knows_nothing (same_as (sym (learn_all-append messages bad_event_taken nothing))));
  blocks = ap (λ (value : KnowledgeValue). value.blocks) is ∙ sym (blocks_more messages bad_event_taken nothing []);
}

-- what teaches nothing changes nothing
pub kept_as_it_was : (now : KnowledgeValue) → KeepsToo other_taken now now
kept_as_it_was now messages keeps = record {
  facts = same_then keeps.facts (same_as (sym (learn_all-append messages other_taken nothing)));
  blocks = keeps.blocks ∙ sym (blocks_more messages other_taken nothing []);
}

-- ---- what is read

-- what keeps a message keeps what is the same
pub kept_as : {message other : Message} {before now : KnowledgeValue} → message ≡ other → KeepsToo message before now → KeepsToo other before now
kept_as {message} {other} {before} {now} is keeps = subst (λ (m : Message). KeepsToo m before now) is keeps

pub answer_known : (command : Command) (body : List ℕ) (answer : Answer) → read.Known answer ≡ known_or_bad (answer_read command body)
    → answer_taken command answer ≡ answer_message command body
answer_known command body answer is = by (answer_read command body) is
  where
    by : (found : Option Answer) → read.Known answer ≡ known_or_bad found → answer_taken command answer ≡ answer_by command found
    by None is = cc
    by (Some other) is = cc

pub answer_bad : (command : Command) (body : List ℕ) → read.Bad ≡ known_or_bad (answer_read command body) → other_taken ≡ answer_message command body
answer_bad command body is = by (answer_read command body) is
  where
    by : (found : Option Answer) → read.Bad ≡ known_or_bad found → other_taken ≡ answer_by command found
    by None is = refl
    by (Some other) is = cc

pub answer_kept : {T E : Type 0} (result : Result T E) (message other : Message) (before now : KnowledgeValue) → message ≡ other
    → OnOk result (AreSame (facts_of now) (learn message (facts_of before))) → OnOk result (now.blocks ≡ blocks_learned message before) → OnOk result (KeepsToo other before now)
answer_kept (Ok value) message other before now is facts blocks = kept_as is (kept_too message before now facts blocks)
answer_kept (Err error) message other before now is facts blocks = tt

-- a command that isn't read
pub unread : (reading : Reading) (body : List ℕ) → (reading ≡ readings.Unknown) ⊎ ((index : ℕ) × (code : ℕ) × (reading ≡ readings.Bad index code))
    → other_taken ≡ final_message (Some reading) body
unread reading body (inl is) = ap (λ r. final_message (Some r) body) (sym is)
unread reading body (inr (index, code, is)) = ap (λ r. final_message (Some r) body) (sym is)

-- ---- the law

blocks_known : (messages : List Message) (known : Facts) (blocks : List Block) → AreKnown blocks known
    → AreKnown (blocks_from messages known blocks) (learn_all messages known)
blocks_known [] known blocks before = before
blocks_known (message ∷ messages) known blocks before =
    blocks_known messages (learn message known) (blocks_with message known blocks) (blocks_are_learned message known blocks before)

pub kept_is_learned : KeptIsLearned
kept_is_learned messages (context_is id context) is = is
kept_is_learned messages (threads_are process ids) is = is
kept_is_learned messages (state_is process thread state) is = is
kept_is_learned messages (register_is process thread index value) is = is
kept_is_learned messages (byte_is process place byte) is =
    blocks_known messages nothing [] (λ p a b any. absurd (both_ways _ refl any)) process place byte is
kept_is_learned messages (properties_are id properties) is = is
kept_is_learned messages (status_is id status) is = is
