-- What a store knows after a message that was heard.
use Rattle.std.proofs.Common.{◌≡◌, ℕ, true, false, List, [], ◌∷◌, ◌++◌, position, Option, Some, None, Result, Ok, refl, ap, sym, ◌∙◌, subst}
use Rattle.std.specs.Prelude.{decimal, option_and_then}
use Rattle.std.specs.Cmp.Lexicographic.{slice_cmp}
use Rattle.std.specs.FinMap as finite
use Rattle.std.specs.Ordering.{nat_cmp}
use Rattle.std.proofs.lemmas.List.{append-nil}
use Rattle.block_store.specs.Blocks.{has_range}
use Rattle.block_store.specs.declared.block.Block.{Block}
use Rattle.value_store.specs.Lessons.{event_message}
use Rattle.channel_core.specs.Wire.{Said, answers as answers_said, asks, goes_on, greets, said_in, said_of, tells}
use Rattle.channel_core.specs.declared.held.Incoming.{Incoming}
use Rattle.knowledge.specs.Facts.{AreSame, Facts, nothing}
use Rattle.knowledge.specs.KnowledgeValue.{has_block_byte}
use Rattle.knowledge.specs.Laws.{AreKnown}
use Rattle.knowledge.specs.Learning.{Message, learn, learned}
use Rattle.knowledge.specs.Reply.{memory_used, range_in}
use Rattle.knowledge.proofs.Blocks.{holds}
use Rattle.tcf_message.specs.Message.{MessageValue, command, event, final, not_known, progress, reading}
use Rattle.tcf_message.specs.declared.message.MessageFault.{MessageFault}
use Rattle.tcf_values.specs.declared.command.Command.{Command}
use Rattle.value_store.specs.Rows.{facts_in}
use Rattle.value_store.proofs.Learned.{rows_learned}
use Rattle.value_node.specs.Asked.{Asked}
use Rattle.value_node.specs.Deeds.{Deed, answers, command_asked, forwards, hears, lessons_in, mark_in, sent_in, sent_under, taught_in}
use Rattle.value_node.specs.Store.{IsStoreOf, StoreValue, event_heard, final_heard, hello_heard, later_mark, lesson_of, no_store, progress_heard, taught, used_by}
use Rattle.knowledge.proofs.TheLaws.{blocks_are_learned, blocks_stay_same, facts_stay_same}
use Rattle.value_node.proofs.DeedLists.{lessons_both, mark_both}
use Rattle.value_node.proofs.Taken.{IsAnswerTo, IsCommand, IsEvent, IsProgressOf}
use Rattle.knowledge.proofs.Cache.{learn_all-append}
use Rattle.knowledge.proofs.Replies.{any_moved}

-- ---- one more message

same_then : (known other last : Facts) → AreSame known other → AreSame other last → AreSame known last
same_then known other last one two = record {
  contexts = λ id. one.contexts id ∙ two.contexts id;
  threads = λ process. one.threads process ∙ two.threads process;
  states = λ process thread. one.states process thread ∙ two.states process thread;
  registers = λ process thread index. one.registers process thread index ∙ two.registers process thread index;
  properties = λ id. one.properties id ∙ two.properties id;
  statuses = λ id. one.statuses id ∙ two.statuses id;
}

pub taught_more : (messages : List Message) (message : Message) (s : StoreValue) → IsStoreOf messages s → IsStoreOf (messages ++ message ∷ []) (taught message s)
taught_more messages message s is =
    let before : Facts = learned messages in
    let more : learned (messages ++ message ∷ []) ≡ learn message before = learn_all-append messages message nothing in
    record {
      facts = subst (λ known. AreSame (facts_in (taught message s).known) known) (sym more)
          (same_then (facts_in (taught message s).known) (learn message (facts_in s.known)) (learn message before) (rows_learned message s.known) (facts_stay_same message (facts_in s.known) before is.facts));
      bytes = subst (AreKnown (taught message s).blocks) (sym more)
          (subst (λ blocks. AreKnown blocks (learn message before)) (sym (blocks_stay_same message (facts_in s.known) before s.blocks is.facts)) (blocks_are_learned message before s.blocks is.bytes));
    }

-- ---- a block that is used

-- the blocks have no byte that they hadn't
used_bytes : (asking : Command) (known : Facts) (blocks : List Block) (process place byte : ℕ) → has_block_byte (memory_used (range_in asking known) blocks) process place byte ≡ true
    → has_block_byte blocks process place byte ≡ true
used_bytes asking known blocks process place byte is =
    elim (range_in asking known) as (λ asked. has_block_byte (memory_used asked blocks) process place byte ≡ true → has_block_byte blocks process place byte ≡ true) [
      | None ↦ λ has. has
      | Some asked ↦ λ has. any_moved (holds process place byte) (position (has_range asked.process asked.addr asked.size) blocks) blocks has
    ] is

pub used_knows : (messages : List Message) (asked : Option Command) (s : StoreValue) → IsStoreOf messages s → IsStoreOf messages (used_by asked s)
used_knows messages None s is = is
used_knows messages (Some known_command) s is = record {
  facts = is.facts;
  bytes = λ process place byte has. is.bytes process place byte (used_bytes known_command (facts_in s.known) s.blocks process place byte has);
}

-- ---- a store that knows what these deeds teach, at the position of the last message

pub record Knows (deeds : List Deed) (s : StoreValue) : Type 0 where
  pub known : IsStoreOf (lessons_in deeds) s
  pub marked : s.mark ≡ mark_in deeds

pub knows_nothing : Knows [] no_store
knows_nothing = record {
  known = record {
    facts = record {
      contexts = λ id. finite.get-empty (slice_cmp nat_cmp) id;
      threads = λ process. finite.get-empty (slice_cmp nat_cmp) (process ∷ []);
      states = λ process thread. finite.get-empty (slice_cmp nat_cmp) (process ∷ thread ∷ []);
      registers = λ process thread index. finite.get-empty (slice_cmp nat_cmp) (process ∷ thread ∷ index ∷ []);
      properties = λ id. finite.get-empty (slice_cmp nat_cmp) id;
      statuses = λ id. finite.get-empty (slice_cmp nat_cmp) id;
    };
    bytes = λ process place byte has. absurd cc;
  };
  marked = refl;
}

-- a command that is forwarded or answered teaches nothing
pub knows_still : (deeds : List Deed) (c : Asked) (s : StoreValue) → Knows deeds s → Knows (deeds ++ forwards c ∷ []) s
knows_still deeds c s knows = record {
  known = subst (λ messages. IsStoreOf messages s) (sym (lessons_both deeds (forwards c ∷ []) ∙ append-nil (lessons_in deeds))) knows.known;
  marked = knows.marked ∙ sym (mark_both deeds (forwards c ∷ []));
}

pub knows_answered : (deeds : List Deed) (c : Asked) (reply : List ℕ) (mark : Option ℕ) (s : StoreValue) → Knows deeds s → Knows (deeds ++ answers c reply mark ∷ []) s
knows_answered deeds c reply mark s knows = record {
  known = subst (λ messages. IsStoreOf messages s) (sym (lessons_both deeds (answers c reply mark ∷ []) ∙ append-nil (lessons_in deeds))) knows.known;
  marked = knows.marked ∙ sym (mark_both deeds (answers c reply mark ∷ []));
}

-- ---- a message that is heard

module _ (deeds : List Deed) (incoming : Incoming) (s : StoreValue) (knows : Knows deeds s) where
  abbrev later : List Deed
  later = deeds ++ hears incoming ∷ []

  lessons_later : (taught_now : List Message) → taught_in (sent_in deeds) (reading incoming.raw) ≡ taught_now → lessons_in later ≡ lessons_in deeds ++ taught_now
  lessons_later taught_now is =
      lessons_both deeds (hears incoming ∷ []) ∙ ap (λ ms. lessons_in deeds ++ ms) (append-nil (taught_in (sent_in deeds) (reading incoming.raw)) ∙ is)

  -- one that teaches this
  knows_taught : (message : Message) (mark : Option ℕ) → taught_in (sent_in deeds) (reading incoming.raw) ≡ message ∷ [] → mark ≡ mark_in later
      → Knows later (record (taught message s) { mark = mark })
  knows_taught message mark is at =
      let more = taught_more (lessons_in deeds) message s knows.known in
      let still : IsStoreOf (lessons_in deeds ++ message ∷ []) (record (taught message s) { mark = mark }) = record { facts = more.facts; bytes = more.bytes } in
      record { known = subst (λ messages. IsStoreOf messages (record (taught message s) { mark = mark })) (sym (lessons_later (message ∷ []) is)) still; marked = at }

  -- one that teaches nothing
  knows_untaught : (mark : Option ℕ) → taught_in (sent_in deeds) (reading incoming.raw) ≡ [] → mark ≡ mark_in later → Knows later (record s { mark = mark })
  knows_untaught mark is at =
      let still : IsStoreOf (lessons_in deeds) (record s { mark = mark }) = record { facts = knows.known.facts; bytes = knows.known.bytes } in
      record {
        known = subst (λ messages. IsStoreOf messages (record s { mark = mark })) (sym (lessons_later [] is ∙ append-nil (lessons_in deeds))) still;
        marked = at;
      }

  -- behind the last position
  marked_later : (said : Said) → said_in incoming.raw ≡ said → (said ≡ greets → ⊥) → (said ≡ asks → ⊥) → later_mark incoming.mark s.mark ≡ mark_in later
  marked_later greets is first other = absurd (first refl)
  marked_later tells is first other = sym (mark_both deeds (hears incoming ∷ []) ∙ rw is (ap (later_mark incoming.mark) (sym knows.marked)))
  marked_later asks is first other = absurd (other refl)
  marked_later (goes_on token) is first other = sym (mark_both deeds (hears incoming ∷ []) ∙ rw is (ap (later_mark incoming.mark) (sym knows.marked)))
  marked_later (answers_said token done) is first other = sym (mark_both deeds (hears incoming ∷ []) ∙ rw is (ap (later_mark incoming.mark) (sym knows.marked)))

  marked_first : said_in incoming.raw ≡ greets → later_mark incoming.mark None ≡ mark_in later
  marked_first is = first_mark incoming.mark ∙ sym (mark_both deeds (hears incoming ∷ []) ∙ rw is refl)
    where
      first_mark : (mark : Option ℕ) → later_mark mark None ≡ mark
      first_mark None = refl
      first_mark (Some position) = refl

  marked_asked : said_in incoming.raw ≡ asks → s.mark ≡ mark_in later
  marked_asked is = knows.marked ∙ sym (mark_both deeds (hears incoming ∷ []) ∙ rw is refl)

  pub hello_knows : (m : Result MessageValue MessageFault) → reading incoming.raw ≡ m → IsEvent m → said_in incoming.raw ≡ greets → Knows later (hello_heard incoming.mark m s)
  hello_knows (Ok (event service name body)) is told greeting =
      knows_taught (event_message service name body) (later_mark incoming.mark None) (ap (taught_in (sent_in deeds)) is) (marked_first greeting)
  hello_knows m is told greeting = absurd told

  pub event_knows : (m : Result MessageValue MessageFault) → reading incoming.raw ≡ m → IsEvent m → said_in incoming.raw ≡ tells → Knows later (event_heard incoming.mark m s)
  event_knows (Ok (event service name body)) is told telling =
      knows_taught (event_message service name body) (later_mark incoming.mark s.mark) (ap (taught_in (sent_in deeds)) is) (marked_later tells telling (λ e. absurd cc) (λ e. absurd cc))
  event_knows m is told telling = absurd told

  pub command_knows : (m : Result MessageValue MessageFault) → reading incoming.raw ≡ m → IsCommand m → Knows later s
  command_knows (Ok (command token service name body)) is told = knows_untaught s.mark (ap (taught_in (sent_in deeds)) is) (marked_asked (ap said_of is))
  command_knows m is told = absurd told

  pub progress_knows : (number : ℕ) (m : Result MessageValue MessageFault) → reading incoming.raw ≡ m → IsProgressOf number m → Knows later (progress_heard incoming.mark m s)
  progress_knows number (Ok (progress token body)) is told =
      knows_untaught (later_mark incoming.mark s.mark) (ap (taught_in (sent_in deeds)) is) (marked_later (goes_on token) (ap said_of is) (λ e. absurd cc) (λ e. absurd cc))
  progress_knows number m is told = absurd told

  pub final_knows : (number : ℕ) (asked : Option Command) (m : Result MessageValue MessageFault) → reading incoming.raw ≡ m → IsAnswerTo number m
      → option_and_then command_asked (sent_under 1 (decimal number) (sent_in deeds)) ≡ asked → Knows later (final_heard asked incoming.mark m s)
  final_knows number asked (Ok (final token body)) is told named =
      knows_taught (lesson_of asked body) (later_mark incoming.mark s.mark)
      (ap (taught_in (sent_in deeds)) is ∙ ap (λ t. lesson_of (option_and_then command_asked (sent_under 1 t (sent_in deeds))) body ∷ []) told ∙ ap (λ a. lesson_of a body ∷ []) named)
      (marked_later (answers_said token _) (ap said_of is) (λ e. absurd cc) (λ e. absurd cc))
  final_knows number asked (Ok (not_known token)) is told named =
      knows_untaught (later_mark incoming.mark s.mark) (ap (taught_in (sent_in deeds)) is) (marked_later (answers_said token false) (ap said_of is) (λ e. absurd cc) (λ e. absurd cc))
  final_knows number asked m is told named = absurd told
