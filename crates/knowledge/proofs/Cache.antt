-- A cache stays one of the messages that it has learned.
use Rattle.std.proofs.Common.{◌≡◌, List, [], ◌∷◌, ◌++◌, refl, sym, ◌∙◌, subst}
use Rattle.std.proofs.lemmas.Bool.{both_ways}
use Rattle.block_store.specs.declared.block.Block.{Block}
use Rattle.knowledge.specs.Facts.{AreSame, Facts, nothing}
use Rattle.knowledge.specs.KnowledgeValue.{IsAfter, IsCacheOf, KnowledgeValue, blocks_after_all, empty, facts_of}
use Rattle.knowledge.specs.Laws.{AreKnown}
use Rattle.knowledge.specs.Learning.{Message, bad_event_taken, changes_of, learn, learn_all, learned}
use Rattle.knowledge.proofs.Blocks.{known_after_all}
use Rattle.knowledge.proofs.Same.{after_all_same, blocks_all_same, same_then}

pub learn_all-append : (messages : List Message) (message : Message) (known : Facts) → learn_all (messages ++ message ∷ []) known ≡ learn message (learn_all messages known)
learn_all-append [] message known = refl
learn_all-append (first ∷ messages) message known = learn_all-append messages message (learn first known)

-- what one more message makes of a cache is one of the messages with it
pub cache_after : (messages : List Message) (message : Message) (before now : KnowledgeValue) → IsAfter (changes_of message) before now
    → IsCacheOf messages before → IsCacheOf (messages ++ message ∷ []) now
cache_after messages message before now change cache =
    let known : Facts = learned messages in
    let more : learned (messages ++ message ∷ []) ≡ learn message known = learn_all-append messages message nothing in
    let blocks : now.blocks ≡ blocks_after_all (changes_of message) known before.blocks =
    change.blocks ∙ blocks_all_same (changes_of message) (facts_of before) known before.blocks cache.facts in
    record {
      facts = subst (AreSame (facts_of now)) (sym more) (same_then change.facts (after_all_same (changes_of message) (facts_of before) known cache.facts));
      bytes = subst (λ (k : Facts). AreKnown now.blocks k) (sym more)
          (subst (λ (b : List Block). AreKnown b (learn message known)) (sym blocks) (known_after_all (changes_of message) before.blocks known cache.bytes));
    }

empty_is : (known : Facts) → known ≡ nothing → AreSame (facts_of empty) known
empty_is known is = subst (AreSame (facts_of empty)) (sym is) (record {
  contexts = λ id. refl;
  threads = λ process. refl;
  states = λ process thread. refl;
  registers = λ process thread index. refl;
  properties = λ id. refl;
  statuses = λ id. refl;
})

-- an empty cache is that of messages with an event at the end that doesn't read
pub empty_cache : (messages : List Message) → IsCacheOf (messages ++ bad_event_taken ∷ []) empty
empty_cache messages = record {
  facts = empty_is (learned (messages ++ bad_event_taken ∷ [])) (learn_all-append messages bad_event_taken nothing);
  bytes = λ process place byte any. absurd (both_ways _ refl any);
}
