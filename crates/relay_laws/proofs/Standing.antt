-- What is learned below is a part of what is learned above: kept by each command more, each message passed on and each stored
-- answer.
use Rattle.std.proofs.Common.{◌≡◌, ℕ, List, [], ◌∷◌, ◌++◌, Option, sym, ap, ◌∙◌, subst, append-nil}
use Rattle.std.specs.List.{AllByRecursion}
use Rattle.std.proofs.lemmas.List.Concat.{flat_map-append}
use Rattle.channel_core.specs.Arrivals.{Spoken}
use Rattle.knowledge.specs.Facts.{IsPart, Knows, nothing}
use Rattle.knowledge.specs.Learning.{Message, learn, learn_all, learned}
use Rattle.tcf_values.specs.declared.command.Command.{Command}
use Rattle.value_node.specs.Asked.{Asked}
use Rattle.value_store.specs.Learning.{lesson_of}
use Rattle.chain_told.specs.Told.{lesson, lessons}
use Rattle.relay_laws.specs.Relay.{facts_told}
use Rattle.chain_told.proofs.Agreeing.{learn_append}
use Rattle.value_store.proofs.Lessons.States.{learned_have_states}
use Rattle.relay_laws.proofs.Both.{both_learn}
use Rattle.relay_laws.proofs.Stored.{stored_part}
use Rattle.relay_laws.proofs.Tokens.{AreFound, IsFound, are_found_more, lessons_more}
use Rattle.list_laws.proofs.AllLists.{all_push}

-- the messages that were told below, and those above that they are of, each with the commands of that side
pub record Stands (asked : List Asked) (told : List Spoken) (sent : List Asked) (due : List Spoken) : Type 0 where
  pub part : IsPart (learned (lessons asked told)) (learned (lessons sent due))
  pub below : AreFound asked told
  pub above : AreFound sent due

-- ---- One lesson more

learned_more : (commands : List Asked) (told : List Spoken) (s : Spoken) → learned (lessons commands (told ++ s ∷ [])) ≡ learn_all (lesson commands s.message) (learned (lessons commands told))
learned_more commands told s =
    ap learned (flat_map-append (λ (t : Spoken). lesson commands t.message) told (s ∷ []) ∙ ap (λ ms. lessons commands told ++ ms) (append-nil (lesson commands s.message)))
    ∙ learn_append (lessons commands told) (lesson commands s.message) nothing

-- both learn the same of a message
all_learn : (messages before above : List Message) → IsPart (learned before) (learned above) → IsPart (learn_all messages (learned before)) (learn_all messages (learned above))
all_learn [] before above part = part
all_learn (message ∷ messages) before above part =
    let one : learned (before ++ message ∷ []) ≡ learn message (learned before) = learn_append before (message ∷ []) nothing in
    let other : learned (above ++ message ∷ []) ≡ learn message (learned above) = learn_append above (message ∷ []) nothing in
    let next : IsPart (learned (before ++ message ∷ [])) (learned (above ++ message ∷ [])) =
    subst (λ x. IsPart x (learned (above ++ message ∷ []))) (sym one) (subst (IsPart (learn message (learned before))) (sym other)
    (both_learn message (learned before) (learned above) (learned_have_states before) part)) in
    subst (λ x. IsPart (learn_all messages x) (learn_all messages (learn message (learned above)))) one
    (subst (λ y. IsPart (learn_all messages (learned (before ++ message ∷ []))) (learn_all messages y)) other
    (all_learn messages (before ++ message ∷ []) (above ++ message ∷ []) next))

-- ---- What each crossing keeps

pub stands_asked : (asked more : List Asked) (told : List Spoken) (sent : List Asked) (due : List Spoken) → Stands asked told sent due → Stands (asked ++ more) told sent due
stands_asked asked more told sent due st = record {
  part = subst (λ ms. IsPart (learned ms) (learned (lessons sent due))) (sym (lessons_more asked more told st.below)) st.part;
  below = are_found_more asked more told st.below;
  above = st.above;
}

pub stands_sent : (asked : List Asked) (told : List Spoken) (sent more : List Asked) (due : List Spoken) → Stands asked told sent due → Stands asked told (sent ++ more) due
stands_sent asked told sent more due st = record {
  part = subst (λ ms. IsPart (learned (lessons asked told)) (learned ms)) (sym (lessons_more sent more due st.above)) st.part;
  below = st.below;
  above = are_found_more sent more due st.above;
}

-- a message and what it is passed on as teach the same
pub record TeachAlike (asked sent : List Asked) (h s : Spoken) : Type 0 where
  pub alike : lesson asked s.message ≡ lesson sent h.message
  pub below : IsFound asked s.message
  pub above : IsFound sent h.message

pub stands_passed : (asked : List Asked) (told : List Spoken) (sent : List Asked) (due : List Spoken) (h s : Spoken) → TeachAlike asked sent h s → Stands asked told sent due
    → Stands asked (told ++ s ∷ []) sent (due ++ h ∷ [])
stands_passed asked told sent due h s t st = record {
  part = subst (λ x. IsPart x (learned (lessons sent (due ++ h ∷ [])))) (sym (learned_more asked told s ∙ ap (λ ms. learn_all ms (learned (lessons asked told))) t.alike))
      (subst (IsPart (learn_all (lesson sent h.message) (learned (lessons asked told)))) (sym (learned_more sent due h))
      (all_learn (lesson sent h.message) (lessons asked told) (lessons sent due) st.part));
  below = all_push (λ (x : Spoken). IsFound asked x.message) told s st.below t.below;
  above = all_push (λ (x : Spoken). IsFound sent x.message) due h st.above t.above;
}

pub stands_answered : (asked : List Asked) (told : List Spoken) (sent : List Asked) (due : List Spoken) (s : Spoken) (command : Option Command) (body : List ℕ) → lesson asked s.message ≡ lesson_of command body ∷ []
    → IsFound asked s.message → AllByRecursion (Knows (learned (lessons sent due))) (facts_told (lesson_of command body)) → Stands asked told sent due → Stands asked (told ++ s ∷ []) sent due
stands_answered asked told sent due s command body teaches found known st = record {
  part = subst (λ x. IsPart x (learned (lessons sent due))) (sym (learned_more asked told s ∙ ap (λ ms. learn_all ms (learned (lessons asked told))) teaches))
      (stored_part command body (learned (lessons asked told)) (learned (lessons sent due)) known st.part);
  below = all_push (λ (x : Spoken). IsFound asked x.message) told s st.below found;
  above = st.above;
}
