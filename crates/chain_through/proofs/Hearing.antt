-- What a bound value-add has heard: the position of the last message, what all of them teach, and what its store knows.
use Rattle.std.proofs.Common.{◌≡◌, ℕ, ◌+◌, ◌<◌, ◌≤◌, List, [], ◌∷◌, ◌++◌, length, map, Option, Some, None, Ok, refl, sym, ap, ◌∙◌, subst, arith, append_assoc, append-nil}
use Rattle.std.specs.List.{AllByRecursion}
use Rattle.channel_core.specs.Arrivals.{Spoken}
use Rattle.channel_core.specs.Wire.{said_by, said_of}
use Rattle.channel_core.specs.declared.held.Incoming.{Incoming}
use Rattle.knowledge.specs.Facts.{AreSame, IsPart, byte_is, context_is, is_suspended, properties_are, register_is, state_is, status_is, threads_are}
use Rattle.knowledge.specs.Learning.{Message, learned}
use Rattle.target_contexts.specs.declared.process.Image.{Image}
use Rattle.target_hub.specs.declared.input.Input.{Input}
use Rattle.tcf_message.specs.Message.{MessageValue, command, event, final, flow, not_known, progress, reading, spelling}
use Rattle.value_node.specs.Asked.{Asked}
use Rattle.value_node.specs.Deeds.{Deed, answers, forwards, heard_in, hears, lessons_from, lessons_in, mark_after, mark_in, mark_of as mark_heard, sent_in, taught_in}
use Rattle.value_node.specs.RelayLaws.{IsOfItsCommand}
use Rattle.value_node.specs.Store.{IsStoreOf, StoreValue, lesson_of}
use Rattle.chain_told.specs.Told.{AreToldRightly, AreTrueAt, lesson, lessons, mark_from, mark_of, numbered}
use Rattle.chain_through.specs.Through.{kept_in}
use Rattle.knowledge.proofs.Same.{still_same}
use Rattle.chain_told.proofs.Doing.{heard_append, sent_append}
use Rattle.chain_through.proofs.Found.{asked_same}
use Rattle.chain_through.proofs.OwnTold.{IsUnmarked, none_from}
use Rattle.chain_through.proofs.Taking.{come_as}
use Rattle.chain_through.proofs.ToldLists.{all_true, told_front}

abbrev pub AreReadable : List Spoken → Type 0
AreReadable heard = AllByRecursion (λ s. reading (spelling s.message) ≡ Ok s.message) heard

-- ---- The position of the last message

pub mark_same : (heard : List Spoken) → AreReadable heard → (before : Option ℕ) → mark_heard (map come_as heard) before ≡ mark_from before heard
mark_same [] readable before = refl
mark_same (s ∷ heard) readable before =
    ap (λ r. mark_heard (map come_as heard) (mark_after (said_of r) s.mark before)) readable.0 ∙ mark_same heard readable.1 (mark_after (said_by s.message) s.mark before)

pub unmarked_heard : (heard : List Spoken) → AllByRecursion IsUnmarked heard → mark_from None heard ≡ None
unmarked_heard heard unmarked = none_from heard unmarked

-- ---- Lists in two parts each

pub map_parts : {A B : Type 0} → (f : A → B) (xs ys : List B) (zs : List A) → xs ++ ys ≡ map f zs → (first : List A) × (rest : List A) × (zs ≡ first ++ rest) × (xs ≡ map f first) × (ys ≡ map f rest)
map_parts f [] ys zs same = ([], zs, refl, refl, same)
map_parts f (x ∷ xs) ys [] same = absurd cc
map_parts f (x ∷ xs) ys (z ∷ zs) same =
    let whole : x ∷ (xs ++ ys) ≡ f z ∷ map f zs = same in
    let one : x ≡ f z = cc in
    let tails : xs ++ ys ≡ map f zs = cc in
    let p = map_parts f xs ys zs tails in
    (z ∷ p.0, p.1, ap (λ l. z ∷ l) p.2, ap (λ y. y ∷ xs) one ∙ ap (λ l. f z ∷ l) p.3, p.4)

readable_first : (first rest : List Spoken) → AreReadable (first ++ rest) → AreReadable first
readable_first [] rest readable = tt
readable_first (s ∷ first) rest readable = (readable.0, readable_first first rest readable.1)

-- ---- What they teach

module _ (all : List Deed) (owns : (before rest : List Deed) (incoming : Incoming) → all ≡ before ++ hears incoming ∷ rest → IsOfItsCommand before (reading incoming.raw)) where
  same_taught : (before : List Deed) (more : List Asked) (m : MessageValue) → IsOfItsCommand before (Ok m) → taught_in (sent_in before) (Ok m) ≡ lesson (numbered 1 (sent_in before ++ more)) m
  same_taught before more (command token service name body) o = refl
  same_taught before more (final token body) o =
      let high : o.number ≤ length (sent_in before) = o.sent in
      let within : o.number < 1 + length (sent_in before) = omega arith in
      ap (λ c. lesson_of c body ∷ []) (asked_same 1 o.number token (sent_in before) more o.numbered o.counted within)
  same_taught before more (progress token body) o = refl
  same_taught before more (not_known token) o = refl
  same_taught before more (event service name body) o = refl
  same_taught before more (flow level) o = refl

  lessons_same : (sent : List Asked) (before deeds after : List Deed) (later : List Asked) (heard : List Spoken) → all ≡ before ++ (deeds ++ after) → sent ≡ sent_in before ++ (sent_in deeds ++ later)
      → heard_in deeds ≡ map come_as heard → AreReadable heard → lessons_from (sent_in before) deeds ≡ lessons (numbered 1 sent) heard
  lessons_same sent before [] after later [] are sent_are heard_are readable = refl
  lessons_same sent before [] after later (s ∷ heard) are sent_are heard_are readable = absurd cc
  lessons_same sent before (forwards c ∷ deeds) after later heard are sent_are heard_are readable =
      let pushed : sent_in (before ++ forwards c ∷ []) ≡ sent_in before ++ c ∷ [] = sent_append before (forwards c ∷ []) in
      let place : all ≡ (before ++ forwards c ∷ []) ++ (deeds ++ after) = are ∙ sym (append_assoc before (forwards c ∷ []) (deeds ++ after)) in
      let sent_now : sent ≡ sent_in (before ++ forwards c ∷ []) ++ (sent_in deeds ++ later) =
      sent_are ∙ sym (append_assoc (sent_in before) (c ∷ []) (sent_in deeds ++ later)) ∙ ap (λ cs. cs ++ (sent_in deeds ++ later)) (sym pushed) in
      subst (λ cs. lessons_from cs deeds ≡ lessons (numbered 1 sent) heard) pushed (lessons_same sent (before ++ forwards c ∷ []) deeds after later heard place sent_now heard_are readable)
  lessons_same sent before (answers c reply mark ∷ deeds) after later heard are sent_are heard_are readable =
      let deed = answers c reply mark in
      let pushed : sent_in (before ++ deed ∷ []) ≡ sent_in before = sent_append before (deed ∷ []) ∙ append-nil (sent_in before) in
      let place : all ≡ (before ++ deed ∷ []) ++ (deeds ++ after) = are ∙ sym (append_assoc before (deed ∷ []) (deeds ++ after)) in
      let sent_now : sent ≡ sent_in (before ++ deed ∷ []) ++ (sent_in deeds ++ later) = sent_are ∙ ap (λ cs. cs ++ (sent_in deeds ++ later)) (sym pushed) in
      subst (λ cs. lessons_from cs deeds ≡ lessons (numbered 1 sent) heard) pushed (lessons_same sent (before ++ deed ∷ []) deeds after later heard place sent_now heard_are readable)
  lessons_same sent before (hears incoming ∷ deeds) after later [] are sent_are heard_are readable = absurd cc
  lessons_same sent before (hears incoming ∷ deeds) after later (s ∷ heard) are sent_are heard_are readable =
      let whole : incoming ∷ heard_in deeds ≡ come_as s ∷ map come_as heard = heard_are in
      let one : incoming ≡ come_as s = cc in
      let tails : heard_in deeds ≡ map come_as heard = cc in
      let pushed : sent_in (before ++ hears incoming ∷ []) ≡ sent_in before = sent_append before (hears incoming ∷ []) ∙ append-nil (sent_in before) in
      let place : all ≡ (before ++ hears incoming ∷ []) ++ (deeds ++ after) = are ∙ sym (append_assoc before (hears incoming ∷ []) (deeds ++ after)) in
      let sent_now : sent ≡ sent_in (before ++ hears incoming ∷ []) ++ (sent_in deeds ++ later) = sent_are ∙ ap (λ cs. cs ++ (sent_in deeds ++ later)) (sym pushed) in
      let rest = subst (λ cs. lessons_from cs deeds ≡ lessons (numbered 1 sent) heard) pushed (lessons_same sent (before ++ hears incoming ∷ []) deeds after later heard place sent_now tails readable.1) in
      let read : reading incoming.raw ≡ Ok s.message = ap (λ (i : Incoming). reading i.raw) one ∙ readable.0 in
      let its : IsOfItsCommand before (Ok s.message) = subst (IsOfItsCommand before) read (owns before (deeds ++ after) incoming are) in
      let here : taught_in (sent_in before) (reading incoming.raw) ≡ lesson (numbered 1 sent) s.message =
      ap (taught_in (sent_in before)) read ∙ same_taught before (sent_in deeds ++ later) s.message its ∙ ap (λ cs. lesson (numbered 1 cs) s.message) (sym sent_are) in
      ap (λ l. l ++ lessons_from (sent_in before) deeds) here ∙ ap (λ l. lesson (numbered 1 sent) s.message ++ l) rest

  -- what they teach is true at the last position, where they were told rightly
  pub true_in : (images : List Image) (history : List Input) (first after : List Deed) (heard : List Spoken) → all ≡ first ++ after → heard_in all ≡ map come_as heard → AreReadable heard
      → AreToldRightly images history (numbered 1 (sent_in all)) heard → AreTrueAt images history (mark_in first) (learned (lessons_in first))
  true_in images history first after heard are heard_are readable told =
      let sent = sent_in all in
      let p = map_parts come_as (heard_in first) (heard_in after) heard (sym (heard_append first after) ∙ ap heard_in (sym are) ∙ heard_are) in
      let read : AreReadable p.0 = readable_first p.0 p.1 (subst AreReadable p.2 readable) in
      let true_so = all_true images history (numbered 1 sent) p.0 (told_front images history (numbered 1 sent) p.0 heard (p.1, p.2) told) in
      let sent_are : sent ≡ sent_in first ++ sent_in after = ap sent_in are ∙ sent_append first after in
      let same : lessons_in first ≡ lessons (numbered 1 sent) p.0 = lessons_same sent [] first after (sent_in after) p.0 are sent_are p.3 read in
      let mark : mark_in first ≡ mark_of p.0 = ap (λ l. mark_heard l None) p.3 ∙ mark_same p.0 read None in
      subst (λ k. AreTrueAt images history k (learned (lessons_in first))) (sym mark) (subst (λ ls. AreTrueAt images history (mark_of p.0) (learned ls)) (sym same) true_so)

-- ---- A store knows a part of it

kept_part : (messages : List Message) (s : StoreValue) → IsStoreOf messages s → IsPart (kept_in s) (learned messages)
kept_part messages s of (context_is id context) known = sym (of.facts.contexts id) ∙ known
kept_part messages s of (threads_are process ids) known = sym (of.facts.threads process) ∙ known
kept_part messages s of (state_is process thread state) known = sym (of.facts.states process thread) ∙ known
kept_part messages s of (register_is process thread index value) known = sym (of.facts.registers process thread index) ∙ known
kept_part messages s of (byte_is process place byte) known = of.bytes process place byte known
kept_part messages s of (properties_are id properties) known = sym (of.facts.properties id) ∙ known
kept_part messages s of (status_is id status) known = sym (of.facts.statuses id) ∙ known

kept_same : (messages : List Message) (s : StoreValue) → IsStoreOf messages s → AreSame (kept_in s) (learned messages)
kept_same messages s of = record {
  contexts = of.facts.contexts;
  threads = of.facts.threads;
  states = of.facts.states;
  registers = of.facts.registers;
  properties = of.facts.properties;
  statuses = of.facts.statuses;
}

pub kept_true : (images : List Image) (history : List Input) (mark : Option ℕ) (messages : List Message) (s : StoreValue) → IsStoreOf messages s → AreTrueAt images history mark (learned messages)
    → AreTrueAt images history mark (kept_in s)
kept_true images history None messages s of true = λ fact known. true fact (kept_part messages s of fact known)
kept_true images history (Some position) messages s of true = (
  true.0,
  λ typed. let holds = true.1 typed in record {
    facts = λ fact known. holds.facts fact (kept_part messages s of fact known);
    grounded = λ process thread index value is.
        ap is_suspended (of.facts.states process thread) ∙ holds.grounded process thread index value (sym (of.facts.registers process thread index) ∙ is);
    still = λ process place byte is. still_same process (kept_in s) (learned messages) (kept_same messages s of) ∙ holds.still process place byte (of.bytes process place byte is);
  },
)
