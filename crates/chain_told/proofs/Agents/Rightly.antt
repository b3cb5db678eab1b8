-- Each message that the history tells a channel is told rightly.
use Rattle.std.proofs.Common.{◌≡◌, ℕ, ◌+◌, ◌^◌, ◌≤◌, Bool, true, false, List, [], ◌∷◌, ◌++◌, length, map, Some, refl, ap, sym, ◌∙◌, subst, subst₂, arith}
use Rattle.std.specs.List.{AllByRecursion}
use Rattle.std.proofs.lemmas.List.{append_assoc}
use Rattle.channel_core.specs.Arrivals.{Spoken}
use Rattle.chain_told.specs.Told as told
use Rattle.chain_told.specs.Told.{AnswersRightly, AreTrueAt, ComesInTurn, IsAnswered, IsOpen, bars, command_under, goes_through, is_ended, is_storable, is_stored, lessons, mark_of, numbered}
use Rattle.command_tables.specs.Reading.{reading_of}
use Rattle.command_tables.specs.declared.reading.Reading.{Reading}
use Rattle.command_tables.specs.declared.reading.Reading.TheVariants as readings
use Rattle.knowledge.specs.Facts.{nothing}
use Rattle.knowledge.specs.Learning.{learned}
use Rattle.target_contexts.specs.declared.process.Image.{Image}
use Rattle.target_hub.specs.History.{IsLegal}
use Rattle.list_laws.specs.Fronts.{IsFront}
use Rattle.target_hub.specs.Sent.{ReadCommand, Told, event_at, executed_on, final_at, hello_at, progress_at, sent, unknown_at}
use Rattle.target_hub.specs.declared.input.Input.{Input}
use Rattle.target_truth.specs.Taught.{position_of, taught}
use Rattle.tcf_values.specs.declared.command.Command.{Command}
use Rattle.value_node.specs.Asked.{Asked}
use Rattle.value_node.specs.Barriers.{command_in}
use Rattle.chain_told.specs.Sent.{TargetTellsRightly, read_as}
use Rattle.target_truth.proofs.TheLaws.{told_is_true}
use Rattle.chain_told.proofs.Agents.Answering.{AnswersSo, Come, sent_comes}
use Rattle.chain_told.proofs.Agents.Ended.{Reached, all_before, reached}
use Rattle.chain_told.proofs.Agents.Lessons.{learned_same}
use Rattle.chain_told.proofs.Agents.Numbered.{AreApart, IsFound, found_all, numbered_apart, read_numbered}
use Rattle.chain_told.proofs.Agents.Placed.{beginning, mark_pushed, marked, place_is, placed}
use Rattle.chain_told.proofs.Agents.Saying.{ComeTo, ComesTo, Cut, come_at, come_front, come_to, cut, left_behind, one_told, spoken, spoken_push}
use Rattle.list_laws.proofs.AllLists.{all_right as all_back}

-- ---- it is that of a command that has no answer yet

opened : (all : List Asked) (before : List Spoken) (c : Asked) → IsFound all c → is_ended c.token before ≡ false → IsOpen all before c.token
opened all before c found none = record { command = c; sent = found; unanswered = none }

owed_now : (images : List Image) (history : List Input) (all : List Asked) (before : List Spoken) (now : Told) (left : List Asked) → ComesTo images history left now
    → AllByRecursion (IsFound all) left → AllByRecursion (λ c. is_ended c.token before ≡ false) left → told.IsOwed all before (one_told left now).message
owed_now images history all before (hello_at place body) left comes found waiting = tt
owed_now images history all before (event_at place service name body) left comes found waiting = tt
owed_now images history all before (progress_at place body) [] comes found waiting = absurd comes.1
owed_now images history all before (progress_at place body) (c ∷ left) comes found waiting = opened all before c found.0 waiting.0
owed_now images history all before (final_at place through body) [] comes found waiting = absurd comes.1
owed_now images history all before (final_at place through body) (c ∷ left) comes found waiting = opened all before c found.0 waiting.0
owed_now images history all before (unknown_at place through) [] comes found waiting = absurd comes.1
owed_now images history all before (unknown_at place through) (c ∷ left) comes found waiting = opened all before c found.0 waiting.0

-- ---- and its answer

known_read : (reading : Reading) (command : Command) → command_in reading ≡ Some command → reading ≡ readings.Known command
known_read (readings.Known other) command is = let same : other ≡ command = cc in ap readings.Known same
known_read readings.Unknown command is = absurd cc
known_read (readings.Bad index code) command is = absurd cc

unread_storable : (reading : Reading) → ((command : Command) → reading ≡ readings.Known command → ⊥) → is_stored (command_in reading) ≡ false
unread_storable (readings.Known command) unread = absurd (unread command refl)
unread_storable readings.Unknown unread = refl
unread_storable (readings.Bad index code) unread = refl

same_found : (all : List Asked) (c d : Asked) → IsFound all c → command_under c.token all ≡ Some d → c ≡ d
same_found all c d found is = let both : Some c ≡ Some d = sym found ∙ is in cc

in_turn : (all done left : List Asked) (c : Asked) (before : List Spoken) → AreApart all → done ++ c ∷ left ≡ all → AllByRecursion (λ d. is_ended d.token before ≡ true) done
    → ComesInTurn all before c
in_turn all done left c before apart split ended goes = all_before goes_through all done left c before apart split ended

answers_rightly : (images : List Image) (history : List Input) (all done left : List Asked) (c : Asked) (before : List Spoken) (place : ℕ) (through : Bool) (body : List ℕ) → AreApart all
    → done ++ c ∷ left ≡ all → AllByRecursion (λ d. is_ended d.token before ≡ true) done → AnswersSo images history place through body (read_as c)
    → AnswersRightly images history all before c place body
answers_rightly images history all done left c before place through body apart split ended so command is storable = record {
  same = λ typed. so.same command (known_read (reading_of c.service c.name c.body) command is) storable;
  settled = all_before bars all done left c before apart split ended;
}

answered_now : (images : List Image) (history : List Input) (all done : List Asked) (before : List Spoken) (now : Told) (left : List Asked) → AreApart all → done ++ left ≡ all
    → ComesTo images history left now → AllByRecursion (IsFound all) left → AllByRecursion (λ c. is_ended c.token before ≡ true) done
    → IsAnswered images history all before (one_told left now).message (one_told left now).mark
answered_now images history all done before (hello_at place body) left apart split comes found ended = tt
answered_now images history all done before (event_at place service name body) left apart split comes found ended = tt
answered_now images history all done before (progress_at place body) left apart split comes found ended = tt
answered_now images history all done before (final_at place through body) [] apart split comes found ended = absurd comes.1
answered_now images history all done before (final_at place through body) (c ∷ left) apart split comes found ended =
    λ d is. subst (λ (d : Asked). ComesInTurn all before d × AnswersRightly images history all before d place body) (same_found all c d found.0 is)
    (in_turn all done left c before apart split ended, answers_rightly images history all done left c before place through body apart split ended comes.1)
answered_now images history all done before (unknown_at place through) [] apart split comes found ended = absurd comes.1
answered_now images history all done before (unknown_at place through) (c ∷ left) apart split comes found ended =
    λ d is. subst (λ (d : Asked). ComesInTurn all before d × (is_storable d ≡ false)) (same_found all c d found.0 is)
    (in_turn all done left c before apart split ended, unread_storable (reading_of c.service c.name c.body) comes.1.unread)

-- ---- what is learned is true

within : (images : List Image) (history : List Input) (now : Told) (left : List Asked) → ComesTo images history left now → position_of now ≤ length history
within images history (hello_at place body) left comes = comes
within images history (event_at place service name body) left comes = comes
within images history (progress_at place body) left comes = comes.0
within images history (final_at place through body) left comes = comes.0
within images history (unknown_at place through) left comes = comes.0

come_first : (images : List Image) (history : List Input) (front more : List Told) (asked : List ReadCommand) → Come images history asked (front ++ more) → Come images history asked front
come_first images history [] more asked come = tt
come_first images history (now ∷ front) more asked come = (come.0, come_first images history front more _ come.1)

true_now : (images : List Image) (history : List Input) (k : ℕ) (all : List Asked) (front more : List Told) (now : Told) → IsLegal images history
    → AllByRecursion (IsFound all) all → IsFront (executed_on k history) (map read_as all) → Come images history (executed_on k history) (sent images k history)
    → position_of now ≤ length history → sent images k history ≡ front ++ now ∷ more
    → AreTrueAt images history (mark_of (spoken all front ++ one_told (left_behind front all) now ∷ [])) (learned (lessons all (spoken all front ++ one_told (left_behind front all) now ∷ [])))
true_now images history k all front more now legal found asked come bound split =
    let executed = executed_on k history in
    let left = left_behind front all in
    let mark : mark_of (spoken all front ++ one_told left now ∷ []) ≡ Some (position_of now) =
    mark_pushed (spoken all front) (one_told left now) _ ∙ marked left now (mark_of (spoken all front)) ∙ ap (λ n. Some n) (place_is now) in
    let whole : sent images k history ≡ (front ++ now ∷ []) ++ more = split ∙ sym (append_assoc front (now ∷ []) more) in
    let here : Come images history executed (front ++ now ∷ []) = come_first images history (front ++ now ∷ []) more executed (subst (Come images history executed) whole come) in
    let known : learned (lessons all (spoken all front ++ one_told left now ∷ [])) ≡ learned (taught executed (front ++ now ∷ [])) =
    ap (λ l. learned (lessons all l)) (sym (spoken_push front now all)) ∙ learned_same images history all (front ++ now ∷ []) all executed nothing found asked here in
    subst₂ (AreTrueAt images history) (sym mark) (sym known) (bound, λ typed. told_is_true images history legal typed k front more now split)

-- ---- all of it

rightly : (images : List Image) (history : List Input) (k : ℕ) (all : List Asked) (front more : List Told) (now : Told)
    → IsLegal images history → AreApart all → IsFront (executed_on k history) (map read_as all) → sent images k history ≡ front ++ now ∷ more
    → told.IsToldRightly images history all (spoken all front) (one_told (left_behind front all) now)
rightly images history k all front more now legal apart asked split =
    let come : Come images history (executed_on k history) (sent images k history) = sent_comes images history k legal in
    let to : ComeTo images history all (front ++ now ∷ more) =
    subst (ComeTo images history all) split (come_to images history (sent images k history) (executed_on k history) all asked come) in
    let here : ComesTo images history (left_behind front all) now = come_at images history front more now all to in
    let r : Reached all front = reached images history front all apart (come_front images history front (now ∷ more) all to) in
    let found : AllByRecursion (IsFound all) all = found_all all apart in
    let left : AllByRecursion (IsFound all) (left_behind front all) =
    all_back (IsFound all) r.done (left_behind front all) (subst (AllByRecursion (IsFound all)) (sym r.split) found) in
    record {
      owed = owed_now images history all (spoken all front) now (left_behind front all) here left r.waiting;
      placed = placed images history k front more now all (beginning images history k legal) split;
      true =
          true_now images history k all front more now legal found asked come
          (within images history now (left_behind front all) here) split;
      answered = answered_now images history all r.done (spoken all front) now (left_behind front all) apart r.split here left r.ended;
    }

pub told_rightly : TargetTellsRightly
told_rightly images history k commands legal few asked before rest s split =
    let all = numbered 1 commands in
    let counted : 1 + length commands ≤ 10 ^ 64 = omega arith in
    let front : IsFront (executed_on k history) (map read_as all) = subst (IsFront (executed_on k history)) (sym (read_numbered 1 commands)) asked in
    let c : Cut all (sent images k history) before s = cut (sent images k history) all before rest s split in
    subst₂ (told.IsToldRightly images history all) (sym c.first) (sym c.is)
    (rightly images history k all c.front c.more c.now legal (numbered_apart 1 commands counted) front c.split)
