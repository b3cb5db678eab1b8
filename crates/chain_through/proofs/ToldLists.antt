-- What is told rightly to one who sent some commands: fronts of it are, and so is all of it where more commands were sent.
use Rattle.std.proofs.Common.{◌≡◌, ℕ, ◌+◌, ◌^◌, ◌<◌, Bool, List, [], ◌∷◌, ◌++◌, length, Option, Some, None, refl, sym, ap, ◌∙◌, subst, arith, append_assoc, append-nil, length-append}
use Rattle.std.specs.Prelude.{option_and_then}
use Rattle.std.specs.List.{AllByRecursion}
use Rattle.channel_core.specs.Arrivals.{Spoken}
use Rattle.knowledge.specs.Learning.{learned}
use Rattle.target_contexts.specs.declared.process.Image.{Image}
use Rattle.target_hub.specs.declared.input.Input.{Input}
use Rattle.tcf_message.specs.Message.{MessageValue, command, event, final, flow, not_known, progress}
use Rattle.value_node.specs.Asked.{Asked}
use Rattle.value_node.specs.Deeds.{command_asked}
use Rattle.value_node.specs.Store.{lesson_of}
use Rattle.chain_told.specs.Told.{AnswersRightly, AreEndedBefore, AreToldRightly, AreTrueAt, ComesInTurn, IsAnswered, IsOpen, IsOwed, bars, command_under, goes_through, lesson, lessons, mark_of, numbered}
use Rattle.chain_through.proofs.Found.{found_more, found_number, found_token, place_of, split_within}
use Rattle.chain_told.proofs.Numbered.{length_numbered, numbered_append}
use Rattle.list_laws.specs.Fronts.{IsFront}

-- ---- Fronts

pub told_front : (images : List Image) (history : List Input) (commands : List Asked) (heard all : List Spoken) → IsFront heard all → AreToldRightly images history commands all
    → AreToldRightly images history commands heard
told_front images history commands heard all p each before rest s is =
    each before (rest ++ p.0) s (p.1 ∙ ap (λ l. l ++ p.0) is ∙ append_assoc before (s ∷ rest) p.0)

-- what is learned of all messages is true at the last position
true_from : (images : List Image) (history : List Input) (commands : List Asked) (before rest all : List Spoken) → all ≡ before ++ rest → AreToldRightly images history commands all
    → AreTrueAt images history (mark_of before) (learned (lessons commands before)) → AreTrueAt images history (mark_of all) (learned (lessons commands all))
true_from images history commands before [] all is each here =
    subst (λ l. AreTrueAt images history (mark_of l) (learned (lessons commands l))) (sym (is ∙ append-nil before)) here
true_from images history commands before (s ∷ rest) all is each here =
    true_from images history commands (before ++ s ∷ []) rest all (is ∙ sym (append_assoc before (s ∷ []) rest)) each (each before rest s is).true

pub all_true : (images : List Image) (history : List Input) (commands : List Asked) (told : List Spoken) → AreToldRightly images history commands told
    → AreTrueAt images history (mark_of told) (learned (lessons commands told))
all_true images history commands told each = true_from images history commands [] told told refl each (λ fact known. known)

-- ---- Each answer is one to a command that is found

abbrev pub IsFound : List Asked → MessageValue → Type 0
IsFound commands (command token service name body) = ⊥
IsFound commands (final token body) = (c : Asked) × (command_under token commands ≡ Some c)
IsFound commands (progress token body) = (c : Asked) × (command_under token commands ≡ Some c)
IsFound commands (not_known token) = (c : Asked) × (command_under token commands ≡ Some c)
IsFound commands (event service name body) = Unit {0}
IsFound commands (flow level) = ⊥

abbrev pub AreFound : List Asked → List Spoken → Type 0
AreFound commands told = AllByRecursion (λ s. IsFound commands s.message) told

owed_found : (commands : List Asked) (before : List Spoken) (m : MessageValue) → IsOwed commands before m → IsFound commands m
owed_found commands before (command token service name body) owed = absurd owed
owed_found commands before (final token body) owed = (owed.command, owed.sent)
owed_found commands before (progress token body) owed = (owed.command, owed.sent)
owed_found commands before (not_known token) owed = (owed.command, owed.sent)
owed_found commands before (event service name body) owed = tt
owed_found commands before (flow level) owed = absurd owed

found_from : (images : List Image) (history : List Input) (commands : List Asked) (before rest all : List Spoken) → all ≡ before ++ rest → AreToldRightly images history commands all → AreFound commands rest
found_from images history commands before [] all is each = tt
found_from images history commands before (s ∷ rest) all is each = (
  owed_found commands before s.message (each before rest s is).owed,
  found_from images history commands (before ++ s ∷ []) rest all (is ∙ sym (append_assoc before (s ∷ []) rest)) each,
)

pub all_found : (images : List Image) (history : List Input) (commands : List Asked) (told : List Spoken) → AreToldRightly images history commands told → AreFound commands told
all_found images history commands told each = found_from images history commands [] told told refl each

-- ---- What more commands leave as it is

lesson_more : (commands more : List Asked) (m : MessageValue) → IsFound commands m → lesson (commands ++ more) m ≡ lesson commands m
lesson_more commands more (command token service name body) found = refl
lesson_more commands more (final token body) found =
    ap (λ c. lesson_of (option_and_then command_asked c) body ∷ []) (found_more token commands more found.0 found.1 ∙ sym found.1)
lesson_more commands more (progress token body) found = refl
lesson_more commands more (not_known token) found = refl
lesson_more commands more (event service name body) found = refl
lesson_more commands more (flow level) found = refl

pub lessons_more : (commands more : List Asked) (told : List Spoken) → AreFound commands told → lessons (commands ++ more) told ≡ lessons commands told
lessons_more commands more [] found = refl
lessons_more commands more (s ∷ told) found =
    ap (λ l. l ++ lessons (commands ++ more) told) (lesson_more commands more s.message found.0) ∙ ap (λ l. lesson commands s.message ++ l) (lessons_more commands more told found.1)

owed_more : (commands more : List Asked) (before : List Spoken) (m : MessageValue) → IsOwed commands before m → IsOwed (commands ++ more) before m
owed_more commands more before (command token service name body) owed = owed
owed_more commands more before (final token body) owed = record { command = owed.command; sent = found_more token commands more owed.command owed.sent; unanswered = owed.unanswered }
owed_more commands more before (progress token body) owed = record { command = owed.command; sent = found_more token commands more owed.command owed.sent; unanswered = owed.unanswered }
owed_more commands more before (not_known token) owed = record { command = owed.command; sent = found_more token commands more owed.command owed.sent; unanswered = owed.unanswered }
owed_more commands more before (event service name body) owed = owed
owed_more commands more before (flow level) owed = owed

-- ---- More commands: each token is that of one of the first ones

module _ (images : List Image) (history : List Input) (commands more : List Asked) (few : length (commands ++ more) < 10 ^ 64) where
  abbrev few_sent : List Asked
  few_sent = numbered 1 commands

  abbrev all_sent : List Asked
  all_sent = numbered 1 (commands ++ more)

  abbrev others : List Asked
  others = numbered (1 + length commands) more

  parts : all_sent ≡ few_sent ++ others
  parts = numbered_append 1 commands more

  ended_more : (kind : Asked → Bool) (before : List Spoken) (token : List ℕ) (c : Asked) → command_under token few_sent ≡ Some c → AreEndedBefore kind few_sent before c.token → AreEndedBefore kind all_sent before c.token
  ended_more kind before token c found ended earlier later d other is same among kind_is =
      let n = found_number 1 token commands c found in
      let long : length (commands ++ more) ≡ length commands + length more = length-append commands more in
      let below : n.number < 1 + length commands = n.below in
      let small : n.number < 10 ^ 64 = omega arith in
      let place : 1 + length earlier ≡ n.number = place_of n.number (commands ++ more) earlier later d few small is (same ∙ sym (found_token token few_sent c found) ∙ n.is) in
      let many : length few_sent ≡ length commands = length_numbered 1 commands in
      let inside : length earlier < length few_sent = omega arith in
      let here = split_within few_sent others earlier d later (sym parts ∙ is) inside in
      ended earlier here.0 d other here.1 same among kind_is

  answered_by : (before : List Spoken) (token : List ℕ) (c : Asked) → command_under token few_sent ≡ Some c → ComesInTurn few_sent before c → ComesInTurn all_sent before c
  answered_by before token c found turn through = ended_more goes_through before token c found (turn through)

  rightly_more : (before : List Spoken) (token : List ℕ) (c : Asked) (position : ℕ) (body : List ℕ) → command_under token few_sent ≡ Some c
      → AnswersRightly images history few_sent before c position body → AnswersRightly images history all_sent before c position body
  rightly_more before token c position body found rightly asked is storable =
      let f = rightly asked is storable in
      record { same = f.same; settled = ended_more bars before token c found f.settled }

  -- the one that is found among all is found among the few
  found_few : (token : List ℕ) (c d : Asked) → command_under token few_sent ≡ Some c → command_under token all_sent ≡ Some d → command_under token few_sent ≡ Some d
  found_few token c d found is =
      let all : command_under token all_sent ≡ Some c = ap (command_under token) parts ∙ found_more token few_sent others c found in
      found ∙ sym all ∙ is

  final_more : (before : List Spoken) (token body : List ℕ) (position : ℕ) → IsOpen few_sent before token → IsAnswered images history few_sent before (final token body) (Some position)
      → IsAnswered images history all_sent before (final token body) (Some position)
  final_more before token body position owed answered c is =
      let found = found_few token owed.command c owed.sent is in
      let a = answered c found in
      (answered_by before token c found a.0, rightly_more before token c position body found a.1)

  unknown_more : (before : List Spoken) (token : List ℕ) (position : ℕ) → IsOpen few_sent before token → IsAnswered images history few_sent before (not_known token) (Some position)
      → IsAnswered images history all_sent before (not_known token) (Some position)
  unknown_more before token position owed answered c is =
      let found = found_few token owed.command c owed.sent is in
      let a = answered c found in
      (answered_by before token c found a.0, a.1)

  answered_more : (before : List Spoken) (m : MessageValue) (mark : Option ℕ) → IsOwed few_sent before m → IsAnswered images history few_sent before m mark → IsAnswered images history all_sent before m mark
  answered_more before (final token body) (Some position) owed answered = final_more before token body position owed answered
  answered_more before (not_known token) (Some position) owed answered = unknown_more before token position owed answered
  answered_more before (final token body) None owed answered = tt
  answered_more before (not_known token) None owed answered = tt
  answered_more before (command token service name body) mark owed answered = tt
  answered_more before (progress token body) mark owed answered = tt
  answered_more before (event service name body) mark owed answered = tt
  answered_more before (flow level) mark owed answered = tt

  pub told_more : (told : List Spoken) → AreToldRightly images history few_sent told → AreToldRightly images history all_sent told
  told_more told each before rest s is =
      let one = each before rest s is in
      let first : IsFront (before ++ s ∷ []) told = (rest, is ∙ sym (append_assoc before (s ∷ []) rest)) in
      let found = all_found images history few_sent (before ++ s ∷ []) (told_front images history few_sent (before ++ s ∷ []) told first each) in
      let same : lessons all_sent (before ++ s ∷ []) ≡ lessons few_sent (before ++ s ∷ []) =
      ap (λ cs. lessons cs (before ++ s ∷ [])) parts ∙ lessons_more few_sent others (before ++ s ∷ []) found in
      record {
        owed = subst (λ cs. IsOwed cs before s.message) (sym parts) (owed_more few_sent others before s.message one.owed);
        placed = one.placed;
        true = subst (λ ls. AreTrueAt images history (mark_of (before ++ s ∷ [])) (learned ls)) (sym same) one.true;
        answered = answered_more before s.message s.mark one.owed one.answered;
      }
