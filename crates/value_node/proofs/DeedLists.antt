-- Deeds, one list behind another: what they ask, send, say and teach.
use Rattle.std.proofs.Common.{◌≡◌, ℕ, List, [], ◌∷◌, ◌++◌, Option, None, refl, ap, sym, ◌∙◌, subst}
use Rattle.std.specs.List.{AllByRecursion, flat_map}
use Rattle.std.proofs.lemmas.List.{append-nil, append_assoc}
use Rattle.std.proofs.lemmas.List.Concat.{flat_map-append}
use Rattle.channel_core.specs.Wire.{said}
use Rattle.channel_core.specs.declared.held.Incoming.{Incoming}
use Rattle.tcf_message.specs.Message.{final, reading}
use Rattle.value_node.specs.Asked.{Asked}
use Rattle.value_node.specs.Deeds.{Deed, answers, asked_by, asked_in, forwards, heard_by, heard_in, hears, lessons_from, lessons_in, mark_by, mark_in, mark_of, sent_by, sent_in, taught_in}
use Rattle.value_node.specs.RelayLaws.{IsAnsweredRightly, IsOfItsCommand, passed_by, told_from as told}

-- ---- one list behind another

pub sent_both : (xs ys : List Deed) → sent_in (xs ++ ys) ≡ sent_in xs ++ sent_in ys
sent_both xs ys = flat_map-append sent_by xs ys

pub asked_both : (xs ys : List Deed) → asked_in (xs ++ ys) ≡ asked_in xs ++ asked_in ys
asked_both xs ys = flat_map-append asked_by xs ys

pub heard_both : (xs ys : List Deed) → heard_in (xs ++ ys) ≡ heard_in xs ++ heard_in ys
heard_both xs ys = flat_map-append heard_by xs ys

told_after : (commands : List Asked) (xs ys : List Deed) → told commands (xs ++ ys) ≡ told commands xs ++ told (commands ++ sent_in xs) ys
told_after commands [] ys = ap (λ cs. told cs ys) (sym (append-nil commands))
told_after commands (forwards c ∷ xs) ys =
    told_after (commands ++ c ∷ []) xs ys ∙ ap (λ cs. told (commands ++ c ∷ []) xs ++ told cs ys) (append_assoc commands (c ∷ []) (sent_in xs))
told_after commands (answers c reply mark ∷ xs) ys = ap (λ os. said (final c.token reply) mark ∷ os) (told_after commands xs ys)
told_after commands (hears incoming ∷ xs) ys =
    ap (λ os. passed_by commands incoming ++ os) (told_after commands xs ys)
    ∙ sym (append_assoc (passed_by commands incoming) (told commands xs) (told (commands ++ sent_in xs) ys))

pub told_both : (xs ys : List Deed) → told [] (xs ++ ys) ≡ told [] xs ++ told (sent_in xs) ys
told_both xs ys = told_after [] xs ys

lessons_after : (commands : List Asked) (xs ys : List Deed) → lessons_from commands (xs ++ ys) ≡ lessons_from commands xs ++ lessons_from (commands ++ sent_in xs) ys
lessons_after commands [] ys = ap (λ cs. lessons_from cs ys) (sym (append-nil commands))
lessons_after commands (forwards c ∷ xs) ys =
    lessons_after (commands ++ c ∷ []) xs ys ∙ ap (λ cs. lessons_from (commands ++ c ∷ []) xs ++ lessons_from cs ys) (append_assoc commands (c ∷ []) (sent_in xs))
lessons_after commands (answers c reply mark ∷ xs) ys = lessons_after commands xs ys
lessons_after commands (hears incoming ∷ xs) ys =
    ap (λ ms. taught_in commands (reading incoming.raw) ++ ms) (lessons_after commands xs ys)
    ∙ sym (append_assoc (taught_in commands (reading incoming.raw)) (lessons_from commands xs) (lessons_from (commands ++ sent_in xs) ys))

pub lessons_both : (xs ys : List Deed) → lessons_in (xs ++ ys) ≡ lessons_in xs ++ lessons_from (sent_in xs) ys
lessons_both xs ys = lessons_after [] xs ys

mark_after_both : (xs ys : List Incoming) (before : Option ℕ) → mark_of (xs ++ ys) before ≡ mark_of ys (mark_of xs before)
mark_after_both [] ys before = refl
mark_after_both (incoming ∷ xs) ys before = mark_after_both xs ys (mark_by incoming before)

pub mark_both : (xs ys : List Deed) → mark_in (xs ++ ys) ≡ mark_of (heard_in ys) (mark_in xs)
mark_both xs ys = ap (λ (is : List Incoming). mark_of is None) (heard_both xs ys) ∙ mark_after_both (heard_in xs) (heard_in ys) None

-- ---- what holds of the commands that were asked holds of those that were sent

pub all_sent : (P : Asked → Type 0) (deeds : List Deed) → AllByRecursion P (asked_in deeds) → AllByRecursion P (sent_in deeds)
all_sent P [] all = tt
all_sent P (forwards c ∷ deeds) all = (all.0, all_sent P deeds all.1)
all_sent P (answers c reply mark ∷ deeds) all = all_sent P deeds all.1
all_sent P (hears incoming ∷ deeds) all = all_sent P deeds all

-- ---- messages that were heard

abbrev pub all_heard : List Incoming → List Deed
all_heard messages = flat_map (λ incoming. hears incoming ∷ []) messages

pub heard_sends : (messages : List Incoming) → sent_in (all_heard messages) ≡ []
heard_sends [] = refl
heard_sends (incoming ∷ messages) = heard_sends messages

pub heard_asks : (messages : List Incoming) → asked_in (all_heard messages) ≡ []
heard_asks [] = refl
heard_asks (incoming ∷ messages) = heard_asks messages

pub heard_hears : (messages : List Incoming) → heard_in (all_heard messages) ≡ messages
heard_hears [] = refl
heard_hears (incoming ∷ messages) = ap (λ is. incoming ∷ is) (heard_hears messages)

pub heard_tells : (commands : List Asked) (messages : List Incoming) → told commands (all_heard messages) ≡ flat_map (passed_by commands) messages
heard_tells commands [] = refl
heard_tells commands (incoming ∷ messages) = ap (λ os. passed_by commands incoming ++ os) (heard_tells commands messages)

-- ---- each deed is right, behind those before it

abbrev pub IsRight : List Deed → Deed → Type 0
IsRight before (forwards c) = Unit {0}
IsRight before (answers c reply mark) = IsAnsweredRightly before c reply mark
IsRight before (hears incoming) = IsOfItsCommand before (reading incoming.raw)

abbrev pub AreRight : List Deed → List Deed → Type 0
AreRight before [] = Unit {0}
AreRight before (deed ∷ deeds) = IsRight before deed × AreRight (before ++ deed ∷ []) deeds

right_after : (before xs ys : List Deed) → AreRight before xs → AreRight (before ++ xs) ys → AreRight before (xs ++ ys)
right_after before [] ys first second = subst (λ deeds. AreRight deeds ys) (append-nil before) second
right_after before (deed ∷ xs) ys first second =
    (first.0, right_after (before ++ deed ∷ []) xs ys first.1 (subst (λ deeds. AreRight deeds ys) (sym (append_assoc before (deed ∷ []) xs)) second))

pub right_both : (xs ys : List Deed) → AreRight [] xs → AreRight xs ys → AreRight [] (xs ++ ys)
right_both xs ys first second = right_after [] xs ys first second

right_within : (front before rest : List Deed) (deed : Deed) → AreRight front (before ++ deed ∷ rest) → IsRight (front ++ before) deed
right_within front [] rest deed all = subst (λ deeds. IsRight deeds deed) (sym (append-nil front)) all.0
right_within front (first ∷ before) rest deed all =
    subst (λ deeds. IsRight deeds deed) (append_assoc front (first ∷ []) before) (right_within (front ++ first ∷ []) before rest deed all.1)

pub right_at : (deeds before rest : List Deed) (deed : Deed) → AreRight [] deeds → deeds ≡ before ++ deed ∷ rest → IsRight before deed
right_at deeds before rest deed all whole = right_within [] before rest deed (subst (AreRight []) whole all)
