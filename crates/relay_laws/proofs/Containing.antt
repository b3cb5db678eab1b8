-- At each moment of a relay's traffic what has been passed on teaches below a part of what it taught the relay.
use Rattle.std.proofs.Common.{◌≡◌, ℕ, zero, suc, ⊎_elim, true, List, [], ◌∷◌, ◌++◌, length, map, take, slice_get, Option, Some, None, is_some, refl, sym, ap, ap₂, ◌∙◌, subst, append_assoc, append-nil}
use Rattle.std.specs.Prelude.{option_and_then}
use Rattle.std.specs.List.{AllByRecursion, Contains, flat_map}
use Rattle.std.proofs.lemmas.List.{map-append}
use Rattle.std.proofs.lemmas.List.Concat.{flat_map-append}
use Rattle.channel_core.specs.Arrivals.{Spoken}
use Rattle.knowledge.specs.Facts.{IsPart, Knows}
use Rattle.knowledge.specs.Learning.{learned}
use Rattle.tcf_message.specs.Message.{MessageValue, command, event, final, flow, not_known, progress}
use Rattle.value_node.specs.Asked.{Asked}
use Rattle.value_node.specs.Deeds.{command_asked}
use Rattle.value_node.specs.Store.{lesson_of}
use Rattle.chain_told.specs.Told.{command_under, lesson, lessons}
use Rattle.relay_laws.specs.Relay.{ArePassedAs, Crossing, ForwardsInOrder, HaveOwnTokens, IsCommandOf, IsPassedAs, IsRelay, IsUnder, PassesAllOn, answers, asked_by, asked_in, asks, bare, ends, facts_told, forwarded_by, forwarded_in, forwards, heard_by, heard_in, hears, passed_by, passed_in, passes, sent_in, taught_below, tells, told_by, told_in}
use Rattle.relay_laws.specs.Contained.{IsContained, KeepsContainment}
use Rattle.relay_laws.proofs.Standing.{Stands, TeachAlike, stands_answered, stands_asked, stands_passed, stands_sent}
use Rattle.relay_laws.proofs.Tokens.{IsFound, own_under, tokens_front}
use Rattle.list_laws.proofs.AllLists.{all_contains}
use Rattle.list_laws.proofs.Contained.{contains_cases, none_in}
use Rattle.list_laws.proofs.Lists.{take_front}

-- ---- One crossing more

more_by : {A : Type 0} → (f : Crossing → List A) (done : List Crossing) (one : Crossing) → flat_map f (done ++ one ∷ []) ≡ flat_map f done ++ f one
more_by f done one = flat_map-append f done (one ∷ []) ∙ ap (λ xs. flat_map f done ++ xs) (append-nil (f one))

same_by : {A : Type 0} → (f : Crossing → List A) (done : List Crossing) (one : Crossing) → f one ≡ [] → flat_map f (done ++ one ∷ []) ≡ flat_map f done
same_by f done one none = more_by f done one ∙ ap (λ xs. flat_map f done ++ xs) none ∙ append-nil (flat_map f done)

sent_more : (done : List Crossing) (number : ℕ) (c : Asked) → sent_in (done ++ forwards number c ∷ []) ≡ sent_in done ++ c ∷ []
sent_more done number c = ap (map (λ row. row.1)) (more_by forwarded_by done (forwards number c)) ∙ map-append (λ row. row.1) (forwarded_in done) ((number, c) ∷ [])

sent_same : (done : List Crossing) (one : Crossing) → forwarded_by one ≡ [] → sent_in (done ++ one ∷ []) ≡ sent_in done
sent_same done one none = ap (map (λ row. row.1)) (same_by forwarded_by done one none)

-- ---- Messages that are passed on

as_many : (done : List Crossing) (above below : List Spoken) → ArePassedAs done above below → length above ≡ length below
as_many done [] [] are = refl
as_many done [] (s ∷ below) are = absurd are
as_many done (h ∷ above) [] are = absurd are
as_many done (h ∷ above) (s ∷ below) are = ap suc (as_many done above below are.2)

pub record IsLast (done : List Crossing) (above below : List Spoken) (s : Spoken) : Type 0 where
  pub front : List Spoken
  pub last : Spoken
  pub are : above ≡ front ++ last ∷ []
  pub many : length front ≡ length below
  pub is : IsPassedAs done last.message s.message

last_of : (done : List Crossing) (above below : List Spoken) (s : Spoken) → ArePassedAs done above (below ++ s ∷ []) → IsLast done above below s
last_of done [] [] s are = absurd are
last_of done [] (t ∷ below) s are = absurd are
last_of done (h ∷ []) [] s are = record { front = []; last = h; are = refl; many = refl; is = are.0 }
last_of done (h ∷ g ∷ above) [] s are = absurd are.2
last_of done (h ∷ above) (t ∷ below) s are =
    let rest = last_of done above below s are.2 in
    record { front = h ∷ rest.front; last = rest.last; are = ap (λ xs. h ∷ xs) rest.are; many = ap suc rest.many; is = rest.is }

-- ---- A message and what it is passed on as teach the same

contains_mapped : (rows : List (ℕ × Asked)) (row : ℕ × Asked) → Contains rows row → (k : ℕ) × (slice_get (map (λ r. r.1) rows) k ≡ Some row.1)
contains_mapped [] row there = absurd (none_in row there)
contains_mapped (r ∷ rows) row there = ⊎_elim
    (λ one. (zero, ap (λ (x : ℕ × Asked). Some x.1) one))
    (λ rest. let found = contains_mapped rows row rest in (suc found.0, found.1))
    (contains_cases r rows row there)

same_command : (c d : Asked) → bare c ≡ bare d → command_asked c ≡ command_asked d
same_command c d same = ap (λ (x : Asked). command_asked x) same

one_of : {A : Type 0} → (o : Option A) (x y : A) → o ≡ Some x → o ≡ Some y → x ≡ y
one_of None x y one other = absurd cc
one_of (Some z) x y one other = let first : z ≡ x = cc in let second : z ≡ y = cc in sym first ∙ second

-- its command, on both sides
pub record IsKnownBoth (done : List Crossing) (token : List ℕ) (c : Asked) : Type 0 where
  pub below : command_under c.token (asked_in done) ≡ Some c
  pub above : Asked
  pub found : command_under token (sent_in done) ≡ Some above
  pub same : command_asked above ≡ command_asked c

known_both : (done : List Crossing) (token : List ℕ) (c : Asked) → ForwardsInOrder done → HaveOwnTokens (asked_in done) → IsUnder done token c → IsKnownBoth done token c
known_both done token c order own under =
    let its = all_contains (IsCommandOf (asked_in done)) (forwarded_in done) (under.number, under.above) order.own under.sent in
    let one : its.0 ≡ c = one_of (slice_get (asked_in done) under.number) its.0 c its.1 under.asked in
    let place = contains_mapped (forwarded_in done) (under.number, under.above) under.sent in
    record {
      below = own_under (asked_in done) under.number c own under.asked;
      above = under.above;
      found = ap (λ t. command_under t (sent_in done)) (sym under.under) ∙ own_under (sent_in done) place.0 under.above order.tokens place.1;
      same = same_command under.above its.0 its.2 ∙ ap (λ (x : Asked). command_asked x) one;
    }

teach_alike : (done : List Crossing) (h s : Spoken) (message : MessageValue) → h.message ≡ message → ForwardsInOrder done → HaveOwnTokens (asked_in done)
    → IsPassedAs done message s.message → TeachAlike (asked_in done) (sent_in done) h s
teach_alike done h s (command token service name body) heard order own is = absurd is
teach_alike done h s (final token body) heard order own is =
    let k = known_both done token is.0 order own is.1 in
    record {
      alike = ap (lesson (asked_in done)) is.2 ∙ ap (λ o. lesson_of (option_and_then command_asked o) body ∷ []) k.below
          ∙ ap (λ o. lesson_of o body ∷ []) (sym k.same) ∙ ap (λ o. lesson_of (option_and_then command_asked o) body ∷ []) (sym k.found)
          ∙ ap (lesson (sent_in done)) (sym heard);
      below = subst (IsFound (asked_in done)) (sym is.2) (ap is_some k.below);
      above = subst (IsFound (sent_in done)) (sym heard) (ap is_some k.found);
    }
teach_alike done h s (progress token body) heard order own is = record {
  alike = ap (lesson (asked_in done)) is.2 ∙ ap (lesson (sent_in done)) (sym heard);
  below = subst (IsFound (asked_in done)) (sym is.2) tt;
  above = subst (IsFound (sent_in done)) (sym heard) tt;
}
teach_alike done h s (not_known token) heard order own is = record {
  alike = ap (lesson (asked_in done)) is.2 ∙ ap (lesson (sent_in done)) (sym heard);
  below = subst (IsFound (asked_in done)) (sym is.2) tt;
  above = subst (IsFound (sent_in done)) (sym heard) tt;
}
teach_alike done h s (event service name body) heard order own is = record {
  alike = ap (lesson (asked_in done)) is ∙ ap (lesson (sent_in done)) (sym heard);
  below = subst (IsFound (asked_in done)) (sym is) tt;
  above = subst (IsFound (sent_in done)) (sym heard) tt;
}
teach_alike done h s (flow level) heard order own is = absurd is

-- ---- What stands at a moment

-- those that were taken from above and passed on
abbrev pub due : List Crossing → List Spoken
due done = take (length (passed_in done)) (heard_in done)

abbrev pub StandsAt : List Crossing → Type 0
StandsAt done = Stands (asked_in done) (told_in done) (sent_in done) (due done)

take_whole : (xs : List Spoken) (n : ℕ) → length xs ≡ n → take n xs ≡ xs
take_whole xs n many = ap (take n) (sym (append-nil xs)) ∙ take_front xs [] n (sym many)

all_due : (done : List Crossing) → PassesAllOn done → due done ≡ heard_in done
all_due done all = take_whole (heard_in done) (length (passed_in done)) (as_many done (heard_in done) (passed_in done) all)

moved : (asked asked' : List Asked) (told told' : List Spoken) (sent sent' : List Asked) (h h' : List Spoken) → asked' ≡ asked → told' ≡ told → sent' ≡ sent → h' ≡ h
    → Stands asked told sent h → Stands asked' told' sent' h'
moved asked asked' told told' sent sent' h h' one two three four st =
    subst (λ xs. Stands xs told' sent' h') (sym one) (subst (λ xs. Stands asked xs sent' h') (sym two)
    (subst (λ xs. Stands asked told xs h') (sym three) (subst (λ xs. Stands asked told sent xs) (sym four) st)))

due_same : (done : List Crossing) (one : Crossing) → passed_by one ≡ [] → heard_by one ≡ [] → due (done ++ one ∷ []) ≡ due done
due_same done one passed heard = ap₂ (λ (xs ys : List Spoken). take (length xs) ys) (same_by passed_by done one passed) (same_by heard_by done one heard)

module _ (traffic : List Crossing) (relay : IsRelay traffic) (own : HaveOwnTokens (asked_in traffic)) where
  own_by : (done rest : List Crossing) → traffic ≡ done ++ rest → HaveOwnTokens (asked_in done)
  own_by done rest whole =
      tokens_front (asked_in done) (asked_in rest) (subst HaveOwnTokens (ap asked_in whole ∙ flat_map-append asked_by done rest) own)

  next_whole : (done rest : List Crossing) (one : Crossing) → traffic ≡ done ++ one ∷ rest → traffic ≡ (done ++ one ∷ []) ++ rest
  next_whole done rest one whole = whole ∙ sym (append_assoc done (one ∷ []) rest)

  passed_on : (done rest : List Crossing) (s : Spoken) → traffic ≡ done ++ passes s ∷ rest → StandsAt done → StandsAt (done ++ passes s ∷ [])
  passed_on done rest s whole st =
      let next = done ++ passes s ∷ [] in
      let all : PassesAllOn next = relay.passes_now done rest (passes s) whole refl in
      let told_more : told_in next ≡ told_in done ++ s ∷ [] = more_by told_by done (passes s) in
      let passed_more : passed_in next ≡ passed_in done ++ s ∷ [] = more_by passed_by done (passes s) in
      let l = last_of next (heard_in next) (passed_in done) s (subst (ArePassedAs next (heard_in next)) passed_more all) in
      let heard_are : heard_in done ≡ l.front ++ l.last ∷ [] = sym (same_by heard_by done (passes s) refl) ∙ l.are in
      let before : due done ≡ l.front = ap (take (length (passed_in done))) heard_are ∙ take_front l.front (l.last ∷ []) (length (passed_in done)) (sym l.many) in
      let after : due next ≡ l.front ++ l.last ∷ [] = all_due next all ∙ l.are in
      let order = relay.forwards_in_order next rest (next_whole done rest (passes s) whole) in
      let teach = teach_alike next l.last s l.last.message refl order (own_by next rest (next_whole done rest (passes s) whole)) l.is in
      let here : Stands (asked_in next) (told_in done) (sent_in next) l.front =
      moved (asked_in done) (asked_in next) (told_in done) (told_in done) (sent_in done) (sent_in next) (due done) l.front
      (same_by asked_by done (passes s) refl) refl (sent_same done (passes s) refl) (sym before) st in
      let there = stands_passed (asked_in next) (told_in done) (sent_in next) l.front l.last s teach here in
      moved (asked_in next) (asked_in next) (told_in done ++ s ∷ []) (told_in next) (sent_in next) (sent_in next) (l.front ++ l.last ∷ []) (due next) refl told_more refl after there

  answered_on : (done rest : List Crossing) (number : ℕ) (s : Spoken) → traffic ≡ done ++ answers number s ∷ rest → StandsAt done → StandsAt (done ++ answers number s ∷ [])
  answered_on done rest number s whole st =
      let one = answers number s in
      let next = done ++ one ∷ [] in
      let a = relay.answers_rightly done rest number s whole in
      let all : PassesAllOn next = relay.passes_now done rest one whole refl in
      let same : due next ≡ due done = due_same done one refl refl in
      let is_all : due done ≡ heard_in done = sym same ∙ all_due next all ∙ same_by heard_by done one refl in
      let known_below : command_under a.command.token (asked_in done) ≡ Some a.command = own_under (asked_in done) number a.command (own_by done (one ∷ rest) whole) a.asked in
      let teaches : lesson (asked_in done) s.message ≡ lesson_of (command_asked a.command) a.body ∷ [] =
      ap (lesson (asked_in done)) a.answer ∙ ap (λ o. lesson_of (option_and_then command_asked o) a.body ∷ []) known_below in
      let there = stands_answered (asked_in done) (told_in done) (sent_in done) (due done) s (command_asked a.command) a.body teaches
      (subst (IsFound (asked_in done)) (sym a.answer) (ap is_some known_below))
      (subst (λ xs. AllByRecursion (λ fact. Knows (learned (lessons (sent_in done) xs)) fact) (facts_told (lesson_of (command_asked a.command) a.body))) (sym is_all) a.known) st in
      moved (asked_in done) (asked_in next) (told_in done ++ s ∷ []) (told_in next) (sent_in done) (sent_in next) (due done) (due next)
      (same_by asked_by done one refl) (more_by told_by done one) (sent_same done one refl) same there

  heard_on : (done rest : List Crossing) (h : Spoken) → traffic ≡ done ++ hears h ∷ rest → StandsAt done → StandsAt (done ++ hears h ∷ [])
  heard_on done rest h whole st =
      let one = hears h in
      let next = done ++ one ∷ [] in
      let all : PassesAllOn done = relay.passes_all done rest one whole refl in
      let many : length (heard_in done) ≡ length (passed_in done) = as_many done (heard_in done) (passed_in done) all in
      let same : due next ≡ due done =
      ap₂ (λ (xs ys : List Spoken). take (length xs) ys) (same_by passed_by done one refl) (more_by heard_by done one)
      ∙ take_front (heard_in done) (h ∷ []) (length (passed_in done)) (sym many) ∙ sym (all_due done all) in
      moved (asked_in done) (asked_in next) (told_in done) (told_in next) (sent_in done) (sent_in next) (due done) (due next)
      (same_by asked_by done one refl) (same_by told_by done one refl) (sent_same done one refl) same st

  step : (done rest : List Crossing) (one : Crossing) → traffic ≡ done ++ one ∷ rest → StandsAt done → StandsAt (done ++ one ∷ [])
  step done rest (asks c) whole st =
      let next = done ++ asks c ∷ [] in
      moved (asked_in done ++ c ∷ []) (asked_in next) (told_in done) (told_in next) (sent_in done) (sent_in next) (due done) (due next)
      (more_by asked_by done (asks c)) (same_by told_by done (asks c) refl) (sent_same done (asks c) refl) (due_same done (asks c) refl refl)
      (stands_asked (asked_in done) (c ∷ []) (told_in done) (sent_in done) (due done) st)
  step done rest (forwards number c) whole st =
      let one = forwards number c in
      let next = done ++ one ∷ [] in
      moved (asked_in done) (asked_in next) (told_in done) (told_in next) (sent_in done ++ c ∷ []) (sent_in next) (due done) (due next)
      (same_by asked_by done one refl) (same_by told_by done one refl) (sent_more done number c) (due_same done one refl refl)
      (stands_sent (asked_in done) (told_in done) (sent_in done) (c ∷ []) (due done) st)
  step done rest (hears h) whole st = heard_on done rest h whole st
  step done rest (passes s) whole st = passed_on done rest s whole st
  step done rest (answers number s) whole st = answered_on done rest number s whole st
  step done rest ends whole st =
      let next = done ++ ends ∷ [] in
      moved (asked_in done) (asked_in next) (told_in done) (told_in next) (sent_in done) (sent_in next) (due done) (due next)
      (same_by asked_by done ends refl) (same_by told_by done ends refl) (sent_same done ends refl) (due_same done ends refl refl) st

  walk : (before done rest : List Crossing) → traffic ≡ done ++ (before ++ rest) → StandsAt done → StandsAt (done ++ before)
  walk [] done rest whole st = subst StandsAt (sym (append-nil done)) st
  walk (one ∷ before) done rest whole st =
      subst StandsAt (append_assoc done (one ∷ []) before)
      (walk before (done ++ one ∷ []) rest (next_whole done (before ++ rest) one whole) (step done (before ++ rest) one whole st))

  pub stands_at : (done rest : List Crossing) → traffic ≡ done ++ rest → StandsAt done
  stands_at done rest whole = walk done [] rest whole (record { part = λ fact knows. knows; below = tt; above = tt })

  pub contained : (done rest : List Crossing) (last : Crossing) → traffic ≡ done ++ last ∷ rest → tells last ≡ true → IsContained (done ++ last ∷ [])
  contained done rest last whole told =
      let next = done ++ last ∷ [] in
      let st = stands_at next rest (next_whole done rest last whole) in
      subst (λ xs. IsPart (learned (taught_below next)) (learned (lessons (sent_in next) xs))) (all_due next (relay.passes_now done rest last whole told)) st.part

pub keeps_containment : KeepsContainment
keeps_containment traffic relay own done rest last whole told = contained traffic relay own done rest last whole told
