-- Each command that a bound value-add took is answered below, where the answers to those that it sent above were heard.
use Rattle.std.proofs.Common.{◌≡◌, ℕ, suc, ◌+◌, ◌^◌, ◌≤◌, Bool, true, false, ◌&&◌, ◌||◌, List, [], ◌∷◌, ◌++◌, length, Option, Result, Ok, Err, refl, sym, ap, ◌∙◌, subst, arith, append_assoc, append-nil, length-append}
use Rattle.std.specs.Prelude.{bytes_eq, decimal}
use Rattle.std.specs.List.{AllByRecursion, list_any}
use Rattle.std.proofs.lemmas.Bool.{or_right}
use Rattle.std.proofs.lemmas.Fmt.{decimal_injective}
use Rattle.tcf_message.specs.Message.{MessageValue, command, event, final, flow, not_known, progress, reading}
use Rattle.tcf_message.specs.declared.message.MessageFault.{MessageFault}
use Rattle.channel_core.specs.Arrivals.{Spoken}
use Rattle.channel_core.specs.RunLaws.{token_in}
use Rattle.channel_core.specs.Wire.{event_said, hello, locator, said_by, said_of}
use Rattle.channel_laws.specs.Meeting.{answers_among}
use Rattle.channel_laws.specs.Rest.{answered_among}
use Rattle.value_node.specs.Asked.{Asked}
use Rattle.value_node.specs.Deeds.{Deed, answers, asked_in, forwards, heard_in, hears, sent_in}
use Rattle.value_node.specs.RelayLaws.{IsOfItsCommand, IsOpen, token_below}
use Rattle.value_node.proofs.DeedLists.{AreRight, sent_both}
use Rattle.value_node.proofs.Holding.{issued_from}
use Rattle.node_answers.proofs.Adds.BoundOwn.{AreAnsweredIn, answered_here}
use Rattle.node_answers.proofs.Adds.BoundTokens.{below_at, is_at, one_place}
use Rattle.node_answers.proofs.Adds.BoundTold.{any_behind, passed_as, tells_from}
use Rattle.list_laws.proofs.Lists.{equal_by as same_bytes}

-- ---- The command that a message from above is of

pub record IsOfOne (sent : List Asked) (token : List ℕ) : Type 0 where
  pub front : List Asked
  pub command : Asked
  pub back : List Asked
  pub are : sent ≡ front ++ command ∷ back
  pub numbered : token ≡ decimal (1 + length front)
  pub below : token_below 1 token sent ≡ command.token

pub of_one : (before : List Deed) (sent : List Asked) (token : List ℕ) → sent_in before ≡ sent → 1 + length sent ≤ 2 ^ 64 → IsOpen before token → IsOfOne sent token
of_one before sent token are few o =
    let within : o.number ≤ length (sent_in before) = o.sent in
    let counted : 1 ≤ o.number = o.counted in
    let long : length (sent_in before) ≡ length sent = ap length are in
    let at = is_at 1 sent o.number counted (omega arith) in
    let place : o.number ≡ 1 + length at.front = at.place in
    let numbered : token ≡ decimal (1 + length at.front) = o.numbered ∙ ap (λ n. decimal n) place in
    record {
      front = at.front;
      command = at.command;
      back = at.back;
      are = at.are;
      numbered = numbered;
      below =
          ap (λ t. token_below 1 t sent) numbered ∙ ap (λ cs. token_below 1 (decimal (1 + length at.front)) cs) at.are
          ∙ below_at 1 at.front at.command at.back (omega arith);
    }

pub sent_then : (before : List Deed) (deed : Deed) (sent : List Asked) → sent_in before ≡ sent → sent_in (before ++ deed ∷ []) ≡ sent ++ sent_in (deed ∷ [])
sent_then before deed sent are = sent_both before (deed ∷ []) ∙ ap (λ cs. cs ++ sent_in (deed ∷ [])) are

pub sent_same : (before : List Deed) (deed : Deed) (sent : List Asked) → sent_in (deed ∷ []) ≡ [] → sent_in before ≡ sent → sent_in (before ++ deed ∷ []) ≡ sent
sent_same before deed sent none are = sent_then before deed sent are ∙ ap (λ cs. sent ++ cs) none ∙ append-nil sent

-- ---- A command that was sent above, and its answer

module _ (front : List Asked) (c : Asked) (back : List Asked) (few : 1 + length (front ++ c ∷ back) ≤ 2 ^ 64) where
  abbrev number : ℕ
  number = 1 + length front

  abbrev is_told : List Spoken → Bool
  is_told spoken = answers_among c.token spoken

  own_below : (before : List Deed) (sent more : List Asked) (token : List ℕ) → sent_in before ≡ sent → sent ++ more ≡ front ++ c ∷ back → IsOpen before token → token ≡ decimal number
      → token_below 1 token sent ≡ c.token
  own_below before sent more token are whole o same =
      let all : length sent + length more ≡ length front + suc (length back) = sym (length-append sent more) ∙ ap length whole ∙ length-append front (c ∷ back) in
      let most : length (front ++ c ∷ back) ≡ length front + suc (length back) = length-append front (c ∷ back) in
      let one = of_one before sent token are (omega arith) o in
      let short : length sent ≡ length one.front + suc (length one.back) = ap length one.are ∙ length-append one.front (one.command ∷ one.back) in
      let place : number ≡ 1 + length one.front = decimal_injective number (1 + length one.front) (omega arith) (omega arith) (sym same ∙ one.numbered) in
      let here : one.command ≡ c =
      one_place one.front one.command (one.back ++ more) front c back
      (sym (append_assoc one.front (one.command ∷ one.back) more) ∙ ap (λ cs. cs ++ more) (sym one.are) ∙ whole) (omega arith) in
      one.below ∙ ap (λ (x : Asked). x.token) here

  passed_told : (before : List Deed) (sent more : List Asked) (mark : Option ℕ) (m : Result MessageValue MessageFault) (told : List Spoken) (rest : Bool) → sent_in before ≡ sent → sent ++ more ≡ front ++ c ∷ back
      → IsOfItsCommand before m → (list_any (λ text. bytes_eq text (decimal number)) (token_in (said_of m)) || rest) ≡ true → (rest ≡ true → is_told told ≡ true) → is_told (passed_as sent mark m ++ told) ≡ true
  passed_told before sent more mark (Ok (command token service name body)) told rest are whole its is later = later is
  passed_told before sent more mark (Ok (progress token body)) told rest are whole its is later =
      any_behind (λ s. list_any (λ text. bytes_eq text c.token) (token_in (said_by s.message))) (passed_as sent mark (Ok (progress token body))) told (later is)
  passed_told before sent more mark (Ok (event service name body)) told rest are whole its is later =
      any_behind (λ s. list_any (λ text. bytes_eq text c.token) (token_in (said_by s.message))) (passed_as sent mark (Ok (event service name body))) told
      (later (no_answer (bytes_eq service locator && bytes_eq name hello) is))
    where
      no_answer : (flag : Bool) → (list_any (λ text. bytes_eq text (decimal number)) (token_in (event_said flag)) || rest) ≡ true → rest ≡ true
      no_answer true is = is
      no_answer false is = is
  passed_told before sent more mark (Ok (flow level)) told rest are whole its is later = later is
  passed_told before sent more mark (Err fault) told rest are whole its is later = later is
  passed_told before sent more mark (Ok (final token body)) told rest are whole its is later = by_flag (bytes_eq token (decimal number)) refl is
    where
      by_flag : (flag : Bool) → bytes_eq token (decimal number) ≡ flag → ((flag || false) || rest) ≡ true → is_told (passed_as sent mark (Ok (final token body)) ++ told) ≡ true
      by_flag true hit is =
          let below = own_below before sent more token are whole its (same_bytes token (decimal number) hit) in
          answered_here (record { message = final (token_below 1 token sent) body; mark = mark }) told c.token (ap (λ t. t ∷ []) below)
      by_flag false miss is =
          any_behind (λ s. list_any (λ text. bytes_eq text c.token) (token_in (said_by s.message))) (passed_as sent mark (Ok (final token body))) told (later is)
  passed_told before sent more mark (Ok (not_known token)) told rest are whole its is later = by_flag (bytes_eq token (decimal number)) refl is
    where
      by_flag : (flag : Bool) → bytes_eq token (decimal number) ≡ flag → ((flag || false) || rest) ≡ true → is_told (passed_as sent mark (Ok (not_known token)) ++ told) ≡ true
      by_flag true hit is =
          let below = own_below before sent more token are whole its (same_bytes token (decimal number) hit) in
          answered_here (record { message = not_known (token_below 1 token sent); mark = mark }) told c.token (ap (λ t. t ∷ []) below)
      by_flag false miss is =
          any_behind (λ s. list_any (λ text. bytes_eq text c.token) (token_in (said_by s.message))) (passed_as sent mark (Ok (not_known token))) told (later is)

  pub answer_told : (before deeds : List Deed) (sent : List Asked) → sent_in before ≡ sent → sent ++ sent_in deeds ≡ front ++ c ∷ back → AreRight before deeds → answered_among (heard_in deeds) number ≡ true
      → is_told (tells_from sent deeds) ≡ true
  answer_told before [] sent are whole right is = absurd cc
  answer_told before (forwards d ∷ deeds) sent are whole right is =
      answer_told (before ++ forwards d ∷ []) deeds (sent ++ d ∷ []) (sent_then before (forwards d) sent are) (append_assoc sent (d ∷ []) (sent_in deeds) ∙ whole) right.1 is
  answer_told before (answers d reply mark ∷ deeds) sent are whole right is =
      or_right (list_any (λ text. bytes_eq text c.token) (token_in (said_by (final d.token reply)))) (is_told (tells_from sent deeds))
      (answer_told (before ++ answers d reply mark ∷ []) deeds sent (sent_same before (answers d reply mark) sent refl are) whole right.1 is)
  answer_told before (hears incoming ∷ deeds) sent are whole right is =
      passed_told before sent (sent_in deeds) incoming.mark (reading incoming.raw) (tells_from sent deeds) (answered_among (heard_in deeds) number) are whole right.0 is
      (λ more. answer_told (before ++ hears incoming ∷ []) deeds sent (sent_same before (hears incoming) sent refl are) whole right.1 more)

-- ---- All of them

module _ (deeds : List Deed) (right : AreRight [] deeds) (few : 1 + length (sent_in deeds) ≤ 2 ^ 64) where
  sent_told : (front rest : List Asked) (next : ℕ) → next ≡ 1 + length front → sent_in deeds ≡ front ++ rest → AllByRecursion (λ i. answered_among (heard_in deeds) i.command.token ≡ true) (issued_from next rest)
      → AreAnsweredIn (tells_from [] deeds) rest
  sent_told front [] next place are all = tt
  sent_told front (c ∷ rest) next place are all =
      let one = answer_told front c rest (subst (λ cs. 1 + length cs ≤ 2 ^ 64) are few) [] deeds [] refl are right (ap (λ n. answered_among (heard_in deeds) n) (sym place) ∙ all.0) in
      let long : length (front ++ c ∷ []) ≡ length front + 1 = length-append front (c ∷ []) in
      (one, sent_told (front ++ c ∷ []) rest (next + 1) (omega arith) (are ∙ sym (append_assoc front (c ∷ []) rest)) all.1)

  -- those that were sent, and those that were answered from the store
  asked_told : (whole : List Spoken) (more : List Deed) (sent : List Asked) → ((token : List ℕ) → answers_among token (tells_from sent more) ≡ true → answers_among token whole ≡ true) → AreAnsweredIn whole (sent_in more)
      → AreAnsweredIn whole (asked_in more)
  asked_told whole [] sent within all = tt
  asked_told whole (forwards c ∷ more) sent within all = (all.0, asked_told whole more (sent ++ c ∷ []) within all.1)
  asked_told whole (answers c reply mark ∷ more) sent within all = (
    within c.token (answered_here (record { message = final c.token reply; mark = mark }) (tells_from sent more) c.token refl),
    asked_told whole more sent
        (λ token is. within token (or_right (list_any (λ text. bytes_eq text token) (token_in (said_by (final c.token reply)))) (answers_among token (tells_from sent more)) is)) all,
  )
  asked_told whole (hears incoming ∷ more) sent within all =
      asked_told whole more sent
      (λ token is.
      within token
      (any_behind (λ s. list_any (λ text. bytes_eq text token) (token_in (said_by s.message))) (passed_as sent incoming.mark (reading incoming.raw)) (tells_from sent more) is)) all

  pub all_told : AllByRecursion (λ i. answered_among (heard_in deeds) i.command.token ≡ true) (issued_from 1 (sent_in deeds)) → AreAnsweredIn (tells_from [] deeds) (asked_in deeds)
  all_told all = asked_told (tells_from [] deeds) deeds [] (λ token is. is) (sent_told [] (sent_in deeds) 1 refl refl all)
