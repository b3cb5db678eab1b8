-- A Hello stands behind each answer without an error to a redirect that a bound value-add tells, where it heard one behind each
-- such answer from above.
use Rattle.std.proofs.Common.{◌≡◌, ℕ, ◌+◌, ◌^◌, ◌≤◌, Bool, true, false, not, ◌&&◌, ◌||◌, List, [], ◌∷◌, ◌++◌, length, Option, Result, Ok, Err, refl, sym, ap, ◌∙◌, arith, append_assoc, length-append}
use Rattle.std.specs.Prelude.{bytes_eq, decimal}
use Rattle.std.specs.List.{AllByRecursion, list_any}
use Rattle.std.proofs.lemmas.Bool.{and_parts, or_parts, false_from_ne_true}
use Rattle.tcf_message.specs.Message.{MessageValue, command, event, final, flow, not_known, progress, reading}
use Rattle.tcf_message.specs.declared.message.MessageFault.{MessageFault}
use Rattle.channel_core.specs.Arrivals.{Spoken}
use Rattle.channel_core.specs.Wire.{answers as answers_said, event_said, hello, is_done, is_redirect, locator, said_by, said_of}
use Rattle.channel_core.specs.declared.held.Incoming.{Incoming}
use Rattle.channel_laws.specs.Meeting.{does_one, hello_behind, lacks_hello_behind}
use Rattle.channel_laws.specs.Rest.{hello_among, is_done_for, is_hello, lacks_hello_among}
use Rattle.value_node.specs.Asked.{Asked}
use Rattle.value_node.specs.Deeds.{Deed, answers, asked_in, forwards, heard_in, hears, sent_in}
use Rattle.value_node.specs.RelayLaws.{IsOfItsCommand, token_below}
use Rattle.value_node.proofs.DeedLists.{AreRight}
use Rattle.value_node.proofs.Holding.{issued_from}
use Rattle.value_node.proofs.Lists.{all_stands}
use Rattle.node_answers.proofs.Adds.BoundAnswered.{of_one, sent_same, sent_then}
use Rattle.node_answers.proofs.Adds.BoundTokens.{RedirectsWhereNamed, issued_at}
use Rattle.node_answers.proofs.Adds.BoundTold.{any_behind, hello_told, passed_as, tells_from}
use Rattle.node_answers.proofs.Adds.BoundUnstored.{redirect_unstored}
use Rattle.list_laws.proofs.AllLists.{all_append}

-- ---- Flags

-- a first part is false where it is false, or where what is behind it is there
none_first : (first behind rest : Bool) → (first ≡ true → behind ≡ true) → rest ≡ false → ((first && not behind) || rest) ≡ false
none_first true behind rest there none = ap (λ b. not b || rest) (there refl) ∙ none
none_first false behind rest there none = none

there_behind : (behind : Bool) → (true && not behind) ≡ false → behind ≡ true
there_behind true is = refl
there_behind false is = absurd cc

-- ---- Behind all that it said itself there is one

pub own_greeted : (tokens : List (List ℕ)) (own told : List Spoken) → hello_behind told ≡ true → lacks_hello_behind tokens told ≡ false → lacks_hello_behind tokens (own ++ told) ≡ false
own_greeted tokens [] told there none = none
own_greeted tokens (s ∷ own) told there none =
    none_first (does_one tokens (said_by s.message)) (hello_behind (own ++ told)) (lacks_hello_behind tokens (own ++ told))
    (λ is. any_behind (λ x. is_hello (said_by x.message)) own told there) (own_greeted tokens own told there none)

module _ (tokens : List (List ℕ)) (all : List Asked) (few : 1 + length all ≤ 2 ^ 64) where
  abbrev Named : Asked → Type 0
  Named c = RedirectsWhereNamed tokens c

  abbrev AreNamed : List Asked → Type 0
  AreNamed commands = AllByRecursion Named commands

  abbrev lacks_above : List Incoming → Bool
  lacks_above heard = lacks_hello_among (issued_from 1 all) heard

  -- an answer from above is one without an error to a redirect where it is so below
  done_above : (before : List Deed) (sent more : List Asked) (token body : List ℕ) → sent_in before ≡ sent → all ≡ sent ++ more → AreNamed sent → IsOfItsCommand before (Ok (final token body))
      → does_one tokens (answers_said (token_below 1 token sent) (is_done body)) ≡ true → is_done_for (issued_from 1 all) (answers_said token (is_done body)) ≡ true
  done_above before sent more token body are whole named its is =
      let long : length all ≡ length sent + length more = ap length whole ∙ length-append sent more in
      let one = of_one before sent token are (omega arith) its in
      let parts = and_parts (is_done body) (list_any (λ text. bytes_eq (token_below 1 token sent) text) tokens) is in
      let its_own : Named one.command = all_stands Named sent one.command (record { front = one.front; back = one.back; whole = one.are }) named in
      let redirects : is_redirect one.command.service one.command.name ≡ true = its_own (ap (λ t. list_any (λ text. bytes_eq t text) tokens) (sym one.below) ∙ parts.1) in
      let all_are : all ≡ one.front ++ one.command ∷ (one.back ++ more) = whole ∙ ap (λ cs. cs ++ more) one.are ∙ append_assoc one.front (one.command ∷ one.back) more in
      let issued = issued_at 1 one.front one.command (one.back ++ more) token one.numbered redirects in
      let there : list_any (λ i. i.command.is_redirect && bytes_eq token (decimal i.command.token)) (issued_from 1 all) ≡ true =
      ap (λ cs. list_any (λ i. i.command.is_redirect && bytes_eq token (decimal i.command.token)) (issued_from 1 cs)) all_are ∙ issued in
      ap (λ b. b && list_any (λ i. i.command.is_redirect && bytes_eq token (decimal i.command.token)) (issued_from 1 all)) parts.0 ∙ there

  passed_greeted : (before : List Deed) (sent more : List Asked) (mark : Option ℕ) (m : Result MessageValue MessageFault) (heard : List Incoming) (told : List Spoken) → sent_in before ≡ sent → all ≡ sent ++ more
      → AreNamed sent → IsOfItsCommand before m → ((is_done_for (issued_from 1 all) (said_of m) && not (hello_among heard)) || lacks_above heard) ≡ false → (hello_among heard ≡ true → hello_behind told ≡ true)
      → (lacks_above heard ≡ false → lacks_hello_behind tokens told ≡ false) → lacks_hello_behind tokens (passed_as sent mark m ++ told) ≡ false
  passed_greeted before sent more mark (Ok (command token service name body)) heard told are whole named its is hello_there rest = rest is
  passed_greeted before sent more mark (Ok (progress token body)) heard told are whole named its is hello_there rest = rest is
  passed_greeted before sent more mark (Ok (not_known token)) heard told are whole named its is hello_there rest = rest is
  passed_greeted before sent more mark (Ok (flow level)) heard told are whole named its is hello_there rest = rest is
  passed_greeted before sent more mark (Err fault) heard told are whole named its is hello_there rest = rest is
  passed_greeted before sent more mark (Ok (event service name body)) heard told are whole named its is hello_there rest = by_flag (bytes_eq service locator && bytes_eq name hello) is
    where
      by_flag : (flag : Bool) → ((is_done_for (issued_from 1 all) (event_said flag) && not (hello_among heard)) || lacks_above heard) ≡ false
          → ((does_one tokens (event_said flag) && not (hello_behind told)) || lacks_hello_behind tokens told) ≡ false
      by_flag true is = rest is
      by_flag false is = rest is
  passed_greeted before sent more mark (Ok (final token body)) heard told are whole named its is hello_there rest =
      let done = is_done_for (issued_from 1 all) (answers_said token (is_done body)) in
      let parts = or_parts (done && not (hello_among heard)) (lacks_above heard) is in
      none_first (does_one tokens (answers_said (token_below 1 token sent) (is_done body))) (hello_behind told) (lacks_hello_behind tokens told)
      (λ so.
      hello_there
      (there_behind (hello_among heard) (sym (ap (λ b. b && not (hello_among heard)) (done_above before sent more token body are whole named its so)) ∙ parts.0)))
      (rest parts.1)

  told_greeted : (before deeds : List Deed) (sent : List Asked) → sent_in before ≡ sent → all ≡ sent ++ sent_in deeds → AreRight before deeds → AreNamed (asked_in deeds) → AreNamed sent
      → lacks_above (heard_in deeds) ≡ false → lacks_hello_behind tokens (tells_from sent deeds) ≡ false
  told_greeted before [] sent are whole right each named none = refl
  told_greeted before (forwards c ∷ deeds) sent are whole right each named none =
      told_greeted (before ++ forwards c ∷ []) deeds (sent ++ c ∷ []) (sent_then before (forwards c) sent are) (whole ∙ sym (append_assoc sent (c ∷ []) (sent_in deeds))) right.1 each.1
      (all_append Named sent (c ∷ []) named (each.0, tt)) none
  told_greeted before (answers c reply mark ∷ deeds) sent are whole right each named none =
      let rightly = right.0 in
      let isnt : does_one tokens (answers_said c.token (is_done reply)) ≡ false =
      false_from_ne_true (does_one tokens (answers_said c.token (is_done reply)))
      (λ so. redirect_unstored c rightly.command (each.0 (and_parts (is_done reply) (list_any (λ text. bytes_eq c.token text) tokens) so).1) rightly.read rightly.storable) in
      ap (λ b. (b && not (hello_behind (tells_from sent deeds))) || lacks_hello_behind tokens (tells_from sent deeds)) isnt
      ∙ told_greeted (before ++ answers c reply mark ∷ []) deeds sent (sent_same before (answers c reply mark) sent refl are) whole right.1 each.1 named none
  told_greeted before (hears incoming ∷ deeds) sent are whole right each named none =
      passed_greeted before sent (sent_in deeds) incoming.mark (reading incoming.raw) (heard_in deeds) (tells_from sent deeds) are whole named right.0 none (λ more. hello_told sent deeds more)
      (λ more. told_greeted (before ++ hears incoming ∷ []) deeds sent (sent_same before (hears incoming) sent refl are) whole right.1 each named more)

  pub all_greeted : (deeds : List Deed) → all ≡ sent_in deeds → AreRight [] deeds → AreNamed (asked_in deeds) → lacks_above (heard_in deeds) ≡ false → lacks_hello_behind tokens (tells_from [] deeds) ≡ false
  all_greeted deeds whole right each none = told_greeted [] deeds [] refl whole right each tt none
