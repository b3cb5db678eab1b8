-- A command that was sent above and has no answer there has none below.
use Rattle.std.proofs.Common.{◌≡◌, inl, inr, ℕ, suc, ◌+◌, ◌^◌, ◌≤◌, Bool, true, false, ◌&&◌, ◌||◌, List, [], ◌∷◌, ◌++◌, length, Option, Result, Ok, Err, refl, sym, ap, ◌∙◌, subst, arith, append_assoc, length-append}
use Rattle.std.specs.Prelude.{bytes_eq, decimal}
use Rattle.std.specs.List.{AllByRecursion, list_any}
use Rattle.std.proofs.lemmas.Bool.{or_parts}
use Rattle.std.proofs.lemmas.List.Folds.{list_any-append}
use Rattle.tcf_message.specs.Message.{MessageValue, command, event, final, flow, not_known, progress, reading}
use Rattle.tcf_message.specs.declared.message.MessageFault.{MessageFault}
use Rattle.channel_core.specs.Arrivals.{Spoken}
use Rattle.channel_core.specs.RunLaws.{token_in}
use Rattle.channel_core.specs.Wire.{event_said, hello, locator, said_by, said_of}
use Rattle.channel_laws.specs.Meeting.{answers_among}
use Rattle.channel_laws.specs.Rest.{answered_among}
use Rattle.value_node.specs.Asked.{Asked}
use Rattle.value_node.specs.Deeds.{Deed, answers, asked_in, forwards, heard_in, hears, sent_in}
use Rattle.value_node.specs.RelayLaws.{IsOfItsCommand, IsOpen, token_below}
use Rattle.value_node.proofs.DeedLists.{AreRight, all_sent}
use Rattle.node_answers.proofs.Adds.Apart.{AreApart, tokens_of}
use Rattle.node_answers.proofs.Adds.BoundAnswered.{of_one, sent_same, sent_then}
use Rattle.node_answers.proofs.Adds.BoundOwn.{answered_here}
use Rattle.node_answers.proofs.Adds.BoundTold.{passed_as, tells_from}
use Rattle.node_answers.proofs.Adds.LeavingOwn.{unanswered_here}
use Rattle.node_answers.proofs.Adds.LeavingTokens.{IsOneOf, of_tokens, place_one, to_tokens}
use Rattle.node_answers.proofs.Adds.Replying.{clashes}
use Rattle.list_laws.proofs.AllLists.{all_right}
use Rattle.list_laws.proofs.Lists.{equal_bytes as alike}

-- ---- The tokens of deeds

-- no answer from the store is under this token
abbrev pub IsOther : List ℕ → Deed → Type 0
IsOther token (forwards c) = Unit {0}
IsOther token (answers c reply mark) = c.token ≡ token → ⊥
IsOther token (hears incoming) = Unit {0}

none_stored : (token : List ℕ) (deeds : List Deed) → AllByRecursion (λ other. token ≡ other → ⊥) (tokens_of (asked_in deeds)) → AllByRecursion (IsOther token) deeds
none_stored token [] all = tt
none_stored token (forwards c ∷ deeds) all = (tt, none_stored token deeds all.1)
none_stored token (answers c reply mark ∷ deeds) all = ((λ same. all.0 (sym same)), none_stored token deeds all.1)
none_stored token (hears incoming ∷ deeds) all = (tt, none_stored token deeds all)

-- what differs from those that were asked differs from those that were sent
sent_others : (P : List ℕ → Type 0) (deeds : List Deed) → AllByRecursion P (tokens_of (asked_in deeds)) → AllByRecursion P (tokens_of (sent_in deeds))
sent_others P deeds all = to_tokens P (sent_in deeds) (all_sent (λ (c : Asked). P c.token) deeds (of_tokens P (asked_in deeds) all))

pub sent_apart : (deeds : List Deed) → AreApart (tokens_of (asked_in deeds)) → AreApart (tokens_of (sent_in deeds))
sent_apart [] apart = tt
sent_apart (forwards c ∷ deeds) apart = (sent_others (λ other. c.token ≡ other → ⊥) deeds apart.0, sent_apart deeds apart.1)
sent_apart (answers c reply mark ∷ deeds) apart = sent_apart deeds apart.1
sent_apart (hears incoming ∷ deeds) apart = sent_apart deeds apart

-- so a command that was sent isn't answered from the store
pub sent_unstored : (deeds : List Deed) (front : List Asked) (c : Asked) (back : List Asked) → AreApart (tokens_of (asked_in deeds)) → sent_in deeds ≡ front ++ c ∷ back → AllByRecursion (IsOther c.token) deeds
sent_unstored [] front c back apart whole = tt
sent_unstored (forwards d ∷ deeds) [] c back apart whole =
    let same : d ≡ c = cc in (tt, subst (λ (e : Asked). AllByRecursion (IsOther e.token) deeds) same (none_stored d.token deeds apart.0))
sent_unstored (forwards d ∷ deeds) (e ∷ front) c back apart whole =
    let rest : sent_in deeds ≡ front ++ c ∷ back = cc in (tt, sent_unstored deeds front c back apart.1 rest)
sent_unstored (answers d reply mark ∷ deeds) front c back apart whole =
    let P : Asked → Type 0 = λ e. d.token ≡ e.token → ⊥ in
    let all : AllByRecursion P (sent_in deeds) = all_sent P deeds (of_tokens (λ other. d.token ≡ other → ⊥) (asked_in deeds) apart.0) in
    ((all_right P front (c ∷ back) (subst (AllByRecursion P) whole all)).0, sent_unstored deeds front c back apart.1 whole)
sent_unstored (hears incoming ∷ deeds) front c back apart whole = (tt, sent_unstored deeds front c back apart whole)

-- what was sent was asked
pub sent_asked : (token : List ℕ) (deeds : List Deed) → IsOneOf token (sent_in deeds) → IsOneOf token (asked_in deeds)
sent_asked token [] one = one
sent_asked token (forwards c ∷ deeds) (inl same) = inl same
sent_asked token (forwards c ∷ deeds) (inr one) = inr (sent_asked token deeds one)
sent_asked token (answers c reply mark ∷ deeds) one = inr (sent_asked token deeds one)
sent_asked token (hears incoming ∷ deeds) one = sent_asked token deeds one

-- ---- What isn't answered was sent

pub sent_unless_told : (deeds : List Deed) (sent : List Asked) (token : List ℕ) → IsOneOf token (asked_in deeds) → answers_among token (tells_from sent deeds) ≡ false → IsOneOf token (sent_in deeds)
sent_unless_told [] sent token one none = one
sent_unless_told (forwards c ∷ deeds) sent token (inl same) none = inl same
sent_unless_told (forwards c ∷ deeds) sent token (inr one) none = inr (sent_unless_told deeds (sent ++ c ∷ []) token one none)
sent_unless_told (answers c reply mark ∷ deeds) sent token (inl same) none =
    let told = answered_here (record { message = final c.token reply; mark = mark }) (tells_from sent deeds) token (ap (λ t. t ∷ []) same) in
    absurd (clashes (answers_among token (tells_from sent (answers c reply mark ∷ deeds))) none told)
sent_unless_told (answers c reply mark ∷ deeds) sent token (inr one) none =
    sent_unless_told deeds sent token one (or_parts (list_any (λ text. bytes_eq text token) (token_in (said_by (final c.token reply)))) (answers_among token (tells_from sent deeds)) none).1
sent_unless_told (hears incoming ∷ deeds) sent token one none =
    let passed = passed_as sent incoming.mark (reading incoming.raw) in
    let both = sym (list_any-append (λ (s : Spoken). list_any (λ text. bytes_eq text token) (token_in (said_by s.message))) passed (tells_from sent deeds)) ∙ none in
    sent_unless_told deeds sent token one (or_parts (answers_among token passed) (answers_among token (tells_from sent deeds)) both).1

-- ---- A command that was sent above, and the answers to others

module _ (front : List Asked) (c : Asked) (back : List Asked) (few : 1 + length (front ++ c ∷ back) ≤ 2 ^ 64) (apart : AreApart (tokens_of (front ++ c ∷ back))) where
  abbrev number : ℕ
  number = 1 + length front

  abbrev is_told : List Spoken → Bool
  is_told spoken = answers_among c.token spoken

  own_above : (before : List Deed) (sent more : List Asked) (token : List ℕ) → sent_in before ≡ sent → sent ++ more ≡ front ++ c ∷ back → IsOpen before token → token_below 1 token sent ≡ c.token
      → token ≡ decimal number
  own_above before sent more token are whole o same =
      let all : length sent + length more ≡ length front + suc (length back) = sym (length-append sent more) ∙ ap length whole ∙ length-append front (c ∷ back) in
      let most : length (front ++ c ∷ back) ≡ length front + suc (length back) = length-append front (c ∷ back) in
      let one = of_one before sent token are (omega arith) o in
      let parts : front ++ c ∷ back ≡ one.front ++ one.command ∷ (one.back ++ more) =
      sym whole ∙ ap (λ cs. cs ++ more) one.are ∙ append_assoc one.front (one.command ∷ one.back) more in
      let place : length front ≡ length one.front = place_one front c back one.front one.command (one.back ++ more) apart parts (sym one.below ∙ same) in
      one.numbered ∙ ap (λ n. decimal (1 + n)) (sym place)

  other_below : (before : List Deed) (sent more : List Asked) (token : List ℕ) → sent_in before ≡ sent → sent ++ more ≡ front ++ c ∷ back → IsOpen before token
      → (bytes_eq token (decimal number) || false) ≡ false → token_below 1 token sent ≡ c.token → ⊥
  other_below before sent more token are whole o none same =
      clashes (bytes_eq token (decimal number)) (or_parts (bytes_eq token (decimal number)) false none).0 (alike token (decimal number) (own_above before sent more token are whole o same))

  passed_untold : (before : List Deed) (sent more : List Asked) (mark : Option ℕ) (m : Result MessageValue MessageFault) (told : List Spoken) → sent_in before ≡ sent → sent ++ more ≡ front ++ c ∷ back
      → IsOfItsCommand before m → list_any (λ text. bytes_eq text (decimal number)) (token_in (said_of m)) ≡ false → is_told told ≡ false → is_told (passed_as sent mark m ++ told) ≡ false
  passed_untold before sent more mark (Ok (command token service name body)) told are whole its none rest = rest
  passed_untold before sent more mark (Ok (progress token body)) told are whole its none rest = rest
  passed_untold before sent more mark (Ok (event service name body)) told are whole its none rest = no_answer (bytes_eq service locator && bytes_eq name hello)
    where
      no_answer : (flag : Bool) → (list_any (λ text. bytes_eq text c.token) (token_in (event_said flag)) || is_told told) ≡ false
      no_answer true = rest
      no_answer false = rest
  passed_untold before sent more mark (Ok (flow level)) told are whole its none rest = rest
  passed_untold before sent more mark (Err fault) told are whole its none rest = rest
  passed_untold before sent more mark (Ok (final token body)) told are whole its none rest =
      unanswered_here (record { message = final (token_below 1 token sent) body; mark = mark }) told c.token (token_below 1 token sent) refl (other_below before sent more token are whole its none) rest
  passed_untold before sent more mark (Ok (not_known token)) told are whole its none rest =
      unanswered_here (record { message = not_known (token_below 1 token sent); mark = mark }) told c.token (token_below 1 token sent) refl (other_below before sent more token are whole its none) rest

  pub answer_untold : (before deeds : List Deed) (sent : List Asked) → sent_in before ≡ sent → sent ++ sent_in deeds ≡ front ++ c ∷ back → AreRight before deeds → AllByRecursion (IsOther c.token) deeds
      → answered_among (heard_in deeds) number ≡ false → is_told (tells_from sent deeds) ≡ false
  answer_untold before [] sent are whole right others none = refl
  answer_untold before (forwards d ∷ deeds) sent are whole right others none =
      answer_untold (before ++ forwards d ∷ []) deeds (sent ++ d ∷ []) (sent_then before (forwards d) sent are) (append_assoc sent (d ∷ []) (sent_in deeds) ∙ whole) right.1 others.1 none
  answer_untold before (answers d reply mark ∷ deeds) sent are whole right others none =
      unanswered_here (record { message = final d.token reply; mark = mark }) (tells_from sent deeds) c.token d.token refl others.0
      (answer_untold (before ++ answers d reply mark ∷ []) deeds sent (sent_same before (answers d reply mark) sent refl are) whole right.1 others.1 none)
  answer_untold before (hears incoming ∷ deeds) sent are whole right others none =
      let parts = or_parts (list_any (λ text. bytes_eq text (decimal number)) (token_in (said_of (reading incoming.raw)))) (answered_among (heard_in deeds) number) none in
      passed_untold before sent (sent_in deeds) incoming.mark (reading incoming.raw) (tells_from sent deeds) are whole right.0 parts.0
      (answer_untold (before ++ hears incoming ∷ []) deeds sent (sent_same before (hears incoming) sent refl are) whole right.1 others.1 parts.1)
