-- What a value-add has not answered: the redirect that it does, and the commands that are pending above.
use Rattle.std.proofs.Common.{◌≡◌, ◌⊎◌, inl, inr, ℕ, ◌+◌, ◌^◌, ◌≤◌, Bool, true, false, not, ◌||◌, ◌&&◌, List, [], ◌∷◌, ◌++◌, length, map, Option, Some, None, refl, sym, ap, ◌∙◌, subst, append_assoc, append-nil}
use Rattle.std.specs.Prelude.{Contains, IfSome, bytes_eq, option_map, unwrap_or}
use Rattle.std.specs.List.{filter, flat_map, list_any}
use Rattle.std.proofs.lemmas.Bool.{or_parts}
use Rattle.std.proofs.lemmas.List.Folds.{list_any-append}
use Rattle.channel_core.specs.Arrivals.{AreSpoken, Spoken, all_said}
use Rattle.channel_core.specs.Closing.{is_closed}
use Rattle.channel_core.specs.QueueLaws.{is_message}
use Rattle.channel_core.specs.ReceivingLaws.{incoming_of}
use Rattle.channel_core.specs.RunLaws.{is_answered, token_in, unanswered}
use Rattle.channel_core.specs.Wire.{answers, event_said, hello, is_redirect, locator, said_by}
use Rattle.channel_core.specs.declared.states.EndState.TheVariants.{Reopening}
use Rattle.channel_core.specs.declared.taking.Taken.{Taken}
use Rattle.channel_laws.specs.Meeting.{answers_among, does_one, hello_behind, lacks_hello_behind, redirects_among}
use Rattle.channel_laws.specs.Numbering.{TakesNumbered, tokens_among}
use Rattle.channel_laws.specs.Rest.{answered_among, lacks_hello, lacks_hello_among}
use Rattle.channel_laws.proofs.Rest.AllCalls.{all_pend}
use Rattle.channel_laws.proofs.Rest.Spelling.{IsSpelled, same_said}
use Rattle.value_node.specs.Asked.{Asked}
use Rattle.value_node.specs.Deeds.{Deed, asked_in, heard_in, sent_in}
use Rattle.value_node.specs.ForwardedValue.{ForwardedValue}
use Rattle.value_node.specs.Passing.{Upper}
use Rattle.value_node.specs.RelayLaws.{AfterAllCalls, StandsWell}
use Rattle.value_node.specs.Runs.{Call, Past, UpperCall, ValueRun, above, after_all, below, no_calls, upper_after}
use Rattle.value_node.specs.Value.{is_free, value_services}
use Rattle.value_node.specs.declared.relay.Relay.{Relay}
use Rattle.value_node.specs.declared.states.Bind.{Bind}
use Rattle.value_node.specs.declared.states.Bind.TheVariants.{Unbound, Opening, Bound, Closed}
use Rattle.value_node.proofs.Holding.{Holds, issued_from}
use Rattle.value_node.proofs.OwnAnswers.{IsLeft}
use Rattle.node_answers.specs.Waiting.{AnswersWhatItCan, AwaitsHello, Lacks, LeavesUnanswered, WaitsFor, pending_below}
use Rattle.value_node.proofs.TheLaws.{asks_nothing_below, ends_are_runs}
use Rattle.node_answers.proofs.Adds.Apart.{AreApart, same_asked, tokens_of}
use Rattle.node_answers.proofs.Adds.Bound.{accepted, apart, as_said, asked_are, few_sent, greeted, itself, queued, spelled, tells}
use Rattle.node_answers.proofs.Adds.Bound as bound_run
use Rattle.node_answers.proofs.Adds.BoundAnswered.{answer_told}
use Rattle.node_answers.proofs.Adds.BoundTold.{answered_later, tells_from}
use Rattle.node_answers.proofs.Adds.LeavingOwn.{each_others, unanswered_both}
use Rattle.node_answers.proofs.Adds.LeavingPending.{is_pending, pends_still, tokens_pending}
use Rattle.node_answers.proofs.Adds.LeavingSent.{answer_untold, sent_apart, sent_asked, sent_unless_told, sent_unstored}
use Rattle.node_answers.proofs.Adds.LeavingTokens.{IsOneOf, IsPlaced, apart_behind, one_contained, one_either, one_holds, one_left, one_of, one_placed, one_right, others_before, to_tokens}
use Rattle.node_answers.proofs.Adds.LeavingUpper.{all_reopening}
use Rattle.node_answers.proofs.Adds.Own.{HasSaid, LeftIn, always_said, greeting, none_left, own_formed, own_queue}
use Rattle.node_answers.proofs.Adds.Pairing.{AnswerEach, among_behind, each_among, each_at}
use Rattle.node_answers.proofs.Adds.Replying.{clashes}
use Rattle.node_answers.proofs.Adds.Speaking.{spoken_in}
use Rattle.node_answers.proofs.Adds.Taken.{redirects_of, redirects_taken, tokens_taken}
use Rattle.node_answers.proofs.Adds.WhileUnbound.{all_splits, does_none, lacks_none}
use Rattle.list_laws.proofs.AllLists.{all_left}
use Rattle.value_node.proofs.Answering.{first_end}

-- ---- Its Hello answers nothing

greets_none : (flag : Bool) → token_in (event_said flag) ≡ []
greets_none true = refl
greets_none false = refl

greets_undone : (tokens : List (List ℕ)) (flag : Bool) → does_one tokens (event_said flag) ≡ false
greets_undone tokens true = refl
greets_undone tokens false = refl

behind_greeting : (token : List ℕ) (spoken : List Spoken) → answers_among token spoken ≡ false → answers_among token (greeting ∷ spoken) ≡ false
behind_greeting token spoken none =
    ap (λ texts. list_any (λ text. bytes_eq text token) texts || answers_among token spoken) (greets_none (bytes_eq locator locator && bytes_eq hello hello)) ∙ none

-- ---- Until it is bound it answers no redirect without an error

undone_at : (commands left : List Asked) (spoken : List Spoken) → AreApart (tokens_of (commands ++ left)) → AnswerEach false commands spoken → (before rest : List Spoken) (s : Spoken) → spoken ≡ before ++ s ∷ rest
    → (c : Asked) → Contains (commands ++ left) c → is_redirect c.service c.name ≡ true → said_by s.message ≡ answers c.token true → ⊥
undone_at commands left spoken apart each before rest s are c has asks says =
    let at = each_at false commands spoken before s rest each are in
    let both : answers at.command.token at.is.done ≡ answers c.token true = sym at.is.says ∙ says in
    let whole : commands ++ left ≡ at.front ++ at.command ∷ (at.back ++ left) = ap (λ cs. cs ++ left) at.whole ∙ append_assoc at.front (at.command ∷ at.back) left in
    let same : at.command ≡ c = same_asked (commands ++ left) at.front at.command (at.back ++ left) c apart whole has cc in
    clashes false refl (at.is.fair (ap (λ (x : Asked). is_redirect x.service x.name) same ∙ asks) cc).0

undone : (commands left : List Asked) (spoken : List Spoken) → AreApart (tokens_of (commands ++ left)) → AnswerEach false commands spoken → lacks_hello_behind (redirects_of (commands ++ left)) (greeting ∷ spoken) ≡ false
undone commands left spoken apart each =
    let tokens = redirects_of (commands ++ left) in
    ap (λ b. (b && not (hello_behind spoken)) || lacks_hello_behind tokens spoken) (greets_undone tokens (bytes_eq locator locator && bytes_eq hello hello))
    ∙ lacks_none tokens spoken (all_splits (λ (s : Spoken). does_one tokens (said_by s.message) ≡ false) [] spoken
    (λ before rest s are. does_none (commands ++ left) (said_by s.message) (undone_at commands left spoken apart each before rest s are)))

-- ---- The upper end of a bound one

upper_is : (upper : Option Upper) (connection : Option (List UpperCall)) → upper ≡ option_map (λ calls. (upper_after calls).end) connection → is_free upper ≡ false
    → upper ≡ Some (upper_after (unwrap_or connection [])).end
upper_is upper None same unclosed = absurd (clashes (is_free upper) unclosed (ap (λ (o : Option Upper). is_free o) same))
upper_is upper (Some calls) same unclosed = same

-- ---- One value-add

module _ (peer : List ℕ) (calls : List Call) (numbered : TakesNumbered (below (after_all calls (no_calls peer)).past)) where
  abbrev run : ValueRun
  run = after_all calls (no_calls peer)

  abbrev v : Relay
  v = run.value.relay

  abbrev p : Past
  p = run.past

  abbrev h : Holds v p
  h = bound_run.h peer calls

  abbrev deeds : List Deed
  deeds = bound_run.deeds peer calls

  abbrev commands : List Asked
  commands = bound_run.commands peer calls

  abbrev entries : List (Taken Unit)
  entries = (below p).past.taken

  abbrev says : HasSaid run
  says = always_said peer calls

  -- what it said itself, and what it says below
  abbrev own : List Spoken
  own = greeting ∷ spoken_in p.until_bound first_end

  abbrev told : List Spoken
  told = own ++ tells_from [] deeds

  own_is : own ≡ (itself peer calls).own
  own_is =
      let o = itself peer calls in
      same_said own o.own (own_formed run (ends_are_runs peer calls)) (all_left (λ (s : Spoken). IsSpelled s.message) o.own (tells_from [] deeds) (spelled peer calls))
      (sym (own_queue run (asks_nothing_below peer calls)) ∙ o.queue)

  spoken_is : (spoken : List Spoken) → AreSpoken spoken → filter is_message (below p).past.queued ≡ all_said spoken → spoken ≡ told
  spoken_is spoken formed are =
      same_said spoken (bound_run.spoken peer calls) formed (spelled peer calls) (sym are ∙ queued peer calls) ∙ ap (λ ss. ss ++ tells_from [] deeds) (sym own_is)

  -- its commands: those that it answered itself, the one that is left, and those since it was bound
  parts : commands ≡ says.answered ++ (says.left ++ asked_in deeds)
  parts = ap (λ cs. cs ++ asked_in deeds) says.commands ∙ append_assoc says.answered says.left (asked_in deeds)

  all_apart : AreApart (tokens_of (says.answered ++ (says.left ++ asked_in deeds)))
  all_apart = subst (λ cs. AreApart (tokens_of cs)) parts (apart peer calls numbered)

  deeds_apart : AreApart (tokens_of (asked_in deeds))
  deeds_apart = apart_behind says.left (asked_in deeds) (apart_behind says.answered (says.left ++ asked_in deeds) all_apart)

  tokens_are : tokens_among (flat_map incoming_of entries) ≡ tokens_of commands
  tokens_are = tokens_taken entries (as_said peer calls) ∙ ap tokens_of (asked_are peer calls)

  redirects_are : redirects_among (flat_map incoming_of entries) ≡ redirects_of commands
  redirects_are = redirects_taken entries (as_said peer calls) ∙ ap redirects_of (asked_are peer calls)

  taken_one : (token : List ℕ) → IsOneOf token (says.left ++ asked_in deeds) → Contains (tokens_among (flat_map incoming_of entries)) token
  taken_one token one =
      let whole : IsOneOf token commands = subst (IsOneOf token) (sym parts) (one_right token says.answered (says.left ++ asked_in deeds) one) in
      subst (λ ts. Contains ts token) (sym tokens_are) (one_contained token commands whole)

  own_unanswered : (token : List ℕ) → IsOneOf token (says.left ++ asked_in deeds) → answers_among token own ≡ false
  own_unanswered token one =
      behind_greeting token (spoken_in p.until_bound first_end)
      (each_others p.is_bound says.answered (spoken_in p.until_bound first_end) token says.each (others_before token says.answered (says.left ++ asked_in deeds) all_apart one))

  own_answered : (token : List ℕ) → IsOneOf token says.answered → answers_among token own ≡ true
  own_answered token one =
      let spoken = spoken_in p.until_bound first_end in
      one_holds (λ t. answers_among t own ≡ true) token says.answered
      (to_tokens (λ t. answers_among t own ≡ true) says.answered (among_behind greeting spoken says.answered (each_among p.is_bound says.answered spoken says.each))) one

  -- what has no answer is the one that is left, or was sent above
  lacks_some : (token : List ℕ) → Lacks (below p) told token → IsOneOf token says.left ⊎ IsOneOf token (sent_in deeds)
  lacks_some token lacks =
      by_part (one_either token says.answered (says.left ++ asked_in deeds) (subst (IsOneOf token) parts (one_of token commands (subst (λ ts. Contains ts token) tokens_are lacks.taken))))
    where
      flags : (answers_among token own ≡ false) × (answers_among token (tells_from [] deeds) ≡ false)
      flags =
          or_parts (answers_among token own) (answers_among token (tells_from [] deeds))
          (sym (list_any-append (λ s. list_any (λ text. bytes_eq text token) (token_in (said_by s.message))) own (tells_from [] deeds)) ∙ lacks.unanswered)

      by_rest : IsOneOf token says.left ⊎ IsOneOf token (asked_in deeds) → IsOneOf token says.left ⊎ IsOneOf token (sent_in deeds)
      by_rest (inl one) = inl one
      by_rest (inr one) = inr (sent_unless_told deeds [] token one flags.1)

      by_part : IsOneOf token says.answered ⊎ IsOneOf token (says.left ++ asked_in deeds) → IsOneOf token says.left ⊎ IsOneOf token (sent_in deeds)
      by_part (inl one) = absurd (clashes (answers_among token own) flags.0 (own_answered token one))
      by_part (inr one) = by_rest (one_either token says.left (asked_in deeds) one)

  -- ---- While it isn't bound

  module _ (off : p.is_bound ≡ false) where
    told_own : told ≡ own
    told_own = ap (λ ds. own ++ tells_from [] ds) (h.idle off) ∙ append-nil own

    none_sent : (token : List ℕ) → IsOneOf token (sent_in deeds) → ⊥
    none_sent token one = subst (λ ds. IsOneOf token (sent_in ds)) (h.idle off) one

    commands_are : commands ≡ says.answered ++ says.left
    commands_are = parts ∙ ap (λ ds. says.answered ++ (says.left ++ asked_in ds)) (h.idle off) ∙ ap (λ cs. says.answered ++ cs) (append-nil says.left)

    none_done : lacks_hello_behind (redirects_among (flat_map incoming_of entries)) told ≡ false
    none_done =
        ap (λ ts. lacks_hello_behind ts told) redirects_are ∙ ap (λ ss. lacks_hello_behind (redirects_of commands) ss) told_own ∙ ap (λ cs. lacks_hello_behind (redirects_of cs) own) commands_are
        ∙ undone says.answered says.left (spoken_in p.until_bound first_end) (subst (λ cs. AreApart (tokens_of cs)) commands_are (apart peer calls numbered))
        (subst (λ b. AnswerEach b says.answered (spoken_in p.until_bound first_end)) off says.each)

  -- ---- While it is bound

  module _ (bound : v.bind ≡ Bound) (unclosed : is_free v.upper ≡ false) where
    abbrev end : Upper
    end = (above p).end

    abbrev heard : List (Taken ForwardedValue)
    heard = (above p).past.taken

    upper : v.upper ≡ Some end
    upper = upper_is v.upper p.connection h.upper unclosed

    opened : is_closed end.state ≡ false
    opened = ap (λ (o : Option Upper). is_free o) (sym upper) ∙ unclosed

    pending : pending_below v.upper ≡ tokens_pending heard 1 (sent_in deeds)
    pending =
        ap (λ (o : Option Upper). pending_below o) upper
        ∙ ap (λ rows. map (λ row. row.1.token) rows) (sym ((all_pend value_services None (unwrap_or p.connection [])).pending opened))
        ∙ ap (λ is. map (λ row. row.1.token) (unanswered (record (above p).past { accepted = is }))) (accepted peer calls bound)

    heard_answered : (number : ℕ) → answered_among (heard_in deeds) number ≡ is_answered heard number
    heard_answered number = ap (λ ms. answered_among ms number) h.messages ∙ sym ((tells peer calls).answered number)

    few : (front : List Asked) (c : Asked) (back : List Asked) → sent_in deeds ≡ front ++ c ∷ back → 1 + length (front ++ c ∷ back) ≤ 2 ^ 64
    few front c back are = subst (λ cs. 1 + length cs ≤ 2 ^ 64) are (few_sent peer calls bound)

    -- what was sent above and has no answer is pending
    sent_pends : (token : List ℕ) → Lacks (below p) told token → IsOneOf token (sent_in deeds) → Contains (pending_below v.upper) token
    sent_pends token lacks one = by_flag (is_answered heard (1 + length placed.front)) refl
      where
        placed : IsPlaced token (sent_in deeds)
        placed = one_placed token (sent_in deeds) one

        by_flag : (flag : Bool) → is_answered heard (1 + length placed.front) ≡ flag → Contains (pending_below v.upper) token
        by_flag true is =
            let answer =
            answer_told placed.front placed.command placed.back (few placed.front placed.command placed.back placed.are) [] deeds [] refl placed.are h.right (heard_answered (1 + length placed.front) ∙ is) in
            absurd (clashes (answers_among token told) lacks.unanswered (answered_later own (tells_from [] deeds) token (subst (λ t. answers_among t (tells_from [] deeds) ≡ true) placed.same answer)))
        by_flag false is =
            let has = pends_still heard 1 placed.front placed.command placed.back is in
            subst (λ ts. Contains ts token) (sym (pending ∙ ap (tokens_pending heard 1) placed.are)) (subst (λ t. Contains (tokens_pending heard 1 (placed.front ++ placed.command ∷ placed.back)) t) placed.same has)

    -- what is pending was sent above and has no answer
    pending_lacks : (token : List ℕ) → Contains (pending_below v.upper) token → Lacks (below p) told token
    pending_lacks token has =
        let one = is_pending heard token 1 (sent_in deeds) (subst (λ ts. Contains ts token) pending has) in
        let number = 1 + length one.front in
        let sent : IsOneOf one.command.token (sent_in deeds) = subst (IsOneOf one.command.token) (sym one.are) (one_right one.command.token one.front (one.command ∷ one.back) (inl refl)) in
        let asked : IsOneOf one.command.token (says.left ++ asked_in deeds) = one_right one.command.token says.left (asked_in deeds) (sent_asked one.command.token deeds sent) in
        let untold = answer_untold one.front one.command one.back (few one.front one.command one.back one.are) (subst (λ cs. AreApart (tokens_of cs)) one.are (sent_apart deeds deeds_apart)) [] deeds [] refl one.are h.right
        (sent_unstored deeds one.front one.command one.back deeds_apart one.are) (heard_answered number ∙ one.unanswered) in
        subst (Lacks (below p) told) one.same (record {
          taken = taken_one one.command.token asked;
          unanswered = unanswered_both own (tells_from [] deeds) one.command.token (own_unanswered one.command.token asked) untold;
        })

    -- a Hello that is lacking is lacking above
    lacks_above : lacks_hello_behind (redirects_among (flat_map incoming_of entries)) told ≡ true → lacks_hello (above p).past.accepted heard ≡ true
    lacks_above lacks = by_flag (lacks_hello_among (issued_from 1 (sent_in deeds)) (heard_in deeds)) refl
      where
        below_lacks : lacks_hello_behind (redirects_of commands) (bound_run.spoken peer calls) ≡ true
        below_lacks = ap (λ ss. lacks_hello_behind (redirects_of commands) (ss ++ tells_from [] deeds)) (sym own_is) ∙ ap (λ ts. lacks_hello_behind ts told) (sym redirects_are) ∙ lacks

        by_flag : (flag : Bool) → lacks_hello_among (issued_from 1 (sent_in deeds)) (heard_in deeds) ≡ flag → lacks_hello (above p).past.accepted heard ≡ true
        by_flag true is =
            ap (λ is. lacks_hello is heard) (accepted peer calls bound) ∙ (tells peer calls).lacks (issued_from 1 (sent_in deeds))
            ∙ ap (lacks_hello_among (issued_from 1 (sent_in deeds))) (sym h.messages) ∙ is
        by_flag false is = absurd (clashes (lacks_hello_behind (redirects_of commands) (bound_run.spoken peer calls)) (greeted peer calls bound numbered is) below_lacks)

    awaits : lacks_hello_behind (redirects_among (flat_map incoming_of entries)) told ≡ true → AwaitsHello v
    awaits lacks =
        let r = all_reopening value_services None (unwrap_or p.connection []) opened (lacks_above lacks) in
        record {
          bound = bound;
          state = subst (λ (o : Option Upper). IfSome o (λ e. e.state ≡ Reopening)) (sym upper) r.state_is;
          answered = subst (λ (o : Option Upper). IfSome o (λ e. e.redirect ≡ None)) (sym upper) r.answered;
        }

  -- ---- Where it stands

  as_bind : (bind : Bind) → v.bind ≡ bind → ((token : List ℕ) → Lacks (below p) told token → WaitsFor bind v token) → ((token : List ℕ) → WaitsFor bind v token → Lacks (below p) told token)
      → (lacks_hello_behind (redirects_among (flat_map incoming_of entries)) told ≡ true → AwaitsHello v) → LeavesUnanswered run told
  as_bind bind is lacks waits hello = record {
    lacks = λ token some. subst (λ b. WaitsFor b v token) (sym is) (lacks token some);
    waits = λ token some. waits token (subst (λ b. WaitsFor b v token) is some);
    hello = hello;
  }

  leaves : (bind : Bind) → v.bind ≡ bind → is_closed v.lower.state ≡ false → LeavesUnanswered run told
  leaves Unbound is unclosed =
      let stands : StandsWell Unbound v p = subst (λ b. StandsWell b v p) is h.stands in
      let none = none_left p.is_bound v.bind v.redirect says.left (inl is) says.left_is in
      as_bind Unbound is (λ token lacks. no_one token (says.left) none stands.2 (lacks_some token lacks)) (λ token waits. absurd waits)
      (λ lacks. absurd (clashes (lacks_hello_behind (redirects_among (flat_map incoming_of entries)) told) (none_done stands.2) lacks))
    where
      no_one : (token : List ℕ) (left : List Asked) → left ≡ [] → p.is_bound ≡ false → IsOneOf token left ⊎ IsOneOf token (sent_in deeds) → ⊥
      no_one token left none off (inl one) = subst (IsOneOf token) none one
      no_one token left none off (inr one) = none_sent off token one
  leaves Opening is unclosed =
      let stands : StandsWell Opening v p = subst (λ b. StandsWell b v p) is h.stands in
      let left_is : IsLeft Opening v.redirect says.left = subst (λ b. LeftIn false b v.redirect says.left) is (subst (λ flag. LeftIn flag v.bind v.redirect says.left) stands.2 says.left_is) in
      as_bind Opening is (λ token lacks. left_one token left_is stands.2 (lacks_some token lacks)) (λ token waits. left_lacks token left_is stands.2 waits)
      (λ lacks. absurd (clashes (lacks_hello_behind (redirects_among (flat_map incoming_of entries)) told) (none_done stands.2) lacks))
    where
      left_one : (token : List ℕ) → IsLeft Opening v.redirect says.left → p.is_bound ≡ false → IsOneOf token says.left ⊎ IsOneOf token (sent_in deeds) → v.redirect ≡ Some token
      left_one token left_is off (inl one) = only token left_is.0 left_is.2 (subst (IsOneOf token) left_is.1 one)
        where
          only : (token : List ℕ) (c : Asked) → v.redirect ≡ Some c.token → IsOneOf token (c ∷ []) → v.redirect ≡ Some token
          only token c redirect (inl same) = redirect ∙ ap (λ t. Some t) same
          only token c redirect (inr none) = absurd none
      left_one token left_is off (inr one) = absurd (none_sent off token one)

      left_lacks : (token : List ℕ) → IsLeft Opening v.redirect says.left → p.is_bound ≡ false → v.redirect ≡ Some token → Lacks (below p) told token
      left_lacks token left_is off redirect =
          let both : ◌≡◌ {A = Option (List ℕ)} (Some left_is.0.token) (Some token) = sym left_is.2 ∙ redirect in
          let same : left_is.0.token ≡ token = cc in
          let one : IsOneOf token (says.left ++ asked_in deeds) = one_left token says.left (asked_in deeds) (subst (IsOneOf token) (sym left_is.1) (inl same)) in
          record { taken = taken_one token one; unanswered = ap (answers_among token) (told_own off) ∙ own_unanswered token one }
  leaves Bound is unclosed =
      let stands : StandsWell Bound v p = subst (λ b. StandsWell b v p) is h.stands in
      let none = none_left p.is_bound v.bind v.redirect says.left (inr is) says.left_is in
      as_bind Bound is (λ token lacks. sent_one token none stands.1 lacks (lacks_some token lacks)) (λ token waits. pending_lacks is stands.1 token waits) (λ lacks. awaits is stands.1 lacks)
    where
      sent_one : (token : List ℕ) → says.left ≡ [] → is_free v.upper ≡ false → Lacks (below p) told token → IsOneOf token says.left ⊎ IsOneOf token (sent_in deeds) → Contains (pending_below v.upper) token
      sent_one token none upper_open lacks (inl one) = absurd (subst (IsOneOf token) none one)
      sent_one token none upper_open lacks (inr one) = sent_pends is upper_open token lacks one
  leaves Closed is unclosed =
      let stands : StandsWell Closed v p = subst (λ b. StandsWell b v p) is h.stands in
      absurd (clashes (is_closed v.lower.state) unclosed stands.0)

  pub leaves_unanswered : is_closed v.lower.state ≡ false → (spoken : List Spoken) → AreSpoken spoken → filter is_message (below p).past.queued ≡ all_said spoken → LeavesUnanswered run spoken
  leaves_unanswered unclosed spoken formed are = subst (LeavesUnanswered run) (sym (spoken_is spoken formed are)) (leaves v.bind refl unclosed)

pub always_leaves : AfterAllCalls AnswersWhatItCan
always_leaves peer calls unclosed numbered spoken formed are = leaves_unanswered peer calls numbered unclosed spoken formed are
