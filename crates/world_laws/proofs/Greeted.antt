-- A client that took no more than messages of value-adds sent no more commands than these answered.
use Rattle.std.proofs.Common.{◌≡◌, ℕ, suc, ◌+◌, ◌<◌, ◌≤◌, ◌⊎◌, inl, inr, Bool, true, false, List, [], ◌∷◌, ◌++◌, length, map, None, refl, sym, ap, ◌∙◌, subst, arith, append_assoc, length-append}
use Rattle.std.specs.Prelude.{decimal, ◌^◌}
use Rattle.std.specs.List.{AllByRecursion, filter, flat_map, list_any}
use Rattle.std.proofs.lemmas.List.{map-append}
use Rattle.std.proofs.lemmas.List.Concat.{flat_map-append}
use Rattle.channel_core.specs.Arrivals.{AreSpoken, Spoken, comes_as}
use Rattle.channel_core.specs.Greeting.{is_greeting}
use Rattle.channel_core.specs.ReceivingLaws.{incoming_of}
use Rattle.channel_core.specs.RunLaws.{is_command, sent_of}
use Rattle.channel_core.specs.Runs.{Run}
use Rattle.channel_core.specs.Wire.{answers, is_done, is_redirect, said_in}
use Rattle.channel_core.specs.declared.held.Incoming.{Incoming}
use Rattle.channel_core.specs.declared.taking.Taken.{Taken}
use Rattle.channel_core.specs.declared.taking.Taken.TheVariants as taken
use Rattle.channel_laws.specs.Redirects.{IsReleased}
use Rattle.client_node.specs.Client.{client_services, new_client}
use Rattle.client_node.specs.Ends.{HasNames, client_end, end_calls, issued_as}
use Rattle.client_node.specs.Runs.{Call as ClientCall, no_past, past_of}
use Rattle.list_laws.specs.Fronts.{IsFront}
use Rattle.list_laws.proofs.Fronts.{front_each, front_none}
use Rattle.tcf_message.specs.Message.{IsWellFormed, final}
use Rattle.tcf_text.specs.Lines.{Accepted}
use Rattle.chain_heard.specs.Heard.{asked_as, heard_in, incoming, messages_of}
use Rattle.chain_told.specs.Told.{numbered}
use Rattle.value_node.specs.Asked.{Asked}
use Rattle.value_node.specs.Own.{redirect_done}
use Rattle.value_node.specs.OwnLaws.{IsBoundBy}
use Rattle.value_node.specs.OwnMessages.{IsOwn, OwnStep, a_hello, a_result, an_unknown}
use Rattle.chain_through.proofs.OwnTold.{own_parts}
use Rattle.channel_core.proofs.TheLaws.{sends_in_order, waits_for_hello}
use Rattle.channel_laws.proofs.TheLaws.{holds_behind_redirects}
use Rattle.world_laws.proofs.Accepted.{AreCounted, counted_front, numbered_counted}
use Rattle.world_laws.proofs.Lists.{Split, no_more, split_mapped}
use Rattle.world_laws.proofs.Own.{AnswersNot, last_unanswered, said_as}
use Rattle.world_laws.proofs.Replying.{incoming_same}
use Rattle.world_laws.proofs.Sending.{heard_is, sent_commands, sent_counted, sent_issued}
use Rattle.list_laws.proofs.AllLists.{all_right as all_back}
use Rattle.list_laws.proofs.Lists.{none_before as first_nothing, none_mapped}

-- without value-adds nothing is answered; else the last that one answered is the redirect that bound the way
abbrev pub BindsBy : List Asked → List Spoken → Type 0
BindsBy answered own = ((answered ≡ []) × (own ≡ [])) ⊎ IsBoundBy own (numbered 1 answered)

-- ---- Nothing was taken

no_greeting : (what : List (Taken ℕ)) → flat_map incoming_of what ≡ [] → list_any is_greeting what ≡ false
no_greeting [] none = refl
no_greeting (taken.Hello i ∷ what) none = let some : i ∷ flat_map incoming_of what ≡ [] = none in absurd cc
no_greeting (taken.Command i ∷ what) none = let some : i ∷ flat_map incoming_of what ≡ [] = none in absurd cc
no_greeting (taken.Event i ∷ what) none = let some : i ∷ flat_map incoming_of what ≡ [] = none in absurd cc
no_greeting (taken.Progress number i ∷ what) none = let some : i ∷ flat_map incoming_of what ≡ [] = none in absurd cc
no_greeting (taken.Final number i ∷ what) none = let some : i ∷ flat_map incoming_of what ≡ [] = none in absurd cc
no_greeting (taken.Closed cause ∷ what) none = no_greeting what none

behind_none : {A : Type 0} → (xs ys : List A) → xs ≡ [] → [] ≡ xs ++ ys → ys ≡ []
behind_none xs ys none is = sym (is ∙ ap (λ l. l ++ ys) none)

-- ---- The last of the messages is the one that was taken

abbrev IsNoAnswer : ℕ → Incoming → Type 0
IsNoAnswer number i = (done : Bool) → said_in i.raw ≡ answers (decimal number) done → ⊥

record IsLast (i last : Incoming) (behind : List Incoming) : Type 0 where
  same : i ≡ last
  none : behind ≡ []

last_is : (number : ℕ) (done : Bool) (xs : List Incoming) (i : Incoming) (ys zs : List Incoming) (last : Incoming) → said_in i.raw ≡ answers (decimal number) done → AllByRecursion (IsNoAnswer number) zs
    → xs ++ i ∷ ys ≡ zs ++ last ∷ [] → IsLast i last ys
last_is number done [] i ys [] last says none is = let one : i ≡ last = cc in let two : ys ≡ [] = cc in record { same = one; none = two }
last_is number done (x ∷ xs) i ys [] last says none is = let rest : xs ++ i ∷ ys ≡ [] = cc in absurd (no_more xs i ys rest)
last_is number done [] i ys (z ∷ zs) last says none is = let one : i ≡ z = cc in absurd (none.0 done (ap (λ j. said_in j.raw) (sym one) ∙ says))
last_is number done (x ∷ xs) i ys (z ∷ zs) last says none is =
    let rest : xs ++ i ∷ ys ≡ zs ++ last ∷ [] = cc in last_is number done xs i ys zs last says none.1 rest

no_answers : (number : ℕ) (spoken : List Spoken) → AllByRecursion (AnswersNot number) spoken → AllByRecursion (IsNoAnswer number) (map comes_as spoken)
no_answers number [] each = tt
no_answers number (s ∷ spoken) each = (each.0, no_answers number spoken each.1)

done_so : is_done redirect_done ≡ true
unfolding redirect_done
done_so = refl

-- a result stands for one command
final_takes : (commands left : List Asked) (token body : List ℕ) → OwnStep commands (final token body) left → length commands ≡ suc (length left)
final_takes commands left token body (a_hello other is same) = absurd cc
final_takes commands left token body (a_result c other is at split) = ap length split
final_takes commands left token body (an_unknown c is split) = absurd cc

one_of : (x : Accepted) (xs : List Accepted) (a : Asked) → map asked_as (x ∷ xs) ≡ a ∷ [] → (asked_as x ≡ a) × (xs ≡ [])
one_of x xs a is =
    let here : asked_as x ≡ a = cc in
    let rest : map asked_as xs ≡ [] = cc in (here, none_mapped asked_as xs rest)

counted_last : (token : ℕ) (front : List Accepted) (x : Accepted) → AreCounted token (front ++ x ∷ []) → token + length (front ++ x ∷ []) ≡ x.number + 1
counted_last token [] x counted = let here = counted.0 in omega arith
counted_last token (c ∷ front) x counted = let rest = counted_last (token + 1) front x counted.1 in omega arith

module _ (calls : List ClientCall) (names : AllByRecursion HasNames calls) where
  abbrev run_is : Run ℕ
  run_is = client_end calls

  abbrev sent_are : List Accepted
  sent_are = sent_commands calls names

  -- where it took nothing it sent nothing
  none_sent : flat_map incoming_of run_is.past.taken ≡ [] → sent_are ≡ []
  none_sent took =
      let queued : filter is_command run_is.past.queued ≡ [] = waits_for_hello client_services None (end_calls calls new_client) (no_greeting run_is.past.taken took) in
      let sent : sent_of run_is ≡ [] = none_mapped (λ i. i.command.outgoing) (sent_of run_is) (sym (sends_in_order client_services None (end_calls calls new_client)).are_sent ∙ queued) in
      none_mapped issued_as sent_are (sym (sent_issued calls names) ∙ sent)

  -- ---- A command behind the redirect is sent only where a Hello was taken behind its answer

  module _ (own : List Spoken) (own_formed : AreSpoken own) (heard : IsFront (heard_in (past_of calls no_past)) (map incoming (messages_of own))) where
    -- the messages end with the answer to this command
    abbrev EndsWith : List Spoken → Asked → Type 0
    EndsWith before redirect = own ≡ before ++ (record { message = final redirect.token redirect_done; mark = None }) ∷ []

    -- so it has no command behind it
    held_back : (front back : List Accepted) (x y : Accepted) (before : List Spoken) (redirect : Asked) → sent_are ≡ (front ++ x ∷ []) ++ y ∷ back → asked_as x ≡ redirect → is_redirect redirect.service redirect.name ≡ true
        → EndsWith before redirect → IsOwn (map asked_as (front ++ x ∷ [])) own [] → AreCounted 1 (front ++ x ∷ []) → x.number < 2 ^ 64 → ⊥
    held_back front back x y before redirect sent named asks ends is_own counted small =
        let last : Spoken = record { message = final redirect.token redirect_done; mark = None } in
        let parts = own_parts (map asked_as (front ++ x ∷ [])) before (last ∷ []) [] (subst (λ o. IsOwn (map asked_as (front ++ x ∷ [])) o []) ends is_own) in
        let formed : AreSpoken (before ++ last ∷ []) = subst AreSpoken ends own_formed in
        let formed_before : AreSpoken before = front_each (λ s. IsWellFormed s.message) before (before ++ last ∷ []) (last ∷ [], refl) formed in
        let formed_last : AreSpoken (last ∷ []) = all_back (λ s. IsWellFormed s.message) before (last ∷ []) formed in
        let some : 1 ≤ length parts.0 = let takes = final_takes parts.0 parts.2.1.0 redirect.token redirect_done parts.2.1.1 in omega arith in
        let unanswered : AllByRecursion (AnswersNot x.number) before =
        last_unanswered 1 x.number (front ++ x ∷ []) before parts.0 counted (counted_last 1 front x counted) small formed_before some parts.1 in
        let issued : sent_of run_is ≡ map issued_as front ++ issued_as x ∷ issued_as y ∷ map issued_as back =
        sent_issued calls names ∙ ap (map issued_as) (sent ∙ append_assoc front (x ∷ []) (y ∷ back)) ∙ map-append issued_as front (x ∷ y ∷ back) in
        let released : IsReleased x.number run_is.past.taken =
        holds_behind_redirects client_services None (end_calls calls new_client) (map issued_as front) (map issued_as back) (issued_as x) (issued_as y) issued (ap (λ a. is_redirect a.service a.name) named ∙ asks) in
        let first : List Incoming = flat_map incoming_of released.earlier in
        let second : List Incoming = flat_map incoming_of released.later in
        let took : heard_in (past_of calls no_past) ≡ first ++ released.incoming ∷ second =
        heard_is calls names ∙ ap (flat_map incoming_of) released.split ∙ flat_map-append incoming_of released.earlier (taken.Final released.tag released.incoming ∷ released.later) in
        let all : first ++ released.incoming ∷ (second ++ heard.0) ≡ map comes_as before ++ comes_as last ∷ [] =
        sym (append_assoc first (released.incoming ∷ second) heard.0) ∙ ap (λ l. l ++ heard.0) (sym took) ∙ sym heard.1 ∙ sym (incoming_same own)
        ∙ ap (map comes_as) ends ∙ map-append comes_as before (last ∷ []) in
        let at : IsLast released.incoming (comes_as last) (second ++ heard.0) =
        last_is x.number released.done first released.incoming (second ++ heard.0) (map comes_as before) (comes_as last) released.answer (no_answers x.number before unanswered) all in
        let none : second ≡ [] = first_nothing second heard.0 at.none in
        let said : answers (decimal x.number) released.done ≡ answers redirect.token (is_done redirect_done) =
        sym released.answer ∙ ap (λ i. said_in i.raw) at.same ∙ said_as (final redirect.token redirect_done) formed_last.0 in
        let flag : released.done ≡ is_done redirect_done = cc in
        let greets : list_any is_greeting released.later ≡ true = released.greeted (flag ∙ done_so) in
        let greets_not : list_any is_greeting released.later ≡ false = no_greeting released.later none in
        absurd cc

    -- ---- So none goes further

    bound_none : (answered later : List Asked) → map asked_as sent_are ≡ answered ++ later → IsOwn (numbered 1 answered) own [] → IsBoundBy own (numbered 1 answered) → length sent_are < 2 ^ 64 → later ≡ []
    bound_none answered [] split is_own b few = refl
    bound_none answered (next ∷ later) split is_own b few =
        let s : Split asked_as sent_are answered (next ∷ later) = split_mapped asked_as sent_are answered (next ∷ later) split in
        let counted : AreCounted 1 s.front = counted_front 1 s.front s.back (subst (AreCounted 1) s.whole (sent_counted calls names)) in
        let same : numbered 1 answered ≡ map asked_as s.front = ap (numbered 1) (sym s.first) ∙ numbered_counted 1 s.front counted in
        let t : Split asked_as s.front b.earlier (b.redirect ∷ []) = split_mapped asked_as s.front b.earlier (b.redirect ∷ []) (sym same ∙ b.commands_are) in
        by_lists s.front s.back t.front t.back s.whole t.whole t.second s.second counted (subst (λ cs. IsOwn cs own []) same is_own)
      where
        by_lists : (whole back front end : List Accepted) → sent_are ≡ whole ++ back → whole ≡ front ++ end → map asked_as end ≡ b.redirect ∷ [] → map asked_as back ≡ next ∷ later → AreCounted 1 whole
            → IsOwn (map asked_as whole) own [] → next ∷ later ≡ []
        by_lists whole back front [] sent parts ends more counted is = absurd cc
        by_lists whole [] front (x ∷ end) sent parts ends more counted is = absurd cc
        by_lists whole (y ∷ back) front (x ∷ end) sent parts ends more counted is =
            let one = one_of x end b.redirect ends in
            let whole_is : whole ≡ front ++ x ∷ [] = parts ∙ ap (λ l. front ++ x ∷ l) one.1 in
            let last : 1 + length (front ++ x ∷ []) ≡ x.number + 1 = counted_last 1 front x (subst (AreCounted 1) whole_is counted) in
            let size : length sent_are ≡ length (front ++ x ∷ []) + length (y ∷ back) = ap length (sent ∙ ap (λ l. l ++ y ∷ back) whole_is) ∙ length-append (front ++ x ∷ []) (y ∷ back) in
            let small : x.number < 2 ^ 64 = omega arith in
            absurd
            (held_back front back x y b.said_before b.redirect (sent ∙ ap (λ l. l ++ y ∷ back) whole_is) one.0 b.asks b.said_are (subst (λ l. IsOwn (map asked_as l) own []) whole_is is)
            (subst (AreCounted 1) whole_is counted) small)

    pub none_later : (answered later : List Asked) → map asked_as sent_are ≡ answered ++ later → IsOwn (numbered 1 answered) own [] → BindsBy answered own → length sent_are < 2 ^ 64 → later ≡ []
    none_later answered later split is_own (inl alone) few =
        let nothing : heard_in (past_of calls no_past) ≡ [] = front_none (heard_in (past_of calls no_past)) (subst (λ o. IsFront (heard_in (past_of calls no_past)) (map incoming (messages_of o))) alone.1 heard) in
        let sent : sent_are ≡ [] = none_sent (sym (heard_is calls names) ∙ nothing) in
        behind_none answered later alone.0 (sym (ap (map asked_as) sent) ∙ split)
    none_later answered later split is_own (inr b) few = bound_none answered later split is_own b few
