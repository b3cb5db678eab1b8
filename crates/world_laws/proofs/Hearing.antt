-- What a client heard of the target on a way, by what comes through it.
use Rattle.std.proofs.Common.{◌≡◌, ℕ, ◌+◌, ◌-◌, ◌^◌, ◌<◌, ◌≤◌, ◌⊎◌, inl, inr, ⊎_elim, Bool, true, false, not, List, [], ◌∷◌, ◌++◌, length, drop, map, Option, Some, None, refl, sym, ap, ◌∙◌, subst, arith, append_assoc, length-append}
use Rattle.std.specs.Prelude.{IsSome}
use Rattle.std.specs.List.{AllByRecursion}
use Rattle.std.proofs.lemmas.List.{length-map, map-append, take-append-drop}
use Rattle.std.proofs.lemmas.List.Concat.{flat_map-append}
use Rattle.agent_node.specs.AgentLaws.{FollowsHistory, asked}
use Rattle.agent_node.specs.Runs.{Past, run_of}
use Rattle.chain_told.specs.Sent.{owed_by, read_as}
use Rattle.chain_heard.specs.Heard.{AreReadable, Heard, HeardAll, HeardNoTarget, asked_as, heard_in, incoming, messages_of, through_of}
use Rattle.chain_route.specs.Carrying.{End, Made}
use Rattle.chain_through.specs.Calling.{Calls, entering, given_of}
use Rattle.chain_through.specs.Through.{Content, IsBoundThrough, IsMarked, IsUnboundThrough, Through, content, is_storable_content}
use Rattle.list_laws.proofs.Fronts.{IsMapped, front_mapped, front_whole, front_filter, front_left, left_front, front_each, front_flat, front_length, front_map, front_more, front_none, front_same, front_then}
use Rattle.list_laws.specs.Fronts.{IsFront, IsSubsequenceOf}
use Rattle.chain_through.proofs.OwnTold.{none_from, own_unmarked}
use Rattle.chain_through.proofs.Queues.{entering_formed}
use Rattle.chain_through.proofs.ToldLists.{AreFound, all_found, told_front, told_more}
use Rattle.chain_route.specs.Taking.{AllTakeAll, TakesAll, TakesAllOf}
use Rattle.chain_told.specs.Told.{AreToldRightly, ComesAt, IsOwed, IsToldRightly, is_stored, mark_of, numbered, owed_at, owed_in}
use Rattle.chain_told.proofs.Numbered.{numbered_append}
use Rattle.channel_core.specs.Arrivals.{AreSpoken, Spoken, arrived, bytes_of, queue_of, comes_as}
use Rattle.channel_core.specs.ReceivingLaws.{SendsReadable}
use Rattle.channel_core.specs.Wire.{said_by}
use Rattle.client_node.specs.Client.{new_client}
use Rattle.client_node.specs.Ends.{HasNames, client_end, end_calls}
use Rattle.client_node.specs.Runs.{Call as ClientCall, Past as ClientPast, no_past, past_of as client_past_of}
use Rattle.command_tables.specs.declared.reading.Reading.{Reading}
use Rattle.command_tables.specs.declared.reading.Reading.TheVariants as readings
use Rattle.command_tables.specs.Reading.{reading_of}
use Rattle.target_contexts.specs.declared.process.Image.{Image}
use Rattle.target_hub.specs.History.{IsLegal}
use Rattle.target_hub.specs.Received.{read}
use Rattle.target_hub.specs.Sent.{ReadCommand, executed_on, is_through}
use Rattle.target_hub.specs.declared.input.Input.{Input}
use Rattle.tcf_message.specs.Message.{IsWellFormed, MessageValue, command, event, final, flow, not_known, progress, reading}
use Rattle.tcf_text.specs.Lines.{Accepted}
use Rattle.value_node.specs.Asked.{Asked}
use Rattle.value_node.specs.Barriers.{command_in}
use Rattle.value_node.specs.OwnLaws.{IsBoundBy}
use Rattle.value_node.specs.OwnMessages.{IsOwn}
use Rattle.chain_through.proofs.Ways.{takes_all}
use Rattle.chain_heard.proofs.TheLaws.{commands_are_few}
use Rattle.tcf_message.proofs.TheLaws.{read_back}
use Rattle.world_laws.proofs.Accepted.{AreCounted, counted_front, numbered_counted}
use Rattle.world_laws.proofs.Greeted.{BindsBy, none_later}
use Rattle.world_laws.proofs.Lists.{Split, split_mapped, without_few, without_filter, without_left}
use Rattle.world_laws.proofs.Own.{own_more}
use Rattle.world_laws.proofs.Replying.{incoming_same}
use Rattle.world_laws.proofs.Sending.{all_counted, heard_is, hears, sent_commands, sent_count, sent_counted}
use Rattle.world_laws.proofs.Serving.{IsAskedFirst, content_read, contents_read, executed_front, owed_more, owed_right, told_to}
use Rattle.chain_told.proofs.Doing.{IsReadable}
use Rattle.list_laws.proofs.Lists.{none_before as first_nothing, none_behind}

-- ---- What is heard can be read

own_read : (own : List Spoken) → AreSpoken own → AreReadable (messages_of own)
own_read [] each = tt
own_read (s ∷ own) each = (read_back.1 s.message each.0, own_read own each.1)

heard_read : (heard : List Spoken) → AreSpoken heard → AllByRecursion IsReadable heard
heard_read [] each = tt
heard_read (s ∷ heard) each = (read_back.1 s.message each.0, heard_read heard each.1)

pub empty_by : {A : Type 0} → (xs : List A) → length xs ≤ 0 → xs ≡ []
empty_by [] less = refl
empty_by (x ∷ xs) less = absurd (omega arith)

-- ---- Commands as they are read

accepted_read : (commands : List Accepted) → map content_read (map content (map asked_as commands)) ≡ map read commands
accepted_read [] = refl
accepted_read (c ∷ commands) = ap (λ xs. read c ∷ xs) (accepted_read commands)

stored_not_through : (r : Reading) → is_stored (command_in r) ≡ true → is_through r ≡ false
stored_not_through (readings.Known what) is = ap not is
stored_not_through readings.Unknown is = absurd cc
stored_not_through (readings.Bad index code) is = absurd cc

abbrev goes_through : ReadCommand → Bool
goes_through c = is_through c.reading

storable_not : (c : Content) → is_storable_content c ≡ true → goes_through (content_read c) ≡ false
storable_not c is = stored_not_through (reading_of c.service c.name c.body) is

-- ---- Where nothing is owed, nothing comes behind the value-adds' own messages

-- a message with a position comes behind them
record ComesBehind (own heard : List Spoken) : Type 0 where
  s : Spoken
  rest : List Spoken
  are : heard ≡ own ++ s ∷ rest
  marked : IsMarked s

own_or_behind : (heard own target : List Spoken) → IsFront heard (own ++ target) → AllByRecursion IsMarked target → IsFront heard own ⊎ ComesBehind own heard
own_or_behind [] own target p marked = inl (own, refl)
own_or_behind (h ∷ heard) [] [] p marked = let whole : [] ≡ h ∷ (heard ++ p.0) = p.1 in absurd cc
own_or_behind (h ∷ heard) [] (t ∷ target) p marked =
    let whole : t ∷ target ≡ h ∷ (heard ++ p.0) = p.1 in
    let one : t ≡ h = cc in
    inr (record { s = h; rest = heard; are = refl; marked = subst IsMarked one marked.0 })
own_or_behind (h ∷ heard) (o ∷ own) target p marked =
    let whole : o ∷ (own ++ target) ≡ h ∷ (heard ++ p.0) = p.1 in
    let one : h ≡ o = cc in
    let tails : own ++ target ≡ heard ++ p.0 = cc in
    ⊎_elim
    (λ front. inl (front.0, ap (λ x. x ∷ own) (sym one) ∙ ap (λ l. h ∷ l) front.1))
    (λ b. inr (record { s = b.s; rest = b.rest; are = ap (λ x. x ∷ heard) one ∙ ap (λ l. o ∷ l) b.are; marked = b.marked }))
    (own_or_behind heard own target (p.0, tails) marked)

-- without a position before it, it is an event, which is owed
not_behind : (commands : List Asked) (before : List Spoken) (m : MessageValue) (mark : Option ℕ) → IsSome mark → IsOwed commands before m → ComesAt (said_by m) None mark → owed_at commands m mark ≡ [] → ⊥
not_behind commands before m None some owed placed none = absurd cc
not_behind commands before (command token service name body) (Some position) some owed placed none = absurd owed
not_behind commands before (final token body) (Some position) some owed placed none = absurd cc
not_behind commands before (progress token body) (Some position) some owed placed none = absurd cc
not_behind commands before (not_known token) (Some position) some owed placed none = absurd cc
not_behind commands before (event service name body) (Some position) some owed placed none = absurd cc
not_behind commands before (flow level) (Some position) some owed placed none = absurd owed

module _ (images : List Image) (history : List Input) (commands : List Asked) (heard own : List Spoken) (told : AreToldRightly images history commands heard) (none : owed_in commands heard ≡ []) (unmarked : mark_of own ≡ None) where
  not_there : ComesBehind own heard → ⊥
  not_there b =
      let rightly : IsToldRightly images history commands own b.s = told own b.rest b.s b.are in
      let parts : owed_in commands own ++ (owed_at commands b.s.message b.s.mark ++ owed_in commands b.rest) ≡ [] =
      sym (flat_map-append (λ (s : Spoken). owed_at commands s.message s.mark) own (b.s ∷ b.rest)) ∙ ap (owed_in commands) (sym b.are) ∙ none in
      let here : owed_at commands b.s.message b.s.mark ≡ [] =
      first_nothing (owed_at commands b.s.message b.s.mark) (owed_in commands b.rest) (none_behind (owed_in commands own) (owed_at commands b.s.message b.s.mark ++ owed_in commands b.rest) parts) in
      not_behind commands own b.s.message b.s.mark b.marked rightly.owed (subst (λ mark. ComesAt (said_by b.s.message) mark b.s.mark) unmarked rightly.placed) here

  own_alone : (target : List Spoken) → AllByRecursion IsMarked target → IsFront heard (own ++ target) → IsFront heard own
  own_alone target marked p = ⊎_elim (λ front. front) (λ b. absurd (not_there b)) (own_or_behind heard own target p marked)

-- ---- A client

module _ (calls : List ClientCall) (names : AllByRecursion HasNames calls) where
  abbrev client_past : ClientPast
  client_past = client_past_of calls no_past

  abbrev sent_are : List Accepted
  sent_are = sent_commands calls names

  abbrev held_are : List Accepted
  held_are = drop (sent_count calls names) client_past.commands

  abbrev asked_are : List Asked
  asked_are = map asked_as client_past.commands

  abbrev gave_up : List Asked
  gave_up = map asked_as sent_are

  abbrev keeps : List Asked
  keeps = map asked_as held_are

  whole_commands : client_past.commands ≡ sent_are ++ held_are
  whole_commands = sym (take-append-drop (sent_count calls names) client_past.commands)

  whole_asked : asked_are ≡ gave_up ++ keeps
  whole_asked = ap (map asked_as) whole_commands ∙ map-append asked_as sent_are held_are

  sent_numbered : numbered 1 gave_up ≡ gave_up
  sent_numbered = numbered_counted 1 sent_are (sent_counted calls names)

  all_numbered : numbered 1 asked_are ≡ asked_are
  all_numbered = numbered_counted 1 client_past.commands (all_counted calls names)

  pub sent_few : length sent_are < 2 ^ 64
  sent_few =
      let all : length client_past.commands ≡ length sent_are + length held_are = ap length whole_commands ∙ length-append sent_are held_are in
      let few : length client_past.commands < 2 ^ 64 = commands_are_few calls in omega arith

  pub asked_few : length gave_up < 2 ^ 64
  asked_few = let same : length gave_up ≡ length sent_are = length-map sent_are asked_as in let few = sent_few in omega arith

  all_few : length asked_are < 10 ^ 64
  all_few =
      let same : length asked_are ≡ length client_past.commands = length-map client_past.commands asked_as in
      let few : length client_past.commands < 2 ^ 64 = commands_are_few calls in omega arith

  -- ---- On a way on which all value-adds are bound, or one isn't

  module _ (images : List Image) (history : List Input) (lower : End) (said : List Spoken) (said_calls : Calls gave_up lower.gave) (made : List Made) (t : Through images history gave_up lower said_calls made said)
      (came : lower.came ≡ arrived (end_calls calls new_client)) where
    -- it heard the first of the messages that come down
    heard_down : IsMapped comes_as (entering t.down) (heard_in client_past)
    heard_down =
        let comes : IsFront (arrived (end_calls calls new_client)) (bytes_of (queue_of t.down t.is_ended)) = subst (λ bytes. IsFront bytes (bytes_of (queue_of t.down t.is_ended))) came t.comes_down in
        front_mapped comes_as (entering t.down) (heard_in client_past) (hears calls names t.down t.is_ended t.formed comes)

    abbrev heard_are : List Spoken
    heard_are = heard_down.origin

    as_own : IsFront heard_are t.own → IsFront (heard_in client_past) (map incoming (messages_of t.own))
    as_own front =
        let p : IsFront (map comes_as heard_are) (map comes_as t.own) = front_map comes_as heard_are t.own front in
        (p.0, sym (ap (λ l. l ++ p.0) heard_down.are ∙ sym p.1 ∙ incoming_same t.own))

    heard_formed : AreSpoken heard_are
    heard_formed = front_each (λ s. IsWellFormed s.message) heard_are (entering t.down) heard_down.front (entering_formed t.down t.formed)

    none_heard : (left : List Asked) → IsOwn asked_are t.own left → IsFront (entering t.down) t.own → HeardNoTarget client_past
    none_heard left is_own front = record {
      own = t.own;
      left = left;
      is_own = is_own;
      begins = t.begins;
      told = as_own (front_then heard_are (entering t.down) t.own heard_down.front front);
      readable = own_read t.own t.own_formed;
      few = commands_are_few calls;
    }

    -- a value-add isn't bound
    pub unbound_heard : IsUnboundThrough gave_up t.top t.own (entering t.down) → HeardNoTarget client_past
    unbound_heard u =
        none_heard (u.left ++ keeps)
        (subst (λ cs. IsOwn cs t.own (u.left ++ keeps)) (sym whole_asked)
        (own_more gave_up t.own u.left keeps (subst (λ cs. IsOwn cs t.own u.left) sent_numbered u.is_own)))
        u.comes_down

    -- ---- It is told rightly, with all the commands that the client accepted

    abbrev given_are : List Asked
    given_are = given_of gave_up said_calls.spoken

    abbrev count : ℕ
    count = length (entering said_calls.spoken) - 1

    abbrev behind_given : List Asked
    behind_given = drop count gave_up

    given_parts : gave_up ≡ given_are ++ behind_given
    given_parts = sym (take-append-drop count gave_up)

    all_parts : asked_are ≡ given_are ++ (behind_given ++ keeps)
    all_parts = whole_asked ∙ ap (λ l. l ++ keeps) given_parts ∙ append_assoc given_are behind_given keeps

    down_told : AreToldRightly images history asked_are (entering t.down)
    down_told =
        subst (λ cs. AreToldRightly images history cs (entering t.down)) (ap (numbered 1) (sym all_parts) ∙ all_numbered)
        (told_more images history given_are (behind_given ++ keeps) (subst (λ cs. length cs < 10 ^ 64) all_parts all_few) (entering t.down) t.told)

    heard_told : AreToldRightly images history asked_are heard_are
    heard_told = told_front images history asked_are heard_are (entering t.down) heard_down.front down_told

    found_given : AreFound (numbered 1 given_are) (entering t.down)
    found_given = all_found images history (numbered 1 given_are) (entering t.down) t.told

    owed_given : (more : List Asked) → owed_in (numbered 1 (given_are ++ more)) (entering t.down) ≡ owed_in (numbered 1 given_are) (entering t.down)
    owed_given more =
        ap (λ cs. owed_in cs (entering t.down)) (numbered_append 1 given_are more) ∙ owed_more (numbered 1 given_are) (numbered (1 + length given_are) more) (entering t.down) found_given

    down_owed : owed_in asked_are (entering t.down) ≡ owed_in (numbered 1 gave_up) (entering t.down)
    down_owed =
        ap (λ cs. owed_in cs (entering t.down)) (sym all_numbered ∙ ap (numbered 1) all_parts) ∙ owed_given (behind_given ++ keeps)
        ∙ sym (ap (λ cs. owed_in (numbered 1 cs) (entering t.down)) given_parts ∙ owed_given behind_given)

    module _ (b : IsBoundThrough gave_up made t.top t.own said (entering t.down)) where
      -- the commands that the value-adds answered, and the others
      parts : Split asked_as sent_are b.answered b.later
      parts = split_mapped asked_as sent_are b.answered b.later b.split

      answered_counted : AreCounted 1 parts.front
      answered_counted = counted_front 1 parts.front parts.back (subst (AreCounted 1) parts.whole (sent_counted calls names))

      answered_numbered : numbered 1 b.answered ≡ map asked_as parts.front
      answered_numbered = ap (numbered 1) (sym parts.first) ∙ numbered_counted 1 parts.front answered_counted

      abbrev later_are : List Accepted
      later_are = parts.back ++ held_are

      commands_are : client_past.commands ≡ parts.front ++ later_are
      commands_are = whole_commands ∙ ap (λ cs. cs ++ held_are) parts.whole ∙ append_assoc parts.front parts.back held_are

      is_own : IsOwn (map asked_as parts.front) t.own []
      is_own = subst (λ cs. IsOwn cs t.own []) answered_numbered b.is_own

      -- where the target said nothing
      pub bound_heard : said ≡ [] → HeardNoTarget client_past
      bound_heard none =
          let whole : asked_are ≡ map asked_as parts.front ++ map asked_as later_are = ap (map asked_as) commands_are ∙ map-append asked_as parts.front later_are in
          let owed : owed_in asked_are (entering t.down) ≡ [] =
          down_owed ∙ front_none (owed_in (numbered 1 gave_up) (entering t.down))
          (front_same (owed_in (numbered 1 gave_up) (entering t.down)) (owed_in (numbered 1 t.top) said) [] (ap (owed_in (numbered 1 t.top)) none) b.owed) in
          let unmarked : mark_of t.own ≡ None = none_from t.own (own_unmarked (numbered 1 b.answered) [] t.own b.is_own) in
          none_heard (map asked_as later_are) (subst (λ cs. IsOwn cs t.own (map asked_as later_are)) (sym whole) (own_more (map asked_as parts.front) t.own [] (map asked_as later_are) is_own))
          (own_alone images history asked_are (entering t.down) t.own down_told owed unmarked b.comes_down.target b.comes_down.marked b.comes_down.front)

      binds : BindsBy b.answered t.own
      binds = by_made made b.alone b.bound_by
        where
          by_made : (some : List Made) → (some ≡ [] → (b.answered ≡ []) × (t.own ≡ [])) → ((some ≡ [] → ⊥) → IsBoundBy t.own (numbered 1 b.answered)) → BindsBy b.answered t.own
          by_made [] alone bound = inl (alone refl)
          by_made (m ∷ some) alone bound = inr (bound (λ is. absurd cc))

      -- ---- On a channel that was opened

      module _ (past : Past) (legal : IsLegal images history) (follows : FollowsHistory images history past) (readable : SendsReadable past.calls)
          (a : IsAskedFirst 1 (asked (run_of past)) t.top) (said_is : said ≡ told_to images history past) where
        abbrev executed : List ReadCommand
        executed = executed_on past.number history

        abbrev top_read : List ReadCommand
        top_read = map content_read (map content t.top)

        abbrev asked_read : List ReadCommand
        asked_read = map content_read b.goes_up.asked

        executes : IsFront executed top_read
        executes =
            front_same executed (map read_as t.top) top_read (contents_read t.top) (executed_front images history past legal follows readable t.top a)

        -- the commands of which the others go up, as they are read
        later_read : map content_read (map content b.later) ≡ map read parts.back
        later_read = ap (λ cs. map content_read (map content cs)) (sym parts.second) ∙ accepted_read parts.back

        asked_front : IsFront asked_read (map read later_are)
        asked_front =
            front_same asked_read (map read parts.back ++ map read held_are) (map read later_are) (sym (map-append read parts.back held_are))
            (front_more asked_read (map read parts.back) (map read held_are)
            (front_same asked_read (map content_read (map content b.later)) (map read parts.back) later_read (front_map content_read b.goes_up.asked (map content b.later) b.goes_up.front)))

        top_few : length t.top < 10 ^ 64
        top_few =
            let one : length (map content t.top) ≤ length b.goes_up.asked = without_few is_storable_content (map content t.top) b.goes_up.asked b.goes_up.sent in
            let two = front_length b.goes_up.asked (map content b.later) b.goes_up.front in
            let three : length (map content t.top) ≡ length t.top = length-map t.top content in
            let four : length (map content b.later) ≡ length b.later = length-map b.later content in
            let five : length gave_up ≡ length b.answered + length b.later = ap length b.split ∙ length-append b.answered b.later in
            let six = asked_few in omega arith

        is_asked : IsSubsequenceOf executed (map read later_are)
        is_asked =
            left_front executed asked_read (map read later_are)
            (front_left executed top_read asked_read executes (without_left content_read is_storable_content (map content t.top) b.goes_up.asked b.goes_up.sent))
            asked_front

        goes : IsFront (through_of executed) (through_of (map read later_are))
        goes =
            let one : IsFront (through_of executed) (through_of top_read) = front_filter goes_through executed top_read executes in
            let same : through_of top_read ≡ through_of asked_read = without_filter content_read is_storable_content goes_through storable_not (map content t.top) b.goes_up.asked b.goes_up.sent in
            let two : IsFront (through_of asked_read) (through_of (map read later_are)) = front_filter goes_through asked_read (map read later_are) asked_front in
            front_then (through_of executed) (through_of asked_read) (through_of (map read later_are)) (front_same (through_of executed) (through_of top_read) (through_of asked_read) same one) two

        owed : IsFront (owed_in asked_are heard_are) (owed_by images past.number history)
        owed =
            let heard : IsFront (owed_in asked_are heard_are) (owed_in asked_are (entering t.down)) = front_flat (λ (s : Spoken). owed_at asked_are s.message s.mark) heard_are (entering t.down) heard_down.front in
            let top : IsFront (owed_in asked_are (entering t.down)) (owed_in (numbered 1 t.top) said) = subst (λ l. IsFront l (owed_in (numbered 1 t.top) said)) (sym down_owed) b.owed in
            let owes : owed_in (numbered 1 t.top) said ≡ owed_by images past.number history =
            ap (owed_in (numbered 1 t.top)) said_is ∙ owed_right images history past legal follows readable t.top a top_few in
            front_then (owed_in asked_are heard_are) (owed_in asked_are (entering t.down)) (owed_by images past.number history) heard
            (front_same (owed_in asked_are (entering t.down)) (owed_in (numbered 1 t.top) said) (owed_by images past.number history) owes top)

        greeted_first : IsFront heard_are t.own → executed ≡ []
        greeted_first heard =
            let none : b.later ≡ [] = none_later calls names t.own t.own_formed (as_own heard) b.answered b.later b.split b.is_own binds sent_few in
            let asked_none : b.goes_up.asked ≡ [] = front_none b.goes_up.asked (front_same b.goes_up.asked (map content b.later) [] (ap (map content) none) b.goes_up.front) in
            let fewer : length (map content t.top) ≤ length b.goes_up.asked = without_few is_storable_content (map content t.top) b.goes_up.asked b.goes_up.sent in
            let top_none : map content t.top ≡ [] = empty_by (map content t.top) (subst (λ l. length (map content t.top) ≤ length l) asked_none fewer) in
            front_none executed (front_same executed top_read [] (ap (map content_read) top_none) executes)

        pub target_heard : Heard images history past.number past.position client_past
        target_heard = record {
          own = t.own;
          answered = parts.front;
          later = later_are;
          commands = commands_are;
          is_own = is_own;
          begins = t.begins;
          legal = legal;
          opened = follows.opened;
          heard = heard_are;
          are = heard_down.are;
          readable = heard_read heard_are heard_formed;
          parts = record {
            target = b.comes_down.target;
            marked = b.comes_down.marked;
            front = front_then heard_are (entering t.down) (t.own ++ b.comes_down.target) heard_down.front b.comes_down.front;
          };
          told = heard_told;
          owed = owed;
          asked = is_asked;
          through = goes;
          greeted_first = greeted_first;
          few = commands_are_few calls;
        }

        -- where each end on the way took all that was said above it, it heard all that the history owes
        pub target_all : TakesAllOf (client_end calls) made said → AllTakeAll made said → HeardAll images history past.number client_past target_heard.heard
        unfolding target_heard
        target_all takes all =
            let took : TakesAll (client_end calls) (entering t.down) = takes_all (client_end calls) made said (entering t.down) (entering_formed t.down t.formed) t.says_all takes in
            let whole : heard_are ≡ entering t.down =
            front_whole comes_as heard_are (entering t.down) heard_down.front (sym heard_down.are ∙ heard_is calls names ∙ took) in
            ap (owed_in asked_are) whole ∙ down_owed ∙ b.all_owed all ∙ ap (owed_in (numbered 1 t.top)) said_is
            ∙ owed_right images history past legal follows readable t.top a top_few
