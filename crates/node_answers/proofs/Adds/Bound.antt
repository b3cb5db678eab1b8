-- A bound value-add has answered all that it took, where what it sent above was answered there, and it holds nothing.
use Rattle.std.proofs.Common.{◌≡◌, ℕ, ◌+◌, ◌-◌, ◌^◌, ◌≤◌, true, false, List, [], ◌∷◌, ◌++◌, length, map, None, refl, sym, ap, ap₂, ◌∙◌, subst, arith, append-nil}
use Rattle.std.specs.Prelude.{option_to_list, take, unwrap_or}
use Rattle.std.specs.List.{AllByRecursion, filter, flat_map}
use Rattle.std.proofs.lemmas.List.{map-append}
use Rattle.channel_core.specs.Arrivals.{AreSpoken, Spoken, all_said}
use Rattle.channel_core.specs.QueueLaws.{is_message}
use Rattle.channel_core.specs.ReceivingLaws.{CanBeRead, incoming_of}
use Rattle.channel_core.specs.RunLaws.{sent_of}
use Rattle.channel_core.specs.Runs.{Issued}
use Rattle.channel_core.specs.Wire.{said}
use Rattle.channel_core.specs.declared.taking.Taken.{Taken}
use Rattle.channel_laws.specs.Meeting.{AnswersAll, IsFree, answers_among, lacks_hello_behind}
use Rattle.channel_laws.specs.Numbering.{TakesNumbered, tokens_among}
use Rattle.channel_laws.specs.Rest.{IsAsSaid, TellsAsMessages, answered_among, hello_among, lacks_hello, lacks_hello_among}
use Rattle.channel_laws.proofs.Rest.AsSaid.{all_as_said, all_tell}
use Rattle.channel_laws.proofs.Rest.Meeting.{entering, entering_formed, queued_said}
use Rattle.channel_laws.proofs.Rest.Spelling.{AreSpelled, IsSpelled, same_said}
use Rattle.value_node.specs.Asked.{Asked}
use Rattle.value_node.specs.Deeds.{Deed, asked_in, deeds_from, heard_in, sent_in}
use Rattle.value_node.specs.ForwardedValue.{ForwardedValue}
use Rattle.value_node.specs.OwnLaws.{AnswersItself, asked_until}
use Rattle.value_node.specs.RelayLaws.{PassesAllOn, StandsWell, asked_by, told_from}
use Rattle.value_node.specs.Runs.{Call, Past, ValueRun, above, after_all, below, no_calls}
use Rattle.value_node.specs.Value.{value_services}
use Rattle.value_node.specs.declared.states.Bind.{Bind}
use Rattle.value_node.specs.declared.states.Bind.TheVariants.{Bound}
use Rattle.value_node.proofs.Answering.{IsAnswering, always_answering}
use Rattle.value_node.proofs.Holding.{Holds, issued_from, issued_length}
use Rattle.value_node.proofs.HoldsCalled.{IsHeld, always_held}
use Rattle.value_node.proofs.HoldsOwn.{always_answers}
use Rattle.value_node.proofs.HoldsSaid.{always_passes}
use Rattle.value_node.proofs.OwnAnswers.{IsLeft}
use Rattle.channel_core.proofs.TheLaws.{queues_readable}
use Rattle.node_answers.proofs.Adds.BoundAnswered.{all_told}
use Rattle.node_answers.proofs.Adds.Apart.{AreApart, numbered_apart, tokens_of}
use Rattle.node_answers.proofs.Adds.BoundAsked.{IsWritten, all_written, asked_both}
use Rattle.node_answers.proofs.Adds.BoundGreeted.{all_greeted, own_greeted}
use Rattle.node_answers.proofs.Adds.BoundOwn.{AreAnsweredIn, own_answers, own_spelled}
use Rattle.node_answers.proofs.Adds.BoundTokens.{RedirectsWhereNamed, each_redirects}
use Rattle.node_answers.proofs.Adds.Own.{value_hello}
use Rattle.node_answers.proofs.Adds.Taken.{redirects_of, redirects_taken, taken_answered, tokens_taken}
use Rattle.node_answers.proofs.Adds.BoundTold.{answered_before, answered_later, hello_told, tells_from, tells_spelled, told_so}
use Rattle.list_laws.proofs.AllLists.{all_append, all_left, all_right, all_then}

take_all : {A : Type 0} → (xs : List A) (held : ℕ) → held ≡ 0 → take (length xs - held) xs ≡ xs
take_all {A = A} xs held none = let same : length xs - held ≡ length xs = omega arith in ap (λ n. take n xs) same ∙ whole xs
  where
    whole : (ys : List A) → take (length ys) ys ≡ ys
    whole [] = refl
    whole (y ∷ ys) = ap (λ zs. y ∷ zs) (whole ys)

none_left : (left : List Asked) → map (λ (c : Asked). c.token) left ≡ [] → left ≡ []
none_left [] none = refl
none_left (c ∷ left) none = absurd cc

-- ---- One value-add

module _ (peer : List ℕ) (calls : List Call) where
  abbrev pub run : ValueRun
  run = after_all calls (no_calls peer)

  abbrev pub past : Past
  past = run.past

  abbrev pub held : IsHeld run (deeds_from calls (no_calls peer))
  held = always_held peer calls

  abbrev pub h : Holds run.value.relay run.past
  h = held.holds

  abbrev pub deeds : List Deed
  deeds = h.deeds

  abbrev pub entries : List (Taken Unit)
  entries = (below past).past.taken

  pub as_said : AllByRecursion IsAsSaid entries
  as_said = all_as_said value_services None (past.until_bound ++ past.since_bound)

  -- what it took from below
  abbrev pub commands : List Asked
  commands = asked_until past ++ asked_in deeds

  pub asked_are : flat_map asked_by entries ≡ commands
  asked_are = asked_both past ∙ ap (λ cs. asked_until past ++ cs) h.asked

  written : AllByRecursion IsWritten commands
  written = subst (AllByRecursion IsWritten) asked_are (all_written entries)

  -- what it told below
  pub itself : AnswersItself run
  itself = always_answers peer calls

  abbrev pub spoken : List Spoken
  spoken = itself.own ++ tells_from [] deeds

  passes : PassesAllOn run (deeds_from calls (no_calls peer))
  passes = always_passes peer calls

  pub queued : filter is_message (below past).past.queued ≡ all_said spoken
  queued =
      passes.told ∙ ap₂ (λ xs ds. xs ++ told_from [] ds) itself.queue (sym held.does) ∙ ap (λ os. all_said itself.own ++ os) (told_so [] deeds)
      ∙ sym (map-append (λ (s : Spoken). said s.message s.mark) itself.own (tells_from [] deeds))

  pub spelled : AreSpelled spoken
  spelled =
      all_append (λ (s : Spoken). IsSpelled s.message) itself.own (tells_from [] deeds)
      (own_spelled (asked_until past) itself.left itself.own (all_left IsWritten (asked_until past) (asked_in deeds) written) itself.is_own)
      (tells_spelled [] deeds tt (all_right IsWritten (asked_until past) (asked_in deeds) written))

  read : CanBeRead (below past)
  read = queues_readable value_services None (past.until_bound ++ past.since_bound) value_hello h.below_readable

  formed : AreSpoken spoken
  formed =
      let all : AreSpoken (entering read.spoken) = entering_formed read.spoken read.well_formed in
      subst AreSpoken (same_said (entering read.spoken) spoken all spelled (sym (queued_said true read) ∙ queued)) all

  -- the tokens of what it took
  pub apart : TakesNumbered (below past) → AreApart (tokens_of commands)
  apart numbered = subst AreApart (tokens_taken entries as_said ∙ ap tokens_of asked_are) (numbered_apart (tokens_among (flat_map incoming_of entries)) numbered)

  -- what it heard
  pub tells : TellsAsMessages (above past)
  tells = all_tell value_services None (unwrap_or past.connection [])

  module _ (bound : run.value.relay.bind ≡ Bound) where
    -- until it was bound
    answering : IsAnswering run
    answering = always_answering peer calls

    no_redirect : run.value.relay.redirect ≡ None
    no_redirect =
        let says = answering.answering.says in
        let P : Bind → Type 0 = λ bind. IsLeft bind run.value.relay.redirect says.left in
        let is : IsLeft Bound run.value.relay.redirect says.left = subst P bound says.is_left in
        is.1

    own_answered : AreAnsweredIn itself.own (asked_until past)
    own_answered = own_answers (asked_until past) itself.left itself.own itself.is_own (none_left itself.left (itself.left_are ∙ ap option_to_list no_redirect))

    -- what it sent above
    pub accepted : (above past).past.accepted ≡ issued_from 1 (sent_in deeds)
    accepted =
        let a = h.accepted in
        a.issued ∙ ap (issued_from 1) (sym (a.whole ∙ ap (λ cs. a.sent ++ cs) (a.all bound) ∙ append-nil a.sent))

    pub few_sent : 1 + length (sent_in deeds) ≤ 2 ^ 64
    few_sent =
        let size : length (above past).past.accepted ≡ length (sent_in deeds) = ap length accepted ∙ issued_length 1 (sent_in deeds) in
        let most : length (above past).past.accepted ≤ 2 ^ 64 - 1 = h.few in
        omega arith

    hello_heard : hello_among (heard_in deeds) ≡ true
    hello_heard =
        let P : Bind → Type 0 = λ bind. StandsWell bind run.value.relay past in
        let stands : StandsWell Bound run.value.relay past = subst P bound h.stands in
        ap hello_among h.messages ∙ sym tells.greeted ∙ h.heard ∙ stands.2

    -- where no redirect lacks a Hello above none does below
    pub greeted : TakesNumbered (below past) → lacks_hello_among (issued_from 1 (sent_in deeds)) (heard_in deeds) ≡ false → lacks_hello_behind (redirects_of commands) spoken ≡ false
    greeted numbered none =
        own_greeted (redirects_of commands) itself.own (tells_from [] deeds) (hello_told [] deeds hello_heard)
        (all_greeted (redirects_of commands) (sent_in deeds) few_sent deeds refl h.right
        (all_right (RedirectsWhereNamed (redirects_of commands)) (asked_until past) (asked_in deeds) (each_redirects commands (apart numbered))) none)

  module _ (bound : run.value.relay.bind ≡ Bound) (free : IsFree (above past)) where
    sent_is : sent_of (above past) ≡ issued_from 1 (sent_in deeds)
    sent_is = take_all (above past).past.accepted (length (above past).end.held) (ap length free.held) ∙ accepted bound

    all_answered : AllByRecursion (λ i. answered_among (heard_in deeds) i.command.token ≡ true) (issued_from 1 (sent_in deeds))
    all_answered =
        let P : List (Issued ForwardedValue) → Type 0 = λ is. AllByRecursion (λ i. answered_among (heard_in deeds) i.command.token ≡ true) is in
        subst P sent_is
        (all_then _ (λ (i : Issued ForwardedValue). answered_among (heard_in deeds) i.command.token ≡ true)
        (λ i is. ap (λ ms. answered_among ms i.command.token) h.messages ∙ sym (tells.answered i.command.token) ∙ is) (sent_of (above past)) free.answered)

    none_lacks : lacks_hello_among (issued_from 1 (sent_in deeds)) (heard_in deeds) ≡ false
    none_lacks =
        ap (lacks_hello_among (issued_from 1 (sent_in deeds))) h.messages ∙ sym (tells.lacks (issued_from 1 (sent_in deeds)))
        ∙ ap (λ (is : List (Issued ForwardedValue)). lacks_hello is (above past).past.taken) (sym sent_is) ∙ free.none_awaits

    -- so it has answered all
    answered : AreAnsweredIn spoken commands
    answered =
        all_append (λ (c : Asked). answers_among c.token spoken ≡ true) (asked_until past) (asked_in deeds)
        (all_then (λ (c : Asked). answers_among c.token itself.own ≡ true) (λ (c : Asked). answers_among c.token spoken ≡ true) (λ c is. answered_before itself.own (tells_from [] deeds) c.token is) (asked_until past)
        (own_answered bound))
        (all_then (λ (c : Asked). answers_among c.token (tells_from [] deeds) ≡ true) (λ (c : Asked). answers_among c.token spoken ≡ true) (λ c is. answered_later itself.own (tells_from [] deeds) c.token is) (asked_in deeds)
        (all_told deeds h.right (few_sent bound) all_answered))

    pub answers_all : TakesNumbered (below past) → (x : List Spoken) × AnswersAll (below past) x
    answers_all numbered = (
      spoken,
      record {
        formed = formed;
        queued = queued;
        answered = taken_answered spoken entries as_said (subst (AreAnsweredIn spoken) (sym asked_are) answered);
        greeted = ap (λ ts. lacks_hello_behind ts spoken) (redirects_taken entries as_said ∙ ap redirects_of asked_are) ∙ greeted bound numbered none_lacks;
      },
    )
