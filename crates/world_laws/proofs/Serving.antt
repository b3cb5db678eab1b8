-- What an agent says to a chain on the channel that it has now, and what it executes there.
use Rattle.std.proofs.Common.{◌≡◌, ℕ, suc, ◌+◌, ◌-◌, ◌^◌, ◌<◌, ◌≤◌, ◌⊎◌, inl, inr, Option, Some, None, true, List, [], ◌∷◌, ◌++◌, length, take, map, refl, sym, ap, ◌∙◌, subst, arith, append-nil}
use Rattle.std.specs.Prelude.{decimal}
use Rattle.std.specs.List.{AllByRecursion, filter}
use Rattle.std.proofs.lemmas.List.Elements.{filter-append}
use Rattle.agent_node.specs.AgentLaws.{Asked as AgentAsked, FollowsHistory, asked, messages_told, read as agent_read, tokens}
use Rattle.agent_node.specs.Runs.{Past, run_of}
use Rattle.node_answers.proofs.Agents.Spoken.{said_spoken, spoken_of}
use Rattle.node_answers.proofs.Agents.Telling.{agent_hello}
use Rattle.chain_told.specs.Sent.{owed_by, read_as, said_to}
use Rattle.chain_route.specs.Carrying.{AllCarry, End, HopCarries, Made, end_above, past_of}
use Rattle.chain_route.specs.Runs.{Talk}
use Rattle.chain_route.specs.declared.hop.Hop.{Hop}
use Rattle.list_laws.proofs.Fronts.{front_take, front_length, front_map, front_same, front_then}
use Rattle.list_laws.specs.Fronts.{IsFront}
use Rattle.chain_through.specs.Calling.{AskNothing, Calls, Says, all_asking, asking, entering, given_of, greeting}
use Rattle.chain_through.specs.Through.{Content, IsMarked, content, top_end}
use Rattle.chain_through.proofs.Found.{found_more}
use Rattle.chain_through.proofs.Queues.{entering_formed, queue_messages}
use Rattle.chain_through.proofs.Spelling.{AreSpelled, IsSpelled, one_said, said_so, same_said}
use Rattle.chain_through.proofs.ToldLists.{AreFound, IsFound, all_found, told_more}
use Rattle.chain_told.specs.Told.{AreToldRightly, is_any_storable, numbered, owed_at, owed_in, without_token}
use Rattle.chain_told.proofs.Numbered.{numbered_append}
use Rattle.chain_world.specs.Standing.{unmarked}
use Rattle.channel_core.specs.Arrivals.{AreSpoken, Spoken, arrived, bytes_of, queue_of}
use Rattle.channel_core.specs.QueueLaws.{is_message}
use Rattle.channel_core.specs.ReceivingLaws.{CanBeRead, SendsReadable}
use Rattle.channel_core.specs.Runs.{Run}
use Rattle.channel_core.specs.RunLaws.{EndsAs, is_end}
use Rattle.channel_core.specs.Wire.{end_of_stream, hello, locator}
use Rattle.channel_core.specs.declared.held.Outgoing.{Outgoing}
use Rattle.channel_core.specs.declared.states.Cause.TheVariants as causes
use Rattle.channel_core.specs.declared.states.EndState.{EndState}
use Rattle.channel_core.specs.declared.states.EndState.TheVariants.{Closed, Live, Opening, Reopening}
use Rattle.command_tables.specs.Reading.{reading_of}
use Rattle.target_contexts.specs.declared.process.Image.{Image}
use Rattle.target_hub.specs.History.{IsLegal}
use Rattle.target_hub.specs.Sent.{ReadCommand, agent_services, executed_on, sent}
use Rattle.target_hub.specs.declared.input.Input.{Input}
use Rattle.tcf_message.specs.Message.{MessageValue, command, event, final, flow, not_known, progress}
use Rattle.value_node.specs.Asked.{Asked}
use Rattle.value_node.specs.OwnMessages.{BeginsWithHello}
use Rattle.chain_through.proofs.Through.{take_few}
use Rattle.world_laws.specs.EndLaws.{ClosesRightly}
use Rattle.chain_told.proofs.TheLaws.{target_tells_rightly, target_tells_what_is_owed}
use Rattle.channel_core.proofs.TheLaws.{ends_once, queues_in_order, queues_readable}
use Rattle.world_laws.proofs.Lists.{no_more}
use Rattle.world_laws.proofs.Replying.{spoken_spelled, told_marked, told_quiet}
use Rattle.world_laws.proofs.Sending.{hello_first}
use Rattle.world_laws.proofs.Spoken.{front_bytes, front_unmarked}
use Rattle.world_laws.proofs.Taking.{asked_front, asking_named, asks_of, named, tokens_named}
use Rattle.world_laws.proofs.Telling.{history_spelled}

-- ---- The last hop

-- it leads to the agent where all value-adds were made
pub last_hop : (lower : End) (hops : List Hop) (made : List Made) (agent : End) → AllCarry lower hops made agent → length hops ≡ length made + 1 → (hop : Hop) × HopCarries hop (top_end lower made) agent
last_hop lower [] made agent carry many = absurd carry
last_hop lower (hop ∷ hops) (m ∷ made) agent carry many = let less : length hops ≡ length made + 1 = omega arith in last_hop (end_above (past_of m)) hops made agent carry.1 less
last_hop lower (hop ∷ []) [] agent carry many = (hop, carry)
last_hop lower (hop ∷ next ∷ hops) [] agent carry many = absurd (omega arith)

-- ---- What it says

-- said to the end of a way, to which the commands come that are given at its top
pub record AgentSpeaks (images : List Image) (history : List Input) (said : List Spoken) (gave top : List Outgoing) : Type 0 where
  pub says : Says said gave
  pub quiet : AskNothing said
  pub marked : AllByRecursion IsMarked said
  pub rightly : (commands : List Asked) → length commands < 2 ^ 64 → (up : Calls commands top) → AreToldRightly images history (numbered 1 (given_of commands up.spoken)) said

-- nothing, or the end of the stream alone
pub speaks_nothing : (images : List Image) (history : List Input) (gave top : List Outgoing) → (gave ≡ []) ⊎ (gave ≡ end_of_stream ∷ []) → AgentSpeaks images history [] gave top
speaks_nothing images history gave top none = record {
  says = record { spoken = []; is_ended = true; formed = tt; front = by_gift none; says = refl };
  quiet = tt;
  marked = tt;
  rightly = λ commands few up before rest s is. absurd (no_more before s rest (sym is));
}
  where
    by_gift : (gave ≡ []) ⊎ (gave ≡ end_of_stream ∷ []) → IsFront gave (end_of_stream ∷ [])
    by_gift (inl is) = (end_of_stream ∷ [], ap (λ os. os ++ end_of_stream ∷ []) (sym is))
    by_gift (inr is) = ([], ap (λ os. os ++ []) (sym is))

-- ---- The commands that it was asked are the first of those that come up

-- a command but for its token and its mark, as it is read
abbrev pub content_read : Content → ReadCommand
content_read c = record { reading = reading_of c.service c.name c.body; service = c.service; name = c.name }

pub contents_read : (commands : List Asked) → map read_as commands ≡ map content_read (map content commands)
contents_read [] = refl
contents_read (c ∷ commands) = ap (λ xs. read_as c ∷ xs) (contents_read commands)

named_read : (token : ℕ) (commands : List Asked) → map agent_read (named token commands) ≡ map read_as commands
named_read token [] = refl
named_read token (c ∷ commands) = ap (λ xs. read_as c ∷ xs) (named_read (token + 1) commands)

named_tokens : (token : ℕ) (commands : List Asked) → tokens (named token commands) ≡ map (λ c. c.token) (numbered token commands)
named_tokens token [] = refl
named_tokens token (c ∷ commands) = ap (λ ts. decimal token ∷ ts) (named_tokens (token + 1) commands)

-- what is said of commands from this token on are the first of them
said_first : (token : ℕ) (said rest : List Spoken) (commands : List Asked) → all_asking token commands ≡ said ++ rest → said ≡ all_asking token (take (length said) commands)
said_first token [] rest commands is = refl
said_first token (s ∷ said) rest [] is = absurd cc
said_first token (s ∷ said) rest (c ∷ commands) is =
    let here : asking token c ≡ s = cc in
    let tails : all_asking (token + 1) commands ≡ said ++ rest = cc in
    ap (λ x. x ∷ said) (sym here) ∙ ap (λ xs. asking token c ∷ xs) (said_first (token + 1) said rest commands tails)

pub asking_many : (token : ℕ) (commands : List Asked) → length (all_asking token commands) ≡ length commands
asking_many token [] = refl
asking_many token (c ∷ commands) = ap suc (asking_many (token + 1) commands)

asks_given : (said : List Spoken) (services : List ℕ) (commands : List Asked) → IsFront said (greeting services ∷ all_asking 1 commands) → asks_of said ≡ named 1 (take (length said - 1) commands)
asks_given [] services commands front = refl
asks_given (s ∷ said) services commands front =
    let here : greeting services ≡ s = first front.1 in
    let rest : all_asking 1 commands ≡ said ++ front.0 = others front.1 in
    let same : length said ≡ length (s ∷ said) - 1 = omega arith in
    ap (λ x. asks_of (x ∷ said)) (sym here) ∙ ap asks_of (said_first 1 said front.0 commands rest) ∙ asking_named 1 (take (length said) commands) ∙ ap (λ n. named 1 (take n commands)) same
  where
    first : greeting services ∷ all_asking 1 commands ≡ (s ∷ said) ++ front.0 → greeting services ≡ s
    first is = cc

    others : greeting services ∷ all_asking 1 commands ≡ (s ∷ said) ++ front.0 → all_asking 1 commands ≡ said ++ front.0
    others is = cc

-- those that were asked are the first of these, under the tokens from this one on
pub record IsAskedFirst (token : ℕ) (asked_are : List AgentAsked) (commands : List Asked) : Type 0 where
  pub first : List Asked
  pub front : IsFront first commands
  pub are : asked_are ≡ named token first

front_named : (token : ℕ) (asked_are : List AgentAsked) (commands : List Asked) → IsFront asked_are (named token commands) → IsAskedFirst token asked_are commands
front_named token [] commands p = record { first = []; front = (commands, refl); are = refl }
front_named token (a ∷ asked_are) [] p = let whole : [] ≡ a ∷ (asked_are ++ p.0) = p.1 in absurd cc
front_named token (a ∷ asked_are) (c ∷ commands) p =
    let named_is : AgentAsked = record { token = decimal token; service = c.service; name = c.name; body = c.body } in
    let whole : named_is ∷ named (token + 1) commands ≡ a ∷ (asked_are ++ p.0) = p.1 in
    let one : a ≡ named_is = cc in
    let tails : named (token + 1) commands ≡ asked_are ++ p.0 = cc in
    let rest = front_named (token + 1) asked_are commands (p.0, tails) in
    record { first = c ∷ rest.first; front = (rest.front.0, ap (λ cs. c ∷ cs) rest.front.1); are = ap (λ x. x ∷ asked_are) one ∙ ap (λ xs. named_is ∷ xs) rest.are }

pub asked_first : (past : Past) (commands : List Asked) (top : List Outgoing) (talk : Talk) (up : Calls commands top) → IsFront (bytes_of talk.got) (bytes_of top) → IsFront (arrived past.calls) (unmarked talk.got)
    → IsAskedFirst 1 (asked (run_of past)) (given_of commands up.spoken)
asked_first past commands top talk up carried came =
    let queue = queue_of up.spoken up.is_ended in
    let bytes : IsFront (bytes_of talk.got) (bytes_of queue) = front_then (bytes_of talk.got) (bytes_of top) (bytes_of queue) carried (front_bytes top queue up.front) in
    let got : IsFront (arrived past.calls) (unmarked queue) = front_then (arrived past.calls) (unmarked talk.got) (unmarked queue) came (front_unmarked talk.got queue bytes) in
    let asks : IsFront (asked (run_of past)) (asks_of (entering up.spoken)) = asked_front past up.spoken up.is_ended up.formed got in
    front_named 1 (asked (run_of past)) (given_of commands up.spoken)
    (front_same (asked (run_of past)) (asks_of (entering up.spoken)) (named 1 (given_of commands up.spoken)) (asks_given (entering up.spoken) up.services commands up.says) asks)

-- and so of all commands
pub asked_top : (asked_are : List AgentAsked) (commands : List Asked) (count : ℕ) → IsAskedFirst 1 asked_are (take count commands) → IsAskedFirst 1 asked_are commands
asked_top asked_are commands count a = record { first = a.first; front = front_then a.first (take count commands) commands a.front (front_take count commands); are = a.are }

-- ---- More commands leave what is owed to everybody as it is

abbrev with_mark : ℕ → List MessageValue → List Spoken
with_mark position messages = map (λ m. record { message = m; mark = Some position }) messages

owed_one : (commands more : List Asked) (m : MessageValue) (mark : Option ℕ) → IsFound commands m → owed_at (commands ++ more) m mark ≡ owed_at commands m mark
owed_one commands more m None found = refl
owed_one commands more (command token service name body) (Some position) found = refl
owed_one commands more (final token body) (Some position) found = ap (λ c. with_mark position (without_token (is_any_storable c) (final token body))) (found_more token commands more found.0 found.1 ∙ sym found.1)
owed_one commands more (progress token body) (Some position) found = refl
owed_one commands more (not_known token) (Some position) found = ap (λ c. with_mark position (without_token (is_any_storable c) (not_known token))) (found_more token commands more found.0 found.1 ∙ sym found.1)
owed_one commands more (event service name body) (Some position) found = refl
owed_one commands more (flow level) (Some position) found = refl

pub owed_more : (commands more : List Asked) (told : List Spoken) → AreFound commands told → owed_in (commands ++ more) told ≡ owed_in commands told
owed_more commands more [] found = refl
owed_more commands more (s ∷ told) found =
    ap (λ l. l ++ owed_in (commands ++ more) told) (owed_one commands more s.message s.mark found.0) ∙ ap (λ l. owed_at commands s.message s.mark ++ l) (owed_more commands more told found.1)

-- ---- An end that closes rightly doesn't end its stream

no_ending : (queued : List Outgoing) (spoken : List Spoken) → queued ≡ queue_of spoken true → filter is_end queued ≡ [] → ⊥
no_ending queued spoken queue none =
    let parts : filter is_end (queue_of spoken true) ≡ filter is_end (map said_so spoken) ++ end_of_stream ∷ [] = filter-append is_end (map said_so spoken) (end_of_stream ∷ []) in
    no_more (filter is_end (map said_so spoken)) end_of_stream [] (sym parts ∙ ap (filter is_end) (sym queue) ∙ none)

not_ended : (state : EndState) (queued : List Outgoing) (spoken : List Spoken) → queued ≡ queue_of spoken true → ClosesRightly state → EndsAs state queued → ⊥
not_ended Opening queued spoken queue right ends = no_ending queued spoken queue ends
not_ended Live queued spoken queue right ends = no_ending queued spoken queue ends
not_ended Reopening queued spoken queue right ends = no_ending queued spoken queue ends
not_ended (Closed causes.Own) queued spoken queue right ends = absurd right
not_ended (Closed causes.Eos) queued spoken queue right ends = no_ending queued spoken queue (ap (filter is_end) (ends.1 ∙ append-nil ends.0) ∙ ends.2)
not_ended (Closed causes.Ended) queued spoken queue right ends = no_ending queued spoken queue (ap (filter is_end) (ends.1 ∙ append-nil ends.0) ∙ ends.2)
not_ended (Closed (causes.Protocol number reason)) queued spoken queue right ends = absurd right
not_ended (Closed (causes.Stream fault)) queued spoken queue right ends = absurd right

-- ---- What a channel that was opened is told

abbrev pub told_to : List Image → List Input → Past → List Spoken
told_to images history past = spoken_of (messages_told (tokens (asked (run_of past))) (sent images past.number history))

-- these are the messages that its end queued
pub told_queued : (images : List Image) (history : List Input) (past : Past) → FollowsHistory images history past → filter is_message (run_of past).past.queued ≡ map said_so (told_to images history past)
told_queued images history past follows = follows.told ∙ said_spoken (messages_told (tokens (asked (run_of past))) (sent images past.number history))

begins_said : (spoken : List Spoken) (first : Spoken) (services : List ℕ) (rest : List Outgoing) → AreSpoken spoken → IsSpelled first.message → first.message ≡ event locator hello services
    → map said_so spoken ≡ said_so first ∷ rest → BeginsWithHello spoken
begins_said [] first services rest formed spelled is same = tt
begins_said (s ∷ spoken) first services rest formed spelled is same =
    let here : said_so s ≡ said_so first = cc in (services, ap (λ x. x.message) (one_said s first formed.0 spelled here) ∙ is)

module _ (images : List Image) (history : List Input) (past : Past) (legal : IsLegal images history) (follows : FollowsHistory images history past) (readable : SendsReadable past.calls) where
  abbrev end_run : Run Unit
  end_run = run_of past

  abbrev told_is : List Spoken
  told_is = told_to images history past

  told_spelled : AreSpelled told_is
  told_spelled =
      spoken_spelled (messages_told (tokens (asked end_run)) (sent images past.number history)) (history_spelled images history past.number (tokens (asked end_run)) legal (tokens_named end_run))

  end_can : CanBeRead end_run
  end_can = queues_readable agent_services (Some past.position) past.calls agent_hello readable

  says_so : entering end_can.spoken ≡ told_is
  says_so =
      same_said (entering end_can.spoken) told_is (entering_formed end_can.spoken end_can.well_formed) told_spelled
      (sym (queue_messages end_can.spoken end_can.is_ended) ∙ ap (filter is_message) (sym end_can.queue) ∙ told_queued images history past follows)

  -- it can be sent, and where nothing stays queued it was given
  pub told_formed : AreSpoken told_is
  told_formed = subst AreSpoken says_so (entering_formed end_can.spoken end_can.well_formed)

  pub told_gave : (gave : List Outgoing) → gave ≡ end_run.past.given → end_run.end.queued ≡ [] → filter is_message gave ≡ map said_so told_is
  told_gave gave is none =
      let order : end_run.past.given ++ end_run.end.queued ≡ end_run.past.queued = queues_in_order agent_services (Some past.position) past.calls in
      let all : end_run.past.given ≡ end_run.past.queued = sym (append-nil end_run.past.given) ∙ ap (λ os. end_run.past.given ++ os) (sym none) ∙ order in
      ap (filter is_message) (is ∙ all) ∙ told_queued images history past follows

  end_says : (gave : List Outgoing) → gave ≡ end_run.past.given → Says told_is gave
  end_says gave is =
      let order : end_run.past.given ++ end_run.end.queued ≡ end_run.past.queued = queues_in_order agent_services (Some past.position) past.calls in
      record {
        spoken = end_can.spoken;
        is_ended = end_can.is_ended;
        formed = end_can.well_formed;
        front = (end_run.end.queued, sym end_can.queue ∙ sym order ∙ ap (λ os. os ++ end_run.end.queued) (sym is));
        says = says_so;
      }

  -- first a Hello
  pub begins : BeginsWithHello told_is
  begins =
      let queued = end_run.past.queued in
      let hello_is : Spoken = record { message = event locator hello agent_services; mark = Some past.position } in
      let first : IsFront (said_so hello_is ∷ []) queued = hello_first agent_services (Some past.position) past.calls in
      let messages : map said_so (entering end_can.spoken) ≡ said_so hello_is ∷ filter is_message first.0 =
      sym (queue_messages end_can.spoken end_can.is_ended) ∙ ap (filter is_message) (sym end_can.queue) ∙ ap (filter is_message) first.1 in
      subst BeginsWithHello says_so
      (begins_said (entering end_can.spoken) hello_is agent_services (filter is_message first.0) (entering_formed end_can.spoken end_can.well_formed) agent_hello.0 refl messages)

  -- ---- It is told rightly to one whose commands come up

  module _ (commands : List Asked) (a : IsAskedFirst 1 (asked end_run) commands) where
    said_is : told_is ≡ said_to a.first images past.number history
    said_is = ap (λ ns. spoken_of (messages_told ns (sent images past.number history))) (ap tokens a.are ∙ named_tokens 1 a.first)

    executes : executed_on past.number history ≡ map read_as a.first
    executes = follows.executed ∙ ap (map agent_read) a.are ∙ named_read 1 a.first

    -- it executes the first of the commands that come up
    pub executed_front : IsFront (executed_on past.number history) (map read_as commands)
    executed_front =
        let p : IsFront (map read_as a.first) (map read_as commands) = front_map read_as a.first commands a.front in
        (p.0, p.1 ∙ ap (λ l. l ++ p.0) (sym executes))

    module _ (few : length commands < 10 ^ 64) where
      few_first : length a.first < 10 ^ 64
      few_first = let less = front_length a.first commands a.front in omega arith

      prefix : IsFront (executed_on past.number history) (map read_as a.first)
      prefix = ([], sym (append-nil (executed_on past.number history) ∙ executes))

      first_right : AreToldRightly images history (numbered 1 a.first) told_is
      first_right = subst (AreToldRightly images history (numbered 1 a.first)) (sym said_is) (target_tells_rightly images history past.number a.first legal few_first prefix)

      pub told_right : AreToldRightly images history (numbered 1 commands) told_is
      told_right =
          subst (λ cs. AreToldRightly images history (numbered 1 cs) told_is) (sym a.front.1)
          (told_more images history a.first a.front.0 (subst (λ cs. length cs < 10 ^ 64) a.front.1 few) told_is first_right)

      -- but for answers to storable commands it is what the history owes
      pub owed_right : owed_in (numbered 1 commands) told_is ≡ owed_by images past.number history
      owed_right =
          ap (λ cs. owed_in (numbered 1 cs) told_is) a.front.1 ∙ ap (λ cs. owed_in cs told_is) (numbered_append 1 a.first a.front.0)
          ∙ owed_more (numbered 1 a.first) (numbered (1 + length a.first) a.front.0) told_is (all_found images history (numbered 1 a.first) told_is first_right)
          ∙ ap (owed_in (numbered 1 a.first)) said_is ∙ target_tells_what_is_owed images history past.number a.first legal few_first prefix

  pub speaks : (top : List Outgoing) (talk : Talk) → talk.gave ≡ end_run.past.given → IsFront (bytes_of talk.got) (bytes_of top) → IsFront (arrived past.calls) (unmarked talk.got) → AgentSpeaks images history told_is talk.gave top
  speaks top talk gave carried came = record {
    says = end_says talk.gave gave;
    quiet = told_quiet (tokens (asked end_run)) (sent images past.number history);
    marked = told_marked (tokens (asked end_run)) (sent images past.number history);
    rightly = λ commands few up.
        let less : length (given_of commands up.spoken) ≤ length commands = take_few (length (entering up.spoken) - 1) commands in
        told_right (given_of commands up.spoken) (asked_first past commands top talk up carried came) (omega arith);
  }

  -- it doesn't end its stream, where its end closes rightly
  pub unended : (top : List Outgoing) (talk : Talk) (gave : talk.gave ≡ end_run.past.given) (carried : IsFront (bytes_of talk.got) (bytes_of top)) (came : IsFront (arrived past.calls) (unmarked talk.got))
      → ClosesRightly end_run.end.state → (speaks top talk gave carried came).says.is_ended ≡ true → ⊥
  unfolding end_can speaks end_says
  unended top talk gave carried came right is =
      not_ended end_run.end.state end_run.past.queued end_can.spoken (end_can.queue ∙ ap (queue_of end_can.spoken) is) right (ends_once agent_services (Some past.position) past.calls).ends
