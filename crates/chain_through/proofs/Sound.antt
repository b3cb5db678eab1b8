-- An end to which a Hello and answers to its commands come closes by no fault of its other side, and or_parts does one to which a
-- Hello and commands come.
use Rattle.std.proofs.Common.{◌≡◌, ℕ, zero, suc, ◌+◌, ◌-◌, ◌<◌, ◌≤◌, ◌==◌, ◌&&◌, ◌||◌, Bool, true, false, List, [], ◌∷◌, ◌++◌, length, map, take, Option, ⊎_elim, refl, sym, ap, ◌∙◌, subst, arith, eqb-true}
use Rattle.std.specs.Prelude.{Contains, bytes_eq, decimal}
use Rattle.std.specs.List.{AllByRecursion, flat_map, list_any, range_with_len}
use Rattle.std.proofs.lemmas.Bool.{eqb-false, or_parts}
use Rattle.tcf_message.specs.Message.{IsWellFormed, MessageValue, command, event, final, flow, not_known, progress}
use Rattle.channel_core.specs.Arrivals.{AreSpoken, Spoken, arrived, bytes_of, queue_of}
use Rattle.channel_core.specs.Beginning.{new_end}
use Rattle.channel_core.specs.ReceivingLaws.{incoming_of}
use Rattle.channel_core.specs.RunLaws.{is_answered, sent_of, token_in}
use Rattle.channel_core.specs.Runs.{Call, Issued, Run, after_calls, begun}
use Rattle.channel_core.specs.Wire.{Said, answers, asks, event_said, goes_on, greets, hello, is_done, locator, said_by, said_in, said_of, tells}
use Rattle.channel_core.specs.declared.held.Incoming.{Incoming}
use Rattle.channel_core.specs.declared.states.Cause.TheVariants.{Stream}
use Rattle.channel_core.specs.declared.states.Reason.{Reason}
use Rattle.channel_core.specs.declared.states.Reason.TheVariants.{Early, Grammar, Token}
use Rattle.channel_core.specs.declared.taking.Taken.{Taken}
use Rattle.channel_core.specs.declared.taking.Taken.TheVariants as taken
use Rattle.channel_laws.specs.Faults.{IsAwaited, IsFault, IsUnder}
use Rattle.value_node.specs.Asked.{Asked}
use Rattle.value_node.specs.OwnMessages.{BeginsWithHello}
use Rattle.chain_told.specs.Told.{ends, is_ended}
use Rattle.chain_through.specs.Calling as calling
use Rattle.chain_through.specs.Calling.{Answering, IsAnswering, all_asking, entering, greeting}
use Rattle.chain_through.specs.Endings.{AnsweredIsSound, AskedIsSound, IsSound}
use Rattle.channel_core.proofs.TheLaws.{counts_answers, ends_fairly}
use Rattle.channel_laws.proofs.TheLaws.{faults_are_there}
use Rattle.tcf_message.proofs.TheLaws.{read_back}
use Rattle.chain_through.proofs.Queues.{entering_formed}
use Rattle.chain_through.proofs.Taking.{come_as}
use Rattle.list_laws.specs.Fronts.{IsFront}
use Rattle.list_laws.proofs.Fronts.{front_each}

-- ---- The message that is the fault

-- behind those that were taken
record IsPlaced (spoken : List Spoken) (messages : List Incoming) (faulty : Incoming) : Type 0 where
  before : List Spoken
  here : Spoken
  behind : List Spoken
  are : spoken ≡ before ++ here ∷ behind
  taken_are : messages ≡ map come_as before
  is : faulty ≡ come_as here

placed : (spoken : List Spoken) (messages later : List Incoming) (faulty : Incoming) → map come_as spoken ≡ messages ++ faulty ∷ later → IsPlaced spoken messages faulty
placed [] [] later faulty same = absurd cc
placed [] (i ∷ messages) later faulty same = absurd cc
placed (s ∷ spoken) [] later faulty same =
    let whole : come_as s ∷ map come_as spoken ≡ faulty ∷ later = same in
    let one : faulty ≡ come_as s = cc in
    record { before = []; here = s; behind = spoken; are = refl; taken_are = refl; is = one }
placed (s ∷ spoken) (i ∷ messages) later faulty same =
    let whole : come_as s ∷ map come_as spoken ≡ i ∷ (messages ++ faulty ∷ later) = same in
    let one : i ≡ come_as s = cc in
    let tails : map come_as spoken ≡ messages ++ faulty ∷ later = cc in
    let p = placed spoken messages later faulty tails in
    record {
      before = s ∷ p.before;
      here = p.here;
      behind = p.behind;
      are = ap (λ xs. s ∷ xs) p.are;
      taken_are = ap (λ x. x ∷ messages) one ∙ ap (λ xs. come_as s ∷ xs) p.taken_are;
      is = p.is;
    }

each_before : (P : Spoken → Type 0) (before : List Spoken) (here : Spoken) (behind : List Spoken) → AllByRecursion P (before ++ here ∷ behind) → AllByRecursion P before × P here
each_before P [] here behind each = (tt, each.0)
each_before P (s ∷ before) here behind each = let rest = each_before P before here behind each.1 in ((each.0, rest.0), rest.1)

heard_as : (s : Spoken) → IsWellFormed s.message → said_in (come_as s).raw ≡ said_by s.message
heard_as s formed = ap said_of (read_back.1 s.message formed)

-- ---- The first is a Hello

hello_greets : (services : List ℕ) → said_by (event locator hello services) ≡ greets
unfolding locator hello
hello_greets services = refl

first_greets : (spoken : List Spoken) (messages : List Incoming) (faulty : Incoming) → AreSpoken spoken → BeginsWithHello spoken → IsPlaced spoken messages faulty → messages ≡ [] → said_in faulty.raw ≡ greets
first_greets spoken messages faulty formed begins p none = by_before p.before p.are p.taken_are
  where
    by_before : (before : List Spoken) → spoken ≡ before ++ p.here ∷ p.behind → messages ≡ map come_as before → said_in faulty.raw ≡ greets
    by_before [] are came =
        let greeting_is : BeginsWithHello (p.here ∷ p.behind) = subst BeginsWithHello are begins in
        let formed_here : AreSpoken (p.here ∷ p.behind) = subst AreSpoken are formed in
        ap (λ (i : Incoming). said_in i.raw) p.is ∙ heard_as p.here formed_here.0 ∙ ap said_by greeting_is.1 ∙ hello_greets greeting_is.0
    by_before (s ∷ before) are came = let some : [] ≡ come_as s ∷ map come_as before = sym none ∙ came in absurd cc

-- ---- Progress and an answer

-- under the token of a command that was sent and isn't answered
abbrev IsAwaitedHere : {T : Type 0} → Run T → Spoken → Type 0
IsAwaitedHere r here = (token : List ℕ) → IsUnder token (said_by here.message) → IsAwaited token r

-- each message that comes is, behind those that were taken
abbrev AreAwaited : {T : Type 0} → List Spoken → Run T → Type 0
AreAwaited spoken r = (before : List Spoken) (here : Spoken) (behind : List Spoken) → spoken ≡ before ++ here ∷ behind → flat_map incoming_of r.past.taken ≡ map come_as before → IsAwaitedHere r here

module _ {T : Type 0} (services : List ℕ) (mark : Option ℕ) (calls : List (Call T)) where
  abbrev now : Run T
  now = after_calls calls (begun (new_end services mark))

  no_fault : (spoken : List Spoken) (reason : Reason) (faulty : Incoming) → AreSpoken spoken → BeginsWithHello (entering spoken) → AreAwaited (entering spoken) now
      → IsPlaced (entering spoken) (flat_map incoming_of now.past.taken) faulty → IsFault reason faulty now → ⊥
  no_fault spoken (Grammar fault) faulty formed begins awaited p is = is
  no_fault spoken Early faulty formed begins awaited p is =
      is.1 (first_greets (entering spoken) (flat_map incoming_of now.past.taken) faulty (entering_formed spoken formed) begins p is.0)
  no_fault spoken Token faulty formed begins awaited p is =
      let here_formed : IsWellFormed p.here.message = (each_before (λ s. IsWellFormed s.message) p.before p.here p.behind (subst AreSpoken p.are (entering_formed spoken formed))).1 in
      let same : said_in faulty.raw ≡ said_by p.here.message = ap (λ (i : Incoming). said_in i.raw) p.is ∙ heard_as p.here here_formed in
      is.2 (awaited p.before p.here p.behind p.are p.taken_are is.0 (subst (IsUnder is.0) same is.1))

  sound : (spoken : List Spoken) (is_ended : Bool) → AreSpoken spoken → IsFront (arrived calls) (bytes_of (queue_of spoken is_ended)) → BeginsWithHello (entering spoken) → AreAwaited (entering spoken) now → IsSound now
  sound spoken is_ended formed came begins awaited = record {
    protocol = λ number reason is.
        let there = faults_are_there services mark calls spoken is_ended formed came number reason is in
        no_fault spoken reason there.faulty formed begins awaited (placed (entering spoken) (flat_map incoming_of now.past.taken) there.behind there.faulty there.place) there.fault;
    stream = λ fault is. ends_fairly services mark calls spoken is_ended formed came (Stream fault) is;
  }

-- ---- Where a Hello and commands come

abbrev AnswersNothing : Spoken → Type 0
AnswersNothing s = (token : List ℕ) → IsUnder token (said_by s.message) → ⊥

under_greets : (said : Said) (token : List ℕ) → said ≡ greets → IsUnder token said → ⊥
under_greets said token is under =
    ⊎_elim (λ one. let other : greets ≡ goes_on token = sym is ∙ one in absurd cc) (λ one. let other : greets ≡ answers token one.0 = sym is ∙ one.1 in absurd cc) under

under_asks : (token : List ℕ) → IsUnder token asks → ⊥
under_asks token under = ⊎_elim (λ one. absurd cc) (λ one. let other : asks ≡ answers token one.0 = one.1 in absurd cc) under

event_under : (is_hello : Bool) (token : List ℕ) → IsUnder token (event_said is_hello) → ⊥
event_under true token under = under_greets greets token refl under
event_under false token under = ⊎_elim (λ one. absurd cc) (λ one. let other : tells ≡ answers token one.0 = one.1 in absurd cc) under

commands_silent : (n : ℕ) (commands : List Asked) → AllByRecursion AnswersNothing (all_asking n commands)
commands_silent n [] = tt
commands_silent n (c ∷ commands) = (λ token under. under_asks token under, commands_silent (n + 1) commands)

called_begins : (spoken : List Spoken) (services : List ℕ) (more : List Spoken) → IsFront spoken (greeting services ∷ more) → BeginsWithHello spoken
called_begins [] services more p = tt
called_begins (s ∷ spoken) services more p =
    let whole : greeting services ∷ more ≡ s ∷ (spoken ++ p.0) = p.1 in
    let one : s ≡ greeting services = cc in
    (services, ap (λ x. x.message) one)

pub asked_sound : {T : Type 0} → AskedIsSound T
asked_sound {T = T} services mark calls spoken is_ended names commands formed came front =
    let silent : AllByRecursion AnswersNothing (greeting names ∷ all_asking 1 commands) = (λ token under. under_greets (said_by (event locator hello names)) token (hello_greets names) under, commands_silent 1 commands) in
    let each = front_each AnswersNothing (entering spoken) (greeting names ∷ all_asking 1 commands) front silent in
    sound services mark calls spoken is_ended formed came (called_begins (entering spoken) names (all_asking 1 commands) front)
    (λ before here behind are taken_are token under. absurd ((each_before AnswersNothing before here behind (subst (AllByRecursion AnswersNothing) are each)).1 token under))

-- ---- Where a Hello and answers come

-- a message that isn't the answer under a token has no such token
abbrev is_its : ℕ → List ℕ → Bool
is_its number text = bytes_eq text (decimal number)

no_event_token : (number : ℕ) (is_hello : Bool) → list_any (is_its number) (token_in (event_said is_hello)) ≡ false
no_event_token number true = refl
no_event_token number false = refl

none_ends : (number : ℕ) (m : MessageValue) → ends (decimal number) m ≡ false → list_any (is_its number) (token_in (said_by m)) ≡ false
none_ends number (command token service name body) none = refl
none_ends number (final token body) none = ap (λ b. b || false) none
none_ends number (progress token body) none = refl
none_ends number (not_known token) none = ap (λ b. b || false) none
none_ends number (event service name body) none = no_event_token number (bytes_eq service locator && bytes_eq name hello)
none_ends number (flow level) none = refl

others_came : (number : ℕ) (before : List Spoken) → AreSpoken before → is_ended (decimal number) before ≡ false
    → AllByRecursion (λ i. list_any (is_its number) (token_in (said_in i.raw)) ≡ false) (map come_as before)
others_came number [] formed none = tt
others_came number (s ∷ before) formed none =
    let both = or_parts (ends (decimal number) s.message) (is_ended (decimal number) before) none in
    (ap (λ what. list_any (is_its number) (token_in what)) (heard_as s formed.0) ∙ none_ends number s.message both.0, others_came number before formed.1 both.1)

unanswered : {T : Type 0} → (number : ℕ) (entries : List (Taken T)) → AllByRecursion (λ i. list_any (is_its number) (token_in (said_in i.raw)) ≡ false) (flat_map incoming_of entries) → is_answered entries number ≡ false
unanswered number [] none = refl
unanswered number (taken.Hello incoming ∷ entries) none = unanswered number entries none.1
unanswered number (taken.Command incoming ∷ entries) none = unanswered number entries none.1
unanswered number (taken.Event incoming ∷ entries) none = unanswered number entries none.1
unanswered number (taken.Progress token incoming ∷ entries) none = unanswered number entries none.1
unanswered number (taken.Final tag incoming ∷ entries) none = ap (λ flag. flag || is_answered entries number) none.0 ∙ unanswered number entries none.1
unanswered number (taken.Closed cause ∷ entries) none = unanswered number entries none

-- the command with this token is among those that were sent
record IsSent {T : Type 0} (sent : List (Issued T)) (number : ℕ) : Type 0 where
  command : Issued T
  is_sent : Contains sent command
  token_is : command.command.token ≡ number

sent_later : {T : Type 0} → (i : Issued T) (sent : List (Issued T)) (number : ℕ) → IsSent sent number → IsSent (i ∷ sent) number
sent_later i sent number s = let within : s.is_sent.0 < length sent = s.is_sent.1 in record { command = s.command; is_sent = (suc s.is_sent.0, omega arith, s.is_sent.2); token_is = s.token_is }

sent_under : {T : Type 0} → (from number k : ℕ) (all : List (Issued T)) → map (λ i. i.command.token) all ≡ range_with_len from (length all) → from ≤ number → number < from + length (take k all) → IsSent (take k all) number
sent_under from number zero all counted low high = absurd (omega arith)
sent_under from number (suc k) [] counted low high = absurd (omega arith)
sent_under from number (suc k) (i ∷ all) counted low high = by_flag (number == from) refl (λ tails above within. sent_under (from + 1) number k all tails above within)
  where
    whole : i.command.token ∷ map (λ x. x.command.token) all ≡ from ∷ range_with_len (from + 1) (length all)
    whole = counted

    by_flag : (flag : Bool) → (number == from) ≡ flag
        → (map (λ x. x.command.token) all ≡ range_with_len (from + 1) (length all) → from + 1 ≤ number → number < (from + 1) + length (take k all) → IsSent (take k all) number) → IsSent (i ∷ take k all) number
    by_flag true is rest =
        let counts = whole in
        let token : i.command.token ≡ from = cc in
        record { command = i; is_sent = (0, omega arith, refl); token_is = token ∙ sym (eqb-true number from is) }
    by_flag false is rest =
        let counts = whole in
        let tails : map (λ x. x.command.token) all ≡ range_with_len (from + 1) (length all) = cc in
        let other : number ≡ from → ⊥ = eqb-false number from is in
        let above : from + 1 ≤ number = omega arith in
        let within : number < (from + 1) + length (take k all) = omega arith in
        sent_later i (take k all) number (rest tails above within)

module _ {T : Type 0} (services : List ℕ) (mark : Option ℕ) (calls : List (Call T)) where
  abbrev after_these : Run T
  after_these = after_calls calls (begun (new_end services mark))

  awaited_so : (token : List ℕ) (before : List Spoken) → AreSpoken before → calling.IsAwaited (length (sent_of after_these)) before token
      → flat_map incoming_of after_these.past.taken ≡ map come_as before → IsAwaited token after_these
  awaited_so token before formed a taken_are =
      let r = after_these in
      let size = length r.past.accepted - length r.end.held in
      let high : a.number ≤ length (sent_of after_these) = a.sent in
      let within : a.number < 1 + length (take size r.past.accepted) = omega arith in
      let s = sent_under 1 a.number size r.past.accepted (counts_answers services mark calls).tokens a.counted within in
      let open_still : is_ended (decimal a.number) before ≡ false = ap (λ t. is_ended t before) (sym a.numbered) ∙ a.unanswered in
      let none = unanswered a.number r.past.taken (subst (AllByRecursion (λ i. list_any (is_its a.number) (token_in (said_in i.raw)) ≡ false)) (sym taken_are) (others_came a.number before formed open_still)) in
      record {
        command = s.command;
        sent = s.is_sent;
        token_is = a.numbered ∙ ap (λ n. decimal n) (sym s.token_is);
        unanswered = ap (λ n. is_answered r.past.taken n) s.token_is ∙ none;
      }

  all_awaited : (spoken : List Spoken) → AreSpoken spoken → Answering (length (sent_of after_these)) spoken → AreAwaited spoken after_these
  all_awaited spoken formed answering before here behind are taken_are token under =
      let formed_before = (each_before (λ s. IsWellFormed s.message) before here behind (subst AreSpoken are formed)).0 in
      by_message here.message formed_before (answering before behind here are) under
    where
      so : (other : List ℕ) → AreSpoken before → calling.IsAwaited (length (sent_of after_these)) before other → other ≡ token → IsAwaited token after_these
      so other formed a same = awaited_so token before formed (subst (calling.IsAwaited (length (sent_of after_these)) before) same a) taken_are

      by_message : (m : MessageValue) → AreSpoken before → IsAnswering (length (sent_of after_these)) before m → IsUnder token (said_by m) → IsAwaited token after_these
      by_message (command other service name body) formed a under = absurd a
      by_message (final other body) formed a under = ⊎_elim
          (λ one. absurd cc)
          (λ one. let whole : answers other (is_done body) ≡ answers token one.0 = one.1 in let same : other ≡ token = cc in so other formed a same)
          under
      by_message (progress other body) formed a under = ⊎_elim
          (λ one. let whole : goes_on other ≡ goes_on token = one in let same : other ≡ token = cc in so other formed a same)
          (λ one. let whole : goes_on other ≡ answers token one.0 = one.1 in absurd cc)
          under
      by_message (not_known other) formed a under = ⊎_elim
          (λ one. absurd cc)
          (λ one. let whole : answers other false ≡ answers token one.0 = one.1 in let same : other ≡ token = cc in so other formed a same)
          under
      by_message (event service name body) formed a under = absurd (event_under (bytes_eq service locator && bytes_eq name hello) token under)
      by_message (flow level) formed a under = absurd a

pub answered_sound : {T : Type 0} → AnsweredIsSound T
answered_sound services mark calls spoken is_ended formed came begins answering =
    sound services mark calls spoken is_ended formed came begins (all_awaited services mark calls (entering spoken) (entering_formed spoken formed) answering)
