-- Where the node of the other end answered all that it took, an end is free.
use Rattle.std.proofs.Common.{◌≡◌, ℕ, Bool, true, false, not, cond, ◌&&◌, ◌||◌, List, [], ◌∷◌, ◌++◌, map, Option, None, Ok, refl, sym, ap, ◌∙◌, subst, arith}
use Rattle.std.specs.Prelude.{bytes_eq, decimal}
use Rattle.std.specs.List.{AllByRecursion, filter, flat_map, list_any}
use Rattle.std.proofs.lemmas.Bool.{and_parts, or_left, or_parts, or_right}
use Rattle.std.proofs.lemmas.List.Folds.{list_any-append}
use Rattle.std.proofs.lemmas.Slice.Eq.{bytes_eq-Decides}
use Rattle.stream_escape.specs.Stream.{framed}
use Rattle.tcf_message.specs.Message.{MessageValue, command, event, final, flow, not_known, progress, reading, spelling, HasNoZero, IsWellFormed, is_zero, ◌•◌}
use Rattle.channel_core.specs.Arrivals.{AreSpoken, Spoken, queue_of, all_heard, all_said}
use Rattle.channel_core.specs.ReceivingLaws.{CanBeRead, incoming_of}
use Rattle.channel_core.specs.RunLaws.{is_answered, is_command, sent_of, token_in}
use Rattle.channel_core.specs.Runs.{Issued, Run}
use Rattle.channel_core.specs.Wire.{Said, answers, asks, goes_on, greets, is_redirect, locator, redirect_name, said, said_by, said_in, said_of, tells}
use Rattle.channel_core.specs.declared.held.Incoming.{Incoming}
use Rattle.channel_core.specs.declared.held.Outgoing.{Outgoing}
use Rattle.channel_core.specs.declared.states.EndState.TheVariants.{Live}
use Rattle.channel_core.specs.declared.taking.Taken.{Taken}
use Rattle.channel_core.proofs.Running.{all_sent_in_order}
use Rattle.channel_laws.specs.Meeting.{AtRest, IsAnsweredBy, RestTogether, WhereAllIsAnswered, answers_among, does_one, hello_behind, lacks_hello_behind, redirect_in, redirects_among, run_of}
use Rattle.channel_laws.specs.Rest.{AreAnswered, IsMade, TellsAsMessages, answered_among, hello_among, is_done_for, is_hello, lacks_answer, lacks_hello, lacks_hello_among}
use Rattle.tcf_message.proofs.TheLaws.{decimal_token, read_back}
use Rattle.channel_laws.proofs.Rest.AsSaid.{all_tell}
use Rattle.channel_laws.proofs.Rest.Making.{sent_made}
use Rattle.channel_laws.proofs.Rest.Meeting.{all_rest_together, entering, entering_formed, formed_as, queued_said, readable, said_as}
use Rattle.channel_laws.proofs.Rest.Spelling.{field_one, framed_one}

-- ---- A command, and the message that was read of it

abbrev spelled : ℕ → List ℕ → List ℕ → List ℕ → List ℕ
spelled n service name body = spelling (command (decimal n) service name body)

abbrev pub is_asking : MessageValue → Bool
is_asking (command token service name body) = true
is_asking _ = false

-- the message is the command, and a redirect where that is one
pub record IsAlike {T : Type 0} (m : MessageValue) (i : Issued T) : Type 0 where
  pub service : List ℕ
  pub name : List ℕ
  pub body : List ℕ
  pub is : m ≡ command (decimal i.command.token) service name body
  pub redirects : i.command.is_redirect ≡ true → is_redirect service name ≡ true

abbrev names_redirect : List ℕ → List ℕ → Type 0
names_redirect service name = is_redirect service name ≡ true

-- the names of a redirect have no zeros
names_have_none : HasNoZero locator × HasNoZero redirect_name
unfolding locator redirect_name
names_have_none = (refl, refl)

redirect_one : (service name body other last rest : List ℕ) → HasNoZero other → HasNoZero last → names_redirect service name → other • last • rest ≡ service • name • body → names_redirect other last
redirect_one service name body other last rest first second redirects is =
    let parts = and_parts (bytes_eq service locator) (bytes_eq name redirect_name) redirects in
    let service_is : service ≡ locator = (bytes_eq-Decides service locator).0 parts.0 in
    let name_is : name ≡ redirect_name = (bytes_eq-Decides name redirect_name).0 parts.1 in
    let one = field_one other service (last • rest) (name • body) first (ap (list_any is_zero) service_is ∙ names_have_none.0) is in
    let two = field_one last name rest body second (ap (list_any is_zero) name_is ∙ names_have_none.1) one.1 in
    ap (λ x. is_redirect x last) one.0 ∙ ap (is_redirect service) two.0 ∙ redirects

alike_command : {T : Type 0} → (token other last rest : List ℕ) (i : Issued T) → (made : IsMade i) → IsWellFormed (command token other last rest)
    → spelling (command token other last rest) ≡ spelled i.command.token made.service made.name made.body → IsAlike (command token other last rest) i
alike_command {T = T} token other last rest i made formed is =
    let fits = made.fits in
    let digits = decimal_token i.command.token (omega arith) in
    let fields : token • other • last • rest ≡ decimal i.command.token • made.service • made.name • made.body = cc in
    let one = field_one token (decimal i.command.token) (other • last • rest) (made.service • made.name • made.body) formed.0.0.0 digits.0 fields in
    record {
      service = other;
      name = last;
      body = rest;
      is = ap (λ t. command t other last rest) one.0;
      redirects = λ redirects. redirect_one made.service made.name made.body other last rest formed.0.1 formed.0.2 (sym (ap (λ h. h.is_redirect) made.is) ∙ redirects) one.1;
    }

alike_one : {T : Type 0} → (m : MessageValue) (i : Issued T) → (made : IsMade i) → IsWellFormed m → is_asking m ≡ true → spelling m ≡ spelled i.command.token made.service made.name made.body → IsAlike m i
alike_one (command token service name body) i made formed asking is = alike_command token service name body i made formed is
alike_one (final token body) i made formed asking is = absurd cc
alike_one (progress token body) i made formed asking is = absurd cc
alike_one (not_known token) i made formed asking is = absurd cc
alike_one (event service name body) i made formed asking is = absurd cc
alike_one (flow level) i made formed asking is = absurd cc

alike_said : {T : Type 0} → (x : Spoken) (i : Issued T) → IsMade i → IsWellFormed x.message → is_asking x.message ≡ true → said x.message x.mark ≡ i.command.outgoing → IsAlike x.message i
alike_said x i made formed asking is =
    let fits = made.fits in
    let bytes : framed (spelling x.message) ≡ framed (spelled i.command.token made.service made.name made.body) = ap (λ (o : Outgoing). o.bytes) (is ∙ ap (λ h. h.outgoing) made.is) in
    alike_one x.message i made formed asking
    (framed_one (spelling x.message) (spelled i.command.token made.service made.name made.body) bytes)

-- ---- The commands of a queue

abbrev pub asking : List Spoken → List Spoken
asking spoken = filter (λ s. is_asking s.message) spoken

-- each of them asks, and can be read
abbrev pub AreAsking : List Spoken → Type 0
AreAsking spoken = AllByRecursion (λ s. IsWellFormed s.message × (is_asking s.message ≡ true)) spoken

pub are_asking : (spoken : List Spoken) → AreSpoken spoken → AreAsking (asking spoken)
are_asking [] all = tt
are_asking (s ∷ spoken) all = by_flag (is_asking s.message) refl (are_asking spoken all.1)
  where
    by_flag : (flag : Bool) → is_asking s.message ≡ flag → AreAsking (asking spoken) → AreAsking (cond flag (s ∷ asking spoken) (asking spoken))
    by_flag true is rest = ((all.0, is), rest)
    by_flag false is rest = rest

pub commands_said : (spoken : List Spoken) (is_ended : Bool) → filter is_command (queue_of spoken is_ended) ≡ all_said (asking spoken)
commands_said [] true = refl
commands_said [] false = refl
commands_said (s ∷ spoken) is_ended = by_message s.message s.mark (commands_said spoken is_ended)
  where
    by_message : (m : MessageValue) (mark : Option ℕ) → filter is_command (queue_of spoken is_ended) ≡ all_said (asking spoken)
        → filter is_command (queue_of (record { message = m; mark = mark } ∷ spoken) is_ended) ≡ all_said (asking (record { message = m; mark = mark } ∷ spoken))
    by_message (command token service name body) mark rest = ap (λ os. said (command token service name body) mark ∷ os) rest
    by_message (final token body) mark rest = rest
    by_message (progress token body) mark rest = rest
    by_message (not_known token) mark rest = rest
    by_message (event service name body) mark rest = rest
    by_message (flow level) mark rest = rest

abbrev pub AreAlike : {T : Type 0} → List Spoken → List (Issued T) → Type 0
AreAlike [] [] = Unit {0}
AreAlike [] (i ∷ sent) = ⊥
AreAlike (x ∷ xs) [] = ⊥
AreAlike (x ∷ xs) (i ∷ sent) = IsAlike x.message i × AreAlike xs sent

pub are_alike : {T : Type 0} → (xs : List Spoken) (sent : List (Issued T)) → AreAsking xs → AllByRecursion IsMade sent → all_said xs ≡ map (λ i. i.command.outgoing) sent → AreAlike xs sent
are_alike [] [] each made is = tt
are_alike [] (i ∷ sent) each made is = absurd cc
are_alike (x ∷ xs) [] each made is = absurd cc
are_alike {T = T} (x ∷ xs) (i ∷ sent) each made is =
    let one : said x.message x.mark ≡ i.command.outgoing = cc in
    let rest : all_said xs ≡ map (λ (y : Issued T). y.command.outgoing) sent = cc in
    (alike_said x i made.0 each.0.0 each.0.1 one, are_alike xs sent each.1 made.1 rest)

-- ---- What the other one took of them

-- of the messages that enter an inbox, with their marks or without
abbrev Took : List Spoken → List Spoken → Type 0
Took answers_are xs = AllByRecursion (λ m. IsAnsweredBy answers_are (reading m.raw)) (all_heard xs)

abbrev Asks : List Spoken → List Spoken → Type 0
Asks answers_are xs = AllByRecursion (λ x. IsAnsweredBy answers_are (Ok x.message)) xs

asked_first : (answers_are : List Spoken) (spoken : List Spoken) → AreSpoken spoken → Took answers_are (entering spoken) → Asks answers_are (asking spoken)
asked_first answers_are [] all each = tt
asked_first answers_are (s ∷ spoken) all each = by_message s.message s.mark all.0 each (λ rest. asked_first answers_are spoken all.1 rest)
  where
    by_message : (m : MessageValue) (mark : Option ℕ) → IsWellFormed m → Took answers_are (entering (record { message = m; mark = mark } ∷ spoken)) → (Took answers_are (entering spoken) → Asks answers_are (asking spoken))
        → Asks answers_are (asking (record { message = m; mark = mark } ∷ spoken))
    by_message (command token service name body) mark formed each rest =
        (subst (IsAnsweredBy answers_are) (read_back.1 (command token service name body) formed) each.0, rest each.1)
    by_message (final token body) mark formed each rest = rest each.1
    by_message (progress token body) mark formed each rest = rest each.1
    by_message (not_known token) mark formed each rest = rest each.1
    by_message (event service name body) mark formed each rest = rest each.1
    by_message (flow level) mark formed each rest = rest each

-- the marks don't matter
asked_as : (answers_are : List Spoken) (is_marked : Bool) (spoken : List Spoken) → Asks answers_are (asking (said_as is_marked spoken)) → Asks answers_are (asking spoken)
asked_as answers_are true spoken each = each
asked_as answers_are false [] each = tt
asked_as answers_are false (s ∷ spoken) each = by_flag (is_asking s.message) each (λ rest. asked_as answers_are false spoken rest)
  where
    by_flag : (flag : Bool) → Asks answers_are (cond flag ((record s { mark = None }) ∷ asking (said_as false spoken)) (asking (said_as false spoken)))
        → (Asks answers_are (asking (said_as false spoken)) → Asks answers_are (asking spoken)) → Asks answers_are (cond flag (s ∷ asking spoken) (asking spoken))
    by_flag true each rest = (each.0, rest each.1)
    by_flag false each rest = rest each

answered_each : {T : Type 0} → (answers_are : List Spoken) (xs : List Spoken) (sent : List (Issued T)) → AreAlike xs sent → AllByRecursion (λ x. IsAnsweredBy answers_are (Ok x.message)) xs
    → AllByRecursion (λ i. answers_among (decimal i.command.token) answers_are ≡ true) sent
answered_each answers_are [] [] alike each = tt
answered_each answers_are [] (i ∷ sent) alike each = absurd alike
answered_each answers_are (x ∷ xs) [] alike each = absurd alike
answered_each answers_are (x ∷ xs) (i ∷ sent) alike each =
    (subst (λ (m : MessageValue). IsAnsweredBy answers_are (Ok m)) alike.0.is each.0, answered_each answers_are xs sent alike.1 each.1)

-- ---- What was heard of the other one

said_heard : (m : MessageValue) → IsWellFormed m → said_in (spelling m) ≡ said_by m
said_heard m formed = ap said_of (read_back.1 m formed)

pub answered_heard : (spoken : List Spoken) → AreSpoken spoken → (n : ℕ) → answered_among (all_heard spoken) n ≡ answers_among (decimal n) spoken
answered_heard [] all n = refl
answered_heard (s ∷ spoken) all n =
    ap (λ m. list_any (λ text. bytes_eq text (decimal n)) (token_in m) || answered_among (all_heard spoken) n) (said_heard s.message all.0)
    ∙ ap (λ b. list_any (λ text. bytes_eq text (decimal n)) (token_in (said_by s.message)) || b) (answered_heard spoken all.1 n)

pub hello_heard : (spoken : List Spoken) → AreSpoken spoken → hello_among (all_heard spoken) ≡ hello_behind spoken
hello_heard [] all = refl
hello_heard (s ∷ spoken) all =
    ap (λ m. is_hello m || hello_among (all_heard spoken)) (said_heard s.message all.0) ∙ ap (λ b. is_hello (said_by s.message) || b) (hello_heard spoken all.1)

and_less : (a b h : Bool) → (b && not h) ≡ false → (a ≡ true → b ≡ true) → (a && not h) ≡ false
and_less true b h none more = sym (ap (λ x. x && not h) (more refl)) ∙ none
and_less false b h none more = refl

-- the redirects among the commands are among these tokens
abbrev AreCovered : {T : Type 0} → List (Issued T) → List (List ℕ) → Type 0
AreCovered commands tokens = (text : List ℕ) → list_any (λ i. i.command.is_redirect && bytes_eq text (decimal i.command.token)) commands ≡ true → list_any (λ token. bytes_eq text token) tokens ≡ true

both_true : (a b c : Bool) → (a && b) ≡ true → (b ≡ true → c ≡ true) → (a && c) ≡ true
both_true true b c is more = more is
both_true false b c is more = absurd cc

does_too : {T : Type 0} → (commands : List (Issued T)) (tokens : List (List ℕ)) → AreCovered commands tokens → (message : Said) → is_done_for commands message ≡ true → does_one tokens message ≡ true
does_too commands tokens covered greets is = absurd cc
does_too commands tokens covered tells is = absurd cc
does_too commands tokens covered asks is = absurd cc
does_too commands tokens covered (goes_on token) is = absurd cc
does_too {T = T} commands tokens covered (answers token done) is =
    both_true done (list_any (λ (i : Issued T). i.command.is_redirect && bytes_eq token (decimal i.command.token)) commands) (list_any (λ text. bytes_eq token text) tokens) is (covered token)

lacks_heard : {T : Type 0} → (commands : List (Issued T)) (tokens : List (List ℕ)) → AreCovered commands tokens → (spoken : List Spoken) → AreSpoken spoken → lacks_hello_behind tokens spoken ≡ false
    → lacks_hello_among commands (all_heard spoken) ≡ false
lacks_heard commands tokens covered [] all none = refl
lacks_heard commands tokens covered (s ∷ spoken) all none =
    let parts = or_parts (does_one tokens (said_by s.message) && not (hello_behind spoken)) (lacks_hello_behind tokens spoken) none in
    let first : (is_done_for commands (said_by s.message) && not (hello_behind spoken)) ≡ false =
    and_less (is_done_for commands (said_by s.message)) (does_one tokens (said_by s.message)) (hello_behind spoken) parts.0 (does_too commands tokens covered (said_by s.message)) in
    ap (λ m. (is_done_for commands m && not (hello_among (all_heard spoken))) || lacks_hello_among commands (all_heard spoken)) (said_heard s.message all.0)
    ∙ ap (λ b. (is_done_for commands (said_by s.message) && not b) || lacks_hello_among commands (all_heard spoken)) (hello_heard spoken all.1)
    ∙ ap (λ b. b || lacks_hello_among commands (all_heard spoken)) first
    ∙ lacks_heard commands tokens covered spoken all.1 parts.1

-- ---- The redirects that the other one took

abbrev redirects_of : List Spoken → List (List ℕ)
redirects_of xs = flat_map (λ x. redirect_in (Ok x.message)) xs

took_redirects : (spoken : List Spoken) → AreSpoken spoken → redirects_among (all_heard (entering spoken)) ≡ redirects_of (asking spoken)
took_redirects [] all = refl
took_redirects (s ∷ spoken) all = by_message s.message s.mark all.0 (took_redirects spoken all.1)
  where
    read : (m : MessageValue) → IsWellFormed m → redirect_in (reading (spelling m)) ++ redirects_among (all_heard (entering spoken)) ≡ redirect_in (Ok m) ++ redirects_among (all_heard (entering spoken))
    read m formed = ap (λ r. redirect_in r ++ redirects_among (all_heard (entering spoken))) (read_back.1 m formed)

    by_message : (m : MessageValue) (mark : Option ℕ) → IsWellFormed m → redirects_among (all_heard (entering spoken)) ≡ redirects_of (asking spoken)
        → redirects_among (all_heard (entering (record { message = m; mark = mark } ∷ spoken))) ≡ redirects_of (asking (record { message = m; mark = mark } ∷ spoken))
    by_message (command token service name body) mark formed rest = read (command token service name body) formed ∙ ap (λ ts. redirect_in (Ok (command token service name body)) ++ ts) rest
    by_message (final token body) mark formed rest = read (final token body) formed ∙ rest
    by_message (progress token body) mark formed rest = read (progress token body) formed ∙ rest
    by_message (not_known token) mark formed rest = read (not_known token) formed ∙ rest
    by_message (event service name body) mark formed rest = read (event service name body) formed ∙ rest
    by_message (flow level) mark formed rest = rest

redirects_as : (is_marked : Bool) (spoken : List Spoken) → redirects_of (asking (said_as is_marked spoken)) ≡ redirects_of (asking spoken)
redirects_as true spoken = refl
redirects_as false [] = refl
redirects_as false (s ∷ spoken) = by_flag (is_asking s.message) (redirects_as false spoken)
  where
    by_flag : (flag : Bool) → redirects_of (asking (said_as false spoken)) ≡ redirects_of (asking spoken)
        → redirects_of (cond flag ((record s { mark = None }) ∷ asking (said_as false spoken)) (asking (said_as false spoken))) ≡ redirects_of (cond flag (s ∷ asking spoken) (asking spoken))
    by_flag true rest = ap (λ ts. redirect_in (Ok s.message) ++ ts) rest
    by_flag false rest = rest

-- the first one is among them
named_first : {T : Type 0} → (text : List ℕ) (m : MessageValue) (i : Issued T) → IsAlike m i → (i.command.is_redirect && bytes_eq text (decimal i.command.token)) ≡ true
    → list_any (λ token. bytes_eq text token) (redirect_in (Ok m)) ≡ true
named_first text m i a is =
    let parts = and_parts i.command.is_redirect (bytes_eq text (decimal i.command.token)) is in
    let tokens : redirect_in (Ok m) ≡ decimal i.command.token ∷ [] =
    ap (λ x. redirect_in (Ok x)) a.is ∙ ap (λ flag. cond flag (decimal i.command.token ∷ []) []) (a.redirects parts.0) in
    ap (list_any (λ token. bytes_eq text token)) tokens ∙ or_left (bytes_eq text (decimal i.command.token)) false parts.1

covered_by : {T : Type 0} → (xs : List Spoken) (sent : List (Issued T)) → AreAlike xs sent → AreCovered sent (redirects_of xs)
covered_by [] [] alike text is = absurd cc
covered_by [] (i ∷ sent) alike text is = absurd alike
covered_by (x ∷ xs) [] alike text is = absurd alike
covered_by {T = T} (x ∷ xs) (i ∷ sent) alike text is =
    list_any-append (λ token. bytes_eq text token) (redirect_in (Ok x.message)) (redirects_of xs)
    ∙ by_flag (i.command.is_redirect && bytes_eq text (decimal i.command.token)) refl is (covered_by xs sent alike.1 text)
  where
    names : Issued T → Bool
    names y = y.command.is_redirect && bytes_eq text (decimal y.command.token)

    first : Bool
    first = list_any (λ token. bytes_eq text token) (redirect_in (Ok x.message))

    rest : Bool
    rest = list_any (λ token. bytes_eq text token) (redirects_of xs)

    by_flag : (flag : Bool) → names i ≡ flag → (flag || list_any names sent) ≡ true → (list_any names sent ≡ true → rest ≡ true) → (first || rest) ≡ true
    by_flag true here is later = or_left first rest (named_first text x.message i alike.0 here)
    by_flag false here is later = or_right first rest (later is)

-- ---- The law

none_lacks : {T : Type 0} → (taken : List (Taken T)) (sent : List (Issued T)) → AreAnswered taken sent → lacks_answer sent taken ≡ false
none_lacks taken [] each = refl
none_lacks taken (i ∷ sent) each =
    ap (λ b. (i.command.is_redirect && not b) || lacks_answer sent taken) each.0 ∙ ap (λ b. b || lacks_answer sent taken) (and_none i.command.is_redirect) ∙ none_lacks taken sent each.1
  where
    and_none : (flag : Bool) → (flag && false) ≡ false
    and_none true = refl
    and_none false = refl

all_answered : {T : Type 0} → (r : Run T) (spoken : List Spoken) (sent : List (Issued T)) → ((n : ℕ) → is_answered r.past.taken n ≡ answers_among (decimal n) spoken)
    → AllByRecursion (λ i. answers_among (decimal i.command.token) spoken ≡ true) sent → AreAnswered r.past.taken sent
all_answered r spoken [] same each = tt
all_answered r spoken (i ∷ sent) same each = (same i.command.token ∙ each.0, all_answered r spoken sent same each.1)

pub all_free : {T U : Type 0} → WhereAllIsAnswered T U
all_free {T = T} {U = U} others_are s other l m h g spoken a opened = record {
  live = live_is;
  held = rest.held live_is;
  pending = rest.pending live_is answered;
  answered = answered;
  none_asks = lacks;
  none_awaits = lacks_too;
}
  where
    r : Run T
    r = run_of s

    o : Run U
    o = run_of other

    together : RestTogether true others_are s other
    together = all_rest_together true others_are s other l m h g

    rest : AtRest true s other
    rest = together.first opened

    q : CanBeRead r
    q = readable s l

    heard : flat_map incoming_of r.past.taken ≡ all_heard spoken
    heard = rest.taken spoken a.formed a.queued

    comes : List Spoken
    comes = said_as others_are q.spoken

    all_formed : AreSpoken comes
    all_formed = formed_as others_are q.spoken q.well_formed

    took : flat_map incoming_of o.past.taken ≡ all_heard (entering comes)
    took = (together.second opened).taken (entering comes) (entering_formed comes all_formed) (queued_said others_are q)

    sends : all_said (asking q.spoken) ≡ map (λ i. i.command.outgoing) (sent_of r)
    sends = sym (commands_said q.spoken q.is_ended) ∙ ap (filter is_command) (sym q.queue) ∙ (all_sent_in_order s.hello s.mark s.calls).are_sent

    alike : AreAlike (asking q.spoken) (sent_of r)
    alike = are_alike (asking q.spoken) (sent_of r) (are_asking q.spoken q.well_formed) (sent_made s.hello s.mark s.calls) sends

    each : AllByRecursion (λ i. answers_among (decimal i.command.token) spoken ≡ true) (sent_of r)
    each =
        let P : List Incoming → Type 0 = λ ms. AllByRecursion (λ x. IsAnsweredBy spoken (reading x.raw)) ms in
        answered_each spoken (asking q.spoken) (sent_of r) alike (asked_as spoken others_are q.spoken (asked_first spoken comes all_formed (subst P took a.answered)))

    tells_all : TellsAsMessages r
    tells_all = all_tell {T = T} s.hello s.mark s.calls

    answered : AreAnswered r.past.taken (sent_of r)
    answered = all_answered r spoken (sent_of r) (λ n. tells_all.answered n ∙ ap (λ ms. answered_among ms n) heard ∙ answered_heard spoken a.formed n) each

    lacks : lacks_answer (sent_of r) r.past.taken ≡ false
    lacks = none_lacks r.past.taken (sent_of r) answered

    tokens : redirects_among (flat_map incoming_of o.past.taken) ≡ redirects_of (asking q.spoken)
    tokens = ap redirects_among took ∙ took_redirects comes all_formed ∙ redirects_as others_are q.spoken

    lacks_too : lacks_hello (sent_of r) r.past.taken ≡ false
    lacks_too =
        tells_all.lacks (sent_of r) ∙ ap (lacks_hello_among (sent_of r)) heard
        ∙ lacks_heard (sent_of r) (redirects_of (asking q.spoken)) (covered_by (asking q.spoken) (sent_of r) alike) spoken a.formed (ap (λ ts. lacks_hello_behind ts spoken) (sym tokens) ∙ a.greeted)

    live_is : r.end.state ≡ Live
    live_is = rest.live lacks lacks_too
