-- The commands that an end takes have the tokens 1, 2, 3 and so on.
use Rattle.std.proofs.Common.{◌≡◌, ℕ, suc, zero, ◌+◌, ◌≤◌, Bool, true, false, cond, List, [], ◌∷◌, ◌++◌, length, map, Option, None, Ok, refl, sym, ap, ◌∙◌, arith, length-append}
use Rattle.std.specs.Prelude.{decimal}
use Rattle.std.specs.List.{AllByRecursion, filter, flat_map, range_with_len}
use Rattle.std.proofs.lemmas.List.Concat.{flat_map-append}
use Rattle.tcf_message.specs.Message.{MessageValue, command, event, final, flow, not_known, progress, reading, spelling, IsWellFormed}
use Rattle.channel_core.specs.Arrivals.{AreSpoken, Spoken, arrived, bytes_of, marked, messages_in, queue_of, all_heard, all_said}
use Rattle.channel_core.specs.ReceivingLaws.{CanBeRead, incoming_of, received}
use Rattle.channel_core.specs.RunLaws.{is_command, sent_of}
use Rattle.channel_core.specs.Runs.{Issued, Run}
use Rattle.channel_core.specs.Sending.{last_token}
use Rattle.channel_core.specs.declared.held.Arrived.{Arrived}
use Rattle.channel_core.specs.declared.held.Incoming.{Incoming}
use Rattle.channel_core.specs.declared.held.Outgoing.{Outgoing}
use Rattle.channel_core.proofs.Commands.{sent_is}
use Rattle.channel_core.proofs.Received as receiving
use Rattle.channel_core.proofs.Running.{all_can_be_read, all_counted, all_in_order, all_sent_in_order, always}
use Rattle.channel_laws.specs.Meeting.{Side, as_comes, run_of}
use Rattle.channel_laws.specs.Rest.{IsMade}
use Rattle.channel_laws.specs.Numbering.{WhatComesIsNumbered, token_asked, tokens_among, tokens_from}
use Rattle.tcf_message.proofs.TheLaws.{read_back}
use Rattle.channel_laws.proofs.Rest.Answering.{AreAlike, are_alike, are_asking, asking, commands_said, is_asking}
use Rattle.channel_laws.proofs.Rest.Making.{all_made, sent_made}
use Rattle.channel_laws.proofs.Rest.Meeting.{entering, formed_as, queue_as, said_as}
use Rattle.list_laws.specs.Fronts.{IsFront}
use Rattle.list_laws.proofs.Fronts.{front_then}

-- ---- Fronts

-- a front of a numbered list is numbered
front_numbered : (next count : ℕ) (tokens rest : List (List ℕ)) → tokens_from next count ≡ tokens ++ rest → tokens ≡ tokens_from next (length tokens)
front_numbered next count [] rest is = refl
front_numbered next zero (token ∷ tokens) rest is = absurd cc
front_numbered next (suc count) (token ∷ tokens) rest is =
    let same : token ≡ decimal next = cc in
    let later : tokens_from (next + 1) count ≡ tokens ++ rest = cc in
    ap (λ t. t ∷ tokens) same ∙ ap (λ ts. decimal next ∷ ts) (front_numbered (next + 1) count tokens rest later)

-- ---- The commands that were accepted

abbrev pub tokens_of : {T : Type 0} → List (Issued T) → List (List ℕ)
tokens_of commands = map (λ i. decimal i.command.token) commands

-- those whose tokens count from there
counted_from : {T : Type 0} → (next count : ℕ) (commands : List (Issued T)) → map (λ i. i.command.token) commands ≡ range_with_len next count → tokens_of commands ≡ tokens_from next count
counted_from next zero [] is = refl
counted_from next (suc count) [] is = absurd cc
counted_from next zero (i ∷ commands) is = absurd cc
counted_from {T = T} next (suc count) (i ∷ commands) is =
    let same : i.command.token ≡ next = cc in
    let later : map (λ (j : Issued T). j.command.token) commands ≡ range_with_len (next + 1) count = cc in
    ap (λ n. decimal n ∷ tokens_of commands) same ∙ ap (λ ts. decimal next ∷ ts) (counted_from (next + 1) count commands later)

tokens_more : {T : Type 0} → (first more : List (Issued T)) → tokens_of (first ++ more) ≡ tokens_of first ++ tokens_of more
tokens_more [] more = refl
tokens_more (i ∷ first) more = ap (λ ts. decimal i.command.token ∷ ts) (tokens_more first more)

-- they are no more than the last token
few_counted : {T : Type 0} → (next count : ℕ) (commands : List (Issued T)) → map (λ i. i.command.token) commands ≡ range_with_len next count → AllByRecursion IsMade commands
    → next ≤ last_token + 1 → next + count ≤ last_token + 1
few_counted next zero commands is made low = omega arith
few_counted next (suc count) [] is made low = absurd cc
few_counted {T = T} next (suc count) (i ∷ commands) is made low =
    let same : i.command.token ≡ next = cc in
    let later : map (λ (j : Issued T). j.command.token) commands ≡ range_with_len (next + 1) count = cc in
    let fits : i.command.token ≤ last_token = made.0.fits in
    let rest = few_counted (next + 1) count commands later made.1 (omega arith) in
    omega arith

length_from : (next count : ℕ) → length (tokens_from next count) ≡ count
length_from next zero = refl
length_from next (suc count) = ap suc (length_from (next + 1) count)

-- the tokens of those that were sent are the first
sent_numbered : {T : Type 0} → (s : Side T) → IsFront (tokens_of (sent_of (run_of s))) (tokens_from 1 (length (run_of s).past.accepted))
sent_numbered {T = T} s =
    let r : Run T = run_of s in
    let stands = always {T = T} s.hello s.mark s.calls in
    let all : tokens_of r.past.accepted ≡ tokens_from 1 (length r.past.accepted) = counted_from 1 (length r.past.accepted) r.past.accepted (all_counted {T = T} s.hello s.mark s.calls).tokens in (
      tokens_of stands.split.waiting,
      sym all ∙ ap (λ (xs : List (Issued T)). tokens_of xs) stands.split.parts ∙ tokens_more stands.split.sent stands.split.waiting
          ∙ ap (λ (xs : List (Issued T)). tokens_of xs ++ tokens_of stands.split.waiting) (sym (sent_is r stands.split)),
    )

-- ---- The commands among messages

abbrev pub tokens_asked : List Spoken → List (List ℕ)
tokens_asked xs = flat_map (λ x. token_asked (Ok x.message)) xs

pub heard_tokens : (spoken : List Spoken) → AreSpoken spoken → tokens_among (all_heard (entering spoken)) ≡ tokens_asked (asking spoken)
heard_tokens [] all = refl
heard_tokens (s ∷ spoken) all = by_message s.message s.mark all.0 (heard_tokens spoken all.1)
  where
    read : (m : MessageValue) → IsWellFormed m → token_asked (reading (spelling m)) ++ tokens_among (all_heard (entering spoken)) ≡ token_asked (Ok m) ++ tokens_among (all_heard (entering spoken))
    read m formed = ap (λ r. token_asked r ++ tokens_among (all_heard (entering spoken))) (read_back.1 m formed)

    by_message : (m : MessageValue) (mark : Option ℕ) → IsWellFormed m → tokens_among (all_heard (entering spoken)) ≡ tokens_asked (asking spoken)
        → tokens_among (all_heard (entering (record { message = m; mark = mark } ∷ spoken))) ≡ tokens_asked (asking (record { message = m; mark = mark } ∷ spoken))
    by_message (command token service name body) mark formed rest = read (command token service name body) formed ∙ ap (λ ts. token ∷ ts) rest
    by_message (final token body) mark formed rest = read (final token body) formed ∙ rest
    by_message (progress token body) mark formed rest = read (progress token body) formed ∙ rest
    by_message (not_known token) mark formed rest = read (not_known token) formed ∙ rest
    by_message (event service name body) mark formed rest = read (event service name body) formed ∙ rest
    by_message (flow level) mark formed rest = rest

-- the marks don't matter
pub tokens_as : (is_marked : Bool) (spoken : List Spoken) → tokens_asked (asking (said_as is_marked spoken)) ≡ tokens_asked (asking spoken)
tokens_as true spoken = refl
tokens_as false [] = refl
tokens_as false (s ∷ spoken) = by_flag (is_asking s.message) (tokens_as false spoken)
  where
    by_flag : (flag : Bool) → tokens_asked (asking (said_as false spoken)) ≡ tokens_asked (asking spoken)
        → tokens_asked (cond flag ((record s { mark = None }) ∷ asking (said_as false spoken)) (asking (said_as false spoken))) ≡ tokens_asked (cond flag (s ∷ asking spoken) (asking spoken))
    by_flag true rest = ap (λ ts. token_asked (Ok s.message) ++ ts) rest
    by_flag false rest = rest

-- messages that are the commands have their tokens
pub tokens_alike : {T : Type 0} → (xs : List Spoken) (sent : List (Issued T)) → AreAlike xs sent → tokens_asked xs ≡ tokens_of sent
tokens_alike [] [] alike = refl
tokens_alike [] (i ∷ sent) alike = absurd alike
tokens_alike (x ∷ xs) [] alike = absurd alike
tokens_alike (x ∷ xs) (i ∷ sent) alike =
    ap (λ m. token_asked (Ok m) ++ tokens_asked xs) alike.0.is ∙ ap (λ ts. decimal i.command.token ∷ ts) (tokens_alike xs sent alike.1)

-- the tokens that are asked for by what an end queued are those of the commands that it sent
pub tokens_sent : {T : Type 0} → (is_marked : Bool) (s : Side T) (q : CanBeRead (run_of s)) → tokens_among (all_heard (entering (said_as is_marked q.spoken))) ≡ tokens_of (sent_of (run_of s))
tokens_sent {T = T} is_marked s q = heard_tokens (said_as is_marked q.spoken) (formed_as is_marked q.spoken q.well_formed) ∙ tokens_as is_marked q.spoken ∙ tokens_alike (asking q.spoken) (sent_of (run_of s)) alike
  where
    said_so : all_said (asking q.spoken) ≡ map (λ i. i.command.outgoing) (sent_of (run_of s))
    said_so = sym (commands_said q.spoken q.is_ended) ∙ ap (filter is_command) (sym q.queue) ∙ (all_sent_in_order s.hello s.mark s.calls).are_sent

    alike : AreAlike (asking q.spoken) (sent_of (run_of s))
    alike = are_alike (asking q.spoken) (sent_of (run_of s)) (are_asking q.spoken q.well_formed) (sent_made s.hello s.mark s.calls) said_so

-- ---- What comes of another end

-- what was given is a front of what was queued
given_front : {U : Type 0} → (is_marked : Bool) (other : Side U) (spoken : List Spoken) (is_ended : Bool) → (run_of other).past.queued ≡ queue_of spoken is_ended
    → IsFront (bytes_of (as_comes is_marked (run_of other).past.given)) (bytes_of (queue_of (said_as is_marked spoken) is_ended))
given_front {U = U} is_marked other spoken is_ended is =
    let o : Run U = run_of other in
    let queued : o.past.given ++ o.end.queued ≡ queue_of spoken is_ended = all_in_order other.hello other.mark other.calls ∙ is in (
      bytes_of (as_comes is_marked o.end.queued),
      ap bytes_of (sym (queue_as is_marked spoken is_ended) ∙ ap (as_comes is_marked) (sym queued) ∙ comes_more is_marked o.past.given o.end.queued)
          ∙ flat_map-append (λ (out : Outgoing). marked out.bytes out.mark) (as_comes is_marked o.past.given) (as_comes is_marked o.end.queued),
    )
  where
    comes_more : (flag : Bool) (first more : List Outgoing) → as_comes flag (first ++ more) ≡ as_comes flag first ++ as_comes flag more
    comes_more true first more = refl
    comes_more false [] more = refl
    comes_more false (out ∷ first) more = ap (λ outs. (record out { mark = None }) ∷ outs) (comes_more false first more)

-- the messages that were taken are a front of those that were queued
pub taken_front : {T : Type 0} → (s : Side T) (spoken : List Spoken) (is_ended : Bool) → AreSpoken spoken → IsFront (arrived s.calls) (bytes_of (queue_of spoken is_ended))
    → IsFront (flat_map incoming_of (run_of s).past.taken) (all_heard (entering spoken))
taken_front {T = T} s spoken is_ended all front =
    let r : Run T = run_of s in
    let taken : IsFront (flat_map incoming_of r.past.taken) (received r) = (map (λ (a : Arrived). a.incoming) r.end.inbox, refl) in
    front_then (flat_map incoming_of r.past.taken) (received r) (messages_in spoken) taken (receiving.all_in_order s.hello s.mark s.calls spoken is_ended all front).front

pub all_numbered : {T U : Type 0} → WhatComesIsNumbered T U
all_numbered {T = T} {U = U} is_marked s other formed sends front = (front_numbered 1 (length o.past.accepted) (tokens_among took) first.0 first.1, few)
  where
    o : Run U
    o = run_of other

    took : List Incoming
    took = flat_map incoming_of (run_of s).past.taken

    q : CanBeRead o
    q = all_can_be_read other.hello other.mark other.calls formed sends

    comes : List Spoken
    comes = said_as is_marked q.spoken

    all_formed : AreSpoken comes
    all_formed = formed_as is_marked q.spoken q.well_formed

    came : IsFront (arrived s.calls) (bytes_of (queue_of comes q.is_ended))
    came = front_then (arrived s.calls) (bytes_of (as_comes is_marked o.past.given)) (bytes_of (queue_of comes q.is_ended)) front (given_front is_marked other q.spoken q.is_ended q.queue)

    heard : IsFront took (all_heard (entering comes))
    heard = taken_front s comes q.is_ended all_formed came

    asked : IsFront (tokens_among took) (tokens_of (sent_of o))
    asked = (tokens_among heard.0, sym (tokens_sent is_marked other q) ∙ ap tokens_among heard.1 ∙ flat_map-append (λ (m : Incoming). token_asked (reading m.raw)) took heard.0)

    first : IsFront (tokens_among took) (tokens_from 1 (length o.past.accepted))
    first = front_then (tokens_among took) (tokens_of (sent_of o)) (tokens_from 1 (length o.past.accepted)) asked (sent_numbered other)

    few : length (tokens_among took) ≤ last_token
    few =
        let accepted = length o.past.accepted in
        let whole : accepted ≡ length (tokens_among took) + length first.0 = sym (length_from 1 accepted) ∙ ap length first.1 ∙ length-append (tokens_among took) first.0 in
        let within : 1 + accepted ≤ last_token + 1 = few_counted 1 accepted o.past.accepted (all_counted {T = U} other.hello other.mark other.calls).tokens (all_made other.hello other.mark other.calls) (omega arith) in
        omega arith
