-- The commands that a client accepted, in order under 1, 2, 3 and so on.
use Rattle.std.proofs.Common.{◌≡◌, ℕ, zero, suc, ◌+◌, ◌<◌, ◌≤◌, ◌==◌, Bool, true, false, cond, nat_lt, nat_le, List, [], ◌∷◌, ◌++◌, length, take, map, Option, Some, None, refl, sym, ap, ◌∙◌, arith, ltb-false}
use Rattle.std.specs.Prelude.{decimal, ◌^◌}
use Rattle.std.specs.List.{AllByRecursion, range_with_len}
use Rattle.tcf_message.specs.Message.{HasNoZero, IsWellFormed, MessageValue, command, most_body}
use Rattle.channel_core.specs.Arrivals.{Spoken}
use Rattle.channel_core.specs.Closing.{is_closed}
use Rattle.channel_core.specs.EndValue.{EndValue}
use Rattle.channel_core.specs.Sending.{last_token, most_pending, refusal_of}
use Rattle.channel_core.specs.declared.sending.SendRefusal.{SendRefusal}
use Rattle.channel_core.specs.declared.sending.SendRefusal.TheVariants.{Full, NotOpen, Spent, TooLong}
use Rattle.client_node.specs.Ends.{HasNames}
use Rattle.client_node.specs.Runs.{Call, Past, asks as asks_cache, bytes_end, closes, comes, commands_in as accepted_by, commands_on, gives, opens, past_of, remembered, sends, turns, unless_refused}
use Rattle.tcf_text.specs.Lines.{Accepted}
use Rattle.tcf_text.specs.Once.{numbers}
use Rattle.chain_heard.specs.Heard.{asked_as}
use Rattle.chain_through.specs.Calling.{all_asking}
use Rattle.chain_through.proofs.Spelling.{AreSpelled}
use Rattle.chain_told.specs.Told.{numbered}
use Rattle.list_laws.proofs.AllLists.{all_append}
use Rattle.tcf_message.proofs.TheLaws.{decimal_token}

abbrev pub command_of : Accepted → MessageValue
command_of c = command (decimal c.number) c.service c.name c.body

abbrev pub AreWritten : List Accepted → Type 0
AreWritten commands = AllByRecursion (λ c. IsWellFormed (command_of c)) commands

abbrev pub speaking : Accepted → Spoken
speaking c = record { message = command_of c; mark = None }

-- ---- They can be written

-- all but that its number is a token
pub record IsNamed (c : Accepted) : Type 0 where
  pub service : HasNoZero c.service
  pub name : HasNoZero c.name
  pub size : length c.service + length c.name + length c.body ≤ most_body

fitting : {T : Type 0} → (size : ℕ) (e : EndValue T) → refusal_of size e ≡ None → size ≤ most_body
fitting size e none = ltb-false most_body size (by_flags (is_closed e.state) (nat_lt most_body size) (nat_le most_pending (length e.pending)) (e.last == last_token) none)
  where
    by_flags : (a b c d : Bool) → cond a (Some NotOpen) (cond b (Some TooLong) (cond c (Some Full) (cond d (Some Spent) None))) ≡ None → b ≡ false
    by_flags true b c d is = absurd cc
    by_flags false true c d is = absurd cc
    by_flags false false c d is = refl

accepted_named : (channel : Option (EndValue ℕ)) (service name body : List ℕ) → HasNoZero service → HasNoZero name → AllByRecursion IsNamed (commands_on channel service name body)
accepted_named None service name body one two = tt
accepted_named (Some e) service name body one two = by_refusal (refusal_of (length service + length name + length body) e) refl
  where
    by_refusal : (refusal : Option SendRefusal) → refusal_of (length service + length name + length body) e ≡ refusal
        → AllByRecursion IsNamed (unless_refused refusal (record { number = e.last + 1; service = service; name = name; body = body }))
    by_refusal None is = (record { service = one; name = two; size = fitting (length service + length name + length body) e is }, tt)
    by_refusal (Some why) is = tt

call_named : (call : Call) (channel : Option (EndValue ℕ)) → HasNames call → AllByRecursion IsNamed (accepted_by call channel)
call_named (sends service name body) channel names = accepted_named channel service name body names.0 names.1
call_named opens channel names = tt
call_named (comes piece mark) channel names = tt
call_named bytes_end channel names = tt
call_named turns channel names = tt
call_named closes channel names = tt
call_named gives channel names = tt
call_named (asks_cache what) channel names = tt

pub all_named : (calls : List Call) (p : Past) → AllByRecursion HasNames calls → AllByRecursion IsNamed p.commands → AllByRecursion IsNamed (past_of calls p).commands
all_named [] p names each = each
all_named (call ∷ calls) p names each =
    all_named calls (remembered call p) names.1 (all_append IsNamed p.commands (accepted_by call p.client.channel) each (call_named call p.client.channel names.0))

-- ---- They are counted

abbrev pub AreCounted : ℕ → List Accepted → Type 0
AreCounted token [] = Unit {0}
AreCounted token (c ∷ commands) = (c.number ≡ token) × AreCounted (token + 1) commands

pub are_counted : (token : ℕ) (commands : List Accepted) → numbers commands ≡ range_with_len token (length commands) → AreCounted token commands
are_counted token [] is = tt
are_counted token (c ∷ commands) is =
    let here : c.number ≡ token = cc in
    let rest : numbers commands ≡ range_with_len (token + 1) (length commands) = cc in
    (here, are_counted (token + 1) commands rest)

pub counted_front : (token : ℕ) (front back : List Accepted) → AreCounted token (front ++ back) → AreCounted token front
counted_front token [] back counted = tt
counted_front token (c ∷ front) back counted = (counted.0, counted_front (token + 1) front back counted.1)

pub counted_taken : (token n : ℕ) (commands : List Accepted) → AreCounted token commands → AreCounted token (take n commands)
counted_taken token zero commands counted = tt
counted_taken token (suc n) [] counted = tt
counted_taken token (suc n) (c ∷ commands) counted = (counted.0, counted_taken (token + 1) n commands counted.1)

pub written : (token : ℕ) (commands : List Accepted) → AllByRecursion IsNamed commands → AreCounted token commands → token + length commands ≤ 2 ^ 64 → AreWritten commands
written token [] each counted few = tt
written token (c ∷ commands) each counted few =
    let number = counted.0 in
    let small : c.number < 2 ^ 64 = omega arith in
    let rest : (token + 1) + length commands ≤ 2 ^ 64 = omega arith in
    (((decimal_token c.number small, each.0.service, each.0.name), each.0.size), written (token + 1) commands each.1 counted.1 rest)

-- ---- So they stand under their numbers

pub numbered_counted : (token : ℕ) (commands : List Accepted) → AreCounted token commands → numbered token (map asked_as commands) ≡ map asked_as commands
numbered_counted token [] counted = refl
numbered_counted token (c ∷ commands) counted =
    ap (λ n. record (asked_as c) { token = decimal n } ∷ numbered (token + 1) (map asked_as commands)) (sym counted.0)
    ∙ ap (λ cs. asked_as c ∷ cs) (numbered_counted (token + 1) commands counted.1)

pub asking_counted : (token : ℕ) (commands : List Accepted) → AreCounted token commands → all_asking token (map asked_as commands) ≡ map speaking commands
asking_counted token [] counted = refl
asking_counted token (c ∷ commands) counted =
    ap (λ n. record { message = command (decimal n) c.service c.name c.body; mark = None } ∷ all_asking (token + 1) (map asked_as commands)) (sym counted.0)
    ∙ ap (λ cs. speaking c ∷ cs) (asking_counted (token + 1) commands counted.1)

pub spoken_spelled : (commands : List Accepted) → AreWritten commands → AreSpelled (map speaking commands)
spoken_spelled [] each = tt
spoken_spelled (c ∷ commands) each = ((each.0.0.0.0, each.0.0.1, each.0.0.2), spoken_spelled commands each.1)
