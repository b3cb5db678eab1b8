-- A client accepts fewer than 2^64 commands, since it numbers them from 1 on and takes none behind the last number.
use Rattle.std.proofs.Common.{◌≡◌, ℕ, ◌+◌, ◌-◌, ◌<◌, ◌==◌, ◌^◌, List, [], ◌∷◌, ◌++◌, length, Option, Some, None, refl, ap, sym, ◌∙◌, subst, ◌≢◌, arith, length-append, append-nil, nat_le, nat_lt}
use Rattle.std.specs.List.{range_with_len}
use Rattle.channel_core.specs.Closing.{is_closed}
use Rattle.channel_core.specs.EndValue.{EndValue}
use Rattle.channel_core.specs.Sending.{last_token, most_pending, refusal_of}
use Rattle.channel_core.specs.declared.sending.SendRefusal.{SendRefusal}
use Rattle.client_node.specs.Runs.{Call, Past, asks, bytes_end, closes, comes, commands_in, commands_on, gives, no_past, opens, past_of, remembered, sends, turns, unless_refused}
use Rattle.tcf_message.specs.Message.{most_body}
use Rattle.tcf_text.specs.Lines.{Accepted}
use Rattle.tcf_text.specs.Once.{numbers}
use Rattle.chain_heard.specs.Heard.{CommandsAreFew}
use Rattle.value_node.proofs.CallAdds.{not_spent, below_last}
use Rattle.client_node.proofs.TheLaws.{log_tells_past}

past_push : (calls : List Call) (call : Call) (p : Past) → past_of (calls ++ call ∷ []) p ≡ remembered call (past_of calls p)
past_push [] call p = refl
past_push (x ∷ calls) call p = past_push calls call (remembered x p)

-- the number of the last command
last_number : (commands : List Accepted) (c : Accepted) (low : ℕ) → numbers (commands ++ c ∷ []) ≡ range_with_len low (length (commands ++ c ∷ [])) → c.number ≡ low + length commands
last_number [] c low are = let same : c.number ≡ low = cc in omega arith
last_number (d ∷ commands) c low are =
    let tail : numbers (commands ++ c ∷ []) ≡ range_with_len (low + 1) (length (commands ++ c ∷ [])) = cc in
    let rest : c.number ≡ (low + 1) + length commands = last_number commands c (low + 1) tail in omega arith

abbrev AreCounted : List Accepted → Type 0
AreCounted commands = numbers commands ≡ range_with_len 1 (length commands)

same_few : (commands more : List Accepted) → more ≡ [] → length commands < 2 ^ 64 → length (commands ++ more) < 2 ^ 64
same_few commands more none few = subst (λ cs. length cs < 2 ^ 64) (sym (ap (λ l. commands ++ l) none ∙ append-nil commands)) few

accepted_few : (refusal : Option SendRefusal) (e : EndValue ℕ) (commands : List Accepted) (c : Accepted) → (refusal ≡ None → last_token ≢ e.last) → c.number ≡ e.last + 1
    → length commands < 2 ^ 64 → AreCounted (commands ++ unless_refused refusal c) → length (commands ++ unless_refused refusal c) < 2 ^ 64
accepted_few (Some why) e commands c unspent next few counted = same_few commands [] refl few
accepted_few None e commands c unspent next few counted =
    let last : c.number ≡ 1 + length commands = last_number commands c 1 counted in
    let other : last_token ≢ e.last = unspent refl in
    let long : length (commands ++ c ∷ []) ≡ length commands + 1 = omega (arith, length-append commands (c ∷ [])) in
    let differs : 2 ^ 64 - 1 ≢ e.last = other in
    omega arith

on_few : (channel : Option (EndValue ℕ)) (service name body : List ℕ) (commands : List Accepted) → length commands < 2 ^ 64
    → AreCounted (commands ++ commands_on channel service name body) → length (commands ++ commands_on channel service name body) < 2 ^ 64
on_few None service name body commands few counted = same_few commands [] refl few
on_few (Some e) service name body commands few counted =
    let size = length service + length name + length body in
    accepted_few (refusal_of size e) e commands (record { number = e.last + 1; service = service; name = name; body = body })
    (λ none. λ is. below_last e.last (not_spent (is_closed e.state) (nat_lt most_body size) (nat_le most_pending (length e.pending)) (e.last == last_token) none) (sym is))
    refl few counted

step_few : (call : Call) (channel : Option (EndValue ℕ)) (commands : List Accepted) → length commands < 2 ^ 64
    → AreCounted (commands ++ commands_in call channel) → length (commands ++ commands_in call channel) < 2 ^ 64
step_few (sends service name body) channel commands few counted = on_few channel service name body commands few counted
step_few opens channel commands few counted = same_few commands [] refl few
step_few (comes piece mark) channel commands few counted = same_few commands [] refl few
step_few bytes_end channel commands few counted = same_few commands [] refl few
step_few turns channel commands few counted = same_few commands [] refl few
step_few closes channel commands few counted = same_few commands [] refl few
step_few gives channel commands few counted = same_few commands [] refl few
step_few (asks what) channel commands few counted = same_few commands [] refl few

few_from : (done calls : List Call) (p : Past) → p ≡ past_of done no_past → length p.commands < 2 ^ 64 → length (past_of calls p).commands < 2 ^ 64
few_from done [] p made few = few
few_from done (call ∷ calls) p made few =
    let next : remembered call p ≡ past_of (done ++ call ∷ []) no_past = ap (remembered call) made ∙ sym (past_push done call no_past) in
    let counted : AreCounted (remembered call p).commands = subst (λ (q : Past). AreCounted q.commands) (sym next) (log_tells_past (done ++ call ∷ [])).counted in
    few_from (done ++ call ∷ []) calls (remembered call p) next (step_few call p.client.channel p.commands few counted)

pub commands_few : CommandsAreFew
commands_few calls = let none : length no_past.commands < 2 ^ 64 = omega arith in few_from [] calls no_past refl none
