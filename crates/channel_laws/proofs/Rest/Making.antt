-- Each accepted command is made of its names and its data, within the limits.
use Rattle.std.proofs.Common.{◌≡◌, ℕ, ◌+◌, List, [], ◌∷◌, ◌++◌, length, Option, Some, None, refl, sym, subst, append-nil, ltb-false}
use Rattle.std.specs.List.{AllByRecursion}
use Rattle.tcf_message.specs.Message.{most_body}
use Rattle.channel_core.specs.Beginning.{new_end}
use Rattle.channel_core.specs.RunLaws.{AfterAllCalls, sent_of}
use Rattle.channel_core.specs.Runs.{Call, Issued, Run, after_call, after_calls, begun, closing, commanding, delivering, draining, ending, issued, putting_out, sending, taking, unless_refused}
use Rattle.channel_core.specs.declared.sending.SendRefusal.{SendRefusal}
use Rattle.channel_core.proofs.Commands.{sent_is}
use Rattle.channel_core.proofs.Running.{Stands, always, stands_after, stands_at_first}
use Rattle.channel_laws.specs.Rest.{IsMade, MakesCommands}
use Rattle.channel_laws.proofs.Rest.AllCalls.{is_new}
use Rattle.list_laws.proofs.AllLists.{all_left, all_append}
use Rattle.channel_core.proofs.Saying.{fitting}
use Rattle.channel_core.specs.Sending.{refusal_to}

made_new : {T : Type 0} → (refusal : Option SendRefusal) (service name body : List ℕ) (tag : T) (mark : Option ℕ) (r : Run T) → refusal_to service name body r.end ≡ refusal → Stands r → MakesCommands r
    → AllByRecursion IsMade (r.past.accepted ++ unless_refused refusal [] (issued service name body tag mark r.end ∷ []))
made_new {T = T} (Some why) service name body tag mark r is s i = subst (λ (xs : List (Issued T)). AllByRecursion IsMade xs) (sym (append-nil r.past.accepted)) i
made_new None service name body tag mark r is s i =
    let size = length service + length name + length body in
    all_append IsMade r.past.accepted (issued service name body tag mark r.end ∷ []) i (
      record {
        service = service;
        name = name;
        body = body;
        mark = mark;
        is = refl;
        size = ltb-false most_body size (fitting size r.end is);
        fits = (is_new service name body tag mark r s is).fits;
      },
      tt,
    )

made_called : {T : Type 0} → (call : Call T) (r : Run T) → Stands r → MakesCommands r → MakesCommands (after_call call r)
made_called (delivering piece mark) r s i = i
made_called ending r s i = i
made_called taking r s i = i
made_called (commanding service name body tag mark) r s i = made_new (refusal_to service name body r.end) service name body tag mark r refl s i
made_called (sending message mark) r s i = i
made_called putting_out r s i = i
made_called closing r s i = i
made_called draining r s i = i

made_after : {T : Type 0} → (calls : List (Call T)) (r : Run T) → Stands r → MakesCommands r → MakesCommands (after_calls calls r)
made_after [] r s i = i
made_after (call ∷ calls) r s i = made_after calls (after_call call r) (stands_after call r s) (made_called call r s i)

pub all_made : {T : Type 0} → AfterAllCalls {T = T} MakesCommands
all_made {T = T} hello mark calls = made_after calls (begun (new_end {T = T} hello mark)) (stands_at_first hello mark) tt

-- so is each that was sent
pub sent_made : {T : Type 0} → (hello : List ℕ) (mark : Option ℕ) (calls : List (Call T)) → AllByRecursion IsMade (sent_of (after_calls calls (begun (new_end hello mark))))
sent_made {T = T} hello mark calls =
    let r = after_calls calls (begun (new_end {T = T} hello mark)) in
    let s = always {T = T} hello mark calls in
    let all = subst (λ (xs : List (Issued T)). AllByRecursion IsMade xs) s.split.parts (all_made hello mark calls) in
    subst (λ (xs : List (Issued T)). AllByRecursion IsMade xs) (sym (sent_is r s.split)) (all_left IsMade s.split.sent s.split.waiting all)
