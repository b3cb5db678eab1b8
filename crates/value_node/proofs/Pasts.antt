-- What a list of calls adds to the past of an end: what it takes, accepts and sends depends on the end alone.
use Rattle.std.proofs.Common.{◌≡◌, List, [], ◌∷◌, ◌++◌, refl, ap, sym, ◌∙◌}
use Rattle.std.proofs.lemmas.List.{append-nil, append_assoc}
use Rattle.channel_core.specs.EndValue.{EndValue}
use Rattle.channel_core.specs.Laws.{listed}
use Rattle.channel_core.specs.QueueLaws.{sent_by, sent_in}
use Rattle.channel_core.specs.Runs.{Call as EndCall, Issued, Run, after_call, after_calls, called as end_called, closing, commanding, delivering, draining, ending, issued, putting_out, sending, taking, unless_refused}
use Rattle.channel_core.specs.Taking.{next_taken}
use Rattle.channel_core.specs.declared.taking.Taken.{Taken}
use Rattle.value_node.proofs.Steps.{ran}
use Rattle.channel_core.specs.Sending.{refusal_to}

-- ---- what one call takes, and what it accepts

abbrev pub taken_by : {T : Type 0} → EndCall T → EndValue T → List (Taken T)
taken_by taking e = listed (next_taken e).0
taken_by _ e = []

abbrev pub accepted_by : {T : Type 0} → EndCall T → EndValue T → List (Issued T)
accepted_by (commanding service name body tag mark) e = unless_refused (refusal_to service name body e) [] (issued service name body tag mark e ∷ [])
accepted_by _ e = []

-- ---- and what a list of them does

abbrev pub taken_in : {T : Type 0} → List (EndCall T) → EndValue T → List (Taken T)
taken_in [] e = []
taken_in (call ∷ calls) e = taken_by call e ++ taken_in calls (end_called call e)

abbrev pub accepted_in : {T : Type 0} → List (EndCall T) → EndValue T → List (Issued T)
accepted_in [] e = []
accepted_in (call ∷ calls) e = accepted_by call e ++ accepted_in calls (end_called call e)

taken_once : {T : Type 0} → (call : EndCall T) (r : Run T) → (after_call call r).past.taken ≡ r.past.taken ++ taken_by call r.end
taken_once (delivering piece mark) r = sym (append-nil r.past.taken)
taken_once ending r = sym (append-nil r.past.taken)
taken_once taking r = refl
taken_once (commanding service name body tag mark) r = sym (append-nil r.past.taken)
taken_once (sending message mark) r = sym (append-nil r.past.taken)
taken_once putting_out r = sym (append-nil r.past.taken)
taken_once closing r = sym (append-nil r.past.taken)
taken_once draining r = sym (append-nil r.past.taken)

accepted_once : {T : Type 0} → (call : EndCall T) (r : Run T) → (after_call call r).past.accepted ≡ r.past.accepted ++ accepted_by call r.end
accepted_once (delivering piece mark) r = sym (append-nil r.past.accepted)
accepted_once ending r = sym (append-nil r.past.accepted)
accepted_once taking r = sym (append-nil r.past.accepted)
accepted_once (commanding service name body tag mark) r = refl
accepted_once (sending message mark) r = sym (append-nil r.past.accepted)
accepted_once putting_out r = sym (append-nil r.past.accepted)
accepted_once closing r = sym (append-nil r.past.accepted)
accepted_once draining r = sym (append-nil r.past.accepted)

pub taken_more : {T : Type 0} → (calls : List (EndCall T)) (r : Run T) → (after_calls calls r).past.taken ≡ r.past.taken ++ taken_in calls r.end
taken_more [] r = sym (append-nil r.past.taken)
taken_more (call ∷ calls) r =
    let next = after_call call r in
    taken_more calls next ∙ ap (λ ts. ts ++ taken_in calls next.end) (taken_once call r) ∙ append_assoc r.past.taken (taken_by call r.end) (taken_in calls next.end)

pub accepted_more : {T : Type 0} → (calls : List (EndCall T)) (r : Run T) → (after_calls calls r).past.accepted ≡ r.past.accepted ++ accepted_in calls r.end
accepted_more [] r = sym (append-nil r.past.accepted)
accepted_more (call ∷ calls) r =
    let next = after_call call r in
    accepted_more calls next ∙ ap (λ is. is ++ accepted_in calls next.end) (accepted_once call r) ∙ append_assoc r.past.accepted (accepted_by call r.end) (accepted_in calls next.end)

-- ---- two lists, one behind the other

pub after_both : {T : Type 0} → (first second : List (EndCall T)) (r : Run T) → after_calls (first ++ second) r ≡ after_calls second (after_calls first r)
after_both [] second r = refl
after_both (call ∷ first) second r = after_both first second (after_call call r)

pub sent_both : {T : Type 0} → (first second : List (EndCall T)) (e : EndValue T) → sent_in (first ++ second) e ≡ sent_in first e ++ sent_in second (ran first e)
sent_both [] second e = refl
sent_both (call ∷ first) second e =
    ap (λ os. sent_by call e ++ os) (sent_both first second (end_called call e)) ∙ sym (append_assoc (sent_by call e) (sent_in first (end_called call e)) (sent_in second (ran first (end_called call e))))

pub taken_both : {T : Type 0} → (first second : List (EndCall T)) (e : EndValue T) → taken_in (first ++ second) e ≡ taken_in first e ++ taken_in second (ran first e)
taken_both [] second e = refl
taken_both (call ∷ first) second e =
    ap (λ ts. taken_by call e ++ ts) (taken_both first second (end_called call e)) ∙ sym (append_assoc (taken_by call e) (taken_in first (end_called call e)) (taken_in second (ran first (end_called call e))))
