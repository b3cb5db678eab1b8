-- A command that is answered from the store, or sent above.
use Rattle.std.proofs.Common.{◌≡◌, ℕ, Bool, true, false, List, Option, Some, None, refl, sym, ap, subst, ◌∙◌}
use Rattle.std.specs.Prelude.{Result, Ok, Err, OnOk, if◌then◌else◌}
use Rattle.tcf_values.specs.declared.command.Command.{Command}
use Rattle.value_store.specs.Learning.{answer_to, used_by}
use Rattle.value_node.specs.Value.{answered_by, answered_or_forwarded, answered_stored, asked_bound, asked_of_store, command_of, forwarded_as, is_free_to_answer, sent_above}
use Rattle.value_node.specs.ForwardedValue.{ForwardedValue, tagged}
use Rattle.value_node.specs.declared.relay.Relay.{Relay}

-- what is left to do once the store was asked
abbrev pub forwarded_unless : Bool → Option Command → List ℕ → List ℕ → List ℕ → List ℕ → Option ℕ → Relay → Relay
forwarded_unless true known token service name body mark v = v
forwarded_unless false known token service name body mark v = forwarded_as known token service name body mark v

by_reply : (reply : Option (List ℕ)) (known : Option Command) (token service name body : List ℕ) (mark : Option ℕ) (v : Relay)
    → answered_or_forwarded reply known token service name body mark v
    ≡ forwarded_unless (answered_by reply token v).0 known token service name body mark (answered_by reply token v).1
by_reply None known token service name body mark v = refl
by_reply (Some reply) known token service name body mark v = refl

by_freedom : (free : Bool) (known : Option Command) (token service name body : List ℕ) (mark : Option ℕ) (v : Relay)
    → (if free then asked_of_store known token service name body mark v else forwarded_as known token service name body mark v)
    ≡ forwarded_unless
    (if free then answered_by (answer_to known v.store) token (record v { store = used_by known v.store }) else (false, v)).0
    known token service name body mark
    (if free then answered_by (answer_to known v.store) token (record v { store = used_by known v.store }) else (false, v)).1
by_freedom true known token service name body mark v = by_reply (answer_to known v.store) known token service name body mark (record v { store = used_by known v.store })
by_freedom false known token service name body mark v = refl

pub asked_is : (token service name body : List ℕ) (mark : Option ℕ) (v new : Relay) (answered : Bool) → (answered, new) ≡ answered_stored token (command_of service name body) v
    → asked_bound token service name body mark v ≡ forwarded_unless answered (command_of service name body) token service name body mark new
asked_is token service name body mark v new answered same =
    by_freedom (is_free_to_answer v.upper) (command_of service name body) token service name body mark v
    ∙ ap (λ (p : Bool × Relay). forwarded_unless p.0 (command_of service name body) token service name body mark p.1) (sym same)

-- it is sent above, where the store didn't answer it
pub asked_above : (token service name body : List ℕ) (mark : Option ℕ) (v new after : Relay) (answered : Bool) (known : Option Command) (f : ForwardedValue)
    → known ≡ command_of service name body → answered ≡ false → (answered, new) ≡ answered_stored token known v → f ≡ tagged token known
    → after ≡ sent_above new.upper service name body f mark new → after ≡ asked_bound token service name body mark v
asked_above token service name body mark v new after answered known f known_is unanswered same f_is sent =
    let stored = subst (λ (k : Option Command). (answered, new) ≡ answered_stored token k v) known_is same in
    let whole = asked_is token service name body mark v new answered stored in
    let left = subst (λ (b : Bool). asked_bound token service name body mark v ≡ forwarded_unless b (command_of service name body) token service name body mark new) unanswered whole in
    let tag = subst (λ (k : Option Command). f ≡ tagged token k) known_is f_is in
    sent ∙ ap (λ (g : ForwardedValue). sent_above new.upper service name body g mark new) tag ∙ sym left

pub on_ok : {A E : Type 0} (result : Result A E) (P Q : Type 0) → (P → Q) → OnOk result P → OnOk result Q
on_ok (Ok value) P Q leads holds = leads holds
on_ok (Err error) P Q leads holds = tt
