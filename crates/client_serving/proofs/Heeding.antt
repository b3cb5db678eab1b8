-- What is done with an event: it stands so, and the wires are told, without a call.
use Rattle.std.proofs.Common.{◌≡◌, ℕ, List, Result, Ok, Err, refl, ap, ◌∙◌, subst}
use Rattle.std.specs.Prelude.{OnOk}
use Rattle.tcf_wires.specs.declared.event.WireEvent.{WireEvent}
use Rattle.serving_wires.specs.Going.{DoesAlone}
use Rattle.serving_wires.specs.Sending.{opened_by}
use Rattle.serving_wires.proofs.Leading.{Rows}
use Rattle.client_serving.specs.Begun.{Tells}
use Rattle.client_serving.specs.Serving.{acted, all_gathered, handled}
use Rattle.client_serving.specs.ServingValue.{ServingValue}
use Rattle.client_serving.proofs.Asking.{tells_stands}
use Rattle.client_serving.proofs.Keeping.{acted_keeps}

pub on_ok_so : {A E : Type 0} → (result : Result A E) (P Q : Type 0) → (P → Q) → OnOk result P → OnOk result Q
on_ok_so (Ok value) P Q so p = so p
on_ok_so (Err error) P Q so p = tt

-- what was told is what is told of that which it equals
pub tells_of : (s mid new : ServingValue) (olds mids news : Rows) → mid ≡ s → mids ≡ olds → Tells mid new mids news → Tells s new olds news
tells_of s mid new olds mids news is queued tells =
    subst (λ (t : ServingValue). Tells t new olds news) is (subst (λ (rows : Rows). Tells mid new rows news) queued tells)

pub heeds : (event : WireEvent) (old mid new : ServingValue) (olds mids news : Rows) → mid ≡ acted event old → mids ≡ opened_by event olds → Tells mid new mids news
    → (peer : List ℕ) → DoesAlone peer (handled event old) new (opened_by event olds) news
unfolding handled
heeds event old mid new olds mids news is opened tells = tells_of (acted event old) mid new (opened_by event olds) mids news is opened tells

pub same_peer : (event : WireEvent) (old mid new : ServingValue) (olds news : Rows) → mid ≡ acted event old → Tells mid new olds news → new.peer ≡ old.peer
unfolding all_gathered
same_peer event old mid new olds news is tells =
    ap (λ (t : ServingValue). t.peer) (tells_stands mid new olds news tells) ∙ ap (λ (t : ServingValue). t.peer) is
    ∙ acted_keeps (λ t. t.peer ≡ old.peer) (record { calls = λ call none nor t at. at; apart = λ left end t at. at }) (λ what t at. at) event old refl
