-- The messages that the calls of an end send.
use Rattle.std.proofs.Common.{◌≡◌, Bool, true, false, List, [], ◌∷◌, ◌++◌, refl, ap, sym, ◌∙◌}
use Rattle.std.specs.Prelude.{None, if◌then◌else◌, map}
use Rattle.std.proofs.lemmas.List.{append_assoc, map-append}
use Rattle.channel_core.specs.Arrivals.{AreSpoken, Spoken}
use Rattle.channel_core.specs.Closing.{is_closed}
use Rattle.channel_core.specs.QueueLaws.{sent_by, sent_in}
use Rattle.channel_core.specs.ReceivingLaws.{SaysReadable, SendsReadable}
use Rattle.channel_core.specs.Runs.{Unheld, called as end_called, closing, commanding, delivering, draining, ending, message_of, putting_out, sending, taking}
use Rattle.tcf_message.specs.Message.{IsWellFormed}
use Rattle.value_node.specs.Passing.{Lower}
use Rattle.value_node.specs.Runs.{LowerCall}
use Rattle.value_node.proofs.OwnAnswers.{plain, spelled}
use Rattle.value_node.proofs.Steps.{ran}
use Rattle.list_laws.proofs.AllLists.{all_append}

abbrev pub spoken_by : LowerCall → Lower → List Spoken
spoken_by (sending message mark) e = if is_closed e.state then [] else (record { message = message_of message; mark = mark }) ∷ []
spoken_by _ e = []

abbrev pub spoken_in : List LowerCall → Lower → List Spoken
spoken_in [] e = []
spoken_in (call ∷ calls) e = spoken_by call e ++ spoken_in calls (end_called call e)

pub spoken_both : (first second : List LowerCall) (e : Lower) → spoken_in (first ++ second) e ≡ spoken_in first e ++ spoken_in second (ran first e)
spoken_both [] second e = refl
spoken_both (call ∷ first) second e =
    ap (λ ss. spoken_by call e ++ ss) (spoken_both first second (end_called call e)) ∙ sym (append_assoc (spoken_by call e) (spoken_in first (end_called call e)) (spoken_in second (ran first (end_called call e))))

-- an open end sends it
pub spoken_once : (message : Unheld) (e : Lower) → is_closed e.state ≡ false → spoken_in (sending message None ∷ []) e ≡ plain (message_of message) ∷ []
spoken_once message e unclosed = ap (λ b. (if b then [] else plain (message_of message) ∷ []) ++ []) unclosed

-- ---- they are what is sent

spelled_if : (flag : Bool) (s : Spoken) → (if flag then [] else spelled s ∷ []) ≡ map spelled (if flag then [] else s ∷ [])
spelled_if true s = refl
spelled_if false s = refl

spelled_by : (call : LowerCall) (e : Lower) → sent_by call e ≡ map spelled (spoken_by call e)
spelled_by (delivering piece mark) e = refl
spelled_by ending e = refl
spelled_by taking e = refl
spelled_by (commanding service name body tag mark) e = refl
spelled_by (sending message mark) e = spelled_if (is_closed e.state) (record { message = message_of message; mark = mark })
spelled_by putting_out e = refl
spelled_by closing e = refl
spelled_by draining e = refl

pub sent_spelled : (calls : List LowerCall) (e : Lower) → sent_in calls e ≡ map spelled (spoken_in calls e)
sent_spelled [] e = refl
sent_spelled (call ∷ calls) e =
    ap (λ os. os ++ sent_in calls (end_called call e)) (spelled_by call e) ∙ ap (λ os. map spelled (spoken_by call e) ++ os) (sent_spelled calls (end_called call e))
    ∙ sym (map-append spelled (spoken_by call e) (spoken_in calls (end_called call e)))

-- ---- and can be read where that can

formed_if : (flag : Bool) (s : Spoken) → IsWellFormed s.message → AreSpoken (if flag then [] else s ∷ [])
formed_if true s is = tt
formed_if false s is = (is, tt)

formed_by : (call : LowerCall) (e : Lower) → SaysReadable call → AreSpoken (spoken_by call e)
formed_by (delivering piece mark) e is = tt
formed_by ending e is = tt
formed_by taking e is = tt
formed_by (commanding service name body tag mark) e is = tt
formed_by (sending message mark) e is = formed_if (is_closed e.state) (record { message = message_of message; mark = mark }) is
formed_by putting_out e is = tt
formed_by closing e is = tt
formed_by draining e is = tt

pub spoken_formed : (calls : List LowerCall) (e : Lower) → SendsReadable calls → AreSpoken (spoken_in calls e)
spoken_formed [] e all = tt
spoken_formed (call ∷ calls) e all =
    all_append (λ s. IsWellFormed s.message) (spoken_by call e) (spoken_in calls (end_called call e)) (formed_by call e all.0) (spoken_formed calls (end_called call e) all.1)
