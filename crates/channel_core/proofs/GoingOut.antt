-- What is held goes out up to the first redirect.
use Rattle.std.proofs.Common.{◌≡◌, Bool, true, false, List, [], ◌∷◌, ◌++◌, map, refl, sym, ◌∙◌}
use Rattle.std.proofs.lemmas.List.{append-nil, append_assoc}
use Rattle.channel_core.specs.EndValue.{EndValue}
use Rattle.channel_core.specs.Holding.{let_out}
use Rattle.channel_core.specs.Laws.{GoesOut, behind_redirect, up_to_redirect}
use Rattle.channel_core.specs.declared.held.Held.{Held}
use Rattle.channel_core.specs.declared.held.Outgoing.{Outgoing}

abbrev outs : List Held → List Outgoing
outs held = map (λ h. h.outgoing) held

abbrev IsOut : {T : Type 0} → List Held → EndValue T → Type 0
IsOut held e = ((let_out held e).queued ≡ e.queued ++ outs (up_to_redirect held)) × ((let_out held e).held ≡ behind_redirect held)

by_flag : {T : Type 0} → (flag : Bool) (h : Held) (held : List Held) (e : EndValue T) → h.is_redirect ≡ flag → ((next : EndValue T) → IsOut held next) → IsOut (h ∷ held) e
by_flag true h held e is rest = rw is (refl, refl)
by_flag false h held e is rest =
    let next = record (record e { held = held }) { queued = e.queued ++ h.outgoing ∷ [] } in
    let more = rest next in
    rw is (more.0 ∙ append_assoc e.queued (h.outgoing ∷ []) (outs (up_to_redirect held)), more.1)

out_of : {T : Type 0} → (held : List Held) (e : EndValue T) → IsOut held e
out_of [] e = (sym (append-nil e.queued), refl)
out_of (h ∷ held) e = by_flag h.is_redirect h held e refl (out_of held)

pub goes_out : {T : Type 0} → GoesOut T
goes_out e free = rw free (out_of e.held e)
