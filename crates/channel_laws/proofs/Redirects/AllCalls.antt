-- Every call keeps the commands behind a redirect back.
use Rattle.std.proofs.Common.{◌≡◌, ◌+◌, ◌-◌, List, [], ◌∷◌, length, take, refl, sym, ap, ◌∙◌, subst, arith, length-append}
use Rattle.std.proofs.lemmas.List.{length-map}
use Rattle.channel_core.specs.Beginning.{new_end}
use Rattle.channel_core.specs.Closing.{is_closed}
use Rattle.channel_core.specs.QueueLaws.{TakesNothingClosed}
use Rattle.channel_core.specs.Receiving.{is_over}
use Rattle.channel_core.specs.RunLaws.{AfterAllCalls, HoldsNoneWhereFree, sent_of}
use Rattle.channel_core.specs.Runs.{Call, Run, after_call, after_calls, begun, closing, commanding, delivering, draining, ending, putting_out, sending, taking}
use Rattle.channel_core.specs.declared.states.Cause.TheVariants.{Own}
use Rattle.channel_laws.specs.Redirects.{HoldsBehindRedirects}
use Rattle.channel_core.proofs.TheLaws.{holds_none_where_free, takes_nothing_closed}
use Rattle.channel_laws.proofs.Redirects.Holding.{HoldsBack, holds_commanded, holds_delivered, same, shut}
use Rattle.channel_laws.proofs.Redirects.Standing.{HoldsBehind, stands_behind}
use Rattle.channel_laws.proofs.Redirects.Taking.{holds_taken}
use Rattle.list_laws.proofs.Lists.{take_front}
use Rattle.channel_laws.proofs.Faults.Closed.{FromNowOn}
use Rattle.channel_core.proofs.Keeping.{either_keeps as either}
use Rattle.channel_core.specs.Sending.{refusal_to}

abbrev HoldsRun : {T : Type 0} → Run T → Type 0
HoldsRun r = HoldsBack r.past.accepted r.past.taken r.end

holds_called : {T : Type 0} → (call : Call T) (r : Run T) → HoldsNoneWhereFree r → TakesNothingClosed r → HoldsRun r → HoldsRun (after_call call r)
holds_called (delivering piece mark) r free closed h = holds_delivered r.past.accepted r.past.taken piece mark r.end h
holds_called ending r free closed h =
    either (HoldsBack r.past.accepted r.past.taken) (is_over r.end) r.end _ h (same r.past.accepted r.past.taken r.end _ refl refl refl h)
holds_called taking r free closed h = holds_taken r.past.accepted r.past.taken r.end closed h
holds_called (commanding service name body tag mark) r free closed h =
    holds_commanded (refusal_to service name body r.end) r.past.accepted r.past.taken service name body tag mark r.end free h
holds_called (sending message mark) r free closed h =
    either (HoldsBack r.past.accepted r.past.taken) (is_closed r.end.state) r.end _ h (same r.past.accepted r.past.taken r.end _ refl refl refl h)
holds_called putting_out r free closed h = same r.past.accepted r.past.taken r.end _ refl refl refl h
holds_called closing r free closed h =
    either (HoldsBack r.past.accepted r.past.taken) (is_closed r.end.state) r.end _ h (shut r.past.accepted r.past.taken Own r.end h)
holds_called draining r free closed h =
    either (HoldsBack r.past.accepted r.past.taken) (is_closed r.end.state) _ r.end (same r.past.accepted r.past.taken r.end _ refl refl refl h) h

holds : {T : Type 0} → (calls : List (Call T)) (r : Run T) → FromNowOn HoldsNoneWhereFree r → FromNowOn TakesNothingClosed r → HoldsRun r → HoldsRun (after_calls calls r)
holds [] r free closed h = h
holds (call ∷ calls) r free closed h =
    holds calls (after_call call r) (λ more. free (call ∷ more)) (λ more. closed (call ∷ more)) (holds_called call r (free []) (closed []) h)

-- ---- The law

sent_is : {T : Type 0} → (r : Run T) → (h : HoldsRun r) → sent_of r ≡ h.sent
sent_is r h =
    let waits : length h.waiting ≡ length r.end.held = sym (length-map h.waiting (λ i. i.command)) ∙ ap length h.held in
    let many : length r.past.accepted ≡ length h.sent + length h.waiting = ap length h.parts ∙ length-append h.sent h.waiting in
    let count : length r.past.accepted - length r.end.held ≡ length h.sent = omega arith in
    ap (take (length r.past.accepted - length r.end.held)) h.parts ∙ take_front h.sent h.waiting (length r.past.accepted - length r.end.held) count

behind_redirects : {T : Type 0} → (r : Run T) → HoldsRun r → HoldsBehindRedirects r
behind_redirects r h = subst (HoldsBehind r.past.taken) (sym (sent_is r h)) (stands_behind r.end.state r.end.redirect r.past.taken h.sent h.stands)

pub all_hold_back : {T : Type 0} → AfterAllCalls {T = T} HoldsBehindRedirects
all_hold_back {T = T} hello mark calls =
    let first = begun (new_end {T = T} hello mark) in
    behind_redirects (after_calls calls first)
    (holds calls first (holds_none_where_free hello mark) (takes_nothing_closed hello mark) (record { sent = []; waiting = []; parts = refl; held = refl; stands = tt }))
