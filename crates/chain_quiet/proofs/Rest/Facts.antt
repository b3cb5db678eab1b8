-- What the laws say of an end at which nothing waits.
use Rattle.std.proofs.Common.{◌≡◌, ◌||◌, ◌⊎◌, Bool, true, false, [], ◌∷◌, ◌++◌, inl, inr, is_some, refl, sym, ap, ◌∙◌, append-nil}
use Rattle.std.specs.List.{filter, list_any}
use Rattle.channel_core.specs.Closing.{is_closed}
use Rattle.channel_core.specs.QueueLaws.{is_plain, sent_in}
use Rattle.channel_core.specs.Beginning.{new_end}
use Rattle.channel_core.specs.Receiving.{is_over}
use Rattle.channel_core.specs.Runs.{Run}
use Rattle.channel_core.specs.Wire.{hello, locator, said}
use Rattle.channel_laws.specs.Faults.{is_ending}
use Rattle.channel_laws.specs.Meeting.{Side, run_of}
use Rattle.chain_quiet.specs.Stuck.{IsStill, end_of_side}
use Rattle.chain_route.specs.Carrying.{End, HopCarries, IsUnused}
use Rattle.chain_route.specs.declared.hop.Hop.{Hop}
use Rattle.tcf_message.specs.Message.{event}
use Rattle.channel_core.proofs.TheLaws.{queues_in_order, queues_what_is_sent}
use Rattle.channel_laws.proofs.TheLaws.{over_at_its_end}

-- ---- An end at which nothing waits

-- all that it queued was given
pub all_given : {T : Type 0} → (s : Side T) → IsStill (run_of s) → (run_of s).past.given ≡ (run_of s).past.queued
all_given s still =
    sym (append-nil (run_of s).past.given) ∙ ap (λ outs. (run_of s).past.given ++ outs) (sym still.queued) ∙ queues_in_order s.hello s.mark s.calls

-- where it is open, it isn't over
pub not_over : {T : Type 0} (r : Run T) → IsStill r → is_closed r.end.state ≡ false → is_over r.end ≡ true → ⊥
not_over r still opened over =
    let is : true ≡ false = sym over ∙ ap (λ stop. is_closed r.end.state || is_some stop) still.stop ∙ ap (λ flag. flag || false) opened in
    cc

-- and it was used
pub not_unused : {T : Type 0} → (s : Side T) → IsStill (run_of s) → IsUnused (end_of_side s) → ⊥
not_unused {T = T} s still unused =
    let given : (run_of s).past.given ≡ [] = unused.0 in
    let none : (run_of s).past.queued ≡ [] = sym (all_given s still) ∙ given in
    let is : [] ≡ said (event locator hello s.hello) s.mark ∷ sent_in s.calls (new_end {T = T} s.hello s.mark) = sym (ap (filter is_plain) none) ∙ queues_what_is_sent s.hello s.mark s.calls in
    absurd cc

-- so the hop above it is live
pub live_above : {T : Type 0} → (s : Side T) (hop : Hop) (upper : End) → HopCarries hop (end_of_side s) upper → IsStill (run_of s) → is_closed (run_of s).end.state ≡ false → hop.is_live ≡ true
live_above s hop upper carries still opened = by_flag hop.is_live refl
  where
    by_flag : (flag : Bool) → hop.is_live ≡ flag → hop.is_live ≡ true
    by_flag true is = is
    by_flag false is = by_cases (carries.lost is)
      where
        by_cases : IsUnused (end_of_side s) ⊎ (list_any is_ending s.calls ≡ true) → hop.is_live ≡ true
        by_cases (inl unused) = absurd (not_unused s still unused)
        by_cases (inr lost) = absurd (not_over (run_of s) still opened (over_at_its_end s.hello s.mark s.calls lost))
