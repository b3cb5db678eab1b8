-- An open end that lacks a Hello behind a redirect's answer is Reopening, and no redirect waits for its answer there.
use Rattle.std.proofs.Common.{◌≡◌, ℕ, true, false, List, [], ◌∷◌, ◌++◌, Option, Some, None, refl, sym, ap, ◌∙◌, append_assoc, append-nil}
use Rattle.channel_core.specs.Beginning.{new_end}
use Rattle.channel_core.specs.Closing.{is_closed}
use Rattle.channel_core.specs.Runs.{Call, Issued, after_calls, begun}
use Rattle.channel_core.specs.declared.states.EndState.{EndState}
use Rattle.channel_core.specs.declared.states.EndState.TheVariants.{Closed, Live, Opening, Reopening}
use Rattle.channel_core.specs.declared.taking.Taken.{Taken}
use Rattle.channel_laws.specs.Rest.{lacks_hello}
use Rattle.channel_laws.proofs.Rest.AllCalls.{rests_all}
use Rattle.channel_laws.proofs.Rest.Resting.{AreNew}
use Rattle.channel_laws.proofs.Rest.Standing.{Stands}
use Rattle.channel_laws.proofs.Rest.Telling.{hello_sent}
use Rattle.node_answers.proofs.Adds.Replying.{clashes}

pub record IsReopening (state : EndState) (redirect : Option ℕ) : Type 0 where
  pub state_is : state ≡ Reopening
  pub answered : redirect ≡ None

stands_reopening : {T : Type 0} → (state : EndState) (redirect : Option ℕ) (taken : List (Taken T)) (sent : List (Issued T)) → is_closed state ≡ false → lacks_hello sent taken ≡ true
    → Stands state redirect taken sent → IsReopening state redirect
stands_reopening Opening redirect taken sent opened lacks s = absurd (clashes (lacks_hello sent taken) (ap (lacks_hello sent) s.1) lacks)
stands_reopening Live redirect taken sent opened lacks s = absurd (clashes (lacks_hello sent taken) s.1.greeted lacks)
stands_reopening Reopening None taken sent opened lacks s = record { state_is = refl; answered = refl }
stands_reopening Reopening (Some token) taken sent opened lacks s = absurd (clashes (lacks_hello sent taken) s.greeted lacks)
stands_reopening (Closed cause) redirect taken sent opened lacks s = absurd cc

-- those that are held have no answer
held_lack : {T : Type 0} → (sent waiting : List (Issued T)) (taken : List (Taken T)) → AreNew taken waiting → lacks_hello (sent ++ waiting) taken ≡ lacks_hello sent taken
held_lack sent [] taken fresh = ap (λ is. lacks_hello is taken) (append-nil sent)
held_lack sent (i ∷ waiting) taken fresh =
    ap (λ is. lacks_hello is taken) (sym (append_assoc sent (i ∷ []) waiting)) ∙ held_lack (sent ++ i ∷ []) waiting taken fresh.1 ∙ hello_sent sent i taken fresh.0.unanswered

pub all_reopening : {T : Type 0} → (hello : List ℕ) (mark : Option ℕ) (calls : List (Call T)) → is_closed (after_calls calls (begun (new_end hello mark))).end.state ≡ false
    → lacks_hello (after_calls calls (begun (new_end hello mark))).past.accepted (after_calls calls (begun (new_end hello mark))).past.taken ≡ true
    → IsReopening (after_calls calls (begun (new_end hello mark))).end.state (after_calls calls (begun (new_end hello mark))).end.redirect
all_reopening {T = T} hello mark calls opened lacks =
    let r = after_calls calls (begun (new_end {T = T} hello mark)) in
    let h = rests_all {T = T} hello mark calls in
    stands_reopening r.end.state r.end.redirect r.past.taken h.sent opened
    (sym (held_lack h.sent h.waiting r.past.taken h.fresh) ∙ ap (λ is. lacks_hello is r.past.taken) (sym h.parts) ∙ lacks) h.stands
