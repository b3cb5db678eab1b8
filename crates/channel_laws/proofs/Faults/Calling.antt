-- An end closes by its own side, and since the bytes have ended, only where it was called so.
use Rattle.std.proofs.Common.{◌≡◌, ◌≢◌, ℕ, Bool, true, false, List, ◌∷◌, ◌++◌, Option, refl, sym, ap, ◌∙◌}
use Rattle.std.specs.List.{list_any}
use Rattle.std.proofs.lemmas.Bool.{or_left, or_right}
use Rattle.std.proofs.lemmas.List.Folds.{list_any-append}
use Rattle.channel_core.specs.Beginning.{new_end}
use Rattle.channel_core.specs.EndValue.{EndValue}
use Rattle.channel_core.specs.ReceivingLaws.{EndsFor}
use Rattle.channel_core.specs.Runs.{Call, Run, after_calls, begun, closing, commanding, delivering, draining, ending, putting_out, sending, taking}
use Rattle.channel_core.specs.declared.states.Cause.{Cause}
use Rattle.channel_core.specs.declared.states.Cause.TheVariants.{Ended, Own}
use Rattle.channel_laws.specs.Faults.{EndsByItsCalls, is_closing, is_ending}
use Rattle.channel_laws.proofs.Faults.AllCalls.{MayBring, ends_fine, fine_after}
use Rattle.channel_laws.proofs.Faults.Faulty.{first_fine}

is_none : {A : Type 0} → (test : A → Bool) (first rest : List A) (x : A) → list_any test (first ++ x ∷ rest) ≡ false → test x ≡ false
is_none test first rest x none = by_flag (test x) refl
  where
    by_flag : (flag : Bool) → test x ≡ flag → test x ≡ false
    by_flag true is =
        let some : list_any test (first ++ x ∷ rest) ≡ true
        = list_any-append test first (x ∷ rest) ∙ or_right (list_any test first) (list_any test (x ∷ rest)) (or_left (test x) (list_any test rest) is) in absurd cc
    by_flag false is = is

own_brings : {T : Type 0} → (call : Call T) (e : EndValue T) → is_closing call ≡ false → MayBring (λ cause. cause ≢ Own) call e
own_brings (delivering piece mark) e isnt = record { grammar = λ number fault is. absurd cc; eos = λ is. absurd cc; stream = λ fault is. absurd cc }
own_brings ending e isnt = λ is. absurd cc
own_brings taking e isnt = λ number reason first left inbox faulty came is. absurd cc
own_brings (commanding service name body tag mark) e isnt = tt
own_brings (sending message mark) e isnt = tt
own_brings putting_out e isnt = tt
own_brings closing e isnt = absurd cc
own_brings draining e isnt = tt

ended_brings : {T : Type 0} → (call : Call T) (e : EndValue T) → is_ending call ≡ false → MayBring (λ cause. cause ≢ Ended) call e
ended_brings (delivering piece mark) e isnt = record { grammar = λ number fault is. absurd cc; eos = λ is. absurd cc; stream = λ fault is. absurd cc }
ended_brings ending e isnt = absurd cc
ended_brings taking e isnt = λ number reason first left inbox faulty came is. absurd cc
ended_brings (commanding service name body tag mark) e isnt = tt
ended_brings (sending message mark) e isnt = tt
ended_brings putting_out e isnt = tt
ended_brings closing e isnt = λ is. absurd cc
ended_brings draining e isnt = tt

-- where no call brings a cause, the end doesn't end for it
is_brought : {T : Type 0} → (test : Call T → Bool) (cause : Cause) → ((call : Call T) (e : EndValue T) → test call ≡ false → MayBring (λ other. other ≢ cause) call e)
    → (body : List ℕ) (mark : Option ℕ) (calls : List (Call T)) → EndsFor (after_calls calls (begun (new_end body mark))) cause → list_any test calls ≡ true
is_brought {T = T} test cause brings body mark calls ends_for = by_flag (list_any test calls) refl
  where
    start : Run T
    start = begun (new_end body mark)

    Fine : Cause → Type 0
    Fine other = other ≢ cause

    by_flag : (flag : Bool) → list_any test calls ≡ flag → list_any test calls ≡ true
    by_flag true is = is
    by_flag false none =
        let fine = fine_after Fine calls start
        (λ first rest call is. brings call (after_calls first start).end (is_none test first rest call (ap (list_any test) (sym is) ∙ none)))
        (first_fine Fine body mark) in
        absurd (ends_fine Fine (after_calls calls start) cause fine ends_for refl)

pub all_by_calls : {T : Type 0} → EndsByItsCalls T
all_by_calls body mark calls = record { own = is_brought is_closing Own own_brings body mark calls; ended = is_brought is_ending Ended ended_brings body mark calls }
