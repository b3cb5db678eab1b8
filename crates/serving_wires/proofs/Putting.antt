-- What an outbox has queued is put.
use Rattle.std.proofs.Common.{◌≡◌, ℕ, ◌<◌, ◌≤◌, ◌==◌, Bool, true, false, List, [], ◌∷◌, length, drop, refl, sym, ap, ◌∙◌, subst, arith}
use Rattle.std.specs.Prelude.{Result, Ok, Err, OnOk, OnErr, if◌then◌else◌}
use Rattle.tcf_wires.specs.Told.{WiresSeen, with_calls}
use Rattle.tcf_wires.specs.declared.call.WireCall.TheVariants.{Offered, Shut}
use Rattle.tcf_wires.specs.declared.event.Put.TheVariants.{Took, Lost}
use Rattle.serving_wires.specs.Calls.{Makes}
use Rattle.serving_wires.specs.Outbox.{Flushes, IsGivenUp, Puts, Shuts, before_put, before_shut, is_due, lost, none, taken}
use Rattle.serving_wires.specs.OutboxValue.{OutboxValue}
use Rattle.serving_wires.proofs.Making.{makes_both, makes_none, makes_nothing, makes_one}
use Rattle.list_laws.proofs.Lists.{empty_by}

some_by : (xs : List ℕ) → (length xs == 0) ≡ false → 0 < length xs
some_by [] is = cc
some_by (x ∷ xs) is = omega arith

-- nothing is queued
pub put_none : (o : OutboxValue) (is_empty : Bool) (seen : WiresSeen)
    → is_empty ≡ (length o.queued == 0) → is_empty ≡ true → Makes (Puts o o) seen seen
put_none o is_empty seen is holds = makes_none (Puts o o) seen (none (empty_by o.queued (sym is ∙ holds)) refl refl)

-- so many bytes were taken
pub put_taken : (old new : OutboxValue) (is_empty : Bool) (channel : ℕ) (piece : List ℕ) (count : ℕ) (seen_before seen_after : WiresSeen)
    → is_empty ≡ (length old.queued == 0) → is_empty ≡ false → channel ≡ old.channel → piece ≡ old.queued → count ≤ length piece
    → new ≡ record old { queued = drop count old.queued }
    → seen_after ≡ with_calls (Offered channel piece (Took count) ∷ []) seen_before
    → Makes (Puts old new) seen_before seen_after
put_taken old new is_empty channel piece count seen_before seen_after is fails at whole within becomes seen =
    makes_one (Puts old new) (Offered old.channel old.queued (Took count)) seen_before seen_after
    (taken count (some_by old.queued (sym is ∙ fails)) (subst (λ (xs : List ℕ). count ≤ length xs) whole within) becomes refl)
    (seen ∙ ap (λ (n : ℕ). with_calls (Offered n piece (Took count) ∷ []) seen_before) at ∙ ap (λ (xs : List ℕ). with_calls (Offered old.channel xs (Took count) ∷ []) seen_before) whole)

-- the put was lost
pub put_lost : (old new : OutboxValue) (is_empty : Bool) (channel : ℕ) (piece : List ℕ) (seen_before seen_after : WiresSeen)
    → is_empty ≡ (length old.queued == 0) → is_empty ≡ false → channel ≡ old.channel → piece ≡ old.queued
    → new ≡ record old { queued = []; is_lost = true }
    → seen_after ≡ with_calls (Offered channel piece Lost ∷ []) seen_before
    → Makes (Puts old new) seen_before seen_after
put_lost old new is_empty channel piece seen_before seen_after is fails at whole becomes seen =
    makes_one (Puts old new) (Offered old.channel old.queued Lost) seen_before seen_after
    (lost (some_by old.queued (sym is ∙ fails)) becomes refl)
    (seen ∙ ap (λ (n : ℕ). with_calls (Offered n piece Lost ∷ []) seen_before) at ∙ ap (λ (xs : List ℕ). with_calls (Offered old.channel xs Lost ∷ []) seen_before) whole)

-- ---- the wire is shut, or isn't due

pub shut_due : (old new : OutboxValue) (due : Bool) (channel : ℕ) (seen_before seen_after : WiresSeen)
    → due ≡ is_due old → due ≡ true → channel ≡ old.channel → new ≡ record old { is_shut = true }
    → seen_after ≡ with_calls (Shut channel ∷ []) seen_before
    → Makes (Shuts old new) seen_before seen_after
shut_due old new due channel seen_before seen_after is holds at becomes seen =
    let due_is : is_due old ≡ true = sym is ∙ holds in
    makes_one (Shuts old new) (Shut old.channel) seen_before seen_after
    (record {
      shut = becomes ∙ sym (ap (λ (b : Bool). if b then record old { is_shut = true } else old) due_is);
      called = sym (ap (λ (b : Bool). if b then Shut old.channel ∷ [] else []) due_is);
    })
    (seen ∙ ap (λ (n : ℕ). with_calls (Shut n ∷ []) seen_before) at)

pub shut_none : (old : OutboxValue) (due : Bool) (seen : WiresSeen)
    → due ≡ is_due old → due ≡ false → Makes (Shuts old old) seen seen
shut_none old due seen is fails =
    let due_is : is_due old ≡ false = sym is ∙ fails in
    makes_none (Shuts old old) seen
    (record {
      shut = sym (ap (λ (b : Bool). if b then record old { is_shut = true } else old) due_is);
      called = sym (ap (λ (b : Bool). if b then Shut old.channel ∷ [] else []) due_is);
    })

-- ---- both

pub flush_both : (old mid new : OutboxValue) (seen_before seen_mid seen_after : WiresSeen)
    → Makes (Puts old mid) seen_before seen_mid → Makes (Shuts mid new) seen_mid seen_after
    → Makes (Flushes old new) seen_before seen_after
flush_both old mid new seen_before seen_mid seen_after =
    makes_both (Puts old mid) (Shuts mid new) (Flushes old new) seen_before seen_mid seen_after
    (λ puts shuts put shut. record { mid = mid; puts = puts; put = put; shuts = shuts; shut = shut; called = refl })

-- memory was wanting for the put
pub given_up_first : (old : OutboxValue) (seen_before seen_after : WiresSeen) → seen_after ≡ seen_before → Makes (IsGivenUp old) seen_before seen_after
given_up_first old seen_before seen_after = makes_nothing (IsGivenUp old) seen_before seen_after (before_put refl)

-- or for the shutting behind it
pub given_up_then : (old mid : OutboxValue) (seen_before seen_mid seen_after : WiresSeen)
    → Makes (Puts old mid) seen_before seen_mid → seen_after ≡ seen_mid → Makes (IsGivenUp old) seen_before seen_after
given_up_then old mid seen_before seen_mid seen_after m same =
    record { calls = m.calls; fits = before_shut mid m.fits; seen = same ∙ m.seen }

-- so for each answer of the shutting
pub flush_after : {E : Type 0} (result : Result Unit E) (old mid new : OutboxValue) (seen_before seen_mid seen_after : WiresSeen)
    → Makes (Puts old mid) seen_before seen_mid → OnOk result (Makes (Shuts mid new) seen_mid seen_after)
    → OnOk result (Makes (Flushes old new) seen_before seen_after)
flush_after (Ok done) old mid new seen_before seen_mid seen_after put shut =
    flush_both old mid new seen_before seen_mid seen_after put shut
flush_after (Err error) old mid new seen_before seen_mid seen_after put shut = tt

pub given_up_after : {E : Type 0} (result : Result Unit E) (old mid : OutboxValue) (seen_before seen_mid seen_after : WiresSeen)
    → Makes (Puts old mid) seen_before seen_mid → OnErr result (seen_after ≡ seen_mid)
    → OnErr result (Makes (IsGivenUp old) seen_before seen_after)
given_up_after (Ok done) old mid seen_before seen_mid seen_after put same = tt
given_up_after (Err error) old mid seen_before seen_mid seen_after put same =
    given_up_then old mid seen_before seen_mid seen_after put same
