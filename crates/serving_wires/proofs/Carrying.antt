-- An outbox goes on as the calls leave it.
use Rattle.std.proofs.Common.{◌≡◌, ℕ, ◌+◌, ◌<◌, ◌==◌, Bool, true, false, ◌&&◌, ◌||◌, not, cond, List, [], ◌∷◌, ◌++◌, length, take, drop, refl, sym, ap, ◌∙◌, subst, arith, append-nil, append_assoc, eqb-true, eq-eqb}
use Rattle.std.specs.Prelude.{if◌then◌else◌}
use Rattle.std.proofs.Math.Bool.{or-false}
use Rattle.std.proofs.lemmas.Bool.{and_parts, false≢true}
use Rattle.std.proofs.lemmas.List.{take-append-drop}
use Rattle.tcf_wires.specs.Told.{taken_on}
use Rattle.tcf_wires.specs.declared.call.WireCall.{WireCall}
use Rattle.tcf_wires.specs.declared.call.WireCall.TheVariants.{Offered, Shut}
use Rattle.tcf_wires.specs.declared.event.Put.TheVariants.{Took, Lost}
use Rattle.serving_wires.specs.Calls.{shut_count, was_lost}
use Rattle.serving_wires.specs.Following.{Follows, IsSplit, Spares}
use Rattle.serving_wires.specs.Outbox.{Flushes, Puts, Shuts, closed, is_due, lost as put_lost, none as put_none, nothing_left, queued, taken as put_taken, unused_outbox}
use Rattle.serving_wires.specs.OutboxValue.{OutboxValue}
use Rattle.serving_wires.proofs.Spared.{lost_both, shut_both, spared, taken_both}

pub begins : (channel : ℕ) (calls : List WireCall) → Spares channel calls → Follows (unused_outbox channel) (unused_outbox channel) calls
begins channel calls off =
    let s = spared channel calls off in
    record {
      channel = refl;
      closed = refl;
      kept = refl;
      lost = s.lost;
      split = ap (λ (xs : List ℕ). xs ++ []) (sym s.taken);
      shut = s.shut;
      over = λ is. absurd (false≢true is);
    }

-- ---- more is queued

split_same : (lost : Bool) (all taken left taken_then : List ℕ) → taken_then ≡ taken → IsSplit lost all taken left → IsSplit lost all taken_then left
split_same lost all taken left taken_then same split = subst (λ (xs : List ℕ). IsSplit lost all xs left) (sym same) split

split_lost : (lost : Bool) (all taken left bytes : List ℕ) → lost ≡ true → IsSplit lost all taken left → IsSplit lost (all ++ bytes) taken left
split_lost true all taken left bytes is (none, (dropped, split)) = (none, (dropped ++ bytes, ap (λ (xs : List ℕ). xs ++ bytes) split ∙ append_assoc taken dropped bytes))
split_lost false all taken left bytes is split = absurd (false≢true is)

split_more : (lost : Bool) (all taken left bytes : List ℕ) → lost ≡ false → IsSplit lost all taken left → IsSplit lost (all ++ bytes) taken (left ++ bytes)
split_more true all taken left bytes is split = absurd (false≢true (sym is))
split_more false all taken left bytes is split = ap (λ (xs : List ℕ). xs ++ bytes) split ∙ append_assoc taken left bytes

queued_here : (bytes : List ℕ) (o : OutboxValue) → o.is_lost ≡ false → queued bytes o ≡ record o { queued = o.queued ++ bytes }
queued_here bytes o is = ap (λ (b : Bool). if b then o else record o { queued = o.queued ++ bytes }) is

queued_away : (bytes : List ℕ) (o : OutboxValue) → o.is_lost ≡ true → queued bytes o ≡ o
queued_away bytes o is = ap (λ (b : Bool). if b then o else record o { queued = o.queued ++ bytes }) is

-- where the wire was shut nothing is queued
over_more : (all now : OutboxValue) (calls : List WireCall) (bytes : List ℕ) → (all.is_closed ≡ true → bytes ≡ []) → Follows all now calls → now.is_shut ≡ true
    → now.is_closed && (length (now.queued ++ bytes) == 0) ≡ true
over_more all now calls bytes none f is =
    let is_closed : all.is_closed ≡ true = sym f.closed ∙ (and_parts now.is_closed (nothing_left now) (f.over is)).0 in
    ap (λ (xs : List ℕ). now.is_closed && (length xs == 0)) (ap (λ (bs : List ℕ). now.queued ++ bs) (none is_closed) ∙ append-nil now.queued) ∙ f.over is

queueing_by : (lost : Bool) (bytes : List ℕ) (all now : OutboxValue) (calls : List WireCall) → now.is_lost ≡ lost → (all.is_closed ≡ true → bytes ≡ [])
    → Follows all now calls → Follows (record all { queued = all.queued ++ bytes }) (queued bytes now) calls
queueing_by true bytes all now calls is none f =
    subst (λ (o : OutboxValue). Follows (record all { queued = all.queued ++ bytes }) o calls) (sym (queued_away bytes now is))
    (record {
      channel = f.channel;
      closed = f.closed;
      kept = f.kept;
      lost = f.lost;
      split = split_lost now.is_lost all.queued (taken_on all.channel calls) now.queued bytes is f.split;
      shut = f.shut;
      over = f.over;
    })
queueing_by false bytes all now calls is none f =
    subst (λ (o : OutboxValue). Follows (record all { queued = all.queued ++ bytes }) o calls) (sym (queued_here bytes now is))
    (record {
      channel = f.channel;
      closed = f.closed;
      kept = f.kept;
      lost = f.lost;
      split = split_more now.is_lost all.queued (taken_on all.channel calls) now.queued bytes is f.split;
      shut = f.shut;
      over = λ is_shut. over_more all now calls bytes none f is_shut;
    })

pub queueing : (bytes : List ℕ) (all now : OutboxValue) (calls : List WireCall) → (all.is_closed ≡ true → bytes ≡ [])
    → Follows all now calls → Follows (queued bytes all) (queued bytes now) calls
queueing bytes all now calls none f =
    subst (λ (o : OutboxValue). Follows o (queued bytes now) calls) (sym (queued_here bytes all f.kept)) (queueing_by now.is_lost bytes all now calls refl none f)

pub closing : (all now : OutboxValue) (calls : List WireCall) → Follows all now calls → Follows (closed all) (closed now) calls
closing all now calls f =
    record {
      channel = f.channel;
      closed = refl;
      kept = f.kept;
      lost = f.lost;
      split = f.split;
      shut = f.shut;
      over = λ is. (and_parts now.is_closed (nothing_left now) (f.over is)).1;
    }

-- ---- calls on other channels

pub others : (all now : OutboxValue) (calls more : List WireCall) → Spares all.channel more → Follows all now calls → Follows all now (calls ++ more)
others all now calls more off f =
    let k = all.channel in
    let s = spared k more off in
    record {
      channel = f.channel;
      closed = f.closed;
      kept = f.kept;
      lost = lost_both k calls more ∙ ap (λ (b : Bool). was_lost k calls || b) s.lost ∙ or-false (was_lost k calls) ∙ f.lost;
      split = split_same now.is_lost all.queued (taken_on k calls) now.queued (taken_on k (calls ++ more))
          (taken_both k calls more ∙ ap (λ (xs : List ℕ). taken_on k calls ++ xs) s.taken ∙ append-nil (taken_on k calls)) f.split;
      shut = shut_both k calls more ∙ ap (λ (n : ℕ). shut_count k calls + n) s.shut ∙ omega (arith, f.shut);
      over = f.over;
    }

-- ---- a put

not_over : (o : OutboxValue) → (o.is_shut ≡ true → o.is_closed && nothing_left o ≡ true) → 0 < length o.queued → o.is_shut ≡ false
not_over o over some = by_flag o.is_shut over
  where
    by_flag : (flag : Bool) → (flag ≡ true → o.is_closed && nothing_left o ≡ true) → flag ≡ false
    by_flag true over = absurd (omega (arith, some, eqb-true (length o.queued) 0 (and_parts o.is_closed (nothing_left o) (over refl)).1))
    by_flag false over = refl

-- what is queued isn't lost yet
pub not_lost : (lost : Bool) (all taken left : List ℕ) → IsSplit lost all taken left → 0 < length left → (lost ≡ false) × (all ≡ taken ++ left)
not_lost true all taken left (none, rest) some = absurd (omega (arith, some, ap (λ (xs : List ℕ). length xs) none))
not_lost false all taken left split some = (refl, split)

pub open_still : (all now : OutboxValue) (calls : List WireCall) → Follows all now calls → 0 < length now.queued → now.is_shut ≡ false
open_still all now calls f some = not_over now f.over some

split_taken : (all taken_so left : List ℕ) (count : ℕ) → all ≡ taken_so ++ left → all ≡ (taken_so ++ take count left) ++ drop count left
split_taken all taken_so left count split =
    split ∙ ap (λ (xs : List ℕ). taken_so ++ xs) (sym (take-append-drop count left)) ∙ sym (append_assoc taken_so (take count left) (drop count left))

abbrev after_taken : ℕ → OutboxValue → OutboxValue
after_taken count o = record o { queued = drop count o.queued }

follows_taken : (all old : OutboxValue) (calls : List WireCall) (count : ℕ) → 0 < length old.queued → Follows all old calls
    → Follows all (after_taken count old) (calls ++ Offered old.channel old.queued (Took count) ∷ [])
follows_taken all old calls count some f =
    let k = all.channel in
    let call = Offered old.channel old.queued (Took count) in
    let on : (old.channel == k) ≡ true = eq-eqb old.channel k f.channel in
    let whole = not_lost old.is_lost all.queued (taken_on k calls) old.queued f.split some in
    let more : taken_on k (call ∷ []) ≡ take count old.queued = ap (λ (b : Bool). (if b then take count old.queued else []) ++ []) on ∙ append-nil (take count old.queued) in
    let taken_now : taken_on k (calls ++ call ∷ []) ≡ taken_on k calls ++ take count old.queued = taken_both k calls (call ∷ []) ∙ ap (λ (xs : List ℕ). taken_on k calls ++ xs) more in
    record {
      channel = f.channel;
      closed = f.closed;
      kept = f.kept;
      lost = lost_both k calls (call ∷ []) ∙ or-false (was_lost k calls) ∙ f.lost;
      split = subst (λ (b : Bool). IsSplit b all.queued (taken_on k (calls ++ call ∷ [])) (drop count old.queued)) (sym whole.0)
          (split_taken all.queued (taken_on k calls) old.queued count whole.1 ∙ ap (λ (xs : List ℕ). xs ++ drop count old.queued) (sym taken_now));
      shut = shut_both k calls (call ∷ []) ∙ omega (arith, f.shut);
      over = λ is. absurd (false≢true (sym (open_still all old calls f some) ∙ is));
    }

follows_lost : (all old : OutboxValue) (calls : List WireCall) → 0 < length old.queued → Follows all old calls
    → Follows all (record old { queued = []; is_lost = true }) (calls ++ Offered old.channel old.queued Lost ∷ [])
follows_lost all old calls some f =
    let k = all.channel in
    let call = Offered old.channel old.queued Lost in
    let on : (old.channel == k) ≡ true = eq-eqb old.channel k f.channel in
    let whole = not_lost old.is_lost all.queued (taken_on k calls) old.queued f.split some in
    let taken_now : taken_on k (calls ++ call ∷ []) ≡ taken_on k calls = taken_both k calls (call ∷ []) ∙ append-nil (taken_on k calls) in
    record {
      channel = f.channel;
      closed = f.closed;
      kept = f.kept;
      lost = lost_both k calls (call ∷ []) ∙ ap (λ (b : Bool). b || ((old.channel == k) || false)) (f.lost ∙ whole.0) ∙ ap (λ (b : Bool). b || false) on;
      split = (refl, (old.queued, whole.1 ∙ ap (λ (xs : List ℕ). xs ++ old.queued) (sym taken_now)));
      shut = shut_both k calls (call ∷ []) ∙ omega (arith, f.shut);
      over = λ is. absurd (false≢true (sym (open_still all old calls f some) ∙ is));
    }

-- what follows with the calls follows with the same calls, said otherwise
pub follows_so : (all new now : OutboxValue) (calls more : List WireCall) → new ≡ now → more ≡ calls → Follows all now calls → Follows all new more
follows_so all new now calls more same calls_same f =
    subst (λ (o : OutboxValue). Follows all o more) (sym same) (subst (λ (cs : List WireCall). Follows all now cs) (sym calls_same) f)

pub follows_put : (all old new : OutboxValue) (calls more : List WireCall) → Puts old new more → Follows all old calls → Follows all new (calls ++ more)
follows_put all old new calls more (put_none nothing same no_calls) f =
    follows_so all new old calls (calls ++ more) same (ap (λ (cs : List WireCall). calls ++ cs) no_calls ∙ append-nil calls) f
follows_put all old new calls more (put_taken count some within same one) f =
    follows_so all new (after_taken count old) (calls ++ Offered old.channel old.queued (Took count) ∷ []) (calls ++ more) same (ap (λ (cs : List WireCall). calls ++ cs) one)
    (follows_taken all old calls count some f)
follows_put all old new calls more (put_lost some same one) f =
    follows_so all new (record old { queued = []; is_lost = true }) (calls ++ Offered old.channel old.queued Lost ∷ []) (calls ++ more) same (ap (λ (cs : List WireCall). calls ++ cs) one)
    (follows_lost all old calls some f)

-- ---- a shutting

-- the parts of what is due
pub due_parts : (is_closed nothing is_shut : Bool) → is_closed && (nothing && not is_shut) ≡ true → (is_closed && nothing ≡ true) × (is_shut ≡ false)
due_parts true true false due = (refl, refl)
due_parts true true true due = absurd (false≢true due)
due_parts true false is_shut due = absurd (false≢true due)
due_parts false nothing is_shut due = absurd (false≢true due)

follows_due : (all old : OutboxValue) (calls : List WireCall) → is_due old ≡ true → Follows all old calls → Follows all (record old { is_shut = true }) (calls ++ Shut old.channel ∷ [])
follows_due all old calls due f =
    let k = all.channel in
    let call = Shut old.channel in
    let on : (old.channel == k) ≡ true = eq-eqb old.channel k f.channel in
    let parts = due_parts old.is_closed (nothing_left old) old.is_shut due in
    let taken_now : taken_on k (calls ++ call ∷ []) ≡ taken_on k calls = taken_both k calls (call ∷ []) ∙ append-nil (taken_on k calls) in
    let none_yet : shut_count k calls ≡ 0 = f.shut ∙ ap (λ (b : Bool). if b then 1 else 0) parts.1 in
    let one : cond {A = ℕ} (old.channel == k) 1 0 ≡ 1 = ap (λ (b : Bool). cond {A = ℕ} b 1 0) on in
    record {
      channel = f.channel;
      closed = f.closed;
      kept = f.kept;
      lost = lost_both k calls (call ∷ []) ∙ or-false (was_lost k calls) ∙ f.lost;
      split = split_same old.is_lost all.queued (taken_on k calls) old.queued (taken_on k (calls ++ call ∷ [])) taken_now f.split;
      shut = shut_both k calls (call ∷ []) ∙ omega (arith, none_yet, one);
      over = λ is. parts.0;
    }

shut_by : (due : Bool) (all old new : OutboxValue) (calls more : List WireCall) → is_due old ≡ due
    → new ≡ (if due then record old { is_shut = true } else old) → more ≡ (if due then Shut old.channel ∷ [] else []) → Follows all old calls → Follows all new (calls ++ more)
shut_by true all old new calls more due same one f =
    follows_so all new (record old { is_shut = true }) (calls ++ Shut old.channel ∷ []) (calls ++ more) same (ap (λ (cs : List WireCall). calls ++ cs) one) (follows_due all old calls due f)
shut_by false all old new calls more due same one f =
    follows_so all new old calls (calls ++ more) same (ap (λ (cs : List WireCall). calls ++ cs) one ∙ append-nil calls) f

pub follows_shut : (all old new : OutboxValue) (calls more : List WireCall) → Shuts old new more → Follows all old calls → Follows all new (calls ++ more)
follows_shut all old new calls more s f = shut_by (is_due old) all old new calls more refl s.shut s.called f

pub flushing : (all old new : OutboxValue) (calls more : List WireCall) → Flushes old new more → Follows all old calls → Follows all new (calls ++ more)
flushing all old new calls more s f =
    follows_so all new new ((calls ++ s.puts) ++ s.shuts) (calls ++ more) refl (ap (λ (cs : List WireCall). calls ++ cs) s.called ∙ sym (append_assoc calls s.puts s.shuts))
    (follows_shut all s.mid new (calls ++ s.puts) s.shuts s.shut (follows_put all old s.mid calls s.puts s.put f))
