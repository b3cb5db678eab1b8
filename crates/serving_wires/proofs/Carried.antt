-- A wire whose outbox was flushed is carried.
use Rattle.std.proofs.Common.{◌≡◌, ℕ, zero, suc, ◌+◌, ◌≤◌, ◌==◌, Bool, true, false, ◌&&◌, ◌||◌, not, List, [], ◌∷◌, ◌++◌, length, nat_lt, refl, sym, ap, ◌∙◌, arith, append-nil, append_assoc, eq-eqb, ne_eqb, ltb-false}
use Rattle.std.specs.Prelude.{if◌then◌else◌}
use Rattle.std.proofs.lemmas.Bool.{and_parts, false≢true}
use Rattle.std.proofs.lemmas.List.{drop_all, length-append}
use Rattle.tcf_wires.specs.Told.{taken_on}
use Rattle.tcf_wires.specs.declared.call.WireCall.{WireCall}
use Rattle.tcf_wires.specs.declared.call.WireCall.TheVariants.{Offered, Shut}
use Rattle.tcf_wires.specs.declared.event.Put.TheVariants.{Took}
use Rattle.serving_wires.specs.Calls.{events_in, falls_short, is_short}
use Rattle.serving_wires.specs.Following.{Follows, IsFlushed, IsSplit, Spares}
use Rattle.serving_wires.specs.Outbox.{Flushes, Puts, Shuts, is_due, lost as put_lost, none as put_none, nothing_left, taken as put_taken}
use Rattle.serving_wires.specs.OutboxValue.{OutboxValue}
use Rattle.serving_wires.specs.Serving.{IsCarried, is_put}
use Rattle.serving_wires.proofs.Spared.{short_both, spared, stays_short}
use Rattle.list_laws.proofs.Lists.{empty_by}

-- ---- what is left behind a put was offered

short_of : (k : ℕ) (calls more : List WireCall) (one : WireCall) (short : Bool) → more ≡ one ∷ [] → falls_short k (is_short k calls) one ≡ short → is_short k (calls ++ more) ≡ short
short_of k calls more one short is falls = ap (λ (cs : List WireCall). is_short k (calls ++ cs)) is ∙ short_both k calls (one ∷ []) ∙ falls

offered_behind : (k : ℕ) (old new : OutboxValue) (calls more : List WireCall) → old.channel ≡ k → Puts old new more → is_short k (calls ++ more) ≡ false → new.queued ≡ []
offered_behind k old new calls more at (put_none nothing same no_calls) whole = ap (λ (o : OutboxValue). o.queued) same ∙ nothing
offered_behind k old new calls more at (put_taken count some within same one) whole =
    let on : (old.channel == k) ≡ true = eq-eqb old.channel k at in
    let falls : falls_short k (is_short k calls) (Offered old.channel old.queued (Took count)) ≡ nat_lt count (length old.queued) =
    ap (λ (b : Bool). if b then nat_lt count (length old.queued) else is_short k calls) on in
    let enough : length old.queued ≤ count = ltb-false count (length old.queued) (sym (short_of k calls more _ _ one falls) ∙ whole) in
    ap (λ (o : OutboxValue). o.queued) same ∙ drop_all count old.queued enough
offered_behind k old new calls more at (put_lost some same one) whole = ap (λ (o : OutboxValue). o.queued) same

-- a shutting leaves the queue, and whether a put fell short
record LeavesAll (k : ℕ) (old new : OutboxValue) (calls more : List WireCall) : Type 0 where
  channel : new.channel ≡ old.channel
  queued : new.queued ≡ old.queued
  short : is_short k (calls ++ more) ≡ is_short k calls
  done : is_due new ≡ false

not_due_twice : (is_closed nothing : Bool) → is_closed && (nothing && false) ≡ false
not_due_twice true true = refl
not_due_twice true false = refl
not_due_twice false nothing = refl

leaves_by : (due : Bool) (k : ℕ) (old new : OutboxValue) (calls more : List WireCall) → is_due old ≡ due → new ≡ (if due then record old { is_shut = true } else old)
    → more ≡ (if due then Shut old.channel ∷ [] else []) → LeavesAll k old new calls more
leaves_by true k old new calls more due same one =
    record {
      channel = ap (λ (o : OutboxValue). o.channel) same;
      queued = ap (λ (o : OutboxValue). o.queued) same;
      short = short_of k calls more (Shut old.channel) (is_short k calls) one refl;
      done = ap (λ (o : OutboxValue). is_due o) same ∙ not_due_twice old.is_closed (nothing_left old);
    }
leaves_by false k old new calls more due same one =
    record {
      channel = ap (λ (o : OutboxValue). o.channel) same;
      queued = ap (λ (o : OutboxValue). o.queued) same;
      short = ap (λ (cs : List WireCall). is_short k (calls ++ cs)) one ∙ ap (λ (cs : List WireCall). is_short k cs) (append-nil calls);
      done = ap (λ (o : OutboxValue). is_due o) same ∙ due;
    }

leaves_all : (k : ℕ) (old new : OutboxValue) (calls more : List WireCall) → Shuts old new more → LeavesAll k old new calls more
leaves_all k old new calls more s = leaves_by (is_due old) k old new calls more refl s.shut s.called

pub put_channel : (old new : OutboxValue) (calls : List WireCall) → Puts old new calls → new.channel ≡ old.channel
put_channel old new calls (put_none nothing same no_calls) = ap (λ (o : OutboxValue). o.channel) same
put_channel old new calls (put_taken count some within same one) = ap (λ (o : OutboxValue). o.channel) same
put_channel old new calls (put_lost some same one) = ap (λ (o : OutboxValue). o.channel) same

pub flushed : (all old new : OutboxValue) (calls more : List WireCall) → Flushes old new more → Follows all old calls → IsFlushed new (calls ++ more)
flushed all old new calls more s f =
    let k = new.channel in
    let left = leaves_all k s.mid new (calls ++ s.puts) s.shuts s.shut in
    let at : old.channel ≡ k = sym (left.channel ∙ put_channel old s.mid s.puts s.put) in
    let short : is_short k (calls ++ more) ≡ is_short k (calls ++ s.puts) =
    ap (λ (cs : List WireCall). is_short k cs) (ap (λ (cs : List WireCall). calls ++ cs) s.called ∙ sym (append_assoc calls s.puts s.shuts)) ∙ left.short in
    record {
      offered = λ whole. left.queued ∙ offered_behind k old s.mid calls s.puts at s.put (sym short ∙ whole);
      shut = left.done;
    }

-- ---- a shut wire has nothing left

shut_not_due : (is_closed nothing is_shut : Bool) → is_shut ≡ true → is_closed && (nothing && not is_shut) ≡ false
shut_not_due is_closed nothing true is = not_due_twice is_closed nothing
shut_not_due is_closed nothing false is = absurd (false≢true is)

pub shut_is_flushed : (all now : OutboxValue) (calls : List WireCall) → now.is_shut ≡ true → Follows all now calls → IsFlushed now calls
shut_is_flushed all now calls is f =
    record {
      offered = λ whole. empty_by now.queued (and_parts now.is_closed (nothing_left now) (f.over is)).1;
      shut = shut_not_due now.is_closed (nothing_left now) now.is_shut is;
    }

pub stays_flushed : (now : OutboxValue) (calls more : List WireCall) → Spares now.channel more → events_in more ≡ [] → IsFlushed now calls → IsFlushed now (calls ++ more)
stays_flushed now calls more off none f = record { offered = λ whole. f.offered (sym (stays_short now.channel calls more off none) ∙ whole); shut = f.shut }

-- ---- so the wire is carried

front_of : (lost : Bool) (all taken left : List ℕ) → IsSplit lost all taken left → (rest : List ℕ) × (all ≡ taken ++ rest)
front_of true all taken left (none, (dropped, split)) = (dropped, split)
front_of false all taken left split = (left, split)

whole_of : (lost : Bool) (all taken left : List ℕ) → lost ≡ false → left ≡ [] → IsSplit lost all taken left → taken ≡ all
whole_of true all taken left is none split = absurd (false≢true (sym is))
whole_of false all taken left is none split = sym (split ∙ ap (λ (xs : List ℕ). taken ++ xs) none ∙ append-nil taken)

as_long : (taken left : ℕ) → (left == 0) ≡ (taken == taken + left)
as_long taken zero = sym (eq-eqb taken (taken + 0) (omega arith))
as_long taken (suc left) = ne_eqb (suc left) 0 (λ same. absurd (omega (arith, same))) ∙ sym (ne_eqb taken (taken + suc left) (λ same. absurd (omega (arith, same))))

-- nothing is left exactly where all is put
put_where : (lost : Bool) (all taken left : List ℕ) → IsSplit lost all taken left → (length left == 0) ≡ (lost || (length taken == length all))
put_where true all taken left (none, rest) = ap (λ (xs : List ℕ). length xs == 0) none
put_where false all taken left split =
    as_long (length taken) (length left) ∙ ap (λ (n : ℕ). length taken == n) (sym (length-append taken left) ∙ ap (λ (xs : List ℕ). length xs) (sym split))

shut_where : (is_closed nothing is_shut : Bool) → is_closed && (nothing && not is_shut) ≡ false → (is_shut ≡ true → is_closed && nothing ≡ true) → is_shut ≡ is_closed && nothing
shut_where is_closed nothing true due over = sym (over refl)
shut_where true true false due over = absurd (false≢true (sym due))
shut_where true false false due over = refl
shut_where false nothing false due over = refl

pub carried : (all now : OutboxValue) (calls : List WireCall) → Follows all now calls → IsFlushed now calls → IsCarried all.queued all.is_closed all.channel calls
carried all now calls f flush =
    let k = all.channel in
    let nothing : nothing_left now ≡ is_put all.queued k calls =
    put_where now.is_lost all.queued (taken_on k calls) now.queued f.split ∙ ap (λ (b : Bool). b || (length (taken_on k calls) == length all.queued)) (sym f.lost) in
    let shut : now.is_shut ≡ all.is_closed && is_put all.queued k calls =
    shut_where now.is_closed (nothing_left now) now.is_shut flush.shut f.over ∙ ap (λ (b : Bool). b && nothing_left now) f.closed ∙ ap (λ (b : Bool). all.is_closed && b) nothing in
    record {
      front = front_of now.is_lost all.queued (taken_on k calls) now.queued f.split;
      whole = λ enough kept. whole_of now.is_lost all.queued (taken_on k calls) now.queued (sym f.lost ∙ kept)
          (flush.offered (ap (λ (n : ℕ). is_short n calls) f.channel ∙ enough)) f.split;
      shut = f.shut ∙ ap (λ (b : Bool). if b then 1 else 0) shut;
    }

pub unused : (channel : ℕ) (calls : List WireCall) → Spares channel calls → IsCarried [] false channel calls
unused channel calls off =
    let s = spared channel calls off in
    record {
      front = ([], ap (λ (xs : List ℕ). xs ++ []) (sym s.taken));
      whole = λ enough kept. s.taken;
      shut = s.shut;
    }
