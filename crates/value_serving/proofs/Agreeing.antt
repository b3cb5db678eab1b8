-- What passed on the sides of a value-add is what its ends gave out in the same calls.
use Rattle.std.proofs.Common.{◌≡◌, ℕ, Bool, true, false, List, [], ◌∷◌, ◌++◌, Option, Some, None, refl, ap, sym, ◌∙◌, subst, append-nil, append_assoc}
use Rattle.std.specs.Prelude.{IfSome, fold, if◌then◌else◌, is_some, option_and_then, option_map, option_to_list, slice_get}
use Rattle.channel_core.specs.Laws.{listed}
use Rattle.channel_core.specs.Runs.{Run, after_calls as end_after}
use Rattle.channel_core.specs.declared.held.Outgoing.{Outgoing}
use Rattle.value_node.specs.ForwardedValue.{ForwardedValue}
use Rattle.value_node.specs.Passing.{Lower, Upper}
use Rattle.value_node.specs.RelayLaws.{EndsAreRuns}
use Rattle.value_node.specs.Runs.{Call, Past, UpperCall, ValueRun, above, after_all, after_call as run_after, below, bytes_end, called, comes, connects, fails, gives, no_calls, reconnected, turns, upper_after, upper_by, upper_from, with_calls}
use Rattle.value_node.specs.Value.{after_giving, awaits, connected, first_of, given}
use Rattle.value_node.specs.ValueValue.{ValueValue}
use Rattle.value_node.specs.declared.relay.Relay.{Relay}
use Rattle.value_node.specs.declared.states.Side.{Side}
use Rattle.value_node.specs.declared.states.Side.TheVariants.{Below, Above}
use Rattle.value_node.proofs.Holding.{above_more, below_more}
use Rattle.value_node.proofs.HoldsEnds.{upper_is}
use Rattle.value_node.proofs.Steps.{whole}
use Rattle.value_node.proofs.TheLaws.{ends_are_runs}
use Rattle.value_serving.specs.Passages.{PassagesAgree, given_above}
use Rattle.value_serving.specs.Served.{Passage, Passed, after_call, new_passage, nothing_passed, with_got, with_given}
use Rattle.value_serving.proofs.Giving.{IsQuiet, lower_given, upper_given}

-- ---- what holds of a run of calls

pub record Has (r : ValueRun) (node : ValueValue) (low high : List Outgoing) (linked : Bool) : Type 0 where
  pub node_is : node ≡ r.value
  pub low_is : (below r.past).past.given ≡ low
  pub high_is : (above r.past).past.given ≡ high
  pub linked_is : is_some r.past.connection ≡ linked

-- ---- a call that gives nothing out

linked_map : {A : Type 0} → (f : A → A) (o : Option A) → is_some (option_map f o) ≡ is_some o
linked_map f None = refl
linked_map f (Some x) = refl

has_with : (call : Call) (r : ValueRun) (node : ValueValue) (low high : List Outgoing) (linked : Bool) → IsQuiet call → EndsAreRuns r → Has r node low high linked
    → Has (record { value = called call r.value; past = with_calls call r.value.relay (called call r.value).relay r.past }) (called call node) low high linked
has_with call r node low high linked quiet runs h =
    let next = (called call r.value).relay in
    record {
      node_is = ap (called call) h.node_is;
      low_is = lower_given call r.value.relay next r.past quiet runs.unbound ∙ h.low_is;
      high_is = upper_given call r.value.relay next r.past quiet runs.upper ∙ h.high_is;
      linked_is = linked_map (λ (calls : List UpperCall). calls ++ upper_by call r.value.relay) r.past.connection ∙ h.linked_is;
    }

has_quiet : (call : Call) (r : ValueRun) (node : ValueValue) (low high : List Outgoing) (linked : Bool) → IsQuiet call → EndsAreRuns r → Has r node low high linked
    → Has (run_after call r) (called call node) low high linked
has_quiet (comes side piece mark) r node low high linked quiet runs h = has_with (comes side piece mark) r node low high linked quiet runs h
has_quiet (bytes_end side) r node low high linked quiet runs h = has_with (bytes_end side) r node low high linked quiet runs h
has_quiet (turns side) r node low high linked quiet runs h = has_with (turns side) r node low high linked quiet runs h
has_quiet connects r node low high linked quiet runs h = absurd quiet
has_quiet fails r node low high linked quiet runs h = has_with fails r node low high linked quiet runs h
has_quiet (gives side) r node low high linked quiet runs h = absurd quiet

-- ---- a message that is given out

given_whole : (side : Side) (value : ValueValue) → value.is_spent ≡ false → given side value ≡ given side (whole value.relay)
given_whole side value unspent = ap (λ (b : Bool). given side (record { relay = value.relay; is_spent = b })) unspent

none_upper : (v : Relay) (upper : Option Upper) (p : Past) → (end_after (upper_from (gives Below) v upper) (above p)).past.given ≡ (above p).past.given
none_upper v None p = refl
none_upper v (Some e) p = refl

one_upper : (v : Relay) (upper : Option Upper) (p : Past) → IfSome upper (λ e. e ≡ (above p).end)
    → (end_after (upper_from (gives Above) v upper) (above p)).past.given ≡ (above p).past.given ++ listed (option_and_then first_of upper)
one_upper v None p same = sym (append-nil (above p).past.given)
one_upper v (Some e) p same = ap (λ (x : Upper). (above p).past.given ++ listed (slice_get x.queued 0)) (sym same)

has_below : (r : ValueRun) (node : ValueValue) (low high : List Outgoing) (linked : Bool) → EndsAreRuns r → Has r node low high linked
    → Has (run_after (gives Below) r) (after_giving Below node) (low ++ listed (given Below node)) high linked
has_below r node low high linked runs h =
    let v = r.value.relay in
    let p = r.past in
    let next = (after_giving Below r.value).relay in
    let given_is : given Below node ≡ slice_get v.lower.queued 0 = ap (given Below) h.node_is ∙ given_whole Below r.value runs.unspent in
    record {
      node_is = ap (after_giving Below) h.node_is;
      low_is =
          ap (λ (x : Run Unit). x.past.given) (below_more (gives Below) v next p runs.unbound)
          ∙ ap (λ (e : Lower). (below p).past.given ++ listed (slice_get e.queued 0)) (sym runs.lower)
          ∙ ap (λ (outs : List Outgoing). outs ++ listed (slice_get v.lower.queued 0)) h.low_is
          ∙ ap (λ (o : Option Outgoing). low ++ listed o) (sym given_is);
      high_is = ap (λ (x : Run ForwardedValue). x.past.given) (above_more (gives Below) v next p runs.upper) ∙ none_upper v v.upper p ∙ h.high_is;
      linked_is = linked_map (λ (calls : List UpperCall). calls ++ upper_by (gives Below) v) p.connection ∙ h.linked_is;
    }

has_above : (r : ValueRun) (node : ValueValue) (low high : List Outgoing) (linked : Bool) → EndsAreRuns r → Has r node low high linked
    → Has (run_after (gives Above) r) (after_giving Above node) low (high ++ listed (given Above node)) linked
has_above r node low high linked runs h =
    let v = r.value.relay in
    let p = r.past in
    let next = (after_giving Above r.value).relay in
    let given_is : given Above node ≡ option_and_then first_of v.upper = ap (given Above) h.node_is ∙ given_whole Above r.value runs.unspent in
    record {
      node_is = ap (after_giving Above) h.node_is;
      low_is = ap (λ (x : Run Unit). x.past.given) (below_more (gives Above) v next p runs.unbound) ∙ h.low_is;
      high_is =
          ap (λ (x : Run ForwardedValue). x.past.given) (above_more (gives Above) v next p runs.upper)
          ∙ one_upper v v.upper p (upper_is v.upper p.connection runs.upper)
          ∙ ap (λ (outs : List Outgoing). outs ++ listed (option_and_then first_of v.upper)) h.high_is
          ∙ ap (λ (o : Option Outgoing). high ++ listed o) (sym given_is);
      linked_is = linked_map (λ (calls : List UpperCall). calls ++ upper_by (gives Above) v) p.connection ∙ h.linked_is;
    }

-- ---- a connection

linked_by : (flag : Bool) (r : ValueRun) (node : ValueValue) (low high : List Outgoing) (linked : Bool) → flag ≡ true → Has r node low high linked
    → Has (record { value = connected r.value; past = if flag then reconnected r.past else r.past }) (connected node) low [] true
linked_by true r node low high linked on h = record { node_is = ap connected h.node_is; low_is = h.low_is; high_is = refl; linked_is = refl }
linked_by false r node low high linked on h = absurd cc

unlinked_by : (flag : Bool) (r : ValueRun) (node : ValueValue) (low high : List Outgoing) (linked : Bool) → flag ≡ false → Has r node low high linked
    → Has (record { value = connected r.value; past = if flag then reconnected r.past else r.past }) (connected node) low high linked
unlinked_by true r node low high linked off h = absurd cc
unlinked_by false r node low high linked off h = record { node_is = ap connected h.node_is; low_is = h.low_is; high_is = h.high_is; linked_is = h.linked_is }

has_connected : (r : ValueRun) (node : ValueValue) (low high : List Outgoing) (linked : Bool) → awaits node.relay ≡ true → Has r node low high linked
    → Has (run_after connects r) (connected node) low [] true
has_connected r node low high linked on h =
    linked_by (awaits r.value.relay) r node low high linked (ap (λ (x : ValueValue). awaits x.relay) (sym h.node_is) ∙ on) h

has_unconnected : (r : ValueRun) (node : ValueValue) (low high : List Outgoing) (linked : Bool) → awaits node.relay ≡ false → Has r node low high linked
    → Has (run_after connects r) (connected node) low high linked
has_unconnected r node low high linked off h =
    unlinked_by (awaits r.value.relay) r node low high linked (ap (λ (x : ValueValue). awaits x.relay) (sym h.node_is) ∙ off) h

after_more : (calls : List Call) (call : Call) (r : ValueRun) → after_all (calls ++ call ∷ []) r ≡ run_after call (after_all calls r)
after_more [] call r = refl
after_more (first ∷ calls) call r = after_more calls call (run_after first r)

-- ---- a passage is so

abbrev IsPassage : ValueRun → Passage → Type 0
IsPassage r p = Has r p.node p.below.gave (given_above p.above) (is_some p.above)

listed_so : (out : Option Outgoing) → listed out ≡ option_to_list out
listed_so None = refl
listed_so (Some out) = refl

got_above : (piece : List ℕ) (s : Option Passed) → given_above s ≡ given_above (option_map (with_got piece) s)
got_above piece None = refl
got_above piece (Some s) = refl

some_above : (change : Passed → Passed) (s : Option Passed) → is_some s ≡ is_some (option_map change s)
some_above change None = refl
some_above change (Some s) = refl

gave_above : (out : Option Outgoing) (s : Option Passed) → (is_some s ≡ false → out ≡ None) → given_above s ++ listed out ≡ given_above (option_map (with_given out) s)
gave_above out None none = ap listed (none refl)
gave_above out (Some s) none = ap (λ (outs : List Outgoing). s.gave ++ outs) (listed_so out)

-- without a connection there is nothing to give above
pub none_linked : (connection : Option (List UpperCall)) → is_some connection ≡ false → option_map (λ calls. (upper_after calls).end) connection ≡ None
none_linked None is = refl
none_linked (Some calls) is = absurd cc

upper_none : (upper : Option Upper) → upper ≡ None → option_and_then first_of upper ≡ None
upper_none upper is = ap (λ (u : Option Upper). option_and_then first_of u) is

nothing_above : (r : ValueRun) (node : ValueValue) (low high : List Outgoing) (linked : Bool) → EndsAreRuns r → Has r node low high linked → linked ≡ false → given Above node ≡ None
nothing_above r node low high linked runs h off =
    ap (given Above) h.node_is ∙ given_whole Above r.value runs.unspent
    ∙ upper_none r.value.relay.upper (runs.upper ∙ none_linked r.past.connection (h.linked_is ∙ off))

same_high : (r : ValueRun) (node : ValueValue) (low high other : List Outgoing) (linked now : Bool) → high ≡ other → linked ≡ now → Has r node low high linked → Has r node low other now
same_high r node low high other linked now is so h =
    record { node_is = h.node_is; low_is = h.low_is; high_is = h.high_is ∙ is; linked_is = h.linked_is ∙ so }

connects_by : (flag : Bool) (r : ValueRun) (p : Passage) → awaits p.node.relay ≡ flag → IsPassage r p
    → IsPassage (run_after connects r) (record (if flag then record p { above = Some nothing_passed } else p) { node = connected p.node })
connects_by true r p is h = has_connected r p.node p.below.gave (given_above p.above) (is_some p.above) is h
connects_by false r p is h = has_unconnected r p.node p.below.gave (given_above p.above) (is_some p.above) is h

agrees_after : (call : Call) (r : ValueRun) (p : Passage) → EndsAreRuns r → IsPassage r p → IsPassage (run_after call r) (after_call p call)
agrees_after (comes Below piece mark) r p runs h = has_quiet (comes Below piece mark) r p.node p.below.gave (given_above p.above) (is_some p.above) tt runs h
agrees_after (comes Above piece mark) r p runs h =
    same_high (run_after (comes Above piece mark) r) (called (comes Above piece mark) p.node) p.below.gave (given_above p.above) (given_above (option_map (with_got piece) p.above))
    (is_some p.above) (is_some (option_map (with_got piece) p.above)) (got_above piece p.above) (some_above (with_got piece) p.above)
    (has_quiet (comes Above piece mark) r p.node p.below.gave (given_above p.above) (is_some p.above) tt runs h)
agrees_after (bytes_end side) r p runs h = has_quiet (bytes_end side) r p.node p.below.gave (given_above p.above) (is_some p.above) tt runs h
agrees_after (turns side) r p runs h = has_quiet (turns side) r p.node p.below.gave (given_above p.above) (is_some p.above) tt runs h
agrees_after connects r p runs h = connects_by (awaits p.node.relay) r p refl h
agrees_after fails r p runs h = has_quiet fails r p.node p.below.gave (given_above p.above) (is_some p.above) tt runs h
agrees_after (gives Below) r p runs h =
    let out = given Below p.node in
    subst (λ (outs : List Outgoing). Has (run_after (gives Below) r) (after_giving Below p.node) (p.below.gave ++ outs) (given_above p.above) (is_some p.above)) (listed_so out)
    (has_below r p.node p.below.gave (given_above p.above) (is_some p.above) runs h)
agrees_after (gives Above) r p runs h =
    let out = given Above p.node in
    same_high (run_after (gives Above) r) (after_giving Above p.node) p.below.gave (given_above p.above ++ listed out) (given_above (option_map (with_given out) p.above))
    (is_some p.above) (is_some (option_map (with_given out) p.above))
    (gave_above out p.above (nothing_above r p.node p.below.gave (given_above p.above) (is_some p.above) runs h)) (some_above (with_given out) p.above)
    (has_above r p.node p.below.gave (given_above p.above) (is_some p.above) runs h)

agrees_behind : (peer : List ℕ) (before calls : List Call) (p : Passage) → IsPassage (after_all before (no_calls peer)) p
    → IsPassage (after_all (before ++ calls) (no_calls peer)) (fold after_call p calls)
agrees_behind peer before [] p h = subst (λ (cs : List Call). IsPassage (after_all cs (no_calls peer)) p) (sym (append-nil before)) h
agrees_behind peer before (call ∷ calls) p h =
    let one = agrees_after call (after_all before (no_calls peer)) p (ends_are_runs peer before) h in
    subst (λ (cs : List Call). IsPassage (after_all cs (no_calls peer)) (fold after_call (after_call p call) calls)) (append_assoc before (call ∷ []) calls)
    (agrees_behind peer (before ++ call ∷ []) calls (after_call p call)
    (subst (λ (r : ValueRun). IsPassage r (after_call p call)) (sym (after_more before call (no_calls peer))) one))

pub passages_agree : PassagesAgree
passages_agree peer calls =
    let h = agrees_behind peer [] calls (new_passage peer) (record { node_is = refl; low_is = refl; high_is = refl; linked_is = refl }) in
    record { node = h.node_is; below = sym h.low_is; above = sym h.high_is; connection = sym h.linked_is }
