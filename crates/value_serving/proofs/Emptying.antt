-- What a side has to send is taken out, one after the other.
use Rattle.std.proofs.Common.{◌≡◌, ℕ, ◌<◌, Bool, true, false, List, [], ◌∷◌, ◌++◌, length, Option, Some, None, refl, sym, ap, ◌∙◌, arith, append-nil, append_assoc}
use Rattle.std.proofs.lemmas.Option.{none-some, same_Some}
use Rattle.channel_core.specs.declared.held.Outgoing.{Outgoing}
use Rattle.value_node.specs.Passing.{Upper}
use Rattle.value_node.specs.Value.{after_giving, given, with_lower}
use Rattle.value_node.specs.ValueValue.{ValueValue}
use Rattle.value_node.specs.declared.states.Side.{Side}
use Rattle.value_node.specs.declared.states.Side.TheVariants.{Below, Above}
use Rattle.value_serving.specs.Adds.{bytes_for, emptied, queue_on}

-- a value-add with this queue
abbrev below_with : Bool → List Outgoing → ValueValue → ValueValue
below_with spent queue v = record { relay = with_lower (record v.relay.lower { queued = queue }) v.relay; is_spent = spent }

abbrev above_with : Bool → Option Upper → ValueValue → ValueValue
above_with spent upper v = record { relay = record v.relay { upper = upper }; is_spent = spent }

abbrev with_queue : List Outgoing → Upper → Upper
with_queue queue e = record e { queued = queue }

pub record IsNext (side : Side) (v next : ValueValue) (out : Outgoing) : Type 0 where
  pub queue : queue_on side v ≡ out ∷ queue_on side next
  pub same : emptied side next ≡ emptied side v

below_next : (spent : Bool) (queue : List Outgoing) (v : ValueValue) (out : Outgoing) → given Below (below_with spent queue v) ≡ Some out
    → IsNext Below (below_with spent queue v) (after_giving Below (below_with spent queue v)) out
unfolding emptied
below_next true queue v out is = absurd (none-some out is)
below_next false [] v out is = absurd (none-some out is)
below_next false (x ∷ xs) v out is = record { queue = ap (λ (y : Outgoing). y ∷ xs) (same_Some x out is); same = refl }

upper_next : (queue : List Outgoing) (e : Upper) (v : ValueValue) (out : Outgoing) → given Above (above_with false (Some (with_queue queue e)) v) ≡ Some out
    → IsNext Above (above_with false (Some (with_queue queue e)) v) (after_giving Above (above_with false (Some (with_queue queue e)) v)) out
unfolding emptied
upper_next [] e v out is = absurd (none-some out is)
upper_next (x ∷ xs) e v out is = record { queue = ap (λ (y : Outgoing). y ∷ xs) (same_Some x out is); same = refl }

above_next : (spent : Bool) (upper : Option Upper) (v : ValueValue) (out : Outgoing) → given Above (above_with spent upper v) ≡ Some out
    → IsNext Above (above_with spent upper v) (after_giving Above (above_with spent upper v)) out
above_next true upper v out is = absurd (none-some out is)
above_next false None v out is = absurd (none-some out is)
above_next false (Some e) v out is = upper_next e.queued e v out is

pub next_of : (side : Side) (v : ValueValue) (out : Outgoing) → given side v ≡ Some out → IsNext side v (after_giving side v) out
next_of Below v out is = below_next v.is_spent v.relay.lower.queued v out is
next_of Above v out is = above_next v.is_spent v.relay.upper v out is

-- one that gives nothing has nothing to send
pub record IsLast (side : Side) (v next : ValueValue) : Type 0 where
  pub queue : queue_on side v ≡ []
  pub same : next ≡ emptied side v

below_last : (spent : Bool) (queue : List Outgoing) (v : ValueValue) → given Below (below_with spent queue v) ≡ None
    → IsLast Below (below_with spent queue v) (after_giving Below (below_with spent queue v))
unfolding emptied
below_last true queue v is = record { queue = refl; same = refl }
below_last false [] v is = record { queue = refl; same = refl }
below_last false (x ∷ xs) v is = absurd (none-some x (sym is))

upper_last : (queue : List Outgoing) (e : Upper) (v : ValueValue) → given Above (above_with false (Some (with_queue queue e)) v) ≡ None
    → IsLast Above (above_with false (Some (with_queue queue e)) v) (after_giving Above (above_with false (Some (with_queue queue e)) v))
unfolding emptied
upper_last [] e v is = record { queue = refl; same = refl }
upper_last (x ∷ xs) e v is = absurd (none-some x (sym is))

above_last : (spent : Bool) (upper : Option Upper) (v : ValueValue) → given Above (above_with spent upper v) ≡ None
    → IsLast Above (above_with spent upper v) (after_giving Above (above_with spent upper v))
unfolding emptied
above_last true upper v is = record { queue = refl; same = refl }
above_last false None v is = record { queue = refl; same = refl }
above_last false (Some e) v is = upper_last e.queued e v is

pub last_of : (side : Side) (v : ValueValue) → given side v ≡ None → IsLast side v (after_giving side v)
last_of Below v is = below_last v.is_spent v.relay.lower.queued v is
last_of Above v is = above_last v.is_spent v.relay.upper v is

-- ---- as the code goes on

pub record TakesOut (side : Side) (first now : ValueValue) (bytes : List ℕ) : Type 0 where
  pub whole : bytes ++ bytes_for side now ≡ bytes_for side first
  pub node : emptied side now ≡ emptied side first

pub takes_out_first : (side : Side) (v : ValueValue) → TakesOut side v v []
takes_out_first side v = record { whole = refl; node = refl }

one_fewer : (out : Outgoing) (outs all : List Outgoing) → all ≡ out ∷ outs → length outs < length all
one_fewer out outs all is = rw is (omega arith)

pub fewer_left : (side : Side) (v next : ValueValue) (out : Outgoing) → given side v ≡ Some out → next ≡ after_giving side v → length (queue_on side next) < length (queue_on side v)
fewer_left side v next out is after = rw after (one_fewer out (queue_on side (after_giving side v)) (queue_on side v) (next_of side v out is).queue)

bytes_next : (side : Side) (v next : ValueValue) (out : Outgoing) → queue_on side v ≡ out ∷ queue_on side next → bytes_for side v ≡ out.bytes ++ bytes_for side next
unfolding bytes_for
bytes_next side v next out is = rw is refl

no_bytes : (side : Side) (v : ValueValue) → queue_on side v ≡ [] → bytes_for side v ≡ []
unfolding bytes_for
no_bytes side v is = rw is refl

pub takes_out_next : (side : Side) (first v next : ValueValue) (out : Outgoing) (bytes more all : List ℕ) → given side v ≡ Some out → next ≡ after_giving side v
    → more ≡ out.bytes → all ≡ bytes ++ more → TakesOut side first v bytes → TakesOut side first next all
takes_out_next side first v next out bytes more all is after same joined t =
    let n = next_of side v out is in
    rw (after, joined, same)
    (record {
      whole = append_assoc bytes out.bytes (bytes_for side (after_giving side v))
          ∙ ap (λ (rest : List ℕ). bytes ++ rest) (sym (bytes_next side v (after_giving side v) out n.queue)) ∙ t.whole;
      node = n.same ∙ t.node;
    })

pub takes_out_last : (side : Side) (first v next : ValueValue) (bytes : List ℕ) → given side v ≡ None → next ≡ after_giving side v → TakesOut side first v bytes
    → (bytes ≡ bytes_for side first) × (next ≡ emptied side first)
takes_out_last side first v next bytes is after t =
    let l = last_of side v is in (
      sym (append-nil bytes) ∙ ap (λ (rest : List ℕ). bytes ++ rest) (sym (no_bytes side v l.queue)) ∙ t.whole,
      after ∙ l.same ∙ t.node,
    )
