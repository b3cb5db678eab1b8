-- What a bound value-add does with a command, by what its store answers.
use Rattle.std.proofs.Common.{◌≡◌, ℕ, Bool, true, false, List, [], ◌∷◌, Option, Some, None, refl, ap}
use Rattle.std.specs.Prelude.{if◌then◌else◌}
use Rattle.channel_core.specs.Runs.{an_answer, sending}
use Rattle.tcf_values.specs.declared.command.Command.{Command}
use Rattle.value_node.specs.Passing.{Upper}
use Rattle.value_node.specs.Runs.{bound_below, refused_by, stored_for}
use Rattle.value_node.specs.Store.{StoreValue, answer_to, used_by}
use Rattle.value_node.specs.Value.{answered_or_forwarded, asked_bound, command_of, forwarded_as, is_free_to_answer, with_store}
use Rattle.value_node.specs.declared.relay.Relay.{Relay}

-- the store behind it
abbrev pub store_asked : List ℕ → List ℕ → List ℕ → Relay → StoreValue
store_asked service name body v = if is_free_to_answer v.upper then used_by (command_of service name body) v.store else v.store

asked_if : (free : Bool) (asked : Option Command) (token service name body : List ℕ) (mark : Option ℕ) (v : Relay)
    → (if free then answered_or_forwarded (answer_to asked v.store) asked token service name body mark (record v { store = used_by asked v.store })
    else forwarded_as asked token service name body mark v)
    ≡ answered_or_forwarded (if free then answer_to asked v.store else None) asked token service name body mark (with_store (if free then used_by asked v.store else v.store) v)
asked_if true asked token service name body mark v = refl
asked_if false asked token service name body mark v = refl

pub asked_bound_is : (token service name body : List ℕ) (mark : Option ℕ) (v : Relay)
    → asked_bound token service name body mark v
    ≡ answered_or_forwarded (stored_for service name body v) (command_of service name body) token service name body mark (with_store (store_asked service name body v) v)
asked_bound_is token service name body mark v = asked_if (is_free_to_answer v.upper) (command_of service name body) token service name body mark v

-- which has the same position
used_mark : (asked : Option Command) (store : StoreValue) → (used_by asked store).mark ≡ store.mark
used_mark None store = refl
used_mark (Some command) store = refl

mark_if : (free : Bool) (asked : Option Command) (store : StoreValue) → (if free then used_by asked store else store).mark ≡ store.mark
mark_if true asked store = used_mark asked store
mark_if false asked store = refl

pub asked_mark : (service name body : List ℕ) (v : Relay) → (store_asked service name body v).mark ≡ v.store.mark
asked_mark service name body v = mark_if (is_free_to_answer v.upper) (command_of service name body) v.store

pub below_by_mark : (reply : Option (List ℕ)) (token service name body : List ℕ) (v w : Relay) → v.upper ≡ w.upper → v.store.mark ≡ w.store.mark
    → bound_below reply token service name body v ≡ bound_below reply token service name body w
below_by_mark None token service name body v w upper mark = ap (λ (o : Option Upper). refused_by o service name body) upper
below_by_mark (Some reply) token service name body v w upper mark = ap (λ m. sending (an_answer token reply) m ∷ []) mark
