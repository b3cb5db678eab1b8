-- What a value-add that isn't bound does leaves its store.
use Rattle.std.proofs.Common.{◌≡◌, ℕ, Bool, true, false, List, Option, Some, None, Result, Ok, refl}
use Rattle.std.specs.Prelude.{if◌then◌else◌}
use Rattle.channel_core.specs.Taking.{next_taken}
use Rattle.channel_core.specs.declared.taking.Taken.{Taken}
use Rattle.channel_core.specs.declared.taking.Taken.TheVariants as taken
use Rattle.tcf_message.specs.Message.{MessageValue, command, reading}
use Rattle.tcf_message.specs.declared.message.MessageFault.{MessageFault}
use Rattle.value_node.specs.Own.{own_reply, redirect_failed}
use Rattle.value_node.specs.Runs.{Call, bytes_end, comes, connects, fails, gives, is_binding, turns}
use Rattle.value_node.specs.Value.{answered, asked, asked_in, awaits, connected_to, redirect_answered, takes_below, took_any_below, turned_below, unbound_again, with_lower}
use Rattle.value_node.specs.declared.own.Own.{Own}
use Rattle.value_node.specs.declared.own.Own.TheVariants as own
use Rattle.value_node.specs.declared.relay.Relay.{Relay}
use Rattle.value_node.specs.declared.states.Bind.{Bind}
use Rattle.value_node.specs.declared.states.Bind.TheVariants.{Unbound, Opening, Bound, Closed}
use Rattle.value_node.specs.declared.states.Side.TheVariants.{Below, Above}
use Rattle.value_node.specs.declared.states.ValueTurn.TheVariants.{Nothing}
use Rattle.value_node.proofs.Steps.{relay_called}

pub redirect_store : (redirect : Option (List ℕ)) (body : List ℕ) (v : Relay) → (redirect_answered redirect body v).store ≡ v.store
redirect_store None body v = refl
redirect_store (Some token) body v = refl

answered_store : (token : List ℕ) (reply : Own) (v : Relay) → (answered token reply v).1.store ≡ v.store
answered_store token own.Unknown v = refl
answered_store token (own.Result body) v = refl
answered_store token own.Connect v = refl

asked_in_store : (bind : Bind) (token service name body : List ℕ) (mark : Option ℕ) (v : Relay) → is_binding bind ≡ false → (asked_in bind token service name body mark v).1.store ≡ v.store
asked_in_store Unbound token service name body mark v off = answered_store token (own_reply v.peer service name body) v
asked_in_store Opening token service name body mark v off = refl
asked_in_store Bound token service name body mark v off = absurd cc
asked_in_store Closed token service name body mark v off = refl

read_store : (m : Result MessageValue MessageFault) (mark : Option ℕ) (v : Relay) → is_binding v.bind ≡ false → (asked m mark v).1.store ≡ v.store
read_store (Ok (command token service name body)) mark v off = asked_in_store v.bind token service name body mark v off
read_store m mark v off = refl

took_store : (what : Option (Taken Unit)) (v : Relay) → is_binding v.bind ≡ false → (took_any_below what v).1.store ≡ v.store
took_store None v off = refl
took_store (Some (taken.Hello incoming)) v off = refl
took_store (Some (taken.Command incoming)) v off = read_store (reading incoming.raw) incoming.mark v off
took_store (Some (taken.Event incoming)) v off = refl
took_store (Some (taken.Progress token incoming)) v off = refl
took_store (Some (taken.Final tag incoming)) v off = refl
took_store (Some (taken.Closed cause)) v off = refl

turned_store : (flag : Bool) (v : Relay) → is_binding v.bind ≡ false
    → (if flag then took_any_below (next_taken v.lower).0 (with_lower (next_taken v.lower).1 v) else (Nothing, v)).1.store ≡ v.store
turned_store true v off = took_store (next_taken v.lower).0 (with_lower (next_taken v.lower).1 v) off
turned_store false v off = refl

pub connected_store : (flag : Bool) (v : Relay) → (if flag then connected_to v else v).store ≡ v.store
connected_store true v = refl
connected_store false v = refl

pub failed_store : (flag : Bool) (v : Relay) → (if flag then unbound_again v else v).store ≡ v.store
failed_store true v = redirect_store v.redirect redirect_failed v
failed_store false v = refl

pub others_keep : (call : Call) (v : Relay) → (call ≡ turns Above → ⊥) → is_binding v.bind ≡ false → (relay_called call v).store ≡ v.store
unfolding turned_below
others_keep (comes Below piece mark) v other off = refl
others_keep (comes Above piece mark) v other off = refl
others_keep (bytes_end Below) v other off = refl
others_keep (bytes_end Above) v other off = refl
others_keep (turns Below) v other off = turned_store (takes_below v.bind v.upper) v off
others_keep (turns Above) v other off = absurd (other refl)
others_keep connects v other off = connected_store (awaits v) v
others_keep fails v other off = failed_store (awaits v) v
others_keep (gives Below) v other off = refl
others_keep (gives Above) v other off = refl
