use Rattle.std.proofs.Common.{◌≡◌, ◌++◌, drop}
use Rattle.std.specs.Prelude.{option_map}
use Rattle.serde_json.specs.View.{items_view}
use Rattle.json_values.specs.Lists.{items_in}
use Rattle.json_values.specs.Peers.{peer_in}
use Rattle.json_values.proofs.peers.ids_of.Given as goal

abbrev pub invariant-loop-item : goal.invariant-loop-item
invariant-loop-item l =
    items_in peer_in (items_view l.items) ≡ option_map (λ xs. l.ids ++ xs) (items_in peer_in (items_view (drop l.item-index l.items)))
