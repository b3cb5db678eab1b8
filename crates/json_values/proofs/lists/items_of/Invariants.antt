use Rattle.std.proofs.Common.{◌≡◌, ◌++◌, drop}
use Rattle.std.specs.Prelude.{option_map}
use Rattle.std.specs.List.{AllByRecursion}
use Rattle.serde_json.specs.View.{items_view}
use Rattle.json_values.specs.Lists.{items_in}
use Rattle.json_values.proofs.lists.items_of.Given as goal

abbrev pub invariant-loop-item : goal.invariant-loop-item
invariant-loop-item g l =
    record {
      value : items_in g.T.Json.json_in (items_view l.items)
          ≡ option_map (λ xs. l.found ++ xs) (items_in g.T.Json.json_in (items_view (drop l.item-index l.items)));
      within : AllByRecursion g.T.Json.IsWithin l.found;
    }
