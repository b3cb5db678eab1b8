use Rattle.std.proofs.Common.{◌≡◌, ◌++◌, drop}
use Rattle.std.specs.Prelude.{option_map}
use Rattle.serde_json.specs.View.{items_view}
use Rattle.json_args.specs.Kinds.{strings_in}
use Rattle.json_args.proofs.kinds.strings_of.Given as goal

abbrev pub invariant-loop-item : goal.invariant-loop-item
invariant-loop-item l =
    strings_in (items_view l.items) ≡ option_map (λ texts. l.texts ++ texts) (strings_in (items_view (drop l.item-index l.items)))
