use Rattle.std.proofs.Common.{◌≡◌, ◌∙◌, ℕ, List, false, is_some, ap}
use Rattle.std.specs.Prelude.{bytes_eq}
use Rattle.std.specs.Map.{lookup}
use Rattle.std.proofs.lemmas.Bool.{false_from_ne_true}
use Rattle.indexmap.specs.IndexMap.{insert_entry}
use Rattle.breakpoints.specs.Placed.{Placed}
use Rattle.breakpoints.proofs.Fresh.{given_twice, pushes, same_key}
use Rattle.breakpoints.proofs.rows.keyed.Goals as goal

-- no ID is given twice, so this one isn't there yet
pub loop-props-preserved : goal.loop-props-preserved
loop-props-preserved c =
    let key = c.in_ok-id.ensures.items ∙ c.as_bytes.ensures in
    let missing : is_some (lookup (λ k. bytes_eq c.in_ok-id.id.items k.items) c.loop-props.rows.entries) ≡ false =
    false_from_ne_true _ (λ there.
    let twice = given_twice c.args.channel c.args.list.now c.loop-props.props-index c.props-item.result c.in_ok-id.id c.loop-props.rows.entries
    c.loop-props.invariant.rows c.loop-props.invariant.keyed c.loop-props-test.true c.props-item.is key there in cc (c.requires, twice)) in
    let placed : List (ℕ × ℕ) → Placed = λ counts. record { channel = c.args.channel; props = c.in_ok-copy.field-0; counts = counts } in
    let inserted = c.in_ok-insert.ensures.entries ∙ ap (λ counts. insert_entry same_key c.loop-props.rows.entries c.in_ok-id.id (placed counts)) c.new.ensures in
    let more = pushes c.args.channel c.args.list.now c.loop-props.props-index c.props-item.result c.in_ok-copy.field-0 c.in_ok-id.id c.loop-props.rows.entries c.insert.new.self.entries
    c.loop-props.invariant.rows c.loop-props.invariant.keyed c.loop-props-test.true c.props-item.is c.in_ok-copy.ensures key missing inserted in
    record { rows = more.rows; keyed = more.keyed }
