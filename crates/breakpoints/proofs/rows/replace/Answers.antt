use Rattle.std.proofs.Common.{◌≡◌, ℕ, Bool, not, filter, ap, ◌∙◌, arith}
use Rattle.std.specs.Prelude.{bytes_eq, IsOk}
use Rattle.std.specs.Global.{Vec}
use Rattle.indexmap.specs.IndexMap.{insert_all}
use Rattle.breakpoints.specs.Placed.{Placed}
use Rattle.breakpoints.specs.Selecting.{selects}
use Rattle.breakpoints.proofs.Fresh.{insert_all_last, on_ok}
use Rattle.breakpoints.proofs.rows.replace.Goals as goal

-- the room is there, so all go last
pub returns-clause-entries : goal.returns-clause-entries
returns-clause-entries c =
    let stays : Vec ℕ × Placed → Bool = λ entry. not (selects c.args.leaving entry.1) in
    let left : c.take_out.new.rows.entries ≡ filter stays c.args.rows.now.entries =
    c.take_out.ensures.entries ∙ ap (filter stays) c.in_ok-reserve.ensures.entries in
    let room : IsOk c.append.result = c.append.ensures.succeeds (omega (arith, c.in_ok-reserve.ensures.ok, c.len.ensures.len, c.take_out.ensures.room)) in
    on_ok c.append.result room c.append.ensures.entries
    ∙ ap (λ entries. insert_all (λ x y. bytes_eq x.items y.items) entries c.args.fresh.entries) left
    ∙ insert_all_last c.args.fresh.entries (filter stays c.args.rows.now.entries) c.requires c.len.ensures.unique
