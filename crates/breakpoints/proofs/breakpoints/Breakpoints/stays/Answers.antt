use Rattle.std.proofs.Common.{◌≡◌, List, Some, not, sym, ap, ◌∙◌}
use Rattle.std.specs.Map.{values_of}
use Rattle.breakpoints.specs.Placed.{Placed}
use Rattle.breakpoints.specs.Rows.{is_there, row_of}
use Rattle.breakpoints.specs.Selecting.{selects, unselected}
use Rattle.breakpoints.proofs.Filtered.{none_stays, one_stays}
use Rattle.breakpoints.proofs.Lookup.{lookup_row, none_found}
use Rattle.breakpoints.proofs.breakpoints.Breakpoints.stays.Goals as goal

-- the one breakpoint of the ID is left where it isn't chosen
pub returns-in-Some : goal.returns-in-Some
returns-in-Some c =
    let rows : List Placed = values_of c.self.inside.map.entries in
    let found : row_of c.args.id.now rows ≡ Some c.in-Some.row.now =
    sym (lookup_row c.args.id.now c.self.inside.map.entries c.self.invariant.keyed) ∙ sym c.in-Some.ensures.value in
    ap not c.selects.ensures
    ∙ sym (one_stays c.args.id.now (λ row. not (selects c.args.leaving row)) rows c.in-Some.row.now c.self.invariant.orderly.differ found)
    ∙ ap (λ all. is_there c.args.id.now (unselected c.args.leaving all)) c.self.view_is

pub returns-in-None : goal.returns-in-None
returns-in-None c =
    sym (none_stays c.args.id.now (λ row. not (selects c.args.leaving row)) (values_of c.self.inside.map.entries)
    (none_found c.args.id.now c.self.inside.map.entries c.self.invariant.keyed c.in-None.ensures.value))
    ∙ ap (λ all. is_there c.args.id.now (unselected c.args.leaving all)) c.self.view_is
