use Rattle.std.proofs.Common.{◌≡◌, ℕ, ◌+◌, ◌≤◌, not, ◌||◌, List, length, refl, sym, ap, ◌∙◌, arith}
use Rattle.std.specs.Global.{Vec}
use Rattle.std.specs.Map.{values_of}
use Rattle.std.proofs.lemmas.List.{length-map}
use Rattle.std.proofs.lemmas.List.Filters.{length-filter_both}
use Rattle.breakpoints.specs.Placed.{Placed}
use Rattle.breakpoints.specs.Changes.{is_overfull}
use Rattle.breakpoints.specs.Keyed.{IsKept}
use Rattle.breakpoints.specs.Selecting.{selected, selects, unselected}
use Rattle.breakpoints.specs.declared.selection.Selection.{Selection}
use Rattle.breakpoints.proofs.Indexing.{kept_of}
use Rattle.breakpoints.proofs.Fresh.{not_over_by, over_by}
use Rattle.breakpoints.proofs.breakpoints.Breakpoints.is_crowded.Goals as goal

-- those that stay and those that leave are all, of which there are at most 256
parts_of : (leaving : Selection) (es : List (Vec ℕ × Placed)) (rows : List Placed) (count len : ℕ) → IsKept es → values_of es ≡ rows → count ≡ length (selected leaving rows) → len ≡ length es
    → (length (unselected leaving rows) + count ≡ len) × (len ≤ 256)
parts_of leaving es rows count len kept view counted long =
    let both : length (selected leaving rows) + length (unselected leaving rows) ≡ length rows =
    length-filter_both (selects leaving) (λ row. not (selects leaving row)) (λ row. refl) rows in
    let all : length rows ≡ length es = ap length (sym view) ∙ length-map es (λ e. e.1) in
    let few : length (values_of es) ≤ 256 = kept.orderly.few in
    (omega arith, omega (arith, ap length view))

pub overflow_sub-staying : goal.overflow_sub-staying
overflow_sub-staying c =
    let facts = parts_of c.args.leaving c.self.inside.map.entries c.args.self.now c.args.count c.len.result (kept_of _ _ c.self.invariant) c.self.view_is c.requires c.len.ensures.len in
    omega (arith, facts.0)

pub returns-then-list-staying : goal.returns-then-list-staying
returns-then-list-staying c =
    let facts = parts_of c.args.leaving c.self.inside.map.entries c.args.self.now c.args.count c.len.result (kept_of _ _ c.self.invariant) c.self.view_is c.requires c.len.ensures.len in
    over_by c.len.result c.args.count (length (unselected c.args.leaving c.args.self.now)) (length c.args.list.now) _ facts.0 facts.1 c.if-list-staying.true

pub returns-else-list-staying : goal.returns-else-list-staying
returns-else-list-staying c =
    let facts = parts_of c.args.leaving c.self.inside.map.entries c.args.self.now c.args.count c.len.result (kept_of _ _ c.self.invariant) c.self.view_is c.requires c.len.ensures.len in
    not_over_by c.len.result c.args.count (length (unselected c.args.leaving c.args.self.now)) (length c.args.list.now) c.clashes.result facts.0 facts.1 c.if-list-staying.false
    ∙ ap (λ b. is_overfull c.args.list.now (unselected c.args.leaving c.args.self.now) || b) c.clashes.ensures
