-- Each file is shown in exactly one way.
use Rattle.std.proofs.Common.{[], ◌++◌, length, false, refl, sym, ap, ◌∙◌, zero-le}
use Rattle.std.specs.Prelude.{Some}
use Rattle.stream_escape.specs.Stream.{partly, begun}
use Rattle.stream_escape.proofs.TheLaws.{not_both, one_fault, one_reading}
use Rattle.tcf_app.specs.Show.{bad_at, what_for, shown_items, unended, whole, broken, EachIsShown, IsShownOnce}
use Rattle.tcf_app.proofs.Stands.{completes}

pub each_is_shown : EachIsShown
each_is_shown file =
    let c = completes file [] file [] (partly [] false) refl (begun zero-le refl) in
    (shown_items 0 ([] ++ c.more) c.behind, c.shown)

pub is_shown_once : IsShownOnce
is_shown_once file shown other (whole items ending reads is) (whole items' ending' reads' is') =
    let same = one_reading file items items' ending ending' reads reads' in
    is ∙ ap (λ xs. shown_items 0 xs (unended (length file) ending)) same.items_same ∙ ap (λ e. shown_items 0 items' (unended (length file) e)) same.ending_same ∙ sym is'
is_shown_once file shown other (whole items ending reads is) (broken items' ending' place cause refuses is') =
    absurd (not_both file items items' ending ending' place cause reads refuses)
is_shown_once file shown other (broken items ending place cause refuses is) (whole items' ending' reads is') =
    absurd (not_both file items' items ending' ending place cause reads refuses)
is_shown_once file shown other (broken items ending place cause refuses is) (broken items' ending' place' cause' refuses' is') =
    let same = one_fault file items items' ending ending' place place' cause cause' refuses refuses' in
    is
    ∙ ap (λ xs. shown_items 0 xs (Some (bad_at place (what_for cause)))) same.items_same
    ∙ ap (λ n. shown_items 0 items' (Some (bad_at n (what_for cause)))) same.place_same
    ∙ ap (λ c. shown_items 0 items' (Some (bad_at place' (what_for c)))) same.cause_same
    ∙ sym is'
