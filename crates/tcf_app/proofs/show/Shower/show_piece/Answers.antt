use Rattle.std.proofs.Common.{◌+◌, ◌++◌, ◌∙◌, ap, None}
use Rattle.stream_escape.specs.Value.{capped}
use Rattle.tcf_app.specs.Show.{shown_items}
use Rattle.tcf_app.specs.Pieces.{frames_length}
use Rattle.tcf_app.proofs.Stands.{piece_shown}
use Rattle.tcf_app.proofs.show.Shower.show_piece.Goals as goal

pub returns : goal.returns
returns c =
    let place = c.args.self.now.place in
    piece_shown _ _ _ _ _ _ _ _ _ _ _ _ c.requires c.feed.ensures.feeds c.new-items.ensures.items c.in_ok-behind.ensures.remembered c.in_ok-behind.ensures.bad
    (c.in_ok-bad.ensures.text
    ∙ ap (λ t. t ++ (shown_items place c.deref.result.now None).text) c.clear.ensures
    ∙ ap (λ xs. (shown_items place xs None).text) c.deref.ensures.value)
    (c.in_ok-bad.ensures.bad ∙ ap (λ xs. (shown_items place xs None).bad) c.deref.ensures.value)
    (λ none. c.in_ok-bad.ensures.place none ∙ ap (λ xs. capped (place + frames_length xs)) c.deref.ensures.value)
    c.or.ensures
