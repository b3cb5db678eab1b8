use Rattle.std.proofs.Common.{◌≡◌, ◌+◌, ◌^◌, ◌<◌, ◌++◌, drop, None}
use Rattle.stream_escape.specs.Value.{capped}
use Rattle.tcf_app.specs.Show.{shown_items}
use Rattle.tcf_app.specs.Pieces.{frames_length}
use Rattle.tcf_app.proofs.show.show_items.Given as goal

abbrev pub invariant-loop-item : goal.invariant-loop-item
invariant-loop-item l =
    record {
      text : l.initial.text ++ (shown_items l.initial.at l.items None).text ≡ l.text ++ (shown_items l.at (drop l.item-index l.items) None).text;
      bad : (shown_items l.initial.at l.items None).bad ≡ (shown_items l.at (drop l.item-index l.items) None).bad;
      place : capped (l.initial.at + frames_length l.items) ≡ capped (l.at + frames_length (drop l.item-index l.items));
      fits : l.at < 2 ^ 64;
    }
