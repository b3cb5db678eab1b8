-- The outboxes as they are, by all that was ever queued for their wires.
use Rattle.std.proofs.Common.{ℕ, List, subst}
use Rattle.tcf_wires.specs.declared.call.WireCall.{WireCall}
use Rattle.serving_wires.specs.Flushing.{its_own}
use Rattle.serving_wires.specs.OutboxValue.{OutboxValue}
use Rattle.serving_wires.specs.Row.{Row}
use Rattle.serving_wires.specs.WireLaws.{WireLaws}
use Rattle.serving_wires.proofs.Rows.{changed_nowhere, changed_same, first_changed}
use Rattle.serving_wires.proofs.Standing.{KeepsOn, Meets, Relation, Stand, both, meets, neither, shut}
use Rattle.serving_wires.specs.Order.{Order}
use Rattle.serving_wires.specs.Sending.{outbox_after}
use Rattle.serving_wires.specs.Standing.{Wire, sent_after, with_piece}
use Rattle.serving_wires.proofs.Keeping.{Keeps, flush_done, keeps_at, keeps_flush, keeps_given_up, keeps_in_place, keeps_more, keeps_order, keeps_order_gone, keeps_piece}

abbrev pub by_wires : Relation Wire OutboxValue
by_wires = record { has = its_own; all = λ sent. sent.queued; Keeps = λ channel sent now calls. Keeps channel sent now calls }

pub wires_keep : WireLaws → KeepsOn by_wires
wires_keep laws =
    record {
      laws = laws;
      at = keeps_at;
      others = keeps_more laws;
      flushing = λ channel s old new calls more flush keeps. keeps_flush laws channel s old new calls more flush keeps;
      flushed = λ channel s old new calls more flush keeps. flush_done laws channel s old new calls more flush keeps;
      in_place = keeps_in_place laws;
      gives_up = keeps_given_up laws;
    }

-- ---- an order is done on both

ordered_where : WireLaws → (calls : List WireCall) (order : Order) (channel low : ℕ) (ideals : List (Row Wire)) (reals : List (Row OutboxValue)) → Stand by_wires calls low ideals reals
    → Meets by_wires calls low channel ideals reals → Stand by_wires calls low (first_changed channel (sent_after order) ideals) (first_changed channel (outbox_after order) reals)
ordered_where laws calls order channel low ideals reals stand (neither m) =
    rw (changed_nowhere channel (sent_after order) ideals m.ideal, changed_nowhere channel (outbox_after order) reals m.real) stand
ordered_where laws calls order channel low ideals reals stand (both s real first second keeps goes) =
    goes (sent_after order) (outbox_after order) (keeps_order laws order channel s real calls keeps)
ordered_where laws calls order channel low ideals reals stand (shut s last first second done keeps goes) =
    rw (changed_nowhere channel (outbox_after order) reals second) (goes (sent_after order) (keeps_order_gone laws order channel s last calls done keeps))

pub stand_ordered : WireLaws → (calls : List WireCall) (order : Order) (channel low : ℕ) (ideals : List (Row Wire)) (reals : List (Row OutboxValue)) → Stand by_wires calls low ideals reals
    → Stand by_wires calls low (first_changed channel (sent_after order) ideals) (first_changed channel (outbox_after order) reals)
stand_ordered laws calls order channel low ideals reals stand = ordered_where laws calls order channel low ideals reals stand (meets by_wires calls low ideals reals stand channel)

-- ---- a piece came: the outboxes stay

pieced_where : (calls : List WireCall) (bytes : List ℕ) (channel low : ℕ) (ideals : List (Row Wire)) (reals : List (Row OutboxValue)) → Stand by_wires calls low ideals reals
    → Meets by_wires calls low channel ideals reals → Stand by_wires calls low (first_changed channel (with_piece bytes) ideals) reals
pieced_where calls bytes channel low ideals reals stand (neither m) = rw (changed_nowhere channel (with_piece bytes) ideals m.ideal) stand
pieced_where calls bytes channel low ideals reals stand (both s real first second keeps goes) =
    subst (λ (rs : List (Row OutboxValue)). Stand by_wires calls low (first_changed channel (with_piece bytes) ideals) rs) (changed_same channel real reals second)
    (goes (with_piece bytes) (λ old. real) (keeps_piece channel bytes s real calls keeps))
pieced_where calls bytes channel low ideals reals stand (shut s last first second done keeps goes) = goes (with_piece bytes) (keeps_piece channel bytes s last calls keeps)

pub stand_pieced : (calls : List WireCall) (bytes : List ℕ) (channel low : ℕ) (ideals : List (Row Wire)) (reals : List (Row OutboxValue)) → Stand by_wires calls low ideals reals
    → Stand by_wires calls low (first_changed channel (with_piece bytes) ideals) reals
stand_pieced calls bytes channel low ideals reals stand = pieced_where calls bytes channel low ideals reals stand (meets by_wires calls low ideals reals stand channel)
