use Rattle.std.proofs.Common.{◌+◌, ◌∷◌, drop, ap, sym, ◌∙◌, arith}
use Rattle.std.proofs.lemmas.List.{drop_more}
use Rattle.knowledge.specs.KnowledgeValue.{facts_of}
use Rattle.knowledge.proofs.Replies.{parts_step}
use Rattle.knowledge.proofs.knowledge.Knowledge.parts_bytes.Goals as goal

-- one part more
pub loop-location-preserved : goal.loop-location-preserved
loop-location-preserved c =
    let list = c.args.list.now in
    let at = c.loop-location.location-index in
    let item = c.location-item.result in
    parts_step (facts_of c.args.self.now) list at item c.loop-location.bytes c.add_part.new.bytes _
    (drop_more list at item (omega arith) ∙ ap (λ x. x ∷ drop (at + 1) list) (sym c.location-item.is)) c.in_ok-add_part.ensures c.loop-location.invariant
