use Rattle.std.proofs.Common.{◌+◌, List, ℕ, take, drop, arith, rules, sym, subst}
use Rattle.knowledge.specs.KnowledgeValue.{IsAfter}
use Rattle.knowledge.specs.Rows.{parts_read, whole_read}
use Rattle.knowledge.proofs.Steps.{IsLeft, part_next, part_refused, parts_done}
use Rattle.knowledge.proofs.knowledge.Knowledge.read_parts.Goals as goal

pub loop-location-preserved : goal.loop-location-preserved
loop-location-preserved c =
    let at = c.loop-location.location-index in
    let rest = c.loop-location.rest.now in
    let item = c.location-item.result in
    let done : IsAfter (whole_read item.register (take c.in-Some.size rest)) c.loop-location.self c.read_whole.new.self = search rules in
    subst (λ (bytes : List ℕ). IsLeft (parts_read (drop (at + 1) c.args.list.now) bytes) (parts_read c.args.list.now c.args.bytes.now) c.read_whole.new.self c.args.self.now)
    (sym c.behind-rest.ensures)
    (part_next c.args.list.now at item c.in-Some.size rest (omega arith) c.location-item.is c.in-Some.ensures.part c.in-Some.ensures.size done c.loop-location.invariant)

pub returns-in-None : goal.returns-in-None
returns-in-None c =
    part_refused c.args.list.now c.loop-location.location-index c.location-item.result c.loop-location.rest.now (omega arith) c.location-item.is c.in-None.ensures.none c.loop-location.invariant

pub returns : goal.returns
returns c = parts_done c.args.list.now c.loop-location.location-index c.loop-location.rest.now (omega arith) c.loop-location.invariant
