use Rattle.std.proofs.Common.{ap, length, ◌∙◌, sym}
use Rattle.link_pool.proofs.Standing.{if_some, lists_same, room_same, stands_seen, stands_standing}
use Rattle.link_pool.proofs.Pushing.{push_done, push_fresh, push_length, push_room}
use Rattle.link_pool.proofs.pool.Pool.push.Goals as goal

pub invariant_of-self : goal.invariant_of-self
invariant_of-self g c =
    stands_standing _ _ _
    (push_done c.self.inside.nodes c.insert.new.self c.attach.new.nodes c.attach_second.new.nodes c.self.inside.ends.items c.attach.new.all.items c.attach_second.new.all.items c.args.self.now.lists c.args.list c.in-Ok.key c.args.second c.other_than-other.result c.args.item c.alone.result
    c.self.invariant (lists_same _ _ c.self.view_is) c.requires.list (if_some _ _ c.requires.second) c.other_than-other.ensures c.alone.ensures c.in-Ok.ensures.was_vacant c.in-Ok.ensures.updates c.attach.ensures.nodes c.attach.ensures.ends c.attach_second.ensures.nodes c.attach_second.ensures.ends)

pub returns-in-Ok-clause-pushed : goal.returns-in-Ok-clause-pushed
returns-in-Ok-clause-pushed g c =
    stands_seen _ _ _
    (push_done c.self.inside.nodes c.insert.new.self c.attach.new.nodes c.attach_second.new.nodes c.self.inside.ends.items c.attach.new.all.items c.attach_second.new.all.items c.args.self.now.lists c.args.list c.in-Ok.key c.args.second c.other_than-other.result c.args.item c.alone.result
    c.self.invariant (lists_same _ _ c.self.view_is) c.requires.list (if_some _ _ c.requires.second) c.other_than-other.ensures c.alone.ensures c.in-Ok.ensures.was_vacant c.in-Ok.ensures.updates c.attach.ensures.nodes c.attach.ensures.ends c.attach_second.ensures.nodes c.attach_second.ensures.ends)

pub returns-in-Ok-clause-fresh : goal.returns-in-Ok-clause-fresh
returns-in-Ok-clause-fresh g c =
    push_fresh c.self.inside.nodes c.self.inside.ends.items c.args.self.now.lists c.in-Ok.key c.self.invariant (lists_same _ _ c.self.view_is) c.in-Ok.ensures.was_vacant

pub returns-in-Ok-clause-room : goal.returns-in-Ok-clause-room
returns-in-Ok-clause-room g c =
    rw (sym (room_same _ _ c.self.view_is))
    (push_room c.self.inside.nodes c.insert.new.self c.attach.new.nodes c.attach_second.new.nodes c.self.inside.ends.items c.attach.new.all.items c.args.list c.in-Ok.key c.other_than-other.result
    c.in-Ok.ensures.len c.in-Ok.ensures.capacity c.attach.ensures.nodes c.attach.ensures.ends c.attach_second.ensures.nodes)

pub returns-in-Ok-clause-lists : goal.returns-in-Ok-clause-lists
returns-in-Ok-clause-lists g c =
    ap length (returns-in-Ok-clause-pushed g c) ∙ push_length c.args.list c.args.second (c.in-Ok.key, c.args.item) c.args.self.now.lists
