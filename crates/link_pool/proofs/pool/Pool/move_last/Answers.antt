use Rattle.std.proofs.Common.{ap, sym, length, ◌∙◌}
use Rattle.link_pool.proofs.Standing.{lists_same, room_same, stands_seen, stands_standing}
use Rattle.link_pool.proofs.Moving.{move_done, move_length, move_room}
use Rattle.link_pool.proofs.pool.Pool.move_last.Goals as goal

pub invariant_of-self : goal.invariant_of-self
invariant_of-self g c =
    stands_standing _ _ _
    (move_done c.self.inside.nodes c.detach.new.nodes c.attach.new.nodes c.self.inside.ends.items c.detach.new.all.items c.attach.new.all.items c.args.self.now.lists c.args.list c.args.key c.in-Some.link
    c.self.invariant (lists_same _ _ c.self.view_is) (sym c.in-Some.ensures) c.detach.ensures.nodes c.detach.ensures.ends c.attach.ensures.nodes c.attach.ensures.ends)

pub returns-in-Some-clause-moved : goal.returns-in-Some-clause-moved
returns-in-Some-clause-moved g c =
    stands_seen _ _ _
    (move_done c.self.inside.nodes c.detach.new.nodes c.attach.new.nodes c.self.inside.ends.items c.detach.new.all.items c.attach.new.all.items c.args.self.now.lists c.args.list c.args.key c.in-Some.link
    c.self.invariant (lists_same _ _ c.self.view_is) (sym c.in-Some.ensures) c.detach.ensures.nodes c.detach.ensures.ends c.attach.ensures.nodes c.attach.ensures.ends)

pub returns-in-Some-clause-room : goal.returns-in-Some-clause-room
returns-in-Some-clause-room g c =
    move_room c.self.inside.nodes c.detach.new.nodes c.attach.new.nodes c.detach.new.all.items c.args.list c.args.key c.in-Some.link c.detach.ensures.nodes c.attach.ensures.nodes ∙ room_same _ _ c.self.view_is

pub returns-in-Some-clause-lists : goal.returns-in-Some-clause-lists
returns-in-Some-clause-lists g c =
    ap length (returns-in-Some-clause-moved g c) ∙ move_length c.args.list c.args.key c.args.self.now.lists
