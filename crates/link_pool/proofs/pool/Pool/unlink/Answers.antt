use Rattle.std.proofs.Common.{ap, sym, length, ◌∙◌}
use Rattle.std.proofs.lemmas.List.{length-map}
use Rattle.link_pool.specs.Rows.{without}
use Rattle.link_pool.proofs.Standing.{standing_as, lists_same, room_same, stands_seen, stands_standing}
use Rattle.link_pool.proofs.Whole.{found_item, no_item, is_whole, unlinked_free}
use Rattle.link_pool.proofs.Unlinking.{unlink_done, unlink_room}
use Rattle.link_pool.proofs.pool.Pool.unlink.Goals as goal

pub returns-in_err-item-clause-value : goal.returns-in_err-item-clause-value
returns-in_err-item-clause-value g c =
    let stands = standing_as _ _ _ c.self.invariant (lists_same _ _ c.self.view_is) in
    rw c.from_residual.ensures (sym (no_item c.self.inside.nodes c.self.inside.ends.items c.args.self.now.lists stands c.args.key (sym c.in_err-item.ensures.value)))

pub returns-in_err-item-clause-left : goal.returns-in_err-item-clause-left
returns-in_err-item-clause-left g c =
    let seen = lists_same _ _ c.self.view_is in
    let stands = standing_as _ _ _ c.self.invariant seen in
    rw c.in_err-item.ensures.absent (seen ∙ sym (unlinked_free c.self.inside.nodes c.self.inside.ends.items c.args.self.now.lists stands c.args.key (sym c.in_err-item.ensures.value)))

pub returns-in_err-item-clause-whole : goal.returns-in_err-item-clause-whole
returns-in_err-item-clause-whole g c =
    is_whole c.self.inside.nodes c.self.inside.ends.items c.args.self.now.lists (standing_as _ _ _ c.self.invariant (lists_same _ _ c.self.view_is))

pub invariant_of-self-2 : goal.invariant_of-self-2
invariant_of-self-2 g c =
    stands_standing _ _ _
    (unlink_done c.self.inside.nodes c.try_remove.new.self c.detach.new.nodes c.detach_second.new.nodes c.self.inside.ends.items c.detach.new.all.items c.detach_second.new.all.items c.args.self.now.lists c.args.key c.in_ok-item.field-0
    c.self.invariant (lists_same _ _ c.self.view_is) (sym c.in_ok-item.ensures.value) c.in_ok-item.ensures.updates c.detach.ensures.nodes c.detach.ensures.ends c.detach_second.ensures.nodes c.detach_second.ensures.ends)

pub returns-clause-value : goal.returns-clause-value
returns-clause-value g c =
    sym (found_item c.self.inside.nodes c.self.inside.ends.items c.args.self.now.lists (standing_as _ _ _ c.self.invariant (lists_same _ _ c.self.view_is)) c.args.key c.in_ok-item.field-0 (sym c.in_ok-item.ensures.value))

pub returns-clause-left : goal.returns-clause-left
returns-clause-left g c =
    stands_seen _ _ _
    (unlink_done c.self.inside.nodes c.try_remove.new.self c.detach.new.nodes c.detach_second.new.nodes c.self.inside.ends.items c.detach.new.all.items c.detach_second.new.all.items c.args.self.now.lists c.args.key c.in_ok-item.field-0
    c.self.invariant (lists_same _ _ c.self.view_is) (sym c.in_ok-item.ensures.value) c.in_ok-item.ensures.updates c.detach.ensures.nodes c.detach.ensures.ends c.detach_second.ensures.nodes c.detach_second.ensures.ends)

pub returns-clause-room : goal.returns-clause-room
returns-clause-room g c =
    rw (sym (room_same _ _ c.self.view_is))
    (unlink_room c.self.inside.nodes c.try_remove.new.self c.detach.new.nodes c.detach_second.new.nodes c.in_ok-item.field-0.main c.in_ok-item.field-0.second c.in_ok-item.ensures.len c.try_remove.ensures.capacity c.in_ok-item.ensures.room c.detach.ensures.nodes c.detach_second.ensures.nodes)

pub returns-clause-lists : goal.returns-clause-lists
returns-clause-lists g c = ap length (returns-clause-left g c) ∙ length-map c.args.self.now.lists (without c.args.key)

pub returns-clause-whole : goal.returns-clause-whole
returns-clause-whole g c =
    is_whole c.self.inside.nodes c.self.inside.ends.items c.args.self.now.lists (standing_as _ _ _ c.self.invariant (lists_same _ _ c.self.view_is))
