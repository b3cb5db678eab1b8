use Rattle.link_pool.proofs.Standing.{new_stands, stands_seen}
use Rattle.link_pool.proofs.pool.Pool.new.Goals as goal

pub returns : goal.returns
returns g c =
    stands_seen c.new.result.slots c.in_ok-ends.ends.items _
    (new_stands c.new.result.slots c.in_ok-ends.ends.items c.args.lists c.new.ensures.empty (c.in_ok-ends.ensures.items_if_clones_equal (λ y same. same)))
