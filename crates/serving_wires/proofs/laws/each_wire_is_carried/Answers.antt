use Rattle.serving_wires.proofs.laws.each_wire_is_carried.Goals as goal

pub returns : goal.returns
returns c =
    let follows = c.an_outbox_is_what_is_left.ensures in
    let carried = c.what_is_flushed_is_carried.ensures in
    let placed = c.a_flush_is_in_place.ensures in
    let alone = c.a_flush_is_on_one_wire.ensures in
    record {
      begins = follows.begins;
      queueing = follows.queueing;
      closing = follows.closing;
      others = follows.others;
      flushing = follows.flushing;
      flushed = carried.flushed;
      shut = carried.shut;
      stays = carried.stays;
      carried = carried.carried;
      unused = carried.unused;
      in_place = placed.flushes;
      gives_up = placed.gives_up;
      on_one = alone.flushes;
      given_up_on = alone.gives_up;
      alone = alone.alone;
      once = alone.once;
    }
