use Rattle.link_pool.specs.Lists.{rows_of}
use Rattle.block_store.specs.Walks.{fits}
use Rattle.block_store.proofs.Walked.{looks_end, looks_less, looks_next}
use Rattle.block_store.proofs.Spare.{none_by_cases}
use Rattle.block_store.proofs.filing.last_wanted.Goals as goal

pub loop-at-smaller : goal.loop-at-smaller
loop-at-smaller c =
    looks_less (fits c.args.wanted.now) c.loop-at.at c.loop-at.found c.after-at.result c.in-Some.key c.args.pool.now.lists c.args.list c.loop-at.invariant c.in-Some.is c.first-at.ensures.whole c.after-at.ensures

pub loop-at-preserved : goal.loop-at-preserved
loop-at-preserved c =
    looks_next (fits c.args.wanted.now) c.loop-at.at c.loop-at.found c.after-at.result c.newer-found.result c.in-Some.key c.fits_at.result c.args.pool.now.lists c.args.list c.loop-at.invariant c.in-Some.is c.first-at.ensures.whole c.fits_at.ensures.value c.newer-found.ensures c.after-at.ensures

pub returns : goal.returns
returns c =
    looks_end (fits c.args.wanted.now) c.loop-at.at c.loop-at.found (rows_of c.args.list c.args.pool.now.lists) c.loop-at.invariant (none_by_cases c.loop-at.at c.in_default.not-Some)
