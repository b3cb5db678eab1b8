-- All laws of one wire together.
use Rattle.serving_wires.specs.Laws.{BeginsToFollow, FlushedIsCarried, FlushesAll, FlushesInPlace, FlushesOneWire, FollowsClosing, FollowsFlushing, FollowsOthers, FollowsQueueing, GivesUpInPlace, GivesUpOneWire, OneWireAlone, PutsOnce, ShutIsFlushed, StaysFlushed, UnusedIsCarried}

pub record WireLaws : Type 0 where
  pub begins : BeginsToFollow
  pub queueing : FollowsQueueing
  pub closing : FollowsClosing
  pub others : FollowsOthers
  pub flushing : FollowsFlushing
  pub flushed : FlushesAll
  pub shut : ShutIsFlushed
  pub stays : StaysFlushed
  pub carried : FlushedIsCarried
  pub unused : UnusedIsCarried
  pub in_place : FlushesInPlace
  pub gives_up : GivesUpInPlace
  pub on_one : FlushesOneWire
  pub given_up_on : GivesUpOneWire
  pub alone : OneWireAlone
  pub once : PutsOnce
