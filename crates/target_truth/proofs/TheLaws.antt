-- The laws of what the target tells, as terms.
use Rattle.target_truth.specs.Laws.{IsTrueAfterEachMessage}
use Rattle.target_truth.specs.Listening.{EachInputKeepsTruth, LaterListenersKnowTruth, ListenersKnowTruth}
use Rattle.target_truth.specs.StoredLaws.{IsWrittenAt}
use Rattle.target_truth.proofs.Later.{later_listeners_true}
use Rattle.target_truth.proofs.Stored.Alike as alike
use Rattle.target_truth.proofs.Truth.{each_input, listeners_true, told_true}

pub told_is_true : IsTrueAfterEachMessage
told_is_true = told_true

pub each_input_keeps_truth : EachInputKeepsTruth
each_input_keeps_truth = each_input

pub listeners_know_truth : ListenersKnowTruth
listeners_know_truth = listeners_true

pub later_listeners_know_truth : LaterListenersKnowTruth
later_listeners_know_truth = later_listeners_true

pub written_at : IsWrittenAt
written_at = alike.written_at
