-- The laws of a client, as terms.
use Rattle.client_node.specs.Ends.{EndIsRunAfterAnyCalls}
use Rattle.client_node.specs.Runs.{LogTellsPast, OnceAfterAnyCalls, ShownAfterAnyCalls}
use Rattle.client_node.proofs.Calls.{once_after}
use Rattle.client_node.proofs.Following.{end_is_run}
use Rattle.client_node.proofs.Shown.{shown_after}
use Rattle.client_node.proofs.Told.{tells_past}

pub answered_once : OnceAfterAnyCalls
answered_once = once_after

pub log_tells_past : LogTellsPast
log_tells_past = tells_past

pub clients_end_is_a_run : EndIsRunAfterAnyCalls
clients_end_is_a_run = end_is_run

pub shows_what_is_kept : ShownAfterAnyCalls
shows_what_is_kept = shown_after
