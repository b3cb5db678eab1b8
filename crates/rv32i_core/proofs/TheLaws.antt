-- The laws of the machine, as terms.
use Rattle.rv32i_core.specs.Laws.{BeginningsAreWithin, EndsAreSigned, ReadsAreWords, ResultsStayWithin, StepsStayWithin, WritesStayWithin}
use Rattle.rv32i_core.proofs.Ends.{machine_signed}
use Rattle.rv32i_core.proofs.Steps.{answered_whole, begun_whole, machine_whole, read_below, written_whole}

pub steps_stay_within : StepsStayWithin
steps_stay_within = machine_whole

pub ends_are_signed : EndsAreSigned
ends_are_signed = machine_signed

pub reads_are_words : ReadsAreWords
reads_are_words = read_below

pub writes_stay_within : WritesStayWithin
writes_stay_within = written_whole

pub results_stay_within : ResultsStayWithin
results_stay_within = answered_whole

pub beginnings_are_within : BeginningsAreWithin
beginnings_are_within = begun_whole
