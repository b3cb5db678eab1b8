use Rattle.rv32i_core.proofs.TheLaws.{beginnings_are_within, ends_are_signed, reads_are_words, results_stay_within, steps_stay_within, writes_stay_within}
use Rattle.rv32i_core.proofs.laws.the_machine_stays_within.Goals as goal

pub returns : goal.returns
returns c = record {
  steps = steps_stay_within;
  ends = ends_are_signed;
  reads = reads_are_words;
  writes = writes_stay_within;
  results = results_stay_within;
  beginnings = beginnings_are_within;
}
