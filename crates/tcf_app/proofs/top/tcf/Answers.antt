use Rattle.tcf_app.specs.declared.exit.Exit.TheVariants.{Done, Usage, BadText, FileFault, WireFault, Turns, BadStream, Ended, TooLong, Differs}
use Rattle.tcf_app.proofs.Exits.{tells_at, usage_only_of, files_unharmed_of, heeded_of, spared_of, front_of, complete_of}
use Rattle.tcf_app.proofs.Served.{out_of}
use Rattle.tcf_app.proofs.top.tcf.Goals as goal

pub returns-clause-done : goal.returns-clause-done
returns-clause-done g c =
    λ is. tells_at _ _ _ _ _ _ _ _ c.run_words.ensures.runs Done is

pub returns-clause-turns : goal.returns-clause-turns
returns-clause-turns g c =
    λ is. tells_at _ _ _ _ _ _ _ _ c.run_words.ensures.runs Turns is

pub returns-clause-ended : goal.returns-clause-ended
returns-clause-ended g c =
    λ cause is. tells_at _ _ _ _ _ _ _ _ c.run_words.ensures.runs (Ended cause) is

pub returns-clause-wire_fault : goal.returns-clause-wire_fault
returns-clause-wire_fault g c =
    λ is. (tells_at _ _ _ _ _ _ _ _ c.run_words.ensures.runs WireFault is).0

pub returns-clause-wire_fault_calls : goal.returns-clause-wire_fault_calls
returns-clause-wire_fault_calls g c =
    λ is. (tells_at _ _ _ _ _ _ _ _ c.run_words.ensures.runs WireFault is).1

pub returns-clause-usage : goal.returns-clause-usage
returns-clause-usage g c =
    λ is. (tells_at _ _ _ _ _ _ _ _ c.run_words.ensures.runs Usage is).0

pub returns-clause-usage_text : goal.returns-clause-usage_text
returns-clause-usage_text g c =
    λ is. (tells_at _ _ _ _ _ _ _ _ c.run_words.ensures.runs Usage is).1

pub returns-clause-bad_text : goal.returns-clause-bad_text
returns-clause-bad_text g c =
    λ bad is. tells_at _ _ _ _ _ _ _ _ c.run_words.ensures.runs (BadText bad.line bad.what) is

pub returns-clause-differs : goal.returns-clause-differs
returns-clause-differs g c =
    λ rule is. tells_at _ _ _ _ _ _ _ _ c.run_words.ensures.runs (Differs rule) is

pub returns-clause-bad_stream : goal.returns-clause-bad_stream
returns-clause-bad_stream g c =
    λ bad is. tells_at _ _ _ _ _ _ _ _ c.run_words.ensures.runs (BadStream bad.offset bad.what) is

pub returns-clause-too_long : goal.returns-clause-too_long
returns-clause-too_long g c =
    λ word is. tells_at _ _ _ _ _ _ _ _ c.run_words.ensures.runs (TooLong word) is

pub returns-clause-file_fault : goal.returns-clause-file_fault
returns-clause-file_fault g c =
    λ is. (tells_at _ _ _ _ _ _ _ _ c.run_words.ensures.runs FileFault is).0.counts

pub returns-clause-file_fault_last : goal.returns-clause-file_fault_last
returns-clause-file_fault_last g c =
    λ is. (tells_at _ _ _ _ _ _ _ _ c.run_words.ensures.runs FileFault is).0

pub returns-clause-file_fault_text : goal.returns-clause-file_fault_text
returns-clause-file_fault_text g c =
    λ is. (tells_at _ _ _ _ _ _ _ _ c.run_words.ensures.runs FileFault is).1

pub returns-clause-files_unharmed : goal.returns-clause-files_unharmed
returns-clause-files_unharmed g c =
    files_unharmed_of _ _ _ _ _ _ _ _ c.run_words.ensures.runs

pub returns-clause-wires_heeded : goal.returns-clause-wires_heeded
returns-clause-wires_heeded g c =
    heeded_of _ _ _ _ _ _ _ _ c.run_words.ensures.runs

pub returns-clause-wires_spared : goal.returns-clause-wires_spared
returns-clause-wires_spared g c =
    spared_of _ _ _ _ _ _ _ _ c.run_words.ensures.runs

pub returns-clause-given_up : goal.returns-clause-given_up
returns-clause-given_up g c =
    λ up. front_of _ _ _ _ _ _ _ _ c.run_words.ensures.runs

pub returns-clause-usage_only : goal.returns-clause-usage_only
returns-clause-usage_only g c =
    usage_only_of _ _ _ _ _ _ _ _ c.run_words.ensures.runs

pub returns-clause-complete : goal.returns-clause-complete
returns-clause-complete g c =
    complete_of _ _ _ _ _ _ _ _ c.run_words.ensures.runs c.run_words.ensures.fault

pub returns-clause-served : goal.returns-clause-served
returns-clause-served g c =
    out_of _ _ _ _ _ _ _ _ c.run_words.ensures.runs
