-- What becomes of a process is done in two steps: its thread gets its state, and then what is left is done and told.
use Rattle.std.proofs.Common.{◌≡◌, ℕ, ◌<◌, ◌++◌, nat_eq, nat_lt, cond, List, length, slice_get, slice_set, Option, Some, None, option_and_then, option_map, refl, sym, ◌∙◌, ap}
use Rattle.std.specs.List.{position_or_len}
use Rattle.std.specs.Option.{option_map_or}
use Rattle.std.proofs.lemmas.List.{get_or-set_same, length-set, set-set}
use Rattle.std.proofs.lemmas.List.Folds.{position_or_len-set}
use Rattle.std.proofs.lemmas.List.Quantifiers.{position-Some}
use Rattle.std.proofs.lemmas.Option.{get_or_from_slice_get, slice_get_read}
use Rattle.tcf_values.specs.declared.answer.Answer.TheVariants.{Count}
use Rattle.tcf_values.specs.declared.effect.Effect.{Effect}
use Rattle.tcf_values.specs.declared.event.EventData.{EventData}
use Rattle.breakpoints.specs.declared.rows.Placed.{Placed}
use Rattle.target_contexts.specs.Changes.{with_change, with_change_at}
use Rattle.target_contexts.specs.Live.{place_of, process_of, with_at, with_process, with_row}
use Rattle.target_contexts.specs.Named.{runs}
use Rattle.target_contexts.specs.ProcessValue.{ProcessValue}
use Rattle.target_contexts.specs.TargetsValue.{TargetsValue}
use Rattle.target_contexts.specs.Threads.{in_thread, thread_at, thread_count}
use Rattle.run_control.specs.Commands.{trace_given}
use Rattle.run_control.specs.Executing.{settled, settled_events, stepped}
use Rattle.run_control.specs.Settling.{finished, finished_events, settled_as, settled_in}
use Rattle.run_control.specs.Steering.{with_state}
use Rattle.run_control.specs.TargetValue.{TargetValue, target_of}
use Rattle.run_control.specs.Telling.{hit_events, made_events, suspended_events}
use Rattle.run_control.specs.Ticking.{counts_after, tick_fate, tick_process, tick_settled, ticked, ticked_at, ticked_events, ticked_events_at}
use Rattle.run_control.specs.Tracing.{Trace, addresses_at, trace_addresses, trace_after, trace_events, trace_fate, trace_of, traced_at, traced_events_at, traced_of, traced_process}
use Rattle.run_control.specs.declared.executing.Fate.{Fate}
use Rattle.run_control.specs.declared.executing.Fate.TheVariants.{Ends, Lives}
use Rattle.run_control.specs.declared.executing.Settled.{Settled}
use Rattle.run_control.specs.declared.tracing.Traced.{Traced}
use Rattle.target_contexts.proofs.TheLaws.{changes_one}
use Rattle.run_control.proofs.Changed.{live_found}

-- ---- a process that is written twice is as it is written last

twice_row : (number place : ℕ) (p q : ProcessValue) (rows : List (ℕ × ProcessValue)) (row : Option (ℕ × ProcessValue)) → place_of number rows ≡ Some place → slice_get rows place ≡ row
    → with_process number q (with_row p rows place row) ≡ with_row q rows place row
twice_row number place p q rows None found read = ap (with_at q rows) found ∙ ap (with_row q rows place) read
twice_row number place p q rows (Some row) found read =
    let is = λ (r : ℕ × ProcessValue). nat_eq r.0 number in
    let one : ℕ × ProcessValue = (row.0, p) in
    let new : List (ℕ × ProcessValue) = slice_set rows place one in
    let within : place < length rows = (position-Some is rows place row found).0 in
    let long : length new ≡ length rows = length-set rows place one in
    let same : position_or_len is new ≡ position_or_len is rows = position_or_len-set is rows place one row (ap is (sym (get_or_from_slice_get rows place row row read))) in
    let stays : place_of number new ≡ Some place =
    ap (λ n. cond (nat_lt n (length new)) (Some n) None) same ∙ ap (λ n. cond (nat_lt (position_or_len is rows) n) (Some (position_or_len is rows)) None) long ∙ found in
    ap (with_at q new) stays
    ∙ ap (with_row q new place) (slice_get_read new (length rows) place one (sym long) within (sym (get_or-set_same rows place one one within)))
    ∙ set-set rows place one (row.0, q)

twice_at : (number : ℕ) (p q : ProcessValue) (rows : List (ℕ × ProcessValue)) (place : Option ℕ) → place_of number rows ≡ place → with_process number q (with_at p rows place) ≡ with_at q rows place
twice_at number p q rows None found = ap (with_at q rows) found
twice_at number p q rows (Some place) found = twice_row number place p q rows (slice_get rows place) found refl

twice : (number : ℕ) (p q : ProcessValue) (rows : List (ℕ × ProcessValue)) → with_process number q (with_process number p rows) ≡ with_process number q rows
twice number p q rows = twice_at number p q rows (place_of number rows) refl

-- ---- the two steps are the one that the definitions have

abbrev with_one : ℕ → ProcessValue → TargetsValue → TargetsValue
with_one number process targets = record targets { processes = with_process number process targets.processes }

written : (number : ℕ) (p q : ProcessValue) (targets : TargetsValue) → process_of number targets.processes ≡ Some p → process_of number (with_one number q targets).processes ≡ Some q
written number p q targets there = (changes_one targets.processes number q (live_found number targets.processes p there)).0

changed_there : (change : ProcessValue → ProcessValue) (number : ℕ) (p : ProcessValue) (targets : TargetsValue) → process_of number targets.processes ≡ Some p → with_change change number targets ≡ with_one number (change p) targets
changed_there change number p targets there = ap (λ (o : Option ProcessValue). with_change_at change number o targets) there

then_changed : (change : ProcessValue → ProcessValue) (number : ℕ) (p q : ProcessValue) (targets : TargetsValue) → process_of number targets.processes ≡ Some p
    → with_change change number (with_one number q targets) ≡ with_one number (change q) targets
then_changed change number p q targets there =
    changed_there change number q (with_one number q targets) (written number p q targets there)
    ∙ ap (λ (rows : List (ℕ × ProcessValue)). record targets { processes = rows }) (twice number q (change q) targets.processes)

-- the process p is q after the instructions
finishes : (number n before : ℕ) (p q : ProcessValue) (fate : Fate) (targets : TargetsValue) (bps : List Placed) → process_of number targets.processes ≡ Some p
    → finished number (settled_as number n before fate (settled_in n fate q)) (target_of (with_one number (settled_in n fate q) targets) bps) ≡ settled number n fate (target_of (with_one number q targets) bps)
finishes number n before p q (Ends code) targets bps there = refl
finishes number n before p q (Lives state hits) targets bps there =
    sym (ap (λ (ts : TargetsValue). target_of ts bps) (then_changed (in_thread (with_state state) n) number p q targets there))

tells : (number n before : ℕ) (p q : ProcessValue) (fate : Fate) (targets : TargetsValue) (bps : List Placed) → process_of number targets.processes ≡ Some p
    → let left = settled_as number n before fate (settled_in n fate q) in
    let after = finished number left (target_of (with_one number (settled_in n fate q) targets) bps) in
    finished_events number left after ≡ settled_events number n before fate after
tells number n before p q (Ends code) targets bps there = refl
tells number n before p q (Lives state hits) targets bps there =
    let r : ProcessValue = in_thread (with_state state) n q in
    let after : TargetValue = target_of (with_one number r targets) bps in
    ap (λ (o : Option ProcessValue). (made_events number before o ++ suspended_events number n (option_and_then (thread_at n) o)) ++ hit_events (runs state) hits after)
    (sym (written number p r targets there))

-- ---- a tick

some_left : (left found : Settled) → ◌≡◌ {A = Option Settled} (Some left) (Some found) → left ≡ found
some_left left found is = cc

tick_finishes : (number n : ℕ) (left : Settled) (targets later : TargetsValue) (bps counts : List Placed) (found : Option ProcessValue) → process_of number targets.processes ≡ found
    → Some left ≡ option_map (tick_settled bps number n) found → later ≡ with_change_at (tick_process bps number n) number found targets → counts ≡ option_map_or (counts_after bps number n) found bps
    → finished number left (target_of later counts) ≡ ticked_at number n found (target_of targets bps)
tick_finishes number n left targets later bps counts None there is changed counted = absurd cc
tick_finishes number n left targets later bps counts (Some p) there is changed counted =
    let fate : Fate = tick_fate bps number n p in
    ap (λ (s : Settled). finished number s (target_of later counts)) (some_left left _ is)
    ∙ ap (λ (ts : TargetsValue). finished number (tick_settled bps number n p) (target_of ts counts)) changed
    ∙ ap (λ (bs : List Placed). finished number (tick_settled bps number n p) (target_of (with_one number (tick_process bps number n p) targets) bs)) counted
    ∙ finishes number n (thread_count p) p (stepped n p) fate targets (counts_after bps number n p) there
    ∙ ap (λ (ts : TargetsValue). settled number n fate (target_of ts (counts_after bps number n p))) (sym (changed_there (stepped n) number p targets there))

tick_tells : (number n : ℕ) (left : Settled) (targets later : TargetsValue) (bps counts : List Placed) (found : Option ProcessValue) → process_of number targets.processes ≡ found
    → Some left ≡ option_map (tick_settled bps number n) found → later ≡ with_change_at (tick_process bps number n) number found targets
    → finished_events number left (finished number left (target_of later counts)) ≡ ticked_events_at bps number n found (finished number left (target_of later counts))
tick_tells number n left targets later bps counts None there is changed = absurd cc
tick_tells number n left targets later bps counts (Some p) there is changed =
    let fate : Fate = tick_fate bps number n p in
    let whole = λ (s : Settled) (ts : TargetsValue). finished_events number s (finished number s (target_of ts counts)) in
    let events = λ (s : Settled) (ts : TargetsValue). settled_events number n (thread_count p) fate (finished number s (target_of ts counts)) in
    let s : Settled = tick_settled bps number n p in
    let same : left ≡ s = some_left left s is in
    ap (λ (r : Settled). whole r later) same ∙ ap (whole s) changed
    ∙ tells number n (thread_count p) p (stepped n p) fate targets counts there
    ∙ sym (ap (λ (r : Settled). events r later) same ∙ ap (events s) changed)

-- what is left to be done after the instruction makes the tick
pub tick_after_is : (number n : ℕ) (left : Settled) (targets later : TargetsValue) (bps counts : List Placed) (after : TargetValue) → Some left ≡ option_map (tick_settled bps number n) (process_of number targets.processes)
    → later ≡ with_change (tick_process bps number n) number targets → counts ≡ option_map_or (counts_after bps number n) (process_of number targets.processes) bps
    → after ≡ finished number left (target_of later counts) → after ≡ ticked number n (target_of targets bps)
tick_after_is number n left targets later bps counts after is changed counted done =
    done ∙ tick_finishes number n left targets later bps counts (process_of number targets.processes) refl is changed counted

pub tick_events_are : (number n : ℕ) (left : Settled) (targets later : TargetsValue) (bps counts : List Placed) (after : TargetValue) (events : List EventData) → Some left ≡ option_map (tick_settled bps number n) (process_of number targets.processes)
    → later ≡ with_change (tick_process bps number n) number targets → counts ≡ option_map_or (counts_after bps number n) (process_of number targets.processes) bps
    → after ≡ finished number left (target_of later counts) → events ≡ finished_events number left after → events ≡ ticked_events number n (target_of targets bps)
tick_events_are number n left targets later bps counts after events is changed counted done told =
    let found : Option ProcessValue = process_of number targets.processes in
    told ∙ ap (finished_events number left) done
    ∙ tick_tells number n left targets later bps counts found refl is changed
    ∙ ap (ticked_events_at bps number n found) (tick_finishes number n left targets later bps counts found refl is changed counted)

-- ---- a trace

some_traced : (done found : Traced) → ◌≡◌ {A = Option Traced} (Some done) (Some found) → done ≡ found
some_traced done found is = cc

trace_finishes : (number n count : ℕ) (done : Traced) (targets later : TargetsValue) (bps : List Placed) (found : Option ProcessValue) → process_of number targets.processes ≡ found
    → Some done ≡ option_map (traced_of bps number n count) found → later ≡ with_change_at (traced_process bps number n count) number found targets
    → finished number done.settled (target_of later bps) ≡ traced_at number n count found (target_of targets bps)
trace_finishes number n count done targets later bps None there is changed = absurd cc
trace_finishes number n count done targets later bps (Some p) there is changed =
    let trace : Trace = trace_of bps number n count p in
    let fate : Fate = trace_fate p trace in
    let left : Settled = (traced_of bps number n count p).settled in
    ap (λ (d : Traced). finished number d.settled (target_of later bps)) (some_traced done _ is)
    ∙ ap (λ (ts : TargetsValue). finished number left (target_of ts bps)) changed
    ∙ finishes number n (thread_count p) p trace.process fate targets bps there
    ∙ ap (λ (ts : TargetsValue). settled number n fate (target_of ts bps)) (sym (changed_there (λ q. trace.process) number p targets there))

trace_tells : (number n count : ℕ) (done : Traced) (targets later : TargetsValue) (bps : List Placed) (found : Option ProcessValue) → process_of number targets.processes ≡ found
    → Some done ≡ option_map (traced_of bps number n count) found → later ≡ with_change_at (traced_process bps number n count) number found targets
    → finished_events number done.settled (finished number done.settled (target_of later bps)) ≡ traced_events_at bps number n count found (finished number done.settled (target_of later bps))
trace_tells number n count done targets later bps None there is changed = absurd cc
trace_tells number n count done targets later bps (Some p) there is changed =
    let trace : Trace = trace_of bps number n count p in
    let fate : Fate = trace_fate p trace in
    let whole = λ (s : Settled) (ts : TargetsValue). finished_events number s (finished number s (target_of ts bps)) in
    let events = λ (s : Settled) (ts : TargetsValue). settled_events number n (thread_count p) fate (finished number s (target_of ts bps)) in
    let s : Settled = (traced_of bps number n count p).settled in
    let same : done.settled ≡ s = ap (λ (d : Traced). d.settled) (some_traced done _ is) in
    ap (λ (r : Settled). whole r later) same ∙ ap (whole s) changed
    ∙ tells number n (thread_count p) p trace.process fate targets bps there
    ∙ sym (ap (λ (r : Settled). events r later) same ∙ ap (events s) changed)

-- what is left to be done after the instructions makes the trace
pub trace_after_is : (number n count : ℕ) (done : Traced) (targets later : TargetsValue) (bps : List Placed) (after : TargetValue) → Some done ≡ option_map (traced_of bps number n count) (process_of number targets.processes)
    → later ≡ with_change (traced_process bps number n count) number targets → after ≡ finished number done.settled (target_of later bps) → after ≡ trace_after count number n (target_of targets bps)
trace_after_is number n count done targets later bps after is changed does =
    does ∙ trace_finishes number n count done targets later bps (process_of number targets.processes) refl is changed

trace_events_are : (number n count : ℕ) (done : Traced) (targets later : TargetsValue) (bps : List Placed) (after : TargetValue) (events : List EventData)
    → Some done ≡ option_map (traced_of bps number n count) (process_of number targets.processes) → later ≡ with_change (traced_process bps number n count) number targets
    → after ≡ finished number done.settled (target_of later bps) → events ≡ finished_events number done.settled after → events ≡ trace_events count number n (target_of targets bps) after
trace_events_are number n count done targets later bps after events is changed does told =
    let found : Option ProcessValue = process_of number targets.processes in
    told ∙ ap (finished_events number done.settled) does
    ∙ trace_tells number n count done targets later bps found refl is changed
    ∙ ap (traced_events_at bps number n count found) (sym does)

addresses_are : (number n count : ℕ) (done : Traced) (bps : List Placed) (found : Option ProcessValue) → Some done ≡ option_map (traced_of bps number n count) found → done.addresses ≡ addresses_at bps number n count found
addresses_are number n count done bps None is = absurd cc
addresses_are number n count done bps (Some p) is = ap (λ (d : Traced). d.addresses) (some_traced done _ is)

abbrev effect_of : List EventData → List ℕ → ℕ → Effect
effect_of events addresses executed = record { events = events; progress = addresses; answer = Count executed }

pub trace_effect_is : (number n count executed : ℕ) (done : Traced) (targets later : TargetsValue) (bps : List Placed) (after : TargetValue) (events : List EventData)
    → Some done ≡ option_map (traced_of bps number n count) (process_of number targets.processes) → later ≡ with_change (traced_process bps number n count) number targets
    → after ≡ finished number done.settled (target_of later bps) → events ≡ finished_events number done.settled after → executed ≡ length done.addresses
    → effect_of events done.addresses executed ≡ trace_given count (Some (number, n)) (target_of targets bps) after
trace_effect_is number n count executed done targets later bps after events is changed does told counted =
    let target : TargetValue = target_of targets bps in
    let same : done.addresses ≡ trace_addresses count number n target = addresses_are number n count done bps (process_of number targets.processes) is in
    ap (λ (es : List EventData). effect_of es done.addresses executed) (trace_events_are number n count done targets later bps after events is changed does told)
    ∙ ap (λ m. effect_of (trace_events count number n target after) done.addresses m) counted
    ∙ ap (λ (ns : List ℕ). effect_of (trace_events count number n target after) ns (length ns)) same
