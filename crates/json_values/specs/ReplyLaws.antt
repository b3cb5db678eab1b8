-- What is written of a process, a report, a range, an instance and a status is read as it.
use Rattle.std.proofs.Common.{◌≡◌, ℕ, ◌≤◌, List, rules, arith, ap, sym}
use Rattle.std.specs.Prelude.{false, Some}
use Rattle.serde_json.specs.Data.{depth}
use Rattle.serde_json.specs.Written.{has_float}
use Rattle.json_values.specs.ListLaws.{list_back, list_plain, list_shallow}
use Rattle.json_values.specs.PlainLaws.{whole_back, whole_plain}
use Rattle.json_values.specs.Processes.{process_json, process_in}
use Rattle.json_values.specs.Ranges.{range_json, range_in}
use Rattle.json_values.specs.Reports.{report_json, report_in}
use Rattle.json_values.specs.Statuses.{IsCount, IsInstance, IsPlace, IsStatus, instance_json, instance_in, status_json, status_in}
use Rattle.json_values.specs.WordLaws.{word_back}
use Rattle.tcf_values.specs.declared.errors.ErrorReport.{ErrorReport}
use Rattle.tcf_values.specs.declared.values.BpStatus.{BpStatus}
use Rattle.tcf_values.specs.declared.values.Instance.{Instance}
use Rattle.tcf_values.specs.declared.values.Place.{Place}
use Rattle.tcf_values.specs.declared.values.Place.TheVariants.{Address, Error}
use Rattle.tcf_values.specs.declared.values.ProcessData.{ProcessData}
use Rattle.tcf_values.specs.declared.values.Range.{Range}

pub process_back : (process : ProcessData) → process_in (process_json process) ≡ Some process
process_back process = search rules

pub process_plain : (process : ProcessData) → has_float (process_json process) ≡ false
process_plain process = search rules

pub process_shallow : (process : ProcessData) → depth (process_json process) ≤ 1
process_shallow process = search rules

pub report_back : (report : ErrorReport) → report_in (report_json report) ≡ Some report
report_back report = rw (whole_back report.code)

pub report_plain : (report : ErrorReport) → has_float (report_json report) ≡ false
report_plain report = rw (whole_plain report.code)

pub report_shallow : (report : ErrorReport) → depth (report_json report) ≤ 1
report_shallow report = search rules

pub range_back : (range : Range) → range_in (range_json range) ≡ Some range
range_back range = search (rules, whole_back)

pub range_plain : (range : Range) → has_float (range_json range) ≡ false
range_plain range = rw (whole_plain range.addr, whole_plain range.size)

pub range_shallow : (range : Range) → depth (range_json range) ≤ 1
range_shallow range = search rules

place_back : (place : Place) (count : ℕ) (context : List ℕ) → IsPlace place → IsCount place count
    → instance_in (instance_json (record { context = context; place = place; count = count })) ≡ Some (record { context = context; place = place; count = count })
place_back (Address address) count context small few = rw (word_back address small, word_back count few)
place_back (Error error) count context small none = ap (λ n. Some (record { context = context; place = Error error; count = n })) (sym none)

pub instance_back : (instance : Instance) → IsInstance instance → instance_in (instance_json instance) ≡ Some instance
instance_back instance is = place_back instance.place instance.count instance.context is.0 is.1

place_plain : (place : Place) (count : ℕ) (context : List ℕ) → has_float (instance_json (record { context = context; place = place; count = count })) ≡ false
place_plain (Address address) count context = search rules
place_plain (Error error) count context = search rules

pub instance_plain : (instance : Instance) → has_float (instance_json instance) ≡ false
instance_plain instance = place_plain instance.place instance.count instance.context

place_shallow : (place : Place) (count : ℕ) (context : List ℕ) → depth (instance_json (record { context = context; place = place; count = count })) ≤ 1
place_shallow (Address address) count context = search rules
place_shallow (Error error) count context = search rules

pub instance_shallow : (instance : Instance) → depth (instance_json instance) ≤ 1
instance_shallow instance = place_shallow instance.place instance.count instance.context

instances_back : (instances : List Instance) → IsStatus (record { instances = instances }) → status_in (status_json (record { instances = instances })) ≡ Some (record { instances = instances })
instances_back instances is = rw (list_back instance_json instance_in IsInstance instance_back instances is)

pub status_back : (status : BpStatus) → IsStatus status → status_in (status_json status) ≡ Some status
status_back status is = instances_back status.instances is

pub status_plain : (status : BpStatus) → has_float (status_json status) ≡ false
status_plain status = rw (list_plain instance_json instance_plain status.instances)

pub status_shallow : (status : BpStatus) → depth (status_json status) ≤ 3
status_shallow status = let all = list_shallow instance_json 1 instance_shallow status.instances in omega arith
