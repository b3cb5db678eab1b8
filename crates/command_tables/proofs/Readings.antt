-- What the data of a command is read as is a reading of its names.
use Rattle.std.proofs.Common.{◌≡◌, ℕ, ◌+◌, Bool, true, false, cond, List, drop, Option, Some, None, Result, Ok, Err, refl, sym, ap, ◌∙◌, subst}
use Rattle.std.specs.Prelude.{ℤ, IfOk, IsSome, slice_get}
use Rattle.std.specs.List.{AllByRecursion}
use Rattle.json_args.specs.Kinds.{IsWhole, whole_in}
use Rattle.json_args.specs.Parts.{parts_of}
use Rattle.json_args.specs.declared.fault.ArgFault.{ArgFault}
use Rattle.json_args.specs.declared.fault.ArgFault.TheVariants.{NotEnded, Missing, Syntax, Shape, Base64, NoMemory}
use Rattle.json_values.specs.Lists.{list_in}
use Rattle.json_values.specs.Locations.{IsLocation, location_in}
use Rattle.json_values.specs.Props.{bp_in, is_bp}
use Rattle.service_names.specs.Commands.{name_in, named_as}
use Rattle.service_names.specs.declared.commands.CommandName.{CommandName}
use Rattle.service_names.specs.declared.commands.CommandName.TheVariants as service
use Rattle.service_names.specs.declared.commands.LocatorCommand.{LocatorCommand}
use Rattle.service_names.specs.declared.commands.LocatorCommand.TheVariants as locator
use Rattle.service_names.specs.declared.commands.RunControlCommand.{RunControlCommand}
use Rattle.service_names.specs.declared.commands.RunControlCommand.TheVariants as run_control
use Rattle.service_names.specs.declared.commands.BreakpointsCommand.{BreakpointsCommand}
use Rattle.service_names.specs.declared.commands.BreakpointsCommand.TheVariants as breakpoints
use Rattle.service_names.specs.declared.commands.MemoryCommand.{MemoryCommand}
use Rattle.service_names.specs.declared.commands.MemoryCommand.TheVariants as memory
use Rattle.service_names.specs.declared.commands.RegistersCommand.{RegistersCommand}
use Rattle.service_names.specs.declared.commands.RegistersCommand.TheVariants as registers
use Rattle.service_names.specs.declared.commands.ProcessesCommand.{ProcessesCommand}
use Rattle.service_names.specs.declared.commands.ProcessesCommand.TheVariants as processes
use Rattle.service_names.specs.declared.commands.TraceCommand.{TraceCommand}
use Rattle.service_names.specs.declared.commands.TraceCommand.TheVariants as trace
use Rattle.tcf_values.specs.declared.command.Command.{Command}
use Rattle.tcf_values.specs.declared.command.Command.TheVariants.{Sync, GetPeers, Redirect, GetContext, GetChildren, GetState, Resume, Suspend, Terminate, BpSet, BpAdd, BpChange, BpEnable, BpDisable, BpRemove, BpIds, BpProperties, BpGetStatus, BpCapabilities, MemGet, MemSet, RegGet, RegSet, RegGetm, RegSetm, ProcContext, ProcChildren, ProcStart, ProcAttach, ProcDetach, ProcTerminate, TraceRun}
use Rattle.tcf_values.specs.declared.values.BpProps.{BpProps}
use Rattle.tcf_values.specs.declared.values.Location.{Location}
use Rattle.command_tables.specs.Arguments.{blob_part, bp_part, flag_part, locations_part, props_part, text_part, texts_part, whole_part}
use Rattle.command_tables.specs.Canonical.{AreBytes, IsReadable}
use Rattle.command_tables.specs.Reading.{IsReading, bad_of, is_unended, reading_by, reading_in, reading_of}
use Rattle.command_tables.specs.ReadingLaws.{KnownAreReadable, ReadingsAreLegal}
use Rattle.command_tables.specs.Rows.{Row, arg, breakpoints_row, locator_row, made, memory_row, processes_row, registers_row, row_of, run_control_row, then_read, trace_row}
use Rattle.command_tables.specs.declared.reading.Reading.TheVariants.{Known}
use Rattle.command_tables.proofs.Decoded.{blob_within}
use Rattle.command_tables.proofs.Legal.{bad_is_reading}
use Rattle.command_tables.proofs.Within.{bp_within, list_within, location_within, part_has, whole_within}

-- a command of this name, within the limits
abbrev IsNamed : CommandName → Command → Type 0
IsNamed name command = (named_as command ≡ name) × IsReadable command

-- what is read by the rest of a row is
Reads : CommandName → Row → Type 0
Reads name row = (index : ℕ) (parts : List (List ℕ)) → IfOk (row index parts) (IsNamed name)

named_made : (name : CommandName) (command : Command) → named_as command ≡ name → IsReadable command → Reads name (made command)
unfolding Reads
named_made name command is within index parts = (is, within)

then_named : {A : Type 0} → (P : A → Type 0) (Q : Command → Type 0) (next : A → Result Command ArgFault) → ((x : A) → P x → IfOk (next x) Q) → (r : Result A ArgFault) → IfOk r P → IfOk (then_read next r) Q
then_named P Q next each (Ok x) is = each x is
then_named P Q next each (Err fault) is = tt

-- an argument with a limit
with_limit : {A : Type 0} → (P : A → Type 0) (name : CommandName) (kind : ℕ → Option (List ℕ) → Result A ArgFault) (next : A → Row) → ((index : ℕ) (part : Option (List ℕ)) → IfOk (kind index part) P) → ((x : A) → P x → Reads name (next x)) → Reads name (arg kind next)
unfolding Reads
with_limit P name kind next within each index parts =
    then_named P (IsNamed name) (λ x. next x (index + 1) (drop 1 parts)) (λ x is. each x is (index + 1) (drop 1 parts)) (kind index (slice_get parts 0)) (within index (slice_get parts 0))

any_ok : {A : Type 0} → (r : Result A ArgFault) → IfOk r (λ _. Unit {0})
any_ok (Ok x) = tt
any_ok (Err fault) = tt

-- one without
free : {A : Type 0} → (name : CommandName) (kind : ℕ → Option (List ℕ) → Result A ArgFault) (next : A → Row) → ((x : A) → Reads name (next x)) → Reads name (arg kind next)
free name kind next each = with_limit (λ _. Unit {0}) name kind next (λ index part. any_ok (kind index part)) (λ x _. each x)

whole : (name : CommandName) (next : ℤ → Row) → ((x : ℤ) → IsWhole x → Reads name (next x)) → Reads name (arg whole_part next)
whole name next each = with_limit IsWhole name whole_part next (part_has IsWhole whole_in whole_within) each

one_bp : (name : CommandName) (next : BpProps → Row) → ((x : BpProps) → is_bp x ≡ true → Reads name (next x)) → Reads name (arg bp_part next)
one_bp name next each = with_limit (λ props. is_bp props ≡ true) name bp_part next (part_has (λ props. is_bp props ≡ true) bp_in bp_within) each

bps : (name : CommandName) (next : List BpProps → Row) → ((xs : List BpProps) → AllByRecursion (λ props. is_bp props ≡ true) xs → Reads name (next xs)) → Reads name (arg props_part next)
bps name next each =
    with_limit (AllByRecursion (λ props. is_bp props ≡ true)) name props_part next
    (part_has (AllByRecursion (λ props. is_bp props ≡ true)) (list_in bp_in) (list_within (λ props. is_bp props ≡ true) bp_in bp_within)) each

locations : (name : CommandName) (next : List Location → Row) → ((xs : List Location) → AllByRecursion IsLocation xs → Reads name (next xs)) → Reads name (arg locations_part next)
locations name next each =
    with_limit (AllByRecursion IsLocation) name locations_part next (part_has (AllByRecursion IsLocation) (list_in location_in) (list_within IsLocation location_in location_within)) each

blob : (name : CommandName) (next : List ℕ → Row) → ((bytes : List ℕ) → AreBytes bytes → Reads name (next bytes)) → Reads name (arg blob_part next)
blob name next each = with_limit AreBytes name blob_part next blob_within each

-- ---- The rows

locator_reads : (command : LocatorCommand) → Reads (service.Locator command) (locator_row command)
locator_reads locator.Sync = named_made _ Sync refl tt
locator_reads locator.GetPeers = named_made _ GetPeers refl tt
locator_reads locator.Redirect = free _ text_part _ (λ peer. named_made _ (Redirect peer) refl tt)

run_control_reads : (command : RunControlCommand) → Reads (service.RunControl command) (run_control_row command)
run_control_reads run_control.GetContext = free _ text_part _ (λ id. named_made _ (GetContext id) refl tt)
run_control_reads run_control.GetChildren = free _ text_part _ (λ id. named_made _ (GetChildren id) refl tt)
run_control_reads run_control.GetState = free _ text_part _ (λ id. named_made _ (GetState id) refl tt)
run_control_reads run_control.Resume = free _ text_part _ (λ id. whole _ _ (λ mode mode_is. whole _ _ (λ count count_is. named_made _ (Resume id mode count) refl (mode_is, count_is))))
run_control_reads run_control.Suspend = free _ text_part _ (λ id. named_made _ (Suspend id) refl tt)
run_control_reads run_control.Terminate = free _ text_part _ (λ id. named_made _ (Terminate id) refl tt)

breakpoints_reads : (command : BreakpointsCommand) → Reads (service.Breakpoints command) (breakpoints_row command)
breakpoints_reads breakpoints.Set = bps _ _ (λ list list_is. named_made _ (BpSet list) refl list_is)
breakpoints_reads breakpoints.Add = one_bp _ _ (λ props props_is. named_made _ (BpAdd props) refl props_is)
breakpoints_reads breakpoints.Change = one_bp _ _ (λ props props_is. named_made _ (BpChange props) refl props_is)
breakpoints_reads breakpoints.Enable = free _ texts_part _ (λ ids. named_made _ (BpEnable ids) refl tt)
breakpoints_reads breakpoints.Disable = free _ texts_part _ (λ ids. named_made _ (BpDisable ids) refl tt)
breakpoints_reads breakpoints.Remove = free _ texts_part _ (λ ids. named_made _ (BpRemove ids) refl tt)
breakpoints_reads breakpoints.GetIds = named_made _ BpIds refl tt
breakpoints_reads breakpoints.GetProperties = free _ text_part _ (λ id. named_made _ (BpProperties id) refl tt)
breakpoints_reads breakpoints.GetStatus = free _ text_part _ (λ id. named_made _ (BpGetStatus id) refl tt)
breakpoints_reads breakpoints.GetCapabilities = free _ text_part _ (λ id. named_made _ (BpCapabilities id) refl tt)

memory_reads : (command : MemoryCommand) → Reads (service.Memory command) (memory_row command)
memory_reads memory.Get = free _ text_part _ (λ id. whole _ _ (λ addr addr_is. whole _ _ (λ word word_is. whole _ _ (λ size size_is. whole _ _ (λ mode mode_is. named_made _ (MemGet id addr word size mode) refl (addr_is, word_is, size_is, mode_is))))))
memory_reads memory.Set = free _ text_part _ (λ id. whole _ _ (λ addr addr_is. whole _ _ (λ word word_is. whole _ _ (λ size size_is. whole _ _ (λ mode mode_is. blob _ _ (λ bytes bytes_are. named_made _ (MemSet id addr word size mode bytes) refl (addr_is, word_is, size_is, mode_is, bytes_are)))))))

registers_reads : (command : RegistersCommand) → Reads (service.Registers command) (registers_row command)
registers_reads registers.Get = free _ text_part _ (λ id. named_made _ (RegGet id) refl tt)
registers_reads registers.Set = free _ text_part _ (λ id. blob _ _ (λ bytes bytes_are. named_made _ (RegSet id bytes) refl bytes_are))
registers_reads registers.Getm = locations _ _ (λ list list_is. named_made _ (RegGetm list) refl list_is)
registers_reads registers.Setm = locations _ _ (λ list list_is. blob _ _ (λ bytes bytes_are. named_made _ (RegSetm list bytes) refl (list_is, bytes_are)))

processes_reads : (command : ProcessesCommand) → Reads (service.Processes command) (processes_row command)
processes_reads processes.GetContext = free _ text_part _ (λ id. named_made _ (ProcContext id) refl tt)
processes_reads processes.GetChildren = free _ text_part _ (λ id. free _ flag_part _ (λ attached. named_made _ (ProcChildren id attached) refl tt))
processes_reads processes.Start = free _ text_part _ (λ directory. free _ text_part _ (λ file. free _ texts_part _ (λ args. free _ texts_part _ (λ environment. free _ flag_part _ (λ attach. named_made _ (ProcStart directory file args environment attach) refl tt)))))
processes_reads processes.Attach = free _ text_part _ (λ id. named_made _ (ProcAttach id) refl tt)
processes_reads processes.Detach = free _ text_part _ (λ id. named_made _ (ProcDetach id) refl tt)
processes_reads processes.Terminate = free _ text_part _ (λ id. named_made _ (ProcTerminate id) refl tt)

trace_reads : (command : TraceCommand) → Reads (service.Trace command) (trace_row command)
trace_reads trace.Run = free _ text_part _ (λ id. whole _ _ (λ count count_is. named_made _ (TraceRun id count) refl count_is))

row_reads : (command : CommandName) → Reads command (row_of command)
row_reads (service.Locator command) = locator_reads command
row_reads (service.RunControl command) = run_control_reads command
row_reads (service.Breakpoints command) = breakpoints_reads command
row_reads (service.Memory command) = memory_reads command
row_reads (service.Registers command) = registers_reads command
row_reads (service.Processes command) = processes_reads command
row_reads (service.Trace command) = trace_reads command

row_within : (command : CommandName) (parts : List (List ℕ)) → IfOk (row_of command 0 parts) (IsNamed command)
unfolding Reads
row_within command parts = row_reads command 0 parts

-- ---- a known command is readable

bad_not_known : (fault : ArgFault) (command : Command) → bad_of fault ≡ Known command → ⊥
bad_not_known NotEnded command is = cc
bad_not_known (Missing index) command is = cc
bad_not_known (Syntax index) command is = cc
bad_not_known (Shape index) command is = cc
bad_not_known (Base64 index) command is = cc
bad_not_known NoMemory command is = cc

-- the command that is read under this name
by_known : (service name : List ℕ) (found : CommandName) (command : Command) (r : Result Command ArgFault) → name_in service name ≡ Some found → IfOk r (IsNamed found)
    → reading_by r ≡ Known command → (name_in service name ≡ Some (named_as command)) × IsReadable command
by_known service name found command (Ok made) named within is =
    let same : made ≡ command = cc in
    subst (λ (c : Command). (name_in service name ≡ Some (named_as c)) × IsReadable c) same (named ∙ sym (ap Some within.0), within.1)
by_known service name found command (Err fault) named within is = absurd (bad_not_known fault command is)

ended_known : (unended : Bool) (service name : List ℕ) (found : CommandName) (command : Command) (r : Result Command ArgFault) → name_in service name ≡ Some found → IfOk r (IsNamed found)
    → cond unended (bad_of NotEnded) (reading_by r) ≡ Known command → (name_in service name ≡ Some (named_as command)) × IsReadable command
ended_known true service name found command r named within is = absurd (bad_not_known NotEnded command is)
ended_known false service name found command r named within is = by_known service name found command r named within is

in_known : (service name body : List ℕ) (found : Option CommandName) (command : Command) → name_in service name ≡ found → reading_in body found ≡ Known command
    → (name_in service name ≡ Some (named_as command)) × IsReadable command
in_known service name body None command named is = absurd cc
in_known service name body (Some found) command named is =
    ended_known (is_unended body) service name found command (row_of found 0 (parts_of body)) named (row_within found (parts_of body)) is

pub known_readable : KnownAreReadable
known_readable service name command (body, is) = in_known service name body (name_in service name) command refl is

-- ---- what is read is a reading

by_legal : (service name body : List ℕ) (command : CommandName) (r : Result Command ArgFault) → name_in service name ≡ Some command → reading_of service name body ≡ reading_by r
    → IsReading service name (reading_by r)
by_legal service name body command (Ok made) named is = (body, is)
by_legal service name body command (Err fault) named is = bad_is_reading service name fault (subst IsSome (sym named) refl)

ended_legal : (unended : Bool) (service name body : List ℕ) (command : CommandName) (r : Result Command ArgFault) → name_in service name ≡ Some command
    → reading_of service name body ≡ cond unended (bad_of NotEnded) (reading_by r) → IsReading service name (cond unended (bad_of NotEnded) (reading_by r))
ended_legal true service name body command r named is = bad_is_reading service name NotEnded (subst IsSome (sym named) refl)
ended_legal false service name body command r named is = by_legal service name body command r named is

in_legal : (service name body : List ℕ) (found : Option CommandName) → name_in service name ≡ found → IsReading service name (reading_in body found)
in_legal service name body None named = named
in_legal service name body (Some command) named =
    ended_legal (is_unended body) service name body command (row_of command 0 (parts_of body)) named (ap (reading_in body) named)

pub readings_legal : ReadingsAreLegal
readings_legal service name body = in_legal service name body (name_in service name) refl
