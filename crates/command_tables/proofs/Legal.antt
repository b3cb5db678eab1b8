-- The reading of a fault is one that data of a command's names has.
use Rattle.std.proofs.Common.{◌≡◌, List, ℕ, refl, sym, subst}
use Rattle.std.specs.Prelude.{Some, IsSome, Result, Ok, Err, IfOk}
use Rattle.json_args.specs.declared.fault.ArgFault.{ArgFault}
use Rattle.json_args.specs.declared.fault.ArgFault.TheVariants.{NotEnded, Missing, Syntax, Shape, Base64, NoMemory}
use Rattle.service_names.specs.Commands.{name_in}
use Rattle.service_names.specs.declared.commands.CommandName.{CommandName}
use Rattle.command_tables.specs.Reading.{IsReading, bad_of}
use Rattle.command_tables.specs.declared.reading.Reading.{Reading}
use Rattle.std.specs.declared.alloc.AllocError.{AllocError}

pub bad_is_reading : (service name : List ℕ) (fault : ArgFault) → IsSome (name_in service name) → IsReading service name (bad_of fault)
bad_is_reading service name NotEnded some = (some, (NotEnded, refl))
bad_is_reading service name (Missing index) some = (some, (Missing index, refl))
bad_is_reading service name (Syntax index) some = (some, (Syntax index, refl))
bad_is_reading service name (Shape index) some = (some, (Shape index, refl))
bad_is_reading service name (Base64 index) some = (some, (Base64 index, refl))
bad_is_reading service name NoMemory some = (some, (NoMemory, refl))

-- what a fault of a command's data is read as
pub fault_legal : (r : Result Reading AllocError) (service name : List ℕ) (command : CommandName) (fault : ArgFault) → name_in service name ≡ Some command
    → IfOk r (λ reading. reading ≡ bad_of fault) → IfOk r (IsReading service name)
fault_legal (Ok reading) service name command fault named is =
    subst (IsReading service name) (sym is) (bad_is_reading service name fault (subst IsSome (sym named) refl))
fault_legal (Err error) service name command fault named is = tt
