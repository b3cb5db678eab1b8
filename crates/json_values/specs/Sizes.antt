-- Values whose canonical texts are short.
use Rattle.std.specs.Prelude.{ℕ, ◌≤◌, Bool, List, length, filter, is_some, IfSome}
use Rattle.std.specs.List.{AllByRecursion}
use Rattle.serde_json.specs.Data.{Data}
use Rattle.serde_json.specs.Written.{compact_text}
use Rattle.tcf_values.specs.declared.errors.ErrorReport.{ErrorReport}
use Rattle.tcf_values.specs.declared.values.BpStatus.{BpStatus}
use Rattle.tcf_values.specs.declared.values.ContextData.{ContextData}
use Rattle.tcf_values.specs.declared.values.Instance.{Instance}
use Rattle.tcf_values.specs.declared.values.Place.{Place}
use Rattle.tcf_values.specs.declared.values.Place.TheVariants.{Address, Error}
use Rattle.tcf_values.specs.declared.values.ProcessData.{ProcessData}

-- the length of the canonical text
abbrev pub size_of : Data → ℕ
size_of d = length (compact_text d)

-- an ID, a reason or the text of a code
abbrev pub IsWord : List ℕ → Type 0
IsWord text = length text ≤ 255

abbrev pub AreWords : List (List ℕ) → Type 0
AreWords texts = (length texts ≤ 256) × AllByRecursion IsWord texts

-- the name of a process
abbrev pub IsName : List ℕ → Type 0
IsName text = length text ≤ 65536

pub record IsSmallContext (context : ContextData) : Type 0 where
  pub id : IsWord context.id
  pub parent : IfSome context.parent IsWord
  pub process : IsWord context.process
  pub name : IfSome context.name IsName

abbrev pub has_name : ContextData → Bool
has_name context = is_some context.name

-- a process and its eight threads at most, of which the process alone has a name; there is room for a second name
pub record AreSmallContexts (list : List ContextData) : Type 0 where
  pub few : length list ≤ 9
  pub named : length (filter has_name list) ≤ 2
  pub small : AllByRecursion IsSmallContext list

pub record IsSmallProcess (process : ProcessData) : Type 0 where
  pub id : IsWord process.id
  pub name : IsName process.name

abbrev pub IsSmallReport : ErrorReport → Type 0
IsSmallReport report = IsWord report.format

abbrev pub IsSmallPlace : Place → Type 0
IsSmallPlace (Address address) = Unit {0}
IsSmallPlace (Error error) = IsWord error

abbrev pub IsSmallInstance : Instance → Type 0
IsSmallInstance instance = IsWord instance.context × IsSmallPlace instance.place

-- one instance in each process at most
abbrev pub IsSmallStatus : BpStatus → Type 0
IsSmallStatus status = (length status.instances ≤ 64) × AllByRecursion IsSmallInstance status.instances
