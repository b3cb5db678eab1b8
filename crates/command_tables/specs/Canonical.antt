-- How the arguments of a command are written: the canonical value of each.
use Rattle.std.specs.Prelude.{ℕ, ◌≡◌, ◌<◌, true, List, [], ◌∷◌, map}
use Rattle.std.specs.List.{AllByRecursion}
use Rattle.serde_json.specs.Data.{Data}
use Rattle.serde_json.specs.Written.{compact_text}
use Rattle.json_args.specs.Kinds.{IsWhole}
use Rattle.json_args.specs.Parts.{joined}
use Rattle.json_values.specs.Lists.{list_json}
use Rattle.json_values.specs.Locations.{IsLocation, location_json}
use Rattle.json_values.specs.Plain.{text_json, texts_json, whole_json, flag_json, blob_json}
use Rattle.json_values.specs.Props.{bp_json, is_bp}
use Rattle.tcf_values.specs.declared.command.Command.{Command}
use Rattle.tcf_values.specs.declared.command.Command.TheVariants.{Sync, GetPeers, Redirect, GetContext, GetChildren, GetState, Resume, Suspend, Terminate, BpSet, BpAdd, BpChange, BpEnable, BpDisable, BpRemove, BpIds, BpProperties, BpGetStatus, BpCapabilities, MemGet, MemSet, RegGet, RegSet, RegGetm, RegSetm, ProcContext, ProcChildren, ProcStart, ProcAttach, ProcDetach, ProcTerminate, TraceRun}

-- the arguments of a command
abbrev pub canonical : Command → List Data
canonical Sync = []
canonical GetPeers = []
canonical (Redirect peer) = text_json peer ∷ []
canonical (GetContext id) = text_json id ∷ []
canonical (GetChildren id) = text_json id ∷ []
canonical (GetState id) = text_json id ∷ []
canonical (Resume id mode count) = text_json id ∷ whole_json mode ∷ whole_json count ∷ []
canonical (Suspend id) = text_json id ∷ []
canonical (Terminate id) = text_json id ∷ []
canonical (BpSet list) = list_json bp_json list ∷ []
canonical (BpAdd props) = bp_json props ∷ []
canonical (BpChange props) = bp_json props ∷ []
canonical (BpEnable ids) = texts_json ids ∷ []
canonical (BpDisable ids) = texts_json ids ∷ []
canonical (BpRemove ids) = texts_json ids ∷ []
canonical BpIds = []
canonical (BpProperties id) = text_json id ∷ []
canonical (BpGetStatus id) = text_json id ∷ []
canonical (BpCapabilities id) = text_json id ∷ []
canonical (MemGet id addr word size mode) = text_json id ∷ whole_json addr ∷ whole_json word ∷ whole_json size ∷ whole_json mode ∷ []
canonical (MemSet id addr word size mode bytes) = text_json id ∷ whole_json addr ∷ whole_json word ∷ whole_json size ∷ whole_json mode ∷ blob_json bytes ∷ []
canonical (RegGet id) = text_json id ∷ []
canonical (RegSet id bytes) = text_json id ∷ blob_json bytes ∷ []
canonical (RegGetm list) = list_json location_json list ∷ []
canonical (RegSetm list bytes) = list_json location_json list ∷ blob_json bytes ∷ []
canonical (ProcContext id) = text_json id ∷ []
canonical (ProcChildren id attached) = text_json id ∷ flag_json attached ∷ []
canonical (ProcStart directory file args environment attach) = text_json directory ∷ text_json file ∷ texts_json args ∷ texts_json environment ∷ flag_json attach ∷ []
canonical (ProcAttach id) = text_json id ∷ []
canonical (ProcDetach id) = text_json id ∷ []
canonical (ProcTerminate id) = text_json id ∷ []
canonical (TraceRun id count) = text_json id ∷ whole_json count ∷ []

-- the text of each value, and a zero behind it
abbrev pub texts_of : List Data → List (List ℕ)
texts_of values = map compact_text values

abbrev pub body_of : Command → List ℕ
body_of command = joined (texts_of (canonical command))

-- each is below 256
abbrev pub AreBytes : List ℕ → Type 0
AreBytes bytes = AllByRecursion (λ byte. byte < 256) bytes

-- the limits of what can be sent: exactly the commands that are read from some data
abbrev pub IsReadable : Command → Type 0
IsReadable Sync = Unit {0}
IsReadable GetPeers = Unit {0}
IsReadable (Redirect peer) = Unit {0}
IsReadable (GetContext id) = Unit {0}
IsReadable (GetChildren id) = Unit {0}
IsReadable (GetState id) = Unit {0}
IsReadable (Resume id mode count) = IsWhole mode × IsWhole count
IsReadable (Suspend id) = Unit {0}
IsReadable (Terminate id) = Unit {0}
IsReadable (BpSet list) = AllByRecursion (λ props. is_bp props ≡ true) list
IsReadable (BpAdd props) = is_bp props ≡ true
IsReadable (BpChange props) = is_bp props ≡ true
IsReadable (BpEnable ids) = Unit {0}
IsReadable (BpDisable ids) = Unit {0}
IsReadable (BpRemove ids) = Unit {0}
IsReadable BpIds = Unit {0}
IsReadable (BpProperties id) = Unit {0}
IsReadable (BpGetStatus id) = Unit {0}
IsReadable (BpCapabilities id) = Unit {0}
IsReadable (MemGet id addr word size mode) = IsWhole addr × IsWhole word × IsWhole size × IsWhole mode
IsReadable (MemSet id addr word size mode bytes) = IsWhole addr × IsWhole word × IsWhole size × IsWhole mode × AreBytes bytes
IsReadable (RegGet id) = Unit {0}
IsReadable (RegSet id bytes) = AreBytes bytes
IsReadable (RegGetm list) = AllByRecursion IsLocation list
IsReadable (RegSetm list bytes) = AllByRecursion IsLocation list × AreBytes bytes
IsReadable (ProcContext id) = Unit {0}
IsReadable (ProcChildren id attached) = Unit {0}
IsReadable (ProcStart directory file args environment attach) = Unit {0}
IsReadable (ProcAttach id) = Unit {0}
IsReadable (ProcDetach id) = Unit {0}
IsReadable (ProcTerminate id) = Unit {0}
IsReadable (TraceRun id count) = IsWhole count
