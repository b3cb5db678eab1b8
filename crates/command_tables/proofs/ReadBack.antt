-- What is written of a command is read as it.
use Rattle.std.proofs.Common.{◌≡◌, ℕ, List, [], ◌∷◌, ◌++◌, true, false, refl, ◌∙◌, ap}
use Rattle.std.specs.Prelude.{Some, Ok, map, option_map}
use Rattle.std.specs.List.{AllByRecursion}
use Rattle.std.proofs.lemmas.Bool.{cond-false}
use Rattle.serde_json.specs.Data.{Data}
use Rattle.serde_json.specs.View.{items_of}
use Rattle.tcf_values.specs.Cut.{Lacks}
use Rattle.tcf_values.specs.declared.values.BpProps.{BpProps}
use Rattle.tcf_values.specs.declared.command.Command.{Command}
use Rattle.tcf_values.specs.declared.command.Command.TheVariants.{Sync, GetPeers, Redirect, GetContext, GetChildren, GetState, Resume, Suspend, Terminate, BpSet, BpAdd, BpChange, BpEnable, BpDisable, BpRemove, BpIds, BpProperties, BpGetStatus, BpCapabilities, MemGet, MemSet, RegGet, RegSet, RegGetm, RegSetm, ProcContext, ProcChildren, ProcStart, ProcAttach, ProcDetach, ProcTerminate, TraceRun}
use Rattle.json_args.specs.Kinds.{strings_in}
use Rattle.json_args.specs.Parts.{joined}
use Rattle.json_args.specs.PartsLaws.{of_joined}
use Rattle.json_values.specs.ListLaws.{list_back}
use Rattle.json_values.specs.Locations.{IsLocation, location_json, location_in}
use Rattle.json_values.specs.LocationsLaws.{location_back}
use Rattle.json_values.specs.Plain.{text_json}
use Rattle.json_values.specs.PlainLaws.{whole_back}
use Rattle.json_values.specs.Props.{bp_json, bp_in, is_bp}
use Rattle.json_values.specs.PropsLaws.{bp_back}
use Rattle.json_values.specs.TextLaws.{text_lacks_zero}
use Rattle.command_tables.specs.Canonical.{IsReadable, body_of, canonical, texts_of}
use Rattle.service_names.specs.CommandLaws.{name_there}
use Rattle.service_names.specs.Commands.{name_of, named_as, service_of}
use Rattle.command_tables.specs.Reading.{is_unended, reading_by, reading_in, reading_of}
use Rattle.command_tables.specs.Rows.{row_of}
use Rattle.command_tables.specs.Written.{BytesDecode, TextsRead}
use Rattle.command_tables.specs.declared.reading.Reading.TheVariants.{Known}

strings_back : (texts : List (List ℕ)) → strings_in (items_of (map text_json texts)) ≡ Some texts
strings_back [] = refl
strings_back (t ∷ ts) = ap (option_map (λ xs. t ∷ xs)) (strings_back ts)

row_back : (command : Command) → IsReadable command → TextsRead (canonical command) → BytesDecode command
    → row_of (named_as command) 0 (texts_of (canonical command)) ≡ Ok command
row_back Sync within reads decodes = refl
row_back GetPeers within reads decodes = refl
row_back (Redirect peer) within reads decodes = rw reads.0
row_back (GetContext id) within reads decodes = rw reads.0
row_back (GetChildren id) within reads decodes = rw reads.0
row_back (GetState id) within reads decodes = rw reads.0
row_back (Resume id mode count) within reads decodes = rw (reads.0, reads.1.0, whole_back mode, reads.1.1.0, whole_back count)
row_back (Suspend id) within reads decodes = rw reads.0
row_back (Terminate id) within reads decodes = rw reads.0
row_back (BpSet list) within reads decodes = rw (reads.0, list_back bp_json bp_in (λ (p : BpProps). is_bp p ≡ true) bp_back list within)
row_back (BpAdd props) within reads decodes = rw (reads.0, bp_back props within)
row_back (BpChange props) within reads decodes = rw (reads.0, bp_back props within)
row_back (BpEnable ids) within reads decodes = rw (reads.0, strings_back ids)
row_back (BpDisable ids) within reads decodes = rw (reads.0, strings_back ids)
row_back (BpRemove ids) within reads decodes = rw (reads.0, strings_back ids)
row_back BpIds within reads decodes = refl
row_back (BpProperties id) within reads decodes = rw reads.0
row_back (BpGetStatus id) within reads decodes = rw reads.0
row_back (BpCapabilities id) within reads decodes = rw reads.0
row_back (MemGet id addr word size mode) within reads decodes = rw (reads.0, reads.1.0, whole_back addr, reads.1.1.0, whole_back word, reads.1.1.1.0, whole_back size, reads.1.1.1.1.0, whole_back mode)
row_back (MemSet id addr word size mode bytes) within reads decodes = rw (reads.0, reads.1.0, whole_back addr, reads.1.1.0, whole_back word, reads.1.1.1.0, whole_back size, reads.1.1.1.1.0, whole_back mode, reads.1.1.1.1.1.0, decodes)
row_back (RegGet id) within reads decodes = rw reads.0
row_back (RegSet id bytes) within reads decodes = rw (reads.0, reads.1.0, decodes)
row_back (RegGetm list) within reads decodes = rw (reads.0, list_back location_json location_in IsLocation location_back list within)
row_back (RegSetm list bytes) within reads decodes = rw (reads.0, list_back location_json location_in IsLocation location_back list within.0, reads.1.0, decodes)
row_back (ProcContext id) within reads decodes = rw reads.0
row_back (ProcChildren id attached) within reads decodes = rw (reads.0, reads.1.0)
row_back (ProcStart directory file args environment attach) within reads decodes = rw (reads.0, reads.1.0, reads.1.1.0, strings_back args, reads.1.1.1.0, strings_back environment, reads.1.1.1.1.0)
row_back (ProcAttach id) within reads decodes = rw reads.0
row_back (ProcDetach id) within reads decodes = rw reads.0
row_back (ProcTerminate id) within reads decodes = rw reads.0
row_back (TraceRun id count) within reads decodes = rw (reads.0, reads.1.0, whole_back count)

lacks_all : (values : List Data) → AllByRecursion (Lacks 0) (texts_of values)
lacks_all [] = tt
lacks_all (d ∷ ds) = (text_lacks_zero d, lacks_all ds)

ended_front : (b : ℕ) (bs rest : List ℕ) → is_unended (0 ∷ rest) ≡ false → is_unended (b ∷ (bs ++ 0 ∷ rest)) ≡ false
ended_front b [] rest ended = ended
ended_front b (c ∷ cs) rest ended = ended_front c cs rest ended

ended_part : (part rest : List ℕ) → is_unended (0 ∷ rest) ≡ false → is_unended (part ++ 0 ∷ rest) ≡ false
ended_part [] rest ended = ended
ended_part (b ∷ bs) rest ended = ended_front b bs rest ended

zero_then : (body : List ℕ) → is_unended body ≡ false → is_unended (0 ∷ body) ≡ false
zero_then [] ended = refl
zero_then (b ∷ bs) ended = ended

-- joined parts end in a zero, or there are none
pub ended : (parts : List (List ℕ)) → is_unended (joined parts) ≡ false
ended [] = refl
ended (part ∷ parts) = ended_part part (joined parts) (zero_then (joined parts) (ended parts))

-- what is written of a command that can be sent is read as it
pub reads_back : (command : Command) → IsReadable command → TextsRead (canonical command) → BytesDecode command
    → reading_of (service_of (named_as command)) (name_of (named_as command)) (body_of command) ≡ Known command
reads_back command within reads decodes =
    ap (reading_in (body_of command)) (name_there (named_as command))
    ∙ (cond-false _ _ _ (ended (texts_of (canonical command)))
    ∙ ap reading_by (ap (row_of (named_as command) 0) (of_joined (texts_of (canonical command)) (lacks_all (canonical command))) ∙ row_back command within reads decodes))
