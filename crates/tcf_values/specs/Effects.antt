-- What comes of an executed command: nothing but an error report, nothing but an answer, or events and an answer.
use Rattle.std.specs.Prelude.{List, [], Option, Some, None}
use Rattle.tcf_values.specs.Errors.{report_of}
use Rattle.tcf_values.specs.Faults.{code_of}
use Rattle.tcf_values.specs.declared.answer.Answer.{Answer}
use Rattle.tcf_values.specs.declared.answer.Answer.TheVariants.{Failed}
use Rattle.tcf_values.specs.declared.effect.Effect.{Effect}
use Rattle.tcf_values.specs.declared.event.EventData.{EventData}
use Rattle.tcf_values.specs.declared.faults.Fault.{Fault}

abbrev pub tells : List EventData → Answer → Effect
tells events answer = record { events = events; progress = []; answer = answer }

abbrev pub gives : Answer → Effect
gives answer = tells [] answer

unfoldable pub failed : Fault → Effect
failed fault = gives (Failed (report_of (code_of fault)))

-- what a command gives where a check fails, or else
abbrev pub effect_by : Option Fault → Effect → Effect
effect_by None given = given
effect_by (Some fault) given = failed fault
