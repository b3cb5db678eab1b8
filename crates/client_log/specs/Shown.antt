-- The lines `cached` of a log show what is kept of the messages that the lines before them say.
use Rattle.std.specs.Prelude.{◌≡◌, List}
use Rattle.client_log.specs.Cached.{cached_value}
use Rattle.client_log.specs.Lessons.{lessons}
use Rattle.tcf_text.specs.declared.log.LogLine.{LogLine}
use Rattle.tcf_text.specs.declared.log.LogLine.TheVariants.{Cached}

abbrev pub ShowsKept : List LogLine → LogLine → Type 0
ShowsKept before (Cached what value) = value ≡ cached_value what (lessons before)
ShowsKept before line = Unit {0}
