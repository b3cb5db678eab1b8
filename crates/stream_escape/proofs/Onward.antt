-- Any bytes behind a list that is read are read or refused.
use Rattle.std.proofs.Common.{ℕ, List, Option, None, Some, inl, inr, ◌⊎◌}
use Rattle.stream_escape.specs.declared.stream.Item.{Item}
use Rattle.stream_escape.specs.declared.stream.StreamFault.{StreamFault}
use Rattle.stream_escape.specs.Stream.{Ending}
use Rattle.stream_escape.specs.Fed.{course}
use Rattle.stream_escape.specs.Laws.{AreRead, AreRefused, EachGoesOn}
use Rattle.stream_escape.proofs.Courses.{CourseHolds, course_holds}

goes_on : (old new : Ending) (bytes : List ℕ) (items : List Item) (fault : Option StreamFault) → CourseHolds 0 old bytes items new fault
    → AreRead old bytes ⊎ AreRefused old bytes
goes_on old new bytes items None c = inl (record { items = items; new = new; continues = c })
goes_on old new bytes items (Some fault) s = inr (record { items = items; new = new; index = s.index; cause = s.cause; refuses = s.refuses })

pub each_goes_on : EachGoesOn
each_goes_on old bytes =
    let c = course 0 bytes old in goes_on old c.ending bytes c.items c.fault (course_holds 0 bytes old)
