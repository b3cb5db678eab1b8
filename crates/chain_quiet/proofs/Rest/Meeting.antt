-- An end and the one above its hop, where nothing is under way between them.
use Rattle.std.proofs.Common.{◌≡◌, Bool, true, false, List}
use Rattle.channel_core.specs.Arrivals.{Spoken}
use Rattle.channel_core.specs.Closing.{is_closed}
use Rattle.channel_laws.specs.Meeting.{AnswersAll, HasAll, IsFree, IsLasting, RestTogether, Side, run_of}
use Rattle.channel_laws.specs.Numbering.{TakesNumbered}
use Rattle.channel_laws.proofs.TheLaws.{answered_end_is_free, ends_rest_together, what_comes_is_numbered}

pub record Meet {T : Type 0} (others_are : Bool) (s : Side T) (other : Side Unit) : Type 0 where
  pub lasting : IsLasting s
  pub others_last : IsLasting other
  pub has : HasAll true s other
  pub others_have : HasAll others_are other s

pub meet_at_rest : {T : Type 0} → (others_are : Bool) (s : Side T) (other : Side Unit) → Meet others_are s other → RestTogether true others_are s other
meet_at_rest others_are s other m = ends_rest_together true others_are s other m.lasting m.others_last m.has m.others_have

pub meet_free : {T : Type 0} → (others_are : Bool) (s : Side T) (other : Side Unit) → Meet others_are s other
    → (TakesNumbered (run_of other) → (spoken : List Spoken) × AnswersAll (run_of other) spoken) → is_closed (run_of s).end.state ≡ false → IsFree (run_of s)
meet_free others_are s other m answers opened =
    let all = answers (what_comes_is_numbered others_are other s m.lasting.formed m.lasting.readable m.others_have.front) in
    answered_end_is_free others_are s other m.lasting m.others_last m.has m.others_have all.0 all.1 opened
