use Rattle.std.proofs.Common.{inl, inr, refl}
use Rattle.tcf_app.proofs.ShowEnds.{ends_good, ends_bad, ends_given_up}
use Rattle.tcf_app.proofs.show.show_file.Goals as goal

pub returns-in-Ok-None-clause-ends : goal.returns-in-Ok-None-clause-ends
returns-in-Ok-None-clause-ends g c = ends_good _ _ _ _ c.in-Ok-None.field-0-is c.in-Ok-None.ensures.lines

pub returns-in-Ok-Some-clause-ends : goal.returns-in-Ok-Some-clause-ends
returns-in-Ok-Some-clause-ends g c =
    ends_bad _ _ _ _ _ _ c.bad_stream.result _ c.in-Ok-Some.field-0-is c.in-Ok-Some.ensures.lines c.bad_stream.ensures c.finish_made.ensures.ends c.finish_made.ensures.wanting

pub returns-in-Err-Failed-clause-ends : goal.returns-in-Err-Failed-clause-ends
returns-in-Err-Failed-clause-ends g c = ends_given_up _ _ _ _ (inl refl) c.in-Err-Failed.ensures.part

pub returns-in-Err-NoMemory-clause-ends : goal.returns-in-Err-NoMemory-clause-ends
returns-in-Err-NoMemory-clause-ends g c = ends_given_up _ _ _ _ (inr refl) c.in-Err-NoMemory.ensures.part
