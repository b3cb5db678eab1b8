-- The lines of a file.
use Rattle.std.proofs.Common.{◌≡◌, ℕ, ◌==◌, ◌<◌, List, [], ◌∷◌, ◌++◌, length, refl, ◌∙◌, ap, arith}
use Rattle.std.specs.List.{onto_first}
use Rattle.std.proofs.lemmas.Bool.{ne_eqb, cond-false}
use Rattle.tcf_values.specs.Cut.{Lacks, IsCut}
use Rattle.tcf_schedules.specs.Schedule.{lines_of}

lines_front : (line rest : List ℕ) → Lacks 10 line → lines_of (line ++ 10 ∷ rest) ≡ line ∷ lines_of rest
lines_front [] rest lacks = refl
lines_front (b ∷ bs) rest lacks =
    cond-false (b == 10) _ _ (ne_eqb b 10 lacks.0) ∙ ap (onto_first b) (lines_front bs rest lacks.1)

-- the first line of a file that has an end of a line
pub lines_cut : (file line rest : List ℕ) → IsCut 10 file line rest → lines_of file ≡ line ∷ lines_of rest
lines_cut file line rest is = ap lines_of is.1 ∙ lines_front line rest is.0

-- a file without an end of a line is one line
pub lines_last : (file : List ℕ) → Lacks 10 file → 0 < length file → lines_of file ≡ file ∷ []
lines_last [] lacks some = absurd (omega arith)
lines_last (b ∷ []) lacks some = cond-false (b == 10) _ _ (ne_eqb b 10 lacks.0)
lines_last (b ∷ c ∷ bs) lacks some =
    cond-false (b == 10) _ _ (ne_eqb b 10 lacks.0) ∙ ap (onto_first b) (lines_last (c ∷ bs) lacks.1 (omega arith))
