-- The names of some images.
use Rattle.std.specs.Prelude.{ℕ, ◌≡◌, List, bytes_eq}
use Rattle.std.specs.BTreeSet.{BTreeSet, contains}
use Rattle.std.specs.Cmp.Lexicographic.{slice_cmp}
use Rattle.std.specs.List.{list_any}
use Rattle.std.specs.Ordering.{nat_cmp}
use Rattle.tcf_schedules.specs.declared.schedule.NamedImage.{NamedImage}
use denote.Ref.{Bor}

-- a name is in the set exactly where an image has it
abbrev pub AreNames : BTreeSet (Bor (List ℕ)) → List NamedImage → Type 0
AreNames names images =
    (name : Bor (List ℕ)) → contains (λ x y. slice_cmp nat_cmp x.now y.now) names name ≡ list_any (λ (i : NamedImage). bytes_eq i.name name.now) images
