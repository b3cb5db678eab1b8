-- What holds of each of a list.
use Rattle.std.proofs.Common.{Bool, true, false, List, [], ◌∷◌, subst}
use Rattle.std.specs.Prelude.{if◌then◌else◌}
use Rattle.std.specs.List.{AllByRecursion}
use Rattle.value_node.specs.Runs.{only_if}
use Rattle.value_node.proofs.Taken.{Stands}
use Rattle.list_laws.proofs.AllLists.{all_right}

pub all_if : {A : Type 0} → (P : A → Type 0) (flag : Bool) (xs : List A) → AllByRecursion P xs → AllByRecursion P (if flag then xs else [])
all_if P true xs all = all
all_if P false xs all = tt

pub all_only : {A : Type 0} → (P : A → Type 0) (flag : Bool) (xs : List A) → AllByRecursion P xs → AllByRecursion P (only_if flag xs)
all_only P true xs all = all
all_only P false xs all = tt

pub all_stands : {A : Type 0} → (P : A → Type 0) (rows : List A) (row : A) → Stands rows row → AllByRecursion P rows → P row
all_stands P rows row there all = (all_right P there.front (row ∷ there.back) (subst (AllByRecursion P) there.whole all)).0
