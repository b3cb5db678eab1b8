-- The images and the inputs of a journal, one by one.
use Rattle.std.proofs.Common.{◌≡◌, ℕ, ◌||◌, List, [], ◌∷◌, ◌++◌, refl, sym, ap, subst}
use Rattle.std.specs.Prelude.{bytes_eq}
use Rattle.std.specs.List.{AllByRecursion, list_any}
use Rattle.std.proofs.lemmas.List.{map-append}
use Rattle.tcf_schedules.specs.Schedule.{image_of}
use Rattle.tcf_schedules.specs.declared.schedule.NamedImage.{NamedImage}
use Rattle.target_hub.specs.declared.input.Input.{Input}
use Rattle.journal_text.specs.Inputs.{InputIsRead}
use Rattle.journal_text.specs.Images.{image_as, images_as}
use Rattle.journal_text.specs.Journal.{has_name, image_said}

-- an image has the name, or none has
pub same_names : (name : List ℕ) (named : List NamedImage) → has_name name (images_as named) ≡ list_any (λ (i : NamedImage). bytes_eq i.name name) named
same_names name [] = refl
same_names name (image ∷ named) = ap (λ b. bytes_eq image.name name || b) (same_names name named)

pub one_image_more : (name digits : List ℕ) (named : List NamedImage) → images_as (named ++ image_of name digits ∷ []) ≡ images_as named ++ image_said name digits ∷ []
one_image_more name digits named = map-append image_as named (image_of name digits ∷ [])

read_last : (inputs : List Input) (input : Input) → AllByRecursion InputIsRead inputs → InputIsRead input → AllByRecursion InputIsRead (inputs ++ input ∷ [])
read_last [] input all read = (read, tt)
read_last (first ∷ inputs) input all read = (all.0, read_last inputs input all.1 read)

-- one input more is read
pub one_input_more : (inputs new : List Input) (input : Input) → AllByRecursion InputIsRead inputs → InputIsRead input → new ≡ inputs ++ input ∷ [] → AllByRecursion InputIsRead new
one_input_more inputs new input all read is = subst (AllByRecursion InputIsRead) (sym is) (read_last inputs input all read)
