-- How the files of images are read, one behind the other.
use Rattle.std.proofs.Common.{◌≡◌, ℕ, ◌+◌, ◌<◌, List, [], ◌∷◌, ◌++◌, length, take, suc, refl, sym, ap, ◌∙◌, subst, arith}
use Rattle.std.specs.Prelude.{Option, Result, Ok, Err, IfErr, IsErrAnd}
use Rattle.std.proofs.lemmas.List.{length-take}
use Rattle.tcf_outside.specs.Files.{FilesSeen}
use Rattle.tcf_outside.specs.declared.files.HeldFile.{HeldFile}
use Rattle.target_contexts.specs.declared.process.Image.{Image}
use Rattle.tcf_app.specs.declared.reading.Unread.{Unread}
use Rattle.tcf_app.specs.declared.reading.Unread.TheVariants as unread
use Rattle.tcf_app.specs.Words.{NamedFile}
use Rattle.tcf_app.specs.Heard.{AreNoted, HearsPart}
use Rattle.tcf_app.specs.Reading.{IsWholly, IsUnread, CountsUnread, NotesFailed}
use Rattle.tcf_app.specs.Ending.{images_with, contents_of}
use Rattle.tcf_app.proofs.Hearing.{SoFar, far_more, far_part}
use Rattle.tcf_app.proofs.Noting.{told_more, told_both}

-- what a refusal of the result has
pub err_by : {T : Type 0} (P Q : Unread → Type 0) (result : Result T Unread) → IsErrAnd result Q → ((u : Unread) → Q u → P u) → IfErr result P
err_by P Q (Ok value) is then = tt
err_by P Q (Err u) is then = then u is

contents_count : (images : List Image) → length (contents_of images) ≡ length images
contents_count [] = refl
contents_count (image ∷ images) = ap (λ n. suc n) (contents_count images)

contents_more : (images : List Image) (image : Image) → contents_of (images ++ image ∷ []) ≡ contents_of images ++ image.bytes ∷ []
contents_more [] image = refl
contents_more (first ∷ images) image = ap (λ cs. first.bytes ∷ cs) (contents_more images image)

images_more : (items : List Image) (named : List NamedFile) (image : Image) (one : NamedFile) → length named ≡ length items → items ≡ images_with named (contents_of items) → image.name ≡ one.name
    → items ++ image ∷ [] ≡ images_with (named ++ one ∷ []) (contents_of (items ++ image ∷ []))
images_more [] [] image one size is same =
    let named_so : List ℕ → Image = λ name. record { name = name; bytes = image.bytes } in
    ap (λ name. named_so name ∷ []) same
images_more [] (n ∷ named) image one size is same = absurd (omega arith)
images_more (item ∷ items) [] image one size is same = absurd (omega arith)
images_more (item ∷ items) (n ∷ named) image one size is same =
    let first_image : Image = record { name = n.name; bytes = item.bytes } in
    let head : item ≡ first_image = cc in
    let tail : items ≡ images_with named (contents_of items) = cc in
    ap (λ first. first ∷ (items ++ image ∷ [])) head ∙ ap (λ rest. first_image ∷ rest) (images_more items named image one (omega (arith, size)) tail same)

-- ---- one image more

pub named_step : (all : List NamedFile) (i : ℕ) (items items' : List Image) (image : Image) (one : NamedFile) → items ≡ images_with (take i all) (contents_of items)
    → length (contents_of items) ≡ i → i < length all → take (i + 1) all ≡ take i all ++ one ∷ [] → image.name ≡ one.name → items' ≡ items ++ image ∷ []
    → items' ≡ images_with (take (i + 1) all) (contents_of items')
named_step all i items items' image one named size below next same pushed =
    let short : length (take i all) ≡ length items = omega (arith, length-take i all, contents_count items) in
    pushed
    ∙ images_more items (take i all) image one short named same
    ∙ ap (λ ns. images_with ns (contents_of (items ++ image ∷ []))) (sym next)
    ∙ ap (λ is. images_with (take (i + 1) all) (contents_of is)) (sym pushed)

pub far_step : (names : List (List ℕ)) (i : ℕ) (held held_first : Option (List HeldFile)) (items items' : List Image) (image : Image) (name own : List ℕ)
    → SoFar names i held_first (contents_of items) → take (i + 1) names ≡ take i names ++ name ∷ [] → own ≡ name → held ≡ held_first
    → IsWholly own held image.bytes → items' ≡ items ++ image ∷ [] → SoFar names (i + 1) held_first (contents_of items')
far_step names i held held_first items items' image name own so_far next named kept is pushed =
    let here : IsWholly name held_first image.bytes = subst (λ h. IsWholly name h image.bytes) kept (subst (λ x. IsWholly x held image.bytes) named is) in
    subst (λ cs. SoFar names (i + 1) held_first cs) (sym (ap contents_of pushed ∙ contents_more items image))
    (far_more names i held_first (contents_of items) name image.bytes so_far next here)

pub told_step : (names : List (List ℕ)) (i : ℕ) (first now after : FilesSeen) (name own : List ℕ) → take (i + 1) names ≡ take i names ++ name ∷ [] → own ≡ name
    → AreNoted (take i names) first now → AreNoted (own ∷ []) now after → AreNoted (take (i + 1) names) first after
told_step names i first now after name own next named so_far noted =
    noted
    ∙ ap (λ x. told_more (x ∷ []) now.names) named
    ∙ ap (told_more (name ∷ [])) so_far
    ∙ told_both (take i names) (name ∷ []) first.names
    ∙ ap (λ ns. told_more ns first.names) (sym next)

-- ---- the next file wasn't read whole

failed_step : (names : List (List ℕ)) (i : ℕ) (first now after : FilesSeen) (name own : List ℕ) (u : Unread) → take (i + 1) names ≡ take i names ++ name ∷ [] → own ≡ name
    → AreNoted (take i names) first now → NotesFailed (own ∷ []) now after u → NotesFailed (take (i + 1) names) first after u
failed_step names i first now after name own (unread.Longer count) next named so_far noted = tt
failed_step names i first now after name own (unread.Failed count) next named so_far noted = told_step names i first now after name own next named so_far noted
failed_step names i first now after name own unread.NoMemory next named so_far noted = tt

pub part_step : (names : List (List ℕ)) (i size : ℕ) (first now after : FilesSeen) (items : List Image) (name own : List ℕ) (rest : List (List ℕ)) (u : Unread)
    → SoFar names i first.held (contents_of items) → names ≡ take i names ++ name ∷ rest → i < length names → own ≡ name → size ≡ length items
    → now.held ≡ first.held → now.faults ≡ first.faults → IsUnread own size now.held u → CountsUnread now.faults after.faults u
    → take (i + 1) names ≡ take i names ++ name ∷ [] → AreNoted (take i names) first now → NotesFailed (own ∷ []) now after u → HearsPart names first after u
part_step names i size first now after items name own rest u so_far parts below named sized kept calm is counts next told noted =
    let place : size ≡ i = sized ∙ sym (contents_count items) ∙ so_far.size in
    let here : IsUnread name i first.held u =
    subst (λ h. IsUnread name i h u) kept (subst (λ s. IsUnread name s now.held u) place (subst (λ x. IsUnread x size now.held u) named is)) in
    far_part names i first after (contents_of items) name rest u so_far parts below here (subst (λ c. CountsUnread c after.faults u) calm counts)
    (failed_step names i first now after name own u next named told noted)
