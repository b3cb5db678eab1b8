-- An image cut into pages, and the memory that begins with it.
use Rattle.std.proofs.Common.{◌≡◌, ℕ, zero, suc, ◌+◌, ◌-◌, ◌*◌, ◌/◌, ◌%◌, ◌<◌, ◌≤◌, List, [], ◌∷◌, ◌++◌, length, map, take, drop, replicate, refl, sym, subst, ◌∙◌, ap, arith, append_assoc, append-nil, length-append, take-append-drop}
use Rattle.std.proofs.lemmas.List.{length-map, length-replicate, length_push, map-append, replicate-append-replicate, replicate_more}
use Rattle.std.proofs.lemmas.List.Elements.{All-append, All-push, All-replicate}
use Rattle.rv32i_core.specs.Bytes.{image_memory}
use Rattle.rv32i_core.specs.PageKind.{PageKind, absent, shared}
use Rattle.rv32i_core.specs.Pages.{AreWide, IsImage, filled_up, image_kinds, joined, kind_of, page_bytes, pages_bytes}
use Rattle.rv32i_core.specs.declared.page.Page.{Page}
use Rattle.rv32i_core.specs.declared.page.Page.TheVariants.{Absent}
use Rattle.rv32i_core.proofs.Joined.{joined_length}

pub joined_append : (xs ys : List (List ℕ)) → joined (xs ++ ys) ≡ joined xs ++ joined ys
joined_append [] ys = refl
joined_append (x ∷ xs) ys = ap (λ (zs : List ℕ). x ++ zs) (joined_append xs ys) ∙ sym (append_assoc x (joined xs) (joined ys))

joined_zeros : (width count : ℕ) → joined (replicate count (replicate width 0)) ≡ replicate (width * count) 0
joined_zeros width zero = let e : 0 ≡ width * zero = omega arith in ap (λ n. replicate n 0) e
joined_zeros width (suc count) =
    let e : width + width * count ≡ width * suc count = omega arith in
    ap (λ (zs : List ℕ). replicate width 0 ++ zs) (joined_zeros width count) ∙ replicate-append-replicate width (width * count) 0 ∙ ap (λ n. replicate n 0) e

-- the lists of bytes that things say, with one more
pub wide_push : {A : Type 0} (f : A → List ℕ) (items : List A) (x : A) → AreWide (map f items) → length (f x) ≡ 256 → AreWide (map f (items ++ x ∷ []))
wide_push f items x wide long =
    subst AreWide (sym (map-append f items (x ∷ []))) (All-push (λ (y : List ℕ). length y ≡ 256) (map f items) (f x) wide long)

joined_push : {A : Type 0} (f : A → List ℕ) (items : List A) (x : A) → joined (map f (items ++ x ∷ [])) ≡ joined (map f items) ++ f x
joined_push f items x =
    ap joined (map-append f items (x ∷ [])) ∙ joined_append (map f items) (f x ∷ []) ∙ ap (λ (zs : List ℕ). joined (map f items) ++ zs) (append-nil (f x))

-- ---- an image is cut

-- one page more
pub part_more : {A : Type 0} (f : A → List ℕ) (items : List A) (x : A) (part rest later image : List ℕ) → joined (map f items) ++ rest ≡ image → f x ≡ part → part ≡ take 256 rest → later ≡ drop 256 rest
    → joined (map f (items ++ x ∷ [])) ++ later ≡ image
part_more f items x part rest later image so_far is front back =
    let cut : f x ++ later ≡ rest =
    ap (λ (xs : List ℕ). xs ++ later) (is ∙ front) ∙ ap (λ (xs : List ℕ). take 256 rest ++ xs) back ∙ take-append-drop 256 rest in
    ap (λ (zs : List ℕ). zs ++ later) (joined_push f items x) ∙ append_assoc (joined (map f items)) (f x) later
    ∙ ap (λ (zs : List ℕ). joined (map f items) ++ zs) cut ∙ so_far

-- nothing is left
pub cut_whole : (parts : List (List ℕ)) (rest image : List ℕ) → AreWide parts → joined parts ++ rest ≡ image → length rest ≡ 0 → joined parts ≡ filled_up image
cut_whole parts [] image wide so_far none =
    let same : joined parts ≡ image = sym (append-nil (joined parts)) ∙ so_far in
    let long : length image ≡ 256 * length parts = sym (ap (λ (zs : List ℕ). length zs) same) ∙ joined_length parts wide in
    let e : 0 ≡ (256 - length image % 256) % 256 = omega (arith, long) in
    same ∙ sym (append-nil image) ∙ ap (λ n. image ++ replicate n 0) e
cut_whole parts (byte ∷ rest) image wide so_far none = absurd (omega arith)

pub few_whole : (parts : List (List ℕ)) (rest image : List ℕ) → AreWide parts → joined parts ++ rest ≡ image → length image ≤ 65536 → length parts ≤ 256
few_whole parts rest image wide so_far small =
    let long : length (joined parts) + length rest ≡ length image = sym (length-append (joined parts) rest) ∙ ap (λ (zs : List ℕ). length zs) so_far in
    omega (arith, long, joined_length parts wide, small)

-- less than a page is left, and zeros fill it up
pub cut_last : {A : Type 0} (f : A → List ℕ) (items : List A) (x : A) (rest last image : List ℕ) → AreWide (map f items) → joined (map f items) ++ rest ≡ image → 0 < length rest → length rest < 256
    → f x ≡ last → last ≡ rest ++ replicate (256 - length rest) 0 → joined (map f (items ++ x ∷ [])) ≡ filled_up image
cut_last f items x rest last image wide so_far some less says is =
    let parts : List (List ℕ) = map f items in
    let long : length (joined parts) + length rest ≡ length image = sym (length-append (joined parts) rest) ∙ ap (λ (zs : List ℕ). length zs) so_far in
    let e : 256 - length rest ≡ (256 - length image % 256) % 256 = omega (arith, long, joined_length parts wide, some, less) in
    joined_push f items x ∙ ap (λ (zs : List ℕ). joined parts ++ zs) (says ∙ is)
    ∙ sym (append_assoc (joined parts) rest (replicate (256 - length rest) 0))
    ∙ ap (λ (zs : List ℕ). zs ++ replicate (256 - length rest) 0) so_far
    ∙ ap (λ n. image ++ replicate n 0) e

pub few_last : {A : Type 0} (f : A → List ℕ) (items : List A) (x : A) (rest image : List ℕ) → AreWide (map f items) → joined (map f items) ++ rest ≡ image → 0 < length rest → length image ≤ 65536 → length (map f (items ++ x ∷ [])) ≤ 256
few_last f items x rest image wide so_far some small =
    let long : length (joined (map f items)) + length rest ≡ length image = sym (length-append (joined (map f items)) rest) ∙ ap (λ (zs : List ℕ). length zs) so_far in
    omega (arith, long, joined_length (map f items) wide, small, some, length-map items f, length-map (items ++ x ∷ []) f, length_push items x)

-- the zeros behind it are those of memory
pub filled_memory : (image : List ℕ) → length image ≤ 65536 → image_memory (filled_up image) ≡ image_memory image
unfolding image_memory
filled_memory image small =
    let more : ℕ = (256 - length image % 256) % 256 in
    let long : length (filled_up image) ≡ length image + more = length-append image (replicate more 0) ∙ ap (λ n. length image + n) (length-replicate more 0) in
    let fits : more + (65536 - length (filled_up image)) ≡ 65536 - length image = omega (arith, long, small) in
    append_assoc image (replicate more 0) (replicate (65536 - length (filled_up image)) 0)
    ∙ ap (λ (zs : List ℕ). image ++ zs) (replicate-append-replicate more (65536 - length (filled_up image)) 0 ∙ ap (λ n. replicate n 0) fits)

-- ---- the pages of a memory

-- an absent page more
pub absent_more : {A : Type 0} (f : Page → A) (old made : List Page) → length old ≤ length made → map f made ≡ map f old ++ replicate (length made - length old) (f Absent)
    → map f (made ++ Absent ∷ []) ≡ map f old ++ replicate (length (made ++ Absent ∷ []) - length old) (f Absent)
absent_more f old made more so_far =
    let e : (length made - length old) + 1 ≡ length (made ++ Absent ∷ []) - length old = omega (arith, length_push made Absent, more) in
    map-append f made (Absent ∷ []) ∙ ap (λ zs. zs ++ f Absent ∷ []) so_far
    ∙ append_assoc (map f old) (replicate (length made - length old) (f Absent)) (f Absent ∷ [])
    ∙ ap (λ zs. map f old ++ zs) (replicate_more (length made - length old) (f Absent) ∙ ap (λ n. replicate n (f Absent)) e)

-- a shared page more
pub shared_more : (made : List Page) (new : Page) (count : ℕ) → map kind_of made ≡ replicate count shared → kind_of new ≡ shared → map kind_of (made ++ new ∷ []) ≡ replicate (count + 1) shared
shared_more made new count so_far is =
    map-append kind_of made (new ∷ []) ∙ ap (λ (ks : List PageKind). ks ++ kind_of new ∷ []) so_far
    ∙ ap (λ (k : PageKind). replicate count shared ++ k ∷ []) is ∙ replicate_more count shared

-- as many pages as the image has parts
pub as_many : (parts : List (List ℕ)) (pages : List Page) → map page_bytes pages ≡ parts → length pages ≡ length parts
as_many parts pages is = sym (length-map pages page_bytes) ∙ ap (λ (ps : List (List ℕ)). length ps) is

pub few_shared : (parts : List (List ℕ)) (pages : List Page) → IsImage parts → map page_bytes pages ≡ parts → length pages ≤ 256
few_shared parts pages image is = omega (arith, as_many parts pages is, image.few)

-- the bytes of all pages, from those that are shared and those that are absent
all_bytes : (parts : List (List ℕ)) (begun pages : List Page) → map page_bytes begun ≡ parts → map page_bytes pages ≡ map page_bytes begun ++ replicate (256 - length begun) (replicate 256 0)
    → map page_bytes pages ≡ parts ++ replicate (256 - length parts) (replicate 256 0)
all_bytes parts begun pages is more =
    more ∙ ap (λ (ps : List (List ℕ)). ps ++ replicate (256 - length begun) (replicate 256 0)) is
    ∙ ap (λ n. parts ++ replicate (256 - n) (replicate 256 0)) (as_many parts begun is)

pub image_pages : (parts : List (List ℕ)) (begun pages : List Page) → IsImage parts → map page_bytes begun ≡ parts → map page_bytes pages ≡ map page_bytes begun ++ replicate (256 - length begun) (replicate 256 0)
    → pages_bytes pages ≡ image_memory (joined parts)
unfolding image_memory
image_pages parts begun pages image is more =
    let long : length (joined parts) ≡ 256 * length parts = joined_length parts image.wide in
    let e : 256 * (256 - length parts) ≡ 65536 - length (joined parts) = omega (arith, long, image.few) in
    ap joined (all_bytes parts begun pages is more) ∙ joined_append parts (replicate (256 - length parts) (replicate 256 0))
    ∙ ap (λ (zs : List ℕ). joined parts ++ zs) (joined_zeros 256 (256 - length parts) ∙ ap (λ n. replicate n 0) e)

pub image_wide : (parts : List (List ℕ)) (begun pages : List Page) → IsImage parts → map page_bytes begun ≡ parts → map page_bytes pages ≡ map page_bytes begun ++ replicate (256 - length begun) (replicate 256 0)
    → AreWide (map page_bytes pages)
image_wide parts begun pages image is more =
    subst AreWide (sym (all_bytes parts begun pages is more))
    (All-append (λ (y : List ℕ). length y ≡ 256) parts (replicate (256 - length parts) (replicate 256 0)) image.wide
    (All-replicate (λ (y : List ℕ). length y ≡ 256) (256 - length parts) (replicate 256 0) refl))

pub kinds_of_image : (parts : List (List ℕ)) (begun pages : List Page) (count : ℕ) → IsImage parts → map page_bytes begun ≡ parts → length begun ≡ count → map kind_of begun ≡ replicate count shared
    → map kind_of pages ≡ map kind_of begun ++ replicate (256 - length begun) absent → map kind_of pages ≡ image_kinds (length (joined parts) / 256)
kinds_of_image parts begun pages count image is counted kinds more =
    let long : length (joined parts) ≡ 256 * length parts = joined_length parts image.wide in
    let e : count ≡ length (joined parts) / 256 = omega (arith, long, counted, as_many parts begun is) in
    more ∙ ap (λ (ks : List PageKind). ks ++ replicate (256 - length begun) absent) kinds
    ∙ ap (λ n. replicate count shared ++ replicate (256 - n) absent) counted ∙ ap image_kinds e
