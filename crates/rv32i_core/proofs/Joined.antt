-- Bytes of memory as bytes of its pages.
use Rattle.std.proofs.Common.{◌≡◌, ℕ, zero, suc, ◌+◌, ◌-◌, ◌*◌, ◌/◌, ◌%◌, ◌<◌, ◌≤◌, List, [], ◌∷◌, ◌++◌, length, map, get_or, length-set, slice_get, slice_set, Option, Some, None, IsNone, ◌↔◌, refl, sym, ◌∙◌, ap, arith, length-append}
use Rattle.std.specs.Prelude.{slice_index}
use Rattle.std.proofs.lemmas.List.{length-map, map-set, set-append_left, set-append_right, get_or_append_left, get_or-append_right}
use Rattle.std.proofs.lemmas.List.Elements.{All-head, All-tail, All-get_or, All-set}
use Rattle.std.proofs.lemmas.Option.{get_or_from_slice_get, slice_get_past, slice_get_read, slice_get-map}
use Rattle.std.proofs.Math.Seq.{map-set_same}
use Rattle.rv32i_core.specs.Bytes.{word_at}
use Rattle.rv32i_core.specs.PageKind.{PageKind}
use Rattle.rv32i_core.specs.Pages.{AreWide, IsWhole, joined, kind_of, page_bytes, pages_bytes}
use Rattle.rv32i_core.specs.declared.page.Page.{Page}

-- ---- lists of 256 bytes, one behind another

head_wide : (x : List ℕ) (xs : List (List ℕ)) → AreWide (x ∷ xs) → length x ≡ 256
head_wide x xs wide = All-head (λ (y : List ℕ). length y ≡ 256) x xs wide

tail_wide : (x : List ℕ) (xs : List (List ℕ)) → AreWide (x ∷ xs) → AreWide xs
tail_wide x xs wide = All-tail (λ (y : List ℕ). length y ≡ 256) x xs wide

pub joined_length : (xs : List (List ℕ)) → AreWide xs → length (joined xs) ≡ 256 * length xs
joined_length [] wide = refl
joined_length (x ∷ xs) wide =
    let h : length x ≡ 256 = head_wide x xs wide in
    let t : length (joined xs) ≡ 256 * length xs = joined_length xs (tail_wide x xs wide) in
    omega (arith, length-append x (joined xs), h, t)

get_left : (xs ys : List ℕ) (i : ℕ) → i < length xs → slice_get (xs ++ ys) i ≡ slice_get xs i
get_left [] ys i inside = absurd (omega arith)
get_left (x ∷ xs) ys zero inside = refl
get_left (x ∷ xs) ys (suc i) inside = get_left xs ys i (omega arith)

get_right : (xs ys : List ℕ) (n i : ℕ) → length xs ≡ n → slice_get (xs ++ ys) (n + i) ≡ slice_get ys i
get_right [] ys n i long = let e : n + i ≡ i = omega (arith, long) in rw e refl
get_right (x ∷ xs) ys zero i long = absurd (omega arith)
get_right (x ∷ xs) ys (suc n) i long =
    let e : suc n + i ≡ suc (n + i) = omega arith in rw e (get_right xs ys n i (omega arith))

-- the byte o of part i
joined_get : (xs : List (List ℕ)) (i o : ℕ) (d : List ℕ) → AreWide xs → i < length xs → o < 256 → slice_get (joined xs) (256 * i + o) ≡ slice_get (get_or xs i d) o
joined_get [] i o d wide inside low = absurd (omega arith)
joined_get (x ∷ xs) zero o d wide inside low =
    let h : length x ≡ 256 = head_wide x xs wide in
    let e : 256 * zero + o ≡ o = omega arith in
    rw e (get_left x (joined xs) o (omega (arith, h)))
joined_get (x ∷ xs) (suc i) o d wide inside low =
    let h : length x ≡ 256 = head_wide x xs wide in
    let t = joined_get xs i o d (tail_wide x xs wide) (omega arith) low in
    let e : 256 * suc i + o ≡ 256 + (256 * i + o) = omega arith in
    rw (e, get_right x (joined xs) 256 (256 * i + o) h) t

joined_index : (xs : List (List ℕ)) (i o : ℕ) (d : List ℕ) → AreWide xs → i < length xs → o < 256 → slice_index (joined xs) (256 * i + o) ≡ slice_index (get_or xs i d) o
joined_index [] i o d wide inside low = absurd (omega arith)
joined_index (x ∷ xs) zero o d wide inside low =
    let h : length x ≡ 256 = head_wide x xs wide in
    let e : 256 * zero + o ≡ o = omega arith in
    rw e (get_or_append_left x (joined xs) 0 o (omega (arith, h)))
joined_index (x ∷ xs) (suc i) o d wide inside low =
    let h : length x ≡ 256 = head_wide x xs wide in
    let t = joined_index xs i o d (tail_wide x xs wide) (omega arith) low in
    let e : (256 * suc i + o) - 256 ≡ 256 * i + o = omega arith in
    get_or-append_right x (joined xs) 256 (256 * suc i + o) 0 h (omega arith) ∙ rw e t

pub joined_set : (xs : List (List ℕ)) (i o v : ℕ) (d : List ℕ) → AreWide xs → i < length xs → o < 256 → slice_set (joined xs) (256 * i + o) v ≡ joined (slice_set xs i (slice_set (get_or xs i d) o v))
joined_set [] i o v d wide inside low = absurd (omega arith)
joined_set (x ∷ xs) zero o v d wide inside low =
    let h : length x ≡ 256 = head_wide x xs wide in
    let e : 256 * zero + o ≡ o = omega arith in
    rw e (set-append_left x (joined xs) o v (omega (arith, h)))
joined_set (x ∷ xs) (suc i) o v d wide inside low =
    let h : length x ≡ 256 = head_wide x xs wide in
    let t = joined_set xs i o v d (tail_wide x xs wide) (omega arith) low in
    let e : (256 * suc i + o) - 256 ≡ 256 * i + o = omega arith in
    set-append_right x (joined xs) 256 (256 * suc i + o) v h (omega arith) ∙ rw (e, t) refl

-- ---- a page among the pages

pub bytes_there : (pages : List Page) (i : ℕ) (page : Page) → i < length pages → page ≡ get_or pages i page → get_or (map page_bytes pages) i [] ≡ page_bytes page
bytes_there pages i page inside there =
    let found : slice_get pages i ≡ Some page = slice_get_read pages (length pages) i page refl inside there in
    let shown : slice_get (map page_bytes pages) i ≡ Some (page_bytes page) = rw (slice_get-map page_bytes pages i, found) refl in
    get_or_from_slice_get (map page_bytes pages) i (page_bytes page) [] shown

pub wide_at : (pages : List Page) (i : ℕ) (page : Page) → IsWhole pages → i < length pages → page ≡ get_or pages i page → length (page_bytes page) ≡ 256
wide_at pages i page whole inside there =
    let below : i < length (map page_bytes pages) = omega (arith, inside, length-map pages page_bytes) in
    ap (λ (xs : List ℕ). length xs) (sym (bytes_there pages i page inside there)) ∙ All-get_or (λ (y : List ℕ). length y ≡ 256) (map page_bytes pages) i [] below whole.wide

pub whole_size : (pages : List Page) → IsWhole pages → length (pages_bytes pages) ≡ 65536
whole_size pages whole = omega (arith, joined_length (map page_bytes pages) whole.wide, length-map pages page_bytes, whole.count)

-- the byte at an address is one of the page there
pub byte_there : (pages : List Page) (place : ℕ) (page : Page) → IsWhole pages → place / 256 < length pages → page ≡ get_or pages (place / 256) page → slice_get (pages_bytes pages) place ≡ slice_get (page_bytes page) (place % 256)
byte_there pages place page whole inside there =
    let long : length (map page_bytes pages) ≡ length pages = length-map pages page_bytes in
    let e : 256 * (place / 256) + place % 256 ≡ place = omega arith in
    let low : place % 256 < 256 = omega arith in
    let got = joined_get (map page_bytes pages) (place / 256) (place % 256) [] whole.wide (omega (arith, inside, long)) low in
    ap (λ n. slice_get (joined (map page_bytes pages)) n) (sym e) ∙ got ∙ ap (λ (xs : List ℕ). slice_get xs (place % 256)) (bytes_there pages (place / 256) page inside there)

pub byte_past : (pages : List Page) (place : ℕ) → IsWhole pages → length pages ≤ place / 256 → slice_get (pages_bytes pages) place ≡ None
byte_past pages place whole past = slice_get_past (pages_bytes pages) place (omega (arith, joined_length (map page_bytes pages) whole.wide, length-map pages page_bytes, past))

pub index_there : (pages : List Page) (place : ℕ) (page : Page) → IsWhole pages → place / 256 < length pages → page ≡ get_or pages (place / 256) page → slice_index (pages_bytes pages) place ≡ slice_index (page_bytes page) (place % 256)
index_there pages place page whole inside there =
    let long : length (map page_bytes pages) ≡ length pages = length-map pages page_bytes in
    let e : 256 * (place / 256) + place % 256 ≡ place = omega arith in
    let low : place % 256 < 256 = omega arith in
    let got = joined_index (map page_bytes pages) (place / 256) (place % 256) [] whole.wide (omega (arith, inside, long)) low in
    ap (λ n. slice_index (joined (map page_bytes pages)) n) (sym e) ∙ got ∙ ap (λ (xs : List ℕ). slice_index xs (place % 256)) (bytes_there pages (place / 256) page inside there)

-- a byte behind it, in the same page
index_by : (pages : List Page) (place k : ℕ) (page : Page) → IsWhole pages → place / 256 < length pages → page ≡ get_or pages (place / 256) page → place % 256 + k < 256 → slice_index (pages_bytes pages) (place + k) ≡ slice_index (page_bytes page) (place % 256 + k)
index_by pages place k page whole inside there low =
    let same : (place + k) / 256 ≡ place / 256 = omega (arith, low) in
    let at : (place + k) % 256 ≡ place % 256 + k = omega (arith, low) in
    index_there pages (place + k) page whole (omega (arith, same, inside)) (there ∙ ap (λ n. get_or pages n page) (sym same)) ∙ ap (λ n. slice_index (page_bytes page) n) at

index_last : (pages : List Page) (place : ℕ) (page : Page) → IsWhole pages → place / 256 < length pages → page ≡ get_or pages (place / 256) page → place % 256 ≤ 252 → slice_index (pages_bytes pages) (place + 2 + 1) ≡ slice_index (page_bytes page) (place % 256 + 2 + 1)
index_last pages place page whole inside there low =
    let far : place + 2 + 1 ≡ place + 3 = omega arith in
    let near : place % 256 + 3 ≡ place % 256 + 2 + 1 = omega arith in
    ap (λ n. slice_index (pages_bytes pages) n) far ∙ index_by pages place 3 page whole inside there (omega (arith, low)) ∙ ap (λ n. slice_index (page_bytes page) n) near

-- four bytes of one page
pub word_there : (pages : List Page) (place : ℕ) (page : Page) → IsWhole pages → place / 256 < length pages → page ≡ get_or pages (place / 256) page → place % 256 ≤ 252 → word_at (pages_bytes pages) place ≡ word_at (page_bytes page) (place % 256)
word_there pages place page whole inside there low =
    rw (index_there pages place page whole inside there, index_by pages place 1 page whole inside there (omega (arith, low)), index_by pages place 2 page whole inside there (omega (arith, low)), index_last pages place page whole inside there low) refl

-- ---- a page that is written

-- a byte that is put into the page there
pub byte_written : (pages : List Page) (place v : ℕ) (page new : Page) → IsWhole pages → place / 256 < length pages → page ≡ get_or pages (place / 256) page
    → page_bytes new ≡ slice_set (page_bytes page) (place % 256) v → pages_bytes (slice_set pages (place / 256) new) ≡ slice_set (pages_bytes pages) place v
byte_written pages place v page new whole inside there written =
    let long : length (map page_bytes pages) ≡ length pages = length-map pages page_bytes in
    let e : 256 * (place / 256) + place % 256 ≡ place = omega arith in
    let low : place % 256 < 256 = omega arith in
    let got = joined_set (map page_bytes pages) (place / 256) (place % 256) v [] whole.wide (omega (arith, inside, long)) low in
    rw (map-set page_bytes pages (place / 256) new, written, ← bytes_there pages (place / 256) page inside there) (sym got ∙ ap (λ n. slice_set (joined (map page_bytes pages)) n v) e)

-- a page of the same bytes in its place
pub same_written : (pages : List Page) (i : ℕ) (page new : Page) → page ≡ get_or pages i page → page_bytes new ≡ page_bytes page → map page_bytes (slice_set pages i new) ≡ map page_bytes pages
same_written pages i page new there same = map-set_same page_bytes pages i new page (same ∙ ap page_bytes there)

pub whole_written : (pages : List Page) (i : ℕ) (new : Page) → IsWhole pages → length (page_bytes new) ≡ 256 → IsWhole (slice_set pages i new)
whole_written pages i new whole long = record {
  count = length-set pages i new ∙ whole.count;
  wide = rw (map-set page_bytes pages i new) (All-set (λ (y : List ℕ). length y ≡ 256) (map page_bytes pages) i (page_bytes new) long whole.wide);
}

pub kinds_set : (pages : List Page) (i : ℕ) (new : Page) (kind : PageKind) → kind_of new ≡ kind → map kind_of (slice_set pages i new) ≡ slice_set (map kind_of pages) i kind
kinds_set pages i new kind same = map-set kind_of pages i new ∙ ap (λ (k : PageKind). slice_set (map kind_of pages) i k) same

pub kinds_kept : (pages : List Page) (i : ℕ) (page new : Page) → page ≡ get_or pages i page → kind_of new ≡ kind_of page → map kind_of (slice_set pages i new) ≡ map kind_of pages
kinds_kept pages i page new there same = map-set_same kind_of pages i new page (same ∙ ap kind_of there)

pub kind_at : (pages : List Page) (i : ℕ) (page : Page) → i < length pages → page ≡ get_or pages i page → slice_get (map kind_of pages) i ≡ Some (kind_of page)
kind_at pages i page inside there =
    let found : slice_get pages i ≡ Some page = slice_get_read pages (length pages) i page refl inside there in
    rw (slice_get-map kind_of pages i, found) refl

pub kind_past : (pages : List Page) (i : ℕ) → length pages ≤ i → slice_get (map kind_of pages) i ≡ None
kind_past pages i past = slice_get_past (map kind_of pages) i (omega (arith, length-map pages kind_of, past))

-- ---- where nothing is read

none_at : (xs : List ℕ) (place : ℕ) → IsNone (slice_get xs place) → length xs ≤ place
none_at [] place none = omega arith
none_at (x ∷ xs) zero none = cc
none_at (x ∷ xs) (suc place) none = let h : length xs ≤ place = none_at xs place none in omega (arith, h)

past_at : (xs : List ℕ) (place : ℕ) → length xs ≤ place → IsNone (slice_get xs place)
past_at xs place past = rw (slice_get_past xs place past) refl

pub none_past : (xs : List ℕ) (place : ℕ) (o : Option ℕ) → length xs ≡ 65536 → o ≡ slice_get xs place → IsNone o ↔ (65535 < place)
none_past xs place o long same = rw same (λ n. omega (arith, long, none_at xs place n), λ p. past_at xs place (omega (arith, long, p)))
