-- Which pages are own after a write, and how many spare pages are left.
use Rattle.std.proofs.Common.{◌≡◌, ℕ, zero, suc, ◌+◌, ◌-◌, ◌/◌, ◌<◌, ◌≤◌, ◌⊎◌, inl, inr, cond, List, [], ◌∷◌, ◌++◌, length, map, get_or, take, drop, length-set, slice_get, slice_set, Option, Some, None, refl, sym, subst, ◌∙◌, ap, arith, append_assoc, length-append, length-take, length-drop, replicate}
use Rattle.std.proofs.lemmas.Bool.{cases_eq, cases_lt}
use Rattle.std.proofs.lemmas.List.{drop_more, length-take-le, set_at, set_past, take-append-drop, take_more}
use Rattle.std.proofs.lemmas.List.Sums.{sum_by-append, sum_by-set}
use Rattle.std.proofs.lemmas.Option.{get_or_from_slice_get, slice_get_within}
use Rattle.rv32i_core.specs.Bytes.{with_bytes}
use Rattle.rv32i_core.specs.PageKind.{PageKind, MemoryValue, absent, shared, own, is_own, own_count, to_own}
use Rattle.rv32i_core.specs.Owning.{AreOwn, BecomeOwn, PagesAreOwn, RangeIsOwn, Touches}
use Rattle.rv32i_core.specs.Pages.{IsWhole, image_kinds, page_bytes}
use Rattle.rv32i_core.specs.declared.page.Page.{Page}

-- ---- a list with one element set

pub get_set_same : (kinds : List PageKind) (i : ℕ) (kind : PageKind) → i < length kinds → slice_get (slice_set kinds i kind) i ≡ Some kind
get_set_same [] i kind inside = absurd (omega arith)
get_set_same (first ∷ kinds) zero kind inside = refl
get_set_same (first ∷ kinds) (suc i) kind inside = get_set_same kinds i kind (omega arith)

pub get_set_other : (kinds : List PageKind) (i j : ℕ) (kind : PageKind) → (j ≡ i → ⊥) → slice_get (slice_set kinds i kind) j ≡ slice_get kinds j
get_set_other [] i j kind apart = refl
get_set_other (first ∷ kinds) zero zero kind apart = absurd (apart refl)
get_set_other (first ∷ kinds) zero (suc j) kind apart = refl
get_set_other (first ∷ kinds) (suc i) zero kind apart = refl
get_set_other (first ∷ kinds) (suc i) (suc j) kind apart = get_set_other kinds i j kind (λ same. apart (ap suc same))

get_set_either : (kinds : List PageKind) (i j : ℕ) → (slice_get (slice_set kinds i own) j ≡ slice_get kinds j) ⊎ (slice_get (slice_set kinds i own) j ≡ Some own)
get_set_either [] i j = inl refl
get_set_either (first ∷ kinds) zero zero = inr refl
get_set_either (first ∷ kinds) zero (suc j) = inl refl
get_set_either (first ∷ kinds) (suc i) zero = inl refl
get_set_either (first ∷ kinds) (suc i) (suc j) = get_set_either kinds i j

-- ---- how many are own

one_taken : (kind : PageKind) → cond (is_own kind) 1 0 + to_own (Some kind) ≡ 1
one_taken absent = refl
one_taken shared = refl
one_taken own = refl

own_set_by : (kinds : List PageKind) (i : ℕ) (found : Option PageKind) → slice_get kinds i ≡ found → own_count (slice_set kinds i own) ≡ own_count kinds + to_own found
own_set_by kinds i None is =
    let past : length kinds ≤ i = none_there kinds i is in
    let none : own_count kinds ≡ own_count kinds + 0 = omega arith in
    ap own_count (set_past kinds i own past) ∙ none
  where
    none_there : (ks : List PageKind) (j : ℕ) → slice_get ks j ≡ None → length ks ≤ j
    none_there [] j none = omega arith
    none_there (k ∷ ks) zero none = cc
    none_there (k ∷ ks) (suc j) none = let h : length ks ≤ j = none_there ks j none in omega (arith, h)
own_set_by kinds i (Some kind) is =
    let inside : i < length kinds = slice_get_within kinds i kind is in
    let there : get_or kinds i own ≡ kind = get_or_from_slice_get kinds i kind own is in
    let moved : own_count (slice_set kinds i own) + cond (is_own (get_or kinds i own)) 1 0 ≡ own_count kinds + 1 = sum_by-set (λ (k : PageKind). cond (is_own k) 1 0) kinds i own own inside in
    let moved' : own_count (slice_set kinds i own) + cond (is_own kind) 1 0 ≡ own_count kinds + 1 = rw there at moved in
    omega (arith, moved', one_taken kind)

pub own_set : (kinds : List PageKind) (i : ℕ) → own_count (slice_set kinds i own) ≡ own_count kinds + to_own (slice_get kinds i)
own_set kinds i = own_set_by kinds i (slice_get kinds i) refl

pub to_own_small : (found : Option PageKind) → to_own found ≤ 1
to_own_small None = omega arith
to_own_small (Some absent) = omega arith
to_own_small (Some shared) = omega arith
to_own_small (Some own) = omega arith

none_absent : (count : ℕ) → own_count (replicate count absent) ≡ 0
none_absent zero = refl
none_absent (suc count) = none_absent count

none_shared : (count : ℕ) → own_count (replicate count shared) ≡ 0
none_shared zero = refl
none_shared (suc count) = none_shared count

-- of the pages of a new memory none is own
pub none_own_at_first : (kinds : List PageKind) (count : ℕ) → kinds ≡ image_kinds count → own_count kinds ≡ 0
none_own_at_first kinds count is =
    let both = sum_by-append (λ (k : PageKind). cond (is_own k) 1 0) (replicate count shared) (replicate (256 - count) absent) in
    ap own_count is ∙ both ∙ omega (arith, none_shared count, none_absent (256 - count))

-- ---- pages that become own

pub one_becomes : (before after : MemoryValue) (page : ℕ) → after.kinds ≡ slice_set before.kinds page own → after.spare + to_own (slice_get before.kinds page) ≡ before.spare → BecomeOwn 1 before after
one_becomes before after page kinds spare =
    let counted : own_count after.kinds ≡ own_count before.kinds + to_own (slice_get before.kinds page) = ap own_count kinds ∙ own_set before.kinds page in
    record {
      others = λ other. subst (λ (ks : List PageKind). (slice_get ks other ≡ slice_get before.kinds other) ⊎ (slice_get ks other ≡ Some own)) (sym kinds) (get_set_either before.kinds page other);
      count = ap (λ (ks : List PageKind). length ks) kinds ∙ length-set before.kinds page own;
      few = omega (arith, counted, to_own_small (slice_get before.kinds page));
      spare = omega (arith, counted, spare);
    }

pub none_become : (most : ℕ) (memory : MemoryValue) → BecomeOwn most memory memory
none_become most memory = record { others = λ page. inl refl; count = refl; few = omega arith; spare = refl }

pub both_become : (m n most : ℕ) (a b c : MemoryValue) → m + n ≤ most → BecomeOwn m a b → BecomeOwn n b c → BecomeOwn most a c
both_become m n most a b c enough first second = record {
  others = λ page. by page (second.others page);
  count = second.count ∙ first.count;
  few = omega (arith, first.few, second.few, enough);
  spare = second.spare ∙ first.spare;
}
  where
    by : (page : ℕ) → (slice_get c.kinds page ≡ slice_get b.kinds page) ⊎ (slice_get c.kinds page ≡ Some own) → (slice_get c.kinds page ≡ slice_get a.kinds page) ⊎ (slice_get c.kinds page ≡ Some own)
    by page (inr now) = inr now
    by page (inl same) = before page same (first.others page)
      where
        before : (q : ℕ) → slice_get c.kinds q ≡ slice_get b.kinds q → (slice_get b.kinds q ≡ slice_get a.kinds q) ⊎ (slice_get b.kinds q ≡ Some own) → (slice_get c.kinds q ≡ slice_get a.kinds q) ⊎ (slice_get c.kinds q ≡ Some own)
        before q e (inl f) = inl (e ∙ f)
        before q e (inr f) = inr (e ∙ f)

pub fewer_become : (m most : ℕ) (a b : MemoryValue) → m ≤ most → BecomeOwn m a b → BecomeOwn most a b
fewer_become m most a b enough some = record {
  others = some.others;
  count = some.count;
  few = omega (arith, some.few, enough);
  spare = some.spare;
}

-- ---- a range of pages

pub none_own : (first : ℕ) (kinds : List PageKind) → PagesAreOwn first first kinds kinds
none_own first kinds = record {
  owned = λ page from under. absurd (omega arith);
  below = λ page under. refl;
  above = λ page from. refl;
}

pub one_own_more : (first page : ℕ) (before kinds after : List PageKind) → PagesAreOwn first page before kinds → first ≤ page → page < length kinds → after ≡ slice_set kinds page own → PagesAreOwn first (page + 1) before after
one_own_more first page before kinds after so_far order inside written = record {
  owned = λ other from under. rw written (by other from under (cases_eq other page));
  below = λ other under. rw written (get_set_other kinds page other own (λ same. omega arith) ∙ so_far.below other under);
  above = λ other from. rw written (get_set_other kinds page other own (λ same. omega arith) ∙ so_far.above other (omega arith));
}
  where
    by : (other : ℕ) → first ≤ other → other < page + 1 → (other ≡ page) ⊎ (other ≡ page → ⊥) → slice_get (slice_set kinds page own) other ≡ Some own
    by other from under (inl same) = subst (λ q. slice_get (slice_set kinds page own) q ≡ Some own) (sym same) (get_set_same kinds page own inside)
    by other from under (inr apart) = get_set_other kinds page other own apart ∙ so_far.owned other from (under_page other under apart)
      where
        under_page : (q : ℕ) → q < page + 1 → (q ≡ page → ⊥) → q < page
        under_page q less other_one = elim (cases_lt q page) as (λ _. q < page) [ inl it ↦ it | inr it ↦ absurd (other_one (omega arith)) ]

-- the pages of a range are those from its first byte's up to its last byte's
pub range_own : (place count : ℕ) (before after : List PageKind) → 0 < count → PagesAreOwn (place / 256) ((place + count - 1) / 256 + 1) before after → RangeIsOwn place count before after
range_own place count before after some pages = record {
  owned = λ page touched. pages.owned page (omega (arith, touched.begins)) (omega (arith, touched.ends));
  others = λ page free. by page free (cases_lt page (place / 256)) (cases_lt page ((place + count - 1) / 256 + 1));
}
  where
    by : (page : ℕ) → (Touches place count page → ⊥) → (page < place / 256) ⊎ (place / 256 ≤ page) → (page < (place + count - 1) / 256 + 1) ⊎ ((place + count - 1) / 256 + 1 ≤ page) → slice_get after page ≡ slice_get before page
    by page free (inl under) end = pages.below page under
    by page free (inr from) (inr past) = pages.above page past
    by page free (inr from) (inl under) = absurd (free (record { some = some; begins = omega arith; ends = omega arith }))

pub range_all_own : (place count : ℕ) (before after : List PageKind) → RangeIsOwn place count before after → AreOwn place count after
range_all_own place count before after range offset less =
    range.owned ((place + offset) / 256) (record { some = omega arith; begins = omega arith; ends = omega arith })

pub empty_range : (place count : ℕ) (kinds : List PageKind) → count ≡ 0 → RangeIsOwn place count kinds kinds
empty_range place count kinds none = record {
  owned = λ page touched. absurd (omega (arith, touched.some, none));
  others = λ page free. refl;
}

-- ---- bytes put over others

pub nothing_put : (place : ℕ) (bytes memory : List ℕ) → length bytes ≡ 0 → with_bytes place bytes memory ≡ memory
nothing_put place [] memory none = ap (λ (n : ℕ). take place memory ++ drop n memory) (omega arith) ∙ take-append-drop place memory
nothing_put place (byte ∷ bytes) memory none = absurd (omega arith)

-- the next byte goes where the last one ended
pub one_put_more : (place offset byte : ℕ) (bytes memory old new : List ℕ) → old ≡ with_bytes place (take offset bytes) memory → offset < length bytes → place + length bytes ≤ 65536 → length new ≡ 65536 → byte ≡ get_or bytes offset 0 → new ≡ slice_set old (place + offset) byte → new ≡ with_bytes place (take (offset + 1) bytes) memory
one_put_more place offset byte bytes memory old new before within inside whole is written =
    let long : length old ≡ 65536 = sym (length-set old (place + offset) byte) ∙ sym (ap (λ (xs : List ℕ). length xs) written) ∙ whole in
    let taken : length (take offset bytes) ≡ offset = length-take-le offset bytes (omega arith) in
    let fits : place + offset < length memory = omega (arith, long, simp (length-append, length-take, length-drop) at (ap length before)) in
    let front : List ℕ = take place memory ++ take offset bytes in
    let front_length : length front ≡ place + offset = simp (length-append, length-take) (omega arith) in
    let behind : List ℕ = drop (place + offset + 1) memory in
    let next : ℕ = get_or memory (place + offset) 0 in
    let split : old ≡ front ++ next ∷ behind =
    before
    ∙ ap (λ (n : ℕ). take place memory ++ (take offset bytes ++ drop (place + n) memory)) taken
    ∙ ap (λ (xs : List ℕ). take place memory ++ (take offset bytes ++ xs)) (drop_more memory (place + offset) 0 fits)
    ∙ sym (append_assoc (take place memory) (take offset bytes) (next ∷ behind)) in
    let more_length : place + offset + 1 ≡ place + length (take (offset + 1) bytes) = omega (arith, length-take-le (offset + 1) bytes (omega arith)) in
    written
    ∙ ap (λ (xs : List ℕ). slice_set xs (place + offset) byte) split
    ∙ set_at front next behind byte (place + offset) front_length
    ∙ append_assoc (take place memory) (take offset bytes) (byte ∷ behind)
    ∙ ap (λ (xs : List ℕ). take place memory ++ xs) (sym (append_assoc (take offset bytes) (byte ∷ []) behind))
    ∙ ap (λ (b : ℕ). take place memory ++ ((take offset bytes ++ b ∷ []) ++ behind)) is
    ∙ ap (λ (xs : List ℕ). take place memory ++ (xs ++ behind)) (sym (take_more bytes offset 0 within))
    ∙ ap (λ (n : ℕ). take place memory ++ (take (offset + 1) bytes ++ drop n memory)) more_length

-- ---- pages whose bytes stay

pub whole_kept : (before after : List Page) → IsWhole before → map page_bytes after ≡ map page_bytes before → length after ≡ 256 → IsWhole after
whole_kept before after whole same count = record { count = count; wide = rw same whole.wide }
