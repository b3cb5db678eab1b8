-- The rows of a roster, by its places.
use Rattle.std.proofs.Common.{◌≡◌, ◌≢◌, ℕ, zero, suc, ◌+◌, ◌==◌, nat_lt, Bool, true, false, ◌&&◌, ◌||◌, not, cond, List, [], ◌∷◌, ◌++◌, length, Option, None, Some, refl, sym, ap, ◌∙◌, eqb-true, eq-eqb}
use Rattle.std.specs.Prelude.{IsTrue, is_some, option_map, position, slice_get, remove}
use Rattle.std.specs.List.{list_any, position_or_len}
use Rattle.std.proofs.lemmas.Bool.{and_parts, false≢true, or_parts}
use Rattle.std.proofs.lemmas.Option.{none-some, same_Some}
use Rattle.slab.specs.Slab.{Slab, Updates, get}
use Rattle.serving_wires.specs.Row.{Row}
use Rattle.serving_wires.specs.Rows.{channel_at, item_at, place_of, with_item_at}
use Rattle.serving_wires.specs.Slots.{are_kept, row_of, rows_of}
use Rattle.serving_wires.specs.declared.roster.Place.{Place}

-- ---- the first row

long_by : {T : Type 0} (c : ℕ) (o : Option T) (rows : List (Row T)) → is_some o ≡ true → length (row_of c o ++ rows) ≡ suc (length rows)
long_by c None rows some = absurd (false≢true some)
long_by c (Some item) rows some = refl

item_first : {T : Type 0} (c : ℕ) (o : Option T) (rows : List (Row T)) → is_some o ≡ true → item_at 0 (row_of c o ++ rows) ≡ o
item_first c None rows some = absurd (false≢true some)
item_first c (Some item) rows some = refl

item_later : {T : Type 0} (c : ℕ) (o : Option T) (rows : List (Row T)) (at : ℕ) → is_some o ≡ true → item_at (suc at) (row_of c o ++ rows) ≡ item_at at rows
item_later c None rows at some = absurd (false≢true some)
item_later c (Some item) rows at some = refl

pub with_first : {T : Type 0} (c : ℕ) (o : Option T) (rows : List (Row T)) (item : T) → is_some o ≡ true → row_of c (Some item) ++ rows ≡ with_item_at 0 item (row_of c o ++ rows)
with_first c None rows item some = absurd (false≢true some)
with_first c (Some old) rows item some = refl

with_behind : {T : Type 0} (row : Row T) (rows : List (Row T)) (at : ℕ) (item : T) → row ∷ with_item_at at item rows ≡ with_item_at (suc at) item (row ∷ rows)
with_behind {T} row rows at item = by_row (slice_get rows at) refl
  where
    by_row : (there : Option (Row T)) → slice_get rows at ≡ there → row ∷ with_item_at at item rows ≡ with_item_at (suc at) item (row ∷ rows)
    by_row None is = rw is refl
    by_row (Some other) is = rw is refl

pub with_later : {T : Type 0} (c : ℕ) (o : Option T) (rows : List (Row T)) (at : ℕ) (item : T) → is_some o ≡ true
    → row_of c o ++ with_item_at at item rows ≡ with_item_at (suc at) item (row_of c o ++ rows)
with_later c None rows at item some = absurd (false≢true some)
with_later c (Some old) rows at item some = with_behind (record { channel = c; item = old }) rows at item

pub removed_first : {T : Type 0} (c : ℕ) (o : Option T) (rows : List (Row T)) → is_some o ≡ true → rows ≡ remove (row_of c o ++ rows) 0
removed_first c None rows some = absurd (false≢true some)
removed_first c (Some old) rows some = refl

pub removed_later : {T : Type 0} (c : ℕ) (o : Option T) (rows : List (Row T)) (at : ℕ) → is_some o ≡ true → row_of c o ++ remove rows at ≡ remove (row_of c o ++ rows) (suc at)
removed_later c None rows at some = absurd (false≢true some)
removed_later c (Some old) rows at some = refl

-- ---- the key of a place

abbrev pub key_of : List Place → ℕ → Option ℕ
key_of places at = option_map (λ place. place.key) (slice_get places at)

-- no place has this key
abbrev pub IsAside : ℕ → List Place → Type 0
IsAside key places = list_any (λ other. other.key == key) places ≡ false

-- what is kept of the first place
pub record FirstKept {T : Type 0} (slots : Slab T) (place : Place) (places : List Place) : Type 0 where
  pub there : is_some (get slots place.key) ≡ true
  pub own : IsAside place.key places
  pub rest : IsTrue (are_kept slots places)

pub first_kept : {T : Type 0} (slots : Slab T) (place : Place) (places : List Place) → IsTrue (are_kept slots (place ∷ places)) → FirstKept slots place places
first_kept slots place places kept =
    let others = list_any (λ other. other.key == place.key) places in
    let parts = and_parts (is_some (get slots place.key)) (not others && are_kept slots places) kept in
    let later = and_parts (not others) (are_kept slots places) parts.1 in
    record { there = parts.0; own = by_flag others later.0; rest = later.1 }
  where
    by_flag : (flag : Bool) → not flag ≡ true → flag ≡ false
    by_flag true is = sym is
    by_flag false is = refl

pub all_kept : {T : Type 0} (slots : Slab T) (place : Place) (places : List Place) → FirstKept slots place places → IsTrue (are_kept slots (place ∷ places))
all_kept slots place places f =
    ap (λ (b : Bool). b && (not (list_any (λ other. other.key == place.key) places) && are_kept slots places)) f.there
    ∙ ap (λ (b : Bool). not b && are_kept slots places) f.own ∙ f.rest

-- a key that is at a place of the list isn't aside
found_key : (places : List Place) (at key : ℕ) → key_of places at ≡ Some key → list_any (λ other. other.key == key) places ≡ true
found_key [] at key is = absurd (none-some key is)
found_key (place ∷ places) zero key is = ap (λ (b : Bool). b || list_any (λ other. other.key == key) places) (eq-eqb place.key key (same_Some place.key key is))
found_key (place ∷ places) (suc at) key is = by_flag (place.key == key) (found_key places at key is)
  where
    by_flag : (flag : Bool) → list_any (λ other. other.key == key) places ≡ true → (flag || list_any (λ other. other.key == key) places) ≡ true
    by_flag true there = refl
    by_flag false there = there

pub differs_from : (places : List Place) (at key other : ℕ) → IsAside other places → key_of places at ≡ Some key → other ≢ key
differs_from places at key other aside is same =
    false≢true (sym aside ∙ ap (λ (n : ℕ). list_any (λ place. place.key == n) places) same ∙ found_key places at key is)

-- a key with no item is aside
pub fresh_aside : {T : Type 0} (slots : Slab T) (places : List Place) (key : ℕ) → IsTrue (are_kept slots places) → get slots key ≡ None → IsAside key places
fresh_aside slots [] key kept fresh = refl
fresh_aside slots (place ∷ places) key kept fresh =
    let f = first_kept slots place places kept in
    by_flag (place.key == key) refl f.there (fresh_aside slots places key f.rest fresh)
  where
    by_flag : (flag : Bool) → (place.key == key) ≡ flag → is_some (get slots place.key) ≡ true → IsAside key places
        → (flag || list_any (λ other. other.key == key) places) ≡ false
    by_flag true is there rest =
        absurd (false≢true (sym (ap (λ o. is_some o) (ap (λ (n : ℕ). get slots n) (eqb-true place.key key is) ∙ fresh)) ∙ there))
    by_flag false is there rest = rest

-- ---- a change at a key aside changes no row

off_key : (n key : ℕ) → (n == key) ≡ false → n ≢ key
off_key n key off same = false≢true (sym off ∙ eq-eqb n key same)

pub rows_aside : {T : Type 0} (slots new : Slab T) (key : ℕ) (slot : Option T) (places : List Place) → Updates slots new key slot → IsAside key places
    → rows_of new places ≡ rows_of slots places
rows_aside slots new key slot [] u aside = refl
rows_aside slots new key slot (place ∷ places) u aside =
    let parts = or_parts (place.key == key) (list_any (λ other. other.key == key) places) aside in
    ap (λ o. row_of place.channel o ++ rows_of new places) (u.others place.key (off_key place.key key parts.0))
    ∙ ap (λ rows. row_of place.channel (get slots place.key) ++ rows) (rows_aside slots new key slot places u parts.1)

pub kept_aside : {T : Type 0} (slots new : Slab T) (key : ℕ) (slot : Option T) (places : List Place) → Updates slots new key slot → IsAside key places
    → IsTrue (are_kept slots places) → IsTrue (are_kept new places)
kept_aside slots new key slot [] u aside kept = refl
kept_aside slots new key slot (place ∷ places) u aside kept =
    let parts = or_parts (place.key == key) (list_any (λ other. other.key == key) places) aside in
    let f = first_kept slots place places kept in
    all_kept new place places
    (record {
      there = ap (λ o. is_some o) (u.others place.key (off_key place.key key parts.0)) ∙ f.there;
      own = f.own;
      rest = kept_aside slots new key slot places u parts.1 f.rest;
    })

-- slabs with the same items have the same rows
pub rows_same : {T : Type 0} (slots new : Slab T) (places : List Place) → ((key : ℕ) → get new key ≡ get slots key) → rows_of new places ≡ rows_of slots places
rows_same slots new [] same = refl
rows_same slots new (place ∷ places) same =
    ap (λ o. row_of place.channel o ++ rows_of new places) (same place.key) ∙ ap (λ rows. row_of place.channel (get slots place.key) ++ rows) (rows_same slots new places same)

pub kept_same : {T : Type 0} (slots new : Slab T) (places : List Place) → ((key : ℕ) → get new key ≡ get slots key) → IsTrue (are_kept slots places) → IsTrue (are_kept new places)
kept_same slots new [] same kept = refl
kept_same slots new (place ∷ places) same kept =
    let f = first_kept slots place places kept in
    all_kept new place places (record { there = ap (λ o. is_some o) (same place.key) ∙ f.there; own = f.own; rest = kept_same slots new places same f.rest })

-- ---- rows are found by their places

-- there are as many rows as places
pub as_many : {T : Type 0} (slots : Slab T) (places : List Place) → IsTrue (are_kept slots places) → length (rows_of slots places) ≡ length places
as_many slots [] kept = refl
as_many slots (place ∷ places) kept =
    let f = first_kept slots place places kept in
    long_by place.channel (get slots place.key) (rows_of slots places) f.there ∙ ap suc (as_many slots places f.rest)

first_place_by : {T : Type 0} (c channel : ℕ) (o : Option T) (rows : List (Row T)) → is_some o ≡ true
    → position_or_len (λ row. row.channel == channel) (row_of c o ++ rows) ≡ cond (not (c == channel)) (1 + position_or_len (λ row. row.channel == channel) rows) 0
first_place_by c channel None rows some = absurd (false≢true some)
first_place_by c channel (Some item) rows some = refl

same_first : {T : Type 0} (slots : Slab T) (places : List Place) (channel : ℕ) → IsTrue (are_kept slots places)
    → position_or_len (λ row. row.channel == channel) (rows_of slots places) ≡ position_or_len (λ place. place.channel == channel) places
same_first slots [] channel kept = refl
same_first slots (place ∷ places) channel kept =
    let f = first_kept slots place places kept in
    first_place_by place.channel channel (get slots place.key) (rows_of slots places) f.there
    ∙ ap (λ (n : ℕ). cond (not (place.channel == channel)) (1 + n) 0) (same_first slots places channel f.rest)

-- the row of a channel stands at the place of the channel
pub same_place : {T : Type 0} (slots : Slab T) (places : List Place) (channel : ℕ) → IsTrue (are_kept slots places)
    → position (λ place. place.channel == channel) places ≡ place_of channel (rows_of slots places)
same_place slots places channel kept =
    let at = λ (n : ℕ). λ (long : ℕ). cond (nat_lt n long) (Some n) None in
    sym (ap (λ (n : ℕ). at n (length (rows_of slots places))) (same_first slots places channel kept)
    ∙ ap (λ (long : ℕ). at (position_or_len (λ place. place.channel == channel) places) long) (as_many slots places kept))

-- the item at a place is that of its key
pub item_there : {T : Type 0} (slots : Slab T) (places : List Place) (at key : ℕ) → IsTrue (are_kept slots places)
    → key_of places at ≡ Some key → item_at at (rows_of slots places) ≡ get slots key
item_there slots [] at key kept is = absurd (none-some key is)
item_there slots (place ∷ places) zero key kept is =
    let f = first_kept slots place places kept in
    item_first place.channel (get slots place.key) (rows_of slots places) f.there ∙ ap (λ (n : ℕ). get slots n) (same_Some place.key key is)
item_there slots (place ∷ places) (suc at) key kept is =
    let f = first_kept slots place places kept in
    item_later place.channel (get slots place.key) (rows_of slots places) at f.there ∙ item_there slots places at key f.rest is

pub no_item : {T : Type 0} (slots : Slab T) (places : List Place) (at : ℕ) → IsTrue (are_kept slots places)
    → key_of places at ≡ None → item_at at (rows_of slots places) ≡ None
no_item slots [] at kept is = refl
no_item slots (place ∷ places) zero kept is = absurd (none-some place.key (sym is))
no_item slots (place ∷ places) (suc at) kept is =
    let f = first_kept slots place places kept in
    item_later place.channel (get slots place.key) (rows_of slots places) at f.there ∙ no_item slots places at f.rest is

-- an item that is found is there
pub item_kept : {T : Type 0} (slots : Slab T) (places : List Place) (at key : ℕ) → IsTrue (are_kept slots places) → key_of places at ≡ Some key → is_some (get slots key) ≡ true
item_kept slots [] at key kept is = absurd (none-some key is)
item_kept slots (place ∷ places) zero key kept is =
    ap (λ (n : ℕ). is_some (get slots n)) (sym (same_Some place.key key is)) ∙ (first_kept slots place places kept).there
item_kept slots (place ∷ places) (suc at) key kept is = item_kept slots places at key (first_kept slots place places kept).rest is

-- the channel at a place is that of the place
first_channel : {T : Type 0} (c : ℕ) (o : Option T) (rows : List (Row T)) → is_some o ≡ true → channel_at 0 (row_of c o ++ rows) ≡ Some c
first_channel c None rows some = absurd (false≢true some)
first_channel c (Some item) rows some = refl

later_channel : {T : Type 0} (c : ℕ) (o : Option T) (rows : List (Row T)) (at : ℕ) → is_some o ≡ true → channel_at (suc at) (row_of c o ++ rows) ≡ channel_at at rows
later_channel c None rows at some = absurd (false≢true some)
later_channel c (Some item) rows at some = refl

pub channel_there : {T : Type 0} (slots : Slab T) (places : List Place) (at : ℕ) → IsTrue (are_kept slots places)
    → option_map (λ place. place.channel) (slice_get places at) ≡ channel_at at (rows_of slots places)
channel_there slots [] at kept = refl
channel_there slots (place ∷ places) zero kept = sym (first_channel place.channel (get slots place.key) (rows_of slots places) (first_kept slots place places kept).there)
channel_there slots (place ∷ places) (suc at) kept =
    let f = first_kept slots place places kept in
    channel_there slots places at f.rest ∙ sym (later_channel place.channel (get slots place.key) (rows_of slots places) at f.there)
