-- What is kept of a channel, by cases on the rows.
use Rattle.std.proofs.Common.{◌≡◌, ℕ, suc, ◌+◌, ◌<◌, ◌≤◌, ◌==◌, ◌⊎◌, inl, inr, Bool, true, false, ◌||◌, not, cond, nat_lt, List, [], ◌∷◌, ◌++◌, length, Option, Some, None, refl, sym, ap, ◌∙◌, arith, ne_eqb, one-add, lt-ltb}
use Rattle.std.specs.Prelude.{map, option_map, position, slice_get}
use Rattle.std.specs.List.{AllByRecursion, list_any, position_or_len}
use Rattle.std.proofs.lemmas.Bool.{or_parts}
use Rattle.std.proofs.lemmas.Option.{none-some, same_Some}
use Rattle.serving_wires.specs.Row.{Row}
use Rattle.serving_wires.specs.Rows.{item_at, place_of, with_item, with_item_at}
use Rattle.serving_wires.specs.Changes.{changed_at, changed_by, changed_on, item_in, item_on}
use Rattle.list_laws.proofs.Numbers.{lt_more}

abbrev pub found : {T : Type 0} → ℕ → List (Row T) → Option T
found channel [] = None
found channel (row ∷ rows) = cond (row.channel == channel) (Some row.item) (found channel rows)

abbrev pub first_changed : {T : Type 0} → ℕ → (T → T) → List (Row T) → List (Row T)
first_changed channel change [] = []
first_changed channel change (row ∷ rows) = cond (row.channel == channel) (with_item (change row.item) row ∷ rows) (row ∷ first_changed channel change rows)

pub found_here : {T : Type 0} → (channel : ℕ) (row : Row T) (rows : List (Row T)) → (row.channel == channel) ≡ true → found channel (row ∷ rows) ≡ Some row.item
found_here channel row rows is = ap (λ (b : Bool). cond b (Some row.item) (found channel rows)) is

pub found_later : {T : Type 0} → (channel : ℕ) (row : Row T) (rows : List (Row T)) → (row.channel == channel) ≡ false → found channel (row ∷ rows) ≡ found channel rows
found_later channel row rows is = ap (λ (b : Bool). cond b (Some row.item) (found channel rows)) is

pub changed_here : {T : Type 0} → (channel : ℕ) (change : T → T) (row : Row T) (rows : List (Row T)) → (row.channel == channel) ≡ true
    → first_changed channel change (row ∷ rows) ≡ with_item (change row.item) row ∷ rows
changed_here channel change row rows is = ap (λ (b : Bool). cond b (with_item (change row.item) row ∷ rows) (row ∷ first_changed channel change rows)) is

pub changed_later : {T : Type 0} → (channel : ℕ) (change : T → T) (row : Row T) (rows : List (Row T)) → (row.channel == channel) ≡ false
    → first_changed channel change (row ∷ rows) ≡ row ∷ first_changed channel change rows
changed_later channel change row rows is = ap (λ (b : Bool). cond b (with_item (change row.item) row ∷ rows) (row ∷ first_changed channel change rows)) is

-- ---- the channels of the rows

abbrev pub numbers : {T : Type 0} → List (Row T) → List ℕ
numbers {T = T} rows = map (λ (row : Row T). row.channel) rows

abbrev pub Below : ℕ → List ℕ → Type 0
Below high channels = AllByRecursion (λ (k : ℕ). k < high) channels

abbrev pub is_among : ℕ → List ℕ → Bool
is_among channel channels = list_any (λ (k : ℕ). k == channel) channels

pub changed_numbers : {T : Type 0} → (channel : ℕ) (change : T → T) (rows : List (Row T)) → numbers (first_changed channel change rows) ≡ numbers rows
changed_numbers channel change [] = refl
changed_numbers channel change (row ∷ rows) = by_flag (row.channel == channel) (changed_numbers channel change rows)
  where
    by_flag : (flag : Bool) → numbers (first_changed channel change rows) ≡ numbers rows
        → numbers (cond flag (with_item (change row.item) row ∷ rows) (row ∷ first_changed channel change rows)) ≡ row.channel ∷ numbers rows
    by_flag true rest = refl
    by_flag false rest = ap (λ (ks : List ℕ). row.channel ∷ ks) rest

-- what is there in the place of itself, and what is nowhere
pub changed_same : {T : Type 0} → (channel : ℕ) (item : T) (rows : List (Row T)) → found channel rows ≡ Some item → first_changed channel (λ old. item) rows ≡ rows
changed_same channel item [] is = refl
changed_same {T = T} channel item (row ∷ rows) is = by_flag (row.channel == channel) is (changed_same channel item rows)
  where
    by_flag : (flag : Bool) → cond flag (Some row.item) (found channel rows) ≡ Some item → (found channel rows ≡ Some item → first_changed channel (λ old. item) rows ≡ rows)
        → cond flag (with_item item row ∷ rows) (row ∷ first_changed channel (λ old. item) rows) ≡ row ∷ rows
    by_flag true here later = ap (λ (i : T). with_item i row ∷ rows) (sym (same_Some row.item item here))
    by_flag false there later = ap (λ (rs : List (Row T)). row ∷ rs) (later there)

pub changed_nowhere : {T : Type 0} → (channel : ℕ) (change : T → T) (rows : List (Row T)) → found channel rows ≡ None → first_changed channel change rows ≡ rows
changed_nowhere channel change [] missing = refl
changed_nowhere {T = T} channel change (row ∷ rows) missing = by_flag (row.channel == channel) missing (changed_nowhere channel change rows)
  where
    by_flag : (flag : Bool) → cond flag (Some row.item) (found channel rows) ≡ None → (found channel rows ≡ None → first_changed channel change rows ≡ rows)
        → cond flag (with_item (change row.item) row ∷ rows) (row ∷ first_changed channel change rows) ≡ row ∷ rows
    by_flag true here later = absurd (none-some row.item (sym here))
    by_flag false there later = ap (λ (rs : List (Row T)). row ∷ rs) (later there)

pub missing_if : {T : Type 0} → (channel : ℕ) (rows : List (Row T)) → is_among channel (numbers rows) ≡ false → found channel rows ≡ None
missing_if channel [] lacks = refl
missing_if channel (row ∷ rows) lacks =
    let parts = or_parts (row.channel == channel) (is_among channel (numbers rows)) lacks in
    found_later channel row rows parts.0 ∙ missing_if channel rows parts.1

pub lacks_if : {T : Type 0} → (channel : ℕ) (rows : List (Row T)) → found channel rows ≡ None → is_among channel (numbers rows) ≡ false
lacks_if channel [] missing = refl
lacks_if channel (row ∷ rows) missing = by_flag (row.channel == channel) missing (lacks_if channel rows)
  where
    by_flag : (flag : Bool) → cond flag (Some row.item) (found channel rows) ≡ None → (found channel rows ≡ None → is_among channel (numbers rows) ≡ false)
        → (flag || is_among channel (numbers rows)) ≡ false
    by_flag true missing rest = absurd (none-some row.item (sym missing))
    by_flag false missing rest = rest missing

-- a channel above all is none of them
pub above_all : (channel : ℕ) (channels : List ℕ) → Below channel channels → is_among channel channels ≡ false
above_all channel [] below = refl
above_all channel (k ∷ ks) (first, rest) =
    ap (λ (b : Bool). b || is_among channel ks) (ne_eqb k channel (λ same. absurd (omega (arith, first, same)))) ∙ above_all channel ks rest

pub below_more : (high higher : ℕ) (channels : List ℕ) → high ≤ higher → Below high channels → Below higher channels
below_more high higher [] less below = tt
below_more high higher (k ∷ ks) less (first, rest) = (omega (arith, less, first), below_more high higher ks less rest)

pub below_push : (high channel : ℕ) (channels : List ℕ) → channel < high → Below high channels → Below high (channels ++ channel ∷ [])
below_push high channel [] last below = (last, tt)
below_push high channel (k ∷ ks) last (first, rest) = (first, below_push high channel ks last rest)

-- ---- so does the place of a channel

abbrev pub within : Bool → ℕ → Option ℕ
within flag place = cond flag (Some place) None

one_behind : (flag : Bool) (place : ℕ) → within flag (suc place) ≡ option_map suc (within flag place)
one_behind true place = refl
one_behind false place = refl

abbrev placed : Bool → ℕ → ℕ → Option ℕ
placed here place count = within (nat_lt (cond (not here) (1 + place) 0) (suc count)) (cond (not here) (1 + place) 0)

place_by : (here : Bool) (place count : ℕ) → placed here place count ≡ cond here (Some 0) (option_map suc (within (nat_lt place count) place))
place_by true place count = let first : nat_lt 0 (suc count) ≡ true = lt-ltb 0 (suc count) (omega arith) in rw first refl
place_by false place count = rw one-add (ap (λ (b : Bool). within b (suc place)) (lt_more place count) ∙ one_behind (nat_lt place count) place)

pub position_step : {A : Type 0} → (p : A → Bool) (x : A) (xs : List A) → position p (x ∷ xs) ≡ cond (p x) (Some 0) (option_map suc (position p xs))
position_step p x xs = place_by (p x) (position_or_len p xs) (length xs)

place_step : {T : Type 0} → (channel : ℕ) (row : Row T) (rows : List (Row T))
    → place_of channel (row ∷ rows) ≡ cond (row.channel == channel) (Some 0) (option_map suc (place_of channel rows))
place_step channel row rows = position_step (λ r. r.channel == channel) row rows

pub with_behind : {T : Type 0} → (place : ℕ) (item : T) (row : Row T) (rows : List (Row T)) → with_item_at (suc place) item (row ∷ rows) ≡ row ∷ with_item_at place item rows
with_behind {T = T} place item row rows = by_row (slice_get rows place) refl
  where
    by_row : (there : Option (Row T)) → slice_get rows place ≡ there → with_item_at (suc place) item (row ∷ rows) ≡ row ∷ with_item_at place item rows
    by_row None is = rw is refl
    by_row (Some other) is = rw is refl

-- what stands at the place of a channel
pub record IsThere (T : Type 0) (channel at : ℕ) (item : T) (rows : List (Row T)) : Type 0 where
  pub place : place_of channel rows ≡ Some at
  pub there : item_at at rows ≡ Some item
  pub finds : found channel rows ≡ Some item
  pub changed : (change : T → T) → with_item_at at (change item) rows ≡ first_changed channel change rows

abbrev pub IsNowhere : (T : Type 0) → ℕ → List (Row T) → Type 0
IsNowhere T channel rows = (place_of channel rows ≡ None) × (found channel rows ≡ None) × ((change : T → T) → first_changed channel change rows ≡ rows)

abbrev pub HasPlace : (T : Type 0) → ℕ → List (Row T) → Type 0
HasPlace T channel rows = IsNowhere T channel rows ⊎ ((place : ℕ) × (item : T) × IsThere T channel place item rows)

has_first : (T : Type 0) (channel : ℕ) (row : Row T) (rows : List (Row T)) → (row.channel == channel) ≡ true → IsThere T channel 0 row.item (row ∷ rows)
has_first T channel row rows is =
    record {
      place = place_step channel row rows ∙ ap (λ (b : Bool). cond b (Some 0) (option_map suc (place_of channel rows))) is;
      there = refl;
      finds = found_here channel row rows is;
      changed = λ change. sym (changed_here channel change row rows is);
    }

step_later : (T : Type 0) (channel : ℕ) (row : Row T) (rows : List (Row T)) → (row.channel == channel) ≡ false → place_of channel (row ∷ rows) ≡ option_map suc (place_of channel rows)
step_later T channel row rows is = place_step channel row rows ∙ ap (λ (b : Bool). cond b (Some 0) (option_map suc (place_of channel rows))) is

has_later : (T : Type 0) (channel : ℕ) (row : Row T) (rows : List (Row T)) → (row.channel == channel) ≡ false → HasPlace T channel rows → HasPlace T channel (row ∷ rows)
has_later T channel row rows is (inl none) =
    inl (
      step_later T channel row rows is ∙ ap (λ (o : Option ℕ). option_map suc o) none.0,
      found_later channel row rows is ∙ none.1,
      λ change. changed_later channel change row rows is ∙ ap (λ (rs : List (Row T)). row ∷ rs) (none.2 change),
    )
has_later T channel row rows is (inr (place, item, there)) =
    inr (
      suc place,
      item,
      record {
        place = step_later T channel row rows is ∙ ap (λ (o : Option ℕ). option_map suc o) there.place;
        there = there.there;
        finds = found_later channel row rows is ∙ there.finds;
        changed = λ change. with_behind place (change item) row rows ∙ ap (λ (rs : List (Row T)). row ∷ rs) (there.changed change)
            ∙ sym (changed_later channel change row rows is);
      },
    )

pub has_place : (T : Type 0) (channel : ℕ) (rows : List (Row T)) → HasPlace T channel rows
has_place T channel [] = inl (refl, refl, λ change. refl)
has_place T channel (row ∷ rows) = by_flag (row.channel == channel) refl (has_place T channel rows)
  where
    by_flag : (flag : Bool) → (row.channel == channel) ≡ flag → HasPlace T channel rows → HasPlace T channel (row ∷ rows)
    by_flag true is rest = inr (0, row.item, has_first T channel row rows is)
    by_flag false is rest = has_later T channel row rows is rest

item_by : (T : Type 0) (channel : ℕ) (rows : List (Row T)) → HasPlace T channel rows → item_on channel rows ≡ found channel rows
item_by T channel rows (inl none) = ap (λ (o : Option ℕ). item_in o rows) none.0 ∙ sym none.1
item_by T channel rows (inr (place, item, there)) = ap (λ (o : Option ℕ). item_in o rows) there.place ∙ there.there ∙ sym there.finds

pub item_found : (T : Type 0) (channel : ℕ) (rows : List (Row T)) → item_on channel rows ≡ found channel rows
item_found T channel rows = item_by T channel rows (has_place T channel rows)

change_by : (T : Type 0) (channel : ℕ) (change : T → T) (rows : List (Row T)) → HasPlace T channel rows → changed_on channel change rows ≡ first_changed channel change rows
change_by T channel change rows (inl none) = ap (λ (o : Option ℕ). changed_at change o rows) none.0 ∙ sym (none.2 change)
change_by T channel change rows (inr (place, item, there)) =
    ap (λ (o : Option ℕ). changed_at change o rows) there.place ∙ ap (λ (o : Option T). changed_by place change o rows) there.there ∙ there.changed change

pub change_first : (T : Type 0) (channel : ℕ) (change : T → T) (rows : List (Row T)) → changed_on channel change rows ≡ first_changed channel change rows
change_first T channel change rows = change_by T channel change rows (has_place T channel rows)
