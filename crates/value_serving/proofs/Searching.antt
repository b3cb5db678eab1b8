-- The first value-add whose wire above has a channel.
use Rattle.std.proofs.Common.{◌≡◌, ℕ, zero, suc, ◌+◌, ◌≤◌, Bool, true, false, cond, List, [], ◌∷◌, length, Option, Some, None, refl, sym, ap, ◌∙◌, arith, add-one}
use Rattle.std.specs.Prelude.{option_map}
use Rattle.serving_wires.specs.Row.{Row}
use Rattle.value_serving.specs.Serving.{above_of, is_above_at, is_number}
use Rattle.value_serving.specs.declared.add.Add.{Add}
use Rattle.serving_wires.proofs.Rows.{position_step}

-- the first from a place on
abbrev pub above_from : ℕ → ℕ → List (Row Add) → Option ℕ
above_from zero channel rows = above_of channel rows
above_from (suc place) channel [] = None
above_from (suc place) channel (row ∷ rows) = option_map suc (above_from place channel rows)

abbrev is_above : ℕ → Row Add → Bool
is_above channel row = is_number channel row.item.above

one_step : (channel : ℕ) (row : Row Add) (rows : List (Row Add)) (flag : Bool) → is_above channel row ≡ flag
    → above_of channel (row ∷ rows) ≡ cond flag (Some 0) (option_map suc (above_of channel rows))
one_step channel row rows flag is = position_step (is_above channel) row rows ∙ ap (λ (b : Bool). cond b (Some 0) (option_map suc (above_of channel rows))) is

one_more : (place channel : ℕ) (rows : List (Row Add)) → is_above_at channel place rows ≡ false → above_from place channel rows ≡ above_from (suc place) channel rows
one_more zero channel [] stays = refl
one_more zero channel (row ∷ rows) stays = one_step channel row rows false stays
one_more (suc place) channel [] stays = refl
one_more (suc place) channel (row ∷ rows) stays = ap (λ (o : Option ℕ). option_map suc o) (one_more place channel rows stays)

there_at : (place channel : ℕ) (rows : List (Row Add)) → is_above_at channel place rows ≡ true → above_from place channel rows ≡ Some place
there_at zero channel [] holds = absurd cc
there_at zero channel (row ∷ rows) holds = one_step channel row rows true holds
there_at (suc place) channel [] holds = absurd cc
there_at (suc place) channel (row ∷ rows) holds = ap (λ (o : Option ℕ). option_map suc o) (there_at place channel rows holds)

none_behind : (place channel : ℕ) (rows : List (Row Add)) → length rows ≤ place → above_from place channel rows ≡ None
none_behind zero channel [] past = refl
none_behind zero channel (row ∷ rows) past = absurd (omega (arith, past))
none_behind (suc place) channel [] past = refl
none_behind (suc place) channel (row ∷ rows) past = ap (λ (o : Option ℕ). option_map suc o) (none_behind place channel rows (omega (arith, past)))

pub not_there : (place channel : ℕ) (rows : List (Row Add)) (flag : Bool) → flag ≡ is_above_at channel place rows → flag ≡ false
    → above_of channel rows ≡ above_from place channel rows → above_of channel rows ≡ above_from (place + 1) channel rows
not_there place channel rows flag is stays so = rw add-one (so ∙ one_more place channel rows (sym is ∙ stays))

pub found_there : (place channel : ℕ) (rows : List (Row Add)) (flag : Bool) → flag ≡ is_above_at channel place rows → flag ≡ true
    → above_of channel rows ≡ above_from place channel rows → Some place ≡ above_of channel rows
found_there place channel rows flag is holds so = sym (so ∙ there_at place channel rows (sym is ∙ holds))

pub nowhere : (place end channel : ℕ) (rows : List (Row Add)) → end ≡ length rows → end ≤ place → above_of channel rows ≡ above_from place channel rows → None ≡ above_of channel rows
nowhere place end channel rows all past so = sym (so ∙ none_behind place channel rows (omega (arith, all, past)))
