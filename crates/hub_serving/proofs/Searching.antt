-- The first line of which what waits first can be given.
use Rattle.std.proofs.Common.{◌≡◌, ℕ, zero, suc, ◌+◌, ◌≤◌, Bool, true, false, cond, List, [], ◌∷◌, length, Option, Some, None, refl, sym, ap, ◌∙◌, subst, arith, add-one}
use Rattle.std.specs.Prelude.{option_map}
use Rattle.hub_node.specs.HubValue.{HubValue}
use Rattle.serving_wires.specs.Row.{Row}
use Rattle.serving_wires.proofs.Rows.{position_step}
use Rattle.hub_serving.specs.Lines.{can_give}
use Rattle.hub_serving.specs.Passing.{Lines, can_give_at, first_to_give}
use Rattle.hub_serving.specs.declared.line.Line.{Line}

-- the first from a place on
abbrev pub first_from : ℕ → HubValue → Lines → Option ℕ
first_from zero h rows = first_to_give h rows
first_from (suc place) h [] = None
first_from (suc place) h (row ∷ rows) = option_map suc (first_from place h rows)

abbrev can_give_row : HubValue → Row Line → Bool
can_give_row h row = can_give h row.item

one_step : (h : HubValue) (row : Row Line) (rows : Lines) (flag : Bool) → can_give h row.item ≡ flag → first_to_give h (row ∷ rows) ≡ cond flag (Some 0) (option_map suc (first_to_give h rows))
one_step h row rows flag is = position_step (can_give_row h) row rows ∙ ap (λ (b : Bool). cond b (Some 0) (option_map suc (first_to_give h rows))) is

one_more : (place : ℕ) (h : HubValue) (rows : Lines) → can_give_at place h rows ≡ false → first_from place h rows ≡ first_from (suc place) h rows
one_more zero h [] stays = refl
one_more zero h (row ∷ rows) stays = one_step h row rows false stays
one_more (suc place) h [] stays = refl
one_more (suc place) h (row ∷ rows) stays = ap (λ (o : Option ℕ). option_map suc o) (one_more place h rows stays)

there_at : (place : ℕ) (h : HubValue) (rows : Lines) → can_give_at place h rows ≡ true → first_from place h rows ≡ Some place
there_at zero h [] holds = absurd cc
there_at zero h (row ∷ rows) holds = one_step h row rows true holds
there_at (suc place) h [] holds = absurd cc
there_at (suc place) h (row ∷ rows) holds = ap (λ (o : Option ℕ). option_map suc o) (there_at place h rows holds)

none_behind : (place : ℕ) (h : HubValue) (rows : Lines) → length rows ≤ place → first_from place h rows ≡ None
none_behind zero h [] past = refl
none_behind zero h (row ∷ rows) past = absurd (omega (arith, past))
none_behind (suc place) h [] past = refl
none_behind (suc place) h (row ∷ rows) past = ap (λ (o : Option ℕ). option_map suc o) (none_behind place h rows (omega (arith, past)))

pub not_there : (place : ℕ) (h : HubValue) (rows : Lines) (flag : Bool) → flag ≡ can_give_at place h rows → flag ≡ false
    → first_to_give h rows ≡ first_from place h rows → first_to_give h rows ≡ first_from (place + 1) h rows
not_there place h rows flag is stays so = rw add-one (so ∙ one_more place h rows (sym is ∙ stays))

pub found_there : (place : ℕ) (h : HubValue) (rows : Lines) (flag : Bool) → flag ≡ can_give_at place h rows → flag ≡ true
    → first_to_give h rows ≡ first_from place h rows → Some place ≡ first_to_give h rows
found_there place h rows flag is holds so = sym (so ∙ there_at place h rows (sym is ∙ holds))

pub nowhere : (place end : ℕ) (h : HubValue) (rows : Lines) → end ≡ length rows → end ≤ place → first_to_give h rows ≡ first_from place h rows → None ≡ first_to_give h rows
nowhere place end h rows all past so = sym (so ∙ none_behind place h rows (omega (arith, all, past)))

-- where it is, it can be given
pub gives_at : (h : HubValue) (rows : Lines) (place : ℕ) → first_to_give h rows ≡ Some place → can_give_at place h rows ≡ true
gives_at h [] place is = absurd cc
gives_at h (row ∷ rows) place is = by_flag (can_give h row.item) refl (λ behind there. gives_at h rows behind there)
  where
    by_place : ((behind : ℕ) → first_to_give h rows ≡ Some behind → can_give_at behind h rows ≡ true) → (found : Option ℕ) → first_to_give h rows ≡ found → option_map suc found ≡ Some place
        → can_give_at place h (row ∷ rows) ≡ true
    by_place rest None none so = absurd cc
    by_place rest (Some behind) there so =
        let same : suc behind ≡ place = cc in subst (λ (n : ℕ). can_give_at n h (row ∷ rows) ≡ true) same (rest behind there)

    by_flag : (flag : Bool) → can_give h row.item ≡ flag → ((behind : ℕ) → first_to_give h rows ≡ Some behind → can_give_at behind h rows ≡ true) → can_give_at place h (row ∷ rows) ≡ true
    by_flag true holds rest =
        let so : Some 0 ≡ Some place = sym (one_step h row rows true holds) ∙ is in
        let same : 0 ≡ place = cc in subst (λ (n : ℕ). can_give_at n h (row ∷ rows) ≡ true) same holds
    by_flag false stays rest = by_place rest (first_to_give h rows) refl (sym (one_step h row rows false stays) ∙ is)
