-- Nothing is taken of a side exactly where no entry waits there or, below, where nothing is taken from there now.
use Rattle.std.proofs.Common.{◌≡◌, ℕ, Bool, true, false, List, Option, Some, None, refl, sym, ap, subst, ◌∙◌, ◌⊎◌, inl, inr}
use Rattle.std.specs.Prelude.{◌↔◌, if◌then◌else◌, slice_get, slice_set}
use Rattle.channel_core.specs.EndValue.{EndValue}
use Rattle.channel_core.specs.Receiving.{waiting_in}
use Rattle.channel_core.specs.Taking.{next_taken}
use Rattle.channel_core.specs.declared.taking.Taken.{Taken}
use Rattle.channel_core.proofs.Idle.{none_is_taken, nothing_taken}
use Rattle.channel_list.specs.Channels.{End, channel_at, place_of, with_end}
use Rattle.channel_list.specs.declared.channel.Channel.{Channel}
use Rattle.link_pool.specs.Lists.{item_of}
use Rattle.list_laws.proofs.Lists.{set_same}
use Rattle.hub_node.specs.Relay.{TakesNothing, lower_of, next_at, next_below, next_on, takes_below, took_any_above, took_any_below, turned_above, turned_at, turned_below, waiting_at, waiting_on}
use Rattle.hub_node.specs.RelayValue.{RelayValue}
use Rattle.hub_node.specs.declared.side.HubSide.{HubSide}
use Rattle.hub_node.specs.declared.side.HubSide.TheVariants.{Above, Below}
use Rattle.hub_node.specs.declared.waiting.Tag.{Tag}

-- ---- what is taken is something

any_above : (what : Option (Taken Tag)) (r : RelayValue) → ((took_any_above what r).0 ≡ false) ↔ (what ≡ None)
any_above None r = (λ is. refl, λ is. refl)
any_above (Some what) r = (λ is. cc, λ is. cc)

any_below : (key j : ℕ) (what : Option (Taken Unit)) (r : RelayValue) → ((took_any_below key j what r).0 ≡ false) ↔ (what ≡ None)
any_below key j None r = (λ is. refl, λ is. refl)
any_below key j (Some what) r = (λ is. cc, λ is. cc)

nothing_above : (r : RelayValue) → ((turned_above r).0 ≡ false) ↔ (waiting_in r.upper ≡ 0)
unfolding turned_above
nothing_above r =
    let next = next_taken r.upper in
    let here = any_above next.0 (record r { upper = next.1 }) in
    let there = none_is_taken r.upper in
    (λ off. there.0 (here.0 off), λ none. here.1 (there.1 none))

nothing_on : (place : ℕ) (lower : Option Channel) (r : RelayValue) → ((next_on place lower r).0 ≡ None) ↔ (waiting_on lower ≡ 0)
nothing_on place None r = (λ is. refl, λ is. refl)
nothing_on place (Some lower) r = none_is_taken lower.end

nothing_at : (place : Option ℕ) (j : ℕ) (r : RelayValue) → place_of j r.lowers ≡ place → ((next_at place r).0 ≡ None) ↔ (waiting_on (lower_of j r) ≡ 0)
nothing_at None j r is = rw is (λ off. refl, λ none. refl)
nothing_at (Some place) j r is = rw is (nothing_on place (slice_get r.lowers place) r)

nothing_below : (key j : ℕ) (r : RelayValue) → ((turned_below key j r).0 ≡ false) ↔ ((takes_below r ≡ false) ⊎ (waiting_on (lower_of j r) ≡ 0))
unfolding next_below
nothing_below key j r = by_flag (takes_below r) refl
  where
    so : ((next_at (place_of j r.lowers) r).0 ≡ None) ↔ (waiting_on (lower_of j r) ≡ 0)
    so = nothing_at (place_of j r.lowers) j r refl

    by_flag : (flag : Bool) → takes_below r ≡ flag
        → ((took_any_below key j (if flag then next_at (place_of j r.lowers) r else (None, r)).0 (if flag then next_at (place_of j r.lowers) r else (None, r)).1).0 ≡ false) ↔ ((takes_below r ≡ false) ⊎ (waiting_on (lower_of j r) ≡ 0))
    by_flag false is = (λ off. inl is, λ either. refl)
    by_flag true is =
        let next = next_at (place_of j r.lowers) r in
        let here = any_below key j next.0 next.1 in (
          λ off. inr (so.0 (here.0 off)),
          λ either. elim either as (λ _. (took_any_below key j next.0 next.1).0 ≡ false) [
            | inl held ↦ let both : true ≡ false = sym is ∙ held in cc
            | inr none ↦ here.1 (so.1 none)
          ],
        )

pub takes_nothing : (key : ℕ) (side : HubSide) (r : RelayValue) → ((turned_at key side r).0 ≡ false) ↔ TakesNothing side r
takes_nothing key Above r = nothing_above r
takes_nothing key (Below j) r = nothing_below key j r

-- ---- where nothing waits the hub stays as it was

stays_above : (r : RelayValue) → waiting_in r.upper ≡ 0 → turned_above r ≡ (false, r)
unfolding turned_above
stays_above r none = ap (λ (t : Option (Taken Tag) × EndValue Tag). took_any_above t.0 (record r { upper = t.1 })) (nothing_taken r.upper none)

stays_on : (place : ℕ) (lower : Option Channel) (r : RelayValue) → slice_get r.lowers place ≡ lower → waiting_on lower ≡ 0 → next_on place lower r ≡ (None, r)
stays_on place None r there none = refl
stays_on place (Some lower) r there none =
    ap {B = Option (Taken Unit) × RelayValue} (λ (t : Option (Taken Unit) × End). (t.0, record r { lowers = slice_set r.lowers place (with_end t.1 lower) })) (nothing_taken lower.end none)
    ∙ ap {B = Option (Taken Unit) × RelayValue} (λ (lowers : List Channel). (None, record r { lowers = lowers })) (set_same place r.lowers lower there)

stays_at : (place : Option ℕ) (j : ℕ) (r : RelayValue) → place_of j r.lowers ≡ place → waiting_on (lower_of j r) ≡ 0 → next_at place r ≡ (None, r)
stays_at None j r is none = refl
stays_at (Some place) j r is none = stays_on place (slice_get r.lowers place) r refl (subst (λ (p : Option ℕ). waiting_on (channel_at p r.lowers) ≡ 0) is none)

stays_below : (key j : ℕ) (r : RelayValue) → waiting_on (lower_of j r) ≡ 0 → turned_below key j r ≡ (false, r)
unfolding next_below
stays_below key j r none = by_flag (takes_below r)
  where
    so : next_at (place_of j r.lowers) r ≡ (None, r)
    so = stays_at (place_of j r.lowers) j r refl none

    by_flag : (flag : Bool) → took_any_below key j (if flag then next_at (place_of j r.lowers) r else (None, r)).0 (if flag then next_at (place_of j r.lowers) r else (None, r)).1 ≡ (false, r)
    by_flag true = ap (λ (t : Option (Taken Unit) × RelayValue). took_any_below key j t.0 t.1) so
    by_flag false = refl

pub turn_stays : (key : ℕ) (side : HubSide) (r : RelayValue) → waiting_at side r ≡ 0 → turned_at key side r ≡ (false, r)
turn_stays key Above r none = stays_above r none
turn_stays key (Below j) r none = stays_below key j r none

-- ---- what a turn answers, of a hub that is as it was before

pub when_turn_is_nothing : (did : Bool) (side : HubSide) (r begun next : RelayValue) → begun ≡ r
    → ((key : ℕ) × (item_of key begun.board.lists ≡ None) × ((did, next) ≡ turned_at key side begun)) → (did ≡ false) ↔ TakesNothing side r
when_turn_is_nothing did side r begun next same is =
    let here : did ≡ (turned_at is.0 side r).0 = ap (λ t. t.0) is.2 ∙ ap (λ (b : RelayValue). (turned_at is.0 side b).0) same in
    let so = takes_nothing is.0 side r in
    (λ off. so.0 (sym here ∙ off), λ nothing. here ∙ so.1 nothing)
