-- What a change of a roster makes of its rows.
use Rattle.std.proofs.Common.{◌≡◌, ◌≢◌, ℕ, zero, suc, ◌≤◌, ◌==◌, Bool, true, false, ◌||◌, List, [], ◌∷◌, ◌++◌, length, drop, None, Some, refl, sym, ap, ◌∙◌, subst, arith, append-nil, append_assoc}
use Rattle.std.specs.Prelude.{IsTrue, is_some, remove}
use Rattle.std.specs.List.{list_any}
use Rattle.std.proofs.lemmas.Bool.{or_parts}
use Rattle.std.proofs.lemmas.List.{drop_all, take_all}
use Rattle.std.proofs.lemmas.List.Folds.{list_any-append}
use Rattle.std.proofs.lemmas.Option.{none-some, same_Some}
use Rattle.slab.specs.Slab.{Slab, Updates, get}
use Rattle.serving_wires.specs.Rows.{with_item_at}
use Rattle.serving_wires.specs.Slots.{are_kept, row_of, rows_of}
use Rattle.serving_wires.specs.declared.roster.Place.{Place}
use Rattle.serving_wires.proofs.Found.{IsAside, all_kept, as_many, differs_from, first_kept, fresh_aside, kept_aside, key_of, removed_first, removed_later, rows_aside, with_first, with_later}
use Rattle.list_laws.proofs.Numbers.{other_number}

-- a write at a key changes the row of its place, and no other
pub written : {T : Type 0} (slots new : Slab T) (places : List Place) (at key : ℕ) (item : T) → Updates slots new key (Some item) → IsTrue (are_kept slots places)
    → key_of places at ≡ Some key → rows_of new places ≡ with_item_at at item (rows_of slots places)
written slots new [] at key item u kept is = absurd (none-some key is)
written slots new (place ∷ places) zero key item u kept is =
    let f = first_kept slots place places kept in
    let same : place.key ≡ key = same_Some place.key key is in
    let aside : IsAside key places = subst (λ (n : ℕ). IsAside n places) same f.own in
    ap (λ o. row_of place.channel o ++ rows_of new places) (ap (λ (n : ℕ). get new n) same ∙ u.changed)
    ∙ ap (λ rows. row_of place.channel (Some item) ++ rows) (rows_aside slots new key (Some item) places u aside)
    ∙ with_first place.channel (get slots place.key) (rows_of slots places) item f.there
written slots new (place ∷ places) (suc at) key item u kept is =
    let f = first_kept slots place places kept in
    let other : place.key ≢ key = differs_from places at key place.key f.own is in
    ap (λ o. row_of place.channel o ++ rows_of new places) (u.others place.key other)
    ∙ ap (λ rows. row_of place.channel (get slots place.key) ++ rows) (written slots new places at key item u f.rest is)
    ∙ with_later place.channel (get slots place.key) (rows_of slots places) at item f.there

pub kept_written : {T : Type 0} (slots new : Slab T) (places : List Place) (at key : ℕ) (item : T) → Updates slots new key (Some item) → IsTrue (are_kept slots places)
    → key_of places at ≡ Some key → IsTrue (are_kept new places)
kept_written slots new [] at key item u kept is = refl
kept_written slots new (place ∷ places) zero key item u kept is =
    let f = first_kept slots place places kept in
    let same : place.key ≡ key = same_Some place.key key is in
    let aside : IsAside key places = subst (λ (n : ℕ). IsAside n places) same f.own in
    all_kept new place places
    (record { there = ap (λ o. is_some o) (ap (λ (n : ℕ). get new n) same ∙ u.changed); own = f.own; rest = kept_aside slots new key (Some item) places u aside f.rest })
kept_written slots new (place ∷ places) (suc at) key item u kept is =
    let f = first_kept slots place places kept in
    let other : place.key ≢ key = differs_from places at key place.key f.own is in
    all_kept new place places
    (record { there = ap (λ o. is_some o) (u.others place.key other) ∙ f.there; own = f.own; rest = kept_written slots new places at key item u f.rest is })

-- ---- one more

rows_both : {T : Type 0} (slots : Slab T) (first rest : List Place) → rows_of slots (first ++ rest) ≡ rows_of slots first ++ rows_of slots rest
rows_both slots [] rest = refl
rows_both slots (place ∷ first) rest =
    ap (λ rows. row_of place.channel (get slots place.key) ++ rows) (rows_both slots first rest)
    ∙ sym (append_assoc (row_of place.channel (get slots place.key)) (rows_of slots first) (rows_of slots rest))

pub pushed : {T : Type 0} (slots new : Slab T) (places : List Place) (place : Place) (item : T) → Updates slots new place.key (Some item) → get slots place.key ≡ None
    → IsTrue (are_kept slots places) → rows_of new (places ++ place ∷ []) ≡ rows_of slots places ++ (record { channel = place.channel; item = item }) ∷ []
pushed slots new places place item u fresh kept =
    rows_both new places (place ∷ []) ∙ ap (λ rows. rows ++ (row_of place.channel (get new place.key) ++ [])) (rows_aside slots new place.key (Some item) places u (fresh_aside slots places place.key kept fresh))
    ∙ ap (λ o. rows_of slots places ++ (row_of place.channel o ++ [])) u.changed

kept_push : {T : Type 0} (new : Slab T) (places : List Place) (place : Place) → is_some (get new place.key) ≡ true → IsAside place.key places → IsTrue (are_kept new places)
    → IsTrue (are_kept new (places ++ place ∷ []))
kept_push new [] place there aside kept = all_kept new place [] (record { there = there; own = refl; rest = refl })
kept_push new (first ∷ places) place there aside kept =
    let parts = or_parts (first.key == place.key) (list_any (λ other. other.key == place.key) places) aside in
    let f = first_kept new first places kept in
    all_kept new first (places ++ place ∷ [])
    (record {
      there = f.there;
      own = list_any-append (λ other. other.key == first.key) places (place ∷ [])
          ∙ ap (λ (b : Bool). b || ((place.key == first.key) || false)) f.own ∙ ap (λ (b : Bool). b || false) (other_number first.key place.key parts.0);
      rest = kept_push new places place there parts.1 f.rest;
    })

pub kept_pushed : {T : Type 0} (slots new : Slab T) (places : List Place) (place : Place) (item : T) → Updates slots new place.key (Some item) → get slots place.key ≡ None
    → IsTrue (are_kept slots places) → IsTrue (are_kept new (places ++ place ∷ []))
kept_pushed slots new places place item u fresh kept =
    let aside = fresh_aside slots places place.key kept fresh in
    kept_push new places place (ap (λ o. is_some o) u.changed) aside (kept_aside slots new place.key (Some item) places u aside kept)

-- ---- one less

pub removed : {T : Type 0} (slots new : Slab T) (places : List Place) (at key : ℕ) → Updates slots new key None → IsTrue (are_kept slots places)
    → key_of places at ≡ Some key → rows_of new (remove places at) ≡ remove (rows_of slots places) at
removed slots new [] at key u kept is = absurd (none-some key is)
removed slots new (place ∷ places) zero key u kept is =
    let f = first_kept slots place places kept in
    let aside : IsAside key places = subst (λ (n : ℕ). IsAside n places) (same_Some place.key key is) f.own in
    rows_aside slots new key None places u aside ∙ removed_first place.channel (get slots place.key) (rows_of slots places) f.there
removed slots new (place ∷ places) (suc at) key u kept is =
    let f = first_kept slots place places kept in
    let other : place.key ≢ key = differs_from places at key place.key f.own is in
    ap (λ o. row_of place.channel o ++ rows_of new (remove places at)) (u.others place.key other)
    ∙ ap (λ rows. row_of place.channel (get slots place.key) ++ rows) (removed slots new places at key u f.rest is)
    ∙ removed_later place.channel (get slots place.key) (rows_of slots places) at f.there

aside_removed : (other : ℕ) (places : List Place) (at : ℕ) → IsAside other places → IsAside other (remove places at)
aside_removed other [] zero aside = refl
aside_removed other [] (suc at) aside = refl
aside_removed other (place ∷ places) zero aside = (or_parts (place.key == other) (list_any (λ p. p.key == other) places) aside).1
aside_removed other (place ∷ places) (suc at) aside =
    let parts = or_parts (place.key == other) (list_any (λ p. p.key == other) places) aside in
    ap (λ (b : Bool). b || list_any (λ p. p.key == other) (remove places at)) parts.0 ∙ aside_removed other places at parts.1

pub kept_removed : {T : Type 0} (slots new : Slab T) (places : List Place) (at key : ℕ) → Updates slots new key None → IsTrue (are_kept slots places)
    → key_of places at ≡ Some key → IsTrue (are_kept new (remove places at))
kept_removed slots new [] at key u kept is = absurd (none-some key is)
kept_removed slots new (place ∷ places) zero key u kept is =
    let f = first_kept slots place places kept in
    kept_aside slots new key None places u (subst (λ (n : ℕ). IsAside n places) (same_Some place.key key is) f.own) f.rest
kept_removed slots new (place ∷ places) (suc at) key u kept is =
    let f = first_kept slots place places kept in
    let other : place.key ≢ key = differs_from places at key place.key f.own is in
    all_kept new place (remove places at)
    (record {
      there = ap (λ o. is_some o) (u.others place.key other) ∙ f.there;
      own = aside_removed place.key places at f.own;
      rest = kept_removed slots new places at key u f.rest is;
    })

-- past the end there is nothing to remove
past_end : (places : List Place) (at : ℕ) → key_of places at ≡ None → length places ≤ at
past_end [] at is = omega arith
past_end (place ∷ places) zero is = absurd (none-some place.key (sym is))
past_end (place ∷ places) (suc at) is = let less = past_end places at is in omega arith

pub none_removed : {T : Type 0} (slots : Slab T) (places : List Place) (at : ℕ) → IsTrue (are_kept slots places) → key_of places at ≡ None
    → rows_of slots places ≡ remove (rows_of slots places) at
none_removed slots places at kept is =
    let rows = rows_of slots places in
    let past : length rows ≤ at = omega (arith, as_many slots places kept, past_end places at is) in
    sym (ap (λ ys. ys ++ drop (suc at) rows) (take_all at rows past) ∙ ap (λ ys. rows ++ ys) (drop_all (suc at) rows (omega arith)) ∙ append-nil rows)
