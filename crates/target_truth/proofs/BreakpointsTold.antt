-- The changes that events of breakpoints tell touch just the breakpoints that are named.
use Rattle.std.proofs.Common.{◌≡◌, ℕ, true, false, true≢false, List, [], ◌∷◌, map, Option, Some, refl, sym}
use Rattle.std.specs.Prelude.{bytes_eq}
use Rattle.std.specs.List.{AllByRecursion, list_any}
use Rattle.breakpoints.specs.Rows.{is_among, props_of}
use Rattle.knowledge.specs.Changes.{of_each, status_told}
use Rattle.knowledge.specs.Facts.{properties_are, status_is}
use Rattle.knowledge.specs.Rows.{hit_breakpoint, removed_properties, told_properties}
use Rattle.run_control.specs.TargetValue.{TargetValue}
use Rattle.target_truth.proofs.Agree.{IsTouched}
use Rattle.target_truth.proofs.Changes.{IsSaid, is_bytes, touches}
use Rattle.target_truth.proofs.Origins.{ListsNone, ListsOne, list_after}
use Rattle.target_truth.proofs.Ranged.{Fails}
use Rattle.target_truth.proofs.Texts.{turned}
use Rattle.tcf_values.specs.declared.values.BpProps.{BpProps}
use Rattle.tcf_values.specs.declared.values.BpStatus.{BpStatus}
use Rattle.list_laws.proofs.Flags.{or_then}

-- what is told is so
pub told_so : (now : TargetValue) (list : List BpProps) → AllByRecursion (λ props. props_of props.id now.breakpoints ≡ Some props) list
    → AllByRecursion (IsSaid now) (of_each told_properties list)
told_so now [] there = tt
told_so now (props ∷ list) there = (there.0, (tt, told_so now list there.1))

pub removed_so : (now : TargetValue) (ids : List (List ℕ)) → AllByRecursion (IsSaid now) (of_each removed_properties ids)
removed_so now [] = tt
removed_so now (id ∷ ids) = (tt, (tt, removed_so now ids))

-- and lists of threads stay
pub told_lists : (list : List BpProps) → AllByRecursion ListsNone (of_each told_properties list)
told_lists [] = tt
told_lists (props ∷ list) = (tt, (tt, told_lists list))

pub removed_lists : (ids : List (List ℕ)) → AllByRecursion ListsNone (of_each removed_properties ids)
removed_lists [] = tt
removed_lists (id ∷ ids) = (tt, (tt, removed_lists ids))

pub told_none : (list : List BpProps) → list_any is_bytes (of_each told_properties list) ≡ false
told_none [] = refl
told_none (props ∷ list) = told_none list

pub removed_none : (ids : List (List ℕ)) → list_any is_bytes (of_each removed_properties ids) ≡ false
removed_none [] = refl
removed_none (id ∷ ids) = removed_none ids

-- ---- those that are named are touched

pub told_touched : (list : List BpProps) (id : List ℕ) (x : BpProps) → is_among (map (λ props. props.id) list) id ≡ true
    → IsTouched (of_each told_properties list) (properties_are id x)
told_touched [] id x among = absurd (true≢false (sym among))
told_touched (props ∷ list) id x among =
    or_then (bytes_eq id props.id) (is_among (map (λ p. p.id) list) id) (bytes_eq props.id id) (list_any (touches (properties_are id x)) (of_each told_properties list))
    (turned id props.id) (told_touched list id x) among

pub told_touched_status : (list : List BpProps) (id : List ℕ) (x : BpStatus) → is_among (map (λ props. props.id) list) id ≡ true
    → IsTouched (of_each told_properties list) (status_is id x)
told_touched_status [] id x among = absurd (true≢false (sym among))
told_touched_status (props ∷ list) id x among =
    or_then (bytes_eq id props.id) (is_among (map (λ p. p.id) list) id) (bytes_eq props.id id) (list_any (touches (status_is id x)) (of_each told_properties list))
    (turned id props.id) (told_touched_status list id x) among

pub removed_touched : (ids : List (List ℕ)) (id : List ℕ) (x : BpProps) → is_among ids id ≡ true → IsTouched (of_each removed_properties ids) (properties_are id x)
removed_touched [] id x among = absurd (true≢false (sym among))
removed_touched (other ∷ ids) id x among =
    or_then (bytes_eq id other) (is_among ids id) (bytes_eq other id) (list_any (touches (properties_are id x)) (of_each removed_properties ids))
    (turned id other) (removed_touched ids id x) among

pub removed_touched_status : (ids : List (List ℕ)) (id : List ℕ) (x : BpStatus) → is_among ids id ≡ true → IsTouched (of_each removed_properties ids) (status_is id x)
removed_touched_status [] id x among = absurd (true≢false (sym among))
removed_touched_status (other ∷ ids) id x among =
    or_then (bytes_eq id other) (is_among ids id) (bytes_eq other id) (list_any (touches (status_is id x)) (of_each removed_properties ids))
    (turned id other) (removed_touched_status ids id x) among

-- ---- those that are hit

pub hit_said : (now : TargetValue) (hits : List (List ℕ)) → AllByRecursion (IsSaid now) (of_each hit_breakpoint hits)
hit_said now [] = tt
hit_said now (hit ∷ hits) = (tt, hit_said now hits)

pub hit_plain : (hits : List (List ℕ)) → AllByRecursion (Fails is_bytes) (of_each hit_breakpoint hits)
hit_plain [] = tt
hit_plain (hit ∷ hits) = (refl, hit_plain hits)

pub hit_list : (number : ℕ) (hits : List (List ℕ)) → AllByRecursion (ListsOne number) (of_each hit_breakpoint hits)
hit_list number [] = tt
hit_list number (hit ∷ hits) = (tt, hit_list number hits)

pub hit_quiet : (number : ℕ) (hits : List (List ℕ)) (list : Option (List (List ℕ))) → list_after number (of_each hit_breakpoint hits) list ≡ list
hit_quiet number [] list = refl
hit_quiet number (hit ∷ hits) list = hit_quiet number hits list

pub hit_touched : (hits : List (List ℕ)) (id : List ℕ) (x : BpStatus) → is_among hits id ≡ true → IsTouched (of_each hit_breakpoint hits) (status_is id x)
hit_touched [] id x among = absurd (true≢false (sym among))
hit_touched (hit ∷ hits) id x among =
    or_then (bytes_eq id hit) (is_among hits id) (bytes_eq hit id) (list_any (touches (status_is id x)) (of_each hit_breakpoint hits))
    (turned id hit) (hit_touched hits id x) among

-- the status of one of them is told
pub told_one_touched : (hit : List ℕ) (status : BpStatus) (id : List ℕ) (x : BpStatus) → is_among (hit ∷ []) id ≡ true → IsTouched (status_told hit status ∷ []) (status_is id x)
told_one_touched hit status id x among =
    or_then (bytes_eq id hit) false (bytes_eq hit id) false (turned id hit) (λ none. none) among

pub told_list : (number : ℕ) (list : List BpProps) → AllByRecursion (ListsOne number) (of_each told_properties list)
told_list number [] = tt
told_list number (props ∷ list) = (tt, (tt, told_list number list))
