-- What a start, a change and an end leave is orderly.
use Rattle.std.proofs.Common.{◌≡◌, ℕ, List, slice_get, Option, Some, None, refl, sym}
use Rattle.std.proofs.lemmas.Option.{get_or_from_slice_get}
use Rattle.target_contexts.specs.Laws.{ChangeStaysOrderly, EndStaysOrderly, StartStaysOrderly}
use Rattle.target_contexts.specs.Live.{IsOrderly, place_of, with_at, with_row, without_at}
use Rattle.target_contexts.specs.ProcessValue.{ProcessValue}
use Rattle.target_contexts.proofs.Rising.{orderly_push, orderly_remove, orderly_set}

pub start_orderly : StartStaysOrderly
start_orderly rows next process orderly room small = orderly_push rows next process orderly room small

row_orderly : (rows : List (ℕ × ProcessValue)) (next place : ℕ) (process : ProcessValue) (row : Option (ℕ × ProcessValue)) → slice_get rows place ≡ row → IsOrderly rows next → IsOrderly (with_row process rows place row) next
row_orderly rows next place process None read orderly = orderly
row_orderly rows next place process (Some row) read orderly =
    orderly_set rows next place row process orderly (sym (get_or_from_slice_get rows place row row read))

at_orderly : (rows : List (ℕ × ProcessValue)) (next : ℕ) (process : ProcessValue) (place : Option ℕ) → IsOrderly rows next → IsOrderly (with_at process rows place) next
at_orderly rows next process None orderly = orderly
at_orderly rows next process (Some place) orderly = row_orderly rows next place process (slice_get rows place) refl orderly

pub change_orderly : ChangeStaysOrderly
change_orderly rows next number process orderly = at_orderly rows next process (place_of number rows) orderly

without_orderly : (rows : List (ℕ × ProcessValue)) (next : ℕ) (place : Option ℕ) → IsOrderly rows next → IsOrderly (without_at rows place) next
without_orderly rows next None orderly = orderly
without_orderly rows next (Some place) orderly = orderly_remove rows next place orderly

pub end_orderly : EndStaysOrderly
end_orderly rows next number orderly = without_orderly rows next (place_of number rows) orderly
