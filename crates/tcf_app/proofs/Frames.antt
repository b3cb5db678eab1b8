-- The length of what a message has on the stream.
use Rattle.std.proofs.Common.{◌≡◌, ℕ, suc, ◌+◌, List, [], ◌∷◌, ◌++◌, length, Bool, true, false, ◌==◌, cond, refl, sym, ap, ◌∙◌, arith, length-append, add_assoc, count_by, zero-add}
use Rattle.std.proofs.lemmas.List.Sums.{sum_by-cons}
use Rattle.std.specs.Prelude.{if◌then◌else◌}
use Rattle.stream_escape.specs.declared.stream.Item.{Item}
use Rattle.stream_escape.specs.Stream.{escaped, framed}
use Rattle.tcf_app.specs.Pieces.{frame_length, frames_length}

abbrev is_three : ℕ → Bool
is_three byte = byte == 3

length_escaped : (m : List ℕ) → length (escaped m) ≡ length m + count_by is_three m
length_escaped [] = refl
length_escaped (x ∷ m) = rw (sum_by-cons (λ y. cond (is_three y) 1 0) x m) (by_test (x == 3) (length_escaped m))
  where
    by_test : (t : Bool) → length (escaped m) ≡ length m + count_by is_three m
        → length (if t then 3 ∷ 0 ∷ escaped m else x ∷ escaped m) ≡ suc (length m) + (cond t 1 0 + count_by is_three m)
    by_test true e = omega arith
    by_test false e = omega arith

pub length_framed : (m : List ℕ) → length (framed m) ≡ length m + count_by (λ byte. byte == 3) m + 2
length_framed m = length-append (escaped m) (3 ∷ 1 ∷ []) ∙ ap (λ n. n + 2) (length_escaped m)

pub frames_append : (items more : List Item) → frames_length (items ++ more) ≡ frames_length items + frames_length more
frames_append [] more = sym (zero-add (frames_length more))
frames_append (item ∷ items) more =
    ap (λ n. frame_length item + n) (frames_append items more) ∙ sym (add_assoc (frame_length item) (frames_length items) (frames_length more))
