-- The bytes of what is in flight, and fronts of lists.
use Rattle.std.proofs.Common.{◌≡◌, ℕ, zero, suc, ◌-◌, ◌==◌, Bool, true, false, cond, nat_le, List, [], ◌∷◌, ◌++◌, length, take, drop, map, Option, refl, sym, ap, ◌∙◌, append_assoc, append-nil}
use Rattle.std.specs.List.{flat_map}
use Rattle.std.proofs.lemmas.List.{map-append}
use Rattle.std.proofs.lemmas.List.Concat.{flat_map-append}
use Rattle.channel_core.specs.Arrivals.{Marked, marked}
use Rattle.channel_core.specs.declared.held.Outgoing.{Outgoing}
use Rattle.chain_route.specs.Lane.{arriving, staying}
use Rattle.list_laws.proofs.Lists.{take_drop}

-- the bytes of a queue, each with what f makes of its message's mark
abbrev pub bytes_by : (Option ℕ → Option ℕ) → List Outgoing → List Marked
bytes_by f outs = flat_map (λ o. marked o.bytes (f o.mark)) outs

cut_bytes : (f : Option ℕ → Option ℕ) (count : ℕ) (out : Outgoing) (outs : List Outgoing) → bytes_by f (out ∷ outs)
    ≡ (marked (take count out.bytes) (f out.mark) ++ []) ++ (marked (drop count out.bytes) (f out.mark) ++ bytes_by f outs)
cut_bytes f count out outs =
    let mark = f out.mark in
    let front = marked (take count out.bytes) mark in
    let rest = marked (drop count out.bytes) mark in
    ap (λ bs. marked bs mark ++ bytes_by f outs) (sym (take_drop count out.bytes))
    ∙ ap (λ bs. bs ++ bytes_by f outs) (map-append (λ byte. record { byte = byte; mark = mark }) (take count out.bytes) (drop count out.bytes))
    ∙ append_assoc front rest (bytes_by f outs)
    ∙ ap (λ bs. bs ++ (rest ++ bytes_by f outs)) (sym (append-nil front))

-- what arrives, and then what stays, is what was in flight
pub arrives_first : (f : Option ℕ → Option ℕ) (count : ℕ) (outs : List Outgoing) → bytes_by f outs ≡ bytes_by f (arriving count outs) ++ bytes_by f (staying count outs)
arrives_first f count [] = refl
arrives_first f count (out ∷ outs) = by_flags (count == 0) (nat_le (length out.bytes) count) (arrives_first f (count - length out.bytes) outs)
  where
    by_flags : (none whole : Bool) → bytes_by f outs ≡ bytes_by f (arriving (count - length out.bytes) outs) ++ bytes_by f (staying (count - length out.bytes) outs)
        → bytes_by f (out ∷ outs)
        ≡ bytes_by f (cond none [] (cond whole (out ∷ arriving (count - length out.bytes) outs) (record out { bytes = take count out.bytes } ∷ [])))
        ++ bytes_by f (cond none (out ∷ outs) (cond whole (staying (count - length out.bytes) outs) (record out { bytes = drop count out.bytes } ∷ outs)))
    by_flags true whole rest = refl
    by_flags false true rest =
        ap (λ bs. marked out.bytes (f out.mark) ++ bs) rest
        ∙ sym (append_assoc (marked out.bytes (f out.mark)) (bytes_by f (arriving (count - length out.bytes) outs)) (bytes_by f (staying (count - length out.bytes) outs)))
    by_flags false false rest = cut_bytes f count out outs

pub bytes_more : (f : Option ℕ → Option ℕ) (outs more : List Outgoing) → bytes_by f (outs ++ more) ≡ bytes_by f outs ++ bytes_by f more
bytes_more f outs more = flat_map-append (λ o. marked o.bytes (f o.mark)) outs more

-- ---- One list after the other

pub take_mapped : {A B : Type 0} → (f : A → B) (n : ℕ) (xs : List A) → take n (map f xs) ≡ map f (take n xs)
take_mapped f zero xs = refl
take_mapped f (suc n) [] = refl
take_mapped f (suc n) (x ∷ xs) = ap (λ ys. f x ∷ ys) (take_mapped f n xs)
