-- Messages without their marks.
use Rattle.std.proofs.Common.{◌≡◌, ℕ, Bool, true, false, cond, List, [], ◌∷◌, ◌++◌, map, Option, None, refl, sym, ap, ◌∙◌}
use Rattle.std.proofs.lemmas.List.{map-append}
use Rattle.channel_core.specs.Arrivals.{AreSpoken, Marked, Spoken, bytes_of, enters, marked, queue_of}
use Rattle.channel_core.specs.Wire.{said}
use Rattle.channel_core.specs.declared.held.Outgoing.{Outgoing}
use Rattle.chain_through.specs.Calling.{entering}
use Rattle.chain_world.specs.Standing.{unmarked}
use Rattle.list_laws.proofs.Lists.{map_map}
use Rattle.list_laws.specs.Fronts.{IsFront}
use Rattle.list_laws.proofs.Fronts.{front_flat}

-- ---- Without marks

abbrev pub bare : Spoken → Spoken
bare s = record { message = s.message; mark = None }

abbrev bare_byte : Marked → Marked
bare_byte b = record { byte = b.byte; mark = None }

bare_marked : (bytes : List ℕ) (mark : Option ℕ) → map bare_byte (marked bytes mark) ≡ marked bytes None
bare_marked bytes mark = map_map bare_byte (λ byte. record { byte = byte; mark = mark }) bytes

unmarked_bytes : (outs : List Outgoing) → unmarked outs ≡ map bare_byte (bytes_of outs)
unmarked_bytes [] = refl
unmarked_bytes (o ∷ outs) =
    ap (λ bs. marked o.bytes None ++ bs) (unmarked_bytes outs)
    ∙ ap (λ bs. bs ++ map bare_byte (bytes_of outs)) (sym (bare_marked o.bytes o.mark))
    ∙ sym (map-append bare_byte (marked o.bytes o.mark) (bytes_of outs))

pub front_unmarked : (xs ys : List Outgoing) → IsFront (bytes_of xs) (bytes_of ys) → IsFront (unmarked xs) (unmarked ys)
front_unmarked xs ys p = (
  map bare_byte p.0,
  unmarked_bytes ys ∙ ap (map bare_byte) p.1 ∙ map-append bare_byte (bytes_of xs) p.0 ∙ ap (λ bs. bs ++ map bare_byte p.0) (sym (unmarked_bytes xs)),
)

pub bare_bytes : (spoken : List Spoken) (is_ended : Bool) → unmarked (queue_of spoken is_ended) ≡ bytes_of (queue_of (map bare spoken) is_ended)
bare_bytes [] true = refl
bare_bytes [] false = refl
bare_bytes (s ∷ spoken) is_ended = ap (λ bs. marked (said s.message None).bytes None ++ bs) (bare_bytes spoken is_ended)

pub bare_spoken : (spoken : List Spoken) → AreSpoken spoken → AreSpoken (map bare spoken)
bare_spoken [] each = tt
bare_spoken (s ∷ spoken) each = (each.0, bare_spoken spoken each.1)

pub entering_bare : (spoken : List Spoken) → entering (map bare spoken) ≡ map bare (entering spoken)
entering_bare [] = refl
entering_bare (s ∷ spoken) = by_flag (enters s.message) (entering_bare spoken)
  where
    by_flag : (flag : Bool) → entering (map bare spoken) ≡ map bare (entering spoken) → cond flag (bare s ∷ entering (map bare spoken)) (entering (map bare spoken)) ≡ map bare (cond flag (s ∷ entering spoken) (entering spoken))
    by_flag true rest = ap (λ xs. bare s ∷ xs) rest
    by_flag false rest = rest

-- ---- The bytes of a front

pub front_bytes : (outs all : List Outgoing) → IsFront outs all → IsFront (bytes_of outs) (bytes_of all)
front_bytes outs all p = front_flat (λ o. marked o.bytes o.mark) outs all p
