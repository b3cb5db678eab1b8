-- Bytes without their marks, of what came and of what is in flight.
use Rattle.std.proofs.Common.{◌≡◌, List, [], ◌∷◌, ◌++◌, map, None, refl, sym, ap, ◌∙◌}
use Rattle.std.proofs.lemmas.List.{map-append}
use Rattle.std.proofs.lemmas.List.Concat.{flat_map-append}
use Rattle.channel_core.specs.Arrivals.{Marked, bytes_of, marked}
use Rattle.channel_core.specs.declared.held.Outgoing.{Outgoing}
use Rattle.chain_quiet.specs.Stuck.{unmarked}
use Rattle.chain_quiet.proofs.Rest.Marks.{unmarked_same}
use Rattle.list_laws.specs.Fronts.{IsFront}

pub bytes_more : (outs more : List Outgoing) → bytes_of (outs ++ more) ≡ bytes_of outs ++ bytes_of more
bytes_more outs more = flat_map-append (λ o. marked o.bytes o.mark) outs more

unmarked_more : (outs more : List Outgoing) → unmarked (outs ++ more) ≡ unmarked outs ++ unmarked more
unmarked_more outs more =
    let plain : Outgoing → Outgoing = λ out. record out { mark = None } in ap bytes_of (map-append plain outs more) ∙ bytes_more (map plain outs) (map plain more)

-- a queue of the bytes of two others
pub unmarked_parts : (outs came more : List Outgoing) → bytes_of outs ≡ bytes_of came ++ bytes_of more → unmarked outs ≡ unmarked came ++ unmarked more
unmarked_parts outs came more is = unmarked_same outs (came ++ more) (is ∙ sym (bytes_more came more)) ∙ unmarked_more came more

-- ---- Fronts

-- each byte by itself
abbrev each_alone : List Marked → List Outgoing
each_alone bytes = map (λ b. record { bytes = b.byte ∷ []; mark = b.mark }) bytes

bytes_alone : (bytes : List Marked) → bytes_of (each_alone bytes) ≡ bytes
bytes_alone [] = refl
bytes_alone (b ∷ bytes) = ap (λ bs. b ∷ bs) (bytes_alone bytes)

pub front_unmarked : (outs all : List Outgoing) → IsFront (bytes_of outs) (bytes_of all) → IsFront (unmarked outs) (unmarked all)
front_unmarked outs all p =
    let more = each_alone p.0 in (unmarked more, unmarked_parts all outs more (p.1 ∙ ap (λ bytes. bytes_of outs ++ bytes) (sym (bytes_alone p.0))))
