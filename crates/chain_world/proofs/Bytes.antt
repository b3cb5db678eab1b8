-- The bytes of what is in flight, with their marks and without, and fronts of lists.
use Rattle.std.proofs.Common.{◌≡◌, List, ◌++◌, map, ap, ◌∙◌}
use Rattle.std.proofs.lemmas.List.{map-append}
use Rattle.std.proofs.lemmas.List.Concat.{flat_map-append}
use Rattle.std.specs.Prelude.{None}
use Rattle.channel_core.specs.Arrivals.{bytes_of, marked}
use Rattle.channel_core.specs.declared.held.Outgoing.{Outgoing}
use Rattle.chain_world.specs.Standing.{unmarked}

pub bytes_more : (outs more : List Outgoing) → bytes_of (outs ++ more) ≡ bytes_of outs ++ bytes_of more
bytes_more outs more = flat_map-append (λ o. marked o.bytes o.mark) outs more

pub unmarked_more : (outs more : List Outgoing) → unmarked (outs ++ more) ≡ unmarked outs ++ unmarked more
unmarked_more outs more =
    let plain : Outgoing → Outgoing = λ out. record out { mark = None } in ap bytes_of (map-append plain outs more) ∙ bytes_more (map plain outs) (map plain more)
