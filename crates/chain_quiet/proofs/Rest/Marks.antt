-- Bytes without their marks.
use Rattle.std.proofs.Common.{◌≡◌, ℕ, List, [], ◌∷◌, ◌++◌, map, Option, None, refl, sym, ap, ◌∙◌}
use Rattle.std.proofs.lemmas.List.{map-append}
use Rattle.channel_core.specs.Arrivals.{Marked, bytes_of, marked}
use Rattle.channel_core.specs.declared.held.Outgoing.{Outgoing}
use Rattle.chain_quiet.specs.Stuck.{unmarked}

abbrev bare : Marked → Marked
bare b = record b { mark = None }

bare_bytes : (bytes : List ℕ) (mark : Option ℕ) → marked bytes None ≡ map bare (marked bytes mark)
bare_bytes [] mark = refl
bare_bytes (byte ∷ bytes) mark = ap (λ bs. (record { byte = byte; mark = None }) ∷ bs) (bare_bytes bytes mark)

bare_queue : (outs : List Outgoing) → unmarked outs ≡ map bare (bytes_of outs)
bare_queue [] = refl
bare_queue (o ∷ outs) =
    ap (λ bs. marked o.bytes None ++ bs) (bare_queue outs) ∙ ap (λ bs. bs ++ map bare (bytes_of outs)) (bare_bytes o.bytes o.mark)
    ∙ sym (map-append bare (marked o.bytes o.mark) (bytes_of outs))

-- two queues of the same marked bytes have the same bytes
pub unmarked_same : (outs others : List Outgoing) → bytes_of outs ≡ bytes_of others → unmarked outs ≡ unmarked others
unmarked_same outs others is = bare_queue outs ∙ ap (map bare) is ∙ sym (bare_queue others)
