-- No end of a value-add of a way closes by a fault of its other side.
use Rattle.std.proofs.Common.{◌≡◌, inl, inr, List, [], ◌∷◌, map, Option, Some, None, refl, sym, subst}
use Rattle.std.specs.Prelude.{IfSome, option_map, unwrap_or}
use Rattle.std.specs.List.{AllByRecursion}
use Rattle.chain_route.specs.Carrying.{Made, past_of, value_of}
use Rattle.chain_through.specs.Endings.{AddIsSound as MadeIsSound, IsSound}
use Rattle.channel_core.specs.Runs.{Run}
use Rattle.channel_core.specs.declared.states.Cause.TheVariants as causes
use Rattle.channel_core.specs.declared.states.EndState.{EndState}
use Rattle.channel_core.specs.declared.states.EndState.TheVariants.{Closed, Live, Opening, Reopening}
use Rattle.value_node.specs.RelayLaws.{EndsAreRuns}
use Rattle.value_node.specs.Runs.{UpperCall, after_all, no_calls, upper_after}
use Rattle.world_laws.specs.EndLaws.{AddIsSound, ClosesSoundly}
use Rattle.value_node.proofs.TheLaws.{ends_are_runs}

soundly : {T : Type 0} → (state : EndState) (r : Run T) → r.end.state ≡ state → IsSound r → ClosesSoundly state
soundly Opening r is sound = tt
soundly Live r is sound = tt
soundly Reopening r is sound = tt
soundly (Closed causes.Own) r is sound = tt
soundly (Closed causes.Eos) r is sound = tt
soundly (Closed causes.Ended) r is sound = tt
soundly (Closed (causes.Protocol number reason)) r is sound = absurd (sound.protocol number reason (inr (inl is)))
soundly (Closed (causes.Stream fault)) r is sound = absurd (sound.stream fault (inr (inl is)))

add_sound : (m : Made) → MadeIsSound m → AddIsSound (value_of m)
add_sound m sound =
    let runs : EndsAreRuns (after_all m.calls (no_calls m.peer)) = ends_are_runs m.peer m.calls in
    record {
      lower = subst (λ e. ClosesSoundly e.state) (sym runs.lower) (soundly _ _ refl sound.lower);
      upper = subst (λ o. IfSome o (λ e. ClosesSoundly e.state)) (sym runs.upper) (by_connection (past_of m).connection sound.upper);
    }
  where
    by_connection : (connection : Option (List UpperCall)) → IsSound (upper_after (unwrap_or connection [])) → IfSome (option_map (λ calls. (upper_after calls).end) connection) (λ e. ClosesSoundly e.state)
    by_connection None is = tt
    by_connection (Some calls) is = soundly (upper_after calls).end.state (upper_after calls) refl is

pub adds_sound : (made : List Made) → AllByRecursion MadeIsSound made → AllByRecursion AddIsSound (map value_of made)
adds_sound [] each = tt
adds_sound (m ∷ made) each = (add_sound m each.0, adds_sound made each.1)
