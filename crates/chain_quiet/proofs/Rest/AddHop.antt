-- The hop to a value-add.
use Rattle.std.proofs.Common.{◌≡◌, ◌&&◌, true, false, List, [], ◌∷◌, ◌++◌, Option, Some, None, refl, sym, ap, ◌∙◌, subst, append-nil}
use Rattle.std.specs.Prelude.{IfSome, option_map, unwrap_or}
use Rattle.channel_core.specs.Arrivals.{Spoken, arrived, bytes_of}
use Rattle.channel_core.specs.Closing.{is_closed}
use Rattle.channel_laws.specs.Meeting.{AnswersAll, IsFree, RestTogether, Side, run_of}
use Rattle.channel_laws.specs.Numbering.{TakesNumbered}
use Rattle.chain_quiet.specs.Stuck.{AddIsStill, HopIsStill, IsFreeAbove, IsReadable, IsStill, end_of_side, side_above, side_below}
use Rattle.chain_route.specs.Carrying.{HopCarries, Made, end_below, past_of, value_of}
use Rattle.chain_route.specs.Runs.{Talk}
use Rattle.chain_route.specs.declared.hop.Hop.{Hop}
use Rattle.chain_route.proofs.Unheard.{readable_by, value_hello}
use Rattle.value_node.specs.Passing.{Upper}
use Rattle.value_node.specs.RelayLaws.{EndsAreRuns, StandsWell}
use Rattle.value_node.specs.Runs.{UpperCall, above, after_all, below, no_calls, upper_after}
use Rattle.value_node.specs.Value.{is_free, is_opening}
use Rattle.value_node.specs.declared.states.Bind.{Bind}
use Rattle.value_node.specs.declared.states.Bind.TheVariants.{Unbound, Opening, Bound, Closed}
use Rattle.node_answers.proofs.TheLaws.{answers_bound, answers_unbound}
use Rattle.value_node.proofs.TheLaws.{ends_are_runs}
use Rattle.chain_quiet.proofs.Rest.Facts.{live_above}
use Rattle.chain_quiet.proofs.Rest.Meeting.{Meet, meet_at_rest, meet_free}
use Rattle.chain_quiet.proofs.Rest.Resting.{Rests}

-- ---- Its upper end

pub above_readable : (m : Made) → IsReadable (side_above m)
above_readable m = record { formed = value_hello; readable = readable_by (past_of m).connection (ends_are_runs m.peer m.calls).above_readable }

-- one that isn't free to connect is open
abbrev IsOpenAbove : List UpperCall → Type 0
IsOpenAbove calls = IsStill (upper_after calls) × (is_closed (upper_after calls).end.state ≡ false)

open_by : (connection : Option (List UpperCall)) (upper : Option Upper) → upper ≡ option_map (λ calls. (upper_after calls).end) connection → is_free upper ≡ false
    → IfSome connection (λ calls. IsStill (upper_after calls)) → IsOpenAbove (unwrap_or connection [])
open_by None upper is free still = let one : true ≡ false = sym (ap is_free is) ∙ free in absurd cc
open_by (Some calls) upper is free still = (still, sym (ap is_free is) ∙ free)

free_by : (connection : Option (List UpperCall)) → IfSome connection (λ calls. IsStill (upper_after calls))
    → (IsStill (upper_after (unwrap_or connection [])) → is_closed (upper_after (unwrap_or connection [])).end.state ≡ false → IsFree (upper_after (unwrap_or connection [])))
    → is_closed (upper_after (unwrap_or connection [])).end.state ≡ false → IfSome connection (λ calls. IsFree (upper_after calls))
free_by None still free opened = tt
free_by (Some calls) still free opened = free still opened

pub free_above : (m : Made) → AddIsStill m → (IsStill (above (past_of m)) → is_closed (above (past_of m)).end.state ≡ false → IsFree (above (past_of m))) → IsFreeAbove m
free_above m add free opened = free_by (past_of m).connection add.upper free opened

-- ---- The two ends of the hop

module _ {T : Type 0} (s : Side T) (hop : Hop) (m : Made) (sends : IsReadable s) (hop_is : HopIsStill hop) (add : AddIsStill m)
    (carries : HopCarries hop (end_of_side s) (end_below (past_of m))) (still : IsStill (run_of s)) (opened : is_closed (run_of s).end.state ≡ false) where
  live : hop.is_live ≡ true
  live = live_above s hop (end_below (past_of m)) carries still opened

  facts : EndsAreRuns (after_all m.calls (no_calls m.peer))
  facts = ends_are_runs m.peer m.calls

  down : arrived s.calls ≡ bytes_of (below (past_of m)).past.given
  down = sym (carries.down live ∙ ap (λ outs. arrived s.calls ++ bytes_of outs) hop_is.down ∙ append-nil (arrived s.calls))

  up : arrived (side_below m).calls ≡ bytes_of (run_of s).past.given
  up = sym (carries.up live refl ∙ ap (λ outs. arrived (side_below m).calls ++ bytes_of outs) hop_is.up ∙ append-nil (arrived (side_below m).calls))

  pub meets : Meet true s (side_below m)
  meets = record {
    lasting = record { formed = sends.formed; readable = sends.readable; lasting = (carries.lasting live).0 };
    others_last = record { formed = value_hello; readable = facts.below_readable; lasting = (carries.lasting live).1 };
    has = record { given = add.lower.queued; front = carries.down_front; came = λ opens. down; inbox = still.inbox; stop = still.stop };
    others_have = record { given = still.queued; front = carries.up_front; came = λ opens. up; inbox = add.lower.inbox; stop = add.lower.stop };
  }

  pub rest_together : RestTogether true true s (side_below m)
  rest_together = meet_at_rest true s (side_below m) meets

  lower_open : is_closed (value_of m).relay.lower.state ≡ false
  lower_open = ap (λ e. is_closed e.state) facts.lower ∙ sym rest_together.closed ∙ opened

  stands_as : (bind : Bind) → (value_of m).relay.bind ≡ bind → StandsWell bind (value_of m).relay (past_of m)
  stands_as bind is = let P : Bind → Type 0 = λ b. StandsWell b (value_of m).relay (past_of m) in subst P is facts.stands

  open_above : is_free (value_of m).relay.upper ≡ false → IsOpenAbove (side_above m).calls
  open_above free = open_by (past_of m).connection (value_of m).relay.upper facts.upper free add.upper

  -- a bound one has an open upper end
  pub bound_above : (past_of m).is_bound ≡ true → IsOpenAbove (side_above m).calls
  bound_above bound = by_bind (value_of m).relay.bind refl
    where
      by_bind : (bind : Bind) → (value_of m).relay.bind ≡ bind → IsOpenAbove (side_above m).calls
      by_bind Unbound is = let one : true ≡ false = sym bound ∙ (stands_as Unbound is).2 in absurd cc
      by_bind Opening is = let one : true ≡ false = sym bound ∙ (stands_as Opening is).2 in absurd cc
      by_bind Bound is = open_above (stands_as Bound is).1
      by_bind Closed is = let one : true ≡ false = sym (stands_as Closed is).0 ∙ lower_open in absurd cc

  -- and what its lower end took is answered
  pub answers_all : (made : List Made) (talk : Talk) → Rests (side_above m) made talk → TakesNumbered (below (past_of m)) → (spoken : List Spoken) × AnswersAll (below (past_of m)) spoken
  answers_all made talk rests numbered = by_bind (value_of m).relay.bind refl
    where
      by_bind : (bind : Bind) → (value_of m).relay.bind ≡ bind → (spoken : List Spoken) × AnswersAll (below (past_of m)) spoken
      by_bind Unbound is = answers_unbound m.peer m.calls is numbered
      by_bind Opening is =
          let up = open_above (sym (ap (λ bind. is_opening bind && is_free (value_of m).relay.upper) is) ∙ add.awaits_none) in
          let one : true ≡ false = sym (rests.greeted up.0 up.1) ∙ facts.heard ∙ (stands_as Opening is).2 in
          absurd cc
      by_bind Bound is = let up = open_above (stands_as Bound is).1 in answers_bound m.peer m.calls is (rests.unstuck.free up.0 up.1) numbered
      by_bind Closed is = let one : true ≡ false = sym (stands_as Closed is).0 ∙ lower_open in absurd cc

pub add_rests : {T : Type 0} → (s : Side T) (hop : Hop) (m : Made) (made : List Made) (talk : Talk) → IsReadable s → HopIsStill hop → AddIsStill m
    → HopCarries hop (end_of_side s) (end_below (past_of m)) → Rests (side_above m) made talk → Rests s (m ∷ made) talk
add_rests s hop m made talk sends hop_is add carries rests =
    record {
      unstuck = record {
        adds = (free_above m add rests.unstuck.free, rests.unstuck.adds);
        free = λ still opened.
            meet_free true s (side_below m) (meets s hop m sends hop_is add carries still opened)
            (answers_all s hop m sends hop_is add carries still opened made talk rests) opened;
        all_taken = λ still opened bound said formed is.
            let up = bound_above s hop m sends hop_is add carries still opened bound.0 in
            (((rest_together s hop m sends hop_is add carries still opened).first opened).taken, rests.unstuck.all_taken up.0 up.1 bound.1 said formed is);
      };
      greeted = λ still opened. ((rest_together s hop m sends hop_is add carries still opened).first opened).greeted;
    }
