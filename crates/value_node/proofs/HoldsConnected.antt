-- A connection that is made keeps what holds of a value-add and its past.
use Rattle.std.proofs.Common.{◌≡◌, ℕ, Bool, true, false, List, [], Option, Some, None, refl, ap, sym, ◌∙◌, subst, arith}
use Rattle.std.specs.Prelude.{IsSome, if◌then◌else◌, option_map, option_to_list, unwrap_or}
use Rattle.std.specs.List.{AllByRecursion, list_any}
use Rattle.std.proofs.lemmas.Bool.{and_parts}
use Rattle.channel_core.specs.Closing.{is_closed}
use Rattle.channel_core.specs.Greeting.{is_greeting}
use Rattle.value_node.specs.Passing.{Lower, Upper}
use Rattle.value_node.specs.Deeds.{heard_in, sent_in as forwarded_in}
use Rattle.value_node.specs.RelayLaws.{IsGivenUp, StandsWell}
use Rattle.value_node.specs.Runs.{Past, UpperCall, connects, reconnected, remembered, upper_after}
use Rattle.value_node.specs.Value.{awaits, connected_to, is_free, is_opening}
use Rattle.value_node.specs.declared.relay.Relay.{Relay}
use Rattle.value_node.specs.declared.states.Bind.{Bind}
use Rattle.value_node.specs.declared.states.Bind.TheVariants.{Unbound, Opening, Bound, Closed}
use Rattle.value_node.proofs.Holding.{Holds}
use Rattle.value_node.proofs.Steps.{relay_called}
use Rattle.list_laws.proofs.AllLists.{all_append}

-- an Opening one isn't bound
opening_parts : (bind : Bind) (v : Relay) (p : Past) → is_opening bind ≡ true → StandsWell bind v p → (is_closed v.lower.state ≡ false) × IsSome v.redirect × (p.is_bound ≡ false)
opening_parts Unbound v p is stands = absurd cc
opening_parts Opening v p is stands = stands
opening_parts Bound v p is stands = absurd cc
opening_parts Closed v p is stands = absurd cc

opening_stands : (bind : Bind) (v next : Relay) (p q : Past) → is_opening bind ≡ true → next.lower ≡ v.lower → next.redirect ≡ v.redirect → q.is_bound ≡ p.is_bound → StandsWell bind v p → StandsWell bind next q
opening_stands Unbound v next p q is lower redirect bound stands = absurd cc
opening_stands Opening v next p q is lower redirect bound stands =
    (ap (λ (e : Lower). is_closed e.state) lower ∙ stands.0, subst (λ (o : Option (List ℕ)). IsSome o) (sym redirect) stands.1, bound ∙ stands.2)
opening_stands Bound v next p q is lower redirect bound stands = absurd cc
opening_stands Closed v next p q is lower redirect bound stands = absurd cc

given_up : (upper : Option Upper) (connection : Option (List UpperCall)) → upper ≡ option_map (λ calls. (upper_after calls).end) connection → is_free upper ≡ true
    → list_any is_greeting (upper_after (unwrap_or connection [])).past.taken ≡ false → AllByRecursion IsGivenUp (option_to_list connection)
given_up upper None same free off = tt
given_up upper (Some calls) same free off = (record { closed = sym (ap is_free same) ∙ free; unheard = off }, tt)

connected_holds : (v : Relay) (p : Past) → Holds v p → awaits v ≡ true → Holds (connected_to v) (reconnected p)
connected_holds v p h on =
    let parts = and_parts (is_opening v.bind) (is_free v.upper) on in
    let off : p.is_bound ≡ false = (opening_parts v.bind v p parts.0 h.stands).2 in
    record {
      deeds = h.deeds;
      lower = h.lower;
      upper = refl;
      stands = opening_stands v.bind v (connected_to v) p (reconnected p) parts.0 refl refl refl h.stands;
      unbound = h.unbound;
      heard = sym off;
      waits = λ isnt. tt;
      quiet = λ isnt. refl;
      earlier = all_append IsGivenUp p.earlier (option_to_list p.connection) h.earlier (given_up v.upper p.connection h.upper parts.1 (h.heard ∙ off));
      idle = h.idle;
      asked = h.asked;
      messages = ap heard_in (h.idle off);
      passed = h.passed;
      accepted = record { sent = []; refused = []; whole = ap forwarded_in (h.idle off); issued = refl; all = λ bound. refl };
      undrained = refl;
      right = h.right;
      fresh = h.fresh;
      knows = h.knows;
      few = omega arith;
      named = tt;
      below_readable = h.below_readable;
      above_readable = tt;
      redirect = h.redirect;
      uncommanding = h.uncommanding;
    }

connected_deeds : (v : Relay) (p : Past) (h : Holds v p) (on : awaits v ≡ true) → (connected_holds v p h on).deeds ≡ h.deeds
unfolding connected_holds
connected_deeds v p h on = refl

connected_if : (flag : Bool) (v : Relay) (p : Past) → awaits v ≡ flag → Holds v p → Holds (if flag then connected_to v else v) (if flag then reconnected p else p)
connected_if true v p on h = connected_holds v p h on
connected_if false v p on h = h

connected_if_deeds : (flag : Bool) (v : Relay) (p : Past) (is : awaits v ≡ flag) (h : Holds v p) → (connected_if flag v p is h).deeds ≡ h.deeds
unfolding connected_if
connected_if_deeds true v p on h = connected_deeds v p h on
connected_if_deeds false v p on h = refl

pub holds_connected : (v : Relay) (p : Past) → Holds v p → Holds (relay_called connects v) (remembered connects v (relay_called connects v) p)
holds_connected v p h = connected_if (awaits v) v p refl h

pub connected_does : (v : Relay) (p : Past) (h : Holds v p) → (holds_connected v p h).deeds ≡ h.deeds
unfolding holds_connected
connected_does v p h = connected_if_deeds (awaits v) v p refl h
