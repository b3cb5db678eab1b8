-- Which commands have their answer, of those that a channel executes in order.
use Rattle.std.proofs.Common.{◌≡◌, Bool, true, false, ◌||◌, List, [], ◌∷◌, ◌++◌, refl, ap, sym, ◌∙◌, subst}
use Rattle.std.specs.Prelude.{bytes_eq}
use Rattle.std.specs.List.{AllByRecursion, Contains}
use Rattle.chain_told.specs.Told.{AreEndedBefore, is_ended}
use Rattle.target_contexts.specs.declared.process.Image.{Image}
use Rattle.target_hub.specs.Sent.{Told, event_at, final_at, hello_at, progress_at, unknown_at}
use Rattle.target_hub.specs.declared.input.Input.{Input}
use Rattle.channel_core.specs.Arrivals.{Spoken}
use Rattle.value_node.specs.Asked.{Asked}
use Rattle.chain_told.proofs.Agents.Numbered.{AreApart, IsApart, one_place}
use Rattle.chain_told.proofs.Agents.Saying.{ComeTo, left_behind, spoken}
use Rattle.list_laws.proofs.AllLists.{all_contains, all_right as all_back, all_weaker, all_each}
use Rattle.list_laws.proofs.Flags.{or_true}
use Rattle.list_laws.proofs.Lists.{equal_itself as same_bytes}

-- of the commands that were left the first ones have their answer behind these messages, and the others don't
pub record Reached (left : List Asked) (front : List Told) : Type 0 where
  pub done : List Asked
  pub split : done ++ left_behind front left ≡ left
  pub ended : AllByRecursion (λ c. is_ended c.token (spoken left front) ≡ true) done
  pub waiting : AllByRecursion (λ c. is_ended c.token (spoken left front) ≡ false) (left_behind front left)

-- the answer to this one is no answer to those
none_more : (c : Asked) (told : List Spoken) (commands : List Asked) → AllByRecursion (IsApart c) commands → AllByRecursion (λ d. is_ended d.token told ≡ false) commands
    → AllByRecursion (λ d. (bytes_eq c.token d.token || is_ended d.token told) ≡ false) commands
none_more c told [] apart none = tt
none_more c told (d ∷ commands) apart none =
    (ap (λ b. b || is_ended d.token told) apart.0.0 ∙ none.0, none_more c told commands apart.1 none.1)

-- what holds of the commands behind it where it has its answer
record Ending (c : Asked) (left : List Asked) (front : List Told) : Type 0 where
  done : List Asked
  split : done ++ left_behind front left ≡ c ∷ left
  ended : AllByRecursion (λ d. (bytes_eq c.token d.token || is_ended d.token (spoken left front)) ≡ true) done
  waiting : AllByRecursion (λ d. (bytes_eq c.token d.token || is_ended d.token (spoken left front)) ≡ false) (left_behind front left)

ending : (c : Asked) (left : List Asked) (front : List Told) → AllByRecursion (IsApart c) left → Reached left front → Ending c left front
ending c left front apart r = record {
  done = c ∷ r.done;
  split = ap (λ l. c ∷ l) r.split;
  ended = (
    ap (λ b. b || is_ended c.token (spoken left front)) (same_bytes c.token),
    all_weaker (λ d. is_ended d.token (spoken left front) ≡ true) (λ d. (bytes_eq c.token d.token || is_ended d.token (spoken left front)) ≡ true) r.done
        (λ d is. ap (λ b. bytes_eq c.token d.token || b) is ∙ or_true (bytes_eq c.token d.token)) r.ended,
  );
  waiting =
      none_more c (spoken left front) (left_behind front left)
      (all_back (IsApart c) r.done (left_behind front left) (subst (AllByRecursion (IsApart c)) (sym r.split) apart)) r.waiting;
}

pub reached : (images : List Image) (history : List Input) (front : List Told) (left : List Asked) → AreApart left → ComeTo images history left front → Reached left front
reached images history [] left apart come = record {
  done = [];
  split = refl;
  ended = tt;
  waiting = all_each (λ c. is_ended c.token [] ≡ false) left (λ c. refl);
}
reached images history (hello_at place body ∷ front) left apart come =
    let r = reached images history front left apart come.1 in record { done = r.done; split = r.split; ended = r.ended; waiting = r.waiting }
reached images history (event_at place service name body ∷ front) left apart come =
    let r = reached images history front left apart come.1 in record { done = r.done; split = r.split; ended = r.ended; waiting = r.waiting }
reached images history (progress_at place body ∷ front) left apart come =
    let r = reached images history front left apart come.1 in record { done = r.done; split = r.split; ended = r.ended; waiting = r.waiting }
reached images history (final_at place through body ∷ front) [] apart come = absurd come.0.1
reached images history (final_at place through body ∷ front) (c ∷ left) apart come =
    let e = ending c left front apart.0 (reached images history front left apart.1 come.1) in
    record { done = e.done; split = e.split; ended = e.ended; waiting = e.waiting }
reached images history (unknown_at place through ∷ front) [] apart come = absurd come.0.1
reached images history (unknown_at place through ∷ front) (c ∷ left) apart come =
    let e = ending c left front apart.0 (reached images history front left apart.1 come.1) in
    record { done = e.done; split = e.split; ended = e.ended; waiting = e.waiting }

-- ---- the commands before one

-- they have all their answers
pub all_before : (kind : Asked → Bool) (all done left : List Asked) (c : Asked) (before : List Spoken) → AreApart all → done ++ c ∷ left ≡ all
    → AllByRecursion (λ d. is_ended d.token before ≡ true) done → AreEndedBefore kind all before c.token
all_before kind all done left c before apart split ended earlier later d other place same there is =
    let first : earlier ≡ done = one_place earlier done later left d c (subst AreApart (sym split) apart) (sym place ∙ sym split) same in
    all_contains (λ e. is_ended e.token before ≡ true) done other ended (subst (λ l. Contains l other) first there)
