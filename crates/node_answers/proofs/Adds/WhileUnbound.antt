-- While it is unbound a value-add has answered all that it took, each redirect with an error.
use Rattle.std.proofs.Common.{◌≡◌, ℕ, suc, Bool, true, false, not, ◌||◌, ◌&&◌, List, [], ◌∷◌, ◌++◌, None, inl, refl, ap, sym, ◌∙◌, subst, arith}
use Rattle.std.specs.Prelude.{Contains, bytes_eq, if◌then◌else◌}
use Rattle.std.specs.List.{AllByRecursion, list_any}
use Rattle.std.proofs.lemmas.List.{append-nil, append_assoc}
use Rattle.std.proofs.lemmas.Slice.Eq.{bytes_eq-Decides}
use Rattle.channel_core.specs.Arrivals.{Spoken}
use Rattle.channel_core.specs.Runs.{Run}
use Rattle.channel_core.specs.Wire.{Said, answers, asks, goes_on, greets, is_redirect, said_by, tells}
use Rattle.channel_laws.specs.Meeting.{AnswersAll, does_one, hello_behind, lacks_hello_behind}
use Rattle.channel_laws.proofs.Rest.AsSaid.{all_as_said}
use Rattle.value_node.specs.Asked.{Asked}
use Rattle.value_node.specs.OwnLaws.{asked_until}
use Rattle.value_node.specs.RelayLaws.{AfterAllCalls, EndsAreRuns, StandsWell}
use Rattle.value_node.specs.Runs.{LowerCall, ValueRun, after_all, below, below_until_bound, lower_after, no_calls}
use Rattle.value_node.specs.Value.{value_services}
use Rattle.value_node.specs.declared.states.Bind.TheVariants.{Unbound}
use Rattle.node_answers.specs.Answering.{AnswersUnbound}
use Rattle.value_node.proofs.TheLaws.{ends_are_runs}
use Rattle.node_answers.proofs.Adds.Own.{OwnPart, own_part}
use Rattle.node_answers.proofs.Adds.Replying.{clashes}
use Rattle.node_answers.proofs.Adds.Taken.{redirects_of, redirects_taken, taken_answered}

-- ---- the redirect whose token one of them is

pub record IsFound (token : List ℕ) (commands : List Asked) : Type 0 where
  pub command : Asked
  pub has : Contains commands command
  pub asks : is_redirect command.service command.name ≡ true
  pub same : token ≡ command.token

found_behind : (token : List ℕ) (c : Asked) (commands : List Asked) → IsFound token commands → IsFound token (c ∷ commands)
found_behind token c commands found =
    let less = found.has.1 in record { command = found.command; has = (suc found.has.0, omega arith, found.has.2); asks = found.asks; same = found.same }

pub redirect_found : (token : List ℕ) (commands : List Asked) → list_any (λ text. bytes_eq token text) (redirects_of commands) ≡ true → IsFound token commands
redirect_found token [] is = absurd cc
redirect_found token (c ∷ commands) is = by_redirect (is_redirect c.service c.name) refl is (λ later. found_behind token c commands (redirect_found token commands later))
  where
    by_token : (flag : Bool) → bytes_eq token c.token ≡ flag → is_redirect c.service c.name ≡ true → (flag || list_any (λ text. bytes_eq token text) (redirects_of commands)) ≡ true
        → (list_any (λ text. bytes_eq token text) (redirects_of commands) ≡ true → IsFound token (c ∷ commands)) → IsFound token (c ∷ commands)
    by_token true same is_one any later = record { command = c; has = (0, omega arith, refl); asks = is_one; same = (bytes_eq-Decides token c.token).0 same }
    by_token false same is_one any later = later any

    by_redirect : (flag : Bool) → is_redirect c.service c.name ≡ flag → list_any (λ text. bytes_eq token text) ((if flag then c.token ∷ [] else []) ++ redirects_of commands) ≡ true
        → (list_any (λ text. bytes_eq token text) (redirects_of commands) ≡ true → IsFound token (c ∷ commands)) → IsFound token (c ∷ commands)
    by_redirect true is_one any later = by_token (bytes_eq token c.token) refl is_one any later
    by_redirect false is_one any later = later any

-- ---- where none is answered without an error no Hello is lacking

pub does_none : (commands : List Asked) (said : Said) → ((c : Asked) → Contains commands c → is_redirect c.service c.name ≡ true → said ≡ answers c.token true → ⊥) → does_one (redirects_of commands) said ≡ false
does_none commands greets none = refl
does_none commands tells none = refl
does_none commands asks none = refl
does_none commands (goes_on token) none = refl
does_none commands (answers token false) none = refl
does_none commands (answers token true) none = by_flag (list_any (λ text. bytes_eq token text) (redirects_of commands)) refl
  where
    by_flag : (flag : Bool) → list_any (λ text. bytes_eq token text) (redirects_of commands) ≡ flag → flag ≡ false
    by_flag true is = let found = redirect_found token commands is in absurd (none found.command found.has found.asks (ap (λ t. answers t true) found.same))
    by_flag false is = refl

pub lacks_none : (tokens : List (List ℕ)) (spoken : List Spoken) → AllByRecursion (λ s. does_one tokens (said_by s.message) ≡ false) spoken → lacks_hello_behind tokens spoken ≡ false
lacks_none tokens [] all = refl
lacks_none tokens (s ∷ spoken) all = ap (λ b. (b && not (hello_behind spoken)) || lacks_hello_behind tokens spoken) all.0 ∙ lacks_none tokens spoken all.1

-- what holds of each, whatever stands before and behind it
pub all_splits : {A : Type 0} → (P : A → Type 0) (front xs : List A) → ((before rest : List A) (x : A) → front ++ xs ≡ before ++ x ∷ rest → P x) → AllByRecursion P xs
all_splits P front [] each = tt
all_splits P front (x ∷ xs) each = (each front xs x refl, all_splits P (front ++ x ∷ []) xs (λ before rest y are. each before rest y (sym (append_assoc front (x ∷ []) xs) ∙ are)))

-- ---- the law

unbound_all : (r : ValueRun) → EndsAreRuns r → r.value.relay.bind ≡ Unbound → OwnPart r → (spoken : List Spoken) × AnswersAll (below r.past) spoken
unbound_all r ends unbound o =
    let p = r.past in
    let stands : StandsWell Unbound r.value.relay p = subst (λ bind. StandsWell bind r.value.relay p) unbound ends.stands in
    let off : p.is_bound ≡ false = stands.2 in
    let same : below p ≡ below_until_bound p = ap (λ (calls : List LowerCall). lower_after (p.until_bound ++ calls)) (ends.unbound off) ∙ ap lower_after (append-nil p.until_bound) in
    let entries = (below_until_bound p).past.taken in
    let says = all_as_said value_services None p.until_bound in
    let each = all_splits (λ (s : Spoken). does_one (redirects_of (asked_until p)) (said_by s.message) ≡ false) [] o.own
    (λ before rest s are. does_none (asked_until p) (said_by s.message) (λ c has is_one is. clashes p.is_bound off (o.done_last before rest s c are has is_one is).0)) in (
      o.own,
      subst (λ (run : Run Unit). AnswersAll run o.own) (sym same) (record {
        formed = o.formed;
        queued = o.queue;
        answered = taken_answered o.own entries says o.answered;
        greeted = ap (λ tokens. lacks_hello_behind tokens o.own) (redirects_taken entries says) ∙ lacks_none (redirects_of (asked_until p)) o.own each;
      }),
    )

pub always_answers_unbound : AfterAllCalls AnswersUnbound
always_answers_unbound peer calls unbound numbered = unbound_all (after_all calls (no_calls peer)) (ends_are_runs peer calls) unbound (own_part peer calls numbered (inl unbound))
