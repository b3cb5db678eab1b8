-- What a client has queued goes out, one message after the other.
use Rattle.std.proofs.Common.{◌≡◌, ℕ, Bool, true, false, List, [], ◌∷◌, Option, Some, None, refl, sym, ap}
use Rattle.std.proofs.lemmas.Option.{none-some, same_Some}
use Rattle.channel_core.specs.EndValue.{EndValue}
use Rattle.channel_core.specs.declared.held.Outgoing.{Outgoing}
use Rattle.client_node.specs.ClientValue.{ClientValue}
use Rattle.client_node.specs.Client.{after_giving, given}
use Rattle.chain_world.specs.Chain.{client_emptied, queue_of}

-- ---- a client gives the first message that it has queued

pub record GoesOn (c : ClientValue) (out : Outgoing) : Type 0 where
  pub queue : queue_of c.channel ≡ out ∷ queue_of (after_giving c).channel
  pub same : client_emptied (after_giving c) ≡ client_emptied c

abbrev with_end : Bool → List Outgoing → EndValue ℕ → ClientValue → ClientValue
with_end spent queue e c = record c { channel = Some (record e { is_spent = spent; queued = queue }) }

goes_by : (spent : Bool) (queue : List Outgoing) (e : EndValue ℕ) (c : ClientValue) (out : Outgoing) →
    given (with_end spent queue e c) ≡ Some out → GoesOn (with_end spent queue e c) out
goes_by true queue e c out gives = absurd (none-some out gives)
goes_by false [] e c out gives = absurd (none-some out gives)
goes_by false (x ∷ xs) e c out gives = record { queue = ap (λ y. y ∷ xs) (same_Some x out gives); same = refl }

goes_from : (o : Option (EndValue ℕ)) (c : ClientValue) (out : Outgoing) → given (record c { channel = o }) ≡ Some out → GoesOn (record c { channel = o }) out
goes_from None c out gives = absurd (none-some out gives)
goes_from (Some e) c out gives = goes_by e.is_spent e.queued e c out gives

pub client_goes_on : (c : ClientValue) (out : Outgoing) → given c ≡ Some out → GoesOn c out
client_goes_on c out gives = goes_from c.channel c out gives

-- ---- one that gives nothing has nothing queued

abbrev IsEmpty : ClientValue → Type 0
IsEmpty c = (queue_of c.channel ≡ []) × (client_emptied c ≡ c)

empty_by : (spent : Bool) (queue : List Outgoing) (e : EndValue ℕ) (c : ClientValue) → given (with_end spent queue e c) ≡ None → IsEmpty (with_end spent queue e c)
empty_by true queue e c gives = (refl, refl)
empty_by false [] e c gives = (refl, refl)
empty_by false (x ∷ xs) e c gives = absurd (none-some x (sym gives))

empty_from : (o : Option (EndValue ℕ)) (c : ClientValue) → given (record c { channel = o }) ≡ None → IsEmpty (record c { channel = o })
empty_from None c gives = (refl, refl)
empty_from (Some e) c gives = empty_by e.is_spent e.queued e c gives

pub client_is_empty : (c : ClientValue) → given c ≡ None → IsEmpty c
client_is_empty c gives = empty_from c.channel c gives
