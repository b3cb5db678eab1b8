-- The positions of what a channel is told.
use Rattle.std.proofs.Common.{◌≡◌, ℕ, ◌+◌, ◌==◌, ◌⊎◌, inl, inr, Bool, true, false, ◌||◌, List, [], ◌∷◌, ◌++◌, length, Option, Some, None, refl, ap, sym, ◌∙◌, subst, eqb-true}
use Rattle.std.proofs.lemmas.List.{append_assoc, append-nil}
use Rattle.channel_core.specs.Arrivals.{Spoken}
use Rattle.channel_core.specs.Wire.{event_said, hello, locator, said_by}
use Rattle.chain_told.specs.Told.{ComesAt, ComesBehind, mark_by, mark_from, mark_of}
use Rattle.target_contexts.specs.declared.process.Image.{Image}
use Rattle.target_hub.specs.History.{IsLegal, was_opened}
use Rattle.target_hub.specs.HubValue.{new_target}
use Rattle.target_hub.specs.Ordered.{OpensAt}
use Rattle.target_hub.specs.Sent.{Told, agent_services, event_at, final_at, hello_at, progress_at, sent, unknown_at}
use Rattle.target_hub.specs.declared.input.Input.{Input}
use Rattle.target_hub.specs.declared.input.Input.TheVariants.{Closed, Executed, Opened, Ticked}
use Rattle.target_truth.specs.Taught.{position_of}
use Rattle.target_truth.proofs.Lives.{nowhere}
use Rattle.value_node.specs.Asked.{Asked}
use Rattle.value_node.specs.Deeds.{mark_after}
use Rattle.chain_told.proofs.Agents.Saying.{behind, left_behind, one_told, spoken, spoken_first}
use Rattle.chain_told.proofs.Agents.Sending.{Begins, Climbs, IsLater, begins, is_hello, passed, place_of}

-- ---- what a channel is told begins with the Hello

abbrev Opening : ℕ → List Input → Type 0
Opening k history = (position : ℕ) × OpensAt history position k

opens_on : (k : ℕ) (before inputs : List Input) (input : Input) → Opening k ((before ++ input ∷ []) ++ inputs) → Opening k (before ++ input ∷ inputs)
opens_on k before inputs input opening = subst (Opening k) (append_assoc before (input ∷ []) inputs) opening

opens_at : (k : ℕ) (before inputs : List Input) → was_opened k inputs ≡ true → Opening k (before ++ inputs)
opens_at k before [] opened = absurd cc
opens_at k before (Opened channel ∷ inputs) opened =
    by_flag (channel == k) refl (λ none. opens_on k before inputs (Opened channel) (opens_at k (before ++ Opened channel ∷ []) inputs (ap (λ b. b || was_opened k inputs) (sym none) ∙ opened)))
  where
    by_flag : (flag : Bool) → (channel == k) ≡ flag → ((channel == k) ≡ false → Opening k (before ++ Opened channel ∷ inputs)) → Opening k (before ++ Opened channel ∷ inputs)
    by_flag true is further =
        (length before + 1, record { before = before; after = inputs; split = ap (λ n. before ++ Opened n ∷ inputs) (eqb-true channel k is); place = refl })
    by_flag false is further = further is
opens_at k before (Executed channel reading service name ∷ inputs) opened =
    opens_on k before inputs (Executed channel reading service name) (opens_at k (before ++ Executed channel reading service name ∷ []) inputs opened)
opens_at k before (Ticked thread ∷ inputs) opened = opens_on k before inputs (Ticked thread) (opens_at k (before ++ Ticked thread ∷ []) inputs opened)
opens_at k before (Closed channel ∷ inputs) opened = opens_on k before inputs (Closed channel) (opens_at k (before ++ Closed channel ∷ []) inputs opened)

-- or it is nothing
abbrev pub Beginning : List Image → List Input → ℕ → Type 0
Beginning images history k = (sent images k history ≡ []) ⊎ ((position : ℕ) × Begins images history k position)

pub beginning : (images : List Image) (history : List Input) (k : ℕ) → IsLegal images history → Beginning images history k
beginning images history k legal = by_flag (was_opened k history) refl
  where
    by_flag : (flag : Bool) → was_opened k history ≡ flag → Beginning images history k
    by_flag true opened = let at = opens_at k [] history opened in inr (at.0, begins images history k at.0 legal at.1)
    by_flag false none = inl (ap (λ inputs. sent images k inputs) (sym (append-nil history)) ∙ passed k [] (new_target images) history [] refl none)

-- ---- the position of the last message

event_marked : (flag : Bool) (place : ℕ) (before : Option ℕ) → mark_after (event_said flag) (Some place) before ≡ Some place
event_marked true place before = refl
event_marked false place before = refl

pub marked : (left : List Asked) (now : Told) (before : Option ℕ) → mark_by (one_told left now) before ≡ Some (place_of now)
marked left (hello_at place body) before = event_marked (is_hello locator hello) place before
marked left (event_at place service name body) before = event_marked (is_hello service name) place before
marked left (progress_at place body) before = refl
marked left (final_at place through body) before = refl
marked left (unknown_at place through) before = refl

pub mark_pushed : (told : List Spoken) (s : Spoken) (before : Option ℕ) → mark_from before (told ++ s ∷ []) ≡ mark_by s (mark_from before told)
mark_pushed [] s before = refl
mark_pushed (first ∷ told) s before = mark_pushed told s (mark_by first before)

pub place_is : (now : Told) → place_of now ≡ position_of now
place_is (hello_at place body) = refl
place_is (event_at place service name body) = refl
place_is (progress_at place body) = refl
place_is (final_at place through body) = refl
place_is (unknown_at place through) = refl

-- ---- each message has its place

record Behind (position : ℕ) (left : List Asked) (front : List Told) (now : Told) : Type 0 where
  low : ℕ
  mark : mark_from (Some position) (spoken left front) ≡ Some low
  later : IsLater low now

climbs_to : (front more : List Told) (now : Told) (position : ℕ) (left : List Asked) → Climbs position (front ++ now ∷ more) → Behind position left front now
climbs_to [] more now position left climbs = record { low = position; mark = refl; later = climbs.0 }
climbs_to (first ∷ front) more now position left climbs =
    let r = climbs_to front more now (place_of first) (behind first left) climbs.1 in
    record {
      low = r.low;
      mark =
          ap (mark_from (Some position)) (spoken_first left first front)
          ∙ ap (λ mark. mark_from mark (spoken (behind first left) front)) (marked left first (Some position)) ∙ r.mark;
      later = r.later;
    }

later_comes : (left : List Asked) (now : Told) (low : ℕ) (before : Option ℕ) → before ≡ Some low → IsLater low now
    → ComesAt (said_by (one_told left now).message) before (one_told left now).mark
later_comes left (hello_at place body) low before is later = absurd later
later_comes left (event_at place service name body) low before is later =
    subst (λ flag. ComesAt (event_said flag) before (Some place)) (sym later.1) (subst (λ mark. ComesBehind mark (Some place)) (sym is) later.0)
later_comes left (progress_at place body) low before is later = subst (λ mark. ComesBehind mark (Some place)) (sym is) later
later_comes left (final_at place through body) low before is later = subst (λ mark. ComesBehind mark (Some place)) (sym is) later
later_comes left (unknown_at place through) low before is later = subst (λ mark. ComesBehind mark (Some place)) (sym is) later

greeting : is_hello locator hello ≡ true
unfolding hello locator
greeting = refl

hello_comes : (left : List Asked) (now : Told) (position : ℕ) (body : List ℕ) → now ≡ hello_at position body
    → ComesAt (said_by (one_told left now).message) None (one_told left now).mark
hello_comes left now position body is =
    subst (λ now. ComesAt (said_by (one_told left now).message) None (one_told left now).mark) (sym is)
    (subst (λ flag. ComesAt (event_said flag) None (Some position)) (sym greeting) refl)

begun_comes : (front more rest : List Told) (now : Told) (position : ℕ) (left : List Asked) → Climbs position rest → hello_at position agent_services ∷ rest ≡ front ++ now ∷ more
    → ComesAt (said_by (one_told (left_behind front left) now).message) (mark_of (spoken left front)) (one_told (left_behind front left) now).mark
begun_comes [] more rest now position left climbs split =
    let head : now ≡ hello_at position agent_services = cc in hello_comes left now position agent_services head
begun_comes (first ∷ front) more rest now position left climbs split =
    let head : first ≡ hello_at position agent_services = cc in
    let tail : rest ≡ front ++ now ∷ more = cc in
    let there : Behind position left front now = climbs_to front more now position left (subst (Climbs position) tail climbs) in
    let mark : mark_of (spoken left (hello_at position agent_services ∷ front)) ≡ Some there.low =
    ap (λ mark. mark_from mark (spoken left front)) (marked left (hello_at position agent_services) None) ∙ there.mark in
    subst (λ (h : Told). ComesAt (said_by (one_told (left_behind (h ∷ front) left) now).message) (mark_of (spoken left (h ∷ front))) (one_told (left_behind (h ∷ front) left) now).mark)
    (sym head)
    (later_comes (left_behind front left) now there.low (mark_of (spoken left (hello_at position agent_services ∷ front))) mark there.later)

pub placed : (images : List Image) (history : List Input) (k : ℕ) (front more : List Told) (now : Told) (left : List Asked) → Beginning images history k
    → sent images k history ≡ front ++ now ∷ more
    → ComesAt (said_by (one_told (left_behind front left) now).message) (mark_of (spoken left front)) (one_told (left_behind front left) now).mark
placed images history k front more now left (inl none) split = absurd (nowhere front more now (sym none ∙ split))
placed images history k front more now left (inr (position, b)) split = begun_comes front more b.rest now position left b.climbs (sym b.first ∙ split)
