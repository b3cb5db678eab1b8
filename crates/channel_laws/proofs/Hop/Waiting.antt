-- A command that was sent and has no answer yet is under way, or waits where it was taken, or its answer is under way.
use Rattle.std.proofs.Common.{◌≡◌, ℕ, suc, zero, ◌<◌, Bool, true, false, ◌||◌, List, [], ◌∷◌, ◌++◌, length, Option, ◌⊎◌, inl, inr, ⊎_elim, refl, sym, ap, ◌∙◌, subst, arith}
use Rattle.std.specs.Prelude.{Contains, bytes_eq, decimal, slice_index_or}
use Rattle.std.specs.List.{flat_map, list_any}
use Rattle.std.proofs.lemmas.List.Concat.{flat_map-append}
use Rattle.std.proofs.lemmas.List.Elements.{Contains-append_cases}
use Rattle.std.proofs.lemmas.List.Folds.{list_any-append}
use Rattle.std.proofs.lemmas.Slice.Eq.{bytes_eq-Decides}
use Rattle.tcf_message.specs.Message.{MessageValue, command, event, final, flow, not_known, progress, reading}
use Rattle.channel_core.specs.Arrivals.{AreSpoken, Spoken, messages_in, all_heard}
use Rattle.channel_core.specs.ReceivingLaws.{incoming_of}
use Rattle.channel_core.specs.RunLaws.{is_answered, sent_of, token_in}
use Rattle.channel_core.specs.Runs.{Issued}
use Rattle.channel_core.specs.Wire.{said_by, said_in}
use Rattle.channel_core.specs.declared.held.Incoming.{Incoming}
use Rattle.channel_laws.specs.Meeting.{IsLasting, Side, answers_among, run_of}
use Rattle.channel_laws.specs.Numbering.{token_asked, tokens_among}
use Rattle.channel_laws.specs.Rest.{answered_among}
use Rattle.channel_laws.proofs.Rest.Answering.{answered_heard}
use Rattle.channel_laws.proofs.Rest.AsSaid.{all_tell}
use Rattle.channel_laws.proofs.Rest.Meeting.{entering, entering_formed, readable, said_as}
use Rattle.channel_laws.proofs.Rest.Numbering.{tokens_of, tokens_sent}
use Rattle.channel_laws.specs.Hop.{Hears, IsSomewhere, falls, rises, waits}
use Rattle.channel_laws.proofs.Hop.Coming.{Way}

-- ---- Tokens

among_tokens : {T : Type 0} → (commands : List (Issued T)) (i : Issued T) → Contains commands i → Contains (tokens_of commands) (decimal i.command.token)
among_tokens {T = T} commands i c = let at = by_place commands c.0 c.1 c.2 in (c.0, at.0, at.1)
  where
    by_place : (xs : List (Issued T)) (place : ℕ) → place < length xs → slice_index_or xs place i ≡ i
        → (place < length (tokens_of xs)) × (slice_index_or (tokens_of xs) place (decimal i.command.token) ≡ decimal i.command.token)
    by_place [] place within is = absurd (omega arith)
    by_place (x ∷ xs) zero within is = (omega arith, ap (λ (y : Issued T). decimal y.command.token) is)
    by_place (x ∷ xs) (suc place) within is = let rest = by_place xs place (omega arith) is in let few = rest.0 in (omega arith, rest.1)

-- a token is among these, or it isn't
among_or_not : (tokens : List (List ℕ)) (token : List ℕ) → Contains tokens token ⊎ (Contains tokens token → ⊥)
among_or_not [] token = inr (λ c. let few = c.1 in absurd (omega arith))
among_or_not (t ∷ tokens) token = by_flag (bytes_eq t token) refl (among_or_not tokens token)
  where
    none : (t ≡ token → ⊥) → (Contains tokens token → ⊥) → (place : ℕ) → place < length (t ∷ tokens) → slice_index_or (t ∷ tokens) place token ≡ token → ⊥
    none differs rest zero within is = differs is
    none differs rest (suc place) within is = rest (place, omega arith, is)

    by_flag : (flag : Bool) → bytes_eq t token ≡ flag → Contains tokens token ⊎ (Contains tokens token → ⊥) → Contains (t ∷ tokens) token ⊎ (Contains (t ∷ tokens) token → ⊥)
    by_flag true is rest = inl (0, omega arith, (bytes_eq-Decides t token).0 is)
    by_flag false is rest = ⊎_elim
        (λ (c : Contains tokens token). let few = c.1 in inl (suc c.0, omega arith, c.2))
        (λ (isnt : Contains tokens token → ⊥). inr (λ c. none (λ same. let so : bytes_eq t token ≡ true = (bytes_eq-Decides t token).1 same in absurd cc) isnt c.0 c.1 c.2))
        rest

-- ---- Answers

-- flow control answers nothing
answers_entering : (token : List ℕ) (spoken : List Spoken) → answers_among token spoken ≡ answers_among token (entering spoken)
answers_entering token [] = refl
answers_entering token (s ∷ spoken) = by_message s.message s.mark (answers_entering token spoken)
  where
    first : MessageValue → Bool
    first m = list_any (λ text. bytes_eq text token) (token_in (said_by m))

    by_message : (m : MessageValue) (mark : Option ℕ) → answers_among token spoken ≡ answers_among token (entering spoken)
        → answers_among token (record { message = m; mark = mark } ∷ spoken) ≡ answers_among token (entering (record { message = m; mark = mark } ∷ spoken))
    by_message (command token service name body) mark rest = ap (λ b. first (command token service name body) || b) rest
    by_message (final token body) mark rest = ap (λ b. first (final token body) || b) rest
    by_message (progress token body) mark rest = ap (λ b. first (progress token body) || b) rest
    by_message (not_known token) mark rest = ap (λ b. first (not_known token) || b) rest
    by_message (event service name body) mark rest = ap (λ b. first (event service name body) || b) rest
    by_message (flow level) mark rest = rest

-- an answer is among what was taken, or under way
answer_left : {T U : Type 0} → (is_marked : Bool) (s : Side T) (other : Side U) (h : Hears is_marked s other) → AreSpoken h.under_way → (n : ℕ)
    → answers_among (decimal n) h.spoken ≡ (is_answered (run_of s).past.taken n || answers_among (decimal n) h.under_way)
answer_left {T = T} is_marked s other h formed n =
    let taken = flat_map incoming_of (run_of s).past.taken in
    answers_entering (decimal n) h.spoken ∙ sym (answered_heard (entering h.spoken) (entering_formed h.spoken h.formed) n) ∙ ap (λ ms. answered_among ms n) h.order
    ∙ list_any-append (λ (m : Incoming). list_any (λ text. bytes_eq text (decimal n)) (token_in (said_in m.raw))) taken (all_heard h.under_way)
    ∙ ap (λ b. b || answered_among (all_heard h.under_way) n) (sym ((all_tell {T = T} s.hello s.mark s.calls).answered n))
    ∙ ap (λ b. is_answered (run_of s).past.taken n || b) (answered_heard h.under_way formed n)

-- ---- Where it is

pub somewhere : {T U : Type 0} → (is_marked others_are : Bool) (s : Side T) (other : Side U) (spoken : List Spoken) (l : IsLasting s)
    → (down : Way is_marked s other spoken) (up : Way others_are other s (said_as others_are (readable s l).spoken)) → (i : Issued T) → Contains (sent_of (run_of s)) i
    → is_answered (run_of s).past.taken i.command.token ≡ false → IsSomewhere (decimal i.command.token) s other down.hears.spoken up.hears.under_way down.hears.under_way
somewhere {T = T} {U = U} is_marked others_are s other spoken l down up i sent none = by_taken (among_or_not (tokens_among took) token)
  where
    token : List ℕ
    token = decimal i.command.token

    took : List Incoming
    took = flat_map incoming_of (run_of other).past.taken

    rising : List Spoken
    rising = up.hears.under_way

    -- the commands that were sent are those that were taken, and those under way
    tokens : tokens_of (sent_of (run_of s)) ≡ tokens_among took ++ tokens_among (all_heard rising)
    tokens =
        sym (tokens_sent others_are s (readable s l)) ∙ ap (λ xs. tokens_among (messages_in xs)) (sym up.spoken_is) ∙ ap tokens_among up.hears.order
        ∙ flat_map-append (λ (m : Incoming). token_asked (reading m.raw)) took (all_heard rising)

    asked : Contains (tokens_among took) token ⊎ Contains (tokens_among (all_heard rising)) token
    asked = Contains-append_cases (tokens_among took) (tokens_among (all_heard rising)) token (subst (λ (ts : List (List ℕ)). Contains ts token) tokens (among_tokens (sent_of (run_of s)) i sent))

    answer : answers_among token down.hears.spoken ≡ answers_among token down.hears.under_way
    answer = answer_left is_marked s other down.hears down.left_formed i.command.token ∙ ap (λ b. b || answers_among token down.hears.under_way) none

    by_answer : Contains (tokens_among took) token → (flag : Bool) → answers_among token down.hears.spoken ≡ flag → IsSomewhere token s other down.hears.spoken rising down.hears.under_way
    by_answer taken true is = falls taken is (sym answer ∙ is)
    by_answer taken false is = waits taken is

    by_taken : Contains (tokens_among took) token ⊎ (Contains (tokens_among took) token → ⊥) → IsSomewhere token s other down.hears.spoken rising down.hears.under_way
    by_taken either = ⊎_elim
        (λ (taken : Contains (tokens_among took) token). by_answer taken (answers_among token down.hears.spoken) refl)
        (λ (isnt : Contains (tokens_among took) token → ⊥). ⊎_elim (λ (taken : Contains (tokens_among took) token). absurd (isnt taken)) (λ up. rises isnt up) asked)
        either
