-- The parts of a body.
use Rattle.std.proofs.Common.{◌≡◌, ◌≢◌, ℕ, ◌+◌, ◌-◌, List, [], ◌∷◌, ◌++◌, length, drop, slice_get, refl, sym, ◌∙◌, ap, subst, inl, inr, arith, append_assoc, add-one}
use Rattle.std.specs.Prelude.{Option, Some, None, IfSome}
use Rattle.std.specs.List.{AllByRecursion, onto_first}
use Rattle.std.proofs.lemmas.Bool.{cond-true, cond-false}
use Rattle.std.proofs.lemmas.Bool.Decides.{eqb_tells}
use Rattle.std.proofs.lemmas.List.{append_cancel_left}
use Rattle.tcf_values.specs.Cut.{Lacks, IsCut}
use Rattle.json_args.specs.Parts.{Parts, OneReading, joined, parts_of}
use Rattle.json_args.specs.PartsLaws.{parts_front, of_joined}

-- the first part of a body that is cut at its first zero
pub parts_cut : (body front rest : List ℕ) → IsCut 0 body front rest → parts_of body ≡ front ∷ parts_of rest
parts_cut body front rest is = ap parts_of is.1 ∙ parts_front front rest is.0

same_tail : (a b : List ℕ) → ◌≡◌ {A = List ℕ} (0 ∷ a) (0 ∷ b) → a ≡ b
same_tail a b same = cc

-- what follows the first part has the other parts
pub parts_rest : (body front rest : List ℕ) → IsCut 0 body front rest → Parts (parts_of body) body → Parts (parts_of rest) rest
parts_rest body front rest is parts =
    let split : Parts (front ∷ parts_of rest) body = subst (λ ps. Parts ps body) (parts_cut body front rest is) parts in
    (split.0.1, same_tail rest (joined (parts_of rest)) (append_cancel_left front (0 ∷ rest) (0 ∷ joined (parts_of rest)) (sym is.1 ∙ split.1)))

pub first_part : (body front rest : List ℕ) → IsCut 0 body front rest → slice_get (parts_of body) 0 ≡ Some front
first_part body front rest is = ap (λ ps. slice_get ps 0) (parts_cut body front rest is)

pub next_part : (body front rest : List ℕ) (k j : ℕ) → IsCut 0 body front rest → k ≡ j + 1 → slice_get (parts_of body) k ≡ slice_get (parts_of rest) j
next_part body front rest k j is e =
    ap (λ ps. slice_get ps k) (parts_cut body front rest is) ∙ ap (slice_get (front ∷ parts_of rest)) (e ∙ add-one j)

-- what follows the first part has the parts behind it
pub behind_first : (body front rest : List ℕ) → IsCut 0 body front rest → parts_of rest ≡ drop 1 (parts_of body)
behind_first body front rest is = ap (drop 1) (sym (parts_cut body front rest is))

has_zero : (front rest : List ℕ) → Lacks 0 (front ++ 0 ∷ rest) → ⊥
has_zero [] rest lacks = lacks.0 refl
has_zero (b ∷ bs) rest lacks = has_zero bs rest lacks.1

nothing_joined : (body : List ℕ) (parts : List (List ℕ)) → Lacks 0 body → body ≡ joined parts → (k : ℕ) → slice_get parts k ≡ None
nothing_joined body [] lacks is k = refl
nothing_joined body (part ∷ parts) lacks is k = absurd (has_zero part (joined parts) (subst (Lacks 0) is lacks))

-- a body without a zero has no parts
pub no_parts : (body : List ℕ) → Lacks 0 body → Parts (parts_of body) body → (k : ℕ) → slice_get (parts_of body) k ≡ None
no_parts body lacks parts = nothing_joined body (parts_of body) lacks parts.1

nothing_behind : (body : List ℕ) (parts : List (List ℕ)) → Lacks 0 body → body ≡ joined parts → parts ≡ drop 1 parts
nothing_behind body [] lacks is = refl
nothing_behind body (part ∷ parts) lacks is = absurd (has_zero part (joined parts) (subst (Lacks 0) is lacks))

-- a body without a zero has no parts, so none behind the first
pub none_at_all : (body : List ℕ) → Lacks 0 body → Parts (parts_of body) body → parts_of body ≡ drop 1 (parts_of body)
none_at_all body lacks parts = nothing_behind body (parts_of body) lacks parts.1

-- one more byte in front
onto_parts : (b : ℕ) (body : List ℕ) (parts : List (List ℕ)) → b ≢ 0 → body ≢ [] → Parts parts body → Parts (onto_first b parts) (b ∷ body)
onto_parts b body [] some more is = absurd (more is.1)
onto_parts b body (part ∷ parts) some more is = (((some, is.0.0), is.0.1), ap (λ t. b ∷ t) is.1)

cons_more : (b : ℕ) (body : List ℕ) → ◌≡◌ {A = List ℕ} (b ∷ body) [] → ⊥
cons_more b body same = cc

no_last : (b : ℕ) → ◌≡◌ {A = Option ℕ} (Some b) (Some 0) → b ≡ 0
no_last b same = cc

ended_cons : (b : ℕ) (bs : List ℕ) → slice_get (b ∷ bs) (length bs) ≡ Some 0 → Parts (parts_of (b ∷ bs)) (b ∷ bs)
ended_cons b [] last =
    let zero_is : b ≡ 0 = no_last b last in
    subst (λ n. Parts (parts_of (n ∷ [])) (n ∷ [])) (sym zero_is) ((tt, tt), refl)
ended_cons b (c ∷ cs) last =
    let rest = ended_cons c cs last in
    elim (eqb_tells b 0) [
      | inl w ↦ subst (λ ps. Parts ps (b ∷ c ∷ cs)) (sym (cond-true _ _ _ w.0)) ((tt, rest.0), ap (λ n. n ∷ c ∷ cs) w.1 ∙ ap (λ t. 0 ∷ t) rest.1)
      | inr w ↦ subst (λ ps. Parts ps (b ∷ c ∷ cs)) (sym (cond-false _ _ _ w.0)) (onto_parts b (c ∷ cs) (parts_of (c ∷ cs)) w.1 (cons_more c cs) rest)
    ]

last_there : (b : ℕ) (bs : List ℕ) → slice_get (b ∷ bs) (length bs) ≡ None → ⊥
last_there b [] none = absurd cc
last_there b (c ∷ cs) none = last_there c cs none

at_back : (b : ℕ) (bs : List ℕ) (last : Option ℕ) → last ≡ slice_get (b ∷ bs) (length (b ∷ bs) - 1) → last ≡ slice_get (b ∷ bs) (length bs)
at_back b bs last is = is ∙ ap (slice_get (b ∷ bs)) (omega arith)

-- a body that is empty or ends in a zero has parts
pub ended_parts : (body : List ℕ) (last : Option ℕ) → last ≡ slice_get body (length body - 1) → IfSome last (λ b. b ≡ 0) → Parts (parts_of body) body
ended_parts [] last is ends = (tt, refl)
ended_parts (b ∷ bs) None is ends = absurd (last_there b bs (sym (at_back b bs None is)))
ended_parts (b ∷ bs) (Some x) is ends = ended_cons b bs (sym (at_back b bs (Some x) is) ∙ ap (λ n. Some n) ends)

joined_more : (parts : List (List ℕ)) (part : List ℕ) → joined (parts ++ part ∷ []) ≡ joined parts ++ (part ++ 0 ∷ [])
joined_more [] part = refl
joined_more (p ∷ ps) part = ap (λ t. p ++ 0 ∷ t) (joined_more ps part) ∙ sym (append_assoc p (0 ∷ joined ps) (part ++ 0 ∷ []))

all_more : (parts : List (List ℕ)) (part : List ℕ) → AllByRecursion (Lacks 0) parts → Lacks 0 part → AllByRecursion (Lacks 0) (parts ++ part ∷ [])
all_more [] part all lacks = (lacks, tt)
all_more (p ∷ ps) part all lacks = (all.0, all_more ps part all.1 lacks)

-- one more part behind
pub one_more : (body part : List ℕ) (parts : List (List ℕ)) → Lacks 0 part → Parts parts body → Parts (parts ++ part ∷ []) (body ++ (part ++ 0 ∷ []))
one_more body part parts lacks is = (all_more parts part is.0 lacks, ap (λ t. t ++ (part ++ 0 ∷ [])) is.1 ∙ sym (joined_more parts part))

-- no body has two readings
pub one_reading : OneReading
one_reading body parts others is other =
    sym (of_joined parts is.0) ∙ (ap parts_of (sym is.1 ∙ other.1) ∙ of_joined others other.0)
