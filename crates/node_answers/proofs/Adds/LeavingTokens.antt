-- Commands by their tokens: whose token one of them has, and which ones have another.
use Rattle.std.proofs.Common.{◌≡◌, ◌⊎◌, inl, inr, ℕ, zero, suc, ◌<◌, List, [], ◌∷◌, ◌++◌, length, refl, sym, ap, ◌∙◌, subst, arith}
use Rattle.std.specs.Prelude.{Contains}
use Rattle.std.specs.List.{AllByRecursion}
use Rattle.value_node.specs.Asked.{Asked}
use Rattle.node_answers.proofs.Adds.Apart.{AreApart, at_behind, tokens_of}

-- the token is that of one of them
abbrev pub IsOneOf : List ℕ → List Asked → Type 0
IsOneOf token [] = ⊥
IsOneOf token (c ∷ commands) = (c.token ≡ token) ⊎ IsOneOf token commands

-- each of them has another
abbrev pub AreOthers : List ℕ → List Asked → Type 0
AreOthers token commands = AllByRecursion (λ c. c.token ≡ token → ⊥) commands

-- ---- One of them

pub one_of : (token : List ℕ) (commands : List Asked) → Contains (tokens_of commands) token → IsOneOf token commands
one_of token [] (k, less, is) = absurd (omega arith)
one_of token (c ∷ commands) (zero, less, is) = inl is
one_of token (c ∷ commands) (suc k, less, is) = let most : suc k < suc (length (tokens_of commands)) = less in inr (one_of token commands (k, omega arith, is))

pub one_contained : (token : List ℕ) (commands : List Asked) → IsOneOf token commands → Contains (tokens_of commands) token
one_contained token [] one = absurd one
one_contained token (c ∷ commands) (inl same) = (0, omega arith, same)
one_contained token (c ∷ commands) (inr rest) = let has = one_contained token commands rest in let less : has.0 < length (tokens_of commands) = has.1 in (suc has.0, omega arith, has.2)

pub one_left : (token : List ℕ) (xs ys : List Asked) → IsOneOf token xs → IsOneOf token (xs ++ ys)
one_left token [] ys one = absurd one
one_left token (c ∷ xs) ys (inl same) = inl same
one_left token (c ∷ xs) ys (inr rest) = inr (one_left token xs ys rest)

pub one_right : (token : List ℕ) (xs ys : List Asked) → IsOneOf token ys → IsOneOf token (xs ++ ys)
one_right token [] ys one = one
one_right token (c ∷ xs) ys one = inr (one_right token xs ys one)

pub one_either : (token : List ℕ) (xs ys : List Asked) → IsOneOf token (xs ++ ys) → IsOneOf token xs ⊎ IsOneOf token ys
one_either token [] ys one = inr one
one_either token (c ∷ xs) ys (inl same) = inl (inl same)
one_either token (c ∷ xs) ys (inr rest) = behind (one_either token xs ys rest)
  where
    behind : IsOneOf token xs ⊎ IsOneOf token ys → IsOneOf token (c ∷ xs) ⊎ IsOneOf token ys
    behind (inl one) = inl (inr one)
    behind (inr one) = inr one

-- where it stands
pub record IsPlaced (token : List ℕ) (commands : List Asked) : Type 0 where
  pub front : List Asked
  pub command : Asked
  pub back : List Asked
  pub are : commands ≡ front ++ command ∷ back
  pub same : command.token ≡ token

pub one_placed : (token : List ℕ) (commands : List Asked) → IsOneOf token commands → IsPlaced token commands
one_placed token [] one = absurd one
one_placed token (c ∷ commands) (inl same) = record { front = []; command = c; back = commands; are = refl; same = same }
one_placed token (c ∷ commands) (inr rest) =
    let placed = one_placed token commands rest in
    record { front = c ∷ placed.front; command = placed.command; back = placed.back; are = ap (λ cs. c ∷ cs) placed.are; same = placed.same }

-- ---- All of them

pub of_tokens : (P : List ℕ → Type 0) (commands : List Asked) → AllByRecursion P (tokens_of commands) → AllByRecursion (λ c. P c.token) commands
of_tokens P [] all = tt
of_tokens P (c ∷ commands) all = (all.0, of_tokens P commands all.1)

pub to_tokens : (P : List ℕ → Type 0) (commands : List Asked) → AllByRecursion (λ c. P c.token) commands → AllByRecursion P (tokens_of commands)
to_tokens P [] all = tt
to_tokens P (c ∷ commands) all = (all.0, to_tokens P commands all.1)

pub one_holds : (P : List ℕ → Type 0) (token : List ℕ) (commands : List Asked) → AllByRecursion P (tokens_of commands) → IsOneOf token commands → P token
one_holds P token [] all one = absurd one
one_holds P token (c ∷ commands) all (inl same) = subst P same all.0
one_holds P token (c ∷ commands) all (inr rest) = one_holds P token commands all.1 rest

-- where the tokens of commands differ, those before one of them have others
pub others_before : (token : List ℕ) (xs ys : List Asked) → AreApart (tokens_of (xs ++ ys)) → IsOneOf token ys → AreOthers token xs
others_before token [] ys apart one = tt
others_before token (c ∷ xs) ys apart one = (one_holds (λ other. c.token ≡ other → ⊥) token (xs ++ ys) apart.0 (one_right token xs ys one), others_before token xs ys apart.1 one)

pub apart_behind : (xs ys : List Asked) → AreApart (tokens_of (xs ++ ys)) → AreApart (tokens_of ys)
apart_behind [] ys apart = apart
apart_behind (c ∷ xs) ys apart = apart_behind xs ys apart.1

-- commands with one token stand at one place
pub place_one : (front : List Asked) (c : Asked) (back front' : List Asked) (d : Asked) (back' : List Asked) → AreApart (tokens_of (front ++ c ∷ back)) → front ++ c ∷ back ≡ front' ++ d ∷ back'
    → d.token ≡ c.token → length front ≡ length front'
place_one [] c back [] d back' apart whole same = refl
place_one [] c back (x ∷ front') d back' apart whole same =
    let first : c ≡ x = cc in
    let rest : back ≡ front' ++ d ∷ back' = cc in
    absurd ((at_behind c front' (d ∷ back') (subst (λ cs. AllByRecursion (λ other. c.token ≡ other → ⊥) (tokens_of cs)) rest apart.0)).0 (sym same))
place_one (x ∷ front) c back [] d back' apart whole same =
    let first : x ≡ d = cc in absurd ((at_behind x front (c ∷ back) apart.0).0 (ap (λ (e : Asked). e.token) first ∙ same))
place_one (x ∷ front) c back (y ∷ front') d back' apart whole same =
    let rest : front ++ c ∷ back ≡ front' ++ d ∷ back' = cc in ap suc (place_one front c back front' d back' apart.1 rest same)
