-- Data are UTF-8 exactly where each of their parts is, since the zeros between them are ASCII.
use Rattle.std.proofs.Common.{◌≡◌, ℕ, zero, suc, lit≤, ◌+◌, ◌<◌, List, [], ◌∷◌, ◌++◌, length, drop, get_or, Bool, true, false, ◌&&◌, ◌⊎◌, refl, sym, ◌∙◌, ap, subst, inl, inr, arith, append_assoc, length-append}
use Rattle.std.specs.Prelude.{IsUtf8}
use Rattle.std.specs.Str.{is_utf8}
use Rattle.std.proofs.lemmas.Bool.{and_parts, and_from}
use Rattle.std.proofs.lemmas.List.{take_at, drop_at}
use Rattle.std.proofs.lemmas.Str.{IsCharBoundary-after_ascii, IsCharBoundary-before_ascii, IsUtf8-append, IsUtf8-drop, IsUtf8-from_ascii, IsUtf8-from_is_utf8, IsUtf8-take, is_utf8-from_IsUtf8}
use Rattle.json_args.specs.Parts.{joined}
use Rattle.list_laws.proofs.Flags.{same_flag}

abbrev pub all_utf8 : List (List ℕ) → Bool
all_utf8 [] = true
all_utf8 (part ∷ parts) = is_utf8 part && all_utf8 parts

-- the first of two that isn't
pub split_false : (a b : Bool) → (a && b) ≡ false → (a ≡ false) ⊎ ((a ≡ true) × (b ≡ false))
split_false true b none = inr (refl, none)
split_false false b none = inl refl

pub alone_false : (a : Bool) → (a && true) ≡ false → a ≡ false
alone_false true none = none
alone_false false none = refl

zero_there : (part rest : List ℕ) → get_or (part ++ 0 ∷ rest) (length part) 0 ≡ 0
zero_there [] rest = refl
zero_there (b ∷ bs) rest = zero_there bs rest

front_utf8 : (part rest : List ℕ) → IsUtf8 (part ++ 0 ∷ rest) → IsUtf8 part
front_utf8 part rest utf8 =
    let at = zero_there part rest in
    let inside : length part < length (part ++ 0 ∷ rest) = omega (arith, length-append part (0 ∷ rest)) in
    subst IsUtf8 (take_at part (0 ∷ rest) (length part) refl)
    (IsUtf8-take (part ++ 0 ∷ rest) (length part) utf8 (IsCharBoundary-before_ascii (part ++ 0 ∷ rest) (length part) inside (omega (arith, at))))

rest_utf8 : (part rest : List ℕ) → IsUtf8 (part ++ 0 ∷ rest) → IsUtf8 rest
rest_utf8 part rest utf8 =
    let at = zero_there part rest in
    let inside : length part < length (part ++ 0 ∷ rest) = omega (arith, length-append part (0 ∷ rest)) in
    let behind : length part + 1 ≡ length (part ++ 0 ∷ []) = omega (arith, length-append part (0 ∷ [])) in
    let same : (part ++ 0 ∷ []) ++ rest ≡ part ++ 0 ∷ rest = append_assoc part (0 ∷ []) rest in
    let left : drop (length part + 1) (part ++ 0 ∷ rest) ≡ rest =
    ap (drop (length part + 1)) (sym same) ∙ drop_at (part ++ 0 ∷ []) rest (length part + 1) (sym behind) in
    subst IsUtf8 left
    (IsUtf8-drop (part ++ 0 ∷ rest) (length part + 1) utf8 (IsCharBoundary-after_ascii (part ++ 0 ∷ rest) (length part) utf8 inside (omega (arith, at))))

zero_utf8 : IsUtf8 (0 ∷ [])
zero_utf8 = IsUtf8-from_ascii (0 ∷ []) low
  where
    low : (i : ℕ) → get_or (0 ∷ []) i 0 < 128
    low zero = lit≤ tt
    low (suc i) = lit≤ tt

both_utf8 : (part rest : List ℕ) → IsUtf8 part → IsUtf8 rest → IsUtf8 (part ++ 0 ∷ rest)
both_utf8 part rest first second = IsUtf8-append part (0 ∷ rest) first (IsUtf8-append (0 ∷ []) rest zero_utf8 second)

pub nothing_utf8 : is_utf8 [] ≡ true
nothing_utf8 = is_utf8-from_IsUtf8 [] (IsUtf8-from_ascii [] (λ i. omega arith))

part_utf8 : (part rest : List ℕ) → is_utf8 (part ++ 0 ∷ rest) ≡ (is_utf8 part && is_utf8 rest)
part_utf8 part rest =
    same_flag _ _
    (λ all.
    let utf8 = IsUtf8-from_is_utf8 (part ++ 0 ∷ rest) all in
    and_from _ _ (is_utf8-from_IsUtf8 part (front_utf8 part rest utf8)) (is_utf8-from_IsUtf8 rest (rest_utf8 part rest utf8)))
    (λ both.
    let parts = and_parts (is_utf8 part) (is_utf8 rest) both in
    is_utf8-from_IsUtf8 (part ++ 0 ∷ rest) (both_utf8 part rest (IsUtf8-from_is_utf8 part parts.0) (IsUtf8-from_is_utf8 rest parts.1)))

pub joined_utf8 : (parts : List (List ℕ)) → is_utf8 (joined parts) ≡ all_utf8 parts
joined_utf8 [] = nothing_utf8
joined_utf8 (part ∷ parts) = part_utf8 part (joined parts) ∙ ap (λ b. is_utf8 part && b) (joined_utf8 parts)
