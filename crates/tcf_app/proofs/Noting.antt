-- The names of the files that were read.
use Rattle.std.proofs.Common.{◌≡◌, ℕ, zero, suc, ◌+◌, ◌<◌, List, [], ◌∷◌, ◌++◌, length, take, drop, get_or, refl, sym, ap, ◌∙◌, subst, arith, append-nil, append_assoc, add-one}
use Rattle.std.specs.Prelude.{Option, None, Some, Result, Ok, Err, OnOk, OnErr, option_map, map}
use Rattle.tcf_outside.specs.Files.{FilesSeen}
use Rattle.tcf_app.specs.Words.{image_in, images_in, files_in}
use Rattle.tcf_app.specs.Heard.{AreNoted, ReadsInOrder}

-- the names that were told, and more
abbrev pub told_more : List (List ℕ) → Option (List (List ℕ)) → Option (List (List ℕ))
told_more names told = option_map (λ so_far. so_far ++ names) told

pub told_none : (told : Option (List (List ℕ))) → told ≡ told_more [] told
told_none None = refl
told_none (Some names) = ap Some (sym (append-nil names))

pub told_both : (first more : List (List ℕ)) (told : Option (List (List ℕ))) → told_more more (told_more first told) ≡ told_more (first ++ more) told
told_both first more None = refl
told_both first more (Some names) = ap Some (append_assoc names first more)

pub reads_none : (names : List (List ℕ)) (seen : FilesSeen) → ReadsInOrder names seen seen
reads_none names seen = record { read = []; front = (names, refl); told = told_none seen.names }

-- nothing that is told was read, as where memory was wanting
pub reads_still : (names : List (List ℕ)) (before after : FilesSeen) → after.names ≡ before.names → ReadsInOrder names before after
reads_still names before after same = record { read = []; front = (names, refl); told = same ∙ told_none before.names }

pub reads_one : (name : List ℕ) (before after : FilesSeen) → AreNoted (name ∷ []) before after → ReadsInOrder (name ∷ []) before after
reads_one name before after told = record { read = name ∷ []; front = ([], refl); told = told }

-- a front of the names was read, and then a part of the next
pub reads_part : (names front : List (List ℕ)) (name : List ℕ) (rest : List (List ℕ)) (before mid after : FilesSeen) → names ≡ front ++ name ∷ rest
    → AreNoted front before mid → ReadsInOrder (name ∷ []) mid after → ReadsInOrder names before after
reads_part names front name rest before mid after parts first next =
    record {
      read = front ++ next.read;
      front = (
        next.front.0 ++ rest,
        parts ∙ ap (λ xs. front ++ xs) (ap (λ xs. xs ++ rest) next.front.1 ∙ append_assoc next.read next.front.0 rest)
            ∙ sym (append_assoc front next.read (next.front.0 ++ rest)),
      );
      told = next.told ∙ ap (told_more next.read) first ∙ told_both front next.read before.names;
    }

pub reads_front : (names front rest : List (List ℕ)) (before after : FilesSeen) → names ≡ front ++ rest → AreNoted front before after → ReadsInOrder names before after
reads_front names front rest before after parts told = record { read = front; front = (rest, parts); told = told }

-- a read that gave the file, or not
pub reads_either : {T E : Type 0} (r : Result T E) (name : List ℕ) (before after : FilesSeen) → OnOk r (AreNoted (name ∷ []) before after)
    → OnErr r (ReadsInOrder (name ∷ []) before after) → ReadsInOrder (name ∷ []) before after
reads_either (Ok file) name before after noted part = reads_one name before after noted
reads_either (Err refusal) name before after noted part = part

-- ---- a list at a place

pub at_place : {A B : Type 0} (f : A → B) (xs : List A) (i : ℕ) (x : A) → i < length xs → x ≡ get_or xs i x → map f xs ≡ take i (map f xs) ++ f x ∷ drop (suc i) (map f xs)
at_place f [] i x below is = absurd (omega arith)
at_place f (y ∷ ys) zero x below is = ap (λ z. f z ∷ map f ys) (sym is)
at_place f (y ∷ ys) (suc i) x below is = ap (λ zs. f y ∷ zs) (at_place f ys i x (omega arith) is)

front_suc : {A B : Type 0} (f : A → B) (xs : List A) (i : ℕ) (x : A) → i < length xs → x ≡ get_or xs i x → take (suc i) (map f xs) ≡ take i (map f xs) ++ f x ∷ []
front_suc f [] i x below is = absurd (omega arith)
front_suc f (y ∷ ys) zero x below is = ap (λ z. f z ∷ []) (sym is)
front_suc f (y ∷ ys) (suc i) x below is = ap (λ zs. f y ∷ zs) (front_suc f ys i x (omega arith) is)

pub front_more : {A B : Type 0} (f : A → B) (xs : List A) (i : ℕ) (x : A) → i < length xs → x ≡ get_or xs i x → take (i + 1) (map f xs) ≡ take i (map f xs) ++ f x ∷ []
front_more f xs i x below is = rw add-one (front_suc f xs i x below is)

-- ---- the images of some words, and their files

images_are : {A : Type 0} (bytes : A → List ℕ) (words : List A) → images_in (map bytes words) ≡ map (λ word. image_in (bytes word)) words
images_are bytes [] = refl
images_are bytes (word ∷ words) = ap (λ images. image_in (bytes word) ∷ images) (images_are bytes words)

files_are : {A : Type 0} (bytes : A → List ℕ) (words : List A) → files_in (images_in (map bytes words)) ≡ map (λ word. (image_in (bytes word)).file) words
files_are bytes [] = refl
files_are bytes (word ∷ words) = ap (λ names. (image_in (bytes word)).file ∷ names) (files_are bytes words)

pub files_count : {A : Type 0} (bytes : A → List ℕ) (words : List A) → length (files_in (images_in (map bytes words))) ≡ length words
files_count bytes [] = refl
files_count bytes (word ∷ words) = ap suc (files_count bytes words)

pub images_count : {A : Type 0} (bytes : A → List ℕ) (words : List A) → length (images_in (map bytes words)) ≡ length words
images_count bytes [] = refl
images_count bytes (word ∷ words) = ap suc (images_count bytes words)

module _ {A : Type 0} (bytes : A → List ℕ) (words : List A) (i : ℕ) (word : A) (below : i < length words) (is : word ≡ get_or words i word) where
  pub files_at : files_in (images_in (map bytes words))
      ≡ take i (files_in (images_in (map bytes words))) ++ (image_in (bytes word)).file ∷ drop (suc i) (files_in (images_in (map bytes words)))
  files_at =
      subst (λ names. names ≡ take i names ++ (image_in (bytes word)).file ∷ drop (suc i) names) (sym (files_are bytes words))
      (at_place (λ w. (image_in (bytes w)).file) words i word below is)

  pub files_next : take (i + 1) (files_in (images_in (map bytes words))) ≡ take i (files_in (images_in (map bytes words))) ++ (image_in (bytes word)).file ∷ []
  files_next =
      subst (λ names. take (i + 1) names ≡ take i names ++ (image_in (bytes word)).file ∷ []) (sym (files_are bytes words))
      (front_more (λ w. (image_in (bytes w)).file) words i word below is)

  pub images_next : take (i + 1) (images_in (map bytes words)) ≡ take i (images_in (map bytes words)) ++ image_in (bytes word) ∷ []
  images_next =
      subst (λ images. take (i + 1) images ≡ take i images ++ image_in (bytes word) ∷ []) (sym (images_are bytes words))
      (front_more (λ w. image_in (bytes w)) words i word below is)
