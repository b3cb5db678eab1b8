-- Changes that come one after another, and those that a loop makes item by item.
use Rattle.std.proofs.Common.{◌≡◌, ℕ, ◌+◌, ◌<◌, ◌≤◌, true, false, List, [], ◌∷◌, ◌++◌, length, get_or, take, drop, refl, sym, ap, ◌∙◌, subst}
use Rattle.std.specs.Prelude.{unsigned_abs}
use Rattle.std.proofs.lemmas.Bool.{cond-true, cond-false}
use Rattle.std.proofs.lemmas.List.{at_drop_more, at_drop_all}
use Rattle.tcf_values.specs.declared.values.Location.{Location}
use Rattle.knowledge.specs.Changes.{Change, after_all, of_each}
use Rattle.knowledge.specs.Facts.{AreSame}
use Rattle.knowledge.specs.KnowledgeValue.{IsAfter, KnowledgeValue, blocks_after_all, facts_of}
use Rattle.knowledge.specs.Rows.{is_part, parts_read, whole_read}
use Rattle.knowledge.proofs.Same.{after_all_same, after_all-append, blocks_all_same, blocks_all-append, same_refl, same_then}

-- nothing has changed
pub none_after : (value : KnowledgeValue) → IsAfter [] value value
none_after value = record { facts = same_refl (facts_of value); blocks = refl }

-- some changes, and then others
pub then_after : {xs ys : List Change} {first next last : KnowledgeValue} → IsAfter xs first next → IsAfter ys next last → IsAfter (xs ++ ys) first last
then_after {xs} {ys} {first} {next} {last} one two =
    let known = facts_of first in
    record {
      facts = subst (AreSame (facts_of last)) (sym (after_all-append xs ys known))
          (same_then two.facts (after_all_same ys (facts_of next) (after_all xs known) one.facts));
      blocks = two.blocks ∙ ap (blocks_after_all ys (facts_of next)) one.blocks
          ∙ blocks_all_same ys (facts_of next) (after_all xs known) (blocks_after_all xs known first.blocks) one.facts
          ∙ sym (blocks_all-append xs ys known first.blocks);
    }

-- ---- a loop over items

-- what is left to be done makes of the cache now what all make of the first one
abbrev pub IsLeft : List Change → List Change → KnowledgeValue → KnowledgeValue → Type 0
IsLeft rest all now first = (last : KnowledgeValue) → IsAfter rest now last → IsAfter all first last

pub left_next : {all : List Change} {now next first : KnowledgeValue} (rest step others : List Change) → rest ≡ step ++ others
    → IsAfter step now next → IsLeft rest all now first → IsLeft others all next first
left_next {all} {now} {next} {first} rest step others is done left last after =
    left last (subst (λ (changes : List Change). IsAfter changes now last) (sym is) (then_after done after))

pub left_done : {all : List Change} {now first : KnowledgeValue} (rest : List Change) → rest ≡ [] → IsLeft rest all now first → IsAfter all first now
left_done {all} {now} {first} rest is left = left now (subst (λ (changes : List Change). IsAfter changes now now) (sym is) (none_after now))

pub each_next : {A : Type 0} {now next first : KnowledgeValue} {all : List Change} (changes : A → List Change) (items : List A) (at : ℕ) (item default : A) → at < length items → item ≡ get_or items at default
    → IsAfter (changes item) now next → IsLeft (of_each changes (drop at items)) all now first → IsLeft (of_each changes (drop (at + 1) items)) all next first
each_next changes items at item default within is done left =
    left_next (of_each changes (drop at items)) (changes item) (of_each changes (drop (at + 1) items))
    (at_drop_more (of_each changes) items at default within ∙ ap (λ x. changes x ++ of_each changes (drop (at + 1) items)) (sym is)) done left

pub each_done : {A : Type 0} {now first : KnowledgeValue} {all : List Change} (changes : A → List Change) (items : List A) (at : ℕ) → length items ≤ at
    → IsLeft (of_each changes (drop at items)) all now first → IsAfter all first now
each_done changes items at past left = left_done (of_each changes (drop at items)) (at_drop_all (of_each changes) items at past) left

-- ---- the locations of an answer, each with the bytes that are left

pub part_next : {now next first : KnowledgeValue} {all : List Change} (items : List Location) (at : ℕ) (item : Location) (size : ℕ) (bytes : List ℕ) → at < length items → item ≡ get_or items at item
    → is_part item ≡ true → size ≡ unsigned_abs item.size
    → IsAfter (whole_read item.register (take size bytes)) now next → IsLeft (parts_read (drop at items) bytes) all now first
    → IsLeft (parts_read (drop (at + 1) items) (drop size bytes)) all next first
part_next items at item size bytes within is part count done left =
    left_next (parts_read (drop at items) bytes) (whole_read item.register (take size bytes)) (parts_read (drop (at + 1) items) (drop size bytes))
    (at_drop_more (λ list. parts_read list bytes) items at item within
    ∙ ap (λ x. parts_read (x ∷ drop (at + 1) items) bytes) (sym is)
    ∙ cond-true _ _ _ part
    ∙ ap (λ n. whole_read item.register (take n bytes) ++ parts_read (drop (at + 1) items) (drop n bytes)) (sym count)) done left

pub part_refused : {now first : KnowledgeValue} {all : List Change} (items : List Location) (at : ℕ) (item : Location) (bytes : List ℕ) → at < length items → item ≡ get_or items at item
    → is_part item ≡ false → IsLeft (parts_read (drop at items) bytes) all now first → IsAfter all first now
part_refused items at item bytes within is refused left =
    left_done (parts_read (drop at items) bytes)
    (at_drop_more (λ list. parts_read list bytes) items at item within
    ∙ ap (λ x. parts_read (x ∷ drop (at + 1) items) bytes) (sym is)
    ∙ cond-false _ _ _ refused) left

pub parts_done : {now first : KnowledgeValue} {all : List Change} (items : List Location) (at : ℕ) (bytes : List ℕ) → length items ≤ at
    → IsLeft (parts_read (drop at items) bytes) all now first → IsAfter all first now
parts_done items at bytes past left = left_done (parts_read (drop at items) bytes) (at_drop_all (λ list. parts_read list bytes) items at past) left
