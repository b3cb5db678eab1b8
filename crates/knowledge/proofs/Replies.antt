-- What a reply tells, and what it leaves.
use Rattle.std.proofs.Common.{◌≡◌, ℕ, ◌+◌, ◌<◌, zero, suc, nat_lt, Bool, true, false, cond, List, [], ◌∷◌, ◌++◌, length, take, drop, find, position, slice_get, Option, Some, None, option_map, refl, sym, ap, ◌∙◌, append_assoc, arith, subst}
use Rattle.std.specs.Prelude.{OnErr, OnOk, Result, Ok, Err}
use Rattle.std.specs.List.{list_any, position_or_len, remove}
use Rattle.std.proofs.lemmas.Bool.{ltb-true, or_right}
use Rattle.std.proofs.lemmas.List.Folds.{find_at, list_any-append}
use Rattle.block_store.specs.Blocks.{has_range, part}
use Rattle.block_store.specs.Store.{covered, moved_first}
use Rattle.block_store.specs.declared.block.Block.{Block}
use Rattle.tcf_values.specs.declared.values.Location.{Location}
use Rattle.knowledge.specs.Facts.{Facts}
use Rattle.knowledge.specs.KnowledgeValue.{IsCacheOf, KnowledgeValue, has_block_byte}
use Rattle.knowledge.specs.Learning.{Message}
use Rattle.knowledge.specs.Reply.{bytes_or_none, memory_used, part_known, parts_bytes}
use Rattle.knowledge.specs.declared.span.Asked.{Asked}
use Rattle.knowledge.proofs.Blocks.{any_take, holds, or_cases}

-- ---- a block that is used

pub any_drop : (p : Block → Bool) (n : ℕ) (blocks : List Block) → list_any p (drop n blocks) ≡ true → list_any p blocks ≡ true
any_drop p zero blocks is = is
any_drop p (suc n) [] is = is
any_drop p (suc n) (block ∷ blocks) is = or_right (p block) (list_any p blocks) (any_drop p n blocks is)

pub any_joined : (p : Block → Bool) (xs ys blocks : List Block) → (list_any p xs ≡ true → list_any p blocks ≡ true) → (list_any p ys ≡ true → list_any p blocks ≡ true)
    → list_any p (xs ++ ys) ≡ true → list_any p blocks ≡ true
any_joined p xs ys blocks one two is = or_cases (list_any p xs) (list_any p ys) (sym (list_any-append p xs ys) ∙ is) one two

pub any_moved : (p : Block → Bool) (place : Option ℕ) (blocks : List Block) → list_any p (moved_first place blocks) ≡ true → list_any p blocks ≡ true
any_moved p None blocks is = is
any_moved p (Some at) blocks is =
    any_joined p (take 1 (drop at blocks)) (remove blocks at) blocks
    (λ first. any_drop p at blocks (any_take p 1 (drop at blocks) first))
    (any_joined p (take at blocks) (drop (suc at) blocks) blocks (any_take p at blocks) (any_drop p (suc at) blocks)) is

-- the blocks have no byte that they hadn't
used_bytes : (asked : Option Asked) (blocks : List Block) (process place byte : ℕ) → has_block_byte (memory_used asked blocks) process place byte ≡ true
    → has_block_byte blocks process place byte ≡ true
used_bytes None blocks process place byte is = is
used_bytes (Some asked) blocks process place byte is =
    any_moved (holds process place byte) (position (has_range asked.process asked.addr asked.size) blocks) blocks is

-- a cache stays one of the messages that it has learned, also where memory is wanting
cache_used : (messages : List Message) (asked : Option Asked) (value : KnowledgeValue) → IsCacheOf messages value
    → IsCacheOf messages (record value { blocks = memory_used asked value.blocks })
cache_used messages asked value cache = record {
  facts = record {
    contexts = cache.facts.contexts;
    threads = cache.facts.threads;
    states = cache.facts.states;
    registers = cache.facts.registers;
    properties = cache.facts.properties;
    statuses = cache.facts.statuses;
  };
  bytes = λ process place byte any. cache.bytes process place byte (used_bytes asked value.blocks process place byte any);
}

pub cache_either : {A E : Type 0} (messages : List Message) (asked : Option Asked) (before now : KnowledgeValue) (result : Result A E)
    → OnOk result (now ≡ record before { blocks = memory_used asked before.blocks }) → OnErr result (now ≡ before)
    → IsCacheOf messages before → IsCacheOf messages now
cache_either messages asked before now (Ok answer) used same cache =
    subst (λ (value : KnowledgeValue). IsCacheOf messages value) (sym used) (cache_used messages asked before cache)
cache_either messages asked before now (Err error) used same cache =
    subst (λ (value : KnowledgeValue). IsCacheOf messages value) (sym same) cache

-- ---- a range that no block has

some_there : {A : Type 0} (xs : List A) (at : ℕ) → at < length xs → slice_get xs at ≡ None → ⊥
some_there [] at within none = omega arith
some_there (x ∷ xs) zero within none = cc
some_there (x ∷ xs) (suc at) within none = some_there xs at (omega arith) none

nowhere_by : {A : Type 0} (p : A → Bool) (xs : List A) (b : Bool) → nat_lt (position_or_len p xs) (length xs) ≡ b → find p xs ≡ None
    → cond b (Some (position_or_len p xs)) None ≡ None
nowhere_by p xs true is none = absurd (some_there xs (position_or_len p xs) (ltb-true _ _ is) (sym (find_at p xs) ∙ none))
nowhere_by p xs false is none = refl

-- what isn't found has no place
nowhere : {A : Type 0} (p : A → Bool) (xs : List A) → find p xs ≡ None → position p xs ≡ None
nowhere p xs none = nowhere_by p xs (nat_lt (position_or_len p xs) (length xs)) refl none

none_mapped : {A B : Type 0} (f : A → B) (found : Option A) → option_map f found ≡ None → found ≡ None
none_mapped f None is = refl
none_mapped f (Some x) is = cc

-- a range that no block has uses none
pub unused : (asked : Asked) (blocks : List Block) → covered asked.process asked.addr asked.size blocks ≡ None → memory_used (Some asked) blocks ≡ blocks
unused asked blocks none =
    let test = has_range asked.process asked.addr asked.size in
    ap (λ place. moved_first place blocks) (nowhere test blocks (none_mapped (part asked.addr asked.size) (find test blocks) none))

-- ---- parts of registers

-- the bytes of one part more
pub parts_step : (known : Facts) (list : List Location) (at : ℕ) (location : Location) (old new all : List ℕ) → drop at list ≡ location ∷ drop (at + 1) list
    → new ≡ old ++ bytes_or_none (part_known known location) → old ++ parts_bytes known (drop at list) ≡ all → new ++ parts_bytes known (drop (at + 1) list) ≡ all
parts_step known list at location old new all split added before =
    ap (λ (xs : List ℕ). xs ++ parts_bytes known (drop (at + 1) list)) added
    ∙ append_assoc old (bytes_or_none (part_known known location)) (parts_bytes known (drop (at + 1) list))
    ∙ sym (ap (λ (ls : List Location). old ++ parts_bytes known ls) split)
    ∙ before
