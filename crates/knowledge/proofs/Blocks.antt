-- The bytes of blocks are known, whatever a change makes of the blocks.
use Rattle.std.proofs.Common.{◌≡◌, ℕ, ◌+◌, ◌-◌, ◌<◌, ◌≤◌, Bool, true, false, cond, not, ◌&&◌, ◌||◌, nat_eq, List, [], ◌∷◌, length, take, drop, filter, find, slice_get, zero, suc, Option, Some, None, option_map, refl, sym, ap, ◌∙◌, arith}
use Rattle.std.specs.Prelude.{IfSome}
use Rattle.std.specs.Borrow.{Bor}
use Rattle.std.specs.List.{list_any}
use Rattle.std.proofs.lemmas.Bool.{and_from, and_parts, both_ways, eqb-true, eq-eqb, false_from_ne_true, leb-true, le-leb, lt-ltb, ltb-true, not-true, or_left, or_right}
use Rattle.block_store.specs.Blocks.{end_of, has_range, is_same, overlaps, part}
use Rattle.block_store.specs.Store.{added, covered, without_process, without_range}
use Rattle.block_store.specs.declared.block.Block.{Block}
use Rattle.knowledge.specs.Changes.{Change, all_gone, context_told, context_gone, threads_told, thread_joined, threads_gone, threads_stale, state_told, state_gone, register_read, register_gone, thread_registers_gone, registers_gone, bytes_read, bytes_gone, range_gone, properties_told, properties_gone, status_told, status_gone, statuses_gone, after, after_all, has_byte, is_byte, is_still, is_within}
use Rattle.knowledge.specs.Facts.{Facts}
use Rattle.knowledge.specs.KnowledgeValue.{blocks_after, blocks_after_all, has_block_byte}
use Rattle.knowledge.specs.Laws.{AreKnown, BlocksAreLearned, ReadIsKnown}
use Rattle.knowledge.specs.Learning.{changes_of}

-- the block is of the process, and has the byte
abbrev pub holds : ℕ → ℕ → ℕ → Block → Bool
holds process place byte block = nat_eq block.process process && has_byte block.addr block.bytes place byte

-- ---- one of several

pub or_cases : (a b : Bool) {C : Type 0} → (a || b) ≡ true → (a ≡ true → C) → (b ≡ true → C) → C
or_cases true b is one two = one refl
or_cases false b is one two = two is

-- a fact that follows wherever one passes
any_gives : (p : Block → Bool) {C : Type 0} (blocks : List Block) → list_any p blocks ≡ true → ((block : Block) → p block ≡ true → C) → C
any_gives p [] is then = absurd (both_ways false refl is)
any_gives p (block ∷ blocks) is then = or_cases (p block) (list_any p blocks) is (then block) (λ rest. any_gives p blocks rest then)

pub any_take : (p : Block → Bool) (n : ℕ) (blocks : List Block) → list_any p (take n blocks) ≡ true → list_any p blocks ≡ true
any_take p zero blocks is = absurd (both_ways false refl is)
any_take p (suc n) [] is = is
any_take p (suc n) (block ∷ blocks) is =
    or_cases (p block) (list_any p (take n blocks)) is (or_left (p block) (list_any p blocks)) (λ rest. or_right (p block) (list_any p blocks) (any_take p n blocks rest))

filter_by : (p q : Block → Bool) (block : Block) (blocks : List Block) (b : Bool) → q block ≡ b
    → (list_any p (filter q blocks) ≡ true → list_any (λ x. p x && q x) blocks ≡ true)
    → list_any p (cond b (block ∷ filter q blocks) (filter q blocks)) ≡ true → (p block && q block || list_any (λ x. p x && q x) blocks) ≡ true
filter_by p q block blocks true is rest any =
    or_cases (p block) (list_any p (filter q blocks)) any
    (λ here. or_left (p block && q block) (list_any (λ x. p x && q x) blocks) (and_from (p block) (q block) here is))
    (λ there. or_right (p block && q block) (list_any (λ x. p x && q x) blocks) (rest there))
filter_by p q block blocks false is rest any = or_right (p block && q block) (list_any (λ x. p x && q x) blocks) (rest any)

-- what is left of a filter passes it
any_filter : (p q : Block → Bool) (blocks : List Block) → list_any p (filter q blocks) ≡ true → list_any (λ block. p block && q block) blocks ≡ true
any_filter p q [] is = is
any_filter p q (block ∷ blocks) is = filter_by p q block blocks (q block) refl (any_filter p q blocks) is

any_weaker : (p q : Block → Bool) (blocks : List Block) → ((block : Block) → p block ≡ true → q block ≡ true) → list_any p blocks ≡ true → list_any q blocks ≡ true
any_weaker p q [] then is = is
any_weaker p q (block ∷ blocks) then is =
    or_cases (p block) (list_any p blocks) is (λ here. or_left (q block) (list_any q blocks) (then block here))
    (λ rest. or_right (q block) (list_any q blocks) (any_weaker p q blocks then rest))

-- ---- each change of the blocks

pub byte_there : (addr : ℕ) (bytes : List ℕ) (place byte : ℕ) → has_byte addr bytes place byte ≡ true → place < addr + length bytes
byte_there addr bytes place byte is =
    let parts = and_parts _ _ is in
    let first : addr ≤ place = leb-true _ _ parts.0 in
    let inside : place - addr < length bytes = within bytes (place - addr) parts.1 in
    omega arith
  where
    within : (bytes : List ℕ) (k : ℕ) → is_byte byte (slice_get bytes k) ≡ true → k < length bytes
    within [] k is = absurd (both_ways false refl is)
    within (b ∷ bs) zero is = omega arith
    within (b ∷ bs) (suc k) is = let less = within bs k is in omega arith

-- one more block has the bytes that were read
known_read : (process addr : ℕ) (bytes : List ℕ) (blocks : List Block) (known : Facts) (still : Bool) → is_still process known ≡ still → AreKnown blocks known
    → AreKnown (cond still (added (record { process = process; addr = addr; bytes = bytes }) blocks) blocks) (after (bytes_read process addr bytes) known)
known_read process addr bytes blocks known true is before p place byte any =
    let block : Block = record { process = process; addr = addr; bytes = bytes } in
    let others : List Block = filter (λ other. not (is_same block other)) blocks in
    or_cases (holds p place byte block) (list_any (holds p place byte) others) (any_take (holds p place byte) 64 (block ∷ others) any)
    (λ here. let parts = and_parts _ _ here in
    or_right (known.bytes p place byte) (is_still process known && nat_eq process p && has_byte addr bytes place byte)
    (and_from _ _ (and_from _ _ is parts.0) parts.1))
    (λ there. or_left (known.bytes p place byte) (is_still process known && nat_eq process p && has_byte addr bytes place byte)
    (before p place byte (any_weaker (λ other. holds p place byte other && not (is_same block other)) (holds p place byte) blocks (λ other both. (and_parts _ _ both).0)
    (any_filter (holds p place byte) (λ other. not (is_same block other)) blocks there))))
known_read process addr bytes blocks known false is before p place byte any =
    or_left (known.bytes p place byte) (is_still process known && nat_eq process p && has_byte addr bytes place byte) (before p place byte any)

apart : (a b c : ℕ) → nat_eq a b ≡ true → not (nat_eq a c) ≡ true → not (nat_eq c b) ≡ true
apart a b c same other =
    ap not (false_from_ne_true (nat_eq c b) (λ is. both_ways (nat_eq a c) (not-true (nat_eq a c) other)
    (let e : a ≡ b = eqb-true a b same in let k : c ≡ b = eqb-true c b is in eq-eqb a c (e ∙ sym k))))

-- blocks of other processes are left
known_without_process : (process : ℕ) (blocks : List Block) (known : Facts) → AreKnown blocks known → AreKnown (without_process process blocks) (after (bytes_gone process) known)
known_without_process process blocks known before p place byte any =
    let both = any_filter (holds p place byte) (λ block. not (nat_eq block.process process)) blocks any in
    and_from (known.bytes p place byte) (not (nat_eq process p))
    (before p place byte (any_weaker (λ block. holds p place byte block && not (nat_eq block.process process)) (holds p place byte) blocks (λ block b. (and_parts _ _ b).0) both))
    (any_gives (λ block. holds p place byte block && not (nat_eq block.process process)) blocks both
    (λ block b. let parts = and_parts _ _ b in apart block.process p process (and_parts _ _ parts.0).0 parts.1))

-- a block with a byte of the range overlaps it
in_range : (process addr size p place byte : ℕ) (block : Block) → holds p place byte block ≡ true → (nat_eq process p && is_within addr size place) ≡ true
    → overlaps process addr size block ≡ true
in_range process addr size p place byte block has is =
    let mine = and_parts _ _ has in
    let parts = and_parts _ _ is in
    let range = and_parts _ _ parts.1 in
    let low : addr ≤ place = leb-true _ _ range.0 in
    let high : place < addr + size = ltb-true _ _ range.1 in
    let first : block.addr ≤ place = leb-true _ _ (and_parts _ _ mine.1).0 in
    let past : place < block.addr + length block.bytes = byte_there block.addr block.bytes place byte mine.1 in
    let one : block.process ≡ p = eqb-true _ _ mine.0 in
    let two : process ≡ p = eqb-true _ _ parts.0 in
    and_from _ _ (and_from _ _ (eq-eqb block.process process (one ∙ sym two)) (lt-ltb block.addr (addr + size) (omega arith))) (lt-ltb addr (end_of block) (omega arith))

known_without_range : (process addr size : ℕ) (blocks : List Block) (known : Facts) → AreKnown blocks known
    → AreKnown (without_range process addr size blocks) (after (range_gone process addr size) known)
known_without_range process addr size blocks known before p place byte any =
    let both = any_filter (holds p place byte) (λ block. not (overlaps process addr size block)) blocks any in
    and_from (known.bytes p place byte) (not (nat_eq process p && is_within addr size place))
    (before p place byte (any_weaker (λ block. holds p place byte block && not (overlaps process addr size block)) (holds p place byte) blocks (λ block b. (and_parts _ _ b).0) both))
    (any_gives (λ block. holds p place byte block && not (overlaps process addr size block)) blocks both
    (λ block b. let parts = and_parts _ _ b in
    ap not (false_from_ne_true (nat_eq process p && is_within addr size place)
    (λ is. both_ways (overlaps process addr size block) (not-true _ parts.1) (in_range process addr size p place byte block parts.0 is)))))

pub known_after : (change : Change) (blocks : List Block) (known : Facts) → AreKnown blocks known → AreKnown (blocks_after change known blocks) (after change known)
known_after all_gone blocks known before = λ p place byte any. absurd (both_ways false refl any)
known_after (context_told id context) blocks known before = before
known_after (context_gone id) blocks known before = before
known_after (threads_told process ids) blocks known before = before
known_after (thread_joined process id) blocks known before = before
known_after (threads_gone process) blocks known before = before
known_after (threads_stale process) blocks known before = before
known_after (state_told process thread state) blocks known before = before
known_after (state_gone process thread) blocks known before = before
known_after (register_read process thread index value) blocks known before = before
known_after (register_gone process thread index) blocks known before = before
known_after (thread_registers_gone process thread) blocks known before = before
known_after registers_gone blocks known before = before
known_after (bytes_read process addr bytes) blocks known before = known_read process addr bytes blocks known (is_still process known) refl before
known_after (bytes_gone process) blocks known before = known_without_process process blocks known before
known_after (range_gone process addr size) blocks known before = known_without_range process addr size blocks known before
known_after (properties_told id properties) blocks known before = before
known_after (properties_gone id) blocks known before = before
known_after (status_told id status) blocks known before = before
known_after (status_gone id) blocks known before = before
known_after statuses_gone blocks known before = before

pub known_after_all : (changes : List Change) (blocks : List Block) (known : Facts) → AreKnown blocks known
    → AreKnown (blocks_after_all changes known blocks) (after_all changes known)
known_after_all [] blocks known before = before
known_after_all (change ∷ changes) blocks known before =
    known_after_all changes (blocks_after change known blocks) (after change known) (known_after change blocks known before)

pub learned_blocks : BlocksAreLearned
learned_blocks message known blocks before = known_after_all (changes_of message) blocks known before

-- ---- a range that is read

get_drop : (bytes : List ℕ) (n k : ℕ) → slice_get (drop n bytes) k ≡ slice_get bytes (n + k)
get_drop bytes zero k = let e : k ≡ 0 + k = omega arith in ap (slice_get bytes) e
get_drop [] (suc n) k = let e : suc n + k ≡ suc (n + k) = omega arith in sym (ap (slice_get []) e)
get_drop (b ∷ bs) (suc n) k = let e : suc n + k ≡ suc (n + k) = omega arith in get_drop bs n k ∙ sym (ap (slice_get (b ∷ bs)) e)

get_take : (n : ℕ) (bytes : List ℕ) (k byte : ℕ) → slice_get (take n bytes) k ≡ Some byte → slice_get bytes k ≡ Some byte
get_take zero bytes k byte is = cc
get_take (suc n) [] k byte is = is
get_take (suc n) (b ∷ bs) zero byte is = is
get_take (suc n) (b ∷ bs) (suc k) byte is = get_take n bs k byte is

-- a byte of the part that is read is one of the block
part_holds : (process addr size k byte : ℕ) (block : Block) → has_range process addr size block ≡ true → slice_get (part addr size block) k ≡ Some byte
    → holds process (addr + k) byte block ≡ true
part_holds process addr size k byte block has is =
    let parts = and_parts _ _ has in
    let front = and_parts _ _ parts.0 in
    let begins : block.addr ≤ addr = leb-true _ _ front.1 in
    let place : (addr - block.addr) + k ≡ (addr + k) - block.addr = omega arith in
    let there : slice_get block.bytes ((addr + k) - block.addr) ≡ Some byte =
    sym (ap (slice_get block.bytes) place) ∙ sym (get_drop block.bytes (addr - block.addr) k) ∙ get_take size (drop (addr - block.addr) block.bytes) k byte is in
    and_from _ _ front.0 (and_from _ _ (le-leb block.addr (addr + k) (omega arith)) (ap (is_byte byte) there ∙ eq-eqb byte byte refl))

found_by : (process addr size k byte : ℕ) (bytes : List ℕ) (block : Block) (blocks : List Block) (b : Bool) → has_range process addr size block ≡ b
    → (covered process addr size blocks ≡ Some bytes → has_block_byte blocks process (addr + k) byte ≡ true)
    → slice_get bytes k ≡ Some byte
    → option_map (part addr size) (cond b (Some block) (find (has_range process addr size) blocks)) ≡ Some bytes
    → has_block_byte (block ∷ blocks) process (addr + k) byte ≡ true
found_by process addr size k byte bytes block blocks true has rest is found =
    let same : part addr size block ≡ bytes = cc in
    or_left (holds process (addr + k) byte block) (has_block_byte blocks process (addr + k) byte)
    (part_holds process addr size k byte block has (ap (λ xs. slice_get xs k) same ∙ is))
found_by process addr size k byte bytes block blocks false has rest is found =
    or_right (holds process (addr + k) byte block) (has_block_byte blocks process (addr + k) byte) (rest found)

pub read_is_known : ReadIsKnown
read_is_known process addr size [] bytes k byte found is = cc
read_is_known process addr size (block ∷ blocks) bytes k byte found is =
    found_by process addr size k byte bytes block blocks (has_range process addr size block) refl
    (λ rest. read_is_known process addr size blocks bytes k byte rest is) is found

pub read_known : (process addr size : ℕ) (blocks : List Block) (found : Option (Bor (List ℕ))) → option_map (λ bytes. bytes.now) found ≡ covered process addr size blocks
    → IfSome found (λ bytes. (k byte : ℕ) → slice_get bytes.now k ≡ Some byte → has_block_byte blocks process (addr + k) byte ≡ true)
read_known process addr size blocks None is = tt
read_known process addr size blocks (Some bytes) is = λ k byte there. read_is_known process addr size blocks bytes.now k byte (sym is) there
