-- What a range that was dropped leaves.
use Rattle.std.proofs.Common.{◌≡◌, ℕ, ◌+◌, ◌<◌, ◌≤◌, Bool, true, false, not, List, filter, option_map, ap, arith}
use Rattle.std.specs.List.{All}
use Rattle.std.proofs.lemmas.Bool.{and_from, and_parts, both_ways, false_from_ne_true, leb-true, lt-ltb, not-true}
use Rattle.std.proofs.lemmas.List.Elements.{All-weaker, filter_passes, recursion_from_All}
use Rattle.std.proofs.lemmas.List.Folds.{list_any_none}
use Rattle.block_store.specs.Blocks.{end_of, has_range, overlaps, part}
use Rattle.block_store.specs.Laws.{DroppedIsGone, DroppedIsUnread}
use Rattle.block_store.specs.Store.{without_range}
use Rattle.block_store.specs.declared.block.Block.{Block}
use Rattle.block_store.proofs.Found.{find_none}

-- no block that is left has a byte of the range
none_overlaps : (process addr size : ℕ) (blocks : List Block) → All (λ block. overlaps process addr size block ≡ false) (without_range process addr size blocks)
none_overlaps process addr size blocks =
    let stays : Block → Bool = λ block. not (overlaps process addr size block) in
    All-weaker (λ block. stays block ≡ true) (λ block. overlaps process addr size block ≡ false) (λ block. not-true (overlaps process addr size block))
    (filter stays blocks) (filter_passes stays blocks)

pub dropped_is_gone : DroppedIsGone
dropped_is_gone process addr size blocks =
    list_any_none (overlaps process addr size) (without_range process addr size blocks) (none_overlaps process addr size blocks)

-- a block that has a byte's range overlaps each range with that byte
has_overlaps : (process addr size first count byte : ℕ) (block : Block) → addr ≤ byte → byte < addr + size → first ≤ byte → byte < first + count
    → has_range process first count block ≡ true → overlaps process addr size block ≡ true
has_overlaps process addr size first count byte block low high start end has =
    let parts = and_parts _ _ has in
    let front = and_parts _ _ parts.0 in
    let begins : block.addr ≤ first = leb-true _ _ front.1 in
    let ends : first + count ≤ end_of block = leb-true _ _ parts.1 in
    and_from _ _ (and_from _ _ front.0 (lt-ltb block.addr (addr + size) (omega arith))) (lt-ltb addr (end_of block) (omega arith))

pub dropped_is_unread : DroppedIsUnread
dropped_is_unread process addr size blocks first count byte low high start end =
    ap (option_map (part first count)) (find_none (has_range process first count) (without_range process addr size blocks)
    (recursion_from_All (λ block. has_range process first count block ≡ false) (without_range process addr size blocks)
    (All-weaker (λ block. overlaps process addr size block ≡ false) (λ block. has_range process first count block ≡ false)
    (λ block apart. false_from_ne_true _ (λ has. both_ways (overlaps process addr size block) apart (has_overlaps process addr size first count byte block low high start end has)))
    (without_range process addr size blocks) (none_overlaps process addr size blocks))))
