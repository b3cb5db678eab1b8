use Rattle.std.proofs.Common.{◌≡◌, ◌+◌, ◌-◌, ◌%◌, ◌≤◌, ℕ, List, ◌++◌, length, take, drop, ap, sym, ◌∙◌, arith, length-append, length-take}
use Rattle.data_services.proofs.Ranges.{part_more}
use Rattle.data_services.proofs.memory.range_of.Goals as goal

-- some bytes more, up to the end of a page
pub loop-bytes-preserved : goal.loop-bytes-preserved
loop-bytes-preserved c =
    let first = c.args.first in
    let memory = c.args.memory.now.bytes in
    let bytes = c.loop-bytes.bytes.items in
    let done = length bytes in
    let some = c.min-some.result in
    let rest = c.rest_of_page-rest.result.now in
    let grown : c.extend_from_slice.new.self.items ≡ bytes ++ take some rest = c.in_ok-extend_from_slice.ensures.items in
    let behind : rest ≡ take (256 - (first + done) % 256) (drop (first + done) memory) =
    c.rest_of_page-rest.ensures.bytes ∙ ap (λ n. take (256 - (first + n) % 256) (drop (first + n) memory)) (c.len-in-loop-bytes.ensures ∙ c.loop-bytes.bytes.ok.0) in
    let enough : some ≤ length rest = omega (arith, c.min-some.ensures) in
    let within : some ≤ c.args.count - done = omega (arith, c.min-some.ensures, c.len-in-loop-bytes-2.ensures, c.loop-bytes.bytes.ok.0) in
    let taken : length (take some rest) ≡ some = omega (arith, length-take some rest, enough) in
    let long : length c.extend_from_slice.new.self.items ≡ done + some =
    ap (λ (xs : List ℕ). length xs) grown ∙ length-append bytes (take some rest) ∙ ap (λ n. done + n) taken in
    record {
      few = omega (arith, long, within, c.loop-bytes.invariant.few);
      same = grown ∙ part_more first done (256 - (first + done) % 256) some memory bytes rest c.loop-bytes.invariant.same behind enough ∙ ap (λ n. take n (drop first memory)) (sym long);
    }
