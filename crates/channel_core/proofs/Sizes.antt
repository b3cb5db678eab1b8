-- How long what an end queues is.
use Rattle.std.proofs.Common.{◌≡◌, ℕ, suc, ◌+◌, ◌≤◌, List, [], ◌∷◌, length, ap, ◌∙◌, arith, length-append}
use Rattle.std.specs.Prelude.{ℤ, pos, negsuc}
use Rattle.std.specs.Fmt.{signed_decimal}
use Rattle.std.proofs.lemmas.Int.{ints}
use Rattle.stream_escape.specs.Stream.{most_message}
use Rattle.tcf_message.specs.Message.{MessageValue, command, final, progress, not_known, event, flow, spelling, IsWellFormed, IsLevel, most_body, most_token, ◌•◌}
use Rattle.tcf_message.proofs.TheLaws.{decimal_token}

level_size : (level : ℤ) → IsLevel level → length (signed_decimal level) ≤ 256
level_size (pos n) within =
    let few : n ≤ 100 = grind (arith, ints) in let text = decimal_token n (omega arith) in let size = text.2 in omega arith
level_size (negsuc n) within =
    let few : n ≤ 99 = grind (arith, ints) in let text = decimal_token (suc n) (omega arith) in let size = text.2 in omega arith

field_size : (field rest : List ℕ) → length (field • rest) ≡ length field + suc (length rest)
field_size field rest = length-append field (0 ∷ rest)

-- a message that is well formed fits into a frame
pub spelled_size : (m : MessageValue) → IsWellFormed m → length (spelling m) ≤ most_message
spelled_size (command token service name body) formed =
    let size : length service + length name + length body ≤ most_body = formed.1 in let most : length token ≤ most_token = formed.0.0.2 in
    let whole : length (spelling (command token service name body)) ≡ suc (suc (length token + suc (length service + suc (length name + suc (length body))))) =
    ap (λ n. suc (suc n)) (field_size token (service • name • body) ∙ ap (λ n. length token + suc n) (field_size service (name • body) ∙ ap (λ n. length service + suc n) (field_size name body))) in
    rw whole (omega arith)
spelled_size (final token body) formed =
    let size : length body ≤ most_body = formed.1 in let most : length token ≤ most_token = formed.0.2 in
    let whole : length (spelling (final token body)) ≡ suc (suc (length token + suc (length body))) = ap (λ n. suc (suc n)) (field_size token body) in
    rw whole (omega arith)
spelled_size (progress token body) formed =
    let size : length body ≤ most_body = formed.1 in let most : length token ≤ most_token = formed.0.2 in
    let whole : length (spelling (progress token body)) ≡ suc (suc (length token + suc (length body))) = ap (λ n. suc (suc n)) (field_size token body) in
    rw whole (omega arith)
spelled_size (not_known token) formed =
    let most : length token ≤ most_token = formed.0.2 in
    let whole : length (spelling (not_known token)) ≡ suc (suc (length token + 1)) = ap (λ n. suc (suc n)) (field_size token []) in
    rw whole (omega arith)
spelled_size (event service name body) formed =
    let size : length service + length name + length body ≤ most_body = formed.1 in
    let whole : length (spelling (event service name body)) ≡ suc (suc (length service + suc (length name + suc (length body)))) =
    ap (λ n. suc (suc n)) (field_size service (name • body) ∙ ap (λ n. length service + suc n) (field_size name body)) in
    rw whole (omega arith)
spelled_size (flow level) formed =
    let most : length (signed_decimal level) ≤ 256 = level_size level formed.0 in
    let whole : length (spelling (flow level)) ≡ suc (suc (length (signed_decimal level) + 1)) = ap (λ n. suc (suc n)) (field_size (signed_decimal level) []) in
    rw whole (omega arith)
