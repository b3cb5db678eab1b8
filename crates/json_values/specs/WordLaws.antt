-- What is written of a number of 32 bits is read as it.
use Rattle.std.proofs.Common.{◌≡◌, ℕ, ◌<◌, ◌^◌, Some, rules}
use Rattle.json_values.specs.Words.{word_json, word_in}

pub word_back : (n : ℕ) → n < 2 ^ 32 → word_in (word_json n) ≡ Some n
word_back n below = search rules
