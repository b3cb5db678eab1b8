use Rattle.std.proofs.Common.{◌≡◌, ℕ, replicate}
use Rattle.std.proofs.lemmas.Result.{IfOk-weaker}
use Rattle.elf_image.specs.Image.{zeros}
use Rattle.target_contexts.proofs.Placing.{zeros_are}
use Rattle.target_contexts.proofs.loading.zeros.Goals as goal

pub returns-clause-bytes : goal.returns-clause-bytes
returns-clause-bytes c =
    IfOk-weaker c.vec.result (λ made. ((y : ℕ) → y ≡ 0 → y ≡ 0) → made.items ≡ replicate 65536 0) (λ made. made.items ≡ zeros)
    (λ made are. zeros_are made.items (are (λ y same. same))) c.vec.ensures.items_if_clones_equal
