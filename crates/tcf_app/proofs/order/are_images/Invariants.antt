use Rattle.std.proofs.Common.{◌≡◌, drop, map, string_bytes}
use Rattle.tcf_app.specs.Words.{images_in, are_named}
use Rattle.tcf_app.proofs.order.are_images.Given as goal

-- the words that are left and all of them are named alike
abbrev pub invariant-loop-at : goal.invariant-loop-at
invariant-loop-at l = are_named (images_in (map string_bytes l.words)) ≡ are_named (images_in (map string_bytes (drop l.at l.words)))
