use Rattle.std.proofs.Common.{◌≡◌, drop, map, string_bytes}
use Rattle.tcf_app.specs.Words.{images_in, has_name}
use Rattle.tcf_app.proofs.order.has_name.Given as goal

-- the words that are left and all of them give the name alike
abbrev pub invariant-loop-word : goal.invariant-loop-word
invariant-loop-word l = has_name l.name (images_in (map string_bytes l.words)) ≡ has_name l.name (images_in (map string_bytes (drop l.word-index l.words)))
