use Rattle.std.proofs.Common.{◌≡◌, drop}
use Rattle.tcf_outside.specs.Files.{content_of}
use Rattle.tcf_outside.proofs.files.content.Given as goal

abbrev pub invariant-loop-file : goal.invariant-loop-file
invariant-loop-file l = content_of l.name l.files ≡ content_of l.name (drop l.file-index l.files)
