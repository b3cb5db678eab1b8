use Rattle.std.proofs.Common.{◌≡◌, take, map, string_bytes}
use Rattle.tcf_app.specs.Words.{images_in, files_in}
use Rattle.tcf_app.specs.Heard.{AreNoted}
use Rattle.tcf_app.specs.Ending.{images_with, contents_of}
use Rattle.tcf_app.proofs.Hearing.{SoFar}
use Rattle.tcf_app.proofs.reading.read_images.Given as goal

-- the files of the first words were read whole
abbrev pub invariant-loop-word : goal.invariant-loop-word
invariant-loop-word g l = record {
  named : l.images.items ≡ images_with (take l.word-index (images_in (map string_bytes l.words))) (contents_of l.images.items);
  far : SoFar (files_in (images_in (map string_bytes l.words))) l.word-index (g.F.Files.seen l.initial.files).held (contents_of l.images.items);
  kept : (g.F.Files.seen l.files).held ≡ (g.F.Files.seen l.initial.files).held;
  calm : (g.F.Files.seen l.files).faults ≡ (g.F.Files.seen l.initial.files).faults;
  told : AreNoted (take l.word-index (files_in (images_in (map string_bytes l.words)))) (g.F.Files.seen l.initial.files) (g.F.Files.seen l.files);
}
