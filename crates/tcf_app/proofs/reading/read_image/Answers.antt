use Rattle.std.proofs.Common.{[], ◌∷◌, List, ℕ, ap, subst}
use Rattle.tcf_app.specs.Words.{NamedFile}
use Rattle.tcf_app.specs.Heard.{ReadsInOrder}
use Rattle.tcf_app.proofs.Answered.{on_err}
use Rattle.tcf_app.proofs.Noting.{reads_one}
use Rattle.tcf_app.proofs.reading.read_image.Goals as goal

pub returns-in_err-name-clause-part_noted : goal.returns-in_err-name-clause-part_noted
returns-in_err-name-clause-part_noted g c =
    on_err c.from_residual-in_err-name.result
    (subst (λ (name : List ℕ). ReadsInOrder (name ∷ []) (g.F.Files.seen c.args.files.now) (g.F.Files.seen c.read_next.new.files)) (ap (λ (image : NamedFile). image.file) c.image_in-word.ensures)
    (reads_one _ _ _ c.in_ok-bytes.ensures.noted))
