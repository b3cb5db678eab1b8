use Rattle.std.proofs.Common.{◌∙◌, ap}
use Rattle.std.specs.Prelude.{bytes_eq}
use Rattle.std.specs.List.{list_any}
use Rattle.tcf_schedules.specs.declared.schedule.NamedImage.{NamedImage}
use Rattle.tcf_schedules.proofs.image.ImageList.has.Goals as goal

pub returns : goal.returns
returns c =
    c.contains.ensures ∙ (c.self.invariant c.args.name ∙ ap (list_any (λ (i : NamedImage). bytes_eq i.name c.args.name.now)) c.self.view_is)
