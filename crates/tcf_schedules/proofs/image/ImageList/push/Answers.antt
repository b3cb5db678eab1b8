use Rattle.std.proofs.Common.{◌≡◌, ◌++◌, ◌∷◌, [], ap}
use Rattle.tcf_schedules.specs.declared.schedule.NamedImage.{NamedImage}
use Rattle.tcf_schedules.proofs.Images.{names_push}
use Rattle.tcf_schedules.proofs.image.ImageList.push.Goals as goal

pub invariant_of-self-2 : goal.invariant_of-self-2
invariant_of-self-2 c =
    let pushed : c.push_reserved.new.self.items ≡ c.self.inside.images.items ++ c.in_ok-image.image ∷ [] = cc in
    names_push _ _ c.args.says.now.name _ _ _ c.self.invariant c.in_ok-insert.ensures.updates (ap (λ (i : NamedImage). i.name) c.in_ok-image.ensures) pushed
