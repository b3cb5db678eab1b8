use Rattle.std.proofs.Common.{map, string_bytes}
use Rattle.serving_wires.proofs.Making.{makes_none}
use Rattle.tcf_app.specs.Words.{agent, images_in}
use Rattle.tcf_app.proofs.Running.{agent_runs, agent_wants, runs_unread}
use Rattle.tcf_app.proofs.top.run_agent.Goals as goal

pub returns-in-Ok-clause-runs : goal.returns-in-Ok-clause-runs
returns-in-Ok-clause-runs g c =
    agent_runs c.args.address.now c.args.turns (images_in (map string_bytes c.args.words.now)) c.in-Ok.images.items _ _ _ _ _ _ _
    c.in-Ok.ensures.named c.in-Ok.ensures.whole c.serve_images.ensures.ends

pub returns-in-Err-clause-runs : goal.returns-in-Err-clause-runs
returns-in-Err-clause-runs g c =
    let images = images_in (map string_bytes c.args.words.now) in
    makes_none _ _
    (runs_unread (agent c.args.address.now c.args.turns images) (agent_wants c.args.address.now c.args.turns images) _ _ c.in-Err.unread _ _ _
    c.in-Err.ensures.part c.refuse_unread.ensures.ends)
