use Rattle.hub_serving.proofs.Heeding.{hears_end, hears_peer, hears_piece, idles}
use Rattle.hub_serving.proofs.serving.Serving.act.Goals as goal

pub returns-in-Piece-clause-peer : goal.returns-in-Piece-clause-peer
returns-in-Piece-clause-peer c = hears_peer c.hear.result _ _ c.args.self.now c.hear.new.self c.hear.ensures

pub returns-in-Piece-clause-acts : goal.returns-in-Piece-clause-acts
returns-in-Piece-clause-acts c = hears_piece c.hear.result c.args.event _ _ c.args.self.now c.hear.new.self c.args.sending.now c.in-Piece.is c.hear.ensures

pub returns-in-Idle-clause-acts : goal.returns-in-Idle-clause-acts
returns-in-Idle-clause-acts c = idles c.args.event c.args.self.now c.args.sending.now c.in-Idle.is

pub returns-in-Ended-clause-peer : goal.returns-in-Ended-clause-peer
returns-in-Ended-clause-peer c = hears_peer c.hear-in-Ended.result _ _ c.args.self.now c.hear-in-Ended.new.self c.hear-in-Ended.ensures

pub returns-in-Ended-clause-acts : goal.returns-in-Ended-clause-acts
returns-in-Ended-clause-acts c = hears_end c.hear-in-Ended.result c.args.event _ c.args.self.now c.hear-in-Ended.new.self c.args.sending.now c.in-Ended.is c.hear-in-Ended.ensures
