use Rattle.stream_escape.proofs.Wholes.{feeds_only_memory, feeds_whole}
use Rattle.stream_escape.proofs.Feds.{is_given}
use Rattle.stream_escape.proofs.unescape.Unescape.feed.Goals as goal

pub returns-clause-appended : goal.returns-clause-appended
returns-clause-appended c isnt =
    (is_given c.args.self.now c.args.piece.now c.args.items.now.items c.take_piece.new.items.items c.take_piece.result c.take_piece.new.self c.take_piece.ensures.within isnt c.take_piece.ensures.feeds).appended

pub returns-clause-answer : goal.returns-clause-answer
returns-clause-answer c isnt =
    (is_given c.args.self.now c.args.piece.now c.args.items.now.items c.take_piece.new.items.items c.take_piece.result c.take_piece.new.self c.take_piece.ensures.within isnt c.take_piece.ensures.feeds).answer_is

pub returns-clause-after : goal.returns-clause-after
returns-clause-after c isnt =
    (is_given c.args.self.now c.args.piece.now c.args.items.now.items c.take_piece.new.items.items c.take_piece.result c.take_piece.new.self c.take_piece.ensures.within isnt c.take_piece.ensures.feeds).reader_is

pub returns-clause-reads : goal.returns-clause-reads
returns-clause-reads c before its all ending sound was reads =
    feeds_only_memory c.args.self.now c.take_piece.new.self c.args.piece.now before c.args.items.now.items c.take_piece.new.items.items its all c.take_piece.result ending c.take_piece.ensures.feeds sound was reads

pub returns-clause-whole : goal.returns-clause-whole
returns-clause-whole c m between within is =
    feeds_whole c.args.self.now c.take_piece.new.self c.args.piece.now m c.args.items.now.items c.take_piece.new.items.items c.take_piece.result c.take_piece.ensures.feeds between within is
