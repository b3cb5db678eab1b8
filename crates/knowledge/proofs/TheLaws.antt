-- The laws of what is known, as terms.
use Rattle.knowledge.specs.Laws.{BlocksAreLearned, BlocksStaySame, FactsStaySame, IsMonotone, OthersStayUnanswered, RangesStaySame, ReadIsKnown, RepliesStaySame}
use Rattle.knowledge.proofs.Blocks as blocks
use Rattle.knowledge.proofs.Monotone.{monotone}
use Rattle.knowledge.proofs.Same as same
use Rattle.knowledge.proofs.SameReplies.{others_unanswered, same_ranges, same_replies}

pub learning_is_monotone : IsMonotone
learning_is_monotone = monotone

pub read_is_known : ReadIsKnown
read_is_known = blocks.read_is_known

pub blocks_are_learned : BlocksAreLearned
blocks_are_learned = blocks.learned_blocks

pub facts_stay_same : FactsStaySame
facts_stay_same = same.facts_stay_same

pub blocks_stay_same : BlocksStaySame
blocks_stay_same = same.blocks_stay_same

pub replies_stay_same : RepliesStaySame
replies_stay_same = same_replies

pub ranges_stay_same : RangesStaySame
ranges_stay_same = same_ranges

pub others_stay_unanswered : OthersStayUnanswered
others_stay_unanswered = others_unanswered
