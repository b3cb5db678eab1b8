use Rattle.std.proofs.Common.{◌≡◌, false, arith}
use Rattle.line_words.specs.Words.{is_word}
use Rattle.line_words.proofs.Cuts.{bad_word}
use Rattle.line_words.proofs.are_words.Goals as goal

pub returns-then-not-is_word : goal.returns-then-not-is_word
returns-then-not-is_word c =
    let bad : is_word c.in-Some.word.now ≡ false = grind arith in
    bad_word c.args.text.now c.loop-word.rest.now c.in-Some.word.now c.in-Some.after.now c.loop-word.invariant c.in-Some.ensures.cut bad
