use Rattle.std.proofs.lemmas.Result.{on_ok_weaker}
use Rattle.tcf_text.proofs.Args.{args_step, args_end}
use Rattle.tcf_text.proofs.Growth.{grows_on}
use Rattle.tcf_text.proofs.show.show_args.Goals as goal

pub loop-part-preserved : goal.loop-part-preserved
loop-part-preserved c =
    record {
      text = args_step c.args.how _ _ _ _ _ _ c.loop-part.invariant.text c.in-Some.ensures.cut c.in_ok-show_word.ensures.shown;
      grows = grows_on _ _ _ _ c.loop-part.invariant.grows c.in_ok-show_word.ensures.shown;
    }

pub returns-clause-shown : goal.returns-clause-shown
returns-clause-shown c =
    on_ok_weaker c.show_rest.result (args_end c.args.how _ _ _ _ c.loop-part.invariant.text c.in_default.ensures.none) c.show_rest.ensures.shown
