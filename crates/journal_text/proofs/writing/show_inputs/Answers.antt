use Rattle.std.proofs.Common.{◌≡◌, ◌+◌, ◌∷◌, ◌++◌, drop, sym, ◌∙◌, ap, subst, arith}
use Rattle.std.specs.List.{AllByRecursion, flat_map}
use Rattle.std.proofs.lemmas.List.{drop_more}
use Rattle.tcf_text.proofs.Growth.{grows_on}
use Rattle.journal_text.specs.Inputs.{InputIsRead}
use Rattle.journal_text.specs.Written.{IsInputBack, input_text, input_words}
use Rattle.journal_text.proofs.Growing.{line_more}
use Rattle.journal_text.proofs.writing.show_inputs.Goals as goal

pub loop-input-preserved : goal.loop-input-preserved
loop-input-preserved c =
    let l = c.loop-input in
    let xs = c.args.inputs.now in
    let x = c.input-item.result in
    let rest = drop (l.input-index + 1) xs in
    let here : drop l.input-index xs ≡ x ∷ rest = drop_more xs l.input-index x (omega arith) ∙ ap (λ y. y ∷ rest) (sym c.input-item.is) in
    let one = c.in_ok-show_input.ensures.shown in
    let two = c.in_ok-push.ensures.ok in
    record {
      text = line_more _ l.out _ _ (input_words x) (flat_map input_text rest) (l.invariant.text ∙ ap (λ ys. l.out ++ flat_map input_text ys) here) one two;
      grows = grows_on _ _ _ _ (grows_on _ _ _ _ l.invariant.grows one) two;
      read = (subst (AllByRecursion InputIsRead) here l.invariant.read).1;
      back = λ rest. l.invariant.back (subst (AllByRecursion IsInputBack) (sym here) (c.in_ok-show_input.ensures.reads_back, rest));
    }
