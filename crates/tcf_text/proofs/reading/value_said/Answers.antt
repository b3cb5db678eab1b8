use Rattle.std.proofs.Common.{◌≡◌, true, false, ◌∙◌, ap, sym}
use Rattle.std.specs.Prelude.{Some, bytes_eq}
use Rattle.std.specs.List.{list_all}
use Rattle.line_words.specs.Words.{is_word, words_of}
use Rattle.tcf_text.specs.Reading.{none_value}
use Rattle.tcf_text.proofs.Values.{value_by}
use Rattle.tcf_text.proofs.reading.value_said.Goals as goal

pub returns-then-not-are_words : goal.returns-then-not-are_words
unfolding none_value
returns-then-not-are_words c =
    let other : bytes_eq c.in-Some.text.now none_value ≡ false = cc in
    let none : list_all is_word (words_of c.in-Some.text.now) ≡ false = cc in
    sym (value_by _ c.in-Some.text.now false c.in-Some.ensures other none)

pub returns : goal.returns
unfolding none_value
returns c =
    let other : bytes_eq c.in-Some.text.now none_value ≡ false = cc in
    let all : list_all is_word (words_of c.in-Some.text.now) ≡ true = cc in
    ap (λ v. Some (Some v)) c.in_ok-value.ensures ∙ sym (value_by _ c.in-Some.text.now true c.in-Some.ensures other all)
