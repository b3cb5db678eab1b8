-- The data that the words of a command say.
use Rattle.std.proofs.Common.{◌≡◌, ℕ, List, ◌++◌, sym, ◌∙◌, ap, append_assoc}
use Rattle.std.proofs.lemmas.List.{append-nil}
use Rattle.tcf_values.specs.Cut.{Lacks, IsCut}
use Rattle.tcf_schedules.specs.Words.{words_of, part_text, data_of}
use Rattle.line_words.proofs.Cuts.{words_cut, words_last}

-- the part of one word was added
pub parts_step : (start body new rest word after : List ℕ) → start ≡ body ++ data_of (words_of rest) → IsCut 32 rest word after → new ≡ body ++ part_text word
    → start ≡ new ++ data_of (words_of after)
parts_step start body new rest word after so_far is adds =
    so_far ∙ (ap (λ ws. body ++ data_of ws) (words_cut rest word after is)
    ∙ (sym (append_assoc body (part_text word) (data_of (words_of after))) ∙ ap (λ t. t ++ data_of (words_of after)) (sym adds)))

-- the part of the last word was added
pub parts_end : (start body new rest : List ℕ) → start ≡ body ++ data_of (words_of rest) → Lacks 32 rest → new ≡ body ++ part_text rest → new ≡ start
parts_end start body new rest so_far lacks adds =
    adds ∙ (ap (λ t. body ++ t) (sym (append-nil (part_text rest))) ∙ (ap (λ ws. body ++ data_of ws) (sym (words_last rest lacks)) ∙ sym so_far))
