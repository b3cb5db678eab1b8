use Rattle.std.proofs.Common.{◌≡◌, ℕ, ◌+◌, ◌/◌, ◌%◌, List, [], ◌∷◌, ◌++◌, sym, ap, ◌∙◌, append_assoc, arith}
use Rattle.std.specs.Fmt.{decimal}
use Rattle.std.proofs.lemmas.List.{append-nil}
use Rattle.std.proofs.lemmas.Fmt.{decimal_digit, decimal_step}
use Rattle.std.proofs.lemmas.Result.{on_ok_weaker, on_err_weaker}
use Rattle.tcf_message.proofs.PutLaws.{at_err, put_nothing, put_front, put_then}
use Rattle.tcf_message.proofs.writing.+put_number.Goals as goal
use Rattle.tcf_message.proofs.writing.+put_number.Goals.{then-number-ge10+in_ok-put_number, else-number-ge10}

pub returns-in_err-put_number-clause-err : goal.returns-in_err-put_number-clause-err
returns-in_err-put_number-clause-err t c =
    let low = c.if-number-ge10.true in
    let last : List ℕ = (48 + c.args.number % 10) ∷ [] in
    at_err c.from_residual.result (put_front (decimal (c.args.number / 10)) last (decimal c.args.number) c.args.out.now c.put_number.new.out (decimal_step c.args.number low (omega arith)) c.in_err-put_number.ensures.err)

-- the digits that were put before the last one
front : (t : ℕ) (c : goal.After-push t) → (digits : List ℕ) × (c.if-number-ge10.out ≡ c.args.out.now ++ digits) × (decimal c.args.number ≡ digits ++ (48 + c.args.number % 10) ∷ [])
front t c =
    elim c.if-number-ge10.branch [
      | then-number-ge10+in_ok-put_number w ↦
          let low = w.if-number-ge10.true in
          (decimal (c.args.number / 10), w.out-is ∙ w.in_ok-put_number.ensures.ok, decimal_step c.args.number low (omega arith))
      | else-number-ge10 w ↦
          let small = w.if-number-ge10.false in
          let same : c.args.number ≡ c.args.number % 10 = omega arith in
          ([], w.out-is ∙ sym (append-nil c.args.out.now), decimal_digit c.args.number small ∙ ap (λ (n : ℕ). (48 + n) ∷ []) same)
    ]

pub returns-clause-ok : goal.returns-clause-ok
returns-clause-ok t c =
    let last : List ℕ = (48 + c.args.number % 10) ∷ [] in
    let f = front t c in
    on_ok_weaker c.push.result (λ e. e ∙ ap (λ (x : List ℕ). x ++ last) f.1 ∙ append_assoc c.args.out.now f.0 last ∙ ap (λ (x : List ℕ). c.args.out.now ++ x) (sym f.2)) c.push.ensures.ok

pub returns-clause-err : goal.returns-clause-err
returns-clause-err t c =
    let last : List ℕ = (48 + c.args.number % 10) ∷ [] in
    let f = front t c in
    on_err_weaker c.push.result (λ e. put_then f.0 last (decimal c.args.number) c.args.out.now c.if-number-ge10.out c.push.new.self f.2 f.1 (put_nothing last c.if-number-ge10.out c.push.new.self e)) c.push.ensures.err
