use Rattle.tcf_app.proofs.Running.{ran_ends, bad_line_ends, unread_script_ends}
use Rattle.tcf_app.proofs.client.do_script.Goals as goal

pub returns-in-Ok-clause-ends : goal.returns-in-Ok-clause-ends
returns-in-Ok-clause-ends g c =
    ran_ends _ c.in-Ok.script c.args.address.now c.args.turns c.run_client-ran.result _ _ _ _ _
    c.in-Ok.ensures.ok (rw c.as_slice.ensures at c.run_client-ran.ensures.runs) c.run_client-ran.ensures.once c.report_run.ensures.ends

pub returns-in-Err-Bad-clause-ends : goal.returns-in-Err-Bad-clause-ends
returns-in-Err-Bad-clause-ends g c =
    bad_line_ends _ (record { line = c.in-Err-Bad.line; what = c.in-Err-Bad.what }) _ _ _ _ _ _ (rw c.in-Err-Bad.field-0-is at c.in-Err-Bad.ensures.bad) c.refuse_line.ensures.ends

pub returns-in-Err-NoMemory-clause-ends : goal.returns-in-Err-NoMemory-clause-ends
returns-in-Err-NoMemory-clause-ends g c = unread_script_ends _ _ _ _ _
