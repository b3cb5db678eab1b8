use Rattle.tcf_schedules.proofs.Places.{place_found, place_past}
use Rattle.tcf_schedules.proofs.place.up_to.Goals as goal

pub returns-then-number-most : goal.returns-then-number-most
returns-then-number-most c = place_found 0 4294967295 c.args.most c.args.digits.now c.in_ok-number.field-0 c.in_ok-number.ensures.value c.if-number-most.true

pub returns-else-number-most : goal.returns-else-number-most
returns-else-number-most c = place_past 0 4294967295 c.args.most c.args.digits.now c.in_ok-number.field-0 c.in_ok-number.ensures.value c.if-number-most.false
