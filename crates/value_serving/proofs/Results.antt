-- What holds at one way out of a call holds at the same of its caller.
use Rattle.std.specs.Prelude.{Err, Ok, OnErr, OnOk, Result}

pub on_ok_same : {A E : Type 0} (result : Result A E) (P R : Type 0) → (P → R) → OnOk result P → OnOk result R
on_ok_same (Ok value) P R f p = f p
on_ok_same (Err error) P R f p = tt

pub on_ok_both : {A E : Type 0} (result : Result A E) (P Q R : Type 0) → (P → Q → R) → OnOk result P → OnOk result Q → OnOk result R
on_ok_both (Ok value) P Q R f p q = f p q
on_ok_both (Err error) P Q R f p q = tt

pub on_err_same : {A E : Type 0} (result : Result A E) (P R : Type 0) → (P → R) → OnErr result P → OnErr result R
on_err_same (Ok value) P R f p = tt
on_err_same (Err error) P R f p = f p
