-- The members of a context.
use Rattle.std.proofs.Common.{◌≡◌, Option, Some, None, refl}
use Rattle.std.specs.Prelude.{codes}
use Rattle.serde_json.specs.Data.{Data, member, no_members}
use Rattle.json_values.specs.Members.{put_if, member_if}

-- a name and a parent go to their places
pub optional_members : (count resume : Data) (suspend terminate state container : Data) (id process : Data) (name parent : Option Data) →
    put_if (codes "ParentID") parent (put_if (codes "Name") name
    (member (codes "CanCount") count
    (member (codes "CanResume") resume
    (member (codes "CanSuspend") suspend
    (member (codes "CanTerminate") terminate
    (member (codes "HasState") state
    (member (codes "ID") id
    (member (codes "IsContainer") container
    (member (codes "ProcessID") process no_members)))))))))
    ≡ member (codes "CanCount") count
    (member (codes "CanResume") resume
    (member (codes "CanSuspend") suspend
    (member (codes "CanTerminate") terminate
    (member (codes "HasState") state
    (member (codes "ID") id
    (member (codes "IsContainer") container
    (member_if (codes "Name") name
    (member_if (codes "ParentID") parent
    (member (codes "ProcessID") process no_members)))))))))
optional_members count resume suspend terminate state container id process None None = refl
optional_members count resume suspend terminate state container id process None (Some parent) = refl
optional_members count resume suspend terminate state container id process (Some name) None = refl
optional_members count resume suspend terminate state container id process (Some name) (Some parent) = refl
