-- Instances that exist, and rows that always stand. Assumes nothing.
use Rattle.std.specs.Prelude.{◌≡◌, ◌<◌, Bool, true, false}
use Rattle.names.specs.Table.{object_count, object_at}
use Rattle.names.specs.declared.targets.Instance.{Instance}
use Rattle.names.specs.declared.Shape.{Shape}
use Rattle.names.specs.declared.Shape.TheVariants.{Scalar, Port, PortPriority, Vlan, Static, Pair}
use Rattle.block.specs.Content.{Content}
use Rattle.answer.specs.Values.{keys_on}
use Rattle.answer.specs.Get.{elem}

-- an instance of the object table that exists
abbrev pub IsThere : Content → Instance → Type 0
IsThere c x = (x.place < object_count) × (elem x.key (keys_on c (object_at x.place)) ≡ true)

-- rows that always stand
abbrev pub is_fixed : Shape → Bool
is_fixed Scalar = true
is_fixed Port = true
is_fixed PortPriority = true
is_fixed Vlan = false
is_fixed Static = false
is_fixed Pair = false
