-- The devices of E12, and which objects each has. Assumes nothing.
use Rattle.std.specs.Prelude.{ℕ, Bool, true, cond, ◌||◌, eqb, Option, Some, None}
use Rattle.names.specs.declared.table.ObjectType.{ObjectType}

-- "a device, 1 or 2 (the proved cases of 01 are of device 1)"
abbrev pub transparent : ℕ
transparent = 1

abbrev pub source_routing : ℕ
source_routing = 2

abbrev pub is_device : ℕ → Bool
is_device d = eqb d transparent || eqb d source_routing

-- "device 2 has the objects under 1 .. and these, and no others": these stand under 3, and every other first sub-id is of device 1; those under 1 are of
-- no one device
abbrev pub device_under : ℕ → Option ℕ
device_under x = cond (eqb x 1) None (cond (eqb x 3) (Some source_routing) (Some transparent))

-- what is of one device is of no other
abbrev pub is_of : ℕ → Option ℕ → Bool
is_of d None = true
is_of d (Some only) = eqb only d

-- a device has an object
abbrev pub has : ℕ → ObjectType → Bool
has d o = is_of d o.device

-- Type: "= 2" (paper 01, "The objects"), and on device 2 "with Type 3" (E12)
abbrev pub type_of : ℕ → ℕ
type_of d = cond (eqb d source_routing) 3 2
