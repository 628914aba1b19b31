-- What a name leads to: the object type of the device that is a prefix of it (E12), and the key that its rest stands for (paper 01, "The objects").
-- Assumes nothing.
use Rattle.std.specs.Prelude.{ℕ, ◌+◌, cond, List, drop, Result, Ok, Err}
use Rattle.std.proofs.Math.Option.{Option, none, some}
use Rattle.names.specs.Index.{key_in}
use Rattle.names.specs.Devices.{has}
use Rattle.names.specs.Table.{object_at, place_of}
use Rattle.names.specs.declared.model.Model.{Model}
use Rattle.names.specs.declared.targets.Instance.{Instance}
use Rattle.names.specs.declared.targets.NoInstance.{NoInstance}
use Rattle.names.specs.declared.targets.NoInstance.TheVariants.{NoObject, NoIndex}

-- what follows the name of the object at place i in a name
abbrev pub rest_of : ℕ → List ℕ → List ℕ
rest_of i name = drop (7 + (object_at i).len) name

-- what a name leads to, or why it leads to nothing
abbrev pub Target : Type 0
Target = Result Instance NoInstance

-- the instance of the object at place i that has the key k
abbrev pub instance : ℕ → ℕ → Instance
instance i k = record { place = i; key = k }

-- under the object at place i: the key of its rest, if that is "an index this bridge can have"
abbrev pub target_at : ℕ → Option ℕ → Target
target_at i none = Err (NoIndex i)
target_at i (some k) = Ok (instance i k)

-- by the object type that is a prefix of the name, if any
abbrev pub target_under : Model → List ℕ → Option ℕ → Target
target_under m name none = Err NoObject
target_under m name (some i) = target_at i (key_in m (object_at i).shape (rest_of i name))

-- a place whose object the model's device has; there an object that it has not is a prefix of no name
abbrev pub on_model : Model → Option ℕ → Option ℕ
on_model m none = none
on_model m (some i) = cond (has m.device (object_at i)) (some i) none

-- which object type of the model's device is a prefix of a name
abbrev pub place_in : Model → List ℕ → Option ℕ
place_in m name = on_model m (place_of name)

-- what a name leads to on a model
abbrev pub target_in : Model → List ℕ → Target
target_in m name = target_under m name (place_in m name)
