-- The keys of a shape and the next instance as the code gives them. Assumes nothing.
use Rattle.std.specs.Prelude.{ℕ, ◌*◌, List, None, Some}
use Rattle.std.specs.Prelude as code
use Rattle.std.proofs.Math.Option.{Option, none, some}
use Rattle.names.specs.Index.{up_from}
use Rattle.names.specs.declared.Shape.{Shape}
use Rattle.names.specs.declared.Shape.TheVariants as shape
use Rattle.names.specs.declared.targets.Instance.{Instance}
use Rattle.names.specs.Targets.{instance}
use Rattle.block.specs.Content.{Content}
use Rattle.block.specs.Lookup.{keys_of}
use Rattle.block.specs.Tables.{rows_of}
use Rattle.block.specs.declared.tables.Table.TheVariants.{Vlan, Static, Pair}
use Rattle.instances.specs.declared.Keys.{Keys}
use Rattle.instances.specs.declared.Keys.TheVariants.{Standing, Growing}

-- which keys a shape has on a bridge with n ports, and these keys
abbrev pub keys_for : Shape → (n : ℕ) → Keys
keys_for shape.Scalar n = Standing 0 1
keys_for shape.Port n = Standing 1 n
keys_for shape.PortPriority n = Standing 8 (8 * n)
keys_for shape.Vlan n = Growing Vlan
keys_for shape.Static n = Growing Static
keys_for shape.Pair n = Growing Pair

abbrev pub keys_at : Content → Keys → List ℕ
keys_at c (Standing a k) = up_from a k
keys_at c (Growing t) = keys_of (rows_of t c)

-- the place and the key of the next instance
abbrev pub next_of : Option (ℕ × ℕ) → code.Option Instance
next_of none = None
next_of (some p) = Some (instance p.0 p.1)
