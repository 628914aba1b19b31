-- `walks::turn::put_entry` meets its contract. Assumes nothing.
use native.Mathlib.Omega.{arith}
use Rattle.octets.proofs.PartLaws.{patch-none}
use Rattle.walks.proofs.CodeLaws.{found-size}
use Rattle.walks.proofs.turn.put_entry.Goals as goal

pub put_twenty-requires : goal.put_twenty-requires
put_twenty-requires c = omega (arith, found-size _ c.in-Some.is, c.requires)

pub put_twenty-requires-in-DeviceOnly : goal.put_twenty-requires-in-DeviceOnly
put_twenty-requires-in-DeviceOnly c = omega (arith, found-size _ c.in-Some.is, c.requires)

pub put_twenty-requires-in-Differing : goal.put_twenty-requires-in-Differing
put_twenty-requires-in-Differing c = omega (arith, found-size _ c.in-Some.is, c.requires)

pub returns-in_default : goal.returns-in_default
returns-in_default c = rw c.in_default.is (omega arith, patch-none c.args.list.now c.args.at)

pub returns-in-ReferenceOnly : goal.returns-in-ReferenceOnly
returns-in-ReferenceOnly c = let e = c.put_twenty.ensures in (omega (arith, e.0, found-size _ c.in-Some.is), rw (c.in-Some.is, c.in-ReferenceOnly.is) e.1)

pub returns-in-DeviceOnly : goal.returns-in-DeviceOnly
returns-in-DeviceOnly c = let e = c.put_twenty-in-DeviceOnly.ensures in (omega (arith, e.0, found-size _ c.in-Some.is), rw (c.in-Some.is, c.in-DeviceOnly.is) e.1)

pub returns-in-Differing : goal.returns-in-Differing
returns-in-Differing c = let e = c.put_twenty-in-Differing.ensures in (omega (arith, e.0, found-size _ c.in-Some.is), rw (c.in-Some.is, c.in-Differing.is) e.1)
