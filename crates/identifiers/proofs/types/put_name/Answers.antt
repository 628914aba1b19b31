-- `identifiers::types::put_name` meets its contract: three patches, joined by a law. Assumes nothing.
use mathlib.Core.Path.{◌≡◌}
use native.Mathlib.Omega.{arith}
use lib.ListN.{length}
use Rattle.octets.specs.Parts.{patch}
use Rattle.names.proofs.InstanceLaws.{name-put}
use borrow.Author.Rules.{rules}
use Rattle.identifiers.proofs.types.put_name.Goals as goal

pub returns : goal.returns
unfolding patch
returns c =
    let a = c.args in
    let h : length a.o.prefix ≡ 6 = search rules in
    cc (name-put a.s.now a.at a.o a.key (omega arith) (omega arith))
