-- `datagram::placing::name_size` meets its contract. Assumes nothing.
use native.Mathlib.Omega.{arith}
use mathlib.Core.Path.{◌≡◌}
use lib.ListN.{length}
use Rattle.ber.specs.Ber.{sub_ids}
use Rattle.datagram.proofs.PlaceLaws.{name-count}
use Rattle.datagram.proofs.placing.name_size.Goals as goal

pub unwrap-requires : goal.unwrap-requires
unwrap-requires c = rw (c.sub_ids.ensures, (name-count c.args.name.now c.requires.2).0)

pub overflow_mul-result : goal.overflow_mul-result
overflow_mul-result c =
    let f = name-count c.args.name.now c.requires.2 in
    let k : c.unwrap.result ≡ length (sub_ids c.args.name.now) = cc (f.0) in
    omega (arith, f.1)

pub returns : goal.returns
returns c =
    let f = name-count c.args.name.now c.requires.2 in
    let k : c.unwrap.result ≡ length (sub_ids c.args.name.now) = cc (f.0) in
    omega arith
