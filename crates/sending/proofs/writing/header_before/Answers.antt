-- `sending::writing::header_before` meets its contract. Assumes nothing.
use native.Mathlib.Omega.{arith}
use mathlib.Core.Path.{refl}
use Rattle.sending.proofs.WriteLaws.{header-one, header-two, header-three, header-put}
use Rattle.sending.proofs.writing.header_before.Goals as goal

pub returns-then-len-lt128 : goal.returns-then-len-lt128
returns-then-len-lt128 c = let a = c.args in header-put a.out.now a.p 2 a.tag a.len (header-one a.tag a.len (omega arith)) refl (omega arith) c.copy_in.ensures

pub returns-then-len-lt256 : goal.returns-then-len-lt256
returns-then-len-lt256 c =
    let a = c.args in
    header-put a.out.now a.p 3 a.tag a.len (header-two a.tag a.len (omega arith) (omega arith)) refl (omega arith) c.copy_in-then-len-lt256.ensures

pub returns : goal.returns
returns c =
    let a = c.args in
    header-put a.out.now a.p 4 a.tag a.len (header-three a.tag a.len (omega arith) (omega arith)) refl (omega arith) c.copy_in-2.ensures
