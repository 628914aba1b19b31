-- `refbridge::answer_legal` meets its contract: the request is judged, and refused or answered. Assumes nothing.
use mathlib.Core.Path.{◌≡◌, sym}
use native.Mathlib.Omega.{arith}
use lib.ListN.{length}
use borrow.Author.Rules.{rules}
use Rattle.message.proofs.ReadLaws.{Held, held}
use Rattle.refbridge.proofs.CallLaws.{refused-answer, refused-within, read_as}
use Rattle.refbridge.proofs.answer_legal.Goals as goal

pub slice_bounds-bindings-end : goal.slice_bounds-bindings-end
slice_bounds-bindings-end c =
    let t : Held c.args.request.now c.in-Ok.opened c.bindings_in-bindings.result = held _ c.in-Ok.ensures c.bindings_in-bindings.ensures in
    let n : length c.bindings_in-bindings.result ≡ 16 = search rules in
    omega (arith, t.few)

pub slice_bounds-read-end : goal.slice_bounds-read-end
slice_bounds-read-end c =
    let t : Held c.args.request.now c.in-Ok.opened c.bindings_in-bindings.result = held _ c.in-Ok.ensures c.bindings_in-bindings.ensures in
    sym t.counted

pub answer_read-requires : goal.answer_read-requires
answer_read-requires c =
    let t : Held c.args.request.now c.in-Ok.opened c.bindings_in-bindings.result = held _ c.in-Ok.ensures c.bindings_in-bindings.ensures in
    (c.requires.0, c.requires.1, read_as _ t c.requires.2)

pub overflow_cast-result : goal.overflow_cast-result
overflow_cast-result c = omega (arith, c.requires.2, refused-within c.args.request.now c.in-Err.ensures)

pub returns-in-Err : goal.returns-in-Err
returns-in-Err c = rw c.from.ensures (refused-answer c.args.request.now c.args.block.now c.args.room.now c.in-Err.ensures)
