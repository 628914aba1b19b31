-- `batch::frames::groups_at` meets its contract. The message is lent as it stands. Assumes nothing.
use mathlib.Core.Path.{◌≡◌, sym, ap, subst, ◌∙◌}
use mathlib.Core.Bool.{true}
use native.Mathlib.Omega.{arith}
use Prim.Native.Nat.{ℕ, ◌+◌, ◌-◌}
use lib.ListN.{take, drop}
use Rattle.message.specs.Request.{read_request}
use Rattle.answer.specs.Terms.{is_set}
use Rattle.batch.specs.Names.{groups_of}
use Rattle.batch.proofs.frames.groups_at.Goals as goal

pub groups_in-requires : goal.groups_in-requires
groups_in-requires c =
    let a = c.args in
    let e : a.s.start + a.s.len - a.s.start ≡ a.s.len = omega arith in
    (c.requires.0, subst (λ (k : ℕ). is_set (read_request (take k (drop a.s.start a.batch.now))) ≡ true) (sym e) c.requires.2)

pub returns : goal.returns
returns c =
    let a = c.args in
    let e : a.s.start + a.s.len - a.s.start ≡ a.s.len = omega arith in
    (c.groups_in.ensures.0 ∙ ap (λ (k : ℕ). groups_of a.model (take k (drop a.s.start a.batch.now))) e, c.groups_in.ensures.1)
