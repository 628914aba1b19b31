-- What the reading of requests hands over is answered (`HandedOverIsAnswered` of specs/Datagrams). Assumes nothing.
use Prim.Native.Nat.{ℕ, ◌≤◌}
use mathlib.Core.Path.{◌≡◌, refl}
use mathlib.Core.Bool.{false}
use mathlib.Core.List.{List}
use native.Mathlib.Omega.{arith}
use borrow.Author.Tests.{le-ltb}
use lib.Dec.{eqb}
use lib.ListN.{length, take, length-take}
use Rattle.message.specs.declared.request.Binding.{Binding}
use Rattle.message.specs.Request.{message}
use Rattle.message.specs.Answer.{most_octets}
use Rattle.message.proofs.FormLaws.{cond_cases}
use Rattle.datagram.specs.Reading.{from_datagram}
use Rattle.datagram.proofs.ReadableLaws.{hands-over-readable}
use Rattle.answer.specs.Respond.{Outcome, respond, answer_of}
use Rattle.refbridge.specs.Datagrams.{HandedOverIsAnswered}

responded : (s block room : List ℕ) (kind id status index : ℕ) (bs : List Binding) → (respond s block room (message kind id status index bs)).number ≡ 0
unfolding respond
responded s block room kind id status index bs =
    cond_cases (λ (o : Outcome). o.number ≡ 0) (eqb kind 0) (λ t. refl) (λ t. cond_cases (λ (o : Outcome). o.number ≡ 0) (eqb kind 1) (λ u. refl) (λ u. refl))

pub handed-over-is-answered : HandedOverIsAnswered
unfolding answer_of
handed-over-is-answered room s block answer o h l g =
    let r = hands-over-readable false room s o h in
    let m : List ℕ = take (from_datagram false room s).count (from_datagram false room s).room in
    let n : length m ≤ most_octets = omega (arith, length-take (from_datagram false room s).count (from_datagram false room s).room, r.5) in
    rw (le-ltb (length answer) most_octets l, le-ltb most_octets (length m) n, g, r.6) (responded m block answer r.0 r.1 r.2 r.3 r.4)
