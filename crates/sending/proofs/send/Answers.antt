-- `sending::send` meets its contract. Assumes nothing.
use native.Mathlib.Omega.{arith}
use mathlib.Core.Path.{refl, ap, ◌∙◌}
use Rattle.octets.specs.Parts.{patch}
use Rattle.sending.proofs.SendLaws.{sent-community, sent-whole, measured-is, measured-over, parts_are, parts-fit, long-enough}
use Rattle.sending.proofs.send.Goals as goal

pub returns-then-community-gt-MOST_OCTETS : goal.returns-then-community-gt-MOST_OCTETS
returns-then-community-gt-MOST_OCTETS c =
    let a = c.args in
    (omega arith, sent-community a.room.now a.community.now _ _ _ _ (omega arith))

pub returns-then-n-gt-MOST_OCTETS : goal.returns-then-n-gt-MOST_OCTETS
returns-then-n-gt-MOST_OCTETS c =
    let a = c.args in
    let w = c.requires in
    let n = c.bindings_size-size.ensures.0 in
    let r = c.response_front-r.ensures.0 in
    let f = c.datagram_front-f.ensures.0 in
    (omega arith, measured-over a.community.now _ _ _ _ n r refl f a.room.now (omega arith))

pub put_datagram-requires : goal.put_datagram-requires
put_datagram-requires c =
    let a = c.args in
    let w = c.requires in
    let n = c.bindings_size-size.ensures.0 in
    let r = c.response_front-r.ensures.0 in
    let f = c.datagram_front-f.ensures.0 in
    (w.0, parts-fit a.community.now _ _ _ _ n r refl f a.room.now (long-enough 28) (long-enough 11) (omega arith) w.1)

pub returns : goal.returns
returns c =
    let a = c.args in
    let w = c.requires in
    let n = c.bindings_size-size.ensures.0 in
    let r = c.response_front-r.ensures.0 in
    let f = c.datagram_front-f.ensures.0 in (
      omega arith,
      sent-whole a.room.now _ (measured-is a.community.now _ _ _ _ n r refl f) (omega arith)
          (c.put_datagram.ensures ∙ ap (patch a.room.now 0) (parts_are a.community.now _ _ _ _ n r refl f (long-enough 28) (long-enough 11))),
    )
