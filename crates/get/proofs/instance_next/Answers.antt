-- `get::instance_next` meets its contract: the next place is that of an instance, or none. Assumes nothing.
use Rattle.names.specs.SubIds.{subids}
use Rattle.names.specs.Instances.{next_place}
use Rattle.block.specs.Image.{content_of}
use Rattle.answer.specs.Values.{keys_on}
use Rattle.get.proofs.ReplyLaws.{next-is}
use Rattle.get.proofs.instance_next.Goals as goal

pub returns : goal.returns
returns c =
    let a = c.args in
    rw (c.ok_or.ensures.value, c.next_place.ensures) (next-is (next_place (keys_on (content_of a.block.now)) (subids a.name.now)))
