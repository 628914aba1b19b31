-- `walks::compare::unread_tail` meets its contract. Assumes nothing.
use Rattle.walks.proofs.compare.unread_tail.Goals as goal

pub slice_bounds-result-end : goal.slice_bounds-result-end
slice_bounds-result-end c = rw c.in-Reference.is at c.requires.within

pub returns-in-Reference : goal.returns-in-Reference
returns-in-Reference c = rw c.in-Reference.is

pub slice_bounds-result-end-in-Device : goal.slice_bounds-result-end-in-Device
slice_bounds-result-end-in-Device c = rw c.in-Device.is at c.requires.within

pub returns-in-Device : goal.returns-in-Device
returns-in-Device c = rw c.in-Device.is
