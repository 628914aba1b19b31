-- `verdict::faults::does_to` meets its contract: by what is asked. Assumes nothing.
use Rattle.verdict.proofs.faults.does_to.Goals as goal

pub returns-in-Makes : goal.returns-in-Makes
returns-in-Makes c = rw (c.makes_row.ensures, c.is_status_of.ensures, c.in-Makes.is)

pub returns-in-Removes : goal.returns-in-Removes
returns-in-Removes c = rw (c.removes_row.ensures, c.is_status_of-in-Removes.ensures, c.in-Removes.is)

pub returns-in-Fills : goal.returns-in-Fills
returns-in-Fills c = rw (c.is_attribute_of.ensures, c.in-Fills.is)
