-- What `rb_compare_walks` returns (request E11), as an outcome of `crates/walks/specs/Compare.antt`. Assumes nothing.
use Rattle.std.specs.Prelude.{ℕ, List}
use Rattle.walks.specs.Compare.{CompareOutcome}
use Rattle.refbridge.specs.declared.comparison.RbWalks.{RbWalks}

-- the result and the list afterwards
abbrev pub returned : RbWalks → List ℕ → CompareOutcome
returned r list =
    record {
      number = r.number;
      side = r.side;
      offset = r.offset;
      tail_at = r.tail_at;
      tail_len = r.tail_len;
      reference_only = r.reference_only;
      switch_only = r.switch_only;
      differing = r.differing;
      list = list;
    }
