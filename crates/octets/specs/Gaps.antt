-- A gap in a list of octets, opened and closed. Assumes nothing.
use Rattle.std.specs.Prelude.{ℕ, ◌+◌, List, ◌++◌, take, drop}
use Rattle.std.proofs.Math.Seq.{slice}
use Rattle.octets.specs.Parts.{zeros}

-- w zeros put in before [from, to), which moves up over the w octets behind it
unfoldable pub opened : List ℕ → ℕ → ℕ → ℕ → List ℕ
opened b from to w = take from b ++ zeros w ++ (slice from to b ++ drop (to + w) b)

-- the w octets at from taken out of [from, to), and w zeros put in at its end
unfoldable pub closed : List ℕ → ℕ → ℕ → ℕ → List ℕ
closed b from to w = take from b ++ slice (from + w) to b ++ (zeros w ++ drop to b)
