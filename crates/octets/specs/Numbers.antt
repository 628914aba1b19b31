-- Numbers in a list of octets, most significant octet first (paper 01, "Message form": all numbers are so). Assumes nothing.
use Rattle.std.specs.Prelude.{ℕ, zero, suc, ◌+◌, ◌*◌, ◌/◌, ◌%◌, List, [], ◌∷◌, ◌++◌, get_or}

-- the number that the w octets of b from index p make; an octet past the end counts as 0
unfoldable pub be_at : List ℕ → ℕ → ℕ → ℕ
be_at b p zero = 0
be_at b p (suc w) = be_at b p w * 256 + get_or b (p + w) 0

-- the w octets of v; what does not fit into w octets is left out
unfoldable pub be_octets : ℕ → ℕ → List ℕ
be_octets zero v = []
be_octets (suc w) v = be_octets w (v / 256) ++ (v % 256 ∷ [])
