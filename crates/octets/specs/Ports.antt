-- Port sets (paper 01, "Ports": the first octet is ports 1 to 8, highest bit lowest port). A set of up to w ports is a number below 2 ^ w, and
-- port p is its digit of weight 2 ^ (w - p); the bridge has w = 64. Assumes nothing.
use Rattle.std.specs.Prelude.{ℕ, zero, suc, ◌+◌, ◌-◌, ◌/◌, ◌%◌, ◌^◌, Bool, cond, ◌&&◌, List, eqb, leb, take}
use Rattle.std.specs.Bool.{beq}
use Rattle.std.specs.Int.Bits.{bit_and}
use Rattle.octets.specs.Numbers.{be_at, be_octets}

-- whether port p, counted from 1, is in the set s
unfoldable pub member : ℕ → ℕ → ℕ → Bool
member w s p = (leb 1 p && leb p w) && eqb (s / 2 ^ (w - p) % 2) 1

-- all ports 1 to n
unfoldable pub ports_to : ℕ → ℕ → ℕ
ports_to w n = 2 ^ w - 2 ^ (w - n)

-- "only ports 1..N": no port above n is in the set s
unfoldable pub only_to : ℕ → ℕ → ℕ → Bool
only_to w n s = eqb (s % 2 ^ (w - n)) 0

-- no port is in both sets
unfoldable pub disjoint : ℕ → ℕ → Bool
disjoint a b = eqb (bit_and a b) 0

-- how many of the ports 1 to p are in the set s
unfoldable pub members_to : ℕ → ℕ → ℕ → ℕ
members_to w s zero = 0
members_to w s (suc p) = members_to w s p + cond (member w s (suc p)) 1 0

-- how many ports are in the set s
abbrev pub members : ℕ → ℕ → ℕ
members w s = members_to w s w

-- the least port from p on, of n ports, that is in one of the two sets only; 0 where there is none
unfoldable pub differs_from : ℕ → ℕ → ℕ → ℕ → ℕ → ℕ
differs_from w a b p zero = 0
differs_from w a b p (suc n) = cond (beq (member w a p) (member w b p)) (differs_from w a b (suc p) n) p

-- the first port that is in one of the two sets only; 0 where they are equal
abbrev pub first_differing : ℕ → ℕ → ℕ → ℕ
first_differing w a b = differs_from w a b 1 w

-- "Written: 0 to 8 octets, missing ones zero": the set of 64 ports that these octets write (`be_at` takes an octet past the end as 0)
unfoldable pub set_of : List ℕ → ℕ
set_of xs = be_at xs 0 8

-- "Read: (N+7)/8 octets": the octets of the set s of a bridge with n ports
unfoldable pub port_octets : ℕ → ℕ → List ℕ
port_octets n s = take ((n + 7) / 8) (be_octets 8 s)
