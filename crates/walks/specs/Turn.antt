-- One turn of the comparison, as the code holds it: what is found at a binding of each walk, and where each walk goes on. Assumes nothing.
use Rattle.std.specs.Prelude.{ℕ, List, [], Option, Some, None, Result, Ok, Err}
use Rattle.message.specs.Request.{binding_at}
use Rattle.message.specs.declared.form.Refusal.{Refusal}
use Rattle.message.specs.declared.request.Bound.{Bound}
use Rattle.names.specs.Order.{relation}
use Rattle.walks.specs.Walk.{Item, item, Walk}
use Rattle.walks.specs.Merge.{by_relation, contrast_of, twenty, both_octets}
use Rattle.walks.specs.declared.contrast.Contrast.{Contrast}
use Rattle.walks.specs.declared.turn.Found.{Found}
use Rattle.walks.specs.declared.turn.Found.TheVariants.{ReferenceOnly, DeviceOnly, Differing}
use Rattle.walks.specs.declared.turn.Turn.{Turn}

abbrev pub turned : Option Found → (next other : ℕ) → Turn
turned found next other = record { found = found; next = next; other = other }

-- what is found at bindings of one instance
abbrev pub differing : Option Contrast → (reference device : ℕ) → Option Found
differing None i j = None
differing (Some c) i j = Some (Differing c i j)

-- at two bindings, after which the walks go on at `next` and at `other`
unfoldable pub turn_of : Item → (next : ℕ) → Item → (other : ℕ) → Turn
turn_of x next y other =
    by_relation (relation x.name y.name)
    (turned (Some (ReferenceOnly x.at)) next y.at)
    (turned (differing (contrast_of x y) x.at y.at) next other)
    (turned (Some (DeviceOnly y.at)) x.at other)

-- without a binding there is no turn; in a walk that was read that is its end
abbrev pub bound_then : Result Bound Refusal → (Bound → Option Turn) → Option Turn
bound_then (Err r) go = None
bound_then (Ok b) go = go b

unfoldable pub turn_at : List ℕ → ℕ → List ℕ → ℕ → Option Turn
turn_at s i t j =
    bound_then (binding_at 3 s i)
    (λ a. bound_then (binding_at 3 t j)
    (λ b. Some (turn_of (item s i a.binding) a.next (item t j b.binding) b.next)))

-- the octets that a turn adds to the list
abbrev pub found_octets : Option Found → List ℕ
found_octets None = []
found_octets (Some (ReferenceOnly i)) = twenty 1 0 0 0 i 0
found_octets (Some (DeviceOnly j)) = twenty 2 0 0 0 0 j
found_octets (Some (Differing c i j)) = both_octets c i j

-- the items of a walk that was read
abbrev pub items : Walk → List Item
items (Err r) = []
items (Ok xs) = xs
