-- What the messages of a batch name (paper 02, E10: "no two name a common row or scalar (timers as in E6)"). Assumes nothing.
use Rattle.std.specs.Prelude.{ℕ, Bool, false, ◌||◌, ◌&&◌, List, [], ◌∷◌, ◌++◌, map, eqb}
use Rattle.std.proofs.Math.Option.{Option, none, some}
use Rattle.names.specs.declared.model.Model.{Model}
use Rattle.answer.specs.Judge.{Asked, group_of}
use Rattle.answer.specs.Terms.{onto, asked_of}

-- a row or scalar: the place of its table's first object, and its key
abbrev pub Group : Type 0
Group = ℕ × ℕ

-- what the bindings of a message name on a model, one by one; a binding at fault names its row or scalar too
unfoldable pub groups_of : Model → (message : List ℕ) → List (Option Group)
groups_of d m = map (λ (b : Asked). group_of d b.name) (asked_of m)

-- one row or scalar
abbrev pub same_group : Option Group → Option Group → Bool
same_group none h = false
same_group (some g) none = false
same_group (some g) (some h) = eqb g.0 h.0 && eqb g.1 h.1

-- it is among what is named
unfoldable pub among : Option Group → List (Option Group) → Bool
among g [] = false
among g (h ∷ hs) = same_group g h || among g hs

-- two messages "name a common row or scalar"
unfoldable pub common : List (Option Group) → List (Option Group) → Bool
common [] hs = false
common (g ∷ gs) hs = among g hs || common gs hs

-- the keys that are named in the table whose first object is at place t
unfoldable pub keys_at : (t : ℕ) → List (Option Group) → List ℕ
keys_at t [] = []
keys_at t (g ∷ gs) = onto t g (keys_at t gs)

-- what all the messages name
unfoldable pub all_named : List (List (Option Group)) → List (Option Group)
all_named [] = []
all_named (gs ∷ gss) = gs ++ all_named gss
