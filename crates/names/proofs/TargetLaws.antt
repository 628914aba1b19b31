-- What a name leads to, as the code finds it, and what a target says of its name. Assumes nothing.
use mathlib.Core.Path.{◌≡◌, refl, sym, ap, subst, ◌∙◌}
use mathlib.Core.Bool.{Bool, true, false, cond}
use mathlib.Core.Option.{Option, none, some}
use mathlib.Core.List.{List, ◌++◌}
use Prim.Native.Nat.{ℕ, ◌+◌, ◌-◌, ◌*◌, ◌≤◌, ◌<◌}
use native.Mathlib.Omega.{arith}
use lib.ListN.{length, take, drop, length-append}
use lib.Seq.{drop_at}
use Rattle.names.specs.SubIds.{subids}
use Rattle.std.specs.Prelude.{Option as Answer, Ok, Err}
use Rattle.names.specs.Index.{can_have, index, key_in, answered}
use Rattle.names.specs.Devices.{has}
use Rattle.names.specs.Table.{object_count, object_at, type_name, place_of}
use Rattle.names.specs.Instances.{instance_name}
use Rattle.names.specs.Targets.{Target, instance, rest_of, target_at, target_under, on_model, target_in}
use Rattle.names.specs.declared.model.Model.{Model}
use Rattle.names.specs.declared.Shape.{Shape}
use Rattle.names.specs.declared.table.ObjectType.{ObjectType}
use Rattle.names.specs.declared.targets.NoInstance.TheVariants.{NoObject, NoIndex}
use Rattle.names.proofs.SubIdLaws.{subids-count, subids-drop}
use Rattle.names.proofs.OrderLaws.{prefix-append}
use Rattle.names.proofs.AnswerLaws.{told, told-answered}
use Rattle.names.proofs.IndexLaws.{key_in-index, key_in-back}
use Rattle.names.proofs.SideLaws.{rest-is}
use Rattle.names.proofs.TableLaws.{length-type_name, place_is, place-only, place_rest}

-- what the device says of the object o at place i decides
module _ (m : Model) (i : ℕ) (name : List ℕ) {o : ObjectType} {b : Bool} (f : o ≡ object_at i) (g : b ≡ has m.device o) where
  by-device : target_under m name (on_model m (some i)) ≡ target_under m name (cond b (some i) none)
  by-device = ap (λ (t : Bool). target_under m name (cond t (some i) none)) (sym (g ∙ ap (has m.device) f))

  -- the name of an object that the device has not leads nowhere
  pub target-foreign : b ≡ false → target_under m name (on_model m (some i)) ≡ Err NoObject
  target-foreign e = by-device ∙ ap (λ (t : Bool). target_under m name (cond t (some i) none)) e

  -- where the device has it, the rest of the name decides
  pub target-own : b ≡ true → target_under m name (on_model m (some i)) ≡ target_at i (key_in m (object_at i).shape (rest_of i name))
  target-own e = by-device ∙ ap (λ (t : Bool). target_under m name (cond t (some i) none)) e

-- what the key that the code finds in the octets s of a name says, where o is the object type at place i
pub target_found : (m : Model) (i : ℕ) (s : List ℕ) {o : ObjectType} {r : Answer ℕ} → o ≡ object_at i
    → r ≡ answered (key_in m o.shape (subids (take (length s - 4 * (7 + o.len)) (drop (4 * (7 + o.len)) s))))
    → target_at i (told r) ≡ target_at i (key_in m (object_at i).shape (rest_of i (subids s)))
target_found m i s {o} {r} f g =
    ap (λ (x : Answer ℕ). target_at i (told x)) g
    ∙ ap (target_at i) (told-answered (key_in m o.shape (subids (take (length s - 4 * (7 + o.len)) (drop (4 * (7 + o.len)) s)))))
    ∙ ap (λ l. target_at i (key_in m o.shape l)) (ap subids (rest-is s (4 * (7 + o.len))) ∙ subids-drop (7 + o.len) s)
    ∙ (λ j. target_at i (key_in m (f j).shape (drop (7 + (f j).len) (subids s))))

-- a name in octets has at least those of the object type that is found for it
pub place-fits : (s : List ℕ) (i : ℕ) → place_of (subids s) ≡ some i → 4 * (7 + (object_at i).len) ≤ length s
place-fits s i e =
    let l = simp length-append at (ap length (place_rest (subids s) i e)) in
    omega (arith, l, length-type_name i, subids-count s)

-- what a target says of the name that leads to it
abbrev pub Tells : Model → List ℕ → Target → Type 0
Tells m name (Err NoObject) = Unit
Tells m name (Err (NoIndex i)) = (i < object_count) × (has m.device (object_at i) ≡ true)
Tells m name (Ok t) =
    (t.place < object_count) × (name ≡ instance_name (object_at t.place) t.key)
    × (can_have m (object_at t.place).shape (index (object_at t.place).shape t.key) ≡ true) × (has m.device (object_at t.place) ≡ true)

tells : (m : Model) (name : List ℕ) → m.ports ≤ 64 → Tells m name (target_in m name)
tells m name few = go (place_of name) refl
  where
    by_key : (i : ℕ) → place_of name ≡ some i → has m.device (object_at i) ≡ true → (x : Option ℕ)
        → key_in m (object_at i).shape (rest_of i name) ≡ x → Tells m name (target_at i x)
    by_key i e h none q = ((place_is name i e).0, h)
    by_key i e h (some k) q =
        let r = key_in-back m (object_at i).shape (rest_of i name) k few q in (
          (place_is name i e).0,
          place_rest name i e ∙ ap (λ (l : List ℕ). type_name (object_at i) ++ l) r.0,
          subst (λ (l : List ℕ). can_have m (object_at i).shape l ≡ true) r.0 r.2,
          h,
        )

    by-device : (i : ℕ) → place_of name ≡ some i → (t : Bool) → has m.device (object_at i) ≡ t
        → Tells m name (target_under m name (cond t (some i) none))
    by-device i e true h = by_key i e h (key_in m (object_at i).shape (rest_of i name)) refl
    by-device i e false h = tt

    go : (p : Option ℕ) → place_of name ≡ p → Tells m name (target_under m name (on_model m p))
    go none e = tt
    go (some i) e = by-device i e (has m.device (object_at i)) refl

-- a place of the object table whose object the device has; and where it has a key, the name is that of the instance, which the bridge can have
pub target-tells : (m : Model) (name : List ℕ) → m.ports ≤ 64 → {t : Target} → t ≡ target_in m name → Tells m name t
target-tells m name few e = subst (Tells m name) (sym e) (tells m name few)

-- the name of an instance that the bridge can have leads to it
pub target-instance : (m : Model) (i k : ℕ) → i < object_count → can_have m (object_at i).shape (index (object_at i).shape k) ≡ true
    → has m.device (object_at i) ≡ true → target_in m (instance_name (object_at i) k) ≡ Ok (instance i k)
target-instance m i k l can own =
    let s : Shape = (object_at i).shape in
    let x : List ℕ = instance_name (object_at i) k in
    let rest : rest_of i x ≡ index s k = drop_at (type_name (object_at i)) (index s k) (7 + (object_at i).len) (length-type_name i) in
    ap (λ (p : Option ℕ). target_under m x (on_model m p)) (place-only x i l (prefix-append (type_name (object_at i)) (index s k)))
    ∙ ap (λ (b : Bool). target_under m x (cond b (some i) none)) own
    ∙ ap (λ (l : List ℕ). target_at i (key_in m s l)) rest ∙ ap (target_at i) (key_in-index m s k can)
