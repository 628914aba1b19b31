-- What the code's groups say of the names of a message. Assumes nothing.
use Prim.Native.Nat.{ℕ, zero, suc, ◌+◌, ◌≤◌, ◌<◌}
use native.Mathlib.Omega.{arith}
use native.Mathlib.Numerals.{add-one}
use mathlib.Core.Path.{◌≡◌, refl, sym, ap, ◌∙◌}
use mathlib.Core.Bool.{Bool, true, false, ◌||◌, false≢true}
use mathlib.Core.Option.{Option, none}
use mathlib.Core.List.{List, [], ◌∷◌, ◌++◌, map, map-append, append_assoc, append-nil}
use lib.Dec.{leb}
use lib.ListN.{length, take, drop, get_or, set, length-set, drop_of_length-le}
use lib.Seq.{drop-cons, take-suc-set}
use borrow.Author.Tests.{eqb-true, le-leb, lt-leb, leb-true}
use Rattle.names.specs.declared.model.Model.{Model}
use Rattle.octets.proofs.BoolLaws.{by_bool}
use Rattle.message.specs.declared.form.Refusal.{Refusal}
use Rattle.message.specs.declared.request.Head.{Head}
use Rattle.message.specs.declared.request.Binding.{Binding}
use Rattle.message.specs.declared.request.Bound.{Bound as Read}
use Rattle.message.specs.Request.{requests, head, read_to, head_of, binding_at, seventeenth, Bindings, ended, all, prepend, bindings_from, Reading, refused, message, read_message, read_request}
use Rattle.message.proofs.FormLaws.{clash}
use Rattle.answer.specs.Judge.{Asked, grouped, group_of}
use Rattle.names.specs.declared.targets.NoInstance.{NoInstance}
use Rattle.names.specs.declared.targets.NoInstance.TheVariants.{NoObject, NoIndex}
use Rattle.answer.specs.Terms.{asked_in, is_set}
use Rattle.answer.specs.Respond.{asked_at}
use Rattle.batch.specs.Names.{Group, groups_of, same_group, among, common}
use Rattle.batch.specs.Found.{meant, groups, group_at}
use Rattle.std.specs.Prelude.{Option as Maybe, None, Result, Ok, Err}
use Rattle.std.proofs.lemmas.List.{length-take}
use Rattle.batch.specs.declared.groups.NamedGroup.{NamedGroup}
use Rattle.batch.specs.declared.groups.NamedGroups.{NamedGroups}

-- the rows or scalars from a place on
module _ (xs : List (Maybe NamedGroup)) (j : ℕ) where
  pub meant-turn : j < length xs → map meant (drop j xs) ≡ meant (get_or xs j None) ∷ map meant (drop (j + 1) xs)
  meant-turn h = rw (add-one j) (ap (map meant) (drop-cons xs j None h))

  pub meant_end : length xs ≤ j → map meant (drop j xs) ≡ []
  meant_end h = ap (map meant) (drop_of_length-le xs {i = j} h)

  -- turns of the loops
  module _ (g : Option Group) {r : Bool} (h : j < length xs) (e : r ≡ same_group g (meant (get_or xs j None))) where
    among-so : (t : Bool) → r ≡ t → among g (map meant (drop j xs)) ≡ (t || among g (map meant (drop (j + 1) xs)))
    unfolding among
    among-so t told = ap (among g) (meant-turn h) ∙ ap (λ (u : Bool). u || among g (map meant (drop (j + 1) xs))) (sym e ∙ told)

    pub among-found : r ≡ true → among g (map meant (drop j xs)) ≡ true
    among-found told = among-so true told

    pub among_next : r ≡ false → among g (map meant (drop j xs)) ≡ among g (map meant (drop (j + 1) xs))
    among_next told = among-so false told

  pub among-end : (g : Option Group) → length xs ≤ j → among g (map meant (drop j xs)) ≡ false
  unfolding among
  among-end g h = ap (among g) (meant_end h)

  module _ (hs : List (Option Group)) {r : Bool} (h : j < length xs) (e : r ≡ among (meant (get_or xs j None)) hs) where
    common-so : (t : Bool) → r ≡ t → common (map meant (drop j xs)) hs ≡ (t || common (map meant (drop (j + 1) xs)) hs)
    unfolding common
    common-so t told =
        ap (λ (l : List (Option Group)). common l hs) (meant-turn h)
        ∙ ap (λ (u : Bool). u || common (map meant (drop (j + 1) xs)) hs) (sym e ∙ told)

    pub common-found : r ≡ true → common (map meant (drop j xs)) hs ≡ true
    common-found told = common-so true told

    pub common-next : r ≡ false → common (map meant (drop j xs)) hs ≡ common (map meant (drop (j + 1) xs)) hs
    common-next told = common-so false told

  pub common-end : (hs : List (Option Group)) → length xs ≤ j → common (map meant (drop j xs)) hs ≡ false
  unfolding common
  common-end hs h = ap (λ (l : List (Option Group)). common l hs) (meant_end h)

-- a name that leads to no instance
pub no-group : (r : NoInstance) → none ≡ grouped (Err r)
no-group NoObject = refl
no-group (NoIndex i) = refl

-- the groups of a message as a slice
pub named-is : (r : NamedGroups) {xs : List (Maybe NamedGroup)} {gs : List (Option Group)} → xs ≡ take r.count r.all → groups r ≡ gs → map meant xs ≡ gs
named-is r e f = ap (map meant) e ∙ f

pub named-few : (r : NamedGroups) {xs : List (Maybe NamedGroup)} → xs ≡ take r.count r.all → r.count ≤ 16 → length xs ≤ 16
named-few r e h = rw e (omega (arith, length-take r.count r.all))

-- a set's groups, by its bindings
pub record Bound (m : List ℕ) : Type 0 where
  pub bindings : List Binding
  pub reads : bindings_from 3 m 16 16 ≡ all bindings
  pub named : (d : Model) → groups_of d m ≡ map (group_at d m) bindings

pub set-bound : (m : List ℕ) → is_set (read_request m) ≡ true → Bound m
unfolding read_message groups_of
set-bound m e = by-head (head_of requests m) refl
  where
    each : (d : Model) (bs : List Binding) → map (λ (b : Asked). group_of d b.name) (map (asked_at m) bs) ≡ map (group_at d m) bs
    each d [] = refl
    each d (b ∷ bs) = ap (λ (l : List (Option Group)). group_at d m b ∷ l) (each d bs)

    by-bindings : (kind id status index : ℕ) → head_of requests m ≡ Ok (head kind id status index) → (x : Bindings) → bindings_from kind m 16 16 ≡ x → Bound m
    by-bindings kind id status index h (ended r) q =
        let z : read_request m ≡ refused r = rw (h, q) in
        absurd (false≢true (ap is_set (sym z) ∙ e))
    by-bindings kind id status index h (all bs) q =
        let z : read_request m ≡ message kind id status index bs = rw (h, q) in
        let k : kind ≡ 3 = eqb-true kind 3 (ap is_set (sym z) ∙ e) in
        record {
          bindings = bs;
          reads = ap (λ (j : ℕ). bindings_from j m 16 16) (sym k) ∙ q;
          named = λ d. ap (λ (x : Reading). map (λ (b : Asked). group_of d b.name) (asked_in m x)) z ∙ each d bs;
        }

    by-head : (h : Result Head Refusal) → head_of requests m ≡ h → Bound m
    by-head (Err r) q =
        let z : read_request m ≡ refused r = rw q in
        absurd (false≢true (ap is_set (sym z) ∙ e))
    by-head (Ok h) q = by-bindings h.kind h.id h.status h.index q (bindings_from h.kind m 16 16) refl

-- the first bindings are named, and the next one stands at `at`
pub record Sofar (d : Model) (m : List ℕ) (found : List (Maybe NamedGroup)) (count at : ℕ) : Type 0 where
  pub left : ℕ
  pub rest : List Binding
  pub long : length found ≡ 16
  pub room : count + left ≡ 16
  pub reads : bindings_from 3 m left at ≡ all rest
  pub named : map meant (take count found) ++ map (group_at d m) rest ≡ groups_of d m

pub sofar-none : (d : Model) (m : List ℕ) (found : List (Maybe NamedGroup)) → length found ≡ 16 → is_set (read_request m) ≡ true → Sofar d m found 0 16
sofar-none d m found l e =
    let q : Bound m = set-bound m e in
    record { left = 16; rest = q.bindings; long = l; room = refl; reads = q.reads; named = sym (q.named d) }

none_left : (m : List ℕ) (left at : ℕ) (bs : List Binding) → length m ≤ at → bindings_from 3 m left at ≡ all bs → bs ≡ []
unfolding bindings_from
none_left m zero at bs h e = let z : all [] ≡ all bs = sym (rw (le-leb (length m) at h) refl) ∙ e in cc
none_left m (suc left) at bs h e = let z : all [] ≡ all bs = sym (rw (le-leb (length m) at h) refl) ∙ e in cc

-- after sixteen bindings there are no more
none_after : (m : List ℕ) (at : ℕ) (bs : List Binding) → bindings_from 3 m 0 at ≡ all bs → length m ≤ at
unfolding bindings_from
none_after m at bs e =
    by_bool (leb (length m) at) (λ h. leb-true (length m) at h)
    (λ h. let z : ended (seventeenth m at) ≡ all bs = sym (rw h refl) ∙ e in clash (cc))

-- the next binding and those behind it
pub record Next (m : List ℕ) (left : ℕ) (rest : List Binding) (b : Binding) (next : ℕ) : Type 0 where
  pub later : ℕ
  pub fewer : left ≡ suc later
  pub behind : List Binding
  pub splits : rest ≡ b ∷ behind
  pub reads : bindings_from 3 m later next ≡ all behind

refused-not : (m : List ℕ) (left at : ℕ) (bs : List Binding) {r : Refusal} → at < length m → binding_at 3 m at ≡ Err r → bindings_from 3 m left at ≡ all bs → ⊥
unfolding bindings_from
refused-not m zero at bs h q e = let z : ended (seventeenth m at) ≡ all bs = sym (rw (lt-leb (length m) at h) refl) ∙ e in clash (cc)
refused-not m (suc left) at bs {r} h q e = let z : ended r ≡ all bs = sym (rw (lt-leb (length m) at h, q) refl) ∙ e in clash (cc)

one-next : (m : List ℕ) (left at : ℕ) (bs : List Binding) {b : Binding} {next : ℕ} → at < length m → binding_at 3 m at ≡ Ok (read_to b next) → bindings_from 3 m left at ≡ all bs
    → Next m left bs b next
unfolding bindings_from
one-next m zero at bs h q e = let z : ended (seventeenth m at) ≡ all bs = sym (rw (lt-leb (length m) at h) refl) ∙ e in clash (cc)
one-next m (suc left) at bs {b} {next} h q e =
    let z : prepend b (bindings_from 3 m left next) ≡ all bs = sym (rw (lt-leb (length m) at h, q) refl) ∙ e in
    go (bindings_from 3 m left next) refl z
  where
    go : (x : Bindings) → bindings_from 3 m left next ≡ x → prepend b x ≡ all bs → Next m (suc left) bs b next
    go (ended r) f g = clash (cc)
    go (all cs) f g = let z : b ∷ cs ≡ bs = cc in record { later = left; fewer = refl; behind = cs; splits = sym z; reads = f }

module _ {d : Model} {m : List ℕ} {found : List (Maybe NamedGroup)} {count at : ℕ} (w : Sofar d m found count at) where
  pub sofar-all : length m ≤ at → (map meant (take count found) ≡ groups_of d m) × (count ≤ 16) × (length found ≡ 16)
  sofar-all h =
      let z : w.rest ≡ [] = none_left m w.left at w.rest h w.reads in (
        sym (append-nil (map meant (take count found))) ∙ ap (λ (l : List Binding). map meant (take count found) ++ map (group_at d m) l) (sym z) ∙ w.named,
        omega (arith, w.room),
        w.long,
      )

  pub sofar-full : count ≡ 16 → (map meant (take 16 found) ≡ groups_of d m) × (length found ≡ 16)
  sofar-full h =
      let z : w.left ≡ 0 = omega (arith, w.room) in
      let a = sofar-all (none_after m at w.rest (rw z at w.reads)) in
      (ap (λ (k : ℕ). map meant (take k found)) (sym h) ∙ a.0, w.long)

  module _ (h : at < length m) {k : Result Read Refusal} (e : k ≡ binding_at 3 m at) where
    pub sofar-refused : {r : Refusal} → k ≡ Err r → ⊥
    sofar-refused q = refused-not m w.left at w.rest h (sym e ∙ q) w.reads

    module _ {b : Binding} {next : ℕ} (q : k ≡ Ok (read_to b next)) where
      after : Next m w.left w.rest b next
      after = one-next m w.left at w.rest h (sym e ∙ q) w.reads

      pub sofar-low : count < 16
      sofar-low = omega (arith, w.room, after.fewer)

      pub sofar-more : (t : Maybe NamedGroup) → meant t ≡ group_at d m b → Sofar d m (set found count t) (count + 1) next
      sofar-more t p =
          let low : count < length found = omega (arith, sofar-low, w.long) in
          record {
            left = after.later;
            rest = after.behind;
            long = length-set found count t ∙ w.long;
            room = omega (arith, w.room, after.fewer);
            reads = after.reads;
            named =
                rw (add-one count, take-suc-set found count t low)
                (ap (λ (l : List (Option Group)). l ++ map (group_at d m) after.behind) (map-append meant (take count found) (t ∷ []))
                ∙ append_assoc (map meant (take count found)) (meant t ∷ []) (map (group_at d m) after.behind)
                ∙ ap (λ (g : Option Group). map meant (take count found) ++ (g ∷ map (group_at d m) after.behind)) p
                ∙ ap (λ (l : List Binding). map meant (take count found) ++ map (group_at d m) l) (sym after.splits) ∙ w.named);
          }
