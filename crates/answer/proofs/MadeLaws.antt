-- A row that an accepted set makes has in each column that no binding names what the paper says (`made` of `SetSays` in specs/Theorems). Assumes nothing.
use Prim.Native.Nat.{ℕ, ◌<◌}
use native.Mathlib.Omega.{arith}
use mathlib.Core.Path.{◌≡◌, refl, sym, ap, subst, ◌∙◌}
use mathlib.Core.Bool.{Bool, true, false, not, true≢false, false≢true, and-false}
use mathlib.Core.Option.{Option, none, some, map, none-ne-some, some-injective}
use mathlib.Core.List.{List, [], ◌∷◌}
use lib.ListN.{length}
use Rattle.octets.proofs.BoolLaws.{by_bool}
use lib.Dec.{eqb}
use borrow.Author.Tests.{eq-eqb, ne_eqb}
use Rattle.octets.proofs.NumberLaws.{Octets}
use Rattle.names.specs.Index.{can_have, index}
use Rattle.names.specs.Table.{object_at}
use Rattle.names.specs.Places.{pair_bridge_num}
use Rattle.names.specs.Instances.{instance_name}
use Rattle.octets.specs.Ascending.{All}
use Rattle.names.specs.declared.model.Model.{Model}
use Rattle.block.specs.Content.{Content, model_of}
use Rattle.block.specs.Lookup.{keys_of, lookup}
use Rattle.block.specs.Valid.{valid, test_of}
use Rattle.block.proofs.ValidParts.{valid-parts}
use Rattle.block.proofs.KeepLaws.{rows_ok-lookup}
use Rattle.answer.specs.Get.{elem, get}
use Rattle.answer.specs.Writes.{status, attribute, is_status, on_status, present, those, ordered, has, play_row}
use Rattle.block.specs.Tables.{Row, rows_of, shape_of, has_table}
use Rattle.block.specs.declared.tables.Table.{Table}
use Rattle.block.specs.declared.tables.Table.TheVariants.{Vlan as vlan, Static as static, Pair as pair}
use Rattle.answer.specs.Tables.{create, state, destroy, name, egress, forbidden, untagged, keep, drop, allowed, paired, unpaired, bridge_number, Status, Attribute, ColumnOf, column_place, made_vlan, status_step, attribute_step, step, makes}
use Rattle.answer.specs.Judge.{Asked, Judged, judged}
use Rattle.answer.specs.Set.{writes_to, row_fault, is_full, fault, verdict, apply, after}
use Rattle.answer.specs.Theorems.{start_value, column_name}
use Rattle.answer.proofs.RoomLaws.{elem-not-head, elem-not-tail}
use Rattle.answer.proofs.JudgeLaws.{judged-single, judged-unnamed}
use Rattle.answer.proofs.WriteLaws.{has-find, play-row, row-keeps-quiet}
use Rattle.answer.proofs.ContentOrder.{rows-apply}
use Rattle.answer.proofs.KeepValid.{each_row, each-ordered, valid-rising, after-valid}
use Rattle.answer.proofs.RespondLaws.{faulted-keeps, accepted-applies, accepted-clean}
use Rattle.answer.proofs.OnlyWriteLaws.{attribute-started}
use Rattle.answer.proofs.StoredLaws.{shows, held, row-got, attribute-quiet}

-- the row that a change of the status column makes shows what a made row starts with
starts : (m : Model) (t : Table) (k : ℕ) (f : Attribute t) (x : Status t) (r : Row t) → status_step m t k x none ≡ some r
    → shows m t (attribute f) r ≡ start_value m t k (column_place t (attribute f))
starts m vlan k f (create s) r e = subst (λ r. shows m vlan (attribute f) r ≡ start_value m vlan k (column_place vlan (attribute f))) (some-injective (made_vlan m k s) r e) (go f)
  where
    go : (f : Attribute vlan) → shows m vlan (attribute f) (made_vlan m k s) ≡ start_value m vlan k (column_place vlan (attribute f))
    go (name xs) = refl
    go (egress s) = refl
    go (forbidden s) = refl
    go (untagged s) = refl
starts m vlan k f (state s) r e = absurd (none-ne-some r e)
starts m vlan k f destroy r e = absurd (none-ne-some r e)
starts m static k (allowed s) (keep x) r e = ap (shows m static (attribute (allowed s))) (sym (some-injective _ r e))
starts m static k f drop r e = absurd (none-ne-some r e)
starts m pair k (bridge_number x) (paired s) r e = ap (shows m pair (attribute (bridge_number x))) (sym (some-injective _ r e))
starts m pair k f unpaired r e = absurd (none-ne-some r e)

-- a row of a valid content has an index that the bridge can have, and its table is one that the device has
can-row : (t : Table) (c : Content) (k : ℕ) → valid c ≡ true → present (lookup k (rows_of t c)) ≡ true → can_have (model_of c) (shape_of t) (index (shape_of t) k) ≡ true
can-row t c k ok p = go (lookup k (rows_of t c)) refl p
  where
    go : (o : Option (Row t)) → lookup k (rows_of t c) ≡ o → present o ≡ true → can_have (model_of c) (shape_of t) (index (shape_of t) k) ≡ true
    go none e q = absurd (false≢true q)
    go (some r) e q = (rows_ok-lookup (model_of c) (shape_of t) (test_of t (model_of c)) 0 (rows_of t c) k r ((valid-parts c ok).rows_in t) e).0

some-row : {R : Type 0} (k : ℕ) (es : List (ℕ × R)) → present (lookup k es) ≡ true → 0 < length es
unfolding lookup
some-row k [] p = absurd (false≢true p)
some-row k (e ∷ es) p = omega arith

has-row : (t : Table) (c : Content) (k : ℕ) → valid c ≡ true → present (lookup k (rows_of t c)) ≡ true → has_table c.device t ≡ true
has-row t c k ok p =
    by_bool (has_table c.device t) (λ q. q)
    (λ q. absurd (omega (arith, some-row k (rows_of t c) p, rw q at ((valid-parts c ok).few t))))

absent_none : {R : Type 0} (o : Option R) → present o ≡ false → o ≡ none
absent_none none e = refl
absent_none (some r) e = absurd (true≢false e)

-- the bridge number is the one column of a pair beside its state
unbound : (k : ℕ) (ws : List (ℕ × ColumnOf pair)) → elem k (keys_of (those (λ c. eqb (column_place pair c) pair_bridge_num) ws)) ≡ false
    → has (λ c. not (is_status c)) k ws ≡ false
unfolding those has
unbound k [] h = refl
unbound k ((j, status x) ∷ ws) h = rw (and-false (eqb k j)) (unbound k ws h)
unbound k ((j, attribute f) ∷ ws) h =
    let rest : List ℕ = keys_of (those (λ c. eqb (column_place pair c) pair_bridge_num) ws) in
    rw (ne_eqb k j (elem-not-head k j rest h)) (unbound k ws (elem-not-tail k j rest h))

-- a binding that makes an absent pair without it is at fault
lacks-number : (m : Model) (f : Bool) (ws : List (ℕ × ColumnOf pair)) (k : ℕ) (x : ColumnOf pair) → has (λ c. not (is_status c)) k ws ≡ false
    → on_status (makes pair) x ≡ true → row_fault m pair f ws k x none ≡ 0 → ⊥
unfolding row_fault
lacks-number m f ws k (status (paired s)) b q h = omega (arith, rw b at h)
lacks-number m f ws k (status unpaired) b q h = false≢true q
lacks-number m f ws k (attribute y) b q h = false≢true q

-- and without such a binding the pair stays absent
stays-absent : (m : Model) (k : ℕ) (x : ColumnOf pair) → on_status (makes pair) x ≡ false → (o : Option (Row pair)) → present o ≡ false → present (step m pair k x o) ≡ false
stays-absent m k (status (paired s)) q o h = absurd (true≢false q)
stays-absent m k (status unpaired) q o h = refl
stays-absent m k (attribute y) q none h = refl
stays-absent m k (attribute y) q (some r) h = h

-- so an accepted set names the bridge number of each pair that it makes
pub made-numbered : (c : Content) (bs : List Asked) → valid c ≡ true → (k : ℕ) → present (lookup k c.pairs) ≡ false
    → present (lookup k (after c (judged (model_of c) bs)).pairs) ≡ true → All (λ b. b.name ≡ instance_name (object_at pair_bridge_num) k → ⊥) bs → ⊥
made-numbered c bs ok k was now un =
    let n : Model = model_of c in
    let m : List Judged = judged (model_of c) bs in
    let ws : List (ℕ × ColumnOf pair) = writes_to pair m in
    let us : List (ℕ × ColumnOf pair) = ordered is_status ws in
    let o : Option (Row pair) = lookup k c.pairs in
    by_bool (eqb (verdict c m).status 0)
    (λ e.
    let there : present (play_row (step n pair) k us o) ≡ true =
    sym (ap (λ (d : Content). present (lookup k d.pairs)) (accepted-applies c m e) ∙ ap (λ (es : List (ℕ × Row pair)). present (lookup k es)) (rows-apply pair c m)
    ∙ ap present (play-row (step n pair) k c.pairs us (valid-rising c ok pair))) ∙ now in
    by_bool (has (on_status (makes pair)) k us)
    (λ q. has-find (on_status (makes pair)) k (λ j x. row_fault n pair (is_full pair c m) ws j x (lookup j c.pairs) ≡ 0) ⊥
    (λ x p h. lacks-number n (is_full pair c m) ws k x (unbound k ws (judged-unnamed (model_of c) (valid-parts c ok).few_ports pair pair_bridge_num k bs un)) p
    (rw (absent_none o was) at h))
    us q (each-ordered (λ j x. row_fault n pair (is_full pair c m) ws j x (lookup j c.pairs) ≡ 0) is_status ws
    (each_row (λ b. fault c m b ≡ 0) pair (λ j x. row_fault n pair (is_full pair c m) ws j x (lookup j c.pairs) ≡ 0) (λ g j x h. h) m (accepted-clean c m e))))
    (λ q. true≢false (sym there ∙ row-keeps-quiet (step n pair) (λ z. present z ≡ false) (on_status (makes pair)) (stays-absent n) k us o q was)))
    (λ e. true≢false (sym now ∙ ap (λ (d : Content). present (lookup k d.pairs)) (faulted-keeps c m e) ∙ was))

pub made-start : (c : Content) (bs : List Asked) → valid c ≡ true → All (λ b. Octets b.content) bs → (verdict c (judged (model_of c) bs)).status ≡ 0
    → (t : Table) (k : ℕ) (f : Attribute t) → present (lookup k (rows_of t c)) ≡ false → present (lookup k (rows_of t (after c (judged (model_of c) bs)))) ≡ true
    → All (λ b. b.name ≡ column_name t k f → ⊥) bs
    → get (after c (judged (model_of c) bs)) (column_name t k f) ≡ start_value (model_of c) t k (column_place t (attribute f))
unfolding apply
made-start c bs ok o e t k f was now un =
    let n : Model = model_of c in
    let m : List Judged = judged (model_of c) bs in
    let few = (valid-parts c ok).few_ports in
    let ws : List (ℕ × ColumnOf t) = writes_to t m in
    let applied : after c m ≡ apply c m = accepted-applies c m (eq-eqb (verdict c m).status 0 e) in
    let there : present (lookup k (rows_of t (apply c m))) ≡ true = rw applied at now in
    let fine : valid (apply c m) ≡ true = subst (λ (d : Content). valid d ≡ true) applied (after-valid c bs ok o) in
    let row : lookup k (rows_of t (apply c m)) ≡ play_row (step n t) k (ordered is_status ws) none =
    ap (lookup k) (rows-apply t c m) ∙ play-row (step n t) k (rows_of t c) (ordered is_status ws) (valid-rising c ok t)
    ∙ ap (play_row (step n t) k (ordered is_status ws)) (absent_none (lookup k (rows_of t c)) was) in
    rw applied
    (row-got t (apply c m) k (attribute f) (can-row t (apply c m) k fine there) (has-row t (apply c m) k fine there)
    ∙ ap (λ (x : Option (Row t)). held (map (shows n t (attribute f)) x)) row
    ∙ ap held (attribute-started (status_step n t) (attribute_step t) k ws (shows n t (attribute f)) (start_value n t k (column_place t (attribute f))) (starts n t k f)
    (λ y. eqb (column_place t y) (column_place t (attribute f))) (attribute-quiet n t f) (judged-unnamed (model_of c) few t (column_place t (attribute f)) k bs un) (judged-single (model_of c) few bs t)
    (sym (ap present row) ∙ there)))
