-- The batches of specs/Example, computed. Assumes nothing.
use Prim.Native.Nat.{ℕ}
use mathlib.Core.Path.{◌≡◌, refl, sym, ap, subst, ◌∙◌}
use mathlib.Core.Bool.{true}
use mathlib.Core.List.{List, [], ◌∷◌, ◌++◌}
use lib.Dec.{lit≤}
use lib.ListN.{length, replicate}
use Rattle.octets.specs.Numbers.{be_at, be_octets}
use Rattle.octets.specs.Parts.{zeros, zero_run, same}
use Rattle.names.specs.SubIds.{subids, name_octets}
use Rattle.names.specs.Order.{below, is_prefix}
use Rattle.names.specs.Index.{within, weight, digits, number, key_in, up_from}
use Rattle.names.specs.Table.{objects, place_under, place_of}
use Rattle.names.specs.Groups.{table_from, table_of}
use Rattle.octets.specs.Ports.{ports_to, only_to, disjoint, set_of as portSetOf, port_octets}
use Rattle.block.specs.Content.{Content, with_statics}
use Rattle.block.specs.Cells.{cells_in}
use Rattle.block.specs.Lookup.{lookup, active_vlans}
use Rattle.block.specs.Alter.{alter}
use Rattle.block.specs.Fresh.{times, fresh_column, fresh_columns, fresh_vlan, fresh}
use Rattle.block.specs.Image.{fit_to, image}
use Rattle.block.specs.Valid.{every, is_octet, port_set, static_ok, pair_ok, rows_ok, valid}
use Rattle.block.proofs.RoundLaws.{content_of-image, legal-image}
use Rattle.block.proofs.FreshLaws.{valid-fresh}
use Rattle.block.specs.declared.tables.Table.TheVariants.{Static as statics, Pair as pair}
use Rattle.block.proofs.KeepLaws.{valid-rows}
use Rattle.message.specs.Form.{field_at, tag_allowed, content_length, length_right, field_judged, checked_at}
use Rattle.message.specs.Request.{kind_allowed, status_allowed, status_of, id_of, head_of, content_role, content_in, binding_in, binding_at, binding_tag_at, seventeenth, bindings_from, read_message}
use Rattle.message.specs.Answer.{head_octets, binding_octets, bindings_octets, message_octets}
use Rattle.answer.specs.Values.{values}
use Rattle.answer.specs.Get.{elem, get}
use Rattle.answer.specs.Writes.{those, ordered, has, count, full, play, play_row}
use Rattle.answer.specs.Judge.{Asked, content_said, alone, among as named_before, judged_from, group_of}
use Rattle.answer.specs.Set.{gather, row_fault, first_fault, verdict, set_cells, apply, after}
use Rattle.answer.specs.Cases.{four_ports, under, of_vlan, of_static, egress, row_status, static_status, priority, get_of, set_of}
use Rattle.answer.proofs.EchoTheorem.{octets-every}
use Rattle.answer.proofs.Cases.{says, leaves, accepted as free, vlans_to, statics_to, filled, crowded, room}
use Rattle.answer.specs.Terms.{absent}
use Rattle.console.specs.Frames.{frame, arrived, sized, step, run}
use Rattle.console.specs.Batch.{most_frames, led, frames_of}
use Rattle.batch.specs.Names.{groups_of, among, common, keys_at, all_named}
use Rattle.batch.specs.declared.RbBatch.{RbBatch}
use Rattle.batch.specs.Check.{accepted, refused_with, offending, short_of, read_set, each_read, first_with, first_pair, is_short, frames_judged, check_batch}
use Rattle.batch.specs.Theorems.{framed, Accepted}
use Rattle.batch.specs.Order.{Call, Plays, SameInAll}
use Rattle.batch.specs.Example.{three, max_age, hello_time, ten_again, Batches, routing, pair_number, pairs_of_one, nearly_full, makes_pair, removes_pair, PairBatches}
use Rattle.batch.proofs.CheckLaws.{accepts-exactly}
use Rattle.batch.proofs.AcceptLaws.{any_order}

-- on the image of a valid content the check goes by the content
on-image : (c : Content) (batch : List ℕ) → valid c ≡ true → check_batch (image c) batch ≡ frames_judged c (frames_of most_frames batch)
unfolding check_batch
on-image c batch v = rw (legal-image c v) (ap (λ (d : Content). frames_judged d (frames_of most_frames batch)) (content_of-image c v))

-- the content matters by its model and its rows' keys alone, which are known
abbrev judged_on : List ℕ → List ℕ → RbBatch
judged_on a batch = frames_judged (fresh four_ports a) (frames_of most_frames batch)

computed : (a : List ℕ)
    → (judged_on a [] ≡ accepted)
    × (judged_on a (framed three) ≡ accepted)
    × (judged_on a (framed (set_of [] ∷ max_age ∷ set_of (priority 0 0x10 0 ∷ []) ∷ hello_time ∷ [])) ≡ offending 2 4)
    × (judged_on a (framed (three ++ (ten_again ∷ max_age ∷ hello_time ∷ []))) ≡ offending 1 4)
    × (judged_on a (framed (set_of (egress 10 (0x80 ∷ []) ∷ egress 10 (0x80 ∷ []) ∷ []) ∷ [])) ≡ accepted)
    × (judged_on a (framed (set_of [] ∷ get_of (1 ∷ 2 ∷ []) ∷ []) ++ (0 ∷ [])) ≡ record { number = 7; message = 2; offset = 0; first = 0; second = 0; table = 0 })
    × (judged_on a (framed (max_age ∷ hello_time ∷ []) ++ (0 ∷ [])) ≡ refused_with 21)
    × (judged_on a (framed (max_age ∷ []) ++ (0x7F ∷ 0 ∷ 2 ∷ 0 ∷ [])) ≡ refused_with 21)
    × (judged_on a (framed (max_age ∷ []) ++ (0x7F ∷ 0 ∷ 2 ∷ 5 ∷ 0xC1 ∷ [])) ≡ refused_with 22)
    × (judged_on a (framed (replicate most_frames (set_of []))) ≡ accepted)
    × (judged_on a (framed (replicate most_frames (set_of [])) ++ (0 ∷ [])) ≡ refused_with 23)
    × (frames_of most_frames (framed three) ≡ (three, 0))
    × (every is_octet (framed three) ≡ true)
unfolding every be_at be_octets same subids name_octets below is_prefix within weight number key_in objects place_under place_of lookup fresh field_at tag_allowed content_length length_right field_judged checked_at
    kind_allowed status_allowed status_of id_of head_of content_role content_in binding_in binding_at binding_tag_at seventeenth bindings_from read_message head_octets binding_octets bindings_octets message_octets
    elem table_from table_of group_of absent frame arrived sized step run led frames_of groups_of among common keys_at all_named read_set each_read first_with first_pair is_short
computed a = (refl, refl, refl, refl, refl, refl, refl, refl, refl, refl, refl, refl, refl)

pub batches : (a : List ℕ) → length a ≡ 6 → every is_octet a ≡ true → Batches a
batches a l o =
    let v : valid (fresh four_ports a) ≡ true = valid-fresh four_ports a refl l o in
    let c = computed a in
    let takes : check_batch (image (fresh four_ports a)) (framed three) ≡ accepted = on-image (fresh four_ports a) (framed three) v ∙ c.1 in
    record {
      empty = on-image (fresh four_ports a) [] v ∙ c.0;
      takes = takes;
      orders = λ xs ys p q. in_all (fresh four_ports a) ((accepts-exactly (image (fresh four_ports a)) (framed three)).0 takes) c.11 c.12 xs ys p q;
      timers = on-image (fresh four_ports a) (framed (set_of [] ∷ max_age ∷ set_of (priority 0 0x10 0 ∷ []) ∷ hello_time ∷ [])) v ∙ c.2;
      row = on-image (fresh four_ports a) (framed (three ++ (ten_again ∷ max_age ∷ hello_time ∷ []))) v ∙ c.3;
      twice = on-image (fresh four_ports a) (framed (set_of (egress 10 (0x80 ∷ []) ∷ egress 10 (0x80 ∷ []) ∷ []) ∷ [])) v ∙ c.4;
      no_set = on-image (fresh four_ports a) (framed (set_of [] ∷ get_of (1 ∷ 2 ∷ []) ∷ []) ++ (0 ∷ [])) v ∙ c.5;
      wrong_frame = on-image (fresh four_ports a) (framed (max_age ∷ hello_time ∷ []) ++ (0 ∷ [])) v ∙ c.6;
      cut_frame = on-image (fresh four_ports a) (framed (max_age ∷ []) ++ (0x7F ∷ 0 ∷ 2 ∷ 0 ∷ [])) v ∙ c.7;
      long_frame = on-image (fresh four_ports a) (framed (max_age ∷ []) ++ (0x7F ∷ 0 ∷ 2 ∷ 5 ∷ 0xC1 ∷ [])) v ∙ c.8;
      frames_at_most = on-image (fresh four_ports a) (framed (replicate most_frames (set_of []))) v ∙ c.9;
      octet_more = on-image (fresh four_ports a) (framed (replicate most_frames (set_of [])) ++ (0 ∷ [])) v ∙ c.10;
    }
  where
    in_all : (c : Content) (w : Accepted (image c) (framed three)) → frames_of most_frames (framed three) ≡ (three, 0) → every is_octet (framed three) ≡ true
        → (xs ys : List Call) → Plays three xs → Plays three ys → SameInAll (image c) xs ys
    in_all c w e u xs ys p q =
        let m : three ≡ w.messages = ap (λ (f : List (List ℕ) × ℕ). f.0) (sym e ∙ w.framed) in
        any_order (image c) (framed three) (octets-every (framed three) u) w xs ys (subst (λ (ms : List (List ℕ)). Plays ms xs) m p) (subst (λ (ms : List (List ℕ)). Plays ms ys) m q)

-- batches of a source-routing bridge with 63 pairs
abbrev judged_pairs : List ℕ → List ℕ → RbBatch
judged_pairs a batch = frames_judged (nearly_full a) (frames_of most_frames batch)

pairs-computed : (a : List ℕ)
    → (judged_pairs a (framed (makes_pair 2 3 ∷ makes_pair 2 4 ∷ set_of (pair_number 2 3 6 ∷ []) ∷ [])) ≡ offending 1 3)
    × (judged_pairs a (framed (makes_pair 3 2 ∷ makes_pair 3 2 ∷ [])) ≡ accepted)
    × (judged_pairs a (framed (makes_pair 2 3 ∷ removes_pair ∷ [])) ≡ accepted)
    × (judged_pairs a (framed (makes_pair 2 3 ∷ removes_pair ∷ makes_pair 2 4 ∷ [])) ≡ short_of 3)
    × (judged_pairs a (framed (three ++ three)) ≡ accepted)
unfolding be_at be_octets same subids name_octets below is_prefix within weight number key_in objects place_under place_of lookup fresh field_at tag_allowed content_length length_right field_judged checked_at
    kind_allowed status_allowed status_of id_of head_of content_role content_in binding_in binding_at binding_tag_at seventeenth bindings_from read_message head_octets binding_octets bindings_octets message_octets
    elem table_from table_of group_of absent frame arrived sized step run led frames_of groups_of among common keys_at all_named read_set each_read first_with first_pair is_short pairs_of_one
pairs-computed a = (refl, refl, refl, refl, refl)

pub pair-batches : (a : List ℕ) → length a ≡ 6 → every is_octet a ≡ true → PairBatches a
unfolding fresh pairs_of_one within weight digits number rows_ok pair_ok
pair-batches a l o =
    let v : valid (nearly_full a) ≡ true = valid-rows (fresh routing a) (valid-fresh routing a refl l o) pair (pairs_of_one 2 63) refl (lit≤ tt) in
    let c = pairs-computed a in
    record {
      row = on-image (nearly_full a) (framed (makes_pair 2 3 ∷ makes_pair 2 4 ∷ set_of (pair_number 2 3 6 ∷ []) ∷ [])) v ∙ c.0;
      no_row = on-image (nearly_full a) (framed (makes_pair 3 2 ∷ makes_pair 3 2 ∷ [])) v ∙ c.1;
      takes = on-image (nearly_full a) (framed (makes_pair 2 3 ∷ removes_pair ∷ [])) v ∙ c.2;
      table = on-image (nearly_full a) (framed (makes_pair 2 3 ∷ removes_pair ∷ makes_pair 2 4 ∷ [])) v ∙ c.3;
      others = on-image (nearly_full a) (framed (three ++ three)) v ∙ c.4;
    }

-- the three messages by their bindings, played in the orders 1, 2, 3 and 3, 1, 2 on the content of a fresh bridge: each is accepted at each of its turns, and
-- both orders leave one content, in which a get gives what the three wrote
abbrev ten : List Asked
ten = egress 10 (0xA0 ∷ []) ∷ row_status 10 4 ∷ []

abbrev static : List Asked
static = static_status 3 ∷ []

abbrev bridge : List Asked
bridge = priority 0 0x10 0 ∷ []

abbrev at_end : List ℕ → Content
at_end a = leaves (leaves (leaves (fresh four_ports a) ten) static) bridge

pub record Worked (a : List ℕ) : Type 0 where
  pub in_order : (says (fresh four_ports a) ten ≡ free) × (says (leaves (fresh four_ports a) ten) static ≡ free) × (says (leaves (leaves (fresh four_ports a) ten) static) bridge ≡ free)
  pub last-first : (says (fresh four_ports a) bridge ≡ free) × (says (leaves (fresh four_ports a) bridge) ten ≡ free) × (says (leaves (leaves (fresh four_ports a) bridge) ten) static ≡ free)
  pub one-content : leaves (leaves (leaves (fresh four_ports a) bridge) ten) static ≡ at_end a
  pub holds : (get (at_end a) (under (of_vlan 2 10)) ≡ (0x22, 0xA0 ∷ []))
      × (get (at_end a) (under (of_vlan 5 10)) ≡ (0x21, 0 ∷ 0 ∷ 0 ∷ 1 ∷ []))
      × (get (at_end a) (under (of_static 4)) ≡ (0x21, 0 ∷ 0 ∷ 0 ∷ 3 ∷ []))
      × (get (at_end a) (under (2 ∷ 2 ∷ 0 ∷ [])) ≡ (0x21, 0 ∷ 0 ∷ 0x10 ∷ 0 ∷ []))

pub worked : (a : List ℕ) → Worked a
unfolding fresh fresh_columns fresh_column times fresh_vlan zeros ports_to only_to disjoint portSetOf port_octets be_at be_octets objects place_under place_of is_prefix below
    within weight digits number key_in up_from values elem get same lookup active_vlans alter fit_to cells_in content_said table_from
    table_of alone named_before judged_from those ordered has count full play play_row gather row_fault first_fault verdict set_cells apply after
worked a = record { in_order = (refl, refl, refl); last-first = (refl, refl, refl); one-content = refl; holds = (refl, refl, refl, refl) }

-- a set that names an absent VLAN, one that removes a VLAN that is there, and one that names an absent static row
abbrev makes300 : List ℕ
makes300 = set_of (row_status 300 4 ∷ [])

abbrev removes7 : List ℕ
removes7 = set_of (row_status 7 6 ∷ [])

abbrev makes_static : List ℕ
makes_static = set_of (static_status 3 ∷ [])

-- both tables full
abbrev packed : List ℕ → Content
packed a = with_statics (crowded a) (statics_to 256 [])

-- full tables: room that another message gives back does not count; VLAN before static; a pair before both
pub record Short (a : List ℕ) : Type 0 where
  pub vlans : check_batch (image (crowded a)) (framed (makes300 ∷ removes7 ∷ [])) ≡ short_of 1
  pub other-table : check_batch (image (crowded a)) (framed (removes7 ∷ makes_static ∷ [])) ≡ accepted
  pub statics : check_batch (image (filled a)) (framed (makes300 ∷ makes_static ∷ [])) ≡ short_of 2
  pub both : check_batch (image (packed a)) (framed (makes_static ∷ makes300 ∷ [])) ≡ short_of 1
  pub pair : check_batch (image (packed a)) (framed (makes_static ∷ makes300 ∷ makes_static ∷ [])) ≡ offending 1 3

short-computed : (a : List ℕ)
    → (frames_judged (crowded a) (frames_of most_frames (framed (makes300 ∷ removes7 ∷ []))) ≡ short_of 1)
    × (frames_judged (crowded a) (frames_of most_frames (framed (removes7 ∷ makes_static ∷ []))) ≡ accepted)
    × (frames_judged (filled a) (frames_of most_frames (framed (makes300 ∷ makes_static ∷ []))) ≡ short_of 2)
    × (frames_judged (packed a) (frames_of most_frames (framed (makes_static ∷ makes300 ∷ []))) ≡ short_of 1)
    × (frames_judged (packed a) (frames_of most_frames (framed (makes_static ∷ makes300 ∷ makes_static ∷ []))) ≡ offending 1 3)
unfolding be_at be_octets same subids name_octets below is_prefix within weight number key_in objects place_under place_of lookup fresh field_at tag_allowed content_length length_right field_judged checked_at
    kind_allowed status_allowed status_of id_of head_of content_role content_in binding_in binding_at binding_tag_at seventeenth bindings_from read_message head_octets binding_octets bindings_octets message_octets
    elem table_from table_of group_of absent frame arrived sized step run led frames_of groups_of among common keys_at all_named read_set each_read first_with first_pair is_short vlans_to statics_to
short-computed a = (refl, refl, refl, refl, refl)

pub short : (a : List ℕ) → length a ≡ 6 → every is_octet a ≡ true → Short a
unfolding fresh statics_to zeros ports_to only_to disjoint within weight digits number rows_ok static_ok port_set zero_run every
short a l o =
    let r = room a l o in
    let v : valid (packed a) ≡ true = valid-rows (crowded a) r.many.1 statics (statics_to 256 []) refl (lit≤ tt) in
    let c = short-computed a in
    record {
      vlans = on-image (crowded a) (framed (makes300 ∷ removes7 ∷ [])) r.many.1 ∙ c.0;
      other-table = on-image (crowded a) (framed (removes7 ∷ makes_static ∷ [])) r.many.1 ∙ c.1;
      statics = on-image (filled a) (framed (makes300 ∷ makes_static ∷ [])) r.statics.1 ∙ c.2;
      both = on-image (packed a) (framed (makes_static ∷ makes300 ∷ [])) v ∙ c.3;
      pair = on-image (packed a) (framed (makes_static ∷ makes300 ∷ makes_static ∷ [])) v ∙ c.4;
    }
