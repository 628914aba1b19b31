-- The vectors of `specs/Theorems.antt`, computed. Assumes nothing.
use mathlib.Core.Path.{refl}
use Rattle.octets.specs.Numbers.{be_at, be_octets}
use Rattle.octets.specs.Parts.{patch, same}
use Rattle.octets.specs.Ports.{member, members_to, differs_from, set_of}
use Rattle.names.specs.Order.{below, is_prefix, relation}
use Rattle.names.specs.SubIds.{subids, name_octets}
use Rattle.names.specs.Table.{objects, place_under, place_of}
use Rattle.message.specs.Answer.{binding_octets}
use Rattle.message.specs.Form.{field_at, tag_allowed, content_length, length_right, field_judged, checked_at}
use Rattle.message.specs.Request.{content_role, content_in, binding_in, binding_at}
use Rattle.walks.specs.Walk.{walk_from, walk_of}
use Rattle.walks.specs.Contrast.{ports_column, port_sets, port_contrast, plain_contrast, contrast}
use Rattle.walks.specs.Merge.{merge_from, merge, entry_octets, list_octets, total}
use Rattle.walks.specs.Compare.{tailed, listed_in, compared}
use Rattle.walks.specs.Theorems.{Vectors}

pub vectors : Vectors
unfolding be_at be_octets patch same member members_to differs_from set_of below is_prefix subids name_octets objects place_under place_of binding_octets field_at tag_allowed content_length length_right field_judged checked_at content_role content_in binding_in binding_at relation walk_from walk_of ports_column port_sets port_contrast plain_contrast contrast merge_from merge entry_octets list_octets total tailed listed_in compared
vectors = record { same_ports = refl; other_ports = refl; one_sided = refl }
