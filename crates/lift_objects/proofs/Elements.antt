-- Parts of elements of arrays.
use Rattle.std.proofs.Common.{◌≡◌, ℕ, ◌/◌, ◌%◌, ◌==◌, Bool, false, if◌then◌else◌, sym, ap, ◌∙◌}
use Rattle.cx_core.specs.Trees.{CTy}
use Rattle.lift_exprs.specs.Names.{Names, type_in}
use Rattle.lift_exprs.specs.Objects.{part_by_bytes, element_place, part_of_element, part_place}
use Rattle.rs_text.specs.Tree.{Ty, Place}

-- the part where the element has this size
abbrev part_by : Names → CTy → Place → ℕ → Ty → ℕ → Place
part_by names element p byte part size =
    if size == 0 then part_by_bytes byte p part else part_place names element (element_place (byte / size) p (type_in names element)) (byte % size) part

pub element_part : (names : Names) (element : CTy) (p : Place) (byte : ℕ) (part : Ty) (size : ℕ) (one : Ty) (there : Place) → size ≡ names.size_of element → (size == 0) ≡ false →
    one ≡ type_in names element → there ≡ element_place (byte / size) p one →
    part_place names element there (byte % size) part ≡ part_of_element names element p byte part
element_part names element p byte part size one there is some one_is there_is =
    ap (λ at. part_place names element at (byte % size) part) (there_is ∙ ap (λ t. element_place (byte / size) p t) one_is)
    ∙ (sym (ap (λ t. if t then part_by_bytes byte p part else part_place names element (element_place (byte / size) p (type_in names element)) (byte % size) part) some)
    ∙ ap (part_by names element p byte part) is)
