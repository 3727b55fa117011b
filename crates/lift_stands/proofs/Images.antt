-- What stands for what goes on doing so under more images.
use Rattle.std.proofs.Common.{◌≡◌, ℕ, zero, suc, true, ◌==◌, List, [], ◌∷◌, ◌++◌, length, Option, Some, slice_get, refl, sym, ap, ◌∙◌, subst}
use Rattle.std.proofs.lemmas.Bool.{and_parts, and_from, eqb-true, eq-eqb}
use Rattle.mem_bytes.specs.declared.cell.Cell.{Cell}
use Rattle.mem_bytes.specs.declared.cell.Cell.TheVariants.{Bits, PtrByte}
use Rattle.mem_bytes.specs.declared.value.Ptr.{Ptr}
use Rattle.mem_bytes.specs.declared.value.Value.{Value}
use Rattle.mem_bytes.specs.Coding.{is_same_pointer}
use Rattle.lift_stands.specs.Stands.{Images, image_of, with_image, Extends, PlaceBelow, ValueBelow, BitsBelow, CellBelow, CellsBelow}

-- ---- images

pub extends_same : (images : Images) → Extends images images
extends_same images = record { blocks = λ number image e. e; functions = refl; in_bytes = refl }

pub extends_more : (images later last : Images) → Extends images later → Extends later last → Extends images last
extends_more images later last first next = record {
  blocks = λ number image e. next.blocks number image (first.blocks number image e);
  functions = next.functions ∙ first.functions;
  in_bytes = next.in_bytes ∙ first.in_bytes;
}

entry_stays : (entries : List ℕ) (new number image : ℕ) → slice_get entries number ≡ Some image → slice_get (entries ++ new ∷ []) number ≡ Some image
entry_stays [] new number image e = cc
entry_stays (first ∷ others) new zero image e = e
entry_stays (first ∷ others) new (suc number) image e = entry_stays others new number image e

entry_next : (entries : List ℕ) (new : ℕ) → slice_get (entries ++ new ∷ []) (length entries) ≡ Some new
entry_next [] new = refl
entry_next (first ∷ others) new = entry_next others new

pub extends_one : (images : Images) (image : ℕ) → Extends images (with_image image images)
extends_one images image = record { blocks = entry_stays images.blocks image; functions = refl; in_bytes = refl }

pub next_image : (images : Images) (image : ℕ) → image_of (with_image image images) (length images.blocks) ≡ Some image
next_image images image = entry_next images.blocks image

-- ---- places, values and cells

pub place_stays : (images later : Images) (at to : Ptr) → Extends images later → PlaceBelow images at to → PlaceBelow later at to
place_stays images later at to more below = record { block = more.blocks at.block to.block below.block; offset = below.offset }

pub value_stays : (images later : Images) (one other : Value) → Extends images later → ValueBelow images one other → ValueBelow later one other
value_stays images later one other more (ValueBelow.same_number number) = ValueBelow.same_number number
value_stays images later one other more ValueBelow.both_null = ValueBelow.both_null
value_stays images later one other more (ValueBelow.to_image at to below) = ValueBelow.to_image at to (place_stays images later at to more below)
value_stays images later one other more (ValueBelow.to_function number image e) =
    ValueBelow.to_function number image (ap (λ f. f number) more.functions ∙ e)

pub cell_stays : (images later : Images) (cell other : Cell) → Extends images later → CellBelow images cell other → CellBelow later cell other
cell_stays images later (Bits number set) other more below = subst (λ b. BitsBelow b number set other) (sym more.in_bytes) below
cell_stays images later (PtrByte of index) (PtrByte to place) more below = (value_stays images later of to more below.0, below.1)
cell_stays images later (PtrByte of index) (Bits number set) more below = absurd below

pub cells_stay : (images later : Images) (list others : List Cell) → Extends images later → CellsBelow images list others → CellsBelow later list others
cells_stay images later [] [] more below = tt
cells_stay images later [] (other ∷ others) more below = absurd below
cells_stay images later (cell ∷ cells) [] more below = absurd below
cells_stay images later (cell ∷ cells) (other ∷ others) more below =
    (cell_stays images later cell other more below.0, cells_stay images later cells others more below.1)

-- ---- equal pointers

pub same_images : (entries : List ℕ) (first second one two : ℕ) → first ≡ second → slice_get entries first ≡ Some one → slice_get entries second ≡ Some two → one ≡ two
same_images entries first second one two same e f =
    let g : slice_get entries second ≡ Some one = subst (λ n. slice_get entries n ≡ Some one) same e in
    cc

same_functions : (functions : ℕ → Option ℕ) (first second one two : ℕ) → first ≡ second → functions first ≡ Some one → functions second ≡ Some two → one ≡ two
same_functions functions first second one two same e f =
    let g : functions second ≡ Some one = subst (λ n. functions n ≡ Some one) same e in
    cc

pub same_pointers : (images : Images) (first second one two : Value) → ValueBelow images first one → ValueBelow images second two → is_same_pointer first second ≡ true → is_same_pointer one two ≡ true
same_pointers images first second one two (ValueBelow.to_image at to below) (ValueBelow.to_image here there other) e =
    let parts = and_parts (at.block == here.block) (at.offset == here.offset) e in
    let block : to.block ≡ there.block = same_images images.blocks at.block here.block to.block there.block (eqb-true at.block here.block parts.0) below.block other.block in
    let offset : to.offset ≡ there.offset = below.offset ∙ eqb-true at.offset here.offset parts.1 ∙ sym other.offset in
    and_from (to.block == there.block) (to.offset == there.offset) (eq-eqb to.block there.block block) (eq-eqb to.offset there.offset offset)
same_pointers images first second one two (ValueBelow.to_function number image f) (ValueBelow.to_function other there g) e =
    eq-eqb image there (same_functions images.functions number other image there (eqb-true number other e) f g)
same_pointers images first second one two (ValueBelow.same_number number) below e = cc
same_pointers images first second one two ValueBelow.both_null below e = cc
same_pointers images first second one two (ValueBelow.to_image at to below) (ValueBelow.same_number number) e = cc
same_pointers images first second one two (ValueBelow.to_image at to below) ValueBelow.both_null e = cc
same_pointers images first second one two (ValueBelow.to_image at to below) (ValueBelow.to_function number image f) e = cc
same_pointers images first second one two (ValueBelow.to_function number image f) (ValueBelow.same_number other) e = cc
same_pointers images first second one two (ValueBelow.to_function number image f) ValueBelow.both_null e = cc
same_pointers images first second one two (ValueBelow.to_function number image f) (ValueBelow.to_image at to below) e = cc
