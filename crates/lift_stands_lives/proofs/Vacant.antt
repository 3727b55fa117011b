-- What is vacant stays so.
use Rattle.std.proofs.Common.{◌≡◌, ◌≢◌, ℕ, ◌<◌, ◌≤◌, ◌++◌, ◌∷◌, [], length, Some, None, slice_set, sym, ◌∙◌, subst, ⊎_elim, arith}
use Rattle.std.proofs.lemmas.Bool.{cases_lt}
use Rattle.std.proofs.lemmas.Option.{slice_get-get_or}
use Rattle.mem_bytes.proofs.Held.{live_of_kill}
use Rattle.mem_bytes.specs.Memory.{Block, Blocks, live_block}
use Rattle.lift_stands.specs.Stands.{Images, image_of, with_image, Lives, StandsFor, IsVacant}
use Rattle.lift_stands_lives.specs.LawsVacant.{LeavesVacant}
use Rattle.lift_stands_lives.proofs.Pushed.{live_cases, entry_cases, killed}

pub vacant_on : (images later : Images) (memory after : Blocks) (image : ℕ) → LeavesVacant images later memory after image → IsVacant images memory image → IsVacant later after image
vacant_on images later memory after image leaves free number living e =
    ⊎_elim
    (λ (old : number < length memory).
    let entry = slice_get-get_or images.blocks number 0 (omega (arith, old, leaves.mapped)) in
    let kept = leaves.extends.blocks number _ entry in
    free number (leaves.dead number old living) (entry ∙ sym kept ∙ e))
    (λ (new : length memory ≤ number). leaves.past number new living e)
    (cases_lt number (length memory))

pub vacant_begins : (images : Images) (memory : Blocks) (block : Block) (image other : ℕ) → length images.blocks ≡ length memory → image ≢ other → IsVacant images memory image → IsVacant (with_image other images) (memory ++ Some block ∷ []) image
vacant_begins images memory block image other mapped away free number living e =
    ⊎_elim
    (λ (old : (number < length images.blocks) × (image_of images number ≡ Some image)).
    ⊎_elim
    (λ (was : (number < length memory) × (live_block memory number ≡ Some living.0)). free number (living.0, was.1) old.1)
    (λ (last : (number ≡ length memory) × (block ≡ living.0)). absurd (omega (arith, old.0, last.0, mapped)))
    (live_cases memory block living.0 number living.1))
    (λ (last : (number ≡ length images.blocks) × (other ≡ image)). away (sym last.1))
    (entry_cases images.blocks other number image e)

pub vacant_dies : (images : Images) (memory : Blocks) (number image : ℕ) → IsVacant images memory image → IsVacant images (slice_set memory number None) image
vacant_dies images memory number image free other living e = free other (living.0, live_of_kill memory other number living.0 living.1) e

pub vacant_new : (images : Images) (memory others : Blocks) (image : ℕ) → StandsFor images memory others → length others ≤ image → IsVacant images memory image
vacant_new images memory others image stands p number living e = omega (arith, p, stands.made number image e)

pub vacant_left : (images : Images) (memory others : Blocks) (number image : ℕ) → StandsFor images memory others → Lives memory number → image_of images number ≡ Some image → IsVacant images (slice_set memory number None) image
vacant_left images memory others number image stands living entry other lives e =
    let was : Lives memory other = (lives.0, live_of_kill memory other number lives.0 lives.1) in
    let same : other ≡ number = stands.apart other number image was living e entry in
    let gone : live_block (slice_set memory number None) other ≡ None = subst (λ n. live_block (slice_set memory number None) n ≡ None) (sym same) (killed memory number) in
    let live : live_block (slice_set memory number None) other ≡ Some lives.0 = lives.1 in
    cc
