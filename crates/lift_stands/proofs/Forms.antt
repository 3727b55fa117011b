-- What stands for a value of a known form.
use Rattle.std.proofs.Common.{◌≡◌, ℕ, ℤ, Some, refl}
use Rattle.mem_bytes.specs.declared.value.Ptr.{Ptr}
use Rattle.mem_bytes.specs.declared.value.Value.{Value}
use Rattle.mem_bytes.specs.declared.value.Value.TheVariants.{Whole, Null, Object, Code}
use Rattle.lift_stands.specs.Stands.{Images, PlaceBelow, ValueBelow}

-- what a value of a form is below
abbrev Below : Images → Value → Value → Type 0
Below images (Whole number) other = other ≡ Whole number
Below images Null other = other ≡ Null
Below images (Object at) other = (to : Ptr) × (other ≡ Object to) × PlaceBelow images at to
Below images (Code number) other = (image : ℕ) × (other ≡ Code image) × (images.functions number ≡ Some image)

form_below : (images : Images) (value other : Value) → ValueBelow images value other → Below images value other
form_below images value other (ValueBelow.same_number number) = refl
form_below images value other ValueBelow.both_null = refl
form_below images value other (ValueBelow.to_image at to below) = (to, refl, below)
form_below images value other (ValueBelow.to_function number image e) = (image, refl, e)

pub number_below : (images : Images) (number : ℤ) (other : Value) → ValueBelow images (Whole number) other → other ≡ Whole number
number_below images number other below = form_below images (Whole number) other below

pub null_below : (images : Images) (other : Value) → ValueBelow images Null other → other ≡ Null
null_below images other below = form_below images Null other below

pub object_below : (images : Images) (at : Ptr) (other : Value) → ValueBelow images (Object at) other → (to : Ptr) × (other ≡ Object to) × PlaceBelow images at to
object_below images at other below = form_below images (Object at) other below

pub function_below : (images : Images) (number : ℕ) (other : Value) → ValueBelow images (Code number) other → (image : ℕ) × (other ≡ Code image) × (images.functions number ≡ Some image)
function_below images number other below = form_below images (Code number) other below
