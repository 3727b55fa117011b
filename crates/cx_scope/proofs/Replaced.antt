-- Another declaration of the same name, in the same name space, in the place of one.
use Rattle.std.proofs.Common.{◌≡◌, refl, sym, ap, ◌∙◌, subst, ℕ, ◌<◌, not, List, length, IfSome, slice_get, slice_set}
use Rattle.std.specs.Bool.{beq}
use Rattle.cx_rules.specs.Scope.{is_ordinary}
use Rattle.cx_scope.proofs.Standing.{places_stay, some_at}
use Rattle.cx_scope.specs.Indexed.{AreIndexed, is_plain}
use Rattle.cx_scope.specs.Names.{CNamed}
use Rattle.cx_scope.specs.Views.{view_meant}
use Rattle.cx_scope.specs.declared.meant.Declared.{Declared}
use Rattle.cx_scope.specs.declared.meant.Meant.{Meant}
use Rattle.cx_scope.specs.declared.meant.Meant.TheVariants as meant

plain_is : (one : Meant) → is_plain one ≡ is_ordinary (view_meant one)
plain_is (meant.Object number t register linkage) = refl
plain_is (meant.Function number t linkage) = refl
plain_is (meant.TypeName t) = refl
plain_is (meant.Enumerator value) = refl
plain_is (meant.Tag is_record is_open number) = refl

pub indexed_set : (list now : List Declared) (ordinary tags : List CNamed) (n : ℕ) (one : Declared) → AreIndexed list ordinary tags → n < length list
    → IfSome (slice_get list n) (λ was. was.name ≡ one.name) → IfSome (slice_get list n) (λ was. is_ordinary (view_meant was.meant) ≡ is_ordinary (view_meant one.meant))
    → now ≡ slice_set list n one → AreIndexed now ordinary tags
indexed_set list now ordinary tags n one held less name space set =
    let was = some_at list n less in
    let same_name = subst (λ o. IfSome o (λ (other : Declared). other.name ≡ one.name)) was.1 name in
    let same_space = subst (λ o. IfSome o (λ (other : Declared). is_ordinary (view_meant other.meant) ≡ is_ordinary (view_meant one.meant))) was.1 space in
    let plain : is_plain was.0.meant ≡ is_plain one.meant = plain_is was.0.meant ∙ same_space ∙ sym (plain_is one.meant) in
    record {
      ordinary_is = held.ordinary_is ∙ sym (places_stay (λ (other : Declared). is_plain other.meant) (λ (other : Declared). other.name) list now n was.0 one was.1 plain same_name set);
      tags_is = held.tags_is ∙ sym (places_stay (λ (other : Declared). not (is_plain other.meant)) (λ (other : Declared). other.name) list now n was.0 one was.1 (ap not plain) same_name set);
    }
