-- How declarations, and what has linkage, are kept with an index of their names.
use Rattle.std.specs.Prelude.{◌≡◌, ℕ, Bool, true, false, not, if◌then◌else◌, List, [], ◌∷◌, length, reverse, Option, None}
use Rattle.cx_scope.specs.Names.{CNamed, place_of}
use Rattle.cx_scope.specs.declared.meant.Declared.{Declared}
use Rattle.cx_scope.specs.declared.meant.Meant.{Meant}
use Rattle.cx_scope.specs.declared.meant.Meant.TheVariants as meant
use Rattle.cx_scope.specs.declared.thing.Thing.{Thing}

-- it isn't in the name space of tags (6.2.3)
abbrev pub is_plain : Meant → Bool
is_plain (meant.Object number t register linkage) = true
is_plain (meant.Function number t linkage) = true
is_plain (meant.TypeName t) = true
is_plain (meant.Enumerator value) = true
is_plain (meant.Tag is_record is_open number) = false

-- the names of those that count, with their places among all; the newest stands first
abbrev pub counted_places : {A : Type 0} → (A → Bool) → (A → List ℕ) → List A → List CNamed
counted_places counts name [] = []
counted_places counts name (one ∷ older) =
    if counts one then record { name = name one; place = length older } ∷ counted_places counts name older else counted_places counts name older

pub record AreIndexed (list : List Declared) (ordinary tags : List CNamed) : Type 0 where
  pub ordinary_is : ordinary ≡ counted_places (λ one. is_plain one.meant) (λ one. one.name) (reverse list)
  pub tags_is : tags ≡ counted_places (λ one. not (is_plain one.meant)) (λ one. one.name) (reverse list)

-- no two have one name
abbrev pub NamesDiffer : List CNamed → Type 0
NamesDiffer [] = Unit {0}
NamesDiffer (one ∷ older) = (place_of one.name older ≡ None) × NamesDiffer older

pub record AreNamed (list : List Thing) (names : List CNamed) : Type 0 where
  pub names_is : names ≡ counted_places (λ one. true) (λ one. one.name) (reverse list)
  pub differ : NamesDiffer names
