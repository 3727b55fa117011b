-- How names of objects are kept with an index.
use Rattle.std.specs.Prelude.{◌≡◌, ℕ, Bool, true, false, List, Option, None, Some, bytes_eq}
use Rattle.std.specs.Global.{Vec}
use Rattle.std.specs.HashMap.{HashMap, get_by}
use Rattle.straight_decl.specs.CoreOf.{object_named}

-- what an index holds of a name
abbrev pub indexed : {S : Type 0} → HashMap (Vec ℕ) ℕ S → List ℕ → Option ℕ
indexed index name = get_by (λ key. bytes_eq name key.items) index

-- the index tells of each name the number of its first object
abbrev pub IsIndexed : {S : Type 0} → HashMap (Vec ℕ) ℕ S → List (List ℕ) → Type 0
IsIndexed index objects = (name : List ℕ) → indexed index name ≡ object_named name objects

-- the number that was held before, or the new one
abbrev pub or_new : Option ℕ → Bool → ℕ → Option ℕ
or_new (Some number) is_new new = Some number
or_new None true new = Some new
or_new None false new = None

module _ {S : Type 0} (old new : HashMap (Vec ℕ) ℕ S) where
  -- a name with a number was put in the index, if it wasn't there
  abbrev pub HasFirst : List ℕ → ℕ → Type 0
  HasFirst name number = (other : List ℕ) → indexed new other ≡ or_new (indexed old other) (bytes_eq name other) number

  abbrev pub HoldsSame : Type 0
  HoldsSame = (name : List ℕ) → indexed new name ≡ indexed old name
