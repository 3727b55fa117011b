-- Objects in the order of their numbers.
use Rattle.std.specs.Prelude.{◌≡◌, ◌≢◌, ℕ, suc, ◌≤◌, List, [], ◌∷◌, Option, None, Some, slice_get}
use Rattle.cx_core.specs.Trees.{CTy, CPuts, CObject}
use Rattle.cx_core.specs.declared.program.CoreObject.{CoreObject}

-- each number is at least this one, and less than those behind it
abbrev pub AreAbove : ℕ → List CoreObject → Type 0
AreAbove least [] = Unit {0}
AreAbove least (one ∷ others) = (least ≤ one.object) × AreAbove (suc one.object) others

-- what is stored, where that is told
abbrev pub puts_or : Option CPuts → Option CPuts → Option CPuts
puts_or None puts = puts
puts_or (Some new) puts = Some new

abbrev pub with_content : CTy → Option CPuts → CObject → CObject
with_content type puts one = record one { type = type; puts = puts_or puts one.puts }

-- none has a number; and the one at a place has it
abbrev pub NoneHas : ℕ → List CoreObject → Type 0
NoneHas number objects = (index : ℕ) (one : CoreObject) → slice_get objects index ≡ Some one → one.object ≢ number

pub record HasAt (number : ℕ) (objects : List CoreObject) (index : ℕ) : Type 0 where
  pub one : CoreObject
  pub is : slice_get objects index ≡ Some one
  pub number_is : one.object ≡ number
