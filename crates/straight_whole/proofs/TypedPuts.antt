-- The stores of the initialiser are typed.
use Rattle.std.proofs.Common.{◌≡◌, ℕ, ◌+◌, true, List, [], ◌∷◌, ◌++◌, map, Option, Some, None, refl}
use Rattle.std.specs.Prelude.{All, IsSome, IfSome}
use Rattle.std.specs.List.{AllByRecursion}
use Rattle.std.proofs.lemmas.List.Elements.{All-head, All-tail}
use Rattle.straight_core.specs.Linked.{size_of_type, IsPutOf, ArePuts, IsTypedObject}
use Rattle.straight_core.specs.declared.ty.Spot.{Spot}
use Rattle.straight_core.specs.Trees.{CTy, CExpr, expr, whole, object, load, convert, unary, binary, assign, call, CPut, put, CObject, CProgram}
use Rattle.straight_core.specs.Typing.{object_with}
use Rattle.straight_mean.specs.State.{StaticPut, puts_in}
use Rattle.straight_lift.specs.Lifted.{Names}
use Rattle.straight_rust_mean.specs.Scalars.{literal_fits}
use Rattle.straight_rust_mean.specs.Typing.{Scope}
use Rattle.straight_rust_tree.specs.Tree.{i32, static_at, literal, Stmt}
use Rattle.straight_whole.specs.CrateOf.{value_of, store_in}
use Rattle.straight_whole.proofs.TypedLift.{IsPlace, IsStatement, stored, fits, literal_is_value}

-- the value of a put is a literal
put_fits : (program : CProgram) (whole_type : CTy) (spot : Spot) (type : CTy) (value : CExpr) → IsPutOf program whole_type spot type value → literal_fits i32 (value_of value) ≡ true
put_fits program whole_type spot type (expr t p (whole value)) is = fits t value is.typed
put_fits program whole_type spot type (expr t p (object number)) is = absurd is.constant
put_fits program whole_type spot type (expr t p (load from)) is = absurd is.constant
put_fits program whole_type spot type (expr t p (convert value)) is = absurd is.constant
put_fits program whole_type spot type (expr t p (unary op value)) is = absurd is.constant
put_fits program whole_type spot type (expr t p (binary op left right)) is = absurd is.constant
put_fits program whole_type spot type (expr t p (assign target value)) is = absurd is.constant
put_fits program whole_type spot type (expr t p (call callee args)) is = absurd is.constant

module _ (program : CProgram) (names : Names) (scope : Scope)
    (places : (number : ℕ) → IsSome (object_with number program.objects) → IsPlace scope (static_at names.home (names.objects number))) where
  abbrev store : StaticPut → Stmt
  store one = store_in names one.object one.stored

  -- the puts of one object
  puts_typed : (number : ℕ) (type : CTy) (from : ℕ) (puts : List CPut) → IsSome (object_with number program.objects) → ArePuts program type from puts →
      AllByRecursion (IsStatement scope None) (map store (map (λ one. record { object = number; stored = one }) puts))
  puts_typed number type from [] found are = tt
  puts_typed number type from (put spot part value ∷ others) found are = (
    stored scope None (static_at names.home (names.objects number)) (literal (value_of value) i32) (places number found)
        (literal_is_value scope (value_of value) (put_fits program type spot part value are.1)),
    puts_typed number type (spot.byte + size_of_type part) others found are.2,
  )

  map_append : (xs ys : List StaticPut) → AllByRecursion (IsStatement scope None) (map store xs) → AllByRecursion (IsStatement scope None) (map store ys) → AllByRecursion (IsStatement scope None) (map store (xs ++ ys))
  map_append [] ys all others = others
  map_append (x ∷ xs) ys all others = (all.0, map_append xs ys all.1 others)

  -- the stores of what is put in objects of the program
  pub stores_typed : (objects : List CObject) → All (IsTypedObject program) objects → All (λ one. IsSome (object_with one.object program.objects)) objects →
      AllByRecursion (IsStatement scope None) (map store (puts_in objects))
  stores_typed [] typed found = tt
  stores_typed (one ∷ others) typed found =
      by_puts one.puts refl (All-head (IsTypedObject program) one others typed).puts
      (stores_typed others (All-tail (IsTypedObject program) one others typed) (All-tail (λ (o : CObject). IsSome (object_with o.object program.objects)) one others found))
    where
      by_puts : (puts : Option (List CPut)) → one.puts ≡ puts → IfSome puts (ArePuts program one.type 0) → AllByRecursion (IsStatement scope None) (map store (puts_in others)) →
          AllByRecursion (IsStatement scope None) (map store (puts_in (one ∷ others)))
      by_puts None e are rest = rw e rest
      by_puts (Some puts) e are rest = rw e (map_append (map (λ put. record { object = one.object; stored = put }) puts) (puts_in others)
          (puts_typed one.object one.type 0 puts (All-head (λ (o : CObject). IsSome (object_with o.object program.objects)) one others found) are) rest)
