-- What is stored in static objects before the program begins stores numbers in objects of type `int` that are in scope.
use Rattle.std.proofs.Common.{◌≡◌, ℕ, ◌+◌, List, [], ◌∷◌, map, Option, Some, None, refl, ap, ◌∙◌, arith, rules}
use Rattle.std.specs.Prelude.{All, IsSome, IfSome}
use Rattle.std.proofs.lemmas.List.Elements.{All-head, All-tail}
use Rattle.straight_core.specs.declared.ty.Spot.{Spot}
use Rattle.straight_core.specs.Linked.{size_of_type, IsPutOf, ArePuts, IsTypedObject}
use Rattle.straight_core.specs.Trees.{CTy, ty, CTyForm, void, int, function, form_of_type, CExpr, expr, whole, object, load, convert, unary, binary, assign, call, CPut, put, CObject, CProgram}
use Rattle.straight_core.specs.Typing.{scalar_of, IsScalarType, object_with}
use Rattle.straight_mean.specs.Operands.{Frame as CFrame, designates, designated}
use Rattle.straight_mean.specs.State.{StaticPut, puts_in}
use Rattle.straight_lift.specs.Agrees.{NamesObject}
use Rattle.straight_lift.specs.Lifted.{Names}
use Rattle.straight_lift.specs.StandsFor.{Images}
use Rattle.mem_bytes.specs.declared.value.Ptr.{Ptr}
use Rattle.straight_rust_mean.specs.Run.{Frame}
use Rattle.straight_whole.proofs.Puts.{IsWholePut, IsPlaced, ArePlaced}
use Rattle.straight_whole.proofs.TypedLift.{all_append}

-- ---- a put is a number in the whole of its object

spot_is : (spot : Spot) → spot.byte ≡ 0 → spot.bit ≡ 0 → spot.width ≡ 0 → spot ≡ record { byte = 0; bit = 0; width = 0 }
spot_is spot byte bit width =
    ap (λ b. record { byte = b; bit = spot.bit; width = spot.width }) byte
    ∙ ap (λ b. record { byte = 0; bit = b; width = spot.width }) bit
    ∙ ap (λ b. record { byte = 0; bit = 0; width = b }) width

size_is : (type : CTy) (form : CTyForm) → form_of_type type ≡ form → IsSome (scalar_of form) → size_of_type type ≡ 4
size_is type int e some = rw e refl
size_is type void e some = cc
size_is type (function result params variadic) e some = cc

module _ (program : CProgram) where
  put_is : (number : ℕ) (whole_type : CTy) (spot : Spot) (part : CTy) (value : CExpr) → IsScalarType whole_type → IsPutOf program whole_type spot part value → IsWholePut (record { object = number; stored = put spot part value })
  put_is number whole_type spot (ty int is_const) (expr type place (whole value)) scalar is =
      let size = size_is whole_type (form_of_type whole_type) refl scalar in
      let byte : spot.byte ≡ 0 = omega (arith, size, is.inside) in
      record { is_const = is_const; type = type; place = place; value = value; is = ap (λ s. put s (ty int is_const) (expr type place (whole value))) (spot_is spot byte is.not_in_bits.0 is.not_in_bits.1) }
  put_is number whole_type spot (ty void is_const) value scalar is = absurd (search (rules, is.scalar))
  put_is number whole_type spot (ty (function result params variadic) is_const) value scalar is = absurd (search (rules, is.scalar))
  put_is number whole_type spot (ty int is_const) (expr type place (object o)) scalar is = absurd is.constant
  put_is number whole_type spot (ty int is_const) (expr type place (load from)) scalar is = absurd is.constant
  put_is number whole_type spot (ty int is_const) (expr type place (convert from)) scalar is = absurd is.constant
  put_is number whole_type spot (ty int is_const) (expr type place (unary op from)) scalar is = absurd is.constant
  put_is number whole_type spot (ty int is_const) (expr type place (binary op l r)) scalar is = absurd is.constant
  put_is number whole_type spot (ty int is_const) (expr type place (assign target from)) scalar is = absurd is.constant
  put_is number whole_type spot (ty int is_const) (expr type place (call callee args)) scalar is = absurd is.constant

-- ---- its object is in scope

start_is : (c_frame : CFrame) (number : ℕ) (at : Ptr) → designated c_frame number ≡ designates at → at.offset ≡ 0 → designated c_frame number ≡ designates (record { block = at.block; offset = 0 })
start_is c_frame number at e zero_offset = e ∙ ap (λ offset. designates (record { block = at.block; offset = offset })) zero_offset

pub placed_at : (names : Names) (images : Images) (c_frame : CFrame) (frame : Frame) (number : ℕ) (at : Ptr) → designated c_frame number ≡ designates at → NamesObject names images frame number at → IsPlaced names images c_frame frame number
placed_at names images c_frame frame number at e is =
    record { block = at.block; image = is.image; designates_it = start_is c_frame number at e is.at_start; mapped = is.mapped; spot = is.spot }

-- ---- all puts

module _ (program : CProgram) (names : Names) (images : Images) (c_frame : CFrame) (frame : Frame)
    (placed : (number : ℕ) → IsSome (object_with number program.objects) → IsPlaced names images c_frame frame number) where
  object_placed : (number : ℕ) (type : CTy) (from : ℕ) (puts : List CPut) → IsScalarType type → IsSome (object_with number program.objects) → ArePuts program type from puts →
      ArePlaced names images c_frame frame (map (λ one. record { object = number; stored = one }) puts)
  object_placed number type from [] scalar found are = tt
  object_placed number type from (put spot part value ∷ others) scalar found are =
      ((put_is program number type spot part value scalar are.1, placed number found), object_placed number type (spot.byte + size_of_type part) others scalar found are.2)

  pub all_placed : (objects : List CObject) → All (IsTypedObject program) objects → All (λ one. IsSome (object_with one.object program.objects)) objects → ArePlaced names images c_frame frame (puts_in objects)
  all_placed [] typed found = tt
  all_placed (one ∷ others) typed found =
      by_puts one.puts refl (All-head (IsTypedObject program) one others typed).puts
      (all_placed others (All-tail (IsTypedObject program) one others typed) (All-tail (λ (o : CObject). IsSome (object_with o.object program.objects)) one others found))
    where
      by_puts : (puts : Option (List CPut)) → one.puts ≡ puts → IfSome puts (ArePuts program one.type 0) → ArePlaced names images c_frame frame (puts_in others) →
          ArePlaced names images c_frame frame (puts_in (one ∷ others))
      by_puts None e are rest = rw e rest
      by_puts (Some puts) e are rest = rw e (all_append (λ (p : StaticPut). IsWholePut p × IsPlaced names images c_frame frame p.object) (map (λ put. record { object = one.object; stored = put }) puts) (puts_in others)
          (object_placed one.object one.type 0 puts (All-head (IsTypedObject program) one others typed).scalar (All-head (λ (o : CObject). IsSome (object_with o.object program.objects)) one others found) are) rest)
