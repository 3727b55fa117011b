-- A type may reach itself through `Child`: a box splits into its one value, and nothing else that
-- contracts see.
use mathlib.Core.Path.{refl}
use mathlib.Core.Former.{Former, this, const, pair, via}
use base.Fml.{ftrue}
use base.Stored.{gnil}
use denote.RattleType.{RattleType}
use denote.Memory.{part_of}
use denote.RawPtr.{Ptr}
use denote.Sharing.{nothing}
use denote.HoleLaws.{Alike}
use denote.HolePlaces.{Recodes, struct_places, laid, one_value}
use denote.Hole.Fix.{over}
use denote.Param.Weighed.{Weighed}
use denote.Model.Placed.{view_places}
use Rattle.std.specs.declared.boxed.Box.{Box}
use Rattle.std.specs.declared.alloc.Global.{Global}
use Rattle.std.specs.contracts.boxed.Box as std_box
use Rattle.std.specs.contracts.alloc.Global as global
use Rattle.std.specs.contracts.impls.GlobalAllocator.TheImpl.{ghosts}
use Rattle.cx_work.specs.declared.child.Child.TheInside.{Inside}
use Rattle.cx_work.specs.declared.child.Child.TheView.{view, invariant}
use Rattle.cx_work.specs.contracts.child.Child as outer
use Rattle.cx_work.specs.contracts.child.Child.TheInside as inner

-- the value that contracts see is the value held
abbrev pub the_former : Former {0} → Former {0}
the_former held = held

-- a box is as deep as its value
abbrev pub the_weighed : {held : Former {0}} → Weighed held → Weighed (the_former held)
the_weighed depth = depth

-- the field: a pointer and an allocator beside the value
abbrev field : Former {0}
field = via (pair (const (Ptr × Global)) this) Inside
    (λ X boxed. ((boxed.held.ptr, boxed.held.alloc), boxed.held.value))
    (λ X parts. record { held = record { ptr = parts.0.0; alloc = parts.0.1; value = parts.1 } })
    (λ X boxed. refl) (λ X parts. refl)

-- the same box round another value
abbrev round : {X Y : Type 0} → Box X Global → Y → Box Y Global
round box value = record { ptr = box.ptr; alloc = box.alloc; value = value }

abbrev held_box : RattleType → RattleType
held_box T = std_box.the_row T global.the_row ghosts

module _ (T U : RattleType) (f : T.Denot → U.Denot) where
  -- boxes of alike values are laid out and owned alike
  boxes_alike : Alike T U f → Alike (held_box T) (held_box U) (λ box. round box (f box.value))
  unfolding part_of
  boxes_alike same = record {
    mir_same = λ i. (held_box (one_value T (same.mir_same i) (λ _. ftrue) (λ _ _. nothing) gnil)).mir;
    own_same = λ box i. (held_box (one_value T (same.mir_same i) (same.own_same box.value i) (same.shr_same box.value i) gnil)).own_val (round box tt);
    shr_same = λ box i. (held_box (one_value T (same.mir_same i) (same.own_same box.value i) (same.shr_same box.value i) gnil)).shr_at (round box tt);
  }

  pub the_places : Alike T U f → Alike (outer.the_row T) (outer.the_row U) ((the_former this).map T.Denot U.Denot f)
  the_places same = view_places field this view (λ X Y g u. refl) (λ X u. refl) T.Denot U.Denot f
      (outer.the_row T).coded (outer.the_row U).coded
      (invariant T.Denot) (invariant U.Denot) (λ u p q. refl) (λ u p q. refl) (λ u e. tt) (λ u e. tt)
      (over (inner.the_row T)) (over (inner.the_row U))
      (struct_places (inner.the_type T) (inner.the_type U) ((λ box. round box (f box.value)), tt) _ (λ d. refl) refl (laid _ _ _ (boxes_alike same), tt))

  pub the_codes_placed : Recodes T U f → Recodes (outer.the_row T) (outer.the_row U) ((the_former this).map T.Denot U.Denot f)
  the_codes_placed same value = same value
