-- A type may reach itself through `Children`: a list splits into its elements, in their order, and
-- nothing else that contracts see.
use mathlib.Core.Path.{◌≡◌, refl, sym}
use mathlib.Core.List.{List, []}
use mathlib.Core.Former.{Former, this, list, via, children}
use base.Stored.{code_map}
use denote.RattleType.{RattleType}
use denote.HoleLaws.{Alike}
use denote.HolePlaces.{Recodes, struct_places, laid}
use denote.Hole.Carrier.{listed, list-listed}
use denote.Hole.Fix.{over}
use denote.Param.Weighed.{Weighed, w_list}
use denote.Model.Placed.{view_places}
use Rattle.std.specs.formers.vec.Vec as std_vec
use Rattle.std.specs.declared.alloc.Global.{Global}
use Rattle.std.specs.contracts.alloc.Global as global
use Rattle.std.specs.contracts.impls.GlobalAllocator.TheImpl.{ghosts}
use Rattle.cx_work.specs.declared.children.Children.TheInside.{Inside}
use Rattle.cx_work.specs.declared.children.Children.TheView.{view, invariant}
use Rattle.cx_work.specs.contracts.children.Children as outer
use Rattle.cx_work.specs.contracts.children.Children.TheInside as inner

-- the value that contracts see is the list of the elements
abbrev pub the_former : Former {0} → Former {0}
the_former element = list element

-- a list is as deep as its deepest element
abbrev pub the_weighed : {element : Former {0}} → Weighed element → Weighed (the_former element)
the_weighed depth = w_list depth

-- the list that holds no element, by which a recursion through lists can end
pub the_empty : List ⊥
the_empty = []

-- the elements, in their order
abbrev pub the_items : (X : Type 0) → List X → List X
the_items X elements = elements

pub the_items_listed : (X : Type 0) (elements : List X) → listed _ (children (the_former this) X elements) ≡ the_items X elements
the_items_listed X elements = list-listed X elements

-- the field: the vector of the elements
abbrev field : Former {0}
field = via (std_vec.the_former this Global) Inside (λ X list. list.elements) (λ X vector. record { elements = vector }) (λ X list. refl) (λ X vector. refl)

module _ (T U : RattleType) (f : T.Denot → U.Denot) where
  pub the_places : Alike T U f → Alike (outer.the_row T) (outer.the_row U) ((the_former this).map T.Denot U.Denot f)
  the_places same = view_places field (list this) view (λ X Y g u. refl) (λ X u. refl) T.Denot U.Denot f
      (outer.the_row T).coded (outer.the_row U).coded
      (invariant T.Denot) (invariant U.Denot) (λ u p q. refl) (λ u p q. refl) (λ u e. tt) (λ u e. tt)
      (over (inner.the_row T)) (over (inner.the_row U))
      (struct_places (inner.the_type T) (inner.the_type U) (std_vec.mapped f, tt) _ (λ d. refl) refl (laid _ _ _ (std_vec.the_places global.the_row ghosts T U f same), tt))

  pub the_codes_placed : Recodes T U f → Recodes (outer.the_row T) (outer.the_row U) ((the_former this).map T.Denot U.Denot f)
  the_codes_placed same elements = sym (code_map T.coded.code U.coded.code f (λ x. sym (same x)) elements)
