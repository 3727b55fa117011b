-- What is written for an expression of C: statements, and then what gives its value (ISO C99, 6.5; the Rust Reference, "Expressions" and "Statements"). A temporary is taken for each
-- held operand alone.
use Rattle.std.specs.Prelude.{ℕ, suc, ◌==◌, Bool, if◌then◌else◌, pos, List, [], ◌∷◌, ◌++◌}
use Rattle.cx_core.specs.Trees.{CTy, CExpr, expr, CForm, member, type_of}
use Rattle.lift_exprs.specs.Names.{Names, type_in}
use Rattle.lift_forms.specs.Given.{Given, nothing, truth, value, place, address_of, pointed}
use Rattle.lift_forms.specs.Operators.{given_value}
use Rattle.lift_held.specs.Held.{is_record, is_lvalue_form}
use Rattle.rs_text.specs.Tree.{Ty, Integer, Pointer, Place, Local, Deref, Expr, Literal, Read, Cast, AddressOf, Stmt, Assign, CopyBytes}
use Rattle.rs_text.specs.declared.integer.IntegerTy.TheVariants.{U8, Usize}

pub record Written : Type 0 where
  pub body : List Stmt
  pub given : Given
  -- the types of the temporaries that it takes, in the order of their numbers, and the number of the next one
  pub temporaries : List Ty
  pub next : ℕ

-- what is written, by the number of its first temporary
abbrev pub Writes : Type 0
Writes = ℕ → Written

-- something that takes no temporary
abbrev pub gives : Given → Writes
gives given next = record { body = []; given = given; temporaries = []; next = next }

-- something that is made of an operand, which stands behind its statements
abbrev pub then_gives : Given → Written → Written
then_gives given one = record one { given = given }

-- more statements behind
abbrev pub then_does : List Stmt → Given → Written → Written
then_does more given one = record one { body = one.body ++ more; given = given }

-- with a temporary more, which is taken last
abbrev pub then_takes : Ty → List Stmt → Given → Written → Written
then_takes ty more given one =
    record { body = one.body ++ more; given = given; temporaries = one.temporaries ++ (ty ∷ []); next = suc one.next }

-- two parts, one behind the other
pub record Both : Type 0 where
  pub first : Written
  pub second : Written

abbrev pub both_behind : Written → Writes → Both
both_behind one second = record { first = one; second = second one.next }

abbrev pub both : Writes → Writes → ℕ → Both
both first second next = both_behind (first next) second

-- the statements of both, and what they give together
abbrev pub joined : Both → List Stmt → Given → Written
joined two body given =
    record { body = body; given = given; temporaries = two.first.temporaries ++ two.second.temporaries; next = two.second.next }

-- those of the first, then those of the second
abbrev pub in_turn : Both → Given → Written
in_turn two given = joined two (two.first.body ++ two.second.body) given

-- ---- temporaries

abbrev pub temporary_place : Names → ℕ → Place
temporary_place names number = Local (names.temporary number)

abbrev pub temporary_value : Names → ℕ → Expr
temporary_value names number = Read (temporary_place names number)

-- ---- places

-- where an address points to: what the address of a place points to is the place
abbrev pub place_at : Expr → Place
place_at (AddressOf p) = p
place_at e = pointed e

-- the place of an lvalue
abbrev pub place_of_given : Given → Place
place_of_given nothing = Local []
place_of_given (truth e) = place_at e
place_of_given (value e) = place_at e
place_of_given (place p) = p

-- the address of what is given: of an lvalue, or of a structure or union
abbrev pub address_of_given : Given → Expr
address_of_given nothing = Read (Local [])
address_of_given (truth e) = e
address_of_given (value e) = e
address_of_given (place p) = address_of p

-- ---- structures and unions, as bytes

abbrev pub as_bytes : Expr → Expr
as_bytes address = Cast address (Pointer (Integer U8))

-- so many bytes from one address to another
abbrev pub copied : (source target : Expr) → (size : ℕ) → Stmt
copied source target size = CopyBytes (as_bytes source) (as_bytes target) (Literal (pos size) Usize)

-- ---- held operands

-- what a node gives
pub data NodeKind : Type 0 where
  a_value : Ty → NodeKind
  -- a structure or union, of a size
  a_record : Ty → (size : ℕ) → NodeKind
  -- an lvalue
  a_place : Ty → NodeKind
  -- the lvalue of a bit-field, by the address of the structure or union in which it stands
  a_bit_field : Ty → NodeKind

abbrev pub value_kind : Names → CTy → NodeKind
value_kind names type = if is_record type then a_record (type_in names type) (names.size_of type) else a_value (type_in names type)

abbrev pub lvalue_kind : Names → CTy → CForm → NodeKind
lvalue_kind names type (member of spot) = if spot.width == 0 then a_place (type_in names type) else a_bit_field (type_in names (type_of of))
lvalue_kind names type form = a_place (type_in names type)

abbrev pub place_kind : Names → CExpr → NodeKind
place_kind names (expr type at form) = lvalue_kind names type form

abbrev pub kind_in : Names → CTy → CForm → NodeKind
kind_in names type form = if is_lvalue_form form then lvalue_kind names type form else value_kind names type

abbrev pub kind_of_node : Names → CExpr → NodeKind
kind_of_node names (expr type at form) = kind_in names type form

-- the type of a temporary that holds it
abbrev pub held_type : NodeKind → Ty
held_type (a_value ty) = ty
held_type (a_record ty size) = ty
held_type (a_place ty) = Pointer ty
held_type (a_bit_field ty) = Pointer ty

-- how it gets there, and what the temporary gives
abbrev pub held_by : Place → NodeKind → Given → Stmt
held_by temporary (a_value ty) given = Assign temporary (given_value given)
held_by temporary (a_record ty size) given = copied (address_of_given given) (AddressOf temporary) size
held_by temporary (a_place ty) given = Assign temporary (address_of_given given)
held_by temporary (a_bit_field ty) given = Assign temporary (address_of_given given)

abbrev pub held_gives : Place → NodeKind → Given
held_gives temporary (a_value ty) = value (Read temporary)
held_gives temporary (a_record ty size) = value (AddressOf temporary)
held_gives temporary (a_place ty) = place (Deref (Read temporary))
held_gives temporary (a_bit_field ty) = value (Read temporary)

abbrev pub then_held : Names → NodeKind → Written → Written
then_held names kind one =
    let temporary = temporary_place names one.next in
    then_takes (held_type kind) (held_by temporary kind one.given ∷ []) (held_gives temporary kind) one

abbrev pub held_where : Bool → Names → NodeKind → Written → Written
held_where is_it names kind one = if is_it then then_held names kind one else one
