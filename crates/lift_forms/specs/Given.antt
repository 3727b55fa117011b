-- How the written crate gives what an expression of C gives (ISO C99, 6.5; the Rust Reference, "Place expressions and value expressions").
use Rattle.rs_text.specs.Tree.{Integer, Place, Local, Static, Deref, Field, Expr, Cast, AddressOf}
use Rattle.rs_text.specs.declared.integer.IntegerTy.TheVariants.{I32}

pub data Given : Type 0 where
  -- nothing: it has no value, or its value isn't used
  nothing : Given
  -- the `int` 0 or 1 as a `bool`: what a comparison, `!`, `&&` and `||` give
  truth : Expr → Given
  -- a value; of a structure or union the address of its place
  value : Expr → Given
  -- the place of an lvalue
  place : Place → Given

-- a truth value as the number that it is in C
abbrev pub number_of : Expr → Expr
number_of e = Cast e (Integer I32)

-- where an address points to
abbrev pub pointed : Expr → Place
pointed e = Deref e

-- the address of a place: that of `*e` is `e`
abbrev pub address_of : Place → Expr
address_of (Local x) = AddressOf (Local x)
address_of (Static m x) = AddressOf (Static m x)
address_of (Deref e) = e
address_of (Field p f) = AddressOf (Field p f)
