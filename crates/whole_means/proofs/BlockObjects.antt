-- The objects of a function's blocks are complete (ISO C99, 6.7p7).
use Rattle.std.proofs.Common.{◌≡◌, ℕ, ◌&&◌, not, Bool, true, false, if◌then◌else◌, List, [], ◌∷◌, ◌++◌, filter, Option, Some, None, IsSome, IfSome, refl, subst, inl, inr}
use Rattle.std.specs.List.{Contains}
use Rattle.build_flow_nodes.specs.Parts.{is_copied, leaves_bits_of, zeroed_among, zeroed_at, zeroed_in, zeroed_in_else, zeroed_in_form, zeroed_of}
use Rattle.cr_base.specs.declared.layout.Laid.{Laid}
use Rattle.cx_core.specs.Layouts.{extent, layouts_of}
use Rattle.cx_core.specs.Statements.{AreBlockObjects, AreTypedStmts, CBody, IsBlockObject, IsTypedElse, IsTypedStmt, IsTypedStmtForm, objects_in, objects_in_else, objects_in_form, objects_in_list, with_objects, within_loop, within_switch}
use Rattle.cx_core.specs.Trees.{CObject, CTy, CPuts, type_of, CProgram, CStmt, stmt, CStmtForm, label, case, default, block, expression, if_then, switch, while, do_while, for_loop, goto, continue, break, returns, begin, COtherwise, no_else, else_do, CStmts, no_stmts, more_stmts}
use Rattle.cx_core.specs.Typing.{CHome, object_with}
use Rattle.lift_exprs.specs.Names.{Names}
use Rattle.whole_means.proofs.Lists.{Among, contains_among}

-- a number is that of an object with a layout
pub record IsObject (program : CProgram) (number : ℕ) : Type 0 where
  pub one : CObject
  pub object_is : object_with number program.objects ≡ Some one
  pub laid : Laid
  pub laid_is : extent (layouts_of program.types) one.type ≡ Some laid

abbrev pub AreObjects : CProgram → List ℕ → Type 0
AreObjects program [] = Unit {0}
AreObjects program (number ∷ numbers) = IsObject program number × AreObjects program numbers

pub among_objects : (program : CProgram) (numbers : List ℕ) (number : ℕ) → AreObjects program numbers → Among numbers number → IsObject program number
among_objects program [] number are there = absurd there
among_objects program (one ∷ numbers) number are (inl same) = subst (IsObject program) same are.0
among_objects program (one ∷ numbers) number are (inr there) = among_objects program numbers number are.1 there

module _ (program : CProgram) where
  both : (xs ys : List ℕ) → AreObjects program xs → AreObjects program ys → AreObjects program (xs ++ ys)
  both [] ys first second = second
  both (x ∷ xs) ys first second = (first.0, both xs ys first.1 second)

  filtered : (p : ℕ → Bool) (xs : List ℕ) → AreObjects program xs → AreObjects program (filter p xs)
  filtered p [] are = tt
  filtered p (x ∷ xs) are = by_test (p x) (filtered p xs are.1)
    where
      by_test : (t : Bool) → AreObjects program (filter p xs) → AreObjects program (if t then x ∷ filter p xs else filter p xs)
      by_test true rest = (are.0, rest)
      by_test false rest = rest

laid_object : (program : CProgram) (number : ℕ) (o : CObject) (laid : Option Laid) → object_with number program.objects ≡ Some o → extent (layouts_of program.types) o.type ≡ laid → IsSome laid → IsObject program number
laid_object program number o None found is some = absurd cc
laid_object program number o (Some laid) found is some = record { one = o; object_is = found; laid = laid; laid_is = is }

block_object : (home : CHome) (number : ℕ) (found : Option CObject) → object_with number home.program.objects ≡ found → IsSome found → IfSome found (IsBlockObject home) → IsObject home.program number
block_object home number None e some is = absurd cc
block_object home number (Some o) e some is = laid_object home.program number o (extent (layouts_of home.program.types) o.type) e refl is.complete

block_objects : (home : CHome) (numbers : List ℕ) → AreBlockObjects home numbers → AreObjects home.program numbers
block_objects home [] are = tt
block_objects home (number ∷ numbers) are = (block_object home number (object_with number home.program.objects) refl are.0 are.1, block_objects home numbers are.2)

mutual
  pub objects_of_stmt : (body : CBody) (declares : List ℕ) (s : CStmt) → IsTypedStmt body declares s → AreObjects body.home.program (objects_in s)
  objects_of_stmt body declares (stmt place objects form) typed =
      both body.home.program objects (objects_in_form form) (block_objects body.home objects typed.0) (objects_of_form (with_objects objects body) declares objects form typed.1)

  objects_of_form : (body : CBody) (declares objects : List ℕ) (form : CStmtForm) → IsTypedStmtForm body declares objects form → AreObjects body.home.program (objects_in_form form)
  objects_of_form body declares objects (label name inner) typed = objects_of_stmt body [] inner typed
  objects_of_form body declares objects (case value inner) typed = objects_of_stmt body [] inner typed.1
  objects_of_form body declares objects (default inner) typed = objects_of_stmt body [] inner typed.1
  objects_of_form body declares objects (block stmts) typed = objects_of_stmts body objects stmts typed
  objects_of_form body declares objects (expression value) typed = tt
  objects_of_form body declares objects (if_then test inner otherwise) typed =
      both body.home.program (objects_in inner) (objects_in_else otherwise) (objects_of_stmt body [] inner typed.1) (objects_of_else body otherwise typed.2)
  objects_of_form body declares objects (switch value inner) typed = objects_of_stmt (within_switch (type_of value) body) [] inner typed.2
  objects_of_form body declares objects (while test inner) typed = objects_of_stmt (within_loop body) [] inner typed.1
  objects_of_form body declares objects (do_while inner test) typed = objects_of_stmt (within_loop body) [] inner typed.0
  objects_of_form body declares objects (for_loop first test next inner) typed =
      both body.home.program (objects_in_list first) (objects_in inner) (objects_of_stmts body objects first typed.1) (objects_of_stmt (within_loop body) [] inner typed.4)
  objects_of_form body declares objects (goto name) typed = tt
  objects_of_form body declares objects continue typed = tt
  objects_of_form body declares objects break typed = tt
  objects_of_form body declares objects (returns value) typed = tt
  objects_of_form body declares objects (begin number puts) typed = tt

  objects_of_else : (body : CBody) (otherwise : COtherwise) → IsTypedElse body otherwise → AreObjects body.home.program (objects_in_else otherwise)
  objects_of_else body no_else typed = tt
  objects_of_else body (else_do inner) typed = objects_of_stmt body [] inner typed

  objects_of_stmts : (body : CBody) (declares : List ℕ) (stmts : CStmts) → AreTypedStmts body declares stmts → AreObjects body.home.program (objects_in_list stmts)
  objects_of_stmts body declares no_stmts typed = tt
  objects_of_stmts body declares (more_stmts first others) typed =
      both body.home.program (objects_in first) (objects_in_list others) (objects_of_stmt body declares first typed.0) (objects_of_stmts body declares others typed.1)

-- ---- objects that become zero

module _ (names : Names) (types : ℕ → CTy) where
  zeroed_here : (program : CProgram) (numbers : List ℕ) → AreObjects program numbers → AreObjects program (zeroed_of names types numbers)
  zeroed_here program numbers are = by_test names.has_bits
    where
      by_test : (t : Bool) → AreObjects program (if t then filter (λ number. is_copied names (types number)) numbers else [])
      by_test true = filtered program (λ number. is_copied names (types number)) numbers are
      by_test false = tt

  zeroed_there : (program : CProgram) (declares : List ℕ) (number : ℕ) (puts : Option CPuts) → AreObjects program declares → Contains declares number → AreObjects program (zeroed_at names types number puts)
  zeroed_there program declares number puts are there =
      by_test (not names.has_bits && (is_copied names (types number) && leaves_bits_of names (types number) puts))
    where
      by_test : (t : Bool) → AreObjects program (if t then number ∷ [] else [])
      by_test true = (among_objects program declares number are (contains_among declares number there), tt)
      by_test false = tt

  mutual
    pub zeroed_stmt : (body : CBody) (declares : List ℕ) (s : CStmt) → IsTypedStmt body declares s → AreObjects body.home.program declares → AreObjects body.home.program (zeroed_in names types s)
    zeroed_stmt body declares (stmt place objects form) typed are =
        let own = block_objects body.home objects typed.0 in
        both body.home.program (zeroed_of names types objects) (zeroed_in_form names types form) (zeroed_here body.home.program objects own) (zeroed_form (with_objects objects body) declares objects form typed.1 are own)

    zeroed_form : (body : CBody) (declares objects : List ℕ) (form : CStmtForm) → IsTypedStmtForm body declares objects form → AreObjects body.home.program declares → AreObjects body.home.program objects →
        AreObjects body.home.program (zeroed_in_form names types form)
    zeroed_form body declares objects (label name inner) typed are own = zeroed_stmt body [] inner typed tt
    zeroed_form body declares objects (case value inner) typed are own = zeroed_stmt body [] inner typed.1 tt
    zeroed_form body declares objects (default inner) typed are own = zeroed_stmt body [] inner typed.1 tt
    zeroed_form body declares objects (block stmts) typed are own = zeroed_stmts body objects stmts typed own
    zeroed_form body declares objects (expression value) typed are own = tt
    zeroed_form body declares objects (if_then test inner otherwise) typed are own =
        both body.home.program (zeroed_in names types inner) (zeroed_in_else names types otherwise) (zeroed_stmt body [] inner typed.1 tt) (zeroed_else body otherwise typed.2)
    zeroed_form body declares objects (switch value inner) typed are own = zeroed_stmt (within_switch (type_of value) body) [] inner typed.2 tt
    zeroed_form body declares objects (while test inner) typed are own = zeroed_stmt (within_loop body) [] inner typed.1 tt
    zeroed_form body declares objects (do_while inner test) typed are own = zeroed_stmt (within_loop body) [] inner typed.0 tt
    zeroed_form body declares objects (for_loop first test next inner) typed are own =
        both body.home.program (zeroed_among names types first) (zeroed_in names types inner) (zeroed_stmts body objects first typed.1 own) (zeroed_stmt (within_loop body) [] inner typed.4 tt)
    zeroed_form body declares objects (goto name) typed are own = tt
    zeroed_form body declares objects continue typed are own = tt
    zeroed_form body declares objects break typed are own = tt
    zeroed_form body declares objects (returns value) typed are own = tt
    zeroed_form body declares objects (begin number puts) typed are own = zeroed_there body.home.program declares number puts are typed.0

    zeroed_else : (body : CBody) (otherwise : COtherwise) → IsTypedElse body otherwise → AreObjects body.home.program (zeroed_in_else names types otherwise)
    zeroed_else body no_else typed = tt
    zeroed_else body (else_do inner) typed = zeroed_stmt body [] inner typed tt

    zeroed_stmts : (body : CBody) (declares : List ℕ) (stmts : CStmts) → AreTypedStmts body declares stmts → AreObjects body.home.program declares → AreObjects body.home.program (zeroed_among names types stmts)
    zeroed_stmts body declares no_stmts typed are = tt
    zeroed_stmts body declares (more_stmts first others) typed are =
        both body.home.program (zeroed_in names types first) (zeroed_among names types others) (zeroed_stmt body declares first typed.0 are) (zeroed_stmts body declares others typed.1 are)
