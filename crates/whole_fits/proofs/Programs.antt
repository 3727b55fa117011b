-- The bodies and the initialisers of a linked program.
use Rattle.std.proofs.Common.{ℕ, suc, ◌<◌, List, [], ◌∷◌, length, Option, Some, None, IfSome, All, slice_index_or, arith}
use Rattle.build_flow_code.specs.Fits.{StmtFits}
use Rattle.build_flow_code.specs.Parts.{ContentsFit}
use Rattle.cx_core.specs.Linked.{home_of, IsStatic, IsTypedObject, IsLinked}
use Rattle.cx_core.specs.Statements.{body_of, IsDefinitionOf}
use Rattle.cx_core.specs.Trees.{CTyForm, void, basic, enum_type, pointer, array, record_type, function, form_of_type, CPuts, CObject, CFun, CProgram}
use Rattle.whole_texts.specs.Statics.{AllFit}
use Rattle.whole_fits.proofs.Trees.{puts_fit, stmt_fits}

module _ (program : CProgram) (linked : IsLinked program) where
  definition_fits : (one : CFun) (form : CTyForm) → IsDefinitionOf (home_of program None one.unit) one form → StmtFits one.body
  definition_fits one (function result params variadic) is = stmt_fits one.body (body_of (home_of program None one.unit) result one) [] linked.types is.body
  definition_fits one void is = absurd is
  definition_fits one (basic which) is = absurd is
  definition_fits one (enum_type number) is = absurd is
  definition_fits one (pointer to) is = absurd is
  definition_fits one (array element length) is = absurd is
  definition_fits one (record_type number) is = absurd is

  pub bodies_fit : All (λ (one : CFun). StmtFits one.body) program.functions
  bodies_fit = λ k d less. let one = slice_index_or program.functions k d in definition_fits one (form_of_type one.type) (linked.functions k d less).definition

  static_fits : (one : CObject) (puts : Option CPuts) → IfSome puts (IsStatic (home_of program None one.unit) one.type) → ContentsFit puts
  static_fits one None is = tt
  static_fits one (Some puts) is = puts_fit (home_of program None one.unit) linked.types one.type puts is.typed.0

  objects_fit : (objects : List CObject) → ((k : ℕ) (d : CObject) → k < length objects → IsTypedObject program None (slice_index_or objects k d)) → AllFit objects
  objects_fit [] are = tt
  objects_fit (one ∷ others) are = (static_fits one one.puts (are 0 one (omega arith)).static, objects_fit others (λ k d less. are (suc k) d (omega (arith, less))))

  pub initialisers_fit : AllFit program.objects
  initialisers_fit = objects_fit program.objects linked.objects
