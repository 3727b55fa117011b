use Rattle.std.proofs.Common.{List, ℕ, Option, ap, map, subst, ◌∙◌}
use Rattle.cx_core.specs.BitFields.{has_bit_fields}
use Rattle.cx_core.specs.Views.{view_function, view_object, view_types}
use Rattle.cx_core.specs.declared.program.CoreObject.{CoreObject}
use Rattle.cx_core.specs.declared.program.Fun.{Fun}
use Rattle.cx_core.specs.declared.program.Parts.{Parts}
use Rattle.rs_items.specs.Known.{MemberField, view_names}
use Rattle.whole_given.specs.Whole.{named}
use Rattle.whole_known.proofs.Kept.{base_is}
use Rattle.whole_known.specs.Stages.{KnowsMore, functions_put, objects_put}
use Rattle.whole_known.proofs.program.begin_program.Goals as goal

pub returns-clause-base : goal.returns-clause-base
returns-clause-base c =
    let whole = named c.args.whole.now in
    let new = view_names c.new-names.result in
    let types = view_names c.keep_types.new.names in
    let objects = view_names c.keep_objects.new.names in
    let functions = view_names c.keep_functions.new.names in
    base_is whole new types objects functions
    (c.new-names.ensures.bits ∙ c.has_bit_fields.ensures ∙ ap (λ (parts : Parts). has_bit_fields (view_types parts.types)) c.parts-parts.ensures)
    c.in_ok-keep_types.ensures
    (subst (λ (list : List CoreObject). KnowsMore types objects (objects_put whole (map view_object list) types.known))
    (c.as_slice.ensures ∙ ap (λ (parts : Parts). parts.objects) c.parts-parts.ensures) c.in_ok-keep_objects.ensures.known)
    (subst (λ (list : List Fun). KnowsMore objects functions (functions_put whole (map view_function list) objects.known))
    (c.as_slice-2.ensures ∙ ap (λ (parts : Parts). parts.functions) c.parts-parts.ensures) c.in_ok-keep_functions.ensures.known)

pub returns-clause-fields : goal.returns-clause-fields
returns-clause-fields c = λ number.
    ap (λ (fields : ℕ → Option (List MemberField)). fields number)
    (c.in_ok-keep_functions.ensures.known.rest.same_fields ∙ c.in_ok-keep_objects.ensures.known.rest.same_fields ∙ c.in_ok-keep_types.ensures.rest.same_fields)
    ∙ c.new-names.ensures.fields number
